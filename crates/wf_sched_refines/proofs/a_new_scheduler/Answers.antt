-- No station is live, and none is listed.
use Rattle.wf_sched_refines.proofs.Readings.{opening_stands}
use Rattle.wf_sched_refines.proofs.a_new_scheduler.Goals as goal

pub returns : goal.returns
returns c = opening_stands
