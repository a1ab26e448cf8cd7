-- The clause is a law of Weights.
use Rattle.wf_sched_refines.proofs.Weights.{weight_stands}
use Rattle.wf_sched_refines.proofs.a_weight.Goals as goal

pub returns : goal.returns
returns c = record { weighed = weight_stands }
