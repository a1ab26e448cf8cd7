-- Each clause is a law of Picks.
use Rattle.wf_sched_refines.proofs.Picks.{tells_listed, pick_same, pick_stands}
use Rattle.wf_sched_refines.proofs.a_pick.Goals as goal

pub returns-clause-tells : goal.returns-clause-tells
returns-clause-tells c = tells_listed

pub returns-clause-same : goal.returns-clause-same
returns-clause-same c = pick_same

pub returns-clause-stands : goal.returns-clause-stands
returns-clause-stands c = pick_stands
