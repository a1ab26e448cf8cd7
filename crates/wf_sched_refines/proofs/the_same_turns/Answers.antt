-- The agreement reads only these parts of a world.
use Rattle.wf_sched_refines.proofs.Unchanged.{same_turns}
use Rattle.wf_sched_refines.proofs.the_same_turns.Goals as goal

pub returns : goal.returns
returns c = same_turns
