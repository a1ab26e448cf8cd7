-- Proves that a burst with too few structs for its replies makes no call.
use Rattle.wf_c.proofs.Bursting.{no_path_call}
use Rattle.wf_c.proofs.burst.wf_path_burst.Goals as goal

pub returns-then-replies-calls-clause-made : goal.returns-then-replies-calls-clause-made
returns-then-replies-calls-clause-made c =
    no_path_call c.args.path.now.value c.args.calls.now c.args.replies.now c.requires.open
