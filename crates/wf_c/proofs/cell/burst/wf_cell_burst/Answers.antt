-- Proves that a burst with too few structs for its replies makes no call.
use Rattle.wf_c.proofs.Bursting.{no_cell_call}
use Rattle.wf_c.proofs.cell.burst.wf_cell_burst.Goals as goal

pub returns-then-replies-calls-clause-made : goal.returns-then-replies-calls-clause-made
returns-then-replies-calls-clause-made c =
    no_cell_call c.args.caller c.args.cell.now.value c.args.calls.now c.args.replies.now c.requires.open
