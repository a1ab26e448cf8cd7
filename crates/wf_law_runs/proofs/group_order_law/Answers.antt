-- Proves `group_order_law` (lib.rt) from the lemmas.
use Rattle.wf_law_runs.proofs.Groups.Orders.{order_law}
use Rattle.wf_law_runs.proofs.group_order_law.Goals as goal

pub returns : goal.returns
returns c = order_law
