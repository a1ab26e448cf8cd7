-- Proves what `check_tick` promises: its test is the only row of the world's refusals of a Tick.
use Rattle.std.proofs.Common.{◌∙◌, refl}
use Rattle.wf_send_half.proofs.Rows.{last_row}
use Rattle.wf_send_half.proofs.refuse.check_tick.Goals as goal

pub returns : goal.returns
returns c w = c.refuse_where.ensures.refused ∙ last_row _ _ _ refl
