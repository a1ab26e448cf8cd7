-- The invariant of the loop: the entries below i show their ids.
use Rattle.std.proofs.Common.{◌≡◌, ◌<◌, ℕ, slice_get, slice_index, Some}
use Rattle.wf_c.proofs.cell.answers.PassedUp.show_ids.Given as goal

abbrev pub invariant-loop-i : goal.invariant-loop-i
invariant-loop-i l = (k id : ℕ) → k < l.i → slice_get l.ids k ≡ Some id → slice_index l.self.ids k ≡ id
