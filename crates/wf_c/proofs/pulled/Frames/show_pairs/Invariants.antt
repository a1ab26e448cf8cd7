-- The invariant of the loop: the entries below i show their frames.
use Rattle.std.proofs.Common.{◌≡◌, ◌<◌, ℕ, slice_get, Some}
use Rattle.wf_c.specs.Pulled.{ShowsPair, pairs_shown}
use Rattle.wf_c.proofs.pulled.Frames.show_pairs.Given as goal

abbrev pub invariant-loop-i : goal.invariant-loop-i
invariant-loop-i l = (k : ℕ) (pair : ℕ × ℕ) → k < l.i →
    slice_get (pairs_shown l.batch l.pairs) k ≡ Some pair → ShowsPair l.self k pair
