-- The octets so far equal the words'.
use Rattle.std.proofs.Common.{ℕ, ◌≡◌, ◌<◌, ◌/◌, ◌%◌, get_or, w64}
use Rattle.std.specs.Int.{to_le_bytes}
use Rattle.wf_octets.proofs.bits.bits256.Bits256.to_octets.Given as goal

abbrev pub invariant-loop-i : goal.invariant-loop-i
invariant-loop-i l = (k : ℕ) → k < l.i → get_or l.octet-items k 0
    ≡ get_or (to_le_bytes w64 (get_or l.self-inside.words (k / 8) 0)) (k % 8) 0
