-- Bit i after the shift is bit i + n before it, or 0 if n is 64.
use Rattle.std.proofs.Common.{ℕ, ◌≡◌, ◌<◌, ◌+◌, ◌∙◌, ap, sym, arith}
use Rattle.std.proofs.lemmas.Nat.Bits.{bit_at_above, bit_at-zero}
use Rattle.std.specs.Int.{bit_at}
use Rattle.wf_octets.specs.Offsets.{moved_down}
use Rattle.wf_octets.specs.BitsInverse.{bit_at-shr}
use Rattle.wf_octets.proofs.Words.{set_of-shifted, set_of_is_offsets}
use Rattle.wf_octets.proofs.bits.bits64.Bits64.shift.Goals as goal
use Rattle.wf_octets.proofs.bits.bits64.Bits64.shift.Goals.{then-n-lt64, else-n-lt64}

pub returns-clause-moved : goal.returns-clause-moved
returns-clause-moved c =
    set_of-shifted 64 c.self.inside.word c.if-n-lt64.self c.args.n bits c.self.invariant
    ∙ ap (moved_down c.args.n) c.self.view_is
  where
    bits : (i : ℕ) → i < 64 → bit_at c.if-n-lt64.self i ≡ bit_at c.self.inside.word (i + c.args.n)
    bits i below = elim c.if-n-lt64.branch [
      | then-n-lt64 w ↦ ap (λ m. bit_at m i) w.self-is ∙ bit_at-shr c.self.inside.word c.args.n i
      | else-n-lt64 w ↦ ap (λ m. bit_at m i) w.self-is ∙ bit_at-zero i
          ∙ sym (bit_at_above c.self.inside.word 64 (i + c.args.n) c.self.invariant (omega arith))
    ]

pub returns-clause-offsets : goal.returns-clause-offsets
returns-clause-offsets c = set_of_is_offsets 64 c.if-n-lt64.self
