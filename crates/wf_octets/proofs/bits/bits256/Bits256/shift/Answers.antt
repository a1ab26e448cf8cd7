-- Bit i after the shift is bit i + n before it, word by word.
use Rattle.std.proofs.Common.{ℕ, ◌≡◌, ◌<◌, ◌+◌, ◌/◌, ◌%◌, ◌∙◌, ap, sym, arith, get_or, [], ◌∷◌}
use Rattle.std.specs.Int.{bit_at}
use Rattle.wf_octets.specs.Offsets.{moved_down}
use Rattle.wf_octets.specs.BitsView.{number_of_bits}
use Rattle.wf_octets.proofs.Words.{set_of-shifted, set_of_is_offsets, bit_at-four, bit_at-words, four_words-lt}
use Rattle.wf_octets.proofs.bits.bits256.Bits256.shift.Goals as goal

pub returns-clause-moved : goal.returns-clause-moved
returns-clause-moved c = set_of-shifted 256 (number_of_bits 64 c.self.inside.words) _ c.args.n bits
    (four_words-lt c.self.inside.words c.self.invariant.0 c.self.invariant.1)
    ∙ ap (moved_down c.args.n) c.self.view_is
  where
    at : ℕ → ℕ
    at i = bit_at (get_or c.self.inside.words ((i + c.args.n) / 64) 0) ((i + c.args.n) % 64)

    moved : (i from far : ℕ) → i + from ≡ i + far + c.args.n →
        bit_at (get_or c.self.inside.words ((i + from) / 64) 0) ((i + from) % 64) ≡ at (i + far)
    moved i from far same = ap (λ n. bit_at (get_or c.self.inside.words (n / 64) 0) (n % 64)) same

    bits : (i : ℕ) → i < 256 → bit_at (number_of_bits 64
        (c.word_from.result ∷ c.word_from-2.result ∷ c.word_from-3.result ∷ c.word_from-4.result ∷ [])) i
        ≡ bit_at (number_of_bits 64 c.self.inside.words) (i + c.args.n)
    bits i below = bit_at-four c.word_from.result c.word_from-2.result c.word_from-3.result
        c.word_from-4.result at c.word_from.type_inv c.word_from-2.type_inv c.word_from-3.type_inv
        c.word_from-4.type_inv
        (λ i below. c.word_from.ensures i below ∙ ap (λ n.
        bit_at (get_or c.self.inside.words (n / 64) 0) (n % 64)) (omega arith))
        (λ i below. c.word_from-2.ensures i below ∙ moved i _ 64 (omega arith))
        (λ i below. c.word_from-3.ensures i below ∙ moved i _ 128 (omega arith))
        (λ i below. c.word_from-4.ensures i below ∙ moved i _ 192 (omega arith))
        i below ∙ sym (bit_at-words c.self.inside.words (i + c.args.n) c.self.invariant.1)

pub returns-clause-offsets : goal.returns-clause-offsets
returns-clause-offsets c = set_of_is_offsets 256 _
