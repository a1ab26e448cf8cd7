-- Each word represents the same offsets as its eight octets.
use Rattle.std.proofs.Common.{ℕ, ◌≡◌, ◌<◌, ◌+◌, ◌*◌, ◌/◌, ◌%◌, ◌∙◌, ap, arith, rules, get_or, [], ◌∷◌}
use Rattle.std.specs.Int.{bit_at}
use Rattle.wf_octets.specs.BitsView.{number_of_bits}
use Rattle.wf_octets.proofs.Words.{set_of-octets, set_of_is_offsets, bit_at-four}
use Rattle.wf_octets.proofs.bits.bits256.Bits256.of_octets.Goals as goal

pub returns-clause-shown : goal.returns-clause-shown
returns-clause-shown c = set_of-octets 256 _ c.args.octets (search rules) bits
  where
    at : ℕ → ℕ
    at i = bit_at (get_or c.args.octets (i / 8) 0) (i % 8)

    moved : (i k : ℕ) → bit_at (get_or c.args.octets (8 * k + i / 8) 0) (i % 8) ≡ at (i + 64 * k)
    moved i k = ap (λ n. bit_at (get_or c.args.octets n 0) (i % 8)) (omega arith)
        ∙ ap (λ n. bit_at (get_or c.args.octets ((i + 64 * k) / 8) 0) n) (omega arith)

    bits : (i : ℕ) → i < 256 → bit_at (number_of_bits 64
        (c.word_at.result ∷ c.word_at-2.result ∷ c.word_at-3.result ∷ c.word_at-4.result ∷ [])) i ≡ at i
    bits = bit_at-four c.word_at.result c.word_at-2.result c.word_at-3.result c.word_at-4.result at
        c.word_at.type_inv c.word_at-2.type_inv c.word_at-3.type_inv c.word_at-4.type_inv
        (λ i below. c.word_at.ensures i below ∙ ap (λ n. bit_at (get_or c.args.octets n 0) (i % 8))
        (omega arith))
        (λ i below. c.word_at-2.ensures i below ∙ moved i 1)
        (λ i below. c.word_at-3.ensures i below ∙ moved i 2)
        (λ i below. c.word_at-4.ensures i below ∙ moved i 3)

pub returns-clause-offsets : goal.returns-clause-offsets
returns-clause-offsets c = set_of_is_offsets 256 _
