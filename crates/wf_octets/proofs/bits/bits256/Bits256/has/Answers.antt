-- Offset i is in the set if bit i mod 64 of word i / 64 is 1.
use Rattle.std.proofs.Common.{sym, ap, ◌∙◌, nat_eq, ◌%◌, ◌^◌, ◌/◌, bit_and, get_or}
use Rattle.std.proofs.lemmas.Nat.Bits.{shr_and_one}
use Rattle.wf_def_lists.specs.Table.{has}
use Rattle.wf_octets.specs.BitsView.{number_of_bits}
use Rattle.wf_octets.proofs.Words.{has-set_of, bit_at-words}
use Rattle.wf_octets.proofs.bits.bits256.Bits256.has.Goals as goal

pub returns : goal.returns
returns c =
    ap (λ k. nat_eq (bit_and (get_or c.self.inside.words k 0 / 2 ^ (c.args.i % 64)) 1) 1) c.from.ensures
    ∙ ap (λ bit. nat_eq bit 1) (shr_and_one (get_or c.self.inside.words (c.args.i / 64) 0) (c.args.i % 64)
    ∙ sym (bit_at-words c.self.inside.words c.args.i c.self.invariant.1))
    ∙ sym (has-set_of 256 (number_of_bits 64 c.self.inside.words) c.args.i c.requires)
    ∙ ap (λ xs. has xs c.args.i) c.self.view_is
