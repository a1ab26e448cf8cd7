-- The words are determined by the set.
use Rattle.std.proofs.Common.{ap, ◌∙◌, sym, subst, get_or}
use Rattle.wf_def_lists.specs.Table.{bits_word}
use Rattle.wf_octets.specs.Offsets.{IsOffsets}
use Rattle.wf_octets.specs.BitsView.{number_of_bits}
use Rattle.wf_octets.specs.BitsInverse.{word_of_four}
use Rattle.wf_octets.proofs.Words.{set_of_is_offsets}
use Rattle.wf_octets.proofs.bits.bits256.Bits256.word.Goals as goal

pub returns-clause-word : goal.returns-clause-word
returns-clause-word c =
    ap (λ k. get_or c.self.inside.words k 0) c.from.ensures
    ∙ sym (word_of_four c.self.inside.words c.args.i c.requires c.self.invariant.1)
    ∙ ap (bits_word c.args.i) c.self.view_is

pub returns-clause-offsets : goal.returns-clause-offsets
returns-clause-offsets c = subst (IsOffsets 256) c.self.view_is
    (set_of_is_offsets 256 (number_of_bits 64 c.self.inside.words))
