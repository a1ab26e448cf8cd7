-- The word is determined by the set.
use Rattle.std.proofs.Common.{ap, ◌∙◌, sym, subst}
use Rattle.wf_def_lists.specs.Table.{bits_word}
use Rattle.wf_octets.specs.Offsets.{IsOffsets}
use Rattle.wf_octets.specs.BitsInverse.{word_of_one}
use Rattle.wf_octets.proofs.Words.{set_of_is_offsets}
use Rattle.wf_octets.proofs.bits.bits64.Bits64.word.Goals as goal

pub returns-clause-word : goal.returns-clause-word
returns-clause-word c = sym (word_of_one c.self.inside.word c.self.invariant)
    ∙ ap (bits_word 0) c.self.view_is

pub returns-clause-offsets : goal.returns-clause-offsets
returns-clause-offsets c = subst (IsOffsets 64) c.self.view_is (set_of_is_offsets 64 c.self.inside.word)
