-- Setting bit i mod 64 of word i / 64 adds offset i to the set.
use Rattle.std.proofs.Common.{◌∙◌, ap}
use Rattle.wf_def_lists.specs.Table.{with_member}
use Rattle.wf_octets.proofs.Words.{set_of_is_offsets, set_of-set_word, length-set_word, small-set_word}
use Rattle.wf_octets.proofs.bits.bits256.Bits256.set.Goals as goal

pub invariant_of-self : goal.invariant_of-self
invariant_of-self c = (
  length-set_word c.self.inside.words c.from.result c.args.i c.self.told,
  small-set_word c.self.inside.words c.from.result c.args.i c.self.invariant.1,
)

pub returns-clause-set : goal.returns-clause-set
returns-clause-set c =
    set_of-set_word c.self.inside.words c.from.result c.args.i c.requires c.self.told c.self.invariant.1
    c.from.ensures
    ∙ ap (with_member c.args.i) c.self.view_is

pub returns-clause-offsets : goal.returns-clause-offsets
returns-clause-offsets c = set_of_is_offsets 256 _
