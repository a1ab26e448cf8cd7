-- Setting bit i of the word adds offset i to the set.
use Rattle.std.proofs.Common.{◌∙◌, ap, arith, bit_or}
use Rattle.std.proofs.lemmas.Nat.{or_lt, one_shl, pow_below}
use Rattle.wf_def_lists.specs.Table.{with_member}
use Rattle.wf_octets.specs.BitsView.{set_of}
use Rattle.wf_octets.proofs.Words.{set_of-or_pow, set_of_is_offsets}
use Rattle.wf_octets.proofs.bits.bits64.Bits64.set.Goals as goal

pub invariant_of-self : goal.invariant_of-self
invariant_of-self c =
    or_lt 64 c.self.inside.word _ c.self.invariant
    (omega (arith, one_shl c.args.i 64 c.requires, pow_below c.args.i 64 c.requires))

pub returns-clause-set : goal.returns-clause-set
returns-clause-set c =
    ap (λ power. set_of 64 (bit_or c.self.inside.word power)) (one_shl c.args.i 64 c.requires)
    ∙ set_of-or_pow 64 c.self.inside.word c.args.i c.requires ∙ ap (with_member c.args.i) c.self.view_is

pub returns-clause-offsets : goal.returns-clause-offsets
returns-clause-offsets c = set_of_is_offsets 64 _
