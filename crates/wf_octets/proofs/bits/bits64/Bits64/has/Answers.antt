-- Offset i is in the set if bit i of the word is 1.
use Rattle.std.proofs.Common.{sym, ap, ◌∙◌, nat_eq}
use Rattle.std.proofs.lemmas.Nat.Bits.{shr_and_one}
use Rattle.wf_def_lists.specs.Table.{has}
use Rattle.wf_octets.proofs.Words.{has-set_of}
use Rattle.wf_octets.proofs.bits.bits64.Bits64.has.Goals as goal

pub returns : goal.returns
returns c =
    ap (λ bit. nat_eq bit 1) (shr_and_one c.self.inside.word c.args.i)
    ∙ sym (has-set_of 64 c.self.inside.word c.args.i c.requires)
    ∙ ap (λ xs. has xs c.args.i) c.self.view_is
