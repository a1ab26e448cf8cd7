-- Proves that the line is the word and the number, joined by a space.
use Rattle.std.proofs.Common.{◌∷◌, [], ◌++◌, ap, append_assoc}
use Rattle.std.specs.Prelude.{decimal}
use Rattle.wf_report.proofs.reply.push_numbered.Goals as goal

pub returns : goal.returns
returns c = rw (
  c.push-2.ensures,
  c.push_number.ensures.digits,
  c.push.ensures,
  c.push_all.ensures.octets,
  c.requires.empty,
) (ap (λ l. l ++ 10 ∷ []) (append_assoc c.args.word.now (32 ∷ []) (decimal c.args.number)))
