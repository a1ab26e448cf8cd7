-- Proves that the line is the start and the bits, joined by spaces.
use Rattle.std.proofs.Common.{◌≡◌, ◌∷◌, [], ◌++◌, ap, arith}
use Rattle.std.specs.Prelude.{slice_index, codes, decimal}
use Rattle.wf_def_world.specs.Text.{score_digits}
use Rattle.wf_report.proofs.Rows.{joined_last}
use Rattle.wf_report.proofs.reply.push_answer.Goals as goal

pub returns : goal.returns
returns c =
    let same : c.from.result ≡ c.args.first = omega arith in
    rw (
      c.push-2.ensures,
      c.push_bits.ensures.text,
      c.push.ensures,
      c.push_words.ensures.text,
      c.push_all.ensures.octets,
      c.requires,
      same,
    )
    (ap (λ l. l ++ 10 ∷ []) (joined_last [] (codes "ba") (decimal c.args.first ∷ [])
    (score_digits (slice_index c.args.words.now 0) (slice_index c.args.words.now 1)
    (slice_index c.args.words.now 2) (slice_index c.args.words.now 3) c.args.wide)))
