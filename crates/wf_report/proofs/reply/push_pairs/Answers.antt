-- Proves that the loop appends the pairs, one per step, and that the line has room for them.
use Rattle.std.proofs.Common.{◌++◌, ◌∷◌, [], length, take, ap, ◌∙◌, arith, length-append}
use Rattle.std.specs.Prelude.{decimal, map}
use Rattle.wf_io.specs.Words.{spaced}
use Rattle.wf_report.specs.Replies.{pair_text}
use Rattle.wf_report.proofs.Rows.{three, more_spaced}
use Rattle.wf_report.proofs.reply.push_pairs.Goals as goal

pub loop-i-preserved : goal.loop-i-preserved
loop-i-preserved c = (
  rw (
    c.push_short.ensures.text,
    c.push-in-loop-i.ensures,
    c.push_number.ensures.digits,
    c.push.ensures,
    c.loop-i.invariant.0,
  )
      (three ((c.args.out.now ++ spaced (map pair_text (take c.loop-i.i c.args.pairs.now))) ++ 32 ∷ [])
      (decimal c.at-id.result.0) (58 ∷ []) (decimal c.at-id.result.1)
      ∙ more_spaced pair_text c.args.pairs.now c.loop-i.i c.at-id.result c.args.out.now c.at-id.ensures),
  omega (
    arith,
    c.push_short.ensures.len,
    ap length c.push-in-loop-i.ensures,
    length-append c.push_number.new.self (58 ∷ []),
    c.push_number.ensures.len,
    ap length c.push.ensures,
    length-append c.loop-i.out (32 ∷ []),
    c.loop-i.invariant.1,
  ),
)
