-- Proves that the loop appends the ids, one per step, and that the line has room for them.
use Rattle.std.proofs.Common.{◌∷◌, [], length, ap, arith, length-append}
use Rattle.std.specs.Prelude.{decimal}
use Rattle.wf_report.proofs.Rows.{more_spaced}
use Rattle.wf_report.proofs.reply.push_ids.Goals as goal

pub loop-i-preserved : goal.loop-i-preserved
loop-i-preserved c = (
  rw (c.push_number.ensures.digits, c.push.ensures, c.loop-i.invariant.0)
      (more_spaced decimal c.args.ids.now c.loop-i.i c.at.result c.args.out.now c.at.ensures),
  omega (
    arith,
    c.push_number.ensures.len,
    ap length c.push.ensures,
    length-append c.loop-i.out (32 ∷ []),
    c.loop-i.invariant.1,
  ),
)
