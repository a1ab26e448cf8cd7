-- Proves what `offsets_of` promises: each step takes the next number into account. By cases: its index is
-- given, or not.
use Rattle.std.proofs.Common.{◌∙◌, arith}
use Rattle.wf_path.proofs.Batches.{offsets_taken, offsets_left}
use Rattle.wf_path.proofs.reading.offsets_of.Goals as goal
use Rattle.wf_path.proofs.reading.offsets_of.Goals.{then-has, else-has}

pub loop-i-preserved : goal.loop-i-preserved
loop-i-preserved c = elim c.if-has.branch [
  | then-has w ↦ offsets_taken c.args.first c.loop-i.i w.at.result w.ahead.result c.loop-i.offsets
      c.if-has.offsets c.args.numbers.now c.args.indices.now w.at.ensures (cc (w.if-has.true, c.has.ensures))
      w.ahead.ensures.number (w.offsets-is ∙ w.set.ensures.set) ∙ c.loop-i.invariant
  | else-has w ↦ offsets_left c.args.first c.loop-i.i c.loop-i.offsets c.if-has.offsets c.args.numbers.now
      c.args.indices.now (omega (arith, c.loop-i-test.true, c.len-i-end.ensures.count))
      (cc (w.if-has.false, c.has.ensures)) w.offsets-is ∙ c.loop-i.invariant
]
