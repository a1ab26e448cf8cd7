-- Proves that the loop of `push_values` keeps its invariant: one more value is appended.
use Rattle.std.proofs.Common.{◌∙◌, arith}
use Rattle.wf_trace.proofs.PrintLaws.{more_values}
use Rattle.wf_trace.proofs.print.push_values.Goals as goal

pub loop-i-preserved : goal.loop-i-preserved
loop-i-preserved c = (
  rw (c.push_value.ensures.text, c.kind.ensures) (c.loop-i.invariant.0
      ∙ more_values c.loop-i.out c.args.arguments.now c.args.values.now c.loop-i.i _ _
      (omega (arith, c.requires.same, c.loop-i-test.true)) c.loop-i-test.true),
  omega (arith, c.push_value.ensures.len, c.loop-i.invariant.1),
  omega (arith, c.loop-i-test.true),
)
