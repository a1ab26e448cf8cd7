-- Proves that `refill` keeps the invariant of a cutter.
use Rattle.std.proofs.Common.{arith}
use Rattle.std.proofs.lemmas.Grind.{common_steps}
use Rattle.wf_trace.proofs.ScanLaws.{ends_at}
use Rattle.wf_trace.proofs.cut.Cut.refill.Goals as goal

pub invariant_of-self-2 : goal.invariant_of-self-2
invariant_of-self-2 g c = (
  omega arith,
  grind (arith, common_steps),
  grind (arith, common_steps),
  c.self.invariant.3,
  ends_at _ _ _ (grind (arith, common_steps)) (rw
      (c.deref.ensures.value) at c.lines_len-self-inside.ensures.within)
      (rw (c.deref.ensures.value) at c.lines_len-self-inside.ensures.behind)
      (rw (c.deref.ensures.value) at c.lines_len-self-inside.ensures.end),
  c.self.invariant.5,
  c.self.invariant.6,
)
