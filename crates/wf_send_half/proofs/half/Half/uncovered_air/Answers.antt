-- Proves what `Half::uncovered_air` promises: the airtime that a quantum covers is small.
use Rattle.std.proofs.Common.{arith}
use Rattle.wf_send_half.proofs.CallSteps.{view_of}
use Rattle.wf_send_half.proofs.Weighing.{covered_fits, uncovered_is}
use Rattle.wf_send_half.proofs.half.Half.uncovered_air.Goals as goal

pub overflow_mul-covered : goal.overflow_mul-covered
overflow_mul-covered c = omega (
  arith,
  covered_fits c.args.self.now (view_of c.self.inside) c.self.view_is c.self.invariant.in_range c.args.class
      c.longest_computed.result c.longest_computed.ensures,
)

pub returns : goal.returns
returns c = uncovered_is c.args.self.now (view_of c.self.inside) c.self.view_is c.args.station c.args.class
    c.pending_air.result c.longest_computed.result c.saturating_sub.result c.pending_air.ensures
    c.longest_computed.ensures c.saturating_sub.ensures
