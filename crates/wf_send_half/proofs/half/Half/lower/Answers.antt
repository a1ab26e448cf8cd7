-- Proves what `Half::lower` promises: the difference of the quantum and of the airtime is small.
use Rattle.std.proofs.Common.{arith}
use Rattle.wf_send_half.proofs.CallSteps.{view_of}
use Rattle.wf_send_half.proofs.Standings.{difference_fits, difference_low, difference_plain}
use Rattle.wf_send_half.proofs.Weighing.{lowered_is}
use Rattle.wf_send_half.proofs.half.Half.lower.Goals as goal

pub overflow_sub-most : goal.overflow_sub-most
overflow_sub-most c = difference_fits c.from.result c.from-2.result c.args.quantum c.uncovered_air.result
    (omega (arith, c.ranges.quantum)) (omega (arith, c.uncovered_air.type_inv)) c.from.ensures
    c.from-2.ensures

pub lower-requires-clause-low : goal.lower-requires-clause-low
lower-requires-clause-low c = difference_low c.from.result c.from-2.result c.args.quantum
    c.uncovered_air.result (omega (arith, c.ranges.quantum)) (omega (arith, c.uncovered_air.type_inv))
    c.from.ensures c.from-2.ensures

pub returns : goal.returns
returns c = lowered_is c.args.self.now (view_of c.self.inside) c.self.view_is c.args.station c.args.quantum
    c.args.class c.uncovered_air.result _ c.lower.new.self c.uncovered_air.ensures
    (difference_plain c.from.result c.from-2.result c.args.quantum c.uncovered_air.result
    (omega (arith, c.ranges.quantum)) (omega (arith, c.uncovered_air.type_inv)) c.from.ensures
    c.from-2.ensures) c.lower.ensures
