-- Proves that `Half::in_flight` may ask for the airtime in flight: there are at most 256 stations.
use Rattle.std.proofs.Common.{◌≤◌, subst, arith}
use Rattle.wf_send_half_model.specs.Half.{TransmitValue}
use Rattle.wf_send_half.proofs.half.Half.in_flight.Goals as goal

pub airtime_to-requires : goal.airtime_to-requires
airtime_to-requires c = omega (
  arith,
  c.requires.within,
  subst (λ (z : TransmitValue). z.config.stations ≤ 256) c.self.view_is c.self.invariant.in_range.stations.1,
)
