-- Proves that `Half::put_on_air` may add the exchange: its station is below 256.
use Rattle.std.proofs.Common.{◌≤◌, subst, arith}
use Rattle.wf_send_half_model.specs.Half.{TransmitValue}
use Rattle.wf_send_half.proofs.half.Half.put_on_air.Goals as goal

pub push-requires-clause-station : goal.push-requires-clause-station
push-requires-clause-station c = omega (
  arith,
  c.requires.within,
  subst (λ (z : TransmitValue). z.config.stations ≤ 256) c.self.view_is c.self.invariant.in_range.stations.1,
)
