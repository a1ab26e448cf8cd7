-- Proves the contract of `Opened::airtime_to`: the airtime is at the place of its station and class.
use Rattle.std.proofs.Common.{arith}
use Rattle.wf_send_parts.proofs.Airtime.{place_below}
use Rattle.wf_send_parts.proofs.exchanges.opened.Opened.airtime_to.Goals as goal

pub index-requires : goal.index-requires
index-requires c = omega (
  arith,
  c.airtime_place.ensures,
  c.self.invariant.sums.places,
  place_below c.args.station c.args.class c.requires,
)
