-- The frames take no longer without an agreement than in an aggregate, and an Ack no longer than the longest
-- BlockAck.
use Rattle.std.proofs.Common.{◌≤◌, ap, arith}
use Rattle.std.specs.Prelude.{max}
use Rattle.wf_def_air.specs.Airtime.{legacy_of, longest_answer}
use Rattle.wf_def_air.specs.Fit.{alone_at}
use Rattle.wf_def_air.proofs.Times.{time_less}
use Rattle.wf_air.specs.Sizes.{AggregateSizeValue}
use Rattle.wf_air.proofs.fit.AggregateSize.plain_air.Goals as goal

pub returns-clause-most : goal.returns-clause-most
returns-clause-most c =
    let q = c.self.inside in
    let some : 1 ≤ q.count =
    omega (arith, c.requires, ap (λ (v : AggregateSizeValue). v.count) c.self.view_is) in
    omega (
      arith,
      c.plain_charge.ensures.most,
      time_less q.rate c.plain_octets-octets.result q.octets c.plain_octets-octets.ensures.most,
      c.self.invariant.timely some,
      ap (λ (v : AggregateSizeValue). max v.limits.time (alone_at v.rate)) c.self.view_is,
      ap (λ (v : AggregateSizeValue). longest_answer v.answers (legacy_of v.rate)) c.self.view_is,
    )
