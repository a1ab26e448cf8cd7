-- Defines how the fields of an `AggregateSize` represent its value.
use Rattle.std.specs.Prelude.{◌≡◌, ◌≤◌, max}
use Rattle.wf_def_lists.specs.Bounds.{greatest_ampdu}
use Rattle.wf_def_air.specs.Airtime.{data_time}
use Rattle.wf_def_air.specs.Fit.{alone_at}
use Rattle.wf_air.specs.Rates.{longest_time, longest_single}
use Rattle.wf_air.specs.Sizes.{AggregateSizeValue}
use Rattle.wf_air.specs.declared.fit.AggregateSize.TheInside.{Inside}

abbrev pub value_of : Inside → AggregateSizeValue
value_of r = record {
  rate = r.rate;
  limits = r.limits;
  answers = r.answers;
  wide = r.wide;
  count = r.count;
  octets = r.octets;
}

-- the invariant: the frames fit
pub record IsSize (r : Inside) : Type 0 where
  pub octets_least : longest_single ≤ r.limits.octets
  pub octets_most : r.limits.octets ≤ greatest_ampdu
  pub frames_in : 1 ≤ r.limits.frames
  pub count_in : r.count ≤ r.limits.frames
  pub octets_in : r.octets ≤ r.limits.octets
  pub empty : r.count ≡ 0 → r.octets ≡ 0
  pub short : r.time ≤ longest_time
  pub timed : 1 ≤ r.count → r.time ≡ data_time r.rate r.octets
  pub timely : 1 ≤ r.count → data_time r.rate r.octets ≤ max r.limits.time (alone_at r.rate)
