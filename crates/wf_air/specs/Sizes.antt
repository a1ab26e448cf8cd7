-- Defines the size of an aggregate as contracts see it.
use Rattle.std.specs.Prelude.{◌≡◌, ℕ, nat_le, Bool, ◌&&◌, ◌==◌, max, List, length, if◌then◌else◌}
use Rattle.wf_def_air.specs.Airtime.{Rate, data_time}
use Rattle.wf_def_air.specs.Fit.{aggregate_octets, alone_at}
use Rattle.wf_air.specs.declared.fit.SizeLimits.{SizeLimits}

pub record AggregateSizeValue : Type 0 where
  pub rate : Rate
  pub limits : SizeLimits
  pub answers : ℕ
  pub wide : Bool
  pub count : ℕ
  pub octets : ℕ

abbrev pub empty_size : Rate → SizeLimits → ℕ → Bool → AggregateSizeValue
empty_size rate limits answers wide =
    record { rate = rate; limits = limits; answers = answers; wide = wide; count = 0; octets = 0 }

-- the aggregate has frames of these body lengths
pub record SizeStandsFor (room : AggregateSizeValue) (lens : List ℕ) : Type 0 where
  pub count : room.count ≡ length lens
  pub octets : room.octets ≡ aggregate_octets lens

-- the greatest data time in microseconds after one more frame: a single frame may take `alone_at` its rate
abbrev pub time_with_next : AggregateSizeValue → ℕ
time_with_next room = if room.count == 0 then max room.limits.time (alone_at room.rate) else room.limits.time

-- whether an aggregate of this many octets is within the limits of length and time
abbrev pub is_short : AggregateSizeValue → ℕ → Bool
is_short room octets = nat_le octets room.limits.octets
    && nat_le (data_time room.rate octets) (time_with_next room)
