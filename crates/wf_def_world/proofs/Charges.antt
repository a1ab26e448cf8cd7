-- Proves, by computing, how much two worked histories charge to a station between two of their moments.
use Rattle.std.proofs.Common.{◌≡◌, refl}
use Rattle.wf_frame.specs.Settings.{standard}
use Rattle.wf_frame.specs.declared.classes.Class.TheVariants.{Be}
use Rattle.wf_def_world.specs.Stretches.{charged_between}
use Rattle.wf_def_world.specs.Computed.{the_machine}
use Rattle.wf_def_world.proofs.Texts.{airtime_shared_small_calls, weight_three_against_one_calls}

pub slow_station_in_all : charged_between standard airtime_shared_small_calls 0 Be 0 97 ≡ 7736
unfolding the_machine
slow_station_in_all = refl

-- up to the end of the fifteenth exchange
pub fast_station_in_part : charged_between standard airtime_shared_small_calls 1 Be 31 93 ≡ 3864
unfolding the_machine
fast_station_in_part = refl

pub weighted_station_in_part : charged_between
    (record standard { agg = 1 }) weight_three_against_one_calls 1 Be 20 84 ≡ 2816
unfolding the_machine
weighted_station_in_part = refl
