-- Defines CoDel's TARGET and INTERVAL (RFC 8289, 5.3), in microseconds, for the rate at which a station is
-- sent to. The values are this project's own. They are greater than the RFC's, because a frame waits for
-- the medium and for the other frames of its aggregate.
use Rattle.std.specs.Prelude.{ℕ, nat_lt, Bool, if◌then◌else◌}
use Rattle.wf_def_air.specs.Airtime.{Rate, kbps}
use Rattle.wf_def_codel.specs.Codel.{Params}

-- The TARGET of a station that is not slow: 20 ms.
abbrev pub usual_target : ℕ
usual_target = 20000

-- The INTERVAL of a station that is not slow: 100 ms.
abbrev pub usual_interval : ℕ
usual_interval = 100000

-- The TARGET of a slow station: 50 ms.
abbrev pub slow_target : ℕ
slow_target = 50000

-- The INTERVAL of a slow station: 300 ms.
abbrev pub slow_interval : ℕ
slow_interval = 300000

-- A station is slow if its rate is below this, in kbit/s.
abbrev pub slow_below : ℕ
slow_below = 12000

-- Returns whether a station at this rate is slow.
abbrev pub is_slow : Rate → Bool
is_slow r = nat_lt (kbps r) slow_below

-- Returns CoDel's parameters for a rate.
abbrev pub params_at : Rate → Params
params_at rate =
    if is_slow rate then record { target = slow_target; interval = slow_interval }
    else record { target = usual_target; interval = usual_interval }
