-- Defines a look at a frame and the start of dropping (RFC 8289, section 5.5) by the numbers that the code
-- reads.
use Rattle.std.specs.Prelude.{ℕ, ◌+◌, ◌-◌, ◌==◌, ◌*◌, nat_lt, nat_le, false, ◌||◌, ◌&&◌, if◌then◌else◌}
use Rattle.wf_def_codel.specs.Codel.{Params, Codel, Look, max_packet, recent_intervals, begin_dropping}

-- a look at a frame with this stamp and these octets after it
abbrev pub look_by : Params → ℕ → ℕ → ℕ → ℕ → Look
look_by p now above stamp left =
    if nat_lt (now - stamp) p.target || nat_le left max_packet then record { first_above = 0; ok = false }
    else (if above == 0 then record { first_above = now + p.interval; ok = false }
    else record { first_above = above; ok = nat_le above now })

-- the count with which dropping begins again
abbrev pub count_again : Params → ℕ → ℕ → ℕ → ℕ → ℕ
count_again p now count last due =
    if nat_lt 1 (count - last) && nat_lt (now - due) (recent_intervals * p.interval) then count - last else 1

-- dropping begins
abbrev pub started : Params → ℕ → Codel → ℕ → Codel
started p now c above = begin_dropping p now c (record { first_above = above; ok = false })
