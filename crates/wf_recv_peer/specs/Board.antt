-- Defines the recipient's scoreboard of one block acknowledgement agreement, for every sequence of numbers
-- (IEEE 802.11-2012, 9.21.7.3 to 9.21.7.5). All comparisons are modulo 4096: `distance` says how far a number
-- is past the start, and a number more than 2047 past it counts as before it.
use Rattle.std.specs.Prelude.{ℕ, ◌+◌, ◌-◌, ◌%◌, nat_lt, nat_le, List, [], if◌then◌else◌}
use Rattle.wf_def_lists.specs.Table.{with_member}
use Rattle.wf_octets.specs.Offsets.{moved_down}
use Rattle.wf_octets.specs.Distance.{distance}

pub record Board : Type 0 where
  pub start : ℕ  -- 0 to 4095
  pub size : ℕ  -- of the window
  pub offsets : List ℕ  -- how far past the start each arrived number of the window is, rising

abbrev pub empty_board : ℕ → ℕ → Board
empty_board start size = record { start = start; size = size; offsets = [] }

-- the number d past the start is marked as arrived
abbrev pub with_arrived_at : ℕ → Board → Board
with_arrived_at d b = record b { offsets = with_member d b.offsets }

-- the start moves on by n; a number that stays in the window keeps its mark, and a new one has not arrived
abbrev pub with_start_moved : ℕ → Board → Board
with_start_moved n b = record b { start = (b.start + n) % 4096; offsets = moved_down n b.offsets }

-- a number arrives, d past the start: it is in the window, or the window moves so that it is the last one, or
-- it is before the window and changes nothing
abbrev pub after_number_at : ℕ → Board → Board
after_number_at d b =
    if nat_lt d b.size then with_arrived_at d b
    else (if nat_le d 2047 then with_arrived_at (b.size - 1) (with_start_moved (d + 1 - b.size) b) else b)

abbrev pub after_number : ℕ → Board → Board
after_number n b = after_number_at (distance n b.start) b

-- a BlockAckReq arrives whose start is d past this one: the window moves to it, or it is before the window
-- and changes nothing
abbrev pub after_start_at : ℕ → Board → Board
after_start_at d b = if nat_le d 2047 then with_start_moved d b else b

abbrev pub after_start : ℕ → Board → Board
after_start start b = after_start_at (distance start b.start) b
