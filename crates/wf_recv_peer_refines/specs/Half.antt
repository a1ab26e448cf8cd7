-- Defines when the receive half of one agreement, with sequence numbers of 12 bits, represents a receiver,
-- whose numbers are unbounded (IEEE 802.11-2012, 9.21.7.3 to 9.21.7.6).
--
-- For a receiver r, `release_start r` is the least number that has not arrived and is at or past every start
-- that did, and `score_start r` is the start of its scoreboard.
use Rattle.std.specs.Prelude.{◌≡◌, true, ℕ, ◌+◌, ◌%◌, ◌<◌, ◌≤◌, List, map, Option, Some, None, if◌then◌else◌}
use Rattle.wf_def_lists.specs.Table.{has, count_from}
use Rattle.wf_def_agreement.specs.Receiver.{Receiver, with_start, release_start, score_start, score}
use Rattle.wf_octets.specs.Offsets.{RisesBetween}
use Rattle.wf_octets.specs.Distance.{distance}
use Rattle.wf_recv_peer.specs.Board.{Board}
use Rattle.wf_recv_peer.specs.Buffer.{Buffer}

-- the scoreboard that represents r: its start modulo 4096, and how far past it each arrived number of the
-- window is
abbrev pub board_of : Receiver → Board
board_of r = record { start = score_start r % 4096; size = r.size; offsets = (score r).offsets }

-- the id that is stored for the number n, if n is among those that arrived
abbrev pub stored_of : (ℕ → ℕ) → List ℕ → ℕ → Option ℕ
stored_of ids arrived n = if has arrived n then Some (ids n) else None

-- the buffer that represents r, if number n has the id `ids n`: its start modulo 4096, and the stored id of
-- each number of the window
abbrev pub buffer_of : ℕ → (ℕ → ℕ) → Receiver → Buffer
buffer_of capacity ids r =
    record {
      capacity = capacity;
      start = release_start r % 4096;
      size = r.size;
      places =
          map (stored_of ids r.arrived) (count_from (release_start r) r.size);
    }

-- The invariant of a receiver at which only numbers within reach arrive: its numbers rise, the last one is in
-- the scoreboard's window, and the scoreboard starts at or below the next number to be passed up.
pub record IsOrderly (r : Receiver) : Type 0 where
  pub least : 1 ≤ r.size
  pub most : r.size ≤ 256
  pub rising : RisesBetween 0 (score_start r + r.size) r.arrived
  pub score_release : score_start r ≤ release_start r

-- a receive half represents a receiver whose numbers have these ids
pub record ReceiveHalfStandsFor (ids : ℕ → ℕ) (r : Receiver) (board : Board) (buffer : Buffer) : Type 0 where
  pub receiver : IsOrderly r
  pub scoreboard : board ≡ board_of r
  pub reordering : buffer ≡ buffer_of buffer.capacity ids r

-- the receiver after an agreement begins or ends: it got this start, and its window has this size
abbrev pub resized : ℕ → ℕ → Receiver → Receiver
resized f size r = record (with_start f r) { size = size }

-- Nothing is left to arrive below f: it is at or past the next number to be passed up, and past each number
-- that arrived. Both hold for the start of a session whose numbers are all settled.
pub record IsPastAll (r : Receiver) (f : ℕ) : Type 0 where
  pub release : release_start r ≤ f
  pub arrived : (n : ℕ) → has r.arrived n ≡ true → n < f

-- A number that may arrive in a frame: it is at or past the scoreboard's start, and less than a window past
-- the next number to be passed up. The window law says both for each number in flight.
pub record IsInReach (r : Receiver) (n : ℕ) : Type 0 where
  pub score : score_start r ≤ n
  pub release : n < release_start r + r.size

-- A start that may arrive in a BlockAckReq: it is at most a window below the scoreboard's start, and at most
-- a window past the next number to be passed up. The window law says both for the start of each open request.
pub record IsRequestInReach (r : Receiver) (f : ℕ) : Type 0 where
  pub score : score_start r ≤ f + r.size
  pub release : f ≤ release_start r + r.size

-- the 12 bits of n and b compare as n and b do: n is as far ahead, or more than 2047 ahead if it is below b
pub record ComparesRight (n b : ℕ) : Type 0 where
  pub ahead : b ≤ n → b + distance (n % 4096) (b % 4096) ≡ n
  pub near : b ≤ n → distance (n % 4096) (b % 4096) ≤ 2047
  pub behind : n < b → 2047 < distance (n % 4096) (b % 4096)

-- all comparisons that the half makes, of a number or of a start, agree with the unbounded numbers
pub record ComparesBoth (r : Receiver) (n : ℕ) : Type 0 where
  pub score : ComparesRight n (score_start r)
  pub release : ComparesRight n (release_start r)
