-- Defines the reordering of one TID, with sequence numbers that have no bound (IEEE 802.11-2012, 9.21.7.6).
-- The time limit is this project's own.
use Rattle.std.specs.Prelude.{ℕ, ◌+◌, ◌-◌, ◌==◌, nat_lt, nat_le, ◌&&◌, ◌||◌, not, Bool, true, false, List, [], ◌∷◌, ◌++◌, Option, Some, None, if◌then◌else◌}
use Rattle.wf_octets.specs.Distance.{distance}

-- a frame that waits until the numbers below its own are passed
pub record Stored : Type 0 where
  pub number : ℕ
  pub id : ℕ  -- how many frames were accepted before it

pub record Reordering : Type 0 where
  pub start : ℕ  -- B: the least number that is not passed yet
  pub window : ℕ  -- how many numbers from B on may be stored
  pub stored : List Stored  -- in the order of their numbers
  pub since : ℕ  -- when the wait began, in microseconds; no meaning if nothing is stored

-- an item: a frame that is released, or the `count` numbers from `from` on, which are given up
pub data Passed : Type 0 where
  Released : (id : ℕ) → (number : ℕ) → Passed
  GivenUp : (from : ℕ) → (count : ℕ) → Passed

-- the outcome of a frame or a timeout
pub record ReorderingOutcome : Type 0 where
  pub passed : List Passed  -- in the order of the numbers
  pub old : Bool  -- whether the frame is old: passed before, or stored already
  pub after : Reordering

-- nothing is passed or stored, and the first number is `start`
abbrev pub new_reordering : ℕ → ℕ → Reordering
new_reordering start window = record { start = start; window = window; stored = []; since = 0 }

-- the reordering of a station that is not open
abbrev pub unopened : Reordering
unopened = new_reordering 0 256

-- The number with these twelve bits when B is b: the one from b - 2048 to b + 2047 that is equal to them
-- modulo 4096, if it is not below b.
abbrev pub number_read : ℕ → ℕ → Option ℕ
number_read bits b = if nat_le (distance bits b) 2047 then Some (b + distance bits b) else None

-- ---- the list of the stored frames

abbrev pub is_none_stored : List Stored → Bool
is_none_stored [] = true
is_none_stored (x ∷ later) = false

abbrev pub is_stored : ℕ → List Stored → Bool
is_stored n [] = false
is_stored n (x ∷ later) = (x.number == n) || is_stored n later

-- the list with one more frame, in the order of the numbers
abbrev pub with_stored : Stored → List Stored → List Stored
with_stored new [] = new ∷ []
with_stored new (x ∷ later) = if nat_lt new.number x.number then new ∷ x ∷ later
    else x ∷ with_stored new later

-- the frames from number n on
abbrev pub stored_from : ℕ → List Stored → List Stored
stored_from n [] = []
stored_from n (x ∷ later) = if nat_lt x.number n then stored_from n later else x ∷ later

-- the least number stored, if any
abbrev pub first_number : List Stored → Option ℕ
first_number [] = None
first_number (x ∷ later) = Some x.number

-- the least number stored, or b if none is
abbrev pub least_stored : ℕ → List Stored → ℕ
least_stored b [] = b
least_stored b (x ∷ later) = x.number

-- the first number from n on that is not stored, if all stored numbers are at least n
abbrev pub first_hole : ℕ → List Stored → ℕ
first_hole n [] = n
first_hole n (x ∷ later) = if x.number == n then first_hole (n + 1) later else n

-- ---- B moves

-- the numbers from `from` to below `to` are given up, if there are any
abbrev pub gap : ℕ → ℕ → List Passed
gap from to = if nat_lt from to then GivenUp from (to - from) ∷ [] else []

-- the items for the numbers from `from` to below `to`: each number that is stored is released, and each
-- longest run of others is given up as one gap
abbrev pub holes_told : ℕ → ℕ → List Stored → List Passed
holes_told from to [] = gap from to
holes_told from to (x ∷ later) =
    if nat_lt x.number to then gap from x.number ++
    (Released x.id x.number ∷ holes_told (x.number + 1) to later) else gap from to

abbrev pub passed_to : ℕ → Reordering → ReorderingOutcome
passed_to b r =
    record {
      passed = holes_told r.start b r.stored;
      old = false;
      after =
          record r { start = b; stored = stored_from b r.stored };
    }

-- B moves to n, as by a BlockAckReq: the stored frames below n are released, and those from n on up to the
-- first hole
abbrev pub moved_to : ℕ → Reordering → ReorderingOutcome
moved_to n r = passed_to (first_hole n (stored_from n r.stored)) r

-- a new wait begins if B has moved, or if nothing was stored before
abbrev pub waiting : ℕ → Reordering → ReorderingOutcome → ReorderingOutcome
waiting now before o =
    if not (before.start == o.after.start) || is_none_stored before.stored
    then record o { after = record o.after { since = now } } else o

-- ---- a number arrives

-- the frame of number n is stored
abbrev pub with_frame : ℕ → ℕ → Reordering → Reordering
with_frame n id r = record r { stored = with_stored (record { number = n; id = id }) r.stored }

-- the frames from B on are released, up to the first hole
abbrev pub settled : Reordering → ReorderingOutcome
settled r = moved_to r.start r

-- one outcome followed by another
abbrev pub followed_by : ReorderingOutcome → ReorderingOutcome → ReorderingOutcome
followed_by first next = record next { passed = first.passed ++ next.passed }

-- the frame of number n is stored, and the frames from B on are released, up to the first hole
abbrev pub then_stored : ℕ → ℕ → ReorderingOutcome → ReorderingOutcome
then_stored n id o = followed_by o (settled (with_frame n id o.after))

-- if number n is after the window, the window moves so that n is its last
abbrev pub with_room_for : ℕ → Reordering → ReorderingOutcome
with_room_for n r =
    if nat_lt n (r.start + r.window) then record { passed = []; old = false; after = r }
    else moved_to (n + 1 - r.window) r

-- number n, which is not below B, arrives: the window moves if needed, and the frame is stored
abbrev pub stored_at : ℕ → ℕ → Reordering → ReorderingOutcome
stored_at n id r = then_stored n id (with_room_for n r)

abbrev pub given_back : Reordering → ReorderingOutcome
given_back r = record { passed = []; old = true; after = r }

-- a frame is old if its number is below B, or stored already
abbrev pub number_arrived : Option ℕ → ℕ → ℕ → Reordering → ReorderingOutcome
number_arrived None id now r = given_back r
number_arrived (Some n) id now r = if is_stored n r.stored then given_back r
    else waiting now r (stored_at n id r)

-- the frame with this id, whose number has these twelve bits, arrives
abbrev pub arrived : ℕ → ℕ → ℕ → Reordering → ReorderingOutcome
arrived bits id now r = number_arrived (number_read bits r.start) id now r

-- ---- a BlockAckReq arrives

-- nothing changes
abbrev pub unmoved : Reordering → ReorderingOutcome
unmoved r = record { passed = []; old = false; after = r }

-- B moves to number n, the request's start, if n is past B
abbrev pub start_arrived : Option ℕ → ℕ → Reordering → ReorderingOutcome
start_arrived None now r = unmoved r
start_arrived (Some n) now r = if nat_lt r.start n then waiting now r (moved_to n r) else unmoved r

-- a BlockAckReq whose start has these twelve bits arrives
abbrev pub requested : ℕ → ℕ → Reordering → ReorderingOutcome
requested bits now r = start_arrived (number_read bits r.start) now r

-- ---- the time limit

-- the clock at which the current wait began, if a frame is stored
abbrev pub waits_since_of : Reordering → Option ℕ
waits_since_of r = if is_none_stored r.stored then None else Some r.since

-- how long a hole is waited for, in microseconds
abbrev pub time_limit : ℕ
time_limit = 100000

abbrev pub is_due : ℕ → Reordering → Bool
is_due now r = not (is_none_stored r.stored) && nat_le (r.since + time_limit) now

-- B moves to the least number stored
abbrev pub timed_out : ℕ → Reordering → ReorderingOutcome
timed_out now r = waiting now r (moved_to (least_stored r.start r.stored) r)
