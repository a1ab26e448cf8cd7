-- Defines the recipient's reordering buffer of one block acknowledgement agreement, for every sequence of
-- numbers (IEEE 802.11-2012, 9.21.7.6). All comparisons are modulo 4096: `distance` says how far a number is
-- past the start, and a number more than 2047 past it counts as before it.
use Rattle.std.specs.Prelude.{◌≡◌, ◌≤◌, length, ℕ, suc, ◌+◌, ◌-◌, ◌%◌, min, nat_lt, nat_le, ◌&&◌, List, [], ◌∷◌, ◌++◌, take, drop, replicate, slice_set, slice_index_or, Option, None, Some, is_some, if◌then◌else◌}
use Rattle.std.specs.Option.{option_map}
use Rattle.wf_octets.specs.Distance.{distance}

-- a window of `size` numbers from the start on, and the stored item of each
pub record Buffer : Type 0 where
  pub capacity : ℕ  -- the greatest size
  pub start : ℕ  -- 0 to 4095
  pub size : ℕ
  pub places : List (Option ℕ)

-- the outcome of a call: the items that are passed up, in order, the item that is returned, and the buffer
pub record BufferOutcome : Type 0 where
  pub up : List ℕ
  pub back : Option ℕ
  pub after : Buffer

-- the stored items, in order
abbrev pub items_of : List (Option ℕ) → List ℕ
items_of [] = []
items_of (None ∷ places) = items_of places
items_of (Some item ∷ places) = item ∷ items_of places

-- how many places from the first on hold an item without a gap
abbrev pub run_of : List (Option ℕ) → ℕ
run_of [] = 0
run_of (None ∷ places) = 0
run_of (Some item ∷ places) = suc (run_of places)

-- the first place that holds an item
abbrev pub first_stored : List (Option ℕ) → Option ℕ
first_stored [] = None
first_stored (None ∷ places) = option_map (λ d. d + 1) (first_stored places)
first_stored (Some item ∷ places) = Some 0

abbrev pub empty_buffer : ℕ → ℕ → ℕ → Buffer
empty_buffer capacity start size = record {
  capacity = capacity;
  start = start;
  size = size;
  places =
      replicate size None;
}

-- the first stored number from the start on
abbrev pub first_stored_of : Buffer → Option ℕ
first_stored_of b = option_map (λ d. (b.start + d) % 4096) (first_stored b.places)

-- the buffer with this item stored d past the start
abbrev pub with_stored_item : ℕ → ℕ → Buffer → Buffer
with_stored_item d item b = record b { places = slice_set b.places d (Some item) }

-- the items of the n numbers from the start on
abbrev pub items_below : ℕ → Buffer → List ℕ
items_below n b = items_of (take n b.places)

-- the start moves on by n
abbrev pub with_start_moved : ℕ → Buffer → Buffer
with_start_moved n b = record b {
  start = (b.start + n) % 4096;
  places =
      drop n b.places ++ replicate (min n b.size) None;
}

-- after the items `up`, those from the start on without a gap are passed up, and the start moves past them
abbrev pub release_outcome : List ℕ → Buffer → BufferOutcome
release_outcome up b = record {
  up = up ++ items_below (run_of b.places) b;
  back = None;
  after =
      with_start_moved (run_of b.places) b;
}

abbrev pub give_back_outcome : ℕ → Buffer → BufferOutcome
give_back_outcome item b = record { up = []; back = Some item; after = b }

-- a number in the window: its item is stored, unless one is stored already
abbrev pub store_outcome : ℕ → ℕ → Buffer → BufferOutcome
store_outcome d item b =
    if is_some (slice_index_or b.places d None) then give_back_outcome item b
    else release_outcome [] (with_stored_item d item b)

-- a number n past the end of the window: the window moves so that the number is its last, and the stored
-- items below the window are passed up
abbrev pub jump_outcome : ℕ → ℕ → Buffer → BufferOutcome
jump_outcome n item b = release_outcome (items_below n b)
    (with_stored_item (b.size - 1) item (with_start_moved n b))

-- a number arrives, d past the start: it is in the window, or past it, or before it
abbrev pub number_outcome_at : ℕ → ℕ → Buffer → BufferOutcome
number_outcome_at d item b =
    if nat_lt d b.size then store_outcome d item b
    else (if nat_le d 2047 then jump_outcome (d + 1 - b.size) item b else give_back_outcome item b)

abbrev pub number_outcome : ℕ → ℕ → Buffer → BufferOutcome
number_outcome n item b = number_outcome_at (distance n b.start) item b

-- a BlockAckReq arrives whose start is d past this one: the window moves to it and the stored items below it
-- are passed up, or nothing changes
abbrev pub request_outcome_at : ℕ → Buffer → BufferOutcome
request_outcome_at d b =
    if nat_le 1 d && nat_le d 2047 then release_outcome (items_below d b) (with_start_moved d b)
    else record { up = []; back = None; after = b }

abbrev pub request_outcome : ℕ → Buffer → BufferOutcome
request_outcome start b = request_outcome_at (distance start b.start) b

-- the buffer after its agreement ended: the window is past all items, and nothing is stored
abbrev pub ended_buffer : Buffer → Buffer
ended_buffer b = empty_buffer b.capacity ((b.start + b.size) % 4096) b.size

-- the invariant of a buffer between calls: nothing is stored at its start
pub record NothingAtStart (b : Buffer) : Type 0 where
  pub places : length b.places ≡ b.size
  pub least : 1 ≤ b.size
  pub most : b.size ≤ 256
  pub capacity : b.capacity ≤ 256
  pub start : run_of b.places ≡ 0

-- `after` is `before` with one more item, and the others in the same order
abbrev pub HasOneMore : ℕ → List ℕ → List ℕ → Type 0
HasOneMore item before after = (left : List ℕ) × (right : List ℕ) × (before ≡ left ++ right) ×
    (after ≡ left ++ item ∷ right)
