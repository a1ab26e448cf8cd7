-- Defines the window of one TID as its callers see it, and which sessions it represents.
use Rattle.std.specs.Prelude.{◌≡◌, ℕ, ◌+◌, ◌-◌, ◌%◌, ◌<◌, ◌≤◌, nat_lt, nat_le, Bool, true, false, not, ◌&&◌, List, [], Option, Some, None, is_none, unwrap_or, length, map, find, slice_index_or}
use Rattle.std.specs.List.{list_any}
use Rattle.wf_frame.specs.Frames.{FrameValue}
use Rattle.wf_send_parts.specs.declared.window.place.Place.{Place}
use Rattle.wf_send_parts.specs.declared.window.place.Place.TheVariants.{Waiting as Waits, Flying as Flies}
use Rattle.wf_octets.specs.Distance.{distance}
use Rattle.wf_send_parts.specs.Places.{settled_first, state_of_place, slot_place, slot_state, front, rest, since_failed, since_acked, at_most}
use Rattle.wf_def_agreement.specs.Session.{Session, Slot, State, slot, start_of, next_number, request_due, has_room, waiting_numbers, is_waiting}

-- a window as its callers see it
pub record WindowValue : Type 0 where
  pub capacity : ℕ
  pub size : ℕ
  pub start : ℕ  -- F, modulo 4096
  pub places : List (Option Place)  -- the content of each number from F on
  pub due : Option ℕ  -- if a request is due: how far F is past the last failed number
  pub unacked : ℕ  -- how many numbers below F are above the last acknowledged one, at most 2,047

-- a window without numbers, with this capacity, size and first number
abbrev pub fresh_window : ℕ → ℕ → ℕ → WindowValue
fresh_window capacity size start = record {
  capacity = capacity;
  size = size;
  start = start;
  places = [];
  due = None;
  unacked = 0;
}

-- ---- the session

-- the slots from the first unsettled number on
abbrev pub slots_from_start : Session → List Slot
slots_from_start s = rest slot_state s.slots

-- how far F is past the last failed number below it, if that number is at or past R
abbrev pub due_distance : Session → Option ℕ
due_distance s = at_most (start_of s - s.heard) (since_failed slot_state None (front slot_state s.slots))

-- how many numbers below F are above the last acknowledged one, at most 2,047
abbrev pub count_unacked : Session → ℕ
count_unacked s = since_acked slot_state 0 (front slot_state s.slots)

-- the window represents the session; `bodies` has the frame of each id
pub record WindowStandsFor (w : WindowValue) (s : Session) (bodies : ℕ → FrameValue) : Type 0 where
  pub size : w.size ≡ s.size
  pub start : w.start ≡ start_of s % 4096
  pub places : w.places ≡ map (slot_place bodies) (slots_from_start s)
  pub due : w.due ≡ due_distance s
  pub unacked : w.unacked ≡ count_unacked s
  pub heard : s.heard ≤ start_of s
  pub room : next_number s ≤ start_of s + s.size
  pub small : s.size ≤ 256

-- n is a number of the session at or past its start, and equals `seq` modulo 4096
pub record IsNumber (s : Session) (n seq : ℕ) : Type 0 where
  pub from_start : start_of s ≤ n
  pub given : n < next_number s
  pub on_air : seq ≡ n % 4096

-- whether the session may give its next number
abbrev pub may_give : Session → Bool
may_give s = not (request_due s) && has_room s

-- the first waiting number at or past n
abbrev pub waiting_from : Session → ℕ → Option ℕ
waiting_from s n = find (λ m. nat_le n m) (waiting_numbers s)

abbrev pub on_air : ℕ → ℕ
on_air n = n % 4096

-- ---- the window

abbrev pub place_at : WindowValue → ℕ → Option Place
place_at w seq = slice_index_or w.places (distance seq w.start) None

abbrev pub state_at : WindowValue → ℕ → State
state_at w seq = state_of_place (place_at w seq)

-- whether a number in this state flies
abbrev pub is_flying : State → Bool
is_flying (State.Flying exchange) = true
is_flying _ = false

-- whether a number in this state holds a parcel
abbrev pub holds_parcel : State → Bool
holds_parcel State.Waiting = true
holds_parcel (State.Flying exchange) = true
holds_parcel _ = false

-- whether a place waits
abbrev pub waits : Option Place → Bool
waits p = is_waiting (state_of_place p)

-- whether some number flies
abbrev pub some_fly : WindowValue → Bool
some_fly w = list_any (λ p. is_flying (state_of_place p)) w.places

-- how many attempts of a number were in vain
abbrev pub attempts_of : Option Place → ℕ
attempts_of (Some (Waits parcel attempts)) = attempts
attempts_of (Some (Flies parcel attempts exchange)) = attempts
attempts_of _ = 0

-- the place holds this frame
abbrev pub HasFrame : Option Place → FrameValue → Type 0
HasFrame (Some (Waits parcel attempts)) frame = frame ≡ parcel
HasFrame (Some (Flies parcel attempts exchange)) frame = frame ≡ parcel
HasFrame _ frame = ⊥

-- no other number that waits or flies has the frame of n
pub record HasOwnFrame (s : Session) (n : ℕ) : Type 0 where
  pub sole : (m : ℕ) → start_of s ≤ m → m < next_number s → holds_parcel (slot s m).state ≡ true →
      (slot s m).id ≡ (slot s n).id → m ≡ n

-- the invariant of each window
pub record IsInOrder (capacity size : ℕ) (places : List (Option Place)) (due : Option ℕ) : Type 0 where
  pub bounded : unwrap_or due 0 + length places ≤ size
  pub within : size ≤ capacity
  pub small : capacity ≤ 256
  pub begins : settled_first state_of_place places ≡ false

-- whether the window may give its next number
abbrev pub can_take : WindowValue → Bool
can_take w = is_none w.due && nat_lt (length w.places) w.size

-- the window without the settled numbers at its front
abbrev pub moved_on : WindowValue → WindowValue
moved_on w =
    record w {
      start = (w.start + length (front state_of_place w.places)) % 4096;
      places = rest state_of_place w.places;
      due = since_failed state_of_place w.due (front state_of_place w.places);
      unacked = since_acked state_of_place w.unacked (front state_of_place w.places);
    }
