-- Defines the state of each place of a window, and queries of lists of slots or places by their states.
use Rattle.std.specs.Prelude.{ℕ, ◌+◌, min, nat_le, Bool, false, if◌then◌else◌, List, [], ◌∷◌, Option, Some, None}
use Rattle.wf_frame.specs.Frames.{FrameValue}
use Rattle.wf_send_parts.specs.declared.window.place.Place.{Place}
use Rattle.wf_send_parts.specs.declared.window.place.Place.TheVariants.{Waiting as Waits, Flying as Flies, Failed as Fails}
use Rattle.wf_send_parts.specs.declared.window.passed.Passed.{Passed}
use Rattle.wf_def_agreement.specs.Session.{State, Slot, is_settled}
use Rattle.wf_def_world.specs.Exchanges.{repeat_distance}

-- the state of a number with this place
abbrev pub state_of_place : Option Place → State
state_of_place None = State.Acked
state_of_place (Some (Waits parcel attempts)) = State.Waiting
state_of_place (Some (Flies parcel attempts exchange)) = State.Flying exchange
state_of_place (Some Fails) = State.Failed

-- the place of a number in this state
abbrev pub place_as : State → FrameValue → ℕ → Option Place
place_as State.Acked parcel attempts = None
place_as State.Waiting parcel attempts = Some (Waits parcel attempts)
place_as (State.Flying exchange) parcel attempts = Some (Flies parcel attempts exchange)
place_as State.Failed parcel attempts = Some Fails

-- the place of a session's slot; `bodies` has the frame of each id
abbrev pub slot_place : (ℕ → FrameValue) → Slot → Option Place
slot_place bodies x = place_as x.state (bodies x.id) x.attempts

abbrev pub slot_state : Slot → State
slot_state x = x.state

module _ {X : Type 0} (state : X → State) where
  -- the settled ones at the front
  abbrev pub front : List X → List X
  front [] = []
  front (x ∷ xs) = if is_settled (state x) then x ∷ front xs else []

  -- the list from the first one on that is not settled
  abbrev pub rest : List X → List X
  rest [] = []
  rest (x ∷ xs) = if is_settled (state x) then rest xs else x ∷ xs

  -- whether the first one is settled
  abbrev pub settled_first : List X → Bool
  settled_first [] = false
  settled_first (x ∷ xs) = is_settled (state x)

-- how far the next number is past the last failed one, if this number is `since` past it
abbrev pub next_since : State → Option ℕ → Option ℕ
next_since State.Failed since = Some 1
next_since _ None = None
next_since _ (Some d) = Some (d + 1)

-- how far the end of a list is past the last failed number, if its beginning is `since` past one
abbrev pub since_failed : {X : Type 0} → (X → State) → Option ℕ → List X → Option ℕ
since_failed state since [] = since
since_failed state since (x ∷ xs) = since_failed state (next_since (state x) since) xs

-- a distance, if it is at most `limit`
abbrev pub at_most : ℕ → Option ℕ → Option ℕ
at_most limit None = None
at_most limit (Some d) = if nat_le d limit then Some d else None

-- how many numbers below the next one are above the last acknowledged one, at most `repeat_distance`, if
-- there are `count` below this number
abbrev pub next_unacked : State → ℕ → ℕ
next_unacked State.Acked count = 0
next_unacked _ count = min repeat_distance (count + 1)

-- how many numbers below the end of a list are above the last acknowledged one, at most `repeat_distance`, if
-- there are `count` below its beginning
abbrev pub since_acked : {X : Type 0} → (X → State) → ℕ → List X → ℕ
since_acked state count [] = count
since_acked state count (x ∷ xs) = since_acked state (next_unacked (state x) count) xs

-- the record of the numbers below F after F moved past a number in this state
abbrev pub next_passed : State → Passed → Passed
next_passed state passed = record {
  due = next_since state passed.due;
  unacked = next_unacked state passed.unacked;
}

-- the same after F moved past a list
abbrev pub passed_over : {X : Type 0} → (X → State) → Passed → List X → Passed
passed_over state passed xs = record {
  due = since_failed state passed.due xs;
  unacked = since_acked state passed.unacked xs;
}
