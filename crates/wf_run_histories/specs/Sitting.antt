-- Defines the state of a worker's seat, for the contracts of a worker's parts.
use Rattle.std.specs.Prelude.{◌≡◌, ℕ, ◌+◌, ◌-◌, ◌<◌, ◌≤◌, List, length, slice_index_or, Option, Some, None, Result, IfOk}
use Rattle.std.specs.Global.{Box}
use Rattle.wf_frame.specs.Answers.{reply_of}
use Rattle.wf_frame.specs.declared.answers.Answer.{Answer}
use Rattle.wf_frame.specs.declared.notes.Refusal.TheVariants.{Nothing}
use Rattle.wf_frame.specs.declared.notes.ReplyNote.{ReplyNote}
use Rattle.wf_frame.specs.declared.notes.ReplyNote.TheVariants.{Refused}
use Rattle.wf_gate.specs.Seats.{IsOf, new_seat}
use Rattle.wf_run_histories.specs.Workloads.{Made}
use Rattle.wf_run_histories.specs.Crew.{CellGate, CellSeat, StandAt, IsWorked, driver_count, done_count}

-- A seat at a gate has this number, and these are all its calls, each with the right reply.
pub record HasMade (s : CellSeat) (place : CellGate × ℕ) (made : List Made) : Type 0 where
  pub is_of : IsOf place.0 s
  pub number : s.number ≡ place.1
  pub within : s.used ≤ s.quota
  pub counted : s.used ≡ length made
  pub allotted : s.quota ≡ slice_index_or place.0.opening.quotas s.number 0
  pub stand : StandAt place.0 s.number s.seen s.own made

-- The seat also has at most one look for each of its calls that ends an exchange.
abbrev pub HasMadeAndLooked : CellSeat → CellGate × ℕ → List Made → Type 0
HasMadeAndLooked s place made = HasMade s place made × (length s.looks ≤ done_count made)

-- The number of calls that the seat may still make.
abbrev pub left_of : CellSeat → ℕ
left_of s = s.quota - s.used

-- The reply in an answer, if its box is there.
abbrev pub reply_in : Option (Box Answer) → ReplyNote
reply_in (Some answer) = reply_of answer.value
reply_in None = Refused Nothing

-- A seat of a crew, as a new gate returns it: a sender's has one call for each frame, and one more.
pub record IsReady (g : CellGate) (senders frames : ℕ) (s : CellSeat) : Type 0 where
  pub is_new : s ≡ new_seat g s.number
  pub inside : s.number < senders + driver_count
  pub few : senders ≤ 8
  pub quota : s.number < senders → frames < s.quota

-- The seat after its work.
pub record HasWorked (g : CellGate) (seed senders frames : ℕ) (old new : CellSeat) : Type 0 where
  pub is_of : IsOf g new
  pub same : new.number ≡ old.number
  pub worked : IsWorked g seed senders frames new

-- The results of the workers, in their order: each is the seat after its work, if memory did not run out.
abbrev pub AreDone : {E : Type 0} → CellGate → ℕ → ℕ → ℕ → List CellSeat → List (Result CellSeat E) → Type 0
AreDone {E} g seed senders frames seats back =
    (k : ℕ) (s : CellSeat) (r : Result CellSeat E) → k < length seats →
    IfOk (slice_index_or back k r) (HasWorked g seed senders frames (slice_index_or seats k s))
