-- Defines the work of the workers of `live` at a gate, as their seats record it.
use Rattle.std.specs.Prelude.{◌≡◌, ◌⊎◌, ℕ, ◌+◌, ◌-◌, ◌<◌, ◌≤◌, Bool, false, List, [], ◌∷◌, ◌++◌, length, take, replicate, count_by, Some, slice_get, slice_index_or}
use Rattle.wf_frame.specs.declared.classes.Class.{Class}
use Rattle.wf_frame.specs.declared.classes.Class.TheVariants.{Bk, Be, Vi, Vo}
use Rattle.wf_frame.specs.declared.notes.Note.{Note}
use Rattle.wf_frame.specs.declared.notes.Note.TheVariants.{Enqueue, Asked}
use Rattle.wf_frame.specs.declared.notes.ReplyNote.{ReplyNote}
use Rattle.wf_def_lists.specs.Table.{at}
use Rattle.wf_def_world.specs.World.{opening}
use Rattle.wf_def_world.specs.Step.{step}
use Rattle.wf_def_world.specs.Run.{Entry, world_after}
use Rattle.wf_gate.specs.Seats.{GateView, SeatView, StandsWithCalls}
use Rattle.wf_cell.specs.Cells.{CellValue}
use Rattle.wf_run_histories.specs.Workloads.{Made, IsWalk, walked, driver_of, is_done, sender_calls}
use Rattle.wf_run_histories.specs.Workloads.Phase.{Ends}

-- A gate to a cell, and a seat at it.
abbrev pub CellGate : Type 0
CellGate = GateView CellValue

abbrev pub CellSeat : Type 0
CellSeat = SeatView CellValue Note

-- ---- the seats of a crew

-- The number of drivers, one for each class. Their seats follow those of the senders.
abbrev pub driver_count : ℕ
driver_count = 4

abbrev pub class_of_driver : ℕ → Class
class_of_driver driver = at Vo (Bk ∷ Be ∷ Vi ∷ []) driver

-- The most calls that a driver makes.
abbrev pub driver_quota : ℕ
driver_quota = 150000

-- The quotas by seat number: a sender makes one call for each of its frames, and one more.
abbrev pub quotas_of : ℕ → ℕ → List ℕ
quotas_of senders frames = replicate senders (frames + 1) ++ replicate driver_count driver_quota

-- ---- the calls of a seat

-- The right reply to a call at this place of the entries that were made since the gate opened.
abbrev pub reply_at : CellGate → List Entry → ℕ → Note → ReplyNote
reply_at g entries place note =
    (step (world_after (opening g.opening.machine.past.config)
    (g.opening.machine.past.history ++ take place entries)) note).reply

-- The entries have these calls of a caller at these places, in order, and these replies are right there.
abbrev pub StandAt : CellGate → ℕ → List Entry → List ℕ → List Made → Type 0
StandAt g caller entries [] [] = Unit {0}
StandAt g caller entries (place ∷ places) (m ∷ ms) =
    (slice_get entries place ≡ Some (caller, m.0)) × (m.1 ≡ reply_at g entries place m.0) ×
    StandAt g caller entries places ms
StandAt g caller entries _ _ = ⊥

-- Whether a note is a call that ends an exchange.
abbrev pub ends_exchange : Note → Bool
ends_exchange (Asked ask) = is_done ask
ends_exchange (Enqueue station tid flow len) = false

-- The number of these calls that end an exchange.
abbrev pub done_count : List Made → ℕ
done_count made = count_by (λ m. ends_exchange m.0) made

-- A sender's seat: the entries have exactly the sender's list of calls at the seat's places, in order.
abbrev pub HasSent : ℕ → ℕ → CellSeat → Type 0
HasSent seed frames s = StandsWithCalls s.number s.seen s.own (sender_calls seed s.number frames)

-- A driver's seat: its calls, with the right replies, are a walk that ended, or that went on until no call
-- was left. A look is a failed try, so there is at most one for each call that ends an exchange.
pub record HasDriven (g : CellGate) (seed senders driver : ℕ) (s : CellSeat) : Type 0 where
  pub made : List Made
  pub stand : StandAt g s.number s.seen s.own made
  pub walk : IsWalk (driver_of seed driver (class_of_driver driver) senders) made
  pub ended : ((walked (driver_of seed driver (class_of_driver driver) senders) made).phase ≡ Ends) ⊎
      (length made ≡ s.quota)
  pub allotted : s.quota ≡ slice_index_or g.opening.quotas s.number 0
  pub looked : length s.looks ≤ done_count made

-- The work of a seat is done. The first seats are the senders', and the drivers' follow.
pub record IsWorked (g : CellGate) (seed senders frames : ℕ) (s : CellSeat) : Type 0 where
  pub sender : s.number < senders → HasSent seed frames s
  pub driver : senders ≤ s.number → HasDriven g seed senders (s.number - senders) s
