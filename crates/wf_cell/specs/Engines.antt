-- Defines an engine, the cell without its history: the transmit path, the receive halves of the stations, and
-- the marks of the open exchanges.
use Rattle.std.specs.Prelude.{◌≡◌, ℕ, ◌<◌, ◌==◌, Bool, true, false, find, List, Option, None, Some, option_map, if◌then◌else◌}
use Rattle.wf_frame.specs.Frames.{FrameValue}
use Rattle.wf_frame.specs.declared.notes.Note.{Note}
use Rattle.wf_frame.specs.declared.notes.ReplyNote.{ReplyNote}
use Rattle.wf_frame.specs.declared.notes.Note.TheVariants.{Asked}
use Rattle.wf_frame.specs.declared.notes.Ask.TheVariants.{Arrive, Unsent}
use Rattle.wf_def_world.specs.World.{World, Exchange, exchange}
use Rattle.wf_def_world.specs.Exchanges.{transmissions}
use Rattle.wf_def_world.specs.Refusals.{exchange_has, refusal}
use Rattle.wf_def_world.specs.Step.{plain_window, step}
use Rattle.wf_def_lists.specs.Bounds.{greatest_window}
use Rattle.wf_def_lists.specs.Table.{has}
use Rattle.wf_frame.specs.declared.notes.Refusal.{Refusal}
use Rattle.wf_frame.specs.declared.notes.Refusal.TheVariants.{Marked}
use Rattle.wf_send_half.specs.Marks.{HasNotArrived}
use Rattle.wf_recv_marks.specs.declared.marks.Mark.{Mark}
use Rattle.wf_recv_peer.specs.Agreements.{PeerValue}
use Rattle.wf_send_half_model.specs.Half.{TransmitValue}
use Rattle.wf_send_half_model.specs.Standing.{StandsFor}
use Rattle.wf_cell_model.specs.Hearing.{Hears}
use Rattle.wf_cell.specs.declared.engine.Newcomer.{Newcomer}
use Rattle.wf_path.specs.declared.job.Job.{Job}
use Rattle.wf_path.specs.declared.asks.PathAsk.{PathAsk}
use Rattle.wf_path.specs.declared.asks.PathAsk.TheVariants.{Join, Offload, Plain}
use Rattle.wf_path.specs.declared.reading.Sent.{Sent}
use Rattle.wf_path.specs.Heard.{shown_at}
use Rattle.wf_path.specs.Transmissions.{sent_of}
use Rattle.wf_path.specs.Jobs.{note_of, bodies_after, frame_given_back}

-- the station that joins by a call of the path, with the first number and the window of each of its TIDs;
-- none if no station joins by it
abbrev pub newcomer_of : PathAsk → Option Newcomer
newcomer_of (Join s window start exponent weight) =
    Some (record { station = s; start = start; window = window })
newcomer_of (Offload s exponent weight) = Some (record { station = s; start = 0; window = greatest_window })
newcomer_of (Plain s start exponent weight) =
    Some (record { station = s; start = start; window = plain_window })
newcomer_of ask = None

-- an engine
pub record EngineValue : Type 0 where
  pub half : TransmitValue
  pub peers : List PeerValue  -- by station
  pub marks : List Mark  -- in the order of the exchanges' numbers

-- An engine represents a world: its path represents the transmit half, and the receive halves and marks
-- represent what the world's receivers have.
pub record EngineIsIn (v : EngineValue) (w : World) (bodies : ℕ → FrameValue) : Type 0 where
  pub half : StandsFor v.half w bodies
  pub hears : Hears v.peers v.marks w

-- an engine represents some world
pub record EngineHasWorld (v : EngineValue) : Type 0 where
  pub world : World
  pub bodies : ℕ → FrameValue
  pub is_in : EngineIsIn v world bodies

-- a call without a frame leads to v, and its reply is the machine's
pub record EngineMeets (w : World) (bodies : ℕ → FrameValue) (note : Note) (v : EngineValue)
    (answered : ReplyNote) : Type 0 where
  pub is_in : EngineIsIn v (step w note).world bodies
  pub reply : answered ≡ (step w note).reply

-- A job leads from `before` to v: the accepted frame joins the bodies, the reply is the machine's, and the
-- returned frame is the one that was refused or reaped.
pub record IsJobDone (w : World) (bodies : ℕ → FrameValue) (job : Job) (before : TransmitValue)
    (v : EngineValue) (answered : ReplyNote) (given : Option FrameValue) : Type 0 where
  pub is_in : EngineIsIn v (step w (note_of job)).world (bodies_after before w job answered bodies)
  pub reply : answered ≡ (step w (note_of job)).reply
  pub back : given ≡ frame_given_back bodies job answered

-- the path has this transmission of an open exchange
pub record IsOnAir (v : TransmitValue) (e i : ℕ) : Type 0 where
  pub world : World
  pub bodies : ℕ → FrameValue
  pub stands : StandsFor v world bodies
  pub sending : Exchange
  pub known : exchange world e ≡ Some sending
  pub within : i < transmissions sending.content

-- a transmission of an open exchange may arrive, and `sent` is what the exchange sends
pub record IsArriving (v : EngineValue) (e i : ℕ) (sent : Sent) : Type 0 where
  pub world : World
  pub bodies : ℕ → FrameValue
  pub is_in : EngineIsIn v world bodies
  pub arrives : refusal world (Asked (Arrive e i)) ≡ None
  pub told : (w : World) (frames : ℕ → FrameValue) → EngineIsIn v w frames →
      option_map sent_of (exchange w e) ≡ Some sent

-- Whether what arrived of exchange e is against an Arrive and an Unsent of its transmission i. If so, both
-- are refused for this reason. If not, an Arrive is refused only if the transmission never went on the air,
-- and the transmission has not arrived, nor was the exchange answered.
abbrev pub IsToldBy : World → ℕ → ℕ → Option Refusal → Type 0
IsToldBy w e i (Some reason) = (refusal w (Asked (Arrive e i)) ≡ Some reason)
    × (refusal w (Asked (Unsent e i)) ≡ Some reason)
IsToldBy w e i None = (refusal w (Asked (Arrive e i))
    ≡ (if exchange_has (exchange w e) (λ x. has x.unsent i) then Some Marked else None)) × HasNotArrived w e i

-- the BlockAck by which an exchange with this mark ends, if any: the answer that the mark keeps, if it was
-- heard, or of a batch one that shows exactly the numbers that arrived
abbrev pub heard_by : TransmitValue → Mark → Bool → Bool → Option (ℕ × List ℕ)
heard_by v m true heard = shown_at (find (λ x. x.number == m.number) v.opened) m.arrived
heard_by v m false heard = if heard then m.answer else None
