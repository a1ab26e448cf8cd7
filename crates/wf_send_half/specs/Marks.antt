-- Defines when the half refuses a mark as the machine does, and the frames after it.
use Rattle.std.specs.Prelude.{◌≡◌, ◌<◌, ◌==◌, ℕ, false, find, Option, Some, None, IfSome}
use Rattle.wf_frame.specs.Frames.{FrameValue}
use Rattle.wf_frame.specs.declared.notes.ReplyNote.{ReplyNote}
use Rattle.wf_frame.specs.declared.notes.ReplyNote.TheVariants.{Marked}
use Rattle.wf_def_lists.specs.Table.{has}
use Rattle.wf_def_world.specs.World.{World, Exchange, exchange}
use Rattle.wf_send_parts.specs.declared.exchanges.opened.Open.{Open}
use Rattle.wf_send_parts.specs.Exchanges.{transmissions_of, number_carried}
use Rattle.wf_send_half_model.specs.Half.{TransmitValue}
use Rattle.wf_send_half_model.specs.Marking.{with_transmission_unsent}
use Rattle.wf_send_half.specs.declared.marks.Carried.{Carried}

-- Transmission i of exchange e has not arrived, and the exchange has no answer, if it is open. A half does
-- not know this, so its caller refuses the call Unsent otherwise.
abbrev pub HasNotArrived : World → ℕ → ℕ → Type 0
HasNotArrived w e i = IfSome (exchange w e) (λ x. (x.answer ≡ None) × (has x.arrived i ≡ false))

-- Transmission i of exchange e, which is open in v, carries this.
pub record IsCarried (v : TransmitValue) (e i : ℕ) (carried : Carried) : Type 0 where
  pub exchange_is : Open
  pub known : Some exchange_is ≡ find (λ x. x.number == e) v.opened
  pub index : i < transmissions_of exchange_is.sending
  pub station : carried.station ≡ exchange_is.station
  pub tid : carried.tid ≡ exchange_is.tid
  pub number : carried.number ≡ number_carried exchange_is.sending i

-- the frame of each id after the call Unsent for transmission i of an exchange, with this reply: its frame
-- counts one transmission less, unless the call is refused
abbrev pub bodies_unsent : Option Exchange → ℕ → ReplyNote → (ℕ → FrameValue) → ℕ → FrameValue
bodies_unsent (Some x) i Marked bodies = with_transmission_unsent x.content i bodies
bodies_unsent x i reply bodies = bodies
