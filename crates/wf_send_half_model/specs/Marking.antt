-- Defines when the marks of an exchange fit its transmissions, and what a mark of a device changes: the
-- exchange in the half, and the frame of a transmission that never went on the air.
use Rattle.std.specs.Prelude.{◌≡◌, ◌<◌, ℕ, true, false, IfSome}
use Rattle.wf_frame.specs.Frames.{FrameValue}
use Rattle.wf_def_lists.specs.Table.{at, has}
use Rattle.wf_def_world.specs.World.{Exchange, Content, Frames, Request}
use Rattle.wf_def_world.specs.Exchanges.{no_mpdu, transmissions}
use Rattle.wf_send_parts.specs.declared.exchanges.opened.Open.{Open}
use Rattle.wf_send_parts.specs.Exchanges.{with_exchange_changed}
use Rattle.wf_send_parts.specs.Sent.{with_one_unsent}
use Rattle.wf_send_half_model.specs.Half.{TransmitValue}

-- the half with f applied to the open exchange e
abbrev pub after_mark : TransmitValue → ℕ → (Open → Open) → TransmitValue
after_mark v e f = record v { opened = with_exchange_changed e f v.opened }

-- the frames by id after transmission i of this content never went on the air: its frame counts one
-- transmission less; a request has no frame
abbrev pub with_transmission_unsent : Content → ℕ → (ℕ → FrameValue) → ℕ → FrameValue
with_transmission_unsent (Frames mpdus) i bodies = with_one_unsent (at no_mpdu mpdus i).id bodies
with_transmission_unsent (Request start) i bodies = bodies

-- The marks of an exchange are of its transmissions, what never went on the air has not arrived, and
-- something arrived if there is an answer.
pub record MarksFit (x : Exchange) : Type 0 where
  pub unsent : (i : ℕ) → has x.unsent i ≡ true → (i < transmissions x.content) × (has x.arrived i ≡ false)
  pub given_up : (i : ℕ) → has x.given_up i ≡ true → i < transmissions x.content
  pub arrived : (i : ℕ) → has x.arrived i ≡ true → i < transmissions x.content
  pub answered : IfSome x.answer (λ _. (i : ℕ) × (has x.arrived i ≡ true))
