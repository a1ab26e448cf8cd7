-- Defines the end of an exchange by the BlockAck that a driver heard, without a receiver.
use Rattle.std.specs.Prelude.{◌≡◌, ℕ, Bool, true, false, not, ◌&&◌, List, Option, Some, None, is_none, if◌then◌else◌, IfSome, IfNone, Result, is_ok, IfErr}
use Rattle.wf_frame.specs.declared.notes.Ask.TheVariants.{Done}
use Rattle.wf_frame.specs.declared.notes.Note.TheVariants.{Asked}
use Rattle.wf_frame.specs.declared.notes.Refusal.{Refusal}
use Rattle.wf_frame.specs.declared.notes.ReplyNote.{ReplyNote}
use Rattle.wf_frame.specs.Frames.{FrameValue}
use Rattle.wf_def_agreement.specs.Receiver.{Score}
use Rattle.wf_def_world.specs.World.{World, Exchange, exchange, is_wide}
use Rattle.wf_def_world.specs.CanSend.{is_request}
use Rattle.wf_frame.specs.Settings.{is_bad_air}
use Rattle.wf_def_world.specs.Step.{Outcome, step}
use Rattle.wf_law_driver.specs.Inferred.{after_inferred, done_inferred, shown_of_sent, is_wholly_unsent}
use Rattle.wf_law_driver.specs.Unheard.{IsUnheard}
use Rattle.wf_send_half_model.specs.Half.{TransmitValue}
use Rattle.wf_send_half_model.specs.Standing.{StandsFor, Meets}
use Rattle.wf_send_half.specs.declared.finish.Ended.{Ended}
use Rattle.wf_send_half.specs.Bits.{is_shown, IsNoBatch, IsToldAs, AreShown, AreArrived, NoneIsShown, end_refusal, ended_reply}
use Rattle.wf_send_half.specs.Replies.{reply_of_result}

-- ---- in the machine

-- The machine's outcome for w if exchange e ends with this BlockAck or without one. For a BlockAck to x, the
-- open exchange, the calls that it implies come first (`inferred`, wf_law_driver): exactly those numbers
-- arrive that it shows and that went on the air, and their receiver answers, except to a batch. If nothing
-- was heard, the only call is a Done that is not heard. The Done is refused if no exchange is open, if
-- something was heard though nothing of the exchange went on the air and it is no batch, or if the airtime is
-- out of range.
abbrev pub ended_by : World → ℕ → ℕ → Option (ℕ × List ℕ) → Option ℕ → Option Exchange → Outcome
ended_by w caller e None air x = step w (Asked (Done e false air))
ended_by w caller e (Some score) air None = step w (Asked (Done e false air))
ended_by w caller e (Some score) air (Some x) =
    let shown : ℕ → Bool = shown_of_sent x (is_shown (is_wide w x.station x.tid) (Some score)) in
    if not x.batch && is_wholly_unsent x then step w (Asked (Done e true air))
    else if is_bad_air w.config air then step w (Asked (Done e false air))
    else step (after_inferred w caller e shown x.batch x.content) (done_inferred e shown air x.content)

-- the same, by the number of the exchange
abbrev pub outcome_after_done : World → ℕ → ℕ → Option (ℕ × List ℕ) → Option ℕ → Outcome
outcome_after_done w caller e heard air = ended_by w caller e heard air (exchange w e)

-- the world in which it has ended
abbrev pub world_after_done : World → ℕ → ℕ → Option (ℕ × List ℕ) → Option ℕ → World
world_after_done w caller e heard air = (outcome_after_done w caller e heard air).world

-- ---- in the half

-- `Transmit::done` made u of v with this result, for exchange e, the BlockAck that was heard and the airtime
-- that was given
pub record IsAfterDone (v u : TransmitValue) (e : ℕ) (heard : Option (ℕ × List ℕ)) (air : Option ℕ)
    (result : Result Ended Refusal) : Type 0 where
  pub lost : IfNone heard ((w : World) (bodies : ℕ → FrameValue) → StandsFor v w bodies → IsNoBatch w e →
      Meets w bodies (Asked (Done e false air)) u (reply_of_result ended_reply result))
  pub shown : IfSome heard (λ score. (w : World) (bodies : ℕ → FrameValue) (x : Exchange) (b : Score) →
      StandsFor v w bodies →
      exchange w e ≡ Some x → x.batch ≡ false → x.answer ≡ Some b → AreShown w x b (Some score) →
      Meets w bodies (Asked (Done e true air)) u (reply_of_result ended_reply result))
  pub none_shown : (w : World) (bodies : ℕ → FrameValue) (x : Exchange) → StandsFor v w bodies →
      exchange w e ≡ Some x → x.batch ≡ false → is_request x.content ≡ false → is_wholly_unsent x ≡ false →
      NoneIsShown w x heard →
      Meets w bodies (Asked (Done e false air)) u (reply_of_result ended_reply result)
  pub arrived : (w : World) (bodies : ℕ → FrameValue) (x : Exchange) (told : Bool) → StandsFor v w bodies →
      exchange w e ≡ Some x → x.batch ≡ true → IsToldAs x heard told → AreArrived w x heard →
      Meets w bodies (Asked (Done e told air)) u (reply_of_result ended_reply result)
  pub found : is_ok result ≡ is_none (end_refusal v e heard air)
  pub refused : IfErr result (λ reason. (end_refusal v e heard air ≡ Some reason) × (u ≡ v))

-- u represents the world that an outcome leads to, that world is unheard, and the reply is the outcome's
pub record MeetsUnheard (bodies : ℕ → FrameValue) (o : Outcome) (u : TransmitValue)
    (answer : ReplyNote) : Type 0 where
  pub stands : StandsFor u o.world bodies
  pub unheard : IsUnheard o.world
  pub reply : answer ≡ o.reply
