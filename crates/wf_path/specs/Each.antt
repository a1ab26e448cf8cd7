-- Defines how a path ends an exchange by what became of each of its transmissions.
use Rattle.std.specs.Prelude.{◌≡◌, ◌==◌, ℕ, suc, nat_lt, Bool, true, false, not, ◌&&◌, ◌↔◌, List, [], ◌∷◌, ◌++◌, length, replicate, find, Option, None, Some, IfSome, if◌then◌else◌}
use Rattle.std.specs.List.{list_any}
use Rattle.std.specs.Option.{option_map_or}
use Rattle.wf_frame.specs.Answers.{reply_with}
use Rattle.wf_frame.specs.Frames.{FrameValue}
use Rattle.wf_frame.specs.Settings.{is_bad_air}
use Rattle.wf_frame.specs.declared.answers.Brief.{Brief}
use Rattle.wf_frame.specs.declared.answers.Brief.TheVariants.{Refused}
use Rattle.wf_frame.specs.declared.answers.Brief.TheVariants as briefs
use Rattle.wf_frame.specs.declared.notes.Ask.TheVariants as machine
use Rattle.wf_frame.specs.declared.notes.Ask.TheVariants.{Done}
use Rattle.wf_frame.specs.declared.notes.Note.{Note}
use Rattle.wf_frame.specs.declared.notes.Note.TheVariants.{Asked}
use Rattle.wf_frame.specs.declared.notes.Refusal.{Refusal}
use Rattle.wf_frame.specs.declared.notes.Refusal.TheVariants.{BadAir, BadIndex, Marked, NoExchange}
use Rattle.wf_frame.specs.declared.settings.Config.{Config}
use Rattle.wf_def_agreement.specs.Session.{State, slot}
use Rattle.wf_def_world.specs.World.{World, Exchange, Mpdu, exchange, session}
use Rattle.wf_def_world.specs.Exchanges.{mpdus_of}
use Rattle.wf_def_world.specs.Run.{Entry, by, world_after}
use Rattle.wf_def_world.specs.Step.{Outcome as MachineOutcome, step}
use Rattle.wf_law_runs.specs.Delivery.{is_batch}
use Rattle.wf_law_driver.specs.Inferred.{arrivals, answer_inferred, AreAnswered}
use Rattle.wf_law_driver.specs.Unheard.{IsUnheard}
use Rattle.wf_send_parts.specs.declared.exchanges.opened.Open.{Open}
use Rattle.wf_send_parts.specs.Exchanges.{transmissions_of, sending_is_request}
use Rattle.wf_send_half.specs.Driven.{MeetsUnheard}
use Rattle.wf_send_half_model.specs.Half.{TransmitValue}
use Rattle.wf_send_half_model.specs.Marking.{with_transmission_unsent}
use Rattle.wf_send_half_model.specs.Standing.{StandsFor}
use Rattle.wf_path.specs.Paths.{PathValue, IsPath, RiseLittle}
use Rattle.wf_path.specs.declared.each.Outcome.{Outcome}
use Rattle.wf_path.specs.declared.each.Outcome.TheVariants.{Acked, Retry, Unsent, GaveUp}

-- ---- outcomes

abbrev pub is_outcome_acked : Outcome → Bool
is_outcome_acked Acked = true
is_outcome_acked other = false

-- the indices of the transmissions that were acknowledged; i is the index of the first outcome
abbrev pub indices_acked : ℕ → List Outcome → List ℕ
indices_acked i [] = []
indices_acked i (outcome ∷ outcomes) =
    if is_outcome_acked outcome then i ∷ indices_acked (suc i) outcomes else indices_acked (suc i) outcomes

-- whether any transmission was acknowledged
abbrev pub some_acked : List Outcome → Bool
some_acked outcomes = list_any is_outcome_acked outcomes

-- ---- in the machine

-- The calls that mark transmissions of exchange e, in order: those that never went on the air, and those
-- that the device will not try again. i is the index of the first outcome.
abbrev pub marks : ℕ → ℕ → ℕ → List Outcome → List Entry
marks caller e i [] = []
marks caller e i (Unsent ∷ outcomes) =
    by caller (Asked (machine.Unsent e i)) ∷ marks caller e (suc i) outcomes
marks caller e i (GaveUp ∷ outcomes) =
    by caller (Asked (machine.GiveUp e i)) ∷ marks caller e (suc i) outcomes
marks caller e i (other ∷ outcomes) = marks caller e (suc i) outcomes

-- The calls before the Done: the marks; then exactly the transmissions that were acknowledged arrive, and if
-- there are any and the exchange is no batch, their receiver answers.
abbrev pub calls_before_done : Bool → ℕ → ℕ → List Outcome → List Entry
calls_before_done batch caller e outcomes =
    let acked : List ℕ = indices_acked 0 outcomes in
    marks caller e 0 outcomes ++ (arrivals caller e acked ++ answer_inferred batch caller e acked)

-- the Done, which is heard if any transmission was acknowledged
abbrev pub done_by : ℕ → List Outcome → Option ℕ → Note
done_by e outcomes air = Asked (Done e (some_acked outcomes) air)

-- the machine's outcome for w if exchange e ends so
abbrev pub outcome_each : World → ℕ → ℕ → List Outcome → Option ℕ → MachineOutcome
outcome_each w caller e outcomes air =
    step (world_after w (calls_before_done (is_batch (exchange w e)) caller e outcomes))
    (done_by e outcomes air)

-- the frame of each id after the marks: each frame of x that never went on the air counts one transmission
-- less
abbrev pub bodies_each : Exchange → ℕ → List Outcome → (ℕ → FrameValue) → ℕ → FrameValue
bodies_each x i [] bodies = bodies
bodies_each x i (Unsent ∷ outcomes) bodies = bodies_each x (suc i) outcomes
    (with_transmission_unsent x.content i bodies)
bodies_each x i (other ∷ outcomes) bodies = bodies_each x (suc i) outcomes bodies

-- of these numbers of TID t of station s, exactly those whose transmissions were acknowledged are
-- acknowledged
abbrev pub AreAckedBy : World → ℕ → ℕ → List Mpdu → List Outcome → Type 0
AreAckedBy w s t [] outcomes = Unit {0}
AreAckedBy w s t (m ∷ ms) [] = Unit {0}
AreAckedBy w s t (m ∷ ms) (outcome ∷ outcomes) =
    (((slot (session w s t) m.number).state ≡ State.Acked) ↔ (is_outcome_acked outcome ≡ true))
    × AreAckedBy w s t ms outcomes

-- ---- in the half

-- whether no transmission of an open exchange has a mark
abbrev pub has_no_mark : Open → Bool
has_no_mark x = (length x.unsent == 0) && (length x.given_up == 0)

-- why an open exchange does not end with these outcomes, if it does not
abbrev pub each_fault : Config → List Outcome → Option ℕ → Open → Option Refusal
each_fault config outcomes air x =
    if not (length outcomes == transmissions_of x.sending) then Some BadIndex
    else if not (has_no_mark x) then Some Marked
    else if is_bad_air config air then Some BadAir
    else None

-- the same for the exchange with number e
abbrev pub each_refusal : TransmitValue → ℕ → List Outcome → Option ℕ → Option Refusal
each_refusal v e outcomes air = option_map_or (each_fault v.config outcomes air)
    (find (λ x. x.number == e) v.opened) (Some NoExchange)

-- how many frames of an exchange that ends so are acknowledged; a request has none
abbrev pub count_acked : List Outcome → Open → ℕ
count_acked outcomes x = if sending_is_request x.sending then 0 else length (indices_acked 0 outcomes)

-- The end of exchange e by what became of each of its transmissions makes q of the path p and answers with a
-- brief. `air` is the airtime, if it was given.
--
--   refused    a refusal is the answer, and changes nothing
--   driven     in an unheard world the end is the Done after exactly the marks and the calls that the
--              acknowledgements imply, and it leaves an unheard world
--   answered   none of these calls is refused
--   acked      exactly the numbers whose transmissions were acknowledged are acknowledged
--   counted    the answer counts them
--   addresses  the addresses are unchanged
--   path       q represents an unheard world
--   rises      the counts rise by this Done alone
pub record IsEndedEach (p : PathValue) (e : ℕ) (outcomes : List Outcome) (air : Option ℕ)
    (q : PathValue) (brief : Brief) : Type 0 where
  pub refused : (why : Refusal) → each_refusal p.half e outcomes air ≡ Some why →
      (brief ≡ Refused why) × (q ≡ p)
  pub driven : (w : World) (bodies : ℕ → FrameValue) (caller : ℕ) (x : Exchange) (pairs : List (ℕ × ℕ))
      (ids : List ℕ) → StandsFor p.half w bodies → IsUnheard w → exchange w e ≡ Some x →
      each_refusal p.half e outcomes air ≡ None →
      MeetsUnheard (bodies_each x 0 outcomes bodies) (outcome_each w caller e outcomes air) q.half
      (reply_with brief pairs ids)
  pub answered : (w : World) (bodies : ℕ → FrameValue) (caller : ℕ) → StandsFor p.half w bodies →
      IsUnheard w → each_refusal p.half e outcomes air ≡ None →
      AreAnswered w (calls_before_done (is_batch (exchange w e)) caller e outcomes)
  pub acked : (w : World) (bodies : ℕ → FrameValue) (caller : ℕ) (x : Exchange) → StandsFor p.half w bodies →
      IsUnheard w → exchange w e ≡ Some x → each_refusal p.half e outcomes air ≡ None →
      AreAckedBy (outcome_each w caller e outcomes air).world x.station x.tid (mpdus_of x.content) outcomes
  pub counted : (acked waiting failed : ℕ) → brief ≡ briefs.Done acked waiting failed →
      IfSome (find (λ x. x.number == e) p.half.opened) (λ x. acked ≡ count_acked outcomes x)
  pub addresses : q.addresses ≡ p.addresses
  pub path : IsPath q.half
  pub rises : RiseLittle p.half q.half

-- ---- an Ack

-- the outcome of the one transmission of a plain exchange, by whether its Ack was heard
abbrev pub outcome_of_ack : Bool → Outcome
outcome_of_ack acked = if acked then Acked else Retry

-- ---- nothing went on the air

-- the outcomes of exchange e if nothing of it went on the air
abbrev pub none_sent : TransmitValue → ℕ → List Outcome
none_sent v e = replicate (option_map_or (λ x. transmissions_of x.sending)
    (find (λ x. x.number == e) v.opened) 0) Unsent

-- the airtime of such an exchange: 1 microsecond, or if the setting `charge` takes none the computed one
abbrev pub air_of_none : Config → Option ℕ
air_of_none config = if nat_lt 0 config.charge then Some 1 else None
