-- Defines the calls of the machine that are inferred from a BlockAck which a driver gives: just before the
-- exchange's Done each of its numbers that the BlockAck shows arrived, no other did, and the receiver
-- answered (IEEE 802.11-2012, 9.21.7.7). The calls belong to `caller`, the exchange's number is e, and
-- `shown` says of each number, which does not wrap, whether the BlockAck shows it. A number that never went
-- on the air did not arrive, so a BlockAck that shows it is not believed. A batch has no BlockAck: `shown` is
-- what the station's device said of each frame, and no answer is inferred.
use Rattle.std.specs.Prelude.{◌≡◌, ℕ, suc, nat_lt, Bool, true, false, not, ◌&&◌, ◌↔◌, List, [], ◌∷◌, ◌++◌, Option, None, Some, if◌then◌else◌, length, map}
use Rattle.std.specs.List.{list_all}
use Rattle.wf_frame.specs.declared.settings.Config.{Config}
use Rattle.wf_frame.specs.declared.notes.Ask.TheVariants.{Arrive, Answer, Done}
use Rattle.wf_frame.specs.declared.notes.Note.{Note}
use Rattle.wf_frame.specs.declared.notes.Note.TheVariants.{Asked}
use Rattle.wf_def_lists.specs.Table.{has, upto}
use Rattle.wf_def_agreement.specs.Session.{State, slot}
use Rattle.wf_def_agreement.specs.Receiver.{Score, shows}
use Rattle.wf_def_world.specs.World.{World, Exchange, Mpdu, Content, Frames, Request, session, exchange, opening}
use Rattle.wf_def_world.specs.Exchanges.{transmissions, numbers_unsent, numbers_arrived, mpdus_of}
use Rattle.wf_def_world.specs.Refusals.{refusal}
use Rattle.wf_frame.specs.Settings.{is_bad_air}
use Rattle.wf_def_world.specs.Step.{step}
use Rattle.wf_def_world.specs.Run.{Entry, by, world_after}
use Rattle.wf_law_runs.specs.Queues.{HaveLengths, AreAtMost}
use Rattle.wf_law_runs.specs.Windows.{EachMpdu}
use Rattle.wf_law_driver.specs.Unheard.{unmarked, IsUnheard}

-- whether the BlockAck is believed to show number n: it shows it, and the number went on the air
abbrev pub shown_of_sent : Exchange → (ℕ → Bool) → ℕ → Bool
shown_of_sent x shown n = shown n && not (has (numbers_unsent x) n)

-- whether nothing of the exchange went on the air
abbrev pub is_wholly_unsent : Exchange → Bool
is_wholly_unsent x = list_all (has x.unsent) (upto (transmissions x.content))

-- Only numbers that went on the air are shown, and if the exchange is no batch, there are such numbers.
pub record ShowsSent (shown : ℕ → Bool) (x : Exchange) : Type 0 where
  pub numbers : EachMpdu (λ m. shown m.number ≡ true → has (numbers_unsent x) m.number ≡ false)
      (mpdus_of x.content)
  pub some : x.batch ≡ false → is_wholly_unsent x ≡ false

-- the indices of the numbers that are shown: i is the index of the first number
abbrev pub shown_indices : (ℕ → Bool) → ℕ → List Mpdu → List ℕ
shown_indices shown i [] = []
shown_indices shown i (m ∷ ms) =
    if shown m.number then i ∷ shown_indices shown (suc i) ms else shown_indices shown (suc i) ms

-- the transmissions of an exchange that are inferred to arrive: those whose numbers are shown, or that of a
-- request
abbrev pub indices_inferred : (ℕ → Bool) → Content → List ℕ
indices_inferred shown (Frames mpdus) = shown_indices shown 0 mpdus
indices_inferred shown (Request start) = 0 ∷ []

-- the Arrive calls for these transmissions of exchange e, in order
abbrev pub arrivals : ℕ → ℕ → List ℕ → List Entry
arrivals caller e indices = map (λ i. by caller (Asked (Arrive e i))) indices

-- the Answer call after them, if there are any and the exchange is no batch
abbrev pub answer_inferred : Bool → ℕ → ℕ → List ℕ → List Entry
answer_inferred batch caller e [] = []
answer_inferred true caller e (i ∷ indices) = []
answer_inferred false caller e (i ∷ indices) = by caller (Asked (Answer e)) ∷ []

-- The calls that are inferred from a BlockAck for exchange e, which is a batch or not. If it shows none of an
-- aggregate's numbers, there are none.
abbrev pub inferred : ℕ → ℕ → (ℕ → Bool) → Bool → Content → List Entry
inferred caller e shown batch content =
    let indices : List ℕ = indices_inferred shown content in
    arrivals caller e indices ++ answer_inferred batch caller e indices

-- whether any calls are inferred; if not, the exchange ends as if it had not been heard
abbrev pub tells : (ℕ → Bool) → Content → Bool
tells shown content = nat_lt 0 (length (indices_inferred shown content))

-- the world after the inferred calls
abbrev pub after_inferred : World → ℕ → ℕ → (ℕ → Bool) → Bool → Content → World
after_inferred w caller e shown batch content = world_after w (inferred caller e shown batch content)

-- the Done after the inferred calls, which gives this airtime
abbrev pub done_inferred : ℕ → (ℕ → Bool) → Option ℕ → Content → Note
done_inferred e shown air content = Asked (Done e (tells shown content) air)

-- each of these calls is answered: none is refused
abbrev pub AreAnswered : World → List Entry → Type 0
AreAnswered w [] = Unit {0}
AreAnswered w (e ∷ es) = (refusal w e.1 ≡ None) × AreAnswered (step w e.1).world es

-- Exchange e is open, is x except for what its receiver did, and keeps an answer that shows exactly these of
-- its numbers.
pub record KeepsAnswer (w : World) (e : ℕ) (shown : ℕ → Bool) (x : Exchange) : Type 0 where
  pub marked : Exchange
  pub answer : Score
  pub open_now : exchange w e ≡ Some marked
  pub same : unmarked marked ≡ unmarked x
  pub kept : marked.answer ≡ Some answer
  pub shows : EachMpdu (λ m. shows answer m.number ≡ shown m.number) (mpdus_of x.content)

-- Exchange e is open, is x except for what arrived of it, and exactly these of its numbers arrived.
pub record KeepsArrived (w : World) (e : ℕ) (shown : ℕ → Bool) (x : Exchange) : Type 0 where
  pub marked : Exchange
  pub open_now : exchange w e ≡ Some marked
  pub same : unmarked marked ≡ unmarked x
  pub arrived : EachMpdu (λ m. has (numbers_arrived marked) m.number ≡ shown m.number) (mpdus_of x.content)

-- exactly the numbers of x that are shown are acknowledged
abbrev pub AreAckedWhere : World → (ℕ → Bool) → Exchange → Type 0
AreAckedWhere w shown x =
    EachMpdu (λ m. ((slot (session w x.station x.tid) m.number).state ≡ State.Acked) ↔
    (shown m.number ≡ true)) (mpdus_of x.content)

-- The result of the inferred calls for x, an open exchange e of w: each of them is answered, and the answer
-- that is kept then shows what the BlockAck shows; of a batch, exactly the numbers shown have arrived. After
-- the exchange's Done exactly the numbers shown are acknowledged, and no receiver has anything that its
-- sender does not know of.
pub record IsInferred (w : World) (caller e : ℕ) (shown : ℕ → Bool) (air : Option ℕ)
    (x : Exchange) : Type 0 where
  pub answered : AreAnswered w (inferred caller e shown x.batch x.content)
  pub keeps : x.batch ≡ false → tells shown x.content ≡ true →
      KeepsAnswer (after_inferred w caller e shown x.batch x.content) e shown x
  pub arrived : x.batch ≡ true → KeepsArrived (after_inferred w caller e shown x.batch x.content) e shown x
  pub ends : refusal (after_inferred w caller e shown x.batch x.content) (done_inferred e shown air x.content)
      ≡ None
  pub acked : AreAckedWhere (step (after_inferred w caller e shown x.batch x.content)
      (done_inferred e shown air x.content)).world
      shown x
  pub unheard : IsUnheard (step (after_inferred w caller e shown x.batch x.content)
      (done_inferred e shown air x.content)).world

-- this holds in an unheard world after a history, for each open exchange that is a batch or of which
-- something went on the air, if only numbers are shown that went on the air, and for each airtime that its
-- Done may give
abbrev pub InferredLaw : Config → List Entry → Type 0
InferredLaw config history =
    let w : World = world_after (opening config) history in
    (caller e : ℕ) (shown : ℕ → Bool) (air : Option ℕ) (x : Exchange) → IsUnheard w → exchange w e ≡ Some x →
    ShowsSent shown x → is_bad_air w.config air ≡ false → IsInferred w caller e shown air x

-- Calls continue a history: the world after the history and the calls is the world after the calls, from
-- the history's world on. If each frame of the history has at least one octet, or at most a given number,
-- so has each of both.
pub record HistoryGoesOn (config : Config) (history entries : List Entry) : Type 0 where
  pub world : world_after (opening config) (history ++ entries)
      ≡ world_after (world_after (opening config) history) entries
  pub lengths : HaveLengths history → HaveLengths (history ++ entries)
  pub most : (octets : ℕ) → AreAtMost octets history → AreAtMost octets (history ++ entries)

-- the inferred calls continue each history, since they bring no frame
abbrev pub RunLaw : Config → List Entry → Type 0
RunLaw config history = (caller e : ℕ) (shown : ℕ → Bool) (batch : Bool) (content : Content) →
    HistoryGoesOn config history (inferred caller e shown batch content)
