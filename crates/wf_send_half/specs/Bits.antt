-- Defines which sequence numbers a BlockAck shows, by its start and its bits, and how an exchange ends by it.
use Rattle.std.specs.Prelude.{◌≡◌, ℕ, suc, ◌+◌, ◌<◌, ◌≤◌, ◌^◌, ◌==◌, nat_lt, Bool, true, false, is_some, is_none, not, ◌&&◌, ◌||◌, List, [], ◌∷◌, count_by, find, option_map, unwrap_or, Option, Some, None, IfSome, if◌then◌else◌}
use Rattle.wf_frame.specs.Classes.{class_of}
use Rattle.wf_frame.specs.Frames.{FrameValue}
use Rattle.wf_frame.specs.declared.notes.ReplyNote.{ReplyNote}
use Rattle.wf_frame.specs.declared.notes.ReplyNote.TheVariants.{Done as Ends}
use Rattle.wf_def_lists.specs.Bounds.{narrow_window, greatest_window}
use Rattle.wf_def_agreement.specs.Receiver.{Score, shows}
use Rattle.wf_def_agreement.specs.Session.{End}
use Rattle.wf_def_lists.specs.Table.{has}
use Rattle.wf_def_world.specs.World.{World, Exchange, Mpdu, exchange, is_wide}
use Rattle.wf_def_world.specs.CanSend.{is_request}
use Rattle.wf_def_world.specs.Exchanges.{mpdus_of, is_acked, charge_of, numbers_unsent, numbers_arrived}
use Rattle.wf_law_runs.specs.Delivery.{is_batch}
use Rattle.wf_law_runs.specs.Windows.{EachMpdu}
use Rattle.wf_send_parts.specs.Tally.{held_in}
use Rattle.wf_queue_flows.specs.Backlog.{held_in_backlog}
use Rattle.wf_octets.specs.Distance.{distance}
use Rattle.wf_send_parts.specs.declared.window.window.Settled.{Settled}
use Rattle.wf_send_parts.specs.declared.window.window.Settled.TheVariants.{Acked, Waiting, Failed}
use Rattle.wf_send_parts.specs.declared.exchanges.opened.Open.{Open}
use Rattle.wf_send_parts.specs.declared.exchanges.opened.Sending.{Sending}
use Rattle.wf_send_parts.specs.declared.exchanges.opened.Sending.TheVariants.{Data, Request as Starts_at}
use Rattle.wf_send_parts.specs.Exchanges.{has_nothing_sent}
use Rattle.wf_send_parts.specs.Members.{member, charged_in}
use Rattle.wf_send_parts.specs.Window.{on_air}
use Rattle.wf_send_half_model.specs.Half.{TransmitValue, is_ready_of}
use Rattle.wf_send_half_model.specs.Standing.{numbers_on_air, open_of, StandsFor}
use Rattle.wf_send_half_model.specs.Ending.{after_close, is_sent_once, IsEnding}
use Rattle.wf_send_half_model.specs.Pulling.{is_wide_of}
use Rattle.wf_send_half.specs.declared.finish.Closed.{Closed}
use Rattle.wf_send_half.specs.declared.finish.Ended.{Ended}
use Rattle.wf_send_half.specs.declared.finish.Report.{Report}
use Rattle.wf_frame.specs.Settings.{is_bad_air}
use Rattle.wf_frame.specs.declared.notes.Refusal.{Refusal}
use Rattle.wf_frame.specs.declared.notes.Refusal.TheVariants.{BadAir, NoExchange, NoAnswer}

-- ---- a BlockAck

-- how many numbers a BlockAck covers, from its start: 256, or 64 if the window is at most 64 (IEEE
-- 802.11-2012, 8.3.1.9)
abbrev pub span_of : Bool → ℕ
span_of wide = if wide then greatest_window else narrow_window

-- whether a BlockAck with this start and these bits shows number n, modulo 4096
abbrev pub shows_bits : Bool → ℕ → List ℕ → ℕ → Bool
shows_bits wide start bits n = nat_lt (distance n start) (span_of wide) && has bits (distance n start)

-- the same for the BlockAck that was heard, if any; if nothing was heard, no number is shown
abbrev pub is_shown : Bool → Option (ℕ × List ℕ) → ℕ → Bool
is_shown wide None n = false
is_shown wide (Some score) n = shows_bits wide score.0 score.1 n

-- how many of these numbers are shown
abbrev pub count_shown : Bool → Option (ℕ × List ℕ) → List ℕ → ℕ
count_shown wide heard numbers = count_by (is_shown wide heard) numbers

-- the numbers of an exchange, modulo 4096; a request has none
abbrev pub numbers_carried : Sending → List ℕ
numbers_carried (Data numbers) = numbers
numbers_carried (Starts_at start) = []

-- those of these numbers that went on the air; i is the index of the first one
abbrev pub without_unsent : ℕ → List ℕ → List ℕ → List ℕ
without_unsent i unsent [] = []
without_unsent i unsent (n ∷ ns) =
    if has unsent i then without_unsent (suc i) unsent ns else n ∷ without_unsent (suc i) unsent ns

-- the numbers of an exchange that went on the air, modulo 4096
abbrev pub numbers_sent : Open → List ℕ
numbers_sent x = without_unsent 0 x.unsent (numbers_carried x.sending)

-- how many of the numbers that went on the air are shown
abbrev pub count_shown_of : TransmitValue → Option (ℕ × List ℕ) → Open → ℕ
count_shown_of v heard x = count_shown (is_wide_of v x.station x.tid) heard (numbers_sent x)

-- how an exchange ends for number n, its transmission i, by the report on its transmissions
abbrev pub end_of_index : Report → ℕ → ℕ → End
end_of_index r i n =
    if has r.unsent i then End.Unsent
    else if is_shown r.wide r.heard n then End.Acknowledged
    else if r.last || has r.given_up i then End.GivenUp
    else End.Missed

-- whether a number of an open exchange that is not acknowledged is not sent again: the device repeats the
-- frames of a batch itself, and a number without an agreement may be too far above the last acknowledged one
abbrev pub is_last_of : TransmitValue → Open → Bool
is_last_of v x = x.batch || is_sent_once v x

-- the report on an open exchange, by the BlockAck that was heard
abbrev pub report_of : TransmitValue → Open → Option (ℕ × List ℕ) → Report
report_of v x heard = record {
  last = is_last_of v x;
  wide = is_wide_of v x.station x.tid;
  heard = heard;
  unsent = x.unsent;
  given_up = x.given_up;
}

-- each of these transmissions ends so by its index and its number on the air as it ends by its number; i is
-- the index of the first one
abbrev pub EndAlike : (ℕ → ℕ → End) → (ℕ → End) → ℕ → List Mpdu → Type 0
EndAlike by_index ends i [] = Unit {0}
EndAlike by_index ends i (m ∷ ms) =
    (by_index i (on_air m.number) ≡ ends m.number) × EndAlike by_index ends (suc i) ms

-- P holds for each transmission of an exchange of data that went on the air; a request has none
abbrev pub EachSent : (Mpdu → Type 0) → Exchange → Type 0
EachSent P x = EachMpdu (λ m. has (numbers_unsent x) m.number ≡ false → P m) (mpdus_of x.content)

-- for each number of an exchange that went on the air its receiver's answer shows the same as the bits
abbrev pub AreShown : World → Exchange → Score → Option (ℕ × List ℕ) → Type 0
AreShown w x b heard =
    EachSent (λ m. shows b m.number ≡ is_shown (is_wide w x.station x.tid) heard m.number) x

-- the bits show no number of an exchange that went on the air
abbrev pub NoneIsShown : World → Exchange → Option (ℕ × List ℕ) → Type 0
NoneIsShown w x heard = EachSent (λ m. is_shown (is_wide w x.station x.tid) heard m.number ≡ false) x

-- exactly those numbers of a batch arrived that went on the air and that the bits show
abbrev pub AreArrived : World → Exchange → Option (ℕ × List ℕ) → Type 0
AreArrived w x heard = EachSent (λ m. has (numbers_arrived x) m.number
    ≡ is_shown (is_wide w x.station x.tid) heard m.number) x

-- a request is heard if anything was
abbrev pub IsToldAs : Exchange → Option (ℕ × List ℕ) → Bool → Type 0
IsToldAs x heard told = is_request x.content ≡ true → told ≡ is_some heard

-- if exchange e is open, it is no batch
abbrev pub IsNoBatch : World → ℕ → Type 0
IsNoBatch w e = is_batch (exchange w e) ≡ false

-- An exchange ends by the BlockAck that was heard as by its receiver's answer, which was heard or not: both
-- show the same for each of its numbers that went on the air, and a request is heard if anything was. A batch
-- ends by what arrived.
pub record GoesBy (w : World) (x : Exchange) (heard : Option (ℕ × List ℕ)) (answered : Bool) : Type 0 where
  pub numbers : x.batch ≡ false → EachSent (λ m. is_acked answered x.answer m.number
      ≡ is_shown (is_wide w x.station x.tid) heard m.number) x
  pub arrived : x.batch ≡ true → AreArrived w x heard
  pub request : IsToldAs x heard answered

-- ---- conditions of the calls

-- if the exchange is open, the airtime of its station's exchanges in its class is below 2^62 microseconds
abbrev pub IsChargeSmall : TransmitValue → ℕ → Type 0
IsChargeSmall v e = IfSome (find (λ x. x.number == e) v.opened)
    (λ x. IfSome (member v.members x.station) (λ m. charged_in m x.class < 2 ^ 62))

-- the exchange is open, and this airtime is out of range
abbrev pub has_bad_air : TransmitValue → ℕ → Option ℕ → Bool
has_bad_air v e air = is_some (find (λ x. x.number == e) v.opened) && is_bad_air v.config air

-- whether an open exchange has no answer: it is no batch, and nothing of it went on the air
abbrev pub is_unanswered : Open → Bool
is_unanswered x = not x.batch && has_nothing_sent x

-- whether something was heard for an exchange that is open, but has no answer
abbrev pub is_answer_impossible : TransmitValue → ℕ → Option (ℕ × List ℕ) → Bool
is_answer_impossible v e heard =
    is_some heard && unwrap_or (option_map is_unanswered (find (λ x. x.number == e) v.opened)) false

-- why the end of an exchange is refused, if it is
abbrev pub end_refusal : TransmitValue → ℕ → Option (ℕ × List ℕ) → Option ℕ → Option Refusal
end_refusal v e heard air = if is_none (find (λ x. x.number == e) v.opened) then Some NoExchange
    else if is_answer_impossible v e heard then Some NoAnswer
    else if is_bad_air v.config air then Some BadAir
    else None

-- at least `count` frames are held outside the flow queues, and there is room to finish each
pub record CanFinish (v : TransmitValue) (count : ℕ) : Type 0 where
  pub room : held_in_backlog v.flows.backlog + count ≤ v.flows.backlog.room
  pub held : count ≤ held_in v.tally

-- the numbers of an aggregate to TID t of station s, modulo 4096, are not settled yet; `by_index` says how
-- the exchange ends for each
pub record IsToSettle (v : TransmitValue) (s t : ℕ) (numbers : List ℕ) (by_index : ℕ → ℕ → End) : Type 0 where
  pub world : World
  pub bodies : ℕ → FrameValue
  pub exchange : ℕ
  pub ends : ℕ → End
  pub mpdus : List Mpdu
  pub after : World
  pub ending : IsEnding v world bodies s t exchange ends mpdus after
  pub alike : EndAlike by_index ends 0 mpdus
  pub numbers_are : numbers ≡ numbers_on_air mpdus

-- exchange o is closed and charged, the given airtime if there was one, and its numbers are not settled yet
pub record IsClosed (v : TransmitValue) (o : Open) : Type 0 where
  pub before : TransmitValue
  pub world : World
  pub bodies : ℕ → FrameValue
  pub number : ℕ
  pub exchange_is : Exchange
  pub stands : StandsFor before world bodies
  pub known : exchange world number ≡ Some exchange_is
  pub same : o ≡ open_of exchange_is
  pub air : Option ℕ
  pub closed : v ≡ after_close before o (charge_of air exchange_is)

-- ---- results

-- one more number, by how its window settled it
abbrev pub with_one_more : Ended → Settled → Ended
with_one_more x (Acked f) = record x { acked = x.acked + 1 }
with_one_more x Waiting = record x { waiting = x.waiting + 1 }
with_one_more x (Failed f) = record x { failed = x.failed + 1 }

-- how many numbers these are in total
abbrev pub all_ended : Ended → ℕ
all_ended x = x.acked + x.waiting + x.failed

-- the reply of a Done
abbrev pub ended_reply : Ended → ReplyNote
ended_reply x = Ends x.acked x.waiting x.failed

-- the same for an exchange that ended
abbrev pub closed_reply : Closed → ReplyNote
closed_reply x = ended_reply x.ended

-- the exchange of this number, which was open in v, ended, and u is v then
pub record HasClosed (v u : TransmitValue) (e : ℕ) (closed : Closed) : Type 0 where
  pub exchange_is : Open
  pub known : Some exchange_is ≡ find (λ x. x.number == e) v.opened
  pub station : closed.station ≡ exchange_is.station
  pub class : closed.class ≡ class_of exchange_is.tid
  pub ready : closed.is_ready ≡ is_ready_of u closed.class closed.station
