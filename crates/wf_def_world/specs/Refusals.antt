-- Defines when a call is refused. Each call has rows, each with a test and a refusal; the first row
-- whose test holds refuses the call.
use Rattle.std.specs.Prelude.{ℕ, ◌+◌, ◌==◌, nat_lt, nat_le, pos, ◌-ℤ◌, int_lt, Bool, false, not, ◌&&◌, ◌||◌, List, [], ◌∷◌, Option, Some, None, is_some, is_none, if◌then◌else◌, length, count_by}
use Rattle.std.specs.List.{list_any}
use Rattle.wf_frame.specs.Settings.{is_bad_air}
use Rattle.wf_frame.specs.declared.classes.Class.{Class}
use Rattle.wf_frame.specs.declared.notes.Ask.{Ask}
use Rattle.wf_frame.specs.declared.notes.Ask.TheVariants.{Join, Leave, Rate, Tick, Pull, Arrive, Answer, Done, Sleep, Wake, Poll, Rx, Reap, Ampdu, Stop, Start, Unsent, GiveUp, Flush, Offload, Weight, Hold, Begin, Free, Cease, Group, Service, Bss}
use Rattle.wf_frame.specs.declared.notes.Ask.TheVariants as call
use Rattle.wf_frame.specs.declared.notes.GroupAsk.{GroupAsk}
use Rattle.wf_frame.specs.declared.notes.GroupAsk.TheVariants as group
use Rattle.wf_frame.specs.declared.notes.ServiceAsk.{ServiceAsk}
use Rattle.wf_frame.specs.declared.notes.ServiceAsk.TheVariants as service
use Rattle.wf_frame.specs.declared.notes.Note.{Note}
use Rattle.wf_frame.specs.declared.notes.Note.TheVariants.{Enqueue, Asked}
use Rattle.wf_frame.specs.declared.notes.Refusal.{Refusal}
use Rattle.wf_frame.specs.declared.notes.Refusal.TheVariants.{BadStation, BadWindow, BadStart, BadExponent, BadRate, BadTick, BadTid, BadAir, BadIndex, Live, NoStation, NoExchange, NoAnswer, Open, Room, Sleeping, Full, Idle, Answered, Arrived, Nothing, Asleep, Awake, Polled, Debt, BadWeight, Ahead, BadAmpdu, Stopped, Started, Marked, Offloaded, Agreed, Held, NotHeld, NotAgreed, Waits, Legacy, Buffered, Flying, BadClasses, BadBss}
use Rattle.wf_def_lists.specs.Table.{has, upto}
use Rattle.wf_def_lists.specs.Bounds.{greatest_window, greatest_start, greatest_exponent, greatest_weight, greatest_tid, greatest_tick, greatest_air, least_ampdu, greatest_ampdu, deepest_deficit}
use Rattle.wf_def_air.specs.Airtime.{is_single}
use Rattle.wf_def_agreement.specs.Session.{waiting_numbers}
use Rattle.wf_def_world.specs.Rates.{rate_asked, is_rate_with}
use Rattle.wf_def_world.specs.Group.{bss_count, may_go}
use Rattle.wf_def_world.specs.Service.{is_delivered, is_polled}
use Rattle.wf_def_world.specs.World.{World, Exchange, station, session, is_offloaded, is_agreed, is_held_back, is_live, inside, group_of, is_any_asleep, share, exchange, owed_by_all}
use Rattle.wf_frame.specs.Classes.{same_class, lower_tid, upper_tid, class_of, greatest_classes}
use Rattle.wf_def_world.specs.FlowQueues.{frames_queued}
use Rattle.wf_def_world.specs.CanSend.{can_send, can_send_in}
use Rattle.wf_def_world.specs.Exchanges.{picked_station, transmissions, is_marked}

-- the refusal of the first row whose test holds
unfoldable pub first_refusal : List (Bool × Refusal) → Option Refusal
first_refusal [] = None
first_refusal (row ∷ rows) = if row.0 then Some row.1 else first_refusal rows

-- whether n is from low to high
abbrev pub is_within : ℕ → ℕ → ℕ → Bool
is_within low high n = nat_le low n && nat_le n high

-- whether s is not the number of a station: it is not below the setting `stations`
abbrev pub is_bad_station : World → ℕ → Bool
is_bad_station w s = nat_le w.config.stations s

-- whether b is not the number of a BSS
abbrev pub is_bad_bss : World → ℕ → Bool
is_bad_bss w b = nat_le (bss_count w.config.bsses) b

-- the number of frames that are queued for a station in a class
abbrev pub queued_in_class : World → ℕ → Class → ℕ
queued_in_class w s c = frames_queued w s (lower_tid c) + frames_queued w s (upper_tid c)

-- whether a station sleeps and at least `sleeping` frames are queued for it in a class
abbrev pub sleeps_full : World → ℕ → Class → Bool
sleeps_full w s c = (station w s).asleep && nat_le w.config.sleeping (queued_in_class w s c)

-- the number of open exchanges of a station
abbrev pub open_of_station : World → ℕ → ℕ
open_of_station w s = count_by (λ x. x.station == s) w.opened

-- the number of open exchanges of TID t of a station
abbrev pub open_of_tid : World → ℕ → ℕ → ℕ
open_of_tid w s t = count_by (λ x. (x.station == s) && (x.tid == t)) w.opened

-- how many numbers of TID t of a station wait to be sent
abbrev pub numbers_waiting : World → ℕ → ℕ → ℕ
numbers_waiting w s t = length (waiting_numbers (session w s t))

-- whether some TID of a station has an agreement or is held
abbrev pub is_any_agreed : World → ℕ → Bool
is_any_agreed w s = list_any (λ t. is_agreed w s t || is_held_back w s t) (upto (1 + greatest_tid))

-- the number of open exchanges of a class
abbrev pub open_of_class : World → Class → ℕ
open_of_class w c = count_by (λ x. same_class x.class c) w.opened

-- whether the airtime in flight in all classes has reached the setting `aql_total`, which is no limit if it
-- is 0
abbrev pub is_at_aql_total : World → Bool
is_at_aql_total w = nat_lt 0 w.config.aql_total && nat_le w.config.aql_total (owed_by_all w.opened)

-- whether some TID of a station can send, of the classes that pass a test
abbrev pub can_send_any : World → ℕ → (Class → Bool) → Bool
can_send_any w s p = list_any (λ t. p (class_of t) && can_send w s t) (upto (1 + greatest_tid))

-- whether a credit blocks a poll: with the setting `credits`, only one in whose class the station can send
abbrev pub is_live_credit : World → ℕ → Option Class → Bool
is_live_credit w s None = false
is_live_credit w s (Some c) = (w.config.credits == 0) || can_send_in w s c

-- whether a station has a credit that blocks a poll
abbrev pub has_live_credit : World → ℕ → Bool
has_live_credit w s = is_live_credit w s (station w s).credit

-- whether the exchange is open and passes a test
abbrev pub exchange_has : Option Exchange → (Exchange → Bool) → Bool
exchange_has None p = false
exchange_has (Some x) p = p x

-- the number of group frames of BSS b that are queued
abbrev pub group_queued : World → ℕ → ℕ
group_queued w b = length (group_of w b).queued

-- the rows of a call about the group frames of BSS b that follow the first, in order
abbrev pub group_refusals : World → ℕ → GroupAsk → List (Bool × Refusal)
group_refusals w b (group.Accept len) = (
    (nat_le w.config.buffered (group_queued w b), Buffered (group_queued w b)) ∷ [])
group_refusals w b group.Beacon = []
group_refusals w b group.Pull = (
    (is_some (group_of w b).flying, Flying) ∷ (not (may_go (is_any_asleep w b) (group_of w b)), Idle) ∷ [])
group_refusals w b group.Done = ((is_none (group_of w b).flying, Nothing) ∷ [])

-- the rows of a call about the service periods of a station, in order
abbrev pub service_refusals : World → ServiceAsk → List (Bool × Refusal)
service_refusals w (service.Set s classes most) = (
    (is_bad_station w s, BadStation) ∷ (nat_lt greatest_classes classes, BadClasses) ∷
    (not (is_live w s), NoStation) ∷ ((station w s).asleep, Asleep) ∷ [])
service_refusals w (service.Trigger s) = (
    (is_bad_station w s, BadStation) ∷ (not (is_live w s), NoStation) ∷
    (not (station w s).asleep, Awake) ∷ (is_some (station w s).service, Polled) ∷
    (not (can_send_any w s (is_delivered (station w s))), Nothing) ∷ [])
service_refusals w (service.End s) = (
    (is_bad_station w s, BadStation) ∷ (not (is_live w s), NoStation) ∷
    (is_none (station w s).service, Nothing) ∷ [])

-- the rows of a call that brings no frame for a station, in order
abbrev pub refusals_of : World → Ask → List (Bool × Refusal)
refusals_of w (Join s window start exponent weight) = (
    (is_bad_station w s, BadStation) ∷ (not (is_within 1 greatest_window window), BadWindow)
    ∷ (nat_lt greatest_start start, BadStart) ∷
    (nat_lt greatest_exponent exponent, BadExponent) ∷ (not (is_within 1 greatest_weight weight), BadWeight)
    ∷ (is_live w s, Live) ∷ [])
refusals_of w (Offload s exponent weight) = (
    (is_bad_station w s, BadStation) ∷ (nat_lt greatest_exponent exponent, BadExponent)
    ∷ (not (is_within 1 greatest_weight weight), BadWeight) ∷ (is_live w s, Live) ∷ [])
refusals_of w (Weight s weight) = (
    (is_bad_station w s, BadStation) ∷ (not (is_within 1 greatest_weight weight), BadWeight)
    ∷ (not (is_live w s), NoStation) ∷ [])
refusals_of w (call.Plain s start exponent weight) = (
    (is_bad_station w s, BadStation) ∷ (nat_lt greatest_start start, BadStart) ∷
    (nat_lt greatest_exponent exponent, BadExponent) ∷ (not (is_within 1 greatest_weight weight), BadWeight)
    ∷ (is_live w s, Live) ∷ [])
refusals_of w (Hold s t) = (
    (is_bad_station w s, BadStation) ∷ (nat_lt greatest_tid t, BadTid) ∷ (not (is_live w s), NoStation) ∷
    (is_offloaded w s, Offloaded) ∷ (is_agreed w s t, Agreed) ∷ (is_held_back w s t, Held) ∷
    (is_single (station w s).rate, Legacy) ∷ [])
refusals_of w (Begin s t window) = (
    (is_bad_station w s, BadStation) ∷ (nat_lt greatest_tid t, BadTid) ∷
    (not (is_within 1 greatest_window window), BadWindow) ∷ (not (is_live w s), NoStation) ∷
    (not (is_held_back w s t), NotHeld) ∷ (nat_lt 0 (open_of_tid w s t), Open (open_of_tid w s t)) ∷
    (nat_lt 0 (numbers_waiting w s t), Waits (numbers_waiting w s t)) ∷ [])
refusals_of w (Free s t) = (
    (is_bad_station w s, BadStation) ∷ (nat_lt greatest_tid t, BadTid) ∷ (not (is_live w s), NoStation) ∷
    (not (is_held_back w s t), NotHeld) ∷ [])
refusals_of w (Cease s t) = (
    (is_bad_station w s, BadStation) ∷ (nat_lt greatest_tid t, BadTid) ∷ (not (is_live w s), NoStation) ∷
    (not (is_agreed w s t), NotAgreed) ∷ (nat_lt 0 (open_of_tid w s t), Open (open_of_tid w s t)) ∷ [])
refusals_of w (Leave s) = (
    (is_bad_station w s, BadStation) ∷ (not (is_live w s), NoStation) ∷
    (nat_lt 0 (open_of_station w s), Open (open_of_station w s)) ∷ [])
refusals_of w (Rate s rate) = (
    (is_bad_station w s, BadStation) ∷ (not (is_rate_with w.config.legacy (rate_asked rate)), BadRate)
    ∷ (not (is_live w s), NoStation) ∷ (is_single (rate_asked rate) && is_any_agreed w s, Agreed) ∷ [])
refusals_of w (Tick by) = ((nat_lt greatest_tick by, BadTick) ∷ [])
refusals_of w (Pull c limits) = (
    (nat_le w.config.inflight (open_of_class w c), Full (open_of_class w c)) ∷
    (is_at_aql_total w, Ahead (owed_by_all w.opened)) ∷
    (is_none (picked_station w c).winner, Idle) ∷ [])
refusals_of w (Arrive e i) = (
    (is_none (exchange w e), NoExchange) ∷
    (exchange_has (exchange w e) (λ x. nat_le (transmissions x.content) i), BadIndex) ∷
    (exchange_has (exchange w e) (λ x. is_some x.answer), Answered) ∷
    (exchange_has (exchange w e) (λ x. has x.arrived i), Arrived) ∷
    (exchange_has (exchange w e) (λ x. has x.unsent i), Marked) ∷ [])
refusals_of w (Answer e) = (
    (is_none (exchange w e), NoExchange) ∷
    (exchange_has (exchange w e) (λ x. is_some x.answer), Answered) ∷
    (exchange_has (exchange w e) (λ x. x.batch || (length x.arrived == 0)), Nothing) ∷ [])
refusals_of w (Done e heard air) = (
    (is_none (exchange w e), NoExchange) ∷
    (heard && exchange_has (exchange w e) (λ x. not x.batch && is_none x.answer), NoAnswer) ∷
    (is_bad_air w.config air, BadAir) ∷ [])
refusals_of w (Sleep s) = (
    (is_bad_station w s, BadStation) ∷ (not (is_live w s), NoStation) ∷
    ((station w s).asleep, Asleep) ∷ [])
refusals_of w (Wake s) = (
    (is_bad_station w s, BadStation) ∷ (not (is_live w s), NoStation) ∷
    (not (station w s).asleep, Awake) ∷ [])
refusals_of w (Poll s) = (
    (is_bad_station w s, BadStation) ∷ (not (is_live w s), NoStation) ∷
    (not (station w s).asleep, Awake) ∷
    (has_live_credit w s, Polled) ∷ (not (can_send_any w s (is_polled (station w s))), Nothing) ∷ [])
refusals_of w (Rx s c air) = (
    (is_bad_station w s, BadStation) ∷ (not (is_within 1 greatest_air air), BadAir)
    ∷ (not (is_live w s), NoStation) ∷ (
      int_lt ((share w s c).deficit -ℤ pos air) (deepest_deficit w.config.debt),
      Debt (share w s c).deficit,
    ) ∷ [])
refusals_of w Reap = ((length w.finished == 0, Nothing) ∷ [])
refusals_of w (Ampdu s octets) = (
    (is_bad_station w s, BadStation) ∷ (not (is_within least_ampdu greatest_ampdu octets), BadAmpdu)
    ∷ (not (is_live w s), NoStation) ∷ [])
refusals_of w (Stop s) = (
    (is_bad_station w s, BadStation) ∷ (not (is_live w s), NoStation) ∷
    ((station w s).stopped, Stopped) ∷ [])
refusals_of w (Start s) = (
    (is_bad_station w s, BadStation) ∷ (not (is_live w s), NoStation) ∷
    (not (station w s).stopped, Started) ∷ [])
refusals_of w (Unsent e i) = (
    (is_none (exchange w e), NoExchange) ∷
    (exchange_has (exchange w e) (λ x. nat_le (transmissions x.content) i), BadIndex) ∷
    (exchange_has (exchange w e) (λ x. is_some x.answer), Answered) ∷
    (exchange_has (exchange w e) (λ x. has x.arrived i), Arrived) ∷
    (exchange_has (exchange w e) (λ x. is_marked x i), Marked) ∷ [])
refusals_of w (GiveUp e i) = (
    (is_none (exchange w e), NoExchange) ∷
    (exchange_has (exchange w e) (λ x. nat_le (transmissions x.content) i), BadIndex) ∷
    (exchange_has (exchange w e) (λ x. is_marked x i), Marked) ∷ [])
refusals_of w (Flush s t) = (
    (is_bad_station w s, BadStation) ∷ (nat_lt greatest_tid t, BadTid) ∷ (not (is_live w s), NoStation) ∷ [])
refusals_of w (Group g) = ((is_bad_bss w g.bss, BadBss) ∷ group_refusals w g.bss g.ask)
refusals_of w (Service ask) = service_refusals w ask
refusals_of w (Bss s b) = (
    (is_bad_station w s, BadStation) ∷ (is_bad_bss w b, BadBss) ∷ (not (is_live w s), NoStation) ∷
    ((station w s).asleep, Asleep) ∷ [])

-- the rows of a call, in order
abbrev pub refusals : World → Note → List (Bool × Refusal)
refusals w (Enqueue s t flow len) = (
    (is_bad_station w s, BadStation) ∷ (nat_lt greatest_tid t, BadTid) ∷ (not (is_live w s), NoStation) ∷
    (nat_le w.config.room (inside w), Room (inside w)) ∷
    (sleeps_full w s (class_of t), Sleeping (queued_in_class w s (class_of t))) ∷ [])
refusals w (Asked ask) = refusals_of w ask

-- why a call is refused, if it is
abbrev pub refusal : World → Note → Option Refusal
refusal w note = first_refusal (refusals w note)
