-- Proves that the invariant of each agreement and of each open exchange holds in every world of a run. By
-- cases of the call and induction on the run.
use Rattle.std.proofs.Common.{◌≡◌, ◌≢◌, refl, ap, sym, ◌∙◌, subst, arith, ℕ, zero, suc, ◌+◌, ◌-◌, ◌<◌, ◌≤◌, nat_lt, append-nil, max, pos, ◌+ℤ◌, ◌*◌, Bool, true, false, if◌then◌else◌, not, ◌&&◌, ◌==◌, ◌||◌, ◌⊎◌, inl, inr, is_none, sum_by, count_by, List, [], ◌∷◌, ◌++◌, length, map, filter, nat_le, Option, Some, None, IfSome, is_some, unwrap_or, option_map}
use Rattle.wf_frame.specs.declared.settings.Config.{Config}
use Rattle.wf_frame.specs.declared.classes.Class.{Class}
use Rattle.wf_def_lists.specs.Table.{at, has, with_member, put, change, upto}
use Rattle.wf_def_lists.specs.Bounds.{greatest_window}
use Rattle.wf_law_runs.specs.Offloads.{IsOffloadRight}
use Rattle.wf_def_codel.specs.Codel.{Item}
use Rattle.wf_def_rotation.specs.Rotation.{in_order}
use Rattle.wf_def_agreement.specs.Receiver.{Receiver, with_arrived, with_start, Score, score, shows}
use Rattle.wf_def_agreement.specs.Session.{request_due, start_of, waiting_numbers, Session, Slot, State, End, is_settled, is_failed, slot_after_miss, slot_given_up, slot, on_slot, with_number_given, after_flush, next_number, has_room}
use Rattle.wf_def_world.specs.World.{quantum, new_queue, no_share, receiver, share, World, Station, Share, Tid, Mode, Plain, OnHold, Agreed, Queue, Exchange, Mpdu, Content, Frames, Request, new_tid, no_tid, no_station, rotation, session, tid_of, is_live, is_offloaded, is_agreed, is_plain, is_held_back, has_agreement, holds_back, exchange, with_station, on_station, on_tid, on_session, on_receiver, on_share, with_rotation, with_exchange, without_exchange, opening}
use Rattle.wf_def_world.specs.Service.{station_served}
use Rattle.wf_frame.specs.Classes.{lower_tid, upper_tid, class_number, all_classes}
use Rattle.wf_def_world.specs.FlowQueues.{taken_for_tid}
use Rattle.wf_def_world.specs.CanSend.{is_request, request_open, can_send, can_send_in, is_ready, can_give}
use Rattle.wf_def_world.specs.Exchanges.{number_at, caught_up, caught_up_if_plain, is_acked, end_of, transmissions, no_mpdu, station_need, most_frames, picked_station, after_arrival, exchange_of, sending_tid, with_heard_start, Aggregate, Prepared, mpdus_of, with_station_paid, with_stations_paid, after_pick, after_tid_turn, with_fresh, aggregate_of, with_number, fresh_mpdus, with_flying, waiting_mpdus, longest_fitting, prepared_data, prepared_exchange, with_exchange_opened, after_charge, with_failed_finished, with_settled, with_all_settled, after_done}
use Rattle.wf_frame.specs.declared.notes.Ask.TheVariants.{Join, Leave, Rate, Tick, Pull, Arrive, Answer, Done, Sleep, Wake, Poll, Rx, Reap, Ampdu, Stop, Start, Unsent, GiveUp, Flush, Offload, Weight, Hold, Begin, Free, Cease, Group, Service, Bss}
use Rattle.wf_frame.specs.declared.notes.Ask.TheVariants as call
use Rattle.wf_frame.specs.declared.notes.Limits.{Limits}
use Rattle.wf_frame.specs.declared.notes.Note.{Note}
use Rattle.wf_frame.specs.declared.notes.Note.TheVariants.{Enqueue, Asked}
use Rattle.wf_frame.specs.declared.notes.Refusal.{Refusal}
use Rattle.wf_frame.specs.declared.notes.Refusal.TheVariants.{Idle}
use Rattle.wf_def_world.specs.Refusals.{exchange_has, is_within, open_of_station, refusals, refusal}
use Rattle.wf_def_world.specs.Step.{Outcome, new_station, join_outcome, offload_outcome, after_tid_left, after_tids_left, without_listings, leave_outcome, rate_outcome, tick_outcome, with_frame, enqueue_outcome, send_outcome, pull_outcome_for, pull_outcome, arrive_outcome, answer_outcome, done_outcome, outcome_where_open, sleep_outcome, wake_outcome, poll_outcome, rx_outcome, reap_outcome, unsent_outcome, give_up_outcome, flush_outcome, begin_outcome, cease_outcome, plain_outcome, plain_window, after_numbers_ended, outcome_of, after_refusal, judged_outcome, step}
use Rattle.wf_def_world.specs.Run.{Entry, world_after}
use Rattle.std.specs.List.{list_any}
use Rattle.std.proofs.lemmas.List.Sums.{sum_by-cons}
use Rattle.wf_law_rules.proofs.Lemmas.Tables.{each_put, at_put_same, at_put_other}
use Rattle.wf_law_runs.proofs.Common.Refused.{after_idle}
use Rattle.wf_law_runs.proofs.Common.Marks.{with_marks, marked_world}
use Rattle.wf_law_runs.proofs.Common.Ends.{missed_not_acked, end_backed, end_not_flying}
use Rattle.wf_law_runs.proofs.Common.Flushes.{flush_along, emptied_world, flush_is}
use Rattle.wf_law_runs.proofs.Sessions.Starts.{start_ge, length-change}
use Rattle.wf_law_runs.proofs.Sessions.Flights.{AllIn, Rises, rises_weaken, all_in_later, IsFlown, flown, IsChosen, chosen_fitting, chosen_waiting, chosen_give, chosen_fresh}
use Rattle.wf_law_rules.proofs.Lemmas.Numbers.{le_yes, or_left, or_right, has_old, on_bool, on_if, eq_yes, eq_no, yes_eq, either, both, and_true, has_new}
use Rattle.wf_law_runs.proofs.Common.Picked.{picked_world}
use Rattle.wf_law_runs.proofs.Windows.Sides.{same_held, same_freed, held_not_agreed, renewed, begun_is, ceased_is, same_ended, same_emptied, each_tid_at, sided, caught_up_is, told_start, on_offloaded, same_plain, same_weighed, Side, side_of, side, sides_of, Same, each_side_on, at_side_on, side_on, on_live, on_opened, on_exchanges, same, then_same, same_on_station, same_with_queues, same_on_share, same_with_rotation, same_finish, same_finish_all, same_listed, same_after_pick, same_after_turn, same_spent, same_within_limit, same_put_in, same_take, same_purge_queues, same_charged, same_picked}
use Rattle.wf_law_runs.proofs.Windows.Agreement.{below_next, slot_same, IsUntold, quiet_on_slot, agreed_told, told_quiet, quiet_heard, IsAgreed, due_at, agreed_on_slot, not_due_give, agreed_give, agreed_heard, agreed_arrived, agreed_start, agreed_new, IsAsked, IsOpen, request_map, open_on_slot, open_flies, open_arrived, open_start, open_heard, agreed_fly, answer_right, AllRight, IfRequest}
use Rattle.wf_law_runs.specs.Windows.{SomeOpen, IsSending, OpenRises}
use Rattle.wf_law_runs.proofs.Windows.Senders.{Lands, lands_on_slot, lands_give, lands_heard, lands_flush, fly_or, some_front, some_last, some_without, some_copied, none_sending, rises_new, rises_replaced, rises_filter, found_only, start_flush}
use Rattle.wf_law_runs.proofs.Windows.Opened.{not_less, Each, each_map, each_both, each_append, each_filter, each_find, FlyIn, fly_give, differ, some_along, pick_ready, can_give-room, eight, none_open, NoRow, no_row}

-- ---- worlds in which the invariant holds for each agreement and each open exchange

abbrev pub AgreedAt : Side → Type 0
AgreedAt a = IsAgreed a.session a.receiver

abbrev pub OpenAt : Exchange → Side → Type 0
OpenAt x a = IsOpen x a.session a.receiver

pub record IsOpenIn (w : World) (x : Exchange) : Type 0 where
  pub live : is_live w x.station ≡ true
  pub below : x.number < w.exchanges
  -- It is a batch exactly if its station is offloaded, and then it is no request.
  pub right : IsOffloadRight w x
  -- It is plain exactly if its TID is, and without an agreement it is no request.
  pub plain : x.plain ≡ is_plain w x.station x.tid
  pub calm : is_agreed w x.station x.tid ≡ false → is_request x.content ≡ false
  pub opened : OpenAt x (side w x.station x.tid)

abbrev pub asks : ℕ → ℕ → Exchange → Bool
asks s t x = (x.station == s) && ((x.tid == t) && is_request x.content)

-- At most one of the exchanges is a request of this TID.
pub record IsSole (xs : List Exchange) (s t : ℕ) : Type 0 where
  pub who : ℕ
  pub only : Each (λ x. asks s t x ≡ true → x.number ≡ who) xs

-- Each number on the air of a session is sent by an open exchange.
abbrev pub AreSent : List Exchange → ℕ → ℕ → Session → Type 0
AreSent xs s t y = (n e : ℕ) → y.first ≤ n → (slot y n).state ≡ State.Flying e → SomeOpen
    (IsSending s t e n) xs

-- A TID, whose station is offloaded or not: a device has no agreement and holds back no TID, and a plain TID
-- has a window of at most one number.
pub record IsModed (offloaded : Bool) (y : Tid) : Type 0 where
  pub device : offloaded ≡ true → has_agreement y.mode ≡ false
  pub held : offloaded && holds_back y.mode ≡ true → ⊥
  pub narrow : not (offloaded || has_agreement y.mode) ≡ true → y.session.size ≤ 1

-- The invariant. Without an agreement no request is due, and each number on the air is sent by an open
-- exchange. The TIDs that the test passes are excepted from both.
pub record IsLawfulBut (but : ℕ → ℕ → Bool) (w : World) : Type 0 where
  pub agreed : (s t : ℕ) → AgreedAt (side w s t)
  pub opened : Each (IsOpenIn w) w.opened
  pub sole : (s t : ℕ) → IsSole w.opened s t
  pub rising : OpenRises 0 w.exchanges w.opened
  pub moded : (s t : ℕ) → IsModed (is_offloaded w s) (tid_of w s t)
  pub quiet : (s t : ℕ) → but s t ≡ false → is_agreed w s t ≡ false →
      request_due (side w s t).session ≡ false
  pub sent : (s t : ℕ) → but s t ≡ false → AreSent w.opened s t (session w s t)

-- No TID is excepted.
abbrev pub IsLawful : World → Type 0
IsLawful w = IsLawfulBut (λ s t. false) w

-- Only this TID is excepted.
abbrev pub is_tid : ℕ → ℕ → ℕ → ℕ → Bool
is_tid s t i j = (i == s) && (j == t)

pub lawful_but : (p : ℕ → ℕ → Bool) (w : World) → IsLawful w → IsLawfulBut p w
lawful_but p w i = record {
  agreed = i.agreed;
  opened = i.opened;
  sole = i.sole;
  rising = i.rising;
  moded = i.moded;
  quiet = λ s t _ d. i.quiet s t refl d;
  sent = λ s t _. i.sent s t refl;
}

-- A TID that the test does not pass is not the excepted one, or the test passes it.
not_tid : (s t i j : ℕ) (P : ℕ → ℕ → Type 0) → P s t → (is_tid s t i j ≡ false → P i j) → P i j
not_tid s t i j P own other = on_bool (is_tid s t i j)
    (λ h.
    let k = both (i == s) (j == t) h in
    subst (λ (a : ℕ). P a j) (sym (eq_yes i s k.0)) (subst (λ (b : ℕ). P s b) (sym (eq_yes j t k.1)) own))
    other

-- The excepted TID is right too.
pub lawful_all : (w : World) (s t : ℕ) →
    (is_agreed w s t ≡ false → request_due (side w s t).session ≡ false) →
    AreSent w.opened s t (session w s t) → IsLawfulBut (is_tid s t) w → IsLawful w
lawful_all w s t calm own i = record {
  agreed = i.agreed;
  opened = i.opened;
  sole = i.sole;
  rising = i.rising;
  moded = i.moded;
  quiet = λ a b _. not_tid s t a b (λ c d. is_agreed w c d ≡ false → request_due (side w c d).session ≡ false)
      calm (i.quiet a b);
  sent = λ a b _. not_tid s t a b (λ c d. AreSent w.opened c d (session w c d)) own (i.sent a b);
}

-- A device has no agreement.
pub device_plain : {p : ℕ → ℕ → Bool} (w : World) (s t : ℕ) → IsLawfulBut p w → is_offloaded w s ≡ true →
    is_agreed w s t ≡ false
device_plain w s t i d = (i.moded s t).device d

pub plain_same : (w v : World) (s t : ℕ) → Same w v → is_plain v s t ≡ is_plain w s t
plain_same w v s t h = ap (λ (b : Bool). not (b || is_agreed v s t)) (h.offloaded s)
    ∙ ap (λ (a : Side). not (is_offloaded w s || a.agreed)) (h.sides s t)

pub agreed_same : (w v : World) (s t : ℕ) → Same w v → is_agreed v s t ≡ is_agreed w s t
agreed_same w v s t h = ap (λ (a : Side). a.agreed) (h.sides s t)

pub open_same : (w v : World) (x : Exchange) → Same w v → IsOpenIn w x → IsOpenIn v x
open_same w v x h o = record {
  live = h.live x.station ∙ o.live;
  below = subst (λ (n : ℕ). x.number < n) (sym h.exchanges) o.below;
  right = record { batch = o.right.batch ∙ sym (h.offloaded x.station); frames = o.right.frames };
  plain = o.plain ∙ sym (plain_same w v x.station x.tid h);
  calm = λ d. o.calm (sym (agreed_same w v x.station x.tid h) ∙ d);
  opened = subst (OpenAt x) (sym (h.sides x.station x.tid)) o.opened;
}

moded_same : (w v : World) (s t : ℕ) → Same w v → IsModed (is_offloaded w s) (tid_of w s t) →
    IsModed (is_offloaded v s) (tid_of v s t)
moded_same w v s t h m = record {
  device = λ d. agreed_same w v s t h ∙ m.device (sym (h.offloaded s) ∙ d);
  held = λ d. m.held (h.devices s t d);
  narrow = λ d. subst (λ (a : Side). a.session.size ≤ 1) (sym (h.sides s t))
      (m.narrow (sym (plain_same w v s t h) ∙ d));
}

pub lawful_same : {p : ℕ → ℕ → Bool} (w v : World) → Same w v → IsLawfulBut p w → IsLawfulBut p v
lawful_same w v h i = record {
  agreed = λ s t. subst AgreedAt (sym (h.sides s t)) (i.agreed s t);
  opened = subst (Each (IsOpenIn v)) (sym h.opened)
      (each_map (IsOpenIn w) (IsOpenIn v) w.opened (λ x o. open_same w v x h o) i.opened);
  sole = λ s t. subst (λ (xs : List Exchange). IsSole xs s t) (sym h.opened) (i.sole s t);
  rising = subst (λ (xs : List Exchange). OpenRises 0 v.exchanges xs) (sym h.opened)
      (subst (λ (c : ℕ). OpenRises 0 c w.opened) (sym h.exchanges) i.rising);
  moded = λ s t. moded_same w v s t h (i.moded s t);
  quiet = λ s t n d. ap (λ (a : Side). request_due a.session) (h.sides s t)
      ∙ i.quiet s t n (sym (agreed_same w v s t h) ∙ d);
  sent = λ s t n. subst (λ (xs : List Exchange). AreSent xs s t (session v s t)) (sym h.opened)
      (subst (λ (a : Side). AreSent w.opened s t a.session) (sym (h.sides s t)) (i.sent s t n));
}

-- One TID changes, and keeps its mode and its window.
pub record IsKeeping (y z : Tid) : Type 0 where
  pub mode : z.mode ≡ y.mode
  pub size : z.session.size ≡ y.session.size

moded_kept : (b : Bool) (y z : Tid) → IsKeeping y z → IsModed b y → IsModed b z
moded_kept b y z k m = record {
  device = λ d. ap has_agreement k.mode ∙ m.device d;
  held = λ d. m.held (ap (λ (a : Mode). b && holds_back a) (sym k.mode) ∙ d);
  narrow = λ d. subst (λ (n : ℕ). n ≤ 1) (sym k.size)
      (m.narrow (ap (λ (a : Mode). not (b || has_agreement a)) (sym k.mode) ∙ d));
}

-- The modes after one TID changes.
moded_on_tid : (w : World) (s t : ℕ) (f : Tid → Tid) →
    ((i j : ℕ) → IsModed (is_offloaded w i) (tid_of w i j)) → IsModed (is_offloaded w s) (f (tid_of w s t)) →
    (i j : ℕ) → IsModed (is_offloaded (on_tid w s t f) i) (tid_of (on_tid w s t f) i j)
moded_on_tid w s t f old own i j = subst (λ (b : Bool). IsModed b (tid_of (on_tid w s t f) i j))
    (sym (on_offloaded w s t f i)) (each_tid_at (λ i j y. IsModed (is_offloaded w i) y) w s t f old own i j)

-- An open exchange after one TID changes: what the exchange says of its TID holds of the changed one too.
pub record IsOpenAfter (w : World) (x : Exchange) (a : Side) : Type 0 where
  pub plain : x.plain ≡ not (is_offloaded w x.station || a.agreed)
  pub calm : a.agreed ≡ false → is_request x.content ≡ false
  pub opened : OpenAt x a

open_on_tid : (w : World) (s t : ℕ) (f : Tid → Tid) (x : Exchange) → IsOpenIn w x →
    (s ≡ x.station → t ≡ x.tid → IsOpenAfter w x (side w s t) → IsOpenAfter w x (side_of (f
    (tid_of w s t)))) →
    IsOpenIn (on_tid w s t f) x
open_on_tid w s t f x o k =
    let a : IsOpenAfter w x (side (on_tid w s t f) x.station x.tid) =
    at_side_on (IsOpenAfter w x) w s t f x.station x.tid (record {
      plain = o.plain;
      calm = o.calm;
      opened = o.opened;
    }) k in
    record {
      live = on_live w s t f x.station ∙ o.live;
      below = subst (λ (c : ℕ). x.number < c) (sym (on_exchanges w s t f)) o.below;
      right = record {
        batch = o.right.batch ∙ sym (on_offloaded w s t f x.station);
        frames = o.right.frames;
      };
      plain = a.plain ∙ ap (λ (b : Bool). not (b || is_agreed (on_tid w s t f) x.station x.tid))
          (sym (on_offloaded w s t f x.station));
      calm = a.calm;
      opened = a.opened;
    }

opened_on_tid : (N : Exchange → Type 0) (w : World) (s t : ℕ) (f : Tid → Tid) → Each N w.opened →
    ((x : Exchange) → x.number < w.exchanges → N x → s ≡ x.station → t ≡ x.tid →
    IsOpenAfter w x (side w s t) → IsOpenAfter w x (side_of (f (tid_of w s t)))) → Each
    (IsOpenIn w) w.opened →
    Each (IsOpenIn (on_tid w s t f)) (on_tid w s t f).opened
opened_on_tid N w s t f n k o = subst (Each (IsOpenIn (on_tid w s t f))) (sym (on_opened w s t f))
    (each_both (IsOpenIn w) N (IsOpenIn (on_tid w s t f)) w.opened
    (λ x h m. open_on_tid w s t f x h (λ e d. k x h.below m e d)) o n)

rising_on_tid : (w : World) (s t : ℕ) (f : Tid → Tid) → OpenRises 0 w.exchanges w.opened →
    OpenRises 0 (on_tid w s t f).exchanges (on_tid w s t f).opened
rising_on_tid w s t f r = subst (λ (xs : List Exchange). OpenRises 0 (on_tid w s t f).exchanges xs)
    (sym (on_opened w s t f)) (subst (λ (c : ℕ). OpenRises 0 c w.opened) (sym (on_exchanges w s t f)) r)

sent_on_tid : {p : ℕ → ℕ → Bool} (w : World) (s t : ℕ) (f : Tid → Tid) →
    ((i j : ℕ) → p i j ≡ false → AreSent w.opened i j (session w i j)) →
    (p s t ≡ false → AreSent w.opened s t (f (tid_of w s t)).session) → (i j : ℕ) → p i j ≡ false →
    AreSent (on_tid w s t f).opened i j (session (on_tid w s t f) i j)
sent_on_tid {p} w s t f old own i j n =
    subst (λ (xs : List Exchange). AreSent xs i j (session (on_tid w s t f) i j)) (sym (on_opened w s t f))
    (each_side_on (λ a b z. p a b ≡ false → AreSent w.opened a b z.session) w s t f old own i j n)

-- One TID changes.
pub lawful_on_tid : {p : ℕ → ℕ → Bool} (N : Exchange → Type 0) (w : World) (s t : ℕ) (f : Tid → Tid) →
    Each N w.opened → IsKeeping (tid_of w s t) (f (tid_of w s t)) → AgreedAt (side_of (f (tid_of w s t)))
    → (p s t ≡ false → is_agreed w s t ≡ false → request_due (side w s t).session ≡ false →
    request_due (f (tid_of w s t)).session ≡ false)
    → (p s t ≡ false → AreSent w.opened s t (f (tid_of w s t)).session)
    → ((x : Exchange) → x.number < w.exchanges → N x → s ≡ x.station → t ≡ x.tid → OpenAt x (side w s t) →
    OpenAt x (side_of (f (tid_of w s t))))
    → IsLawfulBut p w → IsLawfulBut p (on_tid w s t f)
lawful_on_tid {p} N w s t f n kept a d fly k i =
    let modes : has_agreement (f (tid_of w s t)).mode ≡ is_agreed w s t = ap has_agreement kept.mode in
    record {
      agreed = each_side_on (λ _ _ z. AgreedAt z) w s t f i.agreed a;
      opened = opened_on_tid N w s t f n (λ x b m e c o. record {
        plain = o.plain ∙ ap (λ (b : Bool). not (is_offloaded w x.station || b)) (sym modes);
        calm = λ g. o.calm (sym modes ∙ g);
        opened = k x b m e c o.opened;
      }) i.opened;
      sole = λ a b. subst (λ (xs : List Exchange). IsSole xs a b) (sym (on_opened w s t f)) (i.sole a b);
      rising = rising_on_tid w s t f i.rising;
      moded = moded_on_tid w s t f i.moded
          (moded_kept (is_offloaded w s) (tid_of w s t) (f (tid_of w s t)) kept (i.moded s t));
      quiet = each_side_on (λ a b z. p a b ≡ false → z.agreed ≡ false → request_due z.session ≡ false) w s t f
          i.quiet (λ q g. let old : is_agreed w s t ≡ false = sym modes ∙ g in d q old (i.quiet s t q old));
      sent = sent_on_tid w s t f i.sent fly;
    }

pub lawful_on_session : {p : ℕ → ℕ → Bool} (N : Exchange → Type 0) (w : World) (s t : ℕ)
    (f : Session → Session) → Each N w.opened → (f (session w s t)).size ≡ (session w s t).size →
    IsAgreed (f (session w s t)) (receiver w s t)
    → (p s t ≡ false → is_agreed w s t ≡ false → request_due (session w s t) ≡ false →
    request_due (f (session w s t)) ≡ false)
    → (p s t ≡ false → Lands (session w s t) (f (session w s t)))
    → ((x : Exchange) → x.number < w.exchanges → N x → s ≡ x.station → t ≡ x.tid →
    IsOpen x (session w s t) (receiver w s t) → IsOpen x (f (session w s t)) (receiver w s t))
    → IsLawfulBut p w → IsLawfulBut p (on_session w s t f)
unfolding on_session
lawful_on_session N w s t f n size a d fly k i =
    lawful_on_tid N w s t (λ y. record y { session = f y.session }) n
    (record { mode = refl; size = size }) a d
    (λ q m e b h. let g = (fly q).flew m e b h in i.sent s t q m e g.0 g.1) k i

pub not_own : (s t : ℕ) → is_tid s t s t ≡ false → ⊥
not_own s t h = cc (and_true (s == s) (t == t) (yes_eq s s refl) (yes_eq t t refl), h)

pub any_exchange : (xs : List Exchange) → Each (λ _. Unit {0}) xs
any_exchange [] = tt
any_exchange (x ∷ xs) = (tt, any_exchange xs)

pub side_on_session : (w : World) (s t : ℕ) (f : Session → Session) → is_live w s ≡ true →
    side (on_session w s t f) s t
    ≡ record { session = f (session w s t); receiver = receiver w s t; agreed = is_agreed w s t }
unfolding on_session
side_on_session w s t f live = side_on w s t _ live

pub session_on_session : (w : World) (s t : ℕ) (f : Session → Session) → is_live w s ≡ true →
    session (on_session w s t f) s t ≡ f (session w s t)
session_on_session w s t f live = ap (λ (a : Side). a.session) (side_on_session w s t f live)

pub receiver_on_session : (w : World) (s t : ℕ) (f : Session → Session) → is_live w s ≡ true →
    receiver (on_session w s t f) s t ≡ receiver w s t
receiver_on_session w s t f live = ap (λ (a : Side). a.receiver) (side_on_session w s t f live)

pub live_on_session : (w : World) (s t : ℕ) (f : Session → Session) (i : ℕ) →
    is_live (on_session w s t f) i ≡ is_live w i
unfolding on_session
live_on_session w s t f i = on_live w s t _ i

pub opened_on_session : (w : World) (s t : ℕ) (f : Session → Session) → (on_session w s t f).opened ≡ w.opened
unfolding on_session
opened_on_session w s t f = on_opened w s t _

pub exchanges_on_session : (w : World) (s t : ℕ) (f : Session → Session) →
    (on_session w s t f).exchanges ≡ w.exchanges
unfolding on_session
exchanges_on_session w s t f = on_exchanges w s t _

-- ---- new numbers

-- Numbers of a session were chosen in this world, and no request is due.
pub record IsReady (s t : ℕ) (w : World) (ms : List Mpdu) : Type 0 where
  pub lawful : IsLawful w
  pub live : is_live w s ≡ true
  pub quiet : request_due (session w s t) ≡ false
  pub chosen : IsChosen (session w s t) ms

pub session_same : (w v : World) → Same w v → (s t : ℕ) → session v s t ≡ session w s t
session_same w v h s t = ap (λ (a : Side). a.session) (h.sides s t)

pub ready_same : (w v : World) (s t : ℕ) (ms : List Mpdu) → Same w v → IsReady s t w ms → IsReady s t v ms
ready_same w v s t ms h r = record {
  lawful = lawful_same w v h r.lawful;
  live = h.live s ∙ r.live;
  quiet = ap request_due (session_same w v h s t) ∙ r.quiet;
  chosen = subst (λ (y : Session). IsChosen y ms) (sym (session_same w v h s t)) r.chosen;
}

pub lawful_give : (w : World) (s t id : ℕ) → has_room (session w s t) ≡ true →
    request_due (session w s t) ≡ false → IsLawful w →
    IsLawful (on_session w s t (λ y. with_number_given y id))
lawful_give w s t id room quiet i =
    lawful_on_session (λ _. Unit {0}) w s t (λ y. with_number_given y id) (any_exchange w.opened) refl
    (agreed_give (session w s t) (receiver w s t) id room quiet (i.agreed s t))
    (λ _ _ _. not_due_give (session w s t) id quiet)
    (λ _. lands_give (session w s t) id)
    (λ x b n e d o. open_flies x (session w s t) (with_number_given (session w s t) id) (receiver w s t) quiet
    (λ f. fly_give (session w s t) id x.number _ f) o) i

pub ready_give : (w : World) (s t id : ℕ) (ms : List Mpdu) → has_room (session w s t) ≡ true →
    IsReady s t w ms → IsReady s t (on_session w s t (λ y. with_number_given y id)) ms
ready_give w s t id ms room r = record {
  lawful = lawful_give w s t id room r.quiet r.lawful;
  live = live_on_session w s t _ s ∙ r.live;
  quiet = ap request_due (session_on_session w s t (λ y. with_number_given y id) r.live)
      ∙ not_due_give (session w s t) id r.quiet;
  chosen = subst (λ (y : Session). IsChosen y ms) (sym (session_on_session w s t _ r.live))
      (chosen_give (session w s t) id ms r.chosen);
}

pub longer_give : (w : World) (s t id : ℕ) (m : Mpdu) (ms : List Mpdu) →
    m.number ≡ next_number (session w s t) → has_room (session w s t) ≡ true → IsReady s t w ms →
    IsReady s t (on_session w s t (λ y. with_number_given y id)) (ms ++ m ∷ [])
longer_give w s t id m ms e room r = record {
  lawful = (ready_give w s t id ms room r).lawful;
  live = (ready_give w s t id ms room r).live;
  quiet = (ready_give w s t id ms room r).quiet;
  chosen = subst (λ (y : Session). IsChosen y (ms ++ m ∷ [])) (sym (session_on_session w s t _ r.live))
      (chosen_fresh (session w s t) id m ms e r.chosen);
}

pub ready_number : (o : Option Item) (w : World) (s t : ℕ) (ms : List Mpdu) →
    has_room (session w s t) ≡ true → IsReady s t w ms → IsReady s t (with_number w s t o) ms
unfolding with_number
ready_number None w s t ms room r = r
ready_number (Some x) w s t ms room r = ready_give w s t x.id ms room r

-- u is the world before the take for which the session assigns the number.
pub longer_number : (o : Option Item) (u w : World) (s t : ℕ) (ms : List Mpdu) → Same u w →
    has_room (session w s t) ≡ true → IsReady s t w ms →
    IsReady s t (with_number w s t o) (ms ++ fresh_mpdus u s t o)
unfolding with_number
longer_number None u w s t ms h room r = subst (IsReady s t w) (sym (append-nil ms)) r
longer_number (Some x) u w s t ms h room r = longer_give w s t x.id _ ms
    (ap next_number (sym (session_same u w h s t))) room r

pub if_ready : (b : Bool) (s t : ℕ) (x y : Aggregate) → (b ≡ true → IsReady s t x.world x.mpdus) →
    (b ≡ false → IsReady s t y.world y.mpdus) →
    IsReady s t (if b then x else y).world (if b then x else y).mpdus
if_ready true s t x y h k = h refl
if_ready false s t x y h k = k refl

pub ready_fresh : (n : ℕ) (w : World) (s t : ℕ) (ms : List Mpdu) → IsReady s t w ms →
    IsReady s t (with_fresh n w s t ms).world (with_fresh n w s t ms).mpdus
unfolding with_fresh
ready_fresh zero w s t ms r = r
ready_fresh (suc n) w s t ms r =
    let taken = taken_for_tid w s t in
    let kept : Same w taken.world = same_take w s t in
    let ready : IsReady s t taken.world ms = ready_same w taken.world s t ms kept r in
    if_ready (not (can_give w s t)) s t _ _ (λ _. r) (λ none.
    let room : has_room (session taken.world s t) ≡ true =
    ap has_room (session_same w taken.world kept s t) ∙ can_give-room w s t none in
    if_ready _ s t _ _
    (λ _. ready_fresh n _ s t _ (longer_number taken.item w taken.world s t ms kept room ready))
    (λ _. ready_number taken.item taken.world s t ms room ready))

pub ready_start : (w : World) (s t : ℕ) → IsLawful w → is_live w s ≡ true →
    request_due (session w s t) ≡ false → IsReady s t w (longest_fitting w s (waiting_mpdus w s t))
ready_start w s t i live quiet = record {
  lawful = i;
  live = live;
  quiet = quiet;
  chosen =
      chosen_fitting (waiting_mpdus w s t) w s (session w s t) (chosen_waiting w s t);
}

pub ready_filled : (w : World) (s t : ℕ) → IsLawful w → is_live w s ≡ true →
    request_due (session w s t) ≡ false → IsReady s t (aggregate_of w s t).world (aggregate_of w s t).mpdus
unfolding aggregate_of
ready_filled w s t i live quiet =
    let r : IsReady s t w (longest_fitting w s (waiting_mpdus w s t)) = ready_start w s t i live quiet in
    let chosen : List Mpdu = longest_fitting w s (waiting_mpdus w s t) in
    if_ready (length chosen == length (waiting_mpdus w s t)) s t
    (with_fresh (most_frames w s - length chosen) w s t chosen) (record { world = w; mpdus = chosen })
    (λ _. ready_fresh (most_frames w s - length chosen) w s t chosen r) (λ _. r)

-- ---- the chosen numbers are sent

-- No request becomes due.
pub quiet_fly : (ms : List Mpdu) (y : Session) (e lo hi : ℕ) → y.first ≤ lo → Rises lo hi ms →
    AllIn y State.Waiting ms → request_due y ≡ false → request_due (with_flying e ms y) ≡ false
quiet_fly [] y e lo hi b c a k = k
quiet_fly (m ∷ ms) y e lo hi b c a k =
    let f : Slot → Slot = λ x. record x { state = State.Flying e } in
    quiet_fly ms (on_slot m.number f y) e (suc m.number) hi (omega (arith, c.0)) c.2
    (all_in_later y State.Waiting m.number hi f ms (omega (arith, c.0)) c.2 a.1)
    (quiet_on_slot y m.number f (omega (arith, c.0)) (ap is_settled a.0) refl k)

-- The size of a window stays.
flying_size : (ms : List Mpdu) (e : ℕ) (y : Session) → (with_flying e ms y).size ≡ y.size
flying_size [] e y = refl
flying_size (m ∷ ms) e y = flying_size ms e (on_slot m.number (λ x. record x { state = State.Flying e }) y)

-- The numbers on the air are sent by open exchanges, or by the one that is prepared.
abbrev pub AreSentBy : Prepared → ℕ → ℕ → Type 0
AreSentBy p s t = (n e : ℕ) → (session p.world s t).first ≤ n →
    (slot (session p.world s t) n).state ≡ State.Flying e → SomeOpen (IsSending s t e n) p.world.opened ⊎
    ((p.world.exchanges ≡ e) × (has (map (λ m. m.number) (mpdus_of p.content)) n ≡ true))

pub record IsAloft (s t : ℕ) (p : Prepared) : Type 0 where
  pub lawful : IsLawfulBut (is_tid s t) p.world
  pub quiet : is_agreed p.world s t ≡ false → request_due (session p.world s t) ≡ false
  pub sent : AreSentBy p s t
  pub live : is_live p.world s ≡ true
  pub flies : FlyIn p.world.exchanges (mpdus_of p.content) (session p.world s t)
  pub asked : IfRequest p.content (λ f. IsAsked f (session p.world s t))
  pub alone : IfRequest p.content (λ f. request_open p.world s t ≡ false)

pub aloft_frames : (s t : ℕ) (f : Aggregate) → IsReady s t f.world f.mpdus → IsAloft s t (prepared_data s t f)
unfolding prepared_data
aloft_frames s t f r =
    let e : ℕ = f.world.exchanges in
    let y : Session = session f.world s t in
    let u : World = on_session f.world s t (with_flying e f.mpdus) in
    let z : IsFlown e f.mpdus y (with_flying e f.mpdus y) =
    flown f.mpdus y e (next_number y) y.first (omega arith) r.chosen.rising r.chosen.waiting in
    let fly : (n : ℕ) (ms : List Mpdu) → FlyIn n ms y → AllIn (with_flying e f.mpdus y) (State.Flying n) ms →
    FlyIn n ms (with_flying e f.mpdus y) =
    λ n ms g a. record {
      rising = subst (λ (k : ℕ). Rises k (next_number (with_flying e f.mpdus y)) ms)
          (sym z.first) (subst (λ (k : ℕ). Rises y.first k ms) (sym z.next) g.rising);
      flying = a;
    }
    in
    let now : session u s t ≡ with_flying e f.mpdus y = session_on_session f.world s t _ r.live in
    record {
      lawful = lawful_on_session (λ _. Unit {0}) f.world s t (with_flying e f.mpdus)
          (any_exchange f.world.opened) (flying_size f.mpdus e y)
          (agreed_fly f.mpdus y (receiver f.world s t) e y.first (next_number y)
          (omega arith) r.chosen.rising r.chosen.waiting (r.lawful.agreed s t))
          (λ h. absurd (not_own s t h)) (λ h. absurd (not_own s t h))
          (λ x b n _ _ o. open_flies x y (with_flying e f.mpdus y) (receiver f.world s t) r.quiet
          (λ g. fly x.number _ g (z.others x.number _ g.flying)) o)
          (lawful_but (is_tid s t) f.world r.lawful);
      quiet = λ _. ap request_due now
          ∙ quiet_fly f.mpdus y e y.first (next_number y) (omega arith) r.chosen.rising r.chosen.waiting
          r.quiet;
      sent = λ n g b h.
          let from : y.first ≤ n = omega (arith, b, ap (λ (a : Session). a.first) now, z.first) in
          elim (fly_or f.mpdus y e n g y.first (next_number y) (omega arith) r.chosen.rising from
          (ap (λ (a : Session). (slot a n).state) (sym now) ∙ h)) [
            | inl before ↦ inl (subst (SomeOpen (IsSending s t g n)) (sym (opened_on_session f.world s t _))
                (r.lawful.sent s t refl n g from before))
            | inr among ↦ inr (exchanges_on_session f.world s t _ ∙ sym among.0, among.1)
          ];
      live = live_on_session f.world s t _ s ∙ r.live;
      flies = subst (λ (n : ℕ). FlyIn n f.mpdus (session u s t)) (sym (exchanges_on_session f.world s t _))
          (subst (FlyIn e f.mpdus) (sym now)
          (record {
            rising = subst (λ (k : ℕ). Rises k (next_number (with_flying e f.mpdus y)) f.mpdus)
                (sym z.first) (subst (λ (k : ℕ). Rises y.first k f.mpdus) (sym z.next) r.chosen.rising);
            flying = z.flying;
          }));
      asked = tt;
      alone = tt;
    }

pub if_aloft : (b : Bool) (s t : ℕ) (x y : Prepared) → (b ≡ true → IsAloft s t x) →
    (b ≡ false → IsAloft s t y) → IsAloft s t (if b then x else y)
if_aloft true s t x y h k = h refl
if_aloft false s t x y h k = k refl

pub aloft : (w : World) (s t : ℕ) → IsLawful w → is_live w s ≡ true →
    (request_due (session w s t) ≡ true → request_open w s t ≡ false) → IsAloft s t (prepared_exchange w s t)
unfolding prepared_exchange
aloft w s t i live may = if_aloft (request_due (session w s t)) s t _ _
    (λ due. record {
      lawful = lawful_but (is_tid s t) w i;
      quiet = i.quiet s t refl;
      sent = λ n e b h. inl (i.sent s t refl n e b h);
      live = live;
      flies = record { rising = tt; flying = tt };
      asked = record {
        due = due;
        from = start_ge (session w s t).slots (session w s t).first;
        start =
            omega arith;
        next = (i.agreed s t).within.within;
        untold = let u = due_at (session w s t) due in (u.0, u.1, u.1.below);
      };
      alone = may due;
    })
    (λ quiet. aloft_frames s t _ (ready_filled w s t i live quiet))

-- ---- pulls

pub asks_is : (s t : ℕ) (x : Exchange) → asks s t x ≡ true → (x.station ≡ s) × (x.tid ≡ t) ×
    (is_request x.content ≡ true)
asks_is s t x h =
    let p = both _ _ h in
    let q = both _ _ p.1 in
    (eq_yes _ _ p.0, eq_yes _ _ q.0, q.1)

pub none_asks : (s t : ℕ) (xs : List Exchange) →
    list_any (λ x. (x.station == s) && ((x.tid == t) && is_request x.content)) xs ≡ false →
    Each (λ x. asks s t x ≡ false) xs
none_asks s t [] h = tt
none_asks s t (x ∷ xs) h =
    let p = neither (asks s t x) (list_any (λ x. (x.station == s) && ((x.tid == t) && is_request x.content))
    xs) h in
    (p.0, none_asks s t xs p.1)
  where
    neither : (a b : Bool) → (a || b) ≡ false → (a ≡ false) × (b ≡ false)
    neither true b h = absurd (cc h)
    neither false b h = (refl, h)

pub sole_append : (xs : List Exchange) (x : Exchange) (s t : ℕ) → IsSole xs s t →
    (asks s t x ≡ true → Each (λ y. asks s t y ≡ false) xs) → IsSole (xs ++ x ∷ []) s t
sole_append xs x s t k f = on_bool (asks s t x)
    (λ yes_asks. record {
      who = x.number;
      only = each_append
          (λ y. asks s t y ≡ true → y.number ≡ x.number) xs x
          (each_map (λ y. asks s t y ≡ false) (λ y. asks s t y ≡ true → y.number ≡ x.number) xs
          (λ y n h. absurd (cc (n, h))) (f yes_asks)) (λ _. refl);
    })
    (λ not_asks. record {
      who = k.who;
      only = each_append
          (λ y. asks s t y ≡ true → y.number ≡ k.who) xs x k.only (λ h. absurd (cc (not_asks, h)));
    })

pub sole_opened : (c : Content) (w : World) (x : Exchange) (s t : ℕ) → x.content ≡ c →
    IfRequest c (λ f. request_open w x.station x.tid ≡ false) → IsSole w.opened s t →
    IsSole (w.opened ++ x ∷ []) s t
sole_opened (Frames ms) w x s t e alone k = sole_append w.opened x s t k
    (λ h. absurd (cc ((asks_is s t x h).2, ap is_request e)))
sole_opened (Request f) w x s t e alone k = sole_append w.opened x s t k (λ h.
    let p = asks_is s t x h in
    subst (λ (i : ℕ). Each (λ y. asks i t y ≡ false) w.opened) p.0
    (subst (λ (j : ℕ). Each (λ y. asks x.station j y ≡ false) w.opened) p.1
    (none_asks x.station x.tid w.opened alone)))

-- An exchange is opened for the excepted TID.
pub lawful_opening : (w : World) (x : Exchange) → x.number ≡ w.exchanges →
    IsLawfulBut (is_tid x.station x.tid) w →
    (is_agreed w x.station x.tid ≡ false → request_due (session w x.station x.tid) ≡ false) →
    AreSentBy (record { world = w; content = x.content; charge = x.charge }) x.station x.tid →
    IsOpenIn (record w { exchanges = w.exchanges + 1; opened = w.opened ++ x ∷ [] }) x →
    IfRequest x.content (λ f. request_open w x.station x.tid ≡ false) → IsLawful (with_exchange_opened w x)
unfolding with_exchange_opened
lawful_opening w x e i calm own o alone =
    let v : World = record w { exchanges = w.exchanges + 1; opened = w.opened ++ x ∷ [] } in
    lawful_all v x.station x.tid calm
    (λ n k b h. elim (own n k b h) [
      | inl before ↦ some_front (IsSending x.station x.tid k n) w.opened x before
      | inr now ↦ some_last (IsSending x.station x.tid k n) w.opened x
          (record { number = e ∙ now.0; station = refl; tid = refl; among = now.1 })
    ])
    (record {
      agreed = i.agreed;
      opened = each_append (IsOpenIn v) w.opened x
          (each_map (IsOpenIn w) (IsOpenIn v) w.opened (λ y g. record {
            live = g.live;
            below = omega (arith, g.below);
            right = record { batch = g.right.batch; frames = g.right.frames };
            plain = g.plain;
            calm = g.calm;
            opened = g.opened;
          }) i.opened) o;
      sole = λ s t. sole_opened x.content w x s t refl alone (i.sole s t);
      rising = subst (λ (c : ℕ). OpenRises 0 c (w.opened ++ x ∷ [])) (omega arith)
          (rises_new w.opened x 0 w.exchanges (omega arith) e i.rising);
      moded = i.moded;
      quiet = i.quiet;
      sent = λ s t n m k b h. some_front (IsSending s t k m) w.opened x (i.sent s t n m k b h);
    })

-- While no request is due, none is prepared.
pub calm_frames : (c : Content) (y : Session) → request_due y ≡ false → IfRequest c (λ f. IsAsked f y) →
    is_request c ≡ false
calm_frames (Frames ms) y none a = refl
calm_frames (Request f) y none a = absurd (cc (a.due, none))

pub lawful_sent : (s t : ℕ) (c : Class) (p : Prepared) → IsAloft s t p → IsLawful (send_outcome s t c p).world
unfolding send_outcome
lawful_sent s t c p a =
    let quiet : is_agreed p.world s t ≡ false → is_request p.content ≡ false =
    λ d. calm_frames p.content (session p.world s t) (a.quiet d) a.asked in
    lawful_same _ _ (same_spent _ _)
    (lawful_opening p.world (exchange_of s t c p) refl a.lawful a.quiet a.sent
    (record {
      live = a.live;
      below = omega arith;
      right = record { batch = refl; frames = λ d. quiet (device_plain p.world s t a.lawful d) };
      plain = refl;
      calm = quiet;
      opened = record {
        flies = a.flies;
        kept = tt;
        asked = a.asked;
        told =
            request_map p.content (λ f. IsAsked f (session p.world s t))
            (λ f. (length {A = ℕ} [] == 0) ≡ false → has (receiver p.world s t).starts f ≡ true)
            (λ f h none. absurd (cc none)) a.asked;
        marked = λ h. absurd (cc h);
        unbatched = λ h. absurd (cc h);
        reached = λ _ n h. absurd (cc h);
      };
    }) a.alone)

-- The TID that sends can send.
pub sends : (p : ℕ → Bool) (u : Bool) (lo up : ℕ) → (p lo || p up) ≡ true →
    p (if p (if u then up else lo) then (if u then up else lo) else (if u then lo else up)) ≡ true
sends p true lo up h = on_if (λ k. p k ≡ true) (p up) up lo (λ e. e)
    (λ e. elim (either (p lo) (p up) h) [ inl d ↦ d | inr d ↦ absurd (cc (d, e)) ])
sends p false lo up h = on_if (λ k. p k ≡ true) (p lo) lo up (λ e. e)
    (λ e. elim (either (p lo) (p up) h) [ inl d ↦ absurd (cc (d, e)) | inr d ↦ d ])

pub may_send : (w : World) (s t : ℕ) → can_send w s t ≡ true → request_due (session w s t) ≡ true →
    request_open w s t ≡ false
may_send w s t h due = go (request_due (session w s t)) (request_open w s t) _ h due
  where
    go : (a b c : Bool) → (if a then not b else c) ≡ true → a ≡ true → b ≡ false
    go true true c h e = absurd (cc h)
    go true false c h e = refl
    go false b c h e = absurd (cc e)

pub lawful_pulled_by : (o : Option ℕ) (w : World) (c : Class) →
    IfSome o (λ s. (is_live w s ≡ true) × (can_send_in w s c ≡ true)) → IsLawful w →
    IsLawful (pull_outcome_for w c o).world
unfolding pull_outcome_for
lawful_pulled_by None w c ready i = i
lawful_pulled_by (Some s) w c ready i =
    let t : ℕ = sending_tid w s c in
    let k : Same w (after_tid_turn w s c t) = same_after_turn w s c t in
    let may : request_due (session w s t) ≡ true →
    request_open w s t ≡ false = may_send w s t
    (sends (can_send w s) (share w s c).upper (lower_tid c) (upper_tid c) ready.1) in
    lawful_sent s _ c _ (aloft _ s _ (lawful_same _ _ k i) (k.live s ∙ ready.0)
    (λ due. ap (λ (xs : List Exchange). list_any
    (λ x. (x.station == s) && ((x.tid == t) && is_request x.content)) xs) k.opened
    ∙ may (ap request_due (sym (session_same w _ k s t)) ∙ due)))

-- The pick gives quanta to stations and moves them, and changes no queue.
pub record Unmoved (w v : World) : Type 0 where
  pub tids : (s t : ℕ) → tid_of v s t ≡ tid_of w s t
  pub queues : v.queues ≡ w.queues

pub tid_on_share : (o : Option Station) (k : ℕ) (f : Share → Share) (t : ℕ) →
    at no_tid (unwrap_or (option_map (λ (x : Station). record x { shares = change no_share x.shares k f }) o)
    no_station).tids t ≡ at no_tid (unwrap_or o no_station).tids t
tid_on_share None k f t = refl
tid_on_share (Some x) k f t = refl

pub unmoved_on_share : (w : World) (s : ℕ) (c : Class) (f : Share → Share) → Unmoved w (on_share w s c f)
unfolding on_share on_station with_station
unmoved_on_share w s c f = record {
  tids = each_put (λ i o. (j : ℕ) → at no_tid (unwrap_or o no_station).tids j ≡ tid_of w i j) None w.stations
      s _ (λ i j. refl) (λ t. tid_on_share (at None w.stations s) (class_number c) f t);
  queues = refl;
}

pub unmoved_pay : (ss : List ℕ) (w : World) (c : Class) (quanta : ℕ → ℕ) →
    Unmoved w (with_stations_paid w c quanta ss)
unfolding with_stations_paid with_station_paid
unmoved_pay [] w c quanta = record { tids = λ s t. refl; queues = refl }
unmoved_pay (s ∷ ss) w c quanta =
    let a = unmoved_on_share w s c (λ x. record x {
      deficit = x.deficit +ℤ pos (quanta s * quantum w s);
      quanta = x.quanta + quanta s;
    }) in
    let b = unmoved_pay ss (on_share w s c (λ x. record
    x { deficit = x.deficit +ℤ pos (quanta s * quantum w s); quanta = x.quanta + quanta s })) c quanta in
    record { tids = λ i t. b.tids i t ∙ a.tids i t; queues = b.queues ∙ a.queues }

pub unmoved_after_pick : (w : World) (c : Class) → Unmoved w (after_pick w c)
unfolding after_pick with_rotation
unmoved_after_pick w c =
    let a = unmoved_pay (in_order (rotation w c)) w c (picked_station w c).quanta in
    record { tids = a.tids; queues = a.queues }

unmoved_picked : (w : World) (c : Class) (l : Limits) → Unmoved w (picked_world w c l)
unmoved_picked w c l =
    let k : Unmoved w (after_pick w c) = unmoved_after_pick w c in
    record { tids = k.tids; queues = k.queues }

abbrev pub sends_by : ℕ → ℕ → Tid → List Exchange → ℕ → Bool
sends_by s t y xs q = if request_due y.session then not
    (list_any (λ x. (x.station == s) && ((x.tid == t) && is_request x.content)) xs)
    else (nat_lt 0 (length (waiting_numbers y.session))
    || (nat_lt 0 q && (has_room y.session && not (holds_back y.mode))))

abbrev pub queued_by : List Queue → Tid → ℕ
queued_by qs y = sum_by (λ q. length (at new_queue qs q).items) (in_order y.queues)

pub can_send_same : (w v : World) (s t : ℕ) → Same w v → Unmoved w v → can_send v s t ≡ can_send w s t
can_send_same w v s t h k =
    ap (λ (y : Tid). sends_by s t y v.opened (queued_by v.queues y)) (k.tids s t)
    ∙ ap (λ (xs : List Exchange). sends_by s t (tid_of w s t) xs (queued_by v.queues (tid_of w s t)))
    h.opened
    ∙ ap (λ (qs : List Queue). sends_by s t (tid_of w s t) w.opened (queued_by qs (tid_of w s t))) k.queues

pub winner_ready : (w : World) (c : Class) (l : Limits) → IfSome (picked_station w c).winner
    (λ s. (is_live (picked_world w c l) s ≡ true) × (can_send_in (picked_world w c l) s c ≡ true))
winner_ready w c l =
    let k : Same w (picked_world w c l) = same_picked w c l in
    let u : Unmoved w (picked_world w c l) = unmoved_picked w c l in
    some_along (λ s. is_ready w c s ≡ true) (λ s. (is_live (picked_world w c l) s ≡ true) ×
    (can_send_in (picked_world w c l) s c ≡ true)) (picked_station w c).winner (λ s h.
    let p = both (is_live w s) _ h in
    let q = both (can_send_in w s c) _ p.1 in (
      k.live s ∙ p.0,
      ap (λ (b : Bool). b || can_send (picked_world w c l) s (upper_tid c))
          (can_send_same w (picked_world w c l) s (lower_tid c) k u)
          ∙ ap (λ (b : Bool). can_send w s (lower_tid c) || b)
          (can_send_same w (picked_world w c l) s (upper_tid c) k u) ∙ q.0,
    )) (pick_ready (station_need w c) (is_ready w c) (rotation w c))

pub lawful_pulled : (w : World) (c : Class) (l : Limits) → IsLawful w → IsLawful (pull_outcome w c l).world
unfolding pull_outcome
lawful_pulled w c l i = lawful_pulled_by (picked_station w c).winner (picked_world w c l) c
    (winner_ready w c l) (lawful_same _ _ (same_picked w c l) i)

-- ---- arrivals and answers

pub each_map_if : (P Q : Exchange → Type 0) (p : Exchange → Bool) (x : Exchange) (xs : List Exchange) → Q x →
    ((y : Exchange) → p y ≡ false → P y → Q y) → Each P xs → Each Q (map (λ y. if p y then x else y) xs)
each_map_if P Q p x [] h k e = tt
each_map_if P Q p x (y ∷ xs) h k e = (
  on_if Q (p y) x y (λ _. h) (λ other. k y other e.0),
  each_map_if P Q p x xs h k e.1,
)

-- The exchange was found among the open ones.
pub record IsFound (w : World) (i : IsLawful w) (x : Exchange) : Type 0 where
  pub open_in : IsOpenIn w x
  pub only : (s t : ℕ) → asks s t x ≡ true → x.number ≡ (i.sole s t).who
  -- It is the only one with its number.
  pub alone : Each (λ y. y.number ≡ x.number → y ≡ x) w.opened

pub sole_replaced : (w : World) (i : IsLawful w) (x z : Exchange) (s t : ℕ) → z.number ≡ x.number →
    asks s t z ≡ asks s t x → IsFound w i x →
    IsSole (map (λ y. if y.number == z.number then z else y) w.opened) s t
sole_replaced w i x z s t n a f = record {
  who = (i.sole s t).who;
  only = each_map_if (λ y. asks s t y ≡ true → y.number ≡ (i.sole s t).who)
      (λ y. asks s t y ≡ true → y.number ≡ (i.sole s t).who) (λ y. y.number == z.number) z w.opened
      (λ h. n ∙ f.only s t (sym a ∙ h)) (λ y _ h. h) (i.sole s t).only;
}

pub none_of : (a b : Bool) → (a || b) ≡ false → (a ≡ false) × (b ≡ false)
none_of true b h = absurd (cc h)
none_of false b h = (refl, h)

pub lawful_answered : (w : World) (i : IsLawful w) (x : Exchange) → IsFound w i x →
    x.batch || (length x.arrived == 0) ≡ false → IsLawful (answer_outcome w x).world
unfolding answer_outcome with_exchange
lawful_answered w i x f some =
    let b : Score = score (receiver w x.station x.tid) in
    let z : Exchange = record x { answer = Some b } in
    let v : World = record w { opened = map (λ y. if y.number == z.number then z else y) w.opened } in
    let o : IsOpenIn w x = f.open_in in
    record {
      agreed = i.agreed;
      opened = each_map_if (IsOpenIn w) (IsOpenIn v) (λ y. y.number == z.number) z w.opened (record {
        live = o.live;
        below = o.below;
        right = record { batch = o.right.batch; frames = o.right.frames };
        plain = o.plain;
        calm = o.calm;
        opened = record {
          flies = o.opened.flies;
          kept = answer_right (mpdus_of x.content) (session w x.station x.tid)
              (receiver w x.station x.tid) x.number (session w x.station x.tid).first
              (next_number (session w x.station x.tid)) (omega arith)
              (omega arith) o.opened.flies.rising o.opened.flies.flying (i.agreed x.station x.tid);
          asked = o.opened.asked;
          told = o.opened.told;
          marked = λ _. (none_of x.batch (length x.arrived == 0) some).1;
          unbatched = λ _. (none_of x.batch (length x.arrived == 0) some).0;
          reached = o.opened.reached;
        };
      }) (λ y _ g. record {
        live = g.live;
        below = g.below;
        right = record { batch = g.right.batch; frames = g.right.frames };
        plain = g.plain;
        calm = g.calm;
        opened = g.opened;
      }) i.opened;
      sole = λ s t. sole_replaced w i x z s t refl refl f;
      rising = rises_replaced w.opened z 0 w.exchanges i.rising;
      moded = i.moded;
      quiet = i.quiet;
      sent = λ s t q n e b h. some_copied s t e n x z w.opened refl refl refl refl f.alone
          (i.sent s t q n e b h);
    }

-- A device marks transmissions of the exchange.
pub lawful_marked : (w : World) (i : IsLawful w) (x : Exchange) (unsent given_up : List ℕ) → IsFound w i x →
    IsLawful (marked_world w x unsent given_up)
unfolding with_exchange
lawful_marked w i x unsent given_up f =
    let z : Exchange = with_marks unsent given_up x in
    let v : World = record w { opened = map (λ y. if y.number == z.number then z else y) w.opened } in
    let o : IsOpenIn w x = f.open_in in
    record {
      agreed = i.agreed;
      opened = each_map_if (IsOpenIn w) (IsOpenIn v) (λ y. y.number == z.number) z w.opened (record {
        live = o.live;
        below = o.below;
        right = record { batch = o.right.batch; frames = o.right.frames };
        plain = o.plain;
        calm = o.calm;
        opened = record {
          flies = o.opened.flies;
          kept = o.opened.kept;
          asked = o.opened.asked;
          told = o.opened.told;
          marked = o.opened.marked;
          unbatched = o.opened.unbatched;
          reached = o.opened.reached;
        };
      }) (λ y _ g. record {
        live = g.live;
        below = g.below;
        right = record { batch = g.right.batch; frames = g.right.frames };
        plain = g.plain;
        calm = g.calm;
        opened = g.opened;
      }) i.opened;
      sole = λ s t. sole_replaced w i x z s t refl refl f;
      rising = rises_replaced w.opened z 0 w.exchanges i.rising;
      moded = i.moded;
      quiet = i.quiet;
      sent = λ s t q n e b h. some_copied s t e n x z w.opened refl refl refl refl f.alone
          (i.sent s t q n e b h);
    }

pub with_member_some : (xs : List ℕ) (n : ℕ) → (length (with_member n xs) == 0) ≡ false
with_member_some [] n = refl
with_member_some (x ∷ xs) n = on_if (λ (ys : List ℕ). (length ys == 0) ≡ false) (nat_lt n x) (n ∷ x ∷ xs)
    (if x == n then x ∷ xs else x ∷ with_member n xs)
    (λ _. positive (length (x ∷ xs))) (λ _. on_if (λ (ys : List ℕ). (length ys == 0) ≡ false) (x == n)
    (x ∷ xs) (x ∷ with_member n xs) (λ _. positive (length xs))
    (λ _. positive (length (with_member n xs))))
  where
    positive : (k : ℕ) → (suc k == 0) ≡ false
    positive k = grind arith

-- The facts of an open exchange about its station and the mode of its TID.
record IsPlaced (w : World) (x : Exchange) : Type 0 where
  live : is_live w x.station ≡ true
  below : x.number < w.exchanges
  right : IsOffloadRight w x
  plain : x.plain ≡ is_plain w x.station x.tid
  calm : is_agreed w x.station x.tid ≡ false → is_request x.content ≡ false

-- An exchange whose own TID changes.
open_own : (w : World) (s t : ℕ) (f : Tid → Tid) (x : Exchange) → IsPlaced w x → {a : Side} →
    side (on_tid w s t f) x.station x.tid ≡ a → a.agreed ≡ is_agreed w x.station x.tid → OpenAt x a →
    IsOpenIn (on_tid w s t f) x
open_own w s t f x p {a} e d o =
    let same_agreed : is_agreed (on_tid w s t f) x.station x.tid ≡ is_agreed w x.station x.tid =
    ap (λ (z : Side). z.agreed) e ∙ d in
    record {
      live = on_live w s t f x.station ∙ p.live;
      below = subst (λ (c : ℕ). x.number < c) (sym (on_exchanges w s t f)) p.below;
      right = record {
        batch = p.right.batch ∙ sym (on_offloaded w s t f x.station);
        frames = p.right.frames;
      };
      plain = p.plain ∙ ap (λ (b : Bool). not (is_offloaded w x.station || b)) (sym same_agreed)
          ∙ ap (λ (b : Bool). not (b || is_agreed (on_tid w s t f) x.station x.tid))
          (sym (on_offloaded w s t f x.station));
      calm = λ g. p.calm (sym same_agreed ∙ g);
      opened = subst (OpenAt x) (sym e) o;
    }

-- The receiver of one TID changes, and the exchange x with it.
pub lawful_taken : (w : World) (i : IsLawful w) (x : Exchange) (n : ℕ) (g : Receiver → Receiver) →
    IsFound w i x
    → IsAgreed (session w x.station x.tid) (g (receiver w x.station x.tid))
    → IsOpen (record x { arrived = with_member n x.arrived }) (session w x.station x.tid)
    (g (receiver w x.station x.tid))
    → ((y : Exchange) → y.number ≢ x.number → IsOpen y (session w x.station x.tid)
    (receiver w x.station x.tid) → IsOpen y (session w x.station x.tid) (g (receiver w x.station x.tid)))
    → IsLawful (with_exchange (on_receiver w x.station x.tid g)
    (record x { arrived = with_member n x.arrived }))
unfolding with_exchange on_receiver
lawful_taken w i x n g f a o k =
    let h : Tid → Tid = λ (y : Tid). record y { receiver = g y.receiver } in
    let u : World = on_tid w x.station x.tid h in
    let z : Exchange = record x { arrived = with_member n x.arrived } in
    let v : World = record u { opened = map (λ y. if y.number == z.number then z else y) u.opened } in
    let at_own : side u x.station x.tid ≡ record {
      session = session w x.station x.tid;
      receiver = g (receiver w x.station x.tid);
      agreed = is_agreed w x.station x.tid;
    } = side_on w x.station x.tid h f.open_in.live in
    let own : IsOpenIn u z = open_own w x.station x.tid h z (record {
      live = f.open_in.live;
      below = f.open_in.below;
      right = record { batch = f.open_in.right.batch; frames = f.open_in.right.frames };
      plain = f.open_in.plain;
      calm = f.open_in.calm;
    }) at_own refl o in
    let along : (q : Exchange) → IsOpenIn u q → IsOpenIn v q = λ q p. record {
      live = p.live;
      below = p.below;
      right = record { batch = p.right.batch; frames = p.right.frames };
      plain = p.plain;
      calm = p.calm;
      opened = p.opened;
    } in
    record {
      agreed = each_side_on (λ _ _ y. AgreedAt y) w x.station x.tid h i.agreed a;
      opened = subst (λ (xs : List Exchange). Each (IsOpenIn v)
          (map (λ y. if y.number == z.number then z else y) xs)) (sym (on_opened w x.station x.tid h))
          (each_map_if (IsOpenIn w) (IsOpenIn v) (λ y. y.number == z.number) z w.opened (along z own)
          (λ y other p. along y (open_on_tid w x.station x.tid h y p (λ e d q. record {
            plain = q.plain;
            calm = q.calm;
            opened = k y (eq_no _ _ other) q.opened;
          }))) i.opened);
      sole = λ s t. subst (λ (xs : List Exchange). IsSole
          (map (λ y. if y.number == z.number then z else y) xs) s t) (sym (on_opened w x.station x.tid h))
          (sole_replaced w i x z s t refl refl f);
      rising = rises_replaced u.opened z 0 u.exchanges (rising_on_tid w x.station x.tid h i.rising);
      moded = moded_on_tid w x.station x.tid h i.moded (moded_kept (is_offloaded w x.station)
          (tid_of w x.station x.tid) (h (tid_of w x.station x.tid)) (record { mode = refl; size = refl })
          (i.moded x.station x.tid));
      quiet = each_side_on (λ s t y. false ≡ false → y.agreed ≡ false → request_due y.session ≡ false)
          w x.station x.tid h i.quiet (i.quiet x.station x.tid);
      sent = λ s t q m e b r. subst (λ (xs : List Exchange). SomeOpen (IsSending s t e m)
          (map (λ y. if y.number == z.number then z else y) xs)) (sym (on_opened w x.station x.tid h))
          (some_copied s t e m x z w.opened refl refl refl refl f.alone
          (each_side_on (λ a b y. AreSent w.opened a b y.session) w x.station x.tid h
          (λ a b. i.sent a b refl) (i.sent x.station x.tid refl) s t m e b r));
    }

-- A number of a set with a new member is the new one's or an old one's.
pub has_map_with : (g : ℕ → ℕ) (xs : List ℕ) (n k : ℕ) → has (map g (with_member n xs)) k ≡ true →
    (g n ≡ k) ⊎ (has (map g xs) k ≡ true)
has_map_with g [] n k h = elim (either (g n == k) false h) [
  | inl d ↦ inl (eq_yes (g n) k d)
  | inr d ↦ absurd (cc d)
]
has_map_with g (x ∷ xs) n k h =
    on_if (λ (ys : List ℕ). has (map g ys) k ≡ true → (g n ≡ k) ⊎ (has (map g (x ∷ xs)) k ≡ true))
    (nat_lt n x) (n ∷ x ∷ xs) (if x == n then x ∷ xs else x ∷ with_member n xs)
    (λ _ e. elim (either (g n == k) (has (map g (x ∷ xs)) k) e) [
      | inl d ↦ inl (eq_yes (g n) k d)
      | inr d ↦ inr d
    ])
    (λ _. on_if (λ (ys : List ℕ). has (map g ys) k ≡ true → (g n ≡ k) ⊎ (has (map g (x ∷ xs)) k ≡ true))
    (x == n) (x ∷ xs) (x ∷ with_member n xs) (λ _ e. inr e)
    (λ _ e. elim (either (g x == k) (has (map g (with_member n xs)) k) e) [
      | inl d ↦ inr (or_left (g x == k) (has (map g xs) k) d)
      | inr d ↦ elim (has_map_with g xs n k d) [
        | inl own ↦ inl own
        | inr old ↦ inr (or_right (g x == k) (has (map g xs) k) old)
      ]
    ])) h

pub all_at : (y : Session) (st : State) (ms : List Mpdu) (i : ℕ) → i < length ms → AllIn y st ms →
    (slot y (at no_mpdu ms i).number).state ≡ st
all_at y st [] i h a = absurd (omega (arith, h))
all_at y st (m ∷ ms) zero h a = a.0
all_at y st (m ∷ ms) (suc i) h a = all_at y st ms i (omega (arith, h)) a.1

pub rises_at : (lo hi : ℕ) (ms : List Mpdu) (i : ℕ) → i < length ms → Rises lo hi ms →
    (lo ≤ (at no_mpdu ms i).number) × ((at no_mpdu ms i).number < hi)
rises_at lo hi [] i h r = absurd (omega (arith, h))
rises_at lo hi (m ∷ ms) zero h r = (r.0, r.1)
rises_at lo hi (m ∷ ms) (suc i) h r =
    let p = rises_at (suc m.number) hi ms i (omega (arith, h)) r.2 in
    let low : suc m.number ≤ (at no_mpdu ms i).number = p.0 in
    (omega (arith, low, r.0), p.1)

pub no_answer : (P : Score → Type 0) (o : Option Score) → is_some o ≡ false → IfSome o P
no_answer P None h = tt
no_answer P (Some b) h = absurd (cc h)

pub taken_by : (c : Content) (w : World) (i : IsLawful w) (x : Exchange) (n : ℕ) → x.content ≡ c →
    IsFound w i x → is_some x.answer ≡ false → n < transmissions c →
    IsLawful (with_exchange (on_receiver w x.station x.tid (after_arrival c n))
    (record x { arrived = with_member n x.arrived }))
taken_by (Frames ms) w i x n e f none l =
    let y : Session = session w x.station x.tid in
    let r : Receiver = receiver w x.station x.tid in
    let m : ℕ = (at no_mpdu ms n).number in
    let flies : FlyIn x.number ms y = subst (λ (c : Content). FlyIn x.number (mpdus_of c) y) e
    f.open_in.opened.flies in
    let p : (y.first ≤ m) × (m < next_number y) = rises_at y.first (next_number y) ms n l flies.rising in
    lawful_taken w i x n (with_arrived m) f (agreed_arrived y r m p.0 p.1 (i.agreed x.station x.tid))
    (record {
      flies = f.open_in.opened.flies;
      kept = no_answer (λ b. AllRight b (with_arrived m r) (mpdus_of x.content)) x.answer none;
      asked = f.open_in.opened.asked;
      told = subst (λ (c : Content). IfRequest c (λ g. (length (with_member n x.arrived) == 0) ≡ false →
          has (with_arrived m r).starts g ≡ true)) (sym e) tt;
      marked = λ h. absurd (cc (h, none));
      unbatched = λ h. absurd (cc (h, none));
      reached = λ c k h. elim (has_map_with (number_at x.content) x.arrived n k h) [
        | inl own ↦ subst (λ (j : ℕ). has (with_arrived m r).arrived j ≡ true)
            (ap (λ (c : Content). number_at c n) (sym e) ∙ own) (has_new r.arrived m)
        | inr old ↦ has_old r.arrived m k (f.open_in.opened.reached c k old)
      ];
    })
    (λ z other o. open_arrived z y r x.number m (all_at y (State.Flying x.number) ms n l flies.flying) other
    o)
taken_by (Request g) w i x n e f none l =
    let y : Session = session w x.station x.tid in
    let r : Receiver = receiver w x.station x.tid in
    let asked : IsAsked g y = subst (λ (c : Content). IfRequest c (λ k. IsAsked k y)) e f.open_in.opened.asked
    in
    lawful_taken w i x n (with_start g) f (agreed_start y r g asked.from asked.start
    (i.agreed x.station x.tid))
    (record {
      flies = f.open_in.opened.flies;
      kept = no_answer (λ b. AllRight b (with_start g r) (mpdus_of x.content)) x.answer none;
      asked = f.open_in.opened.asked;
      told = subst (λ (c : Content). IfRequest c (λ k. (length (with_member n x.arrived) == 0) ≡ false →
          has (with_start g r).starts k ≡ true)) (sym e) (λ _. has_new r.starts g);
      marked = λ h. absurd (cc (h, none));
      unbatched = λ h. absurd (cc (h, none));
      reached = λ c k h. absurd (cc (c, ap is_request e));
    })
    (λ z other o. open_start z y r g o)

pub lawful_arrived : (w : World) (i : IsLawful w) (x : Exchange) (n : ℕ) → IsFound w i x →
    is_some x.answer ≡ false → nat_le (transmissions x.content) n ≡ false →
    IsLawful (arrive_outcome w x n).world
unfolding arrive_outcome
lawful_arrived w i x n f none l = taken_by x.content w i x n refl f none (not_le _ _ l)
  where
    not_le : (a b : ℕ) → nat_le a b ≡ false → b < a
    not_le a b e = grind arith

-- ---- the end of an exchange

-- Those of the numbers that become acknowledged have arrived.
abbrev pub AllBacked : (ℕ → End) → Receiver → List Mpdu → Type 0
AllBacked ends r [] = Unit {0}
AllBacked ends r (m ∷ ms) =
    (ends m.number ≡ End.Acknowledged → has r.arrived m.number ≡ true) × AllBacked ends r ms

-- The exchange e has ended in this world, and its numbers are still on the air.
pub record IsEnding (e s t : ℕ) (ends : ℕ → End) (w : World) (ms : List Mpdu) : Type 0 where
  pub lawful : IsLawfulBut (is_tid s t) w
  pub others : Each (λ x. x.number ≢ e) w.opened
  pub flies : FlyIn e ms (session w s t)
  pub backed : AllBacked ends (receiver w s t) ms
  -- A number that is on the air is one of them, or is sent by an open exchange.
  pub sent : (n k : ℕ) → (session w s t).first ≤ n → (slot (session w s t) n).state ≡ State.Flying k →
      SomeOpen (IsSending s t k n) w.opened ⊎ (has (map (λ m. m.number) ms) n ≡ true)
  pub live : is_live w s ≡ true

pub ending_same : (e s t : ℕ) (ends : ℕ → End) (w v : World) (ms : List Mpdu) → Same w v →
    IsEnding e s t ends w ms → IsEnding e s t ends v ms
ending_same e s t ends w v ms h n = record {
  lawful = lawful_same w v h n.lawful;
  others = subst (Each (λ x. x.number ≢ e)) (sym h.opened) n.others;
  flies = subst (λ (a : Side). FlyIn e ms a.session) (sym (h.sides s t)) n.flies;
  backed = subst (λ (a : Side). AllBacked ends a.receiver ms) (sym (h.sides s t)) n.backed;
  sent = subst (λ (xs : List Exchange). (m k : ℕ) → (session v s t).first ≤ m →
      (slot (session v s t) m).state ≡ State.Flying k →
      SomeOpen (IsSending s t k m) xs ⊎ (has (map (λ m. m.number) ms) m ≡ true)) (sym h.opened)
      (subst (λ (a : Side). (m k : ℕ) → a.session.first ≤ m → (slot a.session m).state ≡ State.Flying k →
      SomeOpen (IsSending s t k m) w.opened ⊎ (has (map (λ m. m.number) ms) m ≡ true)) (sym (h.sides s t))
      n.sent);
  live = h.live s ∙ n.live;
}

pub if_ending : (b : Bool) (e s t : ℕ) (ends : ℕ → End) (w v : World) (ms : List Mpdu) →
    IsEnding e s t ends w ms → IsEnding e s t ends v ms → IsEnding e s t ends (if b then w else v) ms
if_ending true e s t ends w v ms h k = h
if_ending false e s t ends w v ms h k = k

-- A number that is still on the air is another one than m.
sent_later : (s t : ℕ) (xs : List Exchange) (y : Session) (m : Mpdu) (ms : List Mpdu) (f : Slot → Slot)
    (i k : ℕ) → ((x : Slot) (k : ℕ) → (f x).state ≡ State.Flying k → ⊥) → y.first ≤ i →
    (slot (on_slot m.number f y) i).state ≡ State.Flying k →
    ((n k : ℕ) → y.first ≤ n → (slot y n).state ≡ State.Flying k →
    SomeOpen (IsSending s t k n) xs ⊎ (has (map (λ m. m.number) (m ∷ ms)) n ≡ true)) →
    SomeOpen (IsSending s t k i) xs ⊎ (has (map (λ m. m.number) ms) i ≡ true)
sent_later s t xs y m ms f i k lands b h old =
    let before = (lands_on_slot y m.number f lands).flew i k b h in
    elim (old i k before.0 before.1) [
      | inl there ↦ inl there
      | inr among ↦ elim (either (m.number == i) (has (map (λ m. m.number) ms) i) among) [
        | inl own ↦ absurd (lands (slot y m.number) k (ap (λ (x : Slot). x.state) (sym
            (slot_same y m.number f))
            ∙ ap (λ (n : ℕ). (slot (on_slot m.number f y) n).state) (eq_yes m.number i own) ∙ h))
        | inr rest ↦ inr rest
      ]
    ]

-- One of its numbers leaves the air.
pub ending_slot : (e s t : ℕ) (ends : ℕ → End) (w : World) (m : Mpdu) (ms : List Mpdu) (f : Slot → Slot) →
    ((f (slot (session w s t) m.number)).state ≡ State.Acked → ends m.number ≡ End.Acknowledged) →
    ((x : Slot) (k : ℕ) → (f x).state ≡ State.Flying k → ⊥) →
    IsEnding e s t ends w (m ∷ ms) → IsEnding e s t ends (on_session w s t (on_slot m.number f)) ms
ending_slot e s t ends w m ms f k lands n =
    let y : Session = session w s t in
    let r : Receiver = receiver w s t in
    let unsettled : is_settled (slot y m.number).state ≡ false = ap is_settled n.flies.flying.0 in
    let next : next_number (on_slot m.number f y) ≡ next_number y =
    ap (λ (k : ℕ). y.first + k) (length-change y.slots (m.number - y.first) f unsettled) in
    let now : session (on_session w s t (on_slot m.number f)) s t ≡ on_slot m.number f y =
    session_on_session w s t (on_slot m.number f) n.live in
    record {
      lawful = lawful_on_session (λ x. x.number ≢ e) w s t (on_slot m.number f) n.others refl
          (agreed_on_slot y r m.number f n.flies.rising.0 unsettled (λ h. n.backed.0 (k h))
          (n.lawful.agreed s t))
          (λ h. absurd (not_own s t h)) (λ h. absurd (not_own s t h))
          (λ x b other _ _ o. open_on_slot x y r m.number f n.flies.rising.0 unsettled
          (λ h. absurd (other (cc (h, n.flies.flying.0)))) o) n.lawful;
      others = subst (Each (λ x. x.number ≢ e)) (sym (opened_on_session w s t _)) n.others;
      flies = subst (FlyIn e ms) (sym now) (record {
        rising = subst (λ (k : ℕ). Rises y.first k ms) (sym next)
            (rises_weaken (suc m.number) y.first (next_number y) (next_number y) ms
            (omega (arith, n.flies.rising.0)) (omega arith) n.flies.rising.2);
        flying = all_in_later y (State.Flying e) m.number
            (next_number y) f ms n.flies.rising.0 n.flies.rising.2 n.flies.flying.1;
      });
      backed = subst (λ (r : Receiver). AllBacked ends r ms)
          (sym (receiver_on_session w s t (on_slot m.number f) n.live)) n.backed.1;
      sent = subst (λ (xs : List Exchange). (i k : ℕ) →
          (session (on_session w s t (on_slot m.number f)) s t).first ≤ i →
          (slot (session (on_session w s t (on_slot m.number f)) s t) i).state ≡ State.Flying k →
          SomeOpen (IsSending s t k i) xs ⊎ (has (map (λ m. m.number) ms) i ≡ true))
          (sym (opened_on_session w s t _))
          (subst (λ (z : Session). (i k : ℕ) → z.first ≤ i → (slot z i).state ≡ State.Flying k →
          SomeOpen (IsSending s t k i) w.opened ⊎ (has (map (λ m. m.number) ms) i ≡ true)) (sym now)
          (λ i k b h. sent_later s t w.opened y m ms f i k lands b h n.sent));
      live = live_on_session w s t _ s ∙ n.live;
    }

ending_failing : (e s t : ℕ) (ends : ℕ → End) (w : World) (m : Mpdu) (ms : List Mpdu)
    (f : Slot → Slot) →
    ((f (slot (session w s t) m.number)).state ≡ State.Acked → ends m.number ≡ End.Acknowledged) →
    ((x : Slot) (k : ℕ) → (f x).state ≡ State.Flying k → ⊥) →
    IsEnding e s t ends w (m ∷ ms) →
    IsEnding e s t ends (with_failed_finished (on_session w s t (on_slot m.number f)) s t m) ms
unfolding with_failed_finished
ending_failing e s t ends w m ms f h lands n =
    let v : World = on_session w s t (on_slot m.number f) in
    let k : IsEnding e s t ends v ms = ending_slot e s t ends w m ms f h lands n in
    if_ending (is_failed (slot (session v s t) m.number).state) e s t ends _ v ms
    (ending_same e s t ends _ _ ms (same_finish v _ _) k) k

pub ending_settled : (end : End) (e s t : ℕ) (ends : ℕ → End) (w : World) (m : Mpdu) (ms : List Mpdu) →
    ends m.number ≡ end → IsEnding e s t ends w (m ∷ ms) → IsEnding e s t ends (with_settled w s t end m) ms
unfolding with_settled
ending_settled End.Acknowledged e s t ends w m ms h n =
    ending_same e s t ends _ _ ms (same_finish _ _ _)
    (ending_slot e s t ends w m ms (λ x. record x { state = State.Acked }) (λ _. h) (λ x k g. cc g) n)
ending_settled End.Missed e s t ends w m ms h n =
    ending_failing e s t ends w m ms (slot_after_miss w.config.attempts)
    (λ k. absurd (missed_not_acked w.config.attempts (slot (session w s t) m.number) k))
    (end_not_flying w.config.attempts End.Missed) n
ending_settled End.GivenUp e s t ends w m ms h n =
    ending_failing e s t ends w m ms (slot_given_up w.config.attempts) (λ k. absurd (cc k)) (λ x k g. cc g) n
ending_settled End.Unsent e s t ends w m ms h n =
    ending_failing e s t ends w m ms (λ x. record x { state = State.Waiting }) (λ k. absurd (cc k))
    (λ x k g. cc g) n

-- All its numbers have left the air.
pub ending_last : (ms : List Mpdu) (e s t : ℕ) (w : World) (ends : ℕ → End) → IsEnding e s t ends w ms →
    IsEnding e s t ends (with_all_settled w s t ends ms) []
unfolding with_all_settled
ending_last [] e s t w ends n = n
ending_last (m ∷ ms) e s t w ends n = ending_last ms e s t _ ends
    (ending_settled (ends m.number) e s t ends w m ms refl n)

pub ending_all : (ms : List Mpdu) (e s t : ℕ) (w : World) (ends : ℕ → End) → IsEnding e s t ends w ms →
    IsLawfulBut (is_tid s t) (with_all_settled w s t ends ms)
ending_all ms e s t w ends n = (ending_last ms e s t w ends n).lawful

-- Without the exchange x, except for the TIDs whose numbers x sends.
pub lawful_without : {p : ℕ → ℕ → Bool} (w : World) (i : IsLawful w) (x : Exchange) →
    Each (λ y. y.number ≡ x.number → y ≡ x) w.opened →
    ((s t e n : ℕ) → p s t ≡ false → IsSending s t e n x → ⊥) → IsLawfulBut p (without_exchange w x.number)
unfolding without_exchange
lawful_without w i x alone none =
    let v : World = record w { opened = filter (λ y. not (y.number == x.number)) w.opened } in
    record {
      agreed = i.agreed;
      opened = each_map (IsOpenIn w) (IsOpenIn v) v.opened
          (λ y g. record {
            live = g.live;
            below = g.below;
            right = record { batch = g.right.batch; frames = g.right.frames };
            plain = g.plain;
            calm = g.calm;
            opened = g.opened;
          })
          (each_filter (IsOpenIn w) (IsOpenIn w) (λ y. not (y.number == x.number)) w.opened (λ y _ g. g)
          i.opened);
      sole = λ s t. record {
        who = (i.sole s t).who;
        only = each_filter (λ y. asks s t y ≡ true → y.number ≡ (i.sole s t).who)
            (λ y. asks s t y ≡ true → y.number ≡ (i.sole s t).who) (λ y. not (y.number == x.number)) w.opened
            (λ y _ h. h) (i.sole s t).only;
      };
      rising = rises_filter w.opened (λ y. not (y.number == x.number)) 0 w.exchanges i.rising;
      moded = i.moded;
      quiet = λ s t _. i.quiet s t refl;
      sent = λ s t q n e b h. elim (some_without (IsSending s t e n) x w.opened alone
          (i.sent s t refl n e b h)) [ inl there ↦ there | inr own ↦ absurd (none s t e n q own) ];
    }

pub sole_without : (w : World) (i : IsLawful w) (e s t : ℕ) →
    Each (λ y. asks s t y ≡ true → y.number ≡ (i.sole s t).who) (without_exchange w e).opened
unfolding without_exchange
sole_without w i e s t = each_filter (λ y. asks s t y ≡ true → y.number ≡ (i.sole s t).who)
    (λ y. asks s t y ≡ true → y.number ≡ (i.sole s t).who) (λ y. not (y.number == e)) w.opened (λ y _ h. h)
    (i.sole s t).only

pub others_without : (w : World) (i : IsLawful w) (e : ℕ) →
    Each (λ y. y.number ≢ e) (without_exchange w e).opened
unfolding without_exchange
others_without w i e = each_filter (IsOpenIn w) (λ y. y.number ≢ e) (λ y. not (y.number == e)) w.opened
    (λ y keeps g. differ y.number e keeps) i.opened

pub same_sides_without : (w : World) (e s t : ℕ) → side (without_exchange w e) s t ≡ side w s t
unfolding without_exchange
same_sides_without w e s t = refl

pub live_without : (w : World) (e s : ℕ) → is_live (without_exchange w e) s ≡ is_live w s
unfolding without_exchange
live_without w e s = refl

-- A number of the exchange that its answer shows has arrived.
shown_arrived : (ms : List Mpdu) (b : Score) (r : Receiver) (n : ℕ) → AllRight b r ms →
    has (map (λ m. m.number) ms) n ≡ true → shows b n ≡ true → has r.arrived n ≡ true
shown_arrived [] b r n k h e = absurd (cc h)
shown_arrived (m ∷ ms) b r n k h e = elim (either (m.number == n) (has (map (λ m. m.number) ms) n) h) [
  | inl d ↦ let same : m.number ≡ n = eq_yes m.number n d in
      subst (λ (i : ℕ). has r.arrived i ≡ true) same (sym k.0.shown ∙ (ap (shows b) same ∙ e))
  | inr d ↦ shown_arrived ms b r n k.1 d e
]

answer_arrived : (heard : Bool) (o : Option Score) (r : Receiver) (ms : List Mpdu) (n : ℕ) →
    IfSome o (λ b. AllRight b r ms) → has (map (λ m. m.number) ms) n ≡ true → is_acked heard o n ≡ true →
    has r.arrived n ≡ true
answer_arrived heard None r ms n k h e = absurd (cc e)
answer_arrived heard (Some b) r ms n k h e = shown_arrived ms b r n k h (both heard (shows b n) e).1

backed_along : (ms : List Mpdu) (r : Receiver) (ends : ℕ → End) →
    ((n : ℕ) → has (map (λ m. m.number) ms) n ≡ true → ends n ≡ End.Acknowledged → has r.arrived n ≡ true) →
    AllBacked ends r ms
backed_along [] r ends h = tt
backed_along (m ∷ ms) r ends h = (
  h m.number (or_left (m.number == m.number) _ (yes_eq m.number m.number refl)),
  backed_along ms r ends (λ n k. h n (or_right (m.number == n) _ k)),
)

-- The numbers that an exchange of frames leaves acknowledged have arrived.
pub backed_of : (u : World) (x : Exchange) (y : Session) (r : Receiver) (ms : List Mpdu) (heard : Bool) →
    x.content ≡ Frames ms → IsOpen x y r → AllBacked (end_of u x heard) r ms
backed_of u x y r ms heard e o =
    let kept : IfSome x.answer (λ b. AllRight b r ms) =
    subst (λ (c : Content). IfSome x.answer (λ b. AllRight b r (mpdus_of c))) e o.kept in
    backed_along ms r (end_of u x heard) (λ n among ends. elim (end_backed u x heard n ends).1 [
      | inl d ↦ o.reached (ap is_request e) n d.1
      | inr a ↦ answer_arrived heard x.answer r ms n kept among a.1
    ])

-- Another exchange than e, which is not a request of this TID.
pub record IsApart (s t e : ℕ) (x : Exchange) : Type 0 where
  pub other : x.number ≢ e
  pub silent : asks s t x ≡ false

pub silent_of : (s t : ℕ) (x : Exchange) → s ≡ x.station → t ≡ x.tid → asks s t x ≡ false →
    IfRequest x.content (λ f. ⊥)
silent_of s t x e d h = go x.content (cc (
  h,
  ap (λ (b : Bool). b && ((x.tid == t) && is_request x.content))
      (yes_eq x.station s (sym e)) ∙ ap (λ (b : Bool). b && is_request x.content) (yes_eq x.tid t (sym d)),
))
  where
    go : (c : Content) → is_request c ≡ false → IfRequest c (λ f. ⊥)
    go (Frames ms) h = tt
    go (Request f) h = cc h

pub agreed_heard_start : (b : Bool) (y : Session) (r : Receiver) (f : ℕ) →
    (b ≡ true → has r.starts f ≡ true) → IsAgreed y r → IsAgreed (with_heard_start b f y) r
agreed_heard_start true y r f h a = agreed_heard y r f (h refl) a
agreed_heard_start false y r f h a = a

pub open_heard_start : (b : Bool) (x : Exchange) (y : Session) (r : Receiver) (f : ℕ) →
    IfRequest x.content (λ f. ⊥) → IsOpen x y r → IsOpen x (with_heard_start b f y) r
open_heard_start true x y r f h o = open_heard x y r (max y.heard f) h o
open_heard_start false x y r f h o = o

-- A number that x sends is not of another TID than its own.
sends_own : (x : Exchange) (s t e n : ℕ) → is_tid x.station x.tid s t ≡ false → IsSending s t e n x → ⊥
sends_own x s t e n q h = cc (
  and_true (s == x.station) (t == x.tid) (yes_eq s x.station (sym h.station)) (yes_eq t x.tid (sym h.tid)),
  q,
)

-- Without the exchange x a number on the air is sent by another one, or was sent by x.
sent_without : (w : World) (i : IsLawful w) (x : Exchange) (ms : List Mpdu) → x.content ≡ Frames ms →
    IsFound w i x → (n k : ℕ) → (session (without_exchange w x.number) x.station x.tid).first ≤ n →
    (slot (session (without_exchange w x.number) x.station x.tid) n).state ≡ State.Flying k →
    SomeOpen (IsSending x.station x.tid k n) (without_exchange w x.number).opened ⊎
    (has (map (λ m. m.number) ms) n ≡ true)
unfolding without_exchange
sent_without w i x ms e f n k b h = elim (some_without (IsSending x.station x.tid k n) x w.opened f.alone
    (i.sent x.station x.tid refl n k b h)) [
      | inl there ↦ inl there
      | inr own ↦ inr (subst (λ (c : Content). has (map (λ m. m.number) (mpdus_of c)) n ≡ true) e own.among)
    ]

-- The world after the exchange has ended. Its ends are judged in the world u.
pub ending_found : (u w : World) (i : IsLawful w) (x : Exchange) (ms : List Mpdu) (heard : Bool) →
    x.content ≡ Frames ms → IsFound w i x →
    IsEnding x.number x.station x.tid (end_of u x heard) (without_exchange w x.number) ms
ending_found u w i x ms heard e f = record {
  lawful = lawful_without w i x f.alone (sends_own x);
  others = others_without w i x.number;
  flies = subst (λ (a : Side). FlyIn x.number ms a.session)
      (sym (same_sides_without w x.number x.station x.tid))
      (subst (λ (c : Content). FlyIn x.number (mpdus_of c) (session w x.station x.tid)) e
      f.open_in.opened.flies);
  backed = subst (λ (a : Side). AllBacked (end_of u x heard) a.receiver ms)
      (sym (same_sides_without w x.number x.station x.tid))
      (backed_of u x (session w x.station x.tid) (receiver w x.station x.tid) ms heard e f.open_in.opened);
  sent = sent_without w i x ms e f;
  live = live_without w x.number x.station ∙ f.open_in.live;
}

-- The world after the exchange has ended and its charge is made.
pub ending_of : (air : Option ℕ) (w : World) (i : IsLawful w) (x : Exchange) (ms : List Mpdu) (heard : Bool) →
    x.content ≡ Frames ms → IsFound w i x →
    IsEnding x.number x.station x.tid (end_of (after_charge (without_exchange w x.number) x air) x heard)
    (after_charge (without_exchange w x.number) x air) ms
ending_of air w i x ms heard e f =
    let v : World = after_charge (without_exchange w x.number) x air in
    ending_same x.number x.station x.tid (end_of v x heard) (without_exchange w x.number) v ms
    (same_charged air (without_exchange w x.number) x) (ending_found v w i x ms heard e f)

-- No exchange of a TID without an agreement is a request.
pub no_requests : (xs : List Exchange) (w : World) (s t : ℕ) → is_agreed w s t ≡ false →
    Each (IsOpenIn w) xs → Each (λ x. asks s t x ≡ false) xs
no_requests xs w s t d e = each_map (IsOpenIn w) (λ x. asks s t x ≡ false) xs
    (λ x o. on_bool (asks s t x) (λ h.
    let k = asks_is s t x h in
    absurd (cc (k.2, o.calm (ap (λ (a : ℕ). is_agreed w a x.tid) k.0 ∙ (ap (is_agreed w s) k.1 ∙ d)))))
    (λ h. h)) e

-- The sides of a TID of a station that is not live stay those of no TID.
dead_side : (w : World) (s t : ℕ) (f : Tid → Tid) → is_live w s ≡ false →
    side (on_tid w s t f) s t ≡ side_of no_tid
unfolding on_tid on_station with_station
dead_side w s t f dead =
    ap (λ (o : Option Station). sides_of o t) (at_put_same None w.stations s _) ∙ go
    (at None w.stations s) dead
  where
    go : (o : Option Station) → is_some o ≡ false →
        sides_of (option_map (λ (x : Station). record x { tids = change no_tid x.tids t f }) o) t
        ≡ side_of no_tid
    go None h = refl
    go (Some x) h = absurd (cc h)

-- After a TID is renewed, no request is due.
renewed_side : (w : World) (s t size : ℕ) (mode : Mode) →
    request_due (side (on_tid w s t (renewed (start_of (session w s t)) size mode)) s t).session ≡ false
renewed_side w s t size mode = on_bool (is_live w s)
    (λ live. ap (λ (a : Side). request_due a.session) (side_on w s t _ live) ∙ told_quiet (session w s t))
    (λ dead. ap (λ (a : Side). request_due a.session) (dead_side w s t _ dead))

-- After a TID catches up, no request is due.
told_side : (w : World) (s t : ℕ) →
    request_due (side (on_tid w s t (told_start (start_of (session w s t)))) s t).session ≡ false
told_side w s t = on_bool (is_live w s)
    (λ live. ap (λ (a : Side). request_due a.session) (side_on w s t _ live) ∙ told_quiet (session w s t))
    (λ dead. ap (λ (a : Side). request_due a.session) (dead_side w s t _ dead))

lawful_told : (w : World) (s t : ℕ) → is_agreed w s t ≡ false → AreSent w.opened s t (session w s t) →
    IsLawfulBut (is_tid s t) w → IsLawful (caught_up w s t)
lawful_told w s t d own i =
    let y : Session = session w s t in
    let r : Receiver = receiver w s t in
    let f : Tid → Tid = told_start (start_of y) in
    subst IsLawful (sym (caught_up_is w s t))
    (lawful_all (on_tid w s t f) s t (λ _. told_side w s t)
    (subst (λ (xs : List Exchange). AreSent xs s t (session (on_tid w s t f) s t)) (sym (on_opened w s t f))
    (at_side_on (λ a. AreSent w.opened s t a.session) w s t f s t own (λ _ _ k. k)))
    (lawful_on_tid (λ x. asks s t x ≡ false) w s t f
    (no_requests w.opened w s t d i.opened) (record { mode = refl; size = refl })
    (agreed_told y r (i.agreed s t)) (λ h. absurd (not_own s t h)) (λ h. absurd (not_own s t h))
    (λ x b silent e c o. open_heard x y (with_start (start_of y) r) (max y.heard (start_of y))
    (silent_of s t x e c silent) (open_start x y r (start_of y) o)) i))

-- The two cases of a TID that catches up if it has no agreement.
on_caught : (w : World) (s t : ℕ) → (is_agreed w s t ≡ true → IsLawful w) →
    (is_agreed w s t ≡ false → IsLawful (caught_up w s t)) → IsLawful (caught_up_if_plain w s t)
unfolding caught_up_if_plain
on_caught w s t h k = on_if IsLawful (is_agreed w s t) w (caught_up w s t) h k

pub lawful_caught : (w : World) (s t : ℕ) → AreSent w.opened s t (session w s t) →
    IsLawfulBut (is_tid s t) w → IsLawful (caught_up_if_plain w s t)
lawful_caught w s t own i = on_caught w s t
    (λ is. lawful_all w s t (λ d. absurd (cc (is, d))) own i) (λ d. lawful_told w s t d own i)

heard_size : (b : Bool) (start : ℕ) (y : Session) → (with_heard_start b start y).size ≡ y.size
heard_size true start y = refl
heard_size false start y = refl

pub ended_by : (c : Content) (w : World) (i : IsLawful w) (x : Exchange) (heard : Bool) (v : World) →
    x.content ≡ c → IsFound w i x → (heard ≡ true → x.batch ≡ false → is_some x.answer ≡ true) →
    Same (without_exchange w x.number) v → IsLawful (after_done v x heard c)
unfolding after_done
ended_by (Frames ms) w i x heard v e f told k =
    let last : IsEnding x.number x.station x.tid (end_of v x heard)
    (with_all_settled v x.station x.tid (end_of v x heard) ms) [] =
    ending_last ms x.number x.station x.tid v (end_of v x heard)
    (ending_same x.number x.station x.tid (end_of v x heard) (without_exchange w x.number) v ms k
    (ending_found v w i x ms heard e f)) in
    lawful_caught _ x.station x.tid
    (λ n e b h. elim (last.sent n e b h) [ inl there ↦ there | inr none ↦ absurd (cc none) ]) last.lawful
ended_by (Request g) w i x heard v e f told k =
    let same_side : side v x.station x.tid ≡ side w x.station x.tid =
    k.sides x.station x.tid ∙ same_sides_without w x.number x.station x.tid in
    let lawful : IsLawful v = lawful_same _ v k (lawful_without w i x f.alone (λ s t k n _ h.
    cc (subst (λ (c : Content). has (map (λ m. m.number) (mpdus_of c)) n ≡ true) e h.among))) in
    let own : asks x.station x.tid x ≡ true = and_true (x.station == x.station)
    ((x.tid == x.tid) && is_request x.content) (yes_eq x.station x.station refl)
    (and_true (x.tid == x.tid) (is_request x.content) (yes_eq x.tid x.tid refl) (ap is_request e)) in
    let who : x.number ≡ (i.sole x.station x.tid).who = f.only x.station x.tid own in
    let apart : Each (λ y. asks x.station x.tid y ≡ false) v.opened =
    each_both (λ y. y.number ≢ x.number) (λ y. asks x.station x.tid y ≡ true →
    y.number ≡ (i.sole x.station x.tid).who) (λ y. asks x.station x.tid y ≡ false) v.opened
    (λ y other only. on_bool (asks x.station x.tid y) (λ yes_asks. absurd (other (only yes_asks ∙ sym who)))
    (λ h. h))
    (subst (Each (λ y. y.number ≢ x.number)) (sym k.opened) (others_without w i x.number))
    (subst (Each (λ y. asks x.station x.tid y ≡ true → y.number ≡ (i.sole x.station x.tid).who))
    (sym k.opened) (sole_without w i x.number x.station x.tid))
    in
    let unbatched : x.batch ≡ false =
    on_bool x.batch (λ h. absurd (cc (f.open_in.right.frames h, ap is_request e))) (λ h. h) in
    let arrived_start : (length x.arrived == 0) ≡ false →
    has (receiver w x.station x.tid).starts g ≡ true =
    subst (λ (c : Content). IfRequest c (λ k. (length x.arrived == 0) ≡ false →
    has (receiver w x.station x.tid).starts k ≡ true)) e f.open_in.opened.told in
    lawful_on_session (λ y. asks x.station x.tid y ≡ false) v x.station x.tid (with_heard_start heard g) apart
    (heard_size heard g (session v x.station x.tid))
    (agreed_heard_start heard (session v x.station x.tid) (receiver v x.station x.tid) g
    (λ h. ap (λ (a : Side). has a.receiver.starts g) same_side
    ∙ arrived_start (f.open_in.opened.marked (told h unbatched))) (lawful.agreed x.station x.tid))
    (λ _ _. quiet_heard heard g (session v x.station x.tid))
    (λ _. lands_heard heard g (session v x.station x.tid))
    (λ y b silent s t o. open_heard_start heard y (session v x.station x.tid) (receiver v x.station x.tid) g
    (silent_of x.station x.tid y s t silent) o) lawful

pub lawful_ended : (air : Option ℕ) (w : World) (i : IsLawful w) (x : Exchange) (heard : Bool) →
    IsFound w i x →
    (heard ≡ true → x.batch ≡ false → is_some x.answer ≡ true) → IsLawful (done_outcome w x heard air).world
unfolding done_outcome
lawful_ended air w i x heard f told = ended_by x.content w i x heard _ refl f told (same_charged air _ x)

-- ---- a flush

agreed_flush : (limit : ℕ) (y : Session) (r : Receiver) → IsAgreed y r → IsAgreed (after_flush limit y) r
agreed_flush limit y r a = flush_along (λ z. IsAgreed z r) limit y
    (λ z n e l b waits k. agreed_on_slot z r n (slot_given_up limit) l (ap is_settled waits)
    (λ no_ack. cc no_ack) k) a

open_flush : (limit : ℕ) (x : Exchange) (y : Session) (r : Receiver) → IsOpen x y r →
    IsOpen x (after_flush limit y) r
open_flush limit x y r o = flush_along (λ z. IsOpen x z r) limit y
    (λ z n e l b waits k. open_on_slot x z r n (slot_given_up limit) l (ap is_settled waits)
    (λ flies. absurd (cc (flies, waits))) k) o

-- The waiting numbers of a TID fail.
lawful_failed : (w : World) (s t : ℕ) → IsLawful w →
    IsLawfulBut (is_tid s t) (on_session w s t (after_flush w.config.attempts))
lawful_failed w s t i =
    lawful_on_session (λ _. Unit {0}) w s t (after_flush w.config.attempts) (any_exchange w.opened) refl
    (agreed_flush w.config.attempts (session w s t) (receiver w s t) (i.agreed s t))
    (λ h. absurd (not_own s t h)) (λ h. absurd (not_own s t h))
    (λ x b n e d o. open_flush w.config.attempts x (session w s t) (receiver w s t) o)
    (lawful_but (is_tid s t) w i)

sent_failed : (w : World) (s t : ℕ) → IsLawful w →
    AreSent (on_session w s t (after_flush w.config.attempts)).opened s t
    (session (on_session w s t (after_flush w.config.attempts)) s t)
unfolding on_session
sent_failed w s t i =
    sent_on_tid {p = λ _ _. false} w s t (λ y. record y { session = after_flush w.config.attempts y.session })
    i.sent (λ _ n e b h.
    let k = (lands_flush w.config.attempts
    (session w s t)).flew n e b h in i.sent s t refl n e k.0 k.1) s t refl

sent_same : (w v : World) (s t : ℕ) → Same w v → AreSent w.opened s t (session w s t) →
    AreSent v.opened s t (session v s t)
sent_same w v s t h k = subst (λ (xs : List Exchange). AreSent xs s t (session v s t)) (sym h.opened)
    (subst (λ (a : Side). AreSent w.opened s t a.session) (sym (h.sides s t)) k)

pub lawful_emptied : (w : World) (s t : ℕ) → IsLawful w → IsLawfulBut (is_tid s t) (emptied_world w s t)
lawful_emptied w s t i = lawful_same _ _ (same_emptied w s t) (lawful_failed w s t i)

pub lawful_flushed : (w : World) (s t : ℕ) → IsLawful w → IsLawful (flush_outcome w s t).world
lawful_flushed w s t i = subst IsLawful (sym (flush_is w s t))
    (lawful_caught (emptied_world w s t) s t
    (sent_same _ _ s t (same_emptied w s t) (sent_failed w s t i)) (lawful_emptied w s t i))

-- ---- an agreement begins or ends

pub not_no : (b : Bool) → not b ≡ false → b ≡ true
not_no true h = refl
not_no false h = absurd (cc h)

agreed_narrow : (b : Bool) → not (b || true) ≡ true → ⊥
agreed_narrow true h = cc h
agreed_narrow false h = cc h

-- A TID that is held back has no device.
pub not_device : (w : World) (s t : ℕ) → IsLawful w → is_held_back w s t ≡ true → is_offloaded w s ≡ false
not_device w s t i held = on_bool (is_offloaded w s)
    (λ d. absurd ((i.moded s t).held (and_true (is_offloaded w s) (is_held_back w s t) d held))) (λ d. d)

at_least_one : (window : ℕ) → not (is_within 1 greatest_window window) ≡ false → 1 ≤ window
at_least_one window h = le_yes 1 window
    (both (nat_le 1 window) (nat_le window greatest_window) (not_no (is_within 1 greatest_window window) h)).0

off_on_session : (w : World) (s t : ℕ) (f : Session → Session) (i : ℕ) →
    is_offloaded (on_session w s t f) i ≡ is_offloaded w i
unfolding on_session
off_on_session w s t f i = on_offloaded w s t _ i

-- The window of both sides changes while no number that fails is untold.
agreed_sized : (y : Session) (r : Receiver) (size : ℕ) → IsAgreed y r → next_number y ≤ start_of y + size →
    ((n : ℕ) → IsUntold y n → ⊥) → IsAgreed (record y { size = size }) (record r { size = size })
agreed_sized y r size a within none = record {
  first = a.first;
  size = refl;
  within = record { within = within };
  rising = a.rising;
  arrived = a.arrived;
  starts = a.starts;
  heard = a.heard;
  acked = a.acked;
  failed = λ n u. absurd (none n
      (record { from = u.from; failed = u.failed; told = u.told; below = u.below }));
}

none_untold : (y : Session) (n : ℕ) → IsUntold (with_heard_start true (start_of y) y) n → ⊥
none_untold y n u = omega (arith, u.told, u.below)

-- No exchange of a TID is open.
abbrev pub NoneOpen : ℕ → ℕ → List Exchange → Type 0
NoneOpen s t xs = Each (λ x. s ≡ x.station → t ≡ x.tid → ⊥) xs

-- A TID catches up, and gets this window and this mode. No exchange of it is open, and no number is on the
-- air.
lawful_renewed : (w : World) (s t size : ℕ) (mode : Mode) → IsLawfulBut (is_tid s t) w →
    NoneOpen s t w.opened → next_number (session w s t) ≤ start_of (session w s t) + size →
    IsModed (is_offloaded w s) (renewed (start_of (session w s t)) size mode (tid_of w s t)) →
    AreSent w.opened s t (session w s t) →
    IsLawful (on_tid w s t (renewed (start_of (session w s t)) size mode))
lawful_renewed w s t size mode i none within modes own =
    let y : Session = session w s t in
    let r : Receiver = receiver w s t in
    let start : ℕ = start_of y in
    let f : Tid → Tid = renewed start size mode in
    lawful_all (on_tid w s t f) s t (λ _. renewed_side w s t size mode)
    (subst (λ (xs : List Exchange). AreSent xs s t (session (on_tid w s t f) s t)) (sym (on_opened w s t f))
    (at_side_on (λ a. AreSent w.opened s t a.session) w s t f s t own (λ _ _ k. k)))
    (record {
      agreed = each_side_on (λ _ _ z. AgreedAt z) w s t f i.agreed
          (agreed_sized (with_heard_start true start y) (with_start start r) size
          (agreed_told y r (i.agreed s t)) within (none_untold y));
      opened = opened_on_tid (λ x. s ≡ x.station → t ≡ x.tid → ⊥) w s t f none
          (λ x b k e d _. absurd (k e d)) i.opened;
      sole = λ a b. subst (λ (xs : List Exchange). IsSole xs a b) (sym (on_opened w s t f)) (i.sole a b);
      rising = rising_on_tid w s t f i.rising;
      moded = moded_on_tid w s t f i.moded modes;
      quiet = each_side_on (λ a b z. is_tid s t a b ≡ false → z.agreed ≡ false →
          request_due z.session ≡ false)
          w s t f i.quiet (λ h. absurd (not_own s t h));
      sent = sent_on_tid w s t f i.sent (λ h. absurd (not_own s t h));
    })

pub none_of_tid : (s t : ℕ) (xs : List Exchange) →
    nat_lt 0 (count_by (λ x. (x.station == s) && (x.tid == t)) xs) ≡ false → NoneOpen s t xs
none_of_tid s t [] h = tt
none_of_tid s t (x ∷ xs) h =
    let c : count_by (λ y. (y.station == s) && (y.tid == t)) (x ∷ xs)
    ≡ (if (x.station == s) && (x.tid == t) then 1 else 0)
    + count_by (λ y. (y.station == s) && (y.tid == t)) xs =
    sum_by-cons (λ (y : Exchange). if (y.station == s) && (y.tid == t) then 1 else 0) x xs in
    let zero_all : nat_lt 0 ((if (x.station == s) && (x.tid == t) then 1 else 0)
    + count_by (λ y. (y.station == s) && (y.tid == t)) xs) ≡ false = ap (nat_lt 0) (sym c) ∙ h in (
      (λ e d. no_one (count_by (λ y. (y.station == s) && (y.tid == t)) xs)
          (subst (λ (b : Bool). nat_lt 0 ((if b then 1 else 0)
          + count_by (λ y. (y.station == s) && (y.tid == t)) xs) ≡ false)
          (and_true (x.station == s) (x.tid == t) (yes_eq x.station s (sym e)) (yes_eq x.tid t (sym d)))
          zero_all)),
      none_of_tid s t xs (no_more _ _ zero_all),
    )
  where
    no_one : (n : ℕ) → nat_lt 0 (1 + n) ≡ false → ⊥
    no_one n k = not_less n k

    no_more : (a b : ℕ) → nat_lt 0 (a + b) ≡ false → nat_lt 0 b ≡ false
    no_more a b k = grind arith

pub lawful_begun : (w : World) (s t window : ℕ) → NoRow (refusals w (Asked (Begin s t window))) → IsLawful w →
    IsLawful (begin_outcome w s t window).world
lawful_begun w s t window e i =
    let y : Session = session w s t in
    let held : is_held_back w s t ≡ true = not_no (is_held_back w s t) e.1.1.1.1.0 in
    let kept : is_offloaded w s ≡ false = not_device w s t i held in
    let plain : is_plain w s t ≡ true =
    ap (λ (b : Bool). not (b || is_agreed w s t)) kept
    ∙ ap (λ (b : Bool). not b) (held_not_agreed (tid_of w s t).mode held) in
    let some : 1 ≤ window = at_least_one window e.1.1.0 in
    let narrow : y.size ≤ 1 = (i.moded s t).narrow plain in
    subst IsLawful (sym (begun_is w s t window)) (lawful_renewed w s t window Agreed
    (lawful_but (is_tid s t) w i) (none_of_tid s t w.opened e.1.1.1.1.1.0)
    (omega (arith, (i.agreed s t).within.within, narrow, some))
    (record {
      device = λ d. absurd (cc (d, kept));
      held = λ d. absurd (cc (d, ap (λ (b : Bool). b && false) kept));
      narrow = λ d. absurd (agreed_narrow (is_offloaded w s) d);
    })
    (i.sent s t refl))

pub lawful_ceased : (w : World) (s t : ℕ) → NoRow (refusals w (Asked (Cease s t))) → IsLawful w →
    IsLawful (cease_outcome w s t).world
lawful_ceased w s t e i =
    let y : Session = session w s t in
    let is : is_agreed w s t ≡ true = not_no (is_agreed w s t) e.1.1.1.0 in
    let kept : is_offloaded w s ≡ false = on_bool (is_offloaded w s)
    (λ d. absurd (cc (device_plain w s t i d, is))) (λ d. d) in
    let none : NoneOpen s t w.opened = none_of_tid s t w.opened e.1.1.1.1.0 in
    let live : is_live w s ≡ true = not_no (is_live w s) e.1.1.0 in
    let k : Same (on_session w s t (after_flush w.config.attempts)) (after_numbers_ended w s t) =
    same_ended w s t in
    let now : session (after_numbers_ended w s t) s t ≡ after_flush w.config.attempts y =
    session_same _ _ k s t ∙ session_on_session w s t (after_flush w.config.attempts) live in
    let all : start_of (after_flush w.config.attempts y) ≡ next_number (after_flush w.config.attempts y) =
    start_flush w.config.attempts y (λ n f b h. none_sending s t f n w.opened none
    (i.sent s t refl n f b h)) in
    let next : next_number (session (after_numbers_ended w s t) s t)
    ≡ start_of (session (after_numbers_ended w s t) s t) =
    ap next_number now ∙ sym all ∙ ap start_of (sym now) in
    let off : is_offloaded (after_numbers_ended w s t) s ≡ false =
    k.offloaded s ∙ off_on_session w s t _ s ∙ kept in
    subst IsLawful (sym (ceased_is w s t)) (lawful_renewed (after_numbers_ended w s t) s t plain_window OnHold
    (lawful_same _ _ k (lawful_failed w s t i))
    (subst (NoneOpen s t) (sym (k.opened ∙ opened_on_session w s t _)) none)
    (omega (arith, next))
    (record {
      device = λ _. refl;
      held = λ d. absurd (cc (d, ap (λ (b : Bool). b && true) off));
      narrow = λ _. omega arith;
    })
    (sent_same _ _ s t k (sent_failed w s t i)))

-- ---- joining and leaving

pub lawful_with_station : (w : World) (s : ℕ) (o : Option Station) → Each (λ x. s ≢ x.station) w.opened →
    ((t : ℕ) → AgreedAt (sides_of o t)) → ((t : ℕ) → request_due (sides_of o t).session ≡ false) →
    ((t : ℕ) → IsModed (unwrap_or o no_station).offloaded (at no_tid (unwrap_or o no_station).tids t)) →
    ((t : ℕ) → next_number (sides_of o t).session ≡ (sides_of o t).session.first) →
    IsLawful w → IsLawful (with_station w s o)
unfolding with_station
lawful_with_station w s o away new calm modes bare i = record {
  agreed = each_put (λ i o. (t : ℕ) → AgreedAt (sides_of o t)) None w.stations s o i.agreed new;
  opened = each_both (IsOpenIn w) (λ x. s ≢ x.station)
      (IsOpenIn (record w { stations = put None w.stations s o })) w.opened (λ x f ne.
      let old : at None (put None w.stations s o) x.station ≡ at None w.stations x.station =
      at_put_other None w.stations s x.station o ne in record {
        live = ap is_some old ∙ f.live;
        below = f.below;
        right = record {
          batch = f.right.batch ∙ ap (λ (p : Option Station). (unwrap_or p no_station).offloaded) (sym old);
          frames = f.right.frames;
        };
        plain = f.plain ∙ ap (λ (p : Option Station). not ((unwrap_or p no_station).offloaded
            || (sides_of p x.tid).agreed)) (sym old);
        calm = λ d. f.calm (ap (λ (p : Option Station). (sides_of p x.tid).agreed) (sym old) ∙ d);
        opened = subst (λ (p : Option Station). OpenAt x (sides_of p x.tid)) (sym old) f.opened;
      }) i.opened away;
  sole = i.sole;
  rising = i.rising;
  moded = each_put (λ i o. (t : ℕ) → IsModed (unwrap_or o no_station).offloaded
      (at no_tid (unwrap_or o no_station).tids t)) None w.stations s o i.moded modes;
  quiet = each_put (λ i o. (t : ℕ) → false ≡ false → (sides_of o t).agreed ≡ false →
      request_due (sides_of o t).session ≡ false) None w.stations s o i.quiet (λ t _ _. calm t);
  sent = each_put (λ i o. (t : ℕ) → false ≡ false → AreSent w.opened i t (sides_of o t).session)
      None w.stations s o i.sent (λ t _ n e b h. absurd (omega (
        arith,
        b,
        bare t,
        below_next (sides_of o t).session n b (λ k. cc (h, k)),
      )));
}

-- The modes of a TID that a station has when it joins.
pub record IsNewMode (mode : Mode) (window : ℕ) (offloaded : Bool) : Type 0 where
  pub device : offloaded ≡ true → mode ≡ Plain
  pub held : holds_back mode ≡ false
  pub narrow : not (offloaded || has_agreement mode) ≡ true → window ≤ 1

new_moded : (mode : Mode) (start window : ℕ) (offloaded : Bool) → IsNewMode mode window offloaded →
    IsModed offloaded (new_tid mode start window)
new_moded mode start window offloaded h = record {
  device = λ d. ap has_agreement (h.device d);
  held = λ d. cc ((both offloaded (holds_back mode) d).1, h.held);
  narrow = h.narrow;
}

pub lawful_new : (w : World) (s : ℕ) (mode : Mode) (window start exponent weight : ℕ) (offloaded : Bool) →
    IsNewMode mode window offloaded → is_live w s ≡ false → IsLawful w →
    IsLawful (with_station w s (Some (new_station w.config mode window start exponent weight offloaded)))
lawful_new w s mode window start exponent weight offloaded modes dead i =
    lawful_with_station w s _ (each_map (IsOpenIn w) (λ x. s ≢ x.station) w.opened
    (λ x f e. cc (ap (is_live w) e, f.live, dead)) i.opened)
    (eight (λ y. AgreedAt (side_of y)) (new_tid mode start window) (agreed_new start window) (agreed_new 0 0))
    (eight (λ y. request_due (side_of y).session ≡ false) (new_tid mode start window) refl refl)
    (eight (IsModed offloaded) (new_tid mode start window) (new_moded mode start window offloaded modes)
    (new_moded Plain 0 0 offloaded (record { device = λ _. refl; held = refl; narrow = λ _. omega arith })))
    (eight (λ y. next_number y.session ≡ y.session.first) (new_tid mode start window) (omega arith)
    (omega arith)) i

pub lawful_joined : (w : World) (s window start exponent weight : ℕ) → is_live w s ≡ false → IsLawful w →
    IsLawful (join_outcome w s window start exponent weight).world
unfolding join_outcome
lawful_joined w s window start exponent weight dead i =
    lawful_new w s Agreed window start exponent weight false
    (record { device = λ d. absurd (cc d); held = refl; narrow = λ d. absurd (cc d) }) dead i

pub lawful_offloaded : (w : World) (s exponent weight : ℕ) → is_live w s ≡ false → IsLawful w →
    IsLawful (offload_outcome w s exponent weight).world
unfolding offload_outcome
lawful_offloaded w s exponent weight dead i = lawful_new w s Plain greatest_window 0 exponent weight true
    (record { device = λ _. refl; held = refl; narrow = λ d. absurd (cc d) }) dead i

pub lawful_unagreed : (w : World) (s start exponent weight : ℕ) → is_live w s ≡ false → IsLawful w →
    IsLawful (plain_outcome w s start exponent weight).world
unfolding plain_outcome
lawful_unagreed w s start exponent weight dead i = lawful_new w s Plain plain_window start exponent weight
    false
    (record { device = λ d. absurd (cc d); held = refl; narrow = λ _. omega arith }) dead i

pub same_left_tids : (ts : List ℕ) (w : World) (s : ℕ) → Same w (after_tids_left w s ts)
unfolding after_tids_left after_tid_left
same_left_tids [] w s = same w
same_left_tids (t ∷ ts) w s = then_same _ _ _
    (then_same _ _ _ (then_same _ _ _ (same_finish_all _ w _) (same_purge_queues _ _))
    (same_with_queues _ s t _)) (same_left_tids ts _ s)

pub same_off_lists : (cs : List Class) (w : World) (s : ℕ) → Same w (without_listings w s cs)
unfolding without_listings
same_off_lists [] w s = same w
same_off_lists (c ∷ cs) w s = then_same _ _ _ (same_with_rotation w c _) (same_off_lists cs _ s)

pub lawful_gone : (w : World) (s : ℕ) → nat_lt 0 (open_of_station w s) ≡ false → IsLawful w →
    IsLawful (leave_outcome w s).world
unfolding leave_outcome
lawful_gone w s h i =
    let k = then_same _ _ _ (same_left_tids (upto 8) w s) (same_off_lists all_classes _ s) in
    lawful_with_station _ s None (subst (Each (λ x. s ≢ x.station)) (sym k.opened) (none_open w.opened s h))
    (λ t. agreed_new 0 0) (λ t. refl)
    (λ t. new_moded Plain 0 0 false (record { device = λ _. refl; held = refl; narrow = λ _. omega arith }))
    (λ t. omega arith) (lawful_same _ _ k i)

-- ---- the step

pub if_on : (o : Option Exchange) (p : Exchange → Bool) → exchange_has o p ≡ false →
    IfSome o (λ x. p x ≡ false)
if_on None p h = tt
if_on (Some x) p h = h

pub some_for_all : (o : Option Exchange) (P : ℕ → ℕ → Exchange → Type 0) → ((s t : ℕ) → IfSome o (P s t)) →
    IfSome o (λ x. (s t : ℕ) → P s t x)
some_for_all None P h = tt
some_for_all (Some x) P h = λ s t. h s t

-- The facts about the exchange with number e.
pub record IsNumbered (w : World) (e : ℕ) (x : Exchange) : Type 0 where
  pub number : x.number ≡ e
  pub open_in : IsOpenIn w x

pub some_found : (w : World) (i : IsLawful w) (e : ℕ) (o : Option Exchange) → IfSome o (IsNumbered w e) →
    IfSome o (λ x. (s t : ℕ) → asks s t x ≡ true → x.number ≡ (i.sole s t).who) →
    IfSome o (λ x. Each (λ y. y.number ≡ e → y ≡ x) w.opened) → IfSome o (IsFound w i)
some_found w i e None h k l = tt
some_found w i e (Some x) h k l = record {
  open_in = h.open_in;
  only = k;
  alone = each_map (λ y. y.number ≡ e → y ≡ x) (λ y. y.number ≡ x.number → y ≡ x) w.opened
      (λ y f d. f (d ∙ h.number)) l;
}

pub found : (w : World) (i : IsLawful w) (e : ℕ) → IfSome (exchange w e) (IsFound w i)
found w i e = some_found w i e (exchange w e) (each_find (IsOpenIn w) (IsNumbered w e) (λ x. x.number == e)
    w.opened (λ x d f. record { number = eq_yes x.number e d; open_in = f }) i.opened)
    (some_for_all (exchange w e) (λ s t x. asks s t x ≡ true → x.number ≡ (i.sole s t).who)
    (λ s t. each_find (λ x. asks s t x ≡ true → x.number ≡ (i.sole s t).who)
    (λ x. asks s t x ≡ true → x.number ≡ (i.sole s t).who) (λ x. x.number == e) w.opened (λ x _ f. f)
    (i.sole s t).only))
    (found_only w.opened e 0 w.exchanges i.rising)

pub lawful_on_open : (P Q : Exchange → Type 0) (o : Option Exchange) (w : World) (f : Exchange → Outcome) →
    IfSome o P → IfSome o Q → IsLawful w → ((x : Exchange) → P x → Q x → IsLawful (f x).world) →
    IsLawful (outcome_where_open w o f).world
unfolding outcome_where_open
lawful_on_open P Q None w f h j i k = i
lawful_on_open P Q (Some x) w f h j i k = k x h j

any_some : (o : Option Exchange) → IfSome o (λ _. Unit {0})
any_some None = tt
any_some (Some x) = tt

lawful_unsent : (w : World) (i : IsLawful w) (x : Exchange) (n : ℕ) → IsFound w i x →
    IsLawful (unsent_outcome w x n).world
unfolding unsent_outcome
lawful_unsent w i x n f = lawful_marked w i x (with_member n x.unsent) x.given_up f

lawful_given_up : (w : World) (i : IsLawful w) (x : Exchange) (n : ℕ) → IsFound w i x →
    IsLawful (give_up_outcome w x n).world
unfolding give_up_outcome
lawful_given_up w i x n f = lawful_marked w i x x.unsent (with_member n x.given_up) f

pub both_some : (P Q : Exchange → Type 0) (o : Option Exchange) → IfSome o P → IfSome o Q →
    IfSome o (λ x. P x × Q x)
both_some P Q None h k = tt
both_some P Q (Some x) h k = (h, k)

pub heard_told : (o : Option Exchange) (heard : Bool) →
    (heard && exchange_has o (λ x. not x.batch && is_none x.answer)) ≡ false →
    IfSome o (λ x. heard ≡ true → x.batch ≡ false → is_some x.answer ≡ true)
heard_told None heard h = tt
heard_told (Some x) heard h = go heard x.batch x.answer h
  where
    go : (b c : Bool) (a : Option Score) → (b && (not c && is_none a)) ≡ false → b ≡ true → c ≡ false →
        is_some a ≡ true
    go true true a h e d = absurd (cc d)
    go true false None h e d = absurd (cc h)
    go true false (Some s) h e d = refl
    go false c a h e d = absurd (cc e)

pub lawful_on_station : (w : World) (s : ℕ) (f : Station → Station) →
    ((x : Station) (t : ℕ) → sided (f x) t ≡ sided x t) → IsLawful w →
    IsLawful (on_station w s f)
lawful_on_station w s f h i = lawful_same w _ (same_on_station w s f h) i

pub lawful_plain : (w v : World) → w.stations ≡ v.stations → w.opened ≡ v.opened → w.exchanges ≡ v.exchanges →
    IsLawful w → IsLawful v
lawful_plain w v a b c i = lawful_same w v (same_plain w v a b c) i

pub lawful_reaped : (ids : List ℕ) (w : World) → IsLawful w → IsLawful (reap_outcome w ids).world
unfolding reap_outcome
lawful_reaped [] w i = i
lawful_reaped (id ∷ ids) w i = lawful_plain w _ refl refl refl i

pub lawful_enqueued : (w : World) (s t flow len : ℕ) → IsLawful w →
    IsLawful (enqueue_outcome w s t flow len).world
unfolding enqueue_outcome with_frame
lawful_enqueued w s t flow len i =
    let v = then_same _ _ _ (same_within_limit w) (same_put_in _ s t _ _) in
    lawful_plain _ _ refl refl refl (lawful_same _ _ v i)

pub lawful_done : (note : Note) (w : World) → NoRow (refusals w note) → IsLawful w →
    IsLawful (outcome_of w note).world
unfolding outcome_of tick_outcome rate_outcome sleep_outcome wake_outcome poll_outcome rx_outcome
lawful_done (Enqueue s t flow len) w e i = lawful_enqueued w s t flow len i
lawful_done (Asked (Join s window start exponent weight)) w e i =
    lawful_joined w s window start exponent weight e.1.1.1.1.1.0 i
lawful_done (Asked (Leave s)) w e i = lawful_gone w s e.1.1.0 i
lawful_done (Asked (Rate s rate)) w e i = lawful_on_station w s _ (λ x t. refl) i
lawful_done (Asked (Tick by)) w e i = lawful_plain w _ refl refl refl i
lawful_done (Asked (Pull c l)) w e i = lawful_pulled w c l i
lawful_done (Asked (Arrive e n)) w r i = lawful_on_open (IsFound w i)
    (λ x. (is_some x.answer ≡ false) × (nat_le (transmissions x.content) n ≡ false)) (exchange w e) w _
    (found w i e)
    (both_some (λ x. is_some x.answer ≡ false) (λ x. nat_le (transmissions x.content) n ≡ false)
    (exchange w e) (if_on (exchange w e) (λ x. is_some x.answer) r.1.1.0)
    (if_on (exchange w e) (λ x. nat_le (transmissions x.content) n) r.1.0)) i
    (λ x f g. lawful_arrived w i x n f g.0 g.1)
lawful_done (Asked (Answer e)) w r i = lawful_on_open (IsFound w i)
    (λ x. x.batch || (length x.arrived == 0) ≡ false) (exchange w e) w _ (found w i e)
    (if_on (exchange w e) (λ x. x.batch || (length x.arrived == 0)) r.1.1.0) i
    (λ x f g. lawful_answered w i x f g)
lawful_done (Asked (Done e heard air)) w r i = lawful_on_open (IsFound w i)
    (λ x. heard ≡ true → x.batch ≡ false → is_some x.answer ≡ true) (exchange w e) w _ (found w i e)
    (heard_told (exchange w e) heard r.1.0) i (λ x f g. lawful_ended air w i x heard f g)
lawful_done (Asked (Sleep s)) w e i = lawful_on_station w s _ (λ x t. refl) i
lawful_done (Asked (Ampdu s octets)) w e i = lawful_on_station w s _ (λ x t. refl) i
lawful_done (Asked (Stop s)) w e i = lawful_on_station w s _ (λ x t. refl) i
lawful_done (Asked (Start s)) w e i = lawful_on_station w s _ (λ x t. refl) i
lawful_done (Asked (Wake s)) w e i = lawful_on_station w s _ (λ x t. refl) i
lawful_done (Asked (Poll s)) w e i = lawful_on_station w s _ (λ x t. refl) i
lawful_done (Asked (Rx s c air)) w e i = lawful_same w _ (same_on_share w s c _) i
lawful_done (Asked Reap) w e i = lawful_reaped w.finished w i
lawful_done (Asked (Unsent e n)) w r i = lawful_on_open (IsFound w i) (λ _. Unit {0}) (exchange w e) w _
    (found w i e) (any_some (exchange w e)) i (λ x f _. lawful_unsent w i x n f)
lawful_done (Asked (GiveUp e n)) w r i = lawful_on_open (IsFound w i) (λ _. Unit {0}) (exchange w e) w _
    (found w i e) (any_some (exchange w e)) i (λ x f _. lawful_given_up w i x n f)
lawful_done (Asked (Flush s t)) w e i = lawful_flushed w s t i
lawful_done (Asked (Offload s exponent weight)) w e i = lawful_offloaded w s exponent weight e.1.1.1.0 i
lawful_done (Asked (Weight s weight)) w e i = lawful_same w _ (same_weighed w s weight) i
lawful_done (Asked (call.Plain s start exponent weight)) w e i =
    lawful_unagreed w s start exponent weight e.1.1.1.1.0 i
lawful_done (Asked (Hold s t)) w e i = lawful_same w _ (same_held w s t e.1.1.1.0 e.1.1.1.1.0) i
lawful_done (Asked (Begin s t window)) w e i = lawful_begun w s t window e i
lawful_done (Asked (Free s t)) w e i =
    lawful_same w _ (same_freed w s t (not_no (is_held_back w s t) e.1.1.1.0)) i
lawful_done (Asked (Cease s t)) w e i = lawful_ceased w s t e i
lawful_done (Asked (Group ask)) w e i = lawful_plain w _ refl refl refl i
lawful_done (Asked (Service ask)) w e i = lawful_on_station w (station_served ask) _ (λ x t. refl) i
lawful_done (Asked (Bss s b)) w e i = lawful_on_station w s _ (λ x t. refl) i

pub lawful_refused : (note : Note) (r : Refusal) (w : World) → IsLawful w → IsLawful (after_refusal w note r)
unfolding after_refusal
lawful_refused (Asked (Pull c l)) Idle w i =
    after_idle IsLawful w c i (lawful_same w _ (same_after_pick w c) i)
lawful_refused _ _ w i = i

pub lawful_answer : (r : Option Refusal) (w : World) (note : Note) → refusal w note ≡ r → IsLawful w →
    IsLawful (judged_outcome w note r).world
unfolding judged_outcome
lawful_answer (Some r) w note e i = lawful_refused note r w i
lawful_answer None w note e i = lawful_same _ _ (same_listed _ _)
    (lawful_done note w (no_row (refusals w note) e) i)

pub lawful_step : (w : World) (note : Note) → IsLawful w → IsLawful (step w note).world
unfolding step
lawful_step w note i = lawful_answer (refusal w note) w note refl i

pub lawful_run : (h : List Entry) (w : World) → IsLawful w → IsLawful (world_after w h)
unfolding world_after
lawful_run [] w i = i
lawful_run (e ∷ es) w i = lawful_run es _ (lawful_step w e.1 i)

pub lawful_at_first : (config : Config) → IsLawful (opening config)
lawful_at_first config = record {
  agreed = λ s t. agreed_new 0 0;
  opened = tt;
  sole = λ s t. record { who = 0; only = tt };
  rising = tt;
  moded = λ s t. new_moded Plain 0 0 false
      (record { device = λ _. refl; held = refl; narrow = λ _. omega arith });
  quiet = λ s t _ _. refl;
  sent = λ s t _ n e b h. absurd (cc h);
}

pub lawful : (config : Config) (h : List Entry) → IsLawful (world_after (opening config) h)
lawful config h = lawful_run h (opening config) (lawful_at_first config)
