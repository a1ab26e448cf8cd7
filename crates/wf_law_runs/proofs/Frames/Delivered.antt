-- Proves that each frame that a call acknowledges has arrived at a receiver, and that the call ends an
-- exchange that sends it. By cases of the call.
use Rattle.std.proofs.Common.{◌≡◌, ◌≢◌, refl, ap, sym, ◌∙◌, subst, arith, ℕ, zero, suc, ◌+◌, ◌-◌, ◌<◌, ◌≤◌, nat_lt, append-nil, Bool, true, false, if◌then◌else◌, not, ◌==◌, ◌⊎◌, inl, inr, List, [], ◌∷◌, ◌++◌, length, map, Option, Some, None, IfSome, ◌↔◌, ◌||◌}
use Rattle.wf_frame.specs.declared.classes.Class.{Class}
use Rattle.wf_def_agreement.specs.Receiver.{Score, Receiver, score, shows}
use Rattle.wf_def_lists.specs.Table.{at, has, with_member, put, upto}
use Rattle.wf_def_codel.specs.Codel.{Item}
use Rattle.wf_def_agreement.specs.Session.{End, request_due, waiting_numbers, with_state, Session, State, is_failed, slot, on_slot, with_number_given, next_number, has_room, start_of}
use Rattle.wf_def_world.specs.World.{receiver, World, Mode, Station, Tid, Exchange, Mpdu, Content, Frames, Request, rotation, tid_of, session, is_live, exchange, with_mode, on_tid, with_station, on_station, on_session, on_receiver, on_queue, queue, with_exchange, without_exchange, no_frame, Frame}
use Rattle.wf_def_world.specs.Service.{station_served}
use Rattle.wf_frame.specs.Classes.{all_classes}
use Rattle.wf_def_world.specs.FlowQueues.{after_limit, with_appended, after_put_in, taken_for_tid}
use Rattle.wf_def_world.specs.CanSend.{is_ready, can_give}
use Rattle.wf_def_world.specs.Exchanges.{end_of, is_acked, station_need, most_frames, picked_station, after_arrival, exchange_of, sending_tid, Prepared, mpdus_of, after_tid_turn, with_fresh, aggregate_of, with_number, fresh_mpdus, with_flying, waiting_mpdus, longest_fitting, prepared_data, prepared_exchange, with_exchange_opened, after_charge, with_failed_finished, with_settled, with_all_settled, after_done, fits_in, mpdu_of, Aggregate, with_spent}
use Rattle.wf_frame.specs.declared.notes.Ask.TheVariants.{Join, Leave, Rate, Tick, Pull, Arrive, Answer, Done, Sleep, Wake, Poll, Rx, Reap, Ampdu, Stop, Start, Unsent, GiveUp, Flush, Offload, Weight, Plain, Hold, Begin, Free, Cease, Group, Service, Bss}
use Rattle.wf_frame.specs.declared.notes.Limits.{Limits}
use Rattle.wf_frame.specs.declared.notes.Note.{Note}
use Rattle.wf_frame.specs.declared.notes.Note.TheVariants.{Enqueue, Asked}
use Rattle.wf_frame.specs.declared.notes.Refusal.{Refusal}
use Rattle.wf_frame.specs.declared.notes.Refusal.TheVariants.{Idle}
use Rattle.wf_def_world.specs.Refusals.{open_of_station, refusals, refusal}
use Rattle.wf_def_world.specs.Step.{Outcome, join_outcome, after_tid_left, after_tids_left, without_listings, leave_outcome, rate_outcome, tick_outcome, with_frame, enqueue_outcome, send_outcome, pull_outcome_for, pull_outcome, arrive_outcome, answer_outcome, done_outcome, outcome_where_open, sleep_outcome, wake_outcome, poll_outcome, rx_outcome, reap_outcome, unsent_outcome, give_up_outcome, flush_outcome, outcome_of, after_refusal, judged_outcome, step, concerned_station, offload_outcome, plain_outcome, plain_window, hold_outcome, begin_outcome, free_outcome, cease_outcome, after_numbers_ended, new_station}
use Rattle.wf_law_rules.proofs.Lemmas.Tables.{at_put_other}
use Rattle.wf_law_runs.proofs.Common.Refused.{after_idle}
use Rattle.wf_law_runs.proofs.Common.Marks.{with_marks, marked_world}
use Rattle.wf_law_runs.proofs.Common.Ends.{slot_after_end, end_backed, on_settled}
use Rattle.wf_law_runs.proofs.Common.Flushes.{if_flushed}
use Rattle.wf_law_runs.proofs.Sessions.Flights.{Rises}
use Rattle.wf_law_rules.proofs.Lemmas.Numbers.{on_if, both, yes_eq, or_left, or_right}
use Rattle.wf_law_runs.proofs.Windows.Sides.{sided, Side, sides_of, Same, each_side_on, on_opened, then_same, same_on_station, same_on_share, same_finish, same_listed, same_after_pick, same_after_turn, same_spent, same_within_limit, same_put_in, same_take, same_charged, same_picked, same_plain, same_weighed, renewed, begun_is, ceased_is, opened_ceased}
use Rattle.wf_law_runs.proofs.Windows.Opened.{Each, each_map, each_both, each_append, each_filter, each_find, FlyIn, some_along, pick_ready, left_true, can_give-room, none_open, NoRow, no_row}
use Rattle.std.proofs.Common.{drop, take as take_front}
use Rattle.std.proofs.lemmas.List.{take-append-drop}
use Rattle.wf_def_lists.specs.Table.{greatest_upto}
use Rattle.wf_frame.specs.declared.classes.Fate.TheVariants.{Acked, Held}
use Rattle.wf_law_runs.specs.Windows.{EachMpdu}
use Rattle.wf_law_runs.specs.Delivery.{ids_sent, EndsHeard, is_batch}
use Rattle.wf_law_runs.proofs.Common.Picked.{picked_world}
use Rattle.wf_law_runs.proofs.Releases.Kept.{KeptSession, kept_refl, then_kept, keep_numbers_ended, kept_give, kept_fly, Kept, kept_same, keep_ended, keep_prepared, keep_flushed, opened_flushed, opened_caught_up, exchanges_caught_up}
use Rattle.wf_law_runs.proofs.Windows.Agreed.{IsLawful, IsOpenIn, IsReady, AllBacked, ready_start, ready_filled, ready_same, longer_number, lawful_same, lawful_done, session_same, session_on_session, opened_on_session, exchanges_on_session, same_left_tids, same_off_lists, each_map_if, backed_of}
use Rattle.wf_law_runs.proofs.Frames.Fewer.{IsAcked, Less, less, then_less, if_less, less_plain, less_on_station, less_on_session, less_on_queue, fewer_none, less_on_receiver, less_with_queues, less_on_share, less_with_rotation, less_finish, less_drop_all, less_listed, less_after_pick, less_after_turn, less_spent, less_within_limit, less_listed_queue, less_purge_queues, less_charged, less_take, less_picked, less_caught_up, less_caught, less_weighed, less_held, less_begun, less_freed, less_ceased}
use Rattle.wf_law_runs.proofs.Windows.Settling.{all_acked, without_same, without_live, acked_plain}
use Rattle.wf_law_runs.proofs.Releases.Placed.{slot_new_id}
use Rattle.wf_law_runs.proofs.Windows.Agreement.{IsOpen}
use Rattle.wf_def_lists.specs.Bounds.{greatest_window}

-- ---- the ids in an exchange are the ids of its numbers

abbrev pub Labelled : Session → List Mpdu → Type 0
Labelled y [] = Unit {0}
Labelled y (m ∷ ms) = ((slot y m.number).id ≡ m.id) × Labelled y ms

pub labelled_kept : (ms : List Mpdu) (y z : Session) (lo : ℕ) → KeptSession y z → y.first ≤ lo →
    Rises lo (next_number y) ms → Labelled y ms → Labelled z ms
labelled_kept [] y z lo k h r a = tt
labelled_kept (m ∷ ms) y z lo k h r a = (
  k.ids m.number (omega (arith, r.0)) r.1 ∙ a.0,
  labelled_kept ms y z (suc m.number) k (omega (arith, r.0)) r.2 a.1,
)

labelled_front : (y : Session) (xs ys : List Mpdu) → Labelled y (xs ++ ys) → Labelled y xs
labelled_front y [] ys a = tt
labelled_front y (x ∷ xs) ys a = (a.0, labelled_front y xs ys a.1)

labelled_append : (y : Session) (xs : List Mpdu) (m : Mpdu) → Labelled y xs → (slot y m.number).id ≡ m.id →
    Labelled y (xs ++ m ∷ [])
labelled_append y [] m a h = (h, tt)
labelled_append y (x ∷ xs) m a h = (a.0, labelled_append y xs m a.1 h)

labelled_waiting : (ns : List ℕ) (w : World) (s t : ℕ) → Labelled (session w s t) (map (mpdu_of w s t) ns)
labelled_waiting [] w s t = tt
labelled_waiting (n ∷ ns) w s t = (refl, labelled_waiting ns w s t)

labelled_fitting : (ms : List Mpdu) (w : World) (s : ℕ) (y : Session) → Labelled y ms →
    Labelled y (longest_fitting w s ms)
unfolding longest_fitting
labelled_fitting ms w s y a =
    let n : ℕ = greatest_upto (λ k. fits_in w s (take_front k ms)) (length ms) in
    labelled_front y (take_front n ms) (drop n ms) (subst (Labelled y) (sym (take-append-drop n ms)) a)

-- u is the world before the pull.
record IsNamed (s t : ℕ) (u w : World) (ms : List Mpdu) : Type 0 where
  opened : w.opened ≡ u.opened
  exchanges : w.exchanges ≡ u.exchanges
  labels : Labelled (session w s t) ms

named_same : (s t : ℕ) (u w v : World) (ms : List Mpdu) → Same w v → IsNamed s t u w ms → IsNamed s t u v ms
named_same s t u w v ms h n = record {
  opened = h.opened ∙ n.opened;
  exchanges = h.exchanges ∙ n.exchanges;
  labels = subst (λ (y : Session). Labelled y ms) (sym (session_same w v h s t)) n.labels;
}

named_give : (s t : ℕ) (u w : World) (id : ℕ) (ms : List Mpdu) → IsReady s t w ms → IsNamed s t u w ms →
    IsNamed s t u (on_session w s t (λ y. with_number_given y id)) ms
named_give s t u w id ms r n = record {
  opened = opened_on_session w s t _ ∙ n.opened;
  exchanges = exchanges_on_session w s t _ ∙ n.exchanges;
  labels = subst (λ (y : Session). Labelled y ms)
      (sym (session_on_session w s t (λ y. with_number_given y id) r.live))
      (labelled_kept ms (session w s t) (with_number_given (session w s t) id) (session w s t).first
      (kept_give (session w s t) id) (omega arith) r.chosen.rising n.labels);
}

named_number : (o : Option Item) (s t : ℕ) (u w : World) (ms : List Mpdu) → IsReady s t w ms →
    IsNamed s t u w ms → IsNamed s t u (with_number w s t o) ms
unfolding with_number
named_number None s t u w ms r n = n
named_number (Some x) s t u w ms r n = named_give s t u w x.id ms r n

named_longer : (o : Option Item) (s t : ℕ) (u v w : World) (ms : List Mpdu) → Same v w → IsReady s t w ms →
    IsNamed s t u w ms → IsNamed s t u (with_number w s t o) (ms ++ fresh_mpdus v s t o)
unfolding with_number
named_longer None s t u v w ms h r n = subst (IsNamed s t u w) (sym (append-nil ms)) n
named_longer (Some x) s t u v w ms h r n =
    let k : IsNamed s t u (on_session w s t (λ y. with_number_given y x.id)) ms =
    named_give s t u w x.id ms r n in
    record {
      opened = k.opened;
      exchanges = k.exchanges;
      labels = labelled_append (session (on_session w s t (λ y. with_number_given y x.id)) s t) ms
          (record { number = next_number (session v s t); id = x.id; len = x.len }) k.labels
          (ap (λ (y : Session). (slot y (next_number (session v s t))).id)
          (session_on_session w s t (λ y. with_number_given y x.id) r.live)
          ∙ slot_new_id (session w s t) x.id (next_number (session v s t))
          (ap next_number (sym (session_same v w h s t))));
    }

if_named : (b : Bool) (s t : ℕ) (u : World) (x y : Aggregate) → (b ≡ true → IsNamed s t u x.world x.mpdus) →
    (b ≡ false → IsNamed s t u y.world y.mpdus) →
    IsNamed s t u (if b then x else y).world (if b then x else y).mpdus
if_named true s t u x y h k = h refl
if_named false s t u x y h k = k refl

named_fresh : (n : ℕ) (w : World) (s t : ℕ) (u : World) (ms : List Mpdu) → IsReady s t w ms →
    IsNamed s t u w ms → IsNamed s t u (with_fresh n w s t ms).world (with_fresh n w s t ms).mpdus
unfolding with_fresh
named_fresh zero w s t u ms r k = k
named_fresh (suc n) w s t u ms r k =
    let taken = taken_for_tid w s t in
    let kept : Same w taken.world = same_take w s t in
    let ready : IsReady s t taken.world ms = ready_same w taken.world s t ms kept r in
    let named : IsNamed s t u taken.world ms = named_same s t u w taken.world ms kept k in
    if_named (not (can_give w s t)) s t u _ _ (λ _. k) (λ none.
    let room : has_room (session taken.world s t) ≡ true =
    ap has_room (session_same w taken.world kept s t) ∙ can_give-room w s t none in
    if_named _ s t u _ _
    (λ _. named_fresh n _ s t u _ (longer_number taken.item w taken.world s t ms kept room ready)
    (named_longer taken.item s t u w taken.world ms kept ready named))
    (λ _. named_number taken.item s t u taken.world ms ready named))

named_filled : (w : World) (s t : ℕ) → IsReady s t w (longest_fitting w s (waiting_mpdus w s t)) →
    IsNamed s t w (aggregate_of w s t).world (aggregate_of w s t).mpdus
unfolding aggregate_of
named_filled w s t r =
    let chosen : List Mpdu = longest_fitting w s (waiting_mpdus w s t) in
    let k : IsNamed s t w w chosen = record {
      opened = refl;
      exchanges = refl;
      labels =
          labelled_fitting (waiting_mpdus w s t) w s (session w s t)
          (labelled_waiting (waiting_numbers (session w s t)) w s t);
    } in
    if_named (length chosen == length (waiting_mpdus w s t)) s t w
    (with_fresh (most_frames w s - length chosen) w s t chosen) (record { world = w; mpdus = chosen })
    (λ _. named_fresh (most_frames w s - length chosen) w s t w chosen r k) (λ _. k)

-- The transmissions of an aggregate have the ids of their numbers.
pub labelled_filled : (w : World) (s t : ℕ) → IsLawful w → is_live w s ≡ true →
    request_due (session w s t) ≡ false →
    Labelled (session (aggregate_of w s t).world s t) (aggregate_of w s t).mpdus
labelled_filled w s t i live quiet = (named_filled w s t (ready_start w s t i live quiet)).labels

-- A prepared exchange; u is the world before the pull.
pub record IsPrepared (s t : ℕ) (u : World) (p : Prepared) : Type 0 where
  pub opened : p.world.opened ≡ u.opened
  pub exchanges : p.world.exchanges ≡ u.exchanges
  pub labels : Labelled (session p.world s t) (mpdus_of p.content)

prepared_by : (s t : ℕ) (u : World) (f : Aggregate) → IsReady s t f.world f.mpdus →
    IsNamed s t u f.world f.mpdus → IsPrepared s t u (prepared_data s t f)
unfolding prepared_data
prepared_by s t u f r n =
    let y : Session = session f.world s t in
    record {
      opened = opened_on_session f.world s t _ ∙ n.opened;
      exchanges = exchanges_on_session f.world s t _ ∙ n.exchanges;
      labels = subst (λ (z : Session). Labelled z f.mpdus)
          (sym (session_on_session f.world s t (with_flying f.world.exchanges f.mpdus) r.live))
          (labelled_kept f.mpdus y (with_flying f.world.exchanges f.mpdus y) y.first
          (kept_fly f.mpdus y f.world.exchanges) (omega arith) r.chosen.rising n.labels);
    }

if_prepared : (b : Bool) (s t : ℕ) (u : World) (x y : Prepared) → IsPrepared s t u x →
    (b ≡ false → IsPrepared s t u y) → IsPrepared s t u (if b then x else y)
if_prepared true s t u x y h k = h
if_prepared false s t u x y h k = k refl

pub prepared_right : (w : World) (s t : ℕ) → IsLawful w → is_live w s ≡ true →
    IsPrepared s t w (prepared_exchange w s t)
unfolding prepared_exchange
prepared_right w s t i live = if_prepared (request_due (session w s t)) s t w _ _
    (record { opened = refl; exchanges = refl; labels = tt })
    (λ quiet. prepared_by s t w (aggregate_of w s t) (ready_filled w s t i live quiet)
    (named_filled w s t (ready_start w s t i live quiet)))

-- ---- worlds in which each open exchange has the ids of its numbers

pub record IsLabelled (w : World) : Type 0 where
  pub labels : Each (λ x. Labelled (session w x.station x.tid) (mpdus_of x.content)) w.opened

-- Each session keeps the ids of its numbers.
labelled_ids : (w v : World) → IsLawful w → ((s t : ℕ) → KeptSession (session w s t) (session v s t)) →
    v.opened ≡ w.opened → IsLabelled w → IsLabelled v
labelled_ids w v i k e a = record {
  labels = subst (Each (λ x. Labelled (session v x.station x.tid) (mpdus_of x.content))) (sym e)
      (each_both (IsOpenIn w) (λ x. Labelled (session w x.station x.tid) (mpdus_of x.content))
      (λ x. Labelled (session v x.station x.tid) (mpdus_of x.content)) w.opened
      (λ x o l. labelled_kept (mpdus_of x.content) (session w x.station x.tid) (session v x.station x.tid)
      (session w x.station x.tid).first (k x.station x.tid)
      (omega arith) o.opened.flies.rising l) i.opened a.labels);
}

labelled_keep : (w v : World) → IsLawful w → Kept w v → v.opened ≡ w.opened → IsLabelled w → IsLabelled v
labelled_keep w v i k e a = labelled_ids w v i k.sessions e a

labelled_same : (w v : World) → IsLawful w → Same w v → IsLabelled w → IsLabelled v
labelled_same w v i h a = labelled_keep w v i (kept_same w v h) h.opened a

labelled_sent : (s t : ℕ) (c : Class) (w : World) (p : Prepared) → IsLawful w → IsPrepared s t w p →
    Kept w p.world → IsLabelled w → IsLabelled (send_outcome s t c p).world
unfolding send_outcome with_exchange_opened
labelled_sent s t c w p i r k a =
    let x : Exchange = exchange_of s t c p in
    let v : World = record p.world { exchanges = p.world.exchanges + 1; opened = p.world.opened ++ x ∷ [] } in
    let l : IsLabelled p.world = labelled_keep w p.world i k r.opened a in
    let h : Same v (with_spent v x) = same_spent v x in
    record {
      labels = subst (Each (λ y. Labelled (session (with_spent v x) y.station y.tid)
          (mpdus_of y.content))) (sym h.opened) (each_map
          (λ x. Labelled (session p.world x.station x.tid) (mpdus_of x.content))
          (λ y. Labelled (session (with_spent v x) y.station y.tid) (mpdus_of y.content)) v.opened
          (λ y b. subst (λ (z : Session). Labelled z (mpdus_of y.content))
          (sym (session_same v (with_spent v x) h y.station y.tid)) b)
          (each_append (λ x. Labelled (session p.world x.station x.tid) (mpdus_of x.content))
          p.world.opened x l.labels r.labels));
    }

labelled_pulled_by : (o : Option ℕ) (w : World) (c : Class) → IfSome o (λ s. is_live w s ≡ true) →
    IsLawful w → IsLabelled w → IsLabelled (pull_outcome_for w c o).world
unfolding pull_outcome_for
labelled_pulled_by None w c live i a = a
labelled_pulled_by (Some s) w c live i a =
    let v : World = after_tid_turn w s c (sending_tid w s c) in
    let k : Same w v = same_after_turn w s c (sending_tid w s c) in
    labelled_sent s _ c v _ (lawful_same _ _ k i)
    (prepared_right v s _ (lawful_same _ _ k i) (k.live s ∙ live)) (keep_prepared v s _)
    (labelled_same w v i k a)

labelled_pulled : (w : World) (c : Class) (l : Limits) → IsLawful w → IsLabelled w →
    IsLabelled (pull_outcome w c l).world
unfolding pull_outcome
labelled_pulled w c l i a =
    let k : Same w (picked_world w c l) = same_picked w c l in
    labelled_pulled_by (picked_station w c).winner (picked_world w c l) c
    (some_along (λ s. is_ready w c s ≡ true) (λ s. is_live (picked_world w c l) s ≡ true)
    (picked_station w c).winner (λ s h. k.live s ∙ left_true (is_live w s) _ h)
    (pick_ready (station_need w c) (is_ready w c) (rotation w c))) (lawful_same _ _ k i)
    (labelled_same w _ i k a)

-- An exchange is replaced by one with the same content.
labelled_with_exchange : (w v : World) (x z : Exchange) → ((s t : ℕ) → session v s t ≡ session w s t) →
    v.opened ≡ map (λ y. if y.number == z.number then z else y) w.opened →
    Labelled (session w z.station z.tid) (mpdus_of z.content) → IsLabelled w → IsLabelled v
labelled_with_exchange w v x z h e l a = record {
  labels = subst (Each (λ x. Labelled (session v x.station x.tid) (mpdus_of x.content))) (sym e)
      (each_map_if (λ x. Labelled (session w x.station x.tid) (mpdus_of x.content))
      (λ x. Labelled (session v x.station x.tid) (mpdus_of x.content)) (λ y. y.number == z.number) z w.opened
      (subst (λ (y : Session). Labelled y (mpdus_of z.content)) (sym (h z.station z.tid)) l)
      (λ y _ b. subst (λ (u : Session). Labelled u (mpdus_of y.content)) (sym (h y.station y.tid)) b)
      a.labels);
}

labelled_answered : (w : World) (x : Exchange) → Labelled (session w x.station x.tid) (mpdus_of x.content) →
    IsLabelled w → IsLabelled (answer_outcome w x).world
unfolding answer_outcome with_exchange
labelled_answered w x l a = labelled_with_exchange w _ x
    (record x { answer = Some (score (receiver w x.station x.tid)) }) (λ s t. refl) refl l a

session_on_receiver : (w : World) (s t : ℕ) (g : Receiver → Receiver) (i j : ℕ) →
    session (on_receiver w s t g) i j ≡ session w i j
unfolding on_receiver
session_on_receiver w s t g = each_side_on (λ i j y. y.session ≡ session w i j) w s t
    (λ y. record y { receiver = g y.receiver }) (λ i j. refl) refl

pub opened_on_receiver : (w : World) (s t : ℕ) (g : Receiver → Receiver) →
    (on_receiver w s t g).opened ≡ w.opened
unfolding on_receiver
opened_on_receiver w s t g = on_opened w s t _

labelled_marked : (w : World) (x : Exchange) (unsent given_up : List ℕ) →
    Labelled (session w x.station x.tid) (mpdus_of x.content) → IsLabelled w →
    IsLabelled (marked_world w x unsent given_up)
unfolding with_exchange
labelled_marked w x unsent given_up l a =
    labelled_with_exchange w _ x (with_marks unsent given_up x) (λ s t. refl) refl l a

labelled_arrived : (w : World) (x : Exchange) (n : ℕ) →
    Labelled (session w x.station x.tid) (mpdus_of x.content) → IsLabelled w →
    IsLabelled (arrive_outcome w x n).world
unfolding arrive_outcome with_exchange
labelled_arrived w x n l a =
    let z : Exchange = record x { arrived = with_member n x.arrived } in
    labelled_with_exchange w _ x z (session_on_receiver w x.station x.tid (after_arrival x.content n))
    (ap (map (λ y. if y.number == z.number then z else y))
    (opened_on_receiver w x.station x.tid (after_arrival x.content n))) l a

opened_settled : (end : End) (w : World) (s t : ℕ) (m : Mpdu) → (with_settled w s t end m).opened ≡ w.opened
unfolding with_settled with_failed_finished
opened_settled end w s t m =
    let v : World = on_session w s t (on_slot m.number (slot_after_end w.config.attempts end)) in
    on_settled (λ u. u.opened ≡ w.opened) end w s t m
    (λ _. (same_finish (on_session w s t (with_state State.Acked m.number)) _ _).opened
    ∙ opened_on_session w s t _)
    (λ _. on_if (λ (u : World). u.opened ≡ w.opened) (is_failed (slot (session v s t) m.number).state) _ v
    (λ _. (same_finish v _ _).opened ∙ opened_on_session w s t _) (λ _. opened_on_session w s t _))

opened_all : (ms : List Mpdu) (w : World) (s t : ℕ) (ends : ℕ → End) →
    (with_all_settled w s t ends ms).opened ≡ w.opened
unfolding with_all_settled
opened_all [] w s t ends = refl
opened_all (m ∷ ms) w s t ends = opened_all ms (with_settled w s t (ends m.number) m) s t ends
    ∙ opened_settled (ends m.number) w s t m

opened_after : (c : Content) (w : World) (x : Exchange) (heard : Bool) →
    (after_done w x heard c).opened ≡ w.opened
unfolding after_done
opened_after (Frames ms) w x heard = opened_caught_up _ x.station x.tid ∙ opened_all ms w x.station x.tid _
opened_after (Request f) w x heard = opened_on_session w x.station x.tid _

exchanges_settled : (end : End) (w : World) (s t : ℕ) (m : Mpdu) →
    (with_settled w s t end m).exchanges ≡ w.exchanges
unfolding with_settled with_failed_finished
exchanges_settled end w s t m =
    let v : World = on_session w s t (on_slot m.number (slot_after_end w.config.attempts end)) in
    on_settled (λ u. u.exchanges ≡ w.exchanges) end w s t m
    (λ _. (same_finish (on_session w s t (with_state State.Acked m.number)) _ _).exchanges
    ∙ exchanges_on_session w s t _)
    (λ _. on_if (λ (u : World). u.exchanges ≡ w.exchanges)
    (is_failed (slot (session v s t) m.number).state) _ v
    (λ _. (same_finish v _ _).exchanges ∙ exchanges_on_session w s t _)
    (λ _. exchanges_on_session w s t _))

exchanges_all : (ms : List Mpdu) (w : World) (s t : ℕ) (ends : ℕ → End) →
    (with_all_settled w s t ends ms).exchanges ≡ w.exchanges
unfolding with_all_settled
exchanges_all [] w s t ends = refl
exchanges_all (m ∷ ms) w s t ends = exchanges_all ms (with_settled w s t (ends m.number) m) s t ends
    ∙ exchanges_settled (ends m.number) w s t m

exchanges_after : (c : Content) (w : World) (x : Exchange) (heard : Bool) →
    (after_done w x heard c).exchanges ≡ w.exchanges
unfolding after_done
exchanges_after (Frames ms) w x heard = exchanges_caught_up _ x.station x.tid
    ∙ exchanges_all ms w x.station x.tid _
exchanges_after (Request f) w x heard = exchanges_on_session w x.station x.tid _

exchanges_without : (w : World) (e : ℕ) → (without_exchange w e).exchanges ≡ w.exchanges
unfolding without_exchange
exchanges_without w e = refl

pub exchanges_ended : (air : Option ℕ) (w : World) (x : Exchange) (heard : Bool) →
    (done_outcome w x heard air).world.exchanges ≡ w.exchanges
unfolding done_outcome
exchanges_ended air w x heard = exchanges_after x.content _ x heard
    ∙ (same_charged air (without_exchange w x.number) x).exchanges ∙ exchanges_without w x.number

pub opened_ended : (air : Option ℕ) (w : World) (x : Exchange) (heard : Bool) →
    (done_outcome w x heard air).world.opened ≡ (without_exchange w x.number).opened
unfolding done_outcome
opened_ended air w x heard = opened_after x.content _ x heard
    ∙ (same_charged air (without_exchange w x.number) x).opened

pub filtered : (w : World) (e : ℕ) (P : Exchange → Type 0) → Each P w.opened →
    Each P (without_exchange w e).opened
unfolding without_exchange
filtered w e P h = each_filter P P (λ y. not (y.number == e)) w.opened (λ y _ k. k) h

labelled_ended : (air : Option ℕ) (w : World) (x : Exchange) (heard : Bool) → IsLawful w → IsLabelled w →
    IsLabelled (done_outcome w x heard air).world
labelled_ended air w x heard i a = record {
  labels = subst (Each (λ y. Labelled (session (done_outcome w x heard air).world y.station y.tid)
      (mpdus_of y.content))) (sym (opened_ended air w x heard))
      (go (each_both (IsOpenIn w) (λ y. Labelled (session w y.station y.tid) (mpdus_of y.content))
      (λ y. Labelled (session (done_outcome w x heard air).world y.station y.tid) (mpdus_of y.content))
      w.opened
      (λ y o l. labelled_kept (mpdus_of y.content) (session w y.station y.tid)
      (session (done_outcome w x heard air).world y.station y.tid) (session w y.station y.tid).first
      ((keep_ended air w x heard).sessions y.station y.tid) (omega arith) o.opened.flies.rising l) i.opened
      a.labels));
}
  where
    go : Each (λ y. Labelled (session (done_outcome w x heard air).world y.station y.tid)
        (mpdus_of y.content))
        w.opened → Each (λ y. Labelled (session (done_outcome w x heard air).world y.station y.tid)
        (mpdus_of y.content)) (without_exchange w x.number).opened
    go e = filtered w x.number _ e

labelled_with_station : (w : World) (s : ℕ) (o : Option Station) → Each (λ x. s ≢ x.station) w.opened →
    IsLabelled w → IsLabelled (with_station w s o)
unfolding with_station
labelled_with_station w s o away a = record {
  labels = each_both (λ x. Labelled (session w x.station x.tid) (mpdus_of x.content)) (λ x. s ≢ x.station)
      (λ x. Labelled (sides_of (at None (put None w.stations s o) x.station) x.tid).session
      (mpdus_of x.content)) w.opened
      (λ x l ne. subst (λ (p : Option Station). Labelled (sides_of p x.tid).session (mpdus_of x.content))
      (sym (at_put_other None w.stations s x.station o ne)) l) a.labels away;
}

labelled_new : (w : World) (mode : Mode) (s window start exponent weight : ℕ) (offloaded : Bool) →
    is_live w s ≡ false → IsLawful w → IsLabelled w →
    IsLabelled (with_station w s (Some (new_station w.config mode window start exponent weight offloaded)))
labelled_new w mode s window start exponent weight offloaded dead i a =
    labelled_with_station w s _ (each_map (IsOpenIn w) (λ x. s ≢ x.station) w.opened
    (λ x f e. cc (ap (is_live w) e, f.live, dead)) i.opened) a

labelled_joined : (w : World) (s window start exponent weight : ℕ) → is_live w s ≡ false → IsLawful w →
    IsLabelled w → IsLabelled (join_outcome w s window start exponent weight).world
unfolding join_outcome
labelled_joined w s window start exponent weight dead i a =
    labelled_new w Mode.Agreed s window start exponent weight false dead i a

labelled_offloaded : (w : World) (s exponent weight : ℕ) → is_live w s ≡ false → IsLawful w →
    IsLabelled w → IsLabelled (offload_outcome w s exponent weight).world
unfolding offload_outcome
labelled_offloaded w s exponent weight dead i a =
    labelled_new w Mode.Plain s greatest_window 0 exponent weight true dead i a

labelled_unagreed : (w : World) (s start exponent weight : ℕ) → is_live w s ≡ false → IsLawful w →
    IsLabelled w → IsLabelled (plain_outcome w s start exponent weight).world
unfolding plain_outcome
labelled_unagreed w s start exponent weight dead i a =
    labelled_new w Mode.Plain s plain_window start exponent weight false dead i a

labelled_gone : (w : World) (s : ℕ) → nat_lt 0 (open_of_station w s) ≡ false → IsLawful w → IsLabelled w →
    IsLabelled (leave_outcome w s).world
unfolding leave_outcome
labelled_gone w s h i a =
    let k = then_same _ _ _ (same_left_tids (upto 8) w s) (same_off_lists all_classes _ s) in
    labelled_with_station _ s None (subst (Each (λ x. s ≢ x.station)) (sym k.opened) (none_open w.opened s h))
    (labelled_same _ _ i k a)

-- ---- a TID is held or free, and its agreement begins or ends

sessions_on_tid : (w : World) (s t : ℕ) (f : Tid → Tid) →
    KeptSession (session w s t) (f (tid_of w s t)).session →
    (i j : ℕ) → KeptSession (session w i j) (session (on_tid w s t f) i j)
sessions_on_tid w s t f k = each_side_on (λ i j a. KeptSession (session w i j) a.session) w s t f
    (λ i j. kept_refl (session w i j)) k

labelled_on_tid : (w : World) (s t : ℕ) (f : Tid → Tid) → IsLawful w →
    KeptSession (session w s t) (f (tid_of w s t)).session → IsLabelled w → IsLabelled (on_tid w s t f)
labelled_on_tid w s t f i k a = labelled_ids w _ i (sessions_on_tid w s t f k) (on_opened w s t f) a

-- A TID whose agreement begins or ends keeps the ids of its numbers.
kept_renewed : (start size : ℕ) (mode : Mode) (y : Tid) →
    KeptSession y.session (renewed start size mode y).session
kept_renewed start size mode y = record { first = refl; next = omega arith; ids = λ n l h. refl }

labelled_held : (w : World) (s t : ℕ) → IsLawful w → IsLabelled w → IsLabelled (hold_outcome w s t).world
unfolding hold_outcome with_mode
labelled_held w s t i a = labelled_on_tid w s t _ i (kept_refl (session w s t)) a

labelled_begun : (w : World) (s t window : ℕ) → IsLawful w → IsLabelled w →
    IsLabelled (begin_outcome w s t window).world
labelled_begun w s t window i a = subst IsLabelled (sym (begun_is w s t window))
    (labelled_on_tid w s t _ i (kept_renewed (start_of (session w s t)) window Mode.Agreed (tid_of w s t)) a)

labelled_freed : (w : World) (s t : ℕ) → IsLawful w → IsLabelled w → IsLabelled (free_outcome w s t).world
unfolding free_outcome with_mode
labelled_freed w s t i a = labelled_on_tid w s t _ i (kept_refl (session w s t)) a

labelled_ceased : (w : World) (s t : ℕ) → IsLawful w → IsLabelled w → IsLabelled (cease_outcome w s t).world
labelled_ceased w s t i a =
    let u : World = after_numbers_ended w s t in
    labelled_ids w _ i (λ b c. then_kept _ _ _ ((keep_numbers_ended w s t).sessions b c)
    (subst (λ (v : World). KeptSession (session u b c) (session v b c)) (sym (ceased_is w s t))
    (sessions_on_tid u s t _
    (kept_renewed (start_of (session u s t)) plain_window Mode.OnHold (tid_of u s t)) b c)))
    (opened_ceased w s t) a

-- ---- the frames that a step acknowledges

abbrev None_of : ℕ → Type 0
None_of id = ⊥

-- One of these numbers carries the frame and becomes acknowledged.
abbrev AckedAmong : (ℕ → End) → List Mpdu → ℕ → Type 0
AckedAmong ends [] id = ⊥
AckedAmong ends (m ∷ ms) id = ((m.id ≡ id) × (ends m.number ≡ End.Acknowledged)) ⊎ AckedAmong ends ms id

less_settled : (end : End) (P : ℕ → Type 0) (w : World) (s t : ℕ) (m : Mpdu) →
    (end ≡ End.Acknowledged → P m.id) → Less P w (with_settled w s t end m)
unfolding with_settled with_failed_finished
less_settled end P w s t m h = on_settled (Less P w) end w s t m
    (λ e. then_less P _ _ _ (less_on_session P w s t _) (less_finish P _ _ _ (λ _. h e)))
    (λ _. then_less P _ _ _ (less_on_session P w s t _)
    (if_less P _ _ _ _ (less_finish P _ _ _ (λ e. absurd (cc e))) (less P _)))

less_all : (ms : List Mpdu) (P : ℕ → Type 0) (w : World) (s t : ℕ) (ends : ℕ → End) →
    ((id : ℕ) → AckedAmong ends ms id → P id) → Less P w (with_all_settled w s t ends ms)
unfolding with_all_settled
less_all [] P w s t ends h = less P w
less_all (m ∷ ms) P w s t ends h = then_less P _ _ _
    (less_settled (ends m.number) P w s t m (λ e. h m.id (inl (refl, e))))
    (less_all ms P _ s t ends (λ id k. h id (inr k)))

less_without : (P : ℕ → Type 0) (w : World) (e : ℕ) → Less P w (without_exchange w e)
unfolding without_exchange
less_without P w e = less_plain P w _ refl refl

-- Returns how an exchange ends for each of its numbers, at a Done with this airtime.
abbrev pub ends_of : Option ℕ → World → Exchange → Bool → ℕ → End
ends_of air w x heard = end_of (after_charge (without_exchange w x.number) x air) x heard

less_after : (c : Content) (w : World) (x : Exchange) (heard : Bool) →
    Less (AckedAmong (end_of w x heard) (mpdus_of c)) w (after_done w x heard c)
unfolding after_done
less_after (Frames ms) w x heard = then_less _ _ _ _
    (less_all ms (AckedAmong (end_of w x heard) ms) w x.station x.tid (end_of w x heard) (λ id k. k))
    (less_caught_up _ _ x.station x.tid)
less_after (Request f) w x heard = less_on_session _ w x.station x.tid _

pub less_ended : (air : Option ℕ) (w : World) (x : Exchange) (heard : Bool) →
    Less (AckedAmong (ends_of air w x heard) (mpdus_of x.content)) w (done_outcome w x heard air).world
unfolding done_outcome
less_ended air w x heard = then_less _ _ _ _ (less_without _ w x.number)
    (then_less _ _ _ _ (less_charged air _ _ x) (less_after x.content _ x heard))

-- A number of a live station carries the frame, is acknowledged, and has arrived at its receiver.
pub record HasArrived (w : World) (id : ℕ) : Type 0 where
  pub station : ℕ
  pub tid : ℕ
  pub number : ℕ
  pub live : is_live w station ≡ true
  pub from : (session w station tid).first ≤ number
  pub below : number < next_number (session w station tid)
  pub carries : (slot (session w station tid) number).id ≡ id
  pub acked : (slot (session w station tid) number).state ≡ State.Acked
  pub arrived : has (receiver w station tid).arrived number ≡ true

-- An acknowledged number of the ended exchange has arrived at its receiver.
reached_among : (ms : List Mpdu) (v : World) (y : Session) (r : Receiver) (s t id lo : ℕ) (ends : ℕ → End) →
    is_live v s ≡ true → KeptSession y (session v s t) → (receiver v s t).arrived ≡ r.arrived → y.first ≤ lo →
    Rises lo (next_number y) ms → Labelled y ms → AllBacked ends r ms
    → EachMpdu (λ m. ((slot (session v s t) m.number).state ≡ State.Acked)
    ↔ (ends m.number ≡ End.Acknowledged)) ms →
    AckedAmong ends ms id → HasArrived v id
reached_among [] v y r s t id lo ends live k e b rises labels backed states h = absurd h
reached_among (m ∷ ms) v y r s t id lo ends live k e b rises labels backed states h = elim h [
  | inl own ↦ record {
    station = s;
    tid = t;
    number = m.number;
    live = live;
    from = omega (arith, k.first, b, rises.0);
    below = omega (arith, k.next, rises.1);
    carries = k.ids m.number (omega (arith, b, rises.0)) rises.1 ∙ labels.0 ∙ own.0;
    acked = states.0.1 own.1;
    arrived = ap (λ (q : List ℕ). has q m.number) e ∙ backed.0 own.1;
  }
  | inr rest ↦ reached_among ms v y r s t id (suc m.number) ends live k e
      (omega (arith, b, rises.0)) rises.2 labels.1 backed.1 states.1 rest
]

states_after : (air : Option ℕ) (c : Content) (w : World) (x : Exchange) (heard : Bool) → x.content ≡ c →
    IsOpenIn w x →
    EachMpdu (λ m. ((slot (session (after_done (after_charge (without_exchange w x.number) x air) x heard c)
    x.station x.tid) m.number).state ≡ State.Acked) ↔ (ends_of air w x heard m.number ≡ End.Acknowledged))
    (mpdus_of c)
unfolding after_done
states_after air (Request f) w x heard e o = tt
states_after air (Frames ms) w x heard e o =
    let v : World = after_charge (without_exchange w x.number) x air in
    let k : Same (without_exchange w x.number) v = same_charged air (without_exchange w x.number) x in
    let y : Session = session w x.station x.tid in
    let same_y : session v x.station x.tid ≡ y = session_same _ _ k x.station x.tid
    ∙ without_same w x.number x.station x.tid in
    let flies : FlyIn x.number ms y = subst (λ (c : Content). FlyIn x.number (mpdus_of c) y) e o.opened.flies
    in
    acked_plain ms (with_all_settled v x.station x.tid (end_of v x heard) ms) x.station x.tid
    (end_of v x heard)
    (all_acked ms v x.station x.tid (end_of v x heard) y.first (next_number y)
    (k.live x.station ∙ without_live w x.number x.station ∙ o.live)
    (omega (arith, ap (λ (z : Session). z.first) same_y)) flies.rising)

states_ended : (air : Option ℕ) (w : World) (x : Exchange) (heard : Bool) → IsOpenIn w x →
    EachMpdu (λ m. ((slot (session (done_outcome w x heard air).world x.station x.tid) m.number).state
    ≡ State.Acked) ↔ (ends_of air w x heard m.number ≡ End.Acknowledged)) (mpdus_of x.content)
unfolding done_outcome
states_ended air w x heard o = states_after air x.content w x heard refl o

-- The ends are judged in the world u.
backed_content : (c : Content) (u : World) (x : Exchange) (y : Session) (r : Receiver) (heard : Bool) →
    x.content ≡ c → IsOpen x y r → AllBacked (end_of u x heard) r (mpdus_of c)
backed_content (Frames ms) u x y r heard e o = backed_of u x y r ms heard e o
backed_content (Request f) u x y r heard e o = tt

reached_ended : (air : Option ℕ) (w : World) (x : Exchange) (heard : Bool) (id : ℕ) → IsOpenIn w x →
    Labelled (session w x.station x.tid) (mpdus_of x.content) →
    AckedAmong (ends_of air w x heard) (mpdus_of x.content) id →
    HasArrived (done_outcome w x heard air).world id
reached_ended air w x heard id o l h =
    let k : Kept w (done_outcome w x heard air).world = keep_ended air w x heard in
    let y : Session = session w x.station x.tid in
    reached_among (mpdus_of x.content) (done_outcome w x heard air).world y
    (receiver w x.station x.tid) x.station x.tid id y.first (ends_of air w x heard)
    (k.live x.station ∙ o.live) (k.sessions x.station x.tid) (k.receivers x.station x.tid).arrived
    (omega arith) o.opened.flies.rising l
    (backed_content x.content (after_charge (without_exchange w x.number) x air) x
    (session w x.station x.tid) (receiver w x.station x.tid) heard refl o.opened)
    (states_ended air w x heard o) h

reached_same : (w v : World) (id : ℕ) → Same w v → HasArrived w id → HasArrived v id
reached_same w v id h r = record {
  station = r.station;
  tid = r.tid;
  number = r.number;
  live = h.live r.station ∙ r.live;
  from = omega (arith, r.from, ap (λ (a : Side). a.session.first) (h.sides r.station r.tid));
  below = omega (arith, r.below, ap (λ (a : Side). next_number a.session) (h.sides r.station r.tid));
  carries = ap (λ (a : Side). (slot a.session r.number).id) (h.sides r.station r.tid) ∙ r.carries;
  acked = ap (λ (a : Side). (slot a.session r.number).state) (h.sides r.station r.tid) ∙ r.acked;
  arrived = ap (λ (a : Side). has a.receiver.arrived r.number) (h.sides r.station r.tid) ∙ r.arrived;
}

-- ---- the other calls acknowledge no frame

less_number : (o : Option Item) (P : ℕ → Type 0) (w : World) (s t : ℕ) → Less P w (with_number w s t o)
unfolding with_number
less_number None P w s t = less P w
less_number (Some x) P w s t = less_on_session P w s t _

if_filled_less : (b : Bool) (P : ℕ → Type 0) (w : World) (x y : Aggregate) → Less P w x.world →
    Less P w y.world → Less P w (if b then x else y).world
if_filled_less true P w x y h k = h
if_filled_less false P w x y h k = k

if_prepared_less : (b : Bool) (P : ℕ → Type 0) (w : World) (x y : Prepared) → Less P w x.world →
    Less P w y.world → Less P w (if b then x else y).world
if_prepared_less true P w x y h k = h
if_prepared_less false P w x y h k = k

less_fresh : (n : ℕ) (P : ℕ → Type 0) (w : World) (s t : ℕ) (ms : List Mpdu) →
    Less P w (with_fresh n w s t ms).world
unfolding with_fresh
less_fresh zero P w s t ms = less P w
less_fresh (suc n) P w s t ms =
    let taken = taken_for_tid w s t in
    let numbered : Less P w (with_number taken.world s t taken.item) =
    then_less P w taken.world _ (less_take P w s t) (less_number taken.item P taken.world s t) in
    if_filled_less (not (can_give w s t)) P w _ _ (less P w)
    (if_filled_less _ P w _ _ (then_less P w _ _ numbered (less_fresh n P _ s t _)) numbered)

less_filled : (P : ℕ → Type 0) (w : World) (s t : ℕ) → Less P w (aggregate_of w s t).world
unfolding aggregate_of
less_filled P w s t =
    let chosen : List Mpdu = longest_fitting w s (waiting_mpdus w s t) in
    if_filled_less (length chosen == length (waiting_mpdus w s t)) P w
    (with_fresh (most_frames w s - length chosen) w s t chosen) (record { world = w; mpdus = chosen })
    (less_fresh (most_frames w s - length chosen) P w s t chosen) (less P w)

less_frames : (P : ℕ → Type 0) (w : World) (s t : ℕ) (f : Aggregate) → Less P w f.world →
    Less P w (prepared_data s t f).world
unfolding prepared_data
less_frames P w s t f h = then_less P w f.world _ h (less_on_session P f.world s t _)

less_prepared : (P : ℕ → Type 0) (w : World) (s t : ℕ) → Less P w (prepared_exchange w s t).world
unfolding prepared_exchange
less_prepared P w s t = if_prepared_less (request_due (session w s t)) P w _ _ (less P w)
    (less_frames P w s t (aggregate_of w s t) (less_filled P w s t))

less_sent : (P : ℕ → Type 0) (w : World) (s t : ℕ) (c : Class) (p : Prepared) → Less P w p.world →
    Less P w (send_outcome s t c p).world
unfolding send_outcome with_exchange_opened
less_sent P w s t c p h = then_less P w p.world _ h
    (then_less P p.world _ _ (less_plain P p.world _ refl refl) (less_spent P _ _))

less_pulled_by : (o : Option ℕ) (P : ℕ → Type 0) (w : World) (c : Class) →
    Less P w (pull_outcome_for w c o).world
unfolding pull_outcome_for
less_pulled_by None P w c = less P w
less_pulled_by (Some s) P w c = less_sent P w s _ c _
    (then_less P w _ _ (less_after_turn P w s c _) (less_prepared P _ s _))

pub less_pulled : (P : ℕ → Type 0) (w : World) (c : Class) (l : Limits) → Less P w (pull_outcome w c l).world
unfolding pull_outcome
less_pulled P w c l = then_less P w _ _ (less_picked P w c l)
    (less_pulled_by (picked_station w c).winner P (picked_world w c l) c)

less_left_tids : (ts : List ℕ) (P : ℕ → Type 0) (w : World) (s : ℕ) → Less P w (after_tids_left w s ts)
unfolding after_tids_left after_tid_left
less_left_tids [] P w s = less P w
less_left_tids (t ∷ ts) P w s = then_less P _ _ _
    (then_less P _ _ _ (then_less P _ _ _ (less_drop_all P _ w _ (λ h. cc h)) (less_purge_queues P _ _))
    (less_with_queues P _ s t _)) (less_left_tids ts P _ s)

less_off_lists : (cs : List Class) (P : ℕ → Type 0) (w : World) (s : ℕ) → Less P w (without_listings w s cs)
unfolding without_listings
less_off_lists [] P w s = less P w
less_off_lists (c ∷ cs) P w s = then_less P _ _ _ (less_with_rotation P w c _) (less_off_lists cs P _ s)

less_with_station : (P : ℕ → Type 0) (w : World) (s : ℕ) (o : Option Station) → Less P w (with_station w s o)
unfolding with_station
less_with_station P w s o = less_plain P w _ refl refl

pub less_gone : (P : ℕ → Type 0) (w : World) (s : ℕ) → Less P w (leave_outcome w s).world
unfolding leave_outcome
less_gone P w s = then_less P w _ _ (then_less P _ _ _ (less_left_tids (upto 8) P w s)
    (less_off_lists all_classes P _ s)) (less_with_station P _ s None)

pub less_joined : (P : ℕ → Type 0) (w : World) (s window start exponent weight : ℕ) →
    Less P w (join_outcome w s window start exponent weight).world
unfolding join_outcome
less_joined P w s window start exponent weight = less_with_station P w s _

pub less_offloaded : (P : ℕ → Type 0) (w : World) (s exponent weight : ℕ) →
    Less P w (offload_outcome w s exponent weight).world
unfolding offload_outcome
less_offloaded P w s exponent weight = less_with_station P w s _

pub less_unagreed : (P : ℕ → Type 0) (w : World) (s start exponent weight : ℕ) →
    Less P w (plain_outcome w s start exponent weight).world
unfolding plain_outcome
less_unagreed P w s start exponent weight = less_with_station P w s _

pub less_arrived : (P : ℕ → Type 0) (w : World) (x : Exchange) (n : ℕ) → Less P w (arrive_outcome w x n).world
unfolding arrive_outcome with_exchange
less_arrived P w x n = then_less P w _ _ (less_on_receiver P w x.station x.tid _) (less_plain P _ _ refl refl)

pub less_answered : (P : ℕ → Type 0) (w : World) (x : Exchange) → Less P w (answer_outcome w x).world
unfolding answer_outcome with_exchange
less_answered P w x = less_plain P w _ refl refl

pub less_marked : (P : ℕ → Type 0) (w : World) (x : Exchange) (unsent given_up : List ℕ) →
    Less P w (marked_world w x unsent given_up)
unfolding with_exchange
less_marked P w x unsent given_up = less_plain P w _ refl refl

pub less_flushed : (P : ℕ → Type 0) (w : World) (s t : ℕ) → Less P w (flush_outcome w s t).world
less_flushed P w s t = if_flushed (Less P w)
    (record {
      finish = λ u id k. then_less P w u _ k (less_finish P u _ id (λ e. cc e));
      empty = λ u q k. then_less P w u _ k (less_on_queue P u q _ (fewer_none (queue u q).items));
    })
    w s t (λ v k _. then_less P w v _ k (less_caught P v s t)) (less_on_session P w s t _)

pub less_reaped : (ids : List ℕ) (P : ℕ → Type 0) (w : World) → Less P w (reap_outcome w ids).world
unfolding reap_outcome
less_reaped [] P w = less P w
less_reaped (id ∷ ids) P w = less_plain P w _ refl refl

-- The acknowledged frames were acknowledged before.
abbrev OldAcks : World → World → Type 0
OldAcks w v = (id : ℕ) → IsAcked v id → IsAcked w id

old_by : (w v : World) → Less None_of w v → OldAcks w v
old_by w v h id a = elim (h.fates id a) [ inl e ↦ e | inr none ↦ absurd none ]

new_frame : (xs : List Frame) (x : Frame) (id : ℕ) → x.fate ≡ Held →
    (at no_frame (xs ++ x ∷ []) id).fate ≡ Acked → (at no_frame xs id).fate ≡ Acked
new_frame [] x zero e h = absurd (cc (e, h))
new_frame [] x (suc id) e h = h
new_frame (y ∷ xs) x zero e h = h
new_frame (y ∷ xs) x (suc id) e h = new_frame xs x id e h

fates_put_in : (u : World) (s t q : ℕ) (x : Item) → OldAcks u (after_put_in u s t q x)
unfolding after_put_in with_appended on_queue
fates_put_in u s t q x id a = old_by _ _ (less_listed_queue None_of _ s t q) id a

fates_with_frame : (u : World) (note : Note) → OldAcks u (with_frame u note)
unfolding with_frame
fates_with_frame u note id a = new_frame u.frames (record { note = note; fate = Held }) id refl a

fates_enqueued : (w : World) (s t flow len : ℕ) → OldAcks w (enqueue_outcome w s t flow len).world
unfolding enqueue_outcome
fates_enqueued w s t flow len id a = old_by w (after_limit w) (less_within_limit None_of w) id
    (fates_put_in _ s t _ _ id (fates_with_frame _ _ id a))

-- ---- the step

-- Each frame that is acknowledged after a call was acknowledged before, or reaches its receiver now.
abbrev pub Acks : Note → World → World → Type 0
Acks note w v = (id : ℕ) → IsAcked v id → IsAcked w id ⊎ (EndsHeard w note id × HasArrived v id)

acks_old : (note : Note) (w v : World) → OldAcks w v → Acks note w v
acks_old note w v h id a = inl (h id a)

acks_less : (note : Note) (w v : World) → Less None_of w v → Acks note w v
acks_less note w v h = acks_old note w v (old_by w v h)

-- The invariant after a call: the ids of open exchanges, and the acknowledged frames.
pub record IsDelivered (note : Note) (w v : World) : Type 0 where
  pub labelled : IsLabelled v
  pub acks : Acks note w v

delivered_open : (note : Note) (P : Exchange → Type 0) (o : Option Exchange) (w : World)
    (f : Exchange → Outcome) → IfSome o P → IsLabelled w →
    ((x : Exchange) → P x → IsDelivered note w (f x).world) →
    IsDelivered note w (outcome_where_open w o f).world
unfolding outcome_where_open
delivered_open note P None w f h a k = record { labelled = a; acks = λ id e. inl e }
delivered_open note P (Some x) w f h a k = k x h

record IsRead (w : World) (x : Exchange) : Type 0 where
  open_in : IsOpenIn w x
  labels : Labelled (session w x.station x.tid) (mpdus_of x.content)

read : (w : World) (i : IsLawful w) (a : IsLabelled w) (e : ℕ) → IfSome (exchange w e) (IsRead w)
read w i a e = each_find (IsRead w) (IsRead w) (λ x. x.number == e) w.opened (λ x _ f. f)
    (each_both (IsOpenIn w) (λ x. Labelled (session w x.station x.tid) (mpdus_of x.content))
    (IsRead w) w.opened (λ x o l. record { open_in = o; labels = l }) i.opened a.labels)

with_itself : (o : Option Exchange) (P : Exchange → Type 0) → IfSome o P → IfSome o (λ y. (o ≡ Some y) × P y)
with_itself None P h = tt
with_itself (Some x) P h = (refl, h)

delivered_station : (note : Note) (w : World) (s : ℕ) (f : Station → Station) →
    ((x : Station) (t : ℕ) → sided (f x) t ≡ sided x t) → IsLawful w →
    IsLabelled w → IsDelivered note w (on_station w s f)
delivered_station note w s f h i a = record {
  labelled = labelled_same w _ i (same_on_station w s f h) a;
  acks = acks_less _ w _ (less_on_station None_of w s f);
}

delivered_plain : (note : Note) (w v : World) → w.stations ≡ v.stations → w.opened ≡ v.opened →
    w.exchanges ≡ v.exchanges → OldAcks w v → IsLawful w → IsLabelled w → IsDelivered note w v
delivered_plain note w v a b c o i l = record {
  labelled = labelled_same w v i (same_plain w v a b c) l;
  acks = acks_old _ w v o;
}

pub same_enqueued : (w : World) (s t flow len : ℕ) → Same w (enqueue_outcome w s t flow len).world
unfolding enqueue_outcome with_frame
same_enqueued w s t flow len = then_same _ _ _ (then_same _ _ _ (same_within_limit w) (same_put_in _ s t _ _))
    (record {
      sides = λ i j. refl;
      live = λ i. refl;
      offloaded = λ i. refl;
      devices = λ i j d. d;
      opened = refl;
      exchanges = refl;
    })

delivered_reaped : (note : Note) (ids : List ℕ) (w : World) → IsLawful w → IsLabelled w →
    IsDelivered note w (reap_outcome w ids).world
unfolding reap_outcome
delivered_reaped note [] w i a = record { labelled = a; acks = λ id e. inl e }
delivered_reaped note (id ∷ ids) w i a = delivered_plain _ w _ refl refl refl (λ id e. e) i a

acked_heard : (heard : Bool) (o : Option Score) (n : ℕ) → is_acked heard o n ≡ true → heard ≡ true
acked_heard heard None n h = absurd (cc h)
acked_heard heard (Some b) n h = (both heard (shows b n) h).0

heard_among : (ms : List Mpdu) (u : World) (x : Exchange) (heard : Bool) (id : ℕ) →
    AckedAmong (end_of u x heard) ms id → heard || x.batch ≡ true
heard_among [] u x heard id h = absurd h
heard_among (m ∷ ms) u x heard id h = elim h [
  | inl e ↦ elim (end_backed u x heard m.number e.1).1 [
    | inl d ↦ or_right heard x.batch d.0
    | inr a ↦ or_left heard x.batch (acked_heard heard x.answer m.number a.1)
  ]
  | inr k ↦ heard_among ms u x heard id k
]

sent_among : (ms : List Mpdu) (ends : ℕ → End) (id : ℕ) → AckedAmong ends ms id →
    has (map (λ m. m.id) ms) id ≡ true
sent_among [] ends id h = absurd h
sent_among (m ∷ ms) ends id h = elim h [
  | inl own ↦ or_left (m.id == id) (has (map (λ m. m.id) ms) id) (yes_eq m.id id own.0)
  | inr later ↦ or_right (m.id == id) (has (map (λ m. m.id) ms) id) (sent_among ms ends id later)
]

delivered_ended : (air : Option ℕ) (w : World) (x : Exchange) (e : ℕ) (heard : Bool) → exchange w e ≡ Some x →
    IsRead w x →
    IsLawful w → IsLabelled w → IsDelivered (Asked (Done e heard air)) w (done_outcome w x heard air).world
delivered_ended air w x e heard at_number r i a = record {
  labelled = labelled_ended air w x heard i a;
  acks = λ id d. elim ((less_ended air w x heard).fates id d) [
    | inl was ↦ inl was
    | inr now ↦
        inr (
          (
            ap (λ (o : Option Exchange). has (ids_sent o) id) at_number
                ∙ sent_among (mpdus_of x.content) (ends_of air w x heard) id now,
            ap (λ (o : Option Exchange). heard || is_batch o) at_number
                ∙ heard_among (mpdus_of x.content) (after_charge (without_exchange w x.number) x air) x heard
                id now,
          ),
          reached_ended air w x heard id r.open_in r.labels now,
        )
  ];
}

delivered_unsent : (note : Note) (w : World) (x : Exchange) (n : ℕ) → IsRead w x → IsLabelled w →
    IsDelivered note w (unsent_outcome w x n).world
unfolding unsent_outcome
delivered_unsent note w x n r a = record {
  labelled = labelled_marked w x (with_member n x.unsent) x.given_up r.labels a;
  acks = acks_less note w _ (less_marked None_of w x (with_member n x.unsent) x.given_up);
}

delivered_given_up : (note : Note) (w : World) (x : Exchange) (n : ℕ) → IsRead w x → IsLabelled w →
    IsDelivered note w (give_up_outcome w x n).world
unfolding give_up_outcome
delivered_given_up note w x n r a = record {
  labelled = labelled_marked w x x.unsent (with_member n x.given_up) r.labels a;
  acks = acks_less note w _ (less_marked None_of w x x.unsent (with_member n x.given_up));
}

labelled_flushed : (w : World) (s t : ℕ) → IsLawful w → IsLabelled w →
    IsLabelled (flush_outcome w s t).world
labelled_flushed w s t i a =
    labelled_keep w _ i (keep_flushed w s t) (opened_flushed w s t) a

delivered_done : (note : Note) (w : World) → IsLawful w → IsLabelled w → NoRow (refusals w note) →
    IsDelivered note w (outcome_of w note).world
unfolding outcome_of tick_outcome rate_outcome sleep_outcome wake_outcome poll_outcome rx_outcome
delivered_done (Enqueue s t flow len) w i a e =
    record {
      labelled = labelled_same w _ i (same_enqueued w s t flow len) a;
      acks =
          acks_old (Enqueue s t flow len) w _ (fates_enqueued w s t flow len);
    }
delivered_done (Asked (Join s window start exponent weight)) w i a e =
    record {
      labelled = labelled_joined w s window start exponent weight e.1.1.1.1.1.0 i a;
      acks =
          acks_less (Asked (Join s window start exponent weight)) w _
          (less_joined None_of w s window start exponent weight);
    }
delivered_done (Asked (Leave s)) w i a e = record {
  labelled = labelled_gone w s e.1.1.0 i a;
  acks =
      acks_less (Asked (Leave s)) w _ (less_gone None_of w s);
}
delivered_done (Asked (Rate s rate)) w i a e = delivered_station _ w s _ (λ x t. refl) i a
delivered_done (Asked (Tick by)) w i a e = delivered_plain _ w _ refl refl refl (λ id h. h) i a
delivered_done (Asked (Pull c l)) w i a e = record {
  labelled = labelled_pulled w c l i a;
  acks =
      acks_less (Asked (Pull c l)) w _ (less_pulled None_of w c l);
}
delivered_done (Asked (Arrive x n)) w i a e =
    delivered_open _ (IsRead w) (exchange w x) w _ (read w i a x) a
    (λ y r. record {
      labelled = labelled_arrived w y n r.labels a;
      acks =
          acks_less (Asked (Arrive x n)) w _ (less_arrived None_of w y n);
    })
delivered_done (Asked (Answer x)) w i a e = delivered_open _ (IsRead w) (exchange w x) w _ (read w i a x) a
    (λ y r. record {
      labelled = labelled_answered w y r.labels a;
      acks =
          acks_less (Asked (Answer x)) w _ (less_answered None_of w y);
    })
delivered_done (Asked (Done x heard air)) w i a e =
    delivered_open _ (λ y. (exchange w x ≡ Some y) × IsRead w y) (exchange w x) w _
    (with_itself (exchange w x) (IsRead w) (read w i a x)) a
    (λ y r. delivered_ended air w y x heard r.0 r.1 i a)
delivered_done (Asked (Sleep s)) w i a e = delivered_station _ w s _ (λ x t. refl) i a
delivered_done (Asked (Ampdu s octets)) w i a e = delivered_station _ w s _ (λ x t. refl) i a
delivered_done (Asked (Stop s)) w i a e = delivered_station _ w s _ (λ x t. refl) i a
delivered_done (Asked (Start s)) w i a e = delivered_station _ w s _ (λ x t. refl) i a
delivered_done (Asked (Wake s)) w i a e = delivered_station _ w s _ (λ x t. refl) i a
delivered_done (Asked (Poll s)) w i a e = delivered_station _ w s _ (λ x t. refl) i a
delivered_done (Asked (Rx s c air)) w i a e =
    record {
      labelled = labelled_same w _ i (same_on_share w s c _) a;
      acks =
          acks_less (Asked (Rx s c air)) w _ (less_on_share None_of w s c _);
    }
delivered_done (Asked Reap) w i a e = delivered_reaped _ w.finished w i a
delivered_done (Asked (Group ask)) w i a e = delivered_plain _ w _ refl refl refl (λ id h. h) i a
delivered_done (Asked (Service ask)) w i a e = delivered_station _ w (station_served ask) _ (λ x t. refl) i a
delivered_done (Asked (Bss s b)) w i a e = delivered_station _ w s _ (λ x t. refl) i a
delivered_done (Asked (Unsent x n)) w i a e = delivered_open _ (IsRead w) (exchange w x) w _ (read w i a x) a
    (λ y r. delivered_unsent _ w y n r a)
delivered_done (Asked (GiveUp x n)) w i a e = delivered_open _ (IsRead w) (exchange w x) w _ (read w i a x) a
    (λ y r. delivered_given_up _ w y n r a)
delivered_done (Asked (Flush s t)) w i a e = record {
  labelled = labelled_flushed w s t i a;
  acks = acks_less (Asked (Flush s t)) w _ (less_flushed None_of w s t);
}
delivered_done (Asked (Offload s exponent weight)) w i a e = record {
  labelled = labelled_offloaded w s exponent weight e.1.1.1.0 i a;
  acks = acks_less (Asked (Offload s exponent weight)) w _ (less_offloaded None_of w s exponent weight);
}
delivered_done (Asked (Weight s weight)) w i a e = record {
  labelled = labelled_same w _ i (same_weighed w s weight) a;
  acks = acks_less (Asked (Weight s weight)) w _ (less_weighed None_of w s weight);
}
delivered_done (Asked (Plain s start exponent weight)) w i a e = record {
  labelled = labelled_unagreed w s start exponent weight e.1.1.1.1.0 i a;
  acks = acks_less (Asked (Plain s start exponent weight)) w _
      (less_unagreed None_of w s start exponent weight);
}
delivered_done (Asked (Hold s t)) w i a e = record {
  labelled = labelled_held w s t i a;
  acks = acks_less (Asked (Hold s t)) w _ (less_held None_of w s t);
}
delivered_done (Asked (Begin s t window)) w i a e = record {
  labelled = labelled_begun w s t window i a;
  acks = acks_less (Asked (Begin s t window)) w _ (less_begun None_of w s t window);
}
delivered_done (Asked (Free s t)) w i a e = record {
  labelled = labelled_freed w s t i a;
  acks = acks_less (Asked (Free s t)) w _ (less_freed None_of w s t);
}
delivered_done (Asked (Cease s t)) w i a e = record {
  labelled = labelled_ceased w s t i a;
  acks = acks_less (Asked (Cease s t)) w _ (less_ceased None_of w s t);
}

delivered_refused : (note : Note) (r : Refusal) (w : World) → IsLawful w → IsLabelled w →
    IsDelivered note w (after_refusal w note r)
unfolding after_refusal
delivered_refused (Asked (Pull c l)) Idle w i a =
    after_idle (IsDelivered (Asked (Pull c l)) w) w c (record { labelled = a; acks = λ id e. inl e })
    (record {
      labelled = labelled_same w _ i (same_after_pick w c) a;
      acks =
          acks_less (Asked (Pull c l)) w _ (less_after_pick None_of w c);
    })
delivered_refused _ _ w i a = record { labelled = a; acks = λ id e. inl e }

then_listed : (note : Note) (w u v : World) → Same u v → Less None_of u v → IsLawful u →
    IsDelivered note w u → IsDelivered note w v
then_listed note w u v k h i d = record {
  labelled = labelled_same u v i k d.labelled;
  acks = λ id e. elim (d.acks id (old_by u v h id e)) [
    | inl was ↦ inl was
    | inr now ↦
        inr (now.0, reached_same u v id k now.1)
  ];
}

delivered_answer : (r : Option Refusal) (w : World) (note : Note) → refusal w note ≡ r → IsLawful w →
    IsLabelled w → IsDelivered note w (judged_outcome w note r).world
unfolding judged_outcome
delivered_answer (Some r) w note e i a = delivered_refused note r w i a
delivered_answer None w note e i a =
    let o : NoRow (refusals w note) = no_row (refusals w note) e in
    then_listed note w (outcome_of w note).world _
    (same_listed (concerned_station w note) (outcome_of w note).world)
    (less_listed None_of (concerned_station w note) (outcome_of w note).world) (lawful_done note w o i)
    (delivered_done note w i a o)

pub delivered_step : (w : World) (note : Note) → IsLawful w → IsLabelled w →
    IsDelivered note w (step w note).world
unfolding step
delivered_step w note i a = delivered_answer (refusal w note) w note refl i a

pub labelled_step : (w : World) (note : Note) → IsLawful w → IsLabelled w → IsLabelled (step w note).world
labelled_step w note i a = (delivered_step w note i a).labelled
