-- Proves that a number fails only by a Done, a Flush or a Cease: after any other call, each failed number was
-- there before and failed. By cases of the call.
use Rattle.std.proofs.Common.{◌≡◌, ◌≢◌, refl, ap, sym, ◌∙◌, subst, ℕ, zero, suc, ◌-◌, ◌==◌, List, [], ◌∷◌, ◌++◌, Option, Some, None, Bool, true, false, arith, ◌≤◌}
use Rattle.wf_frame.specs.declared.classes.Class.{Class}
use Rattle.wf_frame.specs.declared.notes.Ask.TheVariants.{Join, Leave, Rate, Tick, Pull, Arrive, Answer, Done, Sleep, Wake, Poll, Rx, Reap, Ampdu, Stop, Start, Unsent, GiveUp, Flush, Offload, Weight, Plain, Hold, Begin, Free, Cease, Group, Service, Bss}
use Rattle.wf_frame.specs.declared.notes.Limits.{Limits}
use Rattle.wf_frame.specs.declared.notes.Note.{Note}
use Rattle.wf_frame.specs.declared.notes.Note.TheVariants.{Enqueue, Asked}
use Rattle.wf_frame.specs.Classes.{all_classes}
use Rattle.wf_def_lists.specs.Table.{at, upto, with_member}
use Rattle.wf_def_agreement.specs.Session.{Session, Slot, State, no_slot, slot, on_slot, with_state, with_number_given, start_of}
use Rattle.wf_def_world.specs.World.{World, Mode, Station, Tid, Exchange, Mpdu, new_tid, tid_of, session, with_mode, on_tid, exchange, with_station, on_session, on_receiver, with_exchange}
use Rattle.wf_def_world.specs.Service.{station_served}
use Rattle.wf_def_world.specs.Exchanges.{with_flying, with_exchange_opened, after_arrival, caught_up, caught_up_if_plain}
use Rattle.wf_def_world.specs.Step.{Outcome, join_outcome, leave_outcome, rate_outcome, tick_outcome, pull_outcome, arrive_outcome, answer_outcome, unsent_outcome, give_up_outcome, outcome_where_open, sleep_outcome, wake_outcome, poll_outcome, rx_outcome, reap_outcome, outcome_of, offload_outcome, plain_outcome, plain_window, hold_outcome, begin_outcome, free_outcome, new_station}
use Rattle.wf_law_rules.proofs.Lemmas.Numbers.{on_bool, eq_yes, eq_no}
use Rattle.wf_law_rules.proofs.Lemmas.Tables.{each_put}
use Rattle.wf_law_runs.proofs.Common.Marks.{marked_world}
use Rattle.wf_law_runs.proofs.Windows.Sides.{Side, Same, side_of, sides_of, same, then_same, each_side_on, same_on_station, same_on_share, caught_up_is, told_start, begun_is, same_weighed}
use Rattle.wf_law_runs.proofs.Windows.Opened.{eight}
use Rattle.wf_law_runs.proofs.Windows.Agreed.{IsLawful, IsReady, same_left_tids, same_off_lists}
use Rattle.wf_law_runs.proofs.Kept.Pulls.{along_pull}
use Rattle.wf_law_runs.proofs.Releases.Released.{side_with_station, side_own_station}
use Rattle.wf_law_runs.proofs.Frames.Delivered.{same_enqueued}
use Rattle.wf_law_runs.proofs.Common.Flushes.{if_caught}
use Rattle.wf_def_lists.specs.Bounds.{greatest_window}

-- ---- sessions and worlds

-- Number n of session z is what it was in session y before.
pub record Stands (y z : Session) (n : ℕ) : Type 0 where
  pub same_slot : slot z n ≡ slot y n
  pub heard_rises : y.heard ≤ z.heard
  pub same_first : z.first ≡ y.first

-- Each failed number of world v was there and failed in world w, and the starts that were heard do not fall.
pub record Still (w v : World) : Type 0 where
  pub still : (s t n : ℕ) → (slot (session v s t) n).state ≡ State.Failed →
      Stands (session w s t) (session v s t) n

pub stands_equal : (y z : Session) (n : ℕ) → z ≡ y → Stands y z n
stands_equal y z n e = record {
  same_slot = ap (λ (x : Session). slot x n) e;
  heard_rises = omega (arith, ap (λ (x : Session). x.heard) e);
  same_first = ap (λ (x : Session). x.first) e;
}

pub still_same : (w v : World) → Same w v → Still w v
still_same w v h = record {
  still = λ s t n _. stands_equal _ _ n (ap (λ (a : Side). a.session) (h.sides s t));
}

pub still_then : (u v w : World) → Still u v → Still v w → Still u w
still_then u v w h k = record {
  still = λ s t n e.
      let b : Stands (session v s t) (session w s t) n = k.still s t n e in
      let a : Stands (session u s t) (session v s t) n =
      h.still s t n (ap (λ (x : Slot). x.state) (sym b.same_slot) ∙ e) in
      record {
        same_slot = b.same_slot ∙ a.same_slot;
        heard_rises = omega (arith, a.heard_rises, b.heard_rises);
        same_first = b.same_first ∙ a.same_first;
      };
}

-- One session changes, and no number of it fails.
pub still_session : (w : World) (s t : ℕ) (f : Session → Session) →
    ((n : ℕ) → (slot (f (session w s t)) n).state ≡ State.Failed →
    Stands (session w s t) (f (session w s t)) n) → Still w (on_session w s t f)
unfolding on_session
still_session w s t f h = record {
  still = each_side_on (λ i j a. (n : ℕ) → (slot a.session n).state ≡ State.Failed →
      Stands (session w i j) a.session n) w s t (λ y. record y { session = f y.session })
      (λ i j n _. stands_equal _ _ n refl) h;
}

appended : (xs : List Slot) (x : Slot) (i : ℕ) → x.state ≢ State.Failed →
    (at no_slot (xs ++ x ∷ []) i).state ≡ State.Failed → at no_slot (xs ++ x ∷ []) i ≡ at no_slot xs i
appended [] x zero ne h = absurd (ne h)
appended [] x (suc i) ne h = refl
appended (y ∷ xs) x zero ne h = refl
appended (y ∷ xs) x (suc i) ne h = appended xs x i ne h

still_given : (w : World) (s t id : ℕ) → Still w (on_session w s t (λ y. with_number_given y id))
still_given w s t id = still_session w s t (λ y. with_number_given y id) (λ n h. record {
  same_slot = appended (session w s t).slots (record { id = id; attempts = 0; state = State.Waiting })
      (n - (session w s t).first) (λ e. cc e) h;
  heard_rises = omega arith;
  same_first = refl;
})

-- A change of one slot after which it has not failed.
pub stands_on_slot : (y : Session) (m : ℕ) (f : Slot → Slot) → (f (slot y m)).state ≢ State.Failed → (n : ℕ) →
    (slot (on_slot m f y) n).state ≡ State.Failed → Stands y (on_slot m f y) n
stands_on_slot y m f ne n h = record {
  same_slot = each_put (λ i x. x.state ≡ State.Failed → x ≡ at no_slot y.slots i) no_slot y.slots
      (m - y.first) (f (slot y m)) (λ i _. refl) (λ e. absurd (ne e)) (n - y.first) h;
  heard_rises = omega arith;
  same_first = refl;
}

stands_flown : (ms : List Mpdu) (y : Session) (e n : ℕ) →
    (slot (with_flying e ms y) n).state ≡ State.Failed → Stands y (with_flying e ms y) n
stands_flown [] y e n h = stands_equal y y n refl
stands_flown (m ∷ ms) y e n h =
    let z : Session = with_state (State.Flying e) m.number y in
    let b : Stands z (with_flying e ms z) n = stands_flown ms z e n h in
    let a : Stands y z n = stands_on_slot y m.number (λ x. record x { state = State.Flying e }) (λ d. cc d) n
    (ap (λ (x : Slot). x.state) (sym b.same_slot) ∙ h) in
    record {
      same_slot = b.same_slot ∙ a.same_slot;
      heard_rises = omega (arith, a.heard_rises, b.heard_rises);
      same_first = b.same_first ∙ a.same_first;
    }

still_flown : (w : World) (s t : ℕ) (ms : List Mpdu) → IsReady s t w ms →
    Still w (on_session w s t (with_flying w.exchanges ms))
still_flown w s t ms r = still_session w s t (with_flying w.exchanges ms)
    (stands_flown ms (session w s t) w.exchanges)

still_opening : (w : World) (x : Exchange) → Still w (with_exchange_opened w x)
unfolding with_exchange_opened
still_opening w x = record { still = λ s t n _. stands_equal _ _ n refl }

still_pulled : (w : World) (c : Class) (l : Limits) → IsLawful w → Still w (pull_outcome w c l).world
still_pulled = along_pull Still still_same still_then still_given still_flown still_opening

-- A session without numbers has no failed one.
abbrev NoneFails : Side → Type 0
NoneFails a = (n : ℕ) → (slot a.session n).state ≡ State.Failed → ⊥

none_fails : (mode : Mode) (first size n : ℕ) →
    (slot (side_of (new_tid mode first size)).session n).state ≡ State.Failed → ⊥
none_fails mode first size n h = cc h

still_station : (w : World) (i : ℕ) (o : Option Station) → ((t : ℕ) → NoneFails (sides_of o t)) →
    Still w (with_station w i o)
still_station w i o none = record {
  still = λ s t n h. on_bool (i == s)
      (λ own. absurd (none t n (ap (λ (a : Side). (slot a.session n).state)
      (sym (side_own_station w i t o)) ∙ subst (λ (k : ℕ). (slot (session (with_station w i o) k t) n).state
      ≡ State.Failed) (sym (eq_yes i s own)) h)))
      (λ other. stands_equal _ _ n (ap (λ (a : Side). a.session)
      (side_with_station w i s t o (eq_no i s other))));
}

still_new : (w : World) (mode : Mode) (s window start exponent weight : ℕ) (offloaded : Bool) →
    Still w (with_station w s (Some (new_station w.config mode window start exponent weight offloaded)))
still_new w mode s window start exponent weight offloaded = still_station w s _
    (eight (λ y. NoneFails (side_of y)) (new_tid mode start window) (none_fails mode start window)
    (none_fails Mode.Plain 0 0))

still_joined : (w : World) (s window start exponent weight : ℕ) →
    Still w (join_outcome w s window start exponent weight).world
unfolding join_outcome
still_joined w s window start exponent weight =
    still_new w Mode.Agreed s window start exponent weight false

still_offloaded : (w : World) (s exponent weight : ℕ) →
    Still w (offload_outcome w s exponent weight).world
unfolding offload_outcome
still_offloaded w s exponent weight = still_new w Mode.Plain s greatest_window 0 exponent weight true

still_plain : (w : World) (s start exponent weight : ℕ) →
    Still w (plain_outcome w s start exponent weight).world
unfolding plain_outcome
still_plain w s start exponent weight = still_new w Mode.Plain s plain_window start exponent weight false

-- One TID changes, and no number of it fails.
still_on_tid : (w : World) (s t : ℕ) (f : Tid → Tid) →
    ((n : ℕ) → Stands (session w s t) (f (tid_of w s t)).session n) → Still w (on_tid w s t f)
still_on_tid w s t f h = record {
  still = each_side_on (λ i j a. (k : ℕ) → (slot a.session k).state ≡ State.Failed →
      Stands (session w i j) a.session k) w s t f (λ i j k _. stands_equal _ _ k refl) (λ k _. h k);
}

still_held : (w : World) (s t : ℕ) → Still w (hold_outcome w s t).world
unfolding hold_outcome with_mode
still_held w s t = still_on_tid w s t _ (λ n. stands_equal _ _ n refl)

still_freed : (w : World) (s t : ℕ) → Still w (free_outcome w s t).world
unfolding free_outcome with_mode
still_freed w s t = still_on_tid w s t _ (λ n. stands_equal _ _ n refl)

still_begun : (w : World) (s t window : ℕ) → Still w (begin_outcome w s t window).world
still_begun w s t window = subst (Still w) (sym (begun_is w s t window)) (still_on_tid w s t _
    (λ n. record { same_slot = refl; heard_rises = omega arith; same_first = refl }))

-- A TID without an agreement catches up.
still_caught : (w : World) (s t : ℕ) → Still w (caught_up w s t)
still_caught w s t = subst (Still w) (sym (caught_up_is w s t)) (still_on_tid w s t
    (told_start (start_of (session w s t)))
    (λ n. record { same_slot = refl; heard_rises = omega arith; same_first = refl }))

pub still_caught_up : (w : World) (s t : ℕ) → Still w (caught_up_if_plain w s t)
still_caught_up w s t = if_caught (Still w) w s t (still_same w w (same w)) (λ _. still_caught w s t)

still_gone : (w : World) (s : ℕ) → Still w (leave_outcome w s).world
unfolding leave_outcome
still_gone w s = still_then w _ _ (still_same w _ (then_same _ _ _ (same_left_tids (upto 8) w s)
    (same_off_lists all_classes _ s))) (still_station _ s None (λ t. none_fails Mode.Plain 0 0))

still_arrived : (w : World) (x : Exchange) (n : ℕ) → Still w (arrive_outcome w x n).world
unfolding arrive_outcome with_exchange on_receiver
still_arrived w x n = record {
  still = each_side_on (λ i j a. (k : ℕ) → (slot a.session k).state ≡ State.Failed →
      Stands (session w i j) a.session k) w x.station x.tid
      (λ y. record y { receiver = after_arrival x.content n y.receiver })
      (λ i j k _. stands_equal _ _ k refl) (λ k _. stands_equal _ _ k refl);
}

still_answered : (w : World) (x : Exchange) → Still w (answer_outcome w x).world
unfolding answer_outcome with_exchange
still_answered w x = record { still = λ s t n _. stands_equal _ _ n refl }

still_marked : (w : World) (x : Exchange) (unsent given_up : List ℕ) →
    Still w (marked_world w x unsent given_up)
unfolding with_exchange
still_marked w x unsent given_up = record { still = λ s t n _. stands_equal _ _ n refl }

still_unsent : (w : World) (x : Exchange) (n : ℕ) → Still w (unsent_outcome w x n).world
unfolding unsent_outcome
still_unsent w x n = still_marked w x (with_member n x.unsent) x.given_up

still_given_up : (w : World) (x : Exchange) (n : ℕ) → Still w (give_up_outcome w x n).world
unfolding give_up_outcome
still_given_up w x n = still_marked w x x.unsent (with_member n x.given_up)

still_open : (o : Option Exchange) (w : World) (f : Exchange → Outcome) →
    ((x : Exchange) → Still w (f x).world) → Still w (outcome_where_open w o f).world
unfolding outcome_where_open
still_open None w f h = still_same w w (same w)
still_open (Some x) w f h = h x

still_reaped : (ids : List ℕ) (w : World) → Still w (reap_outcome w ids).world
unfolding reap_outcome
still_reaped [] w = still_same w w (same w)
still_reaped (id ∷ ids) w = record { still = λ s t n _. stands_equal _ _ n refl }

-- The call is a Done, a Flush or a Cease: numbers fail.
abbrev pub IsDone : Note → Type 0
IsDone (Asked (Done e heard air)) = Unit {0}
IsDone (Asked (Flush s t)) = Unit {0}
IsDone (Asked (Cease s t)) = Unit {0}
IsDone _ = ⊥

pub still_done : (note : Note) (w : World) → IsLawful w → (IsDone note → ⊥) →
    Still w (outcome_of w note).world
unfolding outcome_of tick_outcome rate_outcome sleep_outcome wake_outcome poll_outcome rx_outcome
still_done (Enqueue s t flow len) w i d = still_same w _ (same_enqueued w s t flow len)
still_done (Asked (Join s window start exponent weight)) w i d =
    still_joined w s window start exponent weight
still_done (Asked (Leave s)) w i d = still_gone w s
still_done (Asked (Rate s rate)) w i d = still_same w _ (same_on_station w s _ (λ x t. refl))
still_done (Asked (Tick by)) w i d = record { still = λ s t n _. stands_equal _ _ n refl }
still_done (Asked (Pull c l)) w i d = still_pulled w c l i
still_done (Asked (Arrive e n)) w i d = still_open (exchange w e) w _ (λ x. still_arrived w x n)
still_done (Asked (Answer e)) w i d = still_open (exchange w e) w _ (λ x. still_answered w x)
still_done (Asked (Done e heard air)) w i d = absurd (d tt)
still_done (Asked (Sleep s)) w i d = still_same w _ (same_on_station w s _ (λ x t. refl))
still_done (Asked (Ampdu s octets)) w i d = still_same w _ (same_on_station w s _ (λ x t. refl))
still_done (Asked (Stop s)) w i d = still_same w _ (same_on_station w s _ (λ x t. refl))
still_done (Asked (Start s)) w i d = still_same w _ (same_on_station w s _ (λ x t. refl))
still_done (Asked (Wake s)) w i d = still_same w _ (same_on_station w s _ (λ x t. refl))
still_done (Asked (Poll s)) w i d = still_same w _ (same_on_station w s _ (λ x t. refl))
still_done (Asked (Rx s c air)) w i d = still_same w _ (same_on_share w s c _)
still_done (Asked Reap) w i d = still_reaped w.finished w
still_done (Asked (Unsent e n)) w i d = still_open (exchange w e) w _ (λ x. still_unsent w x n)
still_done (Asked (GiveUp e n)) w i d = still_open (exchange w e) w _ (λ x. still_given_up w x n)
still_done (Asked (Flush s t)) w i d = absurd (d tt)
still_done (Asked (Offload s exponent weight)) w i d = still_offloaded w s exponent weight
still_done (Asked (Weight s weight)) w i d = still_same w _ (same_weighed w s weight)
still_done (Asked (Plain s start exponent weight)) w i d = still_plain w s start exponent weight
still_done (Asked (Hold s t)) w i d = still_held w s t
still_done (Asked (Begin s t window)) w i d = still_begun w s t window
still_done (Asked (Free s t)) w i d = still_freed w s t
still_done (Asked (Cease s t)) w i d = absurd (d tt)
still_done (Asked (Group ask)) w i d = record { still = λ s t n _. stands_equal _ _ n refl }
still_done (Asked (Service ask)) w i d =
    still_same w _ (same_on_station w (station_served ask) _ (λ x t. refl))
still_done (Asked (Bss s b)) w i d = still_same w _ (same_on_station w s _ (λ x t. refl))
