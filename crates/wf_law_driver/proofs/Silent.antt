-- Proves that calls which report nothing of a receiver keep a world unheard, by cases of the call.
use Rattle.std.proofs.Common.{◌≡◌, refl, ap, sym, ◌∙◌, subst, ℕ, ◌==◌, Bool, true, false, not, List, [], ◌∷◌, Option, Some, None, IfSome}
use Rattle.wf_frame.specs.declared.settings.Config.{Config}
use Rattle.wf_frame.specs.declared.classes.Class.{Class}
use Rattle.wf_frame.specs.declared.notes.Ask.TheVariants.{Join, Leave, Rate, Tick, Pull, Arrive, Answer, Done, Sleep, Wake, Poll, Rx, Reap, Ampdu, Stop, Start, Unsent, GiveUp, Flush, Offload, Weight, Plain, Hold, Begin, Free, Cease, Group, Service, Bss}
use Rattle.wf_frame.specs.declared.notes.Limits.{Limits}
use Rattle.wf_frame.specs.declared.notes.Note.{Note}
use Rattle.wf_frame.specs.declared.notes.Note.TheVariants.{Enqueue, Asked}
use Rattle.wf_frame.specs.declared.notes.Refusal.{Refusal}
use Rattle.wf_frame.specs.declared.notes.Refusal.TheVariants.{Idle}
use Rattle.wf_frame.specs.Classes.{all_classes}
use Rattle.wf_def_lists.specs.Table.{has, upto}
use Rattle.wf_def_lists.specs.Bounds.{greatest_window}
use Rattle.wf_def_agreement.specs.Session.{start_of}
use Rattle.wf_law_rules.proofs.Lemmas.Numbers.{on_if}
use Rattle.wf_law_rules.proofs.Lemmas.Tables.{each_put}
use Rattle.wf_def_world.specs.World.{World, Mode, Station, Tid, Exchange, new_tid, tid_of, with_mode, on_tid, session, receiver, rotation, is_live, exchange, with_station, with_exchange, without_exchange, opening}
use Rattle.wf_def_world.specs.Service.{station_served}
use Rattle.wf_def_world.specs.CanSend.{is_ready}
use Rattle.wf_def_world.specs.Exchanges.{station_need, picked_station, after_tid_turn, sending_tid, Prepared, exchange_of, with_exchange_opened}
use Rattle.wf_def_world.specs.Refusals.{refusal}
use Rattle.wf_def_world.specs.Step.{Outcome, new_station, join_outcome, offload_outcome, plain_outcome, plain_window, hold_outcome, begin_outcome, free_outcome, cease_outcome, after_numbers_ended, leave_outcome, rate_outcome, tick_outcome, send_outcome, pull_outcome_for, pull_outcome, done_outcome, outcome_where_open, sleep_outcome, wake_outcome, poll_outcome, rx_outcome, reap_outcome, unsent_outcome, give_up_outcome, flush_outcome, outcome_of, concerned_station, after_refusal, judged_outcome, step}
use Rattle.wf_def_world.specs.Run.{Entry, world_after}
use Rattle.wf_law_runs.proofs.Common.Picked.{picked_world}
use Rattle.wf_law_runs.proofs.Common.Refused.{after_idle}
use Rattle.wf_law_runs.proofs.Common.Marks.{with_marks, marked_world}
use Rattle.wf_law_runs.proofs.Windows.Sides.{renewed, begun_is, ceased_is, opened_ceased, on_opened, each_side_on, Side, Same, sides_of, then_same, same_on_station, same_on_share, same_weighed, same_listed, same_after_pick, same_picked, same_after_turn, same_spent}
use Rattle.wf_law_runs.proofs.Windows.Opened.{Each, each_append, each_filter, eight, left_true, pick_ready, some_along}
use Rattle.wf_law_runs.proofs.Windows.Agreed.{IsLawful, lawful, lawful_same, same_left_tids, same_off_lists}
use Rattle.wf_law_runs.proofs.Frames.Delivered.{prepared_right, opened_ended, same_enqueued}
use Rattle.wf_law_runs.proofs.Releases.Kept.{Kept, keep_ended, keep_pulled, keep_flushed, keep_numbers_ended, opened_flushed}
use Rattle.wf_law_driver.specs.Unheard.{IsUnmarked, HasAcked, IsUnheard, IsSilent, SilentLaw}
use Rattle.wf_law_driver.proofs.Opened.{with_replaced, found_each, to_each, of_each}
use Rattle.wf_law_driver.proofs.Ended.{kept_after, live_acked, live_arrived, kept_acked}

-- no receiver gets a number, and no exchange a mark
record Silence (w v : World) : Type 0 where
  arrived : (i j n : ℕ) → has (receiver v i j).arrived n ≡ true → has (receiver w i j).arrived n ≡ true
  marks : Each IsUnmarked w.opened → Each IsUnmarked v.opened

silence : (w : World) → Silence w w
silence w = record { arrived = λ i j n h. h; marks = λ h. h }

then_silence : (u v w : World) → Silence u v → Silence v w → Silence u w
then_silence u v w h k = record {
  arrived = λ i j n a. h.arrived i j n (k.arrived i j n a);
  marks =
      λ m. k.marks (h.marks m);
}

silence_same : (w v : World) → Same w v → Silence w v
silence_same w v h = record {
  arrived = λ i j n a. ap (λ (s : Side). has s.receiver.arrived n) (sym (h.sides i j)) ∙ a;
  marks = λ m. subst (Each IsUnmarked) (sym h.opened) m;
}

silence_kept : (w v : World) → Kept w v → (Each IsUnmarked w.opened → Each IsUnmarked v.opened) → Silence w v
silence_kept w v k m = record {
  arrived = λ i j n a. ap (λ (xs : List ℕ). has xs n) (sym (k.receivers i j).arrived) ∙ a;
  marks = m;
}

-- ---- joining and leaving

silence_station : (w : World) (s : ℕ) (o : Option Station) →
    ((j n : ℕ) → has (sides_of o j).receiver.arrived n ≡ true → ⊥) → Silence w (with_station w s o)
unfolding with_station
silence_station w s o new = record {
  arrived = each_put (λ i p. (j n : ℕ) → has (sides_of p j).receiver.arrived n ≡ true →
      has (receiver w i j).arrived n ≡ true) None w.stations s o (λ i j n h. h) (λ j n h. absurd (new j n h));
  marks = λ m. m;
}

silence_new : (w : World) (mode : Mode) (s window start exponent weight : ℕ) (offloaded : Bool) →
    Silence w (with_station w s (Some (new_station w.config mode window start exponent weight offloaded)))
silence_new w mode s window start exponent weight offloaded =
    silence_station w s _ (λ j n. eight (λ y. has y.receiver.arrived n ≡ true → ⊥) (new_tid mode start window)
    (λ h. cc h) (λ h. cc h) j)

silence_joined : (w : World) (s window start exponent weight : ℕ) →
    Silence w (join_outcome w s window start exponent weight).world
unfolding join_outcome
silence_joined w s window start exponent weight =
    silence_new w Mode.Agreed s window start exponent weight false

silence_offloaded : (w : World) (s exponent weight : ℕ) →
    Silence w (offload_outcome w s exponent weight).world
unfolding offload_outcome
silence_offloaded w s exponent weight = silence_new w Mode.Plain s greatest_window 0 exponent weight true

silence_unagreed : (w : World) (s start exponent weight : ℕ) →
    Silence w (plain_outcome w s start exponent weight).world
unfolding plain_outcome
silence_unagreed w s start exponent weight =
    silence_new w Mode.Plain s plain_window start exponent weight false

silence_gone : (w : World) (s : ℕ) → Silence w (leave_outcome w s).world
unfolding leave_outcome
silence_gone w s = then_silence w _ _ (silence_same w _
    (then_same _ _ _ (same_left_tids (upto 8) w s) (same_off_lists all_classes _ s)))
    (silence_station _ s None (λ j n h. cc h))

-- ---- pulls

marks_sent : (s t : ℕ) (c : Class) (w : World) (p : Prepared) → p.world.opened ≡ w.opened →
    Each IsUnmarked w.opened → Each IsUnmarked (send_outcome s t c p).world.opened
unfolding send_outcome with_exchange_opened
marks_sent s t c w p e m = subst (Each IsUnmarked) (sym (same_spent _ (exchange_of s t c p)).opened)
    (each_append IsUnmarked p.world.opened (exchange_of s t c p) (subst (Each IsUnmarked) (sym e) m)
    (record { arrived = refl; answer = refl }))

marks_pulled_by : (o : Option ℕ) (w : World) (c : Class) → IfSome o (λ s. is_live w s ≡ true) → IsLawful w →
    Each IsUnmarked w.opened → Each IsUnmarked (pull_outcome_for w c o).world.opened
unfolding pull_outcome_for
marks_pulled_by None w c live i m = m
marks_pulled_by (Some s) w c live i m =
    let v : World = after_tid_turn w s c (sending_tid w s c) in
    let k : Same w v = same_after_turn w s c (sending_tid w s c) in
    marks_sent s _ c v _ (prepared_right v s _ (lawful_same _ _ k i) (k.live s ∙ live)).opened
    (subst (Each IsUnmarked) (sym k.opened) m)

marks_pulled : (w : World) (c : Class) (l : Limits) → IsLawful w → Each IsUnmarked w.opened →
    Each IsUnmarked (pull_outcome w c l).world.opened
unfolding pull_outcome
marks_pulled w c l i m =
    let k : Same w (picked_world w c l) = same_picked w c l in
    marks_pulled_by (picked_station w c).winner (picked_world w c l) c
    (some_along (λ s. is_ready w c s ≡ true) (λ s. is_live (picked_world w c l) s ≡ true)
    (picked_station w c).winner (λ s h. k.live s ∙ left_true (is_live w s) _ h)
    (pick_ready (station_need w c) (is_ready w c) (rotation w c)))
    (lawful_same _ _ k i) (subst (Each IsUnmarked) (sym k.opened) m)

-- ---- ends

marks_without : (w : World) (e : ℕ) → Each IsUnmarked w.opened → Each IsUnmarked (without_exchange w e).opened
unfolding without_exchange
marks_without w e m = each_filter IsUnmarked IsUnmarked (λ y. not (y.number == e)) w.opened (λ y _ h. h) m

silence_ended : (o : Option Exchange) (w : World) (heard : Bool) (air : Option ℕ) →
    Silence w (outcome_where_open w o (λ x. done_outcome w x heard air)).world
unfolding outcome_where_open
silence_ended None w heard air = silence w
silence_ended (Some x) w heard air = silence_kept w _ (keep_ended air w x heard)
    (λ m. subst (Each IsUnmarked) (sym (opened_ended air w x heard)) (marks_without w x.number m))

-- ---- marks of the device

marks_replaced : (z : Exchange) (xs : List Exchange) → IsUnmarked z → Each IsUnmarked xs →
    Each IsUnmarked (with_replaced z xs)
marks_replaced z [] h m = tt
marks_replaced z (y ∷ ys) h m = (
  on_if IsUnmarked (y.number == z.number) z y (λ _. h) (λ _. m.0),
  marks_replaced z ys h m.1,
)

silence_marked : (w : World) (e : ℕ) (x : Exchange) (unsent given_up : List ℕ) → exchange w e ≡ Some x →
    Silence w (marked_world w x unsent given_up)
unfolding with_exchange
silence_marked w e x unsent given_up found = record {
  arrived = λ i j n h. h;
  marks = λ m.
      let own : IsUnmarked x = found_each IsUnmarked w e x found (of_each IsUnmarked w.opened m) in
      marks_replaced (with_marks unsent given_up x) w.opened
      (record { arrived = own.arrived; answer = own.answer }) m;
}

silence_open : (o : Option Exchange) (w : World) (f : Exchange → Outcome) →
    ((x : Exchange) → o ≡ Some x → Silence w (f x).world) → Silence w (outcome_where_open w o f).world
unfolding outcome_where_open
silence_open None w f h = silence w
silence_open (Some x) w f h = h x refl

-- ---- a flush

silence_flushed : (w : World) (s t : ℕ) → Silence w (flush_outcome w s t).world
silence_flushed w s t = silence_kept w _ (keep_flushed w s t)
    (λ m. subst (Each IsUnmarked) (sym (opened_flushed w s t)) m)

-- ---- a TID is held or free, and its agreement begins or ends

-- One TID changes, and its receiver has what it had.
silence_on_tid : (w : World) (s t : ℕ) (f : Tid → Tid) →
    (f (tid_of w s t)).receiver.arrived ≡ (receiver w s t).arrived → Silence w (on_tid w s t f)
silence_on_tid w s t f h = record {
  arrived = λ i j n. each_side_on (λ i j a. has a.receiver.arrived n ≡ true →
      has (receiver w i j).arrived n ≡ true) w s t f (λ i j a. a)
      (λ a. ap (λ (xs : List ℕ). has xs n) (sym h) ∙ a) i j;
  marks = λ m. subst (Each IsUnmarked) (sym (on_opened w s t f)) m;
}

silence_held : (w : World) (s t : ℕ) → Silence w (hold_outcome w s t).world
unfolding hold_outcome with_mode
silence_held w s t = silence_on_tid w s t _ refl

silence_begun : (w : World) (s t window : ℕ) → Silence w (begin_outcome w s t window).world
silence_begun w s t window = subst (Silence w) (sym (begun_is w s t window)) (silence_on_tid w s t _ refl)

silence_freed : (w : World) (s t : ℕ) → Silence w (free_outcome w s t).world
unfolding free_outcome with_mode
silence_freed w s t = silence_on_tid w s t _ refl

silence_ceased : (w : World) (s t : ℕ) → Silence w (cease_outcome w s t).world
silence_ceased w s t =
    let v : World = after_numbers_ended w s t in
    let told : Silence v (on_tid v s t (renewed (start_of (session v s t)) plain_window Mode.OnHold)) =
    silence_on_tid v s t _ refl in
    record {
      arrived = λ i j n a.
          ap (λ (xs : List ℕ). has xs n) (sym ((keep_numbers_ended w s t).receivers i j).arrived)
          ∙ told.arrived i j n
          (ap (λ (u : World). has (receiver u i j).arrived n) (sym (ceased_is w s t)) ∙ a);
      marks = λ m. subst (Each IsUnmarked) (sym (opened_ceased w s t)) m;
    }

-- ---- the step

silence_reaped : (ids : List ℕ) (w : World) → Silence w (reap_outcome w ids).world
unfolding reap_outcome
silence_reaped [] w = silence w
silence_reaped (id ∷ ids) w = record { arrived = λ i j n h. h; marks = λ h. h }

silence_done : (note : Note) (w : World) → IsSilent note → IsLawful w → Silence w (outcome_of w note).world
unfolding outcome_of tick_outcome rate_outcome sleep_outcome wake_outcome poll_outcome rx_outcome
    unsent_outcome give_up_outcome
silence_done (Enqueue s t flow len) w k i = silence_same w _ (same_enqueued w s t flow len)
silence_done (Asked (Join s window start exponent weight)) w k i =
    silence_joined w s window start exponent weight
silence_done (Asked (Offload s exponent weight)) w k i = silence_offloaded w s exponent weight
silence_done (Asked (Weight s weight)) w k i = silence_same w _ (same_weighed w s weight)
silence_done (Asked (Plain s start exponent weight)) w k i = silence_unagreed w s start exponent weight
silence_done (Asked (Hold s t)) w k i = silence_held w s t
silence_done (Asked (Begin s t window)) w k i = silence_begun w s t window
silence_done (Asked (Free s t)) w k i = silence_freed w s t
silence_done (Asked (Cease s t)) w k i = silence_ceased w s t
silence_done (Asked (Leave s)) w k i = silence_gone w s
silence_done (Asked (Rate s rate)) w k i = silence_same w _ (same_on_station w s _ (λ x t. refl))
silence_done (Asked (Tick by)) w k i = record { arrived = λ i j n h. h; marks = λ h. h }
silence_done (Asked (Pull c l)) w k i = silence_kept w _ (keep_pulled w c l) (marks_pulled w c l i)
silence_done (Asked (Arrive e n)) w k i = absurd k
silence_done (Asked (Answer e)) w k i = absurd k
silence_done (Asked (Done e true air)) w k i = absurd k
silence_done (Asked (Done e false air)) w k i = silence_ended (exchange w e) w false air
silence_done (Asked (Sleep s)) w k i = silence_same w _ (same_on_station w s _ (λ x t. refl))
silence_done (Asked (Ampdu s octets)) w k i = silence_same w _ (same_on_station w s _ (λ x t. refl))
silence_done (Asked (Stop s)) w k i = silence_same w _ (same_on_station w s _ (λ x t. refl))
silence_done (Asked (Start s)) w k i = silence_same w _ (same_on_station w s _ (λ x t. refl))
silence_done (Asked (Wake s)) w k i = silence_same w _ (same_on_station w s _ (λ x t. refl))
silence_done (Asked (Poll s)) w k i = silence_same w _ (same_on_station w s _ (λ x t. refl))
silence_done (Asked (Rx s c air)) w k i = silence_same w _ (same_on_share w s c _)
silence_done (Asked Reap) w k i = silence_reaped w.finished w
silence_done (Asked (Unsent e n)) w k i = silence_open (exchange w e) w (λ x. unsent_outcome w x n)
    (λ x found. silence_marked w e x _ x.given_up found)
silence_done (Asked (GiveUp e n)) w k i = silence_open (exchange w e) w (λ x. give_up_outcome w x n)
    (λ x found. silence_marked w e x x.unsent _ found)
silence_done (Asked (Flush s t)) w k i = silence_flushed w s t
silence_done (Asked (Group ask)) w k i = record { arrived = λ i j n h. h; marks = λ h. h }
silence_done (Asked (Service ask)) w k i =
    silence_same w _ (same_on_station w (station_served ask) _ (λ x t. refl))
silence_done (Asked (Bss s b)) w k i = silence_same w _ (same_on_station w s _ (λ x t. refl))

silence_refused : (note : Note) (r : Refusal) (w : World) → Silence w (after_refusal w note r)
unfolding after_refusal
silence_refused (Asked (Pull c l)) Idle w = after_idle (Silence w) w c (silence w)
    (silence_same w _ (same_after_pick w c))
silence_refused _ _ w = silence w

silence_answer : (r : Option Refusal) (w : World) (note : Note) → IsSilent note → IsLawful w →
    Silence w (judged_outcome w note r).world
unfolding judged_outcome
silence_answer (Some r) w note k i = silence_refused note r w
silence_answer None w note k i = then_silence w (outcome_of w note).world _ (silence_done note w k i)
    (silence_same _ _ (same_listed (concerned_station w note) (outcome_of w note).world))

silence_step : (w : World) (note : Note) → IsSilent note → IsLawful w → Silence w (step w note).world
unfolding step
silence_step w note k i = silence_answer (refusal w note) w note k i

-- ---- the law

pub silent_law : (config : Config) (h : List Entry) → SilentLaw config h
silent_law config h note k un =
    let w : World = world_after (opening config) h in
    let v : World = (step w note).world in
    let s : Silence w v = silence_step w note k (lawful config h) in
    record {
      marks = of_each IsUnmarked v.opened (s.marks (to_each IsUnmarked w.opened un.marks));
      acked = λ i j n a.
          let had : HasAcked (session w i j) n = un.acked i j n (s.arrived i j n a) in
          kept_acked (session w i j) (session v i j) n ((kept_after config h note).numbers i j
          (live_acked w i j n had) (live_arrived v i j n a)) had;
    }

pub opening_unheard : (config : Config) → IsUnheard (opening config)
opening_unheard config = record { marks = tt; acked = λ i j n a. absurd (cc a) }
