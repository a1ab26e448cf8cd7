-- Proves that a pull, a leave or a flush of a station takes no frame from a queue that the station does not
-- list.
use Rattle.std.proofs.Common.{◌≡◌, refl, ap, sym, ◌∙◌, subst, arith, ℕ, zero, suc, ◌-◌, ◌<◌, ◌≤◌, ◌==◌, ◌||◌, Bool, true, false, if◌then◌else◌, List, [], ◌∷◌, length, Option, Some, None}
use Rattle.wf_frame.specs.declared.classes.Class.{Class}
use Rattle.wf_frame.specs.Classes.{all_classes}
use Rattle.wf_def_lists.specs.Table.{has, upto}
use Rattle.wf_def_codel.specs.Codel.{Item}
use Rattle.wf_def_rotation.specs.Rotation.{Rotation, Picked, in_order, no_keys}
use Rattle.wf_def_agreement.specs.Session.{request_due}
use Rattle.wf_def_lists.specs.Lists.{on}
use Rattle.wf_def_world.specs.World.{World, Queue, Mpdu, session, tid_of, with_queues}
use Rattle.wf_def_world.specs.FlowQueues.{taken_from_picked, taken_by_codel, taken_for_tid, picked_queue, queue_need, has_frames, with_queues_paid, after_queue_left, after_queues_left, after_queue_flushed, after_queues_flushed}
use Rattle.wf_def_world.specs.Exchanges.{Aggregate, Prepared, with_fresh, aggregate_of, prepared_data, prepared_exchange, with_number, most_frames, longest_fitting, waiting_mpdus, after_tid_turn, sending_tid}
use Rattle.wf_def_world.specs.Step.{pull_outcome_for, in_rising_order, after_tid_left, after_tids_left, without_listings, leave_outcome, after_tid_flushed, flush_outcome}
use Rattle.wf_law_rules.proofs.Lemmas.Numbers.{on_if, has_with}
use Rattle.wf_law_rules.proofs.Lemmas.Counts.{on-nil, on-cons, on-cons_same, on-hasnot, hasnot-on}
use Rattle.wf_law_rules.proofs.Lemmas.Rotations.{pick_on, IsWinner, pick_winner}
use Rattle.wf_law_runs.proofs.Deficits.Books.{upd, each_upd, upd_same, upd_other}
use Rattle.wf_law_runs.proofs.Queues.Shelves.{Spot, Shelves, shelves, with_listed, with_queue, shelves_with_station, shelves_with_queues, shelves_on_queue, shelves_on_session, shelves_finish_all, shelves_pay_queues, shelves_after_turn, shelves_sent, shelves_off_lists, shelves_caught_up}
use Rattle.wf_law_runs.proofs.Queues.ShelvedStep.{shelves_number}

-- sorting a list keeps the same numbers in it
has_rising : (xs : List ℕ) (q : ℕ) → has (in_rising_order xs) q ≡ has xs q
has_rising [] q = refl
has_rising (x ∷ xs) q = has_with (in_rising_order xs) x q ∙ ap (λ (b : Bool). (x == q) || b) (has_rising xs q)

none_rising : (xs : List ℕ) (q : ℕ) → on xs q ≡ 0 → on (in_rising_order xs) q ≡ 0
none_rising xs q h = hasnot-on (in_rising_order xs) q (has_rising xs q ∙ on-hasnot xs q h)

-- station s is live and lists queue q for none of these TIDs, and the queue has at least n frames
pub record IsApart (T : ℕ → Type 0) (n q s : ℕ) (b : Shelves) : Type 0 where
  pub live : (b.spots s).live ≡ true
  pub off : (t : ℕ) → T t → (b.spots s).listed t q ≡ 0
  pub long : n ≤ length (b.queues q).items

module _ (T : ℕ → Type 0) (n q s : ℕ) where
  -- ---- changes of the shelves

  another_queue : (b : Shelves) (p : ℕ) (y : Queue) → (p ≡ q → ⊥) → IsApart T n q s b →
      IsApart T n q s (with_queue b p y)
  another_queue b p y other h = record {
    live = h.live;
    off = h.off;
    long =
        subst (λ (z : Queue). n ≤ length z.items) (sym (upd_other b.queues p q y (λ e. other (sym e))))
        h.long;
  }

  other_lists : (b : Shelves) (t : ℕ) (g : ℕ → ℕ) → (T t → g q ≡ 0) → IsApart T n q s b →
      IsApart T n q s (with_listed b s t g)
  other_lists b t g none h =
      let at_s : (with_listed b s t g).spots s ≡ record (b.spots s) { listed = upd (b.spots s).listed t g } =
      upd_same b.spots s _ in
      record {
        live = ap (λ (z : Spot). z.live) at_s ∙ h.live;
        off = λ j i. ap (λ (z : Spot). z.listed j q) at_s
            ∙ each_upd (λ j (f : ℕ → ℕ). T j → f q ≡ 0) (b.spots s).listed t g h.off none j i;
        long = h.long;
      }

  same_shelves : (b c : Shelves) → c ≡ b → IsApart T n q s b → IsApart T n q s c
  same_shelves b c e h = subst (IsApart T n q s) (sym e) h

  -- ---- a take

  apart_paid : (w : World) (quanta : ℕ → ℕ) (qs : List ℕ) → IsApart T n q s (shelves w) →
      IsApart T n q s (shelves (with_queues_paid w quanta qs))
  apart_paid w quanta qs h = same_shelves _ _ (shelves_pay_queues qs w quanta)
      (record { live = h.live; off = h.off; long = h.long })

  apart_taken : (o : Option ℕ) (w : World) → ((p : ℕ) → o ≡ Some p → p ≡ q → ⊥) →
      IsApart T n q s (shelves w) → IsApart T n q s (shelves (taken_from_picked w s o).world)
  unfolding taken_from_picked taken_by_codel
  apart_taken None w other h = h
  apart_taken (Some p) w other h = same_shelves _ _ (shelves_finish_all _ _ _ ∙ shelves_on_queue w p _)
      (another_queue (shelves w) p _ (other p refl) h)

  apart_take : (w : World) (t : ℕ) → T t → IsApart T n q s (shelves w) →
      IsApart T n q s (shelves (taken_for_tid w s t).world)
  unfolding taken_for_tid
  apart_take w t i h =
      let r : Rotation = (tid_of w s t).queues in
      let p : Picked = picked_queue w s t in
      let u : World = with_queues_paid w p.quanta (in_order r) in
      let first : IsApart T n q s (shelves u) = apart_paid w p.quanta (in_order r) h in
      let second : IsApart T n q s (shelves (with_queues u s t p.lists)) =
      same_shelves _ _ (shelves_with_queues u s t p.lists first.live)
      (other_lists (shelves u) t (λ k. on (in_order p.lists) k)
      (λ _. omega (arith, pick_on (queue_need w) (has_frames w) r q, h.off t i)) first) in
      apart_taken p.winner (with_queues u s t p.lists) (λ k e same.
      let won : IsWinner (queue_need w) (has_frames w) r p k =
      pick_winner (queue_need w) (has_frames w) r k e in
      let here : 0 < on (in_order r) q = subst (λ (z : ℕ). 0 < on (in_order r) z) same won.listed in
      omega (arith, here, h.off t i)) second

  -- ---- a pull

  apart_if : (b : Bool) (x y : Aggregate) → IsApart T n q s (shelves x.world) →
      IsApart T n q s (shelves y.world) → IsApart T n q s (shelves (if b then x else y).world)
  apart_if true x y h k = h
  apart_if false x y h k = k

  apart_fresh : (m : ℕ) (w : World) (t : ℕ) (mpdus : List Mpdu) → T t → IsApart T n q s (shelves w) →
      IsApart T n q s (shelves (with_fresh m w s t mpdus).world)
  unfolding with_fresh
  apart_fresh zero w t mpdus i h = h
  apart_fresh (suc m) w t mpdus i h =
      let x : Option Item = (taken_for_tid w s t).item in
      let u : World = with_number (taken_for_tid w s t).world s t x in
      let k : IsApart T n q s (shelves u) = same_shelves _ _
      (shelves_number x (taken_for_tid w s t).world s t) (apart_take w t i h) in
      apart_if _ _ _ h (apart_if _ _ _ (apart_fresh m u t _ i k) k)

  apart_filled : (w : World) (t : ℕ) → T t → IsApart T n q s (shelves w) →
      IsApart T n q s (shelves (aggregate_of w s t).world)
  unfolding aggregate_of
  apart_filled w t i h =
      let chosen : List Mpdu = longest_fitting w s (waiting_mpdus w s t) in
      apart_if (length chosen == length (waiting_mpdus w s t))
      (with_fresh (most_frames w s - length chosen) w s t chosen) (record { world = w; mpdus = chosen })
      (apart_fresh (most_frames w s - length chosen) w t chosen i h) h

  apart_data : (t : ℕ) (f : Aggregate) → IsApart T n q s (shelves f.world) →
      IsApart T n q s (shelves (prepared_data s t f).world)
  unfolding prepared_data
  apart_data t f h = same_shelves _ _ (shelves_on_session f.world s t _) h

  apart_prepared : (w : World) (t : ℕ) → T t → IsApart T n q s (shelves w) →
      IsApart T n q s (shelves (prepared_exchange w s t).world)
  unfolding prepared_exchange
  apart_prepared w t i h = on_if (λ (p : Prepared). IsApart T n q s (shelves p.world))
      (request_due (session w s t)) _ _ (λ _. h)
      (λ _. apart_data t (aggregate_of w s t) (apart_filled w t i h))

  pub apart_pulled : (w : World) (c : Class) → T (sending_tid w s c) → IsApart T n q s (shelves w) →
      IsApart T n q s (shelves (pull_outcome_for w c (Some s)).world)
  unfolding pull_outcome_for
  apart_pulled w c i h =
      let t : ℕ = sending_tid w s c in
      same_shelves _ _ (shelves_sent s t c _) (apart_prepared (after_tid_turn w s c t) t i
      (same_shelves _ _ (shelves_after_turn w s c t) h))

  -- ---- a leave

  apart_purged : (qs : List ℕ) (w : World) → on qs q ≡ 0 → IsApart T n q s (shelves w) →
      IsApart T n q s (shelves (after_queues_left w qs))
  unfolding after_queues_left after_queue_left
  apart_purged [] w none h = h
  apart_purged (p ∷ qs) w none h =
      apart_purged qs _ (omega (arith, on-cons p q qs, none))
      (same_shelves _ _ (shelves_finish_all _ _ _ ∙ shelves_on_queue w p _)
      (another_queue (shelves w) p _ (λ same. let here : on (p ∷ qs) p ≡ 0 =
      subst (λ (z : ℕ). on (p ∷ qs) z ≡ 0) (sym same) none in omega (arith, here, on-cons_same p qs)) h))

  apart_left : (w : World) (t : ℕ) → T t → IsApart T n q s (shelves w) →
      IsApart T n q s (shelves (after_tid_left w s t))
  unfolding after_tid_left
  apart_left w t i h =
      let k = apart_purged (in_rising_order (in_order (tid_of w s t).queues)) _
      (none_rising (in_order (tid_of w s t).queues) q (h.off t i))
      (same_shelves _ _ (shelves_finish_all _ w _) h) in
      same_shelves _ _ (shelves_with_queues _ s t no_keys k.live)
      (other_lists _ t (λ p. on (in_order no_keys) p) (λ _. on-nil q) k)

  apart_all_left : (ts : List ℕ) (w : World) → ((t : ℕ) → T t) → IsApart T n q s (shelves w) →
      IsApart T n q s (shelves (after_tids_left w s ts))
  unfolding after_tids_left
  apart_all_left [] w all h = h
  apart_all_left (t ∷ ts) w all h = apart_all_left ts _ all (apart_left w t (all t) h)

  pub apart_gone : (w : World) → ((t : ℕ) → T t) → IsApart T n q s (shelves w) →
      n ≤ length ((shelves (leave_outcome w s).world).queues q).items
  unfolding leave_outcome
  apart_gone w all h =
      let a : World = after_tids_left w s (upto 8) in
      let k : IsApart T n q s (shelves (without_listings a s all_classes)) =
      same_shelves _ _ (shelves_off_lists all_classes a s) (apart_all_left (upto 8) w all h) in
      subst (λ (b : Shelves). n ≤ length (b.queues q).items)
      (sym (shelves_with_station (without_listings a s all_classes) s None)) k.long

  -- ---- a flush

  apart_queues_flushed : (qs : List ℕ) (w : World) → on qs q ≡ 0 → IsApart T n q s (shelves w) →
      IsApart T n q s (shelves (after_queues_flushed w qs))
  unfolding after_queues_flushed after_queue_flushed
  apart_queues_flushed [] w none h = h
  apart_queues_flushed (p ∷ qs) w none h =
      apart_queues_flushed qs _ (omega (arith, on-cons p q qs, none))
      (same_shelves _ _ (shelves_finish_all _ _ _ ∙ shelves_on_queue w p _)
      (another_queue (shelves w) p _ (λ same. let here : on (p ∷ qs) p ≡ 0 =
      subst (λ (z : ℕ). on (p ∷ qs) z ≡ 0) (sym same) none in omega (arith, here, on-cons_same p qs)) h))

  pub apart_flushed : (w : World) (t : ℕ) → T t → IsApart T n q s (shelves w) →
      n ≤ length ((shelves (flush_outcome w s t).world).queues q).items
  unfolding flush_outcome after_tid_flushed
  apart_flushed w t i h =
      (same_shelves _ _ (shelves_caught_up _ s t)
      (apart_queues_flushed (in_rising_order (in_order (tid_of w s t).queues)) _
      (none_rising (in_order (tid_of w s t).queues) q (h.off t i))
      (same_shelves _ _ (shelves_finish_all _ _ _ ∙ shelves_on_session w s t _) h))).long
