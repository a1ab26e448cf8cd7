-- Proves that a number that waits or is on the air counts how often its frame was sent and went on the air.
-- By induction on the run and cases of the call.
use Rattle.std.proofs.Common.{◌≡◌, refl, ap, sym, ◌∙◌, subst, arith, ℕ, zero, suc, ◌+◌, ◌-◌, ◌<◌, ◌≤◌, nat_le, Bool, true, false, if◌then◌else◌, not, ◌==◌, ◌&&◌, inl, inr, List, [], ◌∷◌, ◌++◌, length, map, ◌%◌, Option, Some, None, IfSome, is_none, add-zero, zero-add, count_by}
use Rattle.std.proofs.lemmas.List.Sums.{sum_by-cons}
use Rattle.wf_frame.specs.declared.settings.Config.{Config}
use Rattle.wf_frame.specs.declared.classes.Class.{Class}
use Rattle.wf_frame.specs.declared.classes.Fate.{Fate}
use Rattle.wf_frame.specs.declared.notes.Ask.TheVariants.{Join, Leave, Rate, Tick, Pull, Arrive, Answer, Done, Sleep, Wake, Poll, Rx, Reap, Ampdu, Stop, Start, Unsent, GiveUp, Flush, Offload, Weight, Plain, Hold, Begin, Free, Cease, Group, Service, Bss}
use Rattle.wf_frame.specs.declared.notes.Limits.{Limits}
use Rattle.wf_frame.specs.declared.notes.Note.{Note}
use Rattle.wf_frame.specs.declared.notes.Note.TheVariants.{Enqueue, Asked}
use Rattle.wf_frame.specs.declared.notes.Refusal.{Refusal}
use Rattle.wf_frame.specs.declared.notes.ReplyNote.{ReplyNote}
use Rattle.wf_frame.specs.declared.notes.Refusal.TheVariants.{Idle}
use Rattle.wf_frame.specs.Classes.{all_classes}
use Rattle.wf_def_lists.specs.Table.{at, has, upto, with_member}
use Rattle.wf_def_codel.specs.Codel.{Item}
use Rattle.wf_def_agreement.specs.Session.{End, Session, Slot, State, no_slot, slot, on_slot, with_state, with_number_given, slot_after_miss, slot_given_up, after_flush, next_number, is_settled, is_waiting, is_failed, request_due, new_session, start_of}
use Rattle.wf_def_world.specs.World.{World, Mode, Station, Tid, Exchange, Mpdu, Content, Frames, Request, new_tid, tid_of, session, queue, is_live, exchange, accepted_count, with_mode, with_station, on_station, on_tid, on_session, on_receiver, with_exchange, without_exchange, with_frame_finished, opening, is_offloaded, is_plain}
use Rattle.wf_def_world.specs.Service.{station_served}
use Rattle.wf_def_world.specs.FlowQueues.{taken_for_tid, after_limit, after_put_in, with_appended, queue_for}
use Rattle.wf_def_world.specs.CanSend.{can_send_in, can_give}
use Rattle.wf_def_world.specs.Exchanges.{Aggregate, Prepared, most_frames, end_of, numbers_unsent, mpdus_of, part_of, picked_station, sending_tid, waiting_mpdus, longest_fitting, with_number, with_fresh, aggregate_of, with_flying, prepared_data, prepared_exchange, with_exchange_opened, after_tid_turn, after_arrival, after_charge, with_failed_finished, with_settled, with_all_settled, with_heard_start, after_done, caught_up, caught_up_if_plain}
use Rattle.wf_def_world.specs.Refusals.{refusal}
use Rattle.wf_def_world.specs.Step.{Outcome, with_frame, enqueue_outcome, join_outcome, leave_outcome, rate_outcome, tick_outcome, send_outcome, pull_outcome_for, pull_outcome, arrive_outcome, answer_outcome, done_outcome, outcome_where_open, sleep_outcome, wake_outcome, poll_outcome, rx_outcome, reap_outcome, unsent_outcome, give_up_outcome, flush_outcome, outcome_of, concerned_station, after_refusal, judged_outcome, step, ampdu_outcome, stop_outcome, start_outcome, group_outcome, offload_outcome, weight_outcome, plain_outcome, plain_window, hold_outcome, begin_outcome, free_outcome, cease_outcome, after_numbers_ended, waiting_ids, answer_reply, new_station, service_outcome, bss_outcome}
use Rattle.wf_def_world.specs.Run.{Entry, world_after}
use Rattle.wf_law_runs.specs.Tries.{count_of, count_in_part, tries_by, tries, count_among, unsent_in, unsent_by, unsent, IsCounted}
use Rattle.wf_law_rules.proofs.Lemmas.Numbers.{on_bool, on_if, eq_yes, eq_no, yes_eq, not_eq, both, and_true}
use Rattle.wf_law_rules.proofs.Lemmas.Tables.{each_put}
use Rattle.wf_law_runs.proofs.Common.Refused.{after_idle}
use Rattle.wf_law_runs.proofs.Common.Marks.{marked_world}
use Rattle.wf_law_runs.proofs.Common.Ends.{slot_after_end, end_unsent, end_not_unsent, on_settled}
use Rattle.wf_law_runs.proofs.Common.Flushes.{flush_at, if_flushed, if_caught}
use Rattle.wf_law_runs.proofs.Common.Picked.{picked_world}
use Rattle.wf_law_runs.proofs.Sessions.Starts.{at_change_same, at_change_other, length-change}
use Rattle.wf_law_runs.proofs.Sessions.Flights.{AllIn, Rises, rises_weaken, all_in_later}
use Rattle.wf_law_runs.proofs.Windows.Opened.{eight}
use Rattle.wf_law_runs.proofs.Windows.Sides.{sided, Side, Same, sides_of, then_same, each_side_on, same_on_station, same_on_share, same_on_queue, same_finish, same_listed, same_after_pick, same_after_turn, same_spent, same_take, same_charged, same_within_limit, same_put_in, same_picked, same_weighed, same_ended, begun_is, ceased_is}
use Rattle.wf_law_runs.proofs.Windows.Agreed.{IsLawful, IsReady, IsEnding, IsFound, found, ready_filled, ending_settled, ending_of, lawful_same, lawful_step, lawful_at_first, session_same, session_on_session, winner_ready, same_left_tids, same_off_lists}
use Rattle.wf_law_runs.proofs.Releases.Kept.{KeptSession, kept_on_slot, Kept, keep_settled}
use Rattle.wf_law_runs.proofs.Releases.Placed.{Placing, Numbered, Queued, Place, Any, placed_less, placed_at_first, queue_appended, less_put_in, less_with_frame, less_with_station, less_left_tids, less_off_lists, accepted_appended, accepted_with_frame, side_with_frame}
use Rattle.wf_law_runs.proofs.Releases.Once.{placed_filled, placed_settled, placed_without, placed_step}
use Rattle.wf_law_runs.proofs.Frames.Fewer.{carries, Less, then_less, less_plain, fewer_none, less_on_queue, less_on_station, less_on_session, less_on_receiver, less_on_share, less_finish, less_listed, less_after_pick, less_after_turn, less_spent, less_within_limit, less_charged, less_take, IsTaken, given_take, less_picked, less_weighed, less_on_tid, less_drop_all}
use Rattle.wf_law_runs.proofs.Frames.Delivered.{Labelled, labelled_kept, labelled_filled, IsLabelled, labelled_step}
use Rattle.wf_law_runs.proofs.Frames.Fates.{IsFoundNamed, found_named, session_on_receiver}
use Rattle.wf_law_runs.proofs.Windows.Settling.{without_same}
use Rattle.wf_def_agreement.specs.Receiver.{Score, with_start}
use Rattle.wf_frame.specs.declared.classes.Cause.TheVariants.{Ended}
use Rattle.wf_frame.specs.declared.classes.Fate.TheVariants.{Dropped}
use Rattle.wf_def_lists.specs.Bounds.{greatest_window}

-- How often each frame was sent, and how often an exchange that ended was to send it and did not.
pub record Count : Type 0 where
  pub sent : ℕ → ℕ
  pub unsent : ℕ → ℕ

abbrev pub zeros : ℕ → ℕ
zeros k = 0

-- More times of both.
abbrev pub plus : Count → (ℕ → ℕ) → (ℕ → ℕ) → Count
plus n f g = record { sent = λ k. n.sent k + f k; unsent = λ k. n.unsent k + g k }

-- The counts of one number.
abbrev pub Counted : Count → Slot → Type 0
Counted n x = IsCounted n.sent n.unsent x

-- The frame was never sent.
abbrev pub IsNew : Count → ℕ → Type 0
IsNew n k = (n.sent k ≡ 0) × (n.unsent k ≡ 0)

-- The counts of each number of a session.
abbrev pub AllCounted : Count → Session → Type 0
AllCounted n y = (i : ℕ) → Counted n (at no_slot y.slots i)

-- n says how often each frame was sent.
pub record Counts (n : Count) (w : World) : Type 0 where
  pub slots : (s t : ℕ) → AllCounted n (session w s t)
  -- A frame in a queue was never sent.
  pub queued : (q k : ℕ) → carries (queue w q).items k ≡ true → IsNew n k
  -- Nor was a frame that is not yet accepted.
  pub fresh : (k : ℕ) → accepted_count w ≤ k → IsNew n k

-- ---- sessions

settled_counted : (n : Count) (x : Slot) → is_settled x.state ≡ true → Counted n x
settled_counted n x h = record {
  waits = λ e. absurd (cc (h, ap is_settled e));
  flies = λ k e. absurd (cc (h, ap is_settled e));
}

counted_equal : (n m : Count) (x : Slot) → m.sent x.id ≡ n.sent x.id → m.unsent x.id ≡ n.unsent x.id →
    Counted n x → Counted m x
counted_equal n m x e g h = record {
  waits = λ d. e ∙ h.waits d ∙ ap (λ (k : ℕ). x.attempts + k) (sym g);
  flies = λ k d. e ∙ h.flies k d ∙ ap (λ (k : ℕ). x.attempts + 1 + k) (sym g);
}

counted_put : (n : Count) (y : Session) (k : ℕ) (f : Slot → Slot) → Counted n (f (slot y k)) →
    AllCounted n y → AllCounted n (on_slot k f y)
counted_put n y k f h a = each_put (λ i x. Counted n x) no_slot y.slots (k - y.first) (f (slot y k)) a h

counted_append : (n : Count) (xs : List Slot) (x : Slot) → Counted n x →
    ((i : ℕ) → Counted n (at no_slot xs i)) → (i : ℕ) → Counted n (at no_slot (xs ++ x ∷ []) i)
counted_append n [] x k h zero = k
counted_append n [] x k h (suc i) = h i
counted_append n (y ∷ xs) x k h zero = h zero
counted_append n (y ∷ xs) x k h (suc i) = counted_append n xs x k (λ j. h (suc j)) i

counted_give : (n : Count) (y : Session) (id : ℕ) → IsNew n id → AllCounted n y →
    AllCounted n (with_number_given y id)
counted_give n y id none a = counted_append n y.slots
    (record { id = id; attempts = 0; state = State.Waiting })
    (record {
      waits = λ _. none.0 ∙ sym none.1 ∙ sym (zero-add (n.unsent id));
      flies = λ k e. absurd (cc e);
    }) a

-- ---- the numbers of an aggregate are sent

-- How often an aggregate sends a frame.
abbrev pub times_in : ℕ → List Mpdu → ℕ
times_in id [] = 0
times_in id (m ∷ ms) = (if m.id == id then 1 else 0) + times_in id ms

-- Each number of the session has a frame for itself.
abbrev AreApart : (ℕ → ℕ) → Session → Type 0
AreApart home y = (k : ℕ) → y.first ≤ k → k < next_number y → home (slot y k).id ≡ k

apart_kept : (home : ℕ → ℕ) (y z : Session) → KeptSession y z → next_number z ≡ next_number y →
    AreApart home y → AreApart home z
apart_kept home y z k e a i from below =
    let low : y.first ≤ i = omega (arith, from, k.first) in
    let high : i < next_number y = omega (arith, below, e) in
    ap home (k.ids i low high) ∙ a i low high

pub one_if : (b : Bool) → b ≡ true → ◌≡◌ {A = ℕ} (if b then 1 else 0) 1
one_if true e = refl
one_if false e = absurd (cc e)

pub none_if : (b : Bool) → b ≡ false → ◌≡◌ {A = ℕ} (if b then 1 else 0) 0
none_if true e = absurd (cc e)
none_if false e = refl

unsettled_below : (xs : List Slot) (i : ℕ) → is_settled (at no_slot xs i).state ≡ false → i < length xs
unsettled_below [] i h = absurd (cc h)
unsettled_below (x ∷ xs) zero h = omega arith
unsettled_below (x ∷ xs) (suc i) h = omega (arith, unsettled_below xs i h)

-- One number is sent again.
counted_one : (n : Count) (home : ℕ → ℕ) (y : Session) (e : ℕ) (m : Mpdu) → y.first ≤ m.number →
    m.number < next_number y → (slot y m.number).state ≡ State.Waiting → (slot y m.number).id ≡ m.id →
    AreApart home y → AllCounted n y →
    AllCounted (plus n (λ k. if m.id == k then 1 else 0) zeros) (with_state (State.Flying e) m.number y)
counted_one n home y e m from below waits label apart a i =
    on_bool (i == m.number - y.first) here other
  where
    f : Slot → Slot
    f x = record x { state = State.Flying e }

    n' : Count
    n' = plus n (λ k. if m.id == k then 1 else 0) zeros

    same_id : (slot y m.number).id ≡ m.id → n'.sent (slot y m.number).id ≡ n.sent (slot y m.number).id + 1
    same_id h = ap (λ (k : ℕ). n.sent (slot y m.number).id + k) (one_if (m.id == (slot y m.number).id)
        (yes_eq m.id (slot y m.number).id (sym h)))

    here : (i == m.number - y.first) ≡ true → Counted n' (at no_slot (on_slot m.number f y).slots i)
    here h = subst (λ (j : ℕ). Counted n' (at no_slot (on_slot m.number f y).slots j))
        (sym (eq_yes i (m.number - y.first) h))
        (subst (Counted n') (sym (at_change_same y.slots (m.number - y.first) f))
        (record {
          waits = λ d. absurd (cc d);
          flies = λ k d.
              let before : n.sent (slot y m.number).id ≡ (slot y m.number).attempts
              + n.unsent (slot y m.number).id = (a (m.number - y.first)).waits waits in
              let moved : (slot y m.number).attempts + n.unsent (slot y m.number).id + 1
              ≡ (slot y m.number).attempts + 1 + (n.unsent (slot y m.number).id + 0) = omega arith in
              same_id label ∙ (ap (λ (j : ℕ). j + 1) before ∙ moved);
        }))

    apart_from : (x : Slot) → at no_slot y.slots i ≡ x → (i ≡ m.number - y.first → ⊥) →
        is_settled x.state ≡ false → m.id ≡ x.id → ⊥
    apart_from x is ne open_yet same =
        let inside : i < length y.slots = unsettled_below y.slots i (ap (λ (z : Slot). is_settled z.state) is
        ∙ open_yet) in
        let spot : y.first + i - y.first ≡ i = omega arith in
        let carried : (slot y (y.first + i)).id ≡ x.id = ap (λ (j : ℕ). (at no_slot y.slots j).id) spot
        ∙ ap (λ (z : Slot). z.id) is in
        let theirs : home (slot y (y.first + i)).id ≡ y.first + i =
        apart (y.first + i) (omega arith) (omega (arith, inside)) in
        let ours : home (slot y m.number).id ≡ m.number = apart m.number from below in
        let both_same : y.first + i ≡ m.number = cc (theirs, ours, carried, label, same) in
        ne (omega (arith, both_same))

    other : (i == m.number - y.first) ≡ false → Counted n' (at no_slot (on_slot m.number f y).slots i)
    other h =
        let ne : i ≡ m.number - y.first → ⊥ = eq_no i (m.number - y.first) h in
        subst (Counted n') (sym (at_change_other y.slots (m.number - y.first) i f (λ d. ne (sym d))))
        (go (at no_slot y.slots i) refl ne)
      where
        go : (x : Slot) → at no_slot y.slots i ≡ x → (i ≡ m.number - y.first → ⊥) → Counted n' x
        go x is ne = on_bool (is_settled x.state) (settled_counted n' x)
            (λ open_yet. counted_equal n n' x
            (ap (λ (k : ℕ). n.sent x.id + k) (none_if (m.id == x.id) (not_eq m.id x.id (apart_from x is ne
            open_yet)))
            ∙ add-zero (n.sent x.id)) (add-zero (n.unsent x.id)) (subst (Counted n) is (a i)))

counted_all : (ms : List Mpdu) (n : Count) (home : ℕ → ℕ) (y : Session) (e lo hi : ℕ) → y.first ≤ lo →
    hi ≡ next_number y → Rises lo hi ms → AllIn y State.Waiting ms → Labelled y ms → AreApart home y →
    AllCounted n y → AllCounted (plus n (λ k. times_in k ms) zeros) (with_flying e ms y)
counted_all [] n home y e lo hi b top r w l apart a i = counted_equal n _ _ (add-zero _) (add-zero _) (a i)
counted_all (m ∷ ms) n home y e lo hi b top r w l apart a i =
    let f : Slot → Slot = λ x. record x { state = State.Flying e } in
    let z : Session = on_slot m.number f y in
    let kept : KeptSession y z = kept_on_slot y m.number f (λ x. refl) in
    let next : next_number z ≡ next_number y = ap (λ (k : ℕ). y.first + k)
    (length-change y.slots (m.number - y.first) f (ap is_settled w.0)) in
    let from : y.first ≤ m.number = omega (arith, b, r.0) in
    let below : m.number < next_number y = omega (arith, r.1, top) in
    counted_equal _ _ _ (omega arith) (omega arith)
    (counted_all ms (plus n (λ k. if m.id == k then 1 else 0) zeros) home z e (suc m.number) hi
    (omega (arith, from))
    (omega (arith, top, next)) r.2
    (all_in_later y State.Waiting m.number hi f ms from r.2 w.1)
    (labelled_kept ms y z (suc m.number) kept (omega (arith, from))
    (rises_weaken (suc m.number) (suc m.number) hi (next_number y) ms (omega arith) (omega (arith, top))
    r.2) l.1)
    (apart_kept home y z kept next apart)
    (counted_one n home y e m from below w.0 l.0 apart a) i)

-- ---- worlds

counts_less : (n : Count) (w v : World) → ((s t : ℕ) → session v s t ≡ session w s t) → Less Any w v →
    Counts n w → Counts n v
counts_less n w v e h c = record {
  slots = λ s t. subst (AllCounted n) (sym (e s t)) (c.slots s t);
  queued = λ q k d. c.queued q k ((h.queues q).has k d);
  fresh = λ k d. c.fresh k (omega (arith, d, h.accepted));
}

counts_same : (n : Count) (w v : World) → Same w v → Less Any w v → Counts n w → Counts n v
counts_same n w v k h c = counts_less n w v (session_same w v k) h c

slots_on_session : (n : Count) (w : World) (s t : ℕ) (f : Session → Session) →
    AllCounted n (f (session w s t)) → ((i j : ℕ) → AllCounted n (session w i j)) → (i j : ℕ) →
    AllCounted n (session (on_session w s t f) i j)
unfolding on_session
slots_on_session n w s t f k h = each_side_on (λ _ _ z. AllCounted n z.session) w s t
    (λ y. record y { session = f y.session }) h k

counts_session : (n : Count) (w : World) (s t : ℕ) (f : Session → Session) →
    AllCounted n (f (session w s t)) → Counts n w → Counts n (on_session w s t f)
counts_session n w s t f k c =
    let h : Less Any w (on_session w s t f) = less_on_session Any w s t f in
    record {
      slots = slots_on_session n w s t f k c.slots;
      queued = λ q i d. c.queued q i ((h.queues q).has i d);
      fresh = λ i d. c.fresh i (omega (arith, d, h.accepted));
    }

slots_with_station : (n : Count) (w : World) (s : ℕ) (o : Option Station) →
    ((t : ℕ) → AllCounted n (sides_of o t).session) → ((i j : ℕ) → AllCounted n (session w i j)) → (i j : ℕ) →
    AllCounted n (session (with_station w s o) i j)
unfolding with_station
slots_with_station n w s o k h = each_put
    (λ _ z. (t : ℕ) → AllCounted n (sides_of z t).session) None w.stations s o h k

counts_with_station : (n : Count) (w : World) (s : ℕ) (o : Option Station) →
    ((t : ℕ) → AllCounted n (sides_of o t).session) → Counts n w → Counts n (with_station w s o)
counts_with_station n w s o k c =
    let h : Less Any w (with_station w s o) = less_with_station w s o in
    record {
      slots = slots_with_station n w s o k c.slots;
      queued = λ q i d. c.queued q i ((h.queues q).has i d);
      fresh = λ i d. c.fresh i (omega (arith, d, h.accepted));
    }

-- ---- a pull

-- u is the world before the take.
counts_number : (o : Option Item) (n : Count) (u v : World) (s t : ℕ) → Same u v → Less Any u v →
    IfSome o (IsTaken u v) → Counts n u → Counts n (with_number v s t o)
unfolding with_number
counts_number None n u v s t k h taken c = counts_same n u v k h c
counts_number (Some x) n u v s t k h taken c =
    let d : Counts n v = counts_same n u v k h c in
    counts_session n v s t (λ y. with_number_given y x.id)
    (counted_give n (session v s t) x.id (c.queued taken.place x.id taken.there) (d.slots s t)) d

filled_if : (b : Bool) (n : Count) (x y : Aggregate) → Counts n x.world → Counts n y.world →
    Counts n (if b then x else y).world
filled_if true n x y h k = h
filled_if false n x y h k = k

counts_fresh : (m : ℕ) (n : Count) (w : World) (s t : ℕ) (ms : List Mpdu) → Counts n w →
    Counts n (with_fresh m w s t ms).world
unfolding with_fresh
counts_fresh zero n w s t ms c = c
counts_fresh (suc m) n w s t ms c =
    let taken = taken_for_tid w s t in
    let numbered : Counts n (with_number taken.world s t taken.item) =
    counts_number taken.item n w taken.world s t (same_take w s t) (less_take Any w s t) (given_take w s t) c
    in
    filled_if (not (can_give w s t)) n _ _ c (filled_if _ n _ _ (counts_fresh m n _ s t _ numbered) numbered)

counts_filled : (n : Count) (w : World) (s t : ℕ) → Counts n w → Counts n (aggregate_of w s t).world
unfolding aggregate_of
counts_filled n w s t c =
    let chosen : List Mpdu = longest_fitting w s (waiting_mpdus w s t) in
    filled_if (length chosen == length (waiting_mpdus w s t)) n
    (with_fresh (most_frames w s - length chosen) w s t chosen) (record { world = w; mpdus = chosen })
    (counts_fresh (most_frames w s - length chosen) n w s t chosen c) c

-- The number at which a frame stands.
abbrev number_at : Place → ℕ
number_at (Queued q) = 0
number_at (Numbered s t n) = n

abbrev station_at : Place → ℕ
station_at (Queued q) = 0
station_at (Numbered s t n) = s

abbrev tid_at : Place → ℕ
tid_at (Queued q) = 0
tid_at (Numbered s t n) = t

-- A frame at a number of another TID is not in the aggregate.
none_times : (ms : List Mpdu) (y : Session) (lo k : ℕ) → y.first ≤ lo → Rises lo (next_number y) ms →
    Labelled y ms → ((n : ℕ) → y.first ≤ n → n < next_number y → (slot y n).id ≡ k → ⊥) → times_in k ms ≡ 0
none_times [] y lo k b r l apart = refl
none_times (m ∷ ms) y lo k b r l apart =
    let low : y.first ≤ m.number = omega (arith, b, r.0) in
    let ne : m.id ≡ k → ⊥ = λ e. apart m.number low r.1 (l.0 ∙ e) in
    omega (
      arith,
      none_if (m.id == k) (not_eq m.id k ne),
      none_times ms y (suc m.number) k (omega (arith, low)) r.2 l.1 apart,
    )

session_other : (w : World) (s t : ℕ) (f : Session → Session) (i j : ℕ) → (i ≡ s → j ≡ t → ⊥) →
    session (on_session w s t f) i j ≡ session w i j
unfolding on_session
session_other w s t f i j ne = each_side_on (λ a b z. (a ≡ s → b ≡ t → ⊥) → z.session ≡ session w a b) w s t
    (λ y. record y { session = f y.session }) (λ a b _. refl) (λ no. absurd (no refl refl)) i j ne

-- The aggregate is sent: each of its frames is sent again.
counts_flying : (l : List ℕ) (n : Count) (s t : ℕ) (f : Aggregate) → IsReady s t f.world f.mpdus →
    Labelled (session f.world s t) f.mpdus → Placing l f.world → Counts n f.world →
    Counts (plus n (λ k. times_in k f.mpdus) zeros) (prepared_data s t f).world
unfolding prepared_data
counts_flying l n s t f r labels p c = record {
  slots = λ i j. on_bool ((i == s) && (j == t)) (λ h.
      let b = both (i == s) (j == t) h in
      subst (λ (a : ℕ). AllCounted n' (session v a j)) (sym (eq_yes i s b.0))
      (subst (λ (a : ℕ). AllCounted n' (session v s a)) (sym (eq_yes j t b.1)) own)) (λ h.
      let ne : i ≡ s → j ≡ t → ⊥ = λ es et. cc
      (h, and_true (i == s) (j == t) (yes_eq i s es) (yes_eq j t et)) in
      subst (AllCounted n') (sym (session_other u s t g i j ne)) (others i j ne));
  queued = λ q k d.
      let there : carries (queue u q).items k ≡ true = (h_less.queues q).has k d in
      new_still k (c.queued q k there) (none_times f.mpdus y y.first k (omega arith) r.chosen.rising labels
      (λ m from below e. cc ((p.queued q k there).place, (p.numbered s t m from below).place, e)));
  fresh = λ k d.
      let old : accepted_count u ≤ k = omega (arith, d, h_less.accepted) in
      new_still k (c.fresh k old) (none_times f.mpdus y y.first k (omega arith) r.chosen.rising labels
      (λ m from below e. omega (arith, e, (p.numbered s t m from below).old, old)));
}
  where
    u : World
    u = f.world

    y : Session
    y = session u s t

    g : Session → Session
    g = with_flying u.exchanges f.mpdus

    v : World
    v = on_session u s t g

    n' : Count
    n' = plus n (λ k. times_in k f.mpdus) zeros

    new_still : (k : ℕ) → IsNew n k → times_in k f.mpdus ≡ 0 → IsNew n' k
    new_still k h e = (
      ap (λ (m : ℕ). n.sent k + m) e ∙ (add-zero (n.sent k) ∙ h.0),
      add-zero (n.unsent k) ∙ h.1,
    )

    h_less : Less Any u v
    h_less = less_on_session Any u s t g

    own : AllCounted n' (session v s t)
    own = subst (AllCounted n') (sym (session_on_session u s t g r.live))
        (counted_all f.mpdus n (λ k. number_at (p.home k)) y u.exchanges y.first (next_number y) (omega
        arith) refl
        r.chosen.rising r.chosen.waiting labels (λ k from below. ap number_at (p.numbered s t k from
        below).place)
        (c.slots s t))

    others : (i j : ℕ) → (i ≡ s → j ≡ t → ⊥) → AllCounted n' (session u i j)
    others i j ne a = go (at no_slot (session u i j).slots a) refl
      where
        go : (x : Slot) → at no_slot (session u i j).slots a ≡ x → Counted n' x
        go x is = on_bool (is_settled x.state) (settled_counted n' x) (λ open_yet.
            let z : Session = session u i j in
            let inside : a < length z.slots = unsettled_below z.slots a (ap (λ (b : Slot). is_settled
            b.state) is
            ∙ open_yet) in
            let k : ℕ = z.first + a in
            let spot : k - z.first ≡ a = omega arith in
            let carried : (slot z k).id ≡ x.id = ap (λ (b : ℕ). (at no_slot z.slots b).id) spot
            ∙ ap (λ (b : Slot). b.id) is in
            let theirs : p.home (slot z k).id ≡ Numbered i j k =
            (p.numbered i j k (omega arith) (omega (arith, inside))).place in
            let none : times_in x.id f.mpdus ≡ 0 = none_times f.mpdus y y.first x.id (omega arith)
            r.chosen.rising labels (λ m from below e. (
            let ours : p.home (slot y m).id ≡ Numbered s t m = (p.numbered s t m from below).place in
            let same : Numbered i j k ≡ Numbered s t m = cc (theirs, ours, ap p.home carried, ap p.home e) in
            ne (ap station_at same) (ap tid_at same))) in
            counted_equal n n' x (ap (λ (b : ℕ). n.sent x.id + b) none ∙ add-zero (n.sent x.id))
            (add-zero (n.unsent x.id)) (subst (Counted n) is (c.slots i j a)))

-- How often a prepared exchange sends a frame.
abbrev pub times_by : ℕ → Content → ℕ
times_by k c = times_in k (mpdus_of c)

prepared_if : (b : Bool) (n : Count) (x y : Prepared) →
    Counts (plus n (λ k. times_by k x.content) zeros) x.world →
    (b ≡ false → Counts (plus n (λ k. times_by k y.content) zeros) y.world) →
    Counts (plus n (λ k. times_by k (if b then x else y).content) zeros) (if b then x else y).world
prepared_if true n x y h k = h
prepared_if false n x y h k = k refl

pub counts_equal : (n m : Count) (w : World) → ((k : ℕ) → m.sent k ≡ n.sent k) →
    ((k : ℕ) → m.unsent k ≡ n.unsent k) → Counts n w → Counts m w
counts_equal n m w e g c = record {
  slots = λ s t i. counted_equal n m _ (e _) (g _) (c.slots s t i);
  queued = λ q k d. (e k ∙ (c.queued q k d).0, g k ∙ (c.queued q k d).1);
  fresh = λ k d. (e k ∙ (c.fresh k d).0, g k ∙ (c.fresh k d).1);
}

content_of_data : (s t : ℕ) (f : Aggregate) → mpdus_of (prepared_data s t f).content ≡ f.mpdus
unfolding prepared_data
content_of_data s t f = refl

counts_prepared : (l : List ℕ) (n : Count) (w : World) (s t : ℕ) → IsLawful w → is_live w s ≡ true →
    Placing l w → Counts n w →
    Counts (plus n (λ k. times_by k (prepared_exchange w s t).content) zeros) (prepared_exchange w s t).world
unfolding prepared_exchange
counts_prepared l n w s t i live p c =
    prepared_if (request_due (session w s t)) n _ _ (counts_equal n _ w (λ k. add-zero (n.sent k))
    (λ k. add-zero (n.unsent k)) c)
    (λ quiet. counts_equal _ _ _ (λ k. ap (λ (ms : List Mpdu). n.sent k + times_in k ms)
    (content_of_data s t (aggregate_of w s t))) (λ k. refl)
    (counts_flying l n s t (aggregate_of w s t) (ready_filled w s t i live quiet)
    (labelled_filled w s t i live quiet) (placed_filled l w s t p) (counts_filled n w s t c)))

times_named : (id : ℕ) (ms : List Mpdu) → count_of id (map (λ m. (m.id, m.number % 4096)) ms) ≡ times_in id ms
times_named id [] = refl
times_named id (m ∷ ms) = ap (λ (k : ℕ). (if m.id == id then 1 else 0) + k) (times_named id ms)

times_batch : (id : ℕ) (ms : List Mpdu) → count_by (λ i. i == id) (map (λ m. m.id) ms) ≡ times_in id ms
times_batch id [] = refl
times_batch id (m ∷ ms) = sum_by-cons (λ (i : ℕ). if i == id then 1 else 0) m.id (map (λ m. m.id) ms)
    ∙ ap (λ (k : ℕ). (if m.id == id then 1 else 0) + k) (times_batch id ms)

pub times_part : (id : ℕ) (batch plain : Bool) (c : Content) →
    count_in_part id (part_of batch plain c) ≡ times_by id c
times_part id false false (Frames ms) = times_named id ms
times_part id false true (Frames ms) = times_named id ms
times_part id true plain (Frames ms) = times_batch id ms
times_part id false plain (Request f) = refl
times_part id true plain (Request f) = refl

counts_sent : (n : Count) (s t : ℕ) (c : Class) (p : Prepared) →
    Counts (plus n (λ k. times_by k p.content) zeros) p.world →
    Counts (plus n (λ k. tries_by k (send_outcome s t c p).reply) zeros) (send_outcome s t c p).world
unfolding send_outcome with_exchange_opened
counts_sent n s t c p h = counts_same _ _ _ (same_spent _ _) (less_spent Any _ _)
    (counts_less _ p.world _ (λ i j. refl) (less_plain Any p.world _ refl refl)
    (counts_equal _ _ p.world (λ k. ap (λ (m : ℕ). n.sent k + m)
    (times_part k (is_offloaded p.world s) (is_plain p.world s t) p.content)) (λ k. refl) h))

counts_pulled_by : (o : Option ℕ) (l : List ℕ) (n : Count) (w : World) (c : Class) →
    IfSome o (λ s. (is_live w s ≡ true) × (can_send_in w s c ≡ true)) → IsLawful w → Placing l w →
    Counts n w →
    Counts (plus n (λ k. tries_by k (pull_outcome_for w c o).reply) zeros) (pull_outcome_for w c o).world
unfolding pull_outcome_for
counts_pulled_by None l n w c ready i p h = counts_equal n _ w (λ k. add-zero (n.sent k))
    (λ k. add-zero (n.unsent k)) h
counts_pulled_by (Some s) l n w c ready i p h =
    let t : ℕ = sending_tid w s c in
    let k : Same w (after_tid_turn w s c t) = same_after_turn w s c t in
    counts_sent n s t c _ (counts_prepared l n _ s t (lawful_same _ _ k i) (k.live s ∙ ready.0)
    (placed_less l w _ (less_after_turn Any w s c t) k.sides p)
    (counts_same n w _ k (less_after_turn Any w s c t) h))

counts_pulled : (l : List ℕ) (n : Count) (w : World) (c : Class) (limits : Limits) → IsLawful w →
    Placing l w → Counts n w →
    Counts (plus n (λ k. tries_by k (pull_outcome w c limits).reply) zeros) (pull_outcome w c limits).world
unfolding pull_outcome
counts_pulled l n w c limits i p h =
    let k : Same w (picked_world w c limits) = same_picked w c limits in
    counts_pulled_by (picked_station w c).winner l n (picked_world w c limits) c (winner_ready w c limits)
    (lawful_same _ _ k i) (placed_less l w _ (less_picked Any w c limits) k.sides p)
    (counts_same n w _ k (less_picked Any w c limits) h)

-- ---- the end of an exchange

counted_miss : (n : Count) (limit e : ℕ) (x : Slot) → x.state ≡ State.Flying e → Counted n x →
    Counted n (slot_after_miss limit x)
counted_miss n limit e x flies h = go (nat_le limit (x.attempts + 1))
  where
    go : (b : Bool) → Counted n (record {
      id = x.id;
      attempts = x.attempts + 1;
      state =
          if b then State.Failed else State.Waiting;
    })
    go true = record { waits = λ d. absurd (cc d); flies = λ k d. absurd (cc d) }
    go false = record { waits = λ _. h.flies e flies; flies = λ k d. absurd (cc d) }

counts_finish : (n : Count) (w : World) (fate : Fate) (id : ℕ) → Counts n w →
    Counts n (with_frame_finished w fate id)
counts_finish n w fate id c = counts_same n w _ (same_finish w fate id) (less_finish Any w fate id (λ _.
    tt)) c

none_and : (a b : Bool) → a ≡ false → ◌≡◌ {A = ℕ} (if a && b then 1 else 0) 0
none_and true b e = absurd (cc e)
none_and false b e = refl

none_false : (a : Bool) → ◌≡◌ {A = ℕ} (if a && false then 1 else 0) 0
none_false true = refl
none_false false = refl

one_and : (a : Bool) → a ≡ true → ◌≡◌ {A = ℕ} (if a && true then 1 else 0) 1
one_and true e = refl
one_and false e = absurd (cc e)

-- The counts after an exchange ended for a subframe, which was unsent if b holds.
abbrev ended_one : Count → Mpdu → Bool → Count
ended_one n m b = plus n zeros (λ k. if (m.id == k) && b then 1 else 0)

-- The slot of the subframe's number.
counted_end : (end : End) (b : Bool) (n : Count) (limit e : ℕ) (m : Mpdu) (x : Slot) → x.id ≡ m.id →
    x.state ≡ State.Flying e → (b ≡ true → end ≡ End.Unsent) → (b ≡ false → end ≡ End.Unsent → ⊥) →
    Counted n x → Counted (ended_one n m b) (slot_after_end limit end x)
counted_end End.Acknowledged b n limit e m x label flies u v h = settled_counted _ _ refl
counted_end End.GivenUp b n limit e m x label flies u v h = settled_counted _ _ refl
counted_end End.Missed true n limit e m x label flies u v h = absurd (let d = u refl in cc)
counted_end End.Missed false n limit e m x label flies u v h =
    counted_equal n _ _ (add-zero (n.sent x.id))
    (ap (λ (k : ℕ). n.unsent x.id + k) (none_false (m.id == x.id)) ∙ add-zero (n.unsent x.id))
    (counted_miss n limit e x flies h)
counted_end End.Unsent false n limit e m x label flies u v h = absurd (v refl refl)
counted_end End.Unsent true n limit e m x label flies u v h = record {
  waits = λ _.
      let before : n.sent x.id ≡ x.attempts + 1 + n.unsent x.id = h.flies e flies in
      let one : (if (m.id == x.id) && true then 1 else 0) ≡ 1 =
      one_and (m.id == x.id) (yes_eq m.id x.id (sym label)) in
      let moved : n.sent x.id + 0 ≡ x.attempts + (n.unsent x.id + 1) = omega (arith, before) in
      moved ∙ ap (λ (k : ℕ). x.attempts + (n.unsent x.id + k)) (sym one);
  flies = λ k d. absurd (cc d);
}

-- Two unsettled numbers with one frame are one.
record Same_number (w : World) (i j a s t n : ℕ) : Type 0 where
  station : i ≡ s
  tid : j ≡ t
  number : (session w i j).first + a ≡ n

same_number : (l : List ℕ) (w : World) (p : Placing l w) (i j a s t : ℕ) (m : Mpdu) →
    is_settled (at no_slot (session w i j).slots a).state ≡ false → (session w s t).first ≤ m.number →
    m.number < next_number (session w s t) → (slot (session w s t) m.number).id ≡ m.id →
    m.id ≡ (at no_slot (session w i j).slots a).id → Same_number w i j a s t m.number
same_number l w p i j a s t m open_yet from below label same_id =
    let z : Session = session w i j in
    let k : ℕ = z.first + a in
    let inside : a < length z.slots = unsettled_below z.slots a open_yet in
    let spot : k - z.first ≡ a = omega arith in
    let carried : (slot z k).id ≡ (at no_slot z.slots a).id = ap (λ (b : ℕ). (at no_slot z.slots b).id) spot
    in
    let theirs : p.home (slot z k).id ≡ Numbered i j k =
    (p.numbered i j k (omega arith) (omega (arith, inside))).place in
    let ours : p.home (slot (session w s t) m.number).id ≡ Numbered s t m.number =
    (p.numbered s t m.number from below).place in
    let both_same : Numbered i j k ≡ Numbered s t m.number =
    cc (theirs, ours, ap p.home carried, ap p.home label, ap p.home same_id) in
    record { station = ap station_at both_same; tid = ap tid_at both_same; number = ap number_at both_same }

-- One number leaves the air. The counts differ only for its frame.
counts_one : (l : List ℕ) (n n' : Count) (e s t : ℕ) (ends : ℕ → End) (w : World) (m : Mpdu) (ms : List Mpdu)
    (f : Slot → Slot) → IsEnding e s t ends w (m ∷ ms) → (slot (session w s t) m.number).id ≡ m.id →
    Placing l w
    → ((k : ℕ) → (m.id ≡ k → ⊥) → (n'.sent k ≡ n.sent k) × (n'.unsent k ≡ n.unsent k)) →
    Counted n' (f (slot (session w s t) m.number)) → Counts n w →
    Counts n' (on_session w s t (on_slot m.number f))
counts_one l n n' e s t ends w m ms f d label p differ own c = record {
  slots = λ i j. on_bool ((i == s) && (j == t)) (λ h.
      let b = both (i == s) (j == t) h in
      subst (λ (a : ℕ). AllCounted n' (session v a j)) (sym (eq_yes i s b.0))
      (subst (λ (a : ℕ). AllCounted n' (session v s a)) (sym (eq_yes j t b.1))
      (subst (AllCounted n') (sym (session_on_session w s t g d.live)) here))) (λ h.
      let ne : i ≡ s → j ≡ t → ⊥ = λ es et. cc
      (h, and_true (i == s) (j == t) (yes_eq i s es) (yes_eq j t et)) in
      subst (AllCounted n') (sym (session_other w s t g i j ne))
      (λ a. apart i j a (λ same. ne same.station same.tid)));
  queued = λ q k there.
      let was : carries (queue w q).items k ≡ true = (less_v.queues q).has k there in
      still_new k (λ is. cc ((p.queued q k was).place, ours, ap p.home label, ap p.home is))
      (c.queued q k was);
  fresh = λ k far.
      let old : accepted_count w ≤ k = omega (arith, far, less_v.accepted) in
      still_new k (λ is. omega (
        arith,
        is,
        label,
        (p.numbered s t m.number d.flies.rising.0 d.flies.rising.1).old,
        old,
      )) (c.fresh k old);
}
  where
    y : Session
    y = session w s t

    g : Session → Session
    g = on_slot m.number f

    v : World
    v = on_session w s t g

    less_v : Less Any w v
    less_v = less_on_session Any w s t g

    ours : p.home (slot y m.number).id ≡ Numbered s t m.number
    ours = (p.numbered s t m.number d.flies.rising.0 d.flies.rising.1).place

    still_new : (k : ℕ) → (m.id ≡ k → ⊥) → IsNew n k → IsNew n' k
    still_new k ne h = let same = differ k ne in (same.0 ∙ h.0, same.1 ∙ h.1)

    apart : (i j a : ℕ) → (Same_number w i j a s t m.number → ⊥) →
        Counted n' (at no_slot (session w i j).slots a)
    apart i j a ne =
        let x : Slot = at no_slot (session w i j).slots a in
        on_bool (is_settled x.state) (settled_counted n' x) (λ open_yet.
        let same = differ x.id (λ is. ne (same_number l w p i j a s t m open_yet d.flies.rising.0
        d.flies.rising.1 label is)) in
        counted_equal n n' x same.0 same.1 (c.slots i j a))

    here : AllCounted n' (on_slot m.number f y)
    here a = on_bool (a == m.number - y.first)
        (λ h. subst (λ (j : ℕ). Counted n' (at no_slot (on_slot m.number f y).slots j))
        (sym (eq_yes a (m.number - y.first) h))
        (subst (Counted n') (sym (at_change_same y.slots (m.number - y.first) f)) own))
        (λ h.
        let ne : a ≡ m.number - y.first → ⊥ = eq_no a (m.number - y.first) h in
        subst (Counted n') (sym (at_change_other y.slots (m.number - y.first) a f (λ is. ne (sym is))))
        (apart s t a (λ same. ne (let at_m : y.first + a ≡ m.number = same.number in omega (arith, at_m)))))

counts_settled : (end : End) (b : Bool) (l : List ℕ) (n : Count) (e s t : ℕ) (ends : ℕ → End) (w : World)
    (m : Mpdu) (ms : List Mpdu) → (b ≡ true → end ≡ End.Unsent) → (b ≡ false → end ≡ End.Unsent → ⊥) →
    IsEnding e s t ends w (m ∷ ms) → (slot (session w s t) m.number).id ≡ m.id → Placing l w → Counts n w →
    Counts (ended_one n m b) (with_settled w s t end m)
unfolding with_settled with_failed_finished
counts_settled end b l n e s t ends w m ms u u' d label p c =
    let y : Session = session w s t in
    let limit : ℕ = w.config.attempts in
    let f : Slot → Slot = slot_after_end limit end in
    let v : World = on_session w s t (on_slot m.number f) in
    let n' : Count = ended_one n m b in
    let differ : (k : ℕ) → (m.id ≡ k → ⊥) → (n'.sent k ≡ n.sent k) × (n'.unsent k ≡ n.unsent k) = λ k ne. (
      add-zero (n.sent k),
      ap (λ (j : ℕ). n.unsent k + j) (none_and (m.id == k) b (not_eq m.id k ne)) ∙ add-zero (n.unsent k),
    ) in
    let k : Counts n' v = counts_one l n n' e s t ends w m ms f d label p differ
    (counted_end end b n limit e m (slot y m.number) label d.flies.flying.0 u u'
    (c.slots s t (m.number - y.first))) c in
    on_settled (Counts n') end w s t m
    (λ _. counts_finish n' _ _ _ (counts_one l n n' e s t ends w m ms
    (λ x. record x { state = State.Acked }) d
    label p differ (settled_counted n' _ refl) c))
    (λ _. on_if (Counts n') (is_failed (slot (session v s t) m.number).state) _ v
    (λ _. counts_finish n' v _ _ k) (λ _. k))

-- How often a list of subframes was to send a frame and did not, if `among` says which numbers were unsent.
abbrev times_unsent : ℕ → (ℕ → Bool) → List Mpdu → ℕ
times_unsent k among ms = count_by (λ m. (m.id == k) && among m.number) ms

counts_all : (ms : List Mpdu) (l : List ℕ) (n : Count) (e s t : ℕ) (w : World) (ends : ℕ → End)
    (among : ℕ → Bool) → ((k : ℕ) → among k ≡ true → ends k ≡ End.Unsent) →
    ((k : ℕ) → among k ≡ false → ends k ≡ End.Unsent → ⊥) → IsEnding e s t ends w ms →
    Labelled (session w s t) ms → Placing l w → Counts n w →
    Counts (plus n zeros (λ k. times_unsent k among ms)) (with_all_settled w s t ends ms)
unfolding with_all_settled
counts_all [] l n e s t w ends among u u' i a p c = counts_equal n _ w (λ k. add-zero (n.sent k))
    (λ k. add-zero (n.unsent k)) c
counts_all (m ∷ ms) l n e s t w ends among u u' i a p c =
    let v : World = with_settled w s t (ends m.number) m in
    let kept : Kept w v = keep_settled (ends m.number) w s t m in
    counts_equal _ _ _ (λ k. omega arith) (λ k. omega (
      arith,
      sum_by-cons (λ (z : Mpdu). if (z.id == k) && among z.number then 1 else 0) m ms,
    ))
    (counts_all ms l (ended_one n m (among m.number)) e s t v ends among u u'
    (ending_settled (ends m.number) e s t ends w m ms refl i)
    (labelled_kept ms (session w s t) (session v s t) (suc m.number) (kept.sessions s t)
    (omega (arith, i.flies.rising.0)) i.flies.rising.2 a.1)
    (placed_settled (ends m.number) l e s t ends w m ms i p)
    (counts_settled (ends m.number) (among m.number) l n e s t ends w m ms (u m.number) (u' m.number) i a.0 p
    c))

counted_heard : (b : Bool) (n : Count) (f : ℕ) (y : Session) → AllCounted n y →
    AllCounted n (with_heard_start b f y)
counted_heard true n f y a = a
counted_heard false n f y a = a

-- A TID without an agreement catches up.
counts_caught : (n : Count) (w : World) (s t : ℕ) → Counts n w → Counts n (caught_up w s t)
unfolding caught_up
counts_caught n w s t c =
    let start : ℕ = start_of (session w s t) in
    let f : Session → Session = with_heard_start true start in
    let u : World = on_session w s t f in
    counts_less n u _ (session_on_receiver u s t (with_start start))
    (less_on_receiver Any u s t (with_start start))
    (counts_session n w s t f (counted_heard true n start (session w s t) (c.slots s t)) c)

counts_caught_up : (n : Count) (w : World) (s t : ℕ) → Counts n w → Counts n (caught_up_if_plain w s t)
counts_caught_up n w s t c = if_caught (Counts n) w s t c (λ _. counts_caught n w s t c)

counts_after : (air : Option ℕ) (c : Content) (l : List ℕ) (n : Count) (w : World) (i : IsLawful w)
    (x : Exchange) (heard : Bool) → x.content ≡ c → IsFound w i x →
    Labelled (session w x.station x.tid) (mpdus_of c) →
    Placing l (after_charge (without_exchange w x.number) x air) →
    Counts n (after_charge (without_exchange w x.number) x air) →
    Counts (plus n zeros (λ k. count_among k (numbers_unsent x) (mpdus_of c)))
    (after_done (after_charge (without_exchange w x.number) x air) x heard c)
unfolding after_done
counts_after air (Frames ms) l n w i x heard e f a p h =
    let v : World = after_charge (without_exchange w x.number) x air in
    let d : session v x.station x.tid ≡ session w x.station x.tid =
    session_same _ _ (same_charged air (without_exchange w x.number) x) x.station x.tid
    ∙ without_same w x.number x.station x.tid in
    counts_caught_up _ _ x.station x.tid
    (counts_all ms l n x.number x.station x.tid v (end_of v x heard) (has (numbers_unsent x))
    (λ k there. end_unsent v x heard k there) (λ k away. end_not_unsent v x heard k away)
    (ending_of air w i x ms heard e f) (subst (λ (y : Session). Labelled y ms) (sym d) a) p h)
counts_after air (Request g) l n w i x heard e f a p h =
    let v : World = after_charge (without_exchange w x.number) x air in
    counts_equal n _ _ (λ k. add-zero (n.sent k)) (λ k. add-zero (n.unsent k))
    (counts_session n v x.station x.tid (with_heard_start heard g)
    (counted_heard heard n g (session v x.station x.tid) (h.slots x.station x.tid)) h)

counts_without : (n : Count) (w : World) (e : ℕ) → Counts n w → Counts n (without_exchange w e)
unfolding without_exchange
counts_without n w e c = counts_less n w _ (λ s t. refl) (less_plain Any w _ refl refl) c

counts_ended : (air : Option ℕ) (l : List ℕ) (n : Count) (w : World) (i : IsLawful w) (x : Exchange)
    (heard : Bool) → IsFoundNamed w i x → Placing l w → Counts n w →
    Counts (plus n zeros (λ k. unsent_in k (Some x))) (done_outcome w x heard air).world
unfolding done_outcome
counts_ended air l n w i x heard f p c =
    let u : World = without_exchange w x.number in
    counts_after air x.content l n w i x heard refl f.found_one f.labels
    (placed_less l u (after_charge u x air) (less_charged air Any u x) (same_charged air u x).sides
    (placed_without l w x.number p))
    (counts_same n _ _ (same_charged air u x) (less_charged air Any u x) (counts_without n w x.number c))

none_ended : (w : World) (x : Exchange) (heard : Bool) (air : Option ℕ) (k : ℕ) →
    tries_by k (done_outcome w x heard air).reply ≡ 0
unfolding done_outcome
none_ended w x heard air k = refl

counts_ended_in : (o : Option Exchange) (heard : Bool) (air : Option ℕ) (l : List ℕ) (n : Count) (w : World)
    (i : IsLawful w) → IfSome o (IsFoundNamed w i) → Placing l w → Counts n w →
    Counts (plus n (λ k. tries_by k (outcome_where_open w o (λ x. done_outcome w x heard air)).reply)
    (λ k. unsent_in k o)) (outcome_where_open w o (λ x. done_outcome w x heard air)).world
unfolding outcome_where_open
counts_ended_in None heard air l n w i f p c = counts_equal n _ w (λ k. add-zero (n.sent k))
    (λ k. add-zero (n.unsent k)) c
counts_ended_in (Some x) heard air l n w i f p c =
    counts_equal (plus n zeros (λ k. unsent_in k (Some x))) _ _
    (λ k. ap (λ (m : ℕ). n.sent k + m) (none_ended w x heard air k)) (λ k. refl)
    (counts_ended air l n w i x heard f p c)

-- ---- marks and flushes

counts_marked : (n : Count) (w : World) (x : Exchange) (unsent given_up : List ℕ) → Counts n w →
    Counts n (marked_world w x unsent given_up)
unfolding with_exchange
counts_marked n w x unsent given_up c = counts_less n w _ (λ s t. refl) (less_plain Any w _ refl refl) c

counts_unsent : (n : Count) (w : World) (x : Exchange) (m : ℕ) → Counts n w →
    Counts n (unsent_outcome w x m).world
unfolding unsent_outcome
counts_unsent n w x m c = counts_marked n w x (with_member m x.unsent) x.given_up c

counts_given_up : (n : Count) (w : World) (x : Exchange) (m : ℕ) → Counts n w →
    Counts n (give_up_outcome w x m).world
unfolding give_up_outcome
counts_given_up n w x m c = counts_marked n w x x.unsent (with_member m x.given_up) c

counted_flush : (n : Count) (limit : ℕ) (y : Session) → AllCounted n y → AllCounted n (after_flush limit y)
counted_flush n limit y h i = subst (Counted n) (sym (flush_at limit y.slots i))
    (on_if (Counted n) (is_waiting (at no_slot y.slots i).state)
    (slot_given_up limit (at no_slot y.slots i)) (at no_slot y.slots i)
    (λ _. settled_counted n _ refl) (λ _. h i))

counts_flushed : (n : Count) (w : World) (s t : ℕ) → Counts n w → Counts n (flush_outcome w s t).world
counts_flushed n w s t c = if_flushed (Counts n)
    (record {
      finish = λ u id k. counts_finish n u _ id k;
      empty = λ u q k. counts_same n u _ (same_on_queue u q _)
          (less_on_queue Any u q _ (fewer_none (queue u q).items)) k;
    }) w s t (λ v k _. counts_caught n v s t k)
    (counts_session n w s t _ (counted_flush n w.config.attempts (session w s t) (c.slots s t)) c)

-- ---- a TID is held or free, and its agreement begins or ends

-- One TID changes, and each of its numbers counts right.
counts_on_tid : (n : Count) (w : World) (s t : ℕ) (f : Tid → Tid) → AllCounted n (f (tid_of w s t)).session →
    Counts n w → Counts n (on_tid w s t f)
counts_on_tid n w s t f own c =
    let h : Less Any w (on_tid w s t f) = less_on_tid Any w s t f in
    record {
      slots = each_side_on (λ _ _ a. AllCounted n a.session) w s t f c.slots own;
      queued = λ q i d. c.queued q i ((h.queues q).has i d);
      fresh = λ i d. c.fresh i (omega (arith, d, h.accepted));
    }

counts_held : (n : Count) (w : World) (s t : ℕ) → Counts n w → Counts n (hold_outcome w s t).world
unfolding hold_outcome with_mode
counts_held n w s t c = counts_on_tid n w s t _ (c.slots s t) c

counts_begun : (n : Count) (w : World) (s t window : ℕ) → Counts n w →
    Counts n (begin_outcome w s t window).world
counts_begun n w s t window c = subst (Counts n) (sym (begun_is w s t window))
    (counts_on_tid n w s t _ (c.slots s t) c)

counts_freed : (n : Count) (w : World) (s t : ℕ) → Counts n w → Counts n (free_outcome w s t).world
unfolding free_outcome with_mode
counts_freed n w s t c = counts_on_tid n w s t _ (c.slots s t) c

counts_ceased : (n : Count) (w : World) (s t : ℕ) → Counts n w → Counts n (cease_outcome w s t).world
unfolding after_numbers_ended
counts_ceased n w s t c =
    let u : World = on_session w s t (after_flush w.config.attempts) in
    let v : World = after_numbers_ended w s t in
    let k : Counts n v = counts_same n u v (same_ended w s t)
    (less_drop_all Any (waiting_ids (session w s t).slots) u (Dropped Ended) (λ e. cc e))
    (counts_session n w s t _ (counted_flush n w.config.attempts (session w s t) (c.slots s t)) c) in
    subst (Counts n) (sym (ceased_is w s t)) (counts_on_tid n v s t _ (k.slots s t) k)

-- ---- the other calls

slots_arrived : (n : Count) (w : World) (x : Exchange) (k : ℕ) → ((s t : ℕ) → AllCounted n (session w s t)) →
    (s t : ℕ) → AllCounted n (session (arrive_outcome w x k).world s t)
unfolding arrive_outcome with_exchange on_receiver
slots_arrived n w x k h = each_side_on (λ _ _ z. AllCounted n z.session) w x.station x.tid
    (λ y. record y { receiver = after_arrival x.content k y.receiver }) h (h x.station x.tid)

less_arrived : (w : World) (x : Exchange) (k : ℕ) → Less Any w (arrive_outcome w x k).world
unfolding arrive_outcome with_exchange
less_arrived w x k = then_less Any w _ _ (less_on_receiver Any w x.station x.tid (after_arrival x.content k))
    (less_plain Any _ _ refl refl)

counts_arrived : (n : Count) (w : World) (x : Exchange) (k : ℕ) → Counts n w →
    Counts n (arrive_outcome w x k).world
counts_arrived n w x k c =
    let h : Less Any w (arrive_outcome w x k).world = less_arrived w x k in
    record {
      slots = slots_arrived n w x k c.slots;
      queued = λ q i d. c.queued q i ((h.queues q).has i d);
      fresh = λ i d. c.fresh i (omega (arith, d, h.accepted));
    }

counts_answered : (n : Count) (w : World) (x : Exchange) → Counts n w → Counts n (answer_outcome w x).world
unfolding answer_outcome with_exchange
counts_answered n w x c = counts_less n w _ (λ s t. refl) (less_plain Any w _ refl refl) c

bare_counted : (n : Count) (first size : ℕ) → AllCounted n (new_session first size)
bare_counted n first size i = settled_counted n _ refl

counts_new : (n : Count) (w : World) (mode : Mode) (s window start exponent weight : ℕ) (offloaded : Bool) →
    Counts n w →
    Counts n (with_station w s (Some (new_station w.config mode window start exponent weight offloaded)))
counts_new n w mode s window start exponent weight offloaded c =
    counts_with_station n w s _ (eight (λ y. AllCounted n y.session) (new_tid mode start window)
    (bare_counted n start window) (bare_counted n 0 0)) c

counts_joined : (n : Count) (w : World) (s window start exponent weight : ℕ) → Counts n w →
    Counts n (join_outcome w s window start exponent weight).world
unfolding join_outcome
counts_joined n w s window start exponent weight c =
    counts_new n w Mode.Agreed s window start exponent weight false c

counts_offloaded : (n : Count) (w : World) (s exponent weight : ℕ) → Counts n w →
    Counts n (offload_outcome w s exponent weight).world
unfolding offload_outcome
counts_offloaded n w s exponent weight c =
    counts_new n w Mode.Plain s greatest_window 0 exponent weight true c

counts_unagreed : (n : Count) (w : World) (s start exponent weight : ℕ) → Counts n w →
    Counts n (plain_outcome w s start exponent weight).world
unfolding plain_outcome
counts_unagreed n w s start exponent weight c =
    counts_new n w Mode.Plain s plain_window start exponent weight false c

counts_gone : (n : Count) (w : World) (s : ℕ) → Counts n w → Counts n (leave_outcome w s).world
unfolding leave_outcome
counts_gone n w s c =
    counts_with_station n _ s None (λ _. bare_counted n 0 0)
    (counts_same n w _ (then_same _ _ _ (same_left_tids (upto 8) w s) (same_off_lists all_classes _ s))
    (then_less Any _ _ _ (less_left_tids (upto 8) w s) (less_off_lists all_classes _ s)) c)

counts_put : (n : Count) (w u v : World) (q : ℕ) (x : Item) → x.id ≡ accepted_count w → Less Any w u →
    Less Any (with_appended u q x) v → ((s t : ℕ) → session v s t ≡ session w s t) →
    accepted_count w < accepted_count v → Counts n w → Counts n v
counts_put n w u v q x e h k same more c = record {
  slots = λ s t. subst (AllCounted n) (sym (same s t)) (c.slots s t);
  queued = λ b i d. elim (queue_appended u q x b i ((k.queues b).has i d)) [
    | inl was ↦ c.queued b i ((h.queues b).has i was)
    | inr new ↦ c.fresh i (omega (arith, new.1, e))
  ];
  fresh = λ i d. c.fresh i (omega (arith, d, more));
}

counts_enqueued : (n : Count) (w : World) (s t flow len : ℕ) → Counts n w →
    Counts n (enqueue_outcome w s t flow len).world
unfolding enqueue_outcome
counts_enqueued n w s t flow len c =
    let u : World = after_limit w in
    let q : ℕ = queue_for u s t flow in
    let x : Item = record { id = accepted_count w; stamp = w.clock; len = len } in
    let a : World = after_put_in u s t q x in
    let v : World = with_frame a (Enqueue s t flow len) in
    let h : Less Any w u = less_within_limit Any w in
    let k : Less Any (with_appended u q x) a = less_put_in u s t q x in
    counts_put n w u v q x refl h (then_less Any _ a _ k (less_with_frame a (Enqueue s t flow len)))
    (λ i j. ap (λ (b : Side). b.session) (side_with_frame a (Enqueue s t flow len) i j
    ∙ (then_same w u a (same_within_limit w) (same_put_in u s t q x)).sides i j))
    (omega (
      arith,
      accepted_with_frame a (Enqueue s t flow len),
      k.accepted,
      h.accepted,
      accepted_appended u q x,
    )) c

counts_reaped : (ids : List ℕ) (n : Count) (w : World) → Counts n w → Counts n (reap_outcome w ids).world
unfolding reap_outcome
counts_reaped [] n w c = c
counts_reaped (id ∷ ids) n w c = counts_less n w _ (λ s t. refl) (less_plain Any w _ refl refl) c

counts_open : (P : Exchange → Type 0) (o : Option Exchange) (n : Count) (w : World) (f : Exchange → Outcome) →
    IfSome o P → ((x : Exchange) → P x → Counts n (f x).world) → Counts n w →
    Counts n (outcome_where_open w o f).world
unfolding outcome_where_open
counts_open P None n w f p k h = h
counts_open P (Some x) n w f p k h = k x p

counts_on_station : (n : Count) (w : World) (s : ℕ) (f : Station → Station) →
    ((x : Station) (t : ℕ) → sided (f x) t ≡ sided x t) → Counts n w →
    Counts n (on_station w s f)
counts_on_station n w s f h c = counts_same n w _ (same_on_station w s f h) (less_on_station Any w s f) c

-- ---- the step

-- A call that sends nothing.
counts_plain : (n : Count) (o : Outcome) → ((k : ℕ) → tries_by k o.reply ≡ 0) → Counts n o.world →
    Counts (plus n (λ k. tries_by k o.reply) zeros) o.world
counts_plain n o none c = counts_equal n _ o.world (λ k. ap (λ (m : ℕ). n.sent k + m) (none k)
    ∙ add-zero (n.sent k)) (λ k. add-zero (n.unsent k)) c

none_open : (o : Option Exchange) (w : World) (f : Exchange → Outcome) (k : ℕ) →
    ((x : Exchange) → tries_by k (f x).reply ≡ 0) → tries_by k (outcome_where_open w o f).reply ≡ 0
unfolding outcome_where_open
none_open None w f k h = refl
none_open (Some x) w f k h = h x

none_arrived : (w : World) (x : Exchange) (n k : ℕ) → tries_by k (arrive_outcome w x n).reply ≡ 0
unfolding arrive_outcome
none_arrived w x n k = refl

none_reply : (plain : Bool) (b : Score) (wide : Bool) (k : ℕ) → tries_by k (answer_reply plain b wide) ≡ 0
none_reply true b wide k = refl
none_reply false b wide k = refl

none_answered : (w : World) (x : Exchange) (k : ℕ) → tries_by k (answer_outcome w x).reply ≡ 0
unfolding answer_outcome
none_answered w x k = none_reply x.plain _ _ k

none_reaped : (ids : List ℕ) (w : World) (k : ℕ) → tries_by k (reap_outcome w ids).reply ≡ 0
unfolding reap_outcome
none_reaped [] w k = refl
none_reaped (id ∷ ids) w k = refl

none_enqueued : (w : World) (s t flow len k : ℕ) → tries_by k (enqueue_outcome w s t flow len).reply ≡ 0
unfolding enqueue_outcome
none_enqueued w s t flow len k = refl

none_unsent : (w : World) (x : Exchange) (n k : ℕ) → tries_by k (unsent_outcome w x n).reply ≡ 0
unfolding unsent_outcome
none_unsent w x n k = refl

none_given_up : (w : World) (x : Exchange) (n k : ℕ) → tries_by k (give_up_outcome w x n).reply ≡ 0
unfolding give_up_outcome
none_given_up w x n k = refl

none_flushed : (w : World) (s t k : ℕ) → tries_by k (flush_outcome w s t).reply ≡ 0
unfolding flush_outcome
none_flushed w s t k = refl

none_joined : (w : World) (s window start exponent weight k : ℕ) →
    tries_by k (join_outcome w s window start exponent weight).reply ≡ 0
unfolding join_outcome
none_joined w s window start exponent weight k = refl

none_offloaded : (w : World) (s exponent weight k : ℕ) →
    tries_by k (offload_outcome w s exponent weight).reply ≡ 0
unfolding offload_outcome
none_offloaded w s exponent weight k = refl

none_weighed : (w : World) (s weight k : ℕ) → tries_by k (weight_outcome w s weight).reply ≡ 0
unfolding weight_outcome
none_weighed w s weight k = refl

none_unagreed : (w : World) (s start exponent weight k : ℕ) →
    tries_by k (plain_outcome w s start exponent weight).reply ≡ 0
unfolding plain_outcome
none_unagreed w s start exponent weight k = refl

none_held : (w : World) (s t k : ℕ) → tries_by k (hold_outcome w s t).reply ≡ 0
unfolding hold_outcome
none_held w s t k = refl

none_begun : (w : World) (s t window k : ℕ) → tries_by k (begin_outcome w s t window).reply ≡ 0
unfolding begin_outcome
none_begun w s t window k = refl

none_freed : (w : World) (s t k : ℕ) → tries_by k (free_outcome w s t).reply ≡ 0
unfolding free_outcome
none_freed w s t k = refl

none_ceased : (w : World) (s t k : ℕ) → tries_by k (cease_outcome w s t).reply ≡ 0
unfolding cease_outcome
none_ceased w s t k = refl

none_gone : (w : World) (s k : ℕ) → tries_by k (leave_outcome w s).reply ≡ 0
unfolding leave_outcome
none_gone w s k = refl

-- Returns how often the exchange that a call ends, if the call is not refused, was to send a frame and did
-- not.
abbrev ended_by : World → ℕ → Note → ℕ
ended_by w k (Asked (Done e heard air)) = unsent_in k (exchange w e)
ended_by w k _ = 0

counts_done : (note : Note) (l : List ℕ) (n : Count) (w : World) (i : IsLawful w) → IsLabelled w →
    Placing l w → Counts n w →
    Counts (plus n (λ k. tries_by k (outcome_of w note).reply) (λ k. ended_by w k note))
    (outcome_of w note).world
unfolding outcome_of tick_outcome rate_outcome sleep_outcome wake_outcome poll_outcome rx_outcome
counts_done (Enqueue s t flow len) l n w i a p c = counts_plain n (enqueue_outcome w s t flow len)
    (none_enqueued w s t flow len) (counts_enqueued n w s t flow len c)
counts_done (Asked (Join s window start exponent weight)) l n w i a p c =
    counts_plain n (join_outcome w s window start exponent weight) (none_joined w s window start exponent
    weight)
    (counts_joined n w s window start exponent weight c)
counts_done (Asked (Leave s)) l n w i a p c = counts_plain n (leave_outcome w s) (none_gone w s) (counts_gone
    n w s c)
counts_done (Asked (Rate s rate)) l n w i a p c = counts_plain n (rate_outcome w s rate) (λ k. refl)
    (counts_on_station n w s _ (λ x t. refl) c)
counts_done (Asked (Tick by)) l n w i a p c = counts_plain n (tick_outcome w by) (λ k. refl)
    (counts_less n w _ (λ s t. refl) (less_plain Any w _ refl refl) c)
counts_done (Asked (Pull c limits)) l n w i a p k = counts_pulled l n w c limits i p k
counts_done (Asked (Arrive e m)) l n w i a p c =
    counts_plain n (outcome_where_open w (exchange w e) (λ x. arrive_outcome w x m))
    (λ k. none_open (exchange w e) w _ k (λ x. none_arrived w x m k))
    (counts_open (IsFound w i) (exchange w e) n w _ (found w i e) (λ x _. counts_arrived n w x m c) c)
counts_done (Asked (Answer e)) l n w i a p c =
    counts_plain n (outcome_where_open w (exchange w e) (λ x. answer_outcome w x))
    (λ k. none_open (exchange w e) w _ k (λ x. none_answered w x k))
    (counts_open (IsFound w i) (exchange w e) n w _ (found w i e) (λ x _. counts_answered n w x c) c)
counts_done (Asked (Done e heard air)) l n w i a p c =
    counts_ended_in (exchange w e) heard air l n w i (found_named w i a e) p c
counts_done (Asked (Sleep s)) l n w i a p c = counts_plain n (sleep_outcome w s) (λ k. refl)
    (counts_on_station n w s _ (λ x t. refl) c)
counts_done (Asked (Ampdu s octets)) l n w i a p c = counts_plain n (ampdu_outcome w s octets) (λ k. refl)
    (counts_on_station n w s _ (λ x t. refl) c)
counts_done (Asked (Stop s)) l n w i a p c = counts_plain n (stop_outcome w s) (λ k. refl)
    (counts_on_station n w s _ (λ x t. refl) c)
counts_done (Asked (Start s)) l n w i a p c = counts_plain n (start_outcome w s) (λ k. refl)
    (counts_on_station n w s _ (λ x t. refl) c)
counts_done (Asked (Wake s)) l n w i a p c = counts_plain n (wake_outcome w s) (λ k. refl)
    (counts_on_station n w s _ (λ x t. refl) c)
counts_done (Asked (Poll s)) l n w i a p c = counts_plain n (poll_outcome w s) (λ k. refl)
    (counts_on_station n w s _ (λ x t. refl) c)
counts_done (Asked (Rx s c air)) l n w i a p k = counts_plain n (rx_outcome w s c air) (λ k. refl)
    (counts_same n w _ (same_on_share w s c _) (less_on_share Any w s c _) k)
counts_done (Asked Reap) l n w i a p c = counts_plain n (reap_outcome w w.finished) (none_reaped w.finished w)
    (counts_reaped w.finished n w c)
counts_done (Asked (Unsent e m)) l n w i a p c =
    counts_plain n (outcome_where_open w (exchange w e) (λ x. unsent_outcome w x m))
    (λ k. none_open (exchange w e) w _ k (λ x. none_unsent w x m k))
    (counts_open (IsFound w i) (exchange w e) n w _ (found w i e) (λ x _. counts_unsent n w x m c) c)
counts_done (Asked (GiveUp e m)) l n w i a p c =
    counts_plain n (outcome_where_open w (exchange w e) (λ x. give_up_outcome w x m))
    (λ k. none_open (exchange w e) w _ k (λ x. none_given_up w x m k))
    (counts_open (IsFound w i) (exchange w e) n w _ (found w i e) (λ x _. counts_given_up n w x m c) c)
counts_done (Asked (Flush s t)) l n w i a p c =
    counts_plain n (flush_outcome w s t) (none_flushed w s t) (counts_flushed n w s t c)
counts_done (Asked (Offload s exponent weight)) l n w i a p c =
    counts_plain n (offload_outcome w s exponent weight) (none_offloaded w s exponent weight)
    (counts_offloaded n w s exponent weight c)
counts_done (Asked (Weight s weight)) l n w i a p c =
    counts_plain n (weight_outcome w s weight) (none_weighed w s weight)
    (counts_same n w _ (same_weighed w s weight) (less_weighed Any w s weight) c)
counts_done (Asked (Plain s start exponent weight)) l n w i a p c =
    counts_plain n (plain_outcome w s start exponent weight) (none_unagreed w s start exponent weight)
    (counts_unagreed n w s start exponent weight c)
counts_done (Asked (Hold s t)) l n w i a p c =
    counts_plain n (hold_outcome w s t) (none_held w s t) (counts_held n w s t c)
counts_done (Asked (Begin s t window)) l n w i a p c =
    counts_plain n (begin_outcome w s t window) (none_begun w s t window) (counts_begun n w s t window c)
counts_done (Asked (Free s t)) l n w i a p c =
    counts_plain n (free_outcome w s t) (none_freed w s t) (counts_freed n w s t c)
counts_done (Asked (Cease s t)) l n w i a p c =
    counts_plain n (cease_outcome w s t) (none_ceased w s t) (counts_ceased n w s t c)
counts_done (Asked (Group ask)) l n w i a p c = counts_plain n (group_outcome w ask) (λ k. refl)
    (counts_less n w _ (λ s t. refl) (less_plain Any w _ refl refl) c)
counts_done (Asked (Service ask)) l n w i a p c = counts_plain n (service_outcome w ask) (λ k. refl)
    (counts_on_station n w (station_served ask) _ (λ x t. refl) c)
counts_done (Asked (Bss s b)) l n w i a p c = counts_plain n (bss_outcome w s b) (λ k. refl)
    (counts_on_station n w s _ (λ x t. refl) c)

counts_refused : (note : Note) (r : Refusal) (n : Count) (w : World) → Counts n w →
    Counts n (after_refusal w note r)
unfolding after_refusal
counts_refused (Asked (Pull c l)) Idle n w k = after_idle (Counts n) w c k
    (counts_same n w _ (same_after_pick w c) (less_after_pick Any w c) k)
counts_refused _ _ n w k = k

unsent_refused : (note : Note) (w : World) (r : Refusal) (k : ℕ) → refusal w note ≡ Some r →
    unsent_by w k note ≡ 0
unsent_refused (Asked (Done e heard air)) w r k h =
    ap (λ (o : Option Refusal). if is_none o then unsent_in k (exchange w e) else 0) h
unsent_refused _ w r k h = refl

unsent_here : (note : Note) (w : World) (k : ℕ) → refusal w note ≡ None →
    unsent_by w k note ≡ ended_by w k note
unsent_here (Asked (Done e heard air)) w k h =
    ap (λ (o : Option Refusal). if is_none o then unsent_in k (exchange w e) else 0) h
unsent_here _ w k h = refl

-- The counts after a call.
abbrev pub counted_after : Count → World → Note → ReplyNote → Count
counted_after n w note r = plus n (λ k. tries_by k r) (λ k. unsent_by w k note)

counts_answer : (r : Option Refusal) (l : List ℕ) (n : Count) (w : World) (note : Note) (i : IsLawful w) →
    refusal w note ≡ r → IsLabelled w → Placing l w → Counts n w →
    Counts (counted_after n w note (judged_outcome w note r).reply) (judged_outcome w note r).world
unfolding judged_outcome
counts_answer (Some r) l n w note i e a p c = counts_equal n _ _ (λ k. add-zero (n.sent k))
    (λ k. ap (λ (m : ℕ). n.unsent k + m) (unsent_refused note w r k e) ∙ add-zero (n.unsent k))
    (counts_refused note r n w c)
counts_answer None l n w note i e a p c =
    let o : Outcome = outcome_of w note in
    counts_same _ o.world _ (same_listed (concerned_station w note) o.world)
    (less_listed Any (concerned_station w note) o.world)
    (counts_equal (plus n (λ k. tries_by k o.reply) (λ k. ended_by w k note)) _ _ (λ k. refl)
    (λ k. ap (λ (m : ℕ). n.unsent k + m) (unsent_here note w k e)) (counts_done note l n w i a p c))

pub counts_step : (l : List ℕ) (n : Count) (w : World) (note : Note) (i : IsLawful w) → IsLabelled w →
    Placing l w → Counts n w → Counts (counted_after n w note (step w note).reply) (step w note).world
unfolding step
counts_step l n w note i a p c = counts_answer (refusal w note) l n w note i refl a p c

counts_run : (h : List Entry) (l : List ℕ) (n : Count) (w : World) (i : IsLawful w) → IsLabelled w →
    Placing l w → Counts n w → Counts (plus n (λ k. tries w k h) (λ k. unsent w k h)) (world_after w h)
unfolding world_after
counts_run [] l n w i a p c = counts_equal n _ w (λ k. add-zero (n.sent k)) (λ k. add-zero (n.unsent k)) c
counts_run (e ∷ es) l n w i a p c = counts_equal _ _ _ (λ k. omega arith) (λ k. omega arith)
    (counts_run es _ _ (step w e.1).world (lawful_step w e.1 i) (labelled_step w e.1 i a)
    (placed_step l w i e.1 p) (counts_step l n w e.1 i a p c))

abbrev pub no_count : Count
no_count = record { sent = zeros; unsent = zeros }

pub counts_first : (config : Config) → Counts no_count (opening config)
counts_first config = record {
  slots = λ s t i. settled_counted no_count no_slot refl;
  queued = λ q k d. (refl, refl);
  fresh = λ k d. (refl, refl);
}

-- The counts of a history.
abbrev pub count_in : Config → List Entry → Count
count_in config h = record {
  sent = λ k. tries (opening config) k h;
  unsent = λ k. unsent (opening config) k h;
}

pub counts : (config : Config) (h : List Entry) → Counts (count_in config h) (world_after (opening config) h)
counts config h = counts_equal _ _ _ (λ k. omega arith) (λ k. omega arith)
    (counts_run h [] no_count (opening config) (lawful_at_first config) (record { labels = tt })
    (placed_at_first config) (counts_first config))
