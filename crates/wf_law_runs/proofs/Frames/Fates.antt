-- Proves that a fate other than Held never changes: only frames in queues and at unsettled numbers get a
-- fate, and these are held. Also proves that each frame with a fate goes on the finished list once.
use Rattle.std.proofs.Common.{◌≡◌, ◌≢◌, refl, ap, sym, ◌∙◌, subst, arith, ℕ, zero, suc, ◌+◌, ◌-◌, ◌<◌, ◌≤◌, nat_lt, pos, Bool, true, false, if◌then◌else◌, not, ◌==◌, ◌||◌, ◌⊎◌, inl, inr, List, [], ◌∷◌, ◌++◌, length, map, Option, Some, None, IfSome, is_none, count_by, add-zero, append_assoc, ◌-ℤ◌}
use Rattle.wf_frame.specs.declared.settings.Config.{Config}
use Rattle.wf_frame.specs.declared.classes.Class.{Class}
use Rattle.wf_frame.specs.declared.classes.Cause.{Cause}
use Rattle.wf_frame.specs.declared.classes.Fate.{Fate}
use Rattle.wf_def_lists.specs.Table.{at, has, put, upto, count_from, with_member}
use Rattle.wf_def_codel.specs.Codel.{Item, Params, Codel, renewed as renewed_codel, Dequeued, dequeue}
use Rattle.wf_def_codel.specs.CodelLoop.{giving, dropping_first}
use Rattle.wf_law_rules.proofs.Lemmas.Dequeues.{each_dequeue}
use Rattle.wf_def_rotation.specs.Rotation.{in_order, no_keys}
use Rattle.wf_def_agreement.specs.Receiver.{Receiver, with_start}
use Rattle.wf_def_agreement.specs.Session.{End, is_waiting, request_due, waiting_numbers, with_state, Session, Slot, State, is_settled, is_failed, slot_given_up, slot, on_slot, with_number_given, after_flush, new_session, next_number, numbers_where, no_slot, start_of}
use Rattle.wf_def_world.specs.World.{World, Mode, Station, Share, Tid, Queue, Exchange, Mpdu, Content, Frames, Request, new_tid, rotation, session, tid_of, is_live, exchange, with_mode, with_station, on_station, on_tid, on_session, on_receiver, with_queues, on_share, on_queue, with_fate, with_frame_finished, with_frames_finished, with_exchange, without_exchange, opening, inside, is_held, no_frame, Frame, frame, new_queue, queue, accepted_count, codel_params}
use Rattle.wf_def_world.specs.Service.{station_served}
use Rattle.wf_frame.specs.Classes.{all_classes}
use Rattle.wf_def_world.specs.FlowQueues.{without_head, after_limit, with_appended, after_put_in, with_queues_paid, taken_by_codel, taken_from_picked, taken_for_tid, after_queue_left, after_queues_left, after_queue_flushed, after_queues_flushed, len_given, picked_queue, queue_for, longest_queue, is_at_limit}
use Rattle.wf_def_world.specs.CanSend.{is_ready, with_listings_of, can_give}
use Rattle.wf_def_world.specs.Exchanges.{end_of, station_need, most_frames, picked_station, after_arrival, exchange_of, sending_tid, with_heard_start, Prepared, mpdus_of, after_pick, after_tid_turn, with_fresh, aggregate_of, with_number, with_flying, waiting_mpdus, longest_fitting, prepared_data, prepared_exchange, with_exchange_opened, after_charge, with_failed_finished, with_settled, with_all_settled, after_done, ids_of, Aggregate, caught_up, caught_up_if_plain, with_spent}
use Rattle.wf_frame.specs.declared.notes.Ask.TheVariants.{Join, Leave, Rate, Tick, Pull, Arrive, Answer, Done, Sleep, Wake, Poll, Rx, Reap, Ampdu, Stop, Start, Unsent, GiveUp, Flush, Offload, Weight, Plain, Hold, Begin, Free, Cease, Group, Service, Bss}
use Rattle.wf_frame.specs.declared.notes.Limits.{Limits}
use Rattle.wf_frame.specs.declared.notes.Note.{Note}
use Rattle.wf_frame.specs.declared.notes.Note.TheVariants.{Enqueue, Asked}
use Rattle.wf_frame.specs.declared.notes.Refusal.{Refusal}
use Rattle.wf_frame.specs.declared.notes.Refusal.TheVariants.{Idle}
use Rattle.wf_def_world.specs.Refusals.{refusal, refusals}
use Rattle.wf_def_world.specs.Step.{Outcome, join_outcome, after_tid_left, after_tids_left, without_listings, leave_outcome, rate_outcome, tick_outcome, with_frame, enqueue_outcome, send_outcome, pull_outcome_for, pull_outcome, arrive_outcome, answer_outcome, done_outcome, outcome_where_open, sleep_outcome, wake_outcome, poll_outcome, rx_outcome, reap_outcome, unsent_outcome, give_up_outcome, flush_outcome, outcome_of, after_refusal, judged_outcome, step, waiting_ids, in_rising_order, concerned_station, offload_outcome, weight_outcome, plain_outcome, plain_window, hold_outcome, begin_outcome, free_outcome, cease_outcome, after_numbers_ended, new_station}
use Rattle.wf_def_world.specs.Run.{Entry, world_after}
use Rattle.std.proofs.lemmas.List.{length-append}
use Rattle.std.proofs.lemmas.List.Sums.{sum_by-append}
use Rattle.wf_law_runs.proofs.Common.Refused.{after_idle}
use Rattle.wf_law_runs.proofs.Common.Marks.{marked_world}
use Rattle.wf_law_runs.proofs.Common.Ends.{slot_after_end, end_id, on_settled}
use Rattle.wf_law_runs.proofs.Common.Flushes.{flush_along, slot_flush, flushed_fails, next-flush, if_caught, emptied_world, flush_is}
use Rattle.wf_law_runs.proofs.Windows.Opened.{NoRow, no_row, each_find, some_along, pick_ready, left_true, eight}
use Rattle.wf_law_rules.proofs.Lemmas.Sums.{sum_put_within, length_put}
use Rattle.wf_law_runs.proofs.Frames.Untouched.{Untouched, untouched, then_untouched, untouched_on_session, untouched_on_queue, untouched_pay_queues, untouched_with_queues, untouched_spent, untouched_after_turn, untouched_after_pick, untouched_without, untouched_charged, untouched_put_in, untouched_off_lists, untouched_with_station, untouched_on_station, untouched_on_receiver, untouched_listed, untouched_picked, untouched_caught_up, untouched_weighed, untouched_on_tid, untouched_ceased}
use Rattle.wf_law_rules.proofs.Lemmas.Tables.{each_put, at_put_same, at_put_other}
use Rattle.wf_law_rules.proofs.Lemmas.Joined.{once_append, has_either, has_first, has_second}
use Rattle.wf_law_runs.proofs.Sessions.Flights.{AllIn, Rises, all_in_later, next-give}
use Rattle.wf_law_rules.proofs.Lemmas.Numbers.{Climbs, climbs_from, on_bool, on_if, lt_yes, lt_no, eq_yes, eq_no, yes_eq, not_eq, either, or_left, or_right, climbs_at}
use Rattle.wf_law_runs.proofs.Windows.Sides.{sided, Side, sides_of, Same, each_side_on, then_same, same_on_station, same_with_queues, same_on_queue, same_finish, same_finish_all, same_listed, same_after_pick, same_after_turn, same_spent, same_put_in, same_pay_queues, same_take, same_charged, same_picked, side, same_weighed, renewed, begun_is, ceased_is}
use Rattle.wf_law_runs.proofs.Windows.Agreement.{slot_give, slot_other, slot_same, next-on_slot}
use Rattle.wf_frame.specs.declared.classes.Fate.TheVariants.{Held, Dropped}
use Rattle.wf_frame.specs.declared.classes.Cause.TheVariants.{Codel as By_codel, Left, Overlimit, Flushed, Ended}
use Rattle.wf_law_runs.proofs.Releases.Kept.{Kept, kept_heard, kept_on_slot, kept_flush, keep_settled}
use Rattle.wf_law_runs.proofs.Frames.Delivered.{Labelled, labelled_kept, IsLabelled, labelled_step}
use Rattle.wf_law_runs.proofs.Windows.Settling.{without_same}
use Rattle.wf_law_runs.proofs.Releases.Released.{side_with_station, side_own_station}
use Rattle.wf_def_lists.specs.Lists.{IsOnce}
use Rattle.wf_law_runs.specs.Releases.{named_by, named_from}
use Rattle.wf_law_runs.proofs.Common.Picked.{picked_world}
use Rattle.wf_law_runs.proofs.Windows.Agreed.{IsLawful, IsReady, IsEnding, IsFound, found, ready_filled, ending_settled, ending_of, lawful_same, lawful_step, lawful_at_first, session_same, session_on_session, same_off_lists, AgreedAt, ending_all, lawful_emptied, not_no}
use Rattle.wf_law_runs.proofs.Frames.Fewer.{Ordered, carries, carries_from, Fewer, fewer_none, Less, then_less, less_plain, less_on_station, less_on_session, less_on_queue, less_with_queues, less_pay_queues, less_after_pick, less_after_turn, less_spent, less_listed, less_charged, fewer_tail, less_drop_all, less_purge_queues, less_finish, less_take, given_take, less_dequeued, queue_on, queues_dropped, right_dequeue, less_picked, less_on_receiver, less_weighed, less_on_tid}
use Rattle.wf_law_runs.proofs.Releases.Placed.{Queued, Numbered, Placing, Any, placed_less, placed_session, next-heard, queue_appended, less_put_in, less_with_frame, side_with_frame, less_with_station, less_off_lists, once_ids, has_ids, IsIdOf, placed_at_first, slot_new_id}
use Rattle.wf_law_runs.proofs.Releases.Once.{placed_number, placed_frames, placed_without, placed_gone, placed_joined, placed_step, placed_caught_up, placed_offloaded, placed_unagreed}
use Rattle.wf_def_lists.specs.Bounds.{greatest_window}

abbrev pub IsHeld : World → ℕ → Type 0
IsHeld w k = (frame w k).fate ≡ Held

-- A frame that is not held keeps its fate.
pub record Remains (w v : World) : Type 0 where
  pub remains : (k : ℕ) → IsHeld w k ⊎ ((frame v k).fate ≡ (frame w k).fate)

-- ids are the frames that were reaped. Together with the finished list they are exactly the accepted frames
-- with a fate other than Held, without repeats.
pub record IsFinishedRight (ids : List ℕ) (w : World) : Type 0 where
  pub once : IsOnce (ids ++ w.finished)
  pub settled : (k : ℕ) → has (ids ++ w.finished) k ≡ true → (k < accepted_count w) × (IsHeld w k → ⊥)
  pub every : (k : ℕ) → k < accepted_count w → (IsHeld w k → ⊥) → has (ids ++ w.finished) k ≡ true

-- The finished list stays right, with the same ids reaped.
abbrev pub KeepsRight : World → World → Type 0
KeepsRight w v = (ids : List ℕ) → IsFinishedRight ids w → IsFinishedRight ids v

-- The finished list stays right, and no frame is accepted or reaped. Only held frames get a fate, and each
-- goes on the finished list.
pub record Stays (w v : World) : Type 0 where
  pub right : KeepsRight w v
  pub stays : (k : ℕ) → IsHeld w k ⊎ ((frame v k).fate ≡ (frame w k).fate)
  pub accepted : accepted_count v ≡ accepted_count w
  pub inside : inside v ≡ inside w

-- P holds only for held frames.
pub record HeldOn (P : ℕ → Type 0) (w : World) : Type 0 where
  pub held : (k : ℕ) → P k → IsHeld w k

inside_same : (w v : World) → Untouched w v → inside v ≡ inside w
inside_same w v u = omega (
  arith,
  ap (λ (fs : List Frame). count_by (λ f. is_held f.fate) fs) u.frames,
  ap (length {A = ℕ}) u.finished,
)

fate_same : (w v : World) → v.frames ≡ w.frames → (k : ℕ) → (frame v k).fate ≡ (frame w k).fate
fate_same w v e k = ap (λ (fs : List Frame). (at no_frame fs k).fate) e

old_same : (w v : World) (k : ℕ) → Untouched w v → k < accepted_count w → k < accepted_count v
old_same w v k u h = omega (arith, h, ap (length {A = Frame}) u.frames)

right_same : (w v : World) → Untouched w v → KeepsRight w v
right_same w v u ids h = record {
  once = subst (λ (fs : List ℕ). IsOnce (ids ++ fs)) (sym u.finished) h.once;
  settled = λ k e. let m = h.settled k (ap (λ (fs : List ℕ). has (ids ++ fs) k) (sym u.finished) ∙ e) in
      (old_same w v k u m.0, (λ held. m.1 (sym (fate_same w v u.frames k) ∙ held)));
  every = λ k old other. ap (λ (fs : List ℕ). has (ids ++ fs) k) u.finished
      ∙ h.every k (omega (arith, old, ap (length {A = Frame}) u.frames))
      (λ held. other (fate_same w v u.frames k ∙ held));
}

stays_same : (w v : World) → Untouched w v → Stays w v
stays_same w v u = record {
  right = right_same w v u;
  stays = λ k. inr (fate_same w v u.frames k);
  accepted =
      ap (length {A = Frame}) u.frames;
  inside = inside_same w v u;
}

pub remains_same : (w v : World) → v.frames ≡ w.frames → Remains w v
remains_same w v e = record { remains = λ k. inr (fate_same w v e k) }

pub remains_of : (w v : World) → Stays w v → Remains w v
remains_of w v h = record { remains = h.stays }

pub then_remains : (u v w : World) → Remains u v → Remains v w → Remains u w
then_remains u v w h k = record {
  remains = λ n.
      elim (h.remains n) [
        | inl a ↦ inl a
        | inr b ↦
            elim (k.remains n) [ inl c ↦ inl (sym b ∙ c) | inr d ↦ inr (d ∙ b) ]
      ];
}

then_stays : (u v w : World) → Stays u v → Stays v w → Stays u w
then_stays u v w h k = record {
  right = λ ids a. k.right ids (h.right ids a);
  stays = (then_remains u v w (remains_of u v h) (remains_of v w k)).remains;
  accepted = k.accepted ∙ h.accepted;
  inside = k.inside ∙ h.inside;
}

held_frames : (P : ℕ → Type 0) (w v : World) → v.frames ≡ w.frames → HeldOn P w → HeldOn P v
held_frames P w v e h = record {
  held = λ k p. ap (λ (fs : List Frame). (at no_frame fs k).fate) e
      ∙ h.held k p;
}

held_less : (P Q : ℕ → Type 0) (w : World) → ((k : ℕ) → Q k → P k) → HeldOn P w → HeldOn Q w
held_less P Q w f h = record { held = λ k q. h.held k (f k q) }

abbrev as_one : Bool → ℕ
as_one b = if b then 1 else 0

inside_finish : (w : World) (fate : Fate) (id : ℕ) → id < accepted_count w → IsHeld w id →
    is_held fate ≡ false → inside (with_frame_finished w fate id) ≡ inside w
unfolding with_frame_finished with_fate
inside_finish w fate id old h settles =
    let sums = sum_put_within (λ (f : Frame). if is_held f.fate then 1 else 0) no_frame w.frames id
    (record (frame w id) { fate = fate }) old in
    let was : as_one (is_held (frame w id).fate) ≡ 1 = ap (λ (z : Fate). as_one (is_held z)) h in
    let is : as_one (is_held fate) ≡ 0 = ap as_one settles in
    omega (arith, sums, was, is, length-append w.finished (id ∷ []))

right_finish : (w : World) (fate : Fate) (id : ℕ) → id < accepted_count w → IsHeld w id →
    is_held fate ≡ false → KeepsRight w (with_frame_finished w fate id)
unfolding with_frame_finished with_fate
right_finish w fate id old h settles ids a =
    let listed : List ℕ = ids ++ w.finished in
    let longer : ids ++ (w.finished ++ id ∷ []) ≡ listed ++ id ∷ [] =
    sym (append_assoc ids w.finished (id ∷ [])) in
    let many : length (put no_frame w.frames id (record (frame w id) { fate = fate })) ≡ length w.frames =
    length_put no_frame w.frames id _ old in
    record {
      once = subst IsOnce (sym longer) (once_append listed (id ∷ []) a.once (refl, tt)
          (λ k e. on_bool (has listed k)
          (λ there. absurd ((a.settled k there).1 (subst (IsHeld w) (own k e) h)))
          (λ not_there. not_there)));
      settled = λ k e. elim (has_either listed (id ∷ []) k
          (ap (λ (xs : List ℕ). has xs k) (sym longer) ∙ e)) [
            | inl there ↦ (
              omega (arith, many, (a.settled k there).0),
              (λ held. (a.settled k there).1 (sym (other_fate k
                  (λ same. (a.settled k there).1 (subst (IsHeld w) same h))) ∙ held)),
            )
            | inr new ↦ (
              omega (arith, many, old, own k new),
              (λ held. absurd (cc (settles, ap is_held (sym (own_fate k (own k new)) ∙ held)))),
            )
          ];
      every = λ k below other. ap (λ (xs : List ℕ). has xs k) longer ∙ on_bool (id == k)
          (λ same. has_second listed (id ∷ []) k (or_left (id == k) false same))
          (λ differs. has_first listed (id ∷ []) k (a.every k (omega (arith, below, many))
          (λ held. other (other_fate k (eq_no id k differs) ∙ held))));
    }
  where
    own : (k : ℕ) → has (id ∷ []) k ≡ true → id ≡ k
    own k e = elim (either (id == k) false e) [ inl same ↦ eq_yes id k same | inr none ↦ absurd (cc none) ]

    other_fate : (k : ℕ) → id ≢ k → (at no_frame (put no_frame w.frames id
        (record (frame w id) { fate = fate })) k).fate ≡ (frame w k).fate
    other_fate k ne = ap (λ (x : Frame). x.fate) (at_put_other no_frame w.frames id k _ ne)

    own_fate : (k : ℕ) → id ≡ k → (at no_frame (put no_frame w.frames id
        (record (frame w id) { fate = fate })) k).fate ≡ fate
    own_fate k e = ap (λ (j : ℕ). (at no_frame (put no_frame w.frames id
        (record (frame w id) { fate = fate })) j).fate) (sym e)
        ∙ ap (λ (x : Frame). x.fate) (at_put_same no_frame w.frames id _)

stays_finish : (w : World) (fate : Fate) (id : ℕ) → id < accepted_count w → IsHeld w id →
    is_held fate ≡ false → Stays w (with_frame_finished w fate id)
unfolding with_frame_finished with_fate
stays_finish w fate id old h settles = record {
  right = right_finish w fate id old h settles;
  stays = λ k. each_put (λ j x. j ≡ k → IsHeld w k ⊎ (x.fate ≡ (frame w k).fate)) no_frame w.frames id _
      (λ j e. inr (ap (λ (i : ℕ). (frame w i).fate) e)) (λ e. inl (subst (IsHeld w) e h)) k refl;
  accepted = length_put no_frame w.frames id _ old;
  inside = inside_finish w fate id old h settles;
}

held_finish : (P Q : ℕ → Type 0) (w : World) (fate : Fate) (id : ℕ) → HeldOn P w →
    ((k : ℕ) → Q k → P k × (k ≢ id)) → HeldOn Q (with_frame_finished w fate id)
unfolding with_frame_finished with_fate
held_finish P Q w fate id h f = record {
  held = λ k q. each_put (λ j x. j ≡ k → x.fate ≡ Held) no_frame w.frames id _
      (λ j e. ap (λ (i : ℕ). (frame w i).fate) e ∙ h.held k (f k q).0)
      (λ e. absurd ((f k q).1 (sym e))) k refl;
}

record Finished (Q : ℕ → Type 0) (w v : World) : Type 0 where
  stays : Stays w v
  held : HeldOn Q v

-- Several different held frames get a fate.
finish_ids : (ids : List ℕ) (P Q : ℕ → Type 0) (w : World) (fate : Fate) → is_held fate ≡ false → HeldOn P w →
    IsOnce ids → ((k : ℕ) → has ids k ≡ true → P k × (k < accepted_count w)) →
    ((k : ℕ) → Q k → P k × (has ids k ≡ false)) → Finished Q w (with_frames_finished w fate ids)
unfolding with_frames_finished
finish_ids [] P Q w fate settles h once own apart =
    record { stays = stays_same w w (untouched w); held = held_less P Q w (λ k q. (apart k q).0) h }
finish_ids (x ∷ xs) P Q w fate settles h once own apart =
    let first = own x (or_left (x == x) (has xs x) (yes_eq x x refl)) in
    let one : Stays w (with_frame_finished w fate x) =
    stays_finish w fate x first.1 (h.held x first.0) settles in
    let rest : Finished Q (with_frame_finished w fate x)
    (with_frames_finished (with_frame_finished w fate x) fate xs) =
    finish_ids xs (λ k. P k × (k ≢ x)) Q (with_frame_finished w fate x) fate settles
    (held_finish P (λ k. P k × (k ≢ x)) w fate x h (λ k q. q)) once.1
    (λ k e. let o = own k (or_right (x == k) (has xs k) e) in
    ((o.0, (λ d. cc (e, once.0, ap (has xs) d))), omega (arith, o.1, one.accepted)))
    (λ k q.
    let a = apart k q in
    let n = neither (x == k) (has xs k) a.1 in
    ((a.0, (λ d. cc (n.0, yes_eq x k (sym d)))), n.1))
    in
    record { stays = then_stays w _ _ one rest.stays; held = rest.held }
  where
    neither : (a b : Bool) → (a || b) ≡ false → (a ≡ false) × (b ≡ false)
    neither true b h = absurd (cc h)
    neither false b h = (refl, h)

-- ---- frames in queues and at unsettled numbers ("in hand")

pub record InQueue (w : World) (k : ℕ) : Type 0 where
  pub place : ℕ
  pub there : carries (queue w place).items k ≡ true

-- Number n of the session is not settled and carries frame k.
pub record Carries (y : Session) (k n : ℕ) : Type 0 where
  pub from : y.first ≤ n
  pub below : n < next_number y
  pub unsettled : is_settled (slot y n).state ≡ false
  pub id : (slot y n).id ≡ k

-- Number n of the session, settled or not, was assigned to frame k.
pub record Bears (y : Session) (k n : ℕ) : Type 0 where
  pub from : y.first ≤ n
  pub below : n < next_number y
  pub id : (slot y n).id ≡ k

pub bears_carried : (y : Session) (k n : ℕ) → Carries y k n → Bears y k n
bears_carried y k n c = record { from = c.from; below = c.below; id = c.id }

pub record AtSlot (w : World) (k : ℕ) : Type 0 where
  pub station : ℕ
  pub tid : ℕ
  pub number : ℕ
  pub slot_of : Carries (session w station tid) k number

abbrev pub InHand : World → ℕ → Type 0
InHand w k = InQueue w k ⊎ AtSlot w k

abbrev pub Fresh : World → Type 0
Fresh w = HeldOn (InHand w) w

in_queue_less : (w v : World) (k : ℕ) → Less Any w v → InQueue v k → InQueue w k
in_queue_less w v k h q = record { place = q.place; there = (h.queues q.place).has k q.there }

pub at_slot_same : (w v : World) (k : ℕ) → ((s t : ℕ) → session v s t ≡ session w s t) → AtSlot v k →
    AtSlot w k
at_slot_same w v k d a = record {
  station = a.station;
  tid = a.tid;
  number = a.number;
  slot_of =
      subst (λ (y : Session). Carries y k a.number) (d a.station a.tid) a.slot_of;
}

in_hand_less : (w v : World) (k : ℕ) → Less Any w v → ((s t : ℕ) → session v s t ≡ session w s t) →
    InHand v k → InHand w k
in_hand_less w v k h d i = elim i [
  | inl q ↦ inl (in_queue_less w v k h q)
  | inr a ↦
      inr (at_slot_same w v k d a)
]

fresh_calm : (w v : World) → Less Any w v → ((s t : ℕ) → session v s t ≡ session w s t) →
    v.frames ≡ w.frames → Fresh w → Fresh v
fresh_calm w v h d e f = held_frames (InHand v) w v e
    (held_less (InHand w) (InHand v) w (λ k i. in_hand_less w v k h d i) f)

-- Every unsettled number of z was unsettled in y, with the same id.
pub record Unsettles (y z : Session) : Type 0 where
  pub was : (k n : ℕ) → Carries z k n → Carries y k n

at_slot_on : (w : World) (s t : ℕ) (f : Session → Session) (k : ℕ) (P : Type 0) →
    ((i j n : ℕ) → Carries (session w i j) k n → P) → ((n : ℕ) → Carries (f (session w s t)) k n → P) →
    AtSlot (on_session w s t f) k → P
unfolding on_session
at_slot_on w s t f k P old new a = each_side_on (λ i j b. (n : ℕ) → Carries b.session k n → P) w s t
    (λ y. record y { session = f y.session }) (λ i j n c. old i j n c) new a.station a.tid a.number a.slot_of

in_hand_session : (w : World) (s t : ℕ) (f : Session → Session) →
    Unsettles (session w s t) (f (session w s t)) → (k : ℕ) → InHand (on_session w s t f) k → InHand w k
in_hand_session w s t f u k i = elim i [
  | inl q ↦ inl (in_queue_less w _ k (less_on_session Any w s t f) q)
  | inr a ↦ inr (at_slot_on w s t f k (AtSlot w k)
      (λ i j n c. record { station = i; tid = j; number = n; slot_of = c })
      (λ n c. record { station = s; tid = t; number = n; slot_of = u.was k n c }) a)
]

fresh_session : (w : World) (s t : ℕ) (f : Session → Session) →
    Unsettles (session w s t) (f (session w s t)) → Fresh w → Fresh (on_session w s t f)
fresh_session w s t f u h = held_frames (InHand (on_session w s t f)) w _
    (untouched_on_session w s t f).frames (held_less (InHand w) (InHand (on_session w s t f)) w
    (λ k i. in_hand_session w s t f u k i) h)

pub unsettles_on_slot : (y : Session) (m : ℕ) (f : Slot → Slot) → y.first ≤ m →
    is_settled (slot y m).state ≡ false → ((x : Slot) → (f x).id ≡ x.id) → Unsettles y (on_slot m f y)
unsettles_on_slot y m f l h same_id = record {
  was = λ k n c. on_bool (m == n)
      (λ own.
      let e : m ≡ n = eq_yes m n own in
      record {
        from = c.from;
        below = omega (arith, c.below, next-on_slot y m f h);
        unsettled = ap (λ (i : ℕ). is_settled (slot y i).state) (sym e) ∙ h;
        id = ap (λ (i : ℕ). (slot y i).id) (sym e) ∙ sym (same_id (slot y m))
            ∙ ap (λ (x : Slot). x.id) (sym (slot_same y m f)) ∙ ap (λ (i : ℕ). (slot (on_slot m f y) i).id) e
            ∙ c.id;
      })
      (λ other.
      let d : slot (on_slot m f y) n ≡ slot y n = slot_other y m n f l c.from (eq_no m n other) in
      record {
        from = c.from;
        below = omega (arith, c.below, next-on_slot y m f h);
        unsettled = ap (λ (x : Slot). is_settled x.state) (sym d) ∙ c.unsettled;
        id = ap (λ (x : Slot). x.id) (sym d) ∙ c.id;
      });
}

pub unsettles_refl : (y : Session) → Unsettles y y
unsettles_refl y = record { was = λ k n c. c }

pub then_unsettles : (x y z : Session) → Unsettles x y → Unsettles y z → Unsettles x z
then_unsettles x y z h k = record { was = λ i n c. h.was i n (k.was i n c) }

pub unsettles_fly : (ms : List Mpdu) (y : Session) (e lo hi : ℕ) → y.first ≤ lo → Rises lo hi ms →
    AllIn y State.Waiting ms → Unsettles y (with_flying e ms y)
unsettles_fly [] y e lo hi b r a = unsettles_refl y
unsettles_fly (m ∷ ms) y e lo hi b r a =
    let f : Slot → Slot = λ x. record x { state = State.Flying e } in
    then_unsettles y (on_slot m.number f y) _ (unsettles_on_slot y m.number f (omega (arith, r.0))
    (ap is_settled a.0) (λ x. refl))
    (unsettles_fly ms (on_slot m.number f y) e (suc m.number) hi (omega (arith, r.0)) r.2
    (all_in_later y State.Waiting m.number hi f ms (omega (arith, r.0)) r.2 a.1))

pub unsettles_heard : (b : Bool) (f : ℕ) (y : Session) → Unsettles y (with_heard_start b f y)
unsettles_heard true f y = record {
  was = λ k n c.
      record { from = c.from; below = c.below; unsettled = c.unsettled; id = c.id };
}
unsettles_heard false f y = unsettles_refl y

-- A TID whose agreement begins or ends keeps its unsettled numbers.
unsettles_renewed : (start size : ℕ) (mode : Mode) (y : Tid) →
    Unsettles y.session (renewed start size mode y).session
unsettles_renewed start size mode y = record {
  was = λ k n c. record { from = c.from; below = c.below; unsettled = c.unsettled; id = c.id };
}

-- ---- the frames that a dequeue drops

abbrev pub ids_in : List Item → List ℕ
ids_in xs = map (λ x. x.id) xs

pub record IsDroppedRight (ys : List Item) (d : Dequeued) : Type 0 where
  pub once : IsOnce (ids_in d.dropped)
  pub there : (k : ℕ) → has (ids_in d.dropped) k ≡ true → carries ys k ≡ true
  pub gone : (k : ℕ) → has (ids_in d.dropped) k ≡ true → carries d.rest k ≡ false
  pub rest : (k : ℕ) → carries d.rest k ≡ true → carries ys k ≡ true
  pub given : IfSome d.given (λ x. (has (ids_in d.dropped) x.id ≡ false) × (carries ys x.id ≡ true))

dropped_none : (c : Codel) → IsDroppedRight [] (giving c [])
dropped_none c = record {
  once = tt;
  there = λ k h. absurd (cc h);
  gone = λ k h. absurd (cc h);
  rest =
      λ k h. h;
  given = tt;
}

dropped_head : (x : Item) (xs : List Item) (c : Codel) → IsDroppedRight (x ∷ xs) (giving c (x ∷ xs))
dropped_head x xs c = record {
  once = tt;
  there = λ k h. absurd (cc h);
  gone = λ k h. absurd (cc h);
  rest =
      λ k h. or_right (x.id == k) (carries xs k) h;
  given =
      (refl, or_left (x.id == x.id) (carries xs x.id) (yes_eq x.id x.id refl));
}

given_front : (o : Option Item) (x : Item) (xs : List Item) (ds : List ℕ) → Ordered (suc x.id) xs →
    IfSome o (λ z. (has ds z.id ≡ false) × (carries xs z.id ≡ true)) →
    IfSome o (λ z. (has (x.id ∷ ds) z.id ≡ false) × (carries (x ∷ xs) z.id ≡ true))
given_front None x xs ds o h = tt
given_front (Some z) x xs ds o h =
    let ne : x.id ≢ z.id = omega (arith, carries_from xs (suc x.id) z.id o h.1) in (
      ap (λ (b : Bool). b || has ds z.id) (not_eq x.id z.id ne) ∙ h.0,
      or_right (x.id == z.id) (carries xs z.id) h.1,
    )

dropped_first : (x : Item) (xs : List Item) (d : Dequeued) → Ordered (suc x.id) xs → IsDroppedRight xs d →
    IsDroppedRight (x ∷ xs) (dropping_first x d)
dropped_first x xs d o h = record {
  once = (
    on_bool (has (ids_in d.dropped) x.id)
        (λ e. absurd (omega (arith, carries_from xs (suc x.id) x.id o (h.there x.id e)))) (λ e. e),
    h.once,
  );
  there = λ k e. elim (either (x.id == k) (has (ids_in d.dropped) k) e) [
    | inl a ↦
        or_left (x.id == k) (carries xs k) a
    | inr b ↦ or_right (x.id == k) (carries xs k) (h.there k b)
  ];
  gone = λ k e. elim (either (x.id == k) (has (ids_in d.dropped) k) e) [
    | inl a ↦ on_bool (carries d.rest k) (λ c. absurd
        (let same_id : x.id ≡ k = eq_yes x.id k a in
        omega (arith, same_id, carries_from xs (suc x.id) k o (h.rest k c)))) (λ c. c)
    | inr b ↦ h.gone k b
  ];
  rest = λ k e. or_right (x.id == k) (carries xs k) (h.rest k e);
  given = given_front d.given x xs (ids_in d.dropped) o h.given;
}

-- The ids of the queue increase, from some number on.
abbrev IsDroppedInOrder : List Item → Dequeued → Type 0
IsDroppedInOrder ys d = (lo : ℕ) → Ordered lo ys → IsDroppedRight ys d

pub dropped_dequeue : (xs : List Item) (p : Params) (now : ℕ) (c : Codel) (lo : ℕ) → Ordered lo xs →
    IsDroppedRight xs (dequeue p now c xs)
dropped_dequeue xs p now c lo o =
    each_dequeue IsDroppedInOrder (λ c lo o. dropped_none c) (λ x xs c lo o. dropped_head x xs c)
    (λ x xs d h lo o. dropped_first x xs d o.1 (h (suc x.id) o.1)) xs p now c lo o

-- ---- a take, and the number of the frame

abbrev pub IsGivenId : Option Item → ℕ → Type 0
IsGivenId None k = ⊥
IsGivenId (Some x) k = k ≡ x.id

given_of : (o : Option Item) (ys : List Item) (ds : List ℕ) (k : ℕ) →
    IfSome o (λ x. (has ds x.id ≡ false) × (carries ys x.id ≡ true)) → IsGivenId o k → (has ds k ≡ false) ×
    (carries ys k ≡ true)
given_of None ys ds k h g = absurd g
given_of (Some x) ys ds k h g = (ap (has ds) g ∙ h.0, ap (carries ys) g ∙ h.1)

pub session_on_queue : (w : World) (q : ℕ) (f : Queue → Queue) (s t : ℕ) →
    session (on_queue w q f) s t ≡ session w s t
unfolding on_queue
session_on_queue w q f s t = refl

-- A frame in hand is in no place except its home.
in_place : (l : List ℕ) (w v : World) (p : Placing l w) (q k : ℕ) → Less Any w v →
    ((s t : ℕ) → session v s t ≡ session w s t) → carries (queue w q).items k ≡ true →
    carries (queue v q).items k ≡ false → InHand v k → ⊥
in_place l w v p q k h d there gone i = elim i [
  | inl c ↦ (
      let a : p.home k ≡ Queued q = (p.queued q k there).place in
      let b : p.home k ≡ Queued c.place = (p.queued c.place k ((h.queues c.place).has k c.there)).place in
      let e : c.place ≡ q = cc (a, b) in
      cc (gone, subst (λ (j : ℕ). carries (queue v j).items k ≡ true) e c.there))
  | inr c ↦ (
      let o : Carries (session w c.station c.tid) k c.number =
      subst (λ (y : Session). Carries y k c.number) (d c.station c.tid) c.slot_of in
      let a : p.home k ≡ Queued q = (p.queued q k there).place in
      let b : p.home (slot (session w c.station c.tid) c.number).id ≡ Numbered c.station c.tid c.number =
      (p.numbered c.station c.tid c.number o.from o.below).place in
      cc (a, b, ap p.home o.id))
]

-- The invariant after a call: places, held frames in hand, and fates.
pub record Safe (l : List ℕ) (w v : World) : Type 0 where
  pub placing : Placing l v
  pub fresh : Fresh v
  pub stays : Stays w v

then_safe : (l : List ℕ) (u v w : World) → Stays u v → Safe l v w → Safe l u w
then_safe l u v w h k = record { placing = k.placing; fresh = k.fresh; stays = then_stays u v w h k.stays }

safe_here : (l : List ℕ) (w : World) → Placing l w → Fresh w → Safe l w w
safe_here l w p h = record { placing = p; fresh = h; stays = stays_same w w (untouched w) }

pub safe_calm : (l : List ℕ) (w v : World) → Less Any w v → Same w v → Untouched w v → Placing l w → Fresh w →
    Safe l w v
safe_calm l w v h k e p f = record {
  placing = placed_less l w v h k.sides p;
  fresh =
      fresh_calm w v h (session_same w v k) e.frames f;
  stays = stays_same w v e;
}

same_taken_from_some : (w : World) (q : ℕ) (d : Dequeued) → Same w (taken_by_codel w q d).world
unfolding taken_by_codel
same_taken_from_some w q d = then_same _ _ _ (same_on_queue w q _) (same_finish_all _ _ _)

safe_dequeued : (l : List ℕ) (w : World) (q : ℕ) (d : Dequeued) → Placing l w →
    IsDroppedRight (queue w q).items d → Less Any w (taken_by_codel w q d).world →
    Same w (taken_by_codel w q d).world → Fresh w →
    Finished (λ k. InHand (taken_by_codel w q d).world k ⊎ IsGivenId d.given k) w (taken_by_codel w q d).world
unfolding taken_by_codel
safe_dequeued l w q d p right h same_sides f =
    let g : Queue → Queue = λ y. record {
      items = d.rest;
      deficit = y.deficit -ℤ pos (len_given d.given);
      codel = d.state;
    } in
    let u : World = on_queue w q g in
    let v : World = with_frames_finished u (Dropped By_codel) (map (λ x. x.id) d.dropped) in
    let items : (queue v q).items ≡ d.rest = ap (λ (qs : List Queue). (at new_queue qs q).items)
    (queues_dropped (map (λ x. x.id) d.dropped) u (Dropped By_codel))
    ∙ ap (λ (y : Queue). y.items) (queue_on w q g) in
    let r : Finished (λ k. InHand v k ⊎ IsGivenId d.given k) u v =
    finish_ids (ids_in d.dropped) (InHand w) (λ k. InHand v k ⊎ IsGivenId d.given k) u (Dropped By_codel) refl
    (held_frames (InHand w) w u (untouched_on_queue w q g).frames f) right.once
    (λ k e. (
      inl (record { place = q; there = right.there k e }),
      old_same w u k (untouched_on_queue w q g) (p.queued q k (right.there k e)).old,
    ))
    (λ k i. elim i [
      | inl c ↦ (
        in_hand_less w v k h (session_same w v same_sides) c,
        on_bool (has (ids_in d.dropped) k) (λ e. absurd
            (in_place l w v p q k h (session_same w v same_sides) (right.there k e)
            (ap (λ (ys : List Item). carries ys k) items ∙ right.gone k e) c)) (λ e. e),
      )
      | inr c ↦ (let a = given_of d.given (queue w q).items (ids_in d.dropped) k right.given c in
          (inl (record { place = q; there = a.1 }), a.0))
    ])
    in
    record { stays = then_stays w u v (stays_same w u (untouched_on_queue w q g)) r.stays; held = r.held }

pub given_dequeued-is : (w : World) (q : ℕ) (d : Dequeued) → (taken_by_codel w q d).item ≡ d.given
unfolding taken_by_codel
given_dequeued-is w q d = refl

safe_taken_from : (o : Option ℕ) (l : List ℕ) (w : World) (s : ℕ) → Placing l w → Fresh w →
    Finished (λ k. InHand (taken_from_picked w s o).world k ⊎ IsGivenId (taken_from_picked w s o).item k) w
    (taken_from_picked w s o).world
unfolding taken_from_picked
safe_taken_from None l w s p f = record {
  stays = stays_same w w (untouched w);
  held =
      record { held = λ k i. elim i [ inl a ↦ f.held k a | inr b ↦ absurd b ] };
}
safe_taken_from (Some q) l w s p f =
    let d : Dequeued = dequeue (codel_params w s) w.clock (queue w q).codel (queue w q).items in
    subst (λ (o : Option Item). Finished (λ k. InHand (taken_by_codel w q d).world k ⊎ IsGivenId o k) w
    (taken_by_codel w q d).world) (sym (given_dequeued-is w q d))
    (safe_dequeued l w q d p (dropped_dequeue (queue w q).items (codel_params w s) w.clock (queue w q).codel 0
    (p.ordered q)) (less_dequeued Any w q d (right_dequeue (queue w q).items (codel_params w s) w.clock
    (queue w q).codel)) (same_taken_from_some w q d) f)

safe_take : (l : List ℕ) (w : World) (s t : ℕ) → Placing l w → Fresh w →
    Finished (λ k. InHand (taken_for_tid w s t).world k ⊎ IsGivenId (taken_for_tid w s t).item k) w
    (taken_for_tid w s t).world
unfolding taken_for_tid
safe_take l w s t p f =
    let ks : List ℕ = in_order (tid_of w s t).queues in
    let a : World = with_queues_paid w (picked_queue w s t).quanta ks in
    let u : World = with_queues a s t (picked_queue w s t).lists in
    let h : Less Any w u = then_less Any w a u (less_pay_queues Any ks w _) (less_with_queues Any a s t _) in
    let k : Same w u = then_same w a u (same_pay_queues ks w _) (same_with_queues a s t _) in
    let e : Untouched w u = then_untouched w a u (untouched_pay_queues ks w _)
    (untouched_with_queues a s t _) in
    let b : Safe l w u = safe_calm l w u h k e p f in
    let r = safe_taken_from (picked_queue w s t).winner l u s b.placing b.fresh in
    record { stays = then_stays w u _ b.stays r.stays; held = r.held }

fresh_give : (w : World) (s t id : ℕ) → HeldOn (λ k. InHand w k ⊎ (k ≡ id)) w →
    Fresh (on_session w s t (λ y. with_number_given y id))
fresh_give w s t id h =
    let y : Session = session w s t in
    held_frames (InHand (on_session w s t (λ y. with_number_given y id))) w _
    (untouched_on_session w s t _).frames (held_less (λ k. InHand w k ⊎ (k ≡ id))
    (InHand (on_session w s t (λ y. with_number_given y id))) w (λ k i. elim i [
      | inl q ↦ inl (inl (in_queue_less w _ k (less_on_session Any w s t _) q))
      | inr a ↦ at_slot_on w s t (λ y. with_number_given y id) k (InHand w k ⊎ (k ≡ id))
          (λ i j n c. inl (inr (record { station = i; tid = j; number = n; slot_of = c })))
          (λ n c. on_bool (nat_lt n (next_number y))
          (λ b.
          let d : slot (with_number_given y id) n ≡ slot y n =
          slot_give y id n c.from (lt_yes n (next_number y) b) in
          inl (inr (record {
            station = s;
            tid = t;
            number = n;
            slot_of =
                record {
                  from = c.from;
                  below = lt_yes n (next_number y) b;
                  unsettled =
                      ap (λ (x : Slot). is_settled x.state) (sym d) ∙ c.unsettled;
                  id =
                      ap (λ (x : Slot). x.id) (sym d) ∙ c.id;
                };
          })))
          (λ b. let here : n ≡ next_number y = omega (
            arith,
            next-give y id,
            c.below,
            lt_no n (next_number y) b,
          ) in inr (sym c.id ∙ slot_new_id y id n here))) a
    ]) h)

fresh_number : (o : Option Item) (w : World) (s t : ℕ) → HeldOn (λ k. InHand w k ⊎ IsGivenId o k) w →
    Fresh (with_number w s t o)
unfolding with_number
fresh_number None w s t h = record { held = λ k i. h.held k (inl i) }
fresh_number (Some x) w s t h = fresh_give w s t x.id h

stays_number : (o : Option Item) (w : World) (s t : ℕ) → Stays w (with_number w s t o)
unfolding with_number
stays_number None w s t = stays_same w w (untouched w)
stays_number (Some x) w s t = stays_same w _ (untouched_on_session w s t _)

pub safe_numbered : (l : List ℕ) (w : World) (s t : ℕ) → Placing l w → Fresh w →
    Safe l w (with_number (taken_for_tid w s t).world s t (taken_for_tid w s t).item)
safe_numbered l w s t p f =
    let r = safe_take l w s t p f in
    record {
      placing = placed_number (taken_for_tid w s t).item l w (taken_for_tid w s t).world s t (same_take w s t)
          (less_take Any w s t) (given_take w s t) p;
      fresh = fresh_number (taken_for_tid w s t).item (taken_for_tid w s t).world s t r.held;
      stays = then_stays w _ _ r.stays (stays_number (taken_for_tid w s t).item
          (taken_for_tid w s t).world s t);
    }

safe_filled_if : (b : Bool) (l : List ℕ) (w : World) (x y : Aggregate) → Safe l w x.world → Safe l w y.world →
    Safe l w (if b then x else y).world
safe_filled_if true l w x y h k = h
safe_filled_if false l w x y h k = k

safe_fresh : (n : ℕ) (l : List ℕ) (w : World) (s t : ℕ) (ms : List Mpdu) → Placing l w → Fresh w →
    Safe l w (with_fresh n w s t ms).world
unfolding with_fresh
safe_fresh zero l w s t ms p f = safe_here l w p f
safe_fresh (suc n) l w s t ms p f =
    let numbered : Safe l w (with_number (taken_for_tid w s t).world s t (taken_for_tid w s t).item) =
    safe_numbered l w s t p f in
    safe_filled_if (not (can_give w s t)) l w _ _ (safe_here l w p f)
    (safe_filled_if _ l w _ _ (then_safe l w _ _ numbered.stays
    (safe_fresh n l _ s t _ numbered.placing numbered.fresh)) numbered)

safe_filled : (l : List ℕ) (w : World) (s t : ℕ) → Placing l w → Fresh w → Safe l w (aggregate_of w s t).world
unfolding aggregate_of
safe_filled l w s t p f =
    let chosen : List Mpdu = longest_fitting w s (waiting_mpdus w s t) in
    safe_filled_if (length chosen == length (waiting_mpdus w s t)) l w
    (with_fresh (most_frames w s - length chosen) w s t chosen) (record { world = w; mpdus = chosen })
    (safe_fresh (most_frames w s - length chosen) l w s t chosen p f) (safe_here l w p f)

frames_fresh : (s t : ℕ) (f : Aggregate) → Fresh
    (on_session f.world s t (with_flying f.world.exchanges f.mpdus)) → Fresh (prepared_data s t f).world
unfolding prepared_data
frames_fresh s t f h = h

frames_stays : (s t : ℕ) (f : Aggregate) → Stays f.world (prepared_data s t f).world
unfolding prepared_data
frames_stays s t f = stays_same f.world _ (untouched_on_session f.world s t _)

safe_frames : (l : List ℕ) (w : World) (s t : ℕ) (f : Aggregate) → IsReady s t f.world f.mpdus →
    Safe l w f.world → Safe l w (prepared_data s t f).world
safe_frames l w s t f r k =
    let y : Session = session f.world s t in
    record {
      placing = placed_frames l s t f r k.placing;
      fresh = frames_fresh s t f (fresh_session f.world s t (with_flying f.world.exchanges f.mpdus)
          (unsettles_fly f.mpdus y f.world.exchanges y.first (next_number y)
          (omega arith) r.chosen.rising r.chosen.waiting) k.fresh);
      stays = then_stays w f.world _ k.stays (frames_stays s t f);
    }

safe_prepared_if : (b : Bool) (l : List ℕ) (w : World) (x y : Prepared) → Safe l w x.world →
    (b ≡ false → Safe l w y.world) → Safe l w (if b then x else y).world
safe_prepared_if true l w x y h k = h
safe_prepared_if false l w x y h k = k refl

safe_prepared : (l : List ℕ) (w : World) (s t : ℕ) → IsLawful w → is_live w s ≡ true → Placing l w → Fresh w →
    Safe l w (prepared_exchange w s t).world
unfolding prepared_exchange
safe_prepared l w s t i live p f = safe_prepared_if (request_due (session w s t)) l w _ _ (safe_here l w p f)
    (λ quiet. safe_frames l w s t (aggregate_of w s t) (ready_filled w s t i live quiet)
    (safe_filled l w s t p f))

safe_sent : (l : List ℕ) (w : World) (s t : ℕ) (c : Class) (q : Prepared) → Safe l w q.world →
    Safe l w (send_outcome s t c q).world
unfolding send_outcome with_exchange_opened
safe_sent l w s t c q k =
    let x : Exchange = exchange_of s t c q in
    let u : World = record q.world { exchanges = q.world.exchanges + 1; opened = q.world.opened ++ x ∷ [] } in
    let a : Placing l u = placed_less l q.world u (less_plain Any q.world u refl refl)
    (λ i j. refl) k.placing in
    let b : Fresh u = fresh_calm q.world u (less_plain Any q.world u refl refl) (λ i j. refl) refl k.fresh in
    then_safe l w u _ (then_stays w q.world u k.stays
    (stays_same q.world u (record { frames = refl; finished = refl })))
    (safe_calm l u (with_spent u x) (less_spent Any u x) (same_spent u x) (untouched_spent u x) a b)

safe_pulled_by : (o : Option ℕ) (l : List ℕ) (w : World) (c : Class) → IfSome o (λ s. is_live w s ≡ true) →
    IsLawful w → Placing l w → Fresh w → Safe l w (pull_outcome_for w c o).world
unfolding pull_outcome_for
safe_pulled_by None l w c live i p f = safe_here l w p f
safe_pulled_by (Some s) l w c live i p f =
    let v : World = after_tid_turn w s c (sending_tid w s c) in
    let k : Same w v = same_after_turn w s c (sending_tid w s c) in
    let a : Safe l w v = safe_calm l w v (less_after_turn Any w s c _) k (untouched_after_turn w s c _) p f in
    safe_sent l w s _ c _ (then_safe l w v _ a.stays
    (safe_prepared l v s _ (lawful_same _ _ k i) (k.live s ∙ live) a.placing a.fresh))

safe_pulled : (l : List ℕ) (w : World) (c : Class) (limits : Limits) → IsLawful w → Placing l w → Fresh w →
    Safe l w (pull_outcome w c limits).world
unfolding pull_outcome
safe_pulled l w c limits i p f =
    let v : World = picked_world w c limits in
    let k : Same w v = same_picked w c limits in
    let a : Safe l w v = safe_calm l w v (less_picked Any w c limits) k (untouched_picked w c limits) p f in
    then_safe l w v _ a.stays (safe_pulled_by (picked_station w c).winner l v c
    (some_along (λ s. is_ready w c s ≡ true) (λ s. is_live v s ≡ true) (picked_station w c).winner
    (λ s h. k.live s ∙ left_true (is_live w s) _ h)
    (pick_ready (station_need w c) (is_ready w c) (rotation w c)))
    (lawful_same _ _ k i) a.placing a.fresh)

-- ---- the end of an exchange

-- The frame of a settled number is not in hand.
settled_not_in_hand : (l : List ℕ) (w : World) (p : Placing l w) (s t n id : ℕ) → (session w s t).first ≤ n →
    n < next_number (session w s t) → (slot (session w s t) n).id ≡ id →
    is_settled (slot (session w s t) n).state ≡ true → InHand w id → ⊥
settled_not_in_hand l w p s t n id from below e settled i =
    let own : p.home (slot (session w s t) n).id ≡ Numbered s t n = (p.numbered s t n from below).place in
    elim i [
      | inl q ↦ (let b : p.home id ≡ Queued q.place = (p.queued q.place id q.there).place in
          cc (own, b, ap p.home e))
      | inr a ↦ (
          let c : Carries (session w a.station a.tid) id a.number = a.slot_of in
          let b : p.home (slot (session w a.station a.tid) a.number).id ≡ Numbered a.station a.tid a.number =
          (p.numbered a.station a.tid a.number c.from c.below).place in
          let es : a.station ≡ s = cc (own, b, ap p.home e, ap p.home c.id) in
          let et : a.tid ≡ t = cc (own, b, ap p.home e, ap p.home c.id) in
          let en : a.number ≡ n = cc (own, b, ap p.home e, ap p.home c.id) in
          let u : is_settled (slot (session w s t) n).state ≡ false =
          subst (λ (i : ℕ). is_settled (slot (session w i t) n).state ≡ false) es
          (subst (λ (j : ℕ). is_settled (slot (session w a.station j) n).state ≡ false) et
          (subst (λ (m : ℕ). is_settled (slot (session w a.station a.tid) m).state ≡ false) en
          c.unsettled)) in
          cc (u, settled))
    ]

-- A number was settled just now, and its frame gets its fate.
safe_finish : (l : List ℕ) (w : World) (s t n id : ℕ) (fate : Fate) → is_held fate ≡ false → Placing l w →
    Fresh w → IsHeld w id → (session w s t).first ≤ n → n < next_number (session w s t) →
    (slot (session w s t) n).id ≡ id → is_settled (slot (session w s t) n).state ≡ true →
    Safe l w (with_frame_finished w fate id)
safe_finish l w s t n id fate settles p f held from below e settled =
    let v : World = with_frame_finished w fate id in
    let k : Same w v = same_finish w fate id in
    let h : Less Any w v = less_finish Any w fate id (λ _. tt) in
    record {
      placing = placed_less l w v h k.sides p;
      fresh = held_finish (InHand w) (InHand v) w fate id f (λ i c.
          let a : InHand w i = in_hand_less w v i h (session_same w v k) c in
          (a, (λ d. settled_not_in_hand l w p s t n id from below e settled (subst (InHand w) d a))));
      stays = stays_finish w fate id (subst (λ (k : ℕ). k < accepted_count w) e
          (p.numbered s t n from below).old) held settles;
    }

safe_if : (b : Bool) (l : List ℕ) (w u v : World) → (b ≡ true → Safe l w u) → (b ≡ false → Safe l w v) →
    Safe l w (if b then u else v)
safe_if true l w u v h k = h refl
safe_if false l w u v h k = k refl

pub failed_settled : (st : State) → is_failed st ≡ true → is_settled st ≡ true
failed_settled State.Waiting h = absurd (cc h)
failed_settled (State.Flying e) h = absurd (cc h)
failed_settled State.Acked h = refl
failed_settled State.Failed h = refl

-- One number is no longer on the air. v is the world in which it has its new state.
record IsStopped (l : List ℕ) (w v : World) (s t : ℕ) (m : Mpdu) (f : Slot → Slot) : Type 0 where
  safe : Safe l w v
  held : IsHeld v m.id
  from : (session v s t).first ≤ m.number
  below : m.number < next_number (session v s t)
  id : (slot (session v s t) m.number).id ≡ m.id
  state : (slot (session v s t) m.number).state ≡ (f (slot (session w s t) m.number)).state

stopped : (l : List ℕ) (e s t : ℕ) (ends : ℕ → End) (w : World) (m : Mpdu) (ms : List Mpdu)
    (f : Slot → Slot) → ((x : Slot) → (f x).id ≡ x.id) → IsEnding e s t ends w (m ∷ ms) →
    (slot (session w s t) m.number).id ≡ m.id → Placing l w → Fresh w →
    IsStopped l w (on_session w s t (on_slot m.number f)) s t m f
stopped l e s t ends w m ms f same_id n own p h =
    let y : Session = session w s t in
    let z : Session = on_slot m.number f y in
    let v : World = on_session w s t (on_slot m.number f) in
    let from : y.first ≤ m.number = n.flies.rising.0 in
    let below : m.number < next_number y = n.flies.rising.1 in
    let unsettled : is_settled (slot y m.number).state ≡ false = ap is_settled n.flies.flying.0 in
    let d : session v s t ≡ z = session_on_session w s t (on_slot m.number f) n.live in
    let calm : Untouched w v = untouched_on_session w s t _ in
    let next : next_number z ≡ next_number y = next-on_slot y m.number f unsettled in
    record {
      safe = record {
        placing = placed_session l w s t (on_slot m.number f) (kept_on_slot y m.number f same_id) next p;
        fresh = fresh_session w s t (on_slot m.number f)
            (unsettles_on_slot y m.number f from unsettled same_id) h;
        stays = stays_same w v calm;
      };
      held = fate_same w v calm.frames m.id ∙ h.held m.id
          (inr (record {
            station = s;
            tid = t;
            number = m.number;
            slot_of =
                record { from = from; below = below; unsettled = unsettled; id = own };
          }));
      from = omega (arith, from, ap (λ (u : Session). u.first) d);
      below = omega (arith, below, next, ap next_number d);
      id = ap (λ (u : Session). (slot u m.number).id) d ∙ ap (λ (x : Slot). x.id) (slot_same y m.number f)
          ∙ same_id (slot y m.number) ∙ own;
      state = ap (λ (u : Session). (slot u m.number).state) d
          ∙ ap (λ (x : Slot). x.state) (slot_same y m.number f);
    }

safe_failing : (l : List ℕ) (e s t : ℕ) (ends : ℕ → End) (w : World) (m : Mpdu) (ms : List Mpdu)
    (f : Slot → Slot) → ((x : Slot) → (f x).id ≡ x.id) → IsEnding e s t ends w (m ∷ ms) →
    (slot (session w s t) m.number).id ≡ m.id → Placing l w → Fresh w →
    Safe l w (with_failed_finished (on_session w s t (on_slot m.number f)) s t m)
unfolding with_failed_finished
safe_failing l e s t ends w m ms f same_id n own p h =
    let v : World = on_session w s t (on_slot m.number f) in
    let k : IsStopped l w v s t m f = stopped l e s t ends w m ms f same_id n own p h in
    safe_if (is_failed (slot (session v s t) m.number).state) l w _ v
    (λ b. then_safe l w v _ k.safe.stays (safe_finish l v s t m.number m.id _ refl k.safe.placing k.safe.fresh
    k.held k.from k.below k.id (failed_settled _ b)))
    (λ _. k.safe)

pub safe_settled : (end : End) (l : List ℕ) (e s t : ℕ) (ends : ℕ → End) (w : World) (m : Mpdu)
    (ms : List Mpdu) → IsEnding e s t ends w (m ∷ ms) → (slot (session w s t) m.number).id ≡ m.id →
    Placing l w → Fresh w → Safe l w (with_settled w s t end m)
unfolding with_settled
safe_settled end l e s t ends w m ms n own p h =
    on_settled (Safe l w) end w s t m
    (λ _.
    let v : World = on_session w s t (with_state State.Acked m.number) in
    let k : IsStopped l w v s t m (λ x. record x { state = State.Acked }) =
    stopped l e s t ends w m ms (λ x. record x { state = State.Acked }) (λ x. refl) n own p h in
    then_safe l w v _ k.safe.stays (safe_finish l v s t m.number m.id _ refl k.safe.placing k.safe.fresh
    k.held k.from k.below k.id (ap is_settled k.state)))
    (λ _. safe_failing l e s t ends w m ms (slot_after_end w.config.attempts end)
    (λ x. end_id w.config.attempts end x) n own p h)

safe_all : (ms : List Mpdu) (l : List ℕ) (e s t : ℕ) (ends : ℕ → End) (w : World) →
    IsEnding e s t ends w ms → Labelled (session w s t) ms → Placing l w → Fresh w →
    Safe l w (with_all_settled w s t ends ms)
unfolding with_all_settled
safe_all [] l e s t ends w n a p h = safe_here l w p h
safe_all (m ∷ ms) l e s t ends w n a p h =
    let v : World = with_settled w s t (ends m.number) m in
    let k : Safe l w v = safe_settled (ends m.number) l e s t ends w m ms n a.0 p h in
    let kept : Kept w v = keep_settled (ends m.number) w s t m in
    then_safe l w v _ k.stays (safe_all ms l e s t ends v
    (ending_settled (ends m.number) e s t ends w m ms refl n)
    (labelled_kept ms (session w s t) (session v s t) (suc m.number) (kept.sessions s t)
    (omega (arith, n.flies.rising.0)) n.flies.rising.2 a.1) k.placing k.fresh)

pub fresh_without : (w : World) (e : ℕ) → Fresh w → Fresh (without_exchange w e)
unfolding without_exchange
fresh_without w e h = fresh_calm w _ (less_plain Any w _ refl refl) (λ s t. refl) refl h

pub session_on_receiver : (w : World) (s t : ℕ) (g : Receiver → Receiver) (i j : ℕ) →
    session (on_receiver w s t g) i j ≡ session w i j
unfolding on_receiver
session_on_receiver w s t g = each_side_on (λ i j y. y.session ≡ session w i j) w s t
    (λ y. record y { receiver = g y.receiver }) (λ i j. refl) refl

-- One TID changes, and every unsettled number of it was unsettled.
fresh_on_tid : (w : World) (s t : ℕ) (f : Tid → Tid) → Unsettles (session w s t) (f (tid_of w s t)).session →
    Fresh w → Fresh (on_tid w s t f)
fresh_on_tid w s t f u h =
    let v : World = on_tid w s t f in
    held_frames (InHand v) w v (untouched_on_tid w s t f).frames (held_less (InHand w) (InHand v) w (λ k i.
    elim i [
      | inl q ↦ inl (in_queue_less w v k (less_on_tid Any w s t f) q)
      | inr a ↦ inr (each_side_on (λ i j b. (n : ℕ) → Carries b.session k n → AtSlot w k) w s t f
          (λ i j n c. record { station = i; tid = j; number = n; slot_of = c })
          (λ n c. record { station = s; tid = t; number = n; slot_of = u.was k n c })
          a.station a.tid a.number a.slot_of)
    ]) h)

-- A TID without an agreement catches up.
fresh_caught : (w : World) (s t : ℕ) → Fresh w → Fresh (caught_up w s t)
unfolding caught_up
fresh_caught w s t h =
    let start : ℕ = start_of (session w s t) in
    let u : World = on_session w s t (with_heard_start true start) in
    fresh_calm u _ (less_on_receiver Any u s t (with_start start))
    (session_on_receiver u s t (with_start start)) (untouched_on_receiver u s t (with_start start)).frames
    (fresh_session w s t (with_heard_start true start) (unsettles_heard true start (session w s t)) h)

pub safe_caught_up : (l : List ℕ) (w : World) (s t : ℕ) → AgreedAt (side w s t) → Placing l w → Fresh w →
    Safe l w (caught_up_if_plain w s t)
safe_caught_up l w s t a p h = record {
  placing = placed_caught_up l w s t a p;
  fresh = if_caught Fresh w s t h (λ _. fresh_caught w s t h);
  stays = stays_same w _ (untouched_caught_up w s t);
}

safe_after : (air : Option ℕ) (c : Content) (l : List ℕ) (w : World) (i : IsLawful w) (x : Exchange)
    (heard : Bool) →
    x.content ≡ c → IsFound w i x → Labelled (session w x.station x.tid) (mpdus_of c) →
    Placing l (after_charge (without_exchange w x.number) x air) →
    Fresh (after_charge (without_exchange w x.number) x air) →
    Safe l (after_charge (without_exchange w x.number) x air)
    (after_done (after_charge (without_exchange w x.number) x air) x heard c)
unfolding after_done
safe_after air (Frames ms) l w i x heard e f a p h =
    let v : World = after_charge (without_exchange w x.number) x air in
    let d : session v x.station x.tid ≡ session w x.station x.tid =
    session_same _ _ (same_charged air (without_exchange w x.number) x) x.station x.tid
    ∙ without_same w x.number x.station x.tid in
    let n = ending_of air w i x ms heard e f in
    let u : World = with_all_settled v x.station x.tid (end_of v x heard) ms in
    let k : Safe l v u = safe_all ms l x.number x.station x.tid (end_of v x heard) v n
    (subst (λ (y : Session). Labelled y ms) (sym d) a) p h in
    then_safe l v u _ k.stays (safe_caught_up l u x.station x.tid
    ((ending_all ms x.number x.station x.tid v (end_of v x heard) n).agreed x.station x.tid) k.placing
    k.fresh)
safe_after air (Request g) l w i x heard e f a p h =
    let v : World = after_charge (without_exchange w x.number) x air in
    record {
      placing = placed_session l v x.station x.tid (with_heard_start heard g) (kept_heard heard g _)
          (next-heard heard g _) p;
      fresh = fresh_session v x.station x.tid (with_heard_start heard g)
          (unsettles_heard heard g (session v x.station x.tid)) h;
      stays = stays_same v _ (untouched_on_session v x.station x.tid _);
    }

safe_ended : (air : Option ℕ) (l : List ℕ) (w : World) (i : IsLawful w) (x : Exchange) (heard : Bool) →
    IsFound w i x →
    Labelled (session w x.station x.tid) (mpdus_of x.content) → Placing l w → Fresh w →
    Safe l w (done_outcome w x heard air).world
unfolding done_outcome
safe_ended air l w i x heard f a p h =
    let u : World = without_exchange w x.number in
    let pu : Placing l u = placed_without l w x.number p in
    let k : Safe l u (after_charge u x air) = safe_calm l u (after_charge u x air) (less_charged air Any u x)
    (same_charged air u x) (untouched_charged air u x) pu (fresh_without w x.number h) in
    then_safe l w u _ (stays_same w u (untouched_without w x.number))
    (then_safe l u (after_charge u x air) _ k.stays
    (safe_after air x.content l w i x heard refl f a k.placing k.fresh))

-- ---- a frame is enqueued

default_frame : (fs : List Frame) (k : ℕ) → length fs ≤ k → (at no_frame fs k).fate ≡ Held
default_frame [] k h = refl
default_frame (x ∷ fs) zero h = absurd (omega (arith, h))
default_frame (x ∷ fs) (suc k) h = default_frame fs k (omega (arith, h))

new_fate : (fs : List Frame) (x : Frame) (k : ℕ) → x.fate ≡ Held →
    (at no_frame (fs ++ x ∷ []) k).fate ≡ (at no_frame fs k).fate
new_fate [] x zero e = e
new_fate [] x (suc k) e = refl
new_fate (y ∷ fs) x zero e = refl
new_fate (y ∷ fs) x (suc k) e = new_fate fs x k e

pub fate_with_frame : (w : World) (note : Note) (k : ℕ) →
    (frame (with_frame w note) k).fate ≡ (frame w k).fate
unfolding with_frame
fate_with_frame w note k = new_fate w.frames (record { note = note; fate = Held }) k refl

-- The frame is new, or in hand.
abbrev OrNew : World → ℕ → ℕ → Type 0
OrNew w c k = InHand w k ⊎ (k ≡ c)

pub head_gone : (w : World) (q : ℕ) (rest : List Item) (fate : Fate) (id : ℕ) →
    (queue (with_frame_finished (on_queue w q (λ y. record y { items = rest })) fate id) q).items ≡ rest
unfolding with_frame_finished with_fate
head_gone w q rest fate id = ap (λ (y : Queue). y.items) (queue_on w q (λ y. record y { items = rest }))

limit_head : (items : List Item) (l : List ℕ) (w : World) (q : ℕ) → (queue w q).items ≡ items → Placing l w →
    Fresh w → Finished (OrNew (without_head w q items) (accepted_count w)) w (without_head w q items)
unfolding without_head
limit_head [] l w q e p h = record {
  stays = stays_same w w (untouched w);
  held =
      record {
        held = λ k i. elim i [
          | inl a ↦ h.held k a
          | inr b ↦
              default_frame w.frames k (omega (arith, b))
        ];
      };
}
limit_head (x ∷ rest) l w q e p h =
    let g : Queue → Queue = λ y. record y { items = rest } in
    let u : World = on_queue w q g in
    let v : World = with_frame_finished u (Dropped Overlimit) x.id in
    let there : carries (queue w q).items x.id ≡ true =
    ap (λ (ys : List Item). carries ys x.id) e
    ∙ or_left (x.id == x.id) (carries rest x.id) (yes_eq x.id x.id refl) in
    let o : Ordered 0 (x ∷ rest) = subst (Ordered 0) e (p.ordered q) in
    let gone : carries (queue v q).items x.id ≡ false =
    ap (λ (ys : List Item). carries ys x.id) (head_gone w q rest (Dropped Overlimit) x.id)
    ∙ on_bool (carries rest x.id) (λ c. absurd (omega (arith, carries_from rest (suc x.id) x.id o.1 c)))
    (λ c. c) in
    let less_u : Less Any w v = then_less Any w u v
    (less_on_queue Any w q g (subst (λ (ys : List Item). Fewer ys rest) (sym e) (fewer_tail x rest)))
    (less_finish Any u (Dropped Overlimit) x.id (λ _. tt)) in
    let k : Same w v = then_same w u v (same_on_queue w q g) (same_finish u (Dropped Overlimit) x.id) in
    let calm : Untouched w u = untouched_on_queue w q g in
    let held_u : HeldOn (OrNew w (accepted_count w)) u =
    held_frames (OrNew w (accepted_count w)) w u calm.frames
    (record {
      held = λ j i. elim i [
        | inl a ↦ h.held j a
        | inr b ↦
            default_frame w.frames j (omega (arith, b))
      ];
    }) in
    let own : InHand w x.id = inl (record { place = q; there = there }) in
    record {
      stays = then_stays w u v (stays_same w u calm)
          (stays_finish u (Dropped Overlimit) x.id (old_same w u x.id calm (p.queued q x.id there).old)
          (held_u.held x.id (inl own)) refl);
      held = held_finish (OrNew w (accepted_count w)) (OrNew v (accepted_count w)) u
          (Dropped Overlimit) x.id held_u (λ j i. elim i [
            | inl a ↦ (
              inl (in_hand_less w v j less_u (session_same w v k) a),
              (λ d. in_place l w v p q x.id less_u (session_same w v k) there gone (subst (InHand v) d a)),
            )
            | inr b ↦ (inr b, (λ d. omega (arith, b, d, (p.queued q x.id there).old)))
          ]);
    }

limit_kept : (l : List ℕ) (w : World) → Placing l w → Fresh w →
    Finished (OrNew (after_limit w) (accepted_count w)) w (after_limit w)
unfolding after_limit
limit_kept l w p h =
    on_if (λ (v : World). Finished (OrNew v (accepted_count w)) w v) (is_at_limit w)
    (without_head w (longest_queue w) (queue w (longest_queue w)).items) w
    (λ _. limit_head (queue w (longest_queue w)).items l w (longest_queue w) refl p h)
    (λ _. record {
      stays = stays_same w w (untouched w);
      held =
          record {
            held = λ k i. elim i [
              | inl a ↦ h.held k a
              | inr b ↦
                  default_frame w.frames k (omega (arith, b))
            ];
          };
    })

inside_with_frame : (w : World) (note : Note) → inside (with_frame w note) ≡ suc (inside w)
unfolding with_frame
inside_with_frame w note = omega (
  arith,
  sum_by-append
      (λ (f : Frame). if is_held f.fate then 1 else 0) w.frames (record { note = note; fate = Held } ∷ []),
)

accepted_with_frame : (w : World) (note : Note) → accepted_count (with_frame w note) ≡ suc (accepted_count w)
unfolding with_frame
accepted_with_frame w note = omega (arith, length-append w.frames (record { note = note; fate = Held } ∷ []))

finished_with_frame : (w : World) (note : Note) → (with_frame w note).finished ≡ w.finished
unfolding with_frame
finished_with_frame w note = refl

right_with_frame : (w : World) (note : Note) → KeepsRight w (with_frame w note)
right_with_frame w note ids a = record {
  once = subst (λ (fs : List ℕ). IsOnce (ids ++ fs)) (sym (finished_with_frame w note)) a.once;
  settled = λ k e. let m = a.settled k (ap (λ (fs : List ℕ). has (ids ++ fs) k)
      (sym (finished_with_frame w note)) ∙ e) in
      (omega (arith, m.0, accepted_with_frame w note), (λ held. m.1 (sym (fate_with_frame w note k) ∙ held)));
  every = λ k below other. ap (λ (fs : List ℕ). has (ids ++ fs) k) (finished_with_frame w note)
      ∙ on_bool (nat_lt k (accepted_count w))
      (λ was. a.every k (lt_yes k (accepted_count w) was) (λ held. other (fate_with_frame w note k ∙ held)))
      (λ new. absurd (other (fate_with_frame w note k
      ∙ default_frame w.frames k (lt_no k (accepted_count w) new))));
}

-- One more frame is accepted and inside.
record Entered (w v : World) : Type 0 where
  right : KeepsRight w v
  held : Fresh v
  remains : Remains w v
  accepted : accepted_count v ≡ suc (accepted_count w)
  inside : inside v ≡ suc (inside w)

enqueue_kept : (l : List ℕ) (w : World) (s t flow len : ℕ) → Placing l w → Fresh w →
    Entered w (enqueue_outcome w s t flow len).world
unfolding enqueue_outcome
enqueue_kept l w s t flow len p h =
    let u : World = after_limit w in
    let q : ℕ = queue_for u s t flow in
    let x : Item = record { id = accepted_count w; stamp = w.clock; len = len } in
    let a : World = after_put_in u s t q x in
    let note : Note = Enqueue s t flow len in
    let v : World = with_frame a note in
    let k : Finished (OrNew u (accepted_count w)) w u = limit_kept l w p h in
    let put : Stays u a = stays_same u a (untouched_put_in u s t q x) in
    let more : Less Any (with_appended u q x) v =
    then_less Any _ a v (less_put_in u s t q x) (less_with_frame a note) in
    let sides : (i j : ℕ) → session v i j ≡ session u i j =
    λ i j. ap (λ (b : Side). b.session) (side_with_frame a note i j ∙ (same_put_in u s t q x).sides i j)
    in
    record {
      right = λ ids b. right_with_frame a note ids (put.right ids (k.stays.right ids b));
      remains = then_remains w u v (remains_of w u k.stays)
          (then_remains u a v (remains_of u a put) (record {
            remains =
                λ i. inr (fate_with_frame a note i);
          }));
      accepted = accepted_with_frame a note ∙ ap suc (put.accepted ∙ k.stays.accepted);
      inside = inside_with_frame a note ∙ ap suc (put.inside ∙ k.stays.inside);
      held = record {
        held = λ i c. fate_with_frame a note i ∙ ap (λ (fs : List Frame). (at no_frame fs i).fate)
            (untouched_put_in u s t q x).frames ∙ k.held.held i (elim c [
              | inl d ↦ elim (queue_appended u q x d.place i ((more.queues d.place).has i d.there)) [
                | inl old ↦
                    inl (inl (record { place = d.place; there = old }))
                | inr new ↦ inr new.1
              ]
              | inr d ↦ inl (inr (at_slot_same u v i sides d))
            ]);
      };
    }

-- ---- a station leaves

numbers_climb : (p : State → Bool) (xs : List Slot) (n : ℕ) → Climbs n (numbers_where p n xs)
numbers_climb p [] n = tt
numbers_climb p (x ∷ xs) n = on_if (Climbs n) (p x.state) (n ∷ numbers_where p (suc n) xs)
    (numbers_where p (suc n) xs) (λ _. (omega arith, numbers_climb p xs (suc n)))
    (λ _. climbs_from (suc n) n (numbers_where p (suc n) xs) (omega arith) (numbers_climb p xs (suc n)))

if_ids : (b : Bool) (y : Session) (id n : ℕ) (ids ns : List ℕ) → id ≡ (slot y n).id → ids ≡ ids_of y ns →
    (if b then id ∷ ids else ids) ≡ ids_of y (if b then n ∷ ns else ns)
if_ids true y id n ids ns e d = ap (λ (k : ℕ). k ∷ ids) e ∙ ap (λ (ks : List ℕ). (slot y n).id ∷ ks) d
if_ids false y id n ids ns e d = d

pub held_ids : (xs : List Slot) (y : Session) (n : ℕ) →
    ((i : ℕ) → at no_slot y.slots (n + i - y.first) ≡ at no_slot xs i) →
    waiting_ids xs ≡ ids_of y (numbers_where is_waiting n xs)
held_ids [] y n h = refl
held_ids (x ∷ xs) y n h = if_ids (is_waiting x.state) y x.id n (waiting_ids xs)
    (numbers_where is_waiting (suc n) xs)
    (ap (λ (z : Slot). z.id) (sym (h 0)) ∙ ap (λ (k : ℕ). (at no_slot y.slots (k - y.first)).id) (add-zero n))
    (held_ids xs y (suc n) (λ i. ap (λ (k : ℕ). at no_slot y.slots (k - y.first)) (omega arith) ∙ h (suc i)))

pub waiting_unsettled : (st : State) → is_waiting st ≡ true → is_settled st ≡ false
waiting_unsettled State.Waiting h = refl
waiting_unsettled (State.Flying e) h = refl
waiting_unsettled State.Acked h = absurd (cc h)
waiting_unsettled State.Failed h = absurd (cc h)

pub record IsWaiting (y : Session) (n hi k : ℕ) : Type 0 where
  pub from : n ≤ k
  pub below : k < hi
  pub unsettled : is_settled (slot y k).state ≡ false
  pub waits : is_waiting (slot y k).state ≡ true

pub waiting_member : (xs : List Slot) (y : Session) (n k : ℕ) →
    ((i : ℕ) → at no_slot y.slots (n + i - y.first) ≡ at no_slot xs i) →
    has (numbers_where is_waiting n xs) k ≡ true → IsWaiting y n (n + length xs) k
waiting_member [] y n k h e = absurd (cc e)
waiting_member (x ∷ xs) y n k h e =
    let rest : has (numbers_where is_waiting (suc n) xs) k ≡ true →
    IsWaiting y n (n + length (x ∷ xs)) k = λ d.
    let r : IsWaiting y (suc n) (suc n + length xs) k =
    waiting_member xs y (suc n) k (λ i. ap (λ (k : ℕ). at no_slot y.slots (k - y.first)) (omega arith)
    ∙ h (suc i)) d in
    record {
      from = omega (arith, r.from);
      below = omega (arith, r.below);
      unsettled = r.unsettled;
      waits = r.waits;
    }
    in
    on_if (λ (ns : List ℕ). has ns k ≡ true → IsWaiting y n (n + length (x ∷ xs)) k) (is_waiting x.state)
    (n ∷ numbers_where is_waiting (suc n) xs) (numbers_where is_waiting (suc n) xs)
    (λ waits d. elim (either (n == k) _ d) [
      | inl a ↦ (
          let same_n : n ≡ k = eq_yes n k a in
          let here : slot y n ≡ x = ap (λ (k : ℕ). at no_slot y.slots (k - y.first)) (sym (add-zero n))
          ∙ h 0 in
          record {
            from = omega arith;
            below = omega arith;
            unsettled =
                ap (λ (j : ℕ). is_settled (slot y j).state) (sym same_n)
                ∙ ap (λ (z : Slot). is_settled z.state) here ∙ waiting_unsettled x.state waits;
            waits =
                ap (λ (j : ℕ). is_waiting (slot y j).state) (sym same_n)
                ∙ ap (λ (z : Slot). is_waiting z.state) here ∙ waits;
          })
      | inr b ↦ rest b
    ])
    (λ _ d. rest d) e

climbs_once : (xs : List ℕ) (lo : ℕ) → Climbs lo xs → IsOnce xs
climbs_once [] lo c = tt
climbs_once (x ∷ xs) lo c = (
  on_bool (has xs x) (λ e. absurd (omega (arith, climbs_at xs (suc x) x c.1 e)))
      (λ e. e),
  climbs_once xs (suc x) c.1,
)

pub count_climbs : (m n : ℕ) → Climbs n (count_from n m)
count_climbs zero n = tt
count_climbs (suc m) n = (omega arith, count_climbs m (suc n))

-- The frame is at a number of another station, or of a TID in ts. The TIDs ts of station s, which leaves, are
-- not yet cleared.
pub record AtOther (s : ℕ) (ts : List ℕ) (w : World) (k : ℕ) : Type 0 where
  pub spot : AtSlot w k
  pub other : (spot.station ≢ s) ⊎ (has ts spot.tid ≡ true)

abbrev pub Pend : ℕ → List ℕ → World → ℕ → Type 0
Pend s ts w k = InQueue w k ⊎ AtOther s ts w k

pend_less : (s : ℕ) (ts : List ℕ) (w v : World) (k : ℕ) → Less Any w v →
    ((i j : ℕ) → session v i j ≡ session w i j) → Pend s ts v k → Pend s ts w k
unfolding at_slot_same
pend_less s ts w v k h d p = elim p [
  | inl q ↦ inl (in_queue_less w v k h q)
  | inr a ↦
      inr (record { spot = at_slot_same w v k d a.spot; other = a.other })
]

pend_hand : (s : ℕ) (ts : List ℕ) (w : World) (k : ℕ) → Pend s ts w k → InHand w k
pend_hand s ts w k p = elim p [ inl q ↦ inl q | inr a ↦ inr a.spot ]

fewer_tids : (s t : ℕ) (ts : List ℕ) (w : World) (k : ℕ) → Pend s ts w k → Pend s (t ∷ ts) w k
fewer_tids s t ts w k p = elim p [
  | inl q ↦ inl q
  | inr a ↦
      inr (record {
        spot = a.spot;
        other = elim
            a.other [ inl b ↦ inl b | inr b ↦ inr (or_right (t == a.spot.tid) _ b) ];
      })
]

left_slots : (l : List ℕ) (w : World) (s t : ℕ) (ts : List ℕ) → Placing l w → has ts t ≡ false →
    HeldOn (Pend s (t ∷ ts) w) w
    → Finished (Pend s ts (with_frames_finished w (Dropped Left) (waiting_ids (session w s t).slots))) w
    (with_frames_finished w (Dropped Left) (waiting_ids (session w s t).slots))
left_slots l w s t ts p apart h =
    let y : Session = session w s t in
    let ns : List ℕ = waiting_numbers y in
    let ids : List ℕ = waiting_ids y.slots in
    let v : World = with_frames_finished w (Dropped Left) ids in
    let k : Same w v = same_finish_all ids w (Dropped Left) in
    let less_v : Less Any w v = less_drop_all Any ids w (Dropped Left) (λ e. cc e) in
    let e : ids ≡ ids_of y ns = held_ids y.slots y y.first (λ i. ap (at no_slot y.slots) (omega arith)) in
    let member : (n : ℕ) → has ns n ≡ true → IsWaiting y y.first (next_number y) n =
    λ n d. waiting_member y.slots y y.first n (λ i. ap (at no_slot y.slots) (omega arith)) d in
    let label : (n : ℕ) → has ns n ≡ true → p.home (slot y n).id ≡ Numbered s t n =
    λ n d. (p.numbered s t n (member n d).from (member n d).below).place in
    finish_ids ids (Pend s (t ∷ ts) w) (Pend s ts v) w (Dropped Left) refl h
    (subst IsOnce (sym e) (once_ids ns y.first y p.home s t (numbers_climb is_waiting y.slots y.first) label))
    (λ i d.
    let o : IsIdOf y ns i = has_ids ns y i (ap (λ (xs : List ℕ). has xs i) (sym e) ∙ d) in
    let m = member o.number o.among in (
      inr (record {
        spot = record {
          station = s;
          tid = t;
          number = o.number;
          slot_of =
              record { from = m.from; below = m.below; unsettled = m.unsettled; id = o.id };
        };
        other =
            inr (or_left (t == t) (has ts t) (yes_eq t t refl));
      }),
      subst (λ (k : ℕ). k < accepted_count w) o.id (p.numbered s t o.number m.from m.below).old,
    ))
    (λ i d.
    let b : Pend s ts w i = pend_less s ts w v i less_v (session_same w v k) d in (
      fewer_tids s t ts w i b,
      on_bool (has ids i) (λ g. absurd (
          let o : IsIdOf y ns i = has_ids ns y i (ap (λ (xs : List ℕ). has xs i) (sym e) ∙ g) in
          let here : p.home (slot y o.number).id ≡ Numbered s t o.number = label o.number o.among in
          elim b [
            | inl q ↦ (let there : p.home i ≡ Queued q.place = (p.queued q.place i q.there).place in
                cc (here, there, ap p.home o.id))
            | inr a ↦ (
                let c : Carries (session w a.spot.station a.spot.tid) i a.spot.number = a.spot.slot_of in
                let there : p.home (slot (session w a.spot.station a.spot.tid) a.spot.number).id
                ≡ Numbered a.spot.station a.spot.tid a.spot.number =
                (p.numbered a.spot.station a.spot.tid a.spot.number c.from c.below).place in
                let es : a.spot.station ≡ s = cc (here, there, ap p.home o.id, ap p.home c.id) in
                let et : a.spot.tid ≡ t = cc (here, there, ap p.home o.id, ap p.home c.id) in
                elim a.other [ inl ne ↦ ne es | inr has_t ↦ cc (has_t, ap (has ts) et, apart) ])
          ])) (λ g. g),
    ))

pub ids_carried : (xs : List Item) (k : ℕ) → has (ids_in xs) k ≡ carries xs k
ids_carried [] k = refl
ids_carried (x ∷ xs) k = ap (λ (b : Bool). (x.id == k) || b) (ids_carried xs k)

ordered_once : (xs : List Item) (lo : ℕ) → Ordered lo xs → IsOnce (ids_in xs)
ordered_once [] lo o = tt
ordered_once (x ∷ xs) lo o = (
  ids_carried xs x.id
      ∙ on_bool (carries xs x.id) (λ e. absurd (omega (arith, carries_from xs (suc x.id) x.id o.1 e)))
      (λ e. e),
  ordered_once xs (suc x.id) o.1,
)

left_queue : (l : List ℕ) (w : World) (s : ℕ) (ts : List ℕ) (q : ℕ) → Placing l w → HeldOn (Pend s ts w) w →
    Less Any w (after_queue_left w q) → Same w (after_queue_left w q) →
    Finished (Pend s ts (after_queue_left w q)) w (after_queue_left w q)
unfolding after_queue_left
left_queue l w s ts q p h less_v k =
    let g : Queue → Queue = λ y. record y { items = []; codel = renewed_codel y.codel } in
    let u : World = on_queue w q g in
    let ids : List ℕ = ids_in (queue w q).items in
    let v : World = with_frames_finished u (Dropped Left) ids in
    let items : (queue v q).items ≡ [] = ap (λ (qs : List Queue). (at new_queue qs q).items)
    (queues_dropped ids u (Dropped Left)) ∙ ap (λ (y : Queue). y.items) (queue_on w q g) in
    let r : Finished (Pend s ts v) u v =
    finish_ids ids (Pend s ts w) (Pend s ts v) u (Dropped Left) refl
    (held_frames (Pend s ts w) w u (untouched_on_queue w q g).frames h)
    (ordered_once (queue w q).items 0 (p.ordered q))
    (λ i d. let c : carries (queue w q).items i ≡ true = sym (ids_carried (queue w q).items i) ∙ d in (
      inl (record { place = q; there = c }),
      old_same w u i (untouched_on_queue w q g)
          (p.queued q i c).old,
    ))
    (λ i d. (
      pend_less s ts w v i less_v (session_same w v k) d,
      on_bool (has ids i) (λ e. absurd (in_place l w v p q i less_v (session_same w v k)
          (sym (ids_carried (queue w q).items i) ∙ e) (ap (λ (ys : List Item). carries ys i) items)
          (pend_hand s ts v i d))) (λ e. e),
    ))
    in
    record { stays = then_stays w u v (stays_same w u (untouched_on_queue w q g)) r.stays; held = r.held }

-- One part of a leave.
record Leaving (l : List ℕ) (s : ℕ) (ts : List ℕ) (w v : World) : Type 0 where
  placing : Placing l v
  held : HeldOn (Pend s ts v) v
  stays : Stays w v

then_leaving : (l : List ℕ) (s : ℕ) (ts : List ℕ) (u v w : World) → Stays u v → Leaving l s ts v w →
    Leaving l s ts u w
then_leaving l s ts u v w h k = record {
  placing = k.placing;
  held = k.held;
  stays =
      then_stays u v w h k.stays;
}

pub same_purge_queue : (w : World) (q : ℕ) → Same w (after_queue_left w q)
unfolding after_queue_left
same_purge_queue w q = then_same _ _ _ (same_on_queue w q _) (same_finish_all _ _ _)

pub less_purge_queue : (w : World) (q : ℕ) → Less Any w (after_queue_left w q)
unfolding after_queues_left
less_purge_queue w q = less_purge_queues Any (q ∷ []) w

left_queues : (qs : List ℕ) (l : List ℕ) (w : World) (s : ℕ) (ts : List ℕ) → Placing l w →
    HeldOn (Pend s ts w) w → Leaving l s ts w (after_queues_left w qs)
unfolding after_queues_left
left_queues [] l w s ts p h = record { placing = p; held = h; stays = stays_same w w (untouched w) }
left_queues (q ∷ qs) l w s ts p h =
    let v : World = after_queue_left w q in
    let r : Finished (Pend s ts v) w v = left_queue l w s ts q p h (less_purge_queue w q)
    (same_purge_queue w q) in
    then_leaving l s ts w v _ r.stays (left_queues qs l v s ts
    (placed_less l w v (less_purge_queue w q) (same_purge_queue w q).sides p) r.held)

left_one : (l : List ℕ) (w : World) (s t : ℕ) (ts : List ℕ) → Placing l w → has ts t ≡ false →
    HeldOn (Pend s (t ∷ ts) w) w → Leaving l s ts w (after_tid_left w s t)
unfolding after_tid_left
left_one l w s t ts p apart h =
    let ids : List ℕ = waiting_ids (session w s t).slots in
    let a : World = with_frames_finished w (Dropped Left) ids in
    let qs : List ℕ = in_rising_order (in_order (tid_of w s t).queues) in
    let b : World = after_queues_left a qs in
    let v : World = with_queues b s t no_keys in
    let ka : Same w a = same_finish_all ids w (Dropped Left) in
    let ra : Finished (Pend s ts a) w a = left_slots l w s t ts p apart h in
    let rb : Leaving l s ts a b = left_queues qs l a s ts
    (placed_less l w a (less_drop_all Any ids w (Dropped Left) (λ e. cc e)) ka.sides p) ra.held in
    let kv : Same b v = same_with_queues b s t no_keys in
    let less_v : Less Any b v = less_with_queues Any b s t no_keys in
    let calm : Untouched b v = untouched_with_queues b s t no_keys in
    record {
      placing = placed_less l b v less_v kv.sides rb.placing;
      held = held_frames (Pend s ts v) b v calm.frames
          (held_less (Pend s ts b) (Pend s ts v) b (λ i d.
          pend_less s ts b v i less_v (session_same b v kv) d) rb.held);
      stays = then_stays w a v ra.stays (then_stays a b v rb.stays (stays_same b v calm));
    }

left_all : (ts : List ℕ) (l : List ℕ) (w : World) (s : ℕ) → IsOnce ts → Placing l w → HeldOn (Pend s ts w) w →
    Leaving l s [] w (after_tids_left w s ts)
unfolding after_tids_left
left_all [] l w s once p h = record { placing = p; held = h; stays = stays_same w w (untouched w) }
left_all (t ∷ ts) l w s once p h =
    let r : Leaving l s ts w (after_tid_left w s t) = left_one l w s t ts p once.0 h in
    then_leaving l s [] w (after_tid_left w s t) _ r.stays
    (left_all ts l (after_tid_left w s t) s once.1 r.placing r.held)

bare_carries : (y : Session) (k n : ℕ) → next_number y ≡ y.first → Carries y k n → ⊥
bare_carries y k n e c = omega (arith, e, c.from, c.below)

bare_none : next_number (new_session 0 0) ≡ 0
bare_none = omega arith

station_gone : (w : World) (s k : ℕ) (o : Option Station) →
    ((t : ℕ) → next_number (sides_of o t).session ≡ (sides_of o t).session.first) →
    InHand (with_station w s o) k → Pend s [] w k
station_gone w s k o bare i = elim i [
  | inl q ↦ inl (in_queue_less w _ k (less_with_station w s o) q)
  | inr a ↦ on_bool (s == a.station)
      (λ own.
      let e : session (with_station w s o) a.station a.tid ≡ (sides_of o a.tid).session =
      ap (λ (j : ℕ). session (with_station w s o) j a.tid) (sym (eq_yes s a.station own))
      ∙ ap (λ (b : Side). b.session) (side_own_station w s a.tid o) in
      absurd (bare_carries (sides_of o a.tid).session k a.number (bare a.tid)
      (subst (λ (y : Session). Carries y k a.number) e a.slot_of)))
      (λ other.
      let ne : s ≢ a.station = eq_no s a.station other in
      inr (record {
        spot = record {
          station = a.station;
          tid = a.tid;
          number = a.number;
          slot_of =
              subst (λ (y : Session). Carries y k a.number)
              (ap (λ (b : Side). b.session) (side_with_station w s a.station a.tid o ne)) a.slot_of;
        };
        other = inl (λ e. ne (sym e));
      }))
]

gone_kept : (l : List ℕ) (w : World) (s : ℕ) → Placing l w → Fresh w →
    Finished (InHand (leave_outcome w s).world) w (leave_outcome w s).world
unfolding leave_outcome
gone_kept l w s p h =
    let a : World = after_tids_left w s (upto 8) in
    let b : World = without_listings a s all_classes in
    let v : World = with_station b s None in
    let r : Leaving l s [] w a = left_all (upto 8) l w s (climbs_once (upto 8) 0 (count_climbs 8 0)) p
    (held_less (InHand w) (Pend s (upto 8) w) w (λ k d. pend_hand s (upto 8) w k d) h) in
    let kb : Same a b = same_off_lists all_classes a s in
    let less_b : Less Any a b = less_off_lists all_classes a s in
    let calm : Untouched a v = then_untouched a b v (untouched_off_lists all_classes a s)
    (untouched_with_station b s None) in
    record {
      stays = then_stays w a v r.stays (stays_same a v calm);
      held = held_frames (InHand v) a v calm.frames
          (held_less (Pend s [] a) (InHand v) a (λ k i.
          pend_less s [] a b k less_b (session_same a b kb) (station_gone b s k None (λ t. bare_none) i))
          r.held);
    }

safe_gone : (l : List ℕ) (w : World) (s : ℕ) → Placing l w → Fresh w → Safe l w (leave_outcome w s).world
safe_gone l w s p h = record {
  placing = placed_gone l w s p;
  fresh = (gone_kept l w s p h).held;
  stays =
      (gone_kept l w s p h).stays;
}

-- ---- a flush

unsettles_flush : (limit : ℕ) (y : Session) → Unsettles y (after_flush limit y)
unsettles_flush limit y = flush_along (Unsettles y) limit y
    (λ z n e l b waits k. then_unsettles y z _ k (unsettles_on_slot z n (slot_given_up limit) l
    (ap is_settled waits) (λ x. refl))) (unsettles_refl y)

-- The frames of the waiting numbers get their fate, after these numbers were given up.
flush_slots : (cause : Cause) (l : List ℕ) (w : World) (s t : ℕ) → is_live w s ≡ true → Placing l w →
    Fresh w → Placing l (on_session w s t (after_flush w.config.attempts))
    → Finished (InHand (with_frames_finished (on_session w s t (after_flush w.config.attempts))
    (Dropped cause) (waiting_ids (session w s t).slots)))
    (on_session w s t (after_flush w.config.attempts))
    (with_frames_finished (on_session w s t (after_flush w.config.attempts)) (Dropped cause)
    (waiting_ids (session w s t).slots))
flush_slots cause l w s t live p h q =
    let limit : ℕ = w.config.attempts in
    let y : Session = session w s t in
    let f : Session → Session = after_flush limit in
    let u : World = on_session w s t f in
    let ns : List ℕ = waiting_numbers y in
    let ids : List ℕ = waiting_ids y.slots in
    let v : World = with_frames_finished u (Dropped cause) ids in
    let less_v : Less Any u v = less_drop_all Any ids u (Dropped cause) (λ e. cc e) in
    let d : session u s t ≡ f y = session_on_session w s t f live in
    let calm : Untouched w u = untouched_on_session w s t f in
    let e : ids ≡ ids_of y ns = held_ids y.slots y y.first (λ i. ap (at no_slot y.slots) (omega arith)) in
    let member : (n : ℕ) → has ns n ≡ true → IsWaiting y y.first (next_number y) n =
    λ n g. waiting_member y.slots y y.first n (λ i. ap (at no_slot y.slots) (omega arith)) g in
    let label : (n : ℕ) → has ns n ≡ true → p.home (slot y n).id ≡ Numbered s t n =
    λ n g. (p.numbered s t n (member n g).from (member n g).below).place in
    finish_ids ids (InHand w) (InHand v) u (Dropped cause) refl
    (held_frames (InHand w) w u calm.frames h)
    (subst IsOnce (sym e) (once_ids ns y.first y p.home s t (numbers_climb is_waiting y.slots y.first) label))
    (λ i g.
    let o : IsIdOf y ns i = has_ids ns y i (ap (λ (xs : List ℕ). has xs i) (sym e) ∙ g) in
    let m = member o.number o.among in (
      inr (record {
        station = s;
        tid = t;
        number = o.number;
        slot_of = record { from = m.from; below = m.below; unsettled = m.unsettled; id = o.id };
      }),
      old_same w u i calm
          (subst (λ (k : ℕ). k < accepted_count w) o.id (p.numbered s t o.number m.from m.below).old),
    ))
    (λ i g.
    let b : InHand u i = in_hand_less u v i less_v
    (session_same u v (same_finish_all ids u (Dropped cause))) g in (
      in_hand_session w s t f (unsettles_flush limit y) i b,
      on_bool (has ids i) (λ there. absurd (
          let o : IsIdOf y ns i = has_ids ns y i (ap (λ (xs : List ℕ). has xs i) (sym e) ∙ there) in
          let m = member o.number o.among in
          let fails : slot (session u s t) o.number ≡ slot_given_up limit (slot y o.number) =
          ap (λ (z : Session). slot z o.number) d ∙ (slot_flush limit y o.number
          ∙ flushed_fails limit (slot y o.number) m.waits) in
          settled_not_in_hand l u q s t o.number i
          (omega (arith, m.from, ap (λ (z : Session). z.first) d))
          (omega (arith, m.below, next-flush limit y, ap next_number d))
          (ap (λ (x : Slot). x.id) fails ∙ o.id) (ap (λ (x : Slot). is_settled x.state) fails) b))
          (λ none. none),
    ))

pub same_flush_queue : (w : World) (q : ℕ) → Same w (after_queue_flushed w q)
unfolding after_queue_flushed
same_flush_queue w q = then_same _ _ _ (same_on_queue w q _) (same_finish_all _ _ _)

pub less_flush_queue : (w : World) (q : ℕ) → Less Any w (after_queue_flushed w q)
unfolding after_queue_flushed
less_flush_queue w q = then_less Any _ _ _
    (less_on_queue Any w q _ (fewer_none (queue w q).items)) (less_drop_all Any _ _ _ (λ e. cc e))

flush_queue : (l : List ℕ) (w : World) (q : ℕ) → Placing l w → Fresh w →
    Less Any w (after_queue_flushed w q) → Same w (after_queue_flushed w q) →
    Finished (InHand (after_queue_flushed w q)) w (after_queue_flushed w q)
unfolding after_queue_flushed
flush_queue l w q p h less_v k =
    let g : Queue → Queue = λ y. record y { items = [] } in
    let u : World = on_queue w q g in
    let ids : List ℕ = ids_in (queue w q).items in
    let v : World = with_frames_finished u (Dropped Flushed) ids in
    let items : (queue v q).items ≡ [] = ap (λ (qs : List Queue). (at new_queue qs q).items)
    (queues_dropped ids u (Dropped Flushed)) ∙ ap (λ (y : Queue). y.items) (queue_on w q g) in
    let r : Finished (InHand v) u v =
    finish_ids ids (InHand w) (InHand v) u (Dropped Flushed) refl
    (held_frames (InHand w) w u (untouched_on_queue w q g).frames h)
    (ordered_once (queue w q).items 0 (p.ordered q))
    (λ i d. let c : carries (queue w q).items i ≡ true = sym (ids_carried (queue w q).items i) ∙ d in (
      inl (record { place = q; there = c }),
      old_same w u i (untouched_on_queue w q g)
          (p.queued q i c).old,
    ))
    (λ i d. (
      in_hand_less w v i less_v (session_same w v k) d,
      on_bool (has ids i) (λ e. absurd (in_place l w v p q i less_v (session_same w v k)
          (sym (ids_carried (queue w q).items i) ∙ e) (ap (λ (ys : List Item). carries ys i) items) d))
          (λ e. e),
    ))
    in
    record { stays = then_stays w u v (stays_same w u (untouched_on_queue w q g)) r.stays; held = r.held }

safe_flush_queues : (qs : List ℕ) (l : List ℕ) (w : World) → Placing l w → Fresh w →
    Safe l w (after_queues_flushed w qs)
unfolding after_queues_flushed
safe_flush_queues [] l w p h = safe_here l w p h
safe_flush_queues (q ∷ qs) l w p h =
    let v : World = after_queue_flushed w q in
    let r : Finished (InHand v) w v = flush_queue l w q p h (less_flush_queue w q) (same_flush_queue w q) in
    then_safe l w v _ r.stays (safe_flush_queues qs l v
    (placed_less l w v (less_flush_queue w q) (same_flush_queue w q).sides p) r.held)

placed_flush : (l : List ℕ) (w : World) (s t : ℕ) → Placing l w →
    Placing l (on_session w s t (after_flush w.config.attempts))
placed_flush l w s t p = placed_session l w s t (after_flush w.config.attempts)
    (kept_flush w.config.attempts (session w s t)) (next-flush w.config.attempts (session w s t)) p

pub placed_flush_slots : (cause : Cause) (l : List ℕ) (w : World) (s t : ℕ) → Placing l w →
    Placing l (with_frames_finished (on_session w s t (after_flush w.config.attempts)) (Dropped cause)
    (waiting_ids (session w s t).slots))
placed_flush_slots cause l w s t p =
    let u : World = on_session w s t (after_flush w.config.attempts) in
    let ids : List ℕ = waiting_ids (session w s t).slots in
    placed_less l u _ (less_drop_all Any ids u (Dropped cause) (λ e. cc e))
    (same_finish_all ids u (Dropped cause)).sides (placed_flush l w s t p)

safe_emptied : (l : List ℕ) (w : World) (s t : ℕ) → is_live w s ≡ true → Placing l w → Fresh w →
    Safe l w (emptied_world w s t)
safe_emptied l w s t live p h =
    let u : World = on_session w s t (after_flush w.config.attempts) in
    let a : World = with_frames_finished u (Dropped Flushed) (waiting_ids (session w s t).slots) in
    let r : Finished (InHand a) u a = flush_slots Flushed l w s t live p h (placed_flush l w s t p) in
    then_safe l w a _ (then_stays w u a (stays_same w u (untouched_on_session w s t _)) r.stays)
    (safe_flush_queues (in_rising_order (in_order (tid_of w s t).queues)) l a
    (placed_flush_slots Flushed l w s t p)
    r.held)

pub safe_flushed : (l : List ℕ) (w : World) (s t : ℕ) → IsLawful w → is_live w s ≡ true → Placing l w →
    Fresh w → Safe l w (flush_outcome w s t).world
safe_flushed l w s t i live p h =
    let v : World = emptied_world w s t in
    let k : Safe l w v = safe_emptied l w s t live p h in
    subst (Safe l w) (sym (flush_is w s t)) (then_safe l w v _ k.stays
    (safe_caught_up l v s t ((lawful_emptied w s t i).agreed s t) k.placing k.fresh))

-- ---- an agreement ends

-- The waiting numbers are given up, and their frames get their fate.
numbers_ended_kept : (l : List ℕ) (w : World) (s t : ℕ) → is_live w s ≡ true → Placing l w → Fresh w →
    Finished (InHand (after_numbers_ended w s t)) w (after_numbers_ended w s t)
unfolding after_numbers_ended
numbers_ended_kept l w s t live p h =
    let u : World = on_session w s t (after_flush w.config.attempts) in
    let v : World = after_numbers_ended w s t in
    let r : Finished (InHand v) u v = flush_slots Ended l w s t live p h (placed_flush l w s t p) in
    record { stays = then_stays w u v (stays_same w u (untouched_on_session w s t _)) r.stays; held = r.held }

ceased_kept : (l : List ℕ) (w : World) (s t : ℕ) → is_live w s ≡ true → Placing l w → Fresh w →
    Finished (InHand (cease_outcome w s t).world) w (cease_outcome w s t).world
ceased_kept l w s t live p h =
    let v : World = after_numbers_ended w s t in
    let r : Finished (InHand v) w v = numbers_ended_kept l w s t live p h in
    record {
      stays = then_stays w v _ r.stays (stays_same v _ (untouched_ceased w s t));
      held = subst Fresh (sym (ceased_is w s t))
          (fresh_on_tid v s t _
          (unsettles_renewed (start_of (session v s t)) plain_window Mode.OnHold (tid_of v s t)) r.held);
    }

-- ---- the step

fresh_station : (w : World) (i : ℕ) (o : Option Station) →
    ((t : ℕ) → next_number (sides_of o t).session ≡ (sides_of o t).session.first) → Fresh w →
    Fresh (with_station w i o)
fresh_station w i o bare h = held_frames (InHand (with_station w i o)) w _
    (untouched_with_station w i o).frames (held_less (InHand w) (InHand (with_station w i o)) w
    (λ k c. pend_hand i [] w k (station_gone w i k o bare c)) h)

bare_new : (first size : ℕ) → next_number (new_session first size) ≡ first
bare_new first size = omega arith

new_kept : (w : World) (mode : Mode) (s window start exponent weight : ℕ) (offloaded : Bool) → Fresh w →
    Finished (InHand (with_station w s
    (Some (new_station w.config mode window start exponent weight offloaded)))) w
    (with_station w s (Some (new_station w.config mode window start exponent weight offloaded)))
new_kept w mode s window start exponent weight offloaded h = record {
  stays = stays_same w _ (untouched_with_station w s _);
  held = fresh_station w s _ (eight (λ y. next_number y.session ≡ y.session.first) (new_tid mode start window)
      (bare_new start window) (bare_new 0 0)) h;
}

joined_kept : (w : World) (s window start exponent weight : ℕ) → Fresh w →
    Finished (InHand (join_outcome w s window start exponent weight).world) w
    (join_outcome w s window start exponent weight).world
unfolding join_outcome
joined_kept w s window start exponent weight h =
    new_kept w Mode.Agreed s window start exponent weight false h

safe_joined : (l : List ℕ) (w : World) (s window start exponent weight : ℕ) → Placing l w → Fresh w →
    Safe l w (join_outcome w s window start exponent weight).world
safe_joined l w s window start exponent weight p h =
    let r = joined_kept w s window start exponent weight h in
    record { placing = placed_joined l w s window start exponent weight p; fresh = r.held; stays = r.stays }

offloaded_kept : (w : World) (s exponent weight : ℕ) → Fresh w →
    Finished (InHand (offload_outcome w s exponent weight).world) w
    (offload_outcome w s exponent weight).world
unfolding offload_outcome
offloaded_kept w s exponent weight h = new_kept w Mode.Plain s greatest_window 0 exponent weight true h

safe_offloaded : (l : List ℕ) (w : World) (s exponent weight : ℕ) → Placing l w → Fresh w →
    Safe l w (offload_outcome w s exponent weight).world
safe_offloaded l w s exponent weight p h =
    let r = offloaded_kept w s exponent weight h in
    record { placing = placed_offloaded l w s exponent weight p; fresh = r.held; stays = r.stays }

unagreed_kept : (w : World) (s start exponent weight : ℕ) → Fresh w →
    Finished (InHand (plain_outcome w s start exponent weight).world) w
    (plain_outcome w s start exponent weight).world
unfolding plain_outcome
unagreed_kept w s start exponent weight h =
    new_kept w Mode.Plain s plain_window start exponent weight false h

safe_unagreed : (l : List ℕ) (w : World) (s start exponent weight : ℕ) → Placing l w → Fresh w →
    Safe l w (plain_outcome w s start exponent weight).world
safe_unagreed l w s start exponent weight p h =
    let r = unagreed_kept w s start exponent weight h in
    record { placing = placed_unagreed l w s start exponent weight p; fresh = r.held; stays = r.stays }

-- The held frames and the fates after a call that accepts n frames and reaps r, for any released frames.
record Kept_fates (n r : ℕ) (w v : World) : Type 0 where
  right : r ≡ 0 → KeepsRight w v
  fresh : Fresh v
  remains : Remains w v
  accepted : accepted_count v ≡ n + accepted_count w
  inside : r + inside v ≡ n + inside w

of_stays : (w v : World) → Fresh v → Stays w v → Kept_fates 0 0 w v
of_stays w v h k = record {
  right = λ none. k.right;
  fresh = h;
  remains = remains_of w v k;
  accepted =
      omega (arith, k.accepted);
  inside = omega (arith, k.inside);
}

of_safe : (l : List ℕ) (w v : World) → Safe l w v → Kept_fates 0 0 w v
of_safe l w v k = of_stays w v k.fresh k.stays

of_entered : (w v : World) → Entered w v → Kept_fates 1 0 w v
of_entered w v k = record {
  right = λ none. k.right;
  fresh = k.held;
  remains = k.remains;
  accepted =
      omega (arith, k.accepted);
  inside = omega (arith, k.inside);
}

fates_here : (w : World) → Fresh w → Kept_fates 0 0 w w
fates_here w h = of_stays w w h (stays_same w w (untouched w))

fates_plain : (w v : World) → w.queues ≡ v.queues → Untouched w v →
    ((s t : ℕ) → session v s t ≡ session w s t) → Fresh w → Kept_fates 0 0 w v
fates_plain w v a u d h = of_stays w v (fresh_calm w v (less_plain Any w v a (sym u.frames)) d u.frames h)
    (stays_same w v u)

fates_station : (w : World) (s : ℕ) (f : Station → Station) →
    ((x : Station) (t : ℕ) → sided (f x) t ≡ sided x t) → Fresh w →
    Kept_fates 0 0 w (on_station w s f)
fates_station w s f g h =
    let u : Untouched w (on_station w s f) = untouched_on_station w s f in
    of_stays w _ (fresh_calm w _ (less_on_station Any w s f)
    (session_same w _ (same_on_station w s f g)) u.frames h) (stays_same w _ u)

fates_answered : (w : World) (x : Exchange) → Fresh w → Kept_fates 0 0 w (answer_outcome w x).world
unfolding answer_outcome with_exchange
fates_answered w x h = fates_plain w _ refl (record { frames = refl; finished = refl }) (λ s t. refl) h

fates_marked : (w : World) (x : Exchange) (unsent given_up : List ℕ) → Fresh w →
    Kept_fates 0 0 w (marked_world w x unsent given_up)
unfolding with_exchange
fates_marked w x unsent given_up h =
    fates_plain w _ refl (record { frames = refl; finished = refl }) (λ s t. refl) h

fates_unsent : (w : World) (x : Exchange) (n : ℕ) → Fresh w → Kept_fates 0 0 w (unsent_outcome w x n).world
unfolding unsent_outcome
fates_unsent w x n h = fates_marked w x (with_member n x.unsent) x.given_up h

fates_given_up : (w : World) (x : Exchange) (n : ℕ) → Fresh w → Kept_fates 0 0 w (give_up_outcome w x n).world
unfolding give_up_outcome
fates_given_up w x n h = fates_marked w x x.unsent (with_member n x.given_up) h

pub queues_on_receiver : (w : World) (s t : ℕ) (g : Receiver → Receiver) →
    w.queues ≡ (on_receiver w s t g).queues
unfolding on_receiver on_tid on_station with_station
queues_on_receiver w s t g = refl

fates_arrived : (w : World) (x : Exchange) (n : ℕ) → Fresh w → Kept_fates 0 0 w (arrive_outcome w x n).world
unfolding arrive_outcome with_exchange
fates_arrived w x n h =
    let u : Untouched w (on_receiver w x.station x.tid (after_arrival x.content n)) =
    untouched_on_receiver w x.station x.tid (after_arrival x.content n) in
    fates_plain w _ (queues_on_receiver w x.station x.tid _)
    (record { frames = u.frames; finished = u.finished })
    (session_on_receiver w x.station x.tid (after_arrival x.content n)) h

-- The head of the finished list is reaped.
fates_reaped : (ids : List ℕ) (w : World) → w.finished ≡ ids → (length ids == 0) ≡ false → Fresh w →
    Kept_fates 0 1 w (reap_outcome w ids).world
unfolding reap_outcome
fates_reaped [] w e some h = absurd (cc some)
fates_reaped (id ∷ ids) w e some h = record {
  right = λ none. absurd (omega (arith, none));
  fresh = fresh_calm w _ (less_plain Any w _ refl refl) (λ s t. refl) refl h;
  remains = remains_same w _ refl;
  accepted = omega arith;
  inside = omega (arith, ap (length {A = ℕ}) e);
}

fates_open : (P : Exchange → Type 0) (o : Option Exchange) (w : World) (f : Exchange → Outcome) → IfSome o P →
    Fresh w → ((x : Exchange) → P x → Kept_fates 0 0 w (f x).world) →
    Kept_fates 0 0 w (outcome_where_open w o f).world
unfolding outcome_where_open
fates_open P None w f k h g = fates_here w h
fates_open P (Some x) w f k h g = g x k

fates_weighed : (w : World) (s weight : ℕ) → Fresh w → Kept_fates 0 0 w (weight_outcome w s weight).world
fates_weighed w s weight h =
    let u : Untouched w (weight_outcome w s weight).world = untouched_weighed w s weight in
    of_stays w _ (fresh_calm w _ (less_weighed Any w s weight) (session_same w _ (same_weighed w s weight))
    u.frames h) (stays_same w _ u)

-- One TID changes, and every unsettled number of it was unsettled.
fates_on_tid : (w : World) (s t : ℕ) (f : Tid → Tid) → Unsettles (session w s t) (f (tid_of w s t)).session →
    Fresh w → Kept_fates 0 0 w (on_tid w s t f)
fates_on_tid w s t f u h = of_stays w _ (fresh_on_tid w s t f u h) (stays_same w _ (untouched_on_tid w s t f))

fates_held : (w : World) (s t : ℕ) → Fresh w → Kept_fates 0 0 w (hold_outcome w s t).world
unfolding hold_outcome with_mode
fates_held w s t h = fates_on_tid w s t _ (unsettles_refl (session w s t)) h

fates_begun : (w : World) (s t window : ℕ) → Fresh w → Kept_fates 0 0 w (begin_outcome w s t window).world
fates_begun w s t window h = subst (Kept_fates 0 0 w) (sym (begun_is w s t window))
    (fates_on_tid w s t _ (unsettles_renewed (start_of (session w s t)) window Mode.Agreed (tid_of w s t)) h)

fates_freed : (w : World) (s t : ℕ) → Fresh w → Kept_fates 0 0 w (free_outcome w s t).world
unfolding free_outcome with_mode
fates_freed w s t h = fates_on_tid w s t _ (unsettles_refl (session w s t)) h

fates_ceased : (l : List ℕ) (w : World) (s t : ℕ) → is_live w s ≡ true → Placing l w → Fresh w →
    Kept_fates 0 0 w (cease_outcome w s t).world
fates_ceased l w s t live p h =
    let r = ceased_kept l w s t live p h in of_stays w _ r.held r.stays

fates_share : (w : World) (s : ℕ) (c : Class) (f : Share → Share) → Fresh w →
    Kept_fates 0 0 w (on_share w s c f)
unfolding on_share
fates_share w s c f h = fates_station w s _ (λ x t. refl) h

pub record IsFoundNamed (w : World) (i : IsLawful w) (x : Exchange) : Type 0 where
  pub found_one : IsFound w i x
  pub labels : Labelled (session w x.station x.tid) (mpdus_of x.content)

both_found : (o : Option Exchange) (w : World) (i : IsLawful w) → IfSome o (IsFound w i) →
    IfSome o (λ x. Labelled (session w x.station x.tid) (mpdus_of x.content)) → IfSome o (IsFoundNamed w i)
both_found None w i h k = tt
both_found (Some x) w i h k = record { found_one = h; labels = k }

pub found_named : (w : World) (i : IsLawful w) (a : IsLabelled w) (e : ℕ) →
    IfSome (exchange w e) (IsFoundNamed w i)
found_named w i a e = both_found (exchange w e) w i (found w i e)
    (each_find (λ x. Labelled (session w x.station x.tid) (mpdus_of x.content))
    (λ x. Labelled (session w x.station x.tid) (mpdus_of x.content)) (λ x. x.number == e) w.opened
    (λ x _ f. f) a.labels)

-- Returns how many frames a call accepts, and `fetched` how many it reaps, if it is not refused.
abbrev pub brought : Note → ℕ
brought (Enqueue s t flow len) = 1
brought _ = 0

abbrev pub fetched : Note → ℕ
fetched (Asked Reap) = 1
fetched _ = 0

fates_done : (note : Note) (l : List ℕ) (w : World) (i : IsLawful w) → NoRow (refusals w note) →
    IsLabelled w → Placing l w → Fresh w → Kept_fates (brought note) (fetched note) w
    (outcome_of w note).world
unfolding outcome_of tick_outcome rate_outcome sleep_outcome wake_outcome poll_outcome rx_outcome
fates_done (Enqueue s t flow len) l w i e a p h = of_entered w _ (enqueue_kept l w s t flow len p h)
fates_done (Asked (Join s window start exponent weight)) l w i e a p h =
    of_safe l w _ (safe_joined l w s window start exponent weight p h)
fates_done (Asked (Leave s)) l w i e a p h = of_safe l w _ (safe_gone l w s p h)
fates_done (Asked (Rate s rate)) l w i e a p h = fates_station w s _ (λ x t. refl) h
fates_done (Asked (Tick by)) l w i e a p h = fates_plain w _ refl (record { frames = refl; finished = refl })
    (λ s t. refl) h
fates_done (Asked (Pull c limits)) l w i e a p h = of_safe l w _ (safe_pulled l w c limits i p h)
fates_done (Asked (Arrive x n)) l w i e a p h =
    fates_open (IsFoundNamed w i) (exchange w x) w _ (found_named w i a x) h (λ y f. fates_arrived w y n h)
fates_done (Asked (Answer x)) l w i e a p h =
    fates_open (IsFoundNamed w i) (exchange w x) w _ (found_named w i a x) h (λ y f. fates_answered w y h)
fates_done (Asked (Done x heard air)) l w i e a p h =
    fates_open (IsFoundNamed w i) (exchange w x) w _ (found_named w i a x) h
    (λ y f. of_safe l w _ (safe_ended air l w i y heard f.found_one f.labels p h))
fates_done (Asked (Sleep s)) l w i e a p h = fates_station w s _ (λ x t. refl) h
fates_done (Asked (Ampdu s octets)) l w i e a p h = fates_station w s _ (λ x t. refl) h
fates_done (Asked (Stop s)) l w i e a p h = fates_station w s _ (λ x t. refl) h
fates_done (Asked (Start s)) l w i e a p h = fates_station w s _ (λ x t. refl) h
fates_done (Asked (Wake s)) l w i e a p h = fates_station w s _ (λ x t. refl) h
fates_done (Asked (Poll s)) l w i e a p h = fates_station w s _ (λ x t. refl) h
fates_done (Asked (Rx s c air)) l w i e a p h = fates_share w s c _ h
fates_done (Asked Reap) l w i e a p h = fates_reaped w.finished w refl e.0 h
fates_done (Asked (Unsent x n)) l w i e a p h =
    fates_open (IsFoundNamed w i) (exchange w x) w _ (found_named w i a x) h (λ y f. fates_unsent w y n h)
fates_done (Asked (GiveUp x n)) l w i e a p h =
    fates_open (IsFoundNamed w i) (exchange w x) w _ (found_named w i a x) h (λ y f. fates_given_up w y n h)
fates_done (Asked (Flush s t)) l w i e a p h =
    of_safe l w _ (safe_flushed l w s t i (not_no (is_live w s) e.1.1.0) p h)
fates_done (Asked (Offload s exponent weight)) l w i e a p h =
    of_safe l w _ (safe_offloaded l w s exponent weight p h)
fates_done (Asked (Weight s weight)) l w i e a p h = fates_weighed w s weight h
fates_done (Asked (Plain s start exponent weight)) l w i e a p h =
    of_safe l w _ (safe_unagreed l w s start exponent weight p h)
fates_done (Asked (Hold s t)) l w i e a p h = fates_held w s t h
fates_done (Asked (Begin s t window)) l w i e a p h = fates_begun w s t window h
fates_done (Asked (Free s t)) l w i e a p h = fates_freed w s t h
fates_done (Asked (Cease s t)) l w i e a p h = fates_ceased l w s t (not_no (is_live w s) e.1.1.0) p h
fates_done (Asked (Group ask)) l w i e a p h =
    fates_plain w _ refl (record { frames = refl; finished = refl }) (λ s t. refl) h
fates_done (Asked (Service ask)) l w i e a p h = fates_station w (station_served ask) _ (λ x t. refl) h
fates_done (Asked (Bss s b)) l w i e a p h = fates_station w s _ (λ x t. refl) h

fates_refused : (note : Note) (r : Refusal) (w : World) → Fresh w → Kept_fates 0 0 w (after_refusal w note r)
unfolding after_refusal
fates_refused (Asked (Pull c l)) Idle w h =
    let u : Untouched w (after_pick w c) = untouched_after_pick w c in
    after_idle (Kept_fates 0 0 w) w c (fates_here w h)
    (of_stays w _ (fresh_calm w _ (less_after_pick Any w c)
    (session_same w _ (same_after_pick w c)) u.frames h) (stays_same w _ u))
fates_refused _ _ w h = fates_here w h

fates_listed : (n r : ℕ) (w u v : World) → Less Any u v → Same u v → Untouched u v → Kept_fates n r w u →
    Kept_fates n r w v
fates_listed n r w u v h same_sides calm k =
    let e : Stays u v = stays_same u v calm in
    record {
      right = λ none ids a. e.right ids (k.right none ids a);
      fresh = fresh_calm u v h (session_same u v same_sides) calm.frames k.fresh;
      remains = then_remains w u v k.remains (remains_of u v e);
      accepted = e.accepted ∙ k.accepted;
      inside = omega (arith, e.inside, k.inside);
    }

fates_answer : (r : Option Refusal) (l : List ℕ) (w : World) (i : IsLawful w) (note : Note) →
    refusal w note ≡ r → IsLabelled w → Placing l w → Fresh w
    → Kept_fates (if is_none r then brought note else 0) (if is_none r then fetched note else 0) w
    (judged_outcome w note r).world
unfolding judged_outcome
fates_answer (Some r) l w i note e a p h = fates_refused note r w h
fates_answer None l w i note e a p h =
    let u : World = (outcome_of w note).world in
    fates_listed (brought note) (fetched note) w u (with_listings_of u (concerned_station w note))
    (less_listed Any (concerned_station w note) u) (same_listed (concerned_station w note) u)
    (untouched_listed (concerned_station w note) u)
    (fates_done note l w i (no_row (refusals w note) e) a p h)

fates_step : (l : List ℕ) (w : World) (i : IsLawful w) (note : Note) → IsLabelled w → Placing l w → Fresh w
    → Kept_fates (if is_none (refusal w note) then brought note else 0)
    (if is_none (refusal w note) then fetched note else 0) w (step w note).world
unfolding step
fates_step l w i note a p h = fates_answer (refusal w note) l w i note refl a p h

-- ---- the run

pub record Steady (l : List ℕ) (w : World) : Type 0 where
  pub lawful : IsLawful w
  pub labelled : IsLabelled w
  pub placing : Placing l w
  pub fresh : Fresh w

pub steady_step : (l : List ℕ) (w : World) (note : Note) → Steady l w →
    Steady (l ++ named_by (step w note).reply) (step w note).world
steady_step l w note k = record {
  lawful = lawful_step w note k.lawful;
  labelled = labelled_step w note k.lawful k.labelled;
  placing = placed_step l w k.lawful note k.placing;
  fresh = (fates_step l w k.lawful note k.labelled k.placing k.fresh).fresh;
}

pub steady_run : (h : List Entry) (l : List ℕ) (w : World) → Steady l w →
    Steady (named_from w l h) (world_after w h)
unfolding named_from world_after
steady_run [] l w k = k
steady_run (e ∷ es) l w k = steady_run es _ (step w e.1).world (steady_step l w e.1 k)

-- A call that reaps no frame. ids are the frames that were reaped before.
pub right_step : (l ids : List ℕ) (w : World) (note : Note) → Steady l w →
    (if is_none (refusal w note) then fetched note else 0) ≡ 0 → IsFinishedRight ids w →
    IsFinishedRight ids (step w note).world
right_step l ids w note k none a = (fates_step l w k.lawful note k.labelled k.placing k.fresh).right none ids
    a

pub remains_step : (l : List ℕ) (w : World) (note : Note) → Steady l w → Remains w (step w note).world
remains_step l w note k = (fates_step l w k.lawful note k.labelled k.placing k.fresh).remains

-- The numbers of accepted frames and of frames inside after a call.
pub counted_step : (l : List ℕ) (w : World) (note : Note) → Steady l w
    → (accepted_count (step w note).world ≡ (if is_none (refusal w note) then brought note else 0) +
    accepted_count w)
    × ((if is_none (refusal w note) then fetched note else 0) + inside (step w note).world
    ≡ (if is_none (refusal w note) then brought note else 0) + inside w)
counted_step l w note k = let f = fates_step l w k.lawful note k.labelled k.placing k.fresh in
    (f.accepted, f.inside)

remains_run : (h : List Entry) (l : List ℕ) (w : World) → Steady l w → Remains w (world_after w h)
unfolding world_after
remains_run [] l w k = remains_same w w refl
remains_run (e ∷ es) l w k = then_remains w (step w e.1).world _
    (fates_step l w k.lawful e.1 k.labelled k.placing k.fresh).remains
    (remains_run es _ (step w e.1).world (steady_step l w e.1 k))

pub steady_first : (config : Config) → Steady [] (opening config)
steady_first config = record {
  lawful = lawful_at_first config;
  labelled = record { labels = tt };
  placing = placed_at_first config;
  fresh = record { held = λ k i. refl };
}

pub world_after-append : (h : List Entry) (w : World) (k : List Entry) →
    world_after w (h ++ k) ≡ world_after (world_after w h) k
unfolding world_after
world_after-append [] w k = refl
world_after-append (e ∷ h) w k = world_after-append h (step w e.1).world k

pub fate_stays : (config : Config) (before after : List Entry) (id : ℕ) →
    ((frame (world_after (opening config) before) id).fate ≡ Held) ⊎
    ((frame (world_after (opening config) (before ++ after)) id).fate
    ≡ (frame (world_after (opening config) before) id).fate)
fate_stays config before after id =
    elim ((remains_run after (named_from (opening config) [] before) (world_after (opening config) before)
    (steady_run before [] (opening config) (steady_first config))).remains id) [
      | inl h ↦ inl h
      | inr e ↦ inr (ap (λ (w : World). (frame w id).fate) (world_after-append before (opening config) after)
          ∙ e)
    ]
