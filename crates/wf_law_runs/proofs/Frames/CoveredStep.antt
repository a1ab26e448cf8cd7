-- Proves that each held frame stays in a queue or at an unsettled number, by cases of the call.
use Rattle.std.proofs.Common.{◌≡◌, refl, ap, sym, ◌∙◌, subst, arith, ℕ, zero, suc, ◌<◌, ◌-◌, Bool, true, false, if◌then◌else◌, ◌==◌, inl, inr, List, [], ◌∷◌, ◌++◌, length, Option, Some, None, is_some, unwrap_or}
use Rattle.std.proofs.lemmas.Bool.{cases_eq}
use Rattle.wf_frame.specs.declared.classes.Class.{Class}
use Rattle.wf_frame.specs.declared.classes.Cause.TheVariants.{Overlimit, Left, Retries, Flushed, Ended}
use Rattle.wf_frame.specs.declared.classes.Cause.{Cause}
use Rattle.wf_frame.specs.declared.classes.Fate.{Fate}
use Rattle.wf_frame.specs.declared.classes.Fate.TheVariants.{Held, Acked, Dropped}
use Rattle.wf_frame.specs.declared.notes.Note.{Note}
use Rattle.wf_frame.specs.declared.notes.Note.TheVariants.{Enqueue}
use Rattle.wf_frame.specs.Classes.{all_classes}
use Rattle.wf_def_lists.specs.Table.{at, has, upto}
use Rattle.wf_def_codel.specs.Codel.{Item, renewed as renewed_codel}
use Rattle.wf_def_rotation.specs.Rotation.{Rotation, has_key, in_order, no_keys}
use Rattle.wf_def_agreement.specs.Session.{End, Session, Slot, State, no_slot, slot, on_slot, is_settled, is_failed, is_waiting, after_flush, next_number, numbers_where, new_session, start_of}
use Rattle.wf_def_world.specs.World.{World, Mode, Station, Tid, Queue, Exchange, Mpdu, Content, Frames, Request, Frame, no_frame, no_tid, no_station, new_queue, queue, session, tid_of, is_live, accepted_count, on_queue, on_session, on_tid, on_station, on_share, with_mode, with_station, with_queues, with_rotation, with_fate, with_frame_finished, with_frames_finished, without_exchange}
use Rattle.wf_def_world.specs.FlowQueues.{is_at_limit, longest_queue, without_head, after_limit, queue_for, when_listed, with_listed_queue, with_appended, after_put_in, after_queue_left, after_queues_left, after_queue_flushed, after_queues_flushed}
use Rattle.wf_def_world.specs.Exchanges.{end_of, with_heard_start, mpdus_of, after_charge, with_settled, with_failed_finished, with_all_settled, after_done, ids_of, caught_up, caught_up_if_plain}
use Rattle.wf_def_world.specs.Step.{with_frame, enqueue_outcome, done_outcome, waiting_ids, in_rising_order, after_tid_left, after_tids_left, without_listings, leave_outcome, after_tid_flushed, flush_outcome, join_outcome, offload_outcome, plain_outcome, hold_outcome, begin_outcome, free_outcome, cease_outcome, after_numbers_ended, plain_window}
use Rattle.wf_law_rules.proofs.Lemmas.Tables.{each_put}
use Rattle.wf_law_rules.proofs.Lemmas.Counts.{on-has}
use Rattle.wf_law_rules.proofs.Lemmas.Numbers.{on_bool, on_if, eq_yes, eq_no, yes_eq, either, or_left, or_right}
use Rattle.wf_law_runs.proofs.Common.Ends.{slot_after_end, end_id, on_settled}
use Rattle.wf_law_runs.proofs.Common.Flushes.{waiting_is, slot_flush, flushed_stays, next-flush, if_caught}
use Rattle.wf_law_runs.proofs.Windows.Agreement.{slot_same}
use Rattle.wf_law_runs.proofs.Windows.Sides.{Side, Same, same_put_in, same_finish, same_finish_all, same_with_queues, same_charged, renewed, begun_is, ceased_is}
use Rattle.wf_law_runs.proofs.Windows.Settling.{without_same}
use Rattle.wf_law_runs.proofs.Windows.Agreed.{IsLawful, IsEnding, IsFound, ending_settled, ending_of, session_same, session_on_session, same_left_tids, same_off_lists}
use Rattle.wf_law_runs.proofs.Releases.Kept.{Kept, keep_settled}
use Rattle.wf_law_runs.proofs.Releases.Released.{side_with_station}
use Rattle.wf_law_runs.proofs.Frames.Fewer.{carries, queue_on, less_charged, less_drop_all}
use Rattle.wf_law_runs.proofs.Frames.Delivered.{Labelled, labelled_kept}
use Rattle.wf_law_runs.proofs.Frames.Fates.{IsHeld, InHand, Carries, bears_carried, ids_in, ids_carried, session_on_queue, fate_with_frame, head_gone, held_ids, waiting_member, IsWaiting, Pend, same_purge_queue, less_purge_queue, same_flush_queue, less_flush_queue, placed_flush_slots, session_on_receiver, queues_on_receiver}
use Rattle.wf_law_runs.proofs.Frames.Untouched.{untouched_on_queue, untouched_on_session, untouched_with_queues, untouched_without, untouched_charged, untouched_off_lists, untouched_with_station, untouched_put_in, untouched_on_receiver}
use Rattle.wf_law_runs.proofs.Frames.Owners.{IsOwned}
use Rattle.wf_law_runs.proofs.Deficits.MildStep.{on_upto}
use Rattle.wf_law_runs.proofs.Queues.ShelvedStep.{accepted_limit, accepted_put}
use Rattle.wf_law_runs.proofs.Frames.Covered.{Covers, Full, covers_frames, covers_more, covers_finish, covers_all, hand_same, queue_rest, queue_hand, hand_finish_all, hand_queue, hand_session, carries_other, carries_on_slot, covers_session, covers_on_tid, covers_calm}
use Rattle.wf_def_agreement.specs.Receiver.{with_start}
use Rattle.wf_law_runs.proofs.Releases.Placed.{less_left_tids, Placing, Any, placed_less, accepted_with_frame, side_with_frame, IsIdOf, has_ids}
use Rattle.wf_law_runs.proofs.Releases.Once.{placed_settled, placed_without}

queue_finish : (w : World) (fate : Fate) (id q k : ℕ) → carries (queue w q).items k ≡ true →
    carries (queue (with_frame_finished w fate id) q).items k ≡ true
unfolding with_frame_finished with_fate
queue_finish w fate id q k h = h

queues_charged : (air : Option ℕ) (w : World) (x : Exchange) (q k : ℕ) → carries (queue w q).items k ≡ true →
    carries (queue (after_charge (without_exchange w x.number) x air) q).items k ≡ true
unfolding after_charge without_exchange on_share on_station with_station
queues_charged air w x q k h = h

queues_with_queues : (w : World) (s t : ℕ) (r : Rotation) (q k : ℕ) → carries (queue w q).items k ≡ true →
    carries (queue (with_queues w s t r) q).items k ≡ true
unfolding with_queues on_tid on_station with_station
queues_with_queues w s t r q k h = h

queues_with_station : (w : World) (s : ℕ) (o : Option Station) (q k : ℕ) →
    carries (queue w q).items k ≡ true → carries (queue (with_station w s o) q).items k ≡ true
unfolding with_station
queues_with_station w s o q k h = h

queues_off_lists : (cs : List Class) (w : World) (s : ℕ) → (without_listings w s cs).queues ≡ w.queues
unfolding without_listings with_rotation
queues_off_lists [] w s = refl
queues_off_lists (c ∷ cs) w s = queues_off_lists cs _ s

queues_gone : (w : World) (s q k : ℕ) → carries (queue w q).items k ≡ true →
    carries (queue (with_station (without_listings w s all_classes) s None) q).items k ≡ true
queues_gone w s q k h = queues_with_station (without_listings w s all_classes) s None q k
    (ap (λ (qs : List Queue). carries (at new_queue qs q).items k) (queues_off_lists all_classes w s) ∙ h)

carries_heard : (b : Bool) (f : ℕ) (y : Session) (k n : ℕ) → Carries y k n →
    Carries (with_heard_start b f y) k n
carries_heard true f y k n c = record { from = c.from; below = c.below; unsettled = c.unsettled; id = c.id }
carries_heard false f y k n c = c

-- A station that is not live has no numbers.
dead_none : (w : World) (s t k n : ℕ) → is_live w s ≡ false → Carries (session w s t) k n → ⊥
dead_none w s t k n dead c = go (at None w.stations s) refl dead
  where
    go : (o : Option Station) → at None w.stations s ≡ o → is_some o ≡ false → ⊥
    go None e d =
        let bare : Carries (new_session 0 0) k n = subst
        (λ (o : Option Station). Carries (at no_tid (unwrap_or o no_station).tids t).session k n) e c in
        omega (arith, bare.from, bare.below)
    go (Some x) e d = cc d

same_left_tid : (w : World) (s t : ℕ) → Same w (after_tid_left w s t)
unfolding after_tids_left
same_left_tid w s t = same_left_tids (t ∷ []) w s

placed_left_tid : (l : List ℕ) (w : World) (s t : ℕ) → Placing l w → Placing l (after_tid_left w s t)
unfolding after_tids_left
placed_left_tid l w s t p = placed_less l w (after_tid_left w s t) (less_left_tids (t ∷ []) w s)
    (same_left_tid w s t).sides p

hand_finish : (w : World) (fate : Fate) (id k : ℕ) → InHand w k → InHand (with_frame_finished w fate id) k
hand_finish w fate id k i = hand_same w (with_frame_finished w fate id) k
    (λ q h. queue_finish w fate id q k h) (λ s t. sym (session_same w _ (same_finish w fate id) s t)) i

-- ---- a frame is enqueued

covers_head : (items : List Item) (l : List ℕ) (w : World) (q : ℕ) → (queue w q).items ≡ items → Placing l w →
    Full w → Full (without_head w q items)
unfolding without_head
covers_head [] l w q e p c = c
covers_head (x ∷ rest) l w q e p c =
    let g : Queue → Queue = λ y. record y { items = rest } in
    let u : World = on_queue w q g in
    let v : World = with_frame_finished u (Dropped Overlimit) x.id in
    let there : carries (queue w q).items x.id ≡ true =
    ap (λ (ys : List Item). carries ys x.id) e
    ∙ or_left (x.id == x.id) (carries rest x.id) (yes_eq x.id x.id refl) in
    covers_finish (InHand w) (InHand v) u (Dropped Overlimit) x.id (λ d. cc d)
    (subst (λ (fs : List Frame). x.id < length fs) (sym (untouched_on_queue w q g).frames)
    (p.queued q x.id there).old)
    (covers_frames (InHand w) w u (untouched_on_queue w q g).frames c)
    (λ k other i. elim (hand_queue w q k g i) [
      | inl a ↦ hand_finish u (Dropped Overlimit) x.id k a
      | inr b ↦ elim (either (x.id == k) (carries rest k)
          (ap (λ (ys : List Item). carries ys k) (sym e) ∙ b)) [
            | inl same ↦ absurd (other (sym (eq_yes x.id k same)))
            | inr r ↦ inl (record {
              place = q;
              there = ap (λ (ys : List Item). carries ys k)
                  (head_gone w q rest (Dropped Overlimit) x.id) ∙ r;
            })
          ]
    ])

covers_limit : (l : List ℕ) (w : World) → Placing l w → Full w → Full (after_limit w)
unfolding after_limit
covers_limit l w p c = on_if (λ (v : World). Full v) (is_at_limit w)
    (without_head w (longest_queue w) (queue w (longest_queue w)).items) w
    (λ _. covers_head (queue w (longest_queue w)).items l w (longest_queue w) refl p c) (λ _. c)

carries_front : (xs : List Item) (x : Item) (k : ℕ) → carries xs k ≡ true → carries (xs ++ x ∷ []) k ≡ true
carries_front [] x k h = absurd (cc h)
carries_front (y ∷ ys) x k h = elim (either (y.id == k) (carries ys k) h) [
  | inl e ↦
      or_left (y.id == k) _ e
  | inr e ↦ or_right (y.id == k) _ (carries_front ys x k e)
]

carries_last : (xs : List Item) (x : Item) → carries (xs ++ x ∷ []) x.id ≡ true
carries_last [] x = or_left (x.id == x.id) false (yes_eq x.id x.id refl)
carries_last (y ∷ ys) x = or_right (y.id == x.id) _ (carries_last ys x)

append_keeps : (u : World) (q : ℕ) (x : Item) (c k : ℕ) → carries (queue u c).items k ≡ true →
    carries (queue (with_appended u q x) c).items k ≡ true
unfolding with_appended on_queue
append_keeps u q x c k h = each_put (λ i y. carries (queue u i).items k ≡ true → carries y.items k ≡ true)
    new_queue u.queues q (record (queue u q) { items = (queue u q).items ++ x ∷ [] }) (λ i h. h)
    (λ h. carries_front (queue u q).items x k h) c h

append_last : (u : World) (q : ℕ) (x : Item) → carries (queue (with_appended u q x) q).items x.id ≡ true
unfolding with_appended
append_last u q x = ap (λ (y : Queue). carries y.items x.id)
    (queue_on u q (λ y. record y { items = y.items ++ x ∷ [] })) ∙ carries_last (queue u q).items x

listed_keeps : (u : World) (s t q c k : ℕ) → carries (queue u c).items k ≡ true →
    carries (queue (with_listed_queue u s t q) c).items k ≡ true
unfolding with_listed_queue with_queues on_tid on_station with_station on_queue
listed_keeps u s t q c k h = on_if (λ (v : World). carries (queue v c).items k ≡ true)
    (has_key (tid_of u s t).queues q) _ _ (λ _. h)
    (λ _. each_put (λ i y. carries (queue u i).items k ≡ true → carries y.items k ≡ true) new_queue u.queues q
    (when_listed u.config (queue u q)) (λ i h. h) (λ h. h) c h)

put_keeps : (u : World) (s t q : ℕ) (x : Item) (c k : ℕ) →
    carries (queue (with_appended u q x) c).items k ≡ true →
    carries (queue (after_put_in u s t q x) c).items k ≡ true
unfolding after_put_in
put_keeps u s t q x c k h = listed_keeps (with_appended u q x) s t q c k h

queue_with_frame : (w : World) (note : Note) (q : ℕ) → queue (with_frame w note) q ≡ queue w q
unfolding with_frame
queue_with_frame w note q = refl

pub covers_enqueued : (l : List ℕ) (w : World) (s t flow len : ℕ) → Placing l w → Full w →
    Full (enqueue_outcome w s t flow len).world
unfolding enqueue_outcome
covers_enqueued l w s t flow len p c =
    let u : World = after_limit w in
    let q : ℕ = queue_for u s t flow in
    let x : Item = record { id = accepted_count w; stamp = w.clock; len = len } in
    let a : World = after_put_in u s t q x in
    let note : Note = Enqueue s t flow len in
    let v : World = with_frame a note in
    let k : Full u = covers_limit l w p c in
    let forward : (r j : ℕ) → carries (queue (with_appended u q x) r).items j ≡ true →
    carries (queue v r).items j ≡ true = λ r j h.
    ap (λ (y : Queue). carries y.items j) (queue_with_frame a note r) ∙ put_keeps u s t q x r j h in
    let same_id : accepted_count a ≡ accepted_count w = accepted_put u s t q x ∙ accepted_limit l w p in
    let sides : (i j : ℕ) → session u i j ≡ session v i j =
    λ i j. sym (ap (λ (b : Side). b.session) (side_with_frame a note i j
    ∙ (same_put_in u s t q x).sides i j)) in
    record {
      covers = λ j below h. elim (cases_eq j (accepted_count w)) [
        | inl e ↦ inl (record {
          place = q;
          there = forward q j
              (subst (λ (n : ℕ). carries (queue (with_appended u q x) q).items n ≡ true) (sym e)
              (append_last u q x));
        })
        | inr other ↦ (
            let old : j < accepted_count u = omega (
              arith,
              below,
              accepted_with_frame a note,
              same_id,
              accepted_limit l w p,
              other,
            ) in
            let held : IsHeld u j = sym (ap (λ (fs : List Frame). (at no_frame fs j).fate)
            (untouched_put_in u s t q x).frames) ∙ (sym (fate_with_frame a note j) ∙ h) in
            hand_same u v j (λ r m. forward r j (append_keeps u q x r j m)) sides (k.covers j old held))
      ];
    }

-- ---- the end of an exchange

missed_open : (b : Bool) → is_failed (if b then State.Failed else State.Waiting) ≡ false →
    is_settled (if b then State.Failed else State.Waiting) ≡ false
missed_open true h = absurd (cc h)
missed_open false h = refl

-- A number that is neither acknowledged nor failed after its exchange is not settled.
end_open : (limit : ℕ) (end : End) (x : Slot) → (end ≡ End.Acknowledged → ⊥) →
    is_failed (slot_after_end limit end x).state ≡ false →
    is_settled (slot_after_end limit end x).state ≡ false
end_open limit End.Acknowledged x other h = absurd (other refl)
end_open limit End.Missed x other h = missed_open _ h
end_open limit End.GivenUp x other h = absurd (cc h)
end_open limit End.Unsent x other h = refl

-- The frame of a number that is settled now gets its fate.
covers_slot : (l : List ℕ) (e s t : ℕ) (ends : ℕ → End) (w : World) (m : Mpdu) (ms : List Mpdu)
    (f : Slot → Slot) (fate : Fate) → (fate ≡ Held → ⊥) → ((x : Slot) → (f x).id ≡ x.id) →
    IsEnding e s t ends w (m ∷ ms) → (slot (session w s t) m.number).id ≡ m.id
    → Placing l w → Full w → Full (with_frame_finished (on_session w s t (on_slot m.number f)) fate m.id)
covers_slot l e s t ends w m ms f fate never same_id n own p c =
    let y : Session = session w s t in
    let v : World = on_session w s t (on_slot m.number f) in
    let frames : v.frames ≡ w.frames = (untouched_on_session w s t (on_slot m.number f)).frames in
    let old : (slot y m.number).id < accepted_count w =
    (p.numbered s t m.number n.flies.rising.0 n.flies.rising.1).old in
    covers_finish (InHand w) (InHand (with_frame_finished v fate m.id)) v fate m.id never
    (subst (λ (fs : List Frame). m.id < length fs) (sym frames)
    (subst (λ (i : ℕ). i < accepted_count w) own old))
    (covers_frames (InHand w) w v frames c)
    (λ k other i. hand_finish v fate m.id k (hand_session w s t k (on_slot m.number f)
    (λ j d. carries_other y m.number k j f n.flies.rising.0 same_id
    (λ e. other (sym d.id ∙ (ap (λ (i : ℕ). (slot y i).id) (sym e) ∙ own))) d) i))

covers_settled : (end : End) (l : List ℕ) (e s t : ℕ) (ends : ℕ → End) (w : World) (m : Mpdu)
    (ms : List Mpdu) → IsEnding e s t ends w (m ∷ ms) → (slot (session w s t) m.number).id ≡ m.id →
    Placing l w → Full w → Full (with_settled w s t end m)
unfolding with_settled with_failed_finished
covers_settled end l e s t ends w m ms n own p c =
    let y : Session = session w s t in
    let limit : ℕ = w.config.attempts in
    let f : Slot → Slot = slot_after_end limit end in
    let v : World = on_session w s t (on_slot m.number f) in
    let state : (slot (session v s t) m.number).state ≡ (f (slot y m.number)).state =
    ap (λ (u : Session). (slot u m.number).state) (session_on_session w s t (on_slot m.number f) n.live)
    ∙ ap (λ (x : Slot). x.state) (slot_same y m.number f) in
    on_settled Full end w s t m
    (λ _. covers_slot l e s t ends w m ms (λ x. record x { state = State.Acked }) Acked (λ d. cc d)
    (λ x. refl) n own p c)
    (λ other. on_if (λ (u : World). Full u) (is_failed (slot (session v s t) m.number).state)
    (with_frame_finished v (Dropped Retries) m.id) v
    (λ _. covers_slot l e s t ends w m ms f (Dropped Retries) (λ d. cc d) (λ x. end_id limit end x) n own p c)
    (λ open_still. covers_session w s t (on_slot m.number f)
    (λ k j d. carries_on_slot y m.number k j f n.flies.rising.0 (λ x. end_id limit end x)
    (end_open limit end (slot y m.number) other (ap is_failed (sym state) ∙ open_still)) d) c))

covers_all_settled : (ms : List Mpdu) (l : List ℕ) (e s t : ℕ) (ends : ℕ → End) (w : World) →
    IsEnding e s t ends w ms → Labelled (session w s t) ms → Placing l w → Full w →
    Full (with_all_settled w s t ends ms)
unfolding with_all_settled
covers_all_settled [] l e s t ends w n a p c = c
covers_all_settled (m ∷ ms) l e s t ends w n a p c =
    let v : World = with_settled w s t (ends m.number) m in
    let kept : Kept w v = keep_settled (ends m.number) w s t m in
    covers_all_settled ms l e s t ends v (ending_settled (ends m.number) e s t ends w m ms refl n)
    (labelled_kept ms (session w s t) (session v s t) (suc m.number) (kept.sessions s t)
    (omega (arith, n.flies.rising.0)) n.flies.rising.2 a.1)
    (placed_settled (ends m.number) l e s t ends w m ms n p)
    (covers_settled (ends m.number) l e s t ends w m ms n a.0 p c)

-- A TID without an agreement catches up.
covers_caught : (w : World) (s t : ℕ) → Full w → Full (caught_up w s t)
unfolding caught_up
covers_caught w s t c =
    let start : ℕ = start_of (session w s t) in
    let f : Session → Session = with_heard_start true start in
    let u : World = on_session w s t f in
    covers_calm u _ (λ q k h. ap (λ (qs : List Queue). carries (at new_queue qs q).items k)
    (sym (queues_on_receiver u s t (with_start start))) ∙ h) (session_on_receiver u s t (with_start start))
    (untouched_on_receiver u s t (with_start start)).frames
    (covers_session w s t f (λ k n d. carries_heard true start _ k n d) c)

covers_caught_up : (w : World) (s t : ℕ) → Full w → Full (caught_up_if_plain w s t)
covers_caught_up w s t c = if_caught Full w s t c (λ _. covers_caught w s t c)

covers_after : (air : Option ℕ) (c : Content) (l : List ℕ) (w : World) (i : IsLawful w) (x : Exchange)
    (heard : Bool) →
    x.content ≡ c → IsFound w i x → Labelled (session w x.station x.tid) (mpdus_of c) →
    Placing l (after_charge (without_exchange w x.number) x air) →
    Full (after_charge (without_exchange w x.number) x air)
    → Full (after_done (after_charge (without_exchange w x.number) x air) x heard c)
unfolding after_done
covers_after air (Frames ms) l w i x heard e f a p c =
    let v : World = after_charge (without_exchange w x.number) x air in
    let d : session v x.station x.tid ≡ session w x.station x.tid =
    session_same _ _ (same_charged air (without_exchange w x.number) x) x.station x.tid
    ∙ without_same w x.number x.station x.tid in
    covers_caught_up _ x.station x.tid (covers_all_settled ms l x.number x.station x.tid (end_of v x heard) v
    (ending_of air w i x ms heard e f) (subst (λ (y : Session). Labelled y ms) (sym d) a) p c)
covers_after air (Request g) l w i x heard e f a p c =
    covers_session (after_charge (without_exchange w x.number) x air) x.station x.tid
    (with_heard_start heard g)
    (λ k n d. carries_heard heard g _ k n d) c

covers_without : (air : Option ℕ) (w : World) (x : Exchange) → Full w →
    Full (after_charge (without_exchange w x.number) x air)
unfolding after_charge without_exchange on_share
covers_without air w x c = covers_calm w _ (λ q k h. queues_charged air w x q k h)
    (λ s t. session_same _ _ (same_charged air (without_exchange w x.number) x) s t
    ∙ without_same w x.number s t)
    ((untouched_charged air (without_exchange w x.number) x).frames ∙ (untouched_without w x.number).frames) c

pub covers_ended : (air : Option ℕ) (l : List ℕ) (w : World) (i : IsLawful w) (x : Exchange) (heard : Bool) →
    IsFound w i x →
    Labelled (session w x.station x.tid) (mpdus_of x.content) → Placing l w → Full w →
    Full (done_outcome w x heard air).world
unfolding done_outcome
covers_ended air l w i x heard f a p c =
    let u : World = without_exchange w x.number in
    covers_after air x.content l w i x heard refl f a
    (placed_less l u (after_charge u x air) (less_charged air Any u x) (same_charged air u x).sides
    (placed_without l w x.number p)) (covers_without air w x c)

-- ---- a station leaves

-- The frames of a leaving station. Its TIDs ts are not yet cleared.
forward_pend : (s : ℕ) (ts : List ℕ) (w v : World) (k : ℕ) →
    ((q : ℕ) → carries (queue w q).items k ≡ true → carries (queue v q).items k ≡ true) →
    ((i j : ℕ) → session v i j ≡ session w i j) → Pend s ts w k → Pend s ts v k
forward_pend s ts w v k h d p = elim p [
  | inl q ↦ inl (record { place = q.place; there = h q.place q.there })
  | inr a ↦ inr (record {
    spot = record {
      station = a.spot.station;
      tid = a.spot.tid;
      number = a.spot.number;
      slot_of =
          subst (λ (y : Session). Carries y k a.spot.number)
          (sym (d a.spot.station a.spot.tid)) a.spot.slot_of;
    };
    other = a.other;
  })
]

held_has : (xs : List Slot) (i : ℕ) → (at no_slot xs i).state ≡ State.Waiting →
    has (waiting_ids xs) (at no_slot xs i).id ≡ true
held_has [] i h = absurd (cc h)
held_has (x ∷ xs) zero h = on_if (λ (ids : List ℕ). has ids x.id ≡ true) (is_waiting x.state)
    (x.id ∷ waiting_ids xs) (waiting_ids xs) (λ _. or_left (x.id == x.id) _ (yes_eq x.id x.id refl))
    (λ e. absurd (cc (e, ap is_waiting h)))
held_has (x ∷ xs) (suc i) h =
    on_if (λ (ids : List ℕ). has ids (at no_slot xs i).id ≡ true) (is_waiting x.state) (x.id ∷ waiting_ids xs)
    (waiting_ids xs)
    (λ _. or_right (x.id == (at no_slot xs i).id) _ (held_has xs i h)) (λ _. held_has xs i h)

-- No number of the station is on the air.
pub record IsQuiet (s : ℕ) (w : World) : Type 0 where
  pub waits : (t n k : ℕ) → Carries (session w s t) k n → (slot (session w s t) n).state ≡ State.Waiting

quiet_same : (s : ℕ) (w v : World) → ((t : ℕ) → session v s t ≡ session w s t) → IsQuiet s w → IsQuiet s v
quiet_same s w v d q = record {
  waits = λ t n k c. ap (λ (y : Session). (slot y n).state) (d t)
      ∙ q.waits t n k (subst (λ (y : Session). Carries y k n) (d t) c);
}

held_old : (l : List ℕ) (w : World) (s t k : ℕ) → Placing l w →
    has (waiting_ids (session w s t).slots) k ≡ true → k < accepted_count w
held_old l w s t k p h =
    let y : Session = session w s t in
    let e : waiting_ids y.slots ≡ ids_of y (numbers_where is_waiting y.first y.slots) =
    held_ids y.slots y y.first (λ i. ap (at no_slot y.slots) (omega arith)) in
    let o : IsIdOf y (numbers_where is_waiting y.first y.slots) k =
    has_ids (numbers_where is_waiting y.first y.slots) y k (ap (λ (xs : List ℕ). has xs k) (sym e) ∙ h) in
    let m : IsWaiting y y.first (next_number y) o.number =
    waiting_member y.slots y y.first o.number (λ i. ap (at no_slot y.slots) (omega arith)) o.among in
    subst (λ (i : ℕ). i < accepted_count w) o.id (p.numbered s t o.number m.from m.below).old

gone_id : (w : World) (s t k n : ℕ) → has (waiting_ids (session w s t).slots) k ≡ false → IsQuiet s w →
    Carries (session w s t) k n → ⊥
gone_id w s t k n none q c = cc (
  none,
  subst (λ (i : ℕ). has (waiting_ids (session w s t).slots) i ≡ true)
      c.id (held_has (session w s t).slots (n - (session w s t).first) (q.waits t n k c)),
)

pend_held : (l : List ℕ) (w : World) (s t : ℕ) (ts : List ℕ) → Placing l w → IsQuiet s w →
    Covers (Pend s (t ∷ ts) w) w → Covers (Pend s ts
    (with_frames_finished w (Dropped Left) (waiting_ids (session w s t).slots)))
    (with_frames_finished w (Dropped Left) (waiting_ids (session w s t).slots))
pend_held l w s t ts p q c =
    let y : Session = session w s t in
    let ids : List ℕ = waiting_ids y.slots in
    let v : World = with_frames_finished w (Dropped Left) ids in
    let forward : (k : ℕ) → Pend s ts w k → Pend s ts v k =
    λ k i. forward_pend s ts w v k (λ r h. queue_rest ids w (Dropped Left) r k h)
    (session_same w v (same_finish_all ids w (Dropped Left))) i in
    covers_all ids (Pend s (t ∷ ts) w) (Pend s ts v) w (Dropped Left) (λ d. cc d)
    (λ k h. held_old l w s t k p h) c
    (λ k none i. elim i [
      | inl r ↦ forward k (inl r)
      | inr a ↦ elim a.other [
        | inl ne ↦ forward k (inr (record { spot = a.spot; other = inl ne }))
        | inr among ↦ elim (either (t == a.spot.tid) (has ts a.spot.tid) among) [
          | inr later ↦ forward k (inr (record { spot = a.spot; other = inr later }))
          | inl here ↦ elim (cases_eq a.spot.station s) [
            | inr ne ↦ forward k (inr (record { spot = a.spot; other = inl ne }))
            | inl own ↦ absurd (gone_id w s t k a.spot.number none q
                (subst (λ (j : ℕ). Carries (session w s j) k a.spot.number) (sym (eq_yes t a.spot.tid here))
                (subst (λ (i : ℕ). Carries (session w i a.spot.tid) k a.spot.number) own a.spot.slot_of)))
          ]
        ]
      ]
    ])

pend_one : (l : List ℕ) (w : World) (s : ℕ) (ts : List ℕ) (q : ℕ) → Placing l w → Covers (Pend s ts w) w →
    Covers (Pend s ts (after_queue_left w q)) (after_queue_left w q)
unfolding after_queue_left
pend_one l w s ts q p c =
    let g : Queue → Queue = λ y. record y { items = []; codel = renewed_codel y.codel } in
    let u : World = on_queue w q g in
    let ids : List ℕ = ids_in (queue w q).items in
    let v : World = with_frames_finished u (Dropped Left) ids in
    covers_all ids (Pend s ts w) (Pend s ts v) u (Dropped Left) (λ d. cc d)
    (λ k h. subst (λ (fs : List Frame). k < length fs) (sym (untouched_on_queue w q g).frames)
    (p.queued q k (sym (ids_carried (queue w q).items k) ∙ h)).old)
    (covers_frames (Pend s ts w) w u (untouched_on_queue w q g).frames c)
    (λ k none i. elim i [
      | inl r ↦ elim (queue_hand w q k g r) [
        | inl b ↦ inl (record { place = b.place; there = queue_rest ids u (Dropped Left) b.place k b.there })
        | inr b ↦ absurd (cc (none, ids_carried (queue w q).items k ∙ b))
      ]
      | inr a ↦ inr (record {
        spot = record {
          station = a.spot.station;
          tid = a.spot.tid;
          number = a.spot.number;
          slot_of =
              subst (λ (y : Session). Carries y k a.spot.number)
              (sym (session_same u v (same_finish_all ids u (Dropped Left)) a.spot.station a.spot.tid
              ∙ session_on_queue w q g a.spot.station a.spot.tid)) a.spot.slot_of;
        };
        other = a.other;
      })
    ])

pend_purged : (qs : List ℕ) (l : List ℕ) (w : World) (s : ℕ) (ts : List ℕ) → Placing l w →
    Covers (Pend s ts w) w → Covers (Pend s ts (after_queues_left w qs)) (after_queues_left w qs)
unfolding after_queues_left
pend_purged [] l w s ts p c = c
pend_purged (q ∷ qs) l w s ts p c = pend_purged qs l (after_queue_left w q) s ts
    (placed_less l w (after_queue_left w q) (less_purge_queue w q) (same_purge_queue w q).sides p)
    (pend_one l w s ts q p c)

pend_left : (l : List ℕ) (w : World) (s t : ℕ) (ts : List ℕ) → Placing l w → IsQuiet s w →
    Covers (Pend s (t ∷ ts) w) w → Covers (Pend s ts (after_tid_left w s t)) (after_tid_left w s t)
unfolding after_tid_left
pend_left l w s t ts p q c =
    let ids : List ℕ = waiting_ids (session w s t).slots in
    let a : World = with_frames_finished w (Dropped Left) ids in
    let qs : List ℕ = in_rising_order (in_order (tid_of w s t).queues) in
    let b : World = after_queues_left a qs in
    let v : World = with_queues b s t no_keys in
    let ka : Covers (Pend s ts a) a = pend_held l w s t ts p q c in
    let kb : Covers (Pend s ts b) b = pend_purged qs l a s ts
    (placed_less l w a (less_drop_all Any ids w (Dropped Left) (λ e. cc e))
    (same_finish_all ids w (Dropped Left)).sides p) ka in
    covers_frames (Pend s ts v) b v (untouched_with_queues b s t no_keys).frames
    (covers_more (Pend s ts b) (Pend s ts v) b
    (λ k i. forward_pend s ts b v k (λ r h. queues_with_queues b s t no_keys r k h)
    (session_same b v (same_with_queues b s t no_keys)) i) kb)

pend_all : (ts : List ℕ) (l : List ℕ) (w : World) (s : ℕ) → Placing l w → IsQuiet s w →
    Covers (Pend s ts w) w → Covers (Pend s [] (after_tids_left w s ts)) (after_tids_left w s ts)
unfolding after_tids_left
pend_all [] l w s p q c = c
pend_all (t ∷ ts) l w s p q c =
    let v : World = after_tid_left w s t in
    let k : Same w v = same_left_tid w s t in
    pend_all ts l v s (placed_left_tid l w s t p) (quiet_same s w v (λ t. session_same w v k s t) q)
    (pend_left l w s t ts p q c)

pub covers_gone : (l : List ℕ) (w : World) (s : ℕ) → Placing l w → IsQuiet s w → IsOwned w → Full w →
    Full (leave_outcome w s).world
unfolding leave_outcome
covers_gone l w s p q o c =
    let a : World = after_tids_left w s (upto 8) in
    let b : World = without_listings a s all_classes in
    let v : World = with_station b s None in
    let first : Covers (Pend s (upto 8) w) w = covers_more (InHand w) (Pend s (upto 8) w) w (λ k i. elim i [
      | inl r ↦ inl r
      | inr d ↦ inr (record {
        spot = d;
        other = inr
            (on-has (upto 8) d.tid (on_upto 8 d.tid (o.mine d.station d.tid k d.number
            (bears_carried _ _ _ d.slot_of)).1));
      })
    ]) c in
    let k : Covers (Pend s [] a) a = pend_all (upto 8) l w s p q first in
    let frames : v.frames ≡ a.frames = (untouched_with_station b s None).frames
    ∙ (untouched_off_lists all_classes a s).frames in
    covers_frames (InHand v) a v frames (covers_more (Pend s [] a) (InHand v) a (λ j i. elim i [
      | inl r ↦ inl (record { place = r.place; there = queues_gone a s r.place j r.there })
      | inr d ↦ elim d.other [
        | inl ne ↦ inr (record {
          station = d.spot.station;
          tid = d.spot.tid;
          number = d.spot.number;
          slot_of = subst (λ (y : Session). Carries y j d.spot.number)
              (sym (ap (λ (z : Side). z.session) (side_with_station b s d.spot.station d.spot.tid None
              (λ e. ne (sym e))) ∙ session_same a b (same_off_lists all_classes a s) d.spot.station
              d.spot.tid)) d.spot.slot_of;
        })
        | inr none ↦ absurd (cc none)
      ]
    ]) k)

-- ---- a flush

carries_flush : (limit : ℕ) (y : Session) (k n : ℕ) → has (waiting_ids y.slots) k ≡ false → Carries y k n →
    Carries (after_flush limit y) k n
carries_flush limit y k n none c = on_bool (is_waiting (slot y n).state)
    (λ waits. absurd (cc (
      none,
      subst (λ (i : ℕ). has (waiting_ids y.slots) i ≡ true) c.id
          (held_has y.slots (n - y.first) (waiting_is (slot y n).state waits)),
    )))
    (λ stays.
    let d : slot (after_flush limit y) n ≡ slot y n =
    slot_flush limit y n ∙ flushed_stays limit (slot y n) stays in
    record {
      from = c.from;
      below = omega (arith, c.below, next-flush limit y);
      unsettled = ap (λ (x : Slot). is_settled x.state) d ∙ c.unsettled;
      id = ap (λ (x : Slot). x.id) d ∙ c.id;
    })

covers_flush_slots : (cause : Cause) (l : List ℕ) (w : World) (s t : ℕ) → Placing l w → Full w →
    Full (with_frames_finished (on_session w s t (after_flush w.config.attempts)) (Dropped cause)
    (waiting_ids (session w s t).slots))
covers_flush_slots cause l w s t p c =
    let y : Session = session w s t in
    let f : Session → Session = after_flush w.config.attempts in
    let u : World = on_session w s t f in
    let ids : List ℕ = waiting_ids y.slots in
    covers_all ids (InHand w) (InHand (with_frames_finished u (Dropped cause) ids)) u (Dropped cause)
    (λ d. cc d)
    (λ k h. subst (λ (fs : List Frame). k < length fs) (sym (untouched_on_session w s t f).frames)
    (held_old l w s t k p h))
    (covers_frames (InHand w) w u (untouched_on_session w s t f).frames c)
    (λ k none i. hand_finish_all ids u (Dropped cause) k
    (hand_session w s t k f (λ n d. carries_flush w.config.attempts y k n none d) i))

covers_flush_queue : (l : List ℕ) (w : World) (q : ℕ) → Placing l w → Full w → Full (after_queue_flushed w q)
unfolding after_queue_flushed
covers_flush_queue l w q p c =
    let g : Queue → Queue = λ y. record y { items = [] } in
    let u : World = on_queue w q g in
    let ids : List ℕ = ids_in (queue w q).items in
    let v : World = with_frames_finished u (Dropped Flushed) ids in
    covers_all ids (InHand w) (InHand v) u (Dropped Flushed) (λ d. cc d)
    (λ k h. subst (λ (fs : List Frame). k < length fs) (sym (untouched_on_queue w q g).frames)
    (p.queued q k (sym (ids_carried (queue w q).items k) ∙ h)).old)
    (covers_frames (InHand w) w u (untouched_on_queue w q g).frames c)
    (λ k none i. elim (hand_queue w q k g i) [
      | inl a ↦ hand_finish_all ids u (Dropped Flushed) k a
      | inr b ↦ absurd (cc (none, ids_carried (queue w q).items k ∙ b))
    ])

covers_flush_queues : (qs : List ℕ) (l : List ℕ) (w : World) → Placing l w → Full w →
    Full (after_queues_flushed w qs)
unfolding after_queues_flushed
covers_flush_queues [] l w p c = c
covers_flush_queues (q ∷ qs) l w p c = covers_flush_queues qs l (after_queue_flushed w q)
    (placed_less l w (after_queue_flushed w q) (less_flush_queue w q) (same_flush_queue w q).sides p)
    (covers_flush_queue l w q p c)

pub covers_flushed : (l : List ℕ) (w : World) (s t : ℕ) → Placing l w → Full w →
    Full (flush_outcome w s t).world
unfolding flush_outcome after_tid_flushed
covers_flushed l w s t p c =
    covers_caught_up _ s t (covers_flush_queues (in_rising_order (in_order (tid_of w s t).queues)) l _
    (placed_flush_slots Flushed l w s t p) (covers_flush_slots Flushed l w s t p c))

-- ---- a TID is held or free, and its agreement begins or ends

pub covers_held : (w : World) (s t : ℕ) → Full w → Full (hold_outcome w s t).world
unfolding hold_outcome with_mode
covers_held w s t c = covers_on_tid w s t _ (λ k n d. d) c

-- A TID whose agreement begins or ends keeps its unsettled numbers.
carries_renewed : (start size : ℕ) (mode : Mode) (y : Tid) (k n : ℕ) → Carries y.session k n →
    Carries (renewed start size mode y).session k n
carries_renewed start size mode y k n d =
    record { from = d.from; below = d.below; unsettled = d.unsettled; id = d.id }

pub covers_begun : (w : World) (s t window : ℕ) → Full w → Full (begin_outcome w s t window).world
covers_begun w s t window c = subst Full (sym (begun_is w s t window))
    (covers_on_tid w s t _ (carries_renewed (start_of (session w s t)) window Mode.Agreed (tid_of w s t)) c)

pub covers_freed : (w : World) (s t : ℕ) → Full w → Full (free_outcome w s t).world
unfolding free_outcome with_mode
covers_freed w s t c = covers_on_tid w s t _ (λ k n d. d) c

covers_numbers_ended : (l : List ℕ) (w : World) (s t : ℕ) → Placing l w → Full w →
    Full (after_numbers_ended w s t)
unfolding after_numbers_ended
covers_numbers_ended l w s t p c = covers_flush_slots Ended l w s t p c

pub covers_ceased : (l : List ℕ) (w : World) (s t : ℕ) → Placing l w → Full w →
    Full (cease_outcome w s t).world
covers_ceased l w s t p c =
    let v : World = after_numbers_ended w s t in
    subst Full (sym (ceased_is w s t)) (covers_on_tid v s t _
    (carries_renewed (start_of (session v s t)) plain_window Mode.OnHold (tid_of v s t))
    (covers_numbers_ended l w s t p c))

-- ---- a station joins

covers_new : (w : World) (s : ℕ) (x : Station) → is_live w s ≡ false → Full w →
    Full (with_station w s (Some x))
covers_new w s x dead c =
    covers_frames (InHand (with_station w s (Some x))) w _ (untouched_with_station w s (Some x)).frames
    (covers_more (InHand w) (InHand (with_station w s (Some x))) w (λ j i. elim i [
      | inl r ↦ inl (record { place = r.place; there = queues_with_station w s (Some x) r.place j r.there })
      | inr d ↦ on_bool (s == d.station)
          (λ own.
          let e : s ≡ d.station = eq_yes s d.station own in
          absurd (dead_none w s d.tid j d.number dead (subst
          (λ (n : ℕ). Carries (session w n d.tid) j d.number) (sym e) d.slot_of)))
          (λ other. inr (record {
            station = d.station;
            tid = d.tid;
            number = d.number;
            slot_of = subst (λ (y : Session). Carries y j d.number)
                (sym (ap (λ (z : Side). z.session) (side_with_station w s d.station d.tid (Some x)
                (eq_no s d.station other)))) d.slot_of;
          }))
    ]) c)

pub covers_joined : (w : World) (s window start exponent weight : ℕ) → is_live w s ≡ false → Full w →
    Full (join_outcome w s window start exponent weight).world
unfolding join_outcome
covers_joined w s window start exponent weight dead c = covers_new w s _ dead c

pub covers_offloaded : (w : World) (s exponent weight : ℕ) → is_live w s ≡ false → Full w →
    Full (offload_outcome w s exponent weight).world
unfolding offload_outcome
covers_offloaded w s exponent weight dead c = covers_new w s _ dead c

pub covers_unagreed : (w : World) (s start exponent weight : ℕ) → is_live w s ≡ false → Full w →
    Full (plain_outcome w s start exponent weight).world
unfolding plain_outcome
covers_unagreed w s start exponent weight dead c = covers_new w s _ dead c
