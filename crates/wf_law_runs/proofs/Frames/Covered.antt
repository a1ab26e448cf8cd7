-- Defines that each held frame is in a queue or at an unsettled number, and proves that parts of a call
-- keep this.
use Rattle.std.proofs.Common.{pos, ◌-ℤ◌, ◌≡◌, ◌≢◌, refl, ap, sym, ◌∙◌, subst, arith, ℕ, zero, suc, ◌<◌, ◌≤◌, ◌-◌, ◌+◌, Bool, true, false, if◌then◌else◌, ◌==◌, ◌||◌, ◌⊎◌, inl, inr, List, [], ◌∷◌, ◌++◌, map, length, Option, Some, None, IfSome}
use Rattle.wf_frame.specs.declared.classes.Cause.{Cause}
use Rattle.wf_frame.specs.declared.classes.Class.{Class}
use Rattle.wf_frame.specs.declared.notes.Limits.{Limits}
use Rattle.wf_def_rotation.specs.Rotation.{Rotation, in_order}
use Rattle.wf_def_agreement.specs.Session.{request_due, Session, Slot, State, slot, on_slot, is_settled, next_number, with_number_given}
use Rattle.wf_def_world.specs.World.{Mpdu, Exchange, tid_of, is_live, rotation, codel_params, with_queues, on_share, with_rotation, on_tid, on_station, with_station, World, Tid, Queue, Frame, no_frame, new_queue, queue, session, frame, accepted_count, on_queue, on_session, with_fate, with_frame_finished, with_frames_finished}
use Rattle.wf_def_world.specs.FlowQueues.{len_given, with_queues_paid, taken_by_codel, taken_from_picked, picked_queue, taken_for_tid}
use Rattle.wf_def_world.specs.CanSend.{is_ready}
use Rattle.wf_def_world.specs.Exchanges.{Aggregate, Prepared, with_number, with_fresh, aggregate_of, longest_fitting, waiting_mpdus, most_frames, with_flying, prepared_data, prepared_exchange, sending_tid, after_tid_turn, after_pick, with_stations_paid, with_station_paid, picked_station, station_need, with_exchange_opened, exchange_of, with_spent}
use Rattle.wf_def_world.specs.Step.{send_outcome, pull_outcome_for, pull_outcome}
use Rattle.wf_law_runs.proofs.Sessions.Flights.{Rises, next-give}
use Rattle.wf_law_runs.proofs.Windows.Agreement.{slot_give, slot_new, slot_same, slot_other}
use Rattle.wf_law_runs.proofs.Windows.Sides.{Same, then_same, same_take, same_pay_queues, same_with_queues, same_spent, same_after_turn, same_finish_all, each_side_on, same_picked}
use Rattle.wf_law_runs.proofs.Windows.Opened.{some_along, left_true, pick_ready}
use Rattle.wf_law_runs.proofs.Windows.Agreed.{IsLawful, IsReady, ready_filled, lawful_same, session_same, session_on_session}
use Rattle.wf_law_runs.proofs.Releases.Placed.{Placing, Any, placed_less, slot_new_id}
use Rattle.wf_law_runs.proofs.Frames.Fewer.{Less, then_less, less_pay_queues, less_with_queues, less_after_turn, queues_dropped, carries, queue_on, less_picked}
use Rattle.wf_law_runs.proofs.Frames.Fates.{Fresh, Safe, safe_calm, safe_numbered, dropped_dequeue, given_dequeued-is, IsHeld, InQueue, InHand, Carries, ids_in, ids_carried, IsGivenId, at_slot_same, session_on_queue}
use Rattle.wf_law_runs.proofs.Frames.Untouched.{untouched_on_queue, untouched_with_queues, untouched_pay_queues, untouched_on_session, untouched_spent, untouched_after_turn, untouched_picked, untouched_on_tid}
use Rattle.wf_law_runs.proofs.Queues.Shelves.{Shelves, shelves_pay_queues}
use Rattle.wf_law_runs.proofs.Queues.ShelvedStep.{live_number}
use Rattle.wf_law_runs.proofs.Releases.Kept.{KeptSession, kept_on_slot}
use Rattle.std.proofs.lemmas.Bool.{cases_eq}
use Rattle.wf_frame.specs.declared.classes.Cause.TheVariants.{Codel as By_codel}
use Rattle.wf_frame.specs.declared.classes.Fate.{Fate}
use Rattle.wf_frame.specs.declared.classes.Fate.TheVariants.{Held, Dropped}
use Rattle.wf_def_lists.specs.Table.{at, put, has}
use Rattle.wf_def_codel.specs.Codel.{Item, Params, Codel, Dequeued, dequeue}
use Rattle.wf_law_rules.proofs.Lemmas.Tables.{at_put_same, at_put_other}
use Rattle.wf_law_rules.proofs.Lemmas.Numbers.{on_bool, not_eq, eq_yes, eq_no, either, or_left, or_right, yes_eq}
use Rattle.wf_law_rules.proofs.Lemmas.Dequeues.{each_dequeue}
use Rattle.wf_law_rules.proofs.Lemmas.Sums.{length_put}
use Rattle.wf_law_runs.proofs.Common.Picked.{picked_world}

-- P holds for each held frame.
pub record Covers (P : ℕ → Type 0) (w : World) : Type 0 where
  pub covers : (k : ℕ) → k < accepted_count w → IsHeld w k → P k

abbrev pub Full : World → Type 0
Full w = Covers (InHand w) w

pub covers_frames : (P : ℕ → Type 0) (w v : World) → v.frames ≡ w.frames → Covers P w → Covers P v
covers_frames P w v e c = record {
  covers = λ k l h.
      c.covers k (subst (λ (fs : List Frame). k < length fs) e l)
      (sym (ap (λ (fs : List Frame). (at no_frame fs k).fate) e) ∙ h);
}

pub covers_more : (P Q : ℕ → Type 0) (w : World) → ((k : ℕ) → P k → Q k) → Covers P w → Covers Q w
covers_more P Q w f c = record { covers = λ k l h. f k (c.covers k l h) }

pub accepted_finish : (w : World) (fate : Fate) (id : ℕ) → id < accepted_count w →
    accepted_count (with_frame_finished w fate id) ≡ accepted_count w
unfolding with_frame_finished with_fate
accepted_finish w fate id l = length_put no_frame w.frames id _ l

pub covers_finish : (P Q : ℕ → Type 0) (w : World) (fate : Fate) (id : ℕ) → (fate ≡ Held → ⊥) →
    id < accepted_count w → Covers P w → ((k : ℕ) → k ≢ id → P k → Q k) →
    Covers Q (with_frame_finished w fate id)
unfolding with_frame_finished with_fate
covers_finish P Q w fate id never l c f = record {
  covers = λ k below h. elim (cases_eq id k) [
    | inl e ↦ absurd (never (sym (ap (λ (x : Frame). x.fate)
        (at_put_same no_frame w.frames id (record (frame w id) { fate = fate })))
        ∙ ap (λ (j : ℕ). (at no_frame (put no_frame w.frames id (record (frame w id) { fate = fate }))
        j).fate) e ∙ h))
    | inr other ↦ f k (λ e. other (sym e)) (c.covers k
        (omega (arith, below, length_put no_frame w.frames id (record (frame w id) { fate = fate }) l))
        (sym (ap (λ (x : Frame). x.fate) (at_put_other no_frame w.frames id k
        (record (frame w id) { fate = fate }) other)) ∙ h))
  ];
}

pub covers_all : (ids : List ℕ) (P Q : ℕ → Type 0) (w : World) (fate : Fate) → (fate ≡ Held → ⊥) →
    ((k : ℕ) → has ids k ≡ true → k < accepted_count w) → Covers P w →
    ((k : ℕ) → has ids k ≡ false → P k → Q k) → Covers Q (with_frames_finished w fate ids)
unfolding with_frames_finished
covers_all [] P Q w fate never old c f = covers_more P Q w (λ k p. f k refl p) c
covers_all (x ∷ xs) P Q w fate never old c f =
    let l : x < accepted_count w = old x (or_left (x == x) (has xs x) (yes_eq x x refl)) in
    covers_all xs (λ k. P k × (k ≢ x)) Q (with_frame_finished w fate x) fate never
    (λ k e. omega (arith, accepted_finish w fate x l, old k (or_right (x == k) (has xs k) e)))
    (covers_finish P (λ k. P k × (k ≢ x)) w fate x never l c (λ k other p. (p, other)))
    (λ k none p. f k (ap (λ (b : Bool). b || has xs k) (not_eq x k (λ e. p.1 (sym e))) ∙ none) p.0)

-- ---- changes that keep frames in their places

pub hand_same : (w v : World) (k : ℕ) → ((q : ℕ) → carries (queue w q).items k ≡ true →
    carries (queue v q).items k ≡ true) → ((s t : ℕ) → session w s t ≡ session v s t) → InHand w k →
    InHand v k
hand_same w v k h d i = elim i [
  | inl q ↦ inl (record { place = q.place; there = h q.place q.there })
  | inr a ↦ inr (at_slot_same v w k d a)
]

pub queue_hand : (w : World) (q k : ℕ) (f : Queue → Queue) → InQueue w k → InQueue (on_queue w q f) k ⊎
    (carries (queue w q).items k ≡ true)
unfolding on_queue
queue_hand w q k f c = elim (cases_eq q c.place) [
  | inl e ↦ inr (subst (λ (p : ℕ). carries (queue w p).items k ≡ true) (sym e) c.there)
  | inr other ↦ inl (record {
    place = c.place;
    there =
        ap (λ (y : Queue). carries y.items k)
        (at_put_other new_queue w.queues q c.place (f (queue w q)) other)
        ∙ c.there;
  })
]

pub hand_queue : (w : World) (q k : ℕ) (f : Queue → Queue) → InHand w k → InHand (on_queue w q f) k ⊎
    (carries (queue w q).items k ≡ true)
hand_queue w q k f i = elim i [
  | inl c ↦ elim (queue_hand w q k f c) [ inl a ↦ inl (inl a) | inr b ↦ inr b ]
  | inr a ↦ inl (inr (at_slot_same (on_queue w q f) w k (λ s t. sym (session_on_queue w q f s t)) a))
]

queues_on_session : (w : World) (s t : ℕ) (f : Session → Session) (q k : ℕ) →
    carries (queue w q).items k ≡ true → carries (queue (on_session w s t f) q).items k ≡ true
unfolding on_session on_tid on_station with_station
queues_on_session w s t f q k h = h

slots_on_session : (w : World) (s t k : ℕ) (f : Session → Session) →
    ((n : ℕ) → Carries (session w s t) k n → Carries (f (session w s t)) k n) → (i j n : ℕ) →
    Carries (session w i j) k n → Carries (session (on_session w s t f) i j) k n
unfolding on_session
slots_on_session w s t k f h = each_side_on (λ i j a. (n : ℕ) → Carries (session w i j) k n →
    Carries a.session k n) w s t (λ y. record y { session = f y.session }) (λ i j n c. c) h

pub hand_session : (w : World) (s t k : ℕ) (f : Session → Session) →
    ((n : ℕ) → Carries (session w s t) k n → Carries (f (session w s t)) k n) → InHand w k →
    InHand (on_session w s t f) k
hand_session w s t k f h i = elim i [
  | inl c ↦ inl (record { place = c.place; there = queues_on_session w s t f c.place k c.there })
  | inr a ↦ inr (record {
    station = a.station;
    tid = a.tid;
    number = a.number;
    slot_of =
        slots_on_session w s t k f h a.station a.tid a.number a.slot_of;
  })
]

-- The slot of another number changes.
pub carries_other : (y : Session) (m k n : ℕ) (f : Slot → Slot) → y.first ≤ m →
    ((x : Slot) → (f x).id ≡ x.id) → m ≢ n → Carries y k n → Carries (on_slot m f y) k n
carries_other y m k n f l same_id other c =
    let kept : KeptSession y (on_slot m f y) = kept_on_slot y m f same_id in
    record {
      from = c.from;
      below = omega (arith, c.below, kept.next);
      unsettled = ap (λ (x : Slot). is_settled x.state) (slot_other y m n f l c.from other) ∙ c.unsettled;
      id = kept.ids n c.from c.below ∙ c.id;
    }

-- A slot changes, keeps its id and stays unsettled.
pub carries_on_slot : (y : Session) (m k n : ℕ) (f : Slot → Slot) → y.first ≤ m →
    ((x : Slot) → (f x).id ≡ x.id) → is_settled (f (slot y m)).state ≡ false → Carries y k n →
    Carries (on_slot m f y) k n
carries_on_slot y m k n f l same_id unsettled c =
    let kept : KeptSession y (on_slot m f y) = kept_on_slot y m f same_id in
    on_bool (m == n)
    (λ own.
    let e : m ≡ n = eq_yes m n own in
    record {
      from = c.from;
      below = omega (arith, c.below, kept.next);
      unsettled = subst (λ (j : ℕ). is_settled (slot (on_slot m f y) j).state ≡ false) e
          (ap (λ (x : Slot). is_settled x.state) (slot_same y m f) ∙ unsettled);
      id = kept.ids n c.from c.below ∙ c.id;
    })
    (λ other. carries_other y m k n f l same_id (eq_no m n other) c)

-- ---- the frames of a dequeue

IsKeptOr : List Item → Dequeued → Type 0
IsKeptOr xs d = (k : ℕ) → carries xs k ≡ true → (has (ids_in d.dropped) k ≡ true) ⊎
    ((carries d.rest k ≡ true) ⊎ IsGivenId d.given k)

kept_or : (xs : List Item) (p : Params) (now : ℕ) (c : Codel) (k : ℕ) → carries xs k ≡ true →
    (has (ids_in (dequeue p now c xs).dropped) k ≡ true) ⊎
    ((carries (dequeue p now c xs).rest k ≡ true) ⊎ IsGivenId (dequeue p now c xs).given k)
unfolding IsKeptOr
kept_or xs p now c = each_dequeue IsKeptOr
    (λ c k h. absurd (cc h))
    (λ x xs c k h. elim (either (x.id == k) (carries xs k) h) [
      | inl e ↦
          inr (inr (sym (eq_yes x.id k e)))
      | inr e ↦ inr (inl e)
    ])
    (λ x xs d i k h. elim (either (x.id == k) (carries xs k) h) [
      | inl e ↦ inl (or_left (x.id == k) _ e)
      | inr e ↦ elim (i k e) [ inl a ↦ inl (or_right (x.id == k) _ a) | inr b ↦ inr b ]
    ])
    xs p now c

-- ---- changes that do not affect the queues

same_queues : (w v : World) → v.queues ≡ w.queues → (q k : ℕ) → carries (queue w q).items k ≡ true →
    carries (queue v q).items k ≡ true
same_queues w v e q k h = ap (λ (qs : List Queue). carries (at new_queue qs q).items k) e ∙ h

queues_spent : (w : World) (x : Exchange) (q k : ℕ) → carries (queue w q).items k ≡ true →
    carries (queue (with_spent w x) q).items k ≡ true
unfolding with_spent on_station with_station
queues_spent w x q k h = h

queues_after_turn : (w : World) (s : ℕ) (c : Class) (t q k : ℕ) → carries (queue w q).items k ≡ true →
    carries (queue (after_tid_turn w s c t) q).items k ≡ true
unfolding after_tid_turn on_share on_station with_station
queues_after_turn w s c t q k h = h

pub queues_pay_stations : (ss : List ℕ) (w : World) (c : Class) (quanta : ℕ → ℕ) →
    (with_stations_paid w c quanta ss).queues ≡ w.queues
unfolding with_stations_paid with_station_paid on_share on_station with_station
queues_pay_stations [] w c quanta = refl
queues_pay_stations (s ∷ ss) w c quanta = queues_pay_stations ss _ c quanta

queues_after_pick : (w : World) (c : Class) (q k : ℕ) → carries (queue w q).items k ≡ true →
    carries (queue (after_pick w c) q).items k ≡ true
unfolding after_pick with_rotation
queues_after_pick w c q k h = ap (λ (qs : List Queue). carries (at new_queue qs q).items k)
    (queues_pay_stations (in_order (rotation w c)) w c _) ∙ h

paid_items : (w : World) (s t : ℕ) (quanta : ℕ → ℕ) (r : Rotation) (ks : List ℕ) (q k : ℕ) →
    carries (queue w q).items k ≡ true → carries
    (queue (with_queues (with_queues_paid w quanta ks) s t r) q).items k ≡ true
unfolding with_queues on_tid on_station with_station
paid_items w s t quanta r ks q k h = ap (λ (b : Shelves). carries (b.queues q).items k)
    (shelves_pay_queues ks w quanta) ∙ h

-- ---- a take, and the number of the frame

never_dropped : (c : Cause) → Dropped c ≡ Held → ⊥
never_dropped c e = cc e

item_ids : (xs : List Item) (k : ℕ) → has (map (λ x. x.id) xs) k ≡ carries xs k
item_ids xs k = ids_carried xs k

pub queue_rest : (ids : List ℕ) (w : World) (fate : Fate) (q k : ℕ) → carries (queue w q).items k ≡ true →
    carries (queue (with_frames_finished w fate ids) q).items k ≡ true
queue_rest ids w fate q k h = ap (λ (qs : List Queue). carries (at new_queue qs q).items k)
    (queues_dropped ids w fate) ∙ h

pub hand_finish_all : (ids : List ℕ) (w : World) (fate : Fate) (k : ℕ) → InHand w k →
    InHand (with_frames_finished w fate ids) k
hand_finish_all ids w fate k i = hand_same w (with_frames_finished w fate ids) k
    (λ q h. queue_rest ids w fate q k h) (λ s t. sym (session_same w _ (same_finish_all ids w fate) s t)) i

covers_dequeued : (l : List ℕ) (w : World) (q : ℕ) (d : Dequeued) → Placing l w →
    ((k : ℕ) → has (ids_in d.dropped) k ≡ true → carries (queue w q).items k ≡ true)
    → ((k : ℕ) → carries (queue w q).items k ≡ true → (has (ids_in d.dropped) k ≡ true) ⊎
    ((carries d.rest k ≡ true) ⊎ IsGivenId d.given k)) → Full w →
    Covers (λ k. InHand (taken_by_codel w q d).world k ⊎ IsGivenId d.given k) (taken_by_codel w q d).world
unfolding taken_by_codel
covers_dequeued l w q d p there parts c =
    let g : Queue → Queue = λ y. record {
      items = d.rest;
      deficit = y.deficit -ℤ pos (len_given d.given);
      codel = d.state;
    } in
    let u : World = on_queue w q g in
    let v : World = with_frames_finished u (Dropped By_codel) (map (λ x. x.id) d.dropped) in
    covers_all (ids_in d.dropped) (InHand w) (λ k. InHand v k ⊎ IsGivenId d.given k) u (Dropped By_codel)
    (never_dropped By_codel)
    (λ k e. subst (λ (fs : List Frame). k < length fs) (sym (untouched_on_queue w q g).frames)
    (p.queued q k (there k e)).old)
    (covers_frames (InHand w) w u (untouched_on_queue w q g).frames c)
    (λ k none i. elim (hand_queue w q k g i) [
      | inl a ↦ inl (hand_finish_all (map (λ x. x.id) d.dropped) u (Dropped By_codel) k a)
      | inr b ↦ elim (parts k b) [
        | inl gone ↦ absurd (cc (gone, none))
        | inr more ↦ elim more [
          | inl rest ↦ inl (inl (record {
            place = q;
            there =
                queue_rest (map (λ x. x.id) d.dropped) u (Dropped By_codel) q k
                (ap (λ (y : Queue). carries y.items k) (queue_on w q g) ∙ rest);
          }))
          | inr given ↦ inr given
        ]
      ]
    ])

covers_taken : (o : Option ℕ) (l : List ℕ) (w : World) (s : ℕ) → Placing l w → Full w →
    Covers (λ k. InHand (taken_from_picked w s o).world k ⊎ IsGivenId (taken_from_picked w s o).item k)
    (taken_from_picked w s o).world
unfolding taken_from_picked
covers_taken None l w s p c = covers_more (InHand w) (λ k. InHand w k ⊎ IsGivenId None k) w (λ k i. inl i) c
covers_taken (Some q) l w s p c =
    let xs : List Item = (queue w q).items in
    let d : Dequeued = dequeue (codel_params w s) w.clock (queue w q).codel xs in
    subst (λ (o : Option Item). Covers (λ k. InHand (taken_by_codel w q d).world k ⊎ IsGivenId o k)
    (taken_by_codel w q d).world) (sym (given_dequeued-is w q d))
    (covers_dequeued l w q d p (λ k e. (dropped_dequeue xs (codel_params w s) w.clock (queue w q).codel 0
    (p.ordered q)).there k e) (λ k h. kept_or xs (codel_params w s) w.clock (queue w q).codel k h) c)

covers_take : (l : List ℕ) (w : World) (s t : ℕ) → Placing l w → Full w →
    Covers (λ k. InHand (taken_for_tid w s t).world k ⊎ IsGivenId (taken_for_tid w s t).item k)
    (taken_for_tid w s t).world
unfolding taken_for_tid
covers_take l w s t p c =
    let ks : List ℕ = in_order (tid_of w s t).queues in
    let a : World = with_queues_paid w (picked_queue w s t).quanta ks in
    let u : World = with_queues a s t (picked_queue w s t).lists in
    let h : Less Any w u = then_less Any w a u (less_pay_queues Any ks w _) (less_with_queues Any a s t _) in
    let k : Same w u = then_same w a u (same_pay_queues ks w _) (same_with_queues a s t _) in
    let e : u.frames ≡ w.frames = (untouched_with_queues a s t _).frames
    ∙ (untouched_pay_queues ks w _).frames in
    covers_taken (picked_queue w s t).winner l u s (placed_less l w u h k.sides p)
    (covers_frames (InHand u) w u e (covers_more (InHand w) (InHand u) w
    (λ j i. hand_same w u j (λ q m. paid_items w s t (picked_queue w s t).quanta
    (picked_queue w s t).lists ks q j m) (λ i j. sym (session_same w u k i j)) i) c))

covers_give : (w : World) (s t id : ℕ) → is_live w s ≡ true → Covers (λ k. InHand w k ⊎ (k ≡ id)) w →
    Full (on_session w s t (λ y. with_number_given y id))
covers_give w s t id live c =
    let y : Session = session w s t in
    let v : World = on_session w s t (λ y. with_number_given y id) in
    covers_frames (InHand v) w v (untouched_on_session w s t (λ y. with_number_given y id)).frames
    (covers_more (λ k. InHand w k ⊎ (k ≡ id)) (InHand v) w (λ k i. elim i [
      | inl a ↦ hand_session w s t k (λ y. with_number_given y id) (λ n h.
          let d : slot (with_number_given y id) n ≡ slot y n = slot_give y id n h.from h.below in
          record {
            from = h.from;
            below = omega (arith, h.below, next-give y id);
            unsettled =
                ap (λ (x : Slot). is_settled x.state) d ∙ h.unsettled;
            id = ap (λ (x : Slot). x.id) d ∙ h.id;
          })
          a
      | inr e ↦ inr (record {
        station = s;
        tid = t;
        number = next_number y;
        slot_of = subst (λ (z : Session). Carries z k (next_number y))
            (sym (session_on_session w s t (λ y. with_number_given y id) live)) (record {
              from = omega arith;
              below = omega (arith, next-give y id);
              unsettled = ap is_settled (slot_new y id (next_number y) refl);
              id = slot_new_id y id (next_number y) refl ∙ sym e;
            });
      })
    ]) c)

covers_number : (o : Option Item) (w : World) (s t : ℕ) → is_live w s ≡ true →
    Covers (λ k. InHand w k ⊎ IsGivenId o k) w → Full (with_number w s t o)
unfolding with_number
covers_number None w s t live c = covers_more (λ k. InHand w k ⊎ ⊥) (InHand w) w
    (λ k i. elim i [ inl a ↦ a | inr b ↦ absurd b ]) c
covers_number (Some x) w s t live c = covers_give w s t x.id live c

covers_numbered : (l : List ℕ) (w : World) (s t : ℕ) → is_live w s ≡ true → Placing l w → Full w →
    Full (with_number (taken_for_tid w s t).world s t (taken_for_tid w s t).item)
covers_numbered l w s t live p c = covers_number (taken_for_tid w s t).item (taken_for_tid w s t).world s t
    ((same_take w s t).live s ∙ live) (covers_take l w s t p c)

covers_if : (b : Bool) (x y : Aggregate) → Full x.world → Full y.world → Full (if b then x else y).world
covers_if true x y h k = h
covers_if false x y h k = k

covers_fresh : (n : ℕ) (l : List ℕ) (w : World) (s t : ℕ) (ms : List Mpdu) → is_live w s ≡ true →
    Placing l w → Fresh w → Full w → Full (with_fresh n w s t ms).world
unfolding with_fresh
covers_fresh zero l w s t ms live p f c = c
covers_fresh (suc n) l w s t ms live p f c =
    let v : World = (taken_for_tid w s t).world in
    let numbered : Safe l w (with_number v s t (taken_for_tid w s t).item) = safe_numbered l w s t p f in
    let k : Full (with_number v s t (taken_for_tid w s t).item) = covers_numbered l w s t live p c in
    covers_if _ _ _ c (covers_if _ _ _ (covers_fresh n l _ s t _
    (live_number (taken_for_tid w s t).item v s t ∙ ((same_take w s t).live s ∙ live)) numbered.placing
    numbered.fresh k) k)

covers_filled : (l : List ℕ) (w : World) (s t : ℕ) → is_live w s ≡ true → Placing l w → Fresh w → Full w →
    Full (aggregate_of w s t).world
unfolding aggregate_of
covers_filled l w s t live p f c =
    let chosen : List Mpdu = longest_fitting w s (waiting_mpdus w s t) in
    covers_if (length chosen == length (waiting_mpdus w s t))
    (with_fresh (most_frames w s - length chosen) w s t chosen) (record { world = w; mpdus = chosen })
    (covers_fresh (most_frames w s - length chosen) l w s t chosen live p f c) c

carries_fly : (ms : List Mpdu) (y : Session) (e lo hi k n : ℕ) → y.first ≤ lo → Rises lo hi ms →
    Carries y k n → Carries (with_flying e ms y) k n
carries_fly [] y e lo hi k n b r c = c
carries_fly (m ∷ ms) y e lo hi k n b r c =
    let f : Slot → Slot = λ x. record x { state = State.Flying e } in
    carries_fly ms (on_slot m.number f y) e (suc m.number) hi k n (omega (arith, b, r.0)) r.2
    (carries_on_slot y m.number k n f (omega (arith, b, r.0)) (λ x. refl) refl c)

pub covers_session : (w : World) (s t : ℕ) (f : Session → Session) →
    ((k n : ℕ) → Carries (session w s t) k n → Carries (f (session w s t)) k n) → Full w →
    Full (on_session w s t f)
covers_session w s t f h c = covers_frames (InHand (on_session w s t f)) w _
    (untouched_on_session w s t f).frames (covers_more (InHand w) (InHand (on_session w s t f)) w
    (λ k i. hand_session w s t k f (λ n d. h k n d) i) c)

queues_on_tid : (w : World) (s t : ℕ) (f : Tid → Tid) (q k : ℕ) →
    carries (queue w q).items k ≡ true → carries (queue (on_tid w s t f) q).items k ≡ true
unfolding on_tid on_station with_station
queues_on_tid w s t f q k h = h

-- One TID changes, and keeps its unsettled numbers.
pub covers_on_tid : (w : World) (s t : ℕ) (f : Tid → Tid) →
    ((k n : ℕ) → Carries (session w s t) k n → Carries (f (tid_of w s t)).session k n) → Full w →
    Full (on_tid w s t f)
covers_on_tid w s t f h c = covers_frames (InHand (on_tid w s t f)) w _ (untouched_on_tid w s t f).frames
    (covers_more (InHand w) (InHand (on_tid w s t f)) w (λ k i. elim i [
      | inl a ↦ inl (record { place = a.place; there = queues_on_tid w s t f a.place k a.there })
      | inr a ↦ inr (record {
        station = a.station;
        tid = a.tid;
        number = a.number;
        slot_of = each_side_on (λ i j b. (n : ℕ) → Carries (session w i j) k n → Carries b.session k n)
            w s t f (λ i j n d. d) (λ n d. h k n d) a.station a.tid a.number a.slot_of;
      })
    ]) c)

covers_frames_fly : (s t : ℕ) (f : Aggregate) → IsReady s t f.world f.mpdus → Full f.world →
    Full (prepared_data s t f).world
unfolding prepared_data
covers_frames_fly s t f r c =
    let y : Session = session f.world s t in
    covers_session f.world s t (with_flying f.world.exchanges f.mpdus)
    (λ k n d. carries_fly f.mpdus y f.world.exchanges y.first (next_number y) k n
    (omega arith) r.chosen.rising d) c

covers_prepared_if : (b : Bool) (x y : Prepared) → Full x.world → (b ≡ false → Full y.world) →
    Full (if b then x else y).world
covers_prepared_if true x y h k = h
covers_prepared_if false x y h k = k refl

covers_prepared : (l : List ℕ) (w : World) (s t : ℕ) → IsLawful w → is_live w s ≡ true → Placing l w →
    Fresh w → Full w → Full (prepared_exchange w s t).world
unfolding prepared_exchange
covers_prepared l w s t a live p f c = covers_prepared_if (request_due (session w s t)) _ _ c
    (λ quiet. covers_frames_fly s t (aggregate_of w s t) (ready_filled w s t a live quiet)
    (covers_filled l w s t live p f c))

pub covers_calm : (w v : World) → ((q k : ℕ) → carries (queue w q).items k ≡ true →
    carries (queue v q).items k ≡ true) → ((s t : ℕ) → session v s t ≡ session w s t) → v.frames ≡ w.frames →
    Full w → Full v
covers_calm w v h d e c = covers_frames (InHand v) w v e
    (covers_more (InHand w) (InHand v) w (λ k i. hand_same w v k (λ q m. h q k m) (λ s t. sym (d s t)) i) c)

covers_sent : (s t : ℕ) (c : Class) (q : Prepared) → Full q.world → Full (send_outcome s t c q).world
unfolding send_outcome with_exchange_opened
covers_sent s t c q k =
    let x : Exchange = exchange_of s t c q in
    let u : World = record q.world { exchanges = q.world.exchanges + 1; opened = q.world.opened ++ x ∷ [] } in
    covers_calm u (with_spent u x) (λ q k h. queues_spent u x q k h)
    (session_same u (with_spent u x) (same_spent u x)) (untouched_spent u x).frames
    (covers_calm q.world u (λ q k h. h) (λ i j. refl) refl k)

covers_pulled_by : (o : Option ℕ) (l : List ℕ) (w : World) (c : Class) → IfSome o (λ s. is_live w s ≡ true) →
    IsLawful w → Placing l w → Fresh w → Full w → Full (pull_outcome_for w c o).world
unfolding pull_outcome_for
covers_pulled_by None l w c live a p f k = k
covers_pulled_by (Some s) l w c live a p f k =
    let t : ℕ = sending_tid w s c in
    let v : World = after_tid_turn w s c t in
    let same_v : Same w v = same_after_turn w s c t in
    let b : Safe l w v = safe_calm l w v (less_after_turn Any w s c _) same_v
    (untouched_after_turn w s c _) p f in
    covers_sent s t c _ (covers_prepared l v s t (lawful_same _ _ same_v a)
    (same_v.live s ∙ live) b.placing b.fresh (covers_calm w v (λ q k h. queues_after_turn w s c t q k h)
    (session_same w v same_v) (untouched_after_turn w s c t).frames k))

pub covers_pulled : (l : List ℕ) (w : World) (c : Class) (limits : Limits) → IsLawful w → Placing l w →
    Fresh w → Full w → Full (pull_outcome w c limits).world
unfolding pull_outcome
covers_pulled l w c limits a p f k =
    let v : World = picked_world w c limits in
    let same_v : Same w v = same_picked w c limits in
    let b : Safe l w v =
    safe_calm l w v (less_picked Any w c limits) same_v (untouched_picked w c limits) p f in
    covers_pulled_by (picked_station w c).winner l v c
    (some_along (λ s. is_ready w c s ≡ true) (λ s. is_live v s ≡ true) (picked_station w c).winner
    (λ s h. same_v.live s ∙ left_true (is_live w s) _ h)
    (pick_ready (station_need w c) (is_ready w c) (rotation w c)))
    (lawful_same _ _ same_v a) b.placing b.fresh (covers_calm w v (λ q k h. queues_after_pick w c q k h)
    (session_same w v same_v) (untouched_picked w c limits).frames k)
