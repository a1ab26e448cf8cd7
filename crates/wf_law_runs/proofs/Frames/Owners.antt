-- Proves that each frame at a number was enqueued for the number's TID. By cases of the call.
use Rattle.std.proofs.Common.{nat_lt, ◌+◌, ◌++◌, ◌≡◌, refl, ap, sym, ◌∙◌, subst, arith, ℕ, zero, suc, ◌<◌, ◌≤◌, ◌-◌, Bool, true, false, if◌then◌else◌, ◌==◌, List, [], ◌∷◌, length, Option, Some, None, IfSome}
use Rattle.wf_def_lists.specs.Table.{at}
use Rattle.wf_def_codel.specs.Codel.{Params, Codel, Dequeued, dequeue, Item}
use Rattle.wf_def_rotation.specs.Rotation.{in_order}
use Rattle.wf_def_agreement.specs.Session.{End, Slot, State, slot, is_settled, next_number, on_slot, with_state, after_flush, request_due, Session, with_number_given, start_of}
use Rattle.wf_def_world.specs.World.{Mode, Tid, with_mode, Frame, no_frame, Mpdu, Exchange, Content, Frames, Request, queue, tid_of, is_live, rotation, on_queue, with_queues, on_tid, on_station, with_station, with_frame_finished, without_exchange, World, session, frame, on_session}
use Rattle.wf_def_world.specs.FlowQueues.{queue_need, has_frames, with_queues_paid, taken_by_codel, taken_from_picked, picked_queue, taken_for_tid}
use Rattle.wf_def_world.specs.CanSend.{is_ready}
use Rattle.wf_def_world.specs.Exchanges.{Aggregate, Prepared, with_number, with_fresh, aggregate_of, longest_fitting, waiting_mpdus, most_frames, with_flying, prepared_data, prepared_exchange, sending_tid, after_tid_turn, picked_station, station_need, with_exchange_opened, exchange_of, with_heard_start, after_charge, with_settled, with_failed_finished, with_all_settled, after_done, caught_up, caught_up_if_plain, with_spent}
use Rattle.wf_def_world.specs.Step.{send_outcome, pull_outcome_for, pull_outcome, done_outcome, flush_outcome, hold_outcome, begin_outcome, free_outcome, cease_outcome, after_numbers_ended, plain_window}
use Rattle.wf_law_runs.specs.Queues.{EachItem, IsFor}
use Rattle.wf_law_rules.proofs.Lemmas.Numbers.{on_bool, lt_yes, lt_no}
use Rattle.wf_law_rules.proofs.Lemmas.Dequeues.{each_dequeue}
use Rattle.wf_law_rules.proofs.Lemmas.Rotations.{IsWinner, pick_winner}
use Rattle.wf_law_runs.proofs.Common.Picked.{picked_world}
use Rattle.wf_law_runs.proofs.Common.Ends.{slot_after_end, end_id, on_settled}
use Rattle.wf_law_runs.proofs.Common.Flushes.{next-flush, if_flushed, if_caught}
use Rattle.wf_law_runs.proofs.Sessions.Flights.{flown, next-give}
use Rattle.wf_law_runs.proofs.Windows.Agreement.{slot_give, next-on_slot}
use Rattle.wf_law_runs.proofs.Windows.Sides.{Same, same_take, same_spent, same_after_turn, same_on_queue, same_finish, same_charged, each_side_on, same_picked, same_ended, renewed, begun_is, ceased_is}
use Rattle.wf_law_runs.proofs.Windows.Opened.{some_along, left_true, pick_ready}
use Rattle.wf_law_runs.proofs.Windows.Agreed.{IsLawful, IsReady, IsEnding, IsFound, ready_filled, ending_settled, ending_of, lawful_same, session_same}
use Rattle.wf_law_runs.proofs.Windows.Settling.{without_same}
use Rattle.wf_law_runs.proofs.Releases.Kept.{KeptSession, kept_fly, kept_on_slot, kept_heard, kept_flush}
use Rattle.wf_law_runs.proofs.Releases.Placed.{slot_new_id, next-heard}
use Rattle.wf_law_runs.proofs.Frames.Fates.{Bears, session_on_receiver}
use Rattle.wf_law_runs.proofs.Frames.Untouched.{untouched_on_queue, untouched_with_queues, untouched_pay_queues, untouched_on_session, untouched_spent, untouched_after_turn, untouched_picked, untouched_caught}
use Rattle.wf_law_runs.proofs.Queues.Shelves.{Shelves, shelves, shelves_pay_queues, shelves_finish, shelves_finish_all, shelves_after_turn, shelves_ended, shelves_picked, shelves_held, shelves_begun, shelves_freed, shelves_ceased}
use Rattle.wf_law_runs.proofs.Queues.Shelved.{IsOf, IsShelved, each_item}
use Rattle.wf_law_runs.proofs.Queues.ShelvedStep.{shelves_number, live_number, shelved_take}
use Rattle.wf_frame.specs.declared.notes.Note.{Note}
use Rattle.wf_def_agreement.specs.Receiver.{with_start}
use Rattle.wf_frame.specs.declared.classes.Class.{Class}
use Rattle.wf_frame.specs.declared.notes.Limits.{Limits}
use Rattle.wf_frame.specs.declared.classes.Fate.{Fate}

-- Each number of z was in y, with the same id.
pub record BearsFrom (y z : Session) : Type 0 where
  pub was : (k n : ℕ) → Bears z k n → Bears y k n

pub bears_refl : (y : Session) → BearsFrom y y
bears_refl y = record { was = λ k n c. c }

bears_kept : (y z : Session) → KeptSession y z → next_number z ≡ next_number y → BearsFrom y z
bears_kept y z h e = record {
  was = λ k n c.
      let from : y.first ≤ n = omega (arith, c.from, h.first) in
      let below : n < next_number y = omega (arith, c.below, e) in
      record { from = from; below = below; id = sym (h.ids n from below) ∙ c.id };
}

-- Each number of v was in w, with the same id.
pub record SlotsFrom (w v : World) : Type 0 where
  pub was : (s t : ℕ) → BearsFrom (session w s t) (session v s t)

pub slots_same : (w v : World) → ((s t : ℕ) → session v s t ≡ session w s t) → SlotsFrom w v
slots_same w v h = record {
  was = λ s t. subst (BearsFrom (session w s t)) (sym (h s t))
      (bears_refl (session w s t));
}

pub then_slots : (u v w : World) → SlotsFrom u v → SlotsFrom v w → SlotsFrom u w
then_slots u v w h k = record {
  was = λ s t. record {
    was =
        λ i n c. (h.was s t).was i n ((k.was s t).was i n c);
  };
}

slots_on_tid : (w : World) (s t : ℕ) (f : Tid → Tid) → BearsFrom (session w s t) (f (tid_of w s t)).session →
    SlotsFrom w (on_tid w s t f)
slots_on_tid w s t f u = record {
  was = each_side_on (λ i j a. BearsFrom (session w i j) a.session) w s t f
      (λ i j. bears_refl (session w i j)) u;
}

pub slots_session : (w : World) (s t : ℕ) (f : Session → Session) →
    BearsFrom (session w s t) (f (session w s t)) → SlotsFrom w (on_session w s t f)
unfolding on_session
slots_session w s t f u = slots_on_tid w s t (λ y. record y { session = f y.session }) u

-- Each frame at a number was enqueued for the number's TID.
pub record IsOwned (w : World) : Type 0 where
  pub mine : (s t k n : ℕ) → Bears (session w s t) k n → IsFor s t (frame w k).note × (t < 8)

pub record SameNotes (w v : World) : Type 0 where
  pub same : (k : ℕ) → (frame v k).note ≡ (frame w k).note

pub notes_frames : (w v : World) → v.frames ≡ w.frames → SameNotes w v
notes_frames w v e = record { same = λ k. ap (λ (fs : List Frame). (at no_frame fs k).note) e }

notes_shelves : (w v : World) → shelves v ≡ shelves w → SameNotes w v
notes_shelves w v e = record { same = λ k. ap (λ (b : Shelves). b.notes k) e }

pub owned_along : (w v : World) → SlotsFrom w v → SameNotes w v → IsOwned w → IsOwned v
owned_along w v h e i = record {
  mine = λ s t k n c. let m = i.mine s t k n ((h.was s t).was k n c) in
      (subst (IsFor s t) (sym (e.same k)) m.0, m.1);
}

-- ---- a take, and the number of the frame

each_given : (P : Item → Type 0) (xs : List Item) (p : Params) (now : ℕ) (c : Codel) → EachItem P xs →
    IfSome (dequeue p now c xs).given P
each_given P xs p now c h = each_dequeue (λ xs d. EachItem P xs → IfSome d.given P) (λ c h. tt)
    (λ x xs c h. h.0) (λ x xs d k h. k h.1) xs p now c h

taken_item : (o : Option ℕ) (v : World) (s : ℕ) (P : Item → Type 0) →
    ((q : ℕ) → o ≡ Some q → EachItem P (queue v q).items) → IfSome (taken_from_picked v s o).item P
unfolding taken_from_picked taken_by_codel
taken_item None v s P h = tt
taken_item (Some q) v s P h = each_given P (queue v q).items _ _ _ (h q refl)

IsOneOf : World → ℕ → ℕ → Item → Type 0
IsOneOf w s t x = IsFor s t (frame w x.id).note × (t < 8)

given_mine : (most : ℕ) (w : World) (s t : ℕ) → IsShelved most (shelves w) →
    IfSome (taken_for_tid w s t).item (IsOneOf w s t)
unfolding taken_for_tid with_queues on_tid on_station with_station IsOneOf
given_mine most w s t i =
    taken_item (picked_queue w s t).winner _ s (λ x. IsFor s t (frame w x.id).note × (t < 8)) (λ q e.
    let k : IsWinner (queue_need w) (has_frames w) (tid_of w s t).queues (picked_queue w s t) q =
    pick_winner (queue_need w) (has_frames w) (tid_of w s t).queues q e in
    let items : (queue (with_queues_paid w (picked_queue w s t).quanta (in_order (tid_of w s t).queues))
    q).items ≡ (queue w q).items = ap (λ (b : Shelves). (b.queues q).items)
    (shelves_pay_queues (in_order (tid_of w s t).queues) w (picked_queue w s t).quanta) in
    subst (EachItem (λ x. IsFor s t (frame w x.id).note × (t < 8))) (sym items)
    (each_item (IsOf (shelves w).notes most s t) (λ x. IsFor s t (frame w x.id).note × (t < 8))
    (λ x h. (h.0, i.below s t q k.listed)) (queue w q).items (i.mine s t q k.listed)))

notes_dequeued : (w : World) (q : ℕ) (d : Dequeued) → SameNotes w (taken_by_codel w q d).world
unfolding taken_by_codel on_queue
notes_dequeued w q d = record { same = λ k. ap (λ (b : Shelves). b.notes k) (shelves_finish_all _ _ _) }

notes_taken : (o : Option ℕ) (w : World) (s : ℕ) → SameNotes w (taken_from_picked w s o).world
unfolding taken_from_picked
notes_taken None w s = record { same = λ k. refl }
notes_taken (Some q) w s = notes_dequeued w q _

notes_take : (w : World) (s t : ℕ) → SameNotes w (taken_for_tid w s t).world
unfolding taken_for_tid
notes_take w s t =
    let u : World = with_queues_paid w (picked_queue w s t).quanta (in_order (tid_of w s t).queues) in
    let v : World = with_queues u s t (picked_queue w s t).lists in
    record {
      same = λ k. (notes_taken (picked_queue w s t).winner v s).same k
          ∙ (notes_frames w v ((untouched_with_queues u s t _).frames
          ∙ (untouched_pay_queues _ w _).frames)).same k;
    }

given_by : (w : World) (s t id : ℕ) → ((a b k n : ℕ) → Bears (session w a b) k n →
    IsFor a b (frame w k).note × (b < 8)) → ((k n : ℕ) → Bears (with_number_given (session w s t) id) k n →
    IsFor s t (frame w k).note × (t < 8)) →
    (a b k n : ℕ) → Bears (session (on_session w s t (λ y. with_number_given y id)) a b) k n →
    IsFor a b (frame w k).note × (b < 8)
unfolding on_session
given_by w s t id old own = each_side_on (λ a b z. (k n : ℕ) → Bears z.session k n →
    IsFor a b (frame w k).note × (b < 8)) w s t
    (λ y. record y { session = with_number_given y.session id }) old own

owned_give : (w : World) (s t id : ℕ) → IsFor s t (frame w id).note × (t < 8) → IsOwned w →
    IsOwned (on_session w s t (λ y. with_number_given y id))
owned_give w s t id h i =
    let y : Session = session w s t in
    record {
      mine = λ a b k n c. subst (λ (z : Note). IsFor a b z × (b < 8))
          (sym ((notes_frames w (on_session w s t (λ y. with_number_given y id))
          (untouched_on_session w s t (λ y. with_number_given y id)).frames).same k)) (given a b k n c);
    }
  where
    at_own : (k n : ℕ) → Bears (with_number_given (session w s t) id) k n → IsFor s t (frame w k).note ×
        (t < 8)
    at_own k n c =
        let y : Session = session w s t in
        on_bool (nat_lt n (next_number y))
        (λ b.
        let d : slot (with_number_given y id) n ≡ slot y n =
        slot_give y id n c.from (lt_yes n (next_number y) b) in
        i.mine s t k n (record {
          from = c.from;
          below = lt_yes n (next_number y) b;
          id =
              ap (λ (x : Slot). x.id) (sym d) ∙ c.id;
        }))
        (λ b.
        let here : n ≡ next_number y = omega (arith, next-give y id, c.below, lt_no n (next_number y) b) in
        let same : id ≡ k = sym (slot_new_id y id n here) ∙ c.id in
        subst (λ (j : ℕ). IsFor s t (frame w j).note × (t < 8)) same h)

    given : (a b k n : ℕ) → Bears (session (on_session w s t (λ y. with_number_given y id)) a b) k n →
        IsFor a b (frame w k).note × (b < 8)
    given = given_by w s t id i.mine at_own

owned_number : (o : Option Item) (w : World) (s t : ℕ) →
    IfSome o (λ x. IsFor s t (frame w x.id).note × (t < 8)) → IsOwned w → IsOwned (with_number w s t o)
unfolding with_number
owned_number None w s t h i = i
owned_number (Some x) w s t h i = owned_give w s t x.id h i

along_notes : (o : Option Item) (w v : World) (s t : ℕ) → SameNotes w v → IfSome o (IsOneOf w s t) →
    IfSome o (λ x. IsFor s t (frame v x.id).note × (t < 8))
unfolding IsOneOf
along_notes None w v s t e h = tt
along_notes (Some x) w v s t e h = (subst (IsFor s t) (sym (e.same x.id)) h.0, h.1)

owned_if : (b : Bool) (x y : Aggregate) → IsOwned x.world → IsOwned y.world →
    IsOwned (if b then x else y).world
owned_if true x y h k = h
owned_if false x y h k = k

owned_fresh : (n most : ℕ) (w : World) (s t : ℕ) (ms : List Mpdu) → is_live w s ≡ true →
    IsShelved most (shelves w) → IsOwned w → IsOwned (with_fresh n w s t ms).world
unfolding with_fresh
owned_fresh zero most w s t ms live i o = o
owned_fresh (suc n) most w s t ms live i o =
    let v : World = (taken_for_tid w s t).world in
    let u : World = with_number v s t (taken_for_tid w s t).item in
    let ov : IsOwned v = owned_along w v (slots_same w v (session_same w v (same_take w s t)))
    (notes_take w s t) o in
    let ou : IsOwned u = owned_number (taken_for_tid w s t).item v s t
    (along_notes (taken_for_tid w s t).item w v s t (notes_take w s t) (given_mine most w s t i)) ov in
    let k : IsShelved most (shelves u) = subst (IsShelved most)
    (sym (shelves_number (taken_for_tid w s t).item v s t)) (shelved_take most w s t live i) in
    owned_if _ _ _ o (owned_if _ _ _ (owned_fresh n most u s t _
    (live_number (taken_for_tid w s t).item v s t ∙ ((same_take w s t).live s ∙ live)) k ou) ou)

owned_filled : (most : ℕ) (w : World) (s t : ℕ) → is_live w s ≡ true → IsShelved most (shelves w) →
    IsOwned w → IsOwned (aggregate_of w s t).world
unfolding aggregate_of
owned_filled most w s t live i o =
    let chosen : List Mpdu = longest_fitting w s (waiting_mpdus w s t) in
    owned_if (length chosen == length (waiting_mpdus w s t))
    (with_fresh (most_frames w s - length chosen) w s t chosen) (record { world = w; mpdus = chosen })
    (owned_fresh (most_frames w s - length chosen) most w s t chosen live i o) o

owned_frames : (s t : ℕ) (f : Aggregate) → IsReady s t f.world f.mpdus → IsOwned f.world →
    IsOwned (prepared_data s t f).world
unfolding prepared_data
owned_frames s t f r o =
    let y : Session = session f.world s t in
    owned_along f.world _ (slots_session f.world s t (with_flying f.world.exchanges f.mpdus)
    (bears_kept y _ (kept_fly f.mpdus y f.world.exchanges)
    (flown f.mpdus y f.world.exchanges (next_number y) y.first
    (omega arith) r.chosen.rising r.chosen.waiting).next))
    (notes_frames f.world _ (untouched_on_session f.world s t _).frames) o

owned_prepared_if : (b : Bool) (x y : Prepared) → IsOwned x.world → (b ≡ false → IsOwned y.world) →
    IsOwned (if b then x else y).world
owned_prepared_if true x y h k = h
owned_prepared_if false x y h k = k refl

owned_prepared : (most : ℕ) (w : World) (s t : ℕ) → IsLawful w → is_live w s ≡ true →
    IsShelved most (shelves w) → IsOwned w → IsOwned (prepared_exchange w s t).world
unfolding prepared_exchange
owned_prepared most w s t a live i o = owned_prepared_if (request_due (session w s t)) _ _ o
    (λ quiet. owned_frames s t (aggregate_of w s t) (ready_filled w s t a live quiet)
    (owned_filled most w s t live i o))

pub owned_calm : (w v : World) → Same w v → v.frames ≡ w.frames → IsOwned w → IsOwned v
owned_calm w v k e o = owned_along w v (slots_same w v (session_same w v k)) (notes_frames w v e) o

owned_sent : (s t : ℕ) (c : Class) (q : Prepared) → IsOwned q.world → IsOwned (send_outcome s t c q).world
unfolding send_outcome with_exchange_opened
owned_sent s t c q o =
    let x : Exchange = exchange_of s t c q in
    let u : World = record q.world { exchanges = q.world.exchanges + 1; opened = q.world.opened ++ x ∷ [] } in
    owned_calm u (with_spent u x) (same_spent u x) (untouched_spent u x).frames
    (owned_along q.world u (slots_same q.world u (λ i j. refl)) (record { same = λ k. refl }) o)

owned_pulled_by : (r : Option ℕ) (most : ℕ) (w : World) (c : Class) → IfSome r (λ s. is_live w s ≡ true) →
    IsLawful w → IsShelved most (shelves w) → IsOwned w → IsOwned (pull_outcome_for w c r).world
unfolding pull_outcome_for
owned_pulled_by None most w c live a i o = o
owned_pulled_by (Some s) most w c live a i o =
    let t : ℕ = sending_tid w s c in
    let v : World = after_tid_turn w s c t in
    let k : Same w v = same_after_turn w s c t in
    owned_sent s t c _ (owned_prepared most v s t (lawful_same _ _ k a) (k.live s ∙ live)
    (subst (IsShelved most) (sym (shelves_after_turn w s c t)) i)
    (owned_calm w v k (untouched_after_turn w s c t).frames o))

pub owned_pulled : (most : ℕ) (w : World) (c : Class) (l : Limits) → IsLawful w →
    IsShelved most (shelves w) → IsOwned w → IsOwned (pull_outcome w c l).world
unfolding pull_outcome
owned_pulled most w c l a i o =
    let v : World = picked_world w c l in
    let k : Same w v = same_picked w c l in
    owned_pulled_by (picked_station w c).winner most v c
    (some_along (λ s. is_ready w c s ≡ true) (λ s. is_live v s ≡ true) (picked_station w c).winner
    (λ s h. k.live s ∙ left_true (is_live w s) _ h)
    (pick_ready (station_need w c) (is_ready w c) (rotation w c)))
    (lawful_same _ _ k a) (subst (IsShelved most) (sym (shelves_picked w c l)) i)
    (owned_calm w v k (untouched_picked w c l).frames o)

-- ---- the end of an exchange

slots_if : (b : Bool) (w u v : World) → SlotsFrom w u → SlotsFrom w v → SlotsFrom w (if b then u else v)
slots_if true w u v h k = h
slots_if false w u v h k = k

slots_finish : (w : World) (fate : Fate) (id : ℕ) → SlotsFrom w (with_frame_finished w fate id)
slots_finish w fate id = slots_same w _ (session_same w _ (same_finish w fate id))

slots_settled : (end : End) (e s t : ℕ) (ends : ℕ → End) (w : World) (m : Mpdu) (ms : List Mpdu) →
    IsEnding e s t ends w (m ∷ ms) → SlotsFrom w (with_settled w s t end m)
unfolding with_settled with_failed_finished
slots_settled end e s t ends w m ms n =
    let f : Slot → Slot = slot_after_end w.config.attempts end in
    let k : SlotsFrom w (on_session w s t (on_slot m.number f)) =
    slots_session w s t (on_slot m.number f)
    (bears_kept (session w s t) _ (kept_on_slot (session w s t) m.number f
    (λ x. end_id w.config.attempts end x))
    (next-on_slot (session w s t) m.number f (ap is_settled n.flies.flying.0))) in
    on_settled (SlotsFrom w) end w s t m
    (λ _. then_slots w _ _ (slots_session w s t (with_state State.Acked m.number)
    (bears_kept (session w s t) _ (kept_on_slot (session w s t) m.number
    (λ x. record x { state = State.Acked }) (λ x. refl))
    (next-on_slot (session w s t) m.number (λ x. record x { state = State.Acked })
    (ap is_settled n.flies.flying.0)))) (slots_finish _ _ _))
    (λ _. slots_if _ w _ _ (then_slots w _ _ k (slots_finish _ _ _)) k)

slots_all : (ms : List Mpdu) (e s t : ℕ) (ends : ℕ → End) (w : World) → IsEnding e s t ends w ms →
    SlotsFrom w (with_all_settled w s t ends ms)
unfolding with_all_settled
slots_all [] e s t ends w n = slots_same w w (λ i j. refl)
slots_all (m ∷ ms) e s t ends w n = then_slots w _ _ (slots_settled (ends m.number) e s t ends w m ms n)
    (slots_all ms e s t ends _ (ending_settled (ends m.number) e s t ends w m ms refl n))

-- A TID without an agreement catches up.
slots_caught : (w : World) (s t : ℕ) → SlotsFrom w (caught_up w s t)
unfolding caught_up
slots_caught w s t =
    let start : ℕ = start_of (session w s t) in
    let f : Session → Session = with_heard_start true start in
    let y : Session = session w s t in
    let u : World = on_session w s t f in
    then_slots w u _
    (slots_session w s t f (bears_kept y (f y) (kept_heard true start y) (next-heard true start y)))
    (slots_same u _ (session_on_receiver u s t (with_start start)))

slots_caught_up : (w : World) (s t : ℕ) → SlotsFrom w (caught_up_if_plain w s t)
slots_caught_up w s t = if_caught (SlotsFrom w) w s t (slots_same w w (λ i j. refl)) (λ _. slots_caught w s t)

slots_after : (air : Option ℕ) (c : Content) (w : World) (i : IsLawful w) (x : Exchange) (heard : Bool) →
    x.content ≡ c →
    IsFound w i x → SlotsFrom (after_charge (without_exchange w x.number) x air)
    (after_done (after_charge (without_exchange w x.number) x air) x heard c)
unfolding after_done
slots_after air (Frames ms) w i x heard e f = then_slots _ _ _ (slots_all ms x.number x.station x.tid _ _
    (ending_of air w i x ms heard e f)) (slots_caught_up _ x.station x.tid)
slots_after air (Request g) w i x heard e f = slots_session _ x.station x.tid (with_heard_start heard g)
    (bears_kept _ _ (kept_heard heard g _) (next-heard heard g _))

slots_ended : (air : Option ℕ) (w : World) (i : IsLawful w) (x : Exchange) (heard : Bool) → IsFound w i x →
    SlotsFrom w (done_outcome w x heard air).world
unfolding done_outcome
slots_ended air w i x heard f =
    let u : World = without_exchange w x.number in
    then_slots w u _ (slots_same w u (λ s t. without_same w x.number s t))
    (then_slots u (after_charge u x air) _ (slots_same u (after_charge u x air)
    (session_same u (after_charge u x air) (same_charged air u x)))
    (slots_after air x.content w i x heard refl f))

pub owned_ended : (air : Option ℕ) (w : World) (i : IsLawful w) (x : Exchange) (heard : Bool) →
    IsFound w i x →
    IsOwned w →
    IsOwned (done_outcome w x heard air).world
owned_ended air w i x heard f o = owned_along w (done_outcome w x heard air).world
    (slots_ended air w i x heard f)
    (notes_shelves w (done_outcome w x heard air).world (shelves_ended air w x heard)) o

-- ---- a flush

-- The waiting numbers of a TID fail.
slots_failed : (w : World) (s t : ℕ) → SlotsFrom w (on_session w s t (after_flush w.config.attempts))
slots_failed w s t =
    let y : Session = session w s t in
    slots_session w s t (after_flush w.config.attempts) (bears_kept y _ (kept_flush w.config.attempts y)
    (next-flush w.config.attempts y))

slots_flushed : (w : World) (s t : ℕ) → SlotsFrom w (flush_outcome w s t).world
slots_flushed w s t =
    if_flushed (SlotsFrom w)
    (record {
      finish = λ u id k. then_slots w u _ k (slots_finish u _ id);
      empty = λ u q k. then_slots w u _ k (slots_same u _ (session_same u _ (same_on_queue u q _)));
    }) w s t (λ v k _. then_slots w v _ k (slots_caught v s t)) (slots_failed w s t)

notes_flushed : (w : World) (s t k : ℕ) → (frame (flush_outcome w s t).world k).note ≡ (frame w k).note
notes_flushed w s t k = if_flushed (λ u. (frame u k).note ≡ (frame w k).note)
    (record {
      finish = λ u id h. ap (λ (b : Shelves). b.notes k) (shelves_finish u _ id) ∙ h;
      empty = λ u q h. ap (λ (fs : List Frame). (at no_frame fs k).note) (untouched_on_queue u q _).frames
          ∙ h;
    }) w s t
    (λ v h _. ap (λ (fs : List Frame). (at no_frame fs k).note) (untouched_caught v s t).frames ∙ h)
    (ap (λ (fs : List Frame). (at no_frame fs k).note) (untouched_on_session w s t _).frames)

pub owned_flushed : (w : World) (s t : ℕ) → IsOwned w → IsOwned (flush_outcome w s t).world
owned_flushed w s t o =
    owned_along w _ (slots_flushed w s t) (record { same = λ k. notes_flushed w s t k }) o

-- ---- a TID is held or free, and its agreement begins or ends

-- A TID whose agreement begins or ends keeps its numbers.
bears_renewed : (start size : ℕ) (mode : Mode) (y : Tid) →
    BearsFrom y.session (renewed start size mode y).session
bears_renewed start size mode y =
    record { was = λ k n c. record { from = c.from; below = c.below; id = c.id } }

slots_held : (w : World) (s t : ℕ) → SlotsFrom w (hold_outcome w s t).world
unfolding hold_outcome with_mode
slots_held w s t = slots_on_tid w s t _ (bears_refl (session w s t))

pub owned_held : (w : World) (s t : ℕ) → IsOwned w → IsOwned (hold_outcome w s t).world
owned_held w s t o = owned_along w _ (slots_held w s t) (notes_shelves w _ (shelves_held w s t)) o

slots_begun : (w : World) (s t window : ℕ) → SlotsFrom w (begin_outcome w s t window).world
slots_begun w s t window = subst (SlotsFrom w) (sym (begun_is w s t window))
    (slots_on_tid w s t _ (bears_renewed (start_of (session w s t)) window Mode.Agreed (tid_of w s t)))

pub owned_begun : (w : World) (s t window : ℕ) → IsOwned w → IsOwned (begin_outcome w s t window).world
owned_begun w s t window o =
    owned_along w _ (slots_begun w s t window) (notes_shelves w _ (shelves_begun w s t window)) o

slots_freed : (w : World) (s t : ℕ) → SlotsFrom w (free_outcome w s t).world
unfolding free_outcome with_mode
slots_freed w s t = slots_on_tid w s t _ (bears_refl (session w s t))

pub owned_freed : (w : World) (s t : ℕ) → IsOwned w → IsOwned (free_outcome w s t).world
owned_freed w s t o = owned_along w _ (slots_freed w s t) (notes_shelves w _ (shelves_freed w s t)) o

slots_ceased : (w : World) (s t : ℕ) → SlotsFrom w (cease_outcome w s t).world
slots_ceased w s t =
    let v : World = after_numbers_ended w s t in
    subst (SlotsFrom w) (sym (ceased_is w s t)) (then_slots w v _ (then_slots w _ v (slots_failed w s t)
    (slots_same _ v (session_same _ v (same_ended w s t)))) (slots_on_tid v s t _
    (bears_renewed (start_of (session v s t)) plain_window Mode.OnHold (tid_of v s t))))

pub owned_ceased : (w : World) (s t : ℕ) → IsOwned w → IsOwned (cease_outcome w s t).world
owned_ceased w s t o = owned_along w _ (slots_ceased w s t) (notes_shelves w _ (shelves_ceased w s t)) o
