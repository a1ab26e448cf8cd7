-- Proves which changes of a world keep the receivers and the ids of the assigned numbers.
use Rattle.std.proofs.Common.{◌≡◌, refl, ap, sym, ◌∙◌, subst, arith, ℕ, zero, suc, ◌-◌, ◌<◌, ◌≤◌, Bool, true, false, if◌then◌else◌, not, ◌==◌, List, [], ◌∷◌, length, Option, Some, None, is_some, unwrap_or}
use Rattle.wf_frame.specs.declared.classes.Class.{Class}
use Rattle.wf_frame.specs.declared.notes.Limits.{Limits}
use Rattle.wf_def_lists.specs.Table.{at, has, put, with_member}
use Rattle.wf_def_codel.specs.Codel.{Item}
use Rattle.wf_def_agreement.specs.Session.{End, start_of, request_due, with_state, Session, Slot, State, is_failed, slot_given_up, slot, on_slot, with_number_given, after_flush, next_number, no_slot}
use Rattle.wf_def_agreement.specs.Receiver.{Receiver}
use Rattle.wf_def_world.specs.World.{receiver, World, Station, Tid, no_station, is_offloaded, is_agreed, Exchange, Mpdu, Content, Frames, Request, session, is_live, on_session, with_exchange, without_exchange}
use Rattle.wf_def_world.specs.FlowQueues.{taken_for_tid}
use Rattle.wf_def_world.specs.CanSend.{can_give}
use Rattle.wf_def_world.specs.Exchanges.{most_frames, picked_station, sending_tid, with_heard_start, caught_up, caught_up_if_plain, Aggregate, Prepared, with_fresh, aggregate_of, with_number, with_flying, waiting_mpdus, longest_fitting, prepared_data, prepared_exchange, with_exchange_opened, with_failed_finished, with_settled, with_all_settled, after_done}
use Rattle.wf_def_world.specs.Step.{with_frame, enqueue_outcome, send_outcome, pull_outcome_for, pull_outcome, answer_outcome, done_outcome, unsent_outcome, give_up_outcome, flush_outcome, reap_outcome, after_numbers_ended}
use Rattle.wf_law_rules.proofs.Lemmas.Tables.{each_put}
use Rattle.wf_law_runs.proofs.Common.Picked.{picked_world}
use Rattle.wf_law_runs.proofs.Common.Marks.{marked_world}
use Rattle.wf_law_runs.proofs.Common.Ends.{slot_after_end, end_id, on_settled}
use Rattle.wf_law_runs.proofs.Common.Flushes.{flush_along, if_caught, if_flushed}
use Rattle.wf_law_runs.proofs.Sessions.Flights.{next-give}
use Rattle.wf_law_runs.proofs.Windows.Sides.{Side, sides_of, Same, each_side_on, on_live, on_opened, on_exchanges, on_offloaded, told_start, caught_up_is, same, then_same, same_on_queue, same_finish, same_after_turn, same_spent, same_within_limit, same_put_in, same_take, same_charged, same_picked, same_ended}
use Rattle.wf_law_runs.proofs.Windows.Agreement.{slot_give}
use Rattle.wf_law_rules.proofs.Lemmas.Numbers.{has_old}

-- The session's assigned numbers keep their ids.
pub record KeptSession (y z : Session) : Type 0 where
  pub first : z.first ≡ y.first
  pub next : next_number y ≤ next_number z
  pub ids : (n : ℕ) → y.first ≤ n → n < next_number y → (slot z n).id ≡ (slot y n).id

pub kept_refl : (y : Session) → KeptSession y y
kept_refl y = record { first = refl; next = omega arith; ids = λ n l h. refl }

pub kept_equal : (y z : Session) → z ≡ y → KeptSession y z
kept_equal y z e = subst (KeptSession y) (sym e) (kept_refl y)

pub then_kept : (x y z : Session) → KeptSession x y → KeptSession y z → KeptSession x z
then_kept x y z h k = record {
  first = k.first ∙ h.first;
  next = omega (arith, h.next, k.next);
  ids = λ n l b. k.ids n (omega (arith, h.first, l)) (omega (arith, b, h.next)) ∙ h.ids n l b;
}

length_put : (xs : List Slot) (k : ℕ) (v : Slot) → length xs ≤ length (put no_slot xs k v)
length_put [] k v = omega arith
length_put (x ∷ xs) zero v = omega arith
length_put (x ∷ xs) (suc k) v = omega (arith, length_put xs k v)

pub kept_on_slot : (y : Session) (m : ℕ) (f : Slot → Slot) → ((x : Slot) → (f x).id ≡ x.id) →
    KeptSession y (on_slot m f y)
kept_on_slot y m f h = record {
  first = refl;
  next = omega (arith, length_put y.slots (m - y.first) (f (at no_slot y.slots (m - y.first))));
  ids = λ n l b. each_put (λ i x. x.id ≡ (at no_slot y.slots i).id) no_slot y.slots (m - y.first)
      (f (at no_slot y.slots (m - y.first))) (λ i. refl) (h (at no_slot y.slots (m - y.first))) (n - y.first);
}

pub kept_give : (y : Session) (id : ℕ) → KeptSession y (with_number_given y id)
kept_give y id = record {
  first = refl;
  next = omega (arith, next-give y id);
  ids = λ n l b. ap (λ (x : Slot). x.id) (slot_give y id n l b);
}

pub kept_fly : (ms : List Mpdu) (y : Session) (e : ℕ) → KeptSession y (with_flying e ms y)
kept_fly [] y e = kept_refl y
kept_fly (m ∷ ms) y e = then_kept y (with_state (State.Flying e) m.number y) _
    (kept_on_slot y m.number (λ x. record x { state = State.Flying e }) (λ x. refl))
    (kept_fly ms (with_state (State.Flying e) m.number y) e)

pub kept_heard : (b : Bool) (f : ℕ) (y : Session) → KeptSession y (with_heard_start b f y)
kept_heard true f y = record { first = refl; next = omega arith; ids = λ n l b. refl }
kept_heard false f y = kept_refl y

-- The size of a window stays.
pub fly_size : (ms : List Mpdu) (y : Session) (e : ℕ) → (with_flying e ms y).size ≡ y.size
fly_size [] y e = refl
fly_size (m ∷ ms) y e = fly_size ms (with_state (State.Flying e) m.number y) e

pub heard_size : (b : Bool) (f : ℕ) (y : Session) → (with_heard_start b f y).size ≡ y.size
heard_size true f y = refl
heard_size false f y = refl

-- The numbers that arrived at the receiver stay. The receiver of a TID that has an agreement does not change.
pub record KeptReceiver (agreed : Bool) (r q : Receiver) : Type 0 where
  pub arrived : q.arrived ≡ r.arrived
  pub starts : (n : ℕ) → has r.starts n ≡ true → has q.starts n ≡ true
  pub equal : agreed ≡ true → q ≡ r

pub same_receiver : (b : Bool) (r q : Receiver) → q ≡ r → KeptReceiver b r q
same_receiver b r q e = record {
  arrived = ap (λ (z : Receiver). z.arrived) e;
  starts = λ n h. ap (λ (z : Receiver). has z.starts n) e ∙ h;
  equal = λ _. e;
}

-- The worlds have the same arrivals, and sessions whose numbers keep their ids.
pub record Kept (w v : World) : Type 0 where
  pub receivers : (s t : ℕ) → KeptReceiver (is_agreed w s t) (receiver w s t) (receiver v s t)
  pub sessions : (s t : ℕ) → KeptSession (session w s t) (session v s t)
  pub sizes : (s t : ℕ) → (session v s t).size ≡ (session w s t).size
  pub agreed : (s t : ℕ) → is_agreed v s t ≡ is_agreed w s t
  pub live : (s : ℕ) → is_live v s ≡ is_live w s
  pub offloaded : (s : ℕ) → is_offloaded v s ≡ is_offloaded w s

pub kept_same : (w v : World) → Same w v → Kept w v
kept_same w v h = record {
  receivers = λ s t. same_receiver (is_agreed w s t) (receiver w s t) (receiver v s t)
      (ap (λ (a : Side). a.receiver) (h.sides s t));
  sessions = λ s t. kept_equal (session w s t) (session v s t) (ap (λ (a : Side). a.session) (h.sides s t));
  sizes = λ s t. ap (λ (a : Side). a.session.size) (h.sides s t);
  agreed = λ s t. ap (λ (a : Side). a.agreed) (h.sides s t);
  live = h.live;
  offloaded = h.offloaded;
}

pub kept_here : (w : World) → Kept w w
kept_here w = kept_same w w (same w)

pub then_keep : (u v w : World) → Kept u v → Kept v w → Kept u w
then_keep u v w h k = record {
  receivers = λ s t.
      let a = h.receivers s t in
      let b = k.receivers s t in
      record {
        arrived = b.arrived ∙ a.arrived;
        starts = λ n e. b.starts n (a.starts n e);
        equal = λ is. b.equal (h.agreed s t ∙ is) ∙ a.equal is;
      };
  sessions = λ s t. then_kept (session u s t) (session v s t) (session w s t) (h.sessions s t)
      (k.sessions s t);
  sizes = λ s t. k.sizes s t ∙ h.sizes s t;
  agreed = λ s t. k.agreed s t ∙ h.agreed s t;
  live = λ s. k.live s ∙ h.live s;
  offloaded = λ s. k.offloaded s ∙ h.offloaded s;
}

pub keep_on_session : (w : World) (s t : ℕ) (f : Session → Session) →
    KeptSession (session w s t) (f (session w s t)) → (f (session w s t)).size ≡ (session w s t).size →
    Kept w (on_session w s t f)
unfolding on_session
keep_on_session w s t f h size = record {
  receivers = λ i j. same_receiver (is_agreed w i j) _ _
      (each_side_on (λ i j z. z.receiver ≡ receiver w i j) w s t
      (λ y. record y { session = f y.session }) (λ i j. refl) refl i j);
  sessions = each_side_on (λ i j z. KeptSession (session w i j) z.session) w s t
      (λ y. record y { session = f y.session }) (λ i j. kept_refl (session w i j)) h;
  sizes = each_side_on (λ i j z. z.session.size ≡ (session w i j).size) w s t
      (λ y. record y { session = f y.session }) (λ i j. refl) size;
  agreed = each_side_on (λ i j z. z.agreed ≡ is_agreed w i j) w s t
      (λ y. record y { session = f y.session }) (λ i j. refl) refl;
  live = on_live w s t (λ y. record y { session = f y.session });
  offloaded = on_offloaded w s t (λ y. record y { session = f y.session });
}

-- A TID without an agreement catches up.
pub keep_caught : (w : World) (s t : ℕ) → is_agreed w s t ≡ false → Kept w (caught_up w s t)
keep_caught w s t d =
    let start : ℕ = start_of (session w s t) in
    let f : Tid → Tid = told_start start in
    subst (Kept w) (sym (caught_up_is w s t)) (record {
      receivers = each_side_on (λ i j z. KeptReceiver (is_agreed w i j) (receiver w i j) z.receiver) w s t f
          (λ i j. same_receiver (is_agreed w i j) _ _ refl)
          (record {
            arrived = refl;
            starts = λ n h. has_old (receiver w s t).starts start n h;
            equal = λ is. absurd (cc (is, d));
          });
      sessions = each_side_on (λ i j z. KeptSession (session w i j) z.session) w s t f
          (λ i j. kept_refl (session w i j)) (kept_heard true start (session w s t));
      sizes = each_side_on (λ i j z. z.session.size ≡ (session w i j).size) w s t f (λ i j. refl) refl;
      agreed = each_side_on (λ i j z. z.agreed ≡ is_agreed w i j) w s t f (λ i j. refl) refl;
      live = on_live w s t f;
      offloaded = on_offloaded w s t f;
    })

pub keep_caught_up : (w : World) (s t : ℕ) → Kept w (caught_up_if_plain w s t)
keep_caught_up w s t = if_caught (Kept w) w s t (kept_here w) (keep_caught w s t)

pub opened_caught : (w : World) (s t : ℕ) → (caught_up w s t).opened ≡ w.opened
opened_caught w s t = ap (λ (v : World). v.opened) (caught_up_is w s t) ∙ on_opened w s t _

pub exchanges_caught : (w : World) (s t : ℕ) → (caught_up w s t).exchanges ≡ w.exchanges
exchanges_caught w s t = ap (λ (v : World). v.exchanges) (caught_up_is w s t) ∙ on_exchanges w s t _

pub opened_caught_up : (w : World) (s t : ℕ) → (caught_up_if_plain w s t).opened ≡ w.opened
opened_caught_up w s t = if_caught (λ u. u.opened ≡ w.opened) w s t refl (λ _. opened_caught w s t)

pub exchanges_caught_up : (w : World) (s t : ℕ) → (caught_up_if_plain w s t).exchanges ≡ w.exchanges
exchanges_caught_up w s t = if_caught (λ u. u.exchanges ≡ w.exchanges) w s t refl
    (λ _. exchanges_caught w s t)

keep_if : (b : Bool) (w u v : World) → Kept w u → Kept w v → Kept w (if b then u else v)
keep_if true w u v h k = h
keep_if false w u v h k = k

keep_filled_if : (b : Bool) (w : World) (x y : Aggregate) → Kept w x.world → Kept w y.world →
    Kept w (if b then x else y).world
keep_filled_if true w x y h k = h
keep_filled_if false w x y h k = k

keep_prepared_if : (b : Bool) (w : World) (x y : Prepared) → Kept w x.world → Kept w y.world →
    Kept w (if b then x else y).world
keep_prepared_if true w x y h k = h
keep_prepared_if false w x y h k = k

keep_number : (o : Option Item) (w : World) (s t : ℕ) → Kept w (with_number w s t o)
unfolding with_number
keep_number None w s t = kept_here w
keep_number (Some x) w s t = keep_on_session w s t (λ y. with_number_given y x.id)
    (kept_give (session w s t) x.id) refl

keep_fresh : (n : ℕ) (w : World) (s t : ℕ) (ms : List Mpdu) → Kept w (with_fresh n w s t ms).world
unfolding with_fresh
keep_fresh zero w s t ms = kept_here w
keep_fresh (suc n) w s t ms =
    let taken = taken_for_tid w s t in
    let numbered : Kept w (with_number taken.world s t taken.item) =
    then_keep w taken.world _ (kept_same w taken.world (same_take w s t))
    (keep_number taken.item taken.world s t) in
    keep_filled_if (not (can_give w s t)) w _ _ (kept_here w)
    (keep_filled_if _ w _ _ (then_keep w _ _ numbered (keep_fresh n _ s t _)) numbered)

keep_filled : (w : World) (s t : ℕ) → Kept w (aggregate_of w s t).world
unfolding aggregate_of
keep_filled w s t =
    let chosen : List Mpdu = longest_fitting w s (waiting_mpdus w s t) in
    keep_filled_if (length chosen == length (waiting_mpdus w s t)) w
    (with_fresh (most_frames w s - length chosen) w s t chosen) (record { world = w; mpdus = chosen })
    (keep_fresh (most_frames w s - length chosen) w s t chosen) (kept_here w)

keep_frames : (w : World) (s t : ℕ) (f : Aggregate) → Kept w f.world → Kept w (prepared_data s t f).world
unfolding prepared_data
keep_frames w s t f h = then_keep w f.world _ h
    (keep_on_session f.world s t (with_flying f.world.exchanges f.mpdus)
    (kept_fly f.mpdus (session f.world s t) f.world.exchanges)
    (fly_size f.mpdus (session f.world s t) f.world.exchanges))

pub keep_prepared : (w : World) (s t : ℕ) → Kept w (prepared_exchange w s t).world
unfolding prepared_exchange
keep_prepared w s t = keep_prepared_if (request_due (session w s t)) w _ _ (kept_here w)
    (keep_frames w s t (aggregate_of w s t) (keep_filled w s t))

keep_sent : (w : World) (s t : ℕ) (c : Class) (p : Prepared) → Kept w p.world →
    Kept w (send_outcome s t c p).world
unfolding send_outcome with_exchange_opened
keep_sent w s t c p h = then_keep w p.world _ h
    (then_keep p.world _ _ (record {
      receivers = λ i j. same_receiver (is_agreed p.world i j) _ _ refl;
      sessions = λ i j. kept_refl (session p.world i j);
      sizes = λ i j. refl;
      agreed = λ i j. refl;
      live = λ i. refl;
      offloaded = λ i. refl;
    }) (kept_same _ _ (same_spent _ _)))

keep_pulled_by : (o : Option ℕ) (w : World) (c : Class) → Kept w (pull_outcome_for w c o).world
unfolding pull_outcome_for
keep_pulled_by None w c = kept_here w
keep_pulled_by (Some s) w c = keep_sent w s _ c _
    (then_keep w _ _ (kept_same w _ (same_after_turn w s c (sending_tid w s c))) (keep_prepared _ s _))

pub keep_pulled : (w : World) (c : Class) (l : Limits) → Kept w (pull_outcome w c l).world
unfolding pull_outcome
keep_pulled w c l = then_keep w (picked_world w c l) _ (kept_same w _ (same_picked w c l))
    (keep_pulled_by (picked_station w c).winner (picked_world w c l) c)

pub keep_settled : (end : End) (w : World) (s t : ℕ) (m : Mpdu) → Kept w (with_settled w s t end m)
unfolding with_settled with_failed_finished
keep_settled end w s t m =
    let f : Slot → Slot = slot_after_end w.config.attempts end in
    let v : World = on_session w s t (on_slot m.number f) in
    let k : Kept w v = keep_on_session w s t (on_slot m.number f)
    (kept_on_slot (session w s t) m.number f (λ x. end_id w.config.attempts end x)) refl in
    on_settled (Kept w) end w s t m
    (λ _. then_keep w _ _ (keep_on_session w s t (with_state State.Acked m.number)
    (kept_on_slot (session w s t) m.number (λ x. record x { state = State.Acked }) (λ x. refl)) refl)
    (kept_same _ _ (same_finish _ _ _)))
    (λ _. keep_if (is_failed (slot (session v s t) m.number).state) w _ v
    (then_keep w v _ k (kept_same v _ (same_finish v _ _))) k)

keep_all_settled : (ms : List Mpdu) (w : World) (s t : ℕ) (ends : ℕ → End) →
    Kept w (with_all_settled w s t ends ms)
unfolding with_all_settled
keep_all_settled [] w s t ends = kept_here w
keep_all_settled (m ∷ ms) w s t ends = then_keep w _ _ (keep_settled (ends m.number) w s t m)
    (keep_all_settled ms _ s t ends)

keep_after_done : (c : Content) (w : World) (x : Exchange) (heard : Bool) → Kept w (after_done w x heard c)
unfolding after_done
keep_after_done (Frames ms) w x heard = then_keep w _ _ (keep_all_settled ms w x.station x.tid _)
    (keep_caught_up _ x.station x.tid)
keep_after_done (Request f) w x heard = keep_on_session w x.station x.tid (with_heard_start heard f)
    (kept_heard heard f (session w x.station x.tid)) (heard_size heard f (session w x.station x.tid))

keep_without : (w : World) (e : ℕ) → Kept w (without_exchange w e)
unfolding without_exchange
keep_without w e = record {
  receivers = λ s t. same_receiver (is_agreed w s t) _ _ refl;
  sessions = λ s t. kept_refl (session w s t);
  sizes = λ s t. refl;
  agreed = λ s t. refl;
  live = λ s. refl;
  offloaded = λ s. refl;
}

pub keep_ended : (air : Option ℕ) (w : World) (x : Exchange) (heard : Bool) →
    Kept w (done_outcome w x heard air).world
unfolding done_outcome
keep_ended air w x heard = then_keep w _ _ (keep_without w x.number)
    (then_keep _ _ _ (kept_same _ _ (same_charged air (without_exchange w x.number) x))
    (keep_after_done x.content _ x heard))

pub keep_answered : (w : World) (x : Exchange) → Kept w (answer_outcome w x).world
unfolding answer_outcome with_exchange
keep_answered w x = record {
  receivers = λ s t. same_receiver (is_agreed w s t) _ _ refl;
  sessions = λ s t. kept_refl (session w s t);
  sizes = λ s t. refl;
  agreed = λ s t. refl;
  live = λ s. refl;
  offloaded = λ s. refl;
}

pub keep_marked : (w : World) (x : Exchange) (unsent given_up : List ℕ) →
    Kept w (marked_world w x unsent given_up)
unfolding with_exchange
keep_marked w x unsent given_up = record {
  receivers = λ s t. same_receiver (is_agreed w s t) _ _ refl;
  sessions = λ s t. kept_refl (session w s t);
  sizes = λ s t. refl;
  agreed = λ s t. refl;
  live = λ s. refl;
  offloaded = λ s. refl;
}

pub keep_unsent : (w : World) (x : Exchange) (n : ℕ) → Kept w (unsent_outcome w x n).world
unfolding unsent_outcome
keep_unsent w x n = keep_marked w x (with_member n x.unsent) x.given_up

pub keep_given_up : (w : World) (x : Exchange) (n : ℕ) → Kept w (give_up_outcome w x n).world
unfolding give_up_outcome
keep_given_up w x n = keep_marked w x x.unsent (with_member n x.given_up)

pub kept_flush : (limit : ℕ) (y : Session) → KeptSession y (after_flush limit y)
kept_flush limit y = flush_along (KeptSession y) limit y
    (λ z n e l b waits k. then_kept y z _ k (kept_on_slot z n (slot_given_up limit) (λ x. refl)))
    (kept_refl y)

pub keep_flushed : (w : World) (s t : ℕ) → Kept w (flush_outcome w s t).world
keep_flushed w s t = if_flushed (Kept w)
    (record {
      finish = λ u id k. then_keep w u _ k (kept_same u _ (same_finish u _ id));
      empty = λ u q k. then_keep w u _ k (kept_same u _ (same_on_queue u q _));
    }) w s t
    (λ v k d. then_keep w v _ k (keep_caught v s t d))
    (keep_on_session w s t (after_flush w.config.attempts) (kept_flush w.config.attempts
    (session w s t)) refl)

-- After the waiting numbers of an agreement that ends are given up.
pub keep_numbers_ended : (w : World) (s t : ℕ) → Kept w (after_numbers_ended w s t)
keep_numbers_ended w s t = then_keep w _ _
    (keep_on_session w s t (after_flush w.config.attempts) (kept_flush w.config.attempts
    (session w s t)) refl)
    (kept_same _ _ (same_ended w s t))

opened_on_session : (w : World) (s t : ℕ) (f : Session → Session) → (on_session w s t f).opened ≡ w.opened
unfolding on_session
opened_on_session w s t f = on_opened w s t _

pub opened_flushed : (w : World) (s t : ℕ) → (flush_outcome w s t).world.opened ≡ w.opened
opened_flushed w s t = if_flushed (λ u. u.opened ≡ w.opened)
    (record {
      finish = λ u id k. (same_finish u _ id).opened ∙ k;
      empty = λ u q k. (same_on_queue u q _).opened ∙ k;
    }) w s t (λ v k _. opened_caught v s t ∙ k) (opened_on_session w s t _)

pub keep_plain : (w v : World) → w.stations ≡ v.stations → Kept w v
keep_plain w v a = record {
  receivers = λ s t. same_receiver (is_agreed w s t) _ _
      (ap (λ (x : List (Option Station)). (sides_of (at None x s) t).receiver) (sym a));
  sessions = λ s t. kept_equal (session w s t) (session v s t)
      (ap (λ (x : List (Option Station)). (sides_of (at None x s) t).session) (sym a));
  sizes = λ s t. ap (λ (x : List (Option Station)). (sides_of (at None x s) t).session.size) (sym a);
  agreed = λ s t. ap (λ (x : List (Option Station)). (sides_of (at None x s) t).agreed) (sym a);
  live = λ s. ap (λ (x : List (Option Station)). is_some (at None x s)) (sym a);
  offloaded = λ s. ap (λ (x : List (Option Station)). (unwrap_or (at None x s) no_station).offloaded) (sym a);
}

pub keep_enqueued : (w : World) (s t flow len : ℕ) → Kept w (enqueue_outcome w s t flow len).world
unfolding enqueue_outcome with_frame
keep_enqueued w s t flow len = then_keep w _ _
    (kept_same w _ (then_same _ _ _ (same_within_limit w) (same_put_in _ s t _ _))) (keep_plain _ _ refl)

pub keep_reaped : (ids : List ℕ) (w : World) → Kept w (reap_outcome w ids).world
unfolding reap_outcome
keep_reaped [] w = kept_here w
keep_reaped (id ∷ ids) w = keep_plain w _ refl
