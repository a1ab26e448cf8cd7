-- Defines the changes of a world that add no frame to a queue, remove no accepted frame and keep its call,
-- and acknowledge only some frames. Proves that the parts of a call that do not enqueue are such changes.
use Rattle.std.proofs.Common.{◌≡◌, refl, ap, sym, ◌∙◌, subst, arith, ℕ, zero, suc, ◌≤◌, ◌<◌, Bool, true, false, if◌then◌else◌, ◌==◌, ◌||◌, ◌⊎◌, inl, inr, List, [], ◌∷◌, length, map, Option, Some, None, IfSome}
use Rattle.wf_frame.specs.declared.classes.Class.{Class}
use Rattle.wf_frame.specs.declared.notes.Limits.{Limits}
use Rattle.wf_frame.specs.declared.classes.Fate.{Fate}
use Rattle.wf_def_lists.specs.Table.{at, put}
use Rattle.wf_def_codel.specs.Codel.{Item, Params, Codel, Dequeued, dequeue}
use Rattle.wf_def_codel.specs.CodelLoop.{giving, dropping_first}
use Rattle.wf_law_rules.proofs.Lemmas.Dequeues.{each_dequeue}
use Rattle.wf_def_rotation.specs.Rotation.{Rotation}
use Rattle.wf_def_agreement.specs.Receiver.{Receiver}
use Rattle.wf_def_agreement.specs.Session.{Session}
use Rattle.wf_def_world.specs.World.{World, Station, Share, Tid, Queue, Exchange, with_station, on_station, on_tid, on_session, on_receiver, with_queues, on_share, on_queue, with_rotation, with_mode, with_fate, with_frame_finished, with_frames_finished, Frame, no_frame, frame, new_queue, queue, accepted_count, codel_params}
use Rattle.wf_def_world.specs.FlowQueues.{without_head, after_limit, with_listed_queue, with_queues_paid, taken_by_codel, taken_from_picked, taken_for_tid, after_queue_left, after_queues_left}
use Rattle.wf_def_world.specs.CanSend.{with_listing_in, with_listings_in, with_listings_of}
use Rattle.wf_def_world.specs.Exchanges.{with_station_paid, with_stations_paid, after_pick, after_tid_turn, after_charge, caught_up, caught_up_if_plain, with_spent}
use Rattle.wf_def_world.specs.Step.{with_deficits_lowered, weight_outcome, hold_outcome, free_outcome, begin_outcome, cease_outcome, after_numbers_ended}
use Rattle.wf_frame.specs.Classes.{all_classes}
use Rattle.wf_law_runs.proofs.Common.Flushes.{if_caught}
use Rattle.wf_law_runs.specs.Queues.{EachItem}
use Rattle.wf_law_rules.proofs.Lemmas.Tables.{each_put, at_put_same}
use Rattle.wf_law_rules.proofs.Lemmas.Numbers.{on_bool, eq_yes, yes_eq, either, or_left, or_right}
use Rattle.wf_law_runs.proofs.Common.Picked.{picked_world}
use Rattle.wf_law_runs.proofs.Windows.Sides.{begun_is, ceased_is}
use Rattle.wf_frame.specs.declared.classes.Fate.TheVariants.{Acked}

-- ---- the frames of a queue

-- The ids increase strictly, and the first is at least lo.
abbrev pub Ordered : ℕ → List Item → Type 0
Ordered lo [] = Unit {0}
Ordered lo (x ∷ xs) = (lo ≤ x.id) × Ordered (suc x.id) xs

abbrev pub carries : List Item → ℕ → Bool
carries [] k = false
carries (x ∷ xs) k = (x.id == k) || carries xs k

-- The frame has at least one octet.
abbrev pub HasOctets : Item → Type 0
HasOctets x = 1 ≤ x.len

pub record Fewer (ys xs : List Item) : Type 0 where
  pub ordered : (lo : ℕ) → Ordered lo ys → Ordered lo xs
  pub has : (k : ℕ) → carries xs k ≡ true → carries ys k ≡ true
  pub short : length xs ≤ length ys
  pub sized : EachItem HasOctets ys → EachItem HasOctets xs

pub fewer : (xs : List Item) → Fewer xs xs
fewer xs = record { ordered = λ lo o. o; has = λ k h. h; short = omega arith; sized = λ h. h }

pub then_fewer : (zs ys xs : List Item) → Fewer zs ys → Fewer ys xs → Fewer zs xs
then_fewer zs ys xs h k = record {
  ordered = λ lo o. k.ordered lo (h.ordered lo o);
  has =
      λ n e. h.has n (k.has n e);
  short = omega (arith, h.short, k.short);
  sized = λ e. k.sized (h.sized e);
}

pub fewer_none : (ys : List Item) → Fewer ys []
fewer_none ys = record {
  ordered = λ lo o. tt;
  has = λ k h. absurd (cc h);
  short = omega arith;
  sized =
      λ h. tt;
}

pub ordered_from : (xs : List Item) (a b : ℕ) → b ≤ a → Ordered a xs → Ordered b xs
ordered_from [] a b h o = tt
ordered_from (x ∷ xs) a b h o = (omega (arith, o.0, h), o.1)

pub fewer_tail : (x : Item) (xs : List Item) → Fewer (x ∷ xs) xs
fewer_tail x xs = record {
  ordered = λ lo o. ordered_from xs (suc x.id) lo (omega (arith, o.0)) o.1;
  has =
      λ k h. or_right (x.id == k) (carries xs k) h;
  short = omega arith;
  sized = λ h. h.1;
}

pub carries_from : (xs : List Item) (lo k : ℕ) → Ordered lo xs → carries xs k ≡ true → lo ≤ k
carries_from [] lo k o h = absurd (cc h)
carries_from (x ∷ xs) lo k o h = elim (either (x.id == k) (carries xs k) h) [
  | inl e ↦
      omega (arith, o.0, eq_yes x.id k e)
  | inr e ↦ omega (arith, o.0, carries_from xs (suc x.id) k o.1 e)
]

-- The frame that a dequeue returns was in the queue and is no longer there. If the ids of the queue increase,
-- those that are left are greater.
pub record IsGiven (ys xs : List Item) (x : Item) : Type 0 where
  pub there : carries ys x.id ≡ true
  pub gone : (lo : ℕ) → Ordered lo ys → carries xs x.id ≡ false
  pub later : (lo : ℕ) → Ordered lo ys → (k : ℕ) → carries xs k ≡ true → x.id < k

pub record IsDequeued (ys : List Item) (d : Dequeued) : Type 0 where
  pub rest : Fewer ys d.rest
  pub given : IfSome d.given (IsGiven ys d.rest)

dequeued_head : (x : Item) (xs : List Item) (c : Codel) → IsDequeued (x ∷ xs) (giving c (x ∷ xs))
dequeued_head x xs c = record {
  rest = fewer_tail x xs;
  given = record {
    there = or_left (x.id == x.id) (carries xs x.id) (yes_eq x.id x.id refl);
    gone = λ lo o. on_bool (carries xs x.id) (λ h.
        absurd (omega (arith, carries_from xs (suc x.id) x.id o.1 h))) (λ h. h);
    later = λ lo o k h. omega (arith, carries_from xs (suc x.id) k o.1 h);
  };
}

given_along : (o : Option Item) (ys zs xs : List Item) → Fewer zs ys → IfSome o (IsGiven ys xs) →
    IfSome o (IsGiven zs xs)
given_along None ys zs xs h k = tt
given_along (Some x) ys zs xs h k = record {
  there = h.has x.id k.there;
  gone =
      λ lo o. k.gone lo (h.ordered lo o);
  later = λ lo o. k.later lo (h.ordered lo o);
}

dequeued_dropping : (x : Item) (xs : List Item) (d : Dequeued) → IsDequeued xs d →
    IsDequeued (x ∷ xs) (dropping_first x d)
dequeued_dropping x xs d h = record {
  rest = then_fewer (x ∷ xs) xs d.rest (fewer_tail x xs) h.rest;
  given = given_along d.given xs (x ∷ xs) d.rest (fewer_tail x xs) h.given;
}

pub right_dequeue : (xs : List Item) (p : Params) (now : ℕ) (c : Codel) → IsDequeued xs (dequeue p now c xs)
right_dequeue xs p now c = each_dequeue IsDequeued
    (λ c. record { rest = fewer []; given = tt }) dequeued_head dequeued_dropping xs p now c

-- ---- worlds

abbrev pub IsAcked : World → ℕ → Type 0
IsAcked w id = (frame w id).fate ≡ Acked

-- P holds for the frames that may have been acknowledged.
pub record Less (P : ℕ → Type 0) (w v : World) : Type 0 where
  pub queues : (q : ℕ) → Fewer (queue w q).items (queue v q).items
  pub accepted : accepted_count w ≤ accepted_count v
  pub fates : (id : ℕ) → IsAcked v id → IsAcked w id ⊎ P id
  pub notes : (id : ℕ) → id < accepted_count w → (frame v id).note ≡ (frame w id).note

pub less : (P : ℕ → Type 0) (w : World) → Less P w w
less P w = record {
  queues = λ q. fewer (queue w q).items;
  accepted = omega arith;
  fates = λ id h. inl h;
  notes = λ id h. refl;
}

pub then_less : (P : ℕ → Type 0) (u v w : World) → Less P u v → Less P v w → Less P u w
then_less P u v w h k = record {
  queues = λ q. then_fewer (queue u q).items (queue v q).items (queue w q).items (h.queues q) (k.queues q);
  accepted = omega (arith, h.accepted, k.accepted);
  fates = λ id e. elim (k.fates id e) [ inl a ↦ h.fates id a | inr p ↦ inr p ];
  notes = λ id e. k.notes id (omega (arith, e, h.accepted)) ∙ h.notes id e;
}

pub if_less : (P : ℕ → Type 0) (b : Bool) (w u v : World) → Less P w u → Less P w v →
    Less P w (if b then u else v)
if_less P true w u v h k = h
if_less P false w u v h k = k

pub less_plain : (P : ℕ → Type 0) (w v : World) → w.queues ≡ v.queues → w.frames ≡ v.frames → Less P w v
less_plain P w v a b = record {
  queues = λ q. subst (λ (qs : List Queue). Fewer (queue w q).items (at new_queue qs q).items) a
      (fewer (queue w q).items);
  accepted = omega (arith, ap (length {A = Frame}) b);
  fates = λ id h. inl (ap (λ (fs : List Frame). (at no_frame fs id).fate) b ∙ h);
  notes = λ id h. ap (λ (fs : List Frame). (at no_frame fs id).note) (sym b);
}

pub less_on_station : (P : ℕ → Type 0) (w : World) (s : ℕ) (f : Station → Station) →
    Less P w (on_station w s f)
unfolding on_station with_station
less_on_station P w s f = less_plain P w _ refl refl

pub less_on_tid : (P : ℕ → Type 0) (w : World) (s t : ℕ) (f : Tid → Tid) → Less P w (on_tid w s t f)
unfolding on_tid
less_on_tid P w s t f = less_on_station P w s _

pub less_on_session : (P : ℕ → Type 0) (w : World) (s t : ℕ) (f : Session → Session) →
    Less P w (on_session w s t f)
unfolding on_session
less_on_session P w s t f = less_on_tid P w s t _

pub less_on_receiver : (P : ℕ → Type 0) (w : World) (s t : ℕ) (f : Receiver → Receiver) →
    Less P w (on_receiver w s t f)
unfolding on_receiver
less_on_receiver P w s t f = less_on_tid P w s t _

pub less_with_queues : (P : ℕ → Type 0) (w : World) (s t : ℕ) (r : Rotation) → Less P w (with_queues w s t r)
unfolding with_queues
less_with_queues P w s t r = less_on_tid P w s t _

pub less_on_share : (P : ℕ → Type 0) (w : World) (s : ℕ) (c : Class) (f : Share → Share) →
    Less P w (on_share w s c f)
unfolding on_share
less_on_share P w s c f = less_on_station P w s _

pub less_on_queue : (P : ℕ → Type 0) (w : World) (q : ℕ) (f : Queue → Queue) →
    Fewer (queue w q).items (f (queue w q)).items → Less P w (on_queue w q f)
unfolding on_queue
less_on_queue P w q f h = record {
  queues = each_put (λ i y. Fewer (queue w i).items y.items) new_queue w.queues q (f (queue w q))
      (λ i. fewer (queue w i).items) h;
  accepted = omega arith;
  fates = λ id e. inl e;
  notes = λ id e. refl;
}

pub less_with_rotation : (P : ℕ → Type 0) (w : World) (c : Class) (r : Rotation) →
    Less P w (with_rotation w c r)
unfolding with_rotation
less_with_rotation P w c r = less_plain P w _ refl refl

length_put_frames : (xs : List Frame) (k : ℕ) (v : Frame) → length xs ≤ length (put no_frame xs k v)
length_put_frames [] k v = omega arith
length_put_frames (x ∷ xs) zero v = omega arith
length_put_frames (x ∷ xs) (suc k) v = omega (arith, length_put_frames xs k v)

pub less_finish : (P : ℕ → Type 0) (w : World) (fate : Fate) (id : ℕ) → (fate ≡ Acked → P id) →
    Less P w (with_frame_finished w fate id)
unfolding with_frame_finished with_fate
less_finish P w fate id h = record {
  queues = λ q. fewer (queue w q).items;
  accepted = length_put_frames w.frames id _;
  fates = λ i. each_put (λ j x. j ≡ i → x.fate ≡ Acked → IsAcked w i ⊎ P i) no_frame w.frames id _
      (λ j e a. inl (subst (IsAcked w) e a)) (λ e a. inr (subst P e (h a))) i refl;
  notes = λ i low. each_put (λ j x. j ≡ i → x.note ≡ (frame w i).note) no_frame w.frames id _
      (λ j e. ap (λ (n : ℕ). (frame w n).note) e) (λ e. ap (λ (n : ℕ). (frame w n).note) e) i refl;
}

pub less_drop_all : (P : ℕ → Type 0) (ids : List ℕ) (w : World) (fate : Fate) → (fate ≡ Acked → ⊥) →
    Less P w (with_frames_finished w fate ids)
unfolding with_frames_finished
less_drop_all P [] w fate h = less P w
less_drop_all P (id ∷ ids) w fate h = then_less P _ _ _ (less_finish P w fate id (λ e. absurd (h e)))
    (less_drop_all P ids _ fate h)

pub less_listed_in_all : (P : ℕ → Type 0) (cs : List Class) (w : World) (s : ℕ) →
    Less P w (with_listings_in w s cs)
unfolding with_listings_in with_listing_in
less_listed_in_all P [] w s = less P w
less_listed_in_all P (c ∷ cs) w s = then_less P _ _ _
    (if_less P _ w _ _ (less_with_rotation P w c _) (less P w)) (less_listed_in_all P cs _ s)

pub less_listed : (P : ℕ → Type 0) (o : Option ℕ) (w : World) → Less P w (with_listings_of w o)
unfolding with_listings_of
less_listed P None w = less P w
less_listed P (Some s) w = less_listed_in_all P _ w s

less_pay_stations : (P : ℕ → Type 0) (ss : List ℕ) (w : World) (c : Class) (quanta : ℕ → ℕ) →
    Less P w (with_stations_paid w c quanta ss)
unfolding with_stations_paid with_station_paid
less_pay_stations P [] w c quanta = less P w
less_pay_stations P (s ∷ ss) w c quanta = then_less P _ _ _ (less_on_share P w s c _)
    (less_pay_stations P ss _ c quanta)

pub less_after_pick : (P : ℕ → Type 0) (w : World) (c : Class) → Less P w (after_pick w c)
unfolding after_pick
less_after_pick P w c = then_less P _ _ _ (less_pay_stations P _ w c _) (less_with_rotation P _ c _)

pub less_picked : (P : ℕ → Type 0) (w : World) (c : Class) (l : Limits) → Less P w (picked_world w c l)
less_picked P w c l =
    let k : Less P w (after_pick w c) = less_after_pick P w c in
    record { queues = k.queues; accepted = k.accepted; fates = k.fates; notes = k.notes }

pub less_after_turn : (P : ℕ → Type 0) (w : World) (s : ℕ) (c : Class) (t : ℕ) →
    Less P w (after_tid_turn w s c t)
unfolding after_tid_turn
less_after_turn P w s c t = less_on_share P w s c _

pub less_spent : (P : ℕ → Type 0) (w : World) (x : Exchange) → Less P w (with_spent w x)
unfolding with_spent
less_spent P w x = less_on_station P w x.station _

less_without_head : (P : ℕ → Type 0) (items : List Item) (w : World) (q : ℕ) → (queue w q).items ≡ items →
    Less P w (without_head w q items)
unfolding without_head
less_without_head P [] w q e = less P w
less_without_head P (x ∷ rest) w q e = then_less P _ _ _
    (less_on_queue P w q _ (subst (λ (ys : List Item). Fewer ys rest) (sym e) (fewer_tail x rest)))
    (less_finish P _ _ _ (λ h. absurd (cc h)))

pub less_within_limit : (P : ℕ → Type 0) (w : World) → Less P w (after_limit w)
unfolding after_limit
less_within_limit P w = if_less P _ w _ _ (less_without_head P _ w _ refl) (less P w)

pub less_listed_queue : (P : ℕ → Type 0) (w : World) (s t q : ℕ) → Less P w (with_listed_queue w s t q)
unfolding with_listed_queue
less_listed_queue P w s t q = if_less P _ w _ _ (less P w)
    (then_less P _ _ _ (less_on_queue P w q _ (fewer _)) (less_with_queues P _ s t _))

pub less_pay_queues : (P : ℕ → Type 0) (qs : List ℕ) (w : World) (quanta : ℕ → ℕ) →
    Less P w (with_queues_paid w quanta qs)
unfolding with_queues_paid
less_pay_queues P [] w quanta = less P w
less_pay_queues P (q ∷ qs) w quanta = then_less P _ _ _ (less_on_queue P w q _ (fewer _))
    (less_pay_queues P qs _ quanta)

pub less_purge_queues : (P : ℕ → Type 0) (qs : List ℕ) (w : World) → Less P w (after_queues_left w qs)
unfolding after_queues_left after_queue_left
less_purge_queues P [] w = less P w
less_purge_queues P (q ∷ qs) w = then_less P _ _ _
    (then_less P _ _ _ (less_on_queue P w q _ (fewer_none _)) (less_drop_all P _ _ _ (λ h. cc h)))
    (less_purge_queues P qs _)

pub less_charged : (air : Option ℕ) (P : ℕ → Type 0) (w : World) (x : Exchange) →
    Less P w (after_charge w x air)
unfolding after_charge
less_charged air P w x = less_on_share P w _ _ _

-- ---- a take

-- The frame of a take was in one queue, and is no longer there. If the ids of each queue increase, those that
-- are left in this queue are greater.
pub record IsTaken (w v : World) (x : Item) : Type 0 where
  pub place : ℕ
  pub there : carries (queue w place).items x.id ≡ true
  pub gone : ((q : ℕ) → Ordered 0 (queue w q).items) → carries (queue v place).items x.id ≡ false
  pub later : ((q : ℕ) → Ordered 0 (queue w q).items) → (k : ℕ) →
      carries (queue v place).items k ≡ true → x.id < k

pub queues_dropped : (ids : List ℕ) (w : World) (fate : Fate) →
    (with_frames_finished w fate ids).queues ≡ w.queues
unfolding with_frames_finished with_frame_finished with_fate
queues_dropped [] w fate = refl
queues_dropped (id ∷ ids) w fate = queues_dropped ids _ fate

pub queue_on : (w : World) (q : ℕ) (f : Queue → Queue) → queue (on_queue w q f) q ≡ f (queue w q)
unfolding on_queue
queue_on w q f = at_put_same new_queue w.queues q (f (queue w q))

taken_by : (o : Option Item) (w v : World) (q : ℕ) (xs : List Item) → (queue v q).items ≡ xs →
    IfSome o (IsGiven (queue w q).items xs) → IfSome o (IsTaken w v)
taken_by None w v q xs e h = tt
taken_by (Some x) w v q xs e h = record {
  place = q;
  there = h.there;
  gone =
      λ o. ap (λ (ys : List Item). carries ys x.id) e ∙ h.gone 0 (o q);
  later = λ o k c. h.later 0 (o q) k (ap (λ (ys : List Item). carries ys k) (sym e) ∙ c);
}

pub less_dequeued : (P : ℕ → Type 0) (w : World) (q : ℕ) (d : Dequeued) → IsDequeued (queue w q).items d →
    Less P w (taken_by_codel w q d).world
unfolding taken_by_codel
less_dequeued P w q d h = then_less P _ _ _ (less_on_queue P w q _ h.rest) (less_drop_all P _ _ _ (λ e. cc e))

given_dequeued : (w : World) (q : ℕ) (d : Dequeued) → IsDequeued (queue w q).items d →
    IfSome (taken_by_codel w q d).item (IsTaken w (taken_by_codel w q d).world)
unfolding taken_by_codel
given_dequeued w q d h = taken_by d.given w _ q d.rest
    (ap (λ (qs : List Queue). (at new_queue qs q).items) (queues_dropped (map (λ x. x.id) d.dropped) _ _)
    ∙ ap (λ (y : Queue). y.items) (queue_on w q _)) h.given

less_taken_from : (P : ℕ → Type 0) (o : Option ℕ) (w : World) (s : ℕ) →
    Less P w (taken_from_picked w s o).world
unfolding taken_from_picked
less_taken_from P None w s = less P w
less_taken_from P (Some q) w s = less_dequeued P w q _
    (right_dequeue (queue w q).items (codel_params w s) w.clock (queue w q).codel)

given_taken_from : (o : Option ℕ) (w : World) (s : ℕ) →
    IfSome (taken_from_picked w s o).item (IsTaken w (taken_from_picked w s o).world)
unfolding taken_from_picked
given_taken_from None w s = tt
given_taken_from (Some q) w s = given_dequeued w q _
    (right_dequeue (queue w q).items (codel_params w s) w.clock (queue w q).codel)

pub less_take : (P : ℕ → Type 0) (w : World) (s t : ℕ) → Less P w (taken_for_tid w s t).world
unfolding taken_for_tid
less_take P w s t = then_less P _ _ _ (then_less P _ _ _ (less_pay_queues P _ w _)
    (less_with_queues P _ s t _)) (less_taken_from P _ _ s)

-- Giving quanta to queues does not change their frames.
taken_before : (o : Option Item) (w u v : World) → Less (λ _. ⊥) w u → IfSome o (IsTaken u v) →
    IfSome o (IsTaken w v)
taken_before None w u v h k = tt
taken_before (Some x) w u v h k = record {
  place = k.place;
  there = (h.queues k.place).has x.id k.there;
  gone = λ o. k.gone (λ q. (h.queues q).ordered 0 (o q));
  later = λ o. k.later (λ q. (h.queues q).ordered 0 (o q));
}

pub given_take : (w : World) (s t : ℕ) → IfSome (taken_for_tid w s t).item
    (IsTaken w (taken_for_tid w s t).world)
unfolding taken_for_tid
given_take w s t = taken_before _ w _ _ (then_less (λ _. ⊥) _ _ _ (less_pay_queues (λ _. ⊥) _ w _)
    (less_with_queues (λ _. ⊥) _ s t _)) (given_taken_from _ _ s)

-- ---- a station's weight is set

less_lowered : (P : ℕ → Type 0) (cs : List Class) (w : World) (s : ℕ) →
    Less P w (with_deficits_lowered w s cs)
unfolding with_deficits_lowered
less_lowered P [] w s = less P w
less_lowered P (c ∷ cs) w s = then_less P _ _ _ (less_on_share P w s c _) (less_lowered P cs _ s)

pub less_weighed : (P : ℕ → Type 0) (w : World) (s weight : ℕ) → Less P w (weight_outcome w s weight).world
unfolding weight_outcome
less_weighed P w s weight = then_less P _ _ _ (less_on_station P w s _) (less_lowered P all_classes _ s)

-- ---- a TID without an agreement catches up

pub less_caught : (P : ℕ → Type 0) (w : World) (s t : ℕ) → Less P w (caught_up w s t)
unfolding caught_up
less_caught P w s t = then_less P _ _ _ (less_on_session P w s t _) (less_on_receiver P _ s t _)

pub less_caught_up : (P : ℕ → Type 0) (w : World) (s t : ℕ) → Less P w (caught_up_if_plain w s t)
less_caught_up P w s t = if_caught (Less P w) w s t (less P w) (λ _. less_caught P w s t)

-- ---- a TID is held or free, and its agreement begins or ends

pub less_held : (P : ℕ → Type 0) (w : World) (s t : ℕ) → Less P w (hold_outcome w s t).world
unfolding hold_outcome with_mode
less_held P w s t = less_on_tid P w s t _

pub less_freed : (P : ℕ → Type 0) (w : World) (s t : ℕ) → Less P w (free_outcome w s t).world
unfolding free_outcome with_mode
less_freed P w s t = less_on_tid P w s t _

pub less_begun : (P : ℕ → Type 0) (w : World) (s t window : ℕ) → Less P w (begin_outcome w s t window).world
less_begun P w s t window = subst (Less P w) (sym (begun_is w s t window)) (less_on_tid P w s t _)

pub less_ended : (P : ℕ → Type 0) (w : World) (s t : ℕ) → Less P w (after_numbers_ended w s t)
unfolding after_numbers_ended
less_ended P w s t = then_less P _ _ _ (less_on_session P w s t _) (less_drop_all P _ _ _ (λ h. cc h))

pub less_ceased : (P : ℕ → Type 0) (w : World) (s t : ℕ) → Less P w (cease_outcome w s t).world
less_ceased P w s t = subst (Less P w) (sym (ceased_is w s t))
    (then_less P _ _ _ (less_ended P w s t) (less_on_tid P _ s t _))
