-- Defines both sides of each agreement, and proves which changes of a world affect neither them nor the
-- open exchanges.
use Rattle.std.proofs.Common.{◌≡◌, refl, ap, sym, ◌∙◌, subst, ℕ, zero, suc, Bool, true, false, if◌then◌else◌, List, [], ◌∷◌, Option, Some, None, is_some, unwrap_or, option_map, ◌&&◌}
use Rattle.wf_frame.specs.declared.classes.Class.{Class}
use Rattle.wf_frame.specs.declared.notes.Limits.{Limits}
use Rattle.wf_frame.specs.declared.classes.Fate.{Fate}
use Rattle.wf_def_lists.specs.Table.{at, put, change}
use Rattle.wf_def_codel.specs.Codel.{Item}
use Rattle.wf_def_rotation.specs.Rotation.{Rotation}
use Rattle.wf_def_agreement.specs.Receiver.{Receiver, with_start}
use Rattle.wf_def_agreement.specs.Session.{Session, slot, after_flush, start_of}
use Rattle.wf_def_world.specs.World.{World, Station, Share, Tid, Mode, Plain, OnHold, Agreed, Queue, Exchange, no_tid, no_station, station, tid_of, session, receiver, is_live, is_offloaded, is_agreed, is_held_back, has_agreement, holds_back, with_mode, with_station, on_station, on_tid, on_session, on_receiver, with_queues, on_share, on_queue, with_rotation, with_fate, with_frame_finished, with_frames_finished}
use Rattle.wf_def_world.specs.FlowQueues.{without_head, after_limit, with_listed_queue, with_appended, after_put_in, with_queues_paid, taken_by_codel, taken_from_picked, taken_for_tid, after_queue_left, after_queues_left, after_queue_flushed, after_queues_flushed}
use Rattle.wf_def_world.specs.CanSend.{with_listing_in, with_listings_in, with_listings_of}
use Rattle.wf_def_world.specs.Exchanges.{with_station_paid, with_stations_paid, after_pick, after_tid_turn, after_charge, with_heard_start, caught_up, caught_up_if_plain, with_spent}
use Rattle.wf_def_world.specs.Step.{with_deficits_lowered, weight_outcome, hold_outcome, begin_outcome, free_outcome, cease_outcome, after_numbers_ended, with_window, plain_window}
use Rattle.wf_frame.specs.Classes.{all_classes}
use Rattle.wf_law_rules.proofs.Lemmas.Tables.{each_put, at_put_same}
use Rattle.wf_law_runs.proofs.Common.Picked.{picked_world}
use Rattle.wf_law_runs.proofs.Common.Flushes.{emptied_world, if_caught}

-- ---- the session of a TID after one session changes

-- Both sides of a TID, and whether it has an agreement.
pub record Side : Type 0 where
  pub session : Session
  pub receiver : Receiver
  pub agreed : Bool

abbrev pub side_of : Tid → Side
side_of y = record { session = y.session; receiver = y.receiver; agreed = has_agreement y.mode }

abbrev pub side : World → ℕ → ℕ → Side
side w s t = side_of (tid_of w s t)

abbrev pub sides_of : Option Station → ℕ → Side
sides_of o t = side_of (at no_tid (unwrap_or o no_station).tids t)

-- Returns whether the device of a station repeats frames although TID t of the station is held back.
abbrev pub holds_in : Station → ℕ → Bool
holds_in x t = x.offloaded && holds_back (at no_tid x.tids t).mode

abbrev pub holds_device : World → ℕ → ℕ → Bool
holds_device w s t = holds_in (station w s) t

-- Both sides of a station's TID, whether the station's device repeats frames, and whether it does so although
-- the TID is held back.
abbrev pub seen : Bool → Tid → Side × Bool × Bool
seen offloaded y = (side_of y, offloaded, offloaded && holds_back y.mode)

abbrev pub sided : Station → ℕ → Side × Bool × Bool
sided x t = seen x.offloaded (at no_tid x.tids t)

abbrev pub on_tids : ℕ → (Tid → Tid) → Station → Station
on_tids t f x = record x { tids = change no_tid x.tids t f }

pub each_tid_on : (P : ℕ → Side → Type 0) (t : ℕ) (f : Tid → Tid) (o : Option Station) →
    ((j : ℕ) → P j (sides_of o j)) → P t (side_of (f (at no_tid (unwrap_or o no_station).tids t))) → (j : ℕ) →
    P j (sides_of (option_map (on_tids t f) o) j)
each_tid_on P t f None h k j = h j
each_tid_on P t f (Some x) h k j = each_put (λ j y. P j (side_of y)) no_tid x.tids t _ h k j

pub each_side_on : (P : ℕ → ℕ → Side → Type 0) (w : World) (s t : ℕ) (f : Tid → Tid) →
    ((i j : ℕ) → P i j (side w i j)) → P s t (side_of (f (tid_of w s t))) → (i j : ℕ) →
    P i j (side (on_tid w s t f) i j)
unfolding on_tid on_station with_station
each_side_on P w s t f h k =
    each_put (λ i o. (j : ℕ) → P i j (sides_of o j)) None w.stations s _ h
    (each_tid_on (P s) t f (at None w.stations s) (h s) k)

-- The TIDs of a world after one TID changes.
pub each_tid_at : (P : ℕ → ℕ → Tid → Type 0) (w : World) (s t : ℕ) (f : Tid → Tid) →
    ((i j : ℕ) → P i j (tid_of w i j)) → P s t (f (tid_of w s t)) → (i j : ℕ) →
    P i j (tid_of (on_tid w s t f) i j)
unfolding on_tid on_station with_station
each_tid_at P w s t f h k =
    each_put (λ i o. (j : ℕ) → P i j (at no_tid (unwrap_or o no_station).tids j)) None w.stations s _ h
    (go (at None w.stations s) (h s) k)
  where
    go : (o : Option Station) → ((j : ℕ) → P s j (at no_tid (unwrap_or o no_station).tids j)) →
        P s t (f (at no_tid (unwrap_or o no_station).tids t)) → (j : ℕ) →
        P s j (at no_tid (unwrap_or (option_map (on_tids t f) o) no_station).tids j)
    go None h k j = h j
    go (Some x) h k j = each_put (λ j y. P s j y) no_tid x.tids t _ h k j

-- A statement about the sides of one TID.
pub at_side_on : (Q : Side → Type 0) (w : World) (s t : ℕ) (f : Tid → Tid) (i j : ℕ) → Q (side w i j) →
    (s ≡ i → t ≡ j → Q (side w s t) → Q (side_of (f (tid_of w s t)))) → Q (side (on_tid w s t f) i j)
at_side_on Q w s t f i j q k =
    each_side_on (λ a b z. a ≡ i → b ≡ j → Q z) w s t f
    (λ a b e d. subst (λ (n : ℕ). Q (side w a n)) (sym d) (subst (λ (n : ℕ). Q (side w n j)) (sym e) q))
    (λ e d. k e d (subst (λ (n : ℕ). Q (side w s n)) (sym d) (subst (λ (n : ℕ). Q (side w n j)) (sym e) q))) i
    j refl refl

-- A station that is not live stays so, and its TIDs do not change.
pub dead_sides : (w : World) (s t : ℕ) (f : Tid → Tid) → is_live w s ≡ false → (i j : ℕ) →
    side (on_tid w s t f) i j ≡ side w i j
unfolding on_tid on_station with_station
dead_sides w s t f dead = each_put (λ i o. (j : ℕ) → sides_of o j ≡ side w i j) None w.stations s _
    (λ i j. refl) (go (at None w.stations s) dead (λ j. refl))
  where
    go : (o : Option Station) → is_some o ≡ false → ((j : ℕ) → sides_of o j ≡ side w s j) → (j : ℕ) →
        sides_of (option_map (on_tids t f) o) j ≡ side w s j
    go None d h j = h j
    go (Some x) d h j = absurd (cc d)

-- The sides of another TID.
pub side_elsewhere : (w : World) (s t : ℕ) (f : Tid → Tid) (i j : ℕ) → (s ≡ i → t ≡ j → ⊥) →
    side (on_tid w s t f) i j ≡ side w i j
side_elsewhere w s t f i j apart = at_side_on (λ a. a ≡ side w i j) w s t f i j refl (λ e d _. absurd
    (apart e d))

pub side_on : (w : World) (s t : ℕ) (f : Tid → Tid) → is_live w s ≡ true →
    side (on_tid w s t f) s t ≡ side_of (f (tid_of w s t))
unfolding on_tid on_station with_station
side_on w s t f live =
    ap (λ (o : Option Station). sides_of o t) (at_put_same None w.stations s _)
    ∙ go (at None w.stations s) live
  where
    go : (o : Option Station) → is_some o ≡ true →
        sides_of (option_map (on_tids t f) o) t ≡ side_of (f (at no_tid (unwrap_or o no_station).tids t))
    go None h = absurd (cc h)
    go (Some x) h = ap side_of (at_put_same no_tid x.tids t _)

pub some_map : (f : Station → Station) (o : Option Station) → is_some (option_map f o) ≡ is_some o
some_map f None = refl
some_map f (Some x) = refl

pub live_on : (w : World) (s : ℕ) (f : Station → Station) (i : ℕ) → is_live (on_station w s f) i ≡ is_live w i
unfolding on_station with_station
live_on w s f = each_put (λ i o. is_some o ≡ is_live w i) None w.stations s _ (λ i. refl)
    (some_map f (at None w.stations s))

pub on_live : (w : World) (s t : ℕ) (f : Tid → Tid) (i : ℕ) → is_live (on_tid w s t f) i ≡ is_live w i
unfolding on_tid
on_live w s t f i = live_on w s _ i

pub offloaded_on : (w : World) (s : ℕ) (f : Station → Station) →
    ((x : Station) → (f x).offloaded ≡ x.offloaded) → (i : ℕ) →
    is_offloaded (on_station w s f) i ≡ is_offloaded w i
unfolding on_station with_station
offloaded_on w s f h = each_put (λ i o. (unwrap_or o no_station).offloaded ≡ is_offloaded w i) None w.stations
    s _ (λ i. refl) (go (at None w.stations s))
  where
    go : (o : Option Station) →
        (unwrap_or (option_map f o) no_station).offloaded ≡ (unwrap_or o no_station).offloaded
    go None = refl
    go (Some x) = h x

pub on_offloaded : (w : World) (s t : ℕ) (f : Tid → Tid) (i : ℕ) →
    is_offloaded (on_tid w s t f) i ≡ is_offloaded w i
unfolding on_tid
on_offloaded w s t f i = offloaded_on w s _ (λ x. refl) i

pub on_opened : (w : World) (s t : ℕ) (f : Tid → Tid) → (on_tid w s t f).opened ≡ w.opened
unfolding on_tid on_station with_station
on_opened w s t f = refl

pub on_exchanges : (w : World) (s t : ℕ) (f : Tid → Tid) → (on_tid w s t f).exchanges ≡ w.exchanges
unfolding on_tid on_station with_station
on_exchanges w s t f = refl

-- ---- changes that do not affect sessions and exchanges

pub record Same (w v : World) : Type 0 where
  pub sides : (s t : ℕ) → side v s t ≡ side w s t
  pub live : (s : ℕ) → is_live v s ≡ is_live w s
  pub offloaded : (s : ℕ) → is_offloaded v s ≡ is_offloaded w s
  pub devices : (s t : ℕ) → holds_device v s t ≡ true → holds_device w s t ≡ true
  pub opened : v.opened ≡ w.opened
  pub exchanges : v.exchanges ≡ w.exchanges

pub same : (w : World) → Same w w
same w = record {
  sides = λ s t. refl;
  live = λ s. refl;
  offloaded = λ s. refl;
  devices = λ s t d. d;
  opened = refl;
  exchanges = refl;
}

-- Two worlds with the same stations and open exchanges.
pub same_plain : (w v : World) → w.stations ≡ v.stations → w.opened ≡ v.opened → w.exchanges ≡ v.exchanges →
    Same w v
same_plain w v a b c = record {
  sides = λ s t. ap (λ (x : List (Option Station)). sides_of (at None x s) t) (sym a);
  live = λ s. ap (λ (x : List (Option Station)). is_some (at None x s)) (sym a);
  offloaded = λ s. ap (λ (x : List (Option Station)). (unwrap_or (at None x s) no_station).offloaded) (sym a);
  devices = λ s t d. ap (λ (x : List (Option Station)). holds_in (unwrap_or (at None x s) no_station) t) a ∙
      d;
  opened = sym b;
  exchanges = sym c;
}

pub then_same : (u v w : World) → Same u v → Same v w → Same u w
then_same u v w h k = record {
  sides = λ s t. k.sides s t ∙ h.sides s t;
  live = λ s. k.live s ∙ h.live s;
  offloaded = λ s. k.offloaded s ∙ h.offloaded s;
  devices = λ s t d. h.devices s t (k.devices s t d);
  opened = k.opened ∙ h.opened;
  exchanges = k.exchanges ∙ h.exchanges;
}

pub if_same : (b : Bool) (w u v : World) → Same w u → Same w v → Same w (if b then u else v)
if_same true w u v h k = h
if_same false w u v h k = k

pub known_sessions : (f : Station → Station) →
    ((x : Station) (t : ℕ) → sided (f x) t ≡ sided x t) →
    (o : Option Station) (t : ℕ) → sides_of (option_map f o) t ≡ sides_of o t
known_sessions f h None t = refl
known_sessions f h (Some x) t = ap (λ (p : Side × Bool × Bool). p.0) (h x t)

known_devices : (f : Station → Station) → ((x : Station) (t : ℕ) → sided (f x) t ≡ sided x t) →
    (o : Option Station) (t : ℕ) → holds_in (unwrap_or (option_map f o) no_station) t ≡ true →
    holds_in (unwrap_or o no_station) t ≡ true
known_devices f h None t d = d
known_devices f h (Some x) t d = sym (ap (λ (p : Side × Bool × Bool). p.2) (h x t)) ∙ d

pub same_on_station : (w : World) (s : ℕ) (f : Station → Station) →
    ((x : Station) (t : ℕ) → sided (f x) t ≡ sided x t) →
    Same w (on_station w s f)
unfolding on_station with_station
same_on_station w s f h = record {
  sides = each_put (λ i o. (j : ℕ) → sides_of o j ≡ side w i j) None w.stations s _ (λ i j. refl)
      (known_sessions f h (at None w.stations s));
  live = live_on w s f;
  offloaded = offloaded_on w s f (λ x. ap (λ (p : Side × Bool × Bool). p.1) (h x 0));
  devices = each_put (λ i o. (j : ℕ) → holds_in (unwrap_or o no_station) j ≡ true →
      holds_device w i j ≡ true) None w.stations s _ (λ i j d. d) (known_devices f h (at None w.stations s));
  opened = refl;
  exchanges = refl;
}

-- The modes and the sides of one TID stay.
pub same_on_tid : (w : World) (s t : ℕ) (f : Tid → Tid) → ((y : Tid) → side_of (f y) ≡ side_of y) →
    ((y : Tid) → (f y).mode ≡ y.mode) → Same w (on_tid w s t f)
unfolding on_tid
same_on_tid w s t f h k = same_on_station w s _ (λ x j. each_put (λ j y. seen x.offloaded y ≡ sided x j)
    no_tid x.tids t _ (λ j. refl) (go x.offloaded (at no_tid x.tids t)) j)
  where
    go : (b : Bool) (y : Tid) → seen b (f y) ≡ seen b y
    go b y = ap (λ (a : Side). (a, b, b && holds_back (f y).mode)) (h y)
        ∙ ap (λ (m : Mode). (side_of y, b, b && holds_back m)) (k y)

pub same_with_queues : (w : World) (s t : ℕ) (r : Rotation) → Same w (with_queues w s t r)
unfolding with_queues
same_with_queues w s t r = same_on_tid w s t _ (λ y. refl) (λ y. refl)

pub same_on_share : (w : World) (s : ℕ) (c : Class) (f : Share → Share) → Same w (on_share w s c f)
unfolding on_share
same_on_share w s c f = same_on_station w s _ (λ x t. refl)

pub same_on_queue : (w : World) (q : ℕ) (f : Queue → Queue) → Same w (on_queue w q f)
unfolding on_queue
same_on_queue w q f = same_plain w _ refl refl refl

pub same_with_rotation : (w : World) (c : Class) (r : Rotation) → Same w (with_rotation w c r)
unfolding with_rotation
same_with_rotation w c r = same_plain w _ refl refl refl

pub same_finish : (w : World) (fate : Fate) (id : ℕ) → Same w (with_frame_finished w fate id)
unfolding with_frame_finished with_fate
same_finish w fate id = same_plain w _ refl refl refl

pub same_finish_all : (ids : List ℕ) (w : World) (fate : Fate) → Same w (with_frames_finished w fate ids)
unfolding with_frames_finished
same_finish_all [] w fate = same w
same_finish_all (id ∷ ids) w fate = then_same _ _ _ (same_finish w fate id) (same_finish_all ids _ fate)

pub same_listed_in_all : (cs : List Class) (w : World) (s : ℕ) → Same w (with_listings_in w s cs)
unfolding with_listings_in with_listing_in
same_listed_in_all [] w s = same w
same_listed_in_all (c ∷ cs) w s = then_same _ _ _ (if_same _ w _ _ (same_with_rotation w c _) (same w))
    (same_listed_in_all cs _ s)

pub same_listed : (o : Option ℕ) (w : World) → Same w (with_listings_of w o)
unfolding with_listings_of
same_listed None w = same w
same_listed (Some s) w = same_listed_in_all _ w s

pub same_pay_stations : (ss : List ℕ) (w : World) (c : Class) (quanta : ℕ → ℕ) →
    Same w (with_stations_paid w c quanta ss)
unfolding with_stations_paid with_station_paid
same_pay_stations [] w c quanta = same w
same_pay_stations (s ∷ ss) w c quanta = then_same _ _ _ (same_on_share w s c _)
    (same_pay_stations ss _ c quanta)

pub same_after_pick : (w : World) (c : Class) → Same w (after_pick w c)
unfolding after_pick
same_after_pick w c = then_same _ _ _ (same_pay_stations _ w c _) (same_with_rotation _ c _)

pub same_picked : (w : World) (c : Class) (l : Limits) → Same w (picked_world w c l)
same_picked w c l =
    let k : Same w (after_pick w c) = same_after_pick w c in
    record {
      sides = k.sides;
      live = k.live;
      offloaded = k.offloaded;
      devices = k.devices;
      opened = k.opened;
      exchanges = k.exchanges;
    }

pub same_after_turn : (w : World) (s : ℕ) (c : Class) (t : ℕ) → Same w (after_tid_turn w s c t)
unfolding after_tid_turn
same_after_turn w s c t = same_on_share w s c _

pub same_spent : (w : World) (x : Exchange) → Same w (with_spent w x)
unfolding with_spent
same_spent w x = same_on_station w x.station _ (λ y t. refl)

pub same_without_head : (items : List Item) (w : World) (q : ℕ) → Same w (without_head w q items)
unfolding without_head
same_without_head [] w q = same w
same_without_head (x ∷ rest) w q = then_same _ _ _ (same_on_queue w q _) (same_finish _ _ _)

pub same_within_limit : (w : World) → Same w (after_limit w)
unfolding after_limit
same_within_limit w = if_same _ w _ _ (same_without_head _ w _) (same w)

pub same_put_in : (w : World) (s t q : ℕ) (x : Item) → Same w (after_put_in w s t q x)
unfolding after_put_in with_appended with_listed_queue
same_put_in w s t q x = then_same _ _ _ (same_on_queue w q _)
    (if_same _ _ _ _ (same _) (then_same _ _ _ (same_on_queue _ q _) (same_with_queues _ s t _)))

pub same_pay_queues : (qs : List ℕ) (w : World) (quanta : ℕ → ℕ) → Same w (with_queues_paid w quanta qs)
unfolding with_queues_paid
same_pay_queues [] w quanta = same w
same_pay_queues (q ∷ qs) w quanta = then_same _ _ _ (same_on_queue w q _) (same_pay_queues qs _ quanta)

pub same_taken_from : (o : Option ℕ) (w : World) (s : ℕ) → Same w (taken_from_picked w s o).world
unfolding taken_from_picked taken_by_codel
same_taken_from None w s = same w
same_taken_from (Some q) w s = then_same _ _ _ (same_on_queue w q _) (same_finish_all _ _ _)

pub same_take : (w : World) (s t : ℕ) → Same w (taken_for_tid w s t).world
unfolding taken_for_tid
same_take w s t = then_same _ _ _ (then_same _ _ _ (same_pay_queues _ w _) (same_with_queues _ s t _))
    (same_taken_from _ _ s)

pub same_purge_queues : (qs : List ℕ) (w : World) → Same w (after_queues_left w qs)
unfolding after_queues_left after_queue_left
same_purge_queues [] w = same w
same_purge_queues (q ∷ qs) w = then_same _ _ _ (then_same _ _ _ (same_on_queue w q _) (same_finish_all _ _ _))
    (same_purge_queues qs _)

pub same_flush_queues : (qs : List ℕ) (w : World) → Same w (after_queues_flushed w qs)
unfolding after_queues_flushed after_queue_flushed
same_flush_queues [] w = same w
same_flush_queues (q ∷ qs) w = then_same _ _ _ (then_same _ _ _ (same_on_queue w q _) (same_finish_all _ _ _))
    (same_flush_queues qs _)

-- After the waiting numbers are given up, the queues of a flush change no side.
pub same_emptied : (w : World) (s t : ℕ) → Same (on_session w s t (after_flush w.config.attempts))
    (emptied_world w s t)
same_emptied w s t = then_same _ _ _ (same_finish_all _ _ _) (same_flush_queues _ _)

pub same_charged : (air : Option ℕ) (w : World) (x : Exchange) → Same w (after_charge w x air)
unfolding after_charge
same_charged air w x = same_on_share w _ _ _

-- The deficits of a station are lowered.
pub same_lowered : (cs : List Class) (w : World) (s : ℕ) → Same w (with_deficits_lowered w s cs)
unfolding with_deficits_lowered
same_lowered [] w s = same w
same_lowered (c ∷ cs) w s = then_same _ _ _ (same_on_share w s c _) (same_lowered cs _ s)

pub same_weighed : (w : World) (s weight : ℕ) → Same w (weight_outcome w s weight).world
unfolding weight_outcome
same_weighed w s weight = then_same _ _ _ (same_on_station w s _ (λ x t. refl)) (same_lowered all_classes _ s)

-- ---- a TID changes its mode

-- Only the mode of a TID changes, and it has an agreement before exactly if it has one after.
pub same_moded : (w : World) (s t : ℕ) (mode : Mode) → has_agreement mode ≡ is_agreed w s t →
    (is_offloaded w s && holds_back mode ≡ true → holds_device w s t ≡ true) → Same w (with_mode w s t mode)
unfolding with_mode
same_moded w s t mode h k =
    let f : Tid → Tid = λ y. record y { mode = mode } in
    record {
      sides = each_side_on (λ i j a. a ≡ side w i j) w s t f (λ i j. refl) (ap (λ (b : Bool). record {
        session = session w s t;
        receiver = receiver w s t;
        agreed = b;
      }) h);
      live = on_live w s t f;
      offloaded = on_offloaded w s t f;
      devices = λ i j. subst (λ (b : Bool). b && holds_back (tid_of (on_tid w s t f) i j).mode ≡ true →
          holds_device w i j ≡ true) (sym (on_offloaded w s t f i))
          (each_tid_at (λ i j y. is_offloaded w i && holds_back y.mode ≡ true → holds_device w i j ≡ true)
          w s t f (λ i j d. d) k i j);
      opened = on_opened w s t f;
      exchanges = on_exchanges w s t f;
    }

-- A TID is held.
pub same_held : (w : World) (s t : ℕ) → is_offloaded w s ≡ false → is_agreed w s t ≡ false →
    Same w (hold_outcome w s t).world
unfolding hold_outcome
same_held w s t kept none = same_moded w s t OnHold (sym none)
    (λ h. absurd (cc (h, ap (λ (b : Bool). b && true) kept)))

-- A mode that holds back is no agreement.
pub held_not_agreed : (m : Mode) → holds_back m ≡ true → has_agreement m ≡ false
held_not_agreed Plain h = refl
held_not_agreed OnHold h = refl
held_not_agreed Agreed h = absurd (cc h)

-- A held TID is free again.
pub same_freed : (w : World) (s t : ℕ) → is_held_back w s t ≡ true → Same w (free_outcome w s t).world
unfolding free_outcome
same_freed w s t held = same_moded w s t Plain (sym (held_not_agreed (tid_of w s t).mode held))
    (λ h. absurd (never (is_offloaded w s) h))
  where
    never : (b : Bool) → (b && false) ≡ true → ⊥
    never true h = cc h
    never false h = cc h

-- ---- a TID without an agreement catches up, and an agreement begins or ends

put_twice : {X : Type 0} (d : X) (t : List X) (k : ℕ) (a b : X) → put d (put d t k a) k b ≡ put d t k b
put_twice d [] zero a b = refl
put_twice d [] (suc k) a b = ap (λ (l : List _). d ∷ l) (put_twice d [] k a b)
put_twice d (x ∷ xs) zero a b = refl
put_twice d (x ∷ xs) (suc k) a b = ap (λ (l : List _). x ∷ l) (put_twice d xs k a b)

change_twice : (xs : List Tid) (t : ℕ) (f g : Tid → Tid) →
    change no_tid (change no_tid xs t f) t g ≡ change no_tid xs t (λ y. g (f y))
change_twice xs t f g = put_twice no_tid xs t _ _
    ∙ ap (λ (y : Tid). put no_tid xs t (g y)) (at_put_same no_tid xs t _)

on_tids_twice : (t : ℕ) (f g : Tid → Tid) (o : Option Station) →
    option_map (on_tids t g) (option_map (on_tids t f) o) ≡ option_map (on_tids t (λ y. g (f y))) o
on_tids_twice t f g None = refl
on_tids_twice t f g (Some x) =
    ap (λ (l : List Tid). Some (record x { tids = l })) (change_twice x.tids t f g)

pub on_tid_twice : (w : World) (s t : ℕ) (f g : Tid → Tid) →
    on_tid (on_tid w s t f) s t g ≡ on_tid w s t (λ y. g (f y))
unfolding on_tid on_station with_station
on_tid_twice w s t f g =
    ap (λ (l : List (Option Station)). record w { stations = l })
    (put_twice None w.stations s _ _
    ∙ ap (λ (o : Option Station). put None w.stations s o)
    (ap (option_map (on_tids t g)) (at_put_same None w.stations s _)
    ∙ on_tids_twice t f g (at None w.stations s)))

-- Returns a TID whose receiver has a start, which the session counts as heard.
abbrev pub told_start : ℕ → Tid → Tid
told_start start y =
    record y { session = with_heard_start true start y.session; receiver = with_start start y.receiver }

pub caught_up_is : (w : World) (s t : ℕ) →
    caught_up w s t ≡ on_tid w s t (told_start (start_of (session w s t)))
unfolding caught_up on_session on_receiver
caught_up_is w s t = on_tid_twice w s t
    (λ y. record y { session = with_heard_start true (start_of (session w s t)) y.session })
    (λ y. record y { receiver = with_start (start_of (session w s t)) y.receiver })

-- Returns a TID with this window on both sides.
abbrev pub sized : ℕ → Tid → Tid
sized size y = record y {
  session = record y.session { size = size };
  receiver = record y.receiver { size = size };
}

pub window_is : (w : World) (s t size : ℕ) → with_window w s t size ≡ on_tid w s t (sized size)
unfolding with_window on_session on_receiver
window_is w s t size = on_tid_twice w s t (λ y. record y { session = record y.session { size = size } })
    (λ y. record y { receiver = record y.receiver { size = size } })

-- Returns a TID whose agreement begins or ends: it catches up, and has this window and this mode.
abbrev pub renewed : ℕ → ℕ → Mode → Tid → Tid
renewed start size mode y = record (sized size (told_start start y)) { mode = mode }

pub renewed_is : (w : World) (s t size : ℕ) (mode : Mode) →
    with_mode (with_window (caught_up w s t) s t size) s t mode
    ≡ on_tid w s t (renewed (start_of (session w s t)) size mode)
unfolding with_mode
renewed_is w s t size mode =
    let start : ℕ = start_of (session w s t) in
    let moded : Tid → Tid = λ y. record y { mode = mode } in
    ap (λ (v : World). on_tid v s t moded) (window_is (caught_up w s t) s t size)
    ∙ on_tid_twice (caught_up w s t) s t (sized size) moded
    ∙ ap (λ (v : World). on_tid v s t (λ y. moded (sized size y))) (caught_up_is w s t)
    ∙ on_tid_twice w s t (told_start start) (λ y. moded (sized size y))

-- The world after an agreement begins.
pub begun_is : (w : World) (s t window : ℕ) →
    (begin_outcome w s t window).world ≡ on_tid w s t (renewed (start_of (session w s t)) window Agreed)
unfolding begin_outcome
begun_is w s t window = renewed_is w s t window Agreed

-- The world after an agreement ends.
pub ceased_is : (w : World) (s t : ℕ) →
    (cease_outcome w s t).world ≡ on_tid (after_numbers_ended w s t) s t
    (renewed (start_of (session (after_numbers_ended w s t) s t)) plain_window OnHold)
unfolding cease_outcome
ceased_is w s t = renewed_is (after_numbers_ended w s t) s t plain_window OnHold

-- After the waiting numbers are given up, their ends change no side.
pub same_ended : (w : World) (s t : ℕ) → Same (on_session w s t (after_flush w.config.attempts))
    (after_numbers_ended w s t)
unfolding after_numbers_ended
same_ended w s t = same_finish_all _ _ _

-- The sides of the other TIDs stay.
pub begun_elsewhere : (w : World) (s t window i j : ℕ) → (s ≡ i → t ≡ j → ⊥) →
    side (begin_outcome w s t window).world i j ≡ side w i j
begun_elsewhere w s t window i j apart = ap (λ (v : World). side v i j) (begun_is w s t window)
    ∙ side_elsewhere w s t _ i j apart

pub ceased_elsewhere : (w : World) (s t i j : ℕ) → (s ≡ i → t ≡ j → ⊥) →
    side (cease_outcome w s t).world i j ≡ side w i j
unfolding on_session
ceased_elsewhere w s t i j apart = ap (λ (v : World). side v i j) (ceased_is w s t)
    ∙ side_elsewhere (after_numbers_ended w s t) s t _ i j apart ∙ (same_ended w s t).sides i j
    ∙ side_elsewhere w s t _ i j apart

-- No exchange opens or closes, and no station joins or leaves.
pub opened_held : (w : World) (s t : ℕ) → (hold_outcome w s t).world.opened ≡ w.opened
unfolding hold_outcome with_mode
opened_held w s t = on_opened w s t _

pub opened_freed : (w : World) (s t : ℕ) → (free_outcome w s t).world.opened ≡ w.opened
unfolding free_outcome with_mode
opened_freed w s t = on_opened w s t _

pub opened_begun : (w : World) (s t window : ℕ) → (begin_outcome w s t window).world.opened ≡ w.opened
opened_begun w s t window = ap (λ (v : World). v.opened) (begun_is w s t window) ∙ on_opened w s t _

pub exchanges_begun : (w : World) (s t window : ℕ) →
    (begin_outcome w s t window).world.exchanges ≡ w.exchanges
exchanges_begun w s t window = ap (λ (v : World). v.exchanges) (begun_is w s t window) ∙ on_exchanges w s t _

-- Both sides after the waiting numbers of the TID are given up.
pub ended_side : (w : World) (s t : ℕ) → is_live w s ≡ true →
    side (after_numbers_ended w s t) s t ≡ record {
      session = after_flush w.config.attempts (session w s t);
      receiver = receiver w s t;
      agreed = is_agreed w s t;
    }
unfolding on_session
ended_side w s t live = (same_ended w s t).sides s t ∙ side_on w s t _ live

pub ended_live : (w : World) (s t : ℕ) → is_live (after_numbers_ended w s t) s ≡ is_live w s
unfolding on_session
ended_live w s t = (same_ended w s t).live s ∙ on_live w s t _ s

-- A session changes: the sides of another TID stay.
pub on_elsewhere : (w : World) (s t : ℕ) (f : Session → Session) (i j : ℕ) → (s ≡ i → t ≡ j → ⊥) →
    side (on_session w s t f) i j ≡ side w i j
unfolding on_session
on_elsewhere w s t f i j apart = side_elsewhere w s t _ i j apart

-- The slots of the session after its agreement ended.
pub ceased_slot : (w : World) (s t n : ℕ) → is_live w s ≡ true →
    slot (session (cease_outcome w s t).world s t) n
    ≡ slot (after_flush w.config.attempts (session w s t)) n
ceased_slot w s t n live = ap (λ (v : World). slot (session v s t) n) (ceased_is w s t)
    ∙ ap (λ (a : Side). slot a.session n) (side_on (after_numbers_ended w s t) s t _ (ended_live w s t ∙
    live))
    ∙ ap (λ (a : Side). slot a.session n) (ended_side w s t live)

pub ceased_first : (w : World) (s t : ℕ) → is_live w s ≡ true →
    (session (cease_outcome w s t).world s t).first ≡ (session w s t).first
ceased_first w s t live = ap (λ (v : World). (session v s t).first) (ceased_is w s t)
    ∙ ap (λ (a : Side). a.session.first) (side_on (after_numbers_ended w s t) s t _ (ended_live w s t ∙ live))
    ∙ ap (λ (a : Side). a.session.first) (ended_side w s t live)

pub live_begun : (w : World) (s t window i : ℕ) → is_live (begin_outcome w s t window).world i ≡ is_live w i
live_begun w s t window i = ap (λ (v : World). is_live v i) (begun_is w s t window) ∙ on_live w s t _ i

pub opened_ceased : (w : World) (s t : ℕ) → (cease_outcome w s t).world.opened ≡ w.opened
unfolding on_session
opened_ceased w s t = ap (λ (v : World). v.opened) (ceased_is w s t)
    ∙ on_opened (after_numbers_ended w s t) s t _ ∙ (same_ended w s t).opened ∙ on_opened w s t _

pub exchanges_ceased : (w : World) (s t : ℕ) → (cease_outcome w s t).world.exchanges ≡ w.exchanges
unfolding on_session
exchanges_ceased w s t = ap (λ (v : World). v.exchanges) (ceased_is w s t)
    ∙ on_exchanges (after_numbers_ended w s t) s t _ ∙ (same_ended w s t).exchanges ∙ on_exchanges w s t _

pub live_ceased : (w : World) (s t i : ℕ) → is_live (cease_outcome w s t).world i ≡ is_live w i
unfolding on_session
live_ceased w s t i = ap (λ (v : World). is_live v i) (ceased_is w s t)
    ∙ on_live (after_numbers_ended w s t) s t _ i ∙ (same_ended w s t).live i ∙ on_live w s t _ i

pub off_begun : (w : World) (s t window i : ℕ) →
    is_offloaded (begin_outcome w s t window).world i ≡ is_offloaded w i
off_begun w s t window i = ap (λ (v : World). is_offloaded v i) (begun_is w s t window)
    ∙ on_offloaded w s t _ i

pub off_ceased : (w : World) (s t i : ℕ) → is_offloaded (cease_outcome w s t).world i ≡ is_offloaded w i
unfolding on_session
off_ceased w s t i = ap (λ (v : World). is_offloaded v i) (ceased_is w s t)
    ∙ on_offloaded (after_numbers_ended w s t) s t _ i ∙ (same_ended w s t).offloaded i ∙
    on_offloaded w s t _ i

-- No slot changes.
pub slot_caught : (w : World) (s t i j n : ℕ) →
    slot (session (caught_up w s t) i j) n ≡ slot (session w i j) n
slot_caught w s t i j n = ap (λ (v : World). slot (session v i j) n) (caught_up_is w s t)
    ∙ each_side_on (λ a b z. slot z.session n ≡ slot (session w a b) n) w s t
    (told_start (start_of (session w s t))) (λ a b. refl) refl i j

pub slot_plain : (w : World) (s t i j n : ℕ) →
    slot (session (caught_up_if_plain w s t) i j) n ≡ slot (session w i j) n
slot_plain w s t i j n = if_caught (λ v. slot (session v i j) n ≡ slot (session w i j) n) w s t refl
    (λ _. slot_caught w s t i j n)
