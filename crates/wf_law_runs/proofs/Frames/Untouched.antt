-- Proves which changes of a world affect neither the accepted frames nor the finished list.
use Rattle.std.proofs.Common.{◌≡◌, refl, sym, ◌∙◌, subst, ℕ, Bool, true, false, if◌then◌else◌, List, [], ◌∷◌, Option, Some, None}
use Rattle.wf_frame.specs.declared.classes.Class.{Class}
use Rattle.wf_frame.specs.declared.notes.Limits.{Limits}
use Rattle.wf_frame.specs.Classes.{all_classes}
use Rattle.wf_def_codel.specs.Codel.{Item}
use Rattle.wf_def_rotation.specs.Rotation.{Rotation, in_order}
use Rattle.wf_def_agreement.specs.Receiver.{Receiver}
use Rattle.wf_def_agreement.specs.Session.{Session}
use Rattle.wf_def_world.specs.World.{World, Station, Tid, Queue, Exchange, rotation, with_mode, with_station, on_station, on_tid, on_session, on_receiver, with_queues, on_share, on_queue, with_rotation, without_exchange}
use Rattle.wf_def_world.specs.FlowQueues.{with_listed_queue, with_appended, after_put_in, with_queues_paid}
use Rattle.wf_def_world.specs.CanSend.{with_listing_in, with_listings_in, with_listings_of}
use Rattle.wf_def_world.specs.Exchanges.{with_station_paid, with_stations_paid, after_pick, after_tid_turn, after_charge, caught_up, caught_up_if_plain, with_spent}
use Rattle.wf_def_world.specs.Step.{without_listings, with_deficits_lowered, weight_outcome, hold_outcome, begin_outcome, free_outcome, cease_outcome, after_numbers_ended}
use Rattle.wf_law_runs.proofs.Common.Picked.{picked_world}
use Rattle.wf_law_runs.proofs.Common.Flushes.{if_caught}
use Rattle.wf_law_runs.proofs.Windows.Sides.{begun_is, ceased_is}

pub record Untouched (w v : World) : Type 0 where
  pub frames : v.frames ≡ w.frames
  pub finished : v.finished ≡ w.finished

pub untouched : (w : World) → Untouched w w
untouched w = record { frames = refl; finished = refl }

pub then_untouched : (u v w : World) → Untouched u v → Untouched v w → Untouched u w
then_untouched u v w h k = record { frames = k.frames ∙ h.frames; finished = k.finished ∙ h.finished }

pub untouched_if : (b : Bool) (w u v : World) → Untouched w u → Untouched w v →
    Untouched w (if b then u else v)
untouched_if true w u v h k = h
untouched_if false w u v h k = k

-- ---- stations

pub untouched_with_station : (w : World) (s : ℕ) (o : Option Station) → Untouched w (with_station w s o)
unfolding with_station
untouched_with_station w s o = record { frames = refl; finished = refl }

pub untouched_on_station : (w : World) (s : ℕ) (f : Station → Station) → Untouched w (on_station w s f)
unfolding on_station
untouched_on_station w s f = untouched_with_station w s _

pub untouched_on_tid : (w : World) (s t : ℕ) (f : Tid → Tid) → Untouched w (on_tid w s t f)
unfolding on_tid
untouched_on_tid w s t f = untouched_on_station w s _

pub untouched_on_session : (w : World) (s t : ℕ) (f : Session → Session) → Untouched w (on_session w s t f)
unfolding on_session
untouched_on_session w s t f = untouched_on_tid w s t _

pub untouched_on_receiver : (w : World) (s t : ℕ) (f : Receiver → Receiver) →
    Untouched w (on_receiver w s t f)
unfolding on_receiver
untouched_on_receiver w s t f = untouched_on_tid w s t _

pub untouched_with_queues : (w : World) (s t : ℕ) (r : Rotation) → Untouched w (with_queues w s t r)
unfolding with_queues
untouched_with_queues w s t r = untouched_on_tid w s t _

pub untouched_spent : (w : World) (x : Exchange) → Untouched w (with_spent w x)
unfolding with_spent
untouched_spent w x = untouched_on_station w x.station _

pub untouched_after_turn : (w : World) (s : ℕ) (c : Class) (t : ℕ) → Untouched w (after_tid_turn w s c t)
unfolding after_tid_turn on_share
untouched_after_turn w s c t = untouched_on_station w s _

pub untouched_charged : (air : Option ℕ) (w : World) (x : Exchange) → Untouched w (after_charge w x air)
unfolding after_charge on_share
untouched_charged air w x = untouched_on_station w _ _

untouched_pay_stations : (ss : List ℕ) (w : World) (c : Class) (quanta : ℕ → ℕ) →
    Untouched w (with_stations_paid w c quanta ss)
unfolding with_stations_paid with_station_paid on_share
untouched_pay_stations [] w c quanta = untouched w
untouched_pay_stations (s ∷ ss) w c quanta = then_untouched w _ _ (untouched_on_station w s _)
    (untouched_pay_stations ss _ c quanta)

-- ---- rotations and exchanges

untouched_with_rotation : (w : World) (c : Class) (r : Rotation) → Untouched w (with_rotation w c r)
unfolding with_rotation
untouched_with_rotation w c r = record { frames = refl; finished = refl }

pub untouched_after_pick : (w : World) (c : Class) → Untouched w (after_pick w c)
unfolding after_pick
untouched_after_pick w c = then_untouched w _ _ (untouched_pay_stations (in_order (rotation w c)) w c _)
    (untouched_with_rotation _ c _)

pub untouched_picked : (w : World) (c : Class) (l : Limits) → Untouched w (picked_world w c l)
untouched_picked w c l =
    let k : Untouched w (after_pick w c) = untouched_after_pick w c in
    record { frames = k.frames; finished = k.finished }

pub untouched_off_lists : (cs : List Class) (w : World) (s : ℕ) → Untouched w (without_listings w s cs)
unfolding without_listings
untouched_off_lists [] w s = untouched w
untouched_off_lists (c ∷ cs) w s = then_untouched w _ _ (untouched_with_rotation w c _)
    (untouched_off_lists cs _ s)

untouched_listed_in_all : (cs : List Class) (w : World) (s : ℕ) → Untouched w (with_listings_in w s cs)
unfolding with_listings_in with_listing_in
untouched_listed_in_all [] w s = untouched w
untouched_listed_in_all (c ∷ cs) w s = then_untouched w _ _
    (untouched_if _ w _ w (untouched_with_rotation w c _) (untouched w)) (untouched_listed_in_all cs _ s)

pub untouched_listed : (o : Option ℕ) (w : World) → Untouched w (with_listings_of w o)
unfolding with_listings_of
untouched_listed None w = untouched w
untouched_listed (Some s) w = untouched_listed_in_all all_classes w s

pub untouched_without : (w : World) (e : ℕ) → Untouched w (without_exchange w e)
unfolding without_exchange
untouched_without w e = record { frames = refl; finished = refl }

-- ---- queues

pub untouched_on_queue : (w : World) (q : ℕ) (f : Queue → Queue) → Untouched w (on_queue w q f)
unfolding on_queue
untouched_on_queue w q f = record { frames = refl; finished = refl }

pub untouched_pay_queues : (qs : List ℕ) (w : World) (quanta : ℕ → ℕ) →
    Untouched w (with_queues_paid w quanta qs)
unfolding with_queues_paid
untouched_pay_queues [] w quanta = untouched w
untouched_pay_queues (q ∷ qs) w quanta = then_untouched w _ _ (untouched_on_queue w q _)
    (untouched_pay_queues qs _ quanta)

pub untouched_put_in : (u : World) (s t q : ℕ) (x : Item) → Untouched u (after_put_in u s t q x)
unfolding after_put_in with_appended with_listed_queue
untouched_put_in u s t q x =
    then_untouched u _ _ (untouched_on_queue u q _)
    (untouched_if _ _ _ _ (untouched _) (then_untouched _ _ _ (untouched_on_queue _ q _)
    (untouched_with_queues _ s t _)))

-- ---- weights, and a TID that catches up

untouched_lowered : (cs : List Class) (w : World) (s : ℕ) → Untouched w (with_deficits_lowered w s cs)
unfolding with_deficits_lowered on_share
untouched_lowered [] w s = untouched w
untouched_lowered (c ∷ cs) w s = then_untouched w _ _ (untouched_on_station w s _) (untouched_lowered cs _ s)

pub untouched_weighed : (w : World) (s weight : ℕ) → Untouched w (weight_outcome w s weight).world
unfolding weight_outcome
untouched_weighed w s weight = then_untouched w _ _ (untouched_on_station w s _)
    (untouched_lowered all_classes _ s)

pub untouched_caught : (w : World) (s t : ℕ) → Untouched w (caught_up w s t)
unfolding caught_up
untouched_caught w s t = then_untouched w _ _ (untouched_on_session w s t _) (untouched_on_receiver _ s t _)

pub untouched_caught_up : (w : World) (s t : ℕ) → Untouched w (caught_up_if_plain w s t)
untouched_caught_up w s t = if_caught (Untouched w) w s t (untouched w) (λ _. untouched_caught w s t)

-- ---- a TID is held or free, and its agreement begins or ends

pub untouched_held : (w : World) (s t : ℕ) → Untouched w (hold_outcome w s t).world
unfolding hold_outcome with_mode
untouched_held w s t = untouched_on_tid w s t _

pub untouched_begun : (w : World) (s t window : ℕ) → Untouched w (begin_outcome w s t window).world
untouched_begun w s t window = subst (Untouched w) (sym (begun_is w s t window)) (untouched_on_tid w s t _)

pub untouched_freed : (w : World) (s t : ℕ) → Untouched w (free_outcome w s t).world
unfolding free_outcome with_mode
untouched_freed w s t = untouched_on_tid w s t _

-- After the waiting numbers are given up, the end of an agreement affects no frame.
pub untouched_ceased : (w : World) (s t : ℕ) →
    Untouched (after_numbers_ended w s t) (cease_outcome w s t).world
untouched_ceased w s t = subst (Untouched (after_numbers_ended w s t)) (sym (ceased_is w s t))
    (untouched_on_tid _ s t _)
