-- Proves that the bounds of a pull stay the same while its frames are taken and its exchange is prepared, so
-- that each of its steps reads those that its limits gave.
use Rattle.std.proofs.Common.{◌≡◌, refl, ◌∙◌, ℕ, zero, suc, ◌-◌, Bool, true, false, if◌then◌else◌, List, [], ◌∷◌, ◌++◌, Option, Some, None, not, length, ◌==◌}
use Rattle.wf_frame.specs.declared.classes.Class.{Class}
use Rattle.wf_frame.specs.declared.classes.Fate.{Fate}
use Rattle.wf_frame.specs.declared.notes.Limits.{Limits}
use Rattle.wf_def_codel.specs.Codel.{Item}
use Rattle.wf_def_rotation.specs.Rotation.{Rotation}
use Rattle.wf_def_world.specs.World.{World, Bounds, Mpdu, with_bounds, with_station, on_station, on_tid, on_session, with_queues, on_share, on_queue, with_fate, with_frame_finished, with_frames_finished}
use Rattle.wf_def_world.specs.FlowQueues.{Taken, with_queues_paid, taken_by_codel, taken_from_picked, taken_for_tid}
use Rattle.wf_def_world.specs.CanSend.{can_give}
use Rattle.wf_def_world.specs.Exchanges.{Aggregate, after_pick, bounds_of, most_frames, fits_in, waiting_mpdus, longest_fitting, fresh_mpdus, with_number, with_fresh, aggregate_of, after_tid_turn}

-- The world in which a pull of a class with these limits sends: after its pick, with their bounds.
abbrev pub with_limits : World → Class → Limits → World
with_limits w c limits = with_bounds (after_pick w c) (bounds_of w.config c limits)

bounds_finish_all : (ids : List ℕ) (w : World) (fate : Fate) →
    (with_frames_finished w fate ids).bounds ≡ w.bounds
unfolding with_frames_finished with_frame_finished with_fate
bounds_finish_all [] w fate = refl
bounds_finish_all (id ∷ ids) w fate = bounds_finish_all ids _ fate

bounds_pay_queues : (qs : List ℕ) (w : World) (quanta : ℕ → ℕ) →
    (with_queues_paid w quanta qs).bounds ≡ w.bounds
unfolding with_queues_paid on_queue
bounds_pay_queues [] w quanta = refl
bounds_pay_queues (q ∷ qs) w quanta = bounds_pay_queues qs _ quanta

bounds_taken_from : (w : World) (s : ℕ) (o : Option ℕ) → (taken_from_picked w s o).world.bounds ≡ w.bounds
unfolding taken_from_picked taken_by_codel on_queue
bounds_taken_from w s None = refl
bounds_taken_from w s (Some q) = bounds_finish_all _ _ _

bounds_with_queues : (w : World) (s t : ℕ) (r : Rotation) → (with_queues w s t r).bounds ≡ w.bounds
unfolding with_queues on_tid on_station with_station
bounds_with_queues w s t r = refl

-- A take from a TID does not change the bounds.
pub bounds_take : (w : World) (s t : ℕ) → (taken_for_tid w s t).world.bounds ≡ w.bounds
unfolding taken_for_tid
bounds_take w s t = bounds_taken_from _ s _ ∙ (bounds_with_queues _ s t _ ∙ bounds_pay_queues _ w _)

-- Nor does a number that is assigned.
pub bounds_with_number : (o : Option Item) (w : World) (s t : ℕ) → (with_number w s t o).bounds ≡ w.bounds
unfolding with_number on_session on_tid on_station with_station
bounds_with_number None w s t = refl
bounds_with_number (Some x) w s t = refl

bounds_if : (b : Bool) (z : Bounds) (x y : Aggregate) → x.world.bounds ≡ z → y.world.bounds ≡ z →
    (if b then x else y).world.bounds ≡ z
bounds_if true z x y h k = h
bounds_if false z x y h k = k

bounds_with_fresh : (n : ℕ) (w : World) (s t : ℕ) (mpdus : List Mpdu) →
    (with_fresh n w s t mpdus).world.bounds ≡ w.bounds
unfolding with_fresh
bounds_with_fresh zero w s t mpdus = refl
bounds_with_fresh (suc n) w s t mpdus =
    let taken : Taken = taken_for_tid w s t in
    let numbered : World = with_number taken.world s t taken.item in
    let longer : List Mpdu = mpdus ++ fresh_mpdus w s t taken.item in
    let last : Aggregate = record { world = numbered; mpdus = mpdus } in
    let more : Aggregate = with_fresh n numbered s t longer in
    let same : numbered.bounds ≡ w.bounds =
    bounds_with_number taken.item taken.world s t ∙ bounds_take w s t in
    bounds_if (not (can_give w s t)) w.bounds (record { world = w; mpdus = mpdus })
    (if fits_in w s longer then more else last) refl
    (bounds_if (fits_in w s longer) w.bounds more last (bounds_with_fresh n numbered s t longer ∙ same) same)

-- The bounds after the frames of an aggregate are taken.
pub bounds_filled : (w : World) (s t : ℕ) → (aggregate_of w s t).world.bounds ≡ w.bounds
unfolding aggregate_of
bounds_filled w s t =
    let waiting : List Mpdu = waiting_mpdus w s t in
    let chosen : List Mpdu = longest_fitting w s waiting in
    let room : ℕ = most_frames w s - length chosen in
    bounds_if (length chosen == length waiting) w.bounds (with_fresh room w s t chosen)
    (record { world = w; mpdus = chosen }) (bounds_with_fresh room w s t chosen) refl

-- The turn of a TID does not change the bounds.
pub bounds_after_turn : (w : World) (s : ℕ) (c : Class) (t : ℕ) → (after_tid_turn w s c t).bounds ≡ w.bounds
unfolding after_tid_turn on_share on_station with_station
bounds_after_turn w s c t = refl
