-- Proves that each open exchange of data sends at least one frame if no frame is longer than the greatest
-- body, in every world of a run. Each frame fits alone, so an aggregate is never empty.
use Rattle.std.proofs.Common.{◌≡◌, refl, ap, sym, ◌∙◌, subst, arith, ℕ, zero, suc, ◌-◌, ◌<◌, ◌≤◌, nat_lt, Bool, true, false, if◌then◌else◌, not, ◌&&◌, ◌||◌, ◌==◌, List, [], ◌∷◌, ◌++◌, length, map, take, Option, Some, None, IfSome, is_some, unwrap_or, option_map}
use Rattle.std.proofs.lemmas.List.{length-append}
use Rattle.wf_frame.specs.declared.settings.Config.{Config}
use Rattle.wf_frame.specs.declared.classes.Class.{Class}
use Rattle.wf_frame.specs.declared.notes.Ask.TheVariants.{Join, Leave, Rate, Tick, Pull, Arrive, Answer, Done, Sleep, Wake, Poll, Rx, Reap, Ampdu, Stop, Start, Unsent, GiveUp, Flush, Offload, Weight, Plain, Hold, Begin, Free, Cease, Group, Service, Bss}
use Rattle.wf_frame.specs.declared.notes.Limits.{Limits}
use Rattle.wf_frame.specs.declared.notes.Note.{Note}
use Rattle.wf_frame.specs.declared.notes.Note.TheVariants.{Enqueue, Asked}
use Rattle.wf_frame.specs.declared.notes.Refusal.{Refusal}
use Rattle.wf_frame.specs.declared.notes.Refusal.TheVariants.{Idle}
use Rattle.wf_frame.specs.Classes.{lower_tid, upper_tid, class_number}
use Rattle.wf_frame.specs.Settings.{IsInRange}
use Rattle.wf_def_lists.specs.Table.{at, put, with_member, greatest_upto}
use Rattle.wf_def_air.specs.Airtime.{IsRate}
use Rattle.wf_def_codel.specs.Codel.{Item}
use Rattle.wf_def_lists.specs.Lengths.{greatest_body, greatest_overhead}
use Rattle.wf_def_agreement.specs.Receiver.{score}
use Rattle.wf_def_rotation.specs.Rotation.{in_order}
use Rattle.wf_def_agreement.specs.Session.{request_due, waiting_numbers, next_number, has_room}
use Rattle.wf_def_world.specs.World.{World, Station, Share, Exchange, Mpdu, no_station, no_share, len_of, station, session, receiver, share, rotation, is_live, is_held_back, exchange, with_station, on_station, on_share, with_rotation, with_exchange, opening, Bounds}
use Rattle.wf_def_world.specs.Service.{station_served}
use Rattle.wf_def_world.specs.FlowQueues.{Taken, frames_queued, taken_for_tid}
use Rattle.wf_def_world.specs.CanSend.{is_request, request_open, has_waiting, can_give, can_send, can_send_in, with_listings_of}
use Rattle.wf_def_world.specs.Exchanges.{Aggregate, Prepared, mpdus_of, mpdu_of, most_frames, fits_in, picked_station, sending_tid, waiting_mpdus, longest_fitting, fresh_mpdus, with_number, with_fresh, aggregate_of, prepared_data, prepared_exchange, exchange_of, with_station_paid, with_stations_paid, after_pick, after_tid_turn, after_arrival, limited}
use Rattle.wf_def_world.specs.Refusals.{refusal}
use Rattle.wf_def_world.specs.Step.{Outcome, tick_outcome, rate_outcome, sleep_outcome, wake_outcome, poll_outcome, rx_outcome, join_outcome, leave_outcome, enqueue_outcome, pull_outcome_for, pull_outcome, arrive_outcome, answer_outcome, unsent_outcome, give_up_outcome, flush_outcome, done_outcome, outcome_where_open, reap_outcome, outcome_of, concerned_station, after_refusal, judged_outcome, step, offload_outcome, weight_outcome, plain_outcome, hold_outcome, begin_outcome, free_outcome, cease_outcome}
use Rattle.wf_def_world.specs.Run.{Entry, world_after}
use Rattle.wf_law_runs.specs.Queues.{AreAtMost}
use Rattle.wf_law_runs.specs.Releases.{named_by}
use Rattle.wf_law_runs.specs.Sent.{HasSome}
use Rattle.wf_law_rules.proofs.Lemmas.Numbers.{lt_yes, both}
use Rattle.wf_law_rules.proofs.Lemmas.Tables.{each_put}
use Rattle.wf_law_runs.proofs.Common.Refused.{after_idle}
use Rattle.wf_law_runs.proofs.Common.Marks.{with_marks, marked_world}
use Rattle.wf_law_runs.proofs.Releases.Kept.{opened_flushed}
use Rattle.wf_law_runs.proofs.Common.Picked.{picked_world}
use Rattle.wf_law_runs.proofs.Deficits.Books.{books}
use Rattle.wf_law_runs.proofs.Deficits.Kept.{IsKept}
use Rattle.wf_law_runs.proofs.Deficits.KeptStep.{kept_step, kept_opening}
use Rattle.wf_law_runs.proofs.Frames.Delivered.{prepared_right, opened_on_receiver, opened_ended, filtered, same_enqueued}
use Rattle.wf_law_runs.proofs.Frames.Fates.{Steady, steady_step, steady_first}
use Rattle.wf_law_runs.proofs.Queues.Shelves.{Shelves, shelves, shelves_after_turn, shelves_picked}
use Rattle.wf_law_runs.proofs.Sent.Alone.{fits_alone, some_most}
use Rattle.wf_law_runs.proofs.Sent.Given.{some_take}
use Rattle.wf_law_runs.proofs.Sent.Lengths.{IsMeasured, AreMeasured, AllMeasured, IsStocked, given_take, measured_waiting, opened_sent, opened_station, opened_gone, stocked_step, stocked_first}
use Rattle.wf_law_runs.proofs.Windows.Agreed.{IsLawful, Unmoved, unmoved_on_share, each_map_if, lawful_same, can_send_same, sends, winner_ready}
use Rattle.wf_law_runs.proofs.Windows.Opened.{Each, each_append, each_find}
use Rattle.wf_law_runs.proofs.Windows.Sides.{Same, same_on_station, same_on_share, same_listed, same_after_pick, same_after_turn, same_picked, same_weighed, opened_held, opened_begun, opened_freed, opened_ceased}
use Rattle.wf_law_runs.proofs.Ranges.Traits.{Traits, traits_step, few_station}
use Rattle.wf_def_lists.specs.Bounds.{least_ampdu}
use Rattle.std.proofs.Math.Nat.{le-max_left}

-- ---- the settings, the rates and the lengths

-- The rate of a station exists, and the longest aggregate that was stated for it takes one frame.
abbrev pub IsFew : Station → Type 0
IsFew x = IsRate x.rate × IfSome x.ampdu (λ n. least_ampdu ≤ n)

abbrev pub AreFew : World → Type 0
AreFew w = (s : ℕ) → IsFew (station w s)

-- The conditions under which each frame fits alone. They hold in every world of a run.
pub record IsFit (w : World) : Type 0 where
  pub overhead : w.config.overhead ≤ greatest_overhead
  pub stations : AreFew w
  pub short : (k : ℕ) → len_of ((shelves w).notes k) ≤ greatest_body
  pub measured : AllMeasured (shelves w).notes (shelves w)

-- The conditions under which a pull sends a frame: each fits alone, and the bounds of the pull allow one.
pub record IsApt (w : World) : Type 0 where
  pub fit : IsFit w
  pub frames : 1 ≤ w.bounds.frames

few_on_share : (w : World) (s : ℕ) (c : Class) (f : Share → Share) → AreFew w → AreFew (on_share w s c f)
unfolding on_share on_station with_station
few_on_share w s c f h = each_put (λ _ o. IsFew (unwrap_or o no_station)) None w.stations s
    _ h (go (at None w.stations s) (h s))
  where
    go : (o : Option Station) → IsFew (unwrap_or o no_station) →
        IsFew (unwrap_or (option_map (λ (x : Station). record
        x { shares = put no_share x.shares (class_number c) (f (at no_share x.shares (class_number c))) }) o)
        no_station)
    go None k = k
    go (Some x) k = k

few_paid : (ss : List ℕ) (w : World) (c : Class) (quanta : ℕ → ℕ) → AreFew w →
    AreFew (with_stations_paid w c quanta ss)
unfolding with_stations_paid with_station_paid
few_paid [] w c quanta h = h
few_paid (s ∷ ss) w c quanta h = few_paid ss _ c quanta (few_on_share w s c _ h)

few_picked : (w : World) (c : Class) (l : Limits) → AreFew w → AreFew (picked_world w c l)
unfolding after_pick with_rotation
few_picked w c l h = few_paid (in_order (rotation w c)) w c (picked_station w c).quanta h

few_turned : (w : World) (s : ℕ) (c : Class) (t : ℕ) → AreFew w → AreFew (after_tid_turn w s c t)
unfolding after_tid_turn
few_turned w s c t h = few_on_share w s c _ h

fit_by : (w v : World) → v.config ≡ w.config → shelves v ≡ shelves w → AreFew v → IsFit w → IsFit v
fit_by w v e is few h = record {
  overhead = subst (λ (c : Config). c.overhead ≤ greatest_overhead) (sym e) h.overhead;
  stations = few;
  short = subst (λ (b : Shelves). (k : ℕ) → len_of (b.notes k) ≤ greatest_body) (sym is) h.short;
  measured = subst (λ (b : Shelves). AllMeasured b.notes b) (sym is) h.measured;
}

pub apt_picked : (w : World) (c : Class) (l : Limits) → IsFit w → IsApt (picked_world w c l)
apt_picked w c l h = record {
  fit = fit_by w (picked_world w c l) (ap (λ (b : Shelves). b.config) (shelves_picked w c l))
      (shelves_picked w c l) (few_picked w c l h.stations) h;
  frames = le-max_left 1 (limited l.frames w.config.agg);
}

bounds_turned : (w : World) (s : ℕ) (c : Class) (t : ℕ) → (after_tid_turn w s c t).bounds ≡ w.bounds
unfolding after_tid_turn on_share on_station with_station
bounds_turned w s c t = refl

pub apt_turned : (w : World) (s : ℕ) (c : Class) (t : ℕ) → IsApt w → IsApt (after_tid_turn w s c t)
apt_turned w s c t h = record {
  fit = fit_by w (after_tid_turn w s c t) (ap (λ (b : Shelves). b.config) (shelves_after_turn w s c t))
      (shelves_after_turn w s c t) (few_turned w s c t h.fit.stations) h.fit;
  frames = subst (λ (b : Bounds). 1 ≤ b.frames) (sym (bounds_turned w s c t)) h.frames;
}

-- ---- an aggregate

abbrev IsSome : Aggregate → Type 0
IsSome f = 1 ≤ length f.mpdus

some_if : (b : Bool) (x y : Aggregate) → (b ≡ true → IsSome x) → (b ≡ false → IsSome y) →
    IsSome (if b then x else y)
some_if true x y h k = h refl
some_if false x y h k = k refl

-- Fresh frames are appended to the others.
some_longer : (n : ℕ) (w : World) (s t : ℕ) (ms : List Mpdu) → 1 ≤ length ms → IsSome (with_fresh n w s t ms)
unfolding with_fresh
some_longer zero w s t ms h = h
some_longer (suc n) w s t ms h =
    let taken : Taken = taken_for_tid w s t in
    some_if (not (can_give w s t)) _ _ (λ _. h)
    (λ _. some_if _ _ _ (λ _. some_longer n (with_number taken.world s t taken.item) s t
    (ms ++ fresh_mpdus w s t taken.item) (omega
    (arith, length-append ms (fresh_mpdus w s t taken.item), h))) (λ _. h))

-- The first fresh frame fits alone.
fits_given : (o : Option Item) (w : World) (s t : ℕ) → IsApt w → is_some o ≡ true →
    IfSome o (IsMeasured (shelves w).notes)
    → (fits_in w s (fresh_mpdus w s t o) ≡ true) × (1 ≤ length (fresh_mpdus w s t o))
fits_given None w s t a some h = absurd (cc (some))
fits_given (Some x) w s t a some h = (
  fits_alone w s (record { number = next_number (session w s t); id = x.id; len = x.len }) a.frames
      a.fit.overhead (a.fit.stations s).0 (a.fit.stations s).1 (omega (arith, h, a.fit.short x.id)),
  omega arith,
)

gives_queued : (a b : Bool) → a && b ≡ true → a ≡ true
gives_queued a b h = (both a b h).0

some_fresh : (n : ℕ) (w : World) (s t : ℕ) → 1 ≤ n → is_live w s ≡ true → can_give w s t ≡ true → IsApt w →
    IsSome (with_fresh n w s t [])
unfolding with_fresh
some_fresh zero w s t more live gives a = absurd (omega (arith, more))
some_fresh (suc n) w s t more live gives a =
    let taken : Taken = taken_for_tid w s t in
    let queued : 0 < frames_queued w s t = lt_yes 0 (frames_queued w s t)
    (gives_queued (nat_lt 0 (frames_queued w s t)) (has_room (session w s t) && not (is_held_back w s t))
    gives) in
    let first : List Mpdu = fresh_mpdus w s t taken.item in
    let numbered : World = with_number taken.world s t taken.item in
    let given : (fits_in w s first ≡ true) × (1 ≤ length first) =
    fits_given taken.item w s t a (some_take w s t live queued)
    (given_take (shelves w).notes w s t live a.fit.measured) in
    some_if (not (can_give w s t)) _ _ (λ none. absurd (cc (gives, none)))
    (λ _. some_if (fits_in w s first) (with_fresh n numbered s t first)
    (record { world = numbered; mpdus = [] }) (λ _. some_longer n numbered s t first given.1)
    (λ fails. absurd (cc (given.0, fails))))

-- The first waiting frame fits alone.
greatest_some : (test : ℕ → Bool) (n : ℕ) → test 1 ≡ true → 1 ≤ greatest_upto test (suc n)
greatest_some test n h = go n
  where
    if_some : (b : Bool) (k m : ℕ) → 1 ≤ k → (b ≡ false → 1 ≤ m) → 1 ≤ (if b then k else m)
    if_some true k m l r = l
    if_some false k m l r = r refl

    go : (n : ℕ) → 1 ≤ greatest_upto test (suc n)
    go zero = if_some (test 1) 1 0 (omega arith) (λ fails. absurd (cc (h, fails)))
    go (suc n) = if_some (test (suc (suc n))) (suc (suc n)) _ (omega arith) (λ _. go n)

some_front : (k : ℕ) (m : Mpdu) (ms : List Mpdu) → 1 ≤ k → 1 ≤ length (take k (m ∷ ms))
some_front zero m ms h = absurd (omega (arith, h))
some_front (suc k) m ms h = omega arith

some_fitting : (w : World) (s : ℕ) (m : Mpdu) (ms : List Mpdu) → fits_in w s (m ∷ []) ≡ true →
    1 ≤ length (longest_fitting w s (m ∷ ms))
unfolding longest_fitting
some_fitting w s m ms h = some_front (greatest_upto (λ k. fits_in w s (take k (m ∷ ms))) (suc (length ms))) m
    ms (greatest_some (λ k. fits_in w s (take k (m ∷ ms))) (length ms) h)

none_fitting : (w : World) (s : ℕ) → longest_fitting w s [] ≡ []
unfolding longest_fitting
none_fitting w s = refl

waits : (w : World) (s t : ℕ) → has_waiting w s t || can_give w s t ≡ true → waiting_mpdus w s t ≡ [] →
    can_give w s t ≡ true
waits w s t h none = go (waiting_numbers (session w s t)) (can_give w s t) h none
  where
    go : (ns : List ℕ) (b : Bool) → nat_lt 0 (length ns) || b ≡ true → map (mpdu_of w s t) ns ≡ [] → b ≡ true
    go [] b h e = h
    go (n ∷ ns) b h e = absurd (cc e)

pub some_filled : (w : World) (s t : ℕ) → is_live w s ≡ true → has_waiting w s t || can_give w s t ≡ true →
    IsApt w → IsSome (aggregate_of w s t)
unfolding aggregate_of
some_filled w s t live may a = go (waiting_mpdus w s t) refl (measured_waiting w s t)
  where
    fresh : (xs : List Mpdu) (n : ℕ) → xs ≡ [] → 1 ≤ n → can_give w s t ≡ true →
        IsSome (with_fresh (n - length xs) w s t xs)
    fresh [] n e more gives = some_fresh (n - 0) w s t (omega (arith, more)) live gives a
    fresh (x ∷ xs) n e more gives = absurd (cc e)

    more : 1 ≤ most_frames w s
    more = some_most w s a.frames

    all : List Mpdu
    all = waiting_mpdus w s t

    chosen : List Mpdu
    chosen = longest_fitting w s (waiting_mpdus w s t)

    go : (xs : List Mpdu) → waiting_mpdus w s t ≡ xs → AreMeasured (shelves w).notes (waiting_mpdus w s t)
        → IsSome (if length chosen == length all then with_fresh
        (most_frames w s - length chosen) w s t chosen else record { world = w; mpdus = chosen })
    go [] e lens =
        let none : chosen ≡ [] = ap (longest_fitting w s) e ∙ none_fitting w s in
        let as_long : (length chosen == length all) ≡ true =
        ap (λ (xs : List Mpdu). length xs == length all) none
        ∙ ap (λ (xs : List Mpdu). 0 == length xs) e in
        some_if (length chosen == length all) (with_fresh (most_frames w s - length chosen) w s t chosen)
        (record { world = w; mpdus = chosen })
        (λ _. fresh chosen (most_frames w s) none more (waits w s t may e))
        (λ differ. absurd (cc (as_long, differ)))
    go (m ∷ ms) e lens =
        let first : AreMeasured (shelves w).notes (m ∷ ms) = subst (AreMeasured (shelves w).notes) e lens in
        let alone : fits_in w s (m ∷ []) ≡ true = fits_alone w s m a.frames a.fit.overhead
        (a.fit.stations s).0 (a.fit.stations s).1 (omega (arith, first.0, a.fit.short m.id)) in
        let some : 1 ≤ length chosen = subst (λ (xs : List Mpdu). 1 ≤ length (longest_fitting w s xs)) (sym e)
        (some_fitting w s m ms alone) in
        some_if (length chosen == length all) (with_fresh (most_frames w s - length chosen) w s t chosen)
        (record { world = w; mpdus = chosen })
        (λ _. some_longer (most_frames w s - length chosen) w s t chosen some) (λ _. some)

-- ---- a pull

prepared_if : (b : Bool) (x y : Prepared) → (b ≡ true → is_request x.content ≡ true) →
    (b ≡ false → 1 ≤ length (mpdus_of y.content))
    → is_request (if b then x else y).content ≡ false → 1 ≤ length (mpdus_of (if b then x else y).content)
prepared_if true x y h k data_is = absurd (cc (h refl, data_is))
prepared_if false x y h k data_is = k refl

some_data : (s t : ℕ) (f : Aggregate) → IsSome f → 1 ≤ length (mpdus_of (prepared_data s t f).content)
unfolding prepared_data
some_data s t f h = h

pub some_prepared : (w : World) (s t : ℕ) → is_live w s ≡ true → can_send w s t ≡ true → IsApt w
    → is_request (prepared_exchange w s t).content ≡ false →
    1 ≤ length (mpdus_of (prepared_exchange w s t).content)
unfolding prepared_exchange
some_prepared w s t live may a =
    prepared_if (request_due (session w s t)) _ _ (λ _. refl)
    (λ quiet. some_data s t (aggregate_of w s t)
    (some_filled w s t live (sends_data (request_due (session w s t)) (not (request_open w s t))
    (has_waiting w s t || can_give w s t) may quiet) a))
  where
    sends_data : (b x y : Bool) → (if b then x else y) ≡ true → b ≡ false → y ≡ true
    sends_data true x y h quiet = absurd (cc quiet)
    sends_data false x y h quiet = h

unmoved_turned : (w : World) (s : ℕ) (c : Class) (t : ℕ) → Unmoved w (after_tid_turn w s c t)
unfolding after_tid_turn
unmoved_turned w s c t = unmoved_on_share w s c _

abbrev pub AllSome : World → Type 0
AllSome w = Each HasSome w.opened

some_opened : (w v : World) → v.opened ≡ w.opened → AllSome w → AllSome v
some_opened w v e h = subst (Each HasSome) (sym e) h

some_pulled_by : (o : Option ℕ) (w : World) (c : Class) →
    IfSome o (λ s. (is_live w s ≡ true) × (can_send_in w s c ≡ true)) → IsLawful w
    → IsApt w → AllSome w → AllSome (pull_outcome_for w c o).world
unfolding pull_outcome_for
some_pulled_by None w c ready l a h = h
some_pulled_by (Some s) w c ready l a h =
    let t : ℕ = sending_tid w s c in
    let v : World = after_tid_turn w s c t in
    let k : Same w v = same_after_turn w s c t in
    let live : is_live v s ≡ true = k.live s ∙ ready.0 in
    let p : Prepared = prepared_exchange v s t in
    let may : can_send v s t ≡ true = can_send_same w v s t k (unmoved_turned w s c t)
    ∙ sends (can_send w s) (share w s c).upper (lower_tid c) (upper_tid c) ready.1 in
    subst (Each HasSome) (sym (opened_sent s t c p))
    (each_append HasSome p.world.opened (exchange_of s t c p)
    (subst (Each HasSome) (sym ((prepared_right v s t (lawful_same w v k l) live).opened ∙ k.opened)) h)
    (some_prepared v s t live may (apt_turned w s c t a)))

some_pulled : (w : World) (c : Class) (limits : Limits) → IsLawful w → IsFit w → AllSome w →
    AllSome (pull_outcome w c limits).world
unfolding pull_outcome
some_pulled w c limits l a h =
    let k : Same w (picked_world w c limits) = same_picked w c limits in
    some_pulled_by (picked_station w c).winner (picked_world w c limits) c (winner_ready w c limits)
    (lawful_same w (picked_world w c limits) k l) (apt_picked w c limits a)
    (some_opened w (picked_world w c limits) k.opened h)

-- ---- the other calls

-- An exchange is replaced by one with the same content.
some_replaced : (w : World) (z : Exchange) (xs : List Exchange) → xs ≡ w.opened → HasSome z → AllSome w
    → Each HasSome (map (λ y. if y.number == z.number then z else y) xs)
some_replaced w z xs e a h = subst (λ (ys : List Exchange).
    Each HasSome (map (λ y. if y.number == z.number then z else y) ys)) (sym e)
    (each_map_if HasSome HasSome (λ y. y.number == z.number) z w.opened a (λ y _ k. k) h)

some_answered : (w : World) (x : Exchange) → HasSome x → AllSome w → AllSome (answer_outcome w x).world
unfolding answer_outcome with_exchange
some_answered w x a h = some_replaced w (record x { answer = Some (score (receiver w x.station x.tid)) })
    w.opened refl a h

some_arrived : (w : World) (x : Exchange) (n : ℕ) → HasSome x → AllSome w →
    AllSome (arrive_outcome w x n).world
unfolding arrive_outcome with_exchange
some_arrived w x n a h = some_replaced w (record x { arrived = with_member n x.arrived }) _
    (opened_on_receiver w x.station x.tid (after_arrival x.content n)) a h

some_marked : (w : World) (x : Exchange) (unsent given_up : List ℕ) → HasSome x → AllSome w →
    AllSome (marked_world w x unsent given_up)
unfolding with_exchange
some_marked w x unsent given_up a h = some_replaced w (with_marks unsent given_up x) w.opened refl a h

some_unsent : (w : World) (x : Exchange) (n : ℕ) → HasSome x → AllSome w →
    AllSome (unsent_outcome w x n).world
unfolding unsent_outcome
some_unsent w x n a h = some_marked w x (with_member n x.unsent) x.given_up a h

some_given_up : (w : World) (x : Exchange) (n : ℕ) → HasSome x → AllSome w →
    AllSome (give_up_outcome w x n).world
unfolding give_up_outcome
some_given_up w x n a h = some_marked w x x.unsent (with_member n x.given_up) a h

some_ended : (air : Option ℕ) (w : World) (x : Exchange) (heard : Bool) → AllSome w →
    AllSome (done_outcome w x heard air).world
some_ended air w x heard h = subst (Each HasSome) (sym (opened_ended air w x heard))
    (filtered w x.number HasSome h)

some_open : (o : Option Exchange) (w : World) (f : Exchange → Outcome) → IfSome o HasSome
    → ((x : Exchange) → HasSome x → AllSome (f x).world) → AllSome w →
    AllSome (outcome_where_open w o f).world
unfolding outcome_where_open
some_open None w f p k h = h
some_open (Some x) w f p k h = k x p

found_some : (w : World) (e : ℕ) → AllSome w → IfSome (exchange w e) HasSome
found_some w e h = each_find HasSome HasSome (λ x. x.number == e) w.opened (λ x _ k. k) h

some_reaped : (ids : List ℕ) (w : World) → AllSome w → AllSome (reap_outcome w ids).world
unfolding reap_outcome
some_reaped [] w h = h
some_reaped (id ∷ ids) w h = h

some_joined : (w : World) (s window start exponent weight : ℕ) → AllSome w →
    AllSome (join_outcome w s window start exponent weight).world
unfolding join_outcome
some_joined w s window start exponent weight h = subst (Each HasSome) (sym (opened_station w s _)) h

some_offloaded : (w : World) (s exponent weight : ℕ) → AllSome w →
    AllSome (offload_outcome w s exponent weight).world
unfolding offload_outcome
some_offloaded w s exponent weight h = subst (Each HasSome) (sym (opened_station w s _)) h

some_unagreed : (w : World) (s start exponent weight : ℕ) → AllSome w →
    AllSome (plain_outcome w s start exponent weight).world
unfolding plain_outcome
some_unagreed w s start exponent weight h = subst (Each HasSome) (sym (opened_station w s _)) h

-- ---- the step

some_done : (note : Note) (w : World) → IsLawful w → IsFit w → AllSome w → AllSome (outcome_of w note).world
unfolding outcome_of tick_outcome rate_outcome sleep_outcome wake_outcome poll_outcome rx_outcome
some_done (Enqueue s t flow len) w l a h = some_opened w (enqueue_outcome w s t flow len).world
    (same_enqueued w s t flow len).opened h
some_done (Asked (Join s window start exponent weight)) w l a h =
    some_joined w s window start exponent weight h
some_done (Asked (Leave s)) w l a h = some_opened w (leave_outcome w s).world (opened_gone w s) h
some_done (Asked (Rate s rate)) w l a h =
    subst (Each HasSome) (sym (same_on_station w s _ (λ x t. refl)).opened) h
some_done (Asked (Tick by)) w l a h = h
some_done (Asked (Pull c limits)) w l a h = some_pulled w c limits l a h
some_done (Asked (Arrive x n)) w l a h = some_open (exchange w x) w _ (found_some w x h)
    (λ y k. some_arrived w y n k h) h
some_done (Asked (Answer x)) w l a h = some_open (exchange w x) w _ (found_some w x h)
    (λ y k. some_answered w y k h) h
some_done (Asked (Done x heard air)) w l a h = some_open (exchange w x) w _ (found_some w x h)
    (λ y k. some_ended air w y heard h) h
some_done (Asked (Sleep s)) w l a h = subst (Each HasSome)
    (sym (same_on_station w s _ (λ x t. refl)).opened) h
some_done (Asked (Ampdu s octets)) w l a h = subst (Each HasSome)
    (sym (same_on_station w s _ (λ x t. refl)).opened) h
some_done (Asked (Stop s)) w l a h = subst (Each HasSome)
    (sym (same_on_station w s _ (λ x t. refl)).opened) h
some_done (Asked (Start s)) w l a h = subst (Each HasSome)
    (sym (same_on_station w s _ (λ x t. refl)).opened) h
some_done (Asked (Wake s)) w l a h = subst (Each HasSome) (sym (same_on_station w s _ (λ x t. refl)).opened) h
some_done (Asked (Poll s)) w l a h = subst (Each HasSome) (sym (same_on_station w s _ (λ x t. refl)).opened) h
some_done (Asked (Rx s c air)) w l a h = subst (Each HasSome) (sym (same_on_share w s c _).opened) h
some_done (Asked Reap) w l a h = some_reaped w.finished w h
some_done (Asked (Unsent x n)) w l a h = some_open (exchange w x) w _ (found_some w x h)
    (λ y k. some_unsent w y n k h) h
some_done (Asked (GiveUp x n)) w l a h = some_open (exchange w x) w _ (found_some w x h)
    (λ y k. some_given_up w y n k h) h
some_done (Asked (Flush s t)) w l a h = some_opened w (flush_outcome w s t).world (opened_flushed w s t) h
some_done (Asked (Offload s exponent weight)) w l a h = some_offloaded w s exponent weight h
some_done (Asked (Weight s weight)) w l a h = some_opened w (weight_outcome w s weight).world
    (same_weighed w s weight).opened h
some_done (Asked (Plain s start exponent weight)) w l a h = some_unagreed w s start exponent weight h
some_done (Asked (Hold s t)) w l a h = some_opened w (hold_outcome w s t).world (opened_held w s t) h
some_done (Asked (Begin s t window)) w l a h =
    some_opened w (begin_outcome w s t window).world (opened_begun w s t window) h
some_done (Asked (Free s t)) w l a h = some_opened w (free_outcome w s t).world (opened_freed w s t) h
some_done (Asked (Cease s t)) w l a h = some_opened w (cease_outcome w s t).world (opened_ceased w s t) h
some_done (Asked (Group ask)) w l a h = h
some_done (Asked (Service ask)) w l a h = subst (Each HasSome)
    (sym (same_on_station w (station_served ask) _ (λ x t. refl)).opened) h
some_done (Asked (Bss s b)) w l a h = subst (Each HasSome)
    (sym (same_on_station w s _ (λ x t. refl)).opened) h

some_refused : (note : Note) (r : Refusal) (w : World) → AllSome w → AllSome (after_refusal w note r)
unfolding after_refusal
some_refused (Asked (Pull c l)) Idle w h = after_idle AllSome w c h
    (some_opened w (after_pick w c) (same_after_pick w c).opened h)
some_refused _ _ w h = h

some_answer : (r : Option Refusal) (w : World) (note : Note) → IsLawful w → IsFit w → AllSome w →
    AllSome (judged_outcome w note r).world
unfolding judged_outcome
some_answer (Some r) w note l a h = some_refused note r w h
some_answer None w note l a h =
    some_opened (outcome_of w note).world (with_listings_of (outcome_of w note).world
    (concerned_station w note)) (same_listed (concerned_station w note) (outcome_of w note).world).opened
    (some_done note w l a h)

pub some_step : (w : World) (note : Note) → IsLawful w → IsFit w → AllSome w → AllSome (step w note).world
unfolding step
some_step w note l a h = some_answer (refusal w note) w note l a h

-- ---- the run

pub fit : (w : World) → IsKept (books w) → IsStocked greatest_body w → Traits w → IsFit w
fit w k i h = record {
  overhead = k.range.overhead.1;
  stations = few;
  short = i.short;
  measured = i.measured;
}
  where
    few : AreFew w
    few s = few_station _ (at None w.stations s) (h s)

some_run : (h : List Entry) (l : List ℕ) (w : World) → AreAtMost greatest_body h → IsKept (books w) →
    Steady l w → IsStocked greatest_body w → Traits w
    → AllSome w → AllSome (world_after w h)
unfolding world_after
some_run [] l w short k y i z a = a
some_run (e ∷ es) l w short k y i z a =
    some_run es (l ++ named_by (step w e.1).reply) (step w e.1).world short.1 (kept_step w e.1 k)
    (steady_step l w e.1 y) (stocked_step greatest_body l w e.1 short.0 y i) (traits_step w e.1 z)
    (some_step w e.1 y.lawful (fit w k i z) a)

pub some_sent : (config : Config) (h : List Entry) → IsInRange config → AreAtMost greatest_body h →
    Each HasSome (world_after (opening config) h).opened
some_sent config h range short = some_run h [] (opening config) short (kept_opening config range)
    (steady_first config) (stocked_first greatest_body config) (λ s. tt) tt
