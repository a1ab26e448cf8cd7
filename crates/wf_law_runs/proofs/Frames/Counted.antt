-- Proves that the number of held frames is the number of frames in flow queues and at unsettled numbers:
-- the list of the ids in these places has no repeats, and contains exactly the held frames.
use Rattle.std.proofs.Common.{◌≡◌, refl, ap, sym, ◌∙◌, subst, arith, ℕ, zero, suc, ◌+◌, ◌-◌, ◌<◌, ◌≤◌, ◌==◌, not, Bool, true, false, if◌then◌else◌, inl, inr, List, [], ◌∷◌, ◌++◌, length, map, Option, Some, None, unwrap_or}
use Rattle.std.proofs.lemmas.List.{length-append, length-map}
use Rattle.std.proofs.lemmas.List.Sums.{sum_by-cons}
use Rattle.std.specs.Prelude.{sum_by, count_by}
use Rattle.wf_frame.specs.declared.settings.Config.{Config}
use Rattle.wf_frame.specs.Settings.{IsInRange}
use Rattle.wf_frame.specs.declared.classes.Fate.{Fate}
use Rattle.wf_frame.specs.declared.classes.Fate.TheVariants.{Held, Acked, Dropped}
use Rattle.wf_def_lists.specs.Table.{at, has}
use Rattle.wf_def_codel.specs.Codel.{Item}
use Rattle.wf_def_agreement.specs.Session.{Session, Slot, no_slot, slot, is_settled}
use Rattle.wf_def_world.specs.World.{World, Station, Tid, Queue, Frame, no_tid, no_station, new_queue, no_frame, session, queue, frame, is_held}
use Rattle.wf_def_world.specs.FlowQueues.{total_queued}
use Rattle.wf_def_world.specs.Run.{Entry}
use Rattle.wf_def_world.specs.Stretches.{world_at}
use Rattle.wf_def_lists.specs.Lists.{IsOnce, IsRising}
use Rattle.wf_law_runs.specs.Places.{Place, Queued, Numbered, StandsAt, StandsOnce, KeepsPlaces}
use Rattle.wf_law_runs.specs.Queues.{KeepsQueues}
use Rattle.wf_law_runs.specs.Room.{unsettled_of, in_windows_of, in_windows}
use Rattle.wf_law_rules.proofs.Lemmas.Numbers.{on_if, eq_yes, yes_eq, either, or_left, or_right}
use Rattle.wf_law_rules.proofs.Lemmas.Joined.{as_many, rising_once, has_first, has_second, has_either, once_append, apart_lists, all_of, length_all, has_all, InOne, in_one, once_all}
use Rattle.wf_law_runs.proofs.Frames.Places.{place_law}
use Rattle.wf_law_runs.proofs.Queues.Law.{queue_law}

-- ---- the ids in queues and at unsettled numbers

abbrev queue_ids : Queue → List ℕ
queue_ids q = map (λ x. x.id) q.items

abbrev slot_ids : Slot → List ℕ
slot_ids x = if is_settled x.state then [] else x.id ∷ []

abbrev tid_ids : Tid → List ℕ
tid_ids y = all_of slot_ids y.session.slots

abbrev station_ids : Option Station → List ℕ
station_ids o = all_of tid_ids (unwrap_or o no_station).tids

abbrev placed_ids : World → List ℕ
placed_ids w = all_of queue_ids w.queues ++ all_of station_ids w.stations

-- ---- an unsettled number

unsettled_below : (xs : List Slot) (i : ℕ) → is_settled (at no_slot xs i).state ≡ false → i < length xs
unsettled_below [] i h = absurd (cc h)
unsettled_below (x ∷ xs) zero h = omega arith
unsettled_below (x ∷ xs) (suc i) h = omega (arith, unsettled_below xs i h)

record CarriesOne (x : Slot) (k : ℕ) : Type 0 where
  unsettled : is_settled x.state ≡ false
  id : x.id ≡ k

carries_one : (x : Slot) (k : ℕ) → has (slot_ids x) k ≡ true → CarriesOne x k
carries_one x k h = go (is_settled x.state) refl h
  where
    go : (b : Bool) → is_settled x.state ≡ b → has (if b then [] else x.id ∷ []) k ≡ true → CarriesOne x k
    go true e d = absurd (cc d)
    go false e d = elim (either (x.id == k) false d) [
      | inl a ↦
          record { unsettled = e; id = eq_yes x.id k a }
      | inr a ↦ absurd (cc a)
    ]

one_carried : (x : Slot) (k : ℕ) → is_settled x.state ≡ false → x.id ≡ k → has (slot_ids x) k ≡ true
one_carried x k e d = ap (λ (b : Bool). has (if b then [] else x.id ∷ []) k) e
    ∙ or_left (x.id == k) false (yes_eq x.id k d)

once_slot : (x : Slot) → IsOnce (slot_ids x)
once_slot x = on_if IsOnce (is_settled x.state) [] (x.id ∷ []) (λ _. tt) (λ _. (refl, tt))

-- Entry i of a session's slots is the slot of number first + i.
numbered_at : (w : World) (s t i k : ℕ) → has (slot_ids (at no_slot (session w s t).slots i)) k ≡ true →
    StandsAt w k (Numbered s t ((session w s t).first + i))
numbered_at w s t i k h =
    let y : Session = session w s t in
    let c : CarriesOne (at no_slot y.slots i) k = carries_one (at no_slot y.slots i) k h in
    let same_place : y.first + i - y.first ≡ i = omega arith in
    record {
      from = omega arith;
      below = omega (arith, unsettled_below y.slots i c.unsettled);
      carries = ap (λ (j : ℕ). (at no_slot y.slots j).id) same_place ∙ c.id;
      unsettled = ap (λ (j : ℕ). is_settled (at no_slot y.slots j).state) same_place ∙ c.unsettled;
    }

-- ---- the list contains exactly the ids that are in a place

record InTid (w : World) (s t k : ℕ) : Type 0 where
  number : ℕ
  stands : StandsAt w k (Numbered s t number)

in_tid : (w : World) (s t k : ℕ) → has (tid_ids
    (at no_tid (unwrap_or (at None w.stations s) no_station).tids t)) k ≡ true → InTid w s t k
in_tid w s t k h = let r = in_one slot_ids no_slot (session w s t).slots k h in
    record { number = (session w s t).first + r.place; stands = numbered_at w s t r.place k r.there }

record InStation (w : World) (s k : ℕ) : Type 0 where
  tid : ℕ
  number : ℕ
  stands : StandsAt w k (Numbered s tid number)

in_station : (w : World) (s k : ℕ) → has (station_ids (at None w.stations s)) k ≡ true → InStation w s k
in_station w s k h =
    let r = in_one tid_ids no_tid (unwrap_or (at None w.stations s) no_station).tids k h in
    let n : InTid w s r.place k = in_tid w s r.place k r.there in
    record { tid = r.place; number = n.number; stands = n.stands }

record SomePlace (w : World) (k : ℕ) : Type 0 where
  place : Place
  stands : StandsAt w k place

in_queues : (w : World) (k : ℕ) → has (all_of queue_ids w.queues) k ≡ true →
    InOne queue_ids new_queue w.queues k
in_queues w k h = in_one queue_ids new_queue w.queues k h

some_place : (w : World) (k : ℕ) → has (placed_ids w) k ≡ true → SomePlace w k
some_place w k h = elim (has_either (all_of queue_ids w.queues) (all_of station_ids w.stations) k h) [
  | inl a ↦ (let r = in_queues w k a in record { place = Queued r.place; stands = r.there })
  | inr b ↦ (
      let r = in_one station_ids None w.stations k b in
      let n : InStation w r.place k = in_station w r.place k r.there in
      record { place = Numbered r.place n.tid n.number; stands = n.stands })
]

place_listed : (w : World) (k : ℕ) (p : Place) → StandsAt w k p → has (placed_ids w) k ≡ true
place_listed w k (Queued q) h = has_first (all_of queue_ids w.queues) (all_of station_ids w.stations) k
    (has_all queue_ids new_queue w.queues q k refl h)
place_listed w k (Numbered s t n) h =
    has_second (all_of queue_ids w.queues) (all_of station_ids w.stations) k
    (has_all station_ids None w.stations s k refl
    (has_all tid_ids no_tid (unwrap_or (at None w.stations s) no_station).tids t k refl
    (has_all slot_ids no_slot (session w s t).slots (n - (session w s t).first) k refl
    (one_carried (slot (session w s t) n) k h.unsettled h.carries))))

-- ---- the list has no repeats

one_place : (w : World) (k : ℕ) (p r : Place) → KeepsPlaces w → StandsAt w k p → StandsAt w k r → p ≡ r
one_place w k p r h a b =
    let o = h.only_held k p a in
    let one : StandsOnce w k = h.held k o.0 o.1 in
    one.only p a ∙ sym (one.only r b)

once_queues : (w : World) → KeepsPlaces w → KeepsQueues w → IsOnce (all_of queue_ids w.queues)
once_queues w h q = once_all queue_ids new_queue w.queues
    (λ i. rising_once (queue_ids (queue w i)) 0 (q.ids i))
    (λ i j k a b. let e : Queued i ≡ Queued j = one_place w k (Queued i) (Queued j) h a b in cc e)

once_tid : (w : World) (s t : ℕ) → KeepsPlaces w →
    IsOnce (tid_ids (at no_tid (unwrap_or (at None w.stations s) no_station).tids t))
once_tid w s t h = once_all slot_ids no_slot (session w s t).slots
    (λ i. once_slot (at no_slot (session w s t).slots i)) (λ i j k a b.
    let first : ℕ = (session w s t).first in
    let e : Numbered s t (first + i) ≡ Numbered s t (first + j) =
    one_place w k (Numbered s t (first + i)) (Numbered s t (first + j)) h (numbered_at w s t i k a)
    (numbered_at w s t j k b) in
    let d : first + i ≡ first + j = cc e in
    omega (arith, d))

once_station : (w : World) (s : ℕ) → KeepsPlaces w → IsOnce (station_ids (at None w.stations s))
once_station w s h = once_all tid_ids no_tid (unwrap_or (at None w.stations s) no_station).tids
    (λ t. once_tid w s t h) (λ i j k a b.
    let m : InTid w s i k = in_tid w s i k a in
    let n : InTid w s j k = in_tid w s j k b in
    let e : Numbered s i m.number ≡ Numbered s j n.number =
    one_place w k (Numbered s i m.number) (Numbered s j n.number) h m.stands n.stands in
    cc e)

once_stations : (w : World) → KeepsPlaces w → IsOnce (all_of station_ids w.stations)
once_stations w h = once_all station_ids None w.stations (λ s. once_station w s h) (λ i j k a b.
    let m : InStation w i k = in_station w i k a in
    let n : InStation w j k = in_station w j k b in
    let e : Numbered i m.tid m.number ≡ Numbered j n.tid n.number =
    one_place w k (Numbered i m.tid m.number) (Numbered j n.tid n.number) h m.stands n.stands in
    cc e)

once_placed : (w : World) → KeepsPlaces w → KeepsQueues w → IsOnce (placed_ids w)
once_placed w h q = once_append (all_of queue_ids w.queues) (all_of station_ids w.stations)
    (once_queues w h q) (once_stations w h) (apart_lists (all_of queue_ids w.queues)
    (all_of station_ids w.stations) (λ k a b.
    let r = in_queues w k a in
    let m = in_one station_ids None w.stations k b in
    let n : InStation w m.place k = in_station w m.place k m.there in
    let e : Queued r.place ≡ Numbered m.place n.tid n.number =
    one_place w k (Queued r.place) (Numbered m.place n.tid n.number) h r.there n.stands in
    cc e))

-- ---- the held frames

abbrev held_from : ℕ → List Frame → List ℕ
held_from n [] = []
held_from n (f ∷ fs) = if is_held f.fate then n ∷ held_from (suc n) fs else held_from (suc n) fs

held_count : (fs : List Frame) (n : ℕ) → length (held_from n fs) ≡ count_by (λ f. is_held f.fate) fs
held_count [] n = refl
held_count (f ∷ fs) n = go (is_held f.fate) (held_count fs (suc n))
    ∙ sym (sum_by-cons (λ (y : Frame). if is_held y.fate then 1 else 0) f fs)
  where
    go : (b : Bool) → length (held_from (suc n) fs) ≡ count_by (λ f. is_held f.fate) fs →
        length (if b then n ∷ held_from (suc n) fs else held_from (suc n) fs)
        ≡ (if b then 1 else 0) + count_by (λ f. is_held f.fate) fs
    go true e = omega (arith, e)
    go false e = omega (arith, e)

held_rises : (fs : List Frame) (n lo : ℕ) → lo ≤ n → IsRising lo (held_from n fs)
held_rises [] n lo h = tt
held_rises (f ∷ fs) n lo h = on_if (IsRising lo) (is_held f.fate) (n ∷ held_from (suc n) fs)
    (held_from (suc n) fs) (λ _. (h, held_rises fs (suc n) (suc n) (omega arith)))
    (λ _. held_rises fs (suc n) lo (omega (arith, h)))

fate_held : (fate : Fate) → is_held fate ≡ true → fate ≡ Held
fate_held Held e = refl
fate_held Acked e = absurd (cc e)
fate_held (Dropped cause) e = absurd (cc e)

record IsHeldAt (fs : List Frame) (n k : ℕ) : Type 0 where
  from : n ≤ k
  below : k < n + length fs
  held : (at no_frame fs (k - n)).fate ≡ Held

held_later : (f : Frame) (fs : List Frame) (n k : ℕ) → IsHeldAt fs (suc n) k → IsHeldAt (f ∷ fs) n k
held_later f fs n k i =
    let e : k - n ≡ suc (k - suc n) = omega (arith, i.from) in
    record {
      from = omega (arith, i.from);
      below = omega (arith, i.below);
      held =
          ap (λ (j : ℕ). (at no_frame (f ∷ fs) j).fate) e ∙ i.held;
    }

held_at : (fs : List Frame) (n k : ℕ) → has (held_from n fs) k ≡ true → IsHeldAt fs n k
held_at [] n k h = absurd (cc h)
held_at (f ∷ fs) n k h = on_if (λ (ks : List ℕ). has ks k ≡ true → IsHeldAt (f ∷ fs) n k) (is_held f.fate)
    (n ∷ held_from (suc n) fs) (held_from (suc n) fs)
    (λ e d. elim (either (n == k) (has (held_from (suc n) fs) k) d) [
      | inl a ↦ (let same_n : n ≡ k = eq_yes n k a in let z : k - n ≡ 0 = omega (arith, same_n) in
          record {
            from = omega (arith, same_n);
            below = omega (arith, same_n);
            held =
                ap (λ (j : ℕ). (at no_frame (f ∷ fs) j).fate) z ∙ fate_held f.fate e;
          })
      | inr b ↦ held_later f fs n k (held_at fs (suc n) k b)
    ])
    (λ e d. held_later f fs n k (held_at fs (suc n) k d)) h

at_held : (fs : List Frame) (n i : ℕ) → i < length fs → (at no_frame fs i).fate ≡ Held →
    has (held_from n fs) (n + i) ≡ true
at_held [] n i l h = absurd (omega (arith, l))
at_held (f ∷ fs) n zero l h =
    let here : n ≡ n + 0 = omega arith in
    ap (λ (b : Bool). has (if b then n ∷ held_from (suc n) fs else held_from (suc n) fs) (n + 0))
    (ap is_held h) ∙ or_left (n == n + 0) (has (held_from (suc n) fs) (n + 0)) (yes_eq n (n + 0) here)
at_held (f ∷ fs) n (suc i) l h =
    let rest : has (held_from (suc n) fs) (suc n + i) ≡ true = at_held fs (suc n) i (omega (arith, l)) h in
    let e : suc n + i ≡ n + suc i = omega arith in
    let there : has (held_from (suc n) fs) (n + suc i) ≡ true =
    subst (λ (j : ℕ). has (held_from (suc n) fs) j ≡ true) e rest in
    on_if (λ (ks : List ℕ). has ks (n + suc i) ≡ true) (is_held f.fate) (n ∷ held_from (suc n) fs)
    (held_from (suc n) fs) (λ _. or_right (n == n + suc i) (has (held_from (suc n) fs) (n + suc i)) there)
    (λ _. there)

-- ---- the counts

slot_count : (xs : List Slot) → sum_by (λ x. length (slot_ids x)) xs
    ≡ count_by (λ x. not (is_settled x.state)) xs
slot_count [] = refl
slot_count (x ∷ xs) =
    sum_by-cons (λ (y : Slot). length (slot_ids y)) x xs
    ∙ (go (is_settled x.state) (slot_count xs)
    ∙ sym (sum_by-cons (λ (y : Slot). if not (is_settled y.state) then 1 else 0) x xs))
  where
    go : (b : Bool) → sum_by (λ y. length (slot_ids y)) xs ≡ count_by (λ y. not (is_settled y.state)) xs
        → length (if b then [] else x.id ∷ []) + sum_by (λ y. length (slot_ids y)) xs
        ≡ (if not b then 1 else 0) + count_by (λ y. not (is_settled y.state)) xs
    go true e = omega (arith, e)
    go false e = omega (arith, e)

tid_count : (ys : List Tid) → sum_by (λ y. length (tid_ids y)) ys ≡ sum_by unsettled_of ys
tid_count [] = refl
tid_count (y ∷ ys) = omega (
  arith,
  sum_by-cons (λ (z : Tid). length (tid_ids z)) y ys,
  sum_by-cons unsettled_of y ys,
  length_all slot_ids y.session.slots,
  slot_count y.session.slots,
  tid_count ys,
)

station_count : (o : Option Station) → length (station_ids o) ≡ in_windows_of o
station_count None = refl
station_count (Some x) = length_all tid_ids x.tids ∙ tid_count x.tids

stations_count : (os : List (Option Station)) →
    sum_by (λ o. length (station_ids o)) os ≡ sum_by in_windows_of os
stations_count [] = refl
stations_count (o ∷ os) = omega (
  arith,
  sum_by-cons (λ (z : Option Station). length (station_ids z)) o os,
  sum_by-cons in_windows_of o os,
  station_count o,
  stations_count os,
)

queue_count : (qs : List Queue) → sum_by (λ q. length (queue_ids q)) qs ≡ sum_by (λ q. length q.items) qs
queue_count [] = refl
queue_count (q ∷ qs) = omega (
  arith,
  sum_by-cons (λ (z : Queue). length (queue_ids z)) q qs,
  sum_by-cons (λ (z : Queue). length z.items) q qs,
  length-map q.items (λ (x : Item). x.id),
  queue_count qs,
)

placed_count : (w : World) → length (placed_ids w) ≡ total_queued w + in_windows w
placed_count w = omega (
  arith,
  length-append (all_of queue_ids w.queues) (all_of station_ids w.stations),
  length_all queue_ids w.queues,
  queue_count w.queues,
  length_all station_ids w.stations,
  stations_count w.stations,
)

pub all_placed : (w : World) → KeepsPlaces w → KeepsQueues w →
    total_queued w + in_windows w ≡ count_by (λ f. is_held f.fate) w.frames
all_placed w h q =
    let zero-add : (k : ℕ) → 0 + k ≡ k = λ k. omega arith in
    let less-zero : (k : ℕ) → k - 0 ≡ k = λ k. omega arith in
    let same : length (placed_ids w) ≡ length (held_from 0 w.frames) =
    as_many (placed_ids w) (held_from 0 w.frames) (once_placed w h q)
    (rising_once (held_from 0 w.frames) 0 (held_rises w.frames 0 0 (omega arith)))
    (λ k e. let r : SomePlace w k = some_place w k e in let o = h.only_held k r.place r.stands in
    subst (λ (j : ℕ). has (held_from 0 w.frames) j ≡ true) (zero-add k) (at_held w.frames 0 k o.0 o.1))
    (λ k e. let i : IsHeldAt w.frames 0 k = held_at w.frames 0 k e in
    let one : StandsOnce w k = h.held k (omega (arith, i.below))
    (subst (λ (j : ℕ). (frame w j).fate ≡ Held) (less-zero k) i.held) in
    place_listed w k one.place one.stands)
    in
    omega (arith, same, placed_count w, held_count w.frames 0)

pub placed_at : (config : Config) (h : List Entry) (m : ℕ) → IsInRange config →
    total_queued (world_at config h m) + in_windows (world_at config h m)
    ≡ count_by (λ f. is_held f.fate) (world_at config h m).frames
placed_at config h m range = all_placed (world_at config h m) (place_law config h range m)
    (queue_law config h range m)
