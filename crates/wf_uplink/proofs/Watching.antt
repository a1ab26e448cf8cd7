-- Proves that the tournament tree of waits has the right values after each call.
use Rattle.std.proofs.Common.{◌≡◌, ℕ, ◌+◌, ◌-◌, ◌*◌, ◌/◌, ◌%◌, ◌<◌, ◌≤◌, ◌==◌, ◌&&◌, ◌||◌, not, nat_lt, nat_le, Bool, true, false, ◌⊎◌, inl, inr, List, [], ◌∷◌, length, map, get_or, set, replicate, Option, Some, None, refl, sym, ◌∙◌, ap, subst, arith, if◌then◌else◌}
use Rattle.std.specs.Prelude.{slice_index, position, count_by, sum_by}
use Rattle.std.proofs.lemmas.Bool.Decides.{nat_tests}
use Rattle.std.proofs.lemmas.List.{get_or-set_same, get_or-set_other, get_or_past, get_or-replicate, length-set, length-replicate}
use Rattle.std.proofs.lemmas.List.Sums.{position_or_len_is, sum_by-cons}
use Rattle.wf_def_air.specs.Airtime.{Rate, lowest_rate}
use Rattle.wf_queue_parts.specs.Best.{IsFirstFrom}
use Rattle.wf_uplink.specs.declared.items.UpItem.{UpItem}
use Rattle.wf_uplink.specs.Reordering.{Reordering, Stored, Passed, Released, GivenUp, ReorderingOutcome, unopened, new_reordering, number_read, is_none_stored, is_stored, least_stored, moved_to, waiting, with_room_for, stored_at, given_back, number_arrived, arrived, unmoved, start_arrived, requested, is_due, time_limit, timed_out, waits_since_of}
use Rattle.wf_uplink.specs.Shown.{item_of, is_frame, missing_of}
use Rattle.wf_uplink.specs.World.{World, place_of, tids_of_station, reordering_at, released_in, given_up_in, with_outcome, opened, plain_opened, begun, first_due, new_world}
use Rattle.wf_uplink.specs.Soundness.{IsSound, IsWatched, latest, worth_of}
use Rattle.wf_uplink.proofs.Moves.{choose}
use Rattle.wf_uplink.proofs.Worlds.{set_cases, with_frames, same_or_not, begun_cases, begun_other, begun_here, IsOpening}

-- ---- when waits began

waiting_since : (now : ℕ) (before : Reordering) (o : ReorderingOutcome) → o.after.since ≤ now →
    (waiting now before o).after.since ≤ now
waiting_since now before o le =
    choose (λ (p : ReorderingOutcome). p.after.since ≤ now)
    (not (before.start == o.after.start) || is_none_stored before.stored)
    (record o { after = record o.after { since = now } }) o
    (λ _. omega arith) (λ _. le)

room_since : (n : ℕ) (r : Reordering) → (with_room_for n r).after.since ≡ r.since
room_since n r = choose (λ (o : ReorderingOutcome). o.after.since ≡ r.since) (nat_lt n (r.start + r.window))
    (record { passed = []; old = false; after = r }) (moved_to (n + 1 - r.window) r) (λ _. refl) (λ _. refl)

number_since : (n : Option ℕ) (id now : ℕ) (r : Reordering) → r.since ≤ now →
    (number_arrived n id now r).after.since ≤ now
number_since None id now r le = le
number_since (Some n) id now r le =
    choose (λ (o : ReorderingOutcome). o.after.since ≤ now) (is_stored n r.stored) (given_back r)
    (waiting now r (stored_at n id r)) (λ _. le)
    (λ _. waiting_since now r (stored_at n id r) (let same = room_since n r in omega (arith, same, le)))

pub arrived_since : (bits id now : ℕ) (r : Reordering) → r.since ≤ now →
    (arrived bits id now r).after.since ≤ now
arrived_since bits id now r le = number_since (number_read bits r.start) id now r le

start_since : (n : Option ℕ) (now : ℕ) (r : Reordering) → r.since ≤ now →
    (start_arrived n now r).after.since ≤ now
start_since None now r le = le
start_since (Some n) now r le =
    choose (λ (o : ReorderingOutcome). o.after.since ≤ now) (nat_lt r.start n)
    (waiting now r (moved_to n r)) (unmoved r) (λ _. waiting_since now r (moved_to n r) le) (λ _. le)

pub requested_since : (bits now : ℕ) (r : Reordering) → r.since ≤ now →
    (requested bits now r).after.since ≤ now
requested_since bits now r le = start_since (number_read bits r.start) now r le

pub timed_out_since : (now : ℕ) (r : Reordering) → r.since ≤ now → (timed_out now r).after.since ≤ now
timed_out_since now r le = waiting_since now r (moved_to (least_stored r.start r.stored) r) le

-- ---- the tournament

pub outcome_watched : (w : World) (waits : List ℕ) (place new : ℕ) (o : ReorderingOutcome) →
    IsWatched w waits → place < length w.reorderings → place < 2048 → o.after.since ≤ w.clock →
    IsWatched (with_outcome place o (with_frames new w)) (set waits place (worth_of (waits_since_of o.after)))
outcome_watched w waits place new o h within low since = record {
  size = length-set waits place (worth_of (waits_since_of o.after)) ∙ h.size;
  stations = h.stations;
  early = h.early;
  since = λ k. set_cases (λ (r : Reordering). r.since ≤ w.clock) w.reorderings place k o.after unopened since
      (h.since k);
  worths = λ k. elim (same_or_not k place) [
    | inl same ↦
        subst (λ j. get_or (set waits place (worth_of (waits_since_of o.after))) j 0
        ≡ worth_of (waits_since_of (get_or (set w.reorderings place o.after) j unopened))) (sym same)
        (get_or-set_same waits place (worth_of (waits_since_of o.after)) 0
        (let size = h.size in omega (arith, size, low))
        ∙ ap (λ (r : Reordering). worth_of (waits_since_of r))
        (sym (get_or-set_same w.reorderings place o.after unopened within)))
    | inr differ ↦
        get_or-set_other waits place k (worth_of (waits_since_of o.after)) 0 differ ∙ h.worths k
        ∙ ap (λ (r : Reordering). worth_of (waits_since_of r))
        (sym (get_or-set_other w.reorderings place k o.after unopened differ))
  ];
}

due_worth : (now : ℕ) (r : Reordering) → now < latest → r.since ≤ now →
    is_due now r ≡ nat_le (latest + time_limit - now) (worth_of (waits_since_of r))
due_worth now r early le =
    at (is_none_stored r.stored)
  where
    at : (t : Bool) → (not t && nat_le (r.since + 100000) now)
        ≡ nat_le (latest + time_limit - now) (worth_of (if t then None else Some r.since))
    at true = grind (arith, nat_tests, early)
    at false = grind (arith, nat_tests, early, le)

position_is : (p : Reordering → Bool) (xs : List Reordering) (i : ℕ) → i < length xs →
    ((k : ℕ) → k < i → p (get_or xs k unopened) ≡ false) → p (get_or xs i unopened) ≡ true →
    position p xs ≡ Some i
position_is p xs i within before here =
    let at = position_or_len_is p xs i unopened (omega (arith, within)) before (λ _. here) in
    ap (λ n. if nat_lt n (length xs) then Some n else None) at
    ∙ within_some (nat_lt i (length xs)) (grind (arith, nat_tests, within))
  where
    within_some : (t : Bool) → t ≡ true → (if t then Some i else None) ≡ Some i
    within_some true e = refl
    within_some false e = absurd (grind (arith, e))

position_none : (p : Reordering → Bool) (xs : List Reordering) →
    ((k : ℕ) → p (get_or xs k unopened) ≡ false) → position p xs ≡ None
position_none p xs none =
    let at = position_or_len_is p xs (length xs) unopened (omega arith) (λ k below. none k)
    (λ inside. absurd (omega (arith, inside))) in
    ap (λ n. if nat_lt n (length xs) then Some n else None) at
    ∙ past_none (nat_lt (length xs) (length xs)) (grind (arith, nat_tests))
  where
    past_none : (t : Bool) → t ≡ false → (if t then Some (length xs) else None) ≡ None
    past_none false e = refl
    past_none true e = absurd (grind (arith, e))

below_2048_or_not : (a b : ℕ) → (a < b) ⊎ (b ≤ a)
below_2048_or_not a b = grind arith

pub none_due : (w : World) (waits : List ℕ) → IsWatched w waits →
    ((place : ℕ) → place < 2048 → slice_index waits place < latest + time_limit - w.clock) →
    first_due w ≡ None
none_due w waits h less =
    position_none (is_due w.clock) w.reorderings
    (λ k. due_worth w.clock (reordering_at w k) h.early (h.since k)
    ∙ (let same = h.worths k in let clock = h.early in elim (below_2048_or_not k 2048) [
      | inl low ↦ let under = less k low in grind (arith, nat_tests, same, under)
      | inr past ↦ let nothing = get_or_past waits k 0 (let size = h.size in omega (arith, size, past)) in
          grind (arith, nat_tests, same, nothing, clock)
    ]))

pub found_due : (w : World) (waits : List ℕ) (place : ℕ) → IsWatched w waits →
    IsFirstFrom waits (latest + time_limit - w.clock) place → first_due w ≡ Some place
found_due w waits place h f =
    let due : is_due w.clock (reordering_at w place) ≡ true =
    due_worth w.clock (reordering_at w place) h.early (h.since place)
    ∙ (let same = h.worths place in let from = f.from in grind (arith, nat_tests, same, from)) in
    position_is (is_due w.clock) w.reorderings place
    (inside (below_2048_or_not place (length w.reorderings)) due)
    (λ k below. due_worth w.clock (reordering_at w k) h.early (h.since k)
    ∙ (let same = h.worths k in let under = f.least k below in grind (arith, nat_tests, same, under))) due
  where
    inside : (place < length w.reorderings) ⊎ (length w.reorderings ≤ place) →
        is_due w.clock (reordering_at w place) ≡ true → place < length w.reorderings
    inside (inl low) due = low
    inside (inr past) due = absurd (let nothing =
        ap (is_due w.clock) (get_or_past w.reorderings place unopened past) in grind (arith, nothing, due))

-- ---- a station is opened, or its rate is set

pub opened_watched : (station window start : ℕ) (w : World) (waits : List ℕ) → IsSound w → IsWatched w waits →
    IsOpening station window start w → IsWatched (opened station window start w) waits
opened_watched station window start w waits sound h x = record {
  size = h.size;
  stations = let same = length-set w.rates station (Some lowest_rate) in let few = h.stations in
      omega (arith, same, few);
  early = h.early;
  since = λ k. begun_cases (λ (r : Reordering). r.since ≤ w.clock) tids_of_station station window start k
      w.reorderings unopened (omega arith) (h.since k);
  worths = λ k. elim (same_or_not (k / tids_of_station) station) [
    | inl same ↦
        let at : k ≡ place_of station (k % tids_of_station) = omega (arith, same) in
        let room : place_of station tids_of_station ≤ length w.reorderings = let within = x.within in
        let size = sound.size in omega (arith, within, size) in
        let new : reordering_at (opened station window start w) k ≡ new_reordering start window =
        ap (λ j. get_or (begun tids_of_station station window start w.reorderings) j unopened) at
        ∙ begun_here tids_of_station station window start (k % tids_of_station) w.reorderings unopened
        (omega arith) (omega arith) (omega (arith, room)) in
        let none : (reordering_at w k).stored ≡ [] = ap (λ j. (reordering_at w j).stored) at
        ∙ sound.closed station (k % tids_of_station) (omega arith) x.shut in
        h.worths k ∙ ap (λ (xs : List Stored). worth_of
        (if is_none_stored xs then None else Some (reordering_at w k).since)) none
        ∙ ap (λ (r : Reordering). worth_of (waits_since_of r)) (sym new)
    | inr differ ↦
        h.worths k
        ∙ ap (λ (r : Reordering). worth_of (waits_since_of r))
        (sym (begun_other tids_of_station station window start k w.reorderings unopened
        (λ t below e. differ (omega (arith, below, e)))))
  ];
}

pub rate_watched : (station : ℕ) (rate : Rate) (w : World) (waits : List ℕ) → IsWatched w waits →
    IsWatched (record w { rates = set w.rates station (Some rate) }) waits
rate_watched station rate w waits h = record {
  size = h.size;
  stations = let same = length-set w.rates station (Some rate) in let few = h.stations in
      omega (arith, same, few);
  early = h.early;
  since = h.since;
  worths = h.worths;
}

pub plain_opened_watched : (station : ℕ) (w : World) (waits : List ℕ) → IsWatched w waits →
    IsWatched (plain_opened station w) waits
plain_opened_watched station w waits h = record {
  size = h.size;
  stations = let same = length-set w.rates station (Some lowest_rate) in let few = h.stations in
      omega (arith, same, few);
  early = h.early;
  since = h.since;
  worths = h.worths;
}

pub tick_watched : (by : ℕ) (w : World) (waits : List ℕ) → IsWatched w waits → w.clock + by < latest →
    IsWatched (record w { clock = w.clock + by }) waits
tick_watched by w waits h early = record {
  size = h.size;
  stations = h.stations;
  early = early;
  since = λ k. let le = h.since k in omega (arith, le);
  worths = h.worths;
}

pub new_watched : (stations : ℕ) → stations ≤ 256 → IsWatched (new_world stations) (replicate 2048 0)
new_watched stations few = record {
  size = length-replicate {A = ℕ} 2048 0;
  stations = let size = length-replicate {A = Option Rate} stations None in omega (arith, size, few);
  early = lit;
  since = λ k. subst (λ (r : Reordering). r.since ≤ 0) (sym (fresh k)) (omega arith);
  worths = λ k. zeros k ∙ ap (λ (r : Reordering). worth_of (waits_since_of r)) (sym (fresh k));
}
  where
    lit : 0 < latest
    lit = omega arith

    fresh : (k : ℕ) → get_or (replicate (tids_of_station * stations) unopened) k unopened ≡ unopened
    fresh k = elim (below_2048_or_not k (tids_of_station * stations)) [
      | inl low ↦ get_or-replicate (tids_of_station * stations) k unopened unopened low
      | inr past ↦ get_or_past (replicate (tids_of_station * stations) unopened) k unopened
          (let size = length-replicate (tids_of_station * stations) unopened in omega (arith, size, past))
    ]

    zeros : (k : ℕ) → get_or {A = ℕ} (replicate 2048 0) k 0 ≡ 0
    zeros k = elim (below_2048_or_not k 2048) [
      | inl low ↦ get_or-replicate 2048 k 0 0 low
      | inr past ↦ get_or_past (replicate 2048 0) k 0
          (let size = length-replicate {A = ℕ} 2048 0 in omega (arith, size, past))
    ]

-- ---- the items, as a caller counts them

pub released_seen : (xs : List Passed) → count_by is_frame (map item_of xs) ≡ released_in xs
released_seen [] = refl
released_seen (Released id number ∷ xs) =
    let rest = released_seen xs in
    let first = sum_by-cons (λ (x : UpItem). if is_frame x then 1 else 0) (item_of (Released id number))
    (map item_of xs) in
    first ∙ omega (arith, rest)
released_seen (GivenUp from count ∷ xs) =
    let rest = released_seen xs in
    let first = sum_by-cons (λ (x : UpItem). if is_frame x then 1 else 0) (item_of (GivenUp from count))
    (map item_of xs) in
    first ∙ omega (arith, rest)

pub given_up_seen : (xs : List Passed) → sum_by missing_of (map item_of xs) ≡ given_up_in xs
given_up_seen [] = refl
given_up_seen (Released id number ∷ xs) =
    let rest = given_up_seen xs in
    let first = sum_by-cons missing_of (item_of (Released id number)) (map item_of xs) in
    first ∙ omega (arith, rest)
given_up_seen (GivenUp from count ∷ xs) =
    let rest = given_up_seen xs in
    let first = sum_by-cons missing_of (item_of (GivenUp from count)) (map item_of xs) in
    first ∙ omega (arith, rest)
