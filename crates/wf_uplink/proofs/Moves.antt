-- Proves properties of each outcome of one reordering: B does not move back, each number that is passed is
-- reported once, and no frame is lost.
use Rattle.std.proofs.Common.{◌≡◌, ℕ, ◌+◌, ◌-◌, ◌*◌, ◌<◌, ◌≤◌, ◌==◌, ◌||◌, not, nat_lt, nat_le, Bool, true, false, List, [], ◌∷◌, ◌++◌, length, Option, Some, None, refl, ap, arith, length-append, if◌then◌else◌}
use Rattle.std.proofs.lemmas.Bool.Decides.{nat_tests}
use Rattle.wf_octets.specs.Distance.{distance}
use Rattle.wf_uplink.specs.Reordering.{Reordering, Stored, Passed, Released, GivenUp, ReorderingOutcome, number_read, is_none_stored, is_stored, with_stored, stored_from, least_stored, first_hole, gap, holes_told, moved_to, waiting, then_stored, stored_at, given_back, number_arrived, arrived, unmoved, start_arrived, requested, timed_out}
use Rattle.wf_uplink.specs.World.{released_in, count_of}
use Rattle.wf_uplink.specs.Laws.{Covers}
use Rattle.wf_uplink.specs.Soundness.{StoredFrom, ReorderingIsOrderly}
use Rattle.wf_uplink.proofs.Told.{covers_append, released_append}

-- choice by a test
pub choose : {A : Type 0} (P : A → Type 0) (b : Bool) (x y : A) → (b ≡ true → P x) → (b ≡ false → P y) →
    P (if b then x else y)
choose P true x y holds fails = holds refl
choose P false x y holds fails = fails refl

pub choose_both : {A B : Type 0} (P : A → B → Type 0) (b : Bool) (x y : A) (u v : B) → (b ≡ true → P x u) →
    (b ≡ false → P y v) → P (if b then x else y) (if b then u else v)
choose_both P true x y u v holds fails = holds refl
choose_both P false x y u v holds fails = fails refl

pub gap_covers : (from to : ℕ) → from ≤ to → Covers from to (gap from to)
gap_covers from to le =
    choose (Covers from to) (nat_lt from to) (GivenUp from (to - from) ∷ []) []
    (λ below. let lt : from < to = grind (arith, nat_tests, below) in
    (refl, omega (arith, lt), omega (arith, lt)))
    (λ above. grind (arith, nat_tests, above, le))

gap_releases : (from to : ℕ) → released_in (gap from to) ≡ 0
gap_releases from to = choose (λ (xs : List Passed). released_in xs ≡ 0) (nat_lt from to)
    (GivenUp from (to - from) ∷ []) [] (λ _. refl) (λ _. refl)

gap_length : (from to : ℕ) → length (gap from to) ≤ 1
gap_length from to = choose (λ (xs : List Passed). length xs ≤ 1) (nat_lt from to)
    (GivenUp from (to - from) ∷ []) [] (λ _. omega arith) (λ _. omega arith)

pub told_covers : (from to : ℕ) (xs : List Stored) → StoredFrom from xs → from ≤ to →
    Covers from to (holes_told from to xs)
told_covers from to [] s le = gap_covers from to le
told_covers from to (x ∷ xs) s le =
    choose (Covers from to) (nat_lt x.number to) (gap from x.number
    ++ (Released x.id x.number ∷ holes_told (x.number + 1) to xs)) (gap from to)
    (λ below. let lt : x.number + 1 ≤ to = grind (arith, nat_tests, below) in
    covers_append from x.number to (gap from x.number)
    (Released x.id x.number ∷ holes_told (x.number + 1) to xs) (gap_covers from x.number s.0)
    (refl, told_covers (x.number + 1) to xs s.1 lt))
    (λ _. gap_covers from to le)

pub told_count : (from to : ℕ) (xs : List Stored) →
    released_in (holes_told from to xs) + length (stored_from to xs) ≡ length xs
told_count from to [] = let none = gap_releases from to in omega (arith, none)
told_count from to (x ∷ xs) =
    choose_both (λ (ps : List Passed) (ys : List Stored). released_in ps + length ys ≡ length (x ∷ xs))
    (nat_lt x.number to)
    (gap from x.number ++ (Released x.id x.number ∷ holes_told (x.number + 1) to xs)) (gap from to)
    (stored_from to xs) (x ∷ xs)
    (λ _. let none = gap_releases from x.number in
    let parts = released_append (gap from x.number)
    (Released x.id x.number ∷ holes_told (x.number + 1) to xs) in
    let rest = told_count (x.number + 1) to xs in
    omega (arith, none, parts, rest))
    (λ _. let none = gap_releases from to in omega (arith, none))

pub stored_from_on : (n m : ℕ) (xs : List Stored) → StoredFrom n xs → StoredFrom m (stored_from m xs)
stored_from_on n m [] s = tt
stored_from_on n m (x ∷ xs) s =
    choose (StoredFrom m) (nat_lt x.number m) (stored_from m xs) (x ∷ xs)
    (λ _. stored_from_on (x.number + 1) m xs s.1)
    (λ above. (grind (arith, nat_tests, above), s.1))

pub hole_from : (n : ℕ) (xs : List Stored) → n ≤ first_hole n xs
hole_from n [] = omega arith
hole_from n (x ∷ xs) =
    choose (λ m. n ≤ m) (x.number == n) (first_hole (n + 1) xs) n
    (λ _. let le = hole_from (n + 1) xs in omega (arith, le)) (λ _. omega arith)

pub other_of_or : (a b : Bool) → (a || b) ≡ false → (a ≡ false) × (b ≡ false)
other_of_or false b e = (refl, e)
other_of_or true b e = absurd (grind (arith, e))

pub hole_to : (n m : ℕ) (xs : List Stored) → n ≤ m → is_stored m xs ≡ false → first_hole n xs ≤ m
hole_to n m [] le none = le
hole_to n m (x ∷ xs) le none =
    let parts = other_of_or (x.number == m) (is_stored m xs) none in
    choose (λ k. k ≤ m) (x.number == n) (first_hole (n + 1) xs) n
    (λ here. hole_to (n + 1) m xs (grind (arith, nat_tests, here, parts.0, le)) parts.1) (λ _. le)

pub none_from : (n m : ℕ) (xs : List Stored) → is_stored n xs ≡ false → is_stored n (stored_from m xs) ≡ false
none_from n m [] none = refl
none_from n m (x ∷ xs) none =
    choose (λ ys. is_stored n ys ≡ false) (nat_lt x.number m) (stored_from m xs) (x ∷ xs)
    (λ _. none_from n m xs (other_of_or (x.number == n) (is_stored n xs) none).1) (λ _. none)

pub stored_more : (b n id : ℕ) (xs : List Stored) → StoredFrom b xs → b ≤ n → is_stored n xs ≡ false →
    StoredFrom b (with_stored (record { number = n; id = id }) xs)
stored_more b n id [] s le none = (le, tt)
stored_more b n id (x ∷ xs) s le none =
    let parts = other_of_or (x.number == n) (is_stored n xs) none in
    choose (StoredFrom b) (nat_lt n x.number) (record { number = n; id = id } ∷ x ∷ xs)
    (x ∷ with_stored (record { number = n; id = id }) xs)
    (λ below. (le, (grind (arith, nat_tests, below), s.1)))
    (λ above. (
      s.0,
      stored_more (x.number + 1) n id xs s.1
          (grind (arith, nat_tests, above, parts.0)) parts.1,
    ))

pub stored_count : (new : Stored) (xs : List Stored) → length (with_stored new xs) ≡ length xs + 1
stored_count new [] = omega arith
stored_count new (x ∷ xs) =
    choose (λ (ys : List Stored). length ys ≡ length (x ∷ xs) + 1) (nat_lt new.number x.number) (new ∷ x ∷ xs)
    (x ∷ with_stored new xs) (λ _. omega arith)
    (λ _. let rest = stored_count new xs in omega (arith, rest))

-- ---- outcomes

-- the outcome reports each number that is passed, and each frame, `new` of which are new, is released, old or
-- stored
pub record IsFair (new : ℕ) (r : Reordering) (o : ReorderingOutcome) : Type 0 where
  pub told : Covers r.start o.after.start o.passed
  pub orderly : ReorderingIsOrderly o.after
  pub frames : released_in o.passed + (count_of o.old + length o.after.stored) ≡ length r.stored + new

pub moved_fair : (n : ℕ) (r : Reordering) → ReorderingIsOrderly r → r.start ≤ n → IsFair 0 r (moved_to n r)
moved_fair n r s le =
    let b : ℕ = first_hole n (stored_from n r.stored) in
    let past : r.start ≤ b = let from = hole_from n (stored_from n r.stored) in omega (arith, from, le) in
    let count = told_count r.start b r.stored in
    record {
      told = told_covers r.start b r.stored s.rising past;
      orderly = record { window = s.window; rising = stored_from_on r.start b r.stored s.rising };
      frames = omega (arith, count);
    }

waiting_fair : (new now : ℕ) (before r : Reordering) (o : ReorderingOutcome) → IsFair new r o →
    IsFair new r (waiting now before o)
waiting_fair new now before r o fair =
    choose (IsFair new r) (not (before.start == o.after.start) || is_none_stored before.stored)
    (record o { after = record o.after { since = now } }) o
    (λ _. record {
      told = fair.told;
      orderly = record {
        window = fair.orderly.window;
        rising =
            fair.orderly.rising;
      };
      frames = fair.frames;
    })
    (λ _. fair)

-- storing a number that is not below B and not stored yet
stored_fair : (n id : ℕ) (r : Reordering) (o : ReorderingOutcome) → IsFair 0 r o → o.old ≡ false →
    o.after.start ≤ n → is_stored n o.after.stored ≡ false →
    IsFair 1 r (then_stored n id o)
stored_fair n id r o fair new le none =
    let more : List Stored = with_stored (record { number = n; id = id }) o.after.stored in
    let s : Reordering = record o.after { stored = more } in
    let orderly : ReorderingIsOrderly s = record {
      window = fair.orderly.window;
      rising =
          stored_more o.after.start n id o.after.stored fair.orderly.rising le none;
    } in
    let next : IsFair 0 s (moved_to s.start s) = moved_fair s.start s orderly (omega arith) in
    let all = released_append o.passed (moved_to s.start s).passed in
    let count = stored_count (record { number = n; id = id }) o.after.stored in
    let first = fair.frames in
    let fresh : count_of o.old ≡ 0 = ap count_of new in
    let last = next.frames in
    record {
      told = covers_append r.start o.after.start (moved_to s.start s).after.start o.passed
          (moved_to s.start s).passed fair.told next.told;
      orderly = next.orderly;
      frames = omega (arith, all, count, first, fresh, last);
    }

stays_fair : (r : Reordering) → ReorderingIsOrderly r →
    IsFair 0 r (record { passed = []; old = false; after = r })
stays_fair r s = record { told = refl; orderly = s; frames = omega arith }

at_fair : (n id : ℕ) (r : Reordering) → ReorderingIsOrderly r → r.start ≤ n → is_stored n r.stored ≡ false →
    IsFair 1 r (stored_at n id r)
at_fair n id r s le none =
    choose (λ o. IsFair 1 r (then_stored n id o)) (nat_lt n (r.start + r.window))
    (record { passed = []; old = false; after = r }) (moved_to (n + 1 - r.window) r)
    (λ _. stored_fair n id r (record { passed = []; old = false; after = r }) (stays_fair r s) refl le none)
    (λ past.
    let t : ℕ = n + 1 - r.window in
    let most : t ≤ n = let some = s.window in omega (arith, some) in
    let least : r.start ≤ t = let far : r.start + r.window ≤ n = grind (arith, nat_tests, past) in
    omega (arith, far) in
    let b : ℕ = first_hole t (stored_from t r.stored) in
    stored_fair n id r (moved_to t r) (moved_fair t r s least) refl
    (hole_to t n (stored_from t r.stored) most (none_from n t r.stored none))
    (none_from n b r.stored none))

back_fair : (r : Reordering) → ReorderingIsOrderly r → IsFair 1 r (given_back r)
back_fair r s = record { told = refl; orderly = s; frames = omega arith }

number_fair : (n : Option ℕ) (id now : ℕ) (r : Reordering) → ReorderingIsOrderly r →
    ((k : ℕ) → n ≡ Some k → r.start ≤ k) → IsFair 1 r (number_arrived n id now r)
number_fair None id now r s least = back_fair r s
number_fair (Some n) id now r s least =
    choose (IsFair 1 r) (is_stored n r.stored) (given_back r) (waiting now r (stored_at n id r))
    (λ _. back_fair r s)
    (λ none. waiting_fair 1 now r r (stored_at n id r) (at_fair n id r s (least n refl) none))

read_least : (bits b k : ℕ) → number_read bits b ≡ Some k → b ≤ k
read_least bits b k = choose (λ o. o ≡ Some k → b ≤ k) (nat_le (distance bits b) 2047)
    (Some (b + distance bits b)) None (λ _ e. grind (arith, e)) (λ _ e. absurd (grind (arith, e)))

pub arrived_fair : (bits id now : ℕ) (r : Reordering) → ReorderingIsOrderly r →
    IsFair 1 r (arrived bits id now r)
arrived_fair bits id now r s = number_fair (number_read bits r.start) id now r s
    (λ k e. read_least bits r.start k e)

read_from : (n : ℕ) (now : ℕ) (r : Reordering) → ReorderingIsOrderly r →
    IsFair 0 r (start_arrived (Some n) now r)
read_from n now r s =
    choose (IsFair 0 r) (nat_lt r.start n) (waiting now r (moved_to n r)) (unmoved r)
    (λ past. let le : r.start ≤ n = grind (arith, nat_tests, past) in
    waiting_fair 0 now r r (moved_to n r) (moved_fair n r s le))
    (λ _. stays_fair r s)

start_fair : (n : Option ℕ) (now : ℕ) (r : Reordering) → ReorderingIsOrderly r →
    IsFair 0 r (start_arrived n now r)
start_fair None now r s = stays_fair r s
start_fair (Some n) now r s = read_from n now r s

pub requested_fair : (bits now : ℕ) (r : Reordering) → ReorderingIsOrderly r →
    IsFair 0 r (requested bits now r)
requested_fair bits now r s = start_fair (number_read bits r.start) now r s

least_from : (b : ℕ) (xs : List Stored) → StoredFrom b xs → b ≤ least_stored b xs
least_from b [] s = omega arith
least_from b (x ∷ xs) s = s.0

pub timed_out_fair : (now : ℕ) (r : Reordering) → ReorderingIsOrderly r → IsFair 0 r (timed_out now r)
timed_out_fair now r s =
    waiting_fair 0 now r r (moved_to (least_stored r.start r.stored) r)
    (moved_fair (least_stored r.start r.stored) r s (least_from r.start r.stored s.rising))

-- ---- the number of items

told_length : (from to : ℕ) (xs : List Stored) →
    length (holes_told from to xs) ≤ 2 * released_in (holes_told from to xs) + 1
told_length from to [] = let few = gap_length from to in omega (arith, few)
told_length from to (x ∷ xs) =
    choose (λ (ps : List Passed). length ps ≤ 2 * released_in ps + 1) (nat_lt x.number to)
    (gap from x.number ++ (Released x.id x.number ∷ holes_told (x.number + 1) to xs)) (gap from to)
    (λ _.
    let few = gap_length from x.number in
    let none = gap_releases from x.number in
    let parts = released_append (gap from x.number)
    (Released x.id x.number ∷ holes_told (x.number + 1) to xs) in
    let all = length-append (gap from x.number) (Released x.id x.number ∷ holes_told (x.number + 1) to xs) in
    let rest = told_length (x.number + 1) to xs in
    omega (arith, few, none, parts, all, rest))
    (λ _. let few = gap_length from to in omega (arith, few))

-- a move reports at most two items for each frame that it releases, and one more
pub moved_few : (n : ℕ) (r : Reordering) → length (moved_to n r).passed + length (moved_to n r).after.stored
    ≤ 2 * length r.stored + 1
moved_few n r =
    let b : ℕ = first_hole n (stored_from n r.stored) in
    let few = told_length r.start b r.stored in
    let count = told_count r.start b r.stored in
    omega (arith, few, count)
