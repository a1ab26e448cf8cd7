-- Proves that an aggregate that is extended frame by frame for as long as the next one fits is the
-- longest prefix that fits. The reason is that a prefix of what fits fits too. Proofs of other crates
-- use this module.
use Rattle.std.proofs.Common.{◌≡◌, refl, sym, ap, ◌∙◌, subst, arith, ℕ, zero, suc, ◌+◌, ◌-◌, ◌<◌, ◌≤◌, Bool, true, false, if◌then◌else◌, List, [], ◌∷◌, ◌++◌, append_assoc, take, map, length, inl, inr, ◌⊎◌}
use Rattle.std.specs.Prelude.{nat_le, max}
use Rattle.std.proofs.lemmas.Bool.{cases_Bool, cases_lt, and_parts, and_from, le-leb, leb-true}
use Rattle.std.proofs.lemmas.List.{length-append}
use Rattle.std.proofs.Math.Seq.{take-append_seam, take-append-add}
use Rattle.std.proofs.lemmas.List.{map-append}
use Rattle.std.proofs.Math.Nat.{le-max_left}
use Rattle.wf_def_lists.specs.Table.{greatest_upto, longest_front}
use Rattle.wf_def_air.specs.Airtime.{Rate, data_time}
use Rattle.wf_def_air.specs.Fit.{most_octets, aggregate_octets, alone_at, time_allowed, fits}
use Rattle.wf_def_air.proofs.Times.{time_less}
use Rattle.wf_def_world.specs.World.{World, Mpdu, station}
use Rattle.wf_def_world.specs.Exchanges.{most_frames, fits_in, longest_fitting}

-- the greatest number that passes is 0, or it passes
pub greatest_passes : (test : ℕ → Bool) (n : ℕ) → (greatest_upto test n ≡ 0) ⊎
    (test (greatest_upto test n) ≡ true)
greatest_passes test zero = inl refl
greatest_passes test (suc n) = elim (cases_Bool (test (suc n))) [
  | inl is ↦ subst (λ (b : Bool). ((if b then suc n else greatest_upto test n) ≡ 0) ⊎
      (test (if b then suc n else greatest_upto test n) ≡ true)) (sym is) (inr is)
  | inr fails ↦ subst (λ (b : Bool). ((if b then suc n else greatest_upto test n) ≡ 0) ⊎
      (test (if b then suc n else greatest_upto test n) ≡ true)) (sym fails) (greatest_passes test n)
]

-- no prefix passes and the result is empty, or the result passes
pub front_passes : {X : Type 0} (test : List X → Bool) (xs : List X) → (longest_front test xs ≡ []) ⊎
    (test (longest_front test xs) ≡ true)
front_passes test xs = elim (greatest_passes (λ n. test (take n xs)) (length xs)) [
  | inl none ↦ inl (ap (λ (n : ℕ). take n xs) none)
  | inr is ↦ inr is
]

greatest_is : (test : ℕ → Bool) (n k : ℕ) → k ≤ n → (k ≡ 0) ⊎ (test k ≡ true) →
    ((j : ℕ) → k < j → j ≤ n → test j ≡ false) → greatest_upto test n ≡ k
greatest_is test zero k low is others = omega (arith, low)
greatest_is test (suc n) k low is others = elim (cases_lt k (suc n)) [
  | inl less ↦
      ap (λ (b : Bool). if b then suc n else greatest_upto test n) (others (suc n) less (omega arith))
      ∙ greatest_is test n k (omega (arith, less)) is (λ j h h'. others j h (omega (arith, h')))
  | inr not_less ↦
      let e : k ≡ suc n = omega (arith, low, not_less) in
      elim is [
        | inl zero_is ↦ absurd (omega (arith, e, zero_is))
        | inr passes ↦ ap (λ (b : Bool). if b then suc n else greatest_upto test n)
            (subst (λ (i : ℕ). test i ≡ true) e passes) ∙ sym e
      ]
]

-- a test is closed if each prefix of a list that passes it passes too
unfoldable pub IsClosed : {X : Type 0} → (List X → Bool) → Type 0
IsClosed {X} test = (xs ys : List X) → test (xs ++ ys) ≡ true → test xs ≡ true

module _ {X : Type 0} (test : List X → Bool) (chosen : List X)
    (starts : (chosen ≡ []) ⊎ (test chosen ≡ true)) where
  at_front : (rest : List X) → test (take (length chosen) (chosen ++ rest)) ≡ test chosen
  at_front rest = ap test (take-append_seam chosen rest)

  starts_at : (rest : List X) → (length chosen ≡ 0) ⊎ (test (take (length chosen) (chosen ++ rest)) ≡ true)
  starts_at rest = elim starts [
    | inl none ↦ inl (ap (length {A = X}) none)
    | inr is ↦ inr (at_front rest ∙ is)
  ]

  -- the whole list was chosen
  pub front_all : longest_front test (chosen ++ []) ≡ chosen
  front_all =
      let n : length (chosen ++ []) ≡ length chosen = omega (arith, length-append chosen []) in
      ap (λ (k : ℕ). take k (chosen ++ []))
      (greatest_is (λ k. test (take k (chosen ++ []))) (length (chosen ++ [])) (length chosen)
      (omega (arith, n)) (starts_at []) (λ j h h'. absurd (omega (arith, n, h, h'))))
      ∙ take-append_seam chosen []

  -- the element after the chosen ones does not pass with them
  pub front_ends : IsClosed test → (x : X) (rest : List X) → test (chosen ++ x ∷ []) ≡ false →
      longest_front test (chosen ++ x ∷ rest) ≡ chosen
  unfolding IsClosed
  front_ends closed x rest fails =
      ap (λ (k : ℕ). take k (chosen ++ x ∷ rest))
      (greatest_is (λ k. test (take k (chosen ++ x ∷ rest))) (length (chosen ++ x ∷ rest)) (length chosen)
      (omega (arith, length-append chosen (x ∷ rest))) (starts_at (x ∷ rest)) (λ j h h'. longer j h))
      ∙ take-append_seam chosen (x ∷ rest)
    where
      longer_is : (j : ℕ) → length chosen < j → take j (chosen ++ x ∷ rest) ≡ (chosen ++ x ∷ [])
          ++ take (j - length chosen - 1) rest
      longer_is j h =
          let k : ℕ = j - length chosen - 1 in
          let e : j ≡ length chosen + suc k = omega (arith, h) in
          ap (λ (i : ℕ). take i (chosen ++ x ∷ rest)) e ∙ take-append-add chosen (x ∷ rest) (suc k)
          ∙ sym (append_assoc chosen (x ∷ []) (take k rest))

      longer : (j : ℕ) → length chosen < j → test (take j (chosen ++ x ∷ rest)) ≡ false
      longer j h = elim (cases_Bool (test (take j (chosen ++ x ∷ rest)))) [
        | inl is ↦
            let front : test (chosen ++ x ∷ []) ≡ true = closed (chosen ++ x ∷ [])
            (take (j - length chosen - 1) rest) (ap test (sym (longer_is j h)) ∙ is) in
            absurd (cc (front, fails))
        | inr is_not ↦ is_not
      ]

-- ---- the prefixes of an aggregate that fits fit too

octets_front : (xs ys : List ℕ) → aggregate_octets xs ≤ aggregate_octets (xs ++ ys)
octets_front [] ys = omega arith
octets_front (x ∷ []) [] = omega arith
octets_front (x ∷ []) (y ∷ ys) = omega arith
octets_front (x ∷ z ∷ xs) ys = omega (arith, octets_front (z ∷ xs) ys)

-- an aggregate may take at least `cap`, and at most what a frame alone may take
allowed_least : (cap alone : ℕ) (b : Bool) → cap ≤ (if b then max cap alone else cap)
allowed_least cap alone true = le-max_left cap alone
allowed_least cap alone false = omega arith

allowed_most : (cap alone : ℕ) (b : Bool) → (if b then max cap alone else cap) ≤ max cap alone
allowed_most cap alone true = omega arith
allowed_most cap alone false = le-max_left cap alone

-- what a prefix may take is at least what the whole list may take
allowed_front : (r : Rate) (cap : ℕ) (xs ys : List ℕ) → time_allowed r cap (xs ++ ys) ≤ time_allowed r cap xs
allowed_front r cap xs ys = elim (cases_Bool (nat_le (length xs) 1)) [
  | inl few ↦ subst (λ (b : Bool). time_allowed r cap (xs ++ ys) ≤ (if b then max cap (alone_at r) else cap))
      (sym few) (allowed_most cap (alone_at r) (nat_le (length (xs ++ ys)) 1))
  | inr more ↦ elim (cases_Bool (nat_le (length (xs ++ ys)) 1)) [
    | inl few ↦
        let fewer : nat_le (length xs) 1 ≡ true = le-leb (length xs) 1
        (omega (arith, leb-true (length (xs ++ ys)) 1 few, length-append xs ys)) in
        absurd (cc (fewer, more))
    | inr still ↦ subst (λ (b : Bool). (if b then max cap (alone_at r) else cap) ≤ time_allowed r cap xs)
        (sym still) (allowed_least cap (alone_at r) (nat_le (length xs) 1))
  ]
]

pub fits_closed : (r : Rate) (octets most cap : ℕ) (xs ys : List ℕ) →
    fits r octets most cap (xs ++ ys) ≡ true → fits r octets most cap xs ≡ true
fits_closed r octets most cap xs ys h =
    let few = and_parts (nat_le (length (xs ++ ys)) most) _ h in
    let rest = and_parts (nat_le (aggregate_octets (xs ++ ys)) octets) _ few.1 in
    let fewer : aggregate_octets xs ≤ aggregate_octets (xs ++ ys) = octets_front xs ys in
    and_from (nat_le (length xs) most) _ (le-leb (length xs) most
    (omega (arith, leb-true (length (xs ++ ys)) most few.0, length-append xs ys)))
    (and_from (nat_le (aggregate_octets xs) octets) _
    (le-leb (aggregate_octets xs) octets
    (omega (arith, leb-true (aggregate_octets (xs ++ ys)) octets rest.0, fewer)))
    (le-leb (data_time r (aggregate_octets xs)) (time_allowed r cap xs)
    (omega (
      arith,
      leb-true (data_time r (aggregate_octets (xs ++ ys))) (time_allowed r cap (xs ++ ys)) rest.1,
      allowed_front r cap xs ys,
      time_less r (aggregate_octets xs) (aggregate_octets (xs ++ ys)) fewer,
    ))))

-- the greatest length of an aggregate to a station, in octets
abbrev octets_to : World → ℕ → ℕ
octets_to w s = most_octets (station w s).rate (station w s).exponent (station w s).ampdu

pub fits_in_closed : (w : World) (s : ℕ) → IsClosed (fits_in w s)
unfolding IsClosed
fits_in_closed w s xs ys h =
    let longer : Mpdu → ℕ = λ m. m.len + w.config.overhead in
    fits_closed (station w s).rate (octets_to w s) (most_frames w s) w.bounds.air (map longer xs)
    (map longer ys)
    (ap (fits (station w s).rate (octets_to w s) (most_frames w s) w.bounds.air)
    (sym (map-append longer xs ys)) ∙ h)

-- ---- the prefix of the waiting numbers that is sent, extended one number at a time

-- nothing is chosen yet, or the chosen ones fit
unfoldable pub IsBegun : World → ℕ → List Mpdu → Type 0
IsBegun w s chosen = (chosen ≡ []) ⊎ (fits_in w s chosen ≡ true)

pub chosen_all : (w : World) (s : ℕ) (chosen : List Mpdu) → IsBegun w s chosen →
    longest_fitting w s (chosen ++ []) ≡ chosen
unfolding longest_fitting IsBegun
chosen_all w s chosen begun = front_all (fits_in w s) chosen begun

pub chosen_ends : (w : World) (s : ℕ) (chosen : List Mpdu) (m : Mpdu) (rest : List Mpdu) →
    IsBegun w s chosen → fits_in w s (chosen ++ m ∷ []) ≡ false →
    longest_fitting w s (chosen ++ m ∷ rest) ≡ chosen
unfolding longest_fitting IsBegun
chosen_ends w s chosen m rest begun fails = front_ends (fits_in w s) chosen begun
    (fits_in_closed w s) m rest fails
