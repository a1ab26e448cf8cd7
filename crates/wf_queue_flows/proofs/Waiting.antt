-- The number of frames in some queues, counted queue by queue.
use Rattle.std.proofs.Common.{◌≡◌, ℕ, zero, suc, ◌+◌, ◌*◌, ◌<◌, ◌≤◌, List, [], ◌∷◌, length, set, take, refl, sym, ap, ◌∙◌, subst, inl, inr, arith, add-one}
use Rattle.std.specs.Prelude.{sum_by}
use Rattle.std.proofs.lemmas.List.{get_or-set_same, get_or-set_other, get_or_past, take_all}
use Rattle.std.proofs.lemmas.List.Sums.{sum_by-cons, sum_by_more}
use Rattle.std.proofs.lemmas.Bool.{cases_eq, cases_lt}
use Rattle.std.proofs.Math.Nat.{mul-le-mul_right}
use Rattle.wf_frame.specs.Frames.{FrameValue}
use Rattle.wf_def_lists.specs.Lists.{on}
use Rattle.wf_law_rules.proofs.Lemmas.Counts.{on-nil, on-cons_same, on-cons_other}
use Rattle.wf_queue_flows.specs.Flows.{frames_waiting}
use Rattle.wf_queue_flows.specs.Kept.{depth}

waiting-cons : (all : List (List FrameValue)) (k : ℕ) (ks : List ℕ) →
    frames_waiting all (k ∷ ks) ≡ depth all k + frames_waiting all ks
waiting-cons all k ks = sum_by-cons (depth all) k ks

pub depth-set_same : (all : List (List FrameValue)) (q : ℕ) (xs : List FrameValue) → q < length all →
    depth (set all q xs) q ≡ length xs
depth-set_same all q xs low = ap length (get_or-set_same all q xs [] low)

pub depth-set_other : (all : List (List FrameValue)) (q k : ℕ) (xs : List FrameValue) → (k ≡ q → ⊥) →
    depth (set all q xs) k ≡ depth all k
depth-set_other all q k xs other = ap length (get_or-set_other all q k xs [] other)

on-at : (x y : ℕ) (xs : List ℕ) → x ≡ y → on (x ∷ xs) y ≡ 1 + on xs y
on-at x y xs e = subst (λ (z : ℕ). on (x ∷ xs) z ≡ 1 + on xs z) e (on-cons_same x xs)

-- one queue has other frames
pub waiting-set : (all : List (List FrameValue)) (q : ℕ) (xs : List FrameValue) (ks : List ℕ) →
    q < length all → frames_waiting (set all q xs) ks + on ks q * depth all q
    ≡ frames_waiting all ks + on ks q * length xs
waiting-set all q xs [] low = rw (on-nil q) (omega arith)
waiting-set all q xs (k ∷ ks) low =
    let rest : frames_waiting (set all q xs) ks + on ks q * depth all q
    ≡ frames_waiting all ks + on ks q * length xs = waiting-set all q xs ks low in
    let new : frames_waiting (set all q xs) (k ∷ ks)
    ≡ depth (set all q xs) k + frames_waiting (set all q xs) ks = waiting-cons (set all q xs) k ks in
    let old : frames_waiting all (k ∷ ks) ≡ depth all k + frames_waiting all ks = waiting-cons all k ks in
    elim (cases_eq k q) [
      | inl e ↦
          let here : depth (set all q xs) k ≡ length xs =
          ap (depth (set all q xs)) e ∙ depth-set_same all q xs low in
          let was : depth all k ≡ depth all q = ap (depth all) e in
          rw (on-at k q ks e) (omega arith)
      | inr other ↦
          let same : depth (set all q xs) k ≡ depth all k = depth-set_other all q k xs other in
          rw (on-cons_other k q ks other) (omega arith)
    ]

-- the same sum, queue by queue
spread : List (List FrameValue) → List ℕ → ℕ → ℕ
spread all ks zero = 0
spread all ks (suc n) = on ks n * depth all n + spread all ks n

spread-nil : (all : List (List FrameValue)) (n : ℕ) → spread all [] n ≡ 0
unfolding spread
spread-nil all zero = refl
spread-nil all (suc n) = rw (on-nil n) (omega (arith, spread-nil all n))

spread-past : (all : List (List FrameValue)) (n x : ℕ) (xs : List ℕ) → n ≤ x →
    spread all (x ∷ xs) n ≡ spread all xs n
unfolding spread
spread-past all zero x xs past = refl
spread-past all (suc n) x xs past =
    let apart : x ≡ n → ⊥ = λ e. omega arith in
    rw (on-cons_other x n xs apart) (omega (arith, spread-past all n x xs (omega arith)))

spread-cons : (all : List (List FrameValue)) (n x : ℕ) (xs : List ℕ) → x < n →
    spread all (x ∷ xs) n ≡ depth all x + spread all xs n
unfolding spread
spread-cons all zero x xs low = absurd (omega arith)
spread-cons all (suc n) x xs low = elim (cases_eq x n) [
  | inl e ↦
      let same : depth all x ≡ depth all n = ap (depth all) e in
      rw (on-at x n xs e) (omega (arith, spread-past all n x xs (omega arith)))
  | inr other ↦ rw (on-cons_other x n xs other) (omega (arith, spread-cons all n x xs (omega arith)))
]

waiting_is_spread : (all : List (List FrameValue)) (ks : List ℕ) →
    frames_waiting all ks ≡ spread all ks (length all)
waiting_is_spread all [] = sym (spread-nil all (length all))
waiting_is_spread all (x ∷ xs) =
    let rest : frames_waiting all xs ≡ spread all xs (length all) = waiting_is_spread all xs in
    elim (cases_lt x (length all)) [
      | inl low ↦ omega (arith, waiting-cons all x xs, spread-cons all (length all) x xs low)
      | inr past ↦
          let none : depth all x ≡ 0 = ap length (get_or_past all x [] past) in
          omega (arith, waiting-cons all x xs, spread-past all (length all) x xs past)
    ]

spread_same : (all : List (List FrameValue)) (xs ys : List ℕ) (n : ℕ) →
    ((q : ℕ) → 0 < depth all q → on xs q ≡ on ys q) → spread all xs n ≡ spread all ys n
unfolding spread
spread_same all xs ys zero same = refl
spread_same all xs ys (suc n) same =
    let rest : spread all xs n ≡ spread all ys n = spread_same all xs ys n same in
    elim (cases_lt 0 (depth all n)) [
      | inl some ↦ rw (same n some) (omega arith)
      | inr few ↦
          let none : depth all n ≡ 0 = omega arith in
          rw none (omega arith)
    ]

-- only the queues with frames count
pub waiting_same : (all : List (List FrameValue)) (xs ys : List ℕ) →
    ((q : ℕ) → 0 < depth all q → on xs q ≡ on ys q) → frames_waiting all xs ≡ frames_waiting all ys
waiting_same all xs ys same = waiting_is_spread all xs ∙ spread_same all xs ys (length all) same
    ∙ sym (waiting_is_spread all ys)

spread_few : (all : List (List FrameValue)) (ks : List ℕ) (n : ℕ) → ((q : ℕ) → on ks q ≤ 1) → n ≤ length all →
    spread all ks n ≤ sum_by length (take n all)
unfolding spread
spread_few all ks zero once low = omega arith
spread_few all ks (suc n) once low =
    let rest : spread all ks n ≤ sum_by length (take n all) = spread_few all ks n once (omega arith) in
    let more : sum_by length (take (n + 1) all) ≡ sum_by length (take n all) + depth all n =
    sum_by_more length all n [] (omega arith) in
    let one : on ks n * depth all n ≤ 1 * depth all n = mul-le-mul_right (depth all n) (once n) in
    let next : sum_by length (take (suc n) all) ≡ sum_by length (take (n + 1) all) =
    ap (λ (m : ℕ). sum_by length (take m all)) (sym (add-one n)) in
    omega arith

-- queues of which none counts twice hold at most all frames
pub waiting_few : (all : List (List FrameValue)) (ks : List ℕ) → ((q : ℕ) → on ks q ≤ 1) →
    frames_waiting all ks ≤ sum_by length all
waiting_few all ks once = omega (
  arith,
  waiting_is_spread all ks,
  spread_few all ks (length all) once (omega arith),
  ap (λ (xs : List (List FrameValue)). sum_by length xs) (take_all (length all) all (omega arith)),
)

-- a queue that counts once has at most the frames of all that count
pub depth_within : (all : List (List FrameValue)) (q : ℕ) (ks : List ℕ) → q < length all → on ks q ≡ 1 →
    depth all q ≤ frames_waiting all ks
depth_within all q ks low one = omega (arith, rw one at (waiting-set all q [] ks low))

pub none_waiting : (all : List (List FrameValue)) (q : ℕ) (ks : List ℕ) →
    ((k : ℕ) → 0 < on ks k → depth all k ≡ 0) → frames_waiting all ks ≡ 0
none_waiting all q ks empty = waiting_same all ks [] (λ k some. elim (cases_lt 0 (on ks k)) [
  | inl on_it ↦ absurd (omega (arith, empty k on_it))
  | inr off ↦ omega (arith, on-nil k)
])
