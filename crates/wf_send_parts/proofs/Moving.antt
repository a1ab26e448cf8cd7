-- Proves the loop that drops the settled places at the ring's front.
use Rattle.std.proofs.Common.{◌≡◌, ℕ, ◌+◌, ◌<◌, ◌≤◌, Bool, true, false, if◌then◌else◌, Option, Some, None, unwrap_or, List, [], ◌∷◌, length, get_or, drop, refl, ap, sym, ◌∙◌, arith}
use Rattle.wf_def_agreement.specs.Session.{State, is_settled}
use Rattle.wf_send_parts.specs.declared.window.place.Place.{Place}
use Rattle.wf_send_parts.specs.declared.window.passed.Passed.{Passed}
use Rattle.wf_send_parts.specs.Ring.{RingValue}
use Rattle.wf_send_parts.specs.Places.{state_of_place, front, rest, settled_first, next_since, since_failed, next_passed, passed_over}
use Rattle.wf_send_parts.proofs.Fronts.{front_none, rest_none}

-- the ring before the loop, and the ring and the record of the numbers below it after `moved` places were
-- dropped
pub record IsMoving (all now : RingValue) (passed kept : Passed) (moved : ℕ) : Type 0 where
  pub capacity : now.capacity ≡ all.capacity
  pub rest_same : rest state_of_place now.items ≡ rest state_of_place all.items
  pub front_same : moved + length (front state_of_place now.items) ≡ length (front state_of_place all.items)
  pub kept_same : passed_over state_of_place kept (front state_of_place now.items)
      ≡ passed_over state_of_place passed (front state_of_place all.items)
  pub bounded : unwrap_or kept.due 0 + length now.items ≤ 256
  pub counted : moved + length now.items ≤ 256

pub next_since_bound : (st : State) (d : Option ℕ) → unwrap_or (next_since st d) 0 ≤ unwrap_or d 0 + 1
next_since_bound State.Failed d = omega arith
next_since_bound State.Acked None = omega arith
next_since_bound State.Acked (Some d) = omega arith
next_since_bound State.Waiting None = omega arith
next_since_bound State.Waiting (Some d) = omega arith
next_since_bound (State.Flying e) None = omega arith
next_since_bound (State.Flying e) (Some d) = omega arith

pub moving_step : (all : RingValue) (capacity : ℕ) (ps : List (Option Place)) (passed kept : Passed)
    (moved : ℕ) → 0 < length ps → is_settled (state_of_place (get_or ps 0 None)) ≡ true →
    IsMoving all (record { capacity = capacity; items = ps }) passed kept moved →
    IsMoving all (record { capacity = capacity; items = drop 1 ps }) passed
    (next_passed (state_of_place (get_or ps 0 None)) kept) (moved + 1)
moving_step all capacity [] passed kept moved some settled i = absurd (omega arith)
moving_step all capacity (p ∷ ps) passed kept moved some settled i =
    let front_is : front state_of_place (p ∷ ps) ≡ p ∷ front state_of_place ps =
    ap (λ (b : Bool). if b then p ∷ front state_of_place ps else []) settled in
    let rest_is : rest state_of_place (p ∷ ps) ≡ rest state_of_place ps =
    ap (λ (b : Bool). if b then rest state_of_place ps else p ∷ ps) settled in
    record {
      capacity = i.capacity;
      rest_same = sym rest_is ∙ i.rest_same;
      front_same = omega (arith, i.front_same, ap length front_is);
      kept_same = sym (ap (passed_over state_of_place kept) front_is) ∙ i.kept_same;
      bounded = omega (arith, i.bounded, next_since_bound (state_of_place p) kept.due);
      counted = omega (arith, i.counted);
    }

-- at the end, the first place is not settled
pub record IsMoved (all now : RingValue) (passed kept : Passed) (moved : ℕ) : Type 0 where
  pub items : now ≡ record { capacity = all.capacity; items = rest state_of_place all.items }
  pub moved_is : moved ≡ length (front state_of_place all.items)
  pub kept_is : kept ≡ passed_over state_of_place passed (front state_of_place all.items)

pub moving_end : (all now : RingValue) (passed kept : Passed) (moved : ℕ) →
    settled_first state_of_place now.items ≡ false → IsMoving all now passed kept moved →
    IsMoved all now passed kept moved
moving_end all now passed kept moved begins i =
    let none = front_none state_of_place now.items begins in
    let same : now.items ≡ rest state_of_place all.items =
    sym (rest_none state_of_place now.items begins) ∙ i.rest_same in
    record {
      items =
          ap (λ (c : ℕ). record now { capacity = c }) i.capacity
          ∙ ap (λ (ps : List (Option Place)). record now { capacity = all.capacity; items = ps }) same;
      moved_is = omega (arith, i.front_same, ap length none);
      kept_is = sym (ap (passed_over state_of_place kept) none) ∙ i.kept_same;
    }

pub begins_none : (ps : List (Option Place)) → length ps ≡ 0 → settled_first state_of_place ps ≡ false
begins_none [] h = refl
begins_none (p ∷ ps) h = absurd (omega arith)

-- the distance rises by at most one for each place that is passed
pub since_bound : (d : Option ℕ) (ps : List (Option Place)) →
    unwrap_or (since_failed state_of_place d ps) 0 ≤ unwrap_or d 0 + length ps
since_bound d [] = omega arith
since_bound d (p ∷ ps) = omega (
  arith,
  since_bound (next_since (state_of_place p) d) ps,
  next_since_bound (state_of_place p) d,
)
