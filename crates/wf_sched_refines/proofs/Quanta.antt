-- Proves that a pick gives quanta to listed keys only.
use Rattle.std.proofs.Common.{◌≡◌, refl, sym, subst, arith, ℕ, ◌*◌, ◌<◌, ◌≤◌, Bool, false, inl, inr}
use Rattle.std.proofs.lemmas.Bool.{ne_eqb, cases_Bool}
use Rattle.wf_def_lists.specs.Table.{has}
use Rattle.wf_def_rotation.specs.Rotation.{Rotation, has_key, in_order, keys_before, pick}
use Rattle.wf_def_lists.specs.Lists.{on}
use Rattle.wf_law_rules.proofs.Lemmas.Counts.{on-split, on-hasnot}
use Rattle.wf_law_rules.proofs.Lemmas.Rotations.{pick_is}
use Rattle.wf_sched_refines.proofs.Once.{in_order-on, unlisted-on, listed-on}

pub unlisted_gets_none : (need : ℕ → ℕ) (ready : ℕ → Bool) (r : Rotation) (y : ℕ) → has_key r y ≡ false →
    (pick need ready r).quanta y ≡ 0
unlisted_gets_none need ready r y off = pick_is (λ p. p.quanta y ≡ 0) need ready r
    (λ _. rw off refl)
    (λ v _ _ _. rw (not_before v) refl)
    (λ v least. rw (ne_eqb y v (λ e. absurd (other v least.stands e)), off) refl)
  where
    none : on (in_order r) y ≡ 0
    none = unlisted-on r y off

    not_before : (v : ℕ) → has (keys_before v r.new) y ≡ false
    not_before v = on-hasnot (keys_before v r.new) y
        (omega (arith, none, in_order-on r y, on-split v r.new y))

    other : (v : ℕ) → 0 < on (in_order r) v → y ≡ v → ⊥
    other v stands e = let here : 0 < on (in_order r) y =
        subst (λ (z : ℕ). 0 < on (in_order r) z) (sym e) stands in omega (arith, none)

-- for a key that is listed at most once, paying its quanta for each listing is paying them once
pub gets_once : (need : ℕ → ℕ) (ready : ℕ → Bool) (r : Rotation) (y : ℕ) → on (in_order r) y ≤ 1 →
    on (in_order r) y * (pick need ready r).quanta y ≡ (pick need ready r).quanta y
gets_once need ready r y once = elim (cases_Bool (has_key r y)) [
  | inl here ↦ times_one (on (in_order r) y) _ once (listed-on r y here)
  | inr off ↦ times_none (on (in_order r) y) _ (unlisted_gets_none need ready r y off)
]
  where
    times_one : (m n : ℕ) → m ≤ 1 → 0 < m → m * n ≡ n
    times_one m n most some = let one : m ≡ 1 = omega arith in rw one (omega arith)

    times_none : (m n : ℕ) → n ≡ 0 → m * n ≡ n
    times_none m n e = rw e (omega arith)
