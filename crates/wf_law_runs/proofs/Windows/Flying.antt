-- Proves that each number on the air is sent by an open exchange, and that a TID has at most one open
-- request, from the invariant of the agreements.
use Rattle.std.proofs.Common.{◌≡◌, ap, arith, ℕ, suc, ◌+◌, ◌<◌, ◌≤◌, Bool, true, false, if◌then◌else◌, List, [], ◌∷◌, count_by, refl}
use Rattle.wf_def_agreement.specs.Session.{State, slot}
use Rattle.wf_def_world.specs.World.{World, Exchange, session}
use Rattle.std.proofs.lemmas.List.Sums.{sum_by-cons}
use Rattle.wf_law_rules.proofs.Lemmas.Numbers.{on_bool}
use Rattle.wf_law_runs.specs.Windows.{SomeOpen, IsSending, OpenRises}
use Rattle.wf_law_runs.proofs.Windows.Opened.{Each}
use Rattle.wf_law_runs.proofs.Windows.Agreed.{IsLawful}

-- ---- numbers on the air

pub record IsFlown_by (w : World) : Type 0 where
  pub rising : OpenRises 0 w.exchanges w.opened
  pub flown : (s t n e : ℕ) → (session w s t).first ≤ n → (slot (session w s t) n).state ≡ State.Flying e →
      SomeOpen (IsSending s t e n) w.opened

pub flown_by : (w : World) → IsLawful w → IsFlown_by w
flown_by w i = record { rising = i.rising; flown = λ s t. i.sent s t refl }

-- ---- at most one open request

abbrev as_one : Bool → ℕ
as_one b = if b then 1 else 0

none_count : (p : Exchange → Bool) (xs : List Exchange) → Each (λ x. p x ≡ false) xs → count_by p xs ≡ 0
none_count p [] h = refl
none_count p (x ∷ xs) h =
    let c : count_by p (x ∷ xs) ≡ as_one (p x) + count_by p xs =
    sum_by-cons (λ (y : Exchange). if p y then 1 else 0) x xs in
    let z : as_one (p x) ≡ 0 = ap as_one h.0 in
    omega (arith, c, z, none_count p xs h.1)

none_with : (p : Exchange → Bool) (k lo hi : ℕ) (xs : List Exchange) → k < lo → OpenRises lo hi xs →
    Each (λ x. p x ≡ true → x.number ≡ k) xs → Each (λ x. p x ≡ false) xs
none_with p k lo hi [] h r e = tt
none_with p k lo hi (x ∷ xs) h r e = (
  on_bool (p x)
      (λ d. absurd (let n : x.number ≡ k = e.0 d in omega (arith, r.0))) (λ d. d),
  none_with p k (suc x.number) hi xs (omega (arith, r.0)) r.2 e.1,
)

pub one_count : (p : Exchange → Bool) (k lo hi : ℕ) (xs : List Exchange) → OpenRises lo hi xs →
    Each (λ x. p x ≡ true → x.number ≡ k) xs → count_by p xs ≤ 1
one_count p k lo hi [] r e = omega arith
one_count p k lo hi (x ∷ xs) r e =
    let c : count_by p (x ∷ xs) ≡ as_one (p x) + count_by p xs =
    sum_by-cons (λ (y : Exchange). if p y then 1 else 0) x xs in
    on_bool (p x)
    (λ d.
    let one : as_one (p x) ≡ 1 = ap as_one d in
    let n : x.number ≡ k = e.0 d in
    let rest : count_by p xs ≡ 0 = none_count p xs
    (none_with p k (suc x.number) hi xs (omega arith) r.2 e.1) in
    omega (arith, c, one, rest))
    (λ d.
    let zero_here : as_one (p x) ≡ 0 = ap as_one d in
    omega (arith, c, zero_here, one_count p k (suc x.number) hi xs r.2 e.1))
