-- A chain whose frames go one after another from the front to the end.
use Rattle.std.proofs.Common.{◌≡◌, ℕ, zero, suc, ◌<◌, ◌≤◌, Bool, true, false, ◌&&◌, ◌||◌, nat_le, List, [], ◌∷◌, ◌++◌, append_assoc, drop, length, length-append, Option, Some, None, refl, sym, ap, ◌∙◌, inl, inr, arith}
use Rattle.std.specs.Prelude.{MatchOption, IsSome}
use Rattle.std.specs.List.{list_any}
use Rattle.std.proofs.lemmas.List.Folds.{list_any-append}
use Rattle.std.proofs.lemmas.Bool.{cases_lt, le-leb, lt-leb}
use Rattle.wf_frame.specs.Frames.{FrameValue}

-- a chain with frames has a first one
pub some_first : (o : Option FrameValue) (chain after : List FrameValue) →
    MatchOption o ((chain ≡ []) × (after ≡ [])) (λ p. chain ≡ p ∷ after) → 0 < length chain → IsSome o
some_first None chain after h some = absurd (omega (arith, some, ap (length {A = FrameValue}) h.0))
some_first (Some p) chain after h some = refl

pub record Turned (front rest chain0 chain : List FrameValue) : Type 0 where
  pub whole : chain0 ≡ front ++ rest
  pub turned : chain ≡ rest ++ front

pub first_is : (o : Option FrameValue) (x : FrameValue) (chain after : List FrameValue) →
    MatchOption o ((chain ≡ []) × (after ≡ [])) (λ p. chain ≡ p ∷ after) → o ≡ Some x → chain ≡ x ∷ after
first_is None x chain after h is = absurd (cc is)
first_is (Some p) x chain after h is = h ∙ ap (λ (y : FrameValue). y ∷ after) (cc is)

-- one frame more goes to the end
pub turn_more : (front rest chain0 chain after last : List FrameValue) (x : FrameValue) →
    chain0 ≡ front ++ rest → chain ≡ rest ++ front → chain ≡ x ∷ after → last ≡ after ++ x ∷ [] →
    length front < length chain0 →
    (more : List FrameValue) × (chain0 ≡ (front ++ x ∷ []) ++ more) × (last ≡ more ++ (front ++ x ∷ []))
turn_more front [] chain0 chain after last x whole turned first pushed few =
    absurd (omega (arith, few, ap (length {A = FrameValue}) whole, length-append front []))
turn_more front (y ∷ ys) chain0 chain after last x whole turned first pushed few =
    let e : y ∷ (ys ++ front) ≡ x ∷ after = sym turned ∙ first in
    let same : y ≡ x = cc e in
    let rest : ys ++ front ≡ after = cc e in (
      ys,
      whole ∙ ap (λ (z : FrameValue). front ++ z ∷ ys) same ∙ sym (append_assoc front (x ∷ []) ys),
      pushed ∙ ap (λ (l : List FrameValue). l ++ x ∷ []) (sym rest) ∙ append_assoc ys front (x ∷ []),
    )

drop_none : (n : ℕ) (xs : List FrameValue) → length xs ≤ n → drop n xs ≡ []
drop_none zero [] h = refl
drop_none zero (x ∷ xs) h = absurd (omega arith)
drop_none (suc n) [] h = refl
drop_none (suc n) (x ∷ xs) h = drop_none n xs (omega arith)

drop_more : (n : ℕ) (xs : List FrameValue) (x : FrameValue) → n ≤ length xs →
    drop n (xs ++ x ∷ []) ≡ drop n xs ++ x ∷ []
drop_more zero xs x h = refl
drop_more (suc n) [] x h = absurd (omega arith)
drop_more (suc n) (y ∷ ys) x h = drop_more n ys x (omega arith)

-- whether one of the frames after the first `skip` passes, with one frame more
pub any_more : (p : FrameValue → Bool) (skip place : ℕ) (front : List FrameValue) (x : FrameValue) →
    length front ≡ place →
    (list_any p (drop skip front) || (nat_le skip place && p x)) ≡ list_any p (drop skip (front ++ x ∷ []))
any_more p skip place front x size = elim (cases_lt place skip) [
  | inr past ↦ ap (λ (b : Bool). list_any p (drop skip front) || (b && p x)) (le-leb skip place past)
      ∙ last (list_any p (drop skip front)) (p x)
      ∙ sym (list_any-append p (drop skip front) (x ∷ []))
      ∙ sym (ap (list_any p) (drop_more skip front x (omega (arith, past, size))))
  | inl early ↦ ap (λ (b : Bool). list_any p (drop skip front) || (b && p x)) (lt-leb skip place early)
      ∙ ap (λ (l : List FrameValue). list_any p l || false)
      (drop_none skip front (omega (arith, early, size)))
      ∙ sym (ap (list_any p) (drop_none skip (front ++ x ∷ [])
      (omega (arith, early, size, length-append front (x ∷ [])))))
]
  where
    last : (a b : Bool) → (a || (true && b)) ≡ (a || (b || false))
    last true b = refl
    last false true = refl
    last false false = refl
