-- Proves that the list of open exchanges keeps its invariant when an exchange opens, when one ends, and when
-- one changes except its number.
use Rattle.std.proofs.Common.{◌≡◌, ◌∙◌, ℕ, zero, suc, ◌<◌, ◌≤◌, List, [], ◌∷◌, ◌++◌, length, get_or, set, map, refl, ap, sym, subst, arith, length-set}
use Rattle.std.specs.Prelude.{All}
use Rattle.std.specs.List.{remove}
use Rattle.std.proofs.lemmas.List.{length_push}
use Rattle.wf_def_lists.specs.Lists.{IsRising}
use Rattle.wf_send_parts.specs.declared.exchanges.opened.TheConstants.{MOST_OPEN}
use Rattle.wf_send_parts.specs.Kept.{AreKept}
use Rattle.wf_send_parts.proofs.Rising.{rising_push, rising_remove}

pub kept_push : {X : Type 0} (number : X → ℕ) (xs now after : List X) (y : X) (c d : ℕ) →
    AreKept number xs c → xs ≡ now →
    length now < MOST_OPEN → All (λ x. number x < number y) now → after ≡ xs ++ y ∷ [] → d ≡ c →
    AreKept number after d
kept_push number xs now after y c d kept same room above is roomy = record {
  few = omega (arith, ap length is ∙ length_push xs y, ap length same, room);
  reserved = omega (arith, kept.reserved, roomy);
  rising = subst (λ zs. IsRising 0 (map number zs)) (sym is)
      (rising_push number 0 xs y (omega arith) kept.rising
      (subst (All (λ x. number x < number y)) (sym same) above));
}

fewer : {X : Type 0} (xs : List X) (i : ℕ) → length (remove xs i) ≤ length xs
fewer [] zero = omega arith
fewer [] (suc i) = omega arith
fewer (x ∷ xs) zero = omega arith
fewer (x ∷ xs) (suc i) = omega (arith, fewer xs i)

pub kept_remove : {X : Type 0} (number : X → ℕ) (xs after : List X) (i c d : ℕ) → AreKept number xs c →
    after ≡ remove xs i →
    d ≡ c → AreKept number after d
kept_remove number xs after i c d kept is roomy = record {
  few = omega (arith, kept.few, ap length is, fewer xs i);
  reserved = omega (arith, kept.reserved, roomy);
  rising = subst (λ zs. IsRising 0 (map number zs)) (sym is) (rising_remove number 0 xs i kept.rising);
}

-- an item in whose place another of the same number is put
pub numbers_stay : {X : Type 0} (number : X → ℕ) (xs : List X) (i : ℕ) (y d : X) →
    number y ≡ number (get_or xs i d) → map number (set xs i y) ≡ map number xs
numbers_stay number [] i y d same = refl
numbers_stay number (x ∷ xs) zero y d same = ap (λ (n : ℕ). n ∷ map number xs) same
numbers_stay number (x ∷ xs) (suc i) y d same = ap (λ (ns : List ℕ). number x ∷ ns)
    (numbers_stay number xs i y d same)

pub kept_changed : {X : Type 0} (number : X → ℕ) (xs : List X) (capacity i : ℕ) (y d : X) →
    d ≡ get_or xs i d → number y ≡ number d → AreKept number xs capacity →
    AreKept number (set xs i y) capacity
kept_changed number xs capacity i y d here same ok = record {
  few = omega (arith, length-set xs i y, ok.few);
  reserved = ok.reserved;
  rising = subst (IsRising 0) (sym (numbers_stay number xs i y d (same ∙ ap number here))) ok.rising;
}
