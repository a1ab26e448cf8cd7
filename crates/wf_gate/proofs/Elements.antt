-- Proves how `get_elem?`, `slice_get` and `All` agree on the elements of a list.
use Rattle.std.proofs.Common.{◌≡◌, ℕ, zero, suc, ◌<◌, List, [], ◌∷◌, get_or, length, refl, sym, ap, subst, arith}
use Rattle.std.specs.Prelude.{All, Some, slice_get}
use mathlib.Core.Option.{some, some-injective, some-ne-none}
use lib.ListN.{get_elem?}

module _ {A : Type 0} where
  pub at_here : (xs : List A) (k : ℕ) (d : A) → k < length xs → get_elem? xs k ≡ some (get_or xs k d)
  at_here [] k d l = absurd (omega arith)
  at_here (x ∷ xs) zero d l = refl
  at_here (x ∷ xs) (suc k) d l = at_here xs k d (omega arith)

  pub or_at : (xs : List A) (k : ℕ) (x d : A) → get_elem? xs k ≡ some x → (k < length xs) ×
      (get_or xs k d ≡ x)
  or_at [] k x d e = absurd (some-ne-none x (sym e))
  or_at (y ∷ xs) zero x d e = (omega arith, some-injective y x e)
  or_at (y ∷ xs) (suc k) x d e = let r = or_at xs k x d e in ((let l = r.0 in omega arith), r.1)

  pub all_of : (P : A → Type 0) (xs : List A) → ((k : ℕ) (x : A) → get_elem? xs k ≡ some x → P x) → All P xs
  all_of P xs each k d l = each k (get_or xs k d) (at_here xs k d l)

  pub all_at : (P : A → Type 0) (xs : List A) → All P xs → (k : ℕ) (x : A) → get_elem? xs k ≡ some x → P x
  all_at P xs all k x e = let r = or_at xs k x x e in subst P r.1 (all k x r.0)

  pub get_at : (xs : List A) (k : ℕ) (x : A) → get_elem? xs k ≡ some x → slice_get xs k ≡ Some x
  get_at [] k x e = absurd (some-ne-none x (sym e))
  get_at (y ∷ xs) zero x e = ap Some (some-injective y x e)
  get_at (y ∷ xs) (suc k) x e = get_at xs k x e

  pub at_get : (xs : List A) (k : ℕ) (x : A) → slice_get xs k ≡ Some x → get_elem? xs k ≡ some x
  at_get [] k x e = absurd (cc)
  at_get (y ∷ xs) zero x e = ap some (cc)
  at_get (y ∷ xs) (suc k) x e = at_get xs k x e
