-- Proves which entry of a table `put` changes, and that a statement about each entry still holds after it.
use Rattle.std.proofs.Common.{◌≡◌, ◌≢◌, refl, ℕ, zero, suc, List, [], ◌∷◌}
use Rattle.wf_def_lists.specs.Table.{at, put}

pub each_put : {X : Type 0} (P : ℕ → X → Type 0) (d : X) (t : List X) (k : ℕ) (v : X) →
    ((i : ℕ) → P i (at d t i)) → P k v → (i : ℕ) → P i (at d (put d t k v) i)
each_put P d [] zero v h p zero = p
each_put P d [] zero v h p (suc i) = h (suc i)
each_put P d [] (suc k) v h p zero = h zero
each_put P d [] (suc k) v h p (suc i) = each_put (λ j. P (suc j)) d [] k v (λ j. h (suc j)) p i
each_put P d (x ∷ xs) zero v h p zero = p
each_put P d (x ∷ xs) zero v h p (suc i) = h (suc i)
each_put P d (x ∷ xs) (suc k) v h p zero = h zero
each_put P d (x ∷ xs) (suc k) v h p (suc i) = each_put (λ j. P (suc j)) d xs k v (λ j. h (suc j)) p i

pub at_put_same : {X : Type 0} (d : X) (t : List X) (k : ℕ) (v : X) → at d (put d t k v) k ≡ v
at_put_same d [] zero v = refl
at_put_same d [] (suc k) v = at_put_same d [] k v
at_put_same d (x ∷ xs) zero v = refl
at_put_same d (x ∷ xs) (suc k) v = at_put_same d xs k v

pub at_put_other : {X : Type 0} (d : X) (t : List X) (k i : ℕ) (v : X) → k ≢ i →
    at d (put d t k v) i ≡ at d t i
at_put_other d t k i v = each_put (λ j x. k ≢ j → x ≡ at d t j) d t k v (λ j _. refl)
    (λ no. absurd (no refl)) i
