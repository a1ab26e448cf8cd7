-- Proves that no more octets can be taken than there are, and which octets several fields are together.
use Rattle.std.proofs.Common.{◌≡◌, ℕ, zero, suc, List, [], ◌∷◌, ◌++◌, length, take, min, ap, ◌∙◌, sym, arith}

take_least : {X : Type 0} → (n : ℕ) (xs : List X) → take (min n (length xs)) xs ≡ take n xs
take_least zero xs = let none : min 0 (length xs) ≡ 0 = omega arith in ap (λ k. take k xs) none
take_least (suc n) [] = let none : min (suc n) 0 ≡ 0 = omega arith in ap (λ k. take k []) none
take_least (suc n) (x ∷ xs) =
    let less : min (suc n) (suc (length xs)) ≡ suc (min n (length xs)) = omega arith in
    ap (λ k. take k (x ∷ xs)) less ∙ ap (λ l. x ∷ l) (take_least n xs)

pub take_within : {X : Type 0} → (n m : ℕ) (xs : List X) → length xs ≡ m → take (min n m) xs ≡ take n xs
take_within n m xs sized = ap (λ k. take (min n k) xs) (sym sized) ∙ take_least n xs

pub then_put : {before after front written field : List ℕ} → after ≡ before ++ written → before ≡ front →
    written ≡ field → after ≡ front ++ field
then_put {front = front} {written = written} step same is =
    step ∙ ap (λ xs. xs ++ written) same ∙ ap (λ ys. front ++ ys) is
