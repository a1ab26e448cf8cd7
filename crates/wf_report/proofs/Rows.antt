-- Proves laws of rows of words, and of texts that are joined from pieces.
use Rattle.std.proofs.Common.{◌≡◌, ℕ, zero, suc, Bool, true, false, cond, ◌+◌, List, [], ◌∷◌, ◌++◌, take, refl, sym, ◌∙◌, ap, append_assoc, append-nil, arith}
use Rattle.std.specs.Prelude.{map, filter, Some, slice_get}
use Rattle.std.specs.List.{join_with_byte, concat}
use Rattle.wf_def_lists.specs.Table.{count_from, upto}
use Rattle.std.proofs.lemmas.List.{map-append}
use Rattle.wf_io.specs.Words.{spaced}
use Rattle.wf_io.proofs.Spaces.{join-spaced, spaced-append}
use Rattle.wf_io.proofs.FrontLaws.{take_got}

-- One more word.
pub more_spaced : {X : Type 0} → (f : X → List ℕ) (xs : List X) (i : ℕ) (x : X) (front : List ℕ) →
    slice_get xs i ≡ Some x →
    ((front ++ spaced (map f (take i xs))) ++ 32 ∷ []) ++ f x ≡ front ++ spaced (map f (take (i + 1) xs))
more_spaced f xs i x front is =
    rw (take_got xs i x is, map-append f (take i xs) (x ∷ []), spaced-append (map f (take i xs)) (f x ∷ []))
    (ap (λ l. l ++ f x) (append_assoc front (spaced (map f (take i xs))) (32 ∷ []))
    ∙ append_assoc front (spaced (map f (take i xs)) ++ 32 ∷ []) (f x)
    ∙ ap (λ l. front ++ l) (append_assoc (spaced (map f (take i xs))) (32 ∷ []) (f x)))

pub four : (out a b c d : List ℕ) → (((out ++ a) ++ b) ++ c) ++ d ≡ out ++ (((a ++ b) ++ c) ++ d)
four out a b c d = simp append_assoc

joined_three : (word : List ℕ) (head part more : List (List ℕ)) →
    ((word ++ spaced head) ++ spaced part) ++ spaced more
    ≡ join_with_byte 32 (word ∷ (head ++ (part ++ more)))
joined_three word head part more =
    rw (join-spaced word (head ++ (part ++ more)), spaced-append head (part ++ more), spaced-append part more)
    (simp append_assoc)

-- The same as a line.
pub line_of_three : (word : List ℕ) (head part more : List (List ℕ)) →
    ((word ++ spaced head) ++ spaced part) ++ (spaced more ++ 10 ∷ [])
    ≡ join_with_byte 32 (word ∷ (head ++ (part ++ more))) ++ 10 ∷ []
line_of_three word head part more =
    sym (append_assoc ((word ++ spaced head) ++ spaced part) (spaced more) (10 ∷ []))
    ∙ ap (λ l. l ++ 10 ∷ []) (joined_three word head part more)

-- The same for four rows.
pub line_of_four : (word : List ℕ) (head part more last : List (List ℕ)) →
    ((word ++ spaced head) ++ spaced part) ++ (spaced (more ++ last) ++ 10 ∷ [])
    ≡ join_with_byte 32 (word ∷ (head ++ ((part ++ more) ++ last))) ++ 10 ∷ []
line_of_four word head part more last =
    line_of_three word head part (more ++ last)
    ∙ ap (λ ws. join_with_byte 32 (word ∷ (head ++ ws)) ++ 10 ∷ []) (sym (append_assoc part more last))

-- Two rows at the end of a line, after other text.
pub end_of_two : (out : List ℕ) (one two : List (List ℕ)) →
    (out ++ spaced one) ++ (spaced two ++ 10 ∷ []) ≡ out ++ (spaced (one ++ two) ++ 10 ∷ [])
end_of_two out one two = rw (spaced-append one two) (simp append_assoc)

-- A word and two rows, as a line after other text.
pub line_of_two : (out word : List ℕ) (head more : List (List ℕ)) →
    ((out ++ word) ++ spaced head) ++ (spaced more ++ 10 ∷ [])
    ≡ out ++ (join_with_byte 32 (word ∷ (head ++ more)) ++ 10 ∷ [])
line_of_two out word head more =
    rw (join-spaced word (head ++ more), spaced-append head more) (simp append_assoc)

-- A word and three rows, the last two of which follow one by one, as a line after other text.
pub line_of_rows : (out word : List ℕ) (head more last : List (List ℕ)) →
    ((((out ++ word) ++ spaced head) ++ spaced more) ++ spaced last) ++ 10 ∷ []
    ≡ out ++ (join_with_byte 32 (word ∷ (head ++ (more ++ last))) ++ 10 ∷ [])
line_of_rows out word head more last =
    rw (join-spaced word (head ++ (more ++ last)), spaced-append head (more ++ last), spaced-append more last)
    (simp append_assoc)

pub joined_last : (out word : List ℕ) (head : List (List ℕ)) (last : List ℕ) →
    ((out ++ (word ++ spaced head)) ++ 32 ∷ []) ++ last ≡ out
    ++ join_with_byte 32 (word ∷ (head ++ last ∷ []))
joined_last out word head last =
    rw (join-spaced word (head ++ last ∷ []), spaced-append head (last ∷ [])) (simp append_assoc)

pub three : (front a b c : List ℕ) → ((front ++ a) ++ b) ++ c ≡ front ++ ((a ++ b) ++ c)
three front a b c = simp append_assoc

-- One more piece.
pub concat-append : (xs ys : List (List ℕ)) → concat (xs ++ ys) ≡ concat xs ++ concat ys
concat-append [] ys = refl
concat-append (x ∷ xs) ys = ap (λ l. x ++ l) (concat-append xs ys)
    ∙ sym (append_assoc x (concat xs) (concat ys))

pub concat-more : {X : Type 0} → (f : X → List ℕ) (xs : List X) (x : X) (front : List ℕ) →
    (front ++ concat (map f xs)) ++ f x ≡ front ++ concat (map f (xs ++ x ∷ []))
concat-more f xs x front =
    rw (map-append f xs (x ∷ []), concat-append (map f xs) (f x ∷ []), append-nil (f x))
    (append_assoc front (concat (map f xs)) (f x))

pub four_lines : (a b c d : List ℕ) → ((a ++ b) ++ c) ++ d ≡ concat (a ∷ b ∷ c ∷ d ∷ [])
four_lines a b c d = simp (append_assoc, append-nil)

-- The numbers below n + 1.
count_from-more : (from n : ℕ) → count_from from (n + 1) ≡ count_from from n ++ (from + n) ∷ []
count_from-more from zero = let same : from ≡ from + 0 = omega arith in ap (λ k. k ∷ []) same
count_from-more from (suc n) =
    let next : suc n + 1 ≡ suc (n + 1) = omega arith in
    let last : suc from + n ≡ from + suc n = omega arith in
    rw next (ap (λ l. from ∷ l) (count_from-more (suc from) n
    ∙ ap (λ k. count_from (suc from) n ++ k ∷ []) last))

pub upto-more : (n : ℕ) → upto (n + 1) ≡ upto n ++ n ∷ []
upto-more n = count_from-more 0 n ∙ (let same : 0 + n ≡ n = omega arith in ap (λ k. upto n ++ k ∷ []) same)

pub filter-append : (p : ℕ → Bool) (xs ys : List ℕ) → filter p (xs ++ ys) ≡ filter p xs ++ filter p ys
filter-append p [] ys = refl
filter-append p (x ∷ xs) ys =
    rw (filter-append p xs ys) (elim (p x) as (λ b.
    cond b (x ∷ (filter p xs ++ filter p ys)) (filter p xs ++ filter p ys)
    ≡ cond b (x ∷ filter p xs) (filter p xs) ++ filter p ys) [ true ↦ refl | false ↦ refl ])

pub kept-more : (p : ℕ → Bool) (n : ℕ) → p n ≡ true → filter p (upto (n + 1)) ≡ filter p (upto n) ++ n ∷ []
kept-more p n is = rw (upto-more n, filter-append p (upto n) (n ∷ []), is) refl

pub kept-same : (p : ℕ → Bool) (n : ℕ) → p n ≡ false → filter p (upto (n + 1)) ≡ filter p (upto n)
kept-same p n is = rw (upto-more n, filter-append p (upto n) (n ∷ []), is) (append-nil (filter p (upto n)))
