-- Proves how words with spaces between them are appended to a line.
use Rattle.std.proofs.Common.{◌≡◌, ℕ, ◌+◌, ◌<◌, ◌≤◌, List, [], ◌∷◌, ◌++◌, length, take, drop, get_or, refl, sym, ◌∙◌, ap, append_assoc, append-nil, arith}
use Rattle.std.specs.Prelude.{map, sum_by}
use Rattle.std.proofs.lemmas.List.{take_more, take-append-drop, map_more}
use Rattle.std.proofs.lemmas.List.Sums.{sum_by-append}
use Rattle.std.specs.List.{join_with_byte}
use Rattle.wf_io.specs.Words.{words_text, width_of, spaced}
use Rattle.wf_io.specs.declared.line.Word.{Word}

-- a word followed by others
pub join-spaced : (word : List ℕ) (words : List (List ℕ)) →
    join_with_byte 32 (word ∷ words) ≡ word ++ spaced words
join-spaced word [] = sym (append-nil word)
join-spaced word (next ∷ words) = refl

-- words after the beginning of a line
pub line_behind : (front word : List ℕ) (words : List (List ℕ)) →
    ((front ++ word) ++ spaced words) ++ 10 ∷ [] ≡ front ++ (join_with_byte 32 (word ∷ words) ++ 10 ∷ [])
line_behind front word words = rw (join-spaced word words) (simp append_assoc)

pub spaced-append : (xs ys : List (List ℕ)) → spaced (xs ++ ys) ≡ spaced xs ++ spaced ys
spaced-append [] ys = refl
spaced-append (x ∷ xs) ys =
    ap (λ l. 32 ∷ l) (join-spaced x (xs ++ ys) ∙ ap (λ l. x ++ l) (spaced-append xs ys)
    ∙ sym (append_assoc x (spaced xs) (spaced ys)) ∙ ap (λ l. l ++ spaced ys) (sym (join-spaced x xs)))

-- one more word
pub more_words : (words : List Word) (i : ℕ) (d : Word) (front : List ℕ) → i < length words →
    ((front ++ spaced (map words_text (take i words))) ++ 32 ∷ []) ++ words_text (get_or words i d) ≡ front
    ++ spaced (map words_text (take (i + 1) words))
more_words words i d front inside =
    rw (
      map_more words_text words i d inside,
      spaced-append (map words_text (take i words))
          (words_text (get_or words i d) ∷ []),
    )
    (ap (λ l. l ++ words_text (get_or words i d))
    (append_assoc front (spaced (map words_text (take i words))) (32 ∷ []))
    ∙ append_assoc front (spaced (map words_text (take i words)) ++ 32 ∷ []) (words_text (get_or words i d))
    ∙ ap (λ l. front ++ l) (append_assoc (spaced (map words_text (take i words))) (32 ∷ [])
    (words_text (get_or words i d))))

abbrev pub widths : List Word → ℕ
widths words = sum_by (λ w. width_of w + 1) words

pub widths-more : (words : List Word) (i : ℕ) (d : Word) → i < length words →
    widths (take (i + 1) words) ≡ widths (take i words) + (width_of (get_or words i d) + 1)
widths-more words i d inside =
    ap widths (take_more words i d inside) ∙ sum_by-append (λ (w : Word). width_of w + 1) (take i words)
    (get_or words i d ∷ []) ∙ omega arith

pub widths-rest : (words : List Word) (i : ℕ) (d : Word) → i < length words →
    widths (take i words) + (width_of (get_or words i d) + 1) ≤ widths words
widths-rest words i d inside =
    let whole = ap widths (sym (take-append-drop (i + 1) words))
    ∙ sum_by-append (λ (w : Word). width_of w + 1) (take (i + 1) words) (drop (i + 1) words) in
    omega (arith, whole, widths-more words i d inside)
