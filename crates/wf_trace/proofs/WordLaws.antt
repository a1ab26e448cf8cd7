-- Laws of the words of a line: which octets of it are its first word, and when it is skipped. By induction
-- over the octets.
use Rattle.std.proofs.Common.{◌≡◌, ◌≢◌, ℕ, zero, suc, ◌+◌, ◌-◌, ◌<◌, ◌≤◌, List, [], ◌∷◌, length, take, drop, get_or, Bool, true, false, cond, nat_eq, refl, sym, ◌∙◌, ap, add-zero, arith}
use Rattle.std.specs.Prelude.{filter, not, ◌&&◌}
use Rattle.std.proofs.lemmas.Bool.Decides.{nat_tests}
use Rattle.std.proofs.lemmas.List.{length-drop, length-take-le, get_or-drop, drop-drop, take_all, drop_all}
use Rattle.wf_trace.specs.Scanning.{begins_word}
use Rattle.wf_trace.specs.Words.{parts, in_front, words, is_word, skipped}

-- octets added at the front of the first part
abbrev ahead : List ℕ → List (List ℕ) → List (List ℕ)
ahead [] others = others
ahead (octet ∷ octets) others = in_front octet (ahead octets others)

ahead_word : (word : List ℕ) (others : List (List ℕ)) → ahead word ([] ∷ others) ≡ word ∷ others
ahead_word [] others = refl
ahead_word (octet ∷ word) others = ap (in_front octet) (ahead_word word others)

parts_at : (line : List ℕ) (n : ℕ) → n ≤ length line → ((k : ℕ) → k < n → get_or line k 0 ≢ 32) →
    parts line ≡ ahead (take n line) (parts (drop n line))
parts_at line zero within before = refl
parts_at [] (suc n) within before = absurd (omega arith)
parts_at (octet ∷ octets) (suc n) within before =
    let other = before 0 (omega arith) in
    let test : nat_eq octet 32 ≡ false = grind (arith, nat_tests) in
    let more = parts_at octets n (omega arith) (λ k below. before (suc k) (omega arith)) in
    rw test (ap (in_front octet) more)

space_or_end : (line : List ℕ) → (0 < length line → get_or line 0 0 ≡ 32) → (others : List (List ℕ)) ×
    (parts line ≡ [] ∷ others)
space_or_end [] first = ([], refl)
space_or_end (octet ∷ octets) first =
    let test : nat_eq octet 32 ≡ true = let is = first (omega arith) in grind (arith, nat_tests) in
    (parts octets, rw test refl)

first_word : (line : List ℕ) (word : List ℕ) (others : List (List ℕ)) → 0 < length word →
    filter is_word (word ∷ others) ≡ word ∷ filter is_word others
first_word line [] others some = absurd (omega arith)
first_word line (octet ∷ word) others some = refl

-- the octets up to a space or the end are a word
pub words_first : (line : List ℕ) (n : ℕ) → n ≤ length line → 0 < n →
    ((k : ℕ) → k < n → get_or line k 0 ≢ 32) →
    (n < length line → get_or line n 0 ≡ 32) → words line ≡ take n line ∷ words (drop n line)
words_first line n within some before found =
    let behind = space_or_end (drop n line) (λ more. get_or-drop n line 0 0
    ∙ rw (add-zero n) (found (omega (arith, more, length-drop n line)))) in
    let whole = parts_at line n within before ∙ ap (ahead (take n line)) behind.1
    ∙ ahead_word (take n line) behind.0 in
    rw (whole, behind.1) (first_word line (take n line) behind.0
    (omega (arith, length-take-le n line within)))

-- octets from one place of a line to a space are its first word, if those before them have no word
pub word_between : (line : List ℕ) (from to : ℕ) → words line ≡ words (drop from line) → from < to →
    to < length line → ((k : ℕ) → from ≤ k → k < to → get_or line k 0 ≢ 32) → get_or line to 0 ≡ 32 →
    words line ≡ take (to - from) (drop from line) ∷ words (drop to line)
word_between line from to same some within before found =
    let back : from + (to - from) ≡ to = omega (arith, some) in
    let behind : drop (to - from) (drop from line) ≡ drop to line =
    drop-drop (to - from) from line ∙ ap (λ (n : ℕ). drop n line) back in
    same ∙ words_first (drop from line) (to - from) (omega (arith, within, length-drop from line))
    (omega (arith, some)) (λ k below is. before (from + k) (omega arith) (omega (arith, below, some))
    (sym (get_or-drop from line k 0) ∙ is))
    (λ more. get_or-drop from line (to - from) 0 ∙ rw back found)
    ∙ ap (λ (l : List ℕ). take (to - from) (drop from line) ∷ words l)
    behind

-- octets up to the end of a line are its only word, if those before them have no word
pub word_at_end : (line : List ℕ) (from : ℕ) → words line ≡ words (drop from line) → from < length line →
    ((k : ℕ) → from ≤ k → k < length line → get_or line k 0 ≢ 32) → words line ≡ drop from line ∷ []
word_at_end line from same some before =
    let len : ℕ = length (drop from line) in
    let is_len = length-drop from line in
    same ∙ words_first (drop from line) len (omega arith) (omega (arith, is_len, some))
    (λ k below is. before (from + k) (omega arith) (omega (arith, below, is_len, some))
    (sym (get_or-drop from line k 0) ∙ is)) (λ more. absurd (omega (arith, more)))
    ∙ rw (take_all len (drop from line) (omega arith), drop_all len (drop from line) (omega arith)) refl

-- a line is not skipped if its first octet is no end of a line, no space and no #
pub says_something : (line : List ℕ) → begins_word line ≡ true → skipped (words line) ≡ false
says_something [] is = absurd (cc)
says_something (octet ∷ octets) is = first (nat_eq octet 10) (nat_eq octet 32) (nat_eq octet 35) refl refl
    (parts octets) is
  where
    first : (a b c : Bool) → nat_eq octet 32 ≡ b → nat_eq octet 35 ≡ c → (others : List (List ℕ)) →
        (not a && not b && not c) ≡ true → skipped
        (filter is_word (cond b ([] ∷ others) (in_front octet others))) ≡ false
    first true b c space hash others is = absurd (cc)
    first false true c space hash others is = absurd (cc)
    first false false true space hash others is = absurd (cc)
    first false false false space hash [] is = hash
    first false false false space hash (part ∷ others) is = hash

-- if the first octet of a line is not a space, it says whether the line is skipped
pub skipped_first : (octet : ℕ) (octets : List ℕ) → nat_eq octet 32 ≡ false →
    skipped (words (octet ∷ octets)) ≡ nat_eq octet 35
skipped_first octet octets other = rw other (by_parts (parts octets))
  where
    by_parts : (others : List (List ℕ)) → skipped (filter is_word (in_front octet others)) ≡ nat_eq octet 35
    by_parts [] = refl
    by_parts (part ∷ others) = refl
