-- Proves how the elements of a beacon are passed over one by one.
use Rattle.std.proofs.Common.{◌≡◌, refl, sym, ap, ◌∙◌, ℕ, zero, suc, ◌+◌, ◌≤◌, ◌<◌, List, [], ◌∷◌, length, take, drop, get_or, false, true, nat_eq, Option, None, arith}
use Rattle.std.proofs.lemmas.List.{drop_more, drop-drop, length-drop}
use Rattle.std.proofs.lemmas.Bool.Decides.{nat_tests}
use Rattle.wf_def_tim.specs.Tim.{tim_id}
use Rattle.wf_octets.specs.declared.tim.Tim.{Tim}
use Rattle.wf_report.specs.Frames.{tim_behind, tim_of, beacon_with, beacon_in}
use Rattle.wf_report.proofs.Heads.{not_below}
use Rattle.wf_report.proofs.Flaws.{below}

-- To leave out octets is to look at the others.
behind-drop : (n : ℕ) (xs : List ℕ) → n ≤ length xs → tim_behind n xs ≡ tim_behind 0 (drop n xs)
behind-drop zero xs few = refl
behind-drop (suc n) [] few = absurd (omega arith)
behind-drop (suc n) (x ∷ xs) few = behind-drop n xs (omega (arith, few))

none_in : (number len : ℕ) (body : List ℕ) → length body < len → tim_behind 0 (number ∷ len ∷ body) ≡ None
none_in number len body less = rw (below (length body) len less) refl

found_in : (number len : ℕ) (body : List ℕ) → len ≤ length body → nat_eq number tim_id ≡ true →
    tim_behind 0 (number ∷ len ∷ body) ≡ tim_of (take len body)
found_in number len body few is = rw (not_below len (length body) few, is) refl

passed_in : (number len : ℕ) (body : List ℕ) → len ≤ length body → nat_eq number tim_id ≡ false →
    tim_behind 0 (number ∷ len ∷ body) ≡ tim_behind 0 (drop len body)
passed_in number len body few other =
    rw (not_below len (length body) few, other) (behind-drop len body few)

-- An element in octets: its number, its length, and what follows.
module _ (xs : List ℕ) (place len : ℕ) (here : place + 2 ≤ length xs)
    (told : len ≡ get_or xs (place + 1) 0) where
  element : drop place xs ≡ get_or xs place 0 ∷ len ∷ drop (place + 2) xs
  element =
      let next : place + 1 + 1 ≡ place + 2 = omega arith in
      drop_more xs place 0 (omega (arith, here))
      ∙ ap (λ l. get_or xs place 0 ∷ l) (drop_more xs (place + 1) 0 (omega (arith, here)))
      ∙ ap (λ n. get_or xs place 0 ∷ get_or xs (place + 1) 0 ∷ drop n xs) next
      ∙ ap (λ n. get_or xs place 0 ∷ n ∷ drop (place + 2) xs) (sym told)

  -- Nothing is found in an incomplete element.
  pub incomplete : length xs < place + 2 + len → tim_behind 0 (drop place xs) ≡ None
  incomplete less = ap (tim_behind 0) element
      ∙ none_in (get_or xs place 0) len (drop (place + 2) xs)
      (omega (arith, less, here, length-drop (place + 2) xs))

  -- A complete TIM element is read.
  pub found : place + 2 + len ≤ length xs → get_or xs place 0 ≡ tim_id →
      tim_behind 0 (drop place xs) ≡ tim_of (take len (drop (place + 2) xs))
  found few is =
      let same : nat_eq (get_or xs place 0) tim_id ≡ true = grind (arith, nat_tests) in
      ap (tim_behind 0) element
      ∙ found_in (get_or xs place 0) len (drop (place + 2) xs)
      (omega (arith, few, length-drop (place + 2) xs)) same

  -- Another complete element is passed over.
  pub passed : place + 2 + len ≤ length xs → (get_or xs place 0 ≡ tim_id → ⊥) →
      tim_behind 0 (drop place xs) ≡ tim_behind 0 (drop (place + 2 + len) xs)
  passed few other =
      let differs : nat_eq (get_or xs place 0) tim_id ≡ false = grind (arith, nat_tests) in
      ap (tim_behind 0) element
      ∙ passed_in (get_or xs place 0) len (drop (place + 2) xs)
      (omega (arith, few, length-drop (place + 2) xs)) differs
      ∙ ap (tim_behind 0) (drop-drop len (place + 2) xs)

-- Fewer than two octets have no element.
short_in : (xs : List ℕ) → length xs < 2 → tim_behind 0 xs ≡ None
short_in [] less = refl
short_in (x ∷ []) less = refl
short_in (x ∷ y ∷ xs) less = absurd (omega (arith, less))

pub ended : (xs : List ℕ) (place : ℕ) → length xs < place + 2 → tim_behind 0 (drop place xs) ≡ None
ended xs place less = short_in (drop place xs) (omega (arith, less, length-drop place xs))

-- The beacon that octets are, by its TIM element.
pub beacon_is : (seq : ℕ) (octets rest : List ℕ) (found : Option Tim) → 36 ≤ length octets →
    rest ≡ drop 36 octets → found ≡ tim_behind 0 rest → beacon_with seq found ≡ beacon_in seq octets
beacon_is seq octets rest found long same is =
    rw (not_below 36 (length octets) long) (ap (beacon_with seq) (is ∙ ap (tim_behind 0) same))
