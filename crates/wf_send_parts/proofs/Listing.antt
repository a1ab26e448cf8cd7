-- Proves that listing the waiting numbers one after the other lists each of them, in ascending order.
use Rattle.std.proofs.Common.{◌≡◌, ℕ, suc, ◌+◌, ◌-◌, ◌<◌, ◌≤◌, ◌==◌, nat_le, Bool, true, false, ◌||◌, cond, if◌then◌else◌, Option, Some, None, option_map, inl, inr, List, [], ◌∷◌, ◌++◌, length, append_assoc, refl, ap, sym, ◌∙◌, subst, arith}
use Rattle.std.specs.List.{find, filter}
use Rattle.std.proofs.lemmas.List.{append-nil}
use Rattle.std.proofs.lemmas.Bool.{cases_eq}
use Rattle.std.proofs.lemmas.Bool.Decides.{nat_tests}
use Rattle.wf_frame.specs.Frames.{FrameValue}
use Rattle.wf_def_lists.specs.Lists.{IsRising}
use Rattle.wf_def_lists.specs.Table.{at, has}
use Rattle.wf_def_agreement.specs.Session.{Session, Slot, no_slot, slot, start_of, is_settled, is_waiting, first_unsettled, numbers_where, waiting_numbers}
use Rattle.wf_octets.specs.Distance.{distance}
use Rattle.wf_send_parts.specs.Window.{WindowValue, WindowStandsFor, IsNumber, waiting_from, on_air}
use Rattle.wf_send_parts.specs.Listing.{waiting_since, HasListed, IsListedNext}
use Rattle.wf_send_parts.proofs.Laws.{ahead_number, next_is, places_length}
use Rattle.wf_send_parts.proofs.Numbers.{waiting_from_is}
use Rattle.wf_send_parts.proofs.Counting.{settled_waits}

-- the numbers of a rising list at or past n

abbrev pub since : ℕ → List ℕ → List ℕ
since n xs = filter (λ m. nat_le n m) xs

pub all_since : (xs : List ℕ) (low n : ℕ) → n ≤ low → IsRising low xs → since n xs ≡ xs
all_since [] low n h rising = refl
all_since (x ∷ xs) low n h rising =
    let passes : nat_le n x ≡ true = grind (arith, nat_tests, rising.0) in
    ap (λ (b : Bool). cond b (x ∷ since n xs) (since n xs)) passes
    ∙ ap (λ (ys : List ℕ). x ∷ ys) (all_since xs (suc x) n (omega (arith, rising.0)) rising.1)

-- r is the first number of the list at or past n
pub record IsFirst (n r : ℕ) (xs : List ℕ) : Type 0 where
  pub above : n ≤ r
  pub rest : since n xs ≡ r ∷ since (r + 1) xs

found_here : (x : ℕ) (xs : List ℕ) (low n : ℕ) → IsRising low (x ∷ xs) → nat_le n x ≡ true →
    IsFirst n x (x ∷ xs)
found_here x xs low n rising passes =
    let past : nat_le (x + 1) x ≡ false = grind (arith, nat_tests) in
    let above : n ≤ x = grind (arith, nat_tests) in
    record {
      above = above;
      rest =
          ap (λ (b : Bool). cond b (x ∷ since n xs) (since n xs)) passes
          ∙ ap (λ (ys : List ℕ). x ∷ ys) (all_since xs (suc x) n (omega (arith, above)) rising.1
          ∙ sym (all_since xs (suc x) (x + 1) (omega arith) rising.1))
          ∙ ap (λ (b : Bool). x ∷ cond b (x ∷ since (x + 1) xs) (since (x + 1) xs)) (sym past);
    }

found_later : (x : ℕ) (xs : List ℕ) (n r : ℕ) → nat_le n x ≡ false → IsFirst n r xs → IsFirst n r (x ∷ xs)
found_later x xs n r fails first =
    let past : nat_le (r + 1) x ≡ false = grind (arith, nat_tests, first.above) in
    record {
      above = first.above;
      rest =
          ap (λ (b : Bool). cond b (x ∷ since n xs) (since n xs)) fails
          ∙ first.rest
          ∙ ap (λ (b : Bool). r ∷ cond b (x ∷ since (r + 1) xs) (since (r + 1) xs)) (sym past);
    }

pub first_since : (xs : List ℕ) (low n r : ℕ) → IsRising low xs → find (λ m. nat_le n m) xs ≡ Some r →
    IsFirst n r xs
first_since [] low n r rising e = absurd (cc e)
first_since (x ∷ xs) low n r rising e = pick (nat_le n x) refl (first_since xs (suc x) n r rising.1) e
  where
    pick : (b : Bool) → nat_le n x ≡ b → (find (λ m. nat_le n m) xs ≡ Some r → IsFirst n r xs) →
        cond b (Some x) (find (λ m. nat_le n m) xs) ≡ Some r → IsFirst n r (x ∷ xs)
    pick true t later e = let same : x ≡ r = cc e in
        subst (λ (k : ℕ). IsFirst n k (x ∷ xs)) same (found_here x xs low n rising t)
    pick false t later e = found_later x xs n r t (later e)

pub none_since : (xs : List ℕ) (n : ℕ) → find (λ m. nat_le n m) xs ≡ None → since n xs ≡ []
none_since [] n e = refl
none_since (x ∷ xs) n e = pick (nat_le n x) (none_since xs n) e
  where
    pick : (b : Bool) → (find (λ m. nat_le n m) xs ≡ None → since n xs ≡ []) →
        cond b (Some x) (find (λ m. nat_le n m) xs) ≡ None → cond b (x ∷ since n xs) (since n xs) ≡ []
    pick true later e = absurd (cc e)
    pick false later e = later e

-- the waiting numbers rise

rising_lower : (xs : List ℕ) (high low : ℕ) → low ≤ high → IsRising high xs → IsRising low xs
rising_lower [] high low h rising = tt
rising_lower (x ∷ xs) high low h rising = (omega (arith, rising.0), rising.1)

pub numbers_rise : (m : ℕ) (xs : List Slot) → IsRising m (numbers_where is_waiting m xs)
numbers_rise m [] = tt
numbers_rise m (x ∷ xs) = elim (is_waiting x.state) as
    (λ b. IsRising m (if b then m ∷ numbers_where is_waiting (suc m) xs
    else numbers_where is_waiting (suc m) xs)) [
      | true ↦ (omega arith, numbers_rise (suc m) xs)
      | false ↦ rising_lower (numbers_where is_waiting (suc m) xs) (suc m) m (omega arith)
          (numbers_rise (suc m) xs)
    ]

rise_from_first : (m : ℕ) (xs : List Slot) → IsRising (first_unsettled m xs) (numbers_where is_waiting m xs)
rise_from_first m [] = tt
rise_from_first m (x ∷ xs) = elim (is_settled x.state) as
    (λ b. is_settled x.state ≡ b → IsRising (if b then first_unsettled (suc m) xs else m)
    (numbers_where is_waiting m (x ∷ xs))) [
      | true ↦ λ e.
          let P : Bool → Type 0 = λ b. IsRising (first_unsettled (suc m) xs)
          (if b then m ∷ numbers_where is_waiting (suc m) xs else numbers_where is_waiting (suc m) xs) in
          subst P (sym (settled_waits x.state e)) (rise_from_first (suc m) xs)
      | false ↦ λ _. numbers_rise m (x ∷ xs)
    ] refl

-- the waiting numbers rise from F on
pub waiting_rise : (s : Session) → IsRising (start_of s) (waiting_numbers s)
waiting_rise s = rise_from_first s.first s.slots

-- they are exactly the numbers that wait

has_low : (xs : List ℕ) (low n : ℕ) → IsRising low xs → n < low → has xs n ≡ false
has_low [] low n rising h = refl
has_low (x ∷ xs) low n rising h =
    let other : (x == n) ≡ false = grind (arith, nat_tests, rising.0) in
    ap (λ (b : Bool). b || has xs n) other ∙ has_low xs (suc x) n rising.1 (omega (arith, rising.0))

has_number : (xs : List Slot) (m n : ℕ) → m ≤ n →
    has (numbers_where is_waiting m xs) n ≡ is_waiting (at no_slot xs (n - m)).state
has_number [] m n h = refl
has_number (x ∷ xs) m n h = elim (cases_eq m n) [
  | inl same ↦
      let first : n - m ≡ 0 = omega (arith, same) in
      let here : (m == n) ≡ true = grind (arith, nat_tests, same) in
      let rest_no : has (numbers_where is_waiting (suc m) xs) n ≡ false =
      has_low (numbers_where is_waiting (suc m) xs) (suc m) n (numbers_rise (suc m) xs)
      (omega (arith, same)) in
      elim (is_waiting x.state) as (λ b. has (if b then m ∷ numbers_where is_waiting (suc m) xs
      else numbers_where is_waiting (suc m) xs) n ≡ b) [
        | true ↦ ap (λ (b : Bool). b || has (numbers_where is_waiting (suc m) xs) n) here
        | false ↦ rest_no
      ]
      ∙ ap (λ (k : ℕ). is_waiting (at no_slot (x ∷ xs) k).state) (sym first)
  | inr other ↦
      let further : n - m ≡ suc (n - suc m) = omega (arith, other) in
      let there : (m == n) ≡ false = grind (arith, nat_tests, other) in
      elim (is_waiting x.state) as (λ b. has (if b then m ∷ numbers_where is_waiting (suc m) xs
      else numbers_where is_waiting (suc m) xs) n ≡ has (numbers_where is_waiting (suc m) xs) n) [
        | true ↦ ap (λ (b : Bool). b || has (numbers_where is_waiting (suc m) xs) n) there
        | false ↦ refl
      ]
      ∙ has_number xs (suc m) n (omega (arith, other))
      ∙ ap (λ (k : ℕ). is_waiting (at no_slot (x ∷ xs) k).state) (sym further)
]

pub waiting_exactly : (s : Session) (n : ℕ) → s.first ≤ n →
    has (waiting_numbers s) n ≡ is_waiting (slot s n).state
waiting_exactly s n h = has_number s.slots s.first n h

-- the loop

module _ (w : WindowValue) (s : Session) (bodies : ℕ → FrameValue) (stands : WindowStandsFor w s bodies) where
  pub listing_begins : HasListed s [] w.start
  listing_begins =
      record {
        number = start_of s;
        on_air = stands.start;
        from_start = omega arith;
        to_next = omega (arith, next_is s);
        rest = all_since (waiting_numbers s) (start_of s) (start_of s) (omega arith) (waiting_rise s);
      }

  module _ (numbers : List ℕ) (from : ℕ) (so_far : HasListed s numbers from) where
    pub listing_near : distance from w.start ≤ length w.places
    listing_near =
        let same : distance from w.start ≡ so_far.number - start_of s =
        ahead_number (start_of s) so_far.number w.start from stands.start so_far.on_air so_far.from_start
        (omega (arith, so_far.to_next, stands.room, stands.small)) in
        omega (arith, same, so_far.from_start, so_far.to_next, places_length w s bodies stands)

module _ (s : Session) (numbers : List ℕ) (from : ℕ) (so_far : HasListed s numbers from) where
  found : (seq m : ℕ) → waiting_from s so_far.number ≡ Some m → on_air m ≡ seq → IsListedNext s numbers seq
  found seq m e same =
      let is = waiting_from_is s so_far.number m e in
      let first = first_since (waiting_numbers s) (start_of s) so_far.number m (waiting_rise s) e in
      let number : IsNumber s m seq = record {
        from_start = is.number.from_start;
        given = is.number.given;
        on_air = sym same;
      } in
      record {
        number = m;
        is_number = number;
        waits = is.waits;
        goes_on = record {
          number = m + 1;
          on_air = omega (arith, same);
          from_start = omega (arith, is.number.from_start);
          to_next = omega (arith, is.number.given);
          rest = append_assoc numbers (m ∷ []) (waiting_since s (m + 1))
              ∙ ap (λ (ns : List ℕ). numbers ++ ns) (sym first.rest) ∙ so_far.rest;
        };
      }

  pub listing_next : (seq : ℕ) → option_map on_air (waiting_from s so_far.number) ≡ Some seq →
      IsListedNext s numbers seq
  listing_next seq e = pick (waiting_from s so_far.number) refl e
    where
      pick : (o : Option ℕ) → waiting_from s so_far.number ≡ o → option_map on_air o ≡ Some seq →
          IsListedNext s numbers seq
      pick None t e = absurd (cc e)
      pick (Some m) t e = let same : on_air m ≡ seq = cc e in found seq m t same

  pub listing_ends : option_map on_air (waiting_from s so_far.number) ≡ None → numbers ≡ waiting_numbers s
  listing_ends e = pick (waiting_from s so_far.number) refl e
    where
      pick : (o : Option ℕ) → waiting_from s so_far.number ≡ o → option_map on_air o ≡ None →
          numbers ≡ waiting_numbers s
      pick (Some m) t e = absurd (cc e)
      pick None t e =
          sym (append-nil numbers) ∙ ap (λ (ns : List ℕ). numbers ++ ns)
          (sym (none_since (waiting_numbers s) so_far.number t)) ∙ so_far.rest
