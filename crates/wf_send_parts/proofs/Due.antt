-- Proves that a request is due exactly if the window has a distance, by induction over the settled numbers at
-- the front.
use Rattle.std.proofs.Common.{◌≡◌, ℕ, suc, ◌+◌, ◌-◌, ◌≤◌, nat_lt, nat_le, Bool, true, false, ◌&&◌, ◌||◌, if◌then◌else◌, Option, Some, None, is_some, List, [], ◌∷◌, length, refl, ap, sym, ◌∙◌, arith}
use Rattle.std.specs.List.{list_any}
use Rattle.std.proofs.lemmas.Bool.Decides.{nat_tests}
use Rattle.wf_def_agreement.specs.Session.{Session, Slot, State, is_settled, is_failed, numbers_where, start_of, request_due}
use Rattle.wf_send_parts.specs.Places.{slot_state, front, next_since, since_failed, at_most}
use Rattle.wf_send_parts.specs.Window.{due_distance}
use Rattle.wf_send_parts.proofs.Fronts.{start_is}

-- a distance is at least 1
abbrev IsPast : Option ℕ → Type 0
IsPast None = Unit {0}
IsPast (Some d) = 1 ≤ d

past_next : (st : State) (since : Option ℕ) → IsPast since → IsPast (next_since st since)
past_next State.Failed since h = omega arith
past_next State.Acked None h = tt
past_next State.Acked (Some d) h = omega arith
past_next State.Waiting None h = tt
past_next State.Waiting (Some d) h = omega arith
past_next (State.Flying e) None h = tt
past_next (State.Flying e) (Some d) h = omega arith

shuffle : (t a s : Bool) → (s ≡ true → t ≡ true) → (t || a) || s ≡ a || t
shuffle true true s h = refl
shuffle true false s h = refl
shuffle false true s h = refl
shuffle false false true h = sym (h refl)
shuffle false false false h = refl

some_at_most : (limit d : ℕ) → is_some (at_most limit (Some d)) ≡ nat_le d limit
some_at_most limit d = elim (nat_le d limit) as
    (λ b. is_some (if b then Some d else None) ≡ b) [ true ↦ refl | false ↦ refl ]

acked_step : (R m : ℕ) (since : Option ℕ) → IsPast since →
    is_some (at_most (m - R) since) ≡ is_some (at_most (suc m - R) (next_since State.Acked since))
acked_step R m None h = refl
acked_step R m (Some d) h =
    let same : nat_le d (m - R) ≡ nat_le (d + 1) (suc m - R) = grind (arith, nat_tests) in
    some_at_most (m - R) d ∙ same ∙ sym (some_at_most (suc m - R) (d + 1))

failed_within : (R m : ℕ) (since : Option ℕ) → IsPast since → is_some (at_most (m - R) since) ≡ true →
    nat_le R m ≡ true
failed_within R m None h k = absurd (cc)
failed_within R m (Some d) h k =
    let within : nat_le d (m - R) ≡ true = sym (some_at_most (m - R) d) ∙ k in
    grind (arith, nat_tests)

module _ (R F : ℕ) where
  abbrev test : ℕ → Bool
  test n = nat_le R n && nat_lt n F

  none_past : (xs : List Slot) (m : ℕ) → F ≤ m → list_any test (numbers_where is_failed m xs) ≡ false
  none_past [] m h = refl
  none_past (x ∷ xs) m h =
      let out : test m ≡ false = grind (arith, nat_tests) in
      elim (is_failed x.state) as (λ b. list_any test
      (if b then m ∷ numbers_where is_failed (suc m) xs else numbers_where is_failed (suc m) xs)
      ≡ false) [
        | true ↦ ap (λ (b : Bool). b || list_any test (numbers_where is_failed (suc m) xs)) out
            ∙ none_past xs (suc m) (omega arith)
        | false ↦ none_past xs (suc m) (omega arith)
      ]

  unsettled_here : (x : Slot) (xs : List Slot) (m : ℕ) (since : Option ℕ) → IsPast since → m ≡ F →
      list_any test (numbers_where is_failed (suc m) xs) || is_some (at_most (m - R) since)
      ≡ is_some (at_most (F - R) since)
  unsettled_here x xs m since h same = ap (λ (b : Bool). b || is_some (at_most (m - R) since))
      (none_past xs (suc m) (omega arith)) ∙ ap (λ (k : ℕ). is_some (at_most (k - R) since)) same

  any_failed : (xs : List Slot) (m : ℕ) (since : Option ℕ) → IsPast since →
      m + length (front slot_state xs) ≡ F → list_any test (numbers_where is_failed m xs)
      || is_some (at_most (m - R) since) ≡ is_some
      (at_most (F - R) (since_failed slot_state since (front slot_state xs)))
  any_failed [] m since h e =
      let same : m ≡ F = omega arith in
      ap (λ (k : ℕ). is_some (at_most (k - R) since)) same
  any_failed (x ∷ xs) m since h e = elim x.state as
      (λ st. x.state ≡ st → m + length (if is_settled st then x ∷ front slot_state xs else []) ≡ F →
      list_any test (if is_failed st then m ∷ numbers_where is_failed (suc m) xs
      else numbers_where is_failed (suc m) xs) || is_some (at_most (m - R) since)
      ≡ is_some (at_most (F - R) (since_failed slot_state since
      (if is_settled st then x ∷ front slot_state xs else [])))) [
        | State.Waiting ↦ λ _ e. unsettled_here x xs m since h (omega arith)
        | State.Flying exchange ↦ λ _ e. unsettled_here x xs m since h (omega arith)
        | State.Acked ↦ λ is e.
            let rest_of : Option ℕ → Bool = λ d. is_some (at_most (F - R)
            (since_failed slot_state d (front slot_state xs))) in
            ap (λ (b : Bool). list_any test (numbers_where is_failed (suc m) xs) || b)
            (acked_step R m since h)
            ∙ any_failed xs (suc m) (next_since State.Acked since) (past_next State.Acked since h)
            (omega arith)
            ∙ ap rest_of (ap (λ (st : State). next_since st since) (sym is))
        | State.Failed ↦ λ is e.
            let rest_of : Option ℕ → Bool = λ d. is_some (at_most (F - R)
            (since_failed slot_state d (front slot_state xs))) in
            let below : test m ≡ nat_le R m = grind (arith, nat_tests) in
            let told : is_some (at_most (suc m - R) (Some 1)) ≡ nat_le R m =
            some_at_most (suc m - R) 1 ∙ grind (arith, nat_tests) in
            ap (λ (b : Bool). b || list_any test (numbers_where is_failed (suc m) xs)
            || is_some (at_most (m - R) since)) below
            ∙ shuffle (nat_le R m) (list_any test (numbers_where is_failed (suc m) xs))
            (is_some (at_most (m - R) since)) (failed_within R m since h)
            ∙ ap (λ (b : Bool). list_any test (numbers_where is_failed (suc m) xs) || b) (sym told)
            ∙ any_failed xs (suc m) (Some 1) (omega arith) (omega arith)
            ∙ ap rest_of (ap (λ (st : State). next_since st since) (sym is))
      ] refl e

-- a request is due exactly if there is a distance
pub request_due_is : (s : Session) → request_due s ≡ is_some (due_distance s)
request_due_is s = or_none _ ∙ any_failed s.heard (start_of s) s.slots s.first None tt
    (sym (start_is s.first s.slots))
  where
    or_none : (b : Bool) → b ≡ b || false
    or_none true = refl
    or_none false = refl

past_since : (since : Option ℕ) (xs : List Slot) → IsPast since → IsPast (since_failed slot_state since xs)
past_since since [] h = h
past_since since (x ∷ xs) h = past_since (next_since x.state since) xs (past_next x.state since h)

none_at_zero : (d : Option ℕ) → IsPast d → is_some (at_most 0 d) ≡ false
none_at_zero None h = refl
none_at_zero (Some d) h = some_at_most 0 d ∙ grind (arith, nat_tests)

-- no request is due if the newest start was heard
pub not_due : (s : Session) → start_of s ≤ s.heard → request_due s ≡ false
not_due s told =
    let limit : start_of s - s.heard ≡ 0 = omega arith in
    request_due_is s
    ∙ ap (λ (k : ℕ). is_some (at_most k (since_failed slot_state None (front slot_state s.slots)))) limit
    ∙ none_at_zero (since_failed slot_state None (front slot_state s.slots))
    (past_since None (front slot_state s.slots) tt)
