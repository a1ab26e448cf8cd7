-- Proves that the first waiting place from one on is the place of the first waiting number.
use Rattle.std.proofs.Common.{◌≡◌, ℕ, zero, suc, ◌+◌, ◌-◌, ◌%◌, ◌<◌, ◌≤◌, nat_le, Bool, true, false, cond, option_map, inl, inr, if◌then◌else◌, Option, Some, None, List, [], ◌∷◌, length, get_or, refl, ap, sym, ◌∙◌, arith}
use Rattle.std.specs.List.{find}
use Rattle.std.proofs.lemmas.List.{get_or-map, get_or_past, length-map}
use Rattle.std.proofs.lemmas.Bool.{cases_lt}
use Rattle.std.proofs.lemmas.Bool.Decides.{nat_tests}
use Rattle.wf_frame.specs.Frames.{FrameValue}
use Rattle.wf_def_agreement.specs.Session.{Session, Slot, State, no_slot, start_of, next_number, is_waiting, numbers_where, waiting_numbers}
use Rattle.wf_def_lists.specs.Table.{at}
use Rattle.wf_send_parts.specs.declared.window.place.Place.{Place}
use Rattle.wf_send_parts.specs.Places.{slot_place, place_as, slot_state}
use Rattle.wf_octets.specs.Distance.{distance}
use Rattle.wf_send_parts.specs.Window.{WindowValue, WindowStandsFor, slots_from_start, waiting_from, on_air, waits, holds_parcel, attempts_of, HasFrame}
use Rattle.wf_send_parts.proofs.Fronts.{at_is, at_rest}
use Rattle.wf_send_parts.proofs.Laws.{state_place, start_of_is, ahead_number}

module _ (n : ℕ) where
  abbrev from_n : ℕ → Bool
  from_n m = nat_le n m

  find_found : (xs : List Slot) (m k : ℕ) → is_waiting (at no_slot xs k).state ≡ true → n ≤ m + k →
      ((j : ℕ) → j < k → n ≤ m + j → is_waiting (at no_slot xs j).state ≡ false) →
      find from_n (numbers_where is_waiting m xs) ≡ Some (m + k)
  find_found [] m k w above before = absurd (cc w)
  find_found (x ∷ xs) m zero w above before =
      let same : m ≡ m + 0 = omega arith in
      let passes : nat_le n m ≡ true = grind (arith, nat_tests) in
      ap (λ (b : Bool). find from_n (if b then m ∷ numbers_where is_waiting (suc m) xs
      else numbers_where is_waiting (suc m) xs)) w
      ∙ ap (λ (b : Bool). cond b (Some m) (find from_n (numbers_where is_waiting (suc m) xs))) passes
      ∙ ap (λ (i : ℕ). Some i) same
  find_found (x ∷ xs) m (suc k) w above before =
      let rest_found = find_found xs (suc m) k w (omega arith)
      (λ j low high. before (suc j) (omega arith) (omega arith)) in
      let same : suc m + k ≡ m + suc k = omega arith in
      elim (is_waiting x.state) as (λ b. is_waiting x.state ≡ b →
      find from_n (if b then m ∷ numbers_where is_waiting (suc m) xs
      else numbers_where is_waiting (suc m) xs) ≡ Some (m + suc k)) [
        | true ↦ λ e.
            let fails : nat_le n m ≡ false = behind m (λ above. before 0 (omega arith) (omega arith)) e in
            ap (λ (b : Bool). cond b (Some m) (find from_n (numbers_where is_waiting (suc m) xs))) fails
            ∙ rest_found ∙ ap (λ (i : ℕ). Some i) same
        | false ↦ λ e. rest_found ∙ ap (λ (i : ℕ). Some i) same
      ] refl
    where
      behind : (m : ℕ) → (n ≤ m → is_waiting x.state ≡ false) → is_waiting x.state ≡ true → nat_le n m ≡ false
      behind m h e = test (nat_le n m) refl
        where
          test : (b : Bool) → nat_le n m ≡ b → b ≡ false
          test true t = absurd (cc (h (grind (arith, nat_tests)), e))
          test false t = refl

  find_none : (xs : List Slot) (m : ℕ) → ((j : ℕ) → n ≤ m + j → is_waiting (at no_slot xs j).state ≡ false) →
      find from_n (numbers_where is_waiting m xs) ≡ None
  find_none [] m none = refl
  find_none (x ∷ xs) m none =
      let rest_none = find_none xs (suc m) (λ j high. none (suc j) (omega arith)) in
      elim (is_waiting x.state) as (λ b. is_waiting x.state ≡ b →
      find from_n (if b then m ∷ numbers_where is_waiting (suc m) xs
      else numbers_where is_waiting (suc m) xs) ≡ None) [
        | true ↦ λ e.
            let fails : nat_le n m ≡ false = behind m (λ above. none 0 (omega arith)) e in
            ap (λ (b : Bool). cond b (Some m) (find from_n (numbers_where is_waiting (suc m) xs))) fails
            ∙ rest_none
        | false ↦ λ e. rest_none
      ] refl
    where
      behind : (m : ℕ) → (n ≤ m → is_waiting x.state ≡ false) → is_waiting x.state ≡ true → nat_le n m ≡ false
      behind m h e = test (nat_le n m) refl
        where
          test : (b : Bool) → nat_le n m ≡ b → b ≡ false
          test true t = absurd (cc (h (grind (arith, nat_tests)), e))
          test false t = refl

-- what a place holds of its slot

pub attempts_held : (bodies : ℕ → FrameValue) (x : Slot) → holds_parcel (slot_state x) ≡ true →
    attempts_of (slot_place bodies x) ≡ x.attempts
attempts_held bodies x h = elim x.state as (λ st. holds_parcel st ≡ true →
    attempts_of (place_as st (bodies x.id) x.attempts) ≡ x.attempts) [
      | State.Waiting ↦ λ h. refl
      | State.Flying exchange ↦ λ h. refl
      | State.Acked ↦ λ h. absurd (cc h)
      | State.Failed ↦ λ h. absurd (cc h)
    ] h

pub holds_frame : (bodies : ℕ → FrameValue) (x : Slot) → holds_parcel (slot_state x) ≡ true →
    HasFrame (slot_place bodies x) (bodies x.id)
holds_frame bodies x h = elim x.state as (λ st. holds_parcel st ≡ true →
    HasFrame (place_as st (bodies x.id) x.attempts) (bodies x.id)) [
      | State.Waiting ↦ λ h. refl
      | State.Flying exchange ↦ λ h. refl
      | State.Acked ↦ λ h. absurd (cc h)
      | State.Failed ↦ λ h. absurd (cc h)
    ] h

pub frame_held : (bodies : ℕ → FrameValue) (x : Slot) (f : FrameValue) → HasFrame (slot_place bodies x) f →
    f ≡ bodies x.id
frame_held bodies x f h = elim x.state as (λ st. HasFrame (place_as st (bodies x.id) x.attempts) f →
    f ≡ bodies x.id) [
      | State.Waiting ↦ λ h. h
      | State.Flying exchange ↦ λ h. h
      | State.Acked ↦ λ h. absurd h
      | State.Failed ↦ λ h. absurd h
    ] h

module _ (w : WindowValue) (s : Session) (bodies : ℕ → FrameValue) (stands : WindowStandsFor w s bodies)
    (n : ℕ) (from : ℕ) (on_air_is : from ≡ n % 4096) (low : start_of s ≤ n) (high : n ≤ next_number s) where
  first_index : distance from w.start ≡ n - start_of s
  first_index = ahead_number (start_of s) n w.start from stands.start on_air_is low
      (omega (arith, high, stands.room, stands.small))

  -- whether a place waits, at a number
  waits_at : (m k : ℕ) → start_of s + k ≡ s.first + m →
      is_waiting (at no_slot s.slots m).state ≡ waits (get_or w.places k None)
  waits_at m k e = elim (cases_lt k (length (slots_from_start s))) [
    | inl inside ↦
        ap (λ (x : Slot). is_waiting x.state) (at_rest s.slots m k (omega (arith, e, start_of_is s))
        ∙ at_is no_slot (slots_from_start s) k)
        ∙ ap is_waiting (sym (state_place bodies (get_or (slots_from_start s) k no_slot)))
        ∙ ap waits (sym (get_or-map (slot_place bodies) (slots_from_start s) k no_slot None inside))
        ∙ ap (λ (ps : List (Option Place)). waits (get_or ps k None)) (sym stands.places)
    | inr past ↦
        ap (λ (x : Slot). is_waiting x.state) (at_rest s.slots m k (omega (arith, e, start_of_is s))
        ∙ at_is no_slot (slots_from_start s) k ∙ get_or_past (slots_from_start s) k no_slot past)
        ∙ sym (ap waits (get_or_past w.places k None (omega
        (arith, ap length stands.places, length-map (slots_from_start s) (slot_place bodies)))))
  ]

  pub waiting_found : (i : ℕ) → distance from w.start ≤ i → i < length w.places →
      waits (get_or w.places i None) ≡ true → ((k : ℕ) → distance from w.start ≤ k → k < i →
      waits (get_or w.places k None) ≡ false) →
      option_map on_air (waiting_from s n) ≡ Some ((w.start + i) % 4096)
  waiting_found i above inside found before =
      let m : ℕ = (start_of s + i) - s.first in
      let place : start_of s + i ≡ s.first + m = omega (arith, start_of_is s) in
      let number : s.first + m ≡ start_of s + i = omega (arith, place) in
      let first : find (λ (x : ℕ). nat_le n x) (waiting_numbers s) ≡ Some (s.first + m) =
      find_found n s.slots s.first m (waits_at m i place ∙ found)
      (omega (arith, above, first_index, low, place))
      (λ j below over. waits_at j ((s.first + j) - start_of s) (omega (arith, over, low))
      ∙ before ((s.first + j) - start_of s) (omega (arith, first_index, over, low))
      (omega (arith, below, place, over, low))) in
      let same : (s.first + m) % 4096 ≡ (w.start + i) % 4096 = omega (arith, number, stands.start) in
      ap (option_map on_air) first ∙ ap (λ (x : ℕ). Some x) same

  pub waiting_none : ((k : ℕ) → distance from w.start ≤ k → k < length w.places →
      waits (get_or w.places k None) ≡ false) → option_map on_air (waiting_from s n) ≡ None
  waiting_none none =
      let nothing : find (λ (x : ℕ). nat_le n x) (waiting_numbers s) ≡ None =
      find_none n s.slots s.first (λ j over. waits_at j ((s.first + j) - start_of s)
      (omega (arith, over, low)) ∙ none_there ((s.first + j) - start_of s)
      (omega (arith, first_index, over, low))) in
      ap (option_map on_air) nothing
    where
      none_there : (k : ℕ) → distance from w.start ≤ k → waits (get_or w.places k None) ≡ false
      none_there k above = elim (cases_lt k (length w.places)) [
        | inl inside ↦ none k above inside
        | inr past ↦ ap waits (get_or_past w.places k None past)
      ]
