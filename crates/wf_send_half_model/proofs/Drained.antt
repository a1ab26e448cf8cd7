-- Proves that a window holds no number when the agreement of its TID begins, or ends after its waiting
-- numbers failed: none of its numbers is on the air, because no exchange of the TID is open.
use Rattle.std.proofs.Common.{◌≡◌, ap, ap₂, ◌∙◌, refl, arith, ℕ, suc, ◌+◌, ◌-◌, ◌≤◌, ◌==◌, ◌&&◌, Bool, true, false, if◌then◌else◌, List, [], ◌∷◌, length, map, inl, inr, eq-eqb}
use Rattle.std.specs.Prelude.{count_by, nat_lt}
use Rattle.std.proofs.lemmas.Bool.Decides.{nat_tests}
use Rattle.std.proofs.lemmas.List.Sums.{sum_by-cons}
use Rattle.wf_frame.specs.Frames.{FrameValue}
use Rattle.wf_def_agreement.specs.Session.{Session, Slot, State, no_slot, slot, slot_flushed, slot_given_up, start_of, next_number, first_unsettled, numbers_where, is_waiting, is_settled, after_flush}
use Rattle.wf_def_lists.specs.Table.{at}
use Rattle.wf_def_world.specs.World.{World, Exchange, session}
use Rattle.wf_def_world.specs.Refusals.{open_of_tid, numbers_waiting}
use Rattle.wf_law_runs.specs.Windows.{IsSending, SomeOpen}
use Rattle.wf_law_runs.proofs.Windows.Law.{window_law}
use Rattle.wf_send_parts.specs.Window.{WindowValue, WindowStandsFor, is_flying}
use Rattle.wf_send_parts.proofs.Callers.{places_none}
use Rattle.wf_send_half_model.specs.Standing.{IsReached}
use Rattle.wf_send_half_model.proofs.Leavings.{flies_in}
use Rattle.wf_send_half_model.proofs.Reached.{by_law}

-- ---- lists of slots

none_at : (k : ℕ) → nat_lt 0 k ≡ false → k ≡ 0
none_at k e = grind (arith, nat_tests)

-- if no number waits or flies, all are settled
all_settled : (n : ℕ) (xs : List Slot) → ((i : ℕ) → is_flying (at no_slot xs i).state ≡ false) →
    length (numbers_where is_waiting n xs) ≡ 0 → first_unsettled n xs ≡ n + length xs
all_settled n [] lands none = omega arith
all_settled n (x ∷ xs) lands none = elim x.state as
    (λ st. is_flying st ≡ false → length (if is_waiting st then n ∷ numbers_where is_waiting (suc n) xs
    else numbers_where is_waiting (suc n) xs) ≡ 0 →
    (if is_settled st then first_unsettled (suc n) xs else n) ≡ n + suc (length xs)) [
      | State.Waiting ↦ λ _ e. absurd (omega (arith, e))
      | State.Flying exchange ↦ λ h _. absurd (cc h)
      | State.Acked ↦ λ _ e. omega (arith, all_settled (suc n) xs (λ i. lands (suc i)) e)
      | State.Failed ↦ λ _ e. omega (arith, all_settled (suc n) xs (λ i. lands (suc i)) e)
    ] (lands 0) none

-- a slot that does not fly is settled after a flush
flushed_is : (limit : ℕ) (x : Slot) → is_flying x.state ≡ false →
    is_settled (slot_flushed limit x).state ≡ true
flushed_is limit x lands = elim x.state as
    (λ st. x.state ≡ st → is_flying st ≡ false →
    is_settled (if is_waiting st then slot_given_up limit x else x).state ≡ true) [
      | State.Waiting ↦ λ _ _. refl
      | State.Flying exchange ↦ λ _ h. absurd (cc h)
      | State.Acked ↦ λ e _. ap is_settled e
      | State.Failed ↦ λ e _. ap is_settled e
    ] refl lands

-- if none flies, all are settled after a flush
all_flushed : (limit n : ℕ) (xs : List Slot) → ((i : ℕ) → is_flying (at no_slot xs i).state ≡ false) →
    first_unsettled n (map (slot_flushed limit) xs) ≡ n + length (map (slot_flushed limit) xs)
all_flushed limit n [] lands = omega arith
all_flushed limit n (x ∷ xs) lands =
    let k : first_unsettled (suc n) (map (slot_flushed limit) xs)
    ≡ suc n + length (map (slot_flushed limit) xs) =
    all_flushed limit (suc n) xs (λ i. lands (suc i)) in
    ap (λ (b : Bool). if b then first_unsettled (suc n) (map (slot_flushed limit) xs) else n)
    (flushed_is limit x (lands 0)) ∙ omega (arith, k)

-- ---- a TID with no open exchange

none_of_tid : (xs : List Exchange) (s t e n : ℕ) →
    count_by (λ x. (x.station == s) && (x.tid == t)) xs ≡ 0 → SomeOpen (IsSending s t e n) xs → ⊥
none_of_tid [] s t e n none some = some
none_of_tid (x ∷ xs) s t e n none some =
    let sum = sum_by-cons (λ (y : Exchange). if (y.station == s) && (y.tid == t) then 1 else 0) x xs in
    elim some [
      | inl here ↦
          let k : ℕ = if (x.station == s) && (x.tid == t) then 1 else 0 in
          let one : k ≡ 1 = ap₂ (λ (a b : Bool). let n : ℕ = if a && b then 1 else 0 in n)
          (eq-eqb x.station s here.station) (eq-eqb x.tid t here.tid) in
          omega (arith, sum, one, none)
      | inr behind ↦ none_of_tid xs s t e n (omega (arith, sum, none)) behind
    ]

module _ (w : World) (r : IsReached w) (s t : ℕ) (closed : nat_lt 0 (open_of_tid w s t) ≡ false) where
  abbrev y : Session
  y = session w s t

  none_flies : (n : ℕ) → y.first ≤ n → is_flying (slot y n).state ≡ false
  none_flies n from = flies_in (slot y n).state (λ e flies.
      none_of_tid w.opened s t e n (none_at (open_of_tid w s t) closed) (by_law
      (λ u. (session u s t).first ≤ n → (slot (session u s t) n).state ≡ State.Flying e →
      SomeOpen (IsSending s t e n) u.opened) w r
      (λ m. (window_law w.config r.history m).flown s t n e) from flies))

  all_land : (i : ℕ) → is_flying (at no_slot y.slots i).state ≡ false
  all_land i =
      let same : i ≡ (y.first + i) - y.first = omega arith in
      ap (λ (k : ℕ). is_flying (at no_slot y.slots k).state) same ∙ none_flies (y.first + i) (omega arith)

  -- no number is left if none waits
  pub drained : nat_lt 0 (numbers_waiting w s t) ≡ false → (x : WindowValue) (bodies : ℕ → FrameValue) →
      WindowStandsFor x y bodies → x.places ≡ []
  drained calm x bodies stands =
      let all : start_of y ≡ next_number y =
      all_settled y.first y.slots all_land (none_at (numbers_waiting w s t) calm) in
      places_none x y bodies stands (omega (arith, all))

  -- nor after the waiting ones failed
  pub drained_after : (limit : ℕ) (x : WindowValue) (bodies : ℕ → FrameValue) →
      WindowStandsFor x (after_flush limit y) bodies → x.places ≡ []
  drained_after limit x bodies stands =
      let all : start_of (after_flush limit y) ≡ next_number (after_flush limit y) =
      all_flushed limit y.first y.slots all_land in
      places_none x (after_flush limit y) bodies stands (omega (arith, all))
