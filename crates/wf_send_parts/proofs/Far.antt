-- Proves that a window's count of the numbers below F that are above the last acknowledged one says whether F
-- is too far to be sent again without an agreement.
use Rattle.std.proofs.Common.{◌≡◌, ℕ, suc, ◌+◌, ◌-◌, ◌≤◌, nat_le, min, if◌then◌else◌, List, [], ◌∷◌, length, refl, ap, ◌∙◌, arith}
use Rattle.std.proofs.lemmas.Bool.Decides.{nat_tests}
use Rattle.wf_frame.specs.Frames.{FrameValue}
use Rattle.wf_def_agreement.specs.Session.{Session, Slot, State, is_settled, is_acknowledged, start_of, next_number}
use Rattle.wf_def_world.specs.Exchanges.{repeat_distance, after_acked, is_far}
use Rattle.wf_send_parts.specs.Places.{slot_state, front, rest, next_unacked, since_acked}
use Rattle.wf_send_parts.specs.Window.{WindowValue, WindowStandsFor}
use Rattle.wf_send_parts.proofs.Laws.{start_of_is, next_is}

-- The settled slots at the front begin with number m. The count after them counts the numbers from `acked`
-- on, the one after the last acknowledged number.
record CountsFrom (m acked count : ℕ) (settled : List Slot) : Type 0 where
  counted : since_acked slot_state count settled ≡ min 2047 ((m + length settled) - acked)

-- one settled slot more at the front
one_settled : (x : Slot) (st : State) (m acked count : ℕ) (settled : List Slot) → x.state ≡ st →
    CountsFrom (suc m) acked (next_unacked st count) settled → CountsFrom m acked count (x ∷ settled)
one_settled x st m acked count settled is c =
    let same : min 2047 ((suc m + length settled) - acked) ≡ min 2047 ((m + suc (length settled)) - acked) =
    omega arith in
    record {
      counted =
          ap (λ (s : State). since_acked slot_state (next_unacked s count) settled) is ∙ c.counted ∙ same;
    }

-- the first slot is not settled, and it is the last one
none_settled : (x : Slot) (xs : List Slot) (next m count : ℕ) → count ≡ min 2047 (m - next) →
    length (x ∷ xs) ≤ 1 → CountsFrom m (after_acked next (suc m) xs) count []
none_settled x [] next m count is one = record { counted = omega (arith, is) }
none_settled x (y ∷ ys) next m count is one = absurd (omega (arith, one))

-- by induction over the slots, of which at most the last one is not settled
count_is : (xs : List Slot) (next m count : ℕ) → next ≤ m → count ≡ min 2047 (m - next) →
    length (rest slot_state xs) ≤ 1 → CountsFrom m (after_acked next m xs) count (front slot_state xs)
count_is [] next m count low is one = record { counted = omega (arith, is) }
count_is (x ∷ xs) next m count low is one = elim x.state as
    (λ st. x.state ≡ st → length (if is_settled st then rest slot_state xs else x ∷ xs) ≤ 1 →
    CountsFrom m (after_acked (if is_acknowledged st then suc m else next) (suc m) xs) count
    (if is_settled st then x ∷ front slot_state xs else [])) [
      | State.Waiting ↦ λ _ one. none_settled x xs next m count is one
      | State.Flying exchange ↦ λ _ one. none_settled x xs next m count is one
      | State.Acked ↦ λ e one. one_settled x State.Acked m _ count (front slot_state xs) e
          (count_is xs (suc m) (suc m) 0 (omega arith) (omega arith) one)
      | State.Failed ↦ λ e one. one_settled x State.Failed m _ count (front slot_state xs) e
          (count_is xs next (suc m) (min 2047 (count + 1)) (omega (arith, low)) (omega (arith, low, is)) one)
    ] refl one

far_test : (count acked start : ℕ) → count ≡ min 2047 (start - acked) →
    nat_le 2047 count ≡ nat_le (acked + 2047) start
far_test count acked start is = grind (arith, nat_tests)

-- whether F is too far, if no number above F is given
pub far_is : (w : WindowValue) (s : Session) (bodies : ℕ → FrameValue) → WindowStandsFor w s bodies →
    next_number s ≤ suc (start_of s) → nat_le repeat_distance w.unacked ≡ is_far s (start_of s)
far_is w s bodies stands one =
    let c : CountsFrom s.first (after_acked s.first s.first s.slots) 0 (front slot_state s.slots) =
    count_is s.slots s.first s.first 0 (omega arith) (omega arith) (omega (arith, next_is s, one)) in
    far_test w.unacked (after_acked s.first s.first s.slots) (start_of s)
    (stands.unacked ∙ c.counted ∙ ap (λ (n : ℕ). min 2047 (n - after_acked s.first s.first s.slots))
    (let e : s.first + length (front slot_state s.slots) ≡ start_of s = omega (arith, start_of_is s) in e))
