-- Proves that the sum of the quotas fits in the cell, and that the seats of a new gate are numbered in order.
use Rattle.std.proofs.Common.{◌≡◌, ℕ, zero, suc, ◌+◌, ◌*◌, ◌-◌, ◌<◌, ◌≤◌, List, [], ◌∷◌, ◌++◌, length, map, replicate, Some, refl, ◌∙◌, ap, ap₂, length-append, arith}
use Rattle.std.specs.Prelude.{EachIndex, slice_get, sum}
use Rattle.std.proofs.lemmas.List.{length-replicate}
use Rattle.std.proofs.lemmas.List.Sums.{sum_by-cons}
use Rattle.wf_frame.specs.Settings.{standard}
use Rattle.wf_def_world.specs.Run.{Past}
use Rattle.wf_cell.specs.Cells.{calls_left_in}
use Rattle.wf_gate.specs.Turns.{numbers_from}
use Rattle.wf_gate.specs.Seats.{new_seat}
use Rattle.wf_run_histories.specs.Opening.{opening_calls}
use Rattle.wf_run_histories.proofs.Openings.{opening_length}
use Rattle.wf_run_histories.specs.Crew.{CellGate, CellSeat, driver_count, driver_quota, quotas_of}

sum_most : (n x : ℕ) (rest : List ℕ) → x ≤ 10001 → sum (replicate n x ++ rest) ≤ 10001 * n + sum rest
sum_most zero x rest few = omega arith
sum_most (suc n) x rest few =
    let one : sum (replicate (suc n) x ++ rest) ≡ x + sum (replicate n x ++ rest) =
    sum_by-cons (λ (y : ℕ). y) x (replicate n x ++ rest) in
    omega (arith, sum_most n x rest few, one, few)

-- The cell has room for all calls.
pub has_room : (senders frames : ℕ) (p : Past) → senders ≤ 8 → frames ≤ 10000 →
    p ≡ record { config = standard; history = opening_calls senders } →
    sum (quotas_of senders frames) ≤ calls_left_in p
has_room senders frames p few short is =
    let all = sum_most senders (frames + 1) (replicate driver_count driver_quota) (omega (arith, short)) in
    let drivers : sum (replicate driver_count driver_quota) ≡ 600000 = refl in
    let opened = opening_length senders in
    let room : calls_left_in p ≡ 1048576 - length (opening_calls senders) = ap calls_left_in is in
    omega (arith, all, drivers, opened, room, few)

-- There is one quota for each sender and each driver.
pub count_of : (senders frames : ℕ) → length (quotas_of senders frames) ≡ senders + driver_count
count_of senders frames =
    let all = length-append (replicate senders (frames + 1)) (replicate driver_count driver_quota) in
    let first = length-replicate senders (frames + 1) in
    let last = length-replicate driver_count driver_quota in
    omega (arith, all, first, last)

-- There are as many seats as quotas.
pub seat_count : (senders frames : ℕ) (quotas : List ℕ) (seats : List CellSeat) →
    length seats ≡ length quotas → quotas ≡ quotas_of senders frames → length seats ≡ senders + driver_count
seat_count senders frames quotas seats count is = count ∙ ap length is ∙ count_of senders frames

-- The number of senders is the number of seats without the drivers'.
pub sender_count : (senders frames : ℕ) (quotas : List ℕ) (seats : List CellSeat) →
    length seats ≡ length quotas → quotas ≡ quotas_of senders frames → senders ≡ length seats - driver_count
sender_count senders frames quotas seats count is = let all =
    seat_count senders frames quotas seats count is in omega (arith, all)

-- Each seat of a new gate has the number of its place.
numbered : (g : CellGate) (quotas : List ℕ) (seats : List CellSeat) (from : ℕ) →
    length seats ≡ length quotas → ((k : ℕ) → k < length quotas →
    slice_get seats k ≡ Some (new_seat g (from + k))) →
    map (λ (s : CellSeat). s.number) seats ≡ numbers_from from quotas
numbered g [] [] from count new = refl
numbered g (q ∷ quotas) (s ∷ seats) from count new =
    let here : s ≡ new_seat g (from + 0) = same s (new_seat g (from + 0)) (new 0 (omega arith)) in
    let first : s.number ≡ from = ap (λ (x : CellSeat). x.number) here ∙ plus_none from in
    ap₂ (λ (n : ℕ) (l : List ℕ). n ∷ l) first
    (numbered g quotas seats (suc from) (omega (arith, count))
    (λ k below. new (suc k) (omega (arith, below)) ∙ ap (λ n. Some (new_seat g n)) (moved k)))
  where
    same : (a b : CellSeat) → Some a ≡ Some b → a ≡ b
    same a b is = cc

    plus_none : (n : ℕ) → n + 0 ≡ n
    plus_none n = omega arith

    moved : (k : ℕ) → from + suc k ≡ suc from + k
    moved k = omega arith
numbered g [] (s ∷ seats) from count new = absurd (omega (arith, count))
numbered g (q ∷ quotas) [] from count new = absurd (omega (arith, count))

pub new_numbers : (g : CellGate) (seats : List CellSeat) → length seats ≡ length g.opening.quotas →
    EachIndex g.opening.quotas (λ k. slice_get seats k ≡ Some (new_seat g k)) →
    map (λ (s : CellSeat). s.number) seats ≡ numbers_from 0 g.opening.quotas
new_numbers g seats count new = numbered g g.opening.quotas seats 0 count
    (λ k below. new k below ∙ ap (λ n. Some (new_seat g n)) (none_more k))
  where
    none_more : (k : ℕ) → k ≡ 0 + k
    none_more k = omega arith
