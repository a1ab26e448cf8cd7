-- Proves that there is room on the finished list for the frames that a station's numbers hold when it leaves.
-- By counting: they are among the frames inside.
use Rattle.std.proofs.Common.{◌≡◌, refl, ap, arith, ℕ, zero, suc, ◌+◌, ◌≤◌, not, if◌then◌else◌, List, [], ◌∷◌, length, length-append, Option, Some, None, unwrap_or}
use Rattle.std.specs.Prelude.{count_by, sum_by}
use Rattle.std.proofs.lemmas.List.Sums.{sum_by-cons}
use Rattle.wf_def_agreement.specs.Session.{Slot, State, is_settled, is_waiting}
use Rattle.wf_def_lists.specs.Table.{at, upto}
use Rattle.wf_law_rules.proofs.Lemmas.Sums.{sum_put}
use Rattle.wf_def_world.specs.World.{World, Station, Tid, no_station, no_tid, session}
use Rattle.wf_def_world.specs.Step.{waiting_ids}
use Rattle.wf_law_runs.specs.Room.{unsettled_of, in_windows_of, in_windows}
use Rattle.wf_send_half_model.specs.Leaving.{numbered_ids}
use Rattle.wf_send_half_model.proofs.Numbered.{numbered_next}

-- the sum of the first n values
sum_first : (ℕ → ℕ) → ℕ → ℕ
sum_first f zero = 0
sum_first f (suc n) = f 0 + sum_first (λ k. f (suc k)) n

first_then : (f : ℕ → ℕ) (n : ℕ) → sum_first f (suc n) ≡ sum_first f n + f n
unfolding sum_first
first_then f zero = omega arith
first_then f (suc n) = let e : sum_first (λ k. f (suc k)) (suc n) ≡ sum_first (λ k. f (suc k)) n + f (suc n) =
    first_then (λ k. f (suc k)) n in omega (arith, e)

-- a number that waits is not settled
by_state : (st : State) (id : ℕ) (ids : List ℕ) →
    length (if is_waiting st then id ∷ ids else ids) ≤ (if not (is_settled st) then 1 else 0) + length ids
by_state State.Waiting id ids = omega arith
by_state (State.Flying e) id ids = omega arith
by_state State.Acked id ids = omega arith
by_state State.Failed id ids = omega arith

few_wait : (xs : List Slot) → length (waiting_ids xs) ≤ count_by (λ x. not (is_settled x.state)) xs
few_wait [] = omega arith
few_wait (x ∷ xs) = omega (
  arith,
  by_state x.state x.id (waiting_ids xs),
  few_wait xs,
  sum_by-cons (λ (y : Slot). if not (is_settled y.state) then 1 else 0) x xs,
)

first_tids : (ys : List Tid) (n : ℕ) → sum_first (λ k. length (waiting_ids (at no_tid ys k).session.slots)) n
    ≤ sum_by unsettled_of ys
unfolding sum_first
first_tids ys zero = omega arith
first_tids [] (suc n) = omega (arith, first_tids [] n)
first_tids (y ∷ ys) (suc n) = omega (
  arith,
  few_wait y.session.slots,
  first_tids ys n,
  sum_by-cons unsettled_of y ys,
)

numbered_count : (w : World) (s t : ℕ) → length (numbered_ids w s (upto t))
    ≡ sum_first (λ k. length (waiting_ids (session w s k).slots)) t
unfolding sum_first
numbered_count w s zero = refl
numbered_count w s (suc t) =
    let f : ℕ → ℕ = λ k. length (waiting_ids (session w s k).slots) in
    omega (
      arith,
      ap (length {A = ℕ}) (numbered_next w s t),
      length-append (numbered_ids w s (upto t)) (waiting_ids (session w s t).slots),
      numbered_count w s t,
      first_then f t,
    )

of_station : (o : Option Station) → sum_by unsettled_of (unwrap_or o no_station).tids ≡ in_windows_of o
of_station None = refl
of_station (Some x) = refl

-- the frames of one station are among those of all
pub numbered_within : (w : World) (s t : ℕ) → length (numbered_ids w s (upto t)) ≤ in_windows w
numbered_within w s t =
    omega (
      arith,
      numbered_count w s t,
      first_tids (unwrap_or (at None w.stations s) no_station).tids t,
      of_station (at None w.stations s),
      sum_put in_windows_of None w.stations s None refl,
    )
