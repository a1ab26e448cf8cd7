-- The seats so far are new seats with the numbers from 0, and the first seat has the other numbers to give.
use Rattle.std.proofs.Common.{◌≡◌, ℕ, [], drop, length, vec_capacity}
use mathlib.Core.Option.{some}
use lib.ListN.{get_elem?}
use Rattle.wf_gate.specs.Turns.{opening_of, new_view, numbers_from, tail}
use Rattle.wf_gate.specs.Seats.{gate_of, new_seat}
use Rattle.wf_gate.proofs.dealing.deal.Given as goal

abbrev pub invariant-loop-i : goal.invariant-loop-i
invariant-loop-i g l =
    let o = opening_of l.shared.key in
    (l.first.table_id ≡ l.fn.first.table_id) × (l.first.me
    ≡ (new_view o (length (tail o.quotas)) (drop l.i (numbers_from 0 (tail o.quotas))), []))
    × (length l.seats.items ≡ l.i) × (vec_capacity l.seats ≡ vec_capacity l.fn.seats)
    × ((k : ℕ) (s : _) → get_elem? l.seats.items k ≡ some s →
    s ≡ new_seat (gate_of l.shared.table_id l.shared.key) k)
