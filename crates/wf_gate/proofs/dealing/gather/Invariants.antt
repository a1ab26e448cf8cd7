-- Each seat is still in the list, or recorded in the first seat.
use Rattle.std.proofs.Common.{◌≡◌, ◌⊎◌, ℕ, Some}
use mathlib.Core.Option.{some}
use lib.ListN.{get_elem?}
use Rattle.std.specs.Vec.{vec_len}
use Rattle.wf_gate.specs.declared.view.Stage.TheVariants.{Idle}
use Rattle.wf_gate.specs.Turns.{opening_of}
use Rattle.wf_gate.specs.Seats.{IsRecorded}
use Rattle.wf_gate.proofs.dealing.gather.Given as goal

abbrev pub invariant-loop-seat : goal.invariant-loop-seat
invariant-loop-seat g l = record {
  own : (l.first.table_id ≡ l.shared.table_id) × (l.first.me.0.opening ≡ Some (opening_of l.shared.key)) ×
      (l.first.me.0.stage ≡ Idle);
  left : (k : ℕ) (s : _) → get_elem? l.seats.items k ≡ some s → get_elem? l.fn.seats.items k ≡ some s;
  all : (k : ℕ) (s : _) → get_elem? l.fn.seats.items k ≡ some s → (get_elem? l.seats.items k ≡ some s) ⊎
      IsRecorded s l.first.me.0;
}

abbrev pub decreases-loop-seat : goal.decreases-loop-seat
decreases-loop-seat g l = vec_len l.seats
