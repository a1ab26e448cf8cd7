-- Until the first ticket is served, only the number read changes in the seat's view.
use Rattle.std.proofs.Common.{◌≡◌, ℕ, [], Option}
use Rattle.wf_gate.specs.Passes.{with_read}
use Rattle.wf_gate.proofs.turn.wait.Given as goal

abbrev pub invariant-loop : goal.invariant-loop
invariant-loop g l = (l.pass.table_id ≡ l.initial.pass.table_id) × (l.pass.id ≡ l.initial.pass.id) ×
    ((read : Option ℕ) × (l.pass.me ≡ (with_read l.initial.pass.me.0 read, [])))
