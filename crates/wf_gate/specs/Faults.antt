-- Defines conditions on the reason why a `try_call` made no call.
use Rattle.std.specs.Prelude.{ℕ, ⊤}
use Rattle.wf_gate.specs.declared.tries.TryFault.{TryFault}
use Rattle.wf_gate.specs.declared.tries.TryFault.TheVariants.{Spent, Busy}

-- P holds if the quota is used up
abbrev pub IfSpent : TryFault → Type 0 → Type 0
IfSpent Spent P = P
IfSpent (Busy ticket serving) P = ⊤

-- P holds of the ticket found and the number loaded from serving, if the gate was busy
abbrev pub IfBusy : TryFault → (ℕ → ℕ → Type 0) → Type 0
IfBusy Spent P = ⊤
IfBusy (Busy ticket serving) P = P ticket serving
