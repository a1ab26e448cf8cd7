-- Proves that the seats have the numbers of their places and that their work is done.
use Rattle.std.proofs.Common.{◌≡◌, ℕ, sym, ◌∙◌, subst}
use Rattle.std.specs.Prelude.{All, Result, Ok, Err, IfOk}
use Rattle.wf_run_histories.specs.Crew.{CellGate, IsWorked}
use Rattle.wf_run_histories.proofs.Quotas.{new_numbers, sender_count}
use Rattle.wf_run_histories.proofs.live.lives.live.Goals as goal

-- A fact of the returned seats is a fact of the gate with its seats.
if_kept : {G S E : Type 0} {Q : S → Type 0} (P : G × S → Type 0) (r : Result (G × S) E) (gate : G)
    (seats : Result S E) →
    IfOk r (λ x. (x.0 ≡ gate) × (seats ≡ Ok x.1)) → IfOk seats Q → ((s : S) → Q s → P (gate, s)) → IfOk r P
if_kept {G} {S} {E} {Q} P (Ok x) gate seats is was more =
    subst (λ (g : G). P (g, x.1)) (sym is.0) (more x.1 (subst (λ (s : Result S E). IfOk s Q) is.1 was))
if_kept P (Err e) gate seats is was more = tt

pub returns-clause-places : goal.returns-clause-places
returns-clause-places g c =
    if_kept _ c.with_seats.result c.in_ok-gate.gate c.work-seats.result c.with_seats.ensures
    c.work-seats.ensures.places
    (λ back same. same ∙ new_numbers c.in_ok-gate.gate c.in_ok-gate.seats.items c.in_ok-gate.ensures.count
    c.in_ok-gate.ensures.seats)

pub returns-clause-worked : goal.returns-clause-worked
returns-clause-worked g c =
    let gate : CellGate = c.in_ok-gate.gate in
    let senders = sender_count c.args.senders c.args.frames gate.opening.quotas c.in_ok-gate.seats.items
    c.in_ok-gate.ensures.count c.in_ok-gate.ensures.quotas in
    if_kept _ c.with_seats.result c.in_ok-gate.gate c.work-seats.result c.with_seats.ensures
    c.work-seats.ensures.worked
    (λ back all. subst (λ (n : ℕ). All (IsWorked gate c.args.seed n c.args.frames) back.items)
    (sym senders) all)
