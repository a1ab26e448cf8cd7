-- Proves that the record has room for the calls of all quotas.
use Rattle.std.proofs.Common.{◌≡◌, ◌≤◌, List, ℕ, sym, ◌∙◌, subst}
use Rattle.std.specs.Prelude.{sum}
use Rattle.wf_cell.specs.Cells.{calls_left_in}
use Rattle.wf_run_histories.specs.Crew.{quotas_of}
use Rattle.wf_run_histories.proofs.Quotas.{has_room}
use Rattle.wf_run_histories.proofs.live.lives.open_gate.Goals as goal

pub new-requires-clause-room : goal.new-requires-clause-room
new-requires-clause-room c =
    let same : c.as_slice.result.now ≡ quotas_of c.args.senders c.args.frames =
    c.as_slice.ensures.value ∙ c.in_ok-quotas.ensures in
    subst (λ (quotas : List ℕ). sum quotas ≤ calls_left_in c.into_cell.result.past) (sym same)
    (has_room c.args.senders c.args.frames c.into_cell.result.past c.requires.1 c.requires.2
    (c.into_cell.ensures ∙ c.in_ok-opened.ensures))
