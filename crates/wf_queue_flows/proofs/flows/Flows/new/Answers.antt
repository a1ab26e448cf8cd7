-- Empty flow queues satisfy their invariant.
use Rattle.std.proofs.Common.{◌≡◌, ◌*◌, ◌∙◌, ap, ℕ, replicate}
use Rattle.wf_queue_flows.specs.Backlog.{held_in_backlog}
use Rattle.wf_queue_flows.proofs.Fresh.{kept_new, held_fresh}
use Rattle.wf_queue_flows.proofs.flows.Flows.new.Goals as goal

pub invariant_of-result : goal.invariant_of-result
invariant_of-result c =
    let counts : c.in_ok-queued.queued.items ≡ replicate {A = ℕ} (8 * c.args.config.stations) 0 =
    c.in_ok-queued.ensures.items_if_clones_equal (λ y e. e) in
    kept_new c.args.config c.in_ok-waiting.waiting c.in_ok-rota.rota c.in_ok-queued.queued.items c.requires
    c.in_ok-waiting.ensures c.in_ok-rota.ensures counts

pub returns-clause-empty : goal.returns-clause-empty
returns-clause-empty c = ap held_in_backlog c.in_ok-waiting.ensures ∙ held_fresh c.args.config
