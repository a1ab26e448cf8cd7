-- The queue is emptied, and its CoDel state becomes new, but keeps its number of drops.
use Rattle.std.proofs.Common.{◌≡◌, ◌<◌, [], length, length-set, set, ap, ◌∙◌, arith}
use Rattle.std.proofs.lemmas.List.{get_or_default}
use Rattle.wf_frame.specs.declared.classes.Cause.TheVariants.{Left}
use Rattle.wf_def_codel.specs.Codel.{Codel, new_codel, renewed}
use Rattle.wf_queue_flows.specs.Backlog.{BacklogValue, codel_at}
use Rattle.wf_queue_flows.proofs.Holding.{empty_renewed}
use Rattle.wf_queue_flows.proofs.backlog.Backlog.purge.Goals as goal

pub returns-clause-purged : goal.returns-clause-purged
returns-clause-purged c =
    let emptied : BacklogValue = c.empty_queue-count.new.self in
    let with_state : Codel → BacklogValue → BacklogValue = λ state b.
    record b { codels = set b.codels c.args.q state } in
    let here : c.args.q < length c.self.inside.codels.items = omega (
      arith,
      c.requires,
      c.self.invariant.states,
      ap (λ (v : BacklogValue). length v.queues) c.self.view_is,
      ap (λ (v : BacklogValue). length v.queues) c.empty_queue-count.ensures.emptied,
      length-set c.args.self.now.queues c.args.q [],
    ) in
    let renewal : c.renew.new.self ≡ renewed (codel_at emptied c.args.q) =
    c.renew.ensures ∙ ap renewed (c.index_mut.ensures.value
    ∙ get_or_default c.self.inside.codels.items c.args.q c.index_mut.result.now new_codel here
    ∙ ap (λ (v : BacklogValue). codel_at v c.args.q) c.self.view_is) in
    ap (with_state c.renew.new.self) c.self.view_is
    ∙ ap (λ (state : Codel). with_state state emptied) renewal
    ∙ empty_renewed Left c.args.self.now emptied c.args.q c.empty_queue-count.ensures.emptied
