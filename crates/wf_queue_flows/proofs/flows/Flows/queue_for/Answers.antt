-- Another TID lists the shared queue, or the frames that the overflow queue keeps decide.
use Rattle.std.proofs.Common.{◌≡◌, ◌∙◌, ◌+◌, ◌<◌, ◌%◌, ℕ, false, not, sym, ap, refl, drop, length, arith, eq-eqb}
use Rattle.std.specs.List.{list_any}
use Rattle.std.proofs.lemmas.Bool.{ne_eqb}
use Rattle.wf_queue_flows.specs.Backlog.{frames_at}
use Rattle.wf_queue_flows.specs.Flows.{FlowsValue, tids, after_limit, is_listed_by_another, is_of_queue, goes_to_overflow}
use Rattle.wf_queue_flows.proofs.Moves.{elsewhere_none, elsewhere_some}
use Rattle.wf_queue_flows.proofs.Leaves.{can_overflow, can_share}
use Rattle.wf_queue_flows.proofs.Overs.{flows_left, over_by, shared_by, over_elsewhere, over_free, over_kept, frames_left}
use Rattle.wf_queue_flows.proofs.flows.Flows.queue_for.Goals as goal
use Rattle.wf_queue_flows.proofs.flows.Flows.queue_for.Goals.{After-where_is, Joined-where_is, After-holds_flow, in-Some+else-other-list, in_default}

-- the number of shared queues, as the code reads it
same_flows : (c : After-where_is) → c.self.inside.flows ≡ (after_limit c.args.self.now).flows
same_flows c = ap (λ (w : FlowsValue). w.flows) c.self.view_is ∙ sym (flows_left c.args.self.now)

-- no other TID lists the shared queue
free : (c : Joined-where_is) →
    is_listed_by_another c.args.self.now c.args.list (c.args.flow % c.self.inside.flows) ≡ false
free c = elim c.match-where_is.branch [
  | in-Some+else-other-list w ↦ sym (elsewhere_some _ _ _ c.self.view_is c.self.invariant c.args.list _
      w.in-Some.other _ w.in-Some.ensures.some.0 w.in-Some.ensures.some.1)
      ∙ ap not (eq-eqb w.in-Some.other c.args.list w.if-other-list.false)
  | in_default w ↦ sym (elsewhere_none _ _ _ c.self.view_is c.self.invariant c.args.list _
      w.in_default.ensures.none)
]

-- the frames of the overflow queue decide
kept : (c : After-holds_flow) →
    is_listed_by_another c.args.self.now c.args.list (c.args.flow % c.self.inside.flows) ≡ false →
    c.holds_flow.result
    ≡ goes_to_overflow (after_limit c.args.self.now) c.args.list (c.args.flow % c.self.inside.flows)
kept c alone =
    let now : FlowsValue = c.args.self.now in
    let flows : ℕ = c.self.inside.flows in
    let own : ℕ = flows + c.args.list in
    let lost : ℕ = c.frames_lost-lost.result in
    let same : flows ≡ now.flows = ap (λ (w : FlowsValue). w.flows) c.self.view_is in
    let low : own < length now.backlog.queues = omega (
      arith,
      same,
      c.requires.list,
      c.self.invariant.sized.queues,
      ap (λ (w : FlowsValue). tids w) c.self.view_is,
      ap (λ (w : FlowsValue). length w.backlog.queues) c.self.view_is,
    ) in
    over_kept now c.args.list (c.args.flow % flows) lost own flows c.self.inside.keep_order
    c.holds_flow.result same (ap (λ (w : FlowsValue). w.keep_order) c.self.view_is) alone
    (eq-eqb c.self.inside.keep_order 1 c.if-self-eq1.true) refl
    (frames_left now (λ from. from.queue) own lost c.args.over low c.requires.roomy c.requires.full
    c.requires.longest c.frames_lost-lost.ensures.none c.frames_lost-lost.ensures.here
    c.frames_lost-lost.ensures.elsewhere)
    (c.holds_flow.ensures.found ∙ ap (λ (w : FlowsValue).
    list_any (is_of_queue flows (c.args.flow % flows)) (drop lost (frames_at w.backlog own))) c.self.view_is)

pub returns-then-other-list-clause-queue : goal.returns-then-other-list-clause-queue
returns-then-other-list-clause-queue c = over_by _ _ c.args.list c.args.flow
    (same_flows (goal.at.returns-then-other-list-clause-queue c).After-where_is)
    (sym (over_elsewhere c.args.self.now c.args.list _
    (sym (elsewhere_some _ _ _ c.self.view_is c.self.invariant c.args.list _ c.in-Some.other _
    c.in-Some.ensures.some.0 c.in-Some.ensures.some.1)
    ∙ ap not (ne_eqb c.in-Some.other c.args.list c.if-other-list.true))))

pub returns-then-other-list-clause-own : goal.returns-then-other-list-clause-own
returns-then-other-list-clause-own c =
    can_overflow _ _ _ c.self.view_is c.self.invariant c.args.list _ refl

pub returns-then-holds_flow-clause-queue : goal.returns-then-holds_flow-clause-queue
returns-then-holds_flow-clause-queue c =
    let at = goal.at.returns-then-holds_flow-clause-queue c in
    over_by _ _ c.args.list c.args.flow (same_flows at.After-where_is)
    (sym (kept at.After-holds_flow (free at.Joined-where_is)) ∙ c.if-holds_flow.true)

pub returns-then-holds_flow-clause-own : goal.returns-then-holds_flow-clause-own
returns-then-holds_flow-clause-own c =
    can_overflow _ _ _ c.self.view_is c.self.invariant c.args.list _ refl

pub returns-else-holds_flow-clause-queue : goal.returns-else-holds_flow-clause-queue
returns-else-holds_flow-clause-queue c =
    let at = goal.at.returns-else-holds_flow-clause-queue c in
    shared_by _ _ c.args.list c.args.flow (same_flows at.After-where_is)
    (sym (kept at.After-holds_flow (free at.Joined-where_is)) ∙ c.if-holds_flow.false)

pub returns-else-holds_flow-clause-own : goal.returns-else-holds_flow-clause-own
returns-else-holds_flow-clause-own c = can_share _ _ _ c.self.view_is c.self.invariant c.args.list c.args.flow
    (free (goal.at.returns-else-holds_flow-clause-own c).Joined-where_is)

pub returns-else-self-eq1-clause-queue : goal.returns-else-self-eq1-clause-queue
returns-else-self-eq1-clause-queue c =
    let at = goal.at.returns-else-self-eq1-clause-queue c in
    shared_by _ _ c.args.list c.args.flow (same_flows at.After-where_is)
    (sym (over_free c.args.self.now c.args.list _ c.self.inside.keep_order
    (ap (λ (w : FlowsValue). w.keep_order) c.self.view_is) (free at.Joined-where_is)
    (ne_eqb c.self.inside.keep_order 1 c.if-self-eq1.false)))

pub returns-else-self-eq1-clause-own : goal.returns-else-self-eq1-clause-own
returns-else-self-eq1-clause-own c = can_share _ _ _ c.self.view_is c.self.invariant c.args.list c.args.flow
    (free (goal.at.returns-else-self-eq1-clause-own c).Joined-where_is)
