-- The pick finds a queue with frames, and CoDel's frame leaves the deficit and the count of the TID.
use Rattle.std.proofs.Common.{◌≡◌, ℕ, ◌+◌, ◌*◌, ◌<◌, ◌≤◌, ◌∙◌, true, Option, Some, None, length, refl, sym, ap, subst, arith}
use Rattle.std.specs.Prelude.{pos, ◌<ℤ◌, IfSome, IfNone, IsSome}
use Rattle.std.proofs.lemmas.List.{get_or_read}
use Rattle.wf_queue_flows.specs.CodelParams.{params_of}
use Rattle.wf_rotation.specs.Rotas.{Rotas, deficit_at}
use Rattle.wf_queue_flows.specs.Backlog.{flags}
use Rattle.wf_queue_flows.specs.Flows.{FlowsValue, TakenFromFlows, tids, is_listed, after_pick, frames_of_tid, pick_of_tid, taken_for_tid, TakeGives}
use Rattle.wf_queue_flows.specs.Kept.{AreFlowsKept, IsPickOfOne}
use Rattle.wf_queue_flows.proofs.Keeps.{frames_counted}
use Rattle.wf_queue_flows.proofs.Picking.{pick_low, pick_keeps, pick_is, pick_winner, pick_none, pick_listed, pick_positive}
use Rattle.wf_queue_flows.proofs.Moves.{take_fits, take_keeps, take_counts}
use Rattle.wf_queue_flows.proofs.Whole.{take_parts, picked_gives}
use Rattle.wf_queue_flows.proofs.flows.Flows.take.Goals as goal
use Rattle.wf_queue_flows.proofs.flows.Flows.take.Goals.{After-pick}

-- the flags that the pick is given belong to the backlog
ready_is : (c : After-pick) → c.as_slice.result.now ≡ flags c.self.inside.waiting
ready_is c = c.as_slice.ensures.value ∙ c.waiting.invariant.ready_are ∙ ap flags c.waiting.view_is

-- the pick, in the form in which the laws of the flow queues need it
as_pick : (c : After-pick) → IsPickOfOne c.self.inside.rota c.as_slice.result.now
    c.tid_number-list.result c.pick.new.self c.pick.result.winner
as_pick c = record {
  winner_is = c.pick.ensures.winner;
  lists = c.pick.ensures.lists;
  deficits = c.pick.ensures.deficits;
  keys = c.pick.ensures.keys;
  quanta = c.pick.ensures.quanta;
  listed = c.pick.ensures.listed;
  is_ready = c.pick.ensures.is_ready;
}

-- the flow queues before the take and once a queue is picked
abbrev before : After-pick → FlowsValue
before c = record {
  flows = c.self.inside.flows;
  stations = c.self.inside.stations;
  limit = c.self.inside.limit;
  flow_quantum = c.self.inside.flow_quantum;
  keep_order = c.self.inside.keep_order;
  codel_reset = c.self.inside.codel_reset;
  backlog = c.self.inside.waiting;
  rotas = c.self.inside.rota;
}

abbrev picked : After-pick → FlowsValue
picked c = record (before c) { rotas = c.pick.new.self }

low_now : (c : After-pick) → c.tid_number-list.result < tids c.args.self.now
low_now c = omega (arith, c.tid_number-list.ensures, c.requires.station, c.requires.tid)

low : (c : After-pick) → c.tid_number-list.result < 8 * c.self.inside.stations
low c = pick_low (before c) _ c.tid_number-list.result c.self.view_is (low_now c)

kept_picked : (c : After-pick) → AreFlowsKept (picked c) c.self.inside.queued.items
kept_picked c = pick_keeps (before c) _ c.self.invariant c.as_slice.result.now (ready_is c)
    c.tid_number-list.result (low c) c.pick.new.self c.pick.result.winner (as_pick c)

picked_is : (c : After-pick) → picked c ≡ after_pick c.args.self.now c.tid_number-list.result
picked_is c = pick_is (before c) _ c.self.invariant c.as_slice.result.now (ready_is c)
    c.tid_number-list.result (low c) c.pick.new.self c.pick.result.winner (as_pick c)
    ∙ ap (λ (w : FlowsValue). after_pick w c.tid_number-list.result) c.self.view_is

winner_is : (c : After-pick) (q : ℕ) → c.pick.result.winner ≡ Some q →
    Some q ≡ (pick_of_tid c.args.self.now c.tid_number-list.result).winner
winner_is c q was = sym was
    ∙ pick_winner (before c) _ c.self.invariant c.as_slice.result.now (ready_is c) c.tid_number-list.result
    (low c) c.pick.new.self c.pick.result.winner (as_pick c)
    ∙ ap (λ (w : FlowsValue). (pick_of_tid w c.tid_number-list.result).winner) c.self.view_is

listed : (c : After-pick) (q : ℕ) → c.pick.result.winner ≡ Some q →
    is_listed (picked c) c.tid_number-list.result q ≡ true
listed c q was = subst (λ (o : Option ℕ).
    IfSome o (λ k. is_listed (picked c) c.tid_number-list.result k ≡ true)) was
    (pick_listed (before c) _ c.self.invariant c.as_slice.result.now (ready_is c) c.tid_number-list.result
    (low c) c.pick.new.self c.pick.result.winner (as_pick c))

positive : (c : After-pick) (q : ℕ) → c.pick.result.winner ≡ Some q →
    pos 0 <ℤ deficit_at c.pick.new.self.deficits q
positive c q was = subst (λ (o : Option ℕ).
    IfSome o (λ k. pos 0 <ℤ deficit_at c.pick.new.self.deficits k)) was
    (pick_positive (before c) _ c.self.invariant c.as_slice.result.now (ready_is c) c.tid_number-list.result
    (low c) c.pick.new.self c.pick.result.winner (as_pick c))

-- the pick moves no frame
counted : (c : After-pick) → frames_of_tid (picked c) c.tid_number-list.result
    ≡ frames_of_tid c.args.self.now c.tid_number-list.result
counted c = sym (frames_counted _ _ _ c.tid_number-list.result refl (kept_picked c) (low c))
    ∙ frames_counted _ _ _ c.tid_number-list.result c.self.view_is c.self.invariant (low_now c)

none_waits : (c : After-pick) → c.pick.result.winner ≡ None →
    frames_of_tid c.args.self.now c.tid_number-list.result ≡ 0
none_waits c was = subst (λ (w : FlowsValue). frames_of_tid w c.tid_number-list.result ≡ 0) c.self.view_is
    (subst (λ (o : Option ℕ). IfNone o (frames_of_tid (before c) c.tid_number-list.result ≡ 0)) was
    (pick_none (before c) _ c.self.invariant c.as_slice.result.now (ready_is c) c.tid_number-list.result
    (low c) c.pick.new.self c.pick.result.winner (as_pick c)))

some_if : (o : Option ℕ) → (o ≡ None → ⊥) → IsSome o
some_if None none = absurd (none refl)
some_if (Some q) none = refl

pub unwrap-q-requires : goal.unwrap-q-requires
unwrap-q-requires c =
    let at = (goal.at.unwrap-q-requires c).After-pick in
    some_if c.pick.result.winner (λ none. absurd (omega (
      arith,
      c.if-index-eq0.false,
      get_or_read c.self.inside.queued.items c.tid_number-list.result c.index.result.now
          (omega (arith, c.self.invariant.sized.tids, low at)) c.index.ensures 0,
      frames_counted _ _ _ c.tid_number-list.result c.self.view_is c.self.invariant (low_now at),
      none_waits at none,
    )))

pub overflow_sub-left : goal.overflow_sub-left
overflow_sub-left c =
    let at = (goal.at.overflow_sub-left c).After-pick in
    let most = take_fits (picked at) _ _ refl (kept_picked at) c.tid_number-list.result c.unwrap-q.result
    c.index-2.result.now c.in-Some.taken.dropped c.args.now (params_of c.args.params)
    c.in-Some.taken.parcel (low at) (listed at c.unwrap-q.result c.unwrap-q.ensures) c.index-2.ensures
    c.in-Some.ensures.dropped c.in-Some.ensures.given in
    omega arith

pub overflow_sub-left-2 : goal.overflow_sub-left-2
overflow_sub-left-2 c =
    let at = (goal.at.overflow_sub-left-2 c).After-pick in
    let most = take_fits (picked at) _ _ refl (kept_picked at) c.tid_number-list.result c.unwrap-q.result
    c.index-2.result.now c.in-Some.taken.dropped c.args.now (params_of c.args.params)
    c.in-Some.taken.parcel (low at) (listed at c.unwrap-q.result c.unwrap-q.ensures) c.index-2.ensures
    c.in-Some.ensures.dropped c.in-Some.ensures.given in
    omega arith

pub invariant_of-self : goal.invariant_of-self
invariant_of-self c =
    let at = (goal.at.invariant_of-self c).After-pick in
    let few : c.from.result ≤ 2304 = omega (arith, c.from.ensures, c.len.ensures.most) in
    take_keeps (picked at) _ _ refl (kept_picked at) c.tid_number-list.result c.unwrap-q.result
    c.index-2.result.now c.in-Some.taken.dropped c.from.result c.args.now (params_of c.args.params)
    c.in-Some.taken.parcel c.take.new.self c.charge.new.self (low at)
    (listed at c.unwrap-q.result c.unwrap-q.ensures) c.index-2.ensures c.in-Some.ensures.dropped
    c.in-Some.ensures.given c.in-Some.ensures.taken (positive at c.unwrap-q.result c.unwrap-q.ensures) few
    c.charge.ensures

pub returns-clause-taken : goal.returns-clause-taken
returns-clause-taken c =
    let at = (goal.at.returns-clause-taken c).After-pick in
    subst (λ (t : TakenFromFlows). TakeGives
    (record (before at) { backlog = c.take.new.self; rotas = c.charge.new.self })
    c.in-Some.taken.parcel t)
    (take_parts c.args.self.now (picked at) c.tid_number-list.result c.unwrap-q.result c.args.now
    (params_of c.args.params) (picked_is at) (winner_is at c.unwrap-q.result c.unwrap-q.ensures)
    ∙ ap (λ n. taken_for_tid c.args.self.now n c.args.now (params_of c.args.params))
    c.tid_number-list.ensures)
    (picked_gives (picked at) c.unwrap-q.result c.from.result c.args.now (params_of c.args.params)
    c.in-Some.taken.parcel c.take.new.self c.charge.new.self c.in-Some.ensures.given
    c.in-Some.ensures.taken
    (c.from.ensures ∙ c.len.ensures.exact ∙ ap (λ f. length f.body) c.frame.ensures) c.charge.ensures)

pub returns-clause-dropped : goal.returns-clause-dropped
returns-clause-dropped c =
    let at = (goal.at.returns-clause-dropped c).After-pick in
    subst (λ (i : ℕ). frames_of_tid
    (record (before at) { backlog = c.take.new.self; rotas = c.charge.new.self }) i
    + c.in-Some.taken.dropped + 1 ≡ frames_of_tid c.args.self.now i) c.tid_number-list.ensures
    (take_counts (picked at) _ _ refl (kept_picked at) c.tid_number-list.result c.unwrap-q.result
    c.in-Some.taken.dropped c.args.now (params_of c.args.params) c.in-Some.taken.parcel
    c.take.new.self c.charge.new.self (low at) (listed at c.unwrap-q.result c.unwrap-q.ensures)
    c.in-Some.ensures.dropped c.in-Some.ensures.given c.in-Some.ensures.taken
    (ap (λ (r : Rotas). r.lists) c.charge.ensures) ∙ counted at)
