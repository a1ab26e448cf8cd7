-- The take is CoDel's dequeue on the lane of one queue, whose frames all came from that queue.
use Rattle.std.proofs.Common.{rules, ◌≡◌, ◌<◌, Some, length, slice_set, ap, sym, ◌∙◌, arith}
use Rattle.std.proofs.lemmas.List.{get_or_default}
use Rattle.wf_def_codel.specs.Codel.{new_codel}
use Rattle.wf_queue_flows.specs.CodelParams.{params_of}
use Rattle.wf_queue_flows.specs.Backlog.{BacklogValue, codel_at, in_queues, given_at}
use Rattle.wf_queue_flows.proofs.Taking.{given-is, taken-is, fewer_queued}
use Rattle.wf_queue_flows.proofs.backlog.Backlog.take.Goals as goal

pub returns-clause-taken : goal.returns-clause-taken
returns-clause-taken c =
    let here : c.args.q < length c.self.inside.codels.items =
    omega (arith, c.requires.queue, ap (λ v. length v.queues) c.self.view_is, c.self.invariant.states) in
    let state : c.index.result.now ≡ codel_at c.args.self.now c.args.q =
    c.index.ensures ∙ get_or_default c.self.inside.codels.items c.args.q c.index.result.now new_codel here
    ∙ ap (λ (v : BacklogValue). codel_at v c.args.q) c.self.view_is in
    let taken = c.dequeue-given.ensures.taken in
    let same = c.dequeue-given.ensures.same in
    ap (λ (v : BacklogValue). let w : BacklogValue =
    record v { codels = slice_set v.codels c.args.q c.dequeue-given.new.self } in w)
    (c.self-2.view_is ∙ search rules)
    ∙ taken-is (params_of c.args.params) c.args.now c.args.self.now c.args.q c.index.result.now state
    c.dequeue-given.new.lane.backlog.now c.dequeue-given.new.lane.queue c.dequeue-given.new.self
    same.queue same.others taken.rest taken.thrown c.dequeue-given.ensures.state

pub returns-in_err-parcel-clause-taken : goal.returns-in_err-parcel-clause-taken
returns-in_err-parcel-clause-taken c =
    let here : c.args.q < length c.self.inside.codels.items =
    omega (arith, c.requires.queue, ap (λ v. length v.queues) c.self.view_is, c.self.invariant.states) in
    let state : c.index.result.now ≡ codel_at c.args.self.now c.args.q =
    c.index.ensures ∙ get_or_default c.self.inside.codels.items c.args.q c.index.result.now new_codel here
    ∙ ap (λ (v : BacklogValue). codel_at v c.args.q) c.self.view_is in
    let taken = c.dequeue-given.ensures.taken in
    let same = c.dequeue-given.ensures.same in
    ap (λ (v : BacklogValue). let w : BacklogValue =
    record v { codels = slice_set v.codels c.args.q c.dequeue-given.new.self } in w)
    (c.self-2.view_is ∙ search rules)
    ∙ taken-is (params_of c.args.params) c.args.now c.args.self.now c.args.q c.index.result.now state
    c.dequeue-given.new.lane.backlog.now c.dequeue-given.new.lane.queue c.dequeue-given.new.self
    same.queue same.others taken.rest taken.thrown c.dequeue-given.ensures.state

pub overflow_sub-dropped : goal.overflow_sub-dropped
overflow_sub-dropped c =
    let here : c.args.q < length c.self.inside.codels.items =
    omega (arith, c.requires.queue, ap (λ v. length v.queues) c.self.view_is, c.self.invariant.states) in
    let state : c.index.result.now ≡ codel_at c.args.self.now c.args.q =
    c.index.ensures ∙ get_or_default c.self.inside.codels.items c.args.q c.index.result.now new_codel here
    ∙ ap (λ (v : BacklogValue). codel_at v c.args.q) c.self.view_is in
    let taken = c.dequeue-given.ensures.taken in
    let same = c.dequeue-given.ensures.same in
    let given : Some c.in_ok-parcel.parcel
    ≡ given_at (params_of c.args.params) c.args.now c.args.self.now c.args.q =
    sym c.in_ok-parcel.was ∙ taken.gives
    ∙ given-is (params_of c.args.params) c.args.now c.args.self.now c.args.q c.index.result.now state in
    let back : c.self-1.given.0 ≡ c.dequeue-given.new.lane.backlog.now = search rules in
    let left = ap in_queues (c.self-2.view_is ∙ back)
    ∙ ap in_queues (taken-is (params_of c.args.params) c.args.now c.args.self.now c.args.q
    c.index.result.now state c.dequeue-given.new.lane.backlog.now c.dequeue-given.new.lane.queue
    c.dequeue-given.new.self same.queue same.others taken.rest taken.thrown c.dequeue-given.ensures.state)
    in
    omega (
      arith,
      c.self.invariant.queued_is,
      ap in_queues c.self.view_is,
      c.self-2.invariant.queued_is,
      left,
      fewer_queued (params_of c.args.params) c.args.now c.args.self.now c.args.q c.in_ok-parcel.parcel
          c.requires.queue given,
    )

pub overflow_sub-dropped-2 : goal.overflow_sub-dropped-2
overflow_sub-dropped-2 c =
    let here : c.args.q < length c.self.inside.codels.items =
    omega (arith, c.requires.queue, ap (λ v. length v.queues) c.self.view_is, c.self.invariant.states) in
    let state : c.index.result.now ≡ codel_at c.args.self.now c.args.q =
    c.index.ensures ∙ get_or_default c.self.inside.codels.items c.args.q c.index.result.now new_codel here
    ∙ ap (λ (v : BacklogValue). codel_at v c.args.q) c.self.view_is in
    let taken = c.dequeue-given.ensures.taken in
    let same = c.dequeue-given.ensures.same in
    let given : Some c.in_ok-parcel.parcel
    ≡ given_at (params_of c.args.params) c.args.now c.args.self.now c.args.q =
    sym c.in_ok-parcel.was ∙ taken.gives
    ∙ given-is (params_of c.args.params) c.args.now c.args.self.now c.args.q c.index.result.now state in
    let back : c.self-1.given.0 ≡ c.dequeue-given.new.lane.backlog.now = search rules in
    let left = ap in_queues (c.self-2.view_is ∙ back)
    ∙ ap in_queues (taken-is (params_of c.args.params) c.args.now c.args.self.now c.args.q
    c.index.result.now state c.dequeue-given.new.lane.backlog.now c.dequeue-given.new.lane.queue
    c.dequeue-given.new.self same.queue same.others taken.rest taken.thrown c.dequeue-given.ensures.state)
    in
    omega (
      arith,
      c.self.invariant.queued_is,
      ap in_queues c.self.view_is,
      c.self-2.invariant.queued_is,
      left,
      fewer_queued (params_of c.args.params) c.args.now c.args.self.now c.args.q c.in_ok-parcel.parcel
          c.requires.queue given,
    )

pub returns-clause-dropped : goal.returns-clause-dropped
returns-clause-dropped c =
    let here : c.args.q < length c.self.inside.codels.items =
    omega (arith, c.requires.queue, ap (λ v. length v.queues) c.self.view_is, c.self.invariant.states) in
    let state : c.index.result.now ≡ codel_at c.args.self.now c.args.q =
    c.index.ensures ∙ get_or_default c.self.inside.codels.items c.args.q c.index.result.now new_codel here
    ∙ ap (λ (v : BacklogValue). codel_at v c.args.q) c.self.view_is in
    let taken = c.dequeue-given.ensures.taken in
    let same = c.dequeue-given.ensures.same in
    let given : Some c.in_ok-parcel.parcel
    ≡ given_at (params_of c.args.params) c.args.now c.args.self.now c.args.q =
    sym c.in_ok-parcel.was ∙ taken.gives
    ∙ given-is (params_of c.args.params) c.args.now c.args.self.now c.args.q c.index.result.now state in
    let back : c.self-1.given.0 ≡ c.dequeue-given.new.lane.backlog.now = search rules in
    let left = ap in_queues (c.self-2.view_is ∙ back)
    ∙ ap in_queues (taken-is (params_of c.args.params) c.args.now c.args.self.now c.args.q
    c.index.result.now state c.dequeue-given.new.lane.backlog.now c.dequeue-given.new.lane.queue
    c.dequeue-given.new.self same.queue same.others taken.rest taken.thrown c.dequeue-given.ensures.state)
    in
    omega (
      arith,
      c.self.invariant.queued_is,
      ap in_queues c.self.view_is,
      c.self-2.invariant.queued_is,
      left,
      fewer_queued (params_of c.args.params) c.args.now c.args.self.now c.args.q c.in_ok-parcel.parcel
          c.requires.queue given,
    )
