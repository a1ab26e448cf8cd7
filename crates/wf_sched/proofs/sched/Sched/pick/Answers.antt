-- The pick of the class is the pick of its one rotation; the other classes are unchanged.
use Rattle.std.proofs.Common.{◌≡◌, ◌<◌, ◌∙◌, sym, subst, set, get_or, arith}
use Rattle.wf_sched.specs.ClassRotas.{SchedValue, IsOfStations, class_rota, class_rota_of, with_class_rota, class_rotation, pick_of_class, IsAfterPick}
use Rattle.wf_rotation.specs.Rotas.{Rotas, picked_at, is_ready}
use Rattle.wf_law_rules.specs.Renamed.{IsIdle}
use Rattle.wf_sched.proofs.Views.{class_below, view_of, turned, others, idle, if_none, picked_one}
use Rattle.wf_sched.proofs.sched.Sched.pick.Goals as goal

pub pick-requires-clause-in_lists : goal.pick-requires-clause-in_lists
pick-requires-clause-in_lists c =
    let here : Rotas = get_or c.self.inside.rotas c.number.result c.index-self-number.result in
    let low : c.number.result < 4 = omega (arith, c.number.ensures.place, class_below c.args.class) in
    let kept : IsOfStations c.self.inside.stations here =
    c.self.invariant.each c.number.result c.index-self-number.result
    (omega (arith, c.self.invariant.four)) in
    omega (arith, kept.one_list)

pub returns-in_err-key-clause-turned : goal.returns-in_err-key-clause-turned
returns-in_err-key-clause-turned c =
    let here : Rotas = get_or c.self.inside.rotas c.number.result c.index-self-number.result in
    let low : c.number.result < 4 = omega (arith, c.number.ensures.place, class_below c.args.class) in
    let kept : IsOfStations c.self.inside.stations here =
    c.self.invariant.each c.number.result c.index-self-number.result
    (omega (arith, c.self.invariant.four)) in
    let so : IsAfterPick (class_rota_of here) (picked_at here c.args.ready.now 0)
    (class_rota_of c.pick.new.self) =
    picked_one here c.pick.new.self c.args.ready.now kept.one_list c.pick.ensures.lists
    c.pick.ensures.deficits c.pick.ensures.keys c.pick.ensures.quanta in
    let after : SchedValue = view_of (set c.self.inside.rotas c.number.result c.pick.new.self)
    c.self.inside.stations c.self.inside.quantum in
    let P : SchedValue → Type 0 = λ (v : SchedValue).
    IsAfterPick (class_rota v c.args.class) (pick_of_class v c.args.class c.args.ready.now)
    (class_rota after c.args.class) in
    subst P c.self.view_is (turned c.self.inside.rotas c.self.inside.stations c.self.inside.quantum
    c.args.class c.number.result c.index-self-number.result c.self.invariant.four c.number.ensures.place
    c.args.ready.now c.pick.new.self so)

pub returns-in_err-key-clause-others : goal.returns-in_err-key-clause-others
returns-in_err-key-clause-others c =
    let after : SchedValue = view_of (set c.self.inside.rotas c.number.result c.pick.new.self)
    c.self.inside.stations c.self.inside.quantum in
    let P : SchedValue → Type 0 = λ (v : SchedValue). after
    ≡ with_class_rota v c.args.class (class_rota after c.args.class) in
    subst P c.self.view_is (others c.self.inside.rotas c.self.inside.stations c.self.inside.quantum
    c.args.class c.number.result c.index-self-number.result c.self.invariant.four c.number.ensures.place
    c.pick.new.self)

pub returns-in_err-key-clause-none : goal.returns-in_err-key-clause-none
returns-in_err-key-clause-none c =
    let P : SchedValue → Type 0 = λ (v : SchedValue).
    IsIdle (is_ready c.args.ready.now) (class_rotation v c.args.class) in
    if_none c.from_residual.result _ (subst P c.self.view_is
    (idle c.self.inside.rotas c.self.inside.stations c.self.inside.quantum c.args.class c.number.result
    c.index-self-number.result c.self.invariant.four c.number.ensures.place c.args.ready.now
    (sym c.pick.ensures.winner ∙ c.in_err-key.was)))

pub returns-clause-others : goal.returns-clause-others
returns-clause-others c =
    let after : SchedValue = view_of (set c.self.inside.rotas c.number.result c.pick.new.self)
    c.self.inside.stations c.self.inside.quantum in
    let P : SchedValue → Type 0 = λ (v : SchedValue). after
    ≡ with_class_rota v c.args.class (class_rota after c.args.class) in
    subst P c.self.view_is (others c.self.inside.rotas c.self.inside.stations c.self.inside.quantum
    c.args.class c.number.result c.index-self-number.result c.self.invariant.four c.number.ensures.place
    c.pick.new.self)

pub returns-clause-turned : goal.returns-clause-turned
returns-clause-turned c =
    let here : Rotas = get_or c.self.inside.rotas c.number.result c.index-self-number.result in
    let low : c.number.result < 4 = omega (arith, c.number.ensures.place, class_below c.args.class) in
    let kept : IsOfStations c.self.inside.stations here =
    c.self.invariant.each c.number.result c.index-self-number.result
    (omega (arith, c.self.invariant.four)) in
    let so : IsAfterPick (class_rota_of here) (picked_at here c.args.ready.now 0)
    (class_rota_of c.pick.new.self) =
    picked_one here c.pick.new.self c.args.ready.now kept.one_list c.pick.ensures.lists
    c.pick.ensures.deficits c.pick.ensures.keys c.pick.ensures.quanta in
    let after : SchedValue = view_of (set c.self.inside.rotas c.number.result c.pick.new.self)
    c.self.inside.stations c.self.inside.quantum in
    let P : SchedValue → Type 0 = λ (v : SchedValue).
    IsAfterPick (class_rota v c.args.class) (pick_of_class v c.args.class c.args.ready.now)
    (class_rota after c.args.class) in
    subst P c.self.view_is (turned c.self.inside.rotas c.self.inside.stations c.self.inside.quantum
    c.args.class c.number.result c.index-self-number.result c.self.invariant.four c.number.ensures.place
    c.args.ready.now c.pick.new.self so)
