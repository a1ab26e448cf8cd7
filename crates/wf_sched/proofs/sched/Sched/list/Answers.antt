-- A station that no list of the class has is put last on its new list if it is ready, and last on its old
-- list if not.
use Rattle.std.proofs.Common.{◌≡◌, ◌∙◌, ◌<◌, ap, subst, ℕ, set, get_or, Bool, true, false, arith, sym}
use Rattle.wf_def_rotation.specs.Rotation.{has_key, with_key_listed}
use Rattle.wf_rotation.specs.Rotas.{Rotas}
use Rattle.wf_rotation.specs.Lists.{lists_at}
use Rattle.wf_sched.specs.ClassRotas.{SchedValue, IsOfStations, with_class_rota, with_listing, class_rota}
use Rattle.wf_sched.specs.declared.sched.Sched.TheInside.{Inside}
use Rattle.wf_sched.proofs.Views.{class_below, view_of, put_on, none_unlisted}
use Rattle.wf_sched.proofs.sched.Sched.list.Goals as goal
use Rattle.wf_sched.proofs.sched.Sched.list.Goals.{then-is_ready, else-is_ready}

pub returns : goal.returns
returns c =
    let here : Rotas = get_or c.self.inside.rotas c.number.result c.index-self-number.result in
    let low : c.number.result < 4 = omega (arith, c.number.ensures.place, class_below c.args.class) in
    let kept : IsOfStations c.self.inside.stations here =
    c.self.invariant.each c.number.result c.index-self-number.result
    (omega (arith, c.self.invariant.four)) in
    let off : has_key (lists_at here.lists 0) c.args.station ≡ false =
    subst (λ (k : ℕ). has_key (lists_at here.lists 0) k ≡ false) c.from-key.ensures
    (none_unlisted here c.from-key.result c.where_is.result (sym c.is_some.ensures ∙ c.if-is_some.false)
    c.where_is.ensures.none) in
    let P : SchedValue → Rotas → Type 0 = λ (v : SchedValue) (r : Rotas).
    view_of (set c.self.inside.rotas c.number.result r) c.self.inside.stations
    c.self.inside.quantum ≡ with_class_rota v c.args.class
    (with_listing c.args.is_ready c.args.station (class_rota v c.args.class)) in
    let put : (r : Rotas) → r ≡ record {
      lists = set here.lists 0 (with_key_listed c.args.is_ready (lists_at here.lists 0) c.args.station);
      deficits = here.deficits;
      quanta = here.quanta;
    } → P c.args.self.now r = λ r e.
    subst (λ (v : SchedValue). P v r) c.self.view_is (put_on c.self.inside.rotas c.self.inside.stations
    c.self.inside.quantum c.args.class c.number.result c.index-self-number.result c.self.invariant.four
    c.number.ensures.place c.args.is_ready c.args.station r kept.one_list off e) in
    let listed : Bool → ℕ → Rotas = λ ready k. record {
      lists = set here.lists 0 (with_key_listed ready (lists_at here.lists 0) k);
      deficits = here.deficits;
      quanta = here.quanta;
    } in
    elim c.if-is_ready.branch [
      | then-is_ready w ↦
          ap (λ (q : Inside). view_of q.rotas q.stations q.quantum) w.self-inside-is
          ∙ put w.add_new.new.self (w.add_new.ensures ∙ ap (listed true) c.from-key.ensures
          ∙ ap (λ (ready : Bool). listed ready c.args.station) (sym w.if-is_ready.true))
      | else-is_ready w ↦
          ap (λ (q : Inside). view_of q.rotas q.stations q.quantum) w.self-inside-is
          ∙ put w.add_old.new.self (w.add_old.ensures ∙ ap (listed false) c.from-key.ensures
          ∙ ap (λ (ready : Bool). listed ready c.args.station) (sym w.if-is_ready.false))
    ]
