-- The rotation of one class changes, and the other classes are unchanged.
use Rattle.std.proofs.Common.{◌≡◌, ◌∙◌, ap, subst, ℕ, set, get_or, pos}
use Rattle.std.specs.Prelude.{ℤ, ◌+ℤ◌}
use Rattle.wf_rotation.specs.Rotas.{Rotas}
use Rattle.wf_sched.specs.ClassRotas.{SchedValue, with_deficit, deficit}
use Rattle.wf_sched.proofs.Views.{view_of, changed}
use Rattle.wf_sched.proofs.sched.Sched.pay_back.Goals as goal

pub returns : goal.returns
returns c =
    let here : Rotas = get_or c.self.inside.rotas c.number.result c.index-self-number.result in
    let P : SchedValue → Type 0 = λ (v : SchedValue).
    view_of (set c.self.inside.rotas c.number.result c.pay_back.new.self) c.self.inside.stations
    c.self.inside.quantum ≡ with_deficit v c.args.class c.args.station
    (deficit v c.args.class c.args.station +ℤ pos c.args.air) in
    subst P c.self.view_is (changed c.self.inside.rotas c.self.inside.stations c.self.inside.quantum
    c.args.class c.number.result c.index-self-number.result c.self.invariant.four c.number.ensures.place
    (λ (d : ℤ). d +ℤ pos c.args.air) c.args.station c.pay_back.new.self
    (c.pay_back.ensures ∙ ap (λ (k : ℕ). let r : Rotas =
    record {
      lists = here.lists;
      deficits = set here.deficits k
          (get_or here.deficits k (pos 0) +ℤ pos c.args.air);
      quanta = here.quanta;
    } in r) c.from.ensures))
