-- One more class has the station's new quantum and deficit in each iteration.
use Rattle.std.proofs.Common.{◌≡◌, ◌∙◌, ◌*◌, ap, subst, refl, ℕ, map, arith}
use Rattle.wf_sched.specs.ClassRotas.{SchedValue, after_join}
use Rattle.wf_sched.proofs.Loops.{joined_rota}
use Rattle.wf_sched.proofs.Views.{view_of, all_changed}
use Rattle.wf_sched.proofs.sched.Sched.join.Goals as goal

pub returns : goal.returns
returns c =
    let P : SchedValue → Type 0 = λ (v : SchedValue).
    view_of c.loop-rota.rota-items c.self.inside.stations c.self.inside.quantum
    ≡ record {
      stations = v.stations;
      quantum = v.quantum;
      classes =
          map (after_join c.args.station (v.quantum * c.args.weight)) v.classes;
    } in
    subst P c.self.view_is (
    all_changed (joined_rota c.from-key.result (c.self.inside.quantum * c.from.result))
    (after_join c.from-key.result (c.self.inside.quantum * c.from.result))
    (λ r. refl) c.self.inside.rotas c.loop-rota.rota-items c.loop-rota.rota-index c.self.inside.stations
    c.self.inside.quantum c.loop-rota.invariant (omega (arith, c.self.invariant.four))
    ∙ ap (λ (k : ℕ). let v : SchedValue = record (view_of c.self.inside.rotas c.self.inside.stations
    c.self.inside.quantum) {
      classes = map (after_join k (c.self.inside.quantum * c.from.result))
          (view_of c.self.inside.rotas c.self.inside.stations c.self.inside.quantum).classes;
    } in v)
    c.from-key.ensures
    ∙ ap (λ (w : ℕ). let v : SchedValue = record (view_of c.self.inside.rotas c.self.inside.stations
    c.self.inside.quantum) {
      classes = map (after_join c.args.station (c.self.inside.quantum * w))
          (view_of c.self.inside.rotas c.self.inside.stations c.self.inside.quantum).classes;
    } in v)
    c.from.ensures)
