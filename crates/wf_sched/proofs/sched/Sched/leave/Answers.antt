-- The station is off the lists of one more class in each iteration.
use Rattle.std.proofs.Common.{◌≡◌, subst, map, arith}
use Rattle.wf_sched.specs.ClassRotas.{SchedValue, after_station_left}
use Rattle.wf_sched.proofs.Loops.{left_rota, left_turns}
use Rattle.wf_sched.proofs.Views.{view_of, all_changed}
use Rattle.wf_sched.proofs.sched.Sched.leave.Goals as goal

pub returns : goal.returns
returns c =
    let P : SchedValue → Type 0 = λ (v : SchedValue).
    view_of c.loop-rota.rota-items c.self.inside.stations c.self.inside.quantum
    ≡ record {
      stations = v.stations;
      quantum = v.quantum;
      classes =
          map (after_station_left c.args.station) v.classes;
    } in
    subst P c.self.view_is (all_changed (left_rota c.args.station) (after_station_left c.args.station)
    (left_turns c.args.station) c.self.inside.rotas c.loop-rota.rota-items c.loop-rota.rota-index
    c.self.inside.stations c.self.inside.quantum c.loop-rota.invariant
    (omega (arith, c.self.invariant.four)))
