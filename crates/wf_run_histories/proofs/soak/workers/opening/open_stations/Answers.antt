-- Proves that the loop makes the opening calls, one station per step, and that the history has room for them.
use Rattle.std.proofs.Common.{rules, arith, ◌∙◌, ap, sym, length, length-append}
use Rattle.wf_def_world.specs.Run.{Past}
use Rattle.wf_run_histories.specs.Opening.{station_calls, opening_calls, with_entries}
use Rattle.wf_run_histories.proofs.Openings.{both_stretches, no_stretch, next_station, opening_length}
use Rattle.wf_run_histories.proofs.soak.workers.opening.open_stations.Goals as goal

pub loop-station-init : goal.loop-station-init
loop-station-init g c = (search rules, sym (no_stretch (g.M.Opens.past c.args.machine.now)))

pub open_station-requires-clause-room : goal.open_station-requires-clause-room
open_station-requires-clause-room g c =
    let before : Past = g.M.Opens.past c.args.machine.now in
    let is = c.loop-station.invariant.1 in
    let made = length-append before.history (opening_calls c.loop-station.station) in
    let count = opening_length c.loop-station.station in
    let sized = ap (λ (p : Past). length p.history) is in
    let same = ap (λ (p : Past). p.config.calls) is in
    omega (arith, made, count, sized, same, c.requires.room)

pub loop-station-preserved : goal.loop-station-preserved
loop-station-preserved g c =
    let before : Past = g.M.Opens.past c.args.machine.now in
    let n = c.loop-station.station in (
      search rules,
      c.open_station.ensures.past ∙ ap (with_entries (station_calls n)) c.loop-station.invariant.1
          ∙ both_stretches before (opening_calls n) (station_calls n)
          ∙ ap (λ h. with_entries h before) (next_station n),
    )
