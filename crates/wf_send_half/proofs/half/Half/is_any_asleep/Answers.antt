-- Proves what `Half::is_any_asleep` promises: each round tests one more station.
use Rattle.std.proofs.Common.{sym, ap, ◌∙◌, arith}
use Rattle.wf_send_half_model.specs.Half.{TransmitValue, is_asleep_of}
use Rattle.wf_send_half.proofs.GroupCalls.{found, not_yet, none_left}
use Rattle.wf_send_half.proofs.half.Half.is_any_asleep.Goals as goal

pub loop-station-preserved : goal.loop-station-preserved
loop-station-preserved c = not_yet (is_asleep_of c.args.self.now c.args.bss) c.loop-station.station
    c.args.self.now.config.stations
    (omega (arith, c.loop-station-test.true, ap (λ (v : TransmitValue). v.config.stations) c.self.view_is))
    (sym c.is_asleep.ensures ∙ c.if-is_asleep.false)
    c.loop-station.invariant

pub returns-then-is_asleep : goal.returns-then-is_asleep
returns-then-is_asleep c = sym (found (is_asleep_of c.args.self.now c.args.bss) c.loop-station.station
    c.args.self.now.config.stations
    (omega (arith, c.loop-station-test.true, ap (λ (v : TransmitValue). v.config.stations) c.self.view_is))
    (sym c.is_asleep.ensures ∙ c.if-is_asleep.true)
    c.loop-station.invariant)

pub returns : goal.returns
returns c = sym (none_left (is_asleep_of c.args.self.now c.args.bss) c.loop-station.station
    c.args.self.now.config.stations
    (omega (arith, c.loop-station-test.false, ap (λ (v : TransmitValue). v.config.stations) c.self.view_is))
    c.loop-station.invariant)
