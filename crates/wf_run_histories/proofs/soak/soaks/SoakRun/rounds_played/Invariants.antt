-- The rounds that remain lead to the same soak as all rounds from the start, and each round makes at least
-- one call.
use Rattle.std.proofs.Common.{◌≡◌, ◌-◌, ◌≤◌}
use Rattle.wf_run_histories.specs.Soak.{IsLater, rounds_played}
use Rattle.wf_run_histories.proofs.soak.soaks.SoakRun.rounds_played.Given as goal

abbrev pub invariant-loop-round : goal.invariant-loop-round
invariant-loop-round l =
    (l.round ≤ l.most) × IsLater l.fn.self l.self × (l.self.left ≤ l.fn.self.left - l.round)
    × (rounds_played (l.most - l.round) l.round l.self ≡ rounds_played l.most 0 l.fn.self)
