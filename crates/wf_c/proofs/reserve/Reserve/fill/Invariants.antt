-- The invariant of the loop: as many nodes are here as the loop has counted, and there is room for all.
use Rattle.std.proofs.Common.{◌≡◌, ◌≤◌}
use Rattle.std.specs.Vec.{vec_len, vec_capacity}
use Rattle.wf_c.proofs.reserve.Reserve.fill.Given as goal

abbrev pub invariant-loop-here : goal.invariant-loop-here
invariant-loop-here l = (l.have ≤ l._here) × ((vec_len l.self-inside.nodes ≡ l._here) ×
    (l.frames ≤ vec_capacity l.self-inside.nodes))
