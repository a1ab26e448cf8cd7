-- The sides so far are unopened.
use Rattle.std.proofs.Common.{◌≡◌, replicate}
use Rattle.wf_uplink.specs.Sides.{unopened_side}
use Rattle.wf_uplink.proofs.uplink.new_sides.Given as goal

abbrev pub invariant-loop : goal.invariant-loop
invariant-loop l = l.made.items ≡ replicate l.counter unopened_side
