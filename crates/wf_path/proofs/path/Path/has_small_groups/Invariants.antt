-- The invariant of the loop of `Path::has_small_groups`: the counts of the BSSs before `bss` are small.
use Rattle.std.proofs.Common.{◌<◌, ◌^◌, ℕ}
use Rattle.wf_send_parts.specs.Group.{HasGroupBelow}
use Rattle.wf_send_half_model.specs.Half.{group_in}
use Rattle.wf_path.proofs.path.Path.has_small_groups.Given as goal

abbrev pub invariant-loop-bss : goal.invariant-loop-bss
invariant-loop-bss l = (b : ℕ) → b < l.bss → HasGroupBelow (2 ^ 62) (group_in l.self.half b)
