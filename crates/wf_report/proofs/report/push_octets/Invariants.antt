-- The octets so far were appended, with two digits for each.
use Rattle.std.proofs.Common.{◌≡◌, ◌+◌, ◌*◌, ◌≤◌, ◌++◌, length, take}
use Rattle.std.specs.Prelude.{map}
use Rattle.std.specs.List.{concat}
use Rattle.wf_def_world.specs.Text.{hex}
use Rattle.wf_report.proofs.report.push_octets.Given as goal

abbrev pub invariant-loop-octet : goal.invariant-loop-octet
invariant-loop-octet l = (l.out ≡ l.fn.out ++ concat (map (hex 2) (take l.octet-index l.octets))) ×
    (length l.out ≤ length l.fn.out + 2 * l.octet-index)
