-- The places before the next one are counted.
use Rattle.std.proofs.Common.{◌≡◌, ◌≤◌, take}
use Rattle.std.specs.Prelude.{count_by}
use Rattle.wf_send_parts.specs.Flying.{flies}
use Rattle.wf_send_parts.proofs.window.window.Window.flying_count.Given as goal

abbrev pub invariant-loop-i : goal.invariant-loop-i
invariant-loop-i l = record {
  counted : l.count ≡ count_by flies (take l.i l.self-inside.ring.items);
  few : l.count ≤ l.i;
}
