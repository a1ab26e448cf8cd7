-- The items so far are those of the ids so far.
use Rattle.std.proofs.Common.{◌≡◌, ◌+◌, ◌++◌, map, take}
use Rattle.wf_uplink.specs.Shown.{item_of}
use Rattle.wf_uplink.specs.Standing.{frames_from}
use Rattle.wf_uplink.proofs.sequencer.raise.Given as goal

abbrev pub invariant-loop-i : goal.invariant-loop-i
invariant-loop-i l = record {
  number : l.number ≡ l.start + l.i;
  items : l.items ≡ l.fn.items ++ map item_of (frames_from l.start (take l.i l.ids));
}
