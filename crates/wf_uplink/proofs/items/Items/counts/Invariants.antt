-- The counts are those of the items so far.
use Rattle.std.proofs.Common.{◌≡◌, ◌*◌, ◌≤◌, take}
use Rattle.std.specs.Prelude.{count_by, sum_by}
use Rattle.wf_uplink.specs.Shown.{is_frame, missing_of}
use Rattle.wf_uplink.proofs.items.Items.counts.Given as goal

abbrev pub invariant-loop-item : goal.invariant-loop-item
invariant-loop-item l = record {
  frames : l.frames ≡ count_by is_frame (take l.item-index l.item-items);
  missing : l.missing ≡ sum_by missing_of (take l.item-index l.item-items);
  few : l.frames ≤ l.item-index;
  small : l.missing ≤ 65535 * l.item-index;
}
