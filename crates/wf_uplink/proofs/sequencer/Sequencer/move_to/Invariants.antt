-- The rest of the move leads to the same items and the same reordering as the whole move.
use Rattle.std.proofs.Common.{◌≡◌, ◌+◌, ◌-◌, ◌≤◌, ◌++◌, map}
use Rattle.wf_uplink.specs.Reordering.{moved_to}
use Rattle.wf_uplink.specs.Shown.{item_of}
use Rattle.wf_uplink.proofs.Steps.{onto}
use Rattle.wf_uplink.proofs.sequencer.Sequencer.move_to.Given as goal

abbrev pub invariant-loop-self : goal.invariant-loop-self
invariant-loop-self l = record {
  items : l.items ++ map item_of (onto l.target l.self).passed ≡ l.fn.items
      ++ map item_of (moved_to l.target l.fn.self).passed;
  after : (onto l.target l.self).after ≡ (moved_to l.target l.fn.self).after;
  near : l.target ≤ l.self.start + 2047;
}

abbrev pub decreases-loop-self : goal.decreases-loop-self
decreases-loop-self l = l.target - l.self.start
