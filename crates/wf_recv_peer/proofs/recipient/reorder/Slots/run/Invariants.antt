-- The loop of `Slots::run`: all places before this one hold an item.
use Rattle.std.proofs.Common.{◌≡◌, ◌+◌, drop}
use Rattle.wf_recv_peer.specs.Buffer.{run_of}
use Rattle.wf_recv_peer.proofs.recipient.reorder.Slots.run.Given as goal

abbrev pub invariant-loop-place : goal.invariant-loop-place
invariant-loop-place l = l.place + run_of (drop l.place l.self.places) ≡ run_of l.self.places
