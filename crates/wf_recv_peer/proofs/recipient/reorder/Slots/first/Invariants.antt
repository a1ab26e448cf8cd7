-- The loop of `Slots::first`: the first item is at this place or later.
use Rattle.std.proofs.Common.{◌≡◌}
use Rattle.wf_recv_peer.specs.Buffer.{first_stored}
use Rattle.wf_recv_peer.proofs.Places.{first_from}
use Rattle.wf_recv_peer.proofs.recipient.reorder.Slots.first.Given as goal

abbrev pub invariant-loop-place : goal.invariant-loop-place
invariant-loop-place l = first_from l.place l.self.places ≡ first_stored l.self.places
