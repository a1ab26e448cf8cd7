-- The loop of `Slots::turn_all`: so far `counter` places have turned, and their items are passed up.
use Rattle.std.proofs.Common.{◌≡◌, ◌++◌, take}
use Rattle.wf_recv_peer.specs.Buffer.{items_of}
use Rattle.wf_recv_peer.proofs.Places.{turned}
use Rattle.wf_recv_peer.proofs.recipient.reorder.Slots.turn_all.Given as goal

abbrev pub invariant-loop : goal.invariant-loop
invariant-loop l = (l.self ≡ turned l.counter l.initial.self) ×
    (l.up ≡ l.initial.up ++ items_of (take l.counter l.initial.self.places))
