-- The loop of `Slots::new`: the ring has `counter` empty places.
use Rattle.std.proofs.Common.{◌≡◌, replicate, None}
use Rattle.std.specs.VecDeque.{deque_capacity, deque_len}
use Rattle.wf_recv_peer.proofs.recipient.reorder.Slots.new.Given as goal

abbrev pub invariant-loop : goal.invariant-loop
invariant-loop l = (l.ring.items ≡ replicate l.counter None) × (deque_len l.ring ≡ l.counter) ×
    (deque_capacity l.ring ≡ l.capacity)
