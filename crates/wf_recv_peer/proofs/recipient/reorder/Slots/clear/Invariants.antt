-- The loop of `Slots::clear`: the ring has `counter` empty places.
use Rattle.std.proofs.Common.{◌≡◌, replicate, None}
use Rattle.std.specs.VecDeque.{deque_capacity, deque_len}
use Rattle.wf_recv_peer.proofs.recipient.reorder.Slots.clear.Given as goal

abbrev pub invariant-loop : goal.invariant-loop
invariant-loop l =
    (l.self-inside.ring.items ≡ replicate l.counter None) × (deque_len l.self-inside.ring ≡ l.counter)
    × (deque_capacity l.self-inside.ring ≡ deque_capacity l.initial.self-inside.ring)
    × (l.self-inside.start ≡ l.initial.self-inside.start)
