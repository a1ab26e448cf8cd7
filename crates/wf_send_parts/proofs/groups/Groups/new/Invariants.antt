-- The loop of `Groups::new`: it has made the queues of `counter` BSSs.
use Rattle.std.proofs.Common.{◌≡◌, replicate, vec_len, vec_capacity}
use Rattle.wf_send_parts.specs.Group.{no_group_frames}
use Rattle.wf_send_parts.proofs.groups.Groups.new.Given as goal

abbrev pub invariant-making : goal.invariant-making
invariant-making l = (l.queues.items ≡ replicate l.counter (no_group_frames l.buffered)) ×
    (vec_len l.queues ≡ l.counter) × (vec_capacity l.queues ≡ l.bsses)
