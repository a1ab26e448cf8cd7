-- The loop of `new_agreements`: it has made `counter` new agreements.
use Rattle.std.proofs.Common.{◌≡◌, replicate}
use Rattle.wf_recv_peer.specs.Agreements.{new_agreement}
use Rattle.wf_recv_peer.proofs.peer.new_agreements.Given as goal

abbrev pub invariant-loop : goal.invariant-loop
invariant-loop l = l.made.items ≡ replicate l.counter (new_agreement 0 256)
