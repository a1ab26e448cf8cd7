-- Proves the contract of `reset_all`: after the loop all agreements are new, so the list is as many copies of
-- one.
use Rattle.std.proofs.Common.{length, arith}
use Rattle.wf_recv_peer.specs.Agreements.{new_agreement}
use Rattle.wf_recv_peer.proofs.Parts.{all_alike}
use Rattle.wf_recv_peer.proofs.peer.reset_all.Goals as goal

pub returns : goal.returns
returns c =
    all_alike (new_agreement c.args.start c.args.size)
    (length c.args.agreements.now) c.loop-agreement.agreement-items c.loop-agreement.auto.agreement-items
    (λ k d below. c.loop-agreement.invariant k d (omega (arith, below, c.loop-agreement-test.false)))
