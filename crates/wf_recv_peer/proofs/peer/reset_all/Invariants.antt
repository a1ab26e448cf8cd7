-- The loop of `reset_all`: the agreements before this one are new.
use Rattle.std.proofs.Common.{◌≡◌, ℕ, ◌<◌, get_or}
use Rattle.wf_recv_peer.specs.Agreements.{AgreementValue, new_agreement}
use Rattle.wf_recv_peer.proofs.peer.reset_all.Given as goal

abbrev pub invariant-loop-agreement : goal.invariant-loop-agreement
invariant-loop-agreement l =
    (k : ℕ) (d : AgreementValue) → k < l.agreement-index →
    get_or l.agreement-items k d ≡ new_agreement l.start l.size
