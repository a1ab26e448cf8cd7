-- Proves the contract of `narrowed`: all offsets are below 64, so the first eight octets have all of them.
use Rattle.std.proofs.Common.{sym, subst, ap, arith, ◌∙◌}
use Rattle.wf_octets.specs.Offsets.{IsOffsets, offsets_in}
use Rattle.wf_recv_peer.proofs.Parts.{offsets_of_front}
use Rattle.wf_recv_peer.proofs.agreement.narrowed.Goals as goal

pub returns : goal.returns
returns c =
    c.of_octets.ensures.shown ∙ ap offsets_in c.copy_from_slice.ensures.after
    ∙ offsets_of_front c.to_octets.result (omega arith)
    (subst (λ xs. IsOffsets 64 xs) (sym c.to_octets.ensures) c.requires) ∙ c.to_octets.ensures
