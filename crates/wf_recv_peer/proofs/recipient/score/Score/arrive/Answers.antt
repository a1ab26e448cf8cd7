-- Proves that `Score::arrive` keeps all offsets inside the window.
use Rattle.std.proofs.Common.{sym, subst, arith}
use Rattle.wf_octets.specs.Offsets.{IsOffsets}
use Rattle.wf_recv_peer.proofs.Boards.{within_marked}
use Rattle.wf_recv_peer.proofs.recipient.score.Score.arrive.Goals as goal

pub invariant_of-self : goal.invariant_of-self
invariant_of-self c = (
  c.self.invariant.0,
  c.self.invariant.1,
  subst (λ xs. IsOffsets c.self.inside.size xs)
      (sym c.set.ensures.set) (within_marked c.self.inside.size _ c.self.inside.bits
      (omega (arith, c.ahead-ahead.ensures.number, c.in_window.ensures.number.0 c.if-in_window.true))
      c.self.invariant.2),
)

pub invariant_of-self-then-is_newer : goal.invariant_of-self-then-is_newer
invariant_of-self-then-is_newer c =
    let k = c.self-then-is_newer in (
      k.invariant.0,
      k.invariant.1,
      subst (λ xs. IsOffsets k.inside.size xs)
          (sym c.set-then-is_newer.ensures.set) (within_marked k.inside.size _ k.inside.bits
          (omega (arith, k.invariant.0)) k.invariant.2),
    )
