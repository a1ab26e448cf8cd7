-- Proves the contract of `Score::move_on`: a move by more than 256 is the same as one by 256.
use Rattle.std.proofs.Common.{◌∙◌, sym, subst, ap}
use Rattle.wf_octets.specs.Offsets.{IsOffsets, moved_down}
use Rattle.wf_recv_peer.specs.Board.{with_start_moved}
use Rattle.wf_recv_peer.proofs.Boards.{moved_least, within_moved, same_board}
use Rattle.wf_recv_peer.proofs.recipient.score.Score.move_on.Goals as goal

pub invariant_of-self : goal.invariant_of-self
invariant_of-self c = (
  c.self.invariant.0,
  c.self.invariant.1,
  subst (λ xs. IsOffsets c.self.inside.size xs)
      (sym c.shift.ensures.moved) (within_moved c.self.inside.size c.min.result c.self.inside.bits
      c.self.invariant.2),
)

pub returns : goal.returns
returns c =
    same_board c.self.inside.size _ _ _ _ c.plus-self-inside.ensures.number
    (c.shift.ensures.moved ∙ ap (λ k. moved_down k c.self.inside.bits) c.min.ensures
    ∙ moved_least c.self.inside.size c.args.places c.self.inside.bits c.self.invariant.1
    c.self.invariant.2)
    ∙ ap (with_start_moved c.args.places) c.self.view_is
