-- Proves the contract of `Score::bar` for a start that is not newer, which changes nothing.
use Rattle.std.proofs.Common.{◌≡◌, subst, arith, rules}
use Rattle.wf_recv_peer.specs.Board.{Board, after_start}
use Rattle.wf_recv_peer.proofs.Boards.{board, start_not_newer}
use Rattle.wf_recv_peer.proofs.recipient.score.Score.bar.Goals as goal

pub returns-else-is_newer : goal.returns-else-is_newer
returns-else-is_newer c =
    let s = c.self.inside in
    subst (λ (b : Board). b ≡ after_start c.args.start b) c.self.view_is
    (start_not_newer c.is_newer.result c.args.start (board s.size s.start s.bits)
    (first_of (omega (arith, c.self.ranges), search rules))
    c.if-is_newer.false c.is_newer.ensures.number)
