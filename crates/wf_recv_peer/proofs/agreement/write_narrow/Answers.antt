-- Proves that the scoreboard of a narrow window has all its offsets below 64, as `narrowed` requires.
use Rattle.wf_recv_peer.proofs.Parts.{offsets_within}
use Rattle.wf_recv_peer.proofs.agreement.write_narrow.Goals as goal

pub narrowed-requires : goal.narrowed-requires
narrowed-requires c = offsets_within c.args.score.now.size c.answer-start.result.1 c.requires.narrow
    c.answer-start.ensures.within
