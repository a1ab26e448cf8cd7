-- Proves that the frame is the one that the word determines.
use Rattle.std.proofs.Common.{◌∙◌}
use Rattle.wf_run_histories.proofs.Words.{note_same}
use Rattle.wf_run_histories.proofs.soak.workers.sender.frame_from.Goals as goal

pub returns-in-Ok : goal.returns-in-Ok
returns-in-Ok c = note_same c.args.sender c.args.word _ c.in-Ok.parcel
    (c.in-Ok.ensures ∙ rw (c.from.ensures) at c.in_ok-frame.ensures)
