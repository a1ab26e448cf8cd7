-- Proves that the frame is the one that the word determines.
use Rattle.std.proofs.Common.{◌∙◌}
use Rattle.wf_run_histories.proofs.SoakLemmas.{frame_named}
use Rattle.wf_run_histories.proofs.soak.soaks.job_for.Goals as goal

pub returns-in-Ok : goal.returns-in-Ok
returns-in-Ok c = frame_named _ _ _ _ _ (c.in-Ok.ensures ∙ c.in_ok-frame.ensures)
