-- Proves how the command ends, from the contract of the loop, and the law of captures.
use Rattle.wf_trace.proofs.CommandEndings.{ends_as}
use Rattle.wf_run_replay.proofs.CaptureLaw.{capture_law}
use Rattle.wf_run_replay.proofs.Told.{said}
use Rattle.wf_run_replay.proofs.capture.command.capture.Goals as goal

pub returns-clause-ends : goal.returns-clause-ends
returns-clause-ends g c = ends_as _ _ _ _ _ _ _ _ _ _ _ _ (said c.play.result) c.play.ensures.ends

pub returns-clause-law : goal.returns-clause-law
returns-clause-law g c = λ input told. capture_law input
