-- Proves how the command ends, from the contract of the loop, and the laws of the trace's run.
use Rattle.std.proofs.Common.{[], true, refl}
use Rattle.wf_io.specs.declared.status.Status.TheVariants.{NoMemory}
use Rattle.wf_trace.proofs.CommandEndings.{ends_quiet, ends_as}
use Rattle.wf_trace_laws.proofs.Endings.{answered}
use Rattle.wf_trace_laws.proofs.Octets.{append_known-nil, prepend_known-nil}
use Rattle.wf_trace_laws.proofs.Ranges.{trace_laws}
use Rattle.wf_run_replay.specs.Texts.{text, answers}
use Rattle.wf_run_replay.proofs.Texts.{said, unsaid}
use Rattle.wf_run_replay.proofs.command.replay.Goals as goal

pub returns-in_default-clause-ends : goal.returns-in_default-clause-ends
returns-in_default-clause-ends g c =
    ends_quiet _ _ _ _ _ _ _ _ _ _ NoMemory tt (answered answers text)
    ([], [], prepend_known-nil _, append_known-nil _, λ input is. unsaid input) refl refl

pub returns-in_default-clause-laws : goal.returns-in_default-clause-laws
returns-in_default-clause-laws g c = λ input told. trace_laws true input

pub returns-clause-ends : goal.returns-clause-ends
returns-clause-ends g c = ends_as _ _ _ _ _ _ _ _ _ _ _ _ (said c.play.result) c.play.ensures.ends

pub returns-clause-laws : goal.returns-clause-laws
returns-clause-laws g c = λ input told. trace_laws true input
