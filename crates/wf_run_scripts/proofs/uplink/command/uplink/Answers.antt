-- Proves how the command ends if it finds no memory before it reads, and the laws of the uplink.
use Rattle.std.proofs.Common.{refl}
use Rattle.wf_trace.proofs.CommandEndings.{ends_quiet}
use Rattle.wf_io.specs.declared.status.Status.TheVariants.{NoMemory}
use Rattle.wf_trace.proofs.Complete.{answered}
use Rattle.wf_trace.proofs.Conversing.{over_at_once}
use Rattle.wf_run_scripts.specs.UplinkLines.{grammar}
use Rattle.wf_run_scripts.specs.UplinkAnswers.{manner, first}
use Rattle.wf_run_scripts.proofs.UplinkScripts.{uplink_law}
use Rattle.wf_run_scripts.proofs.uplink.command.uplink.Goals as goal

pub returns-in_default-clause-ends : goal.returns-in_default-clause-ends
returns-in_default-clause-ends g c =
    ends_quiet _ _ _ _ _ _ _ _ _ _ NoMemory tt (answered grammar manner first)
    (over_at_once grammar manner first (g.S.Source.left c.args.source.now) (g.K.Sink.held c.args.sink.now))
    refl refl

pub returns-in_default-clause-law : goal.returns-in_default-clause-law
returns-in_default-clause-law g c = λ input told. uplink_law input

pub returns-clause-law : goal.returns-clause-law
returns-clause-law g c = λ input told. uplink_law input
