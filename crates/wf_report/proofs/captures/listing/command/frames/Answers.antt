-- Proves how the command ends if there is no memory for the buffer, and the law of lists.
use Rattle.std.proofs.Common.{refl}
use Rattle.wf_trace.proofs.CommandEndings as endings
use Rattle.wf_io.specs.declared.status.Status.TheVariants.{NoMemory}
use Rattle.wf_report.specs.ListedPackets.{listing}
use Rattle.wf_report.proofs.Openings.{ends_memory}
use Rattle.wf_report.proofs.Complete.{answered}
use Rattle.wf_report.proofs.WrittenCaptures.{frames_law}
use Rattle.wf_report.proofs.captures.listing.command.frames.Goals as goal

pub returns-in_default-clause-ends : goal.returns-in_default-clause-ends
returns-in_default-clause-ends g c =
    endings.ends_quiet _ _ _ _ _ _ _ _ _ _ NoMemory tt (answered listing)
    (ends_memory (g.S.Source.left c.args.source.now) (g.K.Sink.held c.args.sink.now)) refl refl

pub returns-in_default-clause-law : goal.returns-in_default-clause-law
returns-in_default-clause-law g c = λ input told. frames_law input

pub returns-clause-ends : goal.returns-clause-ends
returns-clause-ends g c = c.list_capture.ensures.ends

pub returns-clause-law : goal.returns-clause-law
returns-clause-law g c = λ input told. frames_law input
