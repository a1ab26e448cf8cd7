-- Proves the law; see proofs/WrittenCaptures.
use Rattle.wf_report.proofs.WrittenCaptures.{written_law}
use Rattle.wf_report.proofs.captures.listing.law.written_capture_is_listed.Goals as goal

pub returns : goal.returns
returns c = written_law
