-- Proves the law; see proofs/Listed.
use Rattle.wf_report.proofs.Listed.{run_listed}
use Rattle.wf_report.proofs.captures.law.captured_run_is_listed.Goals as goal

pub returns : goal.returns
returns c = run_listed
