-- Proves the law of agreements for the script that is the input.
use Rattle.wf_run_scripts.proofs.SessionLaw.{session_law}
use Rattle.wf_run_scripts.proofs.session.command.session.Goals as goal

pub returns-clause-law : goal.returns-clause-law
returns-clause-law g c = λ input told. session_law input
