-- Proves `shown_law`, by Shown.
use Rattle.wf_law_driver.proofs.Shown.{settles_alike, ends_as_lost}
use Rattle.wf_law_driver.proofs.shown_law.Goals as goal

pub returns-clause-alike : goal.returns-clause-alike
returns-clause-alike c = settles_alike

pub returns-clause-none : goal.returns-clause-none
returns-clause-none c = ends_as_lost
