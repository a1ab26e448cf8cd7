-- Proves the law `an_agreement_ends` by the lemmas of Modes.
use Rattle.wf_send_half_model.proofs.Modes.{cease_empty, cease_meets}
use Rattle.wf_send_half_model.proofs.an_agreement_ends.Goals as goal

pub returns-clause-empty : goal.returns-clause-empty
returns-clause-empty c = cease_empty

pub returns-clause-ceased : goal.returns-clause-ceased
returns-clause-ceased c = cease_meets
