-- Proves the law `an_agreement_begins` by the lemmas of Modes.
use Rattle.wf_send_half_model.proofs.Modes.{begin_empty, begin_meets}
use Rattle.wf_send_half_model.proofs.an_agreement_begins.Goals as goal

pub returns-clause-empty : goal.returns-clause-empty
returns-clause-empty c = begin_empty

pub returns-clause-begun : goal.returns-clause-begun
returns-clause-begun c = begin_meets
