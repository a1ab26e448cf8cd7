-- Proves the law `a_mode_changes` by the lemmas of Modes.
use Rattle.wf_send_half_model.proofs.Modes.{hold_meets, free_meets}
use Rattle.wf_send_half_model.proofs.a_mode_changes.Goals as goal

pub returns-clause-held : goal.returns-clause-held
returns-clause-held c = hold_meets

pub returns-clause-freed : goal.returns-clause-freed
returns-clause-freed c = free_meets
