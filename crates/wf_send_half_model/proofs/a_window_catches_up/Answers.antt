-- Proves the law `a_window_catches_up` by the lemmas of Catching.
use Rattle.wf_send_half_model.proofs.Catching.{plain_parts, agreed_parts}
use Rattle.wf_send_half_model.proofs.a_window_catches_up.Goals as goal

pub returns-clause-plain : goal.returns-clause-plain
returns-clause-plain c = plain_parts

pub returns-clause-agreed : goal.returns-clause-agreed
returns-clause-agreed c = agreed_parts
