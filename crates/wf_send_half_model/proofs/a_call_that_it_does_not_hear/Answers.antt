-- Proves the law `a_call_that_it_does_not_hear` by the lemmas of Whole.
use Rattle.wf_send_half_model.proofs.Whole.{arrive_stands, answer_stands}
use Rattle.wf_send_half_model.proofs.a_call_that_it_does_not_hear.Goals as goal

pub returns-clause-arrive : goal.returns-clause-arrive
returns-clause-arrive c = arrive_stands

pub returns-clause-answer : goal.returns-clause-answer
returns-clause-answer c = answer_stands
