-- Proves the law `the_marks_fit` by the lemmas of FitMarks.
use Rattle.wf_send_half_model.proofs.FitMarks.{marks_fit, answered_sent, unsent_at, given_up_at}
use Rattle.wf_send_half_model.proofs.the_marks_fit.Goals as goal

pub returns-clause-fit : goal.returns-clause-fit
returns-clause-fit c = marks_fit

pub returns-clause-answered : goal.returns-clause-answered
returns-clause-answered c = answered_sent

pub returns-clause-unsent : goal.returns-clause-unsent
returns-clause-unsent c = unsent_at

pub returns-clause-given_up : goal.returns-clause-given_up
returns-clause-given_up c = given_up_at
