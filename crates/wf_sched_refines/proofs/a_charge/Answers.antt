-- Each clause is a law of Charges, Exchanges or Calls.
use Rattle.wf_sched_refines.proofs.Calls.{charge_fits, charge_fits_later, pay_back_fits}
use Rattle.wf_sched_refines.proofs.Charges.{charge_stands}
use Rattle.wf_sched_refines.proofs.Exchanges.{end_stands}
use Rattle.wf_sched_refines.proofs.a_charge.Goals as goal

pub returns-clause-charged : goal.returns-clause-charged
returns-clause-charged c = charge_stands

pub returns-clause-ended : goal.returns-clause-ended
returns-clause-ended c = end_stands

pub returns-clause-fits : goal.returns-clause-fits
returns-clause-fits c = charge_fits

pub returns-clause-paid_back : goal.returns-clause-paid_back
returns-clause-paid_back c = pay_back_fits

pub returns-clause-after_paid_back : goal.returns-clause-after_paid_back
returns-clause-after_paid_back c = charge_fits_later
