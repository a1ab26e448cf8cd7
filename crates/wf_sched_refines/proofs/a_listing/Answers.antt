-- Each clause is a law of Listings.
use Rattle.wf_sched_refines.proofs.Listings.{list_stands, debtor_stands, idle_stands, ready_same, debts_same, list_all_stands, concerned_stands, unconcerned_stands, where_more}
use Rattle.wf_sched_refines.proofs.a_listing.Goals as goal

pub returns-clause-ready : goal.returns-clause-ready
returns-clause-ready c = list_stands

pub returns-clause-debtor : goal.returns-clause-debtor
returns-clause-debtor c = debtor_stands

pub returns-clause-idle : goal.returns-clause-idle
returns-clause-idle c = idle_stands

pub returns-clause-readiness : goal.returns-clause-readiness
returns-clause-readiness c = ready_same

pub returns-clause-debts : goal.returns-clause-debts
returns-clause-debts c = debts_same

pub returns-clause-all : goal.returns-clause-all
returns-clause-all c = list_all_stands

pub returns-clause-concerned : goal.returns-clause-concerned
returns-clause-concerned c = concerned_stands

pub returns-clause-unconcerned : goal.returns-clause-unconcerned
returns-clause-unconcerned c = unconcerned_stands

pub returns-clause-more : goal.returns-clause-more
returns-clause-more c = where_more
