-- Each clause is a law of Unchanged or Exchanges.
use Rattle.wf_sched_refines.proofs.Unchanged.{filled_leaves, prepared_leaves, exchange_leaves, after_done_leaves}
use Rattle.wf_sched_refines.proofs.Exchanges.{opened_stands, sent_stands, closed_stands}
use Rattle.wf_sched_refines.proofs.a_change_of_exchanges.Goals as goal

pub returns-clause-filled : goal.returns-clause-filled
returns-clause-filled c = filled_leaves

pub returns-clause-prepared : goal.returns-clause-prepared
returns-clause-prepared c = prepared_leaves

pub returns-clause-opened : goal.returns-clause-opened
returns-clause-opened c = opened_stands

pub returns-clause-sent : goal.returns-clause-sent
returns-clause-sent c = sent_stands

pub returns-clause-told : goal.returns-clause-told
returns-clause-told c = exchange_leaves

pub returns-clause-closed : goal.returns-clause-closed
returns-clause-closed c = closed_stands

pub returns-clause-settled : goal.returns-clause-settled
returns-clause-settled c = after_done_leaves
