-- Proves the law `the_counts_follow` by the lemmas of Ledgers.
use Rattle.wf_send_half_model.proofs.Ledgers.{ledger_finish, ledger_finish_all, ledger_limit}
use Rattle.wf_send_half_model.proofs.the_counts_follow.Goals as goal

pub returns-clause-one : goal.returns-clause-one
returns-clause-one c = ledger_finish

pub returns-clause-many : goal.returns-clause-many
returns-clause-many c = ledger_finish_all

pub returns-clause-limit : goal.returns-clause-limit
returns-clause-limit c = ledger_limit
