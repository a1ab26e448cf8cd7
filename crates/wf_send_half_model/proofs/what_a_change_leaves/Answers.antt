-- Proves the law `what_a_change_leaves` by the lemmas of Views and Listings.
use Rattle.wf_send_half_model.proofs.Views.{agreements_rest, agreements_station, agreements_share, agreements_receiver, agreements_queues, roster_rest, roster_same_station, roster_share, roster_on_tid, roster_session, ledger_by, ledger_station, ledger_session, ledger_share, ledger_queue}
use Rattle.wf_send_half_model.proofs.Listings.{views_rotation}
use Rattle.wf_send_half_model.proofs.what_a_change_leaves.Goals as goal

pub returns-clause-agreements_rest : goal.returns-clause-agreements_rest
returns-clause-agreements_rest c = agreements_rest

pub returns-clause-agreements_station : goal.returns-clause-agreements_station
returns-clause-agreements_station c = agreements_station

pub returns-clause-agreements_share : goal.returns-clause-agreements_share
returns-clause-agreements_share c = agreements_share

pub returns-clause-agreements_receiver : goal.returns-clause-agreements_receiver
returns-clause-agreements_receiver c = agreements_receiver

pub returns-clause-agreements_queues : goal.returns-clause-agreements_queues
returns-clause-agreements_queues c = agreements_queues

pub returns-clause-roster_rest : goal.returns-clause-roster_rest
returns-clause-roster_rest c = roster_rest

pub returns-clause-roster_station : goal.returns-clause-roster_station
returns-clause-roster_station c = roster_same_station

pub returns-clause-roster_share : goal.returns-clause-roster_share
returns-clause-roster_share c = roster_share

pub returns-clause-roster_tid : goal.returns-clause-roster_tid
returns-clause-roster_tid c = roster_on_tid

pub returns-clause-roster_session : goal.returns-clause-roster_session
returns-clause-roster_session c = roster_session

pub returns-clause-ledger_same : goal.returns-clause-ledger_same
returns-clause-ledger_same c = λ w u. ledger_by u w

pub returns-clause-ledger_station : goal.returns-clause-ledger_station
returns-clause-ledger_station c = ledger_station

pub returns-clause-ledger_session : goal.returns-clause-ledger_session
returns-clause-ledger_session c = ledger_session

pub returns-clause-ledger_share : goal.returns-clause-ledger_share
returns-clause-ledger_share c = ledger_share

pub returns-clause-ledger_queue : goal.returns-clause-ledger_queue
returns-clause-ledger_queue c = ledger_queue

pub returns-clause-lists : goal.returns-clause-lists
returns-clause-lists c = views_rotation
