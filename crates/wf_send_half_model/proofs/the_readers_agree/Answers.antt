-- Proves the law `the_readers_agree` by the lemmas of Readers.
use Rattle.wf_send_half_model.proofs.Groups.{any_asleep_same}
use Rattle.wf_send_half_model.proofs.Pulls.{more_in_same}
use Rattle.wf_send_half_model.proofs.Readers.{live_same, queued_same, due_same, waiting_same, waiting_count_same, agreed_same, held_back_same, offloaded_same, plain_same, can_give_same, can_send_same, can_send_in_same, ready_same, to_list_same, pending_same, deficit_same, asks_same, exchange_same, station_count_same, tid_count_same, class_count_same, airtime_same, ahead_same, class_queued_same, any_tid_same, live_credit_same, class_same}
use Rattle.wf_send_half_model.proofs.the_readers_agree.Goals as goal

pub returns-clause-live : goal.returns-clause-live
returns-clause-live c = live_same

pub returns-clause-queued : goal.returns-clause-queued
returns-clause-queued c = queued_same

pub returns-clause-due : goal.returns-clause-due
returns-clause-due c = due_same

pub returns-clause-waiting : goal.returns-clause-waiting
returns-clause-waiting c = waiting_same

pub returns-clause-numbers_waiting : goal.returns-clause-numbers_waiting
returns-clause-numbers_waiting c = waiting_count_same

pub returns-clause-agreed : goal.returns-clause-agreed
returns-clause-agreed c = agreed_same

pub returns-clause-held_back : goal.returns-clause-held_back
returns-clause-held_back c = held_back_same

pub returns-clause-offloaded : goal.returns-clause-offloaded
returns-clause-offloaded c = offloaded_same

pub returns-clause-plain : goal.returns-clause-plain
returns-clause-plain c = plain_same

pub returns-clause-can_give : goal.returns-clause-can_give
returns-clause-can_give c = can_give_same

pub returns-clause-of_tid : goal.returns-clause-of_tid
returns-clause-of_tid c = tid_count_same

pub returns-clause-can_send : goal.returns-clause-can_send
returns-clause-can_send c = can_send_same

pub returns-clause-can_send_in : goal.returns-clause-can_send_in
returns-clause-can_send_in c = can_send_in_same

pub returns-clause-ready : goal.returns-clause-ready
returns-clause-ready c = ready_same

pub returns-clause-asks : goal.returns-clause-asks
returns-clause-asks c = asks_same

pub returns-clause-exchange : goal.returns-clause-exchange
returns-clause-exchange c = exchange_same

pub returns-clause-of_station : goal.returns-clause-of_station
returns-clause-of_station c = station_count_same

pub returns-clause-of_class : goal.returns-clause-of_class
returns-clause-of_class c = class_count_same

pub returns-clause-airtime : goal.returns-clause-airtime
returns-clause-airtime c = airtime_same

pub returns-clause-ahead : goal.returns-clause-ahead
returns-clause-ahead c = ahead_same

pub returns-clause-class_queued : goal.returns-clause-class_queued
returns-clause-class_queued c = class_queued_same

pub returns-clause-any_tid : goal.returns-clause-any_tid
returns-clause-any_tid c = any_tid_same

pub returns-clause-first : goal.returns-clause-first
returns-clause-first c = class_same

pub returns-clause-power_save : goal.returns-clause-power_save
returns-clause-power_save c v w bodies s h live = h.others.stations.rests s live

pub returns-clause-more : goal.returns-clause-more
returns-clause-more c = more_in_same

pub returns-clause-to_list : goal.returns-clause-to_list
returns-clause-to_list c = to_list_same

pub returns-clause-pending : goal.returns-clause-pending
returns-clause-pending c = pending_same

pub returns-clause-deficit : goal.returns-clause-deficit
returns-clause-deficit c = deficit_same

pub returns-clause-live_credit : goal.returns-clause-live_credit
returns-clause-live_credit c = live_credit_same

pub returns-clause-any_asleep : goal.returns-clause-any_asleep
returns-clause-any_asleep c = any_asleep_same
