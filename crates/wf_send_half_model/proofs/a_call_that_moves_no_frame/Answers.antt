-- Proves the law `a_call_that_moves_no_frame` by the lemmas of Whole and Receipts.
use Rattle.wf_send_half_model.proofs.Receipts.{rx_meets}
use Rattle.wf_send_half_model.proofs.Whole.{tick_meets, reap_meets, rate_meets, sleep_meets, wake_meets, poll_meets, ampdu_meets, stop_meets, start_meets, bss_meets}
use Rattle.wf_send_half_model.proofs.a_call_that_moves_no_frame.Goals as goal

pub returns-clause-tick : goal.returns-clause-tick
returns-clause-tick c = tick_meets

pub returns-clause-reap : goal.returns-clause-reap
returns-clause-reap c = reap_meets

pub returns-clause-rate : goal.returns-clause-rate
returns-clause-rate c = rate_meets

pub returns-clause-rx : goal.returns-clause-rx
returns-clause-rx c = rx_meets

pub returns-clause-sleep : goal.returns-clause-sleep
returns-clause-sleep c = sleep_meets

pub returns-clause-wake : goal.returns-clause-wake
returns-clause-wake c = wake_meets

pub returns-clause-poll : goal.returns-clause-poll
returns-clause-poll c = poll_meets

pub returns-clause-ampdu : goal.returns-clause-ampdu
returns-clause-ampdu c = ampdu_meets

pub returns-clause-bss : goal.returns-clause-bss
returns-clause-bss c = bss_meets

pub returns-clause-stop : goal.returns-clause-stop
returns-clause-stop c = stop_meets

pub returns-clause-start : goal.returns-clause-start
returns-clause-start c = start_meets
