-- Names the definitions that have to be unfolded to compute with the machine: a proof with `unfolding
-- the_machine` computes with all of them.
use Rattle.wf_def_codel.specs.Codel.{step_of, drops_dropping, state_dropping, drops_plain, state_plain, drops, state_after, dequeue}
use Rattle.wf_def_rotation.specs.Rotation.{pick}
use Rattle.wf_def_world.specs.World.{with_mode, with_station, on_station, on_tid, on_session, on_receiver, with_queues, on_share, on_queue, with_rotation, with_fate, with_frame_finished, with_frames_finished, with_exchange, without_exchange}
use Rattle.wf_def_world.specs.FlowQueues.{without_head, after_limit, with_listed_queue, with_appended, after_put_in, with_queues_paid, taken_by_codel, taken_from_picked, taken_for_tid, after_queue_left, after_queues_left, after_queue_flushed, after_queues_flushed}
use Rattle.wf_def_world.specs.CanSend.{with_listing_in, with_listings_in, with_listings_of}
use Rattle.wf_def_world.specs.Exchanges.{with_station_paid, with_stations_paid, after_pick, after_tid_turn, longest_fitting, with_fresh, aggregate_of, with_number, with_spent, prepared_data, prepared_exchange, with_exchange_opened, after_charge, with_failed_finished, with_settled, with_all_settled, caught_up, caught_up_if_plain, after_done}
use Rattle.wf_def_world.specs.Step.{join_outcome, offload_outcome, plain_outcome, with_window, hold_outcome, begin_outcome, free_outcome, after_numbers_ended, cease_outcome, with_deficits_lowered, weight_outcome, after_tid_left, after_tids_left, without_listings, leave_outcome, after_tid_flushed, flush_outcome, rate_outcome, tick_outcome, with_frame, enqueue_outcome, send_outcome, pull_outcome_for, pull_outcome, arrive_outcome, answer_outcome, unsent_outcome, give_up_outcome, done_outcome, outcome_where_open, sleep_outcome, wake_outcome, poll_outcome, rx_outcome, reap_outcome, outcome_of, after_refusal, judged_outcome, step}
use Rattle.wf_def_world.specs.Run.{world_after, replies}
use Rattle.wf_def_world.specs.Refusals.{first_refusal}

unfoldable pub the_machine : Type 0
unfolding step_of drops_dropping state_dropping drops_plain state_plain drops state_after first_refusal
    dequeue pick with_station on_station on_tid on_session on_receiver with_queues on_share on_queue
    with_rotation with_fate with_frame_finished with_frames_finished with_exchange without_exchange
    without_head after_limit with_listed_queue with_appended after_put_in with_queues_paid
    taken_by_codel taken_from_picked taken_for_tid after_queue_left after_queues_left
    after_queue_flushed after_queues_flushed with_listing_in
    with_listings_in with_listings_of with_station_paid with_stations_paid after_pick after_tid_turn
    longest_fitting with_fresh aggregate_of with_number with_spent prepared_data prepared_exchange
    with_exchange_opened after_charge with_failed_finished with_settled with_all_settled after_done
    caught_up caught_up_if_plain with_deficits_lowered offload_outcome weight_outcome plain_outcome
    with_mode with_window hold_outcome begin_outcome free_outcome after_numbers_ended cease_outcome
    join_outcome after_tid_left after_tids_left without_listings leave_outcome
    after_tid_flushed flush_outcome rate_outcome tick_outcome
    with_frame enqueue_outcome send_outcome pull_outcome_for pull_outcome arrive_outcome answer_outcome
    unsent_outcome give_up_outcome
    done_outcome outcome_where_open sleep_outcome wake_outcome poll_outcome rx_outcome reap_outcome
    outcome_of after_refusal judged_outcome step world_after replies
the_machine = Unit {0}
