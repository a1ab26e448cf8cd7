-- Each clause is a law of Leaves.
use Rattle.wf_queue_flows_refines.proofs.Leaves.{stands_same, clock_alone, station_alone, share_alone, session_alone, receiver_alone, mode_alone, window_alone, caught_alone, caught_if_alone, rotation_alone, exchange_alone, closing_alone, opened_alone, pick_alone, bounds_alone, turn_alone, listed_alone}
use Rattle.wf_queue_flows_refines.proofs.the_rest_does_not_matter.Goals as goal

pub returns-clause-same : goal.returns-clause-same
returns-clause-same c = stands_same

pub returns-clause-clock : goal.returns-clause-clock
returns-clause-clock c = clock_alone

pub returns-clause-station : goal.returns-clause-station
returns-clause-station c = station_alone

pub returns-clause-share : goal.returns-clause-share
returns-clause-share c = share_alone

pub returns-clause-session : goal.returns-clause-session
returns-clause-session c = session_alone

pub returns-clause-receiver : goal.returns-clause-receiver
returns-clause-receiver c = receiver_alone

pub returns-clause-rotation : goal.returns-clause-rotation
returns-clause-rotation c = rotation_alone

pub returns-clause-exchange : goal.returns-clause-exchange
returns-clause-exchange c = exchange_alone

pub returns-clause-closed : goal.returns-clause-closed
returns-clause-closed c = closing_alone

pub returns-clause-opened : goal.returns-clause-opened
returns-clause-opened c = opened_alone

pub returns-clause-pick : goal.returns-clause-pick
returns-clause-pick c = pick_alone

pub returns-clause-bounds : goal.returns-clause-bounds
returns-clause-bounds c = bounds_alone

pub returns-clause-turn : goal.returns-clause-turn
returns-clause-turn c = turn_alone

pub returns-clause-listed : goal.returns-clause-listed
returns-clause-listed c = listed_alone

pub returns-clause-mode : goal.returns-clause-mode
returns-clause-mode c = mode_alone

pub returns-clause-window : goal.returns-clause-window
returns-clause-window c = window_alone

pub returns-clause-caught_up : goal.returns-clause-caught_up
returns-clause-caught_up c = caught_alone

pub returns-clause-caught_up_if_plain : goal.returns-clause-caught_up_if_plain
returns-clause-caught_up_if_plain c = caught_if_alone
