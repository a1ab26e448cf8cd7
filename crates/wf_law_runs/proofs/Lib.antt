-- The proofs of the laws, in a folder for each group of laws. A file Law, or one with the name of the law,
-- contains the lemma that proves the law. AllLaws combines them.
--
--   law of lib.rt                               proved in
--   window_law, answer_law, twelve_bit_law      Windows (Law, Answers, TwelveBits)
--   release_law, once_law                       Releases (Named, Once)
--   offload_law                                 Offloads (Law)
--   mode_law, repeat_law                        Modes (Law, Repeats)
--   flow_queue_law, flow_release_law,           Orders (Law, Sends)
--     flow_send_law
--   delivery_law, fate_law, finished_law,       Frames (DeliveryLaw, FateLaw, FinishedLaw, Places, Rooms,
--     place_law, room_law, tally_law              Tallies)
--   kept_law                                    Kept (Law)
--   queue_law, queue_deficit_law, limit_law     Queues (Law, Limit)
--   codel_law                                   Dequeues (Law)
--   range_law                                   Ranges (Law)
--   deficit_law, quiet_law, number_law,         Deficits (Law, Quiet, Numbers, InFlight, Delay)
--     in_flight_law, delay_law
--   fairness_law                                Fairness (Law)
--   share_law, waiting_law, sparse_law,         Shares (Law, Waits, Weights), Spent (Law, Awaited)
--     weight_law
--   computed_law, spent_law                     Spent (Computed, Sent)
--   sum_law                                     Sums (Law)
--   sent_law                                    Sent (Law)
--   attempts_law                                Attempts (Law)
--   tries_law                                   Tries (Law)
--   rotation_law                                Rotations (Law)
--   unsettled_law                               Unsettled (Law)
--   group_apart_law, group_count_law,           Groups (Apart, Counts, Orders, Beacons)
--     group_order_law, dtim_law,
--     announced_law, group_more_law
--   granted_law, trigger_law, eosp_law,         Services (Granted, Periods, Limits, Apart)
--     last_law, service_limit_law,
--     service_end_law, service_apart_law
--
-- Each law is an invariant of worlds, or a relation between a world and a later one. For each part of a
-- call, a lemma with the name of this part proves that the part keeps it. Further lemmas prove the same for
-- each case of the call (.._done), the refusal (.._refused), the answer (.._answer), the step (.._step) and
-- the run (.._run).
pub mod Common
pub mod Sessions
pub mod Windows
mod Offloads
pub mod Modes
pub mod Releases
pub mod Frames
pub mod Kept
pub mod Queues
mod Dequeues
pub mod Deficits
pub mod Ranges
mod Fairness
mod Shares
mod Spent
pub mod Sums
pub mod Sent
pub mod Attempts
mod Tries
mod Rotations
mod Unsettled
pub mod Groups
mod Services
mod Orders
mod Witnesses
pub mod AllLaws
