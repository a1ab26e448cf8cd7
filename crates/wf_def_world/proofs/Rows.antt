-- Proves, by computing, what the machine replies to worked histories. The name of each row says what it
-- shows. The histories are written as the program reads them, one call per line. Rows omit the first
-- replies if these show nothing new.
use Rattle.std.proofs.Common.{◌≡◌, refl, pos, negsuc, true, false, List, [], ◌∷◌, ◌++◌, drop, map, Some, None}
use Rattle.wf_frame.specs.declared.classes.Class.TheVariants.{Be, Vo}
use Rattle.wf_frame.specs.declared.classes.Cause.TheVariants.{Overlimit, Codel, Retries, Left}
use Rattle.wf_frame.specs.declared.classes.Fate.TheVariants.{Acked, Dropped}
use Rattle.wf_frame.specs.declared.notes.Ask.TheVariants.{Join, Leave, Rate, Tick, Pull, Arrive, Answer, Done, Sleep, Wake, Poll, Rx, Reap}
use Rattle.wf_frame.specs.declared.notes.AskedRate.TheVariants.{Ht, Vht, He}
use Rattle.wf_frame.specs.declared.notes.Note.TheVariants.{Enqueue, Asked}
use Rattle.wf_frame.specs.declared.notes.Refusal.TheVariants.{BadStation, BadWindow, BadStart, BadExponent, BadRate, BadTick, BadTid, BadAir, BadIndex, Live, NoStation, NoExchange, NoAnswer, Idle, Answered, Arrived, Nothing, Asleep, Awake, Polled, BadWeight, Open, Room, Sleeping, Full, Debt}
use Rattle.wf_frame.specs.declared.notes.ReplyNote.TheVariants.{Joined, Set, Now, Accepted, Send, Released, Ba, Slept, Charged, Reaped, Refused}
use Rattle.wf_frame.specs.declared.notes.ReplyNote.TheVariants as reply
use Rattle.wf_frame.specs.declared.notes.Part.TheVariants.{Mpdus, Request}
use Rattle.wf_frame.specs.Settings.{standard}
use Rattle.wf_def_world.specs.World.{opening}
use Rattle.wf_def_world.specs.Run.{Entry, by, replies}
use Rattle.wf_def_world.specs.Computed.{the_machine}
use Rattle.wf_def_world.proofs.Rehearsals.{times}
use Rattle.wf_frame.specs.Calls.{no_limits}

-- two frames in one aggregate at a fast rate
abbrev pub fast_rate_two_frames_calls : List Entry
fast_rate_two_frames_calls = map (by 0) (
    Asked (Join 0 64 100 3 1) ∷
    Asked (Rate 0 (Ht 7 20 false)) ∷
    Enqueue 0 0 7 1500 ∷
    Enqueue 0 0 7 1500 ∷
    Asked (Pull Be no_limits) ∷
    [])

pub fast_rate_two_frames : drop 4 (replies (opening standard) fast_rate_two_frames_calls) ≡
    Send 0 0 0 464 (Mpdus ((0, 100) ∷ (1, 101) ∷ [])) false false ∷ []
unfolding the_machine
fast_rate_two_frames = refl

-- a frame at a VHT rate: 60 microseconds, and 48 for the pause and the answer
abbrev pub vht_rate_one_frame_calls : List Entry
vht_rate_one_frame_calls = map (by 0) (
    Asked (Join 0 64 100 3 1) ∷
    Asked (Rate 0 (Vht 9 80 true 2)) ∷
    Enqueue 0 0 7 1500 ∷
    Asked (Pull Be no_limits) ∷
    [])

pub vht_rate_one_frame : replies (opening standard) vht_rate_one_frame_calls ≡
    Joined ∷
    Set ∷
    Accepted 0 None ∷
    Send 0 0 0 108 (Mpdus ((0, 100) ∷ [])) false false ∷ []
unfolding the_machine
vht_rate_one_frame = refl

-- a frame at an HE rate: 64 microseconds, and 48 for the pause and the answer
abbrev pub he_rate_one_frame_calls : List Entry
he_rate_one_frame_calls = map (by 0) (
    Asked (Join 0 64 100 3 1) ∷
    Asked (Rate 0 (He 11 80 800 2)) ∷
    Enqueue 0 0 7 1500 ∷
    Asked (Pull Be no_limits) ∷
    [])

pub he_rate_one_frame : replies (opening standard) he_rate_one_frame_calls ≡
    Joined ∷
    Set ∷
    Accepted 0 None ∷
    Send 0 0 0 112 (Mpdus ((0, 100) ∷ [])) false false ∷ []
unfolding the_machine
he_rate_one_frame = refl

-- VHT has no rate for some combinations of MCS, width and streams, and HE has no guard interval of 400
-- nanoseconds
abbrev pub rates_of_vht_and_he_calls : List Entry
rates_of_vht_and_he_calls = map (by 0) (
    Asked (Join 0 64 0 3 1) ∷
    Asked (Rate 0 (Vht 9 80 true 2)) ∷
    Asked (Rate 0 (Vht 9 20 true 2)) ∷
    Asked (Rate 0 (Vht 9 20 true 3)) ∷
    Asked (Rate 0 (He 11 160 800 4)) ∷
    Asked (Rate 0 (He 11 160 400 4)) ∷
    [])

pub rates_of_vht_and_he : replies (opening standard) rates_of_vht_and_he_calls ≡
    Joined ∷
    Set ∷
    Refused BadRate ∷
    Set ∷
    Set ∷
    Refused BadRate ∷ []
unfolding the_machine
rates_of_vht_and_he = refl

-- a frame is sent again if its answer is not heard
abbrev pub lost_ack_resends_calls : List Entry
lost_ack_resends_calls = map (by 0) (
    Asked (Join 0 64 100 3 1) ∷
    Enqueue 0 0 7 1500 ∷
    Asked (Pull Be no_limits) ∷
    Asked (Arrive 0 0) ∷
    Asked (Answer 0) ∷
    Asked (Done 0 false None) ∷
    Asked (Pull Be no_limits) ∷
    Asked (Arrive 1 0) ∷
    Asked (Answer 1) ∷
    Asked (Done 1 true None) ∷
    [])

pub lost_ack_resends : replies (opening standard) lost_ack_resends_calls ≡
    Joined ∷
    Accepted 0 None ∷
    Send 0 0 0 1976 (Mpdus ((0, 100) ∷ [])) false false ∷
    Released (0 ∷ []) ∷
    Ba 100 1 0 0 0 false ∷
    reply.Done 0 1 0 ∷
    Send 1 0 0 1976 (Mpdus ((0, 100) ∷ [])) false false ∷
    Released [] ∷
    Ba 100 1 0 0 0 false ∷
    reply.Done 1 0 0 ∷ []
unfolding the_machine
lost_ack_resends = refl

-- sequence numbers wrap after 4095
abbrev pub sequence_wraps_past_4095_calls : List Entry
sequence_wraps_past_4095_calls = map (by 0) (
    Asked (Join 0 64 4095 3 1) ∷
    Enqueue 0 0 7 1500 ∷
    Enqueue 0 0 7 1500 ∷
    Asked (Pull Be no_limits) ∷
    Asked (Arrive 0 0) ∷
    Asked (Arrive 0 1) ∷
    Asked (Answer 0) ∷
    Asked (Done 0 true None) ∷
    [])

pub sequence_wraps_past_4095 : drop 3 (replies (opening standard) sequence_wraps_past_4095_calls) ≡
    Send 0 0 0 3868 (Mpdus ((0, 4095) ∷ (1, 0) ∷ [])) false false ∷
    Released (0 ∷ []) ∷
    Released (1 ∷ []) ∷
    Ba 4095 3 0 0 0 false ∷
    reply.Done 2 0 0 ∷ []
unfolding the_machine
sequence_wraps_past_4095 = refl

-- the first of two frames does not arrive: nothing is released
abbrev pub second_of_two_arrives_calls : List Entry
second_of_two_arrives_calls = map (by 0) (
    Asked (Join 0 64 100 3 1) ∷
    Enqueue 0 0 7 1500 ∷
    Enqueue 0 0 7 1500 ∷
    Asked (Pull Be no_limits) ∷
    Asked (Arrive 0 1) ∷
    Asked (Answer 0) ∷
    Asked (Done 0 true None) ∷
    [])

pub second_of_two_arrives : drop 3 (replies (opening standard) second_of_two_arrives_calls) ≡
    Send 0 0 0 3868 (Mpdus ((0, 100) ∷ (1, 101) ∷ [])) false false ∷
    Released [] ∷
    Ba 100 2 0 0 0 false ∷
    reply.Done 1 1 0 ∷ []
unfolding the_machine
second_of_two_arrives = refl

-- the last transmission of a frame fails, and a request moves the receiver past its number
abbrev pub failed_frame_then_request_calls : List Entry
failed_frame_then_request_calls = map (by 0) (
    Asked (Join 0 64 100 3 1) ∷
    Enqueue 0 0 7 1500 ∷
    Enqueue 0 0 7 1500 ∷
    Asked (Pull Be no_limits) ∷
    Asked (Arrive 0 1) ∷
    Asked (Answer 0) ∷
    Asked (Done 0 true None) ∷
    Asked (Pull Be no_limits) ∷
    Asked (Pull Be no_limits) ∷
    Asked (Arrive 1 0) ∷
    Asked (Answer 1) ∷
    Asked (Done 1 true None) ∷
    [])

pub failed_frame_then_request : drop 3 (replies
    (opening (record standard { attempts = 1 })) failed_frame_then_request_calls) ≡
    Send 0 0 0 3868 (Mpdus ((0, 100) ∷ (1, 101) ∷ [])) false false ∷
    Released [] ∷
    Ba 100 2 0 0 0 false ∷
    reply.Done 1 0 1 ∷
    Send 1 0 0 80 (Request 102) false false ∷
    Refused Idle ∷
    Released (1 ∷ []) ∷
    Ba 102 0 0 0 0 false ∷
    reply.Done 0 0 0 ∷ []
unfolding the_machine
failed_frame_then_request = refl

-- a request is sent until it is heard, and no new number before that
abbrev pub request_lost_three_times_calls : List Entry
request_lost_three_times_calls = map (by 0) (
    Asked (Join 0 64 100 3 1) ∷
    Enqueue 0 0 7 1500 ∷
    Enqueue 0 0 7 1500 ∷
    Asked (Pull Be no_limits) ∷
    Asked (Arrive 0 1) ∷
    Asked (Answer 0) ∷
    Asked (Done 0 true None) ∷
    Enqueue 0 0 7 1500 ∷
    Asked (Pull Be no_limits) ∷
    Asked (Done 1 false None) ∷
    Asked (Pull Be no_limits) ∷
    Asked (Done 2 false None) ∷
    Asked (Pull Be no_limits) ∷
    Asked (Done 3 false None) ∷
    Asked (Pull Be no_limits) ∷
    Asked (Arrive 4 0) ∷
    Asked (Answer 4) ∷
    Asked (Done 4 true None) ∷
    Asked (Pull Be no_limits) ∷
    [])

pub request_lost_three_times : drop 7 (replies
    (opening (record standard { attempts = 1 })) request_lost_three_times_calls) ≡
    Accepted 2 None ∷
    Send 1 0 0 80 (Request 102) false false ∷
    reply.Done 0 0 0 ∷
    Send 2 0 0 80 (Request 102) false false ∷
    reply.Done 0 0 0 ∷
    Send 3 0 0 80 (Request 102) false false ∷
    reply.Done 0 0 0 ∷
    Send 4 0 0 80 (Request 102) false false ∷
    Released (1 ∷ []) ∷
    Ba 102 0 0 0 0 false ∷
    reply.Done 0 0 0 ∷
    Send 5 0 0 1976 (Mpdus ((2, 102) ∷ [])) false false ∷ []
unfolding the_machine
request_lost_three_times = refl

-- a frame that arrived may still be dropped for retries
abbrev pub dropped_for_retries_though_released_calls : List Entry
dropped_for_retries_though_released_calls = map (by 0) (
    Asked (Join 0 64 100 3 1) ∷
    Enqueue 0 0 7 1500 ∷
    Asked (Pull Be no_limits) ∷
    Asked (Arrive 0 0) ∷
    Asked (Answer 0) ∷
    Asked (Done 0 false None) ∷
    Asked Reap ∷
    [])

pub dropped_for_retries_though_released : drop 3
    (replies (opening (record standard { attempts = 1 })) dropped_for_retries_though_released_calls) ≡
    Released (0 ∷ []) ∷
    Ba 100 1 0 0 0 false ∷
    reply.Done 0 0 1 ∷
    Reaped 0 (Dropped Retries) ∷ []
unfolding the_machine
dropped_for_retries_though_released = refl

-- a request makes the receiver release the frames after a missing number
abbrev pub request_moves_receiver_calls : List Entry
request_moves_receiver_calls = map (by 0) (
    Asked (Join 0 64 100 3 1) ∷
    Enqueue 0 0 7 1500 ∷
    Enqueue 0 0 7 1500 ∷
    Asked (Pull Be no_limits) ∷
    Asked (Pull Be no_limits) ∷
    Asked (Arrive 1 0) ∷
    Asked (Answer 1) ∷
    Asked (Done 1 true None) ∷
    Asked (Done 0 false None) ∷
    Asked (Pull Be no_limits) ∷
    Asked (Arrive 2 0) ∷
    Asked (Answer 2) ∷
    Asked (Done 2 true None) ∷
    [])

pub request_moves_receiver : drop 9 (replies (opening (record standard { agg = 1; attempts = 1 }))
    request_moves_receiver_calls) ≡
    Send 2 0 0 80 (Request 102) false false ∷
    Released (1 ∷ []) ∷
    Ba 102 0 0 0 0 false ∷
    reply.Done 0 0 0 ∷ []
unfolding the_machine
request_moves_receiver = refl

-- the second of two exchanges ends first
abbrev pub two_windows_out_of_order_calls : List Entry
two_windows_out_of_order_calls = map (by 0) (
    Asked (Join 0 64 100 3 1) ∷
    Enqueue 0 0 7 1500 ∷
    Enqueue 0 0 7 1500 ∷
    Asked (Pull Be no_limits) ∷
    Asked (Pull Be no_limits) ∷
    Asked (Arrive 1 0) ∷
    Asked (Answer 1) ∷
    Asked (Done 1 true None) ∷
    Asked (Arrive 0 0) ∷
    Asked (Answer 0) ∷
    Asked (Done 0 true None) ∷
    [])

pub two_windows_out_of_order : drop 5 (replies
    (opening (record standard { agg = 1 })) two_windows_out_of_order_calls) ≡
    Released [] ∷
    Ba 100 2 0 0 0 false ∷
    reply.Done 1 0 0 ∷
    Released (0 ∷ 1 ∷ []) ∷
    Ba 100 3 0 0 0 false ∷
    reply.Done 1 0 0 ∷ []
unfolding the_machine
two_windows_out_of_order = refl

-- the setting `cap` on data time ends an aggregate
abbrev pub airtime_cap_ends_aggregate_calls : List Entry
airtime_cap_ends_aggregate_calls = map (by 0) (
    Asked (Join 0 64 100 3 1) ∷
    Asked (Rate 0 (Ht 7 20 false)) ∷
    times 21 (Enqueue 0 0 7 1500) ++
    Asked (Pull Be no_limits) ∷
    Asked (Pull Be no_limits) ∷
    [])

pub airtime_cap_ends_aggregate : drop 23 (replies (opening standard) airtime_cap_ends_aggregate_calls) ≡
    Send 0 0 0 3868 (Mpdus ((0, 100) ∷ (1, 101) ∷ (2, 102) ∷ (3, 103) ∷ (4, 104) ∷ (5, 105) ∷ (6, 106)
    ∷ (7, 107) ∷ (8, 108) ∷ (9, 109) ∷ (10, 110) ∷ (11, 111) ∷ (12, 112) ∷ (13, 113) ∷ (14, 114)
    ∷ (15, 115) ∷ (16, 116) ∷ (17, 117) ∷ (18, 118) ∷ (19, 119) ∷ [])) false false ∷
    Send 1 0 0 276 (Mpdus ((20, 120) ∷ [])) false false ∷ []
unfolding the_machine
airtime_cap_ends_aggregate = refl

-- the longest A-MPDU of exponent 0 ends an aggregate
abbrev pub exponent_zero_ends_aggregate_calls : List Entry
exponent_zero_ends_aggregate_calls = map (by 0) (
    Asked (Join 0 64 0 0 1) ∷
    Asked (Rate 0 (Ht 7 20 false)) ∷
    times 6 (Enqueue 0 0 7 1500) ++
    Asked (Pull Be no_limits) ∷
    Asked (Pull Be no_limits) ∷
    [])

pub exponent_zero_ends_aggregate : drop 8 (replies (opening standard) exponent_zero_ends_aggregate_calls) ≡
    Send 0 0 0 1032 (Mpdus ((0, 0) ∷ (1, 1) ∷ (2, 2) ∷ (3, 3) ∷ (4, 4) ∷ [])) false false ∷
    Send 1 0 0 276 (Mpdus ((5, 5) ∷ [])) false false ∷ []
unfolding the_machine
exponent_zero_ends_aggregate = refl

-- a class has as many open exchanges as it may have
abbrev pub two_open_exchanges_are_full_calls : List Entry
two_open_exchanges_are_full_calls = map (by 0) (
    Asked (Join 0 64 100 3 1) ∷
    times 3 (Enqueue 0 0 7 1500) ++
    times 3 (Asked (Pull Be no_limits)) ++
    [])

pub two_open_exchanges_are_full : drop 4 (replies
    (opening (record standard { agg = 1 })) two_open_exchanges_are_full_calls) ≡
    Send 0 0 0 1976 (Mpdus ((0, 100) ∷ [])) false false ∷
    Send 1 0 0 1976 (Mpdus ((1, 101) ∷ [])) false false ∷
    Refused (Full 2) ∷ []
unfolding the_machine
two_open_exchanges_are_full = refl

-- a window of two frames, both outstanding
abbrev pub window_of_two_stalls_calls : List Entry
window_of_two_stalls_calls = map (by 0) (
    Asked (Join 0 2 100 3 1) ∷
    times 3 (Enqueue 0 0 7 1500) ++
    times 3 (Asked (Pull Be no_limits)) ++
    Asked (Done 0 false None) ∷
    Asked (Pull Be no_limits) ∷
    [])

pub window_of_two_stalls : drop 6 (replies (opening (record standard { agg = 1; inflight = 4 }))
    window_of_two_stalls_calls) ≡
    Refused Idle ∷
    reply.Done 0 1 0 ∷
    Send 2 0 0 1976 (Mpdus ((0, 100) ∷ [])) false false ∷ []
unfolding the_machine
window_of_two_stalls = refl

-- at the limit the longest queue drops its head
abbrev pub limit_drops_longest_head_calls : List Entry
limit_drops_longest_head_calls = map (by 0) (
    Asked (Join 0 64 100 3 1) ∷
    Enqueue 0 0 1 100 ∷
    Enqueue 0 0 2 200 ∷
    Enqueue 0 0 3 300 ∷
    Asked Reap ∷
    [])

pub limit_drops_longest_head : replies (opening (record standard { limit = 2 }))
    limit_drops_longest_head_calls ≡
    Joined ∷
    Accepted 0 None ∷
    Accepted 1 None ∷
    Accepted 2 (Some 1) ∷
    Reaped 1 (Dropped Overlimit) ∷ []
unfolding the_machine
limit_drops_longest_head = refl

-- the frames of overflow queues count for the limit
abbrev pub limit_counts_overflow_queues_calls : List Entry
limit_counts_overflow_queues_calls = map (by 0) (
    Asked (Join 0 64 0 3 1) ∷
    Enqueue 0 0 5 100 ∷
    Enqueue 0 3 5 200 ∷
    Enqueue 0 3 5 300 ∷
    [])

pub limit_counts_overflow_queues : replies (opening (record standard { flows = 1; limit = 2 }))
    limit_counts_overflow_queues_calls ≡
    Joined ∷
    Accepted 0 None ∷
    Accepted 1 None ∷
    Accepted 2 (Some 1) ∷ []
unfolding the_machine
limit_counts_overflow_queues = refl

-- if another TID lists a flow's queue, a frame goes to its TID's overflow queue
abbrev pub collision_goes_to_overflow_queue_calls : List Entry
collision_goes_to_overflow_queue_calls = map (by 0) (
    Asked (Join 0 64 0 3 1) ∷
    Enqueue 0 0 5 100 ∷
    Enqueue 0 3 5 100 ∷
    Asked (Pull Be no_limits) ∷
    Asked (Pull Be no_limits) ∷
    [])

pub collision_goes_to_overflow_queue : drop 3
    (replies (opening (record standard { flows = 1 })) collision_goes_to_overflow_queue_calls) ≡
    Send 0 0 0 256 (Mpdus ((0, 0) ∷ [])) false false ∷
    Send 1 0 3 256 (Mpdus ((1, 0) ∷ [])) false false ∷ []
unfolding the_machine
collision_goes_to_overflow_queue = refl

-- frames that wait too long are dropped
abbrev pub codel_drops_two_calls : List Entry
codel_drops_two_calls = map (by 0) (
    Asked (Join 0 64 0 3 1) ∷
    Asked (Rate 0 (Ht 7 20 false)) ∷
    times 10 (Enqueue 0 0 7 1500) ++
    Asked (Tick 30000) ∷
    Asked (Pull Be no_limits) ∷
    Asked (Tick 50000) ∷
    Asked (Pull Be no_limits) ∷
    Asked (Tick 50000) ∷
    Asked (Pull Be no_limits) ∷
    Asked (Tick 100000) ∷
    Asked (Pull Be no_limits) ∷
    times 3 (Asked Reap) ++
    [])

pub codel_drops_two : drop 12 (replies (opening (record standard { agg = 1; inflight = 8 }))
    codel_drops_two_calls) ≡
    Now 30000 ∷
    Send 0 0 0 276 (Mpdus ((0, 0) ∷ [])) false false ∷
    Now 80000 ∷
    Send 1 0 0 276 (Mpdus ((1, 1) ∷ [])) false false ∷
    Now 130000 ∷
    Send 2 0 0 276 (Mpdus ((3, 2) ∷ [])) false false ∷
    Now 230000 ∷
    Send 3 0 0 276 (Mpdus ((5, 3) ∷ [])) false false ∷
    Reaped 2 (Dropped Codel) ∷
    Reaped 4 (Dropped Codel) ∷
    Refused Nothing ∷ []
unfolding the_machine
codel_drops_two = refl

-- the limit empties queue 0 in its dropping state, and TID 6 of another station lists it
abbrev pub dropping_state_is_inherited_calls : List Entry
dropping_state_is_inherited_calls = map (by 0) (
    Asked (Join 0 64 0 3 1) ∷
    Asked (Join 1 64 0 3 1) ∷
    times 3 (Enqueue 0 0 0 1) ++
    times 2 (Enqueue 0 0 0 1500) ++
    Asked (Tick 50000) ∷
    Asked (Pull Be no_limits) ∷
    Asked (Tick 300000) ∷
    Asked (Pull Be no_limits) ∷
    times 5 (Enqueue 0 0 1 300) ++
    times 3 (Asked (Pull Be no_limits)) ++
    Asked (Tick 249000) ∷
    times 3 (Enqueue 1 6 0 1500) ++
    Asked (Tick 51000) ∷
    Asked (Pull Vo no_limits) ∷
    [])

-- its first frame is dropped after 51,000 microseconds
pub dropping_state_is_inherited : drop 7 (replies
    (opening (record standard { flows = 2; limit = 5; agg = 1; inflight = 8 }))
    dropping_state_is_inherited_calls) ≡
    Now 50000 ∷
    Send 0 0 0 132 (Mpdus ((0, 0) ∷ [])) false false ∷
    Now 350000 ∷
    Send 1 0 0 132 (Mpdus ((2, 1) ∷ [])) false false ∷
    Accepted 5 None ∷
    Accepted 6 None ∷
    Accepted 7 None ∷
    Accepted 8 (Some 3) ∷
    Accepted 9 (Some 4) ∷
    Send 2 0 0 500 (Mpdus ((5, 2) ∷ [])) false false ∷
    Send 3 0 0 500 (Mpdus ((6, 3) ∷ [])) false false ∷
    Send 4 0 0 500 (Mpdus ((7, 4) ∷ [])) false false ∷
    Now 599000 ∷
    Accepted 10 None ∷
    Accepted 11 None ∷
    Accepted 12 None ∷
    Now 650000 ∷
    Send 5 1 6 1976 (Mpdus ((11, 0) ∷ [])) false false ∷ []
unfolding the_machine
dropping_state_is_inherited = refl

-- with the setting `codel_reset` its first frame is sent
pub codel_reset_ends_the_dropping_state : drop 24 (replies
    (opening (record standard { flows = 2; limit = 5; agg = 1; inflight = 8; codel_reset = 1 }))
    dropping_state_is_inherited_calls) ≡
    Send 5 1 6 1976 (Mpdus ((10, 0) ∷ [])) false false ∷ []
unfolding the_machine
codel_reset_ends_the_dropping_state = refl

-- CoDel counts the octets that are left in the queue after the pop
abbrev pub codel_left_is_after_the_pop_calls : List Entry
codel_left_is_after_the_pop_calls = map (by 0) (
    Asked (Join 0 64 0 3 1) ∷
    Asked (Rate 0 (Ht 7 20 false)) ∷
    times 3 (Enqueue 0 0 7 1500) ++
    Asked (Tick 30000) ∷
    Asked (Pull Be no_limits) ∷
    Asked (Tick 100000) ∷
    Asked (Pull Be no_limits) ∷
    [])

pub codel_left_is_after_the_pop : replies (opening (record standard { agg = 1 }))
    codel_left_is_after_the_pop_calls ≡
    Joined ∷
    Set ∷
    Accepted 0 None ∷
    Accepted 1 None ∷
    Accepted 2 None ∷
    Now 30000 ∷
    Send 0 0 0 276 (Mpdus ((0, 0) ∷ [])) false false ∷
    Now 130000 ∷
    Send 1 0 0 276 (Mpdus ((1, 1) ∷ [])) false false ∷ []
unfolding the_machine
codel_left_is_after_the_pop = refl

-- each poll of a sleeping station allows one frame
abbrev pub sleeper_polls_calls : List Entry
sleeper_polls_calls = map (by 0) (
    Asked (Join 0 64 0 3 1) ∷
    Asked (Sleep 0) ∷
    Enqueue 0 0 7 100 ∷
    Enqueue 0 0 7 100 ∷
    Asked (Pull Be no_limits) ∷
    Asked (Poll 0) ∷
    Asked (Poll 0) ∷
    Asked (Pull Be no_limits) ∷
    Asked (Poll 0) ∷
    Asked (Pull Be no_limits) ∷
    Asked (Poll 0) ∷
    [])

pub sleeper_polls : replies (opening standard) sleeper_polls_calls ≡
    Joined ∷
    Slept ∷
    Accepted 0 None ∷
    Accepted 1 None ∷
    Refused Idle ∷
    reply.Polled Be ∷
    Refused Polled ∷
    Send 0 0 0 256 (Mpdus ((0, 0) ∷ [])) true false ∷
    reply.Polled Be ∷
    Send 1 0 0 256 (Mpdus ((1, 1) ∷ [])) false false ∷
    Refused Nothing ∷ []
unfolding the_machine
sleeper_polls = refl

-- a sleeping station has as many queued frames as it may have
abbrev pub sleeper_second_frame_stays_queued_calls : List Entry
sleeper_second_frame_stays_queued_calls = map (by 0) (
    Asked (Join 0 64 0 3 1) ∷
    Enqueue 0 0 7 100 ∷
    Enqueue 0 0 7 100 ∷
    Asked (Sleep 0) ∷
    Asked (Poll 0) ∷
    Asked (Pull Be no_limits) ∷
    Enqueue 0 0 7 100 ∷
    [])

pub sleeper_second_frame_stays_queued : replies
    (opening (record standard { sleeping = 1 })) sleeper_second_frame_stays_queued_calls ≡
    Joined ∷
    Accepted 0 None ∷
    Accepted 1 None ∷
    Slept ∷
    reply.Polled Be ∷
    Send 0 0 0 256 (Mpdus ((0, 0) ∷ [])) true false ∷
    Refused (Sleeping 1) ∷ []
unfolding the_machine
sleeper_second_frame_stays_queued = refl

-- receive charges, up to the greatest debt
abbrev pub receive_charges_to_debt_calls : List Entry
receive_charges_to_debt_calls = map (by 0) (
    Asked (Join 0 64 100 3 1) ∷
    times 16 (Asked (Rx 0 Be 65535)) ++
    [])

pub receive_charges_to_debt : replies (opening standard) receive_charges_to_debt_calls ≡
    Joined ∷
    Charged (negsuc 65234) ∷
    Charged (negsuc 130769) ∷
    Charged (negsuc 196304) ∷
    Charged (negsuc 261839) ∷
    Charged (negsuc 327374) ∷
    Charged (negsuc 392909) ∷
    Charged (negsuc 458444) ∷
    Charged (negsuc 523979) ∷
    Charged (negsuc 589514) ∷
    Charged (negsuc 655049) ∷
    Charged (negsuc 720584) ∷
    Charged (negsuc 786119) ∷
    Charged (negsuc 851654) ∷
    Charged (negsuc 917189) ∷
    Charged (negsuc 982724) ∷
    Refused (Debt (negsuc 982724)) ∷ []
unfolding the_machine
receive_charges_to_debt = refl

-- a debt of 1000 is met exactly: 300 less 1300 is left, and 1 more is refused
abbrev pub debt_is_met_exactly_calls : List Entry
debt_is_met_exactly_calls = map (by 0) (
    Asked (Join 0 64 100 3 1) ∷
    Asked (Rx 0 Be 1301) ∷
    Asked (Rx 0 Be 1300) ∷
    Asked (Rx 0 Be 1) ∷
    [])

pub debt_is_met_exactly : replies (opening (record standard { debt = 1000 })) debt_is_met_exactly_calls ≡
    Joined ∷
    Refused (Debt (pos 300)) ∷
    Charged (negsuc 999) ∷
    Refused (Debt (negsuc 999)) ∷ []
unfolding the_machine
debt_is_met_exactly = refl

-- with a debt of 0 a receive charge may use all of the deficit; an exchange may still exceed it
abbrev pub debt_of_zero_calls : List Entry
debt_of_zero_calls = map (by 0) (
    Asked (Join 0 64 100 3 1) ∷
    Asked (Rx 0 Be 301) ∷
    Asked (Rx 0 Be 44) ∷
    Enqueue 0 0 7 100 ∷
    Enqueue 0 0 7 100 ∷
    Asked (Pull Be no_limits) ∷
    Asked (Pull Be no_limits) ∷
    Asked (Done 0 false None) ∷
    Asked (Done 1 false None) ∷
    Asked (Rx 0 Be 1) ∷
    [])

pub debt_of_zero : drop 1 (replies (opening (record standard { debt = 0; agg = 1 })) debt_of_zero_calls) ≡
    Refused (Debt (pos 300)) ∷
    Charged (pos 256) ∷
    Accepted 0 None ∷
    Accepted 1 None ∷
    Send 0 0 0 256 (Mpdus ((0, 100) ∷ [])) false false ∷
    Send 1 0 0 256 (Mpdus ((1, 101) ∷ [])) false false ∷
    reply.Done 0 1 0 ∷
    reply.Done 0 1 0 ∷
    Refused (Debt (negsuc 255)) ∷ []
unfolding the_machine
debt_of_zero = refl

-- a station with an open exchange cannot leave
abbrev pub leave_with_open_exchange_calls : List Entry
leave_with_open_exchange_calls = map (by 0) (
    Asked (Join 0 64 0 3 1) ∷
    Enqueue 0 0 7 100 ∷
    Enqueue 0 0 7 100 ∷
    Asked (Pull Be no_limits) ∷
    Asked (Leave 0) ∷
    Asked (Done 0 false None) ∷
    Asked (Leave 0) ∷
    Asked Reap ∷
    Asked Reap ∷
    Asked (Leave 0) ∷
    [])

pub leave_with_open_exchange : drop 4 (replies
    (opening (record standard { agg = 1 })) leave_with_open_exchange_calls) ≡
    Refused (Open 1) ∷
    reply.Done 0 1 0 ∷
    reply.Left 2 ∷
    Reaped 0 (Dropped Left) ∷
    Reaped 1 (Dropped Left) ∷
    Refused NoStation ∷ []
unfolding the_machine
leave_with_open_exchange = refl

-- a leave drops frames in the order of unbounded numbers, not of their 12 bits
abbrev pub leave_order_across_the_wrap_calls : List Entry
leave_order_across_the_wrap_calls = map (by 0) (
    Asked (Join 0 64 4095 3 1) ∷
    Enqueue 0 0 7 1500 ∷
    Enqueue 0 0 7 1500 ∷
    Asked (Pull Be no_limits) ∷
    Asked (Done 0 false None) ∷
    Asked (Leave 0) ∷
    Asked Reap ∷
    Asked Reap ∷
    [])

pub leave_order_across_the_wrap : replies (opening (record standard { agg = 2 }))
    leave_order_across_the_wrap_calls ≡
    Joined ∷
    Accepted 0 None ∷
    Accepted 1 None ∷
    Send 0 0 0 3868 (Mpdus ((0, 4095) ∷ (1, 0) ∷ [])) false false ∷
    reply.Done 0 2 0 ∷
    reply.Left 2 ∷
    Reaped 0 (Dropped Left) ∷
    Reaped 1 (Dropped Left) ∷ []
unfolding the_machine
leave_order_across_the_wrap = refl

-- a leave drops frames by TID, then by number, then by queue
abbrev pub leave_order_by_tid_then_window_then_queue_calls : List Entry
leave_order_by_tid_then_window_then_queue_calls = map (by 0) (
    Asked (Join 0 64 0 3 1) ∷
    Enqueue 0 3 1 100 ∷
    Enqueue 0 0 3 100 ∷
    Enqueue 0 0 2 100 ∷
    Enqueue 0 5 0 100 ∷
    Asked (Pull Be no_limits) ∷
    Asked (Done 0 false None) ∷
    Asked (Leave 0) ∷
    times 4 (Asked Reap) ++
    [])

pub leave_order_by_tid_then_window_then_queue : replies
    (opening (record standard { agg = 1; flows = 4 })) leave_order_by_tid_then_window_then_queue_calls ≡
    Joined ∷
    Accepted 0 None ∷
    Accepted 1 None ∷
    Accepted 2 None ∷
    Accepted 3 None ∷
    Send 0 0 0 256 (Mpdus ((1, 0) ∷ [])) false false ∷
    reply.Done 0 1 0 ∷
    reply.Left 4 ∷
    Reaped 1 (Dropped Left) ∷
    Reaped 2 (Dropped Left) ∷
    Reaped 0 (Dropped Left) ∷
    Reaped 3 (Dropped Left) ∷ []
unfolding the_machine
leave_order_by_tid_then_window_then_queue = refl

-- the refusals of calls on an exchange
abbrev pub exchange_refusals_calls : List Entry
exchange_refusals_calls = map (by 0) (
    Asked (Join 0 64 100 3 1) ∷
    Enqueue 0 0 7 1500 ∷
    Asked (Pull Be no_limits) ∷
    Asked (Arrive 0 1) ∷
    Asked (Answer 0) ∷
    Asked (Arrive 0 0) ∷
    Asked (Arrive 0 0) ∷
    Asked (Done 0 true None) ∷
    Asked (Answer 0) ∷
    Asked (Arrive 0 0) ∷
    Asked (Answer 0) ∷
    Asked (Done 0 true None) ∷
    Asked (Done 0 true None) ∷
    [])

pub exchange_refusals : drop 3 (replies (opening standard) exchange_refusals_calls) ≡
    Refused BadIndex ∷
    Refused Nothing ∷
    Released (0 ∷ []) ∷
    Refused Arrived ∷
    Refused NoAnswer ∷
    Ba 100 1 0 0 0 false ∷
    Refused Answered ∷
    Refused Answered ∷
    reply.Done 1 0 0 ∷
    Refused NoExchange ∷ []
unfolding the_machine
exchange_refusals = refl

-- as many frames are accepted and not yet reaped as there may be
abbrev pub room_of_one_calls : List Entry
room_of_one_calls = map (by 0) (
    Asked (Join 0 64 100 3 1) ∷
    Enqueue 0 0 7 1500 ∷
    Enqueue 0 0 7 1500 ∷
    Asked (Pull Be no_limits) ∷
    Asked (Arrive 0 0) ∷
    Asked (Answer 0) ∷
    Asked (Done 0 true None) ∷
    Enqueue 0 0 7 1500 ∷
    Asked Reap ∷
    Enqueue 0 0 7 1500 ∷
    [])

pub room_of_one : replies (opening (record standard { room = 1 })) room_of_one_calls ≡
    Joined ∷
    Accepted 0 None ∷
    Refused (Room 1) ∷
    Send 0 0 0 1976 (Mpdus ((0, 100) ∷ [])) false false ∷
    Released (0 ∷ []) ∷
    Ba 100 1 0 0 0 false ∷
    reply.Done 1 0 0 ∷
    Refused (Room 1) ∷
    Reaped 0 Acked ∷
    Accepted 1 None ∷ []
unfolding the_machine
room_of_one = refl

-- the refusals for arguments
abbrev pub refusals_by_argument_calls : List Entry
refusals_by_argument_calls = map (by 0) (
    Asked (Join 16 64 0 3 1) ∷
    Asked (Join 0 257 0 3 1) ∷
    Asked (Join 0 64 4096 3 1) ∷
    Asked (Join 0 64 0 4 1) ∷
    Asked (Join 0 64 100 3 1) ∷
    Asked (Join 0 64 100 3 1) ∷
    Asked (Rate 0 (Ht 16 20 false)) ∷
    Asked (Rate 1 (Ht 0 20 false)) ∷
    Asked (Tick 10000001) ∷
    Enqueue 0 8 0 64 ∷
    Enqueue 1 0 0 64 ∷
    Asked (Rx 0 Be 0) ∷
    Asked (Wake 0) ∷
    Asked (Poll 0) ∷
    Asked (Sleep 0) ∷
    Asked (Sleep 0) ∷
    Enqueue 0 0 0 64 ∷
    Enqueue 0 3 0 64 ∷
    [])

pub refusals_by_argument : replies (opening (record standard { sleeping = 1 })) refusals_by_argument_calls ≡
    Refused BadStation ∷
    Refused BadWindow ∷
    Refused BadStart ∷
    Refused BadExponent ∷
    Joined ∷
    Refused Live ∷
    Refused BadRate ∷
    Refused NoStation ∷
    Refused BadTick ∷
    Refused BadTid ∷
    Refused NoStation ∷
    Refused BadAir ∷
    Refused Awake ∷
    Refused Awake ∷
    Slept ∷
    Refused Asleep ∷
    Accepted 0 None ∷
    Refused (Sleeping 1) ∷ []
unfolding the_machine
refusals_by_argument = refl

-- weights 0 and 17 are out of range
abbrev pub weight_out_of_range_calls : List Entry
weight_out_of_range_calls = map (by 0) (
    Asked (Join 0 64 0 3 17) ∷
    Asked (Join 0 64 0 3 0) ∷
    [])

pub weight_out_of_range : replies (opening standard) weight_out_of_range_calls ≡
    Refused BadWeight ∷
    Refused BadWeight ∷ []
unfolding the_machine
weight_out_of_range = refl

-- a Done that gives an airtime is charged that, and not the 256 microseconds of its Send. One that
-- gives 0, or more than the setting `charge`, is refused, and nothing is charged.
abbrev pub named_airtime_is_charged_calls : List Entry
named_airtime_is_charged_calls = map (by 0) (
    Asked (Join 0 64 0 3 1) ∷
    Enqueue 0 0 7 100 ∷
    Asked (Pull Be no_limits) ∷
    Asked (Done 0 false (Some 0)) ∷
    Asked (Done 0 false (Some 5001)) ∷
    Asked (Rx 0 Be 1) ∷
    Asked (Done 0 false (Some 5000)) ∷
    Asked (Rx 0 Be 1) ∷
    [])

pub named_airtime_is_charged : drop 2 (replies (opening (record standard { charge = 5000 }))
    named_airtime_is_charged_calls) ≡
    Send 0 0 0 256 (Mpdus ((0, 0) ∷ [])) false false ∷
    Refused BadAir ∷
    Refused BadAir ∷
    Charged (pos 299) ∷
    reply.Done 0 1 0 ∷
    Charged (negsuc 4701) ∷ []
unfolding the_machine
named_airtime_is_charged = refl
