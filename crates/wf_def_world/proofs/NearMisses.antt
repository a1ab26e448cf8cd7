-- Proves, by computing, the replies or the text of histories at the edges of the rules. For each of
-- them a slightly wrong definition would give another reply or text.
use Rattle.std.proofs.Common.{◌≡◌, refl, true, false, List, [], ◌∷◌, ◌++◌, drop, map, Some, None, codes}
use Rattle.std.specs.List.{concat}
use Rattle.std.specs.Fmt.{digits}
use Rattle.wf_frame.specs.declared.classes.Class.TheVariants.{Be}
use Rattle.wf_frame.specs.declared.classes.Cause.TheVariants.{Overlimit}
use Rattle.wf_frame.specs.declared.classes.Fate.TheVariants.{Dropped}
use Rattle.wf_frame.specs.declared.notes.Ask.TheVariants.{Join, Leave, Rate, Pull, Arrive, Answer, Done, Sleep, Wake, Poll, Rx, Reap}
use Rattle.wf_frame.specs.declared.notes.AskedRate.TheVariants.{Ht, Vht, He}
use Rattle.wf_frame.specs.declared.notes.Note.TheVariants.{Enqueue, Asked}
use Rattle.wf_frame.specs.declared.notes.Refusal.TheVariants.{BadStation, BadWindow, BadStart, BadExponent, BadWeight, BadRate, BadTid, BadAir, BadIndex, NoStation, NoExchange, NoAnswer, Answered, Room, Full, Polled, Nothing}
use Rattle.wf_frame.specs.declared.notes.ReplyNote.TheVariants.{Joined, Set, Accepted, Send, Released, Ba, Slept, Woken, Reaped, Refused}
use Rattle.wf_frame.specs.declared.notes.ReplyNote.TheVariants as reply
use Rattle.wf_frame.specs.declared.notes.Part.TheVariants.{Mpdus}
use Rattle.wf_frame.specs.Settings.{standard}
use Rattle.wf_def_world.specs.World.{opening}
use Rattle.wf_def_world.specs.Run.{Entry, by, replies}
use Rattle.wf_def_world.specs.Text.{text_of}
use Rattle.wf_def_world.specs.Computed.{the_machine}
use Rattle.wf_def_world.proofs.Rehearsals.{times}
use Rattle.wf_frame.specs.Calls.{no_limits}

-- ---- who sends, and what

-- the two TIDs of a class send in turn, the lower one first
abbrev pub tids_of_a_class_take_turns_calls : List Entry
tids_of_a_class_take_turns_calls = map (by 0) (
    Asked (Join 0 64 0 3 1) ∷
    Enqueue 0 0 1 100 ∷
    Enqueue 0 0 1 100 ∷
    Enqueue 0 3 2 100 ∷
    Enqueue 0 3 2 100 ∷
    times 4 (Asked (Pull Be no_limits)) ++
    [])

pub tids_of_a_class_take_turns : drop 5 (replies
    (opening (record standard { agg = 1; inflight = 4 })) tids_of_a_class_take_turns_calls) ≡
    Send 0 0 0 256 (Mpdus ((0, 0) ∷ [])) false false ∷
    Send 1 0 3 256 (Mpdus ((2, 0) ∷ [])) false false ∷
    Send 2 0 0 256 (Mpdus ((1, 1) ∷ [])) false false ∷
    Send 3 0 3 256 (Mpdus ((3, 1) ∷ [])) false false ∷ []
unfolding the_machine
tids_of_a_class_take_turns = refl

-- the turn goes to the TID that did not send, and does not change with each pull: the upper TID sends
-- first, because only it can, and then the lower one sends
abbrev pub turn_goes_to_the_tid_that_did_not_send_calls : List Entry
turn_goes_to_the_tid_that_did_not_send_calls = map (by 0) (
    Asked (Join 0 64 0 3 1) ∷
    Enqueue 0 3 2 100 ∷
    Enqueue 0 3 2 100 ∷
    Asked (Pull Be no_limits) ∷
    Enqueue 0 0 1 100 ∷
    Asked (Pull Be no_limits) ∷
    Asked (Pull Be no_limits) ∷
    [])

pub turn_goes_to_the_tid_that_did_not_send : replies
    (opening (record standard { agg = 1; inflight = 4 })) turn_goes_to_the_tid_that_did_not_send_calls ≡
    Joined ∷
    Accepted 0 None ∷
    Accepted 1 None ∷
    Send 0 0 3 256 (Mpdus ((0, 0) ∷ [])) false false ∷
    Accepted 2 None ∷
    Send 1 0 0 256 (Mpdus ((2, 0) ∷ [])) false false ∷
    Send 2 0 3 256 (Mpdus ((1, 1) ∷ [])) false false ∷ []
unfolding the_machine
turn_goes_to_the_tid_that_did_not_send = refl

-- two queues of a TID share by octets: the length of a frame is taken off its own queue's deficit
abbrev pub queues_of_a_tid_share_by_octets_calls : List Entry
queues_of_a_tid_share_by_octets_calls = map (by 0) (
    Asked (Join 0 64 0 3 1) ∷
    times 4 (Enqueue 0 0 1 200) ++
    times 6 (Enqueue 0 0 2 100) ++
    Asked (Pull Be no_limits) ∷
    [])

pub queues_of_a_tid_share_by_octets : drop 11
    (replies (opening standard) queues_of_a_tid_share_by_octets_calls) ≡
    Send 0 0 0 2252 (Mpdus ((0, 0) ∷ (1, 1) ∷ (4, 2) ∷ (5, 3) ∷ (6, 4) ∷ (2, 5) ∷ (7, 6) ∷ (8, 7) ∷ (9, 8)
    ∷ (3, 9) ∷ [])) false false ∷ []
unfolding the_machine
queues_of_a_tid_share_by_octets = refl

-- a queue gets a quantum when it is listed, so it goes before a queue of the old list
abbrev pub fresh_queue_goes_first_calls : List Entry
fresh_queue_goes_first_calls = map (by 0) (
    Asked (Join 0 64 0 3 1) ∷
    times 5 (Enqueue 0 0 1 100) ++
    times 4 (Asked (Pull Be no_limits)) ++
    Enqueue 0 0 2 100 ∷
    Asked (Pull Be no_limits) ∷
    Asked (Pull Be no_limits) ∷
    [])

pub fresh_queue_goes_first : drop 6 (replies (opening (record standard { agg = 1; inflight = 8 }))
    fresh_queue_goes_first_calls) ≡
    Send 0 0 0 256 (Mpdus ((0, 0) ∷ [])) false false ∷
    Send 1 0 0 256 (Mpdus ((1, 1) ∷ [])) false false ∷
    Send 2 0 0 256 (Mpdus ((2, 2) ∷ [])) false false ∷
    Send 3 0 0 256 (Mpdus ((3, 3) ∷ [])) false false ∷
    Accepted 5 None ∷
    Send 4 0 0 256 (Mpdus ((5, 4) ∷ [])) false false ∷
    Send 5 0 0 256 (Mpdus ((4, 5) ∷ [])) false false ∷ []
unfolding the_machine
fresh_queue_goes_first = refl

-- two queues have 200 octets each: the one with the least number drops its head, although the head of
-- the other is older and longer
abbrev pub longest_queues_tie_at_the_limit_calls : List Entry
longest_queues_tie_at_the_limit_calls = map (by 0) (
    Asked (Join 0 64 0 3 1) ∷
    Enqueue 0 0 2 200 ∷
    Enqueue 0 0 1 100 ∷
    Enqueue 0 0 1 100 ∷
    Enqueue 0 0 3 64 ∷
    Asked Reap ∷
    [])

pub longest_queues_tie_at_the_limit : replies
    (opening (record standard { limit = 3 })) longest_queues_tie_at_the_limit_calls ≡
    Joined ∷
    Accepted 0 None ∷
    Accepted 1 None ∷
    Accepted 2 None ∷
    Accepted 3 (Some 1) ∷
    Reaped 1 (Dropped Overlimit) ∷ []
unfolding the_machine
longest_queues_tie_at_the_limit = refl

-- ---- two faults at once

-- a call with two faults is refused for the first in its order
abbrev pub first_of_two_faults_calls : List Entry
first_of_two_faults_calls = map (by 0) (
    Asked (Join 0 64 0 3 1) ∷
    Asked (Join 16 0 0 3 1) ∷
    Asked (Join 0 0 4096 3 1) ∷
    Asked (Join 0 64 4096 4 1) ∷
    Asked (Join 0 64 0 4 0) ∷
    Asked (Join 0 64 0 3 0) ∷
    Asked (Leave 16) ∷
    Asked (Rate 16 (Ht 16 20 false)) ∷
    Asked (Rate 1 (Ht 16 20 false)) ∷
    Asked (Rate 1 (Ht 0 10 false)) ∷
    Asked (Rate 16 (Vht 9 20 true 2)) ∷
    Asked (Rate 1 (He 11 160 400 4)) ∷
    Enqueue 16 8 0 64 ∷
    Enqueue 1 8 0 64 ∷
    Asked (Sleep 16) ∷
    Asked (Wake 16) ∷
    Asked (Wake 1) ∷
    Asked (Poll 16) ∷
    Asked (Poll 1) ∷
    Asked (Rx 16 Be 0) ∷
    Asked (Rx 1 Be 0) ∷
    Asked (Rx 1 Be 65536) ∷
    [])

pub first_of_two_faults : replies (opening standard) first_of_two_faults_calls ≡
    Joined ∷
    Refused BadStation ∷
    Refused BadWindow ∷
    Refused BadStart ∷
    Refused BadExponent ∷
    Refused BadWeight ∷
    Refused BadStation ∷
    Refused BadStation ∷
    Refused BadRate ∷
    Refused BadRate ∷
    Refused BadStation ∷
    Refused BadRate ∷
    Refused BadStation ∷
    Refused BadTid ∷
    Refused BadStation ∷
    Refused BadStation ∷
    Refused NoStation ∷
    Refused BadStation ∷
    Refused NoStation ∷
    Refused BadStation ∷
    Refused BadAir ∷
    Refused BadAir ∷ []
unfolding the_machine
first_of_two_faults = refl

-- NoStation comes before Room, and Room before Sleeping
abbrev pub room_before_sleeping_calls : List Entry
room_before_sleeping_calls = map (by 0) (
    Asked (Join 0 64 0 3 1) ∷
    Asked (Sleep 0) ∷
    Enqueue 0 0 7 64 ∷
    Enqueue 1 0 7 64 ∷
    Enqueue 0 0 7 64 ∷
    [])

pub room_before_sleeping : replies (opening (record standard { room = 1; sleeping = 1 }))
    room_before_sleeping_calls ≡
    Joined ∷
    Slept ∷
    Accepted 0 None ∷
    Refused NoStation ∷
    Refused (Room 1) ∷ []
unfolding the_machine
room_before_sleeping = refl

-- Full comes before Idle, BadIndex before Answered, Answered before Arrived, and NoExchange before
-- NoAnswer
abbrev pub first_fault_of_an_exchange_calls : List Entry
first_fault_of_an_exchange_calls = map (by 0) (
    Asked (Join 0 64 0 3 1) ∷
    Enqueue 0 0 7 100 ∷
    Asked (Pull Be no_limits) ∷
    Asked (Pull Be no_limits) ∷
    Asked (Arrive 0 0) ∷
    Asked (Answer 0) ∷
    Asked (Arrive 0 1) ∷
    Asked (Arrive 0 0) ∷
    Asked (Done 1 true None) ∷
    [])

pub first_fault_of_an_exchange : replies (opening (record standard { inflight = 1 }))
    first_fault_of_an_exchange_calls ≡
    Joined ∷
    Accepted 0 None ∷
    Send 0 0 0 256 (Mpdus ((0, 0) ∷ [])) false false ∷
    Refused (Full 1) ∷
    Released (0 ∷ []) ∷
    Ba 0 1 0 0 0 false ∷
    Refused BadIndex ∷
    Refused Answered ∷
    Refused NoExchange ∷ []
unfolding the_machine
first_fault_of_an_exchange = refl

-- NoExchange comes before NoAnswer, and NoAnswer before BadAir; with the standard settings a Done may
-- give no airtime
abbrev pub first_fault_of_a_named_airtime_calls : List Entry
first_fault_of_a_named_airtime_calls = map (by 0) (
    Asked (Join 0 64 0 3 1) ∷
    Enqueue 0 0 7 100 ∷
    Asked (Pull Be no_limits) ∷
    Asked (Done 1 true (Some 1)) ∷
    Asked (Done 0 true (Some 1)) ∷
    Asked (Done 0 false (Some 1)) ∷
    Asked (Done 0 false None) ∷
    [])

pub first_fault_of_a_named_airtime : drop 3
    (replies (opening standard) first_fault_of_a_named_airtime_calls) ≡
    Refused NoExchange ∷
    Refused NoAnswer ∷
    Refused BadAir ∷
    reply.Done 0 1 0 ∷ []
unfolding the_machine
first_fault_of_a_named_airtime = refl

-- a credit remains when its frame is dropped for the limit; a wake clears it
abbrev pub credit_outlives_its_frame_calls : List Entry
credit_outlives_its_frame_calls = map (by 0) (
    Asked (Join 0 64 0 3 1) ∷
    Asked (Join 1 64 0 3 1) ∷
    Asked (Sleep 0) ∷
    Enqueue 0 0 1 100 ∷
    Asked (Poll 0) ∷
    Enqueue 1 0 2 100 ∷
    Asked (Poll 0) ∷
    Asked (Wake 0) ∷
    Asked (Sleep 0) ∷
    Asked (Poll 0) ∷
    [])

pub credit_outlives_its_frame : replies (opening (record standard { limit = 1 }))
    credit_outlives_its_frame_calls ≡
    Joined ∷
    Joined ∷
    Slept ∷
    Accepted 0 None ∷
    reply.Polled Be ∷
    Accepted 1 (Some 0) ∷
    Refused Polled ∷
    Woken ∷
    Slept ∷
    Refused Nothing ∷ []
unfolding the_machine
credit_outlives_its_frame = refl

-- ---- rates

-- each format has its own greatest MCS, and its own widths, guard intervals and streams
abbrev pub last_rates_of_each_format_calls : List Entry
last_rates_of_each_format_calls = map (by 0) (
    Asked (Join 0 64 0 3 1) ∷
    Asked (Rate 0 (Ht 15 40 true)) ∷
    Asked (Rate 0 (Ht 15 80 true)) ∷
    Asked (Rate 0 (Vht 9 160 true 8)) ∷
    Asked (Rate 0 (Vht 10 160 true 8)) ∷
    Asked (Rate 0 (Vht 8 160 true 9)) ∷
    Asked (Rate 0 (Vht 8 160 true 0)) ∷
    Asked (Rate 0 (Vht 8 10 true 1)) ∷
    Asked (Rate 0 (He 11 20 3200 8)) ∷
    Asked (Rate 0 (He 12 20 3200 8)) ∷
    Asked (Rate 0 (He 11 20 3201 8)) ∷
    Asked (Rate 0 (He 11 20 3200 9)) ∷
    Asked (Rate 0 (He 11 200 3200 8)) ∷
    [])

pub last_rates_of_each_format : replies (opening standard) last_rates_of_each_format_calls ≡
    Joined ∷
    Set ∷
    Refused BadRate ∷
    Set ∷
    Refused BadRate ∷
    Refused BadRate ∷
    Refused BadRate ∷
    Refused BadRate ∷
    Set ∷
    Refused BadRate ∷
    Refused BadRate ∷
    Refused BadRate ∷
    Refused BadRate ∷ []
unfolding the_machine
last_rates_of_each_format = refl

-- with exponent 0 an aggregate has at most 8,191 octets at an HT rate, and 131,071 at a VHT rate: the
-- rate at the time of the pull decides
abbrev pub exponent_zero_of_two_formats_calls : List Entry
exponent_zero_of_two_formats_calls = map (by 0) (
    Asked (Join 0 64 0 0 1) ∷
    times 12 (Enqueue 0 0 7 1500) ++
    Asked (Rate 0 (Vht 7 20 false 1)) ∷
    Asked (Rate 0 (Ht 7 20 false)) ∷
    Asked (Pull Be no_limits) ∷
    Asked (Rate 0 (Vht 7 20 false 1)) ∷
    Asked (Pull Be no_limits) ∷
    [])

pub exponent_zero_of_two_formats : drop 15 (replies (opening standard) exponent_zero_of_two_formats_calls) ≡
    Send 0 0 0 1032 (Mpdus ((0, 0) ∷ (1, 1) ∷ (2, 2) ∷ (3, 3) ∷ (4, 4) ∷ [])) false false ∷
    Set ∷
    Send 1 0 0 1412 (Mpdus
    ((5, 5) ∷ (6, 6) ∷ (7, 7) ∷ (8, 8) ∷ (9, 9) ∷ (10, 10) ∷ (11, 11) ∷ [])) false false ∷ []
unfolding the_machine
exponent_zero_of_two_formats = refl

-- ---- the traffic map

-- AID 9 is in the second octet of the map; the first octet is written too, since the offset is even
abbrev pub sleeper_with_aid_nine_calls : List Entry
sleeper_with_aid_nine_calls = map (by 0) (
    Asked (Join 8 64 0 3 1) ∷
    Asked (Sleep 8) ∷
    Enqueue 8 0 7 100 ∷
    [])

pub sleeper_with_aid_nine : text_of standard sleeper_with_aid_nine_calls ≡ concat (
    codes "joined\n" ∷
    codes "slept\n" ∷
    codes "accepted 0\n" ∷
    codes "calls 3\n" ∷
    codes "now 0\n" ∷
    codes "frames 1 acked 0 overlimit 0 codel 0 retries 0 left 0 held 1\n" ∷
    codes "exchanges 0 open 0\n" ∷
    codes "tim 05050001000002\n" ∷
    [])
unfolding the_machine digits
sleeper_with_aid_nine = refl

-- AID 16 is in the third octet of the map, where the offset begins
abbrev pub sleeper_with_aid_sixteen_calls : List Entry
sleeper_with_aid_sixteen_calls = map (by 0) (
    Asked (Join 15 64 0 3 1) ∷
    Asked (Sleep 15) ∷
    Enqueue 15 0 7 100 ∷
    [])

pub sleeper_with_aid_sixteen : text_of standard sleeper_with_aid_sixteen_calls ≡ concat (
    codes "joined\n" ∷
    codes "slept\n" ∷
    codes "accepted 0\n" ∷
    codes "calls 3\n" ∷
    codes "now 0\n" ∷
    codes "frames 1 acked 0 overlimit 0 codel 0 retries 0 left 0 held 1\n" ∷
    codes "exchanges 0 open 0\n" ∷
    codes "tim 050400010201\n" ∷
    [])
unfolding the_machine digits
sleeper_with_aid_sixteen = refl

-- AIDs 31 and 33 are in the fourth and the fifth octet; the map begins with the third, since the offset
-- is even
abbrev pub sleepers_with_aids_31_and_33_calls : List Entry
sleepers_with_aids_31_and_33_calls = map (by 0) (
    Asked (Join 30 64 0 3 1) ∷
    Asked (Join 32 64 0 3 1) ∷
    Asked (Sleep 30) ∷
    Asked (Sleep 32) ∷
    Enqueue 30 0 7 100 ∷
    Enqueue 32 0 7 100 ∷
    [])

pub sleepers_with_aids_31_and_33 : text_of (record standard { stations = 64 })
    sleepers_with_aids_31_and_33_calls ≡ concat (
    codes "joined\n" ∷
    codes "joined\n" ∷
    codes "slept\n" ∷
    codes "slept\n" ∷
    codes "accepted 0\n" ∷
    codes "accepted 1\n" ∷
    codes "calls 6\n" ∷
    codes "now 0\n" ∷
    codes "frames 2 acked 0 overlimit 0 codel 0 retries 0 left 0 held 2\n" ∷
    codes "exchanges 0 open 0\n" ∷
    codes "tim 0506000102008002\n" ∷
    [])
unfolding the_machine digits
sleepers_with_aids_31_and_33 = refl

-- a frame on the air does not wait: the map does not show its sleeping station
abbrev pub sleeper_with_a_frame_in_flight_calls : List Entry
sleeper_with_a_frame_in_flight_calls = map (by 0) (
    Asked (Join 0 64 0 3 1) ∷
    Enqueue 0 0 7 100 ∷
    Asked (Pull Be no_limits) ∷
    Asked (Sleep 0) ∷
    [])

pub sleeper_with_a_frame_in_flight : text_of standard sleeper_with_a_frame_in_flight_calls ≡ concat (
    codes "joined\n" ∷
    codes "accepted 0\n" ∷
    codes "send 0 sta 0 tid 0 air 256 data 0:0\n" ∷
    codes "slept\n" ∷
    codes "calls 4\n" ∷
    codes "now 0\n" ∷
    codes "frames 1 acked 0 overlimit 0 codel 0 retries 0 left 0 held 1\n" ∷
    codes "exchanges 1 open 1\n" ∷
    codes "tim 050400010000\n" ∷
    [])
unfolding the_machine digits
sleeper_with_a_frame_in_flight = refl

-- two frames of a sleeping station are back in its window: the pull of one has the More Data bit, and
-- the map shows the other, although no queue has a frame
abbrev pub sleeper_with_a_frame_back_in_its_window_calls : List Entry
sleeper_with_a_frame_back_in_its_window_calls = map (by 0) (
    Asked (Join 0 64 0 3 1) ∷
    Enqueue 0 0 7 100 ∷
    Enqueue 0 0 7 100 ∷
    Asked (Pull Be no_limits) ∷
    Asked (Pull Be no_limits) ∷
    Asked (Done 0 false None) ∷
    Asked (Done 1 false None) ∷
    Asked (Sleep 0) ∷
    Asked (Poll 0) ∷
    Asked (Pull Be no_limits) ∷
    [])

pub sleeper_with_a_frame_back_in_its_window : text_of
    (record standard { agg = 1 }) sleeper_with_a_frame_back_in_its_window_calls ≡ concat (
    codes "joined\n" ∷
    codes "accepted 0\n" ∷
    codes "accepted 1\n" ∷
    codes "send 0 sta 0 tid 0 air 256 data 0:0\n" ∷
    codes "send 1 sta 0 tid 0 air 256 data 1:1\n" ∷
    codes "done acked 0 waiting 1 failed 0\n" ∷
    codes "done acked 0 waiting 1 failed 0\n" ∷
    codes "slept\n" ∷
    codes "polled be\n" ∷
    codes "send 2 sta 0 tid 0 air 256 data 0:0 more\n" ∷
    codes "calls 10\n" ∷
    codes "now 0\n" ∷
    codes "frames 2 acked 0 overlimit 0 codel 0 retries 0 left 0 held 2\n" ∷
    codes "exchanges 3 open 1\n" ∷
    codes "sta 0 be charged 512 rx 0 deficit 88\n" ∷
    codes "tim 050400010002\n" ∷
    [])
unfolding the_machine digits
sleeper_with_a_frame_back_in_its_window = refl
