-- Proves, by computing, what the machine replies to worked histories with group frames and beacons, and the
-- text of some. A group frame with a body of 100 octets has 128 octets and takes 196 microseconds.
use Rattle.std.proofs.Common.{◌≡◌, refl, true, false, List, [], ◌∷◌, ◌++◌, drop, map, None, codes}
use Rattle.std.specs.List.{concat}
use Rattle.std.specs.Fmt.{digits}
use Rattle.wf_frame.specs.declared.classes.Class.TheVariants.{Be}
use Rattle.wf_frame.specs.declared.notes.Ask.TheVariants.{Join, Leave, Pull, Done, Sleep, Wake, Reap, Group}
use Rattle.wf_frame.specs.declared.notes.GroupAsk.TheVariants as call
use Rattle.wf_frame.specs.declared.notes.GroupReply.TheVariants as answer
use Rattle.wf_frame.specs.declared.notes.Note.TheVariants.{Enqueue, Asked}
use Rattle.wf_frame.specs.declared.notes.Part.TheVariants.{Mpdus}
use Rattle.wf_frame.specs.declared.notes.Refusal.TheVariants.{Buffered, Flying, Idle, Nothing}
use Rattle.wf_frame.specs.declared.notes.ReplyNote.TheVariants.{Joined, Accepted, Send, Woken, Refused}
use Rattle.wf_frame.specs.declared.notes.ReplyNote.TheVariants as reply
use Rattle.wf_frame.specs.Settings.{standard}
use Rattle.wf_def_world.specs.World.{opening}
use Rattle.wf_def_world.specs.Run.{Entry, by, replies}
use Rattle.wf_def_world.specs.Text.{text_of}
use Rattle.wf_def_world.specs.Computed.{the_machine}
use Rattle.wf_def_world.proofs.Rehearsals.{times}
use Rattle.wf_frame.specs.Calls.{no_limits, in_bss}

-- if no station sleeps, a group frame goes at once, without a beacon
abbrev pub nobody_sleeps_calls : List Entry
nobody_sleeps_calls = map (by 0) (
    Asked (Join 0 64 100 3 1) ∷
    Asked (Group (in_bss 0 (call.Accept 100))) ∷
    Asked (Group (in_bss 0 call.Pull)) ∷
    Asked (Group (in_bss 0 call.Done)) ∷
    Asked (Group (in_bss 0 call.Pull)) ∷
    [])

pub nobody_sleeps : replies (opening (record standard { buffered = 8 })) nobody_sleeps_calls ≡
    Joined ∷
    reply.Group (answer.Queued 0) ∷
    reply.Group (answer.Send 0 0 196 false) ∷
    reply.Group (answer.Done 0) ∷
    Refused Idle ∷ []
unfolding the_machine
nobody_sleeps = refl

-- with a period of 2, every other beacon is a DTIM beacon: only then a frame goes while a station sleeps
abbrev pub waits_for_the_dtim_calls : List Entry
waits_for_the_dtim_calls = map (by 0) (
    Asked (Join 0 64 100 3 1) ∷
    Asked (Sleep 0) ∷
    Asked (Group (in_bss 0 (call.Accept 100))) ∷
    Asked (Group (in_bss 0 call.Pull)) ∷
    Asked (Group (in_bss 0 call.Beacon)) ∷
    Asked (Group (in_bss 0 call.Pull)) ∷
    Asked (Group (in_bss 0 call.Beacon)) ∷
    Asked (Group (in_bss 0 call.Pull)) ∷
    Asked (Group (in_bss 0 call.Done)) ∷
    Asked (Group (in_bss 0 call.Pull)) ∷
    [])

-- the beacons have the numbers 0 and 1, and the frame 2
pub waits_for_the_dtim : drop 2 (replies (opening (record standard { period = 2; buffered = 8 }))
    waits_for_the_dtim_calls) ≡
    reply.Group (answer.Queued 0) ∷
    Refused Idle ∷
    reply.Group (answer.Beacon 1 false) ∷
    Refused Idle ∷
    reply.Group (answer.Beacon 0 true) ∷
    reply.Group (answer.Send 0 2 196 false) ∷
    reply.Group (answer.Done 0) ∷
    Refused Idle ∷ []
unfolding the_machine
waits_for_the_dtim = refl

-- the More Data bit is set if another frame may go next: not if that came after the beacon, which waits for
-- the next one
abbrev pub later_frame_waits_calls : List Entry
later_frame_waits_calls = map (by 0) (
    Asked (Join 0 64 100 3 1) ∷
    Asked (Sleep 0) ∷
    Asked (Group (in_bss 0 (call.Accept 100))) ∷
    Asked (Group (in_bss 0 (call.Accept 100))) ∷
    Asked (Group (in_bss 0 call.Beacon)) ∷
    Asked (Group (in_bss 0 (call.Accept 100))) ∷
    Asked (Group (in_bss 0 call.Pull)) ∷
    Asked (Group (in_bss 0 call.Done)) ∷
    Asked (Group (in_bss 0 call.Pull)) ∷
    Asked (Group (in_bss 0 call.Done)) ∷
    Asked (Group (in_bss 0 call.Pull)) ∷
    Asked (Group (in_bss 0 call.Beacon)) ∷
    Asked (Group (in_bss 0 call.Pull)) ∷
    [])

-- with the standard period each beacon is a DTIM beacon
pub later_frame_waits : drop 4 (replies
    (opening (record standard { buffered = 8 })) later_frame_waits_calls) ≡
    reply.Group (answer.Beacon 0 true) ∷
    reply.Group (answer.Queued 2) ∷
    reply.Group (answer.Send 0 1 196 true) ∷
    reply.Group (answer.Done 0) ∷
    reply.Group (answer.Send 1 2 196 false) ∷
    reply.Group (answer.Done 1) ∷
    Refused Idle ∷
    reply.Group (answer.Beacon 0 true) ∷
    reply.Group (answer.Send 2 4 196 false) ∷ []
unfolding the_machine
later_frame_waits = refl

-- a beacon that is no DTIM beacon ends what the last one began: the second frame waits for the next DTIM
abbrev pub service_ends_calls : List Entry
service_ends_calls = map (by 0) (
    Asked (Join 0 64 100 3 1) ∷
    Asked (Sleep 0) ∷
    times 2 (Asked (Group (in_bss 0 (call.Accept 100)))) ++
    times 2 (Asked (Group (in_bss 0 call.Beacon))) ++
    Asked (Group (in_bss 0 call.Pull)) ∷
    Asked (Group (in_bss 0 call.Done)) ∷
    Asked (Group (in_bss 0 call.Beacon)) ∷
    Asked (Group (in_bss 0 call.Pull)) ∷
    Asked (Group (in_bss 0 call.Beacon)) ∷
    Asked (Group (in_bss 0 call.Pull)) ∷
    [])

pub service_ends : drop 5 (replies
    (opening (record standard { period = 2; buffered = 8 })) service_ends_calls) ≡
    reply.Group (answer.Beacon 0 true) ∷
    reply.Group (answer.Send 0 2 196 true) ∷
    reply.Group (answer.Done 0) ∷
    reply.Group (answer.Beacon 1 false) ∷
    Refused Idle ∷
    reply.Group (answer.Beacon 0 true) ∷
    reply.Group (answer.Send 1 5 196 false) ∷ []
unfolding the_machine
service_ends = refl

-- when the last sleeper wakes or leaves, frames go at once
abbrev pub last_sleeper_wakes_calls : List Entry
last_sleeper_wakes_calls = map (by 0) (
    Asked (Join 0 64 100 3 1) ∷
    Asked (Join 1 64 100 3 1) ∷
    Asked (Sleep 0) ∷
    Asked (Sleep 1) ∷
    times 2 (Asked (Group (in_bss 0 (call.Accept 100)))) ++
    Asked (Wake 0) ∷
    Asked (Group (in_bss 0 call.Pull)) ∷
    Asked (Leave 1) ∷
    Asked (Group (in_bss 0 call.Pull)) ∷
    [])

-- the last answer has no More Data bit: nobody sleeps
pub last_sleeper_wakes : drop 6 (replies
    (opening (record standard { buffered = 8 })) last_sleeper_wakes_calls) ≡
    Woken ∷
    Refused Idle ∷
    reply.Left 0 ∷
    reply.Group (answer.Send 0 0 196 false) ∷ []
unfolding the_machine
last_sleeper_wakes = refl

-- each refusal: the room for queued frames, which does not count the one on the air; one on the air; nothing
-- on the air
abbrev pub group_refusals_calls : List Entry
group_refusals_calls = map (by 0) (
    Asked (Group (in_bss 0 call.Done)) ∷
    Asked (Group (in_bss 0 call.Pull)) ∷
    Asked (Group (in_bss 0 (call.Accept 100))) ∷
    Asked (Group (in_bss 0 (call.Accept 100))) ∷
    Asked (Group (in_bss 0 call.Pull)) ∷
    Asked (Group (in_bss 0 (call.Accept 100))) ∷
    Asked (Group (in_bss 0 call.Pull)) ∷
    Asked (Group (in_bss 0 (call.Accept 100))) ∷
    Asked (Group (in_bss 0 call.Done)) ∷
    Asked (Group (in_bss 0 call.Done)) ∷
    [])

pub group_refusals : replies (opening (record standard { buffered = 1 })) group_refusals_calls ≡
    Refused Nothing ∷
    Refused Idle ∷
    reply.Group (answer.Queued 0) ∷
    Refused (Buffered 1) ∷
    reply.Group (answer.Send 0 0 196 false) ∷
    reply.Group (answer.Queued 1) ∷
    Refused Flying ∷
    Refused (Buffered 1) ∷
    reply.Group (answer.Done 0) ∷
    Refused Nothing ∷ []
unfolding the_machine
group_refusals = refl

-- with the standard settings no group frame is accepted, and each beacon is a DTIM beacon that announces none
pub standard_has_no_group : replies (opening standard) (map (by 0) (
    Asked (Group (in_bss 0 (call.Accept 100))) ∷
    Asked (Group (in_bss 0 call.Beacon)) ∷
    Asked (Group (in_bss 0 call.Beacon)) ∷
    Asked (Group (in_bss 0 call.Pull)) ∷
    Asked (Group (in_bss 0 call.Done)) ∷ [])) ≡
    Refused (Buffered 0) ∷
    reply.Group (answer.Beacon 0 false) ∷
    reply.Group (answer.Beacon 0 false) ∷
    Refused Idle ∷
    Refused Nothing ∷ []
unfolding the_machine
standard_has_no_group = refl

-- group frames have ids of their own, and a frame of a station goes as without them
abbrev pub beside_a_station_calls : List Entry
beside_a_station_calls = map (by 0) (
    Asked (Join 0 64 100 3 1) ∷
    Enqueue 0 0 7 1500 ∷
    Asked (Group (in_bss 0 (call.Accept 1))) ∷
    Asked (Group (in_bss 0 call.Pull)) ∷
    Asked (Pull Be no_limits) ∷
    Asked (Done 0 false None) ∷
    Asked (Group (in_bss 0 call.Done)) ∷
    Asked Reap ∷
    [])

-- a body of one octet with 8 of encryption: 37 octets take 76 microseconds
pub beside_a_station : replies
    (opening (record standard { buffered = 1; overhead = 8 })) beside_a_station_calls ≡
    Joined ∷
    Accepted 0 None ∷
    reply.Group (answer.Queued 0) ∷
    reply.Group (answer.Send 0 0 76 false) ∷
    Send 0 0 0 1988 (Mpdus ((0, 100) ∷ [])) false false ∷
    reply.Done 0 1 0 ∷
    reply.Group (answer.Done 0) ∷
    Refused Nothing ∷ []
unfolding the_machine
beside_a_station = refl

-- the summary counts group frames, and the TIM has the count, the period and the bit of the latest beacon
abbrev pub group_in_text_calls : List Entry
group_in_text_calls = map (by 0) (
    Asked (Join 0 64 0 3 1) ∷
    Asked (Sleep 0) ∷
    times 3 (Asked (Group (in_bss 0 (call.Accept 100)))) ++
    times 3 (Asked (Group (in_bss 0 call.Beacon))) ++
    Asked (Group (in_bss 0 call.Pull)) ∷
    Asked (Group (in_bss 0 call.Done)) ∷
    Asked (Group (in_bss 0 call.Pull)) ∷
    [])

pub group_in_text : text_of (record standard { period = 3; buffered = 8 }) group_in_text_calls ≡ concat (
    codes "joined\n" ∷
    codes "slept\n" ∷
    codes "queued 0\n" ∷
    codes "queued 1\n" ∷
    codes "queued 2\n" ∷
    codes "beacon 2 0\n" ∷
    codes "beacon 1 0\n" ∷
    codes "beacon 0 1\n" ∷
    codes "gsend 0 3 air 196 more\n" ∷
    codes "gdone 0\n" ∷
    codes "gsend 1 4 air 196 more\n" ∷
    codes "calls 11\n" ∷
    codes "now 0\n" ∷
    codes "frames 0 acked 0 overlimit 0 codel 0 retries 0 left 0 held 0\n" ∷
    codes "exchanges 0 open 0\n" ∷
    codes "group 3 sent 1 held 2 air 196\n" ∷
    codes "tim 050400030100\n" ∷
    [])
unfolding the_machine digits
group_in_text = refl

-- the bit of group frames is in the control octet of the element, next to the number of the first octet that
-- is shown
abbrev pub group_bit_beside_an_aid_calls : List Entry
group_bit_beside_an_aid_calls = map (by 0) (
    Asked (Join 20 64 0 3 1) ∷
    Asked (Sleep 20) ∷
    Enqueue 20 0 7 100 ∷
    Asked (Group (in_bss 0 (call.Accept 100))) ∷
    Asked (Group (in_bss 0 call.Beacon)) ∷
    Asked (Group (in_bss 0 call.Beacon)) ∷
    [])

pub group_bit_beside_an_aid : text_of (record standard { stations = 32; period = 2; buffered = 8 })
    group_bit_beside_an_aid_calls ≡ concat (
    codes "joined\n" ∷
    codes "slept\n" ∷
    codes "accepted 0\n" ∷
    codes "queued 0\n" ∷
    codes "beacon 1 0\n" ∷
    codes "beacon 0 1\n" ∷
    codes "calls 6\n" ∷
    codes "now 0\n" ∷
    codes "frames 1 acked 0 overlimit 0 codel 0 retries 0 left 0 held 1\n" ∷
    codes "exchanges 0 open 0\n" ∷
    codes "group 1 sent 0 held 1 air 0\n" ∷
    codes "tim 050400020320\n" ∷
    [])
unfolding the_machine digits
group_bit_beside_an_aid = refl

-- if `buffered` is 0, the summary has no line of group frames, and the TIM counts beacons
pub period_alone :
    text_of (record standard { period = 3 }) (map (by 0) (Asked (Group (in_bss 0 call.Beacon)) ∷ []))
    ≡ concat (
    codes "beacon 2 0\n" ∷
    codes "calls 1\n" ∷
    codes "now 0\n" ∷
    codes "frames 0 acked 0 overlimit 0 codel 0 retries 0 left 0 held 0\n" ∷
    codes "exchanges 0 open 0\n" ∷
    codes "tim 050402030000\n" ∷
    [])
unfolding the_machine digits
period_alone = refl
