-- Proves, by computing, what the machine replies to worked histories with service periods. A frame with a
-- body of 100 octets alone takes 256 microseconds, and two take 420.
use Rattle.std.proofs.Common.{◌≡◌, refl, true, false, List, [], ◌∷◌, ◌++◌, drop, map}
use Rattle.wf_frame.specs.declared.classes.Class.TheVariants.{Bk, Be, Vo}
use Rattle.wf_frame.specs.declared.notes.Ask.TheVariants.{Join, Pull, Sleep, Wake, Poll, Service}
use Rattle.wf_frame.specs.declared.notes.ServiceAsk.TheVariants as call
use Rattle.wf_frame.specs.declared.notes.ServiceReply.TheVariants as answer
use Rattle.wf_frame.specs.declared.notes.Note.TheVariants.{Enqueue, Asked}
use Rattle.wf_frame.specs.declared.notes.Part.TheVariants.{Mpdus}
use Rattle.wf_frame.specs.declared.notes.Refusal.TheVariants.{Asleep, Idle, Nothing, Polled}
use Rattle.wf_frame.specs.declared.notes.ReplyNote.TheVariants.{Send, Woken, Slept, Refused}
use Rattle.wf_frame.specs.declared.notes.ReplyNote.TheVariants as reply
use Rattle.wf_frame.specs.Settings.{standard}
use Rattle.wf_def_world.specs.World.{opening}
use Rattle.wf_def_world.specs.Run.{Entry, by, replies}
use Rattle.wf_def_world.specs.Computed.{the_machine}
use Rattle.wf_def_world.proofs.Rehearsals.{times}
use Rattle.wf_frame.specs.Calls.{no_limits}

-- a service period of two frames: both go in one aggregate, and the third frame waits for the next trigger
abbrev pub period_of_two_calls : List Entry
period_of_two_calls = map (by 0) (
    Asked (Join 0 64 100 3 1) ∷
    Asked (Service (call.Set 0 8 2)) ∷
    times 3 (Enqueue 0 6 0 100) ++
    Asked (Sleep 0) ∷
    Asked (Pull Vo no_limits) ∷
    Asked (Service (call.Trigger 0)) ∷
    Asked (Pull Vo no_limits) ∷
    Asked (Pull Vo no_limits) ∷
    Asked (Service (call.Trigger 0)) ∷
    Asked (Pull Vo no_limits) ∷
    Asked (Service (call.Trigger 0)) ∷
    [])

-- the last exchange of each has the EOSP bit, and the first one the More Data bit too
pub period_of_two : drop 6 (replies (opening standard) period_of_two_calls) ≡
    Refused Idle ∷
    reply.Service (answer.Triggered Vo) ∷
    Send 0 0 6 420 (Mpdus ((0, 100) ∷ (1, 101) ∷ [])) true true ∷
    Refused Idle ∷
    reply.Service (answer.Triggered Vo) ∷
    Send 1 0 6 256 (Mpdus ((2, 102) ∷ [])) false true ∷
    Refused Nothing ∷ []
unfolding the_machine
period_of_two = refl

-- a poll and a service period at the same time: each exchange spends what its class allowed
abbrev pub poll_and_trigger_calls : List Entry
poll_and_trigger_calls = map (by 0) (
    Asked (Join 0 64 100 3 1) ∷
    Asked (Service (call.Set 0 8 0)) ∷
    times 2 (Enqueue 0 6 0 100) ++
    times 2 (Enqueue 0 0 0 100) ++
    Asked (Sleep 0) ∷
    Asked (Poll 0) ∷
    Asked (Service (call.Trigger 0)) ∷
    Asked (Service (call.Trigger 0)) ∷
    Asked (Service (call.Set 0 0 0)) ∷
    Asked (Pull Vo no_limits) ∷
    Asked (Pull Be no_limits) ∷
    Asked (Pull Be no_limits) ∷
    Asked (Pull Vo no_limits) ∷
    [])

-- without a limit the period ends when nothing waits, and the More Data bit of the poll is about other
-- classes
pub poll_and_trigger : drop 7 (replies (opening standard) poll_and_trigger_calls) ≡
    reply.Polled Be ∷
    reply.Service (answer.Triggered Vo) ∷
    Refused Polled ∷
    Refused Asleep ∷
    Send 0 0 6 420 (Mpdus ((0, 100) ∷ (1, 101) ∷ [])) false true ∷
    Send 1 0 0 256 (Mpdus ((2, 100) ∷ [])) true false ∷
    Refused Idle ∷
    Refused Idle ∷ []
unfolding the_machine
poll_and_trigger = refl

-- the device says that a service period ended, and a wake ends one
abbrev pub ended_calls : List Entry
ended_calls = map (by 0) (
    Asked (Join 0 64 100 3 1) ∷
    Asked (Service (call.Set 0 15 1)) ∷
    Enqueue 0 1 0 100 ∷
    Asked (Sleep 0) ∷
    Asked (Service (call.Trigger 0)) ∷
    Asked (Service (call.End 0)) ∷
    Asked (Pull Bk no_limits) ∷
    Asked (Service (call.Trigger 0)) ∷
    Asked (Wake 0) ∷
    Asked (Service (call.End 0)) ∷
    Asked (Sleep 0) ∷
    Asked (Pull Bk no_limits) ∷
    [])

pub ended : drop 4 (replies (opening standard) ended_calls) ≡
    reply.Service (answer.Triggered Bk) ∷
    reply.Service answer.Ended ∷
    Refused Idle ∷
    reply.Service (answer.Triggered Bk) ∷
    Woken ∷
    Refused Nothing ∷
    Slept ∷
    Refused Idle ∷ []
unfolding the_machine
ended = refl
