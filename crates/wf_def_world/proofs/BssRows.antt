-- Proves, by computing, what the machine replies to worked histories with several BSSs, and the text of some.
-- A group frame with a body of 100 octets takes 196 microseconds.
use Rattle.std.proofs.Common.{◌≡◌, refl, true, false, List, [], ◌∷◌, ◌++◌, drop, map, codes}
use Rattle.std.specs.List.{concat}
use Rattle.std.specs.Fmt.{digits}
use Rattle.wf_frame.specs.declared.notes.Ask.TheVariants.{Join, Leave, Sleep, Wake, Group, Bss}
use Rattle.wf_frame.specs.declared.notes.GroupAsk.TheVariants as call
use Rattle.wf_frame.specs.declared.notes.GroupReply.TheVariants as answer
use Rattle.wf_frame.specs.declared.notes.Note.TheVariants.{Enqueue, Asked}
use Rattle.wf_frame.specs.declared.notes.Refusal.TheVariants.{BadStation, BadBss, NoStation, Asleep, Buffered, Flying, Idle, Nothing}
use Rattle.wf_frame.specs.declared.notes.ReplyNote.TheVariants.{Joined, Set, Slept, Woken, Refused}
use Rattle.wf_frame.specs.declared.notes.ReplyNote.TheVariants as reply
use Rattle.wf_frame.specs.Settings.{standard}
use Rattle.wf_frame.specs.Calls.{in_bss}
use Rattle.wf_def_world.specs.World.{opening}
use Rattle.wf_def_world.specs.Run.{Entry, by, replies}
use Rattle.wf_def_world.specs.Text.{text_of}
use Rattle.wf_def_world.specs.Computed.{the_machine}
use Rattle.wf_def_world.proofs.Rehearsals.{times}

-- a station of BSS 1 sleeps: group frames of BSS 0 go at once, and those of BSS 1 wait for its beacon
abbrev pub sleeper_of_another_calls : List Entry
sleeper_of_another_calls = map (by 0) (
    Asked (Join 0 64 0 3 1) ∷
    Asked (Join 1 64 0 3 1) ∷
    Asked (Bss 1 1) ∷
    Asked (Sleep 1) ∷
    Asked (Group (in_bss 0 (call.Accept 100))) ∷
    Asked (Group (in_bss 1 (call.Accept 100))) ∷
    Asked (Group (in_bss 0 call.Pull)) ∷
    Asked (Group (in_bss 1 call.Pull)) ∷
    Asked (Group (in_bss 0 call.Beacon)) ∷
    Asked (Group (in_bss 1 call.Pull)) ∷
    Asked (Group (in_bss 1 call.Beacon)) ∷
    Asked (Group (in_bss 1 call.Pull)) ∷
    [])

-- one frame of each BSS is on the air in the end
pub sleeper_of_another : drop 2 (replies (opening (record standard { buffered = 8; bsses = 2 }))
    sleeper_of_another_calls) ≡
    Set ∷
    Slept ∷
    reply.Group (answer.Queued 0) ∷
    reply.Group (answer.Queued 0) ∷
    reply.Group (answer.Send 0 0 196 false) ∷
    Refused Idle ∷
    reply.Group (answer.Beacon 0 false) ∷
    Refused Idle ∷
    reply.Group (answer.Beacon 0 true) ∷
    reply.Group (answer.Send 0 1 196 false) ∷ []
unfolding the_machine
sleeper_of_another = refl

-- each BSS has its own ids, sequence numbers, DTIM count and room, and a frame on the air of its own
abbrev pub apart_calls : List Entry
apart_calls = map (by 0) (
    times 2 (Asked (Group (in_bss 0 (call.Accept 100)))) ++
    Asked (Group (in_bss 2 (call.Accept 100))) ∷
    Asked (Group (in_bss 2 call.Beacon)) ∷
    Asked (Group (in_bss 2 call.Beacon)) ∷
    Asked (Group (in_bss 0 call.Beacon)) ∷
    Asked (Group (in_bss 2 call.Pull)) ∷
    Asked (Group (in_bss 0 call.Pull)) ∷
    Asked (Group (in_bss 2 call.Pull)) ∷
    Asked (Group (in_bss 1 call.Done)) ∷
    Asked (Group (in_bss 2 call.Done)) ∷
    [])

pub apart : replies (opening (record standard { period = 2; buffered = 1; bsses = 3 })) apart_calls ≡
    reply.Group (answer.Queued 0) ∷
    Refused (Buffered 1) ∷
    reply.Group (answer.Queued 0) ∷
    reply.Group (answer.Beacon 1 false) ∷
    reply.Group (answer.Beacon 0 true) ∷
    reply.Group (answer.Beacon 1 false) ∷
    reply.Group (answer.Send 0 2 196 false) ∷
    reply.Group (answer.Send 0 1 196 false) ∷
    Refused Flying ∷
    Refused Nothing ∷
    reply.Group (answer.Done 0) ∷ []
unfolding the_machine
apart = refl

-- each refusal of a change of the BSS, in order, and of calls about a BSS that does not exist
abbrev pub bss_refusals_calls : List Entry
bss_refusals_calls = map (by 0) (
    Asked (Bss 16 2) ∷
    Asked (Bss 0 2) ∷
    Asked (Bss 0 1) ∷
    Asked (Join 0 64 0 3 1) ∷
    Asked (Sleep 0) ∷
    Asked (Bss 0 0) ∷
    Asked (Wake 0) ∷
    Asked (Bss 0 1) ∷
    Asked (Group (in_bss 2 (call.Accept 100))) ∷
    Asked (Group (in_bss 2 call.Beacon)) ∷
    Asked (Group (in_bss 2 call.Pull)) ∷
    Asked (Group (in_bss 2 call.Done)) ∷
    [])

pub bss_refusals : replies (opening (record standard { bsses = 2 })) bss_refusals_calls ≡
    Refused BadStation ∷
    Refused BadBss ∷
    Refused NoStation ∷
    Joined ∷
    Slept ∷
    Refused Asleep ∷
    Woken ∷
    Set ∷
    Refused BadBss ∷
    Refused BadBss ∷
    Refused BadBss ∷
    Refused BadBss ∷ []
unfolding the_machine
bss_refusals = refl

-- a station that joins again is of BSS 0
abbrev pub leave_forgets_calls : List Entry
leave_forgets_calls = map (by 0) (
    Asked (Join 0 64 0 3 1) ∷
    Asked (Bss 0 1) ∷
    Asked (Leave 0) ∷
    Asked (Join 0 64 0 3 1) ∷
    Asked (Sleep 0) ∷
    Asked (Group (in_bss 1 (call.Accept 100))) ∷
    Asked (Group (in_bss 1 call.Pull)) ∷
    Asked (Group (in_bss 0 (call.Accept 100))) ∷
    Asked (Group (in_bss 0 call.Pull)) ∷
    [])

pub leave_forgets : drop 5 (replies (opening (record standard { buffered = 8; bsses = 2 }))
    leave_forgets_calls) ≡
    reply.Group (answer.Queued 0) ∷
    reply.Group (answer.Send 0 0 196 false) ∷
    reply.Group (answer.Queued 0) ∷
    Refused Idle ∷ []
unfolding the_machine
leave_forgets = refl

-- with several BSSs the summary has the lines of each, with its number; a TIM has the stations of its BSS
abbrev pub bsses_in_text_calls : List Entry
bsses_in_text_calls = map (by 0) (
    Asked (Join 0 64 0 3 1) ∷
    Asked (Join 1 64 0 3 1) ∷
    Asked (Bss 1 1) ∷
    Enqueue 0 0 7 100 ∷
    Enqueue 1 0 7 100 ∷
    Asked (Sleep 0) ∷
    Asked (Sleep 1) ∷
    Asked (Group (in_bss 1 (call.Accept 100))) ∷
    Asked (Group (in_bss 1 call.Beacon)) ∷
    [])

pub bsses_in_text : text_of (record standard { buffered = 8; bsses = 2 }) bsses_in_text_calls ≡ concat (
    codes "joined\n" ∷
    codes "joined\n" ∷
    codes "set\n" ∷
    codes "accepted 0\n" ∷
    codes "accepted 1\n" ∷
    codes "slept\n" ∷
    codes "slept\n" ∷
    codes "queued 0\n" ∷
    codes "beacon 0 1\n" ∷
    codes "calls 9\n" ∷
    codes "now 0\n" ∷
    codes "frames 2 acked 0 overlimit 0 codel 0 retries 0 left 0 held 2\n" ∷
    codes "exchanges 0 open 0\n" ∷
    codes "group 0 sent 0 held 0 air 0 bss 0\n" ∷
    codes "tim 050400010002 bss 0\n" ∷
    codes "group 1 sent 0 held 1 air 0 bss 1\n" ∷
    codes "tim 050400010104 bss 1\n" ∷
    [])
unfolding the_machine digits
bsses_in_text = refl

-- with `bsses` 1 there is BSS 0 alone, and the text is as without the setting
abbrev pub one_bss_calls : List Entry
one_bss_calls = map (by 0) (
    Asked (Join 0 64 0 3 1) ∷
    Asked (Bss 0 0) ∷
    Asked (Group (in_bss 0 (call.Accept 100))) ∷
    Asked (Group (in_bss 0 call.Beacon)) ∷
    Asked (Group (in_bss 1 call.Beacon)) ∷
    [])

pub one_bss : text_of (record standard { buffered = 8; bsses = 1 }) one_bss_calls
    ≡ text_of (record standard { buffered = 8 }) one_bss_calls
unfolding the_machine digits
one_bss = refl
