-- Computes one history for the laws of places, room, the limit, queues and tallies. There is room for six
-- frames, and the limit of the queues is three. The history has two exchanges, the first with a frame that
-- did not arrive. One call is refused for room, one frame is reaped, and one is dropped for the limit.
use Rattle.std.proofs.Common.{◌≡◌, refl, pos, true, List, [], ◌∷◌, map, None}
use Rattle.wf_frame.specs.declared.settings.Config.{Config}
use Rattle.wf_frame.specs.Settings.{standard}
use Rattle.wf_frame.specs.declared.classes.Cause.TheVariants.{Overlimit}
use Rattle.wf_frame.specs.declared.classes.Class.TheVariants.{Be}
use Rattle.wf_frame.specs.declared.classes.Fate.TheVariants.{Held, Acked, Dropped}
use Rattle.wf_frame.specs.declared.notes.Ask.TheVariants.{Join, Pull, Arrive, Answer, Done, Reap}
use Rattle.wf_frame.specs.declared.notes.Note.TheVariants.{Enqueue, Asked}
use Rattle.wf_frame.specs.declared.notes.Refusal.TheVariants.{Room}
use Rattle.wf_frame.specs.declared.notes.ReplyNote.TheVariants.{Refused}
use Rattle.wf_def_agreement.specs.Session.{State, slot, start_of, next_number}
use Rattle.wf_def_agreement.specs.Receiver.{release_start, score_start}
use Rattle.wf_def_world.specs.World.{World, session, receiver, queue, accepted_count, inside, opening}
use Rattle.wf_def_world.specs.FlowQueues.{total_queued}
use Rattle.wf_def_world.specs.Text.{tally}
use Rattle.wf_def_world.specs.Step.{step}
use Rattle.wf_def_world.specs.Run.{Entry, by, world_after}
use Rattle.wf_def_world.specs.Computed.{the_machine}
use Rattle.wf_law_runs.specs.Room.{in_windows, reaped_in}
use Rattle.wf_law_runs.specs.Finished.{reaped_ids}
use Rattle.wf_frame.specs.Calls.{no_limits}

abbrev config : Config
config = record standard { limit = 3; room = 6; agg = 2 }

abbrev first_part : List Entry
first_part = map (by 0) (
    Asked (Join 0 4 4094 3 1) ∷
    Enqueue 0 0 7 100 ∷
    Enqueue 0 0 7 100 ∷
    Enqueue 0 0 7 100 ∷
    Asked (Pull Be no_limits) ∷
    Asked (Arrive 0 0) ∷
    Asked (Answer 0) ∷
    Asked (Done 0 true None) ∷
    Asked (Pull Be no_limits) ∷
    Enqueue 0 0 7 100 ∷
    Enqueue 0 0 7 100 ∷
    Enqueue 0 0 7 100 ∷ [])

abbrev whole : List Entry
whole = map (by 0) (
    Asked (Join 0 4 4094 3 1) ∷
    Enqueue 0 0 7 100 ∷
    Enqueue 0 0 7 100 ∷
    Enqueue 0 0 7 100 ∷
    Asked (Pull Be no_limits) ∷
    Asked (Arrive 0 0) ∷
    Asked (Answer 0) ∷
    Asked (Done 0 true None) ∷
    Asked (Pull Be no_limits) ∷
    Enqueue 0 0 7 100 ∷
    Enqueue 0 0 7 100 ∷
    Enqueue 0 0 7 100 ∷
    Enqueue 0 0 7 100 ∷
    Asked Reap ∷
    Enqueue 0 0 8 100 ∷ [])

abbrev first_world : World
first_world = world_after (opening config) first_part

abbrev last_world : World
last_world = world_after (opening config) whole

-- ---- room

refused_full : (step first_world (Enqueue 0 0 7 100)).reply ≡ Refused (Room 6)
unfolding the_machine
refused_full = refl

queued_last : total_queued last_world ≡ 3
unfolding the_machine
queued_last = refl

numbered_last : in_windows last_world ≡ 2
unfolding the_machine
numbered_last = refl

finished_last : last_world.finished ≡ 3 ∷ []
unfolding the_machine
finished_last = refl

inside_last : inside last_world ≡ 6
unfolding the_machine
inside_last = refl

reaped_last : reaped_in (opening config) whole ≡ 1
unfolding the_machine
reaped_last = refl

reaped_first : reaped_ids (opening config) whole ≡ 0 ∷ []
unfolding the_machine
reaped_first = refl

accepted_last : accepted_count last_world ≡ 7
unfolding the_machine
accepted_last = refl

-- ---- tallies

held_last : tally last_world Held ≡ 5
unfolding the_machine
held_last = refl

acked_last : tally last_world Acked ≡ 1
unfolding the_machine
acked_last = refl

over_last : tally last_world (Dropped Overlimit) ≡ 1
unfolding the_machine
over_last = refl

-- ---- places and queues

queue_last : map (λ x. x.id) (queue last_world 7).items ≡ 4 ∷ 5 ∷ []
unfolding the_machine
queue_last = refl

other_last : map (λ x. x.id) (queue last_world 8).items ≡ 6 ∷ []
unfolding the_machine
other_last = refl

flying_id : (slot (session last_world 0 0) 4095).id ≡ 1
unfolding the_machine
flying_id = refl

flying_state : (slot (session last_world 0 0) 4095).state ≡ State.Flying 1
unfolding the_machine
flying_state = refl

-- The three frames that were dequeued used up the queue's 300 octets, and the queue is still listed.
deficit_last : (queue last_world 7).deficit ≡ pos 0
unfolding the_machine
deficit_last = refl

-- ---- numbers above 4095, of which the air has only the low twelve bits

start_last : start_of (session last_world 0 0) ≡ 4095
unfolding the_machine
start_last = refl

next_last : next_number (session last_world 0 0) ≡ 4097
unfolding the_machine
next_last = refl

release_last : release_start (receiver last_world 0 0) ≡ 4095
unfolding the_machine
release_last = refl

score_last : score_start (receiver last_world 0 0) ≡ 4094
unfolding the_machine
score_last = refl

-- ---- the limit law needs frames with octets: without octets no queue is longest, and none loses a frame

abbrev empty_frames : List Entry
empty_frames = map (by 0) (Asked (Join 0 4 4094 3 1) ∷ Enqueue 0 0 7 0 ∷ Enqueue 0 0 7 0 ∷ Enqueue 0 0 7 0
    ∷ Enqueue 0 0 7 0 ∷ [])

past_limit : total_queued (world_after (opening config) empty_frames) ≡ 4
unfolding the_machine
past_limit = refl
