-- Computes a history of a station that joins without agreements. Its first frame goes alone, and an Ack
-- answers. Then an agreement begins and ends: of two frames with numbers one has arrived, and the receiver
-- releases it. Both are dropped.
use Rattle.std.proofs.Common.{◌≡◌, refl, true, false, List, [], ◌∷◌, map, None, Some, option_map}
use Rattle.wf_frame.specs.declared.settings.Config.{Config}
use Rattle.wf_frame.specs.Settings.{standard}
use Rattle.wf_frame.specs.Calls.{no_limits}
use Rattle.wf_frame.specs.declared.classes.Class.TheVariants.{Be}
use Rattle.wf_frame.specs.declared.classes.Cause.TheVariants.{Ended}
use Rattle.wf_frame.specs.declared.classes.Fate.TheVariants.{Acked, Dropped}
use Rattle.wf_frame.specs.declared.notes.Ask.TheVariants.{Plain, Hold, Begin, Free, Cease, Pull, Arrive, Answer, Done}
use Rattle.wf_frame.specs.declared.notes.Note.TheVariants.{Enqueue, Asked}
use Rattle.wf_frame.specs.declared.notes.ReplyNote.TheVariants.{Ack, Ceased}
use Rattle.wf_def_agreement.specs.Session.{start_of, next_number}
use Rattle.wf_def_world.specs.World.{Exchange, opening, frame, session, exchange, is_agreed, is_held_back}
use Rattle.wf_def_world.specs.Step.{step}
use Rattle.wf_def_world.specs.Text.{tally}
use Rattle.wf_def_world.specs.Run.{Entry, by}
use Rattle.wf_def_world.specs.Stretches.{world_at}
use Rattle.wf_def_world.specs.Computed.{the_machine}
use Rattle.wf_law_runs.specs.Tries.{tries, data_exchanges}

abbrev config : Config
config = standard

abbrev history : List Entry
history = map (by 0) (
    Asked (Plain 0 4094 3 1) ∷
    Enqueue 0 0 7 100 ∷
    Enqueue 0 0 7 100 ∷
    Asked (Pull Be no_limits) ∷
    Asked (Arrive 0 0) ∷
    Asked (Answer 0) ∷
    Asked (Done 0 true None) ∷
    Asked (Hold 0 0) ∷
    Asked (Begin 0 0 64) ∷
    Enqueue 0 0 7 100 ∷
    Asked (Pull Be no_limits) ∷
    Asked (Arrive 1 1) ∷
    Asked (Done 1 false None) ∷
    Asked (Cease 0 0) ∷
    Asked (Free 0 0) ∷ [])

-- ---- without an agreement

plain : option_map (λ (x : Exchange). x.plain) (exchange (world_at config history 4) 0) ≡ Some true
unfolding the_machine
plain = refl

answer : (step (world_at config history 5) (Asked (Answer 0))).reply ≡ Ack
unfolding the_machine
answer = refl

acked : (frame (world_at config history 7) 0).fate ≡ Acked
unfolding the_machine
acked = refl

-- ---- with an agreement

held : is_held_back (world_at config history 8) 0 0 ≡ true
unfolding the_machine
held = refl

agreed : is_agreed (world_at config history 9) 0 0 ≡ true
unfolding the_machine
agreed = refl

-- The other two frames go in one aggregate.
sent : map (λ id. tries (opening config) id history) (0 ∷ 1 ∷ 2 ∷ []) ≡ 1 ∷ 1 ∷ 1 ∷ []
unfolding the_machine
sent = refl

exchanges_then : data_exchanges (opening config) history ≡ 2
unfolding the_machine
exchanges_then = refl

-- ---- the agreement ends

ceased : (step (world_at config history 13) (Asked (Cease 0 0))).reply ≡ Ceased 2 (2 ∷ [])
unfolding the_machine
ceased = refl

dropped : tally (world_at config history 14) (Dropped Ended) ≡ 2
unfolding the_machine
dropped = refl

all_settled : start_of (session (world_at config history 14) 0 0)
    ≡ next_number (session (world_at config history 14) 0 0)
unfolding the_machine
all_settled = refl

heard_then : (session (world_at config history 14) 0 0).heard ≡ 4097
unfolding the_machine
heard_then = refl

free : is_held_back (world_at config history 15) 0 0 ≡ false
unfolding the_machine
free = refl
