-- Histories that attain the bounds of the law of tries. A request is no try, and a frame that never went on
-- the air may be sent again.
use Rattle.std.proofs.Common.{◌≡◌, refl, ◌*◌, true, false, List, [], ◌∷◌, ◌++◌, None, map}
use Rattle.wf_frame.specs.declared.settings.Config.{Config}
use Rattle.wf_frame.specs.declared.classes.Class.TheVariants.{Be}
use Rattle.wf_frame.specs.declared.classes.Cause.TheVariants.{Retries, Flushed}
use Rattle.wf_frame.specs.declared.classes.Fate.TheVariants.{Dropped}
use Rattle.wf_frame.specs.declared.notes.Ask.TheVariants.{Join, Pull, Arrive, Answer, Done, Unsent, GiveUp, Flush}
use Rattle.wf_frame.specs.declared.notes.Note.TheVariants.{Enqueue, Asked}
use Rattle.wf_frame.specs.Settings.{standard}
use Rattle.wf_def_agreement.specs.Session.{slot}
use Rattle.wf_def_world.specs.World.{session, frame, accepted_count, opening}
use Rattle.wf_def_world.specs.Text.{tally}
use Rattle.wf_def_world.specs.Run.{Entry, by}
use Rattle.wf_def_world.specs.Stretches.{world_at}
use Rattle.wf_def_world.specs.Computed.{the_machine}
use Rattle.wf_law_runs.specs.Tries.{tries, unsent, frames_sent_in, frames_unsent, data_exchanges, requests_heard}
use Rattle.wf_frame.specs.Calls.{no_limits}

-- three attempts, and two frames in an aggregate
abbrev config : Config
config = record standard { attempts = 3; agg = 2 }

-- Both frames are sent in each of three exchanges, of which none is heard, and are then dropped. The fourth
-- exchange is a request.
abbrev history : List Entry
history = map (by 0) (
    Asked (Join 0 64 0 3 1) ∷
    Enqueue 0 0 1 100 ∷
    Enqueue 0 0 1 100 ∷
    Asked (Pull Be no_limits) ∷
    Asked (Done 0 false None) ∷
    Asked (Pull Be no_limits) ∷
    Asked (Done 1 false None) ∷
    Asked (Pull Be no_limits) ∷
    Asked (Done 2 false None) ∷
    Asked (Pull Be no_limits) ∷
    Asked (Arrive 3 0) ∷
    Asked (Answer 3) ∷
    Asked (Done 3 true None) ∷ [])

tries_attained : map (λ id. tries (opening config) id history) (0 ∷ 1 ∷ 2 ∷ []) ≡ 3 ∷ 3 ∷ 0 ∷ []
unfolding the_machine
tries_attained = refl

dropped_then : (frame (world_at config history 9) 0).fate ≡ Dropped Retries
unfolding the_machine
dropped_then = refl

-- All frames together are sent as often as the law allows.
sent_attained : frames_sent_in (opening config) history ≡ 6
unfolding the_machine
sent_attained = refl

sent_most : config.attempts * accepted_count (world_at config history 13) ≡ 6
unfolding the_machine
sent_most = refl

exchanges_then : data_exchanges (opening config) history ≡ 3
unfolding the_machine
exchanges_then = refl

-- With one frame in each exchange, there are as many exchanges of data as the law allows.
abbrev alone : Config
alone = record standard { attempts = 3; agg = 1 }

abbrev longer : List Entry
longer = history ++ map (by 0) (
    Asked (Pull Be no_limits) ∷
    Asked (Done 4 false None) ∷
    Asked (Pull Be no_limits) ∷
    Asked (Done 5 false None) ∷
    Asked (Pull Be no_limits) ∷ [])

exchanges_attained : data_exchanges (opening alone) longer ≡ 6
unfolding the_machine
exchanges_attained = refl

exchanges_most : alone.attempts * accepted_count (world_at alone longer 18) ≡ 6
unfolding the_machine
exchanges_most = refl

-- After two exchanges the number of frame 0 waits again, and counts both. While the third is open, it counts
-- one less than the frame was sent.
counts_waiting : (slot (session (world_at config history 7) 0 0) 0).attempts ≡ 2
unfolding the_machine
counts_waiting = refl

counts_flying : (slot (session (world_at config history 8) 0 0) 0).attempts ≡ 2
unfolding the_machine
counts_flying = refl

-- With one attempt, the frame is dropped after one exchange, and a request follows.
abbrev once : Config
once = record standard { attempts = 1; agg = 1 }

abbrev asked : List Entry
asked = map (by 0) (
    Asked (Join 0 64 0 3 1) ∷
    Enqueue 0 0 1 100 ∷
    Asked (Pull Be no_limits) ∷
    Asked (Done 0 false None) ∷
    Asked (Pull Be no_limits) ∷
    Asked (Arrive 1 0) ∷
    Asked (Answer 1) ∷ [])

-- If the request is heard, as many requests are heard as frames are dropped.
requests_attained : requests_heard (opening once) (asked ++ by 0 (Asked (Done 1 true None)) ∷ []) ≡ 1
unfolding the_machine
requests_attained = refl

dropped_as_many : tally (world_at once asked 7) (Dropped Retries) ≡ 1
unfolding the_machine
dropped_as_many = refl

-- A request that is not heard does not count, and is sent again.
unheard : requests_heard (opening once) (asked ++ by 0 (Asked (Done 1 false None)) ∷ []) ≡ 0
unfolding the_machine
unheard = refl

-- With one attempt, a frame that never went on the air is sent again, and is dropped after the second
-- exchange.
abbrev unheard_once : List Entry
unheard_once = map (by 0) (
    Asked (Join 0 64 0 3 1) ∷
    Enqueue 0 0 1 100 ∷
    Asked (Pull Be no_limits) ∷
    Asked (Unsent 0 0) ∷
    Asked (Done 0 false None) ∷
    Asked (Pull Be no_limits) ∷
    Asked (Done 1 false None) ∷ [])

tries_with_unsent : tries (opening once) 0 unheard_once ≡ 2
unfolding the_machine
tries_with_unsent = refl

unsent_then : unsent (opening once) 0 unheard_once ≡ 1
unfolding the_machine
unsent_then = refl

frames_with_unsent : frames_sent_in (opening once) unheard_once ≡ 2
unfolding the_machine
frames_with_unsent = refl

frames_unsent_then : frames_unsent (opening once) unheard_once ≡ 1
unfolding the_machine
frames_unsent_then = refl

dropped_after : tally (world_at once unheard_once 7) (Dropped Retries) ≡ 1
unfolding the_machine
dropped_after = refl

-- A frame that is given up is dropped after one exchange of three.
abbrev given_up : List Entry
given_up = map (by 0) (
    Asked (Join 0 64 0 3 1) ∷
    Enqueue 0 0 1 100 ∷
    Asked (Pull Be no_limits) ∷
    Asked (GiveUp 0 0) ∷
    Asked (Done 0 false None) ∷ [])

given_up_then : tally (world_at alone given_up 5) (Dropped Retries) ≡ 1
unfolding the_machine
given_up_then = refl

given_up_tries : tries (opening alone) 0 given_up ≡ 1
unfolding the_machine
given_up_tries = refl

-- A request also follows a frame that is flushed while its number waits.
abbrev flushed : List Entry
flushed = map (by 0) (
    Asked (Join 0 64 0 3 1) ∷
    Enqueue 0 0 1 100 ∷
    Asked (Pull Be no_limits) ∷
    Asked (Done 0 false None) ∷
    Asked (Flush 0 0) ∷
    Asked (Pull Be no_limits) ∷
    Asked (Arrive 1 0) ∷
    Asked (Answer 1) ∷
    Asked (Done 1 true None) ∷ [])

flush_asks : requests_heard (opening alone) flushed ≡ 1
unfolding the_machine
flush_asks = refl

flush_drops : tally (world_at alone flushed 9) (Dropped Flushed) ≡ 1
unfolding the_machine
flush_drops = refl

flush_retries : tally (world_at alone flushed 9) (Dropped Retries) ≡ 0
unfolding the_machine
flush_retries = refl
