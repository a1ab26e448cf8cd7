-- Computes a history of an offloaded station. Its device acknowledges one frame of a batch and gives up the
-- other. No request follows, and no reply names the released frame.
use Rattle.std.proofs.Common.{◌≡◌, refl, true, false, List, [], ◌∷◌, map, None}
use Rattle.wf_frame.specs.declared.settings.Config.{Config}
use Rattle.wf_frame.specs.Settings.{standard}
use Rattle.wf_frame.specs.Calls.{no_limits}
use Rattle.wf_frame.specs.declared.classes.Class.TheVariants.{Be}
use Rattle.wf_frame.specs.declared.classes.Cause.TheVariants.{Retries}
use Rattle.wf_frame.specs.declared.classes.Fate.TheVariants.{Acked, Dropped}
use Rattle.wf_frame.specs.declared.notes.Ask.TheVariants.{Offload, Pull, Arrive, Done}
use Rattle.wf_frame.specs.declared.notes.Note.TheVariants.{Enqueue, Asked}
use Rattle.wf_def_agreement.specs.Session.{request_due, start_of}
use Rattle.wf_def_agreement.specs.Receiver.{release_start}
use Rattle.wf_def_world.specs.World.{opening, frame, session, receiver, exchange, is_offloaded}
use Rattle.wf_def_world.specs.Run.{Entry, by}
use Rattle.wf_def_world.specs.Stretches.{world_at}
use Rattle.wf_def_world.specs.Computed.{the_machine}
use Rattle.wf_law_runs.specs.Delivery.{is_batch}
use Rattle.wf_law_runs.specs.Releases.{named_from}
use Rattle.wf_law_runs.specs.Tries.{tries, data_exchanges}

abbrev config : Config
config = standard

abbrev history : List Entry
history = map (by 0) (
    Asked (Offload 0 3 1) ∷
    Enqueue 0 0 7 100 ∷
    Enqueue 0 0 7 100 ∷
    Asked (Pull Be no_limits) ∷
    Asked (Arrive 0 0) ∷
    Asked (Done 0 false None) ∷
    Enqueue 0 0 7 100 ∷
    Asked (Pull Be no_limits) ∷ [])

offloaded : is_offloaded (world_at config history 1) 0 ≡ true
unfolding the_machine
offloaded = refl

-- ---- the batch

batch : is_batch (exchange (world_at config history 4) 0) ≡ true
unfolding the_machine
batch = refl

-- Both frames have a fate after the Done, which was not heard.
acked : (frame (world_at config history 6) 0).fate ≡ Acked
unfolding the_machine
acked = refl

dropped : (frame (world_at config history 6) 1).fate ≡ Dropped Retries
unfolding the_machine
dropped = refl

sent : map (λ id. tries (opening config) id history) (0 ∷ 1 ∷ 2 ∷ []) ≡ 1 ∷ 1 ∷ 1 ∷ []
unfolding the_machine
sent = refl

-- ---- after the batch

start_then : start_of (session (world_at config history 6) 0 0) ≡ 2
unfolding the_machine
start_then = refl

none_due : request_due (session (world_at config history 6) 0 0) ≡ false
unfolding the_machine
none_due = refl

-- The next exchange sends a frame.
frames_only : data_exchanges (opening config) history ≡ 2
unfolding the_machine
frames_only = refl

-- The receiver has the start, but no reply released a frame: the law of releases needs its premise.
released_start : release_start (receiver (world_at config history 6) 0 0) ≡ 2
unfolding the_machine
released_start = refl

none_named : named_from (opening config) [] history ≡ []
unfolding the_machine named_from
none_named = refl
