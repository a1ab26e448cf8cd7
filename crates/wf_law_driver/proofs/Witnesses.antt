-- Proves, by computing, two examples of the laws. Three frames in one aggregate, whose numbers wrap: the
-- first BlockAck shows only the second number, the next shows none, and the last shows the other two. Three
-- frames in one batch: the first never went on the air, the device had the second acknowledged and gave the
-- third up; then the first, alone in a batch, again never went on the air.
use Rattle.std.proofs.Common.{◌≡◌, refl, ℕ, ◌==◌, nat_lt, true, false, List, [], ◌∷◌, None, map}
use Rattle.wf_frame.specs.Settings.{standard}
use Rattle.wf_frame.specs.declared.classes.Class.TheVariants.{Be}
use Rattle.wf_frame.specs.declared.classes.Fate.{Fate}
use Rattle.wf_frame.specs.declared.classes.Cause.TheVariants.{Retries}
use Rattle.wf_frame.specs.declared.classes.Fate.TheVariants.{Held, Acked, Dropped}
use Rattle.wf_frame.specs.declared.notes.Ask.TheVariants.{Join, Offload, Pull, Arrive, Answer, Unsent, Done}
use Rattle.wf_frame.specs.declared.notes.Note.TheVariants.{Enqueue, Asked}
use Rattle.wf_def_world.specs.World.{World, Frame, opening}
use Rattle.wf_def_world.specs.Run.{Entry, by, world_after}
use Rattle.wf_def_world.specs.Computed.{the_machine}
use Rattle.wf_law_driver.specs.Driven.{Deed, Call, Heard, history_of}
use Rattle.wf_frame.specs.Calls.{no_limits}

abbrev deeds : List (ℕ × Deed)
deeds = map (λ d. (0, d)) (
    Call (Asked (Join 0 8 4094 3 2)) ∷
    Call (Enqueue 0 3 7 100) ∷
    Call (Enqueue 0 3 8 200) ∷
    Call (Enqueue 0 3 9 300) ∷
    Call (Asked (Pull Be no_limits)) ∷
    Heard 0 (λ n. n == 4095) None ∷
    Call (Asked (Pull Be no_limits)) ∷
    Heard 1 (λ n. false) None ∷
    Call (Asked (Pull Be no_limits)) ∷
    Heard 2 (λ n. true) None ∷ [])

abbrev history : List Entry
history = map (by 0) (
    Asked (Join 0 8 4094 3 2) ∷
    Enqueue 0 3 7 100 ∷
    Enqueue 0 3 8 200 ∷
    Enqueue 0 3 9 300 ∷
    Asked (Pull Be no_limits) ∷
    Asked (Arrive 0 1) ∷
    Asked (Answer 0) ∷
    Asked (Done 0 true None) ∷
    Asked (Pull Be no_limits) ∷
    Asked (Done 1 false None) ∷
    Asked (Pull Be no_limits) ∷
    Asked (Arrive 2 0) ∷
    Asked (Arrive 2 1) ∷
    Asked (Answer 2) ∷
    Asked (Done 2 true None) ∷ [])

its_history : history_of (opening standard) deeds ≡ history
unfolding the_machine
its_history = refl

abbrev fates : World → List Fate
fates w = map (λ (x : Frame). x.fate) w.frames

all_acked : fates (world_after (opening standard) history) ≡ Acked ∷ Acked ∷ Acked ∷ []
unfolding the_machine
all_acked = refl

-- ---- a batch

-- The device says of each number that it was acknowledged, also of those that it never sent.
abbrev batch_deeds : List (ℕ × Deed)
batch_deeds = map (λ d. (0, d)) (
    Call (Asked (Offload 0 3 2)) ∷
    Call (Enqueue 0 3 7 100) ∷
    Call (Enqueue 0 3 8 200) ∷
    Call (Enqueue 0 3 9 300) ∷
    Call (Asked (Pull Be no_limits)) ∷
    Call (Asked (Unsent 0 0)) ∷
    Heard 0 (λ n. nat_lt n 2) None ∷
    Call (Asked (Pull Be no_limits)) ∷
    Call (Asked (Unsent 1 0)) ∷
    Heard 1 (λ n. true) None ∷ [])

-- No answer is inferred, and the Done of the batch that was never sent is not refused.
abbrev batch_history : List Entry
batch_history = map (by 0) (
    Asked (Offload 0 3 2) ∷
    Enqueue 0 3 7 100 ∷
    Enqueue 0 3 8 200 ∷
    Enqueue 0 3 9 300 ∷
    Asked (Pull Be no_limits) ∷
    Asked (Unsent 0 0) ∷
    Asked (Arrive 0 1) ∷
    Asked (Done 0 true None) ∷
    Asked (Pull Be no_limits) ∷
    Asked (Unsent 1 0) ∷
    Asked (Done 1 false None) ∷ [])

its_batch_history : history_of (opening standard) batch_deeds ≡ batch_history
unfolding the_machine
its_batch_history = refl

batch_ends : fates (world_after (opening standard) batch_history) ≡ Held ∷ Acked ∷ Dropped Retries ∷ []
unfolding the_machine
batch_ends = refl

none_open : (world_after (opening standard) batch_history).opened ≡ []
unfolding the_machine
none_open = refl
