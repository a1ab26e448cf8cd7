-- Proves that the counts of frames by fate add up to the accepted frames. By induction on the frames.
use Rattle.std.proofs.Common.{◌≡◌, ℕ, ◌+◌, List, [], ◌∷◌, length, refl, arith, if◌then◌else◌}
use Rattle.std.proofs.lemmas.List.Sums.{sum_by-cons}
use Rattle.std.specs.Prelude.{count_by}
use Rattle.wf_frame.specs.declared.settings.Config.{Config}
use Rattle.wf_frame.specs.declared.classes.Cause.TheVariants.{Overlimit, Codel, Retries, Left, Flushed, Ended}
use Rattle.wf_frame.specs.declared.classes.Fate.{Fate}
use Rattle.wf_frame.specs.declared.classes.Fate.TheVariants.{Held, Acked, Dropped}
use Rattle.wf_frame.specs.declared.notes.Note.{Note}
use Rattle.wf_def_world.specs.World.{Frame}
use Rattle.wf_def_world.specs.Run.{Entry}
use Rattle.wf_def_world.specs.Text.{same_fate}
use Rattle.wf_def_world.specs.Stretches.{world_at}
use Rattle.wf_law_runs.specs.Tallies.{TallyLaw}

abbrev pub count_of : List Frame → Fate → ℕ
count_of frames fate = count_by (λ f. same_fate f.fate fate) frames

abbrev pub Adds : List Frame → Type 0
Adds frames =
    length frames
    ≡ count_of frames Acked + count_of frames (Dropped Overlimit) + count_of frames
    (Dropped Codel) + count_of frames (Dropped Retries) + count_of frames
    (Dropped Left) + count_of frames (Dropped Flushed) + count_of frames (Dropped Ended)
    + count_of frames Held

abbrev made : Note → Fate → Frame
made note fate = record { note = note; fate = fate }

counted : (f : Frame) (frames : List Frame) (fate : Fate) →
    count_of (f ∷ frames) fate ≡ (if same_fate f.fate fate then 1 else 0) + count_of frames fate
counted f frames fate = sum_by-cons (λ (y : Frame). if same_fate y.fate fate then 1 else 0) f frames

-- One more frame, by cases of its fate.
one_more : (note : Note) (fate : Fate) (frames : List Frame) → Adds frames → Adds (made note fate ∷ frames)
one_more note Acked frames adds =
    let f : Frame = made note Acked in
    let acked : count_of (f ∷ frames) Acked ≡ 1 + count_of frames Acked =
    counted f frames Acked in
    let overlimit : count_of (f ∷ frames) (Dropped Overlimit) ≡ 0 + count_of frames (Dropped Overlimit) =
    counted f frames (Dropped Overlimit) in
    let codel : count_of (f ∷ frames) (Dropped Codel) ≡ 0 + count_of frames (Dropped Codel) =
    counted f frames (Dropped Codel) in
    let retries : count_of (f ∷ frames) (Dropped Retries) ≡ 0 + count_of frames (Dropped Retries) =
    counted f frames (Dropped Retries) in
    let left : count_of (f ∷ frames) (Dropped Left) ≡ 0 + count_of frames (Dropped Left) =
    counted f frames (Dropped Left) in
    let flushed : count_of (f ∷ frames) (Dropped Flushed) ≡ 0 + count_of frames (Dropped Flushed) =
    counted f frames (Dropped Flushed) in
    let ended : count_of (f ∷ frames) (Dropped Ended) ≡ 0 + count_of frames (Dropped Ended) =
    counted f frames (Dropped Ended) in
    let held : count_of (f ∷ frames) Held ≡ 0 + count_of frames Held =
    counted f frames Held in
    omega (arith, adds, acked, overlimit, codel, retries, left, flushed, ended, held)
one_more note (Dropped Overlimit) frames adds =
    let f : Frame = made note (Dropped Overlimit) in
    let acked : count_of (f ∷ frames) Acked ≡ 0 + count_of frames Acked =
    counted f frames Acked in
    let overlimit : count_of (f ∷ frames) (Dropped Overlimit) ≡ 1 + count_of frames (Dropped Overlimit) =
    counted f frames (Dropped Overlimit) in
    let codel : count_of (f ∷ frames) (Dropped Codel) ≡ 0 + count_of frames (Dropped Codel) =
    counted f frames (Dropped Codel) in
    let retries : count_of (f ∷ frames) (Dropped Retries) ≡ 0 + count_of frames (Dropped Retries) =
    counted f frames (Dropped Retries) in
    let left : count_of (f ∷ frames) (Dropped Left) ≡ 0 + count_of frames (Dropped Left) =
    counted f frames (Dropped Left) in
    let flushed : count_of (f ∷ frames) (Dropped Flushed) ≡ 0 + count_of frames (Dropped Flushed) =
    counted f frames (Dropped Flushed) in
    let ended : count_of (f ∷ frames) (Dropped Ended) ≡ 0 + count_of frames (Dropped Ended) =
    counted f frames (Dropped Ended) in
    let held : count_of (f ∷ frames) Held ≡ 0 + count_of frames Held =
    counted f frames Held in
    omega (arith, adds, acked, overlimit, codel, retries, left, flushed, ended, held)
one_more note (Dropped Codel) frames adds =
    let f : Frame = made note (Dropped Codel) in
    let acked : count_of (f ∷ frames) Acked ≡ 0 + count_of frames Acked =
    counted f frames Acked in
    let overlimit : count_of (f ∷ frames) (Dropped Overlimit) ≡ 0 + count_of frames (Dropped Overlimit) =
    counted f frames (Dropped Overlimit) in
    let codel : count_of (f ∷ frames) (Dropped Codel) ≡ 1 + count_of frames (Dropped Codel) =
    counted f frames (Dropped Codel) in
    let retries : count_of (f ∷ frames) (Dropped Retries) ≡ 0 + count_of frames (Dropped Retries) =
    counted f frames (Dropped Retries) in
    let left : count_of (f ∷ frames) (Dropped Left) ≡ 0 + count_of frames (Dropped Left) =
    counted f frames (Dropped Left) in
    let flushed : count_of (f ∷ frames) (Dropped Flushed) ≡ 0 + count_of frames (Dropped Flushed) =
    counted f frames (Dropped Flushed) in
    let ended : count_of (f ∷ frames) (Dropped Ended) ≡ 0 + count_of frames (Dropped Ended) =
    counted f frames (Dropped Ended) in
    let held : count_of (f ∷ frames) Held ≡ 0 + count_of frames Held =
    counted f frames Held in
    omega (arith, adds, acked, overlimit, codel, retries, left, flushed, ended, held)
one_more note (Dropped Retries) frames adds =
    let f : Frame = made note (Dropped Retries) in
    let acked : count_of (f ∷ frames) Acked ≡ 0 + count_of frames Acked =
    counted f frames Acked in
    let overlimit : count_of (f ∷ frames) (Dropped Overlimit) ≡ 0 + count_of frames (Dropped Overlimit) =
    counted f frames (Dropped Overlimit) in
    let codel : count_of (f ∷ frames) (Dropped Codel) ≡ 0 + count_of frames (Dropped Codel) =
    counted f frames (Dropped Codel) in
    let retries : count_of (f ∷ frames) (Dropped Retries) ≡ 1 + count_of frames (Dropped Retries) =
    counted f frames (Dropped Retries) in
    let left : count_of (f ∷ frames) (Dropped Left) ≡ 0 + count_of frames (Dropped Left) =
    counted f frames (Dropped Left) in
    let flushed : count_of (f ∷ frames) (Dropped Flushed) ≡ 0 + count_of frames (Dropped Flushed) =
    counted f frames (Dropped Flushed) in
    let ended : count_of (f ∷ frames) (Dropped Ended) ≡ 0 + count_of frames (Dropped Ended) =
    counted f frames (Dropped Ended) in
    let held : count_of (f ∷ frames) Held ≡ 0 + count_of frames Held =
    counted f frames Held in
    omega (arith, adds, acked, overlimit, codel, retries, left, flushed, ended, held)
one_more note (Dropped Left) frames adds =
    let f : Frame = made note (Dropped Left) in
    let acked : count_of (f ∷ frames) Acked ≡ 0 + count_of frames Acked =
    counted f frames Acked in
    let overlimit : count_of (f ∷ frames) (Dropped Overlimit) ≡ 0 + count_of frames (Dropped Overlimit) =
    counted f frames (Dropped Overlimit) in
    let codel : count_of (f ∷ frames) (Dropped Codel) ≡ 0 + count_of frames (Dropped Codel) =
    counted f frames (Dropped Codel) in
    let retries : count_of (f ∷ frames) (Dropped Retries) ≡ 0 + count_of frames (Dropped Retries) =
    counted f frames (Dropped Retries) in
    let left : count_of (f ∷ frames) (Dropped Left) ≡ 1 + count_of frames (Dropped Left) =
    counted f frames (Dropped Left) in
    let flushed : count_of (f ∷ frames) (Dropped Flushed) ≡ 0 + count_of frames (Dropped Flushed) =
    counted f frames (Dropped Flushed) in
    let ended : count_of (f ∷ frames) (Dropped Ended) ≡ 0 + count_of frames (Dropped Ended) =
    counted f frames (Dropped Ended) in
    let held : count_of (f ∷ frames) Held ≡ 0 + count_of frames Held =
    counted f frames Held in
    omega (arith, adds, acked, overlimit, codel, retries, left, flushed, ended, held)
one_more note (Dropped Flushed) frames adds =
    let f : Frame = made note (Dropped Flushed) in
    let acked : count_of (f ∷ frames) Acked ≡ 0 + count_of frames Acked =
    counted f frames Acked in
    let overlimit : count_of (f ∷ frames) (Dropped Overlimit) ≡ 0 + count_of frames (Dropped Overlimit) =
    counted f frames (Dropped Overlimit) in
    let codel : count_of (f ∷ frames) (Dropped Codel) ≡ 0 + count_of frames (Dropped Codel) =
    counted f frames (Dropped Codel) in
    let retries : count_of (f ∷ frames) (Dropped Retries) ≡ 0 + count_of frames (Dropped Retries) =
    counted f frames (Dropped Retries) in
    let left : count_of (f ∷ frames) (Dropped Left) ≡ 0 + count_of frames (Dropped Left) =
    counted f frames (Dropped Left) in
    let flushed : count_of (f ∷ frames) (Dropped Flushed) ≡ 1 + count_of frames (Dropped Flushed) =
    counted f frames (Dropped Flushed) in
    let ended : count_of (f ∷ frames) (Dropped Ended) ≡ 0 + count_of frames (Dropped Ended) =
    counted f frames (Dropped Ended) in
    let held : count_of (f ∷ frames) Held ≡ 0 + count_of frames Held =
    counted f frames Held in
    omega (arith, adds, acked, overlimit, codel, retries, left, flushed, ended, held)
one_more note (Dropped Ended) frames adds =
    let f : Frame = made note (Dropped Ended) in
    let acked : count_of (f ∷ frames) Acked ≡ 0 + count_of frames Acked =
    counted f frames Acked in
    let overlimit : count_of (f ∷ frames) (Dropped Overlimit) ≡ 0 + count_of frames (Dropped Overlimit) =
    counted f frames (Dropped Overlimit) in
    let codel : count_of (f ∷ frames) (Dropped Codel) ≡ 0 + count_of frames (Dropped Codel) =
    counted f frames (Dropped Codel) in
    let retries : count_of (f ∷ frames) (Dropped Retries) ≡ 0 + count_of frames (Dropped Retries) =
    counted f frames (Dropped Retries) in
    let left : count_of (f ∷ frames) (Dropped Left) ≡ 0 + count_of frames (Dropped Left) =
    counted f frames (Dropped Left) in
    let flushed : count_of (f ∷ frames) (Dropped Flushed) ≡ 0 + count_of frames (Dropped Flushed) =
    counted f frames (Dropped Flushed) in
    let ended : count_of (f ∷ frames) (Dropped Ended) ≡ 1 + count_of frames (Dropped Ended) =
    counted f frames (Dropped Ended) in
    let held : count_of (f ∷ frames) Held ≡ 0 + count_of frames Held =
    counted f frames Held in
    omega (arith, adds, acked, overlimit, codel, retries, left, flushed, ended, held)
one_more note Held frames adds =
    let f : Frame = made note Held in
    let acked : count_of (f ∷ frames) Acked ≡ 0 + count_of frames Acked =
    counted f frames Acked in
    let overlimit : count_of (f ∷ frames) (Dropped Overlimit) ≡ 0 + count_of frames (Dropped Overlimit) =
    counted f frames (Dropped Overlimit) in
    let codel : count_of (f ∷ frames) (Dropped Codel) ≡ 0 + count_of frames (Dropped Codel) =
    counted f frames (Dropped Codel) in
    let retries : count_of (f ∷ frames) (Dropped Retries) ≡ 0 + count_of frames (Dropped Retries) =
    counted f frames (Dropped Retries) in
    let left : count_of (f ∷ frames) (Dropped Left) ≡ 0 + count_of frames (Dropped Left) =
    counted f frames (Dropped Left) in
    let flushed : count_of (f ∷ frames) (Dropped Flushed) ≡ 0 + count_of frames (Dropped Flushed) =
    counted f frames (Dropped Flushed) in
    let ended : count_of (f ∷ frames) (Dropped Ended) ≡ 0 + count_of frames (Dropped Ended) =
    counted f frames (Dropped Ended) in
    let held : count_of (f ∷ frames) Held ≡ 1 + count_of frames Held =
    counted f frames Held in
    omega (arith, adds, acked, overlimit, codel, retries, left, flushed, ended, held)

pub counts_add : (frames : List Frame) → Adds frames
counts_add [] = refl
counts_add (f ∷ frames) = one_more f.note f.fate frames (counts_add frames)

pub tally_law : (config : Config) (history : List Entry) → TallyLaw config history
tally_law config history m = counts_add (world_at config history m).frames
