-- Proves the invariants of a replay's history: its place in the trace, how far the run has come, and its
-- samples.
use Rattle.std.proofs.Common.{◌≡◌, ℕ, ◌+◌, ◌<◌, [], ◌∷◌, length, refl, sym, ◌∙◌, ap, ap₂, subst, arith}
use Rattle.std.specs.Prelude.{Option, Some, None, Ok, IfSome, IsSomeAnd, option_map}
use Rattle.std.proofs.lemmas.List.{length-append}
use Rattle.wf_cell.specs.Cells.{calls_left_in, with_entry}
use Rattle.wf_frame.specs.declared.settings.Config.{Config}
use Rattle.wf_report.specs.Samples.{IsSample}
use Rattle.wf_report.proofs.Sampled.{is_sample, length_sample}
use Rattle.wf_frame.specs.Frames.{FrameValue, new_frame, sample_body}
use Rattle.wf_frame.specs.declared.notes.Note.{Note}
use Rattle.wf_frame.specs.declared.notes.Note.TheVariants.{Enqueue}
use Rattle.wf_path.specs.Jobs.{note_of}
use Rattle.wf_path.specs.declared.job.Job.TheVariants.{Give}
use Rattle.wf_cell.proofs.Runs.{opening_is, world_then}
use Rattle.wf_trace.specs.declared.meaning.Meaning.TheVariants as meaning
use Rattle.wf_trace.specs.declared.meaning.Place.{Place}
use Rattle.wf_trace.specs.declared.reader.Item.TheVariants.{Entry}
use Rattle.wf_trace.specs.Meanings.{HasRoomForLine}
use Rattle.wf_trace.specs.Reader.{next_place}
use Rattle.wf_def_world.specs.World.{World, opening}
use Rattle.wf_def_world.specs.Step.{step}
use Rattle.wf_def_world.specs.Run.{Past, by, world_of}
use Rattle.wf_trace_laws.specs.Running.{Progress, progress_of, IsAt}
use Rattle.wf_trace_laws.proofs.Tellings.{headed, gone_on}

-- One more entry.
abbrev pub IsOneMore : ℕ → Note → Option Past → Option Past → Type 0
IsOneMore caller note old new = new ≡ option_map (λ (p : Past). with_entry (by caller note) p) old

-- ---- how far the run has come

pub progress_none : (p : Option Past) → IsAt p None → (progress_of p).calls ≡ 0
progress_none None at = refl
progress_none (Some p) at = absurd at

pub progress_at : (p : Option Past) (place : Option Place) → IsAt p place → place ≡ None →
    (progress_of p).calls ≡ 0
progress_at p place at none = progress_none p (subst (λ (x : Option Place). IsAt p x) none at)

pub progress_head : (p : Past) (config : Config) → p ≡ record { config = config; history = [] } →
    progress_of (Some p) ≡ headed config
progress_head p config is =
    ap₂ (λ (w : World) (n : ℕ). let x : Progress = record { world = Some w; calls = n } in x)
    (ap world_of is ∙ opening_is config) (ap (λ (x : Past). length x.history) is)

progress_one : (p q : Past) (caller : ℕ) (note : Note) → q ≡ with_entry (by caller note) p →
    (world_of q ≡ (step (world_of p) note).world) × (length q.history ≡ length p.history + 1)
progress_one p q caller note is = (
  ap world_of is ∙ world_then p.history (opening p.config) (by caller note),
  ap (λ (x : Past). length x.history) is ∙ length-append p.history (by caller note ∷ []),
)

pub progress_on : (old new : Option Past) (caller : ℕ) (note : Note) → IsSomeAnd old
    (λ p. 0 < calls_left_in p) →
    IsOneMore caller note old new →
    progress_of new ≡ gone_on (progress_of old) caller note
progress_on None new caller note some is = absurd some
progress_on (Some p) None caller note some is = absurd (cc)
progress_on (Some p) (Some q) caller note some is =
    let past : q ≡ with_entry (by caller note) p = cc in
    let one = progress_one p q caller note past in
    ap₂ (λ (w : World) (n : ℕ). let x : Progress = record { world = Some w; calls = n } in x) one.0 one.1

-- ---- the place in the trace

pub at_head : (p : Past) (config : Config) (place : Option Place) →
    p ≡ record { config = config; history = [] } →
    place ≡ Some (record { limit = config.calls; count = 0 }) → IsAt (Some p) place
at_head p config place is placed =
    subst (λ (x : Option Place). IsAt (Some p) x) (sym placed)
    (ap (λ (x : Past). x.config.calls) is, ap (λ (x : Past). length x.history) is)

at_one : (p q : Past) (place : Place) (caller : ℕ) (note : Note) → q ≡ with_entry (by caller note) p →
    IsAt (Some p) (Some place) → IsAt (Some q) (next_place (Some place))
at_one p q place caller note past at = (
  ap (λ (x : Past). x.config.calls) past ∙ at.0,
  (progress_one p q caller note past).1 ∙ ap (λ (n : ℕ). n + 1) at.1,
)

at_next : (old new : Option Past) (place : Option Place) (caller : ℕ) (note : Note) → IsAt old place →
    IsSomeAnd old (λ p. 0 < calls_left_in p) → IsOneMore caller note old new → IsAt new (next_place place)
at_next None new place caller note at some is = absurd some
at_next (Some p) new None caller note at some is = absurd at
at_next (Some p) None (Some place) caller note at some is = absurd (cc)
at_next (Some p) (Some q) (Some place) caller note at some is = at_one p q place caller note (cc) at

pub at_entry : (old new : Option Past) (place next : Option Place) (caller : ℕ) (note : Note) →
    IsAt old place → IsSomeAnd old (λ p. 0 < calls_left_in p) → IsOneMore caller note old new →
    next ≡ next_place place → IsAt new next
at_entry old new place next caller note at some is placed =
    subst (λ (x : Option Place). IsAt new x) (sym placed) (at_next old new place caller note at some is)

-- The head allows one more call, so the cell has room for it.
pub room_at : (p : Option Past) (place : Option Place) (caller : ℕ) (note : Note) → IsAt p place →
    HasRoomForLine (Ok (meaning.Entry caller note)) place → IsSomeAnd p (λ p. 0 < calls_left_in p)
room_at p None caller note at room = absurd room
room_at None (Some place) caller note at room = absurd at
room_at (Some p) (Some place) caller note at room = omega (arith, at.0, at.1, room)

-- ---- a cell of a head

-- A fact that holds for a value, if there is one.
pub some_is : {X : Type 0} (P : X → Type 0) (o : Option X) → IfSome o P → (x : X) → o ≡ Some x → P x
some_is P None all x is = absurd (cc)
some_is P (Some y) all x is = let same : y ≡ x = cc in subst P same all

-- A frame of a trace has the length in its line.
frame_named : (f : FrameValue) (station tid flow len : ℕ) →
    f ≡ new_frame station tid flow (sample_body flow len) → note_of (Give f) ≡ Enqueue station tid flow len
frame_named f station tid flow len is =
    ap (λ (x : FrameValue). note_of (Give x)) is ∙ ap (λ (n : ℕ). Enqueue station tid flow n)
    (length_sample flow len)

-- Its body is a sample, as for all frames of a trace.
sample_named : (f : FrameValue) (station tid flow len : ℕ) →
    f ≡ new_frame station tid flow (sample_body flow len) → IsSample f
sample_named f station tid flow len is = subst IsSample (sym is) (is_sample station tid flow len)

-- Its call is the one in the line.
pub call_named : (f : FrameValue) (note : Note) (station tid flow len : ℕ) →
    note ≡ Enqueue station tid flow len → f ≡ new_frame station tid flow (sample_body flow len) →
    (note_of (Give f) ≡ note) × IsSample f
call_named f note station tid flow len named is = (
  frame_named f station tid flow len is ∙ sym named,
  sample_named f station tid flow len is,
)
