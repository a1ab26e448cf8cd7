-- Proves that the ending of a trace is finish or a fault, by induction over its lines, and that a run
-- without faults of its source and sink ends as its trace does.
use Rattle.std.proofs.Common.{ℕ, List, [], ◌∷◌, ◌++◌, true, refl, inl, inr, sym, subst}
use Rattle.std.specs.Prelude.{Option, Some, None, Result, Ok, Err}
use Rattle.wf_trace.specs.declared.cut.Piece.{Piece}
use Rattle.wf_trace.specs.declared.cut.Piece.TheVariants as piece
use Rattle.wf_trace.specs.declared.fault.FaultKind.{FaultKind}
use Rattle.wf_trace.specs.declared.meaning.Meaning.{Meaning}
use Rattle.wf_trace.specs.declared.meaning.Meaning.TheVariants as meaning
use Rattle.wf_trace.specs.declared.meaning.Place.{Place}
use Rattle.wf_trace.specs.declared.reader.Item.{Item}
use Rattle.wf_trace.specs.declared.reader.Item.TheVariants.{Head, Entry, Finish, Bad}
use Rattle.wf_trace.specs.Words.{words}
use Rattle.wf_trace.specs.Meanings.{meant}
use Rattle.wf_trace.specs.Pieces.{Numbered, pieces}
use Rattle.wf_trace.specs.Reading.{Reading, reading, read_behind, place_behind, stopped, line_told}
use Rattle.wf_trace.proofs.CommandEndings.{Judges}
use Rattle.wf_trace.proofs.Known.{EndsInput, pieces_known}
use Rattle.wf_io.specs.declared.status.Status.TheVariants.{Done, Usage, BadTrace, ReadFault, WriteFault, NoMemory}
use Rattle.wf_trace_laws.specs.Endings.{FitsEnding, TraceAnswered, EndsTrace}
use Rattle.wf_trace_laws.specs.Outcomes.{TraceOutcome}

stopped_ends : (place : Option Place) (end : Option Piece) → EndsInput end →
    EndsTrace (stopped place end).ending
stopped_ends place None is = absurd is
stopped_ends place (Some (piece.Text line)) is = absurd is
stopped_ends place (Some (piece.Ended line)) is = tt
stopped_ends place (Some (piece.Bad fault)) is = tt

told_ends : (line : ℕ) (said : Result Meaning FaultKind) (others : Reading) → EndsTrace others.ending →
    EndsTrace (line_told line said others).ending
told_ends line (Ok (meaning.Head config)) others ends = ends
told_ends line (Ok (meaning.Entry caller note)) others ends = ends
told_ends line (Ok meaning.Finish) others ends = tt
told_ends line (Err kind) others ends = tt

behind_ends : (lines front : List Numbered) (end : Option Piece) → EndsInput end →
    EndsTrace (read_behind front lines end).ending
behind_ends [] front end is = stopped_ends (place_behind front) end is
behind_ends (line ∷ lines) front end is =
    told_ends line.line (meant (place_behind front) (words line.octets))
    (read_behind (front ++ line ∷ []) lines end) (behind_ends lines (front ++ line ∷ []) end is)

pub reading_ends : (input : List ℕ) → EndsTrace (reading true input).ending
reading_ends input = behind_ends (pieces true input).lines [] (pieces true input).ending (pieces_known input)

without_memory : (ending : Option Item) → EndsTrace ending → FitsEnding ending NoMemory
without_memory None ends = absurd ends
without_memory (Some Finish) ends = inr refl
without_memory (Some (Bad fault)) ends = inr refl
without_memory (Some (Head config)) ends = absurd ends
without_memory (Some (Entry caller note)) ends = absurd ends

pub answered : (calls text : Reading → List ℕ) → Judges (TraceOutcome calls text) TraceAnswered
answered calls text Done input taken written outcome read write usage =
    subst (λ (e : Option Item). FitsEnding e Done) (sym outcome.0) (inl refl)
answered calls text BadTrace input taken written outcome read write usage =
    subst (λ (e : Option Item). FitsEnding e BadTrace) (sym outcome.1) (inl refl)
answered calls text ReadFault input taken written outcome read write usage = absurd (read refl)
answered calls text WriteFault input taken written outcome read write usage = absurd (write refl)
answered calls text NoMemory input taken written outcome read write usage =
    without_memory (reading true input).ending (reading_ends input)
answered calls text Usage input taken written outcome read write usage = absurd (usage refl)
