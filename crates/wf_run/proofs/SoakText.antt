-- Proves that a soak writes the summary of its history, and that this history obeys all laws and
-- has frames of valid length.
use Rattle.std.proofs.Common.{◌≡◌, ℕ, List, [], ◌∷◌, length, ap, ap₂, arith, ◌∙◌}
use Rattle.wf_frame.specs.declared.notes.Note.{Note}
use Rattle.wf_frame.specs.declared.notes.Note.TheVariants.{Enqueue, Asked}
use Rattle.wf_def_lists.specs.Lengths.{greatest_body}
use Rattle.wf_frame.specs.Settings.{standard}
use Rattle.wf_law_runs.specs.Laws.{Laws}
use Rattle.wf_law_runs.specs.Queues.{HasLength, IsAtMost}
use Rattle.wf_law_runs.proofs.AllLaws.{laws}
use Rattle.wf_run_histories.specs.Lengths.{HasSoakLength, HaveSoakLengths}
use Rattle.wf_run_histories.proofs.SoakLengths.{soak_lengths as of_soak}
use Rattle.wf_run_histories.specs.Soak.{soak_history}
use Rattle.wf_run_histories.specs.declared.soak.soaks.SoakKind.{SoakKind}
use Rattle.wf_def_world.specs.Run.{Entry, Past, world_of}
use Rattle.wf_def_world.specs.Text.{summary}
use Rattle.wf_law_runs.specs.Lengths.{HasLengths}
use Rattle.wf_run.specs.Outcome.{soak_text}
use Rattle.wf_trace_laws.proofs.Ranges.{standard_in}

pub is_soak_text : (p : Past) (seed calls : ℕ) (kind : SoakKind) →
    p ≡ record { config = standard; history = soak_history seed calls kind } →
    length (soak_history seed calls kind) ≡ calls →
    summary (world_of p) (length p.history) ≡ soak_text seed calls kind
unfolding soak_text
is_soak_text p seed calls kind played counted = ap₂ summary (ap world_of played)
    (ap (λ (q : Past). length q.history) played ∙ counted)

pub soak_laws : (seed calls : ℕ) (kind : SoakKind) → Laws standard (soak_history seed calls kind)
soak_laws seed calls kind = laws standard (soak_history seed calls kind) standard_in

-- The frames of a soak have 64 to 1500 octets: at least one, and at most the greatest length of a body.
sized : (note : Note) → HasSoakLength note → HasLength note × IsAtMost greatest_body note
sized (Enqueue station tid flow len) has = (omega (arith, has.0), omega (arith, has.1))
sized (Asked ask) has = (tt, tt)

lengths_of : (history : List Entry) → HaveSoakLengths history → HasLengths history
lengths_of [] have = (tt, tt)
lengths_of (e ∷ es) have =
    let one = sized e.1 have.0 in
    let others = lengths_of es have.1 in
    ((one.0, others.0), (one.1, others.1))

pub soak_lengths : (seed calls : ℕ) (kind : SoakKind) → HasLengths (soak_history seed calls kind)
soak_lengths seed calls kind = lengths_of (soak_history seed calls kind) (of_soak seed calls kind)
