-- Proves that a replay of the trace that `live` writes ends with the summary that it writes, and that its
-- history obeys all laws and has frames of valid length.
use Rattle.std.proofs.Common.{◌≡◌, ℕ, ◌≤◌, List, [], ◌∷◌, refl, ap, ◌∙◌, true}
use Rattle.wf_frame.specs.Settings.{standard}
use Rattle.wf_frame.specs.declared.notes.Note.{Note}
use Rattle.wf_frame.specs.declared.notes.Note.TheVariants.{Enqueue, Asked}
use Rattle.wf_trace.specs.Traces.{ArePrintable, entry_items}
use Rattle.wf_law_runs.specs.Laws.{Laws}
use Rattle.wf_law_runs.specs.Lengths.{HasLengths}
use Rattle.wf_law_runs.specs.Queues.{HasLength, IsAtMost}
use Rattle.wf_law_runs.proofs.AllLaws.{laws}
use Rattle.wf_run_histories.specs.Lives.{IsLiveHistory, TellsOf}
use Rattle.wf_run_histories.proofs.Printable.{are_printable}
use Rattle.wf_def_lists.specs.Lengths.{greatest_body}
use Rattle.wf_trace.specs.Printing.{IsPrintable}
use Rattle.wf_trace.specs.Reading.{reading}
use Rattle.wf_def_world.specs.Run.{Entry}
use Rattle.wf_def_world.specs.Text.{text_of}
use Rattle.wf_trace_laws.specs.Histories.{history_among}
use Rattle.wf_run_replay.specs.Texts.{text}
use Rattle.wf_trace_laws.proofs.Ranges.{standard_in}

same_history : (history : List Entry) → history_among (entry_items history) ≡ history
same_history [] = refl
same_history (e ∷ es) = ap (λ l. e ∷ l) (same_history es)

pub live_again : (history : List Entry) (written : List ℕ) → TellsOf history written →
    text (reading true written) ≡ text_of standard history
live_again history written tells = ap text (tells.read true) ∙ ap (text_of standard) (same_history history)

pub live_laws : (seed senders frames : ℕ) (history : List Entry) → IsLiveHistory seed senders frames history →
    Laws standard history
live_laws seed senders frames history live = laws standard history standard_in

-- The body of a printable enqueue has at least one octet, and at most the greatest length of a body.
sized : (note : Note) → IsPrintable note → HasLength note × IsAtMost greatest_body note
sized (Enqueue station tid flow len) is = is.1.1.1.0
sized (Asked ask) is = (tt, tt)

lengths_of : (history : List Entry) → ArePrintable history → HasLengths history
lengths_of [] are = (tt, tt)
lengths_of (e ∷ es) are =
    let one = sized e.1 are.0.1 in
    let others = lengths_of es are.1 in
    ((one.0, others.0), (one.1, others.1))

pub live_lengths : (seed senders frames : ℕ) (history : List Entry) → senders ≤ 8 →
    IsLiveHistory seed senders frames history → HasLengths history
live_lengths seed senders frames history few live =
    lengths_of history (are_printable seed senders frames history few live)
