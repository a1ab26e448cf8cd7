-- Proves that the statement of the loop's contract follows from the status of each item.
use Rattle.std.proofs.Common.{◌≡◌, ℕ, List, refl}
use Rattle.std.specs.Prelude.{Option, Some}
use Rattle.std.specs.Io.KnownBytes.{prepend_known, append_known}
use Rattle.wf_io.specs.declared.status.Status.{Status}
use Rattle.wf_trace.specs.Reading.{Reading}
use Rattle.wf_trace.proofs.CommandEndings.{Judges}
use Rattle.wf_trace_laws.specs.Endings.{TraceAnswered}
use Rattle.wf_trace_laws.proofs.Endings.{answered}
use Rattle.wf_trace_laws.specs.Outcomes.{TraceOutcome}
use Rattle.wf_trace_laws.specs.Tellings.{Telling, told_so_far, told_whole}
use Rattle.wf_trace_laws.proofs.Tellings.{Ended, said_as}

pub said : (t : Telling) (status : Status) (left left_new held held_new : Option (List ℕ)) →
    Ended t status left left_new held held_new →
    (taken written : List ℕ) × (left ≡ prepend_known taken left_new) ×
    (held_new ≡ append_known held written) × ((input : List ℕ) → left ≡ Some input →
    TraceOutcome (λ (r : Reading). told_so_far t r) (λ (r : Reading). told_whole t r) status input taken
    written)
said t = said_as t (λ (r : Reading). told_so_far t r) (λ (r : Reading). told_whole t r) (λ r. refl)
    (λ r. refl)

-- If source and sink do not fail, a run ends as its trace does.
pub judged : (t : Telling) → Judges (TraceOutcome (λ (r : Reading). told_so_far t r)
    (λ (r : Reading). told_whole t r)) TraceAnswered
judged t = answered (λ (r : Reading). told_so_far t r) (λ (r : Reading). told_whole t r)
