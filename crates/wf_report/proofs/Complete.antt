-- Proves how `frames` ends if its source and its sink do not fail.
use Rattle.std.proofs.Common.{inl, inr, ℕ, List, refl, sym, subst}
use Rattle.std.specs.Prelude.{Option, Some, None}
use Rattle.wf_io.specs.declared.status.Status.TheVariants.{Done, Usage, BadTrace, ReadFault, WriteFault, NoMemory}
use Rattle.wf_report.specs.declared.captures.listing.fault.Fault.{Fault}
use Rattle.wf_report.specs.ListedPackets.{Listing}
use Rattle.wf_report.specs.ListingOutcome.{OutcomeOf, AnsweredBy, AnsweredOf}
use Rattle.wf_trace.proofs.CommandEndings.{Judges}

without_memory : (fault : Option Fault) → AnsweredBy fault NoMemory
without_memory None = inr refl
without_memory (Some fault) = inr refl

pub answered : (list : List ℕ → Listing) → Judges (OutcomeOf list) (AnsweredOf list)
answered list Done input taken written outcome read write usage =
    subst (λ (f : Option Fault). AnsweredBy f Done) (sym outcome.0) (inl refl)
answered list BadTrace input taken written outcome read write usage =
    subst (λ (f : Option Fault). AnsweredBy f BadTrace) (sym outcome.1) (inl refl)
answered list ReadFault input taken written outcome read write usage = absurd (read refl)
answered list WriteFault input taken written outcome read write usage = absurd (write refl)
answered list NoMemory input taken written outcome read write usage = without_memory (list input).fault
answered list Usage input taken written outcome read write usage = absurd outcome
