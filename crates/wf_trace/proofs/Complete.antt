-- Proves that a command whose source and sink have no faults ends as its script does, by cases of the
-- status.
use Rattle.std.proofs.Common.{true, refl, inl, inr, sym, subst}
use Rattle.std.specs.Prelude.{Option, Some, None}
use Rattle.wf_io.specs.declared.status.Status.TheVariants.{Done, Usage, BadTrace, ReadFault, WriteFault, NoMemory}
use Rattle.wf_trace.specs.declared.script.ending.Ending.{Ending}
use Rattle.wf_trace.specs.declared.script.ending.Ending.TheVariants.{Finish, Bad}
use Rattle.wf_trace.specs.Scripts.{Grammar, script}
use Rattle.wf_trace.specs.ScriptTexts.{Manner}
use Rattle.wf_trace.specs.ScriptOutcome.{ScriptOutcome, ScriptAnswered, Answered}
use Rattle.wf_trace.proofs.CommandEndings.{Judges}
use Rattle.wf_trace.proofs.Known.{Known, known}

without_memory : (ending : Option Ending) → Known ending → Answered ending NoMemory
without_memory None is = absurd is
without_memory (Some Finish) is = inr refl
without_memory (Some (Bad fault)) is = inr refl

pub answered : {E W : Type 0} (g : Grammar E) (m : Manner E W) (w : W) →
    Judges (ScriptOutcome g m w) (ScriptAnswered g)
answered g m w Done input taken written outcome read write usage =
    subst (λ (e : Option Ending). Answered e Done) (sym outcome.0) (inl refl)
answered g m w BadTrace input taken written outcome read write usage =
    subst (λ (e : Option Ending). Answered e BadTrace) (sym outcome.1) (inl refl)
answered g m w ReadFault input taken written outcome read write usage = absurd (read refl)
answered g m w WriteFault input taken written outcome read write usage = absurd (write refl)
answered g m w NoMemory input taken written outcome read write usage =
    without_memory (script g true input).ending (known g input)
answered g m w Usage input taken written outcome read write usage = absurd outcome
