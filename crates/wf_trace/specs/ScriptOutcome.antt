-- Defines what the status of a command over a script says of its input and of what it wrote.
use Rattle.std.specs.Prelude.{◌≡◌, ◌⊎◌, ℕ, List, [], ◌∷◌, ◌++◌, true, false, Option, Some, None}
use Rattle.wf_trace.specs.declared.fault.Fault.{Fault}
use Rattle.wf_io.specs.declared.status.Status.{Status}
use Rattle.wf_io.specs.declared.status.Status.TheVariants.{Done, Usage, BadTrace, ReadFault, WriteFault, NoMemory}
use Rattle.wf_io.specs.Fronts.{IsFrontOf}
use Rattle.wf_trace.specs.declared.script.ending.Ending.{Ending}
use Rattle.wf_trace.specs.declared.script.ending.Ending.TheVariants.{Finish, Bad}
use Rattle.wf_trace.specs.Scripts.{Grammar, script}
use Rattle.wf_trace.specs.ScriptTexts.{Manner, answers, state_behind, text}

-- the octets read include the line `end` with its octet 10, or all of the input
abbrev pub ReachesEnd : {E : Type 0} → Grammar E → List ℕ → List ℕ → Type 0
ReachesEnd g input taken = ((script g false taken).ending ≡ Some Finish) ⊎ (taken ≡ input)

-- Memory ran out at one of these events, at which that is allowed. The answers to the events before it were
-- written completely, and a part of its own answer.
pub record StopsAt {E W : Type 0} (m : Manner E W) (w : W) (events : List E) (written : List ℕ) : Type 0 where
  pub before : List E
  pub event : E
  pub later : List E
  pub is : events ≡ before ++ event ∷ later
  pub wants : m.wants (state_behind m w before) event ≡ true
  pub least : IsFrontOf (answers m w before) written
  pub most : IsFrontOf written (answers m w (before ++ event ∷ []))

-- memory ran out at the start, when nothing was read or written, or at such an event
abbrev pub WantsMemory : {E W : Type 0} → Manner E W → W → List E → List ℕ → List ℕ → Type 0
WantsMemory m w events taken written = ((taken ≡ []) × (written ≡ [])) ⊎ StopsAt m w events written

-- The facts that a status reports, given the grammar, the manner of answering, the command's state at
-- first, the octets of the input, those that were read, and those that were written.
abbrev pub ScriptOutcome : {E W : Type 0} → Grammar E → Manner E W → W → Status → List ℕ → List ℕ → List ℕ →
    Type 0
-- the script ended, its line `end` was read, and its text was written
ScriptOutcome g m w Done input taken written = ((script g true input).ending ≡ Some Finish) ×
    ReachesEnd g input taken × (written ≡ text m w (script g true input))
-- the script has a fault, and its text was written
ScriptOutcome g m w BadTrace input taken written = (fault : Fault) ×
    ((script g true input).ending ≡ Some (Bad fault)) × (written ≡ text m w (script g true input))
-- the answers were written to the events whose lines, with their octet 10, are in the octets read; the line
-- of the ending is not in them
ScriptOutcome g m w ReadFault input taken written =
    ((script g false taken).ending ≡ None) × (written ≡ answers m w (script g false taken).events) ×
    IsFrontOf written (text m w (script g true input))
-- a prefix of the text was written
ScriptOutcome g m w WriteFault input taken written = IsFrontOf written (text m w (script g true input))
-- memory ran out when that is allowed, and a prefix of the text was written
ScriptOutcome g m w NoMemory input taken written = IsFrontOf written (text m w (script g true input)) ×
    WantsMemory m w (script g true input).events taken written
-- no script has this status
ScriptOutcome g m w Usage input taken written = ⊥

-- how a command ends if its source and its sink have no faults
abbrev pub Answered : Option Ending → Status → Type 0
Answered (Some Finish) status = (status ≡ Done) ⊎ (status ≡ NoMemory)
Answered (Some (Bad fault)) status = (status ≡ BadTrace) ⊎ (status ≡ NoMemory)
Answered None status = ⊥

-- how a command over a script ends if its source and its sink have no faults
abbrev pub ScriptAnswered : {E : Type 0} → Grammar E → List ℕ → Status → Type 0
ScriptAnswered g input status = Answered (script g true input).ending status
