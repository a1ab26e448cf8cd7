-- Defines how far a trace was read, and how its run ends.
use Rattle.std.specs.Prelude.{◌≡◌, ◌⊎◌, ℕ, List, true, false, Option, Some, None}
use Rattle.wf_trace.specs.declared.reader.Item.{Item}
use Rattle.wf_trace.specs.declared.reader.Item.TheVariants.{Head, Entry, Finish, Bad}
use Rattle.wf_trace.specs.Reading.{reading}
use Rattle.wf_io.specs.declared.status.Status.{Status}
use Rattle.wf_io.specs.declared.status.Status.TheVariants.{Done, BadTrace, NoMemory}

-- the octets read include the line `end` with its octet 10, or all of the input
abbrev pub ReachesEnd : List ℕ → List ℕ → Type 0
ReachesEnd input taken = ((reading false taken).ending ≡ Some Finish) ⊎ (taken ≡ input)

-- how a run ends if its source and its sink have no faults; the ending of a trace is always finish or a
-- fault
abbrev pub FitsEnding : Option Item → Status → Type 0
FitsEnding (Some Finish) status = (status ≡ Done) ⊎ (status ≡ NoMemory)
FitsEnding (Some (Bad fault)) status = (status ≡ BadTrace) ⊎ (status ≡ NoMemory)
FitsEnding (Some (Head config)) status = ⊥
FitsEnding (Some (Entry caller note)) status = ⊥
FitsEnding None status = ⊥

-- the same, given the octets of the trace
abbrev pub TraceAnswered : List ℕ → Status → Type 0
TraceAnswered input status = FitsEnding (reading true input).ending status

-- the ending is finish or a fault
abbrev pub EndsTrace : Option Item → Type 0
EndsTrace None = ⊥
EndsTrace (Some Finish) = Unit {0}
EndsTrace (Some (Bad fault)) = Unit {0}
EndsTrace (Some (Head config)) = ⊥
EndsTrace (Some (Entry caller note)) = ⊥
