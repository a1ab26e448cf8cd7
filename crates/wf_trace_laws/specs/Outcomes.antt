-- Defines what the status of a run of a trace says.
use Rattle.std.specs.Prelude.{◌≡◌, ℕ, List, [], true, false, Some, None}
use Rattle.wf_trace.specs.declared.fault.Fault.{Fault}
use Rattle.wf_trace.specs.declared.reader.Item.TheVariants.{Finish, Bad}
use Rattle.wf_trace.specs.Reading.{Reading, reading}
use Rattle.wf_io.specs.declared.status.Status.{Status}
use Rattle.wf_io.specs.declared.status.Status.TheVariants.{Done, Usage, BadTrace, ReadFault, WriteFault, NoMemory}
use Rattle.wf_io.specs.Fronts.{IsFrontOf}
use Rattle.wf_trace_laws.specs.Endings.{ReachesEnd}

-- The facts that a status reports, given the text of a reading's calls and the text of a whole reading, and
-- given the octets of the input, those that were read, and those that were written.
abbrev pub TraceOutcome : (Reading → List ℕ) → (Reading → List ℕ) → Status → List ℕ → List ℕ → List ℕ → Type 0
-- the trace ended, its line `end` was read, and its text was written
TraceOutcome calls text Done input taken written = ((reading true input).ending ≡ Some Finish) ×
    ReachesEnd input taken × (written ≡ text (reading true input))
-- the trace has a fault, and its text was written
TraceOutcome calls text BadTrace input taken written = (fault : Fault) ×
    ((reading true input).ending ≡ Some (Bad fault)) × (written ≡ text (reading true input))
-- the text was written of the calls whose lines, with their octet 10, are in the octets read; the line of
-- the ending is not in them
TraceOutcome calls text ReadFault input taken written = ((reading false taken).ending ≡ None) ×
    (written ≡ calls (reading false taken)) × IsFrontOf written (text (reading true input))
-- a prefix of the text was written
TraceOutcome calls text WriteFault input taken written = IsFrontOf written (text (reading true input))
TraceOutcome calls text NoMemory input taken written = IsFrontOf written (text (reading true input))
-- nothing was read or written
TraceOutcome calls text Usage input taken written = (taken ≡ []) × (written ≡ [])
