-- Defines the program's exit status.
use Rattle.std.specs.Prelude.{ℕ}
use Rattle.wf_io.specs.declared.status.Status.{Status}
use Rattle.wf_io.specs.declared.status.Status.TheVariants.{Done, Usage, BadTrace, ReadFault, WriteFault, NoMemory}

-- the exit status of a command with this outcome
abbrev pub status_code : Status → ℕ
status_code Done = 0
status_code Usage = 1
status_code BadTrace = 2
status_code ReadFault = 3
status_code WriteFault = 4
status_code NoMemory = 5
