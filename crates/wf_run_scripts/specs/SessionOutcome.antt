-- Defines what the status of `session` means, by the octets of the input, those of them that were read, and
-- those that were written.
use Rattle.std.specs.Prelude.{ℕ, List, true}
use Rattle.wf_io.specs.declared.status.Status.{Status}
use Rattle.wf_trace.specs.ScriptOutcome.{ScriptOutcome, Answered}
use Rattle.wf_run_scripts.specs.SessionLines.{grammar, reading}
use Rattle.wf_run_scripts.specs.SessionAnswers.{manner, first}
use Rattle.wf_run_scripts.specs.SessionLaws.{HasLaw}

abbrev pub SessionOutcome : Status → List ℕ → List ℕ → List ℕ → Type 0
SessionOutcome status input taken written = ScriptOutcome grammar manner first status input taken written

-- How a session ends if its source and its sink do not fail.
abbrev pub SessionAnswered : List ℕ → Status → Type 0
SessionAnswered input status = Answered (reading true input).ending status

-- The law of agreements for the script that is the input.
abbrev pub SessionLaw : List ℕ → Type 0
SessionLaw input = HasLaw (reading true input)
