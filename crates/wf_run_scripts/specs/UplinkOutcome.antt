-- Defines what the status of `uplink` means, by the octets of the input, those of them that were read, and
-- those that were written.
use Rattle.std.specs.Prelude.{ℕ, List, true}
use Rattle.wf_io.specs.declared.status.Status.{Status}
use Rattle.wf_trace.specs.ScriptOutcome.{ScriptOutcome, Answered}
use Rattle.wf_run_scripts.specs.UplinkLines.{grammar, reading}
use Rattle.wf_run_scripts.specs.UplinkAnswers.{manner, first}
use Rattle.wf_run_scripts.specs.UplinkLaws.{HasUplinkLaws}

abbrev pub UplinkOutcome : Status → List ℕ → List ℕ → List ℕ → Type 0
UplinkOutcome status input taken written = ScriptOutcome grammar manner first status input taken written

-- How an uplink ends if its source and its sink do not fail.
abbrev pub UplinkAnswered : List ℕ → Status → Type 0
UplinkAnswered input status = Answered (reading true input).ending status

-- The laws of the uplink for the script that is the input.
abbrev pub UplinkLaw : List ℕ → Type 0
UplinkLaw input = HasUplinkLaws (reading true input)
