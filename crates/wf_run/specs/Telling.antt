-- Defines what the status of `help` and `version` means.
use Rattle.std.specs.Prelude.{◌≡◌, ℕ, List}
use Rattle.wf_io.specs.Fronts.{IsFrontOf}
use Rattle.wf_io.specs.declared.status.Status.{Status}
use Rattle.wf_io.specs.declared.status.Status.TheVariants.{Done, Usage, BadTrace, ReadFault, WriteFault, NoMemory}

-- The part of a text that was written, by the status: all of it after `Done`, a prefix after a failed write.
abbrev pub TellingStatusSays : Status → List ℕ → List ℕ → Type 0
TellingStatusSays Done text written = written ≡ text
TellingStatusSays WriteFault text written = IsFrontOf written text
TellingStatusSays NoMemory text written = ⊥
TellingStatusSays BadTrace text written = ⊥
TellingStatusSays ReadFault text written = ⊥
TellingStatusSays Usage text written = ⊥
