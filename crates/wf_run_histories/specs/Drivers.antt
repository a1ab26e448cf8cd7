-- Defines the state of a driver at each place in its code, for the contracts of its parts.
use Rattle.std.specs.Prelude.{ℕ, Bool, true, false, List, ◌∷◌}
use Rattle.rand_pcg.specs.Lcg.{Lcg}
use Rattle.wf_frame.specs.declared.notes.Ask.TheVariants.{Arrive}
use Rattle.wf_frame.specs.declared.notes.Note.{Note}
use Rattle.wf_frame.specs.declared.notes.Note.TheVariants.{Asked}
use Rattle.wf_run_histories.specs.declared.soak.workers.driver.DriverRun.{DriverRun}
use Rattle.wf_run_histories.specs.Workloads.{Driver, Phase}
use Rattle.wf_run_histories.specs.Workloads.Phase.{Owes}

-- The driver in a phase.
abbrev pub at : DriverRun → Phase → Driver
at d phase = record { class = d.class; senders = d.senders; words = d.words; phase = phase }

-- The driver with other random words.
abbrev pub with_words : DriverRun → Lcg → DriverRun
with_words d words = record d { words = words }

-- The driver with these calls still to make.
abbrev pub owing : DriverRun → Lcg → List Note → Driver
owing d words calls = at (with_words d words) (Owes calls)

-- Adds an Arrive in front of the remaining calls, if the transmission arrived.
abbrev pub arrive_if : Bool → ℕ → ℕ → List Note → List Note
arrive_if true e i calls = Asked (Arrive e i) ∷ calls
arrive_if false e i calls = calls
