-- Proves the law of agreements for a script: it holds for every list of events.
use Rattle.std.proofs.Common.{ℕ, List, true, take}
use Rattle.wf_session.proofs.Agreements.{agreements}
use Rattle.wf_run_scripts.specs.SessionLines.{reading}
use Rattle.wf_run_scripts.specs.SessionOutcome.{SessionLaw}

pub session_law : (input : List ℕ) → SessionLaw input
session_law input n = agreements 0 64 (take n (reading true input).events)
