-- Proves the laws of the program, by the laws of each command.
use Rattle.std.proofs.Common.{ℕ, List, true}
use Rattle.std.specs.Prelude.{Option}
use Rattle.wf_trace_laws.proofs.Ranges.{trace_laws}
use Rattle.wf_run_scripts.proofs.SessionLaw.{session_law}
use Rattle.wf_run_scripts.proofs.UplinkScripts.{uplink_law}
use Rattle.wf_report.proofs.WrittenCaptures.{frames_law}
use Rattle.wf_run_replay.proofs.CaptureLaw.{capture_law}
use Rattle.wf_run.specs.Outcome.{ProgramLaws}
use Rattle.wf_run.proofs.SoakText.{soak_laws, soak_lengths}
use Rattle.wf_run.proofs.LiveText.{live_again, live_laws, live_lengths}

pub program_laws : (left : Option (List ℕ)) → ProgramLaws left
program_laws left = record {
  laws = λ input told. trace_laws true input;
  capture_law = λ input told. capture_law input;
  session_law = λ input told. session_law input;
  uplink_law = λ input told. uplink_law input;
  frames_law = λ input told. frames_law input;
  soak_laws = soak_laws;
  soak_lengths = soak_lengths;
  live_again = live_again;
  live_laws = live_laws;
  live_lengths = live_lengths;
}
