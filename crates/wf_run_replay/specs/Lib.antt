-- Lists the modules of specs/ of wf_run_replay.
pub mod Texts
pub mod Running
pub mod Sending
pub mod Outcome
pub mod Captured
pub mod CaptureOutcome
