-- Lists the modules of specs/ of wf_run.
pub mod Outcome
pub mod Commands
pub mod Runs
pub mod Telling
pub mod Topics
