-- Lists the modules of proofs/ of wf_run_replay. Other crates may use those that are `pub`.
mod Cells
mod Sendings
mod Tellings
mod Texts
mod Told
pub mod CaptureLaw
