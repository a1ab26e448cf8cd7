-- Lists the modules of proofs/ of wf_sched. Other crates may use those that are `pub`.
mod Loops
pub mod Views
