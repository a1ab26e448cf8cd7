-- Lists the modules of proofs/ of wf_gate. Other crates may use those that are `pub`.
mod Calls
pub mod Clients
mod Counts
mod Elements
mod Stepping
mod Steps
