-- Lists the modules of proofs/ of wf_cell. Other crates may use those that are `pub`.
pub mod Runs
mod Hearing
mod Inside
mod Calls
mod Renewals
mod Batches
pub mod Exchanges
pub mod Written
mod Rights
mod Bodies
mod Steps
mod News
