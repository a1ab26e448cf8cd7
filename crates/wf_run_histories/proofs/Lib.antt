-- Lists the modules of proofs/ of wf_run_histories. Other crates may use those that are `pub`.
mod Names
mod Openings
mod Prints
mod Sendings
mod Walks
mod Words
mod SoakLemmas
pub mod SoakLengths
mod Closing
mod Places
pub mod Printable
mod Quotas
mod Standing
mod Texts
mod Workers
