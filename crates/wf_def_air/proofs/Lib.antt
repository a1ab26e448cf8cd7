-- Lists the modules of proofs/ of wf_def_air. Other crates may use those that are `pub`.
mod Charges
mod Rates
pub mod Times
