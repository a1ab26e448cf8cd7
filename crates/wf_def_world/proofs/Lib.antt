-- Lists the modules of proofs/ of wf_def_world. Other crates may use those that are `pub`.
mod Rehearsals
mod Rows
mod Texts
mod NearMisses
mod LegacyRows
mod GroupRows
mod ServiceRows
mod BssRows
pub mod Unserved
mod Charges
pub mod Longest
pub mod Fitting
