-- Lists the modules of proofs/ of wf_octets. Other crates may use those that are `pub`.
mod Distances
pub mod Sets
pub mod Words
mod Places
pub mod HeaderWritten
mod BlockChecked
pub mod BlockWritten
mod Elements
mod Maps
