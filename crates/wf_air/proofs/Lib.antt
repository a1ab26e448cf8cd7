-- Lists the modules of proofs/ of wf_air. Other crates use none of them.
mod Ceilings
mod Bounds
mod Times
mod Lengths
mod Most
mod Adding
