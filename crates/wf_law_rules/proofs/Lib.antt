-- Other crates use only Lemmas. The other modules serve the proofs of the laws of lib.rt.
pub mod Lemmas
mod Renamings
mod Order
mod OneVisit
mod LoopLaw
mod LoopEnds
mod FourKeys
mod Standing
mod Rate
mod Witnesses
