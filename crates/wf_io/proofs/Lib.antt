-- Lists the modules of proofs/ of wf_io. Other crates may use those that are `pub`.
pub mod FrontLaws
mod Numerals
mod Pieces
pub mod Spaces
mod CaptureFronts
mod CaptureSeconds
