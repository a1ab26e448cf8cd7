-- Lists the modules of proofs/ of wf_uplink. Other crates may use those that are `pub`.
pub mod Calls
pub mod Heard
pub mod Moves
mod Numbers
pub mod PlainCalls
mod Standing
mod Steps
mod Told
mod Watching
pub mod Worlds
