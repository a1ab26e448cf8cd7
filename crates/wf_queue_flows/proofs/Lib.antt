-- Lists the modules of proofs/ of wf_queue_flows. Other crates may use those that are `pub`.
mod Lanes
mod CodelBegins
pub mod Flags
mod Flushes
mod Fresh
mod Holding
mod Keeps
mod Leaves
mod Listing
mod LongestLemmas
mod Moves
mod Overs
pub mod Owners
mod Paid
mod Picking
pub mod Picks
mod Purges
mod Puts
mod Settings
mod Taking
mod Turning
mod Weights
pub mod Waiting
mod Whole
