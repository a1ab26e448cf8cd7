-- Lists the modules of proofs/ of wf_send_half. Other crates may use those that are `pub`.
mod Rows
mod Polls
mod Worlds
mod Resets
mod CallSteps
pub mod Openings
mod Leaves
mod Flushes
mod Weighing
mod Enqueues
mod Settling
mod Catching
mod Agreements
pub mod Ends
pub mod Dones
pub mod Driven
mod Taking
mod Giving
mod GroupCalls
mod Filling
mod Flying
mod Pulling
mod Listed
mod FlagSteps
mod Listing
mod FlagCounts
mod Standings
mod Idle
mod Admissions
mod Concerned
mod Endings
mod Marked
mod More
mod ToSend
mod Tracked
pub mod Kept
pub mod Sends
pub mod Times
mod Weighed
