-- Lists the modules of proofs/ of wf_send_parts. Other crates may use those that are `pub`.
mod Airtime
pub mod Callers
pub mod Calls
pub mod Changes
pub mod Counting
mod Due
pub mod Ends
pub mod Expelling
pub mod Flushing
mod Finding
pub mod Far
mod Flying
pub mod Fronts
pub mod GroupFrames
pub mod Held
pub mod Laws
pub mod Listing
mod Marking
pub mod Modes
mod Moving
pub mod Numbers
mod Resetting
pub mod Sending
mod Steps
pub mod Kept
pub mod Rising
mod Wide
