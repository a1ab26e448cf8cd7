-- Lists the modules of specs/ of wf_send_half.
pub mod Group
pub mod Half
pub mod Pulls
pub mod Replies
pub mod Leaving
pub mod Flushing
pub mod Marks
pub mod Enqueues
pub mod Bits
pub mod Counts
pub mod Driven
pub mod Listed
pub mod Flags
pub mod Clock
pub mod Queued
