-- Lists the modules of proofs/ of wf_send_half_model. Other crates may use those that are `pub`.
mod Alone
mod Apart
pub mod Asked
pub mod Beyond
mod Calls
mod ChargedClass
mod Closes
mod Debts
pub mod Catching
pub mod Dones
mod Drained
pub mod Dropping
pub mod Ended
pub mod Endings
pub mod Enqueues
pub mod Fills
pub mod FitMarks
pub mod Flies
pub mod Flushed
pub mod Flushing
pub mod Frames
pub mod Gives
pub mod Gone
pub mod Groups
pub mod Inside
mod Joins
mod Known
pub mod Leavings
pub mod Marking
mod Ledgers
mod Listings
pub mod Meets
pub mod Modes
mod Moves
mod Numbered
mod OneClass
pub mod Opening
pub mod Openings
pub mod OwnClass
pub mod Pulled
pub mod Pulls
pub mod Reached
pub mod Readers
pub mod Receipts
pub mod Repeats
mod Rooms
pub mod Sends
pub mod Settles
pub mod Spared
mod Stands
mod Stations
pub mod Steady
pub mod Takes
mod Unheard
mod Views
pub mod Weights
pub mod Whole
