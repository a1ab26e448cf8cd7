-- Lists the modules of proofs/ of wf_path. Other crates may use those that are `pub`.
mod Advancing
mod Batches
mod CallAnswers
mod Counts
mod Dones
mod EachShown
mod Ending
mod Flying
mod Given
mod GroupFlights
mod Identifiers
mod Inside
mod Jobs
mod Joining
mod LastFrames
pub mod MadeUp
mod Marks
mod Opened
mod Openings
mod Pulls
pub mod Rises
mod SmallSums
mod ToSend
mod Values
mod Written
