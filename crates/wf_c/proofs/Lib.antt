-- Lists the modules of proofs/ of wf_c. Other crates use none of them.
mod Advancing
mod Bursting
mod CallLengths
mod CallRows
mod Ended
mod Filled
mod Groups
mod Ids
mod Makings
mod Pairs
mod Rising
mod Sending
mod Slots
mod Words
