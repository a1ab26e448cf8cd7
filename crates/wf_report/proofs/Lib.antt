-- Lists the modules of proofs/ of wf_report. Other crates may use those that are `pub`.
mod Rows
mod ShareLaws
mod Counted
mod Takes
-- Octets that were read; headers; the faults of a packet; packets in order; incomplete packets; a list in
-- progress; the file header; captures that are written.
mod TakenOctets
mod Heads
mod Flaws
mod NextPackets
mod PacketParts
mod Listings
mod Openings
mod Complete
pub mod WrittenCaptures
pub mod Sampled
mod SentPackets
mod Beacons
pub mod Listed
mod Acks
pub mod Cells
pub mod Entries
mod Answered
mod GroupPackets
mod TimLaws
mod BlockAckRows
mod GroupFrameRows
