-- Lists the modules of specs/ of wf_report.
pub mod Replies
pub mod Parts
pub mod Frames
pub mod ListedPackets
pub mod ListingLines
pub mod ListingReading
pub mod ListingOutcome
pub mod ListingLaw
pub mod AckFrames
pub mod BlockAcks
pub mod GroupFrames
pub mod Packets
pub mod Captures
pub mod Samples
