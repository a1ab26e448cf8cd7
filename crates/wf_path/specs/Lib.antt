-- Lists the modules of specs/ of wf_path.
pub mod Addresses
pub mod Answers
pub mod Driver
pub mod Each
pub mod Flights
pub mod Group
pub mod Heard
pub mod Jobs
pub mod Paths
pub mod Small
pub mod Traffic
pub mod Transmissions
pub mod Writing
