-- Lists the modules of specs/ of wf_io.
pub mod Digits
pub mod Faults
pub mod Fronts
pub mod InMemory
pub mod Statuses
pub mod Words
pub mod Capture
pub mod CaptureFaults
