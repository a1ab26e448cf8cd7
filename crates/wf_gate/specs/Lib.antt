-- Lists the modules of specs/ of wf_gate.
pub mod Faults
pub mod Pairs
pub mod Passes
pub mod Seats
pub mod Turns
