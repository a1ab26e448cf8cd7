-- Lists the modules of specs/ of wf_session.
pub mod Layout
pub mod Faults
pub mod Ends
pub mod World
pub mod Laws
