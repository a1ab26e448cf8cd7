-- Lists the modules of specs/ of wf_trace_laws.
pub mod Histories
pub mod Laws
pub mod Endings
pub mod Tellings
pub mod Running
pub mod Leaving
pub mod Outcomes
