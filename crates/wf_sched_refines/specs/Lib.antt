-- Lists the modules of specs/ of wf_sched_refines.
pub mod Standing
pub mod Calls
