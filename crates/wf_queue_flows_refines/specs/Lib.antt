-- Lists the modules of specs/ of wf_queue_flows_refines.
pub mod Standing
pub mod Rest
pub mod Frames
