-- Lists the modules of specs/ of wf_send_half_model.
pub mod Changes
pub mod Counting
pub mod Ending
pub mod Filling
pub mod Flushing
pub mod Half
pub mod Inside
pub mod Leaving
pub mod Marking
pub mod Pulling
pub mod Readiness
pub mod Standing
pub mod Views
