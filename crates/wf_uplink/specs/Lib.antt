-- Lists the modules of specs/ of wf_uplink.
pub mod Frames
pub mod Laws
pub mod Reordering
pub mod Requests
pub mod Shown
pub mod Sides
pub mod Soundness
pub mod Standing
pub mod World
