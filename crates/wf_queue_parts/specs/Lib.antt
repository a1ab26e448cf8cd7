-- Lists the modules of specs/ of wf_queue_parts.
pub mod Links
pub mod OwnedNode
pub mod Best
pub mod Tree
pub mod Lazy
