-- Lists the modules of specs/ of wf_frame.
pub mod Answers
pub mod Calls
pub mod Classes
pub mod Frames
pub mod Refusals
pub mod Settings
pub mod Words
