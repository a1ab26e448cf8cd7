-- Lists the modules of specs/ of wf.
pub mod Slips
