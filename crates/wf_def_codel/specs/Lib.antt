-- Lists the modules of specs/ of wf_def_codel.
pub mod Codel
pub mod CodelLoop
pub mod Parameters
