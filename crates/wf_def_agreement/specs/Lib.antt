-- Lists the modules of specs/ of wf_def_agreement.
pub mod Receiver
pub mod Session
