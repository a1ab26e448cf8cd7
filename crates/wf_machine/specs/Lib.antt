-- Lists the modules of specs/ of wf_machine.
pub mod Histories
