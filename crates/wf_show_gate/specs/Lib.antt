-- Lists the modules of specs/ of wf_show_gate.
pub mod Sums
