-- Lists the modules of specs/ of wf_def_tim.
pub mod Tim
