-- Lists the modules of specs/ of wf_def_air.
pub mod Airtime
pub mod Fit
