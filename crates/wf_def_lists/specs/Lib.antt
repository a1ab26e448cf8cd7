-- Lists the modules of specs/ of wf_def_lists.
pub mod Bounds
pub mod Lengths
pub mod Lists
pub mod Table
