-- Lists the modules of specs/ of wf_def_rotation.
pub mod Loop
pub mod Rotation
