-- Lists the modules of specs/ of wf_rotation.
pub mod Rotas
pub mod Cuts
pub mod Lists
pub mod Links
pub mod Homes
pub mod Scan
pub mod Pass
pub mod Visits
pub mod Steps
