-- Lists the modules of specs/ of wf_air.
pub mod Rates
pub mod Sizes
pub mod SizeView
