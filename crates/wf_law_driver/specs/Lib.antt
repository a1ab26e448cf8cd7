-- Lists the modules of specs/ of wf_law_driver.
pub mod Unheard
pub mod Inferred
pub mod Transmit
pub mod Driven
pub mod Shown
