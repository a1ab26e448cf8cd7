-- Lists the modules of specs/ of wf_cell_model.
pub mod Hearing
pub mod Arriving
pub mod Refusing
pub mod Answers
pub mod Catching
