-- Lists the modules of specs/ of wf_cell.
pub mod Engines
pub mod Cells
pub mod Octets
pub mod Rights
pub mod Bodies
pub mod Records
