-- For other crates: the octets read and written, the items of a trace and the text that they add, and the
-- ranges of settings and frames.
pub mod Octets
mod Shapes
pub mod Ranges
pub mod Endings
pub mod Tellings
