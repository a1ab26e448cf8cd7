-- The proofs of the laws, from the lowest up: comparisons of 12-bit numbers, rising lists, the receiver's two
-- starts, the scoreboard, the buffer, and the laws. Resized: an agreement begins or ends.
mod Comparisons
mod Rising
mod Starts
mod Boards
mod Windows
mod Buffers
pub mod Halves
pub mod Resized
