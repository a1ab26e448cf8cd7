-- The proofs of the laws of released frames. Kept: changes that keep receivers and the ids of numbers.
-- Released: one session releases its frames in order. Placed: each elementary change keeps one place for each
-- frame. Steps: a relation that each elementary change keeps holds after each call. Once: so each frame has
-- one place, and no id is released twice. Named: which numbers are released so far.
pub mod Passing
pub mod Kept
pub mod Released
pub mod Named
pub mod Placed
pub mod Steps
pub mod Once
