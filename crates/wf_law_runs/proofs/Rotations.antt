-- The proof of the law of rotations, from the invariant of the deficits.
pub mod Law
