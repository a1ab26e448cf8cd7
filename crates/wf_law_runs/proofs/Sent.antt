-- The proof of the law of sent frames.
pub mod Lengths
pub mod Given
pub mod Alone
pub mod Some
pub mod Law
