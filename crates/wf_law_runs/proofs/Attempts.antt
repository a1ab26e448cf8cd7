-- The proof of the law of attempts.
pub mod Law
