-- The proof of the law of numbers. Pulls: a pull keeps a relation that its parts keep. Lasting: changes that
-- keep the ids of a session's numbers, and the states of its settled numbers. Law: every call and every stay
-- keeps them.
pub mod Pulls
pub mod Lasting
pub mod Law
