-- The proofs of the law of modes and of the law of repeated frames.
--
-- - Kept: only a call that asks so changes the mode of a TID.
-- - Law: what a TID without an agreement sends.
-- - Tries, Repeats: how its receiver knows a repeated frame.
pub mod Kept
pub mod Law
pub mod Tries
pub mod Repeats
