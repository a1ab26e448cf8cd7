-- The proofs of the agreement law: invariants of the messages, that no token opens twice, and that both ends
-- agree; and worked lists of events.
pub mod Sound
mod Once
pub mod Agreements
mod Rows
