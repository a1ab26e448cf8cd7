-- The proof of the law of offloaded stations, from the invariant of each agreement.
pub mod Law
