-- The law of CoDel in whole runs.
pub mod States
pub mod Drops
pub mod Law
