-- The proofs of the laws of group frames. Apart: which calls change the state of group frames. Steps: the
-- effect of each call on this state, and Moments: that of each entry of a history. Counts: the ids and the
-- counts. Orders: the order in which group frames are accepted, sent and ended. Beacons: which beacon
-- announced them.
pub mod Apart
pub mod Steps
mod Moments
pub mod Counts
pub mod Orders
pub mod Beacons
