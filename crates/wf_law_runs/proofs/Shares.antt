-- The proofs of the laws of shares and of waiting. Picks: the quanta that a pick gives to two stations, if
-- one keeps its place. Turns: how a call changes both. Stretch: the same over entries. Moments: the same
-- between two moments. Law: the share law. Sends: the station that a Pull sends to, and the charges of open
-- exchanges. Grants, Covers: when a station that waits gets quanta, and how many. Rounds: whole quanta.
-- Waits: the waiting law and the sparse law. Weights: the law of weights. Steady: a station whose weight is
-- not set is steady.
pub mod Picks
pub mod Turns
pub mod Stretch
pub mod Moments
pub mod Rounds
pub mod Law
pub mod Sends
pub mod Grants
pub mod Covers
pub mod Waits
pub mod Weights
pub mod Steady
