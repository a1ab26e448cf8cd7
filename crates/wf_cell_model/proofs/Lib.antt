-- The proofs of the laws. Receivers: changes that change no receiver. Keeping: calls that leave the receive
-- halves unchanged, and new halves. Changing: one agreement changes. Catching: the end of an exchange and a
-- flush, after which a TID without an agreement catches up. Renewing: agreements that begin and end.
-- Telling: the marks of open exchanges, and replies.
-- Opening: a pull that sends. Peers: one receive half changes. Joining: a join. Sent: facts about open
-- exchanges. Marks: one mark changes. Arriving: an arrival. Answering: an answer. Shown: the numbers that a
-- kept answer shows.
mod Receivers
pub mod Keeping
mod Changing
pub mod Catching
pub mod Renewing
pub mod Telling
pub mod Opening
mod Peers
pub mod Joining
pub mod Sent
mod Marks
pub mod Arriving
pub mod Answering
pub mod Shown
