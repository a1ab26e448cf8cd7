-- The proof of the law of unsettled numbers.
--
-- - Counts: how many numbers of a session are open, that is wait or are on the air.
-- - Flights: a TID has no more numbers on the air than the open exchanges of its class can send.
-- - Keeps: no call except a pull gives a number or opens an exchange.
-- - Fills, Pulls: a pull gives numbers only in the places that the numbers that wait leave in its exchange.
-- - Law: the law, by induction on the run.
mod Counts
mod Flights
mod Keeps
pub mod Fills
pub mod Pulls
pub mod Law
