-- Lemmas about one session: its start and its slots after each change, and the numbers that an exchange
-- sends.
pub mod Starts
pub mod Flights
