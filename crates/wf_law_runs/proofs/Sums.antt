-- The proof of the law of sums. Counters: how far one call advances the clock and the number of exchanges.
-- Airtime: a station's sums equal the sums of its calls. Law combines them.
pub mod Counters
pub mod Airtime
pub mod Law
