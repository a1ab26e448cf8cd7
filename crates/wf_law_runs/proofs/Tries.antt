-- The proof of the law of tries: the counts in each world (Counts), the exchange that a Pull opens (Opens),
-- the calls that fail no number (Still), a dropped frame for each heard request (Requests), and the law
-- (Law).
pub mod Counts
pub mod Opens
mod Still
mod Requests
pub mod Law
