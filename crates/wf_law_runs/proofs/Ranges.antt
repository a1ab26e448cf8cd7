-- The proof of the law of ranges. Traits: the values of a station except its shares and TIDs. Law: these
-- values, the sizes of windows, the numbers of stations and CoDel's counts.
pub mod Traits
pub mod Law
