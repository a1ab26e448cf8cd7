-- The proofs of the laws. Once: lists without repeats, by counts. Owed: the airtime in flight of a station in
-- a class. Changes: the parts of a changed scheduler. Stands: the agreement as a relation to the books of
-- `wf_law_runs`, the part of a world that it depends on. Then a file for each kind of change.
mod Once
mod Owed
mod Changes
pub mod Stands
pub mod Readings
pub mod Charges
pub mod Members
pub mod Weights
pub mod Listings
mod Quanta
pub mod Picks
pub mod Unchanged
pub mod Exchanges
pub mod Calls
