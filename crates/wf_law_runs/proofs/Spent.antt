-- The proofs of the bounds on what stations spend, with the setting `pending`.
--
-- - Changes: the ways in which a call changes the books. Poise: an invariant of deficits and of the airtime
--   that open exchanges may still change, if charges are near the computed airtime. Draws: a call raises what
--   a station may be charged only if it opens an exchange of the station, which had a positive standing
--   before.
-- - Stretch: Poise and Draws over several entries. Products: products of signed numbers. Law: the bounds.
--   Awaited: the bounds of a station that waits.
-- - Computed: if no Done gives an airtime, each charges the computed one. Sent: then a station spends the
--   computed airtime of the exchanges that are opened for it.
pub mod Changes
pub mod Poise
pub mod Draws
pub mod Stretch
pub mod Products
pub mod Law
pub mod Awaited
pub mod Computed
pub mod Sent
