-- The proofs of the laws of the flow queues.
--
-- - Shelves: the part of a world that these laws refer to, and how each change of a world changes it.
-- - Shelved: an invariant of the shelves, with one lemma for each kind of change. ShelvedStep and Law:
--   every call keeps it.
-- - Drops: CoDel's counts stay in their ranges.
-- - Limit: all queues together have at most `limit` frames.
pub mod Drops
pub mod Shelves
pub mod Shelved
pub mod ShelvedStep
pub mod Law
pub mod Limit
