-- Lemmas about the shared definitions, for the proofs of other crates.
--
-- - Tables, Sums: entries of tables, and sums over them.
-- - Numbers: tests of numbers, increasing lists, and what a receiver releases and shows.
-- - Joined: lists that are appended.
-- - Counts: how often a number occurs in a list, and which of two comes first.
-- - Members: the members of parts of a list.
-- - Picks: a pick with other numbers, with the same keys, and without ready keys.
-- - Rotations: what a pick does to the lists, their order and the quanta.
-- - Visits: the law of one turn of the loop.
-- - Drops: CoDel's looks and drops in sequence.
-- - Dequeues: statements that hold for each dequeue.
-- - Stepped: the RFC's loop equals the closed form.
-- - Roots: integer square roots.
-- - CodelLaws: the laws of CoDel over several dequeues.
pub mod Tables
pub mod Sums
pub mod Numbers
pub mod Joined
pub mod Counts
pub mod Members
pub mod Picks
pub mod Rotations
pub mod Visits
pub mod Drops
pub mod Stepped
pub mod Roots
pub mod Dequeues
pub mod CodelLaws
