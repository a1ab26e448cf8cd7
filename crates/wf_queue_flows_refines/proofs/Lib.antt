-- The proofs of the laws, in the order in which they depend on each other.
--
-- Parts: how each change of a world changes the part that the flow queues represent. Ends: frames are
-- finished and reaped. Changes: one queue changes, or the lists of one TID, on both sides; all other
-- calls are composed of these and of Ends. Readers: both sides read the same. Limits and Puts: a frame
-- is put in. Picking and Takes: a frame is taken out. Emptied, Rising and Purges: the frames of a
-- TID are dropped because its station leaves. Leaves: changes that do not affect the flow queues.
-- Flushes: the frames of a TID are flushed. Holdings: which frames are queued or
-- finished. Through and Elsewhere: the parts of a world that the calls do not change. Each, Bodies and
-- Notes: the frames are the accepted ones. Modes: agreements begin and end. Heads: which frames are
-- dropped, and how many. Held, Fates and Lefts: queued frames are held, and the frames are counted by
-- their fates.
pub mod Parts
pub mod Ends
mod Changes
pub mod Readers
pub mod Opening
mod Limits
pub mod Puts
mod Picking
pub mod Takes
mod Emptied
mod Rising
pub mod Purges
pub mod Leaves
pub mod Flushes
pub mod Holdings
mod Through
pub mod Elsewhere
pub mod Each
pub mod Bodies
pub mod Notes
mod Modes
pub mod Heads
pub mod Held
mod Fates
pub mod Lefts
