-- The proofs of the laws of frames.
--
-- - Fewer: changes that add no frame to a queue and acknowledge only some frames.
-- - Delivered: each acknowledged frame has arrived. DeliveryLaw: it arrived at its own receiver.
-- - Untouched: changes that do not affect the frames.
-- - Fates: a fate other than Held never changes, because only held frames are in queues and at unsettled
--   numbers, and each frame that gets a fate goes on the finished list. FinishedLaw: the frame is there
--   exactly once, until it is reaped.
-- - Owners: the TID of each frame at a number.
-- - Covered, CoveredStep: each held frame is in a queue or at an unsettled number. Places: it is in one
--   place.
-- - Counted: there are as many held frames as frames in places. Rooms: the law of room.
-- - Tallies: the counts of frames by fate add up.
pub mod Fewer
pub mod Delivered
pub mod Untouched
pub mod Fates
pub mod FateLaw
pub mod FinishedLaw
pub mod Owners
pub mod Covered
pub mod CoveredStep
pub mod Places
pub mod DeliveryLaw
pub mod Counted
pub mod Rooms
pub mod Tallies
