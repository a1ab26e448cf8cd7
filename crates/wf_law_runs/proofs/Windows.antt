-- The proofs of the window law, the law of answers and the law of twelve-bit numbers.
--
-- - Agreement: an invariant of both sides of one TID, and the changes that keep it.
-- - Sides, Opened: changes that affect neither sides nor open exchanges.
-- - Senders: the open exchange that sends a number on the air.
-- - Agreed: every call keeps the invariant.
-- - Settling: how a Done changes its numbers. Waits: no number is assigned while a request is due. Flying:
--   a TID has at most one open request.
-- - Law, Answers: the laws.
-- - Sizes, Answered (the start of an open exchange's answer), TwelveBits: bounds on the numbers that are
--   compared.
pub mod Opened
pub mod Sides
pub mod Agreement
pub mod Senders
pub mod Agreed
pub mod Flying
pub mod Settling
pub mod Waits
pub mod Answers
pub mod Answered
pub mod Law
pub mod Sizes
pub mod TwelveBits
