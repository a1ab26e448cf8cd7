-- The proofs of the laws of the deficits.
--
-- - Books: the part of a world that these laws refer to. BookSteps: one equation for each part of a call,
--   which says how it changes the books.
-- - Kept: an invariant of the books, with one lemma for each kind of change. It uses Openings (lists of
--   open exchanges), Bounds (bounds of a deficit) and LongestCharge. KeptStep: each call keeps the
--   invariant.
-- - Accounts: the exact value of a deficit.
-- - Mild, MildStep: only the station that a call concerns can become ready. Listing: a call lists this
--   station on the list on which it belongs. Concerned: a call removes it from no list unless it leaves.
--   Debtors: every station that is on no list has a positive standing. Ready: so every station that belongs
--   on a list is listed.
-- - Quiet: when a station's received airtime is 0.
-- - Numbers: the greatest charges and deficits. InFlight: the limits on airtime in flight.
--   Delay: the delay in the device.
pub mod Books
pub mod BookSteps
pub mod Openings
pub mod Bounds
pub mod LongestCharge
pub mod Kept
pub mod KeptStep
pub mod Accounts
pub mod Shares
pub mod Mild
pub mod MildStep
pub mod Listing
pub mod Concerned
pub mod Debtors
pub mod Ready
pub mod Law
pub mod Quiet
pub mod Configs
pub mod Balance
pub mod Numbers
pub mod InFlight
pub mod Delay
