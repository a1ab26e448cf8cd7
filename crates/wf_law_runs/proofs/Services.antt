-- The proofs of the laws of service periods. Left: the frames that are left of a service period after an
-- exchange of it. Naps: which calls change the part of a station that its service periods depend on. Sends:
-- the exchange of a pull, and Steps: the effect of each call. Granted: the exchanges to a sleeping station,
-- and the last one of a service period. Periods: how a service period begins and ends. Limits: how many
-- frames it has. Apart: the calls about service periods change nothing else.
pub mod Left
mod Naps
mod Sends
mod Steps
pub mod Granted
pub mod Periods
pub mod Limits
pub mod Apart
