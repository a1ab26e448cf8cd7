-- The proofs of the laws of flows. Lines: an invariant by which the frames of a flow are in line. Puts: an
-- enqueue keeps it. Law: the run. Fronts: a Pull sends numbers before all others that wait. Sends: so each
-- flow is sent in order.
mod Lines
mod Fronts
mod Puts
pub mod Law
pub mod Sends
