-- The proofs of the laws. Opened: open exchanges, and single calls. Arrivals: what the inferred calls
-- leave. Indices: which transmissions they are about. Ended: what the end of an exchange leaves. Inferred:
-- the law of inferred calls. Silent: calls that report nothing of a receiver. Transmit: what a transmit
-- path keeps. Runs: inferred calls continue a history. Driven: whole runs of a driver. Shown: which part of
-- an answer matters. Witnesses: two runs of a driver, computed.
pub mod Opened
mod Arrivals
pub mod Indices
pub mod Ended
pub mod Inferred
pub mod Silent
pub mod Transmit
pub mod Runs
mod Driven
pub mod Shown
mod Witnesses
