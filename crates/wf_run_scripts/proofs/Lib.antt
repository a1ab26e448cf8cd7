-- Octets that decode to an action, and the law of agreements.
mod Wires
pub mod SessionLaw
-- Arguments in their ranges; the line of a TID's items; calls in order; nothing is due after a step of the
-- clock; the laws.
mod UplinkArguments
mod UplinkWriting
mod UplinkRoom
mod UplinkCalls
mod UplinkQuiet
pub mod UplinkScripts
