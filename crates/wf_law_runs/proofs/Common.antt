-- Lemmas that any of the laws may use, about the moments of a history, about refusals, about what most calls
-- leave, about the bounds of a pull, about the marks and the ends of transmissions, and about flushes. Lemmas
-- about the shared definitions are in wf_law_rules.
pub mod Moments
pub mod Refused
pub mod Fixed
pub mod Traits
pub mod Limits
pub mod Picked
pub mod Marks
pub mod Ends
pub mod Flushes
