-- Lists the modules of specs/ of wf_def_world.
pub mod Group
pub mod World
pub mod Service
pub mod FlowQueues
pub mod CanSend
pub mod Rates
pub mod Exchanges
pub mod Refusals
pub mod Step
pub mod Run
pub mod Text
pub mod Computed
pub mod Stretches
