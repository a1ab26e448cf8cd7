-- Lists the modules of specs/ of wf_queue_flows.
pub mod CodelTakes
pub mod CodelLooks
pub mod CodelParams
pub mod CodelState
pub mod Backlog
pub mod Flows
pub mod Kept
pub mod OneQueue
