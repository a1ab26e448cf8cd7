-- Lists the modules of proofs/ of wf_queue_parts. Other crates may use those that are `pub`.
mod Linked
mod Nodes
mod NodeSend
mod Sharing
mod PointerSteps
pub mod Values
mod CostLemmas
mod Descent
mod TreeLemmas
mod LazyLemmas
