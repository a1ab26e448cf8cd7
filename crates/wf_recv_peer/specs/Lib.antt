-- Lists the modules of specs/ of wf_recv_peer.
pub mod Board
pub mod Buffer
pub mod Agreements
pub mod Answering
pub mod Frames
pub mod Receiving
pub mod Plain
