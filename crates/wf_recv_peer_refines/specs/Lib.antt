-- Lists the modules of specs/ of wf_recv_peer_refines.
pub mod Half
