-- Lists the modules of proofs/ of wf_recv_marks. Other crates use none of them.
mod Changed
