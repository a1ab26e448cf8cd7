-- Lists the modules of proofs/ of wf_show_gate. Other crates use none of them.
mod Adding
