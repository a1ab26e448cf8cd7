-- Lists the modules of proofs/ of wf_def_codel. Other crates use none of them.
mod Rows
