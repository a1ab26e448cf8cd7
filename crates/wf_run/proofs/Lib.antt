-- Lists the modules of proofs/ of wf_run. Other crates use none of them.
mod LiveText
mod ProgramLaws
mod Runs
mod SoakText
