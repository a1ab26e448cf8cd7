-- Lists the modules of proofs/ of wf_trace. Other crates may use those that are `pub`.
mod ScanLaws
mod Taking
mod CutLaws
mod InputLaws
mod WordLaws
pub mod ArgLaws
mod ItemLaws
mod HeadLaws
mod Parted
pub mod PlaceLaws
mod PrintLaws
-- Scripts: how commands end, the octets read and written, a script that is being answered, and that every
-- closed input has an ending.
pub mod CommandEndings
mod ScriptFronts
mod ScriptRoom
pub mod Conversing
pub mod Known
pub mod Complete
pub mod HistoryLaws
mod HistoryFronts
