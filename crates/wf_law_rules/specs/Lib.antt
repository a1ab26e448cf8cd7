-- Lists the modules of specs/ of wf_law_rules.
pub mod Renamed
pub mod FourKeys
pub mod CodelLaws
