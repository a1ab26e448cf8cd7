-- Lists the modules of specs/ of wf_run_scripts.
pub mod SessionLines
pub mod SessionAnswers
pub mod Wires
pub mod SessionLaws
pub mod SessionOutcome
pub mod UplinkOctets
pub mod UplinkLines
pub mod UplinkRoom
pub mod UplinkAnswers
pub mod UplinkPieces
pub mod UplinkLaws
pub mod UplinkOutcome
