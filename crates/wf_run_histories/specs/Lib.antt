-- Lists the modules of specs/ of wf_run_histories.
pub mod Desks
pub mod Drivers
pub mod Makings
pub mod Opening
pub mod Stations
pub mod Walks
pub mod Workloads
pub mod Soak
pub mod Lengths
pub mod Crew
pub mod Lives
pub mod Sitting
