-- Lists the modules of specs/ of wf_sched.
pub mod ClassRotas
