-- Lists the modules of specs/ of wf_recv_marks.
pub mod Marks
