-- The frames so far, followed by those of the words that remain, are all frames of the sender.
use Rattle.std.proofs.Common.{◌≡◌, ◌+◌, ◌-◌, ◌≤◌, ◌++◌, List}
use Rattle.wf_frame.specs.declared.notes.Note.{Note}
use Rattle.wf_run_histories.specs.Desks.{Makes}
use Rattle.wf_run_histories.specs.Workloads.{frames_from}
use Rattle.wf_run_histories.proofs.soak.workers.sender.send_frames.Given as goal

abbrev pub invariant-loop : goal.invariant-loop
invariant-loop g l = record {
  inside : l.counter ≤ l.frames;
  left : g.D.Desk.left l.desk + l.counter ≡ g.D.Desk.left l.fn.desk;
  sent : (notes : List Note) × Makes g.D.Desk.has g.D.Desk.left l.fn.desk l.desk notes
      × (notes ++ frames_from l.sender (l.frames - l.counter) l.words
      ≡ frames_from l.sender l.frames l.fn.words);
}
