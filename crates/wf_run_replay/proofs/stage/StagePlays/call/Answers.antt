-- Proves that the cell makes the call of the line, and that its frames stay those of a trace. By cases of the
-- call: an enqueue or an ask.
use Rattle.std.proofs.Common.{◌≡◌, IfSome, ◌∙◌, refl}
use Rattle.wf_report.specs.Samples.{IsSample}
use Rattle.wf_report.proofs.Cells.{then_sampled}
use Rattle.wf_path.specs.Jobs.{frame_of, note_of}
use Rattle.wf_run_replay.proofs.Cells.{some_is, call_named}
use Rattle.wf_run_replay.proofs.stage.StagePlays.call.Goals as goal
use Rattle.wf_run_replay.proofs.stage.StagePlays.call.Goals.{in-Asked, in-Enqueue+in_ok-frame-in-Enqueue+in-Ok}

pub invariant_of-self : goal.invariant_of-self
invariant_of-self c =
    let named : (note_of c.match-note.job ≡ c.args.note) × IfSome (frame_of c.match-note.job) IsSample =
    elim c.match-note.branch [
      | in-Asked w ↦ rw (w.job-is, w.in-Asked.is) (refl, tt)
      | in-Enqueue+in_ok-frame-in-Enqueue+in-Ok w ↦ rw (w.job-is) (call_named w.in-Ok.parcel c.args.note
          _ _ _ _ w.in-Enqueue.is (w.in-Ok.ensures ∙ w.in_ok-frame-in-Enqueue.ensures))
    ] in
    let room = rw (← c.self.view_is) at c.requires.room in
    then_sampled c.self.inside.cell c.step.new.self c.match-note.job _ c.self.invariant
    (some_is IsSample _ named.1) (c.step.ensures.stands room)

pub returns-clause-past : goal.returns-clause-past
returns-clause-past c =
    let named : (note_of c.match-note.job ≡ c.args.note) × IfSome (frame_of c.match-note.job) IsSample =
    elim c.match-note.branch [
      | in-Asked w ↦ rw (w.job-is, w.in-Asked.is) (refl, tt)
      | in-Enqueue+in_ok-frame-in-Enqueue+in-Ok w ↦ rw (w.job-is) (call_named w.in-Ok.parcel c.args.note
          _ _ _ _ w.in-Enqueue.is (w.in-Ok.ensures ∙ w.in_ok-frame-in-Enqueue.ensures))
    ] in
    let room = rw (← c.self.view_is) at c.requires.room in
    rw (c.step.ensures.past room, named.0, ← c.self.view_is) refl

pub returns-clause-reply : goal.returns-clause-reply
returns-clause-reply c =
    let named : (note_of c.match-note.job ≡ c.args.note) × IfSome (frame_of c.match-note.job) IsSample =
    elim c.match-note.branch [
      | in-Asked w ↦ rw (w.job-is, w.in-Asked.is) (refl, tt)
      | in-Enqueue+in_ok-frame-in-Enqueue+in-Ok w ↦ rw (w.job-is) (call_named w.in-Ok.parcel c.args.note
          _ _ _ _ w.in-Enqueue.is (w.in-Ok.ensures ∙ w.in_ok-frame-in-Enqueue.ensures))
    ] in
    let room = rw (← c.self.view_is) at c.requires.room in
    rw (c.step.ensures.reply room, named.0, ← c.self.view_is) refl
