-- Proves what `Path::cease` promises from the clauses of `Transmit::cease`. By cases of its result.
use Rattle.std.proofs.Common.{refl, ap}
use Rattle.wf_frame.specs.Answers.{reply_with}
use Rattle.wf_frame.specs.declared.answers.Brief.{Brief}
use Rattle.wf_frame.specs.declared.notes.Ask.TheVariants.{Cease}
use Rattle.wf_frame.specs.declared.notes.ReplyNote.TheVariants as reply
use Rattle.wf_path.proofs.CallAnswers.{answered_briefly, ceased_briefly}
use Rattle.wf_path.proofs.path.Path.cease.Goals as goal
use Rattle.wf_path.proofs.path.Path.cease.Goals.{in-Ok, in-Err}

pub returns : goal.returns
returns c = elim c.match-cease.branch [
  | in-Ok w ↦ ceased_briefly c.self.inside.half c.self.invariant c.args.station c.args.tid w.in-Ok.dropped
      c.cease.new.self w.in-Ok.ensures.meets c.cease.ensures.unheard c.self.inside.addresses c.args.self.now
      c.self.view_is c.match-cease.result w.result-is
  | in-Err w ↦ answered_briefly c.self.inside.half c.self.invariant (Cease c.args.station c.args.tid)
      (reply.Refused w.in-Err.reason) c.cease.new.self w.in-Err.ensures.meets c.cease.ensures.unheard
      c.self.inside.addresses c.args.self.now c.self.view_is c.match-cease.result
      (λ pairs ids. ap (λ (b : Brief). reply_with b pairs ids) w.result-is) (λ _ _. refl) (λ _. refl)
      (λ _. w.in-Err.ensures.refused) tt
]
