-- Proves what `Path::group` promises from the clauses of `Transmit::group`. By cases of its result.
use Rattle.std.proofs.Common.{refl, ap}
use Rattle.wf_frame.specs.Answers.{reply_with}
use Rattle.wf_frame.specs.declared.answers.Brief.{Brief}
use Rattle.wf_frame.specs.declared.notes.Ask.TheVariants.{Group}
use Rattle.wf_frame.specs.declared.notes.ReplyNote.TheVariants as reply
use Rattle.wf_path.proofs.CallAnswers.{answered_briefly}
use Rattle.wf_path.proofs.GroupFlights.{pulled_flight}
use Rattle.wf_path.proofs.path.Path.group.Goals as goal
use Rattle.wf_path.proofs.path.Path.group.Goals.{in-Ok, in-Err}

pub returns : goal.returns
returns c = elim c.match-group.branch [
  | in-Ok w ↦ answered_briefly c.self.inside.half c.self.invariant (Group c.args.call)
      (reply.Group w.in-Ok.answer)
      c.group.new.self w.in-Ok.ensures.meets c.group.ensures.unheard c.self.inside.addresses c.args.self.now
      c.self.view_is c.match-group.result
      (λ pairs ids. ap (λ (b : Brief). reply_with b pairs ids) w.result-is)
      (λ _ _. refl) (λ _. refl) (λ e. absurd (cc e))
      (pulled_flight c.self.inside.half c.group.new.self c.self.invariant c.args.call w.in-Ok.answer
      (w.in-Ok.ensures.meets c.self.invariant.world c.self.invariant.bodies c.self.invariant.stands)
      w.in-Ok.ensures.changed)
  | in-Err w ↦ answered_briefly c.self.inside.half c.self.invariant (Group c.args.call)
      (reply.Refused w.in-Err.reason) c.group.new.self w.in-Err.ensures.meets c.group.ensures.unheard
      c.self.inside.addresses c.args.self.now c.self.view_is c.match-group.result
      (λ pairs ids. ap (λ (b : Brief). reply_with b pairs ids) w.result-is) (λ _ _. refl) (λ _. refl)
      (λ _. w.in-Err.ensures.refused) tt
]
