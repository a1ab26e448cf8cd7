-- Proves what `Path::give_up` promises from the clauses of `Transmit::give_up`. By cases of its result.
use Rattle.std.proofs.Common.{refl, ap}
use Rattle.wf_frame.specs.Answers.{reply_with}
use Rattle.wf_frame.specs.declared.answers.Brief.{Brief}
use Rattle.wf_frame.specs.declared.notes.Ask.TheVariants.{GiveUp}
use Rattle.wf_frame.specs.declared.notes.ReplyNote.TheVariants as reply
use Rattle.wf_path.proofs.CallAnswers.{answered_briefly}
use Rattle.wf_path.proofs.path.Path.give_up.Goals as goal
use Rattle.wf_path.proofs.path.Path.give_up.Goals.{in-Ok, in-Err}

pub returns : goal.returns
returns c = elim c.match-give_up.branch [
  | in-Ok w ↦ answered_briefly c.self.inside.half c.self.invariant (GiveUp c.args.exchange c.args.index)
      reply.Marked c.give_up.new.self w.in-Ok.ensures.meets c.give_up.ensures.unheard c.self.inside.addresses
      c.args.self.now c.self.view_is c.match-give_up.result
      (λ pairs ids. ap (λ (b : Brief). reply_with b pairs ids) w.result-is)
      (λ _ _. refl) (λ _. refl) (λ e. absurd (cc e)) tt
  | in-Err w ↦ answered_briefly c.self.inside.half c.self.invariant (GiveUp c.args.exchange c.args.index)
      (reply.Refused w.in-Err.reason) c.give_up.new.self w.in-Err.ensures.meets c.give_up.ensures.unheard
      c.self.inside.addresses c.args.self.now c.self.view_is c.match-give_up.result
      (λ pairs ids. ap (λ (b : Brief). reply_with b pairs ids) w.result-is) (λ _ _. refl) (λ _. refl)
      (λ _. w.in-Err.ensures.refused) tt
]
