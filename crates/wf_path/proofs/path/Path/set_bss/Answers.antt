-- Proves what `Path::set_bss` promises from the clauses of `Transmit::set_bss`. By cases of its result.
use Rattle.std.proofs.Common.{refl, ap}
use Rattle.wf_frame.specs.Answers.{reply_with}
use Rattle.wf_frame.specs.declared.answers.Brief.{Brief}
use Rattle.wf_frame.specs.declared.notes.Ask.TheVariants.{Bss}
use Rattle.wf_frame.specs.declared.notes.ReplyNote.TheVariants as reply
use Rattle.wf_path.proofs.CallAnswers.{answered_briefly}
use Rattle.wf_path.proofs.path.Path.set_bss.Goals as goal
use Rattle.wf_path.proofs.path.Path.set_bss.Goals.{in-Ok, in-Err}

pub returns : goal.returns
returns c = elim c.match-set_bss.branch [
  | in-Ok w ↦ answered_briefly c.self.inside.half c.self.invariant (Bss c.args.station c.args.bss)
      (reply.Set)
      c.set_bss.new.self w.in-Ok.ensures.meets c.set_bss.ensures.unheard c.self.inside.addresses
      c.args.self.now
      c.self.view_is c.match-set_bss.result (λ pairs ids. ap (λ (b : Brief). reply_with b pairs ids)
      w.result-is)
      (λ _ _. refl) (λ _. refl) (λ e. absurd (cc e)) tt
  | in-Err w ↦ answered_briefly c.self.inside.half c.self.invariant (Bss c.args.station c.args.bss)
      (reply.Refused w.in-Err.reason) c.set_bss.new.self w.in-Err.ensures.meets c.set_bss.ensures.unheard
      c.self.inside.addresses c.args.self.now c.self.view_is c.match-set_bss.result
      (λ pairs ids. ap (λ (b : Brief). reply_with b pairs ids) w.result-is) (λ _ _. refl) (λ _. refl)
      (λ _. w.in-Err.ensures.refused) tt
]
