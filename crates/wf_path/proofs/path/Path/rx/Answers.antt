-- Proves what `Path::rx` promises from the clauses of `Transmit::rx`. By cases of its result; the deficit
-- fits in 64 bits, so the answer has it unchanged.
use Rattle.std.proofs.Common.{◌≡◌, ◌∙◌, refl, ap, arith}
use Rattle.std.proofs.lemmas.Int.{ints}
use mir.Val.{to_z, of_z}
use mir.Syntax.{w64}
use Rattle.wf_frame.specs.Answers.{reply_with}
use Rattle.wf_frame.specs.declared.answers.Brief.{Brief}
use Rattle.wf_frame.specs.declared.notes.Ask.TheVariants.{Rx}
use Rattle.wf_frame.specs.declared.notes.ReplyNote.TheVariants as reply
use Rattle.wf_path.proofs.CallAnswers.{answered_briefly}
use Rattle.wf_path.proofs.path.Path.rx.Goals as goal
use Rattle.wf_path.proofs.path.Path.rx.Goals.{in-Ok, in-Err}

pub returns : goal.returns
returns c = elim c.match-rx.branch [
  | in-Ok w ↦
      let plain : to_z w64 (of_z w64 w.in-Ok.deficit) ≡ w.in-Ok.deficit = omega (arith, ints) in
      answered_briefly c.self.inside.half c.self.invariant (Rx c.args.station c.args.class c.args.air)
      (reply.Charged w.in-Ok.deficit)
      c.rx.new.self w.in-Ok.ensures.meets c.rx.ensures.unheard c.self.inside.addresses c.args.self.now
      c.self.view_is c.match-rx.result (λ pairs ids. ap (λ (b : Brief). reply_with b pairs ids) w.result-is ∙
      ap reply.Charged plain)
      (λ _ _. refl) (λ _. refl) (λ e. absurd (cc e)) tt
  | in-Err w ↦ answered_briefly c.self.inside.half c.self.invariant (Rx c.args.station c.args.class
      c.args.air)
      (reply.Refused w.in-Err.reason) c.rx.new.self w.in-Err.ensures.meets c.rx.ensures.unheard
      c.self.inside.addresses c.args.self.now c.self.view_is c.match-rx.result
      (λ pairs ids. ap (λ (b : Brief). reply_with b pairs ids) w.result-is) (λ _ _. refl) (λ _. refl)
      (λ _. w.in-Err.ensures.refused) tt
]
