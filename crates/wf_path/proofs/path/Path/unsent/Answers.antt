-- Proves what `Path::unsent` promises from the clauses of `Transmit::unsent`. By cases of its result.
use Rattle.std.proofs.Common.{ap}
use Rattle.wf_frame.specs.Answers.{reply_with}
use Rattle.wf_frame.specs.declared.answers.Brief.{Brief}
use Rattle.wf_frame.specs.declared.notes.ReplyNote.TheVariants as reply
use Rattle.wf_path.proofs.Marks.{unsent_briefly}
use Rattle.wf_path.proofs.path.Path.unsent.Goals as goal
use Rattle.wf_path.proofs.path.Path.unsent.Goals.{in-Ok, in-Err}

pub returns : goal.returns
returns c = elim c.match-unsent.branch [
  | in-Ok w ↦ unsent_briefly c.self.inside.half c.self.invariant c.args.exchange c.args.index reply.Marked
      c.unsent.new.self w.in-Ok.ensures.meets c.unsent.ensures.unheard c.self.inside.addresses
      c.args.self.now c.self.view_is c.match-unsent.result
      (λ pairs ids. ap (λ (b : Brief). reply_with b pairs ids) w.result-is) (λ e. absurd (cc e)) tt
  | in-Err w ↦ unsent_briefly c.self.inside.half c.self.invariant c.args.exchange c.args.index
      (reply.Refused w.in-Err.reason) c.unsent.new.self w.in-Err.ensures.meets c.unsent.ensures.unheard
      c.self.inside.addresses c.args.self.now c.self.view_is c.match-unsent.result
      (λ pairs ids. ap (λ (b : Brief). reply_with b pairs ids) w.result-is) (λ _. w.in-Err.ensures.refused) tt
]
