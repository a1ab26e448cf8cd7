-- Proves what `Path::done_bits` promises from the clauses of `Transmit::done`. By cases of its result.
use Rattle.std.proofs.Common.{◌≡◌, sym, ◌∙◌, subst, ℕ, ◌==◌, ap, is_none}
use Rattle.std.specs.Prelude.{find, IfSome, Ok, Err}
use Rattle.wf_frame.specs.Answers.{reply_with}
use Rattle.wf_frame.specs.declared.answers.Brief.{Brief}
use Rattle.wf_frame.specs.declared.answers.Brief.TheVariants as brief
use Rattle.wf_send_half.specs.Bits.{count_shown_of}
use Rattle.wf_path.proofs.Dones.{charge_small, is_ended}
use Rattle.wf_path.proofs.Values.{half_is}
use Rattle.wf_path.proofs.path.Path.done_bits.Goals as goal
use Rattle.wf_path.proofs.path.Path.done_bits.Goals.{in-Ok, in-Err}

pub done-requires : goal.done-requires
done-requires c = record {
  small = charge_small c.args.self.now.half c.self.inside.half (half_is c.self.view_is) c.args.exchange
      c.requires.small;
}

pub returns : goal.returns
returns c = elim c.match-done.branch [
  | in-Ok w ↦ is_ended c.self.inside.half c.self.invariant c.done.new.self c.done.ensures.unheard
      c.args.exchange c.args.heard c.args.air (Ok w.in-Ok.ended) w.in-Ok.ensures.ended
      c.self.inside.addresses c.args.self.now c.self.view_is c.match-done.result
      (λ pairs ids. ap (λ (b : Brief). reply_with b pairs ids) (sym w.result-is))
      (λ a i f is. subst (λ (n : ℕ). IfSome (find (λ y. y.number == c.args.exchange)
      c.self.inside.half.opened)
      (λ y. n ≡ count_shown_of c.self.inside.half c.args.heard y))
      (let k : w.in-Ok.ended.acked ≡ a = cc (is, w.result-is) in k) w.in-Ok.ensures.acked)
      (λ why is. absurd (cc (w.in-Ok.ensures.ended.found, ap is_none is)))
  | in-Err w ↦ is_ended c.self.inside.half c.self.invariant c.done.new.self c.done.ensures.unheard
      c.args.exchange c.args.heard c.args.air (Err w.in-Err.reason) w.in-Err.ensures.ended
      c.self.inside.addresses c.args.self.now c.self.view_is c.match-done.result
      (λ pairs ids. ap (λ (b : Brief). reply_with b pairs ids) (sym w.result-is))
      (λ a i f is. absurd (cc (is, w.result-is)))
      (λ why is. (
        w.result-is ∙ ap brief.Refused (cc (w.in-Err.ensures.ended.refused.0, is)),
        w.in-Err.ensures.ended.refused.1,
      ))
]
