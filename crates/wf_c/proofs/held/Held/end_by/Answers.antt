-- Proves which refusal the reply shows, and that a refused end changes nothing.
use Rattle.std.proofs.Common.{◌≡◌, ap, sym, ◌∙◌, subst, ◌⊎◌}
use Rattle.wf_c.proofs.Ended.{shows_refusal, stays}
use Rattle.wf_c.specs.declared.reply.Reply.{Reply}
use Rattle.wf_c.proofs.held.Held.end_by.Goals as goal

pub returns-clause-refused : goal.returns-clause-refused
returns-clause-refused c =
    ap (λ (r : Reply). r.refusal) c.of.ensures ∙ shows_refusal c.in_ok-self.ensures.ended

pub returns-clause-stays : goal.returns-clause-stays
returns-clause-stays c =
    subst (λ (r : Reply). (r.refusal ≡ 0) ⊎ (c.done_bytes.new.self ≡ c.args.self.now.path))
    (sym c.of.ensures) (stays c.in_ok-self.ensures.ended)
