-- Proves that the loop makes the reaps of the definition, one per step.
use Rattle.std.proofs.Common.{rules, ◌∙◌, ◌+◌, ◌-◌, ap, sym}
use Rattle.wf_run_histories.specs.Soak.{Soak, after_reaps}
use Rattle.wf_run_histories.proofs.SoakLemmas.{reaps_on, reaps_end, reaps_over}
use Rattle.wf_run_histories.proofs.soak.soaks.SoakRun.all_reaped.Goals as goal

pub returns-then-reap-clause-made : goal.returns-then-reap-clause-made
returns-then-reap-clause-made c =
    c.reap.ensures.made ∙ reaps_end c.loop.counter c.args.self.now.left c.loop.self (search rules)
    (sym c.reap.ensures.nothing ∙ c.if-reap.true) ∙ c.loop.invariant.3

pub loop-preserved : goal.loop-preserved
loop-preserved c = (
  search rules,
  search rules,
  (search rules, search rules),
  ap (λ (k : Soak). after_reaps (c.args.self.now.left - (c.loop.counter + 1)) k) c.reap.ensures.made
      ∙ reaps_on c.loop.counter c.args.self.now.left c.loop.self (search rules)
      (sym c.reap.ensures.nothing ∙ c.if-reap.false) ∙ c.loop.invariant.3,
)

pub returns-clause-made : goal.returns-clause-made
returns-clause-made c = sym (reaps_over c.loop.counter c.args.self.now.left c.loop.self (search rules))
    ∙ c.loop.invariant.3
