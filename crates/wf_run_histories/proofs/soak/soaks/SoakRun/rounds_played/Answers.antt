-- Proves that the loop plays the rounds of the definition, one per step, until no call is left.
use Rattle.std.proofs.Common.{rules, ◌∙◌, ◌+◌, ◌-◌, ◌<◌, ap, sym, arith}
use Rattle.wf_run_histories.specs.Soak.{Soak, rounds_played}
use Rattle.wf_run_histories.proofs.SoakLemmas.{rounds_on, rounds_end, rounds_over}
use Rattle.wf_run_histories.proofs.soak.soaks.SoakRun.rounds_played.Goals as goal

pub returns-then-self-eq0-clause-made : goal.returns-then-self-eq0-clause-made
returns-then-self-eq0-clause-made c =
    sym (rounds_end (c.args.most - c.loop-round.round) c.loop-round.round c.loop-round.self
    (ap (λ (k : Soak). k.left) (sym c.self.view_is) ∙ c.if-self-eq0.true)) ∙ c.loop-round.invariant.3

pub loop-round-preserved : goal.loop-round-preserved
loop-round-preserved c =
    let some : 0 < c.loop-round.self.left = omega
    (arith, c.if-self-eq0.false, ap (λ (k : Soak). k.left) c.self.view_is) in (
      search rules,
      (search rules, search rules),
      search rules,
      ap (λ (k : Soak). rounds_played (c.args.most - (c.loop-round.round + 1)) (c.loop-round.round + 1) k)
          c.in_ok-round_played.ensures.made
          ∙ rounds_on c.loop-round.round c.args.most c.loop-round.self (search rules) some
          ∙ c.loop-round.invariant.3,
    )

pub returns-clause-made : goal.returns-clause-made
returns-clause-made c = sym (rounds_over c.loop-round.round c.args.most c.loop-round.self (search rules))
    ∙ c.loop-round.invariant.3
