-- The visits so far leave the same pick; the loop ends with its winner, or the closed form finds it.
use Rattle.std.proofs.Common.{◌≡◌, ℕ, ◌≤◌, List, None, refl, subst, arith}
use Rattle.wf_rotation.specs.Rotas.{quantum_at}
use Rattle.wf_rotation.specs.Pass.{HasPicked}
use Rattle.wf_rotation.specs.Steps.{visits_within}
use Rattle.wf_rotation.proofs.VisitLemmas.{same_after, has_ended, at_once, some_listed, some_ready, none_above}
use Rattle.wf_rotation.proofs.PaidLemmas.{paid_after, visits_low}
use Rattle.wf_rotation.proofs.CountedVisits.{visits_after, visits_ended, visits_left}
use Rattle.wf_rotation.proofs.OnlyLemmas.{Stands, paid_only}
use Rattle.wf_rotation.proofs.rota.Rota.pick.Goals as goal
use Rattle.wf_rotation.proofs.rota.Rota.pick.Goals.{In-Done, After-pick_at_once-at_once}

-- a visit has ended the loop
ended : (c : In-Done) → HasPicked c.args.self.now c.args.ready.now c.args.list c.in-Done.winner
    c.visit.new.self
ended c = has_ended c.args.self.now c.args.ready.now c.args.list c.loop.self c.visit.new.self
    c.requires.in_lists c.visit.ensures.positive c.visit.ensures.disjoint c.loop.invariant.same
    c.visit.ensures.visited c.in-Done.winner c.in-Done.ensures.end

-- the closed form goes on after the last visit
went_on : (c : After-pick_at_once-at_once) → HasPicked c.args.self.now c.args.ready.now c.args.list
    c.pick_at_once-at_once.result.winner c.pick_at_once-at_once.new.self
went_on c = at_once c.args.self.now c.args.ready.now c.args.list c.loop.self c.pick_at_once-at_once.new.self
    c.pick_at_once-at_once.result.winner c.loop.invariant.same c.pick_at_once-at_once.ensures.picked

pub loop-init : goal.loop-init
loop-init c =
    let first : Stands c.args.self.now c.args.ready.now c.args.list c.pay_only-steps.new.self
    c.pay_only-steps.result =
    paid_only c.args.self.now c.args.ready.now c.args.list c.pay_only-steps.result
    c.pay_only-steps.new.self c.requires.in_lists c.pay_only-steps.ensures.positive
    c.pay_only-steps.ensures.disjoint c.pay_only-steps.ensures.paid in
    record { same = first.same; steps = refl; paid = first.paid; visits = first.counted }

pub loop-preserved : goal.loop-preserved
loop-preserved c = record {
  same = same_after c.args.self.now c.args.ready.now c.args.list c.loop.self c.visit.new.self
      c.requires.in_lists c.visit.ensures.positive c.visit.ensures.disjoint c.loop.invariant.same
      c.visit.ensures.visited;
  steps = omega (arith, c.loop.invariant.steps);
  paid = paid_after c.args.self.now c.args.ready.now c.args.list c.loop.self c.visit.new.self
      c.requires.in_lists c.visit.ensures.positive c.loop.invariant.same c.visit.ensures.visited
      c.loop.counter
      c.loop.invariant.paid c.in_default.ensures.end;
  visits = visits_after c.args.self.now c.args.ready.now c.args.list c.loop.self c.visit.new.self
      c.loop.counter
      c.requires.in_lists c.loop.invariant.same c.visit.ensures.visited c.in_default.ensures.end
      c.loop.invariant.visits;
}

pub returns-in-Done-clause-winner : goal.returns-in-Done-clause-winner
returns-in-Done-clause-winner c = (ended c).winner_is

pub returns-in-Done-clause-lists : goal.returns-in-Done-clause-lists
returns-in-Done-clause-lists c = (ended c).picked.lists

pub returns-in-Done-clause-deficits : goal.returns-in-Done-clause-deficits
returns-in-Done-clause-deficits c = (ended c).picked.deficits

pub returns-in-Done-clause-listed : goal.returns-in-Done-clause-listed
returns-in-Done-clause-listed c = some_listed c.args.self.now c.args.ready.now c.args.list c.in-Done.winner
    c.visit.new.self (ended c)

pub returns-in-Done-clause-capped : goal.returns-in-Done-clause-capped
returns-in-Done-clause-capped c = none_above c.args.self.now c.args.ready.now c.args.list c.in-Done.winner
    c.visit.new.self (ended c)

pub returns-in-Done-clause-cheap : goal.returns-in-Done-clause-cheap
returns-in-Done-clause-cheap c = λ most. omega (
  arith,
  c.loop.invariant.steps,
  visits_low c.args.self.now c.args.ready.now c.args.list c.loop.self c.loop.counter
      (subst (λ (quanta : List ℕ). (key : ℕ) → 1 ≤ quantum_at quanta key) c.loop.invariant.same.quanta
      c.visit.ensures.positive) c.loop.invariant.same c.loop.invariant.paid,
)

pub returns-clause-listed : goal.returns-clause-listed
returns-clause-listed c = some_listed c.args.self.now c.args.ready.now c.args.list
    c.pick_at_once-at_once.result.winner c.pick_at_once-at_once.new.self
    (went_on (goal.at.returns-clause-listed c).After-pick_at_once-at_once)

pub returns-clause-is_ready : goal.returns-clause-is_ready
returns-clause-is_ready c = some_ready c.args.self.now c.args.ready.now c.args.list
    c.pick_at_once-at_once.result.winner c.pick_at_once-at_once.new.self
    (went_on (goal.at.returns-clause-is_ready c).After-pick_at_once-at_once)

pub returns-clause-capped : goal.returns-clause-capped
returns-clause-capped c = none_above c.args.self.now c.args.ready.now c.args.list
    c.pick_at_once-at_once.result.winner c.pick_at_once-at_once.new.self
    (went_on (goal.at.returns-clause-capped c).After-pick_at_once-at_once)

pub returns-clause-cheap : goal.returns-clause-cheap
returns-clause-cheap c = λ most.
    let played : 32 ≤ c.loop.counter = omega arith in
    absurd (omega (
      arith,
      played,
      most,
      visits_low c.args.self.now c.args.ready.now c.args.list c.loop.self
          c.loop.counter (c.loop.invariant.paid.some (omega (arith, played))) c.loop.invariant.same
          c.loop.invariant.paid,
    ))

pub returns-in-Done-clause-visits : goal.returns-in-Done-clause-visits
returns-in-Done-clause-visits c =
    rw (visits_ended c.args.self.now c.args.ready.now c.args.list c.loop.self c.loop.counter 32
    c.in-Done.winner c.loop.invariant.visits c.in-Done.ensures.end (omega arith))
    (omega (arith, c.loop.invariant.steps))

pub returns-clause-visits : goal.returns-clause-visits
returns-clause-visits c =
    let played : c.loop.counter ≡ 32 = omega arith in
    let left = visits_left c.args.self.now c.args.ready.now c.args.list c.loop.self c.loop.counter
    c.loop.invariant.visits in
    rw (subst (λ (n : ℕ). visits_within n c.args.self.now c.args.ready.now c.args.list ≡ None) played left)
    (omega (arith, played, c.loop.invariant.steps))
