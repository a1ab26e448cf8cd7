-- The visits so far leave a rotation from which the pick is the same, and each of them was paid for.
use Rattle.std.proofs.Common.{◌≡◌}
use Rattle.wf_rotation.specs.Visits.{IsSamePick}
use Rattle.wf_rotation.proofs.PaidLemmas.{ArePaid}
use Rattle.wf_rotation.proofs.CountedVisits.{AreVisits}
use Rattle.wf_rotation.proofs.rota.Rota.pick.Given as goal

abbrev pub invariant-loop : goal.invariant-loop
invariant-loop l = record {
  same : IsSamePick l.fn.self l.ready l.list l.self;
  steps : l.steps ≡ l.counter;
  paid : ArePaid l.fn.self l.list l.self l.counter;
  visits : AreVisits l.fn.self l.ready l.list l.self l.counter;
}
