-- The results so far are all `Ok`, and have the values so far.
use Rattle.std.proofs.Common.{◌≡◌, map, Ok}
use Rattle.wf_run_histories.proofs.live.crew.all_of.Given as goal

abbrev pub invariant-loop-outcome : goal.invariant-loop-outcome
invariant-loop-outcome g l = record {
  can_next : (goal.iterator-loop-outcome g).can_next l.outcome-iterator;
  finite : (goal.iterator-loop-outcome g).is_finite l.outcome-iterator;
  whole : l.yielded ≡ map (λ v. Ok v) l.values.items;
}
