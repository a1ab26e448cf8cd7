-- The lists and the deficits equal those after a pass over the keys so far.
use Rattle.std.proofs.Common.{◌≡◌, ℕ, Bool, take, min}
use Rattle.std.specs.List.{filter}
use Rattle.wf_rotation.specs.Lists.{lists_at}
use Rattle.wf_rotation.specs.Pass.{SharesAre, HasPassed, way, last_key, place_in}
use Rattle.wf_rotation.proofs.rota.Rota.pass.Given as goal

abbrev pub invariant-loop-i : goal.invariant-loop-i
invariant-loop-i l = record {
  passed : (visits : ℕ → ℕ) (stay : ℕ → Bool) → SharesAre l.course l.fn.self l.ready l.list visits stay →
      HasPassed l.course l.fn.self l.list visits stay l.i l.self;
  last : (visits : ℕ → ℕ) (stay : ℕ → Bool) → SharesAre l.course l.fn.self l.ready l.list visits stay →
      l.passed.last ≡ last_key (filter stay (take (min l.i (place_in l.course))
      (way l.course (lists_at l.fn.self.lists l.list))));
  count : l.passed.count ≡ l.i;
}
