-- Proves that the number that `Path::bss_count` returns is in its range.
use Rattle.std.proofs.Common.{sym, subst, ℕ, ◌≤◌}
use Rattle.wf_path.proofs.SmallSums.{few_of}
use Rattle.wf_path.proofs.path.Path.bss_count.Goals as goal

pub returns-clause-range : goal.returns-clause-range
returns-clause-range c = subst (λ (n : ℕ). (1 ≤ n) × (n ≤ 16)) (sym c.bss_count.ensures.value)
    (few_of c.self.inside.half c.self.invariant)
