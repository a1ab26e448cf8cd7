-- Proves that the counts are small if `Path::has_small_counts` returns true, from its five tests.
use Rattle.std.proofs.Common.{rules}
use Rattle.wf_path.proofs.SmallSums.{small_counts}
use Rattle.wf_path.proofs.path.Path.has_small_counts.Goals as goal

pub returns-then-has_small_groups-clause-small : goal.returns-then-has_small_groups-clause-small
returns-then-has_small_groups-clause-small c is = small_counts c.args.self.now.half
    (search rules) (search rules)
    (search rules) (search rules) (c.has_small_sums.ensures.small is)
