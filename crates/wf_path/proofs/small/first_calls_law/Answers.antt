-- Proves `first_calls_law`: 2^38 calls that add at most 10,000,000 each leave the bound below 2^62.
use Rattle.std.proofs.Common.{arith, ◌+◌, ◌*◌, ◌^◌}
use Rattle.wf_def_lists.specs.Bounds.{greatest_tick}
use Rattle.wf_path.proofs.Rises.{below_more}
use Rattle.wf_path.proofs.small.first_calls_law.Goals as goal

pub returns : goal.returns
returns c v calls few = below_more v (1 + calls * greatest_tick) (2 ^ 62) (omega (arith, few))
