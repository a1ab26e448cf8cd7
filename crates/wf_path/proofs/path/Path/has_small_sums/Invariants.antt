-- The invariant of the loop of `Path::has_small_sums`: the airtimes of the stations before `station`
-- are small.
use Rattle.std.proofs.Common.{◌<◌, ℕ}
use Rattle.wf_frame.specs.declared.classes.Class.{Class}
use Rattle.wf_path.specs.Small.{IsSmallIn}
use Rattle.wf_path.proofs.path.Path.has_small_sums.Given as goal

abbrev pub invariant-loop-station : goal.invariant-loop-station
invariant-loop-station l = (s : ℕ) (c : Class) → s < l.station → IsSmallIn l.self.half s c
