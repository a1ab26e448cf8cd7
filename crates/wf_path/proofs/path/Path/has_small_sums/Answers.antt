-- Proves what `Path::has_small_sums` promises: the loop tests the stations 0 to 255, and no other station
-- is live.
use Rattle.std.proofs.Common.{arith, subst}
use Rattle.wf_path.specs.Paths.{IsPath}
use Rattle.wf_path.proofs.SmallSums.{all_small, one_more}
use Rattle.wf_path.proofs.Values.{half_is}
use Rattle.wf_path.proofs.path.Path.has_small_sums.Goals as goal

pub loop-station-init : goal.loop-station-init
loop-station-init c s k low = absurd (omega (arith, low))

pub loop-station-preserved : goal.loop-station-preserved
loop-station-preserved c =
    one_more c.args.self.now.half c.loop-station.station c.loop-station.invariant
    (c.is_small_at.ensures.small c.if-not-is_small_at.false)

pub returns-clause-small : goal.returns-clause-small
returns-clause-small c is =
    all_small c.args.self.now.half (subst IsPath (half_is c.self.view_is) c.self.invariant)
    (λ s k low. c.loop-station.invariant s k (omega (arith, low, c.loop-station-test.false)))
