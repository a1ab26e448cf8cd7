-- Proves what `Path::has_small_groups` promises: the loop tests the BSSs that there are, and no other one has
-- group frames.
use Rattle.std.proofs.Common.{arith, subst}
use Rattle.wf_path.specs.Paths.{IsPath}
use Rattle.wf_path.proofs.SmallSums.{all_groups, one_more_group}
use Rattle.wf_path.proofs.Values.{half_is}
use Rattle.wf_path.proofs.path.Path.has_small_groups.Goals as goal

pub loop-bss-init : goal.loop-bss-init
loop-bss-init c b low = absurd (omega (arith, low))

pub loop-bss-preserved : goal.loop-bss-preserved
loop-bss-preserved c =
    one_more_group c.args.self.now.half c.loop-bss.bss c.loop-bss.invariant
    (c.has_small_group.ensures.small c.if-not-has_small_group.false)

pub returns-clause-small : goal.returns-clause-small
returns-clause-small c is =
    all_groups c.args.self.now.half (subst IsPath (half_is c.self.view_is) c.self.invariant)
    (λ b low. c.loop-bss.invariant b
    (omega (arith, low, c.loop-bss-test.false, c.bss_count-bss-end.ensures.value)))
