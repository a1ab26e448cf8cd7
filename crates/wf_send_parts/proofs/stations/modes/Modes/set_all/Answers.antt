-- Proves the contract of `Modes::set_all`: each round of the loop sets one more mode.
use Rattle.std.proofs.Common.{◌+◌, List, sym, subst, arith}
use Rattle.wf_send_parts.specs.declared.stations.modes.Mode.{Mode}
use Rattle.wf_send_parts.proofs.Modes.{AreSet, none_set, one_more_set}
use Rattle.wf_send_parts.proofs.stations.modes.Modes.set_all.Goals as goal

pub loop-tid-init : goal.loop-tid-init
loop-tid-init c = none_set c.args.self.now c.args.station c.args.mode

pub set-requires-clause-within : goal.set-requires-clause-within
set-requires-clause-within c = omega (arith, c.loop-tid.invariant.count, c.requires)

pub loop-tid-preserved : goal.loop-tid-preserved
loop-tid-preserved c =
    let P : List Mode → Type 0 = λ ms. AreSet c.args.self.now ms c.args.station c.args.mode
    (c.loop-tid.tid + 1) in
    subst P (sym c.set.ensures.set) (one_more_set c.args.self.now c.loop-tid.self c.args.station c.args.mode
    c.loop-tid.tid (omega arith) (omega (arith, c.loop-tid.invariant.count, c.requires))
    c.loop-tid.invariant)

pub returns-clause-set : goal.returns-clause-set
returns-clause-set c t low = c.loop-tid.invariant.set t (omega (arith, low))
