-- The classes so far have the station's new quantum; the others are unchanged.
use Rattle.wf_sched.proofs.Loops.{IsDone, weighted_rota}
use Rattle.wf_sched.proofs.sched.Sched.set_weight.Given as goal

abbrev pub invariant-loop-rota : goal.invariant-loop-rota
invariant-loop-rota l = IsDone (weighted_rota l.key l.weighted) l.initial.rota-items l.rota-index l.rota-items
