-- The classes so far have the station's new quantum and deficit; the others are unchanged.
use Rattle.wf_sched.proofs.Loops.{IsDone, joined_rota}
use Rattle.wf_sched.proofs.sched.Sched.join.Given as goal

abbrev pub invariant-loop-rota : goal.invariant-loop-rota
invariant-loop-rota l = IsDone (joined_rota l.key l.quantum) l.initial.rota-items l.rota-index l.rota-items
