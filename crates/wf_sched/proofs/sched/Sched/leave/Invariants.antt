-- The station is off the lists of the classes so far; the other classes are unchanged.
use Rattle.wf_sched.proofs.Loops.{IsDone, left_rota}
use Rattle.wf_sched.proofs.sched.Sched.leave.Given as goal

abbrev pub invariant-loop-rota : goal.invariant-loop-rota
invariant-loop-rota l = IsDone (left_rota l.station) l.initial.rota-items l.rota-index l.rota-items
