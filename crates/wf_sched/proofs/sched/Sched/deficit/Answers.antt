-- The deficit that is read is the station's in that class.
use Rattle.std.proofs.Common.{subst}
use Rattle.wf_sched.specs.ClassRotas.{IsSchedulerSized}
use Rattle.wf_sched.proofs.Views.{sized}
use Rattle.wf_sched.proofs.sched.Sched.deficit.Goals as goal

pub returns-clause-sized : goal.returns-clause-sized
returns-clause-sized c = subst IsSchedulerSized c.self.view_is
    (sized c.self.inside.rotas c.self.inside.stations c.self.inside.quantum c.self.invariant)
