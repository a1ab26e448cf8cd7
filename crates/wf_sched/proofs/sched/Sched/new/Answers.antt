-- Four new rotations satisfy the invariant of the scheduler.
use Rattle.std.proofs.Common.{refl, arith}
use Rattle.wf_sched.specs.ClassRotas.{IsOfStations}
use Rattle.wf_sched.proofs.Views.{opened, four_of}
use Rattle.wf_sched.proofs.sched.Sched.new.Goals as goal

pub invariant_of-result : goal.invariant_of-result
invariant_of-result c = record {
  four = refl;
  each = four_of (IsOfStations c.args.stations) c.in_ok-new.field-0 c.in_ok-new-2.field-0
      c.in_ok-new-3.field-0 c.in_ok-new-4.field-0
      (opened c.args.stations c.args.quantum c.in_ok-new.field-0 c.in_ok-new.ensures)
      (opened c.args.stations c.args.quantum c.in_ok-new-2.field-0 c.in_ok-new-2.ensures)
      (opened c.args.stations c.args.quantum c.in_ok-new-3.field-0 c.in_ok-new-3.ensures)
      (opened c.args.stations c.args.quantum c.in_ok-new-4.field-0 c.in_ok-new-4.ensures);
  some = c.requires.some;
  few = c.requires.few;
  some_quantum = omega (arith, c.requires.least);
  most_quantum = c.requires.most;
}
