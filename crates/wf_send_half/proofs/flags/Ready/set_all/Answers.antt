-- Proves that `Ready::set_all` may take each of its four steps: a flag set in one class leaves room for the
-- station's flag in the next.
use Rattle.wf_frame.specs.declared.classes.Class.TheVariants.{Bk, Be, Vi, Vo}
use Rattle.wf_send_half.proofs.FlagSteps.{room_after}
use Rattle.wf_send_half.proofs.flags.Ready.set_all.Goals as goal

pub set-requires-2 : goal.set-requires-2
set-requires-2 c = record {
  room = room_after c.args.self.now c.set.new.self Bk Be c.args.station _ c.set.ensures
      (c.requires.room Be);
}

pub set-requires-3 : goal.set-requires-3
set-requires-3 c = record {
  room = room_after c.set.new.self c.set-2.new.self Be Vi c.args.station _ c.set-2.ensures
      (room_after c.args.self.now c.set.new.self Bk Vi c.args.station _ c.set.ensures (c.requires.room Vi));
}

pub set-requires-4 : goal.set-requires-4
set-requires-4 c = record {
  room = room_after c.set-2.new.self c.set-3.new.self Vi Vo c.args.station _ c.set-3.ensures
      (room_after c.set.new.self c.set-2.new.self Be Vo c.args.station _ c.set-2.ensures
      (room_after c.args.self.now c.set.new.self Bk Vo c.args.station _ c.set.ensures (c.requires.room Vo)));
}
