-- A move reports few enough items for the list.
use Rattle.std.proofs.Common.{◌+◌, length, ap, arith}
use Rattle.wf_uplink.proofs.Moves.{moved_few}
use Rattle.wf_uplink.proofs.Standing.{stored_few}
use Rattle.wf_uplink.proofs.sequencer.Sequencer.ask.Goals as goal

pub move_to-requires-clause-room : goal.move_to-requires-clause-room
move_to-requires-clause-room c =
    let few = moved_few (c.self.inside.start + c.from-ahead.result) c.args.self.now in
    let stored = stored_few c.self.inside.start c.self.inside.window c.self.inside.since c.self.inside.buffer
    c.args.self.now c.self.view_is c.self.invariant in
    omega (arith, few, stored, ap length c.requires.empty)
