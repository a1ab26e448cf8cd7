-- Proves that the deficit is what the scheduler keeps and the airtime in flight that counts against it.
use Rattle.wf_send_half.proofs.Standings.{read_fits, read_is, read_world}
use Rattle.wf_send_half.proofs.transmit.Transmit.deficit.Goals as goal

pub overflow_add-result : goal.overflow_add-result
overflow_add-result c = read_fits c.self.inside.half c.args.self.now c.self.view_is c.self.invariant.some
    c.args.station c.args.class c.requires.live c.standing.result c.from.result c.pending_air-pending.result
    c.standing.ensures c.pending_air-pending.ensures c.from.ensures

pub returns-clause-value : goal.returns-clause-value
returns-clause-value c = read_is c.self.inside.half c.args.self.now c.self.view_is c.self.invariant.some
    c.args.station c.args.class c.requires.live c.standing.result c.from.result c.pending_air-pending.result
    c.standing.ensures c.pending_air-pending.ensures c.from.ensures

pub returns-clause-world : goal.returns-clause-world
returns-clause-world c = read_world c.self.inside.half c.args.self.now c.self.view_is c.self.invariant.some
    c.args.station c.args.class c.requires.live c.standing.result c.from.result c.pending_air-pending.result
    c.standing.ensures c.pending_air-pending.ensures c.from.ensures
