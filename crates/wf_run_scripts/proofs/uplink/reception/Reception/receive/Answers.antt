-- Proves that the frame's call lacks room if a total has reached its bound.
use Rattle.std.proofs.Common.{[], sym, ◌∙◌}
use Rattle.wf_run_scripts.proofs.UplinkRoom.{receive_lacks}
use Rattle.wf_run_scripts.proofs.uplink.reception.Reception.receive.Goals as goal

pub returns-then-not-has_room-clause-memory : goal.returns-then-not-has_room-clause-memory
returns-then-not-has_room-clause-memory g c = λ is.
    receive_lacks c.args.self.now c.args.octets.now []
    (sym c.has_room.ensures.exactly ∙ c.if-not-has_room.true)
