-- The invariant of the loop: the halves so far are new, and there is memory for all of them.
use Rattle.std.proofs.Common.{◌≡◌, vec_len, vec_capacity}
use Rattle.wf_cell_model.specs.Hearing.{AreNew}
use Rattle.wf_cell.proofs.peers.Peers.new.Given as goal

abbrev pub invariant-loop-station : goal.invariant-loop-station
invariant-loop-station l = AreNew l.station l.list.items × (vec_len l.list ≡ l.station) ×
    (vec_capacity l.list ≡ l.fn.stations)
