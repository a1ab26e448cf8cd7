-- The looks that are left end as the whole dequeue does: the drops so far equal the definition's.
use Rattle.std.proofs.Common.{◌≡◌, ◌∷◌, ◌≤◌, true, length, map}
use Rattle.wf_def_codel.specs.Codel.{octets}
use Rattle.wf_queue_flows.specs.CodelParams.{params_of}
use Rattle.wf_queue_flows.specs.CodelState.{codel_state_of}
use Rattle.wf_queue_flows.proofs.Lanes.{while_dropping}
use Rattle.wf_queue_flows.proofs.codel.Codel.keep_dropping.Given as goal

-- The rest of the dequeue leaves the lane as the whole does.
abbrev pub invariant-looks : goal.invariant-looks
invariant-looks g l = record {
  outcome : while_dropping g.L.Lane.look g.L.Lane.tossed (params_of l.params) l.now
      (codel_state_of l.self-inside) l.due (g.L.Lane.thrown l.lane) (l.item ∷ g.L.Lane.rest l.lane)
      ≡ while_dropping g.L.Lane.look g.L.Lane.tossed
      (params_of l.fn.params) l.fn.now l.fn.self l.fn.self.drop_next (g.L.Lane.thrown l.fn.lane)
      (l.fn.first ∷ g.L.Lane.rest l.fn.lane);
  stamp : l.sight.stamp ≡ (g.L.Lane.look l.item).stamp;
  left : l.sight.left ≡ octets (map g.L.Lane.look (g.L.Lane.rest l.lane));
  dropping : l.self-inside.dropping ≡ true;
  counted : 1 ≤ l.self-inside.count;
  spare : g.L.Lane.spare l.lane ≡ g.L.Lane.spare l.fn.lane;
  same : g.L.Lane.same l.fn.lane l.lane;
}

abbrev pub decreases-looks : goal.decreases-looks
decreases-looks g l = length (g.L.Lane.rest l.lane)
