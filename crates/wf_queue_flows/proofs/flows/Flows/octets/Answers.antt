-- A queue that the TID lists adds its octets, and another adds none.
use Rattle.std.proofs.Common.{◌≡◌, ◌∙◌, ◌+◌, ℕ, sym, ap, arith}
use Rattle.wf_queue_flows.specs.Backlog.{frames_at, queue_octets}
use Rattle.wf_queue_flows.specs.Flows.{FlowsValue}
use Rattle.wf_queue_flows.proofs.Weights.{octets_at, weighed-next, weighed-same}
use Rattle.wf_queue_flows.proofs.flows.Flows.octets.Goals.{then-lists, else-lists}
use Rattle.wf_queue_flows.proofs.flows.Flows.octets.Goals as goal

pub loop-q-preserved : goal.loop-q-preserved
loop-q-preserved c =
    let v : FlowsValue = c.args.self.now in
    let i : ℕ = c.tid_number-list.result in
    let q : ℕ = c.loop-q.q in
    elim c.if-lists.branch [
      | then-lists w ↦
          let here : w.octets_of-octets.result ≡ octets_at v q =
          w.octets_of-octets.ensures.octets
          ∙ ap (λ (u : FlowsValue). queue_octets (frames_at u.backlog q)) c.self.view_is in
          record {
            weighed = w.octets-is ∙ ap (λ (n : ℕ). c.loop-q.octets + n) here
                ∙ ap (λ (n : ℕ). n + octets_at v q) c.loop-q.invariant.weighed
                ∙ weighed-next v i q (sym c.lists.ensures ∙ w.if-lists.true);
            few = omega (arith, w.octets-is, w.octets_of-octets.ensures.few, c.loop-q.invariant.few);
          }
      | else-lists w ↦ record {
        weighed = w.octets-is ∙ c.loop-q.invariant.weighed
            ∙ weighed-same v i q (sym c.lists.ensures ∙ w.if-lists.false);
        few = omega (arith, w.octets-is, c.loop-q.invariant.few);
      }
    ]
