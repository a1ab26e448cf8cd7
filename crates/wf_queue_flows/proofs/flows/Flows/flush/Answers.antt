-- Each queue of the TID is emptied in the order of the queue numbers.
use Rattle.std.proofs.Common.{◌≡◌, ◌+◌, ◌∙◌, ℕ, suc, refl, sym, ap, arith}
use Rattle.wf_frame.specs.Classes.{tid_number}
use Rattle.wf_queue_flows.specs.Backlog.{held_in_backlog}
use Rattle.wf_queue_flows.specs.Flows.{FlowsValue, queues, is_listed, settings, after_tid_flush}
use Rattle.wf_queue_flows.specs.Kept.{flushed_below}
use Rattle.wf_queue_flows.proofs.Flushes.{flushed-first, flushed-next, flushed-same, flushed-last, listed_below, tids_flushed, queues_flushed, flushed-none}
use Rattle.wf_queue_flows.proofs.Settings.{settings_flushed}
use Rattle.wf_queue_flows.proofs.flows.Flows.flush.Goals.{then-lists, else-lists}
use Rattle.wf_queue_flows.proofs.flows.Flows.flush.Goals as goal

pub returns-then-count-eq0-clause-flushed : goal.returns-then-count-eq0-clause-flushed
returns-then-count-eq0-clause-flushed c =
    flushed-none _ _ _ c.self.view_is c.self.invariant c.tid_number-list.result c.index-count.result.now
    (omega (arith, c.tid_number-list.ensures, c.requires.station, c.requires.tid))
    c.index-count.ensures c.if-count-eq0.true
    ∙ ap (after_tid_flush c.args.self.now) c.tid_number-list.ensures

pub loop-q-init : goal.loop-q-init
loop-q-init c = record {
  flushed = flushed-first c.args.self.now c.tid_number-list.result;
  held = refl;
}

pub lists-requires : goal.lists-requires
lists-requires c = omega (
  arith,
  c.loop-q-test.true,
  ap (λ (w : FlowsValue). queues w) c.self.view_is,
  queues_flushed c.args.self.now c.loop-q.self c.tid_number-list.result c.loop-q.q
      c.loop-q.invariant.flushed,
)

pub empty_queue-requires-clause-list : goal.empty_queue-requires-clause-list
empty_queue-requires-clause-list c = omega (
  arith,
  c.tid_number-list.ensures,
  c.requires.station,
  c.requires.tid,
  tids_flushed c.args.self.now c.loop-q.self c.tid_number-list.result c.loop-q.q
      c.loop-q.invariant.flushed,
)

pub empty_queue-requires-clause-queue : goal.empty_queue-requires-clause-queue
empty_queue-requires-clause-queue c = omega (
  arith,
  c.loop-q-test.true,
  ap (λ (w : FlowsValue). queues w) c.self.view_is,
  queues_flushed c.args.self.now c.loop-q.self c.tid_number-list.result c.loop-q.q
      c.loop-q.invariant.flushed,
)

pub loop-q-preserved : goal.loop-q-preserved
loop-q-preserved c =
    let v : FlowsValue = c.args.self.now in
    let i : ℕ = c.tid_number-list.result in
    let q : ℕ = c.loop-q.q in
    let next : flushed_below v i (suc q) ≡ flushed_below v i (q + 1) =
    ap (flushed_below v i) (omega arith) in
    let listed : is_listed v i q ≡ c.lists.result =
    sym (listed_below v c.loop-q.self i q i q c.loop-q.invariant.flushed) ∙ sym c.lists.ensures in
    elim c.if-lists.branch [
      | then-lists w ↦ record {
        flushed = w.self-is
            ∙ flushed-next v c.loop-q.self w.empty_queue.new.self i q c.loop-q.invariant.flushed
            (listed ∙ w.if-lists.true) w.empty_queue.ensures.emptied
            ∙ next;
        held = ap (λ (u : FlowsValue). held_in_backlog u.backlog) w.self-is
            ∙ w.empty_queue.ensures.held ∙ c.loop-q.invariant.held;
      }
      | else-lists w ↦ record {
        flushed = w.self-is
            ∙ flushed-same v c.loop-q.self i q c.loop-q.invariant.flushed (listed ∙ w.if-lists.false)
            ∙ next;
        held = ap (λ (u : FlowsValue). held_in_backlog u.backlog) w.self-is ∙ c.loop-q.invariant.held;
      }
    ]

pub returns-clause-flushed : goal.returns-clause-flushed
returns-clause-flushed c =
    let v : FlowsValue = c.args.self.now in
    let i : ℕ = c.tid_number-list.result in
    let all : c.loop-q.q ≡ queues v = omega (
      arith,
      c.loop-q-test.false,
      c.loop-q.auto.q-end,
      ap (λ (w : FlowsValue). queues w) c.self.view_is,
    ) in
    flushed-last v c.loop-q.self i (c.loop-q.invariant.flushed ∙ ap (flushed_below v i) all)
    ∙ ap (after_tid_flush v) c.tid_number-list.ensures

pub returns-clause-settings : goal.returns-clause-settings
returns-clause-settings c = ap settings (returns-clause-flushed c)
    ∙ settings_flushed c.args.self.now (tid_number c.args.station c.args.tid)
