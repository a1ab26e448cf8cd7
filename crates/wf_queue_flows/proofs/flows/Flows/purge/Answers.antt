-- The least queue of the TID is purged in each iteration, so the queues go in the order of their numbers.
use Rattle.std.proofs.Common.{◌≡◌, ◌<◌, ◌≤◌, ◌∙◌, ℕ, suc, true, length, refl, sym, ap, subst, arith}
use Rattle.wf_def_rotation.specs.Rotation.{no_keys, in_order}
use Rattle.wf_frame.specs.Classes.{tid_number}
use Rattle.wf_queue_flows.specs.Flows.{FlowsValue, tids, queues, tid_rotation, is_listed, settings, after_purge}
use Rattle.wf_queue_flows.proofs.Purges.{purged-first, purged_next, purged_last, least_there, fewer_queues, tids_below, queues_below, kept_apart, kept_low}
use Rattle.wf_queue_flows.proofs.Settings.{settings_purged}
use Rattle.wf_queue_flows.proofs.flows.Flows.purge.Goals as goal

pub loop-q-init : goal.loop-q-init
loop-q-init c =
    let list : c.tid_number-list.result < tids c.args.self.now = omega (arith, c.tid_number-list.ensures) in
    record {
      purged = (
        0,
        omega arith,
        purged-first c.args.self.now c.tid_number-list.result
            (kept_apart _ _ _ c.self.view_is c.self.invariant)
            (kept_low _ _ _ _ c.self.view_is c.self.invariant list),
      );
      held = refl;
    }

pub purge_queue-requires-clause-list : goal.purge_queue-requires-clause-list
purge_queue-requires-clause-list c = omega (
  arith,
  c.tid_number-list.ensures,
  ap (λ (w : FlowsValue). tids w) c.loop-q.invariant.purged.2,
  tids_below c.args.self.now c.tid_number-list.result c.loop-q.invariant.purged.0,
)

pub purge_queue-requires-clause-queue : goal.purge_queue-requires-clause-queue
purge_queue-requires-clause-queue c = omega (
  arith,
  ap (λ (w : FlowsValue). queues w) c.loop-q.invariant.purged.2,
  queues_below c.args.self.now c.tid_number-list.result c.loop-q.invariant.purged.0,
  least_there c.args.self.now c.tid_number-list.result
      (kept_apart _ _ _ c.self.view_is c.self.invariant)
      (kept_low _ _ _ _ c.self.view_is c.self.invariant (omega (arith, c.tid_number-list.ensures)))
      c.loop-q.self c.loop-q.invariant.purged.0 c.loop-q.invariant.purged.2 c.loop-q.invariant.purged.1
      c.in-Some.q
      (subst (λ (w : FlowsValue). is_listed w c.tid_number-list.result c.in-Some.q ≡ true)
      c.self-in-loop-q.view_is c.in-Some.ensures.listed)
      (subst (λ (w : FlowsValue). (m : ℕ) → is_listed w c.tid_number-list.result m ≡ true →
      c.in-Some.q ≤ m)
      c.self-in-loop-q.view_is c.in-Some.ensures.least),
)

pub loop-q-preserved : goal.loop-q-preserved
loop-q-preserved c =
    let list : c.tid_number-list.result < tids c.args.self.now = omega (arith, c.tid_number-list.ensures) in
    record {
      purged = (
        suc c.in-Some.q,
        least_there c.args.self.now c.tid_number-list.result
            (kept_apart _ _ _ c.self.view_is c.self.invariant)
            (kept_low _ _ _ _ c.self.view_is c.self.invariant list)
            c.loop-q.self c.loop-q.invariant.purged.0 c.loop-q.invariant.purged.2
            c.loop-q.invariant.purged.1 c.in-Some.q
            (subst (λ (w : FlowsValue). is_listed w c.tid_number-list.result c.in-Some.q ≡ true)
            c.self-in-loop-q.view_is c.in-Some.ensures.listed)
            (subst (λ (w : FlowsValue). (m : ℕ) → is_listed w c.tid_number-list.result m ≡ true →
            c.in-Some.q ≤ m)
            c.self-in-loop-q.view_is c.in-Some.ensures.least),
        c.purge_queue.ensures.gone ∙ purged_next c.args.self.now c.tid_number-list.result
            (kept_apart _ _ _ c.self.view_is c.self.invariant)
            (kept_low _ _ _ _ c.self.view_is c.self.invariant list)
            c.loop-q.self c.loop-q.invariant.purged.0 c.loop-q.invariant.purged.2
            c.loop-q.invariant.purged.1 c.in-Some.q
            (subst (λ (w : FlowsValue). is_listed w c.tid_number-list.result c.in-Some.q ≡ true)
            c.self-in-loop-q.view_is c.in-Some.ensures.listed)
            (subst (λ (w : FlowsValue). (m : ℕ) → is_listed w c.tid_number-list.result m ≡ true →
            c.in-Some.q ≤ m)
            c.self-in-loop-q.view_is c.in-Some.ensures.least),
      );
      held = c.purge_queue.ensures.held ∙ c.loop-q.invariant.held;
    }

pub returns-clause-purged : goal.returns-clause-purged
returns-clause-purged c =
    let list : c.tid_number-list.result < tids c.args.self.now = omega (arith, c.tid_number-list.ensures) in
    purged_last c.args.self.now c.tid_number-list.result
    (kept_apart _ _ _ c.self.view_is c.self.invariant)
    (kept_low _ _ _ _ c.self.view_is c.self.invariant list)
    c.loop-q.self c.loop-q.invariant.purged.0 c.loop-q.invariant.purged.2 c.loop-q.invariant.purged.1
    (subst (λ (w : FlowsValue). tid_rotation w c.tid_number-list.result ≡ no_keys) c.self-in-loop-q.view_is
    c.in_default.ensures.none)
    ∙ ap (after_purge c.args.self.now) c.tid_number-list.ensures

pub returns-clause-settings : goal.returns-clause-settings
returns-clause-settings c = ap settings (returns-clause-purged c)
    ∙ settings_purged c.args.self.now (tid_number c.args.station c.args.tid)

pub least_key-requires : goal.least_key-requires
least_key-requires c = kept_low _ _ _ _ refl c.self-in-loop-q.invariant (omega (
  arith,
  c.tid_number-list.ensures,
  ap (λ (w : FlowsValue). tids w) c.self-in-loop-q.view_is,
  ap (λ (w : FlowsValue). tids w) c.loop-q.invariant.purged.2,
  tids_below c.args.self.now c.tid_number-list.result c.loop-q.invariant.purged.0,
))

pub loop-q-smaller : goal.loop-q-smaller
loop-q-smaller c = subst (λ (w : FlowsValue). length (in_order (tid_rotation w c.tid_number-list.result))
    < length (in_order (tid_rotation c.loop-q.self c.tid_number-list.result)))
    (sym c.purge_queue.ensures.gone)
    (fewer_queues c.loop-q.self c.tid_number-list.result c.in-Some.q
    (subst (λ (w : FlowsValue). is_listed w c.tid_number-list.result c.in-Some.q ≡ true)
    c.self-in-loop-q.view_is c.in-Some.ensures.listed))
