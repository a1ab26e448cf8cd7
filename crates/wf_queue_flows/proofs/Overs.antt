-- A frame goes into the overflow queue or into the queue of its flow, by the frames that are left after
-- the drop for the limit.
use Rattle.std.proofs.Common.{◌≡◌, ℕ, ◌+◌, ◌%◌, ◌<◌, Bool, true, false, [], drop, refl, sym, ap, ◌∙◌, subst, inl, inr, length, Some, None, Option}
use Rattle.std.specs.Prelude.{◌==◌, IfNone, IfSome}
use Rattle.std.specs.List.{list_any}
use Rattle.std.proofs.lemmas.Bool.{cases_eq, cond_both, cond-true, cond-false, or_from, or_left, and_left}
use Rattle.std.proofs.lemmas.List.{get_or-set_same, get_or-set_other}
use Rattle.wf_queue_flows.specs.Backlog.{frames_at, after_head_drop}
use Rattle.wf_queue_flows.specs.Flows.{FlowsValue, flows_at_limit, longest_queue, after_limit, is_listed_by_another, is_of_queue, is_in_overflow, goes_to_overflow, queue_for}

pub over_by : (w : FlowsValue) (n i flow : ℕ) → n ≡ w.flows → goes_to_overflow w i (flow % n) ≡ true →
    n + i ≡ queue_for w i flow
unfolding queue_for
over_by w n i flow same is = subst (λ (m : ℕ). goes_to_overflow w i (flow % m) ≡ true → m + i ≡ queue_for w
    i flow)
    (sym same) (λ e. sym (cond-true (goes_to_overflow w i (flow % w.flows)) (w.flows + i) (flow % w.flows)
    e)) is

pub shared_by : (w : FlowsValue) (n i flow : ℕ) → n ≡ w.flows → goes_to_overflow w i (flow % n) ≡ false →
    flow % n ≡ queue_for w i flow
unfolding queue_for
shared_by w n i flow same is =
    subst (λ (m : ℕ). goes_to_overflow w i (flow % m) ≡ false → flow % m ≡ queue_for w i flow) (sym same)
    (λ e. sym (cond-false (goes_to_overflow w i (flow % w.flows)) (w.flows + i) (flow % w.flows) e)) is

module _ (v : FlowsValue) where
  pub flows_left : (after_limit v).flows ≡ v.flows
  unfolding after_limit
  flows_left = cond_both (flows_at_limit v) _ v (λ w. w.flows ≡ v.flows) (λ e. refl) (λ e. refl)

  order_left : (after_limit v).keep_order ≡ v.keep_order
  unfolding after_limit
  order_left = cond_both (flows_at_limit v) _ v (λ w. w.keep_order ≡ v.keep_order) (λ e. refl) (λ e. refl)

  elsewhere_left : (i q : ℕ) → is_listed_by_another (after_limit v) i q ≡ is_listed_by_another v i q
  unfolding after_limit
  elsewhere_left i q = cond_both (flows_at_limit v) _ v
      (λ w. is_listed_by_another w i q ≡ is_listed_by_another v i q) (λ e. refl) (λ e. refl)

  -- another TID lists the queue
  pub over_elsewhere : (i q : ℕ) → is_listed_by_another v i q ≡ true → true ≡ goes_to_overflow (after_limit
      v) i q
  unfolding goes_to_overflow
  over_elsewhere i q is = sym (or_left (is_listed_by_another (after_limit v) i q) _ (elsewhere_left i q ∙ is))

  -- flows need not keep their order
  pub over_free : (i q keep : ℕ) → keep ≡ v.keep_order → is_listed_by_another v i q ≡ false →
      (keep == 1) ≡ false → false ≡ goes_to_overflow (after_limit v) i q
  unfolding goes_to_overflow
  over_free i q keep same off free = sym (or_from (is_listed_by_another (after_limit v) i q) _
      (elsewhere_left i q ∙ off) (and_left ((after_limit v).keep_order == 1) _
      (ap (λ (n : ℕ). n == 1) (order_left ∙ sym same) ∙ free)))

  frames_roomy : (at : ℕ) → flows_at_limit v ≡ false → frames_at (after_limit v).backlog at
      ≡ frames_at v.backlog at
  unfolding after_limit
  frames_roomy at roomy = ap (λ (w : FlowsValue). frames_at w.backlog at)
      (cond-false (flows_at_limit v) _ v roomy)

  frames_full : (at k : ℕ) → flows_at_limit v ≡ true → k ≡ longest_queue v.backlog →
      frames_at (after_limit v).backlog at ≡ frames_at (after_head_drop v.backlog k) at
  unfolding after_limit
  frames_full at k full longest = ap (λ (w : FlowsValue). frames_at w.backlog at)
      (cond-true (flows_at_limit v) _ v full)
      ∙ ap (λ (n : ℕ). frames_at (after_head_drop v.backlog n) at) (sym longest)

  -- the frames that are left in a queue, if it loses this many for the limit
  pub frames_left : {X : Type 0} (key : X → ℕ) (at lost : ℕ) (over : Option X) →
      at < length v.backlog.queues → IfNone over (flows_at_limit v ≡ false) →
      IfSome over (λ _. flows_at_limit v ≡ true) → IfSome over (λ x. key x ≡ longest_queue v.backlog) →
      IfNone over (lost ≡ 0) → IfSome over (λ x. key x ≡ at → lost ≡ 1) →
      IfSome over (λ x. (key x ≡ at → ⊥) → lost ≡ 0) →
      frames_at (after_limit v).backlog at ≡ drop lost (frames_at v.backlog at)
  frames_left key at lost None low roomy full longest none here elsewhere =
      frames_roomy at roomy ∙ ap (λ (n : ℕ). drop n (frames_at v.backlog at)) (sym none)
  frames_left key at lost (Some x) low roomy full longest none here elsewhere =
      let k : ℕ = key x in
      frames_full at k full longest ∙ elim (cases_eq at k) [
        | inl e ↦ subst (λ (m : ℕ). frames_at (after_head_drop v.backlog m) at
            ≡ drop 1 (frames_at v.backlog m)) e
            (get_or-set_same v.backlog.queues at (drop 1 (frames_at v.backlog at)) [] low)
            ∙ ap (λ (m : ℕ). drop 1 (frames_at v.backlog m)) (sym e)
            ∙ ap (λ (n : ℕ). drop n (frames_at v.backlog at)) (sym (here (sym e)))
        | inr other ↦ get_or-set_other v.backlog.queues k at (drop 1 (frames_at v.backlog k)) [] other
            ∙ ap (λ (n : ℕ). drop n (frames_at v.backlog at)) (sym (elsewhere (λ e. other (sym e))))
      ]

  -- the frames of the overflow queue decide
  pub over_kept : (i q lost at flows keep : ℕ) (b : Bool) → flows ≡ v.flows → keep ≡ v.keep_order →
      is_listed_by_another v i q ≡ false → (keep == 1) ≡ true → at ≡ flows + i →
      frames_at (after_limit v).backlog at ≡ drop lost (frames_at v.backlog at) →
      b ≡ list_any (is_of_queue flows q) (drop lost (frames_at v.backlog at)) →
      b ≡ goes_to_overflow (after_limit v) i q
  unfolding goes_to_overflow
  over_kept i q lost at flows keep b same same_order off keeps place left is =
      let over : is_in_overflow (after_limit v) i q ≡ b =
      ap (λ (n : ℕ). list_any (is_of_queue n q) (frames_at (after_limit v).backlog (n + i)))
      (flows_left ∙ sym same)
      ∙ ap (λ (n : ℕ). list_any (is_of_queue flows q) (frames_at (after_limit v).backlog n)) (sym place)
      ∙ ap (list_any (is_of_queue flows q)) left ∙ sym is in
      let orders : ((after_limit v).keep_order == 1) ≡ true =
      ap (λ (n : ℕ). n == 1) (order_left ∙ sym same_order) ∙ keeps in
      rw (elsewhere_left i q ∙ off, orders, over) refl
