-- The parts of each call compose to the definition of the call.
use Rattle.std.proofs.Common.{◌≡◌, ℕ, ◌<◌, true, false, List, Option, Some, None, length, set, refl, sym, ap, ◌∙◌, subst, inl, inr, arith}
use Rattle.std.specs.Prelude.{◌==◌, pos, ◌-ℤ◌}
use Rattle.std.proofs.lemmas.Bool.{cases_Bool, cond-true, cond-false}
use Rattle.wf_frame.specs.Frames.{FrameValue}
use Rattle.wf_def_codel.specs.Codel.{Params}
use Rattle.wf_rotation.specs.Lists.{on_at}
use Rattle.wf_rotation.specs.Rotas.{Rotas, deficit_at}
use Rattle.wf_queue_flows.specs.Backlog.{BacklogValue, frames_at, first_id, after_head_drop, given_at, backlog_after_take}
use Rattle.wf_queue_flows.specs.Flows.{FlowsValue, flows_at_limit, is_listed, longest_queue, after_limit, dropped_for_limit, queue_for, with_listed_queue, with_appended, after_put_in, after_put, pick_of_tid, after_pick, TakeGives, taken_by_codel, taken_from_picked, taken_for_tid, AreListedOnce}
use Rattle.wf_queue_flows.specs.Kept.{AreFlowsKept}
use Rattle.wf_queue_flows.proofs.Owners.{on-listed, listed-on}
use Rattle.wf_queue_flows.proofs.Puts.{put_is}

module _ (v now : FlowsValue) (same : v ≡ now) where
  -- each queue with frames is listed once
  pub listed_once : (counts : List ℕ) → AreFlowsKept v counts → AreListedOnce now
  listed_once counts ok = subst AreListedOnce same (record {
    listed = λ q some.
        let l : (i : ℕ) × (i < length v.rotas.lists) ×
        (0 < on_at v.rotas.lists i q) = ok.listed.listed q some in
        (l.0, omega (arith, l.1, ok.sized.lists), listed-on v l.0 q l.2);
    once = λ q i j at_i at_j. ok.listed.apart.one_list i j q (on-listed v i q at_i) (on-listed v j q at_j);
    overflow = λ q i at past. ok.listed.overflow i q (on-listed v i q at) past;
  })

pub put_parts : (now a b c : FlowsValue) (i q : ℕ) (f : FrameValue) → a ≡ after_limit now →
    q ≡ queue_for (after_limit now) i f.flow → b ≡ with_listed_queue a i q → c ≡ with_appended b q f → c
    ≡ after_put now i f
unfolding after_put
put_parts now a b c i q f limited chosen listed pushed =
    pushed ∙ ap (λ (w : FlowsValue). with_appended w q f) listed ∙ put_is a i q f
    ∙ ap (λ (k : ℕ). after_put_in a i k f) chosen
    ∙ ap (λ (w : FlowsValue). after_put_in w i (queue_for (after_limit now) i f.flow) f) limited

-- there is room
module _ (v : FlowsValue) (roomy : flows_at_limit v ≡ false) where
  pub roomy_same : v ≡ after_limit v
  unfolding after_limit
  roomy_same = sym (cond-false (flows_at_limit v) _ v roomy)

  pub roomy_none : None ≡ dropped_for_limit v
  unfolding dropped_for_limit
  roomy_none = sym (cond-false (flows_at_limit v) _ None roomy)

-- the queues are full, and queue k is the longest
module _ (v : FlowsValue) (full : flows_at_limit v ≡ true) (k : ℕ)
    (longest : k ≡ longest_queue v.backlog) where
  abbrev dropped : FlowsValue
  dropped = record v { backlog = after_head_drop v.backlog k }

  full_dropped : dropped ≡ after_limit v
  unfolding after_limit
  full_dropped = ap (λ (n : ℕ). let w : FlowsValue = record v { backlog = after_head_drop v.backlog n } in w)
      longest ∙ sym (cond-true (flows_at_limit v) _ v full)

  pub full_id : (o : Option ℕ) → o ≡ first_id (frames_at v.backlog k) → o ≡ dropped_for_limit v
  unfolding dropped_for_limit
  full_id o id = id ∙ ap (λ (n : ℕ). first_id (frames_at v.backlog n)) longest
      ∙ sym (cond-true (flows_at_limit v) _ None full)

  -- the drop and the listing change other parts
  dropped_listed : (i q : ℕ) → record (with_listed_queue v i q) {
    backlog = after_head_drop (with_listed_queue v i q).backlog k;
  } ≡ with_listed_queue dropped i q
  unfolding with_listed_queue
  dropped_listed i q = elim (cases_Bool (is_listed v i q)) [
    | inl holds ↦ rw holds refl
    | inr fails ↦ elim (cases_Bool (v.codel_reset == 1)) [
      | inl calms ↦ rw (fails, calms) refl
      | inr stays ↦ rw (fails, stays) refl
    ]
  ]

  pub put_full : (b c : FlowsValue) (i q : ℕ) (f : FrameValue) → q ≡ queue_for (after_limit v) i f.flow →
      b ≡ with_listed_queue v i q
      → c ≡ with_appended (record b { backlog = after_head_drop b.backlog k }) q f → c ≡ after_put v i f
  put_full b c i q f chosen listed exchanged =
      put_parts v dropped (with_listed_queue dropped i q) c i q f full_dropped chosen refl
      (exchanged ∙ ap (λ (w : FlowsValue). with_appended
      (record w { backlog = after_head_drop w.backlog k }) q f) listed
      ∙ ap (λ (w : FlowsValue). with_appended w q f) (dropped_listed i q))

-- the frame that CoDel returns is the frame of the take, after its length has left the deficit
pub picked_gives : (v : FlowsValue) (q len clock : ℕ) (p : Params) (f : FrameValue) (after : BacklogValue)
    (paid : Rotas) → Some f ≡ given_at p clock v.backlog q → after ≡ backlog_after_take p clock v.backlog q →
    len ≡ length f.body →
    paid ≡ record v.rotas {
      deficits = set v.rotas.deficits q (deficit_at v.rotas.deficits q -ℤ pos len);
    } →
    TakeGives (record v { backlog = after; rotas = paid }) f (taken_from_picked v (Some q) clock p)
picked_gives v q len clock p f after paid given took length_is paid_is =
    subst (λ (o : Option FrameValue). TakeGives (record v { backlog = after; rotas = paid }) f
    (taken_by_codel v q clock p o)) given (
      ap (λ (b : BacklogValue). let w : FlowsValue = record v { backlog = b; rotas = paid } in w) took
          ∙ ap (λ (r : Rotas). let w : FlowsValue =
          record v { backlog = backlog_after_take p clock v.backlog q; rotas = r } in w)
          (paid_is ∙ ap (λ (n : ℕ). let r : Rotas = record v.rotas {
            deficits = set v.rotas.deficits q (deficit_at v.rotas.deficits q -ℤ pos n);
          } in r) length_is),
      refl,
    )

pub take_parts : (now a : FlowsValue) (i q clock : ℕ) (p : Params) → a ≡ after_pick now i →
    Some q ≡ (pick_of_tid now i).winner → taken_from_picked a (Some q) clock p ≡ taken_for_tid now i clock p
unfolding taken_for_tid
take_parts now a i q clock p after winner =
    ap (λ (w : FlowsValue). taken_from_picked w (Some q) clock p) after
    ∙ ap (λ (o : Option ℕ). taken_from_picked (after_pick now i) o clock p) winner
