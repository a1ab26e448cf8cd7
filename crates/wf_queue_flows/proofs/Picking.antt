-- A pick among the queues of a TID keeps the invariant, and leaves the queues of the definition.
use Rattle.std.proofs.Common.{◌≡◌, ℕ, ◌+◌, ◌*◌, ◌<◌, ◌≤◌, Bool, true, List, Option, Some, None, length, set, refl, sym, ap, ◌∙◌, subst, inl, inr, arith, length-set}
use Rattle.std.specs.Prelude.{ℤ, pos, ◌+ℤ◌, ◌≤ℤ◌, ◌<ℤ◌, IfSome, IfNone}
use Rattle.std.proofs.lemmas.Int.{ints}
use Rattle.std.proofs.lemmas.List.{get_or-set_same, get_or-set_other}
use Rattle.std.proofs.lemmas.Bool.{cases_eq, cases_lt, lt-ltb, ltb-true}
use Rattle.wf_def_rotation.specs.Rotation.{Rotation, no_keys, has_key, in_order, need_of, Picked, pick}
use Rattle.wf_def_lists.specs.Lists.{on}
use Rattle.wf_rotation.specs.Lists.{lists_at, on_at}
use Rattle.wf_rotation.specs.Rotas.{Rotas, deficit_at, quantum_at, need_at, is_ready}
use Rattle.wf_law_rules.proofs.Lemmas.Counts.{listed-some}
use Rattle.wf_queue_flows.specs.Backlog.{frames_at, flags}
use Rattle.wf_queue_flows.specs.Flows.{FlowsValue, tids, is_listed, backlog_has_frames, pick_of_tid, with_quanta_paid, after_pick, frames_of_tid}
use Rattle.wf_queue_flows.specs.Kept.{depth, AreFlowsKept, IsPickOfOne}
use Rattle.wf_queue_flows.proofs.Flags.{flags_tell}
use Rattle.wf_queue_flows.proofs.Paid.{paid_is}
use Rattle.wf_queue_flows.proofs.Picks.{on-picked_le, on-picked, none-picked, won_quanta, lifted_above}
use Rattle.wf_queue_flows.proofs.Owners.{on-listed}
use Rattle.wf_queue_flows.proofs.Waiting.{none_waiting}
use Rattle.wf_queue_flows.proofs.Keeps.{kept_lists}

pub pick_low : (v now : FlowsValue) (i : ℕ) → v ≡ now → i < tids now → i < 8 * v.stations
pick_low v now i same low = subst (λ (w : FlowsValue). i < tids w) (sym same) low

module _ (v : FlowsValue) (counts : List ℕ) (ok : AreFlowsKept v counts) (ready : List Bool)
    (ready_is : ready ≡ flags v.backlog) (i : ℕ) (low : i < 8 * v.stations) (after : Rotas) (won : Option ℕ)
    (p : IsPickOfOne v.rotas ready i after won) where
  abbrev chosen : Picked
  chosen = pick_of_tid v i

  -- the flags show the queues with frames
  picks : pick (need_at v.rotas) (is_ready ready) (lists_at v.rotas.lists i) ≡ chosen
  picks = ap (λ (f : ℕ → Bool). pick (need_at v.rotas) f (lists_at v.rotas.lists i))
      (ap is_ready ready_is ∙ flags_tell v.backlog)

  lists_are : after.lists ≡ set v.rotas.lists i chosen.lists
  lists_are = p.lists ∙ ap (λ (x : Picked). set v.rotas.lists i x.lists) picks

  inside : i < length v.rotas.lists
  inside = omega (arith, low, ok.sized.lists)

  at_i : lists_at after.lists i ≡ chosen.lists
  at_i = ap (λ (all : List Rotation). lists_at all i) lists_are
      ∙ get_or-set_same v.rotas.lists i chosen.lists no_keys inside

  at_other : (j : ℕ) → (j ≡ i → ⊥) → lists_at after.lists j ≡ lists_at v.rotas.lists j
  at_other j other = ap (λ (all : List Rotation). lists_at all j) lists_are
      ∙ get_or-set_other v.rotas.lists i j chosen.lists no_keys other

  some_ready : (q : ℕ) → 0 < depth v.backlog.queues q → backlog_has_frames v.backlog q ≡ true
  some_ready q some = lt-ltb 0 (length (frames_at v.backlog q)) some

  on-less : (j q : ℕ) → on_at after.lists j q ≤ on_at v.rotas.lists j q
  on-less j q = elim (cases_eq j i) [
    | inl e ↦ subst (λ (m : ℕ). on_at after.lists m q ≤ on_at v.rotas.lists m q) (sym e)
        (omega (
          arith,
          ap (λ (r : Rotation). on (in_order r) q) at_i,
          on-picked_le (need_at v.rotas) (backlog_has_frames v.backlog) (lists_at v.rotas.lists i) q,
        ))
    | inr other ↦ omega (arith, ap (λ (r : Rotation). on (in_order r) q) (at_other j other))
  ]

  on-same : (j q : ℕ) → 0 < depth v.backlog.queues q → on_at after.lists j q ≡ on_at v.rotas.lists j q
  on-same j q some = elim (cases_eq j i) [
    | inl e ↦ subst (λ (m : ℕ). on_at after.lists m q ≡ on_at v.rotas.lists m q) (sym e)
        (ap (λ (r : Rotation). on (in_order r) q) at_i
        ∙ on-picked (need_at v.rotas) (backlog_has_frames v.backlog) (lists_at v.rotas.lists i) q
        (some_ready q some))
    | inr other ↦ ap (λ (r : Rotation). on (in_order r) q) (at_other j other)
  ]

  rises : (q : ℕ) → deficit_at v.rotas.deficits q ≤ℤ deficit_at after.deficits q
  rises q = omega (arith, ints, p.deficits q)

  pub pick_keeps : AreFlowsKept (record v { rotas = after }) counts
  pick_keeps = kept_lists v counts ok after (ap length lists_are ∙ length-set v.rotas.lists i chosen.lists)
      on-less on-same p.keys p.quanta (λ q. omega (arith, ints, rises q, ok.sized.low q))

  raised : (q : ℕ) → q < length v.rotas.deficits →
      deficit_at after.deficits q ≡ deficit_at v.rotas.deficits q +ℤ pos (chosen.quanta q * v.flow_quantum)
  raised q below =
      p.deficits q ∙ ap (λ (x : Picked). deficit_at v.rotas.deficits q +ℤ pos
      (x.quanta q * quantum_at v.rotas.quanta q)) picks
      ∙ ap (λ (n : ℕ). deficit_at v.rotas.deficits q +ℤ pos (chosen.quanta q * n))
      (ok.sized.quanta q (omega (arith, below, ok.sized.deficits)))

  deficits_are : after.deficits ≡ with_quanta_paid chosen.quanta v.flow_quantum 0 v.rotas.deficits
  deficits_are = paid_is chosen.quanta v.flow_quantum v.rotas.deficits after.deficits p.keys raised

  abbrev rotas_of : List Rotation → List ℤ → List ℕ → FlowsValue
  rotas_of all ds qs = record v { rotas = record { lists = all; deficits = ds; quanta = qs } }

  pub pick_is : record v { rotas = after } ≡ after_pick v i
  unfolding after_pick
  pick_is =
      ap (λ (all : List Rotation). rotas_of all after.deficits after.quanta) lists_are
      ∙ ap (λ (ds : List ℤ). rotas_of (set v.rotas.lists i chosen.lists) ds after.quanta) deficits_are
      ∙ ap (rotas_of (set v.rotas.lists i chosen.lists)
      (with_quanta_paid chosen.quanta v.flow_quantum 0 v.rotas.deficits)) p.quanta

  pub pick_winner : won ≡ chosen.winner
  pick_winner = p.winner_is ∙ ap (λ (x : Picked). x.winner) picks

  pub pick_none : IfNone won (frames_of_tid v i ≡ 0)
  pick_none = go won refl
    where
      empty : chosen.winner ≡ None → (q : ℕ) → 0 < on_at v.rotas.lists i q → depth v.backlog.queues q ≡ 0
      empty e q at = elim (cases_lt 0 (depth v.backlog.queues q)) [
        | inl some ↦ absurd (omega (
          arith,
          at,
          none-picked (need_at v.rotas) (backlog_has_frames v.backlog)
              (lists_at v.rotas.lists i) q e (some_ready q some),
        ))
        | inr few ↦ omega arith
      ]

      go : (o : Option ℕ) → won ≡ o → IfNone o (frames_of_tid v i ≡ 0)
      go None e = none_waiting v.backlog.queues 0 (in_order (lists_at v.rotas.lists i))
          (empty (sym pick_winner ∙ e))
      go (Some q) e = tt

  ready_key : (q : ℕ) → won ≡ Some q → is_ready ready q ≡ true
  ready_key q e = subst (λ (o : Option ℕ). IfSome o (λ key. is_ready ready key ≡ true)) e p.is_ready

  listed_key : (q : ℕ) → won ≡ Some q → has_key (lists_at v.rotas.lists i) q ≡ true
  listed_key q e = subst (λ (o : Option ℕ). IfSome o (λ key. has_key (lists_at v.rotas.lists i) key ≡ true)) e
      p.listed

  frames_key : (q : ℕ) → won ≡ Some q → 0 < depth v.backlog.queues q
  frames_key q e = ltb-true 0 (length (frames_at v.backlog q))
      (sym (ap (λ (f : ℕ → Bool). f q) (ap is_ready ready_is ∙ flags_tell v.backlog)) ∙ ready_key q e)

  stays_key : (q : ℕ) → won ≡ Some q → 0 < on_at after.lists i q
  stays_key q e = omega (arith, on-same i q (frames_key q e), on-listed v i q (listed_key q e))

  positive_key : (q : ℕ) → won ≡ Some q → pos 0 <ℤ deficit_at after.deficits q
  positive_key q e =
      let below : q < v.flows + 8 * v.stations = ok.listed.apart.below i q
      (on-listed v i q (listed_key q e)) in
      let quantum : quantum_at v.rotas.quanta q ≡ v.flow_quantum = ok.sized.quanta q below in
      let gets : chosen.quanta q ≡ need_at v.rotas q =
      won_quanta (need_at v.rotas) (backlog_has_frames v.backlog) (lists_at v.rotas.lists i) q
      (sym pick_winner ∙ e) in
      let rise : deficit_at after.deficits q ≡ deficit_at v.rotas.deficits q +ℤ pos
      (need_of (quantum_at v.rotas.quanta q) (deficit_at v.rotas.deficits q) * quantum_at v.rotas.quanta
      q) =
      p.deficits q ∙ ap (λ (x : Picked). deficit_at v.rotas.deficits q +ℤ pos
      (x.quanta q * quantum_at v.rotas.quanta q)) picks
      ∙ ap (λ (n : ℕ). deficit_at v.rotas.deficits q +ℤ pos (n * quantum_at v.rotas.quanta q)) gets
      in
      subst (λ (d : ℤ). pos 0 <ℤ d) (sym rise) (lifted_above (deficit_at v.rotas.deficits q)
      (quantum_at v.rotas.quanta q) (omega (arith, quantum, ok.sized.positive)))

  pub pick_listed : IfSome won (λ q. is_listed (record v { rotas = after }) i q ≡ true)
  pick_listed = go won refl
    where
      go : (o : Option ℕ) → won ≡ o → IfSome o (λ q. has_key (lists_at after.lists i) q ≡ true)
      go None e = tt
      go (Some q) e = listed-some (lists_at after.lists i) q (stays_key q e)

  pub pick_positive : IfSome won (λ q. pos 0 <ℤ deficit_at after.deficits q)
  pick_positive = go won refl
    where
      go : (o : Option ℕ) → won ≡ o → IfSome o (λ q. pos 0 <ℤ deficit_at after.deficits q)
      go None e = tt
      go (Some q) e = positive_key q e

  pub pick_frames : IfSome won (λ q. 0 < length (frames_at v.backlog q))
  pick_frames = go won refl
    where
      go : (o : Option ℕ) → won ≡ o → IfSome o (λ q. 0 < length (frames_at v.backlog q))
      go None e = tt
      go (Some q) e = frames_key q e
