-- A head drop and the purge of a queue keep the invariant; the queue for a frame is the one of the
-- definition.
use Rattle.std.proofs.Common.{◌≡◌, ℕ, ◌+◌, ◌*◌, ◌-◌, ◌<◌, ◌≤◌, true, false, not, List, ◌^◌, [], ◌∷◌, ◌++◌, length, get_or, set, drop, map, refl, sym, ap, ◌∙◌, subst, inl, inr, arith, length-drop, length-set, eq-eqb}
use Rattle.std.specs.Prelude.{◌==◌, ◌%◌}
use Rattle.std.proofs.lemmas.List.{get_or-map, get_or_past, length-map, get_or_read, get_or_default, get_or-set_same, get_or-set_other, nil_from_length}
use Rattle.std.proofs.lemmas.Bool.{cases_eq, cases_lt, cases_Bool, both_ways, ne_eqb}
use Rattle.wf_frame.specs.Frames.{FrameValue}
use Rattle.wf_frame.specs.declared.classes.Cause.{Cause}
use Rattle.wf_def_codel.specs.Codel.{Codel}
use Rattle.wf_def_rotation.specs.Rotation.{Rotation, no_keys, in_order, without_key}
use Rattle.wf_def_lists.specs.Lists.{on}
use Rattle.wf_rotation.specs.declared.side.Side.{Side}
use Rattle.wf_rotation.specs.Lists.{lists_at, on_at, has_on}
use Rattle.wf_rotation.specs.Rotas.{Rotas, IsUnlisted}
use Rattle.wf_law_rules.proofs.Lemmas.Counts.{on_order-none}
use Rattle.wf_law_rules.proofs.Lemmas.Counts.{on-nil, on-append}
use Rattle.wf_queue_flows.specs.Backlog.{BacklogValue, frames_at, held_in_backlog, with_frames, after_head_drop, after_emptying}
use Rattle.wf_queue_flows.specs.Flows.{FlowsValue, tids, queues, is_listed, is_listed_by_another}
use Rattle.wf_queue_flows.specs.Kept.{depth, AreFlowsKept, CanList}
use Rattle.wf_queue_flows.proofs.Flags.{changed_at}
use Rattle.wf_queue_flows.proofs.Picks.{on-filter, on-filter_le, on-filter_out}
use Rattle.wf_queue_flows.proofs.Owners.{listed_elsewhere, on-listed}
use Rattle.wf_queue_flows.proofs.Keeps.{kept_frames, kept_lists, unlisted_empty, depth_counted}
use Rattle.wf_queue_flows.proofs.Moves.{has_lists, append_fits, append_keeps}

none-others : (k y : ℕ) → (y ≡ k → ⊥) → not (y == k) ≡ true
none-others k y other = rw (ne_eqb y k other) refl

none-self : (k : ℕ) → not (k == k) ≡ false
none-self k = rw (eq-eqb k k refl) refl

-- a key that is taken out of a rotation
on-without_self : (r : Rotation) (k : ℕ) → on (in_order (without_key r k)) k ≡ 0
on-without_self r k =
    omega (
      arith,
      on-append (without_key r k).old (without_key r k).new k,
      on-filter_out (λ y. not (y == k)) r.new k (none-self k),
      on-filter_out (λ y. not (y == k)) r.old k (none-self k),
    )

on-without_other : (r : Rotation) (k y : ℕ) → (y ≡ k → ⊥) →
    on (in_order (without_key r k)) y ≡ on (in_order r) y
on-without_other r k y other =
    omega (
      arith,
      on-append (without_key r k).old (without_key r k).new y,
      on-append r.old r.new y,
      on-filter (λ x. not (x == k)) r.new y (none-others k y other),
      on-filter (λ x. not (x == k)) r.old y (none-others k y other),
    )

on-without_le : (r : Rotation) (k y : ℕ) → on (in_order (without_key r k)) y ≤ on (in_order r) y
on-without_le r k y =
    omega (
      arith,
      on-append (without_key r k).old (without_key r k).new y,
      on-append r.old r.new y,
      on-filter_le (λ x. not (x == k)) r.new y,
      on-filter_le (λ x. not (x == k)) r.old y,
    )

abbrev pub all_without : List Rotation → ℕ → List Rotation
all_without all k = map (λ r. without_key r k) all

pub at-without : (all : List Rotation) (k j : ℕ) →
    lists_at (all_without all k) j ≡ without_key (lists_at all j) k
at-without all k j = elim (cases_lt j (length all)) [
  | inl low ↦ get_or-map (λ r. without_key r k) all j no_keys no_keys low
  | inr past ↦ get_or_past (all_without all k) j no_keys
      (omega (arith, length-map all (λ r. without_key r k)))
      ∙ sym (ap (λ (r : Rotation). without_key r k) (get_or_past all j no_keys past))
]

module _ (v now : FlowsValue) (counts : List ℕ) (same : v ≡ now) (ok : AreFlowsKept v counts) where
  low_queue : (q : ℕ) → q < queues now → q < v.flows + 8 * v.stations
  low_queue q low = subst (λ (w : FlowsValue). q < queues w) (sym same) low

  low_place : (place : ℕ) → place < length v.rotas.lists → place < 8 * v.stations
  low_place place low = omega (arith, low, ok.sized.lists)

  read : (i x : ℕ) → i < length v.rotas.lists → x ≡ get_or counts i x → x ≡ get_or counts i 0
  read i x low is = get_or_read counts i x (omega (arith, ok.sized.tids, low, ok.sized.lists)) is 0

  stands : (q place : ℕ) (side : Side) → has_on v.rotas.lists place side q ≡ true →
      0 < on_at v.rotas.lists place q
  stands q place side is = on-listed v place q (has_lists (lists_at v.rotas.lists place) side q is)

  on_now : (j q : ℕ) → is_listed now j q ≡ true → 0 < on_at v.rotas.lists j q
  on_now j q is = on-listed v j q (subst (λ (w : FlowsValue). is_listed w j q ≡ true) (sym same) is)

  -- ---- exchange

  module _ (q x place : ℕ) (low_q : q < queues now) (low_i : place < tids now)
      (is : is_listed now place q ≡ true) (some_now : 0 < length (frames_at now.backlog q))
      (read_x : x ≡ get_or counts place x) where
    low : place < 8 * v.stations
    low = subst (λ (w : FlowsValue). place < tids w) (sym same) low_i

    some : 0 < length (frames_at v.backlog q)
    some = subst (λ (w : FlowsValue). 0 < length (frames_at w.backlog q)) (sym same) some_now

    pub drop_fits : 1 ≤ x
    drop_fits = omega (
      arith,
      some,
      read place x (omega (arith, low, ok.sized.lists)) read_x,
      depth_counted v counts ok place q low (low_queue q low_q) (on_now place q is),
    )

    abbrev dropped : FlowsValue
    dropped = record v { backlog = after_head_drop v.backlog q }

    drop_keeps : AreFlowsKept dropped (set counts place (x - 1))
    drop_keeps =
        kept_frames v counts ok (after_head_drop v.backlog q) place q (x - 1) (drop 1 (frames_at v.backlog q))
        refl refl low (low_queue q low_q) (on_now place q is)
        (omega (
          arith,
          drop_fits,
          some,
          read place x (omega (arith, low, ok.sized.lists)) read_x,
          length-drop 1 (frames_at v.backlog q),
        ))

    fewer : (i : ℕ) → get_or (set counts place (x - 1)) i 0 ≤ get_or counts i 0
    fewer i = elim (cases_eq i place) [
      | inl e ↦ omega (
        arith,
        ap (λ (n : ℕ). get_or (set counts place (x - 1)) n 0) e,
        ap (λ (n : ℕ). get_or counts n 0) e,
        get_or-set_same counts place (x - 1) 0 (omega (arith, low, ok.sized.tids)),
        read place x (omega (arith, low, ok.sized.lists)) read_x,
      )
      | inr other ↦ omega (arith, get_or-set_other counts place i (x - 1) 0 other)
    ]

    pub exchange_fits : (i y : ℕ) → i < tids now → held_in_backlog now.backlog < now.backlog.room →
        y ≡ get_or (set counts place (x - 1)) i y → y + 1 < 2 ^ 32
    exchange_fits i y low_y room is_y =
        let here : i < 8 * v.stations = subst (λ (w : FlowsValue). i < tids w) (sym same) low_y in
        omega (
          arith,
          fewer i,
          get_or_read (set counts place (x - 1)) i y
              (omega (arith, here, ok.sized.tids, length-set counts place (x - 1))) is_y 0,
          append_fits v now counts same ok i (get_or counts i 0) low_y room
              (get_or_default counts i 0 (get_or counts i 0) (omega (arith, here, ok.sized.tids))),
        )

    pub exchange_keeps : (i k y : ℕ) (f : FrameValue) (after : BacklogValue) → i < tids now → k < queues now →
        is_listed now i k ≡ true → y ≡ get_or (set counts place (x - 1)) i y →
        after ≡ with_frames (after_head_drop v.backlog q) k
        (frames_at (after_head_drop v.backlog q) k ++ f ∷ [])
        → AreFlowsKept (record v { backlog = after }) (set (set counts place (x - 1)) i (y + 1))
    exchange_keeps i k y f after low_y low_k listed read_y exchanged =
        append_keeps dropped dropped (set counts place (x - 1)) refl drop_keeps i k y f after
        (subst (λ (w : FlowsValue). i < tids w) (sym same) low_y)
        (subst (λ (w : FlowsValue). k < queues w) (sym same) low_k)
        (subst (λ (w : FlowsValue). is_listed w i k ≡ true) (sym same) listed) read_y exchanged

  -- ---- over_limit

  no_frames : (q : ℕ) → IsUnlisted v.rotas.lists q → frames_at v.backlog q ≡ []
  no_frames q none = nil_from_length (frames_at v.backlog q)
      (unlisted_empty v counts ok q (λ j. on_order-none (lists_at v.rotas.lists j) q (none j)))

  -- a queue with frames is listed
  pub not_unlisted : (q : ℕ) → IsUnlisted v.rotas.lists q → 0 < length (frames_at v.backlog q) → ⊥
  not_unlisted q none some = omega (arith, some, ap length (no_frames q none))

  pub owner_is : (q place : ℕ) (side : Side) → has_on v.rotas.lists place side q ≡ true → (i : ℕ) →
      is_listed now i q ≡ true → i ≡ place
  owner_is q place side there i is =
      ok.listed.apart.one_list i place q (on_now i q is) (stands q place side there)

  -- ---- lists

  now_listed : (i q : ℕ) → is_listed v i q ≡ is_listed now i q
  now_listed i q = ap (λ (w : FlowsValue). is_listed w i q) same

  -- it is listed by the TID of its place alone
  pub lists_same : (i q place : ℕ) (side : Side) → has_on v.rotas.lists place side q ≡ true →
      (place == i) ≡ is_listed now i q
  lists_same i q place side there = elim (cases_eq place i) [
    | inl e ↦ eq-eqb place i e ∙ sym (has_lists (lists_at v.rotas.lists place) side q there)
        ∙ now_listed place q ∙ ap (λ (j : ℕ). is_listed now j q) e
    | inr other ↦ ne_eqb place i other ∙ elim (cases_Bool (is_listed now i q)) [
      | inl is ↦ absurd (other (sym (owner_is q place side there i is)))
      | inr fails ↦ sym fails
    ]
  ]

  -- ---- purge_queue

  module _ (i q x gone : ℕ) (low : i < tids now) (is : is_listed now i q ≡ true)
      (read_x : x ≡ get_or counts i x) (count : gone ≡ depth v.backlog.queues q) where
    low_i : i < length v.rotas.lists
    low_i = omega (arith, ap (λ (w : FlowsValue). tids w) same, ok.sized.lists)

    stands_i : 0 < on_at v.rotas.lists i q
    stands_i = on_now i q is

    low_q : q < v.flows + 8 * v.stations
    low_q = ok.listed.apart.below i q stands_i

    pub purge_fits : gone ≤ x
    purge_fits = omega (
      arith,
      count,
      read i x low_i read_x,
      depth_counted v counts ok i q (low_place i low_i) low_q stands_i,
    )

    module _ (cause : Cause) (codel : Codel → Codel) (after : BacklogValue)
        (emptied : after ≡ after_emptying cause codel v.backlog q) where
      changed : after.queues ≡ set v.backlog.queues q []
      changed = ap (λ (b : BacklogValue). b.queues) emptied

      empty : depth after.queues q ≡ 0
      empty = ap length (changed_at v.backlog after q [] (omega (arith, low_q, ok.sized.queues)) changed)

      pub empty_keeps : AreFlowsKept (record v { backlog = after }) (set counts i (x - gone))
      empty_keeps = kept_frames v counts ok after i q (x - gone) [] changed
          (ap (λ (b : BacklogValue). b.room) emptied) (low_place i low_i) low_q stands_i
          (omega (arith, purge_fits, count, read i x low_i read_x))

      pub purge_keeps : (rotas : Rotas) → rotas ≡ record v.rotas { lists = all_without v.rotas.lists q } →
          AreFlowsKept (record v { backlog = after; rotas = rotas }) (set counts i (x - gone))
      purge_keeps rotas removed =
          subst (λ (r : Rotas). AreFlowsKept (record v { backlog = after; rotas = r })
          (set counts i (x - gone))) (sym removed)
          (kept_lists (record v { backlog = after }) (set counts i (x - gone)) empty_keeps
          (record v.rotas { lists = all_without v.rotas.lists q })
          (length-map v.rotas.lists (λ r. without_key r q))
          (λ j k. omega (
            arith,
            ap (λ (r : Rotation). on (in_order r) k) (at-without v.rotas.lists q j),
            on-without_le (lists_at v.rotas.lists j) q k,
          ))
          (λ j k some. ap (λ (r : Rotation). on (in_order r) k) (at-without v.rotas.lists q j)
          ∙ on-without_other (lists_at v.rotas.lists j) q k
          (λ e. omega (arith, ap (depth after.queues) e, empty)))
          refl refl ok.sized.low)

  -- ---- the queue for a frame: the code reads `flows` from the fields

  flows_same : v.flows ≡ now.flows
  flows_same = ap (λ (w : FlowsValue). w.flows) same

  pub can_overflow : (i q : ℕ) → q ≡ v.flows + i → CanList now i q
  can_overflow i q e = record {
    own = λ j is. (let at : q ≡ v.flows + j = ok.listed.overflow j q (on_now j q is) (omega arith) in
        omega arith);
    overflow = λ past. omega (arith, e, flows_same);
  }

  pub can_share : (i flow : ℕ) → is_listed_by_another now i (flow % v.flows) ≡ false →
      CanList now i (flow % v.flows)
  can_share i flow is = record {
    own = λ j at. own_is j at;
    overflow = λ past. absurd (omega (arith, flows_same, below));
  }
    where
      below : flow % v.flows < v.flows
      below = omega (arith, ok.sized.some_flows)

      low_tid : (j : ℕ) → is_listed now j (flow % v.flows) ≡ true → j < tids now
      low_tid j at = elim (cases_lt j (tids now)) [
        | inl low ↦ low
        | inr past ↦ absurd (
            let stations : v.stations ≡ now.stations = ap (λ (w : FlowsValue). w.stations) same in
            let none : on_at v.rotas.lists j (flow % v.flows) ≡ on [] (flow % v.flows) =
            ap (λ (r : Rotation). on (in_order r) (flow % v.flows))
            (get_or_past v.rotas.lists j no_keys (omega (arith, ok.sized.lists))) in
            omega (arith, on_now j (flow % v.flows) at, on-nil (flow % v.flows)))
      ]

      own_is : (j : ℕ) → is_listed now j (flow % v.flows) ≡ true → j ≡ i
      own_is j at = elim (cases_eq j i) [
        | inl e ↦ e
        | inr other ↦ absurd (both_ways (is_listed_by_another now i (flow % v.flows)) is
            (listed_elsewhere now i (flow % v.flows) j (low_tid j at) other at))
      ]
