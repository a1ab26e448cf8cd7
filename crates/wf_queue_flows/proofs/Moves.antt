-- The private calls keep the invariant, and leave the flow queues of the definitions.
use Rattle.std.proofs.Common.{◌≡◌, ℕ, suc, ◌+◌, ◌*◌, ◌-◌, ◌^◌, ◌<◌, ◌≤◌, true, false, not, Some, List, [], ◌∷◌, ◌++◌, length, get_or, set, drop, refl, sym, ap, ap₂, ◌∙◌, subst, inl, inr, arith, length-append, length-drop, eq-eqb}
use Rattle.std.specs.Prelude.{ℤ, pos, negsuc, ◌-ℤ◌, ◌≤ℤ◌, ◌<ℤ◌, ◌==◌}
use Rattle.std.proofs.lemmas.Int.{ints}
use Rattle.std.proofs.lemmas.List.{get_or-set_same, get_or-set_other, get_or_read}
use Rattle.std.proofs.lemmas.Option.{slice_get_within}
use Rattle.std.proofs.lemmas.Bool.{cases_eq, both_ways, ne_eqb, or_left, or_right, cond-true, cond-false}
use Rattle.wf_frame.specs.Frames.{FrameValue}
use Rattle.wf_def_lists.specs.Table.{has}
use Rattle.wf_def_lists.specs.Lists.{on}
use Rattle.wf_def_rotation.specs.Rotation.{Rotation, no_keys, has_key, in_order, with_new_key}
use Rattle.wf_def_codel.specs.Codel.{Params}
use Rattle.wf_rotation.specs.declared.side.Side.{Side}
use Rattle.wf_rotation.specs.declared.side.Side.TheVariants.{New, Old}
use Rattle.wf_rotation.specs.Lists.{lists_at, on_at, has_on, side_of}
use Rattle.wf_rotation.specs.Rotas.{Rotas, deficit_at, quantum_at, IsUnlisted}
use Rattle.wf_law_rules.proofs.Lemmas.Counts.{on_order-none, on-append}
use Rattle.wf_queue_flows.specs.Backlog.{BacklogValue, frames_at, held_in_backlog, with_frames, backlog_when_listed, drops_at, given_at, backlog_after_take}
use Rattle.wf_queue_flows.specs.Flows.{FlowsValue, tids, queues, is_listed, is_listed_by_another, with_listed_queue, with_appended, frames_of_tid, frames_waiting}
use Rattle.wf_queue_flows.specs.Kept.{AreListed, AreFlowsKept, CanList}
use Rattle.wf_queue_flows.proofs.Owners.{listed_elsewhere, listed_nowhere_else, on-listed, listed-on}
use Rattle.wf_queue_flows.proofs.Keeps.{kept_frames, kept_deficit, kept_fresh, depth_counted, count_few}
use Rattle.wf_queue_flows.proofs.Waiting.{waiting-set}

-- a key of one of the two lists is listed
pub has_lists : (r : Rotation) (side : Side) (k : ℕ) → has (side_of r side) k ≡ true → has_key r k ≡ true
has_lists r New k is = or_left (has r.new k) (has r.old k) is
has_lists r Old k is = or_right (has r.new k) (has r.old k) is

module _ (v now : FlowsValue) (counts : List ℕ) (same : v ≡ now) (ok : AreFlowsKept v counts) where
  low_tid : (i : ℕ) → i < tids now → i < 8 * v.stations
  low_tid i low = subst (λ (w : FlowsValue). i < tids w) (sym same) low

  low_queue : (q : ℕ) → q < queues now → q < v.flows + 8 * v.stations
  low_queue q low = subst (λ (w : FlowsValue). q < queues w) (sym same) low

  read : (i x : ℕ) → i < tids now → x ≡ get_or counts i x → x ≡ get_or counts i 0
  read i x low is = get_or_read counts i x (omega (arith, ok.sized.tids, low_tid i low)) is 0

  stands : (i q : ℕ) → is_listed now i q ≡ true → 0 < on_at v.rotas.lists i q
  stands i q is = on-listed v i q (subst (λ (w : FlowsValue). is_listed w i q ≡ true) (sym same) is)

  -- ---- append

  pub append_fits : (i x : ℕ) → i < tids now → held_in_backlog now.backlog < now.backlog.room →
      x ≡ get_or counts i x → x + 1 < 2 ^ 32
  append_fits i x low room is =
      let free : held_in_backlog v.backlog < v.backlog.room =
      subst (λ (w : FlowsValue). held_in_backlog w.backlog < w.backlog.room) (sym same) room in
      omega (arith, read i x low is, count_few v counts ok i (low_tid i low), ok.sized.small_room)

  pub append_keeps : (i q x : ℕ) (f : FrameValue) (after : BacklogValue) → i < tids now → q < queues now →
      is_listed now i q ≡ true → x ≡ get_or counts i x →
      after ≡ with_frames v.backlog q (frames_at v.backlog q ++ f ∷ [])
      → AreFlowsKept (record v { backlog = after }) (set counts i (x + 1))
  append_keeps i q x f after low_i low_q is read_x pushed =
      kept_frames v counts ok after i q (x + 1) (frames_at v.backlog q ++ f ∷ [])
      (ap (λ (b : BacklogValue). b.queues) pushed) (ap (λ (b : BacklogValue). b.room) pushed)
      (low_tid i low_i) (low_queue q low_q) (stands i q is)
      (omega (arith, read i x low_i read_x, length-append (frames_at v.backlog q) (f ∷ [])))

  pub append_is : (q : ℕ) (f : FrameValue) (after : BacklogValue) →
      after ≡ with_frames v.backlog q (frames_at v.backlog q ++ f ∷ []) →
      record v { backlog = after } ≡ with_appended now q f
  append_is q f after pushed =
      ap (λ (b : BacklogValue). let w : FlowsValue = record v { backlog = b } in w) pushed
      ∙ ap (λ (w : FlowsValue). with_appended w q f) same

  -- ---- take_from

  below_key : (i q : ℕ) → is_listed now i q ≡ true → q < v.flows + 8 * v.stations
  below_key i q is = ok.listed.apart.below i q (stands i q is)

  pub take_fits : (i q x n clock : ℕ) (p : Params) (f : FrameValue) → i < tids now →
      is_listed now i q ≡ true → x ≡ get_or counts i x → n ≡ drops_at p clock v.backlog q →
      Some f ≡ given_at p clock v.backlog q → n + 1 ≤ x
  take_fits i q x n clock p f low is read_x dropped given = omega (
    arith,
    read i x low read_x,
    dropped,
    slice_get_within (frames_at v.backlog q) (drops_at p clock v.backlog q) f (sym given),
    depth_counted v counts ok i q (low_tid i low) (below_key i q is)
        (stands i q is),
  )

  -- the TID has fewer frames by the one that is given and those that are dropped
  pub take_counts : (i q n clock : ℕ) (p : Params) (f : FrameValue) (after : BacklogValue) (paid : Rotas) →
      i < tids now → is_listed now i q ≡ true → n ≡ drops_at p clock v.backlog q →
      Some f ≡ given_at p clock v.backlog q → after ≡ backlog_after_take p clock v.backlog q →
      paid.lists ≡ v.rotas.lists
      → frames_of_tid (record v { backlog = after; rotas = paid }) i + n + 1 ≡ frames_of_tid now i
  take_counts i q n clock p f after paid low is dropped given took lists =
      let xs : List FrameValue = drop (suc (drops_at p clock v.backlog q)) (frames_at v.backlog q) in
      let ks : List ℕ = in_order (lists_at v.rotas.lists i) in
      let one : on ks q ≡ 1 = omega (arith, ok.listed.apart.once i q, stands i q is) in
      let left : frames_of_tid (record v { backlog = after; rotas = paid }) i
      ≡ frames_waiting (set v.backlog.queues q xs) ks =
      ap₂ (λ (all : List (List FrameValue)) (ls : List Rotation).
      frames_waiting all (in_order (lists_at ls i)))
      (ap (λ (b : BacklogValue). b.queues) took) lists in
      omega (
        arith,
        left,
        dropped,
        rw one at (waiting-set v.backlog.queues q xs ks (omega (arith, below_key i q is, ok.sized.queues))),
        length-drop (suc (drops_at p clock v.backlog q)) (frames_at v.backlog q),
        slice_get_within (frames_at v.backlog q) (drops_at p clock v.backlog q) f (sym given),
        ap (λ (w : FlowsValue). frames_of_tid w i) same,
      )

  pub take_keeps : (i q x n len clock : ℕ) (p : Params) (f : FrameValue) (after : BacklogValue)
      (paid : Rotas) → i < tids now → is_listed now i q ≡ true → x ≡ get_or counts i x →
      n ≡ drops_at p clock v.backlog q → Some f ≡ given_at p clock v.backlog q →
      after ≡ backlog_after_take p clock v.backlog q
      → pos 0 <ℤ deficit_at now.rotas.deficits q → len ≤ 2304 →
      paid ≡ record v.rotas {
        deficits = set v.rotas.deficits q
            (deficit_at v.rotas.deficits q -ℤ pos len);
      } →
      AreFlowsKept (record v { backlog = after; rotas = paid }) (set counts i (x - n - 1))
  take_keeps i q x n len clock p f after paid low is read_x dropped given took positive few charged =
      kept_deficit (record v { backlog = after }) (set counts i (x - n - 1)) kept paid q
      (deficit_at v.rotas.deficits q -ℤ pos len) charged enough
    where
      xs : List FrameValue
      xs = drop (suc (drops_at p clock v.backlog q)) (frames_at v.backlog q)

      changed : after.queues ≡ set v.backlog.queues q xs
      changed = ap (λ (b : BacklogValue). b.queues) took

      low_q : q < v.flows + 8 * v.stations
      low_q = below_key i q is

      within : drops_at p clock v.backlog q < length (frames_at v.backlog q)
      within = slice_get_within (frames_at v.backlog q) (drops_at p clock v.backlog q) f (sym given)

      kept : AreFlowsKept (record v { backlog = after }) (set counts i (x - n - 1))
      kept = kept_frames v counts ok after i q (x - n - 1) xs changed
          (ap (λ (b : BacklogValue). b.room) took) (low_tid i low) low_q (stands i q is)
          (omega (
            arith,
            within,
            dropped,
            length-drop (suc (drops_at p clock v.backlog q)) (frames_at v.backlog q),
            take_fits i q x n clock p f low is read_x dropped given,
            read i x low read_x,
          ))

      above : pos 0 <ℤ deficit_at v.rotas.deficits q
      above = subst (λ (w : FlowsValue). pos 0 <ℤ deficit_at w.rotas.deficits q) (sym same) positive

      enough : negsuc 2302 ≤ℤ (deficit_at v.rotas.deficits q -ℤ pos len)
      enough = omega (arith, ints, above, few)

  -- ---- list_queue

  unlisted_off : (q : ℕ) → IsUnlisted v.rotas.lists q → (j : ℕ) → on_at v.rotas.lists j q ≡ 0
  unlisted_off q none j = on_order-none (lists_at v.rotas.lists j) q (none j)

  abbrev fresh : ℕ → ℕ → ℤ → Rotas
  fresh i q d = record v.rotas {
    lists = set v.rotas.lists i (with_new_key (lists_at v.rotas.lists i) q);
    deficits = set v.rotas.deficits q d;
  }

  -- only the frames and the room of the backlog matter
  same_frames : (u : FlowsValue) (b : BacklogValue) → b.queues ≡ u.backlog.queues →
      b.room ≡ u.backlog.room → AreFlowsKept u counts → AreFlowsKept (record u { backlog = b }) counts
  same_frames u b frames room k = record {
    sized = record {
      lists = k.sized.lists;
      deficits = k.sized.deficits;
      queues = ap (λ (all : List (List FrameValue)). length all) frames ∙ k.sized.queues;
      tids = k.sized.tids;
      some_limit = k.sized.some_limit;
      some_flows = k.sized.some_flows;
      few_flows = k.sized.few_flows;
      few_stations = k.sized.few_stations;
      small_room = subst (λ (n : ℕ). n ≤ 131072) (sym room) k.sized.small_room;
      positive = k.sized.positive;
      quanta = k.sized.quanta;
      low = k.sized.low;
    };
    listed = subst (λ (all : List (List FrameValue)). AreListed u.flows (u.flows + 8 * u.stations)
        u.rotas.lists all counts) (sym frames) k.listed;
  }

  pub list_keeps : (i q : ℕ) (after : Rotas) (b : BacklogValue) → i < tids now → q < queues now →
      CanList now i q → IsUnlisted v.rotas.lists q →
      after ≡ fresh i q (pos (quantum_at v.rotas.quanta q)) → b.queues ≡ v.backlog.queues →
      b.room ≡ v.backlog.room → AreFlowsKept (record v { backlog = b; rotas = after }) counts
  list_keeps i q after b low_i low_q can none is frames room =
      let own : v.flows ≤ q → q ≡ v.flows + i = subst (λ (w : FlowsValue). w.flows ≤ q → q ≡ w.flows + i)
      (sym same) can.overflow in
      same_frames (record v { rotas = after }) b frames room
      (kept_fresh v counts ok after i q (pos (quantum_at v.rotas.quanta q)) is (omega (arith, ints))
      (low_tid i low_i) (low_queue q low_q) (unlisted_off q none) own)

  pub list_is : (i q : ℕ) (after : Rotas) (b : BacklogValue) → q < queues now →
      IsUnlisted v.rotas.lists q → after ≡ fresh i q (pos (quantum_at v.rotas.quanta q)) →
      b ≡ backlog_when_listed v.codel_reset v.backlog q →
      record v { backlog = b; rotas = after } ≡ with_listed_queue now i q
  unfolding with_listed_queue
  list_is i q after b low_q none is started =
      ap (λ (x : BacklogValue). let w : FlowsValue = record v { backlog = x; rotas = after } in w) started
      ∙ ap (λ (r : Rotas). let w : FlowsValue = record v { backlog = calm; rotas = r } in w)
      (is ∙ ap (λ (n : ℕ). fresh i q (pos n)) (ok.sized.quanta q (low_queue q low_q)))
      ∙ sym (cond-false (is_listed v i q) v
      (record v { backlog = calm; rotas = fresh i q (pos v.flow_quantum) }) (none i))
      ∙ ap (λ (w : FlowsValue). with_listed_queue w i q) same
    where
      calm : BacklogValue
      calm = backlog_when_listed v.codel_reset v.backlog q

  pub list_stands : (i q : ℕ) (d : ℤ) (after : Rotas) → i < tids now → after ≡ fresh i q d →
      has_key (lists_at after.lists i) q ≡ true
  list_stands i q d after low is =
      ap (λ (r : Rotas). has_key (lists_at r.lists i) q) is
      ∙ ap (λ (r : Rotation). has_key r q) (get_or-set_same v.rotas.lists i
      (with_new_key (lists_at v.rotas.lists i) q) no_keys (omega (arith, ok.sized.lists, low_tid i low)))
      ∙ or_left (has ((lists_at v.rotas.lists i).new ++ q ∷ []) q) (has (lists_at v.rotas.lists i).old q)
      (has-last (lists_at v.rotas.lists i).new q)
    where
      has-last : (xs : List ℕ) (k : ℕ) → has (xs ++ k ∷ []) k ≡ true
      has-last [] k = or_left (k == k) false (eq-eqb k k refl)
      has-last (x ∷ xs) k = or_right (x == k) (has (xs ++ k ∷ []) k) (has-last xs k)

  -- a queue that was listed is listed still
  pub list_stays : (i q : ℕ) (d : ℤ) (after : Rotas) → i < tids now → after ≡ fresh i q d → (j k : ℕ) →
      is_listed now j k ≡ true → is_listed (record v { rotas = after }) j k ≡ true
  list_stays i q d after low is j k at =
      listed-on (record v { rotas = after }) j k
      (subst (λ (r : Rotas). 0 < on_at r.lists j k) (sym is) (elim (cases_eq j i) [
        | inl e ↦ subst (λ (r : Rotation). 0 < on (in_order r) k)
            (sym (ap (lists_at (set v.rotas.lists i more)) e
            ∙ get_or-set_same v.rotas.lists i more no_keys (omega (arith, ok.sized.lists, low_tid i low))))
            (grows (subst (λ (n : ℕ). 0 < on_at v.rotas.lists n k) e (stands j k at)))
        | inr other ↦ subst (λ (r : Rotation). 0 < on (in_order r) k)
            (sym (get_or-set_other v.rotas.lists i j more no_keys other)) (stands j k at)
      ]))
    where
      more : Rotation
      more = with_new_key (lists_at v.rotas.lists i) q

      grows : 0 < on_at v.rotas.lists i k → 0 < on (in_order more) k
      grows some = omega (
        arith,
        some,
        on-append (lists_at v.rotas.lists i).old (lists_at v.rotas.lists i).new k,
        on-append (lists_at v.rotas.lists i).old ((lists_at v.rotas.lists i).new ++ q ∷ []) k,
        on-append (lists_at v.rotas.lists i).new (q ∷ []) k,
      )

  pub listed_already : (i q place : ℕ) (side : Side) → CanList now i q →
      has_on v.rotas.lists place side q ≡ true → now ≡ with_listed_queue now i q
  unfolding with_listed_queue
  listed_already i q place side can is =
      let listed : is_listed v place q ≡ true = has_lists (lists_at v.rotas.lists place) side q is in
      let there : is_listed now place q ≡ true = subst
      (λ (w : FlowsValue). is_listed w place q ≡ true) same listed in
      let here : is_listed now i q ≡ true = ap (λ (j : ℕ). is_listed now j q) (sym (can.own place there))
      ∙ there in
      sym (cond-true (is_listed now i q) now _ here)

  -- ---- is_listed_by_another

  pub elsewhere_none : (i q : ℕ) → IsUnlisted v.rotas.lists q → false ≡ is_listed_by_another now i q
  elsewhere_none i q none = sym (listed_nowhere_else now i q
      (λ j is. absurd (both_ways (is_listed v j q) (none j)
      (subst (λ (w : FlowsValue). is_listed w j q ≡ true) (sym same) is))))

  pub elsewhere_some : (i q place : ℕ) (side : Side) → place < length v.rotas.lists →
      has_on v.rotas.lists place side q ≡ true → not (place == i) ≡ is_listed_by_another now i q
  elsewhere_some i q place side low is =
      let listed : is_listed v place q ≡ true = has_lists (lists_at v.rotas.lists place) side q is in
      let there : is_listed now place q ≡ true = subst
      (λ (w : FlowsValue). is_listed w place q ≡ true) same listed in
      let below : place < tids now = subst (λ (w : FlowsValue). place < tids w) same
      (omega (arith, low, ok.sized.lists)) in
      elim (cases_eq place i) [
        | inl e ↦ rw (eq-eqb place i e) (sym (listed_nowhere_else now i q
            (λ j at. ok.listed.apart.one_list j place q (stands j q at) (stands place q there) ∙ e)))
        | inr other ↦ rw (ne_eqb place i other) (sym (listed_elsewhere now i q place below other there))
      ]
