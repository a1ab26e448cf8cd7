-- The flow queues keep their invariant when one of their parts changes.
use Rattle.std.proofs.Common.{◌≡◌, ℕ, ◌+◌, ◌*◌, ◌<◌, ◌≤◌, List, length, get_or, set, refl, sym, ap, ◌∙◌, subst, inl, inr, arith, length-set}
use Rattle.std.specs.Prelude.{sum_by, ℤ, pos, negsuc, ◌≤ℤ◌}
use Rattle.std.proofs.lemmas.List.{get_or-set_same, get_or-set_other, set_past}
use Rattle.std.proofs.lemmas.Bool.{cases_eq, cases_lt}
use Rattle.wf_frame.specs.Frames.{FrameValue}
use Rattle.wf_def_rotation.specs.Rotation.{in_order, with_new_key}
use Rattle.wf_rotation.specs.Lists.{lists_at, on_at}
use Rattle.wf_rotation.specs.Rotas.{Rotas, deficit_at, quantum_at}
use Rattle.wf_queue_flows.specs.Backlog.{BacklogValue}
use Rattle.wf_queue_flows.specs.Flows.{FlowsValue, tids, frames_of_tid}
use Rattle.wf_queue_flows.specs.Kept.{depth, AreListed, AreFlowsKept}
use Rattle.wf_queue_flows.proofs.Waiting.{depth_within, waiting_few}
use Rattle.wf_queue_flows.proofs.Listing.{still_listed, frames_changed, newly_listed}

abbrev IsLow : ℤ → Type 0
IsLow x = negsuc 2302 ≤ℤ x

pub low-set : (ds : List ℤ) (q : ℕ) (d : ℤ) → ((k : ℕ) → negsuc 2302 ≤ℤ deficit_at ds k) → negsuc 2302 ≤ℤ d →
    (k : ℕ) → negsuc 2302 ≤ℤ deficit_at (set ds q d) k
low-set ds q d each here k = elim (cases_eq k q) [
  | inl e ↦ elim (cases_lt q (length ds)) [
    | inl low ↦ subst IsLow (sym (ap (deficit_at (set ds q d)) e ∙ get_or-set_same ds q d (pos 0) low)) here
    | inr past ↦ subst IsLow (ap (λ (xs : List ℤ). deficit_at xs k) (sym (set_past ds q d past))) (each k)
  ]
  | inr other ↦ subst IsLow (sym (get_or-set_other ds q k d (pos 0) other)) (each k)
]

module _ (v : FlowsValue) (counts : List ℕ) (ok : AreFlowsKept v counts) where
  -- the frames of a listed queue change
  pub kept_frames : (after : BacklogValue) (i q n : ℕ) (xs : List FrameValue) →
      after.queues ≡ set v.backlog.queues q xs → after.room ≡ v.backlog.room → i < 8 * v.stations →
      q < v.flows + 8 * v.stations → 0 < on_at v.rotas.lists i q
      → n + depth v.backlog.queues q ≡ get_or counts i 0 + length xs →
      AreFlowsKept (record v { backlog = after }) (set counts i n)
  kept_frames after i q n xs changed room low_i low_q here sum = record {
    sized = record {
      lists = ok.sized.lists;
      deficits = ok.sized.deficits;
      queues = ap length changed ∙ length-set v.backlog.queues q xs ∙ ok.sized.queues;
      tids = length-set counts i n ∙ ok.sized.tids;
      some_limit = ok.sized.some_limit;
      some_flows = ok.sized.some_flows;
      few_flows = ok.sized.few_flows;
      few_stations = ok.sized.few_stations;
      small_room = omega (arith, ok.sized.small_room);
      positive = ok.sized.positive;
      quanta = ok.sized.quanta;
      low = ok.sized.low;
    };
    listed = subst (λ (all : List (List FrameValue)).
        AreListed v.flows (v.flows + 8 * v.stations) v.rotas.lists all (set counts i n)) (sym changed)
        (frames_changed v.flows (v.flows + 8 * v.stations) v.rotas.lists v.backlog.queues counts ok.listed i q
        n xs (ok.sized.tids ∙ sym ok.sized.lists) (omega (arith, ok.sized.tids))
        (omega (arith, ok.sized.queues)) here sum);
  }

  -- keys without frames leave their lists, and deficits change
  pub kept_lists : (after : Rotas) → length after.lists ≡ length v.rotas.lists →
      ((i q : ℕ) → on_at after.lists i q ≤ on_at v.rotas.lists i q) →
      ((i q : ℕ) → 0 < depth v.backlog.queues q → on_at after.lists i q ≡ on_at v.rotas.lists i q)
      → length after.deficits ≡ length v.rotas.deficits → after.quanta ≡ v.rotas.quanta →
      ((q : ℕ) → negsuc 2302 ≤ℤ deficit_at after.deficits q) →
      AreFlowsKept (record v { rotas = after }) counts
  kept_lists after long less same keys quanta low = record {
    sized = record {
      lists = long ∙ ok.sized.lists;
      deficits = keys ∙ ok.sized.deficits;
      queues = ok.sized.queues;
      tids = ok.sized.tids;
      some_limit = ok.sized.some_limit;
      some_flows = ok.sized.some_flows;
      few_flows = ok.sized.few_flows;
      few_stations = ok.sized.few_stations;
      small_room = ok.sized.small_room;
      positive = ok.sized.positive;
      quanta = λ q below. ap (λ (qs : List ℕ). quantum_at qs q) quanta ∙ ok.sized.quanta q below;
      low = low;
    };
    listed = still_listed v.flows (v.flows + 8 * v.stations) v.rotas.lists v.backlog.queues counts ok.listed
        after.lists long less same;
  }

  -- the deficit of a queue changes
  pub kept_deficit : (after : Rotas) (q : ℕ) (d : ℤ) →
      after ≡ record v.rotas { deficits = set v.rotas.deficits q d } → negsuc 2302 ≤ℤ d →
      AreFlowsKept (record v { rotas = after }) counts
  kept_deficit after q d is low = subst (λ (r : Rotas). AreFlowsKept (record v { rotas = r }) counts) (sym is)
      (kept_lists (record v.rotas { deficits = set v.rotas.deficits q d }) refl (λ i k. omega arith)
      (λ i k some. refl) (length-set v.rotas.deficits q d) refl
      (low-set v.rotas.deficits q d ok.sized.low low))

  -- a queue that no TID lists is listed with a fresh deficit
  pub kept_fresh : (after : Rotas) (i q : ℕ) (d : ℤ) →
      after ≡ record v.rotas {
        lists = set v.rotas.lists i (with_new_key (lists_at v.rotas.lists i) q);
        deficits = set v.rotas.deficits q d;
      } → negsuc 2302 ≤ℤ d
      → i < 8 * v.stations → q < v.flows + 8 * v.stations → ((j : ℕ) → on_at v.rotas.lists j q ≡ 0) →
      (v.flows ≤ q → q ≡ v.flows + i) → AreFlowsKept (record v { rotas = after }) counts
  kept_fresh after i q d is low low_i low_q off own =
      subst (λ (r : Rotas). AreFlowsKept (record v { rotas = r }) counts) (sym is) (record {
        sized = record {
          lists = length-set v.rotas.lists i (with_new_key (lists_at v.rotas.lists i) q) ∙ ok.sized.lists;
          deficits = length-set v.rotas.deficits q d ∙ ok.sized.deficits;
          queues = ok.sized.queues;
          tids = ok.sized.tids;
          some_limit = ok.sized.some_limit;
          some_flows = ok.sized.some_flows;
          few_flows = ok.sized.few_flows;
          few_stations = ok.sized.few_stations;
          small_room = ok.sized.small_room;
          positive = ok.sized.positive;
          quanta = ok.sized.quanta;
          low = low-set v.rotas.deficits q d ok.sized.low low;
        };
        listed = newly_listed v.flows (v.flows + 8 * v.stations) v.rotas.lists v.backlog.queues counts ok.listed i
            q (omega (arith, ok.sized.lists)) off low_q own (empty q off);
      })
    where
      empty : (k : ℕ) → ((j : ℕ) → on_at v.rotas.lists j k ≡ 0) → depth v.backlog.queues k ≡ 0
      empty k none = elim (cases_lt 0 (depth v.backlog.queues k)) [
        | inl some ↦ absurd (let l : (i : ℕ) × (i < length v.rotas.lists) ×
            (0 < on_at v.rotas.lists i k) = ok.listed.listed k some in omega (arith, l.2, none l.0))
        | inr few ↦ omega arith
      ]

  -- a queue that no TID lists has no frame
  pub unlisted_empty : (k : ℕ) → ((j : ℕ) → on_at v.rotas.lists j k ≡ 0) → depth v.backlog.queues k ≡ 0
  unlisted_empty k none = elim (cases_lt 0 (depth v.backlog.queues k)) [
    | inl some ↦ absurd (let l : (i : ℕ) × (i < length v.rotas.lists) ×
        (0 < on_at v.rotas.lists i k) = ok.listed.listed k some in omega (arith, l.2, none l.0))
    | inr few ↦ omega arith
  ]

  -- a listed queue has at most the frames that its TID counts
  pub depth_counted : (i q : ℕ) → i < 8 * v.stations → q < v.flows + 8 * v.stations →
      0 < on_at v.rotas.lists i q → depth v.backlog.queues q ≤ get_or counts i 0
  depth_counted i q low_i low_q here =
      let one : on_at v.rotas.lists i q ≡ 1 = omega (arith, ok.listed.apart.once i q) in
      omega (
        arith,
        ok.listed.counted i (omega (arith, ok.sized.tids)),
        depth_within v.backlog.queues q (in_order (lists_at v.rotas.lists i))
            (omega (arith, ok.sized.queues)) one,
      )

  -- and no TID counts more than there are
  pub count_few : (i : ℕ) → i < 8 * v.stations → get_or counts i 0 ≤ sum_by length v.backlog.queues
  count_few i low = omega (
    arith,
    ok.listed.counted i (omega (arith, ok.sized.tids)),
    waiting_few v.backlog.queues (in_order (lists_at v.rotas.lists i)) (ok.listed.apart.once i),
  )

-- the count of a TID is the number of frames in its queues
pub frames_counted : (v now : FlowsValue) (counts : List ℕ) (i : ℕ) → v ≡ now → AreFlowsKept v counts →
    i < tids now → get_or counts i 0 ≡ frames_of_tid now i
frames_counted v now counts i same ok low =
    ok.listed.counted i (omega (arith, low, ok.sized.tids, ap (λ (w : FlowsValue). w.stations) same))
    ∙ ap (λ (w : FlowsValue). frames_of_tid w i) same
