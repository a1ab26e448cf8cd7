-- New flow queues satisfy the invariant, since all queues are empty and no queue is listed.
use Rattle.std.proofs.Common.{◌≡◌, ℕ, zero, suc, ◌+◌, ◌*◌, Bool, false, List, [], ◌∷◌, None, length, map, replicate, refl, sym, ap, ◌∙◌, subst, inl, inr, arith}
use Rattle.std.specs.Prelude.{pos, negsuc, ◌≤ℤ◌}
use Rattle.std.proofs.lemmas.Int.{ints}
use Rattle.std.proofs.lemmas.List.{get_or-replicate, get_or_past, length-replicate}
use Rattle.std.proofs.lemmas.List.Folds.{sum_by-replicate}
use Rattle.std.proofs.lemmas.Bool.{cases_lt}
use Rattle.wf_frame.specs.Frames.{FrameValue}
use Rattle.wf_frame.specs.declared.settings.Config.{Config}
use Rattle.wf_frame.specs.Settings.{first_out_of_range, IsInRange}
use Rattle.wf_frame.proofs.Ranges.{in_range}
use Rattle.wf_def_rotation.specs.Rotation.{Rotation, no_keys, in_order}
use Rattle.wf_def_lists.specs.Lists.{on}
use Rattle.wf_rotation.specs.Lists.{lists_at, on_at}
use Rattle.wf_rotation.specs.Rotas.{Rotas, deficit_at}
use Rattle.wf_law_rules.proofs.Lemmas.Counts.{on-nil}
use Rattle.wf_queue_flows.specs.Backlog.{BacklogValue, held_in_backlog, is_some_frame}
use Rattle.wf_queue_flows.specs.Flows.{empty_flows, frames_waiting}
use Rattle.wf_queue_flows.specs.Kept.{depth, AreListed, AreFlowsKept}

pub no_flags : (n : ℕ) → replicate {A = Bool} n false ≡ map is_some_frame (replicate n [])
no_flags zero = refl
no_flags (suc n) = ap (λ (bs : List Bool). false ∷ bs) (no_flags n)

at_fresh : (n l : ℕ) → lists_at (replicate n no_keys) l ≡ no_keys
at_fresh n l = elim (cases_lt l n) [
  | inl low ↦ get_or-replicate n l no_keys no_keys low
  | inr past ↦ get_or_past (replicate n no_keys) l no_keys (omega (arith, length-replicate n no_keys))
]

off_fresh : (n l q : ℕ) → on_at (replicate n no_keys) l q ≡ 0
off_fresh n l q = ap (λ (r : Rotation). on (in_order r) q) (at_fresh n l) ∙ on-nil q

empty_fresh : (n q : ℕ) → depth (replicate n []) q ≡ 0
empty_fresh n q = elim (cases_lt q n) [
  | inl low ↦ ap length (get_or-replicate {A = List FrameValue} n q [] [] low)
  | inr past ↦ ap length (get_or_past {X = List FrameValue} (replicate n []) q []
      (omega (arith, length-replicate {A = List FrameValue} n [])))
]

low_fresh : (n quantum q : ℕ) → negsuc 2302 ≤ℤ deficit_at (replicate n (pos quantum)) q
low_fresh n quantum q = elim (cases_lt q n) [
  | inl low ↦ rw (get_or-replicate n q (pos quantum) (pos 0) low) (omega (arith, ints))
  | inr past ↦ rw (get_or_past (replicate n (pos quantum)) q (pos 0)
      (omega (arith, length-replicate n (pos quantum)))) (omega (arith, ints))
]

listed_fresh : (flows keys tids n : ℕ) → AreListed flows keys (replicate tids no_keys) (replicate n [])
    (replicate tids 0)
listed_fresh flows keys tids n = record {
  apart = record {
    once = λ l q. omega (arith, off_fresh tids l q);
    one_list = λ i j q at_i at_j. absurd (omega (arith, off_fresh tids i q));
    below = λ l q at. absurd (omega (arith, off_fresh tids l q));
  };
  overflow = λ i q at past. absurd (omega (arith, off_fresh tids i q));
  listed = λ q some. absurd (omega (arith, empty_fresh n q));
  counted = λ i low. get_or-replicate {A = ℕ} tids i 0 0 (omega (arith, low, length-replicate {A = ℕ} tids 0))
      ∙ sym (ap (λ (r : Rotation). frames_waiting (replicate n []) (in_order r)) (at_fresh tids i));
}

pub kept_fresh_flows : (c : Config) → first_out_of_range c ≡ None →
    AreFlowsKept (empty_flows c) (replicate (8 * c.stations) 0)
kept_fresh_flows c none =
    let ok : IsInRange c = in_range c none in
    record {
      sized = record {
        lists = length-replicate (8 * c.stations) no_keys;
        deficits = length-replicate (c.flows + 8 * c.stations) (pos c.flow_quantum);
        queues = length-replicate {A = List FrameValue} (c.flows + 8 * c.stations) [];
        tids = length-replicate {A = ℕ} (8 * c.stations) 0;
        some_limit = ok.limit.0;
        some_flows = ok.flows.0;
        few_flows = ok.flows.1;
        few_stations = ok.stations.1;
        small_room = ok.room.1;
        positive = omega (arith, ok.flow_quantum.0);
        quanta = λ q low. get_or-replicate {A = ℕ} (c.flows + 8 * c.stations) q c.flow_quantum 1 low;
        low = low_fresh (c.flows + 8 * c.stations) c.flow_quantum;
      };
      listed = listed_fresh c.flows (c.flows + 8 * c.stations) (8 * c.stations) (c.flows + 8 * c.stations);
    }

pub kept_new : (c : Config) (backlog : BacklogValue) (rotas : Rotas) (counts : List ℕ) →
    first_out_of_range c ≡ None → backlog ≡ (empty_flows c).backlog → rotas ≡ (empty_flows c).rotas →
    counts ≡ replicate {A = ℕ} (8 * c.stations) 0
    → AreFlowsKept (record (empty_flows c) { backlog = backlog; rotas = rotas }) counts
kept_new c backlog rotas counts none same_b same_r same_c =
    subst (λ (b : BacklogValue). AreFlowsKept (record (empty_flows c) { backlog = b; rotas = rotas }) counts)
    (sym same_b)
    (subst (λ (r : Rotas). AreFlowsKept (record (empty_flows c) { rotas = r }) counts) (sym same_r)
    (subst (λ (ns : List ℕ). AreFlowsKept (empty_flows c) ns) (sym same_c) (kept_fresh_flows c none)))

pub held_fresh : (c : Config) → held_in_backlog (empty_flows c).backlog ≡ 0
held_fresh c = omega (arith, sum_by-replicate {X = List FrameValue} length (c.flows + 8 * c.stations) [])
