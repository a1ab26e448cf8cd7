-- Proves that the new flow queues agree with the opening world, since all queues are empty and no TID
-- lists any.
use Rattle.std.proofs.Common.{◌≡◌, refl, ap, sym, subst, ◌∙◌, arith, ℕ, ◌+◌, ◌*◌, List, [], map, get_or, replicate, inl, inr}
use Rattle.std.specs.Prelude.{sum_by, pos, All}
use Rattle.std.proofs.lemmas.List.Elements.{All-nil}
use Rattle.std.proofs.lemmas.List.{get_or-replicate, get_or_past, length-replicate}
use Rattle.std.proofs.lemmas.List.Folds.{sum_by-replicate}
use Rattle.std.proofs.lemmas.Bool.{cases_lt}
use Rattle.wf_frame.specs.declared.settings.Config.{Config}
use Rattle.wf_frame.specs.Settings.{IsInRange}
use Rattle.wf_frame.specs.Frames.{FrameValue}
use Rattle.wf_def_codel.specs.Codel.{new_codel}
use Rattle.wf_def_rotation.specs.Rotation.{Rotation, no_keys, has_key, in_order}
use Rattle.wf_def_world.specs.World.{opening, flow_of, no_frame}
use Rattle.wf_queue_flows.specs.Backlog.{frames_at, item_of}
use Rattle.wf_queue_flows.specs.Flows.{tid_rotation, empty_flows}
use Rattle.wf_def_lists.specs.Lists.{on}
use Rattle.wf_law_rules.proofs.Lemmas.Counts.{on-nil}
use Rattle.wf_queue_flows_refines.specs.Standing.{ids, times_held, FlowsStandFor}

-- every entry of a list of equal entries is that entry, also past the end if it is the default
pub read_replicate : {X : Type 0} (n k : ℕ) (x : X) → get_or (replicate n x) k x ≡ x
read_replicate {X} n k x = elim (cases_lt k n) [
  | inl low ↦ get_or-replicate n k x x low
  | inr past ↦ get_or_past (replicate n x) k x (omega (arith, past, length-replicate n x))
]

module _ (c : Config) where
  pub no_frames : (q : ℕ) → frames_at (empty_flows c).backlog q ≡ []
  no_frames q = read_replicate {X = List FrameValue} (c.flows + 8 * c.stations) q []

  nothing_listed : (i : ℕ) → tid_rotation (empty_flows c) i ≡ no_keys
  nothing_listed i = read_replicate (8 * c.stations) i no_keys

  none_held : (id : ℕ) → times_held (empty_flows c).backlog id ≡ 0
  none_held id =
      let n : ℕ = c.flows + 8 * c.stations in
      let none : n * on (ids []) id ≡ n * 0 = ap (λ (m : ℕ). n * m) (on-nil id) in
      let sum : sum_by (λ (frames : List FrameValue). on (ids frames) id) (replicate n []) ≡ 0 =
      sum_by-replicate (λ (frames : List FrameValue). on (ids frames) id) n [] ∙ none ∙ omega arith in
      omega (arith, sum, on-nil id)

  pub stands_opening : IsInRange c → FlowsStandFor (empty_flows c) (opening c)
  stands_opening range = record {
    sized = record {
      lists = length-replicate (8 * c.stations) no_keys;
      deficits = length-replicate (c.flows + 8 * c.stations) (pos c.flow_quantum);
      queues = length-replicate {A = List FrameValue} (c.flows + 8 * c.stations) [];
      codels = length-replicate (c.flows + 8 * c.stations) new_codel;
      some_flows = omega (arith, range.flows.0);
      quanta = λ q low. get_or-replicate (c.flows + 8 * c.stations) q c.flow_quantum 1 low;
    };
    settings = refl;
    items = λ q. ap (map item_of) (sym (no_frames q));
    codels = λ q. sym (read_replicate (c.flows + 8 * c.stations) q new_codel);
    lists = λ s t low_s low_t. sym (nothing_listed (8 * s + t));
    once = λ i q. omega (arith, ap (λ (r : Rotation). on (in_order r) q) (nothing_listed i), on-nil q);
    below = λ i q h. absurd (cc (ap (λ (r : Rotation). has_key r q) (nothing_listed i), h));
    deficits = λ i q h. absurd (cc (ap (λ (r : Rotation). has_key r q) (nothing_listed i), h));
    finished = refl;
    fates = refl;
    accepted = λ id h. absurd (omega (arith, h, none_held id));
    held_once = λ id. omega (arith, none_held id);
    flows = λ q. subst (All (λ (f : FrameValue). flow_of no_frame.note ≡ f.flow)) (sym (no_frames q))
        (All-nil (λ (f : FrameValue). flow_of no_frame.note ≡ f.flow));
  }
