-- Proves the laws of flows, in every run. By induction on the run.
use Rattle.std.proofs.Common.{◌≡◌, refl, ap, sym, ◌∙◌, subst, arith, ℕ, suc, ◌≤◌, Bool, true, ◌&&◌, ◌==◌, List, [], ◌∷◌, ◌++◌, inl, inr, take, map, filter, append-nil, append_assoc}
use Rattle.std.proofs.lemmas.Bool.{ltb-false}
use Rattle.wf_frame.specs.declared.settings.Config.{Config}
use Rattle.wf_frame.specs.Settings.{IsInRange}
use Rattle.wf_frame.specs.declared.notes.Note.{Note}
use Rattle.wf_frame.specs.declared.notes.Note.TheVariants.{Enqueue, Asked}
use Rattle.wf_def_codel.specs.Codel.{Item}
use Rattle.wf_def_lists.specs.Table.{has}
use Rattle.wf_def_lists.specs.Lists.{IsRising}
use Rattle.wf_def_world.specs.World.{World, frame, queue, opening}
use Rattle.wf_def_world.specs.Refusals.{refusals}
use Rattle.wf_def_world.specs.Step.{step, enqueue_outcome}
use Rattle.wf_def_world.specs.Run.{Entry, world_after}
use Rattle.wf_law_rules.proofs.Lemmas.Numbers.{on_if, eq_yes, yes_eq, either, both, or_left, or_right}
use Rattle.wf_law_runs.specs.Releases.{named_by, named_from}
use Rattle.wf_law_runs.specs.Flows.{is_of_flow, FlowQueueLaw, FlowReleaseLaw}
use Rattle.wf_law_runs.proofs.Windows.Opened.{NoRow}
use Rattle.wf_law_runs.proofs.Windows.Agreed.{lawful}
use Rattle.wf_law_runs.proofs.Frames.Owners.{IsOwned}
use Rattle.wf_law_runs.proofs.Frames.Places.{standing}
use Rattle.wf_law_runs.proofs.Deficits.Configs.{config_run}
use Rattle.wf_law_runs.proofs.Queues.Shelves.{shelves}
use Rattle.wf_law_runs.proofs.Queues.Shelved.{IsShelved}
use Rattle.wf_law_runs.proofs.Queues.Law.{shelved, longest_in, within}
use Rattle.wf_law_runs.proofs.Releases.Placed.{placed_at_first}
use Rattle.wf_law_runs.proofs.Releases.Steps.{through_step}
use Rattle.wf_law_runs.proofs.Orders.Lines.{Lane, lane_of, Agrees, AreLined, InLine, line_less, line_session, line_give, line_release, line_station, line_silent}
use Rattle.wf_law_runs.proofs.Frames.Fewer.{carries}
use Rattle.wf_law_runs.proofs.Orders.Puts.{line_enqueued}

-- The conditions that a call needs of the world before it.
record IsGood (flows : ℕ) (w : World) : Type 0 where
  most : ℕ
  shelved : IsShelved most (shelves w)
  owned : IsOwned w
  flows_are : w.config.flows ≡ flows
  keeps : w.config.keep_order ≡ 1

line_call : (flows : ℕ) (l : List ℕ) (w : World) (s t flow len : ℕ) → IsGood flows w →
    NoRow (refusals w (Enqueue s t flow len)) → InLine flows l w →
    InLine flows l (enqueue_outcome w s t flow len).world
line_call flows l w s t flow len g r p = line_enqueued g.most flows l w s t flow len g.shelved
    g.flows_are g.keeps
    (omega (arith, ltb-false 7 t r.1.0)) p

pub line_first : (flows : ℕ) (config : Config) → InLine flows [] (opening config)
line_first flows config = record {
  placing = placed_at_first config;
  lane = λ k. record { station = 0; tid = 0; queue = 0 };
  one = λ q r a b c e d. absurd (cc c);
  home = λ q a low c. absurd (cc c);
  known = λ q a c. absurd (cc c);
  sides = λ s t. record {
    known = λ n from below. absurd (omega (arith, from, below));
    rising = λ n m from less below. absurd (omega (arith, from, less, below));
    queued = λ n q k from below c. absurd (omega (arith, from, below));
    passed = λ n k from below start c. absurd (omega (arith, from, below));
  };
  released = λ k q j e c. absurd (cc c);
  listed = λ k e. absurd (cc e);
  lined = tt;
}

-- ---- a history with one entry more

pub world_more : (h : List Entry) (w : World) (e : Entry) →
    world_after w (h ++ e ∷ []) ≡ (step (world_after w h) e.1).world
unfolding world_after
world_more [] w e = refl
world_more (x ∷ h) w e = world_more h (step w x.1).world e

named_more : (h : List Entry) (w : World) (l : List ℕ) (e : Entry) →
    named_from w l (h ++ e ∷ []) ≡ named_from w l h ++ named_by (step (world_after w h) e.1).reply
unfolding named_from world_after
named_more [] w l e = refl
named_more (x ∷ h) w l e = named_more h (step w x.1).world (l ++ named_by (step w x.1).reply) e

module _ (config : Config) (range : IsInRange config) (keeps : config.keep_order ≡ 1) where
  good : (h : List Entry) → IsGood config.flows (world_after (opening config) h)
  good h = record {
    most = longest_in h;
    shelved = shelved config h (longest_in h) range (within h);
    owned = (standing config h range).stood.owned;
    flows_are = ap (λ (c : Config). c.flows) (config_run h (opening config));
    keeps = ap (λ (c : Config). c.keep_order) (config_run h (opening config)) ∙ keeps;
  }

  pub in_line : (es h : List Entry) → InLine config.flows (named_from (opening config) [] h)
      (world_after (opening config) h) → InLine config.flows (named_from (opening config) [] (h ++ es))
      (world_after (opening config) (h ++ es))
  in_line [] h p = subst (λ (k : List Entry).
      InLine config.flows (named_from (opening config) [] k) (world_after (opening config) k))
      (sym (append-nil h)) p
  in_line (e ∷ es) h p =
      let w : World = world_after (opening config) h in
      let l : List ℕ = named_from (opening config) [] h in
      let next : InLine config.flows (l ++ named_by (step w e.1).reply) (step w e.1).world =
      through_step (InLine config.flows) (IsGood config.flows) (line_less config.flows)
      (line_session config.flows) (line_give config.flows)
      (λ k u v s t q b g. line_release config.flows k u v s t q b g.owned) (line_silent config.flows)
      (line_station config.flows)
      (line_call config.flows) l w (lawful config h) e.1 (good h) p in
      let more : InLine config.flows (named_from (opening config) [] (h ++ e ∷ []))
      (world_after (opening config) (h ++ e ∷ [])) =
      subst (λ (k : List ℕ). InLine config.flows k (world_after (opening config) (h ++ e ∷ [])))
      (sym (named_more h (opening config) [] e))
      (subst (InLine config.flows (l ++ named_by (step w e.1).reply)) (sym (world_more h (opening config)
      e)) next)
      in
      subst (λ (k : List Entry).
      InLine config.flows (named_from (opening config) [] k) (world_after (opening config) k))
      (append_assoc h (e ∷ []) es) (in_line es (h ++ e ∷ []) more)

-- ---- the law

same_flow : (flows s t flow : ℕ) (a b : Note) → is_of_flow s t flow a ≡ true → is_of_flow s t flow b ≡ true →
    lane_of flows a ≡ lane_of flows b
same_flow flows s t flow (Enqueue i j f len) (Enqueue i' j' f' len') a b =
    let x = both (i == s) ((j == t) && (f == flow)) a in
    let y = both (i' == s) ((j' == t) && (f' == flow)) b in
    let x' = both (j == t) (f == flow) x.1 in
    let y' = both (j' == t) (f' == flow) y.1 in
    let is_i : i ≡ i' = eq_yes i s x.0 ∙ sym (eq_yes i' s y.0) in
    let is_j : j ≡ j' = eq_yes j t x'.0 ∙ sym (eq_yes j' t y'.0) in
    let is_f : f ≡ f' = eq_yes f flow x'.1 ∙ sym (eq_yes f' flow y'.1) in
    rw (is_i, is_j, is_f) refl
same_flow flows s t flow (Asked ask) b a e = absurd (cc a)
same_flow flows s t flow (Enqueue i j f len) (Asked ask) a e = absurd (cc e)

-- The ids of one flow increase, if those of each lane do.
pub flow_rises : (flows : ℕ) (lane : ℕ → Lane) (w : World) (s t flow : ℕ) (ks : List ℕ) (lo : ℕ) →
    ((k : ℕ) → has ks k ≡ true → Agrees flows lane w k) → AreLined lane ks →
    ((k : ℕ) → has ks k ≡ true → is_of_flow s t flow (frame w k).note ≡ true → lo ≤ k) →
    IsRising lo (filter (λ k. is_of_flow s t flow (frame w k).note) ks)
flow_rises flows lane w s t flow [] lo agrees lined low = tt
flow_rises flows lane w s t flow (k ∷ ks) lo agrees lined low =
    let test : ℕ → Bool = λ j. is_of_flow s t flow (frame w j).note in
    let here : has (k ∷ ks) k ≡ true = or_left (k == k) (has ks k) (yes_eq k k refl) in
    let later : (j : ℕ) → has ks j ≡ true → has (k ∷ ks) j ≡ true = λ j e. or_right (k == j) (has ks j) e in
    on_if (IsRising lo) (test k) (k ∷ filter test ks) (filter test ks)
    (λ is. (
      low k here is,
      flow_rises flows lane w s t flow ks (suc k) (λ j e. agrees j (later j e)) lined.1
          (λ j e is_j. lined.0 j e (agrees k here ∙ same_flow flows s t flow (frame w k).note (frame w
          j).note is
          is_j ∙ sym (agrees j (later j e)))),
    ))
    (λ _. flow_rises flows lane w s t flow ks lo (λ j e. agrees j (later j e)) lined.1
    (λ j e. low j (later j e)))

pub flow_release_law : (config : Config) (h : List Entry) → IsInRange config → FlowReleaseLaw config h
unfolding named_from world_after
flow_release_law config h range keeps s t flow =
    let w : World = world_after (opening config) h in
    let p : InLine config.flows (named_from (opening config) [] h) w =
    in_line config range keeps h [] (line_first config.flows config) in
    flow_rises config.flows p.lane w s t flow (named_from (opening config) [] h) 0 p.listed p.lined
    (λ k e is. omega arith)

-- A queue carries the frames whose ids it has.
pub carried_held : (xs : List Item) (k : ℕ) → has (map (λ x. x.id) xs) k ≡ true → carries xs k ≡ true
carried_held [] k e = e
carried_held (x ∷ xs) k e = elim (either (x.id == k) (has (map (λ y. y.id) xs) k) e) [
  | inl here ↦ or_left (x.id == k) (carries xs k) here
  | inr later ↦ or_right (x.id == k) (carries xs k) (carried_held xs k later)
]

pub flow_queue_law : (config : Config) (h : List Entry) → IsInRange config → FlowQueueLaw config h
unfolding named_from world_after
flow_queue_law config h range keeps m s t flow q r a b x y =
    let w : World = world_after (opening config) (take m h) in
    let p : InLine config.flows (named_from (opening config) [] (take m h)) w =
    in_line config range keeps (take m h) [] (line_first config.flows config) in
    let here : carries (queue w q).items a ≡ true = carried_held (queue w q).items a x.held in
    let there : carries (queue w r).items b ≡ true = carried_held (queue w r).items b y.held in
    p.one q r a b here there (p.known q a here
    ∙ same_flow config.flows s t flow (frame w a).note (frame w b).note x.for y.for
    ∙ sym (p.known r b there))
