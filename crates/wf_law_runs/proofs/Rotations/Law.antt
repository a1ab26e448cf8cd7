-- Proves the law of rotations, in every world of a run: the lists of stations, when a Pull is Idle, and
-- each pick.
use Rattle.std.proofs.Common.{◌≡◌, refl, arith, ℕ, ◌*◌, ◌<◌, ◌≤◌, nat_le, Bool, true, false, if◌then◌else◌, List, [], ◌∷◌, Option, Some, None, is_some, is_none, IfSome, unwrap_or, option_map, take, ◌↔◌, ap, sym, ◌∙◌, map, eq-eqb}
use Rattle.wf_frame.specs.declared.settings.Config.{Config}
use Rattle.wf_frame.specs.Settings.{IsInRange}
use Rattle.wf_frame.specs.declared.classes.Class.{Class}
use Rattle.wf_frame.specs.declared.notes.Refusal.{Refusal}
use Rattle.wf_frame.specs.declared.notes.Refusal.TheVariants.{Full, Ahead, Idle}
use Rattle.wf_def_lists.specs.Table.{at}
use Rattle.wf_def_rotation.specs.Rotation.{in_order}
use Rattle.wf_def_world.specs.World.{World, Station, owed_by_all, no_station, quantum, queue, rotation, tid_of, is_live, Exchange, standing}
use Rattle.wf_def_world.specs.FlowQueues.{has_frames}
use Rattle.wf_def_world.specs.CanSend.{is_ready}
use Rattle.wf_def_world.specs.Exchanges.{station_need, picked_station}
use Rattle.wf_def_world.specs.Refusals.{first_refusal, open_of_class, is_at_aql_total, refusal}
use Rattle.wf_def_world.specs.Run.{Entry}
use Rattle.wf_def_world.specs.Stretches.{world_at}
use Rattle.wf_law_runs.specs.Rotations.{NoneReady, MayOpen, KeepsRotations, RotationLaw}
use Rattle.wf_law_runs.specs.Queues.{KeepsQueues}
use Rattle.wf_law_rules.proofs.Lemmas.Numbers.{on_bool}
use Rattle.wf_law_rules.proofs.Lemmas.Rotations.{IsWinner, pick_winner, pick_none}
use Rattle.wf_law_rules.proofs.Lemmas.Visits.{visit_law}
use Rattle.wf_law_runs.proofs.Deficits.Books.{account, books, core}
use Rattle.wf_law_runs.proofs.Deficits.Kept.{IsGood, IsKept, IsOpen}
use Rattle.wf_law_runs.proofs.Deficits.Ready.{IsOrderly, IsListed, orderly}
use Rattle.wf_law_runs.proofs.Queues.Law.{once_list, queue_law}
use Rattle.wf_law_runs.proofs.Deficits.Listing.{on-lists}
use Rattle.wf_law_runs.proofs.Common.Refused.{if_idle}
use Rattle.wf_law_runs.proofs.Deficits.KeptStep.{live_account}
use Rattle.wf_law_runs.proofs.Deficits.Openings.{Every}
use Rattle.wf_law_runs.specs.Windows.{EachOpen}
use Rattle.wf_def_world.specs.Step.{step, judged_outcome, after_refusal}
use Rattle.wf_frame.specs.declared.notes.Note.{Note}
use Rattle.wf_frame.specs.declared.notes.Note.TheVariants.{Asked}
use Rattle.wf_frame.specs.declared.notes.Ask.TheVariants.{Pull}

-- ---- the winner of a pick

none_ready : (w : World) (c : Class) → IsListed w → (picked_station w c).winner ≡ None → NoneReady w c
none_ready w c listed none s = on_bool (is_ready w c s)
    (λ is. absurd (omega (
      arith,
      listed.all s c is,
      pick_none (station_need w c) (is_ready w c) (rotation w c) none s is,
    )))
    (λ not_ready. not_ready)

ready_none : (w : World) (c : Class) → NoneReady w c → (picked_station w c).winner ≡ None
ready_none w c none = go (picked_station w c).winner refl
  where
    go : (o : Option ℕ) → (picked_station w c).winner ≡ o → o ≡ None
    go None e = refl
    go (Some s) e =
        let k : IsWinner (station_need w c) (is_ready w c) (rotation w c) (picked_station w c) s =
        pick_winner (station_need w c) (is_ready w c) (rotation w c) s e in
        absurd (cc (k.is_ready, none s))

-- ---- the refusal of a Pull

full_or_idle : ℕ → ℕ → Bool → Bool → Bool → Option Refusal
full_or_idle count airtime full ahead idle =
    if full then Some (Full count) else if ahead then Some (Ahead airtime)
    else if idle then Some Idle else None

all_where_idle : (count airtime : ℕ) (full ahead idle : Bool) →
    full_or_idle count airtime full ahead idle ≡ Some Idle →
    ((full ≡ false) × (ahead ≡ false)) × (idle ≡ true)
unfolding full_or_idle
all_where_idle count airtime true ahead idle e = absurd (cc e)
all_where_idle count airtime false true idle e = absurd (cc e)
all_where_idle count airtime false false true e = ((refl, refl), refl)
all_where_idle count airtime false false false e = absurd (cc e)

idle_where_all : (count airtime : ℕ) (full ahead idle : Bool) → full ≡ false → ahead ≡ false → idle ≡ true →
    full_or_idle count airtime full ahead idle ≡ Some Idle
unfolding full_or_idle
idle_where_all count airtime full ahead idle e f g = rw (e, f, g) refl

is_none_of : (o : Option ℕ) → is_none o ≡ true → o ≡ None
is_none_of None e = refl
is_none_of (Some s) e = absurd (cc e)

abbrev full_in : World → Class → Bool
full_in w c = nat_le w.config.inflight (open_of_class w c)

abbrev idle_in : World → Class → Bool
idle_in w c = is_none (picked_station w c).winner

refused_idle : (w : World) (c : Class) → IsListed w →
    (full_or_idle (open_of_class w c) (owed_by_all w.opened) (full_in w c) (is_at_aql_total w) (idle_in w c)
    ≡ Some Idle) ↔ (MayOpen w c × NoneReady w c)
refused_idle w c listed = (
  (λ e.
      let k = all_where_idle (open_of_class w c) (owed_by_all w.opened) (full_in w c) (is_at_aql_total w)
      (idle_in w c) e in (
        (below w.config.inflight (open_of_class w c) k.0.0, k.0.1),
        none_ready w c listed (is_none_of (picked_station w c).winner k.1),
      )),
  (λ h. idle_where_all (open_of_class w c) (owed_by_all w.opened) (full_in w c) (is_at_aql_total w)
      (idle_in w c)
      (not_full w.config.inflight (open_of_class w c) h.0.0) h.0.1 (rw (ready_none w c h.1) refl)),
)
  where
    below : (m n : ℕ) → nat_le m n ≡ false → n < m
    below m n e = grind arith

    not_full : (m n : ℕ) → n < m → nat_le m n ≡ false
    not_full m n h = grind arith

idle_pull : (w : World) (c : Class) → IsListed w →
    (first_refusal ((full_in w c, Full (open_of_class w c)) ∷ (
      is_at_aql_total w,
      Ahead (owed_by_all
          w.opened),
    )
    ∷ (idle_in w c, Idle) ∷ []) ≡ Some Idle) ↔ (MayOpen w c × NoneReady w c)
unfolding first_refusal full_or_idle
idle_pull w c listed = refused_idle w c listed

-- ---- quanta

weight_some : (w : World) (s : ℕ) → IsKept (books w) →
    1 ≤ (unwrap_or (at None w.stations s) no_station).weight
weight_some w s k = go (at None w.stations s) (k.goods s)
  where
    go : (o : Option Station) → IfSome (option_map account o) (IsGood w.config (books w).opened s) →
        1 ≤ (unwrap_or o no_station).weight
    go None h = omega arith
    go (Some x) h = omega (arith, h.weight)

product : (m n : ℕ) → 1 ≤ m → 1 ≤ n → 1 ≤ m * n
product m n h k = grind arith

quantum_some : (w : World) (s : ℕ) → IsKept (books w) → 1 ≤ quantum w s
quantum_some w s k = product w.config.quantum (unwrap_or (at None w.stations s) no_station).weight
    (omega (arith, k.range.quantum.0)) (weight_some w s k)

-- ---- a refusal, and the stations of exchanges

-- With the setting `pending`, a call that is refused changes nothing.
refused_world : (note : Note) (r : Refusal) (w : World) → w.config.pending ≡ 1 → after_refusal w note r ≡ w
unfolding after_refusal
refused_world (Asked (Pull c l)) Idle w counting = if_idle (λ v. v ≡ w) w c refl
    (λ off. absurd (cc (eq-eqb w.config.pending 1 counting, off)))
refused_world _ _ w counting = refl

refused_step : (note : Note) (r : Refusal) (w : World) → w.config.pending ≡ 1 → refusal w note ≡ Some r →
    (step w note).world ≡ w
unfolding step judged_outcome
refused_step note r w counting e = ap (λ (o : Option Refusal). (judged_outcome w note o).world) e
    ∙ refused_world note r w counting

some_live : (w : World) (s : ℕ) → is_some ((books w).accounts s) ≡ true → is_live w s ≡ true
some_live w s h = sym (live_account (at None w.stations s)) ∙ h

served_all : (w : World) (xs : List Exchange) → Every (IsOpen (books w)) (map core xs) →
    EachOpen (λ x. is_live w x.station ≡ true) xs
served_all w [] h = tt
served_all w (x ∷ xs) h = (some_live w x.station h.0.live, served_all w xs h.1)

-- ---- the law

keeps_rotations : (w : World) → IsOrderly w → KeepsQueues w → KeepsRotations w
keeps_rotations w i q =
    let k : IsKept (books w) = i.kept in
    let octets : 1 ≤ w.config.flow_quantum = omega (arith, k.range.flow_quantum.0) in
    record {
      live = λ c s listed. some_live w s (k.live c s (on-lists (rotation w c) s listed));
      once = λ c. once_list (in_order (rotation w c)) (k.once c);
      idle = λ c l. idle_pull w c i.listed;
      quanta = λ s. quantum_some w s k;
      octets = octets;
      refused = λ counting note r e. refused_step note r w counting e;
      served = served_all w w.opened k.opens;
      stations = λ c. visit_law (quantum w) (λ s. standing w s c) (is_ready w c) (rotation w c)
          (λ s. quantum_some w s k) (once_list (in_order (rotation w c)) (k.once c));
      queues = λ s t. visit_law (λ y. w.config.flow_quantum) (λ y. (queue w y).deficit) (has_frames w)
          (tid_of w s t).queues (λ y. octets) (q.once s t);
    }

pub rotation_law : (config : Config) (h : List Entry) → IsInRange config → RotationLaw config h
rotation_law config h range m = keeps_rotations (world_at config h m) (orderly config (take m h) range)
    (queue_law config h range m)
