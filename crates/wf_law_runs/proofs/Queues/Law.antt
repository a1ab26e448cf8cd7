-- Proves the laws of the queues and of their deficits, in every world of a run. By induction on the run.
use Rattle.wf_law_runs.proofs.Common.Refused.{after_idle}
use Rattle.wf_law_runs.proofs.Releases.Placed.{Placing, placed_at_first}
use Rattle.wf_law_runs.proofs.Releases.Once.{placed, placed_step}
use Rattle.wf_law_rules.proofs.Lemmas.Counts.{has-on, on-nil, on-cons_same, on-cons}
use Rattle.std.proofs.Common.{◌≡◌, refl, sym, subst, arith, ℕ, zero, suc, ◌+◌, ◌<◌, ◌≤◌, pos, ◌≤ℤ◌, Bool, true, false, not, List, [], ◌∷◌, map, take, Option, Some, None}
use Rattle.std.proofs.lemmas.Bool.{leb-false, ltb-false}
use Rattle.wf_frame.specs.declared.settings.Config.{Config}
use Rattle.wf_frame.specs.Settings.{IsInRange}
use Rattle.wf_frame.specs.declared.notes.Ask.TheVariants.{Join, Leave, Rate, Tick, Pull, Arrive, Answer, Done, Sleep, Wake, Poll, Rx, Reap, Ampdu, Stop, Start, Unsent, GiveUp, Flush, Offload, Weight, Plain, Hold, Begin, Free, Cease, Group, Service, Bss}
use Rattle.wf_frame.specs.declared.notes.Note.{Note}
use Rattle.wf_frame.specs.declared.notes.Note.TheVariants.{Enqueue, Asked}
use Rattle.wf_frame.specs.declared.notes.Refusal.{Refusal}
use Rattle.wf_frame.specs.declared.notes.Refusal.TheVariants.{Idle}
use Rattle.wf_def_lists.specs.Table.{has}
use Rattle.wf_def_codel.specs.Codel.{Item}
use Rattle.wf_def_rotation.specs.Rotation.{in_order}
use Rattle.wf_def_world.specs.World.{World, tid_of, queue, exchange, opening}
use Rattle.wf_def_world.specs.Service.{station_served}
use Rattle.wf_def_world.specs.Refusals.{refusals, refusal}
use Rattle.wf_def_world.specs.Step.{tick_outcome, rate_outcome, sleep_outcome, wake_outcome, poll_outcome, rx_outcome, unsent_outcome, give_up_outcome, outcome_of, after_refusal, judged_outcome, step, concerned_station}
use Rattle.wf_def_world.specs.Run.{Entry, world_after}
use Rattle.wf_def_world.specs.Stretches.{world_at}
use Rattle.wf_def_lists.specs.Lists.{IsOnce, IsRising, on}
use Rattle.wf_law_runs.specs.Queues.{KeepsQueues, QueueLaw, IsAtMost, AreAtMost, QueueDeficitLaw}
use Rattle.wf_law_rules.proofs.Lemmas.Numbers.{on_bool}
use Rattle.wf_law_runs.proofs.Queues.Drops.{counts_new}
use Rattle.wf_law_runs.proofs.Windows.Opened.{NoRow, no_row}
use Rattle.wf_law_runs.proofs.Windows.Agreed.{IsLawful, lawful_step, lawful_at_first}
use Rattle.wf_law_runs.proofs.Frames.Fewer.{Ordered}
use Rattle.wf_law_runs.proofs.Deficits.MildStep.{lists-on}
use Rattle.wf_law_runs.proofs.Deficits.Configs.{config_run}
use Rattle.wf_law_runs.proofs.Queues.Shelves.{shelves, shelves_hidden, shelves_on_share, shelves_after_pick, shelves_ended, shelves_arrived, shelves_answered, shelves_marked, shelves_reaped, shelves_listed, shelves_open, shelves_weighed, shelves_held, shelves_begun, shelves_freed, shelves_ceased}
use Rattle.wf_law_runs.proofs.Queues.Shelved.{IsFound, IsWithin, IsOf, IsShelved, each_item, later}
use Rattle.wf_law_runs.proofs.Queues.ShelvedStep.{on_listed, shelved_enqueued, shelved_pulled, shelved_gone, shelved_flushed, shelved_joined, shelved_offloaded, shelved_plain}

not_false : (b : Bool) → not b ≡ false → b ≡ true
not_false true h = refl
not_false false h = absurd (cc h)

shelved_done : (note : Note) (l : List ℕ) (most : ℕ) (w : World) → NoRow (refusals w note) →
    IsAtMost most note → Placing l w → IsShelved most (shelves w) →
    IsShelved most (shelves (outcome_of w note).world)
unfolding outcome_of tick_outcome rate_outcome sleep_outcome wake_outcome poll_outcome rx_outcome
    unsent_outcome give_up_outcome
shelved_done (Enqueue s t flow len) l most w r short p i =
    shelved_enqueued l most w s t flow len p (not_false _ r.1.1.0)
    (omega (arith, ltb-false 7 t r.1.0)) short i
shelved_done (Asked (Join s window start exponent weight)) l most w r short p i =
    shelved_joined most w s window start exponent weight (leb-false _ _ r.0) r.1.1.1.1.1.0 i
shelved_done (Asked (Offload s exponent weight)) l most w r short p i =
    shelved_offloaded most w s exponent weight (leb-false _ _ r.0) r.1.1.1.0 i
shelved_done (Asked (Weight s weight)) l most w r short p i =
    subst (IsShelved most) (sym (shelves_weighed w s weight)) i
shelved_done (Asked (Plain s start exponent weight)) l most w r short p i =
    shelved_plain most w s start exponent weight (leb-false _ _ r.0) r.1.1.1.1.0 i
shelved_done (Asked (Hold s t)) l most w r short p i = subst (IsShelved most) (sym (shelves_held w s t)) i
shelved_done (Asked (Begin s t window)) l most w r short p i =
    subst (IsShelved most) (sym (shelves_begun w s t window)) i
shelved_done (Asked (Free s t)) l most w r short p i = subst (IsShelved most) (sym (shelves_freed w s t)) i
shelved_done (Asked (Cease s t)) l most w r short p i = subst (IsShelved most) (sym (shelves_ceased w s t)) i
shelved_done (Asked (Leave s)) l most w r short p i = shelved_gone most w s (not_false _ r.1.0) i
shelved_done (Asked (Rate s rate)) l most w r small p i =
    subst (IsShelved most) (sym (shelves_hidden w s _ (λ x. refl))) i
shelved_done (Asked (Tick by)) l most w r short p i = later most (shelves w) by i
shelved_done (Asked (Pull c limits)) l most w r short p i = shelved_pulled most w c limits i
shelved_done (Asked (Arrive x n)) l most w r short p i =
    subst (IsShelved most) (sym (shelves_open (exchange w x) w _ (λ y. shelves_arrived w y n))) i
shelved_done (Asked (Unsent x n)) l most w r short p i =
    subst (IsShelved most) (sym (shelves_open (exchange w x) w _ (λ y. shelves_marked w y _ _))) i
shelved_done (Asked (GiveUp x n)) l most w r short p i =
    subst (IsShelved most) (sym (shelves_open (exchange w x) w _ (λ y. shelves_marked w y _ _))) i
shelved_done (Asked (Flush s t)) l most w r short p i = shelved_flushed most w s t i
shelved_done (Asked (Answer x)) l most w r short p i =
    subst (IsShelved most) (sym (shelves_open (exchange w x) w _ (λ y. shelves_answered w y))) i
shelved_done (Asked (Done x heard air)) l most w r short p i =
    subst (IsShelved most) (sym (shelves_open (exchange w x) w _ (λ y. shelves_ended air w y heard))) i
shelved_done (Asked (Sleep s)) l most w r short p i =
    subst (IsShelved most) (sym (shelves_hidden w s _ (λ x. refl))) i
shelved_done (Asked (Ampdu s octets)) l most w r short p i =
    subst (IsShelved most) (sym (shelves_hidden w s _ (λ x. refl))) i
shelved_done (Asked (Stop s)) l most w r short p i =
    subst (IsShelved most) (sym (shelves_hidden w s _ (λ x. refl))) i
shelved_done (Asked (Start s)) l most w r short p i =
    subst (IsShelved most) (sym (shelves_hidden w s _ (λ x. refl))) i
shelved_done (Asked (Wake s)) l most w r short p i =
    subst (IsShelved most) (sym (shelves_hidden w s _ (λ x. refl))) i
shelved_done (Asked (Poll s)) l most w r short p i =
    subst (IsShelved most) (sym (shelves_hidden w s _ (λ x. refl))) i
shelved_done (Asked (Rx s c air)) l most w r short p i =
    subst (IsShelved most) (sym (shelves_on_share w s c _)) i
shelved_done (Asked Reap) l most w r short p i = subst (IsShelved most) (sym (shelves_reaped w.finished w)) i
shelved_done (Asked (Group ask)) l most w r short p i = i
shelved_done (Asked (Service ask)) l most w r short p i =
    subst (IsShelved most) (sym (shelves_hidden w (station_served ask) _ (λ x. refl))) i
shelved_done (Asked (Bss s b)) l most w r short p i =
    subst (IsShelved most) (sym (shelves_hidden w s _ (λ x. refl))) i

shelved_refused : (note : Note) (r : Refusal) (most : ℕ) (w : World) → IsShelved most (shelves w) →
    IsShelved most (shelves (after_refusal w note r))
unfolding after_refusal
shelved_refused (Asked (Pull c l)) Idle most w i = after_idle (λ v. IsShelved most (shelves v)) w c i
    (subst (IsShelved most) (sym (shelves_after_pick w c)) i)
shelved_refused _ _ most w i = i

shelved_answer : (r : Option Refusal) (l : List ℕ) (most : ℕ) (w : World) (note : Note) → refusal w note ≡ r →
    IsAtMost most note → Placing l w → IsShelved most (shelves w) →
    IsShelved most (shelves (judged_outcome w note r).world)
unfolding judged_outcome
shelved_answer (Some r) l most w note e short p i = shelved_refused note r most w i
shelved_answer None l most w note e short p i =
    subst (IsShelved most) (sym (shelves_listed (concerned_station w note) (outcome_of w note).world))
    (shelved_done note l most w (no_row (refusals w note) e) short p i)

pub shelved_step : (l : List ℕ) (most : ℕ) (w : World) (note : Note) → IsAtMost most note → Placing l w →
    IsShelved most (shelves w) → IsShelved most (shelves (step w note).world)
unfolding step
shelved_step l most w note short p i = shelved_answer (refusal w note) l most w note refl short p i

shelved_run : (h : List Entry) (l : List ℕ) (most : ℕ) (w : World) → AreAtMost most h → IsLawful w →
    Placing l w → IsShelved most (shelves w) → IsShelved most (shelves (world_after w h))
unfolding world_after
shelved_run [] l most w short k p i = i
shelved_run (e ∷ es) l most w short k p i = shelved_run es _ most (step w e.1).world short.1
    (lawful_step w e.1 k) (placed_step l w k e.1 p) (shelved_step l most w e.1 short.0 p i)

pub shelved_first : (config : Config) (most : ℕ) → IsInRange config →
    IsShelved most (shelves (opening config))
shelved_first config most range = record {
  flows = omega (arith, range.flows.0);
  quantum = omega (arith, range.flow_quantum.0);
  range = λ s e. absurd (cc e);
  once = λ s t q. omega (arith, on-nil q);
  live = λ s t q l. absurd (omega (arith, on-nil q, l));
  below = λ s t q l. absurd (omega (arith, on-nil q, l));
  owned = λ s t q l. absurd (omega (arith, on-nil q, l));
  sole = λ s t i j q l m. absurd (omega (arith, on-nil q, l));
  found = λ q h. absurd (omega (arith, h));
  mine = λ s t q l. absurd (omega (arith, on-nil q, l));
  stamps = λ q. omega arith;
  deficits = λ s t q l. absurd (omega (arith, on-nil q, l));
  counts = λ q. counts_new;
}

pub shelved : (config : Config) (h : List Entry) (most : ℕ) → IsInRange config → AreAtMost most h →
    IsShelved most (shelves (world_after (opening config) h))
shelved config h most range short = shelved_run h [] most (opening config) short (lawful_at_first config)
    (placed_at_first config) (shelved_first config most range)

-- ---- the law

-- Returns the length of the frame that a call enqueues, or 0. It bounds the lengths of a history.
longest_of : Note → ℕ
longest_of (Enqueue s t flow len) = len
longest_of (Asked ask) = 0

raise_note : (note : Note) (m n : ℕ) → m ≤ n → IsAtMost m note → IsAtMost n note
raise_note (Enqueue s t flow len) m n h k = omega (arith, h, k)
raise_note (Asked ask) m n h k = tt

raise : (h : List Entry) (m n : ℕ) → m ≤ n → AreAtMost m h → AreAtMost n h
raise [] m n l a = tt
raise (e ∷ es) m n l a = (raise_note e.1 m n l a.0, raise es m n l a.1)

pub longest_in : List Entry → ℕ
longest_in [] = 0
longest_in (e ∷ es) = longest_of e.1 + longest_in es

note_within : (note : Note) (n : ℕ) → longest_of note ≤ n → IsAtMost n note
unfolding longest_of
note_within (Enqueue s t flow len) n h = h
note_within (Asked ask) n h = tt

pub within : (h : List Entry) → AreAtMost (longest_in h) h
unfolding longest_in
within [] = tt
within (e ∷ es) = (note_within e.1 _ (omega arith), raise es (longest_in es) _ (omega arith) (within es))

pub at_most_taken : (m : ℕ) (h : List Entry) (most : ℕ) → AreAtMost most h → AreAtMost most (take m h)
at_most_taken zero h most a = tt
at_most_taken (suc m) [] most a = tt
at_most_taken (suc m) (e ∷ es) most a = (a.0, at_most_taken m es most a.1)

pub once_list : (xs : List ℕ) → ((y : ℕ) → on xs y ≤ 1) → IsOnce xs
once_list [] h = tt
once_list (x ∷ xs) h = (
  on_bool (has xs x) (λ e. absurd (omega (arith, h x, on-cons_same x xs, has-on xs x e))) (λ e. e),
  once_list xs (λ y. omega (arith, h y, on-cons x y xs)),
)

rises : (xs : List Item) (lo : ℕ) → Ordered lo xs → IsRising lo (map (λ x. x.id) xs)
rises [] lo o = tt
rises (x ∷ xs) lo o = (o.0, rises xs (suc x.id) o.1)

keeps_queues : (l : List ℕ) (most : ℕ) (w : World) → Placing l w → IsShelved most (shelves w) → KeepsQueues w
keeps_queues l most w p i = record {
  found = λ q h. let f : IsFound (shelves w) q = i.found q h in
      record {
        station = f.station;
        tid = f.tid;
        listed =
            lists-on (tid_of w f.station f.tid).queues q f.listed;
      };
  sole = λ s t j k q a b. i.sole s t j k q (on_listed (tid_of w s t).queues q a)
      (on_listed (tid_of w j k).queues q b);
  once = λ s t. once_list (in_order (tid_of w s t).queues) (i.once s t);
  owner = λ s t q a. let l : 0 < on (in_order (tid_of w s t).queues) q =
      on_listed (tid_of w s t).queues q a in (i.live s t q l, i.below s t q l, i.owned s t q l);
  mine = λ s t q a. each_item (IsOf (shelves w).notes most s t) _ (λ x h. h.0) (queue w q).items
      (i.mine s t q (on_listed (tid_of w s t).queues q a));
  ids = λ q. rises (queue w q).items 0 (p.ordered q);
  stamps = i.stamps;
}

pub queue_law : (config : Config) (h : List Entry) → IsInRange config → QueueLaw config h
queue_law config h range m = keeps_queues _ (longest_in (take m h)) (world_at config h m)
    (placed config (take m h)) (shelved config (take m h) (longest_in (take m h)) range (within (take m h)))

pub queue_deficit_law : (config : Config) (h : List Entry) → IsInRange config → QueueDeficitLaw config h
queue_deficit_law config h range most short m s t q a =
    let w : World = world_at config h m in
    let i : IsShelved most (shelves w) = shelved config (take m h) most range
    (at_most_taken m h most short) in
    let k : IsWithin w.config.flow_quantum most (queue w q).deficit =
    i.deficits s t q (on_listed (tid_of w s t).queues q a) in (
      subst (λ (c : Config). (queue w q).deficit ≤ℤ pos c.flow_quantum)
          (config_run (take m h) (opening config)) k.highest,
      k.lowest,
    )
