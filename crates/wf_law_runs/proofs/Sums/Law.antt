-- Proves the law of sums, in every world of a run. By induction on the number of entries.
use Rattle.std.proofs.Common.{◌≡◌, refl, arith, ℕ, zero, suc, ◌+◌, ◌*◌, ◌≤◌, ◌==◌, ◌&&◌, Bool, true, false, if◌then◌else◌, List, [], ◌∷◌, length, take, Option, Some, None, is_none, IfSome}
use Rattle.std.proofs.lemmas.Bool.{and_parts, not-false}
use Rattle.wf_frame.specs.declared.settings.Config.{Config}
use Rattle.wf_frame.specs.declared.classes.Class.{Class}
use Rattle.wf_frame.specs.declared.notes.Ask.TheVariants.{Join, Done, Rx, Offload, Plain}
use Rattle.wf_frame.specs.declared.notes.Note.{Note}
use Rattle.wf_frame.specs.declared.notes.Note.TheVariants.{Enqueue, Asked}
use Rattle.wf_frame.specs.declared.notes.Refusal.{Refusal}
use Rattle.wf_frame.specs.Classes.{same_class}
use Rattle.wf_frame.specs.Settings.{IsInRange}
use Rattle.wf_def_lists.specs.Bounds.{greatest_tick, greatest_air}
use Rattle.wf_def_world.specs.World.{World, Exchange, accepted_count, exchange, share, opening}
use Rattle.wf_def_world.specs.Refusals.{refusals, refusal}
use Rattle.wf_def_world.specs.Step.{step}
use Rattle.wf_def_world.specs.Run.{Entry, world_after}
use Rattle.wf_def_world.specs.Stretches.{world_at, charge_to, charge_by}
use Rattle.wf_law_runs.specs.Numbers.{greatest_charge}
use Rattle.wf_law_runs.specs.Sums.{since_join, air_by, charged_over, received_over, SumLaw}
use Rattle.wf_law_rules.proofs.Lemmas.Numbers.{le_yes}
use Rattle.wf_law_runs.proofs.Windows.Opened.{NoRow, no_row}
use Rattle.wf_law_runs.proofs.Deficits.Books.{books}
use Rattle.wf_law_runs.proofs.Deficits.Kept.{IsKept}
use Rattle.wf_law_runs.proofs.Deficits.KeptStep.{kept_step, kept_opening, charge_within}
use Rattle.wf_law_runs.proofs.Deficits.Numbers.{longest_within}
use Rattle.wf_law_runs.proofs.Frames.Fates.{brought, Steady, steady_step, steady_first, counted_step}
use Rattle.wf_law_runs.proofs.Sums.Counters.{counts_step}
use Rattle.wf_law_runs.proofs.Sums.Airtime.{HasAdded, added}
use Rattle.wf_def_world.specs.Exchanges.{charge_of}

-- ---- the clock and the counts

-- The bounds after n entries.
record IsSmall (n : ℕ) (w : World) : Type 0 where
  clock : w.clock ≤ greatest_tick * n
  accepted : accepted_count w ≤ n
  exchanges : w.exchanges ≤ n

brought_one : (note : Note) → brought note ≤ 1
brought_one (Enqueue s t flow len) = omega arith
brought_one (Asked ask) = omega arith

at_most_if : (b : Bool) (m n : ℕ) → m ≤ n → (if b then m else 0) ≤ n
at_most_if true m n h = h
at_most_if false m n h = omega arith

small_step : (l : List ℕ) (n : ℕ) (w : World) (note : Note) → Steady l w → IsSmall n w →
    IsSmall (suc n) (step w note).world
small_step l n w note k i =
    let c = counted_step l w note k in
    let few : (if is_none (refusal w note) then brought note else 0) ≤ 1 =
    at_most_if (is_none (refusal w note)) (brought note) 1 (brought_one note) in
    let counts = counts_step (greatest_tick * n) n w note (i.clock, i.exchanges) in
    record {
      clock = omega (arith, counts.0);
      accepted = omega (arith, c.0, few, i.accepted);
      exchanges =
          omega (arith, counts.1);
    }

small_run : (h : List Entry) (l : List ℕ) (n : ℕ) (w : World) → Steady l w → IsSmall n w →
    IsSmall (length h + n) (world_after w h)
unfolding world_after
small_run [] l n w k i = record {
  clock = omega (arith, i.clock);
  accepted = omega (arith, i.accepted);
  exchanges = omega (arith, i.exchanges);
}
small_run (e ∷ es) l n w k i =
    let rest : IsSmall (length es + suc n) (world_after (step w e.1).world es) =
    small_run es _ (suc n) (step w e.1).world (steady_step l w e.1 k) (small_step l n w e.1 k i) in
    record {
      clock = omega (arith, rest.clock);
      accepted = omega (arith, rest.accepted);
      exchanges =
          omega (arith, rest.exchanges);
    }

-- ---- the sums

since_less : (note : Note) (w : World) (s n : ℕ) → since_join w s note n ≤ n
since_less (Asked (Join i window start exponent weight)) w s n =
    go (is_none (refusal w (Asked (Join i window start exponent weight))) && (i == s))
  where
    go : (b : Bool) → (if b then 0 else n) ≤ n
    go true = omega arith
    go false = omega arith
since_less (Asked (Offload i exponent weight)) w s n =
    go (is_none (refusal w (Asked (Offload i exponent weight))) && (i == s))
  where
    go : (b : Bool) → (if b then 0 else n) ≤ n
    go true = omega arith
    go false = omega arith
since_less (Asked (Plain i start exponent weight)) w s n =
    go (is_none (refusal w (Asked (Plain i start exponent weight))) && (i == s))
  where
    go : (b : Bool) → (if b then 0 else n) ≤ n
    go true = omega arith
    go false = omega arith
since_less _ w s n = omega arith

charge_most : (air : Option ℕ) (s : ℕ) (c : Class) (o : Option Exchange) →
    IfSome o (λ x. charge_of air x ≤ greatest_charge) → charge_to s c air o ≤ greatest_charge
charge_most air s c None h = omega arith
charge_most air s c (Some x) h =
    at_most_if ((x.station == s) && same_class x.class c) (charge_of air x) greatest_charge h

if_found : (P : Exchange → Type 0) (o : Option Exchange) → ((x : Exchange) → o ≡ Some x → P x) → IfSome o P
if_found P None h = tt
if_found P (Some x) h = h x refl

unless_refused : (o : Option Refusal) (m n : ℕ) → (o ≡ None → m ≤ n) → (if is_none o then m else 0) ≤ n
unless_refused None m n h = h refl
unless_refused (Some r) m n h = omega arith

-- A call charges at most the greatest charge.
charge_step : (note : Note) (w : World) (s : ℕ) (c : Class) → IsKept (books w) →
    charge_by w s c note ≤ greatest_charge
charge_step (Asked (Done e heard air)) w s c k =
    unless_refused (refusal w (Asked (Done e heard air))) (charge_to s c air (exchange w e)) greatest_charge
    (λ fine. charge_most air s c (exchange w e)
    (if_found (λ x. charge_of air x ≤ greatest_charge) (exchange w e)
    (λ x found. omega (
      arith,
      charge_within w e x air k found (no_row (refusals w (Asked (Done e heard air))) fine).1.1.0,
      longest_within w.config x.class k.range,
    ))))
charge_step _ w s c k = omega arith

air_row : (s i : ℕ) (d c : Class) (air : ℕ) (w : World) (r : Option Refusal) →
    refusal w (Asked (Rx i d air)) ≡ r → (if is_none r && ((i == s) && same_class d c) then air else 0)
    ≤ greatest_air
air_row s i d c air w (Some r) e = omega arith
air_row s i d c air w None e =
    let row : NoRow (refusals w (Asked (Rx i d air))) = no_row (refusals w (Asked (Rx i d air))) e in
    at_most_if ((i == s) && same_class d c) air greatest_air
    (le_yes air greatest_air (and_parts _ _ (not-false _ row.1.0)).1)

-- A receive charge is at most the greatest airtime.
air_step : (note : Note) (w : World) (s : ℕ) (c : Class) → air_by w s c note ≤ greatest_air
air_step (Asked (Rx i d air)) w s c = air_row s i d c air w (refusal w (Asked (Rx i d air))) refl
air_step _ w s c = omega arith

charged_most : (h : List Entry) (w : World) (s : ℕ) (c : Class) (n : ℕ) → IsKept (books w) →
    charged_over w s c h n ≤ n + greatest_charge * length h
charged_most [] w s c n k = omega arith
charged_most (e ∷ es) w s c n k =
    let rest = charged_most es (step w e.1).world s c (since_join w s e.1 n + charge_by w s c e.1)
    (kept_step w e.1 k) in
    omega (arith, rest, since_less e.1 w s n, charge_step e.1 w s c k)

received_most : (h : List Entry) (w : World) (s : ℕ) (c : Class) (n : ℕ) →
    received_over w s c h n ≤ n + greatest_air * length h
received_most [] w s c n = omega arith
received_most (e ∷ es) w s c n =
    let rest = received_most es (step w e.1).world s c (since_join w s e.1 n + air_by w s c e.1) in
    omega (arith, rest, since_less e.1 w s n, air_step e.1 w s c)

take_most : (m : ℕ) (h : List Entry) → length (take m h) ≤ m
take_most zero h = omega arith
take_most (suc m) [] = omega arith
take_most (suc m) (e ∷ es) = omega (arith, take_most m es)

pub sum_law : (config : Config) (h : List Entry) → IsInRange config → SumLaw config h
sum_law config h range m =
    let n : ℕ = length (take m h) in
    let most : n ≤ m = take_most m h in
    let small : IsSmall (n + 0) (world_at config h m) =
    small_run (take m h) [] 0 (opening config) (steady_first config)
    (record { clock = omega arith; accepted = omega arith; exchanges = omega arith }) in
    record {
      clock = omega (arith, small.clock, most);
      accepted = omega (arith, small.accepted, most);
      exchanges = omega (arith, small.exchanges, most);
      shares = λ s c live.
          let a : HasAdded (charged_over (opening config) s c (take m h) 0)
          (received_over (opening config) s c (take m h) 0) (share (world_at config h m) s c) =
          added config (take m h) s c range live in
          record {
            charged = a.charged;
            received = a.received;
            most_charged = omega (
              arith,
              a.charged,
              charged_most (take m h) (opening config) s c 0
                  (kept_opening config range),
              most,
            );
            most_received = omega (arith, a.received, received_most (take m h) (opening config) s c 0, most);
          };
    }
