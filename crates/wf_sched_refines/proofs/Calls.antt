-- Proves that scheduler and world still agree after a whole call, by cases of the call and its refusal.
use Rattle.std.proofs.Common.{◌≡◌, refl, sym, subst, arith, ap, ◌∙◌, ℕ, ◌-◌, ◌*◌, ◌^◌, ◌<◌, ◌≤◌, ◌==◌, ℤ, pos, negsuc, ◌+ℤ◌, ◌-ℤ◌, ◌≤ℤ◌, Bool, true, false, if◌then◌else◌, List, take, Option, Some, None, eq-eqb}
use Rattle.std.proofs.lemmas.Bool.{leb-false}
use Rattle.std.proofs.lemmas.Int.{ints}
use Rattle.wf_frame.specs.declared.settings.Config.{Config}
use Rattle.wf_frame.specs.declared.classes.Class.{Class}
use Rattle.wf_frame.specs.declared.notes.Ask.TheVariants.{Join, Offload, Weight, Leave, Rate, Tick, Pull, Arrive, Answer, Done, Sleep, Wake, Poll, Rx, Reap, Ampdu, Stop, Start, Unsent, GiveUp, Flush, Plain, Hold, Begin, Free, Cease, Group, Service, Bss}
use Rattle.wf_frame.specs.declared.notes.Limits.{Limits}
use Rattle.wf_frame.specs.declared.notes.Note.{Note}
use Rattle.wf_frame.specs.declared.notes.Note.TheVariants.{Enqueue, Asked}
use Rattle.wf_frame.specs.declared.notes.Refusal.{Refusal}
use Rattle.wf_frame.specs.declared.notes.Refusal.TheVariants.{Idle}
use Rattle.wf_frame.specs.declared.settings.Field.TheVariants.{Legacy}
use Rattle.wf_frame.specs.Settings.{IsInRange, greatest_of}
use Rattle.wf_def_world.specs.World.{World, Exchange, opening, share, owed, pending_air, standing, is_live, exchange}
use Rattle.wf_def_world.specs.CanSend.{is_ready, is_to_list, with_listings_of}
use Rattle.wf_def_world.specs.Exchanges.{after_pick, bounds_of, picked_station}
use Rattle.wf_def_world.specs.Refusals.{refusal, refusals}
use Rattle.wf_def_world.specs.Step.{Outcome, outcome_where_open, done_outcome, arrive_outcome, answer_outcome, unsent_outcome, give_up_outcome, pull_outcome, outcome_of, concerned_station, after_refusal, judged_outcome, step}
use Rattle.wf_def_world.specs.Run.{Entry}
use Rattle.wf_def_world.specs.Stretches.{world_at}
use Rattle.wf_law_runs.specs.Numbers.{least_deficit, greatest_deficit, NumbersFit}
use Rattle.wf_law_runs.specs.Windows.{OpenRises, EachOpen}
use Rattle.wf_law_runs.proofs.Common.Picked.{picked_world}
use Rattle.wf_law_runs.proofs.Deficits.Configs.{config_run}
use Rattle.wf_law_runs.proofs.Deficits.KeptStep.{NoRow, no_row}
use Rattle.wf_law_runs.proofs.Deficits.Numbers.{deficit_within, number_law}
use Rattle.wf_sched.specs.ClassRotas.{SchedValue, deficit, after_join, after_station_left}
use Rattle.wf_sched_refines.specs.Standing.{SchedulerStandsFor, LeavesRotas, everywhere, with_deficit_charged, with_paid_back, with_pending_paid_back, with_weight, uncovered_air}
use Rattle.wf_sched_refines.specs.Calls.{HasPickedInClass, HasPulled, with_charge_of, IsCallDone, IsIdlePull, IsRefused, with_concerned}
use Rattle.wf_sched_refines.proofs.Owed.{part, part_own, found_number, owed_part, none_owed}
use Rattle.wf_sched_refines.proofs.Changes.{deficit_same}
use Rattle.wf_sched_refines.proofs.Charges.{receive_stands}
use Rattle.wf_sched_refines.proofs.Members.{join_stands, offload_stands, plain_stands, gone_stands}
use Rattle.wf_sched_refines.proofs.Weights.{weight_stands}
use Rattle.wf_sched_refines.proofs.Listings.{concerned_stands, unconcerned_stands}
use Rattle.wf_sched_refines.proofs.Picks.{pick_stands}
use Rattle.wf_sched_refines.proofs.Unchanged.{bounded_leaves, enqueued_leaves, rate_leaves, tick_leaves, arrived_leaves, answered_leaves, slept_leaves, woken_leaves, credited_leaves, reaped_leaves, stated_leaves, stopped_leaves, started_leaves, unsent_leaves, given_up_leaves, flushed_leaves, held_leaves, begun_leaves, freed_leaves, ceased_leaves, grouped_leaves, served_leaves, moved_leaves}
use Rattle.wf_sched_refines.proofs.Exchanges.{winner_stands, end_stands}

-- ---- a call that is not refused

to : (v u : SchedValue) (w : World) → u ≡ v → SchedulerStandsFor v w → SchedulerStandsFor u w
to v u w e h = subst (λ (x : SchedValue). SchedulerStandsFor x w) (sym e) h

picked_stands : (v u : SchedValue) (w : World) (c : Class) → SchedulerStandsFor v w →
    HasPickedInClass w c v u → SchedulerStandsFor u (after_pick w c)
picked_stands v u w c h k = pick_stands v u w c k.ready h k.tells k.turned k.others

ended_stands : (o : Option Exchange) (v : SchedValue) (w : World) (e : ℕ) (heard : Bool) (air : Option ℕ) →
    exchange w e ≡ o → OpenRises 0 w.exchanges w.opened → SchedulerStandsFor v w →
    SchedulerStandsFor (with_charge_of w.config v air o)
    (outcome_where_open w o (λ x. done_outcome w x heard air)).world
unfolding outcome_where_open
ended_stands None v w e heard air is rises h = h
ended_stands (Some x) v w e heard air is rises h = end_stands v w x heard air
    (subst (λ (n : ℕ). exchange w n ≡ Some x) (sym (found_number w.opened x e is)) is) rises h

open_leaves : (o : Option Exchange) (w : World) (f : Exchange → Outcome) →
    ((x : Exchange) → o ≡ Some x → LeavesRotas w (f x).world) → LeavesRotas w (outcome_where_open w o f).world
unfolding outcome_where_open
open_leaves None w f k v h = h
open_leaves (Some x) w f k v h = k x refl v h

pulled_stands : (v u : SchedValue) (w : World) (c : Class) (l : Limits) → SchedulerStandsFor v w →
    HasPulled w c l v u → SchedulerStandsFor u (pull_outcome w c l).world
unfolding pull_outcome
pulled_stands v u w c l h k = to _ u _ k.sent (winner_stands k.picked (picked_world w c l) c
    (picked_station w c).winner
    (bounded_leaves (after_pick w c) (bounds_of w.config c l) k.picked
    (picked_stands v k.picked w c h k.turned)))

-- a station that is not live has no open exchange
none_open : (w : World) (s : ℕ) → EachOpen (λ x. is_live w x.station ≡ true) w.opened → is_live w s ≡ false →
    (c : Class) → owed s c w.opened ≡ 0
none_open w s each off c = none_owed (is_live w) w.opened s c each off

done_stands : (note : Note) (v u : SchedValue) (w : World) → NoRow (refusals w note) →
    OpenRises 0 w.exchanges w.opened → EachOpen (λ x. is_live w x.station ≡ true) w.opened →
    SchedulerStandsFor v w → IsCallDone w note v u → SchedulerStandsFor u (outcome_of w note).world
unfolding outcome_of
done_stands (Enqueue s t flow len) v u w rows rises each h k = to v u _ k (enqueued_leaves w s t flow len v h)
done_stands (Asked (Join s window start exponent weight)) v u w rows rises each h k =
    to (everywhere (after_join s (v.quantum * weight)) v) u _ k
    (join_stands v w s window start exponent weight h (leb-false _ _ rows.0)
    (none_open w s each rows.1.1.1.1.1.0))
done_stands (Asked (Offload s exponent weight)) v u w rows rises each h k =
    to (everywhere (after_join s (v.quantum * weight)) v) u _ k
    (offload_stands v w s exponent weight h (leb-false _ _ rows.0) (none_open w s each rows.1.1.1.0))
done_stands (Asked (Plain s start exponent weight)) v u w rows rises each h k =
    to (everywhere (after_join s (v.quantum * weight)) v) u _ k
    (plain_stands v w s start exponent weight h (leb-false _ _ rows.0)
    (none_open w s each rows.1.1.1.1.0))
done_stands (Asked (Weight s weight)) v u w rows rises each h k =
    to (with_weight (uncovered_air w s) s weight v) u _ k (weight_stands v w s weight h)
done_stands (Asked (Leave s)) v u w rows rises each h k =
    to (everywhere (after_station_left s) v) u _ k (gone_stands v w s h)
done_stands (Asked (Rate s rate)) v u w rows rises each h k = to v u _ k (rate_leaves w s rate v h)
done_stands (Asked (Tick by)) v u w rows rises each h k = to v u _ k (tick_leaves w by v h)
done_stands (Asked (Pull c l)) v u w rows rises each h k = pulled_stands v u w c l h k
done_stands (Asked (Arrive e i)) v u w rows rises each h k =
    to v u _ k (open_leaves (exchange w e) w (λ x. arrive_outcome w x i)
    (λ x is. arrived_leaves w x e i is rises) v h)
done_stands (Asked (Answer e)) v u w rows rises each h k =
    to v u _ k (open_leaves (exchange w e) w (λ x. answer_outcome w x)
    (λ x is. answered_leaves w x e is rises) v h)
done_stands (Asked (Done e heard air)) v u w rows rises each h k =
    to (with_charge_of w.config v air (exchange w e)) u _ k
    (ended_stands (exchange w e) v w e heard air refl rises h)
done_stands (Asked (Sleep s)) v u w rows rises each h k = to v u _ k (slept_leaves w s v h)
done_stands (Asked (Ampdu s octets)) v u w rows rises each h k = to v u _ k (stated_leaves w s octets v h)
done_stands (Asked (Stop s)) v u w rows rises each h k = to v u _ k (stopped_leaves w s v h)
done_stands (Asked (Start s)) v u w rows rises each h k = to v u _ k (started_leaves w s v h)
done_stands (Asked (Unsent e i)) v u w rows rises each h k =
    to v u _ k (open_leaves (exchange w e) w (λ x. unsent_outcome w x i)
    (λ x is. unsent_leaves w x e i is rises) v h)
done_stands (Asked (GiveUp e i)) v u w rows rises each h k =
    to v u _ k (open_leaves (exchange w e) w (λ x. give_up_outcome w x i)
    (λ x is. given_up_leaves w x e i is rises) v h)
done_stands (Asked (Flush s t)) v u w rows rises each h k = to v u _ k (flushed_leaves w s t v h)
done_stands (Asked (Hold s t)) v u w rows rises each h k = to v u _ k (held_leaves w s t v h)
done_stands (Asked (Begin s t window)) v u w rows rises each h k =
    to v u _ k (begun_leaves w s t window v h)
done_stands (Asked (Free s t)) v u w rows rises each h k = to v u _ k (freed_leaves w s t v h)
done_stands (Asked (Cease s t)) v u w rows rises each h k = to v u _ k (ceased_leaves w s t v h)
done_stands (Asked (Wake s)) v u w rows rises each h k = to v u _ k (woken_leaves w s v h)
done_stands (Asked (Poll s)) v u w rows rises each h k = to v u _ k (credited_leaves w s v h)
done_stands (Asked (Rx s c air)) v u w rows rises each h k =
    to (with_deficit_charged v s c air) u _ k (receive_stands v w s c air h)
done_stands (Asked Reap) v u w rows rises each h k = to v u _ k (reaped_leaves w w.finished v h)
done_stands (Asked (Group ask)) v u w rows rises each h k = to v u _ k (grouped_leaves w ask v h)
done_stands (Asked (Service ask)) v u w rows rises each h k = to v u _ k (served_leaves w ask v h)
done_stands (Asked (Bss s b)) v u w rows rises each h k = to v u _ k (moved_leaves w s b v h)

concerned_listed : (o : Option ℕ) (u : SchedValue) (w : World) → SchedulerStandsFor u w →
    SchedulerStandsFor (with_concerned w o u) (with_listings_of w o)
concerned_listed None u w h = unconcerned_stands u w h
concerned_listed (Some s) u w h = concerned_stands u w s (λ c. is_to_list w c s) (λ c. is_ready w c s)
    (λ c. refl)
    (λ c. refl) h

answered_stands : (v u : SchedValue) (w : World) (note : Note) → NoRow (refusals w note) →
    OpenRises 0 w.exchanges w.opened → EachOpen (λ x. is_live w x.station ≡ true) w.opened →
    SchedulerStandsFor v w → IsCallDone w note v u →
    SchedulerStandsFor (with_concerned (outcome_of w note).world (concerned_station w note) u)
    (judged_outcome w note None).world
unfolding judged_outcome
answered_stands v u w note rows rises each h k =
    concerned_listed (concerned_station w note) u (outcome_of w note).world
    (done_stands note v u w rows rises each h k)

pub call_stands : (v u : SchedValue) (w : World) (note : Note) → refusal w note ≡ None →
    OpenRises 0 w.exchanges w.opened → EachOpen (λ x. is_live w x.station ≡ true) w.opened →
    SchedulerStandsFor v w → IsCallDone w note v u →
    SchedulerStandsFor (with_concerned (outcome_of w note).world (concerned_station w note) u)
    (step w note).world
unfolding step
call_stands v u w note e rises each h k = subst (λ (o : Option Refusal).
    SchedulerStandsFor (with_concerned (outcome_of w note).world (concerned_station w note) u)
    (judged_outcome w note o).world) (sym e)
    (answered_stands v u w note (no_row (refusals w note) e) rises each h k)

-- ---- a call that is refused

idle_stands : (p : Bool) (v u : SchedValue) (w : World) (c : Class) → SchedulerStandsFor v w →
    IsIdlePull p w c v u → SchedulerStandsFor u (if p then w else after_pick w c)
idle_stands true v u w c h k = to v u w k h
idle_stands false v u w c h k = picked_stands v u w c h k

refused_stands : (note : Note) (r : Refusal) (v u : SchedValue) (w : World) → SchedulerStandsFor v w →
    IsRefused w note r v u → SchedulerStandsFor u (after_refusal w note r)
unfolding after_refusal
refused_stands (Asked (Pull c l)) Idle v u w h k = idle_stands (w.config.pending == 1) v u w c h k
refused_stands _ _ v u w h k = to v u w k h

refusal_answered : (v u : SchedValue) (w : World) (note : Note) (r : Refusal) → SchedulerStandsFor v w →
    IsRefused w note r v u → SchedulerStandsFor u (judged_outcome w note (Some r)).world
unfolding judged_outcome
refusal_answered v u w note r h k = refused_stands note r v u w h k

pub refusal_stands : (v u : SchedValue) (w : World) (note : Note) (r : Refusal) → refusal w note ≡ Some r →
    SchedulerStandsFor v w → IsRefused w note r v u → SchedulerStandsFor u (step w note).world
unfolding step
refusal_stands v u w note r e h k = subst (λ (o : Option Refusal).
    SchedulerStandsFor u (judged_outcome w note o).world) (sym e) (refusal_answered v u w note r h k)

-- ---- the limits of the numbers

-- a live station's deficit is its standing, whose limits the law of numbers states
module _ (history : List Entry) (w : World) (v : SchedValue) (fits : NumbersFit history w)
    (h : SchedulerStandsFor v w) where
  deficit_least : (s : ℕ) (c : Class) → is_live w s ≡ true → least_deficit ≤ℤ deficit v c s
  deficit_least s c is = subst (λ (z : ℤ). least_deficit ≤ℤ z) (sym (h.deficits s c is))
      (fits.standings s c is).0

  charge_within : (s : ℕ) (c : Class) (air : ℕ) → is_live w s ≡ true → air < 2 ^ 32 →
      negsuc (2 ^ 62 - 1) ≤ℤ (deficit v c s -ℤ pos air)
  charge_within s c air is low = omega (arith, ints, deficit_least s c is)

  charge_within_later : (config : Config) (s : ℕ) (c : Class) (back air : ℕ) → is_live w s ≡ true →
      air < 2 ^ 32 →
      negsuc (2 ^ 62 - 1) ≤ℤ (deficit (with_pending_paid_back config v s c back) c s -ℤ pos air)
  charge_within_later config s c back air is low = go (config.pending == 1)
    where
      go : (p : Bool) → negsuc (2 ^ 62 - 1)
          ≤ℤ (deficit (if p then with_paid_back v s c back else v) c s -ℤ pos air)
      go false = charge_within s c air is low
      go true = let same : deficit (with_paid_back v s c back) c s ≡ deficit v c s +ℤ pos back =
          deficit_same v c s _ h.sized (omega (arith, h.live s is, h.stations)) in
          omega (arith, ints, same, deficit_least s c is)

  -- the airtime that an open exchange took off is a part of the airtime in flight, so the deficit of the
  -- world is above it
  pay_back_within : (e : ℕ) (x : Exchange) → exchange w e ≡ Some x → w.config.pending ≡ 1 →
      is_live w x.station ≡ true → (deficit v x.class x.station +ℤ pos x.charge) ≤ℤ pos (2 ^ 32 - 1)
  pay_back_within e x known on is =
      let s : ℕ = x.station in
      let c : Class = x.class in
      let all : pending_air w s c ≡ owed s c w.opened =
      ap (λ (p : Bool). if p then owed s c w.opened else 0) (eq-eqb w.config.pending 1 on) in
      let here : part s c x ≤ owed s c w.opened = owed_part w.opened x e s c known in
      let own : part s c x ≡ x.charge = part_own x in
      let stands : deficit v c s ≡ standing w s c = h.deficits s c is in
      let most : (share w s c).deficit ≤ℤ greatest_deficit w.config.legacy = (fits.deficits s c is).1 in
      let few : greatest_deficit w.config.legacy ≤ℤ greatest_deficit (greatest_of Legacy) =
      deficit_within w.config.legacy in
      omega (arith, ints)

-- ---- the worlds of a run

-- a live station's deficit minus any charge of 32 bits is far from the least number of 64 bits
pub charge_fits : (config : Config) (history : List Entry) (m : ℕ) (v : SchedValue) (s : ℕ) (c : Class)
    (air : ℕ) → IsInRange config → SchedulerStandsFor v (world_at config history m) →
    is_live (world_at config history m) s ≡ true → air < 2 ^ 32 →
    negsuc (2 ^ 62 - 1) ≤ℤ (deficit v c s -ℤ pos air)
charge_fits config history m v s c air range h =
    charge_within history (world_at config history m) v (number_law config history range m) h s c air

-- the same after any airtime is paid back
pub charge_fits_later : (config : Config) (history : List Entry) (m : ℕ) (v : SchedValue) (s : ℕ) (c : Class)
    (back air : ℕ) → IsInRange config → SchedulerStandsFor v (world_at config history m) →
    is_live (world_at config history m) s ≡ true → air < 2 ^ 32 →
    negsuc (2 ^ 62 - 1) ≤ℤ (deficit (with_pending_paid_back config v s c back) c s -ℤ pos air)
charge_fits_later config history m v s c back air range h = charge_within_later history
    (world_at config history m) v (number_law config history range m) h config s c back air

-- what an open exchange took off is paid back: the deficit stays below 2^32
pub pay_back_fits : (config : Config) (history : List Entry) (m e : ℕ) (v : SchedValue) (x : Exchange) →
    IsInRange config → SchedulerStandsFor v (world_at config history m) →
    exchange (world_at config history m) e ≡ Some x → config.pending ≡ 1 →
    is_live (world_at config history m) x.station ≡ true →
    (deficit v x.class x.station +ℤ pos x.charge) ≤ℤ pos (2 ^ 32 - 1)
pay_back_fits config history m e v x range h known on is =
    let same : (world_at config history m).config ≡ config = config_run (take m history) (opening config) in
    pay_back_within history (world_at config history m) v (number_law config history range m) h e x known
    (ap (λ (k : Config). k.pending) same ∙ on) is
