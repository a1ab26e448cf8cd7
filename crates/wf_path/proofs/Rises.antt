-- Proves that no count of a path rises by more than 10,000,000 in a call, from the laws of the sums over a
-- run.
use Rattle.std.proofs.Common.{◌≡◌, refl, ap, sym, ◌∙◌, subst, arith, ℕ, ◌+◌, ◌*◌, ◌≤◌, ◌<◌, ◌==◌, ◌&&◌, Bool, true, false, if◌then◌else◌, List, [], ◌∷◌, ◌++◌, Option, Some, None, is_some, is_none, IfSome, unwrap_or, inl, inr, ◌⊎◌}
use Rattle.std.proofs.lemmas.Bool.{and_parts, not-false}
use Rattle.wf_frame.specs.Classes.{same_class}
use Rattle.wf_frame.specs.Frames.{FrameValue}
use Rattle.wf_frame.specs.Settings.{IsInRange}
use Rattle.wf_frame.specs.declared.classes.Class.{Class}
use Rattle.wf_frame.specs.declared.notes.Ask.TheVariants.{Join, Offload, Plain, Done, Rx}
use Rattle.wf_frame.specs.declared.notes.Note.{Note}
use Rattle.wf_frame.specs.declared.notes.Note.TheVariants.{Enqueue, Asked}
use Rattle.wf_frame.specs.declared.notes.Refusal.{Refusal}
use Rattle.wf_frame.specs.declared.notes.ReplyNote.{ReplyNote}
use Rattle.wf_frame.specs.declared.settings.Config.{Config}
use Rattle.wf_def_lists.specs.Bounds.{greatest_tick, greatest_air}
use Rattle.wf_frame.specs.declared.notes.GroupAsk.{GroupAsk}
use Rattle.wf_frame.specs.declared.notes.GroupAsk.TheVariants as group
use Rattle.wf_def_lists.specs.Table.{at}
use Rattle.wf_def_world.specs.Group.{GroupState, no_group, group_after}
use Rattle.wf_def_world.specs.World.{World, Station, Exchange, no_station, accepted_count, exchange, share, is_live, group_of, opening}
use Rattle.wf_def_world.specs.Refusals.{refusal, refusals}
use Rattle.wf_def_world.specs.Run.{Entry, by, world_after}
use Rattle.wf_def_world.specs.Step.{step}
use Rattle.wf_def_world.specs.Stretches.{charge_to, charge_by}
use Rattle.wf_law_rules.proofs.Lemmas.Numbers.{on_bool, le_yes}
use Rattle.wf_law_runs.specs.Numbers.{greatest_charge}
use Rattle.wf_law_runs.specs.Sums.{since_join, air_by, charged_over, received_over}
use Rattle.wf_law_runs.proofs.Deficits.Numbers.{longest_within}
use Rattle.wf_law_runs.proofs.Groups.Steps.{group_step}
use Rattle.wf_law_runs.proofs.Frames.Fates.{brought, steady_run, steady_first, counted_step, world_after-append}
use Rattle.wf_law_runs.proofs.Sums.Airtime.{HasAdded, added}
use Rattle.wf_law_runs.proofs.Sums.Counters.{counts_step}
use Rattle.wf_law_runs.proofs.Windows.Agreed.{lawful}
use Rattle.wf_law_runs.proofs.Windows.Opened.{NoRow, no_row}
use Rattle.wf_sched_refines.specs.Standing.{share_in}
use Rattle.wf_send_parts.specs.Group.{group_air_limit}
use Rattle.wf_send_parts.specs.Members.{member, charged_in, received_in}
use Rattle.wf_send_parts.specs.Tally.{Counts}
use Rattle.wf_send_parts.specs.declared.stations.members.Member.{Member}
use Rattle.wf_send_half_model.specs.Half.{TransmitValue}
use Rattle.wf_send_half_model.specs.Standing.{StandsFor, Meets, IsReached, AreBoth, IsMember}
use Rattle.wf_path.specs.Paths.{IsPath, HasCountsBelow, RiseLittle}
use Rattle.wf_path.proofs.Joining.{new_sum}
use Rattle.wf_def_world.specs.Exchanges.{charge_of}
use Rattle.wf_law_runs.proofs.Deficits.KeptStep.{charge_within, kept}
use Rattle.wf_law_runs.proofs.Deficits.Kept.{IsKept}
use Rattle.wf_law_runs.proofs.Deficits.Books.{books}

-- ---- the rise by one call

at_most_if : (b : Bool) (m n : ℕ) → m ≤ n → (if b then m else 0) ≤ n
at_most_if true m n h = h
at_most_if false m n h = omega arith

brought_one : (note : Note) → brought note ≤ 1
brought_one (Enqueue s t flow len) = omega arith
brought_one (Asked ask) = omega arith

kept_or_none : (b : Bool) (n : ℕ) → (if b then 0 else n) ≤ n
kept_or_none true n = omega arith
kept_or_none false n = omega arith

since_less : (note : Note) (w : World) (s n : ℕ) → since_join w s note n ≤ n
since_less (Asked (Join i window start exponent weight)) w s n =
    kept_or_none (is_none (refusal w (Asked (Join i window start exponent weight))) && (i == s)) n
since_less (Asked (Offload i exponent weight)) w s n =
    kept_or_none (is_none (refusal w (Asked (Offload i exponent weight))) && (i == s)) n
since_less (Asked (Plain i start exponent weight)) w s n =
    kept_or_none (is_none (refusal w (Asked (Plain i start exponent weight))) && (i == s)) n
since_less _ w s n = omega arith

charged_most : (air : Option ℕ) (s : ℕ) (c : Class) (o : Option Exchange) →
    IfSome o (λ x. charge_of air x ≤ greatest_charge) → charge_to s c air o ≤ greatest_charge
charged_most air s c None h = omega arith
charged_most air s c (Some x) h =
    at_most_if ((x.station == s) && same_class x.class c) (charge_of air x) greatest_charge h

if_found : (P : Exchange → Type 0) (o : Option Exchange) → ((x : Exchange) → o ≡ Some x → P x) → IfSome o P
if_found P None h = tt
if_found P (Some x) h = h x refl

unless_refused : (o : Option Refusal) (m n : ℕ) → (o ≡ None → m ≤ n) → (if is_none o then m else 0) ≤ n
unless_refused None m n h = h refl
unless_refused (Some r) m n h = omega arith

charge_little : (note : Note) (w : World) (s : ℕ) (c : Class) → IsKept (books w) →
    charge_by w s c note ≤ greatest_charge
charge_little (Asked (Done e heard air)) w s c k =
    unless_refused (refusal w (Asked (Done e heard air))) (charge_to s c air (exchange w e)) greatest_charge
    (λ fine. charged_most air s c (exchange w e) (if_found (λ x. charge_of air x ≤ greatest_charge)
    (exchange w e) (λ x found. omega (
      arith,
      charge_within w e x air k found (no_row (refusals w (Asked (Done e heard air))) fine).1.1.0,
      longest_within w.config x.class k.range,
    ))))
charge_little _ w s c k = omega arith

air_row : (s i : ℕ) (d c : Class) (air : ℕ) (w : World) (r : Option Refusal) →
    refusal w (Asked (Rx i d air)) ≡ r → (if is_none r && ((i == s) && same_class d c) then air else 0)
    ≤ greatest_air
air_row s i d c air w (Some r) e = omega arith
air_row s i d c air w None e =
    let row : NoRow (refusals w (Asked (Rx i d air))) = no_row (refusals w (Asked (Rx i d air))) e in
    at_most_if ((i == s) && same_class d c) air greatest_air
    (le_yes air greatest_air (and_parts _ _ (not-false _ row.1.0)).1)

air_little : (note : Note) (w : World) (s : ℕ) (c : Class) → air_by w s c note ≤ greatest_air
air_little (Asked (Rx i d air)) w s c = air_row s i d c air w (refusal w (Asked (Rx i d air))) refl
air_little _ w s c = omega arith

-- ---- one more entry

charged_then : (h : List Entry) (w : World) (s : ℕ) (c : Class) (e : Entry) (n : ℕ) →
    charged_over w s c (h ++ e ∷ []) n
    ≡ since_join (world_after w h) s e.1 (charged_over w s c h n) + charge_by (world_after w h) s c e.1
unfolding world_after
charged_then [] w s c e n = refl
charged_then (x ∷ h) w s c e n = charged_then h (step w x.1).world s c e
    (since_join w s x.1 n + charge_by w s c x.1)

received_then : (h : List Entry) (w : World) (s : ℕ) (c : Class) (e : Entry) (n : ℕ) →
    received_over w s c (h ++ e ∷ []) n
    ≡ since_join (world_after w h) s e.1 (received_over w s c h n) + air_by (world_after w h) s c e.1
unfolding world_after
received_then [] w s c e n = refl
received_then (x ∷ h) w s c e n = received_then h (step w x.1).world s c e
    (since_join w s x.1 n + air_by w s c x.1)

one_more : (w : World) (e : Entry) → world_after w (e ∷ []) ≡ (step w e.1).world
unfolding world_after
one_more w e = refl

-- ---- the counts of group frames

-- the counts of group frames are below n
record GroupIsBelow (n : ℕ) (g : GroupState) : Type 0 where
  accepted : g.accepted < n
  number : g.number < n
  sent : group_air_limit * g.sent < n

-- h has at most one accepted and one sent frame more than g, and at most one number
pub record HasOneMore (g h : GroupState) : Type 0 where
  pub accepted : h.accepted ≤ g.accepted + 1
  pub number : h.number ≤ g.number + 1
  pub sent : h.sent ≤ g.sent + 1

one_call_more : (ask : GroupAsk) (config : Config) (g : GroupState) → HasOneMore g (group_after config ask g)
one_call_more (group.Accept len) config g =
    record { accepted = omega arith; number = omega arith; sent = omega arith }
one_call_more group.Beacon config g =
    record { accepted = omega arith; number = omega arith; sent = omega arith }
one_call_more group.Pull config g =
    record { accepted = omega arith; number = omega arith; sent = omega arith }
one_call_more group.Done config g =
    record { accepted = omega arith; number = omega arith; sent = omega arith }

pub one_step_more : (w : World) (note : Note) (b : ℕ) →
    HasOneMore (group_of w b) (group_of (step w note).world b)
one_step_more w note b = elim (group_step note w b) [
  | inl quiet ↦ subst (HasOneMore (group_of w b)) (sym quiet.same)
      (record { accepted = omega arith; number = omega arith; sent = omega arith })
  | inr called ↦ subst (HasOneMore (group_of w b)) (sym called.1.after)
      (one_call_more called.0 w.config (group_of w b))
]

-- ---- the counts of a world

-- the counts of w are below n
record AreBelow (n : ℕ) (w : World) : Type 0 where
  clock : w.clock < n
  exchanges : w.exchanges < n
  accepted : accepted_count w < n
  charged : (s : ℕ) (c : Class) → is_live w s ≡ true → (share w s c).charged < n
  received : (s : ℕ) (c : Class) → is_live w s ≡ true → (share w s c).received < n
  group : (b : ℕ) → GroupIsBelow n (group_of w b)

module _ (config : Config) (h : List Entry) (note : Note) (range : IsInRange config) where
  abbrev w : World
  w = world_after (opening config) h

  abbrev longer : List Entry
  longer = h ++ by 0 note ∷ []

  longer_is : world_after (opening config) longer ≡ (step w note).world
  longer_is = world_after-append h (opening config) (by 0 note ∷ []) ∙ one_more w (by 0 note)

  added_then : (s : ℕ) (c : Class) → is_live (step w note).world s ≡ true →
      HasAdded (charged_over (opening config) s c longer 0) (received_over (opening config) s c longer 0)
      (share (step w note).world s c)
  added_then s c live = subst (λ (u : World). HasAdded (charged_over (opening config) s c longer 0)
      (received_over (opening config) s c longer 0) (share u s c)) longer_is
      (added config longer s c range (subst (λ (u : World). is_live u s ≡ true) (sym longer_is) live))

  -- a sum that a call resets or keeps, and then adds little to
  sum_little : (n old new since by_call : ℕ) → new ≡ since + by_call → by_call ≤ greatest_tick → 0 < n →
      (since ≡ 0) ⊎ ((since ≤ old) × (old < n)) → new < n + greatest_tick
  sum_little n old new since by_call is little some (inl none) = omega (arith, is, little, some, none)
  sum_little n old new since by_call is little some (inr less) = omega (arith, is, little, less.0, less.1)

  since_as : (s n x : ℕ) → is_live (step w note).world s ≡ true → (is_live w s ≡ true → x < n) →
      (since_join w s note x ≡ 0) ⊎ ((since_join w s note x ≤ x) × (x < n))
  since_as s n x live before = on_bool (is_live w s)
      (λ was. inr (since_less note w s x, before was))
      (λ dead. inl (new_sum w note s x (lawful config h) dead live))

  below_step : (n : ℕ) → AreBelow n w → AreBelow (n + greatest_tick) (step w note).world
  below_step n k =
      let some : 0 < n = omega (arith, k.clock) in
      let counts = counts_step w.clock w.exchanges w note (omega arith, omega arith) in
      let frames = (counted_step _ w note (steady_run h [] (opening config) (steady_first config))).0 in
      let few = at_most_if (is_none (refusal w note)) (brought note) 1 (brought_one note) in
      record {
        clock = omega (arith, counts.0, k.clock);
        exchanges = omega (arith, counts.1, k.exchanges);
        accepted = omega (arith, frames, few, k.accepted);
        charged = λ s c live.
            let old : ℕ = charged_over (opening config) s c h 0 in
            sum_little n old _ (since_join w s note old) (charge_by w s c note)
            ((added_then s c live).charged ∙ charged_then h (opening config) s c (by 0 note) 0)
            (omega (arith, charge_little note w s c (kept config h range))) some
            (since_as s n old live (λ was. omega (
              arith,
              (added config h s c range was).charged,
              k.charged s c was,
            )));
        received = λ s c live.
            let old : ℕ = received_over (opening config) s c h 0 in
            sum_little n old _ (since_join w s note old) (air_by w s c note)
            ((added_then s c live).received ∙ received_then h (opening config) s c (by 0 note) 0)
            (omega (arith, air_little note w s c)) some
            (since_as s n old live (λ was. omega (
              arith,
              (added config h s c range was).received,
              k.received s c was,
            )));
        group = λ b. (let more : HasOneMore (group_of w b) (group_of (step w note).world b) =
            one_step_more w note b in
            record {
              accepted = omega (arith, more.accepted, (k.group b).accepted);
              number = omega (arith, more.number, (k.group b).number);
              sent = omega (arith, more.sent, (k.group b).sent);
            });
      }

-- for any world of a run
reached_below : (w : World) (note : Note) → IsReached w → (n : ℕ) → AreBelow n w →
    AreBelow (n + greatest_tick) (step w note).world
reached_below w note r n =
    subst (λ (u : World). AreBelow n u → AreBelow (n + greatest_tick) (step u note).world) (sym r.after)
    (below_step w.config r.history note r.in_range n)

-- ---- the counts of a path

member_below : (P : Member → Type 0) (m : Option Member) (x : Option Station) → AreBoth IsMember m x →
    ((k : Member) (y : Station) → x ≡ Some y → IsMember k y → P k) → IfSome m P
member_below P None x both each = tt
member_below P (Some k) None both each = absurd both
member_below P (Some k) (Some y) both each = each k y refl both

share_below : (f : Member → ℕ) (g : Station → ℕ) (n : ℕ) (m : Option Member) (x : Option Station) →
    AreBoth IsMember m x → ((k : Member) (y : Station) → IsMember k y → f k ≡ g y) → is_some x ≡ true →
    IfSome m (λ k. f k < n) → g (unwrap_or x no_station) < n
share_below f g n m None both same live h = absurd (cc live)
share_below f g n None (Some y) both same live h = absurd both
share_below f g n (Some k) (Some y) both same live h = subst (λ (m : ℕ). m < n) (same k y both) h

module _ (v : TransmitValue) (w : World) (bodies : ℕ → FrameValue) (st : StandsFor v w bodies) (n : ℕ) where
  world_below : HasCountsBelow n v → AreBelow n w
  world_below h =
      let o = st.parts.others in
      record {
        clock = omega (arith, o.clock, h.clock);
        exchanges = omega (arith, o.exchanges, h.exchanges);
        accepted = omega (arith, ap (λ (t : Counts). t.accepted) o.tally, h.accepted);
        charged = λ s c live. share_below (λ m. charged_in m c) (λ y. (share_in y c).charged) n
            (member v.members s) (at None w.stations s) (o.stations.live s) (λ k y is. is.charged c) live
            (h.charged s c);
        received = λ s c live. share_below (λ m. received_in m c) (λ y. (share_in y c).received) n
            (member v.members s) (at None w.stations s) (o.stations.live s) (λ k y is. is.received c) live
            (h.received s c);
        group = λ b. record {
          accepted = omega (
            arith,
            ap (λ (g : GroupState). g.accepted) (o.groups.each b),
            (h.group b).accepted,
          );
          number = omega (arith, ap (λ (g : GroupState). g.number) (o.groups.each b), (h.group b).number);
          sent = omega (arith, ap (λ (g : GroupState). g.sent) (o.groups.each b), (h.group b).sent);
        };
      }

  path_below : AreBelow n w → HasCountsBelow n v
  path_below h =
      let o = st.parts.others in
      record {
        clock = omega (arith, o.clock, h.clock);
        exchanges = omega (arith, o.exchanges, h.exchanges);
        accepted = omega (arith, ap (λ (t : Counts). t.accepted) o.tally, h.accepted);
        charged = λ s c. member_below (λ m. charged_in m c < n) (member v.members s) (at None w.stations s)
            (o.stations.live s) (λ k y there is. subst (λ (m : ℕ). m < n) (sym (is.charged c))
            (subst (λ (x : Option Station). (share_in (unwrap_or x no_station) c).charged < n) there
            (h.charged s c (ap is_some there))));
        received = λ s c. member_below (λ m. received_in m c < n) (member v.members s) (at None w.stations s)
            (o.stations.live s) (λ k y there is. subst (λ (m : ℕ). m < n) (sym (is.received c))
            (subst (λ (x : Option Station). (share_in (unwrap_or x no_station) c).received < n) there
            (h.received s c (ap is_some there))));
        group = λ b. record {
          accepted = omega (
            arith,
            ap (λ (g : GroupState). g.accepted) (o.groups.each b),
            (h.group b).accepted,
          );
          number = omega (arith, ap (λ (g : GroupState). g.number) (o.groups.each b), (h.group b).number);
          sent = omega (arith, ap (λ (g : GroupState). g.sent) (o.groups.each b), (h.group b).sent);
        };
      }

-- v represents a world before a call, and u the world after it
pub rise_little : (v u : TransmitValue) (w : World) (bodies after : ℕ → FrameValue) (note : Note) →
    StandsFor v w bodies → StandsFor u (step w note).world after → RiseLittle v u
rise_little v u w bodies after note h k n small = path_below u (step w note).world after k (n + greatest_tick)
    (reached_below w note h.reached n (world_below v w bodies h n small))

-- the same for a path that answers a call as the machine does
pub rises_by : (v u : TransmitValue) (p : IsPath v) (after : ℕ → FrameValue) (note : Note)
    (reply : ReplyNote) → Meets p.world after note u reply → RiseLittle v u
rises_by v u p after note reply m = rise_little v u p.world p.bodies after note p.stands m.stands

-- a bound holds with a greater number
still_less : (f : Member → ℕ) (n k : ℕ) (o : Option Member) → n ≤ k → IfSome o (λ m. f m < n) →
    IfSome o (λ m. f m < k)
still_less f n k None more h = tt
still_less f n k (Some m) more h = omega (arith, more, h)

pub below_more : (v : TransmitValue) (n k : ℕ) → n ≤ k → HasCountsBelow n v → HasCountsBelow k v
below_more v n k more h = record {
  clock = omega (arith, more, h.clock);
  exchanges = omega (arith, more, h.exchanges);
  accepted = omega (arith, more, h.accepted);
  charged = λ s c. still_less (λ m. charged_in m c) n k (member v.members s) more (h.charged s c);
  received = λ s c. still_less (λ m. received_in m c) n k (member v.members s) more (h.received s c);
  group = λ b. record {
    accepted = omega (arith, more, (h.group b).accepted);
    number = omega (arith, more, (h.group b).number);
    sent = omega (arith, more, (h.group b).sent);
  };
}

-- unchanged counts do not rise
pub no_rise : (v : TransmitValue) → RiseLittle v v
no_rise v n = below_more v n (n + greatest_tick) (omega arith)

-- ---- calls that leave all counts as they are

-- u has the stations and the group frames of w and as many accepted frames, and its clock and its number of
-- exchanges equal those of w
pub record KeepsCounts (w u : World) : Type 0 where
  pub clock : u.clock ≡ w.clock
  pub exchanges : u.exchanges ≡ w.exchanges
  pub accepted : accepted_count u ≡ accepted_count w
  pub stations : u.stations ≡ w.stations
  pub groups : u.groups ≡ w.groups

below_kept : (n : ℕ) (w u : World) → KeepsCounts w u → AreBelow n w → AreBelow n u
below_kept n w u k h = record {
  clock = omega (arith, k.clock, h.clock);
  exchanges = omega (arith, k.exchanges, h.exchanges);
  accepted = omega (arith, k.accepted, h.accepted);
  charged = λ s c. subst (λ (xs : List (Option Station)). is_some (at None xs s) ≡ true →
      (share_in (unwrap_or (at None xs s) no_station) c).charged < n) (sym k.stations) (h.charged s c);
  received = λ s c. subst (λ (xs : List (Option Station)). is_some (at None xs s) ≡ true →
      (share_in (unwrap_or (at None xs s) no_station) c).received < n) (sym k.stations) (h.received s c);
  group = λ b. subst (λ (gs : List GroupState). GroupIsBelow n (at no_group gs b)) (sym k.groups) (h.group b);
}

pub counts_kept : (v y : TransmitValue) (w u : World) (bodies after : ℕ → FrameValue) → StandsFor v w bodies →
    StandsFor y u after → KeepsCounts w u → (n : ℕ) → HasCountsBelow n v → HasCountsBelow n y
counts_kept v y w u bodies after st later k n h =
    path_below y u after later n (below_kept n w u k (world_below v w bodies st n h))
