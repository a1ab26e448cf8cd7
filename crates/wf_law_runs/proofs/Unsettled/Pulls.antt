-- Proves that a pull leaves no TID with more open numbers than the open exchanges of its class can send.
use Rattle.std.proofs.Common.{◌≡◌, refl, sym, ◌∙◌, subst, arith, ℕ, suc, ◌+◌, ◌-◌, ◌*◌, ◌<◌, ◌≤◌, max, ◌==◌, Bool, true, false, if◌then◌else◌, List, Option, Some, None, IfSome}
use Rattle.std.proofs.Math.Nat.{mul-le-mul_right}
use Rattle.wf_frame.specs.declared.settings.Config.{Config}
use Rattle.wf_frame.specs.declared.classes.Class.{Class}
use Rattle.wf_frame.specs.declared.classes.Class.TheVariants.{Bk, Be, Vi, Vo}
use Rattle.wf_frame.specs.declared.notes.Ask.TheVariants.{Pull}
use Rattle.wf_frame.specs.declared.notes.Limits.{Limits}
use Rattle.wf_frame.specs.declared.notes.Note.TheVariants.{Asked}
use Rattle.wf_frame.specs.Classes.{class_of, lower_tid, upper_tid}
use Rattle.wf_def_world.specs.World.{World, Bounds, Exchange, session, is_live, share, station}
use Rattle.wf_def_world.specs.Service.{service_limit}
use Rattle.wf_def_world.specs.CanSend.{can_send, can_send_in}
use Rattle.wf_def_world.specs.Exchanges.{Prepared, mpdus_of, takes_one, most_frames, limited, picked_station, first_tid, other_tid, sending_tid, after_tid_turn, prepared_exchange, exchange_of, with_exchange_opened}
use Rattle.wf_def_world.specs.Refusals.{refusals, open_of_class}
use Rattle.wf_def_world.specs.Step.{send_outcome, pull_outcome_for, pull_outcome}
use Rattle.wf_law_rules.proofs.Lemmas.Numbers.{on_bool, on_if, both, eq_yes, le_no}
use Rattle.wf_law_runs.specs.Unsettled.{most_unsettled}
use Rattle.wf_law_runs.proofs.Common.Limits.{bounds_after_turn}
use Rattle.wf_law_runs.proofs.Common.Picked.{picked_world}
use Rattle.wf_law_runs.proofs.Deficits.Openings.{many, many-count}
use Rattle.wf_law_runs.proofs.Frames.Delivered.{prepared_right}
use Rattle.wf_law_runs.proofs.Sent.Lengths.{opened_sent}
use Rattle.wf_law_runs.proofs.Windows.Agreed.{IsLawful, is_tid, lawful_same, winner_ready}
use Rattle.wf_law_runs.proofs.Windows.Opened.{Each, NoRow, each_append}
use Rattle.wf_law_runs.proofs.Windows.Sides.{Side, Same, same_after_turn, same_spent, same_picked}
use Rattle.wf_law_runs.proofs.Unsettled.Counts.{tally, is_flying, open_in, least, tally_split}
use Rattle.wf_law_runs.proofs.Unsettled.Flights.{IsShort, few_flying}
use Rattle.wf_law_runs.proofs.Unsettled.Keeps.{Keeps, keeps_same}
use Rattle.wf_law_runs.proofs.Unsettled.Fills.{IsFilled, waits_in, prepared_filled}

-- Each TID has few open numbers, and each open exchange sends few frames.
pub record IsFew (config : Config) (w : World) : Type 0 where
  pub numbers : (s t : ℕ) → open_in (session w s t) ≤ most_unsettled config
  pub opened : Each (IsShort config.agg) w.opened

pub few_kept : (config : Config) (w v : World) → Keeps w v → IsFew config w → IsFew config v
few_kept config w v k i = record {
  numbers = λ s t. omega (arith, k.numbers s t, i.numbers s t);
  opened = k.opened config.agg i.opened;
}

-- The TID that sends is of the class.
lower_class : (c : Class) → class_of (lower_tid c) ≡ c
lower_class Bk = refl
lower_class Be = refl
lower_class Vi = refl
lower_class Vo = refl

upper_class : (c : Class) → class_of (upper_tid c) ≡ c
upper_class Bk = refl
upper_class Be = refl
upper_class Vi = refl
upper_class Vo = refl

pub sending_class : (w : World) (s : ℕ) (c : Class) → class_of (sending_tid w s c) ≡ c
sending_class w s c = on_if (λ (t : ℕ). class_of t ≡ c) (can_send w s (first_tid w s c)) (first_tid w s c)
    (other_tid w s c) (λ _. go (share w s c).upper) (λ _. back (share w s c).upper)
  where
    go : (b : Bool) → class_of (if b then upper_tid c else lower_tid c) ≡ c
    go true = upper_class c
    go false = lower_class c

    back : (b : Bool) → class_of (if b then lower_tid c else upper_tid c) ≡ c
    back true = lower_class c
    back false = upper_class c

-- An exchange has no more frames than the bounds of its pull allow.
frames_few : (b : Bool) (limit : Option ℕ) (frames most : ℕ) → 1 ≤ most → frames ≤ most →
    (if b then 1 else limited limit frames) ≤ most
frames_few true limit frames most h k = h
frames_few false None frames most h k = k
frames_few false (Some n) frames most h k = omega (arith, k)

limited_few : (limit : Option ℕ) (most : ℕ) → 1 ≤ most → max 1 (limited limit most) ≤ most
limited_few None most h = omega (arith, h)
limited_few (Some n) most h = omega (arith, h)

-- The arithmetic of a pull: before it the numbers on the air are at most those of the other exchanges, and it
-- gives numbers only in the places that the numbers that wait leave in its own.
few_more : (after before waits flies most k inflight agg : ℕ) → after ≤ before + (most - waits) →
    before ≡ waits + flies → flies ≤ k * agg → k < inflight → most ≤ agg → before ≤ inflight * agg →
    after ≤ inflight * agg
few_more after before waits flies most k inflight agg h e f below m old =
    let product : suc k * agg ≤ inflight * agg = mul-le-mul_right agg below in
    omega (arith, h, e, f, m, old, product)

-- The numbers after the exchange is opened.
numbers_sent : (s t : ℕ) (c : Class) (p : Prepared) (i j : ℕ) →
    open_in (session (send_outcome s t c p).world i j) ≤ open_in (session p.world i j)
unfolding send_outcome with_exchange_opened
numbers_sent s t c p i j = subst (λ (a : Side). open_in a.session ≤ open_in (session p.world i j))
    (sym ((same_spent _ (exchange_of s t c p)).sides i j)) (least (open_in (session p.world i j)))

-- The world v in which the TID sends.
module _ (config : Config) (v : World) (s t : ℕ) (c : Class) (l : IsLawful v) (live : is_live v s ≡ true)
    (its_class : class_of t ≡ c) (few : most_frames v s ≤ config.agg)
    (below : many c v.opened < config.inflight) (i : IsFew config v) where
  sent_own : open_in (session (prepared_exchange v s t).world s t) ≤ most_unsettled config
  sent_own =
      let p : Prepared = prepared_exchange v s t in
      let r : IsFilled s t (most_frames v s) v (mpdus_of p.content) p.world = prepared_filled v s t l live in
      let flies : tally is_flying (session v s t).slots ≤ many c v.opened * config.agg =
      subst (λ (d : Class). tally is_flying (session v s t).slots ≤ many d v.opened * config.agg) its_class
      (few_flying config.agg v s t l i.opened) in
      few_more (open_in (session p.world s t)) (open_in (session v s t)) (waits_in v s t)
      (tally is_flying (session v s t).slots) (most_frames v s) (many c v.opened) config.inflight config.agg
      r.gains.own (tally_split (session v s t).slots) flies below few (i.numbers s t)

  sent_numbers : (a b : ℕ) → open_in (session (prepared_exchange v s t).world a b) ≤ most_unsettled config
  sent_numbers a b =
      let p : Prepared = prepared_exchange v s t in
      let r : IsFilled s t (most_frames v s) v (mpdus_of p.content) p.world = prepared_filled v s t l live in
      on_bool (is_tid s t a b)
      (λ own.
      let is = both (a == s) (b == t) own in
      subst (λ (n : ℕ). open_in (session p.world n b) ≤ most_unsettled config) (sym (eq_yes a s is.0))
      (subst (λ (n : ℕ). open_in (session p.world s n) ≤ most_unsettled config) (sym (eq_yes b t is.1))
      sent_own))
      (λ other. omega (arith, r.gains.others a b other, i.numbers a b))

  few_sent : IsFew config (send_outcome s t c (prepared_exchange v s t)).world
  few_sent =
      let p : Prepared = prepared_exchange v s t in
      let r : IsFilled s t (most_frames v s) v (mpdus_of p.content) p.world = prepared_filled v s t l live in
      record {
        numbers = λ a b. omega (arith, numbers_sent s t c p a b, sent_numbers a b);
        opened = subst (Each (IsShort config.agg)) (sym (opened_sent s t c p))
            (each_append (IsShort config.agg) p.world.opened (exchange_of s t c p)
            (subst (Each (IsShort config.agg)) (sym (prepared_right v s t l live).opened) i.opened)
            (omega (arith, r.few, few), its_class));
      }

few_pulled_by : (config : Config) (o : Option ℕ) (w : World) (c : Class) →
    IfSome o (λ s. (is_live w s ≡ true) × (can_send_in w s c ≡ true)) → IsLawful w → 1 ≤ config.agg →
    w.bounds.frames ≤ config.agg → many c w.opened < config.inflight → IsFew config w →
    IsFew config (pull_outcome_for w c o).world
unfolding pull_outcome_for
few_pulled_by config None w c ready l some frames below i = i
few_pulled_by config (Some s) w c ready l some frames below i =
    let t : ℕ = sending_tid w s c in
    let v : World = after_tid_turn w s c t in
    let k : Same w v = same_after_turn w s c t in
    few_sent config v s t c (lawful_same w v k l) (k.live s ∙ ready.0) (sending_class w s c)
    (frames_few (takes_one (station v s) v.bounds.class) (service_limit (station v s) v.bounds.class)
    v.bounds.frames config.agg some
    (subst (λ (b : Bounds). b.frames ≤ config.agg) (sym (bounds_after_turn w s c t)) frames))
    (subst (λ (xs : List Exchange). many c xs < config.inflight) (sym k.opened) below)
    (few_kept config w v (keeps_same w v k) i)

pub few_pulled : (config : Config) (w : World) (c : Class) (l : Limits) → w.config ≡ config →
    1 ≤ config.agg → NoRow (refusals w (Asked (Pull c l))) → IsLawful w → IsFew config w →
    IsFew config (pull_outcome w c l).world
unfolding pull_outcome
few_pulled config w c l is some rows i k =
    let u : World = picked_world w c l in
    let same_u : Same w u = same_picked w c l in
    few_pulled_by config (picked_station w c).winner u c (winner_ready w c l) (lawful_same w u same_u i) some
    (subst (λ (z : Config). max 1 (limited l.frames z.agg) ≤ config.agg) (sym is)
    (limited_few l.frames config.agg some))
    (subst (λ (xs : List Exchange). many c xs < config.inflight) (sym same_u.opened)
    (subst (λ (n : ℕ). n < config.inflight) (many-count c w.opened)
    (subst (λ (z : Config). open_of_class w c < z.inflight) is
    (le_no w.config.inflight (open_of_class w c) rows.0))))
    (few_kept config w u (keeps_same w u same_u) k)
