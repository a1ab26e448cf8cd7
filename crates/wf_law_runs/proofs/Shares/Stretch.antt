-- Proves how many quanta and charges two stations of a class get over a stretch of entries in which one of
-- them keeps its place. By induction on the entries.
use Rattle.std.proofs.Common.{◌≡◌, refl, ap, sym, ◌∙◌, subst, arith, ℕ, zero, suc, ◌+◌, ◌-◌, ◌*◌, ◌<◌, ◌≤◌, ℤ, pos, ◌-ℤ◌, ◌≤ℤ◌, Bool, true, false, if◌then◌else◌, List, [], ◌∷◌, ◌++◌, take, map, Option, Some, None, is_some, is_none, IfSome, unwrap_or, option_map, ◌&&◌, ◌==◌, inl, inr, ◌⊎◌, ◌+ℤ◌}
use Rattle.std.proofs.lemmas.Int.{ints}
use Rattle.std.proofs.lemmas.Bool.{cases_eq, ne_eqb}
use Rattle.wf_frame.specs.declared.settings.Config.{Config}
use Rattle.wf_frame.specs.declared.classes.Class.{Class}
use Rattle.wf_frame.specs.declared.notes.Ask.TheVariants.{Join, Offload, Plain}
use Rattle.wf_frame.specs.declared.notes.Note.{Note}
use Rattle.wf_frame.specs.declared.notes.Note.TheVariants.{Asked}
use Rattle.wf_frame.specs.declared.notes.Refusal.{Refusal}
use Rattle.wf_frame.specs.Classes.{class_number}
use Rattle.wf_def_lists.specs.Table.{at}
use Rattle.wf_def_lists.specs.Lists.{on}
use Rattle.wf_def_rotation.specs.Rotation.{in_order}
use Rattle.wf_def_world.specs.World.{owed, World, Station, no_share, no_station, station, share, rotation, is_live}
use Rattle.wf_def_world.specs.CanSend.{is_ready}
use Rattle.wf_def_world.specs.Refusals.{refusals, refusal}
use Rattle.wf_def_world.specs.Step.{step}
use Rattle.wf_def_world.specs.Run.{Entry, world_after}
use Rattle.wf_def_world.specs.Stretches.{charge_by, charges}
use Rattle.wf_law_runs.specs.Deficits.{longest_exchange, most_owed, most_covered}
use Rattle.wf_law_runs.specs.Sums.{since_join, air_by}
use Rattle.wf_law_runs.specs.Shares.{receipts}
use Rattle.wf_law_rules.proofs.Lemmas.Counts.{on-append}
use Rattle.wf_law_runs.proofs.Deficits.Books.{Account, account, core, books}
use Rattle.wf_law_runs.proofs.Deficits.Kept.{IsGood, IsKept, at_stake, at_stake_most}
use Rattle.wf_law_runs.proofs.Deficits.KeptStep.{no_row, live_account, kept_step, kept_run}
use Rattle.wf_law_runs.proofs.Deficits.Balance.{IsFair}
use Rattle.wf_law_runs.proofs.Deficits.Accounts.{fair_step, fair_run}
use Rattle.wf_law_runs.proofs.Deficits.Configs.{config_step, config_run}
use Rattle.wf_law_runs.proofs.Deficits.Shares.{IsMoney, money}
use Rattle.wf_law_runs.proofs.Fairness.OldOrder.{acc}
use Rattle.wf_law_runs.proofs.Fairness.Law.{acc_is}
use Rattle.wf_law_runs.proofs.Sums.Airtime.{HasSum, HasAdded, sum_step, added_here}
use Rattle.wf_law_runs.proofs.Shares.Picks.{lead}
use Rattle.wf_law_runs.proofs.Shares.Turns.{Goes, IsMove, Stays, move_step}

-- ---- what one call adds

-- a live station does not join
join_live : (note : Note) (w : World) (s n : ℕ) → is_live w s ≡ true → since_join w s note n ≡ n
join_live (Asked (Join i window start exponent weight)) w s n live =
    go (refusal w (Asked (Join i window start exponent weight))) refl
  where
    go : (o : Option Refusal) → refusal w (Asked (Join i window start exponent weight)) ≡ o →
        (if is_none o && (i == s) then 0 else n) ≡ n
    go (Some r) e = refl
    go None e = elim (cases_eq i s) [
      | inl same ↦ absurd (
          let dead : is_live w i ≡ false =
          (no_row (refusals w (Asked (Join i window start exponent weight))) e).1.1.1.1.1.0 in
          let live' : is_live w i ≡ true = subst (λ (z : ℕ). is_live w z ≡ true) (sym same) live in
          cc (dead, live'))
      | inr other ↦ rw (ne_eqb i s other) refl
    ]
join_live (Asked (Offload i exponent weight)) w s n live =
    go (refusal w (Asked (Offload i exponent weight))) refl
  where
    go : (o : Option Refusal) → refusal w (Asked (Offload i exponent weight)) ≡ o →
        (if is_none o && (i == s) then 0 else n) ≡ n
    go (Some r) e = refl
    go None e = elim (cases_eq i s) [
      | inl same ↦ absurd (
          let dead : is_live w i ≡ false =
          (no_row (refusals w (Asked (Offload i exponent weight))) e).1.1.1.0 in
          let live' : is_live w i ≡ true = subst (λ (z : ℕ). is_live w z ≡ true) (sym same) live in
          cc (dead, live'))
      | inr other ↦ rw (ne_eqb i s other) refl
    ]
join_live (Asked (Plain i start exponent weight)) w s n live =
    go (refusal w (Asked (Plain i start exponent weight))) refl
  where
    go : (o : Option Refusal) → refusal w (Asked (Plain i start exponent weight)) ≡ o →
        (if is_none o && (i == s) then 0 else n) ≡ n
    go (Some r) e = refl
    go None e = elim (cases_eq i s) [
      | inl same ↦ absurd (
          let dead : is_live w i ≡ false =
          (no_row (refusals w (Asked (Plain i start exponent weight))) e).1.1.1.1.0 in
          let live' : is_live w i ≡ true = subst (λ (z : ℕ). is_live w z ≡ true) (sym same) live in
          cc (dead, live'))
      | inr other ↦ rw (ne_eqb i s other) refl
    ]
join_live _ w s n live = refl

own_sum : (o : Option Station) (c : Class) → is_some o ≡ true →
    HasSum c (at no_share (unwrap_or o no_station).shares (class_number c)).charged
    (at no_share (unwrap_or o no_station).shares (class_number c)).received (option_map account o)
own_sum None c is = absurd (cc is)
own_sum (Some x) c is = record { charged = refl; received = refl }

-- a live station's sums after a call
added_step : (w : World) (note : Note) (s : ℕ) (c : Class) → IsKept (books w) → is_live w s ≡ true →
    is_live (step w note).world s ≡ true →
    HasAdded ((share w s c).charged + charge_by w s c note) ((share w s c).received + air_by w s c note)
    (share (step w note).world s c)
added_step w note s c k live live' =
    let sum = added_here (step w note).world s c _ _ live' (sum_step w note c (share w s c).charged
    (share w s c).received s k (own_sum (at None w.stations s) c live)) in
    record {
      charged = sum.charged ∙ ap (λ (n : ℕ). n + charge_by w s c note)
          (join_live note w s (share w s c).charged live);
      received = sum.received ∙ ap (λ (n : ℕ). n + air_by w s c note)
          (join_live note w s (share w s c).received live);
    }

-- ---- keeping a place

-- s has a place in the rotation: on the old list, or on a list and ready
abbrev pub Marks : Bool → Class → ℕ → World → Type 0
Marks true c s w = 0 < on (rotation w c).old s
Marks false c s w = (0 < on (in_order (rotation w c)) s) × (is_ready w c s ≡ true)

-- a station's weight and base are in v as in w
pub record IsEven (c : Class) (s : ℕ) (w v : World) : Type 0 where
  pub weight : (station v s).weight ≡ (station w s).weight
  pub base : (share v s c).base ≡ (share w s c).base

-- In v, which follows from w, s has its place and i is live. Both have their weights and bases as in w.
pub record Fits (t : Bool) (c : Class) (s i : ℕ) (w v : World) : Type 0 where
  pub marks : Marks t c s v
  pub live : is_live v i ≡ true
  pub own : IsEven c s w v
  pub other : IsEven c i w v

marks_listed : (t : Bool) (c : Class) (s : ℕ) (w : World) → Marks t c s w →
    0 < on (in_order (rotation w c)) s
marks_listed true c s w h = omega (arith, on-append (rotation w c).old (rotation w c).new s)
marks_listed false c s w h = h.0

marks_place : (t : Bool) (c : Class) (s : ℕ) (w v : World) → Marks t c s w → Marks t c s v →
    ((0 < on (rotation w c).old s) × (0 < on (rotation v c).old s))
    ⊎ ((0 < on (in_order (rotation w c)) s) × (is_ready w c s ≡ true))
marks_place true c s w v h k = inl (h, k)
marks_place false c s w v h k = inr h

pub marks_live : (t : Bool) (c : Class) (s : ℕ) (w : World) → IsKept (books w) → Marks t c s w →
    is_live w s ≡ true
marks_live t c s w k h = sym (live_account (at None w.stations s)) ∙ k.live c s (marks_listed t c s w h)

pub stays_step : (t : Bool) (c : Class) (s i : ℕ) (o w v : World) → IsKept (books w) → IsKept (books v) →
    Fits t c s i o w → Fits t c s i o v → Stays c s i w (books v)
stays_step t c s i o w v k j h h' = record {
  place = marks_place t c s w v h.marks h'.marks;
  own = j.live c s (marks_listed t c s v h'.marks);
  before = live_account (at None w.stations i) ∙ h.live;
  other = live_account (at None v.stations i) ∙ h'.live;
}

-- ---- a stretch

-- From world w to world v, station i was charged n. Station s was charged p for exchanges, and q for what it
-- sent.
pub record IsHeld (config : Config) (c : Class) (s i n p q : ℕ) (w v : World) : Type 0 where
  pub order : (share v i c).quanta + (share w s c).quanta + lead s i (rotation w c)
      ≤ (share v s c).quanta + (share w i c).quanta + lead s i (rotation v c)
  pub own_weight : (station v s).weight ≡ (station w s).weight
  pub own_base : (share v s c).base ≡ (share w s c).base
  pub own_quanta : (share w s c).quanta ≤ (share v s c).quanta
  pub own_charged : (share v s c).charged ≡ (share w s c).charged + p
  pub own_received : (share v s c).received ≡ (share w s c).received + q
  pub other_weight : (station v i).weight ≡ (station w i).weight
  pub other_base : (share v i c).base ≡ (share w i c).base
  pub other_quanta : (share w i c).quanta ≤ (share v i c).quanta
  pub other_charged : (share v i c).charged ≡ (share w i c).charged + n
  pub other_received : (share w i c).received ≤ (share v i c).received
  pub held : config.pending ≡ 0 → (share v i c).charged + at_stake config i c (map core v.opened) + 1
      ≤ (share w i c).charged + config.quantum * (station w i).weight *
      ((share v s c).quanta - (share w s c).quanta + 1) + most_owed config c

positive : (m n : ℕ) → 0 < m → 0 < n → 1 ≤ m * n
positive m n h k = grind arith

if_weight : (config : Config) (s : ℕ) (w : World) (o : Option Station) → is_some o ≡ true →
    IfSome (option_map account o) (IsGood config (map core w.opened) s) → 0 < (unwrap_or o no_station).weight
if_weight config s w None is h = absurd (cc is)
if_weight config s w (Some x) is h = h.weight

-- the stretch without a call
held_first : (config : Config) (c : Class) (s i : ℕ) (w : World) → w.config ≡ config → IsKept (books w) →
    is_live w i ≡ true → IsHeld config c s i 0 0 0 w w
held_first config c s i w same k live = record {
  order = omega arith;
  own_weight = refl;
  own_base = refl;
  own_quanta = omega arith;
  own_charged = omega arith;
  own_received = omega arith;
  other_weight = refl;
  other_base = refl;
  other_quanta = omega arith;
  other_charged = omega arith;
  other_received = omega arith;
  held = λ _. go (config.quantum * (station w i).weight) some stake;
}
  where
    stake : at_stake config i c (map core w.opened) ≤ most_owed config c
    stake = subst (λ (z : Config). at_stake z i c (map core w.opened) ≤ most_owed z c) same
        (at_stake_most (books w) k i c)

    wide : 0 < config.quantum
    wide = subst (λ (z : Config). 0 < z.quantum) same (omega (arith, k.range.quantum.0))

    some : 1 ≤ config.quantum * (station w i).weight
    some = positive _ _ wide (if_weight w.config i w (at None w.stations i) live (k.goods i))

    go : (u : ℕ) → 1 ≤ u → at_stake config i c (map core w.opened) ≤ most_owed config c →
        (share w i c).charged + at_stake config i c (map core w.opened) + 1
        ≤ (share w i c).charged + u * ((share w s c).quanta - (share w s c).quanta + 1) + most_owed config c
    go u one h =
        let e : (share w s c).quanta - (share w s c).quanta + 1 ≡ 1 = omega arith in
        rw e (omega arith)

pub times_le : (u m n : ℕ) → m ≤ n → u * m ≤ u * n
times_le u m n h = grind arith

-- the bound holds after a call that does not raise the charges of i, with those of its open exchanges
held_less : (u ch res ch' res' ch0 q q' q0 m : ℕ) → ch' + res' ≤ ch + res →
    ch + res + 1 ≤ ch0 + u * (q - q0 + 1) + m → q ≤ q' → ch' + res' + 1 ≤ ch0 + u * (q' - q0 + 1) + m
held_less u ch res ch' res' ch0 q q' q0 m h k l =
    let more : u * (q - q0 + 1) ≤ u * (q' - q0 + 1) =
    times_le u (q - q0 + 1) (q' - q0 + 1) (omega arith) in omega arith

-- the bound holds after a pick that i won
held_won : (u gi qi0 gs ch rc ch0 rc0 res m : ℕ) (z : ℤ) → pos (ch + rc + 1) ≤ℤ (z +ℤ pos (u * (qi0 + gi))) →
    (z +ℤ pos (u * qi0)) ≤ℤ pos (u + ch0 + rc0) → rc0 ≤ rc → gi ≤ gs → res ≤ m →
    ch + res + 1 ≤ ch0 + u * (gs + 1) + m
held_won u gi qi0 gs ch rc ch0 rc0 res m z above below more near stake =
    let less : u * gi ≤ u * gs = times_le u gi gs near in
    let whole : u * (qi0 + gi) ≡ u * qi0 + u * gi = omega arith in
    let one_more : u * (gs + 1) ≡ u * gs + u = omega arith in omega (arith, ints)

money_above : (u q : ℕ) (z d : ℤ) (ch rc : ℕ) → d ≡ z +ℤ pos (u * q) -ℤ pos (ch + rc) → pos 1 ≤ℤ d →
    pos (ch + rc + 1) ≤ℤ (z +ℤ pos (u * q))
money_above u q z d ch rc e h = omega (arith, ints)

money_below : (u q : ℕ) (z d : ℤ) (ch rc : ℕ) → d ≡ z +ℤ pos (u * q) -ℤ pos (ch + rc) → d ≤ℤ pos u →
    (z +ℤ pos (u * q)) ≤ℤ pos (u + ch + rc)
money_below u q z d ch rc e h = omega (arith, ints)

-- without the setting `pending`, a deficit is at most one quantum
pub most_off : (config : Config) (c : Class) (u : ℕ) (d : ℤ) → config.pending ≡ 0 →
    d ≤ℤ pos (u + most_covered config c) → d ≤ℤ pos u
most_off config c u d off h =
    let none : most_covered config c ≡ 0 = rw off refl in
    omega (arith, ints)

-- the worlds in which a stretch may begin, and those that follow
pub record IsGround (config : Config) (w : World) : Type 0 where
  pub same : w.config ≡ config
  pub kept : IsKept (books w)
  pub fair : IsFair w

pub ground_step : (config : Config) (w : World) (note : Note) → IsGround config w →
    IsGround config (step w note).world
ground_step config w note g = record {
  same = config_step w note ∙ g.same;
  kept = kept_step w note g.kept;
  fair = fair_step w note g.fair;
}

pub ground_run : (config : Config) (es : List Entry) (w : World) → IsGround config w →
    IsGround config (world_after w es)
ground_run config es w g = record {
  same = config_run es w ∙ g.same;
  kept = kept_run es w g.kept;
  fair = fair_run es w g.fair;
}

pub ground_money : (config : Config) (w : World) (s : ℕ) (c : Class) → IsGround config w →
    is_live w s ≡ true → IsMoney config c (owed s c w.opened) (station w s).weight (share w s c)
ground_money config w s c g live = subst (λ (z : Config). IsMoney z c (owed s c w.opened) (station w s).weight
    (share w s c)) g.same (money w s c g.fair g.kept live)

-- a live station's quantum is above 0
pub quantum_positive : (config : Config) (w : World) (s : ℕ) → IsGround config w → is_live w s ≡ true →
    0 < config.quantum * (station w s).weight
quantum_positive config w s g live =
    let wide : 0 < config.quantum = subst (λ (z : Config). 0 < z.quantum) g.same
    (omega (arith, g.kept.range.quantum.0)) in
    let one : 1 ≤ config.quantum * (station w s).weight =
    positive _ _ wide (if_weight w.config s w (at None w.stations s) live (g.kept.goods s)) in omega arith

-- the charges of i from v to v', with what its open exchanges may be charged
abbrev Spent : Class → ℕ → World → World → Config → Type 0
Spent c i v v' z = ((acc (books v') i).shares c).charged + at_stake z i c (map core v'.opened)
    ≤ ((acc (books v) i).shares c).charged + at_stake z i c (map core v.opened)

-- the stretch and one more call
held_step : (config : Config) (t : Bool) (c : Class) (s i n p q : ℕ) (w v : World) (note : Note) →
    (s ≡ i → ⊥) → IsGround config w → IsGround config v → is_live w i ≡ true → Fits t c s i w v →
    Fits t c s i w (step v note).world → IsHeld config c s i n p q w v →
    IsHeld config c s i (n + charge_by v i c note) (p + charge_by v s c note) (q + air_by v s c note) w
    (step v note).world
held_step config t c s i n p q w v note differs g gv start h h' k = record {
  order = order;
  own_weight = h'.own.weight;
  own_base = h'.own.base;
  own_quanta = omega (arith, k.own_quanta, m_own.quanta);
  own_charged = omega (arith, k.own_charged, sum_s.charged);
  own_received = omega (arith, k.own_received, sum_s.received);
  other_weight = h'.other.weight;
  other_base = h'.other.base;
  other_quanta = omega (arith, k.other_quanta, m_other.quanta);
  other_charged = omega (arith, k.other_charged, sum_i.charged);
  other_received = omega (arith, k.other_received, sum_i.received);
  held = λ off. elim m.spends [
    | inl less ↦ held_less (config.quantum * (station w i).weight) (share v i c).charged
        (at_stake config i c (map core v.opened)) (share (step v note).world i c).charged
        (at_stake config i c (map core (step v note).world.opened)) (share w i c).charged
        (share v s c).quanta (share (step v note).world s c).quanta (share w s c).quanta (most_owed config c)
        (rw (at_i, at_i') at (subst (Spent c i v (step v note).world) gv.same less)) (k.held off) m_own.quanta
    | inr won ↦ held_won (config.quantum * (station w i).weight)
        ((share (step v note).world i c).quanta - (share w i c).quanta) (share w i c).quanta
        ((share (step v note).world s c).quanta - (share w s c).quanta)
        (share (step v note).world i c).charged (share (step v note).world i c).received
        (share w i c).charged (share w i c).received
        (at_stake config i c (map core (step v note).world.opened)) (most_owed config c)
        (share w i c).base (subst (λ (q : ℕ). pos ((share (step v note).world i c).charged +
        (share (step v note).world i c).received + 1) ≤ℤ ((share w i c).base +ℤ
        pos (config.quantum * (station w i).weight * q))) grows (above won.1)) (below off)
        (omega (arith, k.other_received, sum_i.received))
        (omega (arith, k.order, ahead won.0, k.own_quanta, m_own.quanta)) stake
  ];
}
  where
    g' : IsGround config (step v note).world
    g' = ground_step config v note gv

    m : IsMove (longest_exchange v.config c) c s i (books v) (books (step v note).world)
    m = move_step v note c s i gv.kept differs
        (stays_step t c s i w v (step v note).world gv.kept g'.kept h h')

    at_i : acc (books v) i ≡ account (station v i)
    at_i = acc_is v i

    at_i' : acc (books (step v note).world) i ≡ account (station (step v note).world i)
    at_i' = acc_is (step v note).world i

    m_own : Goes c (account (station v s)) (account (station (step v note).world s))
    m_own = subst (λ (a : Account). Goes c a (account (station (step v note).world s))) (acc_is v s)
        (subst (λ (a : Account). Goes c (acc (books v) s) a) (acc_is (step v note).world s) m.own)

    m_other : Goes c (account (station v i)) (account (station (step v note).world i))
    m_other = subst (λ (a : Account). Goes c a (account (station (step v note).world i))) at_i
        (subst (λ (a : Account). Goes c (acc (books v) i) a) at_i' m.other)

    m_order : (share (step v note).world i c).quanta + (share v s c).quanta + lead s i (rotation v c)
        ≤ (share (step v note).world s c).quanta + (share v i c).quanta +
        lead s i (rotation (step v note).world c)
    m_order = rw (at_i, at_i', acc_is v s, acc_is (step v note).world s) at m.order

    ahead : ((acc (books (step v note).world) i).shares c).quanta + ((acc (books v) s).shares c).quanta +
        lead s i (rotation v c)
        ≤ ((acc (books (step v note).world) s).shares c).quanta + ((acc (books v) i).shares c).quanta →
        (share (step v note).world i c).quanta + (share v s c).quanta + lead s i (rotation v c)
        ≤ (share (step v note).world s c).quanta + (share v i c).quanta
    ahead h = rw (at_i, at_i', acc_is v s, acc_is (step v note).world s) at h

    order : (share (step v note).world i c).quanta + (share w s c).quanta + lead s i (rotation w c)
        ≤ (share (step v note).world s c).quanta + (share w i c).quanta +
        lead s i (rotation (step v note).world c)
    order = omega (arith, m_order, k.order)

    grows : (share (step v note).world i c).quanta
        ≡ (share w i c).quanta + ((share (step v note).world i c).quanta - (share w i c).quanta)
    grows = let more = m_other.quanta in omega (arith, k.other_quanta, more)

    sum_s : HasAdded ((share v s c).charged + charge_by v s c note)
        ((share v s c).received + air_by v s c note) (share (step v note).world s c)
    sum_s = added_step v note s c gv.kept (marks_live t c s v gv.kept h.marks)
        (marks_live t c s (step v note).world g'.kept h'.marks)

    sum_i : HasAdded ((share v i c).charged + charge_by v i c note)
        ((share v i c).received + air_by v i c note) (share (step v note).world i c)
    sum_i = added_step v note i c gv.kept h.live h'.live

    stake : at_stake config i c (map core (step v note).world.opened) ≤ most_owed config c
    stake =
        subst (λ (z : Config). at_stake z i c (map core (step v note).world.opened) ≤ most_owed z c) g'.same
        (at_stake_most (books (step v note).world) g'.kept i c)

    above : pos 1 ≤ℤ ((acc (books (step v note).world) i).shares c).deficit →
        pos ((share (step v note).world i c).charged + (share (step v note).world i c).received + 1) ≤ℤ
        ((share w i c).base +ℤ
        pos (config.quantum * (station w i).weight * (share (step v note).world i c).quanta))
    above one =
        let now = ground_money config (step v note).world i c g' h'.live in
        subst (λ (z : ℤ). pos ((share (step v note).world i c).charged +
        (share (step v note).world i c).received + 1) ≤ℤ
        (z +ℤ pos (config.quantum * (station w i).weight * (share (step v note).world i c).quanta)))
        h'.other.base
        (subst (λ (x : ℕ). pos ((share (step v note).world i c).charged +
        (share (step v note).world i c).received + 1) ≤ℤ ((share (step v note).world i c).base +ℤ
        pos (config.quantum * x * (share (step v note).world i c).quanta))) h'.other.weight
        (money_above _ _ (share (step v note).world i c).base (share (step v note).world i c).deficit _ _
        now.exact (rw at_i' at one)))

    below : config.pending ≡ 0 →
        ((share w i c).base +ℤ pos (config.quantum * (station w i).weight * (share w i c).quanta)) ≤ℤ
        pos (config.quantum * (station w i).weight + (share w i c).charged + (share w i c).received)
    below off = let was = ground_money config w i c g start in
        money_below _ _ (share w i c).base (share w i c).deficit _ _ was.exact
        (most_off config c (config.quantum * (station w i).weight) (share w i c).deficit off was.most)

-- ---- entry by entry

pub next_case : (xs : List Entry) (d : ℕ) (P : List Entry → Type 0) → P (take d xs) →
    ((e : Entry) → P (take d xs ++ e ∷ [])) → P (take (suc d) xs)
next_case [] zero P h k = h
next_case [] (suc d) P h k = h
next_case (x ∷ xs) zero P h k = k x
next_case (x ∷ xs) (suc d) P h k = next_case xs d (λ (l : List Entry). P (x ∷ l)) h k

pub world_append : (es : List Entry) (w : World) (e : Entry) →
    world_after w (es ++ e ∷ []) ≡ (step (world_after w es) e.1).world
unfolding world_after
world_append [] w e = refl
world_append (x ∷ es) w e = world_append es _ e

pub charges_append : (es : List Entry) (w : World) (s : ℕ) (c : Class) (e : Entry) →
    charges w s c (es ++ e ∷ []) ≡ charges w s c es + charge_by (world_after w es) s c e.1
unfolding world_after
charges_append [] w s c e = omega arith
charges_append (x ∷ es) w s c e = omega (arith, charges_append es (step w x.1).world s c e)

pub receipts_append : (es : List Entry) (w : World) (s : ℕ) (c : Class) (e : Entry) →
    receipts w s c (es ++ e ∷ []) ≡ receipts w s c es + air_by (world_after w es) s c e.1
unfolding world_after
receipts_append [] w s c e = omega arith
receipts_append (x ∷ es) w s c e = omega (arith, receipts_append es (step w x.1).world s c e)

-- over the entries es
abbrev pub Held : Config → Class → ℕ → ℕ → World → List Entry → Type 0
Held config c s i w es = IsHeld config c s i (charges w i c es) (charges w s c es) (receipts w s c es) w
    (world_after w es)

held_more : (config : Config) (t : Bool) (c : Class) (s i : ℕ) (w : World) (es : List Entry) (e : Entry) →
    (s ≡ i → ⊥) → IsGround config w → is_live w i ≡ true → Fits t c s i w (world_after w es) →
    Fits t c s i w (world_after w (es ++ e ∷ [])) → Held config c s i w es →
    Held config c s i w (es ++ e ∷ [])
held_more config t c s i w es e differs g start now next before = rw (
  world_append es w e,
  charges_append es w i c e,
  charges_append es w s c e,
  receipts_append es w s c e,
) (held_step config t c s i (charges w i c es) (charges w s c es) (receipts w s c es) w (world_after w es) e.1
    differs g (ground_run config es w g) start now
    (subst (Fits t c s i w) (world_append es w e) next) before)

pub held_run : (config : Config) (t : Bool) (c : Class) (s i : ℕ) (w : World) (xs : List Entry) →
    (s ≡ i → ⊥) → IsGround config w → (n : ℕ) →
    ((d : ℕ) → d ≤ n → Fits t c s i w (world_after w (take d xs))) → Held config c s i w (take n xs)
unfolding world_after
held_run config t c s i w xs differs g zero fits =
    held_first config c s i w g.same g.kept (fits 0 (omega arith)).live
held_run config t c s i w xs differs g (suc n) fits =
    let before : Held config c s i w (take n xs) =
    held_run config t c s i w xs differs g n (λ d l. fits d (omega arith)) in
    next_case xs n (λ (l : List Entry). Fits t c s i w (world_after w l) → Held config c s i w l)
    (λ _. before)
    (λ e next. held_more config t c s i w (take n xs) e differs g (fits 0 (omega arith)).live
    (fits n (omega arith)) next before)
    (fits (suc n) (omega arith))
