-- Proves the greatest charges and deficits, for all settings in their ranges, from the bounds of the
-- deficits.
use Rattle.std.proofs.Common.{◌≡◌, ◌≤ℤ◌, sym, ap, subst, arith, nat_le, ◌||◌, ℕ, ◌+◌, ◌*◌, ◌≤◌, max, List, [], ◌∷◌, map, take, ◌-◌, Bool, true, false, if◌then◌else◌, ◌==◌}
use Rattle.std.proofs.lemmas.Int.{ints}
use Rattle.std.proofs.Math.Nat.{mul-le-mul_left, mul-le-mul_right, le-max_left, le-max_right, max-le}
use Rattle.wf_frame.specs.declared.settings.Config.{Config}
use Rattle.wf_frame.specs.declared.settings.Field.TheVariants.{Inflight, Quantum, Cap, Charge, Answers, Legacy}
use Rattle.wf_frame.specs.declared.classes.Class.{Class}
use Rattle.wf_frame.specs.declared.classes.Class.TheVariants.{Bk, Be, Vi, Vo}
use Rattle.wf_frame.specs.Settings.{greatest_of, IsInRange}
use Rattle.wf_def_lists.specs.Lengths.{greatest_body}
use Rattle.wf_def_lists.specs.Bounds.{greatest_weight}
use Rattle.wf_def_air.specs.Airtime.{slow_dsss_mbps, slow_mbps, fast_mbps, sifs, answer_time, ack_time, longest_answer}
use Rattle.wf_def_air.specs.Fit.{longest_alone}
use Rattle.wf_def_world.specs.Exchanges.{cap_of, longest_computed}
use Rattle.wf_def_world.specs.World.{World, Exchange, opening}
use Rattle.wf_def_world.specs.Run.{Entry}
use Rattle.wf_def_world.specs.Stretches.{world_at}
use Rattle.wf_law_runs.specs.Windows.{EachOpen}
use Rattle.wf_law_runs.specs.Deficits.{IsAccounted, longest_exchange, most_owed, most_covered}
use Rattle.wf_law_runs.specs.Numbers.{greatest_computed, greatest_charge, greatest_owed, greatest_deficit, NumberLaw}
use Rattle.wf_law_runs.specs.Ranges.{KeepsRanges}
use Rattle.wf_law_runs.proofs.Deficits.Books.{Books, core, books}
use Rattle.wf_law_runs.proofs.Deficits.Configs.{config_run}
use Rattle.wf_law_runs.proofs.Deficits.Kept.{IsOpen, IsKept}
use Rattle.wf_law_runs.proofs.Deficits.KeptStep.{kept}
use Rattle.wf_law_runs.proofs.Deficits.Law.{deficits}
use Rattle.wf_law_runs.proofs.Deficits.Openings.{Every, many-count, many-core}
use Rattle.wf_law_runs.proofs.Queues.Law.{queue_deficit_law}
use Rattle.wf_law_runs.proofs.Ranges.Law.{range_law}

times : (a b m n : ℕ) → a ≤ m → b ≤ n → a * b ≤ m * n
times a b m n h k = let left : a * b ≤ m * b = mul-le-mul_right b h in
    let right : m * b ≤ m * n = mul-le-mul_left m k in le_trans (a * b) (m * b) (m * n) left right
  where
    le_trans : (x y z : ℕ) → x ≤ y → y ≤ z → x ≤ z
    le_trans x y z h k = omega (arith, h, k)

-- The computed charges of the open exchanges.
computed_within : (b : Books) (xs : List Exchange) →
    ((c : Class) → longest_computed b.config c ≤ greatest_computed b.config.legacy) →
    Every (IsOpen b) (map core xs) →
    EachOpen (λ x. (1 ≤ x.charge) × (x.charge ≤ greatest_computed b.config.legacy)) xs
computed_within b [] h e = tt
computed_within b (x ∷ xs) h e =
    ((e.0.some, omega (arith, e.0.charge, h x.class)), computed_within b xs h e.1)

-- The greatest data time of an aggregate of a class.
cap_within : (config : Config) (c : Class) → IsInRange config → cap_of config c ≤ greatest_of Cap
cap_within config c range = go c
  where
    own : (b : Bool) (n : ℕ) → n ≤ greatest_of Cap → (if b then config.cap else n) ≤ greatest_of Cap
    own true n h = range.cap.1
    own false n h = h

    go : (c : Class) → cap_of config c ≤ greatest_of Cap
    go Bk = range.cap.1
    go Be = range.cap.1
    go Vi = own (config.cap_vi == 0) config.cap_vi range.cap_vi.1
    go Vo = own (config.cap_vo == 0) config.cap_vo range.cap_vo.1

-- The longest answer.
answer_within : (answers legacy : ℕ) → longest_answer answers legacy
    ≤ longest_answer (greatest_of Answers) legacy
answer_within answers legacy = go (answers == 0) (nat_le legacy 1)
  where
    go : (off few : Bool) → sifs + (if off || few then answer_time (if off then fast_mbps else slow_mbps) true
        else ack_time slow_dsss_mbps)
        ≤ sifs + (if few then answer_time slow_mbps true else ack_time slow_dsss_mbps)
    go true true = omega arith
    go true false = omega arith
    go false true = omega arith
    go false false = omega arith

-- The greatest computed charge of a class.
class_within : (config : Config) (c : Class) → IsInRange config →
    longest_computed config c ≤ greatest_computed config.legacy
class_within config c range =
    let alone : ℕ = longest_alone config.legacy in
    let time : max (cap_of config c) alone ≤ max (greatest_of Cap) alone =
    max-le (omega (arith, cap_within config c range, le-max_left (greatest_of Cap) alone))
    (le-max_right (greatest_of Cap) alone) in
    omega (arith, time, answer_within config.answers config.legacy)

-- A greater setting `legacy` bounds no less.
pub legacy_within : (legacy : ℕ) → greatest_computed legacy ≤ greatest_computed (greatest_of Legacy)
legacy_within legacy = go (legacy == 0) (legacy == 1) (nat_le legacy 1)
  where
    go : (none one few : Bool) → max (greatest_of Cap) (if none then 3000 else (if one then 3200 else 19200))
        + (sifs + (if few then answer_time slow_mbps true else ack_time slow_dsss_mbps))
        ≤ greatest_computed (greatest_of Legacy)
    go true one true = omega arith
    go true one false = omega arith
    go false true true = omega arith
    go false true false = omega arith
    go false false true = omega arith
    go false false false = omega arith

-- The greatest deficit too.
pub deficit_within : (legacy : ℕ) → greatest_deficit legacy ≤ℤ greatest_deficit (greatest_of Legacy)
deficit_within legacy =
    let few : greatest_computed legacy ≤ greatest_computed (greatest_of Legacy) = legacy_within legacy in
    omega (arith, ints, few)

-- The longest charge of settings in their ranges.
pub longest_within : (config : Config) (c : Class) → IsInRange config →
    longest_exchange config c ≤ greatest_charge
longest_within config c range =
    let most : ℕ = greatest_computed (greatest_of Legacy) in
    max-le (omega (
      arith,
      class_within config c range,
      legacy_within config.legacy,
      le-max_left most (greatest_of Charge),
    ))
    (omega (arith, range.charge.1, le-max_right most (greatest_of Charge)))

-- The airtime in flight that quanta may cover.
covered_within : (config : Config) (c : Class) → IsInRange config →
    most_covered config c ≤ (greatest_of Inflight - 1) * greatest_computed config.legacy
covered_within config c range = go (config.pending == 1)
    (times (config.inflight - 1) (longest_computed config c) (greatest_of Inflight - 1)
    (greatest_computed config.legacy)
    (omega (arith, range.inflight.1)) (class_within config c range))
  where
    go : (t : Bool) → (config.inflight - 1) * longest_computed config c
        ≤ (greatest_of Inflight - 1) * greatest_computed config.legacy →
        (if t then (config.inflight - 1) * longest_computed config c else 0)
        ≤ (greatest_of Inflight - 1) * greatest_computed config.legacy
    go true h = h
    go false h = omega arith

pub number_law : (config : Config) (h : List Entry) → IsInRange config → NumberLaw config h
number_law config h range m =
    let w : World = world_at config h m in
    let k : IsKept (books w) = kept config (take m h) range in
    let r : KeepsRanges config w = range_law config h range m in
    let owed : (c : Class) → most_owed config c ≤ greatest_owed =
    λ c. times config.inflight (longest_exchange config c)
    (greatest_of Inflight) greatest_charge range.inflight.1 (longest_within config c range) in
    let same : greatest_computed w.config.legacy ≡ greatest_computed config.legacy =
    ap (λ (z : Config). greatest_computed z.legacy) (config_run (take m h) (opening config)) in
    let covered : (c : Class) →
    most_covered config c ≤ (greatest_of Inflight - 1) * greatest_computed config.legacy =
    λ c. covered_within config c range in
    record {
      charges = computed_within (books w) w.opened (subst
          (λ (z : Config). (c : Class) → longest_computed z c ≤ greatest_computed z.legacy)
          (sym (config_run (take m h) (opening config))) (λ c. class_within config c range)) k.opens;
      opened = λ c. omega (arith, k.few c, k.range.inflight.1, many-count c w.opened, many-core c w.opened);
      deficits = λ s c live.
          let d : IsAccounted config w s c = deficits config h range m s c live in
          let quantum = times config.quantum _ (greatest_of Quantum) greatest_weight range.quantum.1
          (r.stations s live).weight.1 in (
            omega (arith, ints, d.least, owed c, range.debt.1),
            omega (arith, ints, d.most, quantum, covered c, same),
          );
      standings = λ s c live.
          let d : IsAccounted config w s c = deficits config h range m s c live in
          let quantum = times config.quantum _ (greatest_of Quantum) greatest_weight range.quantum.1
          (r.stations s live).weight.1 in (
            omega (arith, ints, d.lowest, owed c, range.debt.1),
            omega (arith, ints, d.most, quantum, covered c, same),
          );
      queue_deficits = λ short s t q listed.
          let d = queue_deficit_law config h range greatest_body short m s t q listed in
          (d.1, omega (arith, ints, d.0, range.flow_quantum.1));
    }
