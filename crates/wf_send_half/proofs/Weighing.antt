-- Proves what a change of a station's weight makes of the half from what each of its steps does.
use Rattle.std.proofs.Common.{◌≡◌, ap, ap₂, sym, ◌∙◌, subst, arith, ℕ, ◌+◌, ◌-◌, ◌*◌, ◌==◌, ◌≤◌, max, ℤ, pos, ◌-ℤ◌, Bool, true, false, ◌||◌, nat_le, if◌then◌else◌}
use Rattle.std.proofs.Math.Nat.{mul-le-mul_right, max-le}
use Rattle.wf_frame.specs.declared.settings.Config.{Config}
use Rattle.wf_frame.specs.Settings.{IsInRange}
use Rattle.wf_def_air.specs.Airtime.{slow_dsss_mbps, slow_mbps, fast_mbps, sifs, answer_time, ack_time, longest_answer}
use Rattle.wf_def_air.specs.Fit.{longest_alone}
use Rattle.wf_def_world.specs.Exchanges.{cap_of, longest_computed}
use Rattle.wf_frame.specs.declared.classes.Class.{Class}
use Rattle.wf_frame.specs.declared.classes.Class.TheVariants.{Bk, Be, Vi, Vo}
use Rattle.wf_sched.specs.ClassRotas.{SchedValue, with_quantum}
use Rattle.wf_sched_refines.specs.Standing.{everywhere, with_deficit_lowered}
use Rattle.wf_send_half_model.specs.Changes.{after_listing, after_weight}
use Rattle.wf_send_half_model.specs.Half.{TransmitValue, pending_air_of, uncovered_air_of}

-- the deficit of station s in a class is lowered to this quantum, less the airtime that it does not cover
abbrev pub lowered : ℕ → ℕ → Class → TransmitValue → TransmitValue
lowered s quantum c v = record v {
  sched = with_deficit_lowered v.sched s c (pos quantum -ℤ pos (uncovered_air_of v s c));
}

-- the same in each class
abbrev pub lowered_four : ℕ → ℕ → TransmitValue → TransmitValue
lowered_four s quantum v = lowered s quantum Vo (lowered s quantum Vi (lowered s quantum Be
    (lowered s quantum Bk v)))

-- the half after the steps of a change of weight; x is the value of the fields of the half v
pub weighed_is : (v x : TransmitValue) → x ≡ v → (s weight quantum : ℕ) (turns : SchedValue)
    (bk be vi vo y : TransmitValue) → quantum ≡ x.sched.quantum * weight →
    turns ≡ everywhere (with_quantum s (x.sched.quantum * weight)) x.sched →
    bk ≡ lowered s quantum Bk (record x { sched = turns }) → be ≡ lowered s quantum Be bk →
    vi ≡ lowered s quantum Vi be → vo ≡ lowered s quantum Vo vi → y ≡ after_listing vo s →
    y ≡ after_weight v s weight
weighed_is v x same s weight quantum turns bk be vi vo y quantum_is turns_is bk_is be_is vi_is vo_is listed =
    let four : vo ≡ lowered_four s quantum (record x { sched = turns }) =
    vo_is ∙ ap (lowered s quantum Vo) (vi_is ∙ ap (lowered s quantum Vi) (be_is
    ∙ ap (lowered s quantum Be) bk_is)) in
    let changed : vo ≡ lowered_four s (x.sched.quantum * weight) (record x {
      sched = everywhere (with_quantum s (x.sched.quantum * weight)) x.sched;
    }) =
    four ∙ ap (λ (z : SchedValue). lowered_four s quantum (record x { sched = z })) turns_is
    ∙ ap (λ (n : ℕ). lowered_four s n (record x {
      sched = everywhere (with_quantum s (x.sched.quantum * weight)) x.sched;
    })) quantum_is in
    listed ∙ ap (λ (z : TransmitValue). after_listing z s) changed
    ∙ ap (λ (z : TransmitValue). after_weight z s weight) same

-- ---- the airtime that a quantum covers

-- the greatest data time of an aggregate of a class
pub cap_low : (config : Config) (c : Class) → IsInRange config → cap_of config c ≤ 5400
cap_low config c range = go c
  where
    own : (b : Bool) (n : ℕ) → n ≤ 5400 → (if b then config.cap else n) ≤ 5400
    own true n h = range.cap.1
    own false n h = h

    go : (c : Class) → cap_of config c ≤ 5400
    go Bk = range.cap.1
    go Be = range.cap.1
    go Vi = own (config.cap_vi == 0) config.cap_vi range.cap_vi.1
    go Vo = own (config.cap_vo == 0) config.cap_vo range.cap_vo.1

-- the time of the longest answer and of the pause before it
answer_low : (answers legacy : ℕ) → longest_answer answers legacy ≤ 320
answer_low answers legacy = go (answers == 0) (nat_le legacy 1)
  where
    go : (off few : Bool) → sifs + (if off || few then answer_time (if off then fast_mbps else slow_mbps) true
        else ack_time slow_dsss_mbps) ≤ 320
    go true few = omega arith
    go false true = omega arith
    go false false = omega arith

-- the data time that a frame alone may take
alone_low : (legacy : ℕ) → longest_alone legacy ≤ 19200
alone_low legacy = go (legacy == 0) (legacy == 1)
  where
    go : (none one : Bool) → (if none then 3000 else (if one then 3200 else 19200)) ≤ 19200
    go true one = omega arith
    go false true = omega arith
    go false false = omega arith

-- the greatest charge that is computed for an exchange of a class
computed_low : (config : Config) (c : Class) → IsInRange config → longest_computed config c ≤ 19520
computed_low config c range =
    let alone : max (cap_of config c) (longest_alone config.legacy) ≤ 19200 =
    max-le (omega (arith, cap_low config c range)) (alone_low config.legacy) in
    omega (arith, alone, answer_low config.answers config.legacy)

-- all exchanges of a class but one, each with the greatest charge that is computed
pub covered_low : (config : Config) (c : Class) → IsInRange config →
    (config.inflight - 1) * longest_computed config c ≤ 136640
covered_low config c range =
    let few : config.inflight - 1 ≤ 7 = omega (arith, range.inflight.1) in
    let left : (config.inflight - 1) * longest_computed config c ≤ 7 * longest_computed config c =
    mul-le-mul_right (longest_computed config c) few in
    omega (arith, left, computed_low config c range)

-- the product that the half computes fits; n is the greatest charge that is computed
pub covered_fits : (v x : TransmitValue) → x ≡ v → IsInRange x.config → (c : Class) (n : ℕ) →
    n ≡ longest_computed v.config c → (x.config.inflight - 1) * n ≤ 136640
covered_fits v x same range c n is =
    subst (λ (k : ℕ). (x.config.inflight - 1) * k ≤ 136640)
    (sym (is ∙ ap (λ (z : TransmitValue). longest_computed z.config c) (sym same)))
    (covered_low x.config c range)

-- the airtime in flight above what the quantum covers
pub uncovered_is : (v x : TransmitValue) → x ≡ v → (s : ℕ) (c : Class) (air n result : ℕ) →
    air ≡ pending_air_of v s c → n ≡ longest_computed v.config c →
    result ≡ air - (x.config.inflight - 1) * n → result ≡ uncovered_air_of v s c
uncovered_is v x same s c air n result air_is n_is is =
    is ∙ ap₂ (λ (a b : ℕ). a - (x.config.inflight - 1) * b) air_is n_is
    ∙ ap (λ (z : TransmitValue). pending_air_of v s c - (z.config.inflight - 1) * longest_computed v.config c)
    same

-- one deficit is lowered
pub lowered_is : (v x : TransmitValue) → x ≡ v → (s quantum : ℕ) (c : Class) (air : ℕ) (most : ℤ)
    (turns : SchedValue) → air ≡ uncovered_air_of v s c → most ≡ pos quantum -ℤ pos air →
    turns ≡ with_deficit_lowered x.sched s c most → record x { sched = turns } ≡ lowered s quantum c v
lowered_is v x same s quantum c air most turns air_is most_is is =
    ap (λ (t : SchedValue). let u : TransmitValue = record x { sched = t } in u) is
    ∙ ap (λ (d : ℤ). let u : TransmitValue = record x { sched = with_deficit_lowered x.sched s c d } in u)
    (most_is ∙ ap (λ (n : ℕ). pos quantum -ℤ pos n) air_is)
    ∙ ap (λ (z : TransmitValue). let u : TransmitValue = record z {
      sched = with_deficit_lowered z.sched s c (pos quantum -ℤ pos (uncovered_air_of v s c));
    } in u) same
