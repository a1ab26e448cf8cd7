-- Proves that deficits and the airtime in flight that counts against them are small, in the worlds of a run.
use Rattle.std.proofs.Common.{◌≡◌, ap, ap₂, sym, ◌∙◌, subst, arith, ℕ, ◌<◌, ◌≤◌, ◌^◌, ◌-◌, ℤ, pos, negsuc, ◌+ℤ◌, ◌-ℤ◌, ◌≤ℤ◌, true, false, Option, None, length, option_map, unwrap_or, w64, SFits}
use Rattle.std.proofs.lemmas.Int.{ints, to_z-of_z}
use Rattle.std.proofs.lemmas.List.{get_or_past}
use mir.Val.{to_z, of_z}
use Rattle.wf_frame.specs.declared.classes.Class.{Class}
use Rattle.wf_frame.specs.Frames.{FrameValue}
use Rattle.wf_frame.specs.declared.settings.Config.{Config}
use Rattle.wf_frame.specs.declared.settings.Field.TheVariants.{Legacy}
use Rattle.wf_frame.specs.Settings.{greatest_of}
use Rattle.wf_def_world.specs.World.{World, is_live, share, standing, pending_air}
use Rattle.wf_law_runs.specs.Numbers.{least_deficit, greatest_deficit}
use Rattle.wf_law_runs.proofs.Deficits.Numbers.{number_law, deficit_within as most_within}
use Rattle.wf_sched.specs.ClassRotas.{deficit}
use Rattle.wf_send_parts.specs.declared.stations.members.Member.{Member}
use Rattle.wf_send_parts.specs.Members.{is_offloaded_in}
use Rattle.wf_send_half_model.specs.Half.{TransmitValue, pending_air_of}
use Rattle.wf_send_half_model.specs.Standing.{StandsFor, IsReached}
use Rattle.wf_send_half_model.proofs.Reached.{by_law}
use Rattle.wf_send_half_model.proofs.Readers.{pending_same, deficit_same}
use Rattle.wf_send_half.specs.Half.{HasWorld, HasUnheardWorld, IsLive}
use Rattle.wf_send_half.proofs.Rows.{live_of}

deficit_within : (w : World) → IsReached w → (s : ℕ) (c : Class) → is_live w s ≡ true →
    (least_deficit ≤ℤ (share w s c).deficit) ×
    ((share w s c).deficit ≤ℤ greatest_deficit w.config.legacy)
deficit_within w r s c live =
    by_law (λ u. is_live u s ≡ true →
    (least_deficit ≤ℤ (share u s c).deficit) ×
    ((share u s c).deficit ≤ℤ greatest_deficit u.config.legacy)) w r
    (λ m is. (number_law w.config r.history r.in_range m).deficits s c is) live

standing_within : (w : World) → IsReached w → (s : ℕ) (c : Class) → is_live w s ≡ true →
    (least_deficit ≤ℤ standing w s c) × (standing w s c ≤ℤ greatest_deficit w.config.legacy)
standing_within w r s c live =
    by_law (λ u. is_live u s ≡ true →
    (least_deficit ≤ℤ standing u s c) × (standing u s c ≤ℤ greatest_deficit u.config.legacy)) w r
    (λ m is. (number_law w.config r.history r.in_range m).standings s c is) live

-- an airtime between a standing and its deficit is small, as both are
between : (legacy : ℕ) (d : ℤ) (n : ℕ) → least_deficit ≤ℤ (d -ℤ pos n) → d ≤ℤ greatest_deficit legacy →
    n ≤ 2 ^ 31
between legacy d n low high =
    let few : greatest_deficit legacy ≤ℤ greatest_deficit (greatest_of Legacy) = most_within legacy in
    omega (arith, ints)

module _ (v : TransmitValue) (w : World) (bodies : ℕ → FrameValue) (h : StandsFor v w bodies) (s : ℕ)
    (c : Class) (live : is_live w s ≡ true) where
  pub pending_few : pending_air_of v s c ≤ 2 ^ 31
  pending_few = subst (λ (n : ℕ). n ≤ 2 ^ 31) (sym (pending_same v w bodies s c h.parts))
      (between w.config.legacy (share w s c).deficit (pending_air w s c)
      (standing_within w h.reached s c live).0 (deficit_within w h.reached s c live).1)

  -- what the scheduler keeps
  pub standing_low : negsuc (2 ^ 31) ≤ℤ deficit v.sched c s
  standing_low = subst (λ (d : ℤ). negsuc (2 ^ 31) ≤ℤ d) (sym (h.parts.others.turns.deficits s c live))
      (let k = (standing_within w h.reached s c live).0 in omega (arith, ints, k))

  pub standing_high : deficit v.sched c s ≤ℤ pos (2 ^ 31)
  standing_high = subst (λ (d : ℤ). d ≤ℤ pos (2 ^ 31)) (sym (h.parts.others.turns.deficits s c live))
      (let k = (standing_within w h.reached s c live).1 in
      let few : greatest_deficit w.config.legacy ≤ℤ greatest_deficit (greatest_of Legacy) =
      most_within w.config.legacy in
      omega (arith, ints, k, few))

-- ---- sums of 64 bits

small_fits : (z : ℤ) → negsuc (2 ^ 34) ≤ℤ z → z ≤ℤ pos (2 ^ 34) → SFits w64 z
small_fits (pos n) low high = record { sfits = omega (arith, ints, high) }
small_fits (negsuc n) low high = record { sfits = omega (arith, ints, low) }

-- a small number and an airtime are added without loss
module _ (d e : ℤ) (n : ℕ) (low : negsuc (2 ^ 33) ≤ℤ d) (high : d ≤ℤ pos (2 ^ 33)) (few : n ≤ 2 ^ 31)
    (is : e ≡ pos n) where
  abbrev added : ℤ
  added = to_z w64 (of_z w64 d) +ℤ to_z w64 (of_z w64 e)

  added_is : added ≡ d +ℤ pos n
  added_is = ap₂ (λ (a b : ℤ). a +ℤ b) (to_z-of_z w64 d
      (small_fits d (omega (arith, ints)) (omega (arith, ints))))
      (to_z-of_z w64 e (subst (SFits w64) (sym is) (small_fits (pos n) (omega (arith, ints))
      (omega (arith, ints)))) ∙ is)

  added_fits : SFits w64 added
  added_fits = subst (SFits w64) (sym added_is)
      (small_fits (d +ℤ pos n) (omega (arith, ints)) (omega (arith, ints)))

  added_plain : to_z w64 (of_z w64 added) ≡ d +ℤ pos n
  added_plain = to_z-of_z w64 added added_fits ∙ added_is

-- the difference of two numbers of 32 bits
module _ (d e : ℤ) (m n : ℕ) (first : m < 2 ^ 32) (second : n < 2 ^ 32) (d_is : d ≡ pos m)
    (e_is : e ≡ pos n) where
  abbrev difference : ℤ
  difference = to_z w64 (of_z w64 d) -ℤ to_z w64 (of_z w64 e)

  -- a number of 32 bits is the same as one of 64 bits
  plain : (z : ℤ) (k : ℕ) → k < 2 ^ 32 → z ≡ pos k → to_z w64 (of_z w64 z) ≡ pos k
  plain z k small is = to_z-of_z w64 z (subst (SFits w64) (sym is) (small_fits (pos k) (omega (arith, ints))
      (omega (arith, ints, small)))) ∙ is

  difference_is : difference ≡ pos m -ℤ pos n
  difference_is = ap₂ (λ (a b : ℤ). a -ℤ b) (plain d m first d_is) (plain e n second e_is)

  -- the difference fits in 64 bits
  pub difference_fits : SFits w64 difference
  difference_fits = subst (SFits w64) (sym difference_is)
      (small_fits (pos m -ℤ pos n) (omega (arith, ints, first, second)) (omega (arith, ints, first, second)))

  -- the difference is exact
  pub difference_plain : to_z w64 (of_z w64 difference) ≡ pos m -ℤ pos n
  difference_plain = to_z-of_z w64 difference difference_fits ∙ difference_is

  -- the difference is not too low for a deficit
  pub difference_low : negsuc (2 ^ 62 - 1) ≤ℤ to_z w64 (of_z w64 difference)
  difference_low = subst (λ (z : ℤ). negsuc (2 ^ 62 - 1) ≤ℤ z) (sym difference_plain)
      (omega (arith, ints, first, second))

-- ---- the half in some world of a run

-- v is the half, and x the value of its fields
module _ (x v : TransmitValue) (same : x ≡ v) (some : HasWorld v) (s : ℕ) (c : Class) (live : IsLive v s)
    (p : ℕ)
    (p_is : p ≡ pending_air_of v s c) where
  there : is_live some.world s ≡ true
  there = live_of v some.world some.bodies some.stands s live

  pub few_pending : p ≤ 2 ^ 31
  few_pending = omega (arith, p_is, pending_few v some.world some.bodies some.stands s c there)

  pub own_pending : p ≡ pending_air_of x s c
  own_pending = p_is ∙ sym (ap (λ (z : TransmitValue). pending_air_of z s c) same)

  module _ (d : ℤ) (air : ℕ) (few_air : air < 2 ^ 32) (d_is : d ≡ deficit x.sched c s -ℤ pos air) where
    low : negsuc (2 ^ 31) ≤ℤ deficit x.sched c s
    low = subst (λ (z : TransmitValue). negsuc (2 ^ 31) ≤ℤ deficit z.sched c s) (sym same)
        (standing_low v some.world some.bodies some.stands s c there)

    high : deficit x.sched c s ≤ℤ pos (2 ^ 31)
    high = subst (λ (z : TransmitValue). deficit z.sched c s ≤ℤ pos (2 ^ 31)) (sym same)
        (standing_high v some.world some.bodies some.stands s c there)

    left_low : negsuc (2 ^ 33) ≤ℤ d
    left_low = omega (arith, ints, low, d_is)

    left_high : d ≤ℤ pos (2 ^ 33)
    left_high = omega (arith, ints, high, d_is)

    module _ (e : ℤ) (e_is : e ≡ pos p) where
      pub left_fits : SFits w64 (to_z w64 (of_z w64 d) +ℤ to_z w64 (of_z w64 e))
      left_fits = added_fits d e p left_low left_high few_pending e_is

      pub left_plain : to_z w64 (of_z w64 (to_z w64 (of_z w64 d) +ℤ to_z w64 (of_z w64 e))) ≡ d +ℤ pos p
      left_plain = added_plain d e p left_low left_high few_pending e_is

-- ---- the deficit that a half reports

module _ (v u : TransmitValue) (same : v ≡ u) (some : HasUnheardWorld v) (s : ℕ) (c : Class)
    (live : IsLive u s)
    (d e : ℤ) (p : ℕ) (d_is : d ≡ deficit v.sched c s) (p_is : p ≡ pending_air_of v s c)
    (e_is : e ≡ pos p) where
  lives : is_live some.world s ≡ true
  lives = live_of v some.world some.bodies some.stands s
      (subst (λ (z : TransmitValue). IsLive z s) (sym same) live)

  least : negsuc (2 ^ 33) ≤ℤ d
  least = omega (arith, ints, d_is, standing_low v some.world some.bodies some.stands s c lives)

  most : d ≤ℤ pos (2 ^ 33)
  most = omega (arith, ints, d_is, standing_high v some.world some.bodies some.stands s c lives)

  few : p ≤ 2 ^ 31
  few = omega (arith, p_is, pending_few v some.world some.bodies some.stands s c lives)

  pub read_fits : SFits w64 (to_z w64 (of_z w64 d) +ℤ to_z w64 (of_z w64 e))
  read_fits = added_fits d e p least most few e_is

  pub read_is : to_z w64 (of_z w64 (to_z w64 (of_z w64 d) +ℤ to_z w64 (of_z w64 e)))
      ≡ deficit u.sched c s +ℤ pos (pending_air_of u s c)
  read_is = added_plain d e p least most few e_is
      ∙ ap₂ (λ (a : ℤ) (n : ℕ). a +ℤ pos n) d_is p_is
      ∙ ap (λ (z : TransmitValue). deficit z.sched c s +ℤ pos (pending_air_of z s c)) same

  pub read_world : (w : World) (bodies : ℕ → FrameValue) → StandsFor u w bodies →
      to_z w64 (of_z w64 (to_z w64 (of_z w64 d) +ℤ to_z w64 (of_z w64 e))) ≡ (share w s c).deficit
  read_world w bodies h = read_is ∙ deficit_same u w bodies s c h.parts (live_of u w bodies h s live)

-- a station whose number is too great is not offloaded
pub none_offloaded : (x v : TransmitValue) → x ≡ v → HasUnheardWorld x → (s : ℕ) → x.config.stations ≤ s →
    false ≡ is_offloaded_in v.members s
none_offloaded x v same some s past =
    let sized : length x.members ≤ s = omega (
      arith,
      past,
      some.stands.parts.others.stations.sized.0,
      ap (λ (z : Config). z.stations) some.stands.parts.others.config,
    ) in
    sym (ap (λ (z : TransmitValue). is_offloaded_in z.members s) (sym same)
    ∙ ap (λ (o : Option Member). unwrap_or (option_map (λ m. m.offloaded) o) false)
    (get_or_past x.members s None sized))
