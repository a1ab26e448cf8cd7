-- Proves that each frame alone fits an aggregate: each station takes an aggregate of one, and the greatest
-- body with its encryption takes at most the time that a frame alone may take at its rate.
use Rattle.std.proofs.Common.{◌≡◌, arith, ℕ, zero, suc, ◌+◌, ◌-◌, ◌^◌, ◌≤◌, nat_le, max, true, [], ◌∷◌, Option, Some, None, IfSome, unwrap_or}
use Rattle.std.proofs.lemmas.Bool.{and_from, le-leb}
use Rattle.std.proofs.Math.Nat.{pow-le-pow_right, le-max_right}
use Rattle.wf_frame.specs.declared.classes.Class.{Class}
use Rattle.wf_def_lists.specs.Bounds.{least_ampdu}
use Rattle.wf_def_lists.specs.Lengths.{greatest_body, greatest_overhead}
use Rattle.wf_def_air.specs.Airtime.{Rate, Ht, Vht, He, Ofdm, Dsss, IsRate, data_time}
use Rattle.wf_def_air.proofs.Times.{single_time}
use Rattle.wf_def_air.specs.Fit.{subframe_octets, most_octets, alone_at}
use Rattle.wf_def_world.specs.World.{World, Station, Mpdu, station}
use Rattle.wf_def_world.specs.Service.{is_served, limit_left, service_limit}
use Rattle.wf_def_world.specs.Exchanges.{takes_one, limited, most_frames, fits_in}
use Rattle.wf_law_rules.proofs.Lemmas.Numbers.{on_if}

-- The longest aggregate that a station takes has room for the greatest body with its encryption.
some_stated : (o : Option ℕ) (octets : ℕ) → IfSome o (λ n. least_ampdu ≤ n) → least_ampdu ≤ octets →
    least_ampdu ≤ unwrap_or o octets
some_stated None octets h k = k
some_stated (Some n) octets h k = h

some_short : (exponent : ℕ) → least_ampdu ≤ 2 ^ (13 + exponent) - 1
some_short exponent = let least : 2 ^ 13 ≤ 2 ^ (13 + exponent) =
    pow-le-pow_right {n = 2} (omega arith) {i = 13} {j = 13 + exponent} (omega arith) in omega (arith, least)

some_octets : (r : Rate) (exponent : ℕ) (o : Option ℕ) → IfSome o (λ n. least_ampdu ≤ n) →
    least_ampdu ≤ most_octets r exponent o
some_octets (Ht mcs mhz short) exponent o h = some_short exponent
some_octets (Vht mcs mhz short n) exponent o h = let least : 2 ^ 17 ≤ 2 ^ (17 + exponent) =
    pow-le-pow_right {n = 2} (omega arith) {i = 17} {j = 17 + exponent} (omega arith) in
    some_stated o (2 ^ (17 + exponent) - 1) h (omega (arith, least))
some_octets (He mcs mhz guard n) exponent o h = let least : 2 ^ 17 ≤ 2 ^ (17 + exponent) =
    pow-le-pow_right {n = 2} (omega arith) {i = 17} {j = 17 + exponent} (omega arith) in
    some_stated o (2 ^ (17 + exponent) - 1) h (omega (arith, least))
some_octets (Ofdm mbps) exponent o h = some_short exponent
some_octets (Dsss half) exponent o h = some_short exponent

-- If frames are left of a service period, its limit allows one.
some_left : (o : Option ℕ) (n : ℕ) → 1 ≤ n → 1 ≤ limited (limit_left o) n
some_left None n some = some
some_left (Some zero) n some = some
some_left (Some (suc left)) n some = omega (arith, some)

-- A pull may send one frame.
pub some_most : (w : World) (s : ℕ) → 1 ≤ w.bounds.frames → 1 ≤ most_frames w s
some_most w s frames =
    let x : Station = station w s in
    let c : Class = w.bounds.class in
    on_if (λ (n : ℕ). 1 ≤ n) (takes_one x c) 1 (limited (service_limit x c) w.bounds.frames)
    (λ _. omega arith)
    (λ _. on_if (λ (o : Option ℕ). 1 ≤ limited o w.bounds.frames) (is_served x c) (limit_left x.service) None
    (λ _. some_left x.service w.bounds.frames frames) (λ _. frames))

pub fits_alone : (w : World) (s : ℕ) (m : Mpdu) → 1 ≤ w.bounds.frames →
    w.config.overhead ≤ greatest_overhead → IsRate (station w s).rate →
    IfSome (station w s).ampdu (λ n. least_ampdu ≤ n) → m.len ≤ greatest_body → fits_in w s (m ∷ []) ≡ true
fits_alone w s m frames overhead is stated short =
    let r : Rate = (station w s).rate in
    let octets : ℕ = subframe_octets (m.len + w.config.overhead) in
    let most : ℕ = most_octets r (station w s).exponent (station w s).ampdu in
    let one : 1 ≤ most_frames w s = some_most w s frames in
    let time : data_time r octets ≤ alone_at r = single_time r octets is (omega (arith, short, overhead)) in
    and_from (nat_le 1 (most_frames w s)) _ (le-leb 1 (most_frames w s) one)
    (and_from (nat_le octets most) _
    (le-leb octets most (omega (
      arith,
      short,
      overhead,
      some_octets r (station w s).exponent
          (station w s).ampdu stated,
    )))
    (le-leb (data_time r octets) (max w.bounds.air (alone_at r))
    (omega (arith, time, le-max_right w.bounds.air (alone_at r)))))
