-- Proves that the duration that the code computes from a rate's timing is the defined one.
use Rattle.std.proofs.Common.{◌≡◌, ◌∙◌, arith, ℕ, ◌+◌, ◌*◌, ◌<◌, ◌≤◌}
use Rattle.std.specs.Int.{div_ceil}
use Rattle.std.proofs.lemmas.Nat.{mul-le}
use Rattle.wf_def_lists.specs.Table.{ceil_div}
use Rattle.wf_def_air.specs.Airtime.{Rate, Ht, Vht, He, Ofdm, Dsss, IsRate, octet_bits, service_and_tails, bits, symbol_tenths, symbols, preamble_tenths, payload_tenths, data_time}
use Rattle.wf_air.specs.declared.time.Timing.{Timing}
use Rattle.wf_air.specs.Rates.{unit_tenths, timing_of, longest_aggregate}
use Rattle.wf_air.proofs.Ceilings.{same_ceiling}
use Rattle.wf_air.proofs.Bounds.{bits_least, few_octet_bits, few_service, time_most}

-- a bound of a number of tenths from a bound of the microseconds, rounded up
few_tenths : (x most : ℕ) → ceil_div x 10 ≤ most → x ≤ 10 * most
few_tenths x most h = omega (arith, h)

unit_some : (r : Rate) → 0 < unit_tenths r
unit_some (Ht mcs mhz short) = omega arith
unit_some (Vht mcs mhz short n) = omega arith
unit_some (He mcs mhz guard n) = omega arith
unit_some (Ofdm mbps) = omega arith
unit_some (Dsss half) = omega arith

forty : (x : ℕ) → div_ceil x 40 * 40 ≡ 40 * ceil_div x 40
forty x = omega (arith, same_ceiling x 40 (omega arith))

one : (x : ℕ) → div_ceil x 1 * 1 ≡ x
one x = omega arith

-- the payload's time is a multiple of the unit
units_are : (r : Rate) (octets : ℕ) →
    div_ceil (symbol_tenths r * symbols r octets) (unit_tenths r) * unit_tenths r ≡ payload_tenths r octets
units_are (Ht mcs mhz short) octets = forty _
units_are (Vht mcs mhz short n) octets = forty _
units_are (He mcs mhz guard n) octets = one _
units_are (Ofdm mbps) octets = one _
units_are (Dsss half) octets = one _

forty_most : (x : ℕ) → x ≤ 40 * ceil_div x 40
forty_most x = omega arith

-- the symbols take at most the payload's time
symbols_within : (r : Rate) (octets : ℕ) → symbol_tenths r * symbols r octets ≤ payload_tenths r octets
symbols_within (Ht mcs mhz short) octets = forty_most _
symbols_within (Vht mcs mhz short n) octets = forty_most _
symbols_within (He mcs mhz guard n) octets = omega arith
symbols_within (Ofdm mbps) octets = omega arith
symbols_within (Dsss half) octets = omega arith

-- the bits of the longest payload are few
few_bits : (r : Rate) (octets : ℕ) → IsRate r → octets ≤ longest_aggregate →
    octet_bits r * octets + service_and_tails r ≤ 104020000
few_bits r octets is few =
    let most : octet_bits r * octets ≤ 16 * longest_aggregate =
    mul-le (octet_bits r) octets 16 longest_aggregate (few_octet_bits r) few in
    omega (arith, most, few_service r is)

-- t is the timing of the rate r; the quotients that the code computes are n symbols, y units and z
-- microseconds
module _ (r : Rate) (t : Timing) (is : IsRate r) (timed : t ≡ timing_of r) (octets : ℕ) where
  pub some_bits : 0 < t.bits
  some_bits = rw timed (omega (arith, bits_least r is))

  pub some_unit : 0 < t.unit
  some_unit = rw timed (unit_some r)

  pub few_in_octets : octets ≤ longest_aggregate → t.octet * octets + t.service_and_tails ≤ 104020000
  few_in_octets few = rw timed (few_bits r octets is few)

  module _ (n : ℕ) (n_is : n ≡ div_ceil (t.octet * octets + t.service_and_tails) t.bits) where
    symbols_are : n ≡ symbols r octets
    symbols_are = n_is ∙ rw timed (same_ceiling _ (bits r) (omega (arith, bits_least r is)))

    module _ (y : ℕ) (y_is : y ≡ div_ceil (t.symbol * n) t.unit) where
      payload_is : y * t.unit ≡ payload_tenths r octets
      payload_is = rw (y_is, symbols_are, timed) (units_are r octets)

      pub time_is : (z : ℕ) → z ≡ div_ceil (t.preamble + y * t.unit) 10 → z ≡ data_time r octets
      time_is z z_is = z_is ∙ rw (payload_is, timed) (same_ceiling _ 10 (omega arith))

    module _ (few : octets ≤ longest_aggregate) where
      all_few : preamble_tenths r + payload_tenths r octets ≤ 521000000
      all_few = few_tenths _ 52100000 (time_most r octets is few)

      pub few_in_symbols : t.symbol * n ≤ 521000000
      few_in_symbols = rw (symbols_are, timed) (omega (arith, symbols_within r octets, all_few))

      pub few_in_all : (y : ℕ) → y ≡ div_ceil (t.symbol * n) t.unit → t.preamble + y * t.unit ≤ 521000000
      few_in_all y y_is = rw (payload_is y y_is, timed) all_few
