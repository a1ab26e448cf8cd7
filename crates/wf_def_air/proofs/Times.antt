-- Proves how long data takes at most, and that more octets never take less time. The bounds follow from the
-- least and the greatest entries of the tables of rates. Proofs of other crates use this module too.
use Rattle.std.proofs.Common.{◌≡◌, refl, arith, ℕ, zero, suc, ◌+◌, ◌-◌, ◌*◌, ◌/◌, ◌%◌, ◌<◌, ◌≤◌, ◌==◌, ◌&&◌, Bool, true, false, if◌then◌else◌, List, [], ◌∷◌, length, slice_index}
use Rattle.std.specs.Prelude.{nat_le}
use Rattle.std.proofs.lemmas.Bool.{and_parts, leb-true}
use Rattle.std.proofs.lemmas.Bool.Decides.{nat_tests}
use Rattle.std.proofs.lemmas.Nat.{div_below, mod_below, le-div, mul-le}
use Rattle.std.proofs.Math.Nat.{div-zero, div-mul-le_self, mul-le-mul_left}
use Rattle.wf_def_lists.specs.Table.{ceil_div, has}
use Rattle.wf_def_lists.specs.Lengths.{greatest_protected}
use Rattle.wf_def_lists.specs.Bounds.{greatest_mcs, greatest_ampdu}
use Rattle.wf_def_air.specs.Airtime.{Rate, Ht, Vht, He, Ofdm, Dsss, is_rate, ofdm_rates, dsss_rates, are_streams, is_wide_width, greatest_vht_mcs, greatest_he_mcs, streams, modulation, bits_of_twelve, carriers_of_312, carriers_of_78, bits, symbol_tenths, kbps, vht_encoders, encoder_bits, encoders, octet_bits, service_and_tails, symbols, training_fields, training_tenths, whole_symbols, payload_tenths, data_time}
use Rattle.wf_def_air.specs.Fit.{subframe_octets, alone_at}

-- ---- bounds on the numbers of a list

abbrev all_between : ℕ → ℕ → List ℕ → Bool
all_between low high [] = true
all_between low high (n ∷ ns) = (nat_le low n && nat_le n high) && all_between low high ns

between_at : (low high : ℕ) (ns : List ℕ) (k : ℕ) → all_between low high ns ≡ true → k < length ns →
    (low ≤ slice_index ns k) × (slice_index ns k ≤ high)
between_at low high [] k all h = absurd (omega (arith, h))
between_at low high (n ∷ ns) zero all h =
    let both = and_parts (nat_le low n && nat_le n high) (all_between low high ns) all in
    let first = and_parts (nat_le low n) (nat_le n high) both.0 in
    (leb-true low n first.0, leb-true n high first.1)
between_at low high (n ∷ ns) (suc k) all h =
    between_at low high ns k (and_parts (nat_le low n && nat_le n high) (all_between low high ns) all).1
    (omega (arith, h))

twelve_between : (k : ℕ) → k < 12 → (6 ≤ slice_index bits_of_twelve k)
    × (slice_index bits_of_twelve k ≤ 100)
twelve_between k h = between_at 6 100 bits_of_twelve k refl h

few_fields : (k : ℕ) → k < 8 → slice_index training_fields k ≤ 8
few_fields k h = (between_at 1 8 training_fields k refl h).1

between_if : (b : Bool) (low high x y : ℕ) → (low ≤ x) × (x ≤ high) → (low ≤ y) × (y ≤ high) →
    (low ≤ (if b then x else y)) × ((if b then x else y) ≤ high)
between_if true low high x y h k = h
between_if false low high x y h k = k

some_carriers : (mhz : ℕ) → (52 ≤ carriers_of_312 mhz) × (carriers_of_312 mhz ≤ 468)
some_carriers mhz = between_if (mhz == 40) 52 468 108 _ (omega arith, omega arith)
    (between_if (mhz == 80) 52 468 234 _ (omega arith, omega arith)
    (between_if (mhz == 160) 52 468 468 52 (omega arith, omega arith) (omega arith, omega arith)))

many_carriers : (mhz : ℕ) → (234 ≤ carriers_of_78 mhz) × (carriers_of_78 mhz ≤ 1960)
many_carriers mhz = between_if (mhz == 40) 234 1960 468 _ (omega arith, omega arith)
    (between_if (mhz == 80) 234 1960 980 _ (omega arith, omega arith)
    (between_if (mhz == 160) 234 1960 1960 234 (omega arith, omega arith) (omega arith, omega arith)))

-- ---- bounds on the parts of a rate

-- The time of a symbol of HT and VHT.
symbol_between : (short : Bool) → (36 ≤ (if short then 36 else 40)) × ((if short then 36 else 40) ≤ 40)
symbol_between true = (omega arith, omega arith)
symbol_between false = (omega arith, omega arith)

symbol_if : (short : Bool) → (if short then 36 else 40) ≤ 160
symbol_if true = omega arith
symbol_if false = omega arith

guard_between : (guard : ℕ) → has (800 ∷ 1600 ∷ 3200 ∷ []) guard ≡ true →
    (8 ≤ guard / 100) × (guard / 100 ≤ 32)
guard_between guard h =
    let least : 800 ≤ guard = grind (arith, nat_tests) in
    let most : guard ≤ 3200 = grind (arith, nat_tests) in
    let below : guard / 100 < 33 = div_below guard 100 33 (omega arith) (omega (arith, most)) in
    (le-div 8 guard 100 (omega arith) (omega (arith, least)), omega (arith, below))

training_most : (b : Bool) (n : ℕ) → n ≤ 32 → (if b then 128 else 64) + n ≤ 160
training_most true n h = omega (arith, h)
training_most false n h = omega (arith, h)

-- ---- the bits in a symbol

-- Bounds on the bits in a symbol, from bounds on its carriers, its streams and the bits of twelve carriers.
some_bits : (c n t least most : ℕ) → (least ≤ c) × (c ≤ most) → (1 ≤ n) × (n ≤ 8) → (6 ≤ t) × (t ≤ 100) →
    (least * 6 / 12 ≤ c * n * t / 12) × (c * n * t / 12 ≤ most * 800 / 12)
some_bits c n t least most carried streamed coded =
    let low : least * 1 * 6 ≤ c * n * t =
    mul-le (least * 1) 6 (c * n) t (mul-le least 1 c n carried.0 streamed.0) coded.0 in
    let high : c * n * t ≤ most * 8 * 100 =
    mul-le (c * n) t (most * 8) 100 (mul-le c n most 8 carried.1 streamed.1) coded.1 in
    (omega (arith, low), omega (arith, high))

-- An MCS of HT has one or two streams.
ht_streams : (mcs : ℕ) → mcs ≤ greatest_mcs → (1 ≤ 1 + mcs / 8) × (1 + mcs / 8 ≤ 2)
ht_streams mcs h =
    let few : mcs / 8 < 2 = div_below mcs 8 2 (omega arith) (omega (arith, h)) in
    (omega arith, omega (arith, few))

streams_are : (n : ℕ) → are_streams n ≡ true → (1 ≤ n) × (n ≤ 8)
streams_are n h =
    let parts = and_parts (nat_le 1 n) (nat_le n 8) h in
    (leb-true 1 n parts.0, leb-true n 8 parts.1)

-- A lower bound on the time of a symbol, in tenths of a microsecond.
abbrev pub least_symbol : Rate → ℕ
least_symbol (Ht mcs mhz short) = 36
least_symbol (Vht mcs mhz short n) = 36
least_symbol (He mcs mhz guard n) = 136
least_symbol (Ofdm mbps) = 40
least_symbol (Dsss half) = 10

-- The speed of a rate of OFDM or DSSS is between the least and the greatest of its table.
abbrev pub HasSpeed : Rate → Type 0
HasSpeed (Ofdm mbps) = (6 ≤ mbps) × (mbps ≤ 54)
HasSpeed (Dsss half) = (2 ≤ half) × (half ≤ 22)
HasSpeed r = Unit {0}

ofdm_speed : (mbps : ℕ) → has ofdm_rates mbps ≡ true → (6 ≤ mbps) × (mbps ≤ 54)
ofdm_speed mbps h = (grind (arith, nat_tests), grind (arith, nat_tests))

dsss_speed : (half : ℕ) → has dsss_rates half ≡ true → (2 ≤ half) × (half ≤ 22)
dsss_speed half h = (grind (arith, nat_tests), grind (arith, nat_tests))

-- Bounds on the parts of a rate: its streams, its index in the table of modulations, its times, and its
-- speed.
pub record IsInRange (r : Rate) : Type 0 where
  pub streamed : (1 ≤ streams r) × (streams r ≤ 8)
  pub coded : modulation r < 12
  pub least : least_symbol r ≤ symbol_tenths r
  pub guarded : symbol_tenths r ≤ 160
  pub trained : training_tenths r ≤ 160
  pub speed : HasSpeed r

pub rate_in_range : (r : Rate) → is_rate r ≡ true → IsInRange r
rate_in_range (Ht mcs mhz short) h =
    let few = ht_streams mcs (leb-true mcs greatest_mcs (and_parts (nat_le mcs greatest_mcs) _ h).0) in
    let below : mcs % 8 < 8 = mod_below mcs 8 (omega arith) in
    record {
      streamed = (few.0, omega (arith, few.1));
      coded = omega (arith, below);
      least = (symbol_between short).0;
      guarded = symbol_if short;
      trained = omega arith;
      speed = tt;
    }
rate_in_range (Vht mcs mhz short n) h =
    let first = and_parts (nat_le mcs greatest_vht_mcs) _ h in
    let second = and_parts (is_wide_width mhz) _ first.1 in
    let third = and_parts (are_streams n) _ second.1 in
    record {
      streamed = streams_are n third.0;
      coded = omega (arith, leb-true mcs greatest_vht_mcs first.0);
      least = (symbol_between short).0;
      guarded = symbol_if short;
      trained = omega arith;
      speed = tt;
    }
rate_in_range (He mcs mhz guard n) h =
    let first = and_parts (nat_le mcs greatest_he_mcs) _ h in
    let second = and_parts (is_wide_width mhz) _ first.1 in
    let third = and_parts (are_streams n) _ second.1 in
    let short : guard / 100 ≤ 32 = (guard_between guard third.1).1 in
    let long : 8 ≤ guard / 100 = (guard_between guard third.1).0 in
    record {
      streamed = streams_are n third.0;
      coded = omega (arith, leb-true mcs greatest_he_mcs first.0);
      least = omega (arith, long);
      guarded = omega (arith, short);
      trained = training_most (guard == 3200) (guard / 100) short;
      speed = tt;
    }
rate_in_range (Ofdm mbps) h = record {
  streamed = (omega arith, omega arith);
  coded = omega arith;
  least = omega arith;
  guarded = omega arith;
  trained = omega arith;
  speed = ofdm_speed mbps h;
}
rate_in_range (Dsss half) h = record {
  streamed = (omega arith, omega arith);
  coded = omega arith;
  least = omega arith;
  guarded = omega arith;
  trained = omega arith;
  speed = dsss_speed half h;
}

-- A lower bound on the bits in a symbol of HT and VHT, of HE, of OFDM and of DSSS.
abbrev pub least_bits : Rate → ℕ
least_bits (Ht mcs mhz short) = 26
least_bits (Vht mcs mhz short n) = 26
least_bits (He mcs mhz guard n) = 117
least_bits (Ofdm mbps) = 24
least_bits (Dsss half) = 2

-- The bits in a symbol of any rate.
pub bits_between : (r : Rate) → IsInRange r → (least_bits r ≤ bits r) × (bits r ≤ 130666)
bits_between (Ht mcs mhz short) h =
    let between = some_bits (carriers_of_312 mhz) (1 + mcs / 8) (slice_index bits_of_twelve (mcs % 8)) 52 468
    (some_carriers mhz) h.streamed (twelve_between (mcs % 8) h.coded) in
    (between.0, omega (arith, between.1))
bits_between (Vht mcs mhz short n) h =
    let between = some_bits (carriers_of_312 mhz) n (slice_index bits_of_twelve mcs) 52 468
    (some_carriers mhz) h.streamed (twelve_between mcs h.coded) in
    (between.0, omega (arith, between.1))
bits_between (He mcs mhz guard n) h =
    let between = some_bits (carriers_of_78 mhz) n (slice_index bits_of_twelve mcs) 234 1960
    (many_carriers mhz) h.streamed (twelve_between mcs h.coded) in
    (omega (arith, between.0), between.1)
bits_between (Ofdm mbps) h = (omega (arith, h.speed.0), omega (arith, h.speed.1))
bits_between (Dsss half) h = (h.speed.0, omega (arith, h.speed.1))

-- The bits in a symbol of VHT.
vht_bits : (mcs mhz : ℕ) (short : Bool) (n : ℕ) → IsInRange (Vht mcs mhz short n) →
    bits (Vht mcs mhz short n) ≤ 31200
vht_bits mcs mhz short n h =
    (some_bits (carriers_of_312 mhz) n (slice_index bits_of_twelve mcs) 52 468
    (some_carriers mhz) h.streamed (twelve_between mcs h.coded)).1

-- ---- quotients

-- A quotient is between `low` and `high` if the number is between the products of these with the divisor.
quotient_between : (x b low high : ℕ) → 0 < b → low * b ≤ x → x < (high + 1) * b →
    (low ≤ x / b) × (x / b ≤ high)
quotient_between x b low high some h k =
    let below : x / b < high + 1 = div_below x b (high + 1) some k in
    (le-div low x b some h, omega (arith, below))

-- A quotient that is rounded up is at most q if the number is at most q * least and the divisor is at least
-- `least`.
ceil_most : (x b q least : ℕ) → 0 < least → least ≤ b → x ≤ q * least → ceil_div x b ≤ q
ceil_most x b q least some h k =
    let more : q * least ≤ q * b = mul-le-mul_left q h in
    let below : (x + (b - 1)) / b < q + 1 =
    div_below (x + (b - 1)) b (q + 1) (omega (arith, some, h)) (omega (arith, some, h, k, more)) in
    omega (arith, below)

div_less : (x y k : ℕ) → x ≤ y → x / k ≤ y / k
div_less x y zero h = rw (div-zero x, div-zero y) (omega arith)
div_less x y (suc k) h = le-div (x / suc k) y (suc k) (omega arith)
    (omega (arith, div-mul-le_self x (suc k), h))

-- ---- kbit/s

-- The rate in kbit/s of b bits in t tenths of a microsecond.
kbps_of : (b t few many short long : ℕ) → (few ≤ b) × (b ≤ many) → (short ≤ t) × (t ≤ long) → 0 < short →
    6500 * long ≤ 10000 * few → 10000 * many < 9607795 * short →
    (6500 ≤ 10000 * b / t) × (10000 * b / t ≤ 9607794)
kbps_of b t few many short long bit time some low high =
    quotient_between (10000 * b) t 6500 9607794 (omega (arith, some, time.0))
    (omega (arith, time.1, bit.0, low)) (omega (arith, time.0, bit.1, high))

-- A lower bound on a rate in kbit/s.
abbrev pub slowest_kbps : Rate → ℕ
slowest_kbps (Ofdm mbps) = 6000
slowest_kbps (Dsss half) = 1000
slowest_kbps r = 6500

pub kbps_between : (r : Rate) → IsInRange r → (slowest_kbps r ≤ kbps r) × (kbps r ≤ 9607794)
kbps_between (Ht mcs mhz short) h =
    kbps_of (bits (Ht mcs mhz short)) (if short then 36 else 40) 26 31200 36 40
    (some_bits (carriers_of_312 mhz) (1 + mcs / 8) (slice_index bits_of_twelve (mcs % 8)) 52 468
    (some_carriers mhz) h.streamed (twelve_between (mcs % 8) h.coded))
    (symbol_between short) (omega arith) (omega arith) (omega arith)
kbps_between (Vht mcs mhz short n) h =
    kbps_of (bits (Vht mcs mhz short n)) (if short then 36 else 40) 26 31200 36 40
    (some_bits (carriers_of_312 mhz) n (slice_index bits_of_twelve mcs) 52 468
    (some_carriers mhz) h.streamed (twelve_between mcs h.coded))
    (symbol_between short) (omega arith) (omega arith) (omega arith)
kbps_between (He mcs mhz guard n) h =
    kbps_of (bits (He mcs mhz guard n)) (128 + guard / 100) 117 130666 136 160
    (some_bits (carriers_of_78 mhz) n (slice_index bits_of_twelve mcs) 234 1960
    (many_carriers mhz) h.streamed (twelve_between mcs h.coded))
    (h.least, h.guarded) (omega arith) (omega arith) (omega arith)
kbps_between (Ofdm mbps) h = (omega (arith, h.speed.0), omega (arith, h.speed.1))
kbps_between (Dsss half) h = (omega (arith, h.speed.0), omega (arith, h.speed.1))

-- ---- symbols

few_if : (b : Bool) (most x y : ℕ) → x ≤ most → y ≤ most → (if b then x else y) ≤ most
few_if true most x y h k = h
few_if false most x y h k = k

few_vht_encoders : (mcs mhz n per_symbol : ℕ) → per_symbol ≤ 31200 → vht_encoders mcs mhz n per_symbol ≤ 15
few_vht_encoders mcs mhz n per_symbol h =
    let many : ceil_div per_symbol encoder_bits ≤ 15 =
    ceil_most per_symbol encoder_bits 15 encoder_bits (omega arith) (omega arith) (omega (arith, h)) in
    few_if _ 15 3 _ (omega arith) (few_if _ 15 6 _ (omega arith) (few_if _ 15 8 _ (omega arith)
    (few_if _ 15 9 _ (omega arith) (few_if _ 15 12 _ (omega arith) many))))

pub few_encoders : (r : Rate) → IsInRange r → encoders r ≤ 15
few_encoders (Ht mcs mhz short) h = omega arith
few_encoders (Vht mcs mhz short n) h = few_vht_encoders mcs mhz n _ (vht_bits mcs mhz short n h)
few_encoders (He mcs mhz guard n) h = omega arith
few_encoders (Ofdm mbps) h = omega arith
few_encoders (Dsss half) h = omega arith

-- The octets take at most `most` symbols if that many symbols of `least` bits hold them, and a symbol has at
-- least that many.
few_symbols_of : (r : Rate) (octets most least : ℕ) → 0 < least → least ≤ bits r →
    octet_bits r * octets + service_and_tails r ≤ most * least → symbols r octets ≤ most
few_symbols_of r octets most least some enough k =
    ceil_most (octet_bits r * octets + service_and_tails r) (bits r) most least some enough k

-- The same for VHT, which has at most 15 encoders.
few_vht_symbols : (mcs mhz : ℕ) (short : Bool) (n octets most least : ℕ) → IsInRange (Vht mcs mhz short n) →
    0 < least → least ≤ bits (Vht mcs mhz short n) → 8 * octets + 106 ≤ most * least →
    symbols (Vht mcs mhz short n) octets ≤ most
few_vht_symbols mcs mhz short n octets most least h some enough k =
    let tails : encoders (Vht mcs mhz short n) ≤ 15 = few_encoders (Vht mcs mhz short n) h in
    few_symbols_of (Vht mcs mhz short n) octets most least some enough (omega (arith, tails, k))

-- The same for HT, which has one encoder.
few_ht_symbols : (mcs mhz : ℕ) (short : Bool) (octets most : ℕ) → IsInRange (Ht mcs mhz short) →
    8 * octets + 22 ≤ most * 26 → symbols (Ht mcs mhz short) octets ≤ most
few_ht_symbols mcs mhz short octets most h k =
    few_symbols_of (Ht mcs mhz short) octets most 26 (omega arith)
    (bits_between (Ht mcs mhz short) h).0 (omega (arith, k))

-- Two or more streams of VHT have at least 52 bits in a symbol.
two_streams : (mcs mhz : ℕ) (short : Bool) (n : ℕ) → IsInRange (Vht mcs mhz short n) → 2 ≤ n →
    52 ≤ bits (Vht mcs mhz short n)
two_streams mcs mhz short n h more =
    let low : 52 * 2 * 6 ≤ carriers_of_312 mhz * n * slice_index bits_of_twelve mcs =
    mul-le (52 * 2) 6 (carriers_of_312 mhz * n) _ (mul-le 52 2 (carriers_of_312 mhz) n (some_carriers mhz).0 more)
    (twelve_between mcs h.coded).0 in
    omega (arith, low)

-- The same for HE, which has one encoder and at least 117 bits in a symbol.
few_he_symbols : (mcs mhz guard n octets most : ℕ) → IsInRange (He mcs mhz guard n) →
    8 * octets + 22 ≤ most * 117 → symbols (He mcs mhz guard n) octets ≤ most
few_he_symbols mcs mhz guard n octets most h k =
    few_symbols_of (He mcs mhz guard n) octets most 117 (omega arith)
    (bits_between (He mcs mhz guard n) h).0 (omega (arith, k))

-- The same for OFDM, which has at least 24 bits in a symbol, and for DSSS, which has at least one bit in a
-- microsecond.
few_ofdm_symbols : (mbps octets most : ℕ) → IsInRange (Ofdm mbps) → 8 * octets + 22 ≤ most * 24 →
    symbols (Ofdm mbps) octets ≤ most
few_ofdm_symbols mbps octets most h k =
    few_symbols_of (Ofdm mbps) octets most 24 (omega arith) (bits_between (Ofdm mbps) h).0 (omega (arith, k))

few_dsss_symbols : (half octets most : ℕ) → IsInRange (Dsss half) → 8 * octets ≤ most →
    symbols (Dsss half) octets ≤ most
few_dsss_symbols half octets most h k =
    few_symbols_of (Dsss half) octets most 2 (omega arith) (bits_between (Dsss half) h).0 (omega (arith, k))

-- ---- times

short_symbol : (short : Bool) → (if short then 36 else 40) ≤ 40
short_symbol true = omega arith
short_symbol false = omega arith

few_in_preamble : (streams : ℕ) → (1 ≤ streams) × (streams ≤ 8) →
    slice_index training_fields (streams - 1) ≤ 8
few_in_preamble streams h = few_fields (streams - 1) (omega (arith, h.0, h.1))

-- The payload time of at most `most` symbols of HT and VHT.
payload_most : (short : Bool) (n most : ℕ) → n ≤ most →
    whole_symbols ((if short then 36 else 40) * n) ≤ 40 * most
payload_most short n most h =
    let time : (if short then 36 else 40) * n ≤ 40 * most = mul-le _ n 40 most (short_symbol short) h in
    omega (arith, time)

-- Data takes at most `longest` microseconds, if `most` symbols of 26 bits hold the octets at a rate of HT
-- or VHT, `he_most` symbols of 117 bits hold them at a rate of HE, and `longest` is enough for the preamble
-- and these symbols, and at a rate of DSSS for a microsecond a bit.
time_most : (r : Rate) (octets most he_most longest : ℕ) → IsInRange r → 8 * octets + 106 ≤ most * 24 →
    8 * octets + 22 ≤ he_most * 117 → 68 + 4 * most ≤ longest → 164 + 16 * he_most ≤ longest →
    192 + 8 * octets ≤ longest → data_time r octets ≤ longest
time_most (Ht mcs mhz short) octets most he_most longest h k l m n' o =
    let few : symbols (Ht mcs mhz short) octets ≤ most =
    few_ht_symbols mcs mhz short octets most h (omega (arith, k)) in
    let payload : payload_tenths (Ht mcs mhz short) octets ≤ 40 * most =
    payload_most short (symbols (Ht mcs mhz short) octets) most few in
    let fields = few_in_preamble (1 + mcs / 8) h.streamed in
    omega (arith, payload, fields, m)
time_most (Vht mcs mhz short n) octets most he_most longest h k l m n' o =
    let few : symbols (Vht mcs mhz short n) octets ≤ most =
    few_vht_symbols mcs mhz short n octets most 26 h (omega arith) (bits_between (Vht mcs mhz short n) h).0
    (omega (arith, k)) in
    let payload : payload_tenths (Vht mcs mhz short n) octets ≤ 40 * most =
    payload_most short (symbols (Vht mcs mhz short n) octets) most few in
    let fields : slice_index training_fields (n - 1) ≤ 8 = few_in_preamble n h.streamed in
    omega (arith, payload, fields, m)
time_most (He mcs mhz guard n) octets most he_most longest h k l m n' o =
    let few : symbols (He mcs mhz guard n) octets ≤ he_most =
    few_he_symbols mcs mhz guard n octets he_most h l in
    let payload : payload_tenths (He mcs mhz guard n) octets ≤ 160 * he_most =
    mul-le (symbol_tenths (He mcs mhz guard n)) (symbols (He mcs mhz guard n) octets) 160 he_most
    h.guarded few in
    let fields : slice_index training_fields (n - 1) ≤ 8 = few_in_preamble n h.streamed in
    let training : training_tenths (He mcs mhz guard n) * slice_index training_fields (n - 1) ≤ 160 * 8 =
    mul-le (training_tenths (He mcs mhz guard n)) (slice_index training_fields (n - 1)) 160 8
    h.trained fields in
    omega (arith, payload, training, n')
time_most (Ofdm mbps) octets most he_most longest h k l m n' o =
    let few : symbols (Ofdm mbps) octets ≤ most = few_ofdm_symbols mbps octets most h (omega (arith, k)) in
    omega (arith, few, m)
time_most (Dsss half) octets most he_most longest h k l m n' o =
    let few : symbols (Dsss half) octets ≤ 8 * octets =
    few_dsss_symbols half octets (8 * octets) h (omega arith) in
    omega (arith, few, o)

-- The time of a single frame of VHT with n streams: one stream has one training field, and more streams have
-- twice the bits in a symbol.
single_vht : (mcs mhz : ℕ) (short : Bool) (n octets : ℕ) → IsInRange (Vht mcs mhz short n) →
    octets ≤ subframe_octets greatest_protected → data_time (Vht mcs mhz short n) octets ≤ 3000
single_vht mcs mhz short zero octets h k = absurd (omega (arith, h.streamed.0))
single_vht mcs mhz short (suc zero) octets h k =
    let few : symbols (Vht mcs mhz short 1) octets ≤ 734 =
    few_vht_symbols mcs mhz short 1 octets 734 26 h (omega arith) (bits_between (Vht mcs mhz short 1) h).0
    (omega (arith, k)) in
    let payload : payload_tenths (Vht mcs mhz short 1) octets ≤ 40 * 734 =
    payload_most short (symbols (Vht mcs mhz short 1) octets) 734 few in
    omega (arith, payload)
single_vht mcs mhz short (suc (suc n)) octets h k =
    let streams : ℕ = suc (suc n) in
    let few : symbols (Vht mcs mhz short streams) octets ≤ 367 =
    few_vht_symbols mcs mhz short streams octets 367 52 h (omega arith)
    (two_streams mcs mhz short streams h (omega arith)) (omega (arith, k)) in
    let payload : payload_tenths (Vht mcs mhz short streams) octets ≤ 40 * 367 =
    payload_most short (symbols (Vht mcs mhz short streams) octets) 367 few in
    let fields : slice_index training_fields (streams - 1) ≤ 8 = few_in_preamble streams h.streamed in
    omega (arith, payload, fields)

-- The time of a single frame of HE.
single_he : (mcs mhz guard n octets : ℕ) → IsInRange (He mcs mhz guard n) →
    octets ≤ subframe_octets greatest_protected → data_time (He mcs mhz guard n) octets ≤ 3000
single_he mcs mhz guard n octets h k =
    let few : symbols (He mcs mhz guard n) octets ≤ 163 =
    few_he_symbols mcs mhz guard n octets 163 h (omega (arith, k)) in
    let payload : payload_tenths (He mcs mhz guard n) octets ≤ 160 * 163 =
    mul-le (symbol_tenths (He mcs mhz guard n)) (symbols (He mcs mhz guard n) octets) 160 163 h.guarded few in
    let fields : slice_index training_fields (n - 1) ≤ 8 = few_in_preamble n h.streamed in
    let training : training_tenths (He mcs mhz guard n) * slice_index training_fields (n - 1) ≤ 160 * 8 =
    mul-le (training_tenths (He mcs mhz guard n)) (slice_index training_fields (n - 1)) 160 8
    h.trained fields in
    omega (arith, payload, training)

-- A single frame, with its encryption, takes at most the time that it may take alone.
pub single_time : (r : Rate) (octets : ℕ) → is_rate r ≡ true → octets ≤ subframe_octets greatest_protected →
    data_time r octets ≤ alone_at r
single_time (Ht mcs mhz short) octets h k =
    let is = rate_in_range (Ht mcs mhz short) h in
    let few : symbols (Ht mcs mhz short) octets ≤ 731 =
    few_ht_symbols mcs mhz short octets 731 is (omega (arith, k)) in
    let payload : payload_tenths (Ht mcs mhz short) octets ≤ 40 * 731 =
    payload_most short (symbols (Ht mcs mhz short) octets) 731 few in
    let fields = few_in_preamble (1 + mcs / 8) is.streamed in
    omega (arith, payload, fields)
single_time (Vht mcs mhz short n) octets h k =
    single_vht mcs mhz short n octets (rate_in_range (Vht mcs mhz short n) h) k
single_time (He mcs mhz guard n) octets h k = single_he mcs mhz guard n octets
    (rate_in_range (He mcs mhz guard n) h) k
single_time (Ofdm mbps) octets h k =
    let few : symbols (Ofdm mbps) octets ≤ 791 =
    few_ofdm_symbols mbps octets 791 (rate_in_range (Ofdm mbps) h) (omega (arith, k)) in
    omega (arith, few)
single_time (Dsss half) octets h k =
    let few : symbols (Dsss half) octets ≤ 18960 =
    few_dsss_symbols half octets 18960 (rate_in_range (Dsss half) h) (omega (arith, k)) in
    omega (arith, few)

-- The octets of the longest aggregate take at most 52,100,000 microseconds, which no exchange takes.
pub longest_time : (r : Rate) (octets : ℕ) → is_rate r ≡ true → octets ≤ greatest_ampdu →
    data_time r octets ≤ 52100000
longest_time r octets h k =
    time_most r octets 2166900 444490 52100000 (rate_in_range r h) (omega (arith, k)) (omega (arith, k))
    (omega arith) (omega arith) (omega (arith, k))

-- More octets never take less time.
pub time_less : (r : Rate) (a b : ℕ) → a ≤ b → data_time r a ≤ data_time r b
time_less r a b h = go r
  where
    times : (k x y : ℕ) → x ≤ y → k * x ≤ k * y
    times k x y le = mul-le-mul_left k le

    fewer : (r : Rate) → symbols r a ≤ symbols r b
    fewer r =
        let more : octet_bits r * a ≤ octet_bits r * b = times (octet_bits r) a b h in
        div_less (octet_bits r * a + service_and_tails r + (bits r - 1))
        (octet_bits r * b + service_and_tails r + (bits r - 1)) (bits r) (omega (arith, more))

    go : (r : Rate) → data_time r a ≤ data_time r b
    go (Ht mcs mhz short) =
        let time = times (symbol_tenths (Ht mcs mhz short)) _ _ (fewer (Ht mcs mhz short)) in
        omega (arith, time)
    go (Vht mcs mhz short n) =
        let time = times (symbol_tenths (Vht mcs mhz short n)) _ _ (fewer (Vht mcs mhz short n)) in
        omega (arith, time)
    go (He mcs mhz guard n) =
        let time = times (symbol_tenths (He mcs mhz guard n)) _ _ (fewer (He mcs mhz guard n)) in
        omega (arith, time)
    go (Ofdm mbps) =
        let time = times (symbol_tenths (Ofdm mbps)) _ _ (fewer (Ofdm mbps)) in
        omega (arith, time)
    go (Dsss half) =
        let time = times (symbol_tenths (Dsss half)) _ _ (fewer (Dsss half)) in
        omega (arith, time)
