-- Defines how the code's rates represent those of wf_def_air, and bounds of their durations.
use Rattle.std.specs.Prelude.{◌≡◌, refl, ℕ, ◌≤◌}
use Rattle.wf_def_lists.specs.Lengths.{greatest_protected}
use Rattle.wf_def_lists.specs.Bounds.{greatest_ampdu}
use Rattle.wf_def_air.specs.Fit.{subframe_octets}
use Rattle.wf_def_air.specs.Airtime.{Rate, Ht, Vht, He, Ofdm, Dsss, bits, octet_bits, service_and_tails, symbol_tenths, preamble_tenths, kbps}
use Rattle.wf_air.specs.declared.time.Format.{Format}
use Rattle.wf_air.specs.declared.time.Timing.{Timing}
use Rattle.wf_air.specs.declared.time.Format.TheVariants.{Ht as OfHt, Vht as OfVht, He as OfHe, Ofdm as OfOfdm, Dsss as OfDsss}

-- the rate of a format and its parameters
abbrev pub rate_of : Format → Rate
rate_of (OfHt mcs mhz short) = Ht mcs mhz short
rate_of (OfVht mcs mhz short streams) = Vht mcs mhz short streams
rate_of (OfHe mcs mhz guard streams) = He mcs mhz guard streams
rate_of (OfOfdm mbps) = Ofdm mbps
rate_of (OfDsss half) = Dsss half

-- the inverse
abbrev pub format_of : Rate → Format
format_of (Ht mcs mhz short) = OfHt mcs mhz short
format_of (Vht mcs mhz short streams) = OfVht mcs mhz short streams
format_of (He mcs mhz guard streams) = OfHe mcs mhz guard streams
format_of (Ofdm mbps) = OfOfdm mbps
format_of (Dsss half) = OfDsss half

-- a format is determined by its rate
pub same_format : (f : Format) → format_of (rate_of f) ≡ f
same_format (OfHt mcs mhz short) = refl
same_format (OfVht mcs mhz short streams) = refl
same_format (OfHe mcs mhz guard streams) = refl
same_format (OfOfdm mbps) = refl
same_format (OfDsss half) = refl

-- the unit of a payload's time, in tenths of a microsecond: a long symbol for HT and VHT, otherwise one tenth
abbrev pub unit_tenths : Rate → ℕ
unit_tenths (Ht mcs mhz short) = 40
unit_tenths (Vht mcs mhz short streams) = 40
unit_tenths (He mcs mhz guard streams) = 1
unit_tenths (Ofdm mbps) = 1
unit_tenths (Dsss half) = 1

-- the parts of a rate's durations
abbrev pub timing_of : Rate → Timing
timing_of r = record {
  bits = bits r;
  octet = octet_bits r;
  service_and_tails = service_and_tails r;
  symbol = symbol_tenths r;
  preamble = preamble_tenths r;
  unit = unit_tenths r;
  kbps = kbps r;
}

-- a rate of control frames in Mbit/s: 1 or 2 of DSSS, or 6 to 24 of OFDM
pub record IsControl (mbps : ℕ) : Type 0 where
  pub some : 1 ≤ mbps
  pub between : 3 ≤ mbps → 6 ≤ mbps
  pub most : mbps ≤ 24

-- the least data rate in kbit/s: of OFDM, of DSSS, and of HT, VHT and HE (HT and VHT, MCS 0, 20 MHz)
abbrev pub least_kbps : Rate → ℕ
least_kbps (Ofdm mbps) = 6000
least_kbps (Dsss half) = 1000
least_kbps r = 6500

-- the greatest data rate in kbit/s (HE, MCS 11, 160 MHz, eight streams)
abbrev pub most_kbps : ℕ
most_kbps = 9607794

-- the most octets of an aggregate for any receiver at any rate
abbrev pub longest_aggregate : ℕ
longest_aggregate = greatest_ampdu

-- the upper bound of the time of these octets, in microseconds
abbrev pub longest_time : ℕ
longest_time = 52100000

-- the most octets of an aggregate of one frame, with its encryption
abbrev pub longest_single : ℕ
longest_single = subframe_octets greatest_protected
