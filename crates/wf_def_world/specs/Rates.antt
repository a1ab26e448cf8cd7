-- Defines the rate that a Rate call asks for, and which rates a station may have.
use Rattle.std.specs.Prelude.{◌≡◌, ℕ, Bool, true, ◌&&◌}
use Rattle.wf_frame.specs.declared.notes.AskedRate.{AskedRate}
use Rattle.wf_frame.specs.declared.notes.AskedRate.TheVariants as asked
use Rattle.wf_def_air.specs.Airtime.{Rate, Ht, Vht, He, Ofdm, Dsss, is_rate, is_allowed}

-- the rate with these numbers, whether or not there is such a rate
abbrev pub rate_asked : AskedRate → Rate
rate_asked (asked.Ht mcs mhz short) = Ht mcs mhz short
rate_asked (asked.Vht mcs mhz short streams) = Vht mcs mhz short streams
rate_asked (asked.He mcs mhz guard streams) = He mcs mhz guard streams
rate_asked (asked.Ofdm mbps) = Ofdm mbps
rate_asked (asked.Dsss half) = Dsss half

-- whether a station may have this rate: there is such a rate, and the setting `legacy` allows it
abbrev pub is_rate_with : ℕ → Rate → Bool
is_rate_with legacy r = is_rate r && is_allowed legacy r

-- A station may have this rate, by the setting `legacy`.
abbrev pub IsRateWith : ℕ → Rate → Type 0
IsRateWith legacy r = is_rate_with legacy r ≡ true
