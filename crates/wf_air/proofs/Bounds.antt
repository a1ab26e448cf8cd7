-- States bounds of the parts of a duration in the form that the contracts need.
use Rattle.std.proofs.Common.{◌≡◌, ℕ, ◌≤◌, refl, arith}
use Rattle.wf_def_air.specs.Airtime.{Rate, Ht, Vht, He, Ofdm, Dsss, IsRate, bits, kbps, encoders, octet_bits, service_and_tails, data_time}
use Rattle.wf_def_air.specs.Fit.{alone_at}
use Rattle.wf_def_air.proofs.Times as times
use Rattle.wf_air.specs.Rates.{least_kbps, most_kbps, longest_aggregate, longest_single, longest_time}

some_least : (r : Rate) → 2 ≤ times.least_bits r
some_least (Ht mcs mhz short) = omega arith
some_least (Vht mcs mhz short n) = omega arith
some_least (He mcs mhz guard n) = omega arith
some_least (Ofdm mbps) = omega arith
some_least (Dsss half) = omega arith

pub bits_least : (r : Rate) → IsRate r → 2 ≤ bits r
bits_least r h = omega (arith, (times.bits_between r (times.rate_in_range r h)).0, some_least r)

-- the bits of an octet, and those of the SERVICE field and of the tails, are few
pub few_octet_bits : (r : Rate) → octet_bits r ≤ 16
few_octet_bits (Ht mcs mhz short) = omega arith
few_octet_bits (Vht mcs mhz short n) = omega arith
few_octet_bits (He mcs mhz guard n) = omega arith
few_octet_bits (Ofdm mbps) = omega arith
few_octet_bits (Dsss half) = omega arith

pub few_encoders : (r : Rate) → IsRate r → encoders r ≤ 15
few_encoders r h = times.few_encoders r (times.rate_in_range r h)

same_least : (r : Rate) → least_kbps r ≡ times.slowest_kbps r
same_least (Ht mcs mhz short) = refl
same_least (Vht mcs mhz short n) = refl
same_least (He mcs mhz guard n) = refl
same_least (Ofdm mbps) = refl
same_least (Dsss half) = refl

pub few_service : (r : Rate) → IsRate r → service_and_tails r ≤ 106
few_service (Ht mcs mhz short) h = omega arith
few_service (Vht mcs mhz short n) h = omega (arith, few_encoders (Vht mcs mhz short n) h)
few_service (He mcs mhz guard n) h = omega arith
few_service (Ofdm mbps) h = omega arith
few_service (Dsss half) h = omega arith

pub kbps_least : (r : Rate) → IsRate r → least_kbps r ≤ kbps r
kbps_least r h = omega (arith, same_least r, (times.kbps_between r (times.rate_in_range r h)).0)

pub kbps_most : (r : Rate) → IsRate r → kbps r ≤ most_kbps
kbps_most r h = (times.kbps_between r (times.rate_in_range r h)).1

pub time_most : (r : Rate) (octets : ℕ) → IsRate r → octets ≤ longest_aggregate →
    data_time r octets ≤ longest_time
time_most r octets h k = times.longest_time r octets h k

pub time_single : (r : Rate) (octets : ℕ) → IsRate r → octets ≤ longest_single →
    data_time r octets ≤ alone_at r
time_single r octets h k = times.single_time r octets h k
