-- Proves bounds of the most octets of an aggregate, for each format, each exponent of a station and each
-- number that was stated for it.
use Rattle.std.proofs.Common.{◌≡◌, refl, ℕ, zero, suc, ◌+◌, ◌-◌, ◌*◌, ◌%◌, ◌^◌, ◌≤◌, arith, lit≤, Option, Some, None}
use Rattle.std.specs.Prelude.{IfSome}
use Rattle.wf_def_lists.specs.Bounds.{least_ampdu, greatest_ampdu}
use Rattle.wf_def_air.specs.Airtime.{Rate, Ht, Vht, He, Ofdm, Dsss}
use Rattle.wf_def_air.specs.Fit.{most_octets}
use Rattle.wf_air.specs.Rates.{longest_single}

-- a limit on an aggregate that takes a single frame and is no greater than any receiver's
pub record IsMost (octets : ℕ) : Type 0 where
  pub least : longest_single ≤ octets
  pub most : octets ≤ greatest_ampdu

short : (x : ℕ) → x ≤ 3 → IsMost (2 ^ (13 + x) - 1)
short zero h = record { least = lit≤ tt; most = lit≤ tt }
short (suc zero) h = record { least = lit≤ tt; most = lit≤ tt }
short (suc (suc zero)) h = record { least = lit≤ tt; most = lit≤ tt }
short (suc (suc (suc zero))) h = record { least = lit≤ tt; most = lit≤ tt }
short (suc (suc (suc (suc x)))) h = absurd (omega (arith, h))

long : (x : ℕ) → x ≤ 3 → IsMost (2 ^ (17 + x) - 1)
long zero h = record { least = lit≤ tt; most = lit≤ tt }
long (suc zero) h = record { least = lit≤ tt; most = lit≤ tt }
long (suc (suc zero)) h = record { least = lit≤ tt; most = lit≤ tt }
long (suc (suc (suc zero))) h = record { least = lit≤ tt; most = lit≤ tt }
long (suc (suc (suc (suc x)))) h = absurd (omega (arith, h))

given : (x : ℕ) (stated : Option ℕ) → x ≤ 3 →
    IfSome stated (λ n. (least_ampdu ≤ n) × (n ≤ greatest_ampdu)) →
    IsMost (most_octets (He 0 20 800 1) x stated)
given x None h i = long x h
given x (Some n) h i = record { least = omega (arith, i.0); most = i.1 }

pub most_is : (r : Rate) (x : ℕ) (stated : Option ℕ) → x ≤ 3 →
    IfSome stated (λ n. (least_ampdu ≤ n) × (n ≤ greatest_ampdu)) → IsMost (most_octets r x stated)
most_is (Ht mcs mhz s) x stated h i = short x h
most_is (Vht mcs mhz s n) x stated h i = given x stated h i
most_is (He mcs mhz g n) x stated h i = given x stated h i
most_is (Ofdm mbps) x stated h i = short x h
most_is (Dsss half) x stated h i = short x h

-- ---- the limits that the code computes

pub ht_least : (x : ℕ) → x ≤ 3 → longest_single ≤ 1 * 2 ^ (13 + x) % 4294967296 - 1
ht_least zero h = lit≤ tt
ht_least (suc zero) h = lit≤ tt
ht_least (suc (suc zero)) h = lit≤ tt
ht_least (suc (suc (suc zero))) h = lit≤ tt
ht_least (suc (suc (suc (suc x)))) h = absurd (omega (arith, h))

pub shifted : (x : ℕ) → x ≤ 3 → 1 * 2 ^ (17 + x) % 4294967296 - 1 ≡ 2 ^ (17 + x) - 1
shifted zero h = refl
shifted (suc zero) h = refl
shifted (suc (suc zero)) h = refl
shifted (suc (suc (suc zero))) h = refl
shifted (suc (suc (suc (suc x)))) h = absurd (omega (arith, h))

-- a rate is of VHT or HE
abbrev pub IsLater : Rate → Type 0
IsLater (Vht mcs mhz s n) = Unit {0}
IsLater (He mcs mhz g n) = Unit {0}
IsLater r = ⊥

pub unstated : (r : Rate) (x : ℕ) → IsLater r → most_octets r x None ≡ 2 ^ (17 + x) - 1
unstated (Ht mcs mhz s) x h = absurd h
unstated (Ofdm mbps) x h = absurd h
unstated (Dsss half) x h = absurd h
unstated (Vht mcs mhz s n) x h = refl
unstated (He mcs mhz g n) x h = refl
