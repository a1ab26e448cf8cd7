-- Proves how two numbers that are at most 2047 apart compare modulo 4096, by linear arithmetic.
use Rattle.std.proofs.Common.{◌≡◌, ℕ, ◌+◌, ◌-◌, ◌%◌, ◌<◌, ◌≤◌, arith}
use Rattle.wf_octets.specs.Distance.{distance}
use Rattle.wf_recv_peer_refines.specs.Half.{ComparesRight}

-- n is at or past b
pub distance_ahead : (n b : ℕ) → b ≤ n → n ≤ b + 2047 → distance (n % 4096) (b % 4096) ≡ n - b
distance_ahead n b p q = omega arith

-- n is below b
pub distance_back : (n b : ℕ) → n < b → b ≤ n + 2047 → 2047 < distance (n % 4096) (b % 4096)
distance_back n b p q = omega arith

pub compares : (n b : ℕ) → n ≤ b + 2047 → b ≤ n + 2047 → ComparesRight n b
compares n b p q = record {
  ahead = λ h. omega (arith, distance_ahead n b h p);
  near = λ h. omega (arith, distance_ahead n b h p);
  behind = λ h. distance_back n b h q;
}

-- the number d past another, modulo 4096
pub moved_start : (b d : ℕ) → (b % 4096 + d) % 4096 ≡ (b + d) % 4096
moved_start b d = omega arith
