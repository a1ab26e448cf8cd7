-- Proves which number twelve bits are read as.
use Rattle.std.proofs.Common.{◌≡◌, ℕ, ◌+◌, ◌%◌, ◌<◌, ◌≤◌, nat_le, Some, None, refl, ap, arith}
use Rattle.std.proofs.lemmas.Bool.Decides.{nat_tests}
use Rattle.wf_octets.specs.Distance.{distance}
use Rattle.wf_uplink.specs.Laws.{ReadsRight}
use Rattle.wf_uplink.proofs.Moves.{choose}

distance_ahead : (n b : ℕ) → b ≤ n → n ≤ b + 2047 → b + distance (n % 4096) b ≡ n
distance_ahead n b least most = omega (arith, least, most)

distance_behind : (n b : ℕ) → n < b → b ≤ n + 2048 → 2047 < distance (n % 4096) b
distance_behind n b below near = omega (arith, below, near)

pub reads : (n b : ℕ) → ReadsRight n b
reads n b = record {
  ahead = λ least most.
      let e = distance_ahead n b least most in
      choose (λ o. o ≡ Some n) (nat_le (distance (n % 4096) b) 2047) (Some (b + distance (n % 4096) b)) None
      (λ _. ap Some e)
      (λ f. absurd (grind (arith, nat_tests, f, e, most)));
  behind = λ below near.
      let far = distance_behind n b below near in
      choose (λ o. o ≡ None) (nat_le (distance (n % 4096) b) 2047) (Some (b + distance (n % 4096) b)) None
      (λ t. absurd (grind (arith, nat_tests, t, far))) (λ _. refl);
}
