-- Proves how many whole quanta a bound leaves room for.
use Rattle.std.proofs.Common.{◌≡◌, arith, ℕ, zero, suc, ◌+◌, ◌-◌, ◌*◌, ◌/◌, ◌%◌, ◌<◌, ◌≤◌, ℤ, pos, negsuc, ◌+ℤ◌, ◌≤ℤ◌, inl, inr, ◌⊎◌}
use Rattle.std.proofs.lemmas.Int.{ints}
use Rattle.std.proofs.lemmas.Bool.{cases_lt}
use Rattle.std.proofs.lemmas.Nat.{div-add-mod', mod_below}
use Rattle.wf_law_runs.specs.Waiting.{below_one, rounds_up}
use Rattle.wf_law_runs.proofs.Shares.Stretch.{times_le}

-- a number of whole parts is at most the quotient, rounded up
pub rounds_most : (n m u : ℕ) → 0 < u → u * n + 1 ≤ m + u → n ≤ rounds_up m u
rounds_most n m u some h =
    let whole : (m + (u - 1)) / u * u + (m + (u - 1)) % u ≡ m + (u - 1) = div-add-mod' (m + (u - 1)) u in
    let less : (m + (u - 1)) % u < u = mod_below (m + (u - 1)) u some in
    least u n ((m + (u - 1)) / u) (omega arith)
  where
    least : (u n k : ℕ) → u * n < k * u + u → n ≤ k
    least u n k h = elim (cases_lt k n) [
      | inl more ↦ absurd (let m : u * suc k ≤ u * n = times_le u (suc k) n more in omega arith)
      | inr most ↦ omega arith
    ]

pub below_is : (d : ℤ) → pos 1 ≤ℤ (d +ℤ pos (below_one d))
below_is (pos zero) = omega (arith, ints)
below_is (pos (suc n)) = omega (arith, ints)
below_is (negsuc n) = omega (arith, ints)

-- no quantum, or quanta that what the station is charged for what it sends, and what its open exchanges may
-- be charged, cover
abbrev pub Covers : ℕ → ℕ → ℕ → ℕ → ℤ → Type 0
Covers u n r k d = (n ≡ 0) ⊎ ((pos (u * n) +ℤ d) ≤ℤ pos (u + r + k))

pub none_most : (u n m : ℕ) → n ≡ 0 → 0 < u → u * n + 1 ≤ m + u
none_most u n m e some = rw e (omega arith)
