-- Defines when a read or a write may fail.
use Rattle.std.specs.Prelude.{◌≡◌, ℕ, ◌+◌, ◌-◌, ◌^◌, ◌≤◌, min, Result, OnOk, OnErr}

-- a count of faults rose in a call, or is at the greatest number that it can have
abbrev pub HasRisen : ℕ → ℕ → Type 0
HasRisen before after = min (before + 1) (2 ^ 64 - 1) ≤ after

-- the count never falls; a call that succeeds does not change it, and a call fails only if it rose
pub record CountsFaults {T E : Type 0} (before after : ℕ) (result : Result T E) : Type 0 where
  pub never_falls : before ≤ after
  pub quiet : OnOk result (after ≡ before)
  pub risen : OnErr result (HasRisen before after)
