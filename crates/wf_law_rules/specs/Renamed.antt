-- Defines rotations whose keys have other numbers, and when two picks are the same.
use Rattle.std.specs.Prelude.{◌≡◌, ℕ, Bool, true, false, map, option_map}
use Rattle.wf_def_rotation.specs.Rotation.{Rotation, has_key, Picked}

-- Replaces each key of a rotation by its other number.
abbrev pub renamed : (ℕ → ℕ) → Rotation → Rotation
renamed f r = record { new = map f r.new; old = map f r.old }

-- No two keys get the same number.
abbrev pub KeepsApart : (ℕ → ℕ) → Type 0
KeepsApart f = (a b : ℕ) → f a ≡ f b → a ≡ b

-- Each listed key has the same need and readiness under its other number.
pub record Agrees (f : ℕ → ℕ) (r : Rotation) (need other_need : ℕ → ℕ)
    (ready other_ready : ℕ → Bool) : Type 0 where
  pub needs : (key : ℕ) → has_key r key ≡ true → other_need (f key) ≡ need key
  pub readiness : (key : ℕ) → has_key r key ≡ true → other_ready (f key) ≡ ready key

-- Pick q is pick p with the other numbers.
pub record IsRenamed (f : ℕ → ℕ) (p q : Picked) : Type 0 where
  pub winner : q.winner ≡ option_map f p.winner
  pub lists : q.lists ≡ renamed f p.lists
  pub quanta : (key : ℕ) → q.quanta (f key) ≡ p.quanta key

-- Two picks with the same result.
pub record IsSame (p q : Picked) : Type 0 where
  pub winner : q.winner ≡ p.winner
  pub lists : q.lists ≡ p.lists
  pub quanta : (key : ℕ) → q.quanta key ≡ p.quanta key

-- No listed key is ready.
abbrev pub IsIdle : (ℕ → Bool) → Rotation → Type 0
IsIdle ready r = (key : ℕ) → has_key r key ≡ true → ready key ≡ false
