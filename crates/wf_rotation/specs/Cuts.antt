-- Defines the cut of a list of keys at the first ready key of the least order, which is the winner of a pick
-- ("Ending the Anomaly", USENIX ATC 2017, algorithm 3).
use Rattle.std.specs.Prelude.{ℕ, Bool, ◌&&◌, if◌then◌else◌, nat_le, List, [], ◌∷◌, Option, Some, None}

-- a list that is cut at a key
pub record Cut : Type 0 where
  pub before : List ℕ
  pub key : ℕ
  pub after : List ℕ

-- y and then ys; the best of ys alone is the last argument
abbrev pub better : (ℕ → Bool) → (ℕ → ℕ) → ℕ → List ℕ → Option Cut → Option Cut
better ready order y ys None = if ready y then Some (record { before = []; key = y; after = ys }) else None
better ready order y ys (Some c) =
    if ready y && nat_le (order y) (order c.key)
    then Some (record { before = []; key = y; after = ys })
    else Some (record { before = y ∷ c.before; key = c.key; after = c.after })

-- the list, cut at the first of its ready keys whose order is the least
unfoldable pub least : (ℕ → Bool) → (ℕ → ℕ) → List ℕ → Option Cut
least ready order [] = None
least ready order (y ∷ ys) = better ready order y ys (least ready order ys)
