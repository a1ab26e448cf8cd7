-- Defines lists of numbers without repeats, increasing lists, and how often a number occurs in a list.
use Rattle.std.specs.Prelude.{◌≡◌, ℕ, suc, ◌+◌, ◌≤◌, ◌==◌, if◌then◌else◌, false, List, [], ◌∷◌}
use Rattle.wf_def_lists.specs.Table.{has}

-- No number occurs twice in the list.
abbrev pub IsOnce : List ℕ → Type 0
IsOnce [] = Unit {0}
IsOnce (x ∷ xs) = (has xs x ≡ false) × IsOnce xs

-- The list increases strictly, and its numbers are at least n.
abbrev pub IsRising : ℕ → List ℕ → Type 0
IsRising n [] = Unit {0}
IsRising n (x ∷ xs) = (n ≤ x) × IsRising (suc x) xs

-- Returns how often a number occurs in a list.
unfoldable pub on : List ℕ → ℕ → ℕ
on [] y = 0
on (x ∷ xs) y = (if x == y then 1 else 0) + on xs y
