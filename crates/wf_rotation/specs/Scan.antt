-- Defines the result of a scan of a rotation, which is the winner of the pick of "Ending the Anomaly" (USENIX
-- ATC 2017), algorithm 3.
use Rattle.std.specs.Prelude.{◌≡◌, ◌+◌, ◌^◌, ◌<◌, ◌≤◌, ℕ, Bool, List, length, Option, Some, None, if◌then◌else◌, ◌&&◌, nat_lt}
use Rattle.wf_def_rotation.specs.Rotation.{Rotation, in_order, round}
use Rattle.wf_rotation.specs.Cuts.{Cut, least}
use Rattle.wf_def_lists.specs.Lists.{on}
use Rattle.wf_rotation.specs.declared.side.Side.{Side}
use Rattle.wf_rotation.specs.declared.side.Side.TheVariants.{New, Old}
use Rattle.wf_rotation.specs.declared.scan.Best.{Best}
use Rattle.wf_rotation.specs.declared.scan.Found.{Found}

-- the best key is the one at which the list is cut
abbrev pub Describes : (ℕ → ℕ) → Option Best → Option Cut → Type 0
Describes order None None = Unit {0}
Describes order None (Some c) = ⊥
Describes order (Some b) None = ⊥
Describes order (Some b) (Some c) = (b.key ≡ c.key) × (b.rank ≡ order c.key) × (b.place ≡ length c.before) ×
    (b.rank ≤ 2 ^ 63)

-- the better of a key so far and one more key
abbrev pub best_after : Option Best → Best → Bool → Option Best
best_after None here ready = if ready then Some here else None
best_after (Some best) here ready = if ready && nat_lt here.rank best.rank then Some here else Some best

pub record IsFound (found : Found) (ready : ℕ → Bool) (order : ℕ → ℕ) (seen : List ℕ) : Type 0 where
  pub count : found.count ≡ length seen
  pub best : Describes order found.best (least ready order seen)

-- the old list is not looked at in round 0
abbrev pub first_round : Side → ℕ
first_round New = 0
first_round Old = 1

-- the order of the keys of one list is their need, with one round more for the old list
abbrev pub IsRoundOn : (ℕ → ℕ) → (ℕ → ℕ) → Side → List ℕ → Type 0
IsRoundOn order need side keys = (key : ℕ) → 0 < on keys key → order key ≡ need key + first_round side

-- the best key is the one at which the rotation is cut
abbrev pub IsWon : Best → (ℕ → Bool) → (ℕ → ℕ) → Rotation → Type 0
IsWon best ready need r = (c : Cut) × (least ready (round need r) (in_order r) ≡ Some c) ×
    (best.key ≡ c.key) × (best.rank ≡ round need r c.key) × (best.place ≡ length c.before) ×
    (best.rank ≤ 2 ^ 63)
