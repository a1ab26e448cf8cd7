-- Defines a ring of slots as its callers see it.
use Rattle.std.specs.Prelude.{◌≡◌, ℕ, ◌≤◌, List, Option, count_by}
use Rattle.wf_send_parts.specs.declared.window.place.Place.{Place}
use Rattle.wf_send_parts.specs.Window.{waits}

pub record RingValue : Type 0 where
  pub capacity : ℕ
  pub items : List (Option Place)

-- the invariant of each ring: its capacity is at most 256, and it counts its waiting items
pub record RingIsCounted (capacity : ℕ) (items : List (Option Place)) (waiting : ℕ) : Type 0 where
  pub small : capacity ≤ 256
  pub counted : waiting ≡ count_by waits items
