-- Defines the invariant of a list with one item for each open exchange.
use Rattle.std.specs.Prelude.{ℕ, ◌≤◌, List, length, map}
use Rattle.wf_def_lists.specs.Lists.{IsRising}
use Rattle.wf_send_parts.specs.declared.exchanges.opened.TheConstants.{MOST_OPEN}

-- it has at most 32 items and room for 32, and the exchanges' numbers rise
pub record AreKept {X : Type 0} (number : X → ℕ) (items : List X) (capacity : ℕ) : Type 0 where
  pub few : length items ≤ MOST_OPEN
  pub reserved : MOST_OPEN ≤ capacity
  pub rising : IsRising 0 (map number items)
