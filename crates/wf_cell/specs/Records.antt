-- Defines the invariant of records.
use Rattle.std.specs.Prelude.{ℕ, ◌≡◌, List}
use Rattle.wf_def_world.specs.Run.{Entry, Past}

-- The entries in memory are the history of the cell, and the capacity is exactly the setting `calls`.
pub record IsRecord (past : Past) (entries : List Entry) (capacity : ℕ) : Type 0 where
  pub same : entries ≡ past.history
  pub reserved : capacity ≡ past.config.calls
