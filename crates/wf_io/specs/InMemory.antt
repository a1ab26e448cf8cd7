-- Defines what contracts see of a source and a sink in memory.
use Rattle.std.specs.Prelude.{ℕ, List}

-- the octets still to come, the greatest size of one read, the calls that fail, and the counts of calls and
-- faults
pub record GivenValue : Type 0 where
  pub left : List ℕ
  pub piece : ℕ
  pub failing : List ℕ
  pub calls : ℕ
  pub faults : ℕ

-- the octets written, the greatest total size, the greatest size of one write, and the other fields as above
pub record KeptValue : Type 0 where
  pub held : List ℕ
  pub room : ℕ
  pub piece : ℕ
  pub failing : List ℕ
  pub calls : ℕ
  pub faults : ℕ
