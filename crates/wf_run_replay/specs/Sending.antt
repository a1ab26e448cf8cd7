-- Defines how many octets may wait to be written.
use Rattle.std.specs.Prelude.{ℕ}

-- The most octets that may wait.
abbrev pub room : ℕ
room = 65536
