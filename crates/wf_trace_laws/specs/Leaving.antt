-- Defines which octets of a text were written and which are left.
use Rattle.std.specs.Prelude.{◌≡◌, ℕ, List, ◌++◌, Option}
use Rattle.std.specs.Io.KnownBytes.{append_known}

-- a prefix of the text was written, and these octets are left
pub record Leaves (old new : Option (List ℕ)) (text rest : List ℕ) : Type 0 where
  pub written : List ℕ
  pub is : text ≡ written ++ rest
  pub holds : new ≡ append_known old written
