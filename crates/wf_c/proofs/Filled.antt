-- Proves that a handle that is not empty holds something.
use Rattle.std.proofs.Common.{◌≡◌, refl}
use Rattle.std.proofs.lemmas.Bool.{both_ways}
use Rattle.std.specs.Prelude.{Option, Some, None, true, false, is_some}

pub record Full {X : Type 0} (o : Option X) : Type 0 where
  pub held : X
  pub is : o ≡ Some held

pub full_of : {X : Type 0} (o : Option X) → is_some o ≡ true → Full o
full_of (Some held) e = record { held = held; is = refl }
full_of None e = absurd (both_ways false refl e)
