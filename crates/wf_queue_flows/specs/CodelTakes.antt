-- Defines a dequeue (RFC 8289, section 5.5) on a lane of items of any type.
use Rattle.std.specs.Prelude.{◌≡◌, ℕ, suc, List, ◌++◌, Option, map, take, drop, slice_get}

-- n items are dropped, and the next is returned
pub record Takes {X : Type 0} (tossed : X → X) (before after thrown_before thrown_after : List X) (n : ℕ)
    (given : Option X) : Type 0 where
  pub gives : given ≡ slice_get before n
  pub rest : after ≡ drop (suc n) before
  pub thrown : thrown_after ≡ thrown_before ++ map tossed (take n before)
