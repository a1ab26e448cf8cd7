-- Proves that a value in a box has the properties that it had before it was boxed.
use Rattle.std.proofs.Common.{◌≡◌, sym, subst, Some, None}
use Rattle.std.specs.Prelude.{Option, IfSome}

pub true_of_boxed : {X Y : Type 0} (f : X → Y) (P : Y → Type 0) (y : Y) (o : Option X) →
    IfSome o (λ x. f x ≡ y) → P y → IfSome o (λ x. P (f x))
true_of_boxed f P y None e p = tt
true_of_boxed f P y (Some x) e p = subst P (sym e) p
