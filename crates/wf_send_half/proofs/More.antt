-- Proves that what waits of the classes in a set is what waits of the classes that pass a test, if these are
-- the same.
use Rattle.std.proofs.Common.{◌≡◌, ap, ◌∙◌, ℕ, Bool}
use Rattle.std.proofs.Math.Path.{fun_ext}
use Rattle.wf_frame.specs.Classes.{has_class}
use Rattle.wf_frame.specs.declared.classes.Class.{Class}
use Rattle.wf_send_half_model.specs.Half.{TransmitValue}
use Rattle.wf_send_half_model.specs.Pulling.{has_more_in_of}
use Rattle.wf_send_parts.specs.declared.stations.sleepers.Sleeper.{Sleeper}
use Rattle.wf_send_parts.specs.Sleepers.{sleeper}

-- x is the value of the fields of the half v, and y the sleeper that the test reads
pub more_by_test : (v x : TransmitValue) → x ≡ v → (s : ℕ) (y : Sleeper) (classes : ℕ)
    (test : Sleeper → Class → Bool) → y ≡ sleeper x.sleepers s →
    ((c : Class) → has_class classes c ≡ test y c) →
    has_more_in_of v s (has_class classes) ≡ has_more_in_of v s (test (sleeper v.sleepers s))
more_by_test v x same s y classes test is set = ap (has_more_in_of v s) (fun_ext set)
    ∙ ap (λ (z : Sleeper). has_more_in_of v s (test z)) is
    ∙ ap (λ (u : TransmitValue). has_more_in_of v s (test (sleeper u.sleepers s))) same
