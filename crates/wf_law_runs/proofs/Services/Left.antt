-- Proves that some frames are left of a service period after an exchange of it, unless this was its last.
use Rattle.std.proofs.Common.{◌≡◌, refl, arith, ℕ, zero, suc, Bool, true, false, not, ◌&&◌, ◌||◌, Option, Some, None, IfSome, length}
use Rattle.wf_def_world.specs.World.{Content, Frames, Request}
use Rattle.wf_def_world.specs.Service.{limit_left, is_reached, service_after_sent}
use Rattle.wf_def_world.specs.CanSend.{is_request}
use Rattle.wf_def_world.specs.Exchanges.{mpdus_of}
use Rattle.wf_law_rules.proofs.Lemmas.Numbers.{le_no}
use Rattle.wf_law_runs.specs.Ranges.{IsOpenService}

-- No frames reach no limit.
none_reached : (o : Option ℕ) → is_reached (limit_left o) 0 ≡ false
none_reached None = refl
none_reached (Some zero) = refl
none_reached (Some (suc left)) = grind arith

not_last : (served reached quiet : Bool) → served ≡ true → served && (true && (reached || quiet)) ≡ false →
    reached ≡ false
not_last true true quiet is last = absurd (cc last)
not_last true false quiet is last = refl
not_last false reached quiet is last = absurd (cc is)

-- An exchange of a service period that is not its last leaves frames of it.
pub goes_on : (content : Content) (o : Option ℕ) (served quiet : Bool) → served ≡ true →
    served && (not (is_request content)
    && (is_reached (limit_left o) (length (mpdus_of content)) || quiet)) ≡ false →
    is_reached (limit_left o) (length (mpdus_of content)) ≡ false
goes_on (Frames mpdus) o served quiet is last = not_last served _ quiet is last
goes_on (Request start) o served quiet is last = none_reached o

-- The frames that are left of a service period after such an exchange are in their range.
pub left_after : (last : Bool) (n : ℕ) (o : Option ℕ) (sleeps : Bool) (most : ℕ) →
    (last ≡ false → is_reached (limit_left o) n ≡ false) → IfSome o (IsOpenService sleeps most) →
    IfSome (service_after_sent last n o) (IsOpenService sleeps most)
left_after true n o sleeps most goes k = tt
left_after false n None sleeps most goes k = tt
left_after false n (Some zero) sleeps most goes k =
    record { asleep = k.asleep; within = omega arith; some = λ h. omega (arith, k.some h) }
left_after false n (Some (suc left)) sleeps most goes k = record {
  asleep = k.asleep;
  within = omega (arith, k.within);
  some = λ _. omega (arith, le_no (suc left) n (goes refl));
}
