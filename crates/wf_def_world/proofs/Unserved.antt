-- Proves that nothing is special about a station without delivery-enabled classes, as each one that joins: no
-- exchange to it is part of a service period, and its polls are for all classes.
use Rattle.std.proofs.Common.{◌≡◌, ◌∙◌, refl, ap, ℕ, true, false, not, ◌&&◌, ◌||◌, ◌==◌, Option, None, is_some}
use Rattle.wf_frame.specs.declared.classes.Class.{Class}
use Rattle.wf_frame.specs.declared.classes.Class.TheVariants.{Bk, Be, Vi, Vo}
use Rattle.wf_frame.specs.Classes.{has_class, greatest_classes}
use Rattle.wf_def_world.specs.World.{Station}
use Rattle.wf_def_world.specs.Service.{is_served, is_delivered, is_polled}

-- no class is in the empty set
pub in_none : (c : Class) → has_class 0 c ≡ false
in_none Bk = refl
in_none Be = refl
in_none Vi = refl
in_none Vo = refl

-- without delivery-enabled classes a poll is for each class
pub all_polled : (x : Station) (c : Class) → x.delivery ≡ 0 → is_polled x c ≡ true
all_polled x c none =
    ap (λ (n : ℕ). (n == greatest_classes) || not (has_class n c)) none ∙ ap not (in_none c)

-- while no service period is open, no exchange is part of one
pub none_served : (x : Station) (c : Class) → x.service ≡ None → is_served x c ≡ false
none_served x c closed = ap (λ (o : Option ℕ). is_some o && (is_delivered x c && x.asleep)) closed
