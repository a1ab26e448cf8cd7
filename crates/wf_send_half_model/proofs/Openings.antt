-- Proves that an exchange may be opened: its number is above those of all open ones, and there is room for
-- one more. By counting the open exchanges of each class.
use Rattle.std.proofs.Common.{◌≡◌, refl, ap, sym, subst, arith, ℕ, suc, ◌+◌, ◌<◌, ◌≤◌, Bool, false, cond, List, [], ◌∷◌, map, length}
use Rattle.std.specs.Prelude.{All, nat_le, count_by}
use Rattle.std.proofs.lemmas.Bool.{leb-false}
use Rattle.std.proofs.lemmas.List.{length-map}
use Rattle.std.proofs.lemmas.List.Sums.{sum_by-cons}
use Rattle.std.proofs.lemmas.List.Elements.{All-nil, All-cons}
use Rattle.wf_frame.specs.declared.settings.Config.{Config}
use Rattle.wf_frame.specs.declared.classes.Class.{Class}
use Rattle.wf_frame.specs.declared.classes.Class.TheVariants.{Bk, Be, Vi, Vo}
use Rattle.wf_frame.specs.Classes.{same_class}
use Rattle.wf_frame.specs.Frames.{FrameValue}
use Rattle.wf_def_lists.specs.Bounds.{greatest_air}
use Rattle.wf_def_world.specs.World.{World, Exchange}
use Rattle.wf_def_world.specs.Refusals.{open_of_class}
use Rattle.wf_law_runs.specs.Numbers.{greatest_computed}
use Rattle.wf_law_runs.specs.Windows.{EachOpen, OpenRises}
use Rattle.wf_law_runs.proofs.Deficits.Numbers.{legacy_within, number_law}
use Rattle.wf_send_parts.specs.declared.exchanges.opened.Open.{Open}
use Rattle.wf_send_half_model.specs.Half.{TransmitValue}
use Rattle.wf_send_half_model.specs.Standing.{open_of, IsReached, StandsFor}
use Rattle.wf_send_half_model.proofs.Reached.{by_law}
use Rattle.wf_send_half_model.proofs.Reached.{rises}
use Rattle.wf_send_half_model.proofs.Readers.{class_count_same}

all_below : (lo hi : ℕ) (xs : List Exchange) → OpenRises lo hi xs → All (λ o. o.number < hi) (map open_of xs)
all_below lo hi [] h = All-nil (λ (o : Open). o.number < hi)
all_below lo hi (x ∷ xs) h = All-cons (λ (o : Open). o.number < hi) (open_of x) (map open_of xs) h.1
    (all_below (suc x.number) hi xs h.2)

pub opens_above : (v : TransmitValue) (w : World) (bodies : ℕ → FrameValue) → StandsFor v w bodies →
    All (λ o. o.number < v.exchanges) v.opened
opens_above v w bodies h =
    subst (λ (n : ℕ). All (λ o. o.number < n) v.opened) (sym h.parts.others.exchanges)
    (subst (λ (xs : List Open). All (λ o. o.number < w.exchanges) xs) (sym h.parts.others.opened)
    (all_below 0 w.exchanges w.opened (rises w h.reached)))

all_small : (legacy : ℕ) (xs : List Exchange) →
    EachOpen (λ x. (1 ≤ x.charge) × (x.charge ≤ greatest_computed legacy)) xs →
    All (λ o. o.charge ≤ greatest_air) (map open_of xs)
all_small legacy [] h = All-nil (λ (o : Open). o.charge ≤ greatest_air)
all_small legacy (x ∷ xs) h = All-cons (λ (o : Open). o.charge ≤ greatest_air) (open_of x) (map open_of xs)
    (omega (arith, h.0.1, legacy_within legacy)) (all_small legacy xs h.1)

pub opens_small : (v : TransmitValue) (w : World) (bodies : ℕ → FrameValue) → StandsFor v w bodies →
    All (λ o. o.charge ≤ greatest_air) v.opened
opens_small v w bodies h =
    let r : IsReached w = h.reached in
    subst (λ (xs : List Open). All (λ o. o.charge ≤ greatest_air) xs) (sym h.parts.others.opened)
    (all_small w.config.legacy w.opened
    (by_law (λ u. EachOpen (λ x. (1 ≤ x.charge) × (x.charge ≤ greatest_computed u.config.legacy)) u.opened)
    w r (λ m. (number_law w.config r.history r.in_range m).charges)))

-- ---- one of each class

as_one : Bool → ℕ
as_one b = cond b 1 0

of_one_class : (c : Class) → as_one (same_class c Bk) + as_one (same_class c Be) + as_one
    (same_class c Vi) + as_one (same_class c Vo) ≡ 1
unfolding as_one
of_one_class Bk = refl
of_one_class Be = refl
of_one_class Vi = refl
of_one_class Vo = refl

counted : Class → List Exchange → ℕ
counted c xs = count_by (λ x. same_class x.class c) xs

count_none : (c : Class) → counted c [] ≡ 0
unfolding counted
count_none c = refl

count_more : (c : Class) (x : Exchange) (xs : List Exchange) →
    counted c (x ∷ xs) ≡ as_one (same_class x.class c) + counted c xs
unfolding counted as_one
count_more c x xs = sum_by-cons (λ (y : Exchange). cond (same_class y.class c) 1 0) x xs

all_classes_count : (xs : List Exchange) → length xs
    ≡ counted Bk xs + counted Be xs + counted Vi xs + counted Vo xs
all_classes_count [] = omega (arith, count_none Bk, count_none Be, count_none Vi, count_none Vo)
all_classes_count (x ∷ xs) = omega (
  arith,
  of_one_class x.class,
  all_classes_count xs,
  count_more Bk x xs,
  count_more Be x xs,
  count_more Vi x xs,
  count_more Vo x xs,
)

most_of_class : (w : World) → IsReached w → (c : Class) → open_of_class w c ≤ 8
most_of_class w r c = by_law (λ u. open_of_class u c ≤ 8) w r
    (λ m. (number_law w.config r.history r.in_range m).opened c)

fewer_in : (c : Class) (bk be vi vo : ℕ) (f : Class → ℕ) → f Bk ≡ bk → f Be ≡ be → f Vi ≡ vi → f Vo ≡ vo →
    bk ≤ 8 → be ≤ 8 → vi ≤ 8 → vo ≤ 8 → f c < 8 → bk + be + vi + vo < 32
fewer_in Bk bk be vi vo f a b d e i j k l less = omega (arith, a, b, d, e, i, j, k, l, less)
fewer_in Be bk be vi vo f a b d e i j k l less = omega (arith, a, b, d, e, i, j, k, l, less)
fewer_in Vi bk be vi vo f a b d e i j k l less = omega (arith, a, b, d, e, i, j, k, l, less)
fewer_in Vo bk be vi vo f a b d e i j k l less = omega (arith, a, b, d, e, i, j, k, l, less)

pub opens_within : (v : TransmitValue) (w : World) (bodies : ℕ → FrameValue) → StandsFor v w bodies →
    (c : Class) → nat_le v.config.inflight (count_by (λ x. same_class x.class c) v.opened) ≡ false →
    length v.opened < 32
unfolding counted
opens_within v w bodies h c few =
    let r : IsReached w = h.reached in
    let most : (d : Class) → open_of_class w d ≤ 8 = most_of_class w r in
    let fewer : count_by (λ x. same_class x.class c) v.opened < v.config.inflight =
    leb-false v.config.inflight _ few in
    let less : open_of_class w c < 8 = omega (
      arith,
      fewer,
      class_count_same v w bodies c h.parts,
      ap (λ (x : Config). x.inflight) h.parts.others.config,
      r.in_range.inflight.1,
    ) in
    let room : open_of_class w Bk + open_of_class w Be + open_of_class w Vi + open_of_class w Vo < 32 =
    fewer_in c _ _ _ _ (open_of_class w) refl refl refl refl (most Bk) (most Be) (most Vi)
    (most Vo) less in
    omega (
      arith,
      room,
      all_classes_count w.opened,
      ap (length {A = Open}) h.parts.others.opened,
      length-map w.opened open_of,
    )
