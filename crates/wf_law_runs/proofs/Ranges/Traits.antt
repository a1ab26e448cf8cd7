-- Proves that the weight, rate, exponent, stated length of aggregates, BSS, sleep, credit and service period
-- of each live station stay in their ranges, in every world of a run. By cases of the call.
use Rattle.std.proofs.Common.{◌≡◌, refl, sym, ◌∙◌, ap, ℕ, ◌≤◌, ◌<◌, not, nat_le, nat_lt, Bool, true, false, List, [], ◌∷◌, length, Option, Some, None, option_map, unwrap_or, IfSome, subst, ◌&&◌, arith}
use Rattle.std.proofs.lemmas.Bool.{not-false, and_parts}
use Rattle.wf_frame.specs.declared.settings.Config.{Config}
use Rattle.wf_frame.specs.declared.classes.Class.{Class}
use Rattle.wf_frame.specs.declared.notes.Ask.TheVariants.{Join, Leave, Rate, Pull, Sleep, Wake, Poll, Ampdu, Offload, Weight, Plain, Service, Bss}
use Rattle.wf_frame.specs.declared.notes.Limits.{Limits}
use Rattle.wf_frame.specs.declared.notes.Note.{Note}
use Rattle.wf_frame.specs.declared.notes.Note.TheVariants.{Asked}
use Rattle.wf_frame.specs.Classes.{greatest_classes}
use Rattle.wf_def_lists.specs.Table.{at}
use Rattle.wf_def_air.specs.Airtime.{Rate as Airtime_rate, IsRate, is_rate}
use Rattle.wf_def_world.specs.Rates.{rate_asked}
use Rattle.wf_def_lists.specs.Bounds.{greatest_exponent, greatest_weight, least_ampdu, greatest_ampdu}
use Rattle.wf_def_world.specs.Group.{bss_count}
use Rattle.wf_def_world.specs.World.{World, Station, Exchange, no_station, station, opening}
use Rattle.wf_law_runs.specs.Ranges.{IsOpenService}
use Rattle.wf_law_runs.proofs.Services.Left.{goes_on, left_after}
use Rattle.wf_frame.specs.declared.notes.ServiceAsk.{ServiceAsk}
use Rattle.wf_frame.specs.declared.notes.ServiceAsk.TheVariants as service
use Rattle.wf_def_world.specs.Service.{is_served, is_delivered, is_reached, limit_left, service_after_sent, station_served, after_service}
use Rattle.wf_def_world.specs.CanSend.{has_credit}
use Rattle.wf_def_world.specs.Exchanges.{picked_station, Prepared, after_tid_turn, with_exchange_opened, with_spent, spent, exchange_of, mpdus_of, has_more_in, credit_after, service_spent}
use Rattle.wf_def_world.specs.Refusals.{refusals, is_within, service_refusals}
use Rattle.wf_def_world.specs.Step.{send_outcome, pull_outcome_for, pull_outcome, step, class_to_send}
use Rattle.wf_def_world.specs.Run.{Entry, world_after}
use Rattle.wf_law_rules.proofs.Lemmas.Numbers.{both, le_yes, le_no, lt_no, on_if}
use Rattle.wf_law_runs.proofs.Common.Picked.{picked_world}
use Rattle.wf_law_runs.proofs.Deficits.Configs.{config_step}
use Rattle.wf_law_runs.proofs.Windows.Opened.{NoRow}
use Rattle.wf_law_runs.proofs.Common.Traits.{Trait, trait, Keeps, Turns, Changes, set_station, kept_share, kept_after_pick, kept_prepared, kept_step, new_trait}

-- A stated length of aggregates is in its range.
abbrev pub IsStated : ℕ → Type 0
IsStated n = (least_ampdu ≤ n) × (n ≤ greatest_ampdu)

-- The values of a station are in their ranges, where there are this many BSSs.
pub record IsTrait (count : ℕ) (z : Trait) : Type 0 where
  pub weight : (1 ≤ z.weight) × (z.weight ≤ 16)
  pub rate : IsRate z.rate
  pub exponent : z.exponent ≤ 3
  pub ampdu : IfSome z.ampdu IsStated
  pub bss : z.bss < count
  pub credit : IfSome z.credit (λ _. z.asleep ≡ true)
  pub delivery : z.delivery ≤ greatest_classes
  pub service : IfSome z.service (IsOpenService z.asleep z.most)

abbrev InRange : ℕ → ℕ → Option Trait → Type 0
InRange count s o = IfSome o (IsTrait count)

-- The values of each live station are in their ranges.
abbrev pub Traits : World → Type 0
Traits w = Keeps (InRange (bss_count w.config.bsses)) w

-- Values of its sleep are in their ranges, and the others are as before.
with_sleep : {count : ℕ} (z : Trait) (asleep : Bool) (credit : Option Class) (delivery most : ℕ)
    (service : Option ℕ) → IsTrait count z → IfSome credit (λ _. asleep ≡ true) →
    delivery ≤ greatest_classes → IfSome service (IsOpenService asleep most) → IsTrait count (record z {
      asleep = asleep;
      credit = credit;
      delivery = delivery;
      most = most;
      service = service;
    })
with_sleep z asleep credit delivery most service k c d s = record {
  weight = k.weight;
  rate = k.rate;
  exponent = k.exponent;
  ampdu = k.ampdu;
  bss = k.bss;
  credit = c;
  delivery = d;
  service = s;
}

-- Values of its exchanges are in their ranges, and the others are as before.
with_values : {count : ℕ} (z : Trait) (weight : ℕ) (rate : Airtime_rate) (ampdu : Option ℕ) →
    IsTrait count z → (1 ≤ weight) × (weight ≤ 16) → IsRate rate → IfSome ampdu IsStated →
    IsTrait count (record z { weight = weight; rate = rate; ampdu = ampdu })
with_values z weight rate ampdu k w r a = record {
  weight = w;
  rate = r;
  exponent = k.exponent;
  ampdu = a;
  bss = k.bss;
  credit = k.credit;
  delivery = k.delivery;
  service = k.service;
}

-- Its BSS is one of the BSSs, and the others are as before.
with_bss : {count : ℕ} (z : Trait) (b : ℕ) → IsTrait count z → b < count →
    IsTrait count (record z { bss = b })
with_bss z b k below = record {
  weight = k.weight;
  rate = k.rate;
  exponent = k.exponent;
  ampdu = k.ampdu;
  bss = below;
  credit = k.credit;
  delivery = k.delivery;
  service = k.service;
}

-- ---- a pull

-- An exchange spends the credit or frames of the service period.
kept_spent : {count : ℕ} (x : Exchange) (y : Station) → (is_served y x.class ≡ true → x.eosp ≡ false →
    is_reached (limit_left y.service) (length (mpdus_of x.content)) ≡ false) →
    IsTrait count (trait y) → IsTrait count (trait (spent x y))
kept_spent x y goes k =
    let n : ℕ = length (mpdus_of x.content) in
    with_sleep (trait y) y.asleep (credit_after x.class y) y.delivery y.most (service_spent x y) k
    (on_if (λ (o : Option Class). IfSome o (λ _. y.asleep ≡ true))
    (is_served y x.class && not (has_credit y.credit x.class)) y.credit None (λ _. k.credit) (λ _. tt))
    k.delivery
    (on_if (λ (o : Option ℕ). IfSome o (IsOpenService y.asleep y.most)) (is_served y x.class)
    (service_after_sent x.eosp n y.service) y.service
    (λ served. left_after x.eosp n y.service y.asleep y.most (goes served) k.service) (λ _. k.service))

is_station : (w : World) (s : ℕ) (x : Station) → at None w.stations s ≡ Some x → station w s ≡ x
is_station w s x e = ap (λ (o : Option Station). unwrap_or o no_station) e

is_asleep : (w : World) (s : ℕ) (x : Station) → at None w.stations s ≡ Some x →
    x.asleep ≡ (station w s).asleep
is_asleep w s x e = ap (λ (y : Station). y.asleep) (sym (is_station w s x e))

kept_sent : (count s t : ℕ) (c : Class) (p : Prepared) → Keeps (InRange count) p.world →
    Keeps (InRange count) (send_outcome s t c p).world
unfolding send_outcome with_spent with_exchange_opened
kept_sent count s t c p h =
    let x : Exchange = exchange_of s t c p in
    let n : ℕ = length (mpdus_of p.content) in
    set_station (InRange count) _ s _ (λ y e k. kept_spent x y (subst (λ (z : Station). is_served z c ≡ true →
    x.eosp ≡ false → is_reached (limit_left z.service) n ≡ false) (is_station p.world s y e)
    (goes_on p.content (station p.world s).service (is_served (station p.world s) c)
    (not (has_more_in p.world s (is_delivered (station p.world s)))))) k) h

kept_pulled_by : (count : ℕ) (o : Option ℕ) (w : World) (c : Class) → Keeps (InRange count) w →
    Keeps (InRange count) (pull_outcome_for w c o).world
unfolding pull_outcome_for after_tid_turn
kept_pulled_by count None w c h = h
kept_pulled_by count (Some s) w c h = kept_sent count s _ c _
    (kept_prepared (InRange count) _ s _ (kept_share (InRange count) w s c _ h))

kept_pulled : (count : ℕ) (w : World) (c : Class) (l : Limits) → Keeps (InRange count) w →
    Keeps (InRange count) (pull_outcome w c l).world
unfolding pull_outcome
kept_pulled count w c l h = kept_pulled_by count (picked_station w c).winner (picked_world w c l) c
    (kept_after_pick (InRange count) w c h)

-- ---- calls about a station

in_weights : (weight : ℕ) → not (is_within 1 greatest_weight weight) ≡ false → (1 ≤ weight) × (weight ≤ 16)
in_weights weight some =
    let range = both (nat_le 1 weight) (nat_le weight 16) (not-false _ some) in
    (le_yes 1 weight range.0, le_yes weight 16 range.1)

new_in_range : (bsses exponent weight : ℕ) → nat_lt greatest_exponent exponent ≡ false →
    not (is_within 1 greatest_weight weight) ≡ false →
    IsTrait (bss_count bsses) (new_trait exponent weight)
new_in_range bsses exponent weight short some = record {
  weight = in_weights weight some;
  rate = refl;
  exponent = lt_no 3 exponent short;
  ampdu = tt;
  bss = omega arith;
  credit = tt;
  delivery = omega arith;
  service = tt;
}

in_lengths : (octets : ℕ) → not (is_within least_ampdu greatest_ampdu octets) ≡ false → IsStated octets
in_lengths octets within =
    let range = both (nat_le least_ampdu octets) (nat_le octets greatest_ampdu) (not-false _ within) in
    (le_yes least_ampdu octets range.0, le_yes octets greatest_ampdu range.1)

any_credit : (o : Option Class) → IfSome o (λ _. true ≡ true)
any_credit None = tt
any_credit (Some c) = refl

asleep_too : (sleeps : Bool) (most : ℕ) (o : Option ℕ) → IfSome o (IsOpenService sleeps most) →
    IfSome o (IsOpenService true most)
asleep_too sleeps most None k = tt
asleep_too sleeps most (Some left) k = record { asleep = refl; within = k.within; some = k.some }

-- A station that is awake has no open service period.
none_open : (sleeps : Bool) (most any : ℕ) (o : Option ℕ) → sleeps ≡ false →
    IfSome o (IsOpenService sleeps most) → IfSome o (IsOpenService sleeps any)
none_open sleeps most any None awake k = tt
none_open sleeps most any (Some left) awake k = absurd (cc (awake, k.asleep))

served_in_range : {count : ℕ} (ask : ServiceAsk) (w : World) → NoRow (service_refusals w ask) →
    Turns (InRange count) w (station_served ask) (after_service ask)
served_in_range (service.Set s classes most) w e x is k =
    with_sleep (trait x) x.asleep x.credit classes most x.service k k.credit
    (lt_no greatest_classes classes e.1.0)
    (none_open x.asleep x.most most x.service (is_asleep w s x is ∙ e.1.1.1.0) k.service)
served_in_range (service.Trigger s) w e x is k =
    with_sleep (trait x) x.asleep x.credit x.delivery x.most (Some x.most) k k.credit k.delivery (record {
      asleep = is_asleep w s x is ∙ not-false _ e.1.1.0;
      within = omega arith;
      some = λ h. h;
    })
served_in_range (service.End s) w e x is k =
    with_sleep (trait x) x.asleep x.credit x.delivery x.most None k k.credit k.delivery tt

-- ---- the step

-- A call that may change values of a station leaves them in their ranges.
changes : (note : Note) (w : World) → Traits w → NoRow (refusals w note) →
    Changes (InRange (bss_count w.config.bsses)) note w
changes (Asked (Join s window start exponent weight)) w h e =
    new_in_range w.config.bsses exponent weight e.1.1.1.0 e.1.1.1.1.0
changes (Asked (Offload s exponent weight)) w h e = new_in_range w.config.bsses exponent weight e.1.0 e.1.1.0
changes (Asked (Plain s start exponent weight)) w h e =
    new_in_range w.config.bsses exponent weight e.1.1.0 e.1.1.1.0
changes (Asked (Weight s weight)) w h e =
    λ x is k. with_values (trait x) weight x.rate x.ampdu k (in_weights weight e.1.0) k.rate k.ampdu
changes (Asked (Leave s)) w h e = tt
changes (Asked (Rate s rate)) w h e = λ x is k. with_values (trait x) x.weight (rate_asked rate) x.ampdu k
    k.weight (and_parts (is_rate (rate_asked rate)) _ (not-false _ e.1.0)).0 k.ampdu
changes (Asked (Pull c l)) w h e = kept_pulled _ w c l h
changes (Asked (Sleep s)) w h e = λ x is k. with_sleep (trait x) true x.credit x.delivery x.most x.service k
    (any_credit x.credit) k.delivery (asleep_too x.asleep x.most x.service k.service)
changes (Asked (Wake s)) w h e =
    λ x is k. with_sleep (trait x) false None x.delivery x.most None k tt k.delivery tt
changes (Asked (Poll s)) w h e =
    λ x is k. with_sleep (trait x) x.asleep (Some (class_to_send w s)) x.delivery x.most x.service k
    (is_asleep w s x is ∙ not-false _ e.1.1.0) k.delivery k.service
changes (Asked (Ampdu s octets)) w h e = λ x is k. with_values (trait x) x.weight x.rate (Some octets) k
    k.weight k.rate (in_lengths octets e.1.0)
changes (Asked (Service ask)) w h e = served_in_range ask w e
changes (Asked (Bss s b)) w h e = λ x is k. with_bss (trait x) b k (le_no (bss_count w.config.bsses) b e.1.0)
changes _ w h e = tt

pub traits_step : (w : World) (note : Note) → Traits w → Traits (step w note).world
traits_step w note h =
    subst (λ (c : Config). Keeps (InRange (bss_count c.bsses)) (step w note).world) (sym (config_step w note))
    (kept_step (InRange (bss_count w.config.bsses)) w note (changes note w h) h)

kept_run : (h : List Entry) (w : World) → Traits w → Traits (world_after w h)
unfolding world_after
kept_run [] w k = k
kept_run (e ∷ es) w k = kept_run es _ (traits_step w e.1 k)

pub traits : (config : Config) (h : List Entry) → Traits (world_after (opening config) h)
traits config h = kept_run h (opening config) (λ s. tt)

-- The values of a live station are in their ranges, where there are this many BSSs.
pub record HasTraits (count : ℕ) (x : Station) : Type 0 where
  pub weight : (1 ≤ x.weight) × (x.weight ≤ 16)
  pub rate : IsRate x.rate
  pub exponent : x.exponent ≤ 3
  pub ampdu : IfSome x.ampdu IsStated
  pub bss : x.bss < count
  pub credit : IfSome x.credit (λ _. x.asleep ≡ true)
  pub delivery : x.delivery ≤ greatest_classes
  pub service : IfSome x.service (IsOpenService x.asleep x.most)

pub has_traits : (config : Config) (h : List Entry) (s : ℕ) →
    IfSome (at None (world_after (opening config) h).stations s)
    (HasTraits (bss_count (world_after (opening config) h).config.bsses))
has_traits config h s = go _ (at None (world_after (opening config) h).stations s)
    (traits config h s)
  where
    go : (count : ℕ) (o : Option Station) → IfSome (option_map trait o) (IsTrait count) →
        IfSome o (HasTraits count)
    go count None k = tt
    go count (Some x) k = record {
      weight = k.weight;
      rate = k.rate;
      exponent = k.exponent;
      ampdu = k.ampdu;
      bss = k.bss;
      credit = k.credit;
      delivery = k.delivery;
      service = k.service;
    }

-- The rate of a station exists, and the longest aggregate that was stated for it takes one frame.
pub few_station : (count : ℕ) (o : Option Station) → IfSome (option_map trait o) (IsTrait count) →
    IsRate (unwrap_or o no_station).rate × IfSome (unwrap_or o no_station).ampdu (λ n. least_ampdu ≤ n)
few_station count None k = (refl, tt)
few_station count (Some x) k = (k.rate, go x.ampdu k.ampdu)
  where
    go : (o : Option ℕ) → IfSome o IsStated → IfSome o (λ n. least_ampdu ≤ n)
    go None h = tt
    go (Some n) h = h.0
