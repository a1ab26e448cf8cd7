-- Defines an invariant of the books about each class's lists, the open exchanges and the bounds of the
-- deficits. Proves that each kind of change keeps it.
use Rattle.std.proofs.Common.{◌≡◌, ◌≢◌, refl, ap, sym, ◌∙◌, subst, arith, ℕ, zero, suc, ◌+◌, ◌*◌, ◌<◌, ◌≤◌, max, ℤ, pos, ◌+ℤ◌, ◌-ℤ◌, ◌≤ℤ◌, Bool, true, false, if◌then◌else◌, List, [], ◌∷◌, ◌++◌, Option, Some, None, is_some, IfSome, option_map, not, ◌&&◌, find, ◌==◌, eq-eqb, inl, inr, min, ◌-◌}
use Rattle.std.proofs.lemmas.Int.{ints}
use Rattle.std.proofs.Math.Nat.{le-max_left, le-max_right}
use Rattle.std.proofs.lemmas.Bool.{le-leb, cases_eq, eqb-true, or_parts, and_parts, not_from_true}
use Rattle.wf_frame.specs.declared.settings.Config.{Config}
use Rattle.wf_frame.specs.declared.classes.Class.{Class}
use Rattle.wf_frame.specs.declared.classes.Class.TheVariants.{Bk, Be, Vi, Vo}
use Rattle.wf_def_lists.specs.Table.{has}
use Rattle.wf_def_rotation.specs.Rotation.{Rotation, without_key, with_new_key, with_key_listed, has_key, in_order, Picked, need_of}
use Rattle.wf_def_air.specs.Airtime.{lowest_rate}
use Rattle.wf_def_world.specs.Rates.{IsRateWith}
use Rattle.wf_def_world.specs.World.{Exchange, owed, owed_by_all}
use Rattle.wf_frame.specs.Classes.{class_number, same_class}
use Rattle.wf_frame.specs.Settings.{IsInRange}
use Rattle.wf_def_world.specs.Exchanges.{longest_computed}
use Rattle.wf_law_runs.specs.Deficits.{longest_of_all, longest_exchange, most_owed, most_covered}
use Rattle.wf_def_lists.specs.Lists.{on}
use Rattle.wf_law_rules.proofs.Lemmas.Counts.{on-nil, on-cons_same, on-cons_other, on-append, on-filter_le, on-filter_out, hasnot-on}
use Rattle.wf_law_runs.proofs.Deficits.Books.{each_upd, others_upd, upd_other, each_updc, others_updc, updc_same, cases_class, same_number, Account, core, Books, with_account, with_lists, on_part}
use Rattle.wf_law_runs.proofs.Deficits.BookSteps.{with_opened, without, charge_share, with_charge, off, all_off, fresh_account, pay_share, paid, all_paid, after, spare, reweighed, with_weight}
use Rattle.wf_law_runs.proofs.Deficits.Openings.{Every, every_map, every_append, every_filter, Rising, rising_append, rising_filter, many, many-more, many-other, many-filter, part_of, reserved, reserved-append, reserved-filter, reserved-ended, reserved_most, owed-filter, owed-append, owed_of, owed-ended, owed-none, owed_all-filter, owed_all-append, owed_most}
use Rattle.wf_law_runs.proofs.Deficits.Bounds.{counted, IsBounded, paid_least, bounded_pay, bounded_open, bounded_less, bounded_charge, bounded_fresh, bounded_lowered}

-- Each setting `legacy` allows the lowest rate.
pub lowest_allowed : (legacy : ℕ) → IsRateWith legacy lowest_rate
lowest_allowed legacy = le-leb 0 legacy (omega arith)

-- The invariant of an open exchange.
pub record IsOpen (b : Books) (x : Exchange) : Type 0 where
  pub live : is_some (b.accounts x.station) ≡ true
  pub below : x.number < b.exchanges
  pub charge : x.charge ≤ longest_computed b.config x.class
  pub some : 1 ≤ x.charge

-- Returns the greatest charge of a station's open exchanges in a class.
abbrev pub at_stake : Config → ℕ → Class → List Exchange → ℕ
at_stake config s c opened = reserved (longest_exchange config c) s c opened

-- Returns how much of the computed charge of a station's open exchanges in a class counts against its
-- deficit.
abbrev pub counted_in : Config → ℕ → Class → List Exchange → ℕ
counted_in config s c opened = counted config (owed s c opened)

-- The invariant of a live station's account.
pub record IsGood (config : Config) (opened : List Exchange) (s : ℕ) (a : Account) : Type 0 where
  pub weight : 0 < a.weight
  pub rate : IsRateWith config.legacy a.rate
  pub bounds : (c : Class) → IsBounded config c (at_stake config s c opened) (counted_in config s c opened)
      a.weight (a.shares c)

-- The open exchanges exceed each limit on airtime in flight by less than one exchange.
pub record IsWithin (config : Config) (opened : List Exchange) : Type 0 where
  pub total : 1 ≤ config.aql_total → owed_by_all opened < config.aql_total + longest_of_all config
  pub station : 1 ≤ config.aql → (s : ℕ) (c : Class) →
      owed s c opened < config.aql + longest_computed config c

pub record IsKept (b : Books) : Type 0 where
  pub range : IsInRange b.config
  pub once : (c : Class) (y : ℕ) → on (in_order (b.rotations c)) y ≤ 1
  pub live : (c : Class) (y : ℕ) → 0 < on (in_order (b.rotations c)) y → is_some (b.accounts y) ≡ true
  pub opens : Every (IsOpen b) b.opened
  pub rising : Rising 0 b.opened
  pub few : (c : Class) → many c b.opened ≤ b.config.inflight
  pub within : IsWithin b.config b.opened
  pub goods : (s : ℕ) → IfSome (b.accounts s) (IsGood b.config b.opened s)

-- ---- accounts

pub if_map : (P Q : Account → Type 0) (g : Account → Account) (o : Option Account) → IfSome o P →
    ((a : Account) → o ≡ Some a → P a → Q (g a)) → IfSome (option_map g o) Q
if_map P Q g None h k = tt
if_map P Q g (Some a) h k = k a refl h

pub if_same : (P Q : Account → Type 0) (o : Option Account) → IfSome o P →
    ((a : Account) → o ≡ Some a → P a → Q a) → IfSome o Q
if_same P Q None h k = tt
if_same P Q (Some a) h k = k a refl h

pub some_map : (g : Account → Account) (o : Option Account) → is_some (option_map g o) ≡ is_some o
some_map g None = refl
some_map g (Some x) = refl

live_upd : (b : Books) (s : ℕ) (g : Account → Account) (y : ℕ) →
    is_some ((with_account b s (option_map g (b.accounts s))).accounts y) ≡ is_some (b.accounts y)
live_upd b s g = each_upd (λ y o. is_some o ≡ is_some (b.accounts y)) b.accounts s _ (λ y. refl)
    (some_map g (b.accounts s))

pub kept_on : (b : Books) (s : ℕ) (g : Account → Account) → IsKept b →
    ((a : Account) → b.accounts s ≡ Some a → IsGood b.config b.opened s a →
    IsGood b.config b.opened s (g a)) → IsKept (with_account b s (option_map g (b.accounts s)))
kept_on b s g i h = record {
  range = i.range;
  once = i.once;
  live = λ c y stands. live_upd b s g y ∙ i.live c y stands;
  opens = every_map (IsOpen b) (IsOpen (with_account b s (option_map g (b.accounts s))))
      (λ x o. record {
        live = live_upd b s g x.station ∙ o.live;
        below = o.below;
        charge = o.charge;
        some =
            o.some;
      }) b.opened i.opens;
  rising = i.rising;
  few = i.few;
  within = i.within;
  goods = each_upd (λ y o. IfSome o (IsGood b.config b.opened y)) b.accounts s _ i.goods
      (if_map (IsGood b.config b.opened s) (IsGood b.config b.opened s) g (b.accounts s) (i.goods s) h);
}

-- ---- lists

pub kept_lists : (b : Books) (c : Class) (r : Rotation) → IsKept b →
    ((y : ℕ) → on (in_order r) y ≤ on (in_order (b.rotations c)) y) → IsKept (with_lists b c r)
kept_lists b c r i h = record {
  range = i.range;
  once = each_updc (λ d z. (y : ℕ) → on (in_order z) y ≤ 1) b.rotations c r i.once
      (λ y. omega (arith, h y, i.once c y));
  live = each_updc (λ d z. (y : ℕ) → 0 < on (in_order z) y → is_some (b.accounts y) ≡ true) b.rotations c r
      i.live (λ y stands. i.live c y (omega (arith, h y)));
  opens = every_map (IsOpen b) (IsOpen (with_lists b c r))
      (λ x o. record { live = o.live; below = o.below; charge = o.charge; some = o.some }) b.opened i.opens;
  rising = i.rising;
  few = i.few;
  within = i.within;
  goods = i.goods;
}

pub unlisted-on : (r : Rotation) (s : ℕ) → has_key r s ≡ false → on (in_order r) s ≡ 0
unlisted-on r s h =
    let both : (has r.new s ≡ false) × (has r.old s ≡ false) = or_parts _ _ h in
    omega (arith, on-append r.old r.new s, hasnot-on r.new s both.0, hasnot-on r.old s both.1)

pub added-on : (r : Rotation) (s y : ℕ) → on (in_order (with_new_key r s)) y
    ≡ on (in_order r) y + on (s ∷ []) y
added-on r s y = omega (
  arith,
  on-append r.old (r.new ++ s ∷ []) y,
  on-append r.new (s ∷ []) y,
  on-append r.old r.new y,
)

-- A key that is listed is added to the keys on both lists, on whichever list it is.
pub listed-on : (ready : Bool) (r : Rotation) (s y : ℕ) → on (in_order (with_key_listed ready r s)) y
    ≡ on (in_order r) y + on (s ∷ []) y
listed-on true r s y = added-on r s y
listed-on false r s y = omega (
  arith,
  on-append (r.old ++ s ∷ []) r.new y,
  on-append r.old (s ∷ []) y,
  on-append r.old r.new y,
)

pub kept_add : (b : Books) (c : Class) (s : ℕ) (ready : Bool) → IsKept b → has_key (b.rotations c) s ≡ false →
    is_some (b.accounts s) ≡ true → IsKept (with_lists b c (with_key_listed ready (b.rotations c) s))
kept_add b c s ready i off_lists is = record {
  range = i.range;
  once = each_updc (λ d z. (y : ℕ) → on (in_order z) y ≤ 1) b.rotations c
      (with_key_listed ready (b.rotations c) s) i.once (λ y. elim (cases_eq s y) [
        | inl e ↦
            let none : on (in_order (b.rotations c)) y ≡ 0 =
            subst (λ (z : ℕ). on (in_order (b.rotations c)) z ≡ 0) e
            (unlisted-on (b.rotations c) s off_lists) in
            let one : on (s ∷ []) y ≡ 1 = subst (λ (z : ℕ). on (s ∷ []) z ≡ 1) e
            (omega (arith, on-cons_same s [], on-nil s)) in
            omega (arith, listed-on ready (b.rotations c) s y)
        | inr other ↦ omega (
          arith,
          listed-on ready (b.rotations c) s y,
          on-cons_other s y [] other,
          on-nil y,
          i.once c y,
        )
      ]);
  live = each_updc (λ d z. (y : ℕ) → 0 < on (in_order z) y → is_some (b.accounts y) ≡ true) b.rotations c
      (with_key_listed ready (b.rotations c) s) i.live (λ y stands. elim (cases_eq s y) [
        | inl e ↦ subst (λ (z : ℕ). is_some (b.accounts z) ≡ true) e is
        | inr other ↦ i.live c y (omega (
          arith,
          listed-on ready (b.rotations c) s y,
          on-cons_other s y [] other,
          on-nil y,
        ))
      ]);
  opens = every_map (IsOpen b) (IsOpen (with_lists b c (with_key_listed ready (b.rotations c) s)))
      (λ x o. record { live = o.live; below = o.below; charge = o.charge; some = o.some }) b.opened i.opens;
  rising = i.rising;
  few = i.few;
  within = i.within;
  goods = i.goods;
}

-- ---- a join and a leave

times_most : (m n l k : ℕ) → m ≤ n → k ≤ m * l → k ≤ n * l
times_most m n l k h e = grind arith

pub at_stake_most : (b : Books) → IsKept b → (s : ℕ) (c : Class) →
    at_stake b.config s c b.opened ≤ most_owed b.config c
at_stake_most b i s c = times_most (many c b.opened) b.config.inflight (longest_exchange b.config c)
    (at_stake b.config s c b.opened) (i.few c) (reserved_most (longest_exchange b.config c) s c b.opened)

counted_none : (config : Config) (n : ℕ) → n ≡ 0 → counted config n ≡ 0
counted_none config n e = go (config.pending == 1)
  where
    go : (t : Bool) → (if t then n else 0) ≡ 0
    go true = e
    go false = refl

-- The station of an open exchange is live.
dead_owes : (b : Books) (s : ℕ) (c : Class) → IsKept b → is_some (b.accounts s) ≡ false →
    owed s c b.opened ≡ 0
dead_owes b s c i dead = owed-none s c b.opened (every_map (IsOpen b) (λ x. x.station ≡ s → ⊥)
    (λ x o e. absurd (cc (ap (λ (n : ℕ). is_some (b.accounts n)) e, o.live, dead))) b.opened i.opens)

pub kept_fresh : (b : Books) (s weight : ℕ) → IsKept b → 0 < weight → is_some (b.accounts s) ≡ false →
    IsKept (with_account b s (Some (fresh_account b.config.quantum weight)))
kept_fresh b s weight i some dead = record {
  range = i.range;
  once = i.once;
  live = λ c y stands. more y (i.live c y stands);
  opens = every_map (IsOpen b) (IsOpen (with_account b s (Some (fresh_account b.config.quantum weight))))
      (λ x o. record { live = more x.station o.live; below = o.below; charge = o.charge; some = o.some })
      b.opened i.opens;
  rising = i.rising;
  few = i.few;
  within = i.within;
  goods = each_upd (λ y o. IfSome o (IsGood b.config b.opened y)) b.accounts s _ i.goods
      (record {
        weight = some;
        rate = lowest_allowed b.config.legacy;
        bounds =
            λ c. bounded_fresh b.config c (at_stake b.config s c b.opened) (counted_in b.config s c b.opened)
            weight (omega (arith, i.range.quantum.0)) some (at_stake_most b i s c)
            (counted_none b.config _ (dead_owes b s c i dead));
      });
}
  where
    more : (y : ℕ) → is_some (b.accounts y) ≡ true →
        is_some ((with_account b s (Some (fresh_account b.config.quantum weight))).accounts y) ≡ true
    more = each_upd (λ y o. is_some (b.accounts y) ≡ true → is_some o ≡ true) b.accounts s
        (Some (fresh_account b.config.quantum weight)) (λ y e. e) (λ _. refl)

-- ---- a weight that is set

spare_covered : (config : Config) (s : ℕ) (c : Class) (opened : List Exchange) →
    spare config s c opened ≤ most_covered config c
spare_covered config s c opened = go (config.pending == 1) (owed s c opened)
    ((config.inflight - 1) * longest_computed config c)
  where
    go : (t : Bool) (n k : ℕ) → min (if t then n else 0) k ≤ (if t then k else 0)
    go true n k = omega arith
    go false n k = omega arith

pub spare_counted : (config : Config) (s : ℕ) (c : Class) (opened : List Exchange) →
    spare config s c opened ≤ counted_in config s c opened
spare_counted config s c opened = go (counted_in config s c opened)
    ((config.inflight - 1) * longest_computed config c)
  where
    go : (n k : ℕ) → min n k ≤ n
    go n k = omega arith

-- All the airtime in flight of a station in a class but that of one exchange is spare.
pub spare_short : (b : Books) → IsKept b → (s : ℕ) (c : Class) →
    counted_in b.config s c b.opened ≤ spare b.config s c b.opened + longest_computed b.config c
spare_short b i s c = go (b.config.pending == 1) (owed s c b.opened) (b.config.inflight - 1)
    (longest_computed b.config c) (owed_few (omega (arith, i.range.inflight.0)))
  where
    times : (m n l k : ℕ) → m ≤ suc n → k ≤ m * l → k ≤ n * l + l
    times m n l k h e = let more : m * l ≤ suc n * l = times_more m (suc n) l h in omega arith
      where
        times_more : (m n l : ℕ) → m ≤ n → m * l ≤ n * l
        times_more m n l h = grind arith

    owed_few : b.config.inflight ≡ suc (b.config.inflight - 1) → owed s c b.opened
        ≤ (b.config.inflight - 1) * longest_computed b.config c + longest_computed b.config c
    owed_few e = times (many c b.opened) (b.config.inflight - 1) (longest_computed b.config c)
        (owed s c b.opened) (omega (arith, e, i.few c))
        (owed_most (longest_computed b.config c) s c b.opened
        (every_map (IsOpen b) (λ x. x.class ≡ c → x.charge ≤ longest_computed b.config c)
        (λ x o e. subst (λ (d : Class). x.charge ≤ longest_computed b.config d) e o.charge) b.opened i.opens))

    go : (t : Bool) (n k l : ℕ) → n ≤ k * l + l → (if t then n else 0) ≤ min (if t then n else 0) (k * l) + l
    go true n k l h = least n (k * l) l h
      where
        least : (n k l : ℕ) → n ≤ k + l → n ≤ min n k + l
        least n k l h = omega arith
    go false n k l h = omega arith

pub kept_weighed : (b : Books) (s g : ℕ) → IsKept b → 0 < g → IsKept (with_weight b s g)
kept_weighed b s g i some = kept_on b s (reweighed b.config b.opened s g) i (λ a _ good. record {
  weight = some;
  rate = good.rate;
  bounds = λ c. bounded_lowered b.config c (at_stake b.config s c b.opened) (counted_in b.config s c b.opened)
      a.weight g (spare b.config s c b.opened) (a.shares c)
      (product b.config.quantum g (omega (arith, i.range.quantum.0)) some) (at_stake_most b i s c)
      (spare_covered b.config s c b.opened) (spare_counted b.config s c b.opened) (spare_short b i s c)
      (good.bounds c);
})
  where
    product : (m n : ℕ) → 0 < m → 0 < n → 1 ≤ m * n
    product m n h k = grind arith

without-on : (r : Rotation) (s y : ℕ) → on (in_order (without_key r s)) y ≤ on (in_order r) y
without-on r s y = omega (
  arith,
  on-append (without_key r s).old (without_key r s).new y,
  on-append r.old r.new y,
  on-filter_le (λ z. not (z == s)) r.old y,
  on-filter_le (λ z. not (z == s)) r.new y,
)

pub without-on_self : (r : Rotation) (s : ℕ) → on (in_order (without_key r s)) s ≡ 0
without-on_self r s =
    let gone : not (s == s) ≡ false = not_from_true _ (eq-eqb s s refl) in
    omega (
      arith,
      on-append (without_key r s).old (without_key r s).new s,
      on-filter_out (λ z. not (z == s)) r.old s gone,
      on-filter_out (λ z. not (z == s)) r.new s gone,
    )

pub kept_off : (b : Books) (s : ℕ) (c : Class) → IsKept b → IsKept (off b s c)
kept_off b s c i = kept_lists b c _ i (without-on (b.rotations c) s)

all_off-on : (b : Books) (s : ℕ) (c : Class) → on (in_order ((all_off b s).rotations c)) s ≡ 0
all_off-on b s Bk = without-on_self (b.rotations Bk) s
all_off-on b s Be = without-on_self (b.rotations Be) s
all_off-on b s Vi = without-on_self (b.rotations Vi) s
all_off-on b s Vo = without-on_self (b.rotations Vo) s

pub kept_gone : (b : Books) (s : ℕ) → IsKept b → Every (λ x. x.station ≢ s) b.opened →
    IsKept (with_account (all_off b s) s None)
kept_gone b s i away = record {
  range = i.range;
  once = k.once;
  live = λ c y stands. elim (cases_eq y s) [
    | inl e ↦ absurd (let none : on (in_order ((all_off b s).rotations c)) y ≡ 0 =
        subst (λ (z : ℕ). on (in_order ((all_off b s).rotations c)) z ≡ 0) (sym e) (all_off-on b s c) in
        omega arith)
    | inr other ↦ ap is_some (upd_other b.accounts s y None other) ∙ k.live c y stands
  ];
  opens = both b.opened i.opens away;
  rising = i.rising;
  few = i.few;
  within = i.within;
  goods = each_upd (λ y o. IfSome o (IsGood b.config b.opened y)) b.accounts s None i.goods tt;
}
  where
    k : IsKept (all_off b s)
    k = kept_off _ s Vo (kept_off _ s Vi (kept_off _ s Be (kept_off b s Bk i)))

    both : (xs : List Exchange) → Every (IsOpen b) xs → Every (λ x. x.station ≢ s) xs →
        Every (IsOpen (with_account (all_off b s) s None)) xs
    both [] e h = tt
    both (x ∷ xs) e h = (
      record {
        live = ap is_some (upd_other b.accounts s x.station None h.0) ∙ e.0.live;
        below = e.0.below;
        charge = e.0.charge;
        some = e.0.some;
      },
      both xs e.1 h.1,
    )

-- ---- exchanges

-- The greatest computed charge of a class is at most that of any class.
pub among_all : (config : Config) (c : Class) → longest_computed config c ≤ longest_of_all config
among_all config c = go c
  where
    later : ℕ
    later = max (longest_computed config Vi) (longest_computed config Vo)

    first : longest_computed config Be ≤ longest_of_all config
    first = le-max_left (longest_computed config Be) later

    rest : later ≤ longest_of_all config
    rest = le-max_right (longest_computed config Be) later

    go : (c : Class) → longest_computed config c ≤ longest_of_all config
    go Bk = first
    go Be = first
    go Vi = omega (arith, le-max_left (longest_computed config Vi) (longest_computed config Vo), rest)
    go Vo = omega (arith, le-max_right (longest_computed config Vi) (longest_computed config Vo), rest)

-- One exchange more keeps the limits, if what it adds to was below them.
pub within_opened : (b : Books) (x : Exchange) → IsKept b → x.charge ≤ longest_computed b.config x.class →
    (1 ≤ b.config.aql_total → owed_by_all b.opened < b.config.aql_total) →
    (1 ≤ b.config.aql → owed x.station x.class b.opened < b.config.aql) →
    IsWithin b.config (b.opened ++ core x ∷ [])
within_opened b x i fit behind below = record {
  total = λ limited. omega (
    arith,
    behind limited,
    owed_all-append b.opened (core x),
    fit,
    among_all b.config x.class,
  );
  station = λ limited s c. each limited s c ((x.station == s) && same_class x.class c) refl;
}
  where
    each : 1 ≤ b.config.aql → (s : ℕ) (c : Class) (t : Bool) →
        ((x.station == s) && same_class x.class c) ≡ t →
        owed s c (b.opened ++ core x ∷ []) < b.config.aql + longest_computed b.config c
    each limited s c true t =
        let both : ((x.station == s) ≡ true) × (same_class x.class c ≡ true) = and_parts _ _ t in
        let here : owed s c b.opened < b.config.aql =
        subst (λ (d : Class). owed s d b.opened < b.config.aql) (same_number _ _ (eqb-true _ _ both.1))
        (subst (λ (n : ℕ). owed n x.class b.opened < b.config.aql) (eqb-true _ _ both.0) (below limited)) in
        let more : owed s c (b.opened ++ core x ∷ []) ≡ owed s c b.opened + x.charge =
        owed-append s c b.opened (core x)
        ∙ ap (λ (z : Bool). owed s c b.opened + (if z then x.charge else 0)) t in
        let own : x.charge ≤ longest_computed b.config c =
        subst (λ (d : Class). x.charge ≤ longest_computed b.config d)
        (same_number _ _ (eqb-true _ _ both.1)) fit in
        omega (arith, here, more, own)
    each limited s c false t =
        let same : owed s c (b.opened ++ core x ∷ []) ≡ owed s c b.opened + 0 =
        owed-append s c b.opened (core x)
        ∙ ap (λ (z : Bool). owed s c b.opened + (if z then x.charge else 0)) t in
        omega (arith, same, i.within.station limited s c)

pub kept_opened : (b : Books) (x : Exchange) → IsKept b → is_some (b.accounts x.station) ≡ true →
    x.number ≡ b.exchanges → x.charge ≤ longest_computed b.config x.class → 1 ≤ x.charge →
    many x.class b.opened < b.config.inflight → IsWithin b.config (b.opened ++ core x ∷ [])
    → IfSome (b.accounts x.station) (λ a. pos 1 ≤ℤ
    ((a.shares x.class).deficit -ℤ pos (counted_in b.config x.station x.class b.opened)))
    → IsKept (with_opened b x)
kept_opened b x i is number charge some room within above = record {
  range = i.range;
  once = i.once;
  live = i.live;
  opens = opens;
  rising = rising_append 0 b.opened (core x) i.rising
      (every_map (IsOpen b) (λ y. y.number < x.number) (λ y o. omega (arith, o.below)) b.opened i.opens)
      (omega arith);
  few = few;
  within = within;
  goods = λ s. if_same (IsGood b.config b.opened s) (IsGood b.config (b.opened ++ core x ∷ []) s)
      (b.accounts s) (i.goods s) (λ a e good. record {
        weight = good.weight;
        rate = good.rate;
        bounds =
            bound s a e good;
      });
}
  where
    opens : Every (IsOpen (with_opened b x)) (b.opened ++ core x ∷ [])
    opens = every_append (IsOpen (with_opened b x)) b.opened (core x)
        (every_map (IsOpen b) (IsOpen (with_opened b x))
        (λ y o. record {
          live = o.live;
          below = omega (arith, o.below);
          charge = o.charge;
          some =
              o.some;
        }) b.opened i.opens)
        (record { live = is; below = omega arith; charge = charge; some = some })

    few : (c : Class) → many c (b.opened ++ core x ∷ []) ≤ b.config.inflight
    few c = elim (cases_class x.class c) [
      | inl e ↦
          let room' : many c b.opened < b.config.inflight =
          subst (λ (d : Class). many d b.opened < b.config.inflight) e room in
          omega (arith, many-more c b.opened (core x))
      | inr other ↦ omega (arith, many-other c b.opened (core x) other, i.few c)
    ]

    total : (s : ℕ) (c : Class) → at_stake b.config s c (b.opened ++ core x ∷ []) ≤ most_owed b.config c
    total s c = times_most (many c (b.opened ++ core x ∷ [])) b.config.inflight (longest_exchange b.config c)
        (at_stake b.config s c (b.opened ++ core x ∷ [])) (few c)
        (reserved_most (longest_exchange b.config c) s c (b.opened ++ core x ∷ []))

    -- The station's standing is above 0.
    Above : ℕ → Class → Option Account → Type 0
    Above s c o = IfSome o (λ z. pos 1 ≤ℤ ((z.shares c).deficit -ℤ pos (counted_in b.config s c b.opened)))

    grows : (t : Bool) (m n k l : ℕ) → k ≡ m + n → n ≤ l →
        ((if t then m else 0) ≤ (if t then k else 0)) × ((if t then k else 0) ≤ (if t then m else 0) + l)
    grows true m n k l e h = (omega arith, omega arith)
    grows false m n k l e h = (omega arith, omega arith)

    bound : (s : ℕ) (a : Account) → b.accounts s ≡ Some a → IsGood b.config b.opened s a → (c : Class) →
        IsBounded b.config c (at_stake b.config s c (b.opened ++ core x ∷ []))
        (counted_in b.config s c (b.opened ++ core x ∷ [])) a.weight (a.shares c)
    bound s a e good c = go ((x.station == s) && same_class x.class c) refl
      where
        go : (t : Bool) → ((x.station == s) && same_class x.class c) ≡ t →
            IsBounded b.config c (at_stake b.config s c (b.opened ++ core x ∷ []))
            (counted_in b.config s c (b.opened ++ core x ∷ [])) a.weight (a.shares c)
        go true t =
            let both : ((x.station == s) ≡ true) × (same_class x.class c ≡ true) = and_parts _ _ t in
            let here : Above s x.class (b.accounts s) =
            subst (λ (n : ℕ). Above n x.class (b.accounts n)) (eqb-true _ _ both.0) above in
            let there : Above s c (b.accounts s) =
            subst (λ (d : Class). Above s d (b.accounts s)) (same_number _ _ (eqb-true _ _ both.1)) here in
            let known : Above s c (Some a) = subst (Above s c) e there in
            let own : x.charge ≤ longest_computed b.config c =
            subst (λ (d : Class). x.charge ≤ longest_computed b.config d)
            (same_number _ _ (eqb-true _ _ both.1)) charge in
            let more = grows (b.config.pending == 1) (owed s c b.opened) x.charge _
            (longest_computed b.config c)
            (owed-append s c b.opened (core x)
            ∙ ap (λ (z : Bool). owed s c b.opened + (if z then x.charge else 0)) t) own in
            bounded_open b.config c (at_stake b.config s c b.opened) _ (counted_in b.config s c b.opened) _
            a.weight (a.shares c) known (total s c) more.0 more.1 (good.bounds c)
        go false t =
            let none : part_of (longest_exchange b.config c) s c (core x) ≡ 0 = rw t refl in
            let same : owed s c (b.opened ++ core x ∷ []) ≡ owed s c b.opened =
            owed-append s c b.opened (core x)
            ∙ (ap (λ (z : Bool). owed s c b.opened + (if z then x.charge else 0)) t ∙ omega arith) in
            subst (λ (n : ℕ). IsBounded b.config c (at_stake b.config s c (b.opened ++ core x ∷ []))
            (counted b.config n) a.weight (a.shares c)) (sym same)
            (bounded_less b.config c (at_stake b.config s c b.opened) _ _ a.weight (a.shares c)
            (omega (arith, reserved-append (longest_exchange b.config c) s c b.opened (core x)))
            (good.bounds c))

-- An exchange ends, and its charge, which is at most the longest, is subtracted from the deficit. If no Done
-- gives an airtime, it is the computed charge.
pub kept_ended : (b : Books) (x : Exchange) (e n : ℕ) → IsKept b →
    find (λ z. z.number == e) b.opened ≡ Some x → n ≤ longest_exchange b.config x.class →
    (b.config.charge ≡ 0 → n ≡ x.charge) → IsKept (with_charge (without b e) x.station x.class n)
kept_ended b x e n i found within exact = record {
  range = i.range;
  once = i.once;
  live = λ c y stands. same_live y ∙ i.live c y stands;
  opens = every_filter (IsOpen (with_charge (without b e) x.station x.class n)) _ b.opened
      (every_map (IsOpen b) (IsOpen (with_charge (without b e) x.station x.class n))
      (λ y o. record {
        live = same_live y.station ∙ o.live;
        below = o.below;
        charge = o.charge;
        some =
            o.some;
      }) b.opened i.opens);
  rising = rising_filter _ 0 b.opened i.rising;
  few = λ c. omega (arith, many-filter c (λ y. not (y.number == e)) b.opened, i.few c);
  within = record {
    total = λ limited. omega (
      arith,
      owed_all-filter (λ y. not (y.number == e)) b.opened,
      i.within.total limited,
    );
    station = λ limited s c. omega (
      arith,
      owed-filter s c (λ y. not (y.number == e)) b.opened,
      i.within.station limited s c,
    );
  };
  goods = others_upd (λ y o. IfSome o (IsGood b.config (without b e).opened y)) b.accounts x.station _
      (λ s other. if_same (IsGood b.config b.opened s) (IsGood b.config (without b e).opened s) (b.accounts s)
      (i.goods s) (λ a _ good. record {
        weight = good.weight;
        rate = good.rate;
        bounds = λ c. less s c a (away s c (λ z. absurd (other (sym z)))) (good.bounds c);
      }))
      (if_map (IsGood b.config b.opened x.station) (IsGood b.config (without b e).opened x.station)
      (on_part x.class (charge_share n)) (b.accounts x.station) (i.goods x.station)
      (λ a _ good. record {
        weight = good.weight;
        rate = good.rate;
        bounds = others_updc (λ c z. IsBounded b.config c
            (at_stake b.config x.station c (without b e).opened)
            (counted_in b.config x.station c (without b e).opened) a.weight z)
            a.shares x.class (charge_share n (a.shares x.class))
            (λ c other. less x.station c a (away x.station c (λ _. λ z. other (sym z))) (good.bounds c))
            (bounded_charge b.config x.class (at_stake b.config x.station x.class b.opened) _
            (counted_in b.config x.station x.class b.opened) _ n a.weight (a.shares x.class) own
            (λ z. (falls (b.config.pending == 1) (owed x.station x.class b.opened) _ x.charge n all
            (exact z)).0)
            (λ p z. falling (owed x.station x.class b.opened) _ x.charge n all (exact z) p)
            (good.bounds x.class));
      }));
}
  where
    same_live : (y : ℕ) → is_some ((with_charge (without b e) x.station x.class n).accounts y)
        ≡ is_some (b.accounts y)
    same_live = each_upd (λ y o. is_some o ≡ is_some (b.accounts y)) b.accounts x.station
        (option_map (on_part x.class (charge_share n)) (b.accounts x.station)) (λ y. refl)
        (some_map (on_part x.class (charge_share n)) (b.accounts x.station))

    -- The airtime in flight in another class or of another station does not change.
    away : (s : ℕ) (c : Class) → (x.station ≡ s → class_number x.class ≡ class_number c → ⊥) →
        owed s c (without b e).opened ≡ owed s c b.opened
    away s c other = go ((x.station == s) && same_class x.class c) refl
      where
        go : (t : Bool) → ((x.station == s) && same_class x.class c) ≡ t →
            owed s c (without b e).opened ≡ owed s c b.opened
        go true t = absurd (let both : ((x.station == s) ≡ true) × (same_class x.class c ≡ true) =
            and_parts _ _ t in other (eqb-true _ _ both.0) (eqb-true _ _ both.1))
        go false t =
            let none : owed_of s c x ≡ 0 = rw t refl in
            omega (arith, owed-ended 0 s c b.opened x e i.rising found)

    less : (s : ℕ) (c : Class) (a : Account) → owed s c (without b e).opened ≡ owed s c b.opened →
        IsBounded b.config c (at_stake b.config s c b.opened) (counted_in b.config s c b.opened) a.weight
        (a.shares c) → IsBounded b.config c (at_stake b.config s c (without b e).opened)
        (counted_in b.config s c (without b e).opened) a.weight (a.shares c)
    less s c a same h = subst (λ (m : ℕ). IsBounded b.config c (at_stake b.config s c (without b e).opened)
        (counted b.config m) a.weight (a.shares c)) (sym same)
        (bounded_less b.config c (at_stake b.config s c b.opened) (at_stake b.config s c (without b e).opened)
        (counted_in b.config s c b.opened) a.weight (a.shares c)
        (reserved-filter (longest_exchange b.config c) s c (λ y. not (y.number == e)) b.opened) h)

    -- The airtime in flight of the station in the class falls by the computed charge.
    all : owed x.station x.class (without b e).opened + x.charge ≡ owed x.station x.class b.opened
    all =
        let own : owed_of x.station x.class x ≡ x.charge =
        rw (eq-eqb x.station x.station refl, eq-eqb (class_number x.class) (class_number x.class) refl)
        refl in
        omega (arith, owed-ended 0 x.station x.class b.opened x e i.rising found)

    falls : (t : Bool) (m k charge n : ℕ) → k + charge ≡ m → n ≡ charge →
        ((if t then m else 0) ≤ (if t then k else 0) + n) × (t ≡ true → (if t then k else 0) + n
        ≤ (if t then m else 0))
    falls true m k charge n h z = (omega arith, λ _. omega arith)
    falls false m k charge n h z = (omega arith, λ k. absurd (cc k))

    falling : (m k charge n : ℕ) → k + charge ≡ m → n ≡ charge → b.config.pending ≡ 1 →
        counted b.config k + n ≤ counted b.config m
    falling m k charge n h z p = (falls (b.config.pending == 1) m k charge n h z).1
        (eq-eqb b.config.pending 1 p)

    own : at_stake b.config x.station x.class (without b e).opened + n
        ≤ at_stake b.config x.station x.class b.opened
    own =
        let all : part_of (longest_exchange b.config x.class) x.station x.class x
        ≡ longest_exchange b.config x.class =
        rw (eq-eqb x.station x.station refl, eq-eqb (class_number x.class) (class_number x.class) refl)
        refl in
        omega (arith, reserved-ended (longest_exchange b.config x.class) x.station x.class b.opened x e found)

-- ---- a pick

-- Returns the standing of an account in a class: its deficit less the airtime that is counted against it.
abbrev pub standing_of : Books → ℕ → Class → Account → ℤ
standing_of b y c a = (a.shares c).deficit -ℤ pos (counted_in b.config y c b.opened)

-- Returns the quanta that an account needs in a class.
abbrev pub need_in : Books → ℕ → Class → Account → ℕ
need_in b y c a = need_of (b.config.quantum * a.weight) (standing_of b y c a)

pub record IsPick (b : Books) (c : Class) (p : Picked) : Type 0 where
  pub lists : (y : ℕ) → on (in_order p.lists) y ≤ on (in_order (b.rotations c)) y
  pub needed : (y : ℕ) → IfSome (b.accounts y) (λ a. p.quanta y ≤ need_in b y c a)

if_both : (P Q R : Account → Type 0) (o : Option Account) → IfSome o P → IfSome o Q →
    ((a : Account) → P a → Q a → R a) → IfSome o R
if_both P Q R None h k m = tt
if_both P Q R (Some a) h k m = m a h k

once_times : (m n k : ℕ) → m ≤ 1 → n ≤ k → m * n ≤ k
once_times zero n k h e = omega arith
once_times (suc zero) n k h e = omega arith
once_times (suc (suc m)) n k h e = absurd (omega arith)

pub kept_after : (b : Books) (c : Class) (p : Picked) → IsKept b → IsPick b c p →
    ((y : ℕ) → counted_in b.config y c b.opened ≤ most_covered b.config c) → IsKept (after b c p)
kept_after b c p i k covered =
    kept_lists (all_paid b c p.quanta (in_order (b.rotations c))) c p.lists all k.lists
  where
    ss : List ℕ
    ss = in_order (b.rotations c)

    same_live : (y : ℕ) → is_some ((all_paid b c p.quanta (in_order (b.rotations c))).accounts y)
        ≡ is_some (b.accounts y)
    same_live y = some_map _ (b.accounts y)

    all : IsKept (all_paid b c p.quanta (in_order (b.rotations c)))
    all = record {
      range = i.range;
      once = i.once;
      live = λ d y stands. same_live y ∙ i.live d y stands;
      opens = every_map (IsOpen b) (IsOpen (all_paid b c p.quanta (in_order (b.rotations c))))
          (λ x o. record {
            live = same_live x.station ∙ o.live;
            below = o.below;
            charge = o.charge;
            some =
                o.some;
          }) b.opened i.opens;
      rising = i.rising;
      few = i.few;
      within = i.within;
      goods = λ s. if_map (IsGood b.config b.opened s) (IsGood b.config b.opened s)
          (paid b.config.quantum c (on (in_order (b.rotations c)) s * p.quanta s)) (b.accounts s) (i.goods s)
          (λ a e good. record {
            weight = good.weight;
            rate = good.rate;
            bounds = each_updc (λ d z. IsBounded b.config d (at_stake b.config s d b.opened)
                (counted_in b.config s d b.opened) a.weight z)
                a.shares c _ good.bounds
                (let need : p.quanta s ≤ need_in b s c a =
                subst (λ (o : Option Account). IfSome o (λ a. p.quanta s ≤ need_in b s c a)) e (k.needed s) in
                bounded_pay b.config c (at_stake b.config s c b.opened) (counted_in b.config s c b.opened)
                a.weight (on (in_order (b.rotations c)) s * p.quanta s) (a.shares c)
                (once_times _ _ _ (i.once c s) need) (covered s) (good.bounds c));
          });
    }

-- A station that gets the quanta that it needs has a positive standing after the pick.
pub above_after : (b : Books) (c : Class) (p : Picked) (v : ℕ) → IsKept b →
    0 < on (in_order (b.rotations c)) v → IfSome (b.accounts v) (λ a. p.quanta v ≡ need_in b v c a) →
    IfSome ((after b c p).accounts v) (λ a. pos 1 ≤ℤ standing_of b v c a)
above_after b c p v i stands given = if_map (λ a. (p.quanta v ≡ need_in b v c a) × (0 < a.weight))
    (λ a. pos 1 ≤ℤ standing_of b v c a) _ (b.accounts v)
    (if_both (λ a. p.quanta v ≡ need_in b v c a)
    (IsGood b.config b.opened v) (λ a. (p.quanta v ≡ need_in b v c a) × (0 < a.weight)) (b.accounts v) given
    (i.goods v) (λ a e good. (e, good.weight)))
    (λ a e h.
    let one : on (in_order (b.rotations c)) v * p.quanta v ≡ need_in b v c a =
    all_once _ _ _ (i.once c v) stands h.0 in
    let some : 0 < b.config.quantum * a.weight = product _ _ (omega (arith, i.range.quantum.0)) h.1 in
    rw (
      updc_same a.shares c (pay_share (b.config.quantum * a.weight)
          (on (in_order (b.rotations c)) v * p.quanta v) (a.shares c)),
      one,
    )
    (moved (a.shares c).deficit (counted_in b.config v c b.opened) _
    (paid_least (b.config.quantum * a.weight) (standing_of b v c a) some)))
  where
    moved : (d : ℤ) (n g : ℕ) → pos 1 ≤ℤ ((d -ℤ pos n) +ℤ pos g) → pos 1 ≤ℤ ((d +ℤ pos g) -ℤ pos n)
    moved d n g h = omega (arith, ints)

    all_once : (m n k : ℕ) → m ≤ 1 → 0 < m → n ≡ k → m * n ≡ k
    all_once m n k h some e = let one : m ≡ 1 = omega arith in rw (one, e) (omega arith)

    product : (m n : ℕ) → 0 < m → 0 < n → 0 < m * n
    product m n h k = grind arith
