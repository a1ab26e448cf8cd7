-- Proves an invariant of the deficits with the setting `pending`, if each Done charges within err of the
-- computed airtime: a standing, with the airtime that charges of open exchanges may still return, is at most
-- one quantum and the errors. Without receive charges, a standing, less the airtime that they may still take,
-- is above 0 less one exchange and the errors.
use Rattle.std.proofs.Common.{◌≡◌, refl, ap, sym, ◌∙◌, subst, arith, ℕ, zero, suc, ◌+◌, ◌*◌, ◌<◌, ◌≤◌, min, pos, ◌+ℤ◌, ◌-ℤ◌, ◌≤ℤ◌, Bool, true, false, if◌then◌else◌, List, [], ◌∷◌, ◌++◌, Option, Some, None, is_some, IfSome, option_map, ◌&&◌, ◌==◌, find, eq-eqb, ℤ, inl, inr, ◌⊎◌}
use Rattle.std.proofs.lemmas.Int.{ints}
use Rattle.std.proofs.lemmas.Bool.{eqb-true, and_parts}
use Rattle.wf_frame.specs.declared.settings.Config.{Config}
use Rattle.wf_frame.specs.declared.classes.Class.{Class}
use Rattle.wf_frame.specs.declared.notes.Note.{Note}
use Rattle.wf_frame.specs.Classes.{class_number, same_class}
use Rattle.wf_def_lists.specs.Lists.{on}
use Rattle.wf_def_rotation.specs.Rotation.{in_order, need_of}
use Rattle.wf_def_world.specs.World.{World, Share, Exchange, owed, rotation}
use Rattle.wf_def_world.specs.Exchanges.{picked_station, station_need, longest_computed}
use Rattle.wf_def_world.specs.Step.{step, lesser_of, share_with_deficit}
use Rattle.wf_def_world.specs.Run.{Entry, world_after}
use Rattle.wf_law_runs.specs.Deficits.{IsNear}
use Rattle.wf_law_runs.specs.Shares.{ChargesWithin, AreWithin, error_of}
use Rattle.wf_law_runs.proofs.Deficits.Books.{Account, core, Books, books, with_account, on_part, each_upd, others_upd, each_updc, others_updc, same_number}
use Rattle.wf_law_runs.proofs.Deficits.BookSteps.{with_opened, with_charge, without, charge_share, receive_share, pay_share, fresh_share, paid, after, rated, fresh_account, spare, lowered, reweighed, with_weight}
use Rattle.wf_law_runs.proofs.Deficits.Openings.{Every, every_map, total, part, total-append, total-ended, total-none, total_most, owed-total, many, total_less}
use Rattle.wf_law_runs.proofs.Deficits.Bounds.{paid_some, at_most_cases}
use Rattle.wf_law_runs.proofs.Deficits.Kept.{IsOpen, IsKept, counted_in, need_in, standing_of, if_map, if_same, above_after, spare_counted, spare_short}
use Rattle.wf_law_runs.proofs.Deficits.KeptStep.{is_pick, need_is, kept_step}
use Rattle.wf_law_runs.proofs.Deficits.Configs.{config_step}
use Rattle.wf_law_runs.proofs.Spent.Changes.{Changes, changes_step}
use Rattle.wf_law_rules.proofs.Lemmas.Rotations.{IsWinner, pick_winner}
use Rattle.wf_def_world.specs.CanSend.{is_ready}

-- The computed airtime of an exchange, or err if that is less: the most that its charge may return.
abbrev pub gives_back : ℕ → Exchange → ℕ
gives_back err x = min err x.charge

-- The share of a station of this weight. o is the computed airtime of its open exchanges, m is the airtime
-- that their charges may return, and k is the airtime that they may take beyond the computed airtime.
pub record IsPoised (config : Config) (c : Class) (err o m k weight : ℕ) (x : Share) : Type 0 where
  pub most : (x.deficit +ℤ pos m) ≤ℤ pos (o + config.quantum * weight + error_of config err)
  pub floor : x.received ≡ 0 →
      pos (1 + o + k) ≤ℤ (x.deficit +ℤ pos (longest_computed config c + error_of config err))

unfoldable pub HasPoise : ℕ → Config → List Exchange → ℕ → Account → Type 0
HasPoise err config opened y a = (c : Class) → IsPoised config c err (total (λ x. x.charge) y c opened)
    (total (gives_back err) y c opened) (total (λ _. err) y c opened) a.weight (a.shares c)

pub record ArePoised (err : ℕ) (b : Books) : Type 0 where
  pub each : (y : ℕ) → IfSome (b.accounts y) (HasPoise err b.config b.opened y)

-- ---- one share

poised_pay : (config : Config) (c : Class) (err o m k weight n : ℕ) (x : Share) →
    n ≤ need_of (config.quantum * weight) (x.deficit -ℤ pos o) → m ≤ error_of config err →
    IsPoised config c err o m k weight x →
    IsPoised config c err o m k weight (pay_share (config.quantum * weight) n x)
poised_pay config c err o m k weight n x need less p = record {
  most = go n need;
  floor = λ r. more (n * (config.quantum * weight)) (p.floor r);
}
  where
    more : (g : ℕ) → pos (1 + o + k) ≤ℤ (x.deficit +ℤ pos (longest_computed config c + error_of config err)) →
        pos (1 + o + k) ≤ℤ ((x.deficit +ℤ pos g) +ℤ pos (longest_computed config c + error_of config err))
    more g h = omega (arith, ints)

    over : (g u r : ℕ) → m ≤ r → ((x.deficit -ℤ pos o) +ℤ pos g) ≤ℤ pos u →
        ((x.deficit +ℤ pos g) +ℤ pos m) ≤ℤ pos (o + u + r)
    over g u r l h = omega (arith, ints)

    go : (n : ℕ) → n ≤ need_of (config.quantum * weight) (x.deficit -ℤ pos o) →
        ((x.deficit +ℤ pos (n * (config.quantum * weight))) +ℤ pos m) ≤ℤ
        pos (o + config.quantum * weight + error_of config err)
    go zero h = omega (arith, ints, p.most)
    go (suc n) h = over (suc n * (config.quantum * weight)) (config.quantum * weight)
        (error_of config err) less
        (paid_some (config.quantum * weight) (suc n) (x.deficit -ℤ pos o) (omega arith) h)

poised_open : (config : Config) (c : Class) (err o m k charge weight : ℕ) (x : Share) →
    pos 1 ≤ℤ (x.deficit -ℤ pos o) → charge ≤ longest_computed config c → k + err ≤ error_of config err →
    IsPoised config c err o m k weight x →
    IsPoised config c err (o + charge) (m + min err charge) (k + err) weight x
poised_open config c err o m k charge weight x above fits few p = record {
  most = omega (arith, ints, p.most, least);
  floor = λ r. omega (arith, ints);
}
  where
    least : min err charge ≤ charge
    least = omega arith

poised_end : (config : Config) (c : Class) (err o m k charge n weight : ℕ) (x : Share) → IsNear err n charge →
    IsPoised config c err (o + charge) (m + min err charge) (k + err) weight x →
    IsPoised config c err o m k weight (charge_share n x)
poised_end config c err o m k charge n weight x near p = record {
  most = omega (arith, ints, p.most, back);
  floor = λ r. omega (arith, ints, p.floor r, near.0);
}
  where
    back : charge ≤ n + min err charge
    back = omega (arith, near.1)

poised_receive : (config : Config) (c : Class) (err o m k air weight : ℕ) (x : Share) → 0 < air →
    IsPoised config c err o m k weight x → IsPoised config c err o m k weight (receive_share air x)
poised_receive config c err o m k air weight x some p = record {
  most = omega (arith, ints, p.most);
  floor = λ r. absurd (omega arith);
}

poised_fresh : (config : Config) (c : Class) (err o m k weight : ℕ) → 0 < config.quantum → 0 < weight →
    o ≡ 0 → m ≡ 0 → k ≡ 0 → IsPoised config c err o m k weight (fresh_share (config.quantum * weight))
poised_fresh config c err o m k weight some w e f g =
    let one : 1 ≤ config.quantum * weight = grind arith in
    record { most = omega (arith, ints); floor = λ r. omega (arith, ints) }

-- A deficit is lowered to one quantum and to r of the airtime in flight, all of it but one exchange.
poised_lowered : (config : Config) (c : Class) (err o m k weight g r : ℕ) (x : Share) →
    1 ≤ config.quantum * g → r ≤ o → o ≤ r + longest_computed config c → m ≤ error_of config err →
    k ≤ error_of config err → IsPoised config c err o m k weight x →
    IsPoised config c err o m k g (lowered (config.quantum * g) r x)
poised_lowered config c err o m k weight g r x one below short less few p =
    go (lesser_of (config.quantum * g + r) x.deficit) (at_most_cases (config.quantum * g + r) x.deficit)
  where
    go : (d : ℤ) → ((d ≡ x.deficit) × (x.deficit ≤ℤ pos (config.quantum * g + r)))
        ⊎ (d ≡ pos (config.quantum * g + r)) →
        IsPoised config c err o m k g (share_with_deficit (config.quantum * g) d x)
    go d (inl (same, low)) = record {
      most = omega (arith, ints, same, low, below, less);
      floor = λ z. omega (arith, ints, same, p.floor z);
    }
    go d (inr same) = record {
      most = omega (arith, ints, same, below, less);
      floor = λ z. omega (arith, ints, same, short, few);
    }

-- ---- the books

module _ (err : ℕ) (w : World) (kept : IsKept (books w)) (counting : w.config.pending ≡ 1)
    (h : ArePoised err (books w)) where
  away : (i : ℕ) → is_some ((books w).accounts i) ≡ false → Every (λ x. x.station ≡ i → ⊥) (books w).opened
  away i dead = every_map (IsOpen (books w)) (λ x. x.station ≡ i → ⊥)
      (λ x o e. absurd (cc (ap (λ (n : ℕ). is_some ((books w).accounts n)) e, o.live, dead)))
      (books w).opened kept.opens

  poised_joined : (i weight : ℕ) → is_some ((books w).accounts i) ≡ false → 0 < weight →
      ArePoised err (with_account (books w) i (Some (fresh_account w.config.quantum weight)))
  unfolding HasPoise
  poised_joined i weight dead some = record {
    each = each_upd (λ y o. IfSome o (HasPoise err w.config (books w).opened y)) (books w).accounts i _ h.each
        (λ c. poised_fresh w.config c err _ _ _ weight (omega (arith, kept.range.quantum.0)) some
        (total-none (λ x. x.charge) i c (books w).opened (away i dead))
        (total-none (gives_back err) i c (books w).opened (away i dead))
        (total-none (λ _. err) i c (books w).opened (away i dead)));
  }

  -- An account changes.
  poised_on : (i : ℕ) (g : Account → Account) →
      ((a : Account) → HasPoise err w.config (books w).opened i a →
      HasPoise err w.config (books w).opened i (g a)) →
      ArePoised err (with_account (books w) i (option_map g ((books w).accounts i)))
  poised_on i g k = record {
    each = each_upd (λ y o. IfSome o (HasPoise err w.config (books w).opened y)) (books w).accounts i _ h.each
        (if_map (HasPoise err w.config (books w).opened i) (HasPoise err w.config (books w).opened i) g
        ((books w).accounts i) (h.each i) (λ a _ z. k a z));
  }

  poised_heard : (i : ℕ) (d : Class) (air : ℕ) → 0 < air →
      ArePoised err (with_account (books w) i
      (option_map (on_part d (receive_share air)) ((books w).accounts i)))
  unfolding HasPoise
  poised_heard i d air some = poised_on i (on_part d (receive_share air)) (λ a z.
      each_updc (λ c x. IsPoised w.config c err (total (λ x. x.charge) i c (books w).opened)
      (total (gives_back err) i c (books w).opened) (total (λ _. err) i c (books w).opened) a.weight x)
      a.shares d
      (receive_share air (a.shares d)) z
      (poised_receive w.config d err _ _ _ air a.weight (a.shares d) some (z d)))

  falls : (f : Exchange → ℕ) (x : Exchange) (s : ℕ) (c : Class) →
      find (λ z. z.number == x.number) (books w).opened ≡ Some x →
      total f s c (without (books w) x.number).opened + part f s c x ≡ total f s c (books w).opened
  falls f x s c found = total-ended f 0 s c (books w).opened x x.number kept.rising found

  -- An exchange of another station or class ends.
  poised_apart : (x : Exchange) (s : ℕ) (c : Class) (weight : ℕ) (y : Share) →
      find (λ z. z.number == x.number) (books w).opened ≡ Some x →
      (x.station ≡ s → class_number x.class ≡ class_number c → ⊥) →
      IsPoised w.config c err (total (λ x. x.charge) s c (books w).opened)
      (total (gives_back err) s c (books w).opened) (total (λ _. err) s c (books w).opened) weight y →
      IsPoised w.config c err (total (λ x. x.charge) s c (without (books w) x.number).opened)
      (total (gives_back err) s c (without (books w) x.number).opened)
      (total (λ _. err) s c (without (books w) x.number).opened) weight y
  poised_apart x s c weight y found other p =
      let a : total (λ x. x.charge) s c (without (books w) x.number).opened
      ≡ total (λ x. x.charge) s c (books w).opened = same (λ x. x.charge) in
      let b : total (gives_back err) s c (without (books w) x.number).opened
      ≡ total (gives_back err) s c (books w).opened = same (gives_back err) in
      let d : total (λ _. err) s c (without (books w) x.number).opened
      ≡ total (λ _. err) s c (books w).opened = same (λ _. err) in
      rw (a, b, d) p
    where
      none : (f : Exchange → ℕ) (t : Bool) → ((x.station == s) && same_class x.class c) ≡ t →
          (if t then f x else 0) ≡ 0
      none f true t = absurd (let both : ((x.station == s) ≡ true) × (same_class x.class c ≡ true) =
          and_parts _ _ t in other (eqb-true _ _ both.0) (eqb-true _ _ both.1))
      none f false t = refl

      same : (f : Exchange → ℕ) → total f s c (without (books w) x.number).opened
          ≡ total f s c (books w).opened
      same f = omega (
        arith,
        falls f x s c found,
        none f ((x.station == s) && same_class x.class c) refl,
      )

  poised_ended : (x : Exchange) (n : ℕ) → find (λ z. z.number == x.number) (books w).opened ≡ Some x →
      IsNear err n x.charge → ArePoised err (with_charge (without (books w) x.number) x.station x.class n)
  unfolding HasPoise
  poised_ended x n found near = record {
    each = others_upd (λ y o. IfSome o (HasPoise err w.config (without (books w) x.number).opened y))
        (books w).accounts x.station _
        (λ y other. if_same (HasPoise err w.config (books w).opened y)
        (HasPoise err w.config (without (books w) x.number).opened y) ((books w).accounts y) (h.each y)
        (λ a _ z c. poised_apart x y c a.weight (a.shares c) found (λ e. absurd (other (sym e))) (z c)))
        (if_map (HasPoise err w.config (books w).opened x.station)
        (HasPoise err w.config (without (books w) x.number).opened x.station)
        (on_part x.class (charge_share n)) ((books w).accounts x.station) (h.each x.station)
        (λ a _ z. others_updc (λ c y. IsPoised w.config c err
        (total (λ x. x.charge) x.station c (without (books w) x.number).opened)
        (total (gives_back err) x.station c (without (books w) x.number).opened)
        (total (λ _. err) x.station c (without (books w) x.number).opened) a.weight y) a.shares x.class
        (charge_share n (a.shares x.class))
        (λ c other. poised_apart x x.station c a.weight (a.shares c) found (λ _ e. other (sym e)) (z c))
        (poised_end w.config x.class err _ _ _ x.charge n a.weight (a.shares x.class) near
        (rw (whole (λ x. x.charge), whole (gives_back err), whole (λ _. err)) (z x.class)))));
  }
    where
      whole : (f : Exchange → ℕ) → total f x.station x.class (without (books w) x.number).opened + f x
          ≡ total f x.station x.class (books w).opened
      whole f =
          let own : part f x.station x.class x ≡ f x =
          rw (eq-eqb x.station x.station refl, eq-eqb (class_number x.class) (class_number x.class) refl)
          refl in
          omega (arith, falls f x x.station x.class found)

  counts : (y : ℕ) (c : Class) → counted_in w.config y c (books w).opened
      ≡ total (λ x. x.charge) y c (books w).opened
  counts y c = ap (λ (t : Bool). if t then owed y c (books w).opened else 0)
      (eq-eqb w.config.pending 1 counting)
      ∙ owed-total y c (books w).opened

  -- The airtime that open exchanges may return is at most the errors.
  few_errors : (y : ℕ) (c : Class) → total (gives_back err) y c (books w).opened ≤ error_of w.config err
  few_errors y c = times (many c (books w).opened) w.config.inflight _ (kept.few c)
      (omega (arith, less, total_most err y c (books w).opened))
    where
      less : total (gives_back err) y c (books w).opened ≤ total (λ _. err) y c (books w).opened
      less = total_less (gives_back err) (λ _. err) y c (books w).opened (λ x. omega arith)

      times : (m n k : ℕ) → m ≤ n → k ≤ m * err → k ≤ n * err
      times m n k l z = grind arith

  -- The airtime that the charges may take beyond the computed airtime is at most the errors.
  all_errors : (y : ℕ) (c : Class) → total (λ _. err) y c (books w).opened ≤ error_of w.config err
  all_errors y c = times (many c (books w).opened) w.config.inflight _ (kept.few c)
      (total_most err y c (books w).opened)
    where
      times : (m n k : ℕ) → m ≤ n → k ≤ m * err → k ≤ n * err
      times m n k l z = grind arith

  poised_weighed : (i weight : ℕ) → 0 < weight → ArePoised err (with_weight (books w) i weight)
  unfolding HasPoise
  poised_weighed i weight some = poised_on i (reweighed w.config (books w).opened i weight) (λ a z c.
      poised_lowered w.config c err (total (λ x. x.charge) i c (books w).opened)
      (total (gives_back err) i c (books w).opened) (total (λ _. err) i c (books w).opened) a.weight weight
      (spare w.config i c (books w).opened) (a.shares c)
      (product w.config.quantum weight (omega (arith, kept.range.quantum.0)) some)
      (subst (λ (n : ℕ). spare w.config i c (books w).opened ≤ n) (counts i c)
      (spare_counted w.config i c (books w).opened))
      (subst (λ (n : ℕ). n ≤ spare w.config i c (books w).opened + longest_computed w.config c) (counts i c)
      (spare_short (books w) kept i c)) (few_errors i c) (all_errors i c) (z c))
    where
      product : (m n : ℕ) → 0 < m → 0 < n → 1 ≤ m * n
      product m n h k = grind arith

  once_most : (m n k : ℕ) → m ≤ 1 → n ≤ k → m * n ≤ k
  once_most zero n k l e = omega arith
  once_most (suc zero) n k l e = omega arith
  once_most (suc (suc m)) n k l e = absurd (omega arith)

  poised_picked : (d : Class) → ArePoised err (after (books w) d (picked_station w d))
  unfolding HasPoise
  poised_picked d = record {
    each = λ y. if_map (λ a. HasPoise err w.config (books w).opened y a ×
        ((picked_station w d).quanta y ≤ need_in (books w) y d a))
        (HasPoise err w.config (books w).opened y)
        (paid w.config.quantum d (on (in_order (rotation w d)) y * (picked_station w d).quanta y))
        ((books w).accounts y) (both (HasPoise err w.config (books w).opened y)
        (λ a. (picked_station w d).quanta y ≤ need_in (books w) y d a) ((books w).accounts y) (h.each y)
        ((is_pick w d).needed y))
        (λ a _ z. each_updc (λ c x. IsPoised w.config c err (total (λ x. x.charge) y c (books w).opened)
        (total (gives_back err) y c (books w).opened) (total (λ _. err) y c (books w).opened) a.weight x)
        a.shares d
        _ z.0
        (poised_pay w.config d err _ _ _ a.weight _ (a.shares d)
        (subst (λ (n : ℕ). on (in_order (rotation w d)) y * (picked_station w d).quanta y
        ≤ need_of (w.config.quantum * a.weight) ((a.shares d).deficit -ℤ pos n)) (counts y d)
        (once_most _ _ _ (kept.once d y) z.1)) (few_errors y d) (z.0 d)));
  }
    where
      both : (P Q : Account → Type 0) (o : Option Account) → IfSome o P → IfSome o Q →
          IfSome o (λ a. P a × Q a)
      both P Q None p q = tt
      both P Q (Some a) p q = (p, q)

  module _ (d : Class) (k : ℕ) (x : Exchange) (won : (picked_station w d).winner ≡ Some k)
      (own : x.station ≡ k)
      (of : x.class ≡ d) (opens : IsKept (with_opened (after (books w) d (picked_station w d)) x)) where
    winner : IsWinner (station_need w d) (is_ready w d) (rotation w d) (picked_station w d) k
    winner = pick_winner (station_need w d) (is_ready w d) (rotation w d) k won

    -- The station that wins has a positive standing before its exchange opens.
    pub above_sent : (y : ℕ) (c : Class) → ((x.station == y) && same_class x.class c) ≡ true → (a : Account) →
        (after (books w) d (picked_station w d)).accounts y ≡ Some a →
        pos 1 ≤ℤ ((a.shares c).deficit -ℤ pos (total (λ x. x.charge) y c (books w).opened))
    above_sent y c t a e =
        let both : ((x.station == y) ≡ true) × (same_class x.class c ≡ true) = and_parts _ _ t in
        let is_y : k ≡ y = sym own ∙ eqb-true _ _ both.0 in
        let is_c : d ≡ c = sym of ∙ same_number _ _ (eqb-true _ _ both.1) in
        let first : IfSome ((after (books w) d (picked_station w d)).accounts k)
        (λ z. pos 1 ≤ℤ standing_of (books w) k d z) =
        above_after (books w) d (picked_station w d) k kept winner.listed
        (if_same (λ a. station_need w d k ≡ need_in (books w) k d a)
        (λ a. (picked_station w d).quanta k ≡ need_in (books w) k d a) ((books w).accounts k) (need_is w d k)
        (λ a _ z. winner.given ∙ z)) in
        let second : IfSome ((after (books w) d (picked_station w d)).accounts k)
        (λ z. pos 1 ≤ℤ standing_of (books w) k c z) =
        subst (λ (l : Class). IfSome ((after (books w) d (picked_station w d)).accounts k)
        (λ z. pos 1 ≤ℤ standing_of (books w) k l z)) is_c first in
        let third : IfSome ((after (books w) d (picked_station w d)).accounts y)
        (λ z. pos 1 ≤ℤ standing_of (books w) y c z) =
        subst (λ (n : ℕ). IfSome ((after (books w) d (picked_station w d)).accounts n)
        (λ z. pos 1 ≤ℤ standing_of (books w) n c z)) is_y second in
        let known : IfSome (Some a) (λ z. pos 1 ≤ℤ standing_of (books w) y c z) =
        subst (λ (o : Option Account). IfSome o (λ z. pos 1 ≤ℤ standing_of (books w) y c z)) e third in
        subst (λ (n : ℕ). pos 1 ≤ℤ ((a.shares c).deficit -ℤ pos n)) (counts y c) known

    last : (xs : List Exchange) → Every (IsOpen (with_opened (after (books w) d (picked_station w d)) x))
        (xs ++ core x ∷ []) → IsOpen (with_opened (after (books w) d (picked_station w d)) x) (core x)
    last [] e = e.0
    last (y ∷ ys) e = last ys e.1

    -- The exchange takes at most the longest of its class.
    pub fits_sent : (y : ℕ) (c : Class) → ((x.station == y) && same_class x.class c) ≡ true →
        (1 ≤ x.charge) × (x.charge ≤ longest_computed w.config c)
    fits_sent y c t =
        let o = last (books w).opened opens.opens in
        let is_c : x.class ≡ c =
        same_number _ _ (eqb-true _ _ (and_parts (x.station == y) (same_class x.class c) t).1) in
        (o.some, subst (λ (l : Class). x.charge ≤ longest_computed w.config l) is_c o.charge)

    grows : (f : Exchange → ℕ) (y : ℕ) (c : Class) → ((x.station == y) && same_class x.class c) ≡ true →
        total f y c ((books w).opened ++ core x ∷ []) ≡ total f y c (books w).opened + f (core x)
    grows f y c t = total-append f y c (books w).opened (core x)
        ∙ ap (λ (z : Bool). total f y c (books w).opened + (if z then f (core x) else 0)) t

    -- All open exchanges of the class together stay within the errors.
    pub few_sent : (y : ℕ) (c : Class) → ((x.station == y) && same_class x.class c) ≡ true →
        total (λ _. err) y c (books w).opened + err ≤ error_of w.config err
    few_sent y c t = times (many c ((books w).opened ++ core x ∷ [])) w.config.inflight _ (opens.few c)
        (omega (arith, grows (λ _. err) y c t, total_most err y c ((books w).opened ++ core x ∷ [])))
      where
        times : (m n k : ℕ) → m ≤ n → k ≤ m * err → k ≤ n * err
        times m n k l z = grind arith

    poised_sent : ArePoised err (with_opened (after (books w) d (picked_station w d)) x)
    unfolding HasPoise
    poised_sent = record {
      each = λ y. if_same (HasPoise err w.config (books w).opened y)
          (HasPoise err w.config ((books w).opened ++ core x ∷ []) y)
          ((after (books w) d (picked_station w d)).accounts y) ((poised_picked d).each y)
          (λ a e z c. go y a e c (z c) ((x.station == y) && same_class x.class c) refl);
    }
      where
        go : (y : ℕ) (a : Account) → (after (books w) d (picked_station w d)).accounts y ≡ Some a →
            (c : Class) →
            IsPoised w.config c err (total (λ x. x.charge) y c (books w).opened)
            (total (gives_back err) y c (books w).opened) (total (λ _. err) y c (books w).opened) a.weight
            (a.shares c) → (t : Bool) → ((x.station == y) && same_class x.class c) ≡ t →
            IsPoised w.config c err (total (λ x. x.charge) y c ((books w).opened ++ core x ∷ []))
            (total (gives_back err) y c ((books w).opened ++ core x ∷ []))
            (total (λ _. err) y c ((books w).opened ++ core x ∷ [])) a.weight (a.shares c)
        go y a e c z true t = rw (
          grows (λ x. x.charge) y c t,
          grows (gives_back err) y c t,
          grows (λ _. err) y c t,
        ) (poised_open w.config c err _ _ _ x.charge a.weight (a.shares c) (above_sent y c t a e)
            (fits_sent y c t).1 (few_sent y c t) z)
        go y a e c z false t =
            let o : total (λ x. x.charge) y c ((books w).opened ++ core x ∷ [])
            ≡ total (λ x. x.charge) y c (books w).opened = same (λ x. x.charge) in
            let m : total (gives_back err) y c ((books w).opened ++ core x ∷ [])
            ≡ total (gives_back err) y c (books w).opened = same (gives_back err) in
            let n : total (λ _. err) y c ((books w).opened ++ core x ∷ [])
            ≡ total (λ _. err) y c (books w).opened = same (λ _. err) in
            rw (o, m, n) z
          where
            same : (f : Exchange → ℕ) → total f y c ((books w).opened ++ core x ∷ [])
                ≡ total f y c (books w).opened
            same f = total-append f y c (books w).opened (core x)
                ∙ (ap (λ (z : Bool). total f y c (books w).opened + (if z then f (core x) else 0)) t
                ∙ omega arith)

poised_lists : (err : ℕ) (b b' : Books) → b'.config ≡ b.config → b'.accounts ≡ b.accounts →
    b'.opened ≡ b.opened → ArePoised err b → ArePoised err b'
poised_lists err b b' config accounts opened h = record {
  each = λ y. subst (λ (o : Option Account). IfSome o (HasPoise err b'.config b'.opened y))
      (sym (ap (λ (f : ℕ → Option Account). f y) accounts))
      (subst (λ (xs : List Exchange). IfSome (b.accounts y) (HasPoise err b'.config xs y)) (sym opened)
      (subst (λ (z : Config). IfSome (b.accounts y) (HasPoise err z b.opened y)) (sym config) (h.each y)));
}

poised_changes : (err : ℕ) (w : World) → IsKept (books w) → w.config.pending ≡ 1 → ArePoised err (books w) →
    Changes err w (ArePoised err)
unfolding HasPoise
poised_changes err w kept counting h = record {
  same = h;
  joined = poised_joined err w kept counting h;
  weighed = poised_weighed err w kept counting h;
  gone = λ i. record {
    each = each_upd (λ y o. IfSome o (HasPoise err w.config (books w).opened y))
        (books w).accounts i None h.each
        tt;
  };
  rates = λ i rate. poised_on err w kept counting h i (rated rate)
      (λ a z c. record { most = (z c).most; floor = (z c).floor });
  heard = poised_heard err w kept counting h;
  ended = poised_ended err w kept counting h;
  picked = poised_picked err w kept counting h;
  sent = poised_sent err w kept counting h;
  lists = poised_lists err;
}

pub poised_step : (err : ℕ) (w : World) (note : Note) → IsKept (books w) → w.config.pending ≡ 1 →
    ChargesWithin err w note → ArePoised err (books w) → ArePoised err (books (step w note).world)
poised_step err w note kept counting near h = changes_step err w (ArePoised err) kept
    (poised_changes err w kept counting h) note counting near

pub poised_run : (err : ℕ) (es : List Entry) (w : World) → IsKept (books w) → w.config.pending ≡ 1 →
    AreWithin err w es → ArePoised err (books w) → ArePoised err (books (world_after w es))
unfolding world_after
poised_run err [] w kept counting near h = h
poised_run err (e ∷ es) w kept counting near h = poised_run err es (step w e.1).world (kept_step w e.1 kept)
    (ap (λ (z : Config). z.pending) (config_step w e.1) ∙ counting) near.1
    (poised_step err w e.1 kept counting near.0 h)
