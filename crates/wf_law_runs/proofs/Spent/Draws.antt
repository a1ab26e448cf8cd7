-- Proves that a call raises what a station is charged, with what its open exchanges may be charged, only if
-- it opens an exchange of the station. The station's standing is then above 0 less one exchange.
use Rattle.std.proofs.Common.{◌≡◌, refl, ap, sym, ◌∙◌, subst, arith, ℕ, ◌+◌, ◌*◌, ◌<◌, ◌≤◌, ℤ, pos, ◌+ℤ◌, ◌-ℤ◌, ◌≤ℤ◌, Bool, true, false, if◌then◌else◌, [], ◌∷◌, ◌++◌, Option, Some, None, is_some, unwrap_or, option_map, ◌&&◌, ◌==◌, find, eq-eqb, inl, inr, ◌⊎◌}
use Rattle.std.proofs.lemmas.Int.{ints}
use Rattle.std.proofs.Math.Nat.{le-max_left}
use Rattle.wf_frame.specs.declared.classes.Class.{Class}
use Rattle.wf_frame.specs.declared.notes.AskedRate.{AskedRate}
use Rattle.wf_frame.specs.declared.notes.Note.{Note}
use Rattle.wf_frame.specs.Classes.{class_number, same_class}
use Rattle.wf_def_lists.specs.Table.{at}
use Rattle.wf_def_lists.specs.Lists.{on}
use Rattle.wf_def_rotation.specs.Rotation.{in_order}
use Rattle.wf_def_world.specs.World.{World, Exchange, no_station, rotation, is_live}
use Rattle.wf_def_world.specs.Exchanges.{picked_station, longest_computed}
use Rattle.wf_def_world.specs.Step.{step}
use Rattle.wf_law_runs.specs.Deficits.{longest_exchange, IsNear}
use Rattle.wf_law_runs.specs.Shares.{ChargesWithin, error_of}
use Rattle.wf_law_runs.proofs.Deficits.Books.{Account, account, core, Books, books, with_account, on_part, upd_same, upd_other, each_upd, each_updc}
use Rattle.wf_law_runs.proofs.Deficits.BookSteps.{with_opened, with_charge, without, charge_share, receive_share, rated, all_off, fresh_account, after, reweighed, with_weight}
use Rattle.wf_law_runs.proofs.Deficits.Openings.{total, part, total-append, total-ended, reserved-append, part_of}
use Rattle.wf_law_runs.proofs.Deficits.Kept.{IsKept}
use Rattle.wf_law_runs.proofs.Deficits.KeptStep.{live_account}
use Rattle.wf_law_runs.proofs.Fairness.OldOrder.{acc, IsGrown, grown_option, map_or}
use Rattle.wf_law_runs.proofs.Shares.Turns.{bound_to}
use Rattle.wf_law_runs.proofs.Spent.Changes.{Changes, changes_step}
use Rattle.wf_law_runs.proofs.Spent.Poise.{ArePoised, above_sent, fits_sent, few_sent}

-- The airtime that a station was charged in a class, and the airtime that its open exchanges there may be
-- charged.
abbrev pub draw : ℕ → ℕ → Class → Books → ℕ
draw err i c b = ((acc b i).shares c).charged + total (λ x. x.charge + err) i c b.opened

-- A station's standing is above 0 less one exchange, and less the errors of charges that are not made yet.
abbrev pub Floor : ℕ → ℕ → Class → Books → Type 0
Floor err i c b = pos (1 + total (λ x. x.charge) i c b.opened + total (λ _. err) i c b.opened) ≤ℤ
    (((acc b i).shares c).deficit +ℤ pos (longest_computed b.config c + error_of b.config err))

-- From b to b' the draw does not rise, or an exchange opens.
pub record Draws (err l i : ℕ) (c : Class) (b b' : Books) : Type 0 where
  pub draws : (draw err i c b' ≤ draw err i c b)
      ⊎ ((bound_to l c i b < bound_to l c i b') × Floor err i c b')

-- The account and the exchanges are as before.
draws_acc : (err l i : ℕ) (c : Class) (b b' : Books) → ((acc b' i).shares c).charged
    ≡ ((acc b i).shares c).charged → b'.opened ≡ b.opened → Draws err l i c b b'
draws_acc err l i c b b' same opened = record {
  draws = inl (omega (arith, same, ap (total (λ x. x.charge + err) i c) opened));
}

other_acc : (i k : ℕ) (b : Books) (o : Option Account) → (i ≡ k → ⊥) → acc (with_account b k o) i ≡ acc b i
other_acc i k b o other = ap (λ (p : Option Account). unwrap_or p (account no_station))
    (upd_other b.accounts k i o other)

-- An account changes by a function that charges nothing.
charged_on : (c : Class) (i k : ℕ) (b : Books) (g : Account → Account) →
    ((a : Account) → ((g a).shares c).charged ≡ (a.shares c).charged) →
    ((acc (with_account b k (option_map g (b.accounts k))) i).shares c).charged ≡ ((acc b i).shares c).charged
charged_on c i k b g h = each_upd (λ y o. ((unwrap_or o (account no_station)).shares c).charged
    ≡ ((acc b y).shares c).charged) b.accounts k (option_map g (b.accounts k)) (λ y. refl)
    (map_or (λ a a'. (a'.shares c).charged ≡ (a.shares c).charged) g (b.accounts k) (λ a _. h a)
    (λ _. refl)) i

charged_ended : (b : Books) (x : Exchange) (n i : ℕ) (c : Class) →
    ((acc (with_charge b x.station x.class n) i).shares c).charged
    ≤ ((acc b i).shares c).charged + part (λ _. n) i c x
charged_ended b x n i c = each_upd (λ y o. ((unwrap_or o (account no_station)).shares c).charged
    ≤ ((acc b y).shares c).charged + part (λ _. n) y c x) b.accounts x.station
    (option_map (on_part x.class (charge_share n)) (b.accounts x.station)) (λ y. omega arith)
    (map_or (λ a a'. (a'.shares c).charged ≤ (a.shares c).charged + part (λ _. n) x.station c x)
    (on_part x.class (charge_share n)) (b.accounts x.station)
    (λ a _. each_updc (λ l z. z.charged ≤ (a.shares l).charged + part (λ _. n) x.station l x) a.shares x.class
    (charge_share n (a.shares x.class)) (λ l. omega arith) (own (a.shares x.class).charged) c)
    (λ _. omega arith)) i
  where
    all : part (λ _. n) x.station x.class x ≡ n
    all = rw (eq-eqb x.station x.station refl, eq-eqb (class_number x.class) (class_number x.class) refl) refl

    own : (m : ℕ) → m + n ≤ m + part (λ _. n) x.station x.class x
    own m = omega (arith, all)

ended_most : (t : Bool) (n m a a' q q' : ℕ) → n ≤ m → a' ≤ a + (if t then n else 0) →
    q' + (if t then m else 0) ≡ q → a' + q' ≤ a + q
ended_most true n m a a' q q' h k e = omega arith
ended_most false n m a a' q q' h k e = omega arith

module _ (err : ℕ) (w : World) (kept : IsKept (books w)) (counting : w.config.pending ≡ 1)
    (poised : ArePoised err (books w)) (i : ℕ) (c : Class)
    (live : is_some ((books w).accounts i) ≡ true) where
  -- If station i is live in b, its draw changed as Draws says.
  abbrev Goal : Books → Type 0
  Goal b = is_some (b.accounts i) ≡ true → Draws err (longest_exchange w.config c) i c (books w) b

  draws_joined : (k weight : ℕ) → is_some ((books w).accounts k) ≡ false → 0 < weight →
      Goal (with_account (books w) k (Some (fresh_account w.config.quantum weight)))
  draws_joined k weight dead some still = draws_acc err (longest_exchange w.config c) i c (books w) _
      (ap (λ (a : Account). (a.shares c).charged) (other_acc i k (books w) _
      (λ e. cc (dead, subst (λ (z : ℕ). is_some ((books w).accounts z) ≡ true) e live)))) refl

  draws_gone : (k : ℕ) → Goal (with_account (all_off (books w) k) k None)
  draws_gone k still = draws_acc err (longest_exchange w.config c) i c (books w) _
      (ap (λ (a : Account). (a.shares c).charged) (other_acc i k (all_off (books w) k) None other)) refl
    where
      other : i ≡ k → ⊥
      other e =
          let none : (with_account (all_off (books w) k) k None).accounts i ≡ None =
          subst (λ (z : ℕ). (with_account (all_off (books w) k) k None).accounts z ≡ None) (sym e)
          (upd_same (books w).accounts k None) in
          cc (ap is_some none, still)

  draws_rates : (k : ℕ) (rate : AskedRate) →
      Goal (with_account (books w) k (option_map (rated rate) ((books w).accounts k)))
  draws_rates k rate still = draws_acc err (longest_exchange w.config c) i c (books w) _
      (charged_on c i k (books w) (rated rate) (λ a. refl)) refl

  draws_weighed : (k weight : ℕ) → 0 < weight → Goal (with_weight (books w) k weight)
  draws_weighed k weight some still = draws_acc err (longest_exchange w.config c) i c (books w) _
      (charged_on c i k (books w) (reweighed w.config (books w).opened k weight) (λ a. refl)) refl

  draws_heard : (k : ℕ) (d : Class) (air : ℕ) → 0 < air →
      Goal (with_account (books w) k (option_map (on_part d (receive_share air)) ((books w).accounts k)))
  draws_heard k d air some still = draws_acc err (longest_exchange w.config c) i c (books w) _
      (charged_on c i k (books w) (on_part d (receive_share air))
      (λ a. each_updc (λ z x. x.charged ≡ (a.shares z).charged) a.shares d (receive_share air (a.shares d))
      (λ z. refl) refl c)) refl

  draws_ended : (x : Exchange) (n : ℕ) → find (λ z. z.number == x.number) (books w).opened ≡ Some x →
      IsNear err n x.charge → Goal (with_charge (without (books w) x.number) x.station x.class n)
  draws_ended x n found near still = record {
    draws = inl (ended_most ((x.station == i) && same_class x.class c) n (x.charge + err) _ _ _ _ near.0
        (charged_ended (without (books w) x.number) x n i c)
        (total-ended (λ x. x.charge + err) 0 i c (books w).opened x x.number kept.rising found));
  }

  charged_picked : (d : Class) → ((acc (after (books w) d (picked_station w d)) i).shares c).charged
      ≡ ((acc (books w) i).shares c).charged
  charged_picked d =
      let g : IsGrown c 0 (acc (books w) i) (acc (after (books w) d (picked_station w d)) i) =
      grown_option w.config.quantum (on (in_order (rotation w d)) i * (picked_station w d).quanta i) d c
      ((books w).accounts i) in
      omega (arith, g.charged)

  draws_picked : (d : Class) → Goal (after (books w) d (picked_station w d))
  draws_picked d still = draws_acc err (longest_exchange w.config c) i c (books w) _ (charged_picked d) refl

  known : (o : Option Account) → is_some o ≡ true → o ≡ Some (unwrap_or o (account no_station))
  known None e = absurd (cc e)
  known (Some a) e = refl

  floor_number : (o k charge n r : ℕ) (d : ℤ) → pos 1 ≤ℤ (d -ℤ pos o) → charge ≤ n → k + err ≤ r →
      pos (1 + (o + charge) + (k + err)) ≤ℤ (d +ℤ pos (n + r))
  floor_number o k charge n r d h e f = omega (arith, ints)

  draws_sent : (d : Class) (k : ℕ) (x : Exchange) → (picked_station w d).winner ≡ Some k → x.station ≡ k →
      x.class ≡ d → IsKept (with_opened (after (books w) d (picked_station w d)) x) →
      Goal (with_opened (after (books w) d (picked_station w d)) x)
  draws_sent d k x won own of opens still = go ((x.station == i) && same_class x.class c) refl
    where
      go : (t : Bool) → ((x.station == i) && same_class x.class c) ≡ t →
          Draws err (longest_exchange w.config c) i c (books w)
          (with_opened (after (books w) d (picked_station w d)) x)
      go true t =
          let fits : (1 ≤ x.charge) × (x.charge ≤ longest_computed w.config c) =
          fits_sent err w kept counting poised d k x won own of opens i c t in
          let charge : total (λ x. x.charge) i c ((books w).opened ++ core x ∷ [])
          ≡ total (λ x. x.charge) i c (books w).opened + x.charge =
          total-append (λ x. x.charge) i c (books w).opened (core x)
          ∙ ap (λ (z : Bool). total (λ x. x.charge) i c (books w).opened + (if z then x.charge else 0)) t in
          let errs : total (λ _. err) i c ((books w).opened ++ core x ∷ [])
          ≡ total (λ _. err) i c (books w).opened + err =
          total-append (λ _. err) i c (books w).opened (core x)
          ∙ ap (λ (z : Bool). total (λ _. err) i c (books w).opened + (if z then err else 0)) t in
          let more : part_of (longest_exchange w.config c) i c (core x) ≡ longest_exchange w.config c =
          rw t refl in
          record {
            draws = inr (
              omega (
                arith,
                charged_picked d,
                more,
                reserved-append (longest_exchange w.config c) i c (books w).opened (core x),
                fits.0,
                fits.1,
                le-max_left (longest_computed w.config c) w.config.charge,
              ),
              rw (charge, errs) (floor_number (total (λ x. x.charge) i c (books w).opened)
                  (total (λ _. err) i c (books w).opened) x.charge (longest_computed w.config c)
                  (error_of w.config err) _
                  (above_sent err w kept counting poised d k x won own of opens i c t _
                  (known ((after (books w) d (picked_station w d)).accounts i) still)) fits.1
                  (few_sent err w kept counting poised d k x won own of opens i c t)),
            );
          }
      go false t =
          let none : part (λ x. x.charge + err) i c (core x) ≡ 0 = rw t refl in
          record {
            draws = inl (omega (
              arith,
              charged_picked d,
              none,
              total-append (λ x. x.charge + err) i c (books w).opened (core x),
            ));
          }

  draws_lists : (b b' : Books) → b'.config ≡ b.config → b'.accounts ≡ b.accounts → b'.opened ≡ b.opened →
      Goal b → Goal b'
  draws_lists b b' config accounts opened h still =
      let d : Draws err (longest_exchange w.config c) i c (books w) b =
      h (subst (λ (f : ℕ → Option Account). is_some (f i) ≡ true) accounts still) in
      let at_i : acc b' i ≡ acc b i =
      ap (λ (f : ℕ → Option Account). unwrap_or (f i) (account no_station)) accounts in
      record {
        draws = elim d.draws [
          | inl less ↦ inl (rw (at_i, opened) less)
          | inr more ↦ inr (rw (at_i, opened) more.0, rw (at_i, opened, config) more.1)
        ];
      }

  draws_changes : Changes err w Goal
  draws_changes = record {
    same = λ still. draws_acc err (longest_exchange w.config c) i c (books w) (books w) refl refl;
    joined = draws_joined;
    weighed = draws_weighed;
    gone = draws_gone;
    rates = draws_rates;
    heard = draws_heard;
    ended = draws_ended;
    picked = draws_picked;
    sent = draws_sent;
    lists = draws_lists;
  }

  pub draws_step : (note : Note) → ChargesWithin err w note → is_live (step w note).world i ≡ true →
      Draws err (longest_exchange w.config c) i c (books w) (books (step w note).world)
  draws_step note near still = changes_step err w Goal kept draws_changes note counting near
      (live_account (at None (step w note).world.stations i) ∙ still)
