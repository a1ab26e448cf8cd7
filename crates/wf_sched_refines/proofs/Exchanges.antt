-- Proves that scheduler and world still agree after an exchange opens or closes: with the setting `pending`,
-- its computed airtime is taken off and paid back, and the standing of its station changes as much.
use Rattle.std.proofs.Common.{◌≡◌, refl, ap, sym, ◌∙◌, subst, arith, ℕ, ◌+◌, ◌*◌, ◌==◌, ℤ, pos, ◌+ℤ◌, ◌-ℤ◌, Bool, true, false, if◌then◌else◌, List, [], ◌∷◌, ◌++◌, Option, Some, None, is_some, IfSome, not, map, filter, inl, inr}
use Rattle.std.proofs.lemmas.Bool.{cases_eq}
use Rattle.std.proofs.lemmas.Int.{ints}
use Rattle.wf_frame.specs.declared.settings.Config.{Config}
use Rattle.wf_frame.specs.declared.classes.Class.{Class}
use Rattle.wf_frame.specs.Classes.{class_number}
use Rattle.wf_def_world.specs.World.{World, Exchange, owed, exchange, on_share, on_station, with_station, without_exchange}
use Rattle.wf_def_world.specs.Exchanges.{Prepared, charge_of, sending_tid, after_tid_turn, prepared_exchange, exchange_of, with_exchange_opened}
use Rattle.wf_def_world.specs.Step.{send_outcome, pull_outcome_for, done_outcome}
use Rattle.wf_law_runs.specs.Windows.{OpenRises}
use Rattle.wf_law_runs.proofs.Deficits.Books.{cases_class, core, Books, books}
use Rattle.wf_law_runs.proofs.Deficits.BookSteps.{books_prepared}
use Rattle.wf_law_runs.proofs.Deficits.Openings.{owed-core, owed-append}
use Rattle.wf_sched.specs.ClassRotas.{SchedValue, deficit, quantum_of, with_deficit}
use Rattle.wf_sched_refines.specs.Standing.{SchedulerStandsFor, with_deficit_charged, with_paid_back, with_pending_charged, with_pending_paid_back}
use Rattle.wf_sched_refines.specs.Calls.{with_winner_sent}
use Rattle.wf_sched_refines.proofs.Owed.{part, part_own, part_other, owed_without}
use Rattle.wf_sched_refines.proofs.Changes.{deficit_same, deficit_class, deficit_station, quantum_deficit}
use Rattle.wf_sched_refines.proofs.Stands.{Stands, pending_of, standing_of, to_books, of_books, stands_opened, if_same, if_known, IsOtherwise}
use Rattle.wf_sched_refines.proofs.Charges.{otherwise, charge_stands}
use Rattle.wf_sched_refines.proofs.Unchanged.{turn_leaves, prepared_leaves, spent_leaves, after_done_leaves}

-- ---- other open exchanges

-- the books with other open exchanges
abbrev with_others : Books → List Exchange → ℕ → Books
with_others b xs n = record b { opened = xs; exchanges = n }

module _ (v : SchedValue) (b : Books) (xs : List Exchange) (n s : ℕ) (c : Class) (d : ℤ) (h : Stands v b)
    (others : (y : ℕ) (e : Class) → (y ≡ s → class_number e ≡ class_number c → ⊥) →
    pending_of (with_others b xs n) y e ≡ pending_of b y e)
    (own : d +ℤ pos (pending_of (with_others b xs n) s c) ≡ deficit v c s +ℤ pos (pending_of b s c)) where
  -- another station or class
  elsewhere : (y : ℕ) (e : Class) → (y ≡ s → class_number e ≡ class_number c → ⊥) →
      deficit (with_deficit v c s d) e y ≡ deficit v e y →
      IfSome (b.accounts y) (λ a. deficit (with_deficit v c s d) e y ≡ standing_of (with_others b xs n) y e a)
  elsewhere y e far same = if_same (λ a. deficit v e y ≡ standing_of b y e a)
      (λ a. deficit (with_deficit v c s d) e y ≡ standing_of (with_others b xs n) y e a) (b.accounts y)
      (h.deficits y e) (λ a k. same ∙ k
      ∙ ap (λ (m : ℕ). (a.shares e).deficit -ℤ pos m) (sym (others y e far)))

  -- the station and the class themselves
  here : IfSome (b.accounts s) (λ a. deficit (with_deficit v c s d) c s
      ≡ standing_of (with_others b xs n) s c a)
  here = if_known (λ a. deficit v c s ≡ standing_of b s c a)
      (λ a. deficit (with_deficit v c s d) c s ≡ standing_of (with_others b xs n) s c a) (b.accounts s)
      (h.deficits s c) (λ a is k. deficit_same v c s d h.sized
      (omega (arith, h.live s (ap is_some is), h.stations)) ∙ omega (arith, ints, own, k))

  each : (y : ℕ) (e : Class) →
      IfSome (b.accounts y) (λ a. deficit (with_deficit v c s d) e y ≡ standing_of (with_others b xs n) y e a)
  each y e = elim (cases_eq y s) [
    | inl same ↦ elim (cases_class e c) [
      | inl class ↦ subst (λ (k : Class). IfSome (b.accounts y) (λ a. deficit (with_deficit v c s d) k y
          ≡ standing_of (with_others b xs n) y k a)) (sym class)
          (subst (λ (z : ℕ). IfSome (b.accounts z) (λ a. deficit (with_deficit v c s d) c z
          ≡ standing_of (with_others b xs n) z c a)) (sym same) here)
      | inr class ↦ elsewhere y e (λ _ k. class k) (deficit_class v c e s y d class)
    ]
    | inr other ↦ elsewhere y e (λ k _. other k) (deficit_station v c s d h.sized y other e)
  ]

  -- the airtime of one station in a class changes, and its deficit changes as much
  stands_air : Stands (with_deficit v c s d) (with_others b xs n)
  stands_air =
      let same : IsOtherwise s v (with_deficit v c s d) = otherwise v c s d h.sized in
      record {
        sized = same.sized;
        stations = h.stations;
        quantum = h.quantum;
        rotations = λ e. same.rotations e ∙ h.rotations e;
        deficits = each;
        quanta = λ y e. if_same (λ a. quantum_of v e y ≡ b.config.quantum * a.weight)
            (λ a. quantum_of (with_deficit v c s d) e y ≡ b.config.quantum * a.weight) (b.accounts y)
            (h.quanta y e) (λ a k. quantum_deficit v c s d h.sized y e ∙ k);
        once = h.once;
        listed = h.listed;
        live = h.live;
      }

-- ---- an exchange more or less

if_pending : (b : Bool) (n m : ℕ) → n ≡ m → (if b then n else 0) ≡ (if b then m else 0)
if_pending b n m e = ap (λ (k : ℕ). if b then k else 0) e

module _ (v : SchedValue) (b : Books) (xs : List Exchange) (n : ℕ) (x : Exchange) (h : Stands v b) where
  -- without the setting `pending`, no airtime in flight counts
  stands_unpaid : (b.config.pending == 1) ≡ false → Stands v (with_others b xs n)
  stands_unpaid off = stands_opened v b xs n (λ s c.
      ap (λ (p : Bool). if p then owed s c xs else 0) off
      ∙ sym (ap (λ (p : Bool). if p then owed s c b.opened else 0) off)) h

  -- with it, all of it counts
  all_count : (o : List Exchange) (s : ℕ) (c : Class) → (b.config.pending == 1) ≡ true →
      (if b.config.pending == 1 then owed s c o else 0) ≡ owed s c o
  all_count o s c on = ap (λ (p : Bool). if p then owed s c o else 0) on

  stands_more : ((s : ℕ) (c : Class) → owed s c xs ≡ owed s c b.opened + part s c x) →
      Stands (with_pending_charged b.config v x.station x.class x.charge) (with_others b xs n)
  stands_more more = go (b.config.pending == 1) refl
    where
      go : (p : Bool) → (b.config.pending == 1) ≡ p →
          Stands (if p then with_deficit_charged v x.station x.class x.charge else v) (with_others b xs n)
      go false off = stands_unpaid off
      go true on = stands_air v b xs n x.station x.class _ h
          (λ y e far. if_pending (b.config.pending == 1) _ _
          (more y e ∙ omega (arith, part_other y e x far)))
          (omega (
            arith,
            ints,
            all_count xs x.station x.class on,
            all_count b.opened x.station x.class on,
            more x.station x.class,
            part_own x,
          ))

  stands_less : ((s : ℕ) (c : Class) → owed s c xs + part s c x ≡ owed s c b.opened) →
      Stands (with_pending_paid_back b.config v x.station x.class x.charge) (with_others b xs n)
  stands_less less = go (b.config.pending == 1) refl
    where
      go : (p : Bool) → (b.config.pending == 1) ≡ p →
          Stands (if p then with_paid_back v x.station x.class x.charge else v) (with_others b xs n)
      go false off = stands_unpaid off
      go true on = stands_air v b xs n x.station x.class _ h
          (λ y e far. if_pending (b.config.pending == 1) _ _ (omega (arith, less y e, part_other y e x far)))
          (omega (
            arith,
            ints,
            all_count xs x.station x.class on,
            all_count b.opened x.station x.class on,
            less x.station x.class,
            part_own x,
          ))

-- ---- an exchange opens

pub opened_stands : (v : SchedValue) (w : World) (x : Exchange) → SchedulerStandsFor v w →
    SchedulerStandsFor (with_pending_charged w.config v x.station x.class x.charge) (with_exchange_opened w x)
unfolding with_exchange_opened
opened_stands v w x h = of_books _ _ (stands_more v (books w) (map core (w.opened ++ x ∷ []))
    (w.exchanges + 1) x
    (to_books v w h) (λ s c. owed-core s c (w.opened ++ x ∷ []) ∙ owed-append s c w.opened x
    ∙ ap (λ (n : ℕ). n + part s c x) (sym (owed-core s c w.opened))))

pub sent_stands : (v : SchedValue) (s t : ℕ) (c : Class) (p : Prepared) → SchedulerStandsFor v p.world →
    SchedulerStandsFor (with_pending_charged p.world.config v s c p.charge) (send_outcome s t c p).world
unfolding send_outcome
sent_stands v s t c p h =
    spent_leaves _ (exchange_of s t c p) _ (opened_stands v p.world (exchange_of s t c p) h)

pub winner_stands : (v : SchedValue) (w : World) (c : Class) (winner : Option ℕ) → SchedulerStandsFor v w →
    SchedulerStandsFor (with_winner_sent w c winner v) (pull_outcome_for w c winner).world
unfolding pull_outcome_for after_tid_turn on_share on_station with_station
winner_stands v w c None h = h
winner_stands v w c (Some s) h =
    let t : ℕ = sending_tid w s c in
    let turned : World = after_tid_turn w s c t in
    let p : Prepared = prepared_exchange turned s t in
    let same : p.world.config ≡ w.config =
    ap (λ (b : Books). b.config) (books_prepared turned s t) ∙ turn_config w s c t in
    subst (λ (k : Config). SchedulerStandsFor (with_pending_charged k v s c p.charge)
    (send_outcome s t c p).world) same
    (sent_stands v s t c p (prepared_leaves turned s t v (turn_leaves w s c t v h)))
  where
    turn_config : (w : World) (s : ℕ) (c : Class) (t : ℕ) → (after_tid_turn w s c t).config ≡ w.config
    turn_config w s c t = refl

-- ---- an exchange closes

pub closed_stands : (v : SchedValue) (w : World) (x : Exchange) (e : ℕ) → exchange w e ≡ Some x →
    OpenRises 0 w.exchanges w.opened → SchedulerStandsFor v w →
    SchedulerStandsFor (with_pending_paid_back w.config v x.station x.class x.charge) (without_exchange w e)
unfolding without_exchange
closed_stands v w x e known rises h = of_books _ _ (stands_less v (books w)
    (map core (filter (λ y. not (y.number == e)) w.opened)) w.exchanges x (to_books v w h)
    (λ s c. ap (λ (n : ℕ). n + part s c x) (owed-core s c (filter (λ y. not (y.number == e)) w.opened))
    ∙ owed_without w.opened x e s c 0 w.exchanges rises known ∙ sym (owed-core s c w.opened)))

pub end_stands : (v : SchedValue) (w : World) (x : Exchange) (heard : Bool) (air : Option ℕ) →
    exchange w x.number ≡ Some x → OpenRises 0 w.exchanges w.opened → SchedulerStandsFor v w →
    SchedulerStandsFor (with_deficit_charged (with_pending_paid_back w.config v x.station x.class x.charge)
    x.station x.class (charge_of air x)) (done_outcome w x heard air).world
unfolding done_outcome
end_stands v w x heard air known rises h = after_done_leaves _ x heard x.content _
    (charge_stands _ (without_exchange w x.number) x air (closed_stands v w x x.number known rises h))
