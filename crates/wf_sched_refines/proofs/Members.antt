-- Proves that scheduler and world still agree after a station joins or leaves: only its account and the lists
-- change.
use Rattle.std.proofs.Common.{◌≡◌, refl, ap, sym, ◌∙◌, subst, arith, ℕ, ◌*◌, ◌<◌, ◌≤◌, ◌==◌, pos, ◌-ℤ◌, Bool, true, false, if◌then◌else◌, Some, None, length-set}
use Rattle.std.proofs.lemmas.Int.{ints}
use Rattle.std.proofs.lemmas.List.{get_or-set_same, get_or-set_other}
use Rattle.wf_frame.specs.declared.classes.Class.{Class}
use Rattle.wf_frame.specs.declared.classes.Class.TheVariants.{Bk, Be, Vi, Vo}
use Rattle.wf_frame.specs.Classes.{all_classes}
use Rattle.wf_def_rotation.specs.Rotation.{Rotation, in_order, without_key}
use Rattle.wf_def_world.specs.World.{World, owed, with_station, with_rotation, rotation as world_rotation}
use Rattle.wf_def_world.specs.Step.{without_listings, leave_outcome, join_outcome as joined_world, offload_outcome, plain_outcome}
use Rattle.wf_def_lists.specs.Lists.{on}
use Rattle.wf_law_runs.proofs.Deficits.Books.{Books, books, with_account, books_with_station, books_with_rotation}
use Rattle.wf_law_runs.proofs.Deficits.BookSteps.{fresh_account, off, all_off, books_joined, books_offloaded, books_joined_plain, books_gone}
use Rattle.wf_rotation.specs.Rotas.{deficit_at, quantum_at}
use Rattle.wf_sched.specs.ClassRotas.{ClassRota, SchedValue, class_rota, deficit, quantum_of, after_join, after_station_left}
use Rattle.wf_sched_refines.specs.Standing.{SchedulerStandsFor, everywhere}
use Rattle.wf_sched_refines.proofs.Once.{without-on, without-on_self}
use Rattle.wf_sched_refines.proofs.Changes.{turns_everywhere, sized_everywhere}
use Rattle.wf_sched_refines.proofs.Stands.{Stands, pending_of, pending_books, standing_of, to_books, with_books, IsOtherwise, stands_account, if_same}

-- ---- a join

-- nothing is taken off
all_of : (q n : ℕ) → n ≡ 0 → pos q ≡ pos q -ℤ pos n
all_of q n e = rw e (omega (arith, ints))

module _ (v : SchedValue) (b : Books) (s q : ℕ) (h : Stands v b) where
  joined_otherwise : IsOtherwise s v (everywhere (after_join s q) v)
  joined_otherwise = record {
    sized = sized_everywhere (after_join s q) v h.sized (λ t. length-set t.deficits s (pos q))
        (λ t. length-set t.quanta s q);
    stations = refl;
    quantum = refl;
    rotations = λ c. ap (λ (t : ClassRota). t.rotation) (turns_everywhere (after_join s q) v h.sized c);
    deficits = λ y other c. ap (λ (t : ClassRota). deficit_at t.deficits y)
        (turns_everywhere (after_join s q) v h.sized c)
        ∙ get_or-set_other (class_rota v c).deficits s y (pos q) (pos 0) other;
    quanta = λ y other c. ap (λ (t : ClassRota). quantum_at t.quanta y)
        (turns_everywhere (after_join s q) v h.sized c)
        ∙ get_or-set_other (class_rota v c).quanta s y q 1 other;
  }

  stands_joined : (weight : ℕ) → q ≡ b.config.quantum * weight → s < b.config.stations →
      ((c : Class) → pending_of b s c ≡ 0) →
      Stands (everywhere (after_join s q) v) (with_account b s (Some (fresh_account b.config.quantum weight)))
  stands_joined weight is low none = stands_account v (everywhere (after_join s q) v) b s
      (Some (fresh_account b.config.quantum weight)) h joined_otherwise (record {
        deficits = λ c. ap (λ (t : ClassRota). deficit_at t.deficits s)
            (turns_everywhere (after_join s q) v h.sized c)
            ∙ get_or-set_same (class_rota v c).deficits s (pos q) (pos 0)
            (omega (arith, h.sized.deficits c, h.stations)) ∙ ap pos is
            ∙ all_of (b.config.quantum * weight) (pending_of b s c) (none c);
        quanta = λ c. ap (λ (t : ClassRota). quantum_at t.quanta s)
            (turns_everywhere (after_join s q) v h.sized c)
            ∙ get_or-set_same (class_rota v c).quanta s q 1
            (omega (arith, h.sized.quanta c, h.stations)) ∙ is;
        listed = λ c stands. refl;
        live = λ is. low;
      })

none_pending : (b : Bool) (n : ℕ) → n ≡ 0 → (if b then n else 0) ≡ 0
none_pending true n e = e
none_pending false n e = refl

stands_fresh : (v : SchedValue) (w : World) (s weight : ℕ) → SchedulerStandsFor v w →
    s < w.config.stations → ((c : Class) → owed s c w.opened ≡ 0) →
    Stands (everywhere (after_join s (v.quantum * weight)) v)
    (with_account (books w) s (Some (fresh_account w.config.quantum weight)))
stands_fresh v w s weight h low none =
    stands_joined v (books w) s (v.quantum * weight) (to_books v w h) weight
    (ap (λ (q : ℕ). q * weight) h.quantum) low
    (λ c. pending_books w s c ∙ none_pending (w.config.pending == 1) (owed s c w.opened) (none c))

pub join_stands : (v : SchedValue) (w : World) (s window start exponent weight : ℕ) → SchedulerStandsFor v w →
    s < w.config.stations → ((c : Class) → owed s c w.opened ≡ 0) →
    SchedulerStandsFor (everywhere (after_join s (v.quantum * weight)) v)
    (joined_world w s window start exponent weight).world
join_stands v w s window start exponent weight h low none =
    with_books _ _ _ (books_joined w s window start exponent weight) (stands_fresh v w s weight h low none)

pub offload_stands : (v : SchedValue) (w : World) (s exponent weight : ℕ) → SchedulerStandsFor v w →
    s < w.config.stations → ((c : Class) → owed s c w.opened ≡ 0) →
    SchedulerStandsFor (everywhere (after_join s (v.quantum * weight)) v)
    (offload_outcome w s exponent weight).world
offload_stands v w s exponent weight h low none =
    with_books _ _ _ (books_offloaded w s exponent weight) (stands_fresh v w s weight h low none)

pub plain_stands : (v : SchedValue) (w : World) (s start exponent weight : ℕ) → SchedulerStandsFor v w →
    s < w.config.stations → ((c : Class) → owed s c w.opened ≡ 0) →
    SchedulerStandsFor (everywhere (after_join s (v.quantum * weight)) v)
    (plain_outcome w s start exponent weight).world
plain_stands v w s start exponent weight h low none =
    with_books _ _ _ (books_joined_plain w s start exponent weight) (stands_fresh v w s weight h low none)

-- ---- a leave

off_is : (b : Books) (s : ℕ) (c : Class) → (all_off b s).rotations c ≡ without_key (b.rotations c) s
off_is b s Bk = refl
off_is b s Be = refl
off_is b s Vi = refl
off_is b s Vo = refl

stands_off : (v : SchedValue) (b : Books) (s : ℕ) → Stands v b →
    Stands (everywhere (after_station_left s) v) (all_off b s)
stands_off v b s h = record {
  sized = sized_everywhere (after_station_left s) v h.sized (λ t. refl) (λ t. refl);
  stations = h.stations;
  quantum = h.quantum;
  rotations = λ c. ap (λ (t : ClassRota). t.rotation) (turns_everywhere (after_station_left s) v h.sized c)
      ∙ ap (λ (r : Rotation). without_key r s) (h.rotations c) ∙ sym (off_is b s c);
  deficits = λ y c. if_same (λ a. deficit v c y ≡ standing_of b y c a)
      (λ a. deficit (everywhere (after_station_left s) v) c y ≡ standing_of b y c a) (b.accounts y)
      (h.deficits y c)
      (λ a e. ap (λ (t : ClassRota). deficit_at t.deficits y)
      (turns_everywhere (after_station_left s) v h.sized c) ∙ e);
  quanta = λ y c. if_same (λ a. quantum_of v c y ≡ b.config.quantum * a.weight)
      (λ a. quantum_of (everywhere (after_station_left s) v) c y ≡ b.config.quantum * a.weight) (b.accounts y)
      (h.quanta y c)
      (λ a e. ap (λ (t : ClassRota). quantum_at t.quanta y)
      (turns_everywhere (after_station_left s) v h.sized c) ∙ e);
  once = λ c y. subst (λ (r : Rotation). on (in_order r) y ≤ 1) (sym (off_is b s c))
      (omega (arith, without-on (b.rotations c) s y, h.once c y));
  listed = λ c y stands. h.listed c y (let there : 0 < on (in_order (without_key (b.rotations c) s)) y =
      subst (λ (r : Rotation). 0 < on (in_order r) y) (off_is b s c) stands in
      omega (arith, without-on (b.rotations c) s y));
  live = h.live;
}

stands_left : (v : SchedValue) (b : Books) (s : ℕ) → Stands v b →
    Stands (everywhere (after_station_left s) v) (with_account (all_off b s) s None)
stands_left v b s h = stands_account (everywhere (after_station_left s) v)
    (everywhere (after_station_left s) v) (all_off b s) s None k same (record {
      deficits = λ c. tt;
      quanta = λ c. tt;
      listed = λ c stands. absurd (let there : 0 < on (in_order (without_key (b.rotations c) s)) s =
          subst (λ (r : Rotation). 0 < on (in_order r) s) (off_is b s c) stands in
          omega (arith, without-on_self (b.rotations c) s));
      live = λ is. absurd (cc is);
    })
  where
    k : Stands (everywhere (after_station_left s) v) (all_off b s)
    k = stands_off v b s h

    same : IsOtherwise s (everywhere (after_station_left s) v) (everywhere (after_station_left s) v)
    same = record {
      sized = k.sized;
      stations = refl;
      quantum = refl;
      rotations = λ c. refl;
      deficits =
          λ y other c. refl;
      quanta = λ y other c. refl;
    }

books_off_one : (w : World) (s : ℕ) (c : Class) (b : Books) → books w ≡ b →
    books (with_rotation w c (without_key (world_rotation w c) s)) ≡ off b s c
books_off_one w s c b e = books_with_rotation w c _ ∙ ap (λ (z : Books). off z s c) e

books_off : (w : World) (s : ℕ) → books (with_station (without_listings w s all_classes) s None)
    ≡ with_account (all_off (books w) s) s None
unfolding without_listings
books_off w s =
    books_with_station _ s None ∙ ap (λ (z : Books). with_account z s None)
    (books_off_one _ s Vo _ (books_off_one _ s Vi _ (books_off_one _ s Be _ (books_off_one w s Bk _ refl))))

pub leave_stands : (v : SchedValue) (w : World) (s : ℕ) → SchedulerStandsFor v w →
    SchedulerStandsFor (everywhere (after_station_left s) v)
    (with_station (without_listings w s all_classes) s None)
leave_stands v w s h = with_books _ _ _ (books_off w s) (stands_left v (books w) s (to_books v w h))

pub gone_stands : (v : SchedValue) (w : World) (s : ℕ) → SchedulerStandsFor v w →
    SchedulerStandsFor (everywhere (after_station_left s) v) (leave_outcome w s).world
gone_stands v w s h = with_books _ _ _ (books_gone w s) (stands_left v (books w) s (to_books v w h))
