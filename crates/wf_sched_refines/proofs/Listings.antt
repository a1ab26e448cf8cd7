-- Proves that scheduler and world still agree after a station is put on a list of each class in which it
-- belongs on a list.
use Rattle.std.proofs.Common.{◌≡◌, refl, ap, ap₂, sym, ◌∙◌, subst, arith, ℕ, ◌*◌, ◌<◌, ◌≤◌, Bool, true, false, if◌then◌else◌, not, ◌&&◌, ◌||◌, List, [], ◌∷◌, ◌++◌, Some, None, is_some, inl, inr}
use Rattle.std.proofs.lemmas.Bool.{cases_eq}
use Rattle.std.proofs.lemmas.List.{set-get_or}
use Rattle.wf_frame.specs.declared.classes.Class.{Class}
use Rattle.wf_frame.specs.Classes.{class_number, all_classes}
use Rattle.wf_def_lists.specs.Table.{at}
use Rattle.wf_def_rotation.specs.Rotation.{Rotation, has_key, in_order, with_key_listed}
use Rattle.wf_def_world.specs.World.{World, rotation, is_live, with_rotation}
use Rattle.wf_def_world.specs.CanSend.{is_ready, is_debtor, is_to_list, with_listing_in, with_listings_in, with_listings_of}
use Rattle.wf_def_lists.specs.Lists.{on}
use Rattle.wf_law_runs.proofs.Deficits.Books.{Books, books, with_lists, books_with_rotation}
use Rattle.wf_rotation.specs.Rotas.{deficit_at, quantum_at}
use Rattle.wf_sched.specs.ClassRotas.{ClassRota, SchedValue, no_class_rota, class_rota, with_class_rota, deficit, quantum_of, class_rotation as rotation_of}
use Rattle.wf_sched_refines.specs.Standing.{SchedulerStandsFor, with_listed, with_listed_where}
use Rattle.wf_sched_refines.proofs.Once.{once_on, unlisted-on, on-listed, added-on_same, added-on_other}
use Rattle.wf_sched_refines.proofs.Changes.{each_with, sized_with}
use Rattle.wf_sched_refines.proofs.Readings.{lists_same}
use Rattle.wf_sched_refines.proofs.Stands.{Stands, standing_of, some_account, to_books, with_books, if_same, each_other_class, rotations_with}

-- a class with other lists
abbrev pub relisted : Rotation → ClassRota → ClassRota
relisted r t = record t { rotation = r }

-- the lists of one class are changed on both sides
pub stands_lists : (v : SchedValue) (b : Books) (c : Class) (r : Rotation) → Stands v b →
    ((y : ℕ) → on (in_order r) y ≤ 1) → ((y : ℕ) → 0 < on (in_order r) y → is_some (b.accounts y) ≡ true) →
    Stands (with_class_rota v c (relisted r (class_rota v c))) (with_lists b c r)
stands_lists v b c r h once live = record {
  sized = sized_with v c _ h.sized (h.sized.deficits c) (h.sized.quanta c);
  stations = h.stations;
  quantum = h.quantum;
  rotations = rotations_with v b c (relisted r (class_rota v c)) r h.sized.four h.rotations refl;
  deficits = λ y d. if_same (λ a. deficit v d y ≡ standing_of b y d a)
      (λ a. deficit (with_class_rota v c (relisted r (class_rota v c))) d y ≡ standing_of b y d a)
      (b.accounts y) (h.deficits y d)
      (λ a e. each_with (λ k t. deficit_at t.deficits y ≡ deficit v k y) v c _ h.sized.four (λ k. refl) refl d
      ∙ e);
  quanta = λ y d. if_same (λ a. quantum_of v d y ≡ b.config.quantum * a.weight)
      (λ a. quantum_of (with_class_rota v c (relisted r (class_rota v c))) d y ≡ b.config.quantum * a.weight)
      (b.accounts y) (h.quanta y d)
      (λ a e. each_with (λ k t. quantum_at t.quanta y ≡ quantum_of v k y) v c _ h.sized.four
      (λ k. refl) refl d ∙ e);
  once = each_other_class (λ z x. (y : ℕ) → on (in_order x) y ≤ 1) b.rotations c r (λ z _. h.once z) once;
  listed = each_other_class (λ z x. (y : ℕ) → 0 < on (in_order x) y → is_some (b.accounts y) ≡ true)
      b.rotations c r (λ z _. h.listed z) live;
  live = h.live;
}

-- ---- one class

module _ (v : SchedValue) (w : World) (s : ℕ) (c : Class) (h : SchedulerStandsFor v w) where
  add_on : (ready : Bool) (y : ℕ) → has_key (rotation w c) s ≡ false →
      on (in_order (with_key_listed ready (rotation w c) s)) y ≤ 1
  add_on ready y off = elim (cases_eq s y) [
    | inl e ↦ subst (λ (z : ℕ). on (in_order (with_key_listed ready (rotation w c) s)) z ≤ 1) e
        (omega (arith, added-on_same ready (rotation w c) s, unlisted-on (rotation w c) s off))
    | inr other ↦ omega (
      arith,
      added-on_other ready (rotation w c) s y other,
      once_on (in_order (rotation w c)) y (h.once c),
    )
  ]

  add_live : (ready : Bool) (y : ℕ) → is_live w s ≡ true →
      0 < on (in_order (with_key_listed ready (rotation w c) s)) y → is_live w y ≡ true
  add_live ready y is stands = elim (cases_eq s y) [
    | inl e ↦ subst (λ (z : ℕ). is_live w z ≡ true) e is
    | inr other ↦ h.listed y c (on-listed (rotation w c) y
        (omega (arith, added-on_other ready (rotation w c) s y other)))
  ]

  -- a station that was not listed is added
  added : (ready : Bool) → has_key (rotation w c) s ≡ false → is_live w s ≡ true →
      SchedulerStandsFor (with_class_rota v c
      (relisted (with_key_listed ready (rotation w c) s) (class_rota v c)))
      (with_rotation w c (with_key_listed ready (rotation w c) s))
  added ready off is = with_books _ _ _ (books_with_rotation w c (with_key_listed ready (rotation w c) s))
      (stands_lists v (books w) c (with_key_listed ready (rotation w c) s) (to_books v w h)
      (λ y. add_on ready y off)
      (λ y stands. some_account (at None w.stations y) ∙ add_live ready y is stands))

  -- setting a class to its own value changes nothing
  unchanged : SchedulerStandsFor (with_class_rota v c (class_rota v c)) w
  unchanged = subst (λ (ts : List ClassRota). SchedulerStandsFor (record v { classes = ts }) w)
      (sym (set-get_or v.classes (class_number c) no_class_rota)) h

  listed_by : (to_list ready here there : Bool) → (to_list ≡ true → is_live w s ≡ true) →
      has_key (rotation w c) s ≡ there → here ≡ there →
      SchedulerStandsFor (if to_list then with_class_rota v c
      (if here then class_rota v c else relisted (with_key_listed ready (rotation_of v c) s) (class_rota v c))
      else v)
      (if to_list && not there then with_rotation w c (with_key_listed ready (rotation w c) s) else w)
  listed_by false ready here there live on same = h
  listed_by true ready true true live on same = unchanged
  listed_by true ready false false live on same = subst
      (λ (r : Rotation). SchedulerStandsFor (with_class_rota v c
      (relisted (with_key_listed ready r s) (class_rota v c)))
      (with_rotation w c (with_key_listed ready (rotation w c) s)))
      (sym (h.rotations c)) (added ready on (live refl))
  listed_by true ready true false live on same = absurd (cc same)
  listed_by true ready false true live on same = absurd (cc same)

-- a station that belongs on a list is live, whether it is ready or a debtor
live_to_list : (w : World) (c : Class) (s : ℕ) → is_to_list w c s ≡ true → is_live w s ≡ true
live_to_list w c s is = go (is_live w s) _ _ _ is
  where
    go : (live ready pending low : Bool) → ((live && ready) || (pending && (live && low))) ≡ true →
        live ≡ true
    go true ready pending low e = refl
    go false ready true low e = absurd (cc e)
    go false ready false low e = absurd (cc e)

-- a class in which the station belongs on a list, or does not
pub list_where_stands : (v : SchedValue) (w : World) (s : ℕ) (c : Class) → SchedulerStandsFor v w →
    SchedulerStandsFor (if is_to_list w c s then with_listed (is_ready w c s) v s c else v)
    (with_listing_in w s c)
unfolding with_listing_in
list_where_stands v w s c h = listed_by v w s c h (is_to_list w c s) (is_ready w c s)
    (has_key (rotation_of v c) s) (has_key (rotation w c) s) (live_to_list w c s) refl (lists_same v w s c h)

-- the same with the values of both tests
list_by_stands : (v : SchedValue) (w : World) (s : ℕ) (c : Class) (to_list ready : Bool) →
    is_to_list w c s ≡ to_list → is_ready w c s ≡ ready → SchedulerStandsFor v w →
    SchedulerStandsFor (if to_list then with_listed ready v s c else v) (with_listing_in w s c)
list_by_stands v w s c to_list ready e k h = subst (λ (b : Bool).
    SchedulerStandsFor (if b then with_listed ready v s c else v) (with_listing_in w s c)) e
    (subst (λ (b : Bool). SchedulerStandsFor (if is_to_list w c s then with_listed b v s c else v)
    (with_listing_in w s c)) k (list_where_stands v w s c h))

pub list_stands : (v : SchedValue) (w : World) (s : ℕ) (c : Class) → SchedulerStandsFor v w →
    is_ready w c s ≡ true → SchedulerStandsFor (with_listed true v s c) (with_listing_in w s c)
list_stands v w s c h is =
    list_by_stands v w s c true true (ap (λ (b : Bool). b || is_debtor w c s) is) is h

pub debtor_stands : (v : SchedValue) (w : World) (s : ℕ) (c : Class) → SchedulerStandsFor v w →
    is_ready w c s ≡ false → is_debtor w c s ≡ true →
    SchedulerStandsFor (with_listed false v s c) (with_listing_in w s c)
debtor_stands v w s c h not_so is = list_by_stands v w s c true false
    (ap (λ (b : Bool). b || is_debtor w c s) not_so ∙ is) not_so h

pub idle_stands : (v : SchedValue) (w : World) (s : ℕ) (c : Class) → SchedulerStandsFor v w →
    is_to_list w c s ≡ false → SchedulerStandsFor v (with_listing_in w s c)
idle_stands v w s c h not_so = list_by_stands v w s c false (is_ready w c s) not_so refl h

-- ---- all classes

ready_if : (b : Bool) (w : World) (c : Class) (r : Rotation) (d : Class) (y : ℕ) →
    is_ready (if b then with_rotation w c r else w) d y ≡ is_ready w d y
unfolding with_rotation
ready_if true w c r d y = refl
ready_if false w c r d y = refl

debtor_if : (b : Bool) (w : World) (c : Class) (r : Rotation) (d : Class) (y : ℕ) →
    is_debtor (if b then with_rotation w c r else w) d y ≡ is_debtor w d y
unfolding with_rotation
debtor_if true w c r d y = refl
debtor_if false w c r d y = refl

-- readiness and debts do not depend on the lists
pub ready_same : (w : World) (s : ℕ) (c d : Class) (y : ℕ) →
    is_ready (with_listing_in w s c) d y ≡ is_ready w d y
unfolding with_listing_in
ready_same w s c d y = ready_if _ w c _ d y

pub debts_same : (w : World) (s : ℕ) (c d : Class) (y : ℕ) →
    is_debtor (with_listing_in w s c) d y ≡ is_debtor w d y
unfolding with_listing_in
debts_same w s c d y = debtor_if _ w c _ d y

to_list_same : (w : World) (s : ℕ) (c d : Class) (y : ℕ) →
    is_to_list (with_listing_in w s c) d y ≡ is_to_list w d y
to_list_same w s c d y = ap₂ (λ (a b : Bool). a || b) (ready_same w s c d y) (debts_same w s c d y)

pub list_all_stands : (v : SchedValue) (w : World) (s : ℕ) (cs : List Class) (to_list ready : Class → Bool) →
    ((c : Class) → to_list c ≡ is_to_list w c s) → ((c : Class) → ready c ≡ is_ready w c s) →
    SchedulerStandsFor v w → SchedulerStandsFor (with_listed_where to_list ready s cs v)
    (with_listings_in w s cs)
unfolding with_listings_in
list_all_stands v w s cs to_list ready same known h = go cs v w same known h
  where
    go : (cs : List Class) (v : SchedValue) (w : World) → ((c : Class) → to_list c ≡ is_to_list w c s) →
        ((c : Class) → ready c ≡ is_ready w c s) → SchedulerStandsFor v w →
        SchedulerStandsFor (with_listed_where to_list ready s cs v) (with_listings_in w s cs)
    go [] v w same known h = h
    go (c ∷ cs) v w same known h = go cs _ (with_listing_in w s c)
        (λ d. same d ∙ sym (to_list_same w s c d s)) (λ d. known d ∙ sym (ready_same w s c d s))
        (list_by_stands v w s c (to_list c) (ready c) (sym (same c)) (sym (known c)) h)

-- ---- at the end of a call

pub concerned_stands : (v : SchedValue) (w : World) (s : ℕ) (to_list ready : Class → Bool) →
    ((c : Class) → to_list c ≡ is_to_list w c s) → ((c : Class) → ready c ≡ is_ready w c s) →
    SchedulerStandsFor v w → SchedulerStandsFor (with_listed_where to_list ready s all_classes v)
    (with_listings_of w (Some s))
unfolding with_listings_of
concerned_stands v w s to_list ready same known h =
    list_all_stands v w s all_classes to_list ready same known h

pub unconcerned_stands : (v : SchedValue) (w : World) → SchedulerStandsFor v w →
    SchedulerStandsFor v (with_listings_of w None)
unfolding with_listings_of
unconcerned_stands v w h = h

-- ---- one more class

pub where_more : (v : SchedValue) (s : ℕ) (cs : List Class) (c : Class) (to_list ready : Class → Bool) →
    with_listed_where to_list ready s (cs ++ c ∷ []) v ≡ (if to_list c
    then with_listed (ready c) (with_listed_where to_list ready s cs v) s c
    else with_listed_where to_list ready s cs v)
where_more v s [] c to_list ready = refl
where_more v s (d ∷ ds) c to_list ready =
    where_more (if to_list d then with_listed (ready d) v s d else v) s ds c to_list ready
