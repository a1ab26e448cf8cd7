-- One more key of a pass: what a pass leaves, by induction on the keys that it passes.
use Rattle.std.proofs.Common.{◌≡◌, ℕ, ◌+◌, ◌-◌, ◌*◌, ◌<◌, ◌≤◌, min, Bool, true, false, cond, ltb, ◌&&◌, List, [], ◌∷◌, ◌++◌, length, get_or, take, drop, set, Option, Some, refl, sym, ap, ◌∙◌, subst, inl, inr, arith, length-append, append_assoc, length-set}
use Rattle.std.specs.Prelude.{ℤ, pos}
use Rattle.std.specs.List.{filter}
use Rattle.std.proofs.lemmas.Int.{ints}
use Rattle.std.proofs.lemmas.List.{append-nil, take-append-drop, take_more, drop_more, drop_all, get_or_append_left, get_or-append_right, get_or-set_same, get_or-set_other, set-get_or, set-set}
use Rattle.std.proofs.lemmas.List.Elements.{filter-append}
use Rattle.std.proofs.lemmas.Bool.{cases_eq, cases_lt, lt-ltb, le-ltb}
use Rattle.wf_def_rotation.specs.Rotation.{Rotation, no_keys, in_order, need_of}
use Rattle.wf_def_lists.specs.Lists.{on}
use Rattle.wf_rotation.specs.Lists.{AllLists, AreDisjoint, lists_at, side_of, with_side, keys_at, first_of, keys_behind}
use Rattle.wf_rotation.specs.Rotas.{Rotas, deficit_at, quantum_at, need_at, is_ready}
use Rattle.wf_rotation.specs.Pass.{raised, side_at, share_of, passed_first, left_alone, passed_olds, way, SharesAre, lists_after, HasPassed, passed_key, last_after, last_key, place_in}
use Rattle.wf_rotation.specs.declared.side.Side.{Side}
use Rattle.wf_rotation.specs.declared.side.Side.TheVariants.{New, Old}
use Rattle.wf_rotation.specs.declared.pass.Course.{Course}
use Rattle.wf_rotation.specs.declared.pass.Course.TheVariants.{Nobody, AtOnce, Later}
use Rattle.wf_rotation.specs.declared.pass.Share.{Share}
use Rattle.wf_law_rules.proofs.Lemmas.Counts.{on-nil, on-cons_same, on-cons_other, on-append}

-- a key if it is kept, and no key otherwise
abbrev pub kept : Bool → ℕ → List ℕ
kept b key = cond b (key ∷ []) []

-- the same for one rotation
abbrev pub passed : Rotation → Side → ℕ → Bool → Rotation
passed r side key stays =
    let off : Rotation = with_side r side (keys_behind (side_of r side)) in
    cond stays (with_side off Old (side_of off Old ++ key ∷ [])) off

pub passed_set : (all : List Rotation) (l : ℕ) (r : Rotation) (side : Side) (key : ℕ) (stays : Bool) →
    l < length all → passed_first (set all l r) l side key stays ≡ set all l (passed r side key stays)
passed_set all l r side key false low =
    let here : lists_at (set all l r) l ≡ r = get_or-set_same all l r no_keys low in
    rw here (set-set all l r _)
passed_set all l r side key true low =
    let here : lists_at (set all l r) l ≡ r = get_or-set_same all l r no_keys low in
    rw (
      here,
      set-set all l r (with_side r side (keys_behind (side_of r side))),
      get_or-set_same all l (with_side r side (keys_behind (side_of r side))) no_keys low,
    )
    (set-set all l _ _)

passed_old : (news ks fs : List ℕ) (key : ℕ) (b : Bool) →
    passed (record { new = news; old = key ∷ (ks ++ fs) }) Old key b
    ≡ record { new = news; old = ks ++ (fs ++ kept b key) }
passed_old news ks fs key true = rw (append_assoc ks fs (key ∷ [])) refl
passed_old news ks fs key false = rw (append-nil fs) refl

passed_new : (ns os : List ℕ) (key : ℕ) (b : Bool) →
    passed (record { new = key ∷ ns; old = os }) New key b ≡ record { new = ns; old = os ++ kept b key }
passed_new ns os key true = refl
passed_new ns os key false = rw (append-nil os) refl

filter_one : (stay : ℕ → Bool) (k : ℕ) → filter stay (k ∷ []) ≡ kept (stay k) k
filter_one stay k = go (stay k) refl
  where
    go : (b : Bool) → stay k ≡ b → filter stay (k ∷ []) ≡ kept b k
    go true is = rw is refl
    go false is = rw is refl

filter_more : (stay : ℕ → Bool) (xs : List ℕ) (i : ℕ) → i < length xs →
    filter stay (take (i + 1) xs) ≡ filter stay (take i xs) ++ kept (stay (get_or xs i 0)) (get_or xs i 0)
filter_more stay xs i low = ap (filter stay) (take_more xs i 0 low)
    ∙ filter-append stay (take i xs) (get_or xs i 0 ∷ [])
    ∙ ap (λ (ks : List ℕ). filter stay (take i xs) ++ ks) (filter_one stay (get_or xs i 0))

alone : (course : Course) (olds : List ℕ) (i : ℕ) → i < length (passed_olds course olds) →
    left_alone course olds ≡ []
alone Nobody olds i low = refl
alone AtOnce olds i low = absurd (omega arith)
alone (Later round place) olds i low = refl

module _ (course : Course) (r : Rotation) (stay : ℕ → Bool) (i : ℕ) (low : i < length (way course r)) where
  abbrev key : ℕ
  key = get_or (way course r) i 0

  early_key : i < length (passed_olds course r.old) →
      get_or (way course r) i 0 ≡ get_or (passed_olds course r.old) i 0
  early_key early = get_or_append_left (passed_olds course r.old) r.new 0 i early

  late_key : length (passed_olds course r.old) ≤ i →
      get_or (way course r) i 0 ≡ get_or r.new (i - length (passed_olds course r.old)) 0
  late_key late = get_or-append_right (passed_olds course r.old) r.new
      (length (passed_olds course r.old)) i 0 refl late

  early_lists : i < length (passed_olds course r.old) →
      lists_after course r stay i ≡ record {
        new = r.new;
        old =
            get_or (way course r) i 0 ∷ (drop (i + 1) (passed_olds course r.old)
            ++ filter stay (take i (way course r)));
      }
  early_lists early =
      let none : i - length (passed_olds course r.old) ≡ 0 = omega arith in
      rw (none, alone course r.old i early, drop_more (passed_olds course r.old) i 0 early, early_key early)
      refl

  late_lists : length (passed_olds course r.old) ≤ i →
      lists_after course r stay i ≡ record {
        new =
            get_or (way course r) i 0 ∷ drop (i - length (passed_olds course r.old) + 1) r.new;
        old =
            left_alone course r.old ++ filter stay (take i (way course r));
      }
  late_lists late =
      let there : i - length (passed_olds course r.old) < length r.new =
      omega (arith, length-append (passed_olds course r.old) r.new) in
      rw (
        drop_more r.new (i - length (passed_olds course r.old)) 0 there,
        late_key late,
        drop_all i (passed_olds course r.old) late,
      ) refl

  early_side : i < length (passed_olds course r.old) → side_at (length (passed_olds course r.old)) i ≡ Old
  early_side early = rw (lt-ltb i (length (passed_olds course r.old)) early) refl

  late_side : length (passed_olds course r.old) ≤ i → side_at (length (passed_olds course r.old)) i ≡ New
  late_side late = rw (le-ltb i (length (passed_olds course r.old)) late) refl

  pub first_after : first_of (side_of (lists_after course r stay i)
      (side_at (length (passed_olds course r.old)) i)) ≡ Some (get_or (way course r) i 0)
  first_after = elim (cases_lt i (length (passed_olds course r.old))) [
    | inl early ↦ ap (λ (t : Side). first_of (side_of (lists_after course r stay i) t)) (early_side early)
        ∙ ap (λ (x : Rotation). first_of (side_of x Old)) (early_lists early)
    | inr late ↦ ap (λ (t : Side). first_of (side_of (lists_after course r stay i) t)) (late_side late)
        ∙ ap (λ (x : Rotation). first_of (side_of x New)) (late_lists late)
  ]

  early_next : i < length (passed_olds course r.old) →
      record {
        new = r.new;
        old = drop (i + 1) (passed_olds course r.old)
            ++ (filter stay (take i (way course r)) ++ kept (stay (get_or (way course r) i 0))
            (get_or (way course r) i 0));
      } ≡ lists_after course r stay (i + 1)
  early_next early =
      let none : i + 1 - length (passed_olds course r.old) ≡ 0 = omega arith in
      rw (none, alone course r.old i early, filter_more stay (way course r) i low) refl

  late_next : length (passed_olds course r.old) ≤ i →
      record {
        new = drop (i - length (passed_olds course r.old) + 1) r.new;
        old =
            (left_alone course r.old ++ filter stay (take i (way course r)))
            ++ kept (stay (get_or (way course r) i 0)) (get_or (way course r) i 0);
      }
      ≡ lists_after course r stay (i + 1)
  late_next late =
      let next : i - length (passed_olds course r.old) + 1 ≡ i + 1 - length (passed_olds course r.old) =
      omega arith in
      rw (
        next,
        drop_all (i + 1) (passed_olds course r.old) (omega arith),
        filter_more stay (way course r) i low,
        append_assoc (left_alone course r.old)
            (filter stay (take i (way course r))) (kept (stay (get_or (way course r) i 0))
            (get_or (way course r) i 0)),
      ) refl

  pub passed_after : passed (lists_after course r stay i) (side_at (length (passed_olds course r.old)) i)
      (get_or (way course r) i 0) (stay (get_or (way course r) i 0)) ≡ lists_after course r stay (i + 1)
  passed_after = elim (cases_lt i (length (passed_olds course r.old))) [
    | inl early ↦ ap (λ (t : Side). passed (lists_after course r stay i) t (get_or (way course r) i 0)
        (stay (get_or (way course r) i 0))) (early_side early)
        ∙ ap (λ (x : Rotation). passed x Old (get_or (way course r) i 0) (stay (get_or (way course r) i 0)))
        (early_lists early)
        ∙ passed_old r.new (drop (i + 1) (passed_olds course r.old)) (filter stay (take i (way course r)))
        (get_or (way course r) i 0) (stay (get_or (way course r) i 0))
        ∙ early_next early
    | inr late ↦ ap (λ (t : Side). passed (lists_after course r stay i) t (get_or (way course r) i 0)
        (stay (get_or (way course r) i 0))) (late_side late)
        ∙ ap (λ (x : Rotation). passed x New (get_or (way course r) i 0) (stay (get_or (way course r) i 0)))
        (late_lists late)
        ∙ passed_new (drop (i - length (passed_olds course r.old) + 1) r.new)
        (left_alone course r.old ++ filter stay (take i (way course r))) (get_or (way course r) i 0)
        (stay (get_or (way course r) i 0))
        ∙ late_next late
  ]

pub raised-none : (d : ℤ) (q n : ℕ) → n ≡ 0 → raised d q n ≡ d
raised-none d q n none =
    let least : min n (need_of q d) ≡ 0 = omega arith in
    rw least (omega (arith, ints))

pub on_take : (xs : List ℕ) (n k : ℕ) → on (take n xs) k ≤ on xs k
on_take xs n k = omega (
  arith,
  ap (λ (ys : List ℕ). on ys k) (take-append-drop n xs),
  on-append (take n xs) (drop n xs) k,
)

pub on_more : (xs : List ℕ) (i : ℕ) → i < length xs → (k : ℕ) →
    on (take (i + 1) xs) k ≡ on (take i xs) k + on (get_or xs i 0 ∷ []) k
on_more xs i low k = ap (λ (ys : List ℕ). on ys k) (take_more xs i 0 low)
    ∙ on-append (take i xs) (get_or xs i 0 ∷ []) k

-- a key at a place of a list of distinct keys does not stand before it
on_before : (xs : List ℕ) (i : ℕ) → ((k : ℕ) → on xs k ≤ 1) → i < length xs →
    on (take i xs) (get_or xs i 0) ≡ 0
on_before xs i once low = omega (
  arith,
  once (get_or xs i 0),
  on_more xs i low (get_or xs i 0),
  on-cons_same (get_or xs i 0) [],
  on-nil (get_or xs i 0),
  on_take xs (i + 1) (get_or xs i 0),
)

-- one more key of the way has got its share
module _ (course : Course) (start : Rotas) (ready : List Bool) (list : ℕ) (visits : ℕ → ℕ) (stay : ℕ → Bool)
    (i : ℕ) (v : Rotas) (shares : SharesAre course start ready list visits stay)
    (ok : HasPassed course start list visits stay i v)
    (there : list < length start.lists) (low : i < length (way course (lists_at start.lists list)))
    (once : (k : ℕ) → on (way course (lists_at start.lists list)) k ≤ 1) where
  abbrev r : Rotation
  r = lists_at start.lists list

  abbrev y : ℕ
  y = get_or (way course r) i 0

  abbrev side : Side
  side = side_at (length (passed_olds course r.old)) i

  same_deficit : deficit_at v.deficits y ≡ deficit_at start.deficits y
  same_deficit = ok.deficits y ∙ raised-none (deficit_at start.deficits y) (quantum_at start.quanta y)
      (on (take i (way course r)) y * visits y) (rw (on_before (way course r) i once low) (omega arith))

  same_quantum : quantum_at v.quanta y ≡ quantum_at start.quanta y
  same_quantum = ap (λ (qs : List ℕ). quantum_at qs y) ok.quanta

  same_need : need_at v y ≡ need_at start y
  same_need = ap (λ (q : ℕ). need_of q (deficit_at v.deficits y)) same_quantum
      ∙ ap (need_of (quantum_at start.quanta y)) same_deficit

  pub same_share : share_of course side i (need_at v y) (is_ready ready y)
      ≡ record { visits = visits y; stays = stay y }
  same_share = ap (λ (n : ℕ). share_of course side i n (is_ready ready y)) same_need ∙ shares i low

  abbrev next : Rotas
  next = record {
    lists = passed_first v.lists list side y (stay y);
    deficits = set v.deficits y (raised (deficit_at v.deficits y) (quantum_at v.quanta y) (visits y));
    quanta = v.quanta;
  }

  -- the first key of its list
  pub key_first : first_of (keys_at v.lists list side) ≡ Some y
  key_first = ap (λ (ls : List Rotation). first_of (keys_at ls list side)) ok.lists
      ∙ ap (λ (x : Rotation). first_of (side_of x side))
      (get_or-set_same start.lists list (lists_after course r stay i) no_keys there)
      ∙ first_after course r stay i low

  next_lists : passed_first v.lists list side y (stay y)
      ≡ set start.lists list (lists_after course r stay (i + 1))
  next_lists = ap (λ (ls : List Rotation). passed_first ls list side y (stay y)) ok.lists
      ∙ passed_set start.lists list (lists_after course r stay i) side y (stay y) there
      ∙ ap (set start.lists list) (passed_after course r stay i low)

  module _ (in_keys : get_or (way course (lists_at start.lists list)) i 0 < length v.deficits) where
    next_deficit : (k : ℕ) → deficit_at (set v.deficits y
        (raised (deficit_at v.deficits y) (quantum_at v.quanta y) (visits y))) k
        ≡ raised (deficit_at start.deficits k) (quantum_at start.quanta k)
        (on (take (i + 1) (way course r)) k * visits k)
    next_deficit k = elim (cases_eq k y) [
      | inl e ↦
          let one : on (take (i + 1) (way course r)) y ≡ 1 =
          omega (
            arith,
            on_before (way course r) i once low,
            on_more (way course r) i low y,
            on-cons_same y [],
            on-nil y,
          ) in
          let P : ℕ → Type 0 = λ (m : ℕ). deficit_at (set v.deficits y
          (raised (deficit_at v.deficits y) (quantum_at v.quanta y) (visits y))) m
          ≡ raised (deficit_at start.deficits m) (quantum_at start.quanta m)
          (on (take (i + 1) (way course r)) m * visits m) in
          subst P (sym e) (get_or-set_same v.deficits y _ (pos 0) in_keys
          ∙ ap (λ (d : ℤ). raised d (quantum_at v.quanta y) (visits y)) same_deficit
          ∙ ap (λ (q : ℕ). raised (deficit_at start.deficits y) q (visits y)) same_quantum
          ∙ ap (λ (n : ℕ). raised (deficit_at start.deficits y) (quantum_at start.quanta y) n)
          (let once_more : visits y ≡ on (take (i + 1) (way course r)) y * visits y =
          rw one (omega arith) in once_more))
      | inr other ↦ get_or-set_other v.deficits y k _ (pos 0) other ∙ ok.deficits k
          ∙ ap (λ (n : ℕ). raised (deficit_at start.deficits k) (quantum_at start.quanta k) (n * visits k))
          (omega (
            arith,
            on_more (way course r) i low k,
            on-cons_other y k [] (λ e. other (sym e)),
            on-nil k,
          ))
    ]

    next_passed : HasPassed course start list visits stay (i + 1) next
    next_passed = record {
      lists = next_lists;
      deficits = next_deficit;
      keys =
          length-set v.deficits y _ ∙ ok.keys;
      quanta = ok.quanta;
    }

    pub pass_more : HasPassed course start list visits stay (i + 1)
        (passed_key v course list side i (is_ready ready y) y)
    pass_more =
        let P : Share → Type 0 = λ (s : Share). HasPassed course start list visits stay (i + 1)
        (record {
          lists = passed_first v.lists list side y s.stays;
          deficits =
              set v.deficits y (raised (deficit_at v.deficits y) (quantum_at v.quanta y) s.visits);
          quanta =
              v.quanta;
        }) in
        subst P (sym same_share) next_passed

way_on : (course : Course) (x : Rotation) (k : ℕ) → on (way course x) k ≤ on (in_order x) k
way_on Nobody x k = omega arith
way_on AtOnce x k = omega (arith, on-append x.old x.new k)
way_on (Later round place) x k = omega arith

-- no key stands twice on the way
pub way_once : (course : Course) (q : AllLists) (l : ℕ) → AreDisjoint q → (k : ℕ) →
    on (way course (lists_at q.lists l)) k ≤ 1
way_once course q l apart k = omega (arith, way_on course (lists_at q.lists l) k, apart.once l k)

pub way_below : (course : Course) (q : AllLists) (l i : ℕ) → AreDisjoint q →
    i < length (way course (lists_at q.lists l)) → get_or (way course (lists_at q.lists l)) i 0 < q.keys
way_below course q l i apart low = apart.below l (get_or (way course (lists_at q.lists l)) i 0)
    (omega (
      arith,
      way_on course (lists_at q.lists l) (get_or (way course (lists_at q.lists l)) i 0),
      on_more (way course (lists_at q.lists l)) i low (get_or (way course (lists_at q.lists l)) i 0),
      on-cons_same (get_or (way course (lists_at q.lists l)) i 0) [],
      on_take (way course (lists_at q.lists l)) (i + 1) (get_or (way course (lists_at q.lists l)) i 0),
    ))

last_push : (ks : List ℕ) (k : ℕ) → last_key (ks ++ k ∷ []) ≡ Some k
last_push [] k = refl
last_push (x ∷ []) k = refl
last_push (x ∷ y ∷ ks) k = last_push (y ∷ ks) k

last_kept : (ks : List ℕ) (k : ℕ) (b : Bool) → cond b (Some k) (last_key ks) ≡ last_key (ks ++ kept b k)
last_kept ks k true = sym (last_push ks k)
last_kept ks k false = sym (ap last_key (append-nil ks))

and_true : (b : Bool) → (b && true) ≡ b
and_true true = refl
and_true false = refl

and_false : (b : Bool) → (b && false) ≡ false
and_false true = refl
and_false false = refl

-- the last key that stays before the winner, after one more key
pub last_more : (stay : ℕ → Bool) (xs : List ℕ) (i place : ℕ) (last : Option ℕ) → i < length xs →
    last ≡ last_key (filter stay (take (min i place) xs)) →
    cond (stay (get_or xs i 0) && ltb i place) (Some (get_or xs i 0)) last
    ≡ last_key (filter stay (take (min (i + 1) place) xs))
last_more stay xs i place last low is = elim (cases_lt i place) [
  | inl before ↦
      let here : min i place ≡ i = omega arith in
      let next : min (i + 1) place ≡ i + 1 = omega arith in
      rw (lt-ltb i place before, and_true (stay (get_or xs i 0)), is, here, next, filter_more stay xs i low)
      (last_kept (filter stay (take i xs)) (get_or xs i 0) (stay (get_or xs i 0)))
  | inr after ↦
      let here : min i place ≡ place = omega arith in
      let next : min (i + 1) place ≡ place = omega arith in
      rw (le-ltb i place after, and_false (stay (get_or xs i 0)), is, here, next) refl
]

none_passed : (course : Course) (x : Rotation) (stay : ℕ → Bool) → lists_after course x stay 0 ≡ x
none_passed course x stay =
    let none : 0 - length (passed_olds course x.old) ≡ 0 = omega arith in
    rw none (ap (λ (olds : List ℕ). let y : Rotation = record { new = x.new; old = olds } in y) (olds course))
  where
    olds : (course : Course) → left_alone course x.old ++ (passed_olds course x.old ++ []) ≡ x.old
    olds Nobody = append-nil x.old
    olds AtOnce = append-nil x.old
    olds (Later round place) = append-nil x.old

pub pass_none : (course : Course) (start : Rotas) (list : ℕ) (visits : ℕ → ℕ) (stay : ℕ → Bool) →
    HasPassed course start list visits stay 0 start
pass_none course start list visits stay = record {
  lists = sym (ap (set start.lists list) (none_passed course (lists_at start.lists list) stay)
      ∙ set-get_or start.lists list no_keys);
  deficits = λ k. sym (raised-none (deficit_at start.deficits k) (quantum_at start.quanta k)
      (on [] k * visits k) (rw (on-nil k) (omega arith)));
  keys = refl;
  quanta = refl;
}

-- a visit of the loop
module _ (course : Course) (start : Rotas) (ready : List Bool) (list : ℕ) (visits : ℕ → ℕ) (stay : ℕ → Bool)
    (i : ℕ) (v : Rotas) (visit_side : Side) (shares : SharesAre course start ready list visits stay)
    (ok : HasPassed course start list visits stay i v)
    (apart : AreDisjoint (record { lists = start.lists; keys = length start.deficits }))
    (there : list < length start.lists) (low : i < length (way course (lists_at start.lists list)))
    (at : visit_side ≡ side_at (length (passed_olds course (lists_at start.lists list).old)) i) where
  once : (k : ℕ) → on (way course (lists_at start.lists list)) k ≤ 1
  once = way_once course (record { lists = start.lists; keys = length start.deficits }) list apart

  abbrev now : ℕ
  now = get_or (way course (lists_at start.lists list)) i 0

  pub visit_first : first_of (keys_at v.lists list visit_side)
      ≡ Some (get_or (way course (lists_at start.lists list)) i 0)
  visit_first = ap (λ (s : Side). first_of (keys_at v.lists list s)) at
      ∙ key_first course start ready list visits stay i v shares ok there low once

  pub visit_passed : (v' : Rotas) → ((key : ℕ) → first_of (keys_at v.lists list visit_side) ≡ Some key →
      v' ≡ passed_key v course list visit_side i (is_ready ready key) key) →
      HasPassed course start list visits stay (i + 1) v'
  visit_passed v' moved = subst (HasPassed course start list visits stay (i + 1))
      (sym (moved now visit_first ∙ ap (λ (s : Side). passed_key v course list s i (is_ready ready now) now)
      at))
      (pass_more course start ready list visits stay i v shares ok there low once
      (omega (
        arith,
        ok.keys,
        way_below course (record {
          lists = start.lists;
          keys =
              length start.deficits;
        }) list i apart low,
      )))

  pub visit_last : (last last' : Option ℕ) → last
      ≡ last_key (filter stay (take (min i (place_in course)) (way course (lists_at start.lists list)))) →
      ((key : ℕ) → first_of (keys_at v.lists list visit_side) ≡ Some key →
      last' ≡ last_after course visit_side i (need_at v key) (is_ready ready key) key last) →
      last' ≡ last_key (filter stay (take (min (i + 1) (place_in course))
      (way course (lists_at start.lists list))))
  visit_last last last' is moved = moved now visit_first
      ∙ ap (λ (s : Side). last_after course s i (need_at v now) (is_ready ready now) now last) at
      ∙ ap (λ (s : Share). cond (s.stays && ltb i (place_in course)) (Some now) last)
      (same_share course start ready list visits stay i v shares ok there low once)
      ∙ last_more stay (way course (lists_at start.lists list)) i (place_in course) last low is
