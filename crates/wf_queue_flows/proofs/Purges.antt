-- The queues of one TID are purged, the least first, by induction on the queue numbers.
use Rattle.std.proofs.Common.{◌≡◌, ℕ, zero, suc, ◌+◌, ◌-◌, ◌*◌, ◌<◌, ◌≤◌, Bool, true, false, not, List, [], ◌∷◌, ◌++◌, length, map, set, refl, sym, ap, ◌∙◌, subst, inl, inr, arith, eq-eqb, length-set, length-append}
use Rattle.std.specs.Prelude.{◌==◌, ◌||◌, nat_le}
use Rattle.std.specs.List.{filter}
use Rattle.std.proofs.lemmas.List.{append-nil, set-get_or, map-set, get_or-map, length-map, get_or-set_same, get_or-set_other, ext_get_or}
use Rattle.std.proofs.lemmas.List.Elements.{filter-append}
use Rattle.std.proofs.lemmas.Bool.{cases_eq, cases_lt, cases_Bool, ne_eqb, le-leb, lt-leb}
use Rattle.wf_frame.specs.declared.classes.Cause.{Cause}
use Rattle.wf_frame.specs.declared.classes.Cause.TheVariants.{Left}
use Rattle.wf_def_codel.specs.Codel.{Codel, renewed}
use Rattle.wf_def_lists.specs.Table.{has, count_from, upto}
use Rattle.wf_def_rotation.specs.Rotation.{Rotation, no_keys, has_key, in_order, without_key}
use Rattle.wf_def_lists.specs.Lists.{on}
use Rattle.wf_rotation.specs.Lists.{AreDisjoint, lists_at, on_at}
use Rattle.wf_law_rules.proofs.Lemmas.Counts.{on-nil, on-first, on-cons_same, on-cons_other, on-append, on-filter_out, listed-none}
use Rattle.wf_law_rules.proofs.Lemmas.Counts.{on_order-none}
use Rattle.wf_queue_flows.specs.Backlog.{BacklogValue, after_emptying}
use Rattle.wf_queue_flows.specs.Flows.{FlowsValue, tids, tid_rotation, is_listed, queues, queues_of, all_emptied, after_purge}
use Rattle.wf_queue_flows.specs.Kept.{AreFlowsKept, rest_from, without_queue, purged_below}
use Rattle.wf_queue_flows.proofs.Owners.{on-listed}
use Rattle.wf_queue_flows.proofs.Leaves.{at-without}

-- ---- filters

-- two tests agree on the keys of the list
filter_agree : (p q : ℕ → Bool) (xs : List ℕ) → ((x : ℕ) → 0 < on xs x → p x ≡ q x) →
    filter p xs ≡ filter q xs
filter_agree p q [] same = refl
filter_agree p q (x ∷ xs) same =
    let here : p x ≡ q x = same x (omega (arith, on-cons_same x xs)) in
    let rest : filter p xs ≡ filter q xs = filter_agree p q xs
    (λ y stands. same y (omega (arith, on-first x y xs))) in
    elim (cases_Bool (q x)) [
      | inl holds ↦ rw (here, holds) (ap (λ (t : List ℕ). x ∷ t) rest)
      | inr fails ↦ rw (here, fails) rest
    ]

filter_all : (xs : List ℕ) → filter (λ x. true) xs ≡ xs
filter_all [] = refl
filter_all (x ∷ xs) = ap (λ (t : List ℕ). x ∷ t) (filter_all xs)

filter_no : (xs : List ℕ) → filter (λ x. false) xs ≡ []
filter_no [] = refl
filter_no (x ∷ xs) = filter_no xs

has-filter : (p : ℕ → Bool) (xs : List ℕ) (k : ℕ) → p k ≡ true → has (filter p xs) k ≡ has xs k
has-filter p [] k is = refl
has-filter p (x ∷ xs) k is = elim (cases_Bool (p x)) [
  | inl holds ↦ rw holds (ap (λ (b : Bool). (x == k) || b) (has-filter p xs k is))
  | inr fails ↦
      let other : x ≡ k → ⊥ = λ e. absurd (cc (ap p e)) in
      rw (fails, ne_eqb x k other) (has-filter p xs k is)
]

-- the keys from k on without k
next_rest : (k : ℕ) (xs : List ℕ) → filter (λ y. not (y == k)) (filter (nat_le k) xs)
    ≡ filter (nat_le (suc k)) xs
next_rest k [] = refl
next_rest k (x ∷ xs) = elim (cases_lt x k) [
  | inl low ↦ rw (lt-leb k x low, lt-leb (suc k) x (omega arith)) (next_rest k xs)
  | inr high ↦ elim (cases_eq x k) [
    | inl e ↦ rw (le-leb k x high, eq-eqb x k e, lt-leb (suc k) x (omega arith)) (next_rest k xs)
    | inr other ↦ rw (le-leb k x high, ne_eqb x k other, le-leb (suc k) x (omega arith))
        (ap (λ (t : List ℕ). x ∷ t) (next_rest k xs))
  ]
]

-- a key that is not on the list
without_off : (k : ℕ) (xs : List ℕ) → on xs k ≡ 0 → filter (λ y. not (y == k)) xs ≡ xs
without_off k xs off = filter_agree (λ y. not (y == k)) (λ y. true) xs
    (λ y stands. go y (λ e. omega (arith, ap (on xs) e))) ∙ filter_all xs
  where
    go : (y : ℕ) → (y ≡ k → ⊥) → not (y == k) ≡ true
    go y other = rw (ne_eqb y k other) refl

same_rest : (k : ℕ) (xs : List ℕ) → on xs k ≡ 0 → filter (nat_le k) xs ≡ filter (nat_le (suc k)) xs
same_rest k xs off = filter_agree (nat_le k) (nat_le (suc k)) xs (λ y stands.
    let other : y ≡ k → ⊥ = λ e. omega (arith, ap (on xs) e) in
    elim (cases_lt y k) [
      | inl low ↦ lt-leb k y low ∙ sym (lt-leb (suc k) y (omega arith))
      | inr high ↦ le-leb k y high ∙ sym (le-leb (suc k) y (omega arith))
    ])

rest_all : (xs : List ℕ) → filter (nat_le 0) xs ≡ xs
rest_all xs = filter_agree (nat_le 0) (λ y. true) xs (λ y stands. le-leb 0 y (omega arith)) ∙ filter_all xs

rest_none : (n : ℕ) (xs : List ℕ) → ((y : ℕ) → 0 < on xs y → y < n) → filter (nat_le n) xs ≡ []
rest_none n xs low = filter_agree (nat_le n) (λ y. false) xs (λ y stands. lt-leb n y (low y stands))
    ∙ filter_no xs

count_from-more : (from n : ℕ) → count_from from (suc n) ≡ count_from from n ++ (from + n) ∷ []
count_from-more from zero = (let e : from + 0 ≡ from = omega arith in rw e refl)
count_from-more from (suc n) =
    let e : from + suc n ≡ suc from + n = omega arith in
    rw e (ap (λ (t : List ℕ). from ∷ t) (count_from-more (suc from) n))

pub upto-more : (p : ℕ → Bool) (k : ℕ) → filter p (upto (suc k)) ≡ filter p (upto k) ++ filter p (k ∷ [])
upto-more p k =
    let e : 0 + k ≡ k = omega arith in
    ap (filter p) (count_from-more 0 k ∙ ap (λ (m : ℕ). upto k ++ m ∷ []) e)
    ∙ filter-append p (upto k) (k ∷ [])

pub one_passes : (p : ℕ → Bool) (k : ℕ) → p k ≡ true → filter p (k ∷ []) ≡ k ∷ []
one_passes p k holds = rw holds refl

pub one_fails : (p : ℕ → Bool) (k : ℕ) → p k ≡ false → filter p (k ∷ []) ≡ []
one_fails p k fails = rw fails refl

module _ (cause : Cause) (codel : Codel → Codel) where
  emptied-append : (b : BacklogValue) (xs ys : List ℕ) →
      all_emptied cause codel b (xs ++ ys) ≡ all_emptied cause codel (all_emptied cause codel b xs) ys
  unfolding all_emptied
  emptied-append b [] ys = refl
  emptied-append b (x ∷ xs) ys = emptied-append (after_emptying cause codel b x) xs ys

  -- of the queues below k + 1 that pass, the last is queue k
  module _ (b : BacklogValue) (p : ℕ → Bool) (k : ℕ) where
    pub emptied-next : p k ≡ true →
        after_emptying cause codel (all_emptied cause codel b (filter p (upto k))) k
        ≡ all_emptied cause codel b (filter p (upto (suc k)))
    unfolding all_emptied
    emptied-next holds =
        sym (ap (all_emptied cause codel b) (upto-more p k
        ∙ ap (λ (t : List ℕ). filter p (upto k) ++ t) (one_passes p k holds))
        ∙ emptied-append b (filter p (upto k)) (k ∷ []))

    pub emptied-same : p k ≡ false →
        all_emptied cause codel b (filter p (upto k)) ≡ all_emptied cause codel b (filter p (upto (suc k)))
    emptied-same fails =
        ap (all_emptied cause codel b) (sym (upto-more p k
        ∙ ap (λ (t : List ℕ). filter p (upto k) ++ t) (one_fails p k fails)
        ∙ append-nil (filter p (upto k))))

-- ---- the walk

module _ (v : FlowsValue) (i : ℕ) (apart : AreDisjoint
    (record { lists = v.rotas.lists; keys = v.flows + 8 * v.stations }))
    (low : i < length v.rotas.lists) where
  abbrev with_lists : BacklogValue → List Rotation → FlowsValue
  with_lists b all = record v { backlog = b; rotas = record v.rotas { lists = all } }

  rest_0 : (r : Rotation) → rest_from 0 r ≡ r
  rest_0 r = ap (λ (xs : List ℕ). let s : Rotation = record { new = xs; old = filter (nat_le 0) r.old } in s)
      (rest_all r.new) ∙ ap (λ (xs : List ℕ). let s : Rotation = record { new = r.new; old = xs } in s)
      (rest_all r.old)

  pub purged-first : v ≡ purged_below v i 0
  unfolding purged_below all_emptied
  purged-first = sym (ap (with_lists v.backlog)
      (ap (set v.rotas.lists i) (rest_0 (tid_rotation v i)) ∙ set-get_or v.rotas.lists i no_keys))

  rest_rotation : (k : ℕ) → lists_at (set v.rotas.lists i (rest_from k (tid_rotation v i))) i
      ≡ rest_from k (tid_rotation v i)
  rest_rotation k = get_or-set_same v.rotas.lists i (rest_from k (tid_rotation v i)) no_keys low

  has_rest : (k m : ℕ) (r : Rotation) → k ≤ m → has_key (rest_from k r) m ≡ has_key r m
  has_rest k m r past =
      let is : nat_le k m ≡ true = le-leb k m past in
      rw (has-filter (nat_le k) r.new m is, has-filter (nat_le k) r.old m is) refl

  has_none : (k m : ℕ) (r : Rotation) → m < k → has_key (rest_from k r) m ≡ false
  has_none k m r low = listed-none (rest_from k r) m (omega (
    arith,
    on-append (rest_from k r).old (rest_from k r).new m,
    on-filter_out (nat_le k) r.new m (lt-leb k m low),
    on-filter_out (nat_le k) r.old m (lt-leb k m low),
  ))

  off : (j k : ℕ) → (j ≡ i → ⊥) → is_listed v i k ≡ true → on_at v.rotas.lists j k ≡ 0
  off j k other is = elim (cases_lt 0 (on_at v.rotas.lists j k)) [
    | inl some ↦ absurd (other (apart.one_list j i k some (on-listed v i k is)))
    | inr few ↦ omega arith
  ]

  abbrev without : ℕ → Rotation → Rotation
  without k r = without_key r k

  without_same : (k : ℕ) (r : Rotation) → on (in_order r) k ≡ 0 → without k r ≡ r
  without_same k r none =
      ap (λ (xs : List ℕ). let s : Rotation = record { new = xs; old = filter (λ y. not (y == k)) r.old } in
      s) (without_off k r.new (omega (arith, on-append r.old r.new k)))
      ∙ ap (λ (xs : List ℕ). let s : Rotation = record { new = r.new; old = xs } in s)
      (without_off k r.old (omega (arith, on-append r.old r.new k)))

  next_rotation : (k : ℕ) (r : Rotation) → without k (rest_from k r) ≡ rest_from (suc k) r
  next_rotation k r =
      ap (λ (xs : List ℕ). let s : Rotation = record {
        new = xs;
        old =
            filter (λ y. not (y == k)) (filter (nat_le k) r.old);
      } in s) (next_rest k r.new)
      ∙ ap (λ (xs : List ℕ). let s : Rotation = record { new = filter (nat_le (suc k)) r.new; old = xs } in s)
      (next_rest k r.old)

  same_rotation : (k : ℕ) (r : Rotation) → on (in_order r) k ≡ 0 → rest_from k r ≡ rest_from (suc k) r
  same_rotation k r none =
      ap (λ (xs : List ℕ). let s : Rotation = record { new = xs; old = filter (nat_le k) r.old } in s)
      (same_rest k r.new (omega (arith, on-append r.old r.new k)))
      ∙ ap (λ (xs : List ℕ). let s : Rotation = record { new = filter (nat_le (suc k)) r.new; old = xs } in s)
      (same_rest k r.old (omega (arith, on-append r.old r.new k)))

  abbrev last : ℕ → Rotation
  last k = rest_from (suc k) (tid_rotation v i)

  -- the key leaves the one list that has it
  lists-next : (k : ℕ) → is_listed v i k ≡ true →
      map (without k) (set v.rotas.lists i (rest_from k (tid_rotation v i)))
      ≡ set v.rotas.lists i (rest_from (suc k) (tid_rotation v i))
  lists-next k is =
      map-set (without k) v.rotas.lists i (rest_from k (tid_rotation v i))
      ∙ ap (set (map (without k) v.rotas.lists) i) (next_rotation k (tid_rotation v i))
      ∙ ext_get_or no_keys (set (map (without k) v.rotas.lists) i (last k))
      (set v.rotas.lists i (last k)) long (λ j within. elim (cases_eq j i) [
        | inl e ↦ ap (λ (m : ℕ). lists_at (set (map (without k) v.rotas.lists) i (last k)) m) e
            ∙ get_or-set_same (map (without k) v.rotas.lists) i (last k) no_keys
            (omega (arith, length-map v.rotas.lists (without k)))
            ∙ sym (ap (λ (m : ℕ). lists_at (set v.rotas.lists i (last k)) m) e
            ∙ get_or-set_same v.rotas.lists i (last k) no_keys low)
        | inr other ↦ get_or-set_other (map (without k) v.rotas.lists) i j (last k) no_keys other
            ∙ get_or-map (without k) v.rotas.lists j no_keys no_keys
            (omega (
              arith,
              length-set (map (without k) v.rotas.lists) i (last k),
              length-map v.rotas.lists (without k),
            ))
            ∙ without_same k (lists_at v.rotas.lists j) (off j k other is)
            ∙ sym (get_or-set_other v.rotas.lists i j (last k) no_keys other)
      ])
    where
      long : length (set (map (without k) v.rotas.lists) i (last k)) ≡ length (set v.rotas.lists i (last k))
      long = omega (
        arith,
        length-set (map (without k) v.rotas.lists) i (last k),
        length-map v.rotas.lists (without k),
        length-set v.rotas.lists i (last k),
      )

  next_gone : (k : ℕ) → is_listed v i k ≡ true →
      without_queue (purged_below v i k) k ≡ purged_below v i (suc k)
  unfolding purged_below
  next_gone k holds =
      ap (λ (b : BacklogValue). with_lists b (map (without k)
      (set v.rotas.lists i (rest_from k (tid_rotation v i))))) (emptied-next Left renewed v.backlog (is_listed v i) k holds)
      ∙ ap (with_lists (all_emptied Left renewed v.backlog (filter (is_listed v i) (upto (suc k))))) (lists-next k holds)

  next_same : (k : ℕ) → is_listed v i k ≡ false → purged_below v i k ≡ purged_below v i (suc k)
  unfolding purged_below
  next_same k fails =
      ap (λ (b : BacklogValue). with_lists b (set v.rotas.lists i (rest_from k (tid_rotation v i))))
      (emptied-same Left renewed v.backlog (is_listed v i) k fails)
      ∙ ap (λ (r : Rotation). with_lists (all_emptied Left renewed v.backlog (filter (is_listed v i) (upto (suc k))))
      (set v.rotas.lists i r)) (same_rotation k (tid_rotation v i)
      (on_order-none (tid_rotation v i) k fails))

  -- queues that the TID does not list are passed over
  purged-skip : (k d : ℕ) → ((m : ℕ) → k ≤ m → m < k + d → is_listed v i m ≡ false) →
      purged_below v i k ≡ purged_below v i (k + d)
  purged-skip k zero none = (let e : k + 0 ≡ k = omega arith in rw e refl)
  purged-skip k (suc d) none =
      let e : k + suc d ≡ suc (k + d) = omega arith in
      rw e (purged-skip k d (λ m past low. none m past (omega arith))
      ∙ next_same (k + d) (none (k + d) (omega arith) (omega arith)))

  purged-to : (k n : ℕ) → k ≤ n → ((m : ℕ) → k ≤ m → m < n → is_listed v i m ≡ false) →
      purged_below v i k ≡ purged_below v i n
  purged-to k n past none =
      let e : k + (n - k) ≡ n = omega arith in
      purged-skip k (n - k) (λ m high low. none m high (omega arith)) ∙ ap (purged_below v i) e

  module _ (w : FlowsValue) (k : ℕ) (is : w ≡ purged_below v i k) (few : k ≤ queues v) where
    listed_past : (m : ℕ) → k ≤ m → is_listed w i m ≡ is_listed v i m
    unfolding purged_below
    listed_past m past = ap (λ (u : FlowsValue). is_listed u i m) is
        ∙ ap (λ (r : Rotation). has_key r m) (rest_rotation k) ∙ has_rest k m (tid_rotation v i) past

    listed_below : (m : ℕ) → m < k → is_listed w i m ≡ false
    unfolding purged_below
    listed_below m low = ap (λ (u : FlowsValue). is_listed u i m) is
        ∙ ap (λ (r : Rotation). has_key r m) (rest_rotation k) ∙ has_none k m (tid_rotation v i) low

    module _ (q : ℕ) (listed : is_listed w i q ≡ true)
        (least : (m : ℕ) → is_listed w i m ≡ true → q ≤ m) where
      past : k ≤ q
      past = elim (cases_lt q k) [
        | inl low ↦ absurd (cc (sym listed, listed_below q low))
        | inr high ↦ high
      ]

      stands : is_listed v i q ≡ true
      stands = sym (listed_past q past) ∙ listed

      -- the least of its queues exists
      pub least_there : q < queues v
      least_there = apart.below i q (on-listed v i q stands)

      between : (m : ℕ) → k ≤ m → m < q → is_listed v i m ≡ false
      between m high low = elim (cases_Bool (is_listed v i m)) [
        | inl holds ↦ absurd (omega (arith, least m (listed_past m high ∙ holds)))
        | inr fails ↦ fails
      ]

      -- the least of its queues leaves
      pub purged_next : without_queue w q ≡ purged_below v i (suc q)
      purged_next = ap (λ (u : FlowsValue). without_queue u q) (is ∙ purged-to k q past between)
          ∙ next_gone q stands

  rest_end : rest_from (queues v) (tid_rotation v i) ≡ no_keys
  rest_end =
      ap (λ (xs : List ℕ). let s : Rotation = record {
        new = xs;
        old =
            filter (nat_le (queues v)) (tid_rotation v i).old;
      } in s)
      (rest_none (queues v) (tid_rotation v i).new
      (λ y at. apart.below i y (omega (
        arith,
        at,
        on-append (tid_rotation v i).old (tid_rotation v i).new y,
      ))))
      ∙ ap (λ (xs : List ℕ). let s : Rotation = record { new = []; old = xs } in s)
      (rest_none (queues v) (tid_rotation v i).old
      (λ y at. apart.below i y (omega (
        arith,
        at,
        on-append (tid_rotation v i).old (tid_rotation v i).new y,
      ))))

  -- none of its queues is left
  pub purged_last : (w : FlowsValue) (k : ℕ) → w ≡ purged_below v i k → k ≤ queues v →
      tid_rotation w i ≡ no_keys → w ≡ after_purge v i
  unfolding purged_below after_purge
  purged_last w k is few empty =
      is ∙ purged-to k (queues v) few (λ m high low. sym (listed_past w k is few m high)
      ∙ ap (λ (r : Rotation). has_key r m) empty)
      ∙ ap (λ (r : Rotation). with_lists (all_emptied Left renewed v.backlog (queues_of v i)) (set v.rotas.lists i r))
      rest_end

length-without : (k : ℕ) (xs : List ℕ) → length (filter (λ y. not (y == k)) xs) + on xs k ≡ length xs
length-without k [] = omega (arith, on-nil k)
length-without k (x ∷ xs) = elim (cases_eq x k) [
  | inl e ↦ rw (eq-eqb x k e) (omega (
    arith,
    length-without k xs,
    subst (λ (y : ℕ). on (y ∷ xs) k ≡ 1 + on xs k) (sym e) (on-cons_same k xs),
  ))
  | inr other ↦ rw (ne_eqb x k other) (omega (arith, length-without k xs, on-cons_other x k xs other))
]

-- a TID whose queue leaves has fewer queues
pub fewer_queues : (w : FlowsValue) (i q : ℕ) → is_listed w i q ≡ true →
    length (in_order (tid_rotation (without_queue w q) i)) < length (in_order (tid_rotation w i))
fewer_queues w i q listed =
    let r : Rotation = tid_rotation w i in
    let s : Rotation = without_key r q in
    omega (
      arith,
      ap (λ (t : Rotation). length (in_order t)) (at-without w.rotas.lists q i),
      length-append s.old s.new,
      length-append r.old r.new,
      length-without q r.old,
      length-without q r.new,
      on-append r.old r.new q,
      on-listed w i q listed,
    )

pub tids_below : (v : FlowsValue) (i k : ℕ) → tids (purged_below v i k) ≡ tids v
unfolding purged_below
tids_below v i k = refl

pub queues_below : (v : FlowsValue) (i k : ℕ) → queues (purged_below v i k) ≡ queues v
unfolding purged_below
queues_below v i k = refl

pub kept_apart : (v now : FlowsValue) (counts : List ℕ) → v ≡ now → AreFlowsKept v counts →
    AreDisjoint (record { lists = now.rotas.lists; keys = now.flows + 8 * now.stations })
kept_apart v now counts same ok = subst (λ (w : FlowsValue).
    AreDisjoint (record { lists = w.rotas.lists; keys = w.flows + 8 * w.stations })) same ok.listed.apart

pub kept_low : (v now : FlowsValue) (counts : List ℕ) (i : ℕ) → v ≡ now → AreFlowsKept v counts →
    i < tids now → i < length now.rotas.lists
kept_low v now counts i same ok low =
    let long : length now.rotas.lists ≡ tids now =
    subst (λ (w : FlowsValue). length w.rotas.lists ≡ tids w) same ok.sized.lists in
    omega arith
