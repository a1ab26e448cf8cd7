-- The home of each key is right after a list has changed: only the keys that moved get another home.
use Rattle.std.proofs.Common.{◌≡◌, ℕ, ◌-◌, ◌^◌, ◌<◌, List, [], ◌∷◌, ◌++◌, length, replicate, set, Option, Some, None, refl, sym, ap, ◌∙◌, subst, inl, inr, arith, length-set}
use Rattle.std.proofs.lemmas.List.{get_or-set_same, get_or-set_other, set_past, get_or_past, get_or-replicate, length-replicate}
use Rattle.std.proofs.lemmas.Int.{ints}
use Rattle.std.proofs.lemmas.Bool.{cases_eq, cases_lt}
use Rattle.wf_def_rotation.specs.Rotation.{Rotation, no_keys, in_order}
use Rattle.wf_def_lists.specs.Lists.{on}
use Rattle.std.specs.Prelude.{ℤ, pos, negsuc, ◌≤ℤ◌, ◌<ℤ◌}
use Rattle.wf_rotation.specs.Lists.{AllLists, AreDisjoint, lists_at, side_of, with_side, keys_at, with_keys, first_of, keys_behind, IsOff}
use Rattle.wf_rotation.specs.Rotas.{deficit_at, quantum_at}
use Rattle.wf_rotation.specs.Homes.{IsHome, home_at, AreKept}
use Rattle.wf_rotation.specs.declared.side.Side.{Side}
use Rattle.wf_rotation.specs.declared.side.Side.TheVariants.{New, Old}
use Rattle.wf_rotation.specs.declared.rota.Home.{Home}
use Rattle.wf_law_rules.proofs.Lemmas.Counts.{on-nil, on-cons_same, on-cons_other, on-append}
use Rattle.wf_rotation.proofs.ListsLemmas.{first_is, taken_unlisted, keys_at-with}

-- a list on which a key is as often as before
on_side : (r : Rotation) (s t : Side) (ks : List ℕ) (k : ℕ) → on ks k ≡ on (side_of r s) k →
    on (side_of (with_side r s ks) t) k ≡ on (side_of r t) k
on_side r New New ks k same = same
on_side r New Old ks k same = refl
on_side r Old New ks k same = refl
on_side r Old Old ks k same = same

on_both : (r : Rotation) (s : Side) (ks : List ℕ) (k : ℕ) → on ks k ≡ on (side_of r s) k →
    on (in_order (with_side r s ks)) k ≡ on (in_order r) k
on_both r New ks k same = omega (arith, on-append r.old ks k, on-append r.old r.new k)
on_both r Old ks k same = omega (arith, on-append ks r.new k, on-append r.old r.new k)

at_same : (all : List Rotation) (l m : ℕ) (r : Rotation) → m ≡ l → l < length all →
    lists_at (set all l r) m ≡ r
at_same all l m r e low = ap (λ (k : ℕ). lists_at (set all l r) k) e ∙ get_or-set_same all l r no_keys low

pub home_with : (all : List Rotation) (l : ℕ) (s : Side) (ks : List ℕ) (k : ℕ) (home : Option Home) →
    l < length all → on ks k ≡ on (keys_at all l s) k → IsHome all k home →
    IsHome (with_keys all l s ks) k home
home_with all l s ks k None low same off = λ m. elim (cases_eq m l) [
  | inl e ↦ ap (λ (r : Rotation). on (in_order r) k) (at_same all l m _ e low)
      ∙ on_both (lists_at all l) s ks k same ∙ off l
  | inr other ↦ ap (λ (r : Rotation). on (in_order r) k) (get_or-set_other all l m _ no_keys other) ∙ off m
]
home_with all l s ks k (Some home) low same at = (
  rw length-set at.0,
  elim (cases_eq home.list l) [
    | inl e ↦
        let now : on (keys_at (with_keys all l s ks) home.list home.side) k ≡ on (keys_at all l home.side) k =
        ap (λ (r : Rotation). on (side_of r home.side) k) (at_same all l home.list _ e low)
        ∙ on_side (lists_at all l) s home.side ks k same in
        let before : on (keys_at all home.list home.side) k ≡ on (keys_at all l home.side) k =
        ap (λ (m : ℕ). on (keys_at all m home.side) k) e in
        omega (arith, at.1)
    | inr other ↦
        let now : on (keys_at (with_keys all l s ks) home.list home.side) k
        ≡ on (keys_at all home.list home.side) k =
        ap (λ (r : Rotation). on (side_of r home.side) k)
        (get_or-set_other all l home.list _ no_keys other) in
        omega (arith, at.1)
  ],
)

module _ (links : AllLists) (homes : List (Option Home)) (deficits : List ℤ) (quanta : List ℕ)
    (ok : AreKept links homes deficits quanta) where
  -- a deficit is written
  pub kept_deficit : (key : ℕ) (v : ℤ) → negsuc (2 ^ 62 - 1) ≤ℤ v → v <ℤ pos (2 ^ 32) →
      AreKept links homes (set deficits key v) quanta
  kept_deficit key v low high = record {
    keys = ok.keys ∙ sym (length-set deficits key v);
    homes_keys = ok.homes_keys ∙ sym (length-set deficits key v);
    quanta_keys = ok.quanta_keys ∙ sym (length-set deficits key v);
    at_home = λ k within. ok.at_home k (omega (arith, length-set deficits key v));
    low = λ k. each k (λ (d : ℤ). negsuc (2 ^ 62 - 1) ≤ℤ d) low (ok.low k);
    high = λ k. each k (λ (d : ℤ). d <ℤ pos (2 ^ 32)) high (ok.high k);
    positive = ok.positive;
    fits = ok.fits;
    few = omega (arith, ok.few, length-set deficits key v);
  }
    where
      each : (k : ℕ) (P : ℤ → Type 0) → P v → P (deficit_at deficits k) →
          P (deficit_at (set deficits key v) k)
      each k P here there = elim (cases_eq k key) [
        | inl e ↦ elim (cases_lt key (length deficits)) [
          | inl low ↦ subst P (sym (ap (λ (m : ℕ). deficit_at (set deficits key v) m) e
              ∙ get_or-set_same deficits key v (pos 0) low)) here
          | inr past ↦ subst P (ap (λ (ds : List ℤ). deficit_at ds k) (sym (set_past deficits key v past)))
              there
        ]
        | inr other ↦ subst P (sym (get_or-set_other deficits key k v (pos 0) other)) there
      ]

  home_other : (l : ℕ) (s : Side) (ks : List ℕ) (key : ℕ) (home : Option Home) → l < length links.lists →
      ((k : ℕ) → (k ≡ key → ⊥) → on ks k ≡ on (keys_at links.lists l s) k) →
      IsHome (with_keys links.lists l s ks) key home → (k : ℕ) → k < length deficits →
      IsHome (with_keys links.lists l s ks) k (home_at (set homes key home) k)
  home_other l s ks key home low same here k within = elim (cases_eq k key) [
    | inl e ↦
        let P : ℕ → Type 0 = λ (m : ℕ). IsHome (with_keys links.lists l s ks) m
        (home_at (set homes key home) m) in
        subst P (sym e) (rw (get_or-set_same homes key home None (omega (arith, ok.homes_keys))) here)
    | inr other ↦ rw (get_or-set_other homes key k home None other)
        (home_with links.lists l s ks k (home_at homes k) low (same k other) (ok.at_home k within))
  ]

  -- the first key of a list is taken off
  pub kept_taken : (l : ℕ) (s : Side) (key : ℕ) → AreDisjoint links → l < length links.lists →
      first_of (keys_at links.lists l s) ≡ Some key →
      AreKept (record {
        lists = with_keys links.lists l s (keys_behind (keys_at links.lists l s));
        keys =
            links.keys;
      }) (set homes key None) deficits quanta
  kept_taken l s key apart low first = record {
    keys = ok.keys;
    homes_keys = length-set homes key None ∙ ok.homes_keys;
    quanta_keys = ok.quanta_keys;
    at_home = home_other l s (keys_behind (keys_at links.lists l s)) key None low
        (λ k other. omega (
          arith,
          ap (λ (xs : List ℕ). on xs k)
              (first_is (keys_at links.lists l s) key first),
          on-cons_other key k (keys_behind (keys_at links.lists l s)) (λ e. other (sym e)),
        ))
        (taken_unlisted links l s key apart first);
    low = ok.low;
    high = ok.high;
    positive = ok.positive;
    fits = ok.fits;
    few = ok.few;
  }

  -- a key is put last on a list
  pub kept_put : (l : ℕ) (s : Side) (key : ℕ) → l < length links.lists →
      AreKept (record {
        lists = with_keys links.lists l s (keys_at links.lists l s ++ key ∷ []);
        keys =
            links.keys;
      }) (set homes key (Some (record { list = l; side = s }))) deficits quanta
  kept_put l s key low = record {
    keys = ok.keys;
    homes_keys = length-set homes key _ ∙ ok.homes_keys;
    quanta_keys = ok.quanta_keys;
    at_home = home_other l s (keys_at links.lists l s ++ key ∷ []) key
        (Some (record { list = l; side = s })) low
        (λ k other. omega (
          arith,
          on-append (keys_at links.lists l s) (key ∷ []) k,
          on-cons_other key k [] (λ e. other (sym e)),
          on-nil k,
        )) (
          rw length-set low,
          rw (keys_at-with links.lists l s (keys_at links.lists l s ++ key ∷ []) low)
              (omega (arith, on-append (keys_at links.lists l s) (key ∷ []) key, on-cons_same key [])),
        );
    low = ok.low;
    high = ok.high;
    positive = ok.positive;
    fits = ok.fits;
    few = ok.few;
  }

  -- the keys of an old list in another order
  pub kept_visited : (l : ℕ) (ks : List ℕ) → l < length links.lists →
      ((k : ℕ) → on ks k ≡ on (keys_at links.lists l Old) k) →
      AreKept (record { lists = with_keys links.lists l Old ks; keys = links.keys }) homes deficits quanta
  kept_visited l ks low same = record {
    keys = ok.keys;
    homes_keys = ok.homes_keys;
    quanta_keys = ok.quanta_keys;
    at_home = λ k within. home_with links.lists l Old ks k (home_at homes k) low (same k)
        (ok.at_home k within);
    low = ok.low;
    high = ok.high;
    positive = ok.positive;
    fits = ok.fits;
    few = ok.few;
  }

-- before any key is listed
pub kept_new : (links : AllLists) (homes : List (Option Home)) (deficits : List ℤ) (quanta : List ℕ)
    (keys lists quantum : ℕ) → links ≡ record { lists = replicate lists no_keys; keys = keys } →
    homes ≡ replicate {A = Option Home} keys None → deficits ≡ replicate keys (pos quantum) →
    quanta ≡ replicate {A = ℕ} keys quantum → 0 < quantum → quantum < 2 ^ 32 → keys < 2 ^ 32 →
    AreKept links homes deficits quanta
kept_new links homes deficits quanta keys lists quantum links_are homes_are deficits_are quanta_are some small
    fewer = record {
      keys = ap (λ (q : AllLists). q.keys) links_are ∙ sym length_d;
      homes_keys = ap length homes_are ∙ length-replicate {A = Option Home} keys None ∙ sym length_d;
      quanta_keys = ap length quanta_are ∙ length-replicate {A = ℕ} keys quantum ∙ sym length_d;
      at_home = λ key within. subst (λ (q : AllLists). IsHome q.lists key (home_at homes key)) (sym links_are)
          (rw (homes_are, get_or-replicate {A = Option Home} keys key None None (omega (arith, length_d)))
          (none_off key));
      low = λ key. at_deficit key (λ (d : ℤ). negsuc (2 ^ 62 - 1) ≤ℤ d) (omega (arith, ints))
          (omega (arith, ints));
      high = λ key. at_deficit key (λ (d : ℤ). d <ℤ pos (2 ^ 32)) (omega (arith, ints)) (omega (arith, ints));
      positive = λ key. at_quantum key (λ (q : ℕ). 0 < q) some (omega arith);
      fits = λ key. at_quantum key (λ (q : ℕ). q < 2 ^ 32) small (omega arith);
      few = omega (arith, length_d, fewer);
    }
  where
    length_d : length deficits ≡ keys
    length_d = ap length deficits_are ∙ length-replicate keys (pos quantum)

    at_deficit : (key : ℕ) (P : ℤ → Type 0) → P (pos quantum) → P (pos 0) → P (deficit_at deficits key)
    at_deficit key P here past = elim (cases_lt key keys) [
      | inl low ↦ rw (deficits_are, get_or-replicate keys key (pos quantum) (pos 0) low) here
      | inr high ↦ rw (get_or_past deficits key (pos 0) (omega (arith, length_d))) past
    ]

    at_quantum : (key : ℕ) (P : ℕ → Type 0) → P quantum → P 1 → P (quantum_at quanta key)
    at_quantum key P here past = elim (cases_lt key keys) [
      | inl low ↦ rw (quanta_are, get_or-replicate {A = ℕ} keys key quantum 1 low) here
      | inr high ↦ rw (get_or_past quanta key 1 (omega
          (arith, ap length quanta_are, length-replicate {A = ℕ} keys quantum))) past
    ]

    none_off : (key : ℕ) → IsOff (replicate lists no_keys) key
    none_off key = λ l. elim (cases_lt l lists) [
      | inl low ↦ rw (get_or-replicate lists l no_keys no_keys low) (on-nil key)
      | inr past ↦ rw (get_or_past (replicate lists no_keys) l no_keys
          (omega (arith, length-replicate lists no_keys))) (on-nil key)
    ]
