-- A key that is taken off its one list is taken off all lists, since it was on no other.
use Rattle.std.proofs.Common.{◌≡◌, ℕ, ◌<◌, ◌≤◌, List, [], ◌∷◌, length, map, get_or, set, Option, None, refl, sym, ap, ◌∙◌, subst, inl, inr, arith, eq-eqb, length-set}
use Rattle.std.specs.Prelude.{ℤ}
use Rattle.std.proofs.lemmas.List.{ext_get_or, get_or-map, length-map, get_or_past, get_or-set_same, get_or-set_other}
use Rattle.std.proofs.lemmas.Bool.{cases_eq, cases_lt, ne_eqb}
use Rattle.wf_def_rotation.specs.Rotation.{Rotation, no_keys, in_order, without_key}
use Rattle.wf_def_lists.specs.Lists.{on}
use Rattle.wf_rotation.specs.Lists.{AllLists, AreDisjoint, lists_at, side_of, with_side, keys_at, with_keys, without, IsOff}
use Rattle.wf_rotation.specs.declared.side.Side.{Side}
use Rattle.wf_rotation.specs.declared.side.Side.TheVariants.{New, Old}
use Rattle.wf_rotation.specs.Homes.{IsHome, home_at, AreKept}
use Rattle.wf_rotation.specs.declared.rota.Home.{Home}
use Rattle.wf_rotation.proofs.HomeLemmas.{home_with}
use Rattle.wf_law_rules.proofs.Lemmas.Counts.{on-nil, on-first, on-cons_same, on-cons_other, on-append}

pub without_off : (key : ℕ) (xs : List ℕ) → on xs key ≡ 0 → without key xs ≡ xs
without_off key [] none = refl
without_off key (x ∷ xs) none = elim (cases_eq x key) [
  | inl e ↦ absurd (omega (arith, ap (λ (y : ℕ). on (y ∷ xs) key) e, on-cons_same key xs))
  | inr other ↦ rw (ne_eqb x key other) (ap (λ (t : List ℕ). x ∷ t)
      (without_off key xs (omega (arith, on-first x key xs))))
]

rot : List ℕ → List ℕ → Rotation
rot news olds = record { new = news; old = olds }

key_off : (r : Rotation) (key : ℕ) → on (in_order r) key ≡ 0 → without_key r key ≡ r
unfolding rot
key_off r key none = ap (λ (xs : List ℕ). rot xs (without key r.old))
    (without_off key r.new (omega (arith, on-append r.old r.new key)))
    ∙ ap (rot r.new) (without_off key r.old (omega (arith, on-append r.old r.new key)))

-- a key that is on no list
pub all_off : (all : List Rotation) (key : ℕ) → IsOff all key → all ≡ map (λ r. without_key r key) all
all_off all key off = ext_get_or no_keys all (map (λ r. without_key r key) all)
    (sym (length-map all (λ (r : Rotation). without_key r key)))
    (λ i low. sym (get_or-map (λ (r : Rotation). without_key r key) all i no_keys no_keys low
    ∙ key_off (lists_at all i) key (off i)))

one_side : (r : Rotation) (s : Side) (key : ℕ) → on (in_order r) key ≤ 1 → 0 < on (side_of r s) key →
    with_side r s (without key (side_of r s)) ≡ without_key r key
unfolding rot
one_side r New key once here = ap (rot (without key r.new))
    (sym (without_off key r.old (omega (arith, on-append r.old r.new key))))
one_side r Old key once here = ap (λ (xs : List ℕ). rot xs (without key r.old))
    (sym (without_off key r.new (omega (arith, on-append r.old r.new key))))

-- a key that is on one list
pub all_without : (q : AllLists) (l : ℕ) (s : Side) (key : ℕ) → AreDisjoint q → l < length q.lists →
    0 < on (keys_at q.lists l s) key → with_keys q.lists l s (without key (keys_at q.lists l s))
    ≡ map (λ r. without_key r key) q.lists
all_without q l s key apart low here = ext_get_or no_keys
    (with_keys q.lists l s (without key (keys_at q.lists l s))) (map (λ r. without_key r key) q.lists)
    (length-set q.lists l _ ∙ sym (length-map q.lists (λ (r : Rotation). without_key r key)))
    (λ i within. each i (omega (
      arith,
      length-set q.lists l
          (with_side (lists_at q.lists l) s (without key (keys_at q.lists l s))),
    )))
  where
    stands : (r : Rotation) (s : Side) → 0 < on (side_of r s) key → 0 < on (in_order r) key
    stands r New some = omega (arith, on-append r.old r.new key)
    stands r Old some = omega (arith, on-append r.old r.new key)

    each : (i : ℕ) → i < length q.lists → get_or (with_keys q.lists l s (without key (keys_at q.lists l s))) i
        no_keys ≡ get_or (map (λ r. without_key r key) q.lists) i no_keys
    each i within = (elim (cases_eq i l) [
      | inl e ↦ ap (λ (k : ℕ). lists_at (with_keys q.lists l s (without key (keys_at q.lists l s))) k) e
          ∙ get_or-set_same q.lists l _ no_keys low
          ∙ one_side (lists_at q.lists l) s key (apart.once l key) here
          ∙ ap (λ (k : ℕ). without_key (lists_at q.lists k) key) (sym e)
      | inr other ↦ get_or-set_other q.lists l i _ no_keys other
          ∙ sym (key_off (lists_at q.lists i) key (none i other))
    ]) ∙ sym (get_or-map (λ (r : Rotation). without_key r key) q.lists i no_keys no_keys within)
      where
        none : (i : ℕ) → (i ≡ l → ⊥) → on (in_order (lists_at q.lists i)) key ≡ 0
        none i other = elim (cases_lt 0 (on (in_order (lists_at q.lists i)) key)) [
          | inl some ↦ absurd (other (apart.one_list i l key some (stands (lists_at q.lists l) s here)))
          | inr less ↦ omega arith
        ]

on_without : (key : ℕ) (xs : List ℕ) → on (without key xs) key ≡ 0
on_without key [] = on-nil key
on_without key (x ∷ xs) = elim (cases_eq x key) [
  | inl e ↦ rw (eq-eqb x key e) (on_without key xs)
  | inr other ↦ rw (ne_eqb x key other) (omega (
    arith,
    on-cons_other x key (without key xs) other,
    on_without key xs,
  ))
]

on_without-other : (key k : ℕ) (xs : List ℕ) → (k ≡ key → ⊥) → on (without key xs) k ≡ on xs k
on_without-other key k [] other = refl
on_without-other key k (x ∷ xs) other = elim (cases_eq x key) [
  | inl e ↦ rw (eq-eqb x key e) (omega (
    arith,
    on-cons_other x k xs (λ f. other (sym f ∙ e)),
    on_without-other key k xs other,
  ))
  | inr differs ↦ rw (ne_eqb x key differs) (omega
      (arith, on-first x k (without key xs), on-first x k xs, on_without-other key k xs other))
]

-- a key that was taken out is on no list
removed_off : (all : List Rotation) (key : ℕ) → IsOff (map (λ r. without_key r key) all) key
removed_off all key = λ l. elim (cases_lt l (length all)) [
  | inl low ↦ ap (λ (r : Rotation). on (in_order r) key)
      (get_or-map (λ (r : Rotation). without_key r key) all l no_keys no_keys low)
      ∙ omega (
        arith,
        on-append (without key (lists_at all l).old) (without key (lists_at all l).new) key,
        on_without key (lists_at all l).old,
        on_without key (lists_at all l).new,
      )
  | inr past ↦ ap (λ (r : Rotation). on (in_order r) key)
      (get_or_past (map (λ (r : Rotation). without_key r key) all) l no_keys
      (omega (arith, length-map all (λ (r : Rotation). without_key r key)))) ∙ on-nil key
]

pub kept_removed : (links : AllLists) (homes : List (Option Home)) (deficits : List ℤ) (quanta : List ℕ) →
    AreKept links homes deficits quanta → (l : ℕ) (s : Side) (key : ℕ) → AreDisjoint links →
    l < length links.lists → 0 < on (keys_at links.lists l s) key →
    AreKept (record {
      lists = with_keys links.lists l s (without key (keys_at links.lists l s));
      keys =
          links.keys;
    }) (set homes key None) deficits quanta
kept_removed links homes deficits quanta ok l s key apart low here = record {
  keys = ok.keys;
  homes_keys = length-set homes key None ∙ ok.homes_keys;
  quanta_keys = ok.quanta_keys;
  at_home = λ k within. elim (cases_eq k key) [
    | inl e ↦
        let P : ℕ → Type 0 = λ (m : ℕ). IsHome (with_keys links.lists l s
        (without key (keys_at links.lists l s))) m (home_at (set homes key None) m) in
        subst P (sym e) (rw (get_or-set_same homes key None None (omega (arith, ok.homes_keys)))
        (subst (λ (ls : List Rotation). IsOff ls key) (sym (all_without links l s key apart low here))
        (removed_off links.lists key)))
    | inr other ↦ rw (get_or-set_other homes key k None None other)
        (home_with links.lists l s (without key (keys_at links.lists l s)) k (home_at homes k) low
        (on_without-other key k (keys_at links.lists l s) other) (ok.at_home k within))
  ];
  low = ok.low;
  high = ok.high;
  positive = ok.positive;
  fits = ok.fits;
  few = ok.few;
}
