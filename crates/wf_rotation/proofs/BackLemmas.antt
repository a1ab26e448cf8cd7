-- The links to the key before, after each change of a list: a write at a key changes the entry of that key
-- alone.
use Rattle.std.proofs.Common.{◌≡◌, ℕ, ◌+◌, ◌<◌, ◌≤◌, List, [], ◌∷◌, ◌++◌, length, set, replicate, Some, refl, sym, ap, ◌∙◌, subst, inl, inr, arith, length-set, append_assoc}
use Rattle.std.proofs.lemmas.List.{get_or-set_same, get_or-set_other, get_or_past, get_or-replicate, length-replicate}
use Rattle.std.proofs.lemmas.Bool.{cases_eq, cases_lt}
use Rattle.wf_def_lists.specs.Lists.{on}
use Rattle.wf_def_rotation.specs.Rotation.{Rotation, no_keys, in_order}
use Rattle.wf_rotation.specs.Lists.{AllLists, AreDisjoint, lists_at, side_of, with_side, keys_at, with_keys, IsOff, first_of, keys_behind}
use Rattle.wf_rotation.specs.Links.{entry_at, EndsWith, Follows, Backs, AreBacks, slot_of}
use Rattle.wf_rotation.specs.declared.side.Side.{Side}
use Rattle.wf_rotation.specs.declared.side.Side.TheVariants.{New, Old}
use Rattle.wf_law_rules.proofs.Lemmas.Counts.{on-first, on-cons_same, on-append}
use Rattle.wf_rotation.proofs.LinkLemmas.{with_list, ends-rest}
use Rattle.wf_rotation.proofs.ListsLemmas.{first_is, on_cycle}

-- ---- one list

-- a write at a key that is not on the list changes no entry of it
follows-set : (prev : List ℕ) (x : ℕ) (xs : List ℕ) (k v : ℕ) → on xs k ≡ 0 → Follows prev x xs →
    Follows (set prev k v) x xs
unfolding Follows
follows-set prev x [] k v none f = tt
follows-set prev x (y ∷ ys) k v none f =
    let other : y ≡ k → ⊥ = λ e. let here : on (y ∷ ys) k ≡ 1 + on ys k =
    subst (λ (m : ℕ). on (y ∷ ys) m ≡ 1 + on ys m) e (on-cons_same y ys) in omega arith in (
      rw (get_or-set_other prev k y v 0 other) f.0,
      follows-set prev y ys k v (omega (arith, on-first y k ys)) f.1,
    )

pub backs-set : (prev xs : List ℕ) (k v : ℕ) → on xs k ≡ 0 → Backs prev xs → Backs (set prev k v) xs
backs-set prev [] k v none b = tt
backs-set prev (x ∷ xs) k v none b = follows-set prev x xs k v (omega (arith, on-first x k xs)) b

backs-rest : (prev xs : List ℕ) → Backs prev xs → Backs prev (keys_behind xs)
unfolding Follows
backs-rest prev [] b = tt
backs-rest prev (x ∷ []) b = tt
backs-rest prev (x ∷ y ∷ ys) b = b.1

-- a list that is put after another
follows-join : (prev : List ℕ) (x : ℕ) (xs : List ℕ) (t y : ℕ) (ys : List ℕ) → EndsWith (x ∷ xs) t →
    entry_at prev y ≡ t → Follows prev x xs → Follows prev y ys → Follows prev x (xs ++ y ∷ ys)
unfolding Follows EndsWith
follows-join prev x [] t y ys ends is f g = (is ∙ sym ends, g)
follows-join prev x (z ∷ zs) t y ys ends is f g = (f.0, follows-join prev z zs t y ys ends is f.1 g)

follows-split : (prev : List ℕ) (x : ℕ) (xs : List ℕ) (y : ℕ) (ys : List ℕ) →
    Follows prev x (xs ++ y ∷ ys) → Follows prev x xs × Follows prev y ys
unfolding Follows
follows-split prev x [] y ys f = (tt, f.1)
follows-split prev x (z ∷ zs) y ys f =
    let parts : Follows prev z zs × Follows prev y ys = follows-split prev z zs y ys f.1 in
    ((f.0, parts.0), parts.1)

-- the entry of a key that is not the first is the key before it
pub backs-before : (prev ys : List ℕ) (b y : ℕ) (zs : List ℕ) → Backs prev (ys ++ b ∷ (y ∷ zs)) →
    entry_at prev y ≡ b
unfolding Follows
backs-before prev [] b y zs f = f.0
backs-before prev (x ∷ []) b y zs f = f.1.0
backs-before prev (x ∷ w ∷ ws) b y zs f = backs-before prev (w ∷ ws) b y zs f.1

-- a key that is not the first is left out, and the entry of the key after it is the key before it
follows-skip : (prev : List ℕ) (x : ℕ) (xs : List ℕ) (b y z : ℕ) (zs : List ℕ) → on (xs ++ b ∷ []) z ≡ 0 →
    on zs z ≡ 0 → z < length prev → Follows prev x (xs ++ b ∷ (y ∷ (z ∷ zs))) →
    Follows (set prev z b) x (xs ++ b ∷ (z ∷ zs))
unfolding Follows
follows-skip prev x [] b y z zs none after low f =
    let other : b ≡ z → ⊥ = λ e. let here : on (b ∷ []) z ≡ 1 + on [] z =
    subst (λ (m : ℕ). on (b ∷ []) m ≡ 1 + on [] m) e (on-cons_same b []) in omega arith in (
      rw (get_or-set_other prev z b b 0 other) f.0,
      (get_or-set_same prev z b 0 low, follows-set prev z zs z b after f.1.1.1),
    )
follows-skip prev x (w ∷ ws) b y z zs none after low f =
    let other : w ≡ z → ⊥ = λ e. let here : on (w ∷ (ws ++ b ∷ [])) z ≡ 1 + on (ws ++ b ∷ []) z =
    subst (λ (m : ℕ). on (w ∷ (ws ++ b ∷ [])) m ≡ 1 + on (ws ++ b ∷ []) m) e
    (on-cons_same w (ws ++ b ∷ [])) in omega arith in (
      rw (get_or-set_other prev z w b 0 other) f.0,
      follows-skip prev w ws b y z zs (omega (arith, on-first w z (ws ++ b ∷ []))) after low f.1,
    )

backs-skip : (prev ys : List ℕ) (b y z : ℕ) (zs : List ℕ) → on (ys ++ b ∷ []) z ≡ 0 →
    on zs z ≡ 0 → z < length prev → Backs prev (ys ++ b ∷ (y ∷ (z ∷ zs))) →
    Backs (set prev z b) (ys ++ b ∷ (z ∷ zs))
unfolding Follows
backs-skip prev [] b y z zs none after low f =
    (get_or-set_same prev z b 0 low, follows-set prev z zs z b after f.1.1)
backs-skip prev (x ∷ xs) b y z zs none after low f =
    follows-skip prev x xs b y z zs (omega (arith, on-first x z (xs ++ b ∷ []))) after low f

backs-front : (prev ys : List ℕ) (b : ℕ) (zs : List ℕ) → Backs prev (ys ++ b ∷ zs) → Backs prev (ys ++ b ∷ [])
unfolding Follows
backs-front prev [] b zs f = tt
backs-front prev (x ∷ []) b zs f = (f.0, tt)
backs-front prev (x ∷ w ∷ ws) b zs f = (f.0, backs-front prev (w ∷ ws) b zs f.1)

-- ---- all lists

pub side_on : (r : Rotation) (s : Side) (k : ℕ) → on (side_of r s) k ≤ on (in_order r) k
side_on r New k = omega (arith, on_cycle r k)
side_on r Old k = omega (arith, on_cycle r k)

-- a key of one list is on no other
none_elsewhere : (q : AllLists) (l m k : ℕ) (s t : Side) → AreDisjoint q → 0 < on (keys_at q.lists l s) k →
    (slot_of m t ≡ slot_of l s → ⊥) → on (keys_at q.lists m t) k ≡ 0
none_elsewhere q l m k s t ok here other = elim (cases_eq m l) [
  | inl e ↦ ap (λ (n : ℕ). on (keys_at q.lists n t) k) e ∙ same s t here (λ f. other
      (ap (λ (n : ℕ). slot_of n t) e ∙ f))
  | inr differs ↦ elim (cases_lt 0 (on (keys_at q.lists m t) k)) [
    | inl there ↦ absurd (differs (ok.one_list m l k (omega (arith, side_on (lists_at q.lists m) t k))
        (omega (arith, side_on (lists_at q.lists l) s k))))
    | inr none ↦ omega arith
  ]
]
  where
    same : (s t : Side) → 0 < on (keys_at q.lists l s) k → (slot_of l t ≡ slot_of l s → ⊥) →
        on (keys_at q.lists l t) k ≡ 0
    same New New here other = absurd (other refl)
    same New Old here other = omega (arith, on_cycle (lists_at q.lists l) k, ok.once l k)
    same Old New here other = omega (arith, on_cycle (lists_at q.lists l) k, ok.once l k)
    same Old Old here other = absurd (other refl)

-- one list changes, and the entries of the other lists' keys stay
backs_changed : (prev prev' : List ℕ) (q : AllLists) (l : ℕ) (s : Side) (ks : List ℕ) → AreBacks prev q →
    l < length q.lists → length prev' ≡ length prev → Backs prev' ks →
    ((m : ℕ) (t : Side) → (slot_of m t ≡ slot_of l s → ⊥) → Backs prev (keys_at q.lists m t) →
    Backs prev' (keys_at q.lists m t)) → AreBacks prev' (with_list q l s ks)
backs_changed prev prev' q l s ks ok low size now others = record {
  keys = size ∙ ok.keys;
  backs = λ m t. elim (cases_eq m l) [
    | inl e ↦ subst (λ (r : Rotation). Backs prev' (side_of r t))
        (sym (ap (λ (n : ℕ). lists_at (with_keys q.lists l s ks) n) e
        ∙ get_or-set_same q.lists l (with_side (lists_at q.lists l) s ks) no_keys low))
        (here s t (λ other. others l t other (ok.backs l t)))
    | inr differs ↦ subst (λ (r : Rotation). Backs prev' (side_of r t))
        (sym (get_or-set_other q.lists l m (with_side (lists_at q.lists l) s ks) no_keys differs))
        (others m t (apart m s t differs) (ok.backs m t))
  ];
}
  where
    here : (s t : Side) → ((slot_of l t ≡ slot_of l s → ⊥) → Backs prev' (keys_at q.lists l t)) →
        Backs prev' (side_of (with_side (lists_at q.lists l) s ks) t)
    here New New old = now
    here New Old old = old (λ e. omega arith)
    here Old New old = old (λ e. omega arith)
    here Old Old old = now

    apart : (m : ℕ) (s t : Side) → (m ≡ l → ⊥) → slot_of m t ≡ slot_of l s → ⊥
    apart m New New differs e = differs (omega arith)
    apart m New Old differs e = omega arith
    apart m Old New differs e = omega arith
    apart m Old Old differs e = differs (omega arith)

-- no key is listed
pub backs_none : (prev : List ℕ) (keys lists : ℕ) → length prev ≡ keys →
    AreBacks prev (record { lists = replicate lists no_keys; keys = keys })
backs_none prev keys lists size = record {
  keys = size;
  backs = λ l s. subst (λ (r : Rotation). Backs prev (side_of r s)) (sym (empty l)) (nothing s);
}
  where
    empty : (l : ℕ) → lists_at (replicate lists no_keys) l ≡ no_keys
    empty l = elim (cases_lt l lists) [
      | inl low ↦ get_or-replicate lists l no_keys no_keys low
      | inr past ↦ get_or_past (replicate lists no_keys) l no_keys
          (omega (arith, length-replicate lists no_keys))
    ]

    nothing : (s : Side) → Backs prev (side_of no_keys s)
    nothing New = tt
    nothing Old = tt

-- the first key of a list is taken off
pub backs_taken : (prev : List ℕ) (q : AllLists) (l : ℕ) (s : Side) → AreBacks prev q → l < length q.lists →
    AreBacks prev (with_list q l s (keys_behind (keys_at q.lists l s)))
backs_taken prev q l s ok low = backs_changed prev prev q l s _ ok low refl
    (backs-rest prev (keys_at q.lists l s) (ok.backs l s)) (λ m t other b. b)

-- a key is put on an empty list
pub backs_put_first : (prev : List ℕ) (q : AllLists) (l key : ℕ) (s : Side) → AreBacks prev q →
    l < length q.lists → keys_at q.lists l s ≡ [] →
    AreBacks prev (with_list q l s (keys_at q.lists l s ++ key ∷ []))
unfolding Follows
backs_put_first prev q l key s ok low none = backs_changed prev prev q l s _ ok low refl
    (subst (λ (ks : List ℕ). Backs prev (ks ++ key ∷ [])) (sym none) tt) (λ m t other b. b)

-- a key is put last on a list that has keys
pub backs_put : (prev : List ℕ) (q : AllLists) (l key last : ℕ) (s : Side) → AreBacks prev q →
    l < length q.lists → key < q.keys → IsOff q.lists key → EndsWith (keys_at q.lists l s) last →
    AreBacks (set prev key last) (with_list q l s (keys_at q.lists l s ++ key ∷ []))
unfolding Follows
backs_put prev q l key last s ok low below off ends = backs_changed prev (set prev key last) q l s _ ok low
    (length-set prev key last) (more (keys_at q.lists l s) (none l s) ends (ok.backs l s))
    (λ m t other b. backs-set prev (keys_at q.lists m t) key last (none m t) b)
  where
    none : (m : ℕ) (t : Side) → on (keys_at q.lists m t) key ≡ 0
    none m t = omega (arith, off m, side_on (lists_at q.lists m) t key)

    more : (ks : List ℕ) → on ks key ≡ 0 → EndsWith ks last → Backs prev ks →
        Backs (set prev key last) (ks ++ key ∷ [])
    more [] free e b = tt
    more (x ∷ xs) free e b = follows-join (set prev key last) x xs last key [] e
        (get_or-set_same prev key last 0 (omega (arith, ok.keys)))
        (follows-set prev x xs key last (omega (arith, on-first x key xs)) b) tt

-- the last key of a list is the last of its rest
pub ends-later : (xs : List ℕ) (y : ℕ) (ys : List ℕ) (t : ℕ) → EndsWith (xs ++ y ∷ ys) t → EndsWith (y ∷ ys) t
ends-later [] y ys t e = e
ends-later (x ∷ xs) y ys t e = ends-later xs y ys t (ends-rest x (xs ++ y ∷ ys) t e)

-- an old list begins with another of its keys
pub backs_rotated : (prev : List ℕ) (q : AllLists) (l p key first last : ℕ) (ys zs : List ℕ) →
    AreDisjoint q → AreBacks prev q → l < length q.lists → keys_at q.lists l Old ≡ ys ++ p ∷ (key ∷ zs) →
    first_of (keys_at q.lists l Old) ≡ Some first → EndsWith (keys_at q.lists l Old) last →
    AreBacks (set prev first last) (with_list q l Old (key ∷ (zs ++ (ys ++ p ∷ []))))
backs_rotated prev q l p key first last ys zs apart ok low is first_at ends =
    backs_changed prev (set prev first last) q l Old _ ok low
    (length-set prev first last) turned
    (λ m t other b. backs-set prev (keys_at q.lists m t) first last
    (none_elsewhere q l m first Old t apart (omega (arith, on_whole)) other) b)
  where
    first_front : (ys : List ℕ) → first_of (ys ++ p ∷ (key ∷ zs)) ≡ first_of (ys ++ p ∷ [])
    first_front [] = refl
    first_front (x ∷ xs) = refl

    front_is : ys ++ p ∷ [] ≡ first ∷ keys_behind (ys ++ p ∷ [])
    front_is = first_is (ys ++ p ∷ []) first (sym (first_front ys) ∙ ap first_of (sym is) ∙ first_at)

    whole : keys_at q.lists l Old ≡ first ∷ ((keys_behind (ys ++ p ∷ [])) ++ key ∷ zs)
    whole = is ∙ sym (append_assoc ys (p ∷ []) (key ∷ zs)) ∙ ap (λ (xs : List ℕ). xs ++ key ∷ zs) front_is

    on_whole : on (keys_at q.lists l Old) first ≡ 1 + (on (keys_behind (ys ++ p ∷ [])) first + on
        (key ∷ zs) first)
    on_whole = ap (λ (xs : List ℕ). on xs first) whole ∙ on-cons_same first ((keys_behind
        (ys ++ p ∷ [])) ++ key ∷ zs)
        ∙ ap (λ (n : ℕ). 1 + n) (on-append (keys_behind (ys ++ p ∷ [])) (key ∷ zs) first)

    at_most_once : on (keys_at q.lists l Old) first ≤ 1
    at_most_once = omega (arith, side_on (lists_at q.lists l) Old first, apart.once l first)

    below : first < length prev
    below = omega (
      arith,
      ok.keys,
      apart.below l first
          (omega (arith, on_whole, side_on (lists_at q.lists l) Old first)),
    )

    parts : Follows prev first (keys_behind (ys ++ p ∷ [])) × Follows prev key zs
    parts = follows-split prev first (keys_behind (ys ++ p ∷ [])) key zs (subst (Backs prev) whole
        (ok.backs l Old))

    turned : Backs (set prev first last) (key ∷ (zs ++ (ys ++ p ∷ [])))
    turned = subst (λ (xs : List ℕ). Backs (set prev first last) (key ∷ (zs ++ xs))) (sym front_is)
        (follows-join (set prev first last) key zs last first (keys_behind (ys ++ p ∷ []))
        (ends-later (first ∷ (keys_behind (ys ++ p ∷ []))) key zs last (subst (λ
        (xs : List ℕ). EndsWith xs last) whole ends))
        (get_or-set_same prev first last 0 below)
        (follows-set prev key zs first last (omega (arith, on_whole, at_most_once, on-first key first zs))
        parts.1)
        (follows-set prev first (keys_behind (ys ++ p ∷ [])) first last (omega
        (arith, on_whole, at_most_once)) parts.0))

-- a key that is neither the first nor the last is taken out
pub backs_unlinked : (prev : List ℕ) (q : AllLists) (l b key z : ℕ) (s : Side) (ys zs : List ℕ) →
    AreDisjoint q → AreBacks prev q → l < length q.lists →
    keys_at q.lists l s ≡ ys ++ b ∷ (key ∷ (z ∷ zs)) →
    AreBacks (set prev z b) (with_list q l s (ys ++ b ∷ (z ∷ zs)))
backs_unlinked prev q l b key z s ys zs apart ok low is =
    backs_changed prev (set prev z b) q l s _ ok low (length-set prev z b)
    (backs-skip prev ys b key z zs (omega (arith, on_whole, at_most_once))
    (omega (arith, on_whole, at_most_once)) below (subst (Backs prev) is (ok.backs l s)))
    (λ m t other f. backs-set prev (keys_at q.lists m t) z b
    (none_elsewhere q l m z s t apart (omega (arith, on_whole)) other) f)
  where
    on_whole : on (keys_at q.lists l s) z ≡ on (ys ++ b ∷ []) z + (on (key ∷ []) z + (1 + on zs z))
    on_whole = ap (λ (xs : List ℕ). on xs z) (is ∙ sym (append_assoc ys (b ∷ []) (key ∷ (z ∷ zs))))
        ∙ on-append (ys ++ b ∷ []) (key ∷ (z ∷ zs)) z
        ∙ omega (arith, on-first key z (z ∷ zs), on-cons_same z zs)

    at_most_once : on (keys_at q.lists l s) z ≤ 1
    at_most_once = omega (arith, side_on (lists_at q.lists l) s z, apart.once l z)

    below : z < length prev
    below = omega (
      arith,
      ok.keys,
      apart.below l z
          (omega (arith, on_whole, side_on (lists_at q.lists l) s z)),
    )

-- the last key is taken off, and it is not the only one
pub backs_unlinked_last : (prev : List ℕ) (q : AllLists) (l b key : ℕ) (s : Side) (ys : List ℕ) →
    AreBacks prev q → l < length q.lists → keys_at q.lists l s ≡ ys ++ b ∷ (key ∷ []) →
    AreBacks prev (with_list q l s (ys ++ b ∷ []))
backs_unlinked_last prev q l b key s ys ok low is = backs_changed prev prev q l s _ ok low refl
    (backs-front prev ys b (key ∷ []) (subst (Backs prev) is (ok.backs l s))) (λ m t other f. f)
