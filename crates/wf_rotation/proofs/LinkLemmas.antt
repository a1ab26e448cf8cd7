-- The chains of links are the lists after each write: a write at a key changes the chain of that key alone.
use Rattle.std.proofs.Common.{◌≡◌, ℕ, zero, suc, ◌+◌, ◌*◌, ◌/◌, ◌%◌, ◌<◌, ◌≤◌, cond, List, [], ◌∷◌, ◌++◌, length, map, get_or, set, Option, Some, refl, sym, ap, ◌∙◌, subst, inl, inr, arith, length-set, eqb, eq-eqb, append_assoc}
use Rattle.wf_def_rotation.specs.Rotation.{Rotation, no_keys, in_order}
use Rattle.std.proofs.lemmas.List.{get_or-set_same, get_or-set_other, get_or_past, get_or_read, ext_get_or}
use Rattle.std.proofs.lemmas.Bool.{cases_eq, cases_lt, lt-ltb, le-ltb, ne_eqb}
use Rattle.wf_def_lists.specs.Lists.{on}
use Rattle.wf_rotation.specs.Links.{entry_at, walk, Leads, EndsWith, chain, Chains, AreLinks, chain_lists, all_chains, slot_of}
use Rattle.wf_rotation.specs.Lists.{AllLists, first_of, keys_behind, lists_at, keys_at, with_side, with_keys, on_at, AreDisjoint, IsOff}
use Rattle.wf_rotation.specs.declared.side.Side.{Side}
use Rattle.wf_rotation.specs.declared.side.Side.TheVariants.{New, Old}
use Rattle.std.specs.List.{range_with_len}
use Rattle.std.proofs.lemmas.List.FromFn.{get_or-map-range_with_len, length-map-range_with_len}
use Rattle.wf_law_rules.proofs.Lemmas.Counts.{on-nil, on-first, on-cons_same, on-cons_other, on-append}
use Rattle.wf_rotation.proofs.CountLemmas.{few}
use Rattle.wf_rotation.proofs.ListsLemmas.{first_is}

-- a walk with enough room goes to the end of the chain
pub walk-leads : (n : ℕ) (next : List ℕ) (h : ℕ) (xs : List ℕ) → Leads next h xs → length xs ≤ n →
    walk n next h ≡ xs
unfolding walk Leads
walk-leads zero next h [] l few = refl
walk-leads zero next h (x ∷ xs) l few = absurd (omega arith)
walk-leads (suc n) next h [] l few = rw (le-ltb h (length next) l)
walk-leads (suc n) next h (x ∷ xs) l few =
    let e : h ≡ x = l.0 in
    let low : x < length next = l.1 in
    rw (e, lt-ltb x (length next) low, walk-leads n next (entry_at next x) xs l.2 (omega arith))

pub leads-below : (next : List ℕ) (h : ℕ) (xs : List ℕ) → Leads next h xs → (k : ℕ) → 0 < on xs k →
    k < length next
unfolding Leads
leads-below next h [] l k stands = absurd (omega (arith, on-nil k))
leads-below next h (x ∷ xs) l k stands = elim (cases_eq x k) [
  | inl e ↦ subst (λ (m : ℕ). m < length next) e l.1
  | inr other ↦ leads-below next (entry_at next x) xs l.2 k (omega (arith, on-cons_other x k xs other))
]

-- a write past the keys of a chain leaves it
pub leads-set_other : (next : List ℕ) (h : ℕ) (xs : List ℕ) (k v : ℕ) → on xs k ≡ 0 → Leads next h xs →
    Leads (set next k v) h xs
unfolding Leads
leads-set_other next h [] k v none l = rw length-set l
leads-set_other next h (x ∷ xs) k v none l =
    let other : x ≡ k → ⊥ = λ e. let here : on (x ∷ xs) k ≡ 1 + on xs k =
    subst (λ (m : ℕ). on (x ∷ xs) m ≡ 1 + on xs m) e (on-cons_same x xs) in omega arith in (
      l.0,
      rw length-set l.1,
      rw (get_or-set_other next k x v 0 other)
          (leads-set_other next (entry_at next x) xs k v (omega (arith, on-first x k xs)) l.2),
    )

-- one more key at the end of a chain: its last key t leads to k, and k is the end
pub leads-put : (next : List ℕ) (h : ℕ) (ys : List ℕ) (t k : ℕ) → on ys t ≡ 0 → on ys k ≡ 0 → (t ≡ k → ⊥) →
    k < length next → length next ≤ entry_at next k →
    Leads next h (ys ++ t ∷ []) → Leads (set next t k) h (ys ++ t ∷ k ∷ [])
unfolding Leads
leads-put next h [] t k none_t none_k apart low ended l = (
  l.0,
  rw length-set l.1,
  rw (get_or-set_same next t k 0 l.1)
      (refl, rw length-set low, rw (length-set, get_or-set_other next t k k 0 (λ e. apart (sym e))) ended),
)
leads-put next h (y ∷ ys) t k none_t none_k apart low ended l =
    let other : y ≡ t → ⊥ = λ e. let here : on (y ∷ ys) t ≡ 1 + on ys t =
    subst (λ (m : ℕ). on (y ∷ ys) m ≡ 1 + on ys m) e (on-cons_same y ys) in omega arith in (
      l.0,
      rw length-set l.1,
      rw (get_or-set_other next t y k 0 other)
          (leads-put next (entry_at next y) ys t k (omega (arith, on-first y t ys))
          (omega (arith, on-first y k ys)) apart low ended l.2),
    )

-- a list that is not empty ends with its last key
pub ends-front : (x : ℕ) (xs : List ℕ) (t : ℕ) → EndsWith (x ∷ xs) t → (ys : List ℕ) × (x ∷ xs ≡ ys ++ t ∷ [])
unfolding EndsWith
ends-front x [] t e = ([], ap (λ (m : ℕ). m ∷ []) e)
ends-front x (y ∷ ys) t e =
    let deeper : (zs : List ℕ) × (y ∷ ys ≡ zs ++ t ∷ []) = ends-front y ys t e in
    (x ∷ deeper.0, ap (λ (l : List ℕ). x ∷ l) deeper.1)

pub ends-push : (ys : List ℕ) (t : ℕ) → EndsWith (ys ++ t ∷ []) t
unfolding EndsWith
ends-push [] t = refl
ends-push (x ∷ []) t = refl
ends-push (x ∷ y ∷ ys) t = ends-push (y ∷ ys) t

pub ends-rest : (x : ℕ) (xs : List ℕ) (t : ℕ) → EndsWith (x ∷ xs) t → EndsWith xs t
unfolding EndsWith
ends-rest x [] t e = tt
ends-rest x (y ∷ ys) t e = e

-- the chains are what they were made to be
pub chain-is : (next heads tails : List ℕ) (lists : ℕ) (keys_of : ℕ → List ℕ) →
    Chains next heads tails lists keys_of → (slot : ℕ) → slot < 2 * lists →
    chain next heads slot ≡ keys_of slot
chain-is next heads tails lists keys_of ok slot low =
    walk-leads (length next) next (entry_at heads slot) (keys_of slot) (ok.leads slot low)
    (few (length next) (keys_of slot) (λ k. ok.once slot k low)
    (leads-below next (entry_at heads slot) (keys_of slot) (ok.leads slot low)))

pub chains_again : (next heads tails : List ℕ) (lists : ℕ) (keys_of : ℕ → List ℕ) →
    Chains next heads tails lists keys_of → Chains next heads tails lists (chain next heads)
chains_again next heads tails lists keys_of ok = record {
  leads = λ s low. rw (is s low) (ok.leads s low);
  ends = λ s low. rw (is s low) (ok.ends s low);
  once = λ s k low. rw (is s low) (ok.once s k low);
  apart = λ s o k low high here there. ok.apart s o k low high
      (subst (λ (xs : List ℕ). 0 < on xs k) (is s low) here)
      (subst (λ (xs : List ℕ). 0 < on xs k) (is o high) there);
}
  where
    is : (s : ℕ) → s < 2 * lists → chain next heads s ≡ keys_of s
    is = chain-is next heads tails lists keys_of ok

-- the lists with one of them changed
abbrev pub with_slot : (ℕ → List ℕ) → ℕ → List ℕ → ℕ → List ℕ
with_slot keys_of slot ys s = cond (eqb s slot) ys (keys_of s)

pub with_slot-here : (keys_of : ℕ → List ℕ) (slot : ℕ) (ys : List ℕ) (s : ℕ) → s ≡ slot →
    with_slot keys_of slot ys s ≡ ys
with_slot-here keys_of slot ys s e = rw (eq-eqb s slot e)

pub with_slot-other : (keys_of : ℕ → List ℕ) (slot : ℕ) (ys : List ℕ) (s : ℕ) → (s ≡ slot → ⊥) →
    with_slot keys_of slot ys s ≡ keys_of s
with_slot-other keys_of slot ys s other = rw (ne_eqb s slot other)

-- no key is on two lists after a change, if no key of the changed list is on another
pub with_slot-apart : (keys_of : ℕ → List ℕ) (lists slot : ℕ) (ys : List ℕ) →
    ((s o k : ℕ) → s < 2 * lists → o < 2 * lists → 0 < on (keys_of s) k → 0 < on (keys_of o) k → s ≡ o) →
    ((k : ℕ) → 0 < on ys k → (o : ℕ) → o < 2 * lists → (o ≡ slot → ⊥) → 0 < on (keys_of o) k → ⊥) →
    (s o k : ℕ) → s < 2 * lists → o < 2 * lists → 0 < on (with_slot keys_of slot ys s) k →
    0 < on (with_slot keys_of slot ys o) k → s ≡ o
with_slot-apart keys_of lists slot ys before fresh s o k l h here there = elim (cases_eq s slot) [
  | inl e ↦ elim (cases_eq o slot) [
    | inl f ↦ e ∙ sym f
    | inr other ↦ absurd (fresh k (rw (with_slot-here keys_of slot ys s e) at here) o h other
        (rw (with_slot-other keys_of slot ys o other) at there))
  ]
  | inr differs ↦ elim (cases_eq o slot) [
    | inl f ↦ absurd (fresh k (rw (with_slot-here keys_of slot ys o f) at there) s l differs
        (rw (with_slot-other keys_of slot ys s differs) at here))
    | inr other ↦ before s o k l h (rw (with_slot-other keys_of slot ys s differs) at here)
        (rw (with_slot-other keys_of slot ys o other) at there)
  ]
]

-- the first key of a chain is taken off
pub taken : (next heads tails : List ℕ) (lists slot x : ℕ) (xs : List ℕ) →
    Chains next heads tails lists (chain next heads) → slot < length heads → slot < 2 * lists →
    chain next heads slot ≡ x ∷ xs →
    Chains next (set heads slot (entry_at next x)) tails lists (with_slot (chain next heads) slot xs)
unfolding Leads
taken next heads tails lists slot x xs ok there low is = record {
  leads = λ s l. elim (cases_eq s slot) [
    | inl e ↦ rw (
      with_slot-here (chain next heads) slot xs s e,
      e,
      get_or-set_same heads slot (entry_at next x) 0 there,
    )
        (subst (Leads next (entry_at heads slot)) is (ok.leads slot low)).2
    | inr other ↦ rw (
      with_slot-other (chain next heads) slot xs s other,
      get_or-set_other heads slot s (entry_at next x) 0 other,
    ) (ok.leads s l)
  ];
  ends = λ s l. elim (cases_eq s slot) [
    | inl e ↦ rw (with_slot-here (chain next heads) slot xs s e, e)
        (ends-rest x xs (entry_at tails slot) (subst (λ (ys : List ℕ). EndsWith ys (entry_at tails slot)) is
        (ok.ends slot low)))
    | inr other ↦ rw (with_slot-other (chain next heads) slot xs s other) (ok.ends s l)
  ];
  once = λ s k l. omega (arith, fewer s k, ok.once s k l);
  apart = λ s o k l h here there. ok.apart s o k l h (omega (arith, fewer s k)) (omega (arith, fewer o k));
}
  where
    fewer : (s k : ℕ) → on (with_slot (chain next heads) slot xs s) k ≤ on (chain next heads s) k
    fewer s k = elim (cases_eq s slot) [
      | inl e ↦ rw (with_slot-here (chain next heads) slot xs s e, e, is) (omega (arith, on-first x k xs))
      | inr other ↦ rw (with_slot-other (chain next heads) slot xs s other) (omega arith)
    ]

-- a key that stands nowhere is put last on a chain that has keys
pub put_on : (next heads tails : List ℕ) (lists slot key : ℕ) (x : ℕ) (xs : List ℕ) →
    Chains next heads tails lists (chain next heads) → slot < length tails → slot < 2 * lists →
    key < length next →
    ((s : ℕ) → s < 2 * lists → on (chain next heads s) key ≡ 0) → chain next heads slot ≡ x ∷ xs →
    Chains (set (set next key (length next)) (entry_at tails slot) key) heads (set tails slot key) lists
    (with_slot (chain next heads) slot (chain next heads slot ++ key ∷ []))
put_on next heads tails lists slot key x xs ok there low in_keys unlisted is = record {
  leads = λ s l. elim (cases_eq s slot) [
    | inl e ↦ rw (with_slot-here (chain next heads) slot (chain next heads slot ++ key ∷ []) s e, e)
        here_leads
    | inr other ↦ rw (with_slot-other (chain next heads) slot (chain next heads slot ++ key ∷ []) s other)
        (leads-set_other (set next key (length next)) (entry_at heads s) (chain next heads s) t key
        (not_t s l other) (leads-set_other next (entry_at heads s) (chain next heads s) key (length next)
        (unlisted s l) (ok.leads s l)))
  ];
  ends = λ s l. elim (cases_eq s slot) [
    | inl e ↦ rw (
      with_slot-here (chain next heads) slot (chain next heads slot ++ key ∷ []) s e,
      e,
      get_or-set_same tails slot key 0 there,
    ) (ends-push (chain next heads slot) key)
    | inr other ↦ rw (
      with_slot-other (chain next heads) slot (chain next heads slot ++ key ∷ []) s other,
      get_or-set_other tails slot s key 0 other,
    ) (ok.ends s l)
  ];
  once = λ s k l. elim (cases_eq s slot) [
    | inl e ↦ rw (with_slot-here (chain next heads) slot (chain next heads slot ++ key ∷ []) s e)
        (once_here k)
    | inr other ↦ rw (with_slot-other (chain next heads) slot (chain next heads slot ++ key ∷ []) s other)
        (ok.once s k l)
  ];
  apart = with_slot-apart (chain next heads) lists slot (chain next heads slot ++ key ∷ []) ok.apart
      (λ k stands o l other on_o. elim (cases_eq key k) [
        | inl e ↦
            let none : on (chain next heads o) k ≡ 0 = subst (λ (m : ℕ). on (chain next heads o) m ≡ 0) e
            (unlisted o l) in
            omega arith
        | inr differs ↦ other (ok.apart o slot k l low on_o
            (omega (
              arith,
              on-append (chain next heads slot) (key ∷ []) k,
              on-cons_other key k [] differs,
              on-nil k,
            )))
      ]);
}
  where
    t : ℕ
    t = entry_at tails slot

    front : (ys : List ℕ) × (x ∷ xs ≡ ys ++ t ∷ [])
    front = ends-front x xs t (subst (λ (ys : List ℕ). EndsWith ys t) is (ok.ends slot low))

    split : chain next heads slot ≡ front.0 ++ t ∷ []
    split = is ∙ front.1

    on_t : on (chain next heads slot) t ≡ on front.0 t + 1
    on_t = ap (λ (ys : List ℕ). on ys t) split ∙ on-append front.0 (t ∷ []) t
        ∙ omega (arith, on-cons_same t [], on-nil t)

    not_t : (s : ℕ) → s < 2 * lists → (s ≡ slot → ⊥) → on (chain next heads s) t ≡ 0
    not_t s l other = elim (cases_lt 0 (on (chain next heads s) t)) [
      | inl stands ↦ absurd (other (ok.apart s slot t l low stands (omega (arith, on_t))))
      | inr none ↦ omega arith
    ]

    apart_key : t ≡ key → ⊥
    apart_key e =
        let none : on (chain next heads slot) key ≡ 0 = unlisted slot low in
        let same : on (chain next heads slot) t ≡ on (chain next heads slot) key =
        ap (on (chain next heads slot)) e in
        omega (arith, on_t)

    none_front : on front.0 key ≡ 0
    none_front = omega (
      arith,
      ap (λ (ys : List ℕ). on ys key) split,
      on-append front.0 (t ∷ []) key,
      unlisted slot low,
    )

    here_leads : Leads (set (set next key (length next)) t key) (entry_at heads slot)
        (chain next heads slot ++ key ∷ [])
    here_leads =
        let old : Leads (set next key (length next)) (entry_at heads slot) (front.0 ++ t ∷ []) =
        leads-set_other next (entry_at heads slot) (front.0 ++ t ∷ []) key (length next)
        (subst (λ (ys : List ℕ). on ys key ≡ 0) split (unlisted slot low))
        (subst (Leads next (entry_at heads slot)) split (ok.leads slot low)) in
        let ended : length (set next key (length next)) ≤ entry_at (set next key (length next)) key =
        rw (length-set, get_or-set_same next key (length next) 0 in_keys) (omega arith) in
        let in_set : key < length (set next key (length next)) = rw length-set in_keys in
        rw (split, append_assoc) (leads-put (set next key (length next)) (entry_at heads slot) front.0 t key
        (omega (arith, on_t, ok.once slot t low)) none_front apart_key in_set ended old)

    once_here : (k : ℕ) → on (chain next heads slot ++ key ∷ []) k ≤ 1
    once_here k = elim (cases_eq key k) [
      | inl e ↦ subst (λ (m : ℕ). on (chain next heads slot ++ key ∷ []) m ≤ 1) e
          (omega (
            arith,
            on-append (chain next heads slot) (key ∷ []) key,
            on-cons_same key [],
            on-nil key,
            unlisted slot low,
          ))
      | inr other ↦ omega (
        arith,
        on-append (chain next heads slot) (key ∷ []) k,
        on-cons_other key k [] other,
        on-nil k,
        ok.once slot k low,
      )
    ]

-- a key that stands nowhere is put on an empty chain
pub put_first : (next heads tails : List ℕ) (lists slot key : ℕ) →
    Chains next heads tails lists (chain next heads) → slot < length heads → slot < length tails →
    slot < 2 * lists → key < length next →
    ((s : ℕ) → s < 2 * lists → on (chain next heads s) key ≡ 0) → chain next heads slot ≡ [] →
    Chains (set next key (length next)) (set heads slot key) (set tails slot key) lists
    (with_slot (chain next heads) slot (chain next heads slot ++ key ∷ []))
unfolding Leads EndsWith
put_first next heads tails lists slot key ok there there_too low in_keys unlisted is = record {
  leads = λ s l. elim (cases_eq s slot) [
    | inl e ↦ rw (
      with_slot-here (chain next heads) slot (chain next heads slot ++ key ∷ []) s e,
      e,
      is,
      get_or-set_same heads slot key 0 there,
    ) (
      refl,
      rw length-set in_keys,
      rw (length-set, get_or-set_same next key (length next) 0 in_keys)
          (omega arith),
    )
    | inr other ↦ rw (
      with_slot-other (chain next heads) slot (chain next heads slot ++ key ∷ []) s other,
      get_or-set_other heads slot s key 0 other,
    )
        (leads-set_other next (entry_at heads s) (chain next heads s) key (length next) (unlisted s l)
        (ok.leads s l))
  ];
  ends = λ s l. elim (cases_eq s slot) [
    | inl e ↦ rw (
      with_slot-here (chain next heads) slot (chain next heads slot ++ key ∷ []) s e,
      e,
      is,
      get_or-set_same tails slot key 0 there_too,
    ) refl
    | inr other ↦ rw (
      with_slot-other (chain next heads) slot (chain next heads slot ++ key ∷ []) s other,
      get_or-set_other tails slot s key 0 other,
    ) (ok.ends s l)
  ];
  once = λ s k l. elim (cases_eq s slot) [
    | inl e ↦ rw (with_slot-here (chain next heads) slot (chain next heads slot ++ key ∷ []) s e, is) (one k)
    | inr other ↦ rw (with_slot-other (chain next heads) slot (chain next heads slot ++ key ∷ []) s other)
        (ok.once s k l)
  ];
  apart = with_slot-apart (chain next heads) lists slot (chain next heads slot ++ key ∷ []) ok.apart
      (λ k stands o l other on_o. elim (cases_eq key k) [
        | inl e ↦
            let none : on (chain next heads o) k ≡ 0 = subst (λ (m : ℕ). on (chain next heads o) m ≡ 0) e
            (unlisted o l) in
            omega arith
        | inr differs ↦ other (ok.apart o slot k l low on_o
            (omega (
              arith,
              on-append (chain next heads slot) (key ∷ []) k,
              on-cons_other key k [] differs,
              on-nil k,
            )))
      ]);
}
  where
    one : (k : ℕ) → on (key ∷ []) k ≤ 1
    one k = elim (cases_eq key k) [
      | inl e ↦ subst (λ (m : ℕ). on (key ∷ []) m ≤ 1) e (omega (arith, on-cons_same key [], on-nil key))
      | inr other ↦ omega (arith, on-cons_other key k [] other, on-nil k)
    ]

-- two chains become one: the last key t of the first leads to the start of the second
pub leads-join : (next : List ℕ) (h g t : ℕ) (ys zs : List ℕ) → on ys t ≡ 0 → t < length next →
    Leads next h (ys ++ t ∷ []) → Leads (set next t g) g zs → Leads (set next t g) h (ys ++ t ∷ zs)
unfolding Leads
leads-join next h g t [] zs none low l m = (l.0, rw length-set l.1, rw (get_or-set_same next t g 0 low) m)
leads-join next h g t (y ∷ ys) zs none low l m =
    let other : y ≡ t → ⊥ = λ e. let here : on (y ∷ ys) t ≡ 1 + on ys t =
    subst (λ (k : ℕ). on (y ∷ ys) k ≡ 1 + on ys k) e (on-cons_same y ys) in omega arith in (
      l.0,
      rw length-set l.1,
      rw (get_or-set_other next t y g 0 other)
          (leads-join next (entry_at next y) g t ys zs (omega (arith, on-first y t ys)) low l.2 m),
    )

-- a chain is cut after a key
pub leads-cut : (next : List ℕ) (h p n : ℕ) (ys zs : List ℕ) → on ys p ≡ 0 → length next ≤ n →
    Leads next h (ys ++ p ∷ zs) → Leads (set next p n) h (ys ++ p ∷ [])
unfolding Leads
leads-cut next h p n [] zs none past l = (
  l.0,
  rw length-set l.1,
  rw (length-set, get_or-set_same next p n 0 l.1) past,
)
leads-cut next h p n (y ∷ ys) zs none past l =
    let other : y ≡ p → ⊥ = λ e. let here : on (y ∷ ys) p ≡ 1 + on ys p =
    subst (λ (k : ℕ). on (y ∷ ys) k ≡ 1 + on ys k) e (on-cons_same y ys) in omega arith in (
      l.0,
      rw length-set l.1,
      rw (get_or-set_other next p y n 0 other)
          (leads-cut next (entry_at next y) p n ys zs (omega (arith, on-first y p ys)) past l.2),
    )

-- the part of a chain from a key on
pub leads-from : (next : List ℕ) (h p : ℕ) (ys zs : List ℕ) → Leads next h (ys ++ p ∷ zs) →
    Leads next p (p ∷ zs)
unfolding Leads
leads-from next h p [] zs l = (refl, l.1, l.2)
leads-from next h p (y ∷ ys) zs l = leads-from next (entry_at next y) p ys zs l.2

-- the key that a link leads to
pub leads-first : (next : List ℕ) (h : ℕ) (xs : List ℕ) → Leads next h xs →
    (h < length next → first_of xs ≡ Some h) × (length next ≤ h → xs ≡ [])
unfolding Leads
leads-first next h [] l = ((λ low. absurd (omega arith)), (λ _. refl))
leads-first next h (x ∷ xs) l =
    let e : h ≡ x = l.0 in
    let low : x < length next = l.1 in
    ((λ _. ap (λ (k : ℕ). let o : Option ℕ = Some k in o) (sym e)), (λ past. absurd (omega arith)))

-- one rotation's lists change, of those below n
pub one_changed_below : (f g : ℕ → Rotation) (n l : ℕ) (x : Rotation) → l < n → g l ≡ x →
    ((k : ℕ) → k < n → (k ≡ l → ⊥) → g k ≡ f k) →
    map g (range_with_len 0 n) ≡ set (map f (range_with_len 0 n)) l x
one_changed_below f g n l x low here others =
    ext_get_or no_keys (map g (range_with_len 0 n)) (set (map f (range_with_len 0 n)) l x)
    (length-map-range_with_len g 0 n ∙ sym (length-set (map f (range_with_len 0 n)) l x
    ∙ length-map-range_with_len f 0 n))
    (λ k within. each k (subst (λ (m : ℕ). k < m) (length-map-range_with_len g 0 n) within))
  where
    each : (k : ℕ) → k < n → get_or (map g (range_with_len 0 n)) k no_keys
        ≡ get_or (set (map f (range_with_len 0 n)) l x) k no_keys
    each k within = get_or-map-range_with_len g 0 n k k no_keys within (omega arith) ∙ (elim (cases_eq k l) [
      | inl e ↦
          let long : l < length (map f (range_with_len 0 n)) =
          omega (arith, length-map-range_with_len f 0 n) in
          ap g e ∙ here ∙ sym (ap (λ (m : ℕ). get_or (set (map f (range_with_len 0 n)) l x) m no_keys) e
          ∙ get_or-set_same (map f (range_with_len 0 n)) l x no_keys long)
      | inr other ↦ others k within other ∙ sym (get_or-set_other
          (map f (range_with_len 0 n)) l k x no_keys other
          ∙ get_or-map-range_with_len f 0 n k k no_keys within (omega arith))
    ])

pub length-all_chains : (next heads : List ℕ) (lists : ℕ) → length (all_chains next heads lists) ≡ lists
length-all_chains next heads lists = length-map-range_with_len (chain_lists next heads) 0 lists

pub at_chain : (next heads : List ℕ) (lists l : ℕ) → l < lists →
    lists_at (all_chains next heads lists) l ≡ chain_lists next heads l
at_chain next heads lists l low = get_or-map-range_with_len (chain_lists next heads) 0 lists l l no_keys low
    (omega arith)

pub keys_at_chain : (next heads : List ℕ) (lists l : ℕ) (s : Side) → l < lists →
    keys_at (all_chains next heads lists) l s ≡ chain next heads (slot_of l s)
keys_at_chain next heads lists l New low = ap (λ (x : Rotation). x.new) (at_chain next heads lists l low)
keys_at_chain next heads lists l Old low = ap (λ (x : Rotation). x.old) (at_chain next heads lists l low)

pub slot_low : (l lists : ℕ) (s : Side) → l < lists → slot_of l s < 2 * lists
slot_low l lists New low = omega arith
slot_low l lists Old low = omega arith

abbrev pair : List ℕ → List ℕ → Rotation
pair news olds = record { new = news; old = olds }

-- the lists after one chain has changed
pub view_changed : (next heads next' heads' tails' : List ℕ) (lists l : ℕ) (s : Side) (ys : List ℕ) →
    l < lists → Chains next' heads' tails' lists (with_slot (chain next heads) (slot_of l s) ys) →
    all_chains next' heads' lists ≡ with_keys (all_chains next heads lists) l s ys
view_changed next heads next' heads' tails' lists l s ys low ok =
    one_changed_below (chain_lists next heads) (chain_lists next' heads') lists l
    (with_side (lists_at (all_chains next heads lists) l) s ys) low
    (here s ok ∙ sym (ap (λ (x : Rotation). with_side x s ys) (at_chain next heads lists l low)))
    (λ k within other. pairs (there k within other New s ok) (there k within other Old s ok))
  where
    pairs : {a b c d : List ℕ} → a ≡ b → c ≡ d → pair a c ≡ pair b d
    pairs p q = rw (p, q)

    is : (s : Side) → Chains next' heads' tails' lists (with_slot (chain next heads) (slot_of l s) ys) →
        (m : ℕ) → m < 2 * lists → chain next' heads' m ≡ with_slot (chain next heads) (slot_of l s) ys m
    is s ok = chain-is next' heads' tails' lists (with_slot (chain next heads) (slot_of l s) ys) ok

    differ : (k : ℕ) (t s : Side) → (k ≡ l → ⊥) → slot_of k t ≡ slot_of l s → ⊥
    differ k New New other e = other (omega arith)
    differ k New Old other e = omega arith
    differ k Old New other e = omega arith
    differ k Old Old other e = other (omega arith)

    there : (k : ℕ) → k < lists → (k ≡ l → ⊥) → (t s : Side) →
        Chains next' heads' tails' lists (with_slot (chain next heads) (slot_of l s) ys) →
        chain next' heads' (slot_of k t) ≡ chain next heads (slot_of k t)
    there k within other t s ok = is s ok (slot_of k t) (slot_low k lists t within)
        ∙ with_slot-other (chain next heads) (slot_of l s) ys (slot_of k t) (differ k t s other)

    here : (s : Side) → Chains next' heads' tails' lists (with_slot (chain next heads) (slot_of l s) ys) →
        chain_lists next' heads' l ≡ with_side (chain_lists next heads l) s ys
    here New ok = pairs (is New ok (2 * l) (omega arith)
        ∙ with_slot-here (chain next heads) (2 * l) ys (2 * l) refl)
        (is New ok (2 * l + 1) (omega arith) ∙ with_slot-other (chain next heads) (2 * l) ys (2 * l + 1)
        (λ e. omega arith))
    here Old ok = pairs (is Old ok (2 * l) (omega arith)
        ∙ with_slot-other (chain next heads) (2 * l + 1) ys (2 * l) (λ e. omega arith))
        (is Old ok (2 * l + 1) (omega arith) ∙ with_slot-here (chain next heads) (2 * l + 1) ys
        (2 * l + 1) refl)

-- what a head says of its list
pub first_chain : (next heads tails : List ℕ) (lists l : ℕ) (s : Side) → AreLinks next heads tails lists →
    l < lists →
    (entry_at heads (slot_of l s) < length next →
    first_of (keys_at (all_chains next heads lists) l s) ≡ Some (entry_at heads (slot_of l s)))
    × (length next ≤ entry_at heads (slot_of l s) → keys_at (all_chains next heads lists) l s ≡ [])
first_chain next heads tails lists l s ok low =
    let both : (entry_at heads (slot_of l s) < length next →
    first_of (chain next heads (slot_of l s)) ≡ Some (entry_at heads (slot_of l s))) ×
    (length next ≤ entry_at heads (slot_of l s) → chain next heads (slot_of l s) ≡ []) =
    leads-first next (entry_at heads (slot_of l s)) (chain next heads (slot_of l s))
    (ok.chains.leads (slot_of l s) (slot_low l lists s low)) in (
      (λ h. ap first_of (keys_at_chain next heads lists l s low) ∙ both.0 h),
      (λ h. keys_at_chain next heads lists l s low ∙ both.1 h),
    )

pub not_empty : (ys : List ℕ) (p : ℕ) (zs : List ℕ) → ys ++ p ∷ zs ≡ [] → ⊥
not_empty [] p zs e = cc
not_empty (y ∷ ys) p zs e = cc

pub not_empty-on : (xs : List ℕ) (k : ℕ) → 0 < on xs k → xs ≡ [] → ⊥
not_empty-on xs k listed e = omega (arith, ap (λ (ys : List ℕ). on ys k) e, on-nil k)

pub leads-rest : (next : List ℕ) (h key : ℕ) (rest : List ℕ) → Leads next h (key ∷ rest) →
    Leads next (entry_at next key) rest
unfolding Leads
leads-rest next h key rest l = l.2

-- a key with a rest after it on its list
pub after_chain : (next heads tails : List ℕ) (lists l : ℕ) (s : Side) (key : ℕ) (before rest : List ℕ) →
    AreLinks next heads tails lists → l < lists →
    keys_at (all_chains next heads lists) l s ≡ before ++ key ∷ rest →
    (entry_at next key < length next → first_of rest ≡ Some (entry_at next key)) ×
    (length next ≤ entry_at next key → rest ≡ [])
after_chain next heads tails lists l s key before rest ok low is =
    leads-first next (entry_at next key) rest
    (leads-rest next key key rest (leads-from next (entry_at heads (slot_of l s)) key before rest
    (subst (Leads next (entry_at heads (slot_of l s))) (sym (keys_at_chain next heads lists l s low) ∙ is)
    (ok.chains.leads (slot_of l s) (slot_low l lists s low)))))

pub chains_disjoint : (next heads tails : List ℕ) (lists : ℕ) → AreLinks next heads tails lists →
    AreDisjoint (record { lists = all_chains next heads lists; keys = length next })
chains_disjoint next heads tails lists ok = record {
  once = λ l key. elim (cases_lt l lists) [
    | inl low ↦ elim (cases_lt 0 (on (chain next heads (2 * l)) key)) [
      | inl here ↦ elim (cases_lt 0 (on (chain next heads (2 * l + 1)) key)) [
        | inl there ↦ absurd (apart l key low here there)
        | inr absent ↦ omega (arith, on_is l key low, ok.chains.once (2 * l) key (omega arith))
      ]
      | inr absent ↦ omega (arith, on_is l key low, ok.chains.once (2 * l + 1) key (omega arith))
    ]
    | inr past ↦ omega (arith, none l key past)
  ];
  one_list = λ l m key here there. elim (cases_lt l lists) [
    | inl low ↦ elim (cases_lt m lists) [
      | inl low_m ↦ same l m key low low_m (omega (arith, on_is l key low)) (omega (arith, on_is m key low_m))
      | inr past ↦ absurd (omega (arith, none m key past))
    ]
    | inr past ↦ absurd (omega (arith, none l key past))
  ];
  below = λ l key here. elim (cases_lt l lists) [
    | inl low ↦ elim (cases_lt 0 (on (chain next heads (2 * l)) key)) [
      | inl stands ↦ leads-below next (entry_at heads (2 * l)) (chain next heads (2 * l))
          (ok.chains.leads (2 * l) (omega arith)) key stands
      | inr absent ↦ leads-below next (entry_at heads (2 * l + 1)) (chain next heads (2 * l + 1))
          (ok.chains.leads (2 * l + 1) (omega arith)) key (omega (arith, on_is l key low))
    ]
    | inr past ↦ absurd (omega (arith, none l key past))
  ];
}
  where
    on_is : (l key : ℕ) → l < lists → on_at (all_chains next heads lists) l key
        ≡ on (chain next heads (2 * l + 1)) key + on (chain next heads (2 * l)) key
    on_is l key low = ap (λ (x : Rotation). on (in_order x) key) (at_chain next heads lists l low)
        ∙ on-append (chain next heads (2 * l + 1)) (chain next heads (2 * l)) key

    none : (l key : ℕ) → lists ≤ l → on_at (all_chains next heads lists) l key ≡ 0
    none l key past =
        let long : length (all_chains next heads lists) ≤ l =
        omega (arith, length-all_chains next heads lists) in
        ap (λ (x : Rotation). on (in_order x) key) (get_or_past (all_chains next heads lists) l no_keys long)
        ∙ on-nil key

    apart : (l key : ℕ) → l < lists → 0 < on (chain next heads (2 * l)) key →
        0 < on (chain next heads (2 * l + 1)) key → ⊥
    apart l key low a b =
        let e : 2 * l ≡ 2 * l + 1 = ok.chains.apart (2 * l) (2 * l + 1) key (omega arith) (omega arith) a b in
        omega arith

    same : (l m key : ℕ) → l < lists → m < lists →
        0 < on (chain next heads (2 * l + 1)) key + on (chain next heads (2 * l)) key →
        0 < on (chain next heads (2 * m + 1)) key + on (chain next heads (2 * m)) key → l ≡ m
    same l m key low low_m a b = elim (cases_lt 0 (on (chain next heads (2 * l)) key)) [
      | inl l_new ↦ elim (cases_lt 0 (on (chain next heads (2 * m)) key)) [
        | inl m_new ↦ (let e : 2 * l ≡ 2 * m = ok.chains.apart (2 * l) (2 * m) key (omega arith)
            (omega arith) l_new m_new in omega arith)
        | inr m_old ↦ (let e : 2 * l ≡ 2 * m + 1 = ok.chains.apart (2 * l) (2 * m + 1) key (omega arith)
            (omega arith) l_new (omega arith) in omega arith)
      ]
      | inr l_old ↦ elim (cases_lt 0 (on (chain next heads (2 * m)) key)) [
        | inl m_new ↦ (let e : 2 * l + 1 ≡ 2 * m = ok.chains.apart (2 * l + 1) (2 * m) key (omega arith)
            (omega arith) (omega arith) m_new in omega arith)
        | inr m_old ↦ (let e : 2 * l + 1 ≡ 2 * m + 1 =
            ok.chains.apart (2 * l + 1) (2 * m + 1) key (omega arith) (omega arith) (omega arith)
            (omega arith) in omega arith)
      ]
    ]

-- a key that is on no list is on no chain
pub unlisted_chain : (next heads : List ℕ) (lists key : ℕ) → IsOff (all_chains next heads lists) key →
    (slot : ℕ) → slot < 2 * lists → on (chain next heads slot) key ≡ 0
unlisted_chain next heads lists key none slot low = go (slot / 2) (slot % 2) refl refl
  where
    zero_at : (l : ℕ) → l < lists → on (chain next heads (2 * l + 1)) key + on (chain next heads (2 * l)) key
        ≡ 0
    zero_at l low = sym (ap (λ (x : Rotation). on (in_order x) key) (at_chain next heads lists l low)
        ∙ on-append (chain next heads (2 * l + 1)) (chain next heads (2 * l)) key) ∙ none l

    go : (l b : ℕ) → slot / 2 ≡ l → slot % 2 ≡ b → on (chain next heads slot) key ≡ 0
    go l zero dl db =
        let e : slot ≡ 2 * l = omega arith in
        rw e (omega (arith, zero_at l (omega arith)))
    go l (suc b) dl db =
        let e : slot ≡ 2 * l + 1 = omega arith in
        rw e (omega (arith, zero_at l (omega arith)))

-- the heads and tails of the lists are there
pub slots_there : (next heads tails : List ℕ) (lists l : ℕ) (s : Side) → AreLinks next heads tails lists →
    l < length (all_chains next heads lists) → (l < lists) × (slot_of l s < length heads) ×
    (slot_of l s < length tails)
slots_there next heads tails lists l s ok low =
    let below : l < lists = omega (arith, length-all_chains next heads lists) in
    let slot_below : slot_of l s < 2 * lists = slot_low l lists s below in
    (below, omega (arith, ok.heads_there), omega (arith, ok.tails_there))

-- the first key of a list is taken off: the links stay sound, and the list is the rest
pub take_done : (next heads tails : List ℕ) (lists l slot key v : ℕ) (s : Side) →
    AreLinks next heads tails lists → l < length (all_chains next heads lists) → slot ≡ slot_of l s →
    key ≡ entry_at heads (slot_of l s) → key < length next → v ≡ entry_at next key →
    (AreLinks next (set heads slot v) tails lists) ×
    (all_chains next (set heads slot v) lists
    ≡ with_keys (all_chains next heads lists) l s
    (keys_behind (keys_at (all_chains next heads lists) l s)))
take_done next heads tails lists l slot key v s ok in_lists at_slot at_key low at_v =
    rw (at_slot, at_v) (
      record {
        heads_there = length-set heads (slot_of l s) (entry_at next key) ∙ ok.heads_there;
        tails_there = ok.tails_there;
        chains = chains_again next (set heads (slot_of l s) (entry_at next key)) tails lists _ now;
      },
      view_changed next heads next (set heads (slot_of l s) (entry_at next key)) tails lists l s
          (keys_behind (chain next heads (slot_of l s))) there.0 now
          ∙ ap (λ (ks : List ℕ). with_keys (all_chains next heads lists) l s (keys_behind ks))
          (sym (keys_at_chain next heads lists l s there.0)),
    )
  where
    there : (l < lists) × (slot_of l s < length heads) × (slot_of l s < length tails)
    there = slots_there next heads tails lists l s ok in_lists

    is : chain next heads (slot_of l s) ≡ key ∷ keys_behind (chain next heads (slot_of l s))
    is = first_is (chain next heads (slot_of l s)) key
        ((leads-first next (entry_at heads (slot_of l s)) (chain next heads (slot_of l s))
        (ok.chains.leads (slot_of l s) (slot_low l lists s there.0))).0
        (subst (λ (k : ℕ). k < length next) at_key low)
        ∙ ap (λ (k : ℕ). let o : Option ℕ = Some k in o) (sym at_key))

    now : Chains next (set heads (slot_of l s) (entry_at next key)) tails lists
        (with_slot (chain next heads) (slot_of l s) (keys_behind (chain next heads (slot_of l s))))
    now = taken next heads tails lists (slot_of l s) key
        (keys_behind (chain next heads (slot_of l s))) ok.chains there.1 (slot_low l lists s there.0) is

-- a key is put last on a list that has keys
pub put_done : (next heads tails : List ℕ) (lists l slot key last none : ℕ) (s : Side) →
    AreLinks next heads tails lists → l < length (all_chains next heads lists) → slot ≡ slot_of l s →
    last ≡ entry_at tails (slot_of l s) → none ≡ length next → key < length next →
    IsOff (all_chains next heads lists) key → entry_at heads (slot_of l s) < length next →
    (AreLinks (set (set next key none) last key) heads (set tails slot key) lists) ×
    (all_chains (set (set next key none) last key) heads lists
    ≡ with_keys (all_chains next heads lists) l s (keys_at (all_chains next heads lists) l s ++ key ∷ []))
put_done next heads tails lists l slot key last none s ok in_lists at_slot at_last at_none low unlisted more =
    rw (at_slot, at_last, at_none) (
      record {
        heads_there = ok.heads_there;
        tails_there = length-set tails (slot_of l s) key ∙ ok.tails_there;
        chains = chains_again (set (set next key (length next)) (entry_at tails (slot_of l s)) key) heads
            (set tails (slot_of l s) key) lists _ now;
      },
      view_changed next heads (set (set next key (length next)) (entry_at tails (slot_of l s)) key) heads
          (set tails (slot_of l s) key) lists l s (chain next heads (slot_of l s) ++ key ∷ []) there.0 now
          ∙ ap (λ (ks : List ℕ). with_keys (all_chains next heads lists) l s (ks ++ key ∷ []))
          (sym (keys_at_chain next heads lists l s there.0)),
    )
  where
    there : (l < lists) × (slot_of l s < length heads) × (slot_of l s < length tails)
    there = slots_there next heads tails lists l s ok in_lists

    first : first_of (chain next heads (slot_of l s)) ≡ Some (entry_at heads (slot_of l s))
    first = (leads-first next (entry_at heads (slot_of l s)) (chain next heads (slot_of l s))
        (ok.chains.leads (slot_of l s) (slot_low l lists s there.0))).0 more

    now : Chains (set (set next key (length next)) (entry_at tails (slot_of l s)) key) heads
        (set tails (slot_of l s) key) lists (with_slot (chain next heads) (slot_of l s)
        (chain next heads (slot_of l s) ++ key ∷ []))
    now = put_on next heads tails lists (slot_of l s) key (entry_at heads (slot_of l s))
        (keys_behind (chain next heads (slot_of l s))) ok.chains there.2 (slot_low l lists s there.0) low
        (unlisted_chain next heads lists key unlisted)
        (first_is (chain next heads (slot_of l s)) (entry_at heads (slot_of l s)) first)

-- a key is put on an empty list
pub put_first_done : (next heads tails : List ℕ) (lists l slot key none : ℕ) (s : Side) →
    AreLinks next heads tails lists → l < length (all_chains next heads lists) → slot ≡ slot_of l s →
    none ≡ length next → key < length next →
    IsOff (all_chains next heads lists) key → length next ≤ entry_at heads (slot_of l s) →
    (AreLinks (set next key none) (set heads slot key) (set tails slot key) lists) ×
    (all_chains (set next key none) (set heads slot key) lists
    ≡ with_keys (all_chains next heads lists) l s (keys_at (all_chains next heads lists) l s ++ key ∷ []))
put_first_done next heads tails lists l slot key none s ok in_lists at_slot at_none low unlisted past =
    rw (at_slot, at_none) (
      record {
        heads_there = length-set heads (slot_of l s) key ∙ ok.heads_there;
        tails_there = length-set tails (slot_of l s) key ∙ ok.tails_there;
        chains = chains_again (set next key (length next)) (set heads (slot_of l s) key)
            (set tails (slot_of l s) key) lists _ now;
      },
      view_changed next heads (set next key (length next)) (set heads (slot_of l s) key)
          (set tails (slot_of l s) key) lists l s (chain next heads (slot_of l s) ++ key ∷ []) there.0 now
          ∙ ap (λ (ks : List ℕ). with_keys (all_chains next heads lists) l s (ks ++ key ∷ []))
          (sym (keys_at_chain next heads lists l s there.0)),
    )
  where
    there : (l < lists) × (slot_of l s < length heads) × (slot_of l s < length tails)
    there = slots_there next heads tails lists l s ok in_lists

    now : Chains (set next key (length next)) (set heads (slot_of l s) key)
        (set tails (slot_of l s) key) lists (with_slot (chain next heads) (slot_of l s)
        (chain next heads (slot_of l s) ++ key ∷ []))
    now = put_first next heads tails lists (slot_of l s) key ok.chains there.1 there.2
        (slot_low l lists s there.0) low (unlisted_chain next heads lists key unlisted)
        ((leads-first next (entry_at heads (slot_of l s)) (chain next heads (slot_of l s))
        (ok.chains.leads (slot_of l s) (slot_low l lists s there.0))).1 past)

-- the last key of a list that has keys
pub tail_below : (next heads tails : List ℕ) (lists l : ℕ) (s : Side) → AreLinks next heads tails lists →
    l < lists → entry_at heads (slot_of l s) < length next → entry_at tails (slot_of l s) < length next
tail_below next heads tails lists l s ok low more =
    let is : chain next heads (slot_of l s) ≡ entry_at heads (slot_of l s)
    ∷ keys_behind (chain next heads (slot_of l s)) =
    first_is (chain next heads (slot_of l s)) (entry_at heads (slot_of l s))
    ((leads-first next (entry_at heads (slot_of l s)) (chain next heads (slot_of l s))
    (ok.chains.leads (slot_of l s) (slot_low l lists s low))).0 more) in
    let front : (ys : List ℕ) × (entry_at heads (slot_of l s) ∷ keys_behind (chain next heads (slot_of l s))
    ≡ ys ++ entry_at tails (slot_of l s) ∷ []) =
    ends-front (entry_at heads (slot_of l s)) (keys_behind (chain next heads (slot_of l s)))
    (entry_at tails (slot_of l s)) (subst (λ (ys : List ℕ). EndsWith ys (entry_at tails (slot_of l s))) is
    (ok.chains.ends (slot_of l s) (slot_low l lists s low))) in
    leads-below next (entry_at heads (slot_of l s)) (chain next heads (slot_of l s))
    (ok.chains.leads (slot_of l s) (slot_low l lists s low)) (entry_at tails (slot_of l s))
    (omega (
      arith,
      ap (λ (ys : List ℕ). on ys (entry_at tails (slot_of l s))) (is ∙ front.1),
      on-append front.0 (entry_at tails (slot_of l s) ∷ []) (entry_at tails (slot_of l s)),
      on-cons_same (entry_at tails (slot_of l s)) [],
    ))

-- ---- what a call finds at a list

-- the lists that links represent
abbrev pub lists_of : List ℕ → List ℕ → ℕ → ℕ → AllLists
lists_of next heads lists keys = record { lists = all_chains next heads lists; keys = keys }

-- the lists with other keys on one of them
abbrev pub with_list : AllLists → ℕ → Side → List ℕ → AllLists
with_list v list side ys = record v { lists = with_keys v.lists list side ys }

-- The facts of a call about its links: they represent these lists, one of which has this slot.
module _ {next heads tails : List ℕ} {lists keys slot : ℕ} {v : AllLists} (list : ℕ) (side : Side)
    (ok : AreLinks next heads tails lists) (few : keys ≡ length next)
    (view : lists_of next heads lists keys ≡ v) (low : list < length v.lists)
    (at : slot ≡ slot_of list side) where
  in_lists : list < length (all_chains next heads lists)
  in_lists = subst (λ (w : AllLists). list < length w.lists) (sym view) low

  there : (list < lists) × (slot_of list side < length heads) × (slot_of list side < length tails)
  there = slots_there next heads tails lists list side ok in_lists

  pub head_there : slot < length heads
  head_there = rw at there.1

  pub tail_there : slot < length tails
  tail_there = rw at there.2

  head_read : (head : ℕ) → head ≡ get_or heads slot head → head ≡ entry_at heads (slot_of list side)
  head_read head is = get_or_read heads slot head head_there is 0 ∙ ap (entry_at heads) at

  tail_read : (last : ℕ) → last ≡ get_or tails slot last → last ≡ entry_at tails (slot_of list side)
  tail_read last is = get_or_read tails slot last tail_there is 0 ∙ ap (entry_at tails) at

  key_low : (key : ℕ) → key < v.keys → key < length next
  key_low key below = omega (arith, few, subst (λ (w : AllLists). key < w.keys) (sym view) below)

  -- the head that is read is the list's first key, or the list is empty
  pub first_read : (head : ℕ) → head ≡ get_or heads slot head →
      (head < keys → first_of (keys_at v.lists list side) ≡ Some head)
      × (keys ≤ head → keys_at v.lists list side ≡ [])
  first_read head is =
      let read : head ≡ entry_at heads (slot_of list side) = head_read head is in
      let first = first_chain next heads tails lists list side ok there.0 in
      rw (← view) (
        (λ more. first.0 (omega (arith, read, few, more))
            ∙ ap (λ (k : ℕ). let o : Option ℕ = Some k in o) (sym read)),
        (λ past. first.1 (omega (arith, read, few, past))),
      )

  -- the head that is read is the first key of a list that has keys
  pub first_some : (head : ℕ) → head ≡ get_or heads slot head → (keys_at v.lists list side ≡ [] → ⊥) →
      (head < keys) × (first_of (keys_at v.lists list side) ≡ Some head)
  first_some head is some = elim (cases_lt head keys) [
    | inl low ↦ (low, (first_read head is).0 low)
    | inr past ↦ absurd (some ((first_read head is).1 past))
  ]

  -- the tail that is read is the list's last key
  pub ends_read : (last : ℕ) → last ≡ get_or tails slot last → EndsWith (keys_at v.lists list side) last
  ends_read last is = rw (← view, keys_at_chain next heads lists list side there.0, tail_read last is)
      (ok.chains.ends (slot_of list side) (slot_low list lists side there.0))

  -- the link that is read at a key of the list leads to the key after it, or there is none
  pub after_read : (key after : ℕ) (before rest : List ℕ) → key < v.keys → after ≡ get_or next key after →
      keys_at v.lists list side ≡ before ++ key ∷ rest →
      (after < keys → first_of rest ≡ Some after) × (keys ≤ after → rest ≡ [])
  after_read key after before rest below is keys_are =
      let read : after ≡ entry_at next key = get_or_read next key after (key_low key below) is 0 in
      let both = after_chain next heads tails lists list side key before rest ok there.0
      (subst (λ (w : AllLists). keys_at w.lists list side ≡ before ++ key ∷ rest) (sym view) keys_are) in (
        (λ more. both.0 (omega (arith, read, few, more))
            ∙ ap (λ (k : ℕ). let o : Option ℕ = Some k in o) (sym read)),
        (λ past. both.1 (omega (arith, read, few, past))),
      )

  -- the first key is taken off
  pub take_read : (key after : ℕ) → key ≡ get_or heads slot key → after ≡ get_or next key after →
      key < keys →
      (AreLinks next (set heads slot after) tails lists) ×
      (lists_of next (set heads slot after) lists keys
      ≡ with_list v list side (keys_behind (keys_at v.lists list side)))
  take_read key after head_is after_is more =
      let below : key < length next = omega (arith, few, more) in
      let done = take_done next heads tails lists list slot key after side ok in_lists at
      (head_read key head_is) below (get_or_read next key after below after_is 0) in (
        done.0,
        rw (← view) (ap (λ (ls : List Rotation). let w : AllLists =
            record { lists = ls; keys = keys } in w) done.1),
      )

  -- a key is put last, after others
  pub put_read : (key head last : ℕ) → key < v.keys → IsOff v.lists key → head ≡ get_or heads slot head →
      last ≡ get_or tails slot last → head < keys →
      (AreLinks (set (set next key keys) last key) heads (set tails slot key) lists) ×
      (lists_of (set (set next key keys) last key) heads lists keys
      ≡ with_list v list side (keys_at v.lists list side ++ key ∷ [])) × (last < length next)
  put_read key head last below unlisted head_is last_is more =
      let off : IsOff (all_chains next heads lists) key =
      subst (λ (w : AllLists). IsOff w.lists key) (sym view) unlisted in
      let last_at : last ≡ entry_at tails (slot_of list side) = tail_read last last_is in
      let some : entry_at heads (slot_of list side) < length next =
      omega (arith, head_read head head_is, few, more) in
      let done = put_done next heads tails lists list slot key last keys side ok in_lists at last_at few
      (key_low key below) off some in (
        done.0,
        rw (← view) (ap (λ (ls : List Rotation). let w : AllLists =
            record { lists = ls; keys = keys } in w) done.1),
        omega (arith, last_at, tail_below next heads tails lists list side ok there.0 some),
      )

  -- a key is put on a list that is empty
  pub put_first_read : (key head : ℕ) → key < v.keys → IsOff v.lists key → head ≡ get_or heads slot head →
      keys ≤ head →
      (AreLinks (set next key keys) (set heads slot key) (set tails slot key) lists) ×
      (lists_of (set next key keys) (set heads slot key) lists keys
      ≡ with_list v list side (keys_at v.lists list side ++ key ∷ []))
  put_first_read key head below unlisted head_is past =
      let off : IsOff (all_chains next heads lists) key =
      subst (λ (w : AllLists). IsOff w.lists key) (sym view) unlisted in
      let none : length next ≤ entry_at heads (slot_of list side) =
      omega (arith, head_read head head_is, few, past) in
      let done = put_first_done next heads tails lists list slot key keys side ok in_lists at few
      (key_low key below) off none in (
        done.0,
        rw (← view) (ap (λ (ls : List Rotation). let w : AllLists =
            record { lists = ls; keys = keys } in w) done.1),
      )
