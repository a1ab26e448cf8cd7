-- A scan finds the cut of the keys that it has seen, key by key.
use Rattle.std.proofs.Common.{◌≡◌, ℕ, ◌+◌, ◌^◌, ◌<◌, ◌≤◌, Bool, true, false, List, [], ◌∷◌, ◌++◌, length, take, drop, get_or, Option, Some, None, refl, sym, ap, ◌∙◌, subst, inl, inr, arith, length-append}
use Rattle.std.proofs.lemmas.Bool.{cases_eq, cases_lt, lt-ltb, le-ltb}
use Rattle.std.proofs.lemmas.List.{drop_all, drop_more, take_more, take-append-drop, take_all}
use Rattle.wf_def_rotation.specs.Rotation.{Rotation, in_order, round}
use Rattle.wf_rotation.specs.Cuts.{Cut, least}
use Rattle.wf_def_lists.specs.Lists.{on}
use Rattle.wf_rotation.proofs.PickLemmas.{round_new, round_old}
use Rattle.wf_rotation.specs.Lists.{AllLists, AreDisjoint, lists_at, keys_at, first_of}
use Rattle.wf_rotation.specs.declared.side.Side.{Side}
use Rattle.wf_rotation.specs.declared.side.Side.TheVariants.{New, Old}
use Rattle.wf_law_rules.proofs.Lemmas.Counts.{on-nil, on-append, on-cons_same, on-cons_other}
use Rattle.wf_rotation.specs.Scan.{Describes, IsFound, best_after, IsRoundOn}
use Rattle.wf_rotation.specs.declared.scan.Best.{Best}
use Rattle.wf_rotation.specs.declared.scan.Found.{Found}
use Rattle.wf_rotation.proofs.LeastLemmas.{least-append, appended}

describes_more : (ready : ℕ → Bool) (order : ℕ → ℕ) (seen : List ℕ) (here : Best) (r : Bool)
    (best : Option Best) (o : Option Cut) → Describes order best o → here.place ≡ length seen →
    order here.key ≡ here.rank → ready here.key ≡ r → here.rank ≤ 2 ^ 63 →
    Describes order (best_after best here r) (appended ready order seen here.key o)
describes_more ready order seen here true None None d place rank is few = rw is (refl, sym rank, place, few)
describes_more ready order seen here false None None d place rank is few = rw is tt
describes_more ready order seen here r None (Some c) d place rank is few = absurd d
describes_more ready order seen here r (Some b) None d place rank is few = absurd d
describes_more ready order seen here false (Some b) (Some c) d place rank is few = rw is d
describes_more ready order seen here true (Some b) (Some c) d place rank is few =
    let same : b.rank ≡ order c.key = d.1 in
    rw (is, rank, same) (elim (cases_lt here.rank (order c.key)) [
      | inl lt ↦ rw (lt-ltb here.rank (order c.key) lt) (refl, sym rank, place, few)
      | inr le ↦ rw (le-ltb here.rank (order c.key) le)
          (d.0, refl, d.2, subst (λ (n : ℕ). n ≤ 2 ^ 63) same d.3)
    ])

pub found_more : (found : Found) (key rank : ℕ) (r : Bool) (ready : ℕ → Bool) (order : ℕ → ℕ)
    (seen : List ℕ) → IsFound found ready order seen → ready key ≡ r → order key ≡ rank → rank ≤ 2 ^ 63 →
    IsFound (record {
      best = best_after found.best (record { key = key; rank = rank; place = found.count }) r;
      count = found.count + 1;
    }) ready order (seen ++ key ∷ [])
found_more found key rank r ready order seen ok is at few = record {
  count = omega (arith, ok.count, length-append seen (key ∷ []));
  best = rw (least-append ready order seen key)
      (describes_more ready order seen (record { key = key; rank = rank; place = found.count }) r found.best
      (least ready order seen) ok.best ok.count at is few);
}

first_drop : (ks : List ℕ) (n key : ℕ) → first_of (drop n ks) ≡ Some key → n < length ks
first_drop ks n key h = elim (cases_lt n (length ks)) [
  | inl low ↦ low
  | inr past ↦ absurd (none (sym (ap first_of (drop_all n ks past)) ∙ h))
]
  where
    none : first_of [] ≡ Some key → ⊥
    none e = cc

-- the key at a place of a list
pub record Step (ks : List ℕ) (n key : ℕ) : Type 0 where
  pub low : n < length ks
  pub split : ks ≡ take n ks ++ key ∷ drop (n + 1) ks
  pub more : take (n + 1) ks ≡ take n ks ++ key ∷ []
  pub stands : 0 < on ks key
  pub here : get_or ks n 0 ≡ key

pub step_at : (ks : List ℕ) (n key : ℕ) → first_of (drop n ks) ≡ Some key → Step ks n key
step_at ks n key h = record {
  low = low;
  split = split;
  more = take_more ks n 0 low ∙ ap (λ (k : ℕ). take n ks ++ k ∷ []) here;
  stands = omega (
    arith,
    ap (λ (xs : List ℕ). on xs key) split,
    on-append (take n ks) (key ∷ drop (n + 1) ks) key,
    on-cons_same key (drop (n + 1) ks),
  );
  here = here;
}
  where
    low : n < length ks
    low = first_drop ks n key h

    here : get_or ks n 0 ≡ key
    here =
        let e : first_of (drop n ks) ≡ Some (get_or ks n 0) = ap first_of (drop_more ks n 0 low) in
        cc

    split : ks ≡ take n ks ++ key ∷ drop (n + 1) ks
    split = sym (take-append-drop n ks) ∙ ap (λ (xs : List ℕ). take n ks ++ xs)
        (drop_more ks n 0 low ∙ ap (λ (k : ℕ). k ∷ drop (n + 1) ks) here)

-- the end of a list
pub end_at : (ks : List ℕ) (n : ℕ) → first_of (drop n ks) ≡ None → n ≤ length ks → (n ≡ length ks) ×
    (take n ks ≡ ks)
end_at ks n h within = (all, take_all n ks (omega (arith, all)))
  where
    all : n ≡ length ks
    all = elim (cases_lt n (length ks)) [
      | inl low ↦ absurd (none (sym (ap first_of (drop_more ks n 0 low)) ∙ h))
      | inr past ↦ omega arith
    ]
      where
        none : Some (get_or ks n 0) ≡ None → ⊥
        none e = cc

pub key_below : (q : AllLists) (l key : ℕ) (s : Side) → AreDisjoint q → 0 < on (keys_at q.lists l s) key →
    key < q.keys
key_below q l key New ok stands = ok.below l key
    (omega (arith, on-append (lists_at q.lists l).old (lists_at q.lists l).new key))
key_below q l key Old ok stands = ok.below l key
    (omega (arith, on-append (lists_at q.lists l).old (lists_at q.lists l).new key))

-- a key of a list alone
pub one_round : (order need : ℕ → ℕ) (s : Side) (ks : List ℕ) (key : ℕ) → 0 < on ks key →
    IsRoundOn order need s ks → IsRoundOn order need s (key ∷ [])
one_round order need s ks key stands rounds = λ k one. elim (cases_eq key k) [
  | inl e ↦ rounds k (subst (λ (m : ℕ). 0 < on ks m) e stands)
  | inr other ↦ absurd (omega (arith, on-cons_other key k [] other, on-nil k))
]

pub found_nothing : (ready : ℕ → Bool) (order : ℕ → ℕ) →
    IsFound (record { best = None; count = 0 }) ready order []
unfolding least
found_nothing ready order = record { count = refl; best = tt }

-- the result of a scan of a whole rotation
pub won_is : (found : Found) (ready : ℕ → Bool) (order : ℕ → ℕ) (seen : List ℕ) (best : Best) →
    IsFound found ready order seen → found.best ≡ Some best →
    (c : Cut) × (least ready order seen ≡ Some c) × (best.key ≡ c.key) × (best.rank ≡ order c.key) ×
    (best.place ≡ length c.before) × (best.rank ≤ 2 ^ 63)
won_is found ready order seen best ok is = go (least ready order seen) refl
    (subst (λ (o : Option Best). Describes order o (least ready order seen)) is ok.best)
  where
    go : (o : Option Cut) → least ready order seen ≡ o → Describes order (Some best) o → (c : Cut) ×
        (least ready order seen ≡ Some c) × (best.key ≡ c.key) × (best.rank ≡ order c.key) ×
        (best.place ≡ length c.before) × (best.rank ≤ 2 ^ 63)
    go None e d = absurd d
    go (Some c) e d = (c, e, d.0, d.1, d.2, d.3)

pub none_is : (found : Found) (ready : ℕ → Bool) (order : ℕ → ℕ) (seen : List ℕ) →
    IsFound found ready order seen → found.best ≡ None → least ready order seen ≡ None
none_is found ready order seen ok is = go (least ready order seen) refl
    (subst (λ (o : Option Best). Describes order o (least ready order seen)) is ok.best)
  where
    go : (o : Option Cut) → least ready order seen ≡ o → Describes order None o →
        least ready order seen ≡ None
    go None e d = e
    go (Some c) e d = absurd d

pub rounds_old : (need : ℕ → ℕ) (r : Rotation) → ((y : ℕ) → on (in_order r) y ≤ 1) →
    IsRoundOn (round need r) need Old r.old
rounds_old need r once k stands = round_old need r k (omega (arith, once k, on-append r.old r.new k))
    ∙ omega arith

pub rounds_new : (need : ℕ → ℕ) (r : Rotation) → IsRoundOn (round need r) need New r.new
rounds_new need r k stands = round_new need r k stands ∙ omega arith
