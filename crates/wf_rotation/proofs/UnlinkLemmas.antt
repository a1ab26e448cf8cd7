-- A key that is not the first is taken off its list: the link of the key before it leads to the key after it.
use Rattle.std.proofs.Common.{◌≡◌, ℕ, ◌+◌, ◌*◌, ◌<◌, ◌≤◌, eqb, not, List, [], ◌∷◌, ◌++◌, length, get_or, set, Some, refl, sym, ap, ◌∙◌, subst, inl, inr, arith, eq-eqb, length-set, append_assoc}
use Rattle.std.proofs.lemmas.List.{get_or-set_same, get_or-set_other, get_or_read}
use Rattle.std.proofs.lemmas.List.Elements.{filter-append}
use Rattle.std.proofs.lemmas.Bool.{cases_eq, cases_lt}
use Rattle.wf_def_lists.specs.Lists.{on}
use Rattle.wf_def_rotation.specs.Rotation.{Rotation}
use Rattle.wf_rotation.specs.Lists.{AllLists, AreDisjoint, keys_at, with_keys, without, first_of, keys_behind}
use Rattle.wf_rotation.specs.Links.{entry_at, Leads, EndsWith, chain, Chains, AreLinks, Backs, AreBacks, slot_of, all_chains}
use Rattle.wf_rotation.specs.declared.side.Side.{Side}
use Rattle.wf_law_rules.proofs.Lemmas.Counts.{on-nil, on-first, on-cons_same, on-cons_other, on-append}
use Rattle.wf_rotation.proofs.LinkLemmas.{leads-below, leads-set_other, ends-push, view_changed, chains_again, chains_disjoint, with_slot, with_slot-here, with_slot-other, keys_at_chain, length-all_chains, slot_low, lists_of, with_list, leads-first}
use Rattle.wf_rotation.proofs.ListsLemmas.{first_is}
use Rattle.wf_rotation.proofs.RemoveLemmas.{without_off}
use Rattle.wf_rotation.proofs.BackLemmas.{backs-before, backs_unlinked, backs_unlinked_last}

-- ---- one list

-- a list that is split at a key that is not the first
pub record Placed (xs : List ℕ) (key : ℕ) : Type 0 where
  pub front : List ℕ
  pub before : ℕ
  pub rest : List ℕ
  pub is : xs ≡ front ++ before ∷ (key ∷ rest)

placed_after : (x : ℕ) (xs : List ℕ) (key : ℕ) → (x ≡ key → ⊥) → 0 < on (x ∷ xs) key → Placed (x ∷ xs) key
placed_after x [] key other stands = absurd (omega (arith, on-cons_other x key [] other, on-nil key))
placed_after x (y ∷ ys) key other stands = elim (cases_eq y key) [
  | inl e ↦ record { front = []; before = x; rest = ys; is = ap (λ (m : ℕ). x ∷ (m ∷ ys)) e }
  | inr differs ↦
      let later : Placed (y ∷ ys) key = placed_after y ys key differs
      (omega (arith, on-cons_other x key (y ∷ ys) other)) in
      record {
        front = x ∷ later.front;
        before = later.before;
        rest = later.rest;
        is = ap (λ (l : List ℕ). x ∷ l) later.is;
      }
]

placed : (xs : List ℕ) (key : ℕ) → (first_of xs ≡ Some key → ⊥) → 0 < on xs key → Placed xs key
placed [] key other stands = absurd (omega (arith, on-nil key))
placed (x ∷ xs) key other stands = placed_after x xs key
    (λ e. other (ap (λ (k : ℕ). first_of (k ∷ xs)) e)) stands

-- a list without a key that is on it once
pub without_once : (front : List ℕ) (key : ℕ) (rest : List ℕ) → on (front ++ key ∷ rest) key ≤ 1 →
    without key (front ++ key ∷ rest) ≡ front ++ rest
without_once front key rest once =
    let parts : on (front ++ key ∷ rest) key ≡ on front key + (1 + on rest key) =
    on-append front (key ∷ rest) key ∙ ap (λ (n : ℕ). on front key + n) (on-cons_same key rest) in
    let here : without key (key ∷ rest) ≡ without key rest = rw (eq-eqb key key refl) refl in
    filter-append (λ x. not (eqb x key)) front (key ∷ rest)
    ∙ ap (λ (xs : List ℕ). without key front ++ xs) (here ∙ without_off key rest (omega arith))
    ∙ ap (λ (xs : List ℕ). xs ++ rest) (without_off key front (omega arith))

without_placed : (xs : List ℕ) (key : ℕ) → on xs key ≤ 1 → (at : Placed xs key) →
    without key xs ≡ at.front ++ at.before ∷ at.rest
without_placed xs key once at =
    let whole : xs ≡ (at.front ++ at.before ∷ []) ++ key ∷ at.rest =
    at.is ∙ sym (append_assoc at.front (at.before ∷ []) (key ∷ at.rest)) in
    ap (without key) whole ∙ without_once (at.front ++ at.before ∷ []) key at.rest
    (subst (λ (l : List ℕ). on l key ≤ 1) whole once)
    ∙ append_assoc at.front (at.before ∷ []) at.rest

-- the first key is the one that is left out
pub without_first : (xs : List ℕ) (key : ℕ) → on xs key ≤ 1 → first_of xs ≡ Some key →
    keys_behind xs ≡ without key xs
without_first xs key once first =
    let whole : xs ≡ key ∷ keys_behind xs = first_is xs key first in
    sym (ap (without key) whole ∙ without_once [] key (keys_behind xs)
    (subst (λ (l : List ℕ). on l key ≤ 1) whole once))

-- ---- one chain

leads-skip : (next : List ℕ) (h b key after : ℕ) (ys zs : List ℕ) → on ys b ≡ 0 → on zs b ≡ 0 →
    entry_at next key ≡ after → Leads next h (ys ++ b ∷ (key ∷ zs)) → Leads (set next b after) h
    (ys ++ b ∷ zs)
unfolding Leads
leads-skip next h b key after [] zs none later is l = (
  l.0,
  rw length-set l.1,
  rw (get_or-set_same next b after 0 l.1)
      (leads-set_other next after zs b after later (subst (λ (n : ℕ). Leads next n zs) is l.2.2)),
)
leads-skip next h b key after (y ∷ ys) zs none later is l =
    let other : y ≡ b → ⊥ = λ e. let here : on (y ∷ ys) b ≡ 1 + on ys b =
    subst (λ (m : ℕ). on (y ∷ ys) m ≡ 1 + on ys m) e (on-cons_same y ys) in omega arith in (
      l.0,
      rw length-set l.1,
      rw (get_or-set_other next b y after 0 other)
          (leads-skip next (entry_at next y) b key after ys zs (omega (arith, on-first y b ys)) later is l.2),
    )

leads-last : (next : List ℕ) (h key : ℕ) (ys zs : List ℕ) → Leads next h (ys ++ key ∷ zs) →
    (entry_at next key < length next → first_of zs ≡ Some (entry_at next key))
    × (length next ≤ entry_at next key → zs ≡ [])
unfolding Leads
leads-last next h key [] zs l = leads-first next (entry_at next key) zs l.2
leads-last next h key (y ∷ ys) zs l = leads-last next (entry_at next y) key ys zs l.2

ends-skip : (ys : List ℕ) (b key z : ℕ) (zs : List ℕ) (t : ℕ) → EndsWith (ys ++ b ∷ (key ∷ (z ∷ zs))) t →
    EndsWith (ys ++ b ∷ (z ∷ zs)) t
unfolding EndsWith
ends-skip [] b key z zs t e = e
ends-skip (y ∷ []) b key z zs t e = e
ends-skip (y ∷ w ∷ ws) b key z zs t e = ends-skip (w ∷ ws) b key z zs t e

-- ---- all chains

module _ (next heads tails tails' : List ℕ) (lists slot b key : ℕ) (ys zs : List ℕ)
    (ok : Chains next heads tails lists (chain next heads)) (low : slot < 2 * lists)
    (is : chain next heads slot ≡ ys ++ b ∷ (key ∷ zs)) where
  on_whole : (k : ℕ) → on (chain next heads slot) k
      ≡ on ys k + (on (b ∷ []) k + (on (key ∷ []) k + on zs k))
  on_whole k = ap (λ (xs : List ℕ). on xs k) is ∙ on-append ys (b ∷ (key ∷ zs)) k
      ∙ omega (arith, on-first b k (key ∷ zs), on-first key k zs)

  on_left : (k : ℕ) → on (ys ++ b ∷ zs) k ≡ on ys k + (on (b ∷ []) k + on zs k)
  on_left k = on-append ys (b ∷ zs) k ∙ omega (arith, on-first b k zs)

  b_once : on (b ∷ []) b ≡ 1
  b_once = omega (arith, on-cons_same b [], on-nil b)

  b_elsewhere : (s : ℕ) → s < 2 * lists → (s ≡ slot → ⊥) → on (chain next heads s) b ≡ 0
  b_elsewhere s l other = elim (cases_lt 0 (on (chain next heads s) b)) [
    | inl stands ↦ absurd (other (ok.apart s slot b l low stands (omega (arith, on_whole b, b_once))))
    | inr none ↦ omega arith
  ]

  before_below : b < length next
  before_below = leads-below next (entry_at heads slot) (chain next heads slot) (ok.leads slot low) b
      (omega (arith, on_whole b, b_once))

  -- the chains without the key, if the tails are right for them
  unlinked : EndsWith (ys ++ b ∷ zs) (entry_at tails' slot) →
      ((s : ℕ) → (s ≡ slot → ⊥) → entry_at tails' s ≡ entry_at tails s) →
      Chains (set next b (entry_at next key)) heads tails' lists
      (with_slot (chain next heads) slot (ys ++ b ∷ zs))
  unlinked ends_here ends_there = record {
    leads = λ s l. elim (cases_eq s slot) [
      | inl e ↦ rw (with_slot-here (chain next heads) slot (ys ++ b ∷ zs) s e, e)
          (leads-skip next (entry_at heads slot) b key (entry_at next key) ys zs
          (omega (arith, on_whole b, b_once, ok.once slot b low))
          (omega (arith, on_whole b, b_once, ok.once slot b low)) refl
          (subst (Leads next (entry_at heads slot)) is (ok.leads slot low)))
      | inr other ↦ rw (with_slot-other (chain next heads) slot (ys ++ b ∷ zs) s other)
          (leads-set_other next (entry_at heads s) (chain next heads s) b (entry_at next key)
          (b_elsewhere s l other) (ok.leads s l))
    ];
    ends = λ s l. elim (cases_eq s slot) [
      | inl e ↦ rw (with_slot-here (chain next heads) slot (ys ++ b ∷ zs) s e, e) ends_here
      | inr other ↦ rw (with_slot-other (chain next heads) slot (ys ++ b ∷ zs) s other, ends_there s other)
          (ok.ends s l)
    ];
    once = λ s k l. omega (arith, fewer s k, ok.once s k l);
    apart = λ s o k l h here there. ok.apart s o k l h (omega (arith, fewer s k)) (omega (arith, fewer o k));
  }
    where
      fewer : (s k : ℕ) → on (with_slot (chain next heads) slot (ys ++ b ∷ zs) s) k
          ≤ on (chain next heads s) k
      fewer s k = elim (cases_eq s slot) [
        | inl e ↦ rw (with_slot-here (chain next heads) slot (ys ++ b ∷ zs) s e, e)
            (omega (arith, on_whole k, on_left k))
        | inr other ↦ rw (with_slot-other (chain next heads) slot (ys ++ b ∷ zs) s other) (omega arith)
      ]

-- the links and the lists without the key
unlink_done : (next heads tails tails' : List ℕ) (lists l b key before after : ℕ) (s : Side)
    (ys zs ks : List ℕ) → AreLinks next heads tails lists → l < lists →
    chain next heads (slot_of l s) ≡ ys ++ b ∷ (key ∷ zs) → before ≡ b → after ≡ entry_at next key →
    ks ≡ ys ++ b ∷ zs → length tails' ≡ length tails →
    EndsWith (ys ++ b ∷ zs) (entry_at tails' (slot_of l s)) →
    ((m : ℕ) → (m ≡ slot_of l s → ⊥) → entry_at tails' m ≡ entry_at tails m) →
    (AreLinks (set next before after) heads tails' lists)
    × (all_chains (set next before after) heads lists ≡ with_keys (all_chains next heads lists) l s ks)
unlink_done next heads tails tails' lists l b key before after s ys zs ks ok low is at_before at_after at_ks
    size ends_here ends_there =
    let now : Chains (set next b (entry_at next key)) heads tails' lists
    (with_slot (chain next heads) (slot_of l s) (ys ++ b ∷ zs)) =
    unlinked next heads tails tails' lists (slot_of l s) b key ys zs ok.chains (slot_low l lists s low) is
    ends_here ends_there in
    rw (at_before, at_after, at_ks) (
      record {
        heads_there = ok.heads_there;
        tails_there = size ∙ ok.tails_there;
        chains = chains_again (set next b (entry_at next key)) heads tails' lists _ now;
      },
      view_changed next heads (set next b (entry_at next key)) heads tails' lists l s (ys ++ b ∷ zs) low now,
    )

-- ---- what `unlink` finds and leaves, by what it knows of its links (as in LinkLemmas)

module _ {next prev heads tails : List ℕ} {lists keys slot : ℕ} {v : AllLists} (list : ℕ) (side : Side)
    (ok : AreLinks next heads tails lists) (few : keys ≡ length next)
    (view : lists_of next heads lists keys ≡ v) (backs : AreBacks prev v) (low : list < length v.lists)
    (at : slot ≡ slot_of list side) (key : ℕ) (listed : 0 < on (keys_at v.lists list side) key)
    (not_first : first_of (keys_at v.lists list side) ≡ Some key → ⊥) where
  below : list < lists
  below = omega (arith, length-all_chains next heads lists, ap (λ (w : AllLists). length w.lists) view)

  low_slot : slot_of list side < 2 * lists
  low_slot = slot_low list lists side below

  apart : AreDisjoint v
  apart = subst AreDisjoint (ap (λ (n : ℕ). lists_of next heads lists n) (sym few) ∙ view)
      (chains_disjoint next heads tails lists ok)

  chain_is : keys_at v.lists list side ≡ chain next heads (slot_of list side)
  chain_is = ap (λ (w : AllLists). keys_at w.lists list side) (sym view)
      ∙ keys_at_chain next heads lists list side below

  place : Placed (keys_at v.lists list side) key
  place = placed (keys_at v.lists list side) key not_first listed

  once : (k : ℕ) → on (keys_at v.lists list side) k ≤ 1
  once k = rw chain_is (ok.chains.once (slot_of list side) k low_slot)

  left_is : without key (keys_at v.lists list side) ≡ place.front ++ place.before ∷ place.rest
  left_is = without_placed (keys_at v.lists list side) key (once key) place

  abbrev its_chain : chain next heads (slot_of list side) ≡ place.front ++ place.before ∷ (key ∷ place.rest)
  its_chain = sym chain_is ∙ place.is

  pub key_below : key < length next
  key_below = leads-below next (entry_at heads (slot_of list side)) (chain next heads (slot_of list side))
      (ok.chains.leads (slot_of list side) low_slot) key (rw chain_is at listed)

  pub key_below_prev : key < length prev
  key_below_prev = omega (arith, key_below, few, backs.keys, ap (λ (w : AllLists). w.keys) view)

  module _ {before after : ℕ} (before_is : before ≡ get_or prev key before)
      (after_is : after ≡ get_or next key after) where
    before_at : before ≡ place.before
    before_at = get_or_read prev key before key_below_prev before_is 0
        ∙ backs-before prev place.front place.before key place.rest
        (subst (Backs prev) place.is
        (backs.backs list side))

    after_at : after ≡ entry_at next key
    after_at = get_or_read next key after key_below after_is 0

    rest_is : (after < keys → first_of place.rest ≡ Some after) × (keys ≤ after → place.rest ≡ [])
    rest_is =
        let both = leads-last next (entry_at heads (slot_of list side)) key (place.front ++ place.before ∷ [])
        place.rest (subst (Leads next (entry_at heads (slot_of list side)))
        (its_chain ∙ sym (append_assoc place.front (place.before ∷ []) (key ∷ place.rest)))
        (ok.chains.leads (slot_of list side) low_slot)) in (
          (λ more. both.0 (omega (arith, after_at, few)) ∙ ap Some (sym after_at)),
          (λ past. both.1 (omega (arith, after_at, few))),
        )

    pub before_there : before < length next
    before_there = rw before_at (before_below next heads tails tails lists
        (slot_of list side) place.before key
        place.front place.rest ok.chains low_slot its_chain)

    -- the links and the view, by the chains that are left
    left : (tails' : List ℕ) → length tails' ≡ length tails →
        EndsWith (place.front ++ place.before ∷ place.rest) (entry_at tails' (slot_of list side)) →
        ((s : ℕ) → (s ≡ slot_of list side → ⊥) → entry_at tails' s ≡ entry_at tails s) →
        (AreLinks (set next before after) heads tails' lists)
        × (lists_of (set next before after) heads lists keys
        ≡ with_list v list side (without key (keys_at v.lists list side)))
    left tails' size ends_here ends_there =
        let done = unlink_done next heads tails tails' lists list place.before key before after side
        place.front
        place.rest (without key (keys_at v.lists list side)) ok below its_chain
        before_at after_at left_is size
        ends_here ends_there in (
          done.0,
          ap (λ (ls : List Rotation). let w : AllLists = record { lists = ls; keys = keys } in w) done.1
              ∙ ap (λ (w : AllLists). with_list w list side (without key (keys_at v.lists list side))) view,
        )

    -- another key comes after it
    pub unlink_read : after < keys → (AreLinks (set next before after) heads tails lists)
        × (lists_of (set next before after) heads lists keys
        ≡ with_list v list side (without key (keys_at v.lists list side)))
        × (AreBacks (set prev after before) (with_list v list side (without key (keys_at v.lists list side))))
        × (after < length prev)
    unlink_read more =
        let rest : place.rest ≡ after ∷ keys_behind place.rest =
        first_is place.rest after (rest_is.0 more) in
        let ends : EndsWith (place.front ++ place.before ∷ place.rest) (entry_at tails (slot_of list side)) =
        rw rest (ends-skip place.front place.before key after (keys_behind place.rest)
        (entry_at tails (slot_of list side))
        (subst (λ (xs : List ℕ). EndsWith xs (entry_at tails (slot_of list side)))
        (its_chain ∙ ap (λ (xs : List ℕ). place.front ++ place.before ∷ (key ∷ xs)) rest)
        (ok.chains.ends (slot_of list side) low_slot))) in
        let both = left tails refl ends (λ s other. refl) in (
          both.0,
          both.1,
          subst (λ (n : ℕ). AreBacks (set prev after n)
              (with_list v list side (without key (keys_at v.lists list side)))) (sym before_at)
              (subst (λ (ks : List ℕ). AreBacks (set prev after place.before) (with_list v list side ks))
              (sym (left_is ∙ ap (λ (xs : List ℕ). place.front ++ place.before ∷ xs) rest))
              (backs_unlinked prev v list place.before key after side place.front (keys_behind place.rest)
              apart backs low
              (place.is ∙ ap (λ (xs : List ℕ). place.front ++ place.before ∷ (key ∷ xs)) rest))),
          omega (arith, backs.keys, ap (λ (w : AllLists). w.keys) view, more),
        )

    -- no key comes after it
    pub unlink_last_read : keys ≤ after → (AreLinks (set next before after) heads
        (set tails slot before) lists)
        × (lists_of (set next before after) heads lists keys
        ≡ with_list v list side (without key (keys_at v.lists list side)))
        × (AreBacks prev (with_list v list side (without key (keys_at v.lists list side))))
    unlink_last_read past =
        let rest : place.rest ≡ [] = rest_is.1 past in
        let slot_there : slot_of list side < length tails = omega (arith, ok.tails_there, low_slot) in
        let ends : EndsWith (place.front ++ place.before ∷ place.rest)
        (entry_at (set tails slot before) (slot_of list side)) =
        subst (EndsWith (place.front ++ place.before ∷ place.rest))
        (sym (ap (λ (n : ℕ). entry_at (set tails n before) (slot_of list side)) at
        ∙ get_or-set_same tails (slot_of list side) before 0 slot_there ∙ before_at))
        (subst (λ (xs : List ℕ). EndsWith (place.front ++ place.before ∷ xs) place.before) (sym rest)
        (ends-push place.front place.before)) in
        let both = left (set tails slot before) (length-set tails slot before) ends
        (λ s other. ap (λ (n : ℕ). entry_at (set tails n before) s) at
        ∙ get_or-set_other tails (slot_of list side) s before 0 other) in (
          both.0,
          both.1,
          subst (λ (ks : List ℕ). AreBacks prev (with_list v list side ks))
              (sym (left_is ∙ ap (λ (xs : List ℕ). place.front ++ place.before ∷ xs) rest))
              (backs_unlinked_last prev v list place.before key side place.front backs low
              (place.is ∙ ap (λ (xs : List ℕ). place.front ++ place.before ∷ (key ∷ xs)) rest)),
        )
