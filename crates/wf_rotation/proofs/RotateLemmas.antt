-- A chain that is rotated, so that it begins with another of its keys: it is cut before that key, and its end
-- is linked to its old start.
use Rattle.std.proofs.Common.{◌≡◌, ℕ, ◌+◌, ◌*◌, ◌<◌, List, [], ◌∷◌, ◌++◌, length, get_or, set, sym, ap, ◌∙◌, subst, inl, inr, arith, length-set, append_assoc}
use Rattle.std.proofs.lemmas.List.{get_or-set_same, get_or-set_other, get_or_read}
use Rattle.std.proofs.lemmas.Bool.{cases_eq, cases_lt}
use Rattle.wf_def_lists.specs.Lists.{on}
use Rattle.wf_def_rotation.specs.Rotation.{Rotation}
use Rattle.wf_rotation.specs.Lists.{AllLists, keys_at, with_keys}
use Rattle.wf_rotation.specs.Links.{entry_at, Leads, EndsWith, chain, Chains, AreLinks, slot_of, all_chains}
use Rattle.wf_rotation.specs.declared.side.Side.TheVariants.{Old}
use Rattle.wf_law_rules.proofs.Lemmas.Counts.{on-first, on-cons_same, on-append}
use Rattle.wf_rotation.proofs.LinkLemmas.{leads-below, leads-set_other, leads-join, leads-cut, leads-from, ends-front, ends-push, ends-rest, view_changed, chains_again, with_slot, with_slot-here, with_slot-other, with_slot-apart, keys_at_chain, length-all_chains, lists_of, with_list, head_there, tail_there}

-- the chain of one rotation's old list is turned
module _ (next heads tails : List ℕ) (lists l : ℕ) (ok : AreLinks next heads tails lists)
    (low : l < lists) where
  b_low : 2 * l + 1 < 2 * lists
  b_low = omega arith

  b_there : 2 * l + 1 < length heads
  b_there = omega (arith, ok.heads_there)

  b_tail_there : 2 * l + 1 < length tails
  b_tail_there = omega (arith, ok.tails_there)

  -- the old list begins with another key, and the keys before that come last
  module _ (ys zs : List ℕ) (p key : ℕ) (is : chain next heads (2 * l + 1) ≡ ys ++ p ∷ (key ∷ zs)) where
    abbrev rotated : List ℕ
    rotated = key ∷ (zs ++ (ys ++ p ∷ []))

    on_old : (k : ℕ) → on (chain next heads (2 * l + 1)) k ≡ on ys k + (on (p ∷ []) k + on (key ∷ zs) k)
    on_old k = ap (λ (xs : List ℕ). on xs k) is ∙ on-append ys (p ∷ (key ∷ zs)) k
        ∙ ap (λ (n : ℕ). on ys k + n) (on-first p k (key ∷ zs))

    on_rotated : (k : ℕ) → on rotated k ≡ on (chain next heads (2 * l + 1)) k
    on_rotated k = omega (arith, on_old k, on-append (key ∷ zs) (ys ++ p ∷ []) k, on-append ys (p ∷ []) k)

    abbrev t : ℕ
    t = entry_at tails (2 * l + 1)

    last : (ws : List ℕ) × (key ∷ zs ≡ ws ++ t ∷ [])
    last = ends-front key zs t (ends-later ys p (key ∷ zs) t
        (subst (λ (xs : List ℕ). EndsWith xs t) is (ok.chains.ends (2 * l + 1) b_low)))
      where
        ends-later : (xs : List ℕ) (q : ℕ) (rs : List ℕ) (u : ℕ) → EndsWith (xs ++ q ∷ rs) u → EndsWith rs u
        ends-later [] q rs u e = ends-rest q rs u e
        ends-later (x ∷ xs) q rs u e = ends-later xs q rs u (ends-rest x (xs ++ q ∷ rs) u e)

    on_t : (k : ℕ) → on (key ∷ zs) k ≡ on last.0 k + on (t ∷ []) k
    on_t k = ap (λ (xs : List ℕ). on xs k) last.1 ∙ on-append last.0 (t ∷ []) k

    once_t : on last.0 t ≡ 0
    once_t = omega (arith, on_t t, on-cons_same t [], on_old t, ok.chains.once (2 * l + 1) t b_low)

    old_leads : Leads next (entry_at heads (2 * l + 1)) (ys ++ p ∷ (key ∷ zs))
    old_leads = subst (Leads next (entry_at heads (2 * l + 1))) is (ok.chains.leads (2 * l + 1) b_low)

    rotated_leads : Leads (set (set next p (length next)) t (entry_at heads (2 * l + 1))) key rotated
    rotated_leads =
        let tail : Leads next key (key ∷ zs) = leads-from next (entry_at heads (2 * l + 1)) key
        (ys ++ p ∷ []) zs (subst (Leads next (entry_at heads (2 * l + 1)))
        (sym (append_assoc ys (p ∷ []) (key ∷ zs))) old_leads) in
        let tail_now : Leads (set next p (length next)) key (last.0 ++ t ∷ []) =
        subst (Leads (set next p (length next)) key) last.1
        (leads-set_other next key (key ∷ zs) p (length next)
        (omega (arith, on_old p, on-cons_same p [], ok.chains.once (2 * l + 1) p b_low)) tail) in
        let front : Leads (set next p (length next)) (entry_at heads (2 * l + 1)) (ys ++ p ∷ []) =
        leads-cut next (entry_at heads (2 * l + 1)) p (length next) ys (key ∷ zs)
        (omega (arith, on_old p, on-cons_same p [], ok.chains.once (2 * l + 1) p b_low))
        (omega arith) old_leads in
        let front_now : Leads (set (set next p (length next)) t (entry_at heads (2 * l + 1)))
        (entry_at heads (2 * l + 1)) (ys ++ p ∷ []) =
        leads-set_other (set next p (length next)) (entry_at heads (2 * l + 1)) (ys ++ p ∷ []) t
        (entry_at heads (2 * l + 1)) (omega (
          arith,
          on-append ys (p ∷ []) t,
          on_old t,
          on_t t,
          on-cons_same t [],
          ok.chains.once (2 * l + 1) t b_low,
        )) front in
        let below : t < length (set next p (length next)) =
        leads-below (set next p (length next)) key (last.0 ++ t ∷ []) tail_now t
        (omega (arith, on-append last.0 (t ∷ []) t, on-cons_same t [])) in
        subst (Leads (set (set next p (length next)) t (entry_at heads (2 * l + 1))) key)
        (sym (append_assoc last.0 (t ∷ []) (ys ++ p ∷ []))
        ∙ ap (λ (xs : List ℕ). xs ++ (ys ++ p ∷ [])) (sym last.1))
        (leads-join (set next p (length next)) key (entry_at heads (2 * l + 1)) t last.0
        (ys ++ p ∷ []) once_t below tail_now front_now)

    p_other : (s : ℕ) → s < 2 * lists → (s ≡ 2 * l + 1 → ⊥) → on (chain next heads s) p ≡ 0
    p_other s h other = elim (cases_lt 0 (on (chain next heads s) p)) [
      | inl stands ↦ absurd (other (ok.chains.apart s (2 * l + 1) p h b_low stands
          (omega (arith, on_old p, on-cons_same p []))))
      | inr none ↦ omega arith
    ]

    t_other : (s : ℕ) → s < 2 * lists → (s ≡ 2 * l + 1 → ⊥) → on (chain next heads s) t ≡ 0
    t_other s h other = elim (cases_lt 0 (on (chain next heads s) t)) [
      | inl stands ↦ absurd (other (ok.chains.apart s (2 * l + 1) t h b_low stands
          (omega (arith, on_old t, on_t t, on-cons_same t []))))
      | inr none ↦ omega arith
    ]

    now : Chains (set (set next p (length next)) t (entry_at heads (2 * l + 1))) (set heads (2 * l + 1) key)
        (set tails (2 * l + 1) p) lists (with_slot (chain next heads) (2 * l + 1) rotated)
    now = record {
      leads = λ s h. elim (cases_eq s (2 * l + 1)) [
        | inl e ↦ rw (
          with_slot-here (chain next heads) (2 * l + 1) rotated s e,
          e,
          get_or-set_same heads (2 * l + 1) key 0 b_there,
        ) rotated_leads
        | inr other ↦ rw (
          with_slot-other (chain next heads) (2 * l + 1) rotated s other,
          get_or-set_other heads (2 * l + 1) s key 0 other,
        )
            (leads-set_other (set next p (length next)) (entry_at heads s) (chain next heads s) t
            (entry_at heads (2 * l + 1)) (t_other s h other)
            (leads-set_other next (entry_at heads s) (chain next heads s) p (length next)
            (p_other s h other) (ok.chains.leads s h)))
      ];
      ends = λ s h. elim (cases_eq s (2 * l + 1)) [
        | inl e ↦ rw (
          with_slot-here (chain next heads) (2 * l + 1) rotated s e,
          e,
          get_or-set_same tails (2 * l + 1) p 0 b_tail_there,
        )
            (subst (λ (xs : List ℕ). EndsWith xs p) (append_assoc (key ∷ zs) ys (p ∷ []))
            (ends-push ((key ∷ zs) ++ ys) p))
        | inr other ↦ rw (
          with_slot-other (chain next heads) (2 * l + 1) rotated s other,
          get_or-set_other tails (2 * l + 1) s p 0 other,
        ) (ok.chains.ends s h)
      ];
      once = λ s k h. elim (cases_eq s (2 * l + 1)) [
        | inl e ↦ rw (with_slot-here (chain next heads) (2 * l + 1) rotated s e)
            (omega (arith, on_rotated k, ok.chains.once (2 * l + 1) k b_low))
        | inr other ↦ rw (with_slot-other (chain next heads) (2 * l + 1) rotated s other)
            (ok.chains.once s k h)
      ];
      apart = with_slot-apart (chain next heads) lists (2 * l + 1) rotated ok.chains.apart
          (λ k stands o h other there. other (ok.chains.apart o (2 * l + 1) k h b_low there
          (omega (arith, on_rotated k))));
    }

    pub rotate_done : (AreLinks (set (set next p (length next)) (entry_at tails (2 * l + 1))
        (entry_at heads (2 * l + 1))) (set heads (2 * l + 1) key) (set tails (2 * l + 1) p) lists)
        × (all_chains (set (set next p (length next)) (entry_at tails (2 * l + 1))
        (entry_at heads (2 * l + 1))) (set heads (2 * l + 1) key) lists
        ≡ with_keys (all_chains next heads lists) l Old (key ∷ (zs ++ (ys ++ p ∷ []))))
    rotate_done = (
      record {
        heads_there = length-set heads (2 * l + 1) key ∙ ok.heads_there;
        tails_there =
            length-set tails (2 * l + 1) p ∙ ok.tails_there;
        chains = chains_again _ _ _ lists _ now;
      },
      view_changed next heads _ _ _ lists l Old rotated low now,
    )

pub rotate_at : (next heads tails : List ℕ) (lists l old first last none p key : ℕ) (ys zs : List ℕ) →
    AreLinks next heads tails lists → l < length (all_chains next heads lists) → old ≡ 2 * l + 1 →
    first ≡ entry_at heads (2 * l + 1) → last ≡ entry_at tails (2 * l + 1) → none ≡ length next →
    keys_at (all_chains next heads lists) l Old ≡ ys ++ p ∷ (key ∷ zs) →
    (AreLinks (set (set next p none) last first) (set heads old key) (set tails old p) lists) ×
    (all_chains (set (set next p none) last first) (set heads old key) lists
    ≡ with_keys (all_chains next heads lists) l Old (key ∷ (zs ++ (ys ++ p ∷ []))))
    × (p < length next) × (last < length next)
rotate_at next heads tails lists l old first last none p key ys zs ok in_lists a b c d is =
    let low : l < lists = omega (arith, length-all_chains next heads lists) in
    let chain_is : chain next heads (2 * l + 1) ≡ ys ++ p ∷ (key ∷ zs) =
    sym (keys_at_chain next heads lists l Old low) ∙ is in
    let done : (AreLinks (set (set next p (length next)) (entry_at tails (2 * l + 1))
    (entry_at heads (2 * l + 1))) (set heads (2 * l + 1) key) (set tails (2 * l + 1) p) lists) ×
    (all_chains (set (set next p (length next)) (entry_at tails (2 * l + 1)) (entry_at heads (2 * l + 1)))
    (set heads (2 * l + 1) key) lists ≡ with_keys (all_chains next heads lists) l Old
    (key ∷ (zs ++ (ys ++ p ∷ [])))) =
    rotate_done next heads tails lists l ok low ys zs p key chain_is in
    rw (a, b, c, d) (
      done.0,
      done.1,
      leads-below next (entry_at heads (2 * l + 1)) (chain next heads (2 * l + 1))
          (ok.chains.leads (2 * l + 1) (omega arith)) p
          (omega (arith, on_old next heads tails lists l ok low ys zs p key chain_is p, on-cons_same p [])),
      leads-below next (entry_at heads (2 * l + 1)) (chain next heads (2 * l + 1))
          (ok.chains.leads (2 * l + 1) (omega arith)) (entry_at tails (2 * l + 1))
          (omega (
            arith,
            on_old next heads tails lists l ok low ys zs p key chain_is
                (entry_at tails (2 * l + 1)),
            on_t next heads tails lists l ok low ys zs p key chain_is
                (entry_at tails (2 * l + 1)),
            on-cons_same (entry_at tails (2 * l + 1)) [],
          )),
    )

-- by what a call knows of its links, as in LinkLemmas
pub rotate_read : {next heads tails : List ℕ} {lists keys slot first last : ℕ} {v : AllLists}
    (list p key : ℕ) →
    AreLinks next heads tails lists → keys ≡ length next → lists_of next heads lists keys ≡ v →
    list < length v.lists → slot ≡ slot_of list Old → first ≡ get_or heads slot first →
    last ≡ get_or tails slot last → (ys zs : List ℕ) → keys_at v.lists list Old ≡ ys ++ p ∷ (key ∷ zs) →
    (AreLinks (set (set next p keys) last first) (set heads slot key) (set tails slot p) lists) ×
    (lists_of (set (set next p keys) last first) (set heads slot key) lists keys
    ≡ with_list v list Old (key ∷ (zs ++ (ys ++ p ∷ [])))) × (p < length next) × (last < length next)
rotate_read {next} {heads} {tails} {lists} {keys} {slot} {first} {last} list p key ok few view low at
    first_is last_is ys zs is =
    let done = rotate_at next heads tails lists list slot first last keys p key ys zs ok
    (subst (λ (w : AllLists). list < length w.lists) (sym view) low) at
    (get_or_read heads slot first (head_there list Old ok few view low at) first_is 0 ∙ ap (entry_at
    heads) at)
    (get_or_read tails slot last (tail_there list Old ok few view low at) last_is 0 ∙ ap (entry_at tails) at)
    few (subst (λ (w : AllLists). keys_at w.lists list Old ≡ ys ++ p ∷ (key ∷ zs)) (sym view) is) in (
      done.0,
      rw (← view) (ap (λ (ls : List Rotation). let w : AllLists =
          record { lists = ls; keys = keys } in w) done.1),
      done.2,
      done.3,
    )
