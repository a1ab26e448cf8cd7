-- The TID that lists a queue is the one that `where_is` returns.
use Rattle.std.proofs.Common.{◌≡◌, ℕ, zero, suc, ◌+◌, ◌<◌, ◌≤◌, Bool, true, false, not, ◌&&◌, refl, sym, ap, ◌∙◌, inl, inr, arith}
use Rattle.std.specs.Prelude.{◌==◌}
use Rattle.std.specs.List.{list_any}
use Rattle.std.proofs.lemmas.Bool.{cases_eq, cases_lt, cases_Bool, ne_eqb, or_left, or_right, or_from, and_from, and_left, and_right, not_from_true, not_from_false}
use Rattle.std.proofs.Common.{eq-eqb}
use Rattle.wf_def_lists.specs.Table.{count_from}
use Rattle.wf_rotation.specs.Lists.{lists_at, on_at}
use Rattle.wf_law_rules.proofs.Lemmas.Counts.{listed-some, listed-none}
use Rattle.wf_queue_flows.specs.Flows.{FlowsValue, tids, is_listed, is_listed_by_another}

pub any-from_some : (p : ℕ → Bool) (from n j : ℕ) → from ≤ j → j < from + n → p j ≡ true →
    list_any p (count_from from n) ≡ true
any-from_some p from zero j low high is = absurd (omega arith)
any-from_some p from (suc n) j low high is = elim (cases_eq from j) [
  | inl e ↦ or_left (p from) (list_any p (count_from (suc from) n)) (ap p e ∙ is)
  | inr other ↦ or_right (p from) (list_any p (count_from (suc from) n))
      (any-from_some p (suc from) n j (omega arith) (omega arith) is)
]

pub any-from_none : (p : ℕ → Bool) (from n : ℕ) → ((j : ℕ) → p j ≡ false) →
    list_any p (count_from from n) ≡ false
any-from_none p from zero none = refl
any-from_none p from (suc n) none = or_from (p from) (list_any p (count_from (suc from) n)) (none from)
    (any-from_none p (suc from) n none)

module _ (v : FlowsValue) (i q : ℕ) where
  elsewhere : ℕ → Bool
  elsewhere j = not (j == i) && is_listed v j q

  pub listed_elsewhere : (j : ℕ) → j < tids v → (j ≡ i → ⊥) → is_listed v j q ≡ true →
      is_listed_by_another v i q ≡ true
  unfolding elsewhere
  listed_elsewhere j low other is = any-from_some elsewhere 0 (tids v) j (omega arith) (omega arith)
      (and_from (not (j == i)) (is_listed v j q) (not_from_false (j == i) (ne_eqb j i other)) is)

  pub listed_nowhere_else : ((j : ℕ) → is_listed v j q ≡ true → j ≡ i) → is_listed_by_another v i q ≡ false
  unfolding elsewhere
  listed_nowhere_else own = any-from_none elsewhere 0 (tids v) (λ j. elim (cases_Bool (is_listed v j q)) [
    | inl is ↦ and_left (not (j == i)) (is_listed v j q) (not_from_true (j == i) (eq-eqb j i (own j is)))
    | inr fails ↦ and_right (not (j == i)) (is_listed v j q) fails
  ])

-- a key that a rotation lists is on it
pub on-listed : (v : FlowsValue) (j q : ℕ) → is_listed v j q ≡ true → 0 < on_at v.rotas.lists j q
on-listed v j q is = elim (cases_lt 0 (on_at v.rotas.lists j q)) [
  | inl some ↦ some
  | inr few ↦ absurd (cc (sym is, listed-none (lists_at v.rotas.lists j) q (omega arith)))
]

pub listed-on : (v : FlowsValue) (j q : ℕ) → 0 < on_at v.rotas.lists j q → is_listed v j q ≡ true
listed-on v j q some = listed-some (lists_at v.rotas.lists j) q some
