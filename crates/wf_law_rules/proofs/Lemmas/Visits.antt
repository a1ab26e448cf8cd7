-- Proves the law of one turn: a pick has the same result before and after a turn of the loop that does not
-- end it. OneVisit compares the two picks; here, needs are computed from deficits.
use Rattle.std.proofs.Common.{◌≡◌, refl, ap, sym, ◌∙◌, arith, ℕ, zero, suc, ◌+◌, ◌*◌, ◌-◌, ◌/◌, ◌<◌, ◌≤◌, ◌==◌, nat_lt, ℤ, pos, negsuc, ◌+ℤ◌, int_le, Bool, true, false, if◌then◌else◌, List, [], ◌∷◌, ◌++◌, Some}
use Rattle.std.proofs.lemmas.Int.{ints}
use Rattle.std.proofs.Math.Nat.{div-eq_of_lt, add-div_right, div_self}
use Rattle.wf_def_rotation.specs.Rotation.{Rotation, need_of, pick, no_keys}
use Rattle.wf_def_lists.specs.Lists.{IsOnce}
use Rattle.wf_def_rotation.specs.Loop.{Empty, Wins, Again, with_quantum_paid, visit_at, pick_by_deficits, MeetsVisit, VisitLaw}
use Rattle.wf_law_rules.proofs.Lemmas.Numbers.{on_bool, lt_yes, lt_no, eq_yes, eq_no}
use Rattle.wf_law_rules.proofs.Order.{eq_self}
use Rattle.wf_law_rules.proofs.OneVisit.{Agrees, one_for, new_gets, new_idle, new_wins, visit_out, visit_back, old_wins}

-- ---- the quanta that a deficit needs

-- A deficit above 0 needs none.
need_above : (q : ℕ) (d : ℤ) → int_le d (pos 0) ≡ false → need_of q d ≡ 0
need_above q (pos zero) h = absurd (cc h)
need_above q (pos (suc n)) h = refl
need_above q (negsuc n) h = absurd (cc h)

need_positive : (q n : ℕ) → 1 ≤ n → need_of q (pos n) ≡ 0
need_positive q zero h = absurd (omega (arith, h))
need_positive q (suc n) h = refl

not_below : (n : ℕ) → int_le (pos (suc n)) (pos 0) ≡ true → ⊥
not_below n h = grind arith

need_negative : (q n : ℕ) → 1 ≤ q → (1 + n + q) / q ≡ 1 + need_of q (negsuc n +ℤ pos q)
need_negative q n some =
    let one_more : (1 + n + q) / q ≡ (1 + n) / q + 1 = add-div_right (1 + n) some in
    on_bool (nat_lt (1 + n) q)
    (λ h.
    let less : 1 + n < q = lt_yes (1 + n) q h in
    let sum : negsuc n +ℤ pos q ≡ pos (q - (1 + n)) = omega (arith, ints, less) in
    let none : need_of q (negsuc n +ℤ pos q) ≡ 0 =
    ap (need_of q) sum ∙ need_positive q (q - (1 + n)) (omega (arith, less)) in
    let zeroes : (1 + n) / q ≡ 0 = div-eq_of_lt less in
    omega (arith, one_more, none, zeroes))
    (λ h.
    let least : q ≤ 1 + n = lt_no (1 + n) q h in
    on_bool (q == 1 + n)
    (λ e.
    let same : q ≡ 1 + n = eq_yes q (1 + n) e in
    let sum : negsuc n +ℤ pos q ≡ pos 0 = omega (arith, ints, same) in
    let one : need_of q (negsuc n +ℤ pos q) ≡ 1 = ap (need_of q) sum in
    let whole : (1 + n) / q ≡ 1 = ap (λ (k : ℕ). k / q) (sym same) ∙ div_self some in
    omega (arith, one_more, one, whole))
    (λ e.
    let more : q < 1 + n = omega (arith, least, eq_no q (1 + n) e) in
    let sum : negsuc n +ℤ pos q ≡ negsuc (n - q) = omega (arith, ints, more) in
    let back : 1 + (n - q) + q ≡ 1 + n = omega (arith, more) in
    let same : need_of q (negsuc n +ℤ pos q) ≡ (1 + n) / q =
    ap (need_of q) sum ∙ ap (λ (k : ℕ). k / q) back in
    omega (arith, one_more, same)))

-- A deficit that is not above 0 needs one more than the deficit with one quantum added.
need_below : (q : ℕ) (d : ℤ) → 1 ≤ q → int_le d (pos 0) ≡ true → need_of q d ≡ 1 + need_of q (d +ℤ pos q)
need_below q (pos zero) some h =
    let sum : pos 0 +ℤ pos q ≡ pos q = omega (arith, ints) in
    let none : need_of q (pos 0 +ℤ pos q) ≡ 0 = ap (need_of q) sum ∙ need_positive q q some in
    omega (arith, none)
need_below q (pos (suc n)) some h = absurd (not_below n h)
need_below q (negsuc n) some h = need_negative q n some

-- ---- sums

plus_none : (n : ℕ) → n + 0 ≡ n
plus_none n = omega arith

sum_none : (d : ℤ) (q : ℕ) → d +ℤ pos (0 * q) ≡ d
sum_none d q = omega (arith, ints)

sum_own : (d d' : ℤ) (n n' q : ℕ) → n ≡ n' + 1 → d' ≡ d +ℤ pos q → d +ℤ pos (n * q) ≡ d' +ℤ pos (n' * q)
sum_own d d' n n' q e f = ap (λ (k : ℕ). d +ℤ pos (k * q)) e ∙ one_more d n' q
    ∙ ap (λ (z : ℤ). z +ℤ pos (n' * q)) (sym f)
  where
    one_more : (d : ℤ) (n q : ℕ) → d +ℤ pos ((n + 1) * q) ≡ (d +ℤ pos q) +ℤ pos (n * q)
    one_more d n q = omega (arith, ints)

sum_other : (d d' : ℤ) (n n' q : ℕ) → n ≡ n' + 0 → d' ≡ d → d +ℤ pos (n * q) ≡ d' +ℤ pos (n' * q)
sum_other d d' n n' q e f = ap (λ (k : ℕ). d +ℤ pos (k * q)) (e ∙ plus_none n')
    ∙ ap (λ (z : ℤ). z +ℤ pos (n' * q)) (sym f)

-- ---- a turn that gives a quantum

module _ (quantum : ℕ → ℕ) (deficit : ℕ → ℤ) (ready : ℕ → Bool) (key : ℕ)
    (some : (y : ℕ) → 1 ≤ quantum y) where
  abbrev need : ℕ → ℕ
  need y = need_of (quantum y) (deficit y)

  abbrev need' : ℕ → ℕ
  need' y = need_of (quantum y) (with_quantum_paid quantum deficit key y)

  paid_other : (y : ℕ) → (key == y) ≡ false → with_quantum_paid quantum deficit key y ≡ deficit y
  paid_other y e = ap (λ (b : Bool). if b then deficit y +ℤ pos (quantum y) else deficit y) e

  paid_own : (y : ℕ) → (key == y) ≡ true → with_quantum_paid quantum deficit key y
      ≡ deficit y +ℤ pos (quantum y)
  paid_own y e = ap (λ (b : Bool). if b then deficit y +ℤ pos (quantum y) else deficit y) e

  pub others : (y : ℕ) → (key == y) ≡ false → need' y ≡ need y
  others y e = ap (need_of (quantum y)) (paid_other y e)

  pub gets : int_le (deficit key) (pos 0) ≡ true → need key ≡ 1 + need' key
  gets h = need_below (quantum key) (deficit key) (some key) h
      ∙ ap (λ (d : ℤ). 1 + need_of (quantum key) d) (sym (paid_own key (eq_self key)))

  pub after_paid : (r s : Rotation) → Agrees (pick need ready r) (pick need' ready s) (one_for key) →
      MeetsVisit quantum deficit ready r (Again s (with_quantum_paid quantum deficit key))
  after_paid r s a = record {
    winner = a.winner;
    lists = a.lists;
    deficits = λ y. on_bool (key == y)
        (λ e.
        let more : (pick need ready r).quanta y ≡ (pick need' ready s).quanta y + 1 =
        a.quanta y ∙ ap (λ (b : Bool). (pick need' ready s).quanta y + (if b then 1 else 0)) e in
        sum_own (deficit y) (with_quantum_paid quantum deficit key y) _ _ (quantum y) more (paid_own y e))
        (λ e.
        let same : (pick need ready r).quanta y ≡ (pick need' ready s).quanta y + 0 =
        a.quanta y ∙ ap (λ (b : Bool). (pick need' ready s).quanta y + (if b then 1 else 0)) e in
        sum_other (deficit y) (with_quantum_paid quantum deficit key y) _ _ (quantum y) same
        (paid_other y e));
  }

-- ---- a turn that gives no quantum

after_none : (quantum : ℕ → ℕ) (deficit : ℕ → ℤ) (ready : ℕ → Bool) (r s : Rotation) (extra : ℕ → ℕ) →
    ((y : ℕ) → extra y ≡ 0) →
    Agrees (pick_by_deficits quantum deficit ready r) (pick_by_deficits quantum deficit ready s) extra →
    MeetsVisit quantum deficit ready r (Again s deficit)
after_none quantum deficit ready r s extra none a = record {
  winner = a.winner;
  lists = a.lists;
  deficits = λ y. ap (λ (n : ℕ). deficit y +ℤ pos (n * quantum y))
      (a.quanta y ∙ ap (λ (n : ℕ). (pick_by_deficits quantum deficit ready s).quanta y + n) (none y)
      ∙ plus_none _);
}

-- ---- a turn that ends the loop

at_win : (quantum : ℕ → ℕ) (deficit : ℕ → ℤ) (ready : ℕ → Bool) (r : Rotation) (key : ℕ) →
    Agrees (pick_by_deficits quantum deficit ready r)
    (record { winner = Some key; lists = r; quanta = λ y. 0 }) (λ y. 0) →
    MeetsVisit quantum deficit ready r (Wins key)
at_win quantum deficit ready r key a = record {
  winner = a.winner;
  lists = a.lists;
  deficits = λ y. ap (λ (n : ℕ). deficit y +ℤ pos (n * quantum y)) (a.quanta y)
      ∙ sum_none (deficit y) (quantum y);
}

at_end : (quantum : ℕ → ℕ) (deficit : ℕ → ℤ) (ready : ℕ → Bool) →
    MeetsVisit quantum deficit ready no_keys Empty
unfolding pick
at_end quantum deficit ready = record {
  winner = refl;
  lists = refl;
  deficits =
      λ y. sum_none (deficit y) (quantum y);
}

-- ---- the turns

abbrev none : ℕ
none = 0

none_if : (b : Bool) → (if b then none else none) ≡ none
none_if true = refl
none_if false = refl

new_visit : (b c : Bool) (quantum : ℕ → ℕ) (deficit : ℕ → ℤ) (ready : ℕ → Bool) (key : ℕ)
    (keys old : List ℕ) →
    ((y : ℕ) → 1 ≤ quantum y) → IsOnce (old ++ key ∷ keys) →
    int_le (deficit key) (pos 0) ≡ b → ready key ≡ c →
    MeetsVisit quantum deficit ready (record { new = key ∷ keys; old = old })
    (if b then Again (record { new = keys; old = old ++ key ∷ [] }) (with_quantum_paid quantum deficit key)
    else (if c then Wins key else Again (record { new = keys; old = old ++ key ∷ [] }) deficit))
new_visit true c quantum deficit ready key keys old some once low is =
    after_paid quantum deficit ready key some _ _
    (new_gets _ _ ready key keys old once (others quantum deficit ready key some)
    (gets quantum deficit ready key some low))
new_visit false true quantum deficit ready key keys old some once high is =
    at_win quantum deficit ready _ key (new_wins _ ready key keys old
    (need_above (quantum key) (deficit key) high) is)
new_visit false false quantum deficit ready key keys old some once high is =
    after_none quantum deficit ready _ _ _ (λ y. none_if (key == y))
    (new_idle _ ready key keys old once (need_above (quantum key) (deficit key) high) is)

old_visit : (b c : Bool) (quantum : ℕ → ℕ) (deficit : ℕ → ℤ) (ready : ℕ → Bool) (key : ℕ) (keys : List ℕ) →
    ((y : ℕ) → 1 ≤ quantum y) → IsOnce (key ∷ (keys ++ [])) →
    int_le (deficit key) (pos 0) ≡ b → ready key ≡ c →
    MeetsVisit quantum deficit ready (record { new = []; old = key ∷ keys })
    (if b then Again (record { new = []; old = keys ++ key ∷ [] }) (with_quantum_paid quantum deficit key)
    else (if c then Wins key else Again (record { new = []; old = keys }) deficit))
old_visit true c quantum deficit ready key keys some once low is =
    after_paid quantum deficit ready key some _ _
    (visit_back _ _ ready key keys once (others quantum deficit ready key some)
    (gets quantum deficit ready key some low))
old_visit false true quantum deficit ready key keys some once high is =
    at_win quantum deficit ready _ key (old_wins _ ready key keys
    (need_above (quantum key) (deficit key) high) is)
old_visit false false quantum deficit ready key keys some once high is =
    after_none quantum deficit ready _ _ _ (λ y. refl)
    (visit_out _ ready key keys once is (need_above (quantum key) (deficit key) high))

visit_on : (new old : List ℕ) (quantum : ℕ → ℕ) (deficit : ℕ → ℤ) (ready : ℕ → Bool) →
    ((y : ℕ) → 1 ≤ quantum y) → IsOnce (old ++ new) →
    MeetsVisit quantum deficit ready (record { new = new; old = old })
    (visit_at quantum deficit ready new old)
visit_on [] [] quantum deficit ready some once = at_end quantum deficit ready
visit_on [] (key ∷ keys) quantum deficit ready some once =
    old_visit (int_le (deficit key) (pos 0)) (ready key) quantum deficit ready key keys some once refl refl
visit_on (key ∷ keys) old quantum deficit ready some once =
    new_visit (int_le (deficit key) (pos 0)) (ready key) quantum deficit ready key keys old some once
    refl refl

pub visit_law : VisitLaw
visit_law quantum deficit ready r some once = visit_on r.new r.old quantum deficit ready some once
