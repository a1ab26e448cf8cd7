-- The visits that find a rotation with one key, on its old list, and give the key a quantum each, are made at
-- once: by induction on the visits.
use Rattle.std.proofs.Common.{◌≡◌, ℕ, zero, suc, ◌+◌, ◌*◌, ◌/◌, ◌<◌, ◌≤◌, min, Bool, true, List, [], ◌∷◌, length, set, Some, None, refl, sym, ap, ◌∙◌, subst, arith, length-set}
use Rattle.std.specs.Prelude.{ℤ, pos, negsuc, ◌+ℤ◌, ◌≤ℤ◌, int_le}
use Rattle.std.proofs.lemmas.Int.{ints}
use Rattle.std.proofs.lemmas.List.{get_or-set_same, set-get_or, set-set}
use Rattle.std.proofs.Math.Nat.{mul-le-mul_right}
use Rattle.wf_def_rotation.specs.Rotation.{Rotation, no_keys, in_order, need_of}
use Rattle.wf_def_rotation.specs.Loop.{visit}
use Rattle.wf_def_lists.specs.Lists.{on}
use Rattle.wf_rotation.specs.Lists.{AreDisjoint, lists_at, first_of, keys_behind}
use Rattle.wf_rotation.specs.Pass.{raised, passed_first}
use Rattle.wf_rotation.specs.Rotas.{Rotas, deficit_at, quantum_at, need_at, is_ready}
use Rattle.wf_rotation.specs.Visits.{first_visit, IsOnward, HasVisited, IsSamePick, IsOnlyOld, HasPaidOnly, key_paid}
use Rattle.wf_rotation.specs.declared.side.Side.TheVariants.{Old}
use Rattle.wf_law_rules.proofs.Lemmas.Counts.{on-cons_same}
use Rattle.wf_rotation.proofs.ListsLemmas.{first_is}
use Rattle.wf_rotation.proofs.NeedLemmas.{quotient_below}
use Rattle.wf_rotation.proofs.PassLemmas.{passed, passed_set}
use Rattle.wf_rotation.proofs.VisitLemmas.{visit_paid, same_first, same_after}
use Rattle.wf_rotation.proofs.PaidLemmas.{of_old, ArePaid, paid_first, paid_after}
use Rattle.wf_rotation.proofs.CountedVisits.{AreVisits, visits_first, visits_after}

-- ---- numbers

once_more : (n q : ℕ) → suc n * q ≡ n * q + q
once_more n q = grind arith

-- a deficit that needs more quanta than it got is not above 0
owes_still : (d : ℤ) (q n : ℕ) → n < need_of q d → (d +ℤ pos (n * q)) ≤ℤ pos 0
owes_still (pos zero) q n few =
    let first : n ≡ 0 = omega (arith, few) in
    let none : n * q ≡ 0 = rw first (omega arith) in
    rw none (omega (arith, ints))
owes_still (pos (suc m)) q n few = absurd (omega (arith, few))
owes_still (negsuc m) q n few =
    let fewer : suc n * q ≤ (1 + m + q) / q * q = mul-le-mul_right q (omega (arith, few)) in
    omega (arith, ints, fewer, quotient_below (1 + m + q) q, once_more n q)

owes_true : (d : ℤ) → d ≤ℤ pos 0 → int_le d (pos 0) ≡ true
owes_true (pos zero) h = refl
owes_true (pos (suc n)) h = absurd (omega (arith, ints, h))
owes_true (negsuc n) h = refl

-- what some visits give, and then one more
given_more : (d : ℤ) (q n : ℕ) → ((d +ℤ pos (n * q)) +ℤ pos q) ≡ (d +ℤ pos (suc n * q))
given_more d q n = omega (arith, ints, once_more n q)

given_none : (d : ℤ) (q : ℕ) → (d +ℤ pos (0 * q)) ≡ d
given_none d q = omega (arith, ints)

raised_by : (d : ℤ) (q visits : ℕ) → visits ≤ need_of q d → raised d q visits ≡ (d +ℤ pos (visits * q))
raised_by d q visits few =
    let all : min visits (need_of q d) ≡ visits = omega (arith, few) in
    ap (λ (n : ℕ). d +ℤ pos (n * q)) all

-- ---- the only key of a rotation, on its old list

pub only_old : (r : Rotation) (key : ℕ) → first_of r.new ≡ None → first_of r.old ≡ Some key →
    None ≡ first_of (keys_behind r.old) → IsOnlyOld r key
only_old r key none one behind = both r.new r.old (no_first r.new none)
    (first_is r.old key one ∙ ap (λ (ks : List ℕ). key ∷ ks) (no_first (keys_behind r.old) (sym behind)))
  where
    no_first : (ks : List ℕ) → first_of ks ≡ None → ks ≡ []
    no_first [] h = refl
    no_first (k ∷ ks) h = cc

    both : (news olds : List ℕ) → news ≡ [] → olds ≡ key ∷ [] →
        IsOnlyOld (record { new = news; old = olds }) key
    both news olds n o = cc

-- the visits so far leave the same pick, and each was paid for and is counted
pub record Stands (start : Rotas) (ready : List Bool) (list : ℕ) (v : Rotas) (visits : ℕ) : Type 0 where
  pub same : IsSamePick start ready list v
  pub paid : ArePaid start list v visits
  pub counted : AreVisits start ready list v visits

stands_first : (v : Rotas) (ready : List Bool) (list : ℕ) → Stands v ready list v 0
stands_first v ready list = record {
  same = same_first v ready list;
  paid = paid_first v list;
  counted = visits_first v ready list;
}

module _ (start : Rotas) (ready : List Bool) (list key : ℕ) (low : list < length start.lists)
    (some : (y : ℕ) → 1 ≤ quantum_at start.quanta y)
    (apart : AreDisjoint (record { lists = start.lists; keys = length start.deficits }))
    (alone : IsOnlyOld (lists_at start.lists list) key) where
  -- the rotations after some visits
  abbrev paid_by : ℕ → Rotas
  paid_by n = record start {
    deficits = set start.deficits key
        (deficit_at start.deficits key +ℤ pos (n * quantum_at start.quanta key));
  }

  in_keys : key < length start.deficits
  in_keys = apart.below list key (subst (λ (r : Rotation). 0 < on (in_order r) key) (sym alone)
      (omega (arith, on-cons_same key [])))

  same_lists : passed_first start.lists list Old key true ≡ start.lists
  same_lists = ap (λ (all : List Rotation). passed_first all list Old key true)
      (sym (set-get_or start.lists list no_keys))
      ∙ passed_set start.lists list (lists_at start.lists list) Old key true low
      ∙ ap (λ (r : Rotation). set start.lists list r)
      (ap (λ (r : Rotation). passed r Old key true) alone ∙ sym alone)
      ∙ set-get_or start.lists list no_keys

  here : (n : ℕ) → deficit_at (paid_by n).deficits key
      ≡ deficit_at start.deficits key +ℤ pos (n * quantum_at start.quanta key)
  here n = get_or-set_same start.deficits key _ (pos 0) in_keys

  one_more : (n : ℕ) → paid_by (suc n) ≡ record (paid_by n) {
    lists = passed_first start.lists list Old key true;
    deficits = key_paid (paid_by n) key;
  }
  one_more n =
      let owned : key_paid (paid_by n) key ≡ (paid_by (suc n)).deficits =
      set-set start.deficits key _ _
      ∙ ap (λ (d : ℤ). set start.deficits key (d +ℤ pos (quantum_at start.quanta key))) (here n)
      ∙ ap (set start.deficits key)
      (given_more (deficit_at start.deficits key) (quantum_at start.quanta key) n) in
      ap (λ (all : List Rotation). record (paid_by (suc n)) { lists = all }) (sym same_lists)
      ∙ ap (λ (ds : List ℤ). record start {
        lists = passed_first start.lists list Old key true;
        deficits = ds;
      }) (sym owned)

  pub stands : (visits : ℕ) → visits ≤ need_at start key → Stands start ready list (paid_by visits) visits
  stands zero few = subst (λ (v : Rotas). Stands start ready list v 0)
      (sym (ap (λ (ds : List ℤ). record start { deficits = ds })
      (ap (set start.deficits key) (given_none _ (quantum_at start.quanta key))
      ∙ set-get_or start.deficits key (pos 0)))) (stands_first start ready list)
  stands (suc n) few =
      let before : Stands start ready list (paid_by n) n = stands n (omega (arith, few)) in
      let owes : int_le (deficit_at (paid_by n).deficits key) (pos 0) ≡ true =
      ap (λ (d : ℤ). int_le d (pos 0)) (here n) ∙ owes_true _ (owes_still (deficit_at start.deficits key)
      (quantum_at start.quanta key) n (omega (arith, few))) in
      let goes : IsOnward (first_visit (paid_by n) ready list) =
      subst (λ (r : Rotation). IsOnward (visit (quantum_at start.quanta) (deficit_at (paid_by n).deficits)
      (is_ready ready) r)) (sym alone)
      (subst (λ (b : Bool). IsOnward (of_old (quantum_at start.quanta) (deficit_at (paid_by n).deficits) key []
      b (is_ready ready key))) (sym owes) tt) in
      let keys : length (paid_by n).deficits ≡ length start.deficits = length-set start.deficits key _ in
      let visited : HasVisited (paid_by n) list (first_visit (paid_by n) ready list) (paid_by (suc n)) =
      visit_paid (paid_by n) ready list key low (omega (arith, in_keys, keys)) Old (paid_by (suc n))
      (ap (λ (r : Rotation). first_of r.new) alone, ap (λ (r : Rotation). first_of r.old) alone) owes
      (one_more n) in
      let apart_still : AreDisjoint (record { lists = start.lists; keys = length (paid_by n).deficits }) =
      subst (λ (k : ℕ). AreDisjoint (record { lists = start.lists; keys = k })) (sym keys) apart in
      let count : n + 1 ≡ suc n = omega arith in
      record {
        same = same_after start ready list (paid_by n) (paid_by (suc n)) low some apart_still before.same
            visited;
        paid = subst (ArePaid start list (paid_by (suc n))) count (paid_after start ready list (paid_by n)
            (paid_by (suc n)) low some before.same visited n before.paid goes);
        counted = subst (AreVisits start ready list (paid_by (suc n))) count (visits_after start ready list
            (paid_by n) (paid_by (suc n)) n low before.same visited goes before.counted);
      }

-- the visits that were made at once
pub paid_only : (start : Rotas) (ready : List Bool) (list visits : ℕ) (v : Rotas) →
    list < length start.lists → ((y : ℕ) → 1 ≤ quantum_at start.quanta y) →
    AreDisjoint (record { lists = start.lists; keys = length start.deficits }) →
    HasPaidOnly start list visits v → Stands start ready list v visits
paid_only start ready list zero v low some apart has =
    let same : v ≡ start = has.paid
    ∙ ap (λ (d : ℤ). record start { deficits = set start.deficits has.key d })
    (raised_by (deficit_at start.deficits has.key) (quantum_at start.quanta has.key) 0 has.owing
    ∙ given_none (deficit_at start.deficits has.key) (quantum_at start.quanta has.key))
    ∙ ap (λ (ds : List ℤ). record start { deficits = ds }) (set-get_or start.deficits has.key (pos 0)) in
    subst (λ (w : Rotas). Stands start ready list w 0) (sym same) (stands_first start ready list)
paid_only start ready list (suc n) v low some apart has =
    let same : v ≡ record start {
      deficits = set start.deficits has.key (deficit_at start.deficits has.key
          +ℤ pos (suc n * quantum_at start.quanta has.key));
    } = has.paid ∙ ap (λ (d : ℤ). record start { deficits = set start.deficits has.key d })
    (raised_by _ _ (suc n) has.owing) in
    subst (λ (w : Rotas). Stands start ready list w (suc n)) (sym same)
    (stands start ready list has.key low some apart (has.alone (omega arith)) (suc n) has.owing)
