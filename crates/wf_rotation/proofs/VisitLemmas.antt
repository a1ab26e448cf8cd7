-- One visit of the loop leaves the rotation as the definition does, and the pick from there is the same pick.
use Rattle.std.proofs.Common.{◌≡◌, ℕ, zero, suc, ◌*◌, ◌<◌, ◌≤◌, ◌==◌, Bool, true, false, if◌then◌else◌, List, [], ◌∷◌, ◌++◌, length, set, Option, Some, None, refl, sym, ap, ◌∙◌, subst, inl, inr, arith, length-append, length-set}
use Rattle.std.specs.Prelude.{ℤ, pos, negsuc, ◌+ℤ◌, ◌≤ℤ◌, int_le, IfSome}
use Rattle.std.proofs.lemmas.Int.{ints}
use Rattle.std.proofs.Math.Path.{fun_ext}
use Rattle.std.proofs.lemmas.List.{get_or-set_same, get_or-set_other, set-get_or, set-set}
use Rattle.std.proofs.lemmas.Bool.{cases_eq, cond-true, cond-false}
use Rattle.wf_def_rotation.specs.Rotation.{Rotation, Picked, no_keys, has_key, in_order}
use Rattle.wf_def_rotation.specs.Loop.{Visit, Empty, Wins, Again, Standing, visit, visit_at, with_quantum_paid, pick_by_deficits, deficit_after, onward, LoopEnds, PickGives, MeetsVisit}
use Rattle.wf_def_lists.specs.Lists.{on, IsOnce}
use Rattle.wf_rotation.specs.Lists.{AllLists, AreDisjoint, lists_at, keys_at, first_of, keys_behind}
use Rattle.wf_rotation.specs.Rotas.{Rotas, deficit_at, quantum_at, need_at, is_ready, picked_at}
use Rattle.wf_rotation.specs.Pass.{passed_first, HasPicked}
use Rattle.wf_rotation.specs.Visits.{standing_at, first_visit, HasVisited, key_paid, is_new, after_visit_of, IsSamePick}
use Rattle.wf_rotation.specs.declared.side.Side.{Side}
use Rattle.wf_rotation.specs.declared.side.Side.TheVariants.{New, Old}
use Rattle.wf_law_rules.proofs.Lemmas.Counts.{on-cons_same, on-cons_other, on-hasnot, listed-some}
use Rattle.wf_law_rules.proofs.Lemmas.Numbers.{on_bool, eq_yes, eq_no}
use Rattle.wf_law_rules.proofs.Lemmas.Rotations.{IsWinner, pick_winner}
use Rattle.wf_law_rules.proofs.Lemmas.Visits.{visit_law}
use Rattle.wf_rotation.proofs.ListsLemmas.{first_is, taken_below}
use Rattle.wf_rotation.proofs.PassLemmas.{passed, passed_set}
use Rattle.wf_rotation.proofs.RangeLemmas.{quanta_low, capped}

-- ---- the visit of one key

abbrev two : List ℕ → List ℕ → Rotation
two news olds = record { new = news; old = olds }

-- the key is the first of new, or where new is empty that of old
abbrev pub IsNext : Rotation → Side → ℕ → Type 0
IsNext r New key = first_of r.new ≡ Some key
IsNext r Old key = (first_of r.new ≡ None) × (first_of r.old ≡ Some key)

pub next_below : (q : AllLists) (list : ℕ) (side : Side) (key : ℕ) (next : Side × ℕ) → next ≡ (side, key) →
    AreDisjoint q → first_of (keys_at q.lists list side) ≡ Some key → next.1 < q.keys
next_below q list side key next is apart first =
    subst (λ (n : Side × ℕ). n.1 < q.keys) (sym is) (taken_below q list side key apart first)

pub owing : (d : ℤ) → int_le d (pos 0) ≡ true → d ≤ℤ pos 0
owing (pos zero) h = omega (arith, ints)
owing (pos (suc n)) h = absurd (not_below n h)
  where
    not_below : (n : ℕ) → int_le (pos (suc n)) (pos 0) ≡ true → ⊥
    not_below n h = grind arith
owing (negsuc n) h = omega (arith, ints)

pub not_new : (side : Side) → (side ≡ New → ⊥) → false ≡ is_new side
not_new New h = absurd (h refl)
not_new Old h = refl

module _ (v : Rotas) (ready : List Bool) (list key : ℕ) (low : list < length v.lists)
    (below : key < length v.deficits) where
  lists_passed : (side : Side) (stays : Bool) → passed_first v.lists list side key stays
      ≡ set v.lists list (passed (lists_at v.lists list) side key stays)
  lists_passed side stays =
      ap (λ (all : List Rotation). passed_first all list side key stays)
      (sym (set-get_or v.lists list no_keys))
      ∙ passed_set v.lists list (lists_at v.lists list) side key stays low

  paid : (y : ℕ) → deficit_at (key_paid v key) y
      ≡ with_quantum_paid (quantum_at v.quanta) (deficit_at v.deficits) key y
  paid y = on_bool (key == y)
      (λ e. subst (λ (z : ℕ). deficit_at (key_paid v key) z
      ≡ deficit_at v.deficits z +ℤ pos (quantum_at v.quanta z)) (eq_yes key y e)
      (get_or-set_same v.deficits key _ (pos 0) below)
      ∙ sym (ap (λ (b : Bool). if b then deficit_at v.deficits y +ℤ pos (quantum_at v.quanta y)
      else deficit_at v.deficits y) e))
      (λ e. get_or-set_other v.deficits key y _ (pos 0) (λ same. eq_no key y e (sym same))
      ∙ sym (ap (λ (b : Bool). if b then deficit_at v.deficits y +ℤ pos (quantum_at v.quanta y)
      else deficit_at v.deficits y) e))

  new_visited : (keys olds : List ℕ) → lists_at v.lists list ≡ record { new = key ∷ keys; old = olds } →
      HasVisited v list (first_visit v ready list) (after_visit_of v list New key (is_ready ready key))
  new_visited keys olds is = subst (λ (t : Visit).
      HasVisited v list t (after_visit_of v list New key (is_ready ready key)))
      (sym (ap (visit (quantum_at v.quanta) (deficit_at v.deficits) (is_ready ready)) is))
      (go (int_le (deficit_at v.deficits key) (pos 0)) (is_ready ready key))
    where
      go : (owes rdy : Bool) →
          HasVisited v list (if owes then Again (record { new = keys; old = olds ++ key ∷ [] })
          (with_quantum_paid (quantum_at v.quanta) (deficit_at v.deficits) key)
          else (if rdy then Wins key
          else Again (record { new = keys; old = olds ++ key ∷ [] }) (deficit_at v.deficits)))
          (if owes
          then record v { lists = passed_first v.lists list New key true; deficits = key_paid v key }
          else (if rdy then v else record v { lists = passed_first v.lists list New key true }))
      go true rdy = record {
        lists = lists_passed New true
            ∙ ap (λ (r : Rotation). set v.lists list (passed r New key true)) is;
        deficits = paid;
        keys = length-set v.deficits key _;
        quanta = refl;
      }
      go false true = record {
        lists = sym (set-get_or v.lists list no_keys);
        deficits = λ y. refl;
        keys = refl;
        quanta = refl;
      }
      go false false = record {
        lists = lists_passed New true
            ∙ ap (λ (r : Rotation). set v.lists list (passed r New key true)) is;
        deficits = λ y. refl;
        keys = refl;
        quanta = refl;
      }

  old_visited : (keys : List ℕ) → lists_at v.lists list ≡ record { new = []; old = key ∷ keys } →
      HasVisited v list (first_visit v ready list) (after_visit_of v list Old key (is_ready ready key))
  old_visited keys is = subst (λ (t : Visit).
      HasVisited v list t (after_visit_of v list Old key (is_ready ready key)))
      (sym (ap (visit (quantum_at v.quanta) (deficit_at v.deficits) (is_ready ready)) is))
      (go (int_le (deficit_at v.deficits key) (pos 0)) (is_ready ready key))
    where
      go : (owes rdy : Bool) →
          HasVisited v list (if owes then Again (record { new = []; old = keys ++ key ∷ [] })
          (with_quantum_paid (quantum_at v.quanta) (deficit_at v.deficits) key)
          else (if rdy then Wins key
          else Again (record { new = []; old = keys }) (deficit_at v.deficits)))
          (if owes
          then record v { lists = passed_first v.lists list Old key true; deficits = key_paid v key }
          else (if rdy then v else record v { lists = passed_first v.lists list Old key false }))
      go true rdy = record {
        lists = lists_passed Old true
            ∙ ap (λ (r : Rotation). set v.lists list (passed r Old key true)) is;
        deficits = paid;
        keys = length-set v.deficits key _;
        quanta = refl;
      }
      go false true = record {
        lists = sym (set-get_or v.lists list no_keys);
        deficits = λ y. refl;
        keys = refl;
        quanta = refl;
      }
      go false false = record {
        lists = lists_passed Old false
            ∙ ap (λ (r : Rotation). set v.lists list (passed r Old key false)) is;
        deficits = λ y. refl;
        keys = refl;
        quanta = refl;
      }

  -- the first key of new is visited
  visited_new : first_of (keys_at v.lists list New) ≡ Some key →
      HasVisited v list (first_visit v ready list) (after_visit_of v list New key (is_ready ready key))
  visited_new first = new_visited (keys_behind (lists_at v.lists list).new) (lists_at v.lists list).old
      (ap (λ (keys : List ℕ). two keys (lists_at v.lists list).old)
      (first_is (lists_at v.lists list).new key first))

  no_first : (keys : List ℕ) → first_of keys ≡ None → keys ≡ []
  no_first [] h = refl
  no_first (k ∷ ks) h = absurd (cc h)

  -- with new empty, the first key of old is visited
  visited_old : first_of (keys_at v.lists list New) ≡ None →
      first_of (keys_at v.lists list Old) ≡ Some key →
      HasVisited v list (first_visit v ready list) (after_visit_of v list Old key (is_ready ready key))
  visited_old none first = old_visited (keys_behind (lists_at v.lists list).old)
      (ap (two (lists_at v.lists list).new) (first_is (lists_at v.lists list).old key first)
      ∙ ap (λ (keys : List ℕ). two keys (key ∷ keys_behind (lists_at v.lists list).old))
      (no_first (lists_at v.lists list).new none))

  -- the key that is next is visited
  pub visited_next : (side : Side) → IsNext (lists_at v.lists list) side key →
      HasVisited v list (first_visit v ready list) (after_visit_of v list side key (is_ready ready key))
  visited_next New is = visited_new is
  visited_next Old is = visited_old is.0 is.1

  -- with no deficit above 0 it is paid, and goes last on old
  pub visit_paid : (side : Side) (after : Rotas) → IsNext (lists_at v.lists list) side key →
      int_le (deficit_at v.deficits key) (pos 0) ≡ true →
      after ≡ record v { lists = passed_first v.lists list side key true; deficits = key_paid v key } →
      HasVisited v list (first_visit v ready list) after
  visit_paid side after is owes after_is =
      subst (λ (w : Rotas). HasVisited v list (first_visit v ready list) w)
      (cond-true (int_le (deficit_at v.deficits key) (pos 0)) _ _ owes ∙ sym after_is)
      (visited_next side is)

  -- else it wins if it is ready
  pub visit_won : (side : Side) → IsNext (lists_at v.lists list) side key →
      int_le (deficit_at v.deficits key) (pos 0) ≡ false → is_ready ready key ≡ true →
      HasVisited v list (first_visit v ready list) v
  visit_won side is rich rdy =
      subst (λ (w : Rotas). HasVisited v list (first_visit v ready list) w)
      (cond-false (int_le (deficit_at v.deficits key) (pos 0)) _ _ rich
      ∙ cond-true (is_ready ready key) _ _ rdy) (visited_next side is)

  -- if it is not ready, it moves from new to old, or leaves old
  pub visit_passed : (side : Side) (after : Rotas) (stays : Bool) →
      IsNext (lists_at v.lists list) side key →
      int_le (deficit_at v.deficits key) (pos 0) ≡ false → is_ready ready key ≡ false → stays ≡ is_new side →
      after ≡ record v { lists = passed_first v.lists list side key stays } →
      HasVisited v list (first_visit v ready list) after
  visit_passed side after stays is rich idle stays_is after_is =
      subst (λ (w : Rotas). HasVisited v list (first_visit v ready list) w)
      (cond-false (int_le (deficit_at v.deficits key) (pos 0)) _ _ rich
      ∙ cond-false (is_ready ready key) _ _ idle
      ∙ ap (λ (b : Bool). let w : Rotas = record v { lists = passed_first v.lists list side key b } in w)
      (sym stays_is) ∙ sym after_is) (visited_next side is)

-- ---- the pick before and after a visit

fewer_on : (x : ℕ) (xs : List ℕ) (y : ℕ) → on xs y ≤ on (x ∷ xs) y
fewer_on x xs y = elim (cases_eq x y) [
  | inl e ↦ subst (λ (z : ℕ). on xs z ≤ on (x ∷ xs) z) e (omega (arith, on-cons_same x xs))
  | inr other ↦ omega (arith, on-cons_other x y xs other)
]

on_once : (xs : List ℕ) → ((y : ℕ) → on xs y ≤ 1) → IsOnce xs
on_once [] h = tt
on_once (x ∷ xs) h = (
  on-hasnot xs x (omega (arith, h x, on-cons_same x xs)),
  on_once xs (λ y. omega (arith, h y, fewer_on x xs y)),
)

-- a visit leaves no more keys on the rotation
fewer_keys : (quantum : ℕ → ℕ) (deficit : ℕ → ℤ) (ready : ℕ → Bool) (news olds : List ℕ) →
    length (in_order (onward (record { lists = two news olds; deficit = deficit })
    (visit_at quantum deficit ready news olds)).lists) ≤ length (olds ++ news)
fewer_keys quantum deficit ready [] [] = omega arith
fewer_keys quantum deficit ready [] (key ∷ keys) = go (int_le (deficit key) (pos 0)) (ready key)
  where
    go : (owes rdy : Bool) →
        length (in_order (onward (record { lists = two [] (key ∷ keys); deficit = deficit })
        (if owes then Again (record { new = []; old = keys ++ key ∷ [] })
        (with_quantum_paid quantum deficit key) else (if rdy then Wins key
        else Again (record { new = []; old = keys }) deficit))).lists) ≤ length ((key ∷ keys) ++ [])
    go true rdy = omega (
      arith,
      length-append (keys ++ key ∷ []) [],
      length-append keys (key ∷ []),
      length-append (key ∷ keys) [],
    )
    go false true = omega arith
    go false false = omega (arith, length-append keys [], length-append (key ∷ keys) [])
fewer_keys quantum deficit ready (key ∷ keys) old = go (int_le (deficit key) (pos 0)) (ready key)
  where
    go : (owes rdy : Bool) →
        length (in_order (onward (record { lists = two (key ∷ keys) old; deficit = deficit })
        (if owes then Again (record { new = keys; old = old ++ key ∷ [] })
        (with_quantum_paid quantum deficit key) else (if rdy then Wins key
        else Again (record { new = keys; old = old ++ key ∷ [] }) deficit))).lists)
        ≤ length (old ++ key ∷ keys)
    go true rdy = omega (
      arith,
      length-append (old ++ key ∷ []) keys,
      length-append old (key ∷ []),
      length-append old (key ∷ keys),
    )
    go false true = omega arith
    go false false = omega (
      arith,
      length-append (old ++ key ∷ []) keys,
      length-append old (key ∷ []),
      length-append old (key ∷ keys),
    )

-- the pick before a visit is the pick after it
meets_onward : (quantum : ℕ → ℕ) (ready : ℕ → Bool) (s : Standing) (t : Visit) →
    MeetsVisit quantum s.deficit ready s.lists t →
    PickGives quantum s.deficit ready s.lists
    (pick_by_deficits quantum (onward s t).deficit ready (onward s t).lists).winner
    (pick_by_deficits quantum (onward s t).deficit ready (onward s t).lists).lists
    (deficit_after quantum (onward s t).deficit
    (pick_by_deficits quantum (onward s t).deficit ready (onward s t).lists))
meets_onward quantum ready s Empty meets = record { winner = refl; lists = refl; deficits = λ y. refl }
meets_onward quantum ready s (Wins key) meets = record { winner = refl; lists = refl; deficits = λ y. refl }
meets_onward quantum ready s (Again lists after) meets = meets

pub same_first : (v : Rotas) (ready : List Bool) (list : ℕ) → IsSamePick v ready list v
same_first v ready list = record {
  winner = refl;
  lists = refl;
  deficits = λ key. refl;
  others = λ r. refl;
  there = refl;
  keys = refl;
  quanta = refl;
  fewer = omega arith;
}

if_some : (o : Option ℕ) (P : ℕ → Type 0) → ((key : ℕ) → o ≡ Some key → P key) → IfSome o P
if_some None P h = tt
if_some (Some key) P h = h key refl

module _ (start : Rotas) (ready : List Bool) (list : ℕ) (u v : Rotas) (low : list < length start.lists)
    (some : (y : ℕ) → 1 ≤ quantum_at u.quanta y)
    (apart : AreDisjoint (record { lists = u.lists; keys = length u.deficits }))
    (same : IsSamePick start ready list u) (visited : HasVisited u list (first_visit u ready list) v) where
  abbrev at_u : Standing
  at_u = standing_at u list

  abbrev next : Standing
  next = onward at_u (first_visit u ready list)

  abbrev picked_next : Picked
  picked_next = pick_by_deficits (quantum_at u.quanta) next.deficit (is_ready ready) next.lists

  meets : MeetsVisit (quantum_at u.quanta) (deficit_at u.deficits) (is_ready ready) (lists_at u.lists list)
      (first_visit u ready list)
  meets = visit_law (quantum_at u.quanta) (deficit_at u.deficits) (is_ready ready)
      (lists_at u.lists list) some
      (on_once (in_order (lists_at u.lists list)) (apart.once list))

  gives : PickGives (quantum_at u.quanta) (deficit_at u.deficits) (is_ready ready) (lists_at u.lists list)
      picked_next.winner picked_next.lists (deficit_after (quantum_at u.quanta) next.deficit picked_next)
  gives = meets_onward (quantum_at u.quanta) (is_ready ready) at_u (first_visit u ready list) meets

  here : lists_at v.lists list ≡ next.lists
  here = ap (λ (all : List Rotation). lists_at all list) visited.lists
      ∙ get_or-set_same u.lists list next.lists no_keys (omega (arith, low, same.there))

  picked_v : picked_at v ready list ≡ picked_next
  picked_v =
      ap (λ (quanta : List ℕ). pick_by_deficits (quantum_at quanta) (deficit_at v.deficits) (is_ready ready)
      (lists_at v.lists list)) visited.quanta
      ∙ ap (λ (deficit : ℕ → ℤ). pick_by_deficits (quantum_at u.quanta) deficit (is_ready ready)
      (lists_at v.lists list)) (fun_ext visited.deficits)
      ∙ ap (pick_by_deficits (quantum_at u.quanta) next.deficit (is_ready ready)) here

  -- a visit more
  pub same_after : IsSamePick start ready list v
  same_after = record {
    winner = ap (λ (p : Picked). p.winner) picked_v ∙ sym gives.winner ∙ same.winner;
    lists = ap (λ (p : Picked). p.lists) picked_v ∙ sym gives.lists ∙ same.lists;
    deficits = λ key.
        ap (λ (d : ℤ). d +ℤ pos ((picked_at v ready list).quanta key * quantum_at v.quanta key))
        (visited.deficits key)
        ∙ ap (λ (p : Picked). next.deficit key +ℤ pos (p.quanta key * quantum_at v.quanta key)) picked_v
        ∙ ap (λ (quanta : List ℕ). next.deficit key
        +ℤ pos (picked_next.quanta key * quantum_at quanta key)) visited.quanta
        ∙ sym (gives.deficits key) ∙ same.deficits key;
    others = λ r. ap (λ (all : List Rotation). set all list r) visited.lists
        ∙ set-set u.lists list next.lists r ∙ same.others r;
    there = ap length visited.lists ∙ length-set u.lists list next.lists ∙ same.there;
    keys = visited.keys ∙ same.keys;
    quanta = visited.quanta ∙ same.quanta;
    fewer = omega (
      arith,
      ap (λ (r : Rotation). length (in_order r)) here,
      fewer_keys (quantum_at u.quanta) (deficit_at u.deficits) (is_ready ready)
          (lists_at u.lists list).new (lists_at u.lists list).old,
      same.fewer,
    );
  }

  -- the last visit
  ended_by : (winner : Option ℕ) (t : Visit) →
      MeetsVisit (quantum_at u.quanta) (deficit_at u.deficits) (is_ready ready) (lists_at u.lists list) t →
      HasVisited u list t v → LoopEnds t winner →
      (winner ≡ (picked_at u ready list).winner) × (v.lists ≡ set u.lists list (picked_at u ready list).lists)
      × ((key : ℕ) → deficit_at v.deficits key ≡ deficit_at u.deficits key
      +ℤ pos ((picked_at u ready list).quanta key * quantum_at u.quanta key))
  ended_by winner Empty m h e = (
    e ∙ sym m.winner,
    h.lists ∙ ap (λ (r : Rotation). set u.lists list r) (sym m.lists),
    (λ key. h.deficits key ∙ sym (m.deficits key)),
  )
  ended_by winner (Wins key) m h e = (
    e ∙ sym m.winner,
    h.lists ∙ ap (λ (r : Rotation). set u.lists list r) (sym m.lists),
    (λ key. h.deficits key ∙ sym (m.deficits key)),
  )
  ended_by winner (Again lists after) m h e = absurd e

  pub has_ended : (winner : Option ℕ) → LoopEnds (first_visit u ready list) winner →
      HasPicked start ready list winner v
  has_ended winner ends =
      let by : (winner ≡ (picked_at u ready list).winner)
      × (v.lists ≡ set u.lists list (picked_at u ready list).lists)
      × ((key : ℕ) → deficit_at v.deficits key ≡ deficit_at u.deficits key
      +ℤ pos ((picked_at u ready list).quanta key * quantum_at u.quanta key)) =
      ended_by winner (first_visit u ready list) meets visited ends in
      record {
        winner_is = by.0 ∙ same.winner;
        picked = record {
          lists = by.1 ∙ ap (λ (r : Rotation). set u.lists list r) same.lists
              ∙ same.others (picked_at start ready list).lists;
          deficits = λ key. by.2 key ∙ same.deficits key;
          keys = visited.keys ∙ same.keys;
          quanta = visited.quanta ∙ same.quanta;
        };
        below = if_some winner (λ key. key < length start.deficits) (λ key is.
            let won : IsWinner (need_at u) (is_ready ready) (lists_at u.lists list)
            (picked_at u ready list) key =
            pick_winner (need_at u) (is_ready ready) (lists_at u.lists list) key (sym by.0 ∙ is) in
            omega (arith, apart.below list key won.listed, same.keys));
      }

-- the pick in closed form, after some visits
pub at_once : (start : Rotas) (ready : List Bool) (list : ℕ) (u v : Rotas) (winner : Option ℕ) →
    IsSamePick start ready list u → HasPicked u ready list winner v → HasPicked start ready list winner v
at_once start ready list u v winner same has = record {
  winner_is = has.winner_is ∙ same.winner;
  picked = record {
    lists = has.picked.lists ∙ ap (λ (r : Rotation). set u.lists list r) same.lists
        ∙ same.others (picked_at start ready list).lists;
    deficits = λ key. has.picked.deficits key ∙ same.deficits key;
    keys = has.picked.keys ∙ same.keys;
    quanta = has.picked.quanta ∙ same.quanta;
  };
  below = subst (λ (n : ℕ). IfSome winner (λ key. key < n)) same.keys has.below;
}

-- ---- what every caller of a pick needs

module _ (start : Rotas) (ready : List Bool) (list : ℕ) (winner : Option ℕ) (v : Rotas)
    (has : HasPicked start ready list winner v) where
  won : (key : ℕ) → winner ≡ Some key → IsWinner (need_at start) (is_ready ready) (lists_at start.lists list)
      (picked_at start ready list) key
  won key some = pick_winner (need_at start) (is_ready ready) (lists_at start.lists list) key
      (sym has.winner_is ∙ some)

  pub some_listed : IfSome winner (λ key. has_key (lists_at start.lists list) key ≡ true)
  some_listed = if_some winner (λ key. has_key (lists_at start.lists list) key ≡ true)
      (λ key some. listed-some (lists_at start.lists list) key (won key some).listed)

  pub some_ready : IfSome winner (λ key. is_ready ready key ≡ true)
  some_ready = if_some winner (λ key. is_ready ready key ≡ true) (λ key some. (won key some).is_ready)

  pub none_above : (key : ℕ) → deficit_at start.deficits key ≤ℤ pos (quantum_at start.quanta key) →
      deficit_at v.deficits key ≤ℤ pos (quantum_at start.quanta key)
  none_above key small =
      rw (has.picked.deficits key) (capped (deficit_at start.deficits key) (quantum_at start.quanta key)
      ((picked_at start ready list).quanta key)
      (quanta_low (need_at start) (is_ready ready) (lists_at start.lists list) key) small)
