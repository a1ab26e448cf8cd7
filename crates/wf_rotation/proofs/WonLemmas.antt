-- The rotation after a pass for a winner is the rotation after the pick.
use Rattle.std.proofs.Common.{◌≡◌, ℕ, ◌+◌, ◌-◌, ◌<◌, ◌≤◌, min, Bool, true, not, List, [], ◌∷◌, ◌++◌, length, take, Option, Some, None, sym, ap, ◌∙◌, subst, arith, length-append, append_assoc}
use Rattle.std.specs.List.{filter}
use Rattle.std.proofs.Math.Seq.{take-append_seam}
use Rattle.wf_def_rotation.specs.Rotation.{Rotation, Picked, in_order, keys_before, keys_from, round, all_visits, is_out, picked_later}
use Rattle.wf_def_lists.specs.Lists.{on}
use Rattle.wf_rotation.specs.Lists.{AreDisjoint, lists_at, keys_at, with_keys}
use Rattle.wf_rotation.specs.Rotas.{Rotas, need_at, is_ready, picked_at}
use Rattle.wf_rotation.specs.Scan.{IsWon}
use Rattle.wf_rotation.specs.Pass.{SharesAre, HasPassed, WasPickedFrom, last_key}
use Rattle.wf_rotation.specs.declared.side.Side.TheVariants.{Old}
use Rattle.wf_rotation.specs.declared.scan.Best.{Best}
use Rattle.wf_rotation.specs.declared.pass.Course.{Course}
use Rattle.wf_rotation.specs.declared.pass.Course.TheVariants.{AtOnce, Later}
use Rattle.wf_rotation.proofs.LeastLemmas.{least-cut}
use Rattle.wf_rotation.proofs.PickLemmas.{AtFront, at_front, pick_later_is, before_winner, from_winner}
use Rattle.wf_rotation.proofs.SettleLemmas.{at_once_picked, shares_later, now_is, later_as_it_is, later_visited, last_none, last_some}

module _ (v : Rotas) (ready : List Bool) (list : ℕ)
    (apart : AreDisjoint (record { lists = v.lists; keys = length v.deficits }))
    (there : list < length v.lists) (best : Best)
    (won : IsWon best (is_ready ready) (need_at v) (lists_at v.lists list)) where
  once : (y : ℕ) → on (in_order (lists_at v.lists list)) y ≤ 1
  once y = apart.once list y

  split : in_order (lists_at v.lists list) ≡ won.0.before ++ (won.0.key ∷ won.0.after)
  split = (least-cut (is_ready ready) (round (need_at v) (lists_at v.lists list))
      (in_order (lists_at v.lists list)) won.0 won.1).0

  is_won : is_ready ready won.0.key ≡ true
  is_won = (least-cut (is_ready ready) (round (need_at v) (lists_at v.lists list))
      (in_order (lists_at v.lists list)) won.0 won.1).1

  pub place_low : best.place < length (in_order (lists_at v.lists list))
  place_low = omega (arith, won.4, ap length split, length-append won.0.before (won.0.key ∷ won.0.after))

  -- a winner of round 0
  module _ (now : best.rank ≡ 0) where
    front : AtFront (need_at v) (is_ready ready) (lists_at v.lists list) won.0
    front = at_front (need_at v) (is_ready ready) (lists_at v.lists list) once won.0 won.1 (sym won.3 ∙ now)

    now_place : best.place ≡ length (lists_at v.lists list).old + length front.front
    now_place = won.4 ∙ ap length front.before_is ∙ length-append (lists_at v.lists list).old front.front

    pub now_count : best.place - length (lists_at v.lists list).old ≤ length (lists_at v.lists list).new
    now_count = omega (
      arith,
      now_place,
      ap length front.news,
      length-append front.front (won.0.key ∷ won.0.after),
    )

    pub now_old : length (lists_at v.lists list).old ≤ best.place
    now_old = omega (arith, now_place)

    pub now_winner : (picked_at v ready list).winner ≡ Some best.key
    now_winner = ap (λ (p : Picked). p.winner) front.picked
        ∙ ap (λ (k : ℕ). let o : Option ℕ = Some k in o) (sym won.2)

    pub now_picked : (v' : Rotas) → HasPassed AtOnce v list (λ y. 1) (λ y. true)
        (best.place - length (lists_at v.lists list).old) v' →
        WasPickedFrom v list (picked_at v ready list) v'
    now_picked v' ok =
        let count : best.place - length (lists_at v.lists list).old ≡ length front.front =
        omega (arith, now_place) in
        subst (λ (p : Picked). WasPickedFrom v list p v') (sym front.picked)
        (at_once_picked v (is_ready ready) list v' won.0 once front
        (subst (λ (n : ℕ). HasPassed AtOnce v list (λ y. 1) (λ y. true) n v') count ok))

  -- a winner of a later round
  module _ (later : 0 < best.rank) where
    abbrev visit : ℕ
    visit = round (need_at v) (lists_at v.lists list) won.0.key

    abbrev pub gets : ℕ → ℕ
    gets = all_visits (lists_at v.lists list) won.0.key (round (need_at v) (lists_at v.lists list) won.0.key)

    abbrev pub stay : ℕ → Bool
    stay = λ y. not (is_out (need_at v) (is_ready ready) (lists_at v.lists list) won.0.key
        (round (need_at v) (lists_at v.lists list) won.0.key) y)

    some_round : 0 < round (need_at v) (lists_at v.lists list) won.0.key
    some_round = subst (λ (n : ℕ). 0 < n) won.3 later

    before_is : keys_before won.0.key (in_order (lists_at v.lists list)) ≡ won.0.before
    before_is = before_winner (need_at v) (is_ready ready) (lists_at v.lists list) once won.0 won.1

    from_is : keys_from won.0.key (in_order (lists_at v.lists list)) ≡ won.0.key ∷ won.0.after
    from_is = from_winner (need_at v) (is_ready ready) (lists_at v.lists list) once won.0 won.1

    picked_is : picked_at v ready list ≡ picked_later (need_at v) (is_ready ready)
        (lists_at v.lists list) won.0.key visit
    picked_is = pick_later_is (need_at v) (is_ready ready) (lists_at v.lists list) once won.0 won.1 some_round

    same_course : Later best.rank best.place ≡ Later visit (length won.0.before)
    same_course = ap (λ (n : ℕ). let x : Course = Later n best.place in x) won.3
        ∙ ap (λ (n : ℕ). let x : Course = Later visit n in x) won.4

    pub later_shares : SharesAre (Later best.rank best.place) v ready list gets stay
    later_shares = subst (λ (x : Course). SharesAre x v ready list gets stay) (sym same_course)
        (shares_later v ready list once won.0 split before_is visit)

    pub later_winner : (picked_at v ready list).winner ≡ Some best.key
    later_winner = ap (λ (p : Picked). p.winner) picked_is
        ∙ ap (λ (k : ℕ). let o : Option ℕ = Some k in o) (sym won.2)

    -- the last key that stays before the winner
    pub later_last : (count : ℕ) (last : Option ℕ) → count ≡ length (in_order (lists_at v.lists list)) →
        last ≡ last_key (filter stay (take (min count best.place) (in_order (lists_at v.lists list)))) →
        last ≡ last_key (filter stay won.0.before)
    later_last count last all is =
        let place : min count best.place ≡ length won.0.before = omega (arith, place_low, won.4) in
        is ∙ ap (λ (n : ℕ). last_key (filter stay (take n (in_order (lists_at v.lists list))))) place
        ∙ ap (λ (xs : List ℕ). last_key (filter stay xs))
        (ap (take (length won.0.before)) split ∙ take-append_seam won.0.before (won.0.key ∷ won.0.after))

    module _ (v' : Rotas) (count : ℕ) (all : count ≡ length (in_order (lists_at v.lists list)))
        (passed : HasPassed (Later best.rank best.place) v list gets stay count v') where
      ok : HasPassed (Later visit (length won.0.before)) v list gets stay
          (length (in_order (lists_at v.lists list))) v'
      ok = subst (λ (x : Course). HasPassed x v list gets stay (length (in_order (lists_at v.lists list))) v')
          same_course (subst (λ (n : ℕ). HasPassed (Later best.rank best.place) v list gets stay n v') all
          passed)

      pub later_kept : last_key (filter stay won.0.before) ≡ None →
          WasPickedFrom v list (picked_at v ready list) v'
      later_kept none = subst (λ (p : Picked). WasPickedFrom v list p v') (sym picked_is)
          (later_as_it_is v ready list once won.0 split is_won before_is from_is some_round there v' ok
          (last_none (filter stay won.0.before) none))

      module _ (b : ℕ) (last : last_key (filter stay won.0.before) ≡ Some b) where
        abbrev pub ahead : List ℕ
        ahead = (last_some (filter stay won.0.before) b last).0

        pub later_follows : keys_at v'.lists list Old ≡ (last_some (filter stay won.0.before) b last).0 ++ b
            ∷ (best.key ∷ filter stay won.0.after)
        later_follows =
            ap (λ (x : Rotation). x.old) (now_is v ready list once won.0 split is_won before_is from_is
            some_round there v' ok)
            ∙ ap (λ (xs : List ℕ). xs ++ (won.0.key ∷ filter stay won.0.after))
            (last_some (filter stay won.0.before) b last).1
            ∙ append_assoc (last_some (filter stay won.0.before) b last).0 (b ∷ [])
            (won.0.key ∷ filter stay won.0.after)
            ∙ ap (λ (k : ℕ). (last_some (filter stay won.0.before) b last).0 ++ b
            ∷ (k ∷ filter stay won.0.after)) (sym won.2)

        pub later_visited_is : WasPickedFrom v list (picked_at v ready list)
            (record {
              lists = with_keys v'.lists list Old
                  (best.key ∷ (filter stay won.0.after ++ ((last_some (filter stay won.0.before) b last).0 ++ b
                  ∷ [])));
              deficits = v'.deficits;
              quanta = v'.quanta;
            })
        later_visited_is =
            let P : ℕ → List ℕ → Type 0 = λ (k : ℕ) (xs : List ℕ).
            WasPickedFrom v list (picked_at v ready list)
            (record {
              lists = with_keys v'.lists list Old (k ∷ (filter stay won.0.after ++ xs));
              deficits = v'.deficits;
              quanta = v'.quanta;
            }) in
            subst (λ (k : ℕ). P k ((last_some (filter stay won.0.before) b last).0 ++ b ∷ [])) (sym won.2)
            (subst (P won.0.key) (last_some (filter stay won.0.before) b last).1
            (subst (λ (p : Picked). WasPickedFrom v list p
            (record {
              lists = with_keys v'.lists list Old
                  (won.0.key ∷ (filter stay won.0.after ++ filter stay won.0.before));
              deficits = v'.deficits;
              quanta = v'.quanta;
            })) (sym picked_is)
            (later_visited v ready list once won.0 split is_won before_is from_is some_round there v' ok)))
