-- Proves that a pick with other numbers of the keys has the same result with these numbers, and that it has
-- no winner if and only if no listed key is ready.
use Rattle.std.proofs.Common.{◌≡◌, refl, ap, sym, subst, ◌∙◌, ℕ, ◌+◌, ◌-◌, min, max, Bool, true, false, not, ◌||◌, ◌&&◌, cond, List, [], ◌∷◌, ◌++◌, map, Option, Some, None, eqb, nat_le, arith}
use Rattle.std.specs.Prelude.{filter, find, option_map}
use Rattle.wf_def_lists.specs.Table.{has}
use Rattle.wf_def_rotation.specs.Rotation.{Rotation, has_key, in_order, keys_before, keys_from, round, first_of_two, first_least, none_ready, picked_now, old_visits, all_visits, is_out, picked_later, pick_later, pick_from, pick}
use Rattle.wf_law_rules.specs.Renamed.{renamed, KeepsApart, Agrees, IsRenamed, IsSame, IsIdle}
use Rattle.wf_law_rules.proofs.Lemmas.Numbers.{or_left, or_right}
use Rattle.wf_law_rules.proofs.Lemmas.Joined.{has_append, has_first, has_second}
use Rattle.wf_law_rules.proofs.Lemmas.Members.{has_head, has_tail, has_filter, has_before, has_from, has_least}
use Rattle.wf_law_rules.proofs.Renamings.{find_renamed, filter_renamed, append_renamed, least_renamed, equal_renamed, has_renamed, before_renamed, from_renamed}

or_swap : (a b : Bool) → (a || b) ≡ true → (b || a) ≡ true
or_swap true b h = or_right b true refl
or_swap false true h = refl
or_swap false false h = h

pub listed_in : (r : Rotation) (k : ℕ) → has (in_order r) k ≡ true → has_key r k ≡ true
listed_in r k h = or_swap (has r.old k) (has r.new k) (sym (has_append r.old r.new k) ∙ h)

by_bool : (P : Type 0) (b : Bool) → (b ≡ true → P) → (b ≡ false → P) → P
by_bool P true h k = h refl
by_bool P false h k = k refl

pub in_listed : (r : Rotation) (k : ℕ) → has_key r k ≡ true → has (in_order r) k ≡ true
in_listed r k h = by_bool (has (in_order r) k ≡ true) (has r.new k) (λ new. has_second r.old r.new k new)
    (λ off. has_first r.old r.new k (subst (λ (b : Bool). (b || has r.old k) ≡ true) off h))

true_eqb : (a b : ℕ) → eqb a b ≡ true → a ≡ b
true_eqb a b h = grind arith

both : true ≡ false → ⊥
both e = cc

abbrev rot : List ℕ → List ℕ → Rotation
rot news olds = record { new = news; old = olds }

module _ (f : ℕ → ℕ) (apart : KeepsApart f) (r : Rotation) (need other : ℕ → ℕ) (ready others : ℕ → Bool)
    (same : Agrees f r need other ready others) where
  order_is : in_order (renamed f r) ≡ map f (in_order r)
  order_is = append_renamed f r.old r.new

  listed_is : (y : ℕ) → has_key (renamed f r) (f y) ≡ has_key r y
  listed_is y = ap (λ (b : Bool). b || has (map f r.old) (f y)) (has_renamed f apart r.new y)
      ∙ ap (λ (b : Bool). has r.new y || b) (has_renamed f apart r.old y)

  round_is : (y : ℕ) → has_key r y ≡ true → round other (renamed f r) (f y) ≡ round need r y
  round_is y h = ap (λ (n : ℕ). cond (has (map f r.new) (f y)) n (1 + n)) (same.needs y h)
      ∙ ap (λ (b : Bool). cond b (need y) (1 + need y)) (has_renamed f apart r.new y)

  old_visits_is : (w round_won y : ℕ) → old_visits (renamed f r) (f w) round_won (f y)
      ≡ old_visits r w round_won y
  old_visits_is w round_won y = ap (λ (b : Bool). cond b round_won (round_won - 1))
      (ap (λ (xs : List ℕ). has (keys_before (f w) xs) (f y)) order_is
      ∙ ap (λ (xs : List ℕ). has xs (f y)) (before_renamed f apart w (in_order r))
      ∙ has_renamed f apart (keys_before w (in_order r)) y)

  visits_is : (w round_won y : ℕ) → all_visits (renamed f r) (f w) round_won (f y)
      ≡ all_visits r w round_won y
  visits_is w round_won y = ap (λ (n : ℕ). n + cond (has (map f r.new) (f y)) 1 0)
      (old_visits_is w round_won y) ∙ ap (λ (b : Bool). old_visits r w round_won y + cond b 1 0)
      (has_renamed f apart r.new y)

  out_is : (w round_won y : ℕ) → has_key r y ≡ true →
      is_out other others (renamed f r) (f w) round_won (f y) ≡ is_out need ready r w round_won y
  out_is w round_won y h =
      ap (λ (b : Bool). not b && nat_le (max 1 (round other (renamed f r) (f y)))
      (old_visits (renamed f r) (f w) round_won (f y))) (same.readiness y h)
      ∙ ap (λ (n : ℕ). not (ready y) && nat_le (max 1 n) (old_visits (renamed f r) (f w) round_won (f y)))
      (round_is y h)
      ∙ ap (λ (n : ℕ). not (ready y) && nat_le (max 1 (round need r y)) n) (old_visits_is w round_won y)

  -- The winner wins in round `round_won`. Compares the lists and the visits of the other keys.
  module _ (w round_won : ℕ) (stands : has_key r w ≡ true) where
    visited_is : keys_from (f w) (in_order (renamed f r)) ++ keys_before (f w) (in_order (renamed f r))
        ≡ map f (keys_from w (in_order r) ++ keys_before w (in_order r))
    visited_is =
        ap (λ (xs : List ℕ). keys_from (f w) xs ++ keys_before (f w) xs) order_is
        ∙ ap (λ (zs : List ℕ). zs ++ keys_before (f w) (map f (in_order r)))
        (from_renamed f apart w (in_order r))
        ∙ ap (λ (zs : List ℕ). map f (keys_from w (in_order r)) ++ zs) (before_renamed f apart w (in_order r))
        ∙ append_renamed f (keys_from w (in_order r)) (keys_before w (in_order r))

    visited_listed : (k : ℕ) → has (keys_from w (in_order r) ++ keys_before w (in_order r)) k ≡ true →
        has_key r k ≡ true
    visited_listed k h = by_bool (has_key r k ≡ true) (has (keys_from w (in_order r)) k)
        (λ late. listed_in r k (has_from w (in_order r) k late))
        (λ off. listed_in r k (has_before w (in_order r) k
        (subst (λ (b : Bool). (b || has (keys_before w (in_order r)) k) ≡ true) off
        (sym (has_append (keys_from w (in_order r)) (keys_before w (in_order r)) k) ∙ h))))

    kept_is : filter (λ y. not (is_out other others (renamed f r) (f w) round_won y))
        (keys_from (f w) (in_order (renamed f r)) ++ keys_before (f w) (in_order (renamed f r)))
        ≡ map f (filter (λ y. not (is_out need ready r w round_won y))
        (keys_from w (in_order r) ++ keys_before w (in_order r)))
    kept_is = ap (filter (λ y. not (is_out other others (renamed f r) (f w) round_won y))) visited_is
        ∙ filter_renamed f (λ y. not (is_out need ready r w round_won y))
        (λ y. not (is_out other others (renamed f r) (f w) round_won y))
        (keys_from w (in_order r) ++ keys_before w (in_order r))
        (λ k h. ap not (out_is w round_won k (visited_listed k h)))

    gets : (y : ℕ) (b l : Bool) → eqb y w ≡ b → has_key r y ≡ l →
        cond b (other (f y)) (cond l (min (all_visits r w round_won y) (other (f y))) 0)
        ≡ cond b (need y) (cond l (min (all_visits r w round_won y) (need y)) 0)
    gets y b true e s = ap (λ (n : ℕ). cond b n (min (all_visits r w round_won y) n)) (same.needs y s)
    gets y false false e s = refl
    gets y true false e s = absurd (both (sym stands ∙ ap (has_key r) (sym (true_eqb y w e)) ∙ s))

    later_is : IsRenamed f (picked_later need ready r w round_won)
        (picked_later other others (renamed f r) (f w) round_won)
    later_is = record {
      winner = refl;
      lists = ap (rot []) kept_is;
      quanta = λ y.
          ap (λ (b : Bool). cond b (other (f y)) (cond (has_key (renamed f r) (f y))
          (min (all_visits (renamed f r) (f w) round_won (f y)) (other (f y))) 0)) (equal_renamed f apart y w)
          ∙ ap (λ (b : Bool). cond (eqb y w) (other (f y))
          (cond b (min (all_visits (renamed f r) (f w) round_won (f y)) (other (f y))) 0)) (listed_is y)
          ∙ ap (λ (n : ℕ). cond (eqb y w) (other (f y)) (cond (has_key r y) (min n (other (f y))) 0))
          (visits_is w round_won y)
          ∙ gets y (eqb y w) (has_key r y) refl refl;
    }

  now_is : (w : ℕ) → IsRenamed f (picked_now need r w) (picked_now other (renamed f r) (f w))
  now_is w = record {
    winner = refl;
    lists =
        ap (λ (xs : List ℕ). rot xs (map f r.old ++ keys_before (f w) (map f r.new)))
        (from_renamed f apart w r.new)
        ∙ ap (λ (zs : List ℕ). rot (map f (keys_from w r.new)) (map f r.old ++ zs))
        (before_renamed f apart w r.new)
        ∙ ap (rot (map f (keys_from w r.new))) (append_renamed f r.old (keys_before w r.new));
    quanta = λ y.
        ap (λ (xs : List ℕ). cond (has xs (f y)) (min 1 (other (f y))) 0) (before_renamed f apart w r.new)
        ∙ ap (λ (b : Bool). cond b (min 1 (other (f y))) 0) (has_renamed f apart (keys_before w r.new) y)
        ∙ passed y (has (keys_before w r.new) y) refl;
  }
    where
      passed : (y : ℕ) (b : Bool) → has (keys_before w r.new) y ≡ b →
          cond b (min 1 (other (f y))) 0 ≡ cond b (min 1 (need y)) 0
      passed y true h = ap (min 1) (same.needs y (or_left (has r.new y) (has r.old y)
          (has_before w r.new y h)))
      passed y false h = refl

  none_is : IsRenamed f (none_ready need r) (none_ready other (renamed f r))
  none_is = record {
    winner = refl;
    lists = refl;
    quanta = λ y. ap (λ (b : Bool). cond b (other (f y)) 0) (listed_is y) ∙ lifted y (has_key r y) refl;
  }
    where
      lifted : (y : ℕ) (b : Bool) → has_key r y ≡ b → cond b (other (f y)) 0 ≡ cond b (need y) 0
      lifted y true h = same.needs y h
      lifted y false h = refl

  abbrev least : Option ℕ
  least = first_least (round need r) (filter ready (in_order r))

  least_is : first_least (round other (renamed f r)) (filter others (in_order (renamed f r)))
      ≡ option_map f (first_least (round need r) (filter ready (in_order r)))
  least_is =
      ap (λ (xs : List ℕ). first_least (round other (renamed f r)) (filter others xs)) order_is
      ∙ ap (first_least (round other (renamed f r)))
      (filter_renamed f ready others (in_order r) (λ k h. same.readiness k (listed_in r k h)))
      ∙ least_renamed f (round need r) (round other (renamed f r)) (filter ready (in_order r))
      (λ k h. round_is k (listed_in r k (has_filter ready (in_order r) k h)))

  later_of : (o : Option ℕ) → ((w : ℕ) → o ≡ Some w → has_key r w ≡ true) →
      IsRenamed f (pick_later need ready r o) (pick_later other others (renamed f r) (option_map f o))
  later_of None on = none_is
  later_of (Some w) on = subst (λ (round_won : ℕ).
      IsRenamed f (picked_later need ready r w (round need r w))
      (picked_later other others (renamed f r) (f w) round_won)) (sym (round_is w (on w refl)))
      (later_is w (round need r w) (on w refl))

  from_of : (o : Option ℕ) → IsRenamed f (pick_from need ready r o)
      (pick_from other others (renamed f r) (option_map f o))
  from_of None = subst (λ (o : Option ℕ). IsRenamed f
      (pick_later need ready r (first_least (round need r) (filter ready (in_order r))))
      (pick_later other others (renamed f r) o)) (sym least_is)
      (later_of (first_least (round need r) (filter ready (in_order r)))
      (λ w e. listed_in r w (has_filter ready (in_order r) w
      (has_least (round need r) (filter ready (in_order r)) w e))))
  from_of (Some w) = now_is w

  found_is : find (λ y. others y && eqb (other y) 0) (map f r.new)
      ≡ option_map f (find (λ y. ready y && eqb (need y) 0) r.new)
  found_is = find_renamed f (λ y. ready y && eqb (need y) 0) (λ y. others y && eqb (other y) 0) r.new (λ k h.
      ap (λ (b : Bool). b && eqb (other (f k)) 0) (same.readiness k (or_left (has r.new k) (has r.old k) h))
      ∙ ap (λ (n : ℕ). ready k && eqb n 0) (same.needs k (or_left (has r.new k) (has r.old k) h)))

  pub renamed_pick : IsRenamed f (pick need ready r) (pick other others (renamed f r))
  unfolding pick
  renamed_pick = subst (λ (o : Option ℕ). IsRenamed f
      (pick_from need ready r (find (λ y. ready y && eqb (need y) 0) r.new))
      (pick_from other others (renamed f r) o)) (sym found_is)
      (from_of (find (λ y. ready y && eqb (need y) 0) r.new))

-- ---- the same keys

map_same : (xs : List ℕ) → map (λ key. key) xs ≡ xs
map_same [] = refl
map_same (x ∷ xs) = ap (λ (ys : List ℕ). x ∷ ys) (map_same xs)

option_same : (o : Option ℕ) → option_map (λ key. key) o ≡ o
option_same None = refl
option_same (Some x) = refl

rotation_same : (r : Rotation) → renamed (λ key. key) r ≡ r
rotation_same r = ap (λ (xs : List ℕ). rot xs (map (λ key. key) r.old)) (map_same r.new)
    ∙ ap (rot r.new) (map_same r.old)

pub same_pick : (r : Rotation) (need other : ℕ → ℕ) (ready others : ℕ → Bool) →
    Agrees (λ key. key) r need other ready others → IsSame (pick need ready r) (pick other others r)
same_pick r need other ready others same =
    let p : IsRenamed (λ key. key) (pick need ready r) (pick other others (renamed (λ key. key) r)) =
    renamed_pick (λ key. key) (λ a b e. e) r need other ready others same in
    record {
      winner = ap (λ (x : Rotation). (pick other others x).winner) (sym (rotation_same r)) ∙ p.winner
          ∙ option_same (pick need ready r).winner;
      lists = ap (λ (x : Rotation). (pick other others x).lists) (sym (rotation_same r)) ∙ p.lists
          ∙ rotation_same (pick need ready r).lists;
      quanta = λ key. ap (λ (x : Rotation). (pick other others x).quanta key) (sym (rotation_same r))
          ∙ p.quanta key;
    }

-- ---- no key is ready

none_of_two : (rounds : ℕ → ℕ) (x : ℕ) (o : Option ℕ) → first_of_two rounds x o ≡ None → ⊥
none_of_two rounds x None h = cc
none_of_two rounds x (Some z) h = go (nat_le (rounds x) (rounds z)) h
  where
    go : (b : Bool) → cond b (Some x) (Some z) ≡ None → ⊥
    go true e = cc
    go false e = cc

least_none : (rounds : ℕ → ℕ) (xs : List ℕ) → first_least rounds xs ≡ None → xs ≡ []
least_none rounds [] h = refl
least_none rounds (x ∷ xs) h = absurd (none_of_two rounds x (first_least rounds xs) h)

nothing_kept : (b : Bool) (p : ℕ → Bool) (x : ℕ) (xs : List ℕ) → p x ≡ b →
    ((k : ℕ) → filter p xs ≡ [] → has xs k ≡ true → p k ≡ false) →
    cond b (x ∷ filter p xs) (filter p xs) ≡ [] → (k : ℕ) → has (x ∷ xs) k ≡ true → p k ≡ false
nothing_kept true p x xs e f none k h = absurd (cc none)
nothing_kept false p x xs e f none k h = by_bool (p k ≡ false) (eqb x k)
    (λ same. ap p (sym (true_eqb x k same)) ∙ e)
    (λ other. f k none (subst (λ (b : Bool). (b || has xs k) ≡ true) other h))

filtered_out : (p : ℕ → Bool) (xs : List ℕ) (k : ℕ) → filter p xs ≡ [] → has xs k ≡ true → p k ≡ false
filtered_out p [] k none h = absurd (cc h)
filtered_out p (x ∷ xs) k none h = nothing_kept (p x) p x xs refl (λ j. filtered_out p xs j) none k h

filter_none : (p : ℕ → Bool) (xs : List ℕ) → ((k : ℕ) → has xs k ≡ true → p k ≡ false) → filter p xs ≡ []
filter_none p [] h = refl
filter_none p (x ∷ xs) h = ap (λ (b : Bool). cond b (x ∷ filter p xs) (filter p xs)) (h x (has_head x xs))
    ∙ filter_none p xs (λ k s. h k (has_tail x xs k s))

find_none : (p : ℕ → Bool) (xs : List ℕ) → ((k : ℕ) → has xs k ≡ true → p k ≡ false) → find p xs ≡ None
find_none p [] h = refl
find_none p (x ∷ xs) h = ap (λ (b : Bool). cond b (Some x) (find p xs)) (h x (has_head x xs))
    ∙ find_none p xs (λ k s. h k (has_tail x xs k s))

module _ (r : Rotation) (need : ℕ → ℕ) (ready : ℕ → Bool) where
  later_idle : (o : Option ℕ) → o ≡ first_least (round need r) (filter ready (in_order r)) →
      (pick_later need ready r o).winner ≡ None → IsIdle ready r
  later_idle None e h = λ key stands. filtered_out ready (in_order r) key
      (least_none (round need r) (filter ready (in_order r)) (sym e)) (in_listed r key stands)
  later_idle (Some w) e h = absurd (cc h)

  from_idle : (o : Option ℕ) → (pick_from need ready r o).winner ≡ None → IsIdle ready r
  from_idle None h = later_idle (first_least (round need r) (filter ready (in_order r))) refl h
  from_idle (Some w) h = absurd (cc h)

  pub none_idle : (pick need ready r).winner ≡ None → IsIdle ready r
  unfolding pick
  none_idle h = from_idle (find (λ y. ready y && eqb (need y) 0) r.new) h

  pub idle_none : IsIdle ready r → (pick need ready r).winner ≡ None
  unfolding pick
  idle_none idle =
      ap (λ (o : Option ℕ). (pick_from need ready r o).winner)
      (find_none (λ y. ready y && eqb (need y) 0) r.new
      (λ k h. ap (λ (b : Bool). b && eqb (need k) 0) (idle k (or_left (has r.new k) (has r.old k) h))))
      ∙ ap (λ (xs : List ℕ). (pick_later need ready r (first_least (round need r) xs)).winner)
      (filter_none ready (in_order r) (λ k h. idle k (listed_in r k h)))
