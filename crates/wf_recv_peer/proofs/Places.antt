-- Proves which items a buffer holds as its places turn, that they fit into 256, and that each item is passed
-- up or stored exactly once. By induction over the places.
use Rattle.std.proofs.Common.{◌≡◌, ℕ, zero, suc, ◌+◌, ◌-◌, ◌%◌, ◌<◌, ◌≤◌, min, true, false, List, [], ◌∷◌, ◌++◌, length, take, drop, replicate, get_or, set, Option, None, Some, is_some, refl, ap, ap₂, ◌∙◌, sym, subst, arith, append_assoc, length-append, length-drop, add-one}
use Rattle.std.specs.Option.{option_map}
use Rattle.std.proofs.lemmas.List.{append-nil, take_more, take-append-drop, drop-append-le, drop-drop, replicate_more, get_or_append_left, get_or-drop, at_drop_more, at_drop_all, take_min, drop_min, length_push, length-set, length-replicate, drop_more, drop_all, take_all, set_split, get_or-append_right}
use Rattle.wf_recv_peer.specs.Buffer.{Buffer, NothingAtStart, HasOneMore, items_of, run_of, first_stored, items_below, with_start_moved, with_stored_item, release_outcome, ended_buffer}

-- ---- the items

pub items_append : (xs ys : List (Option ℕ)) → items_of (xs ++ ys) ≡ items_of xs ++ items_of ys
items_append [] ys = refl
items_append (None ∷ xs) ys = items_append xs ys
items_append (Some x ∷ xs) ys = ap (λ zs. x ∷ zs) (items_append xs ys)

pub no_items : (n : ℕ) → items_of (replicate n None) ≡ []
no_items zero = refl
no_items (suc n) = no_items n

pub items_few : (xs : List (Option ℕ)) → length (items_of xs) ≤ length xs
items_few [] = omega arith
items_few (None ∷ xs) = omega (arith, items_few xs)
items_few (Some x ∷ xs) = omega (arith, items_few xs)

-- if the first place is empty, there is at least one item fewer than places
pub items_fewer : (xs : List (Option ℕ)) → run_of xs ≡ 0 → 1 ≤ length xs →
    length (items_of xs) + 1 ≤ length xs
items_fewer [] h l = omega (arith, l)
items_fewer (None ∷ xs) h l = omega (arith, items_few xs)
items_fewer (Some x ∷ xs) h l = omega (arith, h)

pub items_parts : (n : ℕ) (xs : List (Option ℕ)) →
    length (items_of (take n xs)) + length (items_of (drop n xs)) ≡ length (items_of xs)
items_parts n xs =
    sym (length-append (items_of (take n xs)) (items_of (drop n xs)))
    ∙ ap length (sym (items_append (take n xs) (drop n xs)))
    ∙ ap (λ ys. length (items_of ys)) (take-append-drop n xs)

pub items_within : (n : ℕ) (xs : List (Option ℕ)) → length (items_of (take n xs)) ≤ length (items_of xs)
items_within n xs = omega (arith, items_parts n xs)

pub items_stored : (xs : List (Option ℕ)) (d x : ℕ) →
    length (items_of (set xs d (Some x))) ≤ length (items_of xs) + 1
items_stored [] d x = omega arith
items_stored (None ∷ xs) zero x = omega arith
items_stored (Some y ∷ xs) zero x = omega arith
items_stored (None ∷ xs) (suc d) x = items_stored xs d x
items_stored (Some y ∷ xs) (suc d) x = omega (arith, items_stored xs d x)

pub items_turned : (n m : ℕ) (xs : List (Option ℕ)) →
    items_of (drop n xs ++ replicate m None) ≡ items_of (drop n xs)
items_turned n m xs = items_append (drop n xs) (replicate m None)
    ∙ ap (λ ys. items_of (drop n xs) ++ ys) (no_items m) ∙ append-nil (items_of (drop n xs))

-- ---- the number of items

pub stored_none : (xs : List (Option ℕ)) (n : ℕ) → xs ≡ replicate n None → 0 ≡ length (items_of xs)
stored_none xs n e = sym (ap (λ (ys : List (Option ℕ)). length (items_of ys)) e ∙ ap length (no_items n))

pub none_stored : (xs : List (Option ℕ)) → length (items_of xs) ≡ 0 → xs ≡ replicate (length xs) None
none_stored [] h = refl
none_stored (None ∷ xs) h = ap (λ (ys : List (Option ℕ)). None ∷ ys) (none_stored xs h)
none_stored (Some x ∷ xs) h = absurd (omega (arith, h))

pub stored_more : (xs : List (Option ℕ)) (d x : ℕ) → d < length xs → is_some (get_or xs d None) ≡ false →
    length (items_of (set xs d (Some x))) ≡ length (items_of xs) + 1
stored_more [] d x h e = absurd (omega (arith, h))
stored_more (None ∷ xs) zero x h e = omega arith
stored_more (Some y ∷ xs) zero x h e = absurd (cc e)
stored_more (None ∷ xs) (suc d) x h e = stored_more xs d x (omega (arith, h)) e
stored_more (Some y ∷ xs) (suc d) x h e = omega (arith, stored_more xs d x (omega (arith, h)) e)

pub stored_same : (xs : List (Option ℕ)) (d x : ℕ) → is_some (get_or xs d None) ≡ true →
    length (items_of (set xs d (Some x))) ≡ length (items_of xs)
stored_same [] d x e = refl
stored_same (None ∷ xs) zero x e = absurd (cc e)
stored_same (Some y ∷ xs) zero x e = omega arith
stored_same (None ∷ xs) (suc d) x e = stored_same xs d x e
stored_same (Some y ∷ xs) (suc d) x e = omega (arith, stored_same xs d x e)

pub stored_fewer : (xs : List (Option ℕ)) → is_some (get_or xs 0 None) ≡ true →
    length (items_of (drop 1 xs ++ None ∷ [])) + 1 ≡ length (items_of xs)
stored_fewer [] e = absurd (cc e)
stored_fewer (None ∷ xs) e = absurd (cc e)
stored_fewer (Some x ∷ xs) e = omega (arith, ap length (items_turned 0 1 xs))

pub stored_left : (xs : List (Option ℕ)) → is_some (get_or xs 0 None) ≡ false →
    length (items_of (drop 1 xs ++ None ∷ [])) ≡ length (items_of xs)
stored_left [] e = refl
stored_left (None ∷ xs) e = ap length (items_turned 0 1 xs)
stored_left (Some x ∷ xs) e = absurd (cc e)

pub item_here : (xs : List (Option ℕ)) (i : ℕ) (p : Option ℕ) → i < length xs → p ≡ get_or xs i None →
    items_of (take (i + 1) xs) ≡ items_of (take i xs) ++ items_of (p ∷ [])
item_here xs i p h e =
    ap items_of (take_more xs i None h) ∙ items_append (take i xs) (get_or xs i None ∷ [])
    ∙ ap (λ q. items_of (take i xs) ++ items_of (q ∷ [])) (sym e)

-- ---- the places, as they turn

pub turned_once : (xs : List (Option ℕ)) (i : ℕ) → i < length xs →
    drop 1 (drop i xs ++ replicate i None) ++ None ∷ [] ≡ drop (i + 1) xs ++ replicate (i + 1) None
turned_once xs i h =
    let some : 1 ≤ length (drop i xs) = omega (arith, length-drop i xs) in
    ap (λ ys. ys ++ None ∷ []) (drop-append-le 1 (drop i xs) (replicate i None) some)
    ∙ append_assoc (drop 1 (drop i xs)) (replicate i None) (None ∷ [])
    ∙ ap₂ (λ ys zs. ys ++ zs) (drop-drop 1 i xs) (replicate_more i None)

pub turned_first : (xs : List (Option ℕ)) (i : ℕ) → i < length xs →
    get_or (drop i xs ++ replicate i None) 0 None ≡ get_or xs i None
turned_first xs i h =
    let some : 0 < length (drop i xs) = omega (arith, length-drop i xs) in
    let here : i + 0 ≡ i = omega arith in
    get_or_append_left (drop i xs) (replicate i None) None 0 some ∙ get_or-drop i xs 0 None
    ∙ ap (λ k. get_or xs k None) here

pub turned_length : (n s : ℕ) (xs : List (Option ℕ)) → length xs ≡ s →
    length (drop n xs ++ replicate (min n s) None) ≡ s
turned_length n s xs e =
    omega (
      arith,
      length-append (drop n xs) (replicate (min n s) None),
      length-drop n xs,
      length-replicate {A = Option ℕ} (min n s) None,
    )

-- ---- the run from the first place on

pub run_of_stored : (p : Option ℕ) (ps : List (Option ℕ)) → is_some p ≡ true → run_of (p ∷ ps) ≡ run_of ps + 1
run_of_stored (Some x) ps h = omega arith
run_of_stored None ps h = grind arith

pub run_of_empty : (p : Option ℕ) (ps : List (Option ℕ)) → is_some p ≡ false → run_of (p ∷ ps) ≡ 0
run_of_empty None ps h = refl
run_of_empty (Some x) ps h = grind arith

pub run_goes_on : (xs : List (Option ℕ)) (i : ℕ) → i < length xs → is_some (get_or xs i None) ≡ true →
    run_of (drop i xs) ≡ run_of (drop (i + 1) xs) + 1
run_goes_on xs i h s = at_drop_more run_of xs i None h ∙ run_of_stored (get_or xs i None) (drop (i + 1) xs) s

pub run_stops : (xs : List (Option ℕ)) (i : ℕ) → i < length xs → is_some (get_or xs i None) ≡ false →
    run_of (drop i xs) ≡ 0
run_stops xs i h s = at_drop_more run_of xs i None h ∙ run_of_empty (get_or xs i None) (drop (i + 1) xs) s

pub run_ends : (xs : List (Option ℕ)) (i : ℕ) → length xs ≤ i → run_of (drop i xs) ≡ 0
run_ends xs i h = at_drop_all run_of xs i h

pub no_run : (k : ℕ) → run_of (replicate k None) ≡ 0
no_run zero = refl
no_run (suc k) = refl

pub run_passed : (ys : List (Option ℕ)) (k : ℕ) → run_of (drop (run_of ys) ys ++ replicate k None) ≡ 0
run_passed [] k = no_run k
run_passed (None ∷ ys) k = refl
run_passed (Some x ∷ ys) k = run_passed ys k

-- ---- the first place that holds an item

abbrev pub first_from : ℕ → List (Option ℕ) → Option ℕ
first_from i xs = option_map (λ d. i + d) (first_stored (drop i xs))

step_on : (i : ℕ) (o : Option ℕ) → option_map (λ d. i + d) (option_map (λ d. d + 1) o)
    ≡ option_map (λ d. (i + 1) + d) o
step_on i None = refl
step_on i (Some d) = ap Some (omega arith)

first_of_empty : (p : Option ℕ) (ps : List (Option ℕ)) → is_some p ≡ false →
    first_stored (p ∷ ps) ≡ option_map (λ d. d + 1) (first_stored ps)
first_of_empty None ps h = refl
first_of_empty (Some x) ps h = grind arith

first_of_stored : (p : Option ℕ) (ps : List (Option ℕ)) → is_some p ≡ true → first_stored (p ∷ ps) ≡ Some 0
first_of_stored (Some x) ps h = refl
first_of_stored None ps h = grind arith

pub first_goes_on : (xs : List (Option ℕ)) (i : ℕ) → i < length xs → is_some (get_or xs i None) ≡ false →
    first_from i xs ≡ first_from (i + 1) xs
first_goes_on xs i h s =
    ap (option_map (λ d. i + d)) (at_drop_more first_stored xs i None h
    ∙ first_of_empty (get_or xs i None) (drop (i + 1) xs) s)
    ∙ step_on i (first_stored (drop (i + 1) xs))

pub first_found : (xs : List (Option ℕ)) (i : ℕ) → i < length xs → is_some (get_or xs i None) ≡ true →
    first_from i xs ≡ Some i
first_found xs i h s =
    let here : i + 0 ≡ i = omega arith in
    ap (option_map (λ d. i + d)) (at_drop_more first_stored xs i None h
    ∙ first_of_stored (get_or xs i None) (drop (i + 1) xs) s) ∙ ap Some here

pub first_missing : (xs : List (Option ℕ)) (i : ℕ) → length xs ≤ i → first_from i xs ≡ None
first_missing xs i h = ap (option_map (λ d. i + d)) (at_drop_all first_stored xs i h)

same_from_first : (o : Option ℕ) → option_map (λ d. 0 + d) o ≡ o
same_from_first None = refl
same_from_first (Some d) = ap Some (omega arith)

pub first_from_0 : (xs : List (Option ℕ)) → first_from 0 xs ≡ first_stored xs
first_from_0 xs = same_from_first (first_stored xs)

-- ---- room for the items that are passed up

pub items_first : (i n : ℕ) (xs : List (Option ℕ)) → i ≤ n →
    length (items_of (take i xs)) ≤ length (items_of (take n xs))
items_first zero n xs h = omega arith
items_first (suc i) n [] h = omega arith
items_first (suc i) zero (p ∷ xs) h = omega (arith, h)
items_first (suc i) (suc n) (None ∷ xs) h = items_first i n xs (omega arith)
items_first (suc i) (suc n) (Some x ∷ xs) h = omega (arith, items_first i n xs (omega arith))

pub room_for_one : (up : List ℕ) (xs : List (Option ℕ)) (i n x : ℕ) → i < n → n ≤ length xs →
    Some x ≡ get_or xs i None →
    length up + length (items_of (take n xs)) ≤ 256 → length (up ++ items_of (take i xs)) < 256
room_for_one up xs i n x below within e fits =
    let inside : i < length xs = omega arith in
    let more : length (items_of (take (i + 1) xs)) ≡ length (items_of (take i xs)) + 1 =
    ap length (item_here xs i (Some x) inside e) ∙ length_push (items_of (take i xs)) x in
    let least : length (items_of (take (i + 1) xs)) ≤ length (items_of (take n xs)) =
    items_first (i + 1) n xs (omega arith) in
    omega (arith, more, least, length-append up (items_of (take i xs)), fits)

pub room_in_window : (n : ℕ) (xs : List (Option ℕ)) → length xs ≤ 256 → length (items_of (take n xs)) ≤ 256
room_in_window n xs h = omega (arith, items_within n xs, items_few xs)

-- after a move of the window, for all items that go up next
pub room_after_move : (n m r : ℕ) (xs : List (Option ℕ)) → length xs ≤ 256 →
    length (items_of (take n xs)) + length (items_of (take r (drop n xs ++ replicate m None))) ≤ 256
room_after_move n m r xs h =
    omega (
      arith,
      items_within r (drop n xs ++ replicate m None),
      ap length (items_turned n m xs),
      items_parts n xs,
      items_few xs,
    )

-- the same with the item that arrived
pub room_after_jump : (n m r d x : ℕ) (xs : List (Option ℕ)) → run_of xs ≡ 0 → 1 ≤ length xs →
    length xs ≤ 256 →
    length (items_of (take n xs)) + length (items_of
    (take r (set (drop n xs ++ replicate m None) d (Some x)))) ≤ 256
room_after_jump n m r d x xs empty some few =
    let ys : List (Option ℕ) = drop n xs ++ replicate m None in
    omega (
      arith,
      items_within r (set ys d (Some x)),
      items_stored ys d x,
      ap length (items_turned n m xs),
      items_parts n xs,
      items_fewer xs empty some,
    )

-- ---- whole buffers

pub is_settled : (up : List ℕ) (b : Buffer) → length b.places ≡ b.size → 1 ≤ b.size → b.size ≤ 256 →
    b.capacity ≤ 256 → NothingAtStart (release_outcome up b).after
is_settled up b e least most few =
    record {
      places = turned_length (run_of b.places) b.size b.places e;
      least = least;
      most = most;
      capacity = few;
      start = run_passed b.places (min (run_of b.places) b.size);
    }

abbrev pub turned : ℕ → Buffer → Buffer
turned n b = record b { places = drop n b.places ++ replicate n None }

pub take_least : (n s : ℕ) (xs : List (Option ℕ)) → length xs ≡ s → take (min n s) xs ≡ take n xs
take_least n s xs e = ap (λ k. take (min n k) xs) (sym e) ∙ take_min n xs

pub drop_least : (n s : ℕ) (xs : List (Option ℕ)) → length xs ≡ s → drop (min n s) xs ≡ drop n xs
drop_least n s xs e = ap (λ k. drop (min n k) xs) (sym e) ∙ drop_min n xs

abbrev pub IsWindow : Buffer → Type 0
IsWindow b = (length b.places ≡ b.size) × (1 ≤ b.size) × (b.size ≤ 256) × (b.capacity ≤ 256)

pub window_of : (b : Buffer) → NothingAtStart b → IsWindow b
window_of b s = (s.places, s.least, s.most, s.capacity)

pub window_moved : (n : ℕ) (b a : Buffer) → IsWindow b → a ≡ with_start_moved n b → IsWindow a
window_moved n b a w e = subst IsWindow (sym e) (turned_length n b.size b.places w.0, w.1, w.2, w.3)

pub window_stored : (d x : ℕ) (b a : Buffer) → IsWindow b → a ≡ with_stored_item d x b → IsWindow a
window_stored d x b a w e = subst IsWindow (sym e) (length-set b.places d (Some x) ∙ w.0, w.1, w.2, w.3)

pub settled_after : (up : List ℕ) (b a : Buffer) → IsWindow b → a ≡ (release_outcome up b).after →
    NothingAtStart a
settled_after up b a w e = subst NothingAtStart (sym e) (is_settled up b w.0 w.1 w.2 w.3)

-- room for the items that are passed up from a window, after a move, after a store, and after both
pub first_room : (n : ℕ) (u : List ℕ) (b : Buffer) → IsWindow b → u ≡ [] →
    length u + length (items_below n b) ≤ 256
first_room n u b w e =
    let few : length b.places ≤ 256 = omega (arith, w.0, w.2) in
    omega (arith, ap length e, room_in_window n b.places few)

pub moved_room : (n : ℕ) (u : List ℕ) (b a : Buffer) → IsWindow b → u ≡ items_below n b →
    a ≡ with_start_moved n b →
    length u + length (items_below (run_of a.places) a) ≤ 256
moved_room n u b a w f e =
    let few : length b.places ≤ 256 = omega (arith, w.0, w.2) in
    let ys : List (Option ℕ) = drop n b.places ++ replicate (min n b.size) None in
    let least : length u + length (items_of (take (run_of ys) ys)) ≤ 256 =
    omega (arith, ap length f, room_after_move n (min n b.size) (run_of ys) b.places few) in
    subst (λ (s : Buffer). length u + length (items_below (run_of s.places) s) ≤ 256) (sym e) least

pub stored_room : (d x : ℕ) (u : List ℕ) (b a : Buffer) → IsWindow b → u ≡ [] → a ≡ with_stored_item d x b →
    length u + length (items_below (run_of a.places) a) ≤ 256
stored_room d x u b a w f e = first_room (run_of a.places) u a (window_stored d x b a w e) f

pub jumped_room : (n d x : ℕ) (u : List ℕ) (b m a : Buffer) → NothingAtStart b → u ≡ items_below n b →
    m ≡ with_start_moved n b → a ≡ with_stored_item d x m →
    length u + length (items_below (run_of a.places) a) ≤ 256
jumped_room n d x u b m a s f e g =
    let few : length b.places ≤ 256 = omega (arith, s.places, s.most) in
    let some : 1 ≤ length b.places = omega (arith, s.places, s.least) in
    let ys : List (Option ℕ) = set (drop n b.places ++ replicate (min n b.size) None) d (Some x) in
    let least : length u + length (items_of (take (run_of ys) ys)) ≤ 256 =
    omega (arith, ap length f, room_after_jump n (min n b.size) (run_of ys) d x b.places s.start some few) in
    subst (λ (t : Buffer). length u + length (items_below (run_of t.places) t) ≤ 256)
    (sym (g ∙ ap (with_stored_item d x) e)) least

-- ---- the end of an agreement

whole_min : (n : ℕ) → min n n ≡ n
whole_min n = grind arith

-- a move past all places is the end of the agreement
pub moved_past : (n : ℕ) (b a : Buffer) → IsWindow b → n ≡ b.size → a ≡ with_start_moved n b →
    a ≡ ended_buffer b
moved_past n b a w same e =
    e ∙ ap (λ k. with_start_moved k b) same
    ∙ ap₂ (λ (ps : List (Option ℕ)) k. record b {
      start = (b.start + b.size) % 4096;
      places = ps ++ replicate k None;
    }) (drop_all b.size b.places (omega (arith, w.0))) (whole_min b.size)

pub all_below : (n : ℕ) (b : Buffer) → IsWindow b → n ≡ b.size → items_below n b ≡ items_of b.places
all_below n b w same = ap items_of (take_all n b.places (omega (arith, w.0, same)))

pub ended_settled : (b a : Buffer) → IsWindow b → a ≡ ended_buffer b → NothingAtStart a
ended_settled b a w e = subst NothingAtStart (sym e) (record {
  places = length-replicate {A = Option ℕ} b.size None;
  least = w.1;
  most = w.2;
  capacity = w.3;
  start = no_run b.size;
})

-- ---- each item exactly once

-- a release passes up or keeps each item
pub released_all : (up : List ℕ) (b : Buffer) →
    (release_outcome up b).up ++ items_of (release_outcome up b).after.places ≡ up ++ items_of b.places
released_all up b =
    let r = run_of b.places in
    ap (λ ys. (up ++ items_of (take r b.places)) ++ ys) (items_turned r (min r b.size) b.places)
    ∙ append_assoc up (items_of (take r b.places)) (items_of (drop r b.places))
    ∙ ap (λ ys. up ++ ys) (sym (items_append (take r b.places) (drop r b.places))
    ∙ ap items_of (take-append-drop r b.places))

items_past_empty : (p : Option ℕ) (ps : List (Option ℕ)) → is_some p ≡ false → items_of (p ∷ ps) ≡ items_of ps
items_past_empty None ps h = refl
items_past_empty (Some x) ps h = grind arith

pub more_once_stored : (d x : ℕ) (xs : List (Option ℕ)) → d < length xs → is_some (get_or xs d None) ≡ false →
    HasOneMore x (items_of xs) (items_of (set xs d (Some x)))
more_once_stored d x xs inside empty =
    let left = take d xs in
    let right = drop (suc d) xs in (
      items_of left,
      items_of right,
      ap items_of (sym (take-append-drop d xs)) ∙ items_append left (drop d xs)
          ∙ ap (λ ys. items_of left ++ ys)
          (ap items_of (drop_more xs d None inside) ∙ items_past_empty (get_or xs d None)
          (drop (d + 1) xs) empty ∙ ap (λ k. items_of (drop k xs)) (add-one d)),
      ap items_of (set_split xs d (Some x) inside) ∙ items_append left (Some x ∷ right),
    )

more_behind : (x : ℕ) (up before after : List ℕ) → HasOneMore x before after →
    HasOneMore x (up ++ before) (up ++ after)
more_behind x up before after h = (
  up ++ h.0,
  h.1,
  ap (λ ys. up ++ ys) h.2 ∙ sym (append_assoc up h.0 h.1),
  ap (λ ys. up ++ ys) h.3 ∙ sym (append_assoc up h.0 (x ∷ h.1)),
)

none_there : (k j : ℕ) → get_or {A = Option ℕ} (replicate k None) j None ≡ None
none_there zero j = refl
none_there (suc k) zero = refl
none_there (suc k) (suc j) = none_there k j

pub last_is_empty : (n s : ℕ) (xs : List (Option ℕ)) → length xs ≡ s → 1 ≤ n → 1 ≤ s →
    is_some (get_or (drop n xs ++ replicate (min n s) None) (s - 1) None) ≡ false
last_is_empty n s xs e moved some =
    let short : length (drop n xs) ≤ s - 1 = omega (arith, length-drop n xs) in
    ap is_some (get_or-append_right (drop n xs) (replicate (min n s) None) (length (drop n xs))
    (s - 1) None refl short
    ∙ none_there (min n s) (s - 1 - length (drop n xs)))

-- a move passes up or keeps each item
pub moved_all : (n : ℕ) (b : Buffer) → items_below n b ++ items_of (with_start_moved n b).places
    ≡ items_of b.places
moved_all n b =
    ap (λ us. items_below n b ++ us) (items_turned n (min n b.size) b.places)
    ∙ sym (items_append (take n b.places) (drop n b.places)) ∙ ap items_of (take-append-drop n b.places)

pub stored_once : (d x : ℕ) (b s : Buffer) (u up : List ℕ) (a : Buffer) → IsWindow b → d < b.size →
    is_some (get_or b.places d None) ≡ false →
    u ≡ [] → s ≡ with_stored_item d x b → up ≡ (release_outcome u s).up → a ≡ (release_outcome u s).after →
    HasOneMore x (items_of b.places) (up ++ items_of a.places)
stored_once d x b s u up a w inside empty none store e f =
    let within : d < length b.places = omega (arith, w.0) in
    let whole : up ++ items_of a.places ≡ items_of (set b.places d (Some x)) =
    ap₂ (λ (us : List ℕ) (t : Buffer). us ++ items_of t.places) e f ∙ released_all u s
    ∙ ap₂ (λ (us : List ℕ) (t : Buffer). us ++ items_of t.places) none store in
    subst (HasOneMore x (items_of b.places)) (sym whole) (more_once_stored d x b.places within empty)

pub jumped_once : (n d x : ℕ) (b m s : Buffer) (u up : List ℕ) (a : Buffer) → IsWindow b → 1 ≤ n →
    d ≡ b.size - 1 →
    u ≡ items_below n b → m ≡ with_start_moved n b → s ≡ with_stored_item d x m →
    up ≡ (release_outcome u s).up → a ≡ (release_outcome u s).after →
    HasOneMore x (items_of b.places) (up ++ items_of a.places)
jumped_once n d x b m s u up a w some last below move store e f =
    let ys : List (Option ℕ) = drop n b.places ++ replicate (min n b.size) None in
    let zs : List (Option ℕ) = set ys (b.size - 1) (Some x) in
    let us : List ℕ = items_below n b in
    let within : b.size - 1 < length ys = omega (arith, turned_length n b.size b.places w.0, w.1) in
    let at_last : s ≡ with_stored_item (b.size - 1) x (with_start_moved n b) =
    store ∙ ap₂ (λ (k : ℕ) (t : Buffer). with_stored_item k x t) last move in
    let whole : up ++ items_of a.places ≡ us ++ items_of zs =
    ap₂ (λ (vs : List ℕ) (t : Buffer). vs ++ items_of t.places) e f ∙ released_all u s
    ∙ ap₂ (λ (vs : List ℕ) (t : Buffer). vs ++ items_of t.places) below at_last in
    subst (HasOneMore x (items_of b.places)) (sym whole)
    (subst (λ vs. HasOneMore x vs (us ++ items_of zs)) (moved_all n b)
    (more_behind x us (items_of ys) (items_of zs)
    (more_once_stored (b.size - 1) x ys within (last_is_empty n b.size b.places w.0 some w.1))))

pub requested_once : (n : ℕ) (b m : Buffer) (u up : List ℕ) (a : Buffer) → u ≡ items_below n b →
    m ≡ with_start_moved n b →
    up ≡ (release_outcome u m).up → a ≡ (release_outcome u m).after →
    up ++ items_of a.places ≡ items_of b.places
requested_once n b m u up a below move e f =
    ap₂ (λ (us : List ℕ) (t : Buffer). us ++ items_of t.places) e f ∙ released_all u m
    ∙ ap₂ (λ (us : List ℕ) (t : Buffer). us ++ items_of t.places) below move ∙ moved_all n b
