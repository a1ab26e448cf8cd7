-- Proves that each call of the reordering buffer is the definition's step: the frames at the buffer's places,
-- numbered from B on, are the stored frames.
use Rattle.std.proofs.Common.{◌≡◌, ℕ, zero, suc, ◌+◌, ◌-◌, ◌%◌, ◌<◌, ◌≤◌, min, ◌==◌, ◌&&◌, ◌||◌, not, nat_lt, nat_le, Bool, true, false, List, [], ◌∷◌, ◌++◌, length, take, drop, replicate, get_or, set, map, Option, None, Some, is_some, refl, sym, ◌∙◌, ap, ap₂, subst, arith, if◌then◌else◌}
use Rattle.std.specs.Option.{option_map}
use Rattle.std.proofs.lemmas.Bool.Decides.{nat_tests}
use Rattle.std.proofs.lemmas.List.{append-nil, get_or_past}
use Rattle.wf_octets.specs.Distance.{distance}
use Rattle.wf_recv_peer.specs.Buffer.{Buffer, items_of, run_of, first_stored, first_stored_of, with_stored_item, items_below, with_start_moved, release_outcome, give_back_outcome, store_outcome, number_outcome_at, request_outcome_at, request_outcome}
use Rattle.wf_recv_peer.specs.Buffer.{number_outcome as buffer_arrived, BufferOutcome as BufferOutcome}
use Rattle.wf_recv_peer.proofs.Places.{IsWindow, window_of, window_moved, window_stored, settled_after, items_within, items_fewer}
use Rattle.std.specs.Prelude.{slice_get}
use Rattle.wf_uplink.specs.declared.items.UpItem.TheVariants.{Frame, Gap}
use Rattle.wf_uplink.specs.Shown.{item_of}
use Rattle.wf_uplink.specs.Reordering.{Reordering, Stored, Passed, Released, GivenUp, ReorderingOutcome, is_none_stored, is_stored, with_stored, stored_from, first_number, least_stored, first_hole, gap, holes_told, moved_to, waiting, with_frame, settled, with_room_for, stored_at, number_arrived, arrived, timed_out}
use Rattle.wf_uplink.specs.Standing.{numbered, frames_from, reordering_of_buffer, IsBufferFrom}
use Rattle.wf_uplink.specs.Soundness.{StoredFrom}
use Rattle.wf_uplink.proofs.Moves.{choose, stored_count}

-- ---- the numbers of the places

pub numbered_from : (b : ℕ) (ps : List (Option ℕ)) → StoredFrom b (numbered b ps)
numbered_from b [] = tt
numbered_from b (None ∷ ps) = from_more b (numbered (b + 1) ps) (numbered_from (b + 1) ps)
  where
    from_more : (b : ℕ) (xs : List Stored) → StoredFrom (b + 1) xs → StoredFrom b xs
    from_more b [] s = tt
    from_more b (x ∷ xs) s = (let le = s.0 in omega (arith, le), s.1)
numbered_from b (Some id ∷ ps) = (omega arith, numbered_from (b + 1) ps)

-- a choice whose test fails, or holds
pub not_this : {A : Type 0} (b : Bool) (x y : A) → b ≡ false → (if b then x else y) ≡ y
not_this false x y e = refl
not_this true x y e = absurd (grind (arith, e))

pub this : {A : Type 0} (b : Bool) (x y : A) → b ≡ true → (if b then x else y) ≡ x
this true x y e = refl
this false x y e = absurd (grind (arith, e))

pub all_stored_from : (n : ℕ) (xs : List Stored) → StoredFrom n xs → stored_from n xs ≡ xs
all_stored_from n [] s = refl
all_stored_from n (x ∷ xs) s = not_this (nat_lt x.number n) (stored_from n xs) (x ∷ xs)
    (let le = s.0 in grind (arith, nat_tests, le))

pub told_nothing : (from to : ℕ) (xs : List Stored) → StoredFrom to xs → holes_told from to xs ≡ gap from to
told_nothing from to [] s = refl
told_nothing from to (x ∷ xs) s = not_this (nat_lt x.number to) _ (gap from to)
    (let le = s.0 in grind (arith, nat_tests, le))

no_gap : (b : ℕ) → gap b b ≡ []
no_gap b = not_this (nat_lt b b) _ [] (grind (arith, nat_tests))

hole_here : (b : ℕ) (xs : List Stored) → StoredFrom (b + 1) xs → first_hole b xs ≡ b
hole_here b [] s = refl
hole_here b (x ∷ xs) s = not_this (x.number == b) (first_hole (b + 1) xs) b
    (let le = s.0 in grind (arith, nat_tests, le))

none_here : (b : ℕ) (xs : List Stored) → StoredFrom (b + 1) xs → is_stored b xs ≡ false
none_here b [] s = refl
none_here b (x ∷ xs) s =
    let above = s.0 in
    let differ : (x.number == b) ≡ false = grind (arith, nat_tests, above) in
    ap (λ t. t || is_stored b xs) differ ∙ none_here b xs
    (later b (x.number + 1) xs (omega (arith, above)) s.1)
  where
    later : (b n : ℕ) (xs : List Stored) → b + 1 ≤ n → StoredFrom n xs → StoredFrom (b + 1) xs
    later b n [] le s = tt
    later b n (x ∷ xs) le s = (let lower = s.0 in omega (arith, le, lower), s.1)

-- ---- the run of frames from the first place on

pub run_hole : (b : ℕ) (ps : List (Option ℕ)) → first_hole b (numbered b ps) ≡ b + run_of ps
run_hole b [] = omega arith
run_hole b (None ∷ ps) = hole_here b (numbered (b + 1) ps) (numbered_from (b + 1) ps) ∙ omega arith
run_hole b (Some id ∷ ps) =
    let rest = run_hole (b + 1) ps in
    this (b == b) (first_hole (b + 1) (numbered (b + 1) ps)) b (grind (arith, nat_tests))
    ∙ omega (arith, rest)

pub run_length : (ps : List (Option ℕ)) → length (items_of (take (run_of ps) ps)) ≡ run_of ps
run_length [] = refl
run_length (None ∷ ps) = refl
run_length (Some id ∷ ps) = let rest = run_length ps in omega (arith, rest)

-- the items of a gap and the run of frames after it
pub run_told : (from b : ℕ) (ps : List (Option ℕ)) → from ≤ b →
    holes_told from (b + run_of ps) (numbered b ps) ≡ gap from b
    ++ frames_from b (items_of (take (run_of ps) ps))
run_told from b [] le = ap (gap from) (omega arith) ∙ sym (append-nil (gap from b))
run_told from b (None ∷ ps) le =
    let here : b + 0 ≡ b = omega arith in
    ap (λ n. holes_told from n (numbered (b + 1) ps)) here
    ∙ told_nothing from b (numbered (b + 1) ps) (from_less (numbered (b + 1) ps) (numbered_from (b + 1) ps))
    ∙ sym (append-nil (gap from b))
  where
    from_less : (xs : List Stored) → StoredFrom (b + 1) xs → StoredFrom b xs
    from_less [] s = tt
    from_less (x ∷ xs) s = (let lower = s.0 in omega (arith, lower), s.1)
run_told from b (Some id ∷ ps) le =
    let below : nat_lt b (b + suc (run_of ps)) ≡ true = grind (arith, nat_tests) in
    let on : b + suc (run_of ps) ≡ (b + 1) + run_of ps = omega arith in
    this (nat_lt b (b + suc (run_of ps))) (gap from b
    ++ (Released id b ∷ holes_told (b + 1) (b + suc (run_of ps)) (numbered (b + 1) ps)))
    (gap from (b + suc (run_of ps))) below
    ∙ ap (λ n. gap from b ++ (Released id b ∷ holes_told (b + 1) n (numbered (b + 1) ps))) on
    ∙ ap (λ ys. gap from b ++ (Released id b ∷ ys))
    (run_told (b + 1) (b + 1) ps (omega arith) ∙ ap
    (λ ys. ys ++ frames_from (b + 1) (items_of (take (run_of ps) ps))) (no_gap (b + 1)))

-- ---- removing the first places

pub places_dropped : (j b : ℕ) (ps : List (Option ℕ)) →
    stored_from (b + j) (numbered b ps) ≡ numbered (b + j) (drop j ps)
places_dropped zero b ps =
    let here : b + 0 ≡ b = omega arith in
    subst (λ n. stored_from n (numbered b ps) ≡ numbered n ps) (sym here)
    (all_stored_from b (numbered b ps) (numbered_from b ps))
places_dropped (suc j) b [] = refl
places_dropped (suc j) b (None ∷ ps) =
    let on : b + suc j ≡ (b + 1) + j = omega arith in
    subst (λ n. stored_from n (numbered (b + 1) ps) ≡ numbered n (drop j ps)) (sym on)
    (places_dropped j (b + 1) ps)
places_dropped (suc j) b (Some id ∷ ps) =
    let on : b + suc j ≡ (b + 1) + j = omega arith in
    this (nat_lt b (b + suc j)) (stored_from (b + suc j) (numbered (b + 1) ps))
    (record { number = b; id = id } ∷ numbered (b + 1) ps) (grind (arith, nat_tests))
    ∙ subst (λ n. stored_from n (numbered (b + 1) ps) ≡ numbered n (drop j ps)) (sym on)
    (places_dropped j (b + 1) ps)

pub no_more : (b k : ℕ) → numbered b (replicate k None) ≡ []
no_more b zero = refl
no_more b (suc k) = no_more (b + 1) k

pub places_fresh : (b k : ℕ) (ps : List (Option ℕ)) → numbered b (ps ++ replicate k None) ≡ numbered b ps
places_fresh b k [] = no_more b k
places_fresh b k (None ∷ ps) = places_fresh (b + 1) k ps
places_fresh b k (Some id ∷ ps) = ap (λ ys. record { number = b; id = id } ∷ ys) (places_fresh (b + 1) k ps)

-- if nothing is stored below b + k, the first k places are empty
pub nothing_below : (k b : ℕ) (ps : List (Option ℕ)) → StoredFrom (b + k) (numbered b ps) →
    items_of (take k ps) ≡ []
nothing_below zero b ps s = refl
nothing_below (suc k) b [] s = refl
nothing_below (suc k) b (None ∷ ps) s =
    let on : b + suc k ≡ (b + 1) + k = omega arith in
    nothing_below k (b + 1) ps (subst (λ n. StoredFrom n (numbered (b + 1) ps)) on s)
nothing_below (suc k) b (Some id ∷ ps) s = absurd (let le = s.0 in omega (arith, le))

-- ---- one place

pub place_stored : (d b : ℕ) (ps : List (Option ℕ)) →
    is_stored (b + d) (numbered b ps) ≡ is_some (get_or ps d None)
place_stored d b [] = refl
place_stored zero b (None ∷ ps) =
    let here : b + 0 ≡ b = omega arith in
    ap (λ n. is_stored n (numbered (b + 1) ps)) here
    ∙ none_here b (numbered (b + 1) ps) (numbered_from (b + 1) ps)
place_stored zero b (Some id ∷ ps) = let same : (b == b + 0) ≡ true = grind (arith, nat_tests) in
    ap (λ t. t || is_stored (b + 0) (numbered (b + 1) ps)) same
place_stored (suc d) b (None ∷ ps) =
    let on : b + suc d ≡ (b + 1) + d = omega arith in
    ap (λ n. is_stored n (numbered (b + 1) ps)) on ∙ place_stored d (b + 1) ps
place_stored (suc d) b (Some id ∷ ps) =
    let on : b + suc d ≡ (b + 1) + d = omega arith in
    let other : (b == b + suc d) ≡ false = grind (arith, nat_tests) in
    ap (λ t. t || is_stored (b + suc d) (numbered (b + 1) ps)) other
    ∙ ap (λ n. is_stored n (numbered (b + 1) ps)) on ∙ place_stored d (b + 1) ps

put_first : (n id : ℕ) (xs : List Stored) → StoredFrom (n + 1) xs →
    with_stored (record { number = n; id = id }) xs ≡ record { number = n; id = id } ∷ xs
put_first n id [] s = refl
put_first n id (x ∷ xs) s = this (nat_lt n x.number) _ _ (let above = s.0 in grind (arith, nat_tests, above))

pub place_set : (d b id : ℕ) (ps : List (Option ℕ)) → d < length ps → is_some (get_or ps d None) ≡ false →
    numbered b (set ps d (Some id)) ≡ with_stored (record { number = b + d; id = id }) (numbered b ps)
place_set d b id [] within empty = absurd (omega (arith, within))
place_set zero b id (None ∷ ps) within empty =
    let here : b + 0 ≡ b = omega arith in
    sym (ap (λ n. with_stored (record { number = n; id = id }) (numbered (b + 1) ps)) here
    ∙ put_first b id (numbered (b + 1) ps) (numbered_from (b + 1) ps))
place_set zero b id (Some old ∷ ps) within empty = absurd (grind (arith, empty))
place_set (suc d) b id (None ∷ ps) within empty =
    let on : (b + 1) + d ≡ b + suc d = omega arith in
    place_set d (b + 1) id ps (omega (arith, within)) empty
    ∙ ap (λ n. with_stored (record { number = n; id = id }) (numbered (b + 1) ps)) on
place_set (suc d) b id (Some old ∷ ps) within empty =
    let on : (b + 1) + d ≡ b + suc d = omega arith in
    ap (λ ys. record { number = b; id = old } ∷ ys)
    (place_set d (b + 1) id ps (omega (arith, within)) empty
    ∙ ap (λ n. with_stored (record { number = n; id = id }) (numbered (b + 1) ps)) on)
    ∙ sym (not_this (nat_lt (b + suc d) b) (record { number = b + suc d; id = id }
    ∷ record { number = b; id = old } ∷ numbered (b + 1) ps)
    (record { number = b; id = old } ∷ with_stored (record { number = b + suc d; id = id })
    (numbered (b + 1) ps)) (grind (arith, nat_tests)))

pub first_place : (b : ℕ) (ps : List (Option ℕ)) →
    first_number (numbered b ps) ≡ option_map (λ d. b + d) (first_stored ps)
first_place b [] = refl
first_place b (None ∷ ps) = first_place (b + 1) ps ∙ one_on b (first_stored ps)
  where
    one_on : (b : ℕ) (o : Option ℕ) → option_map (λ d. (b + 1) + d) o
        ≡ option_map (λ d. b + d) (option_map (λ d. d + 1) o)
    one_on b None = refl
    one_on b (Some d) = ap Some (omega arith)
first_place b (Some id ∷ ps) = ap Some (omega arith)

-- ---- whole buffers

pub record IsReleased (start window : ℕ) (up : List ℕ) (a : Buffer) (first : List Passed)
    (o : ReorderingOutcome) : Type 0 where
  pub passed : o.passed ≡ first ++ frames_from start up
  pub next : o.after.start ≡ start + length up
  pub stored : o.after.stored ≡ numbered (start + length up) a.places
  pub kept : IsBufferFrom (start + length up) window a

pub distance_of : (b k : ℕ) → k < 4096 → distance ((b + k) % 4096) (b % 4096) ≡ k
distance_of b k low = omega (arith, low)

-- the frames from b on are released, after the gap from `from` to b
release : (from b window : ℕ) (q a : Buffer) (up : List ℕ) (r : Reordering) → IsWindow q → q.capacity ≡ 256 →
    q.start ≡ b % 4096 → q.size ≡ window → from ≤ b →
    r.start ≡ from → stored_from b r.stored ≡ numbered b q.places → r.stored ≡ numbered b q.places →
    up ≡ (release_outcome [] q).up → a ≡ (release_outcome [] q).after →
    IsReleased b window up a (gap from b) (moved_to b r)
release from b window q a up r w capacity first size le start rest all e f =
    let run : ℕ = run_of q.places in
    let hole : first_hole b (stored_from b r.stored) ≡ b + run =
    ap (first_hole b) rest ∙ run_hole b q.places in
    let many : length up ≡ run = ap length e ∙ run_length q.places in
    let till : b + run ≡ b + length up = ap (λ n. b + n) (sym many) in
    record {
      passed = ap (λ n. holes_told r.start n r.stored) hole
          ∙ ap₂ (λ n (xs : List Stored). holes_told n (b + run) xs) start all ∙ run_told from b q.places le
          ∙ ap (λ ys. gap from b ++ frames_from b ys) (sym e);
      next = hole ∙ till;
      stored = ap (λ n. stored_from n r.stored) hole ∙ ap (stored_from (b + run)) all
          ∙ places_dropped run b q.places
          ∙ sym (places_fresh (b + run) (min run q.size) (drop run q.places))
          ∙ ap (λ n. numbered n (with_start_moved run q).places) till
          ∙ ap (λ (t : Buffer). numbered (b + length up) t.places) (sym f);
      kept = record {
        capacity = ap (λ (t : Buffer). t.capacity) f ∙ capacity;
        first = ap (λ (t : Buffer). t.start) f ∙ ap (λ n. (n + run) % 4096) first
            ∙ (let same : (b % 4096 + run) % 4096 ≡ (b + run) % 4096 = omega arith in same)
            ∙ ap (λ n. n % 4096) till;
        size = ap (λ (t : Buffer). t.size) f ∙ size;
        settled = settled_after [] q a w f;
      };
    }

from_least : (b n : ℕ) (xs : List Stored) → StoredFrom b xs → n ≤ least_stored n xs → StoredFrom n xs
from_least b n [] s le = tt
from_least b n (x ∷ xs) s le = (le, s.1)

request_moves : (k : ℕ) (b : Buffer) → 1 ≤ k → k ≤ 2047 →
    request_outcome_at k b ≡ release_outcome (items_below k b) (with_start_moved k b)
request_moves k b some near = this (nat_le 1 k && nat_le k 2047) _ _ (grind (arith, nat_tests, some, near))

-- B moves to a number below which nothing is stored
pub skipped : (start window since next : ℕ) (b a : Buffer) (up : List ℕ) → IsBufferFrom start window b →
    start < next → next ≤ start + 2047 →
    next ≤ least_stored next (numbered start b.places) → up ≡ (request_outcome (next % 4096) b).up →
    a ≡ (request_outcome (next % 4096) b).after →
    IsReleased next window up a (gap start next) (moved_to next (reordering_of_buffer start window since b))
skipped start window since next b a up kept forward near least e f =
    let k : ℕ = next - start in
    let there : start + k ≡ next = omega (arith, forward) in
    let far : distance (next % 4096) b.start ≡ k =
    ap₂ (λ n m. distance (n % 4096) m) (sym there) kept.first
    ∙ distance_of start k (omega (arith, near)) in
    let asked : request_outcome (next % 4096) b ≡ release_outcome (items_below k b) (with_start_moved k b) =
    ap (λ n. request_outcome_at n b) far ∙ request_moves k b (omega (arith, forward)) (omega (arith, near)) in
    let xs : List Stored = numbered start b.places in
    let from : StoredFrom next xs = from_least start next xs (numbered_from start b.places) least in
    let below : items_below k b ≡ [] = nothing_below k start b.places
    (subst (λ n. StoredFrom n xs) (sym there) from) in
    let q : Buffer = with_start_moved k b in
    let whole : request_outcome (next % 4096) b ≡ release_outcome [] q =
    asked ∙ ap (λ us. release_outcome us q) below in
    let rest : stored_from next xs ≡ numbered next q.places =
    subst (λ n. stored_from n xs ≡ numbered n (drop k b.places)) there (places_dropped k start b.places)
    ∙ sym (places_fresh next (min k b.size) (drop k b.places)) in
    release start next window q a up (reordering_of_buffer start window since b)
    (window_moved k b q (window_of b kept.settled) refl) kept.capacity
    (ap (λ n. (n + k) % 4096) kept.first ∙ (let same : (start % 4096 + k) % 4096 ≡ (start + k) % 4096 =
    omega arith in same) ∙ ap (λ n. n % 4096) there)
    kept.size (omega (arith, forward)) refl rest (sym (all_stored_from next xs from) ∙ rest)
    (e ∙ ap (λ (o : BufferOutcome). o.up) whole) (f ∙ ap (λ (o : BufferOutcome). o.after) whole)

-- ---- the items that a caller sees

pub frames_length : (b : ℕ) (ids : List ℕ) → length (frames_from b ids) ≡ length ids
frames_length b [] = refl
frames_length b (id ∷ ids) = let rest = frames_length (b + 1) ids in omega (arith, rest)

pub frame_more : (b i id : ℕ) (ids : List ℕ) → slice_get ids i ≡ Some id →
    map item_of (frames_from b (take (suc i) ids)) ≡ map item_of (frames_from b (take i ids))
    ++ Frame id ((b + i) % 4096) ∷ []
frame_more b i id [] e = absurd (grind (arith, e))
frame_more b zero id (x ∷ ids) e =
    let same : x ≡ id = grind (arith, e) in
    let here : b ≡ b + 0 = omega arith in
    ap₂ (λ y n. Frame y (n % 4096) ∷ []) same here
frame_more b (suc i) id (x ∷ ids) e =
    let on : (b + 1) + i ≡ b + suc i = omega arith in
    ap (λ ys. Frame x (b % 4096) ∷ ys) (frame_more (b + 1) i id ids e
    ∙ ap (λ n. map item_of (frames_from (b + 1) (take i ids)) ++ Frame id (n % 4096) ∷ []) on)

pub gap_is : (from to : ℕ) → from < to → gap from to ≡ GivenUp from (to - from) ∷ []
gap_is from to lt = this (nat_lt from to) _ [] (grind (arith, nat_tests, lt))

pub record IsSkipped (window since next : ℕ) (b a : Buffer) (up : List ℕ) (r : Reordering) : Type 0 where
  pub items : map item_of (moved_to next r).passed ≡ Gap b.start (next - r.start)
      ∷ map item_of (frames_from next up)
  pub many : length (moved_to next r).passed ≡ 1 + length up
  pub after : reordering_of_buffer (next + length up) window since a ≡ (moved_to next r).after
  pub kept : IsBufferFrom (next + length up) window a

skips : (start window since next : ℕ) (b a : Buffer) (up : List ℕ) → IsBufferFrom start window b →
    start < next → next ≤ start + 2047 →
    next ≤ least_stored next (numbered start b.places) → up ≡ (request_outcome (next % 4096) b).up →
    a ≡ (request_outcome (next % 4096) b).after →
    IsSkipped window since next b a up (reordering_of_buffer start window since b)
skips start window since next b a up kept forward near least e f =
    let t = skipped start window since next b a up kept forward near least e f in
    let one : gap start next ≡ GivenUp start (next - start) ∷ [] = gap_is start next forward in
    let told_is : (moved_to next (reordering_of_buffer start window since b)).passed
    ≡ GivenUp start (next - start) ∷ frames_from next up =
    t.passed ∙ ap (λ ys. ys ++ frames_from next up) one in
    let many = frames_length next up in
    record {
      items = ap (map item_of) told_is ∙ ap (λ n. Gap n (next - start) ∷ map item_of (frames_from next up))
          (sym kept.first);
      many = ap length told_is ∙ omega (arith, many);
      after = ap₂ (λ (n : ℕ) (xs : List Stored). record {
        start = n;
        window = window;
        stored = xs;
        since =
            since;
      }) (sym t.next) (sym t.stored);
      kept = t.kept;
    }

pub skip : (start window since next : ℕ) (b a : Buffer) (up : List ℕ) (r : Reordering) →
    reordering_of_buffer start window since b ≡ r → IsBufferFrom start window b →
    r.start < next → next ≤ r.start + 2047 → next ≤ least_stored next r.stored →
    (bits : ℕ) → bits ≡ next % 4096 → up ≡ (request_outcome bits b).up → a ≡ (request_outcome bits b).after →
    IsSkipped window since next b a up r
skip start window since next b a up r view kept forward near least bits of e f =
    subst (λ (q : Reordering). q.start < next → next ≤ q.start + 2047 → next ≤ least_stored next q.stored →
    IsSkipped window since next b a up q) view
    (λ one two three. skips start window since next b a up kept one two three
    (e ∙ ap (λ n. (request_outcome n b).up) of) (f ∙ ap (λ n. (request_outcome n b).after) of)) forward
    near least

-- nothing is stored at B
pub settled_from : (b : ℕ) (ps : List (Option ℕ)) → run_of ps ≡ 0 → StoredFrom (b + 1) (numbered b ps)
settled_from b [] e = tt
settled_from b (None ∷ ps) e = numbered_from (b + 1) ps
settled_from b (Some id ∷ ps) e = absurd (omega (arith, e))

pub kept_from : (start window since : ℕ) (b : Buffer) (r : Reordering) →
    reordering_of_buffer start window since b ≡ r → IsBufferFrom start window b →
    StoredFrom (r.start + 1) r.stored
kept_from start window since b r view kept =
    subst (λ (q : Reordering). StoredFrom (q.start + 1) q.stored) view
    (settled_from start b.places kept.settled.start)

pub less_from : (n m : ℕ) (xs : List Stored) → n ≤ m → StoredFrom m xs → StoredFrom n xs
less_from n m [] le s = tt
less_from n m (x ∷ xs) le s = (let lower = s.0 in omega (arith, le, lower), s.1)

pub first_past : (n k : ℕ) (xs : List Stored) → StoredFrom n xs → first_number xs ≡ Some k → n ≤ k
first_past n k [] s e = absurd (grind (arith, e))
first_past n k (x ∷ xs) s e = let least = s.0 in let same : x.number ≡ k = grind (arith, e) in
    omega (arith, least, same)

pub first_least : (k b : ℕ) (xs : List Stored) → first_number xs ≡ Some k → least_stored b xs ≡ k
first_least k b [] e = absurd (grind (arith, e))
first_least k b (x ∷ xs) e = grind (arith, e)

pub none_first : (b : ℕ) (xs : List Stored) → first_number xs ≡ None → least_stored b xs ≡ b
none_first b [] e = refl
none_first b (x ∷ xs) e = absurd (grind (arith, e))

pub first_within : (d : ℕ) (ps : List (Option ℕ)) → first_stored ps ≡ Some d → d < length ps
first_within d [] e = absurd (grind (arith, e))
first_within d (None ∷ ps) e = within (first_stored ps) (λ n is. first_within n ps is) refl e
  where
    within : (o : Option ℕ) → ((n : ℕ) → first_stored ps ≡ Some n → n < length ps) → first_stored ps ≡ o →
        option_map (λ n. n + 1) o ≡ Some d → d < length (None ∷ ps)
    within None rest is e = absurd (grind (arith, e))
    within (Some n) rest is e = let less = rest n is in let more : n + 1 ≡ d = grind (arith, e) in
        omega (arith, less, more)
first_within d (Some id ∷ ps) e = let none : 0 ≡ d = grind (arith, e) in omega (arith, none)

-- the first number in the buffer is the least number stored
pub first_of_buffer : (start window since : ℕ) (b : Buffer) (r : Reordering) →
    reordering_of_buffer start window since b ≡ r → IsBufferFrom start window b → (bits : ℕ) →
    Some bits ≡ first_stored_of b → Some (start + distance bits b.start) ≡ first_number r.stored
first_of_buffer start window since b r view kept bits e =
    subst (λ (q : Reordering). Some (start + distance bits b.start) ≡ first_number q.stored) view
    (at (first_stored b.places) refl e ∙ sym (first_place start b.places))
  where
    at : (o : Option ℕ) → first_stored b.places ≡ o → Some bits ≡ option_map (λ d. (b.start + d) % 4096) o →
        Some (start + distance bits b.start) ≡ option_map (λ d. start + d) (first_stored b.places)
    at None is e = absurd (grind (arith, e))
    at (Some d) is e =
        let within = first_within d b.places is in
        let size = kept.settled.places in
        let most = kept.settled.most in
        let bits_are : bits ≡ (start + d) % 4096 =
        (let one : bits ≡ (b.start + d) % 4096 = grind (arith, e) in one)
        ∙ ap (λ n. (n + d) % 4096) kept.first ∙ (let same : (start % 4096 + d) % 4096
        ≡ (start + d) % 4096 = omega arith in same) in
        let far : distance bits b.start ≡ d = ap₂ distance bits_are kept.first
        ∙ distance_of start d (omega (arith, within, size, most)) in
        ap (λ n. Some (start + n)) far ∙ ap (option_map (λ d. start + d)) (sym is)

pub none_of_buffer : (start window since : ℕ) (b : Buffer) (r : Reordering) →
    reordering_of_buffer start window since b ≡ r →
    None ≡ first_stored_of b → None ≡ first_number r.stored
none_of_buffer start window since b r view e =
    subst (λ (q : Reordering). None ≡ first_number q.stored) view
    (at (first_stored b.places) refl e ∙ sym (first_place start b.places))
  where
    at : (o : Option ℕ) → first_stored b.places ≡ o → None ≡ option_map (λ d. (b.start + d) % 4096) o →
        None ≡ option_map (λ d. start + d) (first_stored b.places)
    at None is e = ap (option_map (λ d. start + d)) (sym is)
    at (Some d) is e = absurd (grind (arith, e))

-- ---- a number of the window arrives

pub numbered_length : (b : ℕ) (ps : List (Option ℕ)) → length (numbered b ps) ≡ length (items_of ps)
numbered_length b [] = refl
numbered_length b (None ∷ ps) = numbered_length (b + 1) ps
numbered_length b (Some id ∷ ps) = let rest = numbered_length (b + 1) ps in omega (arith, rest)

pub record IsPut (window since number id : ℕ) (a : Buffer) (up : List ℕ) (back : Option ℕ)
    (r : Reordering) : Type 0 where
  pub stored : is_some back ≡ is_stored number r.stored
  pub after : reordering_of_buffer (r.start + length up) window since a
      ≡ (if is_some back then r else (settled (with_frame number id r)).after)
  pub items : frames_from r.start up ≡ (if is_some back then []
      else (settled (with_frame number id r)).passed)
  pub kept : IsBufferFrom (r.start + length up) window a
  pub few : length up ≤ length r.stored + 1

put_at : (start window since d id : ℕ) (b a : Buffer) (up : List ℕ) (back : Option ℕ) →
    IsBufferFrom start window b → d < window →
    up ≡ (store_outcome d id b).up → back ≡ (store_outcome d id b).back → a ≡ (store_outcome d id b).after →
    IsPut window since (start + d) id a up back (reordering_of_buffer start window since b)
put_at start window since d id b a up back kept within =
    choose (λ (o : BufferOutcome). up ≡ o.up → back ≡ o.back → a ≡ o.after →
    IsPut window since (start + d) id a up back r) (is_some (get_or b.places d None))
    (give_back_outcome id b) (release_outcome [] q)
    there fresh
  where
    r : Reordering
    r = reordering_of_buffer start window since b

    q : Buffer
    q = with_stored_item d id b

    there : is_some (get_or b.places d None) ≡ true → up ≡ [] → back ≡ Some id → a ≡ b →
        IsPut window since (start + d) id a up back r
    there t e f g =
        let some : is_some back ≡ true = ap is_some f in
        let none : start + length up ≡ start = let l = ap length e in omega (arith, l) in
        record {
          stored = some ∙ sym (place_stored d start b.places ∙ t);
          after = ap₂ (λ n (s : Buffer). reordering_of_buffer n window since s) none g
              ∙ sym (this (is_some back) _ _ some);
          items = ap (frames_from start) e ∙ sym (this (is_some back) _ _ some);
          kept = subst (λ n. IsBufferFrom n window a) (sym none)
              (subst (λ (s : Buffer). IsBufferFrom start window s) (sym g) kept);
          few = let l = ap length e in omega (arith, l);
        }

    fresh : is_some (get_or b.places d None) ≡ false → up ≡ (release_outcome [] q).up → back ≡ None →
        a ≡ (release_outcome [] q).after → IsPut window since (start + d) id a up back r
    fresh t e f g =
        let none : is_some back ≡ false = ap is_some f in
        let size = kept.settled.places in
        let whole = kept.size in
        let set_is : with_stored (record { number = start + d; id = id }) (numbered start b.places)
        ≡ numbered start q.places =
        sym (place_set d start id b.places (omega (arith, within, size, whole)) t) in
        let from : stored_from start (numbered start q.places) ≡ numbered start q.places =
        all_stored_from start (numbered start q.places) (numbered_from start q.places) in
        let p = release start start window q a up (with_frame (start + d) id r)
        (window_stored d id b q (window_of b kept.settled) refl) kept.capacity kept.first kept.size
        (omega arith) refl
        (ap (stored_from start) set_is ∙ from) set_is e g in
        let many = items_within (run_of q.places) q.places in
        let all = numbered_length start q.places in
        let one = stored_count (record { number = start + d; id = id }) (numbered start b.places) in
        let same = ap length set_is in
        let ups = ap length e in
        record {
          stored = none ∙ sym (place_stored d start b.places ∙ t);
          after = ap₂ (λ (n : ℕ) (xs : List Stored). record {
            start = n;
            window = window;
            stored = xs;
            since =
                since;
          }) (sym p.next) (sym p.stored) ∙ sym (not_this (is_some back) _ _ none);
          items = sym (p.passed ∙ ap (λ ys. ys ++ frames_from start up) (no_gap start))
              ∙ sym (not_this (is_some back) _ _ none);
          kept = p.kept;
          few = omega (arith, many, all, one, same, ups);
        }

put_in : (start window since number id : ℕ) (b a : Buffer) (up : List ℕ) (back : Option ℕ) →
    IsBufferFrom start window b → start ≤ number → number < start + window →
    up ≡ (buffer_arrived (number % 4096) id b).up → back ≡ (buffer_arrived (number % 4096) id b).back →
    a ≡ (buffer_arrived (number % 4096) id b).after →
    IsPut window since number id a up back (reordering_of_buffer start window since b)
put_in start window since number id b a up back kept from within e f g =
    let d : ℕ = number - start in
    let there : start + d ≡ number = omega (arith, from) in
    let most = kept.settled.most in
    let whole = kept.size in
    let far : distance (number % 4096) b.start ≡ d =
    ap₂ (λ n m. distance (n % 4096) m) (sym there) kept.first
    ∙ distance_of start d (omega (arith, within, most, whole)) in
    let is : buffer_arrived (number % 4096) id b ≡ store_outcome d id b =
    ap (λ n. number_outcome_at n id b) far ∙ this (nat_lt d b.size) _ _
    (let less : d < b.size = omega (arith, within, whole, from) in grind (arith, nat_tests, less)) in
    subst (λ n. IsPut window since n id a up back (reordering_of_buffer start window since b)) there
    (put_at start window since d id b a up back kept (omega (arith, within, from))
    (e ∙ ap (λ (o : BufferOutcome). o.up) is) (f ∙ ap (λ (o : BufferOutcome). o.back) is)
    (g ∙ ap (λ (o : BufferOutcome). o.after) is))

pub put : (start window since number id : ℕ) (b a : Buffer) (up : List ℕ) (back : Option ℕ) (r : Reordering) →
    reordering_of_buffer start window since b ≡ r → IsBufferFrom start window b →
    r.start ≤ number → number < r.start + r.window → (bits : ℕ) → bits ≡ number % 4096 →
    up ≡ (buffer_arrived bits id b).up → back ≡ (buffer_arrived bits id b).back →
    a ≡ (buffer_arrived bits id b).after → IsPut window since number id a up back r
put start window since number id b a up back r view kept from within bits of e f g =
    subst (λ (q : Reordering). q.start ≤ number → number < q.start + q.window →
    IsPut window since number id a up back q) view
    (λ one two. put_in start window since number id b a up back kept one two
    (e ∙ ap (λ n. (buffer_arrived n id b).up) of) (f ∙ ap (λ n. (buffer_arrived n id b).back) of)
    (g ∙ ap (λ n. (buffer_arrived n id b).after) of)) from within

-- ---- room

pub stored_few : (start window since : ℕ) (b : Buffer) (r : Reordering) →
    reordering_of_buffer start window since b ≡ r → IsBufferFrom start window b → length r.stored ≤ 255
stored_few start window since b r view kept =
    subst (λ (q : Reordering). length q.stored ≤ 255) view
    (let all = numbered_length start b.places in
    let s = kept.settled in
    let size = s.places in
    let least = s.least in
    let most = s.most in
    let fewer = items_fewer b.places s.start (omega (arith, size, least)) in
    omega (arith, all, fewer, size, most))

-- the numbers stored are in the window
pub none_past : (start window since n : ℕ) (b : Buffer) (r : Reordering) →
    reordering_of_buffer start window since b ≡ r → IsBufferFrom start window b → r.start + r.window ≤ n →
    is_stored n r.stored ≡ false
none_past start window since n b r view kept =
    subst (λ (q : Reordering). q.start + q.window ≤ n → is_stored n q.stored ≡ false) view
    (λ far.
    let size = kept.settled.places in
    let whole = kept.size in
    let there : start + (n - start) ≡ n = omega (arith, far) in
    subst (λ m. is_stored m (numbered start b.places) ≡ false) there
    (place_stored (n - start) start b.places ∙ ap is_some
    (get_or_past b.places (n - start) None (omega (arith, far, size, whole)))))

pub first_near : (start window since k : ℕ) (b : Buffer) (r : Reordering) →
    reordering_of_buffer start window since b ≡ r → IsBufferFrom start window b →
    first_number r.stored ≡ Some k → k < r.start + 256
first_near start window since k b r view kept =
    subst (λ (q : Reordering). first_number q.stored ≡ Some k → k < q.start + 256) view
    (λ e. at (first_stored b.places) refl (sym (first_place start b.places) ∙ e))
  where
    at : (o : Option ℕ) → first_stored b.places ≡ o →
        option_map (λ d. start + d) (first_stored b.places) ≡ Some k → k < start + 256
    at None is e = absurd (let none : option_map (λ d. start + d) (first_stored b.places) ≡ None =
        ap (option_map (λ d. start + d)) is in grind (arith, none, e))
    at (Some d) is e =
        let within = first_within d b.places is in
        let size = kept.settled.places in
        let most = kept.settled.most in
        let some : option_map (λ d. start + d) (first_stored b.places) ≡ Some (start + d) =
        ap (option_map (λ d. start + d)) is in
        let same : start + d ≡ k = grind (arith, some, e) in
        omega (arith, within, size, most, same)

-- whether any frame is stored

some_mapped : (f : ℕ → ℕ) (o : Option ℕ) → is_some (option_map f o) ≡ is_some o
some_mapped f None = refl
some_mapped f (Some d) = refl

some_first : (xs : List Stored) → is_some (first_number xs) ≡ not (is_none_stored xs)
some_first [] = refl
some_first (x ∷ xs) = refl

pub empty_of_buffer : (start window since : ℕ) (b : Buffer) (r : Reordering) →
    reordering_of_buffer start window since b ≡ r →
    is_some (first_stored_of b) ≡ not (is_none_stored r.stored)
empty_of_buffer start window since b r view =
    subst (λ (q : Reordering). is_some (first_stored_of b) ≡ not (is_none_stored q.stored)) view
    (some_mapped (λ d. (b.start + d) % 4096) (first_stored b.places)
    ∙ sym (some_mapped (λ d. start + d) (first_stored b.places))
    ∙ ap is_some (sym (first_place start b.places))
    ∙ some_first (numbered start b.places))

pub same_not : (a b : Bool) → not a ≡ not b → a ≡ b
same_not true true e = refl
same_not false false e = refl
same_not true false e = sym e
same_not false true e = sym e

-- ---- the calls of a reordering

waiting_after : (now : ℕ) (before : Reordering) (o : ReorderingOutcome) →
    (waiting now before o).after ≡ (if not (before.start == o.after.start) || is_none_stored before.stored
    then record o.after { since = now } else o.after)
waiting_after now before o = elim (not (before.start == o.after.start) || is_none_stored before.stored)
    as (λ t. (if t then record o { after = record o.after { since = now } } else o).after
    ≡ (if t then record o.after { since = now } else o.after)) [ true ↦ refl | false ↦ refl ]

waiting_passed : (now : ℕ) (before : Reordering) (o : ReorderingOutcome) →
    (waiting now before o).passed ≡ o.passed
waiting_passed now before o = elim (not (before.start == o.after.start) || is_none_stored before.stored)
    as (λ t. (if t then record o { after = record o.after { since = now } } else o).passed
    ≡ o.passed) [ true ↦ refl | false ↦ refl ]

waiting_old : (now : ℕ) (before : Reordering) (o : ReorderingOutcome) → (waiting now before o).old ≡ o.old
waiting_old now before o = elim (not (before.start == o.after.start) || is_none_stored before.stored)
    as (λ t. (if t then record o { after = record o.after { since = now } } else o).old ≡ o.old) [
      | true ↦
          refl
      | false ↦ refl
    ]

pub old_is : (n id now : ℕ) (r : Reordering) → is_stored n r.stored ≡ (number_arrived (Some n) id now r).old
old_is n id now r =
    choose (λ o. is_stored n r.stored ≡ o.old) (is_stored n r.stored) (Reordered_back r)
    (waiting now r (stored_at n id r)) (λ e. e) (λ e. e ∙ sym (waiting_old now r (stored_at n id r)))
  where
    Reordered_back : Reordering → ReorderingOutcome
    Reordered_back q = record { passed = []; old = true; after = q }

back_is : (n id now : ℕ) (r : Reordering) → is_stored n r.stored ≡ true →
    number_arrived (Some n) id now r ≡ record { passed = []; old = true; after = r }
back_is n id now r e = this (is_stored n r.stored) _ _ e

new_is : (n id now : ℕ) (r : Reordering) → is_stored n r.stored ≡ false →
    number_arrived (Some n) id now r ≡ waiting now r (stored_at n id r)
new_is n id now r e = not_this (is_stored n r.stored) _ _ e

-- the frame is old
pub back_after : (n id now : ℕ) (r : Reordering) → is_stored n r.stored ≡ true →
    r ≡ (number_arrived (Some n) id now r).after
back_after n id now r e = sym (ap (λ (o : ReorderingOutcome). o.after) (back_is n id now r e))

pub back_passed : (n id now : ℕ) (r : Reordering) → is_stored n r.stored ≡ true →
    [] ≡ (number_arrived (Some n) id now r).passed
back_passed n id now r e = sym (ap (λ (o : ReorderingOutcome). o.passed) (back_is n id now r e))

-- the frame is stored
pub new_after : (n id now : ℕ) (r : Reordering) → is_stored n r.stored ≡ false →
    (if not (r.start == (settled (with_frame n id (with_room_for n r).after)).after.start)
    || is_none_stored r.stored
    then record (settled (with_frame n id (with_room_for n r).after)).after { since = now }
    else (settled (with_frame n id (with_room_for n r).after)).after)
    ≡ (number_arrived (Some n) id now r).after
new_after n id now r e = sym (waiting_after now r (stored_at n id r))
    ∙ sym (ap (λ (o : ReorderingOutcome). o.after) (new_is n id now r e))

pub new_passed : (n id now : ℕ) (r : Reordering) → is_stored n r.stored ≡ false →
    (with_room_for n r).passed ++ (settled (with_frame n id (with_room_for n r).after)).passed
    ≡ (number_arrived (Some n) id now r).passed
new_passed n id now r e = sym (waiting_passed now r (stored_at n id r))
    ∙ sym (ap (λ (o : ReorderingOutcome). o.passed) (new_is n id now r e))

pub distance_whole : (n b : ℕ) → distance n (b % 4096) ≡ distance n b
distance_whole n b = omega arith

pub behind_is : (bits id now : ℕ) (r : Reordering) → 2047 < distance bits r.start →
    arrived bits id now r ≡ record { passed = []; old = true; after = r }
behind_is bits id now r far = ap (λ o. number_arrived o id now r)
    (not_this (nat_le (distance bits r.start) 2047) _ None (grind (arith, nat_tests, far)))

pub ahead_is : (bits id now : ℕ) (r : Reordering) → distance bits r.start ≤ 2047 →
    arrived bits id now r ≡ number_arrived (Some (r.start + distance bits r.start)) id now r
ahead_is bits id now r near = ap (λ o. number_arrived o id now r)
    (this (nat_le (distance bits r.start) 2047) _ None (grind (arith, nat_tests, near)))

pub timed_out_after : (now first : ℕ) (r : Reordering) → first_number r.stored ≡ Some first →
    is_none_stored r.stored ≡ false →
    (if not (r.start == (moved_to first r).after.start) || false
    then record (moved_to first r).after { since = now } else (moved_to first r).after)
    ≡ (timed_out now r).after
timed_out_after now first r e some =
    ap (λ t. if not (r.start == (moved_to first r).after.start) || t
    then record (moved_to first r).after { since = now } else (moved_to first r).after) (sym some)
    ∙ sym (waiting_after now r (moved_to first r))
    ∙ ap (λ n. (waiting now r (moved_to n r)).after) (sym (first_least first r.start r.stored e))

pub timed_out_passed : (now first : ℕ) (r : Reordering) → first_number r.stored ≡ Some first →
    (moved_to first r).passed ≡ (timed_out now r).passed
timed_out_passed now first r e = sym (waiting_passed now r (moved_to first r))
    ∙ ap (λ n. (waiting now r (moved_to n r)).passed) (sym (first_least first r.start r.stored e))
