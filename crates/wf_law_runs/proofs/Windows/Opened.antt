-- Proves facts about each open exchange, and about the station that a pick gives.
use Rattle.std.proofs.Common.{◌≡◌, ◌≢◌, refl, subst, arith, ℕ, zero, suc, ◌+◌, nat_lt, zero-add, Bool, true, false, if◌then◌else◌, not, ◌&&◌, ◌==◌, List, [], ◌∷◌, ◌++◌, filter, find, count_by, nat_le, Option, Some, None, IfSome}
use Rattle.wf_def_lists.specs.Table.{at}
use Rattle.wf_def_rotation.specs.Rotation.{Rotation, round, first_of_two, first_least, pick_later, pick_from, pick, in_order}
use Rattle.wf_def_agreement.specs.Session.{Session, State, with_number_given, next_number, has_room}
use Rattle.wf_def_world.specs.World.{World, Tid, Exchange, Mpdu, no_tid, session, is_held_back}
use Rattle.wf_def_world.specs.FlowQueues.{frames_queued}
use Rattle.wf_def_world.specs.CanSend.{can_give}
use Rattle.wf_frame.specs.declared.notes.Refusal.{Refusal}
use Rattle.wf_def_world.specs.Refusals.{first_refusal}
use Rattle.std.proofs.lemmas.List.Sums.{sum_by-cons}
use Rattle.wf_law_runs.proofs.Sessions.Flights.{AllIn, Rises, rises_weaken, next-give, all_in_give}

abbrev pub Each : (Exchange → Type 0) → List Exchange → Type 0
Each P [] = Unit {0}
Each P (x ∷ xs) = P x × Each P xs

pub each_map : (P Q : Exchange → Type 0) (xs : List Exchange) → ((x : Exchange) → P x → Q x) → Each P xs →
    Each Q xs
each_map P Q [] h e = tt
each_map P Q (x ∷ xs) h e = (h x e.0, each_map P Q xs h e.1)

pub each_both : (P N R : Exchange → Type 0) (xs : List Exchange) → ((x : Exchange) → P x → N x → R x) →
    Each P xs → Each N xs → Each R xs
each_both P N R [] h e n = tt
each_both P N R (x ∷ xs) h e n = (h x e.0 n.0, each_both P N R xs h e.1 n.1)

pub each_append : (P : Exchange → Type 0) (xs : List Exchange) (x : Exchange) → Each P xs → P x →
    Each P (xs ++ x ∷ [])
each_append P [] x e h = (h, tt)
each_append P (y ∷ xs) x e h = (e.0, each_append P xs x e.1 h)

pub if_each : (b : Bool) (P : Exchange → Type 0) (xs ys : List Exchange) → (b ≡ true → Each P xs) →
    (b ≡ false → Each P ys) → Each P (if b then xs else ys)
if_each true P xs ys h k = h refl
if_each false P xs ys h k = k refl

pub each_filter : (P Q : Exchange → Type 0) (p : Exchange → Bool) (xs : List Exchange) →
    ((x : Exchange) → p x ≡ true → P x → Q x) → Each P xs → Each Q (filter p xs)
each_filter P Q p [] h e = tt
each_filter P Q p (x ∷ xs) h e =
    let rest : Each Q (filter p xs) = each_filter P Q p xs h e.1 in
    if_each (p x) Q (x ∷ filter p xs) (filter p xs) (λ yes. (h x yes e.0, rest)) (λ _. rest)

pub find_if : (b : Bool) (P : Exchange → Type 0) (x : Exchange) (o : Option Exchange) → (b ≡ true → P x) →
    IfSome o P → IfSome (if b then Some x else o) P
find_if true P x o h k = h refl
find_if false P x o h k = k

pub each_find : (P Q : Exchange → Type 0) (p : Exchange → Bool) (xs : List Exchange) →
    ((x : Exchange) → p x ≡ true → P x → Q x) → Each P xs → IfSome (find p xs) Q
each_find P Q p [] h e = tt
each_find P Q p (x ∷ xs) h e = find_if (p x) Q x (find p xs) (λ yes. h x yes e.0) (each_find P Q p xs h e.1)

-- These numbers are in increasing order, and on the air in exchange e.
pub record FlyIn (e : ℕ) (ms : List Mpdu) (y : Session) : Type 0 where
  pub rising : Rises y.first (next_number y) ms
  pub flying : AllIn y (State.Flying e) ms

pub fly_give : (y : Session) (id e : ℕ) (ms : List Mpdu) → FlyIn e ms y → FlyIn e ms (with_number_given y id)
fly_give y id e ms f = record {
  rising = rises_weaken y.first y.first (next_number y) (next_number (with_number_given y id)) ms
      (omega arith) (omega (arith, next-give y id)) f.rising;
  flying = all_in_give y id (State.Flying e) ms (λ h. cc h) f.flying;
}

pub can_give-room : (w : World) (s t : ℕ) → not (can_give w s t) ≡ false → has_room (session w s t) ≡ true
can_give-room w s t h = middle (nat_lt 0 (frames_queued w s t)) (has_room (session w s t))
    (not (is_held_back w s t)) h
  where
    middle : (a b c : Bool) → not (a && (b && c)) ≡ false → b ≡ true
    middle true true c h = refl
    middle true false c h = absurd (cc h)
    middle false b c h = absurd (cc h)

pub differ : (a b : ℕ) → not (a == b) ≡ true → a ≢ b
differ a b h e = grind arith

abbrev pub AllKeys : (ℕ → Type 0) → List ℕ → Type 0
AllKeys P [] = Unit {0}
AllKeys P (k ∷ ks) = P k × AllKeys P ks

pub keys_if : (b : Bool) (P : ℕ → Type 0) (xs ys : List ℕ) → (b ≡ true → AllKeys P xs) → AllKeys P ys →
    AllKeys P (if b then xs else ys)
keys_if true P xs ys h k = h refl
keys_if false P xs ys h k = k

pub filter_passes : (p : ℕ → Bool) (ks : List ℕ) → AllKeys (λ k. p k ≡ true) (filter p ks)
filter_passes p [] = tt
filter_passes p (k ∷ ks) = keys_if (p k) (λ k. p k ≡ true) (k ∷ filter p ks) (filter p ks)
    (λ yes. (yes, filter_passes p ks)) (filter_passes p ks)

pub key_if : (b : Bool) (P : ℕ → Type 0) (x y : ℕ) → P x → P y → IfSome (if b then Some x else Some y) P
key_if true P x y h k = h
key_if false P x y h k = k

pub first_of_two_passes : (P : ℕ → Type 0) (rounds : ℕ → ℕ) (y : ℕ) (o : Option ℕ) → P y → IfSome o P →
    IfSome (first_of_two rounds y o) P
first_of_two_passes P rounds y None h k = h
first_of_two_passes P rounds y (Some z) h k = key_if (nat_le (rounds y) (rounds z)) P y z h k

pub first_least_passes : (P : ℕ → Type 0) (rounds : ℕ → ℕ) (ks : List ℕ) → AllKeys P ks →
    IfSome (first_least rounds ks) P
first_least_passes P rounds [] h = tt
first_least_passes P rounds (k ∷ ks) h = first_of_two_passes P rounds k (first_least rounds ks) h.0
    (first_least_passes P rounds ks h.1)

pub found_if : (b : Bool) (P : ℕ → Type 0) (x : ℕ) (o : Option ℕ) → (b ≡ true → P x) → IfSome o P →
    IfSome (if b then Some x else o) P
found_if true P x o h k = h refl
found_if false P x o h k = k

pub find_passes : (P : ℕ → Type 0) (p : ℕ → Bool) (ks : List ℕ) → ((k : ℕ) → p k ≡ true → P k) →
    IfSome (find p ks) P
find_passes P p [] h = tt
find_passes P p (k ∷ ks) h = found_if (p k) P k (find p ks) (h k) (find_passes P p ks h)

pub left_true : (a b : Bool) → a && b ≡ true → a ≡ true
left_true true b h = refl
left_true false b h = absurd (cc h)

pub pick_ready : (need : ℕ → ℕ) (ready : ℕ → Bool) (r : Rotation) →
    IfSome (pick need ready r).winner (λ k. ready k ≡ true)
unfolding pick
pick_ready need ready r =
    from_found (find (λ y. ready y && (need y == 0)) r.new)
    (find_passes (λ k. ready k ≡ true) (λ y. ready y && (need y == 0)) r.new
    (λ k h. left_true (ready k) (need k == 0) h))
  where
    later : (o : Option ℕ) → IfSome o (λ k. ready k ≡ true) →
        IfSome (pick_later need ready r o).winner (λ k. ready k ≡ true)
    later None h = tt
    later (Some k) h = h

    from_found : (o : Option ℕ) → IfSome o (λ k. ready k ≡ true) →
        IfSome (pick_from need ready r o).winner (λ k. ready k ≡ true)
    from_found None h = later (first_least (round need r) (filter ready (in_order r)))
        (first_least_passes (λ k. ready k ≡ true) (round need r) (filter ready (in_order r))
        (filter_passes ready (in_order r)))
    from_found (Some k) h = h

pub some_along : (P Q : ℕ → Type 0) (o : Option ℕ) → ((k : ℕ) → P k → Q k) → IfSome o P → IfSome o Q
some_along P Q None h k = tt
some_along P Q (Some x) h k = h x k

pub eight : (P : Tid → Type 0) (y : Tid) → P y → P no_tid → (j : ℕ) →
    P (at no_tid (y ∷ y ∷ y ∷ y ∷ y ∷ y ∷ y ∷ y ∷ []) j)
eight P y h k zero = h
eight P y h k (suc zero) = h
eight P y h k (suc (suc zero)) = h
eight P y h k (suc (suc (suc zero))) = h
eight P y h k (suc (suc (suc (suc zero)))) = h
eight P y h k (suc (suc (suc (suc (suc zero))))) = h
eight P y h k (suc (suc (suc (suc (suc (suc zero)))))) = h
eight P y h k (suc (suc (suc (suc (suc (suc (suc zero))))))) = h
eight P y h k (suc (suc (suc (suc (suc (suc (suc (suc j)))))))) = k

pub not_less : (n : ℕ) → nat_lt 0 (1 + n) ≡ false → ⊥
not_less n h = grind arith

pub different : (a b : ℕ) → (a == b) ≡ false → b ≢ a
different a b h e = grind arith

pub none_open_if : (b : Bool) (x : Exchange) (xs : List Exchange) (s n : ℕ) → (x.station == s) ≡ b →
    nat_lt 0 ((if b then 1 else 0) + n) ≡ false → (nat_lt 0 n ≡ false → Each (λ x. s ≢ x.station) xs) →
    Each (λ x. s ≢ x.station) (x ∷ xs)
none_open_if true x xs s n e k f = absurd (not_less n k)
none_open_if false x xs s n e k f = (
  different x.station s e,
  f (subst (λ (m : ℕ). nat_lt 0 m ≡ false) (zero-add n) k),
)

pub none_open : (xs : List Exchange) (s : ℕ) → nat_lt 0 (count_by (λ x. x.station == s) xs) ≡ false →
    Each (λ x. s ≢ x.station) xs
none_open [] s h = tt
none_open (x ∷ xs) s h =
    none_open_if (x.station == s) x xs s (count_by (λ x. x.station == s) xs) refl
    (subst (λ (n : ℕ). nat_lt 0 n ≡ false) (sum_by-cons
    (λ (y : Exchange). if y.station == s then 1 else 0) x xs) h) (none_open xs s)

abbrev pub NoRow : List (Bool × Refusal) → Type 0
NoRow [] = Unit {0}
NoRow (row ∷ rows) = (row.0 ≡ false) × NoRow rows

pub no_row : (rows : List (Bool × Refusal)) → first_refusal rows ≡ None → NoRow rows
unfolding first_refusal
no_row [] h = tt
no_row (row ∷ rows) h = go row.0 h (no_row rows)
  where
    go : (b : Bool) → (if b then Some row.1 else first_refusal rows) ≡ None →
        (first_refusal rows ≡ None → NoRow rows) → (b ≡ false) × NoRow rows
    go true k f = absurd (cc k)
    go false k f = (refl, f k)
