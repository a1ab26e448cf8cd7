-- Proves how a session's start and slots change with each change that a step makes. By induction on the
-- slots.
use Rattle.std.proofs.Common.{◌≡◌, ◌≢◌, refl, ap, sym, arith, ℕ, zero, suc, ◌+◌, ◌-◌, ◌<◌, ◌≤◌, Bool, true, false, if◌then◌else◌, List, [], ◌∷◌, ◌++◌, length, length-append}
use Rattle.wf_def_lists.specs.Table.{at, change}
use Rattle.wf_def_agreement.specs.Session.{Session, Slot, State, no_slot, slot, on_slot, with_number_given, is_settled, first_unsettled, start_of, next_number, has_room}
use Rattle.wf_law_rules.proofs.Lemmas.Tables.{each_put}

-- All numbers are less than a window above the session's start.
pub record IsWithin (y : Session) : Type 0 where
  pub within : next_number y ≤ start_of y + y.size

pub not_settled : (st : State) → is_settled st ≡ false → st ≡ State.Acked → ⊥
not_settled st h e = cc (ap is_settled e)

ifs_le : (b : Bool) (m n m' n' : ℕ) → m ≤ m' → n ≤ n' → (if b then m else n) ≤ (if b then m' else n')
ifs_le true m n m' n' h k = h
ifs_le false m n m' n' h k = k

if_ge : (b : Bool) (l m n : ℕ) → l ≤ m → l ≤ n → l ≤ (if b then m else n)
if_ge true l m n h k = h
if_ge false l m n h k = k

pub start_ge : (xs : List Slot) (n : ℕ) → n ≤ first_unsettled n xs
start_ge [] n = omega arith
start_ge (x ∷ xs) n = if_ge (is_settled x.state) n _ n (omega (arith, start_ge xs (suc n))) (omega arith)

pub start_append : (xs : List Slot) (n : ℕ) (ys : List Slot) →
    first_unsettled n xs ≤ first_unsettled n (xs ++ ys)
start_append [] n ys = start_ge ys n
start_append (x ∷ xs) n ys = ifs_le (is_settled x.state) _ n _ n (start_append xs (suc n) ys) (omega arith)

-- The slot of an unsettled number changes.
pub start_change : (xs : List Slot) (n k : ℕ) (f : Slot → Slot) → is_settled (at no_slot xs k).state ≡ false →
    first_unsettled n xs ≤ first_unsettled n (change no_slot xs k f)
start_change [] n k f h = absurd (cc h)
start_change (x ∷ xs) n zero f h =
    let e : first_unsettled n (x ∷ xs) ≡ n = ap (λ (b : Bool). if b then first_unsettled (suc n) xs else n) h
    in
    omega (arith, e, start_ge (f x ∷ xs) n)
start_change (x ∷ xs) n (suc k) f h = ifs_le (is_settled x.state) _ n _ n (start_change xs (suc n) k f h)
    (omega arith)

pub length-change : (xs : List Slot) (k : ℕ) (f : Slot → Slot) → is_settled (at no_slot xs k).state ≡ false →
    length (change no_slot xs k f) ≡ length xs
length-change [] k f h = absurd (cc h)
length-change (x ∷ xs) zero f h = refl
length-change (x ∷ xs) (suc k) f h = ap suc (length-change xs k f h)

pub within_on_slot : (y : Session) (n : ℕ) (f : Slot → Slot) → is_settled (slot y n).state ≡ false →
    IsWithin y → IsWithin (on_slot n f y)
within_on_slot y n f h i = record {
  within = omega (
    arith,
    i.within,
    length-change y.slots (n - y.first) f h,
    start_change y.slots y.first (n - y.first) f h,
  );
}

pub within_give : (y : Session) (id : ℕ) → has_room y ≡ true → IsWithin (with_number_given y id)
within_give y id h =
    let room : next_number y < start_of y + y.size = grind arith in
    record {
      within = omega (
        arith,
        room,
        length-append y.slots
            (record { id = id; attempts = 0; state = State.Waiting } ∷ []),
        start_append y.slots y.first (record { id = id; attempts = 0; state = State.Waiting } ∷ []),
      );
    }

-- ---- the other slots

pub keeps_change : (P Q : State → Type 0) (xs : List Slot) (k : ℕ) (f : Slot → Slot) →
    (P (at no_slot xs k).state → Q (f (at no_slot xs k)).state) → ((st : State) → P st → Q st) → (i : ℕ) →
    P (at no_slot xs i).state → Q (at no_slot (change no_slot xs k f) i).state
keeps_change P Q xs k f h all = each_put (λ i x. P (at no_slot xs i).state → Q x.state) no_slot xs k
    (f (at no_slot xs k)) (λ i p. all _ p) h

-- A slot is appended. The state is not Acked, which a number past the end would have.
pub keeps_append : (xs : List Slot) (x : Slot) (st : State) → st ≢ State.Acked → (i : ℕ) →
    (at no_slot xs i).state ≡ st → (at no_slot (xs ++ x ∷ []) i).state ≡ st
keeps_append [] x st h i e = absurd (h (sym e))
keeps_append (y ∷ xs) x st h zero e = e
keeps_append (y ∷ xs) x st h (suc i) e = keeps_append xs x st h i e

pub at_append : (xs : List Slot) (x : Slot) → at no_slot (xs ++ x ∷ []) (length xs) ≡ x
at_append [] x = refl
at_append (y ∷ xs) x = at_append xs x

pub at_change_other : (xs : List Slot) (k i : ℕ) (f : Slot → Slot) → k ≢ i →
    at no_slot (change no_slot xs k f) i ≡ at no_slot xs i
at_change_other xs k i f ne = each_put (λ j x. k ≢ j → x ≡ at no_slot xs j) no_slot xs k (f (at no_slot xs k))
    (λ j _. refl) (λ no. absurd (no refl)) i ne

pub at_change_same : (xs : List Slot) (k : ℕ) (f : Slot → Slot) →
    at no_slot (change no_slot xs k f) k ≡ f (at no_slot xs k)
at_change_same [] zero f = refl
at_change_same [] (suc k) f = at_change_same [] k f
at_change_same (x ∷ xs) zero f = refl
at_change_same (x ∷ xs) (suc k) f = at_change_same xs k f

pub start_le : (xs : List Slot) (n : ℕ) → first_unsettled n xs ≤ n + length xs
start_le [] n = omega arith
start_le (x ∷ xs) n = if_le (is_settled x.state) _ n _ (omega (arith, start_le xs (suc n))) (omega arith)
  where
    if_le : (b : Bool) (m n l : ℕ) → m ≤ l → n ≤ l → (if b then m else n) ≤ l
    if_le true m n l h k = h
    if_le false m n l h k = k
