-- Proves how many numbers of a session are open, that is wait or are on the air, and how the changes of a
-- session change this. By induction on the slots.
use Rattle.std.proofs.Common.{◌≡◌, refl, ap, ◌∙◌, subst, arith, ℕ, zero, suc, ◌+◌, ◌-◌, ◌≤◌, ◌==◌, nat_le, Bool, true, false, not, if◌then◌else◌, inl, inr, List, [], ◌∷◌, ◌++◌, length, count_by}
use Rattle.std.proofs.lemmas.List.Sums.{sum_by-cons}
use Rattle.wf_def_lists.specs.Table.{at, change, has}
use Rattle.wf_def_agreement.specs.Session.{Session, Slot, State, no_slot, slot, on_slot, with_number_given, is_settled, is_waiting, numbers_where, slot_given_up, after_flush}
use Rattle.wf_def_world.specs.World.{Mpdu}
use Rattle.wf_def_world.specs.Exchanges.{with_flying, with_heard_start}
use Rattle.wf_law_rules.proofs.Lemmas.Numbers.{on_bool, either, eq_yes, yes_le, le_yes}
use Rattle.wf_law_runs.proofs.Common.Flushes.{flush_along}
use Rattle.wf_law_runs.proofs.Sessions.Flights.{AllIn, Rises, all_in_later}

abbrev pub one_if : Bool → ℕ
one_if b = if b then 1 else 0

-- Returns how many slots have a state that passes a test.
abbrev pub tally : (State → Bool) → List Slot → ℕ
tally p [] = 0
tally p (x ∷ xs) = one_if (p x.state) + tally p xs

-- Returns whether a number is open: it waits or is on the air.
abbrev pub is_open : State → Bool
is_open st = not (is_settled st)

abbrev pub is_flying : State → Bool
is_flying (State.Flying e) = true
is_flying st = false

-- Returns how many numbers of a session are open.
abbrev pub open_in : Session → ℕ
open_in y = tally is_open y.slots

pub least : (n : ℕ) → n ≤ n
least n = omega arith

pub tally_count : (p : State → Bool) (xs : List Slot) → count_by (λ x. p x.state) xs ≡ tally p xs
tally_count p [] = refl
tally_count p (x ∷ xs) = sum_by-cons (λ (y : Slot). if p y.state then 1 else 0) x xs
    ∙ ap (λ (n : ℕ). one_if (p x.state) + n) (tally_count p xs)

one_split : (st : State) → one_if (is_open st) ≡ one_if (is_waiting st) + one_if (is_flying st)
one_split State.Waiting = refl
one_split (State.Flying e) = refl
one_split State.Acked = refl
one_split State.Failed = refl

-- An open number waits or is on the air.
pub tally_split : (xs : List Slot) → tally is_open xs ≡ tally is_waiting xs + tally is_flying xs
tally_split [] = refl
tally_split (x ∷ xs) = omega (arith, one_split x.state, tally_split xs)

-- The numbers that wait are counted.
pub tally_waiting : (xs : List Slot) (n : ℕ) → length (numbers_where is_waiting n xs) ≡ tally is_waiting xs
tally_waiting [] n = refl
tally_waiting (x ∷ xs) n = go (is_waiting x.state) (tally_waiting xs (suc n))
  where
    go : (b : Bool) → length (numbers_where is_waiting (suc n) xs) ≡ tally is_waiting xs →
        length (if b then n ∷ numbers_where is_waiting (suc n) xs else numbers_where is_waiting (suc n) xs)
        ≡ one_if b + tally is_waiting xs
    go true h = omega (arith, h)
    go false h = omega (arith, h)

-- ---- the changes of a session

one_most : (b : Bool) → one_if b ≤ 1
one_most true = omega arith
one_most false = omega arith

-- The slot of an open number changes.
open_change : (xs : List Slot) (k : ℕ) (f : Slot → Slot) → is_settled (at no_slot xs k).state ≡ false →
    tally is_open (change no_slot xs k f) ≤ tally is_open xs
open_change [] k f h = absurd (cc h)
open_change (x ∷ xs) zero f h =
    let one : one_if (is_open x.state) ≡ 1 = ap (λ (b : Bool). one_if (not b)) h in
    omega (arith, one, one_most (is_open (f x).state))
open_change (x ∷ xs) (suc k) f h = omega (arith, open_change xs k f h)

pub open_on_slot : (y : Session) (n : ℕ) (f : Slot → Slot) → is_settled (slot y n).state ≡ false →
    open_in (on_slot n f y) ≤ open_in y
open_on_slot y n f h = open_change y.slots (n - y.first) f h

tally_append : (xs : List Slot) (x : Slot) → tally is_open (xs ++ x ∷ []) ≤ suc (tally is_open xs)
tally_append [] x = omega (arith, one_most (is_open x.state))
tally_append (y ∷ xs) x = omega (arith, tally_append xs x)

-- A number is given.
pub open_give : (y : Session) (id : ℕ) → open_in (with_number_given y id) ≤ suc (open_in y)
open_give y id = tally_append y.slots _

-- Numbers that wait are sent.
pub open_fly : (ms : List Mpdu) (y : Session) (e lo hi : ℕ) → y.first ≤ lo → Rises lo hi ms →
    AllIn y State.Waiting ms → open_in (with_flying e ms y) ≤ open_in y
open_fly [] y e lo hi b r a = omega arith
open_fly (m ∷ ms) y e lo hi b r a =
    let f : Slot → Slot = λ x. record x { state = State.Flying e } in
    let here : open_in (on_slot m.number f y) ≤ open_in y = open_on_slot y m.number f (ap is_settled a.0) in
    let rest : open_in (with_flying e ms (on_slot m.number f y)) ≤ open_in (on_slot m.number f y) =
    open_fly ms (on_slot m.number f y) e (suc m.number) hi (omega (arith, r.0)) r.2
    (all_in_later y State.Waiting m.number hi f ms (omega (arith, r.0)) r.2 a.1) in
    omega (arith, here, rest)

-- The numbers that wait are given up.
pub open_flush : (limit : ℕ) (y : Session) → open_in (after_flush limit y) ≤ open_in y
open_flush limit y = flush_along (λ z. open_in z ≤ open_in y) limit y
    (λ z n e l b waits k. omega (arith, k, open_on_slot z n (slot_given_up limit) (ap is_settled waits)))
    (omega arith)

-- ---- numbers on the air that are in a list

pub open_heard : (b : Bool) (start : ℕ) (y : Session) → open_in (with_heard_start b start y) ≤ open_in y
open_heard true start y = least (open_in y)
open_heard false start y = least (open_in y)

-- Returns how many numbers of a list are at least n.
abbrev pub from_on : ℕ → List ℕ → ℕ
from_on n [] = 0
from_on n (k ∷ ks) = one_if (nat_le n k) + from_on n ks

one_later : (n k : ℕ) → one_if (nat_le (suc n) k) ≤ one_if (nat_le n k)
one_later n k = on_bool (nat_le (suc n) k)
    (λ h.
    let here : n ≤ k = omega (arith, le_yes (suc n) k h) in
    omega (arith, one_most (nat_le (suc n) k), ap one_if (yes_le n k here)))
    (λ h. omega (arith, ap one_if h))

from_later : (n : ℕ) (ks : List ℕ) → from_on (suc n) ks ≤ from_on n ks
from_later n [] = omega arith
from_later n (k ∷ ks) = omega (arith, one_later n k, from_later n ks)

from_has : (n : ℕ) (ks : List ℕ) → has ks n ≡ true → suc (from_on (suc n) ks) ≤ from_on n ks
from_has n [] h = absurd (cc h)
from_has n (k ∷ ks) h = elim (either (k == n) (has ks n) h) [
  | inl e ↦
      let here : one_if (nat_le n k) ≡ 1 = ap one_if (yes_le n k (omega (arith, eq_yes k n e))) in
      omega (arith, here, later (eq_yes k n e), from_later n ks)
  | inr e ↦ omega (arith, one_later n k, from_has n ks e)
]
  where
    later : k ≡ n → one_if (nat_le (suc n) k) ≡ 0
    later e = on_bool (nat_le (suc n) k) (λ h. absurd (omega (arith, e, le_yes (suc n) k h)))
        (λ h. ap one_if h)

pub from_most : (n : ℕ) (ks : List ℕ) → from_on n ks ≤ length ks
from_most n [] = omega arith
from_most n (k ∷ ks) = omega (arith, one_most (nat_le n k), from_most n ks)

-- If each number on the air is in a list, there are no more of them than the list has. n is the number of the
-- first slot.
pub flying_most : (xs : List Slot) (n : ℕ) (ks : List ℕ) →
    ((i : ℕ) → is_flying (at no_slot xs i).state ≡ true → has ks (n + i) ≡ true) →
    tally is_flying xs ≤ from_on n ks
flying_most [] n ks h = omega arith
flying_most (x ∷ xs) n ks h =
    let rest : tally is_flying xs ≤ from_on (suc n) ks = flying_most xs (suc n) ks
    (λ i f. subst (λ (k : ℕ). has ks k ≡ true) (omega arith) (h (suc i) f)) in
    on_bool (is_flying x.state)
    (λ f. omega (
      arith,
      rest,
      ap one_if f,
      from_has n ks (subst (λ (k : ℕ). has ks k ≡ true) (omega arith) (h 0 f)),
    ))
    (λ f. omega (arith, rest, ap one_if f, from_later n ks))
