-- Proves that the inferred indices rise, are the indices of the numbers that a BlockAck shows, and went on
-- the air if only such numbers are shown. By induction over the numbers of the exchange.
use Rattle.std.proofs.Common.{◌≡◌, ap, subst, sym, ◌∙◌, arith, ℕ, zero, suc, ◌+◌, ◌<◌, ◌≤◌, ◌==◌, Bool, true, false, ◌&&◌, refl, inl, inr, List, [], ◌∷◌, length, map}
use Rattle.std.specs.List.{list_all}
use Rattle.wf_def_lists.specs.Table.{at, has, upto}
use Rattle.wf_law_rules.proofs.Lemmas.Numbers.{on_if, on_bool, eq_yes, yes_eq, either, or_left, or_right}
use Rattle.wf_def_world.specs.World.{Mpdu, Content, Frames, Request}
use Rattle.wf_def_world.specs.CanSend.{is_request}
use Rattle.wf_def_world.specs.Exchanges.{transmissions, no_mpdu, number_at, mpdus_of}
use Rattle.wf_law_runs.specs.Windows.{EachMpdu}
use Rattle.wf_law_driver.specs.Inferred.{shown_indices, indices_inferred}
use Rattle.wf_law_driver.proofs.Arrivals.{IsNumber, IsAmong, AreIndices, AreIn, AreNotIn}

pub each_mpdu : (P Q : Mpdu → Type 0) (ms : List Mpdu) → ((m : Mpdu) → P m → Q m) → EachMpdu P ms →
    EachMpdu Q ms
each_mpdu P Q [] h e = tt
each_mpdu P Q (m ∷ ms) h e = (h m e.0, each_mpdu P Q ms h e.1)

pub both_mpdu : (P N Q : Mpdu → Type 0) (ms : List Mpdu) → ((m : Mpdu) → P m → N m → Q m) → EachMpdu P ms →
    EachMpdu N ms → EachMpdu Q ms
both_mpdu P N Q [] h e n = tt
both_mpdu P N Q (m ∷ ms) h e n = (h m e.0 n.0, both_mpdu P N Q ms h e.1 n.1)

-- ---- they rise

from_before : (lo lo' hi : ℕ) (is : List ℕ) → lo' ≤ lo → AreIndices lo hi is → AreIndices lo' hi is
from_before lo lo' hi [] h r = tt
from_before lo lo' hi (i ∷ is) h r = (omega (arith, r.0), r.1, r.2)

indices_rise : (shown : ℕ → Bool) (i hi : ℕ) (ms : List Mpdu) → i + length ms ≤ hi →
    AreIndices i hi (shown_indices shown i ms)
indices_rise shown i hi [] h = tt
indices_rise shown i hi (m ∷ ms) h =
    let rest : AreIndices (suc i) hi (shown_indices shown (suc i) ms) =
    indices_rise shown (suc i) hi ms (omega (arith, h)) in
    on_if (AreIndices i hi) (shown m.number) (i ∷ shown_indices shown (suc i) ms)
    (shown_indices shown (suc i) ms)
    (λ _. (omega arith, omega (arith, h), rest)) (λ _.
    from_before (suc i) i hi (shown_indices shown (suc i) ms) (omega arith) rest)

pub inferred_rise : (shown : ℕ → Bool) (c : Content) → AreIndices 0 (transmissions c)
    (indices_inferred shown c)
inferred_rise shown (Frames ms) = indices_rise shown 0 (length ms) ms (omega arith)
inferred_rise shown (Request f) = (omega arith, omega arith, tt)

-- ---- they are the indices of the numbers that are shown: `ms` is the part of `all` from index i on

abbrev StandsFrom : ℕ → List Mpdu → List Mpdu → Type 0
StandsFrom i ms all = (k : ℕ) → at no_mpdu all (i + k) ≡ at no_mpdu ms k

stands_first : (i : ℕ) (m : Mpdu) (ms all : List Mpdu) → StandsFrom i (m ∷ ms) all → at no_mpdu all i ≡ m
stands_first i m ms all h = let here : i ≡ i + 0 = omega arith in ap (at no_mpdu all) here ∙ h 0

stands_later : (i : ℕ) (m : Mpdu) (ms all : List Mpdu) → StandsFrom i (m ∷ ms) all → StandsFrom (suc i) ms all
stands_later i m ms all h k = let next : suc i + k ≡ i + suc k = omega arith in
    ap (at no_mpdu all) next ∙ h (suc k)

among_shown : (shown : ℕ → Bool) (i : ℕ) (ms all : List Mpdu) (n : ℕ) → StandsFrom i ms all →
    IsAmong (Frames all) (shown_indices shown i ms) n → shown n ≡ true
among_shown shown i [] all n h a = absurd a
among_shown shown i (m ∷ ms) all n h a = on_if (λ is. IsAmong (Frames all) is n → shown n ≡ true)
    (shown m.number) (i ∷ shown_indices shown (suc i) ms) (shown_indices shown (suc i) ms)
    (λ yes b. elim b [
      | inl here ↦ ap shown (sym here ∙ ap (λ (q : Mpdu). q.number) (stands_first i m ms all h)) ∙ yes
      | inr later ↦ among_shown shown (suc i) ms all n (stands_later i m ms all h) later
    ])
    (λ _ b. among_shown shown (suc i) ms all n (stands_later i m ms all h) b) a

shown_among : (shown : ℕ → Bool) (i : ℕ) (ms all : List Mpdu) → StandsFrom i ms all →
    EachMpdu (λ m. shown m.number ≡ true → IsAmong (Frames all) (shown_indices shown i ms) m.number) ms
shown_among shown i [] all h = tt
shown_among shown i (m ∷ ms) all h =
    let rest : List ℕ = shown_indices shown (suc i) ms in
    let later = shown_among shown (suc i) ms all (stands_later i m ms all h) in
    on_if (λ is. EachMpdu (λ q. shown q.number ≡ true → IsAmong (Frames all) is q.number) (m ∷ ms))
    (shown m.number) (i ∷ rest) rest
    (λ _. (
      (λ _. inl (ap (λ (q : Mpdu). q.number) (stands_first i m ms all h))),
      each_mpdu (λ q. shown q.number ≡ true → IsAmong (Frames all) rest q.number)
          (λ q. shown q.number ≡ true → IsAmong (Frames all) (i ∷ rest) q.number) ms
          (λ q f yes. inr (f yes)) later,
    ))
    (λ no. ((λ yes. absurd (cc (yes, no))), later))

pub inferred_shown : (shown : ℕ → Bool) (c : Content) (n : ℕ) → IsAmong c (indices_inferred shown c) n →
    shown n ≡ true
inferred_shown shown (Frames ms) n a = among_shown shown 0 ms ms n (λ k. ap (at no_mpdu ms) (omega arith)) a
inferred_shown shown (Request f) n a = elim a [ inl never ↦ absurd never | inr never ↦ absurd never ]

pub shown_inferred : (shown : ℕ → Bool) (c : Content) →
    EachMpdu (λ m. shown m.number ≡ true → IsAmong c (indices_inferred shown c) m.number) (mpdus_of c)
shown_inferred shown (Frames ms) = shown_among shown 0 ms ms (λ k. ap (at no_mpdu ms) (omega arith))
shown_inferred shown (Request f) = tt

-- ---- they went on the air, if only numbers that did are shown

has_map : (f : ℕ → ℕ) (xs : List ℕ) (i : ℕ) → has xs i ≡ true → has (map f xs) (f i) ≡ true
has_map f [] i h = absurd (cc h)
has_map f (x ∷ xs) i h = elim (either (x == i) (has xs i) h) [
  | inl here ↦ or_left (f x == f i) (has (map f xs) (f i)) (yes_eq (f x) (f i) (ap f (eq_yes x i here)))
  | inr later ↦ or_right (f x == f i) (has (map f xs) (f i)) (has_map f xs i later)
]

number_is : (c : Content) (i n : ℕ) → IsNumber c i n → number_at c i ≡ n
number_is (Frames ms) i n h = h
number_is (Request f) i n h = absurd h

-- the number of one of these transmissions is among the numbers of a list that has them all
pub among_in : (c : Content) (xs is : List ℕ) (n : ℕ) → AreIn xs is → IsAmong c is n →
    has (map (number_at c) xs) n ≡ true
among_in c xs [] n h a = absurd a
among_in c xs (i ∷ is) n h a = elim a [
  | inl here ↦ subst (λ (k : ℕ). has (map (number_at c) xs) k ≡ true) (number_is c i n here)
      (has_map (number_at c) xs i h.0)
  | inr later ↦ among_in c xs is n h.1 later
]

-- the number is not that of a transmission in the list, if it is shown
abbrev IsNotIn : List ℕ → (ℕ → Bool) → Content → Mpdu → Type 0
IsNotIn xs shown c m = shown m.number ≡ true → has (map (number_at c) xs) m.number ≡ false

shown_not_in : (xs : List ℕ) (shown : ℕ → Bool) (i : ℕ) (ms all : List Mpdu) → StandsFrom i ms all →
    EachMpdu (IsNotIn xs shown (Frames all)) ms → AreNotIn xs (shown_indices shown i ms)
shown_not_in xs shown i [] all h k = tt
shown_not_in xs shown i (m ∷ ms) all h k =
    let rest : List ℕ = shown_indices shown (suc i) ms in
    let later : AreNotIn xs rest = shown_not_in xs shown (suc i) ms all (stands_later i m ms all h) k.1 in
    let number : number_at (Frames all) i ≡ m.number =
    ap (λ (q : Mpdu). q.number) (stands_first i m ms all h) in
    on_if (AreNotIn xs) (shown m.number) (i ∷ rest) rest
    (λ yes. (
      on_bool (has xs i) (λ e. absurd (cc (
        k.0 yes,
        ap (has (map (number_at (Frames all)) xs)) (sym number) ∙ has_map (number_at (Frames all)) xs i e,
      ))) (λ e. e),
      later,
    ))
    (λ _. later)

first_false : (a : Bool) → (a && true) ≡ false → a ≡ false
first_false true h = absurd (cc h)
first_false false h = refl

pub inferred_not_in : (xs : List ℕ) (shown : ℕ → Bool) (c : Content) →
    EachMpdu (IsNotIn xs shown c) (mpdus_of c) →
    (is_request c ≡ true → list_all (has xs) (upto (transmissions c)) ≡ false) →
    AreNotIn xs (indices_inferred shown c)
inferred_not_in xs shown (Frames ms) k some =
    shown_not_in xs shown 0 ms ms (λ n. ap (at no_mpdu ms) (omega arith)) k
inferred_not_in xs shown (Request f) k some = (first_false (has xs 0) (some refl), tt)

-- ---- what holds for each number of an exchange holds for those that are inferred to arrive

at_each : (P : ℕ → Type 0) (ms : List Mpdu) (k n : ℕ) → k < length ms → (at no_mpdu ms k).number ≡ n →
    EachMpdu (λ m. P m.number) ms → P n
at_each P [] k n h e all = absurd (omega (arith, h))
at_each P (m ∷ ms) zero n h e all = subst P e all.0
at_each P (m ∷ ms) (suc k) n h e all = at_each P ms k n (omega (arith, h)) e all.1

pub among_each : (P : ℕ → Type 0) (c : Content) (lo : ℕ) (is : List ℕ) (n : ℕ) →
    AreIndices lo (transmissions c) is → IsAmong c is n → EachMpdu (λ m. P m.number) (mpdus_of c) → P n
among_each P c lo [] n r a all = absurd a
among_each P (Request f) lo (i ∷ is) n r a all =
    elim a [ inl never ↦ absurd never | inr later ↦ among_each P (Request f) (suc i) is n r.2 later all ]
among_each P (Frames ms) lo (i ∷ is) n r a all =
    elim a [
      | inl here ↦ at_each P ms i n r.1 here all
      | inr later ↦
          among_each P (Frames ms) (suc i) is n r.2 later all
    ]
