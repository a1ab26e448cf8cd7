-- Proves that a TID has no more numbers on the air than the open exchanges of its class can send.
use Rattle.std.proofs.Common.{◌≡◌, refl, ap, sym, ◌∙◌, subst, arith, ℕ, suc, ◌+◌, ◌-◌, ◌*◌, ◌≤◌, ◌==◌, Bool, true, false, ◌&&◌, if◌then◌else◌, inl, inr, List, [], ◌∷◌, ◌++◌, length, length-append, map}
use Rattle.wf_frame.specs.Classes.{class_of, class_number, same_class}
use Rattle.wf_def_lists.specs.Table.{at, has}
use Rattle.wf_def_agreement.specs.Session.{Session, State, no_slot}
use Rattle.wf_def_world.specs.World.{World, Exchange, Mpdu, session}
use Rattle.wf_def_world.specs.Exchanges.{mpdus_of}
use Rattle.wf_law_rules.proofs.Lemmas.Numbers.{either, eq_yes, yes_eq, and_true, both, or_left, or_right}
use Rattle.wf_law_runs.specs.Windows.{SomeOpen, IsSending}
use Rattle.wf_law_runs.proofs.Deficits.Openings.{many}
use Rattle.wf_law_runs.proofs.Windows.Opened.{Each}
use Rattle.wf_law_runs.proofs.Windows.Agreed.{IsLawful}
use Rattle.wf_law_runs.proofs.Unsettled.Counts.{tally, is_flying, flying_most, from_most}

-- An exchange sends at most so many frames, and has the class of its TID.
abbrev pub IsShort : ℕ → Exchange → Type 0
IsShort most x = (length (mpdus_of x.content) ≤ most) × (class_of x.tid ≡ x.class)

-- Returns the numbers that an exchange sends, if it is of this TID.
abbrev pub sends_of : ℕ → ℕ → Exchange → List ℕ
sends_of s t x = if (x.station == s) && (x.tid == t) then map (λ m. m.number) (mpdus_of x.content) else []

-- Returns the numbers that the exchanges of a TID send.
abbrev pub sent_of : ℕ → ℕ → List Exchange → List ℕ
sent_of s t [] = []
sent_of s t (x ∷ xs) = sends_of s t x ++ sent_of s t xs

has_left : (ks ls : List ℕ) (n : ℕ) → has ks n ≡ true → has (ks ++ ls) n ≡ true
has_left [] ls n h = absurd (cc h)
has_left (k ∷ ks) ls n h = elim (either (k == n) (has ks n) h) [
  | inl e ↦ or_left (k == n) (has (ks ++ ls) n) e
  | inr e ↦ or_right (k == n) (has (ks ++ ls) n) (has_left ks ls n e)
]

has_right : (ks ls : List ℕ) (n : ℕ) → has ls n ≡ true → has (ks ++ ls) n ≡ true
has_right [] ls n h = h
has_right (k ∷ ks) ls n h = or_right (k == n) (has (ks ++ ls) n) (has_right ks ls n h)

-- The number that an open exchange of the TID sends is among them.
among : (s t e n : ℕ) (xs : List Exchange) → SomeOpen (IsSending s t e n) xs → has (sent_of s t xs) n ≡ true
among s t e n [] k = absurd k
among s t e n (x ∷ xs) k = elim k [
  | inl h ↦ has_left (sends_of s t x) (sent_of s t xs) n
      (subst (λ (b : Bool). has (if b then map (λ m. m.number) (mpdus_of x.content) else []) n ≡ true)
      (sym (and_true (x.station == s) (x.tid == t) (yes_eq x.station s h.station) (yes_eq x.tid t h.tid)))
      h.among)
  | inr h ↦ has_right (sends_of s t x) (sent_of s t xs) n (among s t e n xs h)
]

length_map : (ms : List Mpdu) → length (map (λ (m : Mpdu). m.number) ms) ≡ length ms
length_map [] = refl
length_map (m ∷ ms) = ap suc (length_map ms)

-- An exchange sends no more than its part of what the class may send.
sends_few : (own of_class : Bool) (most : ℕ) (ms : List Mpdu) → (own ≡ true → of_class ≡ true) →
    length ms ≤ most →
    length (if own then map (λ (m : Mpdu). m.number) ms else []) ≤ (if of_class then 1 else 0) * most
sends_few true true most ms h k = omega (arith, k, length_map ms)
sends_few true false most ms h k = absurd (cc (h refl))
sends_few false true most ms h k = omega arith
sends_few false false most ms h k = omega arith

sums_few : (m k l a b most : ℕ) → m ≡ k + l → k ≤ a * most → l ≤ b * most → m ≤ (a + b) * most
sums_few m k l a b most e h i = omega (arith, e, h, i)

sent_few : (most s t : ℕ) (xs : List Exchange) → Each (IsShort most) xs →
    length (sent_of s t xs) ≤ many (class_of t) xs * most
sent_few most s t [] e = omega arith
sent_few most s t (x ∷ xs) e =
    let own : Bool = (x.station == s) && (x.tid == t) in
    let of_class : Bool = same_class x.class (class_of t) in
    sums_few (length (sends_of s t x ++ sent_of s t xs)) (length (sends_of s t x)) (length (sent_of s t xs))
    (if of_class then 1 else 0) (many (class_of t) xs) most (length-append (sends_of s t x) (sent_of s t xs))
    (sends_few own of_class most (mpdus_of x.content)
    (λ h. its_class (both (x.station == s) (x.tid == t) h).1) e.0.0)
    (sent_few most s t xs e.1)
  where
    its_class : (x.tid == t) ≡ true → same_class x.class (class_of t) ≡ true
    its_class h = yes_eq (class_number x.class) (class_number (class_of t))
        (ap class_number (sym e.0.1 ∙ ap class_of (eq_yes x.tid t h)))

flying_state : (st : State) → is_flying st ≡ true → (e : ℕ) × (st ≡ State.Flying e)
flying_state State.Waiting h = absurd (cc h)
flying_state (State.Flying e) h = (e, refl)
flying_state State.Acked h = absurd (cc h)
flying_state State.Failed h = absurd (cc h)

-- Each number on the air is sent by an open exchange.
flies_in : (w : World) (s t : ℕ) → IsLawful w → (i : ℕ) →
    is_flying (at no_slot (session w s t).slots i).state ≡ true →
    has (sent_of s t w.opened) ((session w s t).first + i) ≡ true
flies_in w s t l i h =
    let y : Session = session w s t in
    let n : ℕ = y.first + i in
    let place : n - y.first ≡ i = omega arith in
    let f : (e : ℕ) × ((at no_slot y.slots i).state ≡ State.Flying e) =
    flying_state (at no_slot y.slots i).state h in
    among s t f.0 n w.opened (l.sent s t refl n f.0 (omega arith)
    (ap (λ (k : ℕ). (at no_slot y.slots k).state) place ∙ f.1))

pub few_flying : (most : ℕ) (w : World) (s t : ℕ) → IsLawful w → Each (IsShort most) w.opened →
    tally is_flying (session w s t).slots ≤ many (class_of t) w.opened * most
few_flying most w s t l e =
    let y : Session = session w s t in
    let ks : List ℕ = sent_of s t w.opened in
    omega (
      arith,
      flying_most y.slots y.first ks (flies_in w s t l),
      from_most y.first ks,
      sent_few most s t w.opened e,
    )
