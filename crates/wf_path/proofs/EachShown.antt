-- Proves that the BlockAck by which a path ends an exchange shows exactly the numbers whose transmissions
-- were
-- acknowledged. By induction over the numbers, which rise.
use Rattle.std.proofs.Common.{◌≡◌, ◌≢◌, refl, ap, ap₂, sym, ◌∙◌, subst, arith, ℕ, zero, suc, ◌+◌, ◌-◌, ◌<◌, ◌≤◌, nat_lt, Bool, true, false, not, ◌&&◌, ◌||◌, if◌then◌else◌, List, [], ◌∷◌, length, cond, inl, inr, get_or, drop, Some, None}
use Rattle.std.specs.Prelude.{count_by, slice_get, slice_index_or}
use Rattle.std.specs.List.{list_all}
use Rattle.std.proofs.lemmas.Bool.{cases_eq}
use Rattle.std.proofs.lemmas.List.Sums.{sum_by-cons}
use Rattle.wf_def_lists.specs.Table.{at, has, with_member, upto, count_from}
use Rattle.wf_def_world.specs.World.{Mpdu}
use Rattle.wf_def_world.specs.Exchanges.{no_mpdu}
use Rattle.wf_law_rules.proofs.Lemmas.Numbers.{on_bool, has_new, has_other, has_one, yes_lt}
use Rattle.wf_law_runs.specs.Sent.{NumbersRise}
use Rattle.wf_law_runs.specs.Windows.{EachMpdu}
use Rattle.wf_law_driver.specs.Inferred.{shown_indices}
use Rattle.wf_octets.specs.Distance.{distance}
use Rattle.wf_send_parts.specs.declared.exchanges.opened.Sending.{Sending}
use Rattle.wf_send_parts.specs.declared.exchanges.opened.Sending.TheVariants.{Data, Request}
use Rattle.wf_send_parts.specs.Window.{on_air}
use Rattle.wf_send_half.specs.Bits.{without_unsent}
use Rattle.wf_send_half_model.specs.Standing.{numbers_on_air}
use Rattle.wf_path.specs.Each.{is_outcome_acked, indices_acked, some_acked}
use Rattle.wf_path.specs.Heard.{offsets_acked, score_of, heard_of, AreNumbersNear, IsNarrow}
use Rattle.wf_path.specs.declared.each.Outcome.{Outcome}

-- ---- offsets

-- these numbers are at most 4095 past the first one, and not below it
abbrev pub AreFrom : ℕ → ℕ → List Mpdu → Type 0
AreFrom first span ms = EachMpdu (λ m. (first ≤ m.number) × (m.number < first + span)) ms

-- the distance of two numbers on the air is their difference
pub offset_is : (n first : ℕ) → first ≤ n → n < first + 4096 → distance (on_air n) (on_air first) ≡ n - first
offset_is n first from near = omega arith

-- the same for a number that does not wrap
pub offset_of : (n first : ℕ) → first ≤ n → n < first + 4096 → distance n (on_air first) ≡ n - first
offset_of n first from near = omega arith

-- each of these transmissions is shown exactly if it was acknowledged
abbrev pub AreShownBy : (ℕ → Bool) → List Mpdu → List Outcome → Type 0
AreShownBy p [] outcomes = Unit {0}
AreShownBy p (m ∷ ms) [] = Unit {0}
AreShownBy p (m ∷ ms) (outcome ∷ outcomes) = (p m.number ≡ is_outcome_acked outcome) ×
    AreShownBy p ms outcomes

-- an offset below all later ones stays as it is
earlier_stays : (first k lo : ℕ) (offsets : List ℕ) (ms : List Mpdu) (outcomes : List Outcome) →
    AreFrom first 4096 ms → NumbersRise lo ms → first + k < lo →
    has (offsets_acked (on_air first) offsets (numbers_on_air ms) outcomes) k ≡ has offsets k
earlier_stays first k lo offsets [] outcomes near rises low = refl
earlier_stays first k lo offsets (m ∷ ms) [] near rises low = refl
earlier_stays first k lo offsets (m ∷ ms) (outcome ∷ outcomes) near rises low =
    let d : ℕ = distance (on_air m.number) (on_air first) in
    let is : d ≡ m.number - first = offset_is m.number first near.0.0 near.0.1 in
    let other : d ≢ k = λ e. absurd (omega (arith, is, e, low, rises.0, near.0.0)) in
    earlier_stays first k (suc m.number) (if is_outcome_acked outcome then with_member d offsets else
    offsets) ms outcomes
    near.1 rises.1 (omega (arith, low, rises.0))
    ∙ either (is_outcome_acked outcome) d other
  where
    either : (b : Bool) (d : ℕ) → d ≢ k → has (if b then with_member d offsets else offsets) k ≡ has offsets k
    either true d other = has_other offsets d k other
    either false d other = refl

-- the offsets that are kept are below those of the later numbers
abbrev AreBelow : ℕ → ℕ → List ℕ → Type 0
AreBelow first lo offsets = (k : ℕ) → has offsets k ≡ true → first + k < lo

shown_from : (first lo : ℕ) (offsets : List ℕ) (ms : List Mpdu) (outcomes : List Outcome) →
    AreFrom first 4096 ms → NumbersRise lo ms → AreBelow first lo offsets →
    AreShownBy (λ n. has (offsets_acked (on_air first) offsets (numbers_on_air ms) outcomes) (n - first)) ms
    outcomes
shown_from first lo offsets [] outcomes near rises below = tt
shown_from first lo offsets (m ∷ ms) [] near rises below = tt
shown_from first lo offsets (m ∷ ms) (outcome ∷ outcomes) near rises below =
    let d : ℕ = distance (on_air m.number) (on_air first) in
    let k : ℕ = m.number - first in
    let is : d ≡ k = offset_is m.number first near.0.0 near.0.1 in
    let more : List ℕ = (if is_outcome_acked outcome then with_member d offsets else offsets) in (
      earlier_stays first k (suc m.number) more ms outcomes near.1 rises.1 (omega (arith, near.0.0))
          ∙ ap (λ (j : ℕ). has (if is_outcome_acked outcome then with_member j offsets else offsets) k) is
          ∙ here (is_outcome_acked outcome) k (fresh k (omega (arith, near.0.0))),
      shown_from first (suc m.number) more ms outcomes near.1 rises.1
          (later (is_outcome_acked outcome) d (omega (arith, is, near.0.0))),
    )
  where
    fresh : (k : ℕ) → first + k ≡ m.number → has offsets k ≡ false
    fresh k same = on_bool (has offsets k) (λ e. absurd (omega (arith, below k e, rises.0, same))) (λ e. e)

    here : (b : Bool) (k : ℕ) → has offsets k ≡ false →
        has (if b then with_member k offsets else offsets) k ≡ b
    here true k none = has_new offsets k
    here false k none = none

    later : (b : Bool) (d : ℕ) → first + d ≡ m.number →
        AreBelow first (suc m.number) (if b then with_member d offsets else offsets)
    later true d same k e = elim (has_one offsets d k e) [
      | inl new ↦ omega (arith, new, same)
      | inr old ↦ omega (arith, below k old, rises.0)
    ]
    later false d same k e = omega (arith, below k e, rises.0)

-- from the first number on
pub shown_offsets : (first lo : ℕ) (ms : List Mpdu) (outcomes : List Outcome) → AreFrom first 4096 ms →
    NumbersRise lo ms →
    AreShownBy (λ n. has (offsets_acked (on_air first) [] (numbers_on_air ms) outcomes) (n - first)) ms
    outcomes
shown_offsets first lo ms outcomes near rises = shown_from first lo [] ms outcomes near rises
    (λ k e. absurd (cc e))

-- tests that agree on these numbers
pub shown_alike : (p q : ℕ → Bool) (ms : List Mpdu) (outcomes : List Outcome) →
    EachMpdu (λ m. q m.number ≡ p m.number) ms → AreShownBy p ms outcomes → AreShownBy q ms outcomes
shown_alike p q [] outcomes same h = tt
shown_alike p q (m ∷ ms) [] same h = tt
shown_alike p q (m ∷ ms) (outcome ∷ outcomes) same h =
    (same.0 ∙ h.0, shown_alike p q ms outcomes same.1 h.1)

-- none is shown if none was acknowledged
pub none_shown_by : (p : ℕ → Bool) (ms : List Mpdu) (outcomes : List Outcome) → ((n : ℕ) → p n ≡ false) →
    some_acked outcomes ≡ false → AreShownBy p ms outcomes
none_shown_by p [] outcomes none off = tt
none_shown_by p (m ∷ ms) [] none off = tt
none_shown_by p (m ∷ ms) (outcome ∷ outcomes) none off =
    let both = no_parts (is_outcome_acked outcome) (some_acked outcomes) off in
    (none m.number ∙ sym both.0, none_shown_by p ms outcomes none both.1)
  where
    no_parts : (a b : Bool) → (a || b) ≡ false → (a ≡ false) × (b ≡ false)
    no_parts true b h = absurd (cc h)
    no_parts false b h = (refl, h)

-- ---- what went on the air

-- no transmission that was acknowledged is among those that never went on the air; i is the index of the
-- first outcome
abbrev pub AckedSent : List ℕ → ℕ → List Outcome → Type 0
AckedSent unsent i [] = Unit {0}
AckedSent unsent i (outcome ∷ outcomes) =
    (is_outcome_acked outcome ≡ true → has unsent i ≡ false) × AckedSent unsent (suc i) outcomes

-- then the BlockAck is believed in all that it shows
pub shown_believed : (p : ℕ → Bool) (out unsent : List ℕ) (i : ℕ) (ms : List Mpdu) (outcomes : List Outcome) →
    ((j : ℕ) → j < length ms → has out (at no_mpdu ms j).number ≡ has unsent (i + j)) →
    AckedSent unsent i outcomes → AreShownBy p ms outcomes →
    AreShownBy (λ n. p n && not (has out n)) ms outcomes
shown_believed p out unsent i [] outcomes same sent h = tt
shown_believed p out unsent i (m ∷ ms) [] same sent h = tt
shown_believed p out unsent i (m ∷ ms) (outcome ∷ outcomes) same sent h =
    let at_i : i + 0 ≡ i = omega arith in (
      ap₂ (λ (a b : Bool). a && not b) h.0 (same 0 (omega arith) ∙ ap (has unsent) at_i)
          ∙ kept (is_outcome_acked outcome) (has unsent i) sent.0,
      shown_believed p out unsent (suc i) ms outcomes (λ j low.
          let next : i + suc j ≡ suc i + j = omega arith in
          same (suc j) (omega (arith, low)) ∙ ap (has unsent) next) sent.1 h.1,
    )
  where
    kept : (a b : Bool) → (a ≡ true → b ≡ false) → (a && not b) ≡ a
    kept true b h = ap not (h refl)
    kept false b h = refl

-- the indices of the numbers that are shown equal those of the acknowledged transmissions
pub indices_shown : (p : ℕ → Bool) (i : ℕ) (ms : List Mpdu) (outcomes : List Outcome) →
    length outcomes ≡ length ms → AreShownBy p ms outcomes → shown_indices p i ms ≡ indices_acked i outcomes
indices_shown p i [] [] long h = refl
indices_shown p i [] (outcome ∷ outcomes) long h = absurd (omega (arith, long))
indices_shown p i (m ∷ ms) [] long h = absurd (omega (arith, long))
indices_shown p i (m ∷ ms) (outcome ∷ outcomes) long h =
    ap₂ (λ (b : Bool) (rest : List ℕ). if b then i ∷ rest else rest) h.0
    (indices_shown p (suc i) ms outcomes (omega (arith, long)) h.1)

-- there are some exactly if any transmission was acknowledged
pub some_indices : (i : ℕ) (outcomes : List Outcome) → nat_lt 0 (length (indices_acked i outcomes))
    ≡ some_acked outcomes
some_indices i [] = refl
some_indices i (outcome ∷ outcomes) = either (is_outcome_acked outcome) (some_indices (suc i) outcomes)
  where
    either : (b : Bool) → nat_lt 0 (length (indices_acked (suc i) outcomes)) ≡ some_acked outcomes →
        nat_lt 0 (length (if b then i ∷ indices_acked (suc i) outcomes else indices_acked (suc i) outcomes))
        ≡ (b || some_acked outcomes)
    either true h = yes_lt 0 (suc (length (indices_acked (suc i) outcomes))) (omega arith)
    either false h = h

pub no_indices : (i : ℕ) (outcomes : List Outcome) → some_acked outcomes ≡ false → indices_acked i outcomes ≡
    []
no_indices i outcomes off = empty (indices_acked i outcomes) (some_indices i outcomes ∙ off)
  where
    empty : (xs : List ℕ) → nat_lt 0 (length xs) ≡ false → xs ≡ []
    empty [] h = refl
    empty (x ∷ xs) h = absurd (cc (h, yes_lt 0 (length (x ∷ xs)) (omega arith)))

-- ---- an acknowledged transmission went on the air

all_from : (p : ℕ → Bool) (lo n i : ℕ) → lo ≤ i → i < lo + n → p i ≡ false → list_all p (count_from lo n) ≡
    false
all_from p lo zero i from below off = absurd (omega (arith, from, below))
all_from p lo (suc n) i from below off = elim (cases_eq lo i) [
  | inl same ↦ ap (λ (b : Bool). b && list_all p (count_from (suc lo) n)) (ap p same ∙ off)
  | inr other ↦ later (p lo) (all_from p (suc lo) n i (omega (arith, from, other)) (omega (arith, below)) off)
]
  where
    later : (b : Bool) → list_all p (count_from (suc lo) n) ≡ false →
        (b && list_all p (count_from (suc lo) n)) ≡ false
    later true h = h
    later false h = refl

record SomeSent (unsent : List ℕ) (i n : ℕ) : Type 0 where
  index : ℕ
  from : i ≤ index
  below : index < i + n
  sent : has unsent index ≡ false

some_sent : (unsent : List ℕ) (i : ℕ) (outcomes : List Outcome) → AckedSent unsent i outcomes →
    some_acked outcomes ≡ true → SomeSent unsent i (length outcomes)
some_sent unsent i [] sent on = absurd (cc on)
some_sent unsent i (outcome ∷ outcomes) sent on =
    either (is_outcome_acked outcome) refl on (some_sent unsent (suc i) outcomes sent.1)
  where
    either : (b : Bool) → is_outcome_acked outcome ≡ b → (b || some_acked outcomes) ≡ true →
        (some_acked outcomes ≡ true → SomeSent unsent (suc i) (length outcomes)) →
        SomeSent unsent i (suc (length outcomes))
    either true is on later = record { index = i; from = omega arith; below = omega arith; sent = sent.0 is }
    either false is on later =
        let s : SomeSent unsent (suc i) (length outcomes) = later on in
        record {
          index = s.index;
          from = omega (arith, s.from);
          below = omega (arith, s.below);
          sent = s.sent;
        }

pub not_wholly : (unsent : List ℕ) (outcomes : List Outcome) → AckedSent unsent 0 outcomes →
    some_acked outcomes ≡ true → list_all (has unsent) (upto (length outcomes)) ≡ false
not_wholly unsent outcomes sent on =
    let s : SomeSent unsent 0 (length outcomes) = some_sent unsent 0 outcomes sent on in
    all_from (has unsent) 0 (length outcomes) s.index s.from s.below s.sent

-- ---- counts

pub count_acked_is : (p q : ℕ → Bool) (unsent : List ℕ) (i : ℕ) (ms : List Mpdu) (outcomes : List Outcome) →
    length outcomes ≡ length ms → ((n : ℕ) → p (on_air n) ≡ q n) → AckedSent unsent i outcomes →
    AreShownBy q ms outcomes →
    count_by p (without_unsent i unsent (numbers_on_air ms)) ≡ length (indices_acked i outcomes)
count_acked_is p q unsent i [] [] long same sent h = refl
count_acked_is p q unsent i [] (outcome ∷ outcomes) long same sent h = absurd (omega (arith, long))
count_acked_is p q unsent i (m ∷ ms) [] long same sent h = absurd (omega (arith, long))
count_acked_is p q unsent i (m ∷ ms) (outcome ∷ outcomes) long same sent h =
    either (has unsent i) refl (is_outcome_acked outcome) refl
    (count_acked_is p q unsent (suc i) ms outcomes (omega (arith, long)) same sent.1 h.1)
  where
    rest : List ℕ
    rest = without_unsent (suc i) unsent (numbers_on_air ms)

    is : p (on_air m.number) ≡ is_outcome_acked outcome
    is = same m.number ∙ h.0

    one_more : (b : Bool) → is_outcome_acked outcome ≡ b → count_by p (on_air m.number ∷ rest)
        ≡ cond b 1 0 + count_by p rest
    one_more b on = sum_by-cons (λ n. cond (p n) 1 0) (on_air m.number) rest
        ∙ ap (λ (c : Bool). cond c 1 0 + count_by p rest) (is ∙ on)

    either : (a : Bool) → has unsent i ≡ a → (b : Bool) → is_outcome_acked outcome ≡ b →
        count_by p rest ≡ length (indices_acked (suc i) outcomes) →
        count_by p (if a then rest else on_air m.number ∷ rest)
        ≡ length (if b then i ∷ indices_acked (suc i) outcomes else indices_acked (suc i) outcomes)
    either true out true on later = absurd (cc (out, sent.0 on))
    either true out false on later = later
    either false out true on later = omega (arith, one_more true on, later)
    either false out false on later = omega (arith, one_more false on, later)

-- ---- which numbers are acknowledged

pub near_by : (first : ℕ) (ms : List Mpdu) → AreFrom first 256 ms → AreNumbersNear (on_air first)
    (numbers_on_air ms)
near_by first [] h k d low = absurd (omega (arith, low))
near_by first (m ∷ ms) h zero d low =
    omega (arith, offset_is m.number first h.0.0 (omega (arith, h.0.1)), h.0.0, h.0.1)
near_by first (m ∷ ms) h (suc k) d low = near_by first ms h.1 k d (omega (arith, low))

pub less_span : (first span more : ℕ) (ms : List Mpdu) → span ≤ more → AreFrom first span ms →
    AreFrom first more ms
less_span first span more [] least h = tt
less_span first span more (m ∷ ms) least h =
    ((h.0.0, omega (arith, least, h.0.1)), less_span first span more ms least h.1)

-- ---- the loop that makes the BlockAck

offsets_then : (first : ℕ) (offsets numbers : List ℕ) (outcomes : List Outcome) (i n : ℕ) (o d : Outcome) →
    slice_get numbers i ≡ Some n → i < length outcomes → o ≡ get_or outcomes i d →
    offsets_acked first offsets (drop i numbers) (drop i outcomes)
    ≡ offsets_acked first (if is_outcome_acked o then with_member (distance n first) offsets else offsets)
    (drop (suc i) numbers) (drop (suc i) outcomes)
offsets_then first offsets [] outcomes i n o d at low is = absurd (cc at)
offsets_then first offsets (k ∷ numbers) [] i n o d at low is = absurd (omega (arith, low))
offsets_then first offsets (k ∷ numbers) (outcome ∷ outcomes) zero n o d at low is =
    let same : k ≡ n = cc at in
    ap₂ (λ (a : Outcome) (b : ℕ). offsets_acked first
    (if is_outcome_acked a then with_member (distance b first) offsets else offsets) numbers outcomes)
    (sym is) same
offsets_then first offsets (k ∷ numbers) (outcome ∷ outcomes) (suc i) n o d at low is =
    offsets_then first offsets numbers outcomes i n o d at (omega (arith, low)) is

-- one more number
pub offsets_next : (first : ℕ) (offsets more numbers : List ℕ) (outcomes : List Outcome) (i n : ℕ)
    (o d : Outcome) (k : ℕ) → slice_get numbers i ≡ Some n → i < length outcomes → o ≡ get_or outcomes i d →
    k ≡ distance n first → more ≡ (if is_outcome_acked o then with_member k offsets else offsets) →
    offsets_acked first more (drop (i + 1) numbers) (drop (i + 1) outcomes)
    ≡ offsets_acked first offsets (drop i numbers) (drop i outcomes)
offsets_next first offsets more numbers outcomes i n o d k at low is far new =
    let next : i + 1 ≡ suc i = omega arith in
    ap (λ (j : ℕ). offsets_acked first more (drop j numbers) (drop j outcomes)) next
    ∙ ap (λ (l : List ℕ). offsets_acked first l (drop (suc i) numbers) (drop (suc i) outcomes))
    (new ∙ ap (λ (j : ℕ). if is_outcome_acked o then with_member j offsets else offsets) far)
    ∙ sym (offsets_then first offsets numbers outcomes i n o d at low is)

-- after the last one
pub offsets_end : (first : ℕ) (offsets numbers : List ℕ) (outcomes : List Outcome) (i : ℕ) →
    length numbers ≤ i →
    offsets_acked first offsets (drop i numbers) outcomes ≡ offsets
offsets_end first offsets [] outcomes zero past = refl
offsets_end first offsets [] outcomes (suc i) past = refl
offsets_end first offsets (n ∷ numbers) outcomes zero past = absurd (omega (arith, past))
offsets_end first offsets (n ∷ numbers) outcomes (suc i) past =
    offsets_end first offsets numbers outcomes i (omega (arith, past))

-- each number is near the first one
pub near_at : (first : ℕ) (numbers : List ℕ) (i n : ℕ) → AreNumbersNear first numbers → slice_get numbers i ≡
    Some n →
    i < length numbers → distance n first < 256
near_at first numbers i n near at low =
    subst (λ (k : ℕ). distance k first < 256) (got numbers i n at) (near i n low)
  where
    got : (xs : List ℕ) (i n : ℕ) → slice_get xs i ≡ Some n → slice_index_or xs i n ≡ n
    got [] i n at = absurd (cc at)
    got (x ∷ xs) zero n at = cc at
    got (x ∷ xs) (suc i) n at = got xs i n at

-- the BlockAck of an aggregate starts at its first number
pub score_is : (numbers : List ℕ) (outcomes : List Outcome) (first : ℕ) → slice_get numbers 0 ≡ Some first →
    score_of (Data numbers) outcomes ≡ (first, offsets_acked first [] numbers outcomes)
score_is [] outcomes first at = absurd (cc at)
score_is (n ∷ numbers) outcomes first at =
    let same : n ≡ first = cc at in
    ap (λ (k : ℕ). (k, offsets_acked k [] (n ∷ numbers) outcomes)) same

pub near_first : (numbers : List ℕ) (first : ℕ) → slice_get numbers 0 ≡ Some first → IsNarrow (Data numbers) →
    AreNumbersNear first numbers
near_first [] first at h = absurd (cc at)
near_first (n ∷ numbers) first at h =
    let same : n ≡ first = cc at in subst (λ (k : ℕ). AreNumbersNear k (n ∷ numbers)) same h

-- if any transmission was acknowledged, there is one
pub some_there : (outcomes : List Outcome) → some_acked outcomes ≡ true → 0 < length outcomes
some_there [] on = absurd (cc on)
some_there (outcome ∷ outcomes) on = omega arith

-- ---- the BlockAck of an exchange

-- nothing was acknowledged
pub heard_nothing : (sending : Sending) (outcomes : List Outcome) → false ≡ some_acked outcomes →
    None ≡ heard_of sending outcomes
heard_nothing sending outcomes off =
    ap (λ (b : Bool). if b then Some (score_of sending outcomes) else None) off

module _ (sending : Sending) (outcomes : List Outcome) (on : true ≡ some_acked outcomes) where
  shows_score : Some (score_of sending outcomes) ≡ heard_of sending outcomes
  shows_score = ap (λ (b : Bool). if b then Some (score_of sending outcomes) else None) on

  pub heard_data : (numbers : List ℕ) (first : ℕ) (offsets : List ℕ) → sending ≡ Data numbers →
      slice_get numbers 0 ≡ Some first → offsets ≡ offsets_acked first [] numbers outcomes →
      Some (first, offsets) ≡ heard_of sending outcomes
  heard_data numbers first offsets is at same =
      ap (λ (l : List ℕ). Some (first, l)) same
      ∙ ap (λ (s : ℕ × List ℕ). Some s) (sym (score_is numbers outcomes first at))
      ∙ ap (λ (s : Sending). Some (score_of s outcomes)) (sym is) ∙ shows_score

  pub heard_request : (start : ℕ) (offsets : List ℕ) → sending ≡ Request start → offsets ≡ [] →
      Some (start, offsets) ≡ heard_of sending outcomes
  heard_request start offsets is same =
      ap (λ (l : List ℕ). Some (start, l)) same
      ∙ ap (λ (s : Sending). Some (score_of s outcomes)) (sym is) ∙ shows_score
