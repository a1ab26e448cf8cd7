-- Proves that the BlockAck by which a batch ends shows exactly those of its numbers that arrived. By
-- induction over the numbers, which rise.
use Rattle.std.proofs.Common.{◌≡◌, ◌≢◌, refl, ap, ap₂, sym, ◌∙◌, subst, arith, ℕ, zero, suc, ◌+◌, ◌-◌, ◌<◌, ◌≤◌, ◌==◌, nat_lt, Bool, true, false, ◌&&◌, ◌||◌, if◌then◌else◌, inl, inr, List, [], ◌∷◌, length, map, Option, Some, None}
use Rattle.std.specs.Prelude.{find, option_map}
use Rattle.std.proofs.lemmas.Bool.{cases_lt}
use Rattle.wf_frame.specs.Frames.{FrameValue}
use Rattle.wf_def_lists.specs.Table.{at, has, with_member}
use Rattle.wf_def_agreement.specs.Session.{Session, State, is_settled, next_number, start_of}
use Rattle.wf_def_world.specs.World.{World, Exchange, Mpdu, Content, Frames, Request, session, exchange, is_wide}
use Rattle.wf_def_world.specs.CanSend.{is_request}
use Rattle.wf_def_world.specs.Exchanges.{no_mpdu, number_at, numbers_arrived, numbers_unsent, mpdus_of, transmissions}
use Rattle.wf_law_rules.proofs.Lemmas.Numbers.{on_bool, eq_yes, yes_eq, not_eq, or_left, or_right, has_new, has_other, has_one, yes_lt}
use Rattle.wf_law_runs.specs.Sent.{NumbersRise}
use Rattle.wf_law_runs.specs.Windows.{EachMpdu}
use Rattle.wf_law_runs.proofs.Windows.Agreement.{unsettled_ge}
use Rattle.wf_law_runs.proofs.Windows.Opened.{FlyIn}
use Rattle.wf_law_runs.proofs.Windows.Agreed.{all_at, rises_at}
use Rattle.wf_octets.specs.Distance.{distance}
use Rattle.wf_send_parts.specs.Window.{on_air}
use Rattle.wf_send_parts.specs.declared.exchanges.opened.Open.{Open}
use Rattle.wf_send_half.specs.Bits.{span_of, is_shown, AreArrived}
use Rattle.wf_send_half_model.specs.Half.{TransmitValue}
use Rattle.wf_send_half_model.specs.Standing.{StandsFor, IsReached, numbers_on_air, open_of, sending_of}
use Rattle.wf_send_half_model.proofs.FitMarks.{marks_fit}
use Rattle.wf_send_half_model.proofs.Readers.{exchange_same}
use Rattle.wf_cell_model.proofs.Sent.{open_now, sent_now, windows_now, tid_now}
use Rattle.wf_cell_model.proofs.Shown.{sized_now, spans}
use Rattle.wf_path.specs.Heard.{offsets_at, score_at, shown_at}

-- the number of transmission k
abbrev number_of : List Mpdu → ℕ → ℕ
number_of ms k = (at no_mpdu ms k).number

-- ---- the numbers of some transmissions

later_least : (lo : ℕ) (ms : List Mpdu) (k : ℕ) → NumbersRise lo ms → k < length ms → lo ≤ number_of ms k
later_least lo [] k rises low = absurd (omega (arith, low))
later_least lo (m ∷ ms) zero rises low = rises.0
later_least lo (m ∷ ms) (suc k) rises low =
    omega (arith, rises.0, later_least (suc m.number) ms k rises.1 (omega (arith, low)))

numbers_differ : (lo : ℕ) (ms : List Mpdu) (j k : ℕ) → NumbersRise lo ms → j < k → k < length ms →
    number_of ms j < number_of ms k
numbers_differ lo [] j k rises less low = absurd (omega (arith, low))
numbers_differ lo (m ∷ ms) j zero rises less low = absurd (omega (arith, less))
numbers_differ lo (m ∷ ms) zero (suc k) rises less low =
    omega (arith, later_least (suc m.number) ms k rises.1 (omega (arith, low)))
numbers_differ lo (m ∷ ms) (suc j) (suc k) rises less low =
    numbers_differ (suc m.number) ms j k rises.1 (omega (arith, less)) (omega (arith, low))

-- the first number is the least
first_least : (lo : ℕ) (ms : List Mpdu) (k : ℕ) → NumbersRise lo ms → k < length ms →
    number_of ms 0 ≤ number_of ms k
first_least lo ms zero rises low = omega arith
first_least lo ms (suc k) rises low = omega (arith, numbers_differ lo ms 0 (suc k) rises (omega arith) low)

other_number : (lo : ℕ) (ms : List Mpdu) (j k : ℕ) → NumbersRise lo ms → j < length ms → k < length ms →
    j ≢ k → number_of ms j ≢ number_of ms k
other_number lo ms j k rises low_j low_k other same = elim (cases_lt j k) [
  | inl less ↦ absurd (omega (arith, numbers_differ lo ms j k rises less low_k, same))
  | inr most ↦
      absurd (omega (arith, numbers_differ lo ms k j rises (omega (arith, most, other)) low_j, same))
]

-- the number of transmission k is among those of the transmissions with these indices if k is an index
number_among : (lo : ℕ) (ms : List Mpdu) (indices : List ℕ) (k : ℕ) → NumbersRise lo ms → k < length ms →
    ((j : ℕ) → has indices j ≡ true → j < length ms) →
    has (map (number_at (Frames ms)) indices) (number_of ms k) ≡ has indices k
number_among lo ms [] k rises low within = refl
number_among lo ms (j ∷ indices) k rises low within =
    ap₂ (λ (a b : Bool). a || b)
    (on_bool (j == k)
    (λ same. yes_eq (number_of ms j) (number_of ms k) (ap (number_of ms) (eq_yes j k same)) ∙ sym same)
    (λ apart. not_eq (number_of ms j) (number_of ms k) (other_number lo ms j k rises
    (within j (or_left (j == j) (has indices j) (yes_eq j j refl))) low
    (λ e. cc (apart, yes_eq j k e))) ∙ sym apart))
    (number_among lo ms indices k rises low
    (λ n there. within n (or_right (j == n) (has indices n) there)))

-- ---- the offsets of the BlockAck

-- the distance of two numbers on the air is their difference
far_is : (n first : ℕ) → first ≤ n → n < first + 4096 → distance (on_air n) (on_air first) ≡ n - first
far_is n first from near = omega arith

-- the same for a number that does not wrap
far_of : (n first : ℕ) → first ≤ n → n < first + 4096 → distance n (on_air first) ≡ n - first
far_of n first from near = omega arith

-- these numbers are at least the first one, and less than 4096 past it
abbrev AreFrom : ℕ → List Mpdu → Type 0
AreFrom first ms = (k : ℕ) → k < length ms → (first ≤ number_of ms k) × (number_of ms k < first + 4096)

-- the offsets are below those of the later numbers
abbrev AreBelow : ℕ → ℕ → List ℕ → Type 0
AreBelow first lo offsets = (d : ℕ) → has offsets d ≡ true → first + d < lo

-- the offsets after the number of a transmission whose index is given or not
offsets_with : Bool → ℕ → List ℕ → List ℕ
offsets_with b d offsets = if b then with_member d offsets else offsets

with_below : (b : Bool) (first lo d n : ℕ) (offsets : List ℕ) → AreBelow first lo offsets → first + d ≡ n →
    lo ≤ n → AreBelow first (suc n) (offsets_with b d offsets)
unfolding offsets_with
with_below true first lo d n offsets below same least k there = elim (has_one offsets d k there) [
  | inl new ↦ omega (arith, new, same)
  | inr old ↦ omega (arith, below k old, least)
]
with_below false first lo d n offsets below same least k there = omega (arith, below k there, least)

with_own : (b : Bool) (first lo d : ℕ) (offsets : List ℕ) → AreBelow first lo offsets → lo ≤ first + d →
    has (offsets_with b d offsets) d ≡ b
unfolding offsets_with
with_own true first lo d offsets below least = has_new offsets d
with_own false first lo d offsets below least =
    on_bool (has offsets d) (λ there. absurd (omega (arith, below d there, least))) (λ h. h)

with_others : (b : Bool) (d k : ℕ) (offsets : List ℕ) → d ≢ k →
    has (offsets_with b d offsets) k ≡ has offsets k
unfolding offsets_with
with_others true d k offsets other = has_other offsets d k other
with_others false d k offsets other = refl

module _ (first : ℕ) (indices : List ℕ) where
  -- the offsets after these numbers, of which i is the index of the first one
  after_all : List ℕ → ℕ → List Mpdu → List ℕ
  after_all offsets i ms = offsets_at (on_air first) offsets i (numbers_on_air ms) indices

  after_one : (offsets : List ℕ) (i : ℕ) (m : Mpdu) (ms : List Mpdu) → first ≤ m.number →
      m.number < first + 4096 → after_all offsets i (m ∷ ms)
      ≡ after_all (offsets_with (has indices i) (m.number - first) offsets) (suc i) ms
  unfolding after_all offsets_with
  after_one offsets i m ms from near = ap (λ (d : ℕ). offsets_at (on_air first)
      (if has indices i then with_member d offsets else offsets) (suc i) (numbers_on_air ms) indices)
      (far_is m.number first from near)

  -- an offset below those of all later numbers stays
  earlier_stays : (d lo : ℕ) (offsets : List ℕ) (i : ℕ) (ms : List Mpdu) → AreFrom first ms →
      NumbersRise lo ms → first + d < lo → has (after_all offsets i ms) d ≡ has offsets d
  unfolding after_all
  earlier_stays d lo offsets i [] near rises low = refl
  earlier_stays d lo offsets i (m ∷ ms) near rises low =
      let here = near 0 (omega arith) in
      ap (λ (l : List ℕ). has l d) (after_one offsets i m ms here.0 here.1)
      ∙ earlier_stays d (suc m.number) (offsets_with (has indices i) (m.number - first) offsets) (suc i) ms
      (λ k below. near (suc k) (omega (arith, below))) rises.1 (omega (arith, low, rises.0))
      ∙ with_others (has indices i) (m.number - first) d offsets
      (λ e. absurd (omega (arith, e, low, rises.0, here.0)))

  -- the offset of a number is there if its index is given
  offset_there : (lo : ℕ) (offsets : List ℕ) (i : ℕ) (ms : List Mpdu) (k : ℕ) → AreFrom first ms →
      NumbersRise lo ms → AreBelow first lo offsets → k < length ms →
      has (after_all offsets i ms) (number_of ms k - first) ≡ has indices (i + k)
  offset_there lo offsets i [] k near rises below low = absurd (omega (arith, low))
  offset_there lo offsets i (m ∷ ms) zero near rises below low =
      let here = near 0 (omega arith) in
      let d : ℕ = m.number - first in
      let at_i : i ≡ i + 0 = omega arith in
      ap (λ (l : List ℕ). has l d) (after_one offsets i m ms here.0 here.1)
      ∙ earlier_stays d (suc m.number) (offsets_with (has indices i) d offsets) (suc i) ms
      (λ j less. near (suc j) (omega (arith, less))) rises.1 (omega (arith, here.0))
      ∙ with_own (has indices i) first lo d offsets below (omega (arith, here.0, rises.0))
      ∙ ap (has indices) at_i
  offset_there lo offsets i (m ∷ ms) (suc k) near rises below low =
      let here = near 0 (omega arith) in
      let d : ℕ = m.number - first in
      let next : suc i + k ≡ i + suc k = omega arith in
      ap (λ (l : List ℕ). has l (number_of ms k - first)) (after_one offsets i m ms here.0 here.1)
      ∙ offset_there (suc m.number) (offsets_with (has indices i) d offsets) (suc i) ms k
      (λ j less. near (suc j) (omega (arith, less))) rises.1
      (with_below (has indices i) first lo d m.number offsets below (omega (arith, here.0)) rises.0)
      (omega (arith, low))
      ∙ ap (has indices) next

-- ---- a batch

each_of : (P : Mpdu → Type 0) (ms : List Mpdu) → ((k : ℕ) → k < length ms → P (at no_mpdu ms k)) →
    EachMpdu P ms
each_of P [] h = tt
each_of P (m ∷ ms) h = (h 0 (omega arith), each_of P ms (λ k low. h (suc k) (omega (arith, low))))

-- one number, by the offsets of the BlockAck
shown_by : (size n first : ℕ) (offsets : List ℕ) (there : Bool) → size ≤ 256 → first ≤ n →
    n < first + size → has offsets (n - first) ≡ there →
    is_shown (nat_lt 64 size) (Some (on_air first, offsets)) n ≡ there
shown_by size n first offsets there most from near is =
    let far : distance n (on_air first) ≡ n - first = far_of n first from (omega (arith, near, most)) in
    ap (λ (d : ℕ). nat_lt d (span_of (nat_lt 64 size)) && has offsets d) far
    ∙ (ap (λ (b : Bool). b && has offsets (n - first))
    (yes_lt (n - first) (span_of (nat_lt 64 size)) (spans size (n - first) most (omega (arith, from, near))))
    ∙ is)

module _ (w : World) (r : IsReached w) (e : ℕ) (x : Exchange) (known : exchange w e ≡ Some x)
    (ms : List Mpdu) (is : x.content ≡ Frames ms) where
  abbrev y : Session
  y = session w x.station x.tid

  rises : NumbersRise y.first ms
  rises = subst (λ (c : Content). NumbersRise (session w x.station x.tid).first (mpdus_of c)) is
      (sent_now w r e x known).rising

  -- each number is in the window
  in_window : (k : ℕ) → k < length ms →
      (start_of y ≤ number_of ms k) × (number_of ms k < start_of y + y.size)
  in_window k low =
      let z : Session = session w x.station x.tid in
      let flies = subst (λ (c : Content). FlyIn x.number (mpdus_of c) z) is
      (open_now w r e x known).opened.flies in
      let range = rises_at z.first (next_number z) ms k low flies.rising in
      let near = (windows_now w r).near x.station x.tid in (
        unsettled_ge z (number_of ms k) range.0
            (ap is_settled (all_at z (State.Flying x.number) ms k low flies.flying)),
        omega (arith, range.1, near.next_start),
      )

  size_most : y.size ≤ 256
  size_most = (sized_now w r x (tid_now w r e x known) (open_now w r e x known).live).1

  arrived_at : (k : ℕ) → k < length ms → has (numbers_arrived x) (number_of ms k) ≡ has x.arrived k
  arrived_at k low =
      ap (λ (c : Content). has (map (number_at c) x.arrived) (number_of ms k)) is
      ∙ number_among y.first ms x.arrived k rises low
      (λ j there. subst (λ (c : Content). j < transmissions c) is ((marks_fit w r e x known).arrived j there))

  -- by the BlockAck that shows some
  shown_some : (k : ℕ) → k < length ms → (all : List Mpdu) → all ≡ ms →
      is_shown (is_wide w x.station x.tid) (score_at (sending_of (Frames all)) x.arrived) (number_of ms k)
      ≡ has x.arrived k
  unfolding after_all
  shown_some k low [] same = absurd (omega (arith, low, ap (length {A = Mpdu}) same))
  shown_some k low (m ∷ rest) same =
      let first : m.number ≡ number_of ms 0 = ap (λ (l : List Mpdu). number_of l 0) same in
      let lead = in_window 0 (omega (arith, low)) in
      let own = in_window k low in
      let none : AreBelow m.number y.first [] = λ d there. absurd (cc there) in
      let zero_k : 0 + k ≡ k = omega arith in
      shown_by y.size (number_of ms k) m.number
      (offsets_at (on_air m.number) [] 0 (numbers_on_air (m ∷ rest)) x.arrived) (has x.arrived k) size_most
      (omega (arith, first, first_least y.first ms k rises low)) (omega (arith, first, lead.0, own.1))
      (subst (λ (l : List Mpdu). has (offsets_at (on_air m.number) [] 0 (numbers_on_air l) x.arrived)
      (number_of ms k - m.number) ≡ has x.arrived k) (sym same)
      (offset_there m.number x.arrived y.first [] 0 ms k
      (λ j inside. (
        omega (arith, first, first_least y.first ms j rises inside),
        omega (arith, first, lead.0, (in_window j inside).1, size_most),
      )) rises none low
      ∙ ap (has x.arrived) zero_k))

  -- by the BlockAck, which is none if nothing arrived
  shown_each : (k : ℕ) → k < length ms → has (numbers_arrived x) (number_of ms k)
      ≡ is_shown (is_wide w x.station x.tid)
      (if length x.arrived == 0 then None else score_at (sending_of (Frames ms)) x.arrived) (number_of ms k)
  shown_each k low = on_bool (length x.arrived == 0)
      (λ none. arrived_at k low ∙ nothing x.arrived none
      ∙ ap (λ (b : Bool). is_shown (is_wide w x.station x.tid)
      (if b then None else score_at (sending_of (Frames ms)) x.arrived) (number_of ms k)) (sym none))
      (λ some. arrived_at k low ∙ sym (shown_some k low ms refl)
      ∙ ap (λ (b : Bool). is_shown (is_wide w x.station x.tid)
      (if b then None else score_at (sending_of (Frames ms)) x.arrived) (number_of ms k)) (sym some))
    where
      nothing : (xs : List ℕ) → (length xs == 0) ≡ true → has xs k ≡ false
      nothing [] h = refl
      nothing (j ∷ xs) h = absurd (omega (arith, eq_yes (length (j ∷ xs)) 0 h))

-- The BlockAck that shows the numbers whose indices arrived shows exactly the numbers that arrived.
pub shown_arrived : (v : TransmitValue) (w : World) (bodies : ℕ → FrameValue) (e : ℕ) (x : Exchange) →
    StandsFor v w bodies → exchange w e ≡ Some x → x.batch ≡ true →
    AreArrived w x (shown_at (find (λ y. y.number == e) v.opened) x.arrived)
shown_arrived v w bodies e x st known batch =
    subst (λ (f : Option Open). AreArrived w x (shown_at f x.arrived))
    (sym (exchange_same v w bodies e st.parts ∙ ap (option_map open_of) known)) (by_content x.content refl)
  where
    by_content : (c : Content) → x.content ≡ c → AreArrived w x (shown_at (Some (open_of x)) x.arrived)
    by_content (Request f) is =
        absurd (cc (ap is_request is, (open_now w st.reached e x known).right.frames batch))
    by_content (Frames ms) is =
        subst (λ (c : Content). EachMpdu (λ m. has (numbers_unsent x) m.number ≡ false →
        has (numbers_arrived x) m.number ≡ is_shown (is_wide w x.station x.tid)
        (if length x.arrived == 0 then None else score_at (sending_of c) x.arrived) m.number) (mpdus_of c))
        (sym is)
        (each_of (λ m. has (numbers_unsent x) m.number ≡ false →
        has (numbers_arrived x) m.number ≡ is_shown (is_wide w x.station x.tid)
        (if length x.arrived == 0 then None else score_at (sending_of (Frames ms)) x.arrived) m.number) ms
        (λ k low _. shown_each w st.reached e x known ms is k low))
