-- Proves that a Pull sends numbers before all others that wait: after it, each number that waits is above all
-- numbers of the exchange that it opened. By cases of the pull.
use Rattle.std.proofs.Common.{◌≡◌, refl, ap, sym, ◌∙◌, subst, arith, ℕ, zero, suc, ◌+◌, ◌-◌, ◌<◌, ◌≤◌, nat_lt, append-nil, Bool, true, false, not, ◌==◌, ◌⊎◌, inl, inr, List, [], ◌∷◌, ◌++◌, length, map, take, Option, Some, None, IfSome}
use Rattle.wf_frame.specs.declared.classes.Class.{Class}
use Rattle.wf_frame.specs.declared.notes.Ask.TheVariants.{Pull}
use Rattle.wf_frame.specs.declared.notes.Limits.{Limits}
use Rattle.wf_frame.specs.declared.notes.Note.{Note}
use Rattle.wf_frame.specs.declared.notes.Note.TheVariants.{Asked}
use Rattle.wf_frame.specs.declared.notes.Refusal.{Refusal}
use Rattle.wf_def_lists.specs.Table.{at, has, greatest_upto}
use Rattle.wf_def_codel.specs.Codel.{Item}
use Rattle.wf_def_agreement.specs.Session.{Session, Slot, State, no_slot, slot, with_state, with_number_given, next_number, numbers_where, is_waiting, waiting_numbers, request_due}
use Rattle.wf_def_world.specs.World.{World, Exchange, Mpdu, Content, Frames, session, rotation, is_live}
use Rattle.wf_def_world.specs.FlowQueues.{taken_for_tid}
use Rattle.wf_def_world.specs.CanSend.{is_ready, can_give}
use Rattle.wf_def_world.specs.Exchanges.{Aggregate, Prepared, mpdu_of, mpdus_of, station_need, most_frames, picked_station, sending_tid, fits_in, after_tid_turn, with_fresh, aggregate_of, with_number, fresh_mpdus, with_flying, waiting_mpdus, longest_fitting, prepared_request, prepared_data, prepared_exchange, exchange_of, with_exchange_opened}
use Rattle.wf_def_world.specs.Refusals.{refusal}
use Rattle.wf_def_world.specs.Step.{Outcome, send_outcome, pull_outcome_for, pull_outcome, outcome_of, concerned_station, judged_outcome, step}
use Rattle.wf_law_rules.proofs.Lemmas.Numbers.{on_bool, on_if, lt_yes, lt_no, eq_yes, yes_eq, either, or_left, or_right}
use Rattle.wf_law_rules.proofs.Lemmas.Tables.{each_put}
use Rattle.wf_law_runs.specs.Windows.{SomeOpen}
use Rattle.wf_law_runs.proofs.Common.Picked.{picked_world}
use Rattle.wf_law_runs.proofs.Sessions.Flights.{AllIn, Rises, flown, next-give, chosen_waiting}
use Rattle.wf_law_runs.proofs.Windows.Sides.{Side, Same, same_listed, same_after_turn, same_spent, same_take, same_picked}
use Rattle.wf_law_runs.proofs.Windows.Agreement.{within_length, slot_give}
use Rattle.wf_law_runs.proofs.Windows.Opened.{some_along, pick_ready, left_true}
use Rattle.wf_law_runs.proofs.Windows.Agreed.{IsLawful, IsReady, ready_filled, lawful_same, session_same, session_on_session, live_on_session}
use Rattle.wf_law_runs.proofs.Tries.Opens.{SendsNone, Opens, some_last, none_step}

-- Whether a number is among those of an aggregate.
abbrev pub among : ℕ → List Mpdu → Bool
among n ms = has (map (λ m. m.number) ms) n

abbrev pub AllBelow : ℕ → List Mpdu → Type 0
AllBelow n [] = Unit {0}
AllBelow n (m ∷ ms) = (m.number < n) × AllBelow n ms

-- All numbers that wait are in the aggregate.
record Whole (y : Session) (ms : List Mpdu) : Type 0 where
  all : (n : ℕ) → y.first ≤ n → (slot y n).state ≡ State.Waiting → among n ms ≡ true
  below : AllBelow (next_number y) ms

-- Each number that waits is in the aggregate or above it.
abbrev Fronts : List Mpdu → Session → Type 0
Fronts ms y = (n : ℕ) → y.first ≤ n → (slot y n).state ≡ State.Waiting → (among n ms ≡ true) ⊎ AllBelow n ms

fronts_whole : (y : Session) (ms : List Mpdu) → Whole y ms → Fronts ms y
fronts_whole y ms h n from e = inl (h.all n from e)

-- ---- lists

all_raised : (ms : List Mpdu) (n k : ℕ) → n ≤ k → AllBelow n ms → AllBelow k ms
all_raised [] n k h a = tt
all_raised (m ∷ ms) n k h a = (omega (arith, a.0, h), all_raised ms n k h a.1)

all_added : (ms : List Mpdu) (m : Mpdu) (n : ℕ) → AllBelow n ms → m.number < n → AllBelow n (ms ++ m ∷ [])
all_added [] m n a h = (h, tt)
all_added (x ∷ ms) m n a h = (a.0, all_added ms m n a.1 h)

among_first : (ms : List Mpdu) (m : Mpdu) (n : ℕ) → among n ms ≡ true → among n (ms ++ m ∷ []) ≡ true
among_first [] m n h = absurd (cc h)
among_first (x ∷ ms) m n h = elim (either (x.number == n) (among n ms) h) [
  | inl e ↦ or_left (x.number == n) (among n (ms ++ m ∷ [])) e
  | inr e ↦ or_right (x.number == n) (among n (ms ++ m ∷ [])) (among_first ms m n e)
]

among_last : (ms : List Mpdu) (m : Mpdu) (n : ℕ) → m.number ≡ n → among n (ms ++ m ∷ []) ≡ true
among_last [] m n e = or_left (m.number == n) false (yes_eq m.number n e)
among_last (x ∷ ms) m n e = or_right (x.number == n) (among n (ms ++ m ∷ [])) (among_last ms m n e)

pub all_below : (ms : List Mpdu) (lo hi : ℕ) → Rises lo hi ms → AllBelow hi ms
all_below [] lo hi r = tt
all_below (m ∷ ms) lo hi r = (r.1, all_below ms (suc m.number) hi r.2)

pub among_least : (ms : List Mpdu) (lo hi n : ℕ) → Rises lo hi ms → among n ms ≡ true → lo ≤ n
among_least [] lo hi n r h = absurd (cc h)
among_least (m ∷ ms) lo hi n r h = elim (either (m.number == n) (among n ms) h) [
  | inl e ↦ omega (arith, r.0, eq_yes m.number n e)
  | inr e ↦ omega (arith, r.0, among_least ms (suc m.number) hi n r.2 e)
]

-- A number of a rising list is in its front or above it.
among_front : (ms : List Mpdu) (k lo hi n : ℕ) → Rises lo hi ms → among n ms ≡ true →
    (among n (take k ms) ≡ true) ⊎ AllBelow n (take k ms)
among_front ms zero lo hi n r h = inr tt
among_front [] (suc k) lo hi n r h = inr tt
among_front (m ∷ ms) (suc k) lo hi n r h = elim (either (m.number == n) (among n ms) h) [
  | inl e ↦ inl (or_left (m.number == n) (among n (take k ms)) e)
  | inr e ↦ elim (among_front ms k (suc m.number) hi n r.2 e) [
    | inl a ↦ inl (or_right (m.number == n) (among n (take k ms)) a)
    | inr b ↦ inr (among_least ms (suc m.number) hi n r.2 e, b)
  ]
]

take_whole : (ms : List Mpdu) (k : ℕ) → length (take k ms) ≡ length ms → take k ms ≡ ms
take_whole [] zero e = refl
take_whole [] (suc k) e = refl
take_whole (m ∷ ms) zero e = absurd (omega (arith, e))
take_whole (m ∷ ms) (suc k) e = ap (λ (xs : List Mpdu). m ∷ xs) (take_whole ms k (omega (arith, e)))

-- ---- numbers are given

given_new : (y : Session) (id n : ℕ) → y.first ≤ n →
    (slot (with_number_given y id) n).state ≡ State.Waiting → (n < next_number y → ⊥) → n ≡ next_number y
given_new y id n from e far =
    let inside : n - y.first < length (with_number_given y id).slots =
    within_length (with_number_given y id).slots (n - y.first) (λ d. cc (d, e)) in
    omega (arith, inside, from, far, next-give y id)

given_old : (y : Session) (id n : ℕ) → y.first ≤ n → n < next_number y →
    (slot (with_number_given y id) n).state ≡ State.Waiting → (slot y n).state ≡ State.Waiting
given_old y id n from below e = ap (λ (x : Slot). x.state) (sym (slot_give y id n from below)) ∙ e

whole_given : (y : Session) (id : ℕ) (m : Mpdu) (ms : List Mpdu) → m.number ≡ next_number y → Whole y ms →
    Whole (with_number_given y id) (ms ++ m ∷ [])
whole_given y id m ms new h = record {
  all = λ n from e. on_bool (nat_lt n (next_number y))
      (λ b. among_first ms m n (h.all n from (given_old y id n from (lt_yes n (next_number y) b) e)))
      (λ b. among_last ms m n (new ∙ sym (given_new y id n from e
      (λ l. omega (arith, l, lt_no n (next_number y) b)))));
  below = all_added ms m _ (all_raised ms _ _ (omega (arith, next-give y id)) h.below)
      (omega (arith, new, next-give y id));
}

fronts_given : (y : Session) (id : ℕ) (ms : List Mpdu) → Whole y ms → Fronts ms (with_number_given y id)
fronts_given y id ms h n from e = on_bool (nat_lt n (next_number y))
    (λ b. inl (h.all n from (given_old y id n from (lt_yes n (next_number y) b) e)))
    (λ b. inr (subst (λ (k : ℕ). AllBelow k ms) (sym (given_new y id n from e
    (λ l. omega (arith, l, lt_no n (next_number y) b)))) h.below))

whole_number : (o : Option Item) (u w : World) (s t : ℕ) (ms : List Mpdu) → Same u w → is_live w s ≡ true →
    Whole (session u s t) ms → Whole (session (with_number w s t o) s t) (ms ++ fresh_mpdus u s t o)
unfolding with_number
whole_number None u w s t ms k live h = subst (Whole (session w s t)) (sym (append-nil ms))
    (subst (λ (y : Session). Whole y ms) (sym (session_same u w k s t)) h)
whole_number (Some x) u w s t ms k live h =
    let y : Session = session w s t in
    let same_session : y ≡ session u s t = session_same u w k s t in
    subst (λ (z : Session). Whole z (ms ++ fresh_mpdus u s t (Some x)))
    (sym (session_on_session w s t (λ y. with_number_given y x.id) live))
    (whole_given y x.id (record { number = next_number (session u s t); id = x.id; len = x.len }) ms
    (ap next_number (sym same_session)) (subst (λ (z : Session). Whole z ms) (sym same_session) h))

fronts_number : (o : Option Item) (u w : World) (s t : ℕ) (ms : List Mpdu) → Same u w → is_live w s ≡ true →
    Whole (session u s t) ms → Fronts ms (session (with_number w s t o) s t)
unfolding with_number
fronts_number None u w s t ms k live h = fronts_whole (session w s t) ms
    (subst (λ (y : Session). Whole y ms) (sym (session_same u w k s t)) h)
fronts_number (Some x) u w s t ms k live h = subst (Fronts ms)
    (sym (session_on_session w s t (λ y. with_number_given y x.id) live))
    (fronts_given (session w s t) x.id ms
    (subst (λ (z : Session). Whole z ms) (sym (session_same u w k s t)) h))

live_number : (o : Option Item) (w : World) (s t : ℕ) → is_live (with_number w s t o) s ≡ is_live w s
unfolding with_number
live_number None w s t = refl
live_number (Some x) w s t = live_on_session w s t (λ y. with_number_given y x.id) s

fronts_fresh : (n : ℕ) (w : World) (s t : ℕ) (ms : List Mpdu) → is_live w s ≡ true →
    Whole (session w s t) ms →
    Fronts (with_fresh n w s t ms).mpdus (session (with_fresh n w s t ms).world s t)
unfolding with_fresh
fronts_fresh zero w s t ms live h = fronts_whole (session w s t) ms h
fronts_fresh (suc n) w s t ms live h =
    let taken = taken_for_tid w s t in
    let longer : List Mpdu = ms ++ fresh_mpdus w s t taken.item in
    let numbered : World = with_number taken.world s t taken.item in
    let k : Same w taken.world = same_take w s t in
    let still_live : is_live taken.world s ≡ true = k.live s ∙ live in
    on_if (λ (a : Aggregate). Fronts a.mpdus (session a.world s t)) (not (can_give w s t)) _ _
    (λ _. fronts_whole (session w s t) ms h) (λ _.
    on_if (λ (a : Aggregate). Fronts a.mpdus (session a.world s t)) (fits_in w s longer)
    (with_fresh n numbered s t longer) (record { world = numbered; mpdus = ms })
    (λ _. fronts_fresh n numbered s t longer (live_number taken.item taken.world s t ∙ still_live)
    (whole_number taken.item w taken.world s t ms k still_live h))
    (λ _. fronts_number taken.item w taken.world s t ms k still_live h))

listed_waiting : (xs : List Slot) (k i : ℕ) → (at no_slot xs i).state ≡ State.Waiting →
    has (numbers_where is_waiting k xs) (k + i) ≡ true
listed_waiting [] k i e = absurd (cc e)
listed_waiting (x ∷ xs) k zero e =
    let here : k + 0 ≡ k = omega arith in
    rw (ap is_waiting e, here)
    (or_left (k == k) (has (numbers_where is_waiting (suc k) xs) k) (yes_eq k k refl))
listed_waiting (x ∷ xs) k (suc i) e =
    let later : has (numbers_where is_waiting (suc k) xs) (k + suc i) ≡ true =
    subst (λ (n : ℕ). has (numbers_where is_waiting (suc k) xs) n ≡ true) (omega arith)
    (listed_waiting xs (suc k) i e) in
    on_if (λ (ns : List ℕ). has ns (k + suc i) ≡ true) (is_waiting x.state)
    (k ∷ numbers_where is_waiting (suc k) xs) (numbers_where is_waiting (suc k) xs)
    (λ _. or_right (k == k + suc i) (has (numbers_where is_waiting (suc k) xs) (k + suc i)) later)
    (λ _. later)

numbers_of : (w : World) (s t : ℕ) (ns : List ℕ) → map (λ m. m.number) (map (mpdu_of w s t) ns) ≡ ns
numbers_of w s t [] = refl
numbers_of w s t (n ∷ ns) = ap (λ (xs : List ℕ). n ∷ xs) (numbers_of w s t ns)

whole_waiting : (w : World) (s t : ℕ) → Whole (session w s t) (waiting_mpdus w s t)
whole_waiting w s t = record {
  all = λ n from e.
      let y : Session = session w s t in
      let k : y.first + (n - y.first) ≡ n = omega (arith, from) in
      ap (λ (ns : List ℕ). has ns n) (numbers_of w s t (waiting_numbers y))
      ∙ subst (λ (i : ℕ). has (waiting_numbers y) i ≡ true) k
      (listed_waiting y.slots y.first (n - y.first) e);
  below = all_below (waiting_mpdus w s t) _ _ (chosen_waiting w s t).rising;
}

fronts_filled : (w : World) (s t : ℕ) → is_live w s ≡ true →
    Fronts (aggregate_of w s t).mpdus (session (aggregate_of w s t).world s t)
unfolding aggregate_of longest_fitting
fronts_filled w s t live =
    let waiting : List Mpdu = waiting_mpdus w s t in
    let k : ℕ = greatest_upto (λ n. fits_in w s (take n waiting)) (length waiting) in
    let h : Whole (session w s t) waiting = whole_waiting w s t in
    on_if (λ (a : Aggregate). Fronts a.mpdus (session a.world s t))
    (length (take k waiting) == length waiting)
    (with_fresh (most_frames w s - length (take k waiting)) w s t (take k waiting))
    (record { world = w; mpdus = take k waiting })
    (λ all. fronts_fresh (most_frames w s - length (take k waiting)) w s t (take k waiting) live
    (subst (Whole (session w s t)) (sym (take_whole waiting k (eq_yes _ _ all))) h))
    (λ _ n from e. among_front waiting k _ _ n (chosen_waiting w s t).rising (h.all n from e))

-- ---- the aggregate is sent

waiting_flown : (ms : List Mpdu) (y : Session) (e n : ℕ) →
    (slot (with_flying e ms y) n).state ≡ State.Waiting → (slot y n).state ≡ State.Waiting
waiting_flown [] y e n h = h
waiting_flown (m ∷ ms) y e n h = each_put (λ i x. x.state ≡ State.Waiting →
    (at no_slot y.slots i).state ≡ State.Waiting) no_slot y.slots (m.number - y.first) _ (λ i d. d)
    (λ d. absurd (cc d)) (n - y.first) (waiting_flown ms (with_state (State.Flying e) m.number y) e n h)

pub all_in_among : (ms : List Mpdu) (y : Session) (st : State) (n : ℕ) → AllIn y st ms → among n ms ≡ true →
    (slot y n).state ≡ st
all_in_among [] y st n a h = absurd (cc h)
all_in_among (m ∷ ms) y st n a h = elim (either (m.number == n) (among n ms) h) [
  | inl e ↦ ap (λ (k : ℕ). (slot y k).state) (sym (eq_yes m.number n e)) ∙ a.0
  | inr e ↦ all_in_among ms y st n a.1 e
]

-- Each number that waits is above all numbers of the content.
abbrev pub IsAbove : Content → Session → Type 0
IsAbove c y = (n : ℕ) → y.first ≤ n → (slot y n).state ≡ State.Waiting → AllBelow n (mpdus_of c)

above_frames : (s t : ℕ) (f : Aggregate) → IsReady s t f.world f.mpdus →
    Fronts f.mpdus (session f.world s t) →
    IsAbove (prepared_data s t f).content (session (prepared_data s t f).world s t)
unfolding prepared_data
above_frames s t f r h =
    let y : Session = session f.world s t in
    let e : ℕ = f.world.exchanges in
    let z = flown f.mpdus y e (next_number y) y.first (omega arith) r.chosen.rising r.chosen.waiting in
    subst (IsAbove (Frames f.mpdus)) (sym (session_on_session f.world s t (with_flying e f.mpdus) r.live))
    (λ n from d. elim (h n (omega (arith, from, z.first)) (waiting_flown f.mpdus y e n d)) [
      | inl a ↦ absurd (cc (all_in_among f.mpdus (with_flying e f.mpdus y) (State.Flying e) n z.flying a, d))
      | inr b ↦ b
    ])

above_prepared : (w : World) (s t : ℕ) → IsLawful w → is_live w s ≡ true →
    IsAbove (prepared_exchange w s t).content (session (prepared_exchange w s t).world s t)
unfolding prepared_exchange
above_prepared w s t i live = on_if (λ (p : Prepared). IsAbove p.content (session p.world s t))
    (request_due (session w s t)) (prepared_request w s t) (prepared_data s t (aggregate_of w s t))
    (λ _ n _ _. tt) (λ quiet. above_frames s t (aggregate_of w s t) (ready_filled w s t i live quiet)
    (fronts_filled w s t live))

-- ---- the step

-- An outcome that opens an exchange, before all numbers that wait.
pub record OpensFirst (o : Outcome) : Type 0 where
  pub opens : Opens o
  pub above : IsAbove opens.exchange.content (session o.world opens.exchange.station opens.exchange.tid)

abbrev pub NoneOrFirst : Outcome → Type 0
NoneOrFirst o = SendsNone o.reply ⊎ OpensFirst o

first_sent : (s t : ℕ) (c : Class) (p : Prepared) → IsAbove p.content (session p.world s t) →
    OpensFirst (send_outcome s t c p)
unfolding send_outcome with_exchange_opened
first_sent s t c p h =
    let x : Exchange = exchange_of s t c p in
    let k : Same (with_exchange_opened p.world x) _ = same_spent (with_exchange_opened p.world x) x in
    record {
      opens = record {
        exchange = x;
        among = subst (SomeOpen (λ y. y ≡ x)) (sym k.opened) (some_last p.world.opened x);
        reply = refl;
      };
      above = subst (IsAbove p.content) (sym (ap (λ (a : Side). a.session) (k.sides s t))) h;
    }

first_pulled_by : (o : Option ℕ) (w : World) (c : Class) → IfSome o (λ s. is_live w s ≡ true) → IsLawful w →
    NoneOrFirst (pull_outcome_for w c o)
unfolding pull_outcome_for
first_pulled_by None w c live i =
    inl (record { tries = λ k. refl; frames = refl; exchanges = refl; receiver = λ s. refl })
first_pulled_by (Some s) w c live i =
    let k : Same w (after_tid_turn w s c (sending_tid w s c)) = same_after_turn w s c (sending_tid w s c) in
    inr (first_sent s _ c _ (above_prepared _ s _ (lawful_same _ _ k i) (k.live s ∙ live)))

first_pulled : (w : World) (c : Class) (l : Limits) → IsLawful w → NoneOrFirst (pull_outcome w c l)
unfolding pull_outcome
first_pulled w c l i =
    let k : Same w (picked_world w c l) = same_picked w c l in
    first_pulled_by (picked_station w c).winner (picked_world w c l) c
    (some_along (λ s. is_ready w c s ≡ true) (λ s. is_live (picked_world w c l) s ≡ true)
    (picked_station w c).winner (λ s h. k.live s ∙ left_true (is_live w s) _ h)
    (pick_ready (station_need w c) (is_ready w c) (rotation w c))) (lawful_same _ _ k i)

first_judged : (o : Option Refusal) (w : World) (c : Class) (l : Limits) → IsLawful w →
    NoneOrFirst (judged_outcome w (Asked (Pull c l)) o)
unfolding judged_outcome outcome_of
first_judged (Some r) w c l i =
    inl (record { tries = λ k. refl; frames = refl; exchanges = refl; receiver = λ s. refl })
first_judged None w c l i = elim (first_pulled w c l i) [
  | inl h ↦ inl h
  | inr h ↦
      let k = same_listed (concerned_station w (Asked (Pull c l))) (pull_outcome w c l).world in
      let x : Exchange = h.opens.exchange in
      inr (record {
        opens = record {
          exchange = x;
          among = subst (SomeOpen (λ y. y ≡ x)) (sym k.opened) h.opens.among;
          reply = h.opens.reply;
        };
        above = subst (IsAbove x.content) (sym (ap (λ (a : Side). a.session) (k.sides x.station x.tid)))
            h.above;
      })
]

first_pull : (w : World) (c : Class) (l : Limits) → IsLawful w → NoneOrFirst (step w (Asked (Pull c l)))
unfolding step
first_pull w c l i = first_judged (refusal w (Asked (Pull c l))) w c l i

pub first_step : (w : World) (note : Note) → IsLawful w → NoneOrFirst (step w note)
first_step w note i = elim (none_step w note) [
  | inl p ↦ subst (λ (n : Note). NoneOrFirst (step w n)) (sym p.2) (first_pull w p.0 p.1 i)
  | inr h ↦ inl h
]
