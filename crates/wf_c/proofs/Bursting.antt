-- Proves the step of the loop of a burst: after one more call, the states have one more; and why a burst ends
-- before a call.
use Rattle.std.proofs.Common.{◌≡◌, ◌∙◌, refl, ap, sym, subst, inr, arith, ℕ, ◌+◌, ◌<◌, ◌≤◌, List, length, get_or, if◌then◌else◌, below_more, w32, to_z, of_z}
use Rattle.std.proofs.lemmas.Bool.{lt-ltb, le-ltb, both_ways}
use Rattle.std.proofs.lemmas.Option.{slice_get-get_or}
use Rattle.std.specs.Prelude.{ℤ, pos, Option, Some, None, true, false, is_some, IsSomeAnd, nat_lt, slice_get}
use Rattle.wf_frame.specs.declared.notes.Note.{Note}
use Rattle.wf_c.specs.Bursts.{IsBurst, IsBurstEnd, IsCellBurst, IsMadeAt, IsRun, IsSteppedAt, IsStop, RestStays, StopsCell, StopsCellAt, StopsPath, StopsPathAt, no_call_code}
use Rattle.wf_c.specs.CallNumbers.{blank_call, call_noted}
use Rattle.wf_c.specs.CellCalls.{TurnsInto}
use Rattle.wf_c.specs.Calls.{Becomes}
use Rattle.wf_c.specs.declared.burst.NoCall.{NoCall}
use Rattle.wf_c.specs.declared.burst.NoCall.TheVariants.{BadCall, BadLength, NoMemory, HistoryFull}
use Rattle.wf_c.specs.declared.cell.calls.CallNumbers.{CallNumbers}
use Rattle.wf_c.specs.declared.cell.held.HeldCell.{HeldCell}
use Rattle.wf_c.specs.declared.held.Held.{Held}
use Rattle.wf_c.specs.declared.reply.Reply.{Reply}

-- no call is made yet
pub none_made : {X : Type 0} (S : CallNumbers → X → X → Reply → Type 0) (h : X) (calls : List CallNumbers)
    (shown : List Reply) → IsRun S h h calls shown 0
none_made S h calls shown = record {
  states = λ i. h;
  first = refl;
  last = refl;
  each = λ i c r low is there. absurd (omega (arith, low));
}

-- k was reached by the first i calls, and the call at i makes m of it
module _ {X : Type 0} (S : CallNumbers → X → X → Reply → Type 0) (h k m : X) (calls : List CallNumbers)
    (old new : List Reply) (i : ℕ) (c : CallNumbers) (r : Reply) (run : IsRun S h k calls old i)
    (is_at : slice_get calls i ≡ Some c) (put : slice_get new i ≡ Some r)
    (others : (j : ℕ) → j < i → slice_get new j ≡ slice_get old j) (made : S c k m r) where
  states : ℕ → X
  states j = if nat_lt i j then m else run.states j

  before : (j : ℕ) → j ≤ i → states j ≡ run.states j
  unfolding states
  before j low = rw (le-ltb i j low) refl

  at_end : states (i + 1) ≡ m
  unfolding states
  at_end = rw (lt-ltb i (i + 1) (omega arith)) refl

  abbrev Each : ℕ → Type 0
  Each j = (d : CallNumbers) (q : Reply) → slice_get calls j ≡ Some d → slice_get new j ≡ Some q →
      S d (states j) (states (j + 1)) q

  each_before : (j : ℕ) → j < i → Each j
  each_before j low d q is there =
      subst (λ (x : X). S d x (states (j + 1)) q) (sym (before j (omega (arith, low))))
      (subst (λ (x : X). S d (run.states j) x q) (sym (before (j + 1) (omega (arith, low))))
      (run.each j d q low is (sym (others j low) ∙ there)))

  at_start : states i ≡ k
  at_start = before i (omega arith) ∙ run.last

  each_at : Each i
  each_at d q is there =
      let same : c ≡ d = cc (is_at, is) in
      let shown : r ≡ q = cc (put, there) in
      subst (λ (e : CallNumbers). S e (states i) (states (i + 1)) q) same
      (subst (λ (a : Reply). S c (states i) (states (i + 1)) a) shown
      (subst (λ (x : X). S c x (states (i + 1)) r) (sym at_start)
      (subst (λ (x : X). S c k x r) (sym at_end) made)))

  each_through : (j : ℕ) → j < i + 1 → Each j
  each_through = below_more Each i each_before each_at

  pub one_more_call : IsRun S h m calls new (i + 1)
  one_more_call = record {
    states = states;
    first = before 0 (omega arith) ∙ run.first;
    last = at_end;
    each = λ j d q low is there. each_through j low d q is there;
  }

-- the structs after the one that is written stay
pub rest_stays : (first old new : List Reply) (i : ℕ) → RestStays first old i →
    ((j : ℕ) → i < j → slice_get new j ≡ slice_get old j) → RestStays first new (i + 1)
rest_stays first old new i before after j past =
    after j (omega (arith, past)) ∙ before j (omega (arith, past))

-- ---- no call is made

-- a burst of a path in a handle makes no call
pub no_path_call : (o : Option Held) (calls : List CallNumbers) (shown : List Reply) → is_some o ≡ true →
    Becomes (λ h k. IsBurst h k calls shown 0) o o
no_path_call (Some h) calls shown is = none_made IsMadeAt h calls shown
no_path_call None calls shown is = absurd (both_ways false refl is)

-- a burst of a cell in a handle makes no call
pub no_cell_call : (caller : ℕ) (o : Option HeldCell) (calls : List CallNumbers) (shown : List Reply) →
    is_some o ≡ true → TurnsInto (λ h k. IsCellBurst caller h k calls shown 0) o o
no_cell_call caller (Some h) calls shown is = none_made (IsSteppedAt caller) h calls shown
no_cell_call caller None calls shown is = absurd (both_ways false refl is)

-- ---- why a burst ends

-- what holds of the note that numbers show
pub of_shown : {A : Type 0} (P : A → Type 0) (o : Option A) (x : A) → o ≡ Some x → P x → IsSomeAnd o P
of_shown P o x is holds = subst (λ q. IsSomeAnd q P) (sym is) holds

-- the code of a cause, read from a signed number of 32 bits
pub code_read : (why : NoCall) (code : ℤ) → code ≡ pos (no_call_code why) →
    to_z w32 (of_z w32 code) ≡ pos (no_call_code why)
code_read BadCall code e = ap (λ (z : ℤ). to_z w32 (of_z w32 z)) e
code_read BadLength code e = ap (λ (z : ℤ). to_z w32 (of_z w32 z)) e
code_read NoMemory code e = ap (λ (z : ℤ). to_z w32 (of_z w32 z)) e
code_read HistoryFull code e = ap (λ (z : ℤ). to_z w32 (of_z w32 z)) e

-- the call at a place within a list
pub call_at : (calls : List CallNumbers) (i : ℕ) → i < length calls →
    slice_get calls i ≡ Some (get_or calls i blank_call)
call_at calls i within = slice_get-get_or calls i blank_call within

-- a burst ends before the call at a place
pub stops_at : (Stops : NoCall → CallNumbers → Type 0) (calls : List CallNumbers) (made : ℕ) (code : ℤ)
    (c : CallNumbers) (why : NoCall) → slice_get calls made ≡ Some c → Stops why c →
    code ≡ pos (no_call_code why) → IsBurstEnd Stops calls (record { made = made; code = code })
stops_at Stops calls made code c why is stops code_is =
    inr (of_shown (λ d. IsStop Stops d code) (slice_get calls made) c is
    (record { why = why; stops = stops; code_is = code_is }))

-- a path does not make the call that numbers show
pub stops_path : (why : NoCall) (c : CallNumbers) (note : Note) (h : Held) → call_noted c ≡ Some note →
    StopsPath why note h → StopsPathAt why c h
stops_path BadCall c note h is stops =
    inr (of_shown (λ n. StopsPath BadCall n h) (call_noted c) note is stops)
stops_path BadLength c note h is stops = of_shown (λ n. StopsPath BadLength n h) (call_noted c) note is stops
stops_path NoMemory c note h is stops = of_shown (λ n. StopsPath NoMemory n h) (call_noted c) note is stops
stops_path HistoryFull c note h is stops = absurd stops

-- a cell does not make the call that numbers show
pub stops_cell : (why : NoCall) (c : CallNumbers) (note : Note) (h : HeldCell) → call_noted c ≡ Some note →
    StopsCell why note h → StopsCellAt why c h
stops_cell BadCall c note h is stops = absurd stops
stops_cell BadLength c note h is stops = of_shown (λ n. StopsCell BadLength n h) (call_noted c) note is stops
stops_cell NoMemory c note h is stops = of_shown (λ n. StopsCell NoMemory n h) (call_noted c) note is stops
stops_cell HistoryFull c note h is stops =
    of_shown (λ n. StopsCell HistoryFull n h) (call_noted c) note is stops
