-- Defines what a burst of calls does: the calls are made one after another, up to the first that is not made.
use Rattle.std.specs.Prelude.{◌≡◌, ◌<◌, ◌≤◌, ◌+◌, ◌⊎◌, ℕ, ℤ, pos, Bool, true, false, List, length, slice_get, Option, Some, None, IsSomeAnd}
use Rattle.wf_frame.specs.Frames.{bare_frame}
use Rattle.wf_frame.specs.Refusals.{refusal_number}
use Rattle.wf_frame.specs.declared.notes.Ask.TheVariants.{Arrive, Answer, Done}
use Rattle.wf_frame.specs.declared.notes.Note.{Note}
use Rattle.wf_frame.specs.declared.notes.Note.TheVariants.{Enqueue, Asked}
use Rattle.wf_frame.specs.declared.notes.Refusal.TheVariants as refusal
use Rattle.wf_path.specs.Paths.{HasCountsBelow}
use Rattle.wf_path.specs.declared.job.Job.{Job}
use Rattle.wf_path.specs.declared.job.Job.TheVariants.{Give, Call}
use Rattle.wf_cell.specs.Cells.{calls_left_in}
use Rattle.wf_c.specs.Bodies.{IsBadLength, IsGivenToC, bad_length}
use Rattle.wf_c.specs.CallNumbers.{call_noted}
use Rattle.wf_c.specs.Calls.{IsCalled}
use Rattle.wf_c.specs.CellCalls.{IsStepped, bad_call}
use Rattle.wf_c.specs.Ends.{IsExchangeEnded}
use Rattle.wf_c.specs.Making.{no_memory}
use Rattle.wf_c.specs.declared.burst.BurstEnd.{BurstEnd}
use Rattle.wf_c.specs.declared.burst.NoCall.{NoCall}
use Rattle.wf_c.specs.declared.burst.NoCall.TheVariants.{BadCall, BadLength, NoMemory, HistoryFull}
use Rattle.wf_c.specs.declared.cell.calls.CallNumbers.{CallNumbers}
use Rattle.wf_c.specs.declared.cell.held.HeldCell.{HeldCell}
use Rattle.wf_c.specs.declared.held.Held.{Held}
use Rattle.wf_c.specs.declared.reply.Reply.{Reply}

-- ---- one call after another

-- The effect of the first calls of a burst, `made` of them: h before, k after, and the caller's structs.
--
--   states  what the handle holds before each call, and after the last one
--   each    each call has its effect S on these, and its struct shows its answer
pub record IsRun {X : Type 0} (S : CallNumbers → X → X → Reply → Type 0) (h k : X)
    (calls : List CallNumbers) (shown : List Reply) (made : ℕ) : Type 0 where
  pub states : ℕ → X
  pub first : states 0 ≡ h
  pub last : states made ≡ k
  pub each : (i : ℕ) (c : CallNumbers) (r : Reply) → i < made → slice_get calls i ≡ Some c →
      slice_get shown i ≡ Some r → S c (states i) (states (i + 1)) r

-- the structs from `made` on are unchanged
abbrev pub RestStays : List Reply → List Reply → ℕ → Type 0
RestStays old new made = (i : ℕ) → made ≤ i → slice_get new i ≡ slice_get old i

-- ---- why a burst ends before a call

-- the code of a cause
abbrev pub no_call_code : NoCall → ℕ
no_call_code BadCall = bad_call
no_call_code BadLength = bad_length
no_call_code NoMemory = no_memory
no_call_code HistoryFull = refusal_number refusal.HistoryFull

-- the call enqueues a frame whose length no frame has
abbrev pub HasBadLength : Note → Type 0
HasBadLength (Enqueue station tid flow len) = IsBadLength len
HasBadLength (Asked ask) = ⊥

-- the call enqueues a frame
abbrev pub BringsFrame : Note → Type 0
BringsFrame (Enqueue station tid flow len) = Unit {0}
BringsFrame (Asked ask) = ⊥

-- the call of these numbers is not made, and the code says why
pub record IsStop (Stops : NoCall → CallNumbers → Type 0) (c : CallNumbers) (code : ℤ) : Type 0 where
  pub why : NoCall
  pub stops : Stops why c
  pub code_is : code ≡ pos (no_call_code why)

-- all calls were made; or the call after those that were made was not, and the code says why
abbrev pub IsBurstEnd : (NoCall → CallNumbers → Type 0) → List CallNumbers → BurstEnd → Type 0
IsBurstEnd Stops calls end =
    ((end.made ≡ length calls) × (end.code ≡ pos 0)) ⊎
    IsSomeAnd (slice_get calls end.made) (λ c. IsStop Stops c end.code)

-- ---- paths

-- whether a path takes a call: it has no receivers, so it takes no arrival, no answer, and no end that was
-- heard
abbrev pub is_of_path : Note → Bool
is_of_path (Asked (Arrive exchange index)) = false
is_of_path (Asked (Answer exchange)) = false
is_of_path (Asked (Done exchange true air)) = false
is_of_path note = true

-- why a path with h in its handle does not make a call, if it does not
abbrev pub StopsPath : NoCall → Note → Held → Type 0
StopsPath BadCall note h = is_of_path note ≡ false
StopsPath BadLength note h = HasBadLength note
StopsPath NoMemory note h = BringsFrame note × (h.reserve ≡ 0)
StopsPath HistoryFull note h = ⊥

-- the same for the call of these numbers, or they show none
abbrev pub StopsPathAt : NoCall → CallNumbers → Held → Type 0
StopsPathAt BadCall c h = (call_noted c ≡ None) ⊎ IsSomeAnd (call_noted c) (λ note. StopsPath BadCall note h)
StopsPathAt why c h = IsSomeAnd (call_noted c) (λ note. StopsPath why note h)

-- The effect of one call of a burst: h before, k after, and the caller's struct. A frame that is enqueued is
-- bare, and the end of an exchange was not heard.
abbrev pub IsMade : Note → Held → Held → Reply → Type 0
IsMade (Enqueue station tid flow len) h k shown = IsGivenToC h (bare_frame station tid flow len) k shown
IsMade (Asked (Done exchange heard air)) h k shown = IsExchangeEnded h exchange None air k shown
IsMade (Asked ask) h k shown = IsCalled h ask k shown

-- the same for the call that numbers show
abbrev pub IsMadeAt : CallNumbers → Held → Held → Reply → Type 0
IsMadeAt c h k shown = IsSomeAnd (call_noted c) (λ note. IsMade note h k shown)

-- the effect of the first calls of a burst on a path
abbrev pub IsBurst : Held → Held → List CallNumbers → List Reply → ℕ → Type 0
IsBurst = IsRun IsMadeAt

-- the handle holds a path whose counts are below n
abbrev pub HoldsBelow : ℕ → Option Held → Type 0
HoldsBelow n None = ⊥
HoldsBelow n (Some h) = HasCountsBelow n h.path.half

-- ---- cells

-- the machine's job of a call in a burst: a frame that is enqueued is bare
abbrev pub job_in_burst : Note → Job
job_in_burst (Enqueue station tid flow len) = Give (bare_frame station tid flow len)
job_in_burst (Asked ask) = Call ask

-- why a cell with h in its handle does not make a call, if it does not
abbrev pub StopsCell : NoCall → Note → HeldCell → Type 0
StopsCell BadCall note h = ⊥
StopsCell BadLength note h = HasBadLength note
StopsCell NoMemory note h = BringsFrame note
StopsCell HistoryFull note h = calls_left_in h.cell.past ≡ 0

-- the same for the call of these numbers, or they show none
abbrev pub StopsCellAt : NoCall → CallNumbers → HeldCell → Type 0
StopsCellAt BadCall c h = call_noted c ≡ None
StopsCellAt why c h = IsSomeAnd (call_noted c) (λ note. StopsCell why note h)

-- the effect of the call that numbers show
abbrev pub IsSteppedAt : ℕ → CallNumbers → HeldCell → HeldCell → Reply → Type 0
IsSteppedAt caller c h k shown = IsSomeAnd (call_noted c) (λ note. (0 < calls_left_in h.cell.past) ×
    IsStepped h caller (job_in_burst note) k shown)

-- the effect of the first calls of a caller's burst on a cell
abbrev pub IsCellBurst : ℕ → HeldCell → HeldCell → List CallNumbers → List Reply → ℕ → Type 0
IsCellBurst caller = IsRun (IsSteppedAt caller)
