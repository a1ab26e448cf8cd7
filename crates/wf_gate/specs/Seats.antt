-- Defines what contracts see of a gate and its seats, and the conditions that they state.
use Rattle.std.specs.Prelude.{◌≡◌, ℕ, ◌-◌, ◌<◌, ◌≤◌, List, [], ◌∷◌, ◌++◌, length, map, take, drop, Option, Some, None, slice_get, slice_index_or, All, Any, EachIndex}
use mathlib.Core.Option.{some}
use mathlib.Core.List.{IsPrefix}
use lib.ListN.{get_elem?}
use Rattle.atomic_table.specs.Seated.{TableId}
use Rattle.atomic_table.specs.declared.shared.Seat.{Seat}
use Rattle.wf_gate.specs.declared.view.Face.{Face}
use Rattle.wf_gate.specs.declared.view.Key.{Key}
use Rattle.wf_gate.specs.declared.view.Opening.{Opening}
use Rattle.wf_gate.specs.declared.view.View.{View}
use Rattle.wf_gate.specs.declared.view.Stage.{Stage}
use Rattle.wf_gate.specs.declared.view.Stage.TheVariants.{Idle}
use Rattle.wf_gate.specs.Turns.{entries_by, numbers_from, places, faces_of, opening_of}

-- A gate is identified by its table. Its opening is the machine at the moment when the gate was made, and the
-- quotas by seat number.
pub record GateView (M : Type 0) : Type 0 where
  pub table : TableId
  pub opening : Opening M

-- A seat. An entry is a caller's number and the note of its call.
pub record SeatView (M N : Type 0) : Type 0 where
  -- the table and the opening of the seat's gate
  pub table : TableId
  pub opening : Option (Opening M)
  pub number : ℕ
  -- how many calls the seat may make, and how many it has made
  pub quota : ℕ
  pub used : ℕ
  -- the entries made since the gate was made, as far as the seat has seen them
  pub seen : List (ℕ × N)
  -- the indices in `seen` of the seat's own calls, in rising order
  pub own : List ℕ
  -- for each try that did not get a turn: the number loaded from the serving word, and the ticket that the
  -- exchange found
  pub looks : List (ℕ × ℕ)
  -- whether the seat has tickets, and whether the first of them is served
  pub stage : Stage
  -- the number last loaded from the serving word, if no step has used it yet
  pub read : Option ℕ

-- the view of the gate whose table has this key
abbrev pub gate_of : {M : Type 0} → TableId → Key M → GateView M
gate_of table key = record { table = table; opening = opening_of key }

-- an opening with this machine and these quotas
abbrev pub gate_opened : {M : Type 0} → M → List ℕ → Opening M
gate_opened machine quotas = record { machine = machine; quotas = quotas }

module _ {M N : Type 0} where
  -- the view of a seat with this number, quota and count of calls, whose pass is p
  abbrev pub view_of : ℕ → ℕ → ℕ → Seat (Option M) (View M N) → SeatView M N
  view_of number quota used p = record {
    table = p.table_id;
    opening = p.me.0.opening;
    number = number;
    quota = quota;
    used = used;
    seen = p.me.0.face.seen;
    own = p.me.0.face.own;
    looks = p.me.0.face.looks;
    stage = p.me.0.stage;
    read = p.me.0.read;
  }

  -- the invariant of a seat: it has no ticket, no number read and no slot; its count is that of its own
  -- calls, and does not exceed its quota
  pub record IsAtGate (number quota used : ℕ) (p : Seat (Option M) (View M N)) : Type 0 where
    pub numbered : number ≡ p.me.0.face.number
    pub counted : used ≡ length p.me.0.face.own
    pub within : used ≤ quota
    pub allotted : (o : Opening M) → p.me.0.opening ≡ Some o → quota ≡ slice_index_or o.quotas number 0
    pub idle : p.me.0.stage ≡ Idle
    pub unread : p.me.0.read ≡ None
    pub free : p.me.1 ≡ []

  -- the face of a seat: its number, its calls, and the entries that it has seen
  abbrev pub face_of : SeatView M N → Face N
  face_of s = record { number = s.number; seen = s.seen; own = s.own; looks = s.looks }

  -- the view v contains the face of the seat s, as its own or in a record
  abbrev pub IsRecorded : SeatView M N → View M N → Type 0
  IsRecorded s v = (i : ℕ) × (get_elem? (faces_of v) i ≡ some (face_of s))

  -- the seat s belongs to the gate g
  abbrev pub IsOf : GateView M → SeatView M N → Type 0
  IsOf g s = (s.table ≡ g.table) × (s.opening ≡ Some g.opening)

  -- seat k of a new gate: it has its quota, has made no call and seen no entry
  abbrev pub new_seat : GateView M → ℕ → SeatView M N
  new_seat g k = record {
    table = g.table;
    opening = Some g.opening;
    number = k;
    quota =
        slice_index_or g.opening.quotas k 0;
    used = 0;
    seen = [];
    own = [];
    looks = [];
    stage = Idle;
    read =
        None;
  }

  -- for each seat number of the gate, these seats include the one with that number
  abbrev pub AreAll : GateView M → List (SeatView M N) → Type 0
  AreAll g seats = EachIndex g.opening.quotas (λ n. Any (λ s. s.number ≡ n) seats)

  -- the same seat of the same gate, with the same quota
  pub record IsSameSeat (old new : SeatView M N) : Type 0 where
    pub table : new.table ≡ old.table
    pub opening : new.opening ≡ old.opening
    pub number : new.number ≡ old.number
    pub quota : new.quota ≡ old.quota

  -- the seat has no ticket, no turn and no number read
  abbrev pub IsAtRest : SeatView M N → Type 0
  IsAtRest s = (s.stage ≡ Idle) × (s.read ≡ None)

  -- the caller of each entry is the number of a seat
  abbrev pub AreOfSeats : GateView M → List (ℕ × N) → Type 0
  AreOfSeats g entries = All (λ e. e.0 < length g.opening.quotas) entries

-- the indices of the entries of the seat with this number
abbrev pub places_of : {N : Type 0} → ℕ → List (ℕ × N) → List ℕ
places_of number entries = places number 0 entries

-- the entries at these indices are calls of the seat with this number, with these notes, in order
abbrev pub StandsWithCalls : {N : Type 0} → ℕ → List (ℕ × N) → List ℕ → List N → Type 0
StandsWithCalls number entries [] [] = Unit {0}
StandsWithCalls number entries (place ∷ places) (note ∷ notes) =
    (slice_get entries place ≡ Some (number, note)) × StandsWithCalls number entries places notes
StandsWithCalls number entries _ _ = ⊥

-- the last entry is this one
abbrev pub EndsWith : {A : Type 0} → List A → A → Type 0
EndsWith {A} entries e = (before : List A) × (entries ≡ before ++ e ∷ [])

abbrev pub last_place : {A : Type 0} → List A → ℕ
last_place entries = length entries - 1

-- the reply to the call is right at this index of the entries: right for the opening settings, after the
-- opening history followed by the entries before the index
abbrev pub IsRightAt : {M N T C A : Type 0} → (M → List (ℕ × N)) → (M → T) →
    (T → List (ℕ × N) → ℕ → C → A → Type 0) → GateView M → List (ℕ × N) → ℕ → ℕ → C → A → Type 0
IsRightAt past settings right g entries place caller call reply =
    right (settings g.opening.machine) (past g.opening.machine ++ take place entries) caller call reply

-- the replies to these calls, which a caller makes one after another, are right: each is right for these
-- settings, after the entries before it
abbrev pub AreRight : {N T C A : Type 0} → (C → N) → (T → List (ℕ × N) → ℕ → C → A → Type 0) → T →
    List (ℕ × N) → ℕ → List C → List A → Type 0
AreRight note right settings past caller [] [] = Unit {0}
AreRight note right settings past caller (call ∷ calls) (reply ∷ replies) =
    right settings past caller call reply ×
    AreRight note right settings (past ++ (caller, note call) ∷ []) caller calls replies
AreRight note right settings past caller _ _ = ⊥

-- A seat has made these calls, one after another: `old` before them and `new` after them. `before` are the
-- entries of the gate before these calls.
pub record HasMadeAll {M N T C A : Type 0} (past : M → List (ℕ × N)) (settings : M → T) (note : C → N)
    (right : T → List (ℕ × N) → ℕ → C → A → Type 0) (g : GateView M) (old new : SeatView M N)
    (calls : List C) (replies : List A) : Type 0 where
  pub before : List (ℕ × N)
  -- the seat had seen no more than these
  pub grown : IsPrefix old.seen before
  -- it has seen these, and then its own calls, in order
  pub entries : new.seen ≡ before ++ entries_by old.number (map note calls)
  pub own : new.own ≡ old.own ++ numbers_from (length before) calls
  -- each reply is right at its place
  pub each : AreRight note right (settings g.opening.machine) (past g.opening.machine ++ before) old.number
      calls replies

-- the part of the machine's history that was made since the gate was made
abbrev pub made_since : {M N : Type 0} → (M → List (ℕ × N)) → GateView M → M → List (ℕ × N)
made_since past g m = drop (length (past g.opening.machine)) (past m)
