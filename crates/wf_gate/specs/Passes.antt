-- Defines the conditions on a pass (the token of a seat) before and after each step of a turn.
use Rattle.std.specs.Prelude.{◌≡◌, ℕ, ◌+◌, ◌≤◌, List, [], ◌∷◌, ◌++◌, length, Option, Some, slice_index_or}
use mathlib.Core.Option.{some}
use mathlib.Core.List.{IsPrefix}
use lib.ListN.{get_elem?}
use Rattle.atomic_table.specs.Table.{Me}
use Rattle.atomic_table.specs.Seated.{TableId}
use Rattle.atomic_table.specs.declared.shared.Seat.{Seat}
use Rattle.wf_gate.specs.declared.view.Face.{Face}
use Rattle.wf_gate.specs.declared.view.Opening.{Opening}
use Rattle.wf_gate.specs.declared.view.View.{View}
use Rattle.wf_gate.specs.declared.view.Stage.TheVariants.{Served}
use Rattle.wf_gate.specs.Turns.{IsAt, AllSeats, at_turn, places}

-- a gate's table has two words and one slot
abbrev pub IsTableSized : TableId → Type 0
IsTableSized z = (z.words ≡ 2) × (z.slots ≡ 1)

module _ {M N : Type 0} where
  -- p is a pass of the table z, with the opening o
  abbrev pub IsPassOf : TableId → Opening M → Seat (Option M) (View M N) → Type 0
  IsPassOf z o p = (p.table_id ≡ z) × (p.me.0.opening ≡ Some o)

  -- the seat may make this many more calls
  abbrev pub MayDraw : Opening M → Face N → ℕ → Type 0
  MayDraw o f count = length f.own + count ≤ slice_index_or o.quotas f.number 0

module _ {M N T : Type 0} (past : M → List (ℕ × N)) (settings : M → T) (spare : M → ℕ) where
  -- the seat, whose view was v, has its turn with the tickets from t on, this many: it has seen the history
  -- h, and has the machine y after h, which has room for a call for each ticket
  abbrev pub HasTurn : Opening M → ℕ → ℕ → View M N → Me (Option M) (View M N) → Type 0
  HasTurn o t count v m = (h : List (ℕ × N)) × (y : M) × (read : Option ℕ) × IsPrefix v.face.seen h ×
      (m ≡ (at_turn v t count read h, (0, Some y) ∷ [])) × IsAt past settings spare o h y × AllSeats o h ×
      (length h + count ≤ spare o.machine)

  -- the same, for a pass whose earlier view is not known
  abbrev pub AtTurn : Opening M → ℕ → Me (Option M) (View M N) → Type 0
  AtTurn o count m = (t : ℕ) × (m.0.stage ≡ Served t count) ×
      ((y : M) × (m.1 ≡ (0, Some y) ∷ []) × IsAt past settings spare o m.0.face.seen y) ×
      (length m.0.face.seen + count ≤ spare o.machine)

abbrev pub with_read : {M N : Type 0} → View M N → Option ℕ → View M N
with_read v read = record v { read = read }

-- h is the history since the gate was made: the seat has seen a prefix of it, its own entries are those of
-- its number, and each ticket that it found is at most the length of h
abbrev pub IsInGate : {N : Type 0} → List (ℕ × N) → Face N → Type 0
IsInGate h f = IsPrefix f.seen h × (f.own ≡ places f.number 0 h) ×
    ((k : ℕ) (p : ℕ × ℕ) → get_elem? f.looks k ≡ some p → p.1 ≤ length h)

-- the machine m after the gate is closed, when the seats with these faces were joined
abbrev pub GateEnds : {M N T : Type 0} → (M → List (ℕ × N)) → (M → T) → Opening M → List (Face N) → M → Type 0
GateEnds {M} {N} past settings o faces m = (h : List (ℕ × N)) × (past m ≡ past o.machine ++ h) ×
    (settings m ≡ settings o.machine) × AllSeats o h ×
    ((i : ℕ) (f : Face N) → get_elem? faces i ≡ some f → IsInGate h f)
