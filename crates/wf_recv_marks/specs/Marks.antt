-- Defines the mark of an open exchange and how it changes.
use Rattle.std.specs.Prelude.{ℕ, ◌==◌, List, [], Some, None, if◌then◌else◌, map}
use Rattle.wf_def_lists.specs.Table.{with_member}
use Rattle.wf_recv_marks.specs.declared.marks.Mark.{Mark}

-- the number of the exchange
abbrev pub mark_number : Mark → ℕ
mark_number m = m.number

-- the mark of an exchange that opens, of which nothing arrived
abbrev pub new_mark : ℕ → Mark
new_mark number = record { number = number; arrived = []; answer = None }

-- one more transmission arrived
abbrev pub with_arrival : ℕ → Mark → Mark
with_arrival index m = record m { arrived = with_member index m.arrived }

-- the station answered with a BlockAck of this start and these offsets
abbrev pub with_answer : ℕ → List ℕ → Mark → Mark
with_answer start offsets m = record m { answer = Some (start, offsets) }

-- the marks with f applied to the one with this number, and all others unchanged
abbrev pub with_changed : ℕ → (Mark → Mark) → List Mark → List Mark
with_changed number f marks = map (λ m. if m.number == number then f m else m) marks
