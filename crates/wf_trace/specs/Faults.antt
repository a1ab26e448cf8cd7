-- Defines the faults of a trace: the order of their kinds within a line, and the line of a fault.
use Rattle.std.specs.Prelude.{ℕ, List, [], ◌∷◌, codes, decimal, nat_le, if◌then◌else◌, Option, Some, None}
use Rattle.wf_frame.specs.Words.{line}
use Rattle.wf_trace.specs.declared.fault.Fault.{Fault}
use Rattle.wf_trace.specs.declared.fault.FaultKind.{FaultKind}
use Rattle.wf_trace.specs.declared.fault.FaultKind.TheVariants as kind

-- the number of a kind. If a line has several faults, the one with the least number is reported.
abbrev pub rank : FaultKind → ℕ
rank kind.TooBig = 1
rank kind.LongLine = 2
rank kind.NotAscii = 3
rank kind.Word = 4
rank kind.Count = 5
rank kind.Number = 6
rank kind.Range = 7
rank kind.NoHead = 8
rank kind.NoEnd = 9
rank kind.TooLong = 10

-- which of two faults of a line is reported
abbrev pub earlier_fault : FaultKind → FaultKind → FaultKind
earlier_fault one two = if nat_le (rank one) (rank two) then one else two

-- the same if the first may be absent
abbrev pub first_fault : Option FaultKind → FaultKind → FaultKind
first_fault None other = other
first_fault (Some fault) other = earlier_fault fault other

-- the word of a kind
abbrev pub kind_name : FaultKind → List ℕ
kind_name kind.TooBig = codes "too-big"
kind_name kind.LongLine = codes "long-line"
kind_name kind.NotAscii = codes "not-ascii"
kind_name kind.Word = codes "word"
kind_name kind.Count = codes "count"
kind_name kind.Number = codes "number"
kind_name kind.Range = codes "range"
kind_name kind.NoHead = codes "no-head"
kind_name kind.NoEnd = codes "no-end"
kind_name kind.TooLong = codes "too-long"

-- the line of a fault, `fault line N KIND`, with the octet 10
abbrev pub fault_line : Fault → List ℕ
fault_line fault = line (codes "fault" ∷ codes "line" ∷ decimal fault.line ∷ kind_name fault.kind ∷ [])
