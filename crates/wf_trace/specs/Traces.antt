-- Defines the trace of a history, and what it says.
use Rattle.std.specs.Prelude.{◌≤◌, ℕ, List, [], ◌∷◌, ◌++◌, Some, codes}
use Rattle.wf_frame.specs.Words.{line}
use Rattle.wf_frame.specs.Settings.{standard}
use Rattle.wf_trace.specs.declared.reader.Item.{Item}
use Rattle.wf_trace.specs.declared.reader.Item.TheVariants.{Head, Entry as EntryItem, Finish}
use Rattle.wf_trace.specs.Meanings.{greatest_caller}
use Rattle.wf_trace.specs.Printing.{note_line, NumbersAreInRange, IsPrintable}
use Rattle.wf_trace.specs.Reading.{Reading}
use Rattle.wf_def_world.specs.Run.{Entry}

-- the first line, with the standard settings, and the last line
abbrev pub head_line : List ℕ
head_line = line (codes "cell" ∷ [])

abbrev pub end_line : List ℕ
end_line = line (codes "end" ∷ [])

-- the canonical lines of entries, in order
abbrev pub entry_lines : List Entry → List ℕ
entry_lines [] = []
entry_lines (e ∷ es) = note_line e.0 e.1 ++ entry_lines es

-- the trace of a history with the standard settings
abbrev pub trace_of : List Entry → List ℕ
trace_of history = head_line ++ entry_lines history ++ end_line

-- the entries as items of a trace
abbrev pub entry_items : List Entry → List Item
entry_items [] = []
entry_items (e ∷ es) = EntryItem e.0 e.1 ∷ entry_items es

-- what the trace says: the standard settings, the entries in order, and the end
abbrev pub trace_items : List Entry → Reading
trace_items history = record { items = Head standard ∷ entry_items history; ending = Some Finish }

-- each caller and each number of a call is in the range of its argument
abbrev pub CanBeNamed : List Entry → Type 0
CanBeNamed [] = Unit {0}
CanBeNamed (e ∷ es) = ((e.0 ≤ greatest_caller) × NumbersAreInRange e.1) × CanBeNamed es

-- a line has room for the caller and the numbers of each entry
abbrev pub ArePrintable : List Entry → Type 0
ArePrintable [] = Unit {0}
ArePrintable (e ∷ es) = ((e.0 ≤ greatest_caller) × IsPrintable e.1) × ArePrintable es
