-- Defines the lengths of the frames of a soak, in octets.
use Rattle.std.specs.Prelude.{ℕ, ◌≤◌, List, [], ◌∷◌}
use Rattle.wf_frame.specs.declared.notes.Note.{Note}
use Rattle.wf_frame.specs.declared.notes.Note.TheVariants.{Enqueue, Asked}
use Rattle.wf_def_world.specs.Run.{Entry}

abbrev pub least_length : ℕ
least_length = 64

abbrev pub greatest_length : ℕ
greatest_length = 1500

-- If the call has a frame, its length is between the two, both included.
abbrev pub HasSoakLength : Note → Type 0
HasSoakLength (Enqueue station tid flow len) = (least_length ≤ len) × (len ≤ greatest_length)
HasSoakLength (Asked ask) = Unit {0}

abbrev pub HaveSoakLengths : List Entry → Type 0
HaveSoakLengths [] = Unit {0}
HaveSoakLengths (e ∷ es) = HasSoakLength e.1 × HaveSoakLengths es
