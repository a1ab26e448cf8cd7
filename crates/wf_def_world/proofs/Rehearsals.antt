-- Abbreviations for worked histories and their texts.
use Rattle.std.specs.Prelude.{ℕ, zero, suc, true, List, [], ◌∷◌, ◌++◌, None, map}
use Rattle.std.specs.Fmt.{decimal}
use Rattle.std.specs.List.{concat}
use Rattle.wf_frame.specs.declared.classes.Class.{Class}
use Rattle.wf_frame.specs.declared.notes.Ask.TheVariants.{Pull, Arrive, Answer, Done}
use Rattle.wf_frame.specs.declared.notes.Note.{Note}
use Rattle.wf_frame.specs.declared.notes.Note.TheVariants.{Asked}
use Rattle.wf_def_lists.specs.Table.{upto}
use Rattle.wf_frame.specs.Calls.{no_limits}

-- n equal calls
abbrev pub times : ℕ → Note → List Note
times zero note = []
times (suc n) note = note ∷ times n note

-- exchange e of a class, from its pull to its end: all n transmissions arrive, and the answer is heard
abbrev pub served : Class → ℕ → ℕ → List Note
served c e n = Asked (Pull c no_limits) ∷ [] ++ map (λ i. Asked (Arrive e i)) (upto n) ++ Asked (Answer e)
    ∷ Asked (Done e true None) ∷ []

-- for each number below n a line with this word and the number
abbrev pub each_line : List ℕ → ℕ → List ℕ
each_line word n = concat (map (λ k. word ++ decimal k ++ 10 ∷ []) (upto n))
