-- Defines the entries of a history that exists only in contracts.
use Rattle.std.specs.Prelude.{ℕ, List, [], ◌∷◌, ◌++◌}
use Rattle.wf_machine.specs.declared.history.Chain.{Chain, Start, Then'}

-- the entries of a chain, in order: the caller and the note of each
abbrev pub chain_entries : {N : Type 0} → Chain N → List (ℕ × N)
chain_entries Start = []
chain_entries (Then' marker before caller note) = chain_entries before ++ (caller, note.value) ∷ []
