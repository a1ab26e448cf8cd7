-- Defines what a list of calls leaves and answers, from any world on.
use Rattle.std.specs.Prelude.{ℕ, List, [], ◌∷◌}
use Rattle.wf_frame.specs.declared.settings.Config.{Config}
use Rattle.wf_frame.specs.declared.notes.Note.{Note}
use Rattle.wf_frame.specs.declared.notes.ReplyNote.{ReplyNote}
use Rattle.wf_def_world.specs.World.{World, opening}
use Rattle.wf_def_world.specs.Step.{Outcome, step}

-- an entry of a history: the caller and the call
abbrev pub Entry : Type 0
Entry = ℕ × Note

-- the entry of a caller and its call
abbrev pub by : ℕ → Note → Entry
by caller note = (caller, note)

-- the world after a history
unfoldable pub world_after : World → List Entry → World
world_after w [] = w
world_after w (e ∷ es) = world_after (step w e.1).world es

-- the reply to each entry of a history
unfoldable pub replies : World → List Entry → List ReplyNote
replies w [] = []
replies w (e ∷ es) = let o : Outcome = step w e.1 in o.reply ∷ replies o.world es

-- the past of a cell: its settings and its history
pub record Past : Type 0 where
  pub config : Config
  pub history : List Entry

-- the world of a cell with this past
abbrev pub world_of : Past → World
world_of p = world_after (opening p.config) p.history
