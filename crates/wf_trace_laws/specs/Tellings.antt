-- Defines what a command writes for a trace, item by item.
use Rattle.std.specs.Prelude.{ℕ, List, [], ◌∷◌, ◌++◌, length, Option, Some, None}
use Rattle.wf_frame.specs.declared.settings.Config.{Config}
use Rattle.wf_frame.specs.declared.notes.Note.{Note}
use Rattle.wf_trace.specs.declared.reader.Item.{Item}
use Rattle.wf_trace.specs.declared.reader.Item.TheVariants.{Head, Entry, Finish, Bad}
use Rattle.wf_trace.specs.Reading.{Reading}
use Rattle.wf_def_world.specs.World.{World, opening}
use Rattle.wf_def_world.specs.Step.{Outcome, step}
use Rattle.wf_def_world.specs.Run.{Entry as Called, world_after}
use Rattle.wf_trace_laws.specs.Histories.{settings_among, history_among}

-- The text of a command: the octets before all others, the octets of a call in the world before it, and the
-- last octets, which depend on the world, if there is one, on the number of calls, and on the ending.
pub record Telling : Type 0 where
  pub front : List ℕ
  pub call : World → Note → List ℕ
  pub last : Option World → ℕ → Option Item → List ℕ

-- the world after an item
abbrev pub behind_item : Option World → Item → Option World
behind_item w (Head config) = Some (opening config)
behind_item (Some w) (Entry caller note) = let o : Outcome = step w note in Some o.world
behind_item None (Entry caller note) = None
behind_item w Finish = w
behind_item w (Bad fault) = w

-- the octets that an item adds
abbrev pub told_item : Telling → Option World → Item → List ℕ
told_item t (Some w) (Entry caller note) = t.call w note
told_item t None (Entry caller note) = []
told_item t w (Head config) = []
told_item t w Finish = []
told_item t w (Bad fault) = []

-- the octets that calls add, in order
abbrev pub told_calls : Telling → World → List Called → List ℕ
told_calls t w [] = []
told_calls t w (e ∷ es) = t.call w e.1 ++ told_calls t (step w e.1).world es

-- the first octets and those of the calls, given the settings and the history; without a head there are no
-- calls
abbrev pub begun : Telling → Option Config → List Called → List ℕ
begun t None history = t.front
begun t (Some config) history = t.front ++ told_calls t (opening config) history

-- the world after a history
abbrev pub world_behind : Option Config → List Called → Option World
world_behind None history = None
world_behind (Some config) history = Some (world_after (opening config) history)

-- the text so far, and the whole text
abbrev pub told_so_far : Telling → Reading → List ℕ
told_so_far t r = begun t (settings_among r.items) (history_among r.items)

abbrev pub told_whole : Telling → Reading → List ℕ
told_whole t r =
    told_so_far t r ++ t.last (world_behind (settings_among r.items) (history_among r.items))
    (length (history_among r.items)) r.ending
