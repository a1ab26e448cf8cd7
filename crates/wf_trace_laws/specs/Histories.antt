-- Defines the settings and the history of a trace.
use Rattle.std.specs.Prelude.{List, [], ◌∷◌, Option, Some, None}
use Rattle.wf_frame.specs.declared.settings.Config.{Config}
use Rattle.wf_trace.specs.declared.reader.Item.{Item}
use Rattle.wf_trace.specs.declared.reader.Item.TheVariants as item
use Rattle.wf_def_world.specs.Run.{Entry, by}

-- the settings of a trace, if it has a head
abbrev pub settings_among : List Item → Option Config
settings_among [] = None
settings_among (item.Head config ∷ items) = Some config
settings_among (item.Entry caller note ∷ items) = settings_among items
settings_among (item.Finish ∷ items) = settings_among items
settings_among (item.Bad fault ∷ items) = settings_among items

-- the history of a trace: its calls in order, each with its caller
abbrev pub history_among : List Item → List Entry
history_among [] = []
history_among (item.Head config ∷ items) = history_among items
history_among (item.Entry caller note ∷ items) = by caller note ∷ history_among items
history_among (item.Finish ∷ items) = history_among items
history_among (item.Bad fault ∷ items) = history_among items
