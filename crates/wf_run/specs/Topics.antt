-- Defines the topics of the help, their words and their texts.
use Rattle.std.specs.Prelude.{ℕ, List, [], ◌∷◌, codes, Option, find}
use Rattle.std.specs.Str.{bytes_eq}
use Rattle.wf_run.specs.declared.help.texts.TheConstants as text
use Rattle.wf_run.specs.declared.help.topic.Topic.{Topic}
use Rattle.wf_run.specs.declared.help.topic.Topic.TheVariants.{Overview, Replay, Soak, Live, Session, Uplink, Frames, Faults}

-- The word of a topic: the command's, `faults`, or `help` for all commands.
abbrev pub topic_word : Topic → List ℕ
topic_word Overview = codes "help"
topic_word Replay = codes "replay"
topic_word Soak = codes "soak"
topic_word Live = codes "live"
topic_word Session = codes "session"
topic_word Uplink = codes "uplink"
topic_word Frames = codes "frames"
topic_word Faults = codes "faults"

-- The topics that `help WORD` accepts.
abbrev pub named_topics : List Topic
named_topics = Replay ∷ Soak ∷ Live ∷ Session ∷ Uplink ∷ Frames ∷ Faults ∷ []

-- The topic that has this word.
unfoldable pub topic_named : List ℕ → Option Topic
topic_named word = find (λ topic. bytes_eq (topic_word topic) word) named_topics

-- The help on a topic, from src/help/texts.rt.
abbrev pub help_text : Topic → List ℕ
help_text Overview = text.OVERVIEW.now
help_text Replay = text.REPLAY.now
help_text Soak = text.SOAK.now
help_text Live = text.LIVE.now
help_text Session = text.SESSION.now
help_text Uplink = text.UPLINK.now
help_text Frames = text.FRAMES.now
help_text Faults = text.FAULTS.now

-- The text that `wf --version` writes.
abbrev pub version_text : List ℕ
version_text = text.VERSION.now
