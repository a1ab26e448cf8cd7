-- Defines which command the words of a command line ask for.
use Rattle.std.specs.Prelude.{ℕ, Bool, ◌≤◌, ◌^◌, ◌-◌, nat_le, ◌&&◌, List, [], ◌∷◌, codes, Option, Some, None, option_map, ◌||◌, if◌then◌else◌}
use Rattle.std.specs.List.{list_any}
use Rattle.std.specs.Str.{bytes_eq}
use Rattle.wf_io.specs.Digits.{value_from}
use Rattle.wf_trace.specs.Words.{is_plain_number}
use Rattle.wf_run.specs.Topics.{topic_named}
use Rattle.wf_run.specs.declared.help.topic.Topic.{Topic}
use Rattle.wf_run.specs.declared.help.topic.Topic.TheVariants.{Overview}
use Rattle.wf_run_histories.specs.declared.soak.soaks.SoakKind.{SoakKind}
use Rattle.wf_run_histories.specs.declared.soak.soaks.SoakKind.TheVariants as soak
use Rattle.wf_run.specs.declared.help.words.Command.{Command}
use Rattle.wf_run.specs.declared.help.words.Command.TheVariants.{Replay, Soak, Live, Session, Uplink, Frames, Capture, Help, Version}

-- The number that a word is, if it is between `low` and `high`, both included.
unfoldable pub number_within : ℕ → ℕ → List ℕ → Option ℕ
number_within low high word =
    if is_plain_number word && nat_le low (value_from 0 word) && nat_le (value_from 0 word) high
    then Some (value_from 0 word) else None

unfoldable pub soak_of : Option ℕ → Option ℕ → SoakKind → Option Command
soak_of (Some seed) (Some calls) kind = Some (Soak seed calls kind)
soak_of (Some seed) None kind = None
soak_of None calls kind = None

unfoldable pub live_of : Option ℕ → Option ℕ → Option ℕ → Option Command
live_of (Some seed) (Some senders) (Some frames) = Some (Live seed senders frames)
live_of (Some seed) (Some senders) None = None
live_of (Some seed) None frames = None
live_of None senders frames = None

-- A soak has 1 to 1,000,000 calls; `live` has 1 to 8 senders, with 1 to 10,000 frames each.
abbrev pub HasCallsInRange : Command → Type 0
HasCallsInRange (Soak seed calls kind) = (1 ≤ calls) × (calls ≤ 1000000)
HasCallsInRange (Live seed senders frames) = ((1 ≤ senders) × (senders ≤ 8)) ×
    ((1 ≤ frames) × (frames ≤ 10000))
HasCallsInRange command = Unit {0}

-- The command of one word.
unfoldable pub word_command : List ℕ → Option Command
word_command word =
    if bytes_eq word (codes "replay") then Some Replay
    else (if bytes_eq word (codes "session") then Some Session
    else (if bytes_eq word (codes "uplink") then Some Uplink
    else (if bytes_eq word (codes "frames") then Some Frames
    else (if bytes_eq word (codes "help") then Some (Help Overview)
    else (if bytes_eq word (codes "--version") then Some Version else None)))))

-- The command that writes the help on the topic with this word.
unfoldable pub help_on : List ℕ → Option Command
help_on word = option_map Help (topic_named word)

-- The command of two words.
unfoldable pub two_words_command : List ℕ → List ℕ → Option Command
two_words_command word option =
    if bytes_eq word (codes "replay") && bytes_eq option (codes "--pcap") then Some Capture
    else (if bytes_eq word (codes "help") then help_on option else None)

-- The command of three words, and of these and the word for a kind of soak.
unfoldable pub soak_command : List ℕ → List ℕ → List ℕ → SoakKind → Option Command
soak_command word seed calls kind =
    if bytes_eq word (codes "soak")
    then soak_of (number_within 0 (2 ^ 64 - 1) seed) (number_within 1 1000000 calls) kind
    else None

-- The command of four words, of which the last is not the word for a kind of soak.
unfoldable pub live_command : List ℕ → List ℕ → List ℕ → List ℕ → Option Command
live_command word seed senders frames =
    if bytes_eq word (codes "live")
    then live_of (number_within 0 (2 ^ 64 - 1) seed) (number_within 1 8 senders)
    (number_within 1 10000 frames)
    else None

unfoldable pub four_words_command : List ℕ → List ℕ → List ℕ → List ℕ → Option Command
four_words_command word one two three =
    if bytes_eq three (codes "device") then soak_command word one two soak.Devices
    else if bytes_eq three (codes "agreements") then soak_command word one two soak.Agreements
    else live_command word one two three

-- The command of words that do not ask for help by `--help` or `-h`: `replay`, `session`, `uplink`, `frames`,
-- `help`, `--version`, `replay --pcap`, `help COMMAND`, `soak SEED CALLS`, `soak SEED CALLS device`,
-- `soak SEED CALLS agreements` and `live SEED SENDERS FRAMES`.
abbrev pub played_command_of : List (List ℕ) → Option Command
played_command_of [] = None
played_command_of (word ∷ []) = word_command word
played_command_of (word ∷ option ∷ []) = two_words_command word option
played_command_of (word ∷ seed ∷ calls ∷ []) = soak_command word seed calls soak.Standard
played_command_of (word ∷ one ∷ two ∷ three ∷ []) = four_words_command word one two three
played_command_of (word ∷ one ∷ two ∷ three ∷ other ∷ words) = None

-- A word that asks for help, wherever it is in the command line.
abbrev pub asks_help : List ℕ → Bool
asks_help word = bytes_eq word (codes "--help") || bytes_eq word (codes "-h")

-- The first topic if there is one, otherwise the second.
abbrev pub topic_or : Option Topic → Topic → Topic
topic_or (Some topic) other = topic
topic_or None other = other

-- The topic of the first word that has one, or all commands.
abbrev pub topic_among : List (List ℕ) → Topic
topic_among [] = Overview
topic_among (word ∷ words) = topic_or (topic_named word) (topic_among words)

-- The command that the words of the command line ask for.
abbrev pub command_of : List (List ℕ) → Option Command
command_of words =
    if list_any asks_help words then Some (Help (topic_among words))
    else played_command_of words
