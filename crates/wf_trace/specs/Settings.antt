-- Defines how the settings of a head are read: words of a name, = and a number, each name at most once.
use Rattle.std.specs.Prelude.{ℕ, List, [], ◌∷◌, Bool, true, false, ◌-◌, ◌==◌, if◌then◌else◌, Option, Some, None, Result, Ok, Err, slice_index_or, slice_set}
use Rattle.wf_trace.specs.declared.fault.FaultKind.{FaultKind}
use Rattle.wf_trace.specs.declared.fault.FaultKind.TheVariants as kind
use Rattle.wf_frame.specs.declared.settings.Config.{Config}
use Rattle.wf_frame.specs.declared.settings.Field.{Field}
use Rattle.wf_frame.specs.Settings.{setting_number, setting_named, lowest_of, greatest_of, with_value}
use Rattle.wf_trace.specs.Faults.{earlier_fault}
use Rattle.wf_trace.specs.Words.{number_of, in_range}

-- the value of a setting, given its text
abbrev pub value_read : Field → List ℕ → Result ℕ FaultKind
value_read field text = in_range (lowest_of field) (greatest_of field) (number_of text)

-- the index of a setting among those that were seen, from 0 on
abbrev pub place_of : Field → ℕ
place_of field = setting_number field - 1

-- an octet added at the front of the name
abbrev pub grown : ℕ → Option (List ℕ × List ℕ) → Option (List ℕ × List ℕ)
grown octet None = None
grown octet (Some p) = Some (octet ∷ p.0, p.1)

-- the parts of a word before and after its first =
abbrev pub split_once : List ℕ → Option (List ℕ × List ℕ)
split_once [] = None
split_once (octet ∷ octets) = if octet == 61 then Some ([], octets) else grown octet (split_once octets)

-- a setting, if there is one, with the text of its value
abbrev pub beside : Option Field → List ℕ → Option (Field × List ℕ)
beside None value = None
beside (Some field) value = Some (field, value)

-- the setting that a word sets, with the text of its value
abbrev pub named_field : Option (List ℕ × List ℕ) → Option (Field × List ℕ)
named_field None = None
named_field (Some p) = beside (setting_named p.0) p.1

-- a result with one more fault
abbrev pub worse : FaultKind → Result Config FaultKind → Result Config FaultKind
worse fault (Ok config) = Err fault
worse fault (Err other) = Err (earlier_fault fault other)

-- whether a setting was seen before
abbrev pub was_seen : List Bool → Field → Bool
was_seen seen field = slice_index_or seen (place_of field) false

-- the settings with this value, as the other words go on with them
abbrev pub placed : Result ℕ FaultKind → Field → Config → (Config → Result Config FaultKind) →
    Result Config FaultKind
placed (Ok value) field config others = others (with_value config field value)
placed (Err fault) field config others = worse fault (others config)

-- what one word sets, and what the other words make of it. A word that sets no setting, or one that was
-- seen, has the fault Word.
abbrev pub set_one : Option (Field × List ℕ) → List Bool → Config →
    (List Bool → Config → Result Config FaultKind) → Result Config FaultKind
set_one None seen config others = worse kind.Word (others seen config)
set_one (Some p) seen config others =
    if was_seen seen p.0 then worse kind.Word (others seen config)
    else placed (value_read p.0 p.1) p.0 config
    (others (slice_set seen (place_of p.0) true))

-- the settings of these words, given the settings that were seen
abbrev pub read_words : List (List ℕ) → List Bool → Config → Result Config FaultKind
read_words [] seen config = Ok config
read_words (word ∷ words) seen config = set_one (named_field (split_once word)) seen config (read_words words)

-- a result with the fault of one word, if it has one
abbrev pub after_fault : Option FaultKind → Result Config FaultKind → Result Config FaultKind
after_fault None read = read
after_fault (Some fault) read = worse fault read
