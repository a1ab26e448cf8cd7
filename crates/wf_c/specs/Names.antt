-- Defines the words for numbers: those of the trace grammar, if it has one.
use Rattle.std.specs.Prelude.{ℕ, ℤ, pos, ◌-◌, ◌==◌, List, [], ◌∷◌, ◌++◌, if◌then◌else◌, codes, length, Option, Some, None, option_map, replicate}
use Rattle.wf_frame.specs.Classes.{fate_word, fate_numbered}
use Rattle.wf_frame.specs.Refusals.{refusal_word, refusal_numbered}
use Rattle.wf_frame.specs.Settings.{setting_word, setting_numbered}
use Rattle.wf_def_world.specs.Refusals.{is_within}

-- the size of a name in octets
abbrev pub name_octets : ℕ
name_octets = 16

-- a word as a name: the rest, at least one octet, is 0
abbrev pub name_text : List ℕ → List ℕ
name_text word = word ++ replicate (name_octets - length word) 0

-- the word for a number without a meaning
abbrev pub unknown : List ℕ
unknown = codes "?"

-- the word for a number in a table, or the unknown one
abbrev pub word_among : List (ℕ × List ℕ) → ℕ → List ℕ
word_among [] n = unknown
word_among (row ∷ rows) n = if n == row.0 then row.1 else word_among rows n

-- a word, or the unknown one
abbrev pub word_or_unknown : Option (List ℕ) → List ℕ
word_or_unknown None = unknown
word_or_unknown (Some word) = word

-- the word for an integer; below 0 it is the unknown one
abbrev pub word_at : (ℕ → List ℕ) → ℤ → List ℕ
word_at words (pos n) = words n
word_at words _ = unknown

-- the first of some words
abbrev pub first_word : List (List ℕ) → List ℕ
first_word [] = []
first_word (word ∷ words) = word

-- ---- codes

-- the word for a refusal, by its number
abbrev pub refusal_word_at : ℕ → List ℕ
refusal_word_at n = word_or_unknown (option_map refusal_word (refusal_numbered n))

-- the words for why octets are not a BlockAck to an exchange
abbrev pub block_rows : List (ℕ × List ℕ)
block_rows =
    (71, codes "block-length") ∷ (72, codes "block-kind") ∷ (73, codes "block-basic") ∷
    (74, codes "block-multi") ∷ (75, codes "block-fragment") ∷ (76, codes "block-narrow") ∷
    (77, codes "not-mine") ∷ (78, codes "wrong-tid") ∷ []

-- the word for such a code
abbrev pub block_word : ℕ → List ℕ
block_word = word_among block_rows

-- the words for the other codes
abbrev pub own_rows : List (ℕ × List ℕ)
own_rows =
    (0, codes "ok") ∷ (60, codes "no-memory") ∷ (61, codes "bad-length") ∷ (62, codes "small-buffer") ∷
    (63, codes "bad-call") ∷ (64, codes "bad-address") ∷ (65, codes "no-body") ∷ (66, codes "bad-aid") ∷
    (67, codes "bad-class") ∷ (68, codes "bad-outcome") ∷ (69, codes "in-use") ∷ []

-- the word for such a code
abbrev pub own_word : ℕ → List ℕ
own_word = word_among own_rows

-- the word for any code: 1 to 59 are for refusals, and 101 to 132 for settings, by their places
abbrev pub code_word : ℕ → List ℕ
code_word n =
    if is_within 1 59 n then refusal_word_at n
    else (if is_within 71 78 n then block_word n
    else (if is_within 101 132 n then codes "bad-setting"
    else own_word n))

-- ---- answers, fates, settings

-- the words for kinds of answers, which begin their lines
abbrev pub kind_rows : List (ℕ × List ℕ)
kind_rows =
    (0, codes "joined") ∷ (1, codes "left") ∷ (2, codes "set") ∷ (3, codes "now") ∷ (4, codes "accepted") ∷
    (5, codes "send") ∷ (6, codes "released") ∷ (7, codes "ba") ∷ (8, codes "done") ∷ (9, codes "slept") ∷
    (10, codes "woken") ∷ (11, codes "polled") ∷ (12, codes "charged") ∷ (13, codes "reaped") ∷
    (14, codes "refused") ∷ (15, codes "stopped") ∷ (16, codes "started") ∷
    (17, codes "marked") ∷ (18, codes "flushed") ∷
    (19, codes "ack") ∷ (20, codes "held") ∷ (21, codes "begun") ∷ (22, codes "freed") ∷
    (23, codes "ceased") ∷ (24, codes "queued") ∷ (25, codes "beacon") ∷ (26, codes "gsend") ∷
    (27, codes "gdone") ∷ (28, codes "triggered") ∷ (29, codes "ended") ∷ []

-- the word for a kind of answer
abbrev pub answer_word : ℕ → List ℕ
answer_word = word_among kind_rows

-- the word for a fate, by its number
abbrev pub fate_word_at : ℕ → List ℕ
fate_word_at n = word_or_unknown (option_map fate_word (fate_numbered n))

-- the word for a setting, by its place, which is its number
abbrev pub setting_word_at : ℕ → List ℕ
setting_word_at n = word_or_unknown (option_map setting_word (setting_numbered n))
