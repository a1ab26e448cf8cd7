-- Defines the words of a line, and how they are written.
use Rattle.std.specs.Prelude.{ℕ, List, [], ◌∷◌, length, decimal}
use Rattle.std.specs.Fmt.{signed_decimal}
use Rattle.std.specs.List.{join_with_byte}
use Rattle.wf_io.specs.declared.line.Word.{Word}
use Rattle.wf_io.specs.declared.line.Word.TheVariants.{Text, Number, Signed}

abbrev pub words_text : Word → List ℕ
words_text (Text text) = text.now
words_text (Number number) = decimal number
words_text (Signed number) = signed_decimal number

-- the greatest width of a word in octets
abbrev pub width_of : Word → ℕ
width_of (Text text) = length text.now
width_of (Number number) = 20
width_of (Signed number) = 21

-- words with a space before each
abbrev pub spaced : List (List ℕ) → List ℕ
spaced [] = []
spaced (word ∷ words) = 32 ∷ join_with_byte 32 (word ∷ words)
