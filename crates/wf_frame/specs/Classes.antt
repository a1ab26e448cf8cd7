-- Defines access classes and their TIDs (IEEE 802.11-2012, 9.2.4.2 and table 9-1), and the table of fates.
use Rattle.std.specs.Prelude.{ℕ, zero, suc, ◌+◌, ◌*◌, ◌/◌, ◌%◌, ◌==◌, Bool, List, [], ◌∷◌, codes, Option, find}
use Rattle.std.specs.Str.{bytes_eq}
use Rattle.wf_frame.specs.declared.classes.Class.{Class}
use Rattle.wf_frame.specs.declared.classes.Class.TheVariants.{Bk, Be, Vi, Vo}
use Rattle.wf_frame.specs.declared.classes.Cause.TheVariants.{Overlimit, Codel, Retries, Left, Flushed, Ended}
use Rattle.wf_frame.specs.declared.classes.Fate.{Fate}
use Rattle.wf_frame.specs.declared.classes.Fate.TheVariants.{Held, Acked, Dropped}

-- the number of a class: its place, the least urgent first
abbrev pub class_number : Class → ℕ
class_number Bk = 0
class_number Be = 1
class_number Vi = 2
class_number Vo = 3

-- the lesser TID of a class
abbrev pub lower_tid : Class → ℕ
lower_tid Bk = 1
lower_tid Be = 0
lower_tid Vi = 4
lower_tid Vo = 6

-- the greater TID of a class
abbrev pub upper_tid : Class → ℕ
upper_tid Bk = 2
upper_tid Be = 3
upper_tid Vi = 5
upper_tid Vo = 7

-- the class of each TID from 0 on; after the last TID it is Vo
abbrev pub class_among : List Class → ℕ → Class
class_among [] tid = Vo
class_among (c ∷ cs) zero = c
class_among (c ∷ cs) (suc tid) = class_among cs tid

-- the class of a TID
abbrev pub class_of : ℕ → Class
class_of tid = class_among (Be ∷ Bk ∷ Bk ∷ Be ∷ Vi ∷ Vi ∷ Vo ∷ Vo ∷ []) tid

-- the number of TID t of station s among the TIDs of all stations: the eight of station 0 come first
abbrev pub tid_number : ℕ → ℕ → ℕ
tid_number s t = 8 * s + t

-- whether two classes are equal
abbrev pub same_class : Class → Class → Bool
same_class c d = class_number c == class_number d

-- the four classes, the least urgent first
abbrev pub all_classes : List Class
all_classes = Bk ∷ Be ∷ Vi ∷ Vo ∷ []

-- the greatest number of a set of classes: all four are in it
abbrev pub greatest_classes : ℕ
greatest_classes = 15

-- whether a class is in the set with this number: class number c is, if bit c is 1
abbrev pub has_class : ℕ → Class → Bool
has_class classes Bk = classes % 2 == 1
has_class classes Be = classes / 2 % 2 == 1
has_class classes Vi = classes / 4 % 2 == 1
has_class classes Vo = classes / 8 % 2 == 1

-- the word of a class in texts
abbrev pub class_word : Class → List ℕ
class_word Bk = codes "bk"
class_word Be = codes "be"
class_word Vi = codes "vi"
class_word Vo = codes "vo"

-- the class with this word
abbrev pub class_named : List ℕ → Option Class
class_named word = find (λ class. bytes_eq (class_word class) word) all_classes

-- a row of the table of fates: the number of a fate in C, and its word in texts
abbrev pub fate_row : Fate → ℕ × List ℕ
fate_row Held = (0, codes "held")
fate_row Acked = (1, codes "acked")
fate_row (Dropped Overlimit) = (2, codes "overlimit")
fate_row (Dropped Codel) = (3, codes "codel")
fate_row (Dropped Retries) = (4, codes "retries")
fate_row (Dropped Left) = (5, codes "left")
fate_row (Dropped Flushed) = (6, codes "flushed")
fate_row (Dropped Ended) = (7, codes "ended")

-- the number of a fate
abbrev pub fate_number : Fate → ℕ
fate_number fate = (fate_row fate).0

-- the word of a fate
abbrev pub fate_word : Fate → List ℕ
fate_word fate = (fate_row fate).1

-- the fates by their numbers
abbrev pub fates : List Fate
fates =
    Held ∷ Acked ∷ Dropped Overlimit ∷ Dropped Codel ∷ Dropped Retries ∷ Dropped Left ∷ Dropped Flushed
    ∷ Dropped Ended ∷ []

-- the fate with this number
abbrev pub fate_numbered : ℕ → Option Fate
fate_numbered number = find (λ fate. fate_number fate == number) fates
