-- Defines the flags of a transmit half, which say in which classes each station is ready.
use Rattle.std.specs.Prelude.{◌≡◌, ◌<◌, ℕ, ◌^◌, Bool, false, List, [], length, count_by, map, replicate, get_or, slice_set}
use Rattle.wf_frame.specs.declared.classes.Class.{Class}
use Rattle.wf_frame.specs.declared.classes.Class.TheVariants.{Bk, Be, Vi, Vo}
use Rattle.wf_frame.specs.Classes.{all_classes, class_number}
use Rattle.wf_rotation.specs.Rotas.{is_ready as entry}
use Rattle.wf_send_half_model.specs.Half.{TransmitValue, is_ready_of}
use Rattle.wf_send_half.specs.Half.{HasUnheardWorld}

-- a list for each class, the least urgent first, with a flag for each station
abbrev pub Flags : Type 0
Flags = List (List Bool)

-- all flags of this many stations are down
abbrev pub all_down : ℕ → Flags
all_down stations = map (λ _. replicate stations false) all_classes

-- the flags of a class
abbrev pub flags_in : Flags → Class → List Bool
flags_in r c = get_or r (class_number c) []

-- the flags with this one of station s in a class
abbrev pub with_flag : Flags → Class → ℕ → Bool → Flags
with_flag r c s ready = slice_set r (class_number c) (slice_set (flags_in r c) s ready)

-- how many of these flags are up
abbrev pub count_up : List Bool → ℕ
count_up flags = count_by (λ up. up) flags

-- the counts of the flags that are up, by class
pub record AreCounts (r : Flags) (counts : List ℕ) : Type 0 where
  pub classes : length r ≡ 4
  pub four : length counts ≡ 4
  pub few : (c : Class) → length (flags_in r c) < 2 ^ 32
  pub right : (c : Class) → get_or counts (class_number c) 0 ≡ count_up (flags_in r c)

-- each class has a flag for station s
abbrev pub FlagsHaveRoom : Flags → ℕ → Type 0
FlagsHaveRoom r s = (c : Class) → s < length (flags_in r c)

-- the flags with the four of station s as v has them
abbrev pub with_flags : Flags → TransmitValue → ℕ → Flags
with_flags r v s =
    with_flag (with_flag (with_flag (with_flag r Bk s (is_ready_of v Bk s)) Be s (is_ready_of v Be s)) Vi s
    (is_ready_of v Vi s)) Vo s (is_ready_of v Vo s)

-- the flags of a class: one for each station, which is up exactly if the station is ready in the class
pub record TellsClass (v : TransmitValue) (c : Class) (flags : List Bool) : Type 0 where
  pub stations : length flags ≡ v.config.stations
  pub tells : (s : ℕ) → s < v.config.stations → entry flags s ≡ is_ready_of v c s

-- the flags of all classes
abbrev pub AreFlags : TransmitValue → Flags → Type 0
AreFlags v r = (c : Class) → TellsClass v c (flags_in r c)

-- the half represents an unheard world of a run, and its flags are right
pub record IsTracked (v : TransmitValue) (r : Flags) : Type 0 where
  pub some : HasUnheardWorld v
  pub flags : AreFlags v r
