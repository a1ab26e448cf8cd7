-- Defines the charges between two moments of a history, in microseconds, and the stretches over which
-- two stations' charges are compared. By "Ending the Anomaly" (USENIX ATC 2017), section 3.2, stations
-- that always have frames share airtime.
use Rattle.std.specs.Prelude.{◌≡◌, ℕ, ◌+◌, ◌-◌, ◌≤◌, ◌==◌, ◌&&◌, List, [], ◌∷◌, Option, Some, None, is_none, IsTrue, if◌then◌else◌, take, drop}
use Rattle.wf_frame.specs.declared.settings.Config.{Config}
use Rattle.wf_frame.specs.declared.classes.Class.{Class}
use Rattle.wf_frame.specs.declared.notes.Ask.TheVariants.{Done}
use Rattle.wf_frame.specs.declared.notes.Note.{Note}
use Rattle.wf_frame.specs.declared.notes.Note.TheVariants.{Asked}
use Rattle.wf_def_lists.specs.Table.{has}
use Rattle.wf_def_world.specs.World.{World, Exchange, opening, rotation, share, exchange}
use Rattle.wf_frame.specs.Classes.{same_class}
use Rattle.wf_def_world.specs.Exchanges.{charge_of}
use Rattle.wf_def_world.specs.Refusals.{refusal}
use Rattle.wf_def_world.specs.Step.{step}
use Rattle.wf_def_world.specs.Run.{Entry, world_after}

-- the world after the first m entries
abbrev pub world_at : Config → List Entry → ℕ → World
world_at config h m = world_after (opening config) (take m h)

-- the charge to a station in a class when this exchange ends; 0 if the exchange is not open
abbrev pub charge_to : ℕ → Class → Option ℕ → Option Exchange → ℕ
charge_to s c air None = 0
charge_to s c air (Some x) = if (x.station == s) && same_class x.class c then charge_of air x else 0

-- the charge to a station in a class by a call
abbrev pub charge_by : World → ℕ → Class → Note → ℕ
charge_by w s c (Asked (Done e heard air)) =
    if is_none (refusal w (Asked (Done e heard air))) then charge_to s c air (exchange w e) else 0
charge_by w s c _ = 0

-- the sum of the charges to a station in a class by the calls of a history
abbrev pub charges : World → ℕ → Class → List Entry → ℕ
charges w s c [] = 0
charges w s c (e ∷ es) = charge_by w s c e.1 + charges (step w e.1).world s c es

-- the sum of the charges to a station in a class by the Done calls after the first a entries, among the
-- first b
abbrev pub charged_between : Config → List Entry → ℕ → Class → ℕ → ℕ → ℕ
charged_between config h s c a b = charges (world_at config h a) s c (take (b - a) (drop a h))

-- a station is on the class's old list after the first m entries
abbrev pub IsOld : Config → List Entry → ℕ → Class → ℕ → Type 0
IsOld config h m c s = IsTrue (has (rotation (world_at config h m) c).old s)

-- a stretch: both stations are on the class's old list after each number of entries from a to b
pub record IsStretch (config : Config) (h : List Entry) (i j : ℕ) (c : Class) (a b : ℕ) : Type 0 where
  pub order : a ≤ b
  pub listed : (m : ℕ) → a ≤ m → m ≤ b → IsOld config h m c i × IsOld config h m c j

-- a station is quiet in a class: it has had no receive charge there since its join
abbrev pub IsQuiet : World → ℕ → Class → Type 0
IsQuiet w s c = (share w s c).received ≡ 0
