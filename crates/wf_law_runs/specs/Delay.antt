-- Defines the law of the delay in the device. A device sends its exchanges one after another. If the air is
-- free and the computed airtime is right, an exchange is in the device for as long as the computed airtime
-- that ends between its Pull and its Done.
use Rattle.std.specs.Prelude.{◌≡◌, ℕ, suc, ◌+◌, ◌-◌, ◌<◌, ◌≤◌, List, [], ◌∷◌, Option, Some, None, is_some, is_none, IsTrue, if◌then◌else◌, take, drop}
use Rattle.wf_frame.specs.declared.settings.Config.{Config}
use Rattle.wf_frame.specs.declared.notes.Ask.TheVariants.{Done}
use Rattle.wf_frame.specs.declared.notes.Note.{Note}
use Rattle.wf_frame.specs.declared.notes.Note.TheVariants.{Asked}
use Rattle.wf_def_world.specs.World.{World, Exchange, exchange}
use Rattle.wf_def_world.specs.Refusals.{refusal}
use Rattle.wf_def_world.specs.Step.{step}
use Rattle.wf_def_world.specs.Run.{Entry}
use Rattle.wf_def_world.specs.Stretches.{world_at}
use Rattle.wf_law_runs.specs.Deficits.{longest_of_all}

-- Exchange n is open.
abbrev pub HasOpen : World → ℕ → Type 0
HasOpen w n = IsTrue (is_some (exchange w n))

-- Returns the computed airtime of an exchange, in microseconds; 0 if there is none.
abbrev pub computed_of : Option Exchange → ℕ
computed_of None = 0
computed_of (Some x) = x.charge

-- Returns the computed airtime of the exchange that a call ends, in microseconds; 0 if it ends none.
abbrev pub airtime_ended_by : World → Note → ℕ
airtime_ended_by w (Asked (Done e heard air)) =
    if is_none (refusal w (Asked (Done e heard air))) then computed_of (exchange w e) else 0
airtime_ended_by w _ = 0

-- Returns the computed airtime of all exchanges that the calls of a history end, in microseconds.
abbrev pub airtime_ended : World → List Entry → ℕ
airtime_ended w [] = 0
airtime_ended w (e ∷ es) = airtime_ended_by w e.1 + airtime_ended (step w e.1).world es

-- A call ends no exchange while one with a lower number is open.
abbrev pub EndsFirst : World → Note → Type 0
EndsFirst w (Asked (Done e heard air)) =
    refusal w (Asked (Done e heard air)) ≡ None → (n : ℕ) → HasOpen w n → e ≤ n
EndsFirst w _ = Unit {0}

-- The calls of a history end exchanges in the order of their numbers.
abbrev pub EndInOrder : World → List Entry → Type 0
EndInOrder w [] = Unit {0}
EndInOrder w (e ∷ es) = EndsFirst w e.1 × EndInOrder (step w e.1).world es

-- Returns the entries after the first a, among the first b.
abbrev pub entries_between : List Entry → ℕ → ℕ → List Entry
entries_between h a b = take (b - a) (drop a h)

-- Exchange n is in the device from moment a to moment b: it is the last that was made before a, and it is
-- open after b entries. If its Pull is the last entry before a and its Done is the next entry after b, this
-- is the whole time.
pub record IsInDevice (config : Config) (h : List Entry) (n a b : ℕ) : Type 0 where
  pub order : a ≤ b
  pub last : (world_at config h a).exchanges ≡ suc n
  pub still : HasOpen (world_at config h b) n

-- The law: if exchanges end in order from the Pull of an exchange to its Done, the computed airtime that ends
-- until then, its own included, exceeds the limit on the airtime in flight by less than one exchange.
abbrev pub DelayLaw : Config → List Entry → Type 0
DelayLaw config h = 1 ≤ config.aql_total → (n a b : ℕ) → IsInDevice config h n a b →
    EndInOrder (world_at config h a) (entries_between h a (suc b)) →
    airtime_ended (world_at config h a) (entries_between h a (suc b))
    < config.aql_total + longest_of_all config
