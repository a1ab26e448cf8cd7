-- Defines the invariant of the open exchanges and their airtime.
use Rattle.std.specs.Prelude.{◌≡◌, ◌+◌, ◌*◌, ◌<◌, ◌≤◌, ℕ, List, All, length, get_or}
use Rattle.wf_frame.specs.declared.classes.Class.{Class}
use Rattle.wf_frame.specs.Classes.{class_number}
use Rattle.wf_def_lists.specs.Bounds.{greatest_air}
use Rattle.wf_send_parts.specs.declared.exchanges.opened.Open.{Open}
use Rattle.wf_send_parts.specs.declared.exchanges.opened.TheConstants.{MOST_STATIONS}
use Rattle.wf_send_parts.specs.Exchanges.{exchange_number, airtime_of, airtime_to}
use Rattle.wf_send_parts.specs.Kept.{AreKept}

-- the place of the airtime of station s in class c
abbrev pub airtime_place : ℕ → Class → ℕ
airtime_place s c = class_number c * MOST_STATIONS + s

-- the airtime of each station in each class is at its place
pub record AreAirtimes (items : List Open) (airtimes : List ℕ) : Type 0 where
  pub places : length airtimes ≡ 4 * MOST_STATIONS
  pub each : (s : ℕ) (c : Class) → s < MOST_STATIONS → get_or airtimes (airtime_place s c) 0
      ≡ airtime_to items s c

-- the list is kept, the charge and the station of each exchange are small, and the sums of the charges are
-- at hand
pub record KnowsAirtime (items : List Open) (capacity airtime : ℕ) (airtimes : List ℕ) : Type 0 where
  pub kept : AreKept exchange_number items capacity
  pub small : All (λ x. x.charge ≤ greatest_air) items
  pub known : All (λ x. x.station < MOST_STATIONS) items
  pub sum : airtime ≡ airtime_of items
  pub sums : AreAirtimes items airtimes
