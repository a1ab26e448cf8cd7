-- Defines the table of settings: the number of each, its word in a head, and its least and its greatest
-- value. Defines also the standard values, and when settings are in range.
use Rattle.std.specs.Prelude.{ℕ, ◌==◌, ◌≤◌, nat_le, Bool, false, ◌&&◌, not, List, [], ◌∷◌, codes, Option, None, Some, find}
use Rattle.std.specs.Str.{bytes_eq}
use Rattle.wf_frame.specs.declared.settings.Config.{Config}
use Rattle.wf_frame.specs.declared.settings.Field.{Field}
use Rattle.wf_frame.specs.declared.settings.Field.TheVariants.{Stations, Flows, Limit, Room, FlowQuantum, Quantum, Inflight, Attempts, Agg, Cap, Sleeping, Calls, Charge, Debt, AqlTotal, KeepOrder, CodelReset, Aql, Pending, Overhead, CapVi, CapVo, Answers, Credits, Legacy, Period, Buffered, Bsses}

-- a row: the number of a setting, its word, its least value and its greatest value
pub record Row : Type 0 where
  pub number : ℕ
  pub word : List ℕ
  pub least : ℕ
  pub most : ℕ

abbrev pub row : ℕ → List ℕ → ℕ → ℕ → Row
row number word least most = record { number = number; word = word; least = least; most = most }

-- begin rows: tools/tables writes these lines

-- the table
abbrev pub setting_row : Field → Row
setting_row Stations = row 1 (codes "stations") 1 256
setting_row Flows = row 2 (codes "flows") 1 4096
setting_row Limit = row 3 (codes "limit") 1 65535
setting_row Room = row 4 (codes "room") 1 131072
setting_row FlowQuantum = row 5 (codes "flow_quantum") 64 65535
setting_row Quantum = row 6 (codes "quantum") 100 10000
setting_row Inflight = row 7 (codes "inflight") 1 8
setting_row Attempts = row 8 (codes "attempts") 1 64
setting_row Agg = row 9 (codes "agg") 1 256
setting_row Cap = row 10 (codes "cap") 3000 5400
setting_row Sleeping = row 11 (codes "sleeping") 1 65535
setting_row Calls = row 12 (codes "calls") 1 4294967295
setting_row Charge = row 13 (codes "charge") 0 65535
setting_row Debt = row 14 (codes "debt") 0 1000000
setting_row AqlTotal = row 15 (codes "aql_total") 0 262144
setting_row KeepOrder = row 16 (codes "keep_order") 0 1
setting_row CodelReset = row 17 (codes "codel_reset") 0 1
setting_row Aql = row 18 (codes "aql") 0 262144
setting_row Pending = row 19 (codes "pending") 0 1
setting_row Overhead = row 20 (codes "overhead") 0 32
setting_row CapVi = row 21 (codes "cap_vi") 0 5400
setting_row CapVo = row 22 (codes "cap_vo") 0 5400
setting_row Answers = row 23 (codes "answers") 0 1
setting_row Credits = row 24 (codes "credits") 0 1
setting_row Legacy = row 25 (codes "legacy") 0 2
setting_row Period = row 26 (codes "period") 0 255
setting_row Buffered = row 27 (codes "buffered") 0 65535
setting_row Bsses = row 28 (codes "bsses") 0 16

-- the standard settings: those of a head that sets none
abbrev pub standard : Config
standard = record {
  stations = 16;
  flows = 1024;
  limit = 8192;
  room = 65536;
  flow_quantum = 300;
  quantum = 300;
  inflight = 2;
  attempts = 10;
  agg = 32;
  cap = 4000;
  sleeping = 64;
  calls = 1048576;
  charge = 0;
  debt = 1000000;
  aql_total = 0;
  keep_order = 0;
  codel_reset = 0;
  aql = 0;
  pending = 0;
  overhead = 0;
  cap_vi = 0;
  cap_vo = 0;
  answers = 0;
  credits = 0;
  legacy = 0;
  period = 0;
  buffered = 0;
  bsses = 0;
}

-- the settings for devices: the standard ones with these values
abbrev pub device : Config
device = record standard {
  inflight = 4;
  charge = 65535;
  debt = 20000;
  aql_total = 24000;
  keep_order = 1;
  codel_reset = 1;
  aql = 12000;
  pending = 1;
  credits = 1;
}

-- the settings, in the order in which they are checked
abbrev pub fields : List Field
fields = Stations ∷ Flows ∷ Limit ∷ Room ∷ FlowQuantum ∷ Quantum ∷ Inflight ∷ Attempts ∷ Agg ∷ Cap ∷ Sleeping
    ∷ Calls ∷ Charge ∷ Debt ∷ AqlTotal ∷ KeepOrder ∷ CodelReset ∷ Aql ∷ Pending ∷ Overhead ∷ CapVi ∷ CapVo
    ∷ Answers ∷ Credits ∷ Legacy ∷ Period ∷ Buffered ∷ Bsses ∷ []

-- end rows

-- the number of a setting in C
abbrev pub setting_number : Field → ℕ
setting_number field = (setting_row field).number

-- the word of a setting in a head
abbrev pub setting_word : Field → List ℕ
setting_word field = (setting_row field).word

-- the least value of a setting
abbrev pub lowest_of : Field → ℕ
lowest_of field = (setting_row field).least

-- the greatest value of a setting
abbrev pub greatest_of : Field → ℕ
greatest_of field = (setting_row field).most

-- the setting with this word
abbrev pub setting_named : List ℕ → Option Field
setting_named word = find (λ field. bytes_eq (setting_word field) word) fields

-- the setting with this number
abbrev pub setting_numbered : ℕ → Option Field
setting_numbered number = find (λ field. setting_number field == number) fields

-- begin values: tools/tables writes these lines

-- the value of a setting
abbrev pub value_of : Config → Field → ℕ
value_of c Stations = c.stations
value_of c Flows = c.flows
value_of c Limit = c.limit
value_of c Room = c.room
value_of c FlowQuantum = c.flow_quantum
value_of c Quantum = c.quantum
value_of c Inflight = c.inflight
value_of c Attempts = c.attempts
value_of c Agg = c.agg
value_of c Cap = c.cap
value_of c Sleeping = c.sleeping
value_of c Calls = c.calls
value_of c Charge = c.charge
value_of c Debt = c.debt
value_of c AqlTotal = c.aql_total
value_of c KeepOrder = c.keep_order
value_of c CodelReset = c.codel_reset
value_of c Aql = c.aql
value_of c Pending = c.pending
value_of c Overhead = c.overhead
value_of c CapVi = c.cap_vi
value_of c CapVo = c.cap_vo
value_of c Answers = c.answers
value_of c Credits = c.credits
value_of c Legacy = c.legacy
value_of c Period = c.period
value_of c Buffered = c.buffered
value_of c Bsses = c.bsses

-- the settings with one of them set to a value
abbrev pub with_value : Config → Field → ℕ → Config
with_value c Stations value = record c { stations = value }
with_value c Flows value = record c { flows = value }
with_value c Limit value = record c { limit = value }
with_value c Room value = record c { room = value }
with_value c FlowQuantum value = record c { flow_quantum = value }
with_value c Quantum value = record c { quantum = value }
with_value c Inflight value = record c { inflight = value }
with_value c Attempts value = record c { attempts = value }
with_value c Agg value = record c { agg = value }
with_value c Cap value = record c { cap = value }
with_value c Sleeping value = record c { sleeping = value }
with_value c Calls value = record c { calls = value }
with_value c Charge value = record c { charge = value }
with_value c Debt value = record c { debt = value }
with_value c AqlTotal value = record c { aql_total = value }
with_value c KeepOrder value = record c { keep_order = value }
with_value c CodelReset value = record c { codel_reset = value }
with_value c Aql value = record c { aql = value }
with_value c Pending value = record c { pending = value }
with_value c Overhead value = record c { overhead = value }
with_value c CapVi value = record c { cap_vi = value }
with_value c CapVo value = record c { cap_vo = value }
with_value c Answers value = record c { answers = value }
with_value c Credits value = record c { credits = value }
with_value c Legacy value = record c { legacy = value }
with_value c Period value = record c { period = value }
with_value c Buffered value = record c { buffered = value }
with_value c Bsses value = record c { bsses = value }

-- end values

-- the standard value of a setting
abbrev pub standard_of : Field → ℕ
standard_of field = value_of standard field

-- whether a setting is in its range
abbrev pub is_in_range : Config → Field → Bool
is_in_range c field = nat_le (lowest_of field) (value_of c field)
    && nat_le (value_of c field) (greatest_of field)

-- the first setting that is out of its range
abbrev pub first_out_of_range : Config → Option Field
first_out_of_range c = find (λ field. not (is_in_range c field)) fields

-- whether the end of an exchange may not give this airtime: it is 0 microseconds, or above the setting
-- `charge`. An end that gives no airtime is always allowed.
abbrev pub is_bad_air : Config → Option ℕ → Bool
is_bad_air config None = false
is_bad_air config (Some air) = not (nat_le 1 air && nat_le air config.charge)

-- begin ranges: tools/tables writes these lines

-- every setting is in its range
pub record IsInRange (config : Config) : Type 0 where
  pub stations : (1 ≤ config.stations) × (config.stations ≤ 256)
  pub flows : (1 ≤ config.flows) × (config.flows ≤ 4096)
  pub limit : (1 ≤ config.limit) × (config.limit ≤ 65535)
  pub room : (1 ≤ config.room) × (config.room ≤ 131072)
  pub flow_quantum : (64 ≤ config.flow_quantum) × (config.flow_quantum ≤ 65535)
  pub quantum : (100 ≤ config.quantum) × (config.quantum ≤ 10000)
  pub inflight : (1 ≤ config.inflight) × (config.inflight ≤ 8)
  pub attempts : (1 ≤ config.attempts) × (config.attempts ≤ 64)
  pub agg : (1 ≤ config.agg) × (config.agg ≤ 256)
  pub cap : (3000 ≤ config.cap) × (config.cap ≤ 5400)
  pub sleeping : (1 ≤ config.sleeping) × (config.sleeping ≤ 65535)
  pub calls : (1 ≤ config.calls) × (config.calls ≤ 4294967295)
  pub charge : (0 ≤ config.charge) × (config.charge ≤ 65535)
  pub debt : (0 ≤ config.debt) × (config.debt ≤ 1000000)
  pub aql_total : (0 ≤ config.aql_total) × (config.aql_total ≤ 262144)
  pub keep_order : (0 ≤ config.keep_order) × (config.keep_order ≤ 1)
  pub codel_reset : (0 ≤ config.codel_reset) × (config.codel_reset ≤ 1)
  pub aql : (0 ≤ config.aql) × (config.aql ≤ 262144)
  pub pending : (0 ≤ config.pending) × (config.pending ≤ 1)
  pub overhead : (0 ≤ config.overhead) × (config.overhead ≤ 32)
  pub cap_vi : (0 ≤ config.cap_vi) × (config.cap_vi ≤ 5400)
  pub cap_vo : (0 ≤ config.cap_vo) × (config.cap_vo ≤ 5400)
  pub answers : (0 ≤ config.answers) × (config.answers ≤ 1)
  pub credits : (0 ≤ config.credits) × (config.credits ≤ 1)
  pub legacy : (0 ≤ config.legacy) × (config.legacy ≤ 2)
  pub period : (0 ≤ config.period) × (config.period ≤ 255)
  pub buffered : (0 ≤ config.buffered) × (config.buffered ≤ 65535)
  pub bsses : (0 ≤ config.bsses) × (config.bsses ≤ 16)

-- end ranges
