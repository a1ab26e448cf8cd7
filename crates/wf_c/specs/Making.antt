-- Defines the settings that a struct shows, and the codes of making a path.
use Rattle.std.specs.Prelude.{◌≡◌, ◌⊎◌, ℕ, ℤ, pos, List, Option, Some, None, option_map, position, ◌+◌, ◌==◌, not}
use Rattle.wf_frame.specs.Settings.{setting_number, first_out_of_range}
use Rattle.wf_frame.specs.declared.settings.Field.{Field}
use Rattle.wf_frame.specs.declared.settings.Config.{Config}
use Rattle.wf_c.specs.declared.settings.Settings.{Settings}

-- the place of the first reserved number: it follows the settings
abbrev pub first_reserved : ℕ
first_reserved = 29

-- the place of the first reserved number that is not 0, if any
abbrev pub first_set : List ℕ → Option ℕ
first_set reserved = option_map (λ i. first_reserved + i) (position (λ number. not (number == 0)) reserved)

-- the code of a setting that is out of its range, by its place
abbrev pub bad_setting : ℕ → ℕ
bad_setting place = 100 + place

-- begin settings: tools/tables writes these lines

-- the settings that the caller's struct shows
abbrev pub config_of : Settings → Config
config_of s = record {
  stations = s.stations;
  flows = s.flows;
  limit = s.limit;
  room = s.room;
  flow_quantum = s.flow_quantum;
  quantum = s.quantum;
  inflight = s.inflight;
  attempts = s.attempts;
  agg = s.agg;
  cap = s.cap;
  sleeping = s.sleeping;
  calls = s.calls;
  charge = s.charge;
  debt = s.debt;
  aql_total = s.aql_total;
  keep_order = s.keep_order;
  codel_reset = s.codel_reset;
  aql = s.aql;
  pending = s.pending;
  overhead = s.overhead;
  cap_vi = s.cap_vi;
  cap_vo = s.cap_vo;
  answers = s.answers;
  credits = s.credits;
  legacy = s.legacy;
  period = s.period;
  buffered = s.buffered;
  bsses = s.bsses;
}

-- end settings

-- the place of a setting, which is its number; without a setting, the other place
abbrev pub place_or : Option Field → Option ℕ → Option ℕ
place_or (Some f) other = Some (setting_number f)
place_or None other = other

-- the place of the first setting that is out of its range, or of the first reserved number that is not 0, if
-- any
unfoldable pub bad_place : Settings → Option ℕ
bad_place s = place_or (first_out_of_range (config_of s)) (first_set s.reserved)

-- the code for "out of memory"
abbrev pub no_memory : ℕ
no_memory = 60

-- the code of a handle that holds something already
abbrev pub in_use : ℕ
in_use = 69

-- the code of making a path, by the place of the setting that is out of its range, if any
abbrev pub IsMadeCode : Option ℕ → ℤ → Type 0
IsMadeCode (Some place) code = code ≡ pos (bad_setting place)
IsMadeCode None code = (code ≡ pos 0) ⊎ (code ≡ pos no_memory)
