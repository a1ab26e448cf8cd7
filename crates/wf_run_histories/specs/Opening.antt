-- Defines the opening calls: stations join, and get their rates.
use Rattle.std.specs.Prelude.{ℕ, zero, suc, ◌*◌, List, [], ◌∷◌, ◌++◌}
use Rattle.wf_frame.specs.declared.notes.Note.TheVariants.{Asked}
use Rattle.wf_def_world.specs.Run.{Entry, Past, by}
use Rattle.wf_run_histories.specs.Stations.{standard_join, standard_rate}

-- The caller of the opening calls.
abbrev pub opener : ℕ
opener = 65535

-- Station s joins with a window from the number 512*s on, and its rate is set.
abbrev pub station_calls : ℕ → List Entry
station_calls s = by opener (Asked (standard_join s (512 * s))) ∷ by opener (Asked (standard_rate s)) ∷ []

-- The calls of the first n stations, in order.
unfoldable pub opening_calls : ℕ → List Entry
opening_calls zero = []
opening_calls (suc n) = opening_calls n ++ station_calls n

-- A history with these entries appended.
abbrev pub with_entries : List Entry → Past → Past
with_entries more p = record p { history = p.history ++ more }
