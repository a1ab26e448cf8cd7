-- Defines the station scheduler of "Ending the Anomaly" (USENIX ATC 2017), section 3.2: for each access class
-- a rotation of stations.
use Rattle.std.specs.Prelude.{◌≡◌, ℕ, ◌*◌, ◌≤◌, Bool, false, List, [], length, replicate, get_or, set, All, ℤ, pos, ◌+ℤ◌, if◌then◌else◌}
use Rattle.wf_frame.specs.declared.classes.Class.{Class}
use Rattle.wf_frame.specs.Classes.{class_number}
use Rattle.wf_def_rotation.specs.Rotation.{Rotation, no_keys, has_key, with_key_listed, without_key, need_of, Picked, pick}
use Rattle.wf_rotation.specs.Rotas.{Rotas, deficit_at, quantum_at, is_ready}
use Rattle.wf_rotation.specs.Lists.{lists_at}

-- the stations of one class: the two lists of the rotation, and by station number the deficit and the
-- quantum, in microseconds
pub record ClassRota : Type 0 where
  pub rotation : Rotation
  pub deficits : List ℤ
  pub quanta : List ℕ

-- the number of stations, the quantum of weight 1, and the rotation of each class, the least urgent first
pub record SchedValue : Type 0 where
  pub stations : ℕ
  pub quantum : ℕ
  pub classes : List ClassRota

-- the rotation of a class that is not there
abbrev pub no_class_rota : ClassRota
no_class_rota = record { rotation = no_keys; deficits = []; quanta = [] }

-- the stations of a class; then its rotation, and a station's deficit and quantum
abbrev pub class_rota : SchedValue → Class → ClassRota
class_rota v class = get_or v.classes (class_number class) no_class_rota

abbrev pub class_rotation : SchedValue → Class → Rotation
class_rotation v class = (class_rota v class).rotation

abbrev pub deficit : SchedValue → Class → ℕ → ℤ
deficit v class station = deficit_at (class_rota v class).deficits station

abbrev pub quantum_of : SchedValue → Class → ℕ → ℕ
quantum_of v class station = quantum_at (class_rota v class).quanta station

-- v with these stations for the class
abbrev pub with_class_rota : SchedValue → Class → ClassRota → SchedValue
with_class_rota v class t = record v { classes = set v.classes (class_number class) t }

-- v with this deficit of a station in the class
abbrev pub with_deficit : SchedValue → Class → ℕ → ℤ → SchedValue
with_deficit v class station d = with_class_rota v class
    (record (class_rota v class) { deficits = set (class_rota v class).deficits station d })

-- no station is listed
abbrev pub opening_rota : ℕ → ℕ → ClassRota
opening_rota stations quantum = record {
  rotation = no_keys;
  deficits = replicate stations (pos quantum);
  quanta = replicate stations quantum;
}

-- the new scheduler: each deficit and each quantum is the one of weight 1
abbrev pub new_scheduler : ℕ → ℕ → SchedValue
new_scheduler stations quantum = record {
  stations = stations;
  quantum = quantum;
  classes =
      replicate 4 (opening_rota stations quantum);
}

-- the station is on no list of any class
abbrev pub IsNowhere : SchedValue → ℕ → Type 0
IsNowhere v station = (class : Class) → has_key (class_rotation v class) station ≡ false

-- a station that is on no list gets a quantum, which is its deficit
abbrev pub after_join : ℕ → ℕ → ClassRota → ClassRota
after_join station quantum t = record t {
  deficits = set t.deficits station (pos quantum);
  quanta =
      set t.quanta station quantum;
}

-- a station gets another quantum, and keeps its deficit
abbrev pub with_quantum : ℕ → ℕ → ClassRota → ClassRota
with_quantum station quantum t = record t { quanta = set t.quanta station quantum }

-- the station is taken off the lists
abbrev pub after_station_left : ℕ → ClassRota → ClassRota
after_station_left station t = record t { rotation = without_key t.rotation station }

-- a station that is not listed goes last on the new list if it is ready, otherwise last on the old list
abbrev pub with_listing : Bool → ℕ → ClassRota → ClassRota
with_listing ready station t = if has_key t.rotation station then t
    else record t { rotation = with_key_listed ready t.rotation station }

-- the pick of a class: a deficit of 0 or less needs some of the station's quanta
abbrev pub need : SchedValue → Class → ℕ → ℕ
need v class station = need_of (quantum_of v class station) (deficit v class station)

abbrev pub pick_of_class : SchedValue → Class → List Bool → Picked
pick_of_class v class ready = pick (need v class) (is_ready ready) (class_rotation v class)

-- the stations of a class after a pick: each station gets its quanta
pub record IsAfterPick (old : ClassRota) (p : Picked) (new : ClassRota) : Type 0 where
  pub rotation : new.rotation ≡ p.lists
  pub deficits : (station : ℕ) → deficit_at new.deficits station
      ≡ deficit_at old.deficits station +ℤ pos (p.quanta station * quantum_at old.quanta station)
  pub quanta : new.quanta ≡ old.quanta
  pub stations : length new.deficits ≡ length old.deficits

-- every scheduler has four classes, and in each class a deficit and a quantum for each station
pub record IsSchedulerSized (v : SchedValue) : Type 0 where
  pub four : length v.classes ≡ 4
  pub deficits : (class : Class) → length (class_rota v class).deficits ≡ v.stations
  pub quanta : (class : Class) → length (class_rota v class).quanta ≡ v.stations

-- the stations of a class, from a `Rota` with one rotation
abbrev pub class_rota_of : Rotas → ClassRota
class_rota_of r = record { rotation = lists_at r.lists 0; deficits = r.deficits; quanta = r.quanta }

-- a `Rota` with one rotation, over as many keys as there are stations
pub record IsOfStations (stations : ℕ) (r : Rotas) : Type 0 where
  pub one_list : length r.lists ≡ 1
  pub deficit_keys : length r.deficits ≡ stations
  pub quanta_keys : length r.quanta ≡ stations

-- the invariant of the four rotations
pub record AreRotasKept (rotas : List Rotas) (stations quantum : ℕ) : Type 0 where
  pub four : length rotas ≡ 4
  pub each : All (IsOfStations stations) rotas
  pub some : 1 ≤ stations
  pub few : stations ≤ 256
  pub some_quantum : 1 ≤ quantum
  pub most_quantum : quantum ≤ 10000
