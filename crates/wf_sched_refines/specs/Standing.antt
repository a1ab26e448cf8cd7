-- Defines when the station scheduler agrees with ("stands for") the rotations and deficits of a world.
use Rattle.std.specs.Prelude.{◌≡◌, ℕ, ◌-◌, ◌*◌, ◌<◌, ◌==◌, ℤ, pos, ◌+ℤ◌, ◌-ℤ◌, Bool, true, List, [], ◌∷◌, map, if◌then◌else◌}
use Rattle.wf_frame.specs.declared.settings.Config.{Config}
use Rattle.wf_frame.specs.declared.classes.Class.{Class}
use Rattle.wf_def_rotation.specs.Rotation.{has_key, in_order}
use Rattle.wf_frame.specs.Classes.{all_classes, class_number}
use Rattle.wf_def_lists.specs.Table.{at}
use Rattle.wf_def_world.specs.World.{World, Station, Share, Exchange, no_share, station, standing, pending_air, quantum as own_quantum, rotation, is_live}
use Rattle.wf_def_world.specs.CanSend.{is_ready}
use Rattle.wf_def_world.specs.Exchanges.{longest_computed}
use Rattle.wf_def_lists.specs.Lists.{IsOnce}
use Rattle.wf_rotation.specs.Rotas.{lesser, is_ready as entry}
use Rattle.wf_sched.specs.ClassRotas.{ClassRota, SchedValue, IsSchedulerSized, class_rota, with_class_rota, with_deficit, with_quantum, deficit, quantum_of, with_listing, class_rotation as rotation_of}

-- The scheduler v agrees with the world w: each class lists the same stations. For each live station the
-- scheduler's deficit is the standing, and has the same quantum. The values that the scheduler has for a
-- station that is not live do not matter: such a station is not listed, and a join sets its deficit and
-- quantum.
pub record SchedulerStandsFor (v : SchedValue) (w : World) : Type 0 where
  pub sized : IsSchedulerSized v
  pub stations : v.stations ≡ w.config.stations
  pub quantum : v.quantum ≡ w.config.quantum
  pub rotations : (c : Class) → rotation_of v c ≡ rotation w c
  pub deficits : (s : ℕ) (c : Class) → is_live w s ≡ true → deficit v c s ≡ standing w s c
  pub quanta : (s : ℕ) (c : Class) → is_live w s ≡ true → quantum_of v c s ≡ own_quantum w s
  -- conditions on the world: each class lists a station at most once, and only live ones; each live station
  -- has a number in range
  pub once : (c : Class) → IsOnce (in_order (rotation w c))
  pub listed : (s : ℕ) (c : Class) → has_key (rotation w c) s ≡ true → is_live w s ≡ true
  pub live : (s : ℕ) → is_live w s ≡ true → s < w.config.stations

-- ---- changes of a scheduler

-- the lists, deficits and quanta of every class are changed
abbrev pub everywhere : (ClassRota → ClassRota) → SchedValue → SchedValue
everywhere f v = record v { classes = map f v.classes }

-- airtime is taken off the deficit of a station in a class
abbrev pub with_deficit_charged : SchedValue → ℕ → Class → ℕ → SchedValue
with_deficit_charged v s c air = with_deficit v c s (deficit v c s -ℤ pos air)

-- airtime that was taken off is added again to the deficit of a station in a class
abbrev pub with_paid_back : SchedValue → ℕ → Class → ℕ → SchedValue
with_paid_back v s c air = with_deficit v c s (deficit v c s +ℤ pos air)

-- an exchange with this computed airtime opens: with the setting `pending` it is taken off at once
abbrev pub with_pending_charged : Config → SchedValue → ℕ → Class → ℕ → SchedValue
with_pending_charged config v s c air = if config.pending == 1 then with_deficit_charged v s c air else v

-- an exchange with this computed airtime closes: with the setting `pending` it is paid back
abbrev pub with_pending_paid_back : Config → SchedValue → ℕ → Class → ℕ → SchedValue
with_pending_paid_back config v s c air = if config.pending == 1 then with_paid_back v s c air else v

-- the deficit of a station in a class is lowered to `most`, if it is above that
abbrev pub with_deficit_lowered : SchedValue → ℕ → Class → ℤ → SchedValue
with_deficit_lowered v s c most = with_deficit v c s (lesser (deficit v c s) most)

-- the deficits of a station in these classes are lowered to this quantum, less `uncovered` of the class
abbrev pub with_each_lowered : ℕ → (Class → ℕ) → ℕ → List Class → SchedValue → SchedValue
with_each_lowered quantum uncovered s [] v = v
with_each_lowered quantum uncovered s (c ∷ cs) v =
    with_each_lowered quantum uncovered s cs
    (with_deficit_lowered v s c (pos quantum -ℤ pos (uncovered c)))

-- a station gets another weight: its quantum in each class is the quantum times this weight, and its deficits
-- are lowered to that, less `uncovered` of the class
abbrev pub with_weight : (Class → ℕ) → ℕ → ℕ → SchedValue → SchedValue
with_weight uncovered s weight v =
    with_each_lowered (v.quantum * weight) uncovered s all_classes
    (everywhere (with_quantum s (v.quantum * weight)) v)

-- the part of the airtime in flight of a station in a class that counts against its deficit above that
-- of all exchanges of the class but one, each with the greatest charge that is computed
abbrev pub uncovered_air : World → ℕ → Class → ℕ
uncovered_air w s c = pending_air w s c - (w.config.inflight - 1) * longest_computed w.config c

-- a station is put on a list of one class: on the new list if it is ready, otherwise on the old list
abbrev pub with_listed : Bool → SchedValue → ℕ → Class → SchedValue
with_listed ready v s c = with_class_rota v c (with_listing ready s (class_rota v c))

-- a station is put on a list of each class in which it belongs on a list: on the new list of a class in which
-- it is ready, else on the old list
abbrev pub with_listed_where : (Class → Bool) → (Class → Bool) → ℕ → List Class → SchedValue → SchedValue
with_listed_where to_list ready s [] v = v
with_listed_where to_list ready s (c ∷ cs) v =
    with_listed_where to_list ready s cs (if to_list c then with_listed (ready c) v s c else v)

-- the list `ready`, with one entry for each station, says for each listed station whether it is ready in the
-- class
abbrev pub TellsReady : World → Class → List Bool → Type 0
TellsReady w c ready = (s : ℕ) → has_key (rotation w c) s ≡ true → entry ready s ≡ is_ready w c s

-- a station's share of a class
abbrev pub share_in : Station → Class → Share
share_in x c = at no_share x.shares (class_number c)

-- ---- worlds that are the same for a scheduler

-- the same settings, rotations, live stations, standings and weights
pub record HasSameRotas (w u : World) : Type 0 where
  pub config : u.config ≡ w.config
  pub rotations : (c : Class) → rotation u c ≡ rotation w c
  pub live : (s : ℕ) → is_live u s ≡ is_live w s
  pub standings : (s : ℕ) (c : Class) → is_live w s ≡ true → standing u s c ≡ standing w s c
  pub weights : (s : ℕ) → is_live w s ≡ true → (station u s).weight ≡ (station w s).weight

-- a change of a station that keeps its weight and its deficits
pub record KeepsRotas (f : Station → Station) : Type 0 where
  pub weight : (x : Station) → (f x).weight ≡ x.weight
  pub deficits : (x : Station) (c : Class) → (share_in (f x) c).deficit ≡ (share_in x c).deficit

-- two exchanges that are the same for a scheduler: number, station, class and computed airtime
pub record HasSameAir (x y : Exchange) : Type 0 where
  pub number : y.number ≡ x.number
  pub station : y.station ≡ x.station
  pub class : y.class ≡ x.class
  pub charge : y.charge ≡ x.charge

-- each scheduler that agrees with w agrees with u
abbrev pub LeavesRotas : World → World → Type 0
LeavesRotas w u = (v : SchedValue) → SchedulerStandsFor v w → SchedulerStandsFor v u
