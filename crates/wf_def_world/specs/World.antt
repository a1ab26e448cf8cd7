-- Defines the state of the machine, and how to read and change it. Times, stations' deficits and airtime are
-- in microseconds, lengths and queues' deficits in octets. Sequence numbers do not wrap here; on the air they
-- are modulo 4096.
use Rattle.std.specs.Prelude.{ℕ, ◌+◌, ◌*◌, ◌==◌, nat_lt, ℤ, pos, ◌-ℤ◌, Bool, true, false, not, ◌&&◌, ◌||◌, List, [], ◌∷◌, ◌++◌, Option, None, is_some, unwrap_or, option_map, if◌then◌else◌, length, map, filter, find, count_by}
use Rattle.std.specs.List.{list_any}
use Rattle.wf_frame.specs.declared.settings.Config.{Config}
use Rattle.wf_frame.specs.declared.classes.Class.{Class}
use Rattle.wf_frame.specs.declared.classes.Class.TheVariants.{Bk}
use Rattle.wf_frame.specs.Classes.{class_number, same_class}
use Rattle.wf_frame.specs.declared.classes.Fate.{Fate}
use Rattle.wf_frame.specs.declared.classes.Fate.TheVariants.{Held}
use Rattle.wf_frame.specs.declared.notes.Note.{Note}
use Rattle.wf_frame.specs.declared.notes.Note.TheVariants.{Enqueue, Asked}
use Rattle.wf_frame.specs.declared.notes.Ask.TheVariants.{Reap}
use Rattle.wf_def_lists.specs.Table.{at, put, change, upto}
use Rattle.wf_def_lists.specs.Bounds.{narrow_window}
use Rattle.wf_def_air.specs.Airtime.{Rate, lowest_rate}
use Rattle.wf_def_codel.specs.Codel.{Item, Codel, Params, new_codel}
use Rattle.wf_def_codel.specs.Parameters.{params_at}
use Rattle.wf_def_rotation.specs.Rotation.{Rotation, no_keys}
use Rattle.wf_def_agreement.specs.Session.{Session, new_session}
use Rattle.wf_def_agreement.specs.Receiver.{Receiver, new_receiver, Score}
use Rattle.wf_def_world.specs.Group.{GroupState, no_group}

-- A station in one class: its deficit and, since its join, the number of quanta that it was given and
-- the airtime that it was charged, for exchanges (`charged`) and for its own transmissions (`received`).
-- `base` is the deficit that the station began with; a change of its weight sets it again.
pub record Share : Type 0 where
  pub deficit : ℤ
  pub base : ℤ
  pub quanta : ℕ
  pub charged : ℕ
  pub received : ℕ
  pub upper : Bool  -- whether it is the upper TID's turn

-- the share of a station that joins, with this deficit
abbrev pub new_share : ℕ → Share
new_share deficit =
    record { deficit = pos deficit; base = pos deficit; quanta = 0; charged = 0; received = 0; upper = false }

-- Whether a TID has a block acknowledgement agreement (IEEE 802.11-2012, 10.5). `Plain`: it has none, and its
-- frames go one at a time, each with an Ack, unless the device numbers and repeats them. `OnHold`: it has
-- none, and no frame gets a number, so that one can begin. `Agreed`: it has one.
pub data Mode : Type 0 where
  Plain : Mode
  OnHold : Mode
  Agreed : Mode

-- whether there is an agreement
abbrev pub has_agreement : Mode → Bool
has_agreement Agreed = true
has_agreement mode = false

-- whether no frame gets a number
abbrev pub holds_back : Mode → Bool
holds_back OnHold = true
holds_back mode = false

-- one TID of a station: its mode, the numbers of both sides, and the rotation of the queues that it lists
pub record Tid : Type 0 where
  pub mode : Mode
  pub session : Session
  pub receiver : Receiver
  pub queues : Rotation

-- a TID of a station that joins, with this mode, this first number and this window
abbrev pub new_tid : Mode → ℕ → ℕ → Tid
new_tid mode first size = record {
  mode = mode;
  session = new_session first size;
  receiver = new_receiver first size;
  queues = no_keys;
}

-- a live station
pub record Station : Type 0 where
  pub weight : ℕ
  pub weighed : Bool  -- whether its weight was set since it joined
  pub rate : Rate
  pub exponent : ℕ  -- the maximum A-MPDU length exponent (IEEE 802.11-2012, 8.4.2.58.3)
  pub ampdu : Option ℕ  -- the most octets of its aggregates of VHT and HE, if that was stated
  pub offloaded : Bool  -- whether its device numbers, aggregates and repeats its frames
  pub stopped : Bool  -- whether no pull picks it
  pub bss : ℕ  -- the number of its BSS, for whose beacons it wakes
  pub asleep : Bool
  pub credit : Option Class  -- the class in which a sleeping station may receive one exchange
  pub delivery : ℕ  -- the set of its delivery-enabled classes, as a number: 15 has all four
  pub most : ℕ  -- the most frames of a service period, which has no limit if it is 0
  pub service : Option ℕ  -- how many frames are left of its open service period, if one is; 0 for no limit
  pub shares : List Share  -- by class number
  pub tids : List Tid  -- by TID

-- the share of a station that is not live
abbrev pub no_share : Share
no_share = new_share 0

-- a TID of a station that is not live
abbrev pub no_tid : Tid
no_tid = new_tid Plain 0 0

-- the value of `station` for a station that is not live
abbrev pub no_station : Station
no_station = record {
  weight = 1;
  weighed = false;
  rate = lowest_rate;
  exponent = 0;
  ampdu = None;
  offloaded = false;
  stopped = false;
  bss = 0;
  asleep = false;
  credit = None;
  delivery = 0;
  most = 0;
  service = None;
  shares = [];
  tids = [];
}

-- a flow queue or an overflow queue: its frames in order, its deficit in octets, and its CoDel state
pub record Queue : Type 0 where
  pub items : List Item
  pub deficit : ℤ
  pub codel : Codel

-- an empty queue, with deficit 0 and a new CoDel state
abbrev pub new_queue : Queue
new_queue = record { items = []; deficit = pos 0; codel = new_codel }

-- an MPDU of an aggregate: its sequence number, its frame's id, and the length of the frame's body in
-- octets
pub record Mpdu : Type 0 where
  pub number : ℕ
  pub id : ℕ
  pub len : ℕ

-- what an exchange sends: an aggregate of data frames, or one BlockAckReq with this start
pub data Content : Type 0 where
  Frames : (mpdus : List Mpdu) → Content
  Request : (start : ℕ) → Content

-- an open exchange: it was made by a pull and has not ended by a Done
pub record Exchange : Type 0 where
  pub number : ℕ
  pub station : ℕ
  pub tid : ℕ
  pub class : Class
  pub charge : ℕ  -- its computed airtime, which is charged unless its Done gives another
  pub content : Content
  pub batch : Bool  -- whether the station is offloaded, so that its device numbers and repeats the frames
  pub plain : Bool  -- whether it sends one frame without an agreement, which an Ack answers
  pub arrived : List ℕ  -- the indices of the transmissions that arrived, rising
  pub answer : Option Score  -- the BlockAck, once the station has answered
  pub unsent : List ℕ  -- the indices of the transmissions that never went on the air, rising
  pub given_up : List ℕ  -- the indices of those that the device will not try again, rising
  pub more : Bool  -- the More Data bit
  pub eosp : Bool  -- whether it is the last of a service period: the EOSP bit of its last frame

-- an accepted frame: the call that brought it, and its fate
pub record Frame : Type 0 where
  pub note : Note
  pub fate : Fate

-- The value at an id that no frame has. It is unreached: the machine keeps only ids of accepted frames.
abbrev pub no_frame : Frame
no_frame = record { note = Asked Reap; fate = Held }

-- how much the exchange of a pull may send: its class, the most frames, and the greatest data time of an
-- aggregate in microseconds
pub record Bounds : Type 0 where
  pub class : Class
  pub frames : ℕ
  pub air : ℕ

-- the bounds before the first pull
abbrev pub no_bounds : Bounds
no_bounds = record { class = Bk; frames = 0; air = 0 }

-- the state of the machine
pub record World : Type 0 where
  pub config : Config
  pub clock : ℕ
  pub exchanges : ℕ  -- how many were made: the number of the next one
  pub stations : List (Option Station)  -- by number: None for a station that is not live
  pub queues : List Queue  -- by number
  pub rotations : List Rotation  -- of stations, by class number
  pub opened : List Exchange  -- the open exchanges, in the order of their numbers
  pub frames : List Frame  -- by id
  pub finished : List ℕ  -- the ids of frames with a fate that are not reaped, in the order of their fates
  pub bounds : Bounds  -- those of the latest pull
  pub groups : List GroupState  -- group frames and beacons, by BSS; only the calls about them change these

-- the world before the first call
abbrev pub opening : Config → World
opening config = record {
  config = config;
  clock = 0;
  exchanges = 0;
  stations = [];
  queues = [];
  rotations = [];
  opened = [];
  frames = [];
  finished = [];
  bounds = no_bounds;
  groups = [];
}

-- ---- reading a world

-- whether a station is live: it joined and has not left
abbrev pub is_live : World → ℕ → Bool
is_live w s = is_some (at None w.stations s)

-- station s
abbrev pub station : World → ℕ → Station
station w s = unwrap_or (at None w.stations s) no_station

-- TID t of station s
abbrev pub tid_of : World → ℕ → ℕ → Tid
tid_of w s t = at no_tid (station w s).tids t

-- the originator's side of the agreement of TID t of station s
abbrev pub session : World → ℕ → ℕ → Session
session w s t = (tid_of w s t).session

-- the recipient's side of the agreement of TID t of station s
abbrev pub receiver : World → ℕ → ℕ → Receiver
receiver w s t = (tid_of w s t).receiver

-- whether station s is offloaded
abbrev pub is_offloaded : World → ℕ → Bool
is_offloaded w s = (station w s).offloaded

-- whether TID t of station s has an agreement
abbrev pub is_agreed : World → ℕ → ℕ → Bool
is_agreed w s t = has_agreement (tid_of w s t).mode

-- whether TID t of station s sends its frames one at a time, each with an Ack
abbrev pub is_plain : World → ℕ → ℕ → Bool
is_plain w s t = not (is_offloaded w s || is_agreed w s t)

-- whether no frame of TID t of station s gets a number
abbrev pub is_held_back : World → ℕ → ℕ → Bool
is_held_back w s t = holds_back (tid_of w s t).mode

-- the share of station s in class c
abbrev pub share : World → ℕ → Class → Share
share w s c = at no_share (station w s).shares (class_number c)

-- the quantum of airtime of station s: the setting `quantum` times its weight
abbrev pub quantum : World → ℕ → ℕ
quantum w s = w.config.quantum * (station w s).weight

-- queue q: a flow queue or an overflow queue
abbrev pub queue : World → ℕ → Queue
queue w q = at new_queue w.queues q

-- the rotation of the stations of class c
abbrev pub rotation : World → Class → Rotation
rotation w c = at no_keys w.rotations (class_number c)

-- the accepted frame with this id
abbrev pub frame : World → ℕ → Frame
frame w id = at no_frame w.frames id

-- the group frames and the beacons of BSS b
abbrev pub group_of : World → ℕ → GroupState
group_of w b = at no_group w.groups b

-- the length in octets of the frame that a call brings; 0 if it brings none
abbrev pub len_of : Note → ℕ
len_of (Enqueue station tid flow len) = len
len_of (Asked ask) = 0

-- the flow number of the frame that a call brings; 0 if it brings none
abbrev pub flow_of : Note → ℕ
flow_of (Enqueue station tid flow len) = flow
flow_of (Asked ask) = 0

-- whether a frame has no fate yet
abbrev pub is_held : Fate → Bool
is_held Held = true
is_held _ = false

-- the number of frames that were accepted, which is the next id
abbrev pub accepted_count : World → ℕ
accepted_count w = length w.frames

-- the number of frames that were accepted and are not yet reaped
abbrev pub inside : World → ℕ
inside w = count_by (λ f. is_held f.fate) w.frames + length w.finished

-- the numbers of the live stations, rising
abbrev pub live_stations : World → List ℕ
live_stations w = filter (is_live w) (upto w.config.stations)

-- whether some live station of BSS b sleeps
abbrev pub is_any_asleep : World → ℕ → Bool
is_any_asleep w b =
    list_any (λ s. (station w s).asleep && ((station w s).bss == b)) (live_stations w)

-- CoDel's parameters for the queues of station s, which depend on its rate
abbrev pub codel_params : World → ℕ → Params
codel_params w s = params_at (station w s).rate

-- whether the window of a TID's agreement is above 64, so that its BlockAcks have 256 bits
abbrev pub is_wide : World → ℕ → ℕ → Bool
is_wide w s t = nat_lt narrow_window (session w s t).size

-- the airtime that is computed of these exchanges to station s in class c, in microseconds
abbrev pub owed : ℕ → Class → List Exchange → ℕ
owed s c [] = 0
owed s c (x ∷ xs) = (if (x.station == s) && same_class x.class c then x.charge else 0) + owed s c xs

-- the airtime that is computed of these exchanges, to all stations in all classes, in microseconds
abbrev pub owed_by_all : List Exchange → ℕ
owed_by_all [] = 0
owed_by_all (x ∷ xs) = x.charge + owed_by_all xs

-- the airtime in flight that counts against a station's deficit in a class: none without the setting
-- `pending`
abbrev pub pending_air : World → ℕ → Class → ℕ
pending_air w s c = if w.config.pending == 1 then owed s c w.opened else 0

-- The airtime that a station may still use in a class, in microseconds: its deficit less the airtime in
-- flight that counts. Linux 6.1 computes it in ieee80211_sta_deficit.
abbrev pub standing : World → ℕ → Class → ℤ
standing w s c = (share w s c).deficit -ℤ pos (pending_air w s c)

-- the open exchange with number e, if there is one
abbrev pub exchange : World → ℕ → Option Exchange
exchange w e = find (λ x. x.number == e) w.opened

-- ---- changing a world

-- the world in which the latest pull has these bounds
abbrev pub with_bounds : World → Bounds → World
with_bounds w b = record w { bounds = b }

-- the world in which station s is x
unfoldable pub with_station : World → ℕ → Option Station → World
with_station w s x = record w { stations = put None w.stations s x }

-- the world with f applied to station s; a station that is not live stays so
unfoldable pub on_station : World → ℕ → (Station → Station) → World
on_station w s f = with_station w s (option_map f (at None w.stations s))

-- the world with f applied to TID t of station s
unfoldable pub on_tid : World → ℕ → ℕ → (Tid → Tid) → World
on_tid w s t f = on_station w s (λ x. record x { tids = change no_tid x.tids t f })

-- the world with f applied to the originator's side of a TID's agreement
unfoldable pub on_session : World → ℕ → ℕ → (Session → Session) → World
on_session w s t f = on_tid w s t (λ x. record x { session = f x.session })

-- the world with f applied to the recipient's side of a TID's agreement
unfoldable pub on_receiver : World → ℕ → ℕ → (Receiver → Receiver) → World
on_receiver w s t f = on_tid w s t (λ x. record x { receiver = f x.receiver })

-- the world in which TID t of station s has this mode
unfoldable pub with_mode : World → ℕ → ℕ → Mode → World
with_mode w s t mode = on_tid w s t (λ x. record x { mode = mode })

-- the world in which TID t of station s lists the queues of r
unfoldable pub with_queues : World → ℕ → ℕ → Rotation → World
with_queues w s t r = on_tid w s t (λ x. record x { queues = r })

-- the world with f applied to the share of station s in class c
unfoldable pub on_share : World → ℕ → Class → (Share → Share) → World
on_share w s c f =
    on_station w s (λ x. record x { shares = change no_share x.shares (class_number c) f })

-- the world with f applied to queue q
unfoldable pub on_queue : World → ℕ → (Queue → Queue) → World
on_queue w q f = record w { queues = change new_queue w.queues q f }

-- the world with f applied to the group frames and the beacons of BSS b
abbrev pub on_group : World → ℕ → (GroupState → GroupState) → World
on_group w b f = record w { groups = change no_group w.groups b f }

-- the world in which the rotation of class c is r
unfoldable pub with_rotation : World → Class → Rotation → World
with_rotation w c r = record w { rotations = put no_keys w.rotations (class_number c) r }

-- the world in which a frame has this fate
unfoldable pub with_fate : World → ℕ → Fate → World
with_fate w id fate =
    record w { frames = change no_frame w.frames id (λ x. record x { fate = fate }) }

-- the world in which a frame has this fate and is last on the finished list
unfoldable pub with_frame_finished : World → Fate → ℕ → World
with_frame_finished w fate id = record (with_fate w id fate) { finished = w.finished ++ id ∷ [] }

-- the world in which these frames have this fate and are last on the finished list, in order
unfoldable pub with_frames_finished : World → Fate → List ℕ → World
with_frames_finished w fate [] = w
with_frames_finished w fate (id ∷ ids) = with_frames_finished (with_frame_finished w fate id) fate ids

-- the world in which the open exchange with x's number is x
unfoldable pub with_exchange : World → Exchange → World
with_exchange w x =
    record w { opened = map (λ y. if y.number == x.number then x else y) w.opened }

-- the world in which the exchange with number e is no longer open
unfoldable pub without_exchange : World → ℕ → World
without_exchange w e = record w { opened = filter (λ y. not (y.number == e)) w.opened }
