-- Proves worked rows: the fields of one call of each form, and the call that fields of each kind show. By
-- computation.
use Rattle.std.proofs.Common.{◌≡◌, ℕ, ◌<◌, ◌≤◌, nat_eq, nat_lt, Bool, true, false, refl, arith}
use Rattle.std.specs.Prelude.{Some, None}
use Rattle.std.proofs.lemmas.Bool.Decides.{nat_tests}
use Rattle.wf_frame.specs.Calls.{call_numbered, in_bss, limits, no_limits}
use Rattle.wf_frame.specs.Classes.{all_classes, class_among, class_number}
use Rattle.wf_frame.specs.declared.classes.Class.{Class}
use Rattle.wf_frame.specs.declared.notes.Note.TheVariants.{Enqueue, Asked}
use Rattle.wf_frame.specs.declared.notes.Ask.TheVariants.{Join, Leave, Rate, Tick, Pull, Arrive, Answer, Done, Sleep, Wake, Poll, Rx, Reap, Ampdu, Stop, Start, Unsent, GiveUp, Flush, Offload, Weight, Plain, Hold, Begin, Free, Cease, Group, Service, Bss}
use Rattle.wf_frame.specs.declared.notes.GroupAsk.TheVariants as group
use Rattle.wf_frame.specs.declared.notes.ServiceAsk.TheVariants as service
use Rattle.wf_frame.specs.declared.notes.AskedRate.TheVariants.{Ht, Vht, He, Ofdm, Dsss}
use Rattle.wf_def_world.specs.Refusals.{is_within}
use Rattle.wf_c.specs.CallNumbers.{blank_call, numbers_of_call, asked, call_noted}
use Rattle.wf_c.specs.Numbers.{flag_of, is_up}
use Rattle.wf_c.specs.declared.cell.calls.CallNumbers.{CallNumbers}

-- ---- the fields of a call

pub fields_of_join : (station window start exponent weight : ℕ) →
    numbers_of_call (Asked (Join station window start exponent weight))
    ≡ record blank_call {
      kind = 0;
      station = station;
      window = window;
      start = start;
      exponent = exponent;
      weight = weight;
    }
fields_of_join station window start exponent weight = refl

pub fields_of_leave : (station : ℕ) →
    numbers_of_call (Asked (Leave station)) ≡ record blank_call { kind = 1; station = station }
fields_of_leave station = refl

pub fields_of_ht : (station mcs mhz : ℕ) (short : Bool) →
    numbers_of_call (Asked (Rate station (Ht mcs mhz short)))
    ≡ record blank_call { kind = 2; station = station; form = 0; mcs = mcs; mhz = mhz; short = flag_of short }
fields_of_ht station mcs mhz short = refl

pub fields_of_vht : (station mcs mhz : ℕ) (short : Bool) (streams : ℕ) →
    numbers_of_call (Asked (Rate station (Vht mcs mhz short streams)))
    ≡ record blank_call {
      kind = 2;
      station = station;
      form = 1;
      mcs = mcs;
      mhz = mhz;
      short = flag_of short;
      streams = streams;
    }
fields_of_vht station mcs mhz short streams = refl

pub fields_of_he : (station mcs mhz guard streams : ℕ) →
    numbers_of_call (Asked (Rate station (He mcs mhz guard streams)))
    ≡ record blank_call {
      kind = 2;
      station = station;
      form = 2;
      mcs = mcs;
      mhz = mhz;
      guard = guard;
      streams = streams;
    }
fields_of_he station mcs mhz guard streams = refl

pub fields_of_ofdm : (station mbps : ℕ) →
    numbers_of_call (Asked (Rate station (Ofdm mbps)))
    ≡ record blank_call { kind = 2; station = station; form = 3; speed = mbps }
fields_of_ofdm station mbps = refl

pub fields_of_dsss : (station half : ℕ) →
    numbers_of_call (Asked (Rate station (Dsss half)))
    ≡ record blank_call { kind = 2; station = station; form = 4; speed = half }
fields_of_dsss station half = refl

pub fields_of_tick : (by : ℕ) → numbers_of_call (Asked (Tick by)) ≡ record blank_call { kind = 3; by = by }
fields_of_tick by = refl

pub fields_of_enqueue : (station tid flow len : ℕ) →
    numbers_of_call (Enqueue station tid flow len)
    ≡ record blank_call { kind = 4; station = station; tid = tid; flow = flow; length = len }
fields_of_enqueue station tid flow len = refl

pub fields_of_pull : (class : Class) →
    numbers_of_call (Asked (Pull class no_limits))
    ≡ record blank_call { kind = 5; class = class_number class }
fields_of_pull class = refl

pub fields_of_pull_limited : (class : Class) (frames air : ℕ) →
    numbers_of_call (Asked (Pull class (limits (Some frames) (Some air))))
    ≡ record blank_call { kind = 5; class = class_number class; frames = frames; air = air }
fields_of_pull_limited class frames air = refl

pub fields_of_arrive : (exchange index : ℕ) →
    numbers_of_call (Asked (Arrive exchange index))
    ≡ record blank_call { kind = 6; exchange = exchange; index = index }
fields_of_arrive exchange index = refl

pub fields_of_answer : (exchange : ℕ) →
    numbers_of_call (Asked (Answer exchange)) ≡ record blank_call { kind = 7; exchange = exchange }
fields_of_answer exchange = refl

pub fields_of_done : (exchange : ℕ) (heard : Bool) →
    numbers_of_call (Asked (Done exchange heard None))
    ≡ record blank_call { kind = 8; exchange = exchange; heard = flag_of heard; air = 0 }
fields_of_done exchange heard = refl

pub fields_of_done_air : (exchange : ℕ) (heard : Bool) (air : ℕ) →
    numbers_of_call (Asked (Done exchange heard (Some air)))
    ≡ record blank_call { kind = 8; exchange = exchange; heard = flag_of heard; air = air }
fields_of_done_air exchange heard air = refl

pub fields_of_sleep : (station : ℕ) →
    numbers_of_call (Asked (Sleep station)) ≡ record blank_call { kind = 9; station = station }
fields_of_sleep station = refl

pub fields_of_wake : (station : ℕ) →
    numbers_of_call (Asked (Wake station)) ≡ record blank_call { kind = 10; station = station }
fields_of_wake station = refl

pub fields_of_poll : (station : ℕ) →
    numbers_of_call (Asked (Poll station)) ≡ record blank_call { kind = 11; station = station }
fields_of_poll station = refl

pub fields_of_rx : (station : ℕ) (class : Class) (air : ℕ) →
    numbers_of_call (Asked (Rx station class air))
    ≡ record blank_call { kind = 12; station = station; class = class_number class; air = air }
fields_of_rx station class air = refl

pub fields_of_reap : numbers_of_call (Asked Reap) ≡ record blank_call { kind = 13 }
fields_of_reap = refl

pub fields_of_ampdu : (station octets : ℕ) →
    numbers_of_call (Asked (Ampdu station octets))
    ≡ record blank_call { kind = 14; station = station; octets = octets }
fields_of_ampdu station octets = refl

pub fields_of_stop : (station : ℕ) →
    numbers_of_call (Asked (Stop station)) ≡ record blank_call { kind = 15; station = station }
fields_of_stop station = refl

pub fields_of_start : (station : ℕ) →
    numbers_of_call (Asked (Start station)) ≡ record blank_call { kind = 16; station = station }
fields_of_start station = refl

pub fields_of_unsent : (exchange index : ℕ) →
    numbers_of_call (Asked (Unsent exchange index))
    ≡ record blank_call { kind = 17; exchange = exchange; index = index }
fields_of_unsent exchange index = refl

pub fields_of_give_up : (exchange index : ℕ) →
    numbers_of_call (Asked (GiveUp exchange index))
    ≡ record blank_call { kind = 18; exchange = exchange; index = index }
fields_of_give_up exchange index = refl

pub fields_of_flush : (station tid : ℕ) →
    numbers_of_call (Asked (Flush station tid))
    ≡ record blank_call { kind = 19; station = station; tid = tid }
fields_of_flush station tid = refl

pub fields_of_offload : (station exponent weight : ℕ) →
    numbers_of_call (Asked (Offload station exponent weight))
    ≡ record blank_call { kind = 20; station = station; exponent = exponent; weight = weight }
fields_of_offload station exponent weight = refl

pub fields_of_weight : (station weight : ℕ) →
    numbers_of_call (Asked (Weight station weight))
    ≡ record blank_call { kind = 21; station = station; weight = weight }
fields_of_weight station weight = refl

pub fields_of_plain : (station start exponent weight : ℕ) →
    numbers_of_call (Asked (Plain station start exponent weight))
    ≡ record blank_call { kind = 22; station = station; start = start; exponent = exponent; weight = weight }
fields_of_plain station start exponent weight = refl

pub fields_of_hold : (station tid : ℕ) →
    numbers_of_call (Asked (Hold station tid))
    ≡ record blank_call { kind = 23; station = station; tid = tid }
fields_of_hold station tid = refl

pub fields_of_begin : (station tid window : ℕ) →
    numbers_of_call (Asked (Begin station tid window))
    ≡ record blank_call { kind = 24; station = station; tid = tid; window = window }
fields_of_begin station tid window = refl

pub fields_of_free : (station tid : ℕ) →
    numbers_of_call (Asked (Free station tid))
    ≡ record blank_call { kind = 25; station = station; tid = tid }
fields_of_free station tid = refl

pub fields_of_cease : (station tid : ℕ) →
    numbers_of_call (Asked (Cease station tid))
    ≡ record blank_call { kind = 26; station = station; tid = tid }
fields_of_cease station tid = refl

pub fields_of_group : (len bss : ℕ) → numbers_of_call (Asked (Group (in_bss bss (group.Accept len))))
    ≡ record blank_call { kind = 27; length = len; bss = bss }
fields_of_group len bss = refl

pub fields_of_beacon : (bss : ℕ) → numbers_of_call (Asked (Group (in_bss bss group.Beacon)))
    ≡ record blank_call { kind = 28; bss = bss }
fields_of_beacon bss = refl

pub fields_of_gpull : (bss : ℕ) → numbers_of_call (Asked (Group (in_bss bss group.Pull)))
    ≡ record blank_call { kind = 29; bss = bss }
fields_of_gpull bss = refl

pub fields_of_gdone : (bss : ℕ) → numbers_of_call (Asked (Group (in_bss bss group.Done)))
    ≡ record blank_call { kind = 30; bss = bss }
fields_of_gdone bss = refl

pub fields_of_apsd : (station classes most : ℕ) →
    numbers_of_call (Asked (Service (service.Set station classes most)))
    ≡ record blank_call { kind = 31; station = station; classes = classes; most = most }
fields_of_apsd station classes most = refl

pub fields_of_trigger : (station : ℕ) →
    numbers_of_call (Asked (Service (service.Trigger station)))
    ≡ record blank_call { kind = 32; station = station }
fields_of_trigger station = refl

pub fields_of_eosp : (station : ℕ) →
    numbers_of_call (Asked (Service (service.End station)))
    ≡ record blank_call { kind = 33; station = station }
fields_of_eosp station = refl

pub fields_of_bss : (station bss : ℕ) →
    numbers_of_call (Asked (Bss station bss)) ≡ record blank_call { kind = 34; station = station; bss = bss }
fields_of_bss station bss = refl

-- ---- the call of fields

-- the calls that these fields show, by their kind and some other field
pub record Rows (c : CallNumbers) : Type 0 where
  pub join : asked (record c { kind = 0 }) ≡ Some (Join c.station c.window c.start c.exponent c.weight)
  pub leave : asked (record c { kind = 1 }) ≡ Some (Leave c.station)
  pub ht : asked (record c { kind = 2; form = 0 }) ≡ Some (Rate c.station (Ht c.mcs c.mhz (is_up c.short)))
  pub vht : asked (record c { kind = 2; form = 1 })
      ≡ Some (Rate c.station (Vht c.mcs c.mhz (is_up c.short) c.streams))
  pub he : asked (record c { kind = 2; form = 2 }) ≡ Some (Rate c.station (He c.mcs c.mhz c.guard c.streams))
  pub ofdm : asked (record c { kind = 2; form = 3 }) ≡ Some (Rate c.station (Ofdm c.speed))
  pub dsss : asked (record c { kind = 2; form = 4 }) ≡ Some (Rate c.station (Dsss c.speed))
  pub no_rate : (n : ℕ) → 4 < n → asked (record c { kind = 2; form = n }) ≡ None
  pub tick : asked (record c { kind = 3 }) ≡ Some (Tick c.by)
  pub enqueue : asked (record c { kind = 4 }) ≡ None
  pub pull : c.class ≤ 3 → asked (record c { kind = 5; frames = 0; air = 0 })
      ≡ Some (Pull (class_among all_classes c.class) no_limits)
  pub pull_frames : c.class ≤ 3 → (n : ℕ) → 0 < n → asked (record c { kind = 5; frames = n; air = 0 })
      ≡ Some (Pull (class_among all_classes c.class) (limits (Some n) None))
  pub pull_air : c.class ≤ 3 → (n : ℕ) → 0 < n → asked (record c { kind = 5; frames = 0; air = n })
      ≡ Some (Pull (class_among all_classes c.class) (limits None (Some n)))
  pub pull_limited : c.class ≤ 3 → (n m : ℕ) → 0 < n → 0 < m →
      asked (record c { kind = 5; frames = n; air = m })
      ≡ Some (Pull (class_among all_classes c.class) (limits (Some n) (Some m)))
  pub no_pull : (n : ℕ) → 3 < n → asked (record c { kind = 5; class = n }) ≡ None
  pub arrive : asked (record c { kind = 6 }) ≡ Some (Arrive c.exchange c.index)
  pub answer : asked (record c { kind = 7 }) ≡ Some (Answer c.exchange)
  pub done : asked (record c { kind = 8; air = 0 }) ≡ Some (Done c.exchange (is_up c.heard) None)
  pub done_air : (n : ℕ) → 0 < n →
      asked (record c { kind = 8; air = n }) ≡ Some (Done c.exchange (is_up c.heard) (Some n))
  pub sleep : asked (record c { kind = 9 }) ≡ Some (Sleep c.station)
  pub wake : asked (record c { kind = 10 }) ≡ Some (Wake c.station)
  pub poll : asked (record c { kind = 11 }) ≡ Some (Poll c.station)
  pub rx : c.class ≤ 3 →
      asked (record c { kind = 12 }) ≡ Some (Rx c.station (class_among all_classes c.class) c.air)
  pub no_rx : (n : ℕ) → 3 < n → asked (record c { kind = 12; class = n }) ≡ None
  pub reap : asked (record c { kind = 13 }) ≡ None
  pub ampdu : asked (record c { kind = 14 }) ≡ Some (Ampdu c.station c.octets)
  pub stop : asked (record c { kind = 15 }) ≡ Some (Stop c.station)
  pub start : asked (record c { kind = 16 }) ≡ Some (Start c.station)
  pub unsent : asked (record c { kind = 17 }) ≡ Some (Unsent c.exchange c.index)
  pub give_up : asked (record c { kind = 18 }) ≡ Some (GiveUp c.exchange c.index)
  pub flush : asked (record c { kind = 19 }) ≡ Some (Flush c.station c.tid)
  pub offload : asked (record c { kind = 20 }) ≡ Some (Offload c.station c.exponent c.weight)
  pub weight : asked (record c { kind = 21 }) ≡ Some (Weight c.station c.weight)
  pub plain : asked (record c { kind = 22 }) ≡ Some (Plain c.station c.start c.exponent c.weight)
  pub hold : asked (record c { kind = 23 }) ≡ Some (Hold c.station c.tid)
  pub begin : asked (record c { kind = 24 }) ≡ Some (Begin c.station c.tid c.window)
  pub free : asked (record c { kind = 25 }) ≡ Some (Free c.station c.tid)
  pub cease : asked (record c { kind = 26 }) ≡ Some (Cease c.station c.tid)
  pub group_call : 1 ≤ c.length → c.length ≤ 2304 →
      asked (record c { kind = 27 }) ≡ Some (Group (in_bss c.bss (group.Accept c.length)))
  pub empty_group : asked (record c { kind = 27; length = 0 }) ≡ None
  pub long_group : (n : ℕ) → 2304 < n → asked (record c { kind = 27; length = n }) ≡ None
  pub beacon : asked (record c { kind = 28 }) ≡ Some (Group (in_bss c.bss group.Beacon))
  pub gpull : asked (record c { kind = 29 }) ≡ Some (Group (in_bss c.bss group.Pull))
  pub gdone : asked (record c { kind = 30 }) ≡ Some (Group (in_bss c.bss group.Done))
  pub apsd : asked (record c { kind = 31 }) ≡ Some (Service (service.Set c.station c.classes c.most))
  pub trigger : asked (record c { kind = 32 }) ≡ Some (Service (service.Trigger c.station))
  pub eosp : asked (record c { kind = 33 }) ≡ Some (Service (service.End c.station))
  pub bss : asked (record c { kind = 34 }) ≡ Some (Bss c.station c.bss)
  pub no_call : (n : ℕ) → 34 < n → asked (record c { kind = n }) ≡ None

above : (n k : ℕ) → k < n → nat_eq n k ≡ false
above n k less = grind (arith, nat_tests)

none_numbered : (n : ℕ) → 34 < n → call_numbered n ≡ None
none_numbered n less = grind (arith, nat_tests)

is_class : (n : ℕ) → n ≤ 3 → nat_lt 3 n ≡ false
is_class n low = grind (arith, nat_tests)

no_class : (n : ℕ) → 3 < n → nat_lt 3 n ≡ true
no_class n high = grind (arith, nat_tests)

is_length : (n : ℕ) → 1 ≤ n → n ≤ 2304 → is_within 1 2304 n ≡ true
is_length n some most = grind (arith, nat_tests)

no_length : (n : ℕ) → 2304 < n → is_within 1 2304 n ≡ false
no_length n long = grind (arith, nat_tests)

pub rows : (c : CallNumbers) → Rows c
unfolding asked call_noted
rows c = record {
  join = refl;
  leave = refl;
  ht = refl;
  vht = refl;
  he = refl;
  ofdm = refl;
  dsss = refl;
  no_rate = λ n less. rw (
    above n 0 (omega (arith, less)),
    above n 1 (omega (arith, less)),
    above n 2 (omega (arith, less)),
    above n 3 (omega (arith, less)),
    above n 4 less,
  ) refl;
  tick = refl;
  enqueue = refl;
  pull = λ low. rw (is_class c.class low) refl;
  pull_frames = λ low n some. rw (is_class c.class low, above n 0 some) refl;
  pull_air = λ low n some. rw (is_class c.class low, above n 0 some) refl;
  pull_limited = λ low n m some long. rw (is_class c.class low, above n 0 some, above m 0 long) refl;
  no_pull = λ n high. rw (no_class n high) refl;
  arrive = refl;
  answer = refl;
  done = refl;
  done_air = λ n some. rw (above n 0 some) refl;
  sleep = refl;
  wake = refl;
  poll = refl;
  rx = λ low. rw (is_class c.class low) refl;
  no_rx = λ n high. rw (no_class n high) refl;
  reap = refl;
  ampdu = refl;
  stop = refl;
  start = refl;
  unsent = refl;
  give_up = refl;
  flush = refl;
  offload = refl;
  weight = refl;
  plain = refl;
  hold = refl;
  begin = refl;
  free = refl;
  cease = refl;
  group_call = λ some most. rw (is_length c.length some most) refl;
  empty_group = refl;
  long_group = λ n long. rw (no_length n long) refl;
  beacon = refl;
  gpull = refl;
  gdone = refl;
  apsd = refl;
  trigger = refl;
  eosp = refl;
  bss = refl;
  no_call = λ n less. rw (none_numbered n less) refl;
}
