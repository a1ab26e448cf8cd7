-- Defines which stations sleep, the class of which a polled station may be sent one exchange, the service
-- periods of stations that sleep (U-APSD; IEEE 802.11-2012, 10.2.1.5), which stations are stopped, and of
-- which BSS each is, by number.
use Rattle.std.specs.Prelude.{ℕ, ◌==◌, Bool, false, not, ◌&&◌, ◌||◌, if◌then◌else◌, List, Option, Some, None, is_some, slice_index_or, slice_set}
use Rattle.wf_frame.specs.declared.classes.Class.{Class}
use Rattle.wf_frame.specs.declared.notes.ServiceAsk.{ServiceAsk}
use Rattle.wf_frame.specs.declared.notes.ServiceAsk.TheVariants as service
use Rattle.wf_frame.specs.Classes.{has_class, greatest_classes}
use Rattle.wf_def_world.specs.CanSend.{has_credit}
use Rattle.wf_def_world.specs.Service.{limit_left, is_reached, service_after_sent}
use Rattle.wf_send_parts.specs.declared.stations.sleepers.Sleeper.{Sleeper}

-- awake, without a credit, not stopped, and of BSS 0; no class is delivery-enabled, and no service period is
-- open
abbrev pub awake : Sleeper
awake = record {
  asleep = false;
  credit = None;
  stopped = false;
  bss = 0;
  delivery = 0;
  most = 0;
  service = None;
}

-- a station that wakes: it loses its credit and its service period
abbrev pub woken : Sleeper → Sleeper
woken s = record s { asleep = false; credit = None; service = None }

abbrev pub sleeper : List Sleeper → ℕ → Sleeper
sleeper stations k = slice_index_or stations k awake

-- the stations with this one changed
abbrev pub with_sleeper : List Sleeper → ℕ → Sleeper → List Sleeper
with_sleeper stations k s = slice_set stations k s

-- ---- service periods

-- whether a class of a station is delivery-enabled
abbrev pub is_delivered_in : Sleeper → Class → Bool
is_delivered_in s c = has_class s.delivery c

-- whether a poll of a station is for a class: it is not delivery-enabled, or all four are
abbrev pub is_polled_in : Sleeper → Class → Bool
is_polled_in s c = (s.delivery == greatest_classes) || not (is_delivered_in s c)

-- whether an exchange of a class to a station is part of its service period
abbrev pub is_served_in : Sleeper → Class → Bool
is_served_in s c = is_some s.service && (is_delivered_in s c && s.asleep)

-- whether a station receives in a class now: it is awake, or has a credit for the class or a service period
abbrev pub is_reachable_in : Sleeper → Class → Bool
is_reachable_in s c = not s.asleep || (has_credit s.credit c || is_served_in s c)

-- the classes that the More Data bit of an exchange of class c is about
abbrev pub is_told_in : Sleeper → Class → Class → Bool
is_told_in s c = if is_served_in s c then is_delivered_in s else is_polled_in s

-- the limit on the frames of an exchange of a class, if there is one: what is left of the service period
abbrev pub service_limit_in : Sleeper → Class → Option ℕ
service_limit_in s c = if is_served_in s c then limit_left s.service else None

-- whether this number of frames is all that is left of a service period
abbrev pub is_used_up : Sleeper → ℕ → Bool
is_used_up s frames = is_reached (limit_left s.service) frames

-- a station after a call about its service periods that is not refused
abbrev pub sleeper_after : ServiceAsk → Sleeper → Sleeper
sleeper_after (service.Set station classes most) s = record s { delivery = classes; most = most }
sleeper_after (service.Trigger station) s = record s { service = Some s.most }
sleeper_after (service.End station) s = record s { service = None }

-- the credit of a station after an exchange of a class: it is spent, unless it is for another class than that
-- of an exchange of a service period
abbrev pub credit_left : Class → Sleeper → Option Class
credit_left c s = if is_served_in s c && not (has_credit s.credit c) then s.credit else None

-- the service period of a station after an exchange of a class with this number of frames, which ends it if
-- `eosp` is true
abbrev pub service_left : Class → ℕ → Bool → Sleeper → Option ℕ
service_left c frames eosp s =
    if is_served_in s c then service_after_sent eosp frames s.service else s.service

-- a station after such an exchange
abbrev pub sleeper_spent : Class → ℕ → Bool → Sleeper → Sleeper
sleeper_spent c frames eosp s = record s { credit = credit_left c s; service = service_left c frames eosp s }
