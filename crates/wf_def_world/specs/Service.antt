-- Defines the service periods of a station that sleeps (U-APSD; IEEE 802.11-2012, 10.2.1.5). The station
-- names its delivery-enabled classes. Its trigger frame opens a service period, in which it may receive
-- frames of these classes, up to a number of frames. A poll is for the other classes, or for all if all are
-- delivery-enabled.
use Rattle.std.specs.Prelude.{ℕ, zero, suc, ◌-◌, ◌==◌, nat_le, Bool, true, false, not, ◌&&◌, ◌||◌, Option, Some, None, is_some, option_map, if◌then◌else◌}
use Rattle.wf_frame.specs.declared.classes.Class.{Class}
use Rattle.wf_frame.specs.declared.notes.ServiceAsk.{ServiceAsk}
use Rattle.wf_frame.specs.declared.notes.ServiceAsk.TheVariants as service
use Rattle.wf_frame.specs.Classes.{has_class, greatest_classes}
use Rattle.wf_def_world.specs.World.{Station}

-- ---- the classes

-- whether a class of a station is delivery-enabled
abbrev pub is_delivered : Station → Class → Bool
is_delivered x c = has_class x.delivery c

-- whether a poll of a station is for a class: it is not delivery-enabled, or all four are
abbrev pub is_polled : Station → Class → Bool
is_polled x c = (x.delivery == greatest_classes) || not (is_delivered x c)

-- whether an exchange of a class to a station is part of its service period: one is open, and the class is
-- delivery-enabled
abbrev pub is_served : Station → Class → Bool
is_served x c = is_some x.service && (is_delivered x c && x.asleep)

-- the classes that the More Data bit of an exchange of class c is about: in a service period those that are
-- delivery-enabled, otherwise those of a poll
abbrev pub is_told : Station → Class → Class → Bool
is_told x c = if is_served x c then is_delivered x else is_polled x

-- ---- the frames that are left

-- how many frames are left of a service period, if it is open and has a limit: 0 means that it has none
abbrev pub limit_left : Option ℕ → Option ℕ
limit_left None = None
limit_left (Some zero) = None
limit_left (Some (suc left)) = Some (suc left)

-- the limit on the frames of an exchange of a class, if there is one
abbrev pub service_limit : Station → Class → Option ℕ
service_limit x c = if is_served x c then limit_left x.service else None

-- whether this number of frames reaches a limit
abbrev pub is_reached : Option ℕ → ℕ → Bool
is_reached None sent = false
is_reached (Some limit) sent = nat_le limit sent

-- a service period after an exchange of it with this number of frames, which may be its last
abbrev pub service_after_sent : Bool → ℕ → Option ℕ → Option ℕ
service_after_sent true sent period = None
service_after_sent false sent period = option_map (λ left. left - sent) period

-- ---- the calls

-- the station of a call
abbrev pub station_served : ServiceAsk → ℕ
station_served (service.Set s classes most) = s
station_served (service.Trigger s) = s
station_served (service.End s) = s

-- the set of delivery-enabled classes after a call that is not refused
abbrev pub delivery_after : ServiceAsk → Station → ℕ
delivery_after (service.Set s classes most) x = classes
delivery_after ask x = x.delivery

-- the most frames of a service period after a call
abbrev pub most_after : ServiceAsk → Station → ℕ
most_after (service.Set s classes most) x = most
most_after ask x = x.most

-- the open service period after a call: a trigger opens one
abbrev pub service_after : ServiceAsk → Station → Option ℕ
service_after (service.Set s classes most) x = x.service
service_after (service.Trigger s) x = Some x.most
service_after (service.End s) x = None

-- the station after a call that is not refused
abbrev pub after_service : ServiceAsk → Station → Station
after_service ask x = record x {
  delivery = delivery_after ask x;
  most = most_after ask x;
  service = service_after ask x;
}
