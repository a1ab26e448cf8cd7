-- Defines the parts of a pull: whose turn it is, the exchange that it opens, and the half after that.
use Rattle.std.specs.Prelude.{ℕ, ◌+◌, ◌==◌, nat_lt, Bool, false, not, ◌&&◌, ◌||◌, [], ◌∷◌, ◌++◌, option_map, unwrap_or, if◌then◌else◌}
use Rattle.std.specs.List.{list_any}
use Rattle.wf_frame.specs.declared.classes.Class.{Class}
use Rattle.wf_frame.specs.Classes.{lower_tid, upper_tid, class_of, tid_number}
use Rattle.wf_def_air.specs.Airtime.{Rate, is_single}
use Rattle.wf_def_lists.specs.Bounds.{narrow_window}
use Rattle.wf_def_lists.specs.Table.{upto}
use Rattle.wf_def_world.specs.World.{Bounds}
use Rattle.wf_def_world.specs.Exchanges.{limited}
use Rattle.wf_queue_flows.specs.Flows.{frames_of_tid}
use Rattle.wf_send_parts.specs.Windows.{window_of}
use Rattle.wf_send_parts.specs.declared.exchanges.opened.Open.{Open}
use Rattle.wf_send_parts.specs.declared.exchanges.opened.Sending.{Sending}
use Rattle.wf_send_parts.specs.Exchanges.{sending_is_request, frames_carried}
use Rattle.wf_send_parts.specs.Members.{member, is_offloaded_in, on_member, upper_in, with_upper}
use Rattle.wf_send_parts.specs.declared.stations.sleepers.Sleeper.{Sleeper}
use Rattle.wf_send_parts.specs.Sleepers.{sleeper, with_sleeper, is_delivered_in, is_polled_in, is_served_in, is_told_in, service_limit_in, is_used_up, sleeper_spent}
use Rattle.wf_sched_refines.specs.Standing.{with_pending_charged}
use Rattle.wf_send_half_model.specs.Half.{TransmitValue, is_plain_of, some_wait, can_send_of}

-- ---- whose turn it is

-- whether it is the turn of the upper of a class's two TIDs
abbrev pub has_upper_turn : TransmitValue → ℕ → Class → Bool
has_upper_turn v s c = unwrap_or (option_map (λ m. upper_in m c) (member v.members s)) false

-- the TID whose turn it is
abbrev pub first_tid_of : TransmitValue → ℕ → Class → ℕ
first_tid_of v s c = if has_upper_turn v s c then upper_tid c else lower_tid c

-- the class's other TID
abbrev pub other_tid_of : TransmitValue → ℕ → Class → ℕ
other_tid_of v s c = if has_upper_turn v s c then lower_tid c else upper_tid c

-- the TID that sends: the one whose turn it is, if it can send; otherwise the other one
abbrev pub sending_tid_of : TransmitValue → ℕ → Class → ℕ
sending_tid_of v s c = if can_send_of v s (first_tid_of v s c) then first_tid_of v s c else other_tid_of v s c

-- the turn goes to the TID that does not send
abbrev pub after_turn : TransmitValue → ℕ → Class → ℕ → TransmitValue
after_turn v s c t = record v { members = on_member v.members s (with_upper c (t == lower_tid c)) }

-- ---- the exchange that it opens

-- whether a TID's window is above 64, so that its BlockAcks have 256 bits
abbrev pub is_wide_of : TransmitValue → ℕ → ℕ → Bool
is_wide_of v s t = nat_lt narrow_window (window_of v.windows s t).size

-- the most frames of an exchange at a rate to a station with this power save, within these bounds: one if it
-- takes one, and in a service period those that are left
abbrev pub frames_allowed_of : Sleeper → Rate → Bounds → ℕ
frames_allowed_of y rate b =
    if (y.asleep && not (is_served_in y b.class)) || is_single rate then 1
    else limited (service_limit_in y b.class) b.frames

-- whether a number of a TID waits or a frame is queued
abbrev pub has_some_of : TransmitValue → ℕ → ℕ → Bool
has_some_of v s t =
    some_wait (window_of v.windows s t) || nat_lt 0 (frames_of_tid v.flows (tid_number s t))

-- whether a number waits or a frame is queued on some TID of a station, of the classes that pass a test
abbrev pub has_more_in_of : TransmitValue → ℕ → (Class → Bool) → Bool
has_more_in_of v s p = list_any (λ t. p (class_of t) && has_some_of v s t) (upto 8)

-- the same for the classes of a poll, which the TIM announces
abbrev pub has_more_of : TransmitValue → ℕ → Bool
has_more_of v s = has_more_in_of v s (is_polled_in (sleeper v.sleepers s))

-- the More Data bit of an exchange of class c that sends `sending` (IEEE 802.11-2012, 8.2.4.1.8)
abbrev pub more_data_of : TransmitValue → ℕ → Class → Sending → Bool
more_data_of v s c sending =
    let y : Sleeper = sleeper v.sleepers s in
    y.asleep && (not (sending_is_request sending) && has_more_in_of v s (is_told_in y c))

-- whether an exchange of class c that sends `sending` is the last of a service period: nothing is left of it,
-- or nothing waits in the delivery-enabled classes. A request is never the last.
abbrev pub ends_period_of : TransmitValue → ℕ → Class → Sending → Bool
ends_period_of v s c sending =
    let y : Sleeper = sleeper v.sleepers s in
    is_served_in y c && (not (sending_is_request sending)
    && (is_used_up y (frames_carried sending) || not (has_more_in_of v s (is_delivered_in y))))

-- the exchange that sends `sending` for `charge` microseconds; `eosp` is the EOSP bit of its last frame
-- (8.2.4.5.3)
abbrev pub open_next : TransmitValue → ℕ → ℕ → Class → ℕ → Sending → Open
open_next v s t c charge sending = record {
  number = v.exchanges;
  station = s;
  tid = t;
  class = c;
  charge = charge;
  sending = sending;
  more = more_data_of v s c sending;
  eosp = ends_period_of v s c sending;
  batch = is_offloaded_in v.members s;
  plain = is_plain_of v s t;
  unsent = [];
  given_up = [];
}

-- the half with this exchange opened
abbrev pub after_opening : TransmitValue → Open → TransmitValue
after_opening v x = record v { exchanges = v.exchanges + 1; opened = v.opened ++ x ∷ [] }

-- the half with this exchange charged to its station's standing, if the setting `pending` says so
abbrev pub after_pending_charge : TransmitValue → Open → TransmitValue
after_pending_charge v x = record v {
  sched = with_pending_charged v.config v.sched x.station x.class x.charge;
}

-- the half after this exchange spent its station's credit, or frames of its service period
abbrev pub after_spending : TransmitValue → Open → TransmitValue
after_spending v x = record v {
  sleepers = with_sleeper v.sleepers x.station
      (sleeper_spent x.class (frames_carried x.sending) x.eosp (sleeper v.sleepers x.station));
}

-- the prepared exchange is sent: it opens, counts against its station's standing with the setting `pending`,
-- and spends a credit or frames of a service period
abbrev pub after_sending : TransmitValue → ℕ → ℕ → Class → ℕ → Sending → TransmitValue
after_sending v s t c charge sending =
    let x : Open = open_next v s t c charge sending in
    after_spending (after_pending_charge (after_opening v x) x) x
