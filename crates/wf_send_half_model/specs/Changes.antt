-- Defines changes that calls make to a transmit half: listings, new windows, an enqueue, and group frames.
use Rattle.std.specs.Prelude.{◌≡◌, ◌≢◌, ◌<◌, ℕ, ◌+◌, ◌*◌, max, if◌then◌else◌, Bool, List, length, set, Some}
use Rattle.wf_frame.specs.Classes.{all_classes, tid_number}
use Rattle.wf_frame.specs.declared.classes.Class.{Class}
use Rattle.wf_frame.specs.declared.notes.GroupCall.{GroupCall}
use Rattle.wf_frame.specs.declared.notes.ServiceAsk.{ServiceAsk}
use Rattle.wf_def_world.specs.Service.{station_served}
use Rattle.wf_frame.specs.Frames.{FrameValue}
use Rattle.wf_def_agreement.specs.Session.{Session, new_session, start_of}
use Rattle.wf_send_parts.specs.Tally.{one_accepted}
use Rattle.wf_queue_flows.specs.Flows.{dropped_for_limit, after_put}
use Rattle.wf_sched.specs.ClassRotas.{after_join}
use Rattle.wf_sched_refines.specs.Standing.{everywhere, with_listed, with_listed_where, with_weight}
use Rattle.wf_send_parts.specs.Members.{new_member}
use Rattle.wf_send_parts.specs.Group.{with_group, group_value_after}
use Rattle.wf_send_parts.specs.declared.stations.modes.Mode.{Mode}
use Rattle.wf_send_parts.specs.Modes.{mode_of, with_mode_of}
use Rattle.wf_send_parts.specs.Sleepers.{awake, sleeper, with_sleeper, sleeper_after}
use Rattle.wf_send_parts.specs.Window.{WindowValue, WindowStandsFor}
use Rattle.wf_send_parts.specs.Windows.{WindowsHaveRoom, window_of, with_window}
use Rattle.wf_send_half_model.specs.Counting.{with_overlimit}
use Rattle.wf_send_half_model.specs.Half.{TransmitValue, is_ready_of, is_to_list_of, uncovered_air_of, group_in, is_any_asleep_of}

-- a station is listed in each class in which it belongs on a list
abbrev pub after_listing : TransmitValue → ℕ → TransmitValue
after_listing v s = record v {
  sched = with_listed_where (λ c. is_to_list_of v c s) (λ c. is_ready_of v c s) s all_classes v.sched;
}

-- a station is listed in class c, if it belongs on a list there
abbrev pub after_listing_in : TransmitValue → ℕ → Class → TransmitValue
after_listing_in v s c = record v {
  sched = if is_to_list_of v c s then with_listed (is_ready_of v c s) v.sched s c else v.sched;
}

-- the eight windows of station s begin new sessions at number `first`; the other windows are unchanged
pub record AreReset (before after : List WindowValue) (s first size : ℕ) : Type 0 where
  pub sized : length after ≡ length before
  pub room : WindowsHaveRoom after
  pub own : (t : ℕ) (bodies : ℕ → FrameValue) → t < 8 →
      WindowStandsFor (window_of after s t) (new_session first size) bodies
  pub others : (i t : ℕ) → i ≢ s → t < 8 → window_of after i t ≡ window_of before i t

-- the eight TIDs of station s have this mode; the modes of all other stations are unchanged
pub record AreSet (before after : List Mode) (s : ℕ) (mode : Mode) : Type 0 where
  pub sized : length after ≡ length before
  pub own : (t : ℕ) → t < 8 → mode_of after s t ≡ mode
  pub others : (i t : ℕ) → i ≢ s → t < 8 → mode_of after i t ≡ mode_of before i t

-- TID t of station s has this mode from now on
abbrev pub after_mode : TransmitValue → ℕ → ℕ → Mode → TransmitValue
after_mode v s t mode = record v { modes = with_mode_of v.modes s t mode }

-- TID t of station s has this window and this mode from now on
abbrev pub after_change : TransmitValue → ℕ → ℕ → WindowValue → Mode → TransmitValue
after_change v s t x mode =
    record v {
      windows = with_window v.windows s t x;
      modes = with_mode_of v.modes s t mode;
    }

-- the session whose window gets this size: its start counts as heard, so that no request is due
abbrev pub session_resized : ℕ → Session → Session
session_resized size y = record y { heard = max y.heard (start_of y); size = size }

-- a frame is accepted: at the limit the head of the longest queue is dropped, and the frame goes to its TID's
-- queues
abbrev pub after_enqueue : TransmitValue → FrameValue → TransmitValue
after_enqueue v f =
    record v {
      inside = v.inside + 1;
      flows = after_put v.flows (tid_number f.station f.tid) f;
      tally = with_overlimit (dropped_for_limit v.flows) (one_accepted v.tally);
    }

-- station s joins with these windows and modes: it has its quantum in each class, is awake, not stopped, and
-- of BSS 0, and is listed where it belongs on a list
abbrev pub after_admission : TransmitValue → List WindowValue → List Mode → ℕ → ℕ → ℕ → Bool → TransmitValue
after_admission v windows modes s exponent weight offloaded =
    after_listing (record v {
      sched = everywhere (after_join s (v.sched.quantum * weight)) v.sched;
      windows = windows;
      modes = modes;
      members = set v.members s (Some (new_member exponent offloaded));
      sleepers = with_sleeper v.sleepers s awake;
    }) s

-- the half after a call about the service periods of a station, before the station is listed
abbrev pub after_service_call : TransmitValue → ServiceAsk → TransmitValue
after_service_call v ask =
    let s : ℕ = station_served ask in
    record v { sleepers = with_sleeper v.sleepers s (sleeper_after ask (sleeper v.sleepers s)) }

-- the half after a call about the group frames of a BSS; a frame that the call accepts has this tag and this
-- destination
abbrev pub after_group_call : TransmitValue → GroupCall → ℕ → List ℕ → TransmitValue
after_group_call v g tag to = record v {
  groups = with_group v.groups g.bss
      (group_value_after v.config (is_any_asleep_of v g.bss) g.ask tag to (group_in v g.bss));
}

-- station s has this weight: its quantum in each class becomes another one, and each of its deficits is
-- lowered to what the quantum allows
abbrev pub after_weight : TransmitValue → ℕ → ℕ → TransmitValue
after_weight v s weight =
    after_listing (record v { sched = with_weight (uncovered_air_of v s) s weight v.sched }) s
