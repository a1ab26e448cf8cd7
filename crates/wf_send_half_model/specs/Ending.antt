-- Defines the end of an exchange of data, number by number.
use Rattle.std.specs.Prelude.{◌≡◌, ◌<◌, ℕ, ◌==◌, nat_le, Bool, true, not, ◌&&◌, List, [], ◌∷◌, ◌++◌, map, filter}
use Rattle.wf_frame.specs.declared.classes.Fate.TheVariants.{Held}
use Rattle.wf_frame.specs.declared.settings.Config.{Config}
use Rattle.wf_frame.specs.Frames.{FrameValue}
use Rattle.wf_def_lists.specs.Lists.{IsOnce}
use Rattle.wf_def_agreement.specs.Session.{State, End, slot}
use Rattle.wf_def_world.specs.World.{World, Mpdu, is_live, session, frame, accepted_count}
use Rattle.wf_def_world.specs.Exchanges.{repeat_distance, with_all_settled}
use Rattle.wf_law_runs.specs.Windows.{EachMpdu}
use Rattle.wf_send_parts.specs.Tally.{settled_as}
use Rattle.wf_queue_flows_refines.specs.Standing.{times_held, with_finished}
use Rattle.wf_sched_refines.specs.Standing.{with_deficit_charged as with_turns_charged, with_pending_paid_back}
use Rattle.wf_sched.specs.ClassRotas.{SchedValue}
use Rattle.wf_send_parts.specs.declared.exchanges.opened.Open.{Open}
use Rattle.wf_send_parts.specs.Members.{on_member, with_charge}
use Rattle.wf_send_parts.specs.declared.window.window.Settled.{Settled}
use Rattle.wf_send_parts.specs.declared.window.window.Settled.TheVariants.{Acked, Waiting, Failed}
use Rattle.wf_send_parts.specs.Ending.{Ending, AreFlying}
use Rattle.wf_send_parts.specs.Windows.{window_of}
use Rattle.wf_send_half_model.specs.Half.{TransmitValue}
use Rattle.wf_send_half_model.specs.Standing.{Parts}

-- the scheduler without the pending charge of an exchange, if the setting `pending` says so
abbrev pub without_pending_charge : TransmitValue → Open → SchedValue
without_pending_charge v x = with_pending_paid_back v.config v.sched x.station x.class x.charge

-- exchange x is no longer open, and its station is charged `charge` microseconds for it
abbrev pub after_close : TransmitValue → Open → ℕ → TransmitValue
after_close v x charge =
    record v {
      opened = filter (λ y. not (y.number == x.number)) v.opened;
      sched = with_turns_charged (without_pending_charge v x) x.station x.class charge;
      members = on_member v.members x.station (with_charge x.class charge);
    }

-- a frame goes last on the finished list, with its fate
abbrev pub after_finish : TransmitValue → FrameValue → TransmitValue
after_finish v f =
    record v {
      flows = with_finished v.flows (v.flows.backlog.finished ++ f ∷ []);
      tally = settled_as f.fate v.tally;
    }

-- the half after a window's answer for a settled number: if the number is acknowledged or failed, its frame
-- is finished
abbrev pub after_answer : TransmitValue → Settled → TransmitValue
after_answer v (Acked f) = after_finish v f
after_answer v Waiting = v
after_answer v (Failed f) = after_finish v f

-- how exchange e ends: `ends` says how it ends for each of its numbers, and the settings how often a frame
-- may be sent
abbrev pub ending_of : Config → ℕ → (ℕ → End) → Ending
ending_of c e ends = record { exchange = e; ends = ends; limit = c.attempts }

-- whether an exchange sends a frame without an agreement that is not sent again: its number, the first of the
-- window, is too far above the last acknowledged one
abbrev pub is_sent_once : TransmitValue → Open → Bool
is_sent_once v x = x.plain && nat_le repeat_distance (window_of v.windows x.station x.tid).unacked

-- the frame of a transmission is held, in no flow queue and not on the finished list
pub record IsLoose (v : TransmitValue) (w : World) (m : Mpdu) : Type 0 where
  pub low : m.id < accepted_count w
  pub held : (frame w m.id).fate ≡ Held
  pub nowhere : times_held v.flows.backlog m.id ≡ 0

-- In the middle of the end of exchange e, which sends to TID t of station s. These transmissions are still to
-- be settled; after that the world is `after`.
pub record IsEnding (v : TransmitValue) (w : World) (bodies : ℕ → FrameValue) (s t e : ℕ) (ends : ℕ → End)
    (mpdus : List Mpdu) (after : World) : Type 0 where
  pub parts : Parts v w bodies
  pub live : is_live w s ≡ true
  pub tid : t < 8
  pub flying : AreFlying (session w s t) (ending_of w.config e ends) (map (λ m. m.number) mpdus)
  pub ids : EachMpdu (λ m. (slot (session w s t) m.number).id ≡ m.id) mpdus
  pub loose : EachMpdu (IsLoose v w) mpdus
  pub once : IsOnce (map (λ m. m.id) mpdus)
  pub leads : with_all_settled w s t ends mpdus ≡ after

-- the state in which an answer leaves its number
abbrev pub state_left : Settled → State
state_left (Acked f) = State.Acked
state_left Waiting = State.Waiting
state_left (Failed f) = State.Failed
