-- Defines the laws of service periods (IEEE 802.11-2012, 10.2.1.5): statements about the worlds after each
-- entry of a history, and about its replies. World m is the one in which entry m is made.
use Rattle.std.specs.Prelude.{◌≡◌, ℕ, suc, ◌+◌, ◌-◌, ◌==◌, ◌<◌, ◌≤◌, Bool, true, false, not, ◌&&◌, ◌||◌, List, [], ◌∷◌, Option, Some, is_some, option_map, if◌then◌else◌, take, drop, slice_get}
use Rattle.wf_frame.specs.declared.settings.Config.{Config}
use Rattle.wf_frame.specs.declared.classes.Class.{Class}
use Rattle.wf_frame.specs.declared.notes.Ask.TheVariants.{Leave, Wake, Service}
use Rattle.wf_frame.specs.declared.notes.ServiceAsk.{ServiceAsk}
use Rattle.wf_frame.specs.declared.notes.ServiceAsk.TheVariants as service
use Rattle.wf_frame.specs.declared.notes.ServiceReply.TheVariants as answer
use Rattle.wf_frame.specs.declared.notes.Note.{Note}
use Rattle.wf_frame.specs.declared.notes.Note.TheVariants.{Asked}
use Rattle.wf_frame.specs.declared.notes.Part.{Part}
use Rattle.wf_frame.specs.declared.notes.Part.TheVariants.{Request}
use Rattle.wf_frame.specs.declared.notes.ReplyNote.{ReplyNote}
use Rattle.wf_frame.specs.declared.notes.ReplyNote.TheVariants.{Send, Woken}
use Rattle.wf_frame.specs.declared.notes.ReplyNote.TheVariants as reply
use Rattle.wf_frame.specs.Classes.{class_of, has_class}
use Rattle.wf_def_world.specs.World.{World, Station, station, share, tid_of}
use Rattle.wf_law_runs.specs.Tries.{frames_in_part}
use Rattle.wf_def_world.specs.Service.{is_served, limit_left, is_reached}
use Rattle.wf_def_world.specs.CanSend.{has_credit}
use Rattle.wf_def_world.specs.Step.{service_outcome, step}
use Rattle.wf_def_world.specs.Run.{Entry}
use Rattle.wf_def_world.specs.Stretches.{world_at}
use Rattle.wf_law_runs.specs.Groups.{reply_at_entry}

-- ---- reading a history

-- the call of entry m, counted from 0; None past the end
abbrev pub note_at_entry : List Entry → ℕ → Option Note
note_at_entry history m = option_map (λ e. e.1) (slice_get history m)

-- whether a service period of station s is open
abbrev pub is_in_service : World → ℕ → Bool
is_in_service w s = is_some (station w s).service

-- whether a part of a reply is frames
abbrev pub is_data : Part → Bool
is_data (Request start) = false
is_data part = true

-- how many frames of these classes a reply sends to station s
abbrev pub frames_sent_to : ℕ → ℕ → ReplyNote → ℕ
frames_sent_to s classes (Send e r t air part more eosp) =
    if (r == s) && has_class classes (class_of t) then frames_in_part part else 0
frames_sent_to s classes reply = 0

-- how many frames of these classes the calls of a history send to station s, from a world on
abbrev pub frames_to : World → ℕ → ℕ → List Entry → ℕ
frames_to w s classes [] = 0
frames_to w s classes (e ∷ es) =
    frames_sent_to s classes (step w e.1).reply + frames_to (step w e.1).world s classes es

-- Entry m is a trigger of station s, and was not refused.
pub record IsTrigger (config : Config) (history : List Entry) (m s : ℕ) : Type 0 where
  pub class : Class
  pub call : note_at_entry history m ≡ Some (Asked (Service (service.Trigger s)))
  pub answered : reply_at_entry config history m ≡ Some (reply.Service (answer.Triggered class))

-- ---- what a sleeping station gets

-- whether an exchange of a class to a station that sleeps is due to a poll or to a service period
abbrev pub is_granted : Station → Class → Bool
is_granted x c = has_credit x.credit c || is_served x c

-- The law: an exchange to a station that sleeps is due to a poll or to its service period. So outside of a
-- service period no frame of a delivery-enabled class goes to it except by a poll.
abbrev pub GrantedLaw : Config → List Entry → Type 0
GrantedLaw config history =
    (m e s t air : ℕ) (part : Part) (more eosp : Bool) →
    reply_at_entry config history m ≡ Some (Send e s t air part more eosp) →
    (station (world_at config history m) s).asleep ≡ true →
    is_granted (station (world_at config history m) s) (class_of t) ≡ true

-- The law: only a trigger opens a service period, and only that of its station.
abbrev pub TriggerLaw : Config → List Entry → Type 0
TriggerLaw config history =
    (m s : ℕ) →
    is_in_service (world_at config history m) s ≡ false →
    is_in_service (world_at config history (suc m)) s ≡ true → IsTrigger config history m s

-- the number of frames that entries from a up to b send to station s in its delivery-enabled classes
abbrev pub frames_served : Config → List Entry → ℕ → ℕ → ℕ → ℕ
frames_served config history s a b =
    let w : World = world_at config history a in
    frames_to w s (station w s).delivery (take (b - a) (drop a history))

-- The law: as long as the service period that a trigger opened is open, and by the entry that ends it, at
-- most as many frames of delivery-enabled classes go to the station as it allowed, if it has a limit.
abbrev pub ServiceLimitLaw : Config → List Entry → Type 0
ServiceLimitLaw config history =
    (a b s : ℕ) →
    IsTrigger config history a s →
    ((m : ℕ) → a < m → m < b → is_in_service (world_at config history m) s ≡ true) →
    0 < (station (world_at config history a) s).most →
    frames_served config history s (suc a) b ≤ (station (world_at config history a) s).most

-- ---- the end of a service period

-- Whether a call and its reply end the service period of station s: the last exchange of the period, the word
-- of the device that it ended, or the end of the station's sleep.
abbrev pub is_end_of : ℕ → Option Note → Option ReplyNote → Bool
is_end_of s _ (Some (Send e r t air part more eosp)) = (r == s) && eosp
is_end_of s (Some (Asked (Service (service.End r)))) (Some (reply.Service answer.Ended)) = r == s
is_end_of s (Some (Asked (Wake r))) (Some Woken) = r == s
is_end_of s (Some (Asked (Leave r))) (Some (reply.Left dropped)) = r == s
is_end_of s _ _ = false

-- The law: a service period ends by such a call only.
abbrev pub ServiceEndLaw : Config → List Entry → Type 0
ServiceEndLaw config history =
    (m s : ℕ) →
    is_in_service (world_at config history m) s ≡ true →
    is_in_service (world_at config history (suc m)) s ≡ false →
    is_end_of s (note_at_entry history m) (reply_at_entry config history m) ≡ true

-- An exchange with the EOSP bit is part of a service period, which it ends. So a service period has at most
-- one, and no exchange after it.
pub record EndsService (config : Config) (history : List Entry) (m s t : ℕ) : Type 0 where
  pub served : is_served (station (world_at config history m) s) (class_of t) ≡ true
  pub ended : is_in_service (world_at config history (suc m)) s ≡ false

-- The law: this holds for each exchange with the EOSP bit.
abbrev pub EospLaw : Config → List Entry → Type 0
EospLaw config history =
    (m e s t air : ℕ) (part : Part) (more : Bool) →
    reply_at_entry config history m ≡ Some (Send e s t air part more true) → EndsService config history m s t

-- the limit on the frames of station s's service period that are left when entry m is made, if there is one
abbrev pub left_at : Config → List Entry → ℕ → ℕ → Option ℕ
left_at config history m s = limit_left (station (world_at config history m) s).service

-- The law: frames of a service period have the EOSP bit if, and only if, nothing is left of the period after
-- them or they do not have the More Data bit.
abbrev pub LastLaw : Config → List Entry → Type 0
LastLaw config history =
    (m e s t air : ℕ) (part : Part) (more eosp : Bool) →
    reply_at_entry config history m ≡ Some (Send e s t air part more eosp) →
    is_data part ≡ true →
    is_served (station (world_at config history m) s) (class_of t) ≡ true →
    eosp ≡ (is_reached (left_at config history m s) (frames_in_part part) || not more)

-- ---- apart from all else

-- A call about service periods that is not refused changes nothing else. As after any call, the station is
-- then listed in each class in which it is ready.
pub record IsServiceApart (w : World) (ask : ServiceAsk) : Type 0 where
  pub rest : (service_outcome w ask).world ≡ record w { stations = (service_outcome w ask).world.stations }
  pub shares : (s : ℕ) (c : Class) → share (service_outcome w ask).world s c ≡ share w s c
  pub tids : (s t : ℕ) → tid_of (service_outcome w ask).world s t ≡ tid_of w s t

-- The law: this holds for each such call in each world. So none changes a share, a session, a queue or a
-- rotation.
abbrev pub ServiceApartLaw : Type 0
ServiceApartLaw = (w : World) (ask : ServiceAsk) → IsServiceApart w ask
