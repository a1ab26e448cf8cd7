-- Defines the states between the steps of a pull: the condition and the effect of each step.
use Rattle.std.specs.Prelude.{◌≡◌, ℕ, ◌%◌, ◌≤◌, Bool, true, false, List, [], length, Option, None, Some, is_some, option_map, map, take, drop, IfSome}
use Rattle.wf_frame.specs.declared.classes.Class.{Class}
use Rattle.wf_frame.specs.declared.notes.Ask.TheVariants.{Pull}
use Rattle.wf_frame.specs.declared.notes.Note.TheVariants.{Asked}
use Rattle.wf_frame.specs.declared.answers.Brief.TheVariants.{Send}
use Rattle.wf_frame.specs.declared.answers.Kind.{Kind}
use Rattle.wf_frame.specs.Frames.{FrameValue}
use Rattle.wf_def_air.specs.Airtime.{Rate, request_charge}
use Rattle.wf_def_air.specs.Fit.{most_octets}
use Rattle.wf_def_codel.specs.Codel.{Params}
use Rattle.wf_def_codel.specs.Parameters.{params_at}
use Rattle.wf_def_rotation.specs.Rotation.{has_key}
use Rattle.wf_def_agreement.specs.Session.{Session, next_number, request_due, with_number_given}
use Rattle.wf_def_lists.specs.Bounds.{least_ampdu, greatest_ampdu}
use Rattle.wf_frame.specs.declared.notes.Limits.{Limits}
use Rattle.wf_def_world.specs.World.{World, Bounds, Mpdu, session}
use Rattle.wf_def_world.specs.Exchanges.{Aggregate, aggregate_of, aggregate_charge, prepared_data, picked_station}
use Rattle.wf_def_world.specs.Refusals.{refusal}
use Rattle.wf_rotation.specs.Rotas.{is_ready as entry}
use Rattle.wf_sched.specs.ClassRotas.{class_rotation}
use Rattle.wf_sched_refines.specs.Calls.{HasPickedInClass}
use Rattle.wf_send_parts.specs.declared.exchanges.opened.Sending.{Sending}
use Rattle.wf_send_parts.specs.declared.exchanges.opened.Sending.TheVariants.{Data, Request as Starts_at}
use Rattle.wf_air.specs.declared.fit.SizeLimits.{SizeLimits}
use Rattle.wf_air.specs.Sizes.{AggregateSizeValue, SizeStandsFor as SizeStandsFor}
use Rattle.wf_frame.specs.Classes.{tid_number}
use Rattle.wf_queue_flows.specs.Flows.{taken_for_tid}
use Rattle.wf_send_parts.specs.declared.stations.members.Member.{Member}
use Rattle.wf_send_parts.specs.Members.{member, is_offloaded_in}
use Rattle.wf_send_parts.specs.Sleepers.{sleeper}
use Rattle.wf_send_parts.specs.Window.{WindowValue, WindowStandsFor as WindowStandsFor}
use Rattle.wf_send_parts.specs.Sent.{with_all_sent}
use Rattle.wf_send_parts.specs.Windows.{WindowsHaveRoom, window_of, with_window}
use Rattle.wf_send_half_model.specs.Half.{TransmitValue, is_plain_of, is_ready_of}
use Rattle.wf_send_half_model.specs.Standing.{StandsFor, numbers_on_air}
use Rattle.wf_send_half_model.specs.Pulling.{is_wide_of, frames_allowed_of}
use Rattle.wf_send_half.specs.declared.bounds.Bounds.{Bounds as BoundsGiven}
use Rattle.wf_send_half.specs.declared.pull.Pulled.{Pulled}
use Rattle.wf_send_half_model.specs.Filling.{IsTurned, IsToFill, IsChoosing, IsFilling, IsTakingOff, after_take, after_giving}

-- the bounds of a pull, as those of the world
abbrev pub bounds_in : BoundsGiven → Bounds
bounds_in b = record { class = b.class; frames = b.frames; air = b.air }

-- the limits of an aggregate to a station in a pull with these bounds
abbrev pub size_limits_of : TransmitValue → ℕ → Bounds → Member → SizeLimits
size_limits_of v s b m = record {
  octets = most_octets m.rate m.exponent m.ampdu;
  frames = frames_allowed_of (sleeper v.sleepers s) m.rate b;
  time = b.air;
}

-- a station's maximum A-MPDU length exponent is at most 3, and the greatest length of its aggregates, if one
-- was stated, is in its range
abbrev pub HasLengths : Member → Type 0
HasLengths m = (m.exponent ≤ 3) × IfSome m.ampdu (λ n. (least_ampdu ≤ n) × (n ≤ greatest_ampdu))

-- this holds of a station, if it is live
abbrev pub TakesAggregates : TransmitValue → ℕ → Type 0
TakesAggregates v s = IfSome (member v.members s) HasLengths

-- only the places and the fates of frames differ
abbrev pub IsSameButFrames : TransmitValue → TransmitValue → Type 0
IsSameButFrames v u = u ≡ record v { flows = u.flows; windows = u.windows; tally = u.tally }

-- ---- some world during the pull

-- in some world TID t of station s has had its turn
pub record HasTurn (v : TransmitValue) (s t : ℕ) : Type 0 where
  pub world : World
  pub bodies : ℕ → FrameValue
  pub turned : IsTurned v world bodies s t

-- in some world no request of TID t of station s is due, and this aggregate begins with its waiting numbers
pub record HasChoosing (v : TransmitValue) (s t : ℕ) (room : AggregateSizeValue)
    (numbers : List ℕ) : Type 0 where
  pub world : World
  pub bodies : ℕ → FrameValue
  pub to_fill : IsToFill v world bodies s t
  pub choosing : IsChoosing room numbers (window_of v.windows s t).start world s t

-- in some world the filling of this aggregate to TID t of station s continues and ends at that aggregate
pub record AggregateGoesOn (v : TransmitValue) (bodies : ℕ → FrameValue) (s t : ℕ) (room : AggregateSizeValue)
    (numbers : List ℕ) (after : Aggregate) : Type 0 where
  pub world : World
  pub mpdus : List Mpdu
  pub filling : IsFilling v world bodies s t room numbers mpdus after

-- in some world the filling of this aggregate to TID t of station s continues and ends at some aggregate
pub record HasFilling (v : TransmitValue) (s t : ℕ) (room : AggregateSizeValue)
    (numbers : List ℕ) : Type 0 where
  pub bodies : ℕ → FrameValue
  pub after : Aggregate
  pub goes_on : AggregateGoesOn v bodies s t room numbers after

-- an aggregate has one number for each frame, and at most 256
pub record HasLens (room : AggregateSizeValue) (numbers : List ℕ) : Type 0 where
  pub lens : List ℕ
  pub stands : SizeStandsFor room lens
  pub as_many : length numbers ≡ length lens
  pub few : room.limits.frames ≤ 256

-- ---- a frame is taken out of its queue

-- CoDel's parameters for the rate of station s
pub record IsParamsOf (v : TransmitValue) (s : ℕ) (params : Params) : Type 0 where
  pub rate : Rate
  pub is_rate : option_map (λ m. m.rate) (member v.members s) ≡ Some rate
  pub is : params ≡ params_at rate

-- this frame was taken out of the queues of TID t of station s
pub record IsTaken (v u : TransmitValue) (s t : ℕ) (f : FrameValue) : Type 0 where
  pub params : Params
  pub read : IsParamsOf v s params
  pub out : (taken_for_tid v.flows (tid_number s t) v.clock params).frame ≡ Some f
  pub is : u ≡ after_take v (tid_number s t) params

-- a frame with `len` octets was taken out and got this number, modulo 4096, with which it waits in its window
pub record IsGivenNumber (v u : TransmitValue) (s t number len : ℕ) : Type 0 where
  pub params : Params
  pub read : IsParamsOf v s params
  pub frame : FrameValue
  pub out : (taken_for_tid v.flows (tid_number s t) v.clock params).frame ≡ Some frame
  pub octets : len ≡ length frame.body
  pub window : WindowValue
  pub room : WindowsHaveRoom (with_window v.windows s t window)
  pub waits : (y : Session) (bodies : ℕ → FrameValue) → WindowStandsFor (window_of v.windows s t) y bodies →
      frame ≡ bodies frame.id →
      (number ≡ next_number y % 4096) × WindowStandsFor window (with_number_given y frame.id) bodies
  pub is : u ≡ after_giving v s t params window

-- ---- numbers go into flight

-- in some world these numbers are the next to fly
pub record HasTakingOff (v : TransmitValue) (s t : ℕ) (numbers : List ℕ) : Type 0 where
  pub world : World
  pub bodies : ℕ → FrameValue
  pub mpdus : List Mpdu
  pub after : World
  pub off : IsTakingOff v world bodies s t v.exchanges mpdus after
  pub on_air : numbers ≡ numbers_on_air mpdus

-- the transmissions, each by its id and its number modulo 4096
abbrev pub pairs_of : List Mpdu → List (ℕ × ℕ)
pairs_of mpdus = map (λ m. (m.id, m.number % 4096)) mpdus

-- the transmissions before index i fly, and the others do not yet; the pairs are those that fly, and their
-- frames have counted it
pub record IsFlying (v : TransmitValue) (bodies : ℕ → FrameValue) (s t e : ℕ) (mpdus : List Mpdu)
    (after : World) (i : ℕ) (pairs : List (ℕ × ℕ)) : Type 0 where
  pub world : World
  pub off : IsTakingOff v world (with_all_sent pairs bodies) s t e (drop i mpdus) after
  pub pairs_are : pairs ≡ pairs_of (take i mpdus)

-- ---- the prepared transmissions

-- the numbers of this aggregate fly, and their frames have counted it
pub record IsPreparedAs (v : TransmitValue) (a : Aggregate) (bodies : ℕ → FrameValue) (s t charge : ℕ)
    (numbers : List ℕ) (pairs : List (ℕ × ℕ)) : Type 0 where
  pub world : World
  pub off : IsTakingOff v world (with_all_sent pairs bodies) s t a.world.exchanges []
      (prepared_data s t a).world
  pub charge_is : charge ≡ aggregate_charge s t a
  pub numbers_are : numbers ≡ numbers_on_air a.mpdus
  pub pairs_are : pairs ≡ pairs_of a.mpdus

-- the same for the aggregate that TID t of station s sends in w
abbrev pub IsPrepared : TransmitValue → World → (ℕ → FrameValue) → ℕ → ℕ → ℕ → List ℕ → List (ℕ × ℕ) → Type 0
IsPrepared v w bodies s t = IsPreparedAs v (aggregate_of w s t) bodies s t

-- ---- a whole pull

-- the list `ready` has an entry for each station; for each station that is listed in a class, the entry says
-- whether it is ready in the class
pub record TellsWhoIsReady (v : TransmitValue) (c : Class) (ready : List Bool) : Type 0 where
  pub stations : length ready ≡ v.config.stations
  pub tells : (s : ℕ) → has_key (class_rotation v.sched c) s ≡ true → entry ready s ≡ is_ready_of v c s

-- how an exchange sends its frames
abbrev pub kind_of : Bool → Bool → Kind
kind_of true plain = Kind.Batch
kind_of false true = Kind.Plain
kind_of false false = Kind.Aggregate

-- how an exchange of TID t of station s sends its frames
abbrev pub kind_in : TransmitValue → ℕ → ℕ → Kind
kind_in v s t = kind_of (is_offloaded_in v.members s) (is_plain_of v s t)

-- if a station sends, the result says whether it is ready in the class afterwards
abbrev pub IsSenderTold : TransmitValue → Class → Pulled → Type 0
IsSenderTold v c p = (e s t air : ℕ) (request : Option ℕ) (kind : Kind) (more eosp : Bool) →
    p.brief ≡ Send e s t air request kind more eosp → p.is_ready ≡ is_ready_of v c s

-- u is v after a pull with these limits picked station s in a class, and v represents w
pub record IsPickedInClass (v u : TransmitValue) (w : World) (bodies : ℕ → FrameValue) (s : ℕ)
    (c : Class) (l : Limits) : Type 0 where
  pub stands : StandsFor v w bodies
  pub passes : refusal w (Asked (Pull c l)) ≡ None
  pub won : (picked_station w c).winner ≡ Some s
  pub picked : HasPickedInClass w c v.sched u.sched
  pub others : u ≡ record v { sched = u.sched }

-- in some world TID t of station s has had its turn, and the pull has these bounds; if no request is due, its
-- aggregate has a number
pub record HasToPrepare (v : TransmitValue) (s t : ℕ) (b : Bounds) : Type 0 where
  pub world : World
  pub bodies : ℕ → FrameValue
  pub turned : IsTurned v world bodies s t
  pub bounds : world.bounds ≡ b
  pub some : request_due (session world s t) ≡ false → 1 ≤ length (aggregate_of world s t).mpdus

-- the start of a request; none for data
abbrev pub start_sent : Sending → Option ℕ
start_sent (Data numbers) = None
start_sent (Starts_at start) = Some start

-- a request is due on TID t of station s, with this start and this charge in microseconds
pub record IsRequestDue (v u : TransmitValue) (s t charge start : ℕ) : Type 0 where
  pub due : is_some (window_of v.windows s t).due ≡ true
  pub same : u ≡ v
  pub charge_is : IfSome (member v.members s) (λ m.
      charge ≡ request_charge v.config.answers m.rate (is_wide_of v s t))
  pub start_is : start ≡ (window_of v.windows s t).start

-- no request is due there, and the numbers of its aggregate in a pull with these bounds fly
pub record IsData (v u : TransmitValue) (s t : ℕ) (b : Bounds) (charge : ℕ) (pairs : List (ℕ × ℕ))
    (numbers : List ℕ) : Type 0 where
  pub quiet : is_some (window_of v.windows s t).due ≡ false
  pub prepared : (w : World) (bodies : ℕ → FrameValue) → IsToFill v w bodies s t → w.bounds ≡ b →
      IsPrepared u w bodies s t charge numbers pairs

-- u is v after it prepared this for TID t of station s in a pull with these bounds
abbrev pub IsPreparedFor : TransmitValue → TransmitValue → ℕ → ℕ → Bounds → ℕ → List (ℕ × ℕ) → Sending →
    Type 0
IsPreparedFor v u s t b charge pairs (Data numbers) = IsData v u s t b charge pairs numbers
IsPreparedFor v u s t b charge pairs (Starts_at start) = IsRequestDue v u s t charge start
