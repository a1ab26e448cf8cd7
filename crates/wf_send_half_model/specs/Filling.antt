-- Defines the stages in the middle of a pull: an aggregate is filled, and then its numbers fly, one after the
-- other.
use Rattle.std.specs.Prelude.{if◌then◌else◌, ◌||◌, ◌≡◌, ℕ, zero, suc, ◌-◌, ◌<◌, Bool, true, false, List, length, map}
use Rattle.wf_frame.specs.declared.classes.Cause.TheVariants.{Codel as By_codel}
use Rattle.wf_frame.specs.declared.classes.Class.{Class}
use Rattle.wf_frame.specs.declared.classes.Fate.TheVariants.{Dropped}
use Rattle.wf_frame.specs.Frames.{FrameValue}
use Rattle.wf_def_codel.specs.Codel.{Params}
use Rattle.wf_def_lists.specs.Lists.{IsRising}
use Rattle.wf_def_agreement.specs.Session.{Session, State, slot, next_number, request_due}
use Rattle.wf_def_air.specs.Airtime.{is_single, data_charge, plain_charge}
use Rattle.wf_def_air.specs.Fit.{most_octets, aggregate_octets, plain_octets}
use Rattle.wf_frame.specs.declared.notes.Limits.{Limits}
use Rattle.wf_def_world.specs.World.{World, Station, Mpdu, is_live, station, session, is_wide, with_bounds, on_session}
use Rattle.wf_def_world.specs.FlowQueues.{Taken, taken_for_tid}
use Rattle.wf_def_world.specs.Exchanges.{Aggregate, after_pick, bounds_of, after_tid_turn, most_frames, lens_of, fits_in, mpdu_of, with_number, with_fresh, with_flying}
use Rattle.wf_law_runs.specs.Places.{IsNumbered}
use Rattle.wf_law_runs.specs.Windows.{EachMpdu}
use Rattle.wf_air.specs.Sizes.{AggregateSizeValue, empty_size, SizeStandsFor as SizeStandsFor}
use Rattle.wf_send_parts.specs.Tally.{many_settled_as}
use Rattle.wf_frame.specs.Classes.{tid_number}
use Rattle.wf_queue_flows.specs.Flows.{FlowsValue, taken_for_tid as take_out}
use Rattle.wf_queue_flows_refines.specs.Standing.{times_held}
use Rattle.wf_send_parts.specs.Listing.{HasListed}
use Rattle.wf_send_parts.specs.Window.{WindowValue, on_air}
use Rattle.wf_send_parts.specs.Windows.{with_window}
use Rattle.wf_send_half_model.specs.Half.{TransmitValue}
use Rattle.wf_send_half_model.specs.Standing.{numbers_on_air, Parts, IsReached}

-- ---- the numbers of an aggregate

-- a number that waits, with the frame that its transmission carries
pub record IsWaitingWith (y : Session) (bodies : ℕ → FrameValue) (m : Mpdu) : Type 0 where
  pub waits : (slot y m.number).state ≡ State.Waiting
  pub carries : (slot y m.number).id ≡ m.id
  pub frame : (bodies m.id).id ≡ m.id

-- the transmissions send waiting numbers, in ascending order
pub record AreWaiting (y : Session) (bodies : ℕ → FrameValue) (mpdus : List Mpdu) : Type 0 where
  pub each : EachMpdu (IsWaitingWith y bodies) mpdus
  pub rising : IsRising y.first (map (λ m. m.number) mpdus)

-- the frame of a transmission to TID t of station s is held at its number and nowhere else: at no other
-- number, in no queue and not on the finished list
pub record IsAlone (v : TransmitValue) (w : World) (s t : ℕ) (m : Mpdu) : Type 0 where
  pub nowhere : times_held v.flows.backlog m.id ≡ 0
  pub sole : (i j n : ℕ) → IsNumbered w m.id i j n → (i ≡ s) × (j ≡ t) × (n ≡ m.number)

-- Some numbers of exchange e, which sends to TID t of station s, fly already. The numbers of `mpdus` still
-- wait, each with a frame that is held nowhere else; when they fly too, the world is `after`. The frames that
-- fly already have counted the attempt.
pub record IsTakingOff (v : TransmitValue) (w : World) (bodies : ℕ → FrameValue) (s t e : ℕ)
    (mpdus : List Mpdu) (after : World) : Type 0 where
  pub parts : Parts v w bodies
  pub live : is_live w s ≡ true
  pub tid : t < 8
  pub waiting : AreWaiting (session w s t) bodies mpdus
  pub alone : EachMpdu (IsAlone v w s t) mpdus
  pub leads : on_session w s t (with_flying e mpdus) ≡ after

-- ---- frames are taken out

-- A frame is taken out of the queues of TID i, at the clock and with these parameters of CoDel. The frames
-- that CoDel drops go to the finished list and are counted.
abbrev pub after_take : TransmitValue → ℕ → Params → TransmitValue
after_take v i params =
    let taken : FlowsValue = (take_out v.flows i v.clock params).flows in
    let dropped : ℕ = length taken.backlog.finished - length v.flows.backlog.finished in
    record v { flows = taken; tally = many_settled_as (Dropped By_codel) dropped v.tally }

-- ---- the world under way

-- a fresh frame of a TID gets its next number
abbrev pub with_one_fresh : World → ℕ → ℕ → World
with_one_fresh w s t =
    let taken : Taken = taken_for_tid w s t in
    with_number taken.world s t taken.item

-- n fresh frames get numbers, one after the other
abbrev pub with_so_many_fresh : ℕ → World → ℕ → ℕ → World
with_so_many_fresh zero w s t = w
with_so_many_fresh (suc n) w s t = with_one_fresh (with_so_many_fresh n w s t) s t

-- a station of class c is picked by a pull with these limits
abbrev pub after_pick_within : World → Class → Limits → World
after_pick_within w c limits = with_bounds (after_pick w c) (bounds_of w.config c limits)

-- A world in the middle of a pull of a run: a class was picked with these limits, TID t of station s took the
-- turn, and `given` fresh frames of the TID have numbers.
pub record IsUnderway (w : World) (s t : ℕ) : Type 0 where
  pub before : World
  pub reached : IsReached before
  pub class : Class
  pub limits : Limits
  pub given : ℕ
  pub is : with_so_many_fresh given
      (after_tid_turn (after_pick_within before class limits) s class t) s t ≡ w

-- ---- the aggregate

-- an empty aggregate for TID t of station s
abbrev pub room_for : World → ℕ → ℕ → AggregateSizeValue
room_for w s t =
    let x : Station = station w s in
    empty_size x.rate
    (record { octets = most_octets x.rate x.exponent x.ampdu; frames = most_frames w s; time = w.bounds.air })
    w.config.answers (is_wide w s t)

-- the charge of frames with these lengths, in microseconds, by whether they are sent without an agreement: an
-- Ack answers them then, and also if the rate has no aggregates
abbrev pub charge_in : AggregateSizeValue → Bool → List ℕ → ℕ
charge_in room plain lens =
    if plain || is_single room.rate then plain_charge room.answers room.rate (plain_octets room.rate lens)
    else data_charge room.answers room.rate (aggregate_octets lens) room.wide

-- the aggregate under way has these transmissions to TID t of station s, as their lengths with encryption say
pub record HasRoomFor (room : AggregateSizeValue) (w : World) (s t : ℕ) (mpdus : List Mpdu) : Type 0 where
  pub settings : room ≡ record (room_for w s t) { count = room.count; octets = room.octets }
  pub lens : SizeStandsFor room (lens_of w.config.overhead mpdus)

-- TID t of station s has had its turn in a pull; next, the half prepares what it sends
pub record IsTurned (v : TransmitValue) (w : World) (bodies : ℕ → FrameValue) (s t : ℕ) : Type 0 where
  pub parts : Parts v w bodies
  pub live : is_live w s ≡ true
  pub tid : t < 8
  pub underway : IsUnderway w s t

-- no request is due; next, the half fills an aggregate
pub record IsToFill (v : TransmitValue) (w : World) (bodies : ℕ → FrameValue) (s t : ℕ) : Type 0 where
  pub turned : IsTurned v w bodies s t
  pub quiet : request_due (session w s t) ≡ false

-- In the middle of choosing. A window lists its waiting numbers from its start on. Those in `chosen` fit, and
-- the others are listed from `from` on.
pub record IsChoosing (room : AggregateSizeValue) (numbers : List ℕ) (from : ℕ) (w : World)
    (s t : ℕ) : Type 0 where
  pub chosen : List ℕ
  pub listed : HasListed (session w s t) chosen from
  pub on_air : numbers ≡ map on_air chosen
  pub room_is : HasRoomFor room w s t (map (mpdu_of w s t) chosen)
  pub fit : 0 < length chosen → fits_in w s (map (mpdu_of w s t) chosen) ≡ true

-- In the middle of filling. The half has these transmissions, all of which wait and fit. With the fresh
-- frames that are still to come, the aggregate is `after`. No request is due.
pub record IsFilling (v : TransmitValue) (w : World) (bodies : ℕ → FrameValue) (s t : ℕ)
    (room : AggregateSizeValue)
    (numbers : List ℕ) (mpdus : List Mpdu) (after : Aggregate) : Type 0 where
  pub parts : Parts v w bodies
  pub live : is_live w s ≡ true
  pub tid : t < 8
  pub quiet : request_due (session w s t) ≡ false
  pub underway : IsUnderway w s t
  pub waiting : AreWaiting (session w s t) bodies mpdus
  pub on_air : numbers ≡ numbers_on_air mpdus
  pub room_is : HasRoomFor room w s t mpdus
  pub leads : with_fresh (most_frames w s - length mpdus) w s t mpdus ≡ after

-- the half has filled the aggregate, and its numbers wait
pub record IsFilled (v : TransmitValue) (bodies : ℕ → FrameValue) (s t : ℕ) (room : AggregateSizeValue)
    (numbers : List ℕ) (filled : Aggregate) : Type 0 where
  pub parts : Parts v filled.world bodies
  pub live : is_live filled.world s ≡ true
  pub tid : t < 8
  pub underway : IsUnderway filled.world s t
  pub waiting : AreWaiting (session filled.world s t) bodies filled.mpdus
  pub on_air : numbers ≡ numbers_on_air filled.mpdus
  pub room_is : HasRoomFor room filled.world s t filled.mpdus

-- a fresh frame is taken out and gets the next number, with which it waits in window x
abbrev pub after_giving : TransmitValue → ℕ → ℕ → Params → WindowValue → TransmitValue
after_giving v s t params x = record (after_take v (tid_number s t) params) {
  windows =
      with_window v.windows s t x;
}

-- the transmission of a fresh frame
abbrev pub fresh_mpdu : World → ℕ → ℕ → FrameValue → Mpdu
fresh_mpdu w s t f = record { number = next_number (session w s t); id = f.id; len = length f.body }
