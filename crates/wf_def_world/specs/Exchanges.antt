-- Defines what a pull sends, and what happens to it until its exchange ends: the scheduler of "Ending
-- the Anomaly" (USENIX ATC 2017), section 3.2, combined with aggregation and block acknowledgement
-- (IEEE 802.11-2012, 9.12 and 9.21.7). Deficits, quanta and charges are in microseconds of airtime,
-- lengths in octets.
use Rattle.std.specs.Prelude.{ℕ, zero, suc, ◌+◌, ◌-◌, ◌*◌, ◌%◌, ◌==◌, min, max, nat_lt, nat_le, pos, ◌+ℤ◌, ◌-ℤ◌, Bool, true, false, not, ◌&&◌, ◌||◌, List, [], ◌∷◌, ◌++◌, Option, Some, None, if◌then◌else◌, length, map, count_by, unwrap_or}
use Rattle.std.specs.List.{list_any}
use Rattle.wf_frame.specs.declared.classes.Class.{Class}
use Rattle.wf_frame.specs.declared.classes.Class.TheVariants.{Vi, Vo}
use Rattle.wf_frame.specs.declared.classes.Cause.TheVariants.{Retries}
use Rattle.wf_frame.specs.declared.classes.Fate.TheVariants.{Acked, Dropped}
use Rattle.wf_frame.specs.declared.settings.Config.{Config}
use Rattle.wf_frame.specs.declared.notes.Limits.{Limits}
use Rattle.wf_frame.specs.declared.notes.Part.{Part}
use Rattle.wf_frame.specs.declared.notes.Part.TheVariants.{Mpdus, Batch, Plain, Request as Starts_at}
use Rattle.wf_def_lists.specs.Table.{upto, at, has, longest_front}
use Rattle.wf_def_air.specs.Airtime.{Rate, is_single, data_charge, plain_charge, request_charge, longest_answer}
use Rattle.wf_def_air.specs.Fit.{aggregate_octets, plain_octets, most_octets, fits, longest_alone}
use Rattle.wf_def_codel.specs.Codel.{Item}
use Rattle.wf_def_rotation.specs.Rotation.{in_order, need_of, Picked, pick}
use Rattle.wf_def_agreement.specs.Session.{Session, Slot, State, End, is_acknowledged, slot, waiting_numbers, next_number, start_of, request_due, with_state, with_number_given, after_end, is_failed}
use Rattle.wf_def_agreement.specs.Receiver.{Receiver, with_arrived, with_start, Score, shows}
use Rattle.wf_def_world.specs.World.{World, Bounds, Station, Share, Mpdu, Content, Frames, Request, Exchange, station, session, share, standing, quantum, rotation, frame, len_of, is_wide, is_offloaded, is_agreed, is_plain, on_station, on_session, on_receiver, on_share, with_rotation, with_frame_finished}
use Rattle.wf_frame.specs.Classes.{lower_tid, upper_tid, class_of}
use Rattle.wf_def_world.specs.FlowQueues.{frames_queued, Taken, taken_for_tid}
use Rattle.wf_def_world.specs.Service.{is_delivered, is_polled, is_served, is_told, limit_left, service_limit, is_reached, service_after_sent}
use Rattle.wf_def_world.specs.CanSend.{can_send, can_give, has_waiting, has_credit, is_ready, is_request}

-- ---- the station that is picked

-- the number of quanta that the standing of a station for a class needs to rise above 0
abbrev pub station_need : World → Class → ℕ → ℕ
station_need w c s = need_of (quantum w s) (standing w s c)

-- the pick among the stations of a class: algorithm 3, deficit round robin
abbrev pub picked_station : World → Class → Picked
picked_station w c = pick (station_need w c) (is_ready w c) (rotation w c)

-- a station gets this number of quanta in a class
unfoldable pub with_station_paid : World → Class → ℕ → ℕ → World
with_station_paid w c quanta s =
    let airtime : ℕ = quanta * quantum w s in
    on_share w s c (λ x. record x { deficit = x.deficit +ℤ pos airtime; quanta = x.quanta + quanta })

-- each of these stations gets its number of quanta in a class
unfoldable pub with_stations_paid : World → Class → (ℕ → ℕ) → List ℕ → World
with_stations_paid w c quanta [] = w
with_stations_paid w c quanta (s ∷ ss) = with_stations_paid (with_station_paid w c (quanta s) s) c quanta ss

-- the world after a pick: the stations have their quanta, and the class has its new lists
unfoldable pub after_pick : World → Class → World
after_pick w c =
    let p : Picked = picked_station w c in
    with_rotation (with_stations_paid w c p.quanta (in_order (rotation w c))) c p.lists

-- ---- the content of an exchange

-- the TID of a class whose turn it is
abbrev pub first_tid : World → ℕ → Class → ℕ
first_tid w s c = if (share w s c).upper then upper_tid c else lower_tid c

-- the other TID of the class
abbrev pub other_tid : World → ℕ → Class → ℕ
other_tid w s c = if (share w s c).upper then lower_tid c else upper_tid c

-- the TID that sends: the one whose turn it is if it can send, otherwise the other
abbrev pub sending_tid : World → ℕ → Class → ℕ
sending_tid w s c = if can_send w s (first_tid w s c) then first_tid w s c else other_tid w s c

-- TID t sends, so the other TID has the next turn
unfoldable pub after_tid_turn : World → ℕ → Class → ℕ → World
after_tid_turn w s c t = on_share w s c (λ x. record x { upper = t == lower_tid c })

-- the greatest data time of an aggregate of a class, in microseconds: its own setting, if that is not 0,
-- otherwise the setting `cap`
abbrev pub cap_of : Config → Class → ℕ
cap_of config Vi = if config.cap_vi == 0 then config.cap else config.cap_vi
cap_of config Vo = if config.cap_vo == 0 then config.cap else config.cap_vo
cap_of config c = config.cap

-- the greatest computed charge of an exchange of a class, in microseconds: the greatest time of its data,
-- which a single frame may take in any class, the pause and the longest answer
abbrev pub longest_computed : Config → Class → ℕ
longest_computed config c =
    max (cap_of config c) (longest_alone config.legacy) + longest_answer config.answers config.legacy

-- the lesser of a number and of a limit, if there is one
abbrev pub limited : Option ℕ → ℕ → ℕ
limited None n = n
limited (Some limit) n = min limit n

-- the bounds of a pull of a class with these limits: it may send one frame whatever they are
abbrev pub bounds_of : Config → Class → Limits → Bounds
bounds_of config c limits = record {
  class = c;
  frames = max 1 (limited limits.frames config.agg);
  air = limited limits.air (cap_of config c);
}

-- whether one exchange of a class to a station sends at most one frame: the station sleeps, and asks for one
-- by a poll, or its rate has no aggregates
abbrev pub takes_one : Station → Class → Bool
takes_one x c = (x.asleep && not (is_served x c)) || is_single x.rate

-- the most frames of an exchange to a station within these bounds: one if it takes one, and in a service
-- period those that are left
abbrev pub frames_allowed : Station → Bounds → ℕ
frames_allowed x b = if takes_one x b.class then 1 else limited (service_limit x b.class) b.frames

-- the most frames of an aggregate, within the bounds of the pull
abbrev pub most_frames : World → ℕ → ℕ
most_frames w s = frames_allowed (station w s) w.bounds

-- the lengths of the bodies of an aggregate, each with its octets of encryption
abbrev pub lens_of : ℕ → List Mpdu → List ℕ
lens_of overhead mpdus = map (λ m. m.len + overhead) mpdus

-- whether an aggregate to a station fits: the most frames, the longest A-MPDU of its rate, and the data time
-- of the pull's bounds
abbrev pub fits_in : World → ℕ → List Mpdu → Bool
fits_in w s mpdus =
    let x : Station = station w s in
    fits x.rate (most_octets x.rate x.exponent x.ampdu) (most_frames w s) w.bounds.air
    (lens_of w.config.overhead mpdus)

-- number n of a TID, with the frame that it carries
abbrev pub mpdu_of : World → ℕ → ℕ → ℕ → Mpdu
mpdu_of w s t n =
    let id : ℕ = (slot (session w s t) n).id in
    record { number = n; id = id; len = len_of (frame w id).note }

-- the numbers of a TID that wait to be sent, rising, with their frames
abbrev pub waiting_mpdus : World → ℕ → ℕ → List Mpdu
waiting_mpdus w s t = map (mpdu_of w s t) (waiting_numbers (session w s t))

-- the longest prefix of a list that fits
unfoldable pub longest_fitting : World → ℕ → List Mpdu → List Mpdu
longest_fitting w s mpdus = longest_front (fits_in w s) mpdus

-- an aggregate (A-MPDU), and the world in which its fresh frames have their numbers
pub record Aggregate : Type 0 where
  pub world : World
  pub mpdus : List Mpdu

-- the frame that a take gives, if any, with the TID's next number
abbrev pub fresh_mpdus : World → ℕ → ℕ → Option Item → List Mpdu
fresh_mpdus w s t None = []
fresh_mpdus w s t (Some x) =
    record { number = next_number (session w s t); id = x.id; len = x.len } ∷ []

-- the frame that a take gives, if any, gets the TID's next number
unfoldable pub with_number : World → ℕ → ℕ → Option Item → World
with_number w s t None = w
with_number w s t (Some x) = on_session w s t (λ y. with_number_given y x.id)

-- An aggregate to which at most n fresh frames are added, for as long as the TID can give one. A frame that
-- does not fit already has its number: it keeps the number and waits, and the aggregate ends before it.
unfoldable pub with_fresh : ℕ → World → ℕ → ℕ → List Mpdu → Aggregate
with_fresh zero w s t mpdus = record { world = w; mpdus = mpdus }
with_fresh (suc n) w s t mpdus =
    if not (can_give w s t) then record { world = w; mpdus = mpdus }
    else let taken : Taken = taken_for_tid w s t in
    let longer : List Mpdu = mpdus ++ fresh_mpdus w s t taken.item in
    let numbered : World = with_number taken.world s t taken.item in
    if fits_in w s longer then with_fresh n numbered s t longer
    else record { world = numbered; mpdus = mpdus }

-- a TID's aggregate: the longest prefix of its waiting numbers that fits and, if that is all of them,
-- fresh frames after it
unfoldable pub aggregate_of : World → ℕ → ℕ → Aggregate
aggregate_of w s t =
    let waiting : List Mpdu = waiting_mpdus w s t in
    let chosen : List Mpdu = longest_fitting w s waiting in
    if length chosen == length waiting then with_fresh (most_frames w s - length chosen) w s t chosen
    else record { world = w; mpdus = chosen }

-- the numbers of an aggregate are flying in exchange e
abbrev pub with_flying : ℕ → List Mpdu → Session → Session
with_flying e [] x = x
with_flying e (m ∷ ms) x = with_flying e ms (with_state (State.Flying e) m.number x)

-- an exchange to be sent: its content, its charge in microseconds, and the world in which it is on the air
pub record Prepared : Type 0 where
  pub world : World
  pub content : Content
  pub charge : ℕ

-- the charge of an aggregate, in microseconds: an Ack answers a frame without an agreement, and each frame at
-- a rate without aggregates
abbrev pub aggregate_charge : ℕ → ℕ → Aggregate → ℕ
aggregate_charge s t f =
    let answers : ℕ = f.world.config.answers in
    let rate : Rate = (station f.world s).rate in
    let lens : List ℕ = lens_of f.world.config.overhead f.mpdus in
    if is_plain f.world s t || is_single rate then plain_charge answers rate (plain_octets rate lens)
    else data_charge answers rate (aggregate_octets lens) (is_wide f.world s t)

-- an aggregate, with its numbers flying
unfoldable pub prepared_data : ℕ → ℕ → Aggregate → Prepared
prepared_data s t f =
    record {
      world = on_session f.world s t (with_flying f.world.exchanges f.mpdus);
      content = Frames f.mpdus;
      charge = aggregate_charge s t f;
    }

-- a BlockAckReq with the start of the session (WinStartO)
abbrev pub prepared_request : World → ℕ → ℕ → Prepared
prepared_request w s t = record {
  world = w;
  content = Request (start_of (session w s t));
  charge = request_charge w.config.answers (station w s).rate (is_wide w s t);
}

-- the exchange that a TID sends: a BlockAckReq if one is due, otherwise an aggregate
unfoldable pub prepared_exchange : World → ℕ → ℕ → Prepared
prepared_exchange w s t =
    if request_due (session w s t) then prepared_request w s t else prepared_data s t (aggregate_of w s t)

-- whether a number waits or a frame is queued on some TID of a station, of the classes that pass a test
abbrev pub has_more_in : World → ℕ → (Class → Bool) → Bool
has_more_in w s p =
    list_any (λ t. p (class_of t) && (has_waiting w s t || nat_lt 0 (frames_queued w s t))) (upto 8)

-- the same for the classes of a poll, which the TIM announces
abbrev pub has_more : World → ℕ → Bool
has_more w s = has_more_in w s (is_polled (station w s))

-- the subframes of an exchange, of which a request has none
abbrev pub mpdus_of : Content → List Mpdu
mpdus_of (Frames mpdus) = mpdus
mpdus_of (Request start) = []

-- whether an exchange of class c with this content is the last of a service period: nothing is left of it, or
-- nothing waits in the delivery-enabled classes. A request is never the last, since it has no EOSP bit.
abbrev pub is_last : World → ℕ → Class → Content → Bool
is_last w s c content =
    let x : Station = station w s in
    is_served x c && (not (is_request content)
    && (is_reached (limit_left x.service) (length (mpdus_of content))
    || not (has_more_in w s (is_delivered x))))

-- the credit of a station after an exchange to it: it is spent, unless it is for another class than that of
-- an exchange of a service period
abbrev pub credit_after : Class → Station → Option Class
credit_after c x = if is_served x c && not (has_credit x.credit c) then x.credit else None

-- the open service period of a station after an exchange to it
abbrev pub service_spent : Exchange → Station → Option ℕ
service_spent x y =
    if is_served y x.class then service_after_sent x.eosp (length (mpdus_of x.content)) y.service
    else y.service

-- a station after an exchange to it, which spends its credit or frames of its service period
abbrev pub spent : Exchange → Station → Station
spent x y = record y { credit = credit_after x.class y; service = service_spent x y }

-- the exchange spends what allowed it
unfoldable pub with_spent : World → Exchange → World
with_spent w x = on_station w x.station (spent x)

-- the exchange that sends a prepared part. `more` is the More Data bit (IEEE 802.11-2012, 8.2.4.1.8), and
-- `eosp` the EOSP bit (8.2.4.5.3): only data to a sleeping station can have them.
abbrev pub exchange_of : ℕ → ℕ → Class → Prepared → Exchange
exchange_of s t c p =
    let x : Station = station p.world s in
    record {
      number = p.world.exchanges;
      station = s;
      tid = t;
      class = c;
      charge = p.charge;
      content = p.content;
      batch = is_offloaded p.world s;
      plain = is_plain p.world s t;
      arrived = [];
      answer = None;
      unsent = [];
      given_up = [];
      more = x.asleep && (not (is_request p.content) && has_more_in p.world s (is_told x c));
      eosp = is_last p.world s c p.content;
    }

-- the world in which the exchange is open
unfoldable pub with_exchange_opened : World → Exchange → World
with_exchange_opened w x = record w { exchanges = w.exchanges + 1; opened = w.opened ++ x ∷ [] }

-- the content of frames with numbers in a reply: an aggregate, or one frame without an agreement
abbrev pub numbered_part : Bool → List (ℕ × ℕ) → Part
numbered_part true pairs = Plain pairs
numbered_part false pairs = Mpdus pairs

-- the content of an exchange in a reply: numbers are modulo 4096, as on the air. A batch has only the ids of
-- its frames, since the device numbers them.
abbrev pub part_of : Bool → Bool → Content → Part
part_of false plain (Frames mpdus) = numbered_part plain (map (λ m. (m.id, m.number % 4096)) mpdus)
part_of true plain (Frames mpdus) = Batch (map (λ m. m.id) mpdus)
part_of batch plain (Request start) = Starts_at (start % 4096)

-- ---- arrivals

-- the number of transmissions of an exchange: its subframes, or its one request
abbrev pub transmissions : Content → ℕ
transmissions (Frames mpdus) = length mpdus
transmissions (Request start) = 1

-- The transmission at an index past the last. It is unreached: such an index is refused as BadIndex.
abbrev pub no_mpdu : Mpdu
no_mpdu = record { number = 0; id = 0; len = 0 }

-- the receiver after transmission i arrived
abbrev pub after_arrival : Content → ℕ → Receiver → Receiver
after_arrival (Frames mpdus) i r = with_arrived (at no_mpdu mpdus i).number r
after_arrival (Request start) i r = with_start start r

-- ---- the marks of a device

-- whether transmission i has a mark: it never went on the air, or the device will not try it again
abbrev pub is_marked : Exchange → ℕ → Bool
is_marked x i = has x.unsent i || has x.given_up i

-- the number that transmission i carries: that of its frame, or the start of a request
abbrev pub number_at : Content → ℕ → ℕ
number_at (Frames mpdus) i = (at no_mpdu mpdus i).number
number_at (Request start) i = start

-- the numbers of an exchange that never went on the air
abbrev pub numbers_unsent : Exchange → List ℕ
numbers_unsent x = map (number_at x.content) x.unsent

-- the numbers of an exchange that the device will not try again
abbrev pub numbers_given_up : Exchange → List ℕ
numbers_given_up x = map (number_at x.content) x.given_up

-- ---- the frames of an exchange

-- the ids of the frames that these numbers carry
abbrev pub ids_of : Session → List ℕ → List ℕ
ids_of x numbers = map (λ n. (slot x n).id) numbers

-- ---- the end of an exchange

-- a share after a charge, which is taken off the deficit and added to the airtime charged
abbrev pub paid : ℕ → Share → Share
paid charge y = record y { deficit = y.deficit -ℤ pos charge; charged = y.charged + charge }

-- the charge of an exchange in microseconds: the airtime that its Done gives, otherwise what its pull
-- computed
abbrev pub charge_of : Option ℕ → Exchange → ℕ
charge_of air x = unwrap_or air x.charge

-- the station of an exchange is charged for it
unfoldable pub after_charge : World → Exchange → Option ℕ → World
after_charge w x air = on_share w x.station x.class (paid (charge_of air x))

-- whether the exchange was heard and its BlockAck shows number n
abbrev pub is_acked : Bool → Option Score → ℕ → Bool
is_acked heard None n = false
is_acked heard (Some b) n = heard && shows b n

-- the numbers of an exchange that arrived
abbrev pub numbers_arrived : Exchange → List ℕ
numbers_arrived x = map (number_at x.content) x.arrived

-- how a batch ends for its number n: the device said what became of each frame. It repeats frames itself, so
-- one that went on the air and was not acknowledged fails.
abbrev pub end_in_batch : Exchange → ℕ → End
end_in_batch x n =
    if has (numbers_unsent x) n then End.Unsent
    else if has (numbers_arrived x) n then End.Acknowledged
    else End.GivenUp

-- how an aggregate ends for its number n. A number that never went on the air waits again, even if the
-- BlockAck shows it.
abbrev pub end_in_aggregate : Exchange → Bool → ℕ → End
end_in_aggregate x heard n =
    if has (numbers_unsent x) n then End.Unsent
    else if is_acked heard x.answer n then End.Acknowledged
    else if has (numbers_given_up x) n then End.GivenUp
    else End.Missed

-- How far above the last acknowledged number a number without an agreement may be and be sent again. A
-- receiver knows a repeated frame by the Retry bit and by twelve bits of its number (IEEE 802.11-2012,
-- 9.3.2.10), so a number that is sent again must not be 4096 above the last one that arrived.
abbrev pub repeat_distance : ℕ
repeat_distance = 2047

-- the number after the greatest acknowledged one; n is the number of the first slot, and `next` the answer if
-- no slot is acknowledged
abbrev pub after_acked : ℕ → ℕ → List Slot → ℕ
after_acked next n [] = next
after_acked next n (x ∷ xs) = after_acked (if is_acknowledged x.state then suc n else next) (suc n) xs

-- whether number n of a session is too far above the last acknowledged number to be sent again
abbrev pub is_far : Session → ℕ → Bool
is_far y n = nat_le (after_acked y.first y.first y.slots + repeat_distance) n

-- how an exchange ends for a number that is sent once only
abbrev pub end_at_once : End → End
end_at_once End.Missed = End.GivenUp
end_at_once end = end

-- how an exchange ends for its number n
abbrev pub end_of : World → Exchange → Bool → ℕ → End
end_of w x heard n =
    if x.batch then end_in_batch x n
    else if x.plain && is_far (session w x.station x.tid) n then end_at_once (end_in_aggregate x heard n)
    else end_in_aggregate x heard n

-- if the number failed, its frame is dropped as Retries
unfoldable pub with_failed_finished : World → ℕ → ℕ → Mpdu → World
with_failed_finished w s t m =
    if is_failed (slot (session w s t) m.number).state then with_frame_finished w (Dropped Retries) m.id
    else w

-- one number of an exchange that ends
unfoldable pub with_settled : World → ℕ → ℕ → End → Mpdu → World
with_settled w s t End.Acknowledged m =
    with_frame_finished (on_session w s t (with_state State.Acked m.number)) Acked m.id
with_settled w s t end m =
    with_failed_finished (on_session w s t (after_end w.config.attempts end m.number)) s t m

-- all numbers of an exchange that ends, in order
unfoldable pub with_all_settled : World → ℕ → ℕ → (ℕ → End) → List Mpdu → World
with_all_settled w s t ends [] = w
with_all_settled w s t ends (m ∷ ms) = with_all_settled (with_settled w s t (ends m.number) m) s t ends ms

-- the session after a request ended: if the request was heard, `heard` becomes its start, unless it is
-- greater already
abbrev pub with_heard_start : Bool → ℕ → Session → Session
with_heard_start heard start x = if heard then record x { heard = max x.heard start } else x

-- Without an agreement no request gives the receiver the start of the window: it takes each number without
-- those below it. So the session counts the start as heard, and the receiver has it.
unfoldable pub caught_up : World → ℕ → ℕ → World
caught_up w s t =
    let start : ℕ = start_of (session w s t) in
    on_receiver (on_session w s t (with_heard_start true start)) s t (with_start start)

-- the same if the TID has no agreement; otherwise the world does not change
unfoldable pub caught_up_if_plain : World → ℕ → ℕ → World
caught_up_if_plain w s t = if is_agreed w s t then w else caught_up w s t

-- the world after an exchange with this content ended, heard or not
unfoldable pub after_done : World → Exchange → Bool → Content → World
after_done w x heard (Frames mpdus) =
    caught_up_if_plain (with_all_settled w x.station x.tid (end_of w x heard) mpdus) x.station x.tid
after_done w x heard (Request start) = on_session w x.station x.tid (with_heard_start heard start)

-- how many numbers of an exchange have a state that passes a test
abbrev pub count_in : World → Exchange → (State → Bool) → ℕ
count_in w x p =
    let y : Session = session w x.station x.tid in
    count_by (λ m. p (slot y m.number).state) (mpdus_of x.content)
