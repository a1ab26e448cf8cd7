-- Defines one call of the machine: the world that it leaves, and its reply.
use Rattle.std.specs.Prelude.{ℕ, ◌+◌, ◌-◌, ◌*◌, ◌%◌, ◌==◌, min, ℤ, pos, ◌+ℤ◌, ◌-ℤ◌, int_le, Bool, true, false, ◌&&◌, List, [], ◌∷◌, ◌++◌, Option, Some, None, if◌then◌else◌, length, find, unwrap_or}
use Rattle.wf_frame.specs.declared.classes.Class.{Class}
use Rattle.wf_frame.specs.declared.classes.Class.TheVariants.{Bk, Be, Vi, Vo}
use Rattle.wf_frame.specs.declared.classes.Cause.TheVariants.{Left, Flushed, Ended}
use Rattle.wf_frame.specs.declared.classes.Fate.TheVariants.{Held, Dropped}
use Rattle.wf_frame.specs.declared.notes.Ask.TheVariants.{Join, Leave, Rate, Tick, Pull, Arrive, Answer, Done, Sleep, Wake, Poll, Rx, Reap, Ampdu, Stop, Start, Unsent, GiveUp, Flush, Offload, Weight, Hold, Begin, Free, Cease, Group, Service, Bss}
use Rattle.wf_frame.specs.declared.notes.Ask.TheVariants as call
use Rattle.wf_frame.specs.declared.notes.GroupCall.{GroupCall}
use Rattle.wf_frame.specs.declared.notes.ServiceAsk.{ServiceAsk}
use Rattle.wf_frame.specs.declared.notes.ServiceAsk.TheVariants as service
use Rattle.wf_frame.specs.declared.notes.ServiceReply.{ServiceReply}
use Rattle.wf_frame.specs.declared.notes.ServiceReply.TheVariants as answer
use Rattle.wf_frame.specs.declared.notes.Limits.{Limits}
use Rattle.wf_frame.specs.declared.notes.AskedRate.{AskedRate}
use Rattle.wf_frame.specs.declared.notes.Note.{Note}
use Rattle.wf_frame.specs.declared.notes.Note.TheVariants.{Enqueue, Asked}
use Rattle.wf_frame.specs.declared.notes.Refusal.{Refusal}
use Rattle.wf_frame.specs.declared.notes.Refusal.TheVariants.{Idle}
use Rattle.wf_frame.specs.declared.notes.ReplyNote.{ReplyNote}
use Rattle.wf_frame.specs.declared.notes.ReplyNote.TheVariants.{Joined, Set, Now, Accepted, Send, Released, Ba, Slept, Woken, Polled, Charged, Reaped, Marked, Ack, Begun, Freed, Ceased, Refused}
use Rattle.wf_frame.specs.declared.notes.ReplyNote.TheVariants as reply
use Rattle.wf_def_lists.specs.Table.{upto, with_member}
use Rattle.wf_def_lists.specs.Bounds.{greatest_window}
use Rattle.wf_def_air.specs.Airtime.{lowest_rate}
use Rattle.wf_def_codel.specs.Codel.{Item}
use Rattle.wf_def_rotation.specs.Rotation.{in_order, without_key, no_keys}
use Rattle.wf_def_agreement.specs.Session.{Slot, State, next_number, is_acknowledged, is_waiting, is_failed, after_flush}
use Rattle.wf_def_agreement.specs.Receiver.{Receiver, Score, score, bitmap_word, released_between}
use Rattle.wf_def_world.specs.Rates.{rate_asked}
use Rattle.wf_frame.specs.declared.settings.Config.{Config}
use Rattle.wf_def_world.specs.Group.{group_after, group_answer}
use Rattle.wf_def_world.specs.Service.{is_delivered, is_polled, station_served, after_service}
use Rattle.wf_def_world.specs.World.{World, Mode, Agreed, Station, Share, Exchange, new_share, quantum, pending_air, new_tid, station, session, receiver, share, tid_of, rotation, frame, accepted_count, group_of, is_wide, is_any_asleep, exchange, with_bounds, with_station, on_station, on_share, on_session, on_receiver, on_group, with_rotation, with_mode, with_queues, with_exchange, without_exchange, with_frames_finished}
use Rattle.wf_frame.specs.Classes.{all_classes}
use Rattle.wf_def_world.specs.FlowQueues.{dropped_for_limit, after_limit, queue_for, after_put_in, after_queues_left, after_queues_flushed}
use Rattle.wf_def_world.specs.CanSend.{can_send_in, with_listings_of}
use Rattle.wf_def_world.specs.Exchanges.{picked_station, after_pick, bounds_of, sending_tid, after_tid_turn, Prepared, prepared_exchange, exchange_of, with_exchange_opened, with_spent, part_of, after_arrival, ids_of, after_charge, after_done, caught_up, caught_up_if_plain, longest_computed, count_in}
use Rattle.wf_def_world.specs.Refusals.{refusal}

-- the outcome of a call: the world after it, and its reply
pub record Outcome : Type 0 where
  pub world : World
  pub reply : ReplyNote

-- The outcome of a call that has nothing to act on. It is unreached, since such a call is refused: on an
-- exchange that is not open as NoExchange, a pull that no station wins as Idle, a reap from an empty
-- finished list as Nothing.
abbrev pub unreached : World → Outcome
unreached w = record { world = w; reply = Released [] }

-- ---- stations and clock

-- a station that joins, in BSS 0: it has a quantum of airtime in each class and, on each TID, this mode, this
-- window and this first number
abbrev pub new_station : Config → Mode → ℕ → ℕ → ℕ → ℕ → Bool → Station
new_station config mode window start exponent weight offloaded =
    let share = new_share (config.quantum * weight) in
    let tid = new_tid mode start window in
    record {
      weight = weight;
      weighed = false;
      rate = lowest_rate;
      exponent = exponent;
      ampdu = None;
      offloaded = offloaded;
      stopped = false;
      bss = 0;
      asleep = false;
      credit = None;
      delivery = 0;
      most = 0;
      service = None;
      shares = share ∷ share ∷ share ∷ share ∷ [];
      tids = tid ∷ tid ∷ tid ∷ tid ∷ tid ∷ tid ∷ tid ∷ tid ∷ [];
    }

-- Join: the station becomes live with this agreement on each TID
unfoldable pub join_outcome : World → ℕ → ℕ → ℕ → ℕ → ℕ → Outcome
join_outcome w s window start exponent weight =
    record {
      world = with_station w s (Some (new_station w.config Agreed window start exponent weight false));
      reply = Joined;
    }

-- Offload: the station becomes live, and its device numbers, aggregates and repeats its frames. Its TIDs have
-- the widest window, which bounds how many of their frames the device has at a time.
unfoldable pub offload_outcome : World → ℕ → ℕ → ℕ → Outcome
offload_outcome w s exponent weight =
    record {
      world = with_station w s (Some (new_station w.config Mode.Plain greatest_window 0 exponent weight true));
      reply = Joined;
    }

-- the window of a TID that sends its frames one at a time, in numbers
abbrev pub plain_window : ℕ
plain_window = 1

-- Plain: the station becomes live without an agreement on its TIDs
unfoldable pub plain_outcome : World → ℕ → ℕ → ℕ → ℕ → Outcome
plain_outcome w s start exponent weight =
    record {
      world = with_station w s
          (Some (new_station w.config Mode.Plain plain_window start exponent weight false));
      reply = Joined;
    }

-- the ids of the frames whose numbers wait
abbrev pub waiting_ids : List Slot → List ℕ
waiting_ids [] = []
waiting_ids (x ∷ xs) = if is_waiting x.state then x.id ∷ waiting_ids xs else waiting_ids xs

-- the numbers of a list, rising and without duplicates
abbrev pub in_rising_order : List ℕ → List ℕ
in_rising_order [] = []
in_rising_order (x ∷ xs) = with_member x (in_rising_order xs)

-- the frames of a TID are dropped as Left: first those of the numbers that wait, then those of its queues,
-- queue by queue in the order of their numbers
unfoldable pub after_tid_left : World → ℕ → ℕ → World
after_tid_left w s t =
    let emptied : World = with_frames_finished w (Dropped Left) (waiting_ids (session w s t).slots) in
    with_queues (after_queues_left emptied (in_rising_order (in_order (tid_of w s t).queues))) s t no_keys

-- the same for each of these TIDs, in order
unfoldable pub after_tids_left : World → ℕ → List ℕ → World
after_tids_left w s [] = w
after_tids_left w s (t ∷ ts) = after_tids_left (after_tid_left w s t) s ts

-- a station leaves the rotations of these classes
unfoldable pub without_listings : World → ℕ → List Class → World
without_listings w s [] = w
without_listings w s (c ∷ cs) = without_listings (with_rotation w c (without_key (rotation w c) s)) s cs

-- Leave: the station's frames are dropped, and the reply says how many
unfoldable pub leave_outcome : World → ℕ → Outcome
leave_outcome w s =
    let left : World = after_tids_left w s (upto 8) in
    record {
      world = with_station (without_listings left s all_classes) s None;
      reply = reply.Left (length left.finished - length w.finished);
    }

-- Flush: the frames of a TID are dropped as Flushed: first those of the numbers that wait, which fail, then
-- those of its queues, queue by queue in the order of their numbers. Frames on the air stay.
unfoldable pub after_tid_flushed : World → ℕ → ℕ → World
after_tid_flushed w s t =
    let emptied : World = with_frames_finished (on_session w s t (after_flush w.config.attempts))
    (Dropped Flushed) (waiting_ids (session w s t).slots) in
    caught_up_if_plain (after_queues_flushed emptied (in_rising_order (in_order (tid_of w s t).queues))) s t

-- Flush: the reply says how many frames are dropped
unfoldable pub flush_outcome : World → ℕ → ℕ → Outcome
flush_outcome w s t =
    let flushed : World = after_tid_flushed w s t in
    record { world = flushed; reply = reply.Flushed (length flushed.finished - length w.finished) }

-- ---- agreements that begin and end

-- Hold: no frame of the TID gets a number from now on. The reply has the next number, with which an agreement
-- may begin, modulo 4096.
unfoldable pub hold_outcome : World → ℕ → ℕ → Outcome
hold_outcome w s t = record {
  world = with_mode w s t Mode.OnHold;
  reply = reply.Held (next_number (session w s t) % 4096);
}

-- the window of both sides of a TID is this
unfoldable pub with_window : World → ℕ → ℕ → ℕ → World
with_window w s t size =
    on_receiver (on_session w s t (λ y. record y { size = size })) s t (λ r. record r { size = size })

-- Begin: the TID has an agreement with this window from now on. Its numbers are all settled, and no request
-- is due.
unfoldable pub begin_outcome : World → ℕ → ℕ → ℕ → Outcome
begin_outcome w s t window =
    record { world = with_mode (with_window (caught_up w s t) s t window) s t Agreed; reply = Begun }

-- Free: the TID sends its frames one at a time from now on
unfoldable pub free_outcome : World → ℕ → ℕ → Outcome
free_outcome w s t = record { world = with_mode w s t Mode.Plain; reply = Freed }

-- Cease: the frames of the numbers that wait are dropped as Ended, in the order of the numbers, which fail
unfoldable pub after_numbers_ended : World → ℕ → ℕ → World
after_numbers_ended w s t = with_frames_finished (on_session w s t (after_flush w.config.attempts))
    (Dropped Ended) (waiting_ids (session w s t).slots)

-- Cease: the agreement ends, so the receiver releases what it holds. The reply says how many frames are
-- dropped, and which are released.
unfoldable pub cease_outcome : World → ℕ → ℕ → Outcome
cease_outcome w s t =
    let ended : World = after_numbers_ended w s t in
    let caught : World = caught_up ended s t in
    record {
      world = with_mode (with_window caught s t plain_window) s t Mode.OnHold;
      reply = Ceased (length ended.finished - length w.finished)
          (ids_of (session w s t) (released_between (receiver w s t) (receiver caught s t)));
    }

-- the greatest deficit of a station in a class after its weight is set: its quantum and, with the setting
-- `pending`, its airtime in flight, but not more than that of all exchanges of the class but one
abbrev pub most_kept : World → ℕ → Class → ℕ
most_kept w s c = quantum w s + min (pending_air w s c)
    ((w.config.inflight - 1) * longest_computed w.config c)

-- the lesser of an integer and of a number
abbrev pub lesser_of : ℕ → ℤ → ℤ
lesser_of most x = if int_le x (pos most) then x else pos most

-- a share whose deficit becomes d when its station's quantum becomes this: `base` is such that the deficit
-- stays base, plus the quanta, less the airtime charged and received
abbrev pub share_with_deficit : ℕ → ℤ → Share → Share
share_with_deficit quantum d y =
    record y { deficit = d; base = d +ℤ pos (y.charged + y.received) -ℤ pos (quantum * y.quanta) }

-- the deficits of a station in these classes are lowered to what its quantum allows
unfoldable pub with_deficits_lowered : World → ℕ → List Class → World
with_deficits_lowered w s [] = w
with_deficits_lowered w s (c ∷ cs) =
    let most : ℕ = most_kept w s c in
    let lowered : World = on_share w s c (λ y. share_with_deficit (quantum w s)
    (lesser_of most y.deficit) y) in
    with_deficits_lowered lowered s cs

-- Weight: the station has this weight from now on, and each of its deficits is at most its new quantum
unfoldable pub weight_outcome : World → ℕ → ℕ → Outcome
weight_outcome w s weight =
    let changed : World = on_station w s (λ x. record x { weight = weight; weighed = true }) in
    record { world = with_deficits_lowered changed s all_classes; reply = Set }

-- Rate: data to the station has this rate from now on
unfoldable pub rate_outcome : World → ℕ → AskedRate → Outcome
rate_outcome w s rate =
    record {
      world = on_station w s (λ x. record x { rate = rate_asked rate });
      reply = Set;
    }

-- Ampdu: aggregates of VHT and HE to the station have at most this many octets from now on
abbrev pub ampdu_outcome : World → ℕ → ℕ → Outcome
ampdu_outcome w s octets =
    record { world = on_station w s (λ x. record x { ampdu = Some octets }); reply = Set }

-- Stop: no pull picks the station from now on
abbrev pub stop_outcome : World → ℕ → Outcome
stop_outcome w s =
    record { world = on_station w s (λ x. record x { stopped = true }); reply = reply.Stopped }

-- Start: pulls may pick the station again
abbrev pub start_outcome : World → ℕ → Outcome
start_outcome w s =
    record { world = on_station w s (λ x. record x { stopped = false }); reply = reply.Started }

-- Bss: the station is of this BSS from now on
abbrev pub bss_outcome : World → ℕ → ℕ → Outcome
bss_outcome w s b = record { world = on_station w s (λ x. record x { bss = b }); reply = Set }

-- Tick: the clock moves forward by this number of microseconds
unfoldable pub tick_outcome : World → ℕ → Outcome
tick_outcome w by = record { world = record w { clock = w.clock + by }; reply = Now (w.clock + by) }

-- ---- frames

-- a frame is accepted: it gets the next id and is held
unfoldable pub with_frame : World → Note → World
with_frame w note = record w { frames = w.frames ++ record { note = note; fate = Held } ∷ [] }

-- the next frame to be accepted, as a queue holds it: its stamp is the clock
abbrev pub next_item : World → ℕ → Item
next_item w len = record { id = accepted_count w; stamp = w.clock; len = len }

-- Enqueue: at the limit the head of the longest queue is dropped first; then the new frame is put into
-- its queue
unfoldable pub enqueue_outcome : World → ℕ → ℕ → ℕ → ℕ → Outcome
enqueue_outcome w s t flow len =
    let w' : World = after_limit w in
    record {
      world =
          with_frame (after_put_in w' s t (queue_for w' s t flow) (next_item w len)) (Enqueue s t flow len);
      reply = Accepted (accepted_count w) (dropped_for_limit w);
    }

-- a prepared exchange is sent: it opens, and spends the station's credit or frames of its service period
unfoldable pub send_outcome : ℕ → ℕ → Class → Prepared → Outcome
send_outcome s t c p =
    let x : Exchange = exchange_of s t c p in
    record {
      world = with_spent (with_exchange_opened p.world x) x;
      reply = Send x.number s t x.charge (part_of x.batch x.plain x.content) x.more x.eosp;
    }

-- the outcome of a pull with this winner
unfoldable pub pull_outcome_for : World → Class → Option ℕ → Outcome
pull_outcome_for w c None = unreached w
pull_outcome_for w c (Some s) =
    let t : ℕ = sending_tid w s c in
    send_outcome s t c (prepared_exchange (after_tid_turn w s c t) s t)

-- Pull: a station of the class is picked, and sends within these limits
unfoldable pub pull_outcome : World → Class → Limits → Outcome
pull_outcome w c limits =
    pull_outcome_for (with_bounds (after_pick w c) (bounds_of w.config c limits)) c
    (picked_station w c).winner

-- ---- exchanges

-- Arrive: transmission i reaches the receiver, which releases the frames that are now in order. For a batch
-- the device says so, and what its receiver releases is not known.
unfoldable pub arrive_outcome : World → Exchange → ℕ → Outcome
arrive_outcome w x i =
    let old : Receiver = receiver w x.station x.tid in
    let new : Receiver = after_arrival x.content i old in
    let marked : Exchange = record x { arrived = with_member i x.arrived } in
    record {
      world = with_exchange (on_receiver w x.station x.tid (after_arrival x.content i)) marked;
      reply =
          Released (if x.batch then [] else ids_of (session w x.station x.tid) (released_between old new));
    }

-- the reply to an answer: an Ack to a plain exchange, otherwise a BlockAck with its start, modulo 4096, and
-- its bitmap (IEEE 802.11-2012, 8.3.1.9.3)
abbrev pub answer_reply : Bool → Score → Bool → ReplyNote
answer_reply true b wide = Ack
answer_reply false b wide =
    Ba (b.start % 4096) (bitmap_word b 0) (bitmap_word b 1) (bitmap_word b 2) (bitmap_word b 3) wide

-- Answer: the receiver makes its BlockAck, or its Ack, which shows what arrived
unfoldable pub answer_outcome : World → Exchange → Outcome
answer_outcome w x =
    let b : Score = score (receiver w x.station x.tid) in
    record {
      world = with_exchange w (record x { answer = Some b });
      reply = answer_reply x.plain b (is_wide w x.station x.tid);
    }

-- Unsent: transmission i never went on the air
unfoldable pub unsent_outcome : World → Exchange → ℕ → Outcome
unsent_outcome w x i =
    record {
      world = with_exchange w (record x { unsent = with_member i x.unsent });
      reply = Marked;
    }

-- GiveUp: the device will not try transmission i again
unfoldable pub give_up_outcome : World → Exchange → ℕ → Outcome
give_up_outcome w x i =
    record {
      world = with_exchange w (record x { given_up = with_member i x.given_up });
      reply = Marked;
    }

-- Done: the exchange ends. It is charged the airtime that is given, otherwise the computed one. The reply
-- counts its numbers that are acknowledged, that wait again, and that failed.
unfoldable pub done_outcome : World → Exchange → Bool → Option ℕ → Outcome
done_outcome w x heard air =
    let after : World = after_done (after_charge (without_exchange w x.number) x air) x heard x.content in
    let count : (State → Bool) → ℕ = count_in after x in
    record {
      world = after;
      reply = reply.Done (count is_acknowledged) (count is_waiting) (count is_failed);
    }

-- the outcome f of a call on an exchange, if the exchange is open
unfoldable pub outcome_where_open : World → Option Exchange → (Exchange → Outcome) → Outcome
outcome_where_open w None f = unreached w
outcome_where_open w (Some x) f = f x

-- ---- power save, receive charges, reaping

-- Sleep: the station is in power save mode (IEEE 802.11-2012, 10.2.1)
unfoldable pub sleep_outcome : World → ℕ → Outcome
sleep_outcome w s = record { world = on_station w s (λ x. record x { asleep = true }); reply = Slept }

-- Wake: the station is awake, and has no credit and no service period
unfoldable pub wake_outcome : World → ℕ → Outcome
wake_outcome w s = record {
  world = on_station w s (λ x. record x { asleep = false; credit = None; service = None });
  reply = Woken;
}

-- the first of Vo, Vi and Be that passes a test and in which the station can send, otherwise Bk
abbrev pub first_to_send : World → ℕ → (Class → Bool) → Class
first_to_send w s p = unwrap_or (find (λ c. p c && can_send_in w s c) (Vo ∷ Vi ∷ Be ∷ [])) Bk

-- the class of the credit that a poll gives
abbrev pub class_to_send : World → ℕ → Class
class_to_send w s = first_to_send w s (is_polled (station w s))

-- Poll: the sleeping station gets a credit for one exchange (PS-Poll, IEEE 802.11-2012, 10.2.1.6)
unfoldable pub poll_outcome : World → ℕ → Outcome
poll_outcome w s =
    let c : Class = class_to_send w s in
    record { world = on_station w s (λ x. record x { credit = Some c }); reply = Polled c }

-- Rx: the station is charged the airtime in which it sent, in microseconds
unfoldable pub rx_outcome : World → ℕ → Class → ℕ → Outcome
rx_outcome w s c air = record {
  world =
      on_share w s c (λ x. record x { deficit = x.deficit -ℤ pos air; received = x.received + air });
  reply = Charged ((share w s c).deficit -ℤ pos air);
}

-- Reap: the first frame of the finished list is removed from it, and the reply has its id and fate
unfoldable pub reap_outcome : World → List ℕ → Outcome
reap_outcome w [] = unreached w
reap_outcome w (id ∷ ids) =
    record { world = record w { finished = ids }; reply = Reaped id (frame w id).fate }

-- ---- service periods

-- the answer to a call about service periods: to a trigger, the most urgent delivery-enabled class that can
-- send
abbrev pub service_answer : World → ServiceAsk → ServiceReply
service_answer w (service.Set s classes most) = answer.Set
service_answer w (service.Trigger s) = answer.Triggered (first_to_send w s (is_delivered (station w s)))
service_answer w (service.End s) = answer.Ended

-- A call about service periods: it changes nothing but the service of its station.
abbrev pub service_outcome : World → ServiceAsk → Outcome
service_outcome w ask = record {
  world = on_station w (station_served ask) (after_service ask);
  reply = reply.Service (service_answer w ask);
}

-- ---- group frames

-- A call about the group frames of a BSS: it changes nothing but their state.
abbrev pub group_outcome : World → GroupCall → Outcome
group_outcome w g = record {
  world = on_group w g.bss (group_after w.config g.ask);
  reply = reply.Group (group_answer w.config (is_any_asleep w g.bss) g.ask (group_of w g.bss));
}

-- ---- the step

-- the outcome of a call that is not refused
unfoldable pub outcome_of : World → Note → Outcome
outcome_of w (Enqueue s t flow len) = enqueue_outcome w s t flow len
outcome_of w (Asked (Join s window start exponent weight)) =
    join_outcome w s window start exponent weight
outcome_of w (Asked (Offload s exponent weight)) = offload_outcome w s exponent weight
outcome_of w (Asked (Weight s weight)) = weight_outcome w s weight
outcome_of w (Asked (call.Plain s start exponent weight)) = plain_outcome w s start exponent weight
outcome_of w (Asked (Hold s t)) = hold_outcome w s t
outcome_of w (Asked (Begin s t window)) = begin_outcome w s t window
outcome_of w (Asked (Free s t)) = free_outcome w s t
outcome_of w (Asked (Cease s t)) = cease_outcome w s t
outcome_of w (Asked (Leave s)) = leave_outcome w s
outcome_of w (Asked (Rate s rate)) = rate_outcome w s rate
outcome_of w (Asked (Tick by)) = tick_outcome w by
outcome_of w (Asked (Pull c limits)) = pull_outcome w c limits
outcome_of w (Asked (Arrive e i)) = outcome_where_open w (exchange w e) (λ x. arrive_outcome w x i)
outcome_of w (Asked (Answer e)) = outcome_where_open w (exchange w e) (λ x. answer_outcome w x)
outcome_of w (Asked (Done e heard air)) = outcome_where_open w (exchange w e)
    (λ x. done_outcome w x heard air)
outcome_of w (Asked (Sleep s)) = sleep_outcome w s
outcome_of w (Asked (Wake s)) = wake_outcome w s
outcome_of w (Asked (Poll s)) = poll_outcome w s
outcome_of w (Asked (Rx s c air)) = rx_outcome w s c air
outcome_of w (Asked Reap) = reap_outcome w w.finished
outcome_of w (Asked (Ampdu s octets)) = ampdu_outcome w s octets
outcome_of w (Asked (Stop s)) = stop_outcome w s
outcome_of w (Asked (Start s)) = start_outcome w s
outcome_of w (Asked (Unsent e i)) = outcome_where_open w (exchange w e) (λ x. unsent_outcome w x i)
outcome_of w (Asked (GiveUp e i)) = outcome_where_open w (exchange w e) (λ x. give_up_outcome w x i)
outcome_of w (Asked (Flush s t)) = flush_outcome w s t
outcome_of w (Asked (Group g)) = group_outcome w g
outcome_of w (Asked (Service ask)) = service_outcome w ask
outcome_of w (Asked (Bss s b)) = bss_outcome w s b

-- the station of an exchange, if the exchange is open
abbrev pub station_of : Option Exchange → Option ℕ
station_of None = None
station_of (Some x) = Some x.station

-- the station that a call concerns, if any: it is listed after the call in each class in which it belongs
-- on a list
abbrev pub concerned_station : World → Note → Option ℕ
concerned_station w (Enqueue s t flow len) = Some s
concerned_station w (Asked (Join s window start exponent weight)) = Some s
concerned_station w (Asked (Leave s)) = Some s
concerned_station w (Asked (Rate s rate)) = Some s
concerned_station w (Asked (Tick by)) = None
concerned_station w (Asked (Pull c limits)) = (picked_station w c).winner
concerned_station w (Asked (Arrive e i)) = station_of (exchange w e)
concerned_station w (Asked (Answer e)) = station_of (exchange w e)
concerned_station w (Asked (Done e heard air)) = station_of (exchange w e)
concerned_station w (Asked (Sleep s)) = Some s
concerned_station w (Asked (Wake s)) = Some s
concerned_station w (Asked (Poll s)) = Some s
concerned_station w (Asked (Rx s c air)) = Some s
concerned_station w (Asked Reap) = None
concerned_station w (Asked (Ampdu s octets)) = Some s
concerned_station w (Asked (Stop s)) = Some s
concerned_station w (Asked (Start s)) = Some s
concerned_station w (Asked (Unsent e i)) = station_of (exchange w e)
concerned_station w (Asked (GiveUp e i)) = station_of (exchange w e)
concerned_station w (Asked (Flush s t)) = Some s
concerned_station w (Asked (Offload s exponent weight)) = Some s
concerned_station w (Asked (Weight s weight)) = Some s
concerned_station w (Asked (call.Plain s start exponent weight)) = Some s
concerned_station w (Asked (Hold s t)) = Some s
concerned_station w (Asked (Begin s t window)) = Some s
concerned_station w (Asked (Free s t)) = Some s
concerned_station w (Asked (Cease s t)) = Some s
concerned_station w (Asked (Group g)) = None
concerned_station w (Asked (Service ask)) = Some (station_served ask)
concerned_station w (Asked (Bss s b)) = Some s

-- The world after a refusal. Only Idle without the setting `pending` changes it: the pick found no ready
-- station, gave the listed ones their quanta, and emptied the lists of the class.
unfoldable pub after_refusal : World → Note → Refusal → World
after_refusal w (Asked (Pull c limits)) Idle = if w.config.pending == 1 then w else after_pick w c
after_refusal w note _ = w

-- the outcome of a call, refused or not. If it is not refused, the station that it concerns is listed
-- in each class in which it belongs on a list.
unfoldable pub judged_outcome : World → Note → Option Refusal → Outcome
judged_outcome w note (Some r) = record { world = after_refusal w note r; reply = Refused r }
judged_outcome w note None =
    let o : Outcome = outcome_of w note in record
    o { world = with_listings_of o.world (concerned_station w note) }

-- the outcome of one call
unfoldable pub step : World → Note → Outcome
step w note = judged_outcome w note (refusal w note)
