-- Proves that few calls change the values of a station except its shares and TIDs. By cases of the call.
use Rattle.std.proofs.Common.{◌≡◌, refl, ℕ, zero, suc, ◌-◌, ◌==◌, not, Bool, true, false, if◌then◌else◌, List, [], ◌∷◌, length, Option, Some, None, option_map}
use Rattle.wf_frame.specs.declared.classes.Class.{Class}
use Rattle.wf_frame.specs.declared.classes.Fate.{Fate}
use Rattle.wf_frame.specs.declared.notes.Ask.TheVariants.{Join, Leave, Rate, Tick, Pull, Arrive, Answer, Done, Sleep, Wake, Poll, Rx, Reap, Ampdu, Stop, Start, Unsent, GiveUp, Flush, Offload, Weight, Plain, Hold, Begin, Free, Cease, Group, Service, Bss}
use Rattle.wf_frame.specs.declared.notes.Note.{Note}
use Rattle.wf_frame.specs.declared.notes.Note.TheVariants.{Enqueue, Asked}
use Rattle.wf_frame.specs.declared.notes.Refusal.{Refusal}
use Rattle.wf_frame.specs.declared.notes.Refusal.TheVariants.{Idle}
use Rattle.wf_frame.specs.Classes.{all_classes}
use Rattle.wf_def_lists.specs.Table.{at, upto}
use Rattle.wf_def_air.specs.Airtime.{Rate as Airtime_rate, lowest_rate}
use Rattle.wf_def_world.specs.Rates.{rate_asked}
use Rattle.wf_def_codel.specs.Codel.{Item}
use Rattle.wf_def_rotation.specs.Rotation.{in_order}
use Rattle.wf_def_agreement.specs.Session.{Session, End, request_due}
use Rattle.wf_def_agreement.specs.Receiver.{Receiver}
use Rattle.wf_def_world.specs.World.{World, Mode, Station, Share, Tid, Exchange, Mpdu, Content, Frames, Request, session, queue, rotation, exchange, with_station, on_station, on_tid, on_session, on_receiver, with_queues, on_share, on_queue, with_rotation, with_fate, with_frame_finished, with_frames_finished, with_exchange, without_exchange, with_mode}
use Rattle.wf_def_world.specs.Service.{station_served, after_service}
use Rattle.wf_def_world.specs.FlowQueues.{is_at_limit, without_head, after_limit, longest_queue, with_listed_queue, with_appended, after_put_in, with_queues_paid, taken_by_codel, taken_from_picked, taken_for_tid, after_queue_left, after_queues_left, after_queue_flushed, after_queues_flushed}
use Rattle.wf_def_world.specs.CanSend.{with_listing_in, with_listings_in, with_listings_of, can_give}
use Rattle.wf_def_world.specs.Exchanges.{most_frames, waiting_mpdus, longest_fitting, Aggregate, Prepared, with_station_paid, with_stations_paid, after_pick, with_number, with_fresh, aggregate_of, prepared_data, prepared_exchange, after_charge, with_failed_finished, with_settled, with_all_settled, after_done, caught_up, caught_up_if_plain}
use Rattle.wf_def_world.specs.Refusals.{refusals, refusal}
use Rattle.wf_def_world.specs.Step.{Outcome, join_outcome, after_tid_left, after_tids_left, without_listings, leave_outcome, after_tid_flushed, flush_outcome, rate_outcome, tick_outcome, with_frame, enqueue_outcome, pull_outcome, arrive_outcome, answer_outcome, unsent_outcome, give_up_outcome, done_outcome, outcome_where_open, sleep_outcome, wake_outcome, poll_outcome, rx_outcome, reap_outcome, concerned_station, outcome_of, after_refusal, judged_outcome, step, offload_outcome, weight_outcome, with_deficits_lowered, plain_outcome, with_window, after_numbers_ended, hold_outcome, begin_outcome, free_outcome, cease_outcome, class_to_send}
use Rattle.wf_law_rules.proofs.Lemmas.Tables.{each_put}
use Rattle.wf_law_runs.proofs.Common.Refused.{after_idle}
use Rattle.wf_law_runs.proofs.Windows.Opened.{NoRow, no_row}

-- The values of a station except its shares and TIDs.
pub record Trait : Type 0 where
  pub weight : ℕ
  pub rate : Airtime_rate
  pub exponent : ℕ
  pub ampdu : Option ℕ
  pub bss : ℕ
  pub asleep : Bool
  pub credit : Option Class
  pub delivery : ℕ
  pub most : ℕ
  pub service : Option ℕ

abbrev pub trait : Station → Trait
trait x = record {
  weight = x.weight;
  rate = x.rate;
  exponent = x.exponent;
  ampdu = x.ampdu;
  bss = x.bss;
  asleep = x.asleep;
  credit = x.credit;
  delivery = x.delivery;
  most = x.most;
  service = x.service;
}

-- The values of a station that joins.
abbrev pub new_trait : ℕ → ℕ → Trait
new_trait exponent weight = record {
  weight = weight;
  rate = lowest_rate;
  exponent = exponent;
  ampdu = None;
  bss = 0;
  asleep = false;
  credit = None;
  delivery = 0;
  most = 0;
  service = None;
}

-- P is a property of the number of a station and of its values, None if it is not live.
module _ (P : ℕ → Option Trait → Type 0) where
  abbrev pub Keeps : World → Type 0
  Keeps w = (s : ℕ) → P s (option_map trait (at None w.stations s))

  -- P still holds for a station after its values change by f.
  abbrev pub Turns : World → ℕ → (Station → Station) → Type 0
  Turns w s f =
      (x : Station) → at None w.stations s ≡ Some x → P s (Some (trait x)) → P s (Some (trait (f x)))

  -- ---- stations

  put_station : (w : World) (s : ℕ) (o : Option Station) → P s (option_map trait o) → Keeps w →
      Keeps (with_station w s o)
  unfolding with_station
  put_station w s o k h = each_put (λ i y. P i (option_map trait y)) None w.stations s o h k

  mapped : (s : ℕ) (o : Option Station) (f : Station → Station) →
      ((x : Station) → o ≡ Some x → P s (Some (trait x)) → P s (Some (trait (f x)))) →
      P s (option_map trait o) → P s (option_map trait (option_map f o))
  mapped s None f k h = h
  mapped s (Some x) f k h = k x refl h

  pub set_station : (w : World) (s : ℕ) (f : Station → Station) → Turns w s f → Keeps w →
      Keeps (on_station w s f)
  unfolding on_station
  set_station w s f k h = put_station w s _ (mapped s (at None w.stations s) f k (h s)) h

  kept_tid : (w : World) (s t : ℕ) (f : Tid → Tid) → Keeps w → Keeps (on_tid w s t f)
  unfolding on_tid
  kept_tid w s t f h = set_station w s _ (λ x e k. k) h

  kept_session : (w : World) (s t : ℕ) (f : Session → Session) → Keeps w → Keeps (on_session w s t f)
  unfolding on_session
  kept_session w s t f h = kept_tid w s t _ h

  pub kept_share : (w : World) (s : ℕ) (c : Class) (f : Share → Share) → Keeps w → Keeps (on_share w s c f)
  unfolding on_share
  kept_share w s c f h = set_station w s _ (λ x e k. k) h

  kept_if : (b : Bool) (u v : World) → Keeps u → Keeps v → Keeps (if b then u else v)
  kept_if true u v h k = h
  kept_if false u v h k = k

  -- ---- frames and queues

  kept_finish_all : (ids : List ℕ) (w : World) (fate : Fate) → Keeps w →
      Keeps (with_frames_finished w fate ids)
  unfolding with_frames_finished with_frame_finished with_fate
  kept_finish_all [] w fate h = h
  kept_finish_all (id ∷ ids) w fate h = kept_finish_all ids _ fate h

  kept_without_head : (items : List Item) (w : World) (q : ℕ) → Keeps w → Keeps (without_head w q items)
  unfolding without_head with_frame_finished with_fate on_queue
  kept_without_head [] w q h = h
  kept_without_head (x ∷ rest) w q h = h

  kept_within_limit : (w : World) → Keeps w → Keeps (after_limit w)
  unfolding after_limit
  kept_within_limit w h = kept_if (is_at_limit w)
      (without_head w (longest_queue w) (queue w (longest_queue w)).items) w
      (kept_without_head (queue w (longest_queue w)).items w (longest_queue w) h) h

  kept_put_in : (w : World) (s t q : ℕ) (x : Item) → Keeps w → Keeps (after_put_in w s t q x)
  unfolding after_put_in with_appended with_listed_queue with_queues on_queue
  kept_put_in w s t q x h = kept_if _ _ _ h (kept_tid _ s t _ h)

  kept_enqueued : (w : World) (s t flow len : ℕ) → Keeps w → Keeps (enqueue_outcome w s t flow len).world
  unfolding enqueue_outcome with_frame
  kept_enqueued w s t flow len h = kept_put_in (after_limit w) s t _ _ (kept_within_limit w h)

  kept_pay_queues : (qs : List ℕ) (w : World) (quanta : ℕ → ℕ) → Keeps w →
      Keeps (with_queues_paid w quanta qs)
  unfolding with_queues_paid on_queue
  kept_pay_queues [] w quanta h = h
  kept_pay_queues (q ∷ qs) w quanta h = kept_pay_queues qs _ quanta h

  kept_taken_from : (o : Option ℕ) (w : World) (s : ℕ) → Keeps w → Keeps (taken_from_picked w s o).world
  unfolding taken_from_picked taken_by_codel on_queue
  kept_taken_from None w s h = h
  kept_taken_from (Some q) w s h = kept_finish_all _ _ _ h

  kept_take : (w : World) (s t : ℕ) → Keeps w → Keeps (taken_for_tid w s t).world
  unfolding taken_for_tid with_queues
  kept_take w s t h = kept_taken_from _ _ s (kept_tid _ s t _ (kept_pay_queues _ w _ h))

  kept_purge_queues : (qs : List ℕ) (w : World) → Keeps w → Keeps (after_queues_left w qs)
  unfolding after_queues_left after_queue_left on_queue
  kept_purge_queues [] w h = h
  kept_purge_queues (q ∷ qs) w h = kept_purge_queues qs _ (kept_finish_all _ _ _ h)

  -- ---- a pull

  kept_pay_stations : (ss : List ℕ) (w : World) (c : Class) (quanta : ℕ → ℕ) → Keeps w →
      Keeps (with_stations_paid w c quanta ss)
  unfolding with_stations_paid with_station_paid
  kept_pay_stations [] w c quanta h = h
  kept_pay_stations (s ∷ ss) w c quanta h = kept_pay_stations ss _ c quanta (kept_share w s c _ h)

  pub kept_after_pick : (w : World) (c : Class) → Keeps w → Keeps (after_pick w c)
  unfolding after_pick with_rotation
  kept_after_pick w c h = kept_pay_stations (in_order (rotation w c)) w c _ h

  kept_number : (o : Option Item) (w : World) (s t : ℕ) → Keeps w → Keeps (with_number w s t o)
  unfolding with_number
  kept_number None w s t h = h
  kept_number (Some x) w s t h = kept_session w s t _ h

  filled_if : (b : Bool) (x y : Aggregate) → Keeps x.world → Keeps y.world → Keeps (if b then x else y).world
  filled_if true x y h k = h
  filled_if false x y h k = k

  kept_fresh : (n : ℕ) (w : World) (s t : ℕ) (ms : List Mpdu) → Keeps w → Keeps (with_fresh n w s t ms).world
  unfolding with_fresh
  kept_fresh zero w s t ms h = h
  kept_fresh (suc n) w s t ms h =
      let numbered : Keeps (with_number (taken_for_tid w s t).world s t (taken_for_tid w s t).item) =
      kept_number (taken_for_tid w s t).item (taken_for_tid w s t).world s t (kept_take w s t h) in
      filled_if (not (can_give w s t)) _ _ h (filled_if _ _ _ (kept_fresh n _ s t _ numbered) numbered)

  kept_filled : (w : World) (s t : ℕ) → Keeps w → Keeps (aggregate_of w s t).world
  unfolding aggregate_of
  kept_filled w s t h =
      let chosen : List Mpdu = longest_fitting w s (waiting_mpdus w s t) in
      filled_if (length chosen == length (waiting_mpdus w s t))
      (with_fresh (most_frames w s - length chosen) w s t chosen) (record { world = w; mpdus = chosen })
      (kept_fresh (most_frames w s - length chosen) w s t chosen h) h

  kept_prepared_frames : (s t : ℕ) (f : Aggregate) → Keeps f.world → Keeps (prepared_data s t f).world
  unfolding prepared_data
  kept_prepared_frames s t f h = kept_session f.world s t _ h

  prepared_if : (b : Bool) (x y : Prepared) → Keeps x.world → Keeps y.world →
      Keeps (if b then x else y).world
  prepared_if true x y h k = h
  prepared_if false x y h k = k

  pub kept_prepared : (w : World) (s t : ℕ) → Keeps w → Keeps (prepared_exchange w s t).world
  unfolding prepared_exchange
  kept_prepared w s t h = prepared_if (request_due (session w s t)) _ _ h
      (kept_prepared_frames s t (aggregate_of w s t) (kept_filled w s t h))

  -- ---- exchanges

  kept_failed : (w : World) (s t : ℕ) (m : Mpdu) → Keeps w → Keeps (with_failed_finished w s t m)
  unfolding with_failed_finished with_frame_finished with_fate
  kept_failed w s t m h = kept_if _ _ _ h h

  kept_settled : (end : End) (w : World) (s t : ℕ) (m : Mpdu) → Keeps w → Keeps (with_settled w s t end m)
  unfolding with_settled with_frame_finished with_fate
  kept_settled End.Acknowledged w s t m h = kept_session w s t _ h
  kept_settled End.Missed w s t m h = kept_failed _ s t m (kept_session w s t _ h)
  kept_settled End.GivenUp w s t m h = kept_failed _ s t m (kept_session w s t _ h)
  kept_settled End.Unsent w s t m h = kept_failed _ s t m (kept_session w s t _ h)

  kept_all_settled : (ms : List Mpdu) (w : World) (s t : ℕ) (ends : ℕ → End) → Keeps w →
      Keeps (with_all_settled w s t ends ms)
  unfolding with_all_settled
  kept_all_settled [] w s t ends h = h
  kept_all_settled (m ∷ ms) w s t ends h = kept_all_settled ms _ s t ends
      (kept_settled (ends m.number) w s t m h)

  -- A change of a receiver, and a TID that catches up, change none of these values.
  kept_receiver : (w : World) (s t : ℕ) (f : Receiver → Receiver) → Keeps w → Keeps (on_receiver w s t f)
  unfolding on_receiver
  kept_receiver w s t f h = kept_tid w s t _ h

  kept_caught_up : (w : World) (s t : ℕ) → Keeps w → Keeps (caught_up w s t)
  unfolding caught_up
  kept_caught_up w s t h = kept_receiver _ s t _ (kept_session w s t _ h)

  kept_caught_up_if_plain : (w : World) (s t : ℕ) → Keeps w → Keeps (caught_up_if_plain w s t)
  unfolding caught_up_if_plain
  kept_caught_up_if_plain w s t h = kept_if _ w _ h (kept_caught_up w s t h)

  kept_after_done : (content : Content) (w : World) (x : Exchange) (heard : Bool) → Keeps w →
      Keeps (after_done w x heard content)
  unfolding after_done
  kept_after_done (Frames mpdus) w x heard h =
      kept_caught_up_if_plain _ _ _ (kept_all_settled mpdus w _ _ _ h)
  kept_after_done (Request start) w x heard h = kept_session w _ _ _ h

  kept_ended : (air : Option ℕ) (w : World) (x : Exchange) (heard : Bool) → Keeps w →
      Keeps (done_outcome w x heard air).world
  unfolding done_outcome after_charge without_exchange
  kept_ended air w x heard h = kept_after_done x.content _ x heard (kept_share _ x.station x.class _ h)

  kept_arrived : (w : World) (x : Exchange) (n : ℕ) → Keeps w → Keeps (arrive_outcome w x n).world
  unfolding arrive_outcome with_exchange on_receiver
  kept_arrived w x n h = kept_tid w x.station x.tid _ h

  kept_answered : (w : World) (x : Exchange) → Keeps w → Keeps (answer_outcome w x).world
  unfolding answer_outcome with_exchange
  kept_answered w x h = h

  kept_unsent : (w : World) (x : Exchange) (n : ℕ) → Keeps w → Keeps (unsent_outcome w x n).world
  unfolding unsent_outcome with_exchange
  kept_unsent w x n h = h

  kept_given_up : (w : World) (x : Exchange) (n : ℕ) → Keeps w → Keeps (give_up_outcome w x n).world
  unfolding give_up_outcome with_exchange
  kept_given_up w x n h = h

  kept_open : (o : Option Exchange) (w : World) (f : Exchange → Outcome) →
      ((x : Exchange) → Keeps (f x).world) → Keeps w → Keeps (outcome_where_open w o f).world
  unfolding outcome_where_open
  kept_open None w f k h = h
  kept_open (Some x) w f k h = k x

  kept_reaped : (ids : List ℕ) (w : World) → Keeps w → Keeps (reap_outcome w ids).world
  unfolding reap_outcome
  kept_reaped [] w h = h
  kept_reaped (id ∷ ids) w h = h

  -- ---- agreements that begin and end

  -- Nor does a mode or a window, so nor do the calls of modes.
  kept_with_mode : (w : World) (s t : ℕ) (mode : Mode) → Keeps w → Keeps (with_mode w s t mode)
  unfolding with_mode
  kept_with_mode w s t mode h = kept_tid w s t _ h

  kept_with_window : (w : World) (s t size : ℕ) → Keeps w → Keeps (with_window w s t size)
  unfolding with_window
  kept_with_window w s t size h = kept_receiver _ s t _ (kept_session w s t _ h)

  kept_held : (w : World) (s t : ℕ) → Keeps w → Keeps (hold_outcome w s t).world
  unfolding hold_outcome
  kept_held w s t h = kept_with_mode w s t _ h

  kept_begun : (w : World) (s t window : ℕ) → Keeps w → Keeps (begin_outcome w s t window).world
  unfolding begin_outcome
  kept_begun w s t window h = kept_with_mode _ s t _ (kept_with_window _ s t window (kept_caught_up w s t h))

  kept_freed : (w : World) (s t : ℕ) → Keeps w → Keeps (free_outcome w s t).world
  unfolding free_outcome
  kept_freed w s t h = kept_with_mode w s t _ h

  kept_ceased : (w : World) (s t : ℕ) → Keeps w → Keeps (cease_outcome w s t).world
  unfolding cease_outcome after_numbers_ended
  kept_ceased w s t h = kept_with_mode _ s t _ (kept_with_window _ s t _
      (kept_caught_up _ s t (kept_finish_all _ _ _ (kept_session w s t _ h))))

  -- ---- stations that leave

  kept_left_tids : (ts : List ℕ) (w : World) (s : ℕ) → Keeps w → Keeps (after_tids_left w s ts)
  unfolding after_tids_left after_tid_left with_queues
  kept_left_tids [] w s h = h
  kept_left_tids (t ∷ ts) w s h = kept_left_tids ts _ s
      (kept_tid _ s t _ (kept_purge_queues _ _ (kept_finish_all _ _ _ h)))

  kept_off_lists : (cs : List Class) (w : World) (s : ℕ) → Keeps w → Keeps (without_listings w s cs)
  unfolding without_listings with_rotation
  kept_off_lists [] w s h = h
  kept_off_lists (c ∷ cs) w s h = kept_off_lists cs _ s h

  kept_flush_queues : (qs : List ℕ) (w : World) → Keeps w → Keeps (after_queues_flushed w qs)
  unfolding after_queues_flushed after_queue_flushed on_queue
  kept_flush_queues [] w h = h
  kept_flush_queues (q ∷ qs) w h = kept_flush_queues qs _ (kept_finish_all _ _ _ h)

  kept_flushed : (w : World) (s t : ℕ) → Keeps w → Keeps (flush_outcome w s t).world
  unfolding flush_outcome after_tid_flushed
  kept_flushed w s t h = kept_caught_up_if_plain _ s t
      (kept_flush_queues _ _ (kept_finish_all _ _ _ (kept_session w s t _ h)))

  kept_gone : (w : World) (s : ℕ) → P s None → Keeps w → Keeps (leave_outcome w s).world
  unfolding leave_outcome
  kept_gone w s none h =
      put_station _ s None none (kept_off_lists all_classes _ s (kept_left_tids (upto 8) w s h))

  kept_lowered : (cs : List Class) (w : World) (s : ℕ) → Keeps w → Keeps (with_deficits_lowered w s cs)
  unfolding with_deficits_lowered
  kept_lowered [] w s h = h
  kept_lowered (c ∷ cs) w s h = kept_lowered cs _ s (kept_share w s c _ h)

  kept_weighed : (w : World) (s weight : ℕ) → Turns w s (λ x. record x { weight = weight; weighed = true }) →
      Keeps w → Keeps (weight_outcome w s weight).world
  unfolding weight_outcome
  kept_weighed w s weight k h = kept_lowered all_classes _ s (set_station w s _ k h)

  -- ---- the step

  -- For a call that may change the values of a station: P holds after the change.
  abbrev pub Changes : Note → World → Type 0
  Changes (Asked (Join s window start exponent weight)) w = P s (Some (new_trait exponent weight))
  Changes (Asked (Offload s exponent weight)) w = P s (Some (new_trait exponent weight))
  Changes (Asked (Plain s start exponent weight)) w = P s (Some (new_trait exponent weight))
  Changes (Asked (Weight s weight)) w = Turns w s (λ x. record x { weight = weight; weighed = true })
  Changes (Asked (Leave s)) w = P s None
  Changes (Asked (Rate s rate)) w = Turns w s (λ x. record x { rate = rate_asked rate })
  Changes (Asked (Pull c limits)) w = Keeps (pull_outcome w c limits).world
  Changes (Asked (Sleep s)) w = Turns w s (λ x. record x { asleep = true })
  Changes (Asked (Wake s)) w = Turns w s (λ x. record x { asleep = false; credit = None; service = None })
  Changes (Asked (Poll s)) w = Turns w s (λ x. record x { credit = Some (class_to_send w s) })
  Changes (Asked (Ampdu s octets)) w = Turns w s (λ x. record x { ampdu = Some octets })
  Changes (Asked (Service ask)) w = Turns w (station_served ask) (after_service ask)
  Changes (Asked (Bss s b)) w = Turns w s (λ x. record x { bss = b })
  Changes note w = Unit {0}

  kept_done : (note : Note) (w : World) → Changes note w → Keeps w → Keeps (outcome_of w note).world
  unfolding outcome_of join_outcome offload_outcome plain_outcome rate_outcome tick_outcome sleep_outcome
      wake_outcome poll_outcome rx_outcome
  kept_done (Enqueue s t flow len) w k h = kept_enqueued w s t flow len h
  kept_done (Asked (Join s window start exponent weight)) w k h = put_station w s _ k h
  kept_done (Asked (Offload s exponent weight)) w k h = put_station w s _ k h
  kept_done (Asked (Plain s start exponent weight)) w k h = put_station w s _ k h
  kept_done (Asked (Weight s weight)) w k h = kept_weighed w s weight k h
  kept_done (Asked (Leave s)) w k h = kept_gone w s k h
  kept_done (Asked (Rate s rate)) w k h = set_station w s _ k h
  kept_done (Asked (Tick by)) w k h = h
  kept_done (Asked (Pull c limits)) w k h = k
  kept_done (Asked (Arrive x n)) w k h = kept_open (exchange w x) w _ (λ y. kept_arrived w y n h) h
  kept_done (Asked (Unsent x n)) w k h = kept_open (exchange w x) w _ (λ y. kept_unsent w y n h) h
  kept_done (Asked (GiveUp x n)) w k h = kept_open (exchange w x) w _ (λ y. kept_given_up w y n h) h
  kept_done (Asked (Flush s t)) w k h = kept_flushed w s t h
  kept_done (Asked (Hold s t)) w k h = kept_held w s t h
  kept_done (Asked (Begin s t window)) w k h = kept_begun w s t window h
  kept_done (Asked (Free s t)) w k h = kept_freed w s t h
  kept_done (Asked (Cease s t)) w k h = kept_ceased w s t h
  kept_done (Asked (Answer x)) w k h = kept_open (exchange w x) w _ (λ y. kept_answered w y h) h
  kept_done (Asked (Done x heard air)) w k h =
      kept_open (exchange w x) w _ (λ y. kept_ended air w y heard h) h
  kept_done (Asked (Sleep s)) w k h = set_station w s _ k h
  kept_done (Asked (Wake s)) w k h = set_station w s _ k h
  kept_done (Asked (Poll s)) w k h = set_station w s _ k h
  kept_done (Asked (Rx s c air)) w k h = kept_share w s c _ h
  kept_done (Asked Reap) w k h = kept_reaped w.finished w h
  kept_done (Asked (Ampdu s octets)) w k h = set_station w s _ k h
  kept_done (Asked (Stop s)) w k h = set_station w s _ (λ x _ i. i) h
  kept_done (Asked (Start s)) w k h = set_station w s _ (λ x _ i. i) h
  kept_done (Asked (Group ask)) w k h = h
  kept_done (Asked (Service ask)) w k h = set_station w (station_served ask) _ k h
  kept_done (Asked (Bss s b)) w k h = set_station w s _ k h

  pub kept_refused : (note : Note) (r : Refusal) (w : World) → Keeps w → Keeps (after_refusal w note r)
  unfolding after_refusal
  kept_refused (Asked (Pull c l)) Idle w h = after_idle Keeps w c h (kept_after_pick w c h)
  kept_refused _ _ w h = h

  kept_listed_in_all : (cs : List Class) (w : World) (s : ℕ) → Keeps w → Keeps (with_listings_in w s cs)
  unfolding with_listings_in with_listing_in with_rotation
  kept_listed_in_all [] w s h = h
  kept_listed_in_all (c ∷ cs) w s h = kept_listed_in_all cs _ s (kept_if _ _ w h h)

  pub kept_listed : (o : Option ℕ) (w : World) → Keeps w → Keeps (with_listings_of w o)
  unfolding with_listings_of
  kept_listed None w h = h
  kept_listed (Some s) w h = kept_listed_in_all all_classes w s h

  kept_answer : (r : Option Refusal) (w : World) (note : Note) → refusal w note ≡ r →
      (NoRow (refusals w note) → Changes note w) → Keeps w → Keeps (judged_outcome w note r).world
  unfolding judged_outcome
  kept_answer (Some r) w note e k h = kept_refused note r w h
  kept_answer None w note e k h = kept_listed (concerned_station w note) (outcome_of w note).world
      (kept_done note w (k (no_row (refusals w note) e)) h)

  pub kept_step : (w : World) (note : Note) → (NoRow (refusals w note) → Changes note w) → Keeps w →
      Keeps (step w note).world
  unfolding step
  kept_step w note k h = kept_answer (refusal w note) w note refl k h
