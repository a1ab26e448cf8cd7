-- Proves which changes of a world keep the mode of each TID, and that only a call that asks so changes a mode
-- while a station stays. By cases of the call.
use Rattle.std.proofs.Common.{◌≡◌, ◌≢◌, refl, ap, sym, ◌∙◌, subst, ℕ, zero, suc, ◌-◌, Bool, true, false, if◌then◌else◌, not, ◌&&◌, ◌==◌, List, [], ◌∷◌, length, Option, Some, None, is_some, unwrap_or, option_map}
use Rattle.wf_frame.specs.declared.classes.Class.{Class}
use Rattle.wf_frame.specs.declared.classes.Fate.{Fate}
use Rattle.wf_frame.specs.declared.notes.Ask.TheVariants.{Join, Leave, Rate, Tick, Pull, Arrive, Answer, Done, Sleep, Wake, Poll, Rx, Reap, Ampdu, Stop, Start, Unsent, GiveUp, Flush, Offload, Weight, Hold, Begin, Free, Cease, Group, Service, Bss}
use Rattle.wf_frame.specs.declared.notes.Ask.TheVariants as call
use Rattle.wf_frame.specs.declared.notes.Limits.{Limits}
use Rattle.wf_frame.specs.declared.notes.Note.{Note}
use Rattle.wf_frame.specs.declared.notes.Note.TheVariants.{Enqueue, Asked}
use Rattle.wf_frame.specs.declared.notes.Refusal.{Refusal}
use Rattle.wf_frame.specs.declared.notes.Refusal.TheVariants.{Idle}
use Rattle.wf_frame.specs.Classes.{all_classes}
use Rattle.wf_def_lists.specs.Table.{at, upto, with_member}
use Rattle.wf_def_codel.specs.Codel.{Item}
use Rattle.wf_def_rotation.specs.Rotation.{Rotation}
use Rattle.wf_def_agreement.specs.Receiver.{Receiver}
use Rattle.wf_def_agreement.specs.Session.{Session, End, request_due}
use Rattle.wf_def_world.specs.World.{World, Station, Share, Tid, Queue, Exchange, Mpdu, Content, Frames, Request, no_tid, no_station, tid_of, session, is_live, exchange, with_station, on_station, on_tid, on_session, on_receiver, with_queues, on_share, on_queue, with_rotation, with_mode, with_fate, with_exchange, without_exchange, with_frame_finished, with_frames_finished}
use Rattle.wf_def_world.specs.Service.{station_served}
use Rattle.wf_def_world.specs.FlowQueues.{without_head, after_limit, with_listed_queue, with_appended, after_put_in, with_queues_paid, taken_by_codel, taken_from_picked, taken_for_tid, after_queue_left, after_queues_left}
use Rattle.wf_def_world.specs.CanSend.{can_give, with_listing_in, with_listings_in, with_listings_of}
use Rattle.wf_def_world.specs.Exchanges.{Aggregate, Prepared, most_frames, picked_station, after_arrival, sending_tid, waiting_mpdus, longest_fitting, with_station_paid, with_stations_paid, after_pick, after_tid_turn, with_number, with_fresh, aggregate_of, prepared_data, prepared_exchange, with_exchange_opened, after_charge, with_failed_finished, with_settled, with_all_settled, caught_up, caught_up_if_plain, after_done, with_spent}
use Rattle.wf_def_world.specs.Refusals.{refusals, refusal}
use Rattle.wf_def_world.specs.Step.{Outcome, join_outcome, offload_outcome, plain_outcome, leave_outcome, after_tid_left, after_tids_left, without_listings, rate_outcome, tick_outcome, with_frame, enqueue_outcome, send_outcome, pull_outcome_for, pull_outcome, arrive_outcome, answer_outcome, unsent_outcome, give_up_outcome, flush_outcome, done_outcome, outcome_where_open, sleep_outcome, wake_outcome, poll_outcome, rx_outcome, reap_outcome, with_deficits_lowered, weight_outcome, hold_outcome, begin_outcome, free_outcome, cease_outcome, after_numbers_ended, concerned_station, outcome_of, after_refusal, judged_outcome, step}
use Rattle.wf_law_rules.proofs.Lemmas.Tables.{each_put, at_put_same, at_put_other}
use Rattle.wf_law_rules.proofs.Lemmas.Numbers.{on_bool, eq_yes, eq_no, yes_eq, and_true}
use Rattle.wf_law_runs.specs.Modes.{is_mode_of, KeepsMode}
use Rattle.wf_law_runs.proofs.Common.Refused.{after_idle}
use Rattle.wf_law_runs.proofs.Common.Picked.{picked_world}
use Rattle.wf_law_runs.proofs.Common.Marks.{marked_world}
use Rattle.wf_law_runs.proofs.Common.Ends.{on_settled}
use Rattle.wf_law_runs.proofs.Common.Flushes.{if_caught, if_flushed}
use Rattle.wf_law_runs.proofs.Windows.Sides.{Same, each_tid_at, same_listed, begun_is, ceased_is}
use Rattle.wf_law_runs.proofs.Windows.Opened.{NoRow, no_row}

-- ---- changes that keep all modes

-- Each TID has the same mode in both worlds.
pub record SameModes (w v : World) : Type 0 where
  pub modes : (s t : ℕ) → (tid_of v s t).mode ≡ (tid_of w s t).mode

pub modes_here : (w : World) → SameModes w w
modes_here w = record { modes = λ s t. refl }

pub then_modes : (u v w : World) → SameModes u v → SameModes v w → SameModes u w
then_modes u v w h k = record { modes = λ s t. k.modes s t ∙ h.modes s t }

if_modes : (b : Bool) (w u v : World) → SameModes w u → SameModes w v → SameModes w (if b then u else v)
if_modes true w u v h k = h
if_modes false w u v h k = k

-- Two worlds with the same stations.
modes_plain : (w v : World) → w.stations ≡ v.stations → SameModes w v
modes_plain w v e = record {
  modes = λ s t. ap (λ (l : List (Option Station)). (at no_tid (unwrap_or
      (at None l s) no_station).tids t).mode)
      (sym e);
}

pub modes_on_tid : (w : World) (s t : ℕ) (f : Tid → Tid) → ((y : Tid) → (f y).mode ≡ y.mode) →
    SameModes w (on_tid w s t f)
modes_on_tid w s t f h = record {
  modes = each_tid_at (λ i j y. y.mode ≡ (tid_of w i j).mode) w s t f (λ i j. refl) (h (tid_of w s t));
}

modes_on_station : (w : World) (s : ℕ) (f : Station → Station) → ((x : Station) → (f x).tids ≡ x.tids) →
    SameModes w (on_station w s f)
unfolding on_station with_station
modes_on_station w s f h = record {
  modes = each_put (λ i o. (j : ℕ) → (at no_tid (unwrap_or o no_station).tids j).mode ≡ (tid_of w i j).mode)
      None w.stations s _ (λ i j. refl) (go (at None w.stations s));
}
  where
    go : (o : Option Station) (j : ℕ) → (at no_tid (unwrap_or (option_map f o) no_station).tids j).mode
        ≡ (at no_tid (unwrap_or o no_station).tids j).mode
    go None j = refl
    go (Some x) j = ap (λ (l : List Tid). (at no_tid l j).mode) (h x)

modes_on_session : (w : World) (s t : ℕ) (f : Session → Session) → SameModes w (on_session w s t f)
unfolding on_session
modes_on_session w s t f = modes_on_tid w s t _ (λ y. refl)

modes_on_receiver : (w : World) (s t : ℕ) (f : Receiver → Receiver) → SameModes w (on_receiver w s t f)
unfolding on_receiver
modes_on_receiver w s t f = modes_on_tid w s t _ (λ y. refl)

modes_with_queues : (w : World) (s t : ℕ) (r : Rotation) → SameModes w (with_queues w s t r)
unfolding with_queues
modes_with_queues w s t r = modes_on_tid w s t _ (λ y. refl)

modes_on_share : (w : World) (s : ℕ) (c : Class) (f : Share → Share) → SameModes w (on_share w s c f)
unfolding on_share
modes_on_share w s c f = modes_on_station w s _ (λ x. refl)

modes_on_queue : (w : World) (q : ℕ) (f : Queue → Queue) → SameModes w (on_queue w q f)
unfolding on_queue
modes_on_queue w q f = modes_plain w _ refl

modes_with_rotation : (w : World) (c : Class) (r : Rotation) → SameModes w (with_rotation w c r)
unfolding with_rotation
modes_with_rotation w c r = modes_plain w _ refl

modes_finish : (w : World) (fate : Fate) (id : ℕ) → SameModes w (with_frame_finished w fate id)
unfolding with_frame_finished with_fate
modes_finish w fate id = modes_plain w _ refl

modes_finish_all : (ids : List ℕ) (w : World) (fate : Fate) → SameModes w (with_frames_finished w fate ids)
unfolding with_frames_finished
modes_finish_all [] w fate = modes_here w
modes_finish_all (id ∷ ids) w fate = then_modes _ _ _ (modes_finish w fate id) (modes_finish_all ids _ fate)

modes_listed_in_all : (cs : List Class) (w : World) (s : ℕ) → SameModes w (with_listings_in w s cs)
unfolding with_listings_in with_listing_in
modes_listed_in_all [] w s = modes_here w
modes_listed_in_all (c ∷ cs) w s = then_modes _ _ _
    (if_modes _ w _ _ (modes_with_rotation w c _) (modes_here w)) (modes_listed_in_all cs _ s)

modes_listed : (o : Option ℕ) (w : World) → SameModes w (with_listings_of w o)
unfolding with_listings_of
modes_listed None w = modes_here w
modes_listed (Some s) w = modes_listed_in_all _ w s

modes_pay_stations : (ss : List ℕ) (w : World) (c : Class) (quanta : ℕ → ℕ) →
    SameModes w (with_stations_paid w c quanta ss)
unfolding with_stations_paid with_station_paid
modes_pay_stations [] w c quanta = modes_here w
modes_pay_stations (s ∷ ss) w c quanta = then_modes _ _ _ (modes_on_share w s c _)
    (modes_pay_stations ss _ c quanta)

modes_after_pick : (w : World) (c : Class) → SameModes w (after_pick w c)
unfolding after_pick
modes_after_pick w c = then_modes _ _ _ (modes_pay_stations _ w c _) (modes_with_rotation _ c _)

modes_picked : (w : World) (c : Class) (l : Limits) → SameModes w (picked_world w c l)
modes_picked w c l = record { modes = (modes_after_pick w c).modes }

-- ---- frames and queues

modes_without_head : (items : List Item) (w : World) (q : ℕ) → SameModes w (without_head w q items)
unfolding without_head
modes_without_head [] w q = modes_here w
modes_without_head (x ∷ rest) w q = then_modes _ _ _ (modes_on_queue w q _) (modes_finish _ _ _)

modes_within_limit : (w : World) → SameModes w (after_limit w)
unfolding after_limit
modes_within_limit w = if_modes _ w _ _ (modes_without_head _ w _) (modes_here w)

modes_put_in : (w : World) (s t q : ℕ) (x : Item) → SameModes w (after_put_in w s t q x)
unfolding after_put_in with_appended with_listed_queue
modes_put_in w s t q x = then_modes _ _ _ (modes_on_queue w q _)
    (if_modes _ _ _ _ (modes_here _) (then_modes _ _ _ (modes_on_queue _ q _) (modes_with_queues _ s t _)))

modes_enqueued : (w : World) (s t flow len : ℕ) → SameModes w (enqueue_outcome w s t flow len).world
unfolding enqueue_outcome with_frame
modes_enqueued w s t flow len = then_modes _ _ _
    (then_modes _ _ _ (modes_within_limit w) (modes_put_in _ s t _ _)) (modes_plain _ _ refl)

modes_pay_queues : (qs : List ℕ) (w : World) (quanta : ℕ → ℕ) → SameModes w (with_queues_paid w quanta qs)
unfolding with_queues_paid
modes_pay_queues [] w quanta = modes_here w
modes_pay_queues (q ∷ qs) w quanta = then_modes _ _ _ (modes_on_queue w q _) (modes_pay_queues qs _ quanta)

modes_taken_from : (o : Option ℕ) (w : World) (s : ℕ) → SameModes w (taken_from_picked w s o).world
unfolding taken_from_picked taken_by_codel
modes_taken_from None w s = modes_here w
modes_taken_from (Some q) w s = then_modes _ _ _ (modes_on_queue w q _) (modes_finish_all _ _ _)

modes_take : (w : World) (s t : ℕ) → SameModes w (taken_for_tid w s t).world
unfolding taken_for_tid
modes_take w s t = then_modes _ _ _ (then_modes _ _ _ (modes_pay_queues _ w _) (modes_with_queues _ s t _))
    (modes_taken_from _ _ s)

modes_purge_queues : (qs : List ℕ) (w : World) → SameModes w (after_queues_left w qs)
unfolding after_queues_left after_queue_left
modes_purge_queues [] w = modes_here w
modes_purge_queues (q ∷ qs) w = then_modes _ _ _
    (then_modes _ _ _ (modes_on_queue w q _) (modes_finish_all _ _ _)) (modes_purge_queues qs _)

-- ---- pulls

modes_filled_if : (b : Bool) (w : World) (x y : Aggregate) → SameModes w x.world → SameModes w y.world →
    SameModes w (if b then x else y).world
modes_filled_if true w x y h k = h
modes_filled_if false w x y h k = k

modes_prepared_if : (b : Bool) (w : World) (x y : Prepared) → SameModes w x.world → SameModes w y.world →
    SameModes w (if b then x else y).world
modes_prepared_if true w x y h k = h
modes_prepared_if false w x y h k = k

modes_number : (o : Option Item) (w : World) (s t : ℕ) → SameModes w (with_number w s t o)
unfolding with_number
modes_number None w s t = modes_here w
modes_number (Some x) w s t = modes_on_session w s t _

modes_fresh : (n : ℕ) (w : World) (s t : ℕ) (ms : List Mpdu) → SameModes w (with_fresh n w s t ms).world
unfolding with_fresh
modes_fresh zero w s t ms = modes_here w
modes_fresh (suc n) w s t ms =
    let taken = taken_for_tid w s t in
    let numbered : SameModes w (with_number taken.world s t taken.item) =
    then_modes w taken.world _ (modes_take w s t) (modes_number taken.item taken.world s t) in
    modes_filled_if (not (can_give w s t)) w _ _ (modes_here w)
    (modes_filled_if _ w _ _ (then_modes w _ _ numbered (modes_fresh n _ s t _)) numbered)

modes_filled : (w : World) (s t : ℕ) → SameModes w (aggregate_of w s t).world
unfolding aggregate_of
modes_filled w s t =
    let chosen : List Mpdu = longest_fitting w s (waiting_mpdus w s t) in
    modes_filled_if (length chosen == length (waiting_mpdus w s t)) w
    (with_fresh (most_frames w s - length chosen) w s t chosen) (record { world = w; mpdus = chosen })
    (modes_fresh (most_frames w s - length chosen) w s t chosen) (modes_here w)

modes_frames : (w : World) (s t : ℕ) (f : Aggregate) → SameModes w f.world →
    SameModes w (prepared_data s t f).world
unfolding prepared_data
modes_frames w s t f h = then_modes w f.world _ h (modes_on_session f.world s t _)

modes_prepared : (w : World) (s t : ℕ) → SameModes w (prepared_exchange w s t).world
unfolding prepared_exchange
modes_prepared w s t = modes_prepared_if (request_due (session w s t)) w _ _ (modes_here w)
    (modes_frames w s t (aggregate_of w s t) (modes_filled w s t))

modes_spent : (w : World) (x : Exchange) → SameModes w (with_spent w x)
unfolding with_spent
modes_spent w x = modes_on_station w x.station _ (λ y. refl)

modes_sent : (w : World) (s t : ℕ) (c : Class) (p : Prepared) → SameModes w p.world →
    SameModes w (send_outcome s t c p).world
unfolding send_outcome with_exchange_opened
modes_sent w s t c p h = then_modes w p.world _ h
    (then_modes p.world _ _ (modes_plain p.world _ refl) (modes_spent _ _))

modes_after_turn : (w : World) (s : ℕ) (c : Class) (t : ℕ) → SameModes w (after_tid_turn w s c t)
unfolding after_tid_turn
modes_after_turn w s c t = modes_on_share w s c _

modes_pulled_by : (o : Option ℕ) (w : World) (c : Class) → SameModes w (pull_outcome_for w c o).world
unfolding pull_outcome_for
modes_pulled_by None w c = modes_here w
modes_pulled_by (Some s) w c = modes_sent w s _ c _
    (then_modes w _ _ (modes_after_turn w s c (sending_tid w s c)) (modes_prepared _ s _))

modes_pulled : (w : World) (c : Class) (l : Limits) → SameModes w (pull_outcome w c l).world
unfolding pull_outcome
modes_pulled w c l = then_modes w (picked_world w c l) _ (modes_picked w c l)
    (modes_pulled_by (picked_station w c).winner (picked_world w c l) c)

-- ---- exchanges

modes_arrived : (w : World) (x : Exchange) (n : ℕ) → SameModes w (arrive_outcome w x n).world
unfolding arrive_outcome with_exchange
modes_arrived w x n = then_modes w _ _ (modes_on_receiver w x.station x.tid (after_arrival x.content n))
    (modes_plain _ _ refl)

modes_answered : (w : World) (x : Exchange) → SameModes w (answer_outcome w x).world
unfolding answer_outcome with_exchange
modes_answered w x = modes_plain w _ refl

modes_marked : (w : World) (x : Exchange) (unsent given_up : List ℕ) →
    SameModes w (marked_world w x unsent given_up)
unfolding with_exchange
modes_marked w x unsent given_up = modes_plain w _ refl

modes_unsent : (w : World) (x : Exchange) (n : ℕ) → SameModes w (unsent_outcome w x n).world
unfolding unsent_outcome
modes_unsent w x n = modes_marked w x (with_member n x.unsent) x.given_up

modes_given_up : (w : World) (x : Exchange) (n : ℕ) → SameModes w (give_up_outcome w x n).world
unfolding give_up_outcome
modes_given_up w x n = modes_marked w x x.unsent (with_member n x.given_up)

modes_settled : (end : End) (w : World) (s t : ℕ) (m : Mpdu) → SameModes w (with_settled w s t end m)
unfolding with_settled with_failed_finished
modes_settled end w s t m = on_settled (SameModes w) end w s t m
    (λ _. then_modes w _ _ (modes_on_session w s t _) (modes_finish _ _ _))
    (λ _. if_modes _ w _ _ (then_modes w _ _ (modes_on_session w s t _) (modes_finish _ _ _))
    (modes_on_session w s t _))

modes_all_settled : (ms : List Mpdu) (w : World) (s t : ℕ) (ends : ℕ → End) →
    SameModes w (with_all_settled w s t ends ms)
unfolding with_all_settled
modes_all_settled [] w s t ends = modes_here w
modes_all_settled (m ∷ ms) w s t ends = then_modes w _ _ (modes_settled (ends m.number) w s t m)
    (modes_all_settled ms _ s t ends)

modes_caught : (w : World) (s t : ℕ) → SameModes w (caught_up w s t)
unfolding caught_up
modes_caught w s t = then_modes w _ _ (modes_on_session w s t _) (modes_on_receiver _ s t _)

modes_caught_up : (w : World) (s t : ℕ) → SameModes w (caught_up_if_plain w s t)
modes_caught_up w s t = if_caught (SameModes w) w s t (modes_here w) (λ _. modes_caught w s t)

modes_after_done : (c : Content) (w : World) (x : Exchange) (heard : Bool) → SameModes w
    (after_done w x heard c)
unfolding after_done
modes_after_done (Frames ms) w x heard = then_modes w _ _ (modes_all_settled ms w x.station x.tid _)
    (modes_caught_up _ x.station x.tid)
modes_after_done (Request f) w x heard = modes_on_session w x.station x.tid _

modes_charged : (air : Option ℕ) (w : World) (x : Exchange) → SameModes w (after_charge w x air)
unfolding after_charge
modes_charged air w x = modes_on_share w _ _ _

modes_without : (w : World) (e : ℕ) → SameModes w (without_exchange w e)
unfolding without_exchange
modes_without w e = modes_plain w _ refl

modes_ended : (air : Option ℕ) (w : World) (x : Exchange) (heard : Bool) →
    SameModes w (done_outcome w x heard air).world
unfolding done_outcome
modes_ended air w x heard = then_modes w _ _ (modes_without w x.number)
    (then_modes _ _ _ (modes_charged air _ x) (modes_after_done x.content _ x heard))

modes_flushed : (w : World) (s t : ℕ) → SameModes w (flush_outcome w s t).world
modes_flushed w s t = if_flushed (SameModes w)
    (record {
      finish = λ u id k. then_modes w u _ k (modes_finish u _ id);
      empty = λ u q k. then_modes w u _ k (modes_on_queue u q _);
    }) w s t (λ v k _. then_modes w v _ k (modes_caught v s t)) (modes_on_session w s t _)

-- ---- stations

modes_left_tids : (ts : List ℕ) (w : World) (s : ℕ) → SameModes w (after_tids_left w s ts)
unfolding after_tids_left after_tid_left
modes_left_tids [] w s = modes_here w
modes_left_tids (t ∷ ts) w s = then_modes _ _ _
    (then_modes _ _ _ (then_modes _ _ _ (modes_finish_all _ w _) (modes_purge_queues _ _))
    (modes_with_queues _ s t _)) (modes_left_tids ts _ s)

modes_off_lists : (cs : List Class) (w : World) (s : ℕ) → SameModes w (without_listings w s cs)
unfolding without_listings
modes_off_lists [] w s = modes_here w
modes_off_lists (c ∷ cs) w s = then_modes _ _ _ (modes_with_rotation w c _) (modes_off_lists cs _ s)

modes_lowered : (cs : List Class) (w : World) (s : ℕ) → SameModes w (with_deficits_lowered w s cs)
unfolding with_deficits_lowered
modes_lowered [] w s = modes_here w
modes_lowered (c ∷ cs) w s = then_modes _ _ _ (modes_on_share w s c _) (modes_lowered cs _ s)

modes_weighed : (w : World) (s weight : ℕ) → SameModes w (weight_outcome w s weight).world
unfolding weight_outcome
modes_weighed w s weight = then_modes _ _ _ (modes_on_station w s _ (λ x. refl))
    (modes_lowered all_classes _ s)

modes_reaped : (ids : List ℕ) (w : World) → SameModes w (reap_outcome w ids).world
unfolding reap_outcome
modes_reaped [] w = modes_here w
modes_reaped (id ∷ ids) w = modes_plain w _ refl

modes_open : (o : Option Exchange) (w : World) (f : Exchange → Outcome) →
    ((x : Exchange) → SameModes w (f x).world) → SameModes w (outcome_where_open w o f).world
unfolding outcome_where_open
modes_open None w f k = modes_here w
modes_open (Some x) w f k = k x

-- ---- the call

-- While a station is live before and after a call, a mode changes only if the call asks so.
record StaysModed (note : Note) (w v : World) : Type 0 where
  modes : (s t : ℕ) → is_live w s ≡ true → is_live v s ≡ true → is_mode_of s t note ≡ false →
      (tid_of v s t).mode ≡ (tid_of w s t).mode

stays_same : (note : Note) (w v : World) → SameModes w v → StaysModed note w v
stays_same note w v h = record { modes = λ s t _ _ _. h.modes s t }

-- A station joins that was not live.
stays_joined : (note : Note) (w : World) (i : ℕ) (x : Station) → is_live w i ≡ false →
    StaysModed note w (with_station w i (Some x))
unfolding with_station
stays_joined note w i x dead = record {
  modes = λ s t l _ _. on_bool (i == s) (λ own. absurd (cc (ap (is_live w) (eq_yes i s own), dead, l)))
      (λ other. ap (λ (o : Option Station). (at no_tid (unwrap_or o no_station).tids t).mode)
      (at_put_other None w.stations i s (Some x) (eq_no i s other)));
}

dead_after : (w : World) (i : ℕ) → is_live (with_station w i None) i ≡ false
unfolding with_station
dead_after w i = ap is_some (at_put_same None w.stations i None)

modes_elsewhere : (w : World) (i s t : ℕ) → i ≢ s →
    (tid_of (with_station w i None) s t).mode ≡ (tid_of w s t).mode
unfolding with_station
modes_elsewhere w i s t ne = ap (λ (o : Option Station). (at no_tid (unwrap_or o no_station).tids t).mode)
    (at_put_other None w.stations i s None ne)

-- A station leaves.
stays_leave : (note : Note) (w : World) (i : ℕ) → StaysModed note w (leave_outcome w i).world
unfolding leave_outcome
stays_leave note w i =
    let u : World = without_listings (after_tids_left w i (upto 8)) i all_classes in
    let h : SameModes w u = then_modes _ _ _ (modes_left_tids (upto 8) w i)
    (modes_off_lists all_classes _ i) in
    record {
      modes = λ s t l m n. on_bool (i == s)
          (λ own. absurd (cc (
            m,
            ap (is_live (with_station u i None)) (sym
                (eq_yes i s own)),
            dead_after u i,
          )))
          (λ other. modes_elsewhere u i s t (eq_no i s other) ∙ h.modes s t);
    }

-- The mode of one TID changes, and the call asks so.
stays_asked : (note : Note) (w : World) (i j : ℕ) (f : Tid → Tid) →
    ((s t : ℕ) → is_mode_of s t note ≡ false → (i == s) && (j == t) ≡ false) →
    StaysModed note w (on_tid w i j f)
stays_asked note w i j f asks = record {
  modes = λ s t _ _ n. each_tid_at (λ a b y. (i == a) && (j == b) ≡ false → y.mode ≡
      (tid_of w a b).mode) w i j f
      (λ a b _. refl)
      (λ h. absurd (cc (and_true (i == i) (j == j) (yes_eq i i refl) (yes_eq j j refl), h))) s t (asks s t n);
}

stays_held : (w : World) (s t : ℕ) → StaysModed (Asked (Hold s t)) w (hold_outcome w s t).world
unfolding hold_outcome with_mode
stays_held w s t = stays_asked (Asked (Hold s t)) w s t _ (λ a b n. n)

stays_freed : (w : World) (s t : ℕ) → StaysModed (Asked (Free s t)) w (free_outcome w s t).world
unfolding free_outcome with_mode
stays_freed w s t = stays_asked (Asked (Free s t)) w s t _ (λ a b n. n)

stays_begun : (w : World) (s t window : ℕ) →
    StaysModed (Asked (Begin s t window)) w (begin_outcome w s t window).world
stays_begun w s t window = subst (StaysModed (Asked (Begin s t window)) w) (sym (begun_is w s t window))
    (stays_asked (Asked (Begin s t window)) w s t _ (λ a b n. n))

modes_ended_numbers : (w : World) (s t : ℕ) → SameModes w (after_numbers_ended w s t)
unfolding after_numbers_ended
modes_ended_numbers w s t = then_modes w _ _ (modes_on_session w s t _) (modes_finish_all _ _ _)

stays_ceased : (w : World) (s t : ℕ) → StaysModed (Asked (Cease s t)) w (cease_outcome w s t).world
stays_ceased w s t =
    let e : World = after_numbers_ended w s t in
    subst (StaysModed (Asked (Cease s t)) w) (sym (ceased_is w s t)) (record {
      modes = λ a b _ _ n. each_tid_at (λ c d y. (s == c) && (t == d) ≡ false → y.mode ≡
          (tid_of w c d).mode) e s
          t _ (λ c d _. (modes_ended_numbers w s t).modes c d)
          (λ h. absurd (cc (and_true (s == s) (t == t) (yes_eq s s refl) (yes_eq t t refl), h))) a b n;
    })

stays_join : (note : Note) (w : World) (s window start exponent weight : ℕ) → is_live w s ≡ false →
    StaysModed note w (join_outcome w s window start exponent weight).world
unfolding join_outcome
stays_join note w s window start exponent weight dead = stays_joined note w s _ dead

stays_offload : (note : Note) (w : World) (s exponent weight : ℕ) → is_live w s ≡ false →
    StaysModed note w (offload_outcome w s exponent weight).world
unfolding offload_outcome
stays_offload note w s exponent weight dead = stays_joined note w s _ dead

stays_unagreed : (note : Note) (w : World) (s start exponent weight : ℕ) → is_live w s ≡ false →
    StaysModed note w (plain_outcome w s start exponent weight).world
unfolding plain_outcome
stays_unagreed note w s start exponent weight dead = stays_joined note w s _ dead

stays_done : (note : Note) (w : World) → NoRow (refusals w note) → StaysModed note w (outcome_of w note).world
unfolding outcome_of tick_outcome rate_outcome sleep_outcome wake_outcome poll_outcome rx_outcome
stays_done (Enqueue s t flow len) w r = stays_same _ w _ (modes_enqueued w s t flow len)
stays_done (Asked (Join s window start exponent weight)) w r =
    stays_join _ w s window start exponent weight r.1.1.1.1.1.0
stays_done (Asked (Leave s)) w r = stays_leave _ w s
stays_done (Asked (Rate s rate)) w r = stays_same _ w _ (modes_on_station w s _ (λ x. refl))
stays_done (Asked (Tick by)) w r = stays_same _ w _ (modes_plain w _ refl)
stays_done (Asked (Pull c l)) w r = stays_same _ w _ (modes_pulled w c l)
stays_done (Asked (Arrive e n)) w r =
    stays_same _ w _ (modes_open (exchange w e) w _ (λ x. modes_arrived w x n))
stays_done (Asked (Answer e)) w r = stays_same _ w _ (modes_open (exchange w e) w _ (modes_answered w))
stays_done (Asked (Done e heard air)) w r =
    stays_same _ w _ (modes_open (exchange w e) w _ (λ x. modes_ended air w x heard))
stays_done (Asked (Sleep s)) w r = stays_same _ w _ (modes_on_station w s _ (λ x. refl))
stays_done (Asked (Ampdu s octets)) w r = stays_same _ w _ (modes_on_station w s _ (λ x. refl))
stays_done (Asked (Stop s)) w r = stays_same _ w _ (modes_on_station w s _ (λ x. refl))
stays_done (Asked (Start s)) w r = stays_same _ w _ (modes_on_station w s _ (λ x. refl))
stays_done (Asked (Wake s)) w r = stays_same _ w _ (modes_on_station w s _ (λ x. refl))
stays_done (Asked (Poll s)) w r = stays_same _ w _ (modes_on_station w s _ (λ x. refl))
stays_done (Asked (Rx s c air)) w r = stays_same _ w _ (modes_on_share w s c _)
stays_done (Asked Reap) w r = stays_same _ w _ (modes_reaped w.finished w)
stays_done (Asked (Unsent e n)) w r =
    stays_same _ w _ (modes_open (exchange w e) w _ (λ x. modes_unsent w x n))
stays_done (Asked (GiveUp e n)) w r =
    stays_same _ w _ (modes_open (exchange w e) w _ (λ x. modes_given_up w x n))
stays_done (Asked (Flush s t)) w r = stays_same _ w _ (modes_flushed w s t)
stays_done (Asked (Offload s exponent weight)) w r = stays_offload _ w s exponent weight r.1.1.1.0
stays_done (Asked (Weight s weight)) w r = stays_same _ w _ (modes_weighed w s weight)
stays_done (Asked (call.Plain s start exponent weight)) w r =
    stays_unagreed _ w s start exponent weight r.1.1.1.1.0
stays_done (Asked (Hold s t)) w r = stays_held w s t
stays_done (Asked (Begin s t window)) w r = stays_begun w s t window
stays_done (Asked (Free s t)) w r = stays_freed w s t
stays_done (Asked (Cease s t)) w r = stays_ceased w s t
stays_done (Asked (Group ask)) w r = stays_same _ w _ (modes_plain w _ refl)
stays_done (Asked (Service ask)) w r =
    stays_same _ w _ (modes_on_station w (station_served ask) _ (λ x. refl))
stays_done (Asked (Bss s b)) w r = stays_same _ w _ (modes_on_station w s _ (λ x. refl))

modes_refused : (note : Note) (r : Refusal) (w : World) → SameModes w (after_refusal w note r)
unfolding after_refusal
modes_refused (Asked (Pull c l)) Idle w = after_idle (SameModes w) w c (modes_here w) (modes_after_pick w c)
modes_refused _ _ w = modes_here w

stays_answer : (r : Option Refusal) (w : World) (note : Note) → refusal w note ≡ r →
    StaysModed note w (judged_outcome w note r).world
unfolding judged_outcome
stays_answer (Some r) w note e = stays_same note w _ (modes_refused note r w)
stays_answer None w note e =
    let u : World = (outcome_of w note).world in
    let k : Same u (with_listings_of u (concerned_station w note)) = same_listed
    (concerned_station w note) u in
    record {
      modes = λ s t l m n. (modes_listed (concerned_station w note) u).modes s t
          ∙ (stays_done note w (no_row (refusals w note) e)).modes s t l (sym (k.live s) ∙ m) n;
    }

stays_step : (w : World) (note : Note) → StaysModed note w (step w note).world
unfolding step
stays_step w note = stays_answer (refusal w note) w note refl

-- A call that does not ask so keeps the mode of a TID as long as its station stays.
pub keeps_mode : (w : World) (note : Note) → KeepsMode w note
keeps_mode w note = (stays_step w note).modes
