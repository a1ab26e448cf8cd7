-- Proves that only the station that a call concerns can become ready, by cases of the call.
use Rattle.std.proofs.Common.{◌≡◌, refl, ap, sym, ◌∙◌, subst, arith, ℕ, zero, suc, ◌+◌, ◌%◌, ◌<◌, ◌≤◌, Bool, true, false, if◌then◌else◌, List, [], ◌∷◌, ◌++◌, Option, Some, None, is_some, unwrap_or, option_map, not, ◌&&◌, ◌||◌, length, map, filter, ◌==◌, inl, inr, ◌⊎◌}
use Rattle.std.specs.List.{list_any}
use Rattle.std.proofs.lemmas.Bool.{cases_Bool, cases_eq, ne_eqb, eqb-true, or_parts, not-false, leb-false, ltb-false}
use Rattle.std.proofs.lemmas.Nat.{mod_below}
use Rattle.std.proofs.lemmas.List.Folds.{list_any-append}
use Rattle.wf_frame.specs.declared.settings.Config.{Config}
use Rattle.wf_frame.specs.declared.classes.Class.{Class}
use Rattle.wf_frame.specs.declared.notes.Ask.TheVariants.{Join, Leave, Rate, Tick, Pull, Arrive, Answer, Done, Sleep, Wake, Poll, Rx, Reap, Ampdu, Stop, Start, Unsent, GiveUp, Flush, Offload, Weight, Plain, Hold, Begin, Free, Cease, Group, Service, Bss}
use Rattle.wf_frame.specs.declared.notes.Limits.{Limits}
use Rattle.wf_frame.specs.declared.notes.Note.{Note}
use Rattle.wf_frame.specs.declared.notes.Note.TheVariants.{Enqueue, Asked}
use Rattle.wf_frame.specs.Classes.{all_classes}
use Rattle.wf_def_lists.specs.Table.{at, put, change, upto, count_from, has}
use Rattle.wf_def_codel.specs.Codel.{Item, Dequeued}
use Rattle.wf_def_rotation.specs.Rotation.{Rotation, no_keys, has_key, in_order, with_new_key, Picked}
use Rattle.wf_def_agreement.specs.Session.{Session, End}
use Rattle.wf_def_agreement.specs.Receiver.{Receiver}
use Rattle.wf_def_world.specs.World.{World, Mode, Agreed, Station, Tid, Queue, Exchange, Mpdu, Content, Frames, Request, no_tid, no_station, new_queue, new_tid, tid_of, queue, is_live, live_stations, owed, exchange, with_station, on_station, on_tid, on_session, on_receiver, with_queues, on_queue, with_exchange, without_exchange, with_mode}
use Rattle.wf_def_world.specs.Service.{station_served}
use Rattle.wf_def_world.specs.FlowQueues.{without_head, after_limit, is_listed_elsewhere, goes_over, overflow_queue, queue_for, when_listed, with_listed_queue, with_appended, after_put_in, with_queues_paid, taken_by_codel, taken_from_picked, taken_for_tid, picked_queue, queue_need, has_frames, after_queue_left, after_queues_left, after_queue_flushed, after_queues_flushed}
use Rattle.wf_def_world.specs.CanSend.{is_request}
use Rattle.wf_def_world.specs.Exchanges.{Aggregate, Prepared, picked_station, with_station_paid, with_stations_paid, after_pick, after_tid_turn, with_number, with_fresh, aggregate_of, prepared_data, prepared_exchange, exchange_of, with_exchange_opened, after_charge, with_failed_finished, with_settled, with_all_settled, after_done, sending_tid, after_arrival, caught_up, caught_up_if_plain, with_spent}
use Rattle.wf_def_world.specs.Refusals.{refusals}
use Rattle.wf_def_world.specs.Step.{Outcome, join_outcome, after_tid_left, after_tids_left, without_listings, leave_outcome, after_tid_flushed, flush_outcome, rate_outcome, tick_outcome, with_frame, enqueue_outcome, send_outcome, pull_outcome_for, pull_outcome, arrive_outcome, answer_outcome, unsent_outcome, give_up_outcome, done_outcome, outcome_where_open, sleep_outcome, wake_outcome, poll_outcome, rx_outcome, reap_outcome, outcome_of, station_of, concerned_station, offload_outcome, weight_outcome, with_deficits_lowered, new_station, plain_window, plain_outcome, with_window, after_numbers_ended, hold_outcome, begin_outcome, free_outcome, cease_outcome}
use Rattle.wf_law_rules.proofs.Lemmas.Tables.{at_put_other}
use Rattle.wf_def_lists.specs.Lists.{on}
use Rattle.wf_def_lists.specs.Bounds.{greatest_window}
use Rattle.wf_law_rules.proofs.Lemmas.Counts.{on-nil, on-cons_same, on-cons_other, on-append, on-filter, hasnot-on}
use Rattle.wf_law_rules.proofs.Lemmas.Rotations.{pick_on}
use Rattle.wf_law_runs.proofs.Common.Limits.{with_limits}
use Rattle.wf_law_runs.proofs.Deficits.Books.{core, books}
use Rattle.wf_law_runs.proofs.Deficits.Openings.{Every, every_map, owed-core, owed-others_append, owed-others_filter}
use Rattle.wf_law_runs.proofs.Deficits.Kept.{IsKept, added-on}
use Rattle.wf_law_runs.proofs.Deficits.KeptStep.{NoRow, IsFound, only_this, replaced}
use Rattle.wf_law_runs.proofs.Deficits.Mild.{sends, Lists, Owned, IsMild, mild_here, mild_bounds, mild_then, mild_if, mild_on_tid, mild_on_station, mild_on_share, mild_with_station, mild_on_queue, mild_with_rotation, mild_finish, mild_finish_all}
use Rattle.wf_law_rules.proofs.Lemmas.Dequeues.{dequeue_less}

-- ---- sessions, receivers and lists of queues

mild_on_session : (w : World) (s t : ℕ) (f : Session → Session) → IsMild s w (on_session w s t f)
unfolding on_session
mild_on_session w s t f = mild_on_tid w s t _ (λ q k. inl k)

mild_on_receiver : (w : World) (s t : ℕ) (f : Receiver → Receiver) → IsMild s w (on_receiver w s t f)
unfolding on_receiver
mild_on_receiver w s t f = mild_on_tid w s t _ (λ q k. inl k)

-- Each key of the new lists is listed by the TID before, or is its own queue.
mild_with_queues : (w : World) (s t : ℕ) (r : Rotation) →
    ((q : ℕ) → 0 < on (in_order r) q → Lists w s t q ⊎ Owned w.config s t q) →
    IsMild s w (with_queues w s t r)
unfolding with_queues
mild_with_queues w s t r h = mild_on_tid w s t _ h

-- ---- flow queues

mild_head : (s : ℕ) (w : World) (q : ℕ) (items : List Item) → length items ≤ length (queue w q).items →
    IsMild s w (without_head w q items)
unfolding without_head
mild_head s w q [] h = mild_here s w
mild_head s w q (x ∷ rest) h = mild_then s w _ _
    (mild_on_queue s w q (λ y. record y { items = rest }) (omega arith)) (mild_finish s _ _ _)

mild_within_limit : (s : ℕ) (w : World) → IsMild s w (after_limit w)
unfolding after_limit
mild_within_limit s w = mild_if _ s w _ _ (mild_head s w _ _ (omega arith)) (mild_here s w)

mild_pay_queues : (qs : List ℕ) (s : ℕ) (w : World) (quanta : ℕ → ℕ) →
    IsMild s w (with_queues_paid w quanta qs)
unfolding with_queues_paid
mild_pay_queues [] s w quanta = mild_here s w
mild_pay_queues (q ∷ qs) s w quanta = mild_then s w _ _ (mild_on_queue s w q _ (omega arith))
    (mild_pay_queues qs s _ quanta)

mild_dequeued : (s : ℕ) (w : World) (q : ℕ) (d : Dequeued) → length d.rest ≤ length (queue w q).items →
    IsMild s w (taken_by_codel w q d).world
unfolding taken_by_codel
mild_dequeued s w q d h = mild_then s w _ _ (mild_on_queue s w q _ h) (mild_finish_all _ s _ _)

mild_taken_from : (o : Option ℕ) (s : ℕ) (w : World) (i : ℕ) → IsMild s w (taken_from_picked w i o).world
unfolding taken_from_picked
mild_taken_from None s w i = mild_here s w
mild_taken_from (Some q) s w i = mild_dequeued s w q _ (dequeue_less _ _ _ (queue w q).items)

-- Giving quanta to queues changes no list.
tids_pay_queues : (qs : List ℕ) (w : World) (quanta : ℕ → ℕ) →
    (with_queues_paid w quanta qs).stations ≡ w.stations
unfolding with_queues_paid on_queue
tids_pay_queues [] w quanta = refl
tids_pay_queues (q ∷ qs) w quanta = tids_pay_queues qs _ quanta

mild_take : (w : World) (s t : ℕ) → IsMild s w (taken_for_tid w s t).world
unfolding taken_for_tid
mild_take w s t =
    let p : Picked = picked_queue w s t in
    let paid : World = with_queues_paid w p.quanta (in_order (tid_of w s t).queues) in
    mild_then s w _ _ (mild_then s w paid _ (mild_pay_queues _ s w _)
    (mild_with_queues paid s t p.lists (λ q k. inl (listed q k)))) (mild_taken_from p.winner s _ s)
  where
    listed : (q : ℕ) → 0 < on (in_order (picked_queue w s t).lists) q →
        Lists (with_queues_paid w (picked_queue w s t).quanta (in_order (tid_of w s t).queues)) s t q
    listed q k =
        let was : 0 < on (in_order (tid_of w s t).queues) q =
        omega (arith, pick_on (queue_need w) (has_frames w) (tid_of w s t).queues q) in
        subst (λ (z : List (Option Station)). 0 < on (in_order
        (at no_tid (unwrap_or (at None z s) no_station).tids t).queues) q)
        (sym (tids_pay_queues (in_order (tid_of w s t).queues) w (picked_queue w s t).quanta)) was

mild_purge_queues : (qs : List ℕ) (s : ℕ) (w : World) → IsMild s w (after_queues_left w qs)
unfolding after_queues_left after_queue_left
mild_purge_queues [] s w = mild_here s w
mild_purge_queues (q ∷ qs) s w = mild_then s w _ _
    (mild_then s w _ _ (mild_on_queue s w q _ (omega arith)) (mild_finish_all _ s _ _))
    (mild_purge_queues qs s _)

mild_flush_queues : (qs : List ℕ) (s : ℕ) (w : World) → IsMild s w (after_queues_flushed w qs)
unfolding after_queues_flushed after_queue_flushed
mild_flush_queues [] s w = mild_here s w
mild_flush_queues (q ∷ qs) s w = mild_then s w _ _
    (mild_then s w _ _ (mild_on_queue s w q _ (omega arith)) (mild_finish_all _ s _ _))
    (mild_flush_queues qs s _)

-- No other station becomes ready if a TID catches up, or if its mode or window changes.
mild_caught_up : (w : World) (s t : ℕ) → IsMild s w (caught_up w s t)
unfolding caught_up
mild_caught_up w s t = mild_then s w _ _ (mild_on_session w s t _) (mild_on_receiver _ s t _)

mild_caught_up_if_plain : (w : World) (s t : ℕ) → IsMild s w (caught_up_if_plain w s t)
unfolding caught_up_if_plain
mild_caught_up_if_plain w s t = mild_if _ s w _ _ (mild_here s w) (mild_caught_up w s t)

mild_flushed : (w : World) (s t : ℕ) → IsMild s w (flush_outcome w s t).world
unfolding flush_outcome after_tid_flushed
mild_flushed w s t = mild_then s w _ _
    (mild_then s w _ _ (mild_then s w _ _ (mild_on_session w s t _) (mild_finish_all _ s _ _))
    (mild_flush_queues _ s _)) (mild_caught_up_if_plain _ s t)

-- ---- agreements that begin and end

mild_with_mode : (w : World) (s t : ℕ) (mode : Mode) → IsMild s w (with_mode w s t mode)
unfolding with_mode
mild_with_mode w s t mode = mild_on_tid w s t _ (λ q k. inl k)

mild_with_window : (w : World) (s t size : ℕ) → IsMild s w (with_window w s t size)
unfolding with_window
mild_with_window w s t size = mild_then s w _ _ (mild_on_session w s t _) (mild_on_receiver _ s t _)

-- So the calls of modes are mild.
mild_held : (w : World) (s t : ℕ) → IsMild s w (hold_outcome w s t).world
unfolding hold_outcome
mild_held w s t = mild_with_mode w s t _

mild_begun : (w : World) (s t window : ℕ) → IsMild s w (begin_outcome w s t window).world
unfolding begin_outcome
mild_begun w s t window = mild_then s w _ _
    (mild_then s w _ _ (mild_caught_up w s t) (mild_with_window _ s t window)) (mild_with_mode _ s t _)

mild_freed : (w : World) (s t : ℕ) → IsMild s w (free_outcome w s t).world
unfolding free_outcome
mild_freed w s t = mild_with_mode w s t _

mild_ceased : (w : World) (s t : ℕ) → IsMild s w (cease_outcome w s t).world
unfolding cease_outcome after_numbers_ended
mild_ceased w s t = mild_then s w _ _
    (mild_then s w _ _ (mild_then s w _ _ (mild_then s w _ _ (mild_on_session w s t _)
    (mild_finish_all _ s _ _)) (mild_caught_up _ s t)) (mild_with_window _ s t _)) (mild_with_mode _ s t _)

-- ---- pulls

mild_pay_stations : (ss : List ℕ) (s : ℕ) (w : World) (c : Class) (quanta : ℕ → ℕ) →
    IsMild s w (with_stations_paid w c quanta ss)
unfolding with_stations_paid with_station_paid
mild_pay_stations [] s w c quanta = mild_here s w
mild_pay_stations (i ∷ ss) s w c quanta = mild_then s w _ _ (mild_on_share s w i c _)
    (mild_pay_stations ss s _ c quanta)

pub mild_after_pick : (s : ℕ) (w : World) (c : Class) → IsMild s w (after_pick w c)
unfolding after_pick
mild_after_pick s w c = mild_then s w _ _ (mild_pay_stations _ s w c _) (mild_with_rotation s _ c _)

mild_after_turn : (s : ℕ) (w : World) (i : ℕ) (c : Class) (t : ℕ) → IsMild s w (after_tid_turn w i c t)
unfolding after_tid_turn
mild_after_turn s w i c t = mild_on_share s w i c _

mild_with_number : (o : Option Item) (w : World) (s t : ℕ) → IsMild s w (with_number w s t o)
unfolding with_number
mild_with_number None w s t = mild_here s w
mild_with_number (Some x) w s t = mild_on_session w s t _

filled_if : (b : Bool) (s : ℕ) (w : World) (x y : Aggregate) → IsMild s w x.world → IsMild s w y.world →
    IsMild s w (if b then x else y).world
filled_if true s w x y h k = h
filled_if false s w x y h k = k

mild_with_fresh : (n : ℕ) (w : World) (s t : ℕ) (mpdus : List Mpdu) →
    IsMild s w (with_fresh n w s t mpdus).world
unfolding with_fresh
mild_with_fresh zero w s t mpdus = mild_here s w
mild_with_fresh (suc n) w s t mpdus =
    let k = mild_then s w _ _ (mild_take w s t) (mild_with_number (taken_for_tid w s t).item
    (taken_for_tid w s t).world s t) in
    filled_if _ s w _ _ (mild_here s w) (filled_if _ s w _ _
    (mild_then s w _ _ k (mild_with_fresh n _ s t _)) k)

mild_filled : (w : World) (s t : ℕ) → IsMild s w (aggregate_of w s t).world
unfolding aggregate_of
mild_filled w s t = filled_if _ s w _ _ (mild_with_fresh _ w s t _) (mild_here s w)

prepared_if : (b : Bool) (s : ℕ) (w : World) (x y : Prepared) → IsMild s w x.world → IsMild s w y.world →
    IsMild s w (if b then x else y).world
prepared_if true s w x y h k = h
prepared_if false s w x y h k = k

mild_prepared : (w : World) (s t : ℕ) → IsMild s w (prepared_exchange w s t).world
unfolding prepared_exchange prepared_data
mild_prepared w s t = prepared_if _ s w _ _ (mild_here s w)
    (mild_then s w _ _ (mild_filled w s t) (mild_on_session _ s t _))

-- ---- open exchanges

abbrev asks : ℕ → ℕ → List Exchange → Bool
asks y t xs = list_any (λ x. (x.station == y) && ((x.tid == t) && is_request x.content)) xs

asks-core : (y t : ℕ) (xs : List Exchange) → asks y t (map core xs) ≡ asks y t xs
asks-core y t [] = refl
asks-core y t (x ∷ xs) = ap (λ (b : Bool). ((x.station == y) && ((x.tid == t) && is_request x.content)) || b)
    (asks-core y t xs)

or-false : (b : Bool) → b || false ≡ b
or-false true = refl
or-false false = refl

asks-append : (y t : ℕ) (xs : List Exchange) (x : Exchange) → (x.station ≡ y → ⊥) →
    asks y t (xs ++ x ∷ []) ≡ asks y t xs
asks-append y t xs x other =
    let none : (x.station == y) ≡ false = ne_eqb x.station y other in
    list_any-append (λ x. (x.station == y) && ((x.tid == t) && is_request x.content)) xs (x ∷ [])
    ∙ (ap (λ (b : Bool). asks y t xs || ((b && ((x.tid == t) && is_request x.content)) || false)) none
    ∙ or-false (asks y t xs))

asks-filter : (y t : ℕ) (p : Exchange → Bool) (xs : List Exchange) →
    Every (λ x. p x ≡ false → x.station ≡ y → ⊥) xs → asks y t (filter p xs) ≡ asks y t xs
asks-filter y t p [] h = refl
asks-filter y t p (x ∷ xs) h = elim (cases_Bool (p x)) [
  | inl ht ↦ rw ht (ap (λ (b : Bool). ((x.station == y) && ((x.tid == t) && is_request x.content)) || b)
      (asks-filter y t p xs h.1))
  | inr hf ↦
      let none : (x.station == y) ≡ false = ne_eqb x.station y (h.0 hf) in
      rw (hf, none) (asks-filter y t p xs h.1)
]

-- Only the open exchanges change.
mild_opened : (s : ℕ) (w : World) (xs : List Exchange) (n : ℕ) →
    ((y t : ℕ) → (y ≡ s → ⊥) → asks y t xs ≡ asks y t w.opened) →
    ((y : ℕ) (c : Class) → (y ≡ s → ⊥) → owed y c xs ≡ owed y c w.opened) →
    IsMild s w (record w { opened = xs; exchanges = n })
mild_opened s w xs n h k = record {
  config = refl;
  stations = λ y _. refl;
  requests = h;
  airtime = k;
  lengths =
      λ y t q _ _ _. omega arith;
  keys = λ y t q k. inl k;
  live = λ y k. inl k;
}

mild_opening : (w : World) (x : Exchange) → IsMild x.station w (with_exchange_opened w x)
unfolding with_exchange_opened
mild_opening w x = mild_opened x.station w (w.opened ++ x ∷ []) (w.exchanges + 1)
    (λ y t other. asks-append y t w.opened x (λ e. other (sym e)))
    (λ y c other. owed-others_append y c w.opened x (λ e. other (sym e)))

mild_without : (w : World) (e s : ℕ) → Every (λ y. y.number ≡ e → y.station ≡ s) w.opened →
    IsMild s w (without_exchange w e)
unfolding without_exchange
mild_without w e s h = mild_opened s w (filter (λ y. not (y.number == e)) w.opened) w.exchanges
    (λ y t other. asks-filter y t (λ y. not (y.number == e)) w.opened (only_of_s y other))
    (λ y c other. owed-others_filter y c (λ y. not (y.number == e)) w.opened (only_of_s y other))
  where
    only_of_s : (y : ℕ) → (y ≡ s → ⊥) →
        Every (λ z. not (z.number == e) ≡ false → z.station ≡ y → ⊥) w.opened
    only_of_s y other = every_map (λ z. z.number ≡ e → z.station ≡ s)
        (λ z. not (z.number == e) ≡ false → z.station ≡ y → ⊥)
        (λ z k not_it is. other (sym is ∙ k (eqb-true _ _ (not-false _ not_it)))) w.opened h

mild_exchange : (s : ℕ) (w : World) (x : Exchange) →
    Every (λ y. y.number ≡ x.number → core y ≡ core x) w.opened → IsMild s w (with_exchange w x)
unfolding with_exchange
mild_exchange s w x h = mild_opened s w (map (λ y. if y.number == x.number then x else y) w.opened)
    w.exchanges (λ y t _.
    sym (asks-core y t (map (λ y. if y.number == x.number then x else y) w.opened))
    ∙ (ap (asks y t) (replaced x w.opened h) ∙ asks-core y t w.opened))
    (λ y c _. sym (owed-core y c (map (λ y. if y.number == x.number then x else y) w.opened))
    ∙ (ap (owed y c) (replaced x w.opened h) ∙ owed-core y c w.opened))

mild_sent : (s t : ℕ) (c : Class) (p : Prepared) → IsMild s p.world (send_outcome s t c p).world
unfolding send_outcome with_spent
mild_sent s t c p = mild_then s p.world _ _ (mild_opening p.world (exchange_of s t c p))
    (mild_on_station _ s _ (λ x. refl))

pub mild_pulled_by : (o : Option ℕ) (s : ℕ) (v : World) (c : Class) → ((y : ℕ) → o ≡ Some y → y ≡ s) →
    IsMild s v (pull_outcome_for v c o).world
unfolding pull_outcome_for
mild_pulled_by None s v c h = mild_here s v
mild_pulled_by (Some i) s v c h =
    let t : ℕ = sending_tid v i c in
    subst (λ (z : ℕ). IsMild z v (send_outcome i t c (prepared_exchange (after_tid_turn v i c t) i t)).world)
    (h i refl)
    (mild_then i v _ _ (mild_then i v _ _ (mild_after_turn i v i c t) (mild_prepared _ i t))
    (mild_sent i t c _))

mild_pulled : (s : ℕ) (w : World) (c : Class) (l : Limits) →
    ((y : ℕ) → (picked_station w c).winner ≡ Some y → y ≡ s) → IsMild s w (pull_outcome w c l).world
unfolding pull_outcome
mild_pulled s w c l h = mild_then s w _ _ (mild_then s w _ _ (mild_after_pick s w c) (mild_bounds s _ _))
    (mild_pulled_by (picked_station w c).winner s (with_limits w c l) c h)

same_opened : (w : World) (x : Exchange) (j : ℕ) →
    Every (λ y. y.number ≡ x.number → core y ≡ core x) w.opened →
    Every (λ y. y.number ≡ x.number → core y ≡ core x)
    (on_receiver w x.station x.tid (after_arrival x.content j)).opened
unfolding on_receiver on_tid on_station with_station
same_opened w x j h = h

mild_arrived : (w : World) (e j : ℕ) (x : Exchange) → IsKept (books w) → IsFound w e x →
    IsMild x.station w (arrive_outcome w x j).world
unfolding arrive_outcome
mild_arrived w e j x i found = mild_then x.station w _ _
    (mild_on_receiver w x.station x.tid (after_arrival x.content j))
    (mild_exchange x.station _ _ (same_opened w x j (only_this w e x i found)))

mild_answered : (w : World) (e : ℕ) (x : Exchange) → IsKept (books w) → IsFound w e x →
    IsMild x.station w (answer_outcome w x).world
unfolding answer_outcome
mild_answered w e x i found = mild_exchange x.station w _ (only_this w e x i found)

mild_unsent : (w : World) (e j : ℕ) (x : Exchange) → IsKept (books w) → IsFound w e x →
    IsMild x.station w (unsent_outcome w x j).world
unfolding unsent_outcome
mild_unsent w e j x i found = mild_exchange x.station w _ (only_this w e x i found)

mild_given_up : (w : World) (e j : ℕ) (x : Exchange) → IsKept (books w) → IsFound w e x →
    IsMild x.station w (give_up_outcome w x j).world
unfolding give_up_outcome
mild_given_up w e j x i found = mild_exchange x.station w _ (only_this w e x i found)

mild_failed : (w : World) (s t : ℕ) (m : Mpdu) → IsMild s w (with_failed_finished w s t m)
unfolding with_failed_finished
mild_failed w s t m = mild_if _ s w _ _ (mild_finish s w _ _) (mild_here s w)

mild_settled : (end : End) (w : World) (s t : ℕ) (m : Mpdu) → IsMild s w (with_settled w s t end m)
unfolding with_settled
mild_settled End.Acknowledged w s t m = mild_then s w _ _ (mild_on_session w s t _) (mild_finish s _ _ _)
mild_settled End.Missed w s t m = mild_then s w _ _ (mild_on_session w s t _) (mild_failed _ s t m)
mild_settled End.GivenUp w s t m = mild_then s w _ _ (mild_on_session w s t _) (mild_failed _ s t m)
mild_settled End.Unsent w s t m = mild_then s w _ _ (mild_on_session w s t _) (mild_failed _ s t m)

mild_all_settled : (ms : List Mpdu) (w : World) (s t : ℕ) (ends : ℕ → End) →
    IsMild s w (with_all_settled w s t ends ms)
unfolding with_all_settled
mild_all_settled [] w s t ends = mild_here s w
mild_all_settled (m ∷ ms) w s t ends = mild_then s w _ _ (mild_settled (ends m.number) w s t m)
    (mild_all_settled ms _ s t ends)

mild_after_done : (content : Content) (w : World) (x : Exchange) (heard : Bool) →
    IsMild x.station w (after_done w x heard content)
unfolding after_done
mild_after_done (Frames mpdus) w x heard = mild_then x.station w _ _ (mild_all_settled mpdus w _ _ _)
    (mild_caught_up_if_plain _ _ _)
mild_after_done (Request start) w x heard = mild_on_session w _ _ _

mild_charged : (air : Option ℕ) (s : ℕ) (w : World) (x : Exchange) → IsMild s w (after_charge w x air)
unfolding after_charge
mild_charged air s w x = mild_on_share s w _ _ _

mild_ended : (air : Option ℕ) (w : World) (e : ℕ) (x : Exchange) (heard : Bool) → IsKept (books w) →
    IsFound w e x →
    IsMild x.station w (done_outcome w x heard air).world
unfolding done_outcome
mild_ended air w e x heard i found =
    mild_then x.station w _ _ (mild_then x.station w _ _
    (mild_without w x.number x.station (every_map (λ y. y.number ≡ x.number → core y ≡ core x)
    (λ y. y.number ≡ x.number → y.station ≡ x.station)
    (λ y h k. ap (λ (z : Exchange). z.station) (h k)) w.opened (only_this w e x i found)))
    (mild_charged air x.station _ x)) (mild_after_done x.content _ x heard)

-- ---- stations

mild_left_tids : (ts : List ℕ) (w : World) (s : ℕ) → IsMild s w (after_tids_left w s ts)
unfolding after_tids_left after_tid_left
mild_left_tids [] w s = mild_here s w
mild_left_tids (t ∷ ts) w s =
    mild_then s w _ _ (mild_then s w _ _ (mild_then s w _ _ (mild_finish_all _ s w _)
    (mild_purge_queues _ s _)) (mild_with_queues _ s t no_keys
    (λ q k. absurd (let none : on [] q ≡ 0 = on-nil q in omega arith)))) (mild_left_tids ts _ s)

mild_off_lists : (cs : List Class) (w : World) (s : ℕ) → IsMild s w (without_listings w s cs)
unfolding without_listings
mild_off_lists [] w s = mild_here s w
mild_off_lists (c ∷ cs) w s = mild_then s w _ _ (mild_with_rotation s w c _) (mild_off_lists cs _ s)

mild_gone : (w : World) (s : ℕ) → IsMild s w (leave_outcome w s).world
unfolding leave_outcome
mild_gone w s = mild_then s w _ _ (mild_then s w _ _ (mild_left_tids (upto 8) w s) (mild_off_lists _ _ s))
    (mild_with_station _ s None (λ j q k. absurd (let none : on [] q ≡ 0 = on-nil q in omega arith))
    (λ e. absurd (cc e)))

eight : (y : Tid) (j q : ℕ) → on (in_order y.queues) q ≡ 0 →
    on (in_order (at no_tid (y ∷ y ∷ y ∷ y ∷ y ∷ y ∷ y ∷ y ∷ []) j).queues) q ≡ 0
eight y zero q h = h
eight y (suc zero) q h = h
eight y (suc (suc zero)) q h = h
eight y (suc (suc (suc zero))) q h = h
eight y (suc (suc (suc (suc zero)))) q h = h
eight y (suc (suc (suc (suc (suc zero))))) q h = h
eight y (suc (suc (suc (suc (suc (suc zero)))))) q h = h
eight y (suc (suc (suc (suc (suc (suc (suc zero))))))) q h = h
eight y (suc (suc (suc (suc (suc (suc (suc (suc j)))))))) q h = on-nil q

mild_new_station : (w : World) (s : ℕ) (mode : Mode) (window start exponent weight : ℕ) (offloaded : Bool) →
    s < w.config.stations → IsMild s w (with_station w s
    (Some (new_station w.config mode window start exponent weight offloaded)))
mild_new_station w s mode window start exponent weight offloaded h =
    mild_with_station w s _ (λ j q k. absurd (let none = eight (new_tid mode start window) j q (on-nil q) in
    omega arith)) (λ _. h)

mild_joined : (w : World) (s window start exponent weight : ℕ) → s < w.config.stations →
    IsMild s w (join_outcome w s window start exponent weight).world
unfolding join_outcome
mild_joined w s window start exponent weight h =
    mild_new_station w s Agreed window start exponent weight false h

mild_offloaded : (w : World) (s exponent weight : ℕ) → s < w.config.stations →
    IsMild s w (offload_outcome w s exponent weight).world
unfolding offload_outcome
mild_offloaded w s exponent weight h =
    mild_new_station w s Mode.Plain greatest_window 0 exponent weight true h

mild_joined_plain : (w : World) (s start exponent weight : ℕ) → s < w.config.stations →
    IsMild s w (plain_outcome w s start exponent weight).world
unfolding plain_outcome
mild_joined_plain w s start exponent weight h =
    mild_new_station w s Mode.Plain plain_window start exponent weight false h

mild_lowered : (cs : List Class) (s : ℕ) (w : World) (i : ℕ) → IsMild s w (with_deficits_lowered w i cs)
unfolding with_deficits_lowered
mild_lowered [] s w i = mild_here s w
mild_lowered (c ∷ cs) s w i = mild_then s w _ _ (mild_on_share s w i c _) (mild_lowered cs s _ i)

mild_weighed : (w : World) (s weight : ℕ) → IsMild s w (weight_outcome w s weight).world
unfolding weight_outcome
mild_weighed w s weight = mild_then s w _ _ (mild_on_station w s _ (λ x. refl))
    (mild_lowered all_classes s _ s)

-- ---- frames

pub record IsOwning (w : World) : Type 0 where
  pub flows : 0 < w.config.flows
  pub range : (s : ℕ) → is_live w s ≡ true → s < w.config.stations
  pub owned : (s t q : ℕ) → Lists w s t q → Owned w.config s t q

pub owning_mild : (s : ℕ) (w v : World) → IsMild s w v → IsOwning w → IsOwning v
owning_mild s w v m i = record {
  flows = subst (λ (config : Config). 0 < config.flows) (sym m.config) i.flows;
  range = λ y is. subst (λ (config : Config). y < config.stations) (sym m.config)
      (elim (m.live y is) [ inl l ↦ i.range y l | inr b ↦ b ]);
  owned = λ y t q k. subst (λ (config : Config). Owned config y t q) (sym m.config)
      (elim (m.keys y t q k) [ inl l ↦ i.owned y t q l | inr o ↦ o ]);
}

any_false : (p : ℕ → Bool) (xs : List ℕ) (y : ℕ) → list_any p xs ≡ false → 0 < on xs y → p y ≡ false
any_false p [] y h k = absurd (let none : on [] y ≡ 0 = on-nil y in omega arith)
any_false p (x ∷ xs) y h k =
    let both : (p x ≡ false) × (list_any p xs ≡ false) = or_parts _ _ h in
    elim (cases_eq x y) [
      | inl e ↦ sym (ap p e) ∙ both.0
      | inr other ↦ any_false p xs y both.1 (omega (arith, on-cons_other x y xs other))
    ]

on_count : (n from y : ℕ) → from ≤ y → y < from + n → 0 < on (count_from from n) y
on_count zero from y h k = absurd (omega arith)
on_count (suc n) from y h k = elim (cases_eq from y) [
  | inl e ↦ subst (λ (z : ℕ). 0 < on (from ∷ count_from (suc from) n) z) e
      (omega (arith, on-cons_same from (count_from (suc from) n)))
  | inr other ↦ omega (
    arith,
    on-cons_other from y (count_from (suc from) n) other,
    on_count n (suc from) y (omega arith) (omega arith),
  )
]

pub on_upto : (n y : ℕ) → y < n → 0 < on (upto n) y
on_upto n y h = on_count n 0 y (omega arith) (omega arith)

pub lists-on : (r : Rotation) (y : ℕ) → 0 < on (in_order r) y → has_key r y ≡ true
lists-on r y h = go (has r.new y) (has r.old y) refl refl
  where
    go : (a b : Bool) → has r.new y ≡ a → has r.old y ≡ b → a || b ≡ true
    go true b e f = refl
    go false true e f = refl
    go false false e f = absurd (omega (
      arith,
      on-append r.old r.new y,
      hasnot-on r.new y e,
      hasnot-on r.old y f,
      h,
    ))

listing_live : (w : World) (y t q : ℕ) → Lists w y t q → is_live w y ≡ true
listing_live w y t q h = go (at None w.stations y) h
  where
    go : (o : Option Station) → 0 < on (in_order (at no_tid (unwrap_or o no_station).tids t).queues) q →
        is_some o ≡ true
    go None k = absurd (let none : on [] q ≡ 0 = on-nil q in omega arith)
    go (Some x) k = refl

-- No other station's TID lists the queue for a frame.
no_clash : (w : World) (s t flow y j : ℕ) → IsOwning w → t < 8 → (y ≡ s → ⊥) → j < 8 →
    Lists w y j (queue_for w s t flow) → ⊥
no_clash w s t flow y j i below other low h = go (goes_over w s t (flow % w.config.flows)) refl h
  where
    go : (b : Bool) → goes_over w s t (flow % w.config.flows) ≡ b →
        Lists w y j (if b then overflow_queue w s t else flow % w.config.flows) → ⊥
    go true e k = elim (i.owned y j (overflow_queue w s t) k) [
      | inl l ↦ absurd (omega arith)
      | inr same ↦ other (omega arith)
    ]
    go false e k =
        let live : is_live w y ≡ true = listing_live w y j (flow % w.config.flows) k in
        let here : 0 < on (live_stations w) y = omega (
          arith,
          on-filter (is_live w) (upto w.config.stations) y live,
          on_upto w.config.stations y (i.range y live),
        ) in
        let none : list_any (λ l. not ((y == s) && (l == t))
        && has_key (tid_of w y l).queues (flow % w.config.flows)) (upto 8) ≡ false =
        any_false (λ x. list_any (λ l. not ((x == s) && (l == t))
        && has_key (tid_of w x l).queues (flow % w.config.flows)) (upto 8)) (live_stations w) y
        (or_parts (is_listed_elsewhere w s t (flow % w.config.flows)) _ e).0 here in
        let not_here : (not ((y == s) && (j == t)) && has_key (tid_of w y j).queues (flow % w.config.flows))
        ≡ false =
        any_false (λ l. not ((y == s) && (l == t)) && has_key (tid_of w y l).queues (flow % w.config.flows))
        (upto 8) j none (on_upto 8 j low) in
        let listed : has_key (tid_of w y j).queues (flow % w.config.flows) ≡ true =
        lists-on (tid_of w y j).queues (flow % w.config.flows) k in
        let differs : (y == s) ≡ false = ne_eqb y s other in
        absurd (cc (rw (differs, listed) at not_here))

owned_for : (w : World) (s t flow : ℕ) → IsOwning w → Owned w.config s t (queue_for w s t flow)
owned_for w s t flow i = go (goes_over w s t (flow % w.config.flows))
  where
    go : (b : Bool) → Owned w.config s t (if b then overflow_queue w s t else flow % w.config.flows)
    go true = inr refl
    go false = inl (mod_below flow w.config.flows i.flows)

mild_appended : (w : World) (s q : ℕ) (x : Item) → ((y j : ℕ) → (y ≡ s → ⊥) → j < 8 → Lists w y j q → ⊥) →
    IsMild s w (with_appended w q x)
unfolding with_appended on_queue
mild_appended w s q x h = record {
  config = refl;
  stations = λ y _. refl;
  requests = λ y t _. refl;
  airtime = λ y c _. refl;
  lengths = λ y j p other below k. elim (cases_eq p q) [
    | inl e ↦ absurd (h y j other below (subst (λ (z : ℕ). Lists w y j z) e k))
    | inr differs ↦
        let same : at new_queue (put new_queue w.queues q
        (record (queue w q) { items = (queue w q).items ++ x ∷ [] })) p ≡ queue w p =
        at_put_other new_queue w.queues q p _ (λ e. differs (sym e)) in
        rw same (omega arith)
  ];
  keys = λ y t p k. inl k;
  live = λ y k. inl k;
}

mild_added : (w : World) (s t q : ℕ) (f : Queue → Queue) → Owned w.config s t q →
    IsMild s (on_queue w q f) (with_queues (on_queue w q f) s t (with_new_key (tid_of w s t).queues q))
unfolding on_queue
mild_added w s t q f o = mild_with_queues (record w { queues = change new_queue w.queues q f }) s t
    (with_new_key (tid_of w s t).queues q) (λ p k. elim (cases_eq q p) [
      | inl e ↦ inr (subst (λ (z : ℕ). Owned w.config s t z) e o)
      | inr other ↦ inl (omega (
        arith,
        added-on (tid_of w s t).queues q p,
        on-cons_other q p [] other,
        on-nil p,
      ))
    ])

mild_listed_queue : (w : World) (s t q : ℕ) → Owned w.config s t q → IsMild s w (with_listed_queue w s t q)
unfolding with_listed_queue
mild_listed_queue w s t q o =
    mild_if (has_key (tid_of w s t).queues q) s w _ _ (mild_here s w)
    (mild_then s w _ _ (mild_on_queue s w q (when_listed w.config)
    (omega arith)) (mild_added w s t q _ o))

mild_put_in : (w : World) (s t flow : ℕ) (x : Item) → IsOwning w → t < 8 →
    IsMild s w (after_put_in w s t (queue_for w s t flow) x)
unfolding after_put_in with_appended on_queue
mild_put_in w s t flow x i below =
    mild_then s w _ _ (mild_appended w s (queue_for w s t flow) x
    (λ y j other low k. no_clash w s t flow y j i below other low k))
    (mild_listed_queue (with_appended w (queue_for w s t flow) x) s t (queue_for w s t flow)
    (owned_for w s t flow i))

mild_frame : (s : ℕ) (w : World) (note : Note) → IsMild s w (with_frame w note)
unfolding with_frame
mild_frame s w note = record {
  config = refl;
  stations = λ y _. refl;
  requests = λ y t _. refl;
  airtime = λ y c _. refl;
  lengths =
      λ y t q _ _ _. omega arith;
  keys = λ y t q k. inl k;
  live = λ y k. inl k;
}

mild_enqueued : (w : World) (s t flow len : ℕ) → IsOwning w → t < 8 →
    IsMild s w (enqueue_outcome w s t flow len).world
unfolding enqueue_outcome
mild_enqueued w s t flow len i below =
    let m : IsMild s w (after_limit w) = mild_within_limit s w in
    mild_then s w _ _ (mild_then s w _ _ m (mild_put_in (after_limit w) s t flow _
    (owning_mild s w (after_limit w) m i) below)) (mild_frame s _ _)

-- ---- the calls

mild_open : (o : Option Exchange) (w : World) (e s : ℕ) (f : Exchange → Outcome) → exchange w e ≡ o →
    ((y : ℕ) → station_of o ≡ Some y → y ≡ s) →
    ((x : Exchange) → IsFound w e x → IsMild x.station w (f x).world) →
    IsMild s w (outcome_where_open w o f).world
unfolding outcome_where_open
mild_open None w e s f k h m = mild_here s w
mild_open (Some x) w e s f k h m = subst (λ (z : ℕ). IsMild z w (f x).world) (h x.station refl) (m x k)

mild_plain : (s : ℕ) (w v : World) → v.config ≡ w.config → v.stations ≡ w.stations → v.opened ≡ w.opened →
    v.queues ≡ w.queues → IsMild s w v
mild_plain s w v a b c d = record {
  config = a;
  stations = λ y _. ap (λ (z : List (Option Station)). option_map sends (at None z y)) b;
  requests = λ y t _. ap (asks y t) c;
  airtime = λ y k _. ap (owed y k) c;
  lengths = λ y t q _ _ _. subst (λ (z : List Queue). length (at new_queue z q).items
      ≤ length (queue w q).items) (sym d) (omega arith);
  keys = λ y t q k. inl (subst (λ (z : List (Option Station)). 0
      < on (in_order (at no_tid (unwrap_or (at None z y) no_station).tids t).queues) q) b k);
  live = λ y k. inl (subst (λ (z : List (Option Station)). is_some (at None z y) ≡ true) b k);
}

mild_reaped : (ids : List ℕ) (s : ℕ) (w : World) → IsMild s w (reap_outcome w ids).world
unfolding reap_outcome
mild_reaped [] s w = mild_here s w
mild_reaped (id ∷ ids) s w = mild_plain s w _ refl refl refl refl

-- World v follows from w by a change that is mild for the station of the call.
named : (i s : ℕ) (w v : World) → ((y : ℕ) → Some i ≡ Some y → y ≡ s) → IsMild i w v → IsMild s w v
named i s w v h m = subst (λ (z : ℕ). IsMild z w v) (h i refl) m

pub mild_done : (note : Note) (w : World) (s : ℕ) → NoRow (refusals w note) → IsKept (books w) → IsOwning w →
    ((y : ℕ) → concerned_station w note ≡ Some y → y ≡ s) → IsMild s w (outcome_of w note).world
unfolding outcome_of tick_outcome rate_outcome sleep_outcome wake_outcome poll_outcome rx_outcome
mild_done (Enqueue i t flow len) w s r k o h =
    named i s w _ h (mild_enqueued w i t flow len o (omega (arith, ltb-false 7 t r.1.0)))
mild_done (Asked (Join i window start exponent weight)) w s r k o h =
    named i s w _ h (mild_joined w i window start exponent weight (leb-false _ _ r.0))
mild_done (Asked (Offload i exponent weight)) w s r k o h =
    named i s w _ h (mild_offloaded w i exponent weight (leb-false _ _ r.0))
mild_done (Asked (Plain i start exponent weight)) w s r k o h =
    named i s w _ h (mild_joined_plain w i start exponent weight (leb-false _ _ r.0))
mild_done (Asked (Weight i weight)) w s r k o h = named i s w _ h (mild_weighed w i weight)
mild_done (Asked (Leave i)) w s r k o h = named i s w _ h (mild_gone w i)
mild_done (Asked (Rate i rate)) w s r k o h = named i s w _ h (mild_on_station w i _ (λ x. refl))
mild_done (Asked (Tick by)) w s r k o h = mild_plain s w _ refl refl refl refl
mild_done (Asked (Pull c l)) w s r k o h = mild_pulled s w c l h
mild_done (Asked (Arrive e j)) w s r k o h = mild_open (exchange w e) w e s _ refl h
    (λ x f. mild_arrived w e j x k f)
mild_done (Asked (Unsent e j)) w s r k o h = mild_open (exchange w e) w e s _ refl h
    (λ x f. mild_unsent w e j x k f)
mild_done (Asked (GiveUp e j)) w s r k o h = mild_open (exchange w e) w e s _ refl h
    (λ x f. mild_given_up w e j x k f)
mild_done (Asked (Answer e)) w s r k o h = mild_open (exchange w e) w e s _ refl h
    (λ x f. mild_answered w e x k f)
mild_done (Asked (Done e heard air)) w s r k o h =
    mild_open (exchange w e) w e s _ refl h (λ x f. mild_ended air w e x heard k f)
mild_done (Asked (Sleep i)) w s r k o h = named i s w _ h (mild_on_station w i _ (λ x. refl))
mild_done (Asked (Ampdu i octets)) w s r k o h = named i s w _ h (mild_on_station w i _ (λ x. refl))
mild_done (Asked (Stop i)) w s r k o h = named i s w _ h (mild_on_station w i _ (λ x. refl))
mild_done (Asked (Start i)) w s r k o h = named i s w _ h (mild_on_station w i _ (λ x. refl))
mild_done (Asked (Flush i t)) w s r k o h = named i s w _ h (mild_flushed w i t)
mild_done (Asked (Hold i t)) w s r k o h = named i s w _ h (mild_held w i t)
mild_done (Asked (Begin i t window)) w s r k o h = named i s w _ h (mild_begun w i t window)
mild_done (Asked (Free i t)) w s r k o h = named i s w _ h (mild_freed w i t)
mild_done (Asked (Cease i t)) w s r k o h = named i s w _ h (mild_ceased w i t)
mild_done (Asked (Wake i)) w s r k o h = named i s w _ h (mild_on_station w i _ (λ x. refl))
mild_done (Asked (Poll i)) w s r k o h = named i s w _ h (mild_on_station w i _ (λ x. refl))
mild_done (Asked (Rx i c air)) w s r k o h = mild_on_share s w i c _
mild_done (Asked Reap) w s r k o h = mild_reaped w.finished s w
mild_done (Asked (Group ask)) w s r k o h = mild_plain s w _ refl refl refl refl
mild_done (Asked (Service ask)) w s r k o h =
    named (station_served ask) s w _ h (mild_on_station w (station_served ask) _ (λ x. refl))
mild_done (Asked (Bss i b)) w s r k o h = named i s w _ h (mild_on_station w i _ (λ x. refl))
