-- Proves that a station's deficit is its base and its quanta, less its charges, in every world of a run. By
-- induction on the run and cases of the call.
use Rattle.std.proofs.Common.{◌≡◌, refl, ap, sym, subst, arith, ℕ, zero, suc, ◌+◌, ◌*◌, ◌<◌, ℤ, pos, ◌+ℤ◌, ◌-ℤ◌, Bool, true, false, if◌then◌else◌, List, [], ◌∷◌, Option, Some, None, IfSome, unwrap_or, option_map}
use Rattle.std.proofs.lemmas.Int.{ints}
use Rattle.wf_frame.specs.declared.settings.Config.{Config}
use Rattle.wf_frame.specs.declared.classes.Class.{Class}
use Rattle.wf_frame.specs.declared.classes.Class.TheVariants.{Bk, Be, Vi, Vo}
use Rattle.wf_frame.specs.declared.classes.Fate.{Fate}
use Rattle.wf_frame.specs.declared.notes.Ask.TheVariants.{Join, Leave, Rate, Tick, Pull, Arrive, Answer, Done, Sleep, Wake, Poll, Rx, Reap, Ampdu, Stop, Start, Unsent, GiveUp, Flush, Offload, Weight, Plain, Hold, Begin, Free, Cease, Group, Service, Bss}
use Rattle.wf_frame.specs.declared.notes.Limits.{Limits}
use Rattle.wf_frame.specs.declared.notes.Note.{Note}
use Rattle.wf_frame.specs.declared.notes.Note.TheVariants.{Enqueue, Asked}
use Rattle.wf_frame.specs.declared.notes.Refusal.{Refusal}
use Rattle.wf_frame.specs.declared.notes.Refusal.TheVariants.{Idle}
use Rattle.wf_def_lists.specs.Table.{at}
use Rattle.wf_def_lists.specs.Bounds.{greatest_window}
use Rattle.wf_def_codel.specs.Codel.{Item}
use Rattle.wf_def_rotation.specs.Rotation.{Rotation}
use Rattle.wf_def_agreement.specs.Session.{Session, End}
use Rattle.wf_def_agreement.specs.Receiver.{Receiver}
use Rattle.wf_def_world.specs.World.{World, Mode, Agreed, Station, Share, Tid, Queue, Exchange, Mpdu, Content, Frames, Request, new_share, no_share, no_station, quantum, with_station, on_station, on_tid, on_session, on_receiver, with_queues, on_share, on_queue, with_rotation, with_fate, with_frame_finished, with_frames_finished, with_exchange, without_exchange, with_mode, opening}
use Rattle.wf_def_world.specs.Service.{station_served}
use Rattle.wf_frame.specs.Classes.{class_number}
use Rattle.wf_def_world.specs.FlowQueues.{without_head, after_limit, with_listed_queue, with_appended, after_put_in, with_queues_paid, taken_by_codel, taken_from_picked, taken_for_tid, after_queue_left, after_queues_left, after_queue_flushed, after_queues_flushed}
use Rattle.wf_def_world.specs.CanSend.{with_listing_in, with_listings_in, with_listings_of}
use Rattle.wf_def_world.specs.Exchanges.{Aggregate, Prepared, with_station_paid, with_stations_paid, after_pick, after_tid_turn, with_fresh, aggregate_of, with_number, prepared_data, prepared_exchange, with_exchange_opened, after_charge, with_failed_finished, with_settled, with_all_settled, after_done, charge_of, caught_up, caught_up_if_plain, with_spent}
use Rattle.wf_def_world.specs.Step.{Outcome, join_outcome, after_tid_left, after_tids_left, without_listings, leave_outcome, after_tid_flushed, flush_outcome, rate_outcome, tick_outcome, with_frame, enqueue_outcome, send_outcome, pull_outcome_for, pull_outcome, arrive_outcome, answer_outcome, unsent_outcome, give_up_outcome, done_outcome, outcome_where_open, sleep_outcome, wake_outcome, poll_outcome, rx_outcome, reap_outcome, outcome_of, after_refusal, judged_outcome, step, offload_outcome, weight_outcome, new_station, plain_window, plain_outcome, with_window, after_numbers_ended, hold_outcome, begin_outcome, free_outcome, cease_outcome}
use Rattle.wf_def_world.specs.Run.{Entry, world_after}
use Rattle.wf_law_runs.proofs.Common.Refused.{after_idle}
use Rattle.wf_law_runs.proofs.Deficits.Balance.{IsBalanced, IsFairStation, IsFair}
use Rattle.wf_law_runs.proofs.Deficits.Books.{Account, account, Books, books, each_upd}
use Rattle.wf_law_runs.proofs.Deficits.BookSteps.{reweighed, with_weight, books_weighed}
use Rattle.wf_law_rules.proofs.Lemmas.Tables.{each_put}

-- ---- arithmetic

new_balanced : (q : ℕ) → IsBalanced q false (new_share q)
new_balanced q = record { deficit = omega (arith, ints); own = λ _. refl }

paid_number : (q n k m : ℕ) (b d : ℤ) → d ≡ b +ℤ pos (q * n) -ℤ pos m →
    d +ℤ pos (k * q) ≡ b +ℤ pos (q * (n + k)) -ℤ pos m
paid_number q n k m b d e = omega (arith, ints)

charged_number : (m r n : ℕ) (a d : ℤ) → d ≡ a -ℤ pos (m + r) → d -ℤ pos n ≡ a -ℤ pos (m + n + r)
charged_number m r n a d e = omega (arith, ints)

received_number : (m r n : ℕ) (a d : ℤ) → d ≡ a -ℤ pos (m + r) → d -ℤ pos n ≡ a -ℤ pos (m + (r + n))
received_number m r n a d e = omega (arith, ints)

-- ---- one station changes

pub below_four : (c : Class) → class_number c < 4
below_four Bk = omega arith
below_four Be = omega arith
below_four Vi = omega arith
below_four Vo = omega arith

changed_station : (q : ℕ) (f : Station → Station) (o p : Option Station) → o ≡ p →
    IfSome p (IsFairStation q) → ((x : Station) → o ≡ Some x → IsFairStation q x → IsFairStation q (f x)) →
    IfSome (option_map f p) (IsFairStation q)
changed_station q f o None e h k = tt
changed_station q f o (Some x) e h k = k x e h

fair_with_station : (w : World) (s : ℕ) (o : Option Station) → IsFair w →
    IfSome o (IsFairStation w.config.quantum) → IsFair (with_station w s o)
unfolding with_station
fair_with_station w s o h k = record {
  each =
      each_put (λ _ o. IfSome o (IsFairStation w.config.quantum)) None w.stations s o h.each k;
}

fair_on_known : (w : World) (s : ℕ) (f : Station → Station) → IsFair w →
    ((x : Station) → at None w.stations s ≡ Some x → IsFairStation w.config.quantum x →
    IsFairStation w.config.quantum (f x)) → IsFair (on_station w s f)
unfolding on_station
fair_on_known w s f h k = fair_with_station w s _ h
    (changed_station w.config.quantum f (at None w.stations s) (at None w.stations s) refl (h.each s) k)

fair_on_station : (w : World) (s : ℕ) (f : Station → Station) → IsFair w →
    ((q : ℕ) (x : Station) → IsFairStation q x → IsFairStation q (f x)) → IsFair (on_station w s f)
fair_on_station w s f h k = fair_on_known w s f h (λ x e. k _ x)

fair_on_tid : (w : World) (s t : ℕ) (f : Tid → Tid) → IsFair w → IsFair (on_tid w s t f)
unfolding on_tid
fair_on_tid w s t f h = fair_on_station w s _ h (λ q x k. k)

fair_on_session : (w : World) (s t : ℕ) (f : Session → Session) → IsFair w → IsFair (on_session w s t f)
unfolding on_session
fair_on_session w s t f h = fair_on_tid w s t _ h

fair_on_receiver : (w : World) (s t : ℕ) (f : Receiver → Receiver) → IsFair w → IsFair (on_receiver w s t f)
unfolding on_receiver
fair_on_receiver w s t f h = fair_on_tid w s t _ h

fair_with_queues : (w : World) (s t : ℕ) (r : Rotation) → IsFair w → IsFair (with_queues w s t r)
unfolding with_queues
fair_with_queues w s t r h = fair_on_tid w s t _ h

fair_on_share : (w : World) (s : ℕ) (c : Class) (f : Share → Share) → IsFair w →
    ((x : Share) (b : Bool) → IsBalanced (quantum w s) b x → IsBalanced (quantum w s) b (f x)) →
    IsFair (on_share w s c f)
unfolding on_share
fair_on_share w s c f h k = fair_on_known w s _ h (λ x e fair.
    let q : quantum w s ≡ w.config.quantum * x.weight =
    ap (λ (o : Option Station). w.config.quantum * (unwrap_or o no_station).weight) e in
    each_put (λ k y. k < 4 → IsBalanced (w.config.quantum * x.weight) x.weighed y) no_share x.shares
    (class_number c) _ fair
    (λ below. subst (λ (n : ℕ). IsBalanced n x.weighed (f (at no_share x.shares (class_number c)))) q
    (k _ _ (subst (λ (n : ℕ). IsBalanced n x.weighed (at no_share x.shares (class_number c))) (sym q)
    (fair (class_number c) below)))))

-- ---- no station changes

fair_on_queue : (w : World) (q : ℕ) (f : Queue → Queue) → IsFair w → IsFair (on_queue w q f)
unfolding on_queue
fair_on_queue w q f h = record { each = h.each }

fair_with_rotation : (w : World) (c : Class) (r : Rotation) → IsFair w → IsFair (with_rotation w c r)
unfolding with_rotation
fair_with_rotation w c r h = record { each = h.each }

fair_finish : (w : World) (fate : Fate) (id : ℕ) → IsFair w → IsFair (with_frame_finished w fate id)
unfolding with_frame_finished with_fate
fair_finish w fate id h = record { each = h.each }

fair_with_exchange : (w : World) (x : Exchange) → IsFair w → IsFair (with_exchange w x)
unfolding with_exchange
fair_with_exchange w x h = record { each = h.each }

fair_without_exchange : (w : World) (e : ℕ) → IsFair w → IsFair (without_exchange w e)
unfolding without_exchange
fair_without_exchange w e h = record { each = h.each }

fair_finish_all : (ids : List ℕ) (w : World) (fate : Fate) → IsFair w →
    IsFair (with_frames_finished w fate ids)
unfolding with_frames_finished
fair_finish_all [] w fate h = h
fair_finish_all (id ∷ ids) w fate h = fair_finish_all ids _ fate (fair_finish w fate id h)

fair_if : (b : Bool) (w v : World) → IsFair w → IsFair v → IsFair (if b then w else v)
fair_if true w v h k = h
fair_if false w v h k = k

-- ---- lists of stations

fair_listed_in : (w : World) (s : ℕ) (c : Class) → IsFair w → IsFair (with_listing_in w s c)
unfolding with_listing_in
fair_listed_in w s c h = fair_if _ _ _ (fair_with_rotation w c _ h) h

fair_listed_in_all : (cs : List Class) (w : World) (s : ℕ) → IsFair w → IsFair (with_listings_in w s cs)
unfolding with_listings_in
fair_listed_in_all [] w s h = h
fair_listed_in_all (c ∷ cs) w s h = fair_listed_in_all cs _ s (fair_listed_in w s c h)

fair_listed : (w : World) (o : Option ℕ) → IsFair w → IsFair (with_listings_of w o)
unfolding with_listings_of
fair_listed w None h = h
fair_listed w (Some s) h = fair_listed_in_all _ w s h

fair_pay_station : (w : World) (c : Class) (k s : ℕ) → IsFair w → IsFair (with_station_paid w c k s)
unfolding with_station_paid
fair_pay_station w c k s h = fair_on_share w s c _ h
    (λ x weighed b. record {
      deficit = paid_number (quantum w s) x.quanta k
          (x.charged + x.received) x.base x.deficit b.deficit;
      own = b.own;
    })

fair_pay_stations : (ss : List ℕ) (w : World) (c : Class) (quanta : ℕ → ℕ) → IsFair w →
    IsFair (with_stations_paid w c quanta ss)
unfolding with_stations_paid
fair_pay_stations [] w c quanta h = h
fair_pay_stations (s ∷ ss) w c quanta h = fair_pay_stations ss _ c quanta
    (fair_pay_station w c (quanta s) s h)

fair_after_pick : (w : World) (c : Class) → IsFair w → IsFair (after_pick w c)
unfolding after_pick
fair_after_pick w c h = fair_with_rotation _ c _ (fair_pay_stations _ w c _ h)

-- ---- flow queues

fair_without_head : (w : World) (q : ℕ) (items : List Item) → IsFair w → IsFair (without_head w q items)
unfolding without_head
fair_without_head w q [] h = h
fair_without_head w q (x ∷ rest) h = fair_finish _ _ _ (fair_on_queue w q _ h)

fair_within_limit : (w : World) → IsFair w → IsFair (after_limit w)
unfolding after_limit
fair_within_limit w h = fair_if _ _ _ (fair_without_head w _ _ h) h

fair_listed_queue : (w : World) (s t q : ℕ) → IsFair w → IsFair (with_listed_queue w s t q)
unfolding with_listed_queue
fair_listed_queue w s t q h = fair_if _ _ _ h (fair_with_queues _ s t _ (fair_on_queue w q _ h))

fair_put_in : (w : World) (s t q : ℕ) (x : Item) → IsFair w → IsFair (after_put_in w s t q x)
unfolding after_put_in with_appended
fair_put_in w s t q x h = fair_listed_queue _ s t q (fair_on_queue w q _ h)

fair_pay_queues : (qs : List ℕ) (w : World) (quanta : ℕ → ℕ) → IsFair w →
    IsFair (with_queues_paid w quanta qs)
unfolding with_queues_paid
fair_pay_queues [] w quanta h = h
fair_pay_queues (q ∷ qs) w quanta h = fair_pay_queues qs _ quanta (fair_on_queue w q _ h)

fair_taken_from : (w : World) (s : ℕ) (o : Option ℕ) → IsFair w → IsFair (taken_from_picked w s o).world
unfolding taken_from_picked taken_by_codel
fair_taken_from w s None h = h
fair_taken_from w s (Some q) h = fair_finish_all _ _ _ (fair_on_queue w q _ h)

fair_take : (w : World) (s t : ℕ) → IsFair w → IsFair (taken_for_tid w s t).world
unfolding taken_for_tid
fair_take w s t h = fair_taken_from _ s _ (fair_with_queues _ s t _ (fair_pay_queues _ w _ h))

fair_purge_queues : (qs : List ℕ) (w : World) → IsFair w → IsFair (after_queues_left w qs)
unfolding after_queues_left after_queue_left
fair_purge_queues [] w h = h
fair_purge_queues (q ∷ qs) w h = fair_purge_queues qs _ (fair_finish_all _ _ _ (fair_on_queue w q _ h))

fair_flush_queues : (qs : List ℕ) (w : World) → IsFair w → IsFair (after_queues_flushed w qs)
unfolding after_queues_flushed after_queue_flushed
fair_flush_queues [] w h = h
fair_flush_queues (q ∷ qs) w h = fair_flush_queues qs _ (fair_finish_all _ _ _ (fair_on_queue w q _ h))

-- ---- pulls

fair_after_turn : (w : World) (s : ℕ) (c : Class) (t : ℕ) → IsFair w → IsFair (after_tid_turn w s c t)
unfolding after_tid_turn
fair_after_turn w s c t h = fair_on_share w s c _ h
    (λ x weighed b. record { deficit = b.deficit; own = b.own })

fair_with_number : (o : Option Item) (w : World) (s t : ℕ) → IsFair w → IsFair (with_number w s t o)
unfolding with_number
fair_with_number None w s t h = h
fair_with_number (Some x) w s t h = fair_on_session w s t _ h

fair_if_filled : (b : Bool) (x y : Aggregate) → IsFair x.world → IsFair y.world →
    IsFair (if b then x else y).world
fair_if_filled true x y h k = h
fair_if_filled false x y h k = k

fair_with_fresh : (n : ℕ) (w : World) (s t : ℕ) (mpdus : List Mpdu) → IsFair w →
    IsFair (with_fresh n w s t mpdus).world
unfolding with_fresh
fair_with_fresh zero w s t mpdus h = h
fair_with_fresh (suc n) w s t mpdus h =
    let k = fair_with_number _ _ s t (fair_take w s t h) in
    fair_if_filled _ _ _ h (fair_if_filled _ _ _ (fair_with_fresh n _ s t _ k) k)

fair_filled : (w : World) (s t : ℕ) → IsFair w → IsFair (aggregate_of w s t).world
unfolding aggregate_of
fair_filled w s t h = fair_if_filled _ _ _ (fair_with_fresh _ w s t _ h) h

fair_if_prepared : (b : Bool) (x y : Prepared) → IsFair x.world → IsFair y.world →
    IsFair (if b then x else y).world
fair_if_prepared true x y h k = h
fair_if_prepared false x y h k = k

fair_prepared : (w : World) (s t : ℕ) → IsFair w → IsFair (prepared_exchange w s t).world
unfolding prepared_exchange prepared_data
fair_prepared w s t h = fair_if_prepared _ _ _ h (fair_on_session _ s t _ (fair_filled w s t h))

fair_opening_exchange : (w : World) (x : Exchange) → IsFair w → IsFair (with_exchange_opened w x)
unfolding with_exchange_opened
fair_opening_exchange w x h = record { each = h.each }

fair_sent : (s t : ℕ) (c : Class) (p : Prepared) → IsFair p.world → IsFair (send_outcome s t c p).world
unfolding send_outcome with_spent
fair_sent s t c p h = fair_on_station _ s _ (fair_opening_exchange p.world _ h) (λ q x k. k)

fair_pulled_by : (o : Option ℕ) (w : World) (c : Class) → IsFair w → IsFair (pull_outcome_for w c o).world
unfolding pull_outcome_for
fair_pulled_by None w c h = h
fair_pulled_by (Some s) w c h = fair_sent s _ c _ (fair_prepared _ s _ (fair_after_turn w s c _ h))

fair_pulled : (w : World) (c : Class) (l : Limits) → IsFair w → IsFair (pull_outcome w c l).world
unfolding pull_outcome
fair_pulled w c l h = fair_pulled_by _ _ c (record { each = (fair_after_pick w c h).each })

-- ---- exchanges

fair_on_open : (o : Option Exchange) (w : World) (f : Exchange → Outcome) → IsFair w →
    ((x : Exchange) → IsFair (f x).world) → IsFair (outcome_where_open w o f).world
unfolding outcome_where_open
fair_on_open None w f h k = h
fair_on_open (Some x) w f h k = k x

fair_arrived : (w : World) (x : Exchange) (i : ℕ) → IsFair w → IsFair (arrive_outcome w x i).world
unfolding arrive_outcome
fair_arrived w x i h = fair_with_exchange _ _ (fair_on_receiver w _ _ _ h)

fair_answered : (w : World) (x : Exchange) → IsFair w → IsFair (answer_outcome w x).world
unfolding answer_outcome
fair_answered w x h = fair_with_exchange w _ h

fair_charged : (air : Option ℕ) (w : World) (x : Exchange) → IsFair w → IsFair (after_charge w x air)
unfolding after_charge
fair_charged air w x h = fair_on_share w _ _ _ h (λ y weighed b. record {
  deficit = charged_number y.charged y.received (charge_of air x) _ y.deficit b.deficit;
  own = b.own;
})

fair_unsent : (w : World) (x : Exchange) (i : ℕ) → IsFair w → IsFair (unsent_outcome w x i).world
unfolding unsent_outcome
fair_unsent w x i h = fair_with_exchange w _ h

fair_given_up : (w : World) (x : Exchange) (i : ℕ) → IsFair w → IsFair (give_up_outcome w x i).world
unfolding give_up_outcome
fair_given_up w x i h = fair_with_exchange w _ h

fair_failed : (w : World) (s t : ℕ) (m : Mpdu) → IsFair w → IsFair (with_failed_finished w s t m)
unfolding with_failed_finished
fair_failed w s t m h = fair_if _ _ _ (fair_finish _ _ _ h) h

fair_settled : (end : End) (w : World) (s t : ℕ) (m : Mpdu) → IsFair w → IsFair (with_settled w s t end m)
unfolding with_settled
fair_settled End.Acknowledged w s t m h = fair_finish _ _ _ (fair_on_session w s t _ h)
fair_settled End.Missed w s t m h = fair_failed _ s t m (fair_on_session w s t _ h)
fair_settled End.GivenUp w s t m h = fair_failed _ s t m (fair_on_session w s t _ h)
fair_settled End.Unsent w s t m h = fair_failed _ s t m (fair_on_session w s t _ h)

fair_all_settled : (ms : List Mpdu) (w : World) (s t : ℕ) (ends : ℕ → End) → IsFair w →
    IsFair (with_all_settled w s t ends ms)
unfolding with_all_settled
fair_all_settled [] w s t ends h = h
fair_all_settled (m ∷ ms) w s t ends h = fair_all_settled ms _ s t ends (fair_settled _ w s t m h)

-- A TID that catches up, or whose mode or window changes, changes no share.
fair_caught_up : (w : World) (s t : ℕ) → IsFair w → IsFair (caught_up w s t)
unfolding caught_up
fair_caught_up w s t h = fair_on_receiver _ s t _ (fair_on_session w s t _ h)

fair_caught_up_if_plain : (w : World) (s t : ℕ) → IsFair w → IsFair (caught_up_if_plain w s t)
unfolding caught_up_if_plain
fair_caught_up_if_plain w s t h = fair_if _ _ _ h (fair_caught_up w s t h)

fair_after_done : (content : Content) (w : World) (x : Exchange) (heard : Bool) → IsFair w →
    IsFair (after_done w x heard content)
unfolding after_done
fair_after_done (Frames mpdus) w x heard h =
    fair_caught_up_if_plain _ _ _ (fair_all_settled mpdus w _ _ _ h)
fair_after_done (Request start) w x heard h = fair_on_session w _ _ _ h

fair_ended : (air : Option ℕ) (w : World) (x : Exchange) (heard : Bool) → IsFair w →
    IsFair (done_outcome w x heard air).world
unfolding done_outcome
fair_ended air w x heard h = fair_after_done _ _ x heard (fair_charged air _ x (fair_without_exchange w _ h))

-- ---- stations

fair_new_station : (w : World) (s : ℕ) (mode : Mode) (window start exponent weight : ℕ) (offloaded : Bool) →
    IsFair w →
    IsFair (with_station w s (Some (new_station w.config mode window start exponent weight offloaded)))
fair_new_station w s mode window start exponent weight offloaded h =
    fair_with_station w s _ h (λ k below. four _ k below)
  where
    four : (q k : ℕ) → k < 4 → IsBalanced q false (at no_share
        (new_share q ∷ new_share q ∷ new_share q ∷ new_share q ∷ []) k)
    four q zero below = new_balanced q
    four q (suc zero) below = new_balanced q
    four q (suc (suc zero)) below = new_balanced q
    four q (suc (suc (suc zero))) below = new_balanced q
    four q (suc (suc (suc (suc k)))) below = absurd (omega arith)

fair_joined : (w : World) (s window start exponent weight : ℕ) → IsFair w →
    IsFair (join_outcome w s window start exponent weight).world
unfolding join_outcome
fair_joined w s window start exponent weight h =
    fair_new_station w s Agreed window start exponent weight false h

fair_offloaded : (w : World) (s exponent weight : ℕ) → IsFair w →
    IsFair (offload_outcome w s exponent weight).world
unfolding offload_outcome
fair_offloaded w s exponent weight h =
    fair_new_station w s Mode.Plain greatest_window 0 exponent weight true h

fair_joined_plain : (w : World) (s start exponent weight : ℕ) → IsFair w →
    IsFair (plain_outcome w s start exponent weight).world
unfolding plain_outcome
fair_joined_plain w s start exponent weight h =
    fair_new_station w s Mode.Plain plain_window start exponent weight false h

-- The shares of an account are balanced.
IsFairAccount : ℕ → Account → Type 0
IsFairAccount q a = (c : Class) → IsBalanced (q * a.weight) a.weighed (a.shares c)

fair_account : (q : ℕ) (o : Option Station) → IfSome o (IsFairStation q) →
    IfSome (option_map account o) (IsFairAccount q)
unfolding IsFairAccount
fair_account q None h = tt
fair_account q (Some x) h = λ c.
    let b = h (class_number c) (below_four c) in record { deficit = b.deficit; own = b.own }

fair_from : (q : ℕ) (o : Option Station) → IfSome (option_map account o) (IsFairAccount q) →
    IfSome o (IsFairStation q)
unfolding IsFairAccount
fair_from q None h = tt
fair_from q (Some x) h = go
  where
    go : IsFairStation q x
    go zero below = record { deficit = (h Bk).deficit; own = (h Bk).own }
    go (suc zero) below = record { deficit = (h Be).deficit; own = (h Be).own }
    go (suc (suc zero)) below = record { deficit = (h Vi).deficit; own = (h Vi).own }
    go (suc (suc (suc zero))) below = record { deficit = (h Vo).deficit; own = (h Vo).own }
    go (suc (suc (suc (suc k)))) below = absurd (omega arith)

lowered_number : (q n m : ℕ) (d : ℤ) → d ≡ d +ℤ pos m -ℤ pos (q * n) +ℤ pos (q * n) -ℤ pos m
lowered_number q n m d = omega (arith, ints)

-- A weight that is set keeps the account of each share.
fair_weighed : (w : World) (s weight : ℕ) → IsFair w → IsFair (weight_outcome w s weight).world
unfolding IsFairAccount
fair_weighed w s weight h = record {
  each = λ y. subst
      (λ (q : ℕ). IfSome (at None (weight_outcome w s weight).world.stations y) (IsFairStation q))
      (ap (λ (b : Books). b.config.quantum) (sym (books_weighed w s weight)))
      (fair_from w.config.quantum _ (subst
      (λ (b : Books). IfSome (b.accounts y) (IsFairAccount w.config.quantum))
      (sym (books_weighed w s weight)) (all y)));
}
  where
    all : (y : ℕ) → IfSome ((with_weight (books w) s weight).accounts y) (IsFairAccount w.config.quantum)
    all = each_upd (λ y o. IfSome o (IsFairAccount w.config.quantum)) (books w).accounts s _
        (λ y. fair_account w.config.quantum (at None w.stations y) (h.each y))
        (go ((books w).accounts s))
      where
        go : (o : Option Account) → IfSome (option_map (reweighed w.config (books w).opened s weight) o)
            (IsFairAccount w.config.quantum)
        go None = tt
        go (Some a) = λ c. record {
          deficit = lowered_number (w.config.quantum * weight) (a.shares c).quanta
              ((a.shares c).charged + (a.shares c).received) _;
          own = λ e. absurd (cc e);
        }

fair_left_tids : (ts : List ℕ) (w : World) (s : ℕ) → IsFair w → IsFair (after_tids_left w s ts)
unfolding after_tids_left after_tid_left
fair_left_tids [] w s h = h
fair_left_tids (t ∷ ts) w s h = fair_left_tids ts _ s
    (fair_with_queues _ s t _ (fair_purge_queues _ _ (fair_finish_all _ w _ h)))

fair_off_lists : (cs : List Class) (w : World) (s : ℕ) → IsFair w → IsFair (without_listings w s cs)
unfolding without_listings
fair_off_lists [] w s h = h
fair_off_lists (c ∷ cs) w s h = fair_off_lists cs _ s (fair_with_rotation w c _ h)

fair_gone : (w : World) (s : ℕ) → IsFair w → IsFair (leave_outcome w s).world
unfolding leave_outcome
fair_gone w s h = fair_with_station _ s None (fair_off_lists _ _ s (fair_left_tids _ w s h)) tt

fair_flushed : (w : World) (s t : ℕ) → IsFair w → IsFair (flush_outcome w s t).world
unfolding flush_outcome after_tid_flushed
fair_flushed w s t h = fair_caught_up_if_plain _ s t
    (fair_flush_queues _ _ (fair_finish_all _ _ _ (fair_on_session w s t _ h)))

-- ---- agreements that begin and end

fair_with_mode : (w : World) (s t : ℕ) (mode : Mode) → IsFair w → IsFair (with_mode w s t mode)
unfolding with_mode
fair_with_mode w s t mode h = fair_on_tid w s t _ h

fair_with_window : (w : World) (s t size : ℕ) → IsFair w → IsFair (with_window w s t size)
unfolding with_window
fair_with_window w s t size h = fair_on_receiver _ s t _ (fair_on_session w s t _ h)

-- So the calls of modes keep each deficit.
fair_held : (w : World) (s t : ℕ) → IsFair w → IsFair (hold_outcome w s t).world
unfolding hold_outcome
fair_held w s t h = fair_with_mode w s t _ h

fair_begun : (w : World) (s t window : ℕ) → IsFair w → IsFair (begin_outcome w s t window).world
unfolding begin_outcome
fair_begun w s t window h = fair_with_mode _ s t _ (fair_with_window _ s t window (fair_caught_up w s t h))

fair_freed : (w : World) (s t : ℕ) → IsFair w → IsFair (free_outcome w s t).world
unfolding free_outcome
fair_freed w s t h = fair_with_mode w s t _ h

fair_ceased : (w : World) (s t : ℕ) → IsFair w → IsFair (cease_outcome w s t).world
unfolding cease_outcome after_numbers_ended
fair_ceased w s t h = fair_with_mode _ s t _ (fair_with_window _ s t _
    (fair_caught_up _ s t (fair_finish_all _ _ _ (fair_on_session w s t _ h))))

-- ---- frames

fair_enqueued : (w : World) (s t flow len : ℕ) → IsFair w → IsFair (enqueue_outcome w s t flow len).world
unfolding enqueue_outcome with_frame
fair_enqueued w s t flow len h = record { each = (fair_put_in _ s t _ _ (fair_within_limit w h)).each }

fair_received : (w : World) (s : ℕ) (c : Class) (air : ℕ) → IsFair w → IsFair (rx_outcome w s c air).world
unfolding rx_outcome
fair_received w s c air h = fair_on_share w s c _ h
    (λ x weighed b. record {
      deficit = received_number x.charged x.received air _ x.deficit b.deficit;
      own = b.own;
    })

fair_reaped : (ids : List ℕ) (w : World) → IsFair w → IsFair (reap_outcome w ids).world
unfolding reap_outcome
fair_reaped [] w h = h
fair_reaped (id ∷ ids) w h = record { each = h.each }

-- ---- the step

fair_done : (note : Note) (w : World) → IsFair w → IsFair (outcome_of w note).world
unfolding outcome_of tick_outcome rate_outcome sleep_outcome wake_outcome poll_outcome
fair_done (Enqueue s t flow len) w h = fair_enqueued w s t flow len h
fair_done (Asked (Join s window start exponent weight)) w h = fair_joined w s window start exponent weight h
fair_done (Asked (Offload s exponent weight)) w h = fair_offloaded w s exponent weight h
fair_done (Asked (Plain s start exponent weight)) w h = fair_joined_plain w s start exponent weight h
fair_done (Asked (Weight s weight)) w h = fair_weighed w s weight h
fair_done (Asked (Leave s)) w h = fair_gone w s h
fair_done (Asked (Rate s rate)) w h = fair_on_station w s _ h (λ q x k. k)
fair_done (Asked (Tick by)) w h = record { each = h.each }
fair_done (Asked (Pull c l)) w h = fair_pulled w c l h
fair_done (Asked (Arrive e i)) w h = fair_on_open _ w _ h (λ x. fair_arrived w x i h)
fair_done (Asked (Unsent e i)) w h = fair_on_open _ w _ h (λ x. fair_unsent w x i h)
fair_done (Asked (GiveUp e i)) w h = fair_on_open _ w _ h (λ x. fair_given_up w x i h)
fair_done (Asked (Flush s t)) w h = fair_flushed w s t h
fair_done (Asked (Hold s t)) w h = fair_held w s t h
fair_done (Asked (Begin s t window)) w h = fair_begun w s t window h
fair_done (Asked (Free s t)) w h = fair_freed w s t h
fair_done (Asked (Cease s t)) w h = fair_ceased w s t h
fair_done (Asked (Answer e)) w h = fair_on_open _ w _ h (λ x. fair_answered w x h)
fair_done (Asked (Done e heard air)) w h = fair_on_open _ w _ h (λ x. fair_ended air w x heard h)
fair_done (Asked (Sleep s)) w h = fair_on_station w s _ h (λ q x k. k)
fair_done (Asked (Ampdu s octets)) w h = fair_on_station w s _ h (λ q x k. k)
fair_done (Asked (Stop s)) w h = fair_on_station w s _ h (λ q x k. k)
fair_done (Asked (Start s)) w h = fair_on_station w s _ h (λ q x k. k)
fair_done (Asked (Wake s)) w h = fair_on_station w s _ h (λ q x k. k)
fair_done (Asked (Poll s)) w h = fair_on_station w s _ h (λ q x k. k)
fair_done (Asked (Rx s c air)) w h = fair_received w s c air h
fair_done (Asked Reap) w h = fair_reaped _ w h
fair_done (Asked (Group ask)) w h = record { each = h.each }
fair_done (Asked (Service ask)) w h = fair_on_station w (station_served ask) _ h (λ q x k. k)
fair_done (Asked (Bss s b)) w h = fair_on_station w s _ h (λ q x k. k)

fair_refused : (note : Note) (r : Refusal) (w : World) → IsFair w → IsFair (after_refusal w note r)
unfolding after_refusal
fair_refused (Asked (Pull c l)) Idle w h = after_idle IsFair w c h (fair_after_pick w c h)
fair_refused _ _ w h = h

fair_answer : (r : Option Refusal) (w : World) (note : Note) → IsFair w →
    IsFair (judged_outcome w note r).world
unfolding judged_outcome
fair_answer (Some r) w note h = fair_refused note r w h
fair_answer None w note h = fair_listed _ _ (fair_done note w h)

pub fair_step : (w : World) (note : Note) → IsFair w → IsFair (step w note).world
unfolding step
fair_step w note h = fair_answer _ w note h

pub fair_run : (h : List Entry) (w : World) → IsFair w → IsFair (world_after w h)
unfolding world_after
fair_run [] w f = f
fair_run (e ∷ es) w f = fair_run es _ (fair_step w e.1 f)

-- In every world of a run, for each live station and class: deficit = base + Q g quanta - charged -
-- received, with the quantum Q and the weight g.
pub accounts : (config : Config) (h : List Entry) → IsFair (world_after (opening config) h)
accounts config h = fair_run h (opening config) (record { each = λ s. tt })
