-- Proves how each part of a call changes the books, one equation for each.
use Rattle.std.proofs.Common.{◌≡◌, refl, ap, sym, ◌∙◌, subst, arith, ℕ, zero, suc, ◌+◌, ◌*◌, pos, ◌+ℤ◌, ◌-ℤ◌, Bool, true, false, if◌then◌else◌, List, [], ◌∷◌, ◌++◌, Option, Some, None, unwrap_or, option_map, not, map, filter, ◌==◌, inl, inr, min, ◌-◌}
use Rattle.std.proofs.Math.Path.{fun_ext}
use Rattle.std.proofs.lemmas.Int.{ints}
use Rattle.std.proofs.lemmas.Bool.{cases_Bool, cases_eq}
use Rattle.wf_frame.specs.declared.classes.Class.{Class}
use Rattle.wf_frame.specs.declared.classes.Class.TheVariants.{Bk, Be, Vi, Vo}
use Rattle.wf_def_lists.specs.Table.{at}
use Rattle.wf_def_air.specs.Airtime.{lowest_rate}
use Rattle.wf_def_codel.specs.Codel.{Item}
use Rattle.wf_def_rotation.specs.Rotation.{without_key, in_order, Picked}
use Rattle.wf_def_agreement.specs.Session.{End}
use Rattle.wf_def_world.specs.Rates.{rate_asked}
use Rattle.wf_def_world.specs.World.{World, Mode, Agreed, Station, Share, Exchange, Mpdu, Content, Frames, Request, no_share, no_station, rotation, quantum, with_rotation, without_exchange, owed, on_share, with_station, with_mode}
use Rattle.wf_def_world.specs.Service.{station_served}
use Rattle.wf_frame.specs.Classes.{class_number}
use Rattle.wf_frame.specs.declared.notes.AskedRate.{AskedRate}
use Rattle.wf_frame.specs.declared.settings.Config.{Config}
use Rattle.wf_def_world.specs.FlowQueues.{without_head, after_limit, with_listed_queue, with_appended, after_put_in, with_queues_paid, taken_by_codel, taken_from_picked, taken_for_tid, after_queue_left, after_queues_left, after_queue_flushed, after_queues_flushed}
use Rattle.wf_def_world.specs.Exchanges.{Aggregate, Prepared, with_station_paid, with_stations_paid, after_pick, after_tid_turn, with_fresh, aggregate_of, with_number, prepared_data, prepared_exchange, with_exchange_opened, after_charge, with_failed_finished, with_settled, with_all_settled, after_done, exchange_of, picked_station, charge_of, caught_up, caught_up_if_plain, longest_computed, with_spent}
use Rattle.wf_def_world.specs.Step.{join_outcome, after_tid_left, after_tids_left, without_listings, leave_outcome, rate_outcome, with_frame, enqueue_outcome, send_outcome, done_outcome, sleep_outcome, wake_outcome, poll_outcome, rx_outcome, reap_outcome, ampdu_outcome, stop_outcome, start_outcome, after_tid_flushed, flush_outcome, offload_outcome, lesser_of, share_with_deficit, most_kept, with_deficits_lowered, weight_outcome, new_station, plain_window, plain_outcome, with_window, after_numbers_ended, hold_outcome, begin_outcome, free_outcome, cease_outcome, service_outcome, bss_outcome}
use Rattle.wf_law_runs.proofs.Deficits.Books.{upd, updc, Account, plain, account, core, Books, books, with_account, with_lists, on_part, books_with_station, books_with_rotation, books_on_station, books_hidden, books_on_session, books_with_queues, books_on_share, books_on_queue, books_finish, books_finish_all, books_if, updc_idle, upd_idle, upd_same, upd_other, updc_same, books_on_tid, books_on_receiver}
use Rattle.wf_law_runs.proofs.Deficits.Openings.{owed-core}
use Rattle.wf_def_lists.specs.Lists.{on}
use Rattle.wf_def_lists.specs.Bounds.{greatest_window}
use Rattle.wf_law_rules.proofs.Lemmas.Counts.{on-nil, on-cons_same, on-cons_other}
use Rattle.wf_frame.specs.declared.notes.ServiceAsk.{ServiceAsk}

-- ---- flow queues

books_without_head : (w : World) (q : ℕ) (items : List Item) → books (without_head w q items) ≡ books w
unfolding without_head
books_without_head w q [] = refl
books_without_head w q (x ∷ rest) = books_finish _ _ _ ∙ books_on_queue w q _

books_within_limit : (w : World) → books (after_limit w) ≡ books w
unfolding after_limit
books_within_limit w = books_if _ (books w) _ _ (books_without_head w _ _) refl

books_listed_queue : (w : World) (s t q : ℕ) → books (with_listed_queue w s t q) ≡ books w
unfolding with_listed_queue
books_listed_queue w s t q = books_if _ (books w) _ _ refl (books_with_queues _ s t _ ∙ books_on_queue w q _)

books_put_in : (w : World) (s t q : ℕ) (x : Item) → books (after_put_in w s t q x) ≡ books w
unfolding after_put_in with_appended
books_put_in w s t q x = books_listed_queue _ s t q ∙ books_on_queue w q _

books_pay_queues : (qs : List ℕ) (w : World) (quanta : ℕ → ℕ) → books (with_queues_paid w quanta qs) ≡ books w
unfolding with_queues_paid
books_pay_queues [] w quanta = refl
books_pay_queues (q ∷ qs) w quanta = books_pay_queues qs _ quanta ∙ books_on_queue w q _

books_taken_from : (w : World) (s : ℕ) (o : Option ℕ) → books (taken_from_picked w s o).world ≡ books w
unfolding taken_from_picked taken_by_codel
books_taken_from w s None = refl
books_taken_from w s (Some q) = books_finish_all _ _ _ ∙ books_on_queue w q _

pub books_take : (w : World) (s t : ℕ) → books (taken_for_tid w s t).world ≡ books w
unfolding taken_for_tid
books_take w s t = books_taken_from _ s _ ∙ (books_with_queues _ s t _ ∙ books_pay_queues _ w _)

books_purge_queues : (qs : List ℕ) (w : World) → books (after_queues_left w qs) ≡ books w
unfolding after_queues_left after_queue_left
books_purge_queues [] w = refl
books_purge_queues (q ∷ qs) w = books_purge_queues qs _ ∙ (books_finish_all _ _ _ ∙ books_on_queue w q _)

books_flush_queues : (qs : List ℕ) (w : World) → books (after_queues_flushed w qs) ≡ books w
unfolding after_queues_flushed after_queue_flushed
books_flush_queues [] w = refl
books_flush_queues (q ∷ qs) w = books_flush_queues qs _ ∙ (books_finish_all _ _ _ ∙ books_on_queue w q _)

-- A TID that catches up changes no airtime.
books_caught_up : (w : World) (s t : ℕ) → books (caught_up w s t) ≡ books w
unfolding caught_up
books_caught_up w s t = books_on_receiver _ s t _ ∙ books_on_session w s t _

books_caught_up_if_plain : (w : World) (s t : ℕ) → books (caught_up_if_plain w s t) ≡ books w
unfolding caught_up_if_plain
books_caught_up_if_plain w s t = books_if _ (books w) _ _ refl (books_caught_up w s t)

pub books_flushed : (w : World) (s t : ℕ) → books (flush_outcome w s t).world ≡ books w
unfolding flush_outcome after_tid_flushed
books_flushed w s t = books_caught_up_if_plain _ s t
    ∙ (books_flush_queues _ _ ∙ (books_finish_all _ _ _ ∙ books_on_session w s t _))

-- ---- agreements that begin and end

-- Nor does its mode, or its window.
books_with_mode : (w : World) (s t : ℕ) (mode : Mode) → books (with_mode w s t mode) ≡ books w
unfolding with_mode
books_with_mode w s t mode = books_on_tid w s t _

books_with_window : (w : World) (s t size : ℕ) → books (with_window w s t size) ≡ books w
unfolding with_window
books_with_window w s t size = books_on_receiver _ s t _ ∙ books_on_session w s t _

-- No call of modes changes the books.
pub books_held : (w : World) (s t : ℕ) → books (hold_outcome w s t).world ≡ books w
unfolding hold_outcome
books_held w s t = books_with_mode w s t _

pub books_begun : (w : World) (s t window : ℕ) → books (begin_outcome w s t window).world ≡ books w
unfolding begin_outcome
books_begun w s t window = books_with_mode _ s t _ ∙ (books_with_window _ s t window ∙ books_caught_up w s t)

pub books_freed : (w : World) (s t : ℕ) → books (free_outcome w s t).world ≡ books w
unfolding free_outcome
books_freed w s t = books_with_mode w s t _

pub books_ceased : (w : World) (s t : ℕ) → books (cease_outcome w s t).world ≡ books w
unfolding cease_outcome after_numbers_ended
books_ceased w s t = books_with_mode _ s t _ ∙ (books_with_window _ s t _
    ∙ (books_caught_up _ s t ∙ (books_finish_all _ _ _ ∙ books_on_session w s t _)))

-- ---- pulls

pub books_after_turn : (w : World) (s : ℕ) (c : Class) (t : ℕ) → books (after_tid_turn w s c t) ≡ books w
unfolding after_tid_turn
books_after_turn w s c t =
    books_on_share w s c _ (λ x. x) (λ x. refl) ∙ ap
    (λ (g : ℕ → Option Account). record (books w) { accounts = g })
    (upd_idle _ s _ (idle ((books w).accounts s)))
  where
    idle : (o : Option Account) → option_map (on_part c (λ (x : Share). x)) o ≡ o
    idle None = refl
    idle (Some a) = ap (λ (z : Class → Share). Some (record a { shares = z }))
        (updc_idle a.shares c (a.shares c) refl)

pub books_with_number : (o : Option Item) (w : World) (s t : ℕ) → books (with_number w s t o) ≡ books w
unfolding with_number
books_with_number None w s t = refl
books_with_number (Some x) w s t = books_on_session w s t _

books_if_filled : (b : Bool) (z : Books) (x y : Aggregate) → books x.world ≡ z → books y.world ≡ z →
    books (if b then x else y).world ≡ z
books_if_filled true z x y h k = h
books_if_filled false z x y h k = k

pub books_with_fresh : (n : ℕ) (w : World) (s t : ℕ) (mpdus : List Mpdu) →
    books (with_fresh n w s t mpdus).world ≡ books w
unfolding with_fresh
books_with_fresh zero w s t mpdus = refl
books_with_fresh (suc n) w s t mpdus =
    let k = books_with_number _ (taken_for_tid w s t).world s t ∙ books_take w s t in
    books_if_filled _ (books w) _ _ refl (books_if_filled _ (books w) _ _ (books_with_fresh n _ s t _ ∙ k) k)

pub books_filled : (w : World) (s t : ℕ) → books (aggregate_of w s t).world ≡ books w
unfolding aggregate_of
books_filled w s t = books_if_filled _ (books w) _ _ (books_with_fresh _ w s t _) refl

books_if_prepared : (b : Bool) (z : Books) (x y : Prepared) → books x.world ≡ z → books y.world ≡ z →
    books (if b then x else y).world ≡ z
books_if_prepared true z x y h k = h
books_if_prepared false z x y h k = k

pub books_prepared : (w : World) (s t : ℕ) → books (prepared_exchange w s t).world ≡ books w
unfolding prepared_exchange prepared_data
books_prepared w s t = books_if_prepared _ (books w) _ _ refl (books_on_session _ s t _ ∙ books_filled w s t)

-- ---- exchanges

abbrev pub with_opened : Books → Exchange → Books
with_opened b x = record b { exchanges = b.exchanges + 1; opened = b.opened ++ core x ∷ [] }

map-append_one : (xs : List Exchange) (x : Exchange) → map core (xs ++ x ∷ []) ≡ map core xs ++ core x ∷ []
map-append_one [] x = refl
map-append_one (y ∷ ys) x = ap (λ (t : List Exchange). core y ∷ t) (map-append_one ys x)

books_opening : (w : World) (x : Exchange) → books (with_exchange_opened w x) ≡ with_opened (books w) x
unfolding with_exchange_opened
books_opening w x = ap (λ (t : List Exchange). record (books w) { exchanges = w.exchanges + 1; opened = t })
    (map-append_one w.opened x)

books_spent : (w : World) (x : Exchange) → books (with_spent w x) ≡ books w
unfolding with_spent
books_spent w x = books_hidden w x.station _ (λ y. refl)

pub books_sent : (s t : ℕ) (c : Class) (p : Prepared) →
    books (send_outcome s t c p).world ≡ with_opened (books p.world) (exchange_of s t c p)
unfolding send_outcome
books_sent s t c p = books_spent _ _ ∙ books_opening p.world _

abbrev pub without : Books → ℕ → Books
without b e = record b { opened = filter (λ y. not (y.number == e)) b.opened }

map-filter : (p : Exchange → Bool) → ((x : Exchange) → p (core x) ≡ p x) → (xs : List Exchange) →
    map core (filter p xs) ≡ filter p (map core xs)
map-filter p h [] = refl
map-filter p h (x ∷ xs) = elim (cases_Bool (p x)) [
  | inl ht ↦ rw (ht, h x ∙ ht) (ap (λ (t : List Exchange). core x ∷ t) (map-filter p h xs))
  | inr hf ↦ rw (hf, h x ∙ hf) (map-filter p h xs)
]

pub books_without : (w : World) (e : ℕ) → books (without_exchange w e) ≡ without (books w) e
unfolding without_exchange
books_without w e = ap (λ (t : List Exchange). record (books w) { opened = t })
    (map-filter (λ y. not (y.number == e)) (λ x. refl) w.opened)

abbrev pub charge_share : ℕ → Share → Share
charge_share n y = record y { deficit = y.deficit -ℤ pos n; charged = y.charged + n }

abbrev pub with_charge : Books → ℕ → Class → ℕ → Books
with_charge b s c n = with_account b s (option_map (on_part c (charge_share n)) (b.accounts s))

pub books_charged : (air : Option ℕ) (w : World) (x : Exchange) →
    books (after_charge w x air) ≡ with_charge (books w) x.station x.class (charge_of air x)
unfolding after_charge
books_charged air w x = books_on_share w x.station x.class _ (charge_share (charge_of air x)) (λ y. refl)

books_failed : (w : World) (s t : ℕ) (m : Mpdu) → books (with_failed_finished w s t m) ≡ books w
unfolding with_failed_finished
books_failed w s t m = books_if _ (books w) _ _ (books_finish _ _ _) refl

books_settled : (end : End) (w : World) (s t : ℕ) (m : Mpdu) → books (with_settled w s t end m) ≡ books w
unfolding with_settled
books_settled End.Acknowledged w s t m = books_finish _ _ _ ∙ books_on_session w s t _
books_settled End.Missed w s t m = books_failed _ s t m ∙ books_on_session w s t _
books_settled End.GivenUp w s t m = books_failed _ s t m ∙ books_on_session w s t _
books_settled End.Unsent w s t m = books_failed _ s t m ∙ books_on_session w s t _

books_all_settled : (ms : List Mpdu) (w : World) (s t : ℕ) (ends : ℕ → End) →
    books (with_all_settled w s t ends ms) ≡ books w
unfolding with_all_settled
books_all_settled [] w s t ends = refl
books_all_settled (m ∷ ms) w s t ends = books_all_settled ms _ s t ends ∙ books_settled _ w s t m

books_after_done : (content : Content) (w : World) (x : Exchange) (heard : Bool) →
    books (after_done w x heard content) ≡ books w
unfolding after_done
books_after_done (Frames mpdus) w x heard = books_caught_up_if_plain _ _ _ ∙ books_all_settled mpdus w _ _ _
books_after_done (Request start) w x heard = books_on_session w _ _ _

pub books_ended : (air : Option ℕ) (w : World) (x : Exchange) (heard : Bool) →
    books (done_outcome w x heard air).world
    ≡ with_charge (without (books w) x.number) x.station x.class (charge_of air x)
unfolding done_outcome
books_ended air w x heard = books_after_done x.content _ x heard
    ∙ (books_charged air _ x ∙ ap (λ (b : Books). with_charge b x.station x.class (charge_of air x))
    (books_without w x.number))

-- ---- stations

pub books_left_tids : (ts : List ℕ) (w : World) (s : ℕ) → books (after_tids_left w s ts) ≡ books w
unfolding after_tids_left after_tid_left
books_left_tids [] w s = refl
books_left_tids (t ∷ ts) w s = books_left_tids ts _ s
    ∙ (books_with_queues _ s t _ ∙ (books_purge_queues _ _ ∙ books_finish_all _ w _))

abbrev pub off : Books → ℕ → Class → Books
off b s c = with_lists b c (without_key (b.rotations c) s)

pub books_off_lists : (w : World) (s : ℕ) (c : Class) (cs : List Class) → (b : Books) → books w ≡ b →
    books (with_rotation w c (without_key (rotation w c) s)) ≡ off b s c
books_off_lists w s c cs b e = books_with_rotation w c _ ∙ ap (λ (z : Books). off z s c) e

abbrev pub all_off : Books → ℕ → Books
all_off b s = off (off (off (off b s Bk) s Be) s Vi) s Vo

pub books_gone : (w : World) (s : ℕ) → books (leave_outcome w s).world
    ≡ with_account (all_off (books w) s) s None
unfolding leave_outcome without_listings
books_gone w s =
    books_with_station _ s None ∙ ap (λ (z : Books). with_account z s None)
    (books_off_lists _ s Vo [] _ (books_off_lists _ s Vi [] _
    (books_off_lists _ s Be [] _ (books_off_lists _ s Bk [] _ (books_left_tids _ w s)))))

pub books_enqueued : (w : World) (s t flow len : ℕ) → books (enqueue_outcome w s t flow len).world ≡ books w
unfolding enqueue_outcome with_frame
books_enqueued w s t flow len = books_put_in _ s t _ _ ∙ books_within_limit w

abbrev pub receive_share : ℕ → Share → Share
receive_share n y = record y { deficit = y.deficit -ℤ pos n; received = y.received + n }

pub books_received : (w : World) (s : ℕ) (c : Class) (air : ℕ) →
    books (rx_outcome w s c air).world ≡ with_account (books w) s
    (option_map (on_part c (receive_share air)) ((books w).accounts s))
unfolding rx_outcome
books_received w s c air = books_on_share w s c _ (receive_share air) (λ y. refl)

pub books_reaped : (ids : List ℕ) (w : World) → books (reap_outcome w ids).world ≡ books w
unfolding reap_outcome
books_reaped [] w = refl
books_reaped (id ∷ ids) w = refl

pub books_slept : (w : World) (s : ℕ) → books (sleep_outcome w s).world ≡ books w
unfolding sleep_outcome
books_slept w s = books_hidden w s _ (λ x. refl)

pub books_stated : (w : World) (s octets : ℕ) → books (ampdu_outcome w s octets).world ≡ books w
books_stated w s octets = books_hidden w s _ (λ x. refl)

pub books_stopped : (w : World) (s : ℕ) → books (stop_outcome w s).world ≡ books w
books_stopped w s = books_hidden w s _ (λ x. refl)

pub books_served : (w : World) (ask : ServiceAsk) → books (service_outcome w ask).world ≡ books w
books_served w ask = books_hidden w (station_served ask) _ (λ x. refl)

pub books_moved : (w : World) (s b : ℕ) → books (bss_outcome w s b).world ≡ books w
books_moved w s b = books_hidden w s _ (λ x. refl)

pub books_started : (w : World) (s : ℕ) → books (start_outcome w s).world ≡ books w
books_started w s = books_hidden w s _ (λ x. refl)

pub books_woken : (w : World) (s : ℕ) → books (wake_outcome w s).world ≡ books w
unfolding wake_outcome
books_woken w s = books_hidden w s _ (λ x. refl)

pub books_credited : (w : World) (s : ℕ) → books (poll_outcome w s).world ≡ books w
unfolding poll_outcome
books_credited w s = books_hidden w s _ (λ x. refl)

abbrev pub rated : AskedRate → Account → Account
rated rate a = record a { rate = rate_asked rate }

pub books_with_rate : (w : World) (s : ℕ) (rate : AskedRate) →
    books (rate_outcome w s rate).world
    ≡ with_account (books w) s (option_map (rated rate) ((books w).accounts s))
unfolding rate_outcome
books_with_rate w s rate = books_on_station w s _ (rated rate) (λ x. refl)

abbrev pub fresh_share : ℕ → Share
fresh_share q =
    record { deficit = pos q; base = pos q; quanta = 0; charged = 0; received = 0; upper = false }

abbrev pub fresh_account : ℕ → ℕ → Account
fresh_account q weight = record {
  weight = weight;
  weighed = false;
  rate = lowest_rate;
  shares =
      λ c. fresh_share (q * weight);
}

books_new_station : (w : World) (s : ℕ) (mode : Mode) (window start exponent weight : ℕ) (offloaded : Bool) →
    books (with_station w s (Some (new_station w.config mode window start exponent weight offloaded)))
    ≡ with_account (books w) s (Some (fresh_account w.config.quantum weight))
books_new_station w s mode window start exponent weight offloaded =
    books_with_station w s _ ∙ ap (λ (f : Class → Share). with_account (books w) s
    (Some (record { weight = weight; weighed = false; rate = lowest_rate; shares = f })))
    (fun_ext (four (w.config.quantum * weight)))
  where
    four : (q : ℕ) (c : Class) → plain (at no_share
        (fresh_share q ∷ fresh_share q ∷ fresh_share q ∷ fresh_share q ∷ []) (class_number c)) ≡ fresh_share q
    four q Bk = refl
    four q Be = refl
    four q Vi = refl
    four q Vo = refl

pub books_joined : (w : World) (s window start exponent weight : ℕ) →
    books (join_outcome w s window start exponent weight).world
    ≡ with_account (books w) s (Some (fresh_account w.config.quantum weight))
unfolding join_outcome
books_joined w s window start exponent weight =
    books_new_station w s Agreed window start exponent weight false

pub books_offloaded : (w : World) (s exponent weight : ℕ) →
    books (offload_outcome w s exponent weight).world
    ≡ with_account (books w) s (Some (fresh_account w.config.quantum weight))
unfolding offload_outcome
books_offloaded w s exponent weight = books_new_station w s Mode.Plain greatest_window 0 exponent weight true

pub books_joined_plain : (w : World) (s start exponent weight : ℕ) →
    books (plain_outcome w s start exponent weight).world
    ≡ with_account (books w) s (Some (fresh_account w.config.quantum weight))
unfolding plain_outcome
books_joined_plain w s start exponent weight =
    books_new_station w s Mode.Plain plain_window start exponent weight false

-- ---- giving quanta

abbrev pub pay_share : ℕ → ℕ → Share → Share
pay_share q n x = record x { deficit = x.deficit +ℤ pos (n * q); quanta = x.quanta + n }

-- The account after n quanta.
abbrev pub paid : ℕ → Class → ℕ → Account → Account
paid q c n a = on_part c (pay_share (q * a.weight) n) a

quantum_of : (w : World) (s : ℕ) (x : Station) → at None w.stations s ≡ Some x →
    quantum w s ≡ w.config.quantum * x.weight
quantum_of w s x e = ap (λ (o : Option Station). w.config.quantum * (unwrap_or o no_station).weight) e

books_pay_station : (w : World) (c : Class) (n s : ℕ) →
    books (with_station_paid w c n s) ≡ with_account (books w) s
    (option_map (paid w.config.quantum c n) ((books w).accounts s))
unfolding with_station_paid
books_pay_station w c n s = books_on_share w s c _ (pay_share (quantum w s) n) (λ x. refl)
    ∙ ap (with_account (books w) s) (known (at None w.stations s) refl)
  where
    known : (o : Option Station) → at None w.stations s ≡ o →
        option_map (on_part c (pay_share (quantum w s) n)) (option_map account o)
        ≡ option_map (paid w.config.quantum c n) (option_map account o)
    known None e = refl
    known (Some x) e = ap (λ (q : ℕ). Some (on_part c (pay_share q n) (account x))) (quantum_of w s x e)

updc_twice : {X : Type 0} (f : Class → X) (c : Class) (x y : X) → updc (updc f c x) c y ≡ updc f c y
updc_twice {X} f c x y = fun_ext (λ d. go d (class_number d == class_number c) refl)
  where
    go : (d : Class) (b : Bool) → (class_number d == class_number c) ≡ b →
        updc (updc f c x) c y d ≡ updc f c y d
    go d true e = rw e refl
    go d false e = rw e refl

-- An account does not change if it gets no quanta.
paid_none : (q : ℕ) (c : Class) (n : ℕ) (a : Account) → n ≡ 0 → paid q c n a ≡ a
paid_none q c n a e = ap (λ (z : Class → Share). record a { shares = z })
    (updc_idle a.shares c _ (rw e (none (a.shares c))))
  where
    none : (x : Share) → pay_share (q * a.weight) 0 x ≡ x
    none x = let d : x.deficit +ℤ pos (0 * (q * a.weight)) ≡ x.deficit = omega (arith, ints) in
        let n : x.quanta + 0 ≡ x.quanta = omega arith in rw (d, n) refl

paid_twice : (q : ℕ) (c : Class) (m n : ℕ) (a : Account) → paid q c m (paid q c n a) ≡ paid q c (n + m) a
paid_twice q c m n a = ap (λ (z : Class → Share). record a { shares = z })
    (updc_twice a.shares c _ _ ∙ ap (updc a.shares c)
    (ap (pay_share (q * a.weight) m) (updc_same a.shares c _) ∙ more (a.shares c)))
  where
    more : (x : Share) → pay_share (q * a.weight) m (pay_share (q * a.weight) n x)
        ≡ pay_share (q * a.weight) (n + m) x
    more x =
        let d : (x.deficit +ℤ pos (n * (q * a.weight))) +ℤ pos (m * (q * a.weight))
        ≡ x.deficit +ℤ pos ((n + m) * (q * a.weight)) = omega (arith, ints) in
        let k : x.quanta + n + m ≡ x.quanta + (n + m) = omega arith in rw (d, k) refl

option_paid_none : (q : ℕ) (c : Class) (n : ℕ) (o : Option Account) → n ≡ 0 → option_map (paid q c n) o ≡ o
option_paid_none q c n None e = refl
option_paid_none q c n (Some a) e = ap (λ (z : Account). Some z) (paid_none q c n a e)

option_paid_twice : (q : ℕ) (c : Class) (m n k : ℕ) (o : Option Account) → n + m ≡ k →
    option_map (paid q c m) (option_map (paid q c n) o) ≡ option_map (paid q c k) o
option_paid_twice q c m n k None e = refl
option_paid_twice q c m n k (Some a) e = ap (λ (z : Account). Some z)
    (paid_twice q c m n a ∙ ap (λ (i : ℕ). paid q c i a) e)

abbrev pub all_paid : Books → Class → (ℕ → ℕ) → List ℕ → Books
all_paid b c quanta ss = record b {
  accounts =
      λ s. option_map (paid b.config.quantum c (on ss s * quanta s)) (b.accounts s);
}

one_more_times : (m n q : ℕ) → n ≡ 1 + m → q + m * q ≡ n * q
one_more_times m n q e = rw e (omega arith)

books_pay_stations : (ss : List ℕ) (w : World) (c : Class) (quanta : ℕ → ℕ) →
    books (with_stations_paid w c quanta ss) ≡ all_paid (books w) c quanta ss
unfolding with_stations_paid
books_pay_stations [] w c quanta = ap (λ (f : ℕ → Option Account). record (books w) { accounts = f })
    (fun_ext (λ s. sym (option_paid_none w.config.quantum c _ ((books w).accounts s)
    (ap (λ (n : ℕ). n * quanta s) (on-nil s) ∙ omega arith))))
books_pay_stations (t ∷ ss) w c quanta = books_pay_stations ss _ c quanta
    ∙ (ap (λ (b : Books). all_paid b c quanta ss) (books_pay_station w c (quanta t) t)
    ∙ ap (λ (f : ℕ → Option Account). record (books w) { accounts = f }) (fun_ext each))
  where
    each : (s : ℕ) → option_map (paid w.config.quantum c (on ss s * quanta s))
        (upd (books w).accounts t (option_map (paid w.config.quantum c (quanta t)) ((books w).accounts t)) s)
        ≡ option_map (paid w.config.quantum c (on (t ∷ ss) s * quanta s)) ((books w).accounts s)
    each s = elim (cases_eq t s) [
      | inl e ↦ subst (λ (z : ℕ). option_map (paid w.config.quantum c (on ss z * quanta z))
          (upd (books w).accounts t (option_map (paid w.config.quantum c (quanta t)) ((books w).accounts t))
          z) ≡ option_map (paid w.config.quantum c (on (t ∷ ss) z * quanta z)) ((books w).accounts z)) e
          (ap (option_map (paid w.config.quantum c (on ss t * quanta t))) (upd_same (books w).accounts t _)
          ∙ option_paid_twice w.config.quantum c (on ss t * quanta t) (quanta t) (on (t ∷ ss) t * quanta t)
          ((books w).accounts t) (one_more_times (on ss t) (on (t ∷ ss) t) (quanta t)
          (on-cons_same t ss)))
      | inr other ↦
          ap (option_map (paid w.config.quantum c (on ss s * quanta s)))
          (upd_other (books w).accounts t s _ (λ e. other (sym e)))
          ∙ ap (λ (n : ℕ). option_map (paid w.config.quantum c (n * quanta s)) ((books w).accounts s))
          (sym (on-cons_other t s ss other))
    ]

abbrev pub after : Books → Class → Picked → Books
after b c p = with_lists (all_paid b c p.quanta (in_order (b.rotations c))) c p.lists

pub books_after_pick : (w : World) (c : Class) →
    books (after_pick w c) ≡ after (books w) c (picked_station w c)
unfolding after_pick
books_after_pick w c = books_with_rotation _ c _
    ∙ ap (λ (b : Books). with_lists b c (picked_station w c).lists)
    (books_pay_stations (in_order (rotation w c)) w c (picked_station w c).quanta)

-- ---- a weight that is set

-- Returns how much airtime in flight a deficit may cover beyond one quantum after the weight is set.
abbrev pub spare : Config → ℕ → Class → List Exchange → ℕ
spare config s c opened = min (if config.pending == 1 then owed s c opened else 0)
    ((config.inflight - 1) * longest_computed config c)

-- The share after its station's quantum became q: its deficit is at most q and n.
abbrev pub lowered : ℕ → ℕ → Share → Share
lowered q n x = share_with_deficit q (lesser_of (q + n) x.deficit) x

-- The account after its weight was set to g.
abbrev pub reweighed : Config → List Exchange → ℕ → ℕ → Account → Account
reweighed config opened s g a = record {
  weight = g;
  weighed = true;
  rate = a.rate;
  shares = λ c. lowered (config.quantum * g) (spare config s c opened) (a.shares c);
}

abbrev pub with_weight : Books → ℕ → ℕ → Books
with_weight b s g = with_account b s (option_map (reweighed b.config b.opened s g) (b.accounts s))

abbrev weight_set : ℕ → Account → Account
weight_set g a = record a { weight = g; weighed = true }

-- One class of the account is lowered.
abbrev lowered_in : Config → List Exchange → ℕ → Class → Account → Account
lowered_in config opened s c a = on_part c (lowered (config.quantum * a.weight) (spare config s c opened)) a

books_lowered_in : (w : World) (s : ℕ) (c : Class) → books (on_share w s c
    (λ y. share_with_deficit (quantum w s) (lesser_of (most_kept w s c) y.deficit) y))
    ≡ with_account (books w) s (option_map (lowered_in w.config (books w).opened s c) ((books w).accounts s))
books_lowered_in w s c =
    books_on_share w s c _ (lowered (quantum w s) (spare w.config s c w.opened)) (λ x. refl)
    ∙ ap (with_account (books w) s) (known (at None w.stations s) refl)
  where
    same : spare w.config s c w.opened ≡ spare w.config s c (books w).opened
    same = ap (λ (n : ℕ). min (if w.config.pending == 1 then n else 0)
        ((w.config.inflight - 1) * longest_computed w.config c)) (sym (owed-core s c w.opened))

    known : (o : Option Station) → at None w.stations s ≡ o →
        option_map (on_part c (lowered (quantum w s) (spare w.config s c w.opened))) (option_map account o)
        ≡ option_map (lowered_in w.config (books w).opened s c) (option_map account o)
    known None e = refl
    known (Some x) e =
        ap (λ (q : ℕ). Some (on_part c (lowered q (spare w.config s c w.opened)) (account x)))
        (quantum_of w s x e)
        ∙ ap (λ (n : ℕ). Some (on_part c (lowered (w.config.quantum * x.weight) n) (account x))) same

upd_twice : {X : Type 0} (f : ℕ → X) (k : ℕ) (x y : X) → upd (upd f k x) k y ≡ upd f k y
upd_twice {X} f k x y = fun_ext (λ i. go i (i == k) refl)
  where
    go : (i : ℕ) (b : Bool) → (i == k) ≡ b → upd (upd f k x) k y i ≡ upd f k y i
    go i true e = rw e refl
    go i false e = rw e refl

map_twice : (f g : Account → Account) (o : Option Account) →
    option_map g (option_map f o) ≡ option_map (λ a. g (f a)) o
map_twice f g None = refl
map_twice f g (Some a) = refl

-- Two changes of an account are one.
on_twice : (b : Books) (s : ℕ) (f g : Account → Account) →
    with_account (with_account b s (option_map f (b.accounts s))) s
    (option_map g ((with_account b s (option_map f (b.accounts s))).accounts s))
    ≡ with_account b s (option_map (λ a. g (f a)) (b.accounts s))
on_twice b s f g = ap (λ (z : ℕ → Option Account). record b { accounts = z })
    (upd_twice b.accounts s _ _ ∙ ap (upd b.accounts s)
    (ap (option_map g) (upd_same b.accounts s (option_map f (b.accounts s))) ∙ map_twice f g (b.accounts s)))

books_lowered_next : (w v : World) (s : ℕ) (c : Class) (f : Account → Account) →
    books v ≡ with_account (books w) s (option_map f ((books w).accounts s)) →
    books (on_share v s c (λ y. share_with_deficit (quantum v s) (lesser_of (most_kept v s c) y.deficit) y))
    ≡ with_account (books w) s (option_map (λ a. lowered_in w.config (books w).opened s c (f a))
    ((books w).accounts s))
books_lowered_next w v s c f e = books_lowered_in v s c
    ∙ (ap (λ (b : Books). with_account b s (option_map (lowered_in b.config b.opened s c) (b.accounts s))) e
    ∙ on_twice (books w) s f (lowered_in w.config (books w).opened s c))

-- The account after its weight is set and each class is lowered.
abbrev lowered_all : Config → List Exchange → ℕ → ℕ → Account → Account
lowered_all config opened s g a = lowered_in config opened s Vo (lowered_in config opened s Vi
    (lowered_in config opened s Be (lowered_in config opened s Bk (weight_set g a))))

lowered_four : (config : Config) (opened : List Exchange) (s g : ℕ) (a : Account) (c : Class) →
    (lowered_all config opened s g a).shares c ≡ (reweighed config opened s g a).shares c
lowered_four config opened s g a Bk = refl
lowered_four config opened s g a Be = refl
lowered_four config opened s g a Vi = refl
lowered_four config opened s g a Vo = refl

pub books_weighed : (w : World) (s weight : ℕ) →
    books (weight_outcome w s weight).world ≡ with_weight (books w) s weight
unfolding weight_outcome with_deficits_lowered
books_weighed w s weight =
    books_lowered_next w _ s Vo _ (books_lowered_next w _ s Vi _ (books_lowered_next w _ s Be _
    (books_lowered_next w _ s Bk (weight_set weight)
    (books_on_station w s _ (weight_set weight) (λ x. refl)))))
    ∙ ap (λ (f : Account → Account). with_account (books w) s (option_map f ((books w).accounts s)))
    (fun_ext (λ a. ap (λ (z : Class → Share).
    record { weight = weight; weighed = true; rate = a.rate; shares = z })
    (fun_ext (lowered_four w.config (books w).opened s weight a))))
