-- Proves the law of attempts: how often a number is sent without being acknowledged. By induction on the
-- run and cases of the call.
use Rattle.std.proofs.Common.{◌≡◌, refl, ap, sym, ◌∙◌, subst, arith, ℕ, zero, suc, ◌+◌, ◌-◌, ◌<◌, ◌≤◌, nat_le, Bool, true, false, if◌then◌else◌, not, ◌==◌, List, [], ◌∷◌, ◌++◌, length, take, Option, Some, None, IfSome}
use Rattle.wf_frame.specs.declared.settings.Config.{Config}
use Rattle.wf_frame.specs.declared.classes.Class.{Class}
use Rattle.wf_frame.specs.declared.notes.Ask.TheVariants.{Join, Leave, Rate, Tick, Pull, Arrive, Answer, Done, Sleep, Wake, Poll, Rx, Reap, Ampdu, Stop, Start, Unsent, GiveUp, Flush, Offload, Weight, Plain, Hold, Begin, Free, Cease, Group, Service, Bss}
use Rattle.wf_frame.specs.declared.notes.Limits.{Limits}
use Rattle.wf_frame.specs.declared.notes.Note.{Note}
use Rattle.wf_frame.specs.declared.notes.Note.TheVariants.{Enqueue, Asked}
use Rattle.wf_frame.specs.declared.notes.Refusal.{Refusal}
use Rattle.wf_frame.specs.declared.notes.Refusal.TheVariants.{Idle}
use Rattle.wf_frame.specs.Classes.{all_classes}
use Rattle.wf_frame.specs.Settings.{IsInRange}
use Rattle.wf_def_lists.specs.Table.{at, upto, with_member}
use Rattle.wf_def_lists.specs.Bounds.{greatest_window}
use Rattle.wf_def_codel.specs.Codel.{Item}
use Rattle.wf_def_agreement.specs.Session.{End, Session, Slot, State, no_slot, slot, on_slot, with_state, with_number_given, is_waiting, slot_after_miss, slot_given_up, after_flush, is_failed, request_due, start_of}
use Rattle.wf_def_agreement.specs.Receiver.{with_start}
use Rattle.wf_def_world.specs.World.{World, Mode, Station, Tid, Exchange, Mpdu, Content, Frames, Request, new_tid, tid_of, session, is_live, exchange, with_mode, with_station, on_station, on_tid, on_session, on_receiver, on_share, with_exchange, without_exchange, with_fate, with_frame_finished, opening}
use Rattle.wf_def_world.specs.Service.{station_served}
use Rattle.wf_def_world.specs.FlowQueues.{taken_for_tid}
use Rattle.wf_def_world.specs.CanSend.{can_send_in, can_give}
use Rattle.wf_def_world.specs.Exchanges.{Aggregate, Prepared, most_frames, end_of, picked_station, sending_tid, waiting_mpdus, longest_fitting, with_number, with_fresh, aggregate_of, with_flying, prepared_data, prepared_exchange, with_exchange_opened, after_tid_turn, after_arrival, after_charge, with_failed_finished, with_settled, with_all_settled, with_heard_start, after_done, caught_up, caught_up_if_plain}
use Rattle.wf_def_world.specs.Refusals.{refusal}
use Rattle.wf_def_world.specs.Step.{Outcome, tick_outcome, rate_outcome, sleep_outcome, wake_outcome, poll_outcome, rx_outcome, join_outcome, leave_outcome, send_outcome, pull_outcome_for, pull_outcome, arrive_outcome, answer_outcome, done_outcome, outcome_where_open, reap_outcome, unsent_outcome, give_up_outcome, flush_outcome, outcome_of, concerned_station, after_refusal, judged_outcome, step, offload_outcome, plain_outcome, plain_window, hold_outcome, begin_outcome, free_outcome, cease_outcome, after_numbers_ended, new_station}
use Rattle.wf_def_world.specs.Run.{Entry, world_after}
use Rattle.wf_def_world.specs.Stretches.{world_at}
use Rattle.wf_law_runs.specs.Attempts.{IsTried, AttemptsLaw}
use Rattle.wf_law_rules.proofs.Lemmas.Numbers.{on_if, le_yes, le_no}
use Rattle.wf_law_rules.proofs.Lemmas.Tables.{each_put}
use Rattle.wf_law_runs.proofs.Common.Refused.{after_idle}
use Rattle.wf_law_runs.proofs.Common.Marks.{marked_world}
use Rattle.wf_law_runs.proofs.Common.Ends.{slot_after_end, on_settled}
use Rattle.wf_law_runs.proofs.Common.Flushes.{flush_at, if_flushed, if_caught}
use Rattle.wf_law_runs.proofs.Common.Picked.{picked_world}
use Rattle.wf_law_runs.proofs.Sessions.Flights.{AllIn, Rises, all_in_later}
use Rattle.wf_law_runs.proofs.Deficits.Configs.{config_step}
use Rattle.wf_law_runs.proofs.Windows.Opened.{eight}
use Rattle.wf_law_runs.proofs.Windows.Sides.{Same, sides_of, then_same, each_side_on, same_on_station, same_on_share, same_on_queue, same_finish, same_listed, same_after_pick, same_after_turn, same_spent, same_take, same_charged, same_picked, same_weighed, same_ended, begun_is, ceased_is}
use Rattle.wf_law_runs.proofs.Windows.Agreed.{IsLawful, IsReady, IsEnding, IsFound, found, ready_filled, ending_settled, ending_of, lawful_same, lawful_step, lawful_at_first, session_same, winner_ready, same_left_tids, same_off_lists}
use Rattle.wf_law_runs.proofs.Frames.Delivered.{same_enqueued}

-- The attempts of each number of a session.
abbrev pub AllTried : ℕ → Session → Type 0
AllTried limit y = (i : ℕ) → IsTried limit (at no_slot y.slots i)

-- The attempts of each number of each session.
abbrev pub Tried : ℕ → World → Type 0
Tried limit w = (s t : ℕ) → AllTried limit (session w s t)

-- ---- sessions

pub none_given : (limit : ℕ) → 1 ≤ limit → IsTried limit no_slot
none_given limit some = record { fewer = λ _. omega (arith, some); failed = λ e. absurd (cc e) }

tried_put : (limit : ℕ) (y : Session) (n : ℕ) (f : Slot → Slot) → IsTried limit (f (slot y n)) →
    AllTried limit y → AllTried limit (on_slot n f y)
tried_put limit y n f k h = each_put (λ i x. IsTried limit x) no_slot y.slots (n - y.first) (f (slot y n)) h k

tried_append : (limit : ℕ) (xs : List Slot) (x : Slot) → IsTried limit x →
    ((i : ℕ) → IsTried limit (at no_slot xs i)) → (i : ℕ)
    → IsTried limit (at no_slot (xs ++ x ∷ []) i)
tried_append limit [] x k h zero = k
tried_append limit [] x k h (suc i) = h i
tried_append limit (y ∷ xs) x k h zero = h zero
tried_append limit (y ∷ xs) x k h (suc i) = tried_append limit xs x k (λ j. h (suc j)) i

tried_give : (limit : ℕ) (y : Session) (id : ℕ) → 1 ≤ limit → AllTried limit y →
    AllTried limit (with_number_given y id)
tried_give limit y id some h = tried_append limit y.slots _
    (record { fewer = λ _. omega (arith, some); failed = λ e. absurd (cc e) }) h

-- Waiting numbers are sent: their attempts do not change.
tried_fly : (ms : List Mpdu) (limit : ℕ) (y : Session) (e lo hi : ℕ) → y.first ≤ lo → Rises lo hi ms →
    AllIn y State.Waiting ms
    → AllTried limit y → AllTried limit (with_flying e ms y)
tried_fly [] limit y e lo hi b r a h = h
tried_fly (m ∷ ms) limit y e lo hi b r a h =
    let f : Slot → Slot = λ x. record x { state = State.Flying e } in
    let flies : IsTried limit (f (slot y m.number)) =
    record {
      fewer = λ _. (h (m.number - y.first)).fewer (ap is_failed a.0);
      failed =
          λ no. absurd (cc no);
    } in
    tried_fly ms limit (on_slot m.number f y) e (suc m.number) hi (omega (arith, r.0)) r.2
    (all_in_later y State.Waiting m.number hi f ms (omega (arith, r.0)) r.2 a.1)
    (tried_put limit y m.number f flies h)

-- One attempt more: below the limit the number waits again, and at the limit it fails.
tried_miss : (limit : ℕ) (x : Slot) → x.attempts < limit → IsTried limit (slot_after_miss limit x)
tried_miss limit x few = go (nat_le limit (x.attempts + 1))
    (λ e. omega (arith, few, le_yes limit (x.attempts + 1) e))
    (λ e. omega (arith, le_no limit (x.attempts + 1) e))
  where
    go : (b : Bool) → (b ≡ true → x.attempts + 1 ≡ limit) → (b ≡ false → x.attempts + 1 < limit) →
        IsTried limit (record {
          id = x.id;
          attempts = x.attempts + 1;
          state =
              if b then State.Failed else State.Waiting;
        })
    go true h k = record { fewer = λ no. absurd (cc no); failed = λ _. h refl }
    go false h k = record { fewer = λ _. k refl; failed = λ no. absurd (cc no) }

-- ---- worlds

tried_same : (limit : ℕ) (w v : World) → Same w v → Tried limit w → Tried limit v
tried_same limit w v h k s t = subst (AllTried limit) (sym (session_same w v h s t)) (k s t)

tried_on_session : (limit : ℕ) (w : World) (s t : ℕ) (f : Session → Session) →
    AllTried limit (f (session w s t)) → Tried limit w
    → Tried limit (on_session w s t f)
unfolding on_session
tried_on_session limit w s t f k h = each_side_on (λ _ _ z. AllTried limit z.session) w s t
    (λ y. record y { session = f y.session }) h k

tried_on_tid : (limit : ℕ) (w : World) (s t : ℕ) (f : Tid → Tid) → AllTried limit (f (tid_of w s t)).session →
    Tried limit w → Tried limit (on_tid w s t f)
tried_on_tid limit w s t f k h = each_side_on (λ _ _ z. AllTried limit z.session) w s t f h k

tried_with_station : (limit : ℕ) (w : World) (s : ℕ) (o : Option Station) →
    ((t : ℕ) → AllTried limit (sides_of o t).session)
    → Tried limit w → Tried limit (with_station w s o)
unfolding with_station
tried_with_station limit w s o k h = each_put
    (λ _ z. (t : ℕ) → AllTried limit (sides_of z t).session) None w.stations s o h k

-- ---- a pull

tried_number : (o : Option Item) (limit : ℕ) (w : World) (s t : ℕ) → 1 ≤ limit → Tried limit w →
    Tried limit (with_number w s t o)
unfolding with_number
tried_number None limit w s t some h = h
tried_number (Some x) limit w s t some h = tried_on_session limit w s t _
    (tried_give limit (session w s t) x.id some (h s t)) h

filled_if : (b : Bool) (limit : ℕ) (x y : Aggregate) → Tried limit x.world → Tried limit y.world →
    Tried limit (if b then x else y).world
filled_if true limit x y h k = h
filled_if false limit x y h k = k

tried_fresh : (n limit : ℕ) (w : World) (s t : ℕ) (ms : List Mpdu) → 1 ≤ limit → Tried limit w →
    Tried limit (with_fresh n w s t ms).world
unfolding with_fresh
tried_fresh zero limit w s t ms some h = h
tried_fresh (suc n) limit w s t ms some h =
    let taken = taken_for_tid w s t in
    let numbered : Tried limit (with_number taken.world s t taken.item) =
    tried_number taken.item limit taken.world s t some
    (tried_same limit w taken.world (same_take w s t) h) in
    filled_if (not (can_give w s t)) limit _ _ h (filled_if _ limit _ _
    (tried_fresh n limit _ s t _ some numbered) numbered)

tried_filled : (limit : ℕ) (w : World) (s t : ℕ) → 1 ≤ limit → Tried limit w →
    Tried limit (aggregate_of w s t).world
unfolding aggregate_of
tried_filled limit w s t some h =
    let chosen : List Mpdu = longest_fitting w s (waiting_mpdus w s t) in
    filled_if (length chosen == length (waiting_mpdus w s t)) limit
    (with_fresh (most_frames w s - length chosen) w s t chosen) (record { world = w; mpdus = chosen })
    (tried_fresh (most_frames w s - length chosen) limit w s t chosen some h) h

tried_flying : (limit s t : ℕ) (f : Aggregate) → IsReady s t f.world f.mpdus → Tried limit f.world →
    Tried limit (prepared_data s t f).world
unfolding prepared_data
tried_flying limit s t f r h =
    let y : Session = session f.world s t in
    tried_on_session limit f.world s t _ (tried_fly f.mpdus limit y f.world.exchanges y.first _
    (omega arith) r.chosen.rising r.chosen.waiting (h s t)) h

prepared_if : (b : Bool) (limit : ℕ) (x y : Prepared) → Tried limit x.world →
    (b ≡ false → Tried limit y.world) → Tried limit (if b then x else y).world
prepared_if true limit x y h k = h
prepared_if false limit x y h k = k refl

tried_prepared : (limit : ℕ) (w : World) (s t : ℕ) → 1 ≤ limit → IsLawful w → is_live w s ≡ true →
    Tried limit w → Tried limit (prepared_exchange w s t).world
unfolding prepared_exchange
tried_prepared limit w s t some i live h =
    prepared_if (request_due (session w s t)) limit _ _ h
    (λ quiet. tried_flying limit s t (aggregate_of w s t) (ready_filled w s t i live quiet)
    (tried_filled limit w s t some h))

tried_sent : (limit s t : ℕ) (c : Class) (p : Prepared) → Tried limit p.world →
    Tried limit (send_outcome s t c p).world
unfolding send_outcome with_exchange_opened
tried_sent limit s t c p h = tried_same limit _ _ (same_spent _ _) h

tried_pulled_by : (o : Option ℕ) (limit : ℕ) (w : World) (c : Class) →
    IfSome o (λ s. (is_live w s ≡ true) × (can_send_in w s c ≡ true))
    → 1 ≤ limit → IsLawful w → Tried limit w → Tried limit (pull_outcome_for w c o).world
unfolding pull_outcome_for
tried_pulled_by None limit w c ready some i h = h
tried_pulled_by (Some s) limit w c ready some i h =
    let k : Same w (after_tid_turn w s c (sending_tid w s c)) = same_after_turn w s c (sending_tid w s c) in
    tried_sent limit s _ c _ (tried_prepared limit _ s _ some (lawful_same _ _ k i) (k.live s ∙ ready.0)
    (tried_same limit _ _ k h))

tried_pulled : (limit : ℕ) (w : World) (c : Class) (l : Limits) → 1 ≤ limit → IsLawful w → Tried limit w →
    Tried limit (pull_outcome w c l).world
unfolding pull_outcome
tried_pulled limit w c l some i h =
    let k : Same w (picked_world w c l) = same_picked w c l in
    tried_pulled_by (picked_station w c).winner limit (picked_world w c l) c (winner_ready w c l) some
    (lawful_same _ _ k i) (tried_same limit _ _ k h)

-- ---- the end of an exchange

config_settled : (end : End) (w : World) (s t : ℕ) (m : Mpdu) → (with_settled w s t end m).config ≡ w.config
unfolding with_settled with_failed_finished with_frame_finished with_fate on_session on_tid on_station
    with_station
config_settled end w s t m = on_settled (λ v. v.config ≡ w.config) end w s t m (λ _. refl)
    (λ _. on_if (λ (v : World). v.config ≡ w.config) _ _ _ (λ _. refl) (λ _. refl))

-- A number on the air is acknowledged, waits again, or fails.
tried_end : (end : End) (limit : ℕ) (x : Slot) → x.attempts < limit →
    IsTried limit (slot_after_end limit end x)
tried_end End.Acknowledged limit x few = record { fewer = λ _. few; failed = λ no. absurd (cc no) }
tried_end End.Missed limit x few = tried_miss limit x few
tried_end End.GivenUp limit x few = record { fewer = λ no. absurd (cc no); failed = λ _. refl }
tried_end End.Unsent limit x few = record { fewer = λ _. few; failed = λ no. absurd (cc no) }

tried_settled : (end : End) (limit e : ℕ) (w : World) (s t : ℕ) (m : Mpdu) → w.config.attempts ≡ limit
    → (slot (session w s t) m.number).state ≡ State.Flying e → Tried limit w →
    Tried limit (with_settled w s t end m)
unfolding with_settled with_failed_finished
tried_settled end limit e w s t m same_limit flies h =
    let y : Session = session w s t in
    let few : (slot y m.number).attempts < limit = (h s t (m.number - y.first)).fewer (ap is_failed flies) in
    let f : Slot → Slot = slot_after_end w.config.attempts end in
    let ended : AllTried limit (on_slot m.number f y) =
    subst (λ (n : ℕ). AllTried limit (on_slot m.number (slot_after_end n end) y)) (sym same_limit)
    (tried_put limit y m.number (slot_after_end limit end) (tried_end end limit (slot y m.number) few)
    (h s t)) in
    let v : World = on_session w s t (on_slot m.number f) in
    let k : Tried limit v = tried_on_session limit w s t (on_slot m.number f) ended h in
    on_settled (Tried limit) end w s t m
    (λ _. tried_same limit _ _ (same_finish _ _ _)
    (tried_on_session limit w s t (with_state State.Acked m.number)
    (tried_put limit y m.number (λ x. record x { state = State.Acked })
    (tried_end End.Acknowledged limit (slot y m.number) few) (h s t)) h))
    (λ _. on_if (Tried limit) (is_failed (slot (session v s t) m.number).state) _ v
    (λ _. tried_same limit v _ (same_finish v _ _) k) (λ _. k))

tried_all : (ms : List Mpdu) (limit e s t : ℕ) (w : World) (ends : ℕ → End) → w.config.attempts ≡ limit →
    IsEnding e s t ends w ms
    → Tried limit w → Tried limit (with_all_settled w s t ends ms)
unfolding with_all_settled
tried_all [] limit e s t w ends same_limit n h = h
tried_all (m ∷ ms) limit e s t w ends same_limit n h =
    tried_all ms limit e s t _ ends (ap (λ (c : Config). c.attempts)
    (config_settled (ends m.number) w s t m) ∙ same_limit)
    (ending_settled (ends m.number) e s t ends w m ms refl n)
    (tried_settled (ends m.number) limit e w s t m same_limit n.flies.flying.0 h)

tried_heard : (b : Bool) (limit f : ℕ) (y : Session) → AllTried limit y →
    AllTried limit (with_heard_start b f y)
tried_heard true limit f y h = h
tried_heard false limit f y h = h

tried_caught : (limit : ℕ) (w : World) (s t : ℕ) → Tried limit w → Tried limit (caught_up w s t)
unfolding caught_up on_receiver
tried_caught limit w s t h =
    let start : ℕ = start_of (session w s t) in
    let u : World = on_session w s t (with_heard_start true start) in
    let k : Tried limit u = tried_on_session limit w s t (with_heard_start true start)
    (tried_heard true limit start (session w s t) (h s t)) h in
    each_side_on (λ _ _ z. AllTried limit z.session) u s t
    (λ y. record y { receiver = with_start start y.receiver }) k (k s t)

tried_caught_up : (limit : ℕ) (w : World) (s t : ℕ) → Tried limit w → Tried limit (caught_up_if_plain w s t)
tried_caught_up limit w s t h = if_caught (Tried limit) w s t h (λ _. tried_caught limit w s t h)

tried_after : (air : Option ℕ) (c : Content) (limit : ℕ) (w : World) (i : IsLawful w) (x : Exchange)
    (heard : Bool)
    (v : World) → x.content ≡ c
    → v ≡ after_charge (without_exchange w x.number) x air → v.config.attempts ≡ limit → IsFound w i x →
    Tried limit v
    → Tried limit (after_done v x heard c)
unfolding after_done
tried_after air (Frames ms) limit w i x heard v e is same_limit f h =
    tried_caught_up limit _ x.station x.tid
    (tried_all ms limit x.number x.station x.tid v (end_of v x heard) same_limit
    (subst (λ (u : World). IsEnding x.number x.station x.tid (end_of u x heard) u ms) (sym is)
    (ending_of air w i x ms heard e f)) h)
tried_after air (Request g) limit w i x heard v e is same_limit f h =
    tried_on_session limit v x.station x.tid _
    (tried_heard heard limit g (session v x.station x.tid) (h x.station x.tid)) h

config_charged : (air : Option ℕ) (w : World) (x : Exchange) →
    (after_charge (without_exchange w x.number) x air).config ≡ w.config
unfolding after_charge without_exchange on_share on_station with_station
config_charged air w x = refl

tried_without : (limit : ℕ) (w : World) (e : ℕ) → Tried limit w → Tried limit (without_exchange w e)
unfolding without_exchange
tried_without limit w e h = h

tried_ended : (air : Option ℕ) (limit : ℕ) (w : World) (i : IsLawful w) (x : Exchange) (heard : Bool) →
    w.config.attempts ≡ limit → IsFound w i x
    → Tried limit w → Tried limit (done_outcome w x heard air).world
unfolding done_outcome
tried_ended air limit w i x heard same_limit f h =
    tried_after air x.content limit w i x heard _ refl refl
    (ap (λ (c : Config). c.attempts) (config_charged air w x) ∙ same_limit) f
    (tried_same limit _ _ (same_charged air (without_exchange w x.number) x)
    (tried_without limit w x.number h))

-- ---- the other calls

tried_arrived : (limit : ℕ) (w : World) (x : Exchange) (n : ℕ) → Tried limit w →
    Tried limit (arrive_outcome w x n).world
unfolding arrive_outcome with_exchange on_receiver
tried_arrived limit w x n h = each_side_on (λ _ _ z. AllTried limit z.session) w x.station x.tid
    (λ y. record y { receiver = after_arrival x.content n y.receiver }) h (h x.station x.tid)

tried_answered : (limit : ℕ) (w : World) (x : Exchange) → Tried limit w →
    Tried limit (answer_outcome w x).world
unfolding answer_outcome with_exchange
tried_answered limit w x h = h

tried_marked : (limit : ℕ) (w : World) (x : Exchange) (unsent given_up : List ℕ) → Tried limit w →
    Tried limit (marked_world w x unsent given_up)
unfolding with_exchange
tried_marked limit w x unsent given_up h = h

tried_unsent : (limit : ℕ) (w : World) (x : Exchange) (n : ℕ) → Tried limit w →
    Tried limit (unsent_outcome w x n).world
unfolding unsent_outcome
tried_unsent limit w x n h = tried_marked limit w x (with_member n x.unsent) x.given_up h

tried_given_up : (limit : ℕ) (w : World) (x : Exchange) (n : ℕ) → Tried limit w →
    Tried limit (give_up_outcome w x n).world
unfolding give_up_outcome
tried_given_up limit w x n h = tried_marked limit w x x.unsent (with_member n x.given_up) h

-- A number that a flush gives up has as many attempts as the limit says.
tried_flush : (limit : ℕ) (y : Session) → AllTried limit y → AllTried limit (after_flush limit y)
tried_flush limit y h i = subst (IsTried limit) (sym (flush_at limit y.slots i))
    (on_if (IsTried limit) (is_waiting (at no_slot y.slots i).state)
    (slot_given_up limit (at no_slot y.slots i)) (at no_slot y.slots i)
    (λ _. record { fewer = λ no. absurd (cc no); failed = λ _. refl }) (λ _. h i))

tried_failed : (limit : ℕ) (w : World) (s t : ℕ) → w.config.attempts ≡ limit → Tried limit w →
    Tried limit (on_session w s t (after_flush w.config.attempts))
tried_failed limit w s t same_limit h = tried_on_session limit w s t _
    (subst (λ (n : ℕ). AllTried limit (after_flush n (session w s t))) (sym same_limit)
    (tried_flush limit (session w s t) (h s t))) h

tried_flushed : (limit : ℕ) (w : World) (s t : ℕ) → w.config.attempts ≡ limit → Tried limit w →
    Tried limit (flush_outcome w s t).world
tried_flushed limit w s t same_limit h = if_flushed (Tried limit)
    (record {
      finish = λ u id k. tried_same limit u _ (same_finish u _ id) k;
      empty = λ u q k. tried_same limit u _ (same_on_queue u q _) k;
    }) w s t (λ v k _. tried_caught limit v s t k) (tried_failed limit w s t same_limit h)

-- ---- a TID is held or free, and its agreement begins or ends

tried_held : (limit : ℕ) (w : World) (s t : ℕ) → Tried limit w → Tried limit (hold_outcome w s t).world
unfolding hold_outcome with_mode
tried_held limit w s t h = tried_on_tid limit w s t _ (h s t) h

tried_begun : (limit : ℕ) (w : World) (s t window : ℕ) → Tried limit w →
    Tried limit (begin_outcome w s t window).world
tried_begun limit w s t window h = subst (Tried limit) (sym (begun_is w s t window))
    (tried_on_tid limit w s t _ (h s t) h)

tried_freed : (limit : ℕ) (w : World) (s t : ℕ) → Tried limit w → Tried limit (free_outcome w s t).world
unfolding free_outcome with_mode
tried_freed limit w s t h = tried_on_tid limit w s t _ (h s t) h

tried_ceased : (limit : ℕ) (w : World) (s t : ℕ) → w.config.attempts ≡ limit → Tried limit w →
    Tried limit (cease_outcome w s t).world
tried_ceased limit w s t same_limit h =
    let v : World = after_numbers_ended w s t in
    let k : Tried limit v = tried_same limit _ v (same_ended w s t) (tried_failed limit w s t same_limit h) in
    subst (Tried limit) (sym (ceased_is w s t)) (tried_on_tid limit v s t _ (k s t) k)

-- ---- stations join and leave

tried_new_station : (limit : ℕ) (w : World) (mode : Mode) (s window start exponent weight : ℕ)
    (offloaded : Bool) → 1 ≤ limit → Tried limit w → Tried limit (with_station w s
    (Some (new_station w.config mode window start exponent weight offloaded)))
tried_new_station limit w mode s window start exponent weight offloaded some h =
    tried_with_station limit w s _ (eight (λ y. AllTried limit y.session) (new_tid mode start window)
    (λ _. none_given limit some) (λ _. none_given limit some)) h

tried_joined : (limit : ℕ) (w : World) (s window start exponent weight : ℕ) → 1 ≤ limit → Tried limit w
    → Tried limit (join_outcome w s window start exponent weight).world
unfolding join_outcome
tried_joined limit w s window start exponent weight some h =
    tried_new_station limit w Mode.Agreed s window start exponent weight false some h

tried_offloaded : (limit : ℕ) (w : World) (s exponent weight : ℕ) → 1 ≤ limit → Tried limit w
    → Tried limit (offload_outcome w s exponent weight).world
unfolding offload_outcome
tried_offloaded limit w s exponent weight some h =
    tried_new_station limit w Mode.Plain s greatest_window 0 exponent weight true some h

tried_plain : (limit : ℕ) (w : World) (s start exponent weight : ℕ) → 1 ≤ limit → Tried limit w
    → Tried limit (plain_outcome w s start exponent weight).world
unfolding plain_outcome
tried_plain limit w s start exponent weight some h =
    tried_new_station limit w Mode.Plain s plain_window start exponent weight false some h

tried_gone : (limit : ℕ) (w : World) (s : ℕ) → 1 ≤ limit → Tried limit w →
    Tried limit (leave_outcome w s).world
unfolding leave_outcome
tried_gone limit w s some h =
    tried_with_station limit _ s None (λ _ _. none_given limit some)
    (tried_same limit w _ (then_same _ _ _ (same_left_tids (upto 8) w s) (same_off_lists all_classes _ s))
    h)

tried_reaped : (ids : List ℕ) (limit : ℕ) (w : World) → Tried limit w → Tried limit (reap_outcome w ids).world
unfolding reap_outcome
tried_reaped [] limit w h = h
tried_reaped (id ∷ ids) limit w h = h

tried_open : (P : Exchange → Type 0) (o : Option Exchange) (limit : ℕ) (w : World) (f : Exchange → Outcome) →
    IfSome o P
    → ((x : Exchange) → P x → Tried limit (f x).world) → Tried limit w →
    Tried limit (outcome_where_open w o f).world
unfolding outcome_where_open
tried_open P None limit w f p k h = h
tried_open P (Some x) limit w f p k h = k x p

-- ---- the step

tried_done : (note : Note) (limit : ℕ) (w : World) → 1 ≤ limit → w.config.attempts ≡ limit → IsLawful w →
    Tried limit w → Tried limit (outcome_of w note).world
unfolding outcome_of tick_outcome rate_outcome sleep_outcome wake_outcome poll_outcome rx_outcome
tried_done (Enqueue s t flow len) limit w some same_limit i h =
    tried_same limit w _ (same_enqueued w s t flow len) h
tried_done (Asked (Join s window start exponent weight)) limit w some same_limit i h =
    tried_joined limit w s window start exponent weight some h
tried_done (Asked (Offload s exponent weight)) limit w some same_limit i h =
    tried_offloaded limit w s exponent weight some h
tried_done (Asked (Weight s weight)) limit w some same_limit i h =
    tried_same limit w _ (same_weighed w s weight) h
tried_done (Asked (Plain s start exponent weight)) limit w some same_limit i h =
    tried_plain limit w s start exponent weight some h
tried_done (Asked (Hold s t)) limit w some same_limit i h = tried_held limit w s t h
tried_done (Asked (Begin s t window)) limit w some same_limit i h = tried_begun limit w s t window h
tried_done (Asked (Free s t)) limit w some same_limit i h = tried_freed limit w s t h
tried_done (Asked (Cease s t)) limit w some same_limit i h = tried_ceased limit w s t same_limit h
tried_done (Asked (Leave s)) limit w some same_limit i h = tried_gone limit w s some h
tried_done (Asked (Rate s rate)) limit w some same_limit i h =
    tried_same limit w _ (same_on_station w s _ (λ x t. refl)) h
tried_done (Asked (Tick by)) limit w some same_limit i h = h
tried_done (Asked (Pull c l)) limit w some same_limit i h = tried_pulled limit w c l some i h
tried_done (Asked (Arrive e n)) limit w some same_limit i h =
    tried_open (IsFound w i) (exchange w e) limit w _ (found w i e) (λ x _. tried_arrived limit w x n h) h
tried_done (Asked (Answer e)) limit w some same_limit i h =
    tried_open (IsFound w i) (exchange w e) limit w _ (found w i e) (λ x _. tried_answered limit w x h) h
tried_done (Asked (Done e heard air)) limit w some same_limit i h =
    tried_open (IsFound w i) (exchange w e) limit w _ (found w i e)
    (λ x f. tried_ended air limit w i x heard same_limit f h) h
tried_done (Asked (Sleep s)) limit w some same_limit i h =
    tried_same limit w _ (same_on_station w s _ (λ x t. refl)) h
tried_done (Asked (Ampdu s octets)) limit w some same_limit i h =
    tried_same limit w _ (same_on_station w s _ (λ x t. refl)) h
tried_done (Asked (Stop s)) limit w some same_limit i h =
    tried_same limit w _ (same_on_station w s _ (λ x t. refl)) h
tried_done (Asked (Start s)) limit w some same_limit i h =
    tried_same limit w _ (same_on_station w s _ (λ x t. refl)) h
tried_done (Asked (Wake s)) limit w some same_limit i h =
    tried_same limit w _ (same_on_station w s _ (λ x t. refl)) h
tried_done (Asked (Poll s)) limit w some same_limit i h =
    tried_same limit w _ (same_on_station w s _ (λ x t. refl)) h
tried_done (Asked (Rx s c air)) limit w some same_limit i h = tried_same limit w _ (same_on_share w s c _) h
tried_done (Asked Reap) limit w some same_limit i h = tried_reaped w.finished limit w h
tried_done (Asked (Unsent e n)) limit w some same_limit i h =
    tried_open (IsFound w i) (exchange w e) limit w _ (found w i e) (λ x _. tried_unsent limit w x n h) h
tried_done (Asked (GiveUp e n)) limit w some same_limit i h =
    tried_open (IsFound w i) (exchange w e) limit w _ (found w i e) (λ x _. tried_given_up limit w x n h) h
tried_done (Asked (Flush s t)) limit w some same_limit i h = tried_flushed limit w s t same_limit h
tried_done (Asked (Group ask)) limit w some same_limit i h = h
tried_done (Asked (Service ask)) limit w some same_limit i h =
    tried_same limit w _ (same_on_station w (station_served ask) _ (λ x t. refl)) h
tried_done (Asked (Bss s b)) limit w some same_limit i h =
    tried_same limit w _ (same_on_station w s _ (λ x t. refl)) h

tried_refused : (note : Note) (r : Refusal) (limit : ℕ) (w : World) → Tried limit w →
    Tried limit (after_refusal w note r)
unfolding after_refusal
tried_refused (Asked (Pull c l)) Idle limit w h = after_idle (Tried limit) w c h
    (tried_same limit w _ (same_after_pick w c) h)
tried_refused _ _ limit w h = h

tried_answer : (r : Option Refusal) (limit : ℕ) (w : World) (note : Note) → 1 ≤ limit →
    w.config.attempts ≡ limit → IsLawful w
    → Tried limit w → Tried limit (judged_outcome w note r).world
unfolding judged_outcome
tried_answer (Some r) limit w note some same_limit i h = tried_refused note r limit w h
tried_answer None limit w note some same_limit i h =
    tried_same limit (outcome_of w note).world _
    (same_listed (concerned_station w note) (outcome_of w note).world)
    (tried_done note limit w some same_limit i h)

pub tried_step : (limit : ℕ) (w : World) (note : Note) → 1 ≤ limit → w.config.attempts ≡ limit → IsLawful w →
    Tried limit w → Tried limit (step w note).world
unfolding step
tried_step limit w note some same_limit i h = tried_answer (refusal w note) limit w note some same_limit i h

tried_run : (h : List Entry) (limit : ℕ) (w : World) → 1 ≤ limit → w.config.attempts ≡ limit → IsLawful w →
    Tried limit w → Tried limit (world_after w h)
unfolding world_after
tried_run [] limit w some same_limit i h = h
tried_run (e ∷ es) limit w some same_limit i h =
    tried_run es limit (step w e.1).world some (ap (λ (c : Config). c.attempts) (config_step w e.1)
    ∙ same_limit) (lawful_step w e.1 i) (tried_step limit w e.1 some same_limit i h)

pub attempts_law : (config : Config) (h : List Entry) → IsInRange config → AttemptsLaw config h
attempts_law config h range m s t n =
    let some : 1 ≤ config.attempts = omega (arith, range.attempts.0) in
    tried_run (take m h) config.attempts (opening config) some refl (lawful_at_first config)
    (λ s t i. none_given config.attempts some) s t (n - (session (world_at config h m) s t).first)
