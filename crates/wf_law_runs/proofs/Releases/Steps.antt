-- Proves that a relation of the released ids and a world holds after each call, if each elementary change
-- keeps it: frames leave the queues, a session keeps its numbers, a number is given, numbers are released,
-- a station joins or leaves, and a frame is enqueued.
use Rattle.std.proofs.Common.{◌≡◌, refl, ap, sym, ◌∙◌, subst, arith, ℕ, zero, suc, ◌+◌, ◌-◌, ◌<◌, append-nil, Bool, true, false, if◌then◌else◌, not, ◌==◌, inl, inr, List, [], ◌∷◌, ◌++◌, length, nat_le, Option, Some, None, IfSome, ◌&&◌}
use Rattle.wf_frame.specs.declared.classes.Class.{Class}
use Rattle.wf_frame.specs.declared.classes.Fate.{Fate}
use Rattle.wf_def_lists.specs.Table.{with_member, upto}
use Rattle.wf_def_codel.specs.Codel.{Item}
use Rattle.wf_def_lists.specs.Bounds.{greatest_window}
use Rattle.wf_def_agreement.specs.Receiver.{Receiver, with_start, released_between}
use Rattle.wf_def_agreement.specs.Session.{End, start_of, request_due, Session, Slot, State, is_settled, is_failed, slot, on_slot, with_number_given, after_flush, next_number}
use Rattle.wf_def_world.specs.World.{receiver, World, Station, Tid, on_tid, Exchange, Mpdu, Content, Frames, Request, new_tid, queue, rotation, session, is_live, exchange, with_station, on_station, on_session, on_receiver, with_frame_finished, with_exchange, without_exchange, Mode, Plain, OnHold, Agreed, is_agreed, is_held_back, has_agreement, tid_of}
use Rattle.wf_def_world.specs.Service.{station_served}
use Rattle.wf_frame.specs.Classes.{all_classes}
use Rattle.wf_def_world.specs.FlowQueues.{taken_for_tid}
use Rattle.wf_def_world.specs.CanSend.{is_ready, can_give}
use Rattle.wf_def_world.specs.Exchanges.{caught_up, caught_up_if_plain, end_of, transmissions, station_need, most_frames, picked_station, after_arrival, sending_tid, with_heard_start, Prepared, after_tid_turn, with_fresh, aggregate_of, with_number, with_flying, waiting_mpdus, longest_fitting, prepared_data, prepared_exchange, with_exchange_opened, after_charge, with_failed_finished, with_settled, with_all_settled, after_done, ids_of, Aggregate, exchange_of}
use Rattle.wf_frame.specs.declared.notes.Ask.TheVariants.{Join, Leave, Rate, Tick, Pull, Arrive, Answer, Done, Sleep, Wake, Poll, Rx, Reap, Ampdu, Stop, Start, Unsent, GiveUp, Flush, Offload, Weight, Hold, Begin, Free, Cease, Group, Service, Bss}
use Rattle.wf_frame.specs.declared.notes.Ask.TheVariants as call
use Rattle.wf_frame.specs.declared.notes.Limits.{Limits}
use Rattle.wf_frame.specs.declared.notes.Note.{Note}
use Rattle.wf_frame.specs.declared.notes.Note.TheVariants.{Enqueue, Asked}
use Rattle.wf_frame.specs.declared.notes.Refusal.{Refusal}
use Rattle.wf_frame.specs.declared.notes.Refusal.TheVariants.{Idle}
use Rattle.wf_def_world.specs.Refusals.{refusals, refusal}
use Rattle.wf_def_world.specs.Step.{Outcome, new_station, offload_outcome, weight_outcome, join_outcome, leave_outcome, rate_outcome, tick_outcome, enqueue_outcome, send_outcome, pull_outcome_for, pull_outcome, arrive_outcome, answer_outcome, done_outcome, outcome_where_open, sleep_outcome, wake_outcome, poll_outcome, rx_outcome, reap_outcome, unsent_outcome, give_up_outcome, flush_outcome, outcome_of, after_refusal, judged_outcome, step, concerned_station, plain_outcome, plain_window, begin_outcome, cease_outcome, after_numbers_ended}
use Rattle.wf_law_rules.proofs.Lemmas.Numbers.{on_if, on_bool, both, eq_yes, yes_eq, and_true}
use Rattle.wf_law_runs.proofs.Common.Refused.{after_idle}
use Rattle.wf_law_runs.proofs.Common.Marks.{marked_world}
use Rattle.wf_law_runs.proofs.Common.Ends.{slot_after_end, end_id, on_settled}
use Rattle.wf_law_runs.proofs.Common.Flushes.{next-flush, emptied_world, flush_is, if_emptied, if_caught}
use Rattle.wf_law_runs.proofs.Sessions.Starts.{length-change}
use Rattle.wf_law_runs.proofs.Sessions.Flights.{flown}
use Rattle.wf_law_runs.proofs.Windows.Sides.{sided, Side, side_on, same_weighed, side_of, side, sides_of, Same, then_same, same_on_station, same_on_share, same_on_queue, same_finish, same_listed, same_after_pick, same_after_turn, same_spent, same_take, same_charged, same_picked, same_held, same_freed, dead_sides, side_elsewhere, on_elsewhere, on_tid_twice, caught_up_is, renewed, begun_is, ceased_is, same_ended, ended_side}
use Rattle.wf_law_runs.proofs.Windows.Opened.{some_along, pick_ready, left_true, eight, NoRow, no_row}
use Rattle.wf_frame.specs.declared.notes.ReplyNote.TheVariants.{Released, Refused}
use Rattle.wf_law_runs.specs.Releases.{named_by}
use Rattle.wf_law_runs.proofs.Common.Picked.{picked_world}
use Rattle.wf_law_runs.proofs.Releases.Kept.{KeptSession, kept_on_slot, kept_fly, kept_heard, kept_flush, keep_numbers_ended}
use Rattle.wf_law_runs.proofs.Windows.Agreed.{AgreedAt, ending_all, lawful_emptied, IsLawful, IsOpenIn, IsReady, IsEnding, IsFound, found, ready_filled, ending_settled, ending_of, lawful_same, same_left_tids, same_off_lists, if_on, not_no}
use Rattle.wf_law_runs.proofs.Releases.Released.{side_taken, side_untaken, opened_in, ceased_ids, ceased_receiver}
use Rattle.wf_law_runs.proofs.Frames.Fewer.{less_on_tid, less_weighed, Less, then_less, less_plain, fewer_none, less_on_queue, less_on_station, less_on_share, less_finish, less_listed, less_after_pick, less_after_turn, less_spent, less_charged, less_take, IsTaken, given_take, less_picked, less_held, less_freed, less_ceased}
use Rattle.wf_law_runs.proofs.Releases.Placed.{Any, next-heard, Grows, grows_told, grows_after, less_taken, IsBare, new_bare, less_left_tids, less_off_lists, any_some, named_done}

-- A session changes after its TID.
on_session_after : (w : World) (s t : ℕ) (f : Session → Session) (g : Tid → Tid) →
    on_session (on_tid w s t g) s t f ≡ on_tid w s t (λ y. record (g y) { session = f (g y).session })
unfolding on_session
on_session_after w s t f g = on_tid_twice w s t g (λ y. record y { session = f y.session })

-- The end of an agreement releases these ids.
ceased_named : (w : World) (s t : ℕ) → named_by (cease_outcome w s t).reply ≡ ceased_ids w s t
unfolding cease_outcome
ceased_named w s t = refl

less_ceased_told : (w : World) (s t : ℕ) (f : Session → Session) (g : Tid → Tid) →
    Less Any (on_session (on_tid w s t g) s t f) (cease_outcome w s t).world
unfolding on_session on_tid on_station with_station
less_ceased_told w s t f g = then_less Any _ w _ (less_plain Any _ w refl refl) (less_ceased Any w s t)

-- The sides after an agreement ends: the session of the TID is flushed, and both sides catch up.
ceased_sides : (w : World) (s t : ℕ) → is_live w s ≡ true → (i j : ℕ) →
    side (cease_outcome w s t).world i j
    ≡ side (on_session (on_tid w s t (λ z. record z {
      receiver = record (with_start (start_of (session (after_numbers_ended w s t) s t)) z.receiver)
          { size = plain_window };
      mode = OnHold;
    })) s t (λ z. record (with_heard_start true (start_of (session (after_numbers_ended w s t) s t))
    (after_flush w.config.attempts z)) { size = plain_window })) i j
ceased_sides w s t live i j =
    let e : World = after_numbers_ended w s t in
    let start : ℕ = start_of (session e s t) in
    let f : Session → Session =
    λ z. record (with_heard_start true start (after_flush w.config.attempts z)) { size = plain_window } in
    let g : Tid → Tid = λ z. record z {
      receiver = record (with_start start z.receiver) { size = plain_window };
      mode = OnHold;
    } in
    let told : World = on_tid w s t (λ y. record (g y) { session = f (g y).session }) in
    ap (λ (v : World). side v i j) (ceased_is w s t) ∙ on_bool ((i == s) && (j == t))
    (λ own.
    let b = both (i == s) (j == t) own in
    subst (λ (a : ℕ). side (on_tid e s t (renewed start plain_window OnHold)) a j ≡ side told a j)
    (sym (eq_yes i s b.0))
    (subst (λ (c : ℕ). side (on_tid e s t (renewed start plain_window OnHold)) s c ≡ side told s c)
    (sym (eq_yes j t b.1))
    (side_on e s t (renewed start plain_window OnHold) ((keep_numbers_ended w s t).live s ∙ live)
    ∙ ap (λ (a : Side). record {
      session = record (with_heard_start true start a.session) { size = plain_window };
      receiver = record (with_start start a.receiver) { size = plain_window };
      agreed = false;
    }) (ended_side w s t live) ∙ sym (side_on w s t _ live))))
    (λ other.
    let apart : s ≡ i → t ≡ j → ⊥ = λ x y. cc (
      other,
      and_true (i == s) (j == t) (yes_eq i s (sym x)) (yes_eq j t (sym y)),
    ) in
    side_elsewhere e s t _ i j apart ∙ (same_ended w s t).sides i j ∙ on_elsewhere w s t _ i j apart
    ∙ sym (side_elsewhere w s t _ i j apart))
    ∙ ap (λ (v : World). side v i j) (sym (on_session_after w s t f g))

module _ (P : List ℕ → World → Type 0) (Good : World → Type 0)
    (plain : (l : List ℕ) (w v : World) → Less Any w v → ((s t : ℕ) → side v s t ≡ side w s t) → P l w →
    P l v)
    (kept : (l : List ℕ) (w : World) (s t : ℕ) (f : Session → Session) →
    KeptSession (session w s t) (f (session w s t)) →
    next_number (f (session w s t)) ≡ next_number (session w s t) → P l w → P l (on_session w s t f))
    (give : (l : List ℕ) (u v : World) (s t : ℕ) (x : Item) → Same u v → Less Any u v → IsTaken u v x → P
    l u →
    P l (on_session v s t (λ y. with_number_given y x.id)))
    (release : (l : List ℕ) (w v : World) (s t : ℕ) (q : Receiver) (b : Bool) → Good w → Less Any w v →
    ((i j : ℕ) → (i ≡ s → j ≡ t → ⊥) → side v i j ≡ side w i j) →
    side v s t ≡ record { session = session w s t; receiver = q; agreed = b } →
    Grows (session w s t) (receiver w s t) q → P l w →
    P (l ++ ids_of (session w s t) (released_between (receiver w s t) q)) v)
    (silent : (l : List ℕ) (w v : World) (s t : ℕ) (q : Receiver) (b : Bool) → Less Any w v →
    ((i j : ℕ) → (i ≡ s → j ≡ t → ⊥) → side v i j ≡ side w i j) →
    side v s t ≡ record { session = session w s t; receiver = q; agreed = b } →
    Grows (session w s t) (receiver w s t) q → P l w → P l v)
    (station_changed : (l : List ℕ) (w : World) (i : ℕ) (o : Option Station) →
    ((t : ℕ) → IsBare (sides_of o t)) → P l w → P l (with_station w i o))
    (enqueue : (l : List ℕ) (w : World) (s t flow len : ℕ) → Good w →
    NoRow (refusals w (Enqueue s t flow len)) → P l w → P l (enqueue_outcome w s t flow len).world) where
  pub through_number : (o : Option Item) (l : List ℕ) (u v : World) (s t : ℕ) → Same u v → Less Any u v →
      IfSome o (IsTaken u v) → P l u → P l (with_number v s t o)
  unfolding with_number
  through_number None l u v s t k h taken p = plain l u v h k.sides p
  through_number (Some x) l u v s t k h taken p = give l u v s t x k h taken p

  through_filled_if : (b : Bool) (l : List ℕ) (x y : Aggregate) → P l x.world → P l y.world →
      P l (if b then x else y).world
  through_filled_if true l x y h k = h
  through_filled_if false l x y h k = k

  through_fresh : (n : ℕ) (l : List ℕ) (w : World) (s t : ℕ) (ms : List Mpdu) → P l w →
      P l (with_fresh n w s t ms).world
  unfolding with_fresh
  through_fresh zero l w s t ms p = p
  through_fresh (suc n) l w s t ms p =
      let taken = taken_for_tid w s t in
      let numbered : P l (with_number taken.world s t taken.item) =
      through_number taken.item l w taken.world s t (same_take w s t) (less_take Any w s t)
      (given_take w s t) p in
      through_filled_if (not (can_give w s t)) l _ _ p
      (through_filled_if _ l _ _ (through_fresh n l _ s t _ numbered) numbered)

  pub through_filled : (l : List ℕ) (w : World) (s t : ℕ) → P l w → P l (aggregate_of w s t).world
  unfolding aggregate_of
  through_filled l w s t p =
      let chosen : List Mpdu = longest_fitting w s (waiting_mpdus w s t) in
      through_filled_if (length chosen == length (waiting_mpdus w s t)) l
      (with_fresh (most_frames w s - length chosen) w s t chosen) (record { world = w; mpdus = chosen })
      (through_fresh (most_frames w s - length chosen) l w s t chosen p) p

  -- ---- pulls

  pub through_frames : (l : List ℕ) (s t : ℕ) (f : Aggregate) → IsReady s t f.world f.mpdus → P l f.world →
      P l (prepared_data s t f).world
  unfolding prepared_data
  through_frames l s t f r p =
      let y : Session = session f.world s t in
      kept l f.world s t (with_flying f.world.exchanges f.mpdus)
      (kept_fly f.mpdus y f.world.exchanges)
      (flown f.mpdus y f.world.exchanges (next_number y) y.first
      (omega arith) r.chosen.rising r.chosen.waiting).next p

  through_prepared_if : (b : Bool) (l : List ℕ) (x y : Prepared) → P l x.world →
      (b ≡ false → P l y.world) → P l (if b then x else y).world
  through_prepared_if true l x y h k = h
  through_prepared_if false l x y h k = k refl

  through_prepared : (l : List ℕ) (w : World) (s t : ℕ) → IsLawful w → is_live w s ≡ true → P l w →
      P l (prepared_exchange w s t).world
  unfolding prepared_exchange
  through_prepared l w s t i live p = through_prepared_if (request_due (session w s t)) l _ _ p
      (λ quiet. through_frames l s t (aggregate_of w s t) (ready_filled w s t i live quiet)
      (through_filled l w s t p))

  through_sent : (l : List ℕ) (s t : ℕ) (c : Class) (q : Prepared) → P l q.world →
      P l (send_outcome s t c q).world
  unfolding send_outcome with_exchange_opened
  through_sent l s t c q p = plain l _ _ (less_spent Any _ _) (same_spent _ (exchange_of s t c q)).sides
      (plain l q.world _ (less_plain Any q.world _ refl refl) (λ i j. refl) p)

  through_same : (l : List ℕ) (w v : World) → Same w v → Less Any w v → P l w → P l v
  through_same l w v k h p = plain l w v h k.sides p

  through_pulled_by : (o : Option ℕ) (l : List ℕ) (w : World) (c : Class) → IfSome o (λ s. is_live w s ≡
      true) →
      IsLawful w → P l w → P l (pull_outcome_for w c o).world
  unfolding pull_outcome_for
  through_pulled_by None l w c live i p = p
  through_pulled_by (Some s) l w c live i p =
      let k : Same w (after_tid_turn w s c (sending_tid w s c)) = same_after_turn w s c (sending_tid w s c) in
      through_sent l s _ c _ (through_prepared l _ s _ (lawful_same _ _ k i) (k.live s ∙ live)
      (through_same l w _ k (less_after_turn Any w s c _) p))

  through_pulled : (l : List ℕ) (w : World) (c : Class) (limits : Limits) → IsLawful w → P l w →
      P l (pull_outcome w c limits).world
  unfolding pull_outcome
  through_pulled l w c limits i p =
      let k : Same w (picked_world w c limits) = same_picked w c limits in
      through_pulled_by (picked_station w c).winner l (picked_world w c limits) c
      (some_along (λ s. is_ready w c s ≡ true) (λ s. is_live (picked_world w c limits) s ≡ true)
      (picked_station w c).winner (λ s h. k.live s ∙ left_true (is_live w s) _ h)
      (pick_ready (station_need w c) (is_ready w c) (rotation w c))) (lawful_same _ _ k i)
      (through_same l w _ k (less_picked Any w c limits) p)

  -- ---- the end of an exchange

  through_slot : (l : List ℕ) (e s t : ℕ) (ends : ℕ → End) (w : World) (m : Mpdu) (ms : List Mpdu)
      (f : Slot → Slot) → ((x : Slot) → (f x).id ≡ x.id) → IsEnding e s t ends w (m ∷ ms) → P l w →
      P l (on_session w s t (on_slot m.number f))
  through_slot l e s t ends w m ms f h n p =
      let y : Session = session w s t in
      let unsettled : is_settled (slot y m.number).state ≡ false = ap is_settled n.flies.flying.0 in
      kept l w s t (on_slot m.number f) (kept_on_slot y m.number f h)
      (ap (λ (k : ℕ). y.first + k) (length-change y.slots (m.number - y.first) f unsettled)) p

  through_if : (b : Bool) (l : List ℕ) (w v : World) → P l w → P l v → P l (if b then w else v)
  through_if true l w v h k = h
  through_if false l w v h k = k

  through_finish : (l : List ℕ) (w : World) (fate : Fate) (id : ℕ) → P l w →
      P l (with_frame_finished w fate id)
  through_finish l w fate id p = through_same l w _ (same_finish w fate id)
      (less_finish Any w fate id (λ _. tt)) p

  pub through_settled : (end : End) (l : List ℕ) (e s t : ℕ) (ends : ℕ → End) (w : World) (m : Mpdu)
      (ms : List Mpdu) → IsEnding e s t ends w (m ∷ ms) → P l w → P l (with_settled w s t end m)
  unfolding with_settled with_failed_finished
  through_settled end l e s t ends w m ms n p =
      let f : Slot → Slot = slot_after_end w.config.attempts end in
      let v : World = on_session w s t (on_slot m.number f) in
      let k : P l v = through_slot l e s t ends w m ms f (λ x. end_id w.config.attempts end x) n p in
      on_settled (P l) end w s t m
      (λ _. through_finish l _ _ _ (through_slot l e s t ends w m ms (λ x. record x { state = State.Acked })
      (λ x. refl) n p))
      (λ _. through_if (is_failed (slot (session v s t) m.number).state) l _ v (through_finish l v _ _ k) k)

  through_all : (ms : List Mpdu) (l : List ℕ) (e s t : ℕ) (ends : ℕ → End) (w : World) →
      IsEnding e s t ends w ms → P l w → P l (with_all_settled w s t ends ms)
  unfolding with_all_settled
  through_all [] l e s t ends w n p = p
  through_all (m ∷ ms) l e s t ends w n p = through_all ms l e s t ends _
      (ending_settled (ends m.number) e s t ends w m ms refl n)
      (through_settled (ends m.number) l e s t ends w m ms n p)

  -- The receiver of a TID gets a start, and a window and a mode, and no id is released. The session keeps its
  -- numbers.
  through_told : (l : List ℕ) (w : World) (s t : ℕ) (f : Session → Session) (q : Receiver → Receiver)
      (mode : Mode → Mode) → is_live w s ≡ true → KeptSession (session w s t) (f (session w s t)) →
      next_number (f (session w s t)) ≡ next_number (session w s t) →
      Grows (session w s t) (receiver w s t) (q (receiver w s t)) → P l w →
      P l (on_tid w s t (λ y. record y {
        mode = mode y.mode;
        session = f y.session;
        receiver = q y.receiver;
      }))
  through_told l w s t f q mode live k next grows p =
      let g : Tid → Tid = λ y. record y { receiver = q y.receiver; mode = mode y.mode } in
      let v : World = on_tid w s t g in
      let own : side v s t ≡ record {
        session = session w s t;
        receiver = q (receiver w s t);
        agreed = has_agreement (mode (tid_of w s t).mode);
      } = side_on w s t g live in
      let same_y : session v s t ≡ session w s t = ap (λ (a : Side). a.session) own in
      subst (P l) (on_session_after w s t f g)
      (kept l v s t f (subst (λ (y : Session). KeptSession y (f y)) (sym same_y) k)
      (subst (λ (y : Session). next_number (f y) ≡ next_number y) (sym same_y) next)
      (silent l w v s t (q (receiver w s t)) (has_agreement (mode (tid_of w s t).mode))
      (less_on_tid Any w s t g) (λ i j apart. side_elsewhere w s t g i j (λ e d. apart (sym e) (sym d))) own
      grows p))

  -- A TID without an agreement catches up.
  through_caught : (l : List ℕ) (w : World) (s t : ℕ) → AgreedAt (side w s t) → P l w →
      P l (caught_up w s t)
  through_caught l w s t a p =
      let start : ℕ = start_of (session w s t) in
      subst (P l) (sym (caught_up_is w s t)) (on_bool (is_live w s)
      (λ live. through_told l w s t (with_heard_start true start) (with_start start) (λ m. m) live
      (kept_heard true start (session w s t)) (next-heard true start (session w s t))
      (grows_told (session w s t) (receiver w s t) start a.rising a.arrived) p)
      (λ dead. plain l w _ (less_on_tid Any w s t _) (dead_sides w s t _ dead) p))

  pub through_caught_up : (l : List ℕ) (w : World) (s t : ℕ) → AgreedAt (side w s t) → P l w →
      P l (caught_up_if_plain w s t)
  through_caught_up l w s t a p = if_caught (P l) w s t p (λ _. through_caught l w s t a p)

  pub through_without : (l : List ℕ) (w : World) (e : ℕ) → P l w → P l (without_exchange w e)
  unfolding without_exchange
  through_without l w e p = plain l w _ (less_plain Any w _ refl refl) (λ s t. refl) p

  through_after : (air : Option ℕ) (c : Content) (l : List ℕ) (w : World) (i : IsLawful w)
      (x : Exchange) (heard : Bool) →
      x.content ≡ c → IsFound w i x → P l (after_charge (without_exchange w x.number) x air) →
      P l (after_done (after_charge (without_exchange w x.number) x air) x heard c)
  unfolding after_done
  through_after air (Frames ms) l w i x heard e f p =
      let n = ending_of air w i x ms heard e f in
      let ends : ℕ → End = end_of (after_charge (without_exchange w x.number) x air) x heard in
      through_caught_up l _ x.station x.tid
      ((ending_all ms x.number x.station x.tid _ ends n).agreed x.station x.tid)
      (through_all ms l x.number x.station x.tid ends _ n p)
  through_after air (Request g) l w i x heard e f p =
      kept l _ x.station x.tid (with_heard_start heard g) (kept_heard heard g _)
      (next-heard heard g _) p

  through_ended : (air : Option ℕ) (l : List ℕ) (w : World) (i : IsLawful w) (x : Exchange) (heard : Bool) →
      IsFound w i x →
      P l w → P l (done_outcome w x heard air).world
  unfolding done_outcome
  through_ended air l w i x heard f p = through_after air x.content l w i x heard refl f
      (through_same l _ _ (same_charged air _ x) (less_charged air Any _ x) (through_without l w x.number p))

  -- ---- arrivals

  through_arrived : (l : List ℕ) (w : World) (i : IsLawful w) (x : Exchange) (n : ℕ) → Good w →
      IsOpenIn w x → nat_le (transmissions x.content) n ≡ false → P l w →
      P (l ++ named_by (arrive_outcome w x n).reply) (arrive_outcome w x n).world
  unfolding arrive_outcome
  through_arrived l w i x n good o few p =
      let g : Receiver → Receiver = after_arrival x.content n in
      let r : Receiver = receiver w x.station x.tid in
      let z : Exchange = record x { arrived = with_member n x.arrived } in
      let v : World = with_exchange (on_receiver w x.station x.tid g) z in
      let grown = grows_after x.content w i x n refl o (not_le _ _ few) in
      on_if (λ (k : List ℕ). P (l ++ k) v) x.batch []
      (ids_of (session w x.station x.tid) (released_between r (g r)))
      (λ _. subst (λ (k : List ℕ). P k v) (sym (append-nil l))
      (silent l w v x.station x.tid (g r) (is_agreed w x.station x.tid) (less_taken w x z g)
      (side_untaken w x z g) (side_taken w x z g o.live) grown p))
      (λ _. release l w v x.station x.tid (g r) (is_agreed w x.station x.tid) good (less_taken w x z g)
      (side_untaken w x z g) (side_taken w x z g o.live) grown p)
    where
      not_le : (a b : ℕ) → nat_le a b ≡ false → b < a
      not_le a b e = grind arith

  -- No id is released.
  through_plain : (l : List ℕ) (o : Outcome) → named_by o.reply ≡ [] → P l o.world →
      P (l ++ named_by o.reply) o.world
  through_plain l o e p = subst (λ (k : List ℕ). P k o.world)
      (sym (ap (λ (ids : List ℕ). l ++ ids) e ∙ append-nil l)) p

  through_arrive : (o : Option Exchange) (l : List ℕ) (w : World) (i : IsLawful w) (n : ℕ) → Good w →
      IfSome o (IsOpenIn w) → IfSome o (λ x. nat_le (transmissions x.content) n ≡ false) → P l w →
      P (l ++ named_by (outcome_where_open w o (λ x. arrive_outcome w x n)).reply)
      (outcome_where_open w o (λ x. arrive_outcome w x n)).world
  unfolding outcome_where_open
  through_arrive None l w i n g f few p = through_plain l (record { world = w; reply = Released [] }) refl p
  through_arrive (Some x) l w i n g f few p = through_arrived l w i x n g f few p

  -- ---- joining and leaving

  through_new : (l : List ℕ) (w : World) (s : ℕ) (mode : Mode) (window start exponent weight : ℕ)
      (offloaded : Bool) → P l w →
      P l (with_station w s (Some (new_station w.config mode window start exponent weight offloaded)))
  through_new l w s mode window start exponent weight offloaded p =
      station_changed l w s _ (eight (λ y. IsBare (side_of y)) (new_tid mode start window)
      (new_bare mode start window) (new_bare Plain 0 0)) p

  pub through_joined : (l : List ℕ) (w : World) (s window start exponent weight : ℕ) → P l w →
      P l (join_outcome w s window start exponent weight).world
  unfolding join_outcome
  through_joined l w s window start exponent weight p =
      through_new l w s Agreed window start exponent weight false p

  pub through_offloaded : (l : List ℕ) (w : World) (s exponent weight : ℕ) → P l w →
      P l (offload_outcome w s exponent weight).world
  unfolding offload_outcome
  through_offloaded l w s exponent weight p = through_new l w s Plain greatest_window 0 exponent weight true p

  pub through_unagreed : (l : List ℕ) (w : World) (s start exponent weight : ℕ) → P l w →
      P l (plain_outcome w s start exponent weight).world
  unfolding plain_outcome
  through_unagreed l w s start exponent weight p =
      through_new l w s Plain plain_window start exponent weight false p

  through_weighed : (l : List ℕ) (w : World) (s weight : ℕ) → P l w → P l (weight_outcome w s weight).world
  through_weighed l w s weight p =
      through_same l w _ (same_weighed w s weight) (less_weighed Any w s weight) p

  pub through_gone : (l : List ℕ) (w : World) (s : ℕ) → P l w → P l (leave_outcome w s).world
  unfolding leave_outcome
  through_gone l w s p =
      station_changed l _ s None (λ t. new_bare Plain 0 0)
      (through_same l w _ (then_same _ _ _ (same_left_tids (upto 8) w s) (same_off_lists all_classes _ s))
      (then_less Any _ _ _ (less_left_tids (upto 8) w s) (less_off_lists all_classes _ s)) p)

  -- ---- marks and flushes

  through_marked : (l : List ℕ) (w : World) (x : Exchange) (unsent given_up : List ℕ) → P l w →
      P l (marked_world w x unsent given_up)
  unfolding with_exchange
  through_marked l w x unsent given_up p = plain l w _ (less_plain Any w _ refl refl) (λ s t. refl) p

  through_unsent : (l : List ℕ) (w : World) (x : Exchange) (n : ℕ) → P l w → P l (unsent_outcome w x n).world
  unfolding unsent_outcome
  through_unsent l w x n p = through_marked l w x (with_member n x.unsent) x.given_up p

  through_given_up : (l : List ℕ) (w : World) (x : Exchange) (n : ℕ) → P l w →
      P l (give_up_outcome w x n).world
  unfolding give_up_outcome
  through_given_up l w x n p = through_marked l w x x.unsent (with_member n x.given_up) p

  through_flushed : (l : List ℕ) (w : World) (s t : ℕ) → IsLawful w → P l w → P l (flush_outcome w s t).world
  through_flushed l w s t i p = subst (P l) (sym (flush_is w s t))
      (through_caught_up l (emptied_world w s t) s t ((lawful_emptied w s t i).agreed s t)
      (if_emptied (P l)
      (record {
        finish = λ u id h. through_finish l u _ id h;
        empty = λ u q h. through_same l u _ (same_on_queue u q _)
            (less_on_queue Any u q _ (fewer_none (queue u q).items)) h;
      }) w s t
      (kept l w s t (after_flush w.config.attempts) (kept_flush w.config.attempts (session w s t))
      (next-flush w.config.attempts (session w s t)) p)))

  -- ---- an agreement begins or ends

  pub through_begun : (l : List ℕ) (w : World) (s t window : ℕ) → is_live w s ≡ true → IsLawful w → P l w →
      P l (begin_outcome w s t window).world
  through_begun l w s t window live i p =
      let y : Session = session w s t in
      let start : ℕ = start_of y in
      let k : KeptSession y (with_heard_start true start y) = kept_heard true start y in
      let g : Grows y (receiver w s t) (with_start start (receiver w s t)) =
      grows_told y (receiver w s t) start (i.agreed s t).rising (i.agreed s t).arrived in
      subst (P l) (sym (begun_is w s t window))
      (through_told l w s t (λ z. record (with_heard_start true start z) { size = window })
      (λ r. record (with_start start r) { size = window }) (λ _. Agreed) live
      (record { first = k.first; next = k.next; ids = k.ids }) refl
      (record { rising = g.rising; within = g.within; rises = g.rises }) p)

  pub through_ceased : (l : List ℕ) (w : World) (s t : ℕ) → is_live w s ≡ true → IsLawful w → Good w → P l w →
      P (l ++ ceased_ids w s t) (cease_outcome w s t).world
  through_ceased l w s t live i good p =
      let y : Session = session w s t in
      let r : Receiver = receiver w s t in
      let e : World = after_numbers_ended w s t in
      let start : ℕ = start_of (session e s t) in
      let flushed : Session → Session = after_flush w.config.attempts in
      let f : Session → Session =
      λ z. record (with_heard_start true start (flushed z)) { size = plain_window } in
      let q : Receiver = record (with_start start r) { size = plain_window } in
      let g : Tid → Tid = λ z. record z {
        receiver = record (with_start start z.receiver) { size = plain_window };
        mode = OnHold;
      } in
      let v : World = on_tid w s t g in
      let told : World = on_session v s t f in
      let own : side v s t ≡ record { session = y; receiver = q; agreed = false } = side_on w s t g live in
      let same_y : session v s t ≡ y = ap (λ (a : Side). a.session) own in
      let a = i.agreed s t in
      let grown : Grows y r (with_start start r) = grows_told y r start a.rising a.arrived in
      let k : KeptSession y (flushed y) = kept_flush w.config.attempts y in
      let ids : List ℕ = ids_of y (released_between r q) in
      let released : P (l ++ ids) v = release l w v s t q false good (less_on_tid Any w s t g)
      (λ i j apart. side_elsewhere w s t g i j (λ e d. apart (sym e) (sym d))) own
      (record { rising = grown.rising; within = grown.within; rises = grown.rises }) p in
      let done : P (l ++ ids) told = kept (l ++ ids) v s t f
      (subst (λ (z : Session). KeptSession z (f z)) (sym same_y)
      (record { first = k.first; next = k.next; ids = k.ids }))
      (subst (λ (z : Session). next_number (f z) ≡ next_number z) (sym same_y)
      (next-flush w.config.attempts y)) released in
      subst (λ (ns : List ℕ). P (l ++ ns) (cease_outcome w s t).world)
      (ap (λ (z : Receiver). ids_of y (released_between r z)) (sym (ceased_receiver w s t live)))
      (plain (l ++ ids) told (cease_outcome w s t).world (less_ceased_told w s t f g)
      (ceased_sides w s t live) done)

  -- ---- the step

  through_open : (IsFit Q : Exchange → Type 0) (o : Option Exchange) (l : List ℕ) (w : World)
      (f : Exchange → Outcome) → IfSome o IsFit → ((x : Exchange) → IsFit x → P l (f x).world) → P l w →
      P l (outcome_where_open w o f).world
  unfolding outcome_where_open
  through_open IsFit Q None l w f h k p = p
  through_open IsFit Q (Some x) l w f h k p = k x h

  through_reaped : (ids : List ℕ) (l : List ℕ) (w : World) → P l w → P l (reap_outcome w ids).world
  unfolding reap_outcome
  through_reaped [] l w p = p
  through_reaped (id ∷ ids) l w p = plain l w _ (less_plain Any w _ refl refl) (λ s t. refl) p

  through_on_station : (l : List ℕ) (w : World) (s : ℕ) (f : Station → Station) →
      ((x : Station) (t : ℕ) → sided (f x) t ≡ sided x t) → P l w →
      P l (on_station w s f)
  through_on_station l w s f h p = through_same l w _ (same_on_station w s f h) (less_on_station Any w s f) p

  through_answered : (l : List ℕ) (w : World) (x : Exchange) → P l w → P l (answer_outcome w x).world
  unfolding answer_outcome with_exchange
  through_answered l w x p = plain l w _ (less_plain Any w _ refl refl) (λ s t. refl) p

  -- The call releases no id.
  through_call : (note : Note) (l : List ℕ) (w : World) (i : IsLawful w) → Good w → NoRow (refusals w note) →
      P l w → named_by (outcome_of w note).reply ≡ [] → P l (outcome_of w note).world
  unfolding outcome_of tick_outcome rate_outcome sleep_outcome wake_outcome poll_outcome rx_outcome
  through_call (Enqueue s t flow len) l w i g e p r = enqueue l w s t flow len g e p
  through_call (Asked (Join s window start exponent weight)) l w i g e p r =
      through_joined l w s window start exponent weight p
  through_call (Asked (Leave s)) l w i g e p r = through_gone l w s p
  through_call (Asked (Rate s rate)) l w i g e p r = through_on_station l w s _ (λ x t. refl) p
  through_call (Asked (Tick by)) l w i g e p r = plain l w _ (less_plain Any w _ refl refl) (λ s t. refl) p
  through_call (Asked (Pull c limits)) l w i g e p r = through_pulled l w c limits i p
  through_call (Asked (Arrive x n)) l w i g e p r =
      subst (λ (k : List ℕ). P k (outcome_where_open w (exchange w x) (λ y. arrive_outcome w y n)).world)
      (ap (λ (ids : List ℕ). l ++ ids) r ∙ append-nil l)
      (through_arrive (exchange w x) l w i n g (opened_in w i x)
      (if_on (exchange w x) (λ y. nat_le (transmissions y.content) n) e.1.0) p)
  through_call (Asked (Answer x)) l w i g e p r = through_open (λ _. Unit {0}) (λ _. Unit {0}) (exchange
      w x) l w _
      (any_some (exchange w x)) (λ y _. through_answered l w y p) p
  through_call (Asked (Done x heard air)) l w i g e p r =
      through_open (IsFound w i) (λ _. Unit {0}) (exchange w x) l w _ (found w i x)
      (λ y f. through_ended air l w i y heard f p) p
  through_call (Asked (Sleep s)) l w i g e p r = through_on_station l w s _ (λ x t. refl) p
  through_call (Asked (Ampdu s octets)) l w i g e p r = through_on_station l w s _ (λ x t. refl) p
  through_call (Asked (Stop s)) l w i g e p r = through_on_station l w s _ (λ x t. refl) p
  through_call (Asked (Start s)) l w i g e p r = through_on_station l w s _ (λ x t. refl) p
  through_call (Asked (Wake s)) l w i g e p r = through_on_station l w s _ (λ x t. refl) p
  through_call (Asked (Poll s)) l w i g e p r = through_on_station l w s _ (λ x t. refl) p
  through_call (Asked (Rx s c air)) l w i g e p r =
      through_same l w _ (same_on_share w s c _) (less_on_share Any w s c _) p
  through_call (Asked Reap) l w i g e p r = through_reaped w.finished l w p
  through_call (Asked (Unsent x n)) l w i g e p r = through_open (λ _. Unit {0}) (λ _. Unit {0}) (exchange
      w x) l w _
      (any_some (exchange w x)) (λ y _. through_unsent l w y n p) p
  through_call (Asked (GiveUp x n)) l w i g e p r = through_open (λ _. Unit {0}) (λ _. Unit {0}) (exchange
      w x) l w _
      (any_some (exchange w x)) (λ y _. through_given_up l w y n p) p
  through_call (Asked (Flush s t)) l w i g e p r = through_flushed l w s t i p
  through_call (Asked (Offload s exponent weight)) l w i g e p r = through_offloaded l w s exponent weight p
  through_call (Asked (Weight s weight)) l w i g e p r = through_weighed l w s weight p
  through_call (Asked (call.Plain s start exponent weight)) l w i g e p r =
      through_unagreed l w s start exponent weight p
  through_call (Asked (Hold s t)) l w i g e p r =
      through_same l w _ (same_held w s t e.1.1.1.0 e.1.1.1.1.0) (less_held Any w s t) p
  through_call (Asked (Begin s t window)) l w i g e p r =
      through_begun l w s t window (not_no (is_live w s) e.1.1.1.0) i p
  through_call (Asked (Free s t)) l w i g e p r =
      through_same l w _ (same_freed w s t (not_no (is_held_back w s t) e.1.1.1.0)) (less_freed Any w s t) p
  through_call (Asked (Cease s t)) l w i g e p r =
      subst (λ (k : List ℕ). P k (cease_outcome w s t).world)
      (ap (λ (ids : List ℕ). l ++ ids) (sym (ceased_named w s t) ∙ r) ∙ append-nil l)
      (through_ceased l w s t (not_no (is_live w s) e.1.1.0) i g p)
  through_call (Asked (Group ask)) l w i g e p r = plain l w _ (less_plain Any w _ refl refl) (λ s t. refl) p
  through_call (Asked (Service ask)) l w i g e p r =
      through_on_station l w (station_served ask) _ (λ x t. refl) p
  through_call (Asked (Bss s b)) l w i g e p r = through_on_station l w s _ (λ x t. refl) p

  through_arrival : (l : List ℕ) (w : World) (i : IsLawful w) (e n : ℕ) → Good w →
      NoRow (refusals w (Asked (Arrive e n))) → P l w →
      P (l ++ named_by (outcome_of w (Asked (Arrive e n))).reply)
      (outcome_of w (Asked (Arrive e n))).world
  unfolding outcome_of
  through_arrival l w i e n g r p = through_arrive (exchange w e) l w i n g (opened_in w i e)
      (if_on (exchange w e) (λ y. nat_le (transmissions y.content) n) r.1.0) p

  through_cease : (l : List ℕ) (w : World) (i : IsLawful w) (s t : ℕ) → Good w →
      NoRow (refusals w (Asked (Cease s t))) → P l w →
      P (l ++ named_by (outcome_of w (Asked (Cease s t))).reply) (outcome_of w (Asked (Cease s t))).world
  unfolding outcome_of
  through_cease l w i s t g r p = subst (λ (ids : List ℕ). P (l ++ ids) (cease_outcome w s t).world)
      (sym (ceased_named w s t)) (through_ceased l w s t (not_no (is_live w s) r.1.1.0) i g p)

  through_done : (note : Note) (l : List ℕ) (w : World) (i : IsLawful w) → Good w → NoRow (refusals w note) →
      P l w → P (l ++ named_by (outcome_of w note).reply) (outcome_of w note).world
  through_done note l w i g e p = elim (named_done note w) [
    | inl r ↦ through_plain l (outcome_of w note) r (through_call note l w i g e p r)
    | inr (inl a) ↦ subst (λ (c : Note). NoRow (refusals w c) →
        P (l ++ named_by (outcome_of w c).reply) (outcome_of w c).world) (sym a.2)
        (λ d. through_arrival l w i a.0 a.1 g d p) e
    | inr (inr a) ↦ subst (λ (c : Note). NoRow (refusals w c) →
        P (l ++ named_by (outcome_of w c).reply) (outcome_of w c).world) (sym a.2)
        (λ d. through_cease l w i a.0 a.1 g d p) e
  ]

  through_refused : (note : Note) (r : Refusal) (l : List ℕ) (w : World) → P l w →
      P l (after_refusal w note r)
  unfolding after_refusal
  through_refused (Asked (Pull c limits)) Idle l w p = after_idle (P l) w c p
      (through_same l w _ (same_after_pick w c) (less_after_pick Any w c) p)
  through_refused _ _ l w p = p

  through_answer : (r : Option Refusal) (l : List ℕ) (w : World) (i : IsLawful w) (note : Note) → Good w →
      refusal w note ≡ r → P l w → P (l ++ named_by (judged_outcome w note r).reply)
      (judged_outcome w note r).world
  unfolding judged_outcome
  through_answer (Some r) l w i note g e p = through_plain l
      (record { world = after_refusal w note r; reply = Refused r }) refl (through_refused note r l w p)
  through_answer None l w i note g e p = through_same _ _ _
      (same_listed (concerned_station w note) (outcome_of w note).world)
      (less_listed Any (concerned_station w note) (outcome_of w note).world)
      (through_done note l w i g (no_row (refusals w note) e) p)

  pub through_step : (l : List ℕ) (w : World) (i : IsLawful w) (note : Note) → Good w → P l w →
      P (l ++ named_by (step w note).reply) (step w note).world
  unfolding step
  through_step l w i note g p = through_answer (refusal w note) l w i note g refl p
