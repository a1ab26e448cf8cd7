-- Proves the bounds on the start of an open exchange's answer. An exchange is answered only after one of its
-- transmissions arrived, so the window of the answer's scoreboard contains one of its numbers, and this
-- number is on the air as long as the exchange is open.
use Rattle.std.proofs.Common.{◌≡◌, ◌≢◌, refl, ap, sym, ◌∙◌, subst, arith, ℕ, zero, suc, ◌+◌, ◌-◌, ◌<◌, ◌≤◌, nat_lt, nat_le, Bool, true, false, if◌then◌else◌, ◌==◌, ◌||◌, ◌⊎◌, inl, inr, List, [], ◌∷◌, ◌++◌, length, map, Option, Some, None, IfSome, is_some}
use Rattle.wf_frame.specs.declared.settings.Config.{Config}
use Rattle.wf_frame.specs.declared.classes.Class.{Class}
use Rattle.wf_frame.specs.declared.notes.Ask.TheVariants.{Join, Leave, Rate, Tick, Pull, Arrive, Answer, Done, Sleep, Wake, Poll, Rx, Reap, Ampdu, Stop, Start, Unsent, GiveUp, Flush, Offload, Weight, Hold, Begin, Free, Cease, Group, Service, Bss}
use Rattle.wf_frame.specs.declared.notes.Ask.TheVariants as call
use Rattle.wf_frame.specs.declared.notes.Limits.{Limits}
use Rattle.wf_frame.specs.declared.notes.Note.{Note}
use Rattle.wf_frame.specs.declared.notes.Note.TheVariants.{Enqueue, Asked}
use Rattle.wf_frame.specs.declared.notes.Refusal.{Refusal}
use Rattle.wf_frame.specs.declared.notes.Refusal.TheVariants.{Idle}
use Rattle.wf_frame.specs.Classes.{all_classes}
use Rattle.wf_def_lists.specs.Bounds.{greatest_window}
use Rattle.wf_def_lists.specs.Table.{at, has, with_member, upto}
use Rattle.wf_def_agreement.specs.Receiver.{Receiver, Score, greatest, score, score_start}
use Rattle.wf_def_agreement.specs.Session.{Session, State, is_settled, start_of, next_number}
use Rattle.wf_def_world.specs.World.{World, Station, Exchange, Mpdu, Content, Frames, Request, rotation, session, receiver, is_live, exchange, with_station, on_receiver, with_exchange, opening, Mode, Plain, Agreed, is_held_back}
use Rattle.wf_def_world.specs.Service.{station_served}
use Rattle.wf_def_world.specs.CanSend.{is_ready}
use Rattle.wf_def_world.specs.Exchanges.{transmissions, no_mpdu, mpdus_of, station_need, picked_station, sending_tid, exchange_of, Prepared, after_tid_turn, with_exchange_opened, after_arrival}
use Rattle.wf_def_world.specs.Refusals.{open_of_station, refusals, refusal}
use Rattle.wf_def_world.specs.Step.{Outcome, new_station, offload_outcome, join_outcome, leave_outcome, rate_outcome, tick_outcome, send_outcome, pull_outcome_for, pull_outcome, arrive_outcome, answer_outcome, unsent_outcome, give_up_outcome, done_outcome, outcome_where_open, sleep_outcome, wake_outcome, poll_outcome, rx_outcome, reap_outcome, concerned_station, outcome_of, after_refusal, judged_outcome, step, plain_outcome, plain_window}
use Rattle.wf_def_world.specs.Run.{Entry, world_after}
use Rattle.wf_law_rules.proofs.Lemmas.Numbers.{has_new, has_old, greatest_least, greatest_has, score_past, le_no}
use Rattle.wf_law_runs.proofs.Common.Refused.{after_idle}
use Rattle.wf_law_runs.proofs.Common.Marks.{marked_world}
use Rattle.wf_law_runs.proofs.Common.Picked.{picked_world}
use Rattle.wf_law_runs.proofs.Sessions.Starts.{start_le}
use Rattle.wf_law_runs.proofs.Sessions.Flights.{AllIn, Rises}
use Rattle.wf_law_runs.proofs.Windows.Sides.{same_weighed, Side, side, Same, each_side_on, then_same, same_listed, same_after_pick, same_after_turn, same_spent, same_on_station, same_on_share, same_picked, same_held, same_freed, opened_begun, begun_elsewhere, opened_ceased, ceased_elsewhere}
use Rattle.wf_law_runs.proofs.Windows.Agreement.{IsAgreed, IsAsked, IfRequest, option_along, unsettled_ge, score_kept}
use Rattle.wf_law_runs.proofs.Windows.Opened.{Each, each_map, each_both, each_append, each_find, FlyIn, some_along, pick_ready, left_true, none_open, NoRow, no_row}
use Rattle.wf_law_runs.proofs.Windows.Agreed.{IsLawful, IsOpenIn, none_of, each_map_if, both_some, if_on, no_answer, lawful_same, lawful_step, lawful_at_first, same_left_tids, same_off_lists, NoneOpen, none_of_tid, not_no}
use Rattle.wf_law_runs.proofs.Releases.Kept.{KeptSession, kept_refl, Kept, kept_same, keep_prepared, keep_ended, keep_flushed, opened_flushed, keep_plain}
use Rattle.wf_law_runs.proofs.Releases.Released.{side_taken, side_with_station}
use Rattle.wf_law_runs.proofs.Frames.Delivered.{IsPrepared, prepared_right, opened_ended, opened_on_receiver, same_enqueued, filtered}

-- ---- one exchange

-- P holds for at least one of the transmissions.
abbrev SomeMpdu : (Mpdu → Type 0) → List Mpdu → Type 0
SomeMpdu P [] = ⊥
SomeMpdu P (m ∷ ms) = P m ⊎ SomeMpdu P ms

-- At least one transmission has arrived.
abbrev OneArrived : Content → Receiver → Type 0
OneArrived (Frames ms) r = SomeMpdu (λ m. has r.arrived m.number ≡ true) ms
OneArrived (Request f) r = has r.starts f ≡ true

-- One of the numbers is below the end of a scoreboard that starts at n, or n is at least the request's
-- start.
abbrev IsReached : Content → ℕ → ℕ → Type 0
IsReached (Frames ms) n size = SomeMpdu (λ m. m.number < n + size) ms
IsReached (Request f) n size = f ≤ n

record IsAnswered (y : Session) (c : Content) (b : Score) : Type 0 where
  below : b.start ≤ next_number y
  near : IsReached c b.start y.size

record IsMarked (w : World) (x : Exchange) : Type 0 where
  arrived : (length x.arrived == 0) ≡ false → OneArrived x.content (receiver w x.station x.tid)
  answered : IfSome x.answer (IsAnswered (session w x.station x.tid) x.content)

some_mpdu : (P Q : Mpdu → Type 0) → ((m : Mpdu) → P m → Q m) → (ms : List Mpdu) → SomeMpdu P ms →
    SomeMpdu Q ms
some_mpdu P Q f [] h = absurd h
some_mpdu P Q f (m ∷ ms) h = elim h [ inl p ↦ inl (f m p) | inr q ↦ inr (some_mpdu P Q f ms q) ]

one_at : (P : Mpdu → Type 0) (ms : List Mpdu) (n : ℕ) → n < length ms → P (at no_mpdu ms n) → SomeMpdu P ms
one_at P [] n h p = absurd (omega (arith, h))
one_at P (m ∷ ms) zero h p = inl p
one_at P (m ∷ ms) (suc n) h p = inr (one_at P ms n (omega (arith, h)) p)

-- ---- worlds with the same numbers in sessions and the same arrivals at receivers

record Grows (r q : Receiver) : Type 0 where
  arrived : (n : ℕ) → has r.arrived n ≡ true → has q.arrived n ≡ true
  starts : (n : ℕ) → has r.starts n ≡ true → has q.starts n ≡ true

record Grown (w v : World) : Type 0 where
  receivers : (s t : ℕ) → Grows (receiver w s t) (receiver v s t)
  sessions : (s t : ℕ) → KeptSession (session w s t) (session v s t)
  sizes : (s t : ℕ) → (session v s t).size ≡ (session w s t).size

grows : (r : Receiver) → Grows r r
grows r = record { arrived = λ n h. h; starts = λ n h. h }

grown_kept : (w v : World) → Kept w v → Grown w v
grown_kept w v k = record {
  receivers = λ s t. record {
    arrived = λ n h. ap (λ (l : List ℕ). has l n) (k.receivers s t).arrived ∙ h;
    starts = (k.receivers s t).starts;
  };
  sessions = k.sessions;
  sizes = k.sizes;
}

one_arrived : (c : Content) (r q : Receiver) → Grows r q → OneArrived c r → OneArrived c q
one_arrived (Frames ms) r q g a = some_mpdu (λ m. has r.arrived m.number ≡ true)
    (λ m. has q.arrived m.number ≡ true) (λ m h. g.arrived m.number h) ms a
one_arrived (Request f) r q g a = g.starts f a

still_answered : (c : Content) (b : Score) (y z : Session) → KeptSession y z → z.size ≡ y.size →
    IsAnswered y c b → IsAnswered z c b
still_answered c b y z k size a = record {
  below = omega (arith, a.below, k.next);
  near = subst (IsReached c b.start) (sym size) a.near;
}

still_marked : (w v : World) (x : Exchange) → Grown w v → IsMarked w x → IsMarked v x
still_marked w v x g a = record {
  arrived = λ h. one_arrived x.content (receiver w x.station x.tid) (receiver v x.station x.tid)
      (g.receivers x.station x.tid) (a.arrived h);
  answered = option_along (IsAnswered (session w x.station x.tid) x.content)
      (IsAnswered (session v x.station x.tid) x.content) x.answer
      (λ b. still_answered x.content b (session w x.station x.tid) (session v x.station x.tid)
      (g.sessions x.station x.tid) (g.sizes x.station x.tid)) a.answered;
}

marked_side : (w v : World) (x : Exchange) → side v x.station x.tid ≡ side w x.station x.tid → IsMarked w x →
    IsMarked v x
marked_side w v x e a = record {
  arrived = λ h. subst (λ (z : Side). OneArrived x.content z.receiver) (sym e) (a.arrived h);
  answered = subst (λ (z : Side). IfSome x.answer (IsAnswered z.session x.content)) (sym e) a.answered;
}

pub record Marked (w : World) : Type 0 where
  marks : Each (IsMarked w) w.opened

marked_kept : (w v : World) → Kept w v → v.opened ≡ w.opened → Marked w → Marked v
marked_kept w v k e h = record {
  marks = subst (Each (IsMarked v)) (sym e)
      (each_map (IsMarked w) (IsMarked v) w.opened (λ x a. still_marked w v x (grown_kept w v k) a) h.marks);
}

marked_same : (w v : World) → Same w v → Marked w → Marked v
marked_same w v h k = marked_kept w v (kept_same w v h) h.opened k

-- ---- pulls

marked_sent : (s t : ℕ) (c : Class) (w : World) (p : Prepared) → IsPrepared s t w p → Kept w p.world →
    Marked w → Marked (send_outcome s t c p).world
unfolding send_outcome with_exchange_opened
marked_sent s t c w p r k h =
    let x : Exchange = exchange_of s t c p in
    let v : World = record p.world { exchanges = p.world.exchanges + 1; opened = p.world.opened ++ x ∷ [] } in
    let before : Marked p.world = marked_kept w p.world k r.opened h in
    marked_same v _ (same_spent v x) (record {
      marks = each_append (IsMarked v) p.world.opened x
          (each_map (IsMarked p.world) (IsMarked v) p.world.opened
          (λ y a. record { arrived = a.arrived; answered = a.answered }) before.marks)
          (record { arrived = λ none. absurd (cc none); answered = tt });
    })

marked_pulled_by : (o : Option ℕ) (w : World) (c : Class) → IfSome o (λ s. is_live w s ≡ true) → IsLawful w →
    Marked w → Marked (pull_outcome_for w c o).world
unfolding pull_outcome_for
marked_pulled_by None w c live i h = h
marked_pulled_by (Some s) w c live i h =
    let v : World = after_tid_turn w s c (sending_tid w s c) in
    let k : Same w v = same_after_turn w s c (sending_tid w s c) in
    marked_sent s _ c v _ (prepared_right v s _ (lawful_same _ _ k i) (k.live s ∙ live)) (keep_prepared v s _)
    (marked_same w v k h)

marked_pulled : (w : World) (c : Class) (l : Limits) → IsLawful w → Marked w →
    Marked (pull_outcome w c l).world
unfolding pull_outcome
marked_pulled w c l i h =
    let k : Same w (picked_world w c l) = same_picked w c l in
    marked_pulled_by (picked_station w c).winner (picked_world w c l) c
    (some_along (λ s. is_ready w c s ≡ true) (λ s. is_live (picked_world w c l) s ≡ true)
    (picked_station w c).winner (λ s e. k.live s ∙ left_true (is_live w s) _ e)
    (pick_ready (station_need w c) (is_ready w c) (rotation w c))) (lawful_same _ _ k i)
    (marked_same w _ k h)

-- ---- arrivals, answers and ends

grows_arrival : (c : Content) (n : ℕ) (r : Receiver) → Grows r (after_arrival c n r)
grows_arrival (Frames ms) n r = record {
  arrived = λ k h. has_old r.arrived (at no_mpdu ms n).number k h;
  starts = λ k h. h;
}
grows_arrival (Request f) n r = record { arrived = λ k h. h; starts = λ k h. has_old r.starts f k h }

new_arrival : (c : Content) (n : ℕ) (r : Receiver) → n < transmissions c → OneArrived c (after_arrival c n r)
new_arrival (Frames ms) n r l = one_at (λ m. has (with_member (at no_mpdu ms n).number r.arrived) m.number
    ≡ true) ms n l (has_new r.arrived (at no_mpdu ms n).number)
new_arrival (Request f) n r l = has_new r.starts f

grown_receiver : (w : World) (s t : ℕ) (g : Receiver → Receiver) →
    Grows (receiver w s t) (g (receiver w s t)) → Grown w (on_receiver w s t g)
unfolding on_receiver
grown_receiver w s t g h = record {
  receivers = each_side_on (λ i j a. Grows (receiver w i j) a.receiver) w s t
      (λ y. record y { receiver = g y.receiver }) (λ i j. grows (receiver w i j)) h;
  sessions = each_side_on (λ i j a. KeptSession (session w i j) a.session) w s t
      (λ y. record y { receiver = g y.receiver }) (λ i j. kept_refl (session w i j))
      (kept_refl (session w s t));
  sizes = each_side_on (λ i j a. a.session.size ≡ (session w i j).size) w s t
      (λ y. record y { receiver = g y.receiver }) (λ i j. refl) refl;
}

marked_arrived : (w : World) (x : Exchange) (n : ℕ) → is_live w x.station ≡ true → is_some x.answer ≡ false →
    n < transmissions x.content → Marked w → Marked (arrive_outcome w x n).world
unfolding arrive_outcome with_exchange
marked_arrived w x n live none l h =
    let g : Receiver → Receiver = after_arrival x.content n in
    let u : World = on_receiver w x.station x.tid g in
    let z : Exchange = record x { arrived = with_member n x.arrived } in
    let v : World = record u { opened = map (λ y. if y.number == z.number then z else y) u.opened } in
    let grown : Grown w u = grown_receiver w x.station x.tid g
    (grows_arrival x.content n (receiver w x.station x.tid)) in
    let own : receiver v x.station x.tid ≡ g (receiver w x.station x.tid) =
    ap (λ (a : Side). a.receiver) (side_taken w x z g live) in
    record {
      marks = subst (λ (xs : List Exchange). Each (IsMarked v)
          (map (λ y. if y.number == z.number then z else y) xs))
          (sym (opened_on_receiver w x.station x.tid g))
          (each_map_if (IsMarked w) (IsMarked v) (λ y. y.number == z.number) z w.opened (record {
            arrived = λ _. subst (OneArrived x.content) (sym own)
                (new_arrival x.content n (receiver w x.station x.tid) l);
            answered = no_answer (IsAnswered (session v x.station x.tid) x.content) x.answer none;
          }) (λ y _ a. still_marked w v y (record {
            receivers = grown.receivers;
            sessions = grown.sessions;
            sizes = grown.sizes;
          })
          a) h.marks);
    }

-- The answer that is made now has a transmission that arrived below the end of its scoreboard.
near_now : (c : Content) (r : Receiver) (size : ℕ) → r.size ≡ size → OneArrived c r →
    IsReached c (score_start r) size
near_now (Frames ms) r size e a =
    some_mpdu (λ m. has r.arrived m.number ≡ true) (λ m. m.number < score_start r + size)
    (λ m h. omega (arith, e, score_past r.arrived (greatest r.first r.starts) r.size m.number h)) ms a
near_now (Request f) r size e a = omega (
  arith,
  greatest_has r.starts r.first f a,
  greatest_least (map (λ n. suc n - r.size) r.arrived) (greatest r.first r.starts),
)

marked_answered : (w : World) → IsLawful w → (x : Exchange) → IsMarked w x → (length x.arrived == 0) ≡ false →
    Marked w → Marked (answer_outcome w x).world
unfolding answer_outcome with_exchange
marked_answered w i x a some h =
    let y : Session = session w x.station x.tid in
    let r : Receiver = receiver w x.station x.tid in
    let agreed : IsAgreed y r = i.agreed x.station x.tid in
    let z : Exchange = record x { answer = Some (score r) } in
    let v : World = record w { opened = map (λ y. if y.number == z.number then z else y) w.opened } in
    record {
      marks = each_map_if (IsMarked w) (IsMarked v) (λ y. y.number == z.number) z w.opened (record {
        arrived = a.arrived;
        answered = record {
          below = omega (arith, score_kept y r agreed, start_le y.slots y.first);
          near =
              near_now x.content r y.size agreed.size (a.arrived some);
        };
      }) (λ y _ m. record { arrived = m.arrived; answered = m.answered }) h.marks;
    }

marked_again : (w : World) (x : Exchange) (unsent given_up : List ℕ) → IsMarked w x → Marked w →
    Marked (marked_world w x unsent given_up)
unfolding with_exchange
marked_again w x unsent given_up a h =
    let z : Exchange = record x { unsent = unsent; given_up = given_up } in
    let v : World = record w { opened = map (λ y. if y.number == z.number then z else y) w.opened } in
    record {
      marks = each_map_if (IsMarked w) (IsMarked v) (λ y. y.number == z.number) z w.opened
          (record { arrived = a.arrived; answered = a.answered })
          (λ y _ m. record { arrived = m.arrived; answered = m.answered }) h.marks;
    }

marked_unsent : (w : World) (x : Exchange) (n : ℕ) → IsMarked w x → Marked w →
    Marked (unsent_outcome w x n).world
unfolding unsent_outcome
marked_unsent w x n a h = marked_again w x (with_member n x.unsent) x.given_up a h

marked_given_up : (w : World) (x : Exchange) (n : ℕ) → IsMarked w x → Marked w →
    Marked (give_up_outcome w x n).world
unfolding give_up_outcome
marked_given_up w x n a h = marked_again w x x.unsent (with_member n x.given_up) a h

marked_ended : (air : Option ℕ) (w : World) (x : Exchange) (heard : Bool) → Marked w →
    Marked (done_outcome w x heard air).world
marked_ended air w x heard h =
    let v : World = (done_outcome w x heard air).world in
    record {
      marks = subst (Each (IsMarked v)) (sym (opened_ended air w x heard))
          (filtered w x.number (IsMarked v) (each_map (IsMarked w) (IsMarked v) w.opened
          (λ y a. still_marked w v y (grown_kept w v (keep_ended air w x heard)) a) h.marks));
    }

-- ---- joining and leaving

marked_station : (w : World) (s : ℕ) (o : Option Station) → Each (λ x. s ≢ x.station) w.opened → Marked w →
    Marked (with_station w s o)
unfolding with_station
marked_station w s o away h = record {
  marks = each_both (IsMarked w) (λ x. s ≢ x.station) (IsMarked (with_station w s o)) w.opened
      (λ x a ne. marked_side w (with_station w s o) x (side_with_station w s x.station x.tid o ne) a) h.marks
      away;
}

marked_new : (w : World) (s : ℕ) (mode : Mode) (window start exponent weight : ℕ) (offloaded : Bool) →
    is_live w s ≡ false → IsLawful w → Marked w →
    Marked (with_station w s (Some (new_station w.config mode window start exponent weight offloaded)))
marked_new w s mode window start exponent weight offloaded dead i h =
    marked_station w s _ (each_map (IsOpenIn w) (λ x. s ≢ x.station) w.opened
    (λ x f e. cc (ap (is_live w) e, f.live, dead)) i.opened) h

marked_joined : (w : World) (s window start exponent weight : ℕ) → is_live w s ≡ false → IsLawful w →
    Marked w → Marked (join_outcome w s window start exponent weight).world
unfolding join_outcome
marked_joined w s window start exponent weight dead i h =
    marked_new w s Agreed window start exponent weight false dead i h

marked_offloaded : (w : World) (s exponent weight : ℕ) → is_live w s ≡ false → IsLawful w →
    Marked w → Marked (offload_outcome w s exponent weight).world
unfolding offload_outcome
marked_offloaded w s exponent weight dead i h =
    marked_new w s Plain greatest_window 0 exponent weight true dead i h

marked_unagreed : (w : World) (s start exponent weight : ℕ) → is_live w s ≡ false → IsLawful w →
    Marked w → Marked (plain_outcome w s start exponent weight).world
unfolding plain_outcome
marked_unagreed w s start exponent weight dead i h =
    marked_new w s Plain plain_window start exponent weight false dead i h

-- The sides of one TID change, for which no exchange is open.
marked_elsewhere : (w v : World) (s t : ℕ) → NoneOpen s t w.opened → v.opened ≡ w.opened →
    ((i j : ℕ) → (s ≡ i → t ≡ j → ⊥) → side v i j ≡ side w i j) → Marked w → Marked v
marked_elsewhere w v s t none e k h = record {
  marks = subst (Each (IsMarked v)) (sym e) (each_both (IsMarked w) (λ x. s ≡ x.station → t ≡ x.tid → ⊥)
      (IsMarked v) w.opened (λ x a apart. marked_side w v x (k x.station x.tid apart) a) h.marks none);
}

marked_gone : (w : World) (s : ℕ) → nat_lt 0 (open_of_station w s) ≡ false → Marked w →
    Marked (leave_outcome w s).world
unfolding leave_outcome
marked_gone w s none h =
    let k = then_same _ _ _ (same_left_tids (upto 8) w s) (same_off_lists all_classes _ s) in
    marked_station _ s None (subst (Each (λ x. s ≢ x.station)) (sym k.opened) (none_open w.opened s none))
    (marked_same _ _ k h)

-- ---- the step and the run

record IsRead (w : World) (x : Exchange) : Type 0 where
  open_in : IsOpenIn w x
  marked : IsMarked w x

read : (w : World) → IsLawful w → Marked w → (e : ℕ) → IfSome (exchange w e) (IsRead w)
read w i h e = each_find (IsRead w) (IsRead w) (λ x. x.number == e) w.opened (λ x _ f. f)
    (each_both (IsOpenIn w) (IsMarked w) (IsRead w) w.opened
    (λ x o m. record { open_in = o; marked = m }) i.opened h.marks)

marked_open : (P : Exchange → Type 0) (o : Option Exchange) (w : World) (f : Exchange → Outcome) →
    IfSome o P → Marked w → ((x : Exchange) → P x → Marked (f x).world) →
    Marked (outcome_where_open w o f).world
unfolding outcome_where_open
marked_open P None w f p h k = h
marked_open P (Some x) w f p h k = k x p

marked_reaped : (ids : List ℕ) (w : World) → Marked w → Marked (reap_outcome w ids).world
unfolding reap_outcome
marked_reaped [] w h = h
marked_reaped (id ∷ ids) w h = marked_kept w _ (keep_plain w _ refl) refl h

marked_done : (note : Note) (w : World) → IsLawful w → NoRow (refusals w note) → Marked w →
    Marked (outcome_of w note).world
unfolding outcome_of tick_outcome rate_outcome sleep_outcome wake_outcome poll_outcome rx_outcome
marked_done (Enqueue s t flow len) w i r h = marked_same w _ (same_enqueued w s t flow len) h
marked_done (Asked (Join s window start exponent weight)) w i r h =
    marked_joined w s window start exponent weight r.1.1.1.1.1.0 i h
marked_done (Asked (Leave s)) w i r h = marked_gone w s r.1.1.0 h
marked_done (Asked (Rate s rate)) w i r h = marked_same w _ (same_on_station w s _ (λ x t. refl)) h
marked_done (Asked (Tick by)) w i r h = marked_kept w _ (keep_plain w _ refl) refl h
marked_done (Asked (Pull c l)) w i r h = marked_pulled w c l i h
marked_done (Asked (Arrive e n)) w i r h = marked_open
    (λ x. IsRead w x × ((is_some x.answer ≡ false) × (nat_le (transmissions x.content) n ≡ false)))
    (exchange w e) w _
    (both_some (IsRead w) (λ x. (is_some x.answer ≡ false) × (nat_le (transmissions x.content) n ≡ false))
    (exchange w e) (read w i h e)
    (both_some (λ x. is_some x.answer ≡ false) (λ x. nat_le (transmissions x.content) n ≡ false)
    (exchange w e) (if_on (exchange w e) (λ x. is_some x.answer) r.1.1.0)
    (if_on (exchange w e) (λ x. nat_le (transmissions x.content) n) r.1.0)))
    h (λ x f. marked_arrived w x n f.0.open_in.live f.1.0 (le_no _ _ f.1.1) h)
marked_done (Asked (Answer e)) w i r h =
    marked_open (λ x. IsRead w x × (x.batch || (length x.arrived == 0) ≡ false))
    (exchange w e) w _
    (both_some (IsRead w) (λ x. x.batch || (length x.arrived == 0) ≡ false) (exchange w e) (read w i h e)
    (if_on (exchange w e) (λ x. x.batch || (length x.arrived == 0)) r.1.1.0))
    h (λ x f. marked_answered w i x f.0.marked (none_of x.batch (length x.arrived == 0) f.1).1 h)
marked_done (Asked (Done e heard air)) w i r h = marked_open (IsRead w) (exchange w e) w _ (read w i h e) h
    (λ x f. marked_ended air w x heard h)
marked_done (Asked (Sleep s)) w i r h = marked_same w _ (same_on_station w s _ (λ x t. refl)) h
marked_done (Asked (Ampdu s octets)) w i r h = marked_same w _ (same_on_station w s _ (λ x t. refl)) h
marked_done (Asked (Stop s)) w i r h = marked_same w _ (same_on_station w s _ (λ x t. refl)) h
marked_done (Asked (Start s)) w i r h = marked_same w _ (same_on_station w s _ (λ x t. refl)) h
marked_done (Asked (Wake s)) w i r h = marked_same w _ (same_on_station w s _ (λ x t. refl)) h
marked_done (Asked (Poll s)) w i r h = marked_same w _ (same_on_station w s _ (λ x t. refl)) h
marked_done (Asked (Rx s c air)) w i r h = marked_same w _ (same_on_share w s c _) h
marked_done (Asked Reap) w i r h = marked_reaped w.finished w h
marked_done (Asked (Unsent e n)) w i r h = marked_open (IsRead w) (exchange w e) w _ (read w i h e) h
    (λ x f. marked_unsent w x n f.marked h)
marked_done (Asked (GiveUp e n)) w i r h = marked_open (IsRead w) (exchange w e) w _ (read w i h e) h
    (λ x f. marked_given_up w x n f.marked h)
marked_done (Asked (Flush s t)) w i r h = marked_kept w _ (keep_flushed w s t) (opened_flushed w s t) h
marked_done (Asked (Offload s exponent weight)) w i r h = marked_offloaded w s exponent weight r.1.1.1.0 i h
marked_done (Asked (Weight s weight)) w i r h = marked_same w _ (same_weighed w s weight) h
marked_done (Asked (call.Plain s start exponent weight)) w i r h =
    marked_unagreed w s start exponent weight r.1.1.1.1.0 i h
marked_done (Asked (Hold s t)) w i r h = marked_same w _ (same_held w s t r.1.1.1.0 r.1.1.1.1.0) h
marked_done (Asked (Begin s t window)) w i r h = marked_elsewhere w _ s t
    (none_of_tid s t w.opened r.1.1.1.1.1.0) (opened_begun w s t window) (begun_elsewhere w s t window) h
marked_done (Asked (Free s t)) w i r h =
    marked_same w _ (same_freed w s t (not_no (is_held_back w s t) r.1.1.1.0)) h
marked_done (Asked (Cease s t)) w i r h = marked_elsewhere w _ s t
    (none_of_tid s t w.opened r.1.1.1.1.0) (opened_ceased w s t) (ceased_elsewhere w s t) h
marked_done (Asked (Group ask)) w i r h = marked_kept w _ (keep_plain w _ refl) refl h
marked_done (Asked (Service ask)) w i r h =
    marked_same w _ (same_on_station w (station_served ask) _ (λ x t. refl)) h
marked_done (Asked (Bss s b)) w i r h = marked_same w _ (same_on_station w s _ (λ x t. refl)) h

marked_refused : (note : Note) (r : Refusal) (w : World) → Marked w → Marked (after_refusal w note r)
unfolding after_refusal
marked_refused (Asked (Pull c l)) Idle w h = after_idle Marked w c h (marked_same w _ (same_after_pick w c) h)
marked_refused _ _ w h = h

marked_answer : (r : Option Refusal) (w : World) (note : Note) → refusal w note ≡ r → IsLawful w → Marked w →
    Marked (judged_outcome w note r).world
unfolding judged_outcome
marked_answer (Some r) w note e i h = marked_refused note r w h
marked_answer None w note e i h = marked_same _ _
    (same_listed (concerned_station w note) (outcome_of w note).world)
    (marked_done note w i (no_row (refusals w note) e) h)

marked_step : (w : World) (note : Note) → IsLawful w → Marked w → Marked (step w note).world
unfolding step
marked_step w note i h = marked_answer (refusal w note) w note refl i h

marked_run : (h : List Entry) (w : World) → IsLawful w → Marked w → Marked (world_after w h)
unfolding world_after
marked_run [] w i m = m
marked_run (e ∷ es) w i m = marked_run es (step w e.1).world (lawful_step w e.1 i) (marked_step w e.1 i m)

pub marked : (config : Config) (h : List Entry) → Marked (world_after (opening config) h)
marked config h = marked_run h (opening config) (lawful_at_first config) (record { marks = tt })

-- ---- the start of the answer

-- The scoreboard's start is at most each number on the air.
reached_flying : (ms : List Mpdu) (y : Session) (e lo hi low n : ℕ) → y.first ≤ lo → Rises lo hi ms →
    AllIn y (State.Flying e) ms → low ≤ start_of y → SomeMpdu (λ m. m.number < n + y.size) ms →
    low ≤ n + y.size
reached_flying [] y e lo hi low n b r a l h = absurd h
reached_flying (m ∷ ms) y e lo hi low n b r a l h = elim h [
  | inl near ↦ omega (arith, near, l, unsettled_ge y m.number (omega (arith, b, r.0)) (ap is_settled a.0))
  | inr rest ↦ reached_flying ms y e (suc m.number) hi low n (omega (arith, b, r.0)) r.2 a.1 l rest
]

reached : (c : Content) (y : Session) (r : Receiver) (e n : ℕ) → IsAgreed y r → FlyIn e (mpdus_of c) y →
    IfRequest c (λ f. IsAsked f y) → IsReached c n y.size → score_start r ≤ n + y.size
reached (Frames ms) y r e n a f q h = reached_flying ms y e y.first (next_number y) (score_start r) n
    (omega arith) f.rising f.flying (score_kept y r a) h
reached (Request g) y r e n a f q h = omega (arith, score_kept y r a, start_le y.slots y.first, q.next, h)

-- The answer's start is at most a window below the scoreboard's start, and at most the session's next
-- number.
abbrev pub StandsNear : Session → Receiver → Score → Type 0
StandsNear y r b = (score_start r ≤ b.start + y.size) × (b.start ≤ next_number y)

pub answers_near : (w : World) → IsLawful w → Marked w →
    Each (λ x. IfSome x.answer (StandsNear (session w x.station x.tid) (receiver w x.station x.tid))) w.opened
answers_near w i h = each_both (IsOpenIn w) (IsMarked w)
    (λ x. IfSome x.answer (StandsNear (session w x.station x.tid) (receiver w x.station x.tid))) w.opened
    (λ x o m.
    let y : Session = session w x.station x.tid in
    let r : Receiver = receiver w x.station x.tid in
    option_along (IsAnswered y x.content) (StandsNear y r) x.answer
    (λ b a. (
      reached x.content y r x.number b.start
          (i.agreed x.station x.tid) o.opened.flies o.opened.asked a.near,
      a.below,
    )) m.answered) i.opened
    h.marks
