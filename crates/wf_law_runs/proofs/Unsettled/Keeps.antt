-- Proves which changes of a world give no number and open no exchange. No call except a pull does.
use Rattle.std.proofs.Common.{◌≡◌, refl, ap, sym, ◌∙◌, subst, arith, ℕ, ◌≤◌, ◌==◌, not, Bool, true, false, List, [], ◌∷◌, Option, Some, None, IfSome}
use Rattle.wf_frame.specs.Classes.{all_classes}
use Rattle.wf_frame.specs.declared.classes.Cause.TheVariants.{Retries}
use Rattle.wf_frame.specs.declared.classes.Fate.TheVariants.{Dropped}
use Rattle.wf_frame.specs.declared.notes.Ask.TheVariants.{Pull}
use Rattle.wf_frame.specs.declared.notes.Note.{Note}
use Rattle.wf_frame.specs.declared.notes.Note.TheVariants.{Asked}
use Rattle.wf_frame.specs.declared.notes.Refusal.{Refusal}
use Rattle.wf_frame.specs.declared.notes.Refusal.TheVariants.{Idle}
use Rattle.wf_def_lists.specs.Bounds.{greatest_window}
use Rattle.wf_def_lists.specs.Table.{upto, with_member}
use Rattle.wf_def_agreement.specs.Receiver.{Receiver, score}
use Rattle.wf_def_agreement.specs.Session.{Session, Slot, State, End, slot, on_slot, with_state, is_settled, is_failed, after_flush, start_of}
use Rattle.wf_def_world.specs.World.{World, Mode, Station, Tid, Exchange, Mpdu, Content, Frames, Request, new_tid, session, receiver, tid_of, exchange, with_station, on_tid, on_session, on_receiver, with_exchange, without_exchange, with_frame_finished}
use Rattle.wf_def_world.specs.Exchanges.{end_of, after_arrival, after_charge, with_failed_finished, with_settled, with_all_settled, with_heard_start, after_done, caught_up, caught_up_if_plain}
use Rattle.wf_def_world.specs.Step.{Outcome, join_outcome, offload_outcome, plain_outcome, leave_outcome, arrive_outcome, answer_outcome, unsent_outcome, give_up_outcome, flush_outcome, done_outcome, begin_outcome, cease_outcome, after_numbers_ended, outcome_where_open, reap_outcome, after_refusal, new_station, plain_window}
use Rattle.wf_law_rules.proofs.Lemmas.Numbers.{on_bool, on_if, eq_yes, eq_no}
use Rattle.wf_law_runs.proofs.Common.Ends.{slot_after_end, on_settled}
use Rattle.wf_law_runs.proofs.Common.Flushes.{if_flushed, if_caught}
use Rattle.wf_law_runs.proofs.Common.Marks.{with_marks, marked_world}
use Rattle.wf_law_runs.proofs.Common.Refused.{after_idle}
use Rattle.wf_law_runs.proofs.Frames.Delivered.{opened_on_receiver}
use Rattle.wf_law_runs.proofs.Releases.Released.{side_with_station, side_own_station}
use Rattle.wf_law_runs.proofs.Sent.Lengths.{opened_station}
use Rattle.wf_law_runs.proofs.Windows.Agreed.{IsLawful, IsFound, IsEnding, each_map_if, ending_settled, ending_of, same_left_tids, same_off_lists}
use Rattle.wf_law_runs.proofs.Windows.Opened.{Each, each_filter, each_find, eight}
use Rattle.wf_law_runs.proofs.Windows.Sides.{Side, Same, same, sides_of, then_same, each_side_on, on_opened, same_on_queue, same_finish, same_charged, same_after_pick, caught_up_is, told_start, begun_is, ceased_is, same_ended}
use Rattle.wf_law_runs.proofs.Unsettled.Counts.{open_in, least, open_on_slot, open_flush, open_heard}
use Rattle.wf_law_runs.proofs.Unsettled.Flights.{IsShort}

-- No TID has more open numbers in world v than in world w, and the open exchanges are as short.
pub record Keeps (w v : World) : Type 0 where
  pub numbers : (s t : ℕ) → open_in (session v s t) ≤ open_in (session w s t)
  pub opened : (most : ℕ) → Each (IsShort most) w.opened → Each (IsShort most) v.opened

pub keeps_same : (w v : World) → Same w v → Keeps w v
keeps_same w v h = record {
  numbers = λ s t. subst (λ (a : Side). open_in a.session ≤ open_in (session w s t)) (sym (h.sides s t))
      (least (open_in (session w s t)));
  opened = λ most. subst (Each (IsShort most)) (sym h.opened);
}

pub then_keeps : (u v w : World) → Keeps u v → Keeps v w → Keeps u w
then_keeps u v w h k = record {
  numbers = λ s t. omega (arith, h.numbers s t, k.numbers s t);
  opened = λ most e. k.opened most (h.opened most e);
}

keeps_on_tid : (w : World) (s t : ℕ) (f : Tid → Tid) →
    open_in (f (tid_of w s t)).session ≤ open_in (session w s t) → Keeps w (on_tid w s t f)
keeps_on_tid w s t f h = record {
  numbers = each_side_on (λ i j a. open_in a.session ≤ open_in (session w i j)) w s t f
      (λ i j. least (open_in (session w i j))) h;
  opened = λ most. subst (Each (IsShort most)) (sym (on_opened w s t f));
}

pub keeps_on_session : (w : World) (s t : ℕ) (f : Session → Session) →
    open_in (f (session w s t)) ≤ open_in (session w s t) → Keeps w (on_session w s t f)
unfolding on_session
keeps_on_session w s t f h = keeps_on_tid w s t _ h

keeps_on_receiver : (w : World) (s t : ℕ) (f : Receiver → Receiver) → Keeps w (on_receiver w s t f)
unfolding on_receiver
keeps_on_receiver w s t f = keeps_on_tid w s t _ (least (open_in (session w s t)))

-- ---- exchanges

-- The exchange is as short as all open ones are.
abbrev pub IsAsShort : World → Exchange → Type 0
IsAsShort w x = (most : ℕ) → Each (IsShort most) w.opened → IsShort most x

-- The exchange with z's number is replaced by z.
keeps_with_exchange : (w : World) (z : Exchange) → IsAsShort w z → Keeps w (with_exchange w z)
unfolding with_exchange
keeps_with_exchange w z h = record {
  numbers = λ s t. least (open_in (session w s t));
  opened = λ most e. each_map_if (IsShort most) (IsShort most) (λ y. y.number == z.number) z w.opened
      (h most e) (λ y _ k. k) e;
}

keeps_without : (w : World) (e : ℕ) → Keeps w (without_exchange w e)
unfolding without_exchange
keeps_without w e = record {
  numbers = λ s t. least (open_in (session w s t));
  opened = λ most h. each_filter (IsShort most) (IsShort most) (λ y. not (y.number == e)) w.opened
      (λ y _ k. k) h;
}

pub keeps_arrived : (w : World) (x : Exchange) (n : ℕ) → IsAsShort w x → Keeps w (arrive_outcome w x n).world
unfolding arrive_outcome
keeps_arrived w x n h =
    let u : World = on_receiver w x.station x.tid (after_arrival x.content n) in
    let same_opened : u.opened ≡ w.opened =
    opened_on_receiver w x.station x.tid (after_arrival x.content n) in
    then_keeps w u _ (keeps_on_receiver w x.station x.tid (after_arrival x.content n))
    (keeps_with_exchange u (record x { arrived = with_member n x.arrived })
    (λ most e. h most (subst (Each (IsShort most)) same_opened e)))

pub keeps_answered : (w : World) (x : Exchange) → IsAsShort w x → Keeps w (answer_outcome w x).world
unfolding answer_outcome
keeps_answered w x h =
    keeps_with_exchange w (record x { answer = Some (score (receiver w x.station x.tid)) }) h

keeps_marked : (w : World) (x : Exchange) (unsent given_up : List ℕ) → IsAsShort w x →
    Keeps w (marked_world w x unsent given_up)
keeps_marked w x unsent given_up h = keeps_with_exchange w (with_marks unsent given_up x) h

pub keeps_unsent : (w : World) (x : Exchange) (n : ℕ) → IsAsShort w x → Keeps w (unsent_outcome w x n).world
unfolding unsent_outcome
keeps_unsent w x n h = keeps_marked w x (with_member n x.unsent) x.given_up h

pub keeps_given_up : (w : World) (x : Exchange) (n : ℕ) → IsAsShort w x →
    Keeps w (give_up_outcome w x n).world
unfolding give_up_outcome
keeps_given_up w x n h = keeps_marked w x x.unsent (with_member n x.given_up) h

pub keeps_open : (P : Exchange → Type 0) (o : Option Exchange) (w : World) (f : Exchange → Outcome) →
    IfSome o P → ((x : Exchange) → P x → Keeps w (f x).world) → Keeps w (outcome_where_open w o f).world
unfolding outcome_where_open
keeps_open P None w f h k = keeps_same w w (same w)
keeps_open P (Some x) w f h k = k x h

-- An exchange that is found is as short as all open ones are.
pub found_short : (w : World) (e : ℕ) → IfSome (exchange w e) (IsAsShort w)
found_short w e = go (exchange w e)
    (λ most h. each_find (IsShort most) (IsShort most) (λ x. x.number == e) w.opened (λ x _ k. k) h)
  where
    go : (o : Option Exchange) →
        ((most : ℕ) → Each (IsShort most) w.opened → IfSome o (IsShort most)) → IfSome o (IsAsShort w)
    go None h = tt
    go (Some x) h = h

-- ---- a TID catches up, and an agreement begins or ends

keeps_caught : (w : World) (s t : ℕ) → Keeps w (caught_up w s t)
keeps_caught w s t = subst (Keeps w) (sym (caught_up_is w s t))
    (keeps_on_tid w s t (told_start (start_of (session w s t))) (least (open_in (session w s t))))

keeps_caught_up : (w : World) (s t : ℕ) → Keeps w (caught_up_if_plain w s t)
keeps_caught_up w s t = if_caught (Keeps w) w s t (keeps_same w w (same w)) (λ _. keeps_caught w s t)

pub keeps_begun : (w : World) (s t window : ℕ) → Keeps w (begin_outcome w s t window).world
keeps_begun w s t window = subst (Keeps w) (sym (begun_is w s t window))
    (keeps_on_tid w s t _ (least (open_in (session w s t))))

keeps_failed : (w : World) (s t : ℕ) → Keeps w (on_session w s t (after_flush w.config.attempts))
keeps_failed w s t = keeps_on_session w s t (after_flush w.config.attempts)
    (open_flush w.config.attempts (session w s t))

pub keeps_ceased : (w : World) (s t : ℕ) → Keeps w (cease_outcome w s t).world
keeps_ceased w s t =
    let u : World = after_numbers_ended w s t in
    subst (Keeps w) (sym (ceased_is w s t)) (then_keeps w u _
    (then_keeps w _ u (keeps_failed w s t) (keeps_same _ u (same_ended w s t)))
    (keeps_on_tid u s t _ (least (open_in (session u s t)))))

pub keeps_flushed : (w : World) (s t : ℕ) → Keeps w (flush_outcome w s t).world
keeps_flushed w s t = if_flushed (Keeps w)
    (record {
      finish = λ u id k. then_keeps w u _ k (keeps_same u _ (same_finish u _ id));
      empty = λ u q k. then_keeps w u _ k (keeps_same u _ (same_on_queue u q _));
    }) w s t (λ v k _. then_keeps w v _ k (keeps_caught v s t)) (keeps_failed w s t)

-- ---- the end of an exchange

-- A number on the air is open before its exchange ends.
keeps_settled : (end : End) (e s t : ℕ) (ends : ℕ → End) (w : World) (m : Mpdu) (ms : List Mpdu) →
    IsEnding e s t ends w (m ∷ ms) → Keeps w (with_settled w s t end m)
unfolding with_settled with_failed_finished
keeps_settled end e s t ends w m ms n =
    let f : Slot → Slot = slot_after_end w.config.attempts end in
    let v : World = on_session w s t (on_slot m.number f) in
    let flies : is_settled (slot (session w s t) m.number).state ≡ false = ap is_settled n.flies.flying.0 in
    let k : Keeps w v = keeps_on_session w s t (on_slot m.number f)
    (open_on_slot (session w s t) m.number f flies) in
    on_settled (Keeps w) end w s t m
    (λ _. then_keeps w _ _ (keeps_on_session w s t (with_state State.Acked m.number)
    (open_on_slot (session w s t) m.number (λ x. record x { state = State.Acked }) flies))
    (keeps_same _ _ (same_finish _ _ _)))
    (λ _. on_if (λ (u : World). Keeps w u) (is_failed (slot (session v s t) m.number).state)
    (with_frame_finished v (Dropped Retries) m.id) v
    (λ _. then_keeps w v _ k (keeps_same v _ (same_finish v _ _))) (λ _. k))

keeps_all_settled : (ms : List Mpdu) (e s t : ℕ) (w : World) (ends : ℕ → End) → IsEnding e s t ends w ms →
    Keeps w (with_all_settled w s t ends ms)
unfolding with_all_settled
keeps_all_settled [] e s t w ends n = keeps_same w w (same w)
keeps_all_settled (m ∷ ms) e s t w ends n =
    then_keeps w _ _ (keeps_settled (ends m.number) e s t ends w m ms n)
    (keeps_all_settled ms e s t _ ends (ending_settled (ends m.number) e s t ends w m ms refl n))

keeps_after_done : (air : Option ℕ) (c : Content) (w : World) (i : IsLawful w) (x : Exchange) (heard : Bool) →
    x.content ≡ c → IsFound w i x → Keeps w (after_charge (without_exchange w x.number) x air) →
    Keeps w (after_done (after_charge (without_exchange w x.number) x air) x heard c)
unfolding after_done
keeps_after_done air (Frames ms) w i x heard e f h =
    then_keeps w _ _ (then_keeps w _ _ h (keeps_all_settled ms x.number x.station x.tid _
    (end_of (after_charge (without_exchange w x.number) x air) x heard) (ending_of air w i x ms heard e f)))
    (keeps_caught_up _ x.station x.tid)
keeps_after_done air (Request g) w i x heard e f h =
    then_keeps w _ _ h (keeps_on_session _ x.station x.tid (with_heard_start heard g) (open_heard heard g _))

pub keeps_ended : (air : Option ℕ) (w : World) (i : IsLawful w) (x : Exchange) (heard : Bool) →
    IsFound w i x → Keeps w (done_outcome w x heard air).world
unfolding done_outcome
keeps_ended air w i x heard f =
    keeps_after_done air x.content w i x heard refl f (then_keeps w _ _ (keeps_without w x.number)
    (keeps_same _ _ (same_charged air (without_exchange w x.number) x)))

-- ---- stations join and leave

keeps_station : (w : World) (i : ℕ) (o : Option Station) → ((t : ℕ) → open_in (sides_of o t).session ≡ 0) →
    Keeps w (with_station w i o)
keeps_station w i o none = record {
  numbers = λ s t. on_bool (i == s)
      (λ own.
      let is : session (with_station w i o) s t ≡ (sides_of o t).session =
      ap (λ (k : ℕ). session (with_station w i o) k t) (sym (eq_yes i s own))
      ∙ ap (λ (a : Side). a.session) (side_own_station w i t o) in
      subst (λ (y : Session). open_in y ≤ open_in (session w s t)) (sym is) (omega (arith, none t)))
      (λ other. subst (λ (a : Side). open_in a.session ≤ open_in (session w s t))
      (sym (side_with_station w i s t o (eq_no i s other))) (least (open_in (session w s t))));
  opened = λ most. subst (Each (IsShort most)) (sym (opened_station w i o));
}

keeps_new : (w : World) (s : ℕ) (mode : Mode) (window start exponent weight : ℕ) (offloaded : Bool) →
    Keeps w (with_station w s (Some (new_station w.config mode window start exponent weight offloaded)))
keeps_new w s mode window start exponent weight offloaded = keeps_station w s _
    (eight (λ y. open_in y.session ≡ 0) (new_tid mode start window) refl refl)

pub keeps_joined : (w : World) (s window start exponent weight : ℕ) →
    Keeps w (join_outcome w s window start exponent weight).world
unfolding join_outcome
keeps_joined w s window start exponent weight = keeps_new w s Mode.Agreed window start exponent weight false

pub keeps_offloaded : (w : World) (s exponent weight : ℕ) →
    Keeps w (offload_outcome w s exponent weight).world
unfolding offload_outcome
keeps_offloaded w s exponent weight = keeps_new w s Mode.Plain greatest_window 0 exponent weight true

pub keeps_plain : (w : World) (s start exponent weight : ℕ) →
    Keeps w (plain_outcome w s start exponent weight).world
unfolding plain_outcome
keeps_plain w s start exponent weight = keeps_new w s Mode.Plain plain_window start exponent weight false

pub keeps_gone : (w : World) (s : ℕ) → Keeps w (leave_outcome w s).world
unfolding leave_outcome
keeps_gone w s = then_keeps w _ _ (keeps_same w _ (then_same _ _ _ (same_left_tids (upto 8) w s)
    (same_off_lists all_classes _ s))) (keeps_station _ s None (λ t. refl))

-- ---- other calls

pub keeps_reaped : (ids : List ℕ) (w : World) → Keeps w (reap_outcome w ids).world
unfolding reap_outcome
keeps_reaped [] w = keeps_same w w (same w)
keeps_reaped (id ∷ ids) w = record {
  numbers = λ s t. least (open_in (session w s t));
  opened = λ most e. e;
}

-- A call is refused.
pub keeps_refused : (note : Note) (r : Refusal) (w : World) → Keeps w (after_refusal w note r)
unfolding after_refusal
keeps_refused (Asked (Pull c l)) Idle w = after_idle (Keeps w) w c (keeps_same w w (same w))
    (keeps_same w _ (same_after_pick w c))
keeps_refused _ _ w = keeps_same w w (same w)
