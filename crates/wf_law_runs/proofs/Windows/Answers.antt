-- Proves the law of answers: as long as an exchange is open, its answer does not change, and neither do the
-- arrivals that it shows. By cases of the call and induction on the run.
use Rattle.std.proofs.Common.{◌≡◌, ◌≢◌, refl, ap, sym, ◌∙◌, subst, arith, ℕ, ◌<◌, Bool, true, false, if◌then◌else◌, ◌==◌, List, [], ◌∷◌, ◌++◌, map, Option, Some, None, IfSome, is_some}
use Rattle.wf_frame.specs.declared.settings.Config.{Config}
use Rattle.wf_frame.specs.declared.classes.Class.{Class}
use Rattle.wf_def_lists.specs.Table.{has, with_member, upto}
use Rattle.wf_def_agreement.specs.Receiver.{Receiver, Score, score}
use Rattle.wf_def_agreement.specs.Session.{next_number}
use Rattle.wf_def_world.specs.World.{receiver, World, Station, Exchange, Mpdu, Content, rotation, session, is_live, exchange, with_station, on_station, on_receiver, with_exchange, opening, is_held_back}
use Rattle.wf_def_world.specs.Service.{station_served}
use Rattle.wf_frame.specs.Classes.{all_classes}
use Rattle.wf_def_world.specs.CanSend.{is_ready}
use Rattle.wf_def_world.specs.Exchanges.{station_need, picked_station, after_arrival, exchange_of, sending_tid, Prepared, mpdus_of, after_tid_turn, with_exchange_opened}
use Rattle.wf_frame.specs.declared.notes.Ask.TheVariants.{Join, Leave, Rate, Tick, Pull, Arrive, Answer, Done, Sleep, Wake, Poll, Rx, Reap, Ampdu, Stop, Start, Unsent, GiveUp, Flush, Offload, Weight, Hold, Begin, Free, Cease, Group, Service, Bss}
use Rattle.wf_frame.specs.declared.notes.Ask.TheVariants as call
use Rattle.wf_frame.specs.declared.notes.Limits.{Limits}
use Rattle.wf_frame.specs.declared.notes.Note.{Note}
use Rattle.wf_frame.specs.declared.notes.Note.TheVariants.{Enqueue, Asked}
use Rattle.wf_frame.specs.declared.notes.Refusal.{Refusal}
use Rattle.wf_frame.specs.declared.notes.Refusal.TheVariants.{Idle}
use Rattle.wf_def_world.specs.Refusals.{refusals, refusal}
use Rattle.wf_def_world.specs.Step.{Outcome, join_outcome, leave_outcome, rate_outcome, tick_outcome, send_outcome, pull_outcome_for, pull_outcome, arrive_outcome, answer_outcome, unsent_outcome, give_up_outcome, flush_outcome, done_outcome, outcome_where_open, sleep_outcome, wake_outcome, poll_outcome, rx_outcome, reap_outcome, outcome_of, after_refusal, judged_outcome, step, concerned_station, offload_outcome, plain_outcome}
use Rattle.wf_def_world.specs.Run.{Entry, world_after, by}
use Rattle.wf_law_rules.proofs.Lemmas.Numbers.{eq_yes, eq_no}
use Rattle.wf_law_runs.proofs.Common.Refused.{after_idle}
use Rattle.wf_law_runs.proofs.Common.Marks.{with_marks, marked_world}
use Rattle.wf_law_runs.proofs.Common.Flushes.{if_flushed}
use Rattle.wf_law_runs.proofs.Windows.Sides.{sided, Same, on_exchanges, then_same, same_on_station, same_on_share, same_on_queue, same_finish, same_listed, same_after_pick, same_after_turn, same_spent, same_picked, same_weighed, same_held, same_freed, opened_begun, exchanges_begun, opened_ceased, exchanges_ceased}
use Rattle.wf_law_runs.proofs.Windows.Agreement.{answer_right, AllRight}
use Rattle.wf_law_runs.proofs.Windows.Opened.{Each, each_both, each_append, each_find, some_along, pick_ready, left_true, NoRow, no_row}
use Rattle.wf_law_runs.specs.Windows.{EachMpdu}
use Rattle.wf_law_runs.specs.Answers.{IsBa, StandsAsThen, AnswerLaw}
use Rattle.wf_law_runs.proofs.Common.Picked.{picked_world}
use Rattle.wf_law_runs.proofs.Windows.Agreed.{IsLawful, IsOpenIn, lawful, lawful_step, lawful_run, lawful_same, opened_on_session, exchanges_on_session, same_left_tids, same_off_lists, if_on, each_map_if, not_no}
use Rattle.wf_law_runs.proofs.Frames.Delivered.{IsPrepared, prepared_right, opened_ended, exchanges_ended, opened_on_receiver, same_enqueued, filtered}
use Rattle.wf_law_runs.proofs.Releases.Kept.{opened_caught, exchanges_caught}

record Stands (b : Score) (s t : ℕ) (c : Content) (x : Exchange) : Type 0 where
  answer : x.answer ≡ Some b
  station : x.station ≡ s
  tid : x.tid ≡ t
  content : x.content ≡ c

-- An open exchange with the number e is this one, with this answer.
record IsStanding (e : ℕ) (b : Score) (s t : ℕ) (c : Content) (w : World) : Type 0 where
  below : e < w.exchanges
  stands : Each (λ x. x.number ≡ e → Stands b s t c x) w.opened

pub exchanges_on_receiver : (w : World) (s t : ℕ) (g : Receiver → Receiver) →
    (on_receiver w s t g).exchanges ≡ w.exchanges
unfolding on_receiver
exchanges_on_receiver w s t g = on_exchanges w s t _

module _ (e : ℕ) (b : Score) (s t : ℕ) (c : Content) where
  abbrev AsThen : Exchange → Type 0
  AsThen x = x.number ≡ e → Stands b s t c x

  standing_plain : (w v : World) → v.opened ≡ w.opened → v.exchanges ≡ w.exchanges → IsStanding e b s t c w →
      IsStanding e b s t c v
  standing_plain w v o x h = record {
    below = omega (arith, h.below, x);
    stands =
        subst (Each AsThen) (sym o) h.stands;
  }

  standing_same : (w v : World) → Same w v → IsStanding e b s t c w → IsStanding e b s t c v
  standing_same w v k h = standing_plain w v k.opened k.exchanges h

  standing_sent : (i j : ℕ) (d : Class) (w : World) (p : Prepared) → IsPrepared i j w p →
      IsStanding e b s t c w → IsStanding e b s t c (send_outcome i j d p).world
  unfolding send_outcome with_exchange_opened
  standing_sent i j d w p r h =
      let x : Exchange = exchange_of i j d p in
      let new : x.number ≢ e = λ same_number. omega (arith, same_number, r.exchanges, h.below) in
      standing_same _ _ (same_spent _ _) (record {
        below = omega (arith, h.below, r.exchanges);
        stands =
            each_append AsThen p.world.opened x (subst (Each AsThen) (sym r.opened) h.stands)
            (λ k. absurd (new k));
      })

  standing_pulled_by : (o : Option ℕ) (w : World) (d : Class) → IfSome o (λ i. is_live w i ≡ true) →
      IsLawful w → IsStanding e b s t c w → IsStanding e b s t c (pull_outcome_for w d o).world
  unfolding pull_outcome_for
  standing_pulled_by None w d live i h = h
  standing_pulled_by (Some a) w d live i h =
      let v : World = after_tid_turn w a d (sending_tid w a d) in
      let k : Same w v = same_after_turn w a d (sending_tid w a d) in
      standing_sent a _ d v _ (prepared_right v a _ (lawful_same _ _ k i) (k.live a ∙ live))
      (standing_same w v k h)

  standing_pulled : (w : World) (d : Class) (l : Limits) → IsLawful w → IsStanding e b s t c w →
      IsStanding e b s t c (pull_outcome w d l).world
  unfolding pull_outcome
  standing_pulled w d l i h =
      let k : Same w (picked_world w d l) = same_picked w d l in
      standing_pulled_by (picked_station w d).winner (picked_world w d l) d
      (some_along (λ a. is_ready w d a ≡ true) (λ a. is_live (picked_world w d l) a ≡ true)
      (picked_station w d).winner (λ a g. k.live a ∙ left_true (is_live w a) _ g)
      (pick_ready (station_need w d) (is_ready w d) (rotation w d))) (lawful_same _ _ k i)
      (standing_same w _ k h)

  standing_replaced : (w v : World) (z : Exchange) →
      v.opened ≡ map (λ y. if y.number == z.number then z else y) w.opened → v.exchanges ≡ w.exchanges →
      AsThen z → IsStanding e b s t c w → IsStanding e b s t c v
  standing_replaced w v z o x f h = record {
    below = omega (arith, h.below, x);
    stands =
        subst (Each AsThen) (sym o) (each_map_if AsThen AsThen (λ y. y.number == z.number) z w.opened f
        (λ y _ g. g) h.stands);
  }

  -- An exchange without an answer is another one.
  other_one : (x : Exchange) → AsThen x → is_some x.answer ≡ false → x.number ≢ e
  other_one x f none k = cc ((ap is_some (f k).answer), none)

  standing_answered : (w : World) (x : Exchange) → AsThen x → is_some x.answer ≡ false →
      IsStanding e b s t c w → IsStanding e b s t c (answer_outcome w x).world
  unfolding answer_outcome with_exchange
  standing_answered w x f none h = standing_replaced w _
      (record x { answer = Some (score (receiver w x.station x.tid)) }) refl refl
      (λ k. absurd (other_one x f none k)) h

  standing_arrived : (w : World) (x : Exchange) (n : ℕ) → AsThen x → is_some x.answer ≡ false →
      IsStanding e b s t c w → IsStanding e b s t c (arrive_outcome w x n).world
  unfolding arrive_outcome with_exchange
  standing_arrived w x n f none h =
      let z : Exchange = record x { arrived = with_member n x.arrived } in
      standing_replaced w _ z (ap (map (λ y. if y.number == z.number then z else y))
      (opened_on_receiver w x.station x.tid (after_arrival x.content n)))
      (exchanges_on_receiver w x.station x.tid (after_arrival x.content n))
      (λ k. absurd (other_one x f none k)) h

  standing_marked : (w : World) (x : Exchange) (unsent given_up : List ℕ) → AsThen x →
      IsStanding e b s t c w → IsStanding e b s t c (marked_world w x unsent given_up)
  unfolding with_exchange
  standing_marked w x unsent given_up f h = standing_replaced w _ (with_marks unsent given_up x) refl refl
      (λ k. record {
        answer = (f k).answer;
        station = (f k).station;
        tid = (f k).tid;
        content = (f k).content;
      })
      h

  standing_unsent : (w : World) (x : Exchange) (n : ℕ) → AsThen x → IsStanding e b s t c w →
      IsStanding e b s t c (unsent_outcome w x n).world
  unfolding unsent_outcome
  standing_unsent w x n f h = standing_marked w x (with_member n x.unsent) x.given_up f h

  standing_given_up : (w : World) (x : Exchange) (n : ℕ) → AsThen x → IsStanding e b s t c w →
      IsStanding e b s t c (give_up_outcome w x n).world
  unfolding give_up_outcome
  standing_given_up w x n f h = standing_marked w x x.unsent (with_member n x.given_up) f h

  standing_flushed : (w : World) (i j : ℕ) → IsStanding e b s t c w →
      IsStanding e b s t c (flush_outcome w i j).world
  standing_flushed w i j h = if_flushed (IsStanding e b s t c)
      (record {
        finish = λ u id k. standing_same u _ (same_finish u _ id) k;
        empty = λ u q k. standing_same u _ (same_on_queue u q _) k;
      })
      w i j (λ v k _. standing_plain v _ (opened_caught v i j) (exchanges_caught v i j) k)
      (standing_plain w _ (opened_on_session w i j _) (exchanges_on_session w i j _) h)

  standing_ended : (air : Option ℕ) (w : World) (x : Exchange) (heard : Bool) → IsStanding e b s t c w →
      IsStanding e b s t c (done_outcome w x heard air).world
  standing_ended air w x heard h = record {
    below = omega (arith, h.below, exchanges_ended air w x heard);
    stands =
        subst (Each AsThen) (sym (opened_ended air w x heard)) (filtered w x.number AsThen h.stands);
  }

  standing_with_station : (w : World) (i : ℕ) (o : Option Station) → IsStanding e b s t c w →
      IsStanding e b s t c (with_station w i o)
  unfolding with_station
  standing_with_station w i o h = record { below = h.below; stands = h.stands }

  standing_joined : (w : World) (i window start exponent weight : ℕ) → IsStanding e b s t c w →
      IsStanding e b s t c (join_outcome w i window start exponent weight).world
  unfolding join_outcome
  standing_joined w i window start exponent weight h = standing_with_station w i _ h

  standing_offloaded : (w : World) (i exponent weight : ℕ) → IsStanding e b s t c w →
      IsStanding e b s t c (offload_outcome w i exponent weight).world
  unfolding offload_outcome
  standing_offloaded w i exponent weight h = standing_with_station w i _ h

  standing_unagreed : (w : World) (i start exponent weight : ℕ) → IsStanding e b s t c w →
      IsStanding e b s t c (plain_outcome w i start exponent weight).world
  unfolding plain_outcome
  standing_unagreed w i start exponent weight h = standing_with_station w i _ h

  standing_gone : (w : World) (i : ℕ) → IsStanding e b s t c w →
      IsStanding e b s t c (leave_outcome w i).world
  unfolding leave_outcome
  standing_gone w i h = standing_with_station _ i None
      (standing_same _ _ (then_same _ _ _ (same_left_tids (upto 8) w i) (same_off_lists all_classes _ i)) h)

  standing_reaped : (ids : List ℕ) (w : World) → IsStanding e b s t c w →
      IsStanding e b s t c (reap_outcome w ids).world
  unfolding reap_outcome
  standing_reaped [] w h = h
  standing_reaped (id ∷ ids) w h = standing_plain w _ refl refl h

  standing_station : (w : World) (i : ℕ) (f : Station → Station) →
      ((x : Station) (t : ℕ) → sided (f x) t ≡ sided x t) →
      IsStanding e b s t c w → IsStanding e b s t c (on_station w i f)
  standing_station w i f g h = standing_same w _ (same_on_station w i f g) h

  standing_open : (P Q : Exchange → Type 0) (o : Option Exchange) (w : World) (f : Exchange → Outcome) →
      IfSome o P → IfSome o Q → IsStanding e b s t c w →
      ((x : Exchange) → P x → Q x → IsStanding e b s t c (f x).world) →
      IsStanding e b s t c (outcome_where_open w o f).world
  unfolding outcome_where_open
  standing_open P Q None w f p q h k = h
  standing_open P Q (Some x) w f p q h k = k x p q

  found_then : (w : World) (n : ℕ) → IsStanding e b s t c w → IfSome (exchange w n) AsThen
  found_then w n h = each_find AsThen AsThen (λ x. x.number == n) w.opened (λ x _ f. f) h.stands

  standing_done : (note : Note) (w : World) → IsLawful w → NoRow (refusals w note) → IsStanding e b s t c w →
      IsStanding e b s t c (outcome_of w note).world
  unfolding outcome_of tick_outcome rate_outcome sleep_outcome wake_outcome poll_outcome rx_outcome
  standing_done (Enqueue i j flow len) w l r h = standing_same w _ (same_enqueued w i j flow len) h
  standing_done (Asked (Join i window start exponent weight)) w l r h =
      standing_joined w i window start exponent weight h
  standing_done (Asked (Leave i)) w l r h = standing_gone w i h
  standing_done (Asked (Rate i rate)) w l r h = standing_station w i _ (λ x t. refl) h
  standing_done (Asked (Tick by)) w l r h = standing_plain w _ refl refl h
  standing_done (Asked (Pull d limits)) w l r h = standing_pulled w d limits l h
  standing_done (Asked (Arrive x n)) w l r h = standing_open AsThen (λ y. is_some y.answer ≡ false)
      (exchange w x) w _ (found_then w x h) (if_on (exchange w x) (λ y. is_some y.answer) r.1.1.0) h
      (λ y f none. standing_arrived w y n f none h)
  standing_done (Asked (Answer x)) w l r h = standing_open AsThen (λ y. is_some y.answer ≡ false)
      (exchange w x) w _ (found_then w x h) (if_on (exchange w x) (λ y. is_some y.answer) r.1.0) h
      (λ y f none. standing_answered w y f none h)
  standing_done (Asked (Done x heard air)) w l r h =
      standing_open AsThen AsThen (exchange w x) w _ (found_then w x h) (found_then w x h) h
      (λ y f g. standing_ended air w y heard h)
  standing_done (Asked (Sleep i)) w l r h = standing_station w i _ (λ x t. refl) h
  standing_done (Asked (Ampdu i octets)) w l r h = standing_station w i _ (λ x t. refl) h
  standing_done (Asked (Stop i)) w l r h = standing_station w i _ (λ x t. refl) h
  standing_done (Asked (Start i)) w l r h = standing_station w i _ (λ x t. refl) h
  standing_done (Asked (Wake i)) w l r h = standing_station w i _ (λ x t. refl) h
  standing_done (Asked (Poll i)) w l r h = standing_station w i _ (λ x t. refl) h
  standing_done (Asked (Rx i d air)) w l r h = standing_same w _ (same_on_share w i d _) h
  standing_done (Asked Reap) w l r h = standing_reaped w.finished w h
  standing_done (Asked (Unsent x n)) w l r h =
      standing_open AsThen AsThen (exchange w x) w _ (found_then w x h) (found_then w x h) h
      (λ y f g. standing_unsent w y n f h)
  standing_done (Asked (GiveUp x n)) w l r h =
      standing_open AsThen AsThen (exchange w x) w _ (found_then w x h) (found_then w x h) h
      (λ y f g. standing_given_up w y n f h)
  standing_done (Asked (Flush i j)) w l r h = standing_flushed w i j h
  standing_done (Asked (Offload i exponent weight)) w l r h = standing_offloaded w i exponent weight h
  standing_done (Asked (Weight i weight)) w l r h = standing_same w _ (same_weighed w i weight) h
  standing_done (Asked (call.Plain i start exponent weight)) w l r h =
      standing_unagreed w i start exponent weight h
  standing_done (Asked (Hold i j)) w l r h = standing_same w _ (same_held w i j r.1.1.1.0 r.1.1.1.1.0) h
  standing_done (Asked (Begin i j window)) w l r h =
      standing_plain w _ (opened_begun w i j window) (exchanges_begun w i j window) h
  standing_done (Asked (Free i j)) w l r h =
      standing_same w _ (same_freed w i j (not_no (is_held_back w i j) r.1.1.1.0)) h
  standing_done (Asked (Cease i j)) w l r h =
      standing_plain w _ (opened_ceased w i j) (exchanges_ceased w i j) h
  standing_done (Asked (Group ask)) w l r h = standing_plain w _ refl refl h
  standing_done (Asked (Service ask)) w l r h = standing_station w (station_served ask) _ (λ x t. refl) h
  standing_done (Asked (Bss i b)) w l r h = standing_station w i _ (λ x t. refl) h

  standing_refused : (note : Note) (r : Refusal) (w : World) → IsStanding e b s t c w →
      IsStanding e b s t c (after_refusal w note r)
  unfolding after_refusal
  standing_refused (Asked (Pull d l)) Idle w h = after_idle (IsStanding e b s t c) w d h
      (standing_same w _ (same_after_pick w d) h)
  standing_refused _ _ w h = h

  standing_answer : (r : Option Refusal) (w : World) (note : Note) → refusal w note ≡ r → IsLawful w →
      IsStanding e b s t c w → IsStanding e b s t c (judged_outcome w note r).world
  unfolding judged_outcome
  standing_answer (Some r) w note d l h = standing_refused note r w h
  standing_answer None w note d l h = standing_same _ _
      (same_listed (concerned_station w note) (outcome_of w note).world)
      (standing_done note w l (no_row (refusals w note) d) h)

  standing_step : (w : World) (note : Note) → IsLawful w → IsStanding e b s t c w →
      IsStanding e b s t c (step w note).world
  unfolding step
  standing_step w note l h = standing_answer (refusal w note) w note refl l h

  standing_run : (h : List Entry) (w : World) → IsLawful w → IsStanding e b s t c w →
      IsStanding e b s t c (world_after w h)
  unfolding world_after
  standing_run [] w l k = k
  standing_run (x ∷ xs) w l k = standing_run xs (step w x.1).world (lawful_step w x.1 l)
      (standing_step w x.1 l k)

-- ---- the Answer call

-- The exchange that was answered, in the world after its Answer.
record IsAnswered (e : ℕ) (w v : World) : Type 0 where
  found : Exchange
  same_number : found.number ≡ e
  open_in : IsOpenIn w found
  standing : IsStanding e (score (receiver w found.station found.tid)) found.station found.tid found.content v

start_standing : (w : World) (x : Exchange) (e : ℕ) → x.number ≡ e → IsOpenIn w x → IsLawful w →
    IsStanding e (score (receiver w x.station x.tid)) x.station x.tid x.content (answer_outcome w x).world
unfolding answer_outcome with_exchange
start_standing w x e n o i =
    let z : Exchange = record x { answer = Some (score (receiver w x.station x.tid)) } in
    record {
      below = omega (arith, n, o.below);
      stands = each_map_if (IsOpenIn w) (λ y. y.number ≡ e →
          Stands (score (receiver w x.station x.tid)) x.station x.tid x.content y)
          (λ y. y.number == z.number) z w.opened
          (λ _. record { answer = refl; station = refl; tid = refl; content = refl })
          (λ y other _ k. absurd (eq_no y.number z.number other (k ∙ sym n))) i.opened;
    }

record IsNumbered (w : World) (e : ℕ) (x : Exchange) : Type 0 where
  number : x.number ≡ e
  open_in : IsOpenIn w x

numbered : (w : World) (i : IsLawful w) (e : ℕ) → IfSome (exchange w e) (IsNumbered w e)
numbered w i e = each_find (IsOpenIn w) (IsNumbered w e) (λ x. x.number == e) w.opened
    (λ x yes_number o. record { number = eq_yes x.number e yes_number; open_in = o }) i.opened

answered_open : (o : Option Exchange) (w : World) (i : IsLawful w) (e : ℕ) → IfSome o (IsNumbered w e) →
    IsBa (outcome_where_open w o (λ x. answer_outcome w x)).reply →
    IsAnswered e w (outcome_where_open w o (λ x. answer_outcome w x)).world
unfolding outcome_where_open
answered_open None w i e f b = absurd b
answered_open (Some x) w i e f b = record {
  found = x;
  same_number = f.number;
  open_in = f.open_in;
  standing =
      start_standing w x e f.number f.open_in i;
}

answered_by : (r : Option Refusal) (w : World) (i : IsLawful w) (e : ℕ) →
    IsBa (judged_outcome w (Asked (Answer e)) r).reply →
    IsAnswered e w (judged_outcome w (Asked (Answer e)) r).world
unfolding judged_outcome outcome_of
answered_by (Some r) w i e b = absurd b
answered_by None w i e b =
    let a : IsAnswered e w (outcome_where_open w (exchange w e) (λ x. answer_outcome w x)).world =
    answered_open (exchange w e) w i e (numbered w i e) b in
    record {
      found = a.found;
      same_number = a.same_number;
      open_in = a.open_in;
      standing =
          standing_same e (score (receiver w a.found.station a.found.tid)) a.found.station a.found.tid
          a.found.content _ _ (same_listed _ _) a.standing;
    }

answered_step : (w : World) (i : IsLawful w) (e : ℕ) → IsBa (step w (Asked (Answer e))).reply →
    IsAnswered e w (step w (Asked (Answer e))).world
unfolding step
answered_step w i e b = answered_by (refusal w (Asked (Answer e))) w i e b

-- ---- the arrivals then and now

as_then : (ms : List Mpdu) (b : Score) (r q : Receiver) → AllRight b r ms → AllRight b q ms →
    EachMpdu (λ m. has q.arrived m.number ≡ has r.arrived m.number) ms
as_then [] b r q h k = tt
as_then (m ∷ ms) b r q h k = (sym k.0.shown ∙ h.0.shown, as_then ms b r q h.1 k.1)

stands_then : (w u : World) (x : Exchange) (b : Score) (c : Content) (s t : ℕ) → Stands b s t c x →
    AllRight b (receiver w s t) (mpdus_of c) → IsOpenIn u x → StandsAsThen w u x
stands_then w u x b c s t h then_right o =
    let now : AllRight b (receiver u x.station x.tid) (mpdus_of x.content) =
    subst (λ (a : Option Score). IfSome a (λ b.
    AllRight b (receiver u x.station x.tid) (mpdus_of x.content))) h.answer o.opened.kept in
    let before : AllRight b (receiver w x.station x.tid) (mpdus_of x.content) =
    subst (λ (i : ℕ). AllRight b (receiver w i x.tid) (mpdus_of x.content)) (sym h.station)
    (subst (λ (j : ℕ). AllRight b (receiver w s j) (mpdus_of x.content)) (sym h.tid)
    (subst (λ (d : Content). AllRight b (receiver w s t) (mpdus_of d)) (sym h.content) then_right))
    in
    as_then (mpdus_of x.content) b (receiver w x.station x.tid) (receiver u x.station x.tid) before now

answer_stands : (w : World) (i : IsLawful w) (e : ℕ) (h : List Entry) →
    IsBa (step w (Asked (Answer e))).reply → IfSome
    (exchange (world_after (step w (Asked (Answer e))).world h) e)
    (StandsAsThen w (world_after (step w (Asked (Answer e))).world h))
answer_stands w i e h b =
    let v : World = (step w (Asked (Answer e))).world in
    let u : World = world_after v h in
    let a : IsAnswered e w v = answered_step w i e b in
    let x : Exchange = a.found in
    let sc : Score = score (receiver w x.station x.tid) in
    let lawful_v : IsLawful v = lawful_step w (Asked (Answer e)) i in
    let lawful_u : IsLawful u = lawful_run h v lawful_v in
    let k : IsStanding e sc x.station x.tid x.content u =
    standing_run e sc x.station x.tid x.content h v lawful_v a.standing in
    let right_then : AllRight sc (receiver w x.station x.tid) (mpdus_of x.content) =
    answer_right (mpdus_of x.content) (session w x.station x.tid) (receiver w x.station x.tid) x.number
    (session w x.station x.tid).first (next_number (session w x.station x.tid)) (omega arith)
    (omega arith) a.open_in.opened.flies.rising a.open_in.opened.flies.flying
    (i.agreed x.station x.tid) in
    each_find (λ y. IsOpenIn u y × (y.number ≡ e → Stands sc x.station x.tid x.content y)) (StandsAsThen w u)
    (λ y. y.number == e) u.opened
    (λ y yes_number f. stands_then w u y sc x.content x.station x.tid
    (f.1 (eq_yes y.number e yes_number)) right_then f.0)
    (each_both (IsOpenIn u) (λ y. y.number ≡ e → Stands sc x.station x.tid x.content y)
    (λ y. IsOpenIn u y × (y.number ≡ e → Stands sc x.station x.tid x.content y)) u.opened
    (λ y o f. (o, f)) lawful_u.opened k.stands)

world_after-split : (h : List Entry) (w : World) (e : Entry) (k : List Entry) →
    world_after w (h ++ e ∷ k) ≡ world_after (step (world_after w h) e.1).world k
unfolding world_after
world_after-split [] w e k = refl
world_after-split (x ∷ h) w e k = world_after-split h (step w x.1).world e k

pub answer_law : (config : Config) (h : List Entry) → AnswerLaw config h
answer_law config h before caller e after rest split b =
    subst (λ (u : World). IfSome (exchange u e) (StandsAsThen (world_after (opening config) before) u))
    (sym (world_after-split before (opening config) (by caller (Asked (Answer e))) after))
    (answer_stands (world_after (opening config) before) (lawful config before) e after b)
