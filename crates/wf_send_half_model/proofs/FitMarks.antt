-- Proves that in every run the marks of each open exchange fit its transmissions. By cases of the call: only
-- an Arrive, an Answer, an Unsent and a GiveUp change marks, and their refusals keep the marks fitting.
use Rattle.std.proofs.Common.{◌≡◌, refl, ap, sym, ◌∙◌, subst, arith, ℕ, zero, suc, ◌<◌, ◌≤◌, ◌==◌, ◌&&◌, Bool, true, false, if◌then◌else◌, not, ◌||◌, List, [], ◌∷◌, length, map, Option, Some, None, IfSome, inl, inr, eq-eqb}
use Rattle.std.specs.Prelude.{nat_le, is_some}
use Rattle.std.specs.List.{list_all}
use Rattle.std.proofs.lemmas.Bool.{leb-false, cases_eq, cases_lt, ne_eqb, or_left, or_right}
use Rattle.std.proofs.lemmas.List.{length-map}
use Rattle.std.proofs.lemmas.List.Folds.{list_all-append}
use Rattle.wf_frame.specs.declared.classes.Class.{Class}
use Rattle.wf_frame.specs.declared.notes.Ask.TheVariants.{Join, Leave, Rate, Tick, Pull, Arrive, Answer, Done, Sleep, Wake, Poll, Rx, Reap, Ampdu, Stop, Start, Unsent, GiveUp, Flush, Offload, Weight, Hold, Begin, Free, Cease, Group, Service, Bss}
use Rattle.wf_frame.specs.declared.notes.Ask.TheVariants as call
use Rattle.wf_frame.specs.declared.notes.Limits.{Limits}
use Rattle.wf_frame.specs.declared.notes.Note.{Note}
use Rattle.wf_frame.specs.declared.notes.Note.TheVariants.{Enqueue, Asked}
use Rattle.wf_frame.specs.declared.notes.Refusal.{Refusal}
use Rattle.wf_frame.specs.declared.notes.Refusal.TheVariants.{Idle}
use Rattle.wf_frame.specs.Classes.{all_classes}
use Rattle.wf_def_agreement.specs.Receiver.{Receiver, Score, score}
use Rattle.wf_def_lists.specs.Table.{at, has, with_member, upto}
use Rattle.wf_law_rules.proofs.Lemmas.Numbers.{has_one}
use Rattle.wf_def_world.specs.Service.{station_served}
use Rattle.wf_def_world.specs.World.{World, Station, Exchange, Mpdu, Content, Frames, Request, session, receiver, rotation, is_live, exchange, on_station, on_tid, on_receiver, on_queue, on_session, with_station, with_exchange, without_exchange, with_fate, with_frame_finished, opening}
use Rattle.wf_def_world.specs.CanSend.{is_ready}
use Rattle.wf_def_world.specs.Exchanges.{station_need, picked_station, after_tid_turn, sending_tid, transmissions, mpdus_of, no_mpdu, number_at, numbers_unsent, numbers_given_up, after_arrival, Prepared, exchange_of, with_exchange_opened}
use Rattle.wf_def_world.specs.Refusals.{refusal, refusals, exchange_has}
use Rattle.wf_def_world.specs.Step.{Outcome, join_outcome, offload_outcome, plain_outcome, leave_outcome, rate_outcome, tick_outcome, send_outcome, pull_outcome_for, pull_outcome, arrive_outcome, answer_outcome, unsent_outcome, give_up_outcome, flush_outcome, outcome_where_open, sleep_outcome, wake_outcome, poll_outcome, rx_outcome, reap_outcome, outcome_of, concerned_station, after_refusal, judged_outcome, step}
use Rattle.wf_def_world.specs.Run.{Entry, world_after}
use Rattle.wf_law_runs.specs.Sent.{NumbersRise}
use Rattle.wf_law_runs.proofs.Common.Flushes.{if_flushed}
use Rattle.wf_law_runs.proofs.Common.Picked.{picked_world}
use Rattle.wf_law_runs.proofs.Common.Refused.{after_idle}
use Rattle.wf_law_runs.proofs.Deficits.KeptStep.{NoRow, no_row}
use Rattle.wf_law_runs.proofs.Frames.Delivered.{prepared_right, opened_ended, same_enqueued}
use Rattle.wf_law_runs.proofs.Releases.Kept.{opened_caught}
use Rattle.wf_law_runs.proofs.Windows.Agreed.{IsLawful, lawful_same, lawful_step, lawful_at_first, same_left_tids, same_off_lists}
use Rattle.wf_law_runs.proofs.Windows.Opened.{Each, each_append, each_filter, each_find, left_true, pick_ready, some_along}
use Rattle.wf_law_runs.proofs.Windows.Sides.{Same, then_same, same_on_share, same_listed, same_after_pick, same_picked, same_after_turn, same_spent, same_weighed}
use Rattle.wf_law_runs.proofs.Windows.Sides.{opened_held, opened_begun, opened_freed, opened_ceased}
use Rattle.wf_send_parts.specs.Exchanges.{transmissions_of, has_nothing_sent}
use Rattle.wf_send_parts.specs.Window.{on_air}
use Rattle.wf_send_half_model.specs.Marking.{MarksFit}
use Rattle.wf_send_half_model.specs.Standing.{IsReached, open_of, sending_of}
use Rattle.wf_send_half_model.proofs.Endings.{open_sent}
use Rattle.wf_send_half_model.proofs.Numbered.{upto_then}

-- the marks of each open exchange fit
abbrev AllFit : World → Type 0
AllFit w = Each MarksFit w.opened

-- ---- an exchange changes its marks

no_arrival : (xs : List ℕ) → (length xs == 0) ≡ false → (i : ℕ) × (has xs i ≡ true)
no_arrival [] none = absurd (cc none)
no_arrival (x ∷ xs) none = (x, grind (arith))

module _ (x : Exchange) (fit : MarksFit x) (i : ℕ) (low : i < transmissions x.content) where
  fit_arrived : has x.unsent i ≡ false → x.answer ≡ None → MarksFit
      (record x { arrived = with_member i x.arrived })
  fit_arrived sent quiet = record {
    unsent = λ j is. (
      (fit.unsent j is).0,
      by_cases j is (has (with_member i x.arrived) j) refl,
    );
    given_up = fit.given_up;
    arrived = λ j is. elim (has_one x.arrived i j is) [
      | inl same ↦ subst (λ (k : ℕ). k < transmissions x.content) same low
      | inr old ↦ fit.arrived j old
    ];
    answered = subst (λ (o : Option _). IfSome o (λ _. (j : ℕ) × (has (with_member i x.arrived) j ≡ true)))
        (sym quiet) tt;
  }
    where
      by_cases : (j : ℕ) → has x.unsent j ≡ true → (b : Bool) → has (with_member i x.arrived) j ≡ b →
          has (with_member i x.arrived) j ≡ false
      by_cases j is false e = e
      by_cases j is true e = elim (has_one x.arrived i j e) [
        | inl same ↦ absurd (let two : has x.unsent i ≡ true = ap (has x.unsent) same ∙ is in cc (two, sent))
        | inr old ↦ absurd (let two : has x.arrived j ≡ false = (fit.unsent j is).1 in cc (two, old))
      ]

  fit_unsent : has x.arrived i ≡ false → MarksFit (record x { unsent = with_member i x.unsent })
  fit_unsent none = record {
    unsent = λ j is. elim (has_one x.unsent i j is) [
      | inl same ↦ subst (λ (k : ℕ). (k < transmissions x.content) × (has x.arrived k ≡ false)) same
          (low, none)
      | inr old ↦ fit.unsent j old
    ];
    given_up = fit.given_up;
    arrived = fit.arrived;
    answered = fit.answered;
  }

  fit_given_up : MarksFit (record x { given_up = with_member i x.given_up })
  fit_given_up = record {
    unsent = fit.unsent;
    given_up = λ j is. elim (has_one x.given_up i j is) [
      | inl same ↦ subst (λ (k : ℕ). k < transmissions x.content) same low
      | inr old ↦ fit.given_up j old
    ];
    arrived = fit.arrived;
    answered = fit.answered;
  }

-- ---- the open exchanges

fit_found : (w : World) (e : ℕ) (x : Exchange) → exchange w e ≡ Some x → AllFit w → MarksFit x
fit_found w e x known all = subst (λ (o : Option Exchange). IfSome o MarksFit) known
    (each_find MarksFit MarksFit (λ y. y.number == e) w.opened (λ y _ h. h) all)

each_replaced : (z : Exchange) (xs : List Exchange) → MarksFit z → Each MarksFit xs →
    Each MarksFit (map (λ y. if y.number == z.number then z else y) xs)
each_replaced z [] fit all = tt
each_replaced z (y ∷ ys) fit all =
    (either (y.number == z.number), each_replaced z ys fit all.1)
  where
    either : (b : Bool) → MarksFit (if b then z else y)
    either true = fit
    either false = all.0

fit_exchange : (w : World) (z : Exchange) → AllFit w → MarksFit z → AllFit (with_exchange w z)
unfolding with_exchange
fit_exchange w z all fit = each_replaced z w.opened fit all

fit_same : {xs ys : List Exchange} → ys ≡ xs → Each MarksFit xs → Each MarksFit ys
fit_same same all = subst (Each MarksFit) (sym same) all

receiver_opened : (w : World) (s t : ℕ) (f : Receiver → Receiver) → (on_receiver w s t f).opened ≡ w.opened
unfolding on_receiver on_tid on_station with_station
receiver_opened w s t f = refl

-- ---- the calls

fit_sent : (s t : ℕ) (c : Class) (w : World) (p : Prepared) → p.world.opened ≡ w.opened → AllFit w →
    AllFit (send_outcome s t c p).world
unfolding send_outcome with_exchange_opened
fit_sent s t c w p e all = fit_same (same_spent _ (exchange_of s t c p)).opened
    (each_append MarksFit p.world.opened (exchange_of s t c p) (subst (Each MarksFit) (sym e) all) (record {
      unsent = λ i is. absurd (cc is);
      given_up = λ i is. absurd (cc is);
      arrived = λ i is. absurd (cc is);
      answered = tt;
    }))

fit_pulled_by : (o : Option ℕ) (w : World) (c : Class) → IfSome o (λ s. is_live w s ≡ true) → IsLawful w →
    AllFit w → AllFit (pull_outcome_for w c o).world
unfolding pull_outcome_for
fit_pulled_by None w c live i all = all
fit_pulled_by (Some s) w c live i all =
    let v : World = after_tid_turn w s c (sending_tid w s c) in
    let k : Same w v = same_after_turn w s c (sending_tid w s c) in
    fit_sent s _ c v _ (prepared_right v s _ (lawful_same _ _ k i) (k.live s ∙ live)).opened
    (fit_same k.opened all)

fit_pulled : (w : World) (c : Class) (l : Limits) → IsLawful w → AllFit w → AllFit (pull_outcome w c l).world
unfolding pull_outcome
fit_pulled w c l i all =
    let k : Same w (picked_world w c l) = same_picked w c l in
    fit_pulled_by (picked_station w c).winner (picked_world w c l) c
    (some_along (λ s. is_ready w c s ≡ true) (λ s. is_live (picked_world w c l) s ≡ true)
    (picked_station w c).winner (λ s h. k.live s ∙ left_true (is_live w s) _ h)
    (pick_ready (station_need w c) (is_ready w c) (rotation w c)))
    (lawful_same _ _ k i) (fit_same k.opened all)

fit_without : (w : World) (e : ℕ) → AllFit w → AllFit (without_exchange w e)
unfolding without_exchange
fit_without w e all = each_filter MarksFit MarksFit (λ y. not (y.number == e)) w.opened (λ y _ h. h) all

-- a test of an open exchange that is not refused
tested : (w : World) (e : ℕ) (x : Exchange) (p : Exchange → Bool) → exchange w e ≡ Some x →
    exchange_has (exchange w e) p ≡ false → p x ≡ false
tested w e x p known none = sym (ap (λ (o : Option Exchange). exchange_has o p) known) ∙ none

fit_open : (w : World) (e : ℕ) (o : Option Exchange) (f : Exchange → Outcome) → exchange w e ≡ o → AllFit w →
    ((x : Exchange) → exchange w e ≡ Some x → MarksFit x → AllFit (f x).world) →
    AllFit (outcome_where_open w o f).world
unfolding outcome_where_open
fit_open w e None f known all h = all
fit_open w e (Some x) f known all h = h x known (fit_found w e x known all)

or_false : (a b : Bool) → a || b ≡ false → b ≡ false
or_false true b e = absurd (cc e)
or_false false b e = e

none_of : {X : Type 0} (o : Option X) → is_some o ≡ false → o ≡ None
none_of None e = refl
none_of (Some x) e = absurd (cc e)

fit_arrives : (w : World) (x : Exchange) (i : ℕ) → AllFit w →
    MarksFit (record x { arrived = with_member i x.arrived }) → AllFit (arrive_outcome w x i).world
unfolding arrive_outcome
fit_arrives w x i all fit = fit_exchange (on_receiver w x.station x.tid (after_arrival x.content i))
    (record x { arrived = with_member i x.arrived })
    (fit_same (receiver_opened w x.station x.tid (after_arrival x.content i)) all) fit

fit_answers : (w : World) (x : Exchange) → AllFit w → MarksFit x → (length x.arrived == 0) ≡ false →
    AllFit (answer_outcome w x).world
unfolding answer_outcome
fit_answers w x all fit some = fit_exchange w (record x {
  answer = Some (score
      (receiver w x.station x.tid));
}) all
    (record {
      unsent = fit.unsent;
      given_up = fit.given_up;
      arrived = fit.arrived;
      answered = no_arrival x.arrived some;
    })

fit_marked_unsent : (w : World) (x : Exchange) (i : ℕ) → AllFit w →
    MarksFit (record x { unsent = with_member i x.unsent }) → AllFit (unsent_outcome w x i).world
unfolding unsent_outcome
fit_marked_unsent w x i all fit = fit_exchange w (record x { unsent = with_member i x.unsent }) all fit

fit_marked_given_up : (w : World) (x : Exchange) (i : ℕ) → AllFit w →
    MarksFit (record x { given_up = with_member i x.given_up }) → AllFit (give_up_outcome w x i).world
unfolding give_up_outcome
fit_marked_given_up w x i all fit = fit_exchange w (record x { given_up = with_member i x.given_up }) all fit

flush_opened : (w : World) (s t : ℕ) → (flush_outcome w s t).world.opened ≡ w.opened
unfolding flush_outcome with_frame_finished with_fate on_queue on_session on_tid on_station with_station
flush_opened w s t = if_flushed (λ v. v.opened ≡ w.opened)
    (record { finish = λ v id h. h; empty = λ v q h. h }) w s t (λ v k _. opened_caught v s t ∙ k) refl

fit_reaped : (ids : List ℕ) (w : World) → AllFit w → AllFit (reap_outcome w ids).world
unfolding reap_outcome
fit_reaped [] w all = all
fit_reaped (id ∷ ids) w all = all

station_opened : (w : World) (s : ℕ) (f : Station → Station) → (on_station w s f).opened ≡ w.opened
unfolding on_station with_station
station_opened w s f = refl

joined_opened : (w : World) (s window start exponent weight : ℕ) →
    (join_outcome w s window start exponent weight).world.opened ≡ w.opened
unfolding join_outcome with_station
joined_opened w s window start exponent weight = refl

offloaded_opened : (w : World) (s exponent weight : ℕ) →
    (offload_outcome w s exponent weight).world.opened ≡ w.opened
unfolding offload_outcome with_station
offloaded_opened w s exponent weight = refl

plain_opened : (w : World) (s start exponent weight : ℕ) →
    (plain_outcome w s start exponent weight).world.opened ≡ w.opened
unfolding plain_outcome with_station
plain_opened w s start exponent weight = refl

set_opened : (w : World) (s : ℕ) (o : Option Station) → (with_station w s o).opened ≡ w.opened
unfolding with_station
set_opened w s o = refl

gone_opened : (w : World) (s : ℕ) → (leave_outcome w s).world.opened ≡ w.opened
unfolding leave_outcome
gone_opened w s = set_opened _ s None
    ∙ (then_same _ _ _ (same_left_tids (upto 8) w s) (same_off_lists all_classes _ s)).opened

fit_done : (note : Note) (w : World) → NoRow (refusals w note) → IsLawful w → AllFit w →
    AllFit (outcome_of w note).world
unfolding outcome_of tick_outcome rate_outcome sleep_outcome wake_outcome poll_outcome rx_outcome
fit_done (Enqueue s t flow len) w rows i all = fit_same (same_enqueued w s t flow len).opened all
fit_done (Asked (Join s window start exponent weight)) w rows i all =
    fit_same (joined_opened w s window start exponent weight) all
fit_done (Asked (Offload s exponent weight)) w rows i all =
    fit_same (offloaded_opened w s exponent weight) all
fit_done (Asked (call.Plain s start exponent weight)) w rows i all =
    fit_same (plain_opened w s start exponent weight) all
fit_done (Asked (Hold s t)) w rows i all = fit_same (opened_held w s t) all
fit_done (Asked (Begin s t window)) w rows i all = fit_same (opened_begun w s t window) all
fit_done (Asked (Free s t)) w rows i all = fit_same (opened_freed w s t) all
fit_done (Asked (Cease s t)) w rows i all = fit_same (opened_ceased w s t) all
fit_done (Asked (Weight s weight)) w rows i all = fit_same (same_weighed w s weight).opened all
fit_done (Asked (Leave s)) w rows i all = fit_same (gone_opened w s) all
fit_done (Asked (Rate s rate)) w rows i all = fit_same (station_opened w s _) all
fit_done (Asked (Tick by)) w rows i all = all
fit_done (Asked (Pull c l)) w rows i all = fit_pulled w c l i all
fit_done (Asked (Arrive e n)) w rows i all = fit_open w e (exchange w e) _ refl all
    (λ x known fit. fit_arrives w x n all (fit_arrived x fit n
    (leb-false _ _ (tested w e x (λ y. nat_le (transmissions y.content) n) known rows.1.0))
    (tested w e x (λ y. has y.unsent n) known rows.1.1.1.1.0)
    (none_of x.answer (tested w e x (λ y. is_some y.answer) known rows.1.1.0))))
fit_done (Asked (Answer e)) w rows i all = fit_open w e (exchange w e) _ refl all
    (λ x known fit. fit_answers w x all fit (or_false x.batch _
    (tested w e x (λ y. y.batch || (length y.arrived == 0)) known rows.1.1.0)))
fit_done (Asked (Done e heard air)) w rows i all = fit_open w e (exchange w e) _ refl all
    (λ x known fit. fit_same (opened_ended air w x heard)
    (fit_without w x.number all))
fit_done (Asked (Sleep s)) w rows i all = fit_same (station_opened w s _) all
fit_done (Asked (Wake s)) w rows i all = fit_same (station_opened w s _) all
fit_done (Asked (Poll s)) w rows i all = fit_same (station_opened w s _) all
fit_done (Asked (Rx s c air)) w rows i all = fit_same (same_on_share w s c _).opened all
fit_done (Asked Reap) w rows i all = fit_reaped w.finished w all
fit_done (Asked (Group ask)) w rows i all = all
fit_done (Asked (Ampdu s octets)) w rows i all = fit_same (station_opened w s _) all
fit_done (Asked (Bss s b)) w rows i all = fit_same (station_opened w s _) all
fit_done (Asked (Stop s)) w rows i all = fit_same (station_opened w s _) all
fit_done (Asked (Service ask)) w rows i all = fit_same (station_opened w (station_served ask) _) all
fit_done (Asked (Start s)) w rows i all = fit_same (station_opened w s _) all
fit_done (Asked (Unsent e n)) w rows i all = fit_open w e (exchange w e) _ refl all
    (λ x known fit. fit_marked_unsent w x n all (fit_unsent x fit n
    (leb-false _ _ (tested w e x (λ y. nat_le (transmissions y.content) n) known rows.1.0))
    (tested w e x (λ y. has y.arrived n) known rows.1.1.1.0)))
fit_done (Asked (GiveUp e n)) w rows i all = fit_open w e (exchange w e) _ refl all
    (λ x known fit. fit_marked_given_up w x n all (fit_given_up x fit n
    (leb-false _ _ (tested w e x (λ y. nat_le (transmissions y.content) n) known rows.1.0))))
fit_done (Asked (Flush s t)) w rows i all = fit_same (flush_opened w s t) all

-- ---- the run

fit_refused : (note : Note) (r : Refusal) (w : World) → AllFit w → AllFit (after_refusal w note r)
unfolding after_refusal
fit_refused (Asked (Pull c l)) Idle w all =
    after_idle AllFit w c all (fit_same (same_after_pick w c).opened all)
fit_refused _ _ w all = all

fit_answer : (r : Option Refusal) (w : World) (note : Note) → refusal w note ≡ r → IsLawful w → AllFit w →
    AllFit (judged_outcome w note r).world
unfolding judged_outcome
fit_answer (Some r) w note e i all = fit_refused note r w all
fit_answer None w note e i all = fit_same (same_listed (concerned_station w note)
    (outcome_of w note).world).opened
    (fit_done note w (no_row (refusals w note) e) i all)

fit_step : (w : World) (note : Note) → IsLawful w → AllFit w → AllFit (step w note).world
unfolding step
fit_step w note i all = fit_answer (refusal w note) w note refl i all

fit_run : (h : List Entry) (w : World) → IsLawful w → AllFit w → AllFit (world_after w h)
unfolding world_after
fit_run [] w i all = all
fit_run (e ∷ es) w i all = fit_run es _ (lawful_step w e.1 i) (fit_step w e.1 i all)

-- in the world of a run the marks of an open exchange fit
pub marks_fit : (w : World) → IsReached w → (e : ℕ) (x : Exchange) → exchange w e ≡ Some x → MarksFit x
marks_fit w r e x known = fit_found w e x known
    (subst AllFit (sym r.after) (fit_run r.history (opening w.config) (lawful_at_first w.config) tt))

-- ---- what follows

not_all : (i n : ℕ) (p : ℕ → Bool) → i < n → p i ≡ false → list_all p (upto n) ≡ false
not_all i zero p low off = absurd (omega (arith, low))
not_all i (suc n) p low off =
    ap (list_all p) (upto_then n) ∙ list_all-append p (upto n) (n ∷ []) ∙ elim (cases_eq i n) [
      | inl same ↦ right (list_all p (upto n)) (p n) (ap p (sym same) ∙ off)
      | inr other ↦ ap (λ (b : Bool). b && list_all p (n ∷ [])) (not_all i n p (omega
          (arith, low, other)) off)
    ]
  where
    right : (b c : Bool) → c ≡ false → (b && (c && true)) ≡ false
    right true c e = ap (λ (d : Bool). d && true) e
    right false c e = refl

pub same_transmissions : (c : Content) → transmissions_of (sending_of c) ≡ transmissions c
same_transmissions (Frames mpdus) = length-map mpdus (λ m. on_air m.number)
same_transmissions (Request start) = refl

-- an exchange with an answer has a transmission that went on the air
pub answered_sent : (w : World) → IsReached w → (e : ℕ) (x : Exchange) (b : Score) → exchange w e ≡ Some x →
    x.answer ≡ Some b → has_nothing_sent (open_of x) ≡ false
answered_sent w r e x b known kept =
    let fit : MarksFit x = marks_fit w r e x known in
    let some : (i : ℕ) × (has x.arrived i ≡ true) =
    subst (λ (o : Option Score). IfSome o (λ _. (i : ℕ) × (has x.arrived i ≡ true))) kept fit.answered in
    not_all some.0 (transmissions_of (sending_of x.content)) (λ i. has x.unsent i)
    (omega (arith, fit.arrived some.0 some.1, same_transmissions x.content))
    (sent_if (has x.unsent some.0) refl (fit.unsent some.0) some.1)
  where
    sent_if : {i : ℕ} (b : Bool) → has x.unsent i ≡ b →
        (has x.unsent i ≡ true → (i < transmissions x.content) × (has x.arrived i ≡ false)) →
        has x.arrived i ≡ true → has x.unsent i ≡ false
    sent_if false e f is = e
    sent_if true e f is = absurd (let no = (f e).1 in cc (no, is))

-- the number at an index
abbrev number_of : List Mpdu → ℕ → ℕ
number_of ms i = (at no_mpdu ms i).number

past_first : (lo : ℕ) (ms : List Mpdu) (i : ℕ) → NumbersRise lo ms → i < length ms → lo ≤ number_of ms i
past_first lo [] i rises low = absurd (omega (arith, low))
past_first lo (m ∷ ms) zero rises low = rises.0
past_first lo (m ∷ ms) (suc i) rises low =
    omega (arith, rises.0, past_first (suc m.number) ms i rises.1 (omega (arith, low)))

apart : (lo : ℕ) (ms : List Mpdu) (i j : ℕ) → NumbersRise lo ms → i < j → j < length ms →
    number_of ms i < number_of ms j
apart lo [] i j rises less low = absurd (omega (arith, low))
apart lo (m ∷ ms) i zero rises less low = absurd (omega (arith, less))
apart lo (m ∷ ms) zero (suc j) rises less low =
    omega (arith, past_first (suc m.number) ms j rises.1 (omega (arith, low)))
apart lo (m ∷ ms) (suc i) (suc j) rises less low =
    apart (suc m.number) ms i j rises.1 (omega (arith, less)) (omega (arith, low))

same_index : (lo : ℕ) (ms : List Mpdu) (i j : ℕ) → NumbersRise lo ms → i < length ms → j < length ms →
    number_of ms i ≡ number_of ms j → i ≡ j
same_index lo ms i j rises low_i low_j same = elim (cases_lt i j) [
  | inl less ↦ absurd (omega (arith, apart lo ms i j rises less low_j, same))
  | inr most ↦ elim (cases_eq i j) [
    | inl e ↦ e
    | inr other ↦ absurd (omega (arith, apart lo ms j i rises (omega (arith, most, other)) low_i, same))
  ]
]

-- a number is among those of some indices if its own index is
index_of : (lo : ℕ) (ms : List Mpdu) (xs : List ℕ) (i : ℕ) → NumbersRise lo ms → i < length ms →
    ((j : ℕ) → has xs j ≡ true → j < length ms) →
    has (map (number_at (Frames ms)) xs) (number_of ms i) ≡ has xs i
index_of lo ms [] i rises low within = refl
index_of lo ms (x ∷ xs) i rises low within = elim (cases_eq x i) [
  | inl same ↦
      ap (λ (b : Bool). b || has (map (number_at (Frames ms)) xs) (number_of ms i))
      (eq-eqb (number_of ms x) (number_of ms i) (ap (number_of ms) same))
      ∙ sym (ap (λ (b : Bool). b || has xs i) (eq-eqb x i same))
  | inr other ↦
      ap (λ (b : Bool). b || has (map (number_at (Frames ms)) xs) (number_of ms i))
      (ne_eqb (number_of ms x) (number_of ms i) (λ e. other (same_index lo ms x i rises
      (within x (or_left (x == x) (has xs x) (eq-eqb x x refl))) low e)))
      ∙ index_of lo ms xs i rises low (λ j is. within j (or_right (x == j) (has xs j) is))
      ∙ sym (ap (λ (b : Bool). b || has xs i) (ne_eqb x i other))
]

module _ (w : World) (r : IsReached w) (e : ℕ) (x : Exchange) (mpdus : List Mpdu)
    (known : exchange w e ≡ Some x)
    (is : x.content ≡ Frames mpdus) (i : ℕ) (low : i < length mpdus) where
  number_index : (xs : List ℕ) → ((j : ℕ) → has xs j ≡ true → j < transmissions x.content) →
      has (map (number_at x.content) xs) (at no_mpdu mpdus i).number ≡ has xs i
  number_index xs within =
      ap (λ (c : Content). has (map (number_at c) xs) (at no_mpdu mpdus i).number) is
      ∙ index_of (session w x.station x.tid).first mpdus xs i
      (subst (λ (c : Content). NumbersRise (session w x.station x.tid).first (mpdus_of c)) is
      (open_sent w r e x known).rising) low
      (λ j there. subst (λ (c : Content). j < transmissions c) is (within j there))

  -- a transmission never went on the air exactly if its number is among those
  pub unsent_at : has (numbers_unsent x) (at no_mpdu mpdus i).number ≡ has x.unsent i
  unsent_at = number_index x.unsent (λ j there. ((marks_fit w r e x known).unsent j there).0)

  -- a transmission is given up exactly if its number is among those
  pub given_up_at : has (numbers_given_up x) (at no_mpdu mpdus i).number ≡ has x.given_up i
  given_up_at = number_index x.given_up (marks_fit w r e x known).given_up
