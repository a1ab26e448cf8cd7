-- Proves that each window of a live station is 1 to 256.
use Rattle.std.proofs.Common.{◌≡◌, ◌≢◌, refl, ap, sym, ◌∙◌, subst, arith, ℕ, zero, suc, ◌<◌, ◌≤◌, ◌==◌, not, nat_le, true, false, List, [], ◌∷◌, Option, Some, None, is_some, Bool}
use Rattle.std.proofs.lemmas.Bool.{not-false}
use Rattle.wf_frame.specs.declared.settings.Config.{Config}
use Rattle.wf_frame.specs.declared.notes.Note.{Note}
use Rattle.wf_frame.specs.declared.notes.Note.TheVariants.{Enqueue, Asked}
use Rattle.wf_frame.specs.declared.notes.Ask.TheVariants.{Join, Leave, Rate, Tick, Pull, Arrive, Answer, Done, Sleep, Wake, Poll, Rx, Reap, Ampdu, Stop, Start, Unsent, GiveUp, Flush, Offload, Weight, Hold, Begin, Free, Cease, Group, Service, Bss}
use Rattle.wf_frame.specs.declared.notes.Ask.TheVariants as call
use Rattle.wf_frame.specs.declared.notes.Refusal.{Refusal}
use Rattle.wf_frame.specs.Classes.{all_classes}
use Rattle.wf_def_lists.specs.Table.{at, upto}
use Rattle.wf_law_rules.proofs.Lemmas.Tables.{at_put_same, at_put_other}
use Rattle.wf_def_agreement.specs.Session.{Session}
use Rattle.wf_def_lists.specs.Bounds.{greatest_window}
use Rattle.wf_def_world.specs.World.{with_exchange, on_receiver, World, Station, Exchange, Tid, no_tid, is_live, new_tid, session, exchange, with_station, opening, Mode, Plain, Agreed, OnHold, on_tid}
use Rattle.wf_def_world.specs.Exchanges.{after_arrival}
use Rattle.wf_def_world.specs.Refusals.{refusals, refusal, is_within}
use Rattle.wf_def_world.specs.Step.{Outcome, join_outcome, leave_outcome, arrive_outcome, outcome_where_open, concerned_station, outcome_of, judged_outcome, step, offload_outcome, new_station, plain_outcome, plain_window, begin_outcome, cease_outcome}
use Rattle.wf_def_world.specs.Run.{Entry, world_after}
use Rattle.wf_law_rules.proofs.Lemmas.Numbers.{on_bool, eq_yes, eq_no, both, le_yes}
use Rattle.wf_law_runs.proofs.Windows.Sides.{each_side_on, on_live, Side, sides_of, same_listed, same_held, same_freed, renewed, begun_is, ceased_is}
use Rattle.wf_law_runs.proofs.Windows.Opened.{eight, NoRow, no_row}
use Rattle.wf_law_runs.proofs.Windows.Agreed.{same_left_tids, same_off_lists}
use Rattle.wf_law_runs.proofs.Releases.Kept.{Kept, kept_same, then_keep, keep_pulled, keep_ended, keep_answered, keep_enqueued, keep_unsent, keep_given_up, keep_flushed, keep_reaped, keep_numbers_ended}
use Rattle.wf_law_runs.proofs.Releases.Released.{side_with_station, side_own_station, keep_rate, keep_tick, keep_group, keep_slept, keep_woken, keep_credited, keep_received, refused_kept, keep_stated, keep_stopped, keep_started, keep_weighed, keep_served, keep_moved}

pub record IsSized (w : World) : Type 0 where
  pub size : (s t : ℕ) → (session w s t).size ≤ 256
  pub some : (s t : ℕ) → is_live w s ≡ true → t < 8 → 1 ≤ (session w s t).size

sized_kept : (w v : World) → Kept w v → IsSized w → IsSized v
sized_kept w v k i = record {
  size = λ s t. subst (λ (n : ℕ). n ≤ 256) (sym (k.sizes s t)) (i.size s t);
  some = λ s t live below. subst (λ (n : ℕ). 1 ≤ n) (sym (k.sizes s t))
      (i.some s t (sym (k.live s) ∙ live) below);
}

live_station : (w : World) (s : ℕ) (o : Option Station) (i : ℕ) → s ≢ i →
    is_live (with_station w s o) i ≡ is_live w i
unfolding with_station
live_station w s o i ne = ap (λ (x : Option Station). is_some x) (at_put_other None w.stations s i o ne)

live_own : (w : World) (s : ℕ) (o : Option Station) → is_live (with_station w s o) s ≡ is_some o
unfolding with_station
live_own w s o = ap (λ (x : Option Station). is_some x) (at_put_same None w.stations s o)

sized_station : (w : World) (s : ℕ) (o : Option Station) → ((t : ℕ) → (sides_of o t).session.size ≤ 256) →
    (is_some o ≡ true → (t : ℕ) → t < 8 → 1 ≤ (sides_of o t).session.size) → IsSized w →
    IsSized (with_station w s o)
sized_station w s o h k i = record {
  size = λ j t. on_bool (s == j)
      (λ own.
      let e : session (with_station w s o) j t ≡ (sides_of o t).session =
      ap (λ (k : ℕ). session (with_station w s o) k t) (sym (eq_yes s j own))
      ∙ ap (λ (b : Side). b.session) (side_own_station w s t o) in
      subst (λ (y : Session). y.size ≤ 256) (sym e) (h t))
      (λ other.
      let e : session (with_station w s o) j t ≡ session w j t =
      ap (λ (b : Side). b.session) (side_with_station w s j t o (eq_no s j other)) in
      subst (λ (y : Session). y.size ≤ 256) (sym e) (i.size j t));
  some = λ j t live below. on_bool (s == j)
      (λ own.
      let same_s : s ≡ j = eq_yes s j own in
      let e : session (with_station w s o) j t ≡ (sides_of o t).session =
      ap (λ (k : ℕ). session (with_station w s o) k t) (sym same_s)
      ∙ ap (λ (b : Side). b.session) (side_own_station w s t o) in
      subst (λ (y : Session). 1 ≤ y.size) (sym e) (k
      (sym (live_own w s o) ∙ (ap (is_live (with_station w s o)) same_s ∙ live)) t below))
      (λ other.
      let e : session (with_station w s o) j t ≡ session w j t =
      ap (λ (b : Side). b.session) (side_with_station w s j t o (eq_no s j other)) in
      subst (λ (y : Session). 1 ≤ y.size) (sym e) (i.some j t
      (sym (live_station w s o j (eq_no s j other)) ∙ live) below));
}

-- Each of a station's eight TIDs.
each_eight : (P : Tid → Type 0) (y : Tid) → P y → (j : ℕ) → j < 8 →
    P (at no_tid (y ∷ y ∷ y ∷ y ∷ y ∷ y ∷ y ∷ y ∷ []) j)
each_eight P y h zero b = h
each_eight P y h (suc zero) b = h
each_eight P y h (suc (suc zero)) b = h
each_eight P y h (suc (suc (suc zero))) b = h
each_eight P y h (suc (suc (suc (suc zero)))) b = h
each_eight P y h (suc (suc (suc (suc (suc zero))))) b = h
each_eight P y h (suc (suc (suc (suc (suc (suc zero)))))) b = h
each_eight P y h (suc (suc (suc (suc (suc (suc (suc zero))))))) b = h
each_eight P y h (suc (suc (suc (suc (suc (suc (suc (suc j)))))))) b = absurd (omega (arith, b))

sized_new : (w : World) (s : ℕ) (mode : Mode) (window start exponent weight : ℕ) (offloaded : Bool) →
    (1 ≤ window) × (window ≤ 256) → IsSized w →
    IsSized (with_station w s (Some (new_station w.config mode window start exponent weight offloaded)))
sized_new w s mode window start exponent weight offloaded h i =
    sized_station w s _ (eight (λ y. y.session.size ≤ 256) (new_tid mode start window) h.1
    (omega arith)) (λ _. each_eight (λ y. 1 ≤ y.session.size) (new_tid mode start window) h.0) i

-- The window of one TID changes.
sized_renewed : (w : World) (s t start size : ℕ) (mode : Mode) → (1 ≤ size) × (size ≤ 256) → IsSized w →
    IsSized (on_tid w s t (renewed start size mode))
sized_renewed w s t start size mode range i =
    let f : Tid → Tid = renewed start size mode in
    record {
      size = each_side_on (λ _ _ y. y.session.size ≤ 256) w s t f i.size range.1;
      some = λ a b live below. each_side_on (λ a b y. is_live w a ≡ true → b < 8 → 1 ≤ y.session.size) w s t f
          i.some (λ _ _. range.0) a b (sym (on_live w s t f a) ∙ live) below;
    }

in_range : (window : ℕ) → not (is_within 1 greatest_window window) ≡ false → (1 ≤ window) × (window ≤ 256)
in_range window h =
    let range = both (nat_le 1 window) (nat_le window 256) (not-false _ h) in
    (le_yes 1 window range.0, le_yes window 256 range.1)

sized_begun : (w : World) (s t window : ℕ) → not (is_within 1 greatest_window window) ≡ false → IsSized w →
    IsSized (begin_outcome w s t window).world
sized_begun w s t window h i = subst IsSized (sym (begun_is w s t window))
    (sized_renewed w s t _ window Agreed (in_range window h) i)

sized_ceased : (w : World) (s t : ℕ) → IsSized w → IsSized (cease_outcome w s t).world
sized_ceased w s t i = subst IsSized (sym (ceased_is w s t))
    (sized_renewed _ s t _ plain_window OnHold (omega arith, omega arith)
    (sized_kept w _ (keep_numbers_ended w s t) i))

sized_joined : (w : World) (s window start exponent weight : ℕ) →
    not (is_within 1 greatest_window window) ≡ false → IsSized w →
    IsSized (join_outcome w s window start exponent weight).world
unfolding join_outcome
sized_joined w s window start exponent weight h i =
    sized_new w s Agreed window start exponent weight false (in_range window h) i

sized_offloaded : (w : World) (s exponent weight : ℕ) → IsSized w →
    IsSized (offload_outcome w s exponent weight).world
unfolding offload_outcome
sized_offloaded w s exponent weight i =
    sized_new w s Plain greatest_window 0 exponent weight true (omega arith, omega arith) i

sized_unagreed : (w : World) (s start exponent weight : ℕ) → IsSized w →
    IsSized (plain_outcome w s start exponent weight).world
unfolding plain_outcome
sized_unagreed w s start exponent weight i =
    sized_new w s Plain plain_window start exponent weight false (omega arith, omega arith) i

sized_gone : (w : World) (s : ℕ) → IsSized w → IsSized (leave_outcome w s).world
unfolding leave_outcome
sized_gone w s i =
    sized_station _ s None (λ t. omega arith) (λ e. absurd (cc e))
    (sized_kept w _ (then_keep w _ _ (kept_same w _ (same_left_tids (upto 8) w s))
    (kept_same _ _ (same_off_lists all_classes _ s))) i)

sized_open : (o : Option Exchange) (w : World) (f : Exchange → Outcome) →
    ((x : Exchange) → IsSized (f x).world) → IsSized w → IsSized (outcome_where_open w o f).world
unfolding outcome_where_open
sized_open None w f k i = i
sized_open (Some x) w f k i = k x

sized_arrived : (w : World) (x : Exchange) (n : ℕ) → IsSized w → IsSized (arrive_outcome w x n).world
unfolding arrive_outcome with_exchange on_receiver
sized_arrived w x n i = record {
  size = each_side_on (λ s t y. y.session.size ≤ 256) w x.station x.tid
      (λ y. record y { receiver = after_arrival x.content n y.receiver }) (λ s t. i.size s t)
      (i.size x.station x.tid);
  some = λ s t live below. each_side_on (λ s t y. is_live w s ≡ true → t < 8 → 1 ≤ y.session.size) w x.station
      x.tid (λ y. record y { receiver = after_arrival x.content n y.receiver }) (λ s t. i.some s t)
      (i.some x.station x.tid) s t
      (sym (on_live w x.station x.tid (λ y. record y { receiver = after_arrival x.content n y.receiver }) s)
      ∙ live) below;
}

sized_done : (note : Note) (w : World) → NoRow (refusals w note) → IsSized w →
    IsSized (outcome_of w note).world
unfolding outcome_of
sized_done (Enqueue s t flow len) w e i = sized_kept w _ (keep_enqueued w s t flow len) i
sized_done (Asked (Join s window start exponent weight)) w e i =
    sized_joined w s window start exponent weight e.1.0 i
sized_done (Asked (Leave s)) w e i = sized_gone w s i
sized_done (Asked (Rate s rate)) w e i = sized_kept w _ (keep_rate w s rate) i
sized_done (Asked (Tick by)) w e i = sized_kept w _ (keep_tick w by) i
sized_done (Asked (Pull c l)) w e i = sized_kept w _ (keep_pulled w c l) i
sized_done (Asked (Arrive x n)) w e i = sized_open (exchange w x) w _ (λ y. sized_arrived w y n i) i
sized_done (Asked (Answer x)) w e i = sized_open (exchange w x) w _
    (λ y. sized_kept w _ (keep_answered w y) i) i
sized_done (Asked (Done x heard air)) w e i = sized_open (exchange w x) w _
    (λ y. sized_kept w _ (keep_ended air w y heard) i) i
sized_done (Asked (Sleep s)) w e i = sized_kept w _ (keep_slept w s) i
sized_done (Asked (Ampdu s octets)) w e i = sized_kept w _ (keep_stated w s octets) i
sized_done (Asked (Stop s)) w e i = sized_kept w _ (keep_stopped w s) i
sized_done (Asked (Start s)) w e i = sized_kept w _ (keep_started w s) i
sized_done (Asked (Wake s)) w e i = sized_kept w _ (keep_woken w s) i
sized_done (Asked (Poll s)) w e i = sized_kept w _ (keep_credited w s) i
sized_done (Asked (Rx s c air)) w e i = sized_kept w _ (keep_received w s c air) i
sized_done (Asked (Unsent x n)) w e i = sized_open (exchange w x) w _
    (λ y. sized_kept w _ (keep_unsent w y n) i) i
sized_done (Asked (GiveUp x n)) w e i = sized_open (exchange w x) w _
    (λ y. sized_kept w _ (keep_given_up w y n) i) i
sized_done (Asked (Flush s t)) w e i = sized_kept w _ (keep_flushed w s t) i
sized_done (Asked (Offload s exponent weight)) w e i = sized_offloaded w s exponent weight i
sized_done (Asked (Weight s weight)) w e i = sized_kept w _ (keep_weighed w s weight) i
sized_done (Asked (call.Plain s start exponent weight)) w e i = sized_unagreed w s start exponent weight i
sized_done (Asked (Hold s t)) w e i = sized_kept w _ (kept_same w _ (same_held w s t e.1.1.1.0 e.1.1.1.1.0)) i
sized_done (Asked (Begin s t window)) w e i = sized_begun w s t window e.1.1.0 i
sized_done (Asked (Free s t)) w e i =
    sized_kept w _ (kept_same w _ (same_freed w s t (not-false _ e.1.1.1.0))) i
sized_done (Asked (Cease s t)) w e i = sized_ceased w s t i
sized_done (Asked Reap) w e i = sized_kept w _ (keep_reaped w.finished w) i
sized_done (Asked (Group ask)) w e i = sized_kept w _ (keep_group w ask) i
sized_done (Asked (Service ask)) w e i = sized_kept w _ (keep_served w ask) i
sized_done (Asked (Bss s b)) w e i = sized_kept w _ (keep_moved w s b) i

sized_answer : (r : Option Refusal) (w : World) (note : Note) → refusal w note ≡ r → IsSized w →
    IsSized (judged_outcome w note r).world
unfolding judged_outcome
sized_answer (Some r) w note e i = sized_kept w _ (refused_kept note r w) i
sized_answer None w note e i = sized_kept (outcome_of w note).world _
    (kept_same _ _ (same_listed (concerned_station w note) (outcome_of w note).world))
    (sized_done note w (no_row (refusals w note) e) i)

sized_step : (w : World) (note : Note) → IsSized w → IsSized (step w note).world
unfolding step
sized_step w note i = sized_answer (refusal w note) w note refl i

sized_run : (h : List Entry) (w : World) → IsSized w → IsSized (world_after w h)
unfolding world_after
sized_run [] w i = i
sized_run (e ∷ es) w i = sized_run es _ (sized_step w e.1 i)

pub sized : (config : Config) (h : List Entry) → IsSized (world_after (opening config) h)
sized config h = sized_run h (opening config)
    (record { size = λ s t. omega arith; some = λ s t live. absurd (cc live) })
