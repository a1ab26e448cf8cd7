-- Proves that no number is assigned while a request is due. By cases of the call.
use Rattle.std.proofs.Common.{◌≡◌, refl, ap, ◌∙◌, ℕ, zero, suc, ◌-◌, Bool, true, false, if◌then◌else◌, not, ◌==◌, List, length, Option, Some, None, IfSome}
use Rattle.wf_frame.specs.declared.classes.Class.{Class}
use Rattle.wf_def_codel.specs.Codel.{Item}
use Rattle.wf_def_agreement.specs.Session.{request_due, Session, with_number_given, has_room}
use Rattle.wf_def_world.specs.World.{World, Mpdu, rotation, session, is_live, on_session}
use Rattle.wf_def_world.specs.FlowQueues.{taken_for_tid}
use Rattle.wf_def_world.specs.CanSend.{is_ready, can_give}
use Rattle.wf_def_world.specs.Exchanges.{station_need, most_frames, picked_station, sending_tid, Aggregate, Prepared, after_tid_turn, with_fresh, aggregate_of, with_number, with_flying, waiting_mpdus, longest_fitting, prepared_data, prepared_exchange, with_exchange_opened}
use Rattle.wf_frame.specs.declared.notes.Ask.TheVariants.{Pull}
use Rattle.wf_frame.specs.declared.notes.Limits.{Limits}
use Rattle.wf_frame.specs.declared.notes.Note.TheVariants.{Asked}
use Rattle.wf_frame.specs.declared.notes.Refusal.{Refusal}
use Rattle.wf_frame.specs.declared.notes.Refusal.TheVariants.{Idle}
use Rattle.wf_def_world.specs.Refusals.{refusal}
use Rattle.wf_def_world.specs.Step.{send_outcome, pull_outcome_for, pull_outcome, outcome_of, after_refusal, judged_outcome, step}
use Rattle.wf_law_runs.proofs.Common.Refused.{after_idle}
use Rattle.wf_law_runs.proofs.Common.Picked.{picked_world}
use Rattle.wf_law_runs.proofs.Windows.Sides.{Same, each_side_on, same, same_listed, same_after_pick, same_after_turn, same_spent, same_take, same_picked}
use Rattle.wf_law_runs.proofs.Windows.Opened.{some_along, pick_ready, left_true, can_give-room}
use Rattle.wf_law_runs.proofs.Windows.Agreed.{IsLawful, IsReady, ready_start, ready_filled, ready_same, longer_number, session_same, lawful_same}

-- A session in which a request is due does not change.
pub record Holds (w v : World) : Type 0 where
  pub held : (s t : ℕ) → request_due (session w s t) ≡ true → session v s t ≡ session w s t

pub holds_same : (w v : World) → Same w v → Holds w v
holds_same w v h = record { held = λ s t _. session_same w v h s t }

pub then_holds : (u v w : World) → Holds u v → Holds v w → Holds u w
then_holds u v w h k = record {
  held = λ s t due. k.held s t (ap request_due (h.held s t due) ∙ due)
      ∙ h.held s t due;
}

if_holds : (b : Bool) (w u v : World) → (b ≡ true → Holds w u) → (b ≡ false → Holds w v) →
    Holds w (if b then u else v)
if_holds true w u v h k = h refl
if_holds false w u v h k = k refl

if_filled : (b : Bool) (w : World) (x y : Aggregate) → (b ≡ true → Holds w x.world) →
    (b ≡ false → Holds w y.world) → Holds w (if b then x else y).world
if_filled true w x y h k = h refl
if_filled false w x y h k = k refl

if_prepared : (b : Bool) (w : World) (x y : Prepared) → (b ≡ true → Holds w x.world) →
    (b ≡ false → Holds w y.world) → Holds w (if b then x else y).world
if_prepared true w x y h k = h refl
if_prepared false w x y h k = k refl

holds_on_session : (w : World) (s t : ℕ) (f : Session → Session) → request_due (session w s t) ≡ false →
    Holds w (on_session w s t f)
unfolding on_session
holds_on_session w s t f quiet = record {
  held = λ i j. each_side_on (λ a b z. request_due (session w a b) ≡ true → z.session ≡ session w a b) w s t
      (λ y. record y { session = f y.session }) (λ a b _. refl) (λ due. absurd (cc (due, quiet))) i j;
}

holds_number : (o : Option Item) (w : World) (s t : ℕ) → request_due (session w s t) ≡ false →
    Holds w (with_number w s t o)
unfolding with_number
holds_number None w s t quiet = holds_same w w (same w)
holds_number (Some x) w s t quiet = holds_on_session w s t (λ y. with_number_given y x.id) quiet

holds_fresh : (n : ℕ) (w : World) (s t : ℕ) (ms : List Mpdu) → IsReady s t w ms →
    Holds w (with_fresh n w s t ms).world
unfolding with_fresh
holds_fresh zero w s t ms r = holds_same w w (same w)
holds_fresh (suc n) w s t ms r =
    let taken = taken_for_tid w s t in
    let kept : Same w taken.world = same_take w s t in
    let ready : IsReady s t taken.world ms = ready_same w taken.world s t ms kept r in
    if_filled (not (can_give w s t)) w _ _ (λ _. holds_same w w (same w)) (λ none.
    let room : has_room (session taken.world s t) ≡ true =
    ap has_room (session_same w taken.world kept s t) ∙ can_give-room w s t none in
    let numbered : Holds w (with_number taken.world s t taken.item) =
    then_holds w taken.world _ (holds_same w taken.world kept)
    (holds_number taken.item taken.world s t ready.quiet) in
    if_filled _ w _ _
    (λ _. then_holds w _ _ numbered (holds_fresh n _ s t _
    (longer_number taken.item w taken.world s t ms kept room ready)))
    (λ _. numbered))

holds_filled : (w : World) (s t : ℕ) → IsReady s t w (longest_fitting w s (waiting_mpdus w s t)) →
    Holds w (aggregate_of w s t).world
unfolding aggregate_of
holds_filled w s t r =
    let chosen : List Mpdu = longest_fitting w s (waiting_mpdus w s t) in
    if_filled (length chosen == length (waiting_mpdus w s t)) w
    (with_fresh (most_frames w s - length chosen) w s t chosen) (record { world = w; mpdus = chosen })
    (λ _. holds_fresh (most_frames w s - length chosen) w s t chosen r) (λ _. holds_same w w (same w))

holds_frames : (w : World) (s t : ℕ) (f : Aggregate) → Holds w f.world →
    request_due (session f.world s t) ≡ false → Holds w (prepared_data s t f).world
unfolding prepared_data
holds_frames w s t f h quiet = then_holds w f.world _ h
    (holds_on_session f.world s t (with_flying f.world.exchanges f.mpdus) quiet)

holds_prepared : (w : World) (s t : ℕ) → IsLawful w → is_live w s ≡ true →
    Holds w (prepared_exchange w s t).world
unfolding prepared_exchange
holds_prepared w s t i live = if_prepared (request_due (session w s t)) w _ _ (λ _. holds_same w w (same w))
    (λ quiet.
    holds_frames w s t (aggregate_of w s t) (holds_filled w s t (ready_start w s t i live quiet))
    (ready_filled w s t i live quiet).quiet)

holds_sent : (w : World) (s t : ℕ) (c : Class) (p : Prepared) → Holds w p.world →
    Holds w (send_outcome s t c p).world
unfolding send_outcome with_exchange_opened
holds_sent w s t c p h = then_holds w p.world _ h
    (then_holds p.world _ _ (record { held = λ i j _. refl }) (holds_same _ _ (same_spent _ _)))

holds_pulled_by : (o : Option ℕ) (w : World) (c : Class) → IfSome o (λ s. is_live w s ≡ true) → IsLawful w →
    Holds w (pull_outcome_for w c o).world
unfolding pull_outcome_for
holds_pulled_by None w c live i = holds_same w w (same w)
holds_pulled_by (Some s) w c live i =
    let k : Same w (after_tid_turn w s c (sending_tid w s c)) = same_after_turn w s c (sending_tid w s c) in
    holds_sent w s _ c _ (then_holds w _ _ (holds_same w _ k)
    (holds_prepared _ s _ (lawful_same _ _ k i) (k.live s ∙ live)))

holds_pulled : (w : World) (c : Class) (l : Limits) → IsLawful w → Holds w (pull_outcome w c l).world
unfolding pull_outcome
holds_pulled w c l i =
    let k : Same w (picked_world w c l) = same_picked w c l in
    then_holds w (picked_world w c l) _ (holds_same w _ k)
    (holds_pulled_by (picked_station w c).winner (picked_world w c l) c
    (some_along (λ s. is_ready w c s ≡ true) (λ s. is_live (picked_world w c l) s ≡ true)
    (picked_station w c).winner (λ s h. k.live s ∙ left_true (is_live w s) _ h)
    (pick_ready (station_need w c) (is_ready w c) (rotation w c))) (lawful_same _ _ k i))

holds_refused : (r : Refusal) (w : World) (c : Class) (l : Limits) →
    Holds w (after_refusal w (Asked (Pull c l)) r)
unfolding after_refusal
holds_refused Idle w c l = after_idle (Holds w) w c (holds_same w w (same w))
    (holds_same w _ (same_after_pick w c))
holds_refused _ w c l = holds_same w w (same w)

holds_answer : (o : Option Refusal) (w : World) (c : Class) (l : Limits) → IsLawful w →
    Holds w (judged_outcome w (Asked (Pull c l)) o).world
unfolding judged_outcome outcome_of
holds_answer (Some r) w c l i = holds_refused r w c l
holds_answer None w c l i = then_holds w _ _ (holds_pulled w c l i) (holds_same _ _ (same_listed _ _))

pub holds_pull : (w : World) (c : Class) (l : Limits) → IsLawful w → Holds w (step w (Asked (Pull c l))).world
unfolding step
holds_pull w c l i = holds_answer (refusal w (Asked (Pull c l))) w c l i
