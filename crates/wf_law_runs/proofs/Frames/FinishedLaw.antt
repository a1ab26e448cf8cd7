-- Proves the law of the finished list, in every world of a run. By induction on the run.
use Rattle.std.proofs.Common.{◌≡◌, refl, ap, sym, ◌∙◌, subst, ℕ, ◌==◌, Bool, true, false, if◌then◌else◌, ◌⊎◌, inl, inr, List, [], ◌∷◌, ◌++◌, length, append_assoc, append-nil, Option, Some, None, is_none, take}
use Rattle.wf_frame.specs.declared.settings.Config.{Config}
use Rattle.wf_frame.specs.declared.classes.Class.{Class}
use Rattle.wf_frame.specs.declared.notes.Ask.TheVariants.{Join, Leave, Rate, Tick, Pull, Arrive, Answer, Done, Sleep, Wake, Poll, Rx, Reap, Ampdu, Stop, Start, Unsent, GiveUp, Flush, Offload, Weight, Plain, Hold, Begin, Free, Cease, Group, Service, Bss}
use Rattle.wf_frame.specs.declared.notes.Note.{Note}
use Rattle.wf_frame.specs.declared.notes.Note.TheVariants.{Enqueue, Asked}
use Rattle.wf_frame.specs.declared.notes.Refusal.{Refusal}
use Rattle.wf_def_lists.specs.Lists.{IsOnce}
use Rattle.wf_def_lists.specs.Table.{has}
use Rattle.wf_def_agreement.specs.Receiver.{Score}
use Rattle.wf_def_world.specs.World.{World, Exchange, exchange, opening}
use Rattle.wf_def_world.specs.CanSend.{with_listings_of}
use Rattle.wf_def_world.specs.Exchanges.{picked_station}
use Rattle.wf_def_world.specs.Refusals.{refusals, refusal}
use Rattle.wf_def_world.specs.Step.{Outcome, join_outcome, leave_outcome, rate_outcome, tick_outcome, enqueue_outcome, send_outcome, pull_outcome_for, pull_outcome, arrive_outcome, answer_outcome, unsent_outcome, give_up_outcome, flush_outcome, done_outcome, outcome_where_open, sleep_outcome, wake_outcome, poll_outcome, rx_outcome, reap_outcome, outcome_of, judged_outcome, step, offload_outcome, weight_outcome, answer_reply, plain_outcome, hold_outcome, begin_outcome, free_outcome, cease_outcome}
use Rattle.wf_def_world.specs.Run.{Entry, world_after}
use Rattle.wf_law_runs.specs.Finished.{reaped_id, reaped_ids, FinishedLaw}
use Rattle.wf_law_runs.proofs.Common.Picked.{picked_world}
use Rattle.wf_law_runs.proofs.Windows.Opened.{NoRow, no_row}
use Rattle.wf_law_runs.proofs.Frames.Fates.{IsFinishedRight, Steady, steady_step, steady_first, right_step, fetched}

-- ---- which calls reap

reaped_open : (o : Option Exchange) (w : World) (f : Exchange → Outcome) →
    ((x : Exchange) → reaped_id (f x).reply ≡ []) → reaped_id (outcome_where_open w o f).reply ≡ []
unfolding outcome_where_open
reaped_open None w f h = refl
reaped_open (Some x) w f h = h x

reaped_pulled_by : (o : Option ℕ) (w : World) (c : Class) → reaped_id (pull_outcome_for w c o).reply ≡ []
unfolding pull_outcome_for send_outcome
reaped_pulled_by None w c = refl
reaped_pulled_by (Some s) w c = refl

reaped_answered : (plain : Bool) (b : Score) (wide : Bool) → reaped_id (answer_reply plain b wide) ≡ []
reaped_answered true b wide = refl
reaped_answered false b wide = refl

-- The call reaps no frame.
record ReapsNone (note : Note) (w : World) : Type 0 where
  reply : reaped_id (outcome_of w note).reply ≡ []
  call : fetched note ≡ 0

reaps : (note : Note) (w : World) → ReapsNone note w ⊎ (note ≡ Asked Reap)
unfolding outcome_of enqueue_outcome join_outcome offload_outcome weight_outcome leave_outcome
    rate_outcome tick_outcome pull_outcome arrive_outcome answer_outcome unsent_outcome give_up_outcome
    flush_outcome done_outcome sleep_outcome wake_outcome poll_outcome rx_outcome plain_outcome hold_outcome
    begin_outcome free_outcome cease_outcome
reaps (Enqueue s t flow len) w = inl (record { reply = refl; call = refl })
reaps (Asked (Join s window start exponent weight)) w = inl (record { reply = refl; call = refl })
reaps (Asked (Leave s)) w = inl (record { reply = refl; call = refl })
reaps (Asked (Rate s rate)) w = inl (record { reply = refl; call = refl })
reaps (Asked (Tick by)) w = inl (record { reply = refl; call = refl })
reaps (Asked (Pull c l)) w = inl (record {
  reply =
      reaped_pulled_by (picked_station w c).winner (picked_world w c l) c;
  call = refl;
})
reaps (Asked (Arrive e n)) w = inl (record {
  reply = reaped_open (exchange w e) w _ (λ x. refl);
  call =
      refl;
})
reaps (Asked (Answer e)) w =
    inl (record { reply = reaped_open (exchange w e) w _ (λ x. reaped_answered x.plain _ _); call = refl })
reaps (Asked (Done e heard air)) w = inl (record {
  reply = reaped_open (exchange w e) w _ (λ x. refl);
  call =
      refl;
})
reaps (Asked (Sleep s)) w = inl (record { reply = refl; call = refl })
reaps (Asked (Ampdu s octets)) w = inl (record { reply = refl; call = refl })
reaps (Asked (Stop s)) w = inl (record { reply = refl; call = refl })
reaps (Asked (Start s)) w = inl (record { reply = refl; call = refl })
reaps (Asked (Wake s)) w = inl (record { reply = refl; call = refl })
reaps (Asked (Poll s)) w = inl (record { reply = refl; call = refl })
reaps (Asked (Rx s c air)) w = inl (record { reply = refl; call = refl })
reaps (Asked (Unsent e n)) w =
    inl (record { reply = reaped_open (exchange w e) w _ (λ x. refl); call = refl })
reaps (Asked (GiveUp e n)) w =
    inl (record { reply = reaped_open (exchange w e) w _ (λ x. refl); call = refl })
reaps (Asked (Flush s t)) w = inl (record { reply = refl; call = refl })
reaps (Asked (Offload s exponent weight)) w = inl (record { reply = refl; call = refl })
reaps (Asked (Weight s weight)) w = inl (record { reply = refl; call = refl })
reaps (Asked (Plain s start exponent weight)) w = inl (record { reply = refl; call = refl })
reaps (Asked (Hold s t)) w = inl (record { reply = refl; call = refl })
reaps (Asked (Begin s t window)) w = inl (record { reply = refl; call = refl })
reaps (Asked (Free s t)) w = inl (record { reply = refl; call = refl })
reaps (Asked (Cease s t)) w = inl (record { reply = refl; call = refl })
reaps (Asked Reap) w = inr refl
reaps (Asked (Group ask)) w = inl (record { reply = refl; call = refl })
reaps (Asked (Service ask)) w = inl (record { reply = refl; call = refl })
reaps (Asked (Bss s b)) w = inl (record { reply = refl; call = refl })

-- ---- the step

right_reaped : (fs ids : List ℕ) (w : World) → w.finished ≡ fs → (length fs == 0) ≡ false →
    IsFinishedRight ids w → IsFinishedRight (ids ++ reaped_id (reap_outcome w fs).reply)
    (reap_outcome w fs).world
unfolding reap_outcome
right_reaped [] ids w e some a = absurd (cc some)
right_reaped (id ∷ rest) ids w e some a =
    let same : (ids ++ id ∷ []) ++ rest ≡ ids ++ w.finished =
    append_assoc ids (id ∷ []) rest ∙ ap (λ (fs : List ℕ). ids ++ fs) (sym e) in
    record {
      once = subst IsOnce (sym same) a.once;
      settled = λ k there. a.settled k (ap (λ (xs : List ℕ). has xs k) (sym same) ∙ there);
      every = λ k below other. ap (λ (xs : List ℕ). has xs k) same ∙ a.every k below other;
    }

reap_step : (ids : List ℕ) (w : World) → NoRow (refusals w (Asked Reap)) → IsFinishedRight ids w →
    IsFinishedRight (ids ++ reaped_id (judged_outcome w (Asked Reap) None).reply)
    (judged_outcome w (Asked Reap) None).world
unfolding judged_outcome outcome_of with_listings_of
reap_step ids w r a = right_reaped w.finished ids w refl r.0 a

replies_as : (note : Note) (w : World) → reaped_id (outcome_of w note).reply ≡ [] →
    reaped_id (judged_outcome w note None).reply ≡ []
unfolding judged_outcome
replies_as note w e = e

refused_none : (note : Note) (w : World) (r : Refusal) → reaped_id (judged_outcome w note (Some r)).reply ≡ []
unfolding judged_outcome
refused_none note w r = refl

with_none : (ids xs : List ℕ) (w : World) → xs ≡ [] → IsFinishedRight ids w → IsFinishedRight (ids ++ xs) w
with_none ids xs w e a = subst (λ (ys : List ℕ). IsFinishedRight ys w)
    (sym (ap (λ (ys : List ℕ). ids ++ ys) e ∙ append-nil ids)) a

step_is : (w : World) (note : Note) (o : Option Refusal) → refusal w note ≡ o →
    step w note ≡ judged_outcome w note o
unfolding step
step_is w note o e = ap (judged_outcome w note) e

right_by : (o : Option Refusal) (l ids : List ℕ) (w : World) (note : Note) → refusal w note ≡ o → Steady l w →
    IsFinishedRight ids w → IsFinishedRight (ids ++ reaped_id (judged_outcome w note o).reply)
    (judged_outcome w note o).world
right_by (Some r) l ids w note e k a =
    with_none ids _ _ (refused_none note w r) (subst (λ (o : Outcome). IsFinishedRight ids o.world)
    (step_is w note (Some r) e) (right_step l ids w note k
    (ap (λ (o : Option Refusal). if is_none o then fetched note else 0) e) a))
right_by None l ids w note e k a = elim (reaps note w) [
  | inl none ↦ with_none ids _ _ (replies_as note w none.reply)
      (subst (λ (o : Outcome). IsFinishedRight ids o.world) (step_is w note None e)
      (right_step l ids w note k (ap (λ (o : Option Refusal). if is_none o then fetched note else 0) e
      ∙ none.call) a))
  | inr reap ↦ subst (λ (c : Note). NoRow (refusals w c) →
      IsFinishedRight (ids ++ reaped_id (judged_outcome w c None).reply) (judged_outcome w c None).world)
      (sym reap) (λ r. reap_step ids w r a) (no_row (refusals w note) e)
]

finished_step : (l ids : List ℕ) (w : World) (note : Note) → Steady l w → IsFinishedRight ids w →
    IsFinishedRight (ids ++ reaped_id (step w note).reply) (step w note).world
unfolding step
finished_step l ids w note k a = right_by (refusal w note) l ids w note refl k a

-- ---- the run

finished_run : (h : List Entry) (l ids : List ℕ) (w : World) → Steady l w → IsFinishedRight ids w →
    IsFinishedRight (ids ++ reaped_ids w h) (world_after w h)
unfolding world_after
finished_run [] l ids w k a = with_none ids [] w refl a
finished_run (e ∷ es) l ids w k a =
    subst (λ (xs : List ℕ). IsFinishedRight xs (world_after (step w e.1).world es))
    (append_assoc ids (reaped_id (step w e.1).reply) (reaped_ids (step w e.1).world es))
    (finished_run es _ (ids ++ reaped_id (step w e.1).reply) (step w e.1).world (steady_step l w e.1 k)
    (finished_step l ids w e.1 k a))

pub finished_law : (config : Config) (h : List Entry) → FinishedLaw config h
finished_law config h m =
    let a : IsFinishedRight (reaped_ids (opening config) (take m h))
    (world_after (opening config) (take m h)) =
    finished_run (take m h) [] [] (opening config) (steady_first config)
    (record {
      once = tt;
      settled = λ k there. absurd (cc there);
      every =
          λ k below other. absurd (other refl);
    }) in
    record { once = a.once; exactly = λ id. (a.settled id, (λ is. a.every id is.0 is.1)) }
