-- Proves that a pull keeps a relation of worlds, if these changes keep it: those that do not affect sessions
-- and exchanges, a number is given, numbers that wait are sent, and an exchange is opened.
use Rattle.std.proofs.Common.{◌≡◌, ◌∙◌, ℕ, zero, suc, ◌-◌, true, not, ◌==◌, List, ◌++◌, length, Option, Some, None, IfSome}
use Rattle.wf_frame.specs.declared.classes.Class.{Class}
use Rattle.wf_frame.specs.declared.notes.Limits.{Limits}
use Rattle.wf_def_codel.specs.Codel.{Item}
use Rattle.wf_def_agreement.specs.Session.{request_due, with_number_given}
use Rattle.wf_def_world.specs.World.{World, Exchange, Mpdu, session, rotation, is_live, on_session}
use Rattle.wf_def_world.specs.FlowQueues.{taken_for_tid}
use Rattle.wf_def_world.specs.CanSend.{is_ready, can_give}
use Rattle.wf_def_world.specs.Exchanges.{exchange_of, station_need, most_frames, picked_station, sending_tid, fits_in, Aggregate, Prepared, after_tid_turn, with_fresh, aggregate_of, with_number, fresh_mpdus, with_flying, waiting_mpdus, longest_fitting, prepared_request, prepared_data, prepared_exchange, with_exchange_opened}
use Rattle.wf_def_world.specs.Step.{send_outcome, pull_outcome_for, pull_outcome}
use Rattle.wf_law_rules.proofs.Lemmas.Numbers.{on_if}
use Rattle.wf_law_runs.proofs.Common.Picked.{picked_world}
use Rattle.wf_law_runs.proofs.Windows.Sides.{Same, same, same_after_turn, same_spent, same_take, same_picked}
use Rattle.wf_law_runs.proofs.Windows.Opened.{some_along, pick_ready, left_true}
use Rattle.wf_law_runs.proofs.Windows.Agreed.{IsLawful, IsReady, ready_filled, lawful_same}

module _ (R : World → World → Type 0)
    (here : (w v : World) → Same w v → R w v)
    (chain : (u v w : World) → R u v → R v w → R u w)
    (give : (w : World) (s t id : ℕ) → R w (on_session w s t (λ y. with_number_given y id)))
    (fly : (w : World) (s t : ℕ) (ms : List Mpdu) → IsReady s t w ms →
    R w (on_session w s t (with_flying w.exchanges ms)))
    (opens : (w : World) (x : Exchange) → R w (with_exchange_opened w x)) where
  along_number : (o : Option Item) (w : World) (s t : ℕ) → R w (with_number w s t o)
  unfolding with_number
  along_number None w s t = here w w (same w)
  along_number (Some x) w s t = give w s t x.id

  along_fresh : (n : ℕ) (w : World) (s t : ℕ) (ms : List Mpdu) → R w (with_fresh n w s t ms).world
  unfolding with_fresh
  along_fresh zero w s t ms = here w w (same w)
  along_fresh (suc n) w s t ms =
      let taken = taken_for_tid w s t in
      let longer : List Mpdu = ms ++ fresh_mpdus w s t taken.item in
      let numbered : World = with_number taken.world s t taken.item in
      let related : R w numbered = chain w taken.world numbered
      (here w taken.world (same_take w s t)) (along_number taken.item taken.world s t) in
      on_if (λ (a : Aggregate). R w a.world) (not (can_give w s t)) _ _ (λ _. here w w (same w)) (λ _.
      on_if (λ (a : Aggregate). R w a.world) (fits_in w s longer) (with_fresh n numbered s t longer)
      (record { world = numbered; mpdus = ms })
      (λ _. chain w numbered _ related (along_fresh n numbered s t longer)) (λ _. related))

  along_filled : (w : World) (s t : ℕ) → R w (aggregate_of w s t).world
  unfolding aggregate_of
  along_filled w s t =
      let chosen : List Mpdu = longest_fitting w s (waiting_mpdus w s t) in
      on_if (λ (a : Aggregate). R w a.world) (length chosen == length (waiting_mpdus w s t))
      (with_fresh (most_frames w s - length chosen) w s t chosen) (record { world = w; mpdus = chosen })
      (λ _. along_fresh (most_frames w s - length chosen) w s t chosen) (λ _. here w w (same w))

  along_frames : (w : World) (s t : ℕ) (f : Aggregate) → IsReady s t f.world f.mpdus → R w f.world →
      R w (prepared_data s t f).world
  unfolding prepared_data
  along_frames w s t f r h = chain w f.world _ h (fly f.world s t f.mpdus r)

  along_prepared : (w : World) (s t : ℕ) → IsLawful w → is_live w s ≡ true →
      R w (prepared_exchange w s t).world
  unfolding prepared_exchange
  along_prepared w s t i live = on_if (λ (p : Prepared). R w p.world) (request_due (session w s t))
      (prepared_request w s t) (prepared_data s t (aggregate_of w s t))
      (λ _. here w w (same w)) (λ quiet. along_frames w s t (aggregate_of w s t)
      (ready_filled w s t i live quiet) (along_filled w s t))

  along_sent : (w : World) (s t : ℕ) (c : Class) (p : Prepared) → R w p.world →
      R w (send_outcome s t c p).world
  unfolding send_outcome
  along_sent w s t c p h = chain w p.world _ h
      (chain p.world _ _ (opens p.world (exchange_of s t c p)) (here _ _ (same_spent _ _)))

  along_pulled_by : (o : Option ℕ) (w : World) (c : Class) → IfSome o (λ s. is_live w s ≡ true) →
      IsLawful w → R w (pull_outcome_for w c o).world
  unfolding pull_outcome_for
  along_pulled_by None w c live i = here w w (same w)
  along_pulled_by (Some s) w c live i =
      let k : Same w (after_tid_turn w s c (sending_tid w s c)) =
      same_after_turn w s c (sending_tid w s c) in
      along_sent w s _ c _ (chain w _ _ (here w _ k)
      (along_prepared _ s _ (lawful_same _ _ k i) (k.live s ∙ live)))

  pub along_pull : (w : World) (c : Class) (l : Limits) → IsLawful w → R w (pull_outcome w c l).world
  unfolding pull_outcome
  along_pull w c l i =
      let k : Same w (picked_world w c l) = same_picked w c l in
      chain w (picked_world w c l) _ (here w _ k)
      (along_pulled_by (picked_station w c).winner (picked_world w c l) c
      (some_along (λ s. is_ready w c s ≡ true) (λ s. is_live (picked_world w c l) s ≡ true)
      (picked_station w c).winner (λ s h. k.live s ∙ left_true (is_live w s) _ h)
      (pick_ready (station_need w c) (is_ready w c) (rotation w c))) (lawful_same _ _ k i))
