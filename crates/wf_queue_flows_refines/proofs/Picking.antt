-- Proves that a pick among a TID's queues has the same winner and pays the same quanta in the code as in the
-- world.
use Rattle.std.proofs.Common.{◌≡◌, refl, ap, ap₂, sym, ◌∙◌, subst, ℕ, ◌<◌, ◌==◌, min, Bool, true, false, cond, ◌&&◌, ◌||◌, List, [], ◌∷◌, filter, length, Option, Some, None, eq-eqb}
use Rattle.std.specs.Prelude.{find, nat_lt}
use Rattle.std.proofs.lemmas.List.{length-map}
use Rattle.wf_def_lists.specs.Table.{has}
use Rattle.wf_def_codel.specs.Codel.{Item}
use Rattle.wf_def_rotation.specs.Rotation.{Rotation, has_key, in_order, need_of, keys_before, round, first_least, pick_later, pick_from, pick}
use Rattle.wf_rotation.specs.Rotas.{need_at}
use Rattle.wf_law_rules.specs.Renamed.{Agrees, IsSame}
use Rattle.wf_law_rules.proofs.Lemmas.Numbers.{eq_yes, or_left, or_right}
use Rattle.wf_law_rules.proofs.Lemmas.Members.{has_filter, has_before, has_least}
use Rattle.wf_law_rules.proofs.Lemmas.Picks.{listed_in, same_pick}
use Rattle.wf_def_world.specs.World.{World}
use Rattle.wf_def_world.specs.FlowQueues.{queue_need, picked_queue, has_frames as world_has_frames}
use Rattle.wf_queue_flows.specs.Backlog.{frames_at, item_of}
use Rattle.wf_frame.specs.Classes.{tid_number}
use Rattle.wf_queue_flows.specs.Flows.{FlowsValue, SettingsValue, tid_rotation, backlog_has_frames, pick_of_tid}
use Rattle.wf_queue_flows_refines.specs.Standing.{FlowsStandFor}

-- ---- any pick

found_has : (p : ℕ → Bool) (xs : List ℕ) (z : ℕ) → find p xs ≡ Some z → has xs z ≡ true
found_has p [] z e = absurd (cc e)
found_has p (x ∷ xs) z e = go (p x) (found_has p xs z) e
  where
    go : (b : Bool) → (find p xs ≡ Some z → has xs z ≡ true) → cond b (Some x) (find p xs) ≡ Some z →
        ((x == z) || has xs z) ≡ true
    go true rest h = let same : x ≡ z = cc h in or_left (x == z) (has xs z) (eq-eqb x z same)
    go false rest h = or_right (x == z) (has xs z) (rest h)

module _ (need : ℕ → ℕ) (ready : ℕ → Bool) (r : Rotation) where
  later_listed : (z : ℕ) → first_least (round need r) (filter ready (in_order r)) ≡ Some z →
      has_key r z ≡ true
  later_listed z e = listed_in r z (has_filter ready (in_order r) z
      (has_least (round need r) (filter ready (in_order r)) z e))

  -- the winner is listed
  pub winner_listed : (z : ℕ) → (pick need ready r).winner ≡ Some z → has_key r z ≡ true
  unfolding pick
  winner_listed z e = go (find (λ k. ready k && (need k == 0)) r.new) refl e
    where
      later : (o : Option ℕ) → first_least (round need r) (filter ready (in_order r)) ≡ o →
          (pick_later need ready r o).winner ≡ Some z → has_key r z ≡ true
      later None l h = absurd (cc h)
      later (Some w) l h = later_listed z (l ∙ h)

      go : (o : Option ℕ) → find (λ k. ready k && (need k == 0)) r.new ≡ o →
          (pick_from need ready r o).winner ≡ Some z → has_key r z ≡ true
      go None found h = later (first_least (round need r) (filter ready (in_order r))) refl h
      go (Some w) found h = or_left (has r.new z) (has r.old z)
          (found_has (λ k. ready k && (need k == 0)) r.new z (found ∙ h))

  -- a key that is not listed gets no quanta
  pub quanta_unlisted : (y : ℕ) → has_key r y ≡ false → (pick need ready r).quanta y ≡ 0
  unfolding pick
  quanta_unlisted y off = go (find (λ k. ready k && (need k == 0)) r.new)
    where
      none : (b : Bool) (m n : ℕ) → (b ≡ true → has_key r y ≡ true) → n ≡ 0 → cond b m n ≡ 0
      none true m n h e = absurd (cc (h refl, off))
      none false m n h e = e

      later : (o : Option ℕ) → first_least (round need r) (filter ready (in_order r)) ≡ o →
          (pick_later need ready r o).quanta y ≡ 0
      later None l = none (has_key r y) (need y) 0 (λ e. e) refl
      later (Some w) l = none (y == w) (need y) _ (λ e. ap (has_key r) (eq_yes y w e) ∙ later_listed w l)
          (none (has_key r y) _ 0 (λ e. e) refl)

      go : (o : Option ℕ) → (pick_from need ready r o).quanta y ≡ 0
      go None = later (first_least (round need r) (filter ready (in_order r))) refl
      go (Some w) = none (has (keys_before w r.new) y) (min 1 (need y)) 0
          (λ e. or_left (has r.new y) (has r.old y) (has_before w r.new y e)) refl

-- ---- the pick of a TID

module _ (v : FlowsValue) (w : World) (st : FlowsStandFor v w) (s t : ℕ) (low_s : s < v.stations)
    (low_t : t < 8) where
  -- each listed queue has the same need on both sides, and has frames on both sides or on neither
  agrees : Agrees (λ key. key) (tid_rotation v (tid_number s t)) (need_at v.rotas) (queue_need w)
      (backlog_has_frames v.backlog) (world_has_frames w)
  agrees = record {
    needs = λ q h. ap₂ need_of (sym (st.sized.quanta q (st.below (tid_number s t) q h)
        ∙ ap (λ (x : SettingsValue). x.flow_quantum) st.settings)) (st.deficits (tid_number s t) q h);
    readiness = λ q h. ap (nat_lt 0) (ap (length {A = Item}) (st.items q)
        ∙ length-map (frames_at v.backlog q) item_of);
  }

  pub same_picked : IsSame (pick_of_tid v (tid_number s t)) (picked_queue w s t)
  same_picked = subst (λ (r : Rotation). IsSame (pick_of_tid v (tid_number s t))
      (pick (queue_need w) (world_has_frames w) r)) (sym (st.lists s t low_s low_t))
      (same_pick (tid_rotation v (tid_number s t)) (need_at v.rotas) (queue_need w)
      (backlog_has_frames v.backlog) (world_has_frames w) agrees)
