-- Proves that a relation of worlds holds through each call of the flow queues, if it holds for each
-- elementary change: of a queue, of a TID's lists and of a frame's fate.
use Rattle.std.proofs.Common.{◌≡◌, refl, ◌∙◌, subst, ℕ, List, [], ◌∷◌, Option, Some, None}
use Rattle.std.proofs.lemmas.Bool.{cond_both}
use Rattle.wf_frame.specs.declared.classes.Cause.{Cause}
use Rattle.wf_frame.specs.declared.classes.Cause.TheVariants.{Left, Flushed}
use Rattle.wf_frame.specs.declared.classes.Fate.{Fate}
use Rattle.wf_frame.specs.declared.classes.Fate.TheVariants.{Dropped}
use Rattle.wf_def_codel.specs.Codel.{Item, Codel, Dequeued, renewed}
use Rattle.wf_def_rotation.specs.Rotation.{Rotation, no_keys, has_key, in_order}
use Rattle.wf_def_agreement.specs.Session.{after_flush}
use Rattle.wf_def_world.specs.World.{World, Queue, queue, tid_of, session, on_queue, on_session, with_queues, with_frame_finished, with_frames_finished}
use Rattle.wf_def_world.specs.FlowQueues.{is_at_limit, longest_queue, without_head, after_limit, with_listed_queue, with_appended, after_put_in, with_queues_paid, picked_queue, taken_by_codel, taken_from_picked, taken_for_tid, after_queues_left, after_queues_flushed}
use Rattle.wf_def_world.specs.Step.{waiting_ids, in_rising_order, after_tid_left}
use Rattle.wf_queue_flows.specs.Backlog.{unchanged}
use Rattle.wf_queue_flows_refines.specs.Standing.{queue_emptied, queues_emptied, waiting_flushed, tid_emptied}
use Rattle.wf_queue_flows_refines.proofs.Emptied.{queues_left, queues_flushed}

module _ (R : World → World → Type 0) (same : (w : World) → R w w)
    (join : (u v w : World) → R u v → R v w → R u w)
    (queues : (w : World) (q : ℕ) (f : Queue → Queue) → R w (on_queue w q f)) where
  pub through_paid : (qs : List ℕ) (w : World) (quanta : ℕ → ℕ) → R w (with_queues_paid w quanta qs)
  unfolding with_queues_paid
  through_paid [] w quanta = same w
  through_paid (q ∷ qs) w quanta = join _ _ _ (queues w q _) (through_paid qs _ quanta)

  module _ (lists : (w : World) (s t : ℕ) (r : Rotation) → R w (with_queues w s t r)) where
    through_listed : (w : World) (s t q : ℕ) → R w (with_listed_queue w s t q)
    unfolding with_listed_queue
    through_listed w s t q = cond_both (has_key (tid_of w s t).queues q) w _ (R w) (λ e. same w)
        (λ e. join _ _ _ (queues w q _) (lists _ s t _))

    pub through_put_in : (w : World) (s t q : ℕ) (x : Item) → R w (after_put_in w s t q x)
    unfolding after_put_in with_appended
    through_put_in w s t q x = join _ _ _ (queues w q _) (through_listed _ s t q)

    module _ (finish : (w : World) (fate : Fate) (id : ℕ) → R w (with_frame_finished w fate id)) where
      pub through_finish_all : (ids : List ℕ) (w : World) (fate : Fate) →
          R w (with_frames_finished w fate ids)
      unfolding with_frames_finished
      through_finish_all [] w fate = same w
      through_finish_all (id ∷ ids) w fate = join _ _ _ (finish w fate id)
          (through_finish_all ids (with_frame_finished w fate id) fate)

      through_head : (items : List Item) (w : World) (q : ℕ) → R w (without_head w q items)
      unfolding without_head
      through_head [] w q = same w
      through_head (x ∷ left) w q = join _ _ _ (queues w q _) (finish _ _ x.id)

      pub through_limit : (w : World) → R w (after_limit w)
      unfolding after_limit
      through_limit w = cond_both (is_at_limit w) _ w (R w)
          (λ e. through_head (queue w (longest_queue w)).items w (longest_queue w)) (λ e. same w)

      -- ---- take

      through_dequeued : (w : World) (q : ℕ) (d : Dequeued) → R w (taken_by_codel w q d).world
      unfolding taken_by_codel
      through_dequeued w q d = join _ _ _ (queues w q _) (through_finish_all _ _ _)

      through_taken : (w : World) (s : ℕ) (o : Option ℕ) → R w (taken_from_picked w s o).world
      unfolding taken_from_picked
      through_taken w s None = same w
      through_taken w s (Some q) = through_dequeued w q _

      pub through_take : (w : World) (s t : ℕ) → R w (taken_for_tid w s t).world
      unfolding taken_for_tid
      through_take w s t = join _ _ _ (through_paid (in_order (tid_of w s t).queues) w
          (picked_queue w s t).quanta) (join _ _ _ (lists _ s t _)
          (through_taken _ s (picked_queue w s t).winner))

      -- ---- purge and flush

      pub through_emptied_queue : (cause : Cause) (codel : Codel → Codel) (w : World) (q : ℕ) →
          R w (queue_emptied cause codel w q)
      unfolding queue_emptied
      through_emptied_queue cause codel w q = join _ _ _ (queues w q _) (through_finish_all _ _ _)

      through_emptied_queues : (cause : Cause) (codel : Codel → Codel) (qs : List ℕ) (w : World) →
          R w (queues_emptied cause codel w qs)
      unfolding queues_emptied
      through_emptied_queues cause codel [] w = same w
      through_emptied_queues cause codel (q ∷ qs) w = join _ _ _ (through_emptied_queue cause codel w q)
          (through_emptied_queues cause codel qs (queue_emptied cause codel w q))

      through_purge_queues : (qs : List ℕ) (w : World) → R w (after_queues_left w qs)
      through_purge_queues qs w = subst (R w) (queues_left qs w) (through_emptied_queues Left renewed qs w)

      through_flush_queues : (qs : List ℕ) (w : World) → R w (after_queues_flushed w qs)
      through_flush_queues qs w = subst (R w) (queues_flushed qs w)
          (through_emptied_queues Flushed unchanged qs w)

      -- a leave of a TID, after the waiting frames of its session are finished
      pub through_purge : (w : World) (s t : ℕ) → R
          (with_frames_finished w (Dropped Left) (waiting_ids (session w s t).slots)) (after_tid_left w s t)
      unfolding after_tid_left
      through_purge w s t = join _ _ _ (through_purge_queues _ _) (lists _ s t no_keys)

      pub through_left : (w : World) (s t : ℕ) → R w (after_tid_left w s t)
      through_left w s t = join _ _ _ (through_finish_all (waiting_ids (session w s t).slots) w
          (Dropped Left)) (through_purge w s t)

      -- a flush of a TID, after the numbers of its session that wait have failed
      pub through_flush : (w : World) (s t : ℕ) → R (waiting_flushed w s t) (tid_emptied w s t)
      through_flush w s t = through_flush_queues (in_rising_order (in_order (tid_of w s t).queues))
          (waiting_flushed w s t)

      pub through_flushed : (w : World) (s t : ℕ) →
          R (on_session w s t (after_flush w.config.attempts)) (tid_emptied w s t)
      through_flushed w s t = join _ _ _ (through_finish_all (waiting_ids (session w s t).slots)
          (on_session w s t (after_flush w.config.attempts)) (Dropped Flushed)) (through_flush w s t)

-- ---- a value read from a world that no call changes

module _ {X : Type 0} (read : World → X) (queues : (w : World) (q : ℕ) (f : Queue → Queue) →
    read (on_queue w q f) ≡ read w) where
  abbrev Reads : World → World → Type 0
  Reads w u = read u ≡ read w

  joined : (u v w : World) → Reads u v → Reads v w → Reads u w
  joined u v w a b = b ∙ a

  pub stays_paid : (qs : List ℕ) (w : World) (quanta : ℕ → ℕ) → read (with_queues_paid w quanta qs) ≡ read w
  stays_paid = through_paid Reads (λ w. refl) joined queues

  module _ (lists : (w : World) (s t : ℕ) (r : Rotation) → read (with_queues w s t r) ≡ read w) where
    pub stays_put_in : (w : World) (s t q : ℕ) (x : Item) → read (after_put_in w s t q x) ≡ read w
    stays_put_in = through_put_in Reads (λ w. refl) joined queues lists

    module _ (finish : (w : World) (fate : Fate) (id : ℕ) → read (with_frame_finished w fate id) ≡ read w)
      where
        pub stays_finish_all : (ids : List ℕ) (w : World) (fate : Fate) →
            read (with_frames_finished w fate ids) ≡ read w
        stays_finish_all = through_finish_all Reads (λ w. refl) joined queues lists finish

        pub stays_limit : (w : World) → read (after_limit w) ≡ read w
        stays_limit = through_limit Reads (λ w. refl) joined queues lists finish

        pub stays_take : (w : World) (s t : ℕ) → read (taken_for_tid w s t).world ≡ read w
        stays_take = through_take Reads (λ w. refl) joined queues lists finish

        pub stays_left : (w : World) (s t : ℕ) → read (after_tid_left w s t) ≡ read w
        stays_left = through_left Reads (λ w. refl) joined queues lists finish

        pub stays_flushed : (w : World) (s t : ℕ) → read (tid_emptied w s t)
            ≡ read (on_session w s t (after_flush w.config.attempts))
        stays_flushed = through_flushed Reads (λ w. refl) joined queues lists finish
