-- Proves that there are at most as many heard requests as frames that are dropped for retries or flushed.
-- Each heard request announces a failed number that no earlier request announced, and the frame of this
-- number is dropped for retries or flushed. By cases of the call and induction on the run.
use Rattle.std.proofs.Common.{◌||◌, zero-add, ◌≡◌, ◌≢◌, refl, ap, sym, ◌∙◌, subst, arith, ℕ, zero, suc, ◌+◌, ◌-◌, ◌<◌, ◌≤◌, Bool, true, false, if◌then◌else◌, ◌&&◌, ◌==◌, ◌⊎◌, inl, inr, List, [], ◌∷◌, ◌++◌, length, count_by, Option, Some, None, IfSome, is_none}
use Rattle.std.proofs.lemmas.List.Sums.{sum_by-cons}
use Rattle.wf_frame.specs.declared.settings.Config.{Config}
use Rattle.wf_frame.specs.declared.classes.Cause.TheVariants.{Overlimit, Codel as By_codel, Retries, Left, Flushed, Ended}
use Rattle.wf_frame.specs.declared.classes.Fate.{Fate}
use Rattle.wf_frame.specs.declared.classes.Fate.TheVariants.{Held, Acked, Dropped}
use Rattle.wf_frame.specs.declared.notes.Ask.TheVariants.{Pull, Done, Flush, Cease}
use Rattle.wf_frame.specs.declared.notes.Note.{Note}
use Rattle.wf_frame.specs.declared.notes.Note.TheVariants.{Asked}
use Rattle.wf_frame.specs.declared.notes.Refusal.{Refusal}
use Rattle.wf_frame.specs.declared.notes.Refusal.TheVariants.{Idle}
use Rattle.wf_def_lists.specs.Table.{at, has, put}
use Rattle.wf_def_lists.specs.Lists.{IsOnce}
use Rattle.wf_def_agreement.specs.Session.{End, Session, Slot, State, no_slot, slot, with_state, on_slot, after_flush, next_number, start_of, is_settled, is_waiting, is_failed}
use Rattle.wf_def_world.specs.World.{World, OnHold, tid_of, on_tid, on_station, Exchange, Frame, Mpdu, Content, Frames, Request, no_frame, session, frame, is_live, exchange, with_station, on_session, without_exchange, on_queue, with_fate, with_frame_finished, with_frames_finished, opening}
use Rattle.wf_def_world.specs.CanSend.{is_request, with_listings_of}
use Rattle.wf_def_world.specs.Exchanges.{mpdus_of, end_of, with_heard_start, after_charge, with_failed_finished, with_settled, with_all_settled, after_done, caught_up_if_plain}
use Rattle.wf_def_world.specs.Refusals.{refusal, refusals}
use Rattle.wf_def_world.specs.Step.{Outcome, done_outcome, outcome_where_open, waiting_ids, flush_outcome, cease_outcome, after_numbers_ended, plain_window, outcome_of, concerned_station, after_refusal, judged_outcome, step}
use Rattle.wf_def_world.specs.Run.{Entry, world_after}
use Rattle.wf_def_world.specs.Text.{same_fate, tally}
use Rattle.wf_law_rules.proofs.Lemmas.Numbers.{on_bool, on_if, eq_yes, eq_no, yes_eq, not_eq, either, or_left, or_right, both, and_true}
use Rattle.wf_law_rules.proofs.Lemmas.Tables.{each_put, at_put_same, at_put_other}
use Rattle.wf_law_rules.proofs.Lemmas.Joined.{not_more}
use Rattle.wf_law_runs.specs.Tries.{requests_heard_by, requests_heard, asks_in}
use Rattle.wf_law_runs.specs.Releases.{named_by}
use Rattle.wf_law_runs.proofs.Common.Refused.{after_idle}
use Rattle.wf_law_runs.proofs.Common.Ends.{slot_after_end, end_id, on_settled}
use Rattle.wf_law_runs.proofs.Common.Flushes.{slot_flush, flushed_stays, flushed_fails, StaysInFlush, flushed_ids, flushed_queues, emptied_world, flush_is}
use Rattle.wf_law_runs.proofs.Windows.Sides.{Side, Same, same, each_side_on, same_finish, same_listed, same_after_pick, same_charged, same_emptied, side_on, renewed, ceased_is, same_ended, ended_side, on_elsewhere, ceased_elsewhere}
use Rattle.wf_law_runs.proofs.Windows.Agreement.{within_length, IsUntold, IsAsked, IfRequest, slot_same}
use Rattle.wf_law_runs.proofs.Windows.Opened.{NoRow, no_row}
use Rattle.wf_law_runs.proofs.Windows.Senders.{none_sending, start_flush}
use Rattle.wf_law_runs.proofs.Windows.Agreed.{live_without, session_same, IsLawful, IsEnding, ending_settled, ending_of, session_on_session, live_on_session, none_of_tid, not_no}
use Rattle.wf_law_runs.proofs.Windows.Settling.{without_same}
use Rattle.wf_law_runs.proofs.Releases.Placed.{Placing, Numbered}
use Rattle.wf_law_runs.proofs.Frames.Delivered.{Labelled, labelled_kept}
use Rattle.wf_law_runs.proofs.Releases.Kept.{Kept, keep_settled}
use Rattle.wf_law_runs.proofs.Frames.Fates.{IsHeld, Remains, Fresh, Safe, Steady, IsFoundNamed, found_named, remains_same, remains_of, then_remains, safe_calm, safe_settled, steady_step, steady_first, remains_step, fresh_without, waiting_unsettled}
use Rattle.std.proofs.Math.Nat.{le-max_left, le-max_right}
use Rattle.wf_law_runs.proofs.Releases.Placed.{Any}
use Rattle.wf_law_runs.proofs.Releases.Once.{placed_without}
use Rattle.wf_law_runs.proofs.Frames.Fewer.{less_charged}
use Rattle.wf_law_runs.proofs.Frames.Untouched.{untouched_charged, untouched_without, untouched_listed, untouched_caught_up}
use Rattle.wf_law_runs.proofs.Tries.Still.{Stands, Still, stands_equal, still_same, still_then, still_session, stands_on_slot, still_done, still_caught_up}

-- ---- the fates of frames at failed numbers

-- A frame is dropped because its number failed, or flushed.
abbrev is_lost : Fate → Bool
is_lost (Dropped Retries) = true
is_lost (Dropped Flushed) = true
is_lost _ = false

abbrev WasRetried : World → ℕ → Type 0
WasRetried w k = is_lost (frame w k).fate ≡ true

-- The frame of each failed number that is not yet announced is dropped for retries or flushed. After an
-- agreement ends all its numbers count as announced.
record Fated (w : World) : Type 0 where
  failed : (s t n : ℕ) → (slot (session w s t) n).state ≡ State.Failed → (session w s t).heard ≤ n →
      WasRetried w (slot (session w s t) n).id

-- World v is later than w. Each failed number of v that is not yet announced has the same slot as in w, or
-- its frame was held in w and is dropped for retries or flushed in v.
record Fails (w v : World) : Type 0 where
  fails : (s t n : ℕ) → (slot (session v s t) n).state ≡ State.Failed → (session v s t).heard ≤ n →
      Stands (session w s t) (session v s t) n ⊎
      (IsHeld w (slot (session v s t) n).id × WasRetried v (slot (session v s t) n).id)
  remains : Remains w v

fails_still : (w v : World) → Still w v → Remains w v → Fails w v
fails_still w v h r = record { fails = λ s t n e _. inl (h.still s t n e); remains = r }

-- A frame that was dropped stays so.
stays_retried : (w v : World) (k : ℕ) → Remains w v → WasRetried w k → WasRetried v k
stays_retried w v k r e = elim (r.remains k) [
  | inl held ↦ absurd (cc (ap is_lost held, e))
  | inr same_fate ↦ ap is_lost same_fate ∙ e
]

was_held : (w v : World) (k : ℕ) → Remains w v → IsHeld v k → IsHeld w k
was_held w v k r e = elim (r.remains k) [ inl held ↦ held | inr same_fate ↦ sym same_fate ∙ e ]

failed_before : (y z : Session) (n : ℕ) → Stands y z n → (slot z n).state ≡ State.Failed →
    (slot y n).state ≡ State.Failed
failed_before y z n a e = ap (λ (x : Slot). x.state) (sym a.same_slot) ∙ e

fails_then : (u v w : World) → Fails u v → Fails v w → Fails u w
fails_then u v w h k = record {
  fails = λ s t n e told. elim (k.fails s t n e told) [
    | inl b ↦ elim (h.fails s t n (failed_before _ _ n b e) (omega (arith, told, b.heard_rises))) [
      | inl a ↦ inl (record {
        same_slot = b.same_slot ∙ a.same_slot;
        heard_rises = omega (arith, a.heard_rises, b.heard_rises);
        same_first = b.same_first ∙ a.same_first;
      })
      | inr a ↦
          let id : (slot (session w s t) n).id ≡ (slot (session v s t) n).id =
          ap (λ (x : Slot). x.id) b.same_slot in
          inr (
            ap (λ (k : ℕ). (frame u k).fate) id ∙ a.0,
            ap (λ (k : ℕ). is_lost (frame w k).fate) id ∙ stays_retried v w _ k.remains a.1,
          )
    ]
    | inr b ↦ inr (was_held u v _ h.remains b.0, b.1)
  ];
  remains = then_remains u v w h.remains k.remains;
}

fated_later : (w v : World) → Fails w v → Fated w → Fated v
fated_later w v h f = record {
  failed = λ s t n e told. elim (h.fails s t n e told) [
    | inl a ↦ ap (λ (k : ℕ). is_lost (frame v k).fate) (ap (λ (x : Slot). x.id) a.same_slot)
        ∙ stays_retried w v _ h.remains (f.failed s t n (failed_before _ _ n a e)
        (omega (arith, told, a.heard_rises)))
    | inr b ↦ b.1
  ];
}

-- ---- the numbers of an exchange are settled

fate_of_other : (w : World) (fate : Fate) (id k : ℕ) → k ≢ id →
    (frame (with_frame_finished w fate id) k).fate ≡ (frame w k).fate
unfolding with_frame_finished with_fate
fate_of_other w fate id k other = ap (λ (x : Frame). x.fate)
    (at_put_other no_frame w.frames id k (record (frame w id) { fate = fate }) (λ e. other (sym e)))

fate_of_own : (w : World) (fate : Fate) (id k : ℕ) → k ≡ id →
    (frame (with_frame_finished w fate id) k).fate ≡ fate
unfolding with_frame_finished with_fate
fate_of_own w fate id k own = ap (λ (j : ℕ). (at no_frame (put no_frame w.frames id
    (record (frame w id) { fate = fate })) j).fate) own ∙ ap (λ (x : Frame). x.fate)
    (at_put_same no_frame w.frames id (record (frame w id) { fate = fate }))

-- A number has a new slot: it is the only one that can fail, and it carries frame id.
missed : (w : World) (s t m id : ℕ) (f : Slot → Slot) → (f (slot (session w s t) m)).id ≡ id → (i j n : ℕ) →
    (slot (session (on_session w s t (on_slot m f)) i j) n).state ≡ State.Failed →
    Stands (session w i j) (session (on_session w s t (on_slot m f)) i j) n ⊎
    (((slot (session (on_session w s t (on_slot m f)) i j) n).id ≡ id) ×
    (is_failed (f (slot (session w s t) m)).state ≡ true))
unfolding on_session
missed w s t m id f own = each_side_on (λ i j a. (n : ℕ) → (slot a.session n).state ≡ State.Failed →
    Stands (session w i j) a.session n ⊎ (((slot a.session n).id ≡ id) ×
    (is_failed (f (slot (session w s t) m)).state ≡ true))) w s t
    (λ y. record y { session = on_slot m f y.session }) (λ i j n _. inl (stands_equal _ _ n refl))
    (λ n e. go n e)
  where
    y : Session
    y = session w s t

    go : (n : ℕ) → (slot (on_slot m f y) n).state ≡ State.Failed → Stands y (on_slot m f y) n ⊎
        (((slot (on_slot m f y) n).id ≡ id) × (is_failed (f (slot y m)).state ≡ true))
    go n e = elim (each_put (λ i x. x.state ≡ State.Failed → (x ≡ at no_slot y.slots i) ⊎
        ((x.id ≡ id) × (is_failed (f (slot y m)).state ≡ true))) no_slot y.slots
        (m - y.first) (f (slot y m)) (λ i _. inl refl)
        (λ d. inr (own, ap is_failed d)) (n - y.first) e) [
          | inl a ↦ inl (record { same_slot = a; heard_rises = omega arith; same_first = refl })
          | inr b ↦ inr b
        ]

-- One number fails or waits again.
fails_failing : (e s t : ℕ) (ends : ℕ → End) (w : World) (m : Mpdu) (ms : List Mpdu) (f : Slot → Slot) →
    ((x : Slot) → (f x).id ≡ x.id) → IsEnding e s t ends w (m ∷ ms) →
    (slot (session w s t) m.number).id ≡ m.id → IsHeld w m.id →
    Remains w (with_failed_finished (on_session w s t (on_slot m.number f)) s t m) →
    Fails w (with_failed_finished (on_session w s t (on_slot m.number f)) s t m)
unfolding with_failed_finished
fails_failing e s t ends w m ms f same_id n own held r = go (is_failed (slot (session v s t) m.number).state)
    fails_here r
  where
    v : World
    v = on_session w s t (on_slot m.number f)

    fails_here : is_failed (f (slot (session w s t) m.number)).state
        ≡ is_failed (slot (session v s t) m.number).state
    fails_here = ap (λ (x : Slot). is_failed x.state) (sym (slot_same (session w s t) m.number f))
        ∙ ap (λ (y : Session). is_failed (slot y m.number).state)
        (sym (session_on_session w s t (on_slot m.number f) n.live))

    carried : (f (slot (session w s t) m.number)).id ≡ m.id
    carried = same_id (slot (session w s t) m.number) ∙ own

    go : (b : Bool) → is_failed (f (slot (session w s t) m.number)).state ≡ b →
        Remains w (if b then with_frame_finished v (Dropped Retries) m.id else v) →
        Fails w (if b then with_frame_finished v (Dropped Retries) m.id else v)
    go true d r = record {
      fails = λ i j k h _.
          let same_sides : Same v (with_frame_finished v (Dropped Retries) m.id) =
          same_finish v (Dropped Retries) m.id in
          let here : session (with_frame_finished v (Dropped Retries) m.id) i j ≡ session v i j =
          ap (λ (a : Side). a.session) (same_sides.sides i j) in
          subst (λ (y : Session). Stands (session w i j) y k ⊎ (IsHeld w (slot y k).id ×
          WasRetried (with_frame_finished v (Dropped Retries) m.id) (slot y k).id)) (sym here)
          (elim (missed w s t m.number m.id f carried i j k
          (ap (λ (y : Session). (slot y k).state) (sym here) ∙ h)) [
            | inl a ↦ inl a
            | inr b ↦ inr (
              ap (λ (q : ℕ). (frame w q).fate) b.0 ∙ held,
              ap is_lost (fate_of_own v (Dropped Retries) m.id _ b.0),
            )
          ]);
      remains = r;
    }
    go false d r = record {
      fails = λ i j k h _. elim (missed w s t m.number m.id f carried i j k h) [
        | inl a ↦ inl a
        | inr b ↦ absurd (cc (b.1, d))
      ];
      remains = r;
    }

-- One number is settled.
fails_settled : (end : End) (e s t : ℕ) (ends : ℕ → End) (w : World) (m : Mpdu)
    (ms : List Mpdu) → IsEnding e s t ends w (m ∷ ms) → (slot (session w s t) m.number).id ≡ m.id →
    IsHeld w m.id → Remains w (with_settled w s t end m) → Fails w (with_settled w s t end m)
unfolding with_settled
fails_settled end e s t ends w m ms n own held = on_settled (λ u. Remains w u → Fails w u) end w s t m
    (λ _ r.
    let v : World = on_session w s t (with_state State.Acked m.number) in
    fails_still w _ (still_then w v _ (still_session w s t (with_state State.Acked m.number)
    (stands_on_slot (session w s t) m.number (λ x. record x { state = State.Acked }) (λ d. cc d)))
    (still_same v _ (same_finish v Acked m.id))) r)
    (λ _ r. fails_failing e s t ends w m ms (slot_after_end w.config.attempts end)
    (λ x. end_id w.config.attempts end x) n own held r)

fails_all : (ms : List Mpdu) (l : List ℕ) (e s t : ℕ) (ends : ℕ → End) (w : World) →
    IsEnding e s t ends w ms → Labelled (session w s t) ms → Placing l w → Fresh w →
    Fails w (with_all_settled w s t ends ms)
unfolding with_all_settled
fails_all [] l e s t ends w n a p h = fails_still w w (still_same w w (same w)) (remains_same w w refl)
fails_all (m ∷ ms) l e s t ends w n a p h =
    let v : World = with_settled w s t (ends m.number) m in
    let k : Safe l w v = safe_settled (ends m.number) l e s t ends w m ms n a.0 p h in
    let kept : Kept w v = keep_settled (ends m.number) w s t m in
    let held : IsHeld w m.id = h.held m.id (inr (record {
      station = s;
      tid = t;
      number = m.number;
      slot_of = record {
        from = n.flies.rising.0;
        below = n.flies.rising.1;
        unsettled = ap is_settled n.flies.flying.0;
        id = a.0;
      };
    })) in
    fails_then w v _ (fails_settled (ends m.number) e s t ends w m ms n a.0 held (remains_of w v k.stays))
    (fails_all ms l e s t ends v (ending_settled (ends m.number) e s t ends w m ms refl n)
    (labelled_kept ms (session w s t) (session v s t) (suc m.number) (kept.sessions s t)
    (omega (arith, n.flies.rising.0)) n.flies.rising.2 a.1) k.placing k.fresh)

-- ---- a frame for each heard request

-- l has a frame for each request that was heard. The frame was dropped for retries or flushed, and each
-- failed number that is not yet announced has another frame.
record Spent (l : List ℕ) (w : World) : Type 0 where
  once : IsOnce l
  dropped : (k : ℕ) → has l k ≡ true → WasRetried w k
  untold : (s t n : ℕ) → (session w s t).first ≤ n → (slot (session w s t) n).state ≡ State.Failed →
      (session w s t).heard ≤ n → has l (slot (session w s t) n).id ≡ false

spent_later : (l : List ℕ) (w v : World) → Fails w v → Spent l w → Spent l v
spent_later l w v h f = record {
  once = f.once;
  dropped = λ k e. stays_retried w v k h.remains (f.dropped k e);
  untold = λ s t n from e told. elim (h.fails s t n e told) [
    | inl a ↦ ap (λ (x : Slot). has l x.id) a.same_slot ∙ f.untold s t n
        (omega (arith, from, a.same_first)) (failed_before _ _ n a e) (omega (arith, told, a.heard_rises))
    | inr b ↦ on_bool (has l (slot (session v s t) n).id)
        (λ d. absurd (cc (f.dropped _ d, ap is_lost b.0))) (λ d. d)
  ];
}

slot_below : (y : Session) (n : ℕ) → y.first ≤ n → (slot y n).state ≡ State.Failed → n < next_number y
slot_below y n from e = omega (arith, from, within_length y.slots (n - y.first) (λ d. cc (d, e)))

-- Two numbers that carry one frame are one.
record OneNumber (i j n s t m : ℕ) : Type 0 where
  station : i ≡ s
  tid : j ≡ t
  number : n ≡ m

one_number : (l : List ℕ) (w : World) (p : Placing l w) (i j n s t m : ℕ) → (session w i j).first ≤ n →
    n < next_number (session w i j) → (session w s t).first ≤ m → m < next_number (session w s t) →
    (slot (session w i j) n).id ≡ (slot (session w s t) m).id → OneNumber i j n s t m
one_number l w p i j n s t m from below from' below' e =
    let here : p.home (slot (session w i j) n).id ≡ Numbered i j n = (p.numbered i j n from below).place in
    let there : p.home (slot (session w s t) m).id ≡ Numbered s t m =
    (p.numbered s t m from' below').place in
    record {
      station = cc (here, there, ap p.home e);
      tid = cc (here, there, ap p.home e);
      number = cc (here, there, ap p.home e);
    }

frames_heard : (w : World) (s t : ℕ) (b : Bool) (g : ℕ) →
    (on_session w s t (with_heard_start b g)).frames ≡ w.frames
unfolding on_session on_tid on_station with_station
frames_heard w s t b g = refl

elsewhere : (w : World) (s t g i j : ℕ) → (i ≡ s → j ≡ t → ⊥) →
    session (on_session w s t (with_heard_start true g)) i j ≡ session w i j
elsewhere w s t g i j ne =
    ap (λ (a : Side). a.session) (on_elsewhere w s t _ i j (λ es et. ne (sym es) (sym et)))

neither : (a b : Bool) → a ≡ false → b ≡ false → a || b ≡ false
neither a b h k = rw (h, k) refl

-- If number n of the session failed and is not announced, its frame is not in l.
abbrev IsApart : List ℕ → ℕ → Session → Type 0
IsApart l n y = y.first ≤ n → (slot y n).state ≡ State.Failed → y.heard ≤ n →
    has l (slot y n).id ≡ false

-- A request with start g is heard, and number m below g failed and was not announced. Its frame is spent.
module _ (r l : List ℕ) (w : World) (s t g m : ℕ) (p : Placing r w) (live : is_live w s ≡ true)
    (fated : Fated w) (u : IsUntold (session w s t) m) (below : m < g) (f : Spent l w) where
  spent_own : (n : ℕ) → IsApart ((slot (session w s t) m).id ∷ l) n
      (session (on_session w s t (with_heard_start true g)) s t)
  spent_own n =
      let y : Session = session w s t in
      subst (IsApart ((slot y m).id ∷ l) n) (sym (session_on_session w s t (with_heard_start true g) live))
      (λ from e told. neither _ _
      (not_eq (slot y m).id (slot y n).id (λ d.
      let o : OneNumber s t m s t n = one_number r w p s t m s t n u.from (slot_below y m u.from u.failed)
      from (slot_below y n from e) d in
      omega (arith, o.number, below, told, le-max_right y.heard g)))
      (f.untold s t n from e (omega (arith, told, le-max_left y.heard g))))

  spent_other : (i j n : ℕ) → (i ≡ s → j ≡ t → ⊥) → IsApart ((slot (session w s t) m).id ∷ l) n
      (session (on_session w s t (with_heard_start true g)) i j)
  spent_other i j n ne =
      let y : Session = session w s t in
      let z : Session = session w i j in
      subst (IsApart ((slot y m).id ∷ l) n) (sym (elsewhere w s t g i j ne))
      (λ from e told. neither _ _
      (not_eq (slot y m).id (slot z n).id (λ d.
      let o : OneNumber s t m i j n = one_number r w p s t m i j n u.from (slot_below y m u.from u.failed)
      from (slot_below z n from e) d in
      ne (sym o.station) (sym o.tid)))
      (f.untold i j n from e told))

  spent_heard : Spent ((slot (session w s t) m).id ∷ l) (on_session w s t (with_heard_start true g))
  spent_heard =
      let id : ℕ = (slot (session w s t) m).id in
      let v : World = on_session w s t (with_heard_start true g) in
      let stays : (k : ℕ) → WasRetried w k → WasRetried v k = λ k e.
      ap (λ (fs : List Frame). is_lost (at no_frame fs k).fate) (frames_heard w s t true g) ∙ e in
      record {
        once = (f.untold s t m u.from u.failed u.told, f.once);
        dropped = λ k e. stays k (elim (either (id == k) (has l k) e) [
          | inl d ↦ ap (λ (j : ℕ). is_lost (frame w j).fate) (sym (eq_yes id k d))
              ∙ fated.failed s t m u.failed u.told
          | inr d ↦ f.dropped k d
        ]);
        untold = λ i j n. on_bool (i == s)
            (λ is. on_bool (j == t)
            (λ it. subst (λ (a : ℕ). IsApart (id ∷ l) n (session v a j)) (sym (eq_yes i s is))
            (subst (λ (b : ℕ). IsApart (id ∷ l) n (session v s b)) (sym (eq_yes j t it)) (spent_own n)))
            (λ nt. spent_other i j n (λ _ et. eq_no j t nt et)))
            (λ ns. spent_other i j n (λ es _. eq_no i s ns es));
      }

failed_heard : (w : World) (s t g : ℕ) → Fated w → (i j n : ℕ) →
    (slot (session (on_session w s t (with_heard_start true g)) i j) n).state ≡ State.Failed →
    (session (on_session w s t (with_heard_start true g)) i j).heard ≤ n →
    WasRetried w (slot (session (on_session w s t (with_heard_start true g)) i j) n).id
unfolding on_session
failed_heard w s t g f = each_side_on (λ i j a. (n : ℕ) → (slot a.session n).state ≡ State.Failed →
    a.session.heard ≤ n → WasRetried w (slot a.session n).id) w s t
    (λ y. record y { session = with_heard_start true g y.session }) f.failed
    (λ n e told. f.failed s t n e (omega (arith, told, le-max_left (session w s t).heard g)))

fated_heard : (w : World) (s t g : ℕ) → Fated w → Fated (on_session w s t (with_heard_start true g))
fated_heard w s t g f = record {
  failed = λ i j n e told. ap (λ (fs : List Frame). is_lost (at no_frame fs
      (slot (session (on_session w s t (with_heard_start true g)) i j) n).id).fate)
      (frames_heard w s t true g) ∙ failed_heard w s t g f i j n e told;
}

-- ---- a call

-- After more calls, in which k requests were heard.
record After (l : List ℕ) (k : ℕ) (v : World) : Type 0 where
  list : List ℕ
  more : length list ≡ k + length l
  spent : Spent list v
  fated : Fated v

after_fails : (l : List ℕ) (w v : World) → Fails w v → Spent l w → Fated w → After l 0 v
after_fails l w v h f d = record {
  list = l;
  more = omega arith;
  spent = spent_later l w v h f;
  fated = fated_later w v h d;
}

after_then : (l : List ℕ) (k : ℕ) (w v : World) → After l k w → Fails w v → After l k v
after_then l k w v a h = record {
  list = a.list;
  more = a.more;
  spent = spent_later a.list w v h a.spent;
  fated = fated_later w v h a.fated;
}

still_without : (w : World) (e : ℕ) → Still w (without_exchange w e)
unfolding without_exchange
still_without w e = record { still = λ s t n _. stands_equal _ _ n refl }

fails_charged : (air : Option ℕ) (w : World) (x : Exchange) →
    Fails w (after_charge (without_exchange w x.number) x air)
fails_charged air w x =
    let u : World = without_exchange w x.number in
    fails_still w _ (still_then w u _ (still_without w x.number)
    (still_same u (after_charge u x air) (same_charged air u x)))
    (remains_same w _ ((untouched_charged air u x).frames ∙ (untouched_without w x.number).frames))

no_request : (b : Bool) → ◌≡◌ {A = ℕ} (if b && false then 1 else 0) 0
no_request true = refl
no_request false = refl

safe_charged : (air : Option ℕ) (r : List ℕ) (w : World) (x : Exchange) → Placing r w → Fresh w →
    Safe r (without_exchange w x.number) (after_charge (without_exchange w x.number) x air)
safe_charged air r w x p h =
    let u : World = without_exchange w x.number in
    safe_calm r u (after_charge u x air) (less_charged air Any u x) (same_charged air u x)
    (untouched_charged air u x) (placed_without r w x.number p) (fresh_without w x.number h)

-- The session of the exchange does not change before its content is settled.
same_session : (air : Option ℕ) (w : World) (x : Exchange) →
    session (after_charge (without_exchange w x.number) x air) x.station x.tid ≡ session w x.station x.tid
same_session air w x =
    session_same _ _ (same_charged air (without_exchange w x.number) x) x.station x.tid
    ∙ without_same w x.number x.station x.tid

-- A TID without an agreement catches up.
fails_caught_up : (w : World) (s t : ℕ) → Fails w (caught_up_if_plain w s t)
fails_caught_up w s t = fails_still w _ (still_caught_up w s t)
    (remains_same w _ (untouched_caught_up w s t).frames)

after_content : (c : Content) (heard : Bool) (air : Option ℕ) (r l : List ℕ) (w : World) (i : IsLawful w)
    (x : Exchange) → x.content ≡ c → IsFoundNamed w i x → Placing r w → Fresh w → Spent l w → Fated w →
    After l (if heard && is_request c then 1 else 0)
    (after_done (after_charge (without_exchange w x.number) x air) x heard c)
unfolding after_done
after_content (Frames ms) heard air r l w i x e n p h f d =
    let u : World = after_charge (without_exchange w x.number) x air in
    let k : Safe r (without_exchange w x.number) u = safe_charged air r w x p h in
    let labels : Labelled (session u x.station x.tid) ms =
    subst (λ (y : Session). Labelled y ms) (sym (same_session air w x))
    (subst (λ (c : Content). Labelled (session w x.station x.tid) (mpdus_of c)) e n.labels) in
    let v : World = with_all_settled u x.station x.tid (end_of u x heard) ms in
    subst (λ (m : ℕ). After l m (caught_up_if_plain v x.station x.tid))
    (sym (no_request heard)) (after_fails l w _ (fails_then w u _ (fails_charged air w x)
    (fails_then u v _ (fails_all ms r x.number x.station x.tid (end_of u x heard) u
    (ending_of air w i x ms heard e n.found_one) labels k.placing k.fresh)
    (fails_caught_up v x.station x.tid))) f d)
after_content (Request g) false air r l w i x e n p h f d =
    let u : World = after_charge (without_exchange w x.number) x air in
    after_fails l w _ (fails_then w u _ (fails_charged air w x)
    (fails_still u _ (still_session u x.station x.tid (with_heard_start false g)
    (λ n _. stands_equal _ _ n refl)) (remains_same u _ (frames_heard u x.station x.tid false g)))) f d
after_content (Request g) true air r l w i x e n p h f d =
    let u : World = after_charge (without_exchange w x.number) x air in
    let k : Safe r (without_exchange w x.number) u = safe_charged air r w x p h in
    let asked : IsAsked g (session u x.station x.tid) = subst (IsAsked g) (sym (same_session air w x))
    (subst (λ (c : Content). IfRequest c (λ q. IsAsked q (session w x.station x.tid))) e
    n.found_one.open_in.opened.asked) in
    let live : is_live u x.station ≡ true = (same_charged air (without_exchange w x.number) x).live x.station
    ∙ (live_without w x.number x.station ∙ n.found_one.open_in.live) in
    let fated : Fated u = fated_later w u (fails_charged air w x) d in
    let spent : Spent l u = spent_later l w u (fails_charged air w x) f in
    record {
      list = (slot (session u x.station x.tid) asked.untold.0).id ∷ l;
      more = omega arith;
      spent = spent_heard r l u x.station x.tid g asked.untold.0 k.placing live fated asked.untold.1
          asked.untold.2 spent;
      fated = fated_heard u x.station x.tid g fated;
    }

after_ended : (o : Option Exchange) (heard : Bool) (air : Option ℕ) (r l : List ℕ) (w : World)
    (i : IsLawful w) → IfSome o (IsFoundNamed w i) → Placing r w → Fresh w → Spent l w → Fated w →
    After l (if heard && asks_in o then 1 else 0)
    (outcome_where_open w o (λ x. done_outcome w x heard air)).world
unfolding outcome_where_open done_outcome
after_ended None heard air r l w i n p h f d = subst (λ (m : ℕ). After l m w) (sym (no_request heard))
    (after_fails l w w (fails_still w w (still_same w w (same w)) (remains_same w w refl)) f d)
after_ended (Some x) heard air r l w i n p h f d =
    after_content x.content heard air r l w i x refl n p h f d

heard_here : (w : World) (e : ℕ) (heard : Bool) (air : Option ℕ) →
    refusal w (Asked (Done e heard air)) ≡ None → requests_heard_by w (Asked (Done e heard air))
    ≡ (if heard && asks_in (exchange w e) then 1 else 0)
heard_here w e heard air h =
    ap (λ (o : Option Refusal). if heard && (is_none o && asks_in (exchange w e)) then 1 else 0) h

heard_refused : (note : Note) (r : Refusal) (w : World) → refusal w note ≡ Some r →
    requests_heard_by w note ≡ 0
heard_refused (Asked (Done e heard air)) r w h =
    ap (λ (o : Option Refusal). if heard && (is_none o && asks_in (exchange w e)) then 1 else 0) h
    ∙ no_request heard
heard_refused _ r w h = refl

after_done_is : (l : List ℕ) (k : ℕ) (w : World) (e : ℕ) (heard : Bool) (air : Option ℕ) →
    After l k (outcome_where_open w (exchange w e) (λ x. done_outcome w x heard air)).world →
    After l k (outcome_of w (Asked (Done e heard air))).world
unfolding outcome_of
after_done_is l k w e heard air a = a

-- ---- a flush

lost_finish : (w : World) (id k : ℕ) → WasRetried w k →
    WasRetried (with_frame_finished w (Dropped Flushed) id) k
lost_finish w id k h = on_bool (k == id)
    (λ e. ap is_lost (fate_of_own w (Dropped Flushed) id k (eq_yes k id e)))
    (λ e. ap is_lost (fate_of_other w (Dropped Flushed) id k (eq_no k id e)) ∙ h)

frames_emptied : (w : World) (q k : ℕ) → WasRetried w k →
    WasRetried (on_queue w q (λ y. record y { items = [] })) k
unfolding on_queue
frames_emptied w q k h = h

lost_stays : (k : ℕ) → StaysInFlush (λ u. WasRetried u k)
lost_stays k = record {
  finish = λ u id a. lost_finish u id k a;
  empty = λ u q a. frames_emptied u q k a;
}

lost_among : (ids : List ℕ) (w : World) (k : ℕ) → has ids k ≡ true →
    WasRetried (with_frames_finished w (Dropped Flushed) ids) k
unfolding with_frames_finished
lost_among [] w k h = absurd (cc h)
lost_among (id ∷ ids) w k h = elim (either (id == k) (has ids k) h) [
  | inl own ↦ flushed_ids (λ u. WasRetried u k) (lost_stays k) ids _
      (ap is_lost (fate_of_own w (Dropped Flushed) id k (sym (eq_yes id k own))))
  | inr later ↦ lost_among ids _ k later
]

waiting_has : (xs : List Slot) (i : ℕ) → is_waiting (at no_slot xs i).state ≡ true →
    has (waiting_ids xs) (at no_slot xs i).id ≡ true
waiting_has [] i h = absurd (cc h)
waiting_has (x ∷ xs) zero h = on_if (λ (ids : List ℕ). has ids x.id ≡ true) (is_waiting x.state)
    (x.id ∷ waiting_ids xs) (waiting_ids xs) (λ _. or_left (x.id == x.id) _ (yes_eq x.id x.id refl))
    (λ e. absurd (cc (e, h)))
waiting_has (x ∷ xs) (suc i) h =
    on_if (λ (ids : List ℕ). has ids (at no_slot xs i).id ≡ true) (is_waiting x.state) (x.id ∷ waiting_ids xs)
    (waiting_ids xs)
    (λ _. or_right (x.id == (at no_slot xs i).id) _ (waiting_has xs i h)) (λ _. waiting_has xs i h)

waiting_inside : (xs : List Slot) (i : ℕ) → is_waiting (at no_slot xs i).state ≡ true → i < length xs
waiting_inside [] i h = absurd (cc h)
waiting_inside (x ∷ xs) zero h = omega arith
waiting_inside (x ∷ xs) (suc i) h = omega (arith, waiting_inside xs i h)

-- The frame of a waiting number is held.
waiting_held : (w : World) (s t n : ℕ) → Fresh w → is_waiting (slot (session w s t) n).state ≡ true →
    IsHeld w (slot (session w s t) n).id
waiting_held w s t n h waits =
    let y : Session = session w s t in
    let i : ℕ = n - y.first in
    let spot : y.first + i - y.first ≡ i = omega arith in
    h.held (slot y n).id (inr (record {
      station = s;
      tid = t;
      number = y.first + i;
      slot_of = record {
        from = omega arith;
        below = omega (arith, waiting_inside y.slots i waits);
        unsettled = ap (λ (j : ℕ). is_settled (at no_slot y.slots j).state) spot
            ∙ waiting_unsettled (slot y n).state waits;
        id = ap (λ (j : ℕ). (at no_slot y.slots j).id) spot;
      };
    }))

-- The numbers that a flush gives up.
flush_failed : (w : World) (s t i j n : ℕ) →
    (slot (session (on_session w s t (after_flush w.config.attempts)) i j) n).state ≡ State.Failed →
    Stands (session w i j) (session (on_session w s t (after_flush w.config.attempts)) i j) n ⊎
    ((is_waiting (slot (session w s t) n).state ≡ true) ×
    ((slot (session (on_session w s t (after_flush w.config.attempts)) i j) n).id
    ≡ (slot (session w s t) n).id))
unfolding on_session
flush_failed w s t i j n = each_side_on (λ i j a. (slot a.session n).state ≡ State.Failed →
    Stands (session w i j) a.session n ⊎ ((is_waiting (slot (session w s t) n).state ≡ true) ×
    ((slot a.session n).id ≡ (slot (session w s t) n).id))) w s t
    (λ y. record y { session = after_flush w.config.attempts y.session })
    (λ i j _. inl (stands_equal _ _ n refl)) (λ _. go) i j
  where
    y : Session
    y = session w s t

    limit : ℕ
    limit = w.config.attempts

    go : Stands y (after_flush limit y) n ⊎ ((is_waiting (slot y n).state ≡ true) ×
        ((slot (after_flush limit y) n).id ≡ (slot y n).id))
    go = on_bool (is_waiting (slot y n).state)
        (λ waits. inr (
          waits,
          ap (λ (x : Slot). x.id) (slot_flush limit y n
              ∙ flushed_fails limit (slot y n) waits),
        ))
        (λ stays. inl (record {
          same_slot = slot_flush limit y n ∙ flushed_stays limit (slot y n) stays;
          heard_rises = omega arith;
          same_first = refl;
        }))

flush_sides : (w : World) (s t i j : ℕ) → session (emptied_world w s t) i j
    ≡ session (on_session w s t (after_flush w.config.attempts)) i j
flush_sides w s t i j = session_same _ _ (same_emptied w s t) i j

flush_lost : (w : World) (s t k : ℕ) → has (waiting_ids (session w s t).slots) k ≡ true →
    WasRetried (emptied_world w s t) k
flush_lost w s t k h = flushed_queues (λ u. WasRetried u k) (lost_stays k) _ _
    (lost_among (waiting_ids (session w s t).slots) (on_session w s t (after_flush w.config.attempts)) k h)

fails_emptied : (w : World) (s t : ℕ) → Fresh w → Remains w (emptied_world w s t) →
    Fails w (emptied_world w s t)
fails_emptied w s t h r = record {
  fails = λ i j n e _.
      let v : World = emptied_world w s t in
      let y : Session = session w s t in
      let d = flush_sides w s t i j in
      subst (λ (z : Session). Stands (session w i j) z n ⊎
      (IsHeld w (slot z n).id × WasRetried v (slot z n).id)) (sym d)
      (elim (flush_failed w s t i j n (ap (λ (z : Session). (slot z n).state) (sym d) ∙ e)) [
        | inl a ↦ inl a
        | inr b ↦ inr (
          ap (λ (k : ℕ). (frame w k).fate) b.1 ∙ waiting_held w s t n h b.0,
          ap (λ (k : ℕ). is_lost (frame v k).fate) b.1
              ∙ flush_lost w s t (slot y n).id (waiting_has y.slots (n - y.first) b.0),
        )
      ]);
  remains = r;
}

fails_flushed : (w : World) (s t : ℕ) → Fresh w → Remains w (flush_outcome w s t).world →
    Fails w (flush_outcome w s t).world
fails_flushed w s t h r =
    let v : World = emptied_world w s t in
    let u : World = caught_up_if_plain v s t in
    let calm : u.frames ≡ v.frames = (untouched_caught_up v s t).frames in
    subst (Fails w) (sym (flush_is w s t)) (fails_then w v u (fails_emptied w s t h
    (then_remains w u v (subst (Remains w) (flush_is w s t) r) (remains_same u v (sym calm))))
    (fails_caught_up v s t))

flushed_is : (w : World) (s t : ℕ) → outcome_of w (Asked (Flush s t)) ≡ flush_outcome w s t
unfolding outcome_of
flushed_is w s t = refl

fails_call : (w : World) (s t : ℕ) → Fresh w → Remains w (outcome_of w (Asked (Flush s t))).world →
    Fails w (outcome_of w (Asked (Flush s t))).world
fails_call w s t h = subst (λ (o : Outcome). Remains w o.world → Fails w o.world) (sym (flushed_is w s t))
    (fails_flushed w s t h)

-- ---- a cease

-- The numbers of a TID without an open exchange are all settled after the waiting ones are given up.
all_settled : (w : World) (s t : ℕ) → NoRow (refusals w (Asked (Cease s t))) → IsLawful w →
    start_of (after_flush w.config.attempts (session w s t))
    ≡ next_number (after_flush w.config.attempts (session w s t))
all_settled w s t row i = start_flush w.config.attempts (session w s t)
    (λ n e b h. none_sending s t e n w.opened (none_of_tid s t w.opened row.1.1.1.1.0)
    (i.sent s t refl n e b h))

-- No failed number of a TID is above the start that the receiver has after the agreement ended.
none_untold : (w : World) (s t : ℕ) → NoRow (refusals w (Asked (Cease s t))) → IsLawful w → (n : ℕ) →
    (slot (session (cease_outcome w s t).world s t) n).state ≡ State.Failed →
    (session (cease_outcome w s t).world s t).heard ≤ n → ⊥
none_untold w s t row i =
    let y : Session = session w s t in
    let a : World = after_numbers_ended w s t in
    let start : ℕ = start_of (session a s t) in
    let live : is_live w s ≡ true = not_no (is_live w s) row.1.1.0 in
    let live_a : is_live a s ≡ true = (same_ended w s t).live s
    ∙ (live_on_session w s t (after_flush w.config.attempts) s ∙ live) in
    let now : session a s t ≡ after_flush w.config.attempts y =
    ap (λ (z : Side). z.session) (ended_side w s t live) in
    let all : start ≡ next_number (session a s t) =
    ap start_of now ∙ (all_settled w s t row i ∙ ap next_number (sym now)) in
    let after : session (cease_outcome w s t).world s t
    ≡ (renewed start plain_window OnHold (tid_of a s t)).session =
    ap (λ (v : World). session v s t) (ceased_is w s t)
    ∙ ap (λ (z : Side). z.session) (side_on a s t (renewed start plain_window OnHold) live_a) in
    subst (λ (z : Session). (n : ℕ) → (slot z n).state ≡ State.Failed → z.heard ≤ n → ⊥) (sym after)
    (λ n e told.
    let from : start ≤ n = omega (arith, told, le-max_right (session a s t).heard start) in
    let first : (session a s t).first ≤ n = omega (arith, from, all) in
    let below : n < next_number (session a s t) = slot_below (session a s t) n first e in
    omega (arith, below, from, all))

-- The sessions of the other TIDs stay.
apart_ceased : (w : World) (s t i j : ℕ) → (i ≡ s → j ≡ t → ⊥) →
    session (cease_outcome w s t).world i j ≡ session w i j
apart_ceased w s t i j ne =
    ap (λ (z : Side). z.session) (ceased_elsewhere w s t i j (λ es et. ne (sym es) (sym et)))

fails_ceased : (w : World) (s t : ℕ) → NoRow (refusals w (Asked (Cease s t))) → IsLawful w →
    Remains w (cease_outcome w s t).world → Fails w (cease_outcome w s t).world
fails_ceased w s t row i r = record {
  fails = λ a b n. on_bool ((a == s) && (b == t))
      (λ own.
      let is = both (a == s) (b == t) own in
      subst (λ (k : ℕ). Untold k b n) (sym (eq_yes a s is.0))
      (subst (λ (k : ℕ). Untold s k n) (sym (eq_yes b t is.1))
      (λ e told. absurd (none_untold w s t row i n e told))))
      (λ other e told. inl (stands_equal _ _ n (apart_ceased w s t a b (λ es et.
      cc (other, and_true (a == s) (b == t) (yes_eq a s es) (yes_eq b t et))))));
  remains = r;
}
  where
    v : World
    v = (cease_outcome w s t).world

    Untold : ℕ → ℕ → ℕ → Type 0
    Untold a b n = (slot (session v a b) n).state ≡ State.Failed → (session v a b).heard ≤ n →
        Stands (session w a b) (session v a b) n ⊎
        (IsHeld w (slot (session v a b) n).id × WasRetried v (slot (session v a b) n).id)

fails_cease : (w : World) (s t : ℕ) → NoRow (refusals w (Asked (Cease s t))) → IsLawful w →
    Remains w (outcome_of w (Asked (Cease s t))).world → Fails w (outcome_of w (Asked (Cease s t))).world
unfolding outcome_of
fails_cease w s t row i r = fails_ceased w s t row i r

after_call : (note : Note) (r l : List ℕ) (w : World) → refusal w note ≡ None → Steady r w →
    Remains w (outcome_of w note).world → Spent l w → Fated w →
    After l (requests_heard_by w note) (outcome_of w note).world
after_call (Asked (Done e heard air)) r l w h k s f d =
    subst (λ (m : ℕ). After l m (outcome_of w (Asked (Done e heard air))).world)
    (sym (heard_here w e heard air h)) (after_done_is l _ w e heard air
    (after_ended (exchange w e) heard air r l w k.lawful (found_named w k.lawful k.labelled e) k.placing
    k.fresh f d))
after_call (Asked (Flush i j)) r l w h k s f d = after_fails l w _ (fails_call w i j k.fresh s) f d
after_call (Asked (Cease i j)) r l w h k s f d =
    after_fails l w _ (fails_cease w i j (no_row (refusals w (Asked (Cease i j))) h) k.lawful s) f d
after_call note r l w h k s f d =
    after_fails l w _ (fails_still w _ (still_done note w k.lawful (λ b. b)) s) f d

still_refused : (note : Note) (r : Refusal) (w : World) → Still w (after_refusal w note r)
unfolding after_refusal
still_refused (Asked (Pull c l)) Idle w = after_idle (Still w) w c (still_same w w (same w))
    (still_same w _ (same_after_pick w c))
still_refused _ _ w = still_same w w (same w)

after_answer : (o : Option Refusal) (r l : List ℕ) (w : World) (note : Note) → refusal w note ≡ o →
    Steady r w → Remains w (judged_outcome w note o).world → Spent l w → Fated w →
    After l (requests_heard_by w note) (judged_outcome w note o).world
unfolding judged_outcome
after_answer (Some q) r l w note e k s f d =
    subst (λ (m : ℕ). After l m (after_refusal w note q)) (sym (heard_refused note q w e))
    (after_fails l w _ (fails_still w _ (still_refused note q w) s) f d)
after_answer None r l w note e k s f d =
    let u : World = (outcome_of w note).world in
    let v : World = with_listings_of u (concerned_station w note) in
    let same_frames : v.frames ≡ u.frames = (untouched_listed (concerned_station w note) u).frames in
    after_then l (requests_heard_by w note) u v
    (after_call note r l w e k (then_remains w v u s (remains_same v u (sym same_frames))) f d)
    (fails_still u v (still_same u v (same_listed (concerned_station w note) u))
    (remains_same u v same_frames))

after_judged : (r l : List ℕ) (w : World) (note : Note) → Steady r w → Remains w (step w note).world →
    Spent l w → Fated w → After l (requests_heard_by w note) (step w note).world
unfolding step
after_judged r l w note k s f d = after_answer (refusal w note) r l w note refl k s f d

after_step : (r l : List ℕ) (w : World) (note : Note) → Steady r w → Spent l w → Fated w →
    After l (requests_heard_by w note) (step w note).world
after_step r l w note k f d = after_judged r l w note k (remains_step r w note k) f d

-- ---- the run

after_run : (h : List Entry) (r l : List ℕ) (w : World) → Steady r w → Spent l w → Fated w →
    After l (requests_heard w h) (world_after w h)
unfolding world_after
after_run [] r l w k f d = record { list = l; more = omega arith; spent = f; fated = d }
after_run (e ∷ es) r l w k f d =
    let a : After l (requests_heard_by w e.1) (step w e.1).world = after_step r l w e.1 k f d in
    let b : After a.list (requests_heard (step w e.1).world es) (world_after (step w e.1).world es) =
    after_run es (r ++ named_by (step w e.1).reply) a.list (step w e.1).world (steady_step r w e.1 k) a.spent
    a.fated in
    record { list = b.list; more = omega (arith, a.more, b.more); spent = b.spent; fated = b.fated }

-- ---- the frames that are dropped for retries or flushed

lost_from : ℕ → List Frame → List ℕ
lost_from n [] = []
lost_from n (f ∷ fs) = if is_lost f.fate then n ∷ lost_from (suc n) fs else lost_from (suc n) fs

lost_either : (f : Fate) → ◌≡◌ {A = ℕ} (if is_lost f then 1 else 0)
    ((if same_fate f (Dropped Retries) then 1 else 0) + (if same_fate f (Dropped Flushed) then 1 else 0))
lost_either Held = refl
lost_either Acked = refl
lost_either (Dropped Overlimit) = refl
lost_either (Dropped By_codel) = refl
lost_either (Dropped Retries) = refl
lost_either (Dropped Left) = refl
lost_either (Dropped Flushed) = refl
lost_either (Dropped Ended) = refl

lost_count : (fs : List Frame) (n : ℕ) → length (lost_from n fs)
    ≡ count_by (λ f. same_fate f.fate (Dropped Retries)) fs
    + count_by (λ f. same_fate f.fate (Dropped Flushed)) fs
unfolding lost_from
lost_count [] n = refl
lost_count (f ∷ fs) n =
    let retries : count_by (λ f. same_fate f.fate (Dropped Retries)) (f ∷ fs)
    ≡ (if same_fate f.fate (Dropped Retries) then 1 else 0)
    + count_by (λ f. same_fate f.fate (Dropped Retries)) fs =
    sum_by-cons (λ (y : Frame). if same_fate y.fate (Dropped Retries) then 1 else 0) f fs in
    let flushed : count_by (λ f. same_fate f.fate (Dropped Flushed)) (f ∷ fs)
    ≡ (if same_fate f.fate (Dropped Flushed) then 1 else 0)
    + count_by (λ f. same_fate f.fate (Dropped Flushed)) fs =
    sum_by-cons (λ (y : Frame). if same_fate y.fate (Dropped Flushed) then 1 else 0) f fs in
    omega (arith, go (is_lost f.fate), lost_either f.fate, lost_count fs (suc n), retries, flushed)
  where
    go : (b : Bool) → length (if b then n ∷ lost_from (suc n) fs else lost_from (suc n) fs)
        ≡ (if b then 1 else 0) + length (lost_from (suc n) fs)
    go true = omega arith
    go false = omega arith

lost_has : (fs : List Frame) (n k : ℕ) → is_lost (at no_frame fs k).fate ≡ true →
    has (lost_from n fs) (n + k) ≡ true
unfolding lost_from
lost_has [] n k e = absurd (cc e)
lost_has (f ∷ fs) n zero e =
    let here : n + 0 ≡ n = omega arith in
    rw (e, here) (or_left (n == n) (has (lost_from (suc n) fs) n) (yes_eq n n refl))
lost_has (f ∷ fs) n (suc k) e =
    let later : has (lost_from (suc n) fs) (n + suc k) ≡ true =
    subst (λ (i : ℕ). has (lost_from (suc n) fs) i ≡ true) (omega arith) (lost_has fs (suc n) k e) in
    on_if (λ (ns : List ℕ). has ns (n + suc k) ≡ true) (is_lost f.fate)
    (n ∷ lost_from (suc n) fs) (lost_from (suc n) fs)
    (λ _. or_right (n == n + suc k) (has (lost_from (suc n) fs) (n + suc k)) later) (λ _. later)

spent_most : (l : List ℕ) (w : World) → Spent l w →
    length l ≤ tally w (Dropped Retries) + tally w (Dropped Flushed)
spent_most l w f = omega (
  arith,
  not_more l (lost_from 0 w.frames) f.once (λ k e.
      subst (λ (i : ℕ). has (lost_from 0 w.frames) i ≡ true) (zero-add k)
      (lost_has w.frames 0 k (f.dropped k e))),
  lost_count w.frames 0,
)

pub few_requests : (config : Config) (past : List Entry) →
    requests_heard (opening config) past ≤ tally (world_after (opening config) past) (Dropped Retries)
    + tally (world_after (opening config) past) (Dropped Flushed)
few_requests config past =
    let a : After [] (requests_heard (opening config) past) (world_after (opening config) past) =
    after_run past [] [] (opening config) (steady_first config)
    (record { once = tt; dropped = λ k e. absurd (cc e); untold = λ s t n _ _ _. refl })
    (record { failed = λ s t n e _. absurd (cc e) }) in
    omega (arith, a.more, spent_most a.list (world_after (opening config) past) a.spent)
