-- Defines the shelves: the part of a world that the laws of the queues refer to. Proves how each change of
-- a world changes them.
use Rattle.std.proofs.Common.{◌≡◌, refl, ap, sym, ◌∙◌, subst, arith, ℕ, zero, suc, ◌+◌, ◌*◌, pos, ◌+ℤ◌, Bool, true, false, if◌then◌else◌, List, [], ◌∷◌, ◌++◌, length, Option, Some, None, is_some, unwrap_or, option_map, inl, inr}
use Rattle.std.proofs.Math.Path.{fun_ext}
use Rattle.std.proofs.lemmas.Int.{ints}
use Rattle.std.proofs.lemmas.Bool.{cases_eq}
use Rattle.wf_frame.specs.declared.settings.Config.{Config}
use Rattle.wf_frame.specs.declared.classes.Class.{Class}
use Rattle.wf_frame.specs.declared.notes.Limits.{Limits}
use Rattle.wf_frame.specs.declared.classes.Fate.{Fate}
use Rattle.wf_frame.specs.declared.notes.Note.{Note}
use Rattle.wf_def_lists.specs.Table.{at, put, change}
use Rattle.wf_def_rotation.specs.Rotation.{Rotation, in_order}
use Rattle.wf_def_agreement.specs.Session.{Session, End}
use Rattle.wf_def_agreement.specs.Receiver.{Receiver}
use Rattle.wf_def_world.specs.World.{World, Station, Share, Tid, Queue, Exchange, Mpdu, Content, Frames, Request, Frame, no_frame, no_tid, no_station, new_queue, queue, is_live, accepted_count, with_mode, with_station, on_station, on_tid, on_session, on_receiver, with_queues, on_share, on_queue, with_rotation, with_fate, with_frame_finished, with_frames_finished, with_exchange, without_exchange}
use Rattle.wf_frame.specs.Classes.{all_classes}
use Rattle.wf_def_world.specs.CanSend.{with_listing_in, with_listings_in, with_listings_of}
use Rattle.wf_def_world.specs.FlowQueues.{with_queues_paid}
use Rattle.wf_def_world.specs.Exchanges.{with_station_paid, with_stations_paid, after_pick, after_tid_turn, with_exchange_opened, after_charge, with_failed_finished, with_settled, with_all_settled, after_done, Prepared, caught_up, caught_up_if_plain, with_spent}
use Rattle.wf_def_world.specs.Step.{Outcome, with_frame, send_outcome, arrive_outcome, answer_outcome, done_outcome, outcome_where_open, reap_outcome, without_listings, with_deficits_lowered, weight_outcome, hold_outcome, begin_outcome, free_outcome, cease_outcome, after_numbers_ended}
use Rattle.wf_def_lists.specs.Lists.{on}
use Rattle.wf_law_rules.proofs.Lemmas.Counts.{on-nil, on-cons_same, on-cons_other}
use Rattle.wf_law_runs.proofs.Common.Marks.{marked_world}
use Rattle.wf_law_runs.proofs.Common.Picked.{picked_world}
use Rattle.wf_law_runs.proofs.Deficits.Books.{upd, upd_same, upd_other, upd_idle, put_upd}
use Rattle.wf_law_runs.proofs.Common.Flushes.{if_caught}
use Rattle.wf_law_runs.proofs.Windows.Sides.{begun_is, ceased_is}

-- Whether a station is live, and how often each of its TIDs lists each queue.
pub record Spot : Type 0 where
  pub live : Bool
  pub listed : ℕ → ℕ → ℕ

abbrev pub spot : Option Station → Spot
spot o = record {
  live = is_some o;
  listed = λ t q.
      on (in_order (at no_tid (unwrap_or o no_station).tids t).queues) q;
}

pub record Shelves : Type 0 where
  pub config : Config
  pub clock : ℕ
  pub spots : ℕ → Spot
  pub queues : ℕ → Queue
  pub notes : ℕ → Note

abbrev pub shelves : World → Shelves
shelves w = record {
  config = w.config;
  clock = w.clock;
  spots = λ s. spot (at None w.stations s);
  queues = λ q. at new_queue w.queues q;
  notes = λ k. (at no_frame w.frames k).note;
}

abbrev pub with_spot : Shelves → ℕ → Spot → Shelves
with_spot b s x = record b { spots = upd b.spots s x }

abbrev pub with_listed : Shelves → ℕ → ℕ → (ℕ → ℕ) → Shelves
with_listed b s t g = with_spot b s (record (b.spots s) { listed = upd (b.spots s).listed t g })

abbrev pub with_queue : Shelves → ℕ → Queue → Shelves
with_queue b q x = record b { queues = upd b.queues q x }

abbrev pub with_note : Shelves → ℕ → Note → Shelves
with_note b k note = record b { notes = upd b.notes k note }

-- ---- stations

pub shelves_with_station : (w : World) (s : ℕ) (o : Option Station) →
    shelves (with_station w s o) ≡ with_spot (shelves w) s (spot o)
unfolding with_station
shelves_with_station w s o = ap (λ (f : ℕ → Spot). record (shelves w) { spots = f })
    (put_upd spot None w.stations s o)

map_spot : (f : Station → Station) → ((x : Station) → spot (Some (f x)) ≡ spot (Some x)) →
    (o : Option Station) → spot (option_map f o) ≡ spot o
map_spot f h None = refl
map_spot f h (Some x) = h x

-- A change of a station that does not change its spot.
pub shelves_hidden : (w : World) (s : ℕ) (f : Station → Station) →
    ((x : Station) → spot (Some (f x)) ≡ spot (Some x)) → shelves (on_station w s f) ≡ shelves w
unfolding on_station
shelves_hidden w s f h =
    shelves_with_station w s _ ∙ ap (λ (g : ℕ → Spot). record (shelves w) { spots = g })
    (upd_idle _ s _ (map_spot f h (at None w.stations s)))

tids_put : (x : Station) (t : ℕ) (y : Tid) → spot (Some (record x { tids = put no_tid x.tids t y }))
    ≡ record (spot (Some x)) { listed = upd (spot (Some x)).listed t (λ q. on (in_order y.queues) q) }
tids_put x t y = ap (λ (l : ℕ → ℕ → ℕ). record { live = true; listed = l })
    (put_upd {Y = ℕ → ℕ} (λ (z : Tid) (q : ℕ). on (in_order z.queues) q) no_tid x.tids t y)

pub shelves_on_tid : (w : World) (s t : ℕ) (f : Tid → Tid) → ((y : Tid) → (f y).queues ≡ y.queues) →
    shelves (on_tid w s t f) ≡ shelves w
unfolding on_tid
shelves_on_tid w s t f h = shelves_hidden w s _ (λ x.
    tids_put x t (f (at no_tid x.tids t)) ∙ ap (λ (l : ℕ → ℕ → ℕ). record { live = true; listed = l })
    (upd_idle (spot (Some x)).listed t _ (ap {B = ℕ → ℕ} (λ (r : Rotation) (q : ℕ). on (in_order r) q)
    (h (at no_tid x.tids t)))))

pub shelves_on_session : (w : World) (s t : ℕ) (f : Session → Session) →
    shelves (on_session w s t f) ≡ shelves w
unfolding on_session
shelves_on_session w s t f = shelves_on_tid w s t _ (λ y. refl)

pub shelves_on_receiver : (w : World) (s t : ℕ) (f : Receiver → Receiver) →
    shelves (on_receiver w s t f) ≡ shelves w
unfolding on_receiver
shelves_on_receiver w s t f = shelves_on_tid w s t _ (λ y. refl)

pub shelves_on_share : (w : World) (s : ℕ) (c : Class) (f : Share → Share) →
    shelves (on_share w s c f) ≡ shelves w
unfolding on_share
shelves_on_share w s c f = shelves_hidden w s _ (λ x. refl)

pub shelves_with_queues : (w : World) (s t : ℕ) (r : Rotation) → is_live w s ≡ true →
    shelves (with_queues w s t r) ≡ with_listed (shelves w) s t (λ q. on (in_order r) q)
unfolding with_queues on_tid on_station
shelves_with_queues w s t r live = shelves_with_station w s _
    ∙ ap (λ (z : Spot). with_spot (shelves w) s z) (go (at None w.stations s) live)
  where
    go : (o : Option Station) → is_some o ≡ true →
        spot (option_map (λ (x : Station). record
        x { tids = change no_tid x.tids t (λ y. record y { queues = r }) }) o)
        ≡ record (spot o) { listed = upd (spot o).listed t (λ q. on (in_order r) q) }
    go None e = absurd (cc e)
    go (Some x) e = tids_put x t (record (at no_tid x.tids t) { queues = r })

-- ---- queues and frames

pub shelves_on_queue : (w : World) (q : ℕ) (f : Queue → Queue) →
    shelves (on_queue w q f) ≡ with_queue (shelves w) q (f (queue w q))
unfolding on_queue
shelves_on_queue w q f = ap (λ (g : ℕ → Queue). record (shelves w) { queues = g })
    (put_upd (λ (y : Queue). y) new_queue w.queues q (f (queue w q)))

pub shelves_finish : (w : World) (fate : Fate) (id : ℕ) → shelves (with_frame_finished w fate id) ≡ shelves w
unfolding with_frame_finished with_fate
shelves_finish w fate id =
    ap (λ (g : ℕ → Note). record (shelves w) { notes = g })
    (put_upd (λ (x : Frame). x.note) no_frame w.frames id _
    ∙ upd_idle (λ k. (at no_frame w.frames k).note) id _ refl)

pub shelves_finish_all : (ids : List ℕ) (w : World) (fate : Fate) →
    shelves (with_frames_finished w fate ids) ≡ shelves w
unfolding with_frames_finished
shelves_finish_all [] w fate = refl
shelves_finish_all (id ∷ ids) w fate = shelves_finish_all ids _ fate ∙ shelves_finish w fate id

end_is : (fs : List Frame) (x : Frame) → at no_frame (fs ++ x ∷ []) (length fs) ≡ x
end_is [] x = refl
end_is (y ∷ fs) x = end_is fs x

end_other : (fs : List Frame) (x : Frame) (k : ℕ) → (k ≡ length fs → ⊥) →
    at no_frame (fs ++ x ∷ []) k ≡ at no_frame fs k
end_other [] x zero h = absurd (h refl)
end_other [] x (suc k) h = refl
end_other (y ∷ fs) x zero h = refl
end_other (y ∷ fs) x (suc k) h = end_other fs x k (λ e. h (ap suc e))

at_end : (fs : List Frame) (x : Frame) (k : ℕ) →
    (at no_frame (fs ++ x ∷ []) k).note ≡ upd (λ i. (at no_frame fs i).note) (length fs) x.note k
at_end fs x k = elim (cases_eq k (length fs)) [
  | inl e ↦ subst (λ (n : ℕ). (at no_frame (fs ++ x ∷ []) n).note
      ≡ upd (λ i. (at no_frame fs i).note) (length fs) x.note n) (sym e)
      (ap (λ (z : Frame). z.note) (end_is fs x)
      ∙ sym (upd_same (λ i. (at no_frame fs i).note) (length fs) x.note))
  | inr other ↦ ap (λ (z : Frame). z.note) (end_other fs x k other)
      ∙ sym (upd_other (λ i. (at no_frame fs i).note) (length fs) k x.note other)
]

pub shelves_with_frame : (w : World) (note : Note) →
    shelves (with_frame w note) ≡ with_note (shelves w) (accepted_count w) note
unfolding with_frame
shelves_with_frame w note = ap (λ (g : ℕ → Note). record (shelves w) { notes = g })
    (fun_ext (at_end w.frames _))

-- ---- giving quanta to queues

abbrev pub paid_queue : ℕ → ℕ → Queue → Queue
paid_queue quantum n y = record y { deficit = y.deficit +ℤ pos (n * quantum) }

abbrev pub all_paid : Shelves → (ℕ → ℕ) → List ℕ → Shelves
all_paid b quanta qs = record b {
  queues = λ q.
      paid_queue b.config.flow_quantum (on qs q * quanta q) (b.queues q);
}

paid_none : (quantum n : ℕ) (y : Queue) → n ≡ 0 → paid_queue quantum n y ≡ y
paid_none quantum n y e = let d : y.deficit +ℤ pos (0 * quantum) ≡ y.deficit = omega (arith, ints) in
    rw (e, d) refl

paid_twice : (quantum m n k : ℕ) (y : Queue) → n + m ≡ k →
    paid_queue quantum m (paid_queue quantum n y) ≡ paid_queue quantum k y
paid_twice quantum m n k y e =
    let d : (y.deficit +ℤ pos (n * quantum)) +ℤ pos (m * quantum) ≡ y.deficit +ℤ pos ((n + m) * quantum) =
    omega (arith, ints) in
    rw d (ap (λ (i : ℕ). paid_queue quantum i y) e)

one_more_times : (m n q : ℕ) → n ≡ 1 + m → q + m * q ≡ n * q
one_more_times m n q e = rw e (omega arith)

pub shelves_pay_queues : (qs : List ℕ) (w : World) (quanta : ℕ → ℕ) →
    shelves (with_queues_paid w quanta qs) ≡ all_paid (shelves w) quanta qs
unfolding with_queues_paid
shelves_pay_queues [] w quanta =
    ap (λ (g : ℕ → Queue). record (shelves w) { queues = g })
    (fun_ext (λ q. sym (paid_none w.config.flow_quantum _ (queue w q)
    (ap (λ (n : ℕ). n * quanta q) (on-nil q) ∙ omega arith))))
shelves_pay_queues (p ∷ qs) w quanta =
    shelves_pay_queues qs _ quanta ∙ (ap (λ (b : Shelves). all_paid b quanta qs) (shelves_on_queue w p _)
    ∙ ap (λ (g : ℕ → Queue). record (shelves w) { queues = g }) (fun_ext each))
  where
    each : (q : ℕ) → paid_queue w.config.flow_quantum (on qs q * quanta q)
        (upd (shelves w).queues p (paid_queue w.config.flow_quantum (quanta p) (queue w p)) q)
        ≡ paid_queue w.config.flow_quantum (on (p ∷ qs) q * quanta q) (queue w q)
    each q = elim (cases_eq p q) [
      | inl e ↦ subst (λ (z : ℕ). paid_queue w.config.flow_quantum (on qs z * quanta z)
          (upd (shelves w).queues p (paid_queue w.config.flow_quantum (quanta p) (queue w p)) z)
          ≡ paid_queue w.config.flow_quantum (on (p ∷ qs) z * quanta z) (queue w z)) e
          (ap (paid_queue w.config.flow_quantum (on qs p * quanta p)) (upd_same (shelves w).queues p _)
          ∙ paid_twice w.config.flow_quantum (on qs p * quanta p) (quanta p) (on (p ∷ qs) p * quanta p)
          (queue w p) (one_more_times (on qs p) (on (p ∷ qs) p) (quanta p) (on-cons_same p qs)))
      | inr other ↦
          ap (paid_queue w.config.flow_quantum (on qs q * quanta q))
          (upd_other (shelves w).queues p q _ (λ e. other (sym e)))
          ∙ ap (λ (n : ℕ). paid_queue w.config.flow_quantum (n * quanta q) (queue w q))
          (sym (on-cons_other p q qs other))
    ]

-- ---- changes that do not affect the shelves

shelves_if : (b : Bool) (x : Shelves) (w v : World) → shelves w ≡ x → shelves v ≡ x →
    shelves (if b then w else v) ≡ x
shelves_if true x w v h k = h
shelves_if false x w v h k = k

shelves_pay_stations : (ss : List ℕ) (w : World) (c : Class) (quanta : ℕ → ℕ) →
    shelves (with_stations_paid w c quanta ss) ≡ shelves w
unfolding with_stations_paid with_station_paid
shelves_pay_stations [] w c quanta = refl
shelves_pay_stations (s ∷ ss) w c quanta = shelves_pay_stations ss _ c quanta ∙ shelves_on_share w s c _

pub shelves_after_pick : (w : World) (c : Class) → shelves (after_pick w c) ≡ shelves w
unfolding after_pick with_rotation
shelves_after_pick w c = shelves_pay_stations _ w c _

pub shelves_picked : (w : World) (c : Class) (l : Limits) → shelves (picked_world w c l) ≡ shelves w
shelves_picked w c l = shelves_after_pick w c

pub shelves_after_turn : (w : World) (s : ℕ) (c : Class) (t : ℕ) →
    shelves (after_tid_turn w s c t) ≡ shelves w
unfolding after_tid_turn
shelves_after_turn w s c t = shelves_on_share w s c _

pub shelves_sent : (s t : ℕ) (c : Class) (p : Prepared) →
    shelves (send_outcome s t c p).world ≡ shelves p.world
unfolding send_outcome with_spent with_exchange_opened
shelves_sent s t c p = shelves_hidden _ s _ (λ x. refl)

shelves_failed : (w : World) (s t : ℕ) (m : Mpdu) → shelves (with_failed_finished w s t m) ≡ shelves w
unfolding with_failed_finished
shelves_failed w s t m = shelves_if _ (shelves w) _ _ (shelves_finish _ _ _) refl

shelves_settled : (end : End) (w : World) (s t : ℕ) (m : Mpdu) →
    shelves (with_settled w s t end m) ≡ shelves w
unfolding with_settled
shelves_settled End.Acknowledged w s t m = shelves_finish _ _ _ ∙ shelves_on_session w s t _
shelves_settled End.Missed w s t m = shelves_failed _ s t m ∙ shelves_on_session w s t _
shelves_settled End.GivenUp w s t m = shelves_failed _ s t m ∙ shelves_on_session w s t _
shelves_settled End.Unsent w s t m = shelves_failed _ s t m ∙ shelves_on_session w s t _

shelves_all_settled : (ms : List Mpdu) (w : World) (s t : ℕ) (ends : ℕ → End) →
    shelves (with_all_settled w s t ends ms) ≡ shelves w
unfolding with_all_settled
shelves_all_settled [] w s t ends = refl
shelves_all_settled (m ∷ ms) w s t ends = shelves_all_settled ms _ s t ends ∙ shelves_settled _ w s t m

pub shelves_caught_up : (w : World) (s t : ℕ) → shelves (caught_up_if_plain w s t) ≡ shelves w
unfolding caught_up
shelves_caught_up w s t = if_caught (λ v. shelves v ≡ shelves w) w s t refl
    (λ _. shelves_on_receiver _ s t _ ∙ shelves_on_session w s t _)

shelves_after_done : (content : Content) (w : World) (x : Exchange) (heard : Bool) →
    shelves (after_done w x heard content) ≡ shelves w
unfolding after_done
shelves_after_done (Frames mpdus) w x heard = shelves_caught_up _ _ _ ∙ shelves_all_settled mpdus w _ _ _
shelves_after_done (Request start) w x heard = shelves_on_session w _ _ _

pub shelves_ended : (air : Option ℕ) (w : World) (x : Exchange) (heard : Bool) →
    shelves (done_outcome w x heard air).world ≡ shelves w
unfolding done_outcome after_charge without_exchange
shelves_ended air w x heard = shelves_after_done x.content _ x heard ∙ shelves_on_share _ _ _ _

pub shelves_arrived : (w : World) (x : Exchange) (n : ℕ) → shelves (arrive_outcome w x n).world ≡ shelves w
unfolding arrive_outcome with_exchange
shelves_arrived w x n = shelves_on_receiver w _ _ _

pub shelves_answered : (w : World) (x : Exchange) → shelves (answer_outcome w x).world ≡ shelves w
unfolding answer_outcome with_exchange
shelves_answered w x = refl

pub shelves_marked : (w : World) (x : Exchange) (unsent given_up : List ℕ) →
    shelves (marked_world w x unsent given_up) ≡ shelves w
unfolding with_exchange
shelves_marked w x unsent given_up = refl

pub shelves_reaped : (ids : List ℕ) (w : World) → shelves (reap_outcome w ids).world ≡ shelves w
unfolding reap_outcome
shelves_reaped [] w = refl
shelves_reaped (id ∷ ids) w = refl

pub shelves_off_lists : (cs : List Class) (w : World) (s : ℕ) → shelves (without_listings w s cs) ≡ shelves w
unfolding without_listings with_rotation
shelves_off_lists [] w s = refl
shelves_off_lists (c ∷ cs) w s = shelves_off_lists cs _ s

shelves_listed_in_all : (cs : List Class) (w : World) (s : ℕ) → shelves (with_listings_in w s cs) ≡ shelves w
unfolding with_listings_in with_listing_in with_rotation
shelves_listed_in_all [] w s = refl
shelves_listed_in_all (c ∷ cs) w s = shelves_listed_in_all cs _ s ∙ shelves_if _ (shelves w) _ w refl refl

pub shelves_listed : (o : Option ℕ) (w : World) → shelves (with_listings_of w o) ≡ shelves w
unfolding with_listings_of
shelves_listed None w = refl
shelves_listed (Some s) w = shelves_listed_in_all all_classes w s

pub shelves_open : (o : Option Exchange) (w : World) (f : Exchange → Outcome) →
    ((x : Exchange) → shelves (f x).world ≡ shelves w) → shelves (outcome_where_open w o f).world ≡ shelves w
unfolding outcome_where_open
shelves_open None w f h = refl
shelves_open (Some x) w f h = h x

shelves_lowered : (cs : List Class) (w : World) (s : ℕ) → shelves (with_deficits_lowered w s cs) ≡ shelves w
unfolding with_deficits_lowered
shelves_lowered [] w s = refl
shelves_lowered (c ∷ cs) w s = shelves_lowered cs _ s ∙ shelves_on_share w s c _

pub shelves_weighed : (w : World) (s weight : ℕ) → shelves (weight_outcome w s weight).world ≡ shelves w
unfolding weight_outcome
shelves_weighed w s weight = shelves_lowered all_classes _ s ∙ shelves_hidden w s _ (λ x. refl)

-- ---- a TID is held or free, and its agreement begins or ends

pub shelves_held : (w : World) (s t : ℕ) → shelves (hold_outcome w s t).world ≡ shelves w
unfolding hold_outcome with_mode
shelves_held w s t = shelves_on_tid w s t _ (λ y. refl)

pub shelves_begun : (w : World) (s t window : ℕ) → shelves (begin_outcome w s t window).world ≡ shelves w
shelves_begun w s t window = ap shelves (begun_is w s t window) ∙ shelves_on_tid w s t _ (λ y. refl)

pub shelves_freed : (w : World) (s t : ℕ) → shelves (free_outcome w s t).world ≡ shelves w
unfolding free_outcome with_mode
shelves_freed w s t = shelves_on_tid w s t _ (λ y. refl)

shelves_numbers_ended : (w : World) (s t : ℕ) → shelves (after_numbers_ended w s t) ≡ shelves w
unfolding after_numbers_ended
shelves_numbers_ended w s t = shelves_finish_all _ _ _ ∙ shelves_on_session w s t _

pub shelves_ceased : (w : World) (s t : ℕ) → shelves (cease_outcome w s t).world ≡ shelves w
shelves_ceased w s t = ap shelves (ceased_is w s t) ∙ (shelves_on_tid _ s t _ (λ y. refl)
    ∙ shelves_numbers_ended w s t)
