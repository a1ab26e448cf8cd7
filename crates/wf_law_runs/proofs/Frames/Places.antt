-- Proves the law of places: each held frame is in exactly one place. By induction on the run.
use Rattle.std.proofs.Common.{◌++◌, ◌≡◌, ◌≢◌, refl, ap, sym, ◌∙◌, subst, arith, ℕ, ◌<◌, nat_lt, true, false, ◌==◌, inl, inr, List, [], ◌∷◌, map, take, Option, Some, None, IfSome, Bool}
use Rattle.wf_frame.specs.declared.settings.Config.{Config}
use Rattle.wf_frame.specs.Settings.{IsInRange}
use Rattle.wf_frame.specs.declared.classes.Class.{Class}
use Rattle.wf_frame.specs.declared.classes.Cause.TheVariants.{Overlimit, Left}
use Rattle.wf_frame.specs.declared.classes.Fate.TheVariants.{Dropped}
use Rattle.wf_frame.specs.declared.notes.Ask.TheVariants.{Join, Leave, Rate, Tick, Pull, Arrive, Answer, Done, Sleep, Wake, Poll, Rx, Reap, Ampdu, Stop, Start, Unsent, GiveUp, Flush, Offload, Weight, Plain, Hold, Begin, Free, Cease, Group, Service, Bss}
use Rattle.wf_frame.specs.declared.notes.Note.{Note}
use Rattle.wf_frame.specs.declared.notes.Note.TheVariants.{Enqueue, Asked}
use Rattle.wf_frame.specs.declared.notes.Refusal.{Refusal}
use Rattle.wf_frame.specs.declared.notes.Refusal.TheVariants.{Idle}
use Rattle.wf_frame.specs.Classes.{all_classes}
use Rattle.wf_def_lists.specs.Table.{at, has, upto, with_member}
use Rattle.wf_def_codel.specs.Codel.{Item}
use Rattle.wf_def_agreement.specs.Session.{Session, State, slot, is_settled, next_number, new_session}
use Rattle.wf_def_world.specs.World.{World, Mode, Queue, Station, Exchange, Frame, Share, new_queue, on_queue, on_receiver, on_tid, with_queues, with_rotation, rotation, no_frame, new_tid, queue, session, frame, accepted_count, exchange, with_station, on_station, on_share, with_exchange, opening}
use Rattle.wf_def_world.specs.Service.{station_served}
use Rattle.wf_def_world.specs.FlowQueues.{is_at_limit, longest_queue, without_head, after_limit, queue_for, after_put_in, after_queue_left, after_queues_left}
use Rattle.wf_def_world.specs.Exchanges.{after_arrival, after_pick}
use Rattle.wf_def_rotation.specs.Rotation.{in_order}
use Rattle.wf_def_world.specs.CanSend.{with_listing_in, with_listings_in, with_listings_of}
use Rattle.wf_def_world.specs.Refusals.{refusals, refusal, open_of_station}
use Rattle.wf_def_world.specs.Step.{Outcome, enqueue_outcome, join_outcome, after_tid_left, after_tids_left, without_listings, leave_outcome, rate_outcome, tick_outcome, sleep_outcome, wake_outcome, poll_outcome, rx_outcome, arrive_outcome, answer_outcome, unsent_outcome, give_up_outcome, reap_outcome, outcome_where_open, concerned_station, outcome_of, after_refusal, judged_outcome, step, offload_outcome, weight_outcome, plain_outcome, plain_window, new_station, with_deficits_lowered}
use Rattle.wf_def_world.specs.Run.{Entry, world_after}
use Rattle.wf_def_world.specs.Stretches.{world_at}
use Rattle.wf_law_runs.specs.Windows.{SomeOpen, IsSending}
use Rattle.wf_law_runs.specs.Releases.{named_by, named_from}
use Rattle.wf_law_runs.specs.Queues.{EachItem, IsFor, AreAtMost, IsAtMost}
use Rattle.wf_law_runs.specs.Places.{Place, Queued, Numbered, IsNumbered, StandsAt, StandsOnce, KeepsPlaces, PlaceLaw}
use Rattle.wf_law_rules.proofs.Lemmas.Numbers.{on_bool, on_if, eq_yes, eq_no, either}
use Rattle.wf_law_runs.proofs.Common.Refused.{after_idle}
use Rattle.wf_law_runs.proofs.Common.Marks.{marked_world}
use Rattle.wf_law_runs.proofs.Windows.Sides.{sided, Side, sides_of, Same, then_same, same_on_station, same_listed, same_after_pick, same_weighed}
use Rattle.wf_law_runs.proofs.Windows.Opened.{Each, eight, none_open, NoRow, no_row}
use Rattle.wf_law_runs.proofs.Windows.Agreed.{session_same, same_left_tids, same_off_lists}
use Rattle.wf_law_runs.proofs.Windows.Flying.{IsFlown_by, flown_by}
use Rattle.wf_law_runs.proofs.Releases.Released.{side_with_station, side_own_station}
use Rattle.wf_law_runs.proofs.Releases.Placed.{Placing}
use Rattle.wf_law_runs.proofs.Frames.Fewer.{carries}
use Rattle.wf_law_runs.proofs.Frames.Delivered.{same_enqueued}
use Rattle.wf_law_runs.proofs.Frames.Fates.{IsHeld, InQueue, AtSlot, InHand, Carries, Bears, bears_carried, ids_carried, Steady, steady_step, steady_first, IsFoundNamed, found_named, session_on_receiver}
use Rattle.wf_law_runs.proofs.Frames.Untouched.{untouched_on_queue, untouched_put_in, untouched_with_station, untouched_off_lists, untouched_on_station, untouched_on_receiver, untouched_after_pick, untouched_listed, untouched_weighed}
use Rattle.wf_law_runs.proofs.Frames.Owners.{BearsFrom, bears_refl, SlotsFrom, slots_same, then_slots, IsOwned, notes_frames, owned_along, owned_calm, owned_pulled, owned_ended, owned_flushed, owned_held, owned_begun, owned_freed, owned_ceased}
use Rattle.wf_law_runs.proofs.Frames.Covered.{Full, covers_calm, covers_pulled, queues_pay_stations}
use Rattle.wf_law_runs.proofs.Frames.CoveredStep.{IsQuiet, covers_enqueued, covers_ended, covers_gone, covers_joined, covers_flushed, covers_offloaded, covers_unagreed, covers_held, covers_begun, covers_freed, covers_ceased}
use Rattle.wf_law_runs.proofs.Deficits.Books.{upd_other}
use Rattle.wf_law_runs.proofs.Queues.Shelves.{Shelves, shelves, shelves_finish, shelves_finish_all, shelves_with_frame}
use Rattle.wf_law_runs.proofs.Queues.Shelved.{IsOf, IsShelved}
use Rattle.wf_law_runs.proofs.Queues.ShelvedStep.{accepted_limit, accepted_put, on_listed}
use Rattle.wf_law_runs.proofs.Queues.Law.{shelved_step, shelved_first, longest_in, within}
use Rattle.wf_def_lists.specs.Bounds.{greatest_window}

-- ---- the frames at unsettled numbers, in every call

notes_head : (items : List Item) (w : World) (q k : ℕ) →
    (frame (without_head w q items) k).note ≡ (frame w k).note
unfolding without_head
notes_head [] w q k = refl
notes_head (x ∷ rest) w q k = ap (λ (b : Shelves). b.notes k) (shelves_finish _ (Dropped Overlimit) x.id)
    ∙ ap (λ (fs : List Frame). (at no_frame fs k).note)
    (untouched_on_queue w q (λ y. record y { items = rest })).frames

notes_limit : (w : World) (k : ℕ) → (frame (after_limit w) k).note ≡ (frame w k).note
unfolding after_limit
notes_limit w k = on_if (λ (v : World). (frame v k).note ≡ (frame w k).note) (is_at_limit w)
    (without_head w (longest_queue w) (queue w (longest_queue w)).items) w
    (λ _. notes_head (queue w (longest_queue w)).items w (longest_queue w) k) (λ _. refl)

notes_enqueued : (l : List ℕ) (w : World) (s t flow len k : ℕ) → Placing l w → k < accepted_count w →
    (frame (enqueue_outcome w s t flow len).world k).note ≡ (frame w k).note
unfolding enqueue_outcome
notes_enqueued l w s t flow len k p below =
    let u : World = after_limit w in
    let q : ℕ = queue_for u s t flow in
    let x : Item = record { id = accepted_count w; stamp = w.clock; len = len } in
    let a : World = after_put_in u s t q x in
    let note : Note = Enqueue s t flow len in
    let same_id : accepted_count a ≡ accepted_count w = accepted_put u s t q x ∙ accepted_limit l w p in
    ap (λ (b : Shelves). b.notes k) (shelves_with_frame a note)
    ∙ (upd_other (shelves a).notes (accepted_count a) k note (λ e. omega (arith, e, below, same_id))
    ∙ (ap (λ (fs : List Frame). (at no_frame fs k).note) (untouched_put_in u s t q x).frames
    ∙ notes_limit w k))

owned_enqueued : (l : List ℕ) (w : World) (s t flow len : ℕ) → Placing l w → IsOwned w →
    IsOwned (enqueue_outcome w s t flow len).world
owned_enqueued l w s t flow len p o = record {
  mine = λ i j k n c.
      let d : Bears (session w i j) k n = subst (λ (y : Session). Bears y k n)
      (session_same w (enqueue_outcome w s t flow len).world (same_enqueued w s t flow len) i j) c in
      let old : k < accepted_count w = subst (λ (m : ℕ). m < accepted_count w) d.id
      (p.numbered i j n d.from d.below).old in
      let m = o.mine i j k n d in
      (subst (IsFor i j) (sym (notes_enqueued l w s t flow len k p old)) m.0, m.1);
}

slots_station : (w : World) (s : ℕ) (o : Option Station) →
    ((t : ℕ) → next_number (sides_of o t).session ≡ (sides_of o t).session.first) →
    SlotsFrom w (with_station w s o)
slots_station w s o bare = record {
  was = λ i t. on_bool (s == i)
      (λ own.
      let e : session (with_station w s o) i t ≡ (sides_of o t).session =
      ap (λ (j : ℕ). session (with_station w s o) j t) (sym (eq_yes s i own))
      ∙ ap (λ (b : Side). b.session) (side_own_station w s t o) in
      record {
        was = λ k n c. let d : Bears (sides_of o t).session k n =
            subst (λ (y : Session). Bears y k n) e c in absurd (omega (arith, bare t, d.from, d.below));
      })
      (λ other.
      let e : session (with_station w s o) i t ≡ session w i t =
      ap (λ (b : Side). b.session) (side_with_station w s i t o (eq_no s i other)) in
      subst (BearsFrom (session w i t)) (sym e) (bears_refl (session w i t)));
}

bare_zero : next_number (new_session 0 0) ≡ 0
bare_zero = omega arith

bare_new : (first size : ℕ) → next_number (new_session first size) ≡ first
bare_new first size = omega arith

owned_new : (w : World) (mode : Mode) (s window start exponent weight : ℕ) (offloaded : Bool) → IsOwned w →
    IsOwned (with_station w s (Some (new_station w.config mode window start exponent weight offloaded)))
owned_new w mode s window start exponent weight offloaded o =
    owned_along w (with_station w s _) (slots_station w s _
    (eight (λ y. next_number y.session ≡ y.session.first) (new_tid mode start window) (bare_new start window)
    (bare_new 0 0))) (notes_frames w (with_station w s _) (untouched_with_station w s _).frames) o

owned_joined : (w : World) (s window start exponent weight : ℕ) → IsOwned w →
    IsOwned (join_outcome w s window start exponent weight).world
unfolding join_outcome
owned_joined w s window start exponent weight o =
    owned_new w Mode.Agreed s window start exponent weight false o

owned_offloaded : (w : World) (s exponent weight : ℕ) → IsOwned w →
    IsOwned (offload_outcome w s exponent weight).world
unfolding offload_outcome
owned_offloaded w s exponent weight o = owned_new w Mode.Plain s greatest_window 0 exponent weight true o

owned_unagreed : (w : World) (s start exponent weight : ℕ) → IsOwned w →
    IsOwned (plain_outcome w s start exponent weight).world
unfolding plain_outcome
owned_unagreed w s start exponent weight o =
    owned_new w Mode.Plain s plain_window start exponent weight false o

notes_purge : (qs : List ℕ) (w : World) (k : ℕ) → (frame (after_queues_left w qs) k).note ≡ (frame w k).note
unfolding after_queues_left after_queue_left on_queue
notes_purge [] w k = refl
notes_purge (q ∷ qs) w k = notes_purge qs _ k
    ∙ ap (λ (b : Shelves). b.notes k) (shelves_finish_all _ _ (Dropped Left))

notes_left : (ts : List ℕ) (w : World) (s k : ℕ) → (frame (after_tids_left w s ts) k).note ≡ (frame w k).note
unfolding after_tids_left after_tid_left with_queues on_tid on_station with_station
notes_left [] w s k = refl
notes_left (t ∷ ts) w s k = notes_left ts _ s k
    ∙ (notes_purge _ _ k ∙ ap (λ (b : Shelves). b.notes k) (shelves_finish_all _ w (Dropped Left)))

owned_gone : (w : World) (s : ℕ) → IsOwned w → IsOwned (leave_outcome w s).world
unfolding leave_outcome
owned_gone w s o =
    let a : World = after_tids_left w s (upto 8) in
    let b : World = without_listings a s all_classes in
    let v : World = with_station b s None in
    owned_along w v
    (then_slots w b v (slots_same w b (session_same w b
    (then_same w a b (same_left_tids (upto 8) w s) (same_off_lists all_classes a s))))
    (slots_station b s None (λ t. bare_zero)))
    (record {
      same = λ k. ap (λ (fs : List Frame). (at no_frame fs k).note)
          ((untouched_with_station b s None).frames ∙ (untouched_off_lists all_classes a s).frames)
          ∙ notes_left (upto 8) w s k;
    }) o

-- ---- a station without open exchanges has no number on the air

none_some : (s t e n : ℕ) (xs : List Exchange) → Each (λ x. s ≢ x.station) xs →
    SomeOpen (IsSending s t e n) xs → ⊥
none_some s t e n [] h k = k
none_some s t e n (x ∷ xs) h k = elim k [ inl a ↦ h.0 (sym a.station) | inr b ↦ none_some s t e n xs h.1 b ]

quiet_of : (w : World) (s : ℕ) → IsFlown_by w → nat_lt 0 (open_of_station w s) ≡ false → IsQuiet s w
quiet_of w s f none = record { waits = λ t n k c. go t n k c (slot (session w s t) n).state refl }
  where
    go : (t n k : ℕ) → Carries (session w s t) k n → (st : State) → (slot (session w s t) n).state ≡ st →
        (slot (session w s t) n).state ≡ State.Waiting
    go t n k c State.Waiting e = e
    go t n k c (State.Flying x) e = absurd (none_some s t x n w.opened (none_open w.opened s none)
        (f.flown s t n x c.from e))
    go t n k c State.Acked e = absurd (cc (c.unsettled, ap is_settled e))
    go t n k c State.Failed e = absurd (cc (c.unsettled, ap is_settled e))

-- ---- the calls

-- The invariant of a world for this law.
pub record Stood (w : World) : Type 0 where
  pub owned : IsOwned w
  full : Full w

stood_calm : (w v : World) → Same w v → v.frames ≡ w.frames → v.queues ≡ w.queues → Stood w → Stood v
stood_calm w v k e d i = record {
  owned = owned_calm w v k e i.owned;
  full =
      covers_calm w v (λ q j h. ap (λ (qs : List Queue). carries (at new_queue qs q).items j) d ∙ h)
      (session_same w v k) e i.full;
}

queues_on_station : (w : World) (s : ℕ) (f : Station → Station) → (on_station w s f).queues ≡ w.queues
unfolding on_station with_station
queues_on_station w s f = refl

stood_station : (w : World) (s : ℕ) (f : Station → Station) →
    ((x : Station) (t : ℕ) → sided (f x) t ≡ sided x t) → Stood w →
    Stood (on_station w s f)
stood_station w s f g i = stood_calm w (on_station w s f) (same_on_station w s f g)
    (untouched_on_station w s f).frames (queues_on_station w s f) i

queues_lowered : (cs : List Class) (w : World) (s : ℕ) → (with_deficits_lowered w s cs).queues ≡ w.queues
unfolding with_deficits_lowered on_share
queues_lowered [] w s = refl
queues_lowered (c ∷ cs) w s = queues_lowered cs _ s ∙ queues_on_station w s _

queues_weighed : (w : World) (s weight : ℕ) → (weight_outcome w s weight).world.queues ≡ w.queues
unfolding weight_outcome
queues_weighed w s weight = queues_lowered all_classes _ s ∙ queues_on_station w s _

stood_weighed : (w : World) (s weight : ℕ) → Stood w → Stood (weight_outcome w s weight).world
stood_weighed w s weight i = stood_calm w _ (same_weighed w s weight) (untouched_weighed w s weight).frames
    (queues_weighed w s weight) i

stood_share : (w : World) (s : ℕ) (c : Class) (f : Share → Share) → Stood w → Stood (on_share w s c f)
unfolding on_share
stood_share w s c f i = stood_station w s _ (λ x t. refl) i

stood_plain : (w v : World) → v.stations ≡ w.stations → v.frames ≡ w.frames → v.queues ≡ w.queues → Stood w →
    Stood v
stood_plain w v a e d i =
    let s : (s t : ℕ) → session v s t ≡ session w s t =
    λ s t. ap (λ (x : List (Option Station)). (sides_of (at None x s) t).session) a in
    record {
      owned = owned_along w v (slots_same w v s) (notes_frames w v e) i.owned;
      full =
          covers_calm w v (λ q j h. ap (λ (qs : List Queue). carries (at new_queue qs q).items j) d ∙ h) s e
          i.full;
    }

all_queues_after_pick : (w : World) (c : Class) → (after_pick w c).queues ≡ w.queues
unfolding after_pick with_rotation
all_queues_after_pick w c = queues_pay_stations (in_order (rotation w c)) w c _

queues_listed_in_all : (cs : List Class) (w : World) (s : ℕ) → (with_listings_in w s cs).queues ≡ w.queues
unfolding with_listings_in with_listing_in with_rotation
queues_listed_in_all [] w s = refl
queues_listed_in_all (c ∷ cs) w s = queues_listed_in_all cs _ s
    ∙ on_if (λ (v : World). v.queues ≡ w.queues) _ _ w (λ _. refl) (λ _. refl)

queues_listed : (o : Option ℕ) (w : World) → (with_listings_of w o).queues ≡ w.queues
unfolding with_listings_of
queues_listed None w = refl
queues_listed (Some s) w = queues_listed_in_all all_classes w s

queues_kept : (w : World) (x : Exchange) (n q k : ℕ) → carries (queue w q).items k ≡ true →
    carries (queue (on_receiver w x.station x.tid (after_arrival x.content n)) q).items k ≡ true
unfolding on_receiver on_tid on_station with_station
queues_kept w x n q k h = h

stood_arrived : (w : World) (x : Exchange) (n : ℕ) → Stood w → Stood (arrive_outcome w x n).world
unfolding arrive_outcome with_exchange
stood_arrived w x n i =
    let s : (a b : ℕ) → session (on_receiver w x.station x.tid (after_arrival x.content n)) a b
    ≡ session w a b = session_on_receiver w x.station x.tid (after_arrival x.content n) in
    let e : (on_receiver w x.station x.tid (after_arrival x.content n)).frames ≡ w.frames =
    (untouched_on_receiver w x.station x.tid (after_arrival x.content n)).frames in
    record {
      owned = owned_along w _ (slots_same w _ s) (notes_frames w _ e) i.owned;
      full = covers_calm w _ (λ q j h. queues_kept w x n q j h) s e i.full;
    }

stood_answered : (w : World) (x : Exchange) → Stood w → Stood (answer_outcome w x).world
unfolding answer_outcome with_exchange
stood_answered w x i = stood_plain w _ refl refl refl i

stood_marked : (w : World) (x : Exchange) (unsent given_up : List ℕ) → Stood w →
    Stood (marked_world w x unsent given_up)
unfolding with_exchange
stood_marked w x unsent given_up i = stood_plain w _ refl refl refl i

stood_unsent : (w : World) (x : Exchange) (n : ℕ) → Stood w → Stood (unsent_outcome w x n).world
unfolding unsent_outcome
stood_unsent w x n i = stood_marked w x (with_member n x.unsent) x.given_up i

stood_given_up : (w : World) (x : Exchange) (n : ℕ) → Stood w → Stood (give_up_outcome w x n).world
unfolding give_up_outcome
stood_given_up w x n i = stood_marked w x x.unsent (with_member n x.given_up) i

stood_reaped : (ids : List ℕ) (w : World) → Stood w → Stood (reap_outcome w ids).world
unfolding reap_outcome
stood_reaped [] w i = i
stood_reaped (id ∷ ids) w i = stood_plain w _ refl refl refl i

stood_open : (P : Exchange → Type 0) (o : Option Exchange) (w : World) (f : Exchange → Outcome) → IfSome o P →
    Stood w → ((x : Exchange) → P x → Stood (f x).world) → Stood (outcome_where_open w o f).world
unfolding outcome_where_open
stood_open P None w f k i g = i
stood_open P (Some x) w f k i g = g x k

stood_done : (note : Note) (l : List ℕ) (most : ℕ) (w : World) (k : Steady l w) → NoRow (refusals w note) →
    IsFlown_by w → IsShelved most (shelves w) → Stood w → Stood (outcome_of w note).world
unfolding outcome_of tick_outcome rate_outcome sleep_outcome wake_outcome poll_outcome rx_outcome
stood_done (Enqueue s t flow len) l most w k r f h i =
    record {
      owned = owned_enqueued l w s t flow len k.placing i.owned;
      full =
          covers_enqueued l w s t flow len k.placing i.full;
    }
stood_done (Asked (Join s window start exponent weight)) l most w k r f h i =
    record {
      owned = owned_joined w s window start exponent weight i.owned;
      full =
          covers_joined w s window start exponent weight r.1.1.1.1.1.0 i.full;
    }
stood_done (Asked (Leave s)) l most w k r f h i =
    record {
      owned = owned_gone w s i.owned;
      full =
          covers_gone l w s k.placing (quiet_of w s f r.1.1.0) i.owned i.full;
    }
stood_done (Asked (Rate s rate)) l most w k r f h i = stood_station w s _ (λ x t. refl) i
stood_done (Asked (Tick by)) l most w k r f h i = stood_plain w _ refl refl refl i
stood_done (Asked (Pull c limits)) l most w k r f h i =
    record {
      owned = owned_pulled most w c limits k.lawful h i.owned;
      full =
          covers_pulled l w c limits k.lawful k.placing k.fresh i.full;
    }
stood_done (Asked (Arrive x n)) l most w k r f h i =
    stood_open (IsFoundNamed w k.lawful) (exchange w x) w _ (found_named w k.lawful k.labelled x) i
    (λ y g. stood_arrived w y n i)
stood_done (Asked (Answer x)) l most w k r f h i =
    stood_open (IsFoundNamed w k.lawful) (exchange w x) w _ (found_named w k.lawful k.labelled x) i
    (λ y g. stood_answered w y i)
stood_done (Asked (Done x heard air)) l most w k r f h i =
    stood_open (IsFoundNamed w k.lawful) (exchange w x) w _ (found_named w k.lawful k.labelled x) i
    (λ y g. record {
      owned = owned_ended air w k.lawful y heard g.found_one i.owned;
      full =
          covers_ended air l w k.lawful y heard g.found_one g.labels k.placing i.full;
    })
stood_done (Asked (Sleep s)) l most w k r f h i = stood_station w s _ (λ x t. refl) i
stood_done (Asked (Ampdu s octets)) l most w k r f h i = stood_station w s _ (λ x t. refl) i
stood_done (Asked (Stop s)) l most w k r f h i = stood_station w s _ (λ x t. refl) i
stood_done (Asked (Start s)) l most w k r f h i = stood_station w s _ (λ x t. refl) i
stood_done (Asked (Wake s)) l most w k r f h i = stood_station w s _ (λ x t. refl) i
stood_done (Asked (Poll s)) l most w k r f h i = stood_station w s _ (λ x t. refl) i
stood_done (Asked (Rx s c air)) l most w k r f h i = stood_share w s c _ i
stood_done (Asked Reap) l most w k r f h i = stood_reaped w.finished w i
stood_done (Asked (Group ask)) l most w k r f h i = stood_plain w _ refl refl refl i
stood_done (Asked (Service ask)) l most w k r f h i = stood_station w (station_served ask) _ (λ x t. refl) i
stood_done (Asked (Bss s b)) l most w k r f h i = stood_station w s _ (λ x t. refl) i
stood_done (Asked (Unsent x n)) l most w k r f h i =
    stood_open (IsFoundNamed w k.lawful) (exchange w x) w _ (found_named w k.lawful k.labelled x) i
    (λ y g. stood_unsent w y n i)
stood_done (Asked (GiveUp x n)) l most w k r f h i =
    stood_open (IsFoundNamed w k.lawful) (exchange w x) w _ (found_named w k.lawful k.labelled x) i
    (λ y g. stood_given_up w y n i)
stood_done (Asked (Flush s t)) l most w k r f h i =
    record { owned = owned_flushed w s t i.owned; full = covers_flushed l w s t k.placing i.full }
stood_done (Asked (Offload s exponent weight)) l most w k r f h i = record {
  owned = owned_offloaded w s exponent weight i.owned;
  full = covers_offloaded w s exponent weight r.1.1.1.0 i.full;
}
stood_done (Asked (Weight s weight)) l most w k r f h i = stood_weighed w s weight i
stood_done (Asked (Plain s start exponent weight)) l most w k r f h i = record {
  owned = owned_unagreed w s start exponent weight i.owned;
  full = covers_unagreed w s start exponent weight r.1.1.1.1.0 i.full;
}
stood_done (Asked (Hold s t)) l most w k r f h i =
    record { owned = owned_held w s t i.owned; full = covers_held w s t i.full }
stood_done (Asked (Begin s t window)) l most w k r f h i =
    record { owned = owned_begun w s t window i.owned; full = covers_begun w s t window i.full }
stood_done (Asked (Free s t)) l most w k r f h i =
    record { owned = owned_freed w s t i.owned; full = covers_freed w s t i.full }
stood_done (Asked (Cease s t)) l most w k r f h i =
    record { owned = owned_ceased w s t i.owned; full = covers_ceased l w s t k.placing i.full }

stood_refused : (note : Note) (r : Refusal) (w : World) → Stood w → Stood (after_refusal w note r)
unfolding after_refusal
stood_refused (Asked (Pull c l)) Idle w i = after_idle Stood w c i
    (stood_calm w (after_pick w c) (same_after_pick w c) (untouched_after_pick w c).frames
    (all_queues_after_pick w c) i)
stood_refused _ _ w i = i

stood_answer : (r : Option Refusal) (l : List ℕ) (most : ℕ) (w : World) (note : Note) (k : Steady l w) →
    refusal w note ≡ r → IsFlown_by w → IsShelved most (shelves w) → Stood w →
    Stood (judged_outcome w note r).world
unfolding judged_outcome
stood_answer (Some r) l most w note k e f h i = stood_refused note r w i
stood_answer None l most w note k e f h i =
    let u : World = (outcome_of w note).world in
    stood_calm u (with_listings_of u (concerned_station w note)) (same_listed (concerned_station w note) u)
    (untouched_listed (concerned_station w note) u).frames (queues_listed (concerned_station w note) u)
    (stood_done note l most w k (no_row (refusals w note) e) f h i)

stood_step : (l : List ℕ) (most : ℕ) (w : World) (note : Note) (k : Steady l w) → IsFlown_by w →
    IsShelved most (shelves w) → Stood w → Stood (step w note).world
unfolding step
stood_step l most w note k f h i = stood_answer (refusal w note) l most w note k refl f h i

-- ---- the run

pub record Standing (l : List ℕ) (most : ℕ) (w : World) : Type 0 where
  pub steady : Steady l w
  shelved : IsShelved most (shelves w)
  pub stood : Stood w

pub standing_step : (l : List ℕ) (most : ℕ) (w : World) (note : Note) → IsAtMost most note →
    Standing l most w → Standing (l ++ named_by (step w note).reply) most (step w note).world
standing_step l most w note short k = record {
  steady = steady_step l w note k.steady;
  shelved = shelved_step l most w note short k.steady.placing k.shelved;
  stood = stood_step l most w note k.steady (flown_by w k.steady.lawful) k.shelved k.stood;
}

standing_run : (h : List Entry) (l : List ℕ) (most : ℕ) (w : World) → AreAtMost most h → Standing l most w →
    Standing (named_from w l h) most (world_after w h)
unfolding world_after named_from
standing_run [] l most w short k = k
standing_run (e ∷ es) l most w short k = standing_run es _ most (step w e.1).world short.1
    (standing_step l most w e.1 short.0 k)

pub standing_first : (config : Config) (most : ℕ) → IsInRange config → Standing [] most (opening config)
unfolding world_after
standing_first config most range = record {
  steady = steady_first config;
  shelved = shelved_first config most range;
  stood = record {
    owned = record { mine = λ s t k n c. absurd (omega (arith, c.from, c.below)) };
    full = record { covers = λ k below e. absurd (omega (arith, below)) };
  };
}

pub standing : (config : Config) (h : List Entry) → IsInRange config →
    Standing (named_from (opening config) [] h) (longest_in h) (world_after (opening config) h)
standing config h range = standing_run h [] (longest_in h) (opening config) (within h)
    (standing_first config (longest_in h) range)

-- ---- the law

carried_for : (xs : List Item) (notes : ℕ → Note) (most s t k : ℕ) → EachItem (IsOf notes most s t) xs →
    carries xs k ≡ true → IsFor s t (notes k)
carried_for [] notes most s t k h c = absurd (cc c)
carried_for (x ∷ xs) notes most s t k h c = elim (either (x.id == k) (carries xs k) c) [
  | inl e ↦ subst (λ (n : ℕ). IsFor s t (notes n)) (eq_yes x.id k e) h.0.0
  | inr e ↦ carried_for xs notes most s t k h.1 e
]

in_queue_of : (w : World) (q k : ℕ) → has (map (λ x. x.id) (queue w q).items) k ≡ true →
    carries (queue w q).items k ≡ true
in_queue_of w q k h = sym (ids_carried (queue w q).items k) ∙ h

numbered_of : (w : World) (id s t n : ℕ) → IsNumbered w id s t n → Carries (session w s t) id n
numbered_of w id s t n i = record { from = i.from; below = i.below; unsettled = i.unsettled; id = i.carries }

stands_once : (l : List ℕ) (most : ℕ) (w : World) (id : ℕ) → Standing l most w → InHand w id → StandsOnce w id
stands_once l most w id k i = elim i [
  | inl c ↦ record {
    place = Queued c.place;
    stands = ids_carried (queue w c.place).items id ∙ c.there;
    only = λ p. only_queued p c;
    right = λ s t listing. carried_for (queue w c.place).items (shelves w).notes most s t id
        (k.shelved.mine s t c.place (on_listed _ c.place listing)) c.there;
  }
  | inr a ↦ record {
    place = Numbered a.station a.tid a.number;
    stands = record {
      from = a.slot_of.from;
      below = a.slot_of.below;
      carries = a.slot_of.id;
      unsettled =
          a.slot_of.unsettled;
    };
    only = λ p. only_numbered p a;
    right = (k.stood.owned.mine a.station a.tid id a.number (bears_carried _ _ _ a.slot_of)).0;
  }
]
  where
    p : Placing l w
    p = k.steady.placing

    only_queued : (r : Place) (c : InQueue w id) → StandsAt w id r → r ≡ Queued c.place
    only_queued (Queued q) c h =
        let a = (k.steady.placing.queued q id (in_queue_of w q id h)).place in
        let b = (k.steady.placing.queued c.place id c.there).place in
        let e : q ≡ c.place = cc (a, b) in ap Queued e
    only_queued (Numbered s t n) c h =
        let d : Carries (session w s t) id n = numbered_of w id s t n h in
        let a = (k.steady.placing.numbered s t n d.from d.below).place in
        let b = (k.steady.placing.queued c.place id c.there).place in
        absurd (cc (a, b, ap k.steady.placing.home d.id))

    only_numbered : (r : Place) (c : AtSlot w id) → StandsAt w id r → r ≡ Numbered c.station c.tid c.number
    only_numbered (Queued q) c h =
        let a = (k.steady.placing.queued q id (in_queue_of w q id h)).place in
        let b = (k.steady.placing.numbered c.station c.tid c.number c.slot_of.from c.slot_of.below).place in
        absurd (cc (a, b, ap k.steady.placing.home c.slot_of.id))
    only_numbered (Numbered s t n) c h =
        let d : Carries (session w s t) id n = numbered_of w id s t n h in
        let a = (k.steady.placing.numbered s t n d.from d.below).place in
        let b = (k.steady.placing.numbered c.station c.tid c.number c.slot_of.from c.slot_of.below).place in
        let ha = ap k.steady.placing.home d.id in
        let hb = ap k.steady.placing.home c.slot_of.id in
        let es : s ≡ c.station = cc (a, b, ha, hb) in
        let et : t ≡ c.tid = cc (a, b, ha, hb) in
        let en : n ≡ c.number = cc (a, b, ha, hb) in
        cc (es, et, en)

only_held_at : (l : List ℕ) (most : ℕ) (w : World) (id : ℕ) (r : Place) → Standing l most w →
    StandsAt w id r → (id < accepted_count w) × IsHeld w id
only_held_at l most w id (Queued q) k h =
    let c : carries (queue w q).items id ≡ true = in_queue_of w q id h in
    ((k.steady.placing.queued q id c).old, k.steady.fresh.held id (inl (record { place = q; there = c })))
only_held_at l most w id (Numbered s t n) k h =
    let d : Carries (session w s t) id n = numbered_of w id s t n h in (
      subst (λ (i : ℕ). i < accepted_count w) d.id (k.steady.placing.numbered s t n d.from d.below).old,
      k.steady.fresh.held id (inr (record { station = s; tid = t; number = n; slot_of = d })),
    )

keeps_places : (l : List ℕ) (most : ℕ) (w : World) → Standing l most w → KeepsPlaces w
keeps_places l most w k = record {
  held = λ id below h. stands_once l most w id k (k.stood.full.covers id below h);
  only_held = λ id r h. only_held_at l most w id r k h;
}

pub place_law : (config : Config) (h : List Entry) → IsInRange config → PlaceLaw config h
place_law config h range m = keeps_places _ (longest_in (take m h)) (world_at config h m)
    (standing config (take m h) range)
