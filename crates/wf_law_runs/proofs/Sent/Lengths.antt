-- Proves that queued frames and the frames of open exchanges have the lengths that their Enqueue calls
-- gave, in every world of a run. By cases of the call.
use Rattle.std.proofs.Common.{◌≡◌, refl, ap, sym, ◌∙◌, subst, arith, ℕ, zero, suc, ◌-◌, ◌<◌, ◌≤◌, Bool, true, false, if◌then◌else◌, not, ◌==◌, List, [], ◌∷◌, ◌++◌, append-nil, length, map, take, drop, Option, Some, None, IfSome}
use Rattle.std.proofs.lemmas.Bool.{not-false}
use Rattle.std.proofs.lemmas.List.{take-append-drop}
use Rattle.wf_frame.specs.declared.settings.Config.{Config}
use Rattle.wf_frame.specs.declared.classes.Class.{Class}
use Rattle.wf_frame.specs.declared.classes.Fate.TheVariants.{Dropped}
use Rattle.wf_frame.specs.declared.classes.Cause.TheVariants.{Left, Overlimit}
use Rattle.wf_frame.specs.declared.notes.Ask.TheVariants.{Join, Leave, Rate, Tick, Pull, Arrive, Answer, Done, Sleep, Wake, Poll, Rx, Reap, Ampdu, Stop, Start, Unsent, GiveUp, Flush, Offload, Weight, Plain, Hold, Begin, Free, Cease, Group, Service, Bss}
use Rattle.wf_frame.specs.declared.notes.Limits.{Limits}
use Rattle.wf_frame.specs.declared.notes.Note.{Note}
use Rattle.wf_frame.specs.declared.notes.Note.TheVariants.{Enqueue, Asked}
use Rattle.wf_frame.specs.declared.notes.Refusal.{Refusal}
use Rattle.wf_frame.specs.declared.notes.Refusal.TheVariants.{Idle}
use Rattle.wf_frame.specs.Classes.{all_classes}
use Rattle.wf_def_lists.specs.Table.{at, upto, greatest_upto, with_member}
use Rattle.wf_def_codel.specs.Codel.{Item, Dequeued, dequeue}
use Rattle.wf_def_codel.specs.CodelLoop.{dropping_first}
use Rattle.wf_def_rotation.specs.Rotation.{Rotation, has_key, with_new_key, in_order, no_keys}
use Rattle.wf_def_agreement.specs.Receiver.{score}
use Rattle.wf_def_agreement.specs.Session.{Session, slot, waiting_numbers, next_number, request_due}
use Rattle.wf_def_world.specs.World.{World, Station, Share, Queue, Exchange, Mpdu, new_queue, no_frame, Frame, len_of, session, tid_of, queue, is_live, accepted_count, exchange, codel_params, with_station, on_station, on_tid, on_receiver, on_share, on_queue, with_queues, with_frames_finished, with_exchange, without_exchange, receiver, opening}
use Rattle.wf_def_world.specs.Service.{station_served}
use Rattle.wf_def_world.specs.FlowQueues.{Taken, after_limit, is_at_limit, longest_queue, without_head, queue_for, with_appended, when_listed, with_listed_queue, after_put_in, with_queues_paid, after_dequeue, taken_by_codel, taken_from_picked, taken_for_tid, picked_queue, after_queue_left, after_queues_left}
use Rattle.wf_def_world.specs.CanSend.{can_give, can_send_in, with_listings_of}
use Rattle.wf_def_world.specs.Exchanges.{Aggregate, Prepared, most_frames, mpdus_of, mpdu_of, fits_in, picked_station, sending_tid, waiting_mpdus, longest_fitting, fresh_mpdus, with_number, with_fresh, aggregate_of, prepared_data, prepared_exchange, exchange_of, after_pick, after_tid_turn, with_exchange_opened, after_arrival, caught_up}
use Rattle.wf_def_world.specs.Refusals.{refusals, refusal}
use Rattle.wf_def_world.specs.Step.{Outcome, tick_outcome, rate_outcome, sleep_outcome, wake_outcome, poll_outcome, rx_outcome, join_outcome, waiting_ids, in_rising_order, after_tid_left, after_tids_left, leave_outcome, next_item, with_frame, enqueue_outcome, send_outcome, pull_outcome_for, pull_outcome, arrive_outcome, answer_outcome, unsent_outcome, give_up_outcome, flush_outcome, done_outcome, outcome_where_open, reap_outcome, outcome_of, concerned_station, after_refusal, judged_outcome, step, offload_outcome, weight_outcome, plain_outcome, hold_outcome, begin_outcome, free_outcome, cease_outcome}
use Rattle.wf_def_world.specs.Run.{Entry, world_after}
use Rattle.wf_law_runs.specs.Windows.{EachMpdu}
use Rattle.wf_law_runs.specs.Queues.{EachItem, IsAtMost, AreAtMost}
use Rattle.wf_law_rules.proofs.Lemmas.Dequeues.{each_dequeue}
use Rattle.wf_law_rules.proofs.Lemmas.Numbers.{on_if, or_left, or_right, yes_eq}
use Rattle.wf_law_rules.proofs.Lemmas.Tables.{each_put}
use Rattle.wf_law_runs.proofs.Common.Refused.{after_idle}
use Rattle.wf_law_runs.proofs.Common.Marks.{with_marks, marked_world}
use Rattle.wf_law_runs.proofs.Common.Flushes.{if_flushed}
use Rattle.wf_law_runs.proofs.Releases.Kept.{opened_flushed}
use Rattle.wf_law_runs.proofs.Deficits.Books.{upd, upd_same, upd_other, each_upd}
use Rattle.wf_law_runs.proofs.Frames.Delivered.{Labelled, prepared_right, opened_on_receiver, opened_ended, filtered}
use Rattle.wf_law_runs.specs.Releases.{named_by}
use Rattle.wf_law_runs.proofs.Common.Picked.{picked_world}
use Rattle.wf_law_runs.proofs.Frames.Fates.{Steady, steady_step, steady_first}
use Rattle.wf_law_runs.proofs.Frames.Fewer.{carries, less_within_limit}
use Rattle.wf_law_runs.proofs.Frames.Untouched.{untouched_put_in}
use Rattle.wf_law_runs.proofs.Queues.Shelved.{each_append as items_append}
use Rattle.wf_law_runs.proofs.Queues.ShelvedStep.{live_number, shelves_number, accepted_limit, accepted_put}
use Rattle.wf_law_runs.proofs.Queues.Shelves.{Shelves, spot, with_note, shelves, shelves_with_station, shelves_hidden, shelves_on_session, shelves_on_receiver, shelves_on_share, shelves_with_queues, shelves_on_queue, shelves_finish, shelves_finish_all, shelves_with_frame, shelves_pay_queues, shelves_after_pick, shelves_after_turn, shelves_sent, shelves_ended, shelves_off_lists, shelves_listed, shelves_picked, shelves_weighed, shelves_held, shelves_begun, shelves_freed, shelves_ceased}
use Rattle.wf_law_runs.proofs.Releases.Placed.{Any}
use Rattle.wf_law_runs.proofs.Sessions.Flights.{Rises}
use Rattle.wf_law_runs.proofs.Windows.Agreed.{IsLawful, IsOpenIn, each_map_if, lawful_same, winner_ready, same_left_tids, same_off_lists}
use Rattle.wf_law_runs.proofs.Windows.Opened.{Each, each_both, each_append, each_find, NoRow, no_row}
use Rattle.wf_law_runs.proofs.Windows.Sides.{sided, Same, then_same, same_on_station, same_on_share, same_with_queues, same_finish_all, same_listed, same_after_pick, same_after_turn, same_spent, same_within_limit, same_put_in, same_pay_queues, same_purge_queues, same_take, same_picked, same_weighed, opened_held, opened_begun, opened_freed, opened_ceased}

-- The frame has the length of its Enqueue. notes are the calls by id.
abbrev pub IsMeasured : (ℕ → Note) → Item → Type 0
IsMeasured notes x = len_of (notes x.id) ≡ x.len

abbrev pub AreMeasured : (ℕ → Note) → List Mpdu → Type 0
AreMeasured notes ms = EachMpdu (λ m. len_of (notes m.id) ≡ m.len) ms

-- The frames of each queue have the lengths of their Enqueue calls.
abbrev pub AllMeasured : (ℕ → Note) → Shelves → Type 0
AllMeasured notes b = (q : ℕ) → EachItem (IsMeasured notes) (b.queues q).items

-- ---- parts of queues

-- ys are some of the frames xs.
record IsRest (xs ys : List Item) : Type 0 where
  each : (notes : ℕ → Note) → EachItem (IsMeasured notes) xs → EachItem (IsMeasured notes) ys

rest_all : (xs : List Item) → IsRest xs xs
rest_all xs = record { each = λ notes h. h }

-- The frames that a dequeue leaves and the frame that it returns.
record IsLeft (xs : List Item) (d : Dequeued) : Type 0 where
  rest : IsRest xs d.rest
  given : (notes : ℕ → Note) → EachItem (IsMeasured notes) xs → IfSome d.given (IsMeasured notes)

left_more : (x : Item) (xs : List Item) (d : Dequeued) → IsLeft xs d → IsLeft (x ∷ xs) (dropping_first x d)
left_more x xs d h = record {
  rest = record { each = λ notes e. h.rest.each notes e.1 };
  given =
      λ notes e. h.given notes e.1;
}

left : (w : World) (s q : ℕ) → IsLeft (queue w q).items
    (dequeue (codel_params w s) w.clock (queue w q).codel (queue w q).items)
left w s q = each_dequeue IsLeft
    (λ c. record { rest = rest_all []; given = λ notes h. tt })
    (λ x xs c. record { rest = record { each = λ notes h. h.1 }; given = λ notes h. h.0 })
    left_more (queue w q).items (codel_params w s) w.clock (queue w q).codel

-- Between two worlds' shelves, no frame is added to a queue and none is accepted.
pub record Sifted (a b : Shelves) : Type 0 where
  notes : b.notes ≡ a.notes
  queues : (q : ℕ) → IsRest (a.queues q).items (b.queues q).items

sifted_here : (a : Shelves) → Sifted a a
sifted_here a = record { notes = refl; queues = λ q. rest_all (a.queues q).items }

sifted_is : (a b : Shelves) → b ≡ a → Sifted a b
sifted_is a b e = subst (Sifted a) (sym e) (sifted_here a)

then_sifted : (a b c : Shelves) → Sifted a b → Sifted b c → Sifted a c
then_sifted a b c h k = record {
  notes = k.notes ∙ h.notes;
  queues =
      λ q. record { each = λ notes e. (k.queues q).each notes ((h.queues q).each notes e) };
}

measured_sifted : (notes : ℕ → Note) (a b : Shelves) → Sifted a b → AllMeasured notes a → AllMeasured notes b
measured_sifted notes a b h k q = (h.queues q).each notes (k q)

sifted_on_queue : (w : World) (q : ℕ) (f : Queue → Queue) → IsRest (queue w q).items (f (queue w q)).items →
    Sifted (shelves w) (shelves (on_queue w q f))
sifted_on_queue w q f h =
    subst (Sifted (shelves w)) (sym (shelves_on_queue w q f))
    (record {
      notes = refl;
      queues = each_upd (λ p y. IsRest ((shelves w).queues p).items y.items)
          (shelves w).queues q (f (queue w q)) (λ p. rest_all ((shelves w).queues p).items) h;
    })

sifted_paid : (qs : List ℕ) (w : World) (quanta : ℕ → ℕ) →
    Sifted (shelves w) (shelves (with_queues_paid w quanta qs))
sifted_paid qs w quanta = subst (Sifted (shelves w)) (sym (shelves_pay_queues qs w quanta))
    (record { notes = refl; queues = λ q. rest_all (queue w q).items })

sifted_relisted : (w : World) (s t : ℕ) (r : Rotation) → is_live w s ≡ true →
    Sifted (shelves w) (shelves (with_queues w s t r))
sifted_relisted w s t r live = subst (Sifted (shelves w)) (sym (shelves_with_queues w s t r live))
    (record { notes = refl; queues = λ q. rest_all (queue w q).items })

-- ---- a take

sifted_dequeued : (w : World) (q : ℕ) (d : Dequeued) → IsRest (queue w q).items d.rest →
    Sifted (shelves w) (shelves (taken_by_codel w q d).world)
unfolding taken_by_codel
sifted_dequeued w q d h = then_sifted _ _ _ (sifted_on_queue w q (after_dequeue d) h)
    (sifted_is _ _ (shelves_finish_all _ _ _))

sifted_taken_from : (o : Option ℕ) (w : World) (s : ℕ) →
    Sifted (shelves w) (shelves (taken_from_picked w s o).world)
unfolding taken_from_picked
sifted_taken_from None w s = sifted_here (shelves w)
sifted_taken_from (Some q) w s = sifted_dequeued w q _ (left w s q).rest

given_dequeued : (notes : ℕ → Note) (w : World) (q : ℕ) (d : Dequeued) → IsLeft (queue w q).items d →
    AllMeasured notes (shelves w)
    → IfSome (taken_by_codel w q d).item (IsMeasured notes)
unfolding taken_by_codel
given_dequeued notes w q d h k = h.given notes (k q)

given_taken_from : (o : Option ℕ) (notes : ℕ → Note) (w : World) (s : ℕ) → AllMeasured notes (shelves w)
    → IfSome (taken_from_picked w s o).item (IsMeasured notes)
unfolding taken_from_picked
given_taken_from None notes w s k = tt
given_taken_from (Some q) notes w s k = given_dequeued notes w q _ (left w s q) k

-- The queues of a TID get quanta, and its lists change.
sifted_turned : (w : World) (s t : ℕ) (quanta : ℕ → ℕ) (r : Rotation) → is_live w s ≡ true
    → Sifted (shelves w) (shelves (with_queues (with_queues_paid w quanta (in_order (tid_of w s t).queues)) s
    t r))
sifted_turned w s t quanta r live =
    then_sifted _ _ _ (sifted_paid (in_order (tid_of w s t).queues) w quanta)
    (sifted_relisted _ s t r ((same_pay_queues (in_order (tid_of w s t).queues) w quanta).live s ∙ live))

sifted_take : (w : World) (s t : ℕ) → is_live w s ≡ true →
    Sifted (shelves w) (shelves (taken_for_tid w s t).world)
unfolding taken_for_tid
sifted_take w s t live = then_sifted _ _ _ (sifted_turned w s t (picked_queue w s t).quanta
    (picked_queue w s t).lists live) (sifted_taken_from (picked_queue w s t).winner _ s)

pub given_take : (notes : ℕ → Note) (w : World) (s t : ℕ) → is_live w s ≡ true → AllMeasured notes (shelves w)
    → IfSome (taken_for_tid w s t).item (IsMeasured notes)
unfolding taken_for_tid
given_take notes w s t live k =
    given_taken_from (picked_queue w s t).winner notes _ s
    (measured_sifted notes _ _ (sifted_turned w s t (picked_queue w s t).quanta
    (picked_queue w s t).lists live) k)

-- ---- an aggregate

mpdus_front : (P : Mpdu → Type 0) (xs ys : List Mpdu) → EachMpdu P (xs ++ ys) → EachMpdu P xs
mpdus_front P [] ys h = tt
mpdus_front P (x ∷ xs) ys h = (h.0, mpdus_front P xs ys h.1)

mpdus_append : (P : Mpdu → Type 0) (xs : List Mpdu) (m : Mpdu) → EachMpdu P xs → P m →
    EachMpdu P (xs ++ m ∷ [])
mpdus_append P [] m h k = (k, tt)
mpdus_append P (x ∷ xs) m h k = (h.0, mpdus_append P xs m h.1 k)

measured_numbers : (ns : List ℕ) (w : World) (s t : ℕ) →
    AreMeasured (shelves w).notes (map (mpdu_of w s t) ns)
measured_numbers [] w s t = tt
measured_numbers (n ∷ ns) w s t = (refl, measured_numbers ns w s t)

pub measured_waiting : (w : World) (s t : ℕ) → AreMeasured (shelves w).notes (waiting_mpdus w s t)
measured_waiting w s t = measured_numbers (waiting_numbers (session w s t)) w s t

measured_fitting : (notes : ℕ → Note) (ms : List Mpdu) (w : World) (s : ℕ) → AreMeasured notes ms →
    AreMeasured notes (longest_fitting w s ms)
unfolding longest_fitting
measured_fitting notes ms w s a =
    let n : ℕ = greatest_upto (λ k. fits_in w s (take k ms)) (length ms) in
    mpdus_front (λ m. len_of (notes m.id) ≡ m.len) (take n ms) (drop n ms)
    (subst (AreMeasured notes) (sym (take-append-drop n ms)) a)

measured_longer : (o : Option Item) (notes : ℕ → Note) (u : World) (s t : ℕ) (ms : List Mpdu) →
    IfSome o (IsMeasured notes)
    → AreMeasured notes ms → AreMeasured notes (ms ++ fresh_mpdus u s t o)
measured_longer None notes u s t ms h a = subst (AreMeasured notes) (sym (append-nil ms)) a
measured_longer (Some x) notes u s t ms h a =
    mpdus_append (λ m. len_of (notes m.id) ≡ m.len) ms
    (record { number = next_number (session u s t); id = x.id; len = x.len }) a h

-- b are the shelves before the aggregate.
record IsFilled (b : Shelves) (f : Aggregate) : Type 0 where
  sifted : Sifted b (shelves f.world)
  lens : AreMeasured b.notes f.mpdus

filled_if : (c : Bool) (b : Shelves) (x y : Aggregate) → IsFilled b x → IsFilled b y →
    IsFilled b (if c then x else y)
filled_if true b x y h k = h
filled_if false b x y h k = k

filled_fresh : (n : ℕ) (b : Shelves) (w : World) (s t : ℕ) (ms : List Mpdu) → is_live w s ≡ true →
    AllMeasured b.notes (shelves w)
    → Sifted b (shelves w) → AreMeasured b.notes ms → IsFilled b (with_fresh n w s t ms)
unfolding with_fresh
filled_fresh zero b w s t ms live k h a = record { sifted = h; lens = a }
filled_fresh (suc n) b w s t ms live k h a =
    let taken : Taken = taken_for_tid w s t in
    let v : World = with_number taken.world s t taken.item in
    let sift : Sifted (shelves w) (shelves v) = then_sifted _ _ _ (sifted_take w s t live)
    (sifted_is _ _ (shelves_number taken.item taken.world s t)) in
    let numbered : Sifted b (shelves v) = then_sifted _ _ _ h sift in
    let live_v : is_live v s ≡ true = live_number taken.item taken.world s t
    ∙ ((same_take w s t).live s ∙ live) in
    filled_if (not (can_give w s t)) b _ _ (record { sifted = h; lens = a })
    (filled_if _ b _ _
    (filled_fresh n b v s t _ live_v (measured_sifted b.notes (shelves w) (shelves v) sift k) numbered
    (measured_longer taken.item b.notes w s t ms (given_take b.notes w s t live k) a))
    (record { sifted = numbered; lens = a }))

filled : (w : World) (s t : ℕ) → is_live w s ≡ true → AllMeasured (shelves w).notes (shelves w) →
    IsFilled (shelves w) (aggregate_of w s t)
unfolding aggregate_of
filled w s t live k =
    let chosen : List Mpdu = longest_fitting w s (waiting_mpdus w s t) in
    let a : AreMeasured (shelves w).notes chosen =
    measured_fitting (shelves w).notes (waiting_mpdus w s t) w s (measured_waiting w s t) in
    filled_if (length chosen == length (waiting_mpdus w s t)) (shelves w)
    (with_fresh (most_frames w s - length chosen) w s t chosen) (record { world = w; mpdus = chosen })
    (filled_fresh (most_frames w s - length chosen) (shelves w) w s t chosen live k
    (sifted_here (shelves w)) a)
    (record { sifted = sifted_here (shelves w); lens = a })

-- The prepared exchange.
record IsReadied (b : Shelves) (p : Prepared) : Type 0 where
  sifted : Sifted b (shelves p.world)
  lens : AreMeasured b.notes (mpdus_of p.content)

readied_if : (c : Bool) (b : Shelves) (x y : Prepared) → IsReadied b x → IsReadied b y →
    IsReadied b (if c then x else y)
readied_if true b x y h k = h
readied_if false b x y h k = k

readied_data : (b : Shelves) (s t : ℕ) (f : Aggregate) → IsFilled b f → IsReadied b (prepared_data s t f)
unfolding prepared_data
readied_data b s t f h = record {
  sifted = then_sifted _ _ _ h.sifted
      (sifted_is _ _ (shelves_on_session f.world s t _));
  lens = h.lens;
}

readied : (w : World) (s t : ℕ) → is_live w s ≡ true → AllMeasured (shelves w).notes (shelves w) →
    IsReadied (shelves w) (prepared_exchange w s t)
unfolding prepared_exchange
readied w s t live k =
    readied_if (request_due (session w s t)) (shelves w) _ _
    (record { sifted = sifted_here (shelves w); lens = tt })
    (readied_data (shelves w) s t (aggregate_of w s t) (filled w s t live k))

-- ---- worlds

-- Queued frames and the frames of open exchanges have the lengths of their Enqueue calls, and no frame is
-- longer than `most`.
pub record IsStockedIn (most : ℕ) (b : Shelves) (xs : List Exchange) : Type 0 where
  pub short : (k : ℕ) → len_of (b.notes k) ≤ most
  pub measured : AllMeasured b.notes b
  pub lens : Each (λ x. AreMeasured b.notes (mpdus_of x.content)) xs

abbrev pub IsStocked : ℕ → World → Type 0
IsStocked most w = IsStockedIn most (shelves w) w.opened

stocked_sifted : (most : ℕ) (a b : Shelves) (xs ys : List Exchange) → Sifted a b → ys ≡ xs →
    IsStockedIn most a xs → IsStockedIn most b ys
stocked_sifted most a b xs ys h e i = record {
  short = subst (λ (notes : ℕ → Note). (k : ℕ) → len_of (notes k) ≤ most) (sym h.notes) i.short;
  measured = subst (λ (notes : ℕ → Note). AllMeasured notes b) (sym h.notes)
      (measured_sifted a.notes a b h i.measured);
  lens = subst (λ (notes : ℕ → Note). Each (λ x. AreMeasured notes (mpdus_of x.content)) ys) (sym h.notes)
      (subst (Each (λ x. AreMeasured a.notes (mpdus_of x.content))) (sym e) i.lens);
}

stocked_same : (most : ℕ) (w v : World) → shelves v ≡ shelves w → v.opened ≡ w.opened → IsStocked most w →
    IsStocked most v
stocked_same most w v e o i = stocked_sifted most (shelves w) (shelves v) w.opened v.opened
    (sifted_is _ _ e) o i

pub opened_sent : (s t : ℕ) (c : Class) (p : Prepared) →
    (send_outcome s t c p).world.opened ≡ p.world.opened ++ exchange_of s t c p ∷ []
unfolding send_outcome with_exchange_opened
opened_sent s t c p = (same_spent _ (exchange_of s t c p)).opened

stocked_sent : (most : ℕ) (s t : ℕ) (c : Class) (w : World) (p : Prepared) → p.world.opened ≡ w.opened →
    IsReadied (shelves w) p
    → IsStocked most w → IsStocked most (send_outcome s t c p).world
stocked_sent most s t c w p o r i =
    let x : Exchange = exchange_of s t c p in
    stocked_sifted most (shelves w) (shelves (send_outcome s t c p).world) (w.opened ++ x ∷ []) _
    (then_sifted _ _ _ r.sifted (sifted_is _ _ (shelves_sent s t c p)))
    (opened_sent s t c p ∙ ap (λ (xs : List Exchange). xs ++ x ∷ []) o)
    (record {
      short = i.short;
      measured = i.measured;
      lens =
          each_append (λ y. AreMeasured (shelves w).notes (mpdus_of y.content)) w.opened x i.lens r.lens;
    })

stocked_pulled_by : (most : ℕ) (o : Option ℕ) (w : World) (c : Class) →
    IfSome o (λ s. (is_live w s ≡ true) × (can_send_in w s c ≡ true))
    → IsLawful w → IsStocked most w → IsStocked most (pull_outcome_for w c o).world
unfolding pull_outcome_for
stocked_pulled_by most None w c ready l i = i
stocked_pulled_by most (Some s) w c ready l i =
    let t : ℕ = sending_tid w s c in
    let v : World = after_tid_turn w s c t in
    let k : Same w v = same_after_turn w s c t in
    let live : is_live v s ≡ true = k.live s ∙ ready.0 in
    let stocked : IsStocked most v = stocked_same most w v (shelves_after_turn w s c t) k.opened i in
    stocked_sent most s t c v (prepared_exchange v s t)
    (prepared_right v s t (lawful_same w v k l) live).opened (readied v s t live stocked.measured) stocked

stocked_pulled : (most : ℕ) (w : World) (c : Class) (limits : Limits) → IsLawful w → IsStocked most w →
    IsStocked most (pull_outcome w c limits).world
unfolding pull_outcome
stocked_pulled most w c limits l i =
    let k : Same w (picked_world w c limits) = same_picked w c limits in
    stocked_pulled_by most (picked_station w c).winner (picked_world w c limits) c (winner_ready w c limits)
    (lawful_same w (picked_world w c limits) k l) (stocked_same most w (picked_world w c limits)
    (shelves_picked w c limits) k.opened i)

-- ---- a station leaves

sifted_station : (w : World) (s : ℕ) (o : Option Station) → Sifted (shelves w) (shelves (with_station w s o))
sifted_station w s o = subst (Sifted (shelves w)) (sym (shelves_with_station w s o))
    (record { notes = refl; queues = λ q. rest_all (queue w q).items })

pub opened_station : (w : World) (s : ℕ) (o : Option Station) → (with_station w s o).opened ≡ w.opened
unfolding with_station
opened_station w s o = refl

sifted_left_queues : (qs : List ℕ) (w : World) → Sifted (shelves w) (shelves (after_queues_left w qs))
unfolding after_queues_left after_queue_left
sifted_left_queues [] w = sifted_here (shelves w)
sifted_left_queues (q ∷ qs) w = then_sifted _ _ _
    (then_sifted _ _ _ (sifted_on_queue w q _ (record { each = λ notes h. tt }))
    (sifted_is _ _ (shelves_finish_all _ _ _))) (sifted_left_queues qs _)

sifted_left_tids : (ts : List ℕ) (w : World) (s : ℕ) → is_live w s ≡ true →
    Sifted (shelves w) (shelves (after_tids_left w s ts))
unfolding after_tids_left after_tid_left
sifted_left_tids [] w s live = sifted_here (shelves w)
sifted_left_tids (t ∷ ts) w s live =
    let ids : List ℕ = waiting_ids (session w s t).slots in
    let qs : List ℕ = in_rising_order (in_order (tid_of w s t).queues) in
    let u : World = with_frames_finished w (Dropped Left) ids in
    let v : World = after_queues_left u qs in
    let emptied : Same w v = then_same w u v (same_finish_all ids w (Dropped Left))
    (same_purge_queues qs u) in
    let live_then : is_live v s ≡ true = emptied.live s ∙ live in
    let sift : Sifted (shelves w) (shelves v) = then_sifted (shelves w) (shelves u) (shelves v)
    (sifted_is _ _ (shelves_finish_all ids w (Dropped Left))) (sifted_left_queues qs u) in
    then_sifted _ _ _ (then_sifted _ _ _ sift (sifted_relisted v s t no_keys live_then))
    (sifted_left_tids ts _ s ((same_with_queues v s t no_keys).live s ∙ live_then))

sifted_gone : (w : World) (s : ℕ) → is_live w s ≡ true →
    Sifted (shelves w) (shelves (leave_outcome w s).world)
unfolding leave_outcome
sifted_gone w s live =
    then_sifted _ _ _ (then_sifted _ _ _ (sifted_left_tids (upto 8) w s live)
    (sifted_is _ _ (shelves_off_lists all_classes _ s))) (sifted_station _ s None)

pub opened_gone : (w : World) (s : ℕ) → (leave_outcome w s).world.opened ≡ w.opened
unfolding leave_outcome
opened_gone w s = opened_station _ s None ∙ (then_same _ _ _ (same_left_tids (upto 8) w s)
    (same_off_lists all_classes _ s)).opened

-- ---- a station joins

stocked_joined : (most : ℕ) (w : World) (s window start exponent weight : ℕ) → IsStocked most w
    → IsStocked most (join_outcome w s window start exponent weight).world
unfolding join_outcome
stocked_joined most w s window start exponent weight i =
    stocked_sifted most (shelves w) _ w.opened _ (sifted_station w s _) (opened_station w s _) i

stocked_offloaded : (most : ℕ) (w : World) (s exponent weight : ℕ) → IsStocked most w
    → IsStocked most (offload_outcome w s exponent weight).world
unfolding offload_outcome
stocked_offloaded most w s exponent weight i =
    stocked_sifted most (shelves w) _ w.opened _ (sifted_station w s _) (opened_station w s _) i

stocked_unagreed : (most : ℕ) (w : World) (s start exponent weight : ℕ) → IsStocked most w
    → IsStocked most (plain_outcome w s start exponent weight).world
unfolding plain_outcome
stocked_unagreed most w s start exponent weight i =
    stocked_sifted most (shelves w) _ w.opened _ (sifted_station w s _) (opened_station w s _) i

-- ---- a frame is accepted

sifted_head : (items : List Item) (w : World) (q : ℕ) → (queue w q).items ≡ items →
    Sifted (shelves w) (shelves (without_head w q items))
unfolding without_head
sifted_head [] w q e = sifted_here (shelves w)
sifted_head (x ∷ rest) w q e =
    then_sifted _ _ _ (sifted_on_queue w q (λ y. record y { items = rest })
    (subst (λ (ys : List Item). IsRest ys rest) (sym e) (record { each = λ notes h. h.1 })))
    (sifted_is _ _ (shelves_finish _ (Dropped Overlimit) x.id))

sifted_limit : (w : World) → Sifted (shelves w) (shelves (after_limit w))
unfolding after_limit
sifted_limit w =
    on_if (λ (v : World). Sifted (shelves w) (shelves v)) (is_at_limit w)
    (without_head w (longest_queue w) (queue w (longest_queue w)).items) w
    (λ _. sifted_head (queue w (longest_queue w)).items w (longest_queue w) refl)
    (λ _. sifted_here (shelves w))

-- The frame is appended to a queue.
measured_append : (notes : ℕ → Note) (w : World) (q : ℕ) (x : Item) → IsMeasured notes x →
    AllMeasured notes (shelves w)
    → AllMeasured notes (shelves (with_appended w q x))
unfolding with_appended on_queue
measured_append notes w q x h k =
    each_put (λ _ y. EachItem (IsMeasured notes) y.items) new_queue w.queues q
    (record (queue w q) { items = (queue w q).items ++ x ∷ [] }) k
    (items_append (IsMeasured notes) (queue w q).items x (k q) h)

measured_listed : (notes : ℕ → Note) (w : World) (s t q : ℕ) → AllMeasured notes (shelves w) →
    AllMeasured notes (shelves (with_listed_queue w s t q))
unfolding with_listed_queue with_queues on_queue on_tid on_station with_station
measured_listed notes w s t q k = go (has_key (tid_of w s t).queues q)
  where
    fresh : World
    fresh = on_queue w q (when_listed w.config)

    go : (b : Bool) → AllMeasured notes (shelves (if b then w
        else with_queues fresh s t (with_new_key (tid_of w s t).queues q)))
    go true = k
    go false = each_put (λ _ y. EachItem (IsMeasured notes) y.items) new_queue w.queues q
        (when_listed w.config (queue w q)) k (k q)

measured_put_in : (notes : ℕ → Note) (w : World) (s t q : ℕ) (x : Item) → IsMeasured notes x →
    AllMeasured notes (shelves w)
    → AllMeasured notes (shelves (after_put_in w s t q x))
unfolding after_put_in
measured_put_in notes w s t q x h k = measured_listed notes (with_appended w q x) s t q
    (measured_append notes w q x h k)

-- No queued frame has the next id.
items_noted : (xs : List Item) (notes : ℕ → Note) (c : ℕ) (note : Note) →
    ((k : ℕ) → carries xs k ≡ true → k < c)
    → EachItem (IsMeasured notes) xs → EachItem (IsMeasured (upd notes c note)) xs
items_noted [] notes c note old h = tt
items_noted (x ∷ xs) notes c note old h =
    let below : x.id < c = old x.id (or_left (x.id == x.id) (carries xs x.id) (yes_eq x.id x.id refl)) in (
      ap len_of (upd_other notes c x.id note (λ e. absurd (omega (arith, e, below)))) ∙ h.0,
      items_noted xs notes c note (λ k e. old k (or_right (x.id == k) (carries xs k) e)) h.1,
    )

-- No frame of an exchange has the next id.
mpdus_noted : (ms : List Mpdu) (notes : ℕ → Note) (c : ℕ) (note : Note) → EachMpdu (λ m. m.id < c) ms →
    AreMeasured notes ms → AreMeasured (upd notes c note) ms
mpdus_noted [] notes c note old h = tt
mpdus_noted (m ∷ ms) notes c note old h = (
  ap len_of
      (upd_other notes c m.id note (λ e. absurd (omega (arith, e, old.0)))) ∙ h.0,
  mpdus_noted ms notes c note old.1 h.1,
)

old_ids : (ms : List Mpdu) (y : Session) (c lo : ℕ) →
    ((n : ℕ) → y.first ≤ n → n < next_number y → (slot y n).id < c) → y.first ≤ lo
    → Rises lo (next_number y) ms → Labelled y ms → EachMpdu (λ m. m.id < c) ms
old_ids [] y c lo h b r a = tt
old_ids (m ∷ ms) y c lo h b r a = (
  subst (λ (k : ℕ). k < c) a.0 (h m.number (omega (arith, b, r.0)) r.1),
  old_ids ms y c (suc m.number) h (omega (arith, b, r.0)) r.2 a.1,
)

all_old : (l : List ℕ) (w : World) → Steady l w →
    Each (λ x. EachMpdu (λ m. m.id < accepted_count w) (mpdus_of x.content)) w.opened
all_old l w k =
    each_both (IsOpenIn w) (λ x. Labelled (session w x.station x.tid) (mpdus_of x.content))
    (λ x. EachMpdu (λ m. m.id < accepted_count w) (mpdus_of x.content)) w.opened
    (λ x o a. old_ids (mpdus_of x.content) (session w x.station x.tid) (accepted_count w)
    (session w x.station x.tid).first (λ n b e. (k.placing.numbered x.station x.tid n b e).old)
    (omega arith) o.opened.flies.rising a)
    k.lawful.opened k.labelled.labels

stocked_noted : (most : ℕ) (w : World) (a : World) (note : Note) → accepted_count a ≡ accepted_count w →
    a.opened ≡ w.opened
    → (shelves a).notes ≡ (shelves w).notes → AllMeasured (upd (shelves w).notes (accepted_count w) note)
    (shelves a)
    → Each (λ x. EachMpdu (λ m. m.id < accepted_count w) (mpdus_of x.content)) w.opened →
    Each (λ x. AreMeasured (shelves w).notes (mpdus_of x.content)) w.opened →
    ((k : ℕ) → len_of ((shelves w).notes k) ≤ most)
    → len_of note ≤ most → IsStocked most (with_frame a note)
unfolding with_frame
stocked_noted most w a note count opened notes measured old lens shorts short =
    let c : ℕ = accepted_count w in
    let new : ℕ → Note = upd (shelves w).notes c note in
    let is : shelves (with_frame a note) ≡ with_note (shelves a) c note =
    shelves_with_frame a note ∙ ap (λ (n : ℕ). with_note (shelves a) n note) count in
    subst (λ (b : Shelves). IsStockedIn most b a.opened) (sym is)
    (subst (λ (f : ℕ → Note). IsStockedIn most (record (shelves a) { notes = upd f c note }) a.opened)
    (sym notes)
    (record {
      short = each_upd (λ _ n. len_of n ≤ most) (shelves w).notes c note shorts short;
      measured = measured;
      lens = subst (Each (λ x. AreMeasured new (mpdus_of x.content))) (sym opened)
          (each_both (λ x. EachMpdu (λ m. m.id < c) (mpdus_of x.content))
          (λ x. AreMeasured (shelves w).notes (mpdus_of x.content))
          (λ x. AreMeasured new (mpdus_of x.content)) w.opened
          (λ x o h. mpdus_noted (mpdus_of x.content) (shelves w).notes c note o h) old lens);
    }))

opened_put : (w : World) (s t flow len : ℕ) →
    (after_put_in (after_limit w) s t (queue_for (after_limit w) s t flow) (next_item w len)).opened
    ≡ w.opened
opened_put w s t flow len = (then_same _ _ _ (same_within_limit w) (same_put_in _ s t _ _)).opened

notes_of : List Frame → ℕ → Note
notes_of frames k = (at no_frame frames k).note

stocked_enqueued : (most : ℕ) (l : List ℕ) (w : World) (s t flow len : ℕ) → len ≤ most → Steady l w →
    IsStocked most w
    → IsStocked most (enqueue_outcome w s t flow len).world
unfolding enqueue_outcome notes_of
stocked_enqueued most l w s t flow len short k i =
    let u : World = after_limit w in
    let q : ℕ = queue_for u s t flow in
    let x : Item = next_item w len in
    let a : World = after_put_in u s t q x in
    let note : Note = Enqueue s t flow len in
    let c : ℕ = accepted_count w in
    let new : ℕ → Note = upd (shelves w).notes c note in
    let limited : AllMeasured (shelves w).notes (shelves u) =
    measured_sifted (shelves w).notes (shelves w) (shelves u) (sifted_limit w) i.measured in
    let noted : AllMeasured new (shelves u) = λ p.
    items_noted (queue u p).items (shelves w).notes c note
    (λ j e. (k.placing.queued p j (((less_within_limit Any w).queues p).has j e)).old) (limited p) in
    stocked_noted most w a note (accepted_put u s t q x ∙ accepted_limit l w k.placing)
    (opened_put w s t flow len)
    (ap notes_of (untouched_put_in u s t q x).frames ∙ (sifted_limit w).notes)
    (measured_put_in new u s t q x (ap len_of (upd_same (shelves w).notes c note)) noted)
    (all_old l w k) i.lens i.short short

-- ---- exchanges change and end

-- An exchange is replaced by one with the same content.
stocked_with_exchange : (most : ℕ) (w v : World) (x z : Exchange) → shelves v ≡ shelves w
    → v.opened ≡ map (λ y. if y.number == z.number then z else y) w.opened →
    AreMeasured (shelves w).notes (mpdus_of z.content)
    → IsStocked most w → IsStocked most v
stocked_with_exchange most w v x z e o a i =
    let P : Exchange → Type 0 = λ y. AreMeasured (shelves w).notes (mpdus_of y.content) in
    stocked_sifted most (shelves w) (shelves v) (map (λ y. if y.number == z.number then z else y) w.opened)
    v.opened (sifted_is _ _ e) o
    (record {
      short = i.short;
      measured = i.measured;
      lens =
          each_map_if P P (λ y. y.number == z.number) z w.opened a (λ y _ h. h) i.lens;
    })

stocked_answered : (most : ℕ) (w : World) (x : Exchange) →
    AreMeasured (shelves w).notes (mpdus_of x.content) → IsStocked most w
    → IsStocked most (answer_outcome w x).world
unfolding answer_outcome with_exchange
stocked_answered most w x a i =
    let z : Exchange = record x { answer = Some (score (receiver w x.station x.tid)) } in
    stocked_with_exchange most w (record w {
      opened =
          map (λ y. if y.number == z.number then z else y) w.opened;
    }) x z refl refl a i

stocked_arrived : (most : ℕ) (w : World) (x : Exchange) (n : ℕ) →
    AreMeasured (shelves w).notes (mpdus_of x.content) → IsStocked most w
    → IsStocked most (arrive_outcome w x n).world
unfolding arrive_outcome with_exchange
stocked_arrived most w x n a i =
    let z : Exchange = record x { arrived = with_member n x.arrived } in
    let u : World = on_receiver w x.station x.tid (after_arrival x.content n) in
    stocked_with_exchange most w (record u {
      opened =
          map (λ y. if y.number == z.number then z else y) u.opened;
    }) x z
    (shelves_on_receiver w x.station x.tid _)
    (ap (map (λ y. if y.number == z.number then z else y))
    (opened_on_receiver w x.station x.tid (after_arrival x.content n))) a i

stocked_marked : (most : ℕ) (w : World) (x : Exchange) (unsent given_up : List ℕ) →
    AreMeasured (shelves w).notes (mpdus_of x.content) → IsStocked most w
    → IsStocked most (marked_world w x unsent given_up)
unfolding with_exchange
stocked_marked most w x unsent given_up a i =
    let z : Exchange = with_marks unsent given_up x in
    stocked_with_exchange most w (record w {
      opened =
          map (λ y. if y.number == z.number then z else y) w.opened;
    }) x z refl refl a i

stocked_unsent : (most : ℕ) (w : World) (x : Exchange) (n : ℕ) →
    AreMeasured (shelves w).notes (mpdus_of x.content) → IsStocked most w
    → IsStocked most (unsent_outcome w x n).world
unfolding unsent_outcome
stocked_unsent most w x n a i = stocked_marked most w x (with_member n x.unsent) x.given_up a i

stocked_given_up : (most : ℕ) (w : World) (x : Exchange) (n : ℕ) →
    AreMeasured (shelves w).notes (mpdus_of x.content) → IsStocked most w
    → IsStocked most (give_up_outcome w x n).world
unfolding give_up_outcome
stocked_given_up most w x n a i = stocked_marked most w x x.unsent (with_member n x.given_up) a i

shelves_caught : (w : World) (s t : ℕ) → shelves (caught_up w s t) ≡ shelves w
unfolding caught_up
shelves_caught w s t = shelves_on_receiver _ s t _ ∙ shelves_on_session w s t _

-- A flush removes frames from queues.
sifted_flushed : (w : World) (s t : ℕ) → Sifted (shelves w) (shelves (flush_outcome w s t).world)
sifted_flushed w s t = if_flushed (λ u. Sifted (shelves w) (shelves u))
    (record {
      finish = λ u id k. then_sifted _ _ _ k (sifted_is _ _ (shelves_finish u _ id));
      empty = λ u q k. then_sifted _ _ _ k (sifted_on_queue u q _ (record {
        each = λ notes h. tt;
      }));
    }) w s t (λ v k _. then_sifted _ _ _ k (sifted_is _ _ (shelves_caught v s t)))
    (sifted_is _ _ (shelves_on_session w s t _))

stocked_ended : (air : Option ℕ) (most : ℕ) (w : World) (x : Exchange) (heard : Bool) → IsStocked most w →
    IsStocked most (done_outcome w x heard air).world
stocked_ended air most w x heard i =
    stocked_sifted most (shelves w) (shelves (done_outcome w x heard air).world)
    (without_exchange w x.number).opened _ (sifted_is _ _ (shelves_ended air w x heard))
    (opened_ended air w x heard)
    (record {
      short = i.short;
      measured = i.measured;
      lens =
          filtered w x.number (λ y. AreMeasured (shelves w).notes (mpdus_of y.content)) i.lens;
    })

stocked_open : (most : ℕ) (P : Exchange → Type 0) (o : Option Exchange) (w : World) (f : Exchange → Outcome) →
    IfSome o P
    → ((x : Exchange) → P x → IsStocked most (f x).world) → IsStocked most w →
    IsStocked most (outcome_where_open w o f).world
unfolding outcome_where_open
stocked_open most P None w f p k i = i
stocked_open most P (Some x) w f p k i = k x p

measured_open : (most : ℕ) (w : World) (e : ℕ) → IsStocked most w →
    IfSome (exchange w e) (λ x. AreMeasured (shelves w).notes (mpdus_of x.content))
measured_open most w e i =
    let P : Exchange → Type 0 = λ x. AreMeasured (shelves w).notes (mpdus_of x.content) in
    each_find P P (λ x. x.number == e) w.opened (λ x _ h. h) i.lens

-- ---- the step

stocked_reaped : (most : ℕ) (ids : List ℕ) (w : World) → IsStocked most w →
    IsStocked most (reap_outcome w ids).world
unfolding reap_outcome
stocked_reaped most [] w i = i
stocked_reaped most (id ∷ ids) w i = record { short = i.short; measured = i.measured; lens = i.lens }

stocked_on_station : (most : ℕ) (w : World) (s : ℕ) (f : Station → Station) →
    ((x : Station) → spot (Some (f x)) ≡ spot (Some x))
    → ((x : Station) (t : ℕ) → sided (f x) t ≡ sided x t) →
    IsStocked most w
    → IsStocked most (on_station w s f)
stocked_on_station most w s f h k i = stocked_same most w (on_station w s f) (shelves_hidden w s f h)
    (same_on_station w s f k).opened i

stocked_on_share : (most : ℕ) (w : World) (s : ℕ) (c : Class) (f : Share → Share) → IsStocked most w →
    IsStocked most (on_share w s c f)
stocked_on_share most w s c f i = stocked_same most w (on_share w s c f) (shelves_on_share w s c f)
    (same_on_share w s c f).opened i

stocked_done : (most : ℕ) (note : Note) (l : List ℕ) (w : World) → NoRow (refusals w note) →
    IsAtMost most note → Steady l w
    → IsStocked most w → IsStocked most (outcome_of w note).world
unfolding outcome_of tick_outcome rate_outcome sleep_outcome wake_outcome poll_outcome rx_outcome
stocked_done most (Enqueue s t flow len) l w e a k i = stocked_enqueued most l w s t flow len a k i
stocked_done most (Asked (Join s window start exponent weight)) l w e a k i =
    stocked_joined most w s window start exponent weight i
stocked_done most (Asked (Leave s)) l w e a k i =
    stocked_sifted most (shelves w) _ w.opened _ (sifted_gone w s (not-false _ e.1.0)) (opened_gone w s) i
stocked_done most (Asked (Rate s rate)) l w e a k i =
    stocked_on_station most w s _ (λ x. refl) (λ x t. refl) i
stocked_done most (Asked (Tick by)) l w e a k i =
    record { short = i.short; measured = i.measured; lens = i.lens }
stocked_done most (Asked (Pull c limits)) l w e a k i = stocked_pulled most w c limits k.lawful i
stocked_done most (Asked (Arrive x n)) l w e a k i =
    stocked_open most (λ y. AreMeasured (shelves w).notes (mpdus_of y.content)) (exchange w x) w _
    (measured_open most w x i) (λ y b. stocked_arrived most w y n b i) i
stocked_done most (Asked (Answer x)) l w e a k i =
    stocked_open most (λ y. AreMeasured (shelves w).notes (mpdus_of y.content)) (exchange w x) w _
    (measured_open most w x i) (λ y b. stocked_answered most w y b i) i
stocked_done most (Asked (Done x heard air)) l w e a k i =
    stocked_open most (λ y. AreMeasured (shelves w).notes (mpdus_of y.content)) (exchange w x) w _
    (measured_open most w x i) (λ y _. stocked_ended air most w y heard i) i
stocked_done most (Asked (Sleep s)) l w e a k i = stocked_on_station most w s _ (λ x. refl) (λ x t. refl) i
stocked_done most (Asked (Ampdu s octets)) l w e a k i =
    stocked_on_station most w s _ (λ x. refl) (λ x t. refl) i
stocked_done most (Asked (Stop s)) l w e a k i = stocked_on_station most w s _ (λ x. refl) (λ x t. refl) i
stocked_done most (Asked (Start s)) l w e a k i = stocked_on_station most w s _ (λ x. refl) (λ x t. refl) i
stocked_done most (Asked (Wake s)) l w e a k i = stocked_on_station most w s _ (λ x. refl) (λ x t. refl) i
stocked_done most (Asked (Poll s)) l w e a k i = stocked_on_station most w s _ (λ x. refl) (λ x t. refl) i
stocked_done most (Asked (Rx s c air)) l w e a k i = stocked_on_share most w s c _ i
stocked_done most (Asked Reap) l w e a k i = stocked_reaped most w.finished w i
stocked_done most (Asked (Unsent x n)) l w e a k i =
    stocked_open most (λ y. AreMeasured (shelves w).notes (mpdus_of y.content)) (exchange w x) w _
    (measured_open most w x i) (λ y b. stocked_unsent most w y n b i) i
stocked_done most (Asked (GiveUp x n)) l w e a k i =
    stocked_open most (λ y. AreMeasured (shelves w).notes (mpdus_of y.content)) (exchange w x) w _
    (measured_open most w x i) (λ y b. stocked_given_up most w y n b i) i
stocked_done most (Asked (Flush s t)) l w e a k i =
    stocked_sifted most (shelves w) _ w.opened _ (sifted_flushed w s t) (opened_flushed w s t) i
stocked_done most (Asked (Offload s exponent weight)) l w e a k i =
    stocked_offloaded most w s exponent weight i
stocked_done most (Asked (Weight s weight)) l w e a k i =
    stocked_same most w (weight_outcome w s weight).world (shelves_weighed w s weight)
    (same_weighed w s weight).opened i
stocked_done most (Asked (Plain s start exponent weight)) l w e a k i =
    stocked_unagreed most w s start exponent weight i
stocked_done most (Asked (Hold s t)) l w e a k i =
    stocked_same most w (hold_outcome w s t).world (shelves_held w s t) (opened_held w s t) i
stocked_done most (Asked (Begin s t window)) l w e a k i =
    stocked_same most w (begin_outcome w s t window).world (shelves_begun w s t window)
    (opened_begun w s t window) i
stocked_done most (Asked (Free s t)) l w e a k i =
    stocked_same most w (free_outcome w s t).world (shelves_freed w s t) (opened_freed w s t) i
stocked_done most (Asked (Cease s t)) l w e a k i =
    stocked_same most w (cease_outcome w s t).world (shelves_ceased w s t) (opened_ceased w s t) i
stocked_done most (Asked (Group ask)) l w e a k i =
    record { short = i.short; measured = i.measured; lens = i.lens }
stocked_done most (Asked (Service ask)) l w e a k i =
    stocked_on_station most w (station_served ask) _ (λ x. refl) (λ x t. refl) i
stocked_done most (Asked (Bss s b)) l w e a k i =
    stocked_on_station most w s _ (λ x. refl) (λ x t. refl) i

stocked_refused : (most : ℕ) (note : Note) (r : Refusal) (w : World) → IsStocked most w →
    IsStocked most (after_refusal w note r)
unfolding after_refusal
stocked_refused most (Asked (Pull c l)) Idle w i = after_idle (IsStocked most) w c i
    (stocked_same most w (after_pick w c) (shelves_after_pick w c) (same_after_pick w c).opened i)
stocked_refused most _ _ w i = i

stocked_answer : (most : ℕ) (r : Option Refusal) (l : List ℕ) (w : World) (note : Note) → refusal w note ≡ r →
    IsAtMost most note
    → Steady l w → IsStocked most w → IsStocked most (judged_outcome w note r).world
unfolding judged_outcome
stocked_answer most (Some r) l w note e a k i = stocked_refused most note r w i
stocked_answer most None l w note e a k i =
    stocked_same most (outcome_of w note).world (with_listings_of (outcome_of w note).world
    (concerned_station w note)) (shelves_listed (concerned_station w note) (outcome_of w note).world)
    (same_listed (concerned_station w note) (outcome_of w note).world).opened
    (stocked_done most note l w (no_row (refusals w note) e) a k i)

pub stocked_step : (most : ℕ) (l : List ℕ) (w : World) (note : Note) → IsAtMost most note → Steady l w →
    IsStocked most w → IsStocked most (step w note).world
unfolding step
stocked_step most l w note a k i = stocked_answer most (refusal w note) l w note refl a k i

stocked_run : (most : ℕ) (h : List Entry) (l : List ℕ) (w : World) → AreAtMost most h → Steady l w →
    IsStocked most w → IsStocked most (world_after w h)
unfolding world_after
stocked_run most [] l w a k i = i
stocked_run most (e ∷ es) l w a k i =
    stocked_run most es (l ++ named_by (step w e.1).reply) (step w e.1).world a.1 (steady_step l w e.1 k)
    (stocked_step most l w e.1 a.0 k i)

pub stocked_first : (most : ℕ) (config : Config) → IsStocked most (opening config)
stocked_first most config = record { short = λ k. omega arith; measured = λ q. tt; lens = tt }

pub stocked : (most : ℕ) (config : Config) (h : List Entry) → AreAtMost most h →
    IsStocked most (world_after (opening config) h)
stocked most config h a = stocked_run most h [] (opening config) a (steady_first config)
    (stocked_first most config)
