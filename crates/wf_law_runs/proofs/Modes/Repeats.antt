-- Proves the law of repeated frames: a receiver takes the frame of a plain exchange for a repeated one
-- exactly if its number has arrived. A number that waits although it arrived was sent before, and one that
-- was sent before is less than 4096 above the last one that arrived. By cases of the call and induction on
-- the run.
use Rattle.std.proofs.Common.{◌≡◌, ◌≢◌, refl, ap, sym, ◌∙◌, subst, arith, ℕ, zero, suc, ◌+◌, ◌%◌, ◌<◌, ◌≤◌, ◌==◌, nat_lt, nat_le, Bool, true, false, if◌then◌else◌, not, ◌&&◌, ◌||◌, ◌⊎◌, inl, inr, List, [], ◌∷◌, ◌++◌, length, map, take, Option, Some, None, IfSome}
use Rattle.std.proofs.lemmas.Nat.{div-add-mod'}
use Rattle.wf_frame.specs.declared.settings.Config.{Config}
use Rattle.wf_frame.specs.Settings.{IsInRange}
use Rattle.wf_frame.specs.declared.classes.Class.{Class}
use Rattle.wf_frame.specs.declared.notes.Ask.TheVariants.{Join, Leave, Rate, Tick, Pull, Arrive, Answer, Done, Sleep, Wake, Poll, Rx, Reap, Ampdu, Stop, Start, Unsent, GiveUp, Flush, Offload, Weight, Hold, Begin, Free, Cease, Group, Service, Bss}
use Rattle.wf_frame.specs.declared.notes.Ask.TheVariants as call
use Rattle.wf_frame.specs.declared.notes.Limits.{Limits}
use Rattle.wf_frame.specs.declared.notes.Note.{Note}
use Rattle.wf_frame.specs.declared.notes.Note.TheVariants.{Enqueue, Asked}
use Rattle.wf_frame.specs.declared.notes.Refusal.{Refusal}
use Rattle.wf_frame.specs.Classes.{all_classes}
use Rattle.wf_def_lists.specs.Table.{at, has, with_member, upto}
use Rattle.wf_def_agreement.specs.Receiver.{Receiver, with_arrived, score}
use Rattle.wf_def_agreement.specs.Session.{Session, Slot, State, End, slot, on_slot, is_settled, start_of, next_number, with_number_given, after_flush, slot_flushed, with_state, is_failed}
use Rattle.wf_def_world.specs.World.{World, Station, Mode, Plain, Agreed, Exchange, Mpdu, Content, Frames, Request, new_tid, rotation, session, receiver, is_live, is_offloaded, is_agreed, is_plain, is_held_back, exchange, with_station, on_session, on_receiver, with_exchange, without_exchange, opening}
use Rattle.wf_def_world.specs.Service.{station_served}
use Rattle.wf_def_world.specs.CanSend.{is_request, is_ready, with_listings_of}
use Rattle.wf_def_world.specs.Exchanges.{Prepared, no_mpdu, transmissions, after_arrival, number_at, numbers_unsent, mpdus_of, station_need, picked_station, sending_tid, after_tid_turn, exchange_of, prepared_exchange, with_exchange_opened, with_flying, end_of, is_far, repeat_distance, with_settled, with_all_settled, with_failed_finished, caught_up, caught_up_if_plain, after_done}
use Rattle.wf_def_world.specs.Refusals.{refusals, refusal, open_of_station}
use Rattle.wf_def_world.specs.Step.{Outcome, new_station, join_outcome, offload_outcome, plain_outcome, plain_window, leave_outcome, rate_outcome, tick_outcome, pull_outcome_for, pull_outcome, arrive_outcome, answer_outcome, unsent_outcome, give_up_outcome, flush_outcome, done_outcome, outcome_where_open, sleep_outcome, wake_outcome, poll_outcome, rx_outcome, reap_outcome, begin_outcome, cease_outcome, concerned_station, outcome_of, after_refusal, judged_outcome, step}
use Rattle.wf_def_world.specs.Run.{Entry, world_after}
use Rattle.wf_def_world.specs.Stretches.{world_at}
use Rattle.wf_def_lists.specs.Bounds.{greatest_window}
use Rattle.wf_law_rules.proofs.Lemmas.Numbers.{Climbs, on_bool, lt_yes, lt_no, yes_lt, eq_yes, eq_no, yes_eq, not_eq, either, both, and_true, or_left, or_right, has_one, has_new}
use Rattle.wf_law_runs.specs.Windows.{EachMpdu, EachOpen, SomeOpen, IsSending}
use Rattle.wf_law_runs.specs.Modes.{twelve_bits, last_or, is_taken_for_repeat, was_sent, KnowsRepeats, RepeatLaw}
use Rattle.wf_law_runs.proofs.Common.Picked.{picked_world}
use Rattle.wf_law_runs.proofs.Common.Marks.{with_marks, marked_world}
use Rattle.wf_law_runs.proofs.Common.Ends.{slot_after_end, end_missed, end_not_unsent, on_settled}
use Rattle.wf_law_runs.proofs.Common.Flushes.{if_caught, if_flushed, slot_flush}
use Rattle.wf_law_runs.proofs.Sessions.Flights.{AllIn, Rises}
use Rattle.wf_law_runs.proofs.Windows.Sides.{Side, Same, sides_of, each_side_on, side_on, side_elsewhere, on_elsewhere, caught_up_is, told_start, slot_plain, same, then_same, same_listed, same_on_station, same_on_share, same_on_queue, same_weighed, same_held, same_freed, same_finish, same_charged, same_picked, same_after_turn, begun_is, begun_elsewhere, ceased_elsewhere, opened_begun, opened_ceased, off_begun, off_ceased, ceased_slot, ceased_first, same_after_pick, side}
use Rattle.wf_law_runs.proofs.Windows.Agreement.{IsAgreed, unsettled_ge, slot_other, next-on_slot}
use Rattle.wf_law_runs.proofs.Windows.Opened.{Each, each_map, each_both, each_append, each_filter, each_find, differ, some_along, pick_ready, left_true, eight, none_open, NoRow, no_row}
use Rattle.wf_law_runs.proofs.Windows.Senders.{none_sending, settled_flush}
use Rattle.wf_law_runs.proofs.Windows.Agreed.{IsLawful, IsOpenIn, IsReady, NoneOpen, lawful, lawful_step, lawful_done, lawful_same, lawful_at_first, session_same, none_of_tid, not_no, if_on, both_some, each_map_if, same_left_tids, same_off_lists}
use Rattle.wf_law_runs.proofs.Windows.Settling.{session_settled}
use Rattle.wf_law_runs.proofs.Releases.Kept.{Kept, kept_same, keep_plain, keep_pulled, keep_ended, keep_flushed, opened_flushed}
use Rattle.wf_law_runs.proofs.Releases.Released.{side_taken, side_untaken, off_taken, side_with_station, side_own_station, off_with_station}
use Rattle.wf_law_runs.proofs.Frames.Delivered.{IsPrepared, prepared_right, opened_ended, opened_on_receiver, same_enqueued}
use Rattle.wf_law_runs.proofs.Sent.Lengths.{opened_sent}
use Rattle.wf_law_runs.proofs.Kept.Pulls.{along_pull}
use Rattle.wf_law_runs.proofs.Modes.Law.{one_sent, plain_unagreed}
use Rattle.wf_law_runs.proofs.Modes.Tries.{acked_end, acked_end_most, AreTried, Moves, tried_moves, moves_refl, moves_equal, then_moves, moves_give, moves_fly, moves_flush, moves_heard, tried_ended}
use Rattle.wf_frame.specs.declared.notes.Refusal.TheVariants.{Idle}
use Rattle.wf_law_runs.proofs.Common.Refused.{after_idle}

-- ---- the invariant

-- A plain exchange: its one transmission has index 0, which is not both unsent and arrived. If its number has
-- arrived, the number was sent before or has arrived in this exchange.
pub record IsRepeatable (x : Exchange) (y : Session) (r : Receiver) : Type 0 where
  pub arrived : (j : ℕ) → has x.arrived j ≡ true → j ≡ 0
  pub unsent : (j : ℕ) → has x.unsent j ≡ true → j ≡ 0
  pub apart : has x.unsent 0 ≡ true → has x.arrived 0 ≡ false
  pub tried : EachMpdu (λ m. has r.arrived m.number ≡ true →
      (1 ≤ (slot y m.number).attempts) ⊎ (has x.arrived 0 ≡ true)) (mpdus_of x.content)

abbrev pub OpenIn : World → Exchange → Type 0
OpenIn w x = x.plain ≡ true → IsRepeatable x (session w x.station x.tid) (receiver w x.station x.tid)

-- The numbers and the open exchanges of each plain TID.
pub record Repeats (w : World) : Type 0 where
  pub tids : (s t : ℕ) → is_plain w s t ≡ true → AreTried (session w s t) (receiver w s t)
  pub opened : Each (OpenIn w) w.opened

-- ---- the law follows

-- The last of increasing numbers is the greatest.
last_greatest : (xs : List ℕ) (x lo n : ℕ) → Climbs lo (x ∷ xs) → has (x ∷ xs) n ≡ true → n ≤ last_or x xs
last_greatest [] x lo n c h = elim (either (x == n) false h) [
  | inl e ↦ omega (arith, eq_yes x n e)
  | inr e ↦ absurd (cc e)
]
last_greatest (z ∷ xs) x lo n c h = elim (either (x == n) (has (z ∷ xs) n) h) [
  | inl e ↦ (
      let up : z ≤ last_or z xs = last_greatest xs z (suc x) z c.1 (or_left (z == z) (has xs z)
      (yes_eq z z refl)) in
      let above : suc x ≤ z = c.1.0 in
      omega (arith, eq_yes x n e, up, above))
  | inr e ↦ last_greatest xs z (suc x) n c.1 e
]

last_has : (xs : List ℕ) (x : ℕ) → has (x ∷ xs) (last_or x xs) ≡ true
last_has [] x = or_left (x == x) false (yes_eq x x refl)
last_has (z ∷ xs) x = or_right (x == last_or z xs) (has (z ∷ xs) (last_or z xs)) (last_has xs z)

-- Numbers that are less than 4096 apart differ in twelve bits.
differ_on_air : (a b : ℕ) → a < b → b < a + 4096 → (a % twelve_bits == b % twelve_bits) ≡ false
differ_on_air a b l h = not_eq (a % twelve_bits) (b % twelve_bits)
    (λ e. absurd (omega (arith, l, h, e, div-add-mod' a 4096, div-add-mod' b 4096)))

-- A number that is at least all that arrived, and near the last one if it was sent before.
repeat_known : (xs : List ℕ) (n attempts : ℕ) → Climbs 0 xs → ((a : ℕ) → has xs a ≡ true → a ≤ n) →
    (has xs n ≡ true → 1 ≤ attempts) →
    ((x : ℕ) → has xs x ≡ true → ((a : ℕ) → has xs a ≡ true → a ≤ x) → 1 ≤ attempts → n < x + 4096) →
    is_taken_for_repeat xs (nat_lt 0 attempts) n ≡ has xs n
repeat_known [] n attempts c most tried near = refl
repeat_known (x ∷ xs) n attempts c most tried near =
    let last : ℕ = last_or x xs in
    let is : has (x ∷ xs) last ≡ true = last_has xs x in
    on_bool (has (x ∷ xs) n)
    (λ yes.
    let up : n ≤ last = last_greatest xs x 0 n c yes in
    let same_number : last ≡ n = omega (arith, up, most last is) in
    and_true (nat_lt 0 attempts) (last % twelve_bits == n % twelve_bits) (yes_lt 0 attempts (tried yes))
    (yes_eq _ _ (ap (λ (k : ℕ). k % twelve_bits) same_number)) ∙ sym yes)
    (λ no.
    let below : last < n = on_bool (nat_lt last n) (lt_yes last n)
    (λ e. absurd (other last is no (omega (arith, most last is, lt_no last n e)))) in
    on_bool (nat_lt 0 attempts)
    (λ sent. and_no (nat_lt 0 attempts) _ (differ_on_air last n below
    (near last is (λ a h. last_greatest xs x 0 a c h) (lt_yes 0 attempts sent))) ∙ sym no)
    (λ fresh. ap (λ (b : Bool). b && (last % twelve_bits == n % twelve_bits)) fresh ∙ sym no))
  where
    other : (k : ℕ) → has (x ∷ xs) k ≡ true → has (x ∷ xs) n ≡ false → k ≢ n
    other k h absent e = cc (h, ap (has (x ∷ xs)) e, absent)

    and_no : (a b : Bool) → b ≡ false → (a && b) ≡ false
    and_no true b h = h
    and_no false b h = refl

-- A plain exchange of which nothing has arrived.
knows_by : (w : World) (i : IsLawful w) (x : Exchange) (ms : List Mpdu) → IsOpenIn w x → Repeats w →
    x.plain ≡ true → length x.arrived ≡ 0 →
    Rises (session w x.station x.tid).first (next_number (session w x.station x.tid)) ms →
    AllIn (session w x.station x.tid) (State.Flying x.number) ms →
    EachMpdu (λ m. has (receiver w x.station x.tid).arrived m.number ≡ true →
    (1 ≤ (slot (session w x.station x.tid) m.number).attempts) ⊎ (has x.arrived 0 ≡ true)) ms →
    (has x.arrived 0 ≡ false) →
    EachMpdu (λ m. is_taken_for_repeat (receiver w x.station x.tid).arrived
    (was_sent (session w x.station x.tid) m.number) m.number
    ≡ has (receiver w x.station x.tid).arrived m.number) ms
knows_by w i x [] o k plain none r f t absent = tt
knows_by w i x (m ∷ ms) o k plain none r f t absent =
    let y : Session = session w x.station x.tid in
    let q : Receiver = receiver w x.station x.tid in
    let a : IsAgreed y q = i.agreed x.station x.tid in
    let is_plain_now : is_plain w x.station x.tid ≡ true = sym o.plain ∙ plain in
    let narrow : y.size ≤ 1 = (i.moded x.station x.tid).narrow is_plain_now in
    let low : start_of y ≤ m.number = unsettled_ge y m.number r.0 (ap is_settled f.0) in
    let h : AreTried y q = k.tids x.station x.tid is_plain_now in (
      repeat_known q.arrived m.number (slot y m.number).attempts a.rising
          (λ n e. omega (arith, (a.arrived n e).1, a.within.within, narrow, low))
          (λ e. elim (t.0 e) [ inl before ↦ before | inr here ↦ absurd (cc (here, absent)) ])
          (λ last e most sent.
          let close : m.number < acked_end y + repeat_distance =
          h.near m.number r.0 (ap is_settled f.0) sent in
          let past : acked_end y ≤ suc last = acked_end_most y (suc last) (omega (
            arith,
            (a.arrived last e).0,
          ))
          (λ n from below acked. omega (arith, most n (a.acked n from below acked))) in
          omega (arith, close, past)),
      knows_by w i x ms o k plain none (lower ms (session w x.station x.tid).first (suc m.number) _
          (omega (arith, r.0)) r.2) f.1 t.1 absent,
    )
  where
    lower : (ms : List Mpdu) (lo lo' hi : ℕ) → lo ≤ lo' → Rises lo' hi ms → Rises lo hi ms
    lower [] lo lo' hi l r = tt
    lower (m ∷ ms) lo lo' hi l r = (omega (arith, l, r.0), r.1, r.2)

none_arrived : (xs : List ℕ) → xs ≡ [] → has xs 0 ≡ false
none_arrived xs e = ap (λ (l : List ℕ). has l 0) e

knows : (w : World) → IsLawful w → Repeats w → (xs : List Exchange) → Each (IsOpenIn w) xs →
    Each (OpenIn w) xs → EachOpen (KnowsRepeats w) xs
knows w i k [] o e = tt
knows w i k (x ∷ xs) o e = (
  (λ plain none. knows_by w i x (mpdus_of x.content) o.0 k plain (ap length none) o.0.opened.flies.rising
      o.0.opened.flies.flying (e.0 plain).tried (none_arrived x.arrived none)),
  knows w i k xs o.1 e.1,
)

-- ---- worlds that differ little

-- The numbers of each session move, and nothing arrives.
record Along (w v : World) : Type 0 where
  moves : (s t : ℕ) → Moves (session w s t) (session v s t)

along_same : (w v : World) → Same w v → Along w v
along_same w v h = record { moves = λ s t. moves_equal _ _ (session_same w v h s t) }

then_along : (u v w : World) → Along u v → Along v w → Along u w
then_along u v w h k = record {
  moves = λ s t. then_moves (session u s t) (session v s t) (session w s t) (h.moves s t) (k.moves s t);
}

along_on_session : (w : World) (s t : ℕ) (f : Session → Session) → Moves (session w s t) (f (session w s t)) →
    Along w (on_session w s t f)
unfolding on_session
along_on_session w s t f h = record {
  moves = each_side_on (λ i j a. Moves (session w i j) a.session) w s t
      (λ y. record y { session = f y.session })
      (λ i j. moves_refl (session w i j)) h;
}

along_given : (w : World) (s t id : ℕ) → Along w (on_session w s t (λ y. with_number_given y id))
along_given w s t id = along_on_session w s t (λ y. with_number_given y id) (moves_give (session w s t) id)

along_flown : (w : World) (s t : ℕ) (ms : List Mpdu) → IsReady s t w ms →
    Along w (on_session w s t (with_flying w.exchanges ms))
along_flown w s t ms r =
    let y : Session = session w s t in
    along_on_session w s t (with_flying w.exchanges ms) (moves_fly ms y w.exchanges y.first (next_number y)
    (omega arith) r.chosen.rising r.chosen.waiting)

along_opening : (w : World) (x : Exchange) → Along w (with_exchange_opened w x)
unfolding with_exchange_opened
along_opening w x = record { moves = λ s t. moves_refl (session w s t) }

along_pulled : (w : World) (c : Class) (l : Limits) → IsLawful w → Along w (pull_outcome w c l).world
along_pulled = along_pull Along along_same then_along along_given along_flown along_opening

along_caught : (w : World) (s t : ℕ) → Along w (caught_up w s t)
along_caught w s t = subst (Along w) (sym (caught_up_is w s t)) (record {
  moves = each_side_on (λ i j a. Moves (session w i j) a.session) w s t (told_start (start_of
      (session w s t)))
      (λ i j. moves_refl (session w i j)) (moves_heard true (start_of (session w s t)) (session w s t));
})

along_caught_up : (w : World) (s t : ℕ) → Along w (caught_up_if_plain w s t)
along_caught_up w s t = if_caught (Along w) w s t (along_same w w (same w)) (λ _. along_caught w s t)

along_flushed : (w : World) (s t : ℕ) → Along w (flush_outcome w s t).world
along_flushed w s t = if_flushed (Along w)
    (record {
      finish = λ u id k. then_along w u _ k (along_same u _ (same_finish u _ id));
      empty = λ u q k. then_along w u _ k (along_same u _ (same_on_queue u q _));
    }) w s t (λ v k _. then_along w v _ k (along_caught v s t))
    (along_on_session w s t (after_flush w.config.attempts) (moves_flush w.config.attempts (session w s t)))

plain_kept : (w v : World) (s t : ℕ) → Kept w v → is_plain v s t ≡ is_plain w s t
plain_kept w v s t k = ap (λ (b : Bool). not (b || is_agreed v s t)) (k.offloaded s)
    ∙ ap (λ (b : Bool). not (is_offloaded w s || b)) (k.agreed s t)

-- The receiver's arrivals count, and nothing else of it.
tried_receiver : (y : Session) (r q : Receiver) → q.arrived ≡ r.arrived → AreTried y r → AreTried y q
tried_receiver y r q e h = record {
  tried = λ n l w a. h.tried n l w (ap (λ (xs : List ℕ). has xs n) (sym e) ∙ a);
  near = h.near;
}

tids_kept : (w v : World) → IsLawful w → Kept w v → Along w v → Repeats w → (s t : ℕ) →
    is_plain v s t ≡ true → AreTried (session v s t) (receiver v s t)
tids_kept w v i k a h s t plain =
    tried_receiver (session v s t) (receiver w s t) (receiver v s t) (k.receivers s t).arrived
    (tried_moves (session w s t) (session v s t) (receiver w s t) (λ n e. ((i.agreed s t).arrived n e).1)
    (a.moves s t) (h.tids s t (sym (plain_kept w v s t k) ∙ plain)))

-- The numbers of an exchange that is open before and after.
each_tried : (ms : List Mpdu) (y z : Session) (r q : Receiver) (e lo hi : ℕ) (P : Type 0) → y.first ≤ lo →
    hi ≤ next_number y → Rises lo hi ms → AllIn z (State.Flying e) ms → Moves y z → q.arrived ≡ r.arrived →
    EachMpdu (λ m. has r.arrived m.number ≡ true → (1 ≤ (slot y m.number).attempts) ⊎ P) ms →
    EachMpdu (λ m. has q.arrived m.number ≡ true → (1 ≤ (slot z m.number).attempts) ⊎ P) ms
each_tried [] y z r q e lo hi P l h c f m d t = tt
each_tried (k ∷ ms) y z r q e lo hi P l h c f m d t = (
  (λ a. elim (t.0 (ap (λ (xs : List ℕ). has xs k.number) (sym d) ∙ a)) [
    | inl b ↦ inl (omega (
      arith,
      b,
      m.rises k.number (omega (arith, l, c.0)) (omega (arith, h, c.1)) (ap is_settled f.0),
    ))
    | inr b ↦ inr b
  ]),
  each_tried ms y z r q e (suc k.number) hi P (omega (arith, l, c.0)) h c.2 f.1 m d t.1,
)

open_along : (w v : World) (x : Exchange) → Kept w v → Along w v → IsOpenIn w x → IsOpenIn v x → OpenIn w x →
    OpenIn v x
open_along w v x k a o p h plain =
    let b = h plain in
    record {
      arrived = b.arrived;
      unsent = b.unsent;
      apart = b.apart;
      tried = each_tried (mpdus_of x.content) (session w x.station x.tid) (session v x.station x.tid)
          (receiver w x.station x.tid) (receiver v x.station x.tid) x.number
          (session w x.station x.tid).first (next_number (session w x.station x.tid)) (has x.arrived 0 ≡ true)
          (omega arith) (omega arith)
          o.opened.flies.rising p.opened.flies.flying (a.moves x.station x.tid)
          (k.receivers x.station x.tid).arrived b.tried;
    }

three : (P N Q R : Exchange → Type 0) (xs : List Exchange) → ((x : Exchange) → P x → N x → Q x → R x) →
    Each P xs → Each N xs → Each Q xs → Each R xs
three P N Q R [] f p n q = tt
three P N Q R (x ∷ xs) f p n q = (f x p.0 n.0 q.0, three P N Q R xs f p.1 n.1 q.1)

-- No exchange opens or ends, and nothing arrives.
repeats_calm : (w v : World) → IsLawful w → IsLawful v → Kept w v → Along w v → v.opened ≡ w.opened →
    Repeats w → Repeats v
repeats_calm w v i j k a e h = record {
  tids = tids_kept w v i k a h;
  opened = subst (Each (OpenIn v)) (sym e) (three (IsOpenIn w) (IsOpenIn v) (OpenIn w) (OpenIn v) w.opened
      (λ x o p q. open_along w v x k a o p q) i.opened (subst (Each (IsOpenIn v)) e j.opened) h.opened);
}

repeats_same : (w v : World) → IsLawful w → IsLawful v → Same w v → Repeats w → Repeats v
repeats_same w v i j h k = repeats_calm w v i j (kept_same w v h) (along_same w v h) h.opened k

-- ---- pulls

-- A pull opens no exchange, or a new one.
record IsNew (w : World) (x : Exchange) : Type 0 where
  number : x.number ≡ w.exchanges
  arrived : x.arrived ≡ []
  unsent : x.unsent ≡ []

abbrev OpensNew : World → World → Type 0
OpensNew w v = (v.opened ≡ w.opened) ⊎ ((x : Exchange) × (v.opened ≡ w.opened ++ x ∷ []) × IsNew w x)

opens_by : (o : Option ℕ) (w u : World) (c : Class) → IfSome o (λ s. is_live u s ≡ true) → IsLawful u →
    Same w u → OpensNew w (pull_outcome_for u c o).world
unfolding pull_outcome_for
opens_by None w u c live i h = inl h.opened
opens_by (Some s) w u c live i h =
    let v : World = after_tid_turn u s c (sending_tid u s c) in
    let k : Same u v = same_after_turn u s c (sending_tid u s c) in
    let t : ℕ = sending_tid u s c in
    let p : Prepared = prepared_exchange v s t in
    let r : IsPrepared s t v p = prepared_right v s t (lawful_same u v k i) (k.live s ∙ live) in
    inr (
      exchange_of s t c p,
      opened_sent s t c p ∙ ap (λ (xs : List Exchange). xs ++ exchange_of s t c p ∷ [])
          (r.opened ∙ k.opened ∙ h.opened),
      record { number = r.exchanges ∙ k.exchanges ∙ h.exchanges; arrived = refl; unsent = refl },
    )

opens_pulled : (w : World) (c : Class) (l : Limits) → IsLawful w → OpensNew w (pull_outcome w c l).world
unfolding pull_outcome
opens_pulled w c l i =
    let k : Same w (picked_world w c l) = same_picked w c l in
    opens_by (picked_station w c).winner w (picked_world w c l) c
    (some_along (λ s. is_ready w c s ≡ true) (λ s. is_live (picked_world w c l) s ≡ true)
    (picked_station w c).winner (λ s g. k.live s ∙ left_true (is_live w s) _ g)
    (pick_ready (station_need w c) (is_ready w c) (rotation w c))) (lawful_same _ _ k i) k

-- A number that a new exchange sends waited before, or is new. If it arrived, it was sent before.
new_tried : (ms : List Mpdu) (y z : Session) (r q : Receiver) (e lo hi : ℕ) (P : Type 0) → z.first ≤ lo →
    Rises lo hi ms → AllIn z (State.Flying e) ms → Moves y z → q.arrived ≡ r.arrived →
    ((n : ℕ) → y.first ≤ n → (slot y n).state ≡ State.Flying e → ⊥) →
    ((n : ℕ) → has r.arrived n ≡ true → n < next_number y) → AreTried y r →
    EachMpdu (λ m. has q.arrived m.number ≡ true → (1 ≤ (slot z m.number).attempts) ⊎ P) ms
new_tried [] y z r q e lo hi P l c f m d none old h = tt
new_tried (k ∷ ms) y z r q e lo hi P l c f m d none old h = (
  (λ a.
      let n : ℕ = k.number in
      let was : has r.arrived n ≡ true = ap (λ (xs : List ℕ). has xs n) (sym d) ∙ a in
      let from : y.first ≤ n = omega (arith, l, c.0, m.first) in
      elim (m.flies n e from f.0) [
        | inl b ↦ absurd (none n from b)
        | inr (inl b) ↦ inl (omega (
          arith,
          h.tried n from b was,
          m.rises n from (old n was) (ap is_settled f.0),
        ))
        | inr (inr b) ↦ absurd (omega (arith, b, old n was))
      ]),
  new_tried ms y z r q e (suc k.number) hi P (omega (arith, l, c.0)) c.2 f.1 m d none old h,
)

last_of : (P : Exchange → Type 0) (xs : List Exchange) (x : Exchange) → Each P (xs ++ x ∷ []) → Each P xs ×
    P x
last_of P [] x e = (tt, e.0)
last_of P (z ∷ xs) x e = let r = last_of P xs x e.1 in ((e.0, r.0), r.1)

-- No number is on the air in an exchange that is not open yet.
not_yet : (w : World) → IsLawful w → (s t n : ℕ) → (session w s t).first ≤ n →
    (slot (session w s t) n).state ≡ State.Flying w.exchanges → ⊥
not_yet w i s t n from f = below_all w s t n w.opened i.opened (i.sent s t refl n w.exchanges from f)
  where
    below_all : (w : World) (s t n : ℕ) (xs : List Exchange) → Each (IsOpenIn w) xs →
        SomeOpen (IsSending s t w.exchanges n) xs → ⊥
    below_all w s t n [] o k = k
    below_all w s t n (x ∷ xs) o k = elim k [
      | inl a ↦ absurd (omega (arith, a.number, o.0.below))
      | inr b ↦ below_all w s t n xs o.1 b
    ]

repeats_pulled : (w : World) (c : Class) (l : Limits) → IsLawful w → IsLawful (pull_outcome w c l).world →
    Repeats w → Repeats (pull_outcome w c l).world
repeats_pulled w c l i j h =
    let v : World = (pull_outcome w c l).world in
    let k : Kept w v = keep_pulled w c l in
    let a : Along w v = along_pulled w c l i in
    elim (opens_pulled w c l i) [
      | inl e ↦ repeats_calm w v i j k a e h
      | inr n ↦
          let x : Exchange = n.0 in
          let split = last_of (IsOpenIn v) w.opened x (subst (Each (IsOpenIn v)) n.1 j.opened) in
          record {
            tids = tids_kept w v i k a h;
            opened = subst (Each (OpenIn v)) (sym n.1) (each_append (OpenIn v) w.opened x
                (three (IsOpenIn w) (IsOpenIn v) (OpenIn w) (OpenIn v) w.opened
                (λ x o p q. open_along w v x k a o p q) i.opened split.0 h.opened)
                (λ plain.
                let was : is_plain w x.station x.tid ≡ true =
                sym (plain_kept w v x.station x.tid k) ∙ sym split.1.plain ∙ plain in
                record {
                  arrived = λ m d. absurd (cc (ap (λ (ns : List ℕ). has ns m) n.2.arrived, d));
                  unsent = λ m d. absurd (cc (ap (λ (ns : List ℕ). has ns m) n.2.unsent, d));
                  apart = λ d. absurd (cc (ap (λ (ns : List ℕ). has ns 0) n.2.unsent, d));
                  tried = new_tried (mpdus_of x.content) (session w x.station x.tid)
                      (session v x.station x.tid) (receiver w x.station x.tid) (receiver v x.station x.tid)
                      x.number (session v x.station x.tid).first (next_number (session v x.station x.tid))
                      (has x.arrived 0 ≡ true)
                      (omega arith) split.1.opened.flies.rising split.1.opened.flies.flying
                      (a.moves x.station x.tid) (k.receivers x.station x.tid).arrived
                      (λ m from f. not_yet w i x.station x.tid m from (f ∙ ap State.Flying n.2.number))
                      (λ m d. ((i.agreed x.station x.tid).arrived m d).1) (h.tids x.station x.tid was);
                }));
          }
    ]

-- ---- exchanges change

-- The exchange z, a copy of x with other marks or an answer, takes the place of x.
repeats_replaced : (w : World) (z : Exchange) → OpenIn w z → Repeats w →
    Each (OpenIn w) (map (λ y. if y.number == z.number then z else y) w.opened)
repeats_replaced w z o h = each_map_if (OpenIn w) (OpenIn w) (λ y. y.number == z.number) z w.opened o
    (λ y _ k. k) h.opened

repeats_answered : (w : World) (x : Exchange) → OpenIn w x → Repeats w → Repeats (answer_outcome w x).world
unfolding answer_outcome with_exchange
repeats_answered w x o h =
    let z : Exchange = record x { answer = Some (score (receiver w x.station x.tid)) } in
    record {
      tids = h.tids;
      opened = each_map (OpenIn w) (OpenIn (with_exchange w z))
          (map (λ y. if y.number == z.number then z else y) w.opened) (λ y k. k)
          (repeats_replaced w z (λ plain. let b = o plain in record {
            arrived = b.arrived;
            unsent = b.unsent;
            apart = b.apart;
            tried = b.tried;
          }) h);
    }

repeats_marked : (w : World) (x : Exchange) (unsent given_up : List ℕ) →
    (x.plain ≡ true → (j : ℕ) → has unsent j ≡ true → j ≡ 0) →
    (x.plain ≡ true → has unsent 0 ≡ true → has x.arrived 0 ≡ false) → OpenIn w x → Repeats w →
    Repeats (marked_world w x unsent given_up)
unfolding with_exchange
repeats_marked w x unsent given_up low apart o h =
    let z : Exchange = with_marks unsent given_up x in
    record {
      tids = h.tids;
      opened = each_map (OpenIn w) (OpenIn (with_exchange w z))
          (map (λ y. if y.number == z.number then z else y) w.opened) (λ y k. k)
          (repeats_replaced w z (λ plain. let b = o plain in record {
            arrived = b.arrived;
            unsent = low plain;
            apart = apart plain;
            tried = b.tried;
          }) h);
    }

not_le : (a b : ℕ) → nat_le a b ≡ false → b < a
not_le a b e = grind arith

-- An index of a plain exchange is 0.
index_zero : (w : World) (x : Exchange) (n : ℕ) → IsLawful w → IsOpenIn w x → x.plain ≡ true →
    nat_le (transmissions x.content) n ≡ false → n ≡ 0
index_zero w x n i o plain l = go x.content refl l
  where
    go : (c : Content) → x.content ≡ c → nat_le (transmissions c) n ≡ false → n ≡ 0
    go (Frames ms) e l =
        let few : length ms ≤ 1 = subst (λ (d : Content). length (mpdus_of d) ≤ 1) e
        (one_sent w x i o plain) in
        omega (arith, few, not_le (length ms) n l)
    go (Request f) e l = omega (arith, not_le 1 n l)

repeats_unsent : (w : World) (i : IsLawful w) (x : Exchange) (n : ℕ) → IsOpenIn w x → OpenIn w x →
    nat_le (transmissions x.content) n ≡ false → has x.arrived n ≡ false → Repeats w →
    Repeats (unsent_outcome w x n).world
unfolding unsent_outcome
repeats_unsent w i x n o p l absent h = repeats_marked w x (with_member n x.unsent) x.given_up
    (λ plain j d. elim (has_one x.unsent n j d) [
      | inl e ↦ (let zero_here : n ≡ 0 = index_zero w x n i o plain l in omega (arith, e, zero_here))
      | inr old ↦ (p plain).unsent j old
    ])
    (λ plain _. subst (λ (k : ℕ). has x.arrived k ≡ false) (index_zero w x n i o plain l) absent) p h

repeats_given_up : (w : World) (x : Exchange) (n : ℕ) → OpenIn w x → Repeats w →
    Repeats (give_up_outcome w x n).world
unfolding give_up_outcome
repeats_given_up w x n p h = repeats_marked w x x.unsent (with_member n x.given_up)
    (λ plain. (p plain).unsent) (λ plain. (p plain).apart) p h

-- ---- arrivals

-- A number on the air arrives: no number that waits is among the arrivals now that was not before.
tried_arrived : (y : Session) (r : Receiver) (m e : ℕ) → (slot y m).state ≡ State.Flying e → AreTried y r →
    AreTried y (with_arrived m r)
tried_arrived y r m e f h = record {
  tried = λ n l w a. elim (has_one r.arrived m n a) [
    | inl is ↦ absurd (cc (f, ap (λ (k : ℕ). (slot y k).state) is, w))
    | inr old ↦ h.tried n l w old
  ];
  near = h.near;
}

-- Another exchange than e.
others_arrived : (ms : List Mpdu) (y : Session) (r : Receiver) (m e k : ℕ) (P : Type 0) →
    (slot y m).state ≡ State.Flying e → k ≢ e → AllIn y (State.Flying k) ms →
    EachMpdu (λ n. has r.arrived n.number ≡ true → (1 ≤ (slot y n.number).attempts) ⊎ P) ms →
    EachMpdu (λ n. has (with_arrived m r).arrived n.number ≡ true → (1 ≤ (slot y n.number).attempts) ⊎ P) ms
others_arrived [] y r m e k P f ne a t = tt
others_arrived (n ∷ ms) y r m e k P f ne a t = (
  (λ d. elim (has_one r.arrived m n.number d) [
    | inl is ↦ absurd (ne (let own : (slot y m).state ≡ State.Flying k =
        ap (λ (i : ℕ). (slot y i).state) is ∙ a.0 in cc (own, f)))
    | inr old ↦ t.0 old
  ]),
  others_arrived ms y r m e k P f ne a.1 t.1,
)

each_here : (ms : List Mpdu) (P : Mpdu → Type 0) → ((m : Mpdu) → P m) → EachMpdu P ms
each_here [] P h = tt
each_here (m ∷ ms) P h = (h m, each_here ms P h)

flying_at : (y : Session) (e : ℕ) (ms : List Mpdu) (i : ℕ) → i < length ms → AllIn y (State.Flying e) ms →
    (slot y (at no_mpdu ms i).number).state ≡ State.Flying e
flying_at y e [] i h a = absurd (omega (arith, h))
flying_at y e (m ∷ ms) zero h a = a.0
flying_at y e (m ∷ ms) (suc i) h a = flying_at y e ms i (omega (arith, h)) a.1

-- A statement about the sides of a TID, if those of only one TID change.
side_cases : (Q : Side → Type 0) (w v : World) (a b s t : ℕ) →
    ((i j : ℕ) → (a ≡ i → b ≡ j → ⊥) → side v i j ≡ side w i j) →
    (a ≡ s → b ≡ t → Q (side w s t) → Q (side v s t)) → Q (side w s t) → Q (side v s t)
side_cases Q w v a b s t h k q = on_bool ((a == s) && (b == t))
    (λ own. let c = both (a == s) (b == t) own in k (eq_yes a s c.0) (eq_yes b t c.1) q)
    (λ other. subst Q (sym (h s t (λ x y. cc (
      other,
      and_true (a == s) (b == t) (yes_eq a s x) (yes_eq b t y),
    )))) q)

-- The facts about the numbers of a TID, and about an open exchange, by the sides of the TID.
abbrev TidAt : Bool → Side → Type 0
TidAt offloaded a = not (offloaded || a.agreed) ≡ true → AreTried a.session a.receiver

abbrev OpenAt : Exchange → Side → Type 0
OpenAt x a = x.plain ≡ true → IsRepeatable x a.session a.receiver

-- A statement about one TID, moved along its equal names.
moved_tid : (Q : ℕ → ℕ → Type 0) (a b s t : ℕ) → a ≡ s → b ≡ t → Q a b → Q s t
moved_tid Q a b s t e d q = subst (λ (j : ℕ). Q s j) d (subst (λ (i : ℕ). Q i b) e q)

-- The frames of a plain exchange.
plain_frames : (w : World) (x : Exchange) → IsOpenIn w x → x.plain ≡ true → is_request x.content ≡ false
plain_frames w x o plain = o.calm (plain_unagreed w x.station x.tid (sym o.plain ∙ plain))

tried_taken : (c : Content) (w : World) (x : Exchange) (n : ℕ) → x.content ≡ c → IsOpenIn w x →
    x.plain ≡ true →
    nat_le (transmissions c) n ≡ false → AreTried (session w x.station x.tid) (receiver w x.station x.tid) →
    AreTried (session w x.station x.tid) (after_arrival c n (receiver w x.station x.tid))
tried_taken (Frames ms) w x n e o plain l h =
    tried_arrived (session w x.station x.tid) (receiver w x.station x.tid) (at no_mpdu ms n).number x.number
    (flying_at (session w x.station x.tid) x.number ms n (not_le (length ms) n l)
    (subst (λ (c : Content). AllIn (session w x.station x.tid) (State.Flying x.number) (mpdus_of c)) e
    o.opened.flies.flying)) h
tried_taken (Request f) w x n e o plain l h = absurd (cc (plain_frames w x o plain, ap is_request e))

other_taken : (c : Content) (w : World) (x z : Exchange) (n : ℕ) → x.content ≡ c → IsOpenIn w x →
    x.plain ≡ true → nat_le (transmissions c) n ≡ false → z.number ≢ x.number →
    AllIn (session w x.station x.tid) (State.Flying z.number) (mpdus_of z.content) →
    IsRepeatable z (session w x.station x.tid) (receiver w x.station x.tid) →
    IsRepeatable z (session w x.station x.tid) (after_arrival c n (receiver w x.station x.tid))
other_taken (Frames ms) w x z n e o plain l ne a b = record {
  arrived = b.arrived;
  unsent = b.unsent;
  apart = b.apart;
  tried = others_arrived (mpdus_of z.content) (session w x.station x.tid) (receiver w x.station x.tid)
      (at no_mpdu ms n).number x.number z.number (has z.arrived 0 ≡ true)
      (flying_at (session w x.station x.tid) x.number ms n (not_le (length ms) n l)
      (subst (λ (c : Content). AllIn (session w x.station x.tid) (State.Flying x.number) (mpdus_of c)) e
      o.opened.flies.flying)) ne a b.tried;
}
other_taken (Request f) w x z n e o plain l ne a b = absurd (cc (plain_frames w x o plain, ap is_request e))

-- An exchange of which it is known what its receiver knows.
record IsKnown (w : World) (x : Exchange) : Type 0 where
  open_in : IsOpenIn w x
  known : OpenIn w x

opened_taken : (w : World) (x z : Exchange) (g : Receiver → Receiver) (v : World) →
    v ≡ with_exchange (on_receiver w x.station x.tid g) z →
    Each (OpenIn v) (map (λ y. if y.number == z.number then z else y) w.opened) → Each (OpenIn v) v.opened
unfolding with_exchange
opened_taken w x z g v e k = subst (Each (OpenIn v)) (sym (ap (λ (u : World). u.opened) e
    ∙ ap (map (λ y. if y.number == z.number then z else y)) (opened_on_receiver w x.station x.tid g))) k

repeats_arrived : (w : World) (i : IsLawful w) (x : Exchange) (n : ℕ) → IsKnown w x →
    nat_le (transmissions x.content) n ≡ false → has x.unsent n ≡ false → Repeats w →
    Repeats (arrive_outcome w x n).world
unfolding arrive_outcome
repeats_arrived w i x n f l unmarked h =
    let g : Receiver → Receiver = after_arrival x.content n in
    let z : Exchange = record x { arrived = with_member n x.arrived } in
    let v : World = with_exchange (on_receiver w x.station x.tid g) z in
    let o : IsOpenIn w x = f.open_in in
    let own : side v x.station x.tid ≡ record {
      session = session w x.station x.tid;
      receiver = g (receiver w x.station x.tid);
      agreed = is_agreed w x.station x.tid;
    } = side_taken w x z g o.live in
    let apart : (s t : ℕ) → (x.station ≡ s → x.tid ≡ t → ⊥) → side v s t ≡ side w s t =
    λ s t ne. side_untaken w x z g s t (λ e d. ne (sym e) (sym d)) in
    let tid_now : TidAt (is_offloaded w x.station) (side v x.station x.tid) =
    subst (TidAt (is_offloaded w x.station)) (sym own) (λ plain.
    tried_taken x.content w x n refl o (o.plain ∙ plain) l (h.tids x.station x.tid plain)) in
    let new : OpenIn v z = subst (OpenAt z) (sym own) (λ plain.
    let b : IsRepeatable x (session w x.station x.tid) (receiver w x.station x.tid) = f.known plain in
    let first : n ≡ 0 = index_zero w x n i o plain l in
    let here : has (with_member n x.arrived) 0 ≡ true =
    ap (has (with_member n x.arrived)) (sym first) ∙ has_new x.arrived n in
    record {
      arrived = λ j d. elim (has_one x.arrived n j d) [
        | inl e ↦ omega (arith, e, first)
        | inr old ↦ b.arrived j old
      ];
      unsent = b.unsent;
      apart = λ d. absurd (cc (ap (has x.unsent) first, unmarked, d));
      tried = each_here (mpdus_of x.content) (λ m. has (g
          (receiver w x.station x.tid)).arrived m.number ≡ true →
          (1 ≤ (slot (session w x.station x.tid) m.number).attempts) ⊎ (has z.arrived 0 ≡ true))
          (λ m _. inr here);
    }) in
    record {
      tids = λ s t plain. side_cases (TidAt (is_offloaded w s)) w v x.station x.tid s t apart
          (λ e d _. moved_tid (λ a b. TidAt (is_offloaded w a) (side v a b)) x.station x.tid s t e d tid_now)
          (h.tids s t) (ap (λ (b : Bool). not (b || is_agreed v s t)) (sym (off_taken w x z g s)) ∙ plain);
      opened = opened_taken w x z g v refl (each_map_if (IsKnown w) (OpenIn v) (λ y. y.number == z.number) z
          w.opened new (λ y other k. side_cases (OpenAt y) w v x.station x.tid y.station y.tid apart
          (λ e d _. moved_tid (λ a b. OpenAt y (side v a b)) x.station x.tid y.station y.tid e d
          (subst (OpenAt y) (sym own) (λ plain.
          let x_plain : x.plain ≡ true = o.plain ∙ moved_tid
          (λ a b. is_plain w x.station x.tid ≡ is_plain w a b)
          x.station x.tid y.station y.tid e d refl ∙ sym k.open_in.plain ∙ plain in
          other_taken x.content w x y n refl o x_plain l (eq_no y.number x.number other)
          (moved_tid (λ a b. AllIn (session w a b) (State.Flying y.number)
          (mpdus_of y.content)) y.station y.tid
          x.station x.tid (sym e) (sym d) k.open_in.opened.flies.flying)
          (moved_tid (λ a b. IsRepeatable y (session w a b) (receiver w a b)) y.station y.tid x.station x.tid
          (sym e) (sym d) (k.known plain)))))
          k.known)
          (each_both (IsOpenIn w) (OpenIn w) (IsKnown w) w.opened (λ y a b. record { open_in = a; known = b })
          i.opened h.opened));
    }

-- ---- the end of an exchange

sides_if : (b : Bool) (w u v : World) (i j : ℕ) → side u i j ≡ side w i j → side v i j ≡ side w i j →
    side (if b then u else v) i j ≡ side w i j
sides_if true w u v i j h k = h
sides_if false w u v i j h k = k

settled_elsewhere : (end : End) (w : World) (s t : ℕ) (m : Mpdu) (i j : ℕ) → (s ≡ i → t ≡ j → ⊥) →
    side (with_settled w s t end m) i j ≡ side w i j
unfolding with_settled with_failed_finished
settled_elsewhere end w s t m i j apart =
    let f : Slot → Slot = slot_after_end w.config.attempts end in
    let v : World = on_session w s t (on_slot m.number f) in
    let acked : World = on_session w s t (with_state State.Acked m.number) in
    let k : side v i j ≡ side w i j = on_elsewhere w s t (on_slot m.number f) i j apart in
    on_settled (λ u. side u i j ≡ side w i j) end w s t m
    (λ _. (same_finish acked _ _).sides i j ∙ on_elsewhere w s t (with_state State.Acked m.number) i j apart)
    (λ _. sides_if (is_failed (slot (session v s t) m.number).state) w _ v i j
    ((same_finish v _ _).sides i j ∙ k) k)

all_elsewhere : (ms : List Mpdu) (w : World) (s t : ℕ) (ends : ℕ → End) (i j : ℕ) → (s ≡ i → t ≡ j → ⊥) →
    side (with_all_settled w s t ends ms) i j ≡ side w i j
unfolding with_all_settled
all_elsewhere [] w s t ends i j apart = refl
all_elsewhere (m ∷ ms) w s t ends i j apart = all_elsewhere ms _ s t ends i j apart
    ∙ settled_elsewhere (ends m.number) w s t m i j apart

caught_elsewhere : (w : World) (s t i j : ℕ) → (s ≡ i → t ≡ j → ⊥) →
    side (caught_up_if_plain w s t) i j ≡ side w i j
caught_elsewhere w s t i j apart = if_caught (λ u. side u i j ≡ side w i j) w s t refl
    (λ _. ap (λ (u : World). side u i j) (caught_up_is w s t) ∙ side_elsewhere w s t _ i j apart)

after_elsewhere : (c : Content) (w : World) (x : Exchange) (heard : Bool) (i j : ℕ) →
    (x.station ≡ i → x.tid ≡ j → ⊥) → side (after_done w x heard c) i j ≡ side w i j
unfolding after_done
after_elsewhere (Frames ms) w x heard i j apart = caught_elsewhere _ x.station x.tid i j apart
    ∙ all_elsewhere ms w x.station x.tid _ i j apart
after_elsewhere (Request f) w x heard i j apart = on_elsewhere w x.station x.tid _ i j apart

sides_without : (w : World) (e s t : ℕ) → side (without_exchange w e) s t ≡ side w s t
unfolding without_exchange
sides_without w e s t = refl

lives_without : (w : World) (e s : ℕ) → is_live (without_exchange w e) s ≡ is_live w s
unfolding without_exchange
lives_without w e s = refl

done_elsewhere : (air : Option ℕ) (w : World) (x : Exchange) (heard : Bool) (i j : ℕ) →
    (x.station ≡ i → x.tid ≡ j → ⊥) → side (done_outcome w x heard air).world i j ≡ side w i j
unfolding done_outcome
done_elsewhere air w x heard i j apart = after_elsewhere x.content _ x heard i j apart
    ∙ (same_charged air (without_exchange w x.number) x).sides i j ∙ sides_without w x.number i j

-- A number that no transmission carries is not unsent.
unsent_first : (g : ℕ → ℕ) (xs : List ℕ) (n : ℕ) → has (map g xs) n ≡ true →
    ((j : ℕ) → has xs j ≡ true → j ≡ 0) → has xs 0 ≡ true
unsent_first g [] n h low = absurd (cc h)
unsent_first g (x ∷ xs) n h low =
    let first : x ≡ 0 = low x (or_left (x == x) (has xs x) (yes_eq x x refl)) in
    or_left (x == 0) (has xs 0) (yes_eq x 0 first)

-- The session of a plain exchange after its numbers are settled: at most one slot changes, and it ends.
record IsEnded (w : World) (x : Exchange) (z : Session) : Type 0 where
  tried : AreTried z (receiver w x.station x.tid)
  next : (n : ℕ) → has (receiver w x.station x.tid).arrived n ≡ true → n < next_number z
  others : (n k : ℕ) → (session w x.station x.tid).first ≤ n →
      (slot (session w x.station x.tid) n).state ≡ State.Flying k → k ≢ x.number →
      slot z n ≡ slot (session w x.station x.tid) n

ended_none : (w : World) (i : IsLawful w) (x : Exchange) (z : Session) → z ≡ session w x.station x.tid →
    AreTried (session w x.station x.tid) (receiver w x.station x.tid) → IsEnded w x z
ended_none w i x z e h = record {
  tried = subst (λ (y : Session). AreTried y (receiver w x.station x.tid)) (sym e) h;
  next = λ n a. subst (λ (y : Session). n < next_number y) (sym e) ((i.agreed x.station x.tid).arrived n a).1;
  others = λ n k l f ne. ap (λ (y : Session). slot y n) e;
}

ended_one : (v w : World) (i : IsLawful w) (x : Exchange) (m : Mpdu) (heard : Bool) (limit : ℕ) →
    session v x.station x.tid ≡ session w x.station x.tid → IsOpenIn w x → x.plain ≡ true →
    x.content ≡ Frames (m ∷ []) → IsRepeatable x (session w x.station x.tid) (receiver w x.station x.tid) →
    AreTried (session w x.station x.tid) (receiver w x.station x.tid) →
    IsEnded w x (on_slot m.number (slot_after_end limit (end_of v x heard m.number))
    (session w x.station x.tid))
ended_one v w i x m heard limit same_y o plain e b h =
    let y : Session = session w x.station x.tid in
    let r : Receiver = receiver w x.station x.tid in
    let f : Slot → Slot = slot_after_end limit (end_of v x heard m.number) in
    let rises : Rises y.first (next_number y) (m ∷ []) =
    subst (λ (c : Content). Rises y.first (next_number y) (mpdus_of c)) e o.opened.flies.rising in
    let flies : AllIn y (State.Flying x.number) (m ∷ []) =
    subst (λ (c : Content). AllIn y (State.Flying x.number) (mpdus_of c)) e o.opened.flies.flying in
    let tried : EachMpdu (λ k. has r.arrived k.number ≡ true →
    (1 ≤ (slot y k.number).attempts) ⊎ (has x.arrived 0 ≡ true)) (m ∷ []) =
    subst (λ (c : Content). EachMpdu (λ k. has r.arrived k.number ≡ true →
    (1 ≤ (slot y k.number).attempts) ⊎ (has x.arrived 0 ≡ true)) (mpdus_of c)) e b.tried in
    record {
      tried = tried_ended y r m.number x.number limit (end_of v x heard m.number) rises.0 flies.0
          (λ missed. near_of y m.number (both_no x.plain (is_far y m.number) plain
          (subst (λ (z : Session). (x.plain && is_far z m.number) ≡ false) same_y
          (end_missed v x heard m.number missed))))
          (λ unsent a. elim (tried.0 a) [
            | inl before ↦ before
            | inr here ↦ absurd (cc (
              here,
              b.apart (on_bool (has (numbers_unsent x) m.number)
                  (λ is. unsent_first (number_at x.content) x.unsent m.number is b.unsent)
                  (λ no. absurd (end_not_unsent v x heard m.number no unsent))),
            ))
          ]) h;
      next = λ n a. omega (
        arith,
        ((i.agreed x.station x.tid).arrived n a).1,
        next-on_slot y m.number f (ap is_settled flies.0),
      );
      others = λ n k l g ne. slot_other y m.number n f rises.0 l
          (λ is. ne (let own : (slot y n).state ≡ State.Flying x.number =
          ap (λ (j : ℕ). (slot y j).state) (sym is) ∙ flies.0 in cc (own, g)));
    }
  where
    both_no : (a c : Bool) → a ≡ true → (a && c) ≡ false → c ≡ false
    both_no true c h k = k
    both_no false c h k = absurd (cc h)

    near_of : (y : Session) (n : ℕ) → is_far y n ≡ false → n < acked_end y + repeat_distance
    near_of y n d = not_le (acked_end y + repeat_distance) n d

-- The case of a plain exchange that ends.
ended_by : (ms : List Mpdu) (w v : World) (i : IsLawful w) (x : Exchange) (heard : Bool) →
    Same (without_exchange w x.number) v → IsOpenIn w x → x.plain ≡ true → x.content ≡ Frames ms →
    length ms ≤ 1 →
    IsRepeatable x (session w x.station x.tid) (receiver w x.station x.tid) →
    AreTried (session w x.station x.tid) (receiver w x.station x.tid) →
    IsEnded w x (session (with_all_settled v x.station x.tid (end_of v x heard) ms) x.station x.tid)
unfolding with_all_settled
ended_by [] w v i x heard k o plain e few b h = ended_none w i x _
    (ap (λ (a : Side). a.session) (k.sides x.station x.tid ∙ sides_without w x.number x.station x.tid)) h
ended_by (m ∷ []) w v i x heard k o plain e few b h =
    let same_y : session v x.station x.tid ≡ session w x.station x.tid =
    ap (λ (a : Side). a.session) (k.sides x.station x.tid ∙ sides_without w x.number x.station x.tid) in
    let live : is_live v x.station ≡ true = k.live x.station ∙ lives_without w x.number x.station ∙ o.live in
    subst (IsEnded w x) (sym (session_settled (end_of v x heard m.number) v x.station x.tid m live
    ∙ ap (on_slot m.number (slot_after_end v.config.attempts (end_of v x heard m.number))) same_y))
    (ended_one v w i x m heard v.config.attempts same_y o plain e b h)
ended_by (m ∷ n ∷ ms) w v i x heard k o plain e few b h = absurd (omega (arith, few))

-- The sides of the TID of a plain exchange after its end.
record IsDone (w : World) (x : Exchange) (a : Side) : Type 0 where
  tried : AreTried a.session a.receiver
  arrived : a.receiver.arrived ≡ (receiver w x.station x.tid).arrived
  others : (n k : ℕ) → (session w x.station x.tid).first ≤ n →
      (slot (session w x.station x.tid) n).state ≡ State.Flying k → k ≢ x.number →
      slot a.session n ≡ slot (session w x.station x.tid) n

done_by : (c : Content) (w v : World) (i : IsLawful w) (x : Exchange) (heard : Bool) →
    Same (without_exchange w x.number) v → IsOpenIn w x → x.plain ≡ true → x.content ≡ c →
    IsRepeatable x (session w x.station x.tid) (receiver w x.station x.tid) →
    AreTried (session w x.station x.tid) (receiver w x.station x.tid) →
    (receiver (after_done v x heard c) x.station x.tid).arrived ≡ (receiver w x.station x.tid).arrived →
    IsDone w x (side (after_done v x heard c) x.station x.tid)
unfolding after_done
done_by (Frames ms) w v i x heard k o plain e b h same_arrived =
    let s : ℕ = x.station in
    let t : ℕ = x.tid in
    let u : World = with_all_settled v s t (end_of v x heard) ms in
    let z : World = caught_up_if_plain u s t in
    let few : length ms ≤ 1 = subst (λ (c : Content). length (mpdus_of c) ≤ 1) e (one_sent w x i o plain) in
    let d : IsEnded w x (session u s t) = ended_by ms w v i x heard k o plain e few b h in
    record {
      tried = tried_receiver (session z s t) (receiver w s t) (receiver z s t) same_arrived
          (tried_moves (session u s t) (session z s t) (receiver w s t) d.next
          ((along_caught_up u s t).moves s t)
          d.tried);
      arrived = same_arrived;
      others = λ n m l f ne. slot_plain u s t s t n ∙ d.others n m l f ne;
    }
done_by (Request f) w v i x heard k o plain e b h same_arrived =
    absurd (cc (plain_frames w x o plain, ap is_request e))

done_after : (air : Option ℕ) (w : World) (i : IsLawful w) (x : Exchange) (heard : Bool) → IsKnown w x →
    x.plain ≡ true → AreTried (session w x.station x.tid) (receiver w x.station x.tid) →
    (receiver (done_outcome w x heard air).world x.station x.tid).arrived
    ≡ (receiver w x.station x.tid).arrived →
    IsDone w x (side (done_outcome w x heard air).world x.station x.tid)
unfolding done_outcome
done_after air w i x heard f plain t e = done_by x.content w _ i x heard
    (same_charged air (without_exchange w x.number) x) f.open_in plain refl (f.known plain) t e

done_own : (air : Option ℕ) (w : World) (i : IsLawful w) (x : Exchange) (heard : Bool) → IsKnown w x →
    x.plain ≡ true → Repeats w → IsDone w x (side (done_outcome w x heard air).world x.station x.tid)
done_own air w i x heard f plain h =
    done_after air w i x heard f plain (h.tids x.station x.tid (sym f.open_in.plain ∙ plain))
    ((keep_ended air w x heard).receivers x.station x.tid).arrived

-- Another exchange of the same TID.
each_other : (ms : List Mpdu) (y z : Session) (r q : Receiver) (k lo hi : ℕ) (P : Type 0) → y.first ≤ lo →
    Rises lo hi ms → AllIn y (State.Flying k) ms → q.arrived ≡ r.arrived →
    ((n : ℕ) → y.first ≤ n → (slot y n).state ≡ State.Flying k → slot z n ≡ slot y n) →
    EachMpdu (λ m. has r.arrived m.number ≡ true → (1 ≤ (slot y m.number).attempts) ⊎ P) ms →
    EachMpdu (λ m. has q.arrived m.number ≡ true → (1 ≤ (slot z m.number).attempts) ⊎ P) ms
each_other [] y z r q k lo hi P l c f d stays t = tt
each_other (m ∷ ms) y z r q k lo hi P l c f d stays t = (
  (λ a. elim (t.0 (ap (λ (xs : List ℕ). has xs m.number) (sym d) ∙ a)) [
    | inl b ↦ inl (subst (λ (x : Slot). 1 ≤ x.attempts) (sym (stays m.number (omega (arith, l, c.0)) f.0)) b)
    | inr b ↦ inr b
  ]),
  each_other ms y z r q k (suc m.number) hi P (omega (arith, l, c.0)) c.2 f.1 d stays t.1,
)

-- The facts about another open exchange.
record IsOther (w : World) (e : ℕ) (x : Exchange) : Type 0 where
  known : IsKnown w x
  other : x.number ≢ e

open_done : (air : Option ℕ) (w : World) (i : IsLawful w) (x : Exchange) (heard : Bool) → IsKnown w x →
    Repeats w → (y : Exchange) → IsOther w x.number y → OpenIn (done_outcome w x heard air).world y
open_done air w i x heard f h y k =
    let v : World = (done_outcome w x heard air).world in
    side_cases (OpenAt y) w v x.station x.tid y.station y.tid (done_elsewhere air w x heard)
    (λ e d _ plain.
    let x_plain : x.plain ≡ true = f.open_in.plain
    ∙ moved_tid (λ a b. is_plain w x.station x.tid ≡ is_plain w a b) x.station x.tid y.station y.tid e d refl
    ∙ sym k.known.open_in.plain ∙ plain in
    let a : IsDone w x (side v x.station x.tid) = done_own air w i x heard f x_plain h in
    let b : IsRepeatable y (session w x.station x.tid) (receiver w x.station x.tid) =
    moved_tid (λ a b. IsRepeatable y (session w a b) (receiver w a b)) y.station y.tid x.station x.tid
    (sym e) (sym d) (k.known.known plain) in
    let flies : AllIn (session w x.station x.tid) (State.Flying y.number) (mpdus_of y.content) =
    moved_tid (λ a b. AllIn (session w a b) (State.Flying y.number) (mpdus_of y.content)) y.station y.tid
    x.station x.tid (sym e) (sym d) k.known.open_in.opened.flies.flying in
    let rises : Rises (session w x.station x.tid).first (next_number (session w x.station x.tid))
    (mpdus_of y.content) = moved_tid (λ a b. Rises (session w a b).first (next_number (session w a b))
    (mpdus_of y.content)) y.station y.tid x.station x.tid (sym e)
    (sym d) k.known.open_in.opened.flies.rising in
    moved_tid (λ a b. IsRepeatable y (session v a b) (receiver v a b)) x.station x.tid y.station y.tid e d
    (record {
      arrived = b.arrived;
      unsent = b.unsent;
      apart = b.apart;
      tried = each_other (mpdus_of y.content) (session w x.station x.tid) (session v x.station x.tid)
          (receiver w x.station x.tid) (receiver v x.station x.tid) y.number
          (session w x.station x.tid).first (next_number (session w x.station x.tid)) (has y.arrived 0 ≡ true)
          (omega arith) rises flies
          a.arrived (λ n l g. a.others n y.number l g k.other) b.tried;
    }))
    k.known.known

others_of : (w : World) (e : ℕ) → IsLawful w → Repeats w →
    Each (IsOther w e) (without_exchange w e).opened
unfolding without_exchange
others_of w e i h = each_filter (IsKnown w) (IsOther w e) (λ y. not (y.number == e)) w.opened
    (λ y keeps k. record { known = k; other = differ y.number e keeps })
    (each_both (IsOpenIn w) (OpenIn w) (IsKnown w) w.opened (λ y a b. record { open_in = a; known = b })
    i.opened h.opened)

repeats_ended : (air : Option ℕ) (w : World) (i : IsLawful w) (x : Exchange) (heard : Bool) → IsKnown w x →
    Repeats w → Repeats (done_outcome w x heard air).world
repeats_ended air w i x heard f h =
    let v : World = (done_outcome w x heard air).world in
    let k : Kept w v = keep_ended air w x heard in
    record {
      tids = λ s t plain. side_cases (TidAt (is_offloaded w s)) w v x.station x.tid s t
          (done_elsewhere air w x heard)
          (λ e d old now.
          let x_plain : x.plain ≡ true = f.open_in.plain
          ∙ moved_tid (λ a b. is_plain w x.station x.tid ≡ is_plain w a b) x.station x.tid s t e d refl
          ∙ sym (plain_kept w v s t k) ∙ plain in
          moved_tid (λ a b. AreTried (session v a b) (receiver v a b)) x.station x.tid s t e d
          (done_own air w i x heard f x_plain h).tried)
          (h.tids s t) (ap (λ (b : Bool). not (b || is_agreed v s t)) (sym (k.offloaded s)) ∙ plain);
      opened = subst (Each (OpenIn v)) (sym (opened_ended air w x heard)) (each_map (IsOther w x.number)
          (OpenIn v)
          (without_exchange w x.number).opened (open_done air w i x heard f h) (others_of w x.number i h));
    }

-- ---- agreements that begin and end

-- The sides of one TID change, for which no exchange is open.
repeats_elsewhere : (w v : World) (s t : ℕ) → ((i j : ℕ) → (s ≡ i → t ≡ j → ⊥) → side v i j ≡ side w i j) →
    ((i : ℕ) → is_offloaded v i ≡ is_offloaded w i) → v.opened ≡ w.opened → NoneOpen s t w.opened →
    (is_plain v s t ≡ true → AreTried (session v s t) (receiver v s t)) → Repeats w → Repeats v
repeats_elsewhere w v s t apart off e none own h = record {
  tids = λ i j plain. side_cases (TidAt (is_offloaded v i)) w v s t i j apart
      (λ a b _. moved_tid (λ c d. TidAt (is_offloaded v c) (side v c d)) s t i j a b own)
      (λ was. h.tids i j (ap (λ (b : Bool). not (b || is_agreed w i j)) (sym (off i)) ∙ was)) plain;
  opened = subst (Each (OpenIn v)) (sym e) (each_both (OpenIn w) (λ x. s ≡ x.station → t ≡ x.tid → ⊥)
      (OpenIn v)
      w.opened (λ x k ne. side_cases (OpenAt x) w v s t x.station x.tid apart (λ a b _. absurd (ne a b)) k)
      h.opened none);
}

repeats_begun : (w : World) (s t window : ℕ) → IsLawful w → NoRow (refusals w (Asked (Begin s t window))) →
    Repeats w → Repeats (begin_outcome w s t window).world
repeats_begun w s t window i r h =
    let v : World = (begin_outcome w s t window).world in
    repeats_elsewhere w v s t (begun_elsewhere w s t window) (off_begun w s t window)
    (opened_begun w s t window)
    (none_of_tid s t w.opened r.1.1.1.1.1.0)
    (λ plain. absurd (cc (
      plain_unagreed v s t plain,
      ap (λ (u : World). is_agreed u s t) (begun_is w s t window)
          ∙ ap (λ (a : Side). a.agreed) (side_on w s t _ (not_no (is_live w s) r.1.1.1.0)),
    ))) h

-- After an agreement ends no number waits or is on the air.
repeats_ceased : (w : World) (s t : ℕ) → IsLawful w → NoRow (refusals w (Asked (Cease s t))) → Repeats w →
    Repeats (cease_outcome w s t).world
repeats_ceased w s t i r h =
    let v : World = (cease_outcome w s t).world in
    let none : NoneOpen s t w.opened = none_of_tid s t w.opened r.1.1.1.1.0 in
    let live : is_live w s ≡ true = not_no (is_live w s) r.1.1.0 in
    let y : Session = session w s t in
    let now : (n : ℕ) → slot (session v s t) n ≡ slot_flushed w.config.attempts (slot y n) = λ n.
    ceased_slot w s t n live ∙ slot_flush w.config.attempts y n in
    let first : (session v s t).first ≡ y.first = ceased_first w s t live in
    let settled : (n : ℕ) → (session v s t).first ≤ n → is_settled (slot (session v s t) n).state ≡ true =
    λ n l. ap (λ (x : Slot). is_settled x.state) (now n) ∙ settled_flush w.config.attempts (slot y n)
    (λ e f. none_sending s t e n w.opened none (i.sent s t refl n e (omega (arith, l, first)) f)) in
    repeats_elsewhere w v s t (ceased_elsewhere w s t) (off_ceased w s t) (opened_ceased w s t) none
    (λ _. record {
      tried = λ n l waits a. absurd (cc (settled n l, ap is_settled waits));
      near = λ n l u a. absurd (cc (settled n l, u));
    }) h

-- ---- joining and leaving

repeats_station : (w : World) (s : ℕ) (o : Option Station) → Each (λ x. s ≢ x.station) w.opened →
    ((t : ℕ) → AreTried (sides_of o t).session (sides_of o t).receiver) → Repeats w → Repeats
    (with_station w s o)
unfolding with_station
repeats_station w s o away new h = record {
  tids = λ i t plain. on_bool (s == i)
      (λ own. subst (λ (j : ℕ). AreTried (session (with_station w s o) j t) (receiver
      (with_station w s o) j t))
      (eq_yes s i own) (subst (λ (a : Side). AreTried a.session a.receiver) (sym (side_own_station w s t o))
      (new t)))
      (λ other. subst (λ (a : Side). AreTried a.session a.receiver)
      (sym (side_with_station w s i t o (eq_no s i other)))
      (h.tids i t (sym (plain_elsewhere w s i t o (eq_no s i other)) ∙ plain)));
  opened = each_both (OpenIn w) (λ x. s ≢ x.station) (OpenIn (with_station w s o)) w.opened
      (λ x k ne. subst (OpenAt x) (sym (side_with_station w s x.station x.tid o ne)) k) h.opened away;
}
  where
    plain_elsewhere : (w : World) (s i t : ℕ) (o : Option Station) → s ≢ i →
        is_plain (with_station w s o) i t ≡ is_plain w i t
    plain_elsewhere w s i t o ne = ap (λ (b : Bool). not (b || is_agreed (with_station w s o) i t))
        (off_with_station w s i o ne)
        ∙ ap (λ (a : Side). not (is_offloaded w i || a.agreed)) (side_with_station w s i t o ne)

never_tried : (mode : Mode) (start window : ℕ) →
    AreTried (new_tid mode start window).session (new_tid mode start window).receiver
never_tried mode start window = record {
  tried = λ n l waits a. absurd (cc waits);
  near = λ n l u a. absurd (cc u);
}

repeats_new : (w : World) (s : ℕ) (mode : Mode) (window start exponent weight : ℕ) (offloaded : Bool) →
    is_live w s ≡ false → IsLawful w → Repeats w →
    Repeats (with_station w s (Some (new_station w.config mode window start exponent weight offloaded)))
repeats_new w s mode window start exponent weight offloaded dead i h =
    repeats_station w s _ (each_map (IsOpenIn w) (λ x. s ≢ x.station) w.opened
    (λ x f e. cc (ap (is_live w) e, f.live, dead)) i.opened)
    (eight (λ y. AreTried y.session y.receiver) (new_tid mode start window) (never_tried mode start window)
    (never_tried Plain 0 0)) h

repeats_joined : (w : World) (s window start exponent weight : ℕ) → is_live w s ≡ false → IsLawful w →
    Repeats w → Repeats (join_outcome w s window start exponent weight).world
unfolding join_outcome
repeats_joined w s window start exponent weight dead i h =
    repeats_new w s Agreed window start exponent weight false dead i h

repeats_offloaded : (w : World) (s exponent weight : ℕ) → is_live w s ≡ false → IsLawful w →
    Repeats w → Repeats (offload_outcome w s exponent weight).world
unfolding offload_outcome
repeats_offloaded w s exponent weight dead i h = repeats_new w s Plain greatest_window 0 exponent weight true
    dead i h

repeats_unagreed : (w : World) (s start exponent weight : ℕ) → is_live w s ≡ false → IsLawful w →
    Repeats w → Repeats (plain_outcome w s start exponent weight).world
unfolding plain_outcome
repeats_unagreed w s start exponent weight dead i h =
    repeats_new w s Plain plain_window start exponent weight false dead i h

repeats_gone : (w : World) (s : ℕ) → nat_lt 0 (open_of_station w s) ≡ false → IsLawful w → Repeats w →
    Repeats (leave_outcome w s).world
unfolding leave_outcome
repeats_gone w s none i h =
    let k = then_same _ _ _ (same_left_tids (upto 8) w s) (same_off_lists all_classes _ s) in
    repeats_station _ s None (subst (Each (λ x. s ≢ x.station)) (sym k.opened) (none_open w.opened s none))
    (λ t. never_tried Plain 0 0) (repeats_same w _ i (lawful_same _ _ k i) k h)

-- ---- the call

repeats_open : (P : Exchange → Type 0) (o : Option Exchange) (w : World) (f : Exchange → Outcome) →
    IfSome o P →
    Repeats w → ((x : Exchange) → P x → Repeats (f x).world) → Repeats (outcome_where_open w o f).world
unfolding outcome_where_open
repeats_open P None w f p h k = h
repeats_open P (Some x) w f p h k = k x p

known_in : (w : World) → IsLawful w → Repeats w → (e : ℕ) → IfSome (exchange w e) (IsKnown w)
known_in w i h e = each_find (IsKnown w) (IsKnown w) (λ x. x.number == e) w.opened (λ x _ f. f)
    (each_both (IsOpenIn w) (OpenIn w) (IsKnown w) w.opened
    (λ x a b. record { open_in = a; known = b }) i.opened
    h.opened)

repeats_reaped : (ids : List ℕ) (w : World) → IsLawful w → IsLawful (reap_outcome w ids).world → Repeats w →
    Repeats (reap_outcome w ids).world
unfolding reap_outcome
repeats_reaped [] w i j h = h
repeats_reaped (id ∷ ids) w i j h = repeats_calm w _ i j (keep_plain w _ refl)
    (record { moves = λ s t. moves_refl (session w s t) }) refl h

repeats_done : (note : Note) (w : World) → IsLawful w → IsLawful (outcome_of w note).world →
    NoRow (refusals w note) → Repeats w → Repeats (outcome_of w note).world
unfolding outcome_of tick_outcome rate_outcome sleep_outcome wake_outcome poll_outcome rx_outcome
repeats_done (Enqueue s t flow len) w i j r h = repeats_same w _ i j (same_enqueued w s t flow len) h
repeats_done (Asked (Join s window start exponent weight)) w i j r h =
    repeats_joined w s window start exponent weight r.1.1.1.1.1.0 i h
repeats_done (Asked (Leave s)) w i j r h = repeats_gone w s r.1.1.0 i h
repeats_done (Asked (Rate s rate)) w i j r h = repeats_same w _ i j (same_on_station w s _ (λ x t. refl)) h
repeats_done (Asked (Tick by)) w i j r h = repeats_calm w _ i j (keep_plain w _ refl)
    (record { moves = λ s t. moves_refl (session w s t) }) refl h
repeats_done (Asked (Pull c l)) w i j r h = repeats_pulled w c l i j h
repeats_done (Asked (Arrive e n)) w i j r h = repeats_open
    (λ x. IsKnown w x × ((nat_le (transmissions x.content) n ≡ false) × (has x.unsent n ≡ false)))
    (exchange w e) w _
    (both_some (IsKnown w) (λ x. (nat_le (transmissions x.content) n ≡ false) × (has x.unsent n ≡ false))
    (exchange w e) (known_in w i h e) (both_some (λ x. nat_le (transmissions x.content) n ≡ false)
    (λ x. has x.unsent n ≡ false) (exchange w e) (if_on (exchange w e) (λ x. nat_le
    (transmissions x.content) n)
    r.1.0) (if_on (exchange w e) (λ x. has x.unsent n) r.1.1.1.1.0))) h
    (λ x f. repeats_arrived w i x n f.0 f.1.0 f.1.1 h)
repeats_done (Asked (Answer e)) w i j r h = repeats_open (IsKnown w) (exchange w e) w _ (known_in w i h e) h
    (λ x f. repeats_answered w x f.known h)
repeats_done (Asked (Done e heard air)) w i j r h = repeats_open (IsKnown w) (exchange w e) w _
    (known_in w i h e) h (λ x f. repeats_ended air w i x heard f h)
repeats_done (Asked (Sleep s)) w i j r h = repeats_same w _ i j (same_on_station w s _ (λ x t. refl)) h
repeats_done (Asked (Ampdu s octets)) w i j r h = repeats_same w _ i j (same_on_station w s _ (λ x t. refl)) h
repeats_done (Asked (Stop s)) w i j r h = repeats_same w _ i j (same_on_station w s _ (λ x t. refl)) h
repeats_done (Asked (Start s)) w i j r h = repeats_same w _ i j (same_on_station w s _ (λ x t. refl)) h
repeats_done (Asked (Wake s)) w i j r h = repeats_same w _ i j (same_on_station w s _ (λ x t. refl)) h
repeats_done (Asked (Poll s)) w i j r h = repeats_same w _ i j (same_on_station w s _ (λ x t. refl)) h
repeats_done (Asked (Rx s c air)) w i j r h = repeats_same w _ i j (same_on_share w s c _) h
repeats_done (Asked Reap) w i j r h = repeats_reaped w.finished w i j h
repeats_done (Asked (Unsent e n)) w i j r h = repeats_open
    (λ x. IsKnown w x × ((nat_le (transmissions x.content) n ≡ false) × (has x.arrived n ≡ false)))
    (exchange w e) w _
    (both_some (IsKnown w) (λ x. (nat_le (transmissions x.content) n ≡ false) × (has x.arrived n ≡ false))
    (exchange w e) (known_in w i h e) (both_some (λ x. nat_le (transmissions x.content) n ≡ false)
    (λ x. has x.arrived n ≡ false) (exchange w e) (if_on (exchange w e)
    (λ x. nat_le (transmissions x.content) n) r.1.0) (if_on (exchange w e)
    (λ x. has x.arrived n) r.1.1.1.0))) h
    (λ x f. repeats_unsent w i x n f.0.open_in f.0.known f.1.0 f.1.1 h)
repeats_done (Asked (GiveUp e n)) w i j r h = repeats_open (IsKnown w) (exchange w e) w _ (known_in w i h e) h
    (λ x f. repeats_given_up w x n f.known h)
repeats_done (Asked (Flush s t)) w i j r h = repeats_calm w _ i j (keep_flushed w s t) (along_flushed w s t)
    (opened_flushed w s t) h
repeats_done (Asked (Offload s exponent weight)) w i j r h = repeats_offloaded w s exponent weight r.1.1.1.0 i
    h
repeats_done (Asked (Weight s weight)) w i j r h = repeats_same w _ i j (same_weighed w s weight) h
repeats_done (Asked (call.Plain s start exponent weight)) w i j r h =
    repeats_unagreed w s start exponent weight r.1.1.1.1.0 i h
repeats_done (Asked (Hold s t)) w i j r h = repeats_same w _ i j (same_held w s t r.1.1.1.0 r.1.1.1.1.0) h
repeats_done (Asked (Begin s t window)) w i j r h = repeats_begun w s t window i r h
repeats_done (Asked (Free s t)) w i j r h =
    repeats_same w _ i j (same_freed w s t (not_no (is_held_back w s t) r.1.1.1.0)) h
repeats_done (Asked (Cease s t)) w i j r h = repeats_ceased w s t i r h
repeats_done (Asked (Group ask)) w i j r h = repeats_calm w _ i j (keep_plain w _ refl)
    (record { moves = λ s t. moves_refl (session w s t) }) refl h
repeats_done (Asked (Service ask)) w i j r h =
    repeats_same w _ i j (same_on_station w (station_served ask) _ (λ x t. refl)) h
repeats_done (Asked (Bss s b)) w i j r h = repeats_same w _ i j (same_on_station w s _ (λ x t. refl)) h

repeats_refused : (note : Note) (r : Refusal) (w : World) → IsLawful w → Repeats w → Repeats
    (after_refusal w note r)
unfolding after_refusal
repeats_refused (Asked (Pull c l)) Idle w i h = after_idle Repeats w c h
    (repeats_same w _ i (lawful_same w _ (same_after_pick w c) i) (same_after_pick w c) h)
repeats_refused _ _ w i h = h

repeats_answer : (r : Option Refusal) (w : World) (note : Note) → refusal w note ≡ r → IsLawful w →
    Repeats w →
    Repeats (judged_outcome w note r).world
unfolding judged_outcome
repeats_answer (Some r) w note e i h = repeats_refused note r w i h
repeats_answer None w note e i h =
    let u : World = (outcome_of w note).world in
    let d : NoRow (refusals w note) = no_row (refusals w note) e in
    let j : IsLawful u = lawful_done note w d i in
    let k : Same u (with_listings_of u (concerned_station w note)) = same_listed
    (concerned_station w note) u in
    repeats_same u _ j (lawful_same u _ k j) k (repeats_done note w i j d h)

repeats_step : (w : World) (note : Note) → IsLawful w → Repeats w → Repeats (step w note).world
unfolding step
repeats_step w note i h = repeats_answer (refusal w note) w note refl i h

repeats_run : (h : List Entry) (w : World) → IsLawful w → Repeats w → Repeats (world_after w h)
unfolding world_after
repeats_run [] w i k = k
repeats_run (e ∷ es) w i k = repeats_run es (step w e.1).world (lawful_step w e.1 i) (repeats_step w e.1 i k)

repeats_at_first : (config : Config) → Repeats (opening config)
repeats_at_first config = record { tids = λ s t _. never_tried Plain 0 0; opened = tt }

pub repeat_law : (config : Config) (h : List Entry) → IsInRange config → RepeatLaw config h
repeat_law config h range m =
    let w : World = world_at config h m in
    let i : IsLawful w = lawful config (take m h) in
    knows w i (repeats_run (take m h) (opening config) (lawful_at_first config)
    (repeats_at_first config)) w.opened
    i.opened (repeats_run (take m h) (opening config) (lawful_at_first config)
    (repeats_at_first config)).opened
