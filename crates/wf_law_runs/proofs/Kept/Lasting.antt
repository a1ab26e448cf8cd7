-- Proves which changes keep the ids of a session's numbers and the slots of its settled numbers.
use Rattle.std.proofs.Common.{◌≡◌, refl, ap, sym, ◌∙◌, subst, arith, ℕ, suc, ◌<◌, ◌≤◌, Bool, true, false, List, [], ◌∷◌, Option, ◌==◌, ◌&&◌}
use Rattle.wf_frame.specs.declared.classes.Cause.TheVariants.{Retries}
use Rattle.wf_frame.specs.declared.classes.Class.{Class}
use Rattle.wf_frame.specs.declared.notes.Limits.{Limits}
use Rattle.wf_frame.specs.declared.classes.Fate.TheVariants.{Dropped}
use Rattle.wf_def_lists.specs.Table.{with_member}
use Rattle.wf_def_agreement.specs.Session.{End, Session, Slot, State, with_state, is_settled, is_failed, slot_given_up, slot, on_slot, with_number_given, after_flush, next_number, start_of}
use Rattle.wf_def_world.specs.World.{World, Exchange, Mpdu, Content, Frames, Request, session, is_live, on_session, on_receiver, with_exchange, without_exchange, with_frame_finished, Tid, Mode, OnHold, Agreed, on_tid}
use Rattle.wf_def_world.specs.Exchanges.{end_of, with_heard_start, with_flying, with_exchange_opened, after_arrival, after_charge, with_failed_finished, with_settled, with_all_settled, after_done, caught_up, caught_up_if_plain}
use Rattle.wf_def_world.specs.Step.{pull_outcome, arrive_outcome, answer_outcome, unsent_outcome, give_up_outcome, flush_outcome, done_outcome, begin_outcome, cease_outcome, after_numbers_ended, plain_window}
use Rattle.wf_law_rules.proofs.Lemmas.Numbers.{on_if, yes_eq, and_true}
use Rattle.wf_law_runs.proofs.Common.Marks.{marked_world}
use Rattle.wf_law_runs.proofs.Common.Ends.{slot_after_end, end_id, on_settled}
use Rattle.wf_law_runs.proofs.Common.Flushes.{flush_along, if_flushed, if_caught}
use Rattle.wf_law_runs.proofs.Sessions.Flights.{AllIn, Rises, all_in_later}
use Rattle.wf_law_runs.proofs.Windows.Sides.{Side, Same, each_side_on, on_live, same_on_queue, same_finish, same_charged, caught_up_is, told_start, renewed, begun_is, ceased_is, same_ended}
use Rattle.wf_law_runs.proofs.Windows.Agreement.{slot_give, slot_other}
use Rattle.wf_law_runs.proofs.Windows.Agreed.{IsLawful, IsReady, IsFound, IsEnding, ending_settled, ending_of}
use Rattle.wf_law_runs.proofs.Releases.Kept.{KeptSession, kept_refl, then_kept, kept_on_slot, kept_give, kept_heard, fly_size, heard_size}
use Rattle.wf_law_runs.proofs.Kept.Pulls.{along_pull}

-- ---- one session

-- The numbers keep their ids, and the slots of settled numbers do not change.
pub record Lasts (y z : Session) : Type 0 where
  pub kept : KeptSession y z
  pub settled : (n : ℕ) → y.first ≤ n → n < next_number y → is_settled (slot y n).state ≡ true →
      slot z n ≡ slot y n

pub lasts_refl : (y : Session) → Lasts y y
lasts_refl y = record { kept = kept_refl y; settled = λ n l h e. refl }

pub lasts_equal : (y z : Session) → z ≡ y → Lasts y z
lasts_equal y z e = subst (Lasts y) (sym e) (lasts_refl y)

pub then_lasts : (x y z : Session) → Lasts x y → Lasts y z → Lasts x z
then_lasts x y z h k = record {
  kept = then_kept x y z h.kept k.kept;
  settled = λ n l b e.
      let same : slot y n ≡ slot x n = h.settled n l b e in
      k.settled n (omega (arith, h.kept.first, l)) (omega (arith, b, h.kept.next))
      (ap (λ (x : Slot). is_settled x.state) same ∙ e) ∙ same;
}

-- The slot of an unsettled number changes.
lasts_on_slot : (y : Session) (m : ℕ) (f : Slot → Slot) → ((x : Slot) → (f x).id ≡ x.id) → y.first ≤ m →
    is_settled (slot y m).state ≡ false → Lasts y (on_slot m f y)
lasts_on_slot y m f h l open_yet = record {
  kept = kept_on_slot y m f h;
  settled = λ n from below e. slot_other y m n f l from
      (λ same. cc (ap (λ (k : ℕ). is_settled (slot y k).state) same, open_yet, e));
}

lasts_give : (y : Session) (id : ℕ) → Lasts y (with_number_given y id)
lasts_give y id = record { kept = kept_give y id; settled = λ n l h e. slot_give y id n l h }

lasts_fly : (ms : List Mpdu) (y : Session) (e lo hi : ℕ) → y.first ≤ lo → Rises lo hi ms →
    AllIn y State.Waiting ms → Lasts y (with_flying e ms y)
lasts_fly [] y e lo hi b r a = lasts_refl y
lasts_fly (m ∷ ms) y e lo hi b r a =
    let f : Slot → Slot = λ x. record x { state = State.Flying e } in
    then_lasts y (on_slot m.number f y) _ (lasts_on_slot y m.number f (λ x. refl) (omega (arith, r.0))
    (ap is_settled a.0))
    (lasts_fly ms (on_slot m.number f y) e (suc m.number) hi (omega (arith, r.0)) r.2
    (all_in_later y State.Waiting m.number hi f ms (omega (arith, r.0)) r.2 a.1))

lasts_heard : (b : Bool) (f : ℕ) (y : Session) → Lasts y (with_heard_start b f y)
lasts_heard true f y = record { kept = kept_heard true f y; settled = λ n l h e. refl }
lasts_heard false f y = lasts_refl y

-- ---- worlds

pub record Last (w v : World) : Type 0 where
  pub sessions : (s t : ℕ) → Lasts (session w s t) (session v s t)
  pub sizes : (s t : ℕ) → (session v s t).size ≡ (session w s t).size
  pub live : (s : ℕ) → is_live v s ≡ is_live w s

pub last_same : (w v : World) → Same w v → Last w v
last_same w v h = record {
  sessions = λ s t. lasts_equal (session w s t) (session v s t)
      (ap (λ (a : Side). a.session) (h.sides s t));
  sizes = λ s t. ap (λ (a : Side). a.session.size) (h.sides s t);
  live = h.live;
}

pub last_here : (w : World) → Last w w
last_here w = record {
  sessions = λ s t. lasts_refl (session w s t);
  sizes = λ s t. refl;
  live = λ s. refl;
}

then_last : (u v w : World) → Last u v → Last v w → Last u w
then_last u v w h k = record {
  sessions = λ s t. then_lasts (session u s t) (session v s t) (session w s t) (h.sessions s t)
      (k.sessions s t);
  sizes = λ s t. k.sizes s t ∙ h.sizes s t;
  live = λ s. k.live s ∙ h.live s;
}

last_on_session : (w : World) (s t : ℕ) (f : Session → Session) → Lasts (session w s t) (f (session w s t)) →
    (f (session w s t)).size ≡ (session w s t).size → Last w (on_session w s t f)
unfolding on_session
last_on_session w s t f h size = record {
  sessions = each_side_on (λ i j z. Lasts (session w i j) z.session) w s t
      (λ y. record y { session = f y.session }) (λ i j. lasts_refl (session w i j)) h;
  sizes = each_side_on (λ i j z. z.session.size ≡ (session w i j).size) w s t
      (λ y. record y { session = f y.session }) (λ i j. refl) size;
  live = on_live w s t (λ y. record y { session = f y.session });
}

-- ---- pulls

last_given : (w : World) (s t id : ℕ) → Last w (on_session w s t (λ y. with_number_given y id))
last_given w s t id = last_on_session w s t (λ y. with_number_given y id) (lasts_give (session w s t) id)
    refl

last_flown : (w : World) (s t : ℕ) (ms : List Mpdu) → IsReady s t w ms →
    Last w (on_session w s t (with_flying w.exchanges ms))
last_flown w s t ms r =
    let y : Session = session w s t in
    last_on_session w s t (with_flying w.exchanges ms) (lasts_fly ms y w.exchanges y.first (next_number y)
    (omega arith) r.chosen.rising r.chosen.waiting) (fly_size ms y w.exchanges)

last_opening : (w : World) (x : Exchange) → Last w (with_exchange_opened w x)
unfolding with_exchange_opened
last_opening w x = record {
  sessions = λ i j. lasts_refl (session w i j);
  sizes = λ i j. refl;
  live = λ i. refl;
}

pub last_pulled : (w : World) (c : Class) (l : Limits) → IsLawful w → Last w (pull_outcome w c l).world
last_pulled = along_pull Last last_same then_last last_given last_flown last_opening

-- ---- a TID catches up

pub last_caught : (w : World) (s t : ℕ) → Last w (caught_up w s t)
last_caught w s t =
    let start : ℕ = start_of (session w s t) in
    subst (Last w) (sym (caught_up_is w s t)) (record {
      sessions = each_side_on (λ i j z. Lasts (session w i j) z.session) w s t (told_start start)
          (λ i j. lasts_refl (session w i j)) (lasts_heard true start (session w s t));
      sizes = each_side_on (λ i j z. z.session.size ≡ (session w i j).size) w s t (told_start start)
          (λ i j. refl) refl;
      live = on_live w s t (told_start start);
    })

pub last_caught_up : (w : World) (s t : ℕ) → Last w (caught_up_if_plain w s t)
last_caught_up w s t = if_caught (Last w) w s t (last_here w) (λ _. last_caught w s t)

-- ---- exchanges

pub last_marked : (w : World) (x : Exchange) (unsent given_up : List ℕ) →
    Last w (marked_world w x unsent given_up)
unfolding with_exchange
last_marked w x unsent given_up = record {
  sessions = λ s t. lasts_refl (session w s t);
  sizes = λ s t. refl;
  live = λ s. refl;
}

pub last_unsent : (w : World) (x : Exchange) (n : ℕ) → Last w (unsent_outcome w x n).world
unfolding unsent_outcome
last_unsent w x n = last_marked w x (with_member n x.unsent) x.given_up

pub last_given_up : (w : World) (x : Exchange) (n : ℕ) → Last w (give_up_outcome w x n).world
unfolding give_up_outcome
last_given_up w x n = last_marked w x x.unsent (with_member n x.given_up)

lasts_flush : (limit : ℕ) (y : Session) → Lasts y (after_flush limit y)
lasts_flush limit y = flush_along (Lasts y) limit y
    (λ z n e l b waits k. then_lasts y z _ k (lasts_on_slot z n (slot_given_up limit) (λ x. refl) l
    (ap is_settled waits))) (lasts_refl y)

pub last_flushed : (w : World) (s t : ℕ) → Last w (flush_outcome w s t).world
last_flushed w s t = if_flushed (Last w)
    (record {
      finish = λ u id k. then_last w u _ k (last_same u _ (same_finish u _ id));
      empty = λ u q k. then_last w u _ k (last_same u _ (same_on_queue u q _));
    }) w s t (λ v k _. then_last w v _ k (last_caught v s t))
    (last_on_session w s t (after_flush w.config.attempts) (lasts_flush w.config.attempts
    (session w s t)) refl)

-- ---- an agreement begins or ends

lasts_renewed : (start size : ℕ) (y : Session) →
    Lasts y (record (with_heard_start true start y) { size = size })
lasts_renewed start size y =
    let h : Lasts y (with_heard_start true start y) = lasts_heard true start y in
    record {
      kept = record { first = h.kept.first; next = h.kept.next; ids = h.kept.ids };
      settled = h.settled;
    }

-- The numbers of each session last, and its window stays unless it belongs to TID t of station s.
pub record LastBut (s t : ℕ) (w v : World) : Type 0 where
  pub sessions : (i j : ℕ) → Lasts (session w i j) (session v i j)
  pub sizes : (i j : ℕ) → (i == s) && (j == t) ≡ false → (session v i j).size ≡ (session w i j).size
  pub live : (i : ℕ) → is_live v i ≡ is_live w i

last_renewed : (w : World) (s t start size : ℕ) (mode : Mode) →
    LastBut s t w (on_tid w s t (renewed start size mode))
last_renewed w s t start size mode =
    let f : Tid → Tid = renewed start size mode in
    record {
      sessions = each_side_on (λ i j z. Lasts (session w i j) z.session) w s t f
          (λ i j. lasts_refl (session w i j)) (lasts_renewed start size (session w s t));
      sizes = each_side_on (λ i j z. (i == s) && (j == t) ≡ false → z.session.size ≡ (session w i j).size)
          w s t f (λ i j _. refl)
          (λ h. absurd (cc (and_true (s == s) (t == t) (yes_eq s s refl) (yes_eq t t refl), h)));
      live = on_live w s t f;
    }

pub last_begun : (w : World) (s t window : ℕ) → LastBut s t w (begin_outcome w s t window).world
last_begun w s t window = subst (LastBut s t w) (sym (begun_is w s t window))
    (last_renewed w s t _ window Agreed)

last_then_but : (s t : ℕ) (u w v : World) → Last u w → LastBut s t w v → LastBut s t u v
last_then_but s t u w v h k = record {
  sessions = λ i j. then_lasts (session u i j) (session w i j) (session v i j) (h.sessions i j)
      (k.sessions i j);
  sizes = λ i j n. k.sizes i j n ∙ h.sizes i j;
  live = λ i. k.live i ∙ h.live i;
}

pub last_ceased : (w : World) (s t : ℕ) → LastBut s t w (cease_outcome w s t).world
last_ceased w s t = subst (LastBut s t w) (sym (ceased_is w s t))
    (last_then_but s t w (after_numbers_ended w s t) _
    (then_last w _ _ (last_on_session w s t (after_flush w.config.attempts)
    (lasts_flush w.config.attempts (session w s t)) refl) (last_same _ _ (same_ended w s t)))
    (last_renewed _ s t _ plain_window OnHold))

pub last_arrived : (w : World) (x : Exchange) (n : ℕ) → Last w (arrive_outcome w x n).world
unfolding arrive_outcome with_exchange on_receiver
last_arrived w x n = record {
  sessions = each_side_on (λ i j z. Lasts (session w i j) z.session) w x.station x.tid
      (λ y. record y { receiver = after_arrival x.content n y.receiver }) (λ i j. lasts_refl (session w i j))
      (lasts_refl (session w x.station x.tid));
  sizes = each_side_on (λ i j z. z.session.size ≡ (session w i j).size) w x.station x.tid
      (λ y. record y { receiver = after_arrival x.content n y.receiver }) (λ i j. refl) refl;
  live = on_live w x.station x.tid (λ y. record y { receiver = after_arrival x.content n y.receiver });
}

pub last_answered : (w : World) (x : Exchange) → Last w (answer_outcome w x).world
unfolding answer_outcome with_exchange
last_answered w x = record {
  sessions = λ s t. lasts_refl (session w s t);
  sizes = λ s t. refl;
  live = λ s. refl;
}

-- A number on the air is not settled before its exchange ends.
last_settled : (end : End) (e s t : ℕ) (ends : ℕ → End) (w : World) (m : Mpdu) (ms : List Mpdu) →
    IsEnding e s t ends w (m ∷ ms) → Last w (with_settled w s t end m)
unfolding with_settled with_failed_finished
last_settled end e s t ends w m ms n =
    let f : Slot → Slot = slot_after_end w.config.attempts end in
    let v : World = on_session w s t (on_slot m.number f) in
    let k : Last w v = last_on_session w s t (on_slot m.number f)
    (lasts_on_slot (session w s t) m.number f (λ x. end_id w.config.attempts end x) n.flies.rising.0
    (ap is_settled n.flies.flying.0)) refl in
    on_settled (Last w) end w s t m
    (λ _. then_last w _ _ (last_on_session w s t (with_state State.Acked m.number)
    (lasts_on_slot (session w s t) m.number (λ x. record x { state = State.Acked })
    (λ x. refl) n.flies.rising.0 (ap is_settled n.flies.flying.0)) refl) (last_same _ _ (same_finish _ _ _)))
    (λ _. on_if (λ (u : World). Last w u) (is_failed (slot (session v s t) m.number).state)
    (with_frame_finished v (Dropped Retries) m.id) v
    (λ _. then_last w v _ k (last_same v _ (same_finish v _ _))) (λ _. k))

last_all_settled : (ms : List Mpdu) (e s t : ℕ) (w : World) (ends : ℕ → End) → IsEnding e s t ends w ms →
    Last w (with_all_settled w s t ends ms)
unfolding with_all_settled
last_all_settled [] e s t w ends n = last_here w
last_all_settled (m ∷ ms) e s t w ends n =
    then_last w _ _ (last_settled (ends m.number) e s t ends w m ms n)
    (last_all_settled ms e s t _ ends (ending_settled (ends m.number) e s t ends w m ms refl n))

last_without : (w : World) (e : ℕ) → Last w (without_exchange w e)
unfolding without_exchange
last_without w e = record {
  sessions = λ s t. lasts_refl (session w s t);
  sizes = λ s t. refl;
  live = λ s. refl;
}

last_after_done : (air : Option ℕ) (c : Content) (w : World) (i : IsLawful w) (x : Exchange) (heard : Bool) →
    x.content ≡ c →
    IsFound w i x
    → Last w (after_charge (without_exchange w x.number) x air) →
    Last w (after_done (after_charge (without_exchange w x.number) x air) x heard c)
unfolding after_done
last_after_done air (Frames ms) w i x heard e f h =
    then_last w _ _ (then_last w _ _ h (last_all_settled ms x.number x.station x.tid _
    (end_of (after_charge (without_exchange w x.number) x air) x heard) (ending_of air w i x ms heard e f)))
    (last_caught_up _ x.station x.tid)
last_after_done air (Request g) w i x heard e f h =
    then_last w _ _ h (last_on_session _ x.station x.tid (with_heard_start heard g) (lasts_heard heard g _)
    (heard_size heard g _))

pub last_ended : (air : Option ℕ) (w : World) (i : IsLawful w) (x : Exchange) (heard : Bool) → IsFound w i x →
    Last w (done_outcome w x heard air).world
unfolding done_outcome
last_ended air w i x heard f =
    last_after_done air x.content w i x heard refl f (then_last w _ _ (last_without w x.number)
    (last_same _ _ (same_charged air (without_exchange w x.number) x)))
