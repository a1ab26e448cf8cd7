-- Proves that changes of other parts of a world do not affect the scheduler.
use Rattle.std.proofs.Common.{◌≡◌, refl, ap, ap₂, sym, ◌∙◌, subst, ℕ, ◌*◌, ◌<◌, ◌==◌, ℤ, pos, ◌-ℤ◌, map, Bool, true, false, if◌then◌else◌, List, [], ◌∷◌, Option, Some, None, is_some, IfSome, option_map, inl, inr}
use Rattle.wf_frame.specs.declared.classes.Class.{Class}
use Rattle.wf_frame.specs.declared.classes.Fate.{Fate}
use Rattle.wf_frame.specs.declared.notes.AskedRate.{AskedRate}
use Rattle.wf_frame.specs.declared.notes.GroupCall.{GroupCall}
use Rattle.wf_frame.specs.declared.notes.Note.{Note}
use Rattle.wf_frame.specs.Classes.{class_number}
use Rattle.wf_def_lists.specs.Table.{at, put, with_member}
use Rattle.wf_def_rotation.specs.Rotation.{Rotation, has_key, in_order}
use Rattle.wf_def_agreement.specs.Session.{Session, End}
use Rattle.wf_def_agreement.specs.Receiver.{Receiver, score}
use Rattle.wf_def_world.specs.World.{World, Bounds, Station, Share, Mode, Tid, Queue, Exchange, Mpdu, Content, Frames, Request, no_share, is_live, is_agreed, receiver, exchange, on_station, with_station, on_tid, on_session, on_receiver, with_mode, with_queues, on_share, on_queue, with_fate, with_frame_finished, with_frames_finished, with_exchange, with_bounds}
use Rattle.wf_frame.specs.declared.notes.ServiceAsk.{ServiceAsk}
use Rattle.wf_def_world.specs.Service.{station_served}
use Rattle.wf_def_world.specs.FlowQueues.{taken_for_tid, after_queue_flushed, after_queues_flushed}
use Rattle.wf_def_world.specs.Exchanges.{after_arrival, after_tid_turn, prepared_exchange, aggregate_of, with_failed_finished, with_settled, with_all_settled, caught_up, caught_up_if_plain, after_done, with_spent}
use Rattle.wf_def_world.specs.Step.{after_tids_left, with_frame, rate_outcome, tick_outcome, enqueue_outcome, arrive_outcome, answer_outcome, sleep_outcome, wake_outcome, poll_outcome, reap_outcome, ampdu_outcome, stop_outcome, start_outcome, unsent_outcome, give_up_outcome, flush_outcome, after_tid_flushed, hold_outcome, begin_outcome, free_outcome, cease_outcome, group_outcome, service_outcome, bss_outcome}
use Rattle.wf_def_lists.specs.Lists.{IsOnce}
use Rattle.wf_law_rules.proofs.Lemmas.Tables.{at_put_same, at_put_other}
use Rattle.wf_law_runs.proofs.Deficits.Books.{cases_class, account, core, Account, Books, books, with_account, books_with_station, books_on_queue, books_finish, books_finish_all}
use Rattle.wf_law_runs.proofs.Deficits.BookSteps.{books_take, books_filled, books_prepared, books_left_tids, books_enqueued, books_reaped, books_held, books_begun, books_freed, books_ceased}
use Rattle.wf_law_runs.specs.Windows.{OpenRises}
use Rattle.wf_law_runs.proofs.Deficits.Openings.{owed-core}
use Rattle.wf_sched.specs.ClassRotas.{SchedValue, deficit, quantum_of}
use Rattle.wf_sched_refines.specs.Standing.{HasSameRotas, HasSameAir, KeepsRotas, LeavesRotas, share_in}
use Rattle.wf_sched_refines.proofs.Owed.{told, owed_told}
use Rattle.wf_sched_refines.proofs.Stands.{Stands, pending_of, standing_of, to_books, of_books, with_books, stands_opened, stands_account, IsOtherwise}

pub same_turns : (w u : World) → HasSameRotas w u → LeavesRotas w u
same_turns w u k v h = record {
  sized = h.sized;
  stations = h.stations ∙ sym (ap (λ c. c.stations) k.config);
  quantum = h.quantum ∙ sym (ap (λ c. c.quantum) k.config);
  rotations = λ c. h.rotations c ∙ sym (k.rotations c);
  deficits = λ s c is. h.deficits s c (was s is) ∙ sym (k.standings s c (was s is));
  quanta = λ s c is. h.quanta s c (was s is) ∙ sym
      (ap₂ (λ (m n : ℕ). m * n) (ap (λ c. c.quantum) k.config) (k.weights s (was s is)));
  once = λ c. subst (λ (r : Rotation). IsOnce (in_order r)) (sym (k.rotations c)) (h.once c);
  listed = λ s c here. k.live s ∙ h.listed s c (sym (ap (λ (r : Rotation). has_key r s) (k.rotations c))
      ∙ here);
  live = λ s is. subst (λ (n : ℕ). s < n) (sym (ap (λ c. c.stations) k.config)) (h.live s (was s is));
}
  where
    was : (s : ℕ) → is_live u s ≡ true → is_live w s ≡ true
    was s is = sym (k.live s) ∙ is

-- ---- one change after another

pub leaves_same : (w u : World) → books u ≡ books w → LeavesRotas w u
leaves_same w u e v h = with_books v u (books w) e (to_books v w h)

pub leaves_then : (w u x : World) → LeavesRotas w u → LeavesRotas u x → LeavesRotas w x
leaves_then w u x h k v stands = k v (h v stands)

pub leaves_if : (b : Bool) (w u x : World) → LeavesRotas w u → LeavesRotas w x →
    LeavesRotas w (if b then u else x)
leaves_if true w u x h k = h
leaves_if false w u x h k = k

-- ---- a station

mapped : (P : Account → Type 0) (f : Station → Station) (o : Option Station) →
    ((x : Station) → P (account x) → P (account (f x))) → IfSome (option_map account o) P →
    IfSome (option_map account (option_map f o)) P
mapped P f None k h = tt
mapped P f (Some x) k h = k x h

some_mapped : (f : Station → Station) (o : Option Station) →
    is_some (option_map account (option_map f o)) ≡ is_some (option_map account o)
some_mapped f None = refl
some_mapped f (Some x) = refl

nothing_else : (v : SchedValue) (b : Books) (s : ℕ) → Stands v b → IsOtherwise s v v
nothing_else v b s h = record {
  sized = h.sized;
  stations = refl;
  quantum = refl;
  rotations = λ c. refl;
  deficits = λ y other c. refl;
  quanta = λ y other c. refl;
}

station_stands : (v : SchedValue) (b : Books) (s : ℕ) (f : Station → Station) (o : Option Station) →
    KeepsRotas f → b.accounts s ≡ option_map account o → Stands v b →
    Stands v (with_account b s (option_map account (option_map f o)))
station_stands v b s f o keeps is h = stands_account v v b s (option_map account (option_map f o)) h
    (nothing_else v b s h) (record {
      deficits = λ c. mapped (λ a. deficit v c s ≡ standing_of b s c a) f o
          (λ x e. e ∙ ap (λ (d : ℤ). d -ℤ pos (pending_of b s c)) (sym (keeps.deficits x c)))
          (subst (λ (p : Option Account). IfSome p (λ a. deficit v c s ≡ standing_of b s c a)) is
          (h.deficits s c));
      quanta = λ c. mapped (λ a. quantum_of v c s ≡ b.config.quantum * a.weight) f o
          (λ x e. e ∙ ap (λ (n : ℕ). b.config.quantum * n) (sym (keeps.weight x)))
          (subst (λ (p : Option Account). IfSome p (λ a. quantum_of v c s ≡ b.config.quantum * a.weight)) is
          (h.quanta s c));
      listed = λ c here. some_mapped f o ∙ ap is_some (sym is) ∙ h.listed c s here;
      live = λ some. h.live s (ap is_some is ∙ sym (some_mapped f o) ∙ some);
    })

pub station_leaves : (w : World) (s : ℕ) (f : Station → Station) → KeepsRotas f →
    LeavesRotas w (on_station w s f)
unfolding on_station
station_leaves w s f keeps v h = with_books v _ _
    (books_with_station w s (option_map f (at None w.stations s)))
    (station_stands v (books w) s f (at None w.stations s) keeps refl (to_books v w h))

pub tid_leaves : (w : World) (s t : ℕ) (f : Tid → Tid) → LeavesRotas w (on_tid w s t f)
unfolding on_tid
tid_leaves w s t f = station_leaves w s _ (record { weight = λ x. refl; deficits = λ x c. refl })

pub session_leaves : (w : World) (s t : ℕ) (f : Session → Session) → LeavesRotas w (on_session w s t f)
unfolding on_session
session_leaves w s t f = tid_leaves w s t _

pub receiver_leaves : (w : World) (s t : ℕ) (f : Receiver → Receiver) → LeavesRotas w (on_receiver w s t f)
unfolding on_receiver
receiver_leaves w s t f = tid_leaves w s t _

pub mode_leaves : (w : World) (s t : ℕ) (mode : Mode) → LeavesRotas w (with_mode w s t mode)
unfolding with_mode
mode_leaves w s t mode = tid_leaves w s t _

pub queues_leave : (w : World) (s t : ℕ) (r : Rotation) → LeavesRotas w (with_queues w s t r)
unfolding with_queues
queues_leave w s t r = tid_leaves w s t _

pub spent_leaves : (w : World) (x : Exchange) → LeavesRotas w (with_spent w x)
unfolding with_spent
spent_leaves w x = station_leaves w x.station _ (record { weight = λ x. refl; deficits = λ x c. refl })

-- a change of a share that keeps the deficit
pub share_leaves : (w : World) (s : ℕ) (c : Class) (f : Share → Share) →
    ((x : Share) → (f x).deficit ≡ x.deficit) → LeavesRotas w (on_share w s c f)
unfolding on_share
share_leaves w s c f keeps = station_leaves w s _ (record {
  weight = λ x. refl;
  deficits = λ x d. elim (cases_class d c) [
    | inl here ↦ subst (λ (z : Class). (at no_share
        (put no_share x.shares (class_number c) (f (share_in x c))) (class_number z)).deficit
        ≡ (share_in x z).deficit) (sym here)
        (ap (λ (y : Share). y.deficit) (at_put_same no_share x.shares (class_number c) (f (share_in x c)))
        ∙ keeps (share_in x c))
    | inr other ↦ ap (λ (y : Share). y.deficit) (at_put_other no_share x.shares (class_number c)
        (class_number d) (f (share_in x c)) (λ e. other (sym e)))
  ];
})

pub turn_leaves : (w : World) (s : ℕ) (c : Class) (t : ℕ) → LeavesRotas w (after_tid_turn w s c t)
unfolding after_tid_turn
turn_leaves w s c t = share_leaves w s c _ (λ x. refl)

-- ---- frames and flow queues

pub queue_leaves : (w : World) (q : ℕ) (f : Queue → Queue) → LeavesRotas w (on_queue w q f)
queue_leaves w q f = leaves_same w _ (books_on_queue w q f)

pub accept_leaves : (w : World) (note : Note) → LeavesRotas w (with_frame w note)
unfolding with_frame
accept_leaves w note = leaves_same w _ refl

pub fate_leaves : (w : World) (id : ℕ) (fate : Fate) → LeavesRotas w (with_fate w id fate)
unfolding with_fate
fate_leaves w id fate = leaves_same w _ refl

pub finish_leaves : (w : World) (fate : Fate) (id : ℕ) → LeavesRotas w (with_frame_finished w fate id)
finish_leaves w fate id = leaves_same w _ (books_finish w fate id)

pub finish_all_leaves : (w : World) (fate : Fate) (ids : List ℕ) →
    LeavesRotas w (with_frames_finished w fate ids)
finish_all_leaves w fate ids = leaves_same w _ (books_finish_all ids w fate)

pub take_leaves : (w : World) (s t : ℕ) → LeavesRotas w (taken_for_tid w s t).world
take_leaves w s t = leaves_same w _ (books_take w s t)

-- ---- exchanges

-- an open exchange has news of its receiver
pub exchange_leaves : (w : World) (x y : Exchange) (e : ℕ) → exchange w e ≡ Some x →
    OpenRises 0 w.exchanges w.opened → HasSameAir x y → LeavesRotas w (with_exchange w y)
unfolding with_exchange
exchange_leaves w x y e known rises same v h = of_books v _ (stands_opened v (books w)
    (map core (told y w.opened)) w.exchanges
    (λ s c. ap (λ (n : ℕ). if w.config.pending == 1 then n else 0)
    (owed-core s c (told y w.opened) ∙ owed_told w.opened x y e s c 0 w.exchanges rises known same
    ∙ sym (owed-core s c w.opened))) (to_books v w h))

pub filled_leaves : (w : World) (s t : ℕ) → LeavesRotas w (aggregate_of w s t).world
filled_leaves w s t = leaves_same w _ (books_filled w s t)

pub prepared_leaves : (w : World) (s t : ℕ) → LeavesRotas w (prepared_exchange w s t).world
prepared_leaves w s t = leaves_same w _ (books_prepared w s t)

-- the numbers of an exchange that ends are settled
slot_leaves : (w : World) (s t : ℕ) (m : Mpdu) → LeavesRotas w (with_failed_finished w s t m)
unfolding with_failed_finished
slot_leaves w s t m = leaves_if _ w _ _ (finish_leaves w _ _) (λ v h. h)

settled_leaves : (w : World) (s t : ℕ) (end : End) (m : Mpdu) → LeavesRotas w (with_settled w s t end m)
unfolding with_settled
settled_leaves w s t End.Acknowledged m = leaves_then w _ _ (session_leaves w s t _) (finish_leaves _ _ _)
settled_leaves w s t End.Missed m = leaves_then w _ _ (session_leaves w s t _) (slot_leaves _ s t m)
settled_leaves w s t End.GivenUp m = leaves_then w _ _ (session_leaves w s t _) (slot_leaves _ s t m)
settled_leaves w s t End.Unsent m = leaves_then w _ _ (session_leaves w s t _) (slot_leaves _ s t m)

all_settled_leave : (ms : List Mpdu) (w : World) (s t : ℕ) (ends : ℕ → End) →
    LeavesRotas w (with_all_settled w s t ends ms)
unfolding with_all_settled
all_settled_leave [] w s t ends = λ v h. h
all_settled_leave (m ∷ ms) w s t ends = leaves_then w _ _ (settled_leaves w s t _ m)
    (all_settled_leave ms _ s t ends)

-- a TID without an agreement catches up
caught_up_leaves : (w : World) (s t : ℕ) → LeavesRotas w (caught_up_if_plain w s t)
unfolding caught_up_if_plain caught_up
caught_up_leaves w s t = leaves_if (is_agreed w s t) w _ _ (λ v h. h)
    (leaves_then w _ _ (session_leaves w s t _) (receiver_leaves _ s t _))

pub after_done_leaves : (w : World) (x : Exchange) (heard : Bool) (content : Content) →
    LeavesRotas w (after_done w x heard content)
unfolding after_done
after_done_leaves w x heard (Frames mpdus) = leaves_then w _ _ (all_settled_leave mpdus w _ _ _)
    (caught_up_leaves _ x.station x.tid)
after_done_leaves w x heard (Request start) = session_leaves w _ _ _

-- ---- whole calls

pub enqueued_leaves : (w : World) (s t flow len : ℕ) → LeavesRotas w (enqueue_outcome w s t flow len).world
enqueued_leaves w s t flow len = leaves_same w _ (books_enqueued w s t flow len)

pub rate_leaves : (w : World) (s : ℕ) (rate : AskedRate) →
    LeavesRotas w (rate_outcome w s rate).world
unfolding rate_outcome
rate_leaves w s rate = station_leaves w s _ (record { weight = λ x. refl; deficits = λ x c. refl })

pub tick_leaves : (w : World) (by : ℕ) → LeavesRotas w (tick_outcome w by).world
unfolding tick_outcome
tick_leaves w by = leaves_same w _ refl

pub arrived_leaves : (w : World) (x : Exchange) (e i : ℕ) → exchange w e ≡ Some x →
    OpenRises 0 w.exchanges w.opened → LeavesRotas w (arrive_outcome w x i).world
unfolding arrive_outcome on_receiver on_tid on_station with_station
arrived_leaves w x e i known rises =
    let u : World = on_receiver w x.station x.tid (after_arrival x.content i) in
    let y : Exchange = record x { arrived = with_member i x.arrived } in
    leaves_then w u (with_exchange u y) (receiver_leaves w x.station x.tid (after_arrival x.content i))
    (exchange_leaves u x y e known rises
    (record { number = refl; station = refl; class = refl; charge = refl }))

pub answered_leaves : (w : World) (x : Exchange) (e : ℕ) → exchange w e ≡ Some x →
    OpenRises 0 w.exchanges w.opened → LeavesRotas w (answer_outcome w x).world
unfolding answer_outcome
answered_leaves w x e known rises =
    exchange_leaves w x (record x { answer = Some (score (receiver w x.station x.tid)) }) e known rises
    (record { number = refl; station = refl; class = refl; charge = refl })

-- the device marks a transmission
pub unsent_leaves : (w : World) (x : Exchange) (e i : ℕ) → exchange w e ≡ Some x →
    OpenRises 0 w.exchanges w.opened → LeavesRotas w (unsent_outcome w x i).world
unfolding unsent_outcome
unsent_leaves w x e i known rises =
    exchange_leaves w x (record x { unsent = with_member i x.unsent }) e known rises
    (record { number = refl; station = refl; class = refl; charge = refl })

pub given_up_leaves : (w : World) (x : Exchange) (e i : ℕ) → exchange w e ≡ Some x →
    OpenRises 0 w.exchanges w.opened → LeavesRotas w (give_up_outcome w x i).world
unfolding give_up_outcome
given_up_leaves w x e i known rises =
    exchange_leaves w x (record x { given_up = with_member i x.given_up }) e known rises
    (record { number = refl; station = refl; class = refl; charge = refl })

-- a TID is flushed
flushed_queues_leave : (qs : List ℕ) (w : World) → LeavesRotas w (after_queues_flushed w qs)
unfolding after_queues_flushed after_queue_flushed
flushed_queues_leave [] w = λ v h. h
flushed_queues_leave (q ∷ qs) w = leaves_then w _ _
    (leaves_then w _ _ (queue_leaves w q _) (finish_all_leaves _ _ _)) (flushed_queues_leave qs _)

pub flushed_leaves : (w : World) (s t : ℕ) → LeavesRotas w (flush_outcome w s t).world
unfolding flush_outcome after_tid_flushed
flushed_leaves w s t = leaves_then w _ _
    (leaves_then w _ _ (leaves_then w _ _ (session_leaves w s t _) (finish_all_leaves _ _ _))
    (flushed_queues_leave _ _)) (caught_up_leaves _ s t)

-- a TID's agreement begins or ends
pub held_leaves : (w : World) (s t : ℕ) → LeavesRotas w (hold_outcome w s t).world
held_leaves w s t = leaves_same w _ (books_held w s t)

pub begun_leaves : (w : World) (s t window : ℕ) → LeavesRotas w (begin_outcome w s t window).world
begun_leaves w s t window = leaves_same w _ (books_begun w s t window)

pub freed_leaves : (w : World) (s t : ℕ) → LeavesRotas w (free_outcome w s t).world
freed_leaves w s t = leaves_same w _ (books_freed w s t)

pub ceased_leaves : (w : World) (s t : ℕ) → LeavesRotas w (cease_outcome w s t).world
ceased_leaves w s t = leaves_same w _ (books_ceased w s t)

pub slept_leaves : (w : World) (s : ℕ) → LeavesRotas w (sleep_outcome w s).world
unfolding sleep_outcome
slept_leaves w s = station_leaves w s _ (record { weight = λ x. refl; deficits = λ x c. refl })

pub bounded_leaves : (w : World) (b : Bounds) → LeavesRotas w (with_bounds w b)
bounded_leaves w b = leaves_same w (with_bounds w b) refl

pub stated_leaves : (w : World) (s octets : ℕ) → LeavesRotas w (ampdu_outcome w s octets).world
stated_leaves w s octets = station_leaves w s _ (record { weight = λ x. refl; deficits = λ x c. refl })

pub stopped_leaves : (w : World) (s : ℕ) → LeavesRotas w (stop_outcome w s).world
stopped_leaves w s = station_leaves w s _ (record { weight = λ x. refl; deficits = λ x c. refl })

pub started_leaves : (w : World) (s : ℕ) → LeavesRotas w (start_outcome w s).world
started_leaves w s = station_leaves w s _ (record { weight = λ x. refl; deficits = λ x c. refl })

pub woken_leaves : (w : World) (s : ℕ) → LeavesRotas w (wake_outcome w s).world
unfolding wake_outcome
woken_leaves w s = station_leaves w s _ (record { weight = λ x. refl; deficits = λ x c. refl })

pub credited_leaves : (w : World) (s : ℕ) → LeavesRotas w (poll_outcome w s).world
unfolding poll_outcome
credited_leaves w s = station_leaves w s _ (record { weight = λ x. refl; deficits = λ x c. refl })

pub reaped_leaves : (w : World) (ids : List ℕ) → LeavesRotas w (reap_outcome w ids).world
reaped_leaves w ids = leaves_same w _ (books_reaped ids w)

pub grouped_leaves : (w : World) (ask : GroupCall) → LeavesRotas w (group_outcome w ask).world
grouped_leaves w ask = leaves_same w _ refl

pub served_leaves : (w : World) (ask : ServiceAsk) → LeavesRotas w (service_outcome w ask).world
served_leaves w ask =
    station_leaves w (station_served ask) _ (record { weight = λ x. refl; deficits = λ x c. refl })

pub moved_leaves : (w : World) (s b : ℕ) → LeavesRotas w (bss_outcome w s b).world
moved_leaves w s b = station_leaves w s _ (record { weight = λ x. refl; deficits = λ x c. refl })

pub left_tids_leave : (w : World) (s : ℕ) (ts : List ℕ) → LeavesRotas w (after_tids_left w s ts)
left_tids_leave w s ts = leaves_same w _ (books_left_tids ts w s)
