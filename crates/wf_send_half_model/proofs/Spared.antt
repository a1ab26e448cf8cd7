-- Proves that a call does not change the readiness of a station that it does not concern, in each class in
-- which the limit drops none of its frames. By cases of the call: it changes nothing that readiness reads.
use Rattle.std.proofs.Common.{◌≡◌, refl, ap, ap₂, sym, ◌∙◌, subst, arith, ℕ, suc, ◌==◌, ◌<◌, ◌≤◌, Bool, true, false, not, ◌&&◌, ◌||◌, if◌then◌else◌, nat_lt, List, [], ◌∷◌, ◌++◌, length, Option, Some, None, unwrap_or, option_map, inl, inr, sum_by, is_some, IfSome}
use Rattle.std.proofs.lemmas.Bool.{cases_eq, not-false, and_parts, ltb-true, lt-ltb}
use Rattle.std.proofs.lemmas.List.{length-append}
use Rattle.std.proofs.lemmas.List.Sums.{sum_by-cons}
use Rattle.wf_frame.specs.declared.classes.Class.{Class}
use Rattle.wf_frame.specs.declared.settings.Config.{Config}
use Rattle.wf_frame.specs.declared.notes.Note.{Note}
use Rattle.wf_frame.specs.declared.notes.Limits.{Limits}
use Rattle.wf_law_runs.proofs.Common.Picked.{picked_world}
use Rattle.wf_frame.specs.declared.notes.Note.TheVariants.{Enqueue, Asked}
use Rattle.wf_frame.specs.declared.notes.Ask.TheVariants.{Join, Leave, Rate, Tick, Pull, Arrive, Answer, Done, Sleep, Wake, Poll, Rx, Reap, Ampdu, Stop, Start, Unsent, GiveUp, Flush, Offload, Weight, Hold, Begin, Free, Cease, Group, Service, Bss}
use Rattle.wf_frame.specs.declared.notes.Ask.TheVariants as call
use Rattle.wf_frame.specs.declared.notes.Refusal.{Refusal}
use Rattle.wf_frame.specs.declared.notes.Refusal.TheVariants.{Idle}
use Rattle.wf_frame.specs.Classes.{lower_tid, upper_tid, all_classes}
use Rattle.wf_def_lists.specs.Table.{at}
use Rattle.wf_def_lists.specs.Lists.{on}
use Rattle.wf_def_codel.specs.Codel.{Item}
use Rattle.wf_def_rotation.specs.Rotation.{Rotation, has_key, in_order}
use Rattle.wf_def_agreement.specs.Session.{Session, waiting_numbers, request_due, has_room}
use Rattle.wf_def_world.specs.World.{World, Station, Queue, Exchange, no_tid, no_station, new_queue, holds_back, is_held_back, tid_of, session, queue, is_live, rotation, exchange, on_queue, with_rotation, on_station, with_station, on_share, with_frame_finished, with_fate, with_queues, on_tid}
use Rattle.wf_def_world.specs.Service.{station_served}
use Rattle.wf_def_world.specs.FlowQueues.{frames_queued, is_at_limit, longest_queue, without_head, after_limit, queue_for, with_appended, when_listed, with_listed_queue, after_put_in}
use Rattle.wf_def_world.specs.CanSend.{request_open, can_send, can_send_in, is_reachable, may_receive, is_ready, with_listing_in, with_listings_in, with_listings_of}
use Rattle.wf_def_world.specs.Exchanges.{after_pick, picked_station, station_need}
use Rattle.wf_def_world.specs.Refusals.{refusal, refusals}
use Rattle.wf_def_world.specs.Step.{Outcome, outcome_of, concerned_station, after_refusal, step, next_item, with_frame, enqueue_outcome, join_outcome, offload_outcome, plain_outcome, weight_outcome, hold_outcome, begin_outcome, free_outcome, cease_outcome, rate_outcome, tick_outcome, pull_outcome_for, pull_outcome, outcome_where_open, sleep_outcome, wake_outcome, poll_outcome, rx_outcome, reap_outcome, arrive_outcome, answer_outcome, unsent_outcome, give_up_outcome, done_outcome}
use Rattle.wf_law_rules.proofs.Lemmas.Numbers.{on_if}
use Rattle.wf_law_rules.proofs.Lemmas.Counts.{on-cons, on-cons_same, listed-some}
use Rattle.wf_law_rules.proofs.Lemmas.Tables.{each_put}
use Rattle.wf_law_runs.specs.Queues.{KeepsQueues}
use Rattle.wf_law_runs.proofs.Queues.Law.{queue_law}
use Rattle.wf_law_runs.proofs.Queues.Shelves.{Shelves, shelves, shelves_after_pick, shelves_picked, shelves_open, shelves_ended, shelves_arrived, shelves_answered, shelves_marked, shelves_reaped, shelves_weighed, shelves_held, shelves_begun, shelves_freed, shelves_ceased}
use Rattle.wf_law_runs.proofs.Windows.Opened.{left_true, pick_ready}
use Rattle.wf_law_runs.proofs.Deficits.KeptStep.{NoRow, no_row}
use Rattle.wf_law_runs.proofs.Deficits.Mild.{sends, Lists, IsMild}
use Rattle.wf_law_runs.proofs.Deficits.MildStep.{mild_after_pick, mild_done}
use Rattle.wf_law_runs.proofs.Deficits.Ready.{IsOrderly, orderly}
use Rattle.wf_queue_flows_refines.specs.Frames.{loses_next_in}
use Rattle.wf_send_half_model.specs.Standing.{IsReached}
use Rattle.wf_send_half_model.specs.Readiness.{loses_in}
use Rattle.wf_send_half_model.proofs.Reached.{by_law, step_done, step_refused}
use Rattle.wf_send_half_model.proofs.Readers.{lower_low, upper_low}
use Rattle.wf_send_half_model.proofs.Apart.{IsApart, apart_pulled, apart_gone, apart_flushed}

-- ---- the values that readiness reads

-- whether a TID can send, by its session, whether it is held back, whether a request is open, and how many
-- frames are queued
abbrev sends_by : Session → Bool → Bool → ℕ → Bool
sends_by x held asked n = if request_due x then not asked
    else nat_lt 0 (length (waiting_numbers x)) || (nat_lt 0 n && (has_room x && not held))

-- TID t has the same session, open request and number of queued frames in v as in w, and is held back or not
-- as in w
pub record IsSameTid (w v : World) (s t : ℕ) : Type 0 where
  pub session : session v s t ≡ session w s t
  pub held : is_held_back v s t ≡ is_held_back w s t
  pub request : request_open v s t ≡ request_open w s t
  pub queued : frames_queued v s t ≡ frames_queued w s t

can_send_same : (w v : World) (s t : ℕ) → IsSameTid w v s t → can_send v s t ≡ can_send w s t
can_send_same w v s t h =
    ap (λ (x : Session). sends_by x (is_held_back v s t) (request_open v s t) (frames_queued v s t)) h.session
    ∙ ap₂ (λ (a b : Bool). sends_by (session w s t) a b (frames_queued v s t)) h.held h.request
    ∙ ap (λ (n : ℕ). sends_by (session w s t) (is_held_back w s t) (request_open w s t) n) h.queued

-- TID t has the same session and open request in v as in w, is held back or not as in w, and has at most as
-- many queued frames
pub record IsLessTid (w v : World) (s t : ℕ) : Type 0 where
  pub session : session v s t ≡ session w s t
  pub held : is_held_back v s t ≡ is_held_back w s t
  pub request : request_open v s t ≡ request_open w s t
  pub queued : frames_queued v s t ≤ frames_queued w s t

sends_more : (x : Session) (held asked : Bool) (n m : ℕ) → n ≤ m → sends_by x held asked n ≡ true →
    sends_by x held asked m ≡ true
sends_more x held asked n m h e = go (request_due x) (nat_lt 0 (length (waiting_numbers x)))
    (has_room x && not held) e
  where
    go : (a b c : Bool) → (if a then not asked else b || (nat_lt 0 n && c)) ≡ true →
        (if a then not asked else b || (nat_lt 0 m && c)) ≡ true
    go true b c e = e
    go false true c e = refl
    go false false c e =
        let parts = and_parts _ _ e in
        let some : 0 < n = ltb-true _ _ parts.0 in
        let more : nat_lt 0 m ≡ true = lt-ltb _ _ (omega arith) in
        rw (more, parts.1) refl

can_send_less : (w v : World) (s t : ℕ) → IsLessTid w v s t → can_send v s t ≡ true → can_send w s t ≡ true
can_send_less w v s t h e =
    sends_more (session w s t) (is_held_back w s t) (request_open w s t) (frames_queued v s t)
    (frames_queued w s t) h.queued
    (sym (ap (λ (x : Session). sends_by x (is_held_back v s t) (request_open v s t) (frames_queued v s t))
    h.session
    ∙ ap₂ (λ (a b : Bool). sends_by (session w s t) a b (frames_queued v s t)) h.held h.request) ∙ e)

-- a TID that is the same has no more frames
pub same_less : (w v : World) (s t : ℕ) → IsSameTid w v s t → IsLessTid w v s t
same_less w v s t h =
    record { session = h.session; held = h.held; request = h.request; queued = omega (arith, h.queued) }

either_less : (a b c d : Bool) → (a ≡ true → c ≡ true) → (b ≡ true → d ≡ true) → a || b ≡ true →
    c || d ≡ true
either_less true b c d h k e = ap (λ (z : Bool). z || d) (h refl)
either_less false b true d h k e = refl
either_less false b false d h k e = k e

-- if only the number of queued frames falls, and the station may receive only where it might before, no
-- station becomes ready
pub ready_less_by : (w v : World) (c : Class) (s : ℕ) → is_live v s ≡ is_live w s →
    (may_receive v s c ≡ true → may_receive w s c ≡ true) → IsLessTid w v s (lower_tid c) →
    IsLessTid w v s (upper_tid c) → is_ready v c s ≡ true → is_ready w c s ≡ true
ready_less_by w v c s live may lower upper h =
    let parts = and_parts (is_live v s) _ h in
    let more = and_parts (can_send_in v s c) (may_receive v s c) parts.1 in
    let is : is_live w s ≡ true = sym live ∙ parts.0 in
    let sends_there : can_send_in w s c ≡ true =
    either_less (can_send v s (lower_tid c)) (can_send v s (upper_tid c)) (can_send w s (lower_tid c))
    (can_send w s (upper_tid c)) (can_send_less w v s (lower_tid c) lower)
    (can_send_less w v s (upper_tid c) upper) more.0 in
    let receives_there : may_receive w s c ≡ true = may more.1 in
    rw (is, sends_there, receives_there) refl

-- whether a station is ready, by whether it is live, its two TIDs can send, and it may receive
abbrev ready_by : Bool → Bool → Bool → Bool → Bool
ready_by live lower upper may = live && ((lower || upper) && may)

pub ready_same_by : (w v : World) (c : Class) (s : ℕ) → is_live v s ≡ is_live w s →
    may_receive v s c ≡ may_receive w s c → IsSameTid w v s (lower_tid c) → IsSameTid w v s (upper_tid c) →
    is_ready v c s ≡ is_ready w c s
ready_same_by w v c s live may lower upper =
    ap (λ (b : Bool). ready_by b (can_send v s (lower_tid c)) (can_send v s (upper_tid c))
    (may_receive v s c)) live
    ∙ ap (λ (b : Bool). ready_by (is_live w s) b (can_send v s (upper_tid c)) (may_receive v s c))
    (can_send_same w v s (lower_tid c) lower)
    ∙ ap (λ (b : Bool). ready_by (is_live w s) (can_send w s (lower_tid c)) b (may_receive v s c))
    (can_send_same w v s (upper_tid c) upper)
    ∙ ap (λ (b : Bool). ready_by (is_live w s) (can_send w s (lower_tid c)) (can_send w s (upper_tid c)) b)
    may

-- ---- how many frames are queued

sum_same : (f g : ℕ → ℕ) (qs : List ℕ) → ((q : ℕ) → 0 < on qs q → f q ≡ g q) → sum_by f qs ≡ sum_by g qs
sum_same f g [] h = refl
sum_same f g (q ∷ qs) h =
    omega (
      arith,
      sum_by-cons f q qs,
      sum_by-cons g q qs,
      h q (omega (arith, on-cons_same q qs)),
      sum_same f g qs (λ p k. h p (omega (arith, on-cons q p qs))),
    )

-- the same queues are listed, each as long as before
pub queued_same : (w v : World) (s t : ℕ) → (tid_of v s t).queues ≡ (tid_of w s t).queues →
    ((q : ℕ) → Lists w s t q → length (queue v q).items ≡ length (queue w q).items) →
    frames_queued v s t ≡ frames_queued w s t
queued_same w v s t lists long =
    ap (λ (r : Rotation). sum_by (λ q. length (queue v q).items) (in_order r)) lists
    ∙ sum_same (λ q. length (queue v q).items) (λ q. length (queue w q).items)
    (in_order (tid_of w s t).queues) long

sum_less : (f g : ℕ → ℕ) (qs : List ℕ) → ((q : ℕ) → 0 < on qs q → f q ≤ g q) → sum_by f qs ≤ sum_by g qs
sum_less f g [] h = omega arith
sum_less f g (q ∷ qs) h =
    omega (
      arith,
      sum_by-cons f q qs,
      sum_by-cons g q qs,
      h q (omega (arith, on-cons_same q qs)),
      sum_less f g qs (λ p k. h p (omega (arith, on-cons q p qs))),
    )

-- the same queues are listed, none longer than before
pub queued_less : (w v : World) (s t : ℕ) → (tid_of v s t).queues ≡ (tid_of w s t).queues →
    ((q : ℕ) → Lists w s t q → length (queue v q).items ≤ length (queue w q).items) →
    frames_queued v s t ≤ frames_queued w s t
queued_less w v s t lists long =
    subst (λ (r : Rotation). sum_by (λ q. length (queue v q).items) (in_order r) ≤ frames_queued w s t)
    (sym lists)
    (sum_less (λ q. length (queue v q).items) (λ q. length (queue w q).items)
    (in_order (tid_of w s t).queues) long)

-- ---- a call that concerns another station

-- no queue of the TID gets shorter
abbrev KeepsLong : World → World → ℕ → ℕ → Type 0
KeepsLong w v s t = (q : ℕ) → Lists w s t q → length (queue w q).items ≤ length (queue v q).items

sends_same : {X : Type 0} (f : Station → X) → ((x : Station) → f (sends x) ≡ f x) → (o p : Option Station) →
    option_map sends o ≡ option_map sends p → f (unwrap_or o no_station) ≡ f (unwrap_or p no_station)
sends_same {X} f h o p e = sym (shown o) ∙ ap (λ (z : Option Station). f (unwrap_or z no_station)) e ∙ shown p
  where
    shown : (o : Option Station) → f (unwrap_or (option_map sends o) no_station) ≡ f (unwrap_or o no_station)
    shown None = refl
    shown (Some x) = h x

live_same : (o p : Option Station) → option_map sends o ≡ option_map sends p → is_some o ≡ is_some p
live_same None None e = refl
live_same (Some x) (Some y) e = refl
live_same None (Some y) e = absurd (cc e)
live_same (Some x) None e = absurd (cc e)

module _ (w v : World) (i s : ℕ) (other : s ≡ i → ⊥) (m : IsMild i w v) where
  tid_same : (t : ℕ) → t < 8 → KeepsLong w v s t → IsSameTid w v s t
  tid_same t below long =
      let same : option_map sends (at None v.stations s) ≡ option_map sends (at None w.stations s) =
      m.stations s other in
      record {
        session = sends_same (λ x. (at no_tid x.tids t).session) (λ x. refl) (at None v.stations s)
            (at None w.stations s) same;
        held = sends_same (λ x. holds_back (at no_tid x.tids t).mode) (λ x. refl) (at None v.stations s)
            (at None w.stations s) same;
        request = m.requests s t other;
        queued = queued_same w v s t (sends_same (λ x. (at no_tid x.tids t).queues) (λ x. refl)
            (at None v.stations s) (at None w.stations s) same)
            (λ q k. omega (arith, long q k, m.lengths s t q other below k));
      }

  mild_ready : (c : Class) → KeepsLong w v s (lower_tid c) → KeepsLong w v s (upper_tid c) →
      is_ready v c s ≡ is_ready w c s
  mild_ready c lower upper =
      let same : option_map sends (at None v.stations s) ≡ option_map sends (at None w.stations s) =
      m.stations s other in
      ready_same_by w v c s (live_same (at None v.stations s) (at None w.stations s) same)
      (ap₂ (λ (a b : Bool). a && b)
      (sends_same (λ x. not x.stopped) (λ x. refl) (at None v.stations s) (at None w.stations s) same)
      (ap₂ (λ (a b : Bool). a && b)
      (sends_same (λ x. is_reachable x c) (λ x. refl) (at None v.stations s)
      (at None w.stations s) same)
      (ap₂ (λ (config : Config) (n : ℕ). (config.aql == 0) || nat_lt n config.aql) m.config
      (m.airtime s c other))))
      (tid_same (lower_tid c) (lower_low c) lower) (tid_same (upper_tid c) (upper_low c) upper)

-- ---- an enqueue shortens only the queue that loses its head

long_by : (w v : World) (q : ℕ) → shelves v ≡ shelves w → length (queue w q).items ≤ length (queue v q).items
long_by w v q e = let same : length (queue v q).items ≡ length (queue w q).items =
    ap (λ (b : Shelves). length (b.queues q).items) e in omega (arith, same)

long_then : (w u v : World) (q : ℕ) → length (queue w q).items ≤ length (queue u q).items →
    length (queue u q).items ≤ length (queue v q).items → length (queue w q).items ≤ length (queue v q).items
long_then w u v q h k = omega (arith, h, k)

long_on_queue : (w : World) (p q : ℕ) (f : Queue → Queue) →
    (p ≡ q → length (queue w q).items ≤ length (f (queue w q)).items) →
    length (queue w q).items ≤ length (queue (on_queue w p f) q).items
unfolding on_queue
long_on_queue w p q f h =
    each_put (λ k y. (p ≡ k → length (queue w k).items ≤ length (f (queue w k)).items) →
    length (queue w k).items ≤ length y.items) new_queue w.queues p (f (queue w p))
    (λ k _. omega arith) (λ g. g refl) q h

long_without_head : (items : List Item) (w : World) (p q : ℕ) → (p ≡ q → ⊥) →
    length (queue w q).items ≤ length (queue (without_head w p items) q).items
unfolding without_head with_frame_finished with_fate
long_without_head [] w p q other = omega arith
long_without_head (x ∷ rest) w p q other = long_on_queue w p q (λ y. record y { items = rest })
    (λ e. absurd (other e))

pub long_after_limit : (w : World) (q : ℕ) → (is_at_limit w ≡ true → longest_queue w ≡ q → ⊥) →
    length (queue w q).items ≤ length (queue (after_limit w) q).items
unfolding after_limit
long_after_limit w q other = on_if (λ (v : World). length (queue w q).items ≤ length (queue v q).items)
    (is_at_limit w) _ _
    (λ e. long_without_head (queue w (longest_queue w)).items w (longest_queue w) q (other e))
    (λ _. omega arith)

long_listed_queue : (w : World) (s t p q : ℕ) →
    length (queue w q).items ≤ length (queue (with_listed_queue w s t p) q).items
unfolding with_listed_queue with_queues on_tid on_station with_station
long_listed_queue w s t p q = on_if (λ (v : World). length (queue w q).items ≤ length (queue v q).items)
    (has_key (tid_of w s t).queues p) _ _
    (λ _. omega arith) (λ _. long_on_queue w p q (when_listed w.config)
    (λ _. omega arith))

long_put_in : (w : World) (s t p q : ℕ) (x : Item) →
    length (queue w q).items ≤ length (queue (after_put_in w s t p x) q).items
unfolding after_put_in with_appended
long_put_in w s t p q x =
    let u : World = on_queue w p (λ y. record y { items = y.items ++ x ∷ [] }) in
    long_then w u (with_listed_queue u s t p) q (long_on_queue w p q
    (λ y. record y { items = y.items ++ x ∷ [] })
    (λ _. omega (arith, length-append (queue w q).items (x ∷ [])))) (long_listed_queue u s t p q)

long_enqueued : (w : World) (s t flow len q : ℕ) → (is_at_limit w ≡ true → longest_queue w ≡ q → ⊥) →
    length (queue w q).items ≤ length (queue (enqueue_outcome w s t flow len).world q).items
unfolding enqueue_outcome with_frame
long_enqueued w s t flow len q other =
    let u : World = after_limit w in
    long_then w u (after_put_in u s t (queue_for u s t flow) (next_item w len)) q (long_after_limit w q other)
    (long_put_in u s t (queue_for u s t flow) q (next_item w len))

-- a TID that loses no frame does not list the queue that loses its head
pub not_the_longest : (w : World) (s t q : ℕ) → loses_next_in w s t ≡ false → Lists w s t q →
    is_at_limit w ≡ true → longest_queue w ≡ q → ⊥
not_the_longest w s t q spared k full e =
    let listed : has_key (tid_of w s t).queues (longest_queue w) ≡ true =
    subst (λ (p : ℕ). has_key (tid_of w s t).queues p ≡ true) (sym e)
    (listed-some (tid_of w s t).queues q k) in
    absurd (cc (rw (full, listed) at spared))

-- ---- the other calls

-- a pull, a leave or a flush of station i takes no frame from a queue that station s lists
apart_other : (w : World) (i s t q : ℕ) → KeepsQueues w → (s ≡ i → ⊥) → is_live w i ≡ true → Lists w s t q →
    IsApart (λ _. Unit {0}) (length (queue w q).items) q i (shelves w)
apart_other w i s t q keeps other live k = record {
  live = live;
  off = λ j _. elim (cases_eq (on (in_order (tid_of w i j).queues) q) 0) [
    | inl none ↦ none
    | inr some ↦ absurd (other (keeps.sole s t i j q (listed-some (tid_of w s t).queues q k)
        (listed-some (tid_of w i j).queues q (omega (arith, some)))).0)
  ];
  long = omega arith;
}

pub winner_live : (w : World) (c : Class) (i : ℕ) → (picked_station w c).winner ≡ Some i → is_live w i ≡ true
winner_live w c i e = left_true (is_live w i) _
    (subst (λ (o : Option ℕ). IfSome o (λ k. is_ready w c k ≡ true)) e
    (pick_ready (station_need w c) (is_ready w c) (rotation w c)))

long_pulled : (o : Option ℕ) (w : World) (c : Class) (l : Limits) (s t q : ℕ) → KeepsQueues w →
    (picked_station w c).winner ≡ o → (o ≡ Some s → ⊥) → Lists w s t q →
    length (queue w q).items ≤ length (queue (pull_outcome_for (picked_world w c l) c o).world q).items
unfolding pull_outcome_for
long_pulled None w c l s t q keeps e other k = long_by w (picked_world w c l) q (shelves_picked w c l)
long_pulled (Some i) w c l s t q keeps e other k =
    let live : is_live w i ≡ true = winner_live w c i e in
    (apart_pulled (λ _. Unit {0}) (length (queue w q).items) q i (picked_world w c l) c tt
    (subst (IsApart (λ _. Unit {0}) (length (queue w q).items) q i) (sym (shelves_picked w c l))
    (apart_other w i s t q keeps (λ h. other (ap (λ (z : ℕ). Some z) (sym h))) live k))).long

long_on_station : (w : World) (i q : ℕ) (f : Station → Station) →
    length (queue w q).items ≤ length (queue (on_station w i f) q).items
unfolding on_station with_station
long_on_station w i q f = omega arith

long_open : (o : Option Exchange) (w : World) (f : Exchange → Outcome) (q : ℕ) →
    ((x : Exchange) → shelves (f x).world ≡ shelves w) →
    length (queue w q).items ≤ length (queue (outcome_where_open w o f).world q).items
long_open o w f q h = long_by w (outcome_where_open w o f).world q (shelves_open o w f h)

-- the call drops no frame of the TID for the limit
spares : World → Note → ℕ → ℕ → Bool
spares w (Enqueue i j flow len) s t = not (loses_next_in w s t)
spares w (Asked ask) s t = true

pub neither : (a b : Bool) → a || b ≡ false → (a ≡ false) × (b ≡ false)
neither true b h = absurd (cc h)
neither false b h = (refl, h)

spares_lower : (note : Note) (w : World) (s : ℕ) (c : Class) → loses_in w note s c ≡ false →
    spares w note s (lower_tid c) ≡ true
unfolding spares
spares_lower (Enqueue i j flow len) w s c h = ap not (neither _ _ h).0
spares_lower (Asked ask) w s c h = refl

spares_upper : (note : Note) (w : World) (s : ℕ) (c : Class) → loses_in w note s c ≡ false →
    spares w note s (upper_tid c) ≡ true
unfolding spares
spares_upper (Enqueue i j flow len) w s c h = ap not (neither _ _ h).1
spares_upper (Asked ask) w s c h = refl

not_true : (b : Bool) → not b ≡ true → b ≡ false
not_true true h = absurd (cc h)
not_true false h = refl

-- no call shortens a queue of a station that it does not concern, except the queue that loses its head for
-- the limit
long_done : (note : Note) (w : World) (s t q : ℕ) → NoRow (refusals w note) → KeepsQueues w →
    (concerned_station w note ≡ Some s → ⊥) → spares w note s t ≡ true → Lists w s t q →
    length (queue w q).items ≤ length (queue (outcome_of w note).world q).items
unfolding spares outcome_of tick_outcome rate_outcome sleep_outcome wake_outcome poll_outcome rx_outcome
    unsent_outcome give_up_outcome on_share join_outcome offload_outcome plain_outcome with_station
    pull_outcome
long_done (Enqueue i j flow len) w s t q r keeps other spared k =
    long_enqueued w i j flow len q (not_the_longest w s t q (not_true _ spared) k)
long_done (Asked (Join i window start exponent weight)) w s t q r keeps other spared k = omega arith
long_done (Asked (Offload i exponent weight)) w s t q r keeps other spared k = omega arith
long_done (Asked (call.Plain i start exponent weight)) w s t q r keeps other spared k = omega arith
long_done (Asked (Weight i weight)) w s t q r keeps other spared k =
    long_by w (weight_outcome w i weight).world q (shelves_weighed w i weight)
long_done (Asked (Leave i)) w s t q r keeps other spared k =
    apart_gone (λ _. Unit {0}) (length (queue w q).items) q i w (λ _. tt)
    (apart_other w i s t q keeps (λ h. other (ap (λ (z : ℕ). Some z) (sym h))) (not-false _ r.1.0) k)
long_done (Asked (Rate i rate)) w s t q r keeps other spared k = long_on_station w i q _
long_done (Asked (Tick by)) w s t q r keeps other spared k = omega arith
long_done (Asked (Group ask)) w s t q r keeps other spared k = omega arith
long_done (Asked (Pull c l)) w s t q r keeps other spared k =
    long_pulled (picked_station w c).winner w c l s t q keeps refl other k
long_done (Asked (Arrive e j)) w s t q r keeps other spared k =
    long_open (exchange w e) w (λ x. arrive_outcome w x j) q (λ x. shelves_arrived w x j)
long_done (Asked (Answer e)) w s t q r keeps other spared k =
    long_open (exchange w e) w (λ x. answer_outcome w x) q (λ x. shelves_answered w x)
long_done (Asked (Done e heard air)) w s t q r keeps other spared k =
    long_open (exchange w e) w (λ x. done_outcome w x heard air) q (λ x. shelves_ended air w x heard)
long_done (Asked (Sleep i)) w s t q r keeps other spared k = long_on_station w i q _
long_done (Asked (Ampdu i octets)) w s t q r keeps other spared k = long_on_station w i q _
long_done (Asked (Bss i b)) w s t q r keeps other spared k = long_on_station w i q _
long_done (Asked (Stop i)) w s t q r keeps other spared k = long_on_station w i q _
long_done (Asked (Start i)) w s t q r keeps other spared k = long_on_station w i q _
long_done (Asked (Service ask)) w s t q r keeps other spared k =
    long_on_station w (station_served ask) q _
long_done (Asked (Wake i)) w s t q r keeps other spared k = long_on_station w i q _
long_done (Asked (Poll i)) w s t q r keeps other spared k = long_on_station w i q _
long_done (Asked (Rx i c air)) w s t q r keeps other spared k = long_on_station w i q _
long_done (Asked (Unsent e j)) w s t q r keeps other spared k =
    long_open (exchange w e) w (λ x. unsent_outcome w x j) q (λ x. shelves_marked w x _ _)
long_done (Asked (GiveUp e j)) w s t q r keeps other spared k =
    long_open (exchange w e) w (λ x. give_up_outcome w x j) q (λ x. shelves_marked w x _ _)
long_done (Asked (Flush i j)) w s t q r keeps other spared k =
    apart_flushed (λ _. Unit {0}) (length (queue w q).items) q i w j tt
    (apart_other w i s t q keeps (λ h. other (ap (λ (z : ℕ). Some z) (sym h))) (not-false _ r.1.1.0) k)
long_done (Asked (Hold i j)) w s t q r keeps other spared k =
    long_by w (hold_outcome w i j).world q (shelves_held w i j)
long_done (Asked (Begin i j window)) w s t q r keeps other spared k =
    long_by w (begin_outcome w i j window).world q (shelves_begun w i j window)
long_done (Asked (Free i j)) w s t q r keeps other spared k =
    long_by w (free_outcome w i j).world q (shelves_freed w i j)
long_done (Asked (Cease i j)) w s t q r keeps other spared k =
    long_by w (cease_outcome w i j).world q (shelves_ceased w i j)
long_done (Asked Reap) w s t q r keeps other spared k =
    long_by w (reap_outcome w w.finished).world q (shelves_reaped w.finished w)

-- ---- the end of a call

ready_listing : (w : World) (i : ℕ) (d c : Class) (s : ℕ) →
    is_ready (with_listing_in w i d) c s ≡ is_ready w c s
unfolding with_listing_in with_rotation
ready_listing w i d c s = on_if (λ (v : World). is_ready v c s ≡ is_ready w c s) _ _ w (λ _. refl) (λ _. refl)

ready_listings : (ds : List Class) (w : World) (i : ℕ) (c : Class) (s : ℕ) →
    is_ready (with_listings_in w i ds) c s ≡ is_ready w c s
unfolding with_listings_in
ready_listings [] w i c s = refl
ready_listings (d ∷ ds) w i c s = ready_listings ds (with_listing_in w i d) i c s ∙ ready_listing w i d c s

-- readiness does not depend on the scheduler's lists
pub ready_listed : (o : Option ℕ) (w : World) (c : Class) (s : ℕ) →
    is_ready (with_listings_of w o) c s ≡ is_ready w c s
unfolding with_listings_of
ready_listed None w c s = refl
ready_listed (Some i) w c s = ready_listings all_classes w i c s

pub ready_after_pick : (w : World) (d c : Class) (s : ℕ) → is_ready (after_pick w d) c s ≡ is_ready w c s
ready_after_pick w d c s =
    let long : (t : ℕ) → KeepsLong w (after_pick w d) s t =
    λ t q k. long_by w (after_pick w d) q (shelves_after_pick w d) in
    mild_ready w (after_pick w d) (suc s) s (λ e. omega (arith, e)) (mild_after_pick (suc s) w d) c
    (long (lower_tid c)) (long (upper_tid c))

after_refused : (note : Note) (r : Refusal) (w : World) (c : Class) (s : ℕ) →
    is_ready (after_refusal w note r) c s ≡ is_ready w c s
unfolding after_refusal
after_refused (Asked (Pull d l)) Idle w c s =
    on_if (λ (v : World). is_ready v c s ≡ is_ready w c s) (w.config.pending == 1) w (after_pick w d)
    (λ _. refl) (λ _. ready_after_pick w d c s)
after_refused _ _ w c s = refl

pub ready_refused : (w : World) (note : Note) (r : Refusal) → refusal w note ≡ Some r → (s : ℕ) (c : Class) →
    is_ready (step w note).world c s ≡ is_ready w c s
ready_refused w note r e s c = ap (λ (o : Outcome). is_ready o.world c s) (step_refused w note r e)
    ∙ after_refused note r w c s

-- the world of a run is orderly
pub orderly_reached : (w : World) → IsReached w → IsOrderly w
orderly_reached w r = subst IsOrderly (sym r.after) (orderly w.config r.history r.in_range)

-- the station that is concerned; if there is none, one other than s
named : Option ℕ → ℕ → ℕ
named None s = suc s
named (Some i) s = i

only_named : (o : Option ℕ) (s y : ℕ) → o ≡ Some y → y ≡ named o s
unfolding named
only_named None s y h = absurd (cc h)
only_named (Some i) s y h = cc h

not_named : (o : Option ℕ) (s : ℕ) → (o ≡ Some s → ⊥) → s ≡ named o s → ⊥
unfolding named
not_named None s h e = omega (arith, e)
not_named (Some i) s h e = h (ap (λ (z : ℕ). Some z) (sym e))

-- for a station that the call does not concern
done_others : (o : Option ℕ) (w : World) (note : Note) → concerned_station w note ≡ o → IsReached w →
    NoRow (refusals w note) → (s : ℕ) (c : Class) → (o ≡ Some s → ⊥) → loses_in w note s c ≡ false →
    is_ready (outcome_of w note).world c s ≡ is_ready w c s
done_others o w note e r row s c other spared =
    let i : IsOrderly w = orderly_reached w r in
    let keeps : KeepsQueues w = by_law KeepsQueues w r (queue_law w.config r.history r.in_range) in
    let apart : concerned_station w note ≡ Some s → ⊥ = λ h. other (sym e ∙ h) in
    let m : IsMild (named o s) w (outcome_of w note).world =
    mild_done note w (named o s) row i.kept i.owning (λ y h. only_named o s y (sym e ∙ h)) in
    mild_ready w (outcome_of w note).world (named o s) s (not_named o s other) m c
    (λ q k. long_done note w s (lower_tid c) q row keeps apart (spares_lower note w s c spared) k)
    (λ q k. long_done note w s (upper_tid c) q row keeps apart (spares_upper note w s c spared) k)

-- a step does not change a station's readiness if the call's outcome does not, because neither a refusal nor
-- a listing changes it
pub ready_stepped : (w : World) (note : Note) (s : ℕ) (c : Class) →
    (refusal w note ≡ None → is_ready (outcome_of w note).world c s ≡ is_ready w c s) →
    is_ready (step w note).world c s ≡ is_ready w c s
ready_stepped w note s c h = go (refusal w note) refl
  where
    go : (o : Option Refusal) → refusal w note ≡ o → is_ready (step w note).world c s ≡ is_ready w c s
    go (Some x) e = ready_refused w note x e s c
    go None e =
        ap (λ (o : Outcome). is_ready o.world c s) (step_done w note e)
        ∙ ready_listed (concerned_station w note) (outcome_of w note).world c s
        ∙ h e

pub ready_others : (w : World) (note : Note) → IsReached w → (s : ℕ) (c : Class) →
    (concerned_station w note ≡ Some s → ⊥) → loses_in w note s c ≡ false →
    is_ready (step w note).world c s ≡ is_ready w c s
ready_others w note r s c other spared = ready_stepped w note s c
    (λ e. done_others (concerned_station w note) w note refl r (no_row (refusals w note) e) s c other spared)
