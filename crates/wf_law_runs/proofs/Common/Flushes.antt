-- Proves what a flush keeps: of a session what giving up one waiting number keeps, and of a world what its
-- parts keep.
use Rattle.std.proofs.Common.{◌≡◌, refl, ap, sym, ◌∙◌, subst, arith, ℕ, zero, suc, ◌+◌, ◌-◌, ◌≤◌, ◌<◌, Bool, true, false, if◌then◌else◌, List, [], ◌∷◌, ◌++◌, length, length-append, append_assoc, map}
use Rattle.wf_frame.specs.declared.classes.Cause.TheVariants.{Flushed}
use Rattle.wf_frame.specs.declared.classes.Fate.TheVariants.{Dropped}
use Rattle.wf_def_lists.specs.Table.{at, change}
use Rattle.wf_def_agreement.specs.Session.{Session, Slot, State, no_slot, slot, on_slot, is_waiting, slot_given_up, slot_flushed, after_flush, next_number}
use Rattle.wf_def_rotation.specs.Rotation.{in_order}
use Rattle.wf_def_world.specs.Exchanges.{caught_up, caught_up_if_plain}
use Rattle.wf_def_world.specs.World.{World, session, tid_of, is_agreed, on_session, on_queue, with_frame_finished, with_frames_finished}
use Rattle.wf_def_world.specs.FlowQueues.{after_queue_flushed, after_queues_flushed}
use Rattle.wf_def_world.specs.Step.{waiting_ids, in_rising_order, after_tid_flushed, flush_outcome}
use Rattle.wf_law_rules.proofs.Lemmas.Numbers.{on_bool, on_if}

-- ---- one session

-- Returns a session with these slots.
abbrev with_slots : Session → List Slot → Session
with_slots y xs = record y { slots = xs }

at_length : (xs ys : List Slot) (x : Slot) → at no_slot (xs ++ x ∷ ys) (length xs) ≡ x
at_length [] ys x = refl
at_length (z ∷ xs) ys x = at_length xs ys x

change_length : (xs ys : List Slot) (x : Slot) (f : Slot → Slot) →
    change no_slot (xs ++ x ∷ ys) (length xs) f ≡ xs ++ f x ∷ ys
change_length [] ys x f = refl
change_length (z ∷ xs) ys x f = ap (λ (l : List Slot). z ∷ l) (change_length xs ys x f)

pub waiting_is : (st : State) → is_waiting st ≡ true → st ≡ State.Waiting
waiting_is State.Waiting h = refl
waiting_is (State.Flying e) h = absurd (cc h)
waiting_is State.Acked h = absurd (cc h)
waiting_is State.Failed h = absurd (cc h)

-- A flush gives up each waiting number, one after the other.
pub flush_along : (P : Session → Type 0) (limit : ℕ) (y : Session) →
    ((z : Session) (n : ℕ) → z.first ≡ y.first → z.first ≤ n → n < next_number z →
    (slot z n).state ≡ State.Waiting → P z → P (on_slot n (slot_given_up limit) z)) →
    P y → P (after_flush limit y)
flush_along P limit y step h = go [] y.slots h
  where
    go : (xs ys : List Slot) → P (with_slots y (xs ++ ys)) →
        P (with_slots y (xs ++ map (slot_flushed limit) ys))
    go xs [] h = h
    go xs (x ∷ ys) h =
        let next : (z : Slot) → P (with_slots y (xs ++ z ∷ ys)) →
        P (with_slots y (xs ++ z ∷ map (slot_flushed limit) ys)) = λ z k.
        subst (λ (l : List Slot). P (with_slots y l)) (append_assoc xs (z ∷ []) (map (slot_flushed limit) ys))
        (go (xs ++ z ∷ []) ys (subst (λ (l : List Slot). P (with_slots y l))
        (sym (append_assoc xs (z ∷ []) ys)) k)) in
        let z : Session = with_slots y (xs ++ x ∷ ys) in
        let n : ℕ = y.first + length xs in
        let place : n - y.first ≡ length xs = omega arith in
        let here : slot z n ≡ x = ap (at no_slot (xs ++ x ∷ ys)) place ∙ at_length xs ys x in
        let below : n < next_number z = omega (arith, length-append xs (x ∷ ys)) in
        on_bool (is_waiting x.state)
        (λ waits. subst (λ (b : Bool). P (with_slots y (xs ++ (if b then slot_given_up limit x else x)
        ∷ map (slot_flushed limit) ys))) (sym waits)
        (next (slot_given_up limit x) (subst (λ (l : List Slot). P (with_slots y l))
        (ap (λ (i : ℕ). change no_slot (xs ++ x ∷ ys) i (slot_given_up limit)) place
        ∙ change_length xs ys x (slot_given_up limit))
        (step z n refl (omega arith) below
        (ap (λ (k : Slot). k.state) here ∙ waiting_is x.state waits) h))))
        (λ stays. subst (λ (b : Bool). P (with_slots y (xs ++ (if b then slot_given_up limit x else x)
        ∷ map (slot_flushed limit) ys))) (sym stays) (next x h))

pub flush_at : (limit : ℕ) (xs : List Slot) (k : ℕ) →
    at no_slot (map (slot_flushed limit) xs) k ≡ slot_flushed limit (at no_slot xs k)
flush_at limit [] k = refl
flush_at limit (x ∷ xs) zero = refl
flush_at limit (x ∷ xs) (suc k) = flush_at limit xs k

-- The slot of each number after a flush.
pub slot_flush : (limit : ℕ) (y : Session) (n : ℕ) →
    slot (after_flush limit y) n ≡ slot_flushed limit (slot y n)
slot_flush limit y n = flush_at limit y.slots (n - y.first)

pub flushed_stays : (limit : ℕ) (x : Slot) → is_waiting x.state ≡ false → slot_flushed limit x ≡ x
flushed_stays limit x h = ap (λ (b : Bool). if b then slot_given_up limit x else x) h

pub flushed_fails : (limit : ℕ) (x : Slot) → is_waiting x.state ≡ true →
    slot_flushed limit x ≡ slot_given_up limit x
flushed_fails limit x h = ap (λ (b : Bool). if b then slot_given_up limit x else x) h

length_flush : (limit : ℕ) (xs : List Slot) → length (map (slot_flushed limit) xs) ≡ length xs
length_flush limit [] = refl
length_flush limit (x ∷ xs) = ap suc (length_flush limit xs)

pub next-flush : (limit : ℕ) (y : Session) → next_number (after_flush limit y) ≡ next_number y
next-flush limit y = ap (λ (k : ℕ). y.first + k) (length_flush limit y.slots)

-- ---- worlds

-- The world of a flush before a TID without an agreement catches up.
abbrev pub emptied_world : World → ℕ → ℕ → World
emptied_world w s t = after_queues_flushed (with_frames_finished
    (on_session w s t (after_flush w.config.attempts)) (Dropped Flushed) (waiting_ids (session w s t).slots))
    (in_rising_order (in_order (tid_of w s t).queues))

pub flush_is : (w : World) (s t : ℕ) →
    (flush_outcome w s t).world ≡ caught_up_if_plain (emptied_world w s t) s t
unfolding flush_outcome after_tid_flushed
flush_is w s t = refl

-- A property of the world after a TID catches up if it has no agreement, from both cases.
pub if_caught : (P : World → Type 0) (w : World) (s t : ℕ) → P w →
    (is_agreed w s t ≡ false → P (caught_up w s t)) → P (caught_up_if_plain w s t)
unfolding caught_up_if_plain
if_caught P w s t h k = on_if P (is_agreed w s t) w (caught_up w s t) (λ _. h) k

-- A property stays when a frame is finished as Flushed, and when a queue is emptied.
pub record StaysInFlush (P : World → Type 0) : Type 0 where
  pub finish : (w : World) (id : ℕ) → P w → P (with_frame_finished w (Dropped Flushed) id)
  pub empty : (w : World) (q : ℕ) → P w → P (on_queue w q (λ y. record y { items = [] }))

-- Such a property holds after a flush, if it holds after the waiting numbers of the TID are given up.
module _ (P : World → Type 0) (stays : StaysInFlush P) where
  pub flushed_ids : (ids : List ℕ) (w : World) → P w → P (with_frames_finished w (Dropped Flushed) ids)
  unfolding with_frames_finished
  flushed_ids [] w h = h
  flushed_ids (id ∷ ids) w h = flushed_ids ids _ (stays.finish w id h)

  pub flushed_queues : (qs : List ℕ) (w : World) → P w → P (after_queues_flushed w qs)
  unfolding after_queues_flushed after_queue_flushed
  flushed_queues [] w h = h
  flushed_queues (q ∷ qs) w h = flushed_queues qs _ (flushed_ids _ _ (stays.empty w q h))

  -- The world before the TID catches up.
  pub if_emptied : (w : World) (s t : ℕ) → P (on_session w s t (after_flush w.config.attempts)) →
      P (emptied_world w s t)
  if_emptied w s t h = flushed_queues _ _ (flushed_ids _ _ h)

  pub if_flushed : (w : World) (s t : ℕ) →
      ((v : World) → P v → is_agreed v s t ≡ false → P (caught_up v s t)) →
      P (on_session w s t (after_flush w.config.attempts)) → P (flush_outcome w s t).world
  unfolding flush_outcome after_tid_flushed
  if_flushed w s t catch h = if_caught P (emptied_world w s t) s t (if_emptied w s t h)
      (λ d. catch (emptied_world w s t) (if_emptied w s t h) d)
