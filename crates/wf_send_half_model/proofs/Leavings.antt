-- Proves the stages of a leave, TID by TID: the window gives its frames one after the other, and then the
-- TID's queues are purged. `HasDropped` is kept from each stage to the next.
use Rattle.std.proofs.Common.{◌≡◌, refl, ap, sym, ◌∙◌, subst, arith, ℕ, suc, ◌+◌, ◌<◌, ◌≤◌, ◌==◌, Bool, true, false, not, if◌then◌else◌, List, [], ◌∷◌, ◌++◌, length, map, append_assoc, length-append, None, inl, inr, eq-eqb}
use Rattle.std.specs.Prelude.{All, count_by, nat_lt}
use Rattle.std.specs.List.{filter}
use Rattle.std.proofs.lemmas.Bool.{cases_eq, leb-false}
use Rattle.std.proofs.lemmas.List.{append-nil, length-map, map-append, set-set, set-get_or}
use Rattle.std.proofs.lemmas.List.Elements.{All-cons, All-head, All-nil, All-tail}
use Rattle.std.proofs.lemmas.List.Sums.{sum_by-cons}
use Rattle.std.proofs.lemmas.Bool.Decides.{nat_tests}
use Rattle.wf_frame.specs.declared.classes.Cause.{Cause}
use Rattle.wf_frame.specs.declared.classes.Cause.TheVariants.{Left}
use Rattle.wf_frame.specs.declared.classes.Fate.TheVariants.{Held, Dropped}
use Rattle.wf_frame.specs.declared.notes.Ask.TheVariants.{Leave}
use Rattle.wf_frame.specs.declared.notes.Note.TheVariants.{Asked}
use Rattle.wf_frame.specs.declared.settings.Config.{Config}
use Rattle.wf_frame.specs.Frames.{FrameValue}
use Rattle.wf_def_lists.specs.Lists.{on}
use Rattle.wf_def_agreement.specs.Session.{Session, Slot, State, slot, start_of, next_number, is_waiting, with_state}
use Rattle.wf_def_lists.specs.Table.{upto}
use Rattle.wf_law_rules.proofs.Lemmas.Counts.{on-nil, on-append, on-cons_same, on-first}
use Rattle.wf_def_world.specs.World.{World, Exchange, is_live, session, inside, with_frame_finished, with_frames_finished}
use Rattle.wf_def_world.specs.FlowQueues.{total_queued}
use Rattle.wf_def_world.specs.Refusals.{refusal, refusals, open_of_station}
use Rattle.wf_def_world.specs.Step.{waiting_ids, after_tid_left, after_tids_left}
use Rattle.wf_law_runs.specs.Places.{KeepsPlaces}
use Rattle.wf_law_runs.specs.Room.{in_windows}
use Rattle.wf_law_runs.specs.Windows.{SomeOpen, IsSending}
use Rattle.wf_law_runs.proofs.Deficits.KeptStep.{NoRow, no_row}
use Rattle.wf_law_runs.proofs.Frames.Rooms.{room_law}
use Rattle.wf_law_runs.proofs.Windows.Law.{window_law}
use Rattle.wf_send_parts.specs.Tally.{Counts}
use Rattle.wf_queue_flows.specs.Backlog.{held_in_backlog}
use Rattle.wf_frame.specs.Classes.{tid_number}
use Rattle.wf_queue_flows.specs.Flows.{SettingsValue, frames_of_tid}
use Rattle.wf_queue_flows_refines.specs.Frames.{IsBodySettled}
use Rattle.wf_queue_flows_refines.specs.Rest.{Rest, rest_of_world}
use Rattle.wf_queue_flows_refines.specs.Standing.{ids, times_held}
use Rattle.wf_queue_flows_refines.proofs.Elsewhere.{rest_left, rest_live}
use Rattle.wf_queue_flows_refines.proofs.Ends.{finish_all-append}
use Rattle.wf_queue_flows_refines.proofs.Heads.{queued_is_held}
use Rattle.wf_queue_flows_refines.proofs.Readers.{same_total}
use Rattle.wf_sched_refines.specs.Standing.{SchedulerStandsFor as TurnsStandFor}
use Rattle.wf_sched_refines.proofs.Unchanged.{left_tids_leave}
use Rattle.wf_send_parts.specs.Expelling.{frame_dropped, frame_left, frames_left, HasExpelled}
use Rattle.wf_send_parts.specs.Window.{WindowValue, WindowStandsFor as WindowStandsFor, is_flying, some_fly}
use Rattle.wf_send_parts.proofs.Callers.{places_none}
use Rattle.wf_send_parts.proofs.Counting.{some_flies}
use Rattle.wf_send_parts.proofs.Expelling.{first_expelled, expelling_begins, expelling_next, expelling_ends}
use Rattle.wf_send_parts.proofs.Laws.{start_of_is}
use Rattle.wf_send_parts.proofs.Numbers.{none_fly}
use Rattle.wf_send_parts.specs.Windows.{no_window, window_of, with_window}
use Rattle.wf_send_parts.proofs.Changes.{windows_count, window_same, window_other}
use Rattle.wf_send_half_model.specs.Half.{TransmitValue}
use Rattle.wf_send_half_model.specs.Standing.{Parts, IsReached, StandsFor}
use Rattle.wf_send_half_model.specs.Leaving.{after_expelled, after_tid_purged, numbered_ids, AreEmptied, HasDropped, IsLeaving, IsExpelling, IsExpelled}
use Rattle.wf_send_half_model.proofs.Reached.{by_law}
use Rattle.wf_send_half_model.proofs.Endings.{nowhere}
use Rattle.wf_send_half_model.proofs.Enqueues.{places_kept}
use Rattle.wf_send_half_model.proofs.Settles.{settled_body}
use Rattle.wf_send_half_model.proofs.Numbered.{IsWaitingAt, waiting_place, upto_then, numbered_next, numbered_at, known_at, once_below}
use Rattle.wf_send_half_model.proofs.Rooms.{numbered_within}
use Rattle.wf_send_half_model.proofs.Dropping.{finished_known, finished_step, purged_step}

-- ---- facts that hold when a leave is allowed

pub live_of : (b : Bool) → not b ≡ false → b ≡ true
live_of true e = refl
live_of false e = absurd (cc e)

pub record IsAllowed (w : World) (s : ℕ) : Type 0 where
  pub low : s < w.config.stations
  pub live : is_live w s ≡ true
  pub none_open : nat_lt 0 (open_of_station w s) ≡ false

pub allowed_leave : (w : World) (s : ℕ) → refusal w (Asked (Leave s)) ≡ None → IsAllowed w s
allowed_leave w s e =
    let rows : NoRow (refusals w (Asked (Leave s))) = no_row (refusals w (Asked (Leave s))) e in
    record { low = leb-false _ _ rows.0; live = live_of (is_live w s) rows.1.0; none_open = rows.1.1.0 }

-- ---- nothing flies

none_of_station : (xs : List Exchange) (s t e n : ℕ) → count_by (λ x. x.station == s) xs ≡ 0 →
    SomeOpen (IsSending s t e n) xs → ⊥
none_of_station [] s t e n none some = some
none_of_station (x ∷ xs) s t e n none some =
    let sum = sum_by-cons (λ (y : Exchange). if y.station == s then 1 else 0) x xs in
    elim some [
      | inl here ↦
          let k : ℕ = if x.station == s then 1 else 0 in
          let one : k ≡ 1 = ap (λ (b : Bool). let n : ℕ = if b then 1 else 0 in n)
          (eq-eqb x.station s here.station) in
          omega (arith, sum, one, none)
      | inr behind ↦ none_of_station xs s t e n (omega (arith, sum, none)) behind
    ]

pub flies_in : (st : State) → ((e : ℕ) → st ≡ State.Flying e → ⊥) → is_flying st ≡ false
flies_in State.Waiting h = refl
flies_in (State.Flying e) h = absurd (h e refl)
flies_in State.Acked h = refl
flies_in State.Failed h = refl

none_flies : (w : World) → IsReached w → (s t n : ℕ) → IsAllowed w s → (session w s t).first ≤ n →
    is_flying (slot (session w s t) n).state ≡ false
none_flies w r s t n allowed from =
    let none : count_by (λ (x : Exchange). x.station == s) w.opened ≡ 0 =
    none_at (open_of_station w s) allowed.none_open in
    flies_in (slot (session w s t) n).state (λ e flies.
    none_of_station w.opened s t e n none (by_law
    (λ u. (session u s t).first ≤ n → (slot (session u s t) n).state ≡ State.Flying e →
    SomeOpen (IsSending s t e n) u.opened) w r
    (λ m. (window_law w.config r.history m).flown s t n e) from flies))
  where
    none_at : (k : ℕ) → nat_lt 0 k ≡ false → k ≡ 0
    none_at k e = grind (arith, nat_tests)

-- ---- the worlds between two TIDs

tids_then : (ts : List ℕ) (w : World) (s t : ℕ) →
    after_tids_left w s (ts ++ t ∷ []) ≡ after_tid_left (after_tids_left w s ts) s t
unfolding after_tids_left
tids_then [] w s t = refl
tids_then (k ∷ ts) w s t = tids_then ts (after_tid_left w s k) s t

tids_next : (w : World) (s t : ℕ) → after_tids_left w s (upto (suc t))
    ≡ after_tid_left (after_tids_left w s (upto t)) s t
tids_next w s t = ap (after_tids_left w s) (upto_then t) ∙ tids_then (upto t) w s t

none_left_yet : (w : World) (s : ℕ) → after_tids_left w s [] ≡ w
unfolding after_tids_left
none_left_yet w s = refl

none_finished : (w : World) → with_frames_finished w (Dropped Left) [] ≡ w
unfolding with_frames_finished
none_finished w = refl

pub rest_tids : (ts : List ℕ) (w : World) (s : ℕ) → rest_of_world (after_tids_left w s ts) ≡ rest_of_world w
unfolding after_tids_left
rest_tids [] w s = refl
rest_tids (t ∷ ts) w s = rest_tids ts (after_tid_left w s t) s ∙ rest_left w s t

-- ---- the beginning

module _ (v : TransmitValue) (w : World) (bodies : ℕ → FrameValue) (s : ℕ) (h : StandsFor v w bodies)
    (allowed : refusal w (Asked (Leave s)) ≡ None) where
  begun : HasDropped v w bodies s 0 v w [] 0
  begun =
      let same : v.tally.left + 0 ≡ v.tally.left = omega arith in
      record {
        stood = h;
        allowed = allowed;
        rest = refl;
        parts = subst (λ (n : ℕ). let c : Counts = record v.tally { left = n } in
            let z : TransmitValue = record v { tally = c } in Parts z w bodies) (sym same) h.parts;
        moved = record { times = λ id. omega (arith, on-nil id); count = omega arith };
        grown = omega arith;
        unlisted = λ k below. absurd (omega (arith, below));
        queued = queued_is_held v.flows w h.parts.others.flows (places_kept w h.reached);
        fates = λ id none. refl;
      }

  pub leave_begins : IsLeaving v w bodies s 0 v 0
  leave_begins = record {
    so_far = subst (λ (u : World). HasDropped v w bodies s 0 v u [] 0) (sym (none_left_yet w s)) begun;
    windows = record {
      sized = refl;
      empty = λ k below. absurd (omega (arith, below));
      others =
          λ i k low other. refl;
    };
  }

-- ---- how many frames there are

-- in the world of a run, all frames together are at most `room`
pub record HasPlace (room : ℕ) (w : World) : Type 0 where
  pub placed : total_queued w + in_windows w + length w.finished ≡ inside w
  pub within : inside w ≤ room

pub has_place : (w : World) → IsReached w → HasPlace w.config.room w
has_place w r = by_law (HasPlace w.config.room) w r
    (λ m. (let k = room_law w.config r.history r.in_range m in
    record { placed = k.placed; within = k.within }))

few_dropped : (before v : TransmitValue) (w now : World) (bodies : ℕ → FrameValue) (s t dropped : ℕ)
    (taken : List ℕ) → HasDropped before w bodies s t v now taken dropped → length taken ≤ in_windows w →
    dropped ≤ w.config.room
few_dropped before v w now bodies s t dropped taken h few =
    let place : HasPlace w.config.room w = has_place w h.stood.reached in
    let flows = h.stood.parts.others.flows in
    omega (
      arith,
      place.placed,
      place.within,
      h.grown,
      h.moved.count,
      few,
      same_total before.flows w flows,
      finished_known before.flows w flows,
    )

pub left_few : (before v : TransmitValue) (w : World) (bodies : ℕ → FrameValue) (s t dropped : ℕ) →
    IsLeaving before w bodies s t v dropped → dropped ≤ w.config.room
left_few before v w bodies s t dropped left =
    few_dropped before v w (after_tids_left w s (upto t)) bodies s t dropped
    (numbered_ids w s (upto t)) left.so_far (numbered_within w s t)

-- ---- a TID begins

module _ (before v : TransmitValue) (w : World) (bodies : ℕ → FrameValue) (s t dropped : ℕ) where
  pub tid_begins : IsLeaving before w bodies s t v dropped → t < 8 →
      IsExpelling before w bodies s t v [] dropped
  tid_begins left low =
      let h : StandsFor before w bodies = left.so_far.stood in
      let allowed : IsAllowed w s = allowed_leave w s left.so_far.allowed in
      let same : window_of v.windows s t ≡ window_of before.windows s t =
      left.windows.others s t low (λ _ below. absurd (omega (arith, below))) in
      let stands : WindowStandsFor (window_of v.windows s t) (session w s t) bodies =
      subst (λ (x : WindowValue). WindowStandsFor x (session w s t) bodies) (sym same)
      (h.parts.windows.all.stands s t allowed.live low) in
      let back : with_window v.windows s t (window_of before.windows s t) ≡ v.windows =
      ap (with_window v.windows s t) (sym same) ∙ set-get_or v.windows (tid_number s t) no_window in
      let ids_so_far : List ℕ = numbered_ids w s (upto t) in
      let u : World = after_tids_left w s (upto t) in
      record {
        tid = low;
        so_far = subst (λ (l : List ℕ). HasDropped before w bodies s t v
            (with_frames_finished u (Dropped Left) []) l dropped) (sym (append-nil ids_so_far))
            (subst (λ (x : World). HasDropped before w bodies s t v x ids_so_far dropped)
            (sym (none_finished u)) left.so_far);
        expelled = expelling_begins (window_of v.windows s t) (session w s t) bodies stands
            (none_fly (window_of v.windows s t) (session w s t) bodies stands
            (λ n from below. none_flies w h.reached s t n allowed
            (omega (arith, from, start_of_is (session w s t)))));
        windows = subst (λ (ws : List WindowValue). AreEmptied before.windows ws s t) (sym back) left.windows;
      }

-- ---- one frame

pub middle : (P : FrameValue → Type 0) (frames : List FrameValue) (f : FrameValue) (more : List FrameValue) →
    All P (frames ++ f ∷ more) → P f
middle P [] f more h = All-head P f more h
middle P (x ∷ frames) f more h = middle P frames f more (All-tail P x (frames ++ f ∷ more) h)

-- each waiting slot's frame is the accepted one
abbrev pub AreOwn : (ℕ → FrameValue) → List Slot → Type 0
AreOwn bodies xs = (id : ℕ) → 0 < on (waiting_ids xs) id → ((bodies id).id ≡ id) × ((bodies id).fate ≡ Held)

abbrev pub waiting_of : List Slot → List Slot
waiting_of xs = filter (λ x. is_waiting x.state) xs

pub dropped_ids : (cause : Cause) (xs : List Slot) (bodies : ℕ → FrameValue) → AreOwn bodies xs →
    ids (map (frame_dropped cause bodies) (waiting_of xs)) ≡ waiting_ids xs
dropped_ids cause [] bodies own = refl
dropped_ids cause (x ∷ xs) bodies own = go (is_waiting x.state) own (dropped_ids cause xs bodies)
  where
    go : (b : Bool) → ((id : ℕ) → 0 < on (if b then x.id ∷ waiting_ids xs else waiting_ids xs) id →
        ((bodies id).id ≡ id) × ((bodies id).fate ≡ Held)) →
        (AreOwn bodies xs → ids (map (frame_dropped cause bodies) (waiting_of xs)) ≡ waiting_ids xs) →
        ids (map (frame_dropped cause bodies) (if b then x ∷ waiting_of xs else waiting_of xs))
        ≡ (if b then x.id ∷ waiting_ids xs else waiting_ids xs)
    go false own rest = rest own
    go true own rest =
        ap (λ (k : ℕ). k ∷ ids (map (frame_dropped cause bodies) (waiting_of xs)))
        (own x.id (omega (arith, on-cons_same x.id (waiting_ids xs)))).0
        ∙ ap (λ (l : List ℕ). x.id ∷ l) (rest (λ id some.
        own id (omega (arith, some, on-first x.id id (waiting_ids xs)))))

pub dropped_bodies : (cause : Cause) (xs : List Slot) (bodies : ℕ → FrameValue) → AreOwn bodies xs →
    All (IsBodySettled bodies) (map (frame_dropped cause bodies) (waiting_of xs))
dropped_bodies cause [] bodies own = All-nil (IsBodySettled bodies)
dropped_bodies cause (x ∷ xs) bodies own = go (is_waiting x.state) own (dropped_bodies cause xs bodies)
  where
    go : (b : Bool) → ((id : ℕ) → 0 < on (if b then x.id ∷ waiting_ids xs else waiting_ids xs) id →
        ((bodies id).id ≡ id) × ((bodies id).fate ≡ Held)) →
        (AreOwn bodies xs → All (IsBodySettled bodies) (map (frame_dropped cause bodies) (waiting_of xs))) →
        All (IsBodySettled bodies) (map (frame_dropped cause bodies) (if b then x
        ∷ waiting_of xs else waiting_of xs))
    go false own rest = rest own
    go true own rest =
        let mine = own x.id (omega (arith, on-cons_same x.id (waiting_ids xs))) in
        All-cons (IsBodySettled bodies) (frame_dropped cause bodies x) (map (frame_dropped cause bodies)
        (waiting_of xs))
        (settled_body bodies x.id (Dropped cause) mine.0 mine.1 refl)
        (rest (λ id some. own id (omega (arith, some, on-first x.id id (waiting_ids xs)))))

module _ (before v : TransmitValue) (w : World) (bodies : ℕ → FrameValue) (s t dropped : ℕ)
    (frames : List FrameValue) (left : IsExpelling before w bodies s t v frames dropped) where
  abbrev y : Session
  y = left.expelled.now

  abbrev slots : List Slot
  slots = (session w s t).slots

  abbrev earlier : List ℕ
  earlier = numbered_ids w s (upto t)

  places : KeepsPlaces w
  places = places_kept w left.so_far.stood.reached

  own : AreOwn bodies slots
  own id some =
      let known = known_at w places s id t (waiting_place slots id some) in
      let it = left.so_far.stood.parts.others.notes id known.0 in
      (it.id, it.fate)

  pub none_flies_now : some_fly (window_of v.windows s t) ≡ false
  none_flies_now = some_flies (window_of v.windows s t) y bodies left.expelled.stands ∙ left.expelled.none_fly

  pub expelled_few : dropped ≤ w.config.room
  expelled_few =
      let still : List FrameValue = frames_left bodies y in
      let given : List FrameValue = frames_left bodies (session w s t) in
      let all : length given ≡ length frames + length still =
      ap (length {A = FrameValue}) (sym left.expelled.rest) ∙ length-append frames still in
      let same : length given ≡ length (waiting_ids slots) =
      sym (length-map given (λ (g : FrameValue). g.id))
      ∙ ap (length {A = ℕ}) (dropped_ids Left slots bodies own) in
      let taken : length (earlier ++ ids frames) ≡ length earlier + length frames =
      omega (arith, length-append earlier (ids frames), length-map frames (λ (g : FrameValue). g.id)) in
      let next : length (numbered_ids w s (upto (suc t))) ≡ length earlier + length (waiting_ids slots) =
      ap (length {A = ℕ}) (numbered_next w s t) ∙ length-append earlier (waiting_ids slots) in
      few_dropped before v w (with_frames_finished (after_tids_left w s (upto t)) (Dropped Left) (ids frames))
      bodies s t dropped (earlier ++ ids frames) left.so_far
      (omega (arith, all, same, taken, next, numbered_within w s (suc t)))

  inside_windows : tid_number s t < length v.windows
  inside_windows =
      let low : s < w.config.stations = (allowed_leave w s left.so_far.allowed).low in
      omega (
        arith,
        low,
        left.tid,
        left.so_far.stood.parts.windows.sized,
        left.windows.sized,
        windows_count v.windows s t (window_of before.windows s t),
      )

  pub within : (tid_number s t < length v.windows) × (s < v.flows.stations)
  within =
      let low : s < w.config.stations = (allowed_leave w s left.so_far.allowed).low in
      let now = left.so_far.parts.others in
      let same : v.flows.stations ≡ w.config.stations =
      ap (λ (c : SettingsValue). c.stations) now.flows.settings
      ∙ ap (λ (c : Config). c.stations) (sym now.config ∙ left.so_far.stood.parts.others.config) in
      (inside_windows, omega (arith, low, same))

  module _ (f : FrameValue) (some : start_of y < next_number y)
      (same : f ≡ frame_left bodies (slot y (start_of y))) where
    abbrev more : List FrameValue
    more = frames_left bodies (with_state State.Acked (start_of y) y)

    split : frames ++ f ∷ more ≡ frames_left bodies (session w s t)
    split =
        let first : frames_left bodies y ≡ f ∷ more =
        ap (map (frame_left bodies)) (first_expelled y left.expelled.none_fly some)
        ∙ ap (λ (g : FrameValue). g ∷ more) (sym same) in
        ap (λ (fs : List FrameValue). frames ++ fs) (sym first) ∙ left.expelled.rest

    id_split : ids frames ++ f.id ∷ ids more ≡ waiting_ids slots
    id_split = sym (map-append (λ (g : FrameValue). g.id) frames (f ∷ more)) ∙ ap ids split
        ∙ dropped_ids Left slots bodies own

    times_here : on (waiting_ids slots) f.id ≡ on (ids frames) f.id + on (f.id ∷ ids more) f.id
    times_here = ap (λ (l : List ℕ). on l f.id) (sym id_split) ∙ on-append (ids frames) (f.id ∷ ids more) f.id

    place : IsWaitingAt slots f.id
    place = waiting_place slots f.id (omega (arith, times_here, on-cons_same f.id (ids more)))

    nowhere_now : times_held v.flows.backlog f.id ≡ 0
    nowhere_now =
        omega (
          arith,
          left.so_far.moved.times f.id,
          on-append earlier (ids frames) f.id,
          once_below w places s f.id (suc t),
          ap (λ (l : List ℕ). on l f.id) (numbered_next w s t),
          on-append earlier (waiting_ids slots) f.id,
          times_here,
          on-cons_same f.id (ids more),
          nowhere before w bodies left.so_far.stood f.id s t ((session w s t).first + place.place)
              (numbered_at w places s f.id t place),
        )

    pub room_for_one : held_in_backlog v.flows.backlog < v.flows.backlog.room
    room_for_one =
        let room : HasPlace w.config.room w = has_place w left.so_far.stood.reached in
        let flows = left.so_far.stood.parts.others.flows in
        let same_room : v.flows.backlog.room ≡ w.config.room =
        ap (λ (c : SettingsValue). c.room) left.so_far.parts.others.flows.settings
        ∙ ap (λ (c : Config). c.room) (sym left.so_far.parts.others.config
        ∙ left.so_far.stood.parts.others.config) in
        let shorter : length (waiting_ids slots) ≡ length frames + (1 + length more) =
        ap (length {A = ℕ}) (sym id_split) ∙ omega (
          arith,
          length-append (ids frames) (f.id ∷ ids more),
          length-map frames (λ (g : FrameValue). g.id),
          length-map more (λ (g : FrameValue). g.id),
        ) in
        let taken : length (earlier ++ ids frames) ≡ length earlier + length frames =
        omega (arith, length-append earlier (ids frames), length-map frames (λ (g : FrameValue). g.id)) in
        let next : length (numbered_ids w s (upto (suc t))) ≡ length earlier + length (waiting_ids slots) =
        ap (length {A = ℕ}) (numbered_next w s t) ∙ length-append earlier (waiting_ids slots) in
        omega (
          arith,
          room.placed,
          room.within,
          same_room,
          shorter,
          taken,
          next,
          numbered_within w s (suc t),
          left.so_far.moved.count,
          same_total before.flows w flows,
          finished_known before.flows w flows,
        )

    module _ (x : WindowValue) (stands : WindowStandsFor x (with_state State.Acked (start_of y) y) bodies)
      where
        abbrev after : TransmitValue
        after = after_expelled v s t x f

        so_far_next : HasDropped before w bodies s t after
            (with_frames_finished (after_tids_left w s (upto t)) (Dropped Left) (ids (frames ++ f ∷ [])))
            (earlier ++ ids (frames ++ f ∷ [])) (dropped + 1)
        so_far_next =
            let u : World = after_tids_left w s (upto t) in
            let known = known_at w places s f.id t place in
            let body : IsBodySettled bodies f = middle (IsBodySettled bodies) frames f more
            (subst (All (IsBodySettled bodies)) (sym split) (dropped_bodies Left slots bodies own)) in
            let one : HasDropped before w bodies s t after
            (with_frame_finished (with_frames_finished u (Dropped Left) (ids frames)) (Dropped Left) f.id)
            ((earlier ++ ids frames) ++ f.id ∷ []) (dropped + 1) =
            finished_step before w bodies s t v (with_frames_finished u (Dropped Left) (ids frames))
            (earlier ++ ids frames) dropped left.so_far (with_window v.windows s t x) f known.0 known.1
            (ap (λ (g : FrameValue). g.fate) same) body nowhere_now in
            let all : HasDropped before w bodies s t after
            (with_frames_finished u (Dropped Left) (ids frames ++ f.id ∷ []))
            (earlier ++ (ids frames ++ f.id ∷ [])) (dropped + 1) =
            subst (λ (l : List ℕ). HasDropped before w bodies s t after
            (with_frames_finished u (Dropped Left) (ids frames ++ f.id ∷ [])) l (dropped + 1))
            (append_assoc earlier (ids frames) (f.id ∷ []))
            (subst (λ (z : World). HasDropped before w bodies s t after z
            ((earlier ++ ids frames) ++ f.id ∷ [])
            (dropped + 1)) (sym (finish_all-append (ids frames) u (Dropped Left) f.id)) one) in
            subst (λ (l : List ℕ). HasDropped before w bodies s t after
            (with_frames_finished u (Dropped Left) l) (earlier ++ l) (dropped + 1))
            (sym (map-append (λ (g : FrameValue). g.id) frames (f ∷ []))) all

        pub frame_next : IsExpelling before w bodies s t after (frames ++ f ∷ []) (dropped + 1)
        frame_next = record {
          tid = left.tid;
          so_far = so_far_next;
          expelled = subst (λ (z : WindowValue). HasExpelled z (session w s t) bodies (frames ++ f ∷ []))
              (sym (window_same v.windows s t x inside_windows))
              (expelling_next (window_of v.windows s t) (session w s t) bodies frames left.expelled x f some
              same stands);
          windows = subst (λ (ws : List WindowValue). AreEmptied before.windows ws s t)
              (sym (set-set v.windows (tid_number s t) x (window_of before.windows s t))) left.windows;
        }

  -- ---- the window has given all its frames

  module _ (x : WindowValue) (none : next_number y ≡ start_of y) (stands : WindowStandsFor x y bodies) where
    abbrev emptied : TransmitValue
    emptied = record v { windows = with_window v.windows s t x }

    all_given : frames ≡ frames_left bodies (session w s t)
    all_given = expelling_ends (window_of v.windows s t) (session w s t) bodies frames left.expelled none

    here : window_of (with_window v.windows s t x) s t ≡ x
    here = window_same v.windows s t x inside_windows

    still : IsExpelling before w bodies s t emptied frames dropped
    still =
        let l = left.so_far in
        record {
          tid = left.tid;
          so_far = record {
            stood = l.stood;
            allowed = l.allowed;
            rest = ap (λ (z : TransmitValue). let u : TransmitValue =
                record z { windows = with_window v.windows s t x } in u) l.rest;
            parts = l.parts;
            moved = l.moved;
            grown = l.grown;
            unlisted = l.unlisted;
            queued = l.queued;
            fates = l.fates;
          };
          expelled = subst (λ (z : WindowValue). HasExpelled z (session w s t) bodies frames) (sym here)
              (record {
                now = y;
                stands = stands;
                none_fly = left.expelled.none_fly;
                rest =
                    left.expelled.rest;
              });
          windows = subst (λ (ws : List WindowValue). AreEmptied before.windows ws s t)
              (sym (set-set v.windows (tid_number s t) x (window_of before.windows s t))) left.windows;
        }

    pub window_ends : IsExpelled before w bodies s t emptied dropped
    window_ends = record {
      expelling = subst (λ (fs : List FrameValue). IsExpelling before w bodies s t emptied fs dropped)
          all_given still;
      empty = ap (λ (z : WindowValue). z.places) here ∙ places_none x y bodies stands none;
    }

-- ---- the TID's queues are purged

module _ (before v : TransmitValue) (w : World) (bodies : ℕ → FrameValue) (s t dropped : ℕ)
    (left : IsExpelled before w bodies s t v dropped) where
  pub tid_ends : IsLeaving before w bodies s (suc t) (after_tid_purged v s t)
      (dropped + frames_of_tid v.flows (tid_number s t))
  tid_ends =
      let it : IsExpelling before w bodies s t v (frames_left bodies (session w s t)) dropped =
      left.expelling in
      let h : StandsFor before w bodies = it.so_far.stood in
      let allowed : IsAllowed w s = allowed_leave w s it.so_far.allowed in
      let u : World = after_tids_left w s (upto t) in
      let same : rest_of_world u ≡ rest_of_world w = rest_tids (upto t) w s in
      let earlier : List ℕ = numbered_ids w s (upto t) in
      let mine : List ℕ = waiting_ids (session w s t).slots in
      let own_ids : ids (frames_left bodies (session w s t)) ≡ mine =
      dropped_ids Left (session w s t).slots bodies (own before v w bodies s t dropped
      (frames_left bodies (session w s t)) it) in
      let sessions : session u s t ≡ session w s t = ap (λ (r : Rest). r.sessions s t) same in
      let as_mine : HasDropped before w bodies s t v (with_frames_finished u (Dropped Left) mine)
      (earlier ++ mine) dropped =
      subst (λ (l : List ℕ). HasDropped before w bodies s t v (with_frames_finished u (Dropped Left) l)
      (earlier ++ l) dropped) own_ids it.so_far in
      let as_of_u : HasDropped before w bodies s t v
      (with_frames_finished u (Dropped Left) (waiting_ids (session u s t).slots))
      (earlier ++ mine) dropped =
      subst (λ (z : Session). HasDropped before w bodies s t v
      (with_frames_finished u (Dropped Left) (waiting_ids z.slots)) (earlier ++ mine) dropped)
      (sym sessions) as_mine in
      let next : after_tids_left w s (upto (suc t)) ≡ after_tid_left u s t = tids_next w s t in
      let turns : TurnsStandFor before.sched (after_tid_left u s t) =
      subst (TurnsStandFor before.sched) next (left_tids_leave w s
      (upto (suc t)) before.sched h.parts.others.turns) in
      let high : s < u.config.stations = omega (arith, allowed.low, ap (λ (r : Rest). r.config.stations) same)
      in
      let gone : HasDropped before w bodies s (suc t) (after_tid_purged v s t) (after_tid_left u s t)
      (earlier ++ mine) (dropped + frames_of_tid v.flows (tid_number s t)) =
      purged_step before w bodies s t v u (earlier ++ mine) dropped as_of_u
      (rest_live w u s same ∙ allowed.live) high it.tid turns in
      record {
        so_far = subst (λ (l : List ℕ). HasDropped before w bodies s (suc t) (after_tid_purged v s t)
            (after_tids_left w s (upto (suc t))) l (dropped + frames_of_tid v.flows (tid_number s t)))
            (sym (numbered_next w s t))
            (subst (λ (z : World). HasDropped before w bodies s (suc t) (after_tid_purged v s t) z
            (earlier ++ mine) (dropped + frames_of_tid v.flows (tid_number s t))) (sym next) gone);
        windows = record {
          sized = sym (windows_count v.windows s t (window_of before.windows s t)) ∙ it.windows.sized;
          empty = λ k below. elim (cases_eq k t) [
            | inl e ↦ ap (λ (n : ℕ). (window_of v.windows s n).places) e ∙ left.empty
            | inr other ↦
                ap (λ (z : WindowValue). z.places) (sym (window_other v.windows s t
                (window_of before.windows s t) s k it.tid (omega (arith, below, it.tid))
                (λ _ e. other e)))
                ∙ it.windows.empty k (omega (arith, below, other))
          ];
          others = λ i k low out.
              sym (window_other v.windows s t (window_of before.windows s t) i k it.tid low
              (λ e f. out e (omega (arith, f))))
              ∙ it.windows.others i k low (λ e below. out e (omega (arith, below)));
        };
      }
