-- Proves the stages in which the waiting numbers of a TID fail one after the other, for a flush or at the end
-- of an agreement, and the frame of each is finished. The parts represent the world at each stage.
use Rattle.std.proofs.Common.{◌≡◌, ◌≢◌, refl, ap, sym, ◌∙◌, subst, arith, ℕ, suc, ◌+◌, ◌<◌, ◌≤◌, true, List, [], ◌∷◌, ◌++◌, length, append_assoc, length-append, Option, Some, None, option_map, unwrap_or}
use Rattle.std.specs.Prelude.{All}
use Rattle.std.proofs.lemmas.List.{length-map, map-append, set-get_or}
use Rattle.wf_frame.specs.declared.classes.Cause.{Cause}
use Rattle.wf_frame.specs.declared.classes.Cause.TheVariants.{Overlimit, Codel, Retries, Left, Flushed, Ended}
use Rattle.wf_frame.specs.declared.classes.Fate.{Fate}
use Rattle.wf_frame.specs.declared.classes.Fate.TheVariants.{Held, Dropped}
use Rattle.wf_frame.specs.Classes.{tid_number}
use Rattle.wf_frame.specs.Frames.{FrameValue}
use Rattle.wf_def_agreement.specs.Session.{Session, Slot, after_flush as session_flushed}
use Rattle.wf_def_lists.specs.Lists.{on}
use Rattle.wf_def_lists.specs.Table.{at, put, change, upto}
use Rattle.wf_law_rules.proofs.Lemmas.Counts.{on-nil, on-append, on-cons_same}
use Rattle.wf_def_world.specs.World.{World, Station, no_station, no_tid, is_live, is_held, session, frame, accepted_count, inside, with_station, on_station, on_tid, on_session, with_fate, with_frame_finished, with_frames_finished}
use Rattle.wf_def_world.specs.Step.{waiting_ids}
use Rattle.wf_law_runs.specs.Places.{KeepsPlaces}
use Rattle.wf_law_runs.specs.Room.{in_windows}
use Rattle.wf_law_runs.specs.Tallies.{AddsUp}
use Rattle.wf_law_runs.proofs.Deficits.Books.{upd_other}
use Rattle.wf_law_runs.proofs.Frames.Tallies.{tally_law}
use Rattle.wf_queue_flows.specs.Backlog.{held_in_backlog}
use Rattle.wf_queue_flows.specs.Flows.{SettingsValue}
use Rattle.wf_queue_flows_refines.specs.Frames.{QueuedAreHeld, IsBodySettled}
use Rattle.wf_queue_flows_refines.specs.Standing.{Part, flows_part, ids, times_held}
use Rattle.wf_queue_flows_refines.proofs.Elsewhere.{rest_finish_all}
use Rattle.wf_queue_flows_refines.proofs.Ends.{finish_all-append}
use Rattle.wf_queue_flows_refines.proofs.Heads.{queued_is_held}
use Rattle.wf_queue_flows_refines.proofs.Held.{held_finish}
use Rattle.wf_queue_flows_refines.proofs.Holdings.{times_finish}
use Rattle.wf_queue_flows_refines.proofs.Leaves.{session_alone}
use Rattle.wf_queue_flows_refines.proofs.Parts.{part_finish}
use Rattle.wf_queue_flows_refines.proofs.Readers.{same_total}
use Rattle.wf_send_parts.specs.Expelling.{frames_dropped}
use Rattle.wf_send_parts.specs.Flushing.{HasFlushed}
use Rattle.wf_send_parts.specs.Tally.{Counts, held_in, settled_count, settled_as, many_settled_as}
use Rattle.wf_send_parts.specs.Window.{WindowValue, WindowStandsFor}
use Rattle.wf_send_parts.specs.Windows.{WindowsHaveRoom, no_window, window_of, with_window}
use Rattle.wf_send_parts.proofs.Changes.{window_same}
use Rattle.wf_send_parts.proofs.Listing.{listing_begins}
use Rattle.wf_send_half_model.specs.Half.{TransmitValue}
use Rattle.wf_send_half_model.specs.Ending.{after_finish}
use Rattle.wf_send_half_model.specs.Flushing.{with_numbers_dropped, with_waiting_failed, MayDrop, IsFlushing, HasNumbersFlushed}
use Rattle.wf_send_half_model.specs.Leaving.{numbered_ids}
use Rattle.wf_send_half_model.specs.Standing.{counts_in, Parts, StandsFor}
use Rattle.wf_send_half_model.specs.Views.{Agreements, agreements}
use Rattle.wf_send_half_model.proofs.Dropping.{held_counted, finished_known}
use Rattle.wf_send_half_model.proofs.Endings.{nowhere}
use Rattle.wf_send_half_model.proofs.Enqueues.{places_kept}
use Rattle.wf_send_half_model.proofs.Flies.{session_twice}
use Rattle.wf_send_half_model.proofs.Ledgers.{none_more}
use Rattle.wf_send_half_model.proofs.Leavings.{AreOwn, dropped_ids, dropped_bodies, middle, HasPlace, has_place}
use Rattle.wf_send_half_model.proofs.Moves.{session_parts, finish_parts}
use Rattle.wf_send_half_model.proofs.Numbered.{IsWaitingAt, waiting_place, numbered_next, numbered_at, known_at, once_below}
use Rattle.wf_send_half_model.proofs.Reached.{by_law}
use Rattle.wf_send_half_model.proofs.Rooms.{numbered_within}
use Rattle.wf_send_half_model.proofs.Views.{agreements_rest, agreements_session}

-- ---- the counts

one_past : (a k m : ℕ) → m ≡ k + 1 → (a + k) + 1 ≡ a + m
one_past a k m e = omega (arith, e)

counts_more : (cause : Cause) (k m : ℕ) (c : Counts) → m ≡ k + 1 →
    settled_as (Dropped cause) (many_settled_as (Dropped cause) k c) ≡ many_settled_as (Dropped cause) m c
counts_more Overlimit k m c e = ap (λ (n : ℕ). record c { overlimit = n }) (one_past c.overlimit k m e)
counts_more Codel k m c e = ap (λ (n : ℕ). record c { codel = n }) (one_past c.codel k m e)
counts_more Retries k m c e = ap (λ (n : ℕ). record c { retries = n }) (one_past c.retries k m e)
counts_more Left k m c e = ap (λ (n : ℕ). record c { left = n }) (one_past c.left k m e)
counts_more Flushed k m c e = ap (λ (n : ℕ). record c { flushed = n }) (one_past c.flushed k m e)
counts_more Ended k m c e = ap (λ (n : ℕ). record c { ended = n }) (one_past c.ended k m e)

counts_accepted : (cause : Cause) (n : ℕ) (c : Counts) →
    (many_settled_as (Dropped cause) n c).accepted ≡ c.accepted
counts_accepted Overlimit n c = refl
counts_accepted Codel n c = refl
counts_accepted Retries n c = refl
counts_accepted Left n c = refl
counts_accepted Flushed n c = refl
counts_accepted Ended n c = refl

counts_held : (cause : Cause) (n : ℕ) (c : Counts) →
    settled_count (many_settled_as (Dropped cause) n c) ≡ settled_count c + n
counts_held Overlimit n c = omega arith
counts_held Codel n c = omega arith
counts_held Retries n c = omega arith
counts_held Left n c = omega arith
counts_held Flushed n c = omega arith
counts_held Ended n c = omega arith

-- ---- the worlds between two numbers

session_finish : (u : World) (fate : Fate) (id s t : ℕ) (g : Session → Session) →
    on_session (with_frame_finished u fate id) s t g ≡ with_frame_finished (on_session u s t g) fate id
unfolding with_frame_finished with_fate on_session on_tid on_station with_station
session_finish u fate id s t g = refl

session_finish_all : (ids : List ℕ) (u : World) (fate : Fate) (s t : ℕ) (g : Session → Session) →
    on_session (with_frames_finished u fate ids) s t g ≡ with_frames_finished (on_session u s t g) fate ids
unfolding with_frames_finished
session_finish_all [] u fate s t g = refl
session_finish_all (id ∷ ids) u fate s t g = session_finish_all ids (with_frame_finished u fate id) fate s t g
    ∙ ap (λ (z : World). with_frames_finished z fate ids) (session_finish u fate id s t g)

numbers_then : (cause : Cause) (w : World) (s t : ℕ) (y z : Session) (ids : List ℕ) →
    on_session (with_numbers_dropped cause w s t y ids) s t (λ _. z) ≡ with_numbers_dropped cause w s t z ids
numbers_then cause w s t y z ids =
    session_finish_all ids (on_session w s t (λ _. y)) (Dropped cause) s t (λ _. z)
    ∙ ap (λ (u : World). with_frames_finished u (Dropped cause) ids)
    (session_twice w s t (λ _. y) (λ _. z))

-- to change a session is to replace it
session_replaced : (w : World) (s t : ℕ) (f : Session → Session) →
    on_session w s t f ≡ on_session w s t (λ _. f (session w s t))
unfolding on_session on_tid on_station with_station
session_replaced w s t f = ap (λ (o : Option Station). record w { stations = put None w.stations s o })
    (go (at None w.stations s))
  where
    go : (o : Option Station) →
        option_map (λ (x : Station). record x {
          tids = change no_tid x.tids t (λ y. record y { session = f y.session });
        }) o
        ≡ option_map (λ (x : Station). record x {
          tids = change no_tid x.tids t
              (λ y. record y { session = f (at no_tid (unwrap_or o no_station).tids t).session });
        }) o
    go None = refl
    go (Some x) = refl

no_numbers : (w : World) (fate : Fate) → with_frames_finished w fate [] ≡ w
unfolding with_frames_finished
no_numbers w fate = refl

numbers_agree : (cause : Cause) (w : World) (s t : ℕ) (y : Session) (ids : List ℕ) →
    agreements (with_numbers_dropped cause w s t y ids) ≡ agreements (on_session w s t (λ _. y))
numbers_agree cause w s t y ids =
    let u : World = on_session w s t (λ _. y) in
    agreements_rest u (with_frames_finished u (Dropped cause) ids) (rest_finish_all ids u (Dropped cause))

still_live : (cause : Cause) (w : World) (s t : ℕ) (y : Session) (ids : List ℕ) → is_live w s ≡ true →
    is_live (with_numbers_dropped cause w s t y ids) s ≡ true
still_live cause w s t y ids live = ap (λ (a : Agreements). a.live s) (numbers_agree cause w s t y ids
    ∙ agreements_session w s t (λ _. y) live) ∙ live

grows : (ids : List ℕ) (w : World) (fate : Fate) →
    length (with_frames_finished w fate ids).finished ≡ length w.finished + length ids
unfolding with_frames_finished with_frame_finished with_fate
grows [] w fate = omega arith
grows (id ∷ ids) w fate = omega (
  arith,
  grows ids (with_frame_finished w fate id) fate,
  length-append w.finished (id ∷ []),
)

session_finished : (w : World) (s t : ℕ) (f : Session → Session) → (on_session w s t f).finished ≡ w.finished
unfolding on_session on_tid on_station with_station
session_finished w s t f = refl

session_frame : (w : World) (s t : ℕ) (f : Session → Session) (id : ℕ) →
    (frame (on_session w s t f) id).fate ≡ (frame w id).fate
unfolding on_session on_tid on_station with_station
session_frame w s t f id = refl

-- ---- the beginning

pub flush_begins : (cause : Cause) (v : TransmitValue) (w : World) (bodies : ℕ → FrameValue) (s t : ℕ) →
    StandsFor v w bodies → is_live w s ≡ true → t < 8 →
    IsFlushing cause v w bodies s t v [] (window_of v.windows s t).start
flush_begins cause v w bodies s t h live tid =
    let may : MayDrop v w bodies s t = record { stood = h; live = live; tid = tid } in
    let y : Session = session w s t in
    let stands : WindowStandsFor (window_of v.windows s t) y bodies =
    h.parts.windows.all.stands s t may.live may.tid in
    record {
      may = may;
      flushed = record {
        now = y;
        stands = stands;
        search = listing_begins (window_of v.windows s t) y bodies stands;
        rest = refl;
        leads = refl;
      };
      parts = subst (λ (u : World). Parts v u bodies) (sym nothing_yet)
          (subst (λ (ws : List WindowValue). Parts (record v { windows = ws })
          (on_session w s t (λ _. session w s t)) bodies) back
          (session_parts v w bodies s t (λ _. y) (window_of v.windows s t) may.live may.tid
          (subst WindowsHaveRoom (sym back) h.parts.windows.room) stands h.parts));
      rest = refl;
      tally = none_more (Dropped cause) v.tally;
      moved = record { times = λ id. omega (arith, on-nil id); count = omega arith };
      queued = λ q id some. alike id
          ∙ queued_is_held v.flows w h.parts.others.flows (places_kept w h.reached) q id some;
      fates = λ id none. alike id;
    }
  where
    nothing_yet : with_numbers_dropped cause w s t (session w s t) [] ≡ on_session w s t (λ _. session w s t)
    nothing_yet = no_numbers (on_session w s t (λ _. session w s t)) (Dropped cause)

    alike : (id : ℕ) →
        (frame (with_numbers_dropped cause w s t (session w s t) []) id).fate ≡ (frame w id).fate
    alike id = ap (λ (u : World). (frame u id).fate) nothing_yet
        ∙ session_frame w s t (λ _. session w s t) id

    back : with_window v.windows s t (window_of v.windows s t) ≡ v.windows
    back = set-get_or v.windows (tid_number s t) no_window

-- ---- one number

module _ (cause : Cause) (before v : TransmitValue) (w : World) (bodies : ℕ → FrameValue) (s t : ℕ)
    (frames : List FrameValue) (from : ℕ) (so_far : IsFlushing cause before w bodies s t v frames from) where
  abbrev h : StandsFor before w bodies
  h = so_far.may.stood

  abbrev slots : List Slot
  slots = (session w s t).slots

  abbrev now : World
  now = with_numbers_dropped cause w s t so_far.flushed.now (ids frames)

  places : KeepsPlaces w
  places = places_kept w h.reached

  own : AreOwn bodies slots
  own id some =
      let known = known_at w places s id t (waiting_place slots id some) in
      let it = h.parts.others.notes id known.0 in
      (it.id, it.fate)

  same_settings : v.flows.backlog.room ≡ w.config.room
  same_settings = ap (λ (c : SettingsValue). c.room) so_far.parts.others.flows.settings
      ∙ ap (λ (a : Agreements). a.config.room) (numbers_agree cause w s t so_far.flushed.now (ids frames)
      ∙ agreements_session w s t (λ _. so_far.flushed.now) so_far.may.live)

  pub flush_within : tid_number s t < length v.windows
  flush_within = omega (
    arith,
    so_far.parts.windows.sized,
    h.parts.others.turns.live s so_far.may.live,
    so_far.may.tid,
    ap (λ (a : Agreements). a.config.stations) (numbers_agree cause w s t so_far.flushed.now (ids frames)
        ∙ agreements_session w s t (λ _. so_far.flushed.now) so_far.may.live),
  )

  -- the frames of the numbers that have waited
  all_ids : ids (frames_dropped cause bodies (session w s t)) ≡ waiting_ids slots
  all_ids = dropped_ids cause slots bodies own

  few : length (waiting_ids slots) ≤ in_windows w
  few = omega (
    arith,
    numbered_within w s (suc t),
    ap (length {A = ℕ}) (numbered_next w s t),
    length-append (numbered_ids w s (upto t)) (waiting_ids slots),
  )

  accepted_same : accepted_count now ≡ accepted_count w
  accepted_same = sym (ap (λ (c : Counts). c.accepted) so_far.parts.others.tally)
      ∙ ap (λ (c : Counts). c.accepted) so_far.tally
      ∙ counts_accepted cause (length frames) before.tally
      ∙ ap (λ (c : Counts). c.accepted) h.parts.others.tally

  pub flushing_few : length frames ≤ w.config.room
  flushing_few =
      let place : HasPlace w.config.room w = has_place w h.reached in
      let split : ids frames ++ ids (frames_dropped cause bodies so_far.flushed.now) ≡ waiting_ids slots =
      sym (map-append (λ (g : FrameValue). g.id) frames (frames_dropped cause bodies so_far.flushed.now))
      ∙ ap ids so_far.flushed.rest ∙ all_ids in
      omega (
        arith,
        place.placed,
        place.within,
        few,
        ap (length {A = ℕ}) split,
        length-append (ids frames) (ids (frames_dropped cause bodies so_far.flushed.now)),
        length-map frames (λ (g : FrameValue). g.id),
      )

  -- the window gives one more frame
  module _ (x : WindowValue) (f : FrameValue) (next : ℕ)
      (one : HasFlushed cause w.config.attempts x (session w s t) bodies (frames ++ f ∷ []) next) where
    abbrev more : List FrameValue
    more = frames_dropped cause bodies one.now

    split : frames ++ f ∷ more ≡ frames_dropped cause bodies (session w s t)
    split = sym (append_assoc frames (f ∷ []) more) ∙ one.rest

    id_split : ids frames ++ f.id ∷ ids more ≡ waiting_ids slots
    id_split = sym (map-append (λ (g : FrameValue). g.id) frames (f ∷ more)) ∙ ap ids split ∙ all_ids

    times_here : on (waiting_ids slots) f.id ≡ on (ids frames) f.id + on (f.id ∷ ids more) f.id
    times_here = ap (λ (l : List ℕ). on l f.id) (sym id_split) ∙ on-append (ids frames) (f.id ∷ ids more) f.id

    place : IsWaitingAt slots f.id
    place = waiting_place slots f.id (omega (arith, times_here, on-cons_same f.id (ids more)))

    once : on (waiting_ids slots) f.id ≤ 1
    once = omega (
      arith,
      once_below w places s f.id (suc t),
      ap (λ (l : List ℕ). on l f.id) (numbered_next w s t),
      on-append (numbered_ids w s (upto t)) (waiting_ids slots) f.id,
    )

    nowhere_now : times_held v.flows.backlog f.id ≡ 0
    nowhere_now = omega (
      arith,
      so_far.moved.times f.id,
      once,
      times_here,
      on-cons_same f.id (ids more),
      nowhere before w bodies h f.id s t ((session w s t).first + place.place)
          (numbered_at w places s f.id t place),
    )

    shorter : length (waiting_ids slots) ≡ length frames + (1 + length more)
    shorter = ap (length {A = ℕ}) (sym id_split) ∙ omega (
      arith,
      length-append (ids frames) (f.id ∷ ids more),
      length-map frames (λ (g : FrameValue). g.id),
      length-map more (λ (g : FrameValue). g.id),
    )

    -- there is room for it, and it is still held
    pub flush_room : (held_in_backlog v.flows.backlog < v.flows.backlog.room) × (1 ≤ held_in v.tally)
    flush_room =
        let room : HasPlace w.config.room w = has_place w h.reached in
        let flows = h.parts.others.flows in
        let adds : AddsUp w = by_law AddsUp w h.reached (tally_law w.config h.reached.history) in
        let counted : many_settled_as (Dropped cause) (length frames) (counts_in w) ≡ v.tally =
        sym (so_far.tally ∙ ap (many_settled_as (Dropped cause) (length frames)) h.parts.others.tally) in (
          omega (
            arith,
            room.placed,
            room.within,
            same_settings,
            shorter,
            few,
            so_far.moved.count,
            length-map frames (λ (g : FrameValue). g.id),
            same_total before.flows w flows,
            finished_known before.flows w flows,
          ),
          subst (λ (c : Counts). 1 ≤ held_in c) counted (omega (
            arith,
            adds,
            held_counted w,
            room.placed,
            shorter,
            few,
            counts_held cause (length frames) (counts_in w),
            counts_accepted cause (length frames) (counts_in w),
          )),
        )

    module _ (room : WindowsHaveRoom (with_window v.windows s t x)) (fate : f.fate ≡ Dropped cause) where
      abbrev moved : TransmitValue
      moved = record v { windows = with_window v.windows s t x }

      abbrev failed : World
      failed = with_numbers_dropped cause w s t one.now (ids frames)

      abbrev after : TransmitValue
      after = after_finish moved f

      failed_parts : Parts moved failed bodies
      failed_parts = subst (λ (u : World). Parts moved u bodies)
          (numbers_then cause w s t so_far.flushed.now one.now (ids frames))
          (session_parts v now bodies s t (λ _. one.now) x
          (still_live cause w s t so_far.flushed.now (ids frames) so_far.may.live) so_far.may.tid room
          one.stands so_far.parts)

      known : (f.id < accepted_count w) × ((frame w f.id).fate ≡ Held)
      known = known_at w places s f.id t place

      -- the change of the session changes no frame
      alike : (id : ℕ) → (frame failed id).fate ≡ (frame now id).fate
      alike id = ap (λ (u : World). (frame u id).fate)
          (sym (numbers_then cause w s t so_far.flushed.now one.now (ids frames)))
          ∙ session_frame now s t (λ _. one.now) id

      held_now : (frame failed f.id).fate ≡ Held
      held_now = alike f.id ∙ so_far.fates f.id nowhere_now ∙ known.1

      low_now : f.id < accepted_count failed
      low_now = omega (
        arith,
        known.0,
        accepted_same,
        ap (λ (u : World). accepted_count u) (sym (numbers_then cause w s t so_far.flushed.now one.now
            (ids frames))),
        ap (λ (p : Part). p.accepted) (session_alone now s t (λ _. one.now)),
      )

      body : IsBodySettled bodies f
      body = middle (IsBodySettled bodies) frames f more
          (subst (All (IsBodySettled bodies)) (sym split) (dropped_bodies cause slots bodies own))

      finished_is : with_frame_finished failed f.fate f.id
          ≡ with_numbers_dropped cause w s t one.now (ids (frames ++ f ∷ []))
      finished_is = ap (λ (z : Fate). with_frame_finished failed z f.id) fate
          ∙ sym (finish_all-append (ids frames) (on_session w s t (λ _. one.now)) (Dropped cause) f.id)
          ∙ ap (λ (l : List ℕ). with_numbers_dropped cause w s t one.now l)
          (sym (map-append (λ (g : FrameValue). g.id) frames (f ∷ [])))

      shown : window_of after.windows s t ≡ x
      shown = window_same v.windows s t x flush_within

      pub flush_next : IsFlushing cause before w bodies s t after (frames ++ f ∷ []) next
      flush_next = record {
        may = so_far.may;
        flushed = record {
          now = one.now;
          stands = subst (λ (z : WindowValue). WindowStandsFor z one.now bodies) (sym shown) one.stands;
          search = one.search;
          rest = one.rest;
          leads = one.leads;
        };
        parts = subst (λ (u : World). Parts after u bodies) finished_is
            (finish_parts moved failed bodies f low_now held_now (ap is_held fate) nowhere_now body
            failed_parts);
        rest = ap (λ (z : TransmitValue). let u : TransmitValue = record z {
          windows = after.windows;
          flows = after.flows;
          tally = after.tally;
        } in u) so_far.rest;
        tally = tally_next;
        moved = record {
          times = λ id. omega (
            arith,
            times_finish v.flows id f,
            so_far.moved.times id,
            ap (λ (l : List ℕ). on l id) (map-append (λ (g : FrameValue). g.id) frames (f ∷ [])),
            on-append (ids frames) (f.id ∷ []) id,
          );
          count = omega (
            arith,
            so_far.moved.count,
            length-append v.flows.backlog.finished (f ∷ []),
            length-append frames (f ∷ []),
            length-map frames (λ (g : FrameValue). g.id),
            length-map (frames ++ f ∷ []) (λ (g : FrameValue). g.id),
          );
        };
        queued = subst (QueuedAreHeld after.flows) finished_is
            (held_finish v.flows failed f failed_parts.others.flows held_failed low_now nowhere_now);
        fates = λ id none.
            let other : id ≢ f.id = λ e. omega (
              arith,
              none,
              times_finish v.flows id f,
              ap (on (f.id ∷ [])) e,
              on-cons_same f.id [],
            ) in
            ap (λ (u : World). (frame u id).fate) (sym finished_is)
            ∙ ap (λ (p : Part). p.fates id) (part_finish failed f.fate f.id low_now)
            ∙ upd_other (flows_part failed).fates f.id id f.fate other
            ∙ alike id ∙ so_far.fates id (omega (arith, none, times_finish v.flows id f));
      }
        where
          tally_next : after.tally ≡ many_settled_as (Dropped cause) (length (frames ++ f
              ∷ [])) before.tally
          tally_next =
              ap (λ (z : Fate). settled_as z v.tally) fate ∙ ap (settled_as (Dropped cause)) so_far.tally
              ∙ counts_more cause (length frames) (length (frames ++ f ∷ [])) before.tally
              (length-append frames (f ∷ []))

          held_failed : QueuedAreHeld v.flows failed
          held_failed q id some = alike id ∙ so_far.queued q id some

  -- the window has given all frames of waiting numbers
  module _ (x : WindowValue) (room : WindowsHaveRoom (with_window v.windows s t x))
      (all : frames ≡ frames_dropped cause bodies (session w s t))
      (stands : WindowStandsFor x (session_flushed w.config.attempts (session w s t)) bodies) where
    numbers_are : with_numbers_dropped cause w s t (session_flushed w.config.attempts (session w s t))
        (ids frames) ≡ with_waiting_failed cause w s t
    numbers_are =
        ap (λ (u : World). with_frames_finished u (Dropped cause) (ids frames))
        (sym (session_replaced w s t (session_flushed w.config.attempts)))
        ∙ ap (λ (l : List ℕ). with_frames_finished (on_session w s t (session_flushed w.config.attempts))
        (Dropped cause) l) (ap ids all ∙ all_ids)

    flushed_is : on_session now s t (λ _. session_flushed w.config.attempts (session w s t))
        ≡ with_waiting_failed cause w s t
    flushed_is = numbers_then cause w s t so_far.flushed.now
        (session_flushed w.config.attempts (session w s t)) (ids frames) ∙ numbers_are

    pub flush_ends : HasNumbersFlushed cause before w bodies s t
        (record v { windows = with_window v.windows s t x }) (length frames)
    flush_ends = record {
      may = so_far.may;
      parts = subst (λ (u : World). Parts (record v { windows = with_window v.windows s t x }) u bodies)
          flushed_is (session_parts v now bodies s t
          (λ _. session_flushed w.config.attempts (session w s t)) x
          (still_live cause w s t so_far.flushed.now (ids frames) so_far.may.live) so_far.may.tid room stands
          so_far.parts);
      rest = ap (λ (z : TransmitValue). let u : TransmitValue =
          record z { windows = with_window v.windows s t x } in u) so_far.rest;
      tally = so_far.tally;
      grown = omega (
        arith,
        grows (waiting_ids slots) (on_session w s t (session_flushed w.config.attempts)) (Dropped cause),
        ap (length {A = ℕ}) (session_finished w s t (session_flushed w.config.attempts)),
        ap (length {A = ℕ}) (sym all_ids),
        ap (length {A = FrameValue}) all,
        length-map (frames_dropped cause bodies (session w s t)) (λ (g : FrameValue). g.id),
      );
      queued = subst (QueuedAreHeld v.flows) flushed_is (λ q id some.
          session_frame now s t (λ _. session_flushed w.config.attempts (session w s t)) id
          ∙ so_far.queued q id some);
    }

-- the frames whose numbers failed were held before, so there was room for them
pub waiting_few : (cause : Cause) (before v : TransmitValue) (w : World) (bodies : ℕ → FrameValue)
    (s t dropped : ℕ) → HasNumbersFlushed cause before w bodies s t v dropped → dropped ≤ w.config.room
waiting_few cause before v w bodies s t dropped so_far =
    let h : StandsFor before w bodies = so_far.may.stood in
    let now : World = with_waiting_failed cause w s t in
    let place : HasPlace w.config.room w = has_place w h.reached in
    let same : inside now ≡ inside w = sym so_far.parts.others.inside
    ∙ ap (λ (z : TransmitValue). z.inside) so_far.rest ∙ h.parts.others.inside in
    omega (arith, place.within, held_counted now, held_counted w, same, so_far.grown)
