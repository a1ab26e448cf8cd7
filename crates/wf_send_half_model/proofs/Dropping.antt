-- Proves two stages of a leave: one more frame is finished, and the queues of a TID are purged.
use Rattle.std.proofs.Common.{◌≡◌, ◌≢◌, refl, ap, ap₂, sym, ◌∙◌, subst, arith, ℕ, suc, ◌+◌, ◌*◌, ◌<◌, Bool, true, List, [], ◌∷◌, ◌++◌, length, map, length-append, length-set, add-zero, mul-zero, mul-one, inl, inr}
use Rattle.std.specs.Prelude.{count_by}
use Rattle.std.proofs.Math.Path.{fun_ext}
use Rattle.std.proofs.lemmas.Bool.{cases_eq}
use Rattle.std.proofs.lemmas.List.{length-map}
use Rattle.std.proofs.lemmas.List.Sums.{sum_by-set}
use Rattle.wf_frame.specs.declared.classes.Cause.{Cause}
use Rattle.wf_frame.specs.declared.classes.Cause.TheVariants.{Overlimit, Codel, Retries, Left, Flushed, Ended}
use Rattle.wf_frame.specs.declared.classes.Fate.{Fate}
use Rattle.wf_frame.specs.declared.classes.Fate.TheVariants.{Held, Acked, Dropped}
use Rattle.wf_frame.specs.declared.notes.Note.{Note}
use Rattle.wf_frame.specs.Frames.{FrameValue}
use Rattle.wf_def_codel.specs.Codel.{Codel as CodelState, renewed}
use Rattle.wf_def_lists.specs.Lists.{on}
use Rattle.wf_def_lists.specs.Table.{has, upto}
use Rattle.wf_law_rules.proofs.Lemmas.Counts.{on-append, on-cons_same}
use Rattle.wf_law_rules.proofs.Lemmas.Members.{has_head, has_tail, has_filter}
use Rattle.wf_def_world.specs.World.{World, Frame, is_live, session, frame, accepted_count, inside, is_held, with_frame_finished, with_frames_finished}
use Rattle.wf_def_world.specs.Step.{waiting_ids, after_tid_left}
use Rattle.wf_def_world.specs.Text.{same_fate, tally}
use Rattle.wf_law_runs.proofs.Deficits.Books.{upd_other}
use Rattle.wf_send_parts.specs.Tally.{Counts, settled_as, many_settled_as}
use Rattle.wf_queue_flows.specs.Backlog.{BacklogValue, frames_at, frame_with_fate, after_emptying, held_in_backlog}
use Rattle.wf_frame.specs.Classes.{tid_number}
use Rattle.wf_queue_flows.specs.Flows.{FlowsValue, SettingsValue, queues as queue_count, is_listed, queues_of, all_emptied, frames_of_tid, tid_rotation, after_purge}
use Rattle.wf_queue_flows_refines.specs.Frames.{HaveSettled, QueuedAreHeld, IsBodySettled, counts_as, notes}
use Rattle.wf_queue_flows_refines.specs.Standing.{Part, flows_part, times_held, with_finished, FlowsStandFor as FlowsStandFor}
use Rattle.wf_queue_flows_refines.specs.Rest.{Rest, rest_of_world}
use Rattle.wf_queue_flows_refines.proofs.Bodies.{frames_purged}
use Rattle.wf_queue_flows_refines.proofs.Elsewhere.{rest_left, rest_finish_all}
use Rattle.wf_queue_flows_refines.proofs.Held.{held_finish, held_left, finishes_purge}
use Rattle.wf_queue_flows_refines.proofs.Holdings.{times_finish, times_purge}
use Rattle.wf_queue_flows_refines.proofs.Lefts.{settled_left, purge_grows}
use Rattle.wf_queue_flows_refines.proofs.Notes.{notes_left, notes_finish_all}
use Rattle.wf_queue_flows_refines.proofs.Parts.{part_finish}
use Rattle.wf_queue_flows_refines.proofs.Purges.{stands_left, accepted_left, purged_lists, purged_others}
use Rattle.wf_queue_flows_refines.proofs.Readers.{count_below}
use Rattle.wf_sched_refines.specs.Standing.{SchedulerStandsFor as TurnsStandFor}
use Rattle.wf_send_parts.specs.Window.{WindowValue}
use Rattle.wf_send_half_model.specs.Half.{TransmitValue}
use Rattle.wf_send_half_model.specs.Standing.{counts_in, Parts}
use Rattle.wf_send_half_model.specs.Ending.{after_finish}
use Rattle.wf_send_half_model.specs.Leaving.{with_left, HasDropped}
use Rattle.wf_send_half_model.specs.Views.{Roster, roster, ledger}
use Rattle.wf_send_half_model.proofs.Views.{agreements_rest, roster_rest}
use Rattle.wf_send_half_model.proofs.Stands.{WindowsStand, ModesStand, StationsStand, GroupsStand, LedgerStands, Pieces, to_pieces, of_pieces}
use Rattle.wf_send_half_model.proofs.Ledgers.{counts_by}
use Rattle.wf_send_half_model.proofs.Moves.{finish_parts}

-- the same counts, with `left` frames dropped as `left`
abbrev with_more : Counts → ℕ → Counts
with_more c left = record c { left = left }

-- ---- one frame

module _ (before : TransmitValue) (w : World) (bodies : ℕ → FrameValue) (s t : ℕ) (v : TransmitValue)
    (now : World) (taken : List ℕ) (dropped : ℕ)
    (h : HasDropped before w bodies s t v now taken dropped) where
  as_many : accepted_count now ≡ accepted_count w
  as_many = sym (ap (λ (c : Counts). c.accepted) h.parts.others.tally)
      ∙ ap (λ (c : Counts). c.accepted) h.stood.parts.others.tally

  pub finished_step : (windows : List WindowValue) (f : FrameValue) → f.id < accepted_count w →
      (frame w f.id).fate ≡ Held → f.fate ≡ Dropped Left → IsBodySettled bodies f →
      times_held v.flows.backlog f.id ≡ 0 →
      HasDropped before w bodies s t (record v {
        windows = windows;
        flows =
            with_finished v.flows (v.flows.backlog.finished ++ f ∷ []);
      })
      (with_frame_finished now (Dropped Left) f.id) (taken ++ f.id ∷ []) (dropped + 1)
  finished_step windows f low_w held_w fate body nowhere =
      let flows : FlowsValue = with_finished v.flows (v.flows.backlog.finished ++ f ∷ []) in
      let low : f.id < accepted_count now = omega (arith, low_w, as_many) in
      let one : Parts (after_finish (with_left before v.flows dropped) f)
      (with_frame_finished now f.fate f.id) bodies =
      finish_parts (with_left before v.flows dropped) now bodies f low (h.fates f.id nowhere ∙ held_w)
      (ap is_held fate) nowhere body h.parts in
      let as_left : Parts (record before {
        flows = flows;
        tally =
            settled_as (Dropped Left) (many_settled_as (Dropped Left) dropped before.tally);
      })
      (with_frame_finished now (Dropped Left) f.id) bodies =
      subst (λ (z : Fate). Parts (record before {
        flows = flows;
        tally =
            settled_as z (many_settled_as (Dropped Left) dropped before.tally);
      })
      (with_frame_finished now z f.id) bodies) fate one in
      let sum : before.tally.left + dropped + 1 ≡ before.tally.left + (dropped + 1) = omega arith in
      record {
        stood = h.stood;
        allowed = h.allowed;
        rest = ap (λ (z : TransmitValue). let u : TransmitValue =
            record z { windows = windows; flows = flows } in u) h.rest;
        parts = subst (λ (n : ℕ). Parts (record before { flows = flows; tally = with_more before.tally n })
            (with_frame_finished now (Dropped Left) f.id) bodies) sum as_left;
        moved = record {
          times = λ id. omega (
            arith,
            times_finish v.flows id f,
            h.moved.times id,
            on-append taken (f.id ∷ []) id,
          );
          count = omega (
            arith,
            h.moved.count,
            length-append v.flows.backlog.finished (f ∷ []),
            length-append taken (f.id ∷ []),
          );
        };
        grown = omega (arith, h.grown, length-append v.flows.backlog.finished (f ∷ []));
        unlisted = h.unlisted;
        queued = subst (λ (z : Fate). QueuedAreHeld flows (with_frame_finished now z f.id)) fate
            (held_finish v.flows now f h.parts.others.flows h.queued low nowhere);
        fates = λ id none.
            let other : id ≢ f.id = λ e. omega (
              arith,
              none,
              times_finish v.flows id f,
              ap (on (f.id ∷ [])) e,
              on-cons_same f.id [],
            ) in
            ap (λ (p : Part). p.fates id) (part_finish now (Dropped Left) f.id low)
            ∙ upd_other (flows_part now).fates f.id id (Dropped Left) other
            ∙ h.fates id (omega (arith, none, times_finish v.flows id f));
      }

-- ---- the ledger, as frames are dropped

held_alike : (fate : Fate) → is_held fate ≡ same_fate fate Held
held_alike Held = refl
held_alike Acked = refl
held_alike (Dropped cause) = refl

pub held_counted : (w : World) → count_by (λ f. is_held f.fate) w.frames ≡ tally w Held
held_counted w = ap (λ (p : Frame → Bool). count_by p w.frames) (fun_ext (λ (f : Frame). held_alike f.fate))

-- the counts with n more frames dropped for this cause
abbrev with_dropped : Cause → ℕ → Counts → Counts
with_dropped cause n c = record c {
  acked = c.acked + n * counts_as (Dropped cause) Acked;
  overlimit = c.overlimit + n * counts_as (Dropped cause) (Dropped Overlimit);
  codel = c.codel + n * counts_as (Dropped cause) (Dropped Codel);
  retries = c.retries + n * counts_as (Dropped cause) (Dropped Retries);
  left = c.left + n * counts_as (Dropped cause) (Dropped Left);
  flushed = c.flushed + n * counts_as (Dropped cause) (Dropped Flushed);
  ended = c.ended + n * counts_as (Dropped cause) (Dropped Ended);
}

dropped_is : (cause : Cause) (n : ℕ) (c : Counts) →
    with_dropped cause n c ≡ many_settled_as (Dropped cause) n c
dropped_is Overlimit n c = simp (add-zero, mul-zero, mul-one)
dropped_is Codel n c = simp (add-zero, mul-zero, mul-one)
dropped_is Retries n c = simp (add-zero, mul-zero, mul-one)
dropped_is Left n c = simp (add-zero, mul-zero, mul-one)
dropped_is Flushed n c = simp (add-zero, mul-zero, mul-one)
dropped_is Ended n c = simp (add-zero, mul-zero, mul-one)

pub ledger_dropped : (cause : Cause) (w u : World) (n : ℕ) → HaveSettled w u (Dropped cause) n →
    accepted_count u ≡ accepted_count w → notes u ≡ notes w → length u.finished ≡ length w.finished + n →
    ledger u ≡ record (ledger w) { counts = many_settled_as (Dropped cause) n (counts_in w) }
ledger_dropped cause w u n settled accepted same grown =
    let counts : counts_in u ≡ many_settled_as (Dropped cause) n (counts_in w) =
    counts_by (counts_in u) (with_dropped cause n (counts_in w)) accepted (settled_to Acked refl)
    (settled_to (Dropped Overlimit) refl) (settled_to (Dropped Codel) refl)
    (settled_to (Dropped Retries) refl) (settled_to (Dropped Left) refl)
    (settled_to (Dropped Flushed) refl) (settled_to (Dropped Ended) refl)
    ∙ dropped_is cause n (counts_in w) in
    let in_all : inside u ≡ inside w = omega (arith, held_counted u, held_counted w, held_less, grown) in
    ap₂ (λ (i m : ℕ). record (ledger u) { inside = i; accepted = m }) in_all accepted
    ∙ ap₂ (λ (c : Counts) (f : ℕ → Note). record (ledger w) { counts = c; notes = f }) counts same
  where
    nothing : n * 0 ≡ 0
    nothing = omega arith

    settled_to : (x : Fate) → counts_as Held x ≡ 0 → tally u x ≡ tally w x + n * counts_as (Dropped cause) x
    settled_to x other = omega (arith, settled x, ap (λ (k : ℕ). n * k) other, nothing)

    held_less : tally u Held + n ≡ tally w Held
    held_less = let one : n * 1 ≡ n = omega arith in omega (arith, settled Held, one, nothing)

-- ---- the queues of a TID

held_emptied : (cause : Cause) (codel : CodelState → CodelState) (b : BacklogValue) (qs : List ℕ) →
    ((q : ℕ) → has qs q ≡ true → q < length b.queues) →
    held_in_backlog (all_emptied cause codel b qs) ≡ held_in_backlog b
unfolding all_emptied
held_emptied cause codel b [] low = refl
held_emptied cause codel b (q ∷ qs) low =
    let one = sum_by-set length b.queues q [] [] (low q (has_head q qs)) in
    let after : BacklogValue = after_emptying cause codel b q in
    let sized : length after.queues ≡ length b.queues = length-set b.queues q [] in
    held_emptied cause codel after qs (λ k h. omega (arith, low k (has_tail q qs k h), sized))
    ∙ omega (
      arith,
      one,
      length-append b.finished (map (frame_with_fate (Dropped cause)) (frames_at b q)),
      length-map (frames_at b q) (frame_with_fate (Dropped cause)),
    )

held_purged : (v : FlowsValue) (w : World) (i : ℕ) → FlowsStandFor v w →
    held_in_backlog (after_purge v i).backlog ≡ held_in_backlog v.backlog
unfolding after_purge
held_purged v w i st = held_emptied Left renewed v.backlog (queues_of v i)
    (λ q h. omega (
      arith,
      count_below (queue_count v) 0 q
          (has_filter (is_listed v i) (upto (queue_count v)) q h),
      st.sized.queues,
    ))

pub finished_known : (v : FlowsValue) (w : World) → FlowsStandFor v w →
    length w.finished ≡ length v.backlog.finished
finished_known v w st = ap (length {A = ℕ}) st.finished
    ∙ length-map v.backlog.finished (λ (f : FrameValue). f.id)

module _ (before : TransmitValue) (w : World) (bodies : ℕ → FrameValue) (s t : ℕ) (v : TransmitValue)
    (x : World) (taken : List ℕ) (dropped : ℕ) where
  -- the world in which the frames of the TID's numbers are finished
  abbrev now : World
  now = with_frames_finished x (Dropped Left) (waiting_ids (session x s t).slots)

  abbrev gone : World
  gone = after_tid_left x s t

  abbrev flows_left : FlowsValue
  flows_left = after_purge v.flows (tid_number s t)

  abbrev count : ℕ
  count = frames_of_tid v.flows (tid_number s t)

  module _ (h : HasDropped before w bodies s t v now taken dropped) (live : is_live x s ≡ true)
      (high : s < x.config.stations) (low : t < 8) (turns : TurnsStandFor before.sched gone) where
    same_rest : rest_of_world gone ≡ rest_of_world now
    same_rest = rest_left x s t ∙ sym (rest_finish_all (waiting_ids (session x s t).slots) x (Dropped Left))

    stands : FlowsStandFor v.flows now
    stands = h.parts.others.flows

    stands_gone : FlowsStandFor flows_left gone
    stands_gone = stands_left v.flows x s t stands live high low

    low_station : s < v.flows.stations
    low_station = omega (
      arith,
      high,
      ap (λ (r : Rest). r.config.stations)
          (rest_finish_all (waiting_ids (session x s t).slots) x (Dropped Left)),
      ap (λ (c : SettingsValue). c.stations) stands.settings,
    )

    grown : length flows_left.backlog.finished ≡ length v.flows.backlog.finished + count
    grown = purge_grows v.flows (flows_part now) stands (tid_number s t)

    world_grown : length gone.finished ≡ length now.finished + count
    world_grown = omega (
      arith,
      finished_known flows_left gone stands_gone,
      finished_known v.flows now stands,
      grown,
    )

    settled : HaveSettled now gone (Dropped Left) count
    settled = settled_left v.flows x s t count stands h.queued low_station low (omega (arith, world_grown))

    book : ledger gone ≡ record (ledger now) { counts = many_settled_as (Dropped Left) count (counts_in now) }
    book = ledger_dropped Left now gone count settled (accepted_left v.flows x s t stands low_station low)
        (notes_left x s t ∙ sym (notes_finish_all (waiting_ids (session x s t).slots) x (Dropped Left)))
        world_grown

    purged_parts : Parts (with_left before flows_left (dropped + count)) gone bodies
    purged_parts =
        let p : Pieces (with_left before v.flows dropped) now bodies =
        to_pieces (with_left before v.flows dropped) now bodies h.parts in
        let same : roster now ≡ roster gone = sym (roster_rest now gone same_rest) in
        let sum : before.tally.left + dropped + count ≡ before.tally.left + (dropped + count) = omega arith in
        of_pieces (with_left before flows_left (dropped + count)) gone bodies (record {
          config = p.config ∙ ap (λ (r : Roster). r.config) same;
          clock = p.clock ∙ ap (λ (r : Roster). r.clock) same;
          exchanges = p.exchanges ∙ ap (λ (r : Roster). r.exchanges) same;
          opened = p.opened ∙ ap (λ (r : Roster). r.opened) same;
          groups = subst (λ (r : Roster). GroupsStand before.groups r.config r.groups) same p.groups;
          stations = subst (λ (r : Roster). StationsStand before.members before.sleepers r.config.stations
              r.stations) same p.stations;
          windows = subst (WindowsStand before.windows bodies)
              (sym (agreements_rest now gone same_rest)) p.windows;
          modes = subst (ModesStand before.modes) (sym (agreements_rest now gone same_rest)) p.modes;
          flows = stands_gone;
          turns = turns;
          ledger = subst (λ (n : ℕ). LedgerStands before.inside (with_more before.tally n) bodies
              (ledger gone)) sum
              (subst (LedgerStands before.inside (many_settled_as (Dropped Left) count
              (many_settled_as (Dropped Left) dropped before.tally)) bodies) (sym book) (record {
                count = p.ledger.count;
                fates = ap (many_settled_as (Dropped Left) count) p.ledger.fates;
                notes = p.ledger.notes;
              }));
          frames = frames_purged v.flows now bodies stands h.parts.others.notes p.frames (tid_number s t);
        })

    pub purged_step : HasDropped before w bodies s (suc t) (record v { flows = flows_left }) gone taken
        (dropped + count)
    purged_step = record {
      stood = h.stood;
      allowed = h.allowed;
      rest = ap (λ (z : TransmitValue). let u : TransmitValue = record z { flows = flows_left } in u) h.rest;
      parts = purged_parts;
      moved = record {
        times = λ id. times_purge v.flows (flows_part now) stands id (tid_number s t) ∙ h.moved.times id;
        count = held_purged v.flows now (tid_number s t) stands ∙ h.moved.count;
      };
      grown = omega (arith, grown, h.grown);
      unlisted = λ k below. elim (cases_eq k t) [
        | inl same ↦ ap (λ (n : ℕ). tid_rotation flows_left (tid_number s n)) same
            ∙ purged_lists v.flows now s t stands low_station low
        | inr other ↦ purged_others v.flows (tid_number s t) (tid_number s k) (λ e. other (omega (arith, e)))
            ∙ h.unlisted k (omega (arith, below, other))
      ];
      queued = held_left v.flows x s t stands h.queued live high low;
      fates = λ id none.
          let out : on gone.finished id ≡ 0 = omega (
            arith,
            ap (λ (l : List ℕ). on l id) stands_gone.finished,
            none,
          ) in
          (finishes_purge x s t).fates id out ∙ h.fates id
          (sym (times_purge v.flows (flows_part now) stands id (tid_number s t)) ∙ none);
    }
