-- Proves that the half represents the world after an enqueue: the queues by the law of a put, the counts by
-- the ledger.
use Rattle.std.proofs.Common.{◌≡◌, refl, ap, ap₂, sym, ◌∙◌, subst, arith, ℕ, ◌+◌, ◌<◌, ◌≤◌, Bool, true, false, not, cond, if◌then◌else◌, [], ◌∷◌, ◌++◌, length, Option, Some, None, length-append, add-zero}
use Rattle.std.specs.Prelude.{nat_lt, count_by}
use Rattle.std.proofs.lemmas.List.Sums.{sum_by-append}
use Rattle.std.proofs.lemmas.Bool.{leb-false}
use Rattle.std.proofs.lemmas.Bool.Decides.{nat_tests}
use Rattle.wf_frame.specs.declared.classes.Cause.TheVariants.{Overlimit, Codel, Retries, Left, Flushed, Ended}
use Rattle.wf_frame.specs.declared.classes.Fate.{Fate}
use Rattle.wf_frame.specs.declared.classes.Fate.TheVariants.{Held, Acked, Dropped}
use Rattle.wf_frame.specs.declared.notes.Note.{Note}
use Rattle.wf_frame.specs.declared.notes.Note.TheVariants.{Enqueue}
use Rattle.wf_frame.specs.declared.notes.ReplyNote.{ReplyNote}
use Rattle.wf_frame.specs.declared.notes.ReplyNote.TheVariants.{Accepted}
use Rattle.wf_frame.specs.Frames.{FrameValue, source_octets}
use Rattle.wf_def_codel.specs.Codel.{Item}
use Rattle.wf_def_lists.specs.Lengths.{greatest_body}
use Rattle.wf_def_rotation.specs.Rotation.{has_key}
use Rattle.wf_def_world.specs.World.{World, Frame, tid_of, is_live, inside, accepted_count, is_held}
use Rattle.wf_def_world.specs.FlowQueues.{dropped_for_limit as world_dropped, after_limit as world_after_limit, queue_for as world_queue_for, with_listed_queue, with_appended, after_put_in}
use Rattle.wf_def_world.specs.Refusals.{refusal, refusals}
use Rattle.wf_def_world.specs.Step.{with_frame, next_item, enqueue_outcome, outcome_of}
use Rattle.wf_def_world.specs.Text.{same_fate}
use Rattle.wf_law_runs.specs.Places.{KeepsPlaces}
use Rattle.wf_law_runs.proofs.Deficits.KeptStep.{NoRow, no_row}
use Rattle.wf_law_runs.proofs.Frames.Places.{place_law}
use Rattle.wf_send_parts.specs.Tally.{Counts, one_accepted}
use Rattle.wf_frame.specs.Classes.{class_of, tid_number}
use Rattle.wf_queue_flows.specs.Flows.{dropped_for_limit}
use Rattle.wf_queue_flows_refines.specs.Frames.{with_body}
use Rattle.wf_queue_flows_refines.proofs.Bodies.{body_other, frames_put}
use Rattle.wf_queue_flows_refines.proofs.Elsewhere.{rest_enqueued}
use Rattle.wf_queue_flows_refines.proofs.Notes.{accepted_more}
use Rattle.wf_queue_flows_refines.proofs.Puts.{stands_put, reply_put}
use Rattle.wf_queue_flows_refines.proofs.Readers.{same_dropped}
use Rattle.wf_sched_refines.proofs.Unchanged.{enqueued_leaves}
use Rattle.wf_send_half_model.specs.Half.{TransmitValue}
use Rattle.wf_send_half_model.specs.Standing.{counts_in, Parts, IsReached, StandsFor, Meets}
use Rattle.wf_send_half_model.specs.Changes.{after_listing_in, after_enqueue}
use Rattle.wf_send_half_model.specs.Counting.{with_overlimit}
use Rattle.wf_send_half_model.specs.Views.{Roster, roster, Ledger, ledger}
use Rattle.wf_send_half_model.proofs.Views.{agreements_rest, roster_rest, ledger_queue, ledger_queues}
use Rattle.wf_send_half_model.proofs.Stands.{WindowsStand, ModesStand, StationsStand, GroupsStand, Pieces, to_pieces, of_pieces}
use Rattle.wf_send_half_model.proofs.Reached.{by_law}
use Rattle.wf_send_half_model.proofs.Meets.{listed_in_meets}
use Rattle.wf_send_half_model.proofs.OneClass.{enqueue_listed}
use Rattle.wf_send_half_model.proofs.Ledgers.{counts_by, ledger_limit}
use Rattle.wf_send_half_model.proofs.Known.{windows_known}

-- ---- the ledger

ledger_either : (b : Bool) (w u x : World) → ledger u ≡ ledger w → ledger x ≡ ledger w →
    ledger (if b then u else x) ≡ ledger w
ledger_either true w u x h k = h
ledger_either false w u x h k = k

ledger_put_in : (w : World) (s t q : ℕ) (x : Item) → ledger (after_put_in w s t q x) ≡ ledger w
unfolding after_put_in with_listed_queue with_appended
ledger_put_in w s t q x =
    ledger_either (has_key (tid_of (with_appended w q x) s t).queues q) w _ _ (ledger_queue w q _)
    (ledger_queues _ s t _ ∙ ledger_queue _ q _ ∙ ledger_queue w q _)

module _ (w : World) (note : Note) where
  abbrev accepted_frame : Frame
  accepted_frame = record { note = note; fate = Held }

  counted : (p : Fate → Bool) → count_by (λ f. p f.fate) (w.frames ++ accepted_frame ∷ [])
      ≡ count_by (λ f. p f.fate) w.frames + cond (p Held) 1 0
  counted p = sum_by-append (λ (f : Frame). cond (p f.fate) 1 0) w.frames (accepted_frame ∷ [])
      ∙ ap (λ (n : ℕ). count_by (λ (f : Frame). p f.fate) w.frames + n) (none (cond (p Held) 1 0))
    where
      none : (n : ℕ) → 0 + n ≡ n
      none n = omega arith

  accepted_inside : inside (with_frame w note) ≡ inside w + 1
  unfolding with_frame
  accepted_inside = omega (arith, counted is_held)

  accepted_counts : counts_in (with_frame w note) ≡ one_accepted (counts_in w)
  unfolding with_frame
  accepted_counts = counts_by (counts_in (with_frame w note)) (one_accepted (counts_in w))
      (length-append w.frames (accepted_frame ∷ []))
      (counted (λ f. same_fate f Acked) ∙ add-zero _)
      (counted (λ f. same_fate f (Dropped Overlimit)) ∙ add-zero _)
      (counted (λ f. same_fate f (Dropped Codel)) ∙ add-zero _)
      (counted (λ f. same_fate f (Dropped Retries)) ∙ add-zero _)
      (counted (λ f. same_fate f (Dropped Left)) ∙ add-zero _)
      (counted (λ f. same_fate f (Dropped Flushed)) ∙ add-zero _)
      (counted (λ f. same_fate f (Dropped Ended)) ∙ add-zero _)

accepted_later : (o : Option ℕ) (c : Counts) →
    one_accepted (with_overlimit o c) ≡ with_overlimit o (one_accepted c)
accepted_later None c = refl
accepted_later (Some id) c = refl

module _ (w : World) (s t flow len : ℕ) (places : KeepsPlaces w) where
  abbrev put_world : World
  put_world = after_put_in (world_after_limit w) s t (world_queue_for (world_after_limit w) s t flow)
      (next_item w len)

  put_ledger : ledger put_world ≡ record (ledger w) {
    counts =
        with_overlimit (world_dropped w) (counts_in w);
  }
  put_ledger = ledger_put_in (world_after_limit w) s t (world_queue_for (world_after_limit w) s t flow)
      (next_item w len) ∙ ledger_limit w places

  pub enqueued_inside : inside (enqueue_outcome w s t flow len).world ≡ inside w + 1
  unfolding enqueue_outcome
  enqueued_inside = accepted_inside put_world (Enqueue s t flow len)
      ∙ ap (λ (l : Ledger). l.inside + 1) put_ledger

  pub enqueued_counts : counts_in (enqueue_outcome w s t flow len).world
      ≡ with_overlimit (world_dropped w) (one_accepted (counts_in w))
  unfolding enqueue_outcome
  enqueued_counts = accepted_counts put_world (Enqueue s t flow len)
      ∙ ap (λ (l : Ledger). one_accepted l.counts) put_ledger ∙ accepted_later (world_dropped w) (counts_in w)

-- ---- the call

pub enqueue_parts : (v : TransmitValue) (w : World) (bodies : ℕ → FrameValue) (f : FrameValue) →
    KeepsPlaces w → is_live w f.station ≡ true → f.station < w.config.stations → f.tid < 8 →
    f.id ≡ v.tally.accepted → f.stamp ≡ v.clock → length f.source ≡ source_octets → f.fate ≡ Held →
    Parts v w bodies →
    Parts (after_enqueue v f) (enqueue_outcome w f.station f.tid f.flow (length f.body)).world
    (with_body bodies f)
enqueue_parts v w bodies f places live low_s low_t next stamp source fate h =
    let p : Pieces v w bodies = to_pieces v w bodies h in
    let u : World = (enqueue_outcome w f.station f.tid f.flow (length f.body)).world in
    let same : roster w ≡ roster u = sym (roster_rest w u
    (rest_enqueued w f.station f.tid f.flow (length f.body))) in
    let id : f.id ≡ accepted_count w = next ∙ ap (λ (c : Counts). c.accepted) p.ledger.fates in
    let others : (k : ℕ) → k < accepted_count w →
    with_body bodies f k ≡ bodies k = λ k low.
    body_other bodies f k (λ e. absurd (omega (arith, low, e, id))) in
    of_pieces (after_enqueue v f) u (with_body bodies f) (record {
      config = p.config ∙ ap (λ (r : Roster). r.config) same;
      clock = p.clock ∙ ap (λ (r : Roster). r.clock) same;
      exchanges = p.exchanges ∙ ap (λ (r : Roster). r.exchanges) same;
      opened = p.opened ∙ ap (λ (r : Roster). r.opened) same;
      groups = subst (λ (r : Roster). GroupsStand v.groups r.config r.groups) same p.groups;
      stations = subst (λ (r : Roster). StationsStand v.members v.sleepers r.config.stations r.stations) same
          p.stations;
      windows = subst (WindowsStand v.windows (with_body bodies f))
          (sym (agreements_rest w u (rest_enqueued w f.station f.tid f.flow (length f.body))))
          (windows_known v.windows w bodies (with_body bodies f) places others p.windows);
      modes = subst (ModesStand v.modes)
          (sym (agreements_rest w u (rest_enqueued w f.station f.tid f.flow (length f.body)))) p.modes;
      flows = stands_put v.flows w f.station f.tid f p.flows live low_s low_t id (stamp ∙ p.clock);
      turns = enqueued_leaves w f.station f.tid f.flow (length f.body) v.sched p.turns;
      ledger = record {
        count = ap (λ (n : ℕ). n + 1) p.ledger.count ∙ sym
            (enqueued_inside w f.station f.tid f.flow (length f.body) places);
        fates = ap₂ (λ (o : Option ℕ) (c : Counts). with_overlimit o (one_accepted c))
            (same_dropped v.flows w p.flows) p.ledger.fates
            ∙ sym (enqueued_counts w f.station f.tid f.flow (length f.body) places);
        notes = accepted_more v.flows w bodies f p.flows id source fate h.others.notes;
      };
      frames = frames_put v.flows w bodies (tid_number f.station f.tid) f p.flows h.others.notes p.frames id
          fate;
    })

live_of : (b : Bool) → not b ≡ false → b ≡ true
live_of true e = refl
live_of false e = absurd (cc e)

-- in the world of a run, each held frame is in exactly one place
pub places_kept : (w : World) → IsReached w → KeepsPlaces w
places_kept w r = by_law KeepsPlaces w r (place_law w.config r.history r.in_range)

pub enqueue_meets : (v : TransmitValue) (w : World) (bodies : ℕ → FrameValue) → StandsFor v w bodies →
    (f : FrameValue) → refusal w (Enqueue f.station f.tid f.flow (length f.body)) ≡ None →
    f.id ≡ v.tally.accepted → f.stamp ≡ v.clock → length f.source ≡ source_octets → f.fate ≡ Held →
    1 ≤ length f.body → length f.body ≤ greatest_body →
    Meets w (with_body bodies f) (Enqueue f.station f.tid f.flow (length f.body))
    (after_listing_in (after_enqueue v f) f.station (class_of f.tid))
    (Accepted f.id (dropped_for_limit v.flows))
unfolding outcome_of
enqueue_meets v w bodies h f done next stamp source fate some most =
    let rows : NoRow (refusals w (Enqueue f.station f.tid f.flow (length f.body))) =
    no_row (refusals w (Enqueue f.station f.tid f.flow (length f.body))) done in
    let low_s : f.station < w.config.stations = leb-false _ _ rows.0 in
    let known : nat_lt 7 f.tid ≡ false = rows.1.0 in
    let low_t : f.tid < 8 = grind (arith, nat_tests) in
    let id : f.id ≡ accepted_count w = next ∙ ap (λ (c : Counts). c.accepted) h.parts.others.tally in
    subst (λ (x : ReplyNote). Meets w (with_body bodies f) (Enqueue f.station f.tid f.flow (length f.body))
    (after_listing_in (after_enqueue v f) f.station (class_of f.tid)) x)
    (reply_put v.flows w f.station f.tid f h.parts.others.flows id)
    (listed_in_meets (after_enqueue v f) w (with_body bodies f)
    (Enqueue f.station f.tid f.flow (length f.body)) h.reached some most done
    (enqueue_parts v w bodies f (places_kept w h.reached)
    (live_of (is_live w f.station) rows.1.1.0) low_s low_t next stamp source fate h.parts) f.station
    (class_of f.tid) refl
    (enqueue_listed w f.station f.tid f.flow (length f.body) h.reached some most done))
