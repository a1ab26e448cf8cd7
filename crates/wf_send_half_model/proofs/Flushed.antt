-- Proves the end of a flush: after the waiting numbers have failed, the queues of the TID are emptied, and
-- the half represents the world after the call.
use Rattle.std.proofs.Common.{◌≡◌, refl, ap, sym, ◌∙◌, subst, arith, ℕ, ◌+◌, ◌-◌, ◌*◌, ◌<◌, ◌≤◌, Bool, true, false, if◌then◌else◌, List, [], ◌∷◌, length, None}
use Rattle.wf_frame.specs.declared.classes.Cause.TheVariants.{Flushed}
use Rattle.wf_frame.specs.declared.classes.Fate.TheVariants.{Held, Dropped}
use Rattle.wf_frame.specs.declared.notes.Ask.TheVariants.{Flush}
use Rattle.wf_frame.specs.declared.notes.Note.TheVariants.{Asked}
use Rattle.wf_frame.specs.declared.notes.ReplyNote.{ReplyNote}
use Rattle.wf_frame.specs.declared.notes.ReplyNote.TheVariants as reply
use Rattle.wf_frame.specs.Classes.{tid_number}
use Rattle.wf_frame.specs.Frames.{FrameValue}
use Rattle.wf_def_agreement.specs.Session.{Session, after_flush as session_flushed}
use Rattle.wf_def_world.specs.World.{World, session, inside, is_agreed, on_session, on_receiver, on_tid, on_station, with_station}
use Rattle.wf_def_world.specs.FlowQueues.{after_queue_flushed, after_queues_flushed}
use Rattle.wf_def_world.specs.Exchanges.{caught_up, caught_up_if_plain}
use Rattle.wf_def_world.specs.Refusals.{refusal}
use Rattle.wf_def_world.specs.Step.{outcome_of, waiting_ids, after_tid_flushed, flush_outcome}
use Rattle.wf_def_world.specs.Text.{tally}
use Rattle.wf_law_runs.specs.Tallies.{AddsUp}
use Rattle.wf_law_runs.proofs.Frames.Tallies.{tally_law}
use Rattle.wf_queue_flows.specs.Flows.{SettingsValue, frames_of_tid, after_tid_flush}
use Rattle.wf_queue_flows_refines.specs.Frames.{HaveSettled, notes}
use Rattle.wf_queue_flows_refines.specs.Rest.{rest_of_world}
use Rattle.wf_queue_flows_refines.specs.Standing.{flows_part, waiting_flushed, tid_emptied, FlowsStandFor}
use Rattle.wf_queue_flows_refines.proofs.Bodies.{frames_flushed}
use Rattle.wf_queue_flows_refines.proofs.Elsewhere.{rest_flushed, rest_finish_all}
use Rattle.wf_queue_flows_refines.proofs.Lefts.{settled_flushed, flush_grows}
use Rattle.wf_queue_flows_refines.proofs.Notes.{notes_flushed, notes_finish_all}
use Rattle.wf_queue_flows_refines.proofs.Flushes.{stands_tid_flushed, accepted_flushed}
use Rattle.wf_sched_refines.specs.Standing.{SchedulerStandsFor as TurnsStandFor, LeavesRotas}
use Rattle.wf_sched.specs.ClassRotas.{SchedValue}
use Rattle.wf_sched_refines.proofs.Unchanged.{leaves_then, session_leaves, queue_leaves, finish_all_leaves}
use Rattle.wf_send_parts.specs.Tally.{Counts, held_in, many_settled_as}
use Rattle.wf_send_half_model.specs.Half.{TransmitValue}
use Rattle.wf_send_half_model.specs.Changes.{after_listing}
use Rattle.wf_send_half_model.specs.Flushing.{HasNumbersFlushed, with_queues_flushed}
use Rattle.wf_send_half_model.specs.Standing.{counts_in, Parts, StandsFor, Meets}
use Rattle.wf_send_half_model.specs.Views.{Roster, roster, ledger}
use Rattle.wf_send_half_model.proofs.Dropping.{held_counted, finished_known, ledger_dropped}
use Rattle.wf_send_half_model.proofs.Leavings.{HasPlace, has_place}
use Rattle.wf_send_half_model.proofs.Meets.{listed_meets}
use Rattle.wf_send_half_model.proofs.Reached.{by_law}
use Rattle.wf_send_half_model.proofs.Stands.{WindowsStand, ModesStand, StationsStand, GroupsStand, LedgerStands, Pieces, to_pieces, of_pieces}
use Rattle.wf_send_half_model.proofs.Views.{agreements_rest, roster_rest}

session_notes : (w : World) (s t : ℕ) (f : Session → Session) → notes (on_session w s t f) ≡ notes w
unfolding on_session on_tid on_station with_station
session_notes w s t f = refl

flush_world : (w : World) (s t : ℕ) →
    (flush_outcome w s t).world ≡ caught_up_if_plain (tid_emptied w s t) s t
unfolding flush_outcome after_tid_flushed
flush_world w s t = refl

-- no frame is finished when a window catches up
caught_finished : (w : World) (s t : ℕ) → (caught_up_if_plain w s t).finished ≡ w.finished
unfolding caught_up_if_plain caught_up on_receiver on_session on_tid on_station with_station
caught_finished w s t = go (is_agreed w s t)
  where
    go : (b : Bool) → (if b then w else caught_up w s t).finished ≡ w.finished
    go true = refl
    go false = refl

flush_reply : (w : World) (s t : ℕ) → (flush_outcome w s t).reply
    ≡ reply.Flushed (length (tid_emptied w s t).finished - length w.finished)
unfolding flush_outcome after_tid_flushed
flush_reply w s t = ap (λ (l : List ℕ). reply.Flushed (length l - length w.finished))
    (caught_finished (tid_emptied w s t) s t)

-- emptying the queues of a TID does not change the turns
queues_leave : (qs : List ℕ) (w : World) → LeavesRotas w (after_queues_flushed w qs)
unfolding after_queues_flushed after_queue_flushed
queues_leave [] w = λ v h. h
queues_leave (q ∷ qs) w = leaves_then w _ _
    (leaves_then w _ _ (queue_leaves w q _) (finish_all_leaves _ _ _)) (queues_leave qs _)

emptied_leaves : (w : World) (s t : ℕ) → LeavesRotas w (tid_emptied w s t)
emptied_leaves w s t = leaves_then w _ _
    (leaves_then w _ _ (session_leaves w s t _) (finish_all_leaves _ _ _)) (queues_leave _ _)

module _ (before v : TransmitValue) (w : World) (bodies : ℕ → FrameValue) (s t dropped : ℕ)
    (so_far : HasNumbersFlushed Flushed before w bodies s t v dropped) where
  abbrev now : World
  now = waiting_flushed w s t

  abbrev gone : World
  gone = tid_emptied w s t

  abbrev count : ℕ
  count = frames_of_tid v.flows (tid_number s t)

  abbrev h : StandsFor before w bodies
  h = so_far.may.stood

  stands : FlowsStandFor v.flows now
  stands = so_far.parts.others.flows

  high : s < w.config.stations
  high = h.parts.others.turns.live s so_far.may.live

  same_rest : rest_of_world gone ≡ rest_of_world now
  same_rest = rest_flushed w s t ∙ sym (rest_finish_all (waiting_ids (session w s t).slots)
      (on_session w s t (session_flushed w.config.attempts)) (Dropped Flushed))

  stands_gone : FlowsStandFor (after_tid_flush v.flows (tid_number s t)) gone
  stands_gone = stands_tid_flushed v.flows w s t stands high so_far.may.tid

  same_inside : inside now ≡ inside w
  same_inside = sym so_far.parts.others.inside ∙ ap (λ (z : TransmitValue). z.inside) so_far.rest
      ∙ h.parts.others.inside

  low_station : s < v.flows.stations
  low_station = omega (
    arith,
    high,
    ap (λ (c : SettingsValue). c.stations) stands.settings,
    ap (λ c. c.stations) (sym so_far.parts.others.config ∙ ap (λ (z : TransmitValue). z.config) so_far.rest
        ∙ h.parts.others.config),
  )

  grown : length gone.finished ≡ length now.finished + count
  grown = omega (
    arith,
    finished_known (after_tid_flush v.flows (tid_number s t)) gone stands_gone,
    finished_known v.flows now stands,
    flush_grows v.flows (flows_part now) stands (tid_number s t),
  )

  settled : HaveSettled now gone (Dropped Flushed) count
  settled = settled_flushed v.flows w s t count stands so_far.queued low_station so_far.may.tid
      (omega (arith, grown))

  book : ledger gone ≡ record (ledger now) {
    counts = many_settled_as (Dropped Flushed) count (counts_in now);
  }
  book = ledger_dropped Flushed now gone count settled
      (accepted_flushed v.flows w s t stands low_station so_far.may.tid)
      (notes_flushed w s t ∙ sym (notes_finish_all (waiting_ids (session w s t).slots)
      (on_session w s t (session_flushed w.config.attempts)) (Dropped Flushed)
      ∙ session_notes w s t (session_flushed w.config.attempts))) grown

  -- the frames that are dropped were held before
  all_held : dropped + count ≤ tally w Held
  all_held =
      let one : count * 1 ≡ count = omega arith in
      let none : count * 0 ≡ 0 = omega arith in
      omega (arith, settled Held, one, none, held_counted now, held_counted w, same_inside, so_far.grown)

  pub flush_held : count ≤ held_in v.tally
  flush_held =
      let adds : AddsUp w = by_law AddsUp w h.reached (tally_law w.config h.reached.history) in
      subst (λ (c : Counts). count ≤ held_in c)
      (sym (so_far.tally ∙ ap (many_settled_as (Dropped Flushed) dropped) h.parts.others.tally))
      (omega (arith, adds, all_held))

  pub flush_few : dropped + count ≤ w.config.room
  flush_few =
      let place : HasPlace w.config.room w = has_place w h.reached in
      omega (arith, place.within, held_counted w, all_held)

  flushed_turns : TurnsStandFor v.sched gone
  flushed_turns = emptied_leaves w s t v.sched
      (subst (λ (z : SchedValue). TurnsStandFor z w)
      (sym (ap (λ (z : TransmitValue). z.sched) so_far.rest)) h.parts.others.turns)

  pub flushed_parts : Parts (with_queues_flushed v s t count) gone bodies
  flushed_parts =
      let p : Pieces v now bodies = to_pieces v now bodies so_far.parts in
      let same : roster now ≡ roster gone = sym (roster_rest now gone same_rest) in
      of_pieces (with_queues_flushed v s t count) gone bodies (record {
        config = p.config ∙ ap (λ (r : Roster). r.config) same;
        clock = p.clock ∙ ap (λ (r : Roster). r.clock) same;
        exchanges = p.exchanges ∙ ap (λ (r : Roster). r.exchanges) same;
        opened = p.opened ∙ ap (λ (r : Roster). r.opened) same;
        groups = subst (λ (r : Roster). GroupsStand v.groups r.config r.groups) same p.groups;
        stations = subst (λ (r : Roster). StationsStand v.members v.sleepers r.config.stations r.stations)
            same p.stations;
        windows = subst (WindowsStand v.windows bodies) (sym (agreements_rest now gone same_rest)) p.windows;
        modes = subst (ModesStand v.modes) (sym (agreements_rest now gone same_rest)) p.modes;
        flows = stands_gone;
        turns = flushed_turns;
        ledger = subst (LedgerStands v.inside (many_settled_as (Dropped Flushed) count v.tally) bodies)
            (sym book) (record {
              count = p.ledger.count;
              fates = ap (many_settled_as (Dropped Flushed) count) p.ledger.fates;
              notes = p.ledger.notes;
            });
        frames = frames_flushed v.flows now bodies stands so_far.parts.others.notes p.frames
            (tid_number s t);
      })

  count_is : (flush_outcome w s t).reply ≡ reply.Flushed (dropped + count)
  count_is =
      let n : length gone.finished - length w.finished ≡ dropped + count =
      omega (arith, grown, so_far.grown) in
      flush_reply w s t ∙ ap (λ (k : ℕ). reply.Flushed k) n

  pub flush_meets : (u : TransmitValue) → refusal w (Asked (Flush s t)) ≡ None →
      Parts u (caught_up_if_plain gone s t) bodies →
      Meets w bodies (Asked (Flush s t)) (after_listing u s) (reply.Flushed (dropped + count))
  unfolding outcome_of
  flush_meets u allowed parts =
      subst (λ (x : ReplyNote). Meets w bodies (Asked (Flush s t)) (after_listing u s) x) count_is
      (listed_meets u w bodies (Asked (Flush s t)) h.reached tt tt allowed
      (subst (λ (z : World). Parts u z bodies) (sym (flush_world w s t)) parts) s refl)
