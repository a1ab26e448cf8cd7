-- Proves the calls by which the mode of a TID changes: it is held back or let go, and its agreement begins or
-- ends.
use Rattle.std.proofs.Common.{◌≡◌, refl, ap, sym, ◌∙◌, subst, arith, ℕ, ◌-◌, ◌<◌, ◌%◌, true, List, [], length, None, length-set}
use Rattle.std.proofs.lemmas.Bool.{ltb-false}
use Rattle.std.proofs.lemmas.List.{set-get_or}
use Rattle.wf_frame.specs.declared.classes.Cause.TheVariants.{Ended}
use Rattle.wf_frame.specs.declared.notes.Ask.TheVariants.{Hold, Begin, Free, Cease}
use Rattle.wf_frame.specs.declared.notes.Note.TheVariants.{Asked}
use Rattle.wf_frame.specs.declared.notes.ReplyNote.{ReplyNote}
use Rattle.wf_frame.specs.declared.notes.ReplyNote.TheVariants.{Begun, Freed, Ceased}
use Rattle.wf_frame.specs.declared.notes.ReplyNote.TheVariants as reply
use Rattle.wf_frame.specs.Classes.{tid_number}
use Rattle.wf_frame.specs.Frames.{FrameValue}
use Rattle.wf_def_agreement.specs.Session.{Session, next_number, start_of, after_flush}
use Rattle.wf_def_world.specs.World.{World, Mode as WorldMode, Tid, is_live, tid_of, session, on_tid, with_mode}
use Rattle.wf_def_world.specs.Refusals.{refusal, refusals}
use Rattle.wf_def_world.specs.Step.{outcome_of, plain_window, hold_outcome, begin_outcome, free_outcome, after_numbers_ended, cease_outcome}
use Rattle.wf_law_runs.proofs.Deficits.Books.{upd}
use Rattle.wf_law_runs.proofs.Deficits.KeptStep.{NoRow, no_row}
use Rattle.wf_law_runs.proofs.Windows.Sides.{Side, renewed, begun_is, ceased_is, ended_side, ended_live}
use Rattle.wf_queue_flows_refines.proofs.Leaves.{stands_same}
use Rattle.wf_queue_flows_refines.proofs.Parts.{part_on_tid}
use Rattle.wf_sched_refines.proofs.Stands.{each_other}
use Rattle.wf_sched_refines.proofs.Unchanged.{tid_leaves}
use Rattle.wf_send_parts.specs.declared.stations.modes.Mode.{Mode}
use Rattle.wf_send_parts.specs.declared.stations.modes.Mode.TheVariants.{OnHold, Agreed}
use Rattle.wf_send_parts.specs.Modes.{as_mode, mode_of, with_mode_of}
use Rattle.wf_send_parts.proofs.Modes.{mode_same, mode_other}
use Rattle.wf_send_parts.specs.Window.{WindowValue, WindowStandsFor}
use Rattle.wf_send_parts.specs.Windows.{WindowsHaveRoom, no_window, window_of, with_window}
use Rattle.wf_send_parts.proofs.Changes.{windows_count, one_stands}
use Rattle.wf_send_half_model.specs.Half.{TransmitValue}
use Rattle.wf_send_half_model.specs.Changes.{after_listing, after_mode, after_change, session_resized}
use Rattle.wf_send_half_model.specs.Flushing.{with_waiting_failed, HasNumbersFlushed, released_at_cease}
use Rattle.wf_send_half_model.specs.Standing.{Parts, StandsFor, Meets}
use Rattle.wf_send_half_model.specs.Views.{Agreements, agreements, Roster, roster}
use Rattle.wf_send_half_model.proofs.Drained.{drained, drained_after}
use Rattle.wf_send_half_model.proofs.Leavings.{live_of}
use Rattle.wf_send_half_model.proofs.Meets.{listed_meets}
use Rattle.wf_send_half_model.proofs.Moves.{with_session, session_own, session_other}
use Rattle.wf_send_half_model.proofs.Stands.{WindowsStand, ModesStand, StationsStand, GroupsStand, LedgerStands, Pieces, to_pieces, of_pieces}
use Rattle.wf_send_half_model.proofs.Views.{agreements_tid, roster_on_tid, ledger_tid}

-- ---- one TID

-- the modes with another one at TID t of station s
one_mode : (modes : List Mode) (a : Agreements) (s t : ℕ) (mode : Mode) (m : WorldMode)
    (sessions : ℕ → ℕ → Session) → ModesStand modes a → t < 8 → tid_number s t < length modes →
    m ≡ as_mode mode → ModesStand (with_mode_of modes s t mode) (record a {
      sessions = sessions;
      modes = upd a.modes s (upd (a.modes s) t m);
    })
one_mode modes a s t mode m sessions h low inside is = record {
  sized = length-set modes (tid_number s t) mode ∙ h.sized;
  each = each_other (λ i (g : ℕ → WorldMode). (j : ℕ) → a.live i ≡ true → j < 8 →
      as_mode (mode_of (with_mode_of modes s t mode) i j) ≡ g j) a.modes s (upd (a.modes s) t m)
      (λ i other j live below. ap as_mode (mode_other modes s t mode i j low below (λ e _. other e))
      ∙ h.each i j live below)
      (each_other (λ j (z : WorldMode). a.live s ≡ true → j < 8 →
      as_mode (mode_of (with_mode_of modes s t mode) s j) ≡ z) (a.modes s) t m
      (λ j other live below. ap as_mode (mode_other modes s t mode s j low below (λ _ e. other e))
      ∙ h.each s j live below)
      (λ _ _. ap as_mode (mode_same modes s t mode inside) ∙ sym is));
}

-- a TID changes, with its window and its mode, but not the queues that it lists
pub tid_parts : (v : TransmitValue) (w : World) (bodies : ℕ → FrameValue) (s t : ℕ) (f : Tid → Tid)
    (x : WindowValue) (mode : Mode) → is_live w s ≡ true → t < 8 →
    ((y : Tid) → (f y).queues ≡ y.queues) → WindowsHaveRoom (with_window v.windows s t x) →
    WindowStandsFor x (f (tid_of w s t)).session bodies → (f (tid_of w s t)).mode ≡ as_mode mode →
    Parts v w bodies → Parts (after_change v s t x mode) (on_tid w s t f) bodies
tid_parts v w bodies s t f x mode live low queues room stands is h =
    let p : Pieces v w bodies = to_pieces v w bodies h in
    let u : World = on_tid w s t f in
    let same : roster w ≡ roster u = sym (roster_on_tid w s t f) in
    let a : Agreements = agreements w in
    let y : Session = (f (tid_of w s t)).session in
    let low_s : s < w.config.stations = h.others.turns.live s live in
    of_pieces (after_change v s t x mode) u bodies (record {
      config = p.config ∙ ap (λ (r : Roster). r.config) same;
      clock = p.clock ∙ ap (λ (r : Roster). r.clock) same;
      exchanges = p.exchanges ∙ ap (λ (r : Roster). r.exchanges) same;
      opened = p.opened ∙ ap (λ (r : Roster). r.opened) same;
      groups = subst (λ (r : Roster). GroupsStand v.groups r.config r.groups) same p.groups;
      stations = subst (λ (r : Roster). StationsStand v.members v.sleepers r.config.stations r.stations) same
          p.stations;
      windows = subst (WindowsStand (with_window v.windows s t x) bodies)
          (sym (agreements_tid w s t f live)) (record {
            sized = windows_count v.windows s t x ∙ p.windows.sized;
            room = room;
            all = one_stands v.windows s t x a.live a.sessions (with_session a.sessions s t y) bodies
                p.windows.all live low (omega (arith, p.windows.sized, low_s))
                (record { same = λ i j below. session_other a.sessions s t y i j })
                (subst (λ (z : Session). WindowStandsFor x z bodies) (sym (session_own a.sessions s t y))
                stands);
          });
      modes = subst (ModesStand (with_mode_of v.modes s t mode)) (sym (agreements_tid w s t f live))
          (one_mode v.modes a s t mode (f (tid_of w s t)).mode (with_session a.sessions s t y) p.modes low
          (omega (arith, p.modes.sized, low_s, low)) is);
      flows = stands_same v.flows w u (part_on_tid w s t f queues) p.flows;
      turns = tid_leaves w s t f v.sched p.turns;
      ledger = subst (LedgerStands v.inside v.tally bodies) (sym (ledger_tid w s t f)) p.ledger;
      frames = p.frames;
    })

mode_parts : (v : TransmitValue) (w : World) (bodies : ℕ → FrameValue) (s t : ℕ) (mode : Mode) →
    is_live w s ≡ true → t < 8 → Parts v w bodies →
    Parts (after_mode v s t mode) (with_mode w s t (as_mode mode)) bodies
unfolding with_mode
mode_parts v w bodies s t mode live low h =
    let back : with_window v.windows s t (window_of v.windows s t) ≡ v.windows =
    set-get_or v.windows (tid_number s t) no_window in
    subst (λ (ws : List WindowValue). Parts (record (after_mode v s t mode) { windows = ws })
    (on_tid w s t (λ y. record y { mode = as_mode mode })) bodies) back
    (tid_parts v w bodies s t (λ y. record y { mode = as_mode mode }) (window_of v.windows s t) mode live low
    (λ y. refl) (subst WindowsHaveRoom (sym back) h.windows.room) (h.windows.all.stands s t live low) refl h)

-- ---- a TID is held back, and let go

module _ (v : TransmitValue) (w : World) (bodies : ℕ → FrameValue) (h : StandsFor v w bodies) (s t : ℕ) where
  pub hold_meets : refusal w (Asked (Hold s t)) ≡ None →
      Meets w bodies (Asked (Hold s t)) (after_listing (after_mode v s t OnHold) s)
      (reply.Held (next_number (session w s t) % 4096))
  unfolding outcome_of hold_outcome
  hold_meets done =
      let rows : NoRow (refusals w (Asked (Hold s t))) = no_row (refusals w (Asked (Hold s t))) done in
      listed_meets (after_mode v s t OnHold) w bodies (Asked (Hold s t)) h.reached tt tt done
      (mode_parts v w bodies s t OnHold (live_of (is_live w s) rows.1.1.0)
      (omega (arith, ltb-false _ _ rows.1.0)) h.parts) s refl

  pub free_meets : refusal w (Asked (Free s t)) ≡ None →
      Meets w bodies (Asked (Free s t)) (after_listing (after_mode v s t Mode.Plain) s) Freed
  unfolding outcome_of free_outcome
  free_meets done =
      let rows : NoRow (refusals w (Asked (Free s t))) = no_row (refusals w (Asked (Free s t))) done in
      listed_meets (after_mode v s t Mode.Plain) w bodies (Asked (Free s t)) h.reached tt tt done
      (mode_parts v w bodies s t Mode.Plain (live_of (is_live w s) rows.1.1.0)
      (omega (arith, ltb-false _ _ rows.1.0)) h.parts) s refl

  -- ---- an agreement begins

  pub begin_empty : (window : ℕ) → refusal w (Asked (Begin s t window)) ≡ None →
      (window_of v.windows s t).places ≡ []
  begin_empty window done =
      let rows : NoRow (refusals w (Asked (Begin s t window))) =
      no_row (refusals w (Asked (Begin s t window))) done in
      drained w h.reached s t rows.1.1.1.1.1.0 rows.1.1.1.1.1.1.0 (window_of v.windows s t) bodies
      (h.parts.windows.all.stands s t (live_of (is_live w s) rows.1.1.1.0)
      (omega (arith, ltb-false _ _ rows.1.0)))

  begin_reply : (window : ℕ) → (begin_outcome w s t window).reply ≡ Begun
  unfolding begin_outcome
  begin_reply window = refl

  pub begin_meets : (window : ℕ) → refusal w (Asked (Begin s t window)) ≡ None → (x : WindowValue) →
      WindowsHaveRoom (with_window v.windows s t x) →
      WindowStandsFor x (session_resized window (session w s t)) bodies →
      Meets w bodies (Asked (Begin s t window)) (after_listing (after_change v s t x Agreed) s) Begun
  unfolding outcome_of
  begin_meets window done x room stands =
      let rows : NoRow (refusals w (Asked (Begin s t window))) =
      no_row (refusals w (Asked (Begin s t window))) done in
      let half : TransmitValue = after_change v s t x Agreed in
      let parts : Parts half (on_tid w s t (renewed (start_of (session w s t)) window WorldMode.Agreed))
      bodies = tid_parts v w bodies s t (renewed (start_of (session w s t)) window WorldMode.Agreed) x Agreed
      (live_of (is_live w s) rows.1.1.1.0) (omega (arith, ltb-false _ _ rows.1.0)) (λ y. refl) room stands
      refl h.parts in
      subst (λ (r : ReplyNote). Meets w bodies (Asked (Begin s t window)) (after_listing half s) r)
      (begin_reply window)
      (listed_meets half w bodies (Asked (Begin s t window)) h.reached tt tt done
      (subst (λ (u : World). Parts half u bodies) (sym (begun_is w s t window)) parts) s refl)

-- ---- an agreement ends

ended_is : (w : World) (s t : ℕ) → after_numbers_ended w s t ≡ with_waiting_failed Ended w s t
unfolding after_numbers_ended
ended_is w s t = refl

cease_reply : (w : World) (s t : ℕ) → (cease_outcome w s t).reply
    ≡ Ceased (length (after_numbers_ended w s t).finished - length w.finished) (released_at_cease w s t)
unfolding cease_outcome
cease_reply w s t = refl

module _ (before v : TransmitValue) (w : World) (bodies : ℕ → FrameValue) (s t dropped : ℕ)
    (done : refusal w (Asked (Cease s t)) ≡ None)
    (so_far : HasNumbersFlushed Ended before w bodies s t v dropped) where
  abbrev ended : World
  ended = after_numbers_ended w s t

  parts_ended : Parts v ended bodies
  parts_ended = subst (λ (u : World). Parts v u bodies) (sym (ended_is w s t)) so_far.parts

  live_ended : is_live ended s ≡ true
  live_ended = ended_live w s t ∙ so_far.may.live

  session_ended : session ended s t ≡ after_flush w.config.attempts (session w s t)
  session_ended = ap (λ (a : Side). a.session) (ended_side w s t so_far.may.live)

  pub cease_empty : (window_of v.windows s t).places ≡ []
  cease_empty =
      let rows : NoRow (refusals w (Asked (Cease s t))) = no_row (refusals w (Asked (Cease s t))) done in
      drained_after w so_far.may.stood.reached s t rows.1.1.1.1.0 w.config.attempts
      (window_of v.windows s t) bodies
      (subst (λ (y : Session). WindowStandsFor (window_of v.windows s t) y bodies) session_ended
      (parts_ended.windows.all.stands s t live_ended so_far.may.tid))

  count_is : (cease_outcome w s t).reply ≡ Ceased dropped (released_at_cease w s t)
  count_is =
      let n : length ended.finished - length w.finished ≡ dropped = omega (
        arith,
        so_far.grown,
        ap (λ (u : World). length u.finished) (ended_is w s t),
      ) in
      cease_reply w s t ∙ ap (λ (k : ℕ). Ceased k (released_at_cease w s t)) n

  pub cease_meets : (x : WindowValue) → WindowsHaveRoom (with_window v.windows s t x) →
      WindowStandsFor x (session_resized plain_window (after_flush w.config.attempts (session w s t))) bodies →
      Meets w bodies (Asked (Cease s t)) (after_listing (after_change v s t x OnHold) s)
      (Ceased dropped (released_at_cease w s t))
  unfolding outcome_of
  cease_meets x room stands =
      let half : TransmitValue = after_change v s t x OnHold in
      let parts : Parts half (on_tid ended s t
      (renewed (start_of (session ended s t)) plain_window WorldMode.OnHold)) bodies =
      tid_parts v ended bodies s t (renewed (start_of (session ended s t)) plain_window WorldMode.OnHold) x
      OnHold live_ended so_far.may.tid (λ y. refl) room
      (subst (λ (y : Session). WindowStandsFor x (session_resized plain_window y) bodies) (sym session_ended) stands)
      refl parts_ended in
      subst (λ (r : ReplyNote). Meets w bodies (Asked (Cease s t)) (after_listing half s) r) count_is
      (listed_meets half w bodies (Asked (Cease s t)) so_far.may.stood.reached tt tt done
      (subst (λ (u : World). Parts half u bodies) (sym (ceased_is w s t)) parts) s refl)
