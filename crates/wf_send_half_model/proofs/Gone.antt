-- Proves the end of a leave: the station's frames are counted, and the station has no member and is on no
-- list.
use Rattle.std.proofs.Common.{◌≡◌, refl, ap, sym, ◌∙◌, subst, arith, ℕ, ◌+◌, ◌-◌, ◌<◌, ◌≤◌, ◌==◌, true, false, List, [], ◌∷◌, length, set, None, inl, inr}
use Rattle.std.proofs.lemmas.Bool.{and_parts, cases_eq}
use Rattle.std.proofs.lemmas.List.{set-get_or}
use Rattle.wf_frame.specs.Classes.{all_classes}
use Rattle.wf_frame.specs.declared.classes.Class.{Class}
use Rattle.wf_frame.specs.declared.classes.Cause.TheVariants.{Left}
use Rattle.wf_frame.specs.declared.classes.Fate.TheVariants.{Dropped}
use Rattle.wf_frame.specs.declared.notes.Ask.TheVariants.{Leave}
use Rattle.wf_frame.specs.declared.notes.Note.TheVariants.{Asked}
use Rattle.wf_frame.specs.declared.notes.ReplyNote.{ReplyNote}
use Rattle.wf_frame.specs.declared.notes.ReplyNote.TheVariants as reply
use Rattle.wf_frame.specs.Frames.{FrameValue}
use Rattle.wf_def_rotation.specs.Rotation.{has_key}
use Rattle.wf_def_agreement.specs.Session.{Session}
use Rattle.wf_def_lists.specs.Table.{upto}
use Rattle.wf_def_world.specs.World.{World, Mode as WorldMode, is_live, rotation, with_station}
use Rattle.wf_def_world.specs.CanSend.{is_ready, is_debtor, is_to_list}
use Rattle.wf_def_world.specs.Step.{without_listings, after_tids_left, leave_outcome, outcome_of}
use Rattle.wf_law_rules.proofs.Lemmas.Numbers.{either}
use Rattle.wf_law_runs.specs.Tallies.{AddsUp}
use Rattle.wf_law_runs.proofs.Deficits.Books.{upd, upd_same, upd_other}
use Rattle.wf_law_runs.proofs.Frames.Tallies.{tally_law}
use Rattle.wf_law_runs.proofs.Frames.Untouched.{untouched_with_station}
use Rattle.wf_send_parts.specs.Tally.{Counts, held_in, many_settled_as}
use Rattle.wf_queue_flows_refines.specs.Rest.{session_in, mode_in}
use Rattle.wf_queue_flows_refines.proofs.Leaves.{stands_gone}
use Rattle.wf_sched.specs.ClassRotas.{after_station_left as without_turns}
use Rattle.wf_sched_refines.specs.Standing.{SchedulerStandsFor as TurnsStandFor, everywhere}
use Rattle.wf_sched_refines.proofs.Members.{gone_stands}
use Rattle.wf_send_parts.specs.Window.{WindowValue}
use Rattle.wf_send_parts.specs.Windows.{WindowsHaveRoom}
use Rattle.wf_send_parts.proofs.Changes.{station_goes}
use Rattle.wf_send_parts.specs.declared.stations.modes.Mode.{Mode}
use Rattle.wf_send_parts.specs.declared.stations.sleepers.Sleeper.{Sleeper}
use Rattle.wf_send_parts.specs.Sleepers.{awake, sleeper}
use Rattle.wf_send_half_model.specs.Half.{TransmitValue}
use Rattle.wf_send_half_model.specs.Standing.{counts_in, Parts, StandsFor, Meets}
use Rattle.wf_send_half_model.specs.Leaving.{after_leave, with_left, AreEmptied, IsLeaving}
use Rattle.wf_send_half_model.specs.Views.{Agreements, agreements, Roster, roster, ledger, HasSameViews}
use Rattle.wf_send_half_model.proofs.Views.{agreements_with_station, with_view, roster_with_station, ledger_by}
use Rattle.wf_send_half_model.proofs.Stands.{WindowsStand, ModesStand, StationsStand, GroupsStand, LedgerStands, Pieces, to_pieces, of_pieces}
use Rattle.wf_send_half_model.proofs.Stations.{station_replaced}
use Rattle.wf_send_half_model.proofs.Listings.{views_here, views_then, views_rotation}
use Rattle.wf_send_half_model.proofs.Reached.{by_law}
use Rattle.wf_send_half_model.proofs.Meets.{idle_meets}
use Rattle.wf_send_half_model.proofs.Dropping.{held_counted, finished_known}
use Rattle.wf_send_half_model.proofs.Leavings.{IsAllowed, allowed_leave}

-- ---- the counts

module _ (before v : TransmitValue) (w : World) (bodies : ℕ → FrameValue) (s t dropped : ℕ)
    (left : IsLeaving before w bodies s t v dropped) where
  abbrev now : World
  now = after_tids_left w s (upto t)

  same_tally : v.tally ≡ counts_in w
  same_tally = ap (λ (z : TransmitValue). z.tally) left.so_far.rest ∙ left.so_far.stood.parts.others.tally

  grown : length now.finished ≡ length w.finished + dropped
  grown = omega (
    arith,
    finished_known v.flows now left.so_far.parts.others.flows,
    finished_known before.flows w left.so_far.stood.parts.others.flows,
    left.so_far.grown,
  )

  pub dropped_are_held : dropped ≤ held_in v.tally
  dropped_are_held =
      let adds : AddsUp w = by_law AddsUp w left.so_far.stood.reached
      (tally_law w.config left.so_far.stood.reached.history) in
      subst (λ (c : Counts). dropped ≤ held_in c) (sym same_tally)
      (omega (
        arith,
        adds,
        held_counted w,
        grown,
        left.so_far.parts.others.inside,
        left.so_far.stood.parts.others.inside,
      ))

-- ---- the station is removed

views_off : (cs : List Class) (w : World) (s : ℕ) → HasSameViews w (without_listings w s cs)
unfolding without_listings
views_off [] w s = views_here w
views_off (c ∷ cs) w s = views_then w _ _ (views_rotation w c _) (views_off cs _ s)

-- the windows of a station that leaves are empty
windows_gone : (before after : List WindowValue) (bodies : ℕ → FrameValue) (a : Agreements) (s : ℕ)
    (f : ℕ → Session) (g : ℕ → WorldMode) → WindowsStand before bodies a → AreEmptied before after s 8 →
    WindowsHaveRoom after → WindowsStand after bodies (record a {
      live = upd a.live s false;
      sessions = upd a.sessions s f;
      modes = upd a.modes s g;
    })
windows_gone before after bodies a s f g h emptied room = record {
  sized = emptied.sized ∙ h.sized;
  room = room;
  all = station_goes before after a.live (upd a.live s false) a.sessions (upd a.sessions s f) bodies s h.all
      (record {
        windows_same = λ i k other low. emptied.others i k low (λ e _. other e);
        live = λ i other. upd_other a.live s i false other;
        sessions = λ i k other low. ap (λ (g : ℕ → Session). g k) (upd_other a.sessions s i f other);
      }) (upd_same a.live s false) (λ k low. emptied.empty k low);
}

-- the modes of a station that goes do not matter
modes_gone : (modes : List Mode) (a : Agreements) (s : ℕ) (f : ℕ → Session) (g : ℕ → WorldMode) →
    ModesStand modes a → ModesStand modes (record a {
      live = upd a.live s false;
      sessions = upd a.sessions s f;
      modes = upd a.modes s g;
    })
modes_gone modes a s f g h = record {
  sized = h.sized;
  each = λ i t live low. elim (cases_eq i s) [
    | inl same ↦ absurd (let e : false ≡ true =
        sym (upd_same a.live s false) ∙ sym (ap (upd a.live s false) same) ∙ live in cc e)
    | inr other ↦ h.each i t (sym (upd_other a.live s i false other) ∙ live) low
        ∙ sym (ap (λ (k : ℕ → WorldMode). k t) (upd_other a.modes s i g other))
  ];
}

module _ (before v : TransmitValue) (w : World) (bodies : ℕ → FrameValue) (s dropped : ℕ)
    (left : IsLeaving before w bodies s 8 v dropped) (room : WindowsHaveRoom v.windows) where
  abbrev all_left : World
  all_left = after_tids_left w s (upto 8)

  abbrev off : World
  off = without_listings all_left s all_classes

  abbrev gone : World
  gone = with_station off s None

  abbrev half : TransmitValue
  half = after_leave (record before { windows = v.windows; flows = v.flows }) s dropped

  same_off : HasSameViews all_left off
  same_off = views_off all_classes all_left s

  agreements_gone : agreements gone ≡ record (agreements all_left) {
    live =
        upd (agreements all_left).live s false;
    sessions =
        upd (agreements all_left).sessions s (session_in None);
    modes = upd (agreements all_left).modes s (mode_in None);
  }
  agreements_gone = agreements_with_station off s None
      ∙ ap (λ (a : Agreements). let z : Agreements = record a {
        live = upd a.live s false;
        sessions = upd a.sessions s (session_in None);
        modes = upd a.modes s (mode_in None);
      } in z) same_off.agreements

  roster_gone : roster gone ≡ with_view (roster all_left) s None
  roster_gone = roster_with_station off s None ∙ ap (λ (r : Roster). with_view r s None) same_off.roster

  ledger_gone : ledger gone ≡ ledger all_left
  ledger_gone = ledger_by gone off (untouched_with_station off s None).frames
      (untouched_with_station off s None).finished ∙ same_off.ledger

  outcome_gone : (leave_outcome w s).world ≡ gone
  unfolding leave_outcome
  outcome_gone = refl

  gone_parts : Parts half gone bodies
  gone_parts =
      let p : Pieces (with_left before v.flows dropped) all_left bodies =
      to_pieces (with_left before v.flows dropped) all_left bodies left.so_far.parts in
      let e : with_view (roster all_left) s None ≡ roster gone = sym roster_gone in
      let allowed : IsAllowed w s = allowed_leave w s left.so_far.allowed in
      let stood : StandsFor before w bodies = left.so_far.stood in
      let low : s < all_left.config.stations = omega (
        arith,
        allowed.low,
        ap (λ c. c.stations)
            (sym left.so_far.parts.others.config ∙ stood.parts.others.config),
      ) in
      of_pieces half gone bodies (record {
        config = p.config ∙ ap (λ (r : Roster). r.config) e;
        clock = p.clock ∙ ap (λ (r : Roster). r.clock) e;
        exchanges = p.exchanges ∙ ap (λ (r : Roster). r.exchanges) e;
        opened = p.opened ∙ ap (λ (r : Roster). r.opened) e;
        groups = subst (λ (r : Roster). GroupsStand before.groups r.config r.groups) e p.groups;
        stations = subst (λ (r : Roster). StationsStand
            (set before.members s None) before.sleepers r.config.stations r.stations) e
            (subst (λ (ys : List Sleeper). StationsStand (set before.members s None) ys
            all_left.config.stations (upd (roster all_left).stations s None))
            (set-get_or before.sleepers s awake)
            (station_replaced before.members before.sleepers all_left.config.stations
            (roster all_left).stations s None (sleeper before.sleepers s) None p.stations low tt tt));
        windows = subst (WindowsStand v.windows bodies) (sym agreements_gone)
            (windows_gone before.windows v.windows bodies (agreements all_left) s
            (session_in None) (mode_in None) p.windows left.windows room);
        modes = subst (ModesStand before.modes) (sym agreements_gone)
            (modes_gone before.modes (agreements all_left) s (session_in None) (mode_in None) p.modes);
        flows = stands_gone v.flows all_left s p.flows left.so_far.unlisted;
        turns = subst (λ (u : World). TurnsStandFor (everywhere (without_turns s) before.sched) u)
            outcome_gone (gone_stands before.sched w s stood.parts.others.turns);
        ledger = subst (LedgerStands before.inside (many_settled_as (Dropped Left) dropped before.tally)
            bodies) (sym ledger_gone) p.ledger;
        frames = p.frames;
      })

  -- no station is listed, since the one that leaves is not live
  off_everywhere : is_live gone s ≡ false
  off_everywhere = ap (λ (a : Agreements). a.live s) agreements_gone
      ∙ upd_same (agreements all_left).live s false

  live_if_wanted : (c : Class) → is_to_list gone c s ≡ true → is_live gone s ≡ true
  live_if_wanted c wanted = elim (either (is_ready gone c s) (is_debtor gone c s) wanted) [
    | inl ready ↦ (and_parts (is_live gone s) _ ready).0
    | inr owes ↦ (and_parts (is_live gone s) _ (and_parts (gone.config.pending == 1) _ owes).1).0
  ]

  not_wanted : (c : Class) → is_to_list gone c s ≡ true → has_key (rotation gone c) s ≡ true
  not_wanted c wanted = absurd (let e : false ≡ true = sym off_everywhere ∙ live_if_wanted c wanted in cc e)

  count_is : (leave_outcome w s).reply ≡ reply.Left dropped
  unfolding leave_outcome
  count_is = let n : length all_left.finished - length w.finished ≡ dropped =
      omega (arith, grown before v w bodies s 8 dropped left) in ap (λ (k : ℕ). reply.Left k) n

  pub leave_meets : Meets w bodies (Asked (Leave s)) (after_leave v s dropped) (reply.Left dropped)
  unfolding outcome_of
  leave_meets =
      let stood : StandsFor before w bodies = left.so_far.stood in
      subst (λ (z : TransmitValue). Meets w bodies (Asked (Leave s)) (after_leave z s dropped)
      (reply.Left dropped))
      (sym left.so_far.rest)
      (subst (λ (x : ReplyNote). Meets w bodies (Asked (Leave s)) half x) count_is
      (idle_meets half w bodies (Asked (Leave s)) stood.reached tt tt left.so_far.allowed
      (subst (λ (u : World). Parts half u bodies) (sym outcome_gone) gone_parts) s refl
      (subst (λ (u : World). (c : Class) → is_to_list u c s ≡ true → has_key (rotation u c) s ≡ true)
      (sym outcome_gone) not_wanted)))
