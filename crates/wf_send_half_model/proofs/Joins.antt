-- Proves that the parts represent the world after a join: the station's member and sleeper, its eight
-- windows, and its new deficits on both sides.
use Rattle.std.proofs.Common.{◌≡◌, refl, ap, sym, ◌∙◌, subst, arith, ℕ, zero, suc, ◌*◌, ◌<◌, Bool, true, false, List, Some, set, replicate, inl, inr}
use Rattle.std.proofs.lemmas.Bool.{cases_eq}
use Rattle.wf_frame.specs.declared.settings.Config.{Config}
use Rattle.wf_frame.specs.declared.classes.Class.{Class}
use Rattle.wf_frame.specs.declared.classes.Class.TheVariants.{Bk, Be, Vi, Vo}
use Rattle.wf_frame.specs.Frames.{FrameValue}
use Rattle.wf_def_lists.specs.Bounds.{greatest_window}
use Rattle.wf_def_agreement.specs.Session.{Session, new_session}
use Rattle.wf_def_lists.specs.Table.{at}
use Rattle.wf_def_world.specs.World.{World, Mode as WorldMode, Station, Tid, no_tid, new_tid, is_live, owed, with_station}
use Rattle.wf_def_world.specs.Step.{plain_window, new_station, join_outcome, offload_outcome, plain_outcome}
use Rattle.wf_law_runs.proofs.Deficits.Books.{upd, upd_same, upd_other}
use Rattle.wf_sched.specs.ClassRotas.{after_join}
use Rattle.wf_sched_refines.specs.Standing.{SchedulerStandsFor as TurnsStandFor, everywhere, share_in}
use Rattle.wf_sched_refines.proofs.Members.{join_stands, offload_stands, plain_stands}
use Rattle.wf_queue_flows_refines.specs.Standing.{FlowsStandFor as FlowsStandFor}
use Rattle.wf_queue_flows_refines.specs.Rest.{session_in, mode_in}
use Rattle.wf_queue_flows_refines.proofs.Leaves.{stands_joined, stands_offloaded, stands_plain}
use Rattle.wf_send_parts.specs.Window.{WindowValue, WindowStandsFor as WindowStandsFor}
use Rattle.wf_send_parts.specs.Windows.{window_of}
use Rattle.wf_send_parts.proofs.Changes.{station_joins}
use Rattle.wf_send_parts.specs.declared.stations.modes.Mode.{Mode}
use Rattle.wf_send_parts.specs.declared.stations.modes.Mode.TheVariants.{Agreed}
use Rattle.wf_send_parts.specs.Modes.{as_mode, mode_of}
use Rattle.wf_send_parts.specs.Members.{new_member, upper_in, charged_in, received_in}
use Rattle.wf_send_parts.specs.Sleepers.{awake, with_sleeper}
use Rattle.wf_send_half_model.specs.Half.{TransmitValue}
use Rattle.wf_send_half_model.specs.Standing.{Parts}
use Rattle.wf_send_half_model.specs.Changes.{AreReset, AreSet}
use Rattle.wf_send_half_model.specs.Views.{Agreements, agreements, view_of, Roster, roster}
use Rattle.wf_send_half_model.proofs.Views.{agreements_with_station, with_view, roster_with_station}
use Rattle.wf_send_half_model.proofs.Stands.{WindowsStand, ModesStand, IsOfView, StationsStand, GroupsStand, Pieces, to_pieces, of_pieces}
use Rattle.wf_send_half_model.proofs.Stations.{station_replaced}

-- ---- the station

at_many : (n t : ℕ) (x : Tid) → t < n → at no_tid (replicate n x) t ≡ x
at_many zero t x low = absurd (omega arith)
at_many (suc n) zero x low = refl
at_many (suc n) (suc t) x low = at_many n t x (omega arith)

module _ (config : Config) (mode : WorldMode) (window start exponent weight : ℕ) (offloaded : Bool) where
  abbrev joined : Station
  joined = new_station config mode window start exponent weight offloaded

  new_sessions : (t : ℕ) → t < 8 → session_in (Some joined) t ≡ new_session start window
  new_sessions t low = ap (λ (y : Tid). y.session) (at_many 8 t (new_tid mode start window) low)

  new_modes : (t : ℕ) → t < 8 → mode_in (Some joined) t ≡ mode
  new_modes t low = ap (λ (y : Tid). y.mode) (at_many 8 t (new_tid mode start window) low)

  no_turn : (c : Class) → upper_in (new_member exponent offloaded) c
      ≡ (share_in joined c).upper
  no_turn Bk = refl
  no_turn Be = refl
  no_turn Vi = refl
  no_turn Vo = refl

  no_charge : (c : Class) → charged_in (new_member exponent offloaded) c
      ≡ (share_in joined c).charged
  no_charge Bk = refl
  no_charge Be = refl
  no_charge Vi = refl
  no_charge Vo = refl

  no_receipt : (c : Class) → received_in (new_member exponent offloaded) c
      ≡ (share_in joined c).received
  no_receipt Bk = refl
  no_receipt Be = refl
  no_receipt Vi = refl
  no_receipt Vo = refl

  fresh_member : IsOfView (new_member exponent offloaded) (view_of joined)
  fresh_member = record {
    four = record { upper = refl; charged = refl; received = refl };
    rate = refl;
    exponent = refl;
    ampdu = refl;
    offloaded = refl;
    upper = no_turn;
    charged = no_charge;
    received = no_receipt;
  }

-- ---- its windows and modes

-- the agreements with station s live, with these sessions and modes
abbrev pub with_sessions : Agreements → ℕ → (ℕ → Session) → (ℕ → WorldMode) → Agreements
with_sessions a s f g = record a {
  live = upd a.live s true;
  sessions = upd a.sessions s f;
  modes = upd a.modes s g;
}

windows_reset : (before after : List WindowValue) (bodies : ℕ → FrameValue) (a : Agreements)
    (s first size : ℕ) (f : ℕ → Session) (g : ℕ → WorldMode) → WindowsStand before bodies a →
    AreReset before after s first size → ((t : ℕ) → t < 8 → f t ≡ new_session first size) →
    WindowsStand after bodies (with_sessions a s f g)
windows_reset before after bodies a s first size f g h reset new = record {
  sized = reset.sized ∙ h.sized;
  room = reset.room;
  all = station_joins before after a.live (upd a.live s true) a.sessions (upd a.sessions s f) bodies s h.all
      (record {
        windows_same = reset.others;
        live = λ x other. upd_other a.live s x true other;
        sessions = λ x y other below. ap (λ (k : ℕ → Session). k y) (upd_other a.sessions s x f other);
      }) (upd_same a.live s true)
      (λ t low. subst (λ (y : Session). WindowStandsFor (window_of after s t) y bodies)
      (sym (ap (λ (k : ℕ → Session). k t) (upd_same a.sessions s f) ∙ new t low))
      (reset.own t bodies low));
}

modes_set : (before after : List Mode) (a : Agreements) (s : ℕ) (mode : Mode) (f : ℕ → Session)
    (g : ℕ → WorldMode) → ModesStand before a → AreSet before after s mode →
    ((t : ℕ) → t < 8 → g t ≡ as_mode mode) → ModesStand after (with_sessions a s f g)
modes_set before after a s mode f g h set new = record {
  sized = set.sized ∙ h.sized;
  each = λ i t live low. elim (cases_eq i s) [
    | inl same ↦ subst (λ (k : ℕ). as_mode (mode_of after k t) ≡ upd a.modes s g k t) (sym same)
        (ap as_mode (set.own t low) ∙ sym (new t low)
        ∙ sym (ap (λ (k : ℕ → WorldMode). k t) (upd_same a.modes s g)))
    | inr other ↦ ap as_mode (set.others i t other low)
        ∙ h.each i t (sym (upd_other a.live s i true other) ∙ live) low
        ∙ sym (ap (λ (k : ℕ → WorldMode). k t) (upd_other a.modes s i g other))
  ];
}

-- ---- the call

-- a station joins: its turns, its windows, its modes, its member and its sleeper are new
abbrev pub admitted : TransmitValue → List WindowValue → List Mode → ℕ → ℕ → ℕ → Bool → TransmitValue
admitted v windows modes s exponent weight offloaded = record v {
  sched = everywhere (after_join s (v.sched.quantum * weight)) v.sched;
  windows = windows;
  modes = modes;
  members = set v.members s (Some (new_member exponent offloaded));
  sleepers = with_sleeper v.sleepers s awake;
}

-- the world in which it joined
abbrev with_new : World → WorldMode → ℕ → ℕ → ℕ → ℕ → ℕ → Bool → World
with_new w mode s window start exponent weight offloaded =
    with_station w s (Some (new_station w.config mode window start exponent weight offloaded))

admitted_parts : (v : TransmitValue) (w : World) (bodies : ℕ → FrameValue) (after : List WindowValue)
    (modes : List Mode) (mode : Mode) (s window start exponent weight : ℕ) (offloaded : Bool) →
    s < w.config.stations →
    FlowsStandFor v.flows (with_new w (as_mode mode) s window start exponent weight offloaded) →
    TurnsStandFor (everywhere (after_join s (v.sched.quantum * weight)) v.sched)
    (with_new w (as_mode mode) s window start exponent weight offloaded) →
    AreReset v.windows after s start window → AreSet v.modes modes s mode → Parts v w bodies →
    Parts (admitted v after modes s exponent weight offloaded)
    (with_new w (as_mode mode) s window start exponent weight offloaded) bodies
unfolding with_station
admitted_parts v w bodies after modes mode s window start exponent weight offloaded low flows turns reset
    are_set h =
    let p : Pieces v w bodies = to_pieces v w bodies h in
    let x : Station = new_station w.config (as_mode mode) window start exponent weight offloaded in
    let r : with_view (roster w) s (Some (view_of x)) ≡ roster (with_station w s (Some x)) =
    sym (roster_with_station w s (Some x)) in
    of_pieces (admitted v after modes s exponent weight offloaded) (with_station w s (Some x)) bodies
    (record {
      config = p.config ∙ ap (λ (z : Roster). z.config) r;
      clock = p.clock ∙ ap (λ (z : Roster). z.clock) r;
      exchanges = p.exchanges ∙ ap (λ (z : Roster). z.exchanges) r;
      opened = p.opened ∙ ap (λ (z : Roster). z.opened) r;
      groups = subst (λ (r : Roster). GroupsStand v.groups r.config r.groups) r p.groups;
      stations = subst (λ (z : Roster). StationsStand (set v.members s (Some (new_member exponent offloaded)))
          (with_sleeper v.sleepers s awake) z.config.stations z.stations) r
          (station_replaced v.members v.sleepers w.config.stations (roster w).stations s
          (Some (new_member exponent offloaded)) awake (Some (view_of x)) p.stations low
          (fresh_member w.config (as_mode mode) window start exponent weight offloaded)
          refl);
      windows = subst (WindowsStand after bodies) (sym (agreements_with_station w s (Some x)))
          (windows_reset v.windows after bodies (agreements w) s start window
          (session_in (Some x)) (mode_in (Some x)) p.windows reset
          (new_sessions w.config (as_mode mode) window start exponent weight offloaded));
      modes = subst (ModesStand modes) (sym (agreements_with_station w s (Some x)))
          (modes_set v.modes modes (agreements w) s mode (session_in (Some x)) (mode_in (Some x)) p.modes
          are_set
          (new_modes w.config (as_mode mode) window start exponent weight offloaded));
      flows = flows;
      turns = turns;
      ledger = p.ledger;
      frames = p.frames;
    })

module _ (v : TransmitValue) (w : World) (bodies : ℕ → FrameValue) (after : List WindowValue)
    (modes : List Mode) (s : ℕ) (low : s < w.config.stations) (off : is_live w s ≡ false)
    (nothing : (c : Class) → owed s c w.opened ≡ 0) (h : Parts v w bodies) where
  pub join_parts : (window start exponent weight : ℕ) → AreReset v.windows after s start window →
      AreSet v.modes modes s Agreed → Parts (admitted v after modes s exponent weight false)
      (join_outcome w s window start exponent weight).world bodies
  unfolding join_outcome
  join_parts window start exponent weight =
      λ reset set. admitted_parts v w bodies after modes Agreed s window start exponent weight false low
      (stands_joined v.flows w s window start exponent weight off h.others.flows)
      (join_stands v.sched w s window start exponent weight h.others.turns low nothing) reset set h

  pub plain_parts : (start exponent weight : ℕ) → AreReset v.windows after s start plain_window →
      AreSet v.modes modes s Mode.Plain → Parts (admitted v after modes s exponent weight false)
      (plain_outcome w s start exponent weight).world bodies
  unfolding plain_outcome
  plain_parts start exponent weight =
      λ reset set. admitted_parts v w bodies after modes Mode.Plain s plain_window start exponent weight
      false low
      (stands_plain v.flows w s start exponent weight off h.others.flows)
      (plain_stands v.sched w s start exponent weight h.others.turns low nothing) reset set h

  pub offload_parts : (exponent weight : ℕ) → AreReset v.windows after s 0 greatest_window →
      AreSet v.modes modes s Mode.Plain → Parts (admitted v after modes s exponent weight true)
      (offload_outcome w s exponent weight).world bodies
  unfolding offload_outcome
  offload_parts exponent weight =
      λ reset set. admitted_parts v w bodies after modes Mode.Plain s greatest_window 0 exponent weight
      true low
      (stands_offloaded v.flows w s exponent weight off h.others.flows)
      (offload_stands v.sched w s exponent weight h.others.turns low nothing) reset set h
