-- Proves that the parts still represent the world after one window changes with its session, and after one
-- held frame is finished.
use Rattle.std.proofs.Common.{◌≡◌, ap, sym, ◌∙◌, subst, arith, ℕ, ◌<◌, true, false, inl, inr}
use Rattle.std.proofs.lemmas.Bool.{cases_eq}
use Rattle.wf_frame.specs.declared.classes.Fate.TheVariants.{Held}
use Rattle.wf_frame.specs.Frames.{FrameValue}
use Rattle.wf_def_agreement.specs.Session.{Session}
use Rattle.wf_def_world.specs.World.{World, is_live, session, frame, accepted_count, is_held, on_session, with_frame_finished}
use Rattle.wf_law_runs.proofs.Deficits.Books.{upd, upd_same, upd_other}
use Rattle.wf_send_parts.specs.Tally.{settled_as}
use Rattle.wf_queue_flows_refines.specs.Frames.{IsBody, IsBodySettled}
use Rattle.wf_queue_flows_refines.specs.Standing.{times_held}
use Rattle.wf_queue_flows_refines.proofs.Leaves.{stands_same, session_alone}
use Rattle.wf_queue_flows_refines.proofs.Ends.{stands_finished}
use Rattle.wf_queue_flows_refines.proofs.Elsewhere.{rest_finish}
use Rattle.wf_queue_flows_refines.proofs.Each.{each_finish}
use Rattle.wf_sched_refines.proofs.Unchanged.{session_leaves, finish_leaves}
use Rattle.wf_send_parts.specs.Window.{WindowValue, WindowStandsFor as WindowStandsFor}
use Rattle.wf_send_parts.specs.Windows.{WindowsHaveRoom, with_window}
use Rattle.wf_send_parts.proofs.Changes.{windows_count, one_stands}
use Rattle.wf_send_half_model.specs.Half.{TransmitValue}
use Rattle.wf_send_half_model.specs.Standing.{Parts}
use Rattle.wf_send_half_model.specs.Ending.{after_finish}
use Rattle.wf_send_half_model.specs.Views.{Agreements, agreements, Roster, roster}
use Rattle.wf_send_half_model.proofs.Views.{agreements_rest, roster_rest, agreements_session, roster_session, ledger_session}
use Rattle.wf_send_half_model.proofs.Stands.{WindowsStand, ModesStand, StationsStand, GroupsStand, LedgerStands, Pieces, to_pieces, of_pieces}
use Rattle.wf_send_half_model.proofs.Ledgers.{ledger_finish}

-- ---- one window

-- the sessions with session y at TID t of station s
abbrev pub with_session : (ℕ → ℕ → Session) → ℕ → ℕ → Session → ℕ → ℕ → Session
with_session sessions s t y = upd sessions s (upd (sessions s) t y)

pub session_own : (sessions : ℕ → ℕ → Session) (s t : ℕ) (y : Session) → with_session sessions s t y s t ≡ y
session_own sessions s t y = ap (λ (g : ℕ → Session). g t) (upd_same sessions s (upd (sessions s) t y))
    ∙ upd_same (sessions s) t y

pub session_other : (sessions : ℕ → ℕ → Session) (s t : ℕ) (y : Session) (a b : ℕ) → (a ≡ s → b ≡ t → ⊥) →
    with_session sessions s t y a b ≡ sessions a b
session_other sessions s t y a b other = elim (cases_eq a s) [
  | inl e ↦ ap (λ (g : ℕ → Session). g b) (ap (upd sessions s (upd (sessions s) t y)) e
      ∙ upd_same sessions s (upd (sessions s) t y)) ∙ upd_other (sessions s) t b y (λ k. other e k)
      ∙ ap (λ (n : ℕ). sessions n b) (sym e)
  | inr k ↦ ap (λ (g : ℕ → Session). g b) (upd_other sessions s a (upd (sessions s) t y) k)
]

pub session_parts : (v : TransmitValue) (w : World) (bodies : ℕ → FrameValue) (s t : ℕ)
    (f : Session → Session) (x : WindowValue) → is_live w s ≡ true → t < 8 →
    WindowsHaveRoom (with_window v.windows s t x) →
    WindowStandsFor x (f (session w s t)) bodies → Parts v w bodies →
    Parts (record v { windows = with_window v.windows s t x }) (on_session w s t f) bodies
session_parts v w bodies s t f x live low room stands h =
    let p : Pieces v w bodies = to_pieces v w bodies h in
    let u : World = on_session w s t f in
    let same : roster w ≡ roster u = sym (roster_session w s t f) in
    let a : Agreements = agreements w in
    let low_s : s < w.config.stations = h.others.turns.live s live in
    of_pieces (record v { windows = with_window v.windows s t x }) u bodies (record {
      config = p.config ∙ ap (λ (r : Roster). r.config) same;
      clock = p.clock ∙ ap (λ (r : Roster). r.clock) same;
      exchanges = p.exchanges ∙ ap (λ (r : Roster). r.exchanges) same;
      opened = p.opened ∙ ap (λ (r : Roster). r.opened) same;
      groups = subst (λ (r : Roster). GroupsStand v.groups r.config r.groups) same p.groups;
      stations = subst (λ (r : Roster). StationsStand v.members v.sleepers r.config.stations r.stations) same
          p.stations;
      windows = subst (WindowsStand (with_window v.windows s t x) bodies)
          (sym (agreements_session w s t f live)) (record {
            sized = windows_count v.windows s t x ∙ p.windows.sized;
            room = room;
            all = one_stands v.windows s t x a.live a.sessions
                (with_session a.sessions s t (f (session w s t))) bodies p.windows.all live low
                (omega (arith, p.windows.sized, low_s))
                (record { same = λ i j below. session_other a.sessions s t (f (session w s t)) i j })
                (subst (λ (y : Session). WindowStandsFor x y bodies)
                (sym (session_own a.sessions s t (f (session w s t)))) stands);
          });
      modes = subst (ModesStand v.modes) (sym (agreements_session w s t f live))
          (record { sized = p.modes.sized; each = p.modes.each });
      flows = stands_same v.flows w u (session_alone w s t f) p.flows;
      turns = session_leaves w s t f v.sched p.turns;
      ledger = subst (LedgerStands v.inside v.tally bodies) (sym (ledger_session w s t f)) p.ledger;
      frames = p.frames;
    })

pub session_is : (w : World) (s t : ℕ) (f : Session → Session) → is_live w s ≡ true →
    session (on_session w s t f) s t ≡ f (session w s t)
session_is w s t f live = ap (λ (a : Agreements). a.sessions s t) (agreements_session w s t f live)
    ∙ session_own (agreements w).sessions s t (f (session w s t))

-- ---- one frame

pub finish_parts : (v : TransmitValue) (w : World) (bodies : ℕ → FrameValue) (f : FrameValue) →
    f.id < accepted_count w → (frame w f.id).fate ≡ Held → is_held f.fate ≡ false →
    times_held v.flows.backlog f.id ≡ 0 → IsBodySettled bodies f →
    Parts v w bodies → Parts (after_finish v f) (with_frame_finished w f.fate f.id) bodies
finish_parts v w bodies f low held other nowhere body h =
    let p : Pieces v w bodies = to_pieces v w bodies h in
    let u : World = with_frame_finished w f.fate f.id in
    let same : roster w ≡ roster u = sym (roster_rest w u (rest_finish w f.fate f.id)) in
    of_pieces (after_finish v f) u bodies (record {
      config = p.config ∙ ap (λ (r : Roster). r.config) same;
      clock = p.clock ∙ ap (λ (r : Roster). r.clock) same;
      exchanges = p.exchanges ∙ ap (λ (r : Roster). r.exchanges) same;
      opened = p.opened ∙ ap (λ (r : Roster). r.opened) same;
      groups = subst (λ (r : Roster). GroupsStand v.groups r.config r.groups) same p.groups;
      stations = subst (λ (r : Roster). StationsStand v.members v.sleepers r.config.stations r.stations) same
          p.stations;
      windows = subst (WindowsStand v.windows bodies)
          (sym (agreements_rest w u (rest_finish w f.fate f.id))) p.windows;
      modes = subst (ModesStand v.modes) (sym (agreements_rest w u (rest_finish w f.fate f.id))) p.modes;
      flows = stands_finished v.flows w f p.flows low nowhere;
      turns = finish_leaves w f.fate f.id v.sched p.turns;
      ledger = subst (LedgerStands v.inside (settled_as f.fate v.tally) bodies)
          (sym (ledger_finish w f.fate f.id low held other)) (record {
            count = p.ledger.count;
            fates = ap (settled_as f.fate) p.ledger.fates;
            notes = p.ledger.notes;
          });
      frames = each_finish (IsBody bodies) (IsBodySettled bodies) v.flows f p.frames body;
    })
