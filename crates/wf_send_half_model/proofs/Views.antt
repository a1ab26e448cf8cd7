-- Proves which views each change of a world keeps unchanged, and how the others change.
use Rattle.std.proofs.Common.{◌≡◌, refl, ap, ap₂, ◌∙◌, ℕ, Bool, true, List, Option, Some, None, is_some, option_map, unwrap_or, map}
use Rattle.std.proofs.Math.Path.{fun_ext}
use Rattle.wf_frame.specs.declared.settings.Config.{Config}
use Rattle.wf_frame.specs.declared.classes.Class.{Class}
use Rattle.wf_frame.specs.Classes.{class_number}
use Rattle.wf_def_lists.specs.Table.{at, change}
use Rattle.wf_def_rotation.specs.Rotation.{Rotation}
use Rattle.wf_def_agreement.specs.Session.{Session}
use Rattle.wf_def_agreement.specs.Receiver.{Receiver}
use Rattle.wf_def_world.specs.Group.{GroupState}
use Rattle.wf_def_world.specs.World.{World, Mode, Station, Share, Tid, Queue, Frame, no_station, no_tid, no_share, is_live, tid_of, session, with_station, on_station, on_tid, on_session, on_receiver, with_queues, on_share, on_queue, with_rotation}
use Rattle.wf_law_runs.proofs.Deficits.Books.{upd, upd_idle, put_upd, updc, updc_idle, put_updc}
use Rattle.wf_queue_flows_refines.specs.Rest.{Rest, rest_of_world, bare, session_in, mode_in}
use Rattle.wf_queue_flows_refines.proofs.Elsewhere.{rest_live}
use Rattle.wf_sched_refines.specs.Standing.{share_in}
use Rattle.wf_send_parts.specs.declared.exchanges.opened.Open.{Open}
use Rattle.wf_send_half_model.specs.Standing.{open_of}
use Rattle.wf_send_half_model.specs.Views.{agreements, StationView, view_of, Roster, roster, ledger, KeepsSums}

-- ---- agreements

pub agreements_by : (u w : World) → u.config ≡ w.config → ((s : ℕ) → is_live u s ≡ is_live w s) →
    ((s t : ℕ) → session u s t ≡ session w s t) → ((s t : ℕ) → (tid_of u s t).mode ≡ (tid_of w s t).mode) →
    agreements u ≡ agreements w
agreements_by u w config live sessions modes =
    ap (λ (c : Config). record (agreements u) { config = c }) config
    ∙ ap (λ (f : ℕ → Bool). record (agreements u) { config = w.config; live = f }) (fun_ext live)
    ∙ ap (λ (f : ℕ → ℕ → Session). record (agreements w) { sessions = f; modes = (agreements u).modes })
    (fun_ext (λ s. fun_ext (sessions s)))
    ∙ ap (λ (f : ℕ → ℕ → Mode). record (agreements w) { modes = f }) (fun_ext (λ s. fun_ext (modes s)))

pub agreements_rest : (w u : World) → rest_of_world u ≡ rest_of_world w → agreements u ≡ agreements w
agreements_rest w u e = agreements_by u w (ap (λ (r : Rest). r.config) e) (λ s. rest_live w u s e)
    (λ s t. ap (λ (r : Rest). r.sessions s t) e) (λ s t. ap (λ (r : Rest). r.modes s t) e)

pub agreements_with_station : (w : World) (s : ℕ) (o : Option Station) →
    agreements (with_station w s o) ≡ record (agreements w) {
      live = upd (agreements w).live s (is_some o);
      sessions = upd (agreements w).sessions s (session_in o);
      modes = upd (agreements w).modes s (mode_in o);
    }
unfolding with_station
agreements_with_station w s o =
    ap (λ (f : ℕ → Bool). record (agreements (with_station w s o)) { live = f })
    (put_upd {X = Option Station} {Y = Bool} is_some None w.stations s o)
    ∙ ap (λ (f : ℕ → ℕ → Session). record (agreements (with_station w s o)) {
      live = upd (agreements w).live s (is_some o);
      sessions = f;
    }) (put_upd {Y = ℕ → Session} session_in None w.stations s o)
    ∙ ap (λ (f : ℕ → ℕ → Mode). record (agreements w) {
      live = upd (agreements w).live s (is_some o);
      sessions = upd (agreements w).sessions s (session_in o);
      modes = f;
    }) (put_upd {Y = ℕ → Mode} mode_in None w.stations s o)

-- a station with the same sessions and modes
agreements_same_station : (w : World) (s : ℕ) (o : Option Station) → is_some o ≡ is_live w s →
    session_in o ≡ session_in (at None w.stations s) → mode_in o ≡ mode_in (at None w.stations s) →
    agreements (with_station w s o) ≡ agreements w
agreements_same_station w s o live sessions modes =
    agreements_with_station w s o
    ∙ ap (λ (f : ℕ → Bool). record (agreements w) {
      live = f;
      sessions = upd (agreements w).sessions s (session_in o);
      modes = upd (agreements w).modes s (mode_in o);
    }) (upd_idle (agreements w).live s (is_some o) live)
    ∙ ap (λ (f : ℕ → ℕ → Session). record (agreements w) {
      sessions = f;
      modes = upd (agreements w).modes s (mode_in o);
    }) (upd_idle (agreements w).sessions s (session_in o) sessions)
    ∙ ap (λ (f : ℕ → ℕ → Mode). record (agreements w) { modes = f })
    (upd_idle (agreements w).modes s (mode_in o) modes)

pub some_mapped : (f : Station → Station) (o : Option Station) → is_some (option_map f o) ≡ is_some o
some_mapped f None = refl
some_mapped f (Some x) = refl

sessions_mapped : (f : Station → Station) → ((x : Station) → session_in (Some (f x)) ≡ session_in (Some x)) →
    (o : Option Station) → session_in (option_map f o) ≡ session_in o
sessions_mapped f h None = refl
sessions_mapped f h (Some x) = h x

modes_mapped : (f : Station → Station) → ((x : Station) → mode_in (Some (f x)) ≡ mode_in (Some x)) →
    (o : Option Station) → mode_in (option_map f o) ≡ mode_in o
modes_mapped f h None = refl
modes_mapped f h (Some x) = h x

agreements_on_station : (w : World) (s : ℕ) (f : Station → Station) →
    ((x : Station) → session_in (Some (f x)) ≡ session_in (Some x)) →
    ((x : Station) → mode_in (Some (f x)) ≡ mode_in (Some x)) →
    agreements (on_station w s f) ≡ agreements w
unfolding on_station
agreements_on_station w s f h k = agreements_same_station w s _ (some_mapped f (at None w.stations s))
    (sessions_mapped f h (at None w.stations s)) (modes_mapped f k (at None w.stations s))

pub agreements_station : (w : World) (s : ℕ) (f : Station → Station) → ((x : Station) → (f x).tids ≡ x.tids) →
    agreements (on_station w s f) ≡ agreements w
agreements_station w s f h = agreements_on_station w s f
    (λ x. fun_ext (λ t. ap (λ ts. (at no_tid ts t).session) (h x)))
    (λ x. fun_ext (λ t. ap (λ ts. (at no_tid ts t).mode) (h x)))

pub agreements_on_tid : (w : World) (s t : ℕ) (f : Tid → Tid) → ((y : Tid) → (f y).session ≡ y.session) →
    ((y : Tid) → (f y).mode ≡ y.mode) → agreements (on_tid w s t f) ≡ agreements w
unfolding on_tid
agreements_on_tid w s t f h k = agreements_on_station w s _
    (λ x. put_upd {Y = Session} (λ (z : Tid). z.session) no_tid x.tids t (f (at no_tid x.tids t))
    ∙ upd_idle (session_in (Some x)) t _ (h (at no_tid x.tids t)))
    (λ x. put_upd {Y = Mode} (λ (z : Tid). z.mode) no_tid x.tids t (f (at no_tid x.tids t))
    ∙ upd_idle (mode_in (Some x)) t _ (k (at no_tid x.tids t)))

pub agreements_receiver : (w : World) (s t : ℕ) (f : Receiver → Receiver) →
    agreements (on_receiver w s t f) ≡ agreements w
unfolding on_receiver
agreements_receiver w s t f = agreements_on_tid w s t _ (λ y. refl) (λ y. refl)

pub agreements_queues : (w : World) (s t : ℕ) (r : Rotation) → agreements (with_queues w s t r) ≡ agreements w
unfolding with_queues
agreements_queues w s t r = agreements_on_tid w s t _ (λ y. refl) (λ y. refl)

pub agreements_share : (w : World) (s : ℕ) (c : Class) (f : Share → Share) →
    agreements (on_share w s c f) ≡ agreements w
unfolding on_share
agreements_share w s c f = agreements_station w s _ (λ x. refl)

-- a station whose TID t has its session changed by f
abbrev on_sessions : ℕ → (Session → Session) → Option Station → Option Station
on_sessions t f o = option_map (λ (x : Station).
    record x { tids = change no_tid x.tids t (λ y. record y { session = f y.session }) }) o

-- the session of one TID of a live station changes
pub agreements_session : (w : World) (s t : ℕ) (f : Session → Session) → is_live w s ≡ true →
    agreements (on_session w s t f) ≡ record (agreements w) {
      sessions =
          upd (agreements w).sessions s (upd ((agreements w).sessions s) t (f (session w s t)));
    }
unfolding on_session on_tid on_station
agreements_session w s t f live =
    agreements_with_station w s _
    ∙ ap (λ (g : ℕ → Bool). record (agreements w) {
      live = g;
      sessions = upd (agreements w).sessions s (session_in (on_sessions t f (at None w.stations s)));
      modes = upd (agreements w).modes s (mode_in (on_sessions t f (at None w.stations s)));
    })
    (upd_idle (agreements w).live s (is_some (on_sessions t f (at None w.stations s)))
    (some_mapped _ (at None w.stations s)))
    ∙ ap (λ (g : ℕ → ℕ → Mode). record (agreements w) {
      sessions = upd (agreements w).sessions s (session_in (on_sessions t f (at None w.stations s)));
      modes = g;
    })
    (upd_idle (agreements w).modes s (mode_in (on_sessions t f (at None w.stations s)))
    (modes_mapped _ (λ x. put_upd {Y = Mode} (λ (z : Tid). z.mode) no_tid x.tids t _
    ∙ upd_idle (mode_in (Some x)) t _ refl) (at None w.stations s)))
    ∙ ap (λ (g : ℕ → Session). record (agreements w) { sessions = upd (agreements w).sessions s g })
    (go (at None w.stations s) live)
  where
    go : (o : Option Station) → is_some o ≡ true →
        session_in (on_sessions t f o) ≡ upd (session_in o) t (f (session_in o t))
    go None e = absurd (cc e)
    go (Some x) e = put_upd {Y = Session} (λ (z : Tid). z.session) no_tid x.tids t _

-- a TID of a live station changes
abbrev on_tids : ℕ → (Tid → Tid) → Option Station → Option Station
on_tids t f o = option_map (λ (x : Station). record x { tids = change no_tid x.tids t f }) o

-- the session and the mode of one TID of a live station change
pub agreements_tid : (w : World) (s t : ℕ) (f : Tid → Tid) → is_live w s ≡ true →
    agreements (on_tid w s t f) ≡ record (agreements w) {
      sessions = upd (agreements w).sessions s
          (upd ((agreements w).sessions s) t (f (tid_of w s t)).session);
      modes = upd (agreements w).modes s (upd ((agreements w).modes s) t (f (tid_of w s t)).mode);
    }
unfolding on_tid on_station
agreements_tid w s t f live =
    agreements_with_station w s _
    ∙ ap (λ (g : ℕ → Bool). record (agreements w) {
      live = g;
      sessions = upd (agreements w).sessions s (session_in (on_tids t f (at None w.stations s)));
      modes = upd (agreements w).modes s (mode_in (on_tids t f (at None w.stations s)));
    })
    (upd_idle (agreements w).live s (is_some (on_tids t f (at None w.stations s)))
    (some_mapped _ (at None w.stations s)))
    ∙ ap₂ (λ (g : ℕ → Session) (k : ℕ → Mode). record (agreements w) {
      sessions = upd (agreements w).sessions s g;
      modes = upd (agreements w).modes s k;
    })
    (sessions_at (at None w.stations s) live) (modes_at (at None w.stations s) live)
  where
    sessions_at : (o : Option Station) → is_some o ≡ true → session_in (on_tids t f o)
        ≡ upd (session_in o) t (f (at no_tid (unwrap_or o no_station).tids t)).session
    sessions_at None e = absurd (cc e)
    sessions_at (Some x) e = put_upd {Y = Session} (λ (z : Tid). z.session) no_tid x.tids t _

    modes_at : (o : Option Station) → is_some o ≡ true → mode_in (on_tids t f o)
        ≡ upd (mode_in o) t (f (at no_tid (unwrap_or o no_station).tids t)).mode
    modes_at None e = absurd (cc e)
    modes_at (Some x) e = put_upd {Y = Mode} (λ (z : Tid). z.mode) no_tid x.tids t _

-- ---- the roster

pub roster_by : (u w : World) → u.config ≡ w.config → u.clock ≡ w.clock → u.exchanges ≡ w.exchanges →
    map open_of u.opened ≡ map open_of w.opened → (roster u).stations ≡ (roster w).stations →
    u.groups ≡ w.groups → roster u ≡ roster w
roster_by u w config clock exchanges opened stations groups =
    ap (λ (c : Config). record (roster u) { config = c }) config
    ∙ ap₂ (λ (n m : ℕ). record (roster u) { config = w.config; clock = n; exchanges = m }) clock exchanges
    ∙ ap (λ (xs : List Open). record (roster w) {
      opened = xs;
      stations = (roster u).stations;
      groups = u.groups;
    }) opened
    ∙ ap (λ (f : ℕ → Option StationView). record (roster w) { stations = f; groups = u.groups }) stations
    ∙ ap (λ (gs : List GroupState). record (roster w) { groups = gs }) groups

bare_view : (o p : Option Station) → option_map bare p ≡ option_map bare o →
    option_map view_of p ≡ option_map view_of o
bare_view None None e = refl
bare_view None (Some y) e = absurd (cc e)
bare_view (Some x) None e = absurd (cc e)
bare_view (Some x) (Some y) e =
    let same : bare y ≡ bare x = cc in
    ap (λ (z : Station). Some (view_of z)) same

pub roster_rest : (w u : World) → rest_of_world u ≡ rest_of_world w → roster u ≡ roster w
roster_rest w u e = roster_by u w (ap (λ (r : Rest). r.config) e) (ap (λ (r : Rest). r.clock) e)
    (ap (λ (r : Rest). r.exchanges) e) (ap (λ (r : Rest). map open_of r.opened) e)
    (fun_ext (λ s. bare_view (at None w.stations s) (at None u.stations s)
    (ap (λ (r : Rest). r.stations s) e))) (ap (λ (r : Rest). r.groups) e)

pub roster_with_station : (w : World) (s : ℕ) (o : Option Station) →
    roster (with_station w s o) ≡ record (roster w) {
      stations =
          upd (roster w).stations s (option_map view_of o);
    }
unfolding with_station
roster_with_station w s o = ap (λ (f : ℕ → Option StationView). record (roster w) { stations = f })
    (put_upd (option_map view_of) None w.stations s o)

-- the view of a live station changes
view_mapped : (f : Station → Station) (g : StationView → StationView) →
    ((x : Station) → view_of (f x) ≡ g (view_of x)) → (o : Option Station) →
    option_map view_of (option_map f o) ≡ option_map g (option_map view_of o)
view_mapped f g h None = refl
view_mapped f g h (Some x) = ap (λ (z : StationView). Some z) (h x)

abbrev pub with_view : Roster → ℕ → Option StationView → Roster
with_view r s o = record r { stations = upd r.stations s o }

pub roster_on_station : (w : World) (s : ℕ) (f : Station → Station) (g : StationView → StationView) →
    ((x : Station) → view_of (f x) ≡ g (view_of x)) →
    roster (on_station w s f) ≡ with_view (roster w) s (option_map g ((roster w).stations s))
unfolding on_station
roster_on_station w s f g h = roster_with_station w s _
    ∙ ap (with_view (roster w) s) (view_mapped f g h (at None w.stations s))

idle_view : (o : Option StationView) → option_map (λ (z : StationView). z) o ≡ o
idle_view None = refl
idle_view (Some x) = refl

pub roster_same_station : (w : World) (s : ℕ) (f : Station → Station) →
    ((x : Station) → view_of (f x) ≡ view_of x) → roster (on_station w s f) ≡ roster w
roster_same_station w s f h = roster_on_station w s f (λ z. z) h
    ∙ ap (λ (g : ℕ → Option StationView). record (roster w) { stations = g })
    (upd_idle (roster w).stations s _ (idle_view ((roster w).stations s)))

pub roster_on_tid : (w : World) (s t : ℕ) (f : Tid → Tid) → roster (on_tid w s t f) ≡ roster w
unfolding on_tid
roster_on_tid w s t f = roster_same_station w s _ (λ x. refl)

pub roster_session : (w : World) (s t : ℕ) (f : Session → Session) → roster (on_session w s t f) ≡ roster w
unfolding on_session
roster_session w s t f = roster_on_tid w s t _

pub roster_receiver : (w : World) (s t : ℕ) (f : Receiver → Receiver) →
    roster (on_receiver w s t f) ≡ roster w
unfolding on_receiver
roster_receiver w s t f = roster_on_tid w s t _

pub roster_queues : (w : World) (s t : ℕ) (r : Rotation) → roster (with_queues w s t r) ≡ roster w
unfolding with_queues
roster_queues w s t r = roster_on_tid w s t _

-- a station whose share of one class changes
module _ (x : Station) (c : Class) (f : Share → Share) where
  abbrev pub reshared : Station
  reshared = record x { shares = change no_share x.shares (class_number c) f }

  pub view_reshared : view_of reshared ≡ record (view_of x) {
    upper = updc (view_of x).upper c (f (share_in x c)).upper;
    charged = updc (view_of x).charged c (f (share_in x c)).charged;
    received = updc (view_of x).received c (f (share_in x c)).received;
  }
  view_reshared =
      ap (λ (g : Class → Bool). record (view_of reshared) { upper = g })
      (put_updc {Y = Bool} (λ (y : Share). y.upper) no_share x.shares c (f (share_in x c)))
      ∙ ap₂ (λ (g h : Class → ℕ). record (view_of x) {
        upper =
            updc (view_of x).upper c (f (share_in x c)).upper;
        charged = g;
        received = h;
      })
      (put_updc {Y = ℕ} (λ (y : Share). y.charged) no_share x.shares c (f (share_in x c)))
      (put_updc {Y = ℕ} (λ (y : Share). y.received) no_share x.shares c (f (share_in x c)))

pub view_kept : (x : Station) (c : Class) (f : Share → Share) → KeepsSums f →
    view_of (reshared x c f) ≡ view_of x
view_kept x c f keeps =
    view_reshared x c f
    ∙ ap (λ (g : Class → Bool). record (view_of x) {
      upper = g;
      charged =
          updc (view_of x).charged c (f (share_in x c)).charged;
      received =
          updc (view_of x).received c (f (share_in x c)).received;
    })
    (updc_idle (view_of x).upper c _ (keeps.upper (share_in x c)))
    ∙ ap₂ (λ (g h : Class → ℕ). record (view_of x) { charged = g; received = h })
    (updc_idle (view_of x).charged c _ (keeps.charged (share_in x c)))
    (updc_idle (view_of x).received c _ (keeps.received (share_in x c)))

pub roster_share : (w : World) (s : ℕ) (c : Class) (f : Share → Share) → KeepsSums f →
    roster (on_share w s c f) ≡ roster w
unfolding on_share
roster_share w s c f keeps = roster_same_station w s _ (λ x. view_kept x c f keeps)

pub roster_rotation : (w : World) (c : Class) (r : Rotation) → roster (with_rotation w c r) ≡ roster w
unfolding with_rotation
roster_rotation w c r = refl

-- ---- the ledger

pub ledger_by : (u w : World) → u.frames ≡ w.frames → u.finished ≡ w.finished → ledger u ≡ ledger w
ledger_by u w frames finished = ap₂ (λ (fs : List Frame) (ids : List ℕ).
    ledger (record w { frames = fs; finished = ids })) frames finished

pub ledger_station : (w : World) (s : ℕ) (f : Station → Station) → ledger (on_station w s f) ≡ ledger w
unfolding on_station with_station
ledger_station w s f = refl

pub ledger_tid : (w : World) (s t : ℕ) (f : Tid → Tid) → ledger (on_tid w s t f) ≡ ledger w
unfolding on_tid
ledger_tid w s t f = ledger_station w s _

pub ledger_session : (w : World) (s t : ℕ) (f : Session → Session) → ledger (on_session w s t f) ≡ ledger w
unfolding on_session
ledger_session w s t f = ledger_tid w s t _

pub ledger_receiver : (w : World) (s t : ℕ) (f : Receiver → Receiver) →
    ledger (on_receiver w s t f) ≡ ledger w
unfolding on_receiver
ledger_receiver w s t f = ledger_tid w s t _

pub ledger_queues : (w : World) (s t : ℕ) (r : Rotation) → ledger (with_queues w s t r) ≡ ledger w
unfolding with_queues
ledger_queues w s t r = ledger_tid w s t _

pub ledger_share : (w : World) (s : ℕ) (c : Class) (f : Share → Share) → ledger (on_share w s c f) ≡ ledger w
unfolding on_share
ledger_share w s c f = ledger_station w s _

pub ledger_queue : (w : World) (q : ℕ) (f : Queue → Queue) → ledger (on_queue w q f) ≡ ledger w
unfolding on_queue
ledger_queue w q f = refl

pub ledger_rotation : (w : World) (c : Class) (r : Rotation) → ledger (with_rotation w c r) ≡ ledger w
unfolding with_rotation
ledger_rotation w c r = refl
