-- Proves that the numbers of an aggregate fly, one after the other, and that each one's window and frame
-- represent the world after it.
use Rattle.std.proofs.Common.{◌≡◌, ◌≢◌, refl, ap, sym, ◌∙◌, subst, arith, ℕ, zero, suc, ◌-◌, ◌%◌, ◌<◌, ◌≤◌, true, List, [], ◌∷◌, map, Option, Some, None, option_map}
use Rattle.std.proofs.lemmas.List.{set-get_or}
use Rattle.wf_frame.specs.Frames.{FrameValue}
use Rattle.wf_def_lists.specs.Lists.{IsRising}
use Rattle.wf_def_agreement.specs.Session.{Session, Slot, State, slot, is_settled, next_number, with_state}
use Rattle.wf_def_lists.specs.Table.{at, put, change}
use Rattle.wf_def_world.specs.World.{World, Station, Tid, Mpdu, no_tid, is_live, session, with_station, on_station, on_tid, on_session}
use Rattle.wf_def_world.specs.Exchanges.{Aggregate, with_flying, prepared_data}
use Rattle.wf_law_rules.proofs.Lemmas.Tables.{at_put_same}
use Rattle.wf_law_runs.specs.Windows.{EachMpdu}
use Rattle.wf_law_runs.proofs.Sessions.Starts.{at_change_other}
use Rattle.wf_send_parts.specs.Window.{WindowValue, WindowStandsFor as WindowStandsFor, IsNumber, HasOwnFrame, state_at}
use Rattle.wf_send_parts.proofs.Numbers.{open_number}
use Rattle.wf_send_parts.specs.Sent.{with_one_sent}
use Rattle.wf_send_parts.proofs.Callers.{state_is, next_kept}
use Rattle.wf_send_parts.proofs.Sending.{sent_keeps}
use Rattle.wf_frame.specs.Classes.{tid_number}
use Rattle.wf_send_parts.specs.Windows.{WindowsHaveRoom, no_window, window_of, with_window}
use Rattle.wf_send_half_model.specs.Half.{TransmitValue}
use Rattle.wf_send_half_model.specs.Standing.{Parts}
use Rattle.wf_send_half_model.specs.Filling.{IsWaitingWith, AreWaiting, IsTakingOff, IsUnderway}
use Rattle.wf_send_half_model.specs.Views.{Agreements}
use Rattle.wf_send_half_model.proofs.Views.{agreements_session}
use Rattle.wf_send_half_model.proofs.Alone.{own_frame, sent_parts, still_alone, all_alone}
use Rattle.wf_send_half_model.proofs.Gives.{placed}
use Rattle.wf_send_half_model.proofs.Moves.{session_parts, session_is}

-- ---- one session changes twice

put_twice : {X : Type 0} (d : X) (t : List X) (k : ℕ) (u v : X) → put d (put d t k u) k v ≡ put d t k v
put_twice d [] zero u v = refl
put_twice d [] (suc k) u v = ap (λ ys. d ∷ ys) (put_twice d [] k u v)
put_twice d (x ∷ xs) zero u v = refl
put_twice d (x ∷ xs) (suc k) u v = ap (λ ys. x ∷ ys) (put_twice d xs k u v)

change_twice : {X : Type 0} (d : X) (t : List X) (k : ℕ) (f g : X → X) →
    change d (change d t k f) k g ≡ change d t k (λ x. g (f x))
change_twice d t k f g =
    ap (λ x. put d (put d t k (f (at d t k))) k (g x)) (at_put_same d t k (f (at d t k)))
    ∙ put_twice d t k (f (at d t k)) (g (f (at d t k)))

abbrev with_tid : ℕ → (Session → Session) → Station → Station
with_tid t f x = record x { tids = change no_tid x.tids t (λ y. record y { session = f y.session }) }

station_twice : (t : ℕ) (f g : Session → Session) (o : Option Station) →
    option_map (with_tid t g) (option_map (with_tid t f) o) ≡ option_map (with_tid t (λ y. g (f y))) o
station_twice t f g None = refl
station_twice t f g (Some x) = ap (λ (ts : List Tid). Some (record x { tids = ts }))
    (change_twice no_tid x.tids t (λ y. record y { session = f y.session })
    (λ y. record y { session = g y.session }))

pub session_twice : (w : World) (s t : ℕ) (f g : Session → Session) →
    on_session (on_session w s t f) s t g ≡ on_session w s t (λ y. g (f y))
unfolding on_session on_tid on_station with_station
session_twice w s t f g =
    let o : Option Station = at None w.stations s in
    ap (λ (z : Option Station). record w {
      stations =
          put None (put None w.stations s (option_map (with_tid t f) o)) s (option_map (with_tid t g) z);
    })
    (at_put_same None w.stations s (option_map (with_tid t f) o))
    ∙ ap (λ (xs : List (Option Station)). record w { stations = xs })
    (put_twice None w.stations s (option_map (with_tid t f) o)
    (option_map (with_tid t g) (option_map (with_tid t f) o)))
    ∙ ap (λ (z : Option Station). record w { stations = put None w.stations s z }) (station_twice t f g o)

-- ---- one number

-- after one number flies, the later ones still wait
later_wait : (y : Session) (bodies : ℕ → FrameValue) (e n lo : ℕ) (ms : List Mpdu) → y.first ≤ n → n < lo →
    IsRising lo (map (λ m. m.number) ms) → EachMpdu (IsWaitingWith y bodies) ms →
    EachMpdu (IsWaitingWith (with_state (State.Flying e) n y) bodies) ms
later_wait y bodies e n lo [] from past rising h = tt
later_wait y bodies e n lo (m ∷ ms) from past rising h =
    let other : n - y.first ≢ m.number - y.first = omega (arith, rising.0) in
    let same : slot (with_state (State.Flying e) n y) m.number ≡ slot y m.number =
    at_change_other y.slots (n - y.first) (m.number - y.first)
    (λ x. record x { state = State.Flying e }) other in (
      record {
        waits = ap (λ (x : Slot). x.state) same ∙ h.0.waits;
        carries =
            ap (λ (x : Slot). x.id) same ∙ h.0.carries;
        frame = h.0.frame;
      },
      later_wait y bodies e n (suc m.number) ms from (omega (arith, rising.0)) rising.1 h.1,
    )

pub rises_past : (lo hi : ℕ) (ns : List ℕ) → lo ≤ hi → IsRising hi ns → IsRising lo ns
rises_past lo hi [] h rising = tt
rises_past lo hi (n ∷ ns) h rising = (omega (arith, rising.0), rising.1)

behind_wait : (y : Session) (bodies : ℕ → FrameValue) (e : ℕ) (m : Mpdu) (ms : List Mpdu) →
    AreWaiting y bodies (m ∷ ms) → AreWaiting (with_state (State.Flying e) m.number y) bodies ms
behind_wait y bodies e m ms a = record {
  each = later_wait y bodies e m.number (suc m.number) ms a.rising.0 (omega arith) a.rising.1 a.each.1;
  rising = rises_past y.first (suc m.number) (map (λ (k : Mpdu). k.number) ms)
      (omega (arith, a.rising.0)) a.rising.1;
}

-- counting an attempt in one frame does not change the ids of the frames
sent_each : (y : Session) (bodies : ℕ → FrameValue) (id : ℕ) (ms : List Mpdu) →
    EachMpdu (IsWaitingWith y bodies) ms → EachMpdu (IsWaitingWith y (with_one_sent id bodies)) ms
sent_each y bodies id [] h = tt
sent_each y bodies id (m ∷ ms) h = (
  record {
    waits = h.0.waits;
    carries = h.0.carries;
    frame = sent_keeps (λ (f : FrameValue). f.id) (λ f. refl) bodies id m.id ∙ h.0.frame;
  },
  sent_each y bodies id ms h.1,
)

sent_wait : (y : Session) (bodies : ℕ → FrameValue) (id : ℕ) (ms : List Mpdu) → AreWaiting y bodies ms →
    AreWaiting y (with_one_sent id bodies) ms
sent_wait y bodies id ms a = record { each = sent_each y bodies id ms a.each; rising = a.rising }

module _ (v : TransmitValue) (w : World) (bodies : ℕ → FrameValue) (s t e : ℕ) (m : Mpdu) (ms : List Mpdu)
    (after : World) (left : IsTakingOff v w bodies s t e (m ∷ ms) after) where
  -- its 12 bits identify the number
  pub off_number : (seq : ℕ) → seq ≡ m.number % 4096 → IsNumber (session w s t) m.number seq
  off_number seq on_air = open_number (session w s t) m.number seq left.waiting.rising.0
      (ap is_settled left.waiting.each.0.waits) on_air

  pub off_waits : (seq : ℕ) → seq ≡ m.number % 4096 → state_at (window_of v.windows s t) seq ≡ State.Waiting
  off_waits seq on_air =
      state_is (window_of v.windows s t) (session w s t) bodies
      (left.parts.windows.all.stands s t left.live left.tid) m.number seq (off_number seq on_air)
      ∙ left.waiting.each.0.waits

  -- the number's frame is the transmission's
  pub off_frame : (bodies (slot (session w s t) m.number).id).id ≡ m.id
  off_frame = ap (λ (k : ℕ). (bodies k).id) left.waiting.each.0.carries ∙ left.waiting.each.0.frame

  pub off_own : HasOwnFrame (session w s t) m.number
  off_own = own_frame v w bodies s t m left.alone.0 left.waiting.each.0.carries

  pub off_next : (x : WindowValue) → WindowsHaveRoom (with_window v.windows s t x) →
      WindowStandsFor x (with_state (State.Flying e) m.number (session w s t))
      (with_one_sent (slot (session w s t) m.number).id bodies) →
      IsTakingOff (record v { windows = with_window v.windows s t x })
      (on_session w s t (with_state (State.Flying e) m.number)) (with_one_sent m.id bodies) s t e ms after
  off_next x room stands = record {
    parts = sent_parts v w bodies s t m left.alone.0 left.parts left.live left.tid
        (with_state (State.Flying e) m.number) x room
        (subst (λ (id : ℕ). WindowStandsFor x (with_state (State.Flying e) m.number (session w s t))
        (with_one_sent id bodies)) left.waiting.each.0.carries stands);
    live = ap (λ (a : Agreements). a.live s) (agreements_session w s t
        (with_state (State.Flying e) m.number) left.live) ∙ left.live;
    tid = left.tid;
    waiting = subst (λ (y : Session). AreWaiting y (with_one_sent m.id bodies) ms)
        (sym (session_is w s t (with_state (State.Flying e) m.number) left.live))
        (sent_wait (with_state (State.Flying e) m.number (session w s t)) bodies m.id ms
        (behind_wait (session w s t) bodies e m ms left.waiting));
    alone = still_alone w s t m.number (State.Flying e) left.live left.waiting.each.0.waits
        left.waiting.rising.0 next_same v (with_window v.windows s t x) ms left.alone.1;
    leads = session_twice w s t (with_state (State.Flying e) m.number) (with_flying e ms) ∙ left.leads;
  }
    where
      next_same : next_number (with_state (State.Flying e) m.number (session w s t))
          ≡ next_number (session w s t)
      next_same = next_kept (window_of v.windows s t) (session w s t) bodies
          (left.parts.windows.all.stands s t left.live left.tid) m.number (m.number % 4096)
          (off_number (m.number % 4096) refl) (λ x. record x { state = State.Flying e })

-- ---- all of them

prepared_flies : (s t : ℕ) (a : Aggregate) → on_session a.world s t (with_flying a.world.exchanges a.mpdus)
    ≡ (prepared_data s t a).world
unfolding prepared_data
prepared_flies s t a = refl

pub off_begins : (v : TransmitValue) (a : Aggregate) (bodies : ℕ → FrameValue) (s t : ℕ) →
    Parts v a.world bodies → is_live a.world s ≡ true → t < 8 → IsUnderway a.world s t →
    AreWaiting (session a.world s t) bodies a.mpdus →
    IsTakingOff v a.world bodies s t a.world.exchanges a.mpdus (prepared_data s t a).world
off_begins v a bodies s t h live low underway waiting = record {
  parts = h;
  live = live;
  tid = low;
  waiting = waiting;
  alone = all_alone v a.world bodies s t (session a.world s t).first a.mpdus h (placed a.world s t underway)
      (omega arith) waiting.rising waiting.each;
  leads = prepared_flies s t a;
}

pub off_ends : (v : TransmitValue) (w : World) (bodies : ℕ → FrameValue) (s t e : ℕ) (after : World) →
    IsTakingOff v w bodies s t e [] after → Parts v after bodies
off_ends v w bodies s t e after left =
    let x : WindowValue = window_of v.windows s t in
    let same : with_window v.windows s t x ≡ v.windows = set-get_or v.windows (tid_number s t) no_window in
    subst (λ (u : World). Parts v u bodies) left.leads
    (subst (λ (ws : List WindowValue). Parts (record v { windows = ws })
    (on_session w s t (with_flying e [])) bodies) same
    (session_parts v w bodies s t (with_flying e []) x left.live left.tid
    (subst WindowsHaveRoom (sym same) left.parts.windows.room)
    (left.parts.windows.all.stands s t left.live left.tid) left.parts))
