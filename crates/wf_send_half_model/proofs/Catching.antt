-- Proves that the half still represents the world after the window of a TID without an agreement catches up,
-- or is resized.
use Rattle.std.proofs.Common.{◌≡◌, ap, sym, subst, ℕ, ◌<◌, Bool, true, false, if◌then◌else◌, max}
use Rattle.wf_frame.specs.Frames.{FrameValue}
use Rattle.wf_def_agreement.specs.Session.{start_of}
use Rattle.wf_def_agreement.specs.Receiver.{Receiver, with_start}
use Rattle.wf_def_world.specs.World.{World, is_live, is_agreed, session, on_session, on_receiver}
use Rattle.wf_def_world.specs.Exchanges.{with_heard_start, caught_up, caught_up_if_plain}
use Rattle.wf_queue_flows_refines.proofs.Leaves.{receiver_alone}
use Rattle.wf_sched_refines.proofs.Unchanged.{receiver_leaves}
use Rattle.wf_send_parts.specs.Window.{WindowValue, WindowStandsFor as WindowStandsFor}
use Rattle.wf_send_parts.specs.Windows.{WindowsHaveRoom, with_window}
use Rattle.wf_send_half_model.specs.Half.{TransmitValue}
use Rattle.wf_send_half_model.specs.Standing.{Parts}
use Rattle.wf_send_half_model.proofs.Views.{agreements_receiver, roster_receiver, ledger_receiver}
use Rattle.wf_send_half_model.proofs.Stands.{leaves_parts}
use Rattle.wf_send_half_model.proofs.Moves.{session_parts}

-- the half does not depend on the receivers
pub receiver_parts : (v : TransmitValue) (w : World) (bodies : ℕ → FrameValue) (s t : ℕ)
    (f : Receiver → Receiver) → Parts v w bodies → Parts v (on_receiver w s t f) bodies
receiver_parts v w bodies s t f h = leaves_parts v w (on_receiver w s t f) bodies
    (record {
      part = receiver_alone w s t f;
      agreements = agreements_receiver w s t f;
      roster = roster_receiver w s t f;
      ledger = ledger_receiver w s t f;
    })
    (receiver_leaves w s t f) h

plain_is : (w : World) (s t : ℕ) → is_agreed w s t ≡ false → caught_up_if_plain w s t ≡ caught_up w s t
unfolding caught_up_if_plain
plain_is w s t is = ap (λ (b : Bool). if b then w else caught_up w s t) is

agreed_is : (w : World) (s t : ℕ) → is_agreed w s t ≡ true → caught_up_if_plain w s t ≡ w
unfolding caught_up_if_plain
agreed_is w s t is = ap (λ (b : Bool). if b then w else caught_up w s t) is

caught_parts : (v : TransmitValue) (w : World) (bodies : ℕ → FrameValue) (s t : ℕ) (x : WindowValue) →
    Parts v w bodies → is_live w s ≡ true → t < 8 → WindowsHaveRoom (with_window v.windows s t x) →
    WindowStandsFor x (record (session w s t) {
      heard = max (session w s t).heard (start_of (session w s t));
    }) bodies →
    Parts (record v { windows = with_window v.windows s t x }) (caught_up w s t) bodies
unfolding caught_up
caught_parts v w bodies s t x h live low room stands =
    let start : ℕ = start_of (session w s t) in
    receiver_parts (record v { windows = with_window v.windows s t x })
    (on_session w s t (with_heard_start true start)) bodies s t (with_start start)
    (session_parts v w bodies s t (with_heard_start true start) x live low room stands h)

pub plain_parts : (v : TransmitValue) (w : World) (bodies : ℕ → FrameValue) (s t : ℕ) (x : WindowValue) →
    Parts v w bodies → is_live w s ≡ true → t < 8 → is_agreed w s t ≡ false →
    WindowsHaveRoom (with_window v.windows s t x) →
    WindowStandsFor x (record (session w s t) {
      heard = max (session w s t).heard (start_of (session w s t));
    }) bodies →
    Parts (record v { windows = with_window v.windows s t x }) (caught_up_if_plain w s t) bodies
plain_parts v w bodies s t x h live low is room stands =
    subst (λ (u : World). Parts (record v { windows = with_window v.windows s t x }) u bodies)
    (sym (plain_is w s t is)) (caught_parts v w bodies s t x h live low room stands)

pub agreed_parts : (v : TransmitValue) (w : World) (bodies : ℕ → FrameValue) (s t : ℕ) → Parts v w bodies →
    is_agreed w s t ≡ true → Parts v (caught_up_if_plain w s t) bodies
agreed_parts v w bodies s t h is = subst (λ (u : World). Parts v u bodies) (sym (agreed_is w s t is)) h
