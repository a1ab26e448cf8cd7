-- Proves that the half still represents the world after the window of a TID without an agreement caught up.
use Rattle.std.proofs.Common.{◌≡◌, ap, sym, ◌∙◌, subst, ℕ, ◌<◌, true, false, List, max}
use Rattle.wf_frame.specs.Frames.{FrameValue}
use Rattle.wf_def_agreement.specs.Session.{Session, start_of}
use Rattle.wf_def_world.specs.World.{World, is_live, session}
use Rattle.wf_def_world.specs.Exchanges.{caught_up_if_plain}
use Rattle.wf_send_parts.specs.Window.{WindowValue, WindowStandsFor as WindowStandsFor}
use Rattle.wf_send_parts.specs.Windows.{WindowsHaveRoom, window_of, with_window}
use Rattle.wf_send_half_model.specs.Half.{TransmitValue, is_agreed_of}
use Rattle.wf_send_half_model.specs.Standing.{Parts}
use Rattle.wf_send_half_model.proofs.Catching.{plain_parts, agreed_parts}
use Rattle.wf_send_half_model.proofs.Readers.{agreed_same}

-- x is the value of the fields of the half v
module _ (x v : TransmitValue) (same : x ≡ v) (s t : ℕ) (low : t < 8) where
  -- the TID has no agreement: its window catches up
  pub plain_caught : is_agreed_of x s t ≡ false → (windows : List WindowValue) →
      WindowsHaveRoom windows → windows ≡ with_window x.windows s t (window_of windows s t) →
      ((y : Session) (bodies : ℕ → FrameValue) → WindowStandsFor (window_of x.windows s t) y bodies →
      WindowStandsFor (window_of windows s t) (record y { heard = max y.heard (start_of y) }) bodies) →
      (w : World) (bodies : ℕ → FrameValue) → Parts v w bodies → is_live w s ≡ true →
      Parts (record x { windows = windows }) (caught_up_if_plain w s t) bodies
  plain_caught is windows room others stands w bodies h live =
      let here : Parts x w bodies = subst (λ (z : TransmitValue). Parts z w bodies) (sym same) h in
      let z : WindowValue = window_of windows s t in
      let now : Parts (record x { windows = with_window x.windows s t z }) (caught_up_if_plain w s t) bodies =
      plain_parts x w bodies s t z here live low (sym (agreed_same x w bodies s t here live low) ∙ is)
      (subst WindowsHaveRoom others room)
      (stands (session w s t) bodies (here.windows.all.stands s t live low)) in
      subst (λ (l : List WindowValue). Parts (record x { windows = l }) (caught_up_if_plain w s t) bodies)
      (sym others) now

  -- the TID has an agreement: nothing changes
  pub none_caught : is_agreed_of x s t ≡ true → (w : World) (bodies : ℕ → FrameValue) →
      Parts v w bodies → is_live w s ≡ true → Parts v (caught_up_if_plain w s t) bodies
  none_caught is w bodies h live = agreed_parts v w bodies s t h
      (sym (agreed_same v w bodies s t h live low)
      ∙ (ap (λ (z : TransmitValue). is_agreed_of z s t) (sym same) ∙ is))
