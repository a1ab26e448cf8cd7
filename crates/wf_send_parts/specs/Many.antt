-- Defines when the windows of all TIDs represent the sessions of a world.
use Rattle.std.specs.Prelude.{◌≡◌, ◌≢◌, ℕ, ◌<◌, ◌≤◌, Bool, true, false, List, []}
use Rattle.wf_frame.specs.Frames.{FrameValue}
use Rattle.wf_def_agreement.specs.Session.{Session, slot, start_of, next_number}
use Rattle.wf_send_parts.specs.Window.{WindowValue, WindowStandsFor, holds_parcel}
use Rattle.wf_send_parts.specs.Windows.{window_of}

-- The eight windows of each live station represent the sessions of its TIDs; `bodies` has the frame of each
-- id. The windows of a station that is not live hold no frames.
pub record AllStand (windows : List WindowValue) (is_live : ℕ → Bool) (sessions : ℕ → ℕ → Session)
    (bodies : ℕ → FrameValue) : Type 0 where
  pub stands : (s t : ℕ) → is_live s ≡ true → t < 8 →
      WindowStandsFor (window_of windows s t) (sessions s t) bodies
  pub empty : (s t : ℕ) → is_live s ≡ false → t < 8 → (window_of windows s t).places ≡ []

-- the sessions are the same, except that of TID t of station s
pub record IsSameElsewhere (before after : ℕ → ℕ → Session) (s t : ℕ) : Type 0 where
  pub same : (x y : ℕ) → y < 8 → (x ≡ s → y ≡ t → ⊥) → after x y ≡ before x y

-- all stations other than s have the same windows and sessions, and are live or not as before
pub record IsSameAtOthers (windows others : List WindowValue) (was_live is_live : ℕ → Bool)
    (before after : ℕ → ℕ → Session) (s : ℕ) : Type 0 where
  pub windows_same : (x y : ℕ) → x ≢ s → y < 8 → window_of others x y ≡ window_of windows x y
  pub live : (x : ℕ) → x ≢ s → is_live x ≡ was_live x
  pub sessions : (x y : ℕ) → x ≢ s → y < 8 → after x y ≡ before x y

-- the ids of the numbers that wait or fly have the same frames in both
pub record HasSameFrames (s : Session) (bodies others : ℕ → FrameValue) : Type 0 where
  pub same : (n : ℕ) → start_of s ≤ n → n < next_number s → holds_parcel (slot s n).state ≡ true →
      others (slot s n).id ≡ bodies (slot s n).id
