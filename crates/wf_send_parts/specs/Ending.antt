-- Defines how the numbers of an exchange that ends are settled, one after the other.
use Rattle.std.specs.Prelude.{◌≡◌, ℕ, ◌<◌, ◌≤◌, true, List, [], ◌∷◌}
use Rattle.wf_frame.specs.Frames.{FrameValue}
use Rattle.wf_def_lists.specs.Lists.{IsOnce}
use Rattle.wf_def_lists.specs.Table.{has}
use Rattle.wf_def_agreement.specs.Session.{Session, State, End, slot, after_end}
use Rattle.wf_send_parts.specs.Window.{WindowValue, WindowStandsFor, place_at, state_at, attempts_of, is_flying}

-- how an exchange ends: its number, how it ends for each of its numbers, and how often a frame may be sent
pub record Ending : Type 0 where
  pub exchange : ℕ
  pub ends : ℕ → End
  pub limit : ℕ

-- number n flies in the exchange, and its attempts in vain are below the limit
pub record IsFlyingIn (s : Session) (ending : Ending) (n : ℕ) : Type 0 where
  pub from_first : s.first ≤ n
  pub flies : (slot s n).state ≡ State.Flying ending.exchange
  pub below : (slot s n).attempts < ending.limit

-- these numbers all fly in the exchange, and none occurs twice
pub record AreFlying (s : Session) (ending : Ending) (numbers : List ℕ) : Type 0 where
  pub each : (n : ℕ) → has numbers n ≡ true → IsFlyingIn s ending n
  pub once : IsOnce numbers

-- the session after each of these numbers was settled, in order
abbrev pub all_settled : Ending → List ℕ → Session → Session
all_settled ending [] s = s
all_settled ending (n ∷ ns) s = all_settled ending ns (after_end ending.limit (ending.ends n) n s)

-- The window represents a session in which these numbers still fly. After they are settled it is `after`.
pub record HasLeft (w : WindowValue) (bodies : ℕ → FrameValue) (ending : Ending) (numbers : List ℕ)
    (after : Session) : Type 0 where
  pub now : Session
  pub stands : WindowStandsFor w now bodies
  pub flying : AreFlying now ending numbers
  pub leads : all_settled ending numbers now ≡ after

-- the number that is settled next flies, as the window itself shows
pub record IsSettledNext (w : WindowValue) (seq limit : ℕ) : Type 0 where
  pub flies : is_flying (state_at w seq) ≡ true
  pub below : attempts_of (place_at w seq) < limit
