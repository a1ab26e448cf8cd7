-- Defines how many numbers of an exchange are in each state.
use Rattle.std.specs.Prelude.{◌≡◌, ◌≢◌, ℕ, Bool, List, count_by}
use Rattle.wf_frame.specs.declared.classes.Fate.TheVariants.{Held}
use Rattle.wf_def_agreement.specs.Session.{State, slot, is_acknowledged, is_waiting, is_failed}
use Rattle.wf_def_world.specs.World.{World, Mpdu, session}
use Rattle.wf_send_parts.specs.declared.window.window.Settled.{Settled}
use Rattle.wf_send_parts.specs.declared.window.window.Settled.TheVariants.{Acked, Waiting, Failed}
use Rattle.wf_send_half.specs.declared.finish.Ended.{Ended}

-- how many of these transmissions to TID t of station s have a number in a state with property p
abbrev pub count_of : World → ℕ → ℕ → List Mpdu → (State → Bool) → ℕ
count_of w s t mpdus p = count_by (λ m. p (slot (session w s t) m.number).state) mpdus

-- these are the numbers of transmissions that are acknowledged, wait and failed
pub record AreCounted (w : World) (s t : ℕ) (mpdus : List Mpdu) (ended : Ended) : Type 0 where
  pub acked : ended.acked ≡ count_of w s t mpdus is_acknowledged
  pub waiting : ended.waiting ≡ count_of w s t mpdus is_waiting
  pub failed : ended.failed ≡ count_of w s t mpdus is_failed

-- the frame of a settled number has its fate
abbrev pub HasFate : Settled → Type 0
HasFate (Acked f) = f.fate ≢ Held
HasFate Waiting = Unit {0}
HasFate (Failed f) = f.fate ≢ Held
