-- Defines the law of numbers: a number keeps its frame as long as the session of its station lasts.
use Rattle.std.specs.Prelude.{◌≡◌, ℕ, ◌≤◌, ◌<◌, ◌==◌, Bool, true, false, ◌&&◌, List}
use Rattle.wf_frame.specs.declared.settings.Config.{Config}
use Rattle.wf_frame.specs.declared.notes.Ask.TheVariants.{Leave, Begin, Cease}
use Rattle.wf_frame.specs.declared.notes.Note.{Note}
use Rattle.wf_frame.specs.declared.notes.Note.TheVariants.{Asked}
use Rattle.wf_def_agreement.specs.Session.{Session, State, slot, next_number}
use Rattle.wf_def_world.specs.World.{World, session, is_live}
use Rattle.wf_def_world.specs.Step.{step}
use Rattle.wf_def_world.specs.Run.{Entry}
use Rattle.wf_def_world.specs.Stretches.{world_at}

-- Returns whether a call asks that station s leaves.
abbrev pub is_leave_of : ℕ → Note → Bool
is_leave_of s (Asked (Leave i)) = i == s
is_leave_of s note = false

-- y is a session and z the same session later. The first number does not change, the next number does not
-- fall, an assigned number keeps its frame's id, and an acknowledged or failed number stays in that state.
pub record KeepsNumbers (y z : Session) : Type 0 where
  pub first : z.first ≡ y.first
  pub next : next_number y ≤ next_number z
  pub ids : (n : ℕ) → y.first ≤ n → n < next_number y → (slot z n).id ≡ (slot y n).id
  pub acked : (n : ℕ) → y.first ≤ n → n < next_number y → (slot y n).state ≡ State.Acked →
      (slot z n).state ≡ State.Acked
  pub failed : (n : ℕ) → y.first ≤ n → n < next_number y → (slot y n).state ≡ State.Failed →
      (slot z n).state ≡ State.Failed

-- Station s is live at each moment from a to b. So no Leave of it was answered Left between them, and its
-- sessions belong to one join.
pub record IsOneStay (config : Config) (history : List Entry) (s a b : ℕ) : Type 0 where
  pub order : a ≤ b
  pub live : (m : ℕ) → a ≤ m → m ≤ b → is_live (world_at config history m) s ≡ true

-- Returns whether a call asks that the agreement of TID t of station s begins or ends.
abbrev pub is_agreement_of : ℕ → ℕ → Note → Bool
is_agreement_of s t (Asked (Begin i j window)) = (i == s) && (j == t)
is_agreement_of s t (Asked (Cease i j)) = (i == s) && (j == t)
is_agreement_of s t note = false

-- Any one call: a live station stays live unless the call asks it to leave, and if it is live after the
-- call, its sessions keep their numbers, and each keeps its window unless its agreement begins or ends.
pub record KeepsByCall (w : World) (note : Note) : Type 0 where
  pub live : (s : ℕ) → is_live w s ≡ true → is_leave_of s note ≡ false → is_live (step w note).world s ≡ true
  pub numbers : (s t : ℕ) → is_live w s ≡ true → is_live (step w note).world s ≡ true →
      KeepsNumbers (session w s t) (session (step w note).world s t)
  pub windows : (s t : ℕ) → is_live w s ≡ true → is_live (step w note).world s ≡ true →
      is_agreement_of s t note ≡ false → (session (step w note).world s t).size ≡ (session w s t).size

-- The law: `KeepsByCall` holds for each call that could come at any moment of a history, and `KeepsNumbers`
-- for the sessions of each stay of a station.
pub record KeptLaw (config : Config) (history : List Entry) : Type 0 where
  pub calls : (m : ℕ) (note : Note) → KeepsByCall (world_at config history m) note
  pub stays : (s t a b : ℕ) → IsOneStay config history s a b →
      KeepsNumbers (session (world_at config history a) s t) (session (world_at config history b) s t)
