-- Defines unheard worlds: no receiver has anything that its sender does not know of. A driver that reports
-- a receiver only by the bits of a BlockAck, when an exchange ends, leaves the machine in such worlds.
use Rattle.std.specs.Prelude.{◌≡◌, ℕ, ◌<◌, ◌≤◌, true, List, [], None}
use Rattle.wf_frame.specs.declared.settings.Config.{Config}
use Rattle.wf_frame.specs.declared.notes.Ask.TheVariants.{Arrive, Answer, Done}
use Rattle.wf_frame.specs.declared.notes.Note.{Note}
use Rattle.wf_frame.specs.declared.notes.Note.TheVariants.{Asked}
use Rattle.wf_def_lists.specs.Table.{has}
use Rattle.wf_def_agreement.specs.Session.{Session, State, slot, next_number}
use Rattle.wf_def_world.specs.World.{World, Exchange, session, receiver, opening}
use Rattle.wf_def_world.specs.Step.{step}
use Rattle.wf_def_world.specs.Run.{Entry, world_after}
use Rattle.wf_law_runs.specs.Windows.{EachOpen}

-- an exchange without what its receiver did: what arrived of it, and the answer. The marks of the device
-- stay.
abbrev pub unmarked : Exchange → Exchange
unmarked x = record x { arrived = []; answer = None }

-- nothing of this exchange has arrived, and no answer is kept. The device may have marked it.
pub record IsUnmarked (x : Exchange) : Type 0 where
  pub arrived : x.arrived ≡ []
  pub answer : x.answer ≡ None

-- the number was given, and its frame is acknowledged
pub record HasAcked (y : Session) (n : ℕ) : Type 0 where
  pub from : y.first ≤ n
  pub below : n < next_number y
  pub acked : (slot y n).state ≡ State.Acked

-- Nothing of an open exchange has arrived, none is answered, and each number that a receiver has is
-- acknowledged.
pub record IsUnheard (w : World) : Type 0 where
  pub marks : EachOpen IsUnmarked w.opened
  pub acked : (s t n : ℕ) → has (receiver w s t).arrived n ≡ true → HasAcked (session w s t) n

-- a call that reports nothing of a receiver: any except an Arrive, an Answer and a Done that is heard
abbrev pub IsSilent : Note → Type 0
IsSilent (Asked (Arrive e i)) = ⊥
IsSilent (Asked (Answer e)) = ⊥
IsSilent (Asked (Done e true air)) = ⊥
IsSilent note = Unit {0}

-- such calls keep the world after a history unheard
abbrev pub SilentLaw : Config → List Entry → Type 0
SilentLaw config history =
    let w : World = world_after (opening config) history in
    (note : Note) → IsSilent note → IsUnheard w → IsUnheard (step w note).world
