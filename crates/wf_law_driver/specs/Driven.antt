-- Defines the runs of a driver that reports receivers only by BlockAcks, and the history of the machine for
-- each.
use Rattle.std.specs.Prelude.{ℕ, Bool, true, false, not, ◌&&◌, List, [], ◌∷◌, ◌++◌, Option, None, Some, if◌then◌else◌}
use Rattle.wf_frame.specs.declared.settings.Config.{Config}
use Rattle.wf_frame.specs.declared.notes.Ask.TheVariants.{Done}
use Rattle.wf_frame.specs.declared.notes.Note.{Note}
use Rattle.wf_frame.specs.declared.notes.Note.TheVariants.{Asked}
use Rattle.wf_def_world.specs.World.{World, Exchange, exchange, opening}
use Rattle.wf_frame.specs.Settings.{is_bad_air}
use Rattle.wf_def_world.specs.Run.{Entry, by, world_after}
use Rattle.wf_law_driver.specs.Inferred.{shown_of_sent, is_wholly_unsent, inferred, done_inferred}
use Rattle.wf_law_driver.specs.Unheard.{IsSilent, IsUnheard}

-- a deed of a driver: a call that reports nothing of a receiver, or the end of an exchange, with the
-- numbers that its BlockAck shows and the airtime that it gives
pub data Deed : Type 0 where
  Call : (note : Note) → Deed
  Heard : (exchange : ℕ) → (shown : ℕ → Bool) → (air : Option ℕ) → Deed

-- The calls for the end of exchange e: the inferred calls and the Done or, if the Done is refused, only the
-- Done. A number that never went on the air did not arrive: a BlockAck that shows it is not believed. A
-- BlockAck for an exchange of which nothing went on the air is refused, as nothing was answered; a batch has
-- no answer, so its Done is not.
abbrev pub ending : World → ℕ → ℕ → (ℕ → Bool) → Option ℕ → Option Exchange → List Entry
ending w caller e shown air None = by caller (Asked (Done e false air)) ∷ []
ending w caller e shown air (Some x) =
    if not x.batch && is_wholly_unsent x then by caller (Asked (Done e true air)) ∷ []
    else if is_bad_air w.config air then by caller (Asked (Done e false air)) ∷ []
    else let sent : ℕ → Bool = shown_of_sent x shown in
    inferred caller e sent x.batch x.content ++ by caller (done_inferred e sent air x.content) ∷ []

-- the calls of the machine for a deed
abbrev pub entries_of : World → ℕ → Deed → List Entry
entries_of w caller (Call note) = by caller note ∷ []
entries_of w caller (Heard e shown air) = ending w caller e shown air (exchange w e)

-- the history for deeds of callers, from a world on
abbrev pub history_of : World → List (ℕ × Deed) → List Entry
history_of w [] = []
history_of w (d ∷ ds) = entries_of w d.0 d.1 ++ history_of (world_after w (entries_of w d.0 d.1)) ds

-- the call of a deed reports nothing of a receiver
abbrev pub IsSilentDeed : Deed → Type 0
IsSilentDeed (Call note) = IsSilent note
IsSilentDeed (Heard e shown air) = Unit {0}

abbrev pub AreSilent : List (ℕ × Deed) → Type 0
AreSilent [] = Unit {0}
AreSilent (d ∷ ds) = IsSilentDeed d.1 × AreSilent ds

-- whatever a driver does, its history leaves the machine in an unheard world
abbrev pub DrivenLaw : Config → List (ℕ × Deed) → Type 0
DrivenLaw config deeds = AreSilent deeds → IsUnheard
    (world_after (opening config) (history_of (opening config) deeds))
