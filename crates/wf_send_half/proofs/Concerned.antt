-- Proves that the flags are right after a call that concerns one station, whose four flags are set after it.
use Rattle.std.proofs.Common.{◌≡◌, sym, subst, arith, ℕ, ◌<◌, ◌∷◌, drop, Some}
use Rattle.wf_frame.specs.declared.notes.Ask.{Ask}
use Rattle.wf_frame.specs.declared.notes.Note.TheVariants.{Asked}
use Rattle.wf_frame.specs.declared.notes.Refusal.{Refusal}
use Rattle.wf_frame.specs.declared.notes.Refusal.TheVariants.{BadStation}
use Rattle.wf_frame.specs.declared.notes.ReplyNote.{ReplyNote}
use Rattle.wf_frame.specs.declared.notes.ReplyNote.TheVariants.{Refused}
use Rattle.wf_frame.specs.declared.settings.Config.{Config}
use Rattle.wf_def_world.specs.World.{World}
use Rattle.wf_def_world.specs.Refusals.{refusals, is_bad_station}
use Rattle.wf_def_world.specs.Step.{concerned_station}
use Rattle.wf_law_driver.specs.Unheard.{IsSilent}
use Rattle.wf_send_half_model.specs.Half.{TransmitValue}
use Rattle.wf_send_half_model.specs.Standing.{Meets}
use Rattle.wf_send_half.specs.Flags.{Flags, with_flags, AreFlags, FlagsHaveRoom, IsTracked}
use Rattle.wf_send_half.proofs.Kept.{Leaves, same_bodies, same_config, tracked_station, answered, within_range}

-- there is a flag for each station
pub room_for : (x : TransmitValue) (r : Flags) (s : ℕ) → AreFlags x r → s < x.config.stations →
    FlagsHaveRoom r s
room_for x r s flags low c = omega (arith, (flags c).stations, low)

-- x is the half before the call, with the flags r, and u is the half after it; one world is enough, with its
-- answer
module _ (x : TransmitValue) (r : Flags) (h : IsTracked x r) (ask : Ask) (reply : ReplyNote)
    (u : TransmitValue) (m : Meets h.some.world h.some.bodies (Asked ask) u reply) where
  -- the call concerns station s and is not refused
  module _ (s : ℕ) (first : (w : World) → refusals w (Asked ask) ≡ (is_bad_station w s, BadStation)
      ∷ drop 1 (refusals w (Asked ask))) (fine : (why : Refusal) → reply ≡ Refused why → ⊥) where
    low_before : s < x.config.stations
    low_before =
        within_range x h.some.world h.some.bodies (Asked ask) s
        (drop 1 (refusals h.some.world (Asked ask))) h.some.stands (first h.some.world)
        (answered h.some.world (Asked ask) reply m.reply fine)

    pub low_at : s < u.config.stations
    low_at =
        subst (λ (z : Config). s < z.stations) (same_config x u h.some.world h.some.bodies h.some.bodies
        (Asked ask) reply h.some.stands m) low_before

    pub room_at : FlagsHaveRoom r s
    room_at = room_for x r s h.flags low_before

    pub tracked_at : IsSilent (Asked ask) → ((w : World) → concerned_station w (Asked ask) ≡ Some s) →
        (z : Flags) → z ≡ with_flags r u s → IsTracked u z
    tracked_at quiet own z is = subst (λ (y : Flags). IsTracked u y) (sym is)
        (tracked_station x u r ask reply h m quiet s own low_before)

-- the same with the same answer in each world
module _ (x : TransmitValue) (r : Flags) (h : IsTracked x r) (ask : Ask) (reply : ReplyNote)
    (u : TransmitValue) (meets : Leaves x u same_bodies (Asked ask) reply) where
  met : Meets h.some.world h.some.bodies (Asked ask) u reply
  met = meets h.some.world h.some.bodies h.some.stands

  module _ (s : ℕ) (first : (w : World) → refusals w (Asked ask) ≡ (is_bad_station w s, BadStation)
      ∷ drop 1 (refusals w (Asked ask))) (fine : (why : Refusal) → reply ≡ Refused why → ⊥) where
    pub low_after : s < u.config.stations
    low_after = low_at x r h ask reply u met s first fine

    pub flags_room : FlagsHaveRoom r s
    flags_room = room_at x r h ask reply u met s first fine

    pub tracked_after : IsSilent (Asked ask) → ((w : World) → concerned_station w (Asked ask) ≡ Some s) →
        (z : Flags) → z ≡ with_flags r u s → IsTracked u z
    tracked_after = tracked_at x r h ask reply u met s first fine
