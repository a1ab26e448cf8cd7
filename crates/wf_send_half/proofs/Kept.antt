-- Proves that after a call the half represents an unheard world of a run, and which few flags change.
use Rattle.std.proofs.Common.{◌≡◌, refl, ap, sym, ◌∙◌, subst, arith, ℕ, ◌<◌, Bool, true, false, List, ◌∷◌, Option, Some, None}
use Rattle.std.proofs.lemmas.Bool.Decides.{nat_tests}
use Rattle.wf_frame.specs.Frames.{FrameValue}
use Rattle.wf_frame.specs.declared.classes.Class.{Class}
use Rattle.wf_frame.specs.declared.notes.Ask.{Ask}
use Rattle.wf_frame.specs.declared.notes.Note.{Note}
use Rattle.wf_frame.specs.declared.notes.Note.TheVariants.{Asked}
use Rattle.wf_frame.specs.declared.notes.Refusal.{Refusal}
use Rattle.wf_frame.specs.declared.notes.Refusal.TheVariants.{BadStation}
use Rattle.wf_frame.specs.declared.notes.ReplyNote.{ReplyNote}
use Rattle.wf_frame.specs.declared.notes.ReplyNote.TheVariants.{Refused}
use Rattle.wf_frame.specs.declared.settings.Config.{Config}
use Rattle.wf_def_world.specs.World.{World}
use Rattle.wf_def_world.specs.CanSend.{is_ready}
use Rattle.wf_def_world.specs.Refusals.{refusal, refusals, first_refusal, is_bad_station}
use Rattle.wf_def_world.specs.Step.{Outcome, concerned_station, step}
use Rattle.wf_law_runs.proofs.Deficits.Configs.{config_step}
use Rattle.wf_law_runs.proofs.Deficits.KeptStep.{NoRow, no_row}
use Rattle.wf_law_driver.specs.Unheard.{IsSilent, IsUnheard}
use Rattle.wf_law_driver.proofs.Silent.{silent_law}
use Rattle.wf_send_half_model.specs.Half.{TransmitValue}
use Rattle.wf_send_half_model.specs.Readiness.{leaves_ready}
use Rattle.wf_send_half_model.specs.Standing.{StandsFor, Meets, IsReached}
use Rattle.wf_send_half_model.proofs.Reached.{step_refused}
use Rattle.wf_send_half_model.proofs.Readers.{ready_same}
use Rattle.wf_send_half_model.proofs.Spared.{ready_others}
use Rattle.wf_send_half_model.proofs.Steady.{ready_left}
use Rattle.wf_send_half.specs.Flags.{Flags, with_flags, AreFlags, IsTracked}
use Rattle.wf_send_half.specs.Half.{HasUnheardWorld}
use Rattle.wf_send_half.proofs.FlagSteps.{AreNearly, all_set, set_four}

-- ---- the world

pub silent_at : (w : World) (note : Note) → IsReached w → IsSilent note → IsUnheard w →
    IsUnheard (step w note).world
silent_at w note r k un = subst (λ (u : World). IsUnheard (step u note).world) (sym r.after)
    (silent_law w.config r.history note k (subst IsUnheard r.after un))

-- a call of a half v leaves y, with the machine's answer in every world; `grow` maps the bodies before the
-- call to those after it
abbrev pub Leaves : TransmitValue → TransmitValue → ((ℕ → FrameValue) → ℕ → FrameValue) → Note → ReplyNote →
    Type 0
Leaves v y grow note reply = (w : World) (bodies : ℕ → FrameValue) → StandsFor v w bodies →
    Meets w (grow bodies) note y reply

abbrev pub same_bodies : (ℕ → FrameValue) → ℕ → FrameValue
same_bodies bodies = bodies

-- one unheard world is enough, with its answer
pub kept_at : (v y : TransmitValue) (grow : (ℕ → FrameValue) → ℕ → FrameValue) (note : Note)
    (reply : ReplyNote) (h : HasUnheardWorld v) → Meets h.world (grow h.bodies) note y reply → IsSilent note →
    HasUnheardWorld y
kept_at v y grow note reply h m k = record {
  world = (step h.world note).world;
  bodies = grow h.bodies;
  stands = m.stands;
  unheard = silent_at h.world note h.stands.reached k h.unheard;
}

pub kept_unheard : (v y : TransmitValue) (grow : (ℕ → FrameValue) → ℕ → FrameValue) (note : Note)
    (reply : ReplyNote) → Leaves v y grow note reply → IsSilent note → HasUnheardWorld v → HasUnheardWorld y
kept_unheard v y grow note reply meets k h = kept_at v y grow note reply h (meets h.world h.bodies h.stands) k

-- ---- the flags

-- the settings stay
pub same_config : (v y : TransmitValue) (w : World) (bodies after : ℕ → FrameValue) (note : Note)
    (reply : ReplyNote) → StandsFor v w bodies → Meets w after note y reply → v.config ≡ y.config
same_config v y w bodies after note reply h m =
    h.parts.others.config ∙ sym (config_step w note) ∙ sym m.stands.parts.others.config

module _ (v y : TransmitValue) (r : Flags) (flags : AreFlags v r) (w : World) (bodies after : ℕ → FrameValue)
    (note : Note) (reply : ReplyNote) (h : StandsFor v w bodies) (m : Meets w after note y reply) where
  -- a flag stays right if the call does not change the readiness that it shows
  pub nearly : (Q : ℕ → Class → Type 0) → ((s : ℕ) (c : Class) → (Q s c → ⊥) →
      is_ready (step w note).world c s ≡ is_ready w c s) → AreNearly y r Q
  nearly Q same =
      let config : v.config ≡ y.config = same_config v y w bodies after note reply h m in
      record {
        sized = λ c. (flags c).stations ∙ ap (λ (z : Config). z.stations) config;
        tells = λ c s low out.
            (flags c).tells s (subst (λ (z : Config). s < z.stations) (sym config) low)
            ∙ ready_same v w bodies c s h.parts
            ∙ sym (same s c out)
            ∙ sym (ready_same y (step w note).world after c s m.stands.parts);
      }

  pub still_right : leaves_ready note ≡ true → AreFlags y r
  still_right e = all_set y r (λ _ _. ⊥) (nearly (λ _ _. ⊥) (λ s c _. ready_left w note h.reached e s c))
      (λ s c low no. no)

-- the same for a call without a frame, except the flags of the station that it concerns
pub nearly_asked : (v y : TransmitValue) (r : Flags) → AreFlags v r →
    (w : World) (bodies after : ℕ → FrameValue) (ask : Ask) (reply : ReplyNote) → StandsFor v w bodies →
    Meets w after (Asked ask) y reply →
    (s : ℕ) → concerned_station w (Asked ask) ≡ Some s → AreNearly y r (λ i d. i ≡ s)
nearly_asked v y r flags w bodies after ask reply h m s concerned =
    nearly v y r flags w bodies after (Asked ask) reply h m (λ i d. i ≡ s)
    (λ i c out. ready_others w (Asked ask) h.reached i c
    (λ k. out (let same : Some i ≡ Some s = sym k ∙ concerned in cc same)) refl)

-- ---- whole calls

-- a call that changes the readiness of no station
pub tracked_still : (v y : TransmitValue) (r : Flags) (ask : Ask) (reply : ReplyNote) → IsTracked v r →
    Leaves v y same_bodies (Asked ask) reply → IsSilent (Asked ask) → leaves_ready (Asked ask) ≡ true →
    IsTracked y r
tracked_still v y r ask reply h meets k e = record {
  some = kept_unheard v y same_bodies (Asked ask) reply meets k h.some;
  flags = still_right v y r h.flags h.some.world h.some.bodies h.some.bodies (Asked ask) reply h.some.stands
      (meets h.some.world h.some.bodies h.some.stands) e;
}

-- a call that concerns one station, whose four flags are set then
pub tracked_station : (v y : TransmitValue) (r : Flags) (ask : Ask) (reply : ReplyNote) (h : IsTracked v r) →
    Meets h.some.world h.some.bodies (Asked ask) y reply → IsSilent (Asked ask) → (s : ℕ) →
    ((w : World) → concerned_station w (Asked ask) ≡ Some s) → s < v.config.stations →
    IsTracked y (with_flags r y s)
tracked_station v y r ask reply h m k s concerned low =
    let config : v.config ≡ y.config = same_config v y h.some.world h.some.bodies h.some.bodies
    (Asked ask) reply h.some.stands m in
    record {
      some = kept_at v y same_bodies (Asked ask) reply h.some m k;
      flags = set_four y r s (nearly_asked v y r h.flags h.some.world h.some.bodies h.some.bodies ask reply
          h.some.stands m s (concerned h.some.world)) (subst (λ (z : Config). s < z.stations) config low);
    }

-- ---- a station's number

not_bad : (w : World) (s : ℕ) → is_bad_station w s ≡ false → s < w.config.stations
not_bad w s e = grind (arith, nat_tests, e)

-- a call whose answer is no refusal is not refused
pub answered : (w : World) (note : Note) (reply : ReplyNote) → reply ≡ (step w note).reply →
    ((r : Refusal) → reply ≡ Refused r → ⊥) → refusal w note ≡ None
answered w note reply is other = from (refusal w note) refl
  where
    from : (o : Option Refusal) → refusal w note ≡ o → refusal w note ≡ None
    from None e = e
    from (Some r) e = absurd (other r (is ∙ ap (λ (o : Outcome). o.reply) (step_refused w note r e)))

-- for a call whose first row tests its station
pub within_range : (v : TransmitValue) (w : World) (bodies : ℕ → FrameValue) (note : Note) (s : ℕ)
    (rows : List (Bool × Refusal)) → StandsFor v w bodies →
    refusals w note ≡ (is_bad_station w s, BadStation) ∷ rows → refusal w note ≡ None → s < v.config.stations
within_range v w bodies note s rows h same e =
    let row : NoRow ((is_bad_station w s, BadStation) ∷ rows) =
    no_row ((is_bad_station w s, BadStation) ∷ rows) (ap first_refusal (sym same) ∙ e) in
    subst (λ (z : Config). s < z.stations) (sym h.parts.others.config) (not_bad w s row.0)
