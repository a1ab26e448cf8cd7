-- Proves that after the end of an exchange the half represents an unheard world, and that one flag is set.
use Rattle.std.proofs.Common.{◌≡◌, ap, sym, ◌∙◌, subst, arith, ℕ, ◌<◌, ◌==◌, Bool, true, false, not, ◌&&◌, List, length, Option, Some, None, if◌then◌else◌}
use Rattle.std.specs.Prelude.{find, IfSome, Result}
use Rattle.wf_frame.specs.Classes.{class_of}
use Rattle.wf_frame.specs.declared.classes.Class.{Class}
use Rattle.wf_frame.specs.declared.notes.Ask.TheVariants.{Done}
use Rattle.wf_frame.specs.declared.notes.Note.TheVariants.{Asked}
use Rattle.wf_frame.specs.declared.notes.Refusal.{Refusal}
use Rattle.wf_frame.specs.declared.settings.Config.{Config}
use Rattle.wf_frame.specs.Settings.{is_bad_air}
use Rattle.wf_def_world.specs.World.{World, Exchange, exchange, is_wide}
use Rattle.wf_def_world.specs.Step.{step}
use Rattle.wf_law_runs.proofs.Deficits.Configs.{config_step, config_run}
use Rattle.wf_law_driver.specs.Inferred.{inferred, after_inferred, done_inferred, shown_of_sent, is_wholly_unsent}
use Rattle.wf_send_parts.specs.declared.exchanges.opened.Open.{Open}
use Rattle.wf_send_half.specs.declared.finish.Closed.{Closed}
use Rattle.wf_send_half.specs.declared.finish.Ended.{Ended}
use Rattle.wf_send_half.specs.Bits.{is_shown, ended_reply, HasClosed}
use Rattle.wf_send_half.specs.Driven.{ended_by, outcome_after_done, IsAfterDone, MeetsUnheard}
use Rattle.wf_send_half.specs.Flags.{Flags, flags_in, with_flag, IsTracked}
use Rattle.wf_send_half.specs.Half.{HasWorld, HasUnheardWorld}
use Rattle.wf_send_half.specs.Replies.{reply_of_result}
use Rattle.wf_send_half.proofs.Dones.{within_config}
use Rattle.wf_send_half.proofs.Driven.{meets_unheard, ready_as_before}
use Rattle.wf_send_half.proofs.FlagSteps.{AreNearly, set_alone}
use Rattle.wf_send_half_model.specs.Half.{TransmitValue}

pub has_world : (v : TransmitValue) → HasUnheardWorld v → HasWorld v
has_world v h = record { world = h.world; bodies = h.bodies; stands = h.stands }

-- the settings stay
config_ended : (w : World) (caller e : ℕ) (heard : Option (ℕ × List ℕ)) (air : Option ℕ)
    (x : Option Exchange) → (ended_by w caller e heard air x).world.config ≡ w.config
config_ended w caller e None air x = config_step w (Asked (Done e false air))
config_ended w caller e (Some score) air None = config_step w (Asked (Done e false air))
config_ended w caller e (Some score) air (Some x) =
    on_air (not x.batch && is_wholly_unsent x) (is_bad_air w.config air)
  where
    shown : ℕ → Bool
    shown = shown_of_sent x (is_shown (is_wide w x.station x.tid) (Some score))

    on_air : (none bad : Bool) → (if none then step w (Asked (Done e true air))
        else if bad then step w (Asked (Done e false air))
        else step (after_inferred w caller e shown x.batch x.content)
        (done_inferred e shown air x.content)).world.config
        ≡ w.config
    on_air true bad = config_step w (Asked (Done e true air))
    on_air false true = config_step w (Asked (Done e false air))
    on_air false false = config_step _ _ ∙ config_run (inferred caller e shown x.batch x.content) w

-- x is the half before the end, with the flags r, and u is the half after it
module _ (x : TransmitValue) (r : Flags) (h : IsTracked x r) (u : TransmitValue) (e : ℕ)
    (heard : Option (ℕ × List ℕ)) (air : Option ℕ) (result : Result Ended Refusal)
    (done : IsAfterDone x u e heard air result) where
  ended : MeetsUnheard h.some.bodies (outcome_after_done h.some.world 0 e heard air) u
      (reply_of_result ended_reply result)
  ended = meets_unheard x u h.some.world h.some.bodies h.some.stands h.some.unheard e heard air result done 0

  pub ended_unheard : HasUnheardWorld u
  ended_unheard = record {
    world = (outcome_after_done h.some.world 0 e heard air).world;
    bodies = h.some.bodies;
    stands = ended.stands;
    unheard = ended.unheard;
  }

  config : x.config ≡ u.config
  config = h.some.stands.parts.others.config ∙ sym
      (config_ended h.some.world 0 e heard air (exchange h.some.world e))
      ∙ sym ended.stands.parts.others.config

  -- the exchange was open, and has ended
  module _ (closed : Closed) (own : HasClosed x u e closed) where
    low : closed.station < x.config.stations
    low = omega (arith, within_config x (has_world x h.some) e own.exchange_is own.known, own.station)

    low_after : closed.station < u.config.stations
    low_after = subst (λ (z : Config). closed.station < z.stations) config low

    pub closed_room : closed.station < length (flags_in r closed.class)
    closed_room = omega (arith, low, (h.flags closed.class).stations)

    out_of : (i : ℕ) (d : Class) → ((i ≡ closed.station) × (d ≡ closed.class) → ⊥) →
        IfSome (find (λ y. y.number == e) x.opened) (λ y. i ≡ y.station → class_of y.tid ≡ d → ⊥)
    out_of i d out = subst (λ (k : Option Open). IfSome k (λ y. i ≡ y.station → class_of y.tid ≡ d → ⊥))
        own.known (λ s t. out (s ∙ sym own.station, sym t ∙ sym own.class))

    nearly_ended : AreNearly u r (λ i d. (i ≡ closed.station) × (d ≡ closed.class))
    nearly_ended = record {
      sized = λ d. (h.flags d).stations ∙ ap (λ (z : Config). z.stations) config;
      tells = λ d i small out.
          (h.flags d).tells i (subst (λ (z : Config). i < z.stations) (sym config) small)
          ∙ sym (ready_as_before x u h.some.world h.some.bodies h.some.stands h.some.unheard e heard
          air result done i d (out_of i d out));
    }

    pub tracked_ended : (z : Flags) → z ≡ with_flag r closed.class closed.station closed.is_ready →
        IsTracked u z
    tracked_ended z set =
        subst (IsTracked u) (sym (set ∙ ap (with_flag r closed.class closed.station) own.ready)) (record {
          some = ended_unheard;
          flags = set_alone u r closed.station closed.class nearly_ended low_after;
        })
