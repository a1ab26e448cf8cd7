-- Proves that all flags of a new half are down, since no station is ready.
use Rattle.std.proofs.Common.{◌≡◌, refl, ap, sym, ◌∙◌, subst, ℕ, ◌<◌, Bool, false, List, length, replicate}
use Rattle.std.proofs.lemmas.List.{get_or-replicate, length-replicate}
use Rattle.wf_frame.specs.Frames.{FrameValue}
use Rattle.wf_frame.specs.declared.classes.Class.{Class}
use Rattle.wf_frame.specs.declared.classes.Class.TheVariants.{Bk, Be, Vi, Vo}
use Rattle.wf_frame.specs.declared.settings.Config.{Config}
use Rattle.wf_rotation.specs.Rotas.{is_ready as entry}
use Rattle.wf_def_world.specs.World.{opening}
use Rattle.wf_def_world.specs.CanSend.{is_ready}
use Rattle.wf_law_driver.proofs.Silent.{opening_unheard}
use Rattle.wf_send_half_model.specs.Half.{TransmitValue}
use Rattle.wf_send_half_model.specs.Standing.{StandsFor}
use Rattle.wf_send_half_model.proofs.Readers.{ready_same}
use Rattle.wf_send_half.specs.Flags.{Flags, all_down, flags_in, AreFlags, IsTracked}
use Rattle.wf_send_half.proofs.Openings.{a_frame}

none_of : (n : ℕ) (c : Class) → flags_in (all_down n) c ≡ replicate n false
none_of n Bk = refl
none_of n Be = refl
none_of n Vi = refl
none_of n Vo = refl

nobody : (config : Config) (c : Class) (s : ℕ) → is_ready (opening config) c s ≡ false
nobody config c s = refl

pub new_tracked : (v : TransmitValue) (r : Flags) (config : Config) →
    ((bodies : ℕ → FrameValue) → StandsFor v (opening config) bodies) → r ≡ all_down config.stations →
    IsTracked v r
new_tracked v r config stands is = record {
  some = record {
    world = opening config;
    bodies = λ _. a_frame;
    stands = stands (λ _. a_frame);
    unheard =
        opening_unheard config;
  };
  flags = subst (AreFlags v) (sym is) (λ c. record {
    stations = ap length (none_of config.stations c) ∙ length-replicate config.stations false
        ∙ ap (λ (z : Config). z.stations) (sym (stands (λ _. a_frame)).parts.others.config);
    tells = λ s low.
        ap (λ (xs : List Bool). entry xs s) (none_of config.stations c)
        ∙ get_or-replicate config.stations s false false
        (subst (λ (z : Config). s < z.stations) (stands (λ _. a_frame)).parts.others.config low)
        ∙ sym (nobody config c s)
        ∙ sym (ready_same v (opening config) (λ _. a_frame) c s (stands (λ _. a_frame)).parts);
  });
}
