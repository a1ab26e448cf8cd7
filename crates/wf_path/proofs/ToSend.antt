-- Proves that the number of a live station is below the setting `stations`.
use Rattle.std.proofs.Common.{◌≡◌, ap, sym, ◌∙◌, arith, ℕ, ◌<◌, true}
use Rattle.wf_frame.specs.Frames.{FrameValue}
use Rattle.wf_frame.specs.declared.settings.Config.{Config}
use Rattle.wf_def_world.specs.World.{World, is_live}
use Rattle.wf_send_half.specs.Half.{IsLive}
use Rattle.wf_send_half_model.specs.Half.{TransmitValue}
use Rattle.wf_send_half_model.specs.Standing.{StandsFor}
use Rattle.wf_send_half_model.proofs.Readers.{live_same}
use Rattle.wf_path.specs.Paths.{IsPath}

-- the number of a station that is live in the world is below the setting
live_low : (v : TransmitValue) (w : World) (bodies : ℕ → FrameValue) → StandsFor v w bodies → (s : ℕ) →
    is_live w s ≡ true → s < v.config.stations
live_low v w bodies h s live = omega (
  arith,
  h.parts.others.turns.live s live,
  ap (λ (k : Config). k.stations) h.parts.others.config,
)

module _ (v : TransmitValue) (s : ℕ) (live : IsLive v s) where
  pub live_in : (w : World) (bodies : ℕ → FrameValue) → StandsFor v w bodies → is_live w s ≡ true
  live_in w bodies h = sym (live_same v w bodies s h.parts) ∙ live

  pub live_within : IsPath v → s < v.config.stations
  live_within p = live_low v p.world p.bodies p.stands s (live_in p.world p.bodies p.stands)
