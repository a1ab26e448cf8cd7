-- Proves that a new engine represents the opening world, and which id a transmission has.
use Rattle.std.proofs.Common.{◌≡◌, ap, sym, ◌∙◌, subst, ℕ, ◌<◌, List, [], Option}
use Rattle.std.specs.Prelude.{option_map, unwrap_or}
use Rattle.wf_frame.specs.Frames.{FrameValue, new_frame}
use Rattle.wf_frame.specs.declared.settings.Config.{Config}
use Rattle.wf_def_world.specs.World.{Mpdu, Exchange, Content, Frames, Request, opening}
use Rattle.wf_def_world.specs.Exchanges.{transmissions}
use Rattle.wf_recv_marks.specs.declared.marks.Mark.{Mark}
use Rattle.wf_recv_peer.specs.Agreements.{PeerValue}
use Rattle.wf_send_half_model.specs.Half.{TransmitValue}
use Rattle.wf_send_half_model.specs.Standing.{StandsFor}
use Rattle.wf_path.specs.Transmissions.{transmission_id}
use Rattle.wf_cell_model.specs.Arriving.{CarriesId}
use Rattle.wf_cell_model.specs.Hearing.{AreNew, Hears}
use Rattle.wf_cell.specs.Engines.{EngineIsIn}
use Rattle.wf_cell.proofs.Written.{in_list}
use Rattle.wf_cell_model.proofs.Keeping.{new_hears}

pub no_frames : ℕ → FrameValue
no_frames id = new_frame 0 0 0 []

-- a new engine represents the opening world
pub new_engine : (v : TransmitValue) (c : Config) (peers : List PeerValue) (marks : List Mark)
    (bodies : ℕ → FrameValue) → AreNew c.stations peers → marks ≡ [] → StandsFor v (opening c) bodies →
    EngineIsIn (record { half = v; peers = peers; marks = marks }) (opening c) bodies
new_engine v c peers marks bodies new none stands = record {
  half = stands;
  hears = subst (λ (ms : List Mark). Hears peers ms (opening c)) (sym none) (new_hears c peers new);
}

-- ---- the id of a transmission

pub carries : (x : Exchange) (k id : ℕ) → id ≡ unwrap_or (transmission_id x k) 0 →
    k < transmissions x.content → CarriesId id k x.content
carries x k id is below = of x.content is below
  where
    of : (content : Content) → id ≡ unwrap_or (transmission_id (record x { content = content }) k) 0 →
        k < transmissions content → CarriesId id k content
    of (Frames mpdus) e few = e ∙ ap (λ (o : Option Mpdu). unwrap_or (option_map (λ m. m.id) o) 0)
        (in_list mpdus k few)
    of (Request start) e few = tt
