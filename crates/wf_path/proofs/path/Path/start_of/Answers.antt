-- Proves what `Path::start_of` promises: the number of a live station is within the settings, and the window
-- of its TID represents the world's session.
use Rattle.std.proofs.Common.{sym, subst}
use Rattle.wf_def_world.specs.World.{session}
use Rattle.wf_send_parts.specs.Window.{WindowValue, WindowStandsFor}
use Rattle.wf_send_half.specs.Half.{IsLive}
use Rattle.wf_send_half_model.specs.Half.{TransmitValue}
use Rattle.wf_send_half_model.specs.Standing.{StandsFor}
use Rattle.wf_path.proofs.ToSend.{live_in, live_within}
use Rattle.wf_path.proofs.Values.{half_is}
use Rattle.wf_path.proofs.path.Path.start_of.Goals as goal

pub window-requires-clause-within : goal.window-requires-clause-within
window-requires-clause-within c = live_within c.self.inside.half c.args.station
    (subst (λ (v : TransmitValue). IsLive v c.args.station) (sym (half_is c.self.view_is)) c.requires.live)
    c.self.invariant

pub returns : goal.returns
returns c w bodies h =
    let v : TransmitValue = c.self.inside.half in
    let stands : StandsFor v w bodies = subst (λ (u : TransmitValue). StandsFor u w bodies)
    (sym (half_is c.self.view_is)) h in
    let live : IsLive v c.args.station =
    subst (λ (u : TransmitValue). IsLive u c.args.station) (sym (half_is c.self.view_is)) c.requires.live in
    c.start.ensures.number (session w c.args.station c.args.tid) bodies
    (subst (λ (z : WindowValue). WindowStandsFor z (session w c.args.station c.args.tid) bodies)
    (sym c.window.ensures)
    (stands.parts.windows.all.stands c.args.station c.args.tid
    (live_in v c.args.station live w bodies stands) c.requires.tid))
