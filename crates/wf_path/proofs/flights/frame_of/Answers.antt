-- Proves what `frame_of` promises: a number in flight has its frame in the window of its TID, and this frame
-- is the transmission's.
use Rattle.std.proofs.Common.{◌≡◌, sym, ap, ◌∙◌, subst, true}
use Rattle.wf_send_parts.specs.Window.{WindowValue, WindowStandsFor, state_at, holds_parcel}
use Rattle.wf_def_world.specs.World.{session}
use Rattle.wf_path.proofs.Flying.{window_stands, is_number, carried, some_within, some_low, some_held}
use Rattle.wf_path.proofs.flights.frame_of.Goals as goal

pub window-requires-clause-within : goal.window-requires-clause-within
window-requires-clause-within c = some_within c.args.half.now c.args.open.now c.args.index c.args.seq
    c.requires

pub window-requires-clause-tid : goal.window-requires-clause-tid
window-requires-clause-tid c = some_low c.args.half.now c.args.open.now c.args.index c.args.seq c.requires

pub frame-requires : goal.frame-requires
frame-requires c = subst (λ (z : WindowValue). holds_parcel (state_at z c.args.seq) ≡ true)
    (sym c.window.ensures) (some_held c.args.half.now c.args.open.now c.args.index c.args.seq c.requires)

pub returns : goal.returns
returns c w bodies x m f =
    c.frame.ensures (session w x.station x.tid) bodies m.number
    (subst (λ (z : WindowValue). WindowStandsFor z (session w x.station x.tid) bodies) (sym c.window.ensures)
    (window_stands c.args.half.now c.args.open.now c.args.index w bodies x m f))
    (is_number c.args.half.now c.args.open.now c.args.index w bodies x m f c.args.seq c.requires.carries)
    ∙ ap bodies (carried c.args.half.now c.args.open.now c.args.index w bodies x m f)
