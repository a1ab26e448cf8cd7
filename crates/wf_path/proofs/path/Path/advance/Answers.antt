-- Proves what `Path::advance` promises from the clauses of `Transmit::advance`: the path differs from before
-- only in its half.
use Rattle.std.proofs.Common.{subst, ℕ}
use Rattle.std.specs.Prelude.{OnOk}
use Rattle.wf_frame.specs.Frames.{FrameValue}
use Rattle.wf_def_world.specs.World.{World}
use Rattle.wf_send_half.specs.Clock.{at_time}
use Rattle.wf_send_half_model.specs.Half.{TransmitValue}
use Rattle.wf_send_half_model.specs.Standing.{StandsFor}
use Rattle.wf_path.proofs.Advancing.{small_after, kept_after}
use Rattle.wf_path.proofs.Values.{half_is}
use Rattle.wf_path.proofs.path.Path.advance.Goals as goal

pub returns-clause-stands : goal.returns-clause-stands
returns-clause-stands c = subst (λ (v : TransmitValue). OnOk c.advance.result
    ((w : World) (bodies : ℕ → FrameValue) → StandsFor v w bodies →
    StandsFor c.advance.new.self (at_time w c.args.now) bodies)) (half_is c.self.view_is)
    c.advance.ensures.stands

pub returns-clause-refused : goal.returns-clause-refused
returns-clause-refused c = kept_after c.self.inside.half c.advance.new.self c.self.inside.addresses
    c.args.self.now c.self.view_is c.args.now c.advance.result c.advance.ensures.refused

pub returns-clause-small : goal.returns-clause-small
returns-clause-small c = small_after c.self.inside.half c.advance.new.self c.self.inside.addresses
    c.args.self.now c.self.view_is c.args.now c.advance.result c.advance.ensures.fault c.advance.ensures.moved
    c.advance.ensures.refused
