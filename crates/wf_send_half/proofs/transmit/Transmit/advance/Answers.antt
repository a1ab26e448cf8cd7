-- Proves what `Transmit::advance` promises: a later time changes no flag, and the half at this time
-- represents the world at this time.
use Rattle.std.proofs.Common.{subst, ℕ}
use Rattle.std.specs.Prelude.{OnOk}
use Rattle.wf_frame.specs.Frames.{FrameValue}
use Rattle.wf_def_world.specs.World.{World}
use Rattle.wf_send_half.specs.Clock.{at_time}
use Rattle.wf_send_half_model.specs.Half.{TransmitValue}
use Rattle.wf_send_half_model.specs.Standing.{StandsFor}
use Rattle.wf_send_half.proofs.Times.{stands_after, tracked_after}
use Rattle.wf_send_half.proofs.transmit.Transmit.advance.Goals as goal

pub invariant_of-self : goal.invariant_of-self
invariant_of-self c = tracked_after c.self.inside.half c.advance.new.self c.args.now c.self.inside.ready
    c.advance.result c.advance.ensures.later c.advance.ensures.moved c.advance.ensures.refused
    c.self.invariant

pub returns-clause-stands : goal.returns-clause-stands
returns-clause-stands c = subst (λ (v : TransmitValue). OnOk c.advance.result ((w : World)
    (bodies : ℕ → FrameValue) → StandsFor v w bodies → StandsFor c.advance.new.self
    (at_time w c.args.now) bodies))
    c.self.view_is (stands_after c.self.inside.half c.advance.new.self c.args.now c.advance.result
    c.advance.ensures.later c.advance.ensures.moved)

pub returns-clause-unheard : goal.returns-clause-unheard
returns-clause-unheard c = (tracked_after c.self.inside.half c.advance.new.self c.args.now c.self.inside.ready
    c.advance.result c.advance.ensures.later c.advance.ensures.moved c.advance.ensures.refused
    c.self.invariant).some
