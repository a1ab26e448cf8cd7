-- Proves that a new path in its block represents the opening world, as the path does before it is boxed.
use Rattle.std.proofs.Common.{ℕ}
use Rattle.wf_frame.specs.Frames.{FrameValue}
use Rattle.wf_def_world.specs.World.{opening}
use Rattle.wf_send_half_model.specs.Standing.{StandsFor}
use Rattle.wf_path.specs.Paths.{PathValue}
use Rattle.wf_c.proofs.Makings.{true_of_boxed}
use Rattle.wf_c.proofs.held.Held.made.Goals as goal

pub returns-in-Ok-clause-stands : goal.returns-in-Ok-clause-stands
returns-in-Ok-clause-stands c =
    true_of_boxed (λ b. b.value.path) (λ (p : PathValue). (bodies : ℕ → FrameValue) →
    StandsFor p.half (opening c.args.config) bodies) c.in-Ok.path c.boxed.result c.boxed.ensures.path
    c.in-Ok.ensures.stands
