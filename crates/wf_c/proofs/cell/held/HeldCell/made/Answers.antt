-- Proves that a new record in its block has no past and represents the opening world, as the record does
-- before it is boxed.
use Rattle.std.proofs.Common.{◌≡◌, ℕ, []}
use Rattle.wf_frame.specs.Frames.{FrameValue}
use Rattle.wf_def_world.specs.World.{opening}
use Rattle.wf_cell.specs.Cells.{CellValue}
use Rattle.wf_send_half_model.specs.Standing.{StandsFor}
use Rattle.wf_c.proofs.Makings.{true_of_boxed}
use Rattle.wf_c.proofs.cell.held.HeldCell.made.Goals as goal

pub returns-in-Ok-clause-past : goal.returns-in-Ok-clause-past
returns-in-Ok-clause-past c =
    true_of_boxed (λ b. b.value.cell) (λ (v : CellValue). v.past
    ≡ record { config = c.args.config; history = [] }) c.in-Ok.cell c.boxed.result c.boxed.ensures
    c.in-Ok.ensures.past

pub returns-in-Ok-clause-stands : goal.returns-in-Ok-clause-stands
returns-in-Ok-clause-stands c =
    true_of_boxed (λ b. b.value.cell) (λ (v : CellValue). (bodies : ℕ → FrameValue) →
    StandsFor v.half (opening c.args.config) bodies) c.in-Ok.cell c.boxed.result c.boxed.ensures
    c.in-Ok.ensures.stands
