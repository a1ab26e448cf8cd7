-- Proves that a record's call says of its cell what the cell's call says.
use Rattle.std.proofs.Common.{IfSome, Some, ◌≡◌, ap, sym, ◌∙◌, subst, ℕ, ◌<◌}
use Rattle.wf_frame.specs.Answers.{reply_of}
use Rattle.wf_frame.specs.Frames.{FrameValue}
use Rattle.wf_def_world.specs.Run.{world_of}
use Rattle.wf_send_half_model.specs.Half.{body_of}
use Rattle.wf_send_half_model.specs.Standing.{StandsFor}
use Rattle.wf_path.specs.Jobs.{bodies_after}
use Rattle.wf_cell.specs.Bodies.{body_after}
use Rattle.wf_cell.specs.Cells.{CellValue, calls_left_in}
use Rattle.wf_cell.proofs.record.record.Record.step.Goals.{then-calls_left-gt0, else-calls_left-gt0}
use Rattle.wf_cell.proofs.record.record.Record.step.Goals as goal

pub returns-clause-stands : goal.returns-clause-stands
returns-clause-stands c =
    let kept : c.if-calls_left-gt0.self-inside.cell ≡ c.args.self.now = elim c.if-calls_left-gt0.branch [
      | then-calls_left-gt0 w ↦ ap (λ r. r.cell) w.self-inside-is ∙ c.self.view_is
      | else-calls_left-gt0 w ↦ ap (λ r. r.cell) w.self-inside-is ∙ c.self.view_is
    ] in
    subst (λ (u : CellValue). 0 < calls_left_in u.past → (bodies : ℕ → FrameValue) →
    StandsFor u.half (world_of u.past) bodies → StandsFor c.step.new.self.half (world_of c.step.new.self.past)
    (bodies_after u.half (world_of u.past) c.args.job (reply_of c.step.new.answer) bodies)) kept
    c.step.ensures.stands

pub returns-clause-bodies : goal.returns-clause-bodies
returns-clause-bodies c =
    let kept : c.if-calls_left-gt0.self-inside.cell ≡ c.args.self.now = elim c.if-calls_left-gt0.branch [
      | then-calls_left-gt0 w ↦ ap (λ r. r.cell) w.self-inside-is ∙ c.self.view_is
      | else-calls_left-gt0 w ↦ ap (λ r. r.cell) w.self-inside-is ∙ c.self.view_is
    ] in
    subst (λ (u : CellValue). 0 < calls_left_in u.past → (id : ℕ) →
    body_of c.step.new.self.half id ≡ body_after u.half (reply_of c.step.new.answer) c.args.job id) kept
    c.step.ensures.bodies

pub returns-clause-reaped : goal.returns-clause-reaped
returns-clause-reaped c = λ some id fate told.
    let kept : c.if-calls_left-gt0.self-inside.cell ≡ c.args.self.now = elim c.if-calls_left-gt0.branch [
      | then-calls_left-gt0 w ↦ ap (λ r. r.cell) w.self-inside-is ∙ c.self.view_is
      | else-calls_left-gt0 w ↦ ap (λ r. r.cell) w.self-inside-is ∙ c.self.view_is
    ] in
    subst (λ (u : CellValue). IfSome c.step.result (λ f. body_of u.half id ≡ Some f.body)) kept
    (c.step.ensures.reaped (subst (λ (u : CellValue). 0 < calls_left_in u.past) (sym kept) some) id fate told)
