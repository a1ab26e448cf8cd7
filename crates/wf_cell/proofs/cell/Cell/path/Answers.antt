-- Proves which bodies the path has, and the lengths of the history's frames, from the invariant.
use Rattle.std.proofs.Common.{◌≡◌, subst, is_some}
use Rattle.wf_send_half_model.specs.Half.{body_of}
use Rattle.wf_law_runs.specs.Lengths.{HasLengths}
use Rattle.wf_def_world.specs.Run.{Past, world_of}
use Rattle.wf_send_half_model.specs.Inside.{is_inside}
use Rattle.wf_cell.specs.Engines.{EngineValue}
use Rattle.wf_cell.specs.Cells.{CellValue}
use Rattle.wf_cell.proofs.Bodies.{ids_inside}
use Rattle.wf_cell.proofs.cell.Cell.path.Goals as goal

pub returns-clause-inside : goal.returns-clause-inside
returns-clause-inside c = λ id.
    let engine : EngineValue = c.self.inside.engine in
    let p : Past = record { config = engine.half.config; history = c.self.inside.past } in
    subst (λ (u : CellValue). is_some (body_of u.half id) ≡ is_inside (world_of u.past) id) c.self.view_is
    (ids_inside engine.half (world_of p) c.self.invariant.bodies c.self.invariant.is_in.half id)

pub returns-clause-lengths : goal.returns-clause-lengths
returns-clause-lengths c =
    subst (λ (u : CellValue). HasLengths u.past.history) c.self.view_is c.self.invariant.lengths
