-- Proves by which BlockAck a batch ends.
use Rattle.std.proofs.Common.{◌∙◌, ap, sym, Bool}
use Rattle.std.specs.Prelude.{◌==◌, find}
use Rattle.wf_path.specs.Heard.{shown_at}
use Rattle.wf_cell.specs.Engines.{EngineValue, heard_by}
use Rattle.wf_cell.proofs.engine.Engine.heard_of.Goals as goal

pub returns-then-batch : goal.returns-then-batch
returns-then-batch c =
    let m = c.args.mark.now in
    c.shown_at.ensures
    ∙ ap (λ (u : EngineValue). shown_at (find (λ x. x.number == m.number) u.half.opened) m.arrived)
    c.self.view_is
    ∙ ap (λ (b : Bool). heard_by c.args.self.now.half m b c.args.heard) (sym c.if-batch.true)
