-- Proves that the summary of the cell is the summary of the record's history.
use Rattle.std.proofs.Common.{◌≡◌, OnOk, subst, length}
use Rattle.std.specs.Io.KnownBytes.{append_known}
use Rattle.wf_io.specs.Fronts.{HoldsFront}
use Rattle.wf_def_world.specs.Run.{world_of}
use Rattle.wf_def_world.specs.Text.{summary as summary_of}
use Rattle.wf_cell.specs.Cells.{CellValue}
use Rattle.wf_run_histories.proofs.live.history.write_summary.Goals as goal

pub returns-clause-written : goal.returns-clause-written
returns-clause-written g c =
    subst (λ (v : CellValue). OnOk c.summary.result (g.K.Sink.held c.summary.new.sink
    ≡ append_known (g.K.Sink.held c.args.sink.now) (summary_of (world_of v.past) (length v.past.history))))
    c.cell.ensures c.summary.ensures.written

pub returns-clause-front : goal.returns-clause-front
returns-clause-front g c =
    subst (λ (v : CellValue). HoldsFront (g.K.Sink.held c.args.sink.now) (g.K.Sink.held c.summary.new.sink)
    (summary_of (world_of v.past) (length v.past.history))) c.cell.ensures c.summary.ensures.front
