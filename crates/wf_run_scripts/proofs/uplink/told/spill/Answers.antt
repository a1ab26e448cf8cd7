-- Proves that the text so far is unchanged when the buffer is written and emptied.
use Rattle.std.proofs.Common.{sym, subst}
use Rattle.wf_run_scripts.specs.UplinkPieces.{IsBegun}
use Rattle.wf_run_scripts.proofs.UplinkWriting.{begun_emptied}
use Rattle.wf_run_scripts.proofs.uplink.told.spill.Goals as goal

pub returns-in_ok-write_line-clause-begun : goal.returns-in_ok-write_line-clause-begun
returns-in_ok-write_line-clause-begun g c = λ held text begun.
    subst (λ l. IsBegun held (g.K.Sink.held c.write_line.new.sink) l text) (sym c.clear.ensures)
    (begun_emptied held (g.K.Sink.held c.args.sink.now)
    (g.K.Sink.held c.write_line.new.sink) c.args.line.now text begun c.in_ok-write_line.ensures.written)
