-- Proves that the summary of the cell is the summary of its history.
use Rattle.std.proofs.Common.{◌≡◌, OnOk, subst}
use Rattle.std.specs.Io.KnownBytes.{append_known}
use Rattle.wf_io.specs.Fronts.{HoldsFront}
use Rattle.wf_run_replay.proofs.Texts.{closing_is}
use Rattle.wf_run_replay.proofs.answers.close.Goals as goal

pub returns-in-Some-clause-written : goal.returns-in-Some-clause-written
returns-in-Some-clause-written g c =
    subst (λ l. OnOk c.summary.result (g.K.Sink.held c.summary.new.sink
    ≡ append_known (g.K.Sink.held c.args.sink.now) l))
    (closing_is g.M.Plays.past _ _ _ c.in-Some.is c.cell.ensures.past) c.summary.ensures.written

pub returns-in-Some-clause-front : goal.returns-in-Some-clause-front
returns-in-Some-clause-front g c =
    subst (λ l. HoldsFront (g.K.Sink.held c.args.sink.now) (g.K.Sink.held c.summary.new.sink) l)
    (closing_is g.M.Plays.past _ _ _ c.in-Some.is c.cell.ensures.past) c.summary.ensures.front
