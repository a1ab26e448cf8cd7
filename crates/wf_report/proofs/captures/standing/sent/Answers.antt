-- Proves that the path returns the exchange of the world, and that its TID is at most 7.
use Rattle.wf_def_world.specs.Run.{world_of}
use Rattle.wf_report.proofs.Cells.{told_low}
use Rattle.wf_report.proofs.captures.standing.sent.Goals as goal

pub returns-clause-told : goal.returns-clause-told
returns-clause-told c =
    let stands = c.path.ensures.stands in
    c.sent.ensures (world_of c.args.cell.now.past) stands.0 (rw (c.path.ensures.value) stands.1)

pub returns-clause-tid : goal.returns-clause-tid
returns-clause-tid c =
    let stands = c.path.ensures.stands in
    told_low (world_of c.args.cell.now.past) c.args.exchange stands.1.reached c.sent.result
    (c.sent.ensures (world_of c.args.cell.now.past) stands.0 (rw (c.path.ensures.value) stands.1))
