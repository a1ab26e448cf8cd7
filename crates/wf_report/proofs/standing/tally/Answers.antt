-- Proves that each count of the path equals the count in the world.
use Rattle.std.proofs.Common.{ap}
use Rattle.wf_send_parts.specs.Tally.{Counts}
use Rattle.wf_def_world.specs.Run.{world_of}
use Rattle.wf_report.proofs.Counted.{held_is}
use Rattle.wf_report.proofs.standing.tally.Goals as goal

pub returns-clause-accepted : goal.returns-clause-accepted
returns-clause-accepted c =
    let stands = c.path.ensures.stands in
    ap (λ (t : Counts). t.accepted) (c.tally.ensures.world (world_of c.args.cell.now.past) stands.0
    (rw (c.path.ensures.value) stands.1))

pub returns-clause-acked : goal.returns-clause-acked
returns-clause-acked c =
    let stands = c.path.ensures.stands in
    ap (λ (t : Counts). t.acked) (c.tally.ensures.world (world_of c.args.cell.now.past) stands.0
    (rw (c.path.ensures.value) stands.1))

pub returns-clause-overlimit : goal.returns-clause-overlimit
returns-clause-overlimit c =
    let stands = c.path.ensures.stands in
    ap (λ (t : Counts). t.overlimit) (c.tally.ensures.world (world_of c.args.cell.now.past) stands.0
    (rw (c.path.ensures.value) stands.1))

pub returns-clause-codel : goal.returns-clause-codel
returns-clause-codel c =
    let stands = c.path.ensures.stands in
    ap (λ (t : Counts). t.codel) (c.tally.ensures.world (world_of c.args.cell.now.past) stands.0
    (rw (c.path.ensures.value) stands.1))

pub returns-clause-retries : goal.returns-clause-retries
returns-clause-retries c =
    let stands = c.path.ensures.stands in
    ap (λ (t : Counts). t.retries) (c.tally.ensures.world (world_of c.args.cell.now.past) stands.0
    (rw (c.path.ensures.value) stands.1))

pub returns-clause-left : goal.returns-clause-left
returns-clause-left c =
    let stands = c.path.ensures.stands in
    ap (λ (t : Counts). t.left) (c.tally.ensures.world (world_of c.args.cell.now.past) stands.0
    (rw (c.path.ensures.value) stands.1))

pub returns-clause-flushed : goal.returns-clause-flushed
returns-clause-flushed c =
    let stands = c.path.ensures.stands in
    ap (λ (t : Counts). t.flushed) (c.tally.ensures.world (world_of c.args.cell.now.past) stands.0
    (rw (c.path.ensures.value) stands.1))

pub returns-clause-ended : goal.returns-clause-ended
returns-clause-ended c =
    let stands = c.path.ensures.stands in
    ap (λ (t : Counts). t.ended) (c.tally.ensures.world (world_of c.args.cell.now.past) stands.0
    (rw (c.path.ensures.value) stands.1))

pub returns-clause-held : goal.returns-clause-held
returns-clause-held c =
    let stands = c.path.ensures.stands in
    held_is (world_of c.args.cell.now.past) _ (c.tally.ensures.world (world_of c.args.cell.now.past) stands.0
    (rw (c.path.ensures.value) stands.1))
