-- Proves that the path's clock equals the clock of the world after the history, and its bound, from
-- the history's length.
use Rattle.std.proofs.Common.{◌≤◌, length, arith}
use Rattle.wf_def_world.specs.Run.{world_of}
use Rattle.wf_cell.proofs.Runs.{clock_small}
use Rattle.wf_cell.proofs.cell.Cell.clock.Goals as goal

pub returns-clause-value : goal.returns-clause-value
returns-clause-value c =
    let stands = c.path.ensures.stands in
    c.now.ensures.world (world_of c.args.self.now.past) stands.0 (rw (c.path.ensures.value) stands.1)

pub returns-clause-small : goal.returns-clause-small
returns-clause-small c =
    let stands = c.path.ensures.stands in
    let value = c.now.ensures.world (world_of c.args.self.now.past) stands.0
    (rw (c.path.ensures.value) stands.1) in
    let few : length c.args.self.now.past.history ≤ c.args.self.now.past.config.calls =
    omega (arith, c.len-calls.ensures.count, c.len-calls.ensures.most) in
    omega (arith, value, clock_small c.args.self.now.half c.args.self.now.past stands.0 stands.1 few)
