-- Proves what `Held::advance` promises from the clauses of `Path::advance`. By cases of its result.
use Rattle.wf_c.proofs.Advancing.{advanced, refused}
use Rattle.wf_c.proofs.held.Held.advance.Goals as goal

pub returns-in-Ok : goal.returns-in-Ok
returns-in-Ok c = advanced c.args.self.now c.advance.new.self c.args.now c.of.result
    c.advance.ensures.addresses c.advance.ensures.path
    c.in-Ok.time c.in-Ok.ensures.fault c.in-Ok.ensures.time c.in-Ok.ensures.stands
    c.of.ensures

pub returns-in-Err : goal.returns-in-Err
returns-in-Err c = refused c.args.self.now c.advance.new.self c.args.now c.of-in-Err.result
    c.advance.ensures.addresses c.advance.ensures.path
    c.in-Err.reason c.in-Err.ensures.fault c.in-Err.ensures.refused c.of-in-Err.ensures
