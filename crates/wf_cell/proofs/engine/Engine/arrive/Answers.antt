-- Proves the effect of an Arrive on an engine. By cases of its refusal.
use Rattle.std.proofs.Common.{sym}
use Rattle.wf_cell.proofs.Exchanges.{arrive_refused}
use Rattle.wf_cell.proofs.engine.Engine.arrive.Goals as goal

pub returns-in-Err-clause-meets : goal.returns-in-Err-clause-meets
returns-in-Err-clause-meets c = λ w bodies i.
    arrive_refused c.args.self.now w bodies c.args.exchange c.args.index i
    c.in-Err.reason (c.in-Err.ensures.refused w bodies i)

pub pass_on-requires : goal.pass_on-requires
pass_on-requires c = record {
  world = c.requires.world;
  bodies = c.requires.bodies;
  is_in = c.requires.is_in;
  arrives = sym (c.in-Ok.ensures.refused c.requires.world c.requires.bodies c.requires.is_in);
  told = c.in-Ok.ensures.sent;
}
