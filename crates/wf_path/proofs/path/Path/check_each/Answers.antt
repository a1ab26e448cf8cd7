-- Proves what `Path::check_each` promises. By cases: the exchange is not open, it does not end so, or it
-- does.
use Rattle.std.proofs.Common.{◌∙◌}
use Rattle.wf_path.proofs.Ending.{narrow, unknown_each, fault_same, heard_same, long_each}
use Rattle.wf_path.proofs.path.Path.check_each.Goals as goal

pub returns-in_default-clause-refused : goal.returns-in_default-clause-refused
returns-in_default-clause-refused c =
    unknown_each c.self.view_is c.args.exchange c.args.outcomes.now c.args.air c.in_default.ensures

pub returns-in-Some-fault_of-clause-refused : goal.returns-in-Some-fault_of-clause-refused
returns-in-Some-fault_of-clause-refused c = c.in-Some-fault_of.ensures
    ∙ fault_same c.self.view_is c.args.exchange c.args.outcomes.now c.args.air c.in-Some.open.now
    c.in-Some.ensures c.config.result c.config.ensures.value

pub heard_of-requires : goal.heard_of-requires
heard_of-requires c = record {
  long = long_each c.config.result c.args.outcomes.now c.args.air c.in-Some.open.now c.in-None.ensures;
  near = narrow c.self.inside.half c.self.invariant c.args.exchange c.in-Some.open.now c.in-Some.ensures;
}

pub returns-in-None-clause-refused : goal.returns-in-None-clause-refused
returns-in-None-clause-refused c = c.in-None.ensures
    ∙ fault_same c.self.view_is c.args.exchange c.args.outcomes.now c.args.air c.in-Some.open.now
    c.in-Some.ensures c.config.result c.config.ensures.value

pub returns-in-None-clause-heard : goal.returns-in-None-clause-heard
returns-in-None-clause-heard c = heard_same c.self.view_is c.args.exchange c.args.outcomes.now c.args.air
    c.in-Some.open.now c.in-Some.ensures _ c.heard_of.ensures
