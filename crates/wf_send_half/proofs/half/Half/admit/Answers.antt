-- Proves what `Half::admit` promises from what each part does.
use Rattle.std.proofs.Common.{sym, subst}
use Rattle.wf_sched.specs.ClassRotas.{IsNowhere}
use Rattle.wf_send_half_model.specs.Half.{TransmitValue}
use Rattle.wf_send_half.proofs.CallSteps.{view_of, admitted_is}
use Rattle.wf_send_half.proofs.half.Half.admit.Goals as goal

pub returns : goal.returns
returns c =
    admitted_is c.args.self.now (view_of c.self.inside) c.self.view_is c.args.station c.args.exponent
    c.args.weight c.args.offloaded c.join.new.self c.join-2.new.self c.reset.new.self c.list.new.self
    c.join.ensures c.join-2.ensures c.reset.ensures c.list.ensures

pub join-requires-clause-unlisted : goal.join-requires-clause-unlisted
join-requires-clause-unlisted c = subst (λ (v : TransmitValue). IsNowhere v.sched c.args.station)
    (sym c.self.view_is) c.requires.unlisted
