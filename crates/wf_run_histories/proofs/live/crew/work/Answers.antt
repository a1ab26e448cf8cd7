-- Proves that the seats are returned in their order with their work done, from the result of each worker.
use Rattle.std.proofs.Common.{◌-◌, rules}
use Rattle.wf_run_histories.proofs.Workers.{all_ready, all_new, if_ok, back_places, back_own, back_all, back_worked}
use Rattle.wf_run_histories.proofs.live.crew.work.Goals as goal

pub run_all-requires-clause-ready : goal.run_all-requires-clause-ready
run_all-requires-clause-ready g c κs within =
    all_ready c.args.gate.now c.args.frames c.args.seats.items c.requires.seats c.requires.count
    (c.len.result - 4) (search rules) c.requires.least c.requires.most c.requires.quotas

pub returns-clause-places : goal.returns-clause-places
returns-clause-places g c =
    if_ok c.all_of.result c.all_of.ensures
    (λ back whole. back_places c.args.gate.now c.args.seed _ c.args.frames c.args.seats.items back.items
    c.in_ok-back.back.items whole c.in_ok-back.ensures.count c.in_ok-back.ensures.each)

pub returns-clause-own : goal.returns-clause-own
returns-clause-own g c =
    if_ok c.all_of.result c.all_of.ensures
    (λ back whole. back_own c.args.gate.now c.args.seed _ c.args.frames c.args.seats.items back.items
    c.in_ok-back.back.items whole c.in_ok-back.ensures.count c.in_ok-back.ensures.each)

pub returns-clause-all : goal.returns-clause-all
returns-clause-all g c =
    if_ok c.all_of.result c.all_of.ensures
    (λ back whole. back_all c.args.gate.now c.args.seed _ c.args.frames c.args.seats.items back.items
    c.in_ok-back.back.items whole c.in_ok-back.ensures.count c.in_ok-back.ensures.each
    (all_new c.args.gate.now c.args.frames c.args.seats.items c.requires.seats c.requires.count))

pub returns-clause-worked : goal.returns-clause-worked
returns-clause-worked g c =
    if_ok c.all_of.result c.all_of.ensures
    (λ back whole. back_worked c.args.gate.now c.args.seed _ c.args.frames c.args.seats.items back.items
    c.in_ok-back.back.items whole c.in_ok-back.ensures.count c.in_ok-back.ensures.each _ (search rules))
