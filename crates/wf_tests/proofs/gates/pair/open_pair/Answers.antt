-- Proves that the seats of a new gate with two quotas are a pair.
use Rattle.std.proofs.Common.{rules, ◌≡◌, ap, length}
use Rattle.wf_gate.proofs.Clients.{pair_new}
use Rattle.wf_tests.proofs.gates.pair.open_pair.Goals as goal

pub returns : goal.returns
returns g c =
    let new = c.in_ok-gate.ensures in
    let two : length c.args.quotas ≡ 2 = search rules in
    pair_new c.in_ok-gate.gate c.args.quotas _ _ _ _ _
    (ap (λ o. o.quotas) new.opening) two new.count new.seats c.in-Some-Some.ensures.items
    c.in-Some-Some.ensures'.items
